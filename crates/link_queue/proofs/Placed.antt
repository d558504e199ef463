-- Where the one message of a kind is, over all links: on one of them, or nowhere.
use Rattle.std.proofs.Common.{◌≡◌, ℕ, Bool, true, false, cond, List, [], ◌∷◌, ◌++◌, drop, take, Option, None, Some, filter, refl, sym, ◌∙◌, ap, subst}
use Rattle.std.proofs.lemmas.List.{append-nil, take-append-drop}
use Rattle.std.proofs.lemmas.List.Elements.{filter-append}
use Rattle.link_queue.specs.Links.{Links, same_link, on_link, sent, without_first, cut_short}
use Rattle.link_queue.proofs.Wires.{same_names, same_itself, on_link-sent, on_link-taken, on_link-cut}

-- a message on its way, and between whom
pub record Carried (M : Type 0) : Type 0 where
  pub from : List ℕ
  pub to : List ℕ
  pub message : M

-- what of it is on this link
abbrev pub on_this : {M : Type 0} → List ℕ → List ℕ → Option (Carried M) → List M
on_this a b None = []
on_this a b (Some it) = cond (same_link a b it.from it.to) (it.message ∷ []) []

-- of the kind just this is on its way, over all links
abbrev pub IsFound : {M : Type 0} → (M → Bool) → Links M → Option (Carried M) → Type 0
IsFound is links found = (a b : List ℕ) → filter is (on_link links a b) ≡ on_this a b found

alike : {T : Type 0} (same : Bool) (list : List T) → cond same list list ≡ list
alike true list = refl
alike false list = refl

-- a message is sent

sent_by : {M : Type 0} (is : M → Bool) (message : M) (own same : Bool) → is message ≡ own
    → filter is (cond same (message ∷ []) []) ≡ cond same (cond own (message ∷ []) []) []
sent_by is message own true e = ap (λ b. cond b (message ∷ []) []) e
sent_by is message own false e = refl

found_sent : {M : Type 0} (is : M → Bool) (links : Links M) (f t a b : List ℕ) (message : M) (own : Bool) → is message ≡ own
    → filter is (on_link (sent links f t message) a b)
    ≡ filter is (on_link links a b) ++ cond (same_link a b f t) (cond own (message ∷ []) []) []
found_sent is links f t a b message own e =
    ap (filter is) (on_link-sent links f t a b message) ∙ filter-append is (on_link links a b) (cond (same_link a b f t) (message ∷ []) [])
    ∙ ap (λ l. filter is (on_link links a b) ++ l) (sent_by is message own (same_link a b f t) e)

-- one of another kind leaves it
pub another_sent : {M : Type 0} (is : M → Bool) (links : Links M) (f t : List ℕ) (message : M) (found : Option (Carried M)) → is message ≡ false
    → IsFound is links found → IsFound is (sent links f t message) found
another_sent is links f t message found other placed = λ a b.
    found_sent is links f t a b message false other
    ∙ ap (λ l. filter is (on_link links a b) ++ l) (alike (same_link a b f t) []) ∙ append-nil (filter is (on_link links a b)) ∙ placed a b

-- one of the kind is then it, where there was none
pub own_sent : {M : Type 0} (is : M → Bool) (links : Links M) (f t : List ℕ) (message : M) → is message ≡ true
    → IsFound is links None → IsFound is (sent links f t message) (Some (record { from = f; to = t; message = message }))
own_sent is links f t message own none = λ a b.
    found_sent is links f t a b message true own ∙ ap (λ l. l ++ cond (same_link a b f t) (message ∷ []) []) (none a b)

-- the first message of a link is taken

first_of : {M : Type 0} (is : M → Bool) (queue rest : List M) (message : M) (own : Bool) → queue ≡ message ∷ rest → is message ≡ own
    → filter is queue ≡ cond own (message ∷ []) [] ++ filter is (drop 1 queue)
first_of is queue rest message true e own = rw (e, own) refl
first_of is queue rest message false e own = rw (e, own) refl

taken_by : {M : Type 0} (is : M → Bool) (links : Links M) (f t a b : List ℕ) (message : M) (rest : List M) (own same : Bool)
    → same_link a b f t ≡ same → on_link links f t ≡ message ∷ rest → is message ≡ own
    → filter is (on_link links a b)
    ≡ cond same (cond own (message ∷ []) []) [] ++ filter is (cond same (drop 1 (on_link links a b)) (on_link links a b))
taken_by is links f t a b message rest own true h e p =
    let at = same_names a b f t h in
    first_of is (on_link links a b) rest message own (ap (λ x. on_link links x b) at.0 ∙ ap (λ x. on_link links f x) at.1 ∙ e) p
taken_by is links f t a b message rest own false h e p = refl

found_taken : {M : Type 0} (is : M → Bool) (links : Links M) (f t a b : List ℕ) (message : M) (rest : List M) (own : Bool)
    → on_link links f t ≡ message ∷ rest → is message ≡ own
    → filter is (on_link links a b)
    ≡ cond (same_link a b f t) (cond own (message ∷ []) []) [] ++ filter is (on_link (without_first links f t) a b)
found_taken is links f t a b message rest own e p =
    taken_by is links f t a b message rest own (same_link a b f t) refl e p
    ∙ ap (λ q. cond (same_link a b f t) (cond own (message ∷ []) []) [] ++ filter is q) (sym (on_link-taken links f t a b))

-- one of another kind leaves it
pub another_taken : {M : Type 0} (is : M → Bool) (links : Links M) (f t : List ℕ) (message : M) (rest : List M) (found : Option (Carried M))
    → on_link links f t ≡ message ∷ rest → is message ≡ false → IsFound is links found → IsFound is (without_first links f t) found
another_taken is links f t message rest found e other placed = λ a b.
    sym (found_taken is links f t a b message rest false e other
    ∙ ap (λ l. l ++ filter is (on_link (without_first links f t) a b)) (alike (same_link a b f t) []))
    ∙ placed a b

-- of a list that begins with a message of the kind
told_by : {M : Type 0} (f t : List ℕ) (message : M) (more : List M) (found : Option (Carried M)) → message ∷ more ≡ on_this f t found
    → found ≡ Some (record { from = f; to = t; message = message })
told_by f t message more None e = cc
told_by f t message more (Some it) e = by (same_link f t it.from it.to) refl e
  where
    by : (same : Bool) → same_link f t it.from it.to ≡ same → message ∷ more ≡ cond same (it.message ∷ []) []
        → Some it ≡ Some (record { from = f; to = t; message = message })
    by true h k =
        let at = same_names f t it.from it.to h in
        let same : it.message ≡ message = cc in
        ap (λ x. Some (record { from = x; to = it.to; message = it.message })) (sym at.0)
        ∙ ap (λ x. Some (record { from = f; to = x; message = it.message })) (sym at.1)
        ∙ ap (λ x. Some (record { from = f; to = t; message = x })) same
    by false h k = cc

none_left : {M : Type 0} (message : M) (left : List M) (same : Bool) → cond same (message ∷ []) [] ++ left ≡ cond same (message ∷ []) [] → left ≡ []
none_left message left true e =
    let whole : message ∷ left ≡ message ∷ [] = e in
    let none : left ≡ [] = cc in
    none
none_left message left false e = e

-- one of the kind is it, and without it there is none
pub own_first : {M : Type 0} (is : M → Bool) (links : Links M) (f t : List ℕ) (message : M) (rest : List M) (found : Option (Carried M))
    → on_link links f t ≡ message ∷ rest → is message ≡ true → IsFound is links found
    → (found ≡ Some (record { from = f; to = t; message = message })) × IsFound is (without_first links f t) None
own_first is links f t message rest found e own placed =
    let told = told_by f t message (filter is (drop 1 (on_link links f t))) found (sym (first_of is (on_link links f t) rest message true e own) ∙ placed f t) in (
      told,
      λ a b. none_left message (filter is (on_link (without_first links f t) a b)) (same_link a b f t)
          (sym (found_taken is links f t a b message rest true e own) ∙ placed a b ∙ ap (on_this a b) told),
    )

-- a link is cut short: what is kept of it, and then one of another kind

kept_by : {M : Type 0} (is : M → Bool) (links : Links M) (f t a b : List ℕ) (keeps : ℕ) (last : M) (same : Bool) → same_link a b f t ≡ same → is last ≡ false
    → filter is (cond same (take keeps (on_link links a b) ++ last ∷ []) (on_link links a b))
    ≡ cond same (filter is (take keeps (on_link links f t))) (filter is (on_link links a b))
kept_by is links f t a b keeps last true h other =
    let at = same_names a b f t h in
    filter-append is (take keeps (on_link links a b)) (last ∷ [])
    ∙ ap (λ c. filter is (take keeps (on_link links a b)) ++ cond c (last ∷ []) []) other
    ∙ append-nil (filter is (take keeps (on_link links a b)))
    ∙ ap (λ x. filter is (take keeps (on_link links x b))) at.0 ∙ ap (λ x. filter is (take keeps (on_link links f x))) at.1
kept_by is links f t a b keeps last false h other = refl

found_cut : {M : Type 0} (is : M → Bool) (links : Links M) (f t a b : List ℕ) (keeps : ℕ) (last : M) → is last ≡ false
    → filter is (on_link (cut_short links f t keeps last) a b)
    ≡ cond (same_link a b f t) (filter is (take keeps (on_link links f t))) (filter is (on_link links a b))
found_cut is links f t a b keeps last other =
    ap (filter is) (on_link-cut links f t a b keeps last) ∙ kept_by is links f t a b keeps last (same_link a b f t) refl other

-- it is kept, or it was on that link and is dropped
pub data IsCut {M : Type 0} (is : M → Bool) (f t : List ℕ) (then : Links M) : Option (Carried M) → Type 0 where
  keeps_it : {found : Option (Carried M)} → IsFound is then found → IsCut is f t then found
  drops_it : (message : M) → IsFound is then None → IsCut is f t then (Some (record { from = f; to = t; message = message }))

no_more : {M : Type 0} (message x : M) (more rest : List M) (same : Bool) → message ∷ (more ++ x ∷ rest) ≡ cond same (message ∷ []) [] → ⊥
no_more message x [] rest true e = cc
no_more message x (y ∷ more) rest true e = cc
no_more message x more rest false e = cc

module _ {M : Type 0} (is : M → Bool) (links : Links M) (f t : List ℕ) (keeps : ℕ) (last : M) (found : Option (Carried M)) (other : is last ≡ false)
    (placed : IsFound is links found) where
  all_kept : filter is (take keeps (on_link links f t)) ≡ on_this f t found → IsFound is (cut_short links f t keeps last) found
  all_kept e = λ a b. found_cut is links f t a b keeps last other ∙ by a b (same_link a b f t) refl
    where
      by : (a b : List ℕ) (same : Bool) → same_link a b f t ≡ same
          → cond same (filter is (take keeps (on_link links f t))) (filter is (on_link links a b)) ≡ on_this a b found
      by a b true h = let at = same_names a b f t h in e ∙ ap (λ x. on_this x t found) (sym at.0) ∙ ap (λ x. on_this a x found) (sym at.1)
      by a b false h = placed a b

  -- it is among those behind
  none_kept : (message : M) → filter is (take keeps (on_link links f t)) ≡ [] → found ≡ Some (record { from = f; to = t; message = message })
      → IsFound is (cut_short links f t keeps last) None
  none_kept message none at = λ a b. found_cut is links f t a b keeps last other ∙ by a b (same_link a b f t) refl
    where
      by : (a b : List ℕ) (same : Bool) → same_link a b f t ≡ same
          → cond same (filter is (take keeps (on_link links f t))) (filter is (on_link links a b)) ≡ []
      by a b true h = none
      by a b false h = placed a b ∙ ap (on_this a b) at ∙ ap (λ s. cond s (message ∷ []) []) h

  parted : (kept left : List M) → filter is (take keeps (on_link links f t)) ≡ kept → filter is (drop keeps (on_link links f t)) ≡ left
      → kept ++ left ≡ on_this f t found → IsCut is f t (cut_short links f t keeps last) found
  parted kept [] e g whole = keeps_it (all_kept (e ∙ sym (append-nil kept) ∙ whole))
  parted [] (x ∷ left) e g whole =
      let at = told_by f t x left found whole in
      subst (IsCut is f t (cut_short links f t keeps last)) (sym at) (drops_it x (none_kept x e at))
  parted (message ∷ more) (x ∷ left) e g whole =
      let at = told_by f t message (more ++ x ∷ left) found whole in
      absurd (no_more message x more left (same_link f t f t) (whole ∙ ap (on_this f t) at))

  pub is_cut : IsCut is f t (cut_short links f t keeps last) found
  is_cut =
      parted (filter is (take keeps (on_link links f t))) (filter is (drop keeps (on_link links f t))) refl refl
      (sym (filter-append is (take keeps (on_link links f t)) (drop keeps (on_link links f t)))
      ∙ ap (filter is) (take-append-drop keeps (on_link links f t)) ∙ placed f t)

-- where nothing is on any link there is none
pub none_on_empty : {M : Type 0} (is : M → Bool) (links : Links M) (found : Option (Carried M)) → ((a b : List ℕ) → on_link links a b ≡ [])
    → IsFound is links found → found ≡ None
none_on_empty is links None empty placed = refl
none_on_empty is links (Some it) empty placed =
    absurd (let none : [] ≡ it.message ∷ [] = sym (ap (filter is) (empty it.from it.to)) ∙ placed it.from it.to
    ∙ ap (λ s. cond s (it.message ∷ []) []) (same_itself it.from it.to) in cc)
