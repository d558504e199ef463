-- What is on a link after a message was sent or taken, and after it was cut short.
use Rattle.std.proofs.Common.{◌≡◌, ◌≢◌, ◌&&◌, ℕ, Bool, true, false, cond, List, [], ◌∷◌, ◌++◌, drop, take, Some, refl, sym, ◌∙◌, ap, subst}
use Rattle.std.specs.Ordering.{nat_cmp, is_eq}
use Rattle.std.specs.Cmp.Lexicographic.{slice_cmp}
use Rattle.std.proofs.Math.Logic.{⊎_elim}
use Rattle.std.proofs.lemmas.List.{append-nil}
use Rattle.mur_base.specs.Map.{value_at, with_entry}
use Rattle.mur_base.proofs.MapLaws.{names_apart, not_equal, same_or_other, value_at-with_entry, value_at-with_entry-other}
use Rattle.link_queue.specs.Links.{Ways, Links, ways_from, ways_or_none, queue_or_none, queue_to, same_link, on_link, with_queue, sent, without_first, cut_short}

pub same_names : (a b f t : List ℕ) → same_link a b f t ≡ true → (a ≡ f) × (b ≡ t)
same_names a b f t h = by (is_eq (slice_cmp nat_cmp a f)) refl (is_eq (slice_cmp nat_cmp b t)) refl h
  where
    by : (one : Bool) → is_eq (slice_cmp nat_cmp a f) ≡ one → (two : Bool) → is_eq (slice_cmp nat_cmp b t) ≡ two → one && two ≡ true → (a ≡ f) × (b ≡ t)
    by true e true k h = (names_apart.exact a f e, names_apart.exact b t k)
    by true e false k h = cc
    by false e two k h = cc

pub same_itself : (a b : List ℕ) → same_link a b a b ≡ true
same_itself a b = rw (names_apart.itself a, names_apart.itself b) refl

module _ {M : Type 0} where
  way_by : (ways : Ways M) (t b : List ℕ) (queue : List M)
      → queue_to (with_entry (slice_cmp nat_cmp) ways t queue) b ≡ cond (is_eq (slice_cmp nat_cmp b t)) queue (queue_to ways b)
  way_by ways t b queue = ⊎_elim
      (λ (e : b ≡ t). let same : is_eq (slice_cmp nat_cmp b t) ≡ true = subst (λ x. is_eq (slice_cmp nat_cmp b x) ≡ true) e (names_apart.itself b) in
      ap queue_or_none (subst (λ x. value_at (slice_cmp nat_cmp) (with_entry (slice_cmp nat_cmp) ways t queue) x ≡ Some queue) (sym e)
      (value_at-with_entry (slice_cmp nat_cmp) names_apart ways t queue)) ∙ sym (ap (λ c. cond c queue (queue_to ways b)) same))
      (λ (ne : b ≢ t). ap queue_or_none (value_at-with_entry-other (slice_cmp nat_cmp) names_apart ways t b queue ne)
      ∙ sym (ap (λ c. cond c queue (queue_to ways b)) (not_equal (slice_cmp nat_cmp) names_apart b t ne)))
      (same_or_other (slice_cmp nat_cmp) names_apart b t)

  pub link_with_queue : (links : Links M) (f t a b : List ℕ) (queue : List M)
      → on_link (with_queue links f t queue) a b ≡ cond (same_link a b f t) queue (on_link links a b)
  unfolding on_link
  link_with_queue links f t a b queue = ⊎_elim
      (λ (e : a ≡ f). let same : is_eq (slice_cmp nat_cmp a f) ≡ true = subst (λ x. is_eq (slice_cmp nat_cmp a x) ≡ true) e (names_apart.itself a) in
      ap (λ w. queue_to (ways_or_none w) b) (subst
      (λ x. value_at (slice_cmp nat_cmp) (with_queue links f t queue) x ≡ Some (with_entry (slice_cmp nat_cmp) (ways_from links f) t queue)) (sym e)
      (value_at-with_entry (slice_cmp nat_cmp) names_apart links f (with_entry (slice_cmp nat_cmp) (ways_from links f) t queue)))
      ∙ way_by (ways_from links f) t b queue
      ∙ ap (λ x. cond (is_eq (slice_cmp nat_cmp b t)) queue (queue_to (ways_from links x) b)) (sym e)
      ∙ sym (ap (λ c. cond (c && is_eq (slice_cmp nat_cmp b t)) queue (queue_to (ways_from links a) b)) same))
      (λ (ne : a ≢ f). ap (λ w. queue_to (ways_or_none w) b)
      (value_at-with_entry-other (slice_cmp nat_cmp) names_apart links f a (with_entry (slice_cmp nat_cmp) (ways_from links f) t queue) ne)
      ∙ sym (ap (λ c. cond (c && is_eq (slice_cmp nat_cmp b t)) queue (queue_to (ways_from links a) b)) (not_equal (slice_cmp nat_cmp) names_apart a f ne)))
      (same_or_other (slice_cmp nat_cmp) names_apart a f)

  at_link : (links : Links M) (a b f t : List ℕ) (same : Bool) → same_link a b f t ≡ same → (change : List M → List M)
      → cond same (change (on_link links f t)) (on_link links a b) ≡ cond same (change (on_link links a b)) (on_link links a b)
  at_link links a b f t true h change = let e = same_names a b f t h in ap (λ x. change (on_link links x t)) (sym e.0)
      ∙ ap (λ x. change (on_link links a x)) (sym e.1)
  at_link links a b f t false h change = refl

  sent_by : (links : Links M) (a b : List ℕ) (message : M) (same : Bool)
      → cond same (on_link links a b ++ message ∷ []) (on_link links a b) ≡ on_link links a b ++ cond same (message ∷ []) []
  sent_by links a b message true = refl
  sent_by links a b message false = sym (append-nil (on_link links a b))

  -- a message that was sent stands behind the others of its link
  pub on_link-sent : (links : Links M) (f t a b : List ℕ) (message : M)
      → on_link (sent links f t message) a b ≡ on_link links a b ++ cond (same_link a b f t) (message ∷ []) []
  unfolding sent
  on_link-sent links f t a b message =
      link_with_queue links f t a b (on_link links f t ++ message ∷ [])
      ∙ at_link links a b f t (same_link a b f t) refl (λ (q : List M). q ++ message ∷ [])
      ∙ sent_by links a b message (same_link a b f t)

  -- the first of a link is taken
  pub on_link-taken : (links : Links M) (f t a b : List ℕ)
      → on_link (without_first links f t) a b ≡ cond (same_link a b f t) (drop 1 (on_link links a b)) (on_link links a b)
  unfolding without_first
  on_link-taken links f t a b =
      link_with_queue links f t a b (drop 1 (on_link links f t)) ∙ at_link links a b f t (same_link a b f t) refl (λ (q : List M). drop 1 q)

  -- of a link that is cut short so many messages are kept, and one stands behind them
  pub on_link-cut : (links : Links M) (f t a b : List ℕ) (keeps : ℕ) (last : M)
      → on_link (cut_short links f t keeps last) a b ≡ cond (same_link a b f t) (take keeps (on_link links a b) ++ last ∷ []) (on_link links a b)
  unfolding cut_short
  on_link-cut links f t a b keeps last =
      link_with_queue links f t a b (take keeps (on_link links f t) ++ last ∷ [])
      ∙ at_link links a b f t (same_link a b f t) refl (λ (q : List M). take keeps q ++ last ∷ [])
