-- Lists in strictly rising order of a key: what is found in them, and that they are equal if the same is found at each key.
use Rattle.std.proofs.Common.{◌≡◌, ◌≢◌, ℕ, ◌<◌, ◌≤◌, Bool, true, false, cond, ◌==◌, List, [], ◌∷◌, map, Option, Some, None, refl, sym, ◌∙◌, ap}
use Rattle.std.proofs.Common.{subst, arith, option_map}
use Rattle.std.specs.List.{AllByRecursion, filter, find}
use Rattle.std.specs.List.Sorted.{IsStrictlySortedBy}
use Rattle.std.specs.declared.cmp.Ordering.{Ordering}
use Rattle.std.specs.declared.cmp.Ordering.TheVariants.{Less, Equal, Greater}
use Rattle.std.specs.Ordering.{nat_cmp}
use Rattle.std.proofs.lemmas.Bool.Decides.{nat_tests}
use Rattle.std.proofs.lemmas.Cmp.{ranked, by_ranked}

-- ---- numbers

pub less : (a b : ℕ) → a < b → nat_cmp a b ≡ Less
less a b h =
    by_ranked _ _ _ (nat_cmp a b) (ranked a b _ refl) (λ o l. o) (λ o e. absurd (omega (arith, h, e))) (λ o g. absurd (omega (arith, h, g)))

pub greater : (a b : ℕ) → b < a → nat_cmp a b ≡ Greater
greater a b h =
    by_ranked _ _ _ (nat_cmp a b) (ranked a b _ refl) (λ o l. absurd (omega (arith, h, l))) (λ o e. absurd (omega (arith, h, e))) (λ o g. o)

pub below : (a b : ℕ) → nat_cmp a b ≡ Less → a < b
below a b h = ranked a b Less (sym h)

pub above : (a b : ℕ) → nat_cmp a b ≡ Greater → b < a
above a b h = ranked a b Greater (sym h)

pub equal : (a b : ℕ) → nat_cmp a b ≡ Equal → a ≡ b
equal a b h = ranked a b Equal (sym h)

pub itself : (k : ℕ) → (k == k) ≡ true
itself k = grind (arith, nat_tests)

pub same_number : (a b : ℕ) → (a == b) ≡ true → a ≡ b
same_number a b h = grind (arith, nat_tests, h)

pub other_number : (a b : ℕ) → (a == b) ≡ false → a ≢ b
other_number a b h e =
    let yes : (a == a) ≡ true = itself a in
    let no : (a == a) ≡ false = subst (λ x. (a == x) ≡ false) (sym e) h in cc

pub some_is : {X : Type 0} (x y : X) → Some x ≡ Some y → x ≡ y
some_is x y e = cc

-- what is found, if it passes a test
abbrev pub passed : {X : Type 0} → (X → Bool) → Option X → Option X
passed p None = None
passed p (Some x) = cond (p x) (Some x) None

module _ {A : Type 0} (key : A → ℕ) where
  -- the item with a key, if it is there
  abbrev pub at : List A → ℕ → Option A
  at items k = find (λ item. key item == k) items

  -- a key is lower than those of all items
  abbrev pub AreAbove : ℕ → List A → Type 0
  AreAbove k items = AllByRecursion (λ q. nat_cmp k q ≡ Less) (map key items)

  abbrev pub Rise : List A → Type 0
  Rise items = IsStrictlySortedBy nat_cmp (map key items)

  pub none-above : (k j : ℕ) (items : List A) → AreAbove j items → k ≤ j → at items k ≡ None
  none-above k j [] all le = refl
  none-above k j (item ∷ items) all le =
      let lt = below j (key item) all.0 in
      let apart : (key item == k) ≡ false = grind (arith, nat_tests, lt, le) in rw apart (none-above k j items all.1 le)

  pub lower-above : (k j : ℕ) (items : List A) → k < j → AreAbove j items → AreAbove k items
  lower-above k j [] lt all = tt
  lower-above k j (item ∷ items) lt all =
      (less k (key item) (let more = below j (key item) all.0 in omega (arith, lt, more)), lower-above k j items lt all.1)

  pub first-at : (item : A) (items : List A) → at (item ∷ items) (key item) ≡ Some item
  first-at item items = rw (itself (key item)) refl

  found_by : (k : ℕ) (item found : A) (rest : Option A) → (rest ≡ Some found → key found ≡ k) → (b : Bool) → (key item == k) ≡ b
      → cond b (Some item) rest ≡ Some found → key found ≡ k
  found_by k item found rest ih true h there = subst (λ x. key x ≡ k) (some_is item found there) (same_number (key item) k h)
  found_by k item found rest ih false h there = ih there

  -- an item that is found has the key
  pub found-at : (k : ℕ) (items : List A) (found : A) → at items k ≡ Some found → key found ≡ k
  found-at k [] found there = cc
  found-at k (item ∷ items) found there = found_by k item found (at items k) (found-at k items found) (key item == k) refl there

  -- ---- what passes a test

  pub above-filter : (p : A → Bool) (k : ℕ) (items : List A) → AreAbove k items → AreAbove k (filter p items)
  above-filter p k [] all = tt
  above-filter p k (item ∷ items) all =
      let P : Bool → Type 0 = λ b. AreAbove k (cond b (item ∷ filter p items) (filter p items)) in
      elim (p item) as P [ true ↦ (all.0, above-filter p k items all.1) | false ↦ above-filter p k items all.1 ]

  pub rise-filter : (p : A → Bool) (items : List A) → Rise items → Rise (filter p items)
  unfolding IsStrictlySortedBy
  rise-filter p [] rise = tt
  rise-filter p (item ∷ items) rise =
      let P : Bool → Type 0 = λ b. Rise (cond b (item ∷ filter p items) (filter p items)) in
      elim (p item) as P [ true ↦ (above-filter p (key item) items rise.0, rise-filter p items rise.1) | false ↦ rise-filter p items rise.1 ]

  passed_by : (p : A → Bool) (k : ℕ) (item : A) (items : List A) → AreAbove (key item) items → at (filter p items) k ≡ passed p (at items k)
      → (b : Bool) → p item ≡ b → (c : Bool) → (key item == k) ≡ c
      → at (cond b (item ∷ filter p items) (filter p items)) k ≡ passed p (cond c (Some item) (at items k))
  passed_by p k item items all ih true h true is = rw (is, h) refl
  passed_by p k item items all ih true h false is = rw is ih
  passed_by p k item items all ih false h true is =
      rw h (ih ∙ ap (passed p) (none-above k (key item) items all (let same = same_number (key item) k is in omega (arith, same))))
  passed_by p k item items all ih false h false is = ih

  -- the item with a key is found among those that pass if it passes
  pub at-filter : (p : A → Bool) (items : List A) (k : ℕ) → Rise items → at (filter p items) k ≡ passed p (at items k)
  unfolding IsStrictlySortedBy
  at-filter p [] k rise = refl
  at-filter p (item ∷ items) k rise =
      passed_by p k item items rise.0 (at-filter p items k rise.1) (p item) refl (key item == k) refl

  -- ---- equality

  tails_by : (x y : A) (xs ys : List A) → AreAbove (key x) xs → AreAbove (key y) ys → key x ≡ key y → (k : ℕ)
      → at (x ∷ xs) k ≡ at (y ∷ ys) k → (b : Bool) → (key x == k) ≡ b → at xs k ≡ at ys k
  tails_by x y xs ys ax ay e k same true h =
      let is = same_number (key x) k h in
      none-above k (key x) xs ax (omega (arith, is)) ∙ sym (none-above k (key y) ys ay (omega (arith, is, e)))
  tails_by x y xs ys ax ay e k same false h =
      let other : (key y == k) ≡ false = subst (λ n. (n == k) ≡ false) e h in rw other at (rw h at same)

  absent_first : (x y : A) (ys : List A) → key x < key y → AreAbove (key y) ys → at (y ∷ ys) (key x) ≡ None
  absent_first x y ys lt all =
      let apart : (key y == key x) ≡ false = grind (arith, nat_tests, lt) in
      rw apart (none-above (key x) (key y) ys all (omega (arith, lt)))

  same_by : (x y : A) (xs ys : List A) → AreAbove (key x) xs → AreAbove (key y) ys → ((k : ℕ) → at (x ∷ xs) k ≡ at (y ∷ ys) k)
      → (((k : ℕ) → at xs k ≡ at ys k) → xs ≡ ys)
      → (o : Ordering) → nat_cmp (key x) (key y) ≡ o → x ∷ xs ≡ y ∷ ys
  same_by x y xs ys ax ay same ih Less h =
      let there = first-at x xs in
      let none = absent_first x y ys (below (key x) (key y) h) ay in
      let e = same (key x) in cc
  same_by x y xs ys ax ay same ih Greater h =
      let there = first-at y ys in
      let none = absent_first y x xs (above (key x) (key y) h) ax in
      let e = same (key y) in cc
  same_by x y xs ys ax ay same ih Equal h =
      let e = equal (key x) (key y) h in
      let first : x ≡ y = some_is x y (sym (first-at x xs) ∙ same (key x) ∙ ap (at (y ∷ ys)) e ∙ first-at y ys) in
      let rest : xs ≡ ys = ih (λ k. tails_by x y xs ys ax ay e k (same k) (key x == k) refl) in cc

  -- rising lists are equal if the same is found at each key
  pub same-items : (xs ys : List A) → Rise xs → Rise ys → ((k : ℕ) → at xs k ≡ at ys k) → xs ≡ ys
  unfolding IsStrictlySortedBy
  same-items [] [] rx ry same = refl
  same-items [] (y ∷ ys) rx ry same = let there = first-at y ys in let e = same (key y) in cc
  same-items (x ∷ xs) [] rx ry same = let there = first-at x xs in let e = same (key x) in cc
  same-items (x ∷ xs) (y ∷ ys) rx ry same = same_by x y xs ys rx.0 ry.0 same (same-items xs ys rx.1 ry.1) (nat_cmp (key x) (key y)) refl

module _ {A B : Type 0} (key : A → ℕ) (name : B → ℕ) (f : A → B) (is : (a : A) → name (f a) ≡ key a) where
  -- items of another kind with the same keys
  pub keys-map : (items : List A) → map name (map f items) ≡ map key items
  keys-map [] = refl
  keys-map (item ∷ items) = let first = is item in let rest = keys-map items in cc

  pub rise-map : (items : List A) → Rise key items → Rise name (map f items)
  rise-map items rise = subst (IsStrictlySortedBy nat_cmp) (sym (keys-map items)) rise

  mapped_by : (k : ℕ) (item : A) (items : List A) → at name (map f items) k ≡ option_map f (at key items k) → (b : Bool) → (key item == k) ≡ b
      → cond b (Some (f item)) (at name (map f items) k) ≡ option_map f (cond b (Some item) (at key items k))
  mapped_by k item items ih true h = refl
  mapped_by k item items ih false h = ih

  pub at-map : (items : List A) (k : ℕ) → at name (map f items) k ≡ option_map f (at key items k)
  at-map [] k = refl
  at-map (item ∷ items) k =
      subst (λ n. cond (n == k) (Some (f item)) (at name (map f items) k) ≡ option_map f (cond (key item == k) (Some item) (at key items k))) (sym (is item))
      (mapped_by k item items (at-map items k) (key item == k) refl)
