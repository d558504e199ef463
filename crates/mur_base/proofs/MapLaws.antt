-- What a look-up finds after a change of a map, under an order that tells all keys apart.
use Rattle.std.proofs.Common.{◌≡◌, ◌≢◌, ◌⊎◌, inl, inr, Bool, true, false, cond, List, [], ◌∷◌, Some, refl, sym, ap, subst}
use Rattle.std.specs.declared.cmp.Ordering.{Ordering}
use Rattle.std.specs.declared.cmp.Ordering.TheVariants.{Less, Equal, Greater}
use Rattle.std.specs.Ordering.{is_eq, nat_cmp, match_ordering}
use Rattle.std.specs.Cmp.Lexicographic.{slice_cmp}
use Rattle.std.specs.BTreeMap.{insert_entry}
use Rattle.std.proofs.lemmas.Cmp.{tied_itself, nat_cmp_total, nat_list_cmp_total}
use Rattle.std.proofs.lemmas.Map.Lookups.{exact_unsigned, exact_bytes}
use Rattle.mur_base.specs.Map.{value_at, with_entry, with_value}

-- an order in which only a key itself is equal to it
pub record TellsApart {K : Type 0} (cmp : K → K → Ordering) : Type 0 where
  pub itself : (x : K) → is_eq (cmp x x) ≡ true
  pub exact : (x y : K) → is_eq (cmp x y) ≡ true → x ≡ y

equal_by : (o : Ordering) → is_eq o ≡ true → o ≡ Equal
equal_by Less h = cc
equal_by Equal h = refl
equal_by Greater h = cc

pub numbers_apart : TellsApart nat_cmp
numbers_apart = record {
  itself = λ x. ap is_eq (tied_itself nat_cmp_total x);
  exact = λ x y h. exact_unsigned x y (equal_by _ h);
}

pub names_apart : TellsApart (slice_cmp nat_cmp)
names_apart = record {
  itself = λ x. ap is_eq (tied_itself nat_list_cmp_total x);
  exact = λ x y h. exact_bytes x y (equal_by _ h);
}

module _ {K : Type 0} (cmp : K → K → Ordering) (apart : TellsApart cmp) where
  other_key : (q k : K) → q ≢ k → (b : Bool) → is_eq (cmp q k) ≡ b → b ≡ false
  other_key q k ne true h = absurd (ne (apart.exact q k h))
  other_key q k ne false h = refl

  -- no other key is equal to a key
  pub not_equal : (q k : K) → q ≢ k → is_eq (cmp q k) ≡ false
  not_equal q k ne = other_key q k ne (is_eq (cmp q k)) refl

module _ {K X : Type 0} (cmp : K → K → Ordering) (apart : TellsApart cmp) where
  same_entry_by : (e : K × X) (es : List (K × X)) (k : K) (v : X) → value_at cmp (with_entry cmp es k v) k ≡ Some v
      → (o : Ordering) → cmp k e.0 ≡ o
      → value_at cmp (match_ordering o ((k, v) ∷ e ∷ es) ((e.0, v) ∷ es) (e ∷ insert_entry cmp es k v)) k ≡ Some v
  same_entry_by e es k v ih Less h = rw (apart.itself k) refl
  same_entry_by e es k v ih Equal h = rw h refl
  same_entry_by e es k v ih Greater h = rw h ih

  -- the value that was put in is found
  pub value_at-with_entry : (es : List (K × X)) (k : K) (v : X) → value_at cmp (with_entry cmp es k v) k ≡ Some v
  value_at-with_entry [] k v = rw (apart.itself k) refl
  value_at-with_entry (e ∷ es) k v = same_entry_by e es k v (value_at-with_entry es k v) (cmp k e.0) refl

  other_entry_by : (e : K × X) (es : List (K × X)) (k q : K) (v : X) → is_eq (cmp q k) ≡ false
      → value_at cmp (with_entry cmp es k v) q ≡ value_at cmp es q
      → (o : Ordering) → cmp k e.0 ≡ o
      → value_at cmp (match_ordering o ((k, v) ∷ e ∷ es) ((e.0, v) ∷ es) (e ∷ insert_entry cmp es k v)) q ≡ value_at cmp (e ∷ es) q
  other_entry_by e es k q v ne ih Less h = rw ne refl
  other_entry_by e es k q v ne ih Equal h =
      let same = apart.exact k e.0 (ap is_eq h) in
      let gone : is_eq (cmp q e.0) ≡ false = subst (λ x. is_eq (cmp q x) ≡ false) same ne in rw gone refl
  other_entry_by e es k q v ne ih Greater h = ap (λ found. cond (is_eq (cmp q e.0)) (Some e.1) found) ih

  -- another key finds what it found
  pub value_at-with_entry-other : (es : List (K × X)) (k q : K) (v : X) → q ≢ k → value_at cmp (with_entry cmp es k v) q ≡ value_at cmp es q
  value_at-with_entry-other [] k q v ne = rw (not_equal cmp apart q k ne) refl
  value_at-with_entry-other (e ∷ es) k q v ne =
      other_entry_by e es k q v (not_equal cmp apart q k ne) (value_at-with_entry-other es k q v ne) (cmp k e.0) refl

  same_value_by : (e : K × X) (es : List (K × X)) (k : K) (v : X) → (b : Bool) → is_eq (cmp k e.0) ≡ b
      → ((old : X) → value_at cmp es k ≡ Some old → value_at cmp (with_value cmp es k v) k ≡ Some v)
      → (old : X) → value_at cmp (e ∷ es) k ≡ Some old → value_at cmp (with_value cmp (e ∷ es) k v) k ≡ Some v
  same_value_by e es k v true h ih old there = rw (h, h) refl
  same_value_by e es k v false h ih old there = rw (h, h) (ih old (rw h at there))

  -- a value that was changed is found
  pub value_at-with_value : (es : List (K × X)) (k : K) (v old : X) → value_at cmp es k ≡ Some old → value_at cmp (with_value cmp es k v) k ≡ Some v
  value_at-with_value [] k v old there = cc
  value_at-with_value (e ∷ es) k v old there = same_value_by e es k v (is_eq (cmp k e.0)) refl (value_at-with_value es k v) old there

  other_value_by : (e : K × X) (es : List (K × X)) (k q : K) (v : X) → is_eq (cmp q k) ≡ false
      → value_at cmp (with_value cmp es k v) q ≡ value_at cmp es q
      → (b : Bool) → is_eq (cmp k e.0) ≡ b → value_at cmp (with_value cmp (e ∷ es) k v) q ≡ value_at cmp (e ∷ es) q
  other_value_by e es k q v ne ih true h =
      let gone : is_eq (cmp q e.0) ≡ false = subst (λ x. is_eq (cmp q x) ≡ false) (apart.exact k e.0 h) ne in rw h (rw gone refl)
  other_value_by e es k q v ne ih false h = rw h (ap (λ found. cond (is_eq (cmp q e.0)) (Some e.1) found) ih)

  -- another key finds what it found
  pub value_at-with_value-other : (es : List (K × X)) (k q : K) (v : X) → q ≢ k → value_at cmp (with_value cmp es k v) q ≡ value_at cmp es q
  value_at-with_value-other [] k q v ne = refl
  value_at-with_value-other (e ∷ es) k q v ne =
      other_value_by e es k q v (not_equal cmp apart q k ne) (value_at-with_value-other es k q v ne) (is_eq (cmp k e.0)) refl

module _ {K : Type 0} (cmp : K → K → Ordering) (apart : TellsApart cmp) where
  key_by : (q k : K) (b : Bool) → is_eq (cmp q k) ≡ b → (q ≡ k) ⊎ (q ≢ k)
  key_by q k true h = inl (apart.exact q k h)
  key_by q k false h = inr (λ same. let itself : is_eq (cmp q q) ≡ true = apart.itself q in
      let not_itself : is_eq (cmp q q) ≡ false = subst (λ x. is_eq (cmp q x) ≡ false) (sym same) h in cc)

  -- a key is another one or is not
  pub same_or_other : (q k : K) → (q ≡ k) ⊎ (q ≢ k)
  same_or_other q k = key_by q k (is_eq (cmp q k)) refl
