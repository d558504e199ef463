-- What stands in a list once something is put to its front, into a set in order, or taken out.
use Rattle.std.proofs.Common.{◌≡◌, ◌≢◌, ℕ, zero, suc, Bool, true, false, not, ◌||◌, ◌==◌, List, [], ◌∷◌, refl, sym, ◌∙◌, ap, subst, inl, inr, ⊎_elim, arith, cond}
use Rattle.std.specs.Prelude.{◌⊎◌}
use Rattle.std.specs.List.{Contains, filter, fold, list_any}
use Rattle.std.specs.Ordering.{is_eq, match_ordering}
use Rattle.std.specs.declared.cmp.Ordering.{Ordering}
use Rattle.std.specs.declared.cmp.Ordering.TheVariants.{Less, Equal, Greater}
use Rattle.std.specs.BTreeMap.{is_at}
use Rattle.std.specs.BTreeSet.{insert_key}
use Rattle.std.proofs.lemmas.Bool.Decides.{nat_tests}
use Rattle.mur_base.proofs.MapLaws.{TellsApart}

module _ {X : Type 0} where
  pub at_first : (x : X) (xs : List X) → Contains (x ∷ xs) x
  at_first x xs = (0, omega arith, refl)

  pub behind_first : (y x : X) (xs : List X) → Contains xs x → Contains (y ∷ xs) x
  behind_first y x xs (k, within, at) = (suc k, omega (arith, within), at)

  pub first_or_behind : (y x : X) (xs : List X) → Contains (y ∷ xs) x → (y ≡ x) ⊎ Contains xs x
  first_or_behind y x xs (zero, within, at) = inl at
  first_or_behind y x xs (suc k, within, at) = inr (k, omega (arith, within), at)

  pub none_there : (x : X) → Contains [] x → ⊥
  none_there x (k, within, at) = omega (arith, within)

-- ---- a number among numbers, by the test

pub among : (uids : List ℕ) (uid : ℕ) → Contains uids uid → list_any (λ other. other == uid) uids ≡ true
among [] uid is = absurd (none_there uid is)
among (one ∷ uids) uid is = by (one == uid) refl (first_or_behind one uid uids is) (among uids uid)
  where
    by : (same : Bool) → (one == uid) ≡ same → (one ≡ uid) ⊎ Contains uids uid → (Contains uids uid → list_any (λ other. other == uid) uids ≡ true)
        → (same || list_any (λ other. other == uid) uids) ≡ true
    by true e is rest = refl
    by false e (inl here) rest = absurd (let no : (one == uid) ≡ true = grind (arith, nat_tests, here) in let both : false ≡ true = sym e ∙ no in cc)
    by false e (inr behind) rest = rest behind

pub stands : (uids : List ℕ) (uid : ℕ) → list_any (λ other. other == uid) uids ≡ true → Contains uids uid
stands [] uid is = cc
stands (one ∷ uids) uid is = by (one == uid) refl is (stands uids uid)
  where
    by : (same : Bool) → (one == uid) ≡ same → (same || list_any (λ other. other == uid) uids) ≡ true
        → (list_any (λ other. other == uid) uids ≡ true → Contains uids uid) → Contains (one ∷ uids) uid
    by true e is rest = let here : one ≡ uid = grind (arith, nat_tests, e) in subst (λ y. Contains (y ∷ uids) uid) (sym here) (at_first uid uids)
    by false e is rest = behind_first one uid uids (rest is)

-- ---- sets in order

module _ {K : Type 0} (cmp : K → K → Ordering) (apart : TellsApart cmp) where
  put_kept : (keys : List K) (key x : K) → Contains keys x → Contains (insert_key cmp keys key) x
  put_kept [] key x is = absurd (none_there x is)
  put_kept (other ∷ keys) key x is = by (cmp key other) (put_kept keys key x)
    where
      by : (order : Ordering) → (Contains keys x → Contains (insert_key cmp keys key) x)
          → Contains (match_ordering order (key ∷ other ∷ keys) (other ∷ keys) (other ∷ insert_key cmp keys key)) x
      by Less rest = behind_first key x (other ∷ keys) is
      by Equal rest = is
      by Greater rest = ⊎_elim
          (λ (here : other ≡ x). subst (λ y. Contains (y ∷ insert_key cmp keys key) x) (sym here) (at_first x (insert_key cmp keys key)))
          (λ (behind : Contains keys x). behind_first other x (insert_key cmp keys key) (rest behind)) (first_or_behind other x keys is)

  put_there : (keys : List K) (key : K) → Contains (insert_key cmp keys key) key
  put_there [] key = at_first key []
  put_there (other ∷ keys) key = by (cmp key other) refl (put_there keys key)
    where
      by : (order : Ordering) → cmp key other ≡ order → Contains (insert_key cmp keys key) key
          → Contains (match_ordering order (key ∷ other ∷ keys) (other ∷ keys) (other ∷ insert_key cmp keys key)) key
      by Less e rest = at_first key (other ∷ keys)
      by Equal e rest = subst (λ y. Contains (y ∷ keys) key) (apart.exact key other (ap is_eq e)) (at_first key keys)
      by Greater e rest = behind_first other key (insert_key cmp keys key) rest

  put_within : (keys : List K) (key x : K) → Contains (insert_key cmp keys key) x → Contains keys x ⊎ (key ≡ x)
  put_within [] key x is = ⊎_elim (λ (here : key ≡ x). inr here) (λ (none : Contains [] x). inl none) (first_or_behind key x [] is)
  put_within (other ∷ keys) key x is = by (cmp key other) is (put_within keys key x)
    where
      by : (order : Ordering) → Contains (match_ordering order (key ∷ other ∷ keys) (other ∷ keys) (other ∷ insert_key cmp keys key)) x
          → (Contains (insert_key cmp keys key) x → Contains keys x ⊎ (key ≡ x)) → Contains (other ∷ keys) x ⊎ (key ≡ x)
      by Less is rest = ⊎_elim (λ (here : key ≡ x). inr here) (λ (old : Contains (other ∷ keys) x). inl old) (first_or_behind key x (other ∷ keys) is)
      by Equal is rest = inl is
      by Greater is rest = ⊎_elim
          (λ (here : other ≡ x). inl (subst (λ y. Contains (y ∷ keys) x) (sym here) (at_first x keys)))
          (λ (behind : Contains (insert_key cmp keys key) x). ⊎_elim (λ (old : Contains keys x). inl (behind_first other x keys old))
          (λ (same : key ≡ x). inr same) (rest behind))
          (first_or_behind other x (insert_key cmp keys key) is)

  pub all_kept : (keys more : List K) (x : K) → Contains keys x → Contains (fold (insert_key cmp) keys more) x
  all_kept keys [] x is = is
  all_kept keys (key ∷ more) x is = all_kept (insert_key cmp keys key) more x (put_kept keys key x is)

  pub all_there : (keys more : List K) (x : K) → Contains more x → Contains (fold (insert_key cmp) keys more) x
  all_there keys [] x is = absurd (none_there x is)
  all_there keys (key ∷ more) x is = ⊎_elim
      (λ (here : key ≡ x). all_kept (insert_key cmp keys key) more x (subst (Contains (insert_key cmp keys key)) here (put_there keys key)))
      (λ (behind : Contains more x). all_there (insert_key cmp keys key) more x behind) (first_or_behind key x more is)

  pub all_within : (keys more : List K) (x : K) → Contains (fold (insert_key cmp) keys more) x → Contains keys x ⊎ Contains more x
  all_within keys [] x is = inl is
  all_within keys (key ∷ more) x is = ⊎_elim
      (λ (one : Contains (insert_key cmp keys key) x). ⊎_elim (λ (old : Contains keys x). inl old)
      (λ (same : key ≡ x). inr (subst (λ y. Contains (y ∷ more) x) (sym same) (at_first x more))) (put_within keys key x one))
      (λ (behind : Contains more x). inr (behind_first key x more behind)) (all_within (insert_key cmp keys key) more x is)

  -- ---- what is taken out

  -- the test of a key is of it alone
  tests_same : (key other : K) → is_at (cmp key) other ≡ true → key ≡ other
  tests_same key other is = apart.exact key other is

  abbrev pub taken_out : List K → K → List K
  taken_out keys key = filter (λ other. not (is_at (cmp key) other)) keys

  out_within : (key x : K) (keys : List K) → Contains (taken_out keys key) x → Contains keys x
  out_within key x [] is = is
  out_within key x (other ∷ keys) is = by (is_at (cmp key) other) is (out_within key x keys)
    where
      by : (test : Bool) → Contains (cond (not test) (other ∷ taken_out keys key) (taken_out keys key)) x → (Contains (taken_out keys key) x → Contains keys x)
          → Contains (other ∷ keys) x
      by true is rest = behind_first other x keys (rest is)
      by false is rest = ⊎_elim (λ (here : other ≡ x). subst (λ y. Contains (y ∷ keys) x) (sym here) (at_first x keys))
          (λ (behind : Contains (taken_out keys key) x). behind_first other x keys (rest behind)) (first_or_behind other x (taken_out keys key) is)

  out_kept : (key x : K) (keys : List K) → key ≢ x → Contains keys x → Contains (taken_out keys key) x
  out_kept key x [] ne is = is
  out_kept key x (other ∷ keys) ne is = by (is_at (cmp key) other) refl (first_or_behind other x keys is) (out_kept key x keys ne)
    where
      by : (test : Bool) → is_at (cmp key) other ≡ test → (other ≡ x) ⊎ Contains keys x → (Contains keys x → Contains (taken_out keys key) x)
          → Contains (cond (not test) (other ∷ taken_out keys key) (taken_out keys key)) x
      by true e (inl here) rest = absurd (ne (tests_same key other e ∙ here))
      by true e (inr behind) rest = rest behind
      by false e (inl here) rest = subst (λ y. Contains (y ∷ taken_out keys key) x) (sym here) (at_first x (taken_out keys key))
      by false e (inr behind) rest = behind_first other x (taken_out keys key) (rest behind)

  out_gone : (key : K) (keys : List K) → Contains (taken_out keys key) key → ⊥
  out_gone key [] is = none_there key is
  out_gone key (other ∷ keys) is = by (is_at (cmp key) other) refl is (out_gone key keys)
    where
      by : (test : Bool) → is_at (cmp key) other ≡ test → Contains (cond (not test) (other ∷ taken_out keys key) (taken_out keys key)) key
          → (Contains (taken_out keys key) key → ⊥) → ⊥
      by true e is rest = rest is
      by false e is rest = ⊎_elim
          (λ (here : other ≡ key). (let own : is_at (cmp key) other ≡ true = subst (λ y. is_at (cmp key) y ≡ true) (sym here) (apart.itself key) in
          let both : false ≡ true = sym e ∙ own in cc))
          rest (first_or_behind other key (taken_out keys key) is)

  pub rest_within : (keys out : List K) (x : K) → Contains (fold taken_out keys out) x → Contains keys x
  rest_within keys [] x is = is
  rest_within keys (key ∷ out) x is = out_within key x keys (rest_within (taken_out keys key) out x is)

  pub rest_kept : (keys out : List K) (x : K) → (Contains out x → ⊥) → Contains keys x → Contains (fold taken_out keys out) x
  rest_kept keys [] x none is = is
  rest_kept keys (key ∷ out) x none is =
      rest_kept (taken_out keys key) out x (λ there. none (behind_first key x out there))
      (out_kept key x keys (λ same. none (subst (λ y. Contains (y ∷ out) x) (sym same) (at_first x out))) is)

  pub rest_gone : (keys out : List K) (x : K) → Contains out x → Contains (fold taken_out keys out) x → ⊥
  rest_gone keys [] x out is = none_there x out
  rest_gone keys (key ∷ out) x among is = ⊎_elim
      (λ (here : key ≡ x). out_gone key keys (subst (Contains (taken_out keys key)) (sym here) (rest_within (taken_out keys key) out x is)))
      (λ (behind : Contains out x). rest_gone (taken_out keys key) out x behind is) (first_or_behind key x out among)
