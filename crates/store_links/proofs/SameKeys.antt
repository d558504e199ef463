-- Two lists of names in order that have the same names are the same.
use Rattle.std.proofs.Common.{◌≡◌, Bool, true, false, ◌||◌, List, [], ◌∷◌, refl, sym, ap, subst, ◌∙◌}
use Rattle.std.specs.declared.cmp.Ordering.{Ordering}
use Rattle.std.specs.declared.cmp.Ordering.TheVariants.{Less, Equal, Greater}
use Rattle.std.specs.BTreeMap.{is_at}
use Rattle.std.specs.List.{AllByRecursion, list_any}
use Rattle.std.specs.List.Sorted.{IsStrictlySortedBy}
use Rattle.std.specs.Ordering.{is_eq, nat_cmp, ordering_reverse}
use Rattle.std.specs.Cmp.Lexicographic.{slice_cmp}
use Rattle.std.proofs.lemmas.Cmp.{nat_list_cmp_total}
use Rattle.mur_base.proofs.MapLaws.{names_apart}
use Rattle.home_law.specs.ManyNames.{Mailbox}
use Rattle.name_links.proofs.OnWay.{all_as}

abbrev pub compared : Mailbox → Mailbox → Ordering
compared m n = slice_cmp nat_cmp m n

-- the name is among these
abbrev pub is_one_of : Mailbox → List Mailbox → Bool
is_one_of n names = list_any (is_at (compared n)) names

-- it stands before all of them
abbrev pub IsBefore : Mailbox → List Mailbox → Type 0
IsBefore n names = AllByRecursion (λ m. compared n m ≡ Less) names

pub before_none : (n : Mailbox) (names : List Mailbox) → IsBefore n names → is_one_of n names ≡ false
before_none n [] all = refl
before_none n (m ∷ names) all = ap (λ (o : Ordering). is_eq o || is_one_of n names) all.0 ∙ before_none n names all.1

first_is : (n : Mailbox) (names : List Mailbox) → is_one_of n (n ∷ names) ≡ true
first_is n names = ap (λ (t : Bool). t || is_one_of n names) (names_apart.itself n)

abbrev SameMembers : List Mailbox → List Mailbox → Type 0
SameMembers xs ys = (n : Mailbox) → is_one_of n xs ≡ is_one_of n ys

-- the first of one stands before all of the other
missed : (x y : Mailbox) (xs ys : List Mailbox) → compared x y ≡ Less → IsBefore y ys → SameMembers (x ∷ xs) (y ∷ ys) → ⊥
missed x y xs ys l before same =
    let all : IsBefore x (y ∷ ys) = (
      l,
      all_as (λ (z : Mailbox). compared y z ≡ Less) (λ (z : Mailbox). compared x z ≡ Less)
          (λ z h. nat_list_cmp_total.trans x y z l h) ys before,
    ) in
    let no : true ≡ false = sym (first_is x xs) ∙ same x ∙ before_none x (y ∷ ys) all in cc

tails : (x : Mailbox) (xs ys : List Mailbox) → IsBefore x xs → IsBefore x ys → SameMembers (x ∷ xs) (x ∷ ys) → SameMembers xs ys
tails x xs ys one other same n = by_test (is_eq (compared n x)) refl
  where
    by_test : (t : Bool) → is_eq (compared n x) ≡ t → is_one_of n xs ≡ is_one_of n ys
    by_test true e =
        subst (λ (m : Mailbox). is_one_of m xs ≡ is_one_of m ys) (sym (names_apart.exact n x e)) (before_none x xs one ∙ sym (before_none x ys other))
    by_test false e = sym (ap (λ (t : Bool). t || is_one_of n xs) e) ∙ same n ∙ ap (λ (t : Bool). t || is_one_of n ys) e

pub same_keys : (xs ys : List Mailbox) → IsStrictlySortedBy (slice_cmp nat_cmp) xs → IsStrictlySortedBy (slice_cmp nat_cmp) ys → SameMembers xs ys → xs ≡ ys
unfolding IsStrictlySortedBy
same_keys [] [] g h same = refl
same_keys [] (y ∷ ys) g h same = let no : false ≡ true = same y ∙ first_is y ys in cc
same_keys (x ∷ xs) [] g h same = let no : true ≡ false = sym (first_is x xs) ∙ same x in cc
same_keys (x ∷ xs) (y ∷ ys) g h same = by_order (compared x y) refl (λ e. same_keys xs ys g.1 h.1 e)
  where
    by_order : (o : Ordering) → compared x y ≡ o → (SameMembers xs ys → xs ≡ ys) → x ∷ xs ≡ y ∷ ys
    by_order Less e rest = absurd (missed x y xs ys e h.0 same)
    by_order Greater e rest = absurd (missed y x ys xs (nat_list_cmp_total.antisymm y x ∙ ap ordering_reverse e) g.0 (λ n. sym (same n)))
    by_order Equal e rest =
        let one : x ≡ y = names_apart.exact x y (ap is_eq e) in
        let both : SameMembers (x ∷ xs) (x ∷ ys) = subst (λ (z : Mailbox). SameMembers (x ∷ xs) (z ∷ ys)) (sym one) same in
        let more : xs ≡ ys = rest (tails x xs ys g.0 (subst (λ (z : Mailbox). IsBefore z ys) (sym one) h.0) both) in
        ap (λ (z : Mailbox). z ∷ xs) one ∙ ap (λ (zs : List Mailbox). y ∷ zs) more
