-- Lines in order that tell the same of each name are the same lines.
use Rattle.std.proofs.Common.{◌≡◌, ℕ, Bool, true, false, List, [], ◌∷◌, Option, Some, None, refl, sym, ap, ◌∙◌, subst, arith}
use Rattle.std.specs.List.Sorted.{IsStrictlySortedBy}
use Rattle.std.specs.declared.cmp.Ordering.{Ordering}
use Rattle.std.specs.declared.cmp.Ordering.TheVariants.{Less, Equal, Greater}
use Rattle.std.specs.Ordering.{nat_cmp, is_eq, ordering_reverse}
use Rattle.std.specs.Cmp.Lexicographic.{slice_cmp, nat_list_cmp_total}
use Rattle.std.proofs.lemmas.Map.Entries.{lookup_at_gap}
use Rattle.std.proofs.lemmas.Map.Lookups.{exact_bytes}
use Rattle.mur_base.specs.Map.{value_at, IsInOrder}
use Rattle.mur_base.proofs.MapLaws.{names_apart}
use Rattle.imap_types.specs.declared.reply.Attribute.{Attribute}
use Rattle.name_listing.specs.Listing.{Lines, IsListing}

abbrev Line : Type 0
Line = List ℕ × Attribute

abbrev told : Lines → List ℕ → Option Attribute
told lines name = value_at (slice_cmp nat_cmp) lines name

abbrev Rises : Lines → Type 0
Rises lines = IsInOrder (slice_cmp nat_cmp) lines

-- nothing is told of a name before the first
before_first : (name : List ℕ) (e : Line) (es : Lines) → Rises (e ∷ es) → slice_cmp nat_cmp name e.0 ≡ Less → told (e ∷ es) name ≡ None
before_first name e es rises less =
    lookup_at_gap nat_list_cmp_total name (e ∷ es) 0 rises (λ j d low at. absurd (omega arith))
    (λ d at. let same : e ≡ d = cc (at) in subst (λ (x : Line). slice_cmp nat_cmp name x.0 ≡ Less) same less)

-- the first name is told once
first_once : (e : Line) (es : Lines) → Rises (e ∷ es) → told es e.0 ≡ None
unfolding IsStrictlySortedBy
first_once e [] rises = refl
first_once e (d ∷ es) rises = before_first e.0 d es rises.1 rises.0.0

first_told : (e : Line) (es : Lines) → told (e ∷ es) e.0 ≡ Some e.1
first_told e es = rw (names_apart.itself e.0) refl

rest_by : (e : Line) (es fs : Lines) → Rises (e ∷ es) → Rises (e ∷ fs) → (name : List ℕ) → told (e ∷ es) name ≡ told (e ∷ fs) name
    → (b : Bool) → is_eq (slice_cmp nat_cmp name e.0) ≡ b → told es name ≡ told fs name
rest_by e es fs one other name same true h =
    subst (λ (x : List ℕ). told es x ≡ told fs x) (sym (names_apart.exact name e.0 h)) (first_once e es one ∙ sym (first_once e fs other))
rest_by e es fs one other name same false h =
    let same : told es name ≡ told fs name = rw h at same in same

pair_is : (e f : Line) → e.0 ≡ f.0 → Some e.1 ≡ Some f.1 → e ≡ f
pair_is e f names values =
    let last : e.1 ≡ f.1 = cc (values) in ap (λ (x : List ℕ). (x, e.1)) names ∙ ap (λ (a : Attribute). (f.0, a)) last

first_by : (e f : Line) (es fs : Lines) → Rises (e ∷ es) → Rises (f ∷ fs) → ((name : List ℕ) → told (e ∷ es) name ≡ told (f ∷ fs) name)
    → (((name : List ℕ) → told es name ≡ told fs name) → es ≡ fs) → (o : Ordering) → slice_cmp nat_cmp e.0 f.0 ≡ o → e ∷ es ≡ f ∷ fs
first_by e f es fs one other same rest Less h =
    let none : Some e.1 ≡ None = sym (first_told e es) ∙ same e.0 ∙ before_first e.0 f fs other h in cc
first_by e f es fs one other same rest Greater h =
    let less : slice_cmp nat_cmp f.0 e.0 ≡ Less = nat_list_cmp_total.antisymm f.0 e.0 ∙ ap ordering_reverse h in
    let none : Some f.1 ≡ None = sym (first_told f fs) ∙ sym (same f.0) ∙ before_first f.0 e es one less in cc
first_by e f es fs one other same rest Equal h =
    let names : e.0 ≡ f.0 = exact_bytes e.0 f.0 h in
    let values : Some e.1 ≡ Some f.1 = sym (first_told e es) ∙ same e.0 ∙ ap (told (f ∷ fs)) names ∙ first_told f fs in
    let firsts : e ≡ f = pair_is e f names values in
    let back = sym firsts in
    let other_back : Rises (e ∷ fs) = subst (λ (x : Line). Rises (x ∷ fs)) back other in
    let same_back : (name : List ℕ) → told (e ∷ es) name ≡ told (e ∷ fs) name =
    λ name. same name ∙ ap (λ (x : Line). told (x ∷ fs) name) back in
    ap (λ (x : Line). x ∷ es) firsts
    ∙ ap (λ (l : Lines). f ∷ l) (rest (λ name. rest_by e es fs one other_back name (same_back name) (is_eq (slice_cmp nat_cmp name e.0)) refl))

same_lines : (es fs : Lines) → Rises es → Rises fs → ((name : List ℕ) → told es name ≡ told fs name) → es ≡ fs
unfolding IsStrictlySortedBy
same_lines [] [] one other same = refl
same_lines [] (f ∷ fs) one other same = let none : None ≡ Some f.1 = same f.0 ∙ first_told f fs in cc
same_lines (e ∷ es) [] one other same = let none : None ≡ Some e.1 = sym (same e.0) ∙ first_told e es in cc
same_lines (e ∷ es) (f ∷ fs) one other same =
    first_by e f es fs one other same (λ rest. same_lines es fs one.1 other.1 rest) (slice_cmp nat_cmp e.0 f.0) refl

-- there is one listing only
pub one_listing : (pattern : List ℕ) (names : List (List ℕ)) (one other : Lines) → IsListing pattern names one → IsListing pattern names other
    → one ≡ other
one_listing pattern names one other this that =
    same_lines one other this.rising that.rising (λ name. this.told name ∙ sym (that.told name))
