-- The nearest name above is found by looking from the longest on, and it is one alone.
use Rattle.std.proofs.Common.{◌≡◌, ℕ, zero, suc, ◌<◌, ◌≤◌, Bool, true, false, nat_eq, if◌then◌else◌, List, ◌∷◌, length, take, get_or, Option, None, Some}
use Rattle.std.proofs.Common.{◌≢◌, refl, sym, ap, ◌∙◌, arith, length-append}
use Rattle.std.proofs.Math.Logic.{⊎_elim}
use Rattle.std.proofs.Math.Seq.{get_or-append_seam, take-append_seam}
use Rattle.std.proofs.lemmas.Bool.{cases_eq, cases_lt}
use Rattle.std.proofs.lemmas.Bool.Decides.{nat_tests}
use Rattle.mur_base.specs.Ascii.{dot}
use Rattle.feed_core.specs.declared.rec.Rec.{Rec}
use Rattle.feed_core.specs.Above.{rec_of_text, IsAbove, IsNearestAbove, NoneAbove, HasAbove}
use Rattle.feed_core.specs.Feed.{Recs}
use Rattle.feed_core.specs.Routes.{above_at, above_within, or_else}
use Rattle.feed_core.proofs.AboveLaw.{found_above}

-- what is above a name is a front of it, and a separator follows

front_of : (above name : List ℕ) → IsAbove above name → take (length above) name ≡ above
front_of above name is = ap (take (length above)) is.1 ∙ take-append_seam above (dot ∷ is.0)

dot_behind : (above name : List ℕ) → IsAbove above name → get_or name (length above) 0 ≡ dot
dot_behind above name is = ap (λ n. get_or n (length above) 0) is.1 ∙ get_or-append_seam above dot is.0 0

shorter : (above name : List ℕ) → IsAbove above name → length above < length name
shorter above name is = omega (arith, ap length is.1, length-append above (dot ∷ is.0))

none_from : (recs : Recs) (name : List ℕ) (n : ℕ) → NoneAbove recs name (suc n) → ((above : List ℕ) → IsAbove above name → length above ≡ n → rec_of_text recs above ≡ None)
    → NoneAbove recs name n
none_from recs name n none here above is least = ⊎_elim
    (λ (e : length above ≡ n). here above is e)
    (λ (ne : length above ≢ n). none above is (omega arith))
    (cases_eq (length above) n)

-- by whether a separator stands there, and what the name before it has
step_nearest : (recs : Recs) (name : List ℕ) (n : ℕ) → suc n ≤ length name → NoneAbove recs name (suc n)
    → (NoneAbove recs name n → IsNearestAbove recs name (above_within recs name n))
    → (is_dot : Bool) → nat_eq (get_or name n 0) dot ≡ is_dot → (it : Option Rec) → rec_of_text recs (take n name) ≡ it
    → IsNearestAbove recs name (if is_dot then or_else it (above_within recs name n) else above_within recs name n)
step_nearest recs name n le none rest true e (Some it) has = found_above recs name n (suc n) it (omega arith) (omega arith) none (grind (arith, nat_tests)) has
step_nearest recs name n le none rest true e None has =
    rest (none_from recs name n none
    (λ above is same. ap (rec_of_text recs) (sym (front_of above name is) ∙ ap (λ k. take k name) same) ∙ has))
step_nearest recs name n le none rest false e it has =
    rest (none_from recs name n none
    (λ above is same. (let behind : get_or name n 0 ≡ dot = ap (λ k. get_or name k 0) (sym same) ∙ dot_behind above name is in
    let both : nat_eq (get_or name n 0) dot ≡ true = grind (arith, nat_tests) in
    absurd (let no : true ≡ false = sym both ∙ e in cc))))

within_nearest : (recs : Recs) (name : List ℕ) (n : ℕ) → n ≤ length name → NoneAbove recs name n → IsNearestAbove recs name (above_within recs name n)
unfolding above_within
within_nearest recs name zero le none = none
within_nearest recs name (suc n) le none =
    step_nearest recs name n le none (within_nearest recs name n (omega arith)) (nat_eq (get_or name n 0) dot) refl (rec_of_text recs (take n name)) refl

pub found_nearest : (recs : Recs) (name : List ℕ) → IsNearestAbove recs name (above_at recs name)
found_nearest recs name =
    within_nearest recs name (length name) (omega arith) (λ above is least. absurd (omega (arith, least, shorter above name is)))

not_both : {A : Type 0} (found : Option Rec) (it : Rec) → found ≡ Some it → found ≡ None → A
not_both found it some none = absurd (let no : Some it ≡ None = sym some ∙ none in cc)

as_long : (recs : Recs) (name : List ℕ) (one other : Rec) (a : HasAbove recs name one) (b : HasAbove recs name other) → length a.above ≡ length b.above
as_long recs name one other a b = ⊎_elim
    (λ (e : length a.above ≡ length b.above). e)
    (λ (ne : length a.above ≢ length b.above). ⊎_elim
    (λ (lt : length a.above < length b.above). not_both (rec_of_text recs b.above) other b.has (a.nearest b.above b.is_above (omega arith)))
    (λ (ge : length b.above ≤ length a.above). not_both (rec_of_text recs a.above) one a.has (b.nearest a.above a.is_above (omega arith)))
    (cases_lt (length a.above) (length b.above)))
    (cases_eq (length a.above) (length b.above))

one_nearest : (recs : Recs) (name : List ℕ) (one other : Option Rec) → IsNearestAbove recs name one → IsNearestAbove recs name other → one ≡ other
one_nearest recs name None None a b = refl
one_nearest recs name None (Some it) a b = not_both (rec_of_text recs b.above) it b.has (a b.above b.is_above (omega arith))
one_nearest recs name (Some it) None a b = not_both (rec_of_text recs a.above) it a.has (b a.above a.is_above (omega arith))
one_nearest recs name (Some one) (Some other) a b =
    sym a.has
    ∙ ap (rec_of_text recs) (sym (front_of a.above name a.is_above) ∙ ap (λ k. take k name) (as_long recs name one other a b) ∙ front_of b.above name b.is_above)
    ∙ b.has

pub only_above : (recs : Recs) (name : List ℕ) (it : Option Rec) → IsNearestAbove recs name it → it ≡ above_at recs name
only_above recs name it is = one_nearest recs name it (above_at recs name) is (found_nearest recs name)
