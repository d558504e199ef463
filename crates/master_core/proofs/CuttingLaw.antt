-- Bytes are cut into lines byte by byte as they are at once.
use Rattle.std.proofs.Common.{◌≡◌, ℕ, ◌+◌, ◌≤◌, List, [], ◌∷◌, ◌++◌, length, take, drop, Bool, true, false, ◌&&◌, not, nat_eq, cond, Option, None, Some, ⊎_elim, refl, sym, ap, ◌∙◌, subst}
use Rattle.std.proofs.Common.{append-nil, append_assoc, eqb-true, arith, zero, suc, ◌-◌}
use Rattle.std.proofs.lemmas.List.{take-append-drop, drop-drop}
use Rattle.std.specs.Option.{option_to_list, IfSome}
use Rattle.grammar.proofs.Conditions.{and_left, and_right}
use Rattle.mupdate_codec.specs.Answers.{IsBegun}
use Rattle.mupdate_codec.specs.Commands.{IsCommandLine}
use Rattle.mupdate_codec.specs.Cut.{IsUncut, EndsLine, IsCut, waits, cuts, Feeds}
use Rattle.mupdate_codec.specs.Waits.{goes_on}
use Rattle.mupdate_codec.proofs.CutLaw.{goes_to, goes_from, lf_in, cut_once}
use Rattle.mupdate_codec.proofs.CutSteps.{rest_is}
use Rattle.master_core.specs.Cutting.{Cut, ends_at, with_line, cut_from}

abbrev pub HasCut : List ℕ → Cut → Type 0
HasCut bytes cut = IsCut bytes cut.lines cut.begun

no_bytes : (front rest : List ℕ) (c : ℕ) → [] ≡ front ++ c ∷ rest → ⊥
no_bytes [] rest c e = cc
no_bytes (d ∷ front) rest c e = cc

uncut_nothing : IsUncut []
uncut_nothing front rest e = absurd (no_bytes front rest 10 e)

-- one byte more, at which no line ends
uncut_more : (begun : List ℕ) (byte : ℕ) → IsUncut begun → ends_at byte (begun ++ byte ∷ []) ≡ false → IsUncut (begun ++ byte ∷ [])
uncut_more begun byte u h front rest e = ⊎_elim (λ r. u front r.0 r.1) (λ f. by_last f.0 f.1 f.2) (lf_in begun (byte ∷ []) front rest e)
  where
    by_goes : (b : Bool) → goes_on (begun ++ byte ∷ []) ≡ b → byte ≡ 10 → (nat_eq byte 10 && not b) ≡ false → goes_on (begun ++ byte ∷ []) ≡ true
    by_goes true is last h = is
    by_goes false is last h = let two : (nat_eq 10 10 && true) ≡ false = ap (λ n. nat_eq n 10 && true) (sym last) ∙ h in cc

    by_last : (f : List ℕ) → front ≡ begun ++ f → byte ∷ [] ≡ f ++ 10 ∷ rest → IsBegun IsCommandLine (front ++ 10 ∷ [])
    by_last [] is k =
        let last : byte ≡ 10 = cc in
        let same : begun ++ byte ∷ [] ≡ front ++ 10 ∷ [] = ap (λ n. begun ++ n ∷ []) last ∙ ap (λ s. s ++ 10 ∷ []) (sym (is ∙ append-nil begun)) in
        subst (IsBegun IsCommandLine) same (goes_to (begun ++ byte ∷ []) (by_goes (goes_on (begun ++ byte ∷ [])) refl last h))
    by_last (c ∷ f) is k = let none : [] ≡ f ++ 10 ∷ rest = cc in absurd (no_bytes f rest 10 none)

-- a byte that ends a line
line_ends : (begun : List ℕ) (byte : ℕ) → IsUncut begun → ends_at byte (begun ++ byte ∷ []) ≡ true → EndsLine (begun ++ byte ∷ [])
line_ends begun byte u h = record {
  front = begun;
  parts = ap (λ n. begun ++ n ∷ []) (eqb-true byte 10 (and_left (nat_eq byte 10) _ h));
  uncut = u;
  ends = λ b. let goes = goes_from (begun ++ byte ∷ []) b in let both : not true ≡ true = ap not (sym goes) ∙ and_right (nat_eq byte 10) _ h in cc;
}

-- the lines are those of the bytes
pub cut_is : (begun piece : List ℕ) → IsUncut begun → HasCut (begun ++ piece) (cut_from begun piece)
unfolding cut_from
cut_is begun [] u = subst (λ s. IsCut s [] begun) (sym (append-nil begun)) (waits begun u)
cut_is begun (byte ∷ more) u =
    subst (λ s. HasCut s (cut_from begun (byte ∷ more))) (append_assoc begun (byte ∷ []) more)
    (by_end (ends_at byte (begun ++ byte ∷ [])) refl (cut_is [] more uncut_nothing) (λ v. cut_is (begun ++ byte ∷ []) more v))
  where
    by_end : (b : Bool) → ends_at byte (begun ++ byte ∷ []) ≡ b → HasCut more (cut_from [] more)
        → (IsUncut (begun ++ byte ∷ []) → HasCut ((begun ++ byte ∷ []) ++ more) (cut_from (begun ++ byte ∷ []) more))
        → HasCut ((begun ++ byte ∷ []) ++ more) (cond b (with_line (begun ++ byte ∷ []) (cut_from [] more)) (cut_from (begun ++ byte ∷ []) more))
    by_end true is next on = cuts (begun ++ byte ∷ []) more (cut_from [] more).lines (cut_from [] more).begun (line_ends begun byte u is) next
    by_end false is next on = on (uncut_more begun byte u is)

-- as many pieces as there may be: the lines so far, and those to come
pub record CutsOn (begun piece : List ℕ) (before lines : List (List ℕ)) (self : Option (List ℕ)) (taken : ℕ) : Type 0 where
  pub now : List ℕ
  pub is : self ≡ Some now
  pub lines_are : lines ++ (cut_from now (drop taken piece)).lines ≡ before ++ (cut_from begun piece).lines
  pub begun_is : (cut_from now (drop taken piece)).begun ≡ (cut_from begun piece).begun

-- what the cutter gives of the rest of a piece is what is cut of it
pub record FedOn (now rest : List ℕ) (line : Option (List ℕ)) (more : ℕ) (next : Option (List ℕ)) : Type 0 where
  pub after : List ℕ
  pub is : next ≡ Some after
  pub lines_are : option_to_list line ++ (cut_from after (drop more rest)).lines ≡ (cut_from now rest).lines
  pub begun_is : (cut_from after (drop more rest)).begun ≡ (cut_from now rest).begun

drop_all : (xs : List ℕ) → drop (length xs) xs ≡ []
drop_all [] = refl
drop_all (x ∷ xs) = drop_all xs

pub fed_is : (now rest : List ℕ) (line : Option (List ℕ)) (more : ℕ) (next : Option (List ℕ)) → IsUncut now → Feeds now rest line more next → FedOn now rest line more next
unfolding cut_from
fed_is now rest None more next u f =
    let one = cut_once (now ++ rest) (now ++ rest) [] (cut_from now rest).lines (now ++ rest) (cut_from now rest).begun refl (waits (now ++ rest) f.2) (cut_is now rest u) in
    let gone : drop more rest ≡ [] = ap (λ n. drop n rest) f.0 ∙ drop_all rest in
    record {
      after = now ++ rest;
      is = f.1;
      lines_are = ap (λ s. (cut_from (now ++ rest) s).lines) gone ∙ one.0;
      begun_is = ap (λ s. (cut_from (now ++ rest) s).begun) gone ∙ one.1;
    }
fed_is now rest (Some line) more next u f =
    let parts : line ++ drop more rest ≡ now ++ rest = ap (λ s. s ++ drop more rest) f.1 ∙ append_assoc now (take more rest) (drop more rest)
    ∙ ap (λ s. now ++ s) (take-append-drop more rest) in
    let whole = cuts line (drop more rest) (cut_from [] (drop more rest)).lines (cut_from [] (drop more rest)).begun f.2 (cut_is [] (drop more rest) uncut_nothing) in
    let one = cut_once (line ++ drop more rest) (now ++ rest) (line ∷ (cut_from [] (drop more rest)).lines) (cut_from now rest).lines
    (cut_from [] (drop more rest)).begun (cut_from now rest).begun parts whole (cut_is now rest u) in
    record { after = []; is = f.3; lines_are = one.0; begun_is = one.1 }

-- one call more
pub cuts_more : (begun piece : List ℕ) (before lines : List (List ℕ)) (self : Option (List ℕ)) (taken more : ℕ) (line : Option (List ℕ)) (next : Option (List ℕ))
    → CutsOn begun piece before lines self taken → IfSome self IsUncut → IfSome self (λ now. Feeds now (drop taken piece) line more next)
    → CutsOn begun piece before (lines ++ option_to_list line) next (taken + more)
cuts_more begun piece before lines self taken more line next on u f =
    let fed = fed_is on.now (drop taken piece) line more next (subst (λ s. IfSome s IsUncut) on.is u) (subst (λ s. IfSome s (λ now. Feeds now (drop taken piece) line more next)) on.is f) in
    let rest : drop more (drop taken piece) ≡ drop (taken + more) piece = drop-drop more taken piece in
    record {
      now = fed.after;
      is = fed.is;
      lines_are = ap (λ s. (lines ++ option_to_list line) ++ (cut_from fed.after s).lines) (sym rest)
          ∙ append_assoc lines (option_to_list line) (cut_from fed.after (drop more (drop taken piece))).lines
          ∙ ap (λ s. lines ++ s) fed.lines_are ∙ on.lines_are;
      begun_is = ap (λ s. (cut_from fed.after s).begun) (sym rest) ∙ fed.begun_is ∙ on.begun_is;
    }

-- the same of a cutter that may be spent

abbrev pub CutsSoFar : List ℕ → Option (List ℕ) → List (List ℕ) → List (List ℕ) → Option (List ℕ) → ℕ → Type 0
CutsSoFar piece start before lines self taken = IfSome start (λ begun. CutsOn begun piece before lines self taken)

pub cuts_step : (piece : List ℕ) (start : Option (List ℕ)) (before lines : List (List ℕ)) (self : Option (List ℕ)) (taken more : ℕ) (line : Option (List ℕ)) (next : Option (List ℕ))
    → CutsSoFar piece start before lines self taken → IfSome self IsUncut
    → IfSome self (λ now. Feeds now (take (length piece - taken) (drop taken piece)) line more next)
    → CutsSoFar piece start before (lines ++ option_to_list line) next (taken + more)
cuts_step piece None before lines self taken more line next on u f = on
cuts_step piece (Some begun) before lines self taken more line next on u f =
    cuts_more begun piece before lines self taken more line next on u (subst (λ r. IfSome self (λ now. Feeds now r line more next)) (rest_is piece taken) f)

drop_over : (xs : List ℕ) (n : ℕ) → length xs ≤ n → drop n xs ≡ []
drop_over [] zero h = refl
drop_over [] (suc n) h = refl
drop_over (x ∷ xs) zero h = absurd (omega arith)
drop_over (x ∷ xs) (suc n) h = drop_over xs n (omega arith)

-- all of a piece
pub lines_end : (piece : List ℕ) (start : Option (List ℕ)) (before lines : List (List ℕ)) (self : Option (List ℕ)) (taken : ℕ) → length piece ≤ taken
    → CutsSoFar piece start before lines self taken → IfSome start (λ begun. lines ≡ before ++ (cut_from begun piece).lines)
unfolding cut_from
lines_end piece None before lines self taken over on = tt
lines_end piece (Some begun) before lines self taken over on =
    sym (append-nil lines) ∙ ap (λ s. lines ++ (cut_from on.now s).lines) (sym (drop_over piece taken over)) ∙ on.lines_are

pub begun_end : (piece : List ℕ) (start : Option (List ℕ)) (before lines : List (List ℕ)) (self : Option (List ℕ)) (taken : ℕ) → length piece ≤ taken
    → CutsSoFar piece start before lines self taken → IfSome start (λ begun. self ≡ Some (cut_from begun piece).begun)
unfolding cut_from
begun_end piece None before lines self taken over on = tt
begun_end piece (Some begun) before lines self taken over on =
    on.is ∙ ap Some (ap (λ s. (cut_from on.now s).begun) (sym (drop_over piece taken over)) ∙ on.begun_is)
