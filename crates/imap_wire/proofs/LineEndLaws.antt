-- The end of a line as the program reaches it.
use Rattle.std.proofs.Common.{◌≡◌, ℕ, ◌-◌, ◌^◌, Bool, true, false, nat_lt, cond, List, [], ◌∷◌, ◌++◌, length, take, drop, min, Option}
use Rattle.std.proofs.Common.{None, Some, inl, inr, refl, sym, ◌∙◌, arith}
use Rattle.std.specs.Option.{option_map}
use Rattle.std.proofs.lemmas.Bool.{cases_lt, cases_Bool}
use Rattle.std.proofs.lemmas.Bool.Decides.{nat_tests}
use Rattle.mur_base.specs.declared.limits.TheConstants.{MESSAGE_LIMIT, PLUS_LITERAL_LIMIT}
use Rattle.imap_wire.specs.declared.literal.Literal.{Literal}
use Rattle.mur_base.specs.Ascii.{ends_with_cr}
use Rattle.imap_wire.specs.Literal.{announced, admission_of, capped}
use Rattle.imap_wire.specs.Steps.{State, step, line_end, announced_step, at_line_end}
use Rattle.imap_wire.proofs.StepLaws.{step-end}
use Rattle.imap_wire.proofs.LineLaws.{without_last-is}
use Rattle.imap_wire.proofs.MoveLaws.{kept, no_line}

-- a size past 64 bits is refused as the largest of 64 bits is, and a smaller one stays
announced_step-capped : (s : State) (literal : Literal) → announced_step (admission_of (capped literal) s.literal_room) s (capped literal) ≡ announced_step
    (admission_of literal s.literal_room) s literal
unfolding admission_of announced_step
announced_step-capped s literal = elim (cases_lt literal.size (2 ^ 64)) [
  | inl small ↦ let same : min literal.size (2 ^ 64 - 1) ≡ literal.size = omega arith in rw same refl
  | inr large ↦
      let past : nat_lt MESSAGE_LIMIT (min literal.size (2 ^ 64 - 1)) ≡ true = grind (arith, nat_tests) in
      let past_plus : nat_lt PLUS_LITERAL_LIMIT (min literal.size (2 ^ 64 - 1)) ≡ true = grind (arith, nat_tests) in
      let whole : nat_lt MESSAGE_LIMIT literal.size ≡ true = grind (arith, nat_tests) in
      let whole_plus : nat_lt PLUS_LITERAL_LIMIT literal.size ≡ true = grind (arith, nat_tests) in
      elim (cases_Bool literal.waits) [
        | inl waits ↦ rw (waits, past, whole) refl
        | inr comes ↦ rw (comes, past_plus, whole_plus) refl
      ]
]

line_end-capped : (s : State) (literal : Option Literal) → line_end s (option_map capped literal) ≡ line_end s literal
unfolding line_end
line_end-capped s None = refl
line_end-capped s (Some literal) = announced_step-capped s literal

pub line_end-step : (s between : State) (text : List ℕ) (literal : Option Literal) → s.spent ≡ false → s.literal_left ≡ 0
    → ends_with_cr s.line ≡ true
    → text ≡ take (length s.line - 1) s.line → literal ≡ option_map capped (announced text) → between ≡ at_line_end s text
    → line_end between literal ≡ step s 10
line_end-step s between text literal going in_line cr text_is literal_is between_is =
    let same = text_is ∙ without_last-is s.line in
    rw (between_is, literal_is, line_end-capped (at_line_end s text) (announced text), same) (sym (step-end s going in_line cr))

pub kept-line_end : (bytes all front last grown : List ℕ) (text line_at at room less literal_room left : ℕ) (spent : Bool) (line : List ℕ) → all ≡ bytes ++ 10 ∷ []
    → at ≡ length grown → less ≡ room - text → text ≡ length line
    → kept all [] grown at less literal_room left spent ≡ at_line_end (kept bytes front last line_at room literal_room left spent) line
kept-line_end bytes all front last grown text line_at at room less literal_room left spent line all_is at_is less_is text_is =
    let empty : cond (nat_lt 0 left) [] (drop at grown) ≡ [] = no_line (nat_lt 0 left) grown at (omega arith) in
    rw (empty, all_is, less_is, text_is) refl
