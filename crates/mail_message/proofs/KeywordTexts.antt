-- A text that breaks no rule of keywords is short.
use Rattle.std.proofs.Common.{◌≡◌, ℕ, ◌≤◌, List, length, Bool, true, false, not, cond, ◌==◌, nat_lt, None, Some, refl, arith}
use Rattle.std.proofs.lemmas.Bool.Decides.{nat_tests}
use Rattle.mur_base.specs.declared.limits.TheConstants.{KEYWORD_LIMIT}
use Rattle.mur_base.specs.declared.name.NameFault.TheVariants.{Empty, TooLong, BadByte}
use Rattle.mail_message.specs.Keywords.{keyword_fault, has_atom_bytes}

second_rule : (x y z : Bool) → cond x (Some Empty) (cond y (Some TooLong) (cond (not z) (Some BadByte) None)) ≡ None → y ≡ false
second_rule x true z h = by x h
  where
    by : (x : Bool) → cond x (Some Empty) (Some TooLong) ≡ None → true ≡ false
    by true h = cc
    by false h = cc
second_rule x false z h = refl

pub keyword_short : (text : List ℕ) → keyword_fault text ≡ None → length text ≤ 64
unfolding keyword_fault
keyword_short text h =
    let short : nat_lt KEYWORD_LIMIT (length text) ≡ false = second_rule (length text == 0) (nat_lt KEYWORD_LIMIT (length text)) (has_atom_bytes text) h in
    grind (arith, nat_tests, short)
