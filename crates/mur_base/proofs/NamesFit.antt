-- A mailbox's name is within the limit of names.
use Rattle.std.proofs.Common.{◌≡◌, ◌≤◌, ℕ, Bool, true, false, nat_eq, nat_lt, List, length, None, refl, arith}
use Rattle.std.proofs.lemmas.Bool.Decides.{nat_tests}
use Rattle.mur_base.specs.declared.limits.TheConstants.{NAME_LIMIT}
use Rattle.mur_base.specs.Names.{mail_name_fault}

by_length : (text : List ℕ) (empty long : Bool) → nat_eq (length text) 0 ≡ empty → nat_lt NAME_LIMIT (length text) ≡ long → mail_name_fault text ≡ None
    → length text ≤ NAME_LIMIT
unfolding mail_name_fault
by_length text empty false e l none = grind (arith, nat_tests)
by_length text true true e l none = grind (arith, nat_tests)
by_length text false true e l none = absurd (grind (arith, rw (e, l) at none))

pub name_fits : (text : List ℕ) → mail_name_fault text ≡ None → length text ≤ NAME_LIMIT
name_fits text none = by_length text (nat_eq (length text) 0) (nat_lt NAME_LIMIT (length text)) refl refl none
