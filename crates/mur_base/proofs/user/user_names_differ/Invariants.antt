use Rattle.std.proofs.Common.{◌≡◌, length}
use Rattle.mur_base.specs.Users.{user_names_differ}
use Rattle.mur_base.proofs.user.user_names_differ.Given as goal

abbrev pub invariant-loop-left : goal.invariant-loop-left
invariant-loop-left l = user_names_differ l.left ≡ user_names_differ l.users

abbrev pub decreases-loop-left : goal.decreases-loop-left
decreases-loop-left l = length l.left
