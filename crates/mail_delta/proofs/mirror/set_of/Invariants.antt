use Rattle.std.proofs.Common.{◌≡◌, ℕ, ◌||◌, drop}
use Rattle.std.specs.Option.{is_some}
use Rattle.std.specs.Ordering.{nat_cmp}
use Rattle.mur_base.specs.Map.{value_at}
use Rattle.mail_delta.specs.Deltas.{is_among}
use Rattle.mail_delta.proofs.mirror.set_of.Given as goal

abbrev pub invariant-loop-uid : goal.invariant-loop-uid
invariant-loop-uid l = (k : ℕ) → is_some (value_at nat_cmp l.set k) || is_among (drop l.uid-index l.uids) k ≡ is_among l.uids k
