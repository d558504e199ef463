use Rattle.std.proofs.Common.{ℕ, ◌<◌, ◌≤◌, length, get_or}
use Rattle.imap_wire.specs.Literal.{IsDigit}
use Rattle.imap_wire.proofs.literal.digits_at.Given as goal

abbrev pub invariant-loop-at : goal.invariant-loop-at
invariant-loop-at l = record { within : l.at ≤ length l.bytes; digits : (k : ℕ) → l.at ≤ k → k < length l.bytes → IsDigit (get_or l.bytes k 0) }

abbrev pub decreases-loop-at : goal.decreases-loop-at
decreases-loop-at l = l.at
