use Rattle.std.proofs.Common.{◌≡◌, length}
use Rattle.grammar.specs.Part.{turns}
use Rattle.grammar.proofs.turn.repeated_of.Given as goal

-- the turns that are left, from the state so far, read what all of them do
abbrev pub invariant-loop-left : goal.invariant-loop-left
invariant-loop-left g l =
    (turns (g.T.Turn.starts l.turn) (g.T.Turn.part l.turn) l.left l.state).at l.rest
    ≡ (turns (g.T.Turn.starts l.turn) (g.T.Turn.part l.turn) (length l.bytes) l.initial.state).at l.bytes

abbrev pub decreases-loop-left : goal.decreases-loop-left
decreases-loop-left g l = l.left
