use Rattle.std.proofs.Common.{◌≡◌, []}
use Rattle.node_record.specs.Parts.{more}
use Rattle.node_record.proofs.list.list_of.Given as goal

-- the members that are left, behind those so far, read what all of them do
abbrev pub invariant-loop-left : goal.invariant-loop-left
invariant-loop-left g l =
    (more (g.P.Production.form l.of).part l.left l.members).at l.rest ≡ (more (g.P.Production.form l.of).part l.initial.left []).at l.initial.rest

abbrev pub decreases-loop-left : goal.decreases-loop-left
decreases-loop-left g l = l.left
