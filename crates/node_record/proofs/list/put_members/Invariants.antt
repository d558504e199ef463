use Rattle.std.proofs.Common.{◌≡◌, ◌++◌, drop}
use Rattle.node_record.specs.Parts.{members_text}
use Rattle.node_record.proofs.list.put_members.Given as goal

-- what is written so far and the members that are left make the whole text
abbrev pub invariant-loop-member : goal.invariant-loop-member
invariant-loop-member g l =
    l.out ++ members_text (g.P.Production.form l.of).text (drop l.member-index l.members)
    ≡ l.initial.out ++ members_text (g.P.Production.form l.of).text l.members
