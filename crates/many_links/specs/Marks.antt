-- For which commands of clients a step counts, and when: a command that counts whatever becomes of it is carried out in that step.
use Rattle.std.specs.Prelude.{◌≡◌, List, [], ◌∷◌}
use Rattle.std.specs.List.{flat_map, AllByRecursion}
use Rattle.link_msg.specs.declared.counts.Counts.{Counts}
use Rattle.link_msg.specs.declared.counts.Counts.TheVariants.{IfAnswered}
use Rattle.link_msg.specs.declared.out.Out.{Out}
use Rattle.link_msg.specs.declared.out.Out.TheVariants.{Mark}
use Rattle.mur_base.specs.declared.point.AskId.{AskId}

abbrev pub mark_in : Out → List (AskId × Counts)
mark_in (Mark ask counts) = (ask, counts) ∷ []
mark_in out = []

abbrev pub marks_in : List Out → List (AskId × Counts)
marks_in outs = flat_map mark_in outs

-- the command is answered at most: it is refused, or has seen what there is
abbrev pub IsOnlyTold : AskId × Counts → Type 0
IsOnlyTold mark = mark.1 ≡ IfAnswered

abbrev pub CarryNoneOut : List Out → Type 0
CarryNoneOut outs = AllByRecursion IsOnlyTold (marks_in outs)
