-- The history of a run, read off its marks alone: a mark counts by the next mark of its command.
use Rattle.std.specs.Prelude.{◌==◌, Bool, ◌&&◌, if◌then◌else◌, List, [], ◌∷◌, ◌++◌, Option, None, Some}
use Rattle.link_msg.specs.declared.counts.Counts.{Counts}
use Rattle.link_msg.specs.declared.counts.Counts.TheVariants.{Always, IfAnswered}
use Rattle.link_msg.specs.declared.how.How.TheVariants.{Here, Behind, Reserved, Unreached}
use Rattle.mur_base.specs.declared.point.AskId.{AskId}
use Rattle.mur_base.specs.declared.point.Point.{Point}
use Rattle.mur_base.specs.declared.point.What.{What}
use Rattle.mur_base.specs.declared.point.What.TheVariants.{Reply as replied, Lost as lost, Reserved as reserved, Unreached as unreached}
use Rattle.mark_history.specs.declared.mark.Mark.{Mark}
use Rattle.mark_history.specs.declared.mark.MarkKind.{MarkKind}
use Rattle.mark_history.specs.declared.mark.MarkKind.TheVariants.{Home, Told}

-- whether a mark is of this command
abbrev pub is_of : AskId → Mark → Bool
is_of ask mark = (mark.ask.conn == ask.conn) && (mark.ask.command == ask.command)

-- the first of these marks that is of the command
unfoldable pub next_of : AskId → List Mark → Option MarkKind
next_of ask [] = None
next_of ask (mark ∷ marks) = if is_of ask mark then Some mark.kind else next_of ask marks

-- what a home's step counts as if the client is never told: a loss, where the command was carried out
unfoldable pub untold_as : Counts → Option What
untold_as Always = Some lost
untold_as IfAnswered = None

-- what the step that answered counts as if the client is told that its command was refused: the refusal; but a step that always counts carried the
-- command out, whatever its client is told
unfoldable pub refused_as : Counts → What
refused_as Always = lost
refused_as IfAnswered = reserved

-- what a mark counts as, by the next one of its command: a home's step is the point of a command whose client is told behind it, and the master's of
-- one that was refused behind its OK; what a frontend tells by itself is its own step's, so also that a node isn't reached
unfoldable pub counts_as : MarkKind → Option MarkKind → Option What
counts_as (Told Here) next = Some replied
counts_as (Told Behind) next = None
counts_as (Told Reserved) next = None
counts_as (Told (Unreached node)) next = Some (unreached node)
counts_as (Home counts) None = untold_as counts
counts_as (Home counts) (Some (Told Behind)) = Some replied
counts_as (Home counts) (Some (Told Reserved)) = Some (refused_as counts)
counts_as (Home counts) (Some kind) = None

abbrev pub point_as : Mark → What → Point
point_as mark what = record { step = mark.step; ask = mark.ask; what = what }

unfoldable pub points_by : Mark → Option What → List Point
points_by mark None = []
points_by mark (Some what) = point_as mark what ∷ []

unfoldable pub points_of : List Mark → List Point
points_of [] = []
points_of (mark ∷ marks) = points_by mark (counts_as mark.kind (next_of mark.ask marks)) ++ points_of marks
