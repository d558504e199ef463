-- What is kept of the next mark of a command while marks are walked from the last to the first: enough for the one before it to count by.
use Rattle.std.specs.Prelude.{Option, None, Some}
use Rattle.link_msg.specs.declared.how.How.TheVariants as how
use Rattle.mur_base.specs.declared.point.What.{What}
use Rattle.mur_base.specs.declared.point.What.TheVariants.{Reply as replied, Unreached as unreached}
use Rattle.mark_history.specs.declared.history.Later.{Later}
use Rattle.mark_history.specs.declared.history.Later.TheVariants.{Behind, Reserved, Another}
use Rattle.mark_history.specs.declared.mark.MarkKind.{MarkKind}
use Rattle.mark_history.specs.declared.mark.MarkKind.TheVariants.{Home, Told}
use Rattle.mark_history.specs.History.{refused_as, untold_as}

unfoldable pub later_of : MarkKind → Later
later_of (Told how.Behind) = Behind
later_of (Told how.Reserved) = Reserved
later_of kind = Another

-- what a mark counts as, by that
unfoldable pub counts_by : MarkKind → Option Later → Option What
counts_by (Told how.Here) next = Some replied
counts_by (Told how.Behind) next = None
counts_by (Told how.Reserved) next = None
counts_by (Told (how.Unreached node)) next = Some (unreached node)
counts_by (Home counts) None = untold_as counts
counts_by (Home counts) (Some Behind) = Some replied
counts_by (Home counts) (Some Reserved) = Some (refused_as counts)
counts_by (Home counts) (Some Another) = None
