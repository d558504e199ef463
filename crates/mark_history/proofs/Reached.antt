-- Marks that tell of no server that isn't reached have no point that does.
use Rattle.std.proofs.Common.{◌≡◌, ℕ, List, [], ◌∷◌, ◌++◌, Option, None, Some, refl, ◌∙◌, ap}
use Rattle.std.specs.Prelude.{All}
use Rattle.std.proofs.lemmas.List.Elements.{All-cons, All-head, All-nil, All-tail}
use Rattle.link_msg.specs.declared.counts.Counts.TheVariants.{Always, IfAnswered}
use Rattle.link_msg.specs.declared.how.How.TheVariants.{Here, Behind, Reserved, Unreached}
use Rattle.mur_base.specs.declared.point.Point.{Point}
use Rattle.mur_base.specs.declared.point.What.{What}
use Rattle.mur_base.specs.declared.point.What.TheVariants.{Unreached as unreached}
use Rattle.mark_history.specs.declared.mark.Mark.{Mark}
use Rattle.mark_history.specs.declared.mark.MarkKind.{MarkKind}
use Rattle.mark_history.specs.declared.mark.MarkKind.TheVariants.{Home, Told}
use Rattle.mark_history.specs.History.{counts_as, next_of, point_as, points_by, points_of, refused_as, untold_as}
use Rattle.mark_history.specs.Reached.{IsReached}

pub put_by : (P : Point → Type 0) (mark : Mark) (what : Option What) (points : List Point) → ((w : What) → what ≡ Some w → P (point_as mark w)) → All P points
    → All P (points_by mark what ++ points)
unfolding points_by
put_by P mark None points own rest = rest
put_by P mark (Some what) points own rest = All-cons P (point_as mark what) points (own what refl) rest

-- a mark tells of no node that isn't reached
abbrev pub TellsReached : Mark → Type 0
TellsReached mark = (node : List ℕ) → mark.kind ≡ Told (Unreached node) → ⊥

counts_reached : (kind : MarkKind) (next : Option MarkKind) (node : List ℕ) → counts_as kind next ≡ Some (unreached node) → kind ≡ Told (Unreached node)
unfolding counts_as refused_as untold_as
counts_reached (Told Here) next node e = cc
counts_reached (Told Behind) next node e = cc
counts_reached (Told Reserved) next node e = cc
counts_reached (Told (Unreached other)) next node e = let same : other ≡ node = cc in ap {B = MarkKind} (λ n. Told (Unreached n)) same
counts_reached (Home Always) None node e = cc
counts_reached (Home IfAnswered) None node e = cc
counts_reached (Home counts) (Some (Told Behind)) node e = cc
counts_reached (Home counts) (Some (Told Here)) node e = cc
counts_reached (Home counts) (Some (Told (Unreached other))) node e = cc
counts_reached (Home counts) (Some (Home other)) node e = cc
counts_reached (Home Always) (Some (Told Reserved)) node e = cc
counts_reached (Home IfAnswered) (Some (Told Reserved)) node e = cc

pub all_reached : (marks : List Mark) → All TellsReached marks → All IsReached (points_of marks)
unfolding points_of
all_reached [] reached = All-nil IsReached
all_reached (mark ∷ marks) reached =
    put_by IsReached mark (counts_as mark.kind (next_of mark.ask marks)) (points_of marks)
    (λ what counts node is. All-head TellsReached mark marks reached node
    (counts_reached mark.kind (next_of mark.ask marks) node (counts ∙ ap {B = Option What} (λ w. Some w) is)))
    (all_reached marks (All-tail TellsReached mark marks reached))
