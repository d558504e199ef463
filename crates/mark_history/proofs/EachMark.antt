-- What holds of each mark holds of each point.
use Rattle.std.proofs.Common.{◌+◌, get_or, List, [], ◌∷◌, ◌++◌, length, Option, None, Some, ◌∙◌, subst, arith, length-append}
use Rattle.std.specs.Prelude.{All, AllPairs, Contains}
use Rattle.std.proofs.lemmas.List.{get_or_append_left, get_or-append-add, get_or_default}
use Rattle.std.proofs.lemmas.List.Elements.{All-head, All-nil, All-tail}
use Rattle.std.proofs.lemmas.List.Kept.{AllPairs-cons}
use Rattle.mur_base.specs.declared.point.Point.{Point}
use Rattle.mur_base.specs.declared.point.What.{What}
use Rattle.mark_history.specs.declared.mark.Mark.{Mark}
use Rattle.mark_history.specs.History.{counts_as, next_of, point_as, points_by, points_of}
use Rattle.mark_history.proofs.Marks.{head_pairs, tail_pairs}
use Rattle.mark_history.proofs.Reached.{put_by}

pub points_each : (Q : Mark → Type 0) (P : Point → Type 0) → ((mark : Mark) (what : What) → Q mark → P (point_as mark what))
    → (marks : List Mark) → All Q marks → All P (points_of marks)
unfolding points_of
points_each Q P of [] all = All-nil P
points_each Q P of (mark ∷ marks) all =
    put_by P mark (counts_as mark.kind (next_of mark.ask marks)) (points_of marks) (λ what counts. of mark what (All-head Q mark marks all))
    (points_each Q P of marks (All-tail Q mark marks all))

put_pairs : (R : Point → Point → Type 0) (mark : Mark) (what : Option What) (points : List Point) → ((w : What) → All (R (point_as mark w)) points)
    → AllPairs R points → AllPairs R (points_by mark what ++ points)
unfolding points_by
put_pairs R mark None points own rest = rest
put_pairs R mark (Some what) points own rest = AllPairs-cons R (point_as mark what) points (own what) rest

-- and of each two
pub points_pairs : (S : Mark → Mark → Type 0) (R : Point → Point → Type 0)
    → ((one other : Mark) (what its : What) → S one other → R (point_as one what) (point_as other its))
    → (marks : List Mark) → AllPairs S marks → AllPairs R (points_of marks)
unfolding points_of
points_pairs S R of [] pairs = λ i j d h k. absurd (omega arith)
points_pairs S R of (mark ∷ marks) pairs =
    put_pairs R mark (counts_as mark.kind (next_of mark.ask marks)) (points_of marks)
    (λ what. points_each (S mark) (R (point_as mark what)) (λ m its related. of mark m what its related) marks (head_pairs S mark marks pairs))
    (points_pairs S R of marks (tail_pairs S mark marks pairs))

-- one of a list and one behind it
pub across : {T : Type 0} (R : T → T → Type 0) (xs ys : List T) (x y : T) → AllPairs R (xs ++ ys) → Contains xs x → Contains ys y → R x y
across R xs ys x y pairs one other =
    subst (λ b. R x b) (get_or-append-add xs ys other.0 x ∙ get_or_default ys other.0 x y other.1 ∙ other.2)
    (subst (λ a. R a (get_or (xs ++ ys) (length xs + other.0) x)) (get_or_append_left xs ys x one.0 one.1 ∙ one.2)
    (pairs one.0 (length xs + other.0) x (omega (arith, one.1)) (omega (arith, one.1, other.1, length-append xs ys))))
