-- The points of a history are in the order of their steps, each behind its command, and before what its client is told.
use Rattle.std.proofs.Common.{◌≡◌, ◌≢◌, ◌+◌, ◌≤◌, Bool, true, false, List, [], ◌∷◌, ◌++◌, length, if◌then◌else◌, None, Some, refl, sym, ◌∙◌, ap, subst, arith}
use Rattle.std.proofs.Common.{length-append}
use Rattle.std.specs.Prelude.{All, AllPairs, Contains}
use Rattle.std.proofs.Math.Logic.{⊎_elim}
use Rattle.std.proofs.lemmas.Bool.{cases_eq}
use Rattle.std.proofs.lemmas.List.Elements.{All-append, All-contains, All-contains_itself, All-head, All-nil, All-tail, All-weaker, Contains-append_right}
use Rattle.link_msg.specs.declared.counts.Counts.TheVariants.{IfAnswered}
use Rattle.mur_base.specs.declared.point.AskId.{AskId}
use Rattle.mur_base.specs.declared.point.Point.{Point}
use Rattle.mur_base.specs.declared.point.What.{What}
use Rattle.mur_model.specs.History.{loses}
use Rattle.mark_history.specs.declared.mark.Mark.{Mark}
use Rattle.mark_history.specs.declared.mark.MarkKind.{MarkKind}
use Rattle.mark_history.specs.declared.mark.MarkKind.TheVariants.{Home, Told}
use Rattle.mark_history.specs.History.{counts_as, is_of, next_of, point_as, points_of, untold_as}
use Rattle.mark_history.specs.Marked.{Tale}
use Rattle.mark_history.specs.Moments.{LaterAreInTime, LosesTheOpen, NoneIsLater, StandsBeforeReply, StandsBehindCommand, StepsRise}
use Rattle.mark_history.proofs.ByLast.{points_by_last}
use Rattle.mark_history.proofs.EachMark.{across, points_each, points_pairs}
use Rattle.mark_history.proofs.Late.{same_points as late_points}
use Rattle.mark_history.proofs.Marks.{Later, all_points, counts_of}
use Rattle.mark_history.proofs.MarkLaw.{holds}
use Rattle.mark_history.proofs.Reached.{put_by}
use Rattle.mark_history.proofs.Tally.{command_of, conn_of, of_equal}
use Rattle.mark_history.proofs.Tellings.{EndsTelling, HasTellings, has_tellings}

pub steps_rise : StepsRise
steps_rise setting now marks tale made =
    let its = holds setting now marks tale made in
    subst (AllPairs (λ (one other : Point). one.step ≤ other.step)) (sym (late_points (counts_of tale.told) marks its.early its.late))
    (points_pairs Later (λ (one other : Point). one.step ≤ other.step) (λ one other what its behind. behind.1) its.early its.order.later)

pub none_is_later : NoneIsLater
none_is_later setting now marks tale made =
    points_each (λ (m : Mark). m.step ≤ now) (λ (p : Point). p.step ≤ now) (λ mark what low. low) marks (holds setting now marks tale made).timely

pub loses_the_open : LosesTheOpen
loses_the_open setting now marks tale made =
    let its = holds setting now marks tale made in
    subst (All (λ (p : Point). loses p.what ≡ true → p.ask.command ≡ length (tale.told p.ask.conn) + 1))
    (sym (late_points (counts_of tale.told) marks its.early its.late ∙ points_by_last setting now its.early tale its.law))
    (all_points (counts_of tale.told) (λ (m : Mark). command_of m ≤ length (tale.talk.answers (conn_of m)))
    (λ (p : Point). loses p.what ≡ true → p.ask.command ≡ length (tale.told p.ask.conn) + 1)
    (λ mark point bound is. λ loss. omega (
      arith,
      bound,
      is.if_lost loss,
      ap length (its.so (conn_of mark)).parts,
      length-append (tale.told (conn_of mark)) (its.so (conn_of mark)).rest,
      (its.so (conn_of mark)).few,
      ap (λ (a : AskId). a.command) is.same_ask,
      ap (λ (a : AskId). length (tale.told a.conn)) is.same_ask,
    ))
    its.law.acting its.law.is_told.fit its.law.is_told.numbers)

-- ---- a command of which its client was told by now

-- a mark of it that counts only if the client is told
abbrev IsLate : Tale → Mark → Type 0
IsLate tale mark = command_of mark ≤ length (tale.told (conn_of mark)) → mark.kind ≡ Home IfAnswered

-- each mark of a later step is such a one
later_late : (marks rest : List Mark) (tale whole : Tale) → HasTellings marks tale → HasTellings (marks ++ rest) whole → All (IsLate tale) rest
later_late marks rest tale whole now has =
    All-weaker (Contains rest) (IsLate tale)
    (λ mark there low. ⊎_elim
    (λ (none : command_of mark ≡ 0). All-contains (λ (m : Mark). command_of m ≡ 0 → m.kind ≡ Home IfAnswered) (marks ++ rest) mark has.from_one
    (Contains-append_right marks rest mark there) none)
    (λ (some : command_of mark ≢ 0).
    let told = now.each (conn_of mark) (command_of mark) (omega (arith, some)) low in
    across EndsTelling marks rest told.mark mark has.ends told.there there told.tells told.its_conn (omega (arith, told.its_number)))
    (cases_eq (command_of mark) 0))
    rest (All-contains_itself rest)

counts_none : counts_as (Home IfAnswered) None ≡ None
unfolding counts_as untold_as
counts_none = refl

counts_late : (kind : MarkKind) → kind ≡ Home IfAnswered → counts_as (Home IfAnswered) (Some kind) ≡ None
unfolding counts_as
counts_late (Home counts) late = refl
counts_late (Told how) late = cc

-- so none of them has a next one by which it counts
none_counts : (tale : Tale) (ask : AskId) (marks : List Mark) → ask.command ≤ length (tale.told ask.conn) → All (IsLate tale) marks
    → counts_as (Home IfAnswered) (next_of ask marks) ≡ None
unfolding next_of
none_counts tale ask [] low all = counts_none
none_counts tale ask (mark ∷ marks) low all = by (is_of ask mark) refl (none_counts tale ask marks low (All-tail (IsLate tale) mark marks all))
  where
    by : (own : Bool) → is_of ask mark ≡ own → counts_as (Home IfAnswered) (next_of ask marks) ≡ None
        → counts_as (Home IfAnswered) (if own then Some mark.kind else next_of ask marks) ≡ None
    by true own rest =
        (let both = of_equal ask mark own in
        counts_late mark.kind
        (All-head (IsLate tale) mark marks all (omega (arith, low, both.1, ap (λ c. length (tale.told c)) both.0))))
    by false own rest = rest

late_points_by : (P : Point → Type 0) (tale : Tale) (marks : List Mark) → ((mark : Mark) (what : What)
    → (command_of mark ≤ length (tale.told (conn_of mark)) → ⊥) → P (point_as mark what)) → All (IsLate tale) marks → All P (points_of marks)
unfolding points_of
late_points_by P tale [] of all = All-nil P
late_points_by P tale (mark ∷ marks) of all =
    put_by P mark (counts_as mark.kind (next_of mark.ask marks)) (points_of marks)
    (λ what counts. of mark what
    (λ low.
    let none : None ≡ Some what =
    sym (ap (λ k. counts_as k (next_of mark.ask marks)) (All-head (IsLate tale) mark marks all low)
    ∙ none_counts tale mark.ask marks low (All-tail (IsLate tale) mark marks all)) ∙ counts in cc))
    (late_points_by P tale marks of (All-tail (IsLate tale) mark marks all))

-- what holds of each of these marks, and of each point of those behind them, holds of each point
points_behind : (Q : Mark → Type 0) (P : Point → Type 0) → ((mark : Mark) (what : What) → Q mark → P (point_as mark what)) → (marks rest : List Mark)
    → All Q marks → All P (points_of rest) → All P (points_of (marks ++ rest))
unfolding points_of
points_behind Q P of [] rest all behind = behind
points_behind Q P of (mark ∷ marks) rest all behind =
    put_by P mark (counts_as mark.kind (next_of mark.ask (marks ++ rest))) (points_of (marks ++ rest))
    (λ what counts. of mark what (All-head Q mark marks all))
    (points_behind Q P of marks rest (All-tail Q mark marks all) behind)

pub later_are_in_time : LaterAreInTime
later_are_in_time setting now at marks later tale whole made last on =
    let has = has_tellings setting now marks tale made in
    let all = subst (λ m. HasTellings m whole) on.parts (has_tellings setting at later whole last) in
    let timely = (holds setting now marks tale made).timely in
    record {
      behind = points_each (λ (m : Mark). m.step ≤ now → command_of m ≤ length (tale.talk.requests (conn_of m))) (StandsBehindCommand now tale)
          (λ mark what holds. holds) later
          (subst (All (λ (m : Mark). m.step ≤ now → command_of m ≤ length (tale.talk.requests (conn_of m)))) (sym on.parts)
          (All-append (λ (m : Mark). m.step ≤ now → command_of m ≤ length (tale.talk.requests (conn_of m))) marks on.rest
          (λ k d h. λ low. has.asked k d h)
          (λ k d h. λ low. absurd (omega (arith, low, on.from_now k d h)))));
      before = subst (λ (l : List Mark). All (StandsBeforeReply now tale) (points_of l)) (sym on.parts)
          (points_behind (λ (m : Mark). m.step ≤ now) (StandsBeforeReply now tale) (λ mark what early. λ low. early) marks on.rest timely
          (late_points_by (StandsBeforeReply now tale) tale on.rest (λ mark what high. λ low. absurd (high low))
          (later_late marks on.rest tale whole has all)));
    }
