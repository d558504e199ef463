-- What a mark counts as: each point comes of a mark, one whose step always counts has a point, and one whose step counts if its client is told has none as
-- long as its client isn't.
use Rattle.std.proofs.Common.{◌≡◌, ℕ, zero, suc, ◌≤◌, ◌<◌, Bool, true, false, nat_le, List, [], ◌∷◌, ◌++◌, length, get_or, if◌then◌else◌}
use Rattle.std.proofs.Common.{Option, None, Some, refl, sym, ◌∙◌, ap, subst, arith}
use Rattle.std.specs.Prelude.{All, Contains}
use Rattle.std.proofs.lemmas.Bool.Decides.{nat_tests}
use Rattle.std.proofs.lemmas.List.Elements.{All-head, All-nil, All-tail, Contains-append_right}
use Rattle.link_msg.specs.declared.counts.Counts.TheVariants.{Always, IfAnswered}
use Rattle.link_msg.specs.declared.how.How.{How}
use Rattle.link_msg.specs.declared.how.How.TheVariants.{Here, Behind, Reserved, Unreached}
use Rattle.mur_base.specs.declared.point.Point.{Point}
use Rattle.mur_base.specs.declared.point.What.{What}
use Rattle.mur_base.specs.declared.point.What.TheVariants.{Reply as replied, Lost as lost, Unreached as unreached}
use Rattle.mur_model.specs.declared.setting.Setting.{Setting}
use Rattle.mark_history.specs.declared.mark.Mark.{Mark}
use Rattle.mark_history.specs.declared.mark.MarkKind.{MarkKind}
use Rattle.mark_history.specs.declared.mark.MarkKind.TheVariants.{Home, Told}
use Rattle.mark_history.specs.History.{counts_as, next_of, point_as, points_by, points_of, refused_as, untold_as}
use Rattle.mark_history.specs.Marked.{AreMarked, Tale}
use Rattle.mark_history.proofs.Late.{always_early, each_early, same_points as late_points}
use Rattle.mark_history.proofs.LeftOut.{LeavesOut, counts_not}
use Rattle.mark_history.proofs.LeftOut.LeavesOut.{no_marks, stays, left_out}
use Rattle.mark_history.proofs.MarkLaw.{holds}
use Rattle.mark_history.proofs.Marks.{counts_of}
use Rattle.mark_history.proofs.Reached.{put_by}
use Rattle.mark_history.proofs.Tally.{Fit, acts, command_of, conn_of, fits, may_refuse}

-- ---- of each point

-- what holds of each mark, as what it counts by any next one, holds of each point
pub each_counted : (Q : Mark → Type 0) (P : Point → Type 0)
    → ((mark : Mark) (next : Option MarkKind) (what : What) → Q mark → counts_as mark.kind next ≡ Some what → P (point_as mark what))
    → (marks : List Mark) → All Q marks → All P (points_of marks)
unfolding points_of
each_counted Q P of [] all = All-nil P
each_counted Q P of (mark ∷ marks) all =
    put_by P mark (counts_as mark.kind (next_of mark.ask marks)) (points_of marks)
    (λ what counts. of mark (next_of mark.ask marks) what (All-head Q mark marks all) counts)
    (each_counted Q P of marks (All-tail Q mark marks all))

-- a step that counts if its client is told is no loss
pub none_lost : (next : Option MarkKind) (what : What) → counts_as (Home IfAnswered) next ≡ Some what → what ≡ lost → ⊥
unfolding counts_as untold_as refused_as
none_lost None what e is = cc
none_lost (Some (Home counts)) what e is = cc
none_lost (Some (Told Here)) what e is = cc
none_lost (Some (Told (Unreached node))) what e is = cc
none_lost (Some (Told Behind)) what e is = (let no : Some replied ≡ Some lost = e ∙ ap {B = Option What} (λ w. Some w) is in cc)
none_lost (Some (Told Reserved)) what e is = (let no : Some (refused_as IfAnswered) ≡ Some lost = e ∙ ap {B = Option What} (λ w. Some w) is in cc)

-- what a frontend answers by itself is a reply, or says that a node isn't reached; nothing else that it tells is a point
pub data TellsPoint (how : How) (what : What) : Type 0 where
  here_replies : how ≡ Here → what ≡ replied → TellsPoint how what
  here_unreached : (node : List ℕ) → how ≡ Unreached node → what ≡ unreached node → TellsPoint how what

pub told_points : (how : How) (next : Option MarkKind) (what : What) → counts_as (Told how) next ≡ Some what → TellsPoint how what
unfolding counts_as
told_points Here next what e = here_replies refl (let is : replied ≡ what = cc in sym is)
told_points (Unreached node) next what e = here_unreached node refl (let is : unreached node ≡ what = cc in sym is)
told_points Behind next what e = cc
told_points Reserved next what e = cc

-- ---- of each mark

-- what a step that always counts is, by whether its client is told
abbrev pub always_as : Bool → What
always_as told = if told then replied else lost

always_by : (kind : MarkKind) (next : Option MarkKind) (told : Bool) → kind ≡ Home Always → fits kind next told ≡ true
    → counts_as kind next ≡ Some (always_as told)
unfolding counts_as untold_as fits may_refuse
always_by (Home Always) None true e fit = cc
always_by (Home Always) None false e fit = refl
always_by (Home Always) (Some (Told Behind)) true e fit = refl
always_by (Home Always) (Some (Told Behind)) false e fit = cc
always_by (Home Always) (Some (Told Reserved)) told e fit = cc
always_by (Home Always) (Some (Told Here)) told e fit = cc
always_by (Home Always) (Some (Told (Unreached node))) told e fit = cc
always_by (Home Always) (Some (Home counts)) told e fit = cc
always_by (Home IfAnswered) next told e fit = cc
always_by (Told how) next told e fit = cc

-- one that counts if its client is told is nothing where it isn't
open_by : (kind : MarkKind) (next : Option MarkKind) → kind ≡ Home IfAnswered → fits kind next false ≡ true → counts_as kind next ≡ None
unfolding counts_as untold_as fits may_refuse
open_by (Home IfAnswered) None e fit = refl
open_by (Home IfAnswered) (Some (Told Behind)) e fit = cc
open_by (Home IfAnswered) (Some (Told Reserved)) e fit = cc
open_by (Home IfAnswered) (Some (Told Here)) e fit = cc
open_by (Home IfAnswered) (Some (Told (Unreached node))) e fit = cc
open_by (Home IfAnswered) (Some (Home counts)) e fit = cc
open_by (Home Always) next e fit = cc
open_by (Told how) next e fit = cc

acts_home : (kind : MarkKind) → kind ≡ Home Always → acts kind ≡ true
unfolding acts
acts_home (Home counts) e = refl
acts_home (Told how) e = cc

acts_open : (kind : MarkKind) → kind ≡ Home IfAnswered → acts kind ≡ true
unfolding acts
acts_open (Home counts) e = refl
acts_open (Told how) e = cc

not_open : {one : MarkKind} → one ≡ Home Always → one ≡ Home IfAnswered → ⊥
not_open e f = (let no : Home Always ≡ Home IfAnswered = sym e ∙ f in cc)

here_first : (mark : Mark) (what : What) (points : List Point) (counts : Option What) → counts ≡ Some what
    → Contains (points_by mark counts ++ points) (point_as mark what)
unfolding points_by
here_first mark what points counts e = subst (λ c. Contains (points_by mark c ++ points) (point_as mark what)) (sym e) (0, omega arith, refl)

module _ (said told : ℕ → ℕ) where
  abbrev is_told : Mark → Bool
  is_told mark = nat_le (command_of mark) (told (conn_of mark))

  -- it has its point
  always_there : (marks acting : List Mark) → LeavesOut said marks acting → Fit told acting → (k : ℕ) (mark : Mark) → k < length marks
      → get_or marks k mark ≡ mark → mark.kind ≡ Home Always → Contains (points_of marks) (point_as mark (always_as (is_told mark)))
  unfolding points_of Fit
  always_there marks acting no_marks fit k mark within at always = absurd (omega (arith, within))
  always_there marks acting (stays first more rest next leaves) fit zero mark within at always =
      let kind : first.kind ≡ Home Always = ap (λ (m : Mark). m.kind) at ∙ always in
      subst (λ (m : Mark). Contains (points_by first (counts_as first.kind (next_of first.ask more)) ++ points_of more) (point_as m (always_as (is_told m)))) at
      (here_first first (always_as (is_told first)) (points_of more) (counts_as first.kind (next_of first.ask more))
      (ap (counts_as first.kind) (next (acts_home first.kind kind)) ∙ always_by first.kind (next_of first.ask rest) (is_told first) kind fit.0))
  always_there marks acting (stays first more rest next leaves) fit (suc k) mark within at always =
      Contains-append_right (points_by first (counts_as first.kind (next_of first.ask more))) (points_of more) (point_as mark (always_as (is_told mark)))
      (always_there more rest leaves fit.1 k mark (omega (arith, within)) at always)
  always_there marks acting (left_out first more rest kind saw leaves) fit zero mark within at always =
      absurd (not_open always (ap (λ (m : Mark). m.kind) (sym at) ∙ kind))
  always_there marks acting (left_out first more rest kind saw leaves) fit (suc k) mark within at always =
      Contains-append_right (points_by first (counts_as first.kind (next_of first.ask more))) (points_of more) (point_as mark (always_as (is_told mark)))
      (always_there more acting leaves fit k mark (omega (arith, within)) at always)

  -- what holds of each mark, but of those that count only if their client is told, and it isn't, holds of each point
  each_that_counts : (Q : Mark → Type 0) (P : Point → Type 0)
      → ((mark : Mark) (next : Option MarkKind) (what : What) → Q mark → (mark.kind ≡ Home IfAnswered → is_told mark ≡ false → ⊥)
      → counts_as mark.kind next ≡ Some what → P (point_as mark what))
      → (marks acting : List Mark) → LeavesOut said marks acting → Fit told acting → All Q marks → All P (points_of marks)
  unfolding points_of Fit
  each_that_counts Q P of marks acting no_marks fit all = All-nil P
  each_that_counts Q P of marks acting (stays first more rest next leaves) fit all =
      put_by P first (counts_as first.kind (next_of first.ask more)) (points_of more)
      (λ what counts. of first (next_of first.ask more) what (All-head Q first more all)
      (λ kind untold.
      (let none : counts_as first.kind (next_of first.ask more) ≡ None =
      ap (counts_as first.kind) (next (acts_open first.kind kind))
      ∙ open_by first.kind (next_of first.ask rest) kind (ap (fits first.kind (next_of first.ask rest)) (sym untold) ∙ fit.0) in
      let no : None ≡ Some what = sym none ∙ counts in cc))
      counts)
      (each_that_counts Q P of more rest leaves fit.1 (All-tail Q first more all))
  each_that_counts Q P of marks acting (left_out first more rest kind saw leaves) fit all =
      put_by P first (counts_as first.kind (next_of first.ask more)) (points_of more)
      (λ what counts.
      (let none : counts_as first.kind (next_of first.ask more) ≡ None =
      ap (λ k. counts_as k (next_of first.ask more)) kind ∙ counts_not (next_of first.ask more) _ saw in
      let no : None ≡ Some what = sym none ∙ counts in cc))
      (each_that_counts Q P of more acting leaves fit (All-tail Q first more all))

told_so : (number count : ℕ) → number ≤ count → nat_le number count ≡ true
told_so number count low = grind (arith, nat_tests)

untold_so : (number count : ℕ) → count < number → nat_le number count ≡ false
untold_so number count high = grind (arith, nat_tests)

module _ (setting : Setting) (now : ℕ) (marks : List Mark) (tale : Tale) (made : AreMarked setting now marks tale) where
  always_point : (mark : Mark) → Contains marks mark → mark.kind ≡ Home Always
      → Contains (points_of marks) (point_as mark (always_as (nat_le (command_of mark) (length (tale.told (conn_of mark))))))
  always_point mark there always =
      let its = holds setting now marks tale made in
      let its_there = always_early (counts_of tale.told) marks its.early its.late there.0 mark there.1 there.2 always in
      subst (λ points. Contains points (point_as mark (always_as (nat_le (command_of mark) (length (tale.told (conn_of mark)))))))
      (sym (late_points (counts_of tale.told) marks its.early its.late))
      (always_there (λ conn. length (tale.talk.answers conn)) (counts_of tale.told) its.early its.law.acting its.law.leaves its.law.is_told.fit its_there.0 mark
      its_there.1 its_there.2 always)

  -- the step of a mark that always counts is the point of its command: its reply, if its client was told
  pub always_replied : (mark : Mark) → Contains marks mark → mark.kind ≡ Home Always → command_of mark ≤ length (tale.told (conn_of mark))
      → Contains (points_of marks) (point_as mark replied)
  always_replied mark there always low =
      subst (λ b. Contains (points_of marks) (point_as mark (always_as b))) (told_so (command_of mark) (length (tale.told (conn_of mark))) low)
      (always_point mark there always)

  -- and its loss, if it wasn't
  pub always_lost : (mark : Mark) → Contains marks mark → mark.kind ≡ Home Always → length (tale.told (conn_of mark)) < command_of mark
      → Contains (points_of marks) (point_as mark lost)
  always_lost mark there always high =
      subst (λ b. Contains (points_of marks) (point_as mark (always_as b))) (untold_so (command_of mark) (length (tale.told (conn_of mark))) high)
      (always_point mark there always)

  -- a point of a step that counts if its client is told is of a command of which it was told
  pub each_told : (Q : Mark → Type 0) (P : Point → Type 0)
      → ((mark : Mark) (next : Option MarkKind) (what : What) → Q mark
      → (mark.kind ≡ Home IfAnswered → command_of mark ≤ length (tale.told (conn_of mark))) → counts_as mark.kind next ≡ Some what → P (point_as mark what))
      → All Q marks → All P (points_of marks)
  each_told Q P of all =
      let its = holds setting now marks tale made in
      subst (All P) (sym (late_points (counts_of tale.told) marks its.early its.late))
      (each_that_counts (λ conn. length (tale.talk.answers conn)) (counts_of tale.told) Q P
      (λ mark next what has still counts.
      of mark next what has (λ kind. low mark (nat_le (command_of mark) (length (tale.told (conn_of mark)))) refl (still kind)) counts)
      its.early its.law.acting its.law.leaves its.law.is_told.fit (each_early Q (counts_of tale.told) marks its.early its.late all))
    where
      low : (mark : Mark) (b : Bool) → nat_le (command_of mark) (length (tale.told (conn_of mark))) ≡ b
          → (nat_le (command_of mark) (length (tale.told (conn_of mark))) ≡ false → ⊥) → command_of mark ≤ length (tale.told (conn_of mark))
      low mark true e none = grind (arith, nat_tests)
      low mark false e none = absurd (none e)
