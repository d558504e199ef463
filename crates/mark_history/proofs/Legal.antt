-- The marks so far make a history that is legal for what the clients were told.
use Rattle.std.proofs.Common.{◌≡◌, ℕ, ◌≤◌, ◌<◌, List, [], ◌++◌, length, true, false, sym, ◌∙◌, ap, arith, length-append}
use Rattle.std.specs.Prelude.{AllPairs}
use Rattle.std.proofs.lemmas.Bool.Decides.{nat_tests}
use Rattle.std.proofs.lemmas.List.{append-nil}
use Rattle.imap_types.specs.declared.request.Answer.{Answer}
use Rattle.mur_base.specs.declared.point.AskId.{AskId}
use Rattle.mur_base.specs.declared.point.Point.{Point}
use Rattle.mur_model.specs.declared.setting.Setting.{Setting}
use Rattle.mur_model.specs.History.{Course, Talk, IsInCommandOrder, EndsAtLoss, IsUnanswered, loses, reads}
use Rattle.mur_model.proofs.HistoryGrows.{one_up_to}
use Rattle.mark_history.specs.declared.mark.Mark.{Mark}
use Rattle.mark_history.specs.FirstCourse.{first_course}
use Rattle.mark_history.specs.History.{points_of}
use Rattle.mark_history.specs.Marked.{IsLegalTo}
use Rattle.mark_history.proofs.Marks.{IsOf, Later, NoMore, Replied, all_points, answering_points, counts_of, losing_points, marks_follow, none_behind, pairs_of_points}
use Rattle.mark_history.proofs.StepPoints.{told_talk}
use Rattle.mark_history.proofs.Tally.{command_of, conn_of}
use Rattle.mark_history.proofs.Told.{IsToldIn}

-- what was replied is what was told and at most one more
pub record IsToldSo (told said : List Answer) : Type 0 where
  pub rest : List Answer
  pub parts : said ≡ told ++ rest
  pub few : length rest ≤ 1

pub all_told : (told said : List Answer) → said ≡ told → IsToldSo told said
all_told told said e = record { rest = []; parts = e ∙ sym (append-nil told); few = omega arith }

pub answered_once : (count number n : ℕ) → n ≡ one_up_to count number → 0 < number → number ≤ count → n ≡ 1
unfolding one_up_to
answered_once count number n e low high = grind (arith, nat_tests)

pub at_most_one : (count number n : ℕ) → n ≡ one_up_to count number → n ≤ 1
unfolding one_up_to
at_most_one count number n e = grind (arith, nat_tests)

-- what is related of two points, by their marks
conns_same : (told : ℕ → ℕ) (earlier later : Mark) (one other : Point) → IsOf told earlier one → IsOf told later other → one.ask.conn ≡ other.ask.conn
    → conn_of earlier ≡ conn_of later
conns_same told earlier later one other is at same = sym (ap (λ (a : AskId). a.conn) is.same_ask) ∙ same ∙ ap (λ (a : AskId). a.conn) at.same_ask

in_order_by : (told : ℕ → ℕ) (earlier later : Mark) (one other : Point) → Later earlier later → IsOf told earlier one → IsOf told later other
    → one.ask.conn ≡ other.ask.conn → one.ask.command ≤ other.ask.command
in_order_by told earlier later one other behind is at same =
    omega (
      arith,
      behind.0 (conns_same told earlier later one other is at same),
      ap (λ (a : AskId). a.command) is.same_ask,
      ap (λ (a : AskId). a.command) at.same_ask,
    )

no_more : (told : ℕ → ℕ) (earlier later : Mark) (one other : Point) → NoMore told earlier later → IsOf told earlier one → IsOf told later other
    → loses one.what ≡ true → one.ask.conn ≡ other.ask.conn → ⊥
no_more told earlier later one other none is at loss same =
    none is.acting (is.if_lost loss) (conns_same told earlier later one other is at same)

unanswered : (talk : Talk) (told : ℕ → List Answer) (mark : Mark) (point : Point) → IsOf (counts_of told) mark point → IsUnanswered (told_talk talk told) point
unanswered talk told mark point is = λ loss. omega (
  arith,
  is.if_lost loss,
  ap (λ (a : AskId). a.command) is.same_ask,
  ap (λ (a : AskId). length (told a.conn)) is.same_ask,
)

-- the commands of the marks were replied to, of which at most one that no client was told of
replied_to : (setting : Setting) (now : ℕ) (marks : List Mark) (talk : Talk) (told : ℕ → List Answer) (course : Course)
    → IsToldIn setting now marks talk told course → ((conn : ℕ) → IsToldSo (told conn) (talk.answers conn))
    → Replied (counts_of told) (λ conn. length (talk.answers conn)) marks
replied_to setting now marks talk told course is so = record {
  numbers = is.numbers;
  few = λ conn. omega (arith, ap length (so conn).parts, length-append (told conn) (so conn).rest, (so conn).few);
}

pub legal_marks : (setting : Setting) (now : ℕ) (marks : List Mark) (talk : Talk) (told : ℕ → List Answer) (course : Course)
    → IsToldIn setting now marks talk told course → ((conn : ℕ) → IsToldSo (told conn) (talk.answers conn))
    → IsLegalTo setting (told_talk talk told) (points_of marks) course.store
legal_marks setting now marks talk told course is so =
    let none : AllPairs (NoMore (counts_of told)) marks =
    none_behind (counts_of told) (λ conn. length (talk.answers conn)) marks is.fit is.later (replied_to setting now marks talk told course is so) in
    let followed = marks_follow setting talk told
    (record { rest = λ conn. (so conn).rest; parts = λ conn. (so conn).parts }) first_course course marks is.carries is.fit none in
    record {
      last = followed.end;
      same_store = followed.same_store;
      legal = record {
        follows = followed.follows;
        answered_once = λ conn number low high. answering_points (counts_of told) conn number marks is.fit high
            ∙ answered_once (length (talk.answers conn)) number _ (is.once conn number) low
            (omega (arith, high, ap length (so conn).parts, length-append (told conn) (so conn).rest));
        lost_unanswered = all_points (counts_of told) (λ (m : Mark). command_of m ≤ length (talk.answers (conn_of m)))
            (IsUnanswered (told_talk talk told)) (λ mark point bound its. unanswered talk told mark point its) marks is.fit is.numbers;
        lost_once = λ conn number. omega (
          arith,
          losing_points (counts_of told) conn number marks is.fit,
          at_most_one (length (talk.answers conn)) number _ (is.once conn number),
        );
        lost_last = pairs_of_points (counts_of told) (NoMore (counts_of told))
            (λ (m : Mark). command_of m ≤ length (talk.answers (conn_of m))) EndsAtLoss
            (λ earlier later one other behind bound its at. no_more (counts_of told) earlier later one other behind its at) marks is.fit none is.numbers;
        never_read = all_points (counts_of told) (λ (m : Mark). command_of m ≤ length (talk.answers (conn_of m)))
            (λ (point : Point). reads point.what ≡ false) (λ mark point bound its. its.unread) marks is.fit is.numbers;
        in_order = pairs_of_points (counts_of told) Later (λ (m : Mark). command_of m ≤ length (talk.answers (conn_of m))) IsInCommandOrder
            (λ earlier later one other behind bound its at. in_order_by (counts_of told) earlier later one other behind its at) marks is.fit is.later
            is.numbers;
      };
    }
