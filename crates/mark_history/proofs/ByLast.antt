-- The marks so far are those of one store, where steps may only see a command, and a reply that its client wasn't told of may be taken back: of several
-- steps that act on a command the last one counts.
use Rattle.std.proofs.Common.{◌≡◌, ◌≢◌, ◌⊎◌, inl, inr, ℕ, ◌+◌, ◌≤◌, ◌<◌, Bool, true, false, nat_le, List, [], ◌∷◌, ◌++◌, length, get_or, if◌then◌else◌, Option, None, Some, refl, sym, ◌∙◌, ap, arith}
use Rattle.std.proofs.Math.Logic.{⊎_elim}
use Rattle.std.proofs.lemmas.Bool.{cases_eq}
use Rattle.std.proofs.lemmas.Bool.Decides.{nat_tests}
use Rattle.link_msg.specs.declared.counts.Counts.TheVariants.{IfAnswered}
use Rattle.imap_types.specs.declared.request.Answer.{Answer}
use Rattle.imap_types.specs.declared.request.Request.{Request}
use Rattle.mur_model.specs.declared.session.Sess.{Sess}
use Rattle.mur_model.specs.declared.setting.Setting.{Setting}
use Rattle.mur_model.specs.Answer.{Answered}
use Rattle.mur_model.specs.History.{Talk, GoesOn, course_after, with_session}
use Rattle.mur_model.proofs.HistoryGrows.{same_lists}
use Rattle.mur_model.proofs.Numbered.{with_item, with_item-longer, with_item-other, length_with_item}
use Rattle.mark_history.specs.declared.mark.Mark.{Mark}
use Rattle.mark_history.specs.declared.mark.MarkKind.{MarkKind}
use Rattle.mark_history.specs.declared.mark.MarkKind.TheVariants.{Home}
use Rattle.mark_history.specs.FirstCourse.{first_course}
use Rattle.mark_history.specs.History.{is_of, points_of}
use Rattle.mark_history.specs.Marked.{Tale, asking, talk_asking}
use Rattle.mark_history.proofs.CarriesFrom.{CarriesFrom, from_on, from_push, from_told, with_session_at}
use Rattle.mark_history.proofs.LeftOut.{LeavesOut, StillSaw, leaves_push, leaves_seen, only_saw, same_points}
use Rattle.mark_history.proofs.Marks.{with_session_elsewhere}
use Rattle.mark_history.proofs.Tally.{acts, command_of, conn_of, its_kind, next_or, of_both, of_equal, of_other}
use Rattle.mark_history.proofs.Deeds.{IsStep}
use Rattle.mark_history.proofs.Told.{IsToldIn, TellsOn, having_said, next_mark, said_more, telling, telling_mark, tells_plainly, told_asked, told_behind_push, told_later}
use Rattle.mark_history.proofs.Told.{told_push}

abbrev pub said_of : Tale → ℕ → ℕ
said_of tale conn = length (tale.talk.answers conn)

pub record IsToldByLast (setting : Setting) (now : ℕ) (marks : List Mark) (tale : Tale) : Type 0 where
  -- the marks without those of steps that only saw their command
  pub acting : List Mark
  pub leaves : LeavesOut (said_of tale) marks acting
  pub is_told : IsToldIn setting now acting tale.talk tale.told tale.course
  -- each connection's session before its last step that acts
  pub earlier : ℕ → Sess
  pub from : CarriesFrom setting tale.talk first_course first_course.sessions acting tale.course earlier
  pub before : (conn : ℕ) → length (tale.told conn) < length (tale.talk.answers conn) → tale.before conn ≡ earlier conn

-- the history is that of the steps that act
pub points_by_last : (setting : Setting) (now : ℕ) (marks : List Mark) (tale : Tale) (is : IsToldByLast setting now marks tale)
    → points_of marks ≡ points_of is.acting
points_by_last setting now marks tale is = same_points (said_of tale) marks is.acting is.leaves

-- ---- what only saw its command still did, when a mark is put behind

-- what had no reply has none, but the command of the new mark
abbrev pub StaysUnreplied : (ℕ → ℕ) → (ℕ → ℕ) → Mark → Type 0
StaysUnreplied said now more = (mark : Mark) → said (conn_of mark) < command_of mark → is_of mark.ask more ≡ false → now (conn_of mark) < command_of mark

pub unreplied_is : (number count : ℕ) → only_saw None (nat_le number count) ≡ true → count < number
unfolding only_saw
unreplied_is number count saw = grind (arith, nat_tests)

is_unreplied : (number count : ℕ) → count < number → only_saw None (nat_le number count) ≡ true
unfolding only_saw
is_unreplied number count high = grind (arith, nat_tests)

acts_behind : (kind : MarkKind) (replied : Bool) → acts kind ≡ true → only_saw (Some kind) replied ≡ true
unfolding only_saw
acts_behind kind replied acting = acting

saw_as : (kind : MarkKind) (one other : Bool) → only_saw (Some kind) one ≡ true → only_saw (Some kind) other ≡ true
unfolding only_saw
saw_as kind one other saw = saw

-- the new mark acts, or is of a command that was replied to
pub still_saw : (said now : ℕ → ℕ) (more : Mark) → StaysUnreplied said now more → (acts more.kind ≡ true) ⊎ (command_of more ≤ said (conn_of more))
    → StillSaw said now more
unfolding next_or
still_saw said now more stays either = λ mark next saw. by mark next saw (is_of mark.ask more) refl
  where
    own : (mark : Mark) → only_saw None (nat_le (command_of mark) (said (conn_of mark))) ≡ true → is_of mark.ask more ≡ true
        → only_saw (Some more.kind) (nat_le (command_of mark) (now (conn_of mark))) ≡ true
    own mark saw same = ⊎_elim (λ acting. acts_behind more.kind _ acting)
        (λ (low : command_of more ≤ said (conn_of more)).
        (let both = of_equal mark.ask more same in
        absurd (omega (arith, low, unreplied_is _ _ saw, both.1, ap said both.0))))
        either

    by : (mark : Mark) (next : Option MarkKind) → only_saw next (nat_le (command_of mark) (said (conn_of mark))) ≡ true
        → (b : Bool) → is_of mark.ask more ≡ b
        → only_saw (next_or next (its_kind mark.ask more)) (nat_le (command_of mark) (now (conn_of mark))) ≡ true
    by mark (Some kind) saw b e = saw_as kind _ _ saw
    by mark None saw true e =
        ap (λ k. only_saw k (nat_le (command_of mark) (now (conn_of mark)))) (ap (λ x. if x then Some more.kind else None) e) ∙ own mark saw e
    by mark None saw false e =
        ap (λ k. only_saw k (nat_le (command_of mark) (now (conn_of mark)))) (ap (λ x. if x then Some more.kind else None) e)
        ∙ is_unreplied _ _ (stays mark (unreplied_is _ _ saw) e)

-- ---- a step acts on the next command, or tells its client at once

abbrev pub tale_said : Tale → (ℕ → List Answer) → ℕ → Answered → ℕ → Tale
tale_said tale later_told conn done serial = record {
  talk = having_said tale.talk conn done.answer serial;
  told = later_told;
  course = course_after tale.course conn done;
  before = with_session tale.before conn (tale.course.sessions conn);
}

not_next : (talk : Talk) (now conn : ℕ) (kind : MarkKind) (mark : Mark) → is_of mark.ask (next_mark now talk conn kind) ≡ false → conn_of mark ≡ conn
    → command_of mark ≢ length (talk.answers conn) + 1
not_next talk now conn kind mark other c =
    λ n. (let both : is_of mark.ask (next_mark now talk conn kind) ≡ true = of_both mark (next_mark now talk conn kind) (sym c) (sym n) in cc)

next_unreplied : (talk : Talk) (now conn : ℕ) (kind : MarkKind) (answer : Answer)
    → StaysUnreplied (λ c. length (talk.answers c)) (λ c. length (with_item talk.answers conn answer c)) (next_mark now talk conn kind)
next_unreplied talk now conn kind answer = λ mark high other. ⊎_elim
    (λ (c : conn_of mark ≡ conn). omega (
      arith,
      high,
      not_next talk now conn kind mark other c,
      length_with_item talk.answers conn answer,
      ap (λ x. length (with_item talk.answers conn answer x)) c,
      ap (λ x. length (talk.answers x)) c,
    ))
    (λ (ne : conn_of mark ≢ conn). omega (arith, high, ap length (with_item-other talk.answers conn answer (conn_of mark) ne)))
    (cases_eq (conn_of mark) conn)

pub push_by_last : (setting : Setting) (now : ℕ) (marks : List Mark) (tale : Tale) (later_told : ℕ → List Answer) (conn : ℕ) (done : Answered) (serial : ℕ)
    (kind : MarkKind) → TellsOn setting tale.talk conn kind tale.told later_told
    → IsStep setting (having_said tale.talk conn done.answer serial) tale.course (next_mark now tale.talk conn kind) false done
    → IsToldByLast setting now marks tale
    → IsToldByLast setting now (marks ++ next_mark now tale.talk conn kind ∷ []) (tale_said tale later_told conn done serial)
push_by_last setting now marks tale later_told conn done serial kind on step is =
    let longer : Talk = having_said tale.talk conn done.answer serial in
    let mark : Mark = next_mark now tale.talk conn kind in
    let was : Sess = tale.course.sessions conn in
    record {
      acting = is.acting ++ mark ∷ [];
      leaves = leaves_push (said_of tale) (λ c. length (longer.answers c)) marks is.acting mark is.leaves
          (still_saw (said_of tale) (λ c. length (longer.answers c)) mark (next_unreplied tale.talk now conn kind done.answer) (inl step.acting));
      is_told = told_push setting now is.acting tale.talk tale.told later_told tale.course conn done serial kind on step is.is_told;
      earlier = with_session is.earlier conn was;
      from = from_push setting longer first_course tale.course first_course.sessions is.earlier is.acting mark done
          (from_on setting tale.talk longer (said_more tale.talk conn done.answer serial) first_course tale.course first_course.sessions is.earlier is.acting
          is.from)
          step;
      before = λ c more. ⊎_elim
          (λ (e : c ≡ conn). ap (with_session tale.before conn was) e ∙ with_session_at tale.before conn was
          ∙ sym (ap (with_session is.earlier conn was) e ∙ with_session_at is.earlier conn was))
          (λ (ne : c ≢ conn). with_session_elsewhere tale.before conn was c (λ x. ne (sym x))
          ∙ is.before c (omega (arith, more, ap length (on.others c ne), ap length (with_item-other tale.talk.answers conn done.answer c ne)))
          ∙ sym (with_session_elsewhere is.earlier conn was c (λ x. ne (sym x))))
          (cases_eq c conn);
    }

-- ---- a step only sees the next command

home_acts : acts (Home IfAnswered) ≡ true
unfolding acts
home_acts = refl

one_over : (n : ℕ) → nat_le (n + 1) n ≡ false
one_over n = grind (arith, nat_tests)

pub seen_by_last : (setting : Setting) (now : ℕ) (marks : List Mark) (tale : Tale) (conn : ℕ) → IsToldByLast setting now marks tale
    → IsToldByLast setting now (marks ++ next_mark now tale.talk conn (Home IfAnswered) ∷ []) tale
seen_by_last setting now marks tale conn is =
    let mark : Mark = next_mark now tale.talk conn (Home IfAnswered) in
    record {
      acting = is.acting;
      leaves = leaves_seen (said_of tale) marks is.acting mark is.leaves
          (still_saw (said_of tale) (said_of tale) mark (λ m high other. high) (inl home_acts)) refl (one_over (length (tale.talk.answers conn)))
          (λ k d h. λ a. of_other (get_or is.acting k d) mark _ refl
          (λ c n. absurd (omega (arith, is.is_told.numbers k d h, n, ap (λ x. length (tale.talk.answers x)) c))));
      is_told = is.is_told;
      earlier = is.earlier;
      from = is.from;
      before = is.before;
    }

-- ---- a client is told behind a home's answer

pub told_behind_by_last : (setting : Setting) (now : ℕ) (marks : List Mark) (tale : Tale) (conn : ℕ) (answer : Answer)
    → length (tale.talk.answers conn) ≡ length (tale.told conn) + 1 → IsToldByLast setting now marks tale
    → IsToldByLast setting now (marks ++ telling_mark now tale.told conn ∷ []) (record tale { told = with_item tale.told conn answer })
told_behind_by_last setting now marks tale conn answer said is =
    let mark : Mark = telling_mark now tale.told conn in
    record {
      acting = is.acting ++ mark ∷ [];
      leaves = leaves_push (said_of tale) (said_of tale) marks is.acting mark is.leaves
          (still_saw (said_of tale) (said_of tale) mark (λ m high other. high) (inr (omega (arith, said))));
      is_told = told_behind_push setting now is.acting tale.talk tale.told tale.course conn answer said is.is_told;
      earlier = is.earlier;
      from = from_told setting tale.talk first_course tale.course first_course.sessions is.earlier is.acting mark telling (λ k d h. λ same. tells_plainly)
          is.from;
      before = λ c more. is.before c (omega (arith, more, with_item-longer tale.told conn answer c));
    }

-- ---- more is asked, and a step begins

pub asked_by_last : (setting : Setting) (now : ℕ) (marks : List Mark) (tale : Tale) (requests : ℕ → List Request) → GoesOn tale.talk.requests requests
    → IsToldByLast setting now marks tale → IsToldByLast setting now marks (asking tale requests)
asked_by_last setting now marks tale requests more is =
    let longer : Talk = talk_asking tale.talk requests in
    record {
      acting = is.acting;
      leaves = is.leaves;
      is_told = told_asked setting now is.acting tale.talk tale.told tale.course requests more is.is_told;
      earlier = is.earlier;
      from = from_on setting tale.talk longer (record { requests = more; answers = same_lists tale.talk.answers; serials = same_lists tale.talk.serials; moving = refl })
          first_course tale.course first_course.sessions is.earlier is.acting is.from;
      before = is.before;
    }

pub later_by_last : (setting : Setting) (now next : ℕ) (marks : List Mark) (tale : Tale) → now ≤ next → IsToldByLast setting now marks tale
    → IsToldByLast setting next marks tale
later_by_last setting now next marks tale le is = record {
  acting = is.acting;
  leaves = is.leaves;
  is_told = told_later setting now next is.acting tale.talk tale.told tale.course le is.is_told;
  earlier = is.earlier;
  from = is.from;
  before = is.before;
}
