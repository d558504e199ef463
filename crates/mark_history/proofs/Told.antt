-- The marks so far are those of one store; and one more.
use Rattle.std.proofs.Common.{◌≡◌, ◌≢◌, ℕ, ◌+◌, ◌≤◌, nat_le, true, false, List, [], ◌∷◌, ◌++◌, length, get_or, None, Some, refl, sym, ◌∙◌, ap, subst, arith}
use Rattle.std.specs.Prelude.{All, AllPairs}
use Rattle.std.proofs.Math.Logic.{⊎_elim}
use Rattle.std.proofs.lemmas.Bool.{cases_eq}
use Rattle.std.proofs.lemmas.Bool.Decides.{nat_tests}
use Rattle.std.proofs.lemmas.List.Elements.{All-push, All-weaker}
use Rattle.link_msg.specs.declared.counts.Counts.{Counts}
use Rattle.link_msg.specs.declared.counts.Counts.TheVariants.{IfAnswered}
use Rattle.link_msg.specs.declared.how.How.{How}
use Rattle.link_msg.specs.declared.how.How.TheVariants.{Behind, Unreached}
use Rattle.imap_types.specs.declared.command.Command.{Command}
use Rattle.imap_types.specs.declared.command.Tag.{Tag}
use Rattle.imap_types.specs.declared.reply.NoText.TheVariants.{NotReached}
use Rattle.imap_types.specs.declared.request.Answer.{Answer}
use Rattle.imap_types.specs.declared.request.Request.{Request}
use Rattle.mur_base.specs.declared.point.What.TheVariants.{Unreached as unreached}
use Rattle.mur_model.specs.declared.setting.Setting.{Setting}
use Rattle.mur_model.specs.Answer.{Answered, MayTake}
use Rattle.mur_model.specs.History.{Course, Talk, GoesOn, TalkGoesOn, IsRefused, numbered, carried_out, course_after, refused_out}
use Rattle.mur_model.proofs.HistoryGrows.{same_lists, item_more}
use Rattle.mur_model.proofs.Numbered.{with_item, with_item-other, length_with_item, numbered_new, with_item-lengths, with_item-longer}
use Rattle.mark_history.specs.declared.mark.Mark.{Mark}
use Rattle.mark_history.specs.declared.mark.MarkKind.{MarkKind}
use Rattle.mark_history.specs.declared.mark.MarkKind.TheVariants.{Home, Told}
use Rattle.mark_history.specs.FirstCourse.{first_course}
use Rattle.mark_history.specs.History.{is_of}
use Rattle.mark_history.specs.Marked.{talk_asking}
use Rattle.mark_history.proofs.Deeds.{IsStep, refused_with}
use Rattle.mark_history.proofs.Deeds.IsDeed.{carries_it_out, is_unreached}
use Rattle.mark_history.proofs.Marks.{Carries, carries_on, carries_push, carries_telling, MarkedOnce, marked_once_push, marked_once_telling, marks_push}
use Rattle.mark_history.proofs.Marks.{Later, counts_of}
use Rattle.mark_history.proofs.Tally.{acts, conn_of, command_of, Fit, fits, fit_push, fits_apart, fits_told, StillFits, of_another, of_both, tells_refusal}
use Rattle.mark_history.proofs.Tally.{tells_unreached, told_fits, unreached_acts}

pub record IsToldIn (setting : Setting) (now : ℕ) (marks : List Mark) (talk : Talk) (told : ℕ → List Answer) (course : Course) : Type 0 where
  pub carries : Carries setting talk first_course marks course
  pub once : MarkedOnce (λ conn. length (talk.answers conn)) marks
  pub later : AllPairs Later marks
  pub numbers : All (λ (mark : Mark). command_of mark ≤ length (talk.answers (conn_of mark))) marks
  pub timely : All (λ (mark : Mark). mark.step ≤ now) marks
  pub serials : (conn : ℕ) → length (talk.serials conn) ≡ length (talk.answers conn)
  -- no more was told than was replied
  pub ahead : (conn : ℕ) → length (told conn) ≤ length (talk.answers conn)
  pub fit : Fit (counts_of told) marks

-- one answer more at a connection
abbrev pub having_said : Talk → ℕ → Answer → ℕ → Talk
having_said talk conn answer serial = record {
  requests = talk.requests;
  answers = with_item talk.answers conn answer;
  serials = with_item talk.serials conn serial;
  moving = talk.moving;
}

pub said_more : (talk : Talk) (conn : ℕ) (answer : Answer) (serial : ℕ) → TalkGoesOn talk (having_said talk conn answer serial)
said_more talk conn answer serial = record {
  requests = same_lists talk.requests;
  answers = item_more talk.answers conn answer;
  serials = item_more talk.serials conn serial;
  moving = refl;
}

-- the mark of the next command of a connection
abbrev pub next_mark : ℕ → Talk → ℕ → MarkKind → Mark
next_mark now talk conn kind = record { step = now; ask = record { conn = conn; command = length (talk.answers conn) + 1 }; kind = kind }

-- the clients are told more, or nothing: of each command up to those that were replied to it is the same whether its client was told
pub record TellsOn (setting : Setting) (talk : Talk) (conn : ℕ) (kind : MarkKind) (told now : ℕ → List Answer) : Type 0 where
  pub others : (other : ℕ) → other ≢ conn → now other ≡ told other
  pub before : (command : ℕ) → command ≤ length (talk.answers conn) → nat_le command (length (now conn)) ≡ nat_le command (length (told conn))
  pub at_most : length (now conn) ≤ length (talk.answers conn) + 1
  pub own : fits kind None (nat_le (length (talk.answers conn) + 1) (length (now conn))) ≡ true

-- a mark of the next command leaves the others as they are
fits_still : (setting : Setting) (talk : Talk) (conn : ℕ) (kind : MarkKind) (told now : ℕ → List Answer) → TellsOn setting talk conn kind told now
    → (mark first : Mark) → conn_of mark ≡ conn → command_of mark ≡ length (talk.answers conn) + 1
    → command_of first ≤ length (talk.answers (conn_of first)) → StillFits (counts_of told) (counts_of now) mark first
fits_still setting talk conn kind told now on mark first its number low = ⊎_elim
    (λ (same : conn_of first ≡ conn). fits_apart (counts_of told) (counts_of now) mark first
    (of_another first mark (is_of first.ask mark) refl (λ e. omega (arith, low, number, ap (λ c. length (talk.answers c)) same)))
    (subst (λ c. nat_le (command_of first) (length (now c)) ≡ nat_le (command_of first) (length (told c))) (sym same)
    (on.before (command_of first) (subst (λ c. command_of first ≤ length (talk.answers c)) same low))))
    (λ (ne : conn_of first ≢ conn). fits_apart (counts_of told) (counts_of now) mark first
    (of_another first mark (is_of first.ask mark) refl (λ e. absurd (ne (sym e ∙ its))))
    (ap (λ l. nat_le (command_of first) (length l)) (on.others (conn_of first) ne)))
    (cases_eq (conn_of first) conn)

-- the step that carries the next command out
pub step_made : (setting : Setting) (talk : Talk) (course : Course) (conn : ℕ) (request : Request) (serial now : ℕ) (kind : MarkKind) → acts kind ≡ true
    → tells_unreached kind ≡ false → numbered (talk.requests conn) (length (talk.answers conn) + 1) ≡ Some request
    → MayTake setting course.store (course.sessions conn) request serial
    → (kind ≡ Home IfAnswered → (carried_out setting course conn request serial).store ≡ course.store)
    → length (talk.serials conn) ≡ length (talk.answers conn)
    → IsStep setting (having_said talk conn (carried_out setting course conn request serial).answer serial) course (next_mark now talk conn kind) false
    (carried_out setting course conn request serial)
step_made setting talk course conn request serial now kind acting reached asked free unless serials = record {
  acting = acting;
  deed = carries_it_out request serial refl reached
      (record {
        asked = asked;
        given = numbered_new talk.serials conn serial (length (talk.answers conn)) (sym serials);
        free = free;
      })
      refl;
  answer = numbered_new talk.answers conn (carried_out setting course conn request serial).answer (length (talk.answers conn)) refl;
  unless = unless;
}

-- the step that refuses the next command, as a node isn't reached
pub step_refused : (setting : Setting) (talk : Talk) (course : Course) (conn serial now : ℕ) (tag : Tag) (it : Command) (node : List ℕ)
    → IsRefused setting talk course now conn (length (talk.answers conn) + 1) tag it (unreached node) NotReached
    → IsStep setting (having_said talk conn (refused_out course conn tag it NotReached).answer serial) course (next_mark now talk conn (Told (Unreached node)))
    false (refused_out course conn tag it NotReached)
step_refused setting talk course conn serial now tag it node refused = record {
  acting = unreached_acts (Told (Unreached node)) node refl;
  deed = is_unreached tag it node refl
      (refused_with setting talk (having_said talk conn (refused_out course conn tag it NotReached).answer serial) course now conn
      (length (talk.answers conn) + 1) tag it (unreached node) NotReached refused.asked refl refused) refl;
  answer = numbered_new talk.answers conn (refused_out course conn tag it NotReached).answer (length (talk.answers conn)) refl;
  unless = λ k. cc;
}

-- the next command gets an answer
pub told_push : (setting : Setting) (now : ℕ) (marks : List Mark) (talk : Talk) (told later_told : ℕ → List Answer) (course : Course)
    (conn : ℕ) (done : Answered) (serial : ℕ) (kind : MarkKind) → TellsOn setting talk conn kind told later_told
    → IsStep setting (having_said talk conn done.answer serial) course (next_mark now talk conn kind) false done
    → IsToldIn setting now marks talk told course
    → IsToldIn setting now (marks ++ next_mark now talk conn kind ∷ []) (having_said talk conn done.answer serial) later_told
    (course_after course conn done)
told_push setting now marks talk told later_told course conn done serial kind on step is =
    let answer : Answer = done.answer in
    let longer : Talk = having_said talk conn answer serial in
    let mark : Mark = next_mark now talk conn kind in
    record {
      carries = carries_push setting longer first_course course marks mark done
          (carries_on setting talk longer (said_more talk conn answer serial) first_course course marks is.carries) step;
      once = marked_once_push (λ c. length (talk.answers c)) (λ c. length (longer.answers c)) marks mark step.acting refl
          (length_with_item talk.answers conn answer) (λ other ne. ap length (with_item-other talk.answers conn answer other ne)) is.once;
      later = marks_push Later marks mark is.later (λ k d h. (
        λ e. omega (arith, is.numbers k d h, ap (λ c. length (talk.answers c)) e),
        is.timely k d h,
      ));
      numbers = All-push (λ (m : Mark). command_of m ≤ length (longer.answers (conn_of m))) marks mark
          (All-weaker (λ (m : Mark). command_of m ≤ length (talk.answers (conn_of m))) (λ (m : Mark). command_of m ≤ length (longer.answers (conn_of m)))
          (λ m h. omega (arith, h, with_item-longer talk.answers conn answer (conn_of m))) marks is.numbers)
          (omega (arith, length_with_item talk.answers conn answer));
      timely = All-push (λ (m : Mark). m.step ≤ now) marks mark is.timely (omega arith);
      serials = λ other. with_item-lengths talk.serials talk.answers conn serial answer other (is.serials other);
      ahead = λ other. ⊎_elim
          (λ (e : other ≡ conn). omega (
            arith,
            on.at_most,
            length_with_item talk.answers conn answer,
            ap (λ c. length (later_told c)) e,
            ap (λ c. length (longer.answers c)) e,
          ))
          (λ (ne : other ≢ conn). omega (
            arith,
            is.ahead other,
            ap length (on.others other ne),
            ap length (with_item-other talk.answers conn answer other ne),
          ))
          (cases_eq other conn);
      fit = fit_push (counts_of told) (counts_of later_told) marks mark is.fit
          (λ k d h. fits_still setting talk conn kind told later_told on mark (get_or marks k d) refl refl (is.numbers k d h)) on.own;
    }

abbrev pub telling_mark : ℕ → (ℕ → List Answer) → ℕ → Mark
telling_mark now told conn = record { step = now; ask = record { conn = conn; command = length (told conn) + 1 }; kind = Told Behind }

-- a home's step tells nobody yet
pub still_told : (setting : Setting) (talk : Talk) (conn : ℕ) (counts : Counts) (told : ℕ → List Answer) → length (told conn) ≤ length (talk.answers conn)
    → TellsOn setting talk conn (Home counts) told told
unfolding fits
still_told setting talk conn counts told ahead = record {
  others = λ other ne. refl;
  before = λ command low. refl;
  at_most = omega arith;
  own = let high : nat_le (length (talk.answers conn) + 1) (length (told conn)) ≡ false = grind (arith, nat_tests) in rw high refl;
}

-- the frontend tells the client of the next command
pub tells_now : (setting : Setting) (talk : Talk) (conn : ℕ) (how : How) (told : ℕ → List Answer) (answer : Answer)
    → length (talk.answers conn) ≡ length (told conn) → TellsOn setting talk conn (Told how) told (with_item told conn answer)
tells_now setting talk conn how told answer said = record {
  others = λ other ne. with_item-other told conn answer other ne;
  before = λ command low. let count = length_with_item told conn answer in grind (arith, nat_tests);
  at_most = omega (arith, said, length_with_item told conn answer);
  own = told_fits how None _ (let count = length_with_item told conn answer in grind (arith, nat_tests));
}

pub telling : acts (Told Behind) ≡ false
unfolding acts
telling = refl

pub tells_plainly : tells_refusal (Some (Told Behind)) ≡ false
unfolding tells_refusal
tells_plainly = refl

fits_now : (number count : ℕ) → number ≤ count → fits (Told Behind) None (nat_le number count) ≡ true
unfolding fits
fits_now number count low = grind (arith, nat_tests)

-- the client is told of the next command; the marks of others, and of its earlier commands, stay as they fit
fits_behind : (now : ℕ) (talk : Talk) (told : ℕ → List Answer) (conn : ℕ) (answer : Answer) → length (talk.answers conn) ≡ length (told conn) + 1
    → (first : Mark) → command_of first ≤ length (talk.answers (conn_of first))
    → StillFits (counts_of told) (counts_of (with_item told conn answer)) (telling_mark now told conn) first
fits_behind now talk told conn answer said first low = ⊎_elim
    (λ (same : conn_of first ≡ conn).
    let count : length (with_item told conn answer (conn_of first)) ≡ length (told conn) + 1 =
    ap (λ c. length (with_item told conn answer c)) same ∙ length_with_item told conn answer in
    let was : length (told (conn_of first)) ≡ length (told conn) = ap (λ c. length (told c)) same in
    let high : command_of first ≤ length (told conn) + 1 = omega (arith, low, said, ap (λ c. length (talk.answers c)) same) in
    ⊎_elim
    (λ (own : command_of first ≡ length (told conn) + 1). fits_told (counts_of told) (counts_of (with_item told conn answer)) (telling_mark now told conn) first
    refl (of_both first (telling_mark now told conn) (sym same) (sym own)) (grind (arith, nat_tests)) (grind (arith, nat_tests)))
    (λ (other : command_of first ≢ length (told conn) + 1).
    fits_apart (counts_of told) (counts_of (with_item told conn answer)) (telling_mark now told conn) first
    (of_another first (telling_mark now told conn) (is_of first.ask (telling_mark now told conn)) refl (λ e. omega (arith, high, other)))
    (grind (arith, nat_tests)))
    (cases_eq (command_of first) (length (told conn) + 1)))
    (λ (ne : conn_of first ≢ conn). fits_apart (counts_of told) (counts_of (with_item told conn answer)) (telling_mark now told conn) first
    (of_another first (telling_mark now told conn) (is_of first.ask (telling_mark now told conn)) refl (λ e. absurd (ne (sym e))))
    (ap (λ l. nat_le (command_of first) (length l)) (with_item-other told conn answer (conn_of first) ne)))
    (cases_eq (conn_of first) conn)

-- a client is told behind a home's answer
pub told_behind_push : (setting : Setting) (now : ℕ) (marks : List Mark) (talk : Talk) (told : ℕ → List Answer) (course : Course) (conn : ℕ)
    (answer : Answer) → length (talk.answers conn) ≡ length (told conn) + 1 → IsToldIn setting now marks talk told course
    → IsToldIn setting now (marks ++ telling_mark now told conn ∷ []) talk (with_item told conn answer) course
told_behind_push setting now marks talk told course conn answer said is =
    let mark : Mark = telling_mark now told conn in
    record {
      carries = carries_telling setting talk first_course course marks mark telling tells_plainly is.carries;
      once = marked_once_telling (λ c. length (talk.answers c)) marks mark telling is.once;
      later = marks_push Later marks mark is.later (λ k d h. (
        λ e. omega (arith, is.numbers k d h, said, ap (λ c. length (talk.answers c)) e),
        is.timely k d h,
      ));
      numbers = All-push (λ (m : Mark). command_of m ≤ length (talk.answers (conn_of m))) marks mark is.numbers (omega (arith, said));
      timely = All-push (λ (m : Mark). m.step ≤ now) marks mark is.timely (omega arith);
      serials = is.serials;
      ahead = λ other. ⊎_elim
          (λ (e : other ≡ conn). omega (
            arith,
            said,
            ap (λ c. length (with_item told conn answer c)) e,
            length_with_item told conn answer,
            ap (λ c. length (talk.answers c)) e,
          ))
          (λ (ne : other ≢ conn). omega (arith, is.ahead other, ap length (with_item-other told conn answer other ne)))
          (cases_eq other conn);
      fit = fit_push (counts_of told) (counts_of (with_item told conn answer)) marks mark is.fit
          (λ k d h. fits_behind now talk told conn answer said (get_or marks k d) (is.numbers k d h))
          (fits_now (length (told conn) + 1) (length (with_item told conn answer conn)) (omega (arith, length_with_item told conn answer)));
    }

-- more is asked
pub told_asked : (setting : Setting) (now : ℕ) (marks : List Mark) (talk : Talk) (told : ℕ → List Answer) (course : Course)
    (requests : ℕ → List Request) → GoesOn talk.requests requests → IsToldIn setting now marks talk told course
    → IsToldIn setting now marks (talk_asking talk requests) told course
told_asked setting now marks talk told course requests more is = record {
  carries = carries_on setting talk (talk_asking talk requests)
      (record { requests = more; answers = same_lists talk.answers; serials = same_lists talk.serials; moving = refl }) first_course course marks is.carries;
  once = is.once;
  later = is.later;
  numbers = is.numbers;
  timely = is.timely;
  serials = is.serials;
  ahead = is.ahead;
  fit = is.fit;
}

-- a step begins
pub told_later : (setting : Setting) (now next : ℕ) (marks : List Mark) (talk : Talk) (told : ℕ → List Answer) (course : Course) → now ≤ next
    → IsToldIn setting now marks talk told course → IsToldIn setting next marks talk told course
told_later setting now next marks talk told course le is = record {
  carries = is.carries;
  once = is.once;
  later = is.later;
  numbers = is.numbers;
  timely = All-weaker (λ (m : Mark). m.step ≤ now) (λ (m : Mark). m.step ≤ next) (λ m h. omega arith) marks is.timely;
  serials = is.serials;
  ahead = is.ahead;
  fit = is.fit;
}
