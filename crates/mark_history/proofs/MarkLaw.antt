-- Marks that are made so make a legal history.
use Rattle.std.proofs.Common.{◌≡◌, ◌≢◌, ◌≤◌, ℕ, ◌+◌, Bool, true, false, cond, nat_eq, List, [], ◌∷◌, ◌++◌, length, if◌then◌else◌, None, Some, refl, sym, ◌∙◌, ap, subst, arith, length-append}
use Rattle.std.specs.Prelude.{All}
use Rattle.std.proofs.Math.Logic.{⊎_elim}
use Rattle.std.proofs.lemmas.Bool.{cases_eq}
use Rattle.std.proofs.lemmas.Bool.Decides.{nat_tests}
use Rattle.std.proofs.lemmas.List.Elements.{All-nil, All-push, All-weaker}
use Rattle.link_msg.specs.declared.counts.Counts.{Counts}
use Rattle.link_msg.specs.declared.counts.Counts.TheVariants.{IfAnswered}
use Rattle.link_msg.specs.declared.how.How.TheVariants.{Here, Behind, Reserved, Unreached}
use Rattle.imap_types.specs.declared.reply.NoText.{NoText}
use Rattle.imap_types.specs.declared.reply.NoText.TheVariants.{BeingMoved, NotReached}
use Rattle.imap_types.specs.declared.command.Command.{Command}
use Rattle.imap_types.specs.declared.command.Tag.{Tag}
use Rattle.imap_types.specs.declared.request.Answer.{Answer}
use Rattle.imap_types.specs.declared.request.Request.{Request}
use Rattle.mur_model.specs.declared.setting.Setting.{Setting}
use Rattle.mur_base.specs.declared.point.What.TheVariants.{Unreached as unreached}
use Rattle.mur_model.specs.Answer.{Answered}
use Rattle.mur_model.specs.History.{IsRefused, course_after, numbered, with_session}
use Rattle.mur_model.proofs.HistoryGrows.{one_up_to}
use Rattle.mur_model.proofs.Numbered.{with_item}
use Rattle.mark_history.specs.declared.mark.Mark.{Mark}
use Rattle.mark_history.specs.declared.mark.MarkKind.{MarkKind}
use Rattle.mark_history.specs.declared.mark.MarkKind.TheVariants.{Home, Told}
use Rattle.mark_history.specs.FirstCourse.{first_course}
use Rattle.mark_history.specs.History.{points_of}
use Rattle.mark_history.specs.Marked.{AreMarked, CanAct, CanRefuse, CanRefuseNow, IsLegalTo, IsUnreplied, IsUntold, MakesLegalHistories, Tale, acting, done, first_tale, last_of, mark_now, open_ask, refusal, refusing, talk_told, taking_back, telling, with_list}
use Rattle.mark_history.specs.Marked.AreMarked.{nothing, a_step, asks, sees, sees_late, carries_out, tells, tells_at_once, refuses, refuses_at_once, takes_back}
use Rattle.mark_history.proofs.ByLast.{IsToldByLast, asked_by_last, later_by_last, push_by_last, seen_by_last, said_of, told_behind_by_last, points_by_last, tale_said}
use Rattle.mark_history.proofs.CarriesFrom.{from_none, same_functions}
use Rattle.mark_history.proofs.LeftOut.LeavesOut.{no_marks as none_left}
use Rattle.mark_history.proofs.Legal.{IsToldSo, all_told, legal_marks}
use Rattle.mark_history.proofs.Late.{LeavesLate, have_next, late_push, late_seen, same_last, same_last_mark, same_points as late_points}
use Rattle.mark_history.proofs.Late.LeavesLate.{no_marks as no_late}
use Rattle.mark_history.proofs.Marks.{counts_of}
use Rattle.mark_history.proofs.Marks.Carries.{no_marks}
use Rattle.mark_history.proofs.Tally.{acts, Fit, reached_here, reached_home}
use Rattle.mark_history.proofs.RefusedByLast.{IsInOrder, order_later, order_none, order_push, refused_by_last}
use Rattle.mark_history.proofs.TakenBack.{taken_back_by_last, list_at, list_elsewhere}
use Rattle.mark_history.proofs.Told.{next_mark, step_made, step_refused, still_told, tells_now}

-- ---- the same steps, as the law has them

more_by : {T : Type 0} (lists : ℕ → List T) (own : List T) (conn : ℕ) (item : T) (other : ℕ) (b : Bool) → nat_eq other conn ≡ b → lists conn ≡ own
    → cond b (lists other ++ item ∷ []) (lists other) ≡ (if b then own ++ item ∷ [] else lists other)
more_by lists own conn item other true e is = let same : other ≡ conn = grind (arith, nat_tests) in ap (λ l. l ++ item ∷ []) (ap lists same ∙ is)
more_by lists own conn item other false e is = refl

pub more_listed : {T : Type 0} (lists : ℕ → List T) (own : List T) (conn : ℕ) (item : T) → lists conn ≡ own
    → with_item lists conn item ≡ with_list lists conn (own ++ item ∷ [])
unfolding with_item with_list
more_listed lists own conn item is = same_functions (λ other. more_by lists own conn item other (nat_eq other conn) refl is)

-- the mark of the open command, where it has no reply
as_open : (P : Mark → Type 0) (now : ℕ) (tale : Tale) (conn : ℕ) (kind : MarkKind) → IsUnreplied tale conn → P (next_mark now tale.talk conn kind)
    → P (mark_now now tale conn kind)
as_open P now tale conn kind unreplied holds =
    subst (λ (l : List Answer). P (record { step = now; ask = record { conn = conn; command = length l + 1 }; kind = kind })) unreplied holds

abbrev said_so : Tale → (ℕ → List Answer) → (ℕ → List ℕ) → (ℕ → List Answer) → ℕ → Answered → Tale
said_so tale answers serials told conn answered = record {
  talk = record { requests = tale.talk.requests; answers = answers; serials = serials; moving = tale.talk.moving };
  told = told;
  course = course_after tale.course conn answered;
  before = with_session tale.before conn (tale.course.sessions conn);
}

abbrev listed_so : Tale → (ℕ → List Answer) → ℕ → Answered → ℕ → Tale
listed_so tale told conn answered serial = said_so tale (with_list tale.talk.answers conn (tale.told conn ++ answered.answer ∷ []))
    (with_list tale.talk.serials conn (tale.talk.serials conn ++ serial ∷ [])) told conn answered

-- the open command has this answer
as_listed : (setting : Setting) (now : ℕ) (marks : List Mark) (tale : Tale) (told : ℕ → List Answer) (conn : ℕ) (answered : Answered) (serial : ℕ)
    → IsUnreplied tale conn → IsToldByLast setting now marks (tale_said tale told conn answered serial)
    → IsToldByLast setting now marks (listed_so tale told conn answered serial)
as_listed setting now marks tale told conn answered serial unreplied is =
    subst (λ s. IsToldByLast setting now marks
    (said_so tale (with_list tale.talk.answers conn (tale.told conn ++ answered.answer ∷ [])) s told conn answered))
    (more_listed tale.talk.serials (tale.talk.serials conn) conn serial refl)
    (subst (λ a. IsToldByLast setting now marks (said_so tale a (with_item tale.talk.serials conn serial) told conn answered))
    (more_listed tale.talk.answers (tale.told conn) conn answered.answer unreplied) is)

-- and its client is told of it
as_told : (setting : Setting) (now : ℕ) (marks : List Mark) (tale : Tale) (conn : ℕ) (answered : Answered) (serial : ℕ) → IsUnreplied tale conn
    → IsToldByLast setting now marks (tale_said tale (with_item tale.told conn answered.answer) conn answered serial)
    → IsToldByLast setting now marks (listed_so tale (with_list tale.told conn (tale.told conn ++ answered.answer ∷ [])) conn answered serial)
as_told setting now marks tale conn answered serial unreplied is =
    subst (λ (t : ℕ → List Answer). IsToldByLast setting now marks (listed_so tale t conn answered serial))
    (more_listed tale.told (tale.told conn) conn answered.answer refl)
    (as_listed setting now marks tale (with_item tale.told conn answered.answer) conn answered serial unreplied is)

-- a step carries the open command out
home_acts : (counts : Counts) → acts (Home counts) ≡ true
unfolding acts
home_acts counts = refl

just : {one other : Counts} → Home one ≡ Home other → one ≡ other
just e = cc

next_asked : (setting : Setting) (tale : Tale) (conn : ℕ) (request : Request) (serial : ℕ) → CanAct setting tale conn request serial
    → numbered (tale.talk.requests conn) (length (tale.talk.answers conn) + 1) ≡ Some request
next_asked setting tale conn request serial can =
    ap (λ (l : List Answer). numbered (tale.talk.requests conn) (length l + 1)) can.unreplied ∙ can.asked

pub acts_by_last : (setting : Setting) (now : ℕ) (marks : List Mark) (tale : Tale) (conn : ℕ) (counts : Counts) (request : Request) (serial : ℕ)
    → CanAct setting tale conn request serial
    → (counts ≡ IfAnswered → (done setting tale conn request serial).store ≡ tale.course.store) → IsToldByLast setting now marks tale
    → IsToldByLast setting now (marks ++ mark_now now tale conn (Home counts) ∷ []) (acting setting tale conn request serial)
acts_by_last setting now marks tale conn counts request serial can unless is =
    as_open (λ m. IsToldByLast setting now (marks ++ m ∷ []) (acting setting tale conn request serial)) now tale conn (Home counts) can.unreplied
    (as_listed setting now (marks ++ next_mark now tale.talk conn (Home counts) ∷ []) tale tale.told conn (done setting tale conn request serial) serial
    can.unreplied
    (push_by_last setting now marks tale tale.told conn (done setting tale conn request serial) serial (Home counts)
    (still_told setting tale.talk conn counts tale.told (omega (arith, ap length can.unreplied)))
    (step_made setting tale.talk tale.course conn request serial now (Home counts) (home_acts counts) (reached_home counts)
    (next_asked setting tale conn request serial can) can.free (λ kind. unless (just kind)) (is.is_told.serials conn))
    is))

-- what was replied is taken back, and the command is carried out anew
pub anew_by_last : (setting : Setting) (now : ℕ) (marks : List Mark) (tale : Tale) (conn : ℕ) (answer : Answer) (counts : Counts)
    (request : Request) (serial : ℕ) → IsUntold tale conn answer → last_of (open_ask tale conn) marks ≡ Some (Home IfAnswered)
    → CanAct setting (taking_back tale conn) conn request serial
    → (counts ≡ IfAnswered → (done setting (taking_back tale conn) conn request serial).store ≡ tale.course.store) → IsToldByLast setting now marks tale
    → IsToldByLast setting now (marks ++ mark_now now tale conn (Home counts) ∷ []) (acting setting (taking_back tale conn) conn request serial)
anew_by_last setting now marks tale conn answer counts request serial untold last can unless is =
    acts_by_last setting now marks (taking_back tale conn) conn counts request serial can unless
    (taken_back_by_last setting now marks tale conn answer untold last is)

here_acts : acts (Told Here) ≡ true
unfolding acts
here_acts = refl

-- and its client is told at once
at_once_by_last : (setting : Setting) (now : ℕ) (marks : List Mark) (tale : Tale) (conn : ℕ) (request : Request) (serial : ℕ)
    → CanAct setting tale conn request serial → IsToldByLast setting now marks tale
    → IsToldByLast setting now (marks ++ mark_now now tale conn (Told Here) ∷ [])
    (telling (acting setting tale conn request serial) conn (done setting tale conn request serial).answer)
at_once_by_last setting now marks tale conn request serial can is =
    let its : Answered = done setting tale conn request serial in
    as_open (λ m. IsToldByLast setting now (marks ++ m ∷ []) (telling (acting setting tale conn request serial) conn its.answer)) now tale conn (Told Here)
    can.unreplied
    (as_told setting now (marks ++ next_mark now tale.talk conn (Told Here) ∷ []) tale conn its serial can.unreplied
    (push_by_last setting now marks tale (with_item tale.told conn its.answer) conn its serial (Told Here)
    (tells_now setting tale.talk conn Here tale.told its.answer (ap length can.unreplied))
    (step_made setting tale.talk tale.course conn request serial now (Told Here) here_acts reached_here (next_asked setting tale conn request serial can)
    can.free (λ kind. cc) (is.is_told.serials conn))
    is))

-- the open command is refused, as a node isn't reached, and its client is told at once
unreached_by_last : (setting : Setting) (now : ℕ) (marks : List Mark) (tale : Tale) (conn : ℕ) (tag : Tag) (it : Command) (node : List ℕ) (serial : ℕ)
    → CanRefuseNow setting tale now conn tag it node → IsToldByLast setting now marks tale
    → IsToldByLast setting now (marks ++ mark_now now tale conn (Told (Unreached node)) ∷ [])
    (telling (refusing tale conn tag it NotReached serial) conn (refusal tale conn tag it NotReached).answer)
unreached_by_last setting now marks tale conn tag it node serial can is =
    let its : Answered = refusal tale conn tag it NotReached in
    as_open (λ m. IsToldByLast setting now (marks ++ m ∷ []) (telling (refusing tale conn tag it NotReached serial) conn its.answer)) now tale conn
    (Told (Unreached node)) can.unreplied
    (as_told setting now (marks ++ next_mark now tale.talk conn (Told (Unreached node)) ∷ []) tale conn its serial can.unreplied
    (push_by_last setting now marks tale (with_item tale.told conn its.answer) conn its serial (Told (Unreached node))
    (tells_now setting tale.talk conn (Unreached node) tale.told its.answer (ap length can.unreplied))
    (step_refused setting tale.talk tale.course conn serial now tag it node
    (subst (λ (l : List Answer). IsRefused setting tale.talk tale.course now conn (length l + 1) tag it (unreached node) NotReached) (sym can.unreplied)
    can.refused))
    is))

tells_by_last : (setting : Setting) (now : ℕ) (marks : List Mark) (tale : Tale) (conn : ℕ) (answer : Answer) → IsUntold tale conn answer
    → IsToldByLast setting now marks tale
    → IsToldByLast setting now (marks ++ mark_now now tale conn (Told Behind) ∷ []) (telling tale conn answer)
tells_by_last setting now marks tale conn answer untold is =
    subst (λ (t : ℕ → List Answer). IsToldByLast setting now (marks ++ mark_now now tale conn (Told Behind) ∷ []) (record tale { told = t }))
    (more_listed tale.told (tale.told conn) conn answer refl)
    (told_behind_by_last setting now marks tale conn answer (ap length untold ∙ length-append (tale.told conn) (answer ∷ [])) is)

-- ---- at the start

nothing_counted : (number : ℕ) → 0 ≡ one_up_to 0 number
unfolding one_up_to
nothing_counted number = grind (arith, nat_tests)

fits_none : Fit (λ conn. 0) []
unfolding Fit
fits_none = tt

first_by_last : (setting : Setting) (moving : ℕ → List ℕ → Bool) → IsToldByLast setting 0 [] (first_tale moving)
first_by_last setting moving = record {
  acting = [];
  leaves = none_left;
  is_told = record {
    carries = no_marks first_course;
    once = λ conn number. nothing_counted number;
    later = λ i j d h k. absurd (omega arith);
    numbers = λ k d h. absurd (omega arith);
    timely = λ k d h. absurd (omega arith);
    serials = λ conn. refl;
    ahead = λ conn. omega arith;
    fit = fits_none;
  };
  earlier = first_course.sessions;
  from = from_none first_course first_course.sessions;
  before = λ conn more. refl;
}

-- ---- each connection has one reply at most of which its client wasn't told

abbrev pub HasOne : Tale → Type 0
HasOne tale = (conn : ℕ) → IsToldSo (tale.told conn) (tale.talk.answers conn)

one_more : (told said : List Answer) (answer : Answer) → said ≡ told ++ answer ∷ [] → IsToldSo told said
one_more told said answer e = record { rest = answer ∷ []; parts = e; few = omega arith }

acting_one : (setting : Setting) (tale : Tale) (conn : ℕ) (request : Request) (serial : ℕ) → HasOne tale → HasOne (acting setting tale conn request serial)
acting_one setting tale conn request serial so = λ c. ⊎_elim
    (λ (e : c ≡ conn). one_more (tale.told c) _ (done setting tale conn request serial).answer
    (ap (with_list tale.talk.answers conn (tale.told conn ++ (done setting tale conn request serial).answer ∷ [])) e
    ∙ list_at tale.talk.answers conn (tale.told conn ++ (done setting tale conn request serial).answer ∷ [])
    ∙ ap (λ x. tale.told x ++ (done setting tale conn request serial).answer ∷ []) (sym e)))
    (λ (ne : c ≢ conn). subst (λ l. IsToldSo (tale.told c) l) (sym (list_elsewhere tale.talk.answers conn _ c ne)) (so c))
    (cases_eq c conn)

telling_one : (tale : Tale) (conn : ℕ) (answer : Answer) → IsUntold tale conn answer → HasOne tale → HasOne (telling tale conn answer)
telling_one tale conn answer untold so = λ c. ⊎_elim
    (λ (e : c ≡ conn). all_told (with_list tale.told conn (tale.told conn ++ answer ∷ []) c) (tale.talk.answers c)
    (ap tale.talk.answers e ∙ untold ∙ sym (ap (with_list tale.told conn (tale.told conn ++ answer ∷ [])) e
    ∙ list_at tale.told conn (tale.told conn ++ answer ∷ []))))
    (λ (ne : c ≢ conn). subst (λ l. IsToldSo l (tale.talk.answers c)) (sym (list_elsewhere tale.told conn (tale.told conn ++ answer ∷ []) c ne)) (so c))
    (cases_eq c conn)

taken_one : (tale : Tale) (conn : ℕ) → HasOne tale → HasOne (taking_back tale conn)
taken_one tale conn so = λ c. ⊎_elim
    (λ (e : c ≡ conn). all_told (tale.told c) (with_list tale.talk.answers conn (tale.told conn) c)
    (ap (with_list tale.talk.answers conn (tale.told conn)) e ∙ list_at tale.talk.answers conn (tale.told conn) ∙ ap tale.told (sym e)))
    (λ (ne : c ≢ conn). subst (λ l. IsToldSo (tale.told c) l) (sym (list_elsewhere tale.talk.answers conn (tale.told conn) c ne)) (so c))
    (cases_eq c conn)

-- ---- whatever is made

telling_more : (tale : Tale) (conn : ℕ) (answer : Answer) (other : ℕ) → length (tale.told other) ≤ length ((telling tale conn answer).told other)
telling_more tale conn answer other = ⊎_elim
    (λ (e : other ≡ conn). omega (
      arith,
      ap (λ c. length (tale.told c)) e,
      ap (λ c. length (with_list tale.told conn (tale.told conn ++ answer ∷ []) c)) e,
      ap length (list_at tale.told conn (tale.told conn ++ answer ∷ [])),
      length-append (tale.told conn) (answer ∷ []),
    ))
    (λ (ne : other ≢ conn). omega (arith, ap length (list_elsewhere tale.told conn (tale.told conn ++ answer ∷ []) other ne)))
    (cases_eq other conn)

refusing_one : (tale : Tale) (conn : ℕ) (tag : Tag) (it : Command) (why : NoText) (serial : ℕ) → HasOne tale → HasOne (refusing tale conn tag it why serial)
refusing_one tale conn tag it why serial so = λ c. ⊎_elim
    (λ (e : c ≡ conn). one_more (tale.told c) _ (refusal tale conn tag it why).answer
    (ap (with_list tale.talk.answers conn (tale.told conn ++ (refusal tale conn tag it why).answer ∷ [])) e
    ∙ list_at tale.talk.answers conn (tale.told conn ++ (refusal tale conn tag it why).answer ∷ [])
    ∙ ap (λ x. tale.told x ++ (refusal tale conn tag it why).answer ∷ []) (sym e)))
    (λ (ne : c ≢ conn). subst (λ l. IsToldSo (tale.told c) l) (sym (list_elsewhere tale.talk.answers conn _ c ne)) (so c))
    (cases_eq c conn)

-- the open command is refused
refuses_by_last : (setting : Setting) (now : ℕ) (marks : List Mark) (tale : Tale) (conn : ℕ) (tag : Tag) (it : Command) (serial : ℕ)
    → CanRefuse setting marks tale conn tag it → IsInOrder now marks tale.told → IsToldByLast setting now marks tale
    → IsToldByLast setting now (marks ++ mark_now now tale conn (Told Reserved) ∷ [])
    (telling (refusing tale conn tag it BeingMoved serial) conn (refusal tale conn tag it BeingMoved).answer)
refuses_by_last setting now marks tale conn tag it serial can order is =
    as_told setting now (marks ++ mark_now now tale conn (Told Reserved) ∷ []) tale conn (refusal tale conn tag it BeingMoved) serial can.unreplied
    (refused_by_last setting now marks tale conn tag it serial can order is)

-- the marks without late ones, of commands of which their clients were told before, are those of one store
pub record Holds (setting : Setting) (now : ℕ) (marks : List Mark) (tale : Tale) : Type 0 where
  pub so : HasOne tale
  pub early : List Mark
  pub late : LeavesLate (counts_of tale.told) marks early
  pub law : IsToldByLast setting now early tale
  pub order : IsInOrder now early tale.told
  pub timely : All (λ (m : Mark). m.step ≤ now) marks

-- a mark of the open command is put behind
one_more_late : (setting : Setting) (now : ℕ) (marks : List Mark) (tale next : Tale) (conn : ℕ) (kind : MarkKind) (holding : Holds setting now marks tale)
    → ((other : ℕ) → length (tale.told other) ≤ length (next.told other)) → HasOne next
    → IsToldByLast setting now (holding.early ++ mark_now now tale conn kind ∷ []) next
    → Holds setting now (marks ++ mark_now now tale conn kind ∷ []) next
one_more_late setting now marks tale next conn kind holding grows so law = record {
  so = so;
  early = holding.early ++ mark_now now tale conn kind ∷ [];
  late = late_push (counts_of tale.told) (counts_of next.told) marks holding.early (mark_now now tale conn kind) grows (omega arith) holding.late;
  law = law;
  order = order_push now holding.early tale conn kind next.told grows holding.order;
  timely = All-push (λ (m : Mark). m.step ≤ now) marks (mark_now now tale conn kind) holding.timely (omega arith);
}

-- the step that saw the open command last is the same
can_refuse : (setting : Setting) (now : ℕ) (marks : List Mark) (tale : Tale) (conn : ℕ) (tag : Tag) (it : Command) (holding : Holds setting now marks tale)
    → CanRefuse setting marks tale conn tag it → CanRefuse setting holding.early tale conn tag it
can_refuse setting now marks tale conn tag it holding can = record {
  unreplied = can.unreplied;
  step = can.step;
  saw = sym (same_last_mark (counts_of tale.told) (open_ask tale conn) (omega arith) None marks holding.early holding.late) ∙ can.saw;
  refused = can.refused;
}

pub holds : (setting : Setting) (now : ℕ) (marks : List Mark) (tale : Tale) → AreMarked setting now marks tale → Holds setting now marks tale
holds setting now marks tale (nothing moving) = record {
  so = λ conn. all_told [] [] refl;
  early = [];
  late = no_late;
  law = first_by_last setting moving;
  order = order_none;
  timely = All-nil (λ (m : Mark). m.step ≤ 0);
}
holds setting now marks tale (a_step earlier later those its le made) =
    let before = holds setting earlier those its made in record {
      so = before.so;
      early = before.early;
      late = before.late;
      law = later_by_last setting earlier later before.early its le before.law;
      order = order_later earlier later before.early its.told le before.order;
      timely = All-weaker (λ (m : Mark). m.step ≤ earlier) (λ (m : Mark). m.step ≤ later) (λ m h. omega (arith, h, le)) those before.timely;
    }
holds setting now marks tale (asks at those its requests more made) =
    let before = holds setting at those its made in record {
      so = before.so;
      early = before.early;
      late = before.late;
      law = asked_by_last setting at before.early its requests more before.law;
      order = before.order;
      timely = before.timely;
    }
holds setting now marks tale (sees at those its conn request unreplied asked made) =
    let before = holds setting at those its made in
    one_more_late setting at those its its conn (Home IfAnswered) before (λ c. omega arith) before.so
    (as_open (λ m. IsToldByLast setting at (before.early ++ m ∷ []) its) at its conn (Home IfAnswered) unreplied
    (seen_by_last setting at before.early its conn before.law))
holds setting now marks tale (sees_late at those its id low made) =
    let before = holds setting at those its made in
    let mark : Mark = record { step = at; ask = id; kind = Home IfAnswered } in
    record {
      so = before.so;
      early = before.early;
      late = late_seen (counts_of its.told) those before.early mark refl low
          (have_next (said_of its) (counts_of its.told) before.law.is_told.ahead before.early before.law.acting before.law.leaves before.law.is_told.fit)
          before.late;
      law = before.law;
      order = before.order;
      timely = All-push (λ (m : Mark). m.step ≤ at) those mark before.timely (omega arith);
    }
holds setting now marks tale (carries_out at those its conn counts request serial can unless made) =
    let before = holds setting at those its made in
    one_more_late setting at those its (acting setting its conn request serial) conn (Home counts) before (λ c. omega arith)
    (acting_one setting its conn request serial before.so)
    (acts_by_last setting at before.early its conn counts request serial can unless before.law)
holds setting now marks tale (tells at those its conn answer untold made) =
    let before = holds setting at those its made in
    one_more_late setting at those its (telling its conn answer) conn (Told Behind) before (telling_more its conn answer)
    (telling_one its conn answer untold before.so)
    (tells_by_last setting at before.early its conn answer untold before.law)
holds setting now marks tale (tells_at_once at those its conn request serial can alone made) =
    let before = holds setting at those its made in
    let answer : Answer = (done setting its conn request serial).answer in
    one_more_late setting at those its (telling (acting setting its conn request serial) conn answer) conn (Told Here) before (telling_more its conn answer)
    (telling_one (acting setting its conn request serial) conn answer (list_at its.talk.answers conn (its.told conn ++ answer ∷ []))
    (acting_one setting its conn request serial before.so))
    (at_once_by_last setting at before.early its conn request serial can before.law)
holds setting now marks tale (refuses at those its conn tag it serial can made) =
    let before = holds setting at those its made in
    let answer : Answer = (refusal its conn tag it BeingMoved).answer in
    one_more_late setting at those its (telling (refusing its conn tag it BeingMoved serial) conn answer) conn (Told Reserved) before
    (telling_more its conn answer)
    (telling_one (refusing its conn tag it BeingMoved serial) conn answer (list_at its.talk.answers conn (its.told conn ++ answer ∷ []))
    (refusing_one its conn tag it BeingMoved serial before.so))
    (refuses_by_last setting at before.early its conn tag it serial (can_refuse setting at those its conn tag it before can) before.order before.law)
holds setting now marks tale (refuses_at_once at those its conn tag it node serial can made) =
    let before = holds setting at those its made in
    let answer : Answer = (refusal its conn tag it NotReached).answer in
    one_more_late setting at those its (telling (refusing its conn tag it NotReached serial) conn answer) conn (Told (Unreached node)) before
    (telling_more its conn answer)
    (telling_one (refusing its conn tag it NotReached serial) conn answer (list_at its.talk.answers conn (its.told conn ++ answer ∷ []))
    (refusing_one its conn tag it NotReached serial before.so))
    (unreached_by_last setting at before.early its conn tag it node serial can before.law)
holds setting now marks tale (takes_back at those its conn answer untold last made) =
    let before = holds setting at those its made in
    record {
      so = taken_one its conn before.so;
      early = before.early;
      late = before.late;
      law = taken_back_by_last setting at before.early its conn answer untold
          (sym (same_last (counts_of its.told) (open_ask its conn) (omega arith) None those before.early before.late) ∙ last) before.law;
      order = before.order;
      timely = before.timely;
    }

pub legal_by_last : (setting : Setting) (now : ℕ) (marks : List Mark) (tale : Tale) → IsToldByLast setting now marks tale
    → ((conn : ℕ) → IsToldSo (tale.told conn) (tale.talk.answers conn)) → IsLegalTo setting (talk_told tale) (points_of marks) tale.course.store
legal_by_last setting now marks tale is so =
    subst (λ points. IsLegalTo setting (talk_told tale) points tale.course.store) (sym (points_by_last setting now marks tale is))
    (legal_marks setting now is.acting tale.talk tale.told tale.course is.is_told so)

pub legal_histories : MakesLegalHistories
legal_histories setting now marks tale made =
    let its = holds setting now marks tale made in
    subst (λ points. IsLegalTo setting (talk_told tale) points tale.course.store) (sym (late_points (counts_of tale.told) marks its.early its.late))
    (legal_by_last setting now its.early tale its.law its.so)
