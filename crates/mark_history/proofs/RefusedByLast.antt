-- The marks so far are those of one store, where the open command is refused and its client told: the mark that saw it last is put back in.
use Rattle.std.proofs.Common.{◌≡◌, ◌≢◌, ℕ, ◌+◌, ◌≤◌, ◌<◌, Bool, true, false, nat_le, List, [], ◌∷◌, ◌++◌, length, get_or, if◌then◌else◌, Option, None, Some, inr, refl, sym, ◌∙◌, ap, subst, arith}
use Rattle.std.specs.Prelude.{All, AllPairs}
use Rattle.std.proofs.Math.Logic.{⊎_elim}
use Rattle.std.proofs.lemmas.Bool.{cases_eq}
use Rattle.std.proofs.lemmas.Bool.Decides.{nat_tests}
use Rattle.std.proofs.lemmas.List.Elements.{All-push, All-weaker}
use Rattle.link_msg.specs.declared.counts.Counts.TheVariants.{IfAnswered}
use Rattle.link_msg.specs.declared.how.How.TheVariants.{Here, Behind, Reserved, Unreached}
use Rattle.imap_types.specs.declared.command.Command.{Command}
use Rattle.imap_types.specs.declared.command.Tag.{Tag}
use Rattle.imap_types.specs.declared.reply.NoText.{NoText}
use Rattle.imap_types.specs.declared.reply.NoText.TheVariants.{BeingMoved}
use Rattle.imap_types.specs.declared.request.Answer.{Answer}
use Rattle.mur_base.specs.declared.point.AskId.{AskId}
use Rattle.mur_base.specs.declared.point.What.TheVariants.{Reserved as reserved}
use Rattle.mur_model.specs.declared.setting.Setting.{Setting}
use Rattle.mur_model.specs.History.{Talk, IsRefused, course_after, numbered}
use Rattle.mur_model.proofs.Numbered.{with_item, with_item-lengths, with_item-longer, with_item-other, length_with_item, numbered_new}
use Rattle.mark_history.specs.declared.mark.Mark.{Mark}
use Rattle.mark_history.specs.declared.mark.MarkKind.{MarkKind}
use Rattle.mark_history.specs.declared.mark.MarkKind.TheVariants.{Home, Told}
use Rattle.mark_history.specs.FirstCourse.{first_course}
use Rattle.mark_history.specs.History.{is_of, next_of}
use Rattle.mark_history.specs.Marked.{CanRefuse, IsUnreplied, Tale, last_mark, mark_now, open_ask, refusal}
use Rattle.mark_history.proofs.ByLast.{IsToldByLast, said_of, still_saw, tale_said}
use Rattle.mark_history.proofs.CarriesFrom.{CarriesBeside, carries_of, from_on}
use Rattle.mark_history.proofs.Deeds.{refused_with}
use Rattle.mark_history.proofs.LastMarks.{none_last}
use Rattle.mark_history.proofs.LeftOut.{LeavesOut, leaves_push}
use Rattle.mark_history.proofs.Marks.{Later, counts_of, marked_once_telling, marks_push, with_session_elsewhere}
use Rattle.mark_history.proofs.PutIn.{PutIn, StillUnreplied, each_left, each_with, fit_with, once_with, pairs_left, put_in}
use Rattle.mark_history.proofs.Refused.{from_refused}
use Rattle.mark_history.proofs.Tally.{StillFits, acts, command_of, conn_of, fit_push, fits, fits_apart, may_refuse, next_or, of_ask, of_both, of_other, told_fits}
use Rattle.mark_history.proofs.Told.{IsToldIn, having_said, said_more}
use Rattle.mark_history.proofs.Without.{IsBefore, acts_home}

-- ---- the order of all marks

-- all marks so far stand in the order of their commands, of which none is behind the open one
pub record IsInOrder (now : ℕ) (marks : List Mark) (told : ℕ → List Answer) : Type 0 where
  pub later : AllPairs Later marks
  pub numbers : All (λ (m : Mark). command_of m ≤ length (told (conn_of m)) + 1) marks
  pub timely : All (λ (m : Mark). m.step ≤ now) marks

pub order_none : IsInOrder 0 [] (λ conn. [])
order_none = record {
  later = λ i j d h k. absurd (omega arith);
  numbers = λ k d h. absurd (omega arith);
  timely = λ k d h. absurd (omega arith);
}

pub order_later : (now next : ℕ) (marks : List Mark) (told : ℕ → List Answer) → now ≤ next → IsInOrder now marks told → IsInOrder next marks told
order_later now next marks told le is = record {
  later = is.later;
  numbers = is.numbers;
  timely = All-weaker (λ (m : Mark). m.step ≤ now) (λ (m : Mark). m.step ≤ next) (λ m h. omega arith) marks is.timely;
}

-- one of the open command is put behind, and perhaps more is told
pub order_push : (now : ℕ) (marks : List Mark) (tale : Tale) (conn : ℕ) (kind : MarkKind) (told : ℕ → List Answer)
    → ((other : ℕ) → length (tale.told other) ≤ length (told other)) → IsInOrder now marks tale.told
    → IsInOrder now (marks ++ mark_now now tale conn kind ∷ []) told
order_push now marks tale conn kind told more is = record {
  later = marks_push Later marks (mark_now now tale conn kind) is.later (λ k d h. (
    λ e. omega (arith, is.numbers k d h, ap (λ c. length (tale.told c)) e),
    is.timely k d h,
  ));
  numbers = All-push (λ (m : Mark). command_of m ≤ length (told (conn_of m)) + 1) marks (mark_now now tale conn kind)
      (All-weaker (λ (m : Mark). command_of m ≤ length (tale.told (conn_of m)) + 1) (λ (m : Mark). command_of m ≤ length (told (conn_of m)) + 1)
      (λ m h. omega (arith, h, more (conn_of m))) marks is.numbers)
      (omega (arith, more conn));
  timely = All-push (λ (m : Mark). m.step ≤ now) marks (mark_now now tale conn kind) is.timely (omega arith);
}

-- ---- what fits

refused_now : (next : Option MarkKind) → fits (Home IfAnswered) next false ≡ true
    → fits (Home IfAnswered) (next_or next (Some (Told Reserved))) true ≡ true
unfolding fits next_or may_refuse
refused_now None h = refl
refused_now (Some (Told Behind)) h = cc
refused_now (Some (Told Reserved)) h = cc
refused_now (Some (Told Here)) h = cc
refused_now (Some (Told (Unreached node))) h = cc
refused_now (Some (Home other)) h = cc

fits_refused : (told now : ℕ → ℕ) (tell first : Mark) → tell.kind ≡ Told Reserved → first.kind ≡ Home IfAnswered → is_of first.ask tell ≡ true
    → nat_le (command_of first) (told (conn_of first)) ≡ false → nat_le (command_of first) (now (conn_of first)) ≡ true → StillFits told now tell first
fits_refused told now tell first tells kind own before after = λ next fit.
    ap (λ b. fits first.kind (next_or next (if b then Some tell.kind else None)) (nat_le (command_of first) (now (conn_of first)))) own
    ∙ ap (λ c. fits first.kind (next_or next (Some c)) (nat_le (command_of first) (now (conn_of first)))) tells
    ∙ ap (fits first.kind (next_or next (Some (Told Reserved)))) after
    ∙ ap (λ k. fits k (next_or next (Some (Told Reserved))) true) kind
    ∙ refused_now next (ap (λ k. fits k next false) (sym kind) ∙ ap (fits first.kind next) (sym before) ∙ fit)

seen_fits : (kind : MarkKind) (told : Bool) → kind ≡ Home IfAnswered → told ≡ false → fits kind None told ≡ true
unfolding fits
seen_fits kind told k t = ap (λ x. fits x None told) k ∙ ap (fits (Home IfAnswered) None) t

reserved_acts : acts (Told Reserved) ≡ false
unfolding acts
reserved_acts = refl

-- ---- marks that are found

same_mark : {one other : Mark} → Some one ≡ Some other → one ≡ other
same_mark e = cc

none_some : {mark : Mark} → None ≡ Some mark → ⊥
none_some e = cc

-- ---- the refusal

abbrev pub refused_tale : Tale → ℕ → Tag → Command → NoText → ℕ → Tale
refused_tale tale conn tag it why serial =
    tale_said tale (with_item tale.told conn (refusal tale conn tag it why).answer) conn (refusal tale conn tag it why) serial

module _ (setting : Setting) (now : ℕ) (marks : List Mark) (tale : Tale) (tag : Tag) (it : Command) (serial : ℕ)
    (is : IsToldByLast setting now marks tale) (order : IsInOrder now marks tale.told) (ask : AskId)
    (unreplied : IsUnreplied tale ask.conn) (number : ask.command ≡ length (tale.told ask.conn) + 1) (step : ℕ)
    (saw : last_mark ask marks ≡ Some (record { step = step; ask = ask; kind = Home IfAnswered }))
    (refused : IsRefused setting tale.talk tale.course step ask.conn ask.command tag it reserved BeingMoved) where
  abbrev conn : ℕ
  conn = ask.conn

  abbrev answer : Answer
  answer = (refusal tale conn tag it BeingMoved).answer

  abbrev longer : Talk
  longer = having_said tale.talk conn answer serial

  abbrev tell : Mark
  tell = record { step = now; ask = ask; kind = Told Reserved }

  said : length (tale.talk.answers conn) ≡ length (tale.told conn)
  said = ap length unreplied

  said_now : length (longer.answers conn) ≡ length (tale.told conn) + 1
  said_now = length_with_item tale.talk.answers conn answer ∙ ap (λ n. n + 1) said

  elsewhere : (c : ℕ) → c ≢ conn → longer.answers c ≡ tale.talk.answers c
  elsewhere c ne = with_item-other tale.talk.answers conn answer c ne

  still : StillUnreplied (said_of tale) (λ c. length (longer.answers c)) ask
  still = λ mark other high. ⊎_elim
      (λ (c : conn_of mark ≡ conn).
      let count : length (tale.talk.answers (conn_of mark)) ≡ length (tale.told conn) = ap (λ x. length (tale.talk.answers x)) c ∙ said in
      let more : length (longer.answers (conn_of mark)) ≡ length (tale.told conn) + 1 = ap (λ x. length (longer.answers x)) c ∙ said_now in
      let apart : command_of mark ≢ length (tale.told conn) + 1 =
      (λ n. (let both : true ≡ false = sym (of_ask ask mark c (n ∙ sym number)) ∙ other in cc)) in
      grind (arith, nat_tests))
      (λ (ne : conn_of mark ≢ conn). ap (λ l. nat_le (command_of mark) (length l)) (elsewhere (conn_of mark) ne) ∙ high)
      (cases_eq (conn_of mark) conn)

  low : (mark : Mark) → command_of mark ≤ length (tale.talk.answers (conn_of mark)) → conn_of mark ≡ conn → command_of mark < ask.command
  low mark within c = omega (arith, within, ap (λ x. length (tale.talk.answers x)) c, said, number)

  apart : All (λ (m : Mark). is_of ask m ≡ false) is.acting
  apart = λ k d h. of_other tell (get_or is.acting k d) _ refl
      (λ c n. absurd (omega (arith, low (get_or is.acting k d) (is.is_told.numbers k d h) (sym c), n)))

  its_answer : numbered (longer.answers conn) ask.command ≡ Some answer
  its_answer = ap (numbered (longer.answers conn)) (number ∙ ap (λ n. n + 1) (sym said))
      ∙ numbered_new tale.talk.answers conn answer (length (tale.talk.answers conn)) refl

  in_longer : IsRefused setting longer tale.course step conn ask.command tag it reserved BeingMoved
  in_longer = refused_with setting tale.talk longer tale.course step conn ask.command tag it reserved BeingMoved refused.asked refl refused

  now_told : (c : ℕ) → c ≢ conn → with_item tale.told conn answer c ≡ tale.told c
  now_told c ne = with_item-other tale.told conn answer c ne

  told_more : length (with_item tale.told conn answer conn) ≡ length (tale.told conn) + 1
  told_more = length_with_item tale.told conn answer

  -- the step that saw it last
  module _ (its : PutIn (λ c. length (longer.answers c)) ask marks is.acting) where
    conn_same : conn_of its.mark ≡ conn
    conn_same = ap (λ (a : AskId). a.conn) its.its_ask

    step_same : its.mark.step ≡ step
    step_same = ap (λ (m : Mark). m.step) (same_mark (sym its.last ∙ saw))

    command_same : command_of its.mark ≡ ask.command
    command_same = ap (λ (a : AskId). a.command) its.its_ask

    before_it : All (IsBefore its.mark) is.acting
    before_it = λ k d h. λ c. omega (arith, low (get_or is.acting k d) (is.is_told.numbers k d h) (c ∙ conn_same), command_same)

    apart_from : All (λ (m : Mark). is_of m.ask its.mark ≡ false) is.acting
    apart_from = λ k d h. of_other (get_or is.acting k d) its.mark _ refl (λ c n. absurd (omega (arith, before_it k d h c, n)))

    apart_of : All (λ (m : Mark). is_of its.mark.ask m ≡ false) is.acting
    apart_of = λ k d h. of_other its.mark (get_or is.acting k d) _ refl (λ c n. absurd (omega (arith, before_it k d h (sym c), n)))

    others : CarriesBeside setting longer first_course first_course.sessions (its.more ++ tell ∷ [])
        (course_after tale.course conn (refusal tale conn tag it BeingMoved)) conn is.earlier
    others = subst (λ c. CarriesBeside setting longer first_course first_course.sessions (its.more ++ tell ∷ [])
        (course_after tale.course c (refusal tale c tag it BeingMoved)) c is.earlier) conn_same
        (from_refused setting longer its.mark tell tale.course is.earlier tag it its.kind refl reserved_acts (sym its.its_ask)
        (subst (λ n. IsRefused setting longer tale.course n (conn_of its.mark) (command_of its.mark) tag it reserved BeingMoved) (sym step_same)
        (subst (λ (a : AskId). IsRefused setting longer tale.course step a.conn a.command tag it reserved BeingMoved) (sym its.its_ask) in_longer))
        (subst (λ (a : AskId). numbered (longer.answers a.conn) a.command ≡ Some (refusal tale a.conn tag it BeingMoved).answer) (sym its.its_ask) its_answer)
        first_course first_course.sessions its.more is.acting its.out
        (from_on setting tale.talk longer (said_more tale.talk conn answer serial) first_course tale.course first_course.sessions is.earlier is.acting is.from)
        (pairs_left Later (λ c. length (longer.answers c)) marks its.more its.leaves order.later) before_it)

    -- the mark fits, and all marks still do
    fits_other : (first : Mark) → command_of first ≤ length (tale.talk.answers (conn_of first))
        → StillFits (counts_of tale.told) (counts_of (with_item tale.told conn answer)) tell first
    fits_other first within = fits_apart (counts_of tale.told) (counts_of (with_item tale.told conn answer)) tell first
        (of_other first tell _ refl (λ c n. absurd (omega (arith, low first within c, n))))
        (⊎_elim
        (λ (c : conn_of first ≡ conn).
        let below : command_of first ≤ length (tale.told conn) = omega (arith, low first within c, number) in
        let one : length (tale.told (conn_of first)) ≡ length (tale.told conn) = ap (λ x. length (tale.told x)) c in
        let two : length (with_item tale.told conn answer (conn_of first)) ≡ length (tale.told conn) + 1 =
        ap (λ x. length (with_item tale.told conn answer x)) c ∙ told_more in
        grind (arith, nat_tests))
        (λ (ne : conn_of first ≢ conn). ap (λ l. nat_le (command_of first) (length l)) (now_told (conn_of first) ne))
        (cases_eq (conn_of first) conn))

    untold : nat_le (command_of its.mark) (length (tale.told (conn_of its.mark))) ≡ false
    untold = let c : length (tale.told (conn_of its.mark)) ≡ length (tale.told conn) = ap (λ x. length (tale.told x)) conn_same in
        let n : command_of its.mark ≡ length (tale.told conn) + 1 = command_same ∙ number in grind (arith, nat_tests)

    told_now : nat_le (command_of its.mark) (length (with_item tale.told conn answer (conn_of its.mark))) ≡ true
    told_now = let c : length (with_item tale.told conn answer (conn_of its.mark)) ≡ length (tale.told conn) + 1 =
        ap (λ x. length (with_item tale.told conn answer x)) conn_same ∙ told_more in
        let n : command_of its.mark ≡ length (tale.told conn) + 1 = command_same ∙ number in grind (arith, nat_tests)

    own_told : nat_le ask.command (length (with_item tale.told conn answer conn)) ≡ true
    own_told = grind (arith, nat_tests, told_more, number)

    numbers_in : All (λ (m : Mark). command_of m ≤ length (longer.answers (conn_of m))) its.more
    numbers_in = each_with (λ (m : Mark). command_of m ≤ length (longer.answers (conn_of m))) its.mark its.more is.acting its.out
        (omega (arith, command_same, number, said_now, ap (λ x. length (longer.answers x)) conn_same))
        (All-weaker (λ (m : Mark). command_of m ≤ length (tale.talk.answers (conn_of m))) (λ (m : Mark). command_of m ≤ length (longer.answers (conn_of m)))
        (λ m h. omega (arith, h, with_item-longer tale.talk.answers conn answer (conn_of m))) is.acting is.is_told.numbers)

    leaves : LeavesOut (λ c. length (longer.answers c)) (marks ++ tell ∷ []) (its.more ++ tell ∷ [])
    leaves = leaves_push (λ c. length (longer.answers c)) (λ c. length (longer.answers c)) marks its.more tell its.leaves
        (still_saw (λ c. length (longer.answers c)) (λ c. length (longer.answers c)) tell (λ m high other. high) (inr (omega (arith, number, said_now))))

    in_order : IsInOrder now (marks ++ tell ∷ []) (with_item tale.told conn answer)
    in_order = subst (λ n. IsInOrder now (marks ++ record { step = now; ask = record { conn = conn; command = n }; kind = Told Reserved } ∷ [])
        (with_item tale.told conn answer)) (sym number)
        (order_push now marks tale conn (Told Reserved) (with_item tale.told conn answer) (λ c. with_item-longer tale.told conn answer c) order)

    told_in : IsToldIn setting now (its.more ++ tell ∷ []) longer (with_item tale.told conn answer)
        (course_after tale.course conn (refusal tale conn tag it BeingMoved))
    told_in = record {
      carries = carries_of setting longer first_course _ first_course.sessions others.ends (its.more ++ tell ∷ []) others.from;
      once = marked_once_telling (λ c. length (longer.answers c)) its.more tell reserved_acts
          (once_with (λ c. length (tale.talk.answers c)) (λ c. length (longer.answers c)) its.mark its.more is.acting its.out (acts_home its.mark its.kind)
          (omega (arith, command_same, number, said, ap (λ x. length (tale.talk.answers x)) conn_same))
          (omega (
            arith,
            said,
            said_now,
            ap (λ x. length (tale.talk.answers x)) conn_same,
            ap (λ x. length (longer.answers x)) conn_same,
          ))
          (λ c ne. ap length (elsewhere c (λ e. ne (e ∙ sym conn_same)))) is.is_told.once);
      later = pairs_left Later (λ c. length (longer.answers c)) (marks ++ tell ∷ []) (its.more ++ tell ∷ []) leaves in_order.later;
      numbers = All-push (λ (m : Mark). command_of m ≤ length (longer.answers (conn_of m))) its.more tell numbers_in (omega (arith, number, said_now));
      timely = each_left (λ (m : Mark). m.step ≤ now) (λ c. length (longer.answers c)) (marks ++ tell ∷ []) (its.more ++ tell ∷ []) leaves in_order.timely;
      serials = λ c. with_item-lengths tale.talk.serials tale.talk.answers conn serial answer c (is.is_told.serials c);
      ahead = λ c. ⊎_elim
          (λ (e : c ≡ conn). omega (
            arith,
            said_now,
            told_more,
            ap (λ x. length (with_item tale.told conn answer x)) e,
            ap (λ x. length (longer.answers x)) e,
          ))
          (λ (ne : c ≢ conn). omega (arith, is.is_told.ahead c, ap length (now_told c ne), ap length (elsewhere c ne)))
          (cases_eq c conn);
      fit = fit_push (counts_of tale.told) (counts_of (with_item tale.told conn answer)) its.more tell
          (fit_with (counts_of tale.told) its.mark its.more is.acting its.out apart_from apart_of (seen_fits its.mark.kind _ its.kind untold) is.is_told.fit)
          (each_with (StillFits (counts_of tale.told) (counts_of (with_item tale.told conn answer)) tell) its.mark its.more is.acting its.out
          (fits_refused (counts_of tale.told) (counts_of (with_item tale.told conn answer)) tell its.mark refl its.kind
          (of_both its.mark tell (sym conn_same) (sym command_same)) untold told_now)
          (λ k d h. fits_other (get_or is.acting k d) (is.is_told.numbers k d h)))
          (told_fits Reserved None _ own_told);
    }

    told_with : IsToldByLast setting now (marks ++ tell ∷ []) (refused_tale tale conn tag it BeingMoved serial)
    told_with = record {
      acting = its.more ++ tell ∷ [];
      leaves = leaves;
      is_told = told_in;
      earlier = others.ends;
      from = others.from;
      before = λ c more. ⊎_elim
          (λ (e : c ≡ conn). absurd (omega (
            arith,
            more,
            said_now,
            told_more,
            ap (λ x. length (with_item tale.told conn answer x)) e,
            ap (λ x. length (longer.answers x)) e,
          )))
          (λ (ne : c ≢ conn). with_session_elsewhere tale.before conn (tale.course.sessions conn) c (λ x. ne (sym x))
          ∙ is.before c (omega (arith, more, ap length (now_told c ne), ap length (elsewhere c ne))) ∙ sym (others.same c ne))
          (cases_eq c conn);
    }

  pub refused_at : IsToldByLast setting now (marks ++ tell ∷ []) (refused_tale tale conn tag it BeingMoved serial)
  refused_at = told_with (put_in (said_of tale) (λ c. length (longer.answers c)) ask still marks is.acting apart is.leaves (λ none. some_last none))
    where
      some_last : next_of ask marks ≡ None → ⊥
      some_last none = none_some (sym (none_last ask None marks none) ∙ saw)

pub refused_by_last : (setting : Setting) (now : ℕ) (marks : List Mark) (tale : Tale) (conn : ℕ) (tag : Tag) (it : Command) (serial : ℕ)
    → CanRefuse setting marks tale conn tag it → IsInOrder now marks tale.told → IsToldByLast setting now marks tale
    → IsToldByLast setting now (marks ++ mark_now now tale conn (Told Reserved) ∷ []) (refused_tale tale conn tag it BeingMoved serial)
refused_by_last setting now marks tale conn tag it serial can order is =
    refused_at setting now marks tale tag it serial is order (open_ask tale conn) can.unreplied refl can.step can.saw can.refused
