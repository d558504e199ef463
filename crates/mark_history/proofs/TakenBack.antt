-- A reply of which its client wasn't told is taken back, where its step counts only if the client is told.
use Rattle.std.proofs.Common.{◌≡◌, ◌≢◌, ℕ, zero, suc, ◌+◌, ◌≤◌, ◌<◌, ◌&&◌, Bool, true, false, cond, nat_eq, nat_le, List, [], ◌∷◌, ◌++◌, length, take, drop, get_or, if◌then◌else◌, Option, None, Some, refl, sym, ◌∙◌, ap, subst, arith, length-append}
use Rattle.std.specs.Prelude.{All, count_by, slice_get}
use Rattle.std.proofs.Math.Logic.{⊎_elim}
use Rattle.std.proofs.lemmas.Bool.{cases_eq}
use Rattle.std.proofs.lemmas.Bool.Decides.{nat_tests}
use Rattle.std.proofs.lemmas.List.{length-take-le, take-append-drop}
use Rattle.std.proofs.lemmas.List.Elements.{All-cons, All-nil}
use Rattle.link_msg.specs.declared.counts.Counts.TheVariants.{Always, IfAnswered}
use Rattle.link_msg.specs.declared.how.How.TheVariants.{Here, Behind, Reserved, Unreached}
use Rattle.imap_types.specs.declared.request.Answer.{Answer}
use Rattle.mur_base.specs.declared.point.AskId.{AskId}
use Rattle.mur_model.specs.declared.session.Sess.{Sess}
use Rattle.mur_model.specs.declared.setting.Setting.{Setting}
use Rattle.mur_model.specs.History.{numbered}
use Rattle.mur_model.proofs.HistoryGrows.{one_up_to}
use Rattle.mark_history.specs.declared.mark.Mark.{Mark}
use Rattle.mark_history.specs.declared.mark.MarkKind.{MarkKind}
use Rattle.mark_history.specs.declared.mark.MarkKind.TheVariants.{Home, Told}
use Rattle.mark_history.specs.FirstCourse.{first_course}
use Rattle.mark_history.specs.History.{is_of, next_of}
use Rattle.mark_history.specs.Marked.{IsUntold, Tale, last_from, last_of, open_ask, said_by, taking_back, with_list}
use Rattle.mark_history.proofs.ByLast.{IsToldByLast, said_of}
use Rattle.mark_history.proofs.CarriesFrom.{CarriesFrom, CarriesBeside, HasActs, beside, carries_of, from_with, from_without}
use Rattle.mark_history.proofs.Numbers.{count_cons}
use Rattle.mark_history.proofs.LeftOut.{LeavesOut}
use Rattle.mark_history.proofs.LeftOut.LeavesOut.{no_marks, stays, left_out}
use Rattle.mark_history.proofs.Legal.{answered_once, at_most_one}
use Rattle.mark_history.proofs.Marks.{Later, MarkedOnce, acting_mark, counts_of, is_mark, one_next}
use Rattle.mark_history.proofs.Tally.{acts, command_of, conn_of, Fit, fits, may_refuse, of_ask, of_equal, of_other, same_id}
use Rattle.mark_history.proofs.Told.{IsToldIn}
use Rattle.mark_history.proofs.Without.{ActsUntold, IsApart, IsBefore, Without, acts_by, acts_home, count_without, each_without, fit_without, leaves_without, others_apart, pairs_without, untold_acts}
use Rattle.mark_history.proofs.Without.Without.{here, behind}

-- ---- the mark of the step that acts

record Found (p : Mark → Bool) (marks : List Mark) : Type 0 where
  mark : Mark
  less : List Mark
  out : Without mark marks less
  is : p mark ≡ true

found_by : (p : Mark → Bool) (first : Mark) (marks : List Mark) (b : Bool) → p first ≡ b → 0 < cond b 1 0 + count_by p marks
    → (0 < count_by p marks → Found p marks) → Found p (first ∷ marks)
found_by p first marks true e some rest = record { mark = first; less = marks; out = here marks; is = e }
found_by p first marks false e some rest =
    let its = rest (omega arith) in record { mark = its.mark; less = first ∷ its.less; out = behind first marks its.less its.out; is = its.is }

found : (p : Mark → Bool) (marks : List Mark) → 0 < count_by p marks → Found p marks
found p [] some = absurd (omega arith)
found p (first ∷ marks) some = found_by p first marks (p first) refl (omega (arith, some, count_cons p first marks)) (found p marks)

pub none_untold : (kind : MarkKind) (next : Option MarkKind) → fits kind next false ≡ true → next ≡ None
unfolding fits may_refuse
none_untold (Told Here) next fit = cc
none_untold (Told Behind) next fit = cc
none_untold (Told Reserved) next fit = cc
none_untold (Told (Unreached node)) next fit = cc
none_untold (Home counts) None fit = refl
none_untold (Home counts) (Some (Told Behind)) fit = cc
none_untold (Home Always) (Some (Told Reserved)) fit = cc
none_untold (Home IfAnswered) (Some (Told Reserved)) fit = cc
none_untold (Home counts) (Some (Told Here)) fit = cc
none_untold (Home counts) (Some (Told (Unreached node))) fit = cc
none_untold (Home counts) (Some (Home other)) fit = cc

last_by : (ask : AskId) (earlier : Option MarkKind) (mark : Mark) (marks : List Mark) (b : Bool)
    → (next_of ask marks ≡ None → last_from ask earlier marks ≡ earlier) → (if b then Some mark.kind else next_of ask marks) ≡ None
    → last_from ask (if b then Some mark.kind else earlier) marks ≡ earlier
last_by ask earlier mark marks true rest none = cc
last_by ask earlier mark marks false rest none = rest none

-- none is of the command
pub last_none : (ask : AskId) (earlier : Option MarkKind) (marks : List Mark) → next_of ask marks ≡ None → last_from ask earlier marks ≡ earlier
unfolding last_from next_of
last_none ask earlier [] none = refl
last_none ask earlier (mark ∷ marks) none = last_by ask earlier mark marks (is_of ask mark) (last_none ask earlier marks) none

just : {one other : MarkKind} → Some one ≡ Some other → one ≡ other
just e = cc

-- the mark of a step that acts on a command is the last of it, as long as its client isn't told
abbrev IsLast : AskId → Mark → Type 0
IsLast ask mark = is_of ask mark ≡ true → mark.kind ≡ Home IfAnswered

acts_last : (said told : ℕ → ℕ) (ask : AskId) (earlier : Option MarkKind) (marks acting : List Mark) → LeavesOut said marks acting → Fit told acting
    → nat_le ask.command (told ask.conn) ≡ false → last_from ask earlier marks ≡ Some (Home IfAnswered) → All (IsLast ask) acting
unfolding Fit last_from
acts_last said told ask earlier marks acting no_marks fit untold last = All-nil (IsLast ask)
acts_last said told ask earlier marks acting (stays mark more rest next leaves) fit untold last =
    All-cons (IsLast ask) mark rest
    (λ same.
    let both = of_equal ask mark same in
    let id : mark.ask ≡ ask = same_id mark.ask ask both.0 both.1 in
    let still : nat_le (command_of mark) (told (conn_of mark)) ≡ false = ap (λ (a : AskId). nat_le a.command (told a.conn)) id ∙ untold in
    let fitting : fits mark.kind (next_of mark.ask rest) false ≡ true = ap (fits mark.kind (next_of mark.ask rest)) (sym still) ∙ fit.0 in
    let none : next_of ask more ≡ None =
    ap (λ a. next_of a more) (sym id) ∙ next (acts_by mark.kind (next_of mark.ask rest) fitting) ∙ none_untold mark.kind (next_of mark.ask rest) fitting in
    let own : said_by ask mark earlier ≡ Some mark.kind = ap (λ b. if b then Some mark.kind else earlier) same in
    just (sym own ∙ sym (last_none ask (said_by ask mark earlier) more none) ∙ last))
    (acts_last said told ask (said_by ask mark earlier) more rest leaves fit.1 untold last)
acts_last said told ask earlier marks acting (left_out mark more rest kind saw leaves) fit untold last =
    acts_last said told ask (said_by ask mark earlier) more rest leaves fit untold last

-- ---- lists of connections

pub list_at : {T : Type 0} (lists : ℕ → List T) (conn : ℕ) (list : List T) → with_list lists conn list conn ≡ list
unfolding with_list
list_at lists conn list = let same : nat_eq conn conn ≡ true = grind (arith, nat_tests) in rw same refl

pub list_elsewhere : {T : Type 0} (lists : ℕ → List T) (conn : ℕ) (list : List T) (other : ℕ) → other ≢ conn → with_list lists conn list other ≡ lists other
unfolding with_list
list_elsewhere lists conn list other ne = let apart : nat_eq other conn ≡ false = grind (arith, nat_tests) in rw apart refl

get_same : {T : Type 0} (items more : List T) (k : ℕ) → k < length items → slice_get items k ≡ slice_get (items ++ more) k
get_same [] more k within = absurd (omega arith)
get_same (first ∷ items) more zero within = refl
get_same (first ∷ items) more (suc k) within = get_same items more k (omega arith)

numbered_same : {T : Type 0} (items more : List T) (number : ℕ) → number ≤ length items → numbered items number ≡ numbered (items ++ more) number
unfolding numbered
numbered_same items more zero within = refl
numbered_same items more (suc number) within = get_same items more number (omega arith)

once_without : (counts next : ℕ → ℕ) (mark : Mark) (marks less : List Mark) → Without mark marks less → acts mark.kind ≡ true
    → command_of mark ≡ next (conn_of mark) + 1 → counts (conn_of mark) ≡ next (conn_of mark) + 1
    → ((other : ℕ) → other ≢ conn_of mark → next other ≡ counts other) → MarkedOnce counts marks → MarkedOnce next less
once_without counts next mark marks less out acting is more others once other number =
    ⊎_elim
    (λ (same : other ≡ conn_of mark).
    let tested : nat_eq (conn_of mark) other ≡ true = grind (arith, nat_tests) in
    let its : is_mark other number mark ≡ nat_eq (next (conn_of mark) + 1) number =
    acting_mark other number mark acting ∙ ap (λ t. t && nat_eq (command_of mark) number) tested ∙ ap (λ c. nat_eq c number) is in
    omega (
      arith,
      count_without (is_mark other number) mark marks less out,
      once other number,
      ap (λ c. one_up_to (counts c) number) same,
      ap (λ c. one_up_to c number) more,
      one_next (next (conn_of mark)) number,
      ap {B = ℕ} (λ b. cond b 1 0) its,
      ap (λ c. one_up_to (next c) number) same,
    ))
    (λ (ne : other ≢ conn_of mark).
    let tested : nat_eq (conn_of mark) other ≡ false = grind (arith, nat_tests) in
    let its : is_mark other number mark ≡ false = acting_mark other number mark acting ∙ ap (λ t. t && nat_eq (command_of mark) number) tested in
    omega (
      arith,
      count_without (is_mark other number) mark marks less out,
      once other number,
      ap {B = ℕ} (λ b. cond b 1 0) its,
      ap (λ c. one_up_to c number) (others other ne),
    ))
    (cases_eq other (conn_of mark))

-- ---- without it

untold_high : (number count : ℕ) → number ≡ count + 1 → nat_le number count ≡ false
untold_high number count e = grind (arith, nat_tests)

module _ (setting : Setting) (now : ℕ) (tale : Tale) (acting less : List Mark) (mark : Mark) (answer : Answer)
    (told : IsToldIn setting now acting tale.talk tale.told tale.course) (out : Without mark acting less) (kind : mark.kind ≡ Home IfAnswered)
    (its : command_of mark ≡ length (tale.told (conn_of mark)) + 1) (untold : IsUntold tale (conn_of mark) answer) where
  abbrev conn : ℕ
  conn = conn_of mark

  abbrev back : Tale
  back = taking_back tale conn

  said : length (tale.talk.answers conn) ≡ length (tale.told conn) + 1
  said = ap length untold ∙ length-append (tale.told conn) (answer ∷ [])

  high : nat_le (command_of mark) (length (tale.told conn)) ≡ false
  high = untold_high (command_of mark) (length (tale.told conn)) its

  apart : All (IsApart mark) less
  apart = others_apart (counts_of tale.told) mark acting less out (acts_home mark kind) high
      (at_most_one (length (tale.talk.answers conn)) (command_of mark) _ (told.once conn (command_of mark)))
      (each_without (ActsUntold (counts_of tale.told)) mark acting less out (untold_acts (counts_of tale.told) acting told.fit))

  numbers : All (λ (m : Mark). command_of m ≤ length (tale.talk.answers (conn_of m))) less
  numbers = each_without (λ (m : Mark). command_of m ≤ length (tale.talk.answers (conn_of m))) mark acting less out told.numbers

  before_it : All (IsBefore mark) less
  before_it = λ k d h. λ c.
      (let ne : command_of (get_or less k d) ≢ command_of mark = apart k d h c in
      omega (arith, ne, numbers k d h, its, said, ap (λ x. length (tale.talk.answers x)) c))

  answers_at : (c : ℕ) → c ≡ conn → length (back.talk.answers c) ≡ length (tale.told conn)
  answers_at c e = ap (λ x. length (back.talk.answers x)) e ∙ ap length (list_at tale.talk.answers conn (tale.told conn))

  answers_elsewhere : (c : ℕ) → c ≢ conn → back.talk.answers c ≡ tale.talk.answers c
  answers_elsewhere c ne = list_elsewhere tale.talk.answers conn (tale.told conn) c ne

  serials_taken : length (take (length (tale.told conn)) (tale.talk.serials conn)) ≡ length (tale.told conn)
  serials_taken = length-take-le (length (tale.told conn)) (tale.talk.serials conn) (omega (arith, told.serials conn, said))

  has_acts : (m : Mark) → (conn_of m ≡ conn → command_of m ≤ length (tale.told conn)) → HasActs tale.talk back.talk m
  has_acts m low = λ a. record {
    request = refl;
    answer = ⊎_elim
        (λ (c : conn_of m ≡ conn). ap (λ x. numbered (back.talk.answers x) (command_of m)) c
        ∙ ap (λ l. numbered l (command_of m)) (list_at tale.talk.answers conn (tale.told conn))
        ∙ numbered_same (tale.told conn) (answer ∷ []) (command_of m) (low c)
        ∙ ap (λ l. numbered l (command_of m)) (sym untold) ∙ ap (λ x. numbered (tale.talk.answers x) (command_of m)) (sym c))
        (λ (ne : conn_of m ≢ conn). ap (λ l. numbered l (command_of m)) (answers_elsewhere (conn_of m) ne))
        (cases_eq (conn_of m) conn);
    serial = ⊎_elim
        (λ (c : conn_of m ≡ conn). ap (λ x. numbered (back.talk.serials x) (command_of m)) c
        ∙ ap (λ l. numbered l (command_of m)) (list_at tale.talk.serials conn (take (length (tale.told conn)) (tale.talk.serials conn)))
        ∙ numbered_same (take (length (tale.told conn)) (tale.talk.serials conn)) (drop (length (tale.told conn)) (tale.talk.serials conn)) (command_of m)
        (omega (arith, low c, serials_taken))
        ∙ ap (λ l. numbered l (command_of m)) (take-append-drop (length (tale.told conn)) (tale.talk.serials conn))
        ∙ ap (λ x. numbered (tale.talk.serials x) (command_of m)) (sym c))
        (λ (ne : conn_of m ≢ conn).
        ap (λ l. numbered l (command_of m)) (list_elsewhere tale.talk.serials conn (take (length (tale.told conn)) (tale.talk.serials conn)) (conn_of m) ne))
        (cases_eq (conn_of m) conn);
    moving = refl;
  }

  module _ (earlier : ℕ → Sess) (from : CarriesFrom setting tale.talk first_course first_course.sessions acting tale.course earlier)
      (was : tale.before conn ≡ earlier conn) where
    others : CarriesBeside setting tale.talk first_course first_course.sessions less (beside tale.course conn (earlier conn)) conn earlier
    others = from_without setting tale.talk mark first_course tale.course first_course.sessions earlier acting less from out kind told.later before_it

    carries_back : CarriesFrom setting back.talk first_course first_course.sessions less back.course others.ends
    carries_back = from_with setting tale.talk back.talk first_course back.course first_course.sessions others.ends less
        (λ k d h. has_acts (get_or less k d) (λ c. omega (arith, before_it k d h c, its)))
        (subst (λ s. CarriesFrom setting tale.talk first_course first_course.sessions less (beside tale.course conn s) others.ends) (sym was) others.from)

    told_back : IsToldIn setting now less back.talk back.told back.course
    told_back = record {
      carries = carries_of setting back.talk first_course back.course first_course.sessions others.ends less carries_back;
      once = once_without (λ c. length (tale.talk.answers c)) (λ c. length (back.talk.answers c)) mark acting less out (acts_home mark kind)
          (omega (arith, its, answers_at conn refl)) (omega (arith, said, answers_at conn refl)) (λ c ne. ap length (answers_elsewhere c ne)) told.once;
      later = pairs_without Later mark acting less out told.later;
      numbers = λ k d h. ⊎_elim
          (λ (c : conn_of (get_or less k d) ≡ conn). omega (arith, before_it k d h c, its, answers_at (conn_of (get_or less k d)) c))
          (λ (ne : conn_of (get_or less k d) ≢ conn). omega (arith, numbers k d h, ap length (answers_elsewhere (conn_of (get_or less k d)) ne)))
          (cases_eq (conn_of (get_or less k d)) conn);
      timely = each_without (λ (m : Mark). m.step ≤ now) mark acting less out told.timely;
      serials = λ c. ⊎_elim
          (λ (e : c ≡ conn). ap (λ x. length (back.talk.serials x)) e
          ∙ ap length (list_at tale.talk.serials conn (take (length (tale.told conn)) (tale.talk.serials conn))) ∙ serials_taken ∙ sym (answers_at c e))
          (λ (ne : c ≢ conn). ap length (list_elsewhere tale.talk.serials conn (take (length (tale.told conn)) (tale.talk.serials conn)) c ne) ∙ told.serials c
          ∙ sym (ap length (answers_elsewhere c ne)))
          (cases_eq c conn);
      ahead = λ c. ⊎_elim
          (λ (e : c ≡ conn). omega (arith, answers_at c e, ap (λ x. length (tale.told x)) e))
          (λ (ne : c ≢ conn). omega (arith, told.ahead c, ap length (answers_elsewhere c ne)))
          (cases_eq c conn);
      fit = fit_without (counts_of tale.told) mark acting less out
          (λ k d h. of_other (get_or less k d) mark _ refl (λ c n. apart k d h c n)) told.fit;
    }

    pub taken_back_to : (marks : List Mark) → LeavesOut (said_of tale) marks acting
        → ((c : ℕ) → length (tale.told c) < length (tale.talk.answers c) → tale.before c ≡ earlier c) → IsToldByLast setting now marks back
    taken_back_to marks leaves before = record {
      acting = less;
      leaves = leaves_without (said_of tale) (said_of back) mark marks acting less leaves out kind
          (untold_high (command_of mark) (length (back.talk.answers conn)) (omega (arith, its, answers_at conn refl)))
          (λ c. ⊎_elim (λ (e : c ≡ conn). omega (arith, answers_at c e, said, ap (λ x. length (tale.talk.answers x)) e))
          (λ (ne : c ≢ conn). omega (arith, ap length (answers_elsewhere c ne))) (cases_eq c conn))
          apart;
      is_told = told_back;
      earlier = others.ends;
      from = carries_back;
      before = λ c more. ⊎_elim
          (λ (e : c ≡ conn). absurd (omega (arith, more, answers_at c e, ap (λ x. length (tale.told x)) e)))
          (λ (ne : c ≢ conn). before c (omega (arith, more, ap length (answers_elsewhere c ne))) ∙ sym (others.same c ne))
          (cases_eq c conn);
    }

is_mark_parts : (conn number : ℕ) (mark : Mark) (a b c : Bool) → acts mark.kind ≡ a → nat_eq (conn_of mark) conn ≡ b → nat_eq (command_of mark) number ≡ c
    → (a && (b && c)) ≡ true → (acts mark.kind ≡ true) × (conn_of mark ≡ conn) × (command_of mark ≡ number)
is_mark_parts conn number mark true true true acting e f both = (acting, grind (arith, nat_tests), grind (arith, nat_tests))
is_mark_parts conn number mark true true false acting e f both = cc
is_mark_parts conn number mark true false c acting e f both = cc
is_mark_parts conn number mark false b c acting e f both = cc

out_at : (P : Mark → Type 0) (mark : Mark) (marks less : List Mark) → Without mark marks less → All P marks → P mark
out_at P mark marks less (here more) all = all 0 mark (omega arith)
out_at P mark marks less (behind first more rest out) all = out_at P mark more rest out (λ k d h. all (suc k) d (omega arith))

pub taken_back_by_last : (setting : Setting) (now : ℕ) (marks : List Mark) (tale : Tale) (conn : ℕ) (answer : Answer) → IsUntold tale conn answer
    → last_of (open_ask tale conn) marks ≡ Some (Home IfAnswered) → IsToldByLast setting now marks tale
    → IsToldByLast setting now marks (taking_back tale conn)
taken_back_by_last setting now marks tale conn answer untold last is =
    let number : ℕ = length (tale.told conn) + 1 in
    let said : length (tale.talk.answers conn) ≡ number = ap length untold ∙ length-append (tale.told conn) (answer ∷ []) in
    let one : count_by (is_mark conn number) is.acting ≡ 1 =
    answered_once (length (tale.talk.answers conn)) number _ (is.is_told.once conn number) (omega arith) (omega (arith, said)) in
    let its = found (is_mark conn number) is.acting (omega (arith, one)) in
    let parts = is_mark_parts conn number its.mark (acts (its.mark).kind) (nat_eq (conn_of its.mark) conn) (nat_eq (command_of its.mark) number) refl refl refl
    its.is in
    let high : nat_le number (length (tale.told conn)) ≡ false = untold_high number (length (tale.told conn)) refl in
    let kind : (its.mark).kind ≡ Home IfAnswered =
    out_at (IsLast (open_ask tale conn)) its.mark is.acting its.less its.out
    (acts_last (said_of tale) (counts_of tale.told) (open_ask tale conn) None marks is.acting is.leaves is.is_told.fit high last)
    (of_ask (open_ask tale conn) its.mark parts.1 parts.2) in
    let here_untold : IsUntold tale (conn_of its.mark) answer = subst (λ c. IsUntold tale c answer) (sym parts.1) untold in
    let at : command_of its.mark ≡ length (tale.told (conn_of its.mark)) + 1 = parts.2 ∙ ap (λ c. length (tale.told c) + 1) (sym parts.1) in
    let was : tale.before (conn_of its.mark) ≡ is.earlier (conn_of its.mark) =
    is.before (conn_of its.mark) (omega (arith, said, ap (λ c. length (tale.told c)) parts.1, ap (λ c. length (tale.talk.answers c)) parts.1)) in
    subst (λ c. IsToldByLast setting now marks (taking_back tale c)) parts.1
    (taken_back_to setting now tale is.acting its.less its.mark answer is.is_told its.out kind at here_untold is.earlier is.from was marks is.leaves is.before)
