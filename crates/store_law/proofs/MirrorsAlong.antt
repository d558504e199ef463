-- What each command keeps of a client's mirror and the view of its session holds along each legal history.
use Rattle.std.proofs.Common.{◌≡◌, ℕ, zero, suc, ◌+◌, ◌<◌, ◌≤◌, nat_lt, nat_le, Bool, true, false, ◌&&◌, cond, List, [], ◌∷◌, length, drop}
use Rattle.std.proofs.Common.{Some, refl, sym, ◌∙◌, ap, subst, arith}
use Rattle.std.specs.Prelude.{All, AllPairs, count_by, slice_get, ◌==◌}
use Rattle.std.proofs.lemmas.Bool.Decides.{nat_tests}
use Rattle.std.proofs.lemmas.List.Elements.{All-head, All-tail}
use Rattle.std.proofs.lemmas.List.Sums.{sum_by-append}
use Rattle.std.proofs.lemmas.Option.{slice_get_within}
use Rattle.std.proofs.Math.Seq.{drop-length}
use Rattle.mail_message.specs.declared.message.Row.{Row}
use Rattle.mur_base.specs.declared.point.Point.{Point}
use Rattle.mur_base.specs.declared.point.What.{What}
use Rattle.mur_base.specs.declared.point.What.TheVariants.{Reply as replied, Read as read, Lost as lost, Reserved as reserved, Unreached as unreached}
use Rattle.imap_types.specs.declared.command.Command.{Command}
use Rattle.imap_types.specs.declared.command.Command.TheVariants as command
use Rattle.imap_types.specs.declared.reply.NoText.{NoText}
use Rattle.imap_types.specs.declared.request.Answer.{Answer}
use Rattle.imap_types.specs.declared.request.Request.{Request}
use Rattle.imap_types.specs.declared.request.Request.TheVariants as request
use Rattle.mur_model.specs.declared.session.Sess.{Sess}
use Rattle.mur_model.specs.declared.session.Sess.TheVariants.{Off, In, Selected as selected, Ended}
use Rattle.mur_model.specs.declared.setting.Setting.{Setting}
use Rattle.mur_model.specs.declared.store.Store.{Store}
use Rattle.mur_model.specs.Act.{session_after}
use Rattle.mur_model.specs.Answer.{Answered, answer_of}
use Rattle.mur_model.specs.History.{Course, Talk, Follows, IsInCommandOrder, IsLegal, answers_its_command, carried_out, course_after, is_about, loses, numbered, point_of, refused_out, with_session}
use Rattle.mur_model.specs.Relocation.{cause_text, refused_for}
use Rattle.mur_model.specs.History.Follows.{no_points, a_reply, a_loss, a_refusal}
use Rattle.store_law.specs.Mirror.{LosesNoneOf, Mirror, OfView, ViewsAreTold, asked, asked_by, mirror_of, names, read_lines}
use Rattle.store_law.proofs.MirrorLaw.{Agrees, keeps_mirror}
use Rattle.store_law.proofs.MirrorNews.{mirrors_length}
use Rattle.store_law.proofs.MirrorSteps.{Keeps, act_keeps}
use Rattle.store_law.proofs.RisingStores.{AllRise, answer_rises}

-- ---- lists by number

drop_at : {T : Type 0} (items : List T) (k : ℕ) (item : T) → slice_get items k ≡ Some item → drop k items ≡ item ∷ drop (suc k) items
drop_at [] k item e = cc
drop_at (x ∷ xs) zero item e = let same : x ≡ item = cc in ap (λ i. i ∷ xs) same
drop_at (x ∷ xs) (suc k) item e = drop_at xs k item e

count_cons : (p : Point → Bool) (x : Point) (xs : List Point) → count_by p (x ∷ xs) ≡ cond (p x) 1 0 + count_by p xs
count_cons p x xs = sum_by-append (λ y. cond (p y) 1 0) (x ∷ []) xs ∙ ap (λ n. n + count_by p xs) (omega arith)

pairs_head : (R : Point → Point → Type 0) (x : Point) (xs : List Point) → AllPairs R (x ∷ xs) → All (R x) xs
pairs_head R x xs pairs = λ k d within. pairs 0 (suc k) d (omega arith) (omega (arith, within))

pairs_tail : (R : Point → Point → Type 0) (x : Point) (xs : List Point) → AllPairs R (x ∷ xs) → AllPairs R xs
pairs_tail R x xs pairs = λ i j d lt within. pairs (suc i) (suc j) d (omega (arith, lt)) (omega (arith, within))

not_all : (a b c : Bool) → (b ≡ true → c ≡ true → ⊥) → (a && b && c) ≡ false
not_all false b c never = refl
not_all true false c never = refl
not_all true true false never = refl
not_all true true true never = absurd (never refl refl)

mirror_ends : (mirror : Mirror) (requests : List Request) → mirror_of mirror requests [] ≡ mirror
unfolding mirror_of
mirror_ends mirror [] = refl
mirror_ends mirror (it ∷ requests) = refl

-- a refusal for a move or for a server answers its command
cause_answers : (what : What) (why : NoText) → cause_text what ≡ Some why → answers_its_command what ≡ true
unfolding cause_text answers_its_command
cause_answers reserved why e = refl
cause_answers (unreached node) why e = refl
cause_answers replied why e = cc
cause_answers read why e = cc
cause_answers lost why e = cc

-- ---- one request

module _ (R : Mirror → List Row → Type 0) (keeps : Keeps R) (setting : Setting) where
  answer_keeps : (store : Store) (session : Sess) (it : Request) (serial : ℕ) (mirror : Mirror) → AllRise store → OfView R mirror session
      → let answered = answer_of setting store session it serial in
      OfView R (read_lines (asked_by mirror it) answered.answer.reply.lines) answered.session
  unfolding answer_of asked_by
  answer_keeps store session (request.Command tag it) serial mirror rise is = act_keeps R keeps setting store session it serial mirror rise is
  answer_keeps store session (request.Unknown tag) serial mirror rise is = is
  answer_keeps store session (request.TooBig tag) serial mirror rise is = is

  -- one that is refused for a move or for a server
  refused_keeps : (session : Sess) (it : Command) (why : NoText) (mirror : Mirror) → OfView R mirror session
      → let turn = refused_for session it why in OfView R (read_lines (asked mirror it) turn.reply.lines) (session_after session turn.session)
  unfolding refused_for asked OfView
  refused_keeps (selected view) (command.Select text) why mirror is = tt
  refused_keeps (selected view) (command.Examine text) why mirror is = tt
  refused_keeps (selected view) (command.Store by_uid set mode true flags) why mirror is =
      keeps.silences (names by_uid set (length mirror)) 1 mirror view.rows is
  refused_keeps (selected view) it why mirror is = is
  refused_keeps Off it why mirror is = tt
  refused_keeps (In user) it why mirror is = tt
  refused_keeps Ended it why mirror is = tt

  module _ (talk : Talk) (conn : ℕ) where
    -- none of the points answers one of the first commands of the connection, and one answers each further one that was answered
    record IsLeft (k : ℕ) (points : List Point) : Type 0 where
      none : (number : ℕ) → 0 < number → number ≤ k → count_by (is_about answers_its_command conn number) points ≡ 0
      one : (number : ℕ) → k < number → number ≤ length (talk.answers conn) → count_by (is_about answers_its_command conn number) points ≡ 1

    -- a point that answers no command of the connection is passed over
    other_left : (k : ℕ) (x : Point) (points : List Point) → ((number : ℕ) → is_about answers_its_command conn number x ≡ false) → IsLeft k (x ∷ points)
        → IsLeft k points
    other_left k x points not left = record {
      none = λ number low high. omega (
        arith,
        left.none number low high,
        count_cons (is_about answers_its_command conn number) x points,
        ap {B = ℕ} (λ b. cond b 1 0) (not number),
      );
      one = λ number low high. omega (
        arith,
        left.one number low high,
        count_cons (is_about answers_its_command conn number) x points,
        ap {B = ℕ} (λ b. cond b 1 0) (not number),
      );
    }

    -- points behind one of a later command are of no earlier one
    none_about : (n number : ℕ) (points : List Point) → number < n → All (λ (p : Point). conn ≡ p.ask.conn → n ≤ p.ask.command) points
        → count_by (is_about answers_its_command conn number) points ≡ 0
    none_about n number [] lt all = refl
    none_about n number (x ∷ points) lt all =
        let first = All-head (λ (p : Point). conn ≡ p.ask.conn → n ≤ p.ask.command) x points all in
        let is : is_about answers_its_command conn number x ≡ false = not_all (answers_its_command x.what) (x.ask.conn == conn) (x.ask.command == number)
        (λ e f. (let here : conn ≡ x.ask.conn = grind (arith, nat_tests, e) in
        let same : x.ask.command ≡ number = grind (arith, nat_tests, f) in absurd (omega (arith, lt, first here, same)))) in
        omega (
          arith,
          count_cons (is_about answers_its_command conn number) x points,
          ap {B = ℕ} (λ b. cond b 1 0) is,
          none_about n number points lt (All-tail (λ (p : Point). conn ≡ p.ask.conn → n ≤ p.ask.command) x points all),
        )

    itself : (m : ℕ) → (m == m) ≡ true
    itself m = grind (arith, nat_tests)

    module _ (step n k : ℕ) (what : What) (answering : answers_its_command what ≡ true) (points : List Point)
        (left : IsLeft k (point_of step conn n what ∷ points)) where
      head_counts : (number : ℕ) (same : Bool) → (n == number) ≡ same
          → count_by (is_about answers_its_command conn number) (point_of step conn n what ∷ points)
          ≡ cond same 1 0 + count_by (is_about answers_its_command conn number) points
      head_counts number same e =
          count_cons (is_about answers_its_command conn number) (point_of step conn n what) points
          ∙ ap (λ b. cond b 1 0 + count_by (is_about answers_its_command conn number) points)
          (let is : (answers_its_command what && (conn == conn) && (n == number)) ≡ same = rw (answering, itself conn, e) refl in is)

      -- the first of the connection's points answers its next command
      is_next : 0 < n → n ≤ length (talk.answers conn) → All (IsInCommandOrder (point_of step conn n what)) points → n ≡ suc k
      is_next low high order = by (nat_le n k) (nat_lt (suc k) n) refl refl
        where
          by : (lower higher : Bool) → nat_le n k ≡ lower → nat_lt (suc k) n ≡ higher → n ≡ suc k
          by true higher e f =
              let le : n ≤ k = grind (arith, nat_tests, e) in absurd (omega (arith, left.none n low le, head_counts n true (itself n)))
          by false true e f =
              let lt : suc k < n = grind (arith, nat_tests, f) in
              let apart : (n == suc k) ≡ false = grind (arith, nat_tests, lt) in
              absurd (omega (
                arith,
                left.one (suc k) (omega arith) (omega (arith, lt, high)),
                head_counts (suc k) false apart,
                none_about n (suc k) points lt order,
              ))
          by false false e f = grind (arith, nat_tests, e, f)

      rest_left : n ≡ suc k → n ≤ length (talk.answers conn) → IsLeft n points
      rest_left next high = record {
        none = λ number low le. none number low le (n == number) refl;
        one = λ number lt within.
            let apart : (n == number) ≡ false = grind (arith, nat_tests, lt) in
            omega (arith, left.one number (omega (arith, lt, next)) within, head_counts number false apart);
      }
        where
          none : (number : ℕ) → 0 < number → number ≤ n → (same : Bool) → (n == number) ≡ same
              → count_by (is_about answers_its_command conn number) points ≡ 0
          none number low le true e =
              let here : n ≡ number = grind (arith, nat_tests, e) in
              omega (arith, left.one number (omega (arith, next, here)) (omega (arith, high, here)), head_counts number true e)
          none number low le false e =
              let apart : number ≤ k = grind (arith, nat_tests, e, le, next) in
              omega (arith, left.none number low apart, head_counts number false e)

    -- the session at a connection
    session_here : (sessions : ℕ → Sess) (other : ℕ) (session : Sess) → (conn == other) ≡ true → with_session sessions other session conn ≡ session
    unfolding with_session
    session_here sessions other session e = rw e refl

    session_there : (sessions : ℕ → Sess) (other : ℕ) (session : Sess) → (conn == other) ≡ false
        → with_session sessions other session conn ≡ sessions conn
    unfolding with_session
    session_there sessions other session e = rw e refl

    -- what is known behind so many answers is so of the view, and it is so behind the others
    abbrev GoesOnFrom : Course → List Point → Course → Type 0
    GoesOnFrom course points last =
        (k : ℕ) (mirror : Mirror) → AllPairs IsInCommandOrder points → LosesNoneOf conn points → IsLeft k points → k ≤ length (talk.answers conn)
        → AllRise course.store → OfView R mirror (course.sessions conn)
        → OfView R (mirror_of mirror (drop k (talk.requests conn)) (drop k (talk.answers conn))) (last.sessions conn)

    ends : (course : Course) → GoesOnFrom course [] course
    ends course k mirror order loses_none left within rise is = by (nat_lt k (length (talk.answers conn))) refl
      where
        by : (more : Bool) → nat_lt k (length (talk.answers conn)) ≡ more
            → OfView R (mirror_of mirror (drop k (talk.requests conn)) (drop k (talk.answers conn))) (course.sessions conn)
        by true e =
            let lt : k < length (talk.answers conn) = grind (arith, nat_tests, e) in
            absurd (omega (arith, left.one (suc k) (omega arith) (omega (arith, lt))))
        by false e =
            let all : k ≡ length (talk.answers conn) = grind (arith, nat_tests, e, within) in
            let none : drop k (talk.answers conn) ≡ [] = ap (λ n. drop n (talk.answers conn)) all ∙ drop-length (talk.answers conn) in
            subst (λ m. OfView R m (course.sessions conn))
            (sym (ap (mirror_of mirror (drop k (talk.requests conn))) none ∙ mirror_ends mirror (drop k (talk.requests conn)))) is

    -- a point of another connection, whose request leaves the store so
    passes : (course last : Course) (x : Point) (points : List Point) (other : ℕ) (answered : Answered) → (AllRise course.store → AllRise answered.store)
        → (conn == other) ≡ false → ((number : ℕ) → is_about answers_its_command conn number x ≡ false)
        → GoesOnFrom (course_after course other answered) points last → GoesOnFrom course (x ∷ points) last
    passes course last x points other answered rises e not later k mirror order loses_none left within rise is =
        later k mirror (pairs_tail IsInCommandOrder x points order)
        (All-tail (λ (p : Point). p.ask.conn ≡ conn → loses p.what ≡ false) x points loses_none) (other_left k x points not left) within
        (rises rise) (subst (OfView R mirror) (sym (session_there course.sessions other answered.session e)) is)

    -- what is answered to a request keeps what its client knows
    abbrev AnswerKeeps : Course → Request → Answered → Type 0
    AnswerKeeps course it answered = (mirror : Mirror) → AllRise course.store → OfView R mirror (course.sessions conn)
        → OfView R (read_lines (asked_by mirror it) answered.answer.reply.lines) answered.session

    -- a point of this one
    answers : (course last : Course) (step n : ℕ) (what : What) (points : List Point) (it : Request) (answered : Answered)
        → answers_its_command what ≡ true → (AllRise course.store → AllRise answered.store) → AnswerKeeps course it answered
        → numbered (talk.requests conn) n ≡ Some it → numbered (talk.answers conn) n ≡ Some answered.answer
        → GoesOnFrom (course_after course conn answered) points last → GoesOnFrom course (point_of step conn n what ∷ points) last
    unfolding numbered mirror_of
    answers course last step zero what points it answered answering rises so asked told later k mirror order loses_none left within rise is = cc
    answers course last step (suc n) what points it answered answering rises so asked told later k mirror order loses_none left within rise is =
        let x : Point = point_of step conn (suc n) what in
        let high : suc n ≤ length (talk.answers conn) = omega (arith, slice_get_within (talk.answers conn) n answered.answer told) in
        let next : suc n ≡ suc k = is_next step (suc n) k what answering points left (omega arith) high (pairs_head IsInCommandOrder x points order) in
        let same : n ≡ k = omega (arith, next) in
        let read : Mirror = read_lines (asked_by mirror it) answered.answer.reply.lines in
        let behind : OfView R read ((course_after course conn answered).sessions conn) =
        subst (OfView R read) (sym (session_here course.sessions conn answered.session (itself conn))) (so mirror rise is) in
        let rest = later (suc n) read (pairs_tail IsInCommandOrder x points order)
        (All-tail (λ (p : Point). p.ask.conn ≡ conn → loses p.what ≡ false) x points loses_none) (rest_left step (suc n) k what answering points left next high)
        high (rises rise) behind in
        subst (λ m. OfView R (mirror_of mirror (drop m (talk.requests conn)) (drop m (talk.answers conn))) (last.sessions conn)) same
        (one_more mirror n it answered.answer asked told last rest)
      where
        one_more : (mirror : Mirror) (n : ℕ) (it : Request) (answer : Answer) → slice_get (talk.requests conn) n ≡ Some it
            → slice_get (talk.answers conn) n ≡ Some answer → (last : Course)
            → OfView R (mirror_of (read_lines (asked_by mirror it) answer.reply.lines) (drop (suc n) (talk.requests conn)) (drop (suc n) (talk.answers conn)))
            (last.sessions conn)
            → OfView R (mirror_of mirror (drop n (talk.requests conn)) (drop n (talk.answers conn))) (last.sessions conn)
        one_more mirror n it answer asked told last rest =
            rw (drop_at (talk.requests conn) n it asked) (rw (drop_at (talk.answers conn) n answer told) rest)

    -- a point that answers: of this connection, or of another
    answers_by : (course last : Course) (step other n : ℕ) (what : What) (points : List Point) (it : Request) (answered : Answered)
        → answers_its_command what ≡ true → (AllRise course.store → AllRise answered.store)
        → ((mirror : Mirror) → AllRise course.store → OfView R mirror (course.sessions other)
        → OfView R (read_lines (asked_by mirror it) answered.answer.reply.lines) answered.session)
        → numbered (talk.requests other) n ≡ Some it → numbered (talk.answers other) n ≡ Some answered.answer
        → GoesOnFrom (course_after course other answered) points last → GoesOnFrom course (point_of step other n what ∷ points) last
    answers_by course last step other n what points it answered answering rises so asked told later = by (conn == other) refl
      where
        by : (same : Bool) → (conn == other) ≡ same → GoesOnFrom course (point_of step other n what ∷ points) last
        by true e =
            let is : conn ≡ other = grind (arith, nat_tests, e) in
            subst (λ c. GoesOnFrom course (point_of step c n what ∷ points) last) is
            (answers course last step n what points it answered answering rises
            (subst (λ c. (mirror : Mirror) → AllRise course.store → OfView R mirror (course.sessions c)
            → OfView R (read_lines (asked_by mirror it) answered.answer.reply.lines) answered.session) (sym is) so)
            (ap (λ c. numbered (talk.requests c) n) is ∙ asked) (ap (λ c. numbered (talk.answers c) n) is ∙ told)
            (subst (λ c. GoesOnFrom (course_after course c answered) points last) (sym is) later))
        by false e = passes course last (point_of step other n what) points other answered rises e
            (λ number. (let back : (other == conn) ≡ false = grind (arith, nat_tests, e) in rw (answering, back) refl)) later

    along : (course last : Course) (points : List Point) → Follows setting talk course points last → GoesOnFrom course points last
    unfolding answers_its_command asked_by loses
    along course last points (no_points here) = ends here
    along course last points (a_loss here end step other n it serial rest takes later) =
        λ k mirror order loses_none. passes here end (point_of step other n lost) rest other (carried_out setting here other it serial)
        (answer_rises setting here.store (here.sessions other) it serial)
        (apart (conn == other) refl (All-head (λ (p : Point). p.ask.conn ≡ conn → loses p.what ≡ false) (point_of step other n lost) rest loses_none))
        (λ number. refl) (along _ end rest later) k mirror order loses_none
      where
        apart : (same : Bool) → (conn == other) ≡ same → (other ≡ conn → loses lost ≡ false) → (conn == other) ≡ false
        apart true e stays = let here : other ≡ conn = grind (arith, nat_tests, e) in let both : true ≡ false = stays here in cc
        apart false e stays = e
    along course last points (a_reply here end step other n it serial rest takes told later) =
        answers_by here end step other n replied rest it (carried_out setting here other it serial) refl
        (answer_rises setting here.store (here.sessions other) it serial)
        (λ mirror rise is. answer_keeps here.store (here.sessions other) it serial mirror rise is) takes.asked told (along _ end rest later)
    along course last points (a_refusal here end step other n tag it what why rest refused told later) =
        answers_by here end step other n what rest (request.Command tag it) (refused_out here other tag it why) (cause_answers what why refused.cause)
        (λ all. all) (λ mirror rise is. refused_keeps (here.sessions other) it why mirror is) refused.asked told (along _ end rest later)

  pub mirrored : (first : Course) (talk : Talk) (points : List Point) (last : Course) → IsLegal setting first talk points last → AllRise first.store
      → (conn : ℕ) → first.sessions conn ≡ Off → LosesNoneOf conn points
      → OfView R (mirror_of [] (talk.requests conn) (talk.answers conn)) (last.sessions conn)
  unfolding OfView
  mirrored first talk points last legal rise conn off loses_none =
      along talk conn first last points legal.follows 0 [] legal.in_order loses_none
      (record { none = λ number low high. absurd (omega (arith, low, high)); one = λ number low high. legal.answered_once conn number low high }) (omega arith)
      rise (subst (OfView R []) (sym off) tt)

-- what is so of more is so of less
of_view : (R S : Mirror → List Row → Type 0) → ((mirror : Mirror) (rows : List Row) → R mirror rows → S mirror rows) → (mirror : Mirror) (session : Sess)
    → OfView R mirror session → OfView S mirror session
unfolding OfView
of_view R S so mirror Off is = tt
of_view R S so mirror (In user) is = tt
of_view R S so mirror (selected view) is = so mirror view.rows is
of_view R S so mirror Ended is = tt

pub views_are_told : (setting : Setting) (first : Course) (talk : Talk) (points : List Point) (last : Course) → IsLegal setting first talk points last
    → AllRise first.store → ((conn : ℕ) → first.sessions conn ≡ Off) → ViewsAreTold talk points last
views_are_told setting first talk points last legal rise off = record {
  counted = λ conn loses_none. of_view _ _ (λ mirror rows agrees. mirrors_length mirror rows agrees.0) _ _ (agrees conn loses_none);
  told = λ conn loses_none. of_view _ _ (λ mirror rows agrees. agrees.0) _ _ (agrees conn loses_none);
}
  where
    agrees : (conn : ℕ) → LosesNoneOf conn points
        → OfView Agrees (mirror_of [] (talk.requests conn) (talk.answers conn)) (last.sessions conn)
    agrees conn loses_none = mirrored Agrees keeps_mirror setting first talk points last legal rise conn (off conn) loses_none
