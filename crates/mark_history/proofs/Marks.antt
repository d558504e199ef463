-- The marks of a run carry out their requests one after another, and what history they make.
use Rattle.std.proofs.Common.{◌≡◌, ◌≢◌, ℕ, zero, suc, ◌+◌, ◌≤◌, ◌<◌, ◌&&◌, Bool, true, false, cond, nat_eq, nat_le, List, [], ◌∷◌, ◌++◌, length}
use Rattle.std.proofs.Common.{get_or, if◌then◌else◌, Option, Some, refl, sym, ◌∙◌, ap, subst, arith}
use Rattle.std.specs.Prelude.{All, AllPairs, count_by, slice_get}
use Rattle.std.proofs.Math.Logic.{⊎_elim}
use Rattle.std.proofs.lemmas.Bool.{cases_eq}
use Rattle.std.proofs.lemmas.Bool.Decides.{nat_tests}
use Rattle.std.proofs.lemmas.List.Elements.{All-push, All-cons, All-nil}
use Rattle.std.proofs.lemmas.List.Kept.{AllPairs-cons}
use Rattle.std.proofs.lemmas.List.Sums.{sum_by-append}
use Rattle.link_msg.specs.declared.counts.Counts.TheVariants.{Always, IfAnswered}
use Rattle.link_msg.specs.declared.how.How.TheVariants.{Unreached}
use Rattle.mur_base.specs.declared.point.Point.{Point}
use Rattle.mur_base.specs.declared.point.What.TheVariants.{Reply as replied, Lost as lost, Reserved as reserved, Unreached as unreached}
use Rattle.imap_types.specs.declared.request.Answer.{Answer}
use Rattle.mur_model.specs.declared.session.Sess.{Sess}
use Rattle.mur_model.specs.declared.setting.Setting.{Setting}
use Rattle.mur_model.specs.declared.store.Store.{Store}
use Rattle.mur_model.specs.Answer.{Answered}
use Rattle.mur_model.specs.History.{Course, Talk, TalkGoesOn, numbered, with_session, course_after, Follows, answers_its_command, loses, reads, is_about}
use Rattle.mur_model.specs.History.Follows.{no_points}
use Rattle.mur_model.proofs.HistoryGrows.{one_up_to}
use Rattle.mark_history.specs.declared.mark.Mark.{Mark}
use Rattle.mark_history.specs.declared.mark.MarkKind.{MarkKind}
use Rattle.mark_history.specs.declared.mark.MarkKind.TheVariants.{Home, Told}
use Rattle.mark_history.specs.History.{is_of, next_of, counts_as, point_as, points_by, points_of}
use Rattle.mark_history.proofs.Deeds.{IsStep, same_step, step_as, step_on}
use Rattle.mark_history.proofs.StepPoints.{answered_point, lost_point, refused_point, told_talk, unreached_point}
use Rattle.mark_history.proofs.Numbers.{beyond, count_cons, within}
use Rattle.mark_history.proofs.Tally.{acts, conn_of, command_of, Fit, IsUnrefusedBy, Verdict, acting_unrefused, none_next, of_both, still_unrefused}
use Rattle.mark_history.proofs.Tally.{tells_refusal, unreached_acts, verdict}
use Rattle.mark_history.proofs.Tally.Verdict.{replies, refuses, is_unreached, is_lost, is_open, tells}

-- each mark of a step that acts carries out its request, or is refused behind it, and its answer is this step's; one that counts only for an answered
-- command leaves the store as it was. A mark behind a home's answer carries out nothing.
pub data Carries (setting : Setting) (talk : Talk) : Course → List Mark → Course → Type 0 where
  no_marks : (course : Course) → Carries setting talk course [] course
  a_mark : (course last : Course) (mark : Mark) (done : Answered) (marks : List Mark)
      → IsStep setting talk course mark (tells_refusal (next_of mark.ask marks)) done
      → Carries setting talk (course_after course (conn_of mark) done) marks last → Carries setting talk course (mark ∷ marks) last
  a_telling : (course last : Course) (mark : Mark) (marks : List Mark) → acts mark.kind ≡ false → Carries setting talk course marks last
      → Carries setting talk course (mark ∷ marks) last

pub carries_on : (setting : Setting) (talk longer : Talk) → TalkGoesOn talk longer → (first last : Course) (marks : List Mark)
    → Carries setting talk first marks last → Carries setting longer first marks last
carries_on setting talk longer on first last marks (no_marks course) = no_marks course
carries_on setting talk longer on first last marks (a_mark course end mark done rest step later) =
    a_mark course end mark done rest (step_on setting talk longer on course mark _ done step) (carries_on setting talk longer on _ end rest later)
carries_on setting talk longer on first last marks (a_telling course end mark rest telling later) =
    a_telling course end mark rest telling (carries_on setting talk longer on course end rest later)

-- what a step did stays so when a mark is put behind
pub step_before : (setting : Setting) (talk : Talk) (course : Course) (mark more : Mark) (marks : List Mark) (done : Answered) → IsUnrefusedBy more mark
    → IsStep setting talk course mark (tells_refusal (next_of mark.ask marks)) done
    → IsStep setting talk course mark (tells_refusal (next_of mark.ask (marks ++ more ∷ []))) done
step_before setting talk course mark more marks done plain step = step_as setting talk course mark _ _ done (still_unrefused mark more marks plain) step

pub carries_push : (setting : Setting) (talk : Talk) (first last : Course) (marks : List Mark) (mark : Mark) (done : Answered)
    → Carries setting talk first marks last → IsStep setting talk last mark false done
    → Carries setting talk first (marks ++ mark ∷ []) (course_after last (conn_of mark) done)
unfolding next_of tells_refusal
carries_push setting talk first last marks mark done (no_marks course) step = a_mark course _ mark done [] step (no_marks _)
carries_push setting talk first last marks mark done (a_mark course end m its rest own later) step =
    a_mark course _ m its _ (step_before setting talk course m mark rest its (λ same. acting_unrefused mark.kind step.acting) own)
    (carries_push setting talk _ end rest mark done later step)
carries_push setting talk first last marks mark done (a_telling course end m rest telling later) step =
    a_telling course _ m _ telling (carries_push setting talk course end rest mark done later step)

-- a client is told behind a home's answer
pub carries_telling : (setting : Setting) (talk : Talk) (first last : Course) (marks : List Mark) (mark : Mark) → acts mark.kind ≡ false
    → tells_refusal (Some mark.kind) ≡ false → Carries setting talk first marks last → Carries setting talk first (marks ++ mark ∷ []) last
carries_telling setting talk first last marks mark telling plain (no_marks course) = a_telling course course mark [] telling (no_marks course)
carries_telling setting talk first last marks mark telling plain (a_mark course end m its rest own later) =
    a_mark course end m its _ (step_before setting talk course m mark rest its (λ same. plain) own)
    (carries_telling setting talk _ end rest mark telling plain later)
carries_telling setting talk first last marks mark telling plain (a_telling course end m rest its_telling later) =
    a_telling course end m _ its_telling (carries_telling setting talk course end rest mark telling plain later)

get_front : {T : Type 0} (items more : List T) (k : ℕ) (item : T) → k < length items → slice_get (items ++ more) k ≡ Some item → slice_get items k ≡ Some item
get_front [] more k item h e = absurd (omega arith)
get_front (first ∷ items) more zero item h e = e
get_front (first ∷ items) more (suc k) item h e = get_front items more k item (omega arith) e

numbered_front : {T : Type 0} (items more : List T) (number : ℕ) (item : T) → number ≤ length items → numbered (items ++ more) number ≡ Some item
    → numbered items number ≡ Some item
unfolding numbered
numbered_front items more zero item h e = e
numbered_front items more (suc number) item h e = get_front items more number item (omega arith) e

-- what was told is a front of the answers
pub record IsTold_of (talk : Talk) (told : ℕ → List Answer) : Type 0 where
  pub rest : ℕ → List Answer
  pub parts : (conn : ℕ) → talk.answers conn ≡ told conn ++ rest conn

-- each point is of its mark, whose step acts, and a loss of a command that wasn't told of
pub record IsOf (told : ℕ → ℕ) (mark : Mark) (point : Point) : Type 0 where
  pub same_step : point.step ≡ mark.step
  pub same_ask : point.ask ≡ mark.ask
  pub acting : acts mark.kind ≡ true
  pub if_lost : loses point.what ≡ true → told (conn_of mark) < command_of mark
  pub unread : reads point.what ≡ false

its_reply : (told : ℕ → ℕ) (mark : Mark) → acts mark.kind ≡ true → command_of mark ≤ told (conn_of mark) → IsOf told mark (point_as mark replied)
unfolding loses reads
its_reply told mark acting low = record { same_step = refl; same_ask = refl; acting = acting; if_lost = λ k. cc; unread = refl }

its_refusal : (told : ℕ → ℕ) (mark : Mark) → acts mark.kind ≡ true → IsOf told mark (point_as mark reserved)
unfolding loses reads
its_refusal told mark acting = record { same_step = refl; same_ask = refl; acting = acting; if_lost = λ k. cc; unread = refl }

its_unreached : (told : ℕ → ℕ) (mark : Mark) (node : List ℕ) → mark.kind ≡ Told (Unreached node) → IsOf told mark (point_as mark (unreached node))
unfolding loses reads
its_unreached told mark node kind =
    record { same_step = refl; same_ask = refl; acting = unreached_acts mark.kind node kind; if_lost = λ k. cc; unread = refl }

its_loss : (told : ℕ → ℕ) (mark : Mark) → acts mark.kind ≡ true → told (conn_of mark) < command_of mark → IsOf told mark (point_as mark lost)
unfolding reads
its_loss told mark acting high = record { same_step = refl; same_ask = refl; acting = acting; if_lost = λ k. high; unread = refl }

acting_always : (mark : Mark) → mark.kind ≡ Home Always → acts mark.kind ≡ true
unfolding acts
acting_always mark e = ap acts e

acting_if : (mark : Mark) → mark.kind ≡ Home IfAnswered → acts mark.kind ≡ true
unfolding acts
acting_if mark e = ap acts e

all_by : (told : ℕ → ℕ) (mark : Mark) (P : Point → Type 0) (points : List Point) → ((point : Point) → IsOf told mark point → P point) → All P points
    → (b : Bool) → nat_le (command_of mark) (told (conn_of mark)) ≡ b → (next : Option MarkKind) → Verdict b mark.kind next
    → All P (points_by mark (counts_as mark.kind next) ++ points)
unfolding points_by
all_by told mark P points of rest b h next (refuses t kind after is) = subst (λ w. All P (points_by mark w ++ points)) (sym is)
    (All-cons P _ points (of _ (its_refusal told mark (acting_if mark kind))) rest)
all_by told mark P points of rest b h next (is_unreached node t kind is) = subst (λ w. All P (points_by mark w ++ points)) (sym is)
    (All-cons P _ points (of _ (its_unreached told mark node kind)) rest)
all_by told mark P points of rest b h next (replies t acting reached plain is) = subst (λ w. All P (points_by mark w ++ points)) (sym is)
    (All-cons P _ points (of _ (its_reply told mark acting (within told mark b h t))) rest)
all_by told mark P points of rest b h next (is_lost t always none is) = subst (λ w. All P (points_by mark w ++ points)) (sym is)
    (All-cons P _ points (of _ (its_loss told mark (acting_always mark always) (beyond told mark b h t))) rest)
all_by told mark P points of rest b h next (is_open t only none is) = subst (λ w. All P (points_by mark w ++ points)) (sym is) rest
all_by told mark P points of rest b h next (tells telling is) = subst (λ w. All P (points_by mark w ++ points)) (sym is) rest

tail_marks : (Q : Mark → Type 0) (x : Mark) (xs : List Mark) → All Q (x ∷ xs) → All Q xs
tail_marks Q x xs all = λ k d h. all (suc k) d (omega arith)

head_marks : (Q : Mark → Type 0) (x : Mark) (xs : List Mark) → All Q (x ∷ xs) → Q x
head_marks Q x xs all = all 0 x (omega arith)

-- what holds of each mark holds of each point of the history
pub all_points : (told : ℕ → ℕ) (Q : Mark → Type 0) (P : Point → Type 0) → ((mark : Mark) (point : Point) → Q mark → IsOf told mark point → P point)
    → (marks : List Mark) → Fit told marks → All Q marks → All P (points_of marks)
unfolding points_of Fit
all_points told Q P of [] fit all = All-nil P
all_points told Q P of (mark ∷ marks) fit all =
    all_by told mark P (points_of marks) (λ point is. of mark point (head_marks Q mark marks all) is)
    (all_points told Q P of marks fit.1 (tail_marks Q mark marks all)) (nat_le (command_of mark) (told (conn_of mark))) refl (next_of mark.ask marks)
    (verdict mark.kind (next_of mark.ask marks) (nat_le (command_of mark) (told (conn_of mark))) fit.0)

pairs_by : (told : ℕ → ℕ) (mark : Mark) (R : Point → Point → Type 0) (points : List Point)
    → ((point : Point) → IsOf told mark point → All (R point) points) → AllPairs R points
    → (b : Bool) → nat_le (command_of mark) (told (conn_of mark)) ≡ b → (next : Option MarkKind) → Verdict b mark.kind next
    → AllPairs R (points_by mark (counts_as mark.kind next) ++ points)
unfolding points_by
pairs_by told mark R points of rest b h next (refuses t kind after is) = subst (λ w. AllPairs R (points_by mark w ++ points)) (sym is)
    (AllPairs-cons R _ points (of _ (its_refusal told mark (acting_if mark kind))) rest)
pairs_by told mark R points of rest b h next (is_unreached node t kind is) = subst (λ w. AllPairs R (points_by mark w ++ points)) (sym is)
    (AllPairs-cons R _ points (of _ (its_unreached told mark node kind)) rest)
pairs_by told mark R points of rest b h next (replies t acting reached plain is) = subst (λ w. AllPairs R (points_by mark w ++ points)) (sym is)
    (AllPairs-cons R _ points (of _ (its_reply told mark acting (within told mark b h t))) rest)
pairs_by told mark R points of rest b h next (is_lost t always none is) = subst (λ w. AllPairs R (points_by mark w ++ points)) (sym is)
    (AllPairs-cons R _ points (of _ (its_loss told mark (acting_always mark always) (beyond told mark b h t))) rest)
pairs_by told mark R points of rest b h next (is_open t only none is) = subst (λ w. AllPairs R (points_by mark w ++ points)) (sym is) rest
pairs_by told mark R points of rest b h next (tells telling is) = subst (λ w. AllPairs R (points_by mark w ++ points)) (sym is) rest

pub head_pairs : (R : Mark → Mark → Type 0) (x : Mark) (xs : List Mark) → AllPairs R (x ∷ xs) → All (R x) xs
head_pairs R x xs pairs = λ k d h. pairs 0 (suc k) d (omega arith) (omega arith)

pub tail_pairs : (R : Mark → Mark → Type 0) (x : Mark) (xs : List Mark) → AllPairs R (x ∷ xs) → AllPairs R xs
tail_pairs R x xs pairs = λ i j d h k. pairs (suc i) (suc j) d (omega arith) (omega arith)

-- another course with the same store, and the same session at the connection of each of these marks
record Agrees (marks : List Mark) (course other : Course) : Type 0 where
  store : other.store ≡ course.store
  sessions : All (λ (m : Mark). other.sessions (conn_of m) ≡ course.sessions (conn_of m)) marks

-- a later mark: of the same connection none of an earlier command
abbrev pub Later : Mark → Mark → Type 0
Later earlier later = (conn_of earlier ≡ conn_of later → command_of earlier ≤ command_of later) × (earlier.step ≤ later.step)

-- behind a step that acts, and whose client wasn't told, there is none of its connection
abbrev pub NoMore : (ℕ → ℕ) → Mark → Mark → Type 0
NoMore told earlier later = acts earlier.kind ≡ true → told (conn_of earlier) < command_of earlier → conn_of earlier ≢ conn_of later

-- all commands of the marks were replied to, and at most one that no client was told of
pub record Replied (told said : ℕ → ℕ) (marks : List Mark) : Type 0 where
  pub numbers : All (λ (mark : Mark). command_of mark ≤ said (conn_of mark)) marks
  pub few : (conn : ℕ) → said conn ≤ told conn + 1

none_of_it : (told said : ℕ → ℕ) (mark later : Mark) → ((conn : ℕ) → said conn ≤ told conn + 1) → Later mark later → command_of later ≤ said (conn_of later)
    → is_of mark.ask later ≡ false → told (conn_of mark) < command_of mark → conn_of mark ≢ conn_of later
none_of_it told said mark later few behind low other high = λ e.
    (let both : is_of mark.ask later ≡ true =
    of_both mark later (sym e) (omega (arith, behind.0 e, low, few (conn_of later), high, ap told e, ap said e)) in cc)

none_behind_by : (told said : ℕ → ℕ) (mark : Mark) (marks : List Mark) → ((conn : ℕ) → said conn ≤ told conn + 1) → All (Later mark) marks
    → All (λ (m : Mark). command_of m ≤ said (conn_of m)) marks → (b : Bool) → nat_le (command_of mark) (told (conn_of mark)) ≡ b
    → (next : Option MarkKind) → next_of mark.ask marks ≡ next → Verdict b mark.kind next → All (NoMore told mark) marks
none_behind_by told said mark marks few later numbers b h next is (replies t acting reached plain counted) =
    λ k d at. λ a high. absurd (omega (arith, high, within told mark b h t))
none_behind_by told said mark marks few later numbers b h next is (is_unreached node t kind counted) =
    λ k d at. λ a high. absurd (omega (arith, high, within told mark b h t))
none_behind_by told said mark marks few later numbers b h next is (refuses t kind after counted) =
    λ k d at. λ a high. absurd (omega (arith, high, within told mark b h t))
none_behind_by told said mark marks few later numbers b h next is (is_lost t always none counted) =
    λ k d at. λ a high. none_of_it told said mark (get_or marks k d) few (later k d at) (numbers k d at) (none_next mark.ask marks (is ∙ none) k d at) high
none_behind_by told said mark marks few later numbers b h next is (is_open t only none counted) =
    λ k d at. λ a high. none_of_it told said mark (get_or marks k d) few (later k d at) (numbers k d at) (none_next mark.ask marks (is ∙ none) k d at) high
none_behind_by told said mark marks few later numbers b h next is (tells telling counted) =
    λ k d at. λ a high. (let both : false ≡ true = sym telling ∙ a in cc)

pub none_behind : (told said : ℕ → ℕ) (marks : List Mark) → Fit told marks → AllPairs Later marks → Replied told said marks → AllPairs (NoMore told) marks
unfolding Fit
none_behind told said [] fit later replied_to = λ i j d h k. absurd (omega arith)
none_behind told said (mark ∷ marks) fit later replied_to =
    let numbers = tail_marks (λ (m : Mark). command_of m ≤ said (conn_of m)) mark marks replied_to.numbers in
    AllPairs-cons (NoMore told) mark marks
    (none_behind_by told said mark marks replied_to.few (head_pairs Later mark marks later) numbers
    (nat_le (command_of mark) (told (conn_of mark))) refl (next_of mark.ask marks) refl
    (verdict mark.kind (next_of mark.ask marks) (nat_le (command_of mark) (told (conn_of mark))) fit.0))
    (none_behind told said marks fit.1 (tail_pairs Later mark marks later) (record { numbers = numbers; few = replied_to.few }))

-- a history is followed, and its store comes out so
pub record FollowsTo (setting : Setting) (talk : Talk) (first : Course) (points : List Point) (store : Store) : Type 0 where
  pub end : Course
  pub same_store : end.store ≡ store
  pub follows : Follows setting talk first points end

pub same_with : (one two : ℕ → Sess) (conn : ℕ) (a b : Sess) (other : ℕ) → a ≡ b → one other ≡ two other
    → with_session one conn a other ≡ with_session two conn b other
unfolding with_session
same_with one two conn a b other e f =
    ap (λ s. if nat_eq other conn then s else one other) e ∙ ap (λ s. if nat_eq other conn then b else s) f

pub with_session_elsewhere : (sessions : ℕ → Sess) (conn : ℕ) (session : Sess) (other : ℕ) → conn ≢ other
    → with_session sessions conn session other ≡ sessions other
unfolding with_session
with_session_elsewhere sessions conn session other ne = let apart : nat_eq other conn ≡ false = grind (arith, nat_tests) in rw apart refl

-- in both the same was done
agree_on : (course other : Course) (conn : ℕ) (done : Answered) (marks : List Mark)
    → All (λ (m : Mark). other.sessions (conn_of m) ≡ course.sessions (conn_of m)) marks → Agrees marks (course_after course conn done) (course_after other conn done)
agree_on course other conn done marks all = record {
  store = refl;
  sessions = λ k d h. same_with other.sessions course.sessions conn done.session done.session _ refl (all k d h);
}

-- one carried out a request that left the store as it was, of a connection that is in no later mark
agree_still : (course other : Course) (conn : ℕ) (done : Answered) (marks : List Mark) → done.store ≡ course.store → other.store ≡ course.store
    → All (λ (m : Mark). other.sessions (conn_of m) ≡ course.sessions (conn_of m)) marks → All (λ (m : Mark). conn ≢ conn_of m) marks
    → Agrees marks (course_after course conn done) other
agree_still course other conn done marks still same all apart = record {
  store = same ∙ sym still;
  sessions = λ k d h. all k d h ∙ sym (with_session_elsewhere course.sessions conn done.session _ (apart k d h));
}

-- what the marks behind this one make is followed from each course that agrees with the one that it leaves
abbrev IsFollowed : Setting → Talk → List Mark → Course → Store → Type 0
IsFollowed setting talk marks course store = (other : Course) → Agrees marks course other → FollowsTo setting talk other (points_of marks) store

abbrev pub counts_of : (ℕ → List Answer) → ℕ → ℕ
counts_of told conn = length (told conn)

-- the history that the marks make is followed by the store, of which the clients were told the answers that they were given
follows_by : (setting : Setting) (talk : Talk) (told : ℕ → List Answer) → IsTold_of talk told
    → (course other : Course) (store : Store) (mark : Mark) (done : Answered) (marks : List Mark) (next : Option MarkKind)
    → IsStep setting talk course mark (tells_refusal next) done
    → Agrees (mark ∷ marks) course other → All (NoMore (counts_of told) mark) marks
    → IsFollowed setting (told_talk talk told) marks (course_after course (conn_of mark) done) store
    → (b : Bool) → nat_le (command_of mark) (length (told (conn_of mark))) ≡ b → Verdict b mark.kind next
    → FollowsTo setting (told_talk talk told) other (points_by mark (counts_as mark.kind next) ++ points_of marks) store
unfolding points_by
follows_by setting talk told of course other store mark done marks next step agrees no_more later b h verdict_is = by verdict_is
  where
    session : other.sessions (conn_of mark) ≡ course.sessions (conn_of mark)
    session = head_marks (λ (m : Mark). other.sessions (conn_of m) ≡ course.sessions (conn_of m)) mark marks agrees.sessions

    its : IsStep setting talk other mark (tells_refusal next) done
    its = same_step setting talk course other mark (tells_refusal next) done agrees.store session step

    rest : FollowsTo setting (told_talk talk told) (course_after other (conn_of mark) done) (points_of marks) store
    rest = later (course_after other (conn_of mark) done) (agree_on course other (conn_of mark) done marks
        (tail_marks (λ (m : Mark). other.sessions (conn_of m) ≡ course.sessions (conn_of m)) mark marks agrees.sessions))

    told_answer : b ≡ true → numbered (told (conn_of mark)) (command_of mark) ≡ Some done.answer
    told_answer t = numbered_front (told (conn_of mark)) (of.rest (conn_of mark)) (command_of mark) _ (within (counts_of told) mark b h t)
        (ap (λ l. numbered l (command_of mark)) (sym (of.parts (conn_of mark))) ∙ step.answer)

    by : Verdict b mark.kind next → FollowsTo setting (told_talk talk told) other (points_by mark (counts_as mark.kind next) ++ points_of marks) store
    by (replies t a reached plain is) =
        subst (λ w. FollowsTo setting (told_talk talk told) other (points_by mark w ++ points_of marks) store) (sym is)
        (record {
          end = rest.end;
          same_store = rest.same_store;
          follows = answered_point setting talk told other rest.end mark done (points_of marks) next its.deed reached plain (told_answer t) rest.follows;
        })
    by (refuses t kind after is) =
        subst (λ w. FollowsTo setting (told_talk talk told) other (points_by mark w ++ points_of marks) store) (sym is)
        (record {
          end = rest.end;
          same_store = rest.same_store;
          follows = refused_point setting talk told other rest.end mark done (points_of marks) next its.deed kind after (told_answer t) rest.follows;
        })
    by (is_unreached node t kind is) =
        subst (λ w. FollowsTo setting (told_talk talk told) other (points_by mark w ++ points_of marks) store) (sym is)
        (record {
          end = rest.end;
          same_store = rest.same_store;
          follows = unreached_point setting talk told other rest.end mark done (points_of marks) _ node its.deed kind (told_answer t) rest.follows;
        })
    by (is_lost t always none is) =
        subst (λ w. FollowsTo setting (told_talk talk told) other (points_by mark w ++ points_of marks) store) (sym is)
        (record {
          end = rest.end;
          same_store = rest.same_store;
          follows = lost_point setting talk told other rest.end mark done (points_of marks) _ its.deed always rest.follows;
        })
    by (is_open t only none is) =
        subst (λ w. FollowsTo setting (told_talk talk told) other (points_by mark w ++ points_of marks) store) (sym is)
        (later other (agree_still course other (conn_of mark) done marks (step.unless only) agrees.store
        (tail_marks (λ (m : Mark). other.sessions (conn_of m) ≡ course.sessions (conn_of m)) mark marks agrees.sessions)
        (λ k d at. no_more k d at step.acting (beyond (counts_of told) mark b h t))))
    by (tells telling is) = (let both : false ≡ true = sym telling ∙ step.acting in cc)

agree_behind : (mark : Mark) (marks : List Mark) (course other : Course) → Agrees (mark ∷ marks) course other → Agrees marks course other
agree_behind mark marks course other agrees = record {
  store = agrees.store;
  sessions = tail_marks (λ (m : Mark). other.sessions (conn_of m) ≡ course.sessions (conn_of m)) mark marks agrees.sessions;
}

-- a mark behind a home's answer is no point
told_by : (setting : Setting) (talk : Talk) (other : Course) (store : Store) (mark : Mark) (marks : List Mark) → acts mark.kind ≡ false
    → FollowsTo setting talk other (points_of marks) store → (b : Bool) (next : Option MarkKind) → Verdict b mark.kind next
    → FollowsTo setting talk other (points_by mark (counts_as mark.kind next) ++ points_of marks) store
unfolding points_by
told_by setting talk other store mark marks telling rest b next (is_unreached node t kind is) =
    (let both : false ≡ true = sym telling ∙ unreached_acts mark.kind node kind in cc)
told_by setting talk other store mark marks telling rest b next (replies t acting reached plain is) = (let both : false ≡ true = sym telling ∙ acting in cc)
told_by setting talk other store mark marks telling rest b next (refuses t kind after is) =
    (let both : false ≡ true = sym telling ∙ acting_if mark kind in cc)
told_by setting talk other store mark marks telling rest b next (is_lost t always none is) =
    (let both : false ≡ true = sym telling ∙ acting_always mark always in cc)
told_by setting talk other store mark marks telling rest b next (is_open t only none is) =
    subst (λ w. FollowsTo setting talk other (points_by mark w ++ points_of marks) store) (sym is) rest
told_by setting talk other store mark marks telling rest b next (tells its is) =
    subst (λ w. FollowsTo setting talk other (points_by mark w ++ points_of marks) store) (sym is) rest

-- a command of which no client was told is the last of its connection; so where its mark makes no point, only that connection's session
-- differs from there on, and nothing asks for it
followed : (setting : Setting) (talk : Talk) (told : ℕ → List Answer) → IsTold_of talk told
    → (first last : Course) (marks : List Mark) → Carries setting talk first marks last → Fit (counts_of told) marks → AllPairs (NoMore (counts_of told)) marks
    → IsFollowed setting (told_talk talk told) marks first last.store
unfolding points_of Fit
followed setting talk told of first last marks (no_marks course) fit no_more =
    λ other agrees. record { end = other; same_store = agrees.store; follows = no_points other }
followed setting talk told of first last marks (a_mark course end mark done rest step later) fit no_more =
    λ other agrees. follows_by setting talk told of course other end.store mark done rest (next_of mark.ask rest) step agrees
    (head_pairs (NoMore (counts_of told)) mark rest no_more)
    (followed setting talk told of _ end rest later fit.1 (tail_pairs (NoMore (counts_of told)) mark rest no_more))
    (nat_le (command_of mark) (length (told (conn_of mark)))) refl
    (verdict mark.kind (next_of mark.ask rest) (nat_le (command_of mark) (length (told (conn_of mark)))) fit.0)
followed setting talk told of first last marks (a_telling course end mark rest telling later) fit no_more =
    λ other agrees. told_by setting (told_talk talk told) other end.store mark rest telling
    (followed setting talk told of course end rest later fit.1 (tail_pairs (NoMore (counts_of told)) mark rest no_more) other
    (agree_behind mark rest course other agrees))
    (nat_le (command_of mark) (length (told (conn_of mark)))) (next_of mark.ask rest)
    (verdict mark.kind (next_of mark.ask rest) (nat_le (command_of mark) (length (told (conn_of mark)))) fit.0)

pub marks_follow : (setting : Setting) (talk : Talk) (told : ℕ → List Answer) → IsTold_of talk told
    → (first last : Course) (marks : List Mark) → Carries setting talk first marks last → Fit (counts_of told) marks → AllPairs (NoMore (counts_of told)) marks
    → FollowsTo setting (told_talk talk told) first (points_of marks) last.store
marks_follow setting talk told of first last marks carries fit no_more =
    followed setting talk told of first last marks carries fit no_more first (record { store = refl; sessions = λ k d h. refl })

both_hold : (P Q : Mark → Type 0) (xs : List Mark) → All P xs → All Q xs → All (λ m. P m × Q m) xs
both_hold P Q xs one two = λ k d h. (one k d h, two k d h)

-- what holds of each mark and a later one, with what holds of each, holds of their points
pub pairs_of_points : (told : ℕ → ℕ) (S : Mark → Mark → Type 0) (Q : Mark → Type 0) (R : Point → Point → Type 0)
    → ((earlier later : Mark) (one other : Point) → S earlier later → Q later → IsOf told earlier one → IsOf told later other → R one other)
    → (marks : List Mark) → Fit told marks → AllPairs S marks → All Q marks → AllPairs R (points_of marks)
unfolding points_of Fit
pairs_of_points told S Q R of [] fit pairs all = λ i j d h k. absurd (omega arith)
pairs_of_points told S Q R of (mark ∷ marks) fit pairs all =
    pairs_by told mark R (points_of marks)
    (λ point is. all_points told (λ m. S mark m × Q m) (R point) (λ m p both at. of mark m point p both.0 both.1 is at) marks fit.1
    (both_hold (S mark) Q marks (head_pairs S mark marks pairs) (tail_marks Q mark marks all)))
    (pairs_of_points told S Q R of marks fit.1 (tail_pairs S mark marks pairs) (tail_marks Q mark marks all))
    (nat_le (command_of mark) (told (conn_of mark))) refl (next_of mark.ask marks)
    (verdict mark.kind (next_of mark.ask marks) (nat_le (command_of mark) (told (conn_of mark))) fit.0)

-- a mark to which all earlier ones are related is put at the end
pub marks_push : (R : Mark → Mark → Type 0) (xs : List Mark) (y : Mark) → AllPairs R xs → All (λ x. R x y) xs → AllPairs R (xs ++ y ∷ [])
marks_push R [] y pairs all = λ i j d h k. absurd (omega arith)
marks_push R (x ∷ xs) y pairs all =
    AllPairs-cons R x (xs ++ y ∷ []) (All-push (R x) xs y (head_pairs R x xs pairs) (head_marks (λ m. R m y) x xs all))
    (marks_push R xs y (tail_pairs R x xs pairs) (tail_marks (λ m. R m y) x xs all))

-- whether a mark is of a step of this command that acts
abbrev pub is_mark : ℕ → ℕ → Mark → Bool
is_mark conn number mark = acts mark.kind && (nat_eq (conn_of mark) conn && nat_eq (command_of mark) number)

-- of each connection's commands up to a number one step each acts
abbrev pub MarkedOnce : (ℕ → ℕ) → List Mark → Type 0
MarkedOnce counts marks = (conn number : ℕ) → count_by (is_mark conn number) marks ≡ one_up_to (counts conn) number

pub one_next : (count number : ℕ) → one_up_to (count + 1) number ≡ one_up_to count number + cond (nat_eq (count + 1) number) 1 0
unfolding one_up_to
one_next count number = grind (arith, nat_tests)

count_marks_push : (conn number : ℕ) (marks : List Mark) (mark : Mark)
    → count_by (is_mark conn number) (marks ++ mark ∷ []) ≡ count_by (is_mark conn number) marks + cond (is_mark conn number mark) 1 0
count_marks_push conn number marks mark =
    sum_by-append (λ (m : Mark). cond (is_mark conn number m) 1 0) marks (mark ∷ []) ∙ ap (λ n. count_by (is_mark conn number) marks + n) (omega arith)

pub acting_mark : (conn number : ℕ) (mark : Mark) → acts mark.kind ≡ true
    → is_mark conn number mark ≡ (nat_eq (conn_of mark) conn && nat_eq (command_of mark) number)
acting_mark conn number mark acting = ap (λ a. a && (nat_eq (conn_of mark) conn && nat_eq (command_of mark) number)) acting

pub marked_once_push : (counts next : ℕ → ℕ) (marks : List Mark) (mark : Mark) → acts mark.kind ≡ true → command_of mark ≡ counts (conn_of mark) + 1
    → next (conn_of mark) ≡ counts (conn_of mark) + 1
    → ((other : ℕ) → other ≢ conn_of mark → next other ≡ counts other) → MarkedOnce counts marks → MarkedOnce next (marks ++ mark ∷ [])
marked_once_push counts next marks mark acting is more others once other number =
    ⊎_elim
    (λ (same : other ≡ conn_of mark).
    let tested : nat_eq (conn_of mark) other ≡ true = grind (arith, nat_tests) in
    let here : next other ≡ counts (conn_of mark) + 1 = ap next same ∙ more in
    let before : one_up_to (counts other) number ≡ one_up_to (counts (conn_of mark)) number = ap (λ c. one_up_to (counts c) number) same in
    count_marks_push other number marks mark
    ∙ ap (λ t. count_by (is_mark other number) marks + cond t 1 0) (acting_mark other number mark acting)
    ∙ ap (λ k. k + cond (nat_eq (conn_of mark) other && nat_eq (command_of mark) number) 1 0) (once other number ∙ before)
    ∙ ap (λ t. one_up_to (counts (conn_of mark)) number + cond (t && nat_eq (command_of mark) number) 1 0) tested
    ∙ ap (λ c. one_up_to (counts (conn_of mark)) number + cond (nat_eq c number) 1 0) is
    ∙ sym (one_next (counts (conn_of mark)) number)
    ∙ sym (ap (λ k. one_up_to k number) here))
    (λ (ne : other ≢ conn_of mark).
    let tested : nat_eq (conn_of mark) other ≡ false = grind (arith, nat_tests) in
    count_marks_push other number marks mark
    ∙ ap (λ t. count_by (is_mark other number) marks + cond t 1 0) (acting_mark other number mark acting)
    ∙ ap (λ t. count_by (is_mark other number) marks + cond (t && nat_eq (command_of mark) number) 1 0) tested
    ∙ (let zero_more : count_by (is_mark other number) marks + 0 ≡ count_by (is_mark other number) marks = omega arith in zero_more)
    ∙ once other number ∙ sym (ap (λ k. one_up_to k number) (others other ne)))
    (cases_eq other (conn_of mark))

-- a mark behind a home's answer isn't counted
pub marked_once_telling : (counts : ℕ → ℕ) (marks : List Mark) (mark : Mark) → acts mark.kind ≡ false → MarkedOnce counts marks
    → MarkedOnce counts (marks ++ mark ∷ [])
marked_once_telling counts marks mark telling once conn number =
    count_marks_push conn number marks mark
    ∙ ap (λ a. count_by (is_mark conn number) marks + cond (a && (nat_eq (conn_of mark) conn && nat_eq (command_of mark) number)) 1 0) telling
    ∙ (let zero_more : count_by (is_mark conn number) marks + 0 ≡ count_by (is_mark conn number) marks = omega arith in zero_more)
    ∙ once conn number

pub count_both : {T : Type 0} (p : T → Bool) (xs ys : List T) → count_by p (xs ++ ys) ≡ count_by p xs + count_by p ys
count_both p xs ys = sum_by-append (λ y. cond (p y) 1 0) xs ys

reply_counted : (conn number : ℕ) (mark : Mark) (at : Bool) → nat_eq (conn_of mark) conn ≡ at → (same : Bool) → nat_eq (command_of mark) number ≡ same
    → count_by (is_about answers_its_command conn number) (point_as mark replied ∷ []) ≡ cond (at && same) 1 0
unfolding answers_its_command
reply_counted conn number mark true a true s = rw (a, s) refl
reply_counted conn number mark true a false s = rw (a, s) refl
reply_counted conn number mark false a same s = rw a refl

refusal_counted : (conn number : ℕ) (mark : Mark) (at : Bool) → nat_eq (conn_of mark) conn ≡ at → (same : Bool) → nat_eq (command_of mark) number ≡ same
    → count_by (is_about answers_its_command conn number) (point_as mark reserved ∷ []) ≡ cond (at && same) 1 0
unfolding answers_its_command
refusal_counted conn number mark true a true s = rw (a, s) refl
refusal_counted conn number mark true a false s = rw (a, s) refl
refusal_counted conn number mark false a same s = rw a refl

unreached_counted : (conn number : ℕ) (mark : Mark) (node : List ℕ) (at : Bool) → nat_eq (conn_of mark) conn ≡ at
    → (same : Bool) → nat_eq (command_of mark) number ≡ same
    → count_by (is_about answers_its_command conn number) (point_as mark (unreached node) ∷ []) ≡ cond (at && same) 1 0
unfolding answers_its_command
unreached_counted conn number mark node true a true s = rw (a, s) refl
unreached_counted conn number mark node true a false s = rw (a, s) refl
unreached_counted conn number mark node false a same s = rw a refl

loss_counted : (conn number : ℕ) (mark : Mark) (at : Bool) → nat_eq (conn_of mark) conn ≡ at → (same : Bool) → nat_eq (command_of mark) number ≡ same
    → count_by (is_about loses conn number) (point_as mark lost ∷ []) ≡ cond (at && same) 1 0
unfolding loses
loss_counted conn number mark true a true s = rw (a, s) refl
loss_counted conn number mark true a false s = rw (a, s) refl
loss_counted conn number mark false a same s = rw a refl

-- a mark of a command that no client was told of is none of a command that one was told of
not_this : (told : ℕ → ℕ) (conn number : ℕ) (mark : Mark) → number ≤ told conn → told (conn_of mark) < command_of mark
    → (at : Bool) → nat_eq (conn_of mark) conn ≡ at → (same : Bool) → nat_eq (command_of mark) number ≡ same → (at && same) ≡ false
not_this told conn number mark low high true a true s =
    (let c : conn_of mark ≡ conn = grind (arith, nat_tests) in
    let n : command_of mark ≡ number = grind (arith, nat_tests) in
    absurd (omega (arith, low, high, n, ap told c)))
not_this told conn number mark low high true a false s = refl
not_this told conn number mark low high false a same s = refl

-- a command that a client was told of has just as many answering points as steps that act
answers_by : (told : ℕ → ℕ) (conn number : ℕ) (mark : Mark) → number ≤ told conn
    → (b : Bool) → nat_le (command_of mark) (told (conn_of mark)) ≡ b → (next : Option MarkKind) → Verdict b mark.kind next
    → count_by (is_about answers_its_command conn number) (points_by mark (counts_as mark.kind next)) ≡ cond (is_mark conn number mark) 1 0
unfolding points_by answers_its_command
answers_by told conn number mark low b h next (refuses t kind after is) =
    ap (λ w. count_by (is_about answers_its_command conn number) (points_by mark w)) is
    ∙ refusal_counted conn number mark (nat_eq (conn_of mark) conn) refl (nat_eq (command_of mark) number) refl
    ∙ ap (λ t. cond t 1 0) (sym (acting_mark conn number mark (acting_if mark kind)))
answers_by told conn number mark low b h next (is_unreached node t kind is) =
    ap (λ w. count_by (is_about answers_its_command conn number) (points_by mark w)) is
    ∙ unreached_counted conn number mark node (nat_eq (conn_of mark) conn) refl (nat_eq (command_of mark) number) refl
    ∙ ap (λ t. cond t 1 0) (sym (acting_mark conn number mark (unreached_acts mark.kind node kind)))
answers_by told conn number mark low b h next (replies t acting reached plain is) =
    ap (λ w. count_by (is_about answers_its_command conn number) (points_by mark w)) is
    ∙ reply_counted conn number mark (nat_eq (conn_of mark) conn) refl (nat_eq (command_of mark) number) refl
    ∙ ap (λ t. cond t 1 0) (sym (acting_mark conn number mark acting))
answers_by told conn number mark low b h next (is_lost t always none is) =
    ap (λ w. count_by (is_about answers_its_command conn number) (points_by mark w)) is
    ∙ sym (ap (λ t. cond t 1 0) (acting_mark conn number mark (acting_always mark always)
    ∙ not_this told conn number mark low (beyond told mark b h t) (nat_eq (conn_of mark) conn) refl (nat_eq (command_of mark) number) refl))
answers_by told conn number mark low b h next (is_open t only none is) =
    ap (λ w. count_by (is_about answers_its_command conn number) (points_by mark w)) is
    ∙ sym (ap (λ t. cond t 1 0) (acting_mark conn number mark (acting_if mark only)
    ∙ not_this told conn number mark low (beyond told mark b h t) (nat_eq (conn_of mark) conn) refl (nat_eq (command_of mark) number) refl))
answers_by told conn number mark low b h next (tells telling is) =
    ap (λ w. count_by (is_about answers_its_command conn number) (points_by mark w)) is
    ∙ sym (ap (λ a. cond (a && (nat_eq (conn_of mark) conn && nat_eq (command_of mark) number)) 1 0) telling)

pub answering_points : (told : ℕ → ℕ) (conn number : ℕ) (marks : List Mark) → Fit told marks → number ≤ told conn
    → count_by (is_about answers_its_command conn number) (points_of marks) ≡ count_by (is_mark conn number) marks
unfolding points_of Fit
answering_points told conn number [] fit low = refl
answering_points told conn number (mark ∷ marks) fit low =
    count_both (is_about answers_its_command conn number) (points_by mark (counts_as mark.kind (next_of mark.ask marks))) (points_of marks)
    ∙ ap (λ n. n + count_by (is_about answers_its_command conn number) (points_of marks))
    (answers_by told conn number mark low (nat_le (command_of mark) (told (conn_of mark))) refl (next_of mark.ask marks)
    (verdict mark.kind (next_of mark.ask marks) (nat_le (command_of mark) (told (conn_of mark))) fit.0))
    ∙ ap (λ n. cond (is_mark conn number mark) 1 0 + n) (answering_points told conn number marks fit.1 low)
    ∙ sym (count_cons (is_mark conn number) mark marks)

losses_by : (conn number : ℕ) (mark : Mark) (b : Bool) (next : Option MarkKind) → Verdict b mark.kind next
    → count_by (is_about loses conn number) (points_by mark (counts_as mark.kind next)) ≤ cond (is_mark conn number mark) 1 0
unfolding points_by loses
losses_by conn number mark b next (refuses t kind after is) = omega (arith, ap (λ w. count_by (is_about loses conn number) (points_by mark w)) is)
losses_by conn number mark b next (is_unreached node t kind is) = omega (arith, ap (λ w. count_by (is_about loses conn number) (points_by mark w)) is)
losses_by conn number mark b next (replies t acting reached plain is) = omega (arith, ap (λ w. count_by (is_about loses conn number) (points_by mark w)) is)
losses_by conn number mark b next (is_lost t always none is) = omega (
  arith,
  ap (λ w. count_by (is_about loses conn number) (points_by mark w)) is,
  loss_counted conn number mark (nat_eq (conn_of mark) conn) refl (nat_eq (command_of mark) number) refl,
  ap {B = ℕ} (λ t. cond t 1 0) (acting_mark conn number mark (acting_always mark always)),
)
losses_by conn number mark b next (is_open t only none is) = omega (arith, ap (λ w. count_by (is_about loses conn number) (points_by mark w)) is)
losses_by conn number mark b next (tells telling is) = omega (arith, ap (λ w. count_by (is_about loses conn number) (points_by mark w)) is)

-- no command has more losses than steps that act
pub losing_points : (told : ℕ → ℕ) (conn number : ℕ) (marks : List Mark) → Fit told marks
    → count_by (is_about loses conn number) (points_of marks) ≤ count_by (is_mark conn number) marks
unfolding points_of Fit
losing_points told conn number [] fit = omega arith
losing_points told conn number (mark ∷ marks) fit = omega (
  arith,
  losing_points told conn number marks fit.1,
  count_both (is_about loses conn number) (points_by mark (counts_as mark.kind (next_of mark.ask marks))) (points_of marks),
  count_cons (is_mark conn number) mark marks,
  losses_by conn number mark (nat_le (command_of mark) (told (conn_of mark))) (next_of mark.ask marks)
      (verdict mark.kind (next_of mark.ask marks) (nat_le (command_of mark) (told (conn_of mark))) fit.0),
)
