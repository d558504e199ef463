-- The steps of marks carry out their requests, where it is known which session each connection had before its last one: without that step the others
-- still do, if it left the store as it was.
use Rattle.std.proofs.Common.{◌≡◌, ◌≢◌, ℕ, Bool, true, false, nat_eq, List, [], ◌∷◌, ◌++◌, if◌then◌else◌, refl, sym, ◌∙◌, ap, subst, arith}
use Rattle.std.specs.Prelude.{All, AllPairs}
use Rattle.std.proofs.lemmas.Bool.Decides.{nat_tests}
use Rattle.std.proofs.lemmas.List.Elements.{All-head, All-tail}
use Rattle.link_msg.specs.declared.counts.Counts.TheVariants.{IfAnswered}
use Rattle.mur_model.specs.declared.session.Sess.{Sess}
use Rattle.mur_model.specs.declared.setting.Setting.{Setting}
use Rattle.mur_model.specs.Answer.{Answered}
use Rattle.mur_model.specs.History.{Course, Talk, TalkGoesOn, with_session, course_after}
use Rattle.mark_history.specs.declared.mark.Mark.{Mark}
use Rattle.mark_history.specs.declared.mark.MarkKind.TheVariants.{Home}
use Rattle.mark_history.specs.History.{is_of, next_of}
use Rattle.mark_history.proofs.Deeds.{HasItsAct, IsStep, same_step, step_as, step_on, step_with}
use Rattle.mark_history.proofs.Marks.{Carries, Later, head_pairs, same_with, step_before, tail_pairs, with_session_elsewhere}
use Rattle.mark_history.proofs.Marks.Carries.{no_marks, a_mark, a_telling}
use Rattle.mark_history.proofs.Tally.{IsUnrefusedBy, acting_unrefused, acts, conn_of, of_other, tells_refusal}
use Rattle.mark_history.proofs.Without.{IsBefore, Without, acts_home, next_without}
use Rattle.mark_history.proofs.Without.Without.{here, behind}

abbrev pub after_step : Course → Mark → Answered → Course
after_step course mark done = course_after course (conn_of mark) done

-- from the sessions before to those at the end
pub data CarriesFrom (setting : Setting) (talk : Talk) : Course → (ℕ → Sess) → List Mark → Course → (ℕ → Sess) → Type 0 where
  from_none : (course : Course) (before : ℕ → Sess) → CarriesFrom setting talk course before [] course before
  from_step : (course last : Course) (before end : ℕ → Sess) (mark : Mark) (done : Answered) (marks : List Mark)
      → IsStep setting talk course mark (tells_refusal (next_of mark.ask marks)) done
      → CarriesFrom setting talk (after_step course mark done) (with_session before (conn_of mark) (course.sessions (conn_of mark))) marks last end
      → CarriesFrom setting talk course before (mark ∷ marks) last end
  from_telling : (course last : Course) (before end : ℕ → Sess) (mark : Mark) (marks : List Mark) → acts mark.kind ≡ false
      → CarriesFrom setting talk course before marks last end → CarriesFrom setting talk course before (mark ∷ marks) last end

pub carries_of : (setting : Setting) (talk : Talk) (first last : Course) (before end : ℕ → Sess) (marks : List Mark)
    → CarriesFrom setting talk first before marks last end → Carries setting talk first marks last
carries_of setting talk first last before end marks (from_none course its) = no_marks course
carries_of setting talk first last before end marks (from_step course on its ends mark done rest step later) =
    a_mark course on mark done rest step (carries_of setting talk _ on _ ends rest later)
carries_of setting talk first last before end marks (from_telling course on its ends mark rest telling later) =
    a_telling course on mark rest telling (carries_of setting talk course on its ends rest later)

-- ---- more is said, and a mark more

pub from_on : (setting : Setting) (talk longer : Talk) → TalkGoesOn talk longer → (first last : Course) (before end : ℕ → Sess) (marks : List Mark)
    → CarriesFrom setting talk first before marks last end → CarriesFrom setting longer first before marks last end
from_on setting talk longer on first last before end marks (from_none course its) = from_none course its
from_on setting talk longer on first last before end marks (from_step course to its ends mark done rest step later) =
    from_step course to its ends mark done rest (step_on setting talk longer on course mark _ done step)
    (from_on setting talk longer on _ to _ ends rest later)
from_on setting talk longer on first last before end marks (from_telling course to its ends mark rest telling later) =
    from_telling course to its ends mark rest telling (from_on setting talk longer on course to its ends rest later)

pub from_push : (setting : Setting) (talk : Talk) (first last : Course) (before end : ℕ → Sess) (marks : List Mark) (mark : Mark)
    (done : Answered) → CarriesFrom setting talk first before marks last end → IsStep setting talk last mark false done
    → CarriesFrom setting talk first before (marks ++ mark ∷ []) (after_step last mark done) (with_session end (conn_of mark) (last.sessions (conn_of mark)))
unfolding next_of tells_refusal
from_push setting talk first last before end marks mark done (from_none course its) step =
    from_step course _ its _ mark done [] step (from_none _ _)
from_push setting talk first last before end marks mark done (from_step course to its ends m d rest own later) step =
    from_step course _ its _ m d (rest ++ mark ∷ [])
    (step_before setting talk course m mark rest d (λ same. acting_unrefused mark.kind step.acting) own)
    (from_push setting talk _ to _ ends rest mark done later step)
from_push setting talk first last before end marks mark done (from_telling course to its ends m rest telling later) step =
    from_telling course _ its _ m (rest ++ mark ∷ []) telling (from_push setting talk course to its ends rest mark done later step)

pub from_told : (setting : Setting) (talk : Talk) (first last : Course) (before end : ℕ → Sess) (marks : List Mark) (mark : Mark) → acts mark.kind ≡ false
    → All (IsUnrefusedBy mark) marks
    → CarriesFrom setting talk first before marks last end → CarriesFrom setting talk first before (marks ++ mark ∷ []) last end
from_told setting talk first last before end marks mark telling plain (from_none course its) =
    from_telling course course its its mark [] telling (from_none course its)
from_told setting talk first last before end marks mark telling plain (from_step course to its ends m d rest own later) =
    from_step course to its ends m d (rest ++ mark ∷ [])
    (step_before setting talk course m mark rest d (All-head (IsUnrefusedBy mark) m rest plain) own)
    (from_told setting talk _ to _ ends rest mark telling (All-tail (IsUnrefusedBy mark) m rest plain) later)
from_told setting talk first last before end marks mark telling plain (from_telling course to its ends m rest own later) =
    from_telling course to its ends m (rest ++ mark ∷ []) own
    (from_told setting talk course to its ends rest mark telling (All-tail (IsUnrefusedBy mark) m rest plain) later)

-- ---- another talk that has what the marks need

abbrev pub HasActs : Talk → Talk → Mark → Type 0
HasActs talk other mark = acts mark.kind ≡ true → HasItsAct talk other mark

pub from_with : (setting : Setting) (talk other : Talk) (first last : Course) (before end : ℕ → Sess) (marks : List Mark) → All (HasActs talk other) marks
    → CarriesFrom setting talk first before marks last end → CarriesFrom setting other first before marks last end
from_with setting talk other first last before end marks has (from_none course its) = from_none course its
from_with setting talk other first last before end marks has (from_step course to its ends mark done rest step later) =
    from_step course to its ends mark done rest
    (step_with setting talk other course mark _ done (All-head (HasActs talk other) mark rest has step.acting) step)
    (from_with setting talk other _ to _ ends rest (All-tail (HasActs talk other) mark rest has) later)
from_with setting talk other first last before end marks has (from_telling course to its ends mark rest telling later) =
    from_telling course to its ends mark rest telling (from_with setting talk other course to its ends rest (All-tail (HasActs talk other) mark rest has) later)

-- ---- another session at one connection

pub same_functions : {A B : Type 0} {f g : A → B} → ((x : A) → f x ≡ g x) → f ≡ g
same_functions h = λ i x. h x i

abbrev pub beside : Course → ℕ → Sess → Course
beside course conn session = record { store = course.store; sessions = with_session course.sessions conn session }

pub with_session_at : (sessions : ℕ → Sess) (conn : ℕ) (session : Sess) → with_session sessions conn session conn ≡ session
unfolding with_session
with_session_at sessions conn session = let same : nat_eq conn conn ≡ true = grind (arith, nat_tests) in rw same refl

swapped : (sessions : ℕ → Sess) (conn other : ℕ) (one two : Sess) (at : ℕ) (a b : Bool) → nat_eq at conn ≡ a → nat_eq at other ≡ b → conn ≢ other
    → (if b then two else if a then one else sessions at) ≡ (if a then one else if b then two else sessions at)
swapped sessions conn other one two at true true e f ne = absurd (ne (grind (arith, nat_tests)))
swapped sessions conn other one two at true false e f ne = refl
swapped sessions conn other one two at false true e f ne = refl
swapped sessions conn other one two at false false e f ne = refl

swap_sessions : (sessions : ℕ → Sess) (conn other : ℕ) (one two : Sess) → conn ≢ other
    → with_session (with_session sessions conn one) other two ≡ with_session (with_session sessions other two) conn one
unfolding with_session
swap_sessions sessions conn other one two ne = same_functions (λ at. swapped sessions conn other one two at (nat_eq at conn) (nat_eq at other) refl refl ne)

back_by : (sessions : ℕ → Sess) (conn : ℕ) (one : Sess) (at : ℕ) (b : Bool) → nat_eq at conn ≡ b
    → (if b then sessions conn else if b then one else sessions at) ≡ sessions at
back_by sessions conn one at true e = let same : conn ≡ at = grind (arith, nat_tests) in ap sessions same
back_by sessions conn one at false e = refl

-- the session that was there is put back
session_back : (sessions : ℕ → Sess) (conn : ℕ) (one : Sess) → with_session (with_session sessions conn one) conn (sessions conn) ≡ sessions
unfolding with_session
session_back sessions conn one = same_functions (λ at. back_by sessions conn one at (nat_eq at conn) refl)

-- no step is of this connection
abbrev pub IsElsewhere : ℕ → Mark → Type 0
IsElsewhere conn mark = acts mark.kind ≡ true → conn_of mark ≢ conn

pub record CarriesBeside (setting : Setting) (talk : Talk) (course : Course) (before : ℕ → Sess) (marks : List Mark) (last : Course) (conn : ℕ) (end : ℕ → Sess)
    : Type 0 where
  pub ends : ℕ → Sess
  pub from : CarriesFrom setting talk course before marks last ends
  pub same : (other : ℕ) → other ≢ conn → ends other ≡ end other

step_beside : (setting : Setting) (talk : Talk) (course : Course) (mark : Mark) (refused : Bool) (done : Answered) (conn : ℕ) (session : Sess)
    → conn_of mark ≢ conn → IsStep setting talk course mark refused done → IsStep setting talk (beside course conn session) mark refused done
step_beside setting talk course mark refused done conn session ne step =
    same_step setting talk course (beside course conn session) mark refused done refl
    (with_session_elsewhere course.sessions conn session (conn_of mark) (λ e. ne (sym e))) step

after_beside : (course : Course) (mark : Mark) (done : Answered) (conn : ℕ) (session : Sess) → conn_of mark ≢ conn
    → beside (after_step course mark done) conn session ≡ after_step (beside course conn session) mark done
after_beside course mark done conn session ne =
    ap {B = Course} (λ s. record { store = done.store; sessions = s }) (swap_sessions course.sessions (conn_of mark) conn done.session session ne)

pub from_beside : (setting : Setting) (talk : Talk) (conn : ℕ) (session : Sess) (course last : Course) (before end other : ℕ → Sess) (marks : List Mark)
    → CarriesFrom setting talk course before marks last end → All (IsElsewhere conn) marks → ((at : ℕ) → at ≢ conn → other at ≡ before at)
    → CarriesBeside setting talk (beside course conn session) other marks (beside last conn session) conn end
from_beside setting talk conn session first last before end other marks (from_none course its) apart same =
    record { ends = other; from = from_none _ other; same = same }
from_beside setting talk conn session first last before end other marks (from_step course to its ends mark done rest step later) apart same =
    let ne : conn_of mark ≢ conn = All-head (IsElsewhere conn) mark rest apart step.acting in
    let here_too : with_session course.sessions conn session (conn_of mark) ≡ course.sessions (conn_of mark) =
    with_session_elsewhere course.sessions conn session (conn_of mark) (λ e. ne (sym e)) in
    let more = from_beside setting talk conn session (after_step course mark done) to _ ends
    (with_session other (conn_of mark) (with_session course.sessions conn session (conn_of mark))) rest later (All-tail (IsElsewhere conn) mark rest apart)
    (λ at away. same_with other its (conn_of mark) _ _ at here_too (same at away)) in
    record {
      ends = more.ends;
      from = from_step (beside course conn session) _ other _ mark done rest (step_beside setting talk course mark _ done conn session ne step)
          (subst (λ c. CarriesFrom setting talk c (with_session other (conn_of mark) (with_session course.sessions conn session (conn_of mark))) rest
          (beside to conn session) more.ends) (after_beside course mark done conn session ne) more.from);
      same = more.same;
    }
from_beside setting talk conn session first last before end other marks (from_telling course to its ends mark rest telling later) apart same =
    let more = from_beside setting talk conn session course to its ends other rest later (All-tail (IsElsewhere conn) mark rest apart) same in
    record { ends = more.ends; from = from_telling _ _ other _ mark rest telling more.from; same = more.same }

keeps_before : (setting : Setting) (talk : Talk) (conn : ℕ) (course last : Course) (before end : ℕ → Sess) (marks : List Mark)
    → CarriesFrom setting talk course before marks last end → All (IsElsewhere conn) marks → end conn ≡ before conn
keeps_before setting talk conn first last before end marks (from_none course its) apart = refl
keeps_before setting talk conn first last before end marks (from_step course to its ends mark done rest step later) apart =
    keeps_before setting talk conn _ to _ ends rest later (All-tail (IsElsewhere conn) mark rest apart)
    ∙ with_session_elsewhere its (conn_of mark) (course.sessions (conn_of mark)) conn (All-head (IsElsewhere conn) mark rest apart step.acting)
keeps_before setting talk conn first last before end marks (from_telling course to its ends mark rest telling later) apart =
    keeps_before setting talk conn course to its ends rest later (All-tail (IsElsewhere conn) mark rest apart)

pub before_other : (mark other : Mark) → IsBefore mark other → is_of other.ask mark ≡ false
before_other mark other earlier = of_other other mark _ refl (λ c n. absurd (omega (arith, earlier c, n)))

-- ---- without the last step of a connection, which left the store as it was

pub from_without : (setting : Setting) (talk : Talk) (mark : Mark) (course last : Course) (before end : ℕ → Sess) (marks less : List Mark)
    → CarriesFrom setting talk course before marks last end → Without mark marks less → mark.kind ≡ Home IfAnswered → AllPairs Later marks
    → All (IsBefore mark) less
    → CarriesBeside setting talk course before less (beside last (conn_of mark) (end (conn_of mark))) (conn_of mark) end
from_without setting talk mark first last before end marks less (from_step course to its ends m done rest step later) (here more) kind later_on earlier =
    let conn : ℕ = conn_of mark in
    let apart : All (IsElsewhere conn) more =
    (λ k d h. λ a e. absurd (omega (arith, (head_pairs Later mark more later_on k d h).0 (sym e), earlier k d h e))) in
    let was : Sess = course.sessions conn in
    let others = from_beside setting talk conn was (after_step course mark done) to (with_session its conn was) ends its more later apart
    (λ at away. sym (with_session_elsewhere its conn was at (λ e. away (sym e)))) in
    let again : beside (after_step course mark done) conn was ≡ course =
    ap {B = Course} (λ s. record { store = done.store; sessions = s }) (session_back course.sessions conn done.session)
    ∙ ap {B = Course} (λ s. record { store = s; sessions = course.sessions }) (step.unless kind) in
    let ended : ends conn ≡ was = keeps_before setting talk conn _ to _ ends more later apart ∙ with_session_at its conn was in
    record {
      ends = others.ends;
      from = subst (λ s. CarriesFrom setting talk course its more (beside to conn s) others.ends) (sym ended)
          (subst (λ c. CarriesFrom setting talk c its more (beside to conn was) others.ends) again others.from);
      same = others.same;
    }
from_without setting talk mark first last before end marks less (from_step course to its ends m done rest step later) (behind again more less_more out) kind
    later_on earlier =
    let others = from_without setting talk mark _ to _ ends rest less_more later out kind (tail_pairs Later m rest later_on)
    (All-tail (IsBefore mark) m less_more earlier) in
    let other : is_of m.ask mark ≡ false = before_other mark m (All-head (IsBefore mark) m less_more earlier) in
    record {
      ends = others.ends;
      from = from_step course _ its _ m done less_more
          (step_as setting talk course m _ _ done (sym (ap tells_refusal (next_without m.ask mark rest less_more out other))) step) others.from;
      same = others.same;
    }
from_without setting talk mark first last before end marks less (from_telling course to its ends m rest telling later) (here more) kind later_on earlier =
    absurd (let both : true ≡ false = sym (acts_home mark kind) ∙ telling in cc)
from_without setting talk mark first last before end marks less (from_telling course to its ends m rest telling later) (behind again more less_more out) kind
    later_on earlier =
    let others = from_without setting talk mark course to its ends rest less_more later out kind (tail_pairs Later m rest later_on)
    (All-tail (IsBefore mark) m less_more earlier) in
    record { ends = others.ends; from = from_telling course _ its _ m less_more telling others.from; same = others.same }
from_without setting talk mark first last before end marks less (from_none course its) out kind later_on earlier = elim out [ ]
