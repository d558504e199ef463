-- Replies of which the clients weren't told are taken back, one connection after another.
use Rattle.std.proofs.Common.{◌≡◌, ◌≢◌, ◌⊎◌, inl, inr, ℕ, ◌+◌, Bool, true, false, List, [], ◌∷◌, ◌++◌, length, take, Some, refl, sym, ◌∙◌, ap, subst}
use Rattle.std.proofs.Math.Logic.{⊎_elim}
use Rattle.std.proofs.lemmas.Bool.{cases_eq}
use Rattle.imap_types.specs.declared.request.Answer.{Answer}
use Rattle.link_msg.specs.declared.counts.Counts.TheVariants.{IfAnswered}
use Rattle.link_queue.specs.Broken.{Broken}
use Rattle.mark_history.proofs.TakenBack.{list_at, list_elsewhere}
use Rattle.mark_history.specs.Marked.{IsUntold, Tale, last_of, open_ask, taking_back}
use Rattle.mark_history.specs.declared.mark.Mark.{Mark}
use Rattle.mark_history.specs.declared.mark.MarkKind.TheVariants.{Home}
use Rattle.mur_model.specs.declared.setting.Setting.{Setting}
use Rattle.cluster_core.proofs.Commands.AllReached.{AreMarkedSo, takes_back}
use Rattle.cluster_core.proofs.Connections.ConnectionLaw.{session_at, session_of_other}

-- of one connection two tales are the same
pub record SameTale (one later : Tale) (conn : ℕ) : Type 0 where
  pub told : later.told conn ≡ one.told conn
  pub said : later.talk.answers conn ≡ one.talk.answers conn
  pub serials : later.talk.serials conn ≡ one.talk.serials conn
  pub session : later.course.sessions conn ≡ one.course.sessions conn
  pub before : later.before conn ≡ one.before conn

-- its reply can be taken back
pub record CanBack (marks : List Mark) (story : Tale) (conn : ℕ) : Type 0 where
  pub answer : Answer
  pub untold : IsUntold story conn answer
  pub seen : last_of (open_ask story conn) marks ≡ Some (Home IfAnswered)

abbrev pub IsOneOf : List ℕ → ℕ → Type 0
IsOneOf [] conn = ⊥
IsOneOf (one ∷ conns) conn = (conn ≡ one) ⊎ IsOneOf conns conn

module _ (setting : Setting) (broken : Broken) (now : ℕ) (marks : List Mark) (story : Tale) (goes : ℕ → Bool)
    (can : (conn : ℕ) → goes conn ≡ true → CanBack marks story conn) where
  -- those of these connections that go back went back
  pub record WentBack (conns : List ℕ) : Type 0 where
    pub later : Tale
    pub requests : later.talk.requests ≡ story.talk.requests
    pub moving : later.talk.moving ≡ story.talk.moving
    pub store : later.course.store ≡ story.course.store
    pub told : later.told ≡ story.told
    pub before : later.before ≡ story.before
    pub each : (conn : ℕ) → SameTale story later conn ⊎ (SameTale (taking_back story conn) later conn × (goes conn ≡ true))
    pub all : (conn : ℕ) → IsOneOf conns conn → goes conn ≡ true → SameTale (taking_back story conn) later conn
    pub marked : AreMarkedSo setting broken now marks later

  -- one more
  module _ (conns : List ℕ) (went : WentBack conns) (conn : ℕ) (does : goes conn ≡ true) (same : SameTale story went.later conn) where
    abbrev was : Tale
    was = went.later

    abbrev next : Tale
    next = taking_back was conn

    its : CanBack marks story conn
    its = can conn does

    told_is : was.told conn ≡ story.told conn
    told_is = ap (λ (f : ℕ → List Answer). f conn) went.told

    untold_then : IsUntold was conn its.answer
    untold_then = same.said ∙ its.untold ∙ ap (λ l. l ++ its.answer ∷ []) (sym told_is)

    seen_then : last_of (open_ask was conn) marks ≡ Some (Home IfAnswered)
    seen_then = ap (λ (l : List Answer). last_of (record { conn = conn; command = length l + 1 }) marks) told_is ∙ its.seen

    own_back : SameTale (taking_back story conn) next conn
    own_back = record {
      told = told_is;
      said = list_at was.talk.answers conn (was.told conn) ∙ told_is ∙ sym (list_at story.talk.answers conn (story.told conn));
      serials = list_at was.talk.serials conn (take (length (was.told conn)) (was.talk.serials conn))
          ∙ ap (λ (l : List Answer). take (length l) (was.talk.serials conn)) told_is ∙ ap (take (length (story.told conn))) same.serials
          ∙ sym (list_at story.talk.serials conn (take (length (story.told conn)) (story.talk.serials conn)));
      session = session_at was.course.sessions conn (was.before conn) ∙ same.before ∙ sym (session_at story.course.sessions conn (story.before conn));
      before = same.before;
    }

    other_same : (one : Tale) (other : ℕ) → other ≢ conn → SameTale one was other → SameTale one next other
    other_same one other ne is = record {
      told = is.told;
      said = list_elsewhere was.talk.answers conn (was.told conn) other ne ∙ is.said;
      serials = list_elsewhere was.talk.serials conn (take (length (was.told conn)) (was.talk.serials conn)) other ne ∙ is.serials;
      session = session_of_other was.course.sessions conn (was.before conn) other ne ∙ is.session;
      before = is.before;
    }

    own_for : (other : ℕ) → other ≡ conn → SameTale (taking_back story other) next other
    own_for other e = subst (λ c. SameTale (taking_back story c) next c) (sym e) own_back

    one_more : WentBack (conn ∷ conns)
    one_more = record {
      later = next;
      requests = went.requests;
      moving = went.moving;
      store = went.store;
      told = went.told;
      before = went.before;
      each = λ other. ⊎_elim
          (λ (e : other ≡ conn). inr (own_for other e, ap goes e ∙ does))
          (λ (ne : other ≢ conn). ⊎_elim (λ is. inl (other_same story other ne is)) (λ back. inr (other_same (taking_back story other) other ne back.0, back.1))
          (went.each other))
          (cases_eq other conn);
      all = λ other among flag. ⊎_elim
          (λ (e : other ≡ conn). own_for other e)
          (λ (ne : other ≢ conn). other_same (taking_back story other) other ne
          (went.all other (⊎_elim (λ e. absurd (ne e)) (λ later. later) among) flag))
          (cases_eq other conn);
      marked = takes_back now marks was conn its.answer untold_then seen_then went.marked;
    }

  -- it went back before, or doesn't
  as_it_was : (conns : List ℕ) (went : WentBack conns) (conn : ℕ) → (goes conn ≡ true → SameTale (taking_back story conn) went.later conn) → WentBack (conn ∷ conns)
  as_it_was conns went conn has = record {
    later = went.later;
    requests = went.requests;
    moving = went.moving;
    store = went.store;
    told = went.told;
    before = went.before;
    each = went.each;
    all = λ other among flag. ⊎_elim
        (λ (e : other ≡ conn). subst (λ c. SameTale (taking_back story c) went.later c) (sym e) (has (ap goes (sym e) ∙ flag)))
        (λ later. went.all other later flag)
        among;
    marked = went.marked;
  }

  by_flag : (conns : List ℕ) (went : WentBack conns) (conn : ℕ) (flag : Bool) → goes conn ≡ flag → WentBack (conn ∷ conns)
  by_flag conns went conn false e = as_it_was conns went conn (λ does. absurd (let no : false ≡ true = sym e ∙ does in false_true no))
    where
      false_true : false ≡ true → ⊥
      false_true k = cc
  by_flag conns went conn true e =
      ⊎_elim (λ same. one_more conns went conn e same) (λ back. as_it_was conns went conn (λ does. back.0)) (went.each conn)

  -- THOSE OF THESE CONNECTIONS GO BACK
  pub all_back : AreMarkedSo setting broken now marks story → (conns : List ℕ) → WentBack conns
  all_back marked [] = record {
    later = story;
    requests = refl;
    moving = refl;
    store = refl;
    told = refl;
    before = refl;
    each = λ conn. inl (record { told = refl; said = refl; serials = refl; session = refl; before = refl });
    all = λ conn among. absurd among;
    marked = marked;
  }
  all_back marked (conn ∷ conns) = by_flag conns (all_back marked conns) conn (goes conn) refl
