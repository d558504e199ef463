-- The open command, which a step only saw, is refused and its client told: the step that saw it last is its point. It stands before marks of other
-- connections, whose steps did nothing to its session; so they do the same behind the refusal, which leaves the store as it was.
use Rattle.std.proofs.Common.{◌≡◌, ℕ, true, false, nat_eq, List, [], ◌∷◌, ◌++◌, get_or, if◌then◌else◌, Option, None, Some, refl, sym, ◌∙◌, ap, subst, arith}
use Rattle.std.specs.Prelude.{All, AllPairs}
use Rattle.std.proofs.lemmas.Bool.Decides.{nat_tests}
use Rattle.std.proofs.lemmas.List.Elements.{All-head, All-tail}
use Rattle.link_msg.specs.declared.counts.Counts.TheVariants.{IfAnswered}
use Rattle.link_msg.specs.declared.how.How.TheVariants.{Reserved}
use Rattle.imap_types.specs.declared.command.Command.{Command}
use Rattle.imap_types.specs.declared.command.Tag.{Tag}
use Rattle.imap_types.specs.declared.reply.NoText.TheVariants.{BeingMoved}
use Rattle.imap_types.specs.declared.request.Answer.{Answer}
use Rattle.mur_base.specs.declared.point.AskId.{AskId}
use Rattle.mur_base.specs.declared.point.What.TheVariants.{Reserved as reserved}
use Rattle.mur_model.specs.declared.session.Sess.{Sess}
use Rattle.mur_model.specs.declared.setting.Setting.{Setting}
use Rattle.mur_model.specs.Answer.{Answered}
use Rattle.mur_model.specs.History.{Course, Talk, IsRefused, numbered, refused_out, with_session}
use Rattle.mur_model.specs.Relocation.{after_refusal}
use Rattle.mark_history.specs.declared.mark.Mark.{Mark}
use Rattle.mark_history.specs.declared.mark.MarkKind.{MarkKind}
use Rattle.mark_history.specs.declared.mark.MarkKind.TheVariants.{Home, Told}
use Rattle.mark_history.specs.History.{is_of, next_of}
use Rattle.mark_history.proofs.CarriesFrom.{CarriesBeside, CarriesFrom, IsElsewhere, before_other, beside, from_beside, from_told}
use Rattle.mark_history.proofs.CarriesFrom.CarriesFrom.{from_none, from_step, from_telling}
use Rattle.mark_history.proofs.Deeds.{same_is_refused, step_as}
use Rattle.mark_history.proofs.Deeds.IsDeed.{is_refused}
use Rattle.mark_history.proofs.Marks.{Later, head_pairs, tail_pairs, with_session_elsewhere}
use Rattle.mark_history.proofs.StepPoints.{refuses_next}
use Rattle.mark_history.proofs.Tally.{IsUnrefusedBy, acts, command_of, conn_of, its_kind, next_or, next_push, of_other, still_unrefused, tells_refusal}
use Rattle.mark_history.proofs.Without.{IsBefore, Without, acts_home, next_without, none_of}
use Rattle.mark_history.proofs.Without.Without.{here, behind}

-- ---- the step that saw the command, put in where it stands

-- the steps of other connections leave the session
keeps_session : (setting : Setting) (talk : Talk) (conn : ℕ) (course last : Course) (before end : ℕ → Sess) (marks : List Mark)
    → CarriesFrom setting talk course before marks last end → All (IsElsewhere conn) marks → last.sessions conn ≡ course.sessions conn
keeps_session setting talk conn first last before end marks (from_none course its) apart = refl
keeps_session setting talk conn first last before end marks (from_step course to its ends mark done rest step later) apart =
    keeps_session setting talk conn _ to _ ends rest later (All-tail (IsElsewhere conn) mark rest apart)
    ∙ with_session_elsewhere course.sessions (conn_of mark) done.session conn (All-head (IsElsewhere conn) mark rest apart step.acting)
keeps_session setting talk conn first last before end marks (from_telling course to its ends mark rest telling later) apart =
    keeps_session setting talk conn course to its ends rest later (All-tail (IsElsewhere conn) mark rest apart)

next_alone : (ask : AskId) (marks : List Mark) (tell : Mark) → next_of ask marks ≡ None → is_of ask tell ≡ true
    → next_of ask (marks ++ tell ∷ []) ≡ Some tell.kind
unfolding next_or
next_alone ask marks tell none same =
    next_push ask marks tell ∙ ap (λ n. next_or n (its_kind ask tell)) none ∙ ap (λ b. if b then Some tell.kind else None) same

module _ (setting : Setting) (talk : Talk) (mark tell : Mark) (last : Course) (end : ℕ → Sess) (tag : Tag) (it : Command)
    (kind : mark.kind ≡ Home IfAnswered) (tells : tell.kind ≡ Told Reserved) (acts_not : acts tell.kind ≡ false) (same_ask : tell.ask ≡ mark.ask)
    (refused : IsRefused setting talk last mark.step (conn_of mark) (command_of mark) tag it reserved BeingMoved)
    (answer : numbered (talk.answers (conn_of mark)) (command_of mark) ≡ Some (refused_out last (conn_of mark) tag it BeingMoved).answer) where
  abbrev conn : ℕ
  conn = conn_of mark

  abbrev pub to_refusal : Course
  to_refusal = beside last conn (refused_out last conn tag it BeingMoved).session

  own : is_of mark.ask tell ≡ true
  own = let one : nat_eq (conn_of tell) (conn_of mark) ≡ true = (let c : conn_of tell ≡ conn_of mark = ap (λ (a : AskId). a.conn) same_ask in grind (arith, nat_tests)) in
      let two : nat_eq (command_of tell) (command_of mark) ≡ true =
      (let n : command_of tell ≡ command_of mark = ap (λ (a : AskId). a.command) same_ask in grind (arith, nat_tests)) in rw (one, two) refl

  -- the telling mark is of no earlier command
  apart_of : (other : Mark) → IsBefore mark other → is_of other.ask tell ≡ false
  apart_of other earlier = of_other other tell _ refl (λ c n. absurd (omega (
    arith,
    earlier (c ∙ ap (λ (a : AskId). a.conn) same_ask),
    n,
    ap (λ (a : AskId). a.command) same_ask,
  )))

  unrefused_of : (other : Mark) → IsBefore mark other → IsUnrefusedBy tell other
  unrefused_of other earlier = λ same. (let both : true ≡ false = sym same ∙ apart_of other earlier in cc)

  at_here : (course : Course) (before : ℕ → Sess) (less : List Mark) → CarriesFrom setting talk course before less last end → All (Later mark) less
      → All (IsBefore mark) less
      → CarriesBeside setting talk course before (mark ∷ less ++ tell ∷ []) to_refusal conn end
  at_here course before less carries later earlier =
      let apart : All (IsElsewhere conn) less = (λ k d h. λ a e. absurd (omega (arith, (later k d h).0 (sym e), earlier k d h e))) in
      let kept : last.sessions conn ≡ course.sessions conn = keeps_session setting talk conn course last before end less carries apart in
      let done : Answered = refused_out course conn tag it BeingMoved in
      let others = from_beside setting talk conn done.session course last before end (with_session before conn (course.sessions conn)) less carries apart
      (λ at away. with_session_elsewhere before conn (course.sessions conn) at (λ e. away (sym e))) in
      record {
        ends = others.ends;
        from = from_step course _ before _ mark done (less ++ tell ∷ [])
            (record {
              acting = acts_home mark kind;
              deed = is_refused tag it
                  (refuses_next _ (next_alone mark.ask less tell
                  (none_of mark.ask less (λ k d h. of_other mark (get_or less k d) _ refl (λ c n. absurd (omega (arith, earlier k d h (sym c), n))))) own
                  ∙ ap {B = Option MarkKind} (λ k. Some k) tells))
                  kind
                  (same_is_refused setting talk last course mark.step conn (command_of mark) tag it reserved BeingMoved (sym kept) refused) refl;
              answer = answer ∙ ap {B = Option Answer} (λ s. Some (after_refusal last.store s tag it BeingMoved).answer) kept;
              unless = λ k. refl;
            })
            (subst (λ s. CarriesFrom setting talk (beside course conn done.session) (with_session before conn (course.sessions conn)) (less ++ tell ∷ [])
            (beside last conn s) others.ends) (sym (ap {B = Sess} (λ s. (after_refusal last.store s tag it BeingMoved).session) kept))
            (from_told setting talk _ _ _ others.ends less tell acts_not (λ k d h. unrefused_of (get_or less k d) (earlier k d h)) others.from));
        same = others.same;
      }

  -- behind the marks in front of it
  behind_first : (first : Mark) (more rest : List Mark) (course : Course) (before : ℕ → Sess) → Without mark more rest → IsBefore mark first
      → ((c : Course) (b : ℕ → Sess) → CarriesFrom setting talk c b rest last end → CarriesBeside setting talk c b (more ++ tell ∷ []) to_refusal conn end)
      → CarriesFrom setting talk course before (first ∷ rest) last end
      → CarriesBeside setting talk course before (first ∷ more ++ tell ∷ []) to_refusal conn end
  behind_first first more rest course before out earlier further (from_step c to its ends m done others step later) =
      let onwards = further _ _ later in
      let same : tells_refusal (next_of first.ask (more ++ tell ∷ [])) ≡ tells_refusal (next_of first.ask rest) =
      still_unrefused first tell more (unrefused_of first earlier)
      ∙ ap tells_refusal (next_without first.ask mark more rest out (before_other mark first earlier)) in
      record {
        ends = onwards.ends;
        from = from_step course _ before _ first done (more ++ tell ∷ []) (step_as setting talk course first _ _ done same step) onwards.from;
        same = onwards.same;
      }
  behind_first first more rest course before out earlier further (from_telling c to its ends m others telling later) =
      let onwards = further _ _ later in
      record { ends = onwards.ends; from = from_telling course _ before _ first (more ++ tell ∷ []) telling onwards.from; same = onwards.same }

  pub from_refused : (course : Course) (before : ℕ → Sess) (marks less : List Mark) → Without mark marks less
      → CarriesFrom setting talk course before less last end → AllPairs Later marks → All (IsBefore mark) less
      → CarriesBeside setting talk course before (marks ++ tell ∷ []) to_refusal conn end
  from_refused course before marks less (here others) carries later earlier =
      at_here course before less carries (head_pairs Later mark less later) earlier
  from_refused course before marks less (behind first more rest out) carries later earlier =
      behind_first first more rest course before out (All-head (IsBefore mark) first rest earlier)
      (λ c b its. from_refused c b more rest out its (tail_pairs Later first more later) (All-tail (IsBefore mark) first rest earlier)) carries
