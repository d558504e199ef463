-- Each point of a run's history stands where a step worked on its command, or where its frontend answered it alone; and each ask for messages and each new
-- mailbox has its point.
use Rattle.std.proofs.Common.{◌≡◌, ◌≢◌, ◌⊎◌, inl, inr, ℕ, ◌+◌, ◌≤◌, ◌<◌, Bool, true, false, nat_le, List, [], ◌∷◌, ◌++◌, length, Option, None, Some, refl, sym, ◌∙◌, ap, subst, arith, length-append}
use Rattle.std.specs.Option.{IsSome}
use Rattle.std.specs.Prelude.{All, Contains, is_some}
use Rattle.std.proofs.Math.Logic.{⊎_elim}
use Rattle.std.proofs.lemmas.Bool.Decides.{nat_tests}
use Rattle.std.proofs.lemmas.List.Elements.{All-append, All-cons, All-contains, All-contains_itself, All-nil, Contains-append_left, Contains-push}
use Rattle.cluster_core.specs.Heard.{heard}
use Rattle.cluster_core.specs.World.{front_at, home_at, master_of, node_at, setting_of, start, steps_by}
use Rattle.front_core.specs.declared.front.Front.{Front}
use Rattle.imap_types.specs.declared.request.Request.{Request}
use Rattle.link_msg.specs.declared.ask.FrontAsk.{FrontAsk}
use Rattle.link_msg.specs.declared.counts.Counts.{Counts}
use Rattle.link_msg.specs.declared.counts.Counts.TheVariants.{Always, IfAnswered}
use Rattle.link_msg.specs.declared.how.How.{How}
use Rattle.link_msg.specs.declared.how.How.TheVariants.{Here}
use Rattle.link_msg.specs.declared.message.LinkMsg.{LinkMsg}
use Rattle.link_msg.specs.declared.message.LinkMsg.TheVariants.{Ask, Line}
use Rattle.link_queue.specs.Links.{on_link}
use Rattle.mark_history.specs.declared.mark.Mark.{Mark}
use Rattle.mark_history.specs.declared.mark.MarkKind.{MarkKind}
use Rattle.mark_history.specs.declared.mark.MarkKind.TheVariants.{Home, Told}
use Rattle.mark_history.specs.History.{counts_as, point_as, points_of}
use Rattle.mark_history.specs.Moments.{GoOn}
use Rattle.mark_history.proofs.Counted.{TellsPoint, always_lost, always_replied, each_counted, each_told, none_lost, told_points}
use Rattle.mark_history.proofs.Counted.TellsPoint.{here_replies, here_unreached}
use Rattle.mark_history.proofs.MarkLaw.{holds}
use Rattle.mark_history.proofs.Tally.{command_of, conn_of}
use Rattle.mark_history.proofs.Tellings.{has_tellings, tells_client}
use Rattle.mur_base.specs.declared.point.AskId.{AskId}
use Rattle.mur_base.specs.declared.point.Point.{Point}
use Rattle.mur_base.specs.declared.point.What.{What}
use Rattle.mur_base.specs.declared.point.What.TheVariants.{Reply as replied, Lost as lost, Unreached as unreached_point}
use Rattle.mur_config.specs.declared.config.Config.{Config}
use Rattle.mur_config.specs.Nodes.{AreNodes}
use Rattle.mupdate_codec.specs.Asks.{line_ask}
use Rattle.mur_model.specs.History.{GoesOn as ListsGoOn, Talk}
use Rattle.node_step.specs.NodeStep.{as_back, as_front, as_master}
use Rattle.node_step.specs.declared.node.NodeState.{NodeState}
use Rattle.node_step.specs.declared.node.NodeState.TheVariants as state
use Rattle.node_step.proofs.NodeKinds.{a_back, a_front}
use Rattle.schedule_text.specs.declared.event.Event.{Event}
use Rattle.schedule_text.specs.declared.event.Event.TheVariants.{Deliver}
use Rattle.cluster_core.specs.declared.world.World.{World}
use Rattle.cluster_core.specs.Flow.{run_steps}
use Rattle.cluster_core.specs.Headline.OpenAt.{IsOpenAt}
use Rattle.cluster_core.specs.Headline.Outside.{table_at}
use Rattle.cluster_core.specs.Headline.Routing.{AnswersAsk, AreRouted, ChangesMailbox, CountsFor, IsAtItsNoop, IsItsPoint, IsList, IsListed, IsOnlySeen, IsStepOf, StandsAt, Taken, TakesNoop, Does, is_of_name, says_done}
use Rattle.cluster_core.specs.Headline.Routing.CarriesOut.{of_name, where_open}
use Rattle.cluster_core.specs.Headline.Routing.Does.{carries_out, only_answers}
use Rattle.cluster_core.specs.Headline.Routing.IsStepOf.{at_home, at_master}
use Rattle.cluster_core.specs.Headline.Routing.StandsAt.{at_frontend, not_reached, where_taken}
use Rattle.cluster_core.specs.History.{history_of}
use Rattle.cluster_core.specs.Numbers.{NumbersFitAll}
use Rattle.cluster_core.proofs.Keeps.AlwaysRuns.{run_holds}
use Rattle.cluster_core.proofs.Nodes.Comes.{a_master}
use Rattle.cluster_core.proofs.Runs.OneNodeLaw.{one_more_step}
use Rattle.cluster_core.proofs.OneServer.EachStep.{LawBehind, said_behind}
use Rattle.cluster_core.proofs.OneServer.MarksGoOn.{run_goes_on, run_steps-append, steps_made}
use Rattle.cluster_core.proofs.Routing.Alone.{none_listed}
use Rattle.cluster_core.proofs.Routing.Begun.{IsAlone, IsBegun, never_alone}
use Rattle.cluster_core.proofs.Routing.HomeAnswers.{IsServed, ask_is_served}
use Rattle.cluster_core.proofs.Routing.HowMade.{IsMadeSo, IsToldAlone, all_made}
use Rattle.cluster_core.proofs.Routing.HowMade.IsMadeSo.{is_taken, is_told}
use Rattle.cluster_core.proofs.Routing.LateLines.{IsBarred, line_barred}
use Rattle.cluster_core.proofs.Routing.Makes.{DiffersAt, MasterDeed, master_deeds, master_makes}
use Rattle.cluster_core.proofs.Routing.NamesTaken.{takes_noop}
use Rattle.cluster_core.proofs.Routing.Works.{IsUnderWay, ask_tells, line_tells}
use Rattle.cluster_core.proofs.Serials.GoesOnLines.{line_is_on}
use Rattle.cluster_core.proofs.Starts.Begins.{start_quiet}

-- ---- lists

-- of two fronts of a list the longer one goes on from the other
record GoesOn (one other : List Event) : Type 0 where
  more : List Event
  parts : other ≡ one ++ more

fronts : (one behind other rest : List Event) → one ++ behind ≡ other ++ rest → length one ≤ length other → GoesOn one other
fronts [] behind other rest e le = record { more = other; parts = refl }
fronts (event ∷ one) behind [] rest e le = absurd (omega (arith, le))
fronts (event ∷ one) behind (first ∷ other) rest e le =
    let head : event ≡ first = cc in
    let tails : one ++ behind ≡ other ++ rest = cc in
    let its = fronts one behind other rest tails (omega (arith, le)) in
    record { more = its.more; parts = ap (λ (x : Event). x ∷ other) (sym head) ∙ ap (λ (l : List Event). event ∷ l) its.parts }

first_step : (world : World) (event : Event) (later : List Event) → run_steps world (event ∷ later) ≡ run_steps (steps_by world event) later
unfolding run_steps
first_step world event later = refl

tells_it : (kind : MarkKind) (how : How) → kind ≡ Told how → tells_client kind ≡ true
unfolding tells_client
tells_it (Told it) how e = refl
tells_it (Home counts) how e = cc

just : {one other : Counts} → Home one ≡ Home other → one ≡ other
just e = cc

within : (number count : ℕ) → (number ≤ count) ⊎ (count < number)
within number count = by (nat_le number count) refl
  where
    by : (b : Bool) → nat_le number count ≡ b → (number ≤ count) ⊎ (count < number)
    by true e = inl (grind (arith, nat_tests))
    by false e = inr (grind (arith, nat_tests))

module _ (config : Config) (are : AreNodes config.nodes) (steps : List Event)
    (laws : (before later : List Event) → steps ≡ before ++ later → LawBehind config before) (law : LawBehind config steps)
    (fit : NumbersFitAll config steps) (all_asked : ℕ → List Request) (more : ListsGoOn law.story.talk.requests all_asked)
    (each_more : (before later : List Event) (parts : steps ≡ before ++ later) → ListsGoOn (laws before later parts).story.talk.requests all_asked) where
  abbrev whole : World
  whole = run_steps (start config) steps

  abbrev talk : Talk
  talk = said_behind config steps law

  abbrev at : List Event → World
  at before = run_steps (start config) before

  all : All (IsMadeSo config steps) whole.marks
  all = all_made config are steps laws (start_quiet config are).marks

  goes_on : (before later : List Event) → steps ≡ before ++ later → GoOn (at before).steps (at before).marks whole.marks
  goes_on before later parts =
      subst (λ (w : World). GoOn (at before).steps (at before).marks w.marks)
      (sym (run_steps-append (start config) before later) ∙ ap (run_steps (start config)) (sym parts)) (run_goes_on (at before) later)

  -- a mark of a step is there behind it
  abbrev IfEarly : List Event → Mark → Type 0
  IfEarly before made = made.step ≤ length before → Contains (at before).marks made

  early : (before later : List Event) → steps ≡ before ++ later → (made : Mark) → Contains whole.marks made → IfEarly before made
  early before later parts made there =
      let on = goes_on before later parts in
      All-contains (IfEarly before) whole.marks made
      (subst (λ (m : List Mark). All (IfEarly before) m) (sym on.parts)
      (All-append (IfEarly before) (at before).marks on.rest
      (λ k d h. λ low. All-contains_itself (at before).marks k d h)
      (λ k d h. λ low. absurd (omega (arith, low, on.from_now k d h, steps_made config before)))))
      there

  -- ---- a command that a frontend answered alone

  -- who sent the master a message is a frontend, or a backend
  sender_by : (taken : Taken config steps) → taken.to ≡ master_of config → (found : Option NodeState) → node_at (at taken.before) taken.from ≡ found
      → ((front : Front) × (front_at (at taken.before) taken.from ≡ Some front)) ⊎ IsSome (home_at (at taken.before) taken.from)
  sender_by taken mine None none =
      absurd (let no : [] ≡ taken.message ∷ taken.rest = sym ((run_holds config taken.before).senders taken.from taken.to none) ∙ taken.comes in cc)
  sender_by taken mine (Some (state.Front front)) there = inl (front, ap as_front there ∙ a_front front)
  sender_by taken mine (Some (state.Back home)) there = inr (ap is_some (ap as_back there ∙ a_back home))
  sender_by taken mine (Some (state.Master master)) there =
      let its = laws taken.before _ taken.parts in
      absurd (let me : taken.from ≡ master_of config = its.nodes.only taken.from master (ap as_master there ∙ a_master master) in
      let none = ((run_holds config taken.before).masters (master_of config) its.master its.nodes.is_there).selfless in
      let no : [] ≡ taken.message ∷ taken.rest =
      sym none ∙ ap (λ f. on_link (at taken.before).links f (master_of config)) (sym me) ∙ ap (on_link (at taken.before).links taken.from) (sym mine)
      ∙ taken.comes in cc)

  sender : (taken : Taken config steps) → taken.to ≡ master_of config
      → ((front : Front) × (front_at (at taken.before) taken.from ≡ Some front)) ⊎ IsSome (home_at (at taken.before) taken.from)
  sender taken mine = sender_by taken mine (node_at (at taken.before) taken.from) refl

  line_there : (taken : Taken config steps) (line : List ℕ) → taken.message ≡ Line line → taken.to ≡ master_of config
      → on_link (at taken.before).links taken.from (master_of config) ≡ Line line ∷ taken.rest
  line_there taken line is mine =
      ap (on_link (at taken.before).links taken.from) (sym mine) ∙ taken.comes ∙ ap (λ (m : LinkMsg). m ∷ taken.rest) is

  -- a line of a frontend
  barred : (taken : Taken config steps) (id : AskId) (line : List ℕ) → taken.message ≡ Line line → line_ask line ≡ Some id → taken.to ≡ master_of config
      → (front : Front) → front_at (at taken.before) taken.from ≡ Some front → IsBarred config steps laws taken.before id line
  barred taken id line is its mine front there =
      line_barred config are steps laws fit taken.before _ taken.parts taken.from (master_of config) line taken.rest id (line_there taken line is mine) its
      front there

  -- of a backend: its command isn't over
  line_on : (taken : Taken config steps) (id : AskId) (line : List ℕ) → taken.message ≡ Line line → line_ask line ≡ Some id → taken.to ≡ master_of config
      → IsSome (home_at (at taken.before) taken.from) → length ((laws taken.before _ taken.parts).story.told id.conn) + 1 ≤ id.command
  line_on taken id line is its mine home =
      line_is_on config (λ conn. heard config conn taken.before) (at taken.before) (laws taken.before _ taken.parts) taken.from line taken.rest id home
      (line_there taken line is mine) its

  -- the command had begun behind some of the steps, and was the first of which its client wasn't told
  record HadBegun (id : AskId) : Type 0 where
    before : List Event
    later : List Event
    parts : steps ≡ before ++ later
    begun : IsBegun (at before) id
    last : id.command ≡ length ((laws before later parts).story.told id.conn) + 1

  had_begun : (id : AskId) (taken : Taken config steps) → IsStepOf config steps id taken → HadBegun id
  had_begun id taken (at_home ask is its none home) =
      let law_then = laws taken.before _ taken.parts in
      let way : IsUnderWay config (λ conn. heard config conn taken.before) (at taken.before) law_then id =
      subst (IsUnderWay config (λ conn. heard config conn taken.before) (at taken.before) law_then) its
      (ask_tells config (λ conn. heard config conn taken.before) (at taken.before) law_then taken.from taken.to ask taken.rest
      (taken.comes ∙ ap (λ (m : LinkMsg). m ∷ taken.rest) is)).under_way in
      record { before = taken.before; later = _; parts = taken.parts; begun = way.begun; last = way.last }
  had_begun id taken (at_master line is its mine) = ⊎_elim
      (λ (front : (it : Front) × (front_at (at taken.before) taken.from ≡ Some it)).
      let sent = barred taken id line is its mine front.0 front.1 in
      record { before = sent.before; later = sent.later; parts = sent.parts; begun = sent.begun; last = sent.number })
      (λ (home : IsSome (home_at (at taken.before) taken.from)).
      let way : IsUnderWay config (λ conn. heard config conn taken.before) (at taken.before) (laws taken.before _ taken.parts) id =
      (line_tells config (λ conn. heard config conn taken.before) (at taken.before) (laws taken.before _ taken.parts) taken.from taken.to line taken.rest id
      (taken.comes ∙ ap (λ (m : LinkMsg). m ∷ taken.rest) is) its (line_on taken id line is its mine home) mine (fit taken.before _ taken.parts)).under_way in
      record { before = taken.before; later = _; parts = taken.parts; begun = way.begun; last = way.last })
      (sender taken mine)

  no_step : (made : Mark) (how : How) → Contains whole.marks made → made.kind ≡ Told how → IsToldAlone config steps made → (taken : Taken config steps)
      → IsStepOf config steps made.ask taken → ⊥
  no_step made how there kind told taken works = by (had_begun made.ask taken works)
    where
      by : HadBegun made.ask → ⊥
      by had = ⊎_elim
          (λ (first : length had.before ≤ length told.at.before).
          let on = fronts had.before _ told.at.before _ (sym had.parts ∙ told.at.parts) first in
          never_alone (at had.before) on.more made.ask had.begun
          (subst (λ (w : World). IsAlone w made.ask) (ap (run_steps (start config)) on.parts ∙ run_steps-append (start config) had.before on.more) told.alone))
          (λ (later : length told.at.before < length had.before).
          let law_then = laws had.before had.later had.parts in
          let low : command_of made ≤ length (law_then.story.told (conn_of made)) =
          All-contains (λ (m : Mark). tells_client m.kind ≡ true → command_of m ≤ length (law_then.story.told (conn_of m))) (at had.before).marks made
          (has_tellings (setting_of config) (at had.before).steps (at had.before).marks law_then.story law_then.is_told.marked).low
          (early had.before had.later had.parts made there (omega (arith, later, told.at.step_is))) (tells_it made.kind how kind) in
          absurd (omega (arith, low, had.last)))
          (within (length had.before) (length told.at.before))

  -- ---- a mark that always counts is a point

  always_is : (made : Mark) → Contains whole.marks made → made.kind ≡ Home Always → IsItsPoint talk (points_of whole.marks) made.step made.ask
  always_is made there kind = record {
    told = λ low. always_replied (setting_of config) whole.steps whole.marks law.story law.is_told.marked made there kind low;
    untold = λ high. always_lost (setting_of config) whole.steps whole.marks law.story law.is_told.marked made there kind high;
  }

  -- ---- a step of these

  module _ (before : List Event) (event : Event) (later : List Event) (parts : steps ≡ before ++ event ∷ later) where
    abbrev next : World
    next = steps_by (at before) event

    next_is : at (before ++ event ∷ []) ≡ next
    next_is = one_more_step (start config) before event

    behind : GoOn next.steps next.marks whole.marks
    behind =
        subst (λ (w : World). GoOn next.steps next.marks w.marks)
        (sym (ap (run_steps (start config)) parts ∙ run_steps-append (start config) before (event ∷ later) ∙ first_step (at before) event later))
        (run_goes_on next later)

    next_steps : next.steps ≡ length before + 1
    next_steps =
        ap (λ (w : World). w.steps) (sym next_is) ∙ steps_made config (before ++ event ∷ []) ∙ length-append before (event ∷ [])

    still_there : (made : Mark) → Contains next.marks made → Contains whole.marks made
    still_there made there =
        subst (λ (m : List Mark). Contains m made) (sym behind.parts) (Contains-append_left next.marks behind.rest made there)

    -- of the marks of the step holds what holds of those that it put behind
    of_step : (P : Mark → Type 0) (new : List Mark) → next.marks ≡ (at before).marks ++ new → All P new
        → All (λ (made : Mark). made.step ≡ length before + 1 → P made) whole.marks
    of_step P new more each =
        let IfThen : Mark → Type 0 = λ made. made.step ≡ length before + 1 → P made in
        let then = laws before (event ∷ later) parts in
        let timely = (holds (setting_of config) (at before).steps (at before).marks then.story then.is_told.marked).timely in
        subst (λ (m : List Mark). All IfThen m) (sym (behind.parts ∙ ap (λ m. m ++ behind.rest) more))
        (All-append IfThen ((at before).marks ++ new) behind.rest
        (All-append IfThen (at before).marks new
        (λ k d h. λ e. absurd (omega (arith, e, timely k d h, steps_made config before)))
        (λ k d h. λ e. each k d h))
        (λ k d h. λ e. absurd (omega (arith, e, behind.from_now k d h, next_steps))))

  -- ---- a backend takes an ask

  module _ (taken : Taken config steps) (ask : FrontAsk) (is : taken.message ≡ Ask ask) (none : is_of_name ask.op ≡ false) where
    abbrev event : Event
    event = Deliver taken.from taken.to

    abbrev step : ℕ
    step = length taken.before + 1

    served : IsServed config (at taken.before) taken.from taken.to ask
    served =
        ask_is_served config (λ conn. heard config conn taken.before) (at taken.before) are (laws taken.before _ taken.parts) taken.from taken.to ask taken.rest
        (taken.comes ∙ ap (λ (m : LinkMsg). m ∷ taken.rest) is) none

    counted : (at taken.before).steps + 1 ≡ step
    counted = ap (λ n. n + 1) (steps_made config taken.before)

    abbrev its_mark : Mark
    its_mark = record { step = step; ask = ask.id; kind = Home served.counts }

    next_marks : (steps_by (at taken.before) event).marks ≡ (at taken.before).marks ++ its_mark ∷ []
    next_marks = served.marks ∙ ap (λ n. (at taken.before).marks ++ (record { step = n; ask = ask.id; kind = Home served.counts }) ∷ []) counted

    mark_there : Contains whole.marks its_mark
    mark_there =
        still_there taken.before event taken.later taken.parts its_mark
        (subst (λ (m : List Mark). Contains m its_mark) (sym next_marks) (Contains-push (at taken.before).marks its_mark))

    -- it is the only mark of that step
    abbrev IfThen : Mark → Type 0
    IfThen made = made.step ≡ step → made.kind ≡ Home served.counts

    only_mark : All IfThen whole.marks
    only_mark =
        of_step taken.before event taken.later taken.parts (λ (made : Mark). made.kind ≡ Home served.counts) (its_mark ∷ []) next_marks
        (All-cons (λ (made : Mark). made.kind ≡ Home served.counts) its_mark [] refl (All-nil (λ (made : Mark). made.kind ≡ Home served.counts)))

    -- where it isn't done
    abbrev IsNoLoss : Point → Type 0
    IsNoLoss p = p.step ≡ step → p.ask ≡ ask.id → p.what ≢ lost

    abbrev IsOfTold : Point → Type 0
    IsOfTold p = p.step ≡ step → p.ask ≡ ask.id → (ask.id).command ≤ length (law.story.told (ask.id).conn)

    only_seen : served.counts ≡ IfAnswered → IsOnlySeen talk (points_of whole.marks) step ask.id
    only_seen only = record {
      no_loss = each_counted IfThen IsNoLoss
          (λ made next what if_then e. λ then same is_lost. none_lost next what (ap (λ k. counts_as k next) (sym (if_then then ∙ ap Home only)) ∙ e) is_lost)
          whole.marks only_mark;
      told = each_told (setting_of config) whole.steps whole.marks law.story law.is_told.marked IfThen IsOfTold
          (λ made next what if_then low e. λ then same.
          subst (λ (i : AskId). i.command ≤ length (law.story.told i.conn)) same (low (if_then then ∙ ap Home only))) only_mark;
    }

    is_done : IsOpenAt (at taken.before) ask.name taken.to → (said : Bool) → says_done served.body ≡ said → says_done served.body ≡ true
    is_done opened true e = e
    is_done opened false e = absurd ((served.undone e).1 opened)

    answers : AnswersAsk config talk steps (points_of whole.marks) taken ask
    answers = record {
      is_home = served.is_home;
      body = served.body;
      answers = λ reached. ap (λ (w : World). on_link w.links taken.to taken.from) (next_is taken.before event taken.later taken.parts) ∙ served.answers reached;
      where_open = λ said. (served.done said).1;
      is_done = λ opened. is_done opened (says_done served.body) refl;
      point = λ said. always_is its_mark mark_there (ap Home (served.done said).0);
      seen = λ said. only_seen (served.undone said).0;
    }

    -- what it did for a point of that step
    home_does : (what : What) (next : Option MarkKind) (counts : Counts) → served.counts ≡ counts → counts_as (Home counts) next ≡ Some what
        → Does config steps taken what
    home_does what next Always same e = carries_out (where_open ask is (opened (says_done served.body) refl))
      where
        opened : (said : Bool) → says_done served.body ≡ said → IsOpenAt (at taken.before) ask.name taken.to
        opened true said = (served.done said).1
        opened false said = absurd (let no : Always ≡ IfAnswered = sym same ∙ (served.undone said).0 in cc)
    home_does what next IfAnswered same e =
        only_answers (none_lost next what e)
        (ap (λ (w : World). table_at w (master_of config)) (next_is taken.before event taken.later taken.parts) ∙ served.table (master_of config))

  -- ---- the master takes a message

  abbrev master_next : Taken config steps → World
  master_next taken = steps_by (at taken.before) (Deliver taken.from (master_of config))

  then_is : (taken : Taken config steps) → taken.to ≡ master_of config → at (taken.before ++ Deliver taken.from taken.to ∷ []) ≡ master_next taken
  then_is taken mine =
      next_is taken.before (Deliver taken.from taken.to) taken.later taken.parts ∙ ap (steps_by (at taken.before)) (ap (Deliver taken.from) mine)

  first_there : (taken : Taken config steps) → taken.to ≡ master_of config
      → on_link (at taken.before).links taken.from (master_of config) ≡ taken.message ∷ taken.rest
  first_there taken mine = ap (on_link (at taken.before).links taken.from) (sym mine) ∙ taken.comes

  -- it makes a mailbox, or takes one away
  made_for : (taken : Taken config steps) (name : List ℕ) → ChangesMailbox config steps taken name
      → CountsFor talk (points_of whole.marks) (length taken.before + 1) taken.message
  made_for taken name changes =
      let its = master_makes config (λ conn. heard config conn taken.before) (at taken.before) (laws taken.before _ taken.parts) taken.from
      taken.message taken.rest (first_there taken changes.to) name
      (subst (λ (w : World). DiffersAt config (at taken.before) w name) (then_is taken changes.to) changes.differs) in
      let made : Mark = record { step = length taken.before + 1; ask = its.id; kind = Home Always } in
      let there : Contains (at (taken.before ++ Deliver taken.from taken.to ∷ [])).marks made =
      subst (λ (w : World). Contains w.marks made) (sym (then_is taken changes.to))
      (subst (λ (n : ℕ). Contains (master_next taken).marks (record { step = n; ask = its.id; kind = Home Always }))
      (ap (λ n. n + 1) (steps_made config taken.before)) its.marked) in
      record {
        line = its.line;
        is = its.is;
        id = its.id;
        its = its.its;
        point = always_is made
            (still_there taken.before (Deliver taken.from taken.to) taken.later taken.parts made
            (subst (λ (w : World). Contains w.marks made) (next_is taken.before (Deliver taken.from taken.to) taken.later taken.parts) there)) refl;
      }

  -- ---- where a point stands

  abbrev MadeHere : Mark → Type 0
  MadeHere made = IsMadeSo config steps made × Contains whole.marks made

  -- what the step of a mark did
  module _ (made : Mark) (there : Contains whole.marks made) (next : Option MarkKind) (what : What) (counts : Counts) (kind : made.kind ≡ Home counts)
      (e : counts_as made.kind next ≡ Some what) (taken : Taken config steps) (step_is : made.step ≡ length taken.before + 1) where
    as_home : counts_as (Home counts) next ≡ Some what
    as_home = ap (λ k. counts_as k next) (sym kind) ∙ e

    by_deed : (its_counts : Counts) → made.kind ≡ Home its_counts → counts_as (Home its_counts) next ≡ Some what → taken.to ≡ master_of config
        → at (taken.before ++ Deliver taken.from taken.to ∷ []) ≡ master_next taken → MasterDeed config (at taken.before) (master_next taken) made
        → Does config steps taken what
    by_deed Always is counts_so mine then deed =
        let some = deed.always is in
        carries_out (of_name some.name
        (record { to = mine; differs = subst (λ (w : World). DiffersAt config (at taken.before) w some.name) (sym then) some.differs }))
    by_deed IfAnswered is counts_so mine then deed =
        only_answers (none_lost next what counts_so) (ap (λ (w : World). table_at w (master_of config)) then ∙ deed.seen is)

    of_master : taken.to ≡ master_of config → Does config steps taken what
    of_master mine =
        let deeds = master_deeds config (λ conn. heard config conn taken.before) (at taken.before) (laws taken.before _ taken.parts) taken.from
        taken.message taken.rest (first_there taken mine) in
        let Deed : Mark → Type 0 = MasterDeed config (at taken.before) (master_next taken) in
        let new = ap (λ (x : Event). (steps_by (at taken.before) x).marks) (ap (Deliver taken.from) mine) ∙ deeds.parts in
        let deed : Deed made =
        All-contains (λ (m : Mark). m.step ≡ length taken.before + 1 → Deed m) whole.marks made
        (of_step taken.before (Deliver taken.from taken.to) taken.later taken.parts Deed deeds.new new deeds.each) there step_is in
        by_deed counts kind as_home mine (then_is taken mine) deed

    of_home : (ask : FrontAsk) → taken.message ≡ Ask ask → is_of_name ask.op ≡ false → Does config steps taken what
    of_home ask is none =
        let its : made.kind ≡ Home (served taken ask is none).counts =
        All-contains (IfThen taken ask is none) whole.marks made (only_mark taken ask is none) there step_is in
        home_does taken ask is none what next counts (just (sym its ∙ kind)) as_home

    does : IsStepOf config steps made.ask taken → Does config steps taken what
    does (at_home ask is its none home) = of_home ask is none
    does (at_master line is its mine) = of_master mine

  stands : (made : Mark) (next : Option MarkKind) (what : What) → MadeHere made → counts_as made.kind next ≡ Some what
      → StandsAt config steps (point_as made what)
  stands made next what (is_taken counts kind taken works step, there) e =
      where_taken taken works step (does made there next what counts kind e taken step works)
  stands made next what (is_told how kind so refuses, there) e =
      stands_told (told_points how next what (ap (λ k. counts_as k next) (sym kind) ∙ e))
    where
      stands_told : TellsPoint how what → StandsAt config steps (point_as made what)
      stands_told (here_replies here replies) = at_frontend replies (so here).at (no_step made how there kind (so here))
      stands_told (here_unreached node unreached is) = not_reached node is (refuses node unreached)

  points_stand : All (StandsAt config steps) (points_of whole.marks)
  points_stand = each_counted MadeHere (StandsAt config steps) stands whole.marks (λ k d h. (all k d h, All-contains_itself whole.marks k d h))

  -- a step that works on a LIST takes its NOOP
  noop_of : (taken : Taken config steps) (id : AskId) → IsList talk id → IsStepOf config steps id taken → TakesNoop config steps taken id
  noop_of taken id is_list (at_master line is its mine) = ⊎_elim
      (λ (front : (it : Front) × (front_at (at taken.before) taken.from ≡ Some it)).
      record { line = is ∙ ap Line (barred taken id line is its mine front.0 front.1).line_is; to = mine })
      (λ (home : IsSome (home_at (at taken.before) taken.from)).
      takes_noop config steps talk all_asked more taken (laws taken.before _ taken.parts) (each_more taken.before _ taken.parts)
      (fit taken.before _ taken.parts) id is_list (λ other e told. line_on taken id other e told mine home) (at_master line is its mine))
      (sender taken mine)
  noop_of taken id is_list (at_home ask is its none home) =
      takes_noop config steps talk all_asked more taken (laws taken.before _ taken.parts) (each_more taken.before _ taken.parts)
      (fit taken.before _ taken.parts) id is_list (λ other e told. (let no : Ask ask ≡ Line other = sym is ∙ e in cc)) (at_home ask is its none home)

  -- a LIST of names that was answered OK stands where the master takes its NOOP
  abbrev NotAlone : Mark → Type 0
  NotAlone made = made.kind ≡ Told Here → IsListed talk made.ask → ⊥

  abbrev StandsAtNoop : Point → Type 0
  StandsAtNoop point = point.what ≡ replied → IsListed talk point.ask → IsAtItsNoop config steps point

  at_noop : (made : Mark) (next : Option MarkKind) (what : What) → IsMadeSo config steps made × NotAlone made → counts_as made.kind next ≡ Some what
      → StandsAtNoop (point_as made what)
  at_noop made next what (is_taken counts kind taken works step, alone) e replies listed =
      record { taken = taken; at = step; takes = noop_of taken made.ask listed.is_list works }
  at_noop made next what (is_told how kind so refuses, alone) e replies listed =
      by (told_points how next what (ap (λ k. counts_as k next) (sym kind) ∙ e))
    where
      by : TellsPoint how what → IsAtItsNoop config steps (point_as made what)
      by (here_replies here is) = absurd (alone (kind ∙ ap Told here) listed)
      by (here_unreached node unreached is) = (let no : unreached_point node ≡ replied = sym is ∙ replies in cc)

  listed : All StandsAtNoop (points_of whole.marks)
  listed =
      each_counted (λ made. IsMadeSo config steps made × NotAlone made) StandsAtNoop at_noop whole.marks
      (λ k d h. (all k d h, none_listed (setting_of config) whole.steps whole.marks law.story law.is_told.marked k d h))

  -- ---- all of it

  pub are_routed : AreRouted config talk steps (history_of whole)
  unfolding history_of
  are_routed = record {
    asks = λ taken ask is none. answers taken ask is none;
    makes = made_for;
    lists = noop_of;
    points_stand = points_stand;
    listed = listed;
  }
