-- Behind each step of a run the master's serial is at most half of the bytes that clients have sent, so the last UIDVALIDITY isn't reached.
use Rattle.std.proofs.Common.{◌≡◌, ◌≢◌, inl, inr, ℕ, ◌+◌, ◌*◌, ◌≤◌, true, List, [], ◌∷◌, ◌++◌, length, Option, None, Some, refl, sym, ◌∙◌, ap, subst, arith, append_assoc, length-append}
use Rattle.std.proofs.Math.Logic.{⊎_elim}
use Rattle.std.specs.Cmp.Lexicographic.{slice_cmp}
use Rattle.std.specs.Ordering.{nat_cmp}
use Rattle.front_core.specs.Front.{awaited}
use Rattle.front_core.specs.Stages.{awaits}
use Rattle.front_core.specs.declared.connection.Connection.{Connection}
use Rattle.imap_talk.proofs.RequestsOf.{requests_of}
use Rattle.imap_talk.specs.Heard.{Heard, frames_heard}
use Rattle.mark_history.proofs.Tellings.{has_tellings, numbered_within}
use Rattle.mark_history.specs.Marked.{Tale}
use Rattle.mur_config.specs.declared.config.Config.{Config}
use Rattle.mur_config.specs.Nodes.{AreNodes}
use Rattle.mur_base.proofs.MapLaws.{names_apart, same_or_other}
use Rattle.node_record.specs.Table.{MailboxTable}
use Rattle.node_step.proofs.NodeKinds.{front_is}
use Rattle.node_step.specs.NodeStep.{as_front}
use Rattle.node_step.specs.declared.node.NodeState.TheVariants as state
use Rattle.schedule_text.specs.Brings.{bytes_of_all}
use Rattle.schedule_text.specs.declared.event.Event.{Event}
use Rattle.schedule_text.specs.declared.event.Event.TheVariants.{Open, Data, Hang, Deliver, Cut, Join, Crash, Arm, Start, Flow, Heal}
use Rattle.cluster_core.specs.declared.world.World.{World}
use Rattle.cluster_core.specs.Flow.{run_steps, steps_of_run}
use Rattle.cluster_core.specs.Headline.Serials.{LeavesSerials, last_serial}
use Rattle.cluster_core.specs.Heard.{heard}
use Rattle.cluster_core.specs.Numbers.{NumbersFit, NumbersFitAll}
use Rattle.cluster_core.specs.Headline.OneNode.{OnlyWorks, WorksBy, relinks, worker}
use Rattle.cluster_core.specs.World.{front_at, layout_of, master_of, node_at, setting_of, start, stepped, steps_by}
use Rattle.cluster_core.proofs.Asking.StepSends.{StepSends, step_sends}
use Rattle.cluster_core.proofs.Lines.AtNode.{no_node_changes}
use Rattle.cluster_core.proofs.Connections.ConnectionLaw.{SaysOn}
use Rattle.cluster_core.proofs.Connections.KeepsLaw.{KeepsBehind, KeepsLaw, SaidOn, fixed_of}
use Rattle.cluster_core.proofs.Connections.KeepsLaw.SaidOn.{back as said_back, on as said_on}
use Rattle.cluster_core.proofs.Connections.KeepsStill.{stepped_law}
use Rattle.cluster_core.proofs.OneServer.EachStep.{EachKeeps, IsNoCut, LawBehind, TellsMoves, at_an_event, at_the_end}
use Rattle.cluster_core.proofs.Runs.NumbersLaw.{bytes_of_steps}
use Rattle.cluster_core.proofs.Runs.NeverMoved.{WorldIsQuiet, never_moved}
use Rattle.cluster_core.proofs.Runs.OneNodeLaw.{one_more_step, one_node_works}
use Rattle.cluster_core.proofs.Runs.OwnClientsLaw.{HaveOwnClients, run_own, start_own}
use Rattle.cluster_core.proofs.Serials.Awaits.{AwaitsMaster, IsBarred, IsUnsaid, is_barred_so, not_reserved, same_node}
use Rattle.cluster_core.proofs.Serials.Barred.{waited as ok_waited}
use Rattle.cluster_core.proofs.Serials.Counting.{no_longer, times, times_joined}
use Rattle.cluster_core.proofs.Serials.InFlow.{waits_in_flow}
use Rattle.cluster_core.proofs.Serials.Reserved.{IsReserved}
use Rattle.cluster_core.proofs.Serials.Senders.{commands_few, senders, senders_many}
use Rattle.cluster_core.proofs.Serials.Steps.{Counts, CountsThen, IsCounted, step_counts}
use Rattle.cluster_core.proofs.Serials.Steps.IsCounted.{replied, waiting}
use Rattle.cluster_core.proofs.Starts.StartLaw.{start_table}

-- ---- a world with the same nodes and links, and a tale that goes on

same_reserved : (master : List ℕ) (world : World) (conn : ℕ) → IsReserved master world conn → IsReserved master (stepped world) conn
same_reserved master world conn is = record {
  server = is.server;
  node = is.node;
  there = is.there;
  name = is.name;
  flow = is.flow;
  runs = is.runs;
  own = is.own;
  reserved = is.reserved;
}

counted_stepped : (master : List ℕ) (told said : ℕ) (world : World) (conn n : ℕ) → IsCounted master told said world conn n
    → IsCounted master told said (stepped world) conn n
counted_stepped master told said world conn n (replied few) = replied few
counted_stepped master told said world conn n (waiting is few) = waiting (same_reserved master world conn is) few

counted_more : (master : List ℕ) (told said told_then said_then : ℕ) (world : World) (conn n : ℕ) → told ≤ told_then → said ≤ said_then
    → IsCounted master told said world conn n → IsCounted master told_then said_then world conn n
counted_more master told said told_then said_then world conn n more_told more_said (replied few) = replied (omega (arith, few, more_said))
counted_more master told said told_then said_then world conn n more_told more_said (waiting is few) = waiting is (omega (arith, few, more_told))

-- what waits for the master does so whatever the number of the step is
begun_so : (master : List ℕ) (world : World) (conn : ℕ) → AwaitsMaster master (stepped world) conn → AwaitsMaster master world conn
begun_so master world conn is = record {
  node = is.node;
  front = is.front;
  connection = is.connection;
  at = record { at = (is.at).at; has = (is.at).has };
  client = is.client;
  waits = is.waits;
}

then_so : (master : List ℕ) (world : World) (conn : ℕ) → AwaitsMaster master world conn → AwaitsMaster master (stepped world) conn
then_so master world conn is = record {
  node = is.node;
  front = is.front;
  connection = is.connection;
  at = record { at = (is.at).at; has = (is.at).has };
  client = is.client;
  waits = is.waits;
}

awaited_stage : (master : List ℕ) (connection : Connection) → awaited master (Some connection) master ≡ true → awaits master connection.stage master ≡ true
unfolding awaited
awaited_stage master connection is = is

-- where a node works, no link breaks
node_cuts_none : (world : World) (event : Event) (node : List ℕ) → worker world event ≡ Some node → IsNoCut event
node_cuts_none world (Open at conn) node is = tt
node_cuts_none world (Data conn bytes) node is = tt
node_cuts_none world (Hang conn) node is = tt
node_cuts_none world (Deliver from to) node is = tt
node_cuts_none world (Cut one other kept kept_back) node is = cc
node_cuts_none world (Join one other) node is = tt
node_cuts_none world (Crash at image kept) node is = tt
node_cuts_none world (Arm at call image kept) node is = tt
node_cuts_none world (Start at) node is = tt
node_cuts_none world (Flow n) node is = tt
node_cuts_none world Heal node is = tt

-- ---- behind the steps of a run

-- so many RESERVEs of a connection's commands the master has answered OK
abbrev CountedIn : Config → World → Tale → ℕ → ℕ → Type 0
CountedIn config world story conn n =
    IsCounted (master_of config) (length (story.told conn)) (length (story.talk.answers conn)) world conn n

-- the connections of them; of a command that waits for the master's OK there is none
record HasCounted (config : Config) (world : World) (story : Tale) : Type 0 where
  reserved : List ℕ
  few : last_serial config world ≤ length reserved
  each : (conn : ℕ) → CountedIn config world story conn (times conn reserved)
  barred : (conn : ℕ) → AwaitsMaster (master_of config) world conn → times conn reserved ≤ length (story.told conn)

module _ (config : Config) (came : ℕ → Heard) (world : World) (quiet : WorldIsQuiet (master_of config) world) (law : KeepsLaw config came world)
    (fits : NumbersFit came) where
  abbrev name : List ℕ
  name = master_of config

  -- the world behind a step, and what was said by then
  module _ (event : Event) (then : ℕ → Heard) (next : World) (same : next ≡ steps_by world event) (on : KeepsBehind config law.story law.stops then next)
      (grows : IsNoCut event → SaysOn law.story on.law.story) (own : HaveOwnClients world) (own_next : HaveOwnClients next) (fits_next : NumbersFit then)
      (counted : HasCounted config world law.story) where
    counts : Counts config came world quiet (stepped_law config came world law).then fits (stepped world) counted.reserved
    counts = record {
      few = counted.few;
      each = λ conn. subst (λ (s : Tale). CountedIn config (stepped world) s conn (times conn counted.reserved)) (sym (stepped_law config came world law).same)
          (counted_stepped name (length (law.story.told conn)) (length (law.story.talk.answers conn)) world conn
          (times conn counted.reserved) (counted.each conn));
      barred = λ conn awaits. subst (λ (s : Tale). times conn counted.reserved ≤ length (s.told conn)) (sym (stepped_law config came world law).same)
          (counted.barred conn (begun_so name world conn awaits));
    }

    abbrev more : CountsThen config came world quiet (stepped_law config came world law).then fits event
    more = step_counts config came world quiet (stepped_law config came world law).then fits counted.reserved counts event

    abbrev reserved : List ℕ
    reserved = more.0

    told_more : (conn : ℕ) → length (law.story.told conn) ≤ length (on.law.story.told conn)
    told_more conn = omega (arith, ap length (on.answers.parts conn), length-append (law.story.told conn) (on.answers.more conn))

    -- by what was told and said before
    before_then : (conn : ℕ) → CountedIn config next law.story conn (times conn reserved)
    before_then conn =
        subst (λ (w : World). CountedIn config w law.story conn (times conn reserved)) (sym same)
        (subst (λ (s : Tale). CountedIn config (steps_by world event) s conn (times conn reserved)) (stepped_law config came world law).same ((more.1).each conn))

    counted_by : (conn : ℕ) → length (law.story.talk.answers conn) ≤ length (on.law.story.talk.answers conn) → CountedIn config next on.law.story conn (times conn reserved)
    counted_by conn said_more =
        counted_more name (length (law.story.told conn)) (length (law.story.talk.answers conn)) (length (on.law.story.told conn))
        (length (on.law.story.talk.answers conn)) next conn (times conn reserved) (told_more conn) said_more (before_then conn)

    -- ---- of a command that waits for the master

    module _ (conn : ℕ) (awaiting : AwaitsMaster name next conn) where
      abbrev IsFew : Type 0
      IsFew = times conn reserved ≤ length (on.law.story.told conn)

      abbrev barred_then : IsBarred (fixed_of config) conn next on.law.story
      barred_then = is_barred_so config then next on.law conn awaiting

      -- it waited so before
      by_before : AwaitsMaster name world conn → length (law.story.told conn) ≤ length (on.law.story.told conn) → IsFew
      by_before before told =
          omega (
            arith,
            told,
            subst (λ (s : Tale). times conn reserved ≤ length (s.told conn)) (stepped_law config came world law).same ((more.1).barred conn (then_so name world conn before)),
          )

      -- its frontend does nothing
      waited : node_at next awaiting.node ≡ node_at world awaiting.node → AwaitsMaster name world conn
      waited still =
          let was : front_at world awaiting.node ≡ Some awaiting.front = ap as_front (sym still) ∙ (awaiting.at).at in
          record {
            node = awaiting.node;
            front = awaiting.front;
            connection = awaiting.connection;
            at = record { at = was; has = (awaiting.at).has };
            client = own awaiting.node (state.Front awaiting.front) (front_is (node_at world awaiting.node) awaiting.front was) conn awaiting.connection (awaiting.at).has;
            waits = awaiting.waits;
          }

      -- its frontend works
      front_works : OnlyWorks event awaiting.node world next → StepSends world event awaiting.node next → IsNoCut event → IsFew
      front_works works sent no_cut = by (barred_then).unsaid
        where
          unsaid_so : on.law.story.talk.answers conn ≡ on.law.story.told conn → CountedIn config next on.law.story conn (times conn reserved) → IsFew
          unsaid_so nothing (replied few) = omega (arith, few, ap length nothing)
          unsaid_so nothing (waiting is few) = absurd (not_reserved config then next on.law conn barred_then is)

          by : IsUnsaid (on.law.story.told conn) (on.law.story.talk.answers conn) (barred_then).here → IsFew
          by (inl nothing) = unsaid_so nothing (counted_by conn (grows no_cut conn))
          by (inr answered) =
              let its : awaiting.node ≡ (barred_then).node = sym (same_node name next conn awaiting (barred_then).node (barred_then).client) in
              by_before
              (ok_waited config came then world next event law on.law fits_next conn awaiting awaiting.node works sent (told_more conn) answered.0 answered.1 its)
              (told_more conn)

      works_so : (at : Option (List ℕ)) → worker world event ≡ at → WorksBy event at world next → IsFew
      works_so None is works = by_before (waited (no_node_changes (relinks world event) event world next works awaiting.node)) (told_more conn)
      works_so (Some node) is works = ⊎_elim
          (λ (e : awaiting.node ≡ node).
          front_works (subst (λ n. OnlyWorks event n world next) (sym e) works)
          (subst (λ w. StepSends world event awaiting.node w) (sym same) (step_sends world event awaiting.node (is ∙ ap (λ n. Some n) (sym e))))
          (node_cuts_none world event node is))
          (λ (ne : awaiting.node ≢ node). by_before (waited (works.nodes awaiting.node ne)) (told_more conn))
          (same_or_other (slice_cmp nat_cmp) names_apart awaiting.node node)

      none_counted : IsFew
      none_counted = works_so (worker world event) refl (subst (λ w. WorksBy event (worker world event) world w) (sym same) (one_node_works world event).works)

    each_by : (conn : ℕ) → SaidOn (fixed_of config) law.story next on.law.story conn → CountedIn config next on.law.story conn (times conn reserved)
    each_by conn (said_on serials said_more) = counted_by conn said_more
    each_by conn (said_back is) =
        let awaiting : AwaitsMaster name next conn = record {
          node = is.node;
          front = is.front;
          connection = is.connection;
          at = is.at;
          client = own_next is.node (state.Front is.front) (front_is (node_at next is.node) is.front (is.at).at) conn is.connection (is.at).has;
          waits = awaited_stage name is.connection is.waits;
        } in
        replied (omega (arith, none_counted conn awaiting, ap length is.said))

    step_on : HasCounted config next on.law.story
    step_on = record {
      reserved = reserved;
      few = subst (λ (w : World). last_serial config w ≤ length reserved) (sym same) (more.1).few;
      each = λ conn. each_by conn (on.said conn);
      barred = λ conn awaiting. none_counted conn awaiting;
    }

  -- ---- no more than the commands that clients sent

  abbrev asked : ℕ → ℕ
  asked conn = length (requests_of (setting_of config) (frames_heard (came conn)))

  asked_so : (conn n : ℕ) → CountedIn config world law.story conn n → n ≤ asked conn
  asked_so conn n (replied few) =
      omega (arith, few, (has_tellings (setting_of config) world.steps world.marks law.story (law.is_told).marked).replied conn, ap length (law.requests conn))
  asked_so conn n (waiting is few) =
      let waits = waits_in_flow config came world law is.server is.node is.there is.name is.flow is.runs conn is.own in
      omega (arith, few, numbered_within (requests_of (setting_of config) (frames_heard (came conn))) (length (law.story.told conn) + 1) _ (waits.waits).asked)

-- behind these steps
abbrev CountsBehind : Config → List Event → Type 0
CountsBehind config steps = (law : LawBehind config steps) × HasCounted config (run_steps (start config) steps) law.story

begun : (config : Config) → AreNodes config.nodes → (law : LawBehind config []) → HasCounted config (run_steps (start config) []) law.story
unfolding run_steps times
begun config are law = record {
  reserved = [];
  few = omega (arith, ap (λ (t : MailboxTable). t.serial) (start_table config are));
  each = λ conn. replied (omega arith);
  barred = λ conn awaiting. omega arith;
}

counts_from : (config : Config) (steps before rest : List Event) → AreNodes config.nodes → EachKeeps config steps → NumbersFitAll config steps → steps ≡ before ++ rest
    → (law : LawBehind config before) → TellsMoves config steps before law → HasCounted config (run_steps (start config) before) law.story
    → (front back : List Event) → rest ≡ front ++ back → CountsBehind config (before ++ front)
counts_from config steps before [] are each fits e law moves counted = at_the_end (CountsBehind config) before (law, counted)
counts_from config steps before (event ∷ rest) are each fits e law moves counted =
    let on = each.next before event rest e law moves in
    at_an_event (CountsBehind config) before event rest (law, counted)
    (counts_from config steps (before ++ event ∷ []) rest are each fits (e ∙ sym (append_assoc before (event ∷ []) rest)) on.law (on.moving ∙ moves)
    (step_on config (λ conn. heard config conn before) (run_steps (start config) before) (never_moved config before are) law (fits before (event ∷ rest) e) event
    (λ conn. heard config conn (before ++ event ∷ [])) (run_steps (start config) (before ++ event ∷ [])) (one_more_step (start config) before event) on
    (each.grows before event rest e law moves) (run_own (start config) before (start_own config)) (run_own (start config) (before ++ event ∷ []) (start_own config))
    (fits (before ++ event ∷ []) rest (e ∙ sym (append_assoc before (event ∷ []) rest))) counted))

counts_behind : (config : Config) (steps : List Event) → AreNodes config.nodes → EachKeeps config steps → NumbersFitAll config steps
    → (before later : List Event) → steps ≡ before ++ later → CountsBehind config before
counts_behind config steps are each fits before later parts =
    counts_from config steps [] steps are each fits refl each.first each.moves (begun config are each.first) before later parts

-- THE SERIAL IS AT MOST HALF OF THE BYTES
pub serials_are_few : (config : Config) (steps : List Event) → AreNodes config.nodes → EachKeeps config steps → NumbersFitAll config steps
    → (before later : List Event) → steps ≡ before ++ later → 2 * last_serial config (run_steps (start config) before) ≤ bytes_of_all before
serials_are_few config steps are each fits before later parts =
    let counts = counts_behind config steps are each fits before later parts in
    let law = counts.0 in
    let reserved : List ℕ = (counts.1).reserved in
    let few : length (reserved ++ reserved) ≤ length (senders before) =
    no_longer (reserved ++ reserved) (senders before)
    (λ conn. omega (
      arith,
      times_joined conn reserved reserved,
      asked_so config (λ c. heard config c before) (run_steps (start config) before) (never_moved config before are) law (fits before later parts) conn (times conn reserved)
          ((counts.1).each conn),
      commands_few config (setting_of config) conn before,
    )) in
    omega (arith, (counts.1).few, few, length-append reserved reserved, senders_many before)

-- so the last one is never reached
pub leaves_serials : (config : Config) (events : List Event) → AreNodes config.nodes → NumbersFitAll config (steps_of_run config events)
    → EachKeeps config (steps_of_run config events) → LeavesSerials config events
leaves_serials config events are fits each =
    let few = serials_are_few config (steps_of_run config events) are each fits in
    record {
      few = few;
      left = λ small before later parts.
          omega (arith, few before later parts, bytes_of_steps (layout_of config) (start config) events before later parts, small);
    }
