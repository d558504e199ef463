-- EVERY EVENT OF A RUN KEEPS THE LAW.
use Rattle.std.proofs.Common.{◌≡◌, ◌≢◌, inl, inr, ℕ, List, [], ◌∷◌, ◌++◌, Option, None, Some, refl, sym, ◌∙◌, ap, subst}
use Rattle.std.specs.List.{AllByRecursion}
use Rattle.cluster_core.specs.Headline.OneNode.{node_of}
use Rattle.cluster_core.specs.World.{client_at, front_at, master_of, home_at, node_at, start, steps_by}
use Rattle.cluster_core.specs.declared.world.Client.{Client}
use Rattle.front_core.specs.declared.front.Front.{Front}
use Rattle.imap_talk.specs.Heard.{Heard}
use Rattle.link_msg.specs.declared.answer.AnswerBody.{AnswerBody}
use Rattle.link_msg.specs.declared.answer.AnswerBody.TheVariants.{Moved}
use Rattle.link_msg.specs.declared.message.LinkMsg.{LinkMsg}
use Rattle.link_msg.specs.declared.message.LinkMsg.TheVariants.{Answer, Ask, End, Line, Up}
use Rattle.many_links.specs.Murder.{Nodes}
use Rattle.link_queue.specs.Links.{on_link}
use Rattle.mur_config.specs.declared.config.Config.{Config}
use Rattle.mur_config.specs.Nodes.{AreNodes}
use Rattle.schedule_text.specs.declared.event.Event.{Event}
use Rattle.node_step.specs.declared.node.NodeState.{NodeState}
use Rattle.node_step.specs.declared.node.NodeState.TheVariants as state
use Rattle.node_step.specs.NodeStep.{as_back, as_front, as_master}
use Rattle.cluster_core.specs.declared.world.World.{World}
use Rattle.cluster_core.specs.Flow.{run_steps}
use Rattle.node_step.proofs.NodeKinds.{a_back, a_front, front_is}
use Rattle.cluster_core.proofs.Answers.Ends.{OwnsClients}
use Rattle.cluster_core.proofs.Links.Stand.{LinksStand}
use Rattle.cluster_core.proofs.Links.StandLaw.{links_stand}
use Rattle.cluster_core.proofs.Nodes.Comes.{a_master}
use Rattle.cluster_core.proofs.Answers.AnswerComes.{NamesBackend}
use Rattle.cluster_core.proofs.Answers.FrontTakes.{MessageNamesBackend}
use Rattle.cluster_core.proofs.Connections.KeepsLaw.{KeepsLaw}
use Rattle.cluster_core.proofs.OneServer.AnyStep.{AnyStepKeeps, each_keeps}
use Rattle.cluster_core.proofs.OneServer.EachStep.{EachKeeps}
use Rattle.cluster_core.proofs.OneServer.MovingLaw.{moving_of}
use Rattle.cluster_core.proofs.Runs.OneNodeLaw.{one_more_step}
use Rattle.cluster_core.proofs.Runs.OwnClientsLaw.{HaveOwnClients, run_own, start_own}
use Rattle.cluster_core.proofs.Starts.StartLaw.{start_keeps}
use Rattle.cluster_core.proofs.Runs.NeverMoved.{WorldIsQuiet, never_moved, quiet_moves_none}
use Rattle.cluster_core.proofs.Runs.QuietNodes.{IsQuiet}
use Rattle.cluster_core.proofs.Keeps.Always.{HoldsAlways}
use Rattle.cluster_core.proofs.Keeps.AlwaysRuns.{run_holds}
use Rattle.cluster_core.proofs.Keeps.Deliver.{StandsBeside}
use Rattle.cluster_core.proofs.Keeps.EachEvent.{event_keeps}
use Rattle.cluster_core.proofs.Keeps.ToMaster.{IsOne}
use Rattle.cluster_core.specs.Numbers.{NumbersFitAll}

-- what a world holds whose next event keeps the law
pub record HoldsBeside (config : Config) (world : World) : Type 0 where
  pub always : HoldsAlways world
  pub quiet : WorldIsQuiet (master_of config) world
  pub own : HaveOwnClients world
  pub links : LinksStand config world
  pub links_then : (event : Event) → LinksStand config (steps_by world event)

-- no answer says that a mailbox has moved, so each names backends alone
body_names : (nodes : Nodes) (body : AnswerBody) → ((server : List ℕ) → body ≢ Moved server) → NamesBackend nodes body
body_names nodes body none server is = absurd (none server is)

its_client : (world : World) (node : List ℕ) (conn : ℕ) (found : Option Client) → client_at world conn ≡ found → node_of found ≡ Some node
    → (client : Client) × (client_at world conn ≡ Some client) × (client.at ≡ node)
its_client world node conn None at is = cc
its_client world node conn (Some client) at is = (client, at, (let same : client.at ≡ node = cc in same))

module _ (config : Config) (heard : ℕ → Heard) (world : World) (law : KeepsLaw config heard world) (beside : HoldsBeside config world) where
  sender_by : (from : List ℕ) (message : LinkMsg) (rest : List LinkMsg) → on_link world.links from (master_of config) ≡ message ∷ rest
      → (found : Option NodeState) → node_at world from ≡ found → IsOne world from
  sender_by from message rest first None there =
      absurd (let no : [] ≡ message ∷ rest = sym (beside.always.senders from (master_of config) there) ∙ first in cc)
  sender_by from message rest first (Some (state.Front front)) there = inl (front, ap as_front there ∙ a_front front)
  sender_by from message rest first (Some (state.Back home)) there = inr (home, ap as_back there ∙ a_back home)
  sender_by from message rest first (Some (state.Master master)) there =
      absurd (let its : from ≡ master_of config = law.nodes.only from master (ap as_master there ∙ a_master master) in
      let none = (beside.always.masters (master_of config) law.master law.nodes.is_there).selfless in
      let no : [] ≡ message ∷ rest = sym none ∙ ap (λ f. on_link world.links f (master_of config)) (sym its) ∙ first in cc)

  names_by : (from to : List ℕ) (front : Front) → front_at world to ≡ Some front → (message : LinkMsg) (rest : List LinkMsg)
      → on_link world.links from to ≡ message ∷ rest → MessageNamesBackend (home_at world) from message
  names_by from to front there (Answer answer) rest first =
      body_names (home_at world) answer.body (λ server. quiet_moves_none (master_of config) world from to answer rest server beside.quiet first)
  names_by from to front there (Line bytes) rest first = tt
  names_by from to front there (Ask ask) rest first = tt
  names_by from to front there Up rest first = tt
  names_by from to front there End rest first = tt

  owns_by : (node : List ℕ) (front : Front) → front_at world node ≡ Some front → OwnsClients world node front
  owns_by node front there conn connection has =
      its_client world node conn (client_at world conn) refl (beside.own node (state.Front front) (front_is (node_at world node) front there) conn connection has)

  stands : StandsBeside config world
  stands = record {
    watchers = λ master at. (beside.always.masters (master_of config) master at).watchers;
    links = beside.links;
    owns = owns_by;
    names = names_by;
    ends = λ from to rest first none. (subst (AllByRecursion IsQuiet) first (beside.quiet.calm none from to)).0;
    senders = λ from message rest first. sender_by from message rest first (node_at world from) refl;
  }

-- EVERY EVENT KEEPS THE LAW
pub any_step_keeps : (config : Config) → AnyStepKeeps config (HoldsBeside config)
any_step_keeps config came world event law beside fits moves =
    event_keeps config came world event law (stands config came world law beside) (λ one other lost. (beside.always.cut one other lost).1) (beside.links_then event)
    fits moves

-- ---- a run

-- EACH STEP OF A RUN KEEPS THE LAW
abbrev pub LawOfRun : Config → List Event → Type 0
LawOfRun config steps = AreNodes config.nodes → NumbersFitAll config steps → EachKeeps config steps

run_beside : (config : Config) (before : List Event) → AreNodes config.nodes → HoldsBeside config (run_steps (start config) before)
run_beside config before are = record {
  always = run_holds config before;
  quiet = never_moved config before are;
  own = run_own (start config) before (start_own config);
  links = links_stand config before are;
  links_then = λ event. subst (LinksStand config) (one_more_step (start config) before event) (links_stand config (before ++ event ∷ []) are);
}

pub law_of_run : (config : Config) (steps : List Event) → LawOfRun config steps
law_of_run config steps are fit =
    each_keeps config steps (HoldsBeside config) (any_step_keeps config) (start_keeps config (moving_of config steps) are)
    (λ before later e. run_beside config before are) fit
