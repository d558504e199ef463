-- How the links of a run hold.
use Rattle.std.proofs.Common.{◌≡◌, ℕ, Bool, true, List, Option, None, Some, sym, ◌∙◌, ap}
use Rattle.std.specs.Option.{IsSome}
use Rattle.asking_core.specs.declared.waiting.At.{At}
use Rattle.asking_core.specs.declared.waiting.At.TheVariants.{Home, Barrier}
use Rattle.front_core.specs.declared.front.Front.{Front}
use Rattle.front_core.specs.declared.connection.Connection.{Connection}
use Rattle.front_core.specs.declared.connection.Stage.{Stage}
use Rattle.front_core.specs.declared.connection.Stage.TheVariants.{Reading, Waits, Lists, Ended}
use Rattle.front_core.specs.Front.{awaited, connection_at, waits_for}
use Rattle.front_core.specs.Stages.{asks_at, awaits, has_asked, waits_at}
use Rattle.feed_links.proofs.Names.{same_name}
use Rattle.link_msg.specs.declared.message.LinkMsg.{LinkMsg}
use Rattle.mur_base.specs.declared.point.AskId.{AskId}
use Rattle.mur_config.specs.declared.config.Config.{Config}
use Rattle.mur_config.specs.Nodes.{AreNodes}
use Rattle.schedule_text.specs.declared.event.Event.{Event}
use Rattle.cluster_core.specs.declared.world.World.{World}
use Rattle.cluster_core.specs.Flow.{run_steps}
use Rattle.cluster_core.specs.Headline.AsksOnce.{Awaits}
use Rattle.cluster_core.specs.Headline.Backends.{IsBackend}
use Rattle.cluster_core.specs.Headline.Links.{IsNoticed, LinksHold, LinksHoldEach, is_coming, was_taken}
use Rattle.cluster_core.specs.World.{front_at, home_at, master_of, start}
use Rattle.cluster_core.proofs.Links.KindsStay.{backends_stay}
use Rattle.cluster_core.proofs.Links.Stand.{IsDown, LinksStand}
use Rattle.cluster_core.proofs.Links.Stand.IsDown.{has_ended, is_ending}
use Rattle.cluster_core.proofs.Links.StandLaw.{links_stand}

down_noticed : (queue : List LinkMsg) (up : Bool) → IsDown queue up → IsNoticed queue up
down_noticed queue up (is_ending messages is) = is_coming messages is
down_noticed queue up (has_ended is down) = was_taken is down

same_front : {one other : Front} → Some one ≡ Some other → one ≡ other
same_front e = cc

-- a command that awaits a server's answer waits for the server
waits_so : (world : World) (node server : List ℕ) (front : Front) (id : AskId) → front_at world node ≡ Some front → (waits : Awaits (front_at world node) id server)
    → waits_for (connection_at front id.conn) server ≡ true
unfolding waits_for has_asked
waits_so world node server front id at waits =
    ap (λ found. waits_for found server) (ap (λ (f : Front). connection_at f id.conn) (same_front (sym at ∙ waits.is)) ∙ waits.there)
    ∙ ap (λ s. has_asked s server) waits.stage ∙ ap (λ a. asks_at a server) waits.at ∙ same_name server

-- one that awaits a node as a server's answer awaits it
at_awaited : (master : List ℕ) (at : At) (server : List ℕ) → asks_at at server ≡ true → waits_at master at server ≡ true
at_awaited master (Home asked) server e = e
at_awaited master (Barrier why) server e = cc

stage_awaits : (master : List ℕ) (stage : Stage) (server : List ℕ) → has_asked stage server ≡ true → awaits master stage server ≡ true
unfolding has_asked awaits
stage_awaits master Reading server e = cc
stage_awaits master (Waits tag it) server e = at_awaited master it.at server e
stage_awaits master (Lists tag it) server e = cc
stage_awaits master Ended server e = cc

pub asked_awaited : (master : List ℕ) (found : Option Connection) (server : List ℕ) → waits_for found server ≡ true → awaited master found server ≡ true
unfolding waits_for awaited
asked_awaited master None server asked = cc
asked_awaited master (Some connection) server asked = stage_awaits master connection.stage server asked

links_hold : (config : Config) (world : World) → ((node : List ℕ) → IsBackend config node → IsSome (home_at world node)) → LinksStand config world
    → LinksHold config world
links_hold config world homes links = record {
  from_master = λ node is. links.from_master node (homes node is);
  to_master = λ node is. links.to_master node (homes node is);
  both = links.both;
  noticed = λ node server front at cut. down_noticed _ _ (links.down node server front at cut);
  waits_up = λ node server front id at waits.
      links.waits_up node server front id.conn at
      (asked_awaited (master_of config) (connection_at front id.conn) server (waits_so world node server front id at waits));
}

pub links_hold_each : (config : Config) (events : List Event) → AreNodes config.nodes → LinksHoldEach config events
links_hold_each config events are before later parts =
    links_hold config (run_steps (start config) before) (backends_stay config before are) (links_stand config before are)
