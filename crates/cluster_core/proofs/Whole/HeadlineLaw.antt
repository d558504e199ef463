-- What holds of a run each step of which keeps the law.
use Rattle.std.proofs.Common.{◌≡◌, ℕ, List, ◌++◌, subst, sym, ap, arith}
use Rattle.feed_links.specs.OneFeed.{IsFed, asks, breaks_early, comes_up, is_parted, is_told}
use Rattle.feed_links.specs.Replicas.{hears_all, replica_of}
use Rattle.front_core.specs.Ups.{is_up}
use Rattle.front_core.specs.declared.front.Front.{Front}
use Rattle.imap_command.specs.Ruled.{IsDate}
use Rattle.imap_talk.specs.Heard.{Heard}
use Rattle.link_queue.specs.Broken.{is_broken}
use Rattle.link_queue.specs.Links.{on_link}
use Rattle.master_core.specs.declared.master.Master.{Master}
use Rattle.mur_config.specs.declared.config.Config.{Config}
use Rattle.mur_config.specs.Nodes.{AreNodes}
use Rattle.node_record.specs.Table.{MailboxTable}
use Rattle.schedule_text.specs.declared.event.Event.{Event}
use Rattle.cluster_core.specs.Heard.{heard}
use Rattle.cluster_core.specs.Headline.Outside.{table_by, table_at}
use Rattle.cluster_core.specs.World.{layout_of, master_of, start}
use Rattle.cluster_core.specs.declared.world.World.{World}
use Rattle.cluster_core.specs.Flow.{run_steps, steps_of_run}
use Rattle.cluster_core.specs.Headline.{IsOneServer}
use Rattle.cluster_core.specs.Headline.Replicas.{Follows, ReplicasFollow, Follows as follows}
use Rattle.cluster_core.specs.Numbers.{NumbersFitAll}
use Rattle.schedule_text.specs.ScheduleFits.{HasCountRoom}
use Rattle.cluster_core.proofs.Runs.FlowRests.{are_steps_of_all}
use Rattle.cluster_core.proofs.Runs.NumbersLaw.{numbers_fit}
use Rattle.cluster_core.proofs.Runs.OneNodeLaw.{one_node_each}
use Rattle.cluster_core.proofs.Runs.OnPairs.{goes_over_links, know_by_law}
use Rattle.cluster_core.proofs.Runs.OwnClientsLaw.{serves_its_own_each}
use Rattle.cluster_core.proofs.Runs.Unrolled.{by_steps}
use Rattle.cluster_core.proofs.Asking.AsksLaw.{asks_by_records}
use Rattle.cluster_core.proofs.Asking.LeftLaw.{leaves_rightly_each}
use Rattle.cluster_core.proofs.Asking.OnceLaw.{asks_once}
use Rattle.cluster_core.proofs.Lines.LinesLaw.{begins_only_as_asked}
use Rattle.cluster_core.proofs.Connections.KeepsLaw.{KeepsLaw}
use Rattle.cluster_core.proofs.Disks.OnDisks.{stands_on_disks}
use Rattle.cluster_core.proofs.Guests.GuestsServed.{serves_guests}
use Rattle.cluster_core.proofs.Keeps.AnyStep.{law_of_run}
use Rattle.cluster_core.proofs.Starts.Kinds.{master_named}
use Rattle.cluster_core.proofs.OneServer.LinksLaw.{links_hold_each}
use Rattle.cluster_core.proofs.OneServer.AnyStep.{keeps_one_home_each}
use Rattle.cluster_core.proofs.OneServer.ClosedLaw.{gives_no_more}
use Rattle.cluster_core.proofs.OneServer.EachStep.{EachKeeps, kept_all}
use Rattle.cluster_core.proofs.OneServer.OneStoreLaw.{one_store_tells}
use Rattle.cluster_core.proofs.OneServer.RecordsLaw.{records_stand_each}
use Rattle.cluster_core.proofs.Serials.SerialsLeft.{leaves_serials}

-- a frontend's feed by the table of the world
followed : (master : Master) (table : MailboxTable) (world : World) (name node : List ℕ) (front : Front) → table ≡ master.table
    → IsFed master node (is_broken world.broken name node) (is_up front.ups name) (on_link world.links node name) (on_link world.links name node) front.replica
    → Follows world table name node front
followed master table world name node front e (asks whole reached before behind parts noops later lines news empty none) =
    follows.asks before behind parts news empty
followed master table world name node front e (is_told whole reached noops lines told stream) =
    follows.is_told (subst (λ (t : MailboxTable). hears_all front.replica (on_link world.links name node) ≡ replica_of t) (sym e) told)
followed master table world name node front e (comes_up whole down ups up none) = follows.comes_up down up
followed master table world name node front e (breaks_early broken down ups ends parts are few none) = follows.is_parted broken
followed master table world name node front e (is_parted broken own lines few tag) = follows.is_parted broken

replicas_follow : (config : Config) (came : ℕ → Heard) (world : World) → KeepsLaw config came world → ReplicasFollow config world
replicas_follow config came world law node front at =
    followed law.master (table_at world (master_of config)) world (master_of config) node front (ap table_by (law.nodes).is_there)
    (((law.feeds).each node front at).fed)

one_mail_server : (config : Config) (events : List Event) → AreNodes config.nodes → IsDate config.date → NumbersFitAll config (steps_of_run config events)
    → EachKeeps config (steps_of_run config events) → IsOneServer config events
one_mail_server config events are dated fit each =
    let law_at = λ (before later : List Event) (parts : steps_of_run config events ≡ before ++ later).
    ((kept_all config (steps_of_run config events) each).at before later parts).law in
    let known = λ (before later : List Event) (parts : steps_of_run config events ≡ before ++ later).
    know_by_law config (λ conn. heard config conn before) (run_steps (start config) before) (law_at before later parts) in
    record {
      by_steps = by_steps (layout_of config) (start config) events;
      its_steps = are_steps_of_all config events are known;
      one_node = one_node_each (start config) (steps_of_run config events);
      own_clients = serves_its_own_each config (steps_of_run config events);
      over_links = goes_over_links config events are known;
      links = links_hold_each config events are;
      one_store = one_store_tells config events are dated fit each;
      closed = gives_no_more config events are each;
      guests = serves_guests config events are each;
      master = master_named config.nodes are.names (omega (arith, are.master));
      replicas = λ before later parts.
          replicas_follow config (λ conn. heard config conn before) (run_steps (start config) before) (law_at before later parts);
      asks = asks_by_records config events are (λ before later parts node front at. (((law_at before later parts).nodes).fronts node front at).first_is);
      asks_once = asks_once config events are;
      leaves = leaves_rightly_each config events are;
      lines = begins_only_as_asked config events are fit each;
      records = records_stand_each config events are each;
      disks = stands_on_disks config events each;
      one_home = keeps_one_home_each config events are each;
      serials = leaves_serials config events are fit each;
    }

-- THE HEADLINE
pub one_server : (config : Config) (events : List Event) → AreNodes config.nodes → IsDate config.date → NumbersFitAll config (steps_of_run config events)
    → IsOneServer config events
one_server config events are dated fit = one_mail_server config events are dated fit (law_of_run config (steps_of_run config events) are fit)

-- of events whose counts have room
pub one_server_by_room : (config : Config) (events : List Event) → AreNodes config.nodes → IsDate config.date → HasCountRoom events → IsOneServer config events
one_server_by_room config events are dated room =
    one_server config events are dated (numbers_fit config (layout_of config) (start config) events room.conns room.bytes)
