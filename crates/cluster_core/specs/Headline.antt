-- What holds of a run of the cluster.
pub mod Outside
pub mod Serials
pub mod Refusals
pub mod OpenAt
pub mod HomeLaw
pub mod Homes
pub mod Routing
pub mod WaitedFor
pub mod OneStore
pub mod Closed
pub mod OneNode
pub mod FlowLaw
pub mod AtRest
pub mod Replicas
pub mod Points
pub mod Backends
pub mod Records
pub mod Disks
pub mod Asks
pub mod AsksOnce
pub mod Lines
pub mod Links
pub mod Lost
use Rattle.std.specs.Prelude.{◌≡◌, true, List}
use Rattle.mur_config.specs.declared.config.Config.{Config}
use Rattle.mur_config.specs.Nodes.{links_of}
use Rattle.schedule_text.specs.declared.event.Event.{Event}
use Rattle.cluster_core.specs.Flow.{run_of, run_steps, steps_of_run}
use Rattle.cluster_core.specs.Headline.Asks.{AsksByRecords}
use Rattle.cluster_core.specs.Headline.AsksOnce.{AsksOnceEach}
use Rattle.cluster_core.specs.Headline.Closed.{GivesNoMore}
use Rattle.cluster_core.specs.Headline.Disks.{StandsOnDisks}
use Rattle.cluster_core.specs.Headline.FlowLaw.{AreStepsOfAll}
use Rattle.cluster_core.specs.Headline.HomeLaw.{KeepsOneHomeEach}
use Rattle.cluster_core.specs.Headline.Lines.{BeginsOnlyAsAsked}
use Rattle.cluster_core.specs.Headline.Links.{LinksHoldEach}
use Rattle.cluster_core.specs.Headline.Lost.{LeavesRightlyEach}
use Rattle.cluster_core.specs.Headline.OneNode.{GoesOverLinks, OneNodeWorksEach, ServesItsOwnEach}
use Rattle.cluster_core.specs.Headline.OneStore.{IsToldByOneStore}
use Rattle.cluster_core.specs.Headline.Outside.{ServesGuests, is_master}
use Rattle.cluster_core.specs.Headline.Records.{RecordsStandAtBackends}
use Rattle.cluster_core.specs.Headline.Replicas.{FollowTheTable}
use Rattle.cluster_core.specs.Headline.Serials.{LeavesSerials}
use Rattle.cluster_core.specs.World.{layout_of, start}

-- What the mail clients were given is what one mailbox store replies to the printed history, one command at a time, in each session's order; in each single
-- step one node works, for its own clients alone, and sends only over the links that it has, or a link breaks or comes up and no node works; a client that
-- has closed its connection is given nothing more; a client at the master is given the replies to its lines of MUPDATE and, once it asked for that, each
-- change of the table; the replicas of the frontends follow the master's table, as long as their links with it stand, and by its own each asks the server of
-- a mailbox, or for a new one that of the nearest name above, once and in the very step in which the command comes to wait for its answer, and the master
-- before that only where there is no record, the server can't serve the mailbox at present, or a LIST needs all names; a backend reserves a name only for a
-- CREATE that it was asked for, and deactivates a mailbox only for a DELETE, once for each ask; each record of the master's table is at a backend, in its
-- partition; that table, and the mailboxes of a backend, are what the entries of their disks make; a mailbox has at most one writable home; a command is
-- refused for a move only where its name is reserved; and UIDVALIDITYs never run out where clients send fewer than 2^32 bytes.
--
-- Links that break: each of a frontend with a backend or the master, or of two backends, may break, and then what is sent on it is lost. To a client that
-- means two things. A command that needs a node that isn't reached is refused, also one that waits for the master's OK as that link ends; that is a point of
-- the history like any other: the store does nothing for it. And a command that waits as the link to its server ends may have been carried out or not: its
-- client is given a BYE in place of its reply, and nothing more, and what the store did for it stands in the history as lost. Before a link has broken
-- nothing of this happens; no command is left without a reply but so, or as its client closes the connection; and while one waits, its frontend has the link
-- to its server as up.
pub record IsOneServer (config : Config) (events : List Event) : Type 0 where
  -- the run is that of its single steps, and those are its events, but of a flow as many deliveries as it may make, or until none is left
  pub by_steps : run_of config events ≡ run_steps (start config) (steps_of_run config events)
  pub its_steps : AreStepsOfAll (links_of config.nodes) (start config) events (steps_of_run config events)
  pub one_node : OneNodeWorksEach (start config) (steps_of_run config events)
  pub own_clients : ServesItsOwnEach (start config) (steps_of_run config events)
  pub over_links : GoesOverLinks config events
  pub links : LinksHoldEach config events
  pub one_store : IsToldByOneStore config events
  pub closed : GivesNoMore config events
  pub guests : ServesGuests config events
  -- the master whose table is printed is the configuration's
  pub master : is_master config (layout_of config).master ≡ true
  pub replicas : FollowTheTable config events
  pub asks : AsksByRecords config events
  pub asks_once : AsksOnceEach config events
  pub leaves : LeavesRightlyEach config events
  pub lines : BeginsOnlyAsAsked config events
  pub records : RecordsStandAtBackends config events
  pub disks : StandsOnDisks config events
  pub one_home : KeepsOneHomeEach config events
  pub serials : LeavesSerials config events
