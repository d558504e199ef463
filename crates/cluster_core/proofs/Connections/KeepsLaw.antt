-- THE LAW THAT EVERY STEP KEEPS: of the nodes, the names, the feeds, and of each connection by what was heard of its client.
use Rattle.std.specs.Prelude.{◌≡◌, ◌≢◌, ℕ, nat_eq, true, false, List, [], ◌∷◌, ◌++◌, ◌≤◌, length, take, None, Some, is_some}
use Rattle.std.specs.List.{list_any, AllByRecursion}
use Rattle.std.specs.Option.{IsSome}
use Rattle.std.specs.Cmp.Lexicographic.{pointwise}
use Rattle.feed_core.specs.Feed.{Recs}
use Rattle.feed_core.specs.declared.rec.Rec.{Rec}
use Rattle.feed_core.specs.declared.replica.Replica.{Replica}
use Rattle.feed_core.specs.Routes.{server_at, server_in}
use Rattle.feed_links.specs.Lines.{HasStreams}
use Rattle.feed_links.specs.OneFeed.{IsFed}
use Rattle.feed_links.specs.Replicas.{hears}
use Rattle.feed_links.specs.Spelled.{CanBeTold}
use Rattle.front_core.specs.Ending.{EndsOnlyLast}
use Rattle.front_core.proofs.OneConnection.Readings.{inputs_in, reading_of}
use Rattle.front_core.specs.declared.connection.Connection.{Connection}
use Rattle.front_core.specs.declared.connection.Stage.TheVariants.{Ended}
use Rattle.front_core.specs.declared.front.Front.{Front}
use Rattle.front_core.specs.Front.{awaited, connection_at}
use Rattle.front_core.specs.Ups.{is_up}
use Rattle.imap_talk.specs.Heard.{Heard, nobody, elsewhere, client, frames_heard, has_closed}
use Rattle.imap_talk.specs.Inputs.{requests_in}
use Rattle.imap_talk.specs.declared.inputs.Input.{Input}
use Rattle.imap_talk.proofs.RequestsOf.{requests_of}
use Rattle.imap_talk.proofs.TranscriptGrows.{AreAnswered}
use Rattle.imap_talk.specs.Transcript.{Stop}
use Rattle.imap_talk.specs.Transcript.Stop.{is_lost, silent}
use Rattle.imap_talk.specs.declared.inputs.Input.TheVariants.{Asks}
use Rattle.imap_types.specs.declared.request.Answer.{Answer}
use Rattle.imap_types.specs.declared.request.Request.{Request}
use Rattle.imap_wire.specs.Frames.{begun}
use Rattle.link_msg.specs.declared.counts.Counts.TheVariants.{IfAnswered}
use Rattle.link_msg.specs.declared.message.LinkMsg.{LinkMsg}
use Rattle.link_queue.specs.Broken.{is_broken}
use Rattle.link_queue.specs.Links.{on_link}
use Rattle.many_links.specs.ManyHold.{ManyHold}
use Rattle.many_links.specs.Murder.{Murder, Nodes}
use Rattle.mark_history.specs.Marked.{Tale, last_of, talk_told}
use Rattle.mark_history.specs.declared.mark.MarkKind.TheVariants.{Home}
use Rattle.master_core.specs.declared.master.Master.{Master}
use Rattle.master_core.specs.Whose.{TellNobody}
use Rattle.mur_config.specs.declared.config.Config.{Config}
use Rattle.mur_model.specs.declared.session.Sess.TheVariants.{Off}
use Rattle.mur_model.specs.History.{GoesOn, TalkGoesOn}
use Rattle.name_links.specs.Serials.{Given}
use Rattle.node_record.specs.Table.{MailboxTable, record_at}
use Rattle.node_record.specs.declared.table.Record.{Record}
use Rattle.cluster_core.specs.declared.world.World.{World}
use Rattle.cluster_core.specs.Heard.{is_frontend}
use Rattle.cluster_core.specs.World.{backends_of, home_of, master_of, setting_of, client_at, front_at, home_at, master_at}
use Rattle.cluster_core.proofs.Commands.AllReached.{AreMarkedSo}
use Rattle.cluster_core.proofs.Commands.Place.{Place}
use Rattle.cluster_core.proofs.Commands.Standing.{Fixed, HasBegunSo, IsLeft, next_id}
use Rattle.cluster_core.proofs.Connections.ConnectionLaw.{IsInNoneOf, IsInPlaceOf, IsMarkedAt, IsStanding, SaysOn, client_till}

-- ---- connections

-- a connection that no frontend has
pub record IsUntold (fixed : Fixed) (conn : ℕ) (world : World) (story : Tale) : Type 0 where
  pub told : story.told conn ≡ []
  pub said : story.talk.answers conn ≡ []
  pub session : story.course.sessions conn ≡ Off
  pub nothing : IsInNoneOf fixed world conn

-- a connection at its frontend
pub record IsAt (world : World) (conn : ℕ) (node : List ℕ) (front : Front) (connection : Connection) : Type 0 where
  pub at : front_at world node ≡ Some front
  pub has : connection_at front conn ≡ Some connection

-- a connection that has ended, and whose client was told so much up to where it stopped
pub record IsGone (fixed : Fixed) (node : List ℕ) (replica : Replica) (conn : ℕ) (inputs : List Input) (stop : Stop) (connection : Connection) (world : World)
    (story : Tale) : Type 0 where
  pub stage_is : connection.stage ≡ Ended
  pub count : connection.answered ≡ length (story.told conn)
  pub lasts : EndsOnlyLast (story.told conn)
  pub client : client_at world conn ≡ Some (client_till stop node inputs (story.told conn))
  pub here : Place
  pub placed : IsInPlaceOf fixed world node replica (next_id conn (story.told conn)) here
  pub marked : IsMarkedAt story.talk.moving world.marks (next_id conn (story.told conn)) here
  pub left : IsLeft fixed node conn (requests_in inputs) (story.told conn) (story.talk.answers conn) (story.course.sessions conn) here
  -- a command is lost only once a link has broken
  pub cut : stop ≡ is_lost → world.broken ≢ []

-- a request has no answer, and all before it have theirs
pub record IsUnanswered (inputs : List Input) (told : List Answer) : Type 0 where
  pub passed : List Input
  pub request : Request
  pub more : List Input
  pub parts : inputs ≡ passed ++ Asks request ∷ more
  pub answered : AreAnswered passed told

-- by where what its client is given stops, and by what was heard of it
pub data ConnectionIs (fixed : Fixed) (conn : ℕ) (world : World) (story : Tale) : Stop → Heard → Type 0 where
  is_nobody : client_at world conn ≡ None → ((node : List ℕ) (front : Front) → front_at world node ≡ Some front → connection_at front conn ≡ None)
      → IsUntold fixed conn world story → ConnectionIs fixed conn world story silent nobody
  is_elsewhere : (node given : List ℕ) → client_at world conn ≡ Some (record { at = node; given = given }) → front_at world node ≡ None
      → IsUntold fixed conn world story → ConnectionIs fixed conn world story silent elsewhere
  is_open : (bytes node : List ℕ) (front : Front) (connection : Connection) → IsAt world conn node front connection
      → HasBegunSo connection (reading_of fixed.setting bytes)
      → IsStanding fixed node front.replica conn (inputs_in fixed.setting bytes) (begun bytes) connection world story
      → ConnectionIs fixed conn world story silent (client bytes false)
  -- its command was lost, as the link to the server that it had asked ended
  is_cut_off : (bytes node : List ℕ) (front : Front) (connection : Connection) → IsAt world conn node front connection
      → IsGone fixed node front.replica conn (inputs_in fixed.setting bytes) is_lost connection world story
      → IsUnanswered (inputs_in fixed.setting bytes) (story.told conn) → ConnectionIs fixed conn world story is_lost (client bytes false)
  is_closed : (stop : Stop) (bytes node : List ℕ) (front : Front) (connection : Connection) → IsAt world conn node front connection
      → IsGone fixed node front.replica conn (inputs_in fixed.setting bytes) stop connection world story
      → ConnectionIs fixed conn world story stop (client bytes true)

-- ---- nodes

abbrev pub fixed_of : Config → Fixed
fixed_of config = record {
  setting = setting_of config;
  master = master_of config;
  first = home_of config;
}

-- the master, the backends and the links of a world
abbrev pub murder_of : World → Master → Murder
murder_of world master = record { master = master; nodes = home_at world; links = world.links }

-- a frontend knows the master, and asks the first backend for a new mailbox without a name above it; it is neither the master nor a backend
pub record IsFrontOf (config : Config) (world : World) (master : Master) (node : List ℕ) (front : Front) : Type 0 where
  pub master_is : front.master ≡ master_of config
  pub first_is : front.first ≡ home_of config
  pub setting_is : front.setting ≡ setting_of config
  pub no_master : node ≢ master_of config
  pub no_home : home_at world node ≡ None
  pub no_backend : list_any (pointwise nat_eq node) master.backends ≡ false

-- the nodes of a run stay what they are
pub record AreNodesOf (config : Config) (world : World) (master : Master) : Type 0 where
  pub me : master.me ≡ master_of config
  pub is_there : master_at world (master_of config) ≡ Some master
  pub only : (node : List ℕ) (other : Master) → master_at world node ≡ Some other → node ≡ master_of config
  pub fronts : (node : List ℕ) (front : Front) → front_at world node ≡ Some front → IsFrontOf config world master node front
  pub frontends : (node : List ℕ) → is_some (front_at world node) ≡ is_frontend config node
  pub homes : (node : List ℕ) → is_some (home_at world node) ≡ list_any (pointwise nat_eq node) master.backends
  pub backends : master.backends ≡ backends_of config.nodes
  pub first_there : list_any (pointwise nat_eq (home_of config)) master.backends ≡ true

-- ---- whom a frontend may ask: each record that it has or is told names a backend

abbrev pub NamesBackends : Nodes → Recs → Type 0
NamesBackends nodes recs = (name server : List ℕ) → server_at recs name ≡ Some server → IsSome (nodes server)

-- each record that stands there
abbrev pub AreAtBackends : Nodes → Recs → Type 0
AreAtBackends nodes recs = AllByRecursion (λ (entry : List ℕ × Rec). IsSome (nodes (server_in entry.1))) recs

-- whatever replica takes the message
abbrev pub TellsBackends : Nodes → LinkMsg → Type 0
TellsBackends nodes message = (replica : Replica) → AreAtBackends nodes replica.records → AreAtBackends nodes (hears replica message).records

abbrev pub TableNamesBackends : Nodes → MailboxTable → Type 0
TableNamesBackends nodes table = (name : List ℕ) (it : Record) → record_at table name ≡ Some it → IsSome (nodes (it.place).server)

abbrev pub AreKeptAtBackends : Nodes → MailboxTable → Type 0
AreKeptAtBackends nodes table = AllByRecursion (λ (entry : List ℕ × Record). IsSome (nodes ((entry.1).place).server)) table.records

pub record KnowsBackends (nodes : Nodes) (down : List LinkMsg) (replica : Replica) : Type 0 where
  pub has : NamesBackends nodes replica.records
  pub each : AreAtBackends nodes replica.records
  pub told : AllByRecursion (TellsBackends nodes) down

-- ---- feeds

-- a frontend's replica follows the master's table, as long as their link stands
pub record IsFedAt (config : Config) (world : World) (master : Master) (node : List ℕ) (front : Front) : Type 0 where
  pub fed : IsFed master node (is_broken world.broken (master_of config) node) (is_up front.ups (master_of config)) (on_link world.links node (master_of config))
      (on_link world.links (master_of config) node) front.replica
  pub knows : KnowsBackends (home_at world) (on_link world.links (master_of config) node) front.replica

pub record FeedsHold (config : Config) (world : World) (master : Master) : Type 0 where
  pub each : (node : List ℕ) (front : Front) → front_at world node ≡ Some front → IsFedAt config world master node front
  pub streams : HasStreams master
  pub nobodys : TellNobody master.streams
  pub spelled : CanBeTold master.table
  pub backends : TableNamesBackends (home_at world) master.table
  pub kept : AreKeptAtBackends (home_at world) master.table

-- ---- the law

pub record KeepsLaw (config : Config) (heard : ℕ → Heard) (world : World) : Type 0 where
  pub master : Master
  pub nodes : AreNodesOf config world master
  pub story : Tale
  -- where what each client is given stops
  pub stops : ℕ → Stop
  pub given : Given
  pub many : ManyHold (murder_of world master) given story.course.store
  pub feeds : FeedsHold config world master
  pub is_told : AreMarkedSo (setting_of config) world.broken world.steps world.marks story
  pub requests : (conn : ℕ) → story.talk.requests conn ≡ requests_of (setting_of config) (frames_heard (heard conn))
  pub connections : (conn : ℕ) → ConnectionIs (fixed_of config) conn world story (stops conn) (heard conn)

-- so it does behind a world with this tale, whatever step was made but a cut; the one store took no reply back, and a client that has closed its connection was told no more
pub record KeepsOn (config : Config) (before : Tale) (stopped : ℕ → Stop) (heard : ℕ → Heard) (world : World) : Type 0 where
  pub law : KeepsLaw config heard world
  pub more : TalkGoesOn (talk_told before) (talk_told law.story)
  pub grows : SaysOn before law.story
  pub closed : (conn : ℕ) → has_closed (heard conn) ≡ true → (law.story.told conn ≡ before.told conn) × (law.stops conn ≡ stopped conn)

-- so it does behind any step, where a cut may have taken replies back. Of a connection whose reply was taken back the client was told no more, and nothing of its
-- command is on its way.
pub record IsTakenBack (fixed : Fixed) (before : Tale) (world : World) (story : Tale) (conn : ℕ) : Type 0 where
  pub told : story.told conn ≡ before.told conn
  pub said : story.talk.answers conn ≡ story.told conn
  pub serials : story.talk.serials conn ≡ take (length (story.told conn)) (before.talk.serials conn)
  pub seen : last_of (next_id conn (before.told conn)) world.marks ≡ Some (Home IfAnswered)
  pub node : List ℕ
  pub front : Front
  pub connection : Connection
  pub at : IsAt world conn node front connection
  pub waits : awaited fixed.master (Some connection) fixed.master ≡ true

-- one list stands in front of another
abbrev pub ListGoesOn : {T : Type 0} → List T → List T → Type 0
ListGoesOn {T} list longer = (more : List T) × (longer ≡ list ++ more)

pub data SaidOn (fixed : Fixed) (before : Tale) (world : World) (story : Tale) (conn : ℕ) : Type 0 where
  on : ListGoesOn (before.talk.serials conn) (story.talk.serials conn) → length (before.talk.answers conn) ≤ length (story.talk.answers conn)
      → SaidOn fixed before world story conn
  back : IsTakenBack fixed before world story conn → SaidOn fixed before world story conn

pub record KeepsBehind (config : Config) (before : Tale) (stopped : ℕ → Stop) (heard : ℕ → Heard) (world : World) : Type 0 where
  pub law : KeepsLaw config heard world
  pub requests : GoesOn before.talk.requests law.story.talk.requests
  pub answers : GoesOn before.told law.story.told
  pub moving : law.story.talk.moving ≡ before.talk.moving
  pub said : (conn : ℕ) → SaidOn (fixed_of config) before world law.story conn
  pub closed : (conn : ℕ) → has_closed (heard conn) ≡ true → (law.story.told conn ≡ before.told conn) × (law.stops conn ≡ stopped conn)
