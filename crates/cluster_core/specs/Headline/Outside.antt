-- What a client that is connected at the master is given: its dialog with the master, each line by the table of its step, and from its
-- UPDATE on each change of the table (RFC 3656, 4.11). What such a client does changes no table.
use Rattle.std.specs.Prelude.{◌≡◌, ℕ, Bool, true, false, is_some, if◌then◌else◌, List, [], ◌∷◌, ◌++◌, Option, None, Some, ⊤}
use Rattle.cluster_core.specs.World.{master_of, client_at, master_at, start, steps_by}
use Rattle.cluster_core.specs.declared.world.Client.{Client}
use Rattle.guest_links.specs.Guests.{Guest, Watch}
use Rattle.guest_links.specs.Happenings.{Happening, change_of, connects, leaves, says, seen_after, sends}
use Rattle.guest_links.specs.Reading.{HasTheTable}
use Rattle.link_msg.specs.declared.message.LinkMsg.{LinkMsg}
use Rattle.link_queue.specs.Links.{on_link}
use Rattle.master_core.specs.declared.master.Master.{Master}
use Rattle.mur_config.specs.declared.config.Config.{Config}
use Rattle.mur_config.specs.declared.node.Kind.TheVariants.{Master as master_kind}
use Rattle.mur_config.specs.declared.node.Node.{Node}
use Rattle.mur_config.specs.Nodes.{is_node_of_kind, node_named}
use Rattle.node_record.specs.Table.{MailboxTable, empty_table}
use Rattle.schedule_text.specs.declared.event.Event.{Event}
use Rattle.schedule_text.specs.declared.event.Event.TheVariants.{Open, Data, Hang, Deliver}
use Rattle.cluster_core.specs.declared.world.World.{World}
use Rattle.cluster_core.specs.Flow.{run_steps, steps_of_run}
use Rattle.cluster_core.specs.Shown.{given_to}

abbrev pub is_master_node : Option Node → Bool
is_master_node None = false
is_master_node (Some node) = is_node_of_kind master_kind node

-- whether the configuration has the master of this name
abbrev pub is_master : Config → List ℕ → Bool
is_master config name = is_master_node (node_named name config.nodes)

abbrev pub table_by : Option Master → MailboxTable
table_by None = empty_table
table_by (Some master) = master.table

-- the table of the master, which is this node
abbrev pub table_at : World → List ℕ → MailboxTable
table_at world node = table_by (master_at world node)

-- what comes to a node happens at the master, if the node is the master
abbrev pub at_master : Config → List ℕ → Happening → Option Happening
at_master config node happening = if is_master config node then Some happening else None

-- a client connects to a node, unless its connection was opened before
abbrev pub by_opening : Config → List ℕ → ℕ → Option Client → Option Happening
by_opening config node conn None = at_master config node (connects conn)
by_opening config node conn (Some there) = None

-- a client sends bytes to its node, or closes the connection
abbrev pub by_client : Config → Option Client → Happening → Option Happening
by_client config None happening = None
by_client config (Some client) happening = at_master config client.at happening

-- the first message from one node to another comes, if there is one
abbrev pub by_delivery : Config → List ℕ → List ℕ → List LinkMsg → Option Happening
by_delivery config from to [] = None
by_delivery config from to (message ∷ rest) = at_master config to (sends from message)

-- what happens at the master in a step of the world, if anything does
unfoldable pub happening_of : Config → World → Event → Option Happening
happening_of config world (Open node conn) = by_opening config node conn (client_at world conn)
happening_of config world (Data conn bytes) = by_client config (client_at world conn) (says conn bytes)
happening_of config world (Hang conn) = by_client config (client_at world conn) (leaves conn)
happening_of config world (Deliver from to) = by_delivery config from to (on_link world.links from to)
happening_of config world event = None

-- what that is to the client of a connection, by the master of then
abbrev pub seen_by : ℕ → Option Guest → Option Master → Option Happening → Option Guest
seen_by conn seen master None = seen
seen_by conn seen None (Some happening) = seen
seen_by conn seen (Some master) (Some happening) = seen_after master.me master.table (change_of master happening) conn seen happening

-- the client of a connection as the master has it: nobody, until its connection is opened at the master
unfoldable pub guest_after : Config → ℕ → World → Option Guest → Event → Option Guest
guest_after config conn world seen event = seen_by conn seen (master_at world (master_of config)) (happening_of config world event)

-- step by step, each by the master before it
unfoldable pub guest_from : Config → ℕ → World → Option Guest → List Event → Option Guest
guest_from config conn world seen [] = seen
guest_from config conn world seen (event ∷ events) = guest_from config conn (steps_by world event) (guest_after config conn world seen event) events

abbrev pub guest_of : Config → ℕ → List Event → Option Guest
guest_of config conn steps = guest_from config conn (start config) None steps

-- its connection was opened at the master
abbrev pub is_guest : Option Guest → Bool
is_guest seen = is_some seen

-- what its client was given is what its dialog gives
abbrev pub IsGivenItsDialog : World → ℕ → Option Guest → Type 0
IsGivenItsDialog world conn None = ⊤
IsGivenItsDialog world conn (Some guest) = given_to world conn ≡ guest.dialog.given

-- while the dialog of a client that has sent UPDATE goes on, what it was given since makes the records of the table
abbrev pub HasTheTableOfNow : Config → World → ℕ → Option Guest → Type 0
HasTheTableOfNow config world conn None = ⊤
HasTheTableOfNow config world conn (Some guest) = guest.dialog.ended ≡ false → (watch : Watch) → guest.watch ≡ Some watch
    → HasTheTable (table_at world (master_of config)) watch (given_to world conn)

abbrev pub is_of_client : Event → Bool
is_of_client (Open node conn) = true
is_of_client (Data conn bytes) = true
is_of_client (Hang conn) = true
is_of_client event = false

-- so it is after each step of a run; and no step in which a client acts changes a table
pub record ServesGuests (config : Config) (events : List Event) : Type 0 where
  pub given : (conn : ℕ) (before later : List Event) → steps_of_run config events ≡ before ++ later
      → IsGivenItsDialog (run_steps (start config) before) conn (guest_of config conn before)
  pub watchers : (conn : ℕ) (before later : List Event) → steps_of_run config events ≡ before ++ later
      → HasTheTableOfNow config (run_steps (start config) before) conn (guest_of config conn before)
  pub tables : (before : List Event) (event : Event) (later : List Event) → steps_of_run config events ≡ before ++ event ∷ later
      → is_of_client event ≡ true → (node : List ℕ)
      → table_at (run_steps (start config) (before ++ event ∷ [])) node ≡ table_at (run_steps (start config) before) node
