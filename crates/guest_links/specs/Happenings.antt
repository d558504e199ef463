-- What happens at the master, and what it is to one client.
use Rattle.std.specs.Prelude.{ℕ, ◌==◌, if◌then◌else◌, List, [], ◌∷◌, ◌++◌, Option, None, Some}
use Rattle.link_msg.specs.declared.message.LinkMsg.{LinkMsg}
use Rattle.link_msg.specs.declared.out.Out.{Out}
use Rattle.master_core.specs.declared.master.Master.{Master}
use Rattle.master_core.specs.declared.sender.Sender.TheVariants.{Outside}
use Rattle.master_core.specs.Linked.{node_entry, node_says}
use Rattle.master_core.specs.Outside.{Stepped, bytes_in, connect}
use Rattle.master_core.specs.Streams.{without}
use Rattle.node_record.specs.declared.master.MasterRecord.{MasterRecord}
use Rattle.node_record.specs.Table.{MailboxTable}
use Rattle.guest_links.specs.Guests.{Guest, arrived, bytes_taken, left, told_change}

-- a client connects, sends bytes, closes its connection; or a node sends a message, or its link comes up or ends
pub data Happening : Type 0 where
  connects : ℕ → Happening
  says : ℕ → List ℕ → Happening
  leaves : ℕ → Happening
  sends : List ℕ → LinkMsg → Happening

-- a client closes its connection
abbrev pub hung_up : Master → ℕ → Stepped
hung_up master conn = record { master = without master (Outside conn); outs = [] }

-- the master's step
unfoldable pub step_of : Master → Happening → Stepped
step_of master (connects conn) = connect master conn
step_of master (says conn bytes) = bytes_in master conn bytes
step_of master (leaves conn) = hung_up master conn
step_of master (sends node message) = node_says master node message

-- the change of the table that it makes: that of a node's line. No other happening makes one
abbrev pub change_of : Master → Happening → Option MasterRecord
change_of master (sends node message) = node_entry master node message
change_of master happening = None

-- what a happening is to the client of a connection, by the table before it and the change of the table

abbrev pub first_seen : List ℕ → ℕ → Happening → Option Guest
first_seen me conn (connects other) = if conn == other then Some (arrived me) else None
first_seen me conn happening = None

abbrev pub guest_after : MailboxTable → Option MasterRecord → ℕ → Guest → Happening → Guest
guest_after table change conn guest (connects other) = guest
guest_after table change conn guest (says other bytes) = if conn == other then bytes_taken table conn guest bytes else guest
guest_after table change conn guest (leaves other) = if conn == other then left guest else guest
guest_after table change conn guest (sends node message) = told_change change guest

-- nothing, until it connects to the master of this name
unfoldable pub seen_after : List ℕ → MailboxTable → Option MasterRecord → ℕ → Option Guest → Happening → Option Guest
seen_after me table change conn None happening = first_seen me conn happening
seen_after me table change conn (Some guest) happening = Some (guest_after table change conn guest happening)

-- one thing after another: the master, all that it let out, and what the client has been told, each by the master of its step

unfoldable pub master_from : Master → List Happening → Master
master_from master [] = master
master_from master (happening ∷ more) = master_from (step_of master happening).master more

unfoldable pub outs_from : Master → List Happening → List Out
outs_from master [] = []
outs_from master (happening ∷ more) = (step_of master happening).outs ++ outs_from (step_of master happening).master more

unfoldable pub seen_from : Master → ℕ → Option Guest → List Happening → Option Guest
seen_from master conn seen [] = seen
seen_from master conn seen (happening ∷ more) =
    seen_from (step_of master happening).master conn (seen_after master.me master.table (change_of master happening) conn seen happening) more
