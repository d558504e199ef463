-- What a message of a node does at the master.
use Rattle.std.specs.Prelude.{ℕ, nat_eq, Bool, true, false, List, [], Option, None}
use Rattle.std.specs.List.{list_any}
use Rattle.std.specs.Cmp.Lexicographic.{pointwise}
use Rattle.link_msg.specs.declared.message.LinkMsg.{LinkMsg}
use Rattle.link_msg.specs.declared.message.LinkMsg.TheVariants.{End, Line}
use Rattle.node_record.specs.declared.master.MasterRecord.{MasterRecord}
use Rattle.master_core.specs.declared.master.Master.{Master}
use Rattle.master_core.specs.declared.sender.Sender.{Sender}
use Rattle.master_core.specs.declared.sender.Sender.TheVariants.{Backend, Frontend}
use Rattle.master_core.specs.Outside.{Stepped, still}
use Rattle.master_core.specs.Step.{Planned, line_step}
use Rattle.master_core.specs.Streams.{without}

abbrev pub sender_by : Bool → List ℕ → Sender
sender_by true node = Backend node
sender_by false node = Frontend node

-- who a node of this name is
abbrev pub sender_of : Master → List ℕ → Sender
sender_of master node = sender_by (list_any (pointwise nat_eq node) master.backends) node

abbrev pub let_out : Planned → Stepped
let_out planned = record { master = planned.master; outs = planned.outs }

-- a line is taken; where the link ends, so does the node's stream
unfoldable pub node_says : Master → List ℕ → LinkMsg → Stepped
node_says master node (Line bytes) = let_out (line_step master (sender_of master node) bytes)
node_says master node End = record { master = without master (sender_of master node); outs = [] }
node_says master node message = still master

-- the entry of the master's disk that it makes: that of a line
abbrev pub node_entry : Master → List ℕ → LinkMsg → Option MasterRecord
node_entry master node (Line bytes) = (line_step master (sender_of master node) bytes).entry
node_entry master node message = None
