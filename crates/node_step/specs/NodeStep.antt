-- One step of a node: what an input makes of its state, what is written to its disk, and what it lets out then.
use Rattle.std.specs.Prelude.{ℕ, List, [], Option, None, Some}
use Rattle.std.specs.Option.{option_map}
use Rattle.back_node.specs.declared.node.BackNode.{BackNode}
use Rattle.back_node.specs.Acted.{BackActed}
use Rattle.back_node.specs.Takes.{node_takes}
use Rattle.front_core.specs.declared.front.Front.{Front}
use Rattle.front_core.specs.Front.{Stepped, connect, bytes_in, hang, deliver}
use Rattle.master_core.specs.declared.master.Master.{Master}
use Rattle.master_core.specs.declared.sender.Sender.TheVariants.{Outside}
use Rattle.master_core.specs.Linked.{node_entry, node_says}
use Rattle.master_core.specs.Outside.{Stepped as Served, connect as outside_connects, bytes_in as outside_says}
use Rattle.master_core.specs.Streams.{without}
use Rattle.node_record.specs.BackendEntries.{backend_entry}
use Rattle.node_record.specs.MasterEntries.{master_entry}
use Rattle.node_step.specs.declared.input.NodeInput.{NodeInput}
use Rattle.node_step.specs.declared.input.NodeInput.TheVariants.{Opened, Piece, Hung, From}
use Rattle.link_msg.specs.declared.message.LinkMsg.{LinkMsg}
use Rattle.link_msg.specs.declared.out.Out.{Out}
use Rattle.node_step.specs.declared.node.NodeState.{NodeState}
use Rattle.node_step.specs.declared.node.NodeState.TheVariants as node

-- the state after a step, the bytes of the entry that it writes, if it writes one, and what goes out once that is written
pub record Acted : Type 0 where
  pub state : NodeState
  pub entry : Option (List ℕ)
  pub outs : List Out

-- nothing happens
abbrev pub idle : NodeState → Acted
idle state = record { state = state; entry = None; outs = [] }

abbrev pub front_acted : Stepped → Acted
front_acted stepped = record { state = node.Front stepped.front; entry = None; outs = stepped.outs }

-- a frontend serves its clients, and takes the answers of homes; it has no disk
unfoldable pub front_takes : Front → NodeInput → Acted
front_takes front (Opened conn) = front_acted (connect front conn)
front_takes front (Piece conn bytes) = front_acted (bytes_in front conn bytes)
front_takes front (Hung conn) = idle (node.Front (hang front conn))
front_takes front (From name message) = front_acted (deliver front name message)

abbrev pub back_acted : BackActed → Acted
back_acted next = record { state = node.Back next.state; entry = option_map backend_entry.text next.entry; outs = next.outs }

-- a backend has no clients
unfoldable pub back_takes : BackNode → NodeInput → Acted
back_takes home (Opened conn) = idle (node.Back home)
back_takes home (Piece conn bytes) = idle (node.Back home)
back_takes home (Hung conn) = idle (node.Back home)
back_takes home (From name message) = back_acted (node_takes home name message)

-- a client from outside changes no record
abbrev pub master_acted : Served → Acted
master_acted served = record { state = node.Master served.master; entry = None; outs = served.outs }

-- a line of a node may
abbrev pub master_hears : Master → List ℕ → LinkMsg → Acted
master_hears master name message =
    let said = node_says master name message in
    record { state = node.Master said.master; entry = option_map master_entry.text (node_entry master name message); outs = said.outs }

-- the master serves clients from outside and the other nodes (RFC 3656)
unfoldable pub master_takes : Master → NodeInput → Acted
master_takes master (Opened conn) = master_acted (outside_connects master conn)
master_takes master (Piece conn bytes) = master_acted (outside_says master conn bytes)
master_takes master (Hung conn) = idle (node.Master (without master (Outside conn)))
master_takes master (From name message) = master_hears master name message

unfoldable pub takes : NodeState → NodeInput → Acted
takes (node.Front front) input = front_takes front input
takes (node.Back home) input = back_takes home input
takes (node.Master master) input = master_takes master input

-- the frontend, the backend, the master that a node is
unfoldable pub as_front : Option NodeState → Option Front
as_front (Some (node.Front front)) = Some front
as_front (Some (node.Back home)) = None
as_front (Some (node.Master master)) = None
as_front None = None

unfoldable pub as_back : Option NodeState → Option BackNode
as_back (Some (node.Front front)) = None
as_back (Some (node.Back home)) = Some home
as_back (Some (node.Master master)) = None
as_back None = None

unfoldable pub as_master : Option NodeState → Option Master
as_master (Some (node.Front front)) = None
as_master (Some (node.Back home)) = None
as_master (Some (node.Master master)) = Some master
as_master None = None
