-- In no step of a backend or the master for which the store does nothing is a command of a client carried out.
use Rattle.std.specs.Prelude.{◌≡◌, ℕ, nat_eq, false, List, [], ◌∷◌, Some}
use Rattle.std.specs.List.{list_any}
use Rattle.std.specs.Cmp.Lexicographic.{pointwise}
use Rattle.link_msg.specs.declared.message.LinkMsg.{LinkMsg}
use Rattle.link_queue.specs.Links.{on_link}
use Rattle.master_core.specs.declared.master.Master.{Master}
use Rattle.master_core.specs.Linked.{node_says}
use Rattle.master_core.specs.Outside.{bytes_in, connect}
use Rattle.mur_model.specs.declared.store.Store.{Store}
use Rattle.back_node.specs.declared.node.BackNode.{BackNode}
use Rattle.back_node.specs.Takes.{node_takes}
use Rattle.name_links.specs.Serials.{Given}
use Rattle.many_links.specs.Murder.{Murder}
use Rattle.many_links.specs.ManyHold.{ManyHold}
use Rattle.many_links.specs.Marks.{marks_in, CarryNoneOut}
use Rattle.many_links.specs.HomeEvents.{is_served}

-- a backend takes anything but an ask for messages of a mailbox that is open there
abbrev pub OthersCarryNone : Type 0
OthersCarryNone = (node : BackNode) (from : List ℕ) (message : LinkMsg) → is_served node message ≡ false → CarryNoneOut (node_takes node from message).outs

-- and the first message of the master is none
abbrev pub MasterAsksNothing : Type 0
MasterAsksNothing = (murder : Murder) (given : Given) (store : Store) (name : List ℕ) (node : BackNode) (message : LinkMsg) (rest : List LinkMsg)
    → ManyHold murder given store → murder.nodes name ≡ Some node → on_link murder.links murder.master.me name ≡ message ∷ rest → is_served node message ≡ false

-- the master takes anything of a node that is no backend
abbrev pub FrontendsCarryNone : Type 0
FrontendsCarryNone = (master : Master) (front : List ℕ) (message : LinkMsg) → list_any (pointwise nat_eq front) master.backends ≡ false
    → CarryNoneOut (node_says master front message).outs

-- a client from outside connects or sends bytes
abbrev pub ClientsCarryNone : Type 0
ClientsCarryNone = (master : Master) (conn : ℕ) (bytes : List ℕ)
    → (marks_in (connect master conn).outs ≡ []) × (marks_in (bytes_in master conn bytes).outs ≡ [])
