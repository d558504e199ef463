-- The master, the backends, and the links between all nodes; and what a step of one of them makes of it.
use Rattle.std.specs.Prelude.{ℕ, if◌then◌else◌, List, [], ◌∷◌, Option, None, Some}
use Rattle.std.specs.Ordering.{nat_cmp, is_eq}
use Rattle.std.specs.Cmp.Lexicographic.{slice_cmp}
use Rattle.link_msg.specs.declared.message.LinkMsg.{LinkMsg}
use Rattle.link_msg.specs.declared.out.Out.{Out}
use Rattle.link_msg.specs.declared.out.Out.TheVariants.{Client, Close, Link, Mark, Told}
use Rattle.link_queue.specs.Links.{Links, sent, without_first}
use Rattle.master_core.specs.declared.master.Master.{Master}
use Rattle.master_core.specs.Linked.{node_says}
use Rattle.master_core.specs.Outside.{Stepped}
use Rattle.node_record.specs.Held.{Names}
use Rattle.back_node.specs.declared.node.BackNode.{BackNode}
use Rattle.back_node.specs.Acted.{BackActed}
use Rattle.back_node.specs.Takes.{node_takes}
use Rattle.store_links.specs.Shown.{Homes}

-- the backend of a name, if a backend has it
abbrev pub Nodes : Type 0
Nodes = List ℕ → Option BackNode

-- Frontends are nodes without a state here: only their links are.
pub record Murder : Type 0 where
  pub master : Master
  pub nodes : Nodes
  pub links : Links LinkMsg

-- what a backend has of names, and a node that is none has nothing
abbrev pub held_in : Option BackNode → Names
held_in None = []
held_in (Some node) = node.home.held

abbrev pub homes_of : Nodes → Homes
homes_of nodes b = held_in (nodes b)

-- a backend in another state
abbrev pub with_node : Nodes → List ℕ → BackNode → Nodes
with_node nodes name node other = if is_eq (slice_cmp nat_cmp other name) then Some node else nodes other

-- ---- what a node lets out, put on its links in order

unfoldable pub put_out : List ℕ → Links LinkMsg → Out → Links LinkMsg
put_out from links (Link to message) = sent links from to message
put_out from links (Client conn bytes) = links
put_out from links (Close conn) = links
put_out from links (Mark ask counts) = links
put_out from links (Told ask how) = links

unfoldable pub put_all : List ℕ → Links LinkMsg → List Out → Links LinkMsg
put_all from links [] = links
put_all from links (out ∷ outs) = put_all from (put_out from links out) outs

-- ---- steps

-- a message from one node to another is taken off their link
abbrev pub taken : Murder → List ℕ → List ℕ → Links LinkMsg
taken murder from to = without_first murder.links from to

-- of a backend, the master and a frontend, each with what is left on the links

abbrev pub after_home : Murder → Links LinkMsg → List ℕ → BackActed → Murder
after_home murder links name next = record {
  master = murder.master;
  nodes = with_node murder.nodes name next.state;
  links = put_all name links next.outs;
}

abbrev pub after_master : Murder → Links LinkMsg → Stepped → Murder
after_master murder links next = record { master = next.master; nodes = murder.nodes; links = put_all murder.master.me links next.outs }

abbrev pub after_front : Murder → Links LinkMsg → List ℕ → List Out → Murder
after_front murder links front outs = record { master = murder.master; nodes = murder.nodes; links = put_all front links outs }

-- a backend takes a message of another node
abbrev pub home_takes : Murder → List ℕ → BackNode → List ℕ → LinkMsg → Murder
home_takes murder name node from message = after_home murder (taken murder from name) name (node_takes node from message)

-- the master takes a message of another node
abbrev pub master_takes : Murder → List ℕ → LinkMsg → Murder
master_takes murder from message = after_master murder (taken murder from murder.master.me) (node_says murder.master from message)

-- the master does something that takes no message
abbrev pub master_does : Murder → Stepped → Murder
master_does murder next = after_master murder murder.links next
