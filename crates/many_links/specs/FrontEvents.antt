-- It holds whatever a frontend lets out or takes, since no link between the master and a backend changes.
use Rattle.std.specs.Prelude.{◌≡◌, ◌≢◌, ◌⊎◌, ℕ, List, None, Some}
use Rattle.link_msg.specs.declared.out.Out.{Out}
use Rattle.link_queue.specs.Links.{on_link}
use Rattle.mur_model.specs.declared.store.Store.{Store}
use Rattle.back_node.specs.declared.node.BackNode.{BackNode}
use Rattle.name_links.specs.Serials.{Given}
use Rattle.many_links.specs.Murder.{Murder, taken, after_front}
use Rattle.many_links.specs.ManyHold.{ManyHold}

-- a node that is neither the master nor a backend
abbrev pub IsFront : Murder → List ℕ → Type 0
IsFront murder front = (murder.nodes front ≡ None) × (front ≢ murder.master.me)

-- it lets outputs out
abbrev pub OutsKeepMany : Type 0
OutsKeepMany = (murder : Murder) (given : Given) (store : Store) (front : List ℕ) (outs : List Out) → ManyHold murder given store → IsFront murder front
    → ManyHold (after_front murder murder.links front outs) given store

-- a message between it and any node is taken off their link
abbrev pub PassingKeepsMany : Type 0
PassingKeepsMany = (murder : Murder) (given : Given) (store : Store) (from to : List ℕ) → ManyHold murder given store → IsFront murder from ⊎ IsFront murder to
    → ManyHold (record { master = murder.master; nodes = murder.nodes; links = taken murder from to }) given store

-- two that have the same master, the same backends, and the same on the links between these
pub record AreAlike (one other : Murder) : Type 0 where
  pub master : other.master ≡ one.master
  pub nodes : (name : List ℕ) → other.nodes name ≡ one.nodes name
  pub up : (name : List ℕ) (node : BackNode) → one.nodes name ≡ Some node
      → on_link other.links name one.master.me ≡ on_link one.links name one.master.me
  pub down : (name : List ℕ) (node : BackNode) → one.nodes name ≡ Some node
      → on_link other.links one.master.me name ≡ on_link one.links one.master.me name

abbrev pub AlikeHold : Type 0
AlikeHold = (one other : Murder) (given : Given) (store : Store) → AreAlike one other → ManyHold one given store → ManyHold other given store
