-- Any events, one after another from a start on, and what the store does in each.
use Rattle.std.specs.Prelude.{◌≡◌, ◌≢◌, ◌⊎◌, ℕ, nat_eq, true, false, List, [], ◌∷◌, ◌++◌, Some}
use Rattle.std.specs.List.{list_any}
use Rattle.std.specs.Cmp.Lexicographic.{pointwise}
use Rattle.link_msg.specs.declared.ask.FrontAsk.{FrontAsk}
use Rattle.link_msg.specs.declared.message.LinkMsg.{LinkMsg}
use Rattle.link_msg.specs.declared.message.LinkMsg.TheVariants.{Up, Ask}
use Rattle.link_msg.specs.declared.out.Out.{Out}
use Rattle.link_queue.specs.Links.{on_link}
use Rattle.master_core.specs.declared.sender.Sender.TheVariants.{Outside}
use Rattle.master_core.specs.Linked.{node_says}
use Rattle.master_core.specs.Outside.{bytes_in, connect, still}
use Rattle.master_core.specs.Streams.{without}
use Rattle.mur_model.specs.declared.store.Store.{Store}
use Rattle.mur_model.specs.Store.{empty_store}
use Rattle.back_node.specs.declared.node.BackNode.{BackNode}
use Rattle.back_node.specs.Takes.{node_takes}
use Rattle.name_links.specs.Serials.{Given}
use Rattle.back_links.specs.BackEvents.{IsFitting}
use Rattle.back_links.specs.MasterEvents.{given_in}
use Rattle.many_links.specs.Murder.{Murder, taken, after_front, home_takes, master_does, master_takes}
use Rattle.many_links.specs.ManyHold.{ManyHold}
use Rattle.many_links.specs.Start.{IsStart}
use Rattle.many_links.specs.HomeEvents.{IsStoreWith, is_served}
use Rattle.many_links.specs.MasterEvents.{StoreTakes}
use Rattle.many_links.specs.FrontEvents.{IsFront}

-- the murder, the UIDVALIDITYs given and the store before an event and after it
pub data Event (murder : Murder) (given : Given) (store : Store) : Murder → Given → Store → Type 0 where
  hears : (name : List ℕ) (node : BackNode) (message : LinkMsg) (rest : List LinkMsg) → murder.nodes name ≡ Some node
      → on_link murder.links murder.master.me name ≡ message ∷ rest
      → Event murder given store (home_takes murder name node murder.master.me message) given store
  asks : (name : List ℕ) (node : BackNode) (from : List ℕ) (message : LinkMsg) → murder.nodes name ≡ Some node → from ≢ murder.master.me → IsFitting message
      → is_served node message ≡ false → Event murder given store (home_takes murder name node from message) given store
  serves : (name : List ℕ) (node : BackNode) (from : List ℕ) (ask : FrontAsk) (later : Store) → murder.nodes name ≡ Some node → from ≢ murder.master.me
      → is_served node (Ask ask) ≡ true → IsStoreWith store later (node_takes node from (Ask ask)).state.home ask.name
      → Event murder given store (home_takes murder name node from (Ask ask)) given later
  takes : (name : List ℕ) (node : BackNode) (message : LinkMsg) (rest : List LinkMsg) (later : Store) → murder.nodes name ≡ Some node
      → on_link murder.links name murder.master.me ≡ message ∷ rest
      → StoreTakes message (node_says murder.master name message).outs (given_in murder.master.table name message) store later
      → Event murder given store (master_takes murder name message) (given ++ given_in murder.master.table name message) later
  listens : (front : List ℕ) (message : LinkMsg) → list_any (pointwise nat_eq front) murder.master.backends ≡ false
      → Event murder given store (master_takes murder front message) given store
  is_up : (other : List ℕ) → Event murder given store (master_does murder (node_says murder.master other Up)) given store
  connects : (conn : ℕ) → Event murder given store (master_does murder (connect murder.master conn)) given store
  says : (conn : ℕ) (bytes : List ℕ) → Event murder given store (master_does murder (bytes_in murder.master conn bytes)) given store
  ends : (conn : ℕ) → Event murder given store (master_does murder (still (without murder.master (Outside conn)))) given store
  lets_out : (front : List ℕ) (outs : List Out) → IsFront murder front → Event murder given store (after_front murder murder.links front outs) given store
  passes : (from to : List ℕ) → IsFront murder from ⊎ IsFront murder to
      → Event murder given store (record { master = murder.master; nodes = murder.nodes; links = taken murder from to }) given store

pub data Run (me : List ℕ) (backends : List (List ℕ)) : Murder → Given → Store → Type 0 where
  begins : (murder : Murder) → IsStart murder me backends → Run me backends murder [] empty_store
  goes_on : (murder then : Murder) (given then_given : Given) (store later : Store) → Run me backends murder given store
      → Event murder given store then then_given later → Run me backends then then_given later

-- it holds after any events
abbrev pub RunsHold : Type 0
RunsHold = (me : List ℕ) (backends : List (List ℕ)) (murder : Murder) (given : Given) (store : Store) → Run me backends murder given store
    → ManyHold murder given store
