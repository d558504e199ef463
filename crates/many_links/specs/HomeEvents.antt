-- It holds after each step of a backend.
use Rattle.std.specs.Prelude.{◌≡◌, ◌≢◌, ℕ, Bool, true, false, ◌&&◌, List, ◌∷◌, Some}
use Rattle.std.specs.Ordering.{nat_cmp}
use Rattle.std.specs.Cmp.Lexicographic.{slice_cmp}
use Rattle.backend_core.specs.declared.backend.Backend.{Backend}
use Rattle.backend_core.specs.HomeLaws.{is_open_here}
use Rattle.backend_core.specs.HomeStep.{held_at}
use Rattle.link_msg.specs.declared.ask.FrontAsk.{FrontAsk}
use Rattle.link_msg.specs.declared.message.LinkMsg.{LinkMsg}
use Rattle.link_msg.specs.declared.message.LinkMsg.TheVariants.{Ask}
use Rattle.link_queue.specs.Links.{on_link}
use Rattle.mur_base.specs.Map.{IsInOrder}
use Rattle.mur_model.specs.declared.store.Store.{Store}
use Rattle.mur_model.specs.Store.{box_at}
use Rattle.back_node.specs.declared.node.BackNode.{BackNode}
use Rattle.back_node.specs.NodeLaws.{is_of_messages}
use Rattle.back_node.specs.Takes.{node_takes}
use Rattle.home_law.specs.ManyNames.{Mailbox}
use Rattle.name_links.specs.Contents.{content_in}
use Rattle.name_links.specs.Serials.{Given}
use Rattle.back_links.specs.BackEvents.{IsFitting}
use Rattle.serve_law.specs.AsTheStore.{HaveAlike}
use Rattle.store_links.specs.TableEntries.{OthersStay}
use Rattle.many_links.specs.Murder.{Murder, home_takes}
use Rattle.many_links.specs.ManyHold.{ManyHold}

-- the first message of the master
abbrev pub HearsKeepsMany : Type 0
HearsKeepsMany = (murder : Murder) (given : Given) (store : Store) (name : List ℕ) (node : BackNode) (message : LinkMsg) (rest : List LinkMsg)
    → ManyHold murder given store → murder.nodes name ≡ Some node → on_link murder.links murder.master.me name ≡ message ∷ rest
    → ManyHold (home_takes murder name node murder.master.me message) given store

-- an ask for the messages of a mailbox that is open there
abbrev pub is_served : BackNode → LinkMsg → Bool
is_served node (Ask ask) = is_of_messages ask.op && is_open_here (held_at node.home ask.name)
is_served node message = false

-- any other message of any other node
abbrev pub AsksKeepMany : Type 0
AsksKeepMany = (murder : Murder) (given : Given) (store : Store) (name : List ℕ) (node : BackNode) (from : List ℕ) (message : LinkMsg)
    → ManyHold murder given store → murder.nodes name ≡ Some node → from ≢ murder.master.me → IsFitting message → is_served node message ≡ false
    → ManyHold (home_takes murder name node from message) given store

-- whatever made it, a store that has of one name what the home has now, and of each other what it had
pub record IsStoreWith (store later : Store) (home : Backend) (n : Mailbox) : Type 0 where
  pub own : box_at later n ≡ content_in (held_at home n)
  pub others : OthersStay store later n
  pub gave : later.given ≡ store.given
  pub order : IsInOrder (slice_cmp nat_cmp) later.boxes

-- such an ask: the store does what the backend does
abbrev pub ServesKeepsMany : Type 0
ServesKeepsMany = (murder : Murder) (given : Given) (store later : Store) (name : List ℕ) (node : BackNode) (from : List ℕ) (ask : FrontAsk)
    → ManyHold murder given store → murder.nodes name ≡ Some node → from ≢ murder.master.me → is_served node (Ask ask) ≡ true
    → IsStoreWith store later (node_takes node from (Ask ask)).state.home ask.name
    → ManyHold (home_takes murder name node from (Ask ask)) given later

-- as one that is alike there, which is what `serve_law` says of the store's own step
abbrev pub AlikeHasIt : Type 0
AlikeHasIt = (later : Store) (home : Backend) (n : Mailbox) → HaveAlike later home n → box_at later n ≡ content_in (held_at home n)
