-- What follows for names and mailboxes.
use Rattle.std.specs.Prelude.{◌≡◌, ℕ, nat_le, true, false, List, length, None, Some}
use Rattle.std.specs.Map.{keys_of}
use Rattle.mur_base.specs.declared.limits.TheConstants.{MAILBOX_LIMIT}
use Rattle.mail_message.specs.Boxes.{Content}
use Rattle.backend_core.specs.HomeLaws.{is_open_here}
use Rattle.backend_core.specs.HomeStep.{held_at}
use Rattle.link_msg.specs.declared.ask.FrontAsk.{FrontAsk}
use Rattle.mur_model.specs.declared.store.Store.{Store}
use Rattle.mur_model.specs.Store.{box_at, is_full}
use Rattle.back_node.specs.declared.node.BackNode.{BackNode}
use Rattle.back_node.specs.NodeLaws.{IsCarriedOut, is_of_messages}
use Rattle.home_law.specs.ManyNames.{Mailbox}
use Rattle.name_links.specs.Serials.{Given}
use Rattle.back_links.specs.OneHome.{IsNamedAt}
use Rattle.serve_law.specs.AsTheStore.{HaveAlike}
use Rattle.store_links.specs.Boxes.{mailbox_names}
use Rattle.store_links.specs.TableEntries.{IsNoMailbox}
use Rattle.many_links.specs.Murder.{Murder}
use Rattle.many_links.specs.ManyHold.{ManyHold}

-- a name is open at a backend: its record names the backend, which has the store's box, and an ask for its messages is carried out there
pub record IsOpenAt (murder : Murder) (store : Store) (name : List ℕ) (node : BackNode) (n : Mailbox) : Type 0 where
  pub named : IsNamedAt murder.master name n
  pub alike : HaveAlike store node.home n
  pub served : (from : List ℕ) (ask : FrontAsk) → ask.name ≡ n → is_of_messages ask.op ≡ true → IsCarriedOut node from ask

abbrev pub OpenIsTheStores : Type 0
OpenIsTheStores = (murder : Murder) (given : Given) (store : Store) (name : List ℕ) (node : BackNode) (n : Mailbox) → ManyHold murder given store
    → murder.nodes name ≡ Some node → is_open_here (held_at node.home n) ≡ true → IsOpenAt murder store name node n

-- of two backends at most one has it open
abbrev pub OneHasItOpen : Type 0
OneHasItOpen = (murder : Murder) (given : Given) (store : Store) (name other : List ℕ) (node its : BackNode) (n : Mailbox) → ManyHold murder given store
    → murder.nodes name ≡ Some node → murder.nodes other ≡ Some its
    → is_open_here (held_at node.home n) ≡ true → is_open_here (held_at its.home n) ≡ true → other ≡ name

-- a name without a record, or whose record never was active, is in no store, and no backend has it open
pub record IsNowhere (murder : Murder) (store : Store) (n : Mailbox) : Type 0 where
  pub missing : box_at store n ≡ None
  pub closed : (name : List ℕ) (node : BackNode) → murder.nodes name ≡ Some node → is_open_here (held_at node.home n) ≡ false

abbrev pub NoMailboxIsNowhere : Type 0
NoMailboxIsNowhere = (murder : Murder) (given : Given) (store : Store) (n : Mailbox) → ManyHold murder given store → IsNoMailbox murder.master.table n
    → IsNowhere murder store n

-- the table's mailboxes are the store's boxes, and as many, so the store is full where the master takes no name more
pub record AreTheBoxes (murder : Murder) (store : Store) : Type 0 where
  pub names : mailbox_names murder.master.table.records ≡ keys_of store.boxes
  pub many : murder.master.table.mailboxes ≡ length store.boxes
  pub full : is_full store ≡ nat_le MAILBOX_LIMIT murder.master.table.mailboxes

abbrev pub MailboxesAreBoxes : Type 0
MailboxesAreBoxes = (murder : Murder) (given : Given) (store : Store) → ManyHold murder given store → AreTheBoxes murder store

-- two boxes of the store have two UIDVALIDITYs (RFC 9051, 2.3.1.1)
abbrev pub BoxesDiffer : Type 0
BoxesDiffer = (murder : Murder) (given : Given) (store : Store) (one two : Mailbox) (box other : Content) → ManyHold murder given store
    → box_at store one ≡ Some box → box_at store two ≡ Some other → box.serial ≡ other.serial → one ≡ two
