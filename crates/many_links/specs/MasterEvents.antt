-- It holds after each step of the master.
use Rattle.std.specs.Prelude.{◌≡◌, ℕ, nat_eq, false, List, [], ◌∷◌, ◌++◌, Some, None}
use Rattle.std.specs.List.{list_any}
use Rattle.std.specs.Cmp.Lexicographic.{pointwise}
use Rattle.mail_message.specs.Boxes.{Content}
use Rattle.link_msg.specs.declared.counts.Counts.TheVariants.{Always}
use Rattle.link_msg.specs.declared.message.LinkMsg.{LinkMsg}
use Rattle.link_msg.specs.declared.message.LinkMsg.TheVariants.{Up, Line}
use Rattle.link_msg.specs.declared.out.Out.{Out}
use Rattle.link_queue.specs.Links.{on_link}
use Rattle.master_core.specs.declared.sender.Sender.TheVariants.{Outside}
use Rattle.master_core.specs.Linked.{node_says}
use Rattle.master_core.specs.Outside.{bytes_in, connect, still}
use Rattle.master_core.specs.Streams.{without}
use Rattle.mur_base.specs.declared.home.Location.{Location}
use Rattle.mur_base.specs.declared.point.AskId.{AskId}
use Rattle.mur_model.specs.declared.store.Store.{Store}
use Rattle.mur_model.specs.Store.{box_at, IsFree, without_box}
use Rattle.mupdate_codec.specs.declared.command.MCommand.{MCommand}
use Rattle.mupdate_codec.specs.declared.command.MCommand.TheVariants as command
use Rattle.mupdate_codec.specs.declared.tag.Tag.{Tag}
use Rattle.mupdate_codec.specs.Asks.{ask_id_of}
use Rattle.mupdate_codec.specs.Whole.{command_in}
use Rattle.back_node.specs.declared.node.BackNode.{BackNode}
use Rattle.home_law.specs.ManyNames.{Mailbox}
use Rattle.name_links.specs.Serials.{Given}
use Rattle.back_links.specs.MasterEvents.{given_in}
use Rattle.store_links.specs.TableEntries.{store_with}
use Rattle.many_links.specs.Murder.{Murder, master_takes, master_does}
use Rattle.many_links.specs.ManyHold.{ManyHold}
use Rattle.many_links.specs.Marks.{marks_in, CarryNoneOut}

-- ---- the first message of a backend

-- a message is this line, for the answer to which this command of a client waits, and the command is carried out in this step
pub record IsDoneFor (ask : AskId) (message : LinkMsg) (it : MCommand) (outs : List Out) : Type 0 where
  pub bytes : List ℕ
  pub tag : Tag
  pub is : message ≡ Line bytes
  pub read : command_in bytes ≡ Some (tag, it)
  pub asked : ask_id_of tag ≡ Some ask
  pub marked : marks_in outs ≡ (ask, Always) ∷ []

-- What the store does where the master takes a message, lets these outputs out and gives these UIDVALIDITYs: a client's CREATE, whose mailbox is new and
-- has a UIDVALIDITY that is free; a client's DELETE of a mailbox; or nothing, and then no command is carried out.
pub data StoreTakes (message : LinkMsg) (outs : List Out) (gives : Given) (store : Store) : Store → Type 0 where
  nothing : gives ≡ [] → CarryNoneOut outs → StoreTakes message outs gives store store
  created : (ask : AskId) (n : Mailbox) (place : Location) (acl : List ℕ) (serial : ℕ) → IsDoneFor ask message (command.Activate n place acl) outs
      → box_at store n ≡ None → IsFree store n serial → gives ≡ (n, serial) ∷ [] → StoreTakes message outs gives store (store_with store n serial)
  removed : (ask : AskId) (n : Mailbox) (box : Content) → IsDoneFor ask message (command.Delete n) outs → box_at store n ≡ Some box → gives ≡ []
      → StoreTakes message outs gives store (without_box store n)

-- it is exactly one of these
abbrev pub ExactlyOne : Type 0
ExactlyOne = (message : LinkMsg) (outs : List Out) (gives : Given) (store one other : Store) → StoreTakes message outs gives store one
    → StoreTakes message outs gives store other → one ≡ other

pub record IsOneCommand (murder : Murder) (given : Given) (store : Store) (name : List ℕ) (message : LinkMsg) : Type 0 where
  pub later : Store
  pub does : StoreTakes message (node_says murder.master name message).outs (given_in murder.master.table name message) store later
  pub hold : ManyHold (master_takes murder name message) (given ++ given_in murder.master.table name message) later

abbrev pub TakesKeepsMany : Type 0
TakesKeepsMany = (murder : Murder) (given : Given) (store : Store) (name : List ℕ) (node : BackNode) (message : LinkMsg) (rest : List LinkMsg)
    → ManyHold murder given store → murder.nodes name ≡ Some node → on_link murder.links name murder.master.me ≡ message ∷ rest
    → IsOneCommand murder given store name message

-- ---- anything else, of which the store does nothing

-- any message of a node that is no backend
abbrev pub FrontendsKeepMany : Type 0
FrontendsKeepMany = (murder : Murder) (given : Given) (store : Store) (front : List ℕ) (message : LinkMsg) → ManyHold murder given store
    → list_any (pointwise nat_eq front) murder.master.backends ≡ false → ManyHold (master_takes murder front message) given store

-- a link of the master comes up, whose ever it is
abbrev pub UpsKeepMany : Type 0
UpsKeepMany = (murder : Murder) (given : Given) (store : Store) (other : List ℕ) → ManyHold murder given store
    → ManyHold (master_does murder (node_says murder.master other Up)) given store

-- a client from outside connects, sends bytes, or closes its connection
pub record ClientsLeaveMany (murder : Murder) (given : Given) (store : Store) : Type 0 where
  pub connects : (conn : ℕ) → ManyHold (master_does murder (connect murder.master conn)) given store
  pub says : (conn : ℕ) (bytes : List ℕ) → ManyHold (master_does murder (bytes_in murder.master conn bytes)) given store
  pub ends : (conn : ℕ) → ManyHold (master_does murder (still (without murder.master (Outside conn)))) given store

abbrev pub ClientsKeepMany : Type 0
ClientsKeepMany = (murder : Murder) (given : Given) (store : Store) → ManyHold murder given store → ClientsLeaveMany murder given store
