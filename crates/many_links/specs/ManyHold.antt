-- What holds of the master, the backends and the links between them, and of the one store that they are, while links are whole.
use Rattle.std.specs.Prelude.{◌≡◌, ◌≢◌, ℕ, All, List, Some}
use Rattle.std.specs.Map.{values_of}
use Rattle.link_queue.specs.Links.{on_link}
use Rattle.mail_message.specs.Boxes.{IsRising}
use Rattle.mur_model.specs.declared.store.Store.{Store}
use Rattle.node_record.specs.declared.held.Held.{Held}
use Rattle.node_record.specs.Held.{Names}
use Rattle.node_record.specs.Table.{IsCounted}
use Rattle.back_node.specs.declared.node.BackNode.{BackNode}
use Rattle.name_links.specs.Serials.{Given, SerialsHold}
use Rattle.back_links.specs.OneTalk.{HasTalk}
use Rattle.store_links.specs.Given.{HasGiven}
use Rattle.store_links.specs.Shown.{Shows}
use Rattle.many_links.specs.Murder.{Murder, homes_of}

-- the messages of a mailbox stand in rising order of UID (RFC 9051, 2.3.1.1), and so do those of each

abbrev pub HasRising : Held → Type 0
HasRising it = IsRising it.content.messages

abbrev pub AreRising : Names → Type 0
AreRising held = All HasRising (values_of held)

-- the talk of a backend with the master, by what stands on their link in both directions
abbrev pub HasTalkIn : Murder → Given → List ℕ → BackNode → Type 0
HasTalkIn murder given name node =
    HasTalk murder.master name node (on_link murder.links name murder.master.me) (on_link murder.links murder.master.me name) given

-- of one backend
pub record IsLinked (murder : Murder) (given : Given) (name : List ℕ) (node : BackNode) : Type 0 where
  pub talk : HasTalkIn murder given name node
  pub apart : name ≢ murder.master.me
  pub rising : AreRising node.home.held

-- THE INVARIANT OF THE MASTER, ALL BACKENDS, AND THE STORE. The UIDVALIDITYs are those that the master has given, in their order.
pub record ManyHold (murder : Murder) (given : Given) (store : Store) : Type 0 where
  pub each : (name : List ℕ) (node : BackNode) → murder.nodes name ≡ Some node → IsLinked murder given name node
  pub shows : Shows murder.master.table (homes_of murder.nodes) store
  pub gave : HasGiven store given
  pub serials : SerialsHold murder.master.table given
  pub counted : IsCounted murder.master.table
