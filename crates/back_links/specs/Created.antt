-- The mailbox that a CREATE makes (RFC 9051, 6.3.4): the master takes its ACTIVATE, and doesn't refuse it.
use Rattle.std.specs.Prelude.{◌≡◌, ℕ, ◌<◌, true, List, [], ◌∷◌, Some}
use Rattle.link_msg.specs.declared.message.LinkMsg.{LinkMsg}
use Rattle.link_msg.specs.declared.message.LinkMsg.TheVariants.{Line}
use Rattle.mail_message.specs.FirstAcl.{first_acl}
use Rattle.master_core.specs.declared.master.Master.{Master}
use Rattle.master_core.specs.Linked.{sender_of}
use Rattle.master_core.specs.Step.{line_step}
use Rattle.mupdate_codec.specs.declared.command.MCommand.{MCommand}
use Rattle.mupdate_codec.specs.declared.tag.Tag.{Tag}
use Rattle.mupdate_codec.specs.Whole.{command_in}
use Rattle.mur_base.specs.declared.home.Location.{Location}
use Rattle.node_record.specs.declared.master.MasterRecord.TheVariants as entry
use Rattle.node_record.specs.Held.{held_at}
use Rattle.back_node.specs.declared.node.BackNode.{BackNode}
use Rattle.name_links.specs.Contents.{new_box}
use Rattle.name_links.specs.Lines.{is_asked}
use Rattle.name_links.specs.Serials.{Given, IsNewFor}
use Rattle.back_links.specs.MasterEvents.{given_in}
use Rattle.back_links.specs.OneTalk.{HasTalk}

-- a message under a client's command, by which the master makes a name active
pub record TakesActivate (master : Master) (name : List ℕ) (message : LinkMsg) (mailbox acl : List ℕ) : Type 0 where
  pub bytes : List ℕ
  pub tag : Tag
  pub it : MCommand
  pub place : Location
  pub is : message ≡ Line bytes
  pub read : command_in bytes ≡ Some (tag, it)
  pub asked : is_asked tag ≡ true
  pub taken : (line_step master (sender_of master name) bytes).entry ≡ Some (entry.Active mailbox place acl)

-- the node has the mailbox, empty and with its first access list, and it is given a UIDVALIDITY that no mailbox had
pub record IsMadeThere (master : Master) (name : List ℕ) (node : BackNode) (given : Given) (message : LinkMsg) (mailbox acl : List ℕ) : Type 0 where
  pub serial : ℕ
  pub made : held_at node.home.held mailbox ≡ Some (new_box mailbox serial)
  pub first : acl ≡ first_acl mailbox
  pub gives : given_in master.table name message ≡ (mailbox, serial) ∷ []
  pub positive : 0 < serial
  pub new : IsNewFor mailbox serial given

abbrev pub CreateMakesNew : Type 0
CreateMakesNew = (master : Master) (name : List ℕ) (node : BackNode) (up down : List LinkMsg) (given : Given) (message : LinkMsg) (mailbox acl : List ℕ)
    → HasTalk master name node (message ∷ up) down given → TakesActivate master name message mailbox acl
    → IsMadeThere master name node given message mailbox acl
