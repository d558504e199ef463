-- A name is open at one backend, which its record names.
use Rattle.std.specs.Prelude.{◌≡◌, ℕ, List, Some}
use Rattle.link_msg.specs.declared.message.LinkMsg.{LinkMsg}
use Rattle.master_core.specs.declared.master.Master.{Master}
use Rattle.node_record.specs.Held.{IsWritableHome}
use Rattle.back_node.specs.declared.node.BackNode.{BackNode}
use Rattle.name_links.specs.Contents.{acl_in, state_at}
use Rattle.name_links.specs.Serials.{Given}
use Rattle.back_links.specs.OneTalk.{HasTalk}

-- the record of a mailbox names the server, with an access list
pub record IsNamedAt (master : Master) (server mailbox : List ℕ) : Type 0 where
  pub acl : List ℕ
  pub recorded : acl_in (state_at master.table server mailbox) ≡ Some acl

abbrev pub OpenIsNamed : Type 0
OpenIsNamed = (master : Master) (name : List ℕ) (node : BackNode) (up down : List LinkMsg) (given : Given) → HasTalk master name node up down given
    → (mailbox : List ℕ) → IsWritableHome node.home.held mailbox → IsNamedAt master name mailbox

-- no other node with a talk has it open
abbrev pub OpenAtOne : Type 0
OpenAtOne = (master : Master) (name other : List ℕ) (node its : BackNode) (up down its_up its_down : List LinkMsg) (given : Given)
    → HasTalk master name node up down given → HasTalk master other its its_up its_down given
    → (mailbox : List ℕ) → IsWritableHome node.home.held mailbox → IsWritableHome its.home.held mailbox → other ≡ name
