-- Each mailbox has a UIDVALIDITY of its own (RFC 9051, 2.3.1.1), at one backend or at two.
use Rattle.std.specs.Prelude.{◌≡◌, ℕ, List, Some}
use Rattle.link_msg.specs.declared.message.LinkMsg.{LinkMsg}
use Rattle.master_core.specs.declared.master.Master.{Master}
use Rattle.node_record.specs.Held.{held_at}
use Rattle.back_node.specs.declared.node.BackNode.{BackNode}
use Rattle.name_links.specs.Serials.{Given, uid_validity}
use Rattle.back_links.specs.OneHome.{IsNamedAt}
use Rattle.back_links.specs.OneTalk.{HasTalk}

abbrev pub HasValidity : BackNode → List ℕ → ℕ → Type 0
HasValidity node mailbox serial = uid_validity (held_at node.home.held mailbox) ≡ Some serial

-- of two mailboxes, each at the node of its record
abbrev pub ValiditiesDiffer : Type 0
ValiditiesDiffer = (master : Master) (name other : List ℕ) (node its : BackNode) (up down its_up its_down : List LinkMsg) (given : Given)
    → HasTalk master name node up down given → HasTalk master other its its_up its_down given
    → (one two : List ℕ) (serial : ℕ) → IsNamedAt master name one → IsNamedAt master other two → HasValidity node one serial → HasValidity its two serial
    → one ≡ two
