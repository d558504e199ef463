-- One backend and the master: what holds of both and of the messages between them, while their link is whole.
use Rattle.std.specs.Prelude.{◌≡◌, ◌≢◌, ℕ, nat_eq, true, List, None}
use Rattle.std.specs.List.{list_any, AllByRecursion}
use Rattle.std.specs.Cmp.Lexicographic.{pointwise}
use Rattle.link_msg.specs.declared.message.LinkMsg.{LinkMsg}
use Rattle.master_core.specs.declared.master.Master.{Master}
use Rattle.mupdate_codec.specs.declared.command.MCommand.{MCommand}
use Rattle.mupdate_codec.specs.declared.command.MCommand.TheVariants as command
use Rattle.mupdate_codec.specs.declared.command.MResponse.{MResponse}
use Rattle.mupdate_codec.specs.declared.tag.Tag.{Tag}
use Rattle.mur_base.specs.declared.home.Location.{Location}
use Rattle.back_node.specs.declared.node.BackNode.{BackNode}
use Rattle.back_node.specs.NodeLaws.{OwesOnly}
use Rattle.feed_links.specs.Lines.{stream_of}
use Rattle.feed_links.specs.Spelled.{CanBeTold}
use Rattle.name_links.specs.Contents.{ContentHolds}
use Rattle.name_links.specs.LinkIs.{LinkHolds}
use Rattle.name_links.specs.OneLink.{OneLink}
use Rattle.name_links.specs.Serials.{Given, BoxesHold, SerialsHold}
use Rattle.back_links.specs.Spelled.{CanTellMaster}
use Rattle.back_links.specs.Written.{AreWritten}

-- Each has the other: the master takes the node of this name for a backend, which never sent UPDATE, and the node is that of its server. It owes answers
-- to frontends alone, so that all that it sends the master are lines.
pub record HaveEachOther (master : Master) (name : List ℕ) (node : BackNode) : Type 0 where
  pub named : (node.flows.me).server ≡ name
  pub backend : list_any (pointwise nat_eq name) master.backends ≡ true
  pub no_stream : stream_of master name ≡ None
  pub its_master : node.flows.master ≡ master.me
  pub owes : OwesOnly (λ front. front ≢ master.me) node.flows

-- the link, as name_links sees it
abbrev pub link_of : Master → BackNode → List (Tag × MCommand) → List (Tag × MResponse) → OneLink
link_of master node ups downs = record { table = master.table; flows = node.flows; held = node.home.held; ups = ups; downs = downs }

-- a command that names a place names this one
abbrev pub NamesOnly : Location → MCommand → Type 0
NamesOnly me (command.Reserve name place) = place ≡ me
NamesOnly me (command.Activate name place acl) = place ≡ me
NamesOnly me (command.Deactivate name place) = place ≡ me
NamesOnly me it = Unit {0}

abbrev pub AreOfPlace : Location → List (Tag × MCommand) → Type 0
AreOfPlace me ups = AllByRecursion (λ (it : Tag × MCommand). NamesOnly me it.1) ups

-- all that name_links says of a link
pub record HoldsOfEachName (link : OneLink) (given : Given) : Type 0 where
  pub names : LinkHolds link
  pub contents : ContentHolds link
  pub boxes : BoxesHold link given
  pub serials : SerialsHold link.table given

-- THE INVARIANT OF ONE BACKEND. The UIDVALIDITYs are those that the master has given, to mailboxes at any backend.
pub record HasTalk (master : Master) (name : List ℕ) (node : BackNode) (up down : List LinkMsg) (given : Given) : Type 0 where
  pub ups : List (Tag × MCommand)
  pub downs : List (Tag × MResponse)
  pub written : AreWritten up down ups downs
  -- the backend writes records for its own place alone
  pub own_place : AreOfPlace node.flows.me ups
  pub each : HaveEachOther master name node
  pub told : CanBeTold master.table
  pub said : CanTellMaster node.flows node.home.held
  pub holds : HoldsOfEachName (link_of master node ups downs) given
