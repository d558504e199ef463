-- What the place of a command tells: the one store has replied nothing to it, and what comes of the place is no reply; or the store has replied, and what
-- comes of the place is that reply.
use Rattle.std.specs.Prelude.{◌≡◌, ℕ, true, List, [], ◌∷◌, ◌++◌, Option, None, Some}
use Rattle.ask_routes.specs.declared.next.Why.{Why}
use Rattle.asking_core.specs.Answered.{WentOn, answered}
use Rattle.asking_core.specs.declared.waiting.At.{At}
use Rattle.feed_core.specs.Listing.{mailbox_names}
use Rattle.feed_links.specs.Replicas.{recs_of}
use Rattle.imap_talk.specs.SessionEnds.{TurnEnds}
use Rattle.imap_types.specs.declared.command.Tag.{Tag}
use Rattle.imap_types.specs.declared.request.Answer.{Answer}
use Rattle.link_msg.specs.declared.answer.AnswerBody.{AnswerBody}
use Rattle.link_msg.specs.declared.answer.AnswerBody.TheVariants.{NotNow}
use Rattle.imap_types.specs.declared.reply.NoText.TheVariants.{BeingMoved}
use Rattle.master_core.specs.Refusals.{is_reserved}
use Rattle.mupdate_codec.specs.declared.command.MResponse.{MResponse}
use Rattle.mur_model.specs.Act.{session_after}
use Rattle.mur_model.specs.Listing.{list_reply}
use Rattle.mur_model.specs.Needed.{Work, Make, Delete as Remove}
use Rattle.mur_model.specs.Relocation.{refused_for}
use Rattle.mur_model.specs.declared.commands.list.Listing.{Listing}
use Rattle.mur_model.specs.declared.session.Sess.{Sess}
use Rattle.mur_model.specs.declared.session.Turn.{Turn}
use Rattle.name_commands.specs.Moves.{ends, heard_move}
use Rattle.name_commands.specs.Moves.Move.{is_sent}
use Rattle.name_commands.specs.Places.{NamePlace, NamePlace as name_at}
use Rattle.name_flows.specs.declared.ask.AskKind.{AskKind}
use Rattle.name_flows.specs.declared.ask.AskKind.TheVariants.{Create, Delete}
use Rattle.name_flows.specs.declared.ask.NameAsk.{NameAsk}
use Rattle.name_flows.specs.declared.flow.Flow.{Flow}
use Rattle.name_flows.specs.declared.flow.Stage.{Stage}
use Rattle.name_flows.specs.declared.flow.Stage.TheVariants.{Reserving, Making, Deactivating, Deleting}
use Rattle.node_record.specs.Table.{MailboxTable, record_at}
use Rattle.point_links.specs.AtHome.{IsElsewhere, its_ask}
use Rattle.point_links.specs.Barriers.{decided}
use Rattle.point_links.specs.Commands.{ClientCommand, WaitsOn, refused_turn, told_turn}
use Rattle.route_links.specs.Barriers.{Place as Barrier, Place as barrier}
use Rattle.cluster_core.proofs.Commands.Place.{Place, Place as place}

-- the command, whomever it waits for
abbrev pub waiting_at : ClientCommand → At → ClientCommand
waiting_at c at = record c { waiting = record c.waiting { at = at } }

-- ---- it is decided: its client will be told of this turn

abbrev pub TellsAtAnswer : List ℕ → ClientCommand → AnswerBody → Turn → Type 0
TellsAtAnswer master c body turn = (at : At) → answered master c.id c.was (waiting_at c at).waiting body ≡ told_turn (waiting_at c at) turn

-- the backend answers so at the response to the line of its flow
pub record TellsAtResponse (master front : List ℕ) (c : ClientCommand) (name : List ℕ) (flow : Flow) (it : MResponse) (turn : Turn) : Type 0 where
  pub body : AnswerBody
  pub its : flow.ask ≡ c.id
  pub front_is : flow.front ≡ front
  pub ended : heard_move name flow it ≡ Some (ends flow body)
  pub tells : TellsAtAnswer master c body turn

abbrev pub TellsAtOk : List ℕ → List ℕ → ClientCommand → MailboxTable → Turn → Type 0
TellsAtOk master first c table turn = (at : At) (cause : Why) → decided table master first (waiting_at c at) cause ≡ told_turn (waiting_at c at) turn

abbrev pub tells_of_name : List ℕ → List ℕ → ClientCommand → NamePlace → Turn → Type 0
tells_of_name master front c (name_at.hears name flow it) turn = TellsAtResponse master front c name flow it turn
tells_of_name master front c other turn = ⊥

abbrev pub tells_of_barrier : List ℕ → List ℕ → ClientCommand → Barrier → Turn → Type 0
tells_of_barrier master first c (barrier.answered table) turn = TellsAtOk master first c table turn
tells_of_barrier master first c other turn = ⊥

abbrev pub Brings : List ℕ → List ℕ → List ℕ → ClientCommand → Place → Turn → Type 0
Brings master first front c (place.is_answered server answer) turn = (answer.id ≡ c.id) × TellsAtAnswer master c answer.body turn
Brings master first front c (place.is_dropped server) turn = Unit {0}
Brings master first front c (place.is_at me at) turn = tells_of_name master front c at turn
Brings master first front c (place.is_barred at) turn = tells_of_barrier master first c at turn
Brings master first front c other turn = ⊥

-- ---- it isn't: it waits on, or is refused once its frontend takes the master's OK

-- which work a backend does with the master
abbrev pub kind_of : Work → Option AskKind
kind_of Make = Some Create
kind_of Remove = Some Delete
kind_of work = None

abbrev pub is_of_kind : AskKind → Stage → Type 0
is_of_kind Create Reserving = Unit {0}
is_of_kind Create Making = Unit {0}
is_of_kind Delete Deactivating = Unit {0}
is_of_kind Delete Deleting = Unit {0}
is_of_kind kind stage = ⊥

-- a CREATE or DELETE that its backend was asked
pub record IsFlowOf (front : List ℕ) (c : ClientCommand) (name : List ℕ) (flow : Flow) : Type 0 where
  pub kind : AskKind
  pub does : kind_of c.work ≡ Some kind
  pub name_is : name ≡ c.name
  pub front_is : flow.front ≡ front
  pub its : flow.ask ≡ c.id
  pub stage : is_of_kind kind flow.stage

-- its ask
abbrev pub kind_ask : List ℕ → ClientCommand → AskKind → NameAsk
kind_ask front c kind = record { front = front; id = c.id; name = c.name; kind = kind }

-- the response to the line of its flow puts it off, or lets it send the next line
pub data GoesOnAtResponse (name : List ℕ) (flow : Flow) (it : MResponse) : Type 0 where
  puts_off : heard_move name flow it ≡ Some (ends flow NotNow) → GoesOnAtResponse name flow it
  sends_on : (later : Flow) → heard_move name flow it ≡ Some (is_sent name later) → GoesOnAtResponse name flow it

abbrev pub undecided_at : List ℕ → ClientCommand → NamePlace → Type 0
undecided_at front c name_at.nowhere = ⊥
undecided_at front c (name_at.waits ask) = (kind : AskKind) × (kind_of c.work ≡ Some kind) × (ask ≡ kind_ask front c kind)
undecided_at front c (name_at.sends name flow) = IsFlowOf front c name flow
undecided_at front c (name_at.hears name flow it) = IsFlowOf front c name flow × GoesOnAtResponse name flow it

-- behind the OK it is refused, since its name was reserved, or a server is asked
pub data GoesOnAtOk (table : MailboxTable) (master : List ℕ) (c : ClientCommand) (next : WentOn) : Type 0 where
  is_refused : next ≡ refused_turn c (refused_for c.was c.it BeingMoved) → is_reserved (record_at table c.name) ≡ true → GoesOnAtOk table master c next
  asks_on : WaitsOn master c next → GoesOnAtOk table master c next

abbrev pub undecided_barrier : List ℕ → List ℕ → ClientCommand → Barrier → Type 0
undecided_barrier master first c barrier.nowhere = Unit {0}
undecided_barrier master first c barrier.asked = Unit {0}
undecided_barrier master first c (barrier.answered table) =
    (at : At) (cause : Why) → GoesOnAtOk table master (waiting_at c at) (decided table master first (waiting_at c at) cause)

abbrev pub Undecided : List ℕ → List ℕ → List ℕ → ClientCommand → Place → Type 0
Undecided master first front c place.nowhere = ⊥
Undecided master first front c (place.is_asked server ask) = ask ≡ its_ask c
Undecided master first front c (place.is_answered server answer) = (answer.id ≡ c.id) × IsElsewhere answer.body
Undecided master first front c (place.is_dropped server) = Unit {0}
Undecided master first front c (place.is_at me at) = undecided_at front c at
Undecided master first front c (place.is_barred at) = undecided_barrier master first c at

-- ---- a LIST

-- the reply by a table
abbrev pub listed_by : Tag → Listing → MailboxTable → Answer
listed_by tag it table = record { tag = tag; reply = list_reply it (mailbox_names (recs_of table)) }

-- WHAT ITS PLACE TELLS OF A LIST THAT WAITS: its NOOP is on its way, or that or the OK is gone with the link, and the one store has replied nothing; or the
-- master's OK is on its way, and the store has replied what there was in the table of the step in which the master took the NOOP
pub data KnowsNames (tag : Tag) (it : Listing) (was : Sess) (told said : List Answer) (session : Sess) (here : Place) : Type 0 where
  not_yet : said ≡ told → was ≡ session → here ≡ place.is_barred barrier.asked → KnowsNames tag it was told said session here
  is_gone : said ≡ told → was ≡ session → here ≡ place.is_barred barrier.nowhere → KnowsNames tag it was told said session here
  is_listed : (table : MailboxTable) → said ≡ told ++ listed_by tag it table ∷ [] → was ≡ session → here ≡ place.is_barred (barrier.answered table)
      → KnowsNames tag it was told said session here

-- ---- a command that needs a mailbox

-- WHAT ITS PLACE TELLS OF A COMMAND THAT WAITS
pub data Knows (master first front : List ℕ) (c : ClientCommand) (tag : Tag) (told said : List Answer) (session : Sess) (here : Place) : Type 0 where
  undecided : said ≡ told → c.was ≡ session → Undecided master first front c here → Knows master first front c tag told said session here
  is_decided : (turn : Turn) → said ≡ told ++ (record { tag = tag; reply = turn.reply }) ∷ [] → session ≡ session_after c.was turn.session → TurnEnds turn
      → Brings master first front c here turn → Knows master first front c tag told said session here
