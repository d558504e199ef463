-- In which place the command of a message is: the message tells.
use Rattle.std.proofs.Common.{◌≡◌, ℕ, List, Some, ap}
use Rattle.link_msg.specs.declared.answer.BackAnswer.{BackAnswer}
use Rattle.link_msg.specs.declared.ask.FrontAsk.{FrontAsk}
use Rattle.link_msg.specs.declared.message.LinkMsg.{LinkMsg}
use Rattle.link_msg.specs.declared.message.LinkMsg.TheVariants.{Ask, Answer}
use Rattle.link_queue.proofs.Placed.{Carried}
use Rattle.mupdate_codec.specs.declared.command.MResponse.{MResponse}
use Rattle.mur_base.specs.declared.home.Location.{Location}
use Rattle.mur_base.specs.declared.point.AskId.{AskId}
use Rattle.name_commands.specs.Places.{answer_message, flow_message, NamePlace as name_at}
use Rattle.name_flows.specs.declared.flow.Flow.{Flow}
use Rattle.node_record.specs.Table.{MailboxTable}
use Rattle.route_links.specs.Answered.{noop_of, ok_of}
use Rattle.route_links.specs.Barriers.{Place as barrier}
use Rattle.cluster_core.proofs.Commands.Place.{Place, its_message, Place as place}

pub data IsFoundIn (master front : List ℕ) (id : AskId) (from to : List ℕ) (message : LinkMsg) : Place → Type 0 where
  in_ask : (server : List ℕ) (ask : FrontAsk) → front ≡ from → server ≡ to → Ask ask ≡ message
      → IsFoundIn master front id from to message (place.is_asked server ask)
  in_answer : (server : List ℕ) (answer : BackAnswer) → server ≡ from → front ≡ to → Answer answer ≡ message
      → IsFoundIn master front id from to message (place.is_answered server answer)
  in_line : (me : Location) (name : List ℕ) (flow : Flow) → me.server ≡ from → master ≡ to → flow_message me name flow ≡ message
      → IsFoundIn master front id from to message (place.is_at me (name_at.sends name flow))
  in_response : (me : Location) (name : List ℕ) (flow : Flow) (it : MResponse) → master ≡ from → me.server ≡ to → answer_message flow it ≡ message
      → IsFoundIn master front id from to message (place.is_at me (name_at.hears name flow it))
  in_noop : front ≡ from → master ≡ to → noop_of id ≡ message → IsFoundIn master front id from to message (place.is_barred barrier.asked)
  in_ok : (table : MailboxTable) → master ≡ from → front ≡ to → ok_of id ≡ message
      → IsFoundIn master front id from to message (place.is_barred (barrier.answered table))

abbrev its : List ℕ → List ℕ → LinkMsg → Carried LinkMsg
its from to message = record { from = from; to = to; message = message }

same_one : {one other : Carried LinkMsg} → Some one ≡ Some other → one ≡ other
same_one e = cc

pub from_is : {one other : Carried LinkMsg} → Some one ≡ Some other → one.from ≡ other.from
from_is e = ap (λ (c : Carried LinkMsg). c.from) (same_one e)

pub to_is : {one other : Carried LinkMsg} → Some one ≡ Some other → one.to ≡ other.to
to_is e = ap (λ (c : Carried LinkMsg). c.to) (same_one e)

pub message_is : {one other : Carried LinkMsg} → Some one ≡ Some other → one.message ≡ other.message
message_is e = ap (λ (c : Carried LinkMsg). c.message) (same_one e)

module _ (master front : List ℕ) (id : AskId) (from to : List ℕ) (message : LinkMsg) where
  pub found_in : (here : Place) → its_message master front id here ≡ Some (its from to message) → IsFoundIn master front id from to message here
  found_in place.nowhere e = cc
  found_in (place.is_asked server ask) e = in_ask server ask (from_is e) (to_is e) (message_is e)
  found_in (place.is_answered server answer) e = in_answer server answer (from_is e) (to_is e) (message_is e)
  found_in (place.is_dropped server) e = cc
  found_in (place.is_at me name_at.nowhere) e = cc
  found_in (place.is_at me (name_at.waits ask)) e = cc
  found_in (place.is_at me (name_at.sends name flow)) e = in_line me name flow (from_is e) (to_is e) (message_is e)
  found_in (place.is_at me (name_at.hears name flow it)) e = in_response me name flow it (from_is e) (to_is e) (message_is e)
  found_in (place.is_barred barrier.nowhere) e = cc
  found_in (place.is_barred barrier.asked) e = in_noop (from_is e) (to_is e) (message_is e)
  found_in (place.is_barred (barrier.answered table)) e = in_ok table (from_is e) (to_is e) (message_is e)
