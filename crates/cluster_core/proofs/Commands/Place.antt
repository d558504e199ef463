-- Where a command of a connection is: nowhere on its way; in its frontend's ask to a backend, or in the answer, or dropped with one of these, as their link
-- broke; a CREATE at its backend, or between that and the master; or at the barrier of its frontend with the master, of which nothing is on its way any more
-- where their link broke.
use Rattle.std.specs.Prelude.{ℕ, nat_eq, List, Option, None, Some, if◌then◌else◌}
use Rattle.std.specs.Cmp.Lexicographic.{pointwise}
use Rattle.link_msg.specs.declared.answer.BackAnswer.{BackAnswer}
use Rattle.link_msg.specs.declared.ask.FrontAsk.{FrontAsk}
use Rattle.link_msg.specs.declared.message.LinkMsg.{LinkMsg}
use Rattle.link_msg.specs.declared.message.LinkMsg.TheVariants.{Ask, Answer}
use Rattle.link_queue.proofs.Placed.{Carried}
use Rattle.mur_base.specs.declared.home.Location.{Location}
use Rattle.mur_base.specs.declared.point.AskId.{AskId}
use Rattle.name_commands.specs.Places.{NamePlace, answer_message, flow_message, NamePlace as name_at}
use Rattle.route_links.specs.Answered.{noop_of, ok_of}
use Rattle.route_links.specs.Barriers.{Place as Barrier, Place as barrier}

pub data Place : Type 0 where
  nowhere : Place
  is_asked : List ℕ → FrontAsk → Place
  is_answered : List ℕ → BackAnswer → Place
  is_dropped : List ℕ → Place
  is_at : Location → NamePlace → Place
  is_barred : Barrier → Place

abbrev pub carried : List ℕ → List ℕ → LinkMsg → Option (Carried LinkMsg)
carried from to message = Some (record { from = from; to = to; message = message })

-- the line of a CREATE's flow, or the master's response to it
abbrev pub flow_carried : List ℕ → Location → NamePlace → Option (Carried LinkMsg)
flow_carried master me name_at.nowhere = None
flow_carried master me (name_at.waits ask) = None
flow_carried master me (name_at.sends name flow) = carried me.server master (flow_message me name flow)
flow_carried master me (name_at.hears name flow it) = carried master me.server (answer_message flow it)

-- the NOOP of a command, or its OK
abbrev pub barrier_carried : List ℕ → List ℕ → AskId → Barrier → Option (Carried LinkMsg)
barrier_carried master front id barrier.nowhere = None
barrier_carried master front id barrier.asked = carried front master (noop_of id)
barrier_carried master front id (barrier.answered table) = carried master front (ok_of id)

-- the message that a command of this frontend is in, and between whom
abbrev pub its_message : List ℕ → List ℕ → AskId → Place → Option (Carried LinkMsg)
its_message master front id nowhere = None
its_message master front id (is_asked server ask) = carried front server (Ask ask)
its_message master front id (is_answered server answer) = carried server front (Answer answer)
its_message master front id (is_dropped server) = None
its_message master front id (is_at me place) = flow_carried master me place
its_message master front id (is_barred at) = barrier_carried master front id at

-- where it is at this backend
abbrev pub at_backend : List ℕ → Place → NamePlace
at_backend name nowhere = name_at.nowhere
at_backend name (is_asked server ask) = name_at.nowhere
at_backend name (is_answered server answer) = name_at.nowhere
at_backend name (is_dropped server) = name_at.nowhere
at_backend name (is_at me place) = if pointwise nat_eq me.server name then place else name_at.nowhere
at_backend name (is_barred at) = name_at.nowhere

-- where its barrier is
abbrev pub at_barrier : Place → Barrier
at_barrier nowhere = barrier.nowhere
at_barrier (is_asked server ask) = barrier.nowhere
at_barrier (is_answered server answer) = barrier.nowhere
at_barrier (is_dropped server) = barrier.nowhere
at_barrier (is_at me place) = barrier.nowhere
at_barrier (is_barred at) = at
