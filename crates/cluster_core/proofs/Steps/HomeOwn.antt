-- A backend takes the ask of a command, or the response to the line of its flow: where the command is then.
use Rattle.std.proofs.Common.{◌≡◌, ℕ, ◌≤◌, true, false, List, [], ◌∷◌, ◌++◌, filter, Option, None, Some, refl, ap, subst, ◌∙◌, arith}
use Rattle.back_links.specs.BackEvents.{IsFitting}
use Rattle.back_node.specs.declared.node.BackNode.{BackNode}
use Rattle.back_node.specs.Acted.{BackActed}
use Rattle.back_node.specs.Takes.{name_ask, name_kind, node_takes}
use Rattle.feed_core.specs.declared.replica.Replica.{Replica}
use Rattle.feed_links.specs.Lines.{messages_to}
use Rattle.front_core.proofs.OneConnection.Places.{IsPlaced, about, about_of, answer_on, ask_on, is_over, of_connection, on_of}
use Rattle.link_msg.specs.declared.answer.AnswerBody.{AnswerBody}
use Rattle.link_msg.specs.declared.answer.BackAnswer.{BackAnswer}
use Rattle.link_msg.specs.declared.ask.FrontAsk.{FrontAsk}
use Rattle.link_msg.specs.declared.counts.Counts.{Counts}
use Rattle.link_msg.specs.declared.message.LinkMsg.{LinkMsg}
use Rattle.link_msg.specs.declared.message.LinkMsg.TheVariants.{Ask, Answer}
use Rattle.link_msg.specs.declared.out.Out.{Out}
use Rattle.link_msg.specs.declared.out.Out.TheVariants.{Link, Mark}
use Rattle.link_queue.specs.Links.{Links, on_link}
use Rattle.many_links.specs.Murder.{Murder, put_all, put_out, taken}
use Rattle.many_links.proofs.NodesLaw.{node_own}
use Rattle.mupdate_codec.specs.declared.command.MResponse.{MResponse}
use Rattle.mupdate_codec.specs.declared.command.MResponse.TheVariants as response
use Rattle.mur_base.specs.declared.home.Location.{Location}
use Rattle.mur_base.specs.declared.point.AskId.{AskId}
use Rattle.mur_model.specs.declared.store.Store.{Store}
use Rattle.name_commands.specs.BackSteps.{IsHeard}
use Rattle.name_commands.specs.Moves.{Move, MovesCommand, asked_move, asked_move_by, ends, heard_move, heard_move_by, reserved_move, tested_move, Move as move}
use Rattle.name_commands.specs.Places.{TalkShows, answer_message, NamePlace as name_at}
use Rattle.name_commands.specs.Whose.{Whose, is_of_connection, is_own_out}
use Rattle.name_commands.proofs.AnswerSteps.{answer_moves}
use Rattle.name_commands.proofs.AskSteps.{ask_moves, messages_leave}
use Rattle.name_commands.proofs.Own.{kept}
use Rattle.name_flows.specs.declared.ask.AskKind.{AskKind}
use Rattle.name_flows.specs.declared.ask.NameAsk.{NameAsk}
use Rattle.name_flows.specs.declared.flow.Flow.{Flow}
use Rattle.name_flows.specs.declared.flow.Stage.{Stage}
use Rattle.name_flows.specs.declared.flow.Stage.TheVariants.{Reserving, Making, Deactivating, Deleting}
use Rattle.name_flows.specs.declared.resync.Resync.{Resync}
use Rattle.name_flows.specs.Asked.{refusal}
use Rattle.name_links.specs.Serials.{Given}
use Rattle.cluster_core.proofs.Commands.Place.{Place, Place as place}
use Rattle.cluster_core.proofs.Places.FrontHears.{found_about}
use Rattle.cluster_core.proofs.Steps.Heads.{its_first, line_down_on}
use Rattle.cluster_core.proofs.Steps.HomeHears.{hearing, master_me, moves_so}
use Rattle.cluster_core.proofs.Steps.HomeLinks.{IsInThen}
use Rattle.cluster_core.proofs.Steps.HomeMoves.{SendsFrom, TellsFront, goes_to, moves_to, talk}
use Rattle.cluster_core.proofs.Steps.HomeOthers.{as_before, others_me}
use Rattle.cluster_core.proofs.Steps.HomeSteps.{AskIsAnswered, AskIsMoved, HasHeard, HomeTakes, IsMovedThen, ResponseIsHeard}
use Rattle.cluster_core.proofs.Steps.Murders.{its_me, IsFront, IsIn, at_other, at_own}
use Rattle.cluster_core.proofs.Steps.Narrow.{answer_from}
use Rattle.cluster_core.proofs.Steps.Outs.{own_it, puts_one}

-- ---- what is on its way is about the connection

pub on_its_way : (first conn : ℕ) (links : Links LinkMsg) (from to : List ℕ) (message : LinkMsg)
    → IsPlaced first (of_connection conn) links (Some (record { from = from; to = to; message = message })) → about message ≡ of_connection conn
on_its_way first conn links from to message placed =
    about_of first (of_connection conn) message (found_about first links from to message (of_connection conn) placed)

-- ---- its ask

module _ (murder : Murder) (given : Given) (store : Store) (name : List ℕ) (node : BackNode) (front : List ℕ) (replica : Replica) (id : AskId)
    (ask : FrontAsk) (takes : HomeTakes murder given store name node front (Ask ask)) (is_front : IsFront murder front)
    (is : IsIn murder front replica id (place.is_asked name ask)) where
  abbrev me : List ℕ
  me = murder.master.me

  abbrev next : BackActed
  next = node_takes node front (Ask ask)

  abbrev left : Links LinkMsg
  left = taken murder front name

  abbrev whose : Whose
  whose = is_of_connection id.conn

  ask_about : about (Ask ask) ≡ of_connection id.conn
  ask_about = on_its_way id.command id.conn murder.links front name (Ask ask) is.message

  ask_own : whose ask.id ≡ true
  ask_own = own_it id.conn (Ask ask) ask_about

  none_left : IsPlaced id.command (of_connection id.conn) left None
  none_left = (its_first murder front replica id (place.is_asked name ask) front name (Ask ask) takes.first ask_about (ask_on id.command ask)
      is).1

  stays_me : next.state.flows.me ≡ node.flows.me
  stays_me = others_me murder given store name node front (Ask ask) takes is_front.no_master

  -- for messages
  module _ (none : name_kind ask.op ≡ None) (answer : BackAnswer) (counts : Counts) (same : answer.id ≡ ask.id)
      (step : next.outs ≡ Link front (Answer answer) ∷ Mark ask.id counts ∷ []) where
    answer_own : whose answer.id ≡ true
    answer_own = ap (λ i. whose i) same ∙ ask_own

    outs_own : filter (is_own_out whose) next.outs ≡ Link front (Answer answer) ∷ Mark ask.id counts ∷ []
    outs_own =
        ap (λ (l : List Out). filter (is_own_out whose) l) step
        ∙ kept (is_own_out whose) (Link front (Answer answer)) (Mark ask.id counts ∷ []) answer_own
        ∙ ap (λ (l : List Out). Link front (Answer answer) ∷ l) (kept (is_own_out whose) (Mark ask.id counts) [] ask_own)

    shown_then : TalkShows whose next.state (on_link murder.links name me ++ messages_to me next.outs) (on_link left me name) name_at.nowhere
    shown_then =
        as_before murder given store name node front (Ask ask) takes is_front.no_master
        (λ d. TalkShows whose next.state (on_link murder.links name me ++ messages_to me next.outs) d name_at.nowhere)
        (messages_leave whose murder.master name node (on_link murder.links name me) (on_link murder.links me name) given front ask name_at.nowhere
        (talk murder given store name node front (Ask ask) takes) is_front.no_master none (is.shows name node takes.there))

    pub is_answered_then : IsInThen murder name front next front replica id (place.is_answered name answer)
    unfolding put_all put_out
    is_answered_then =
        goes_to murder given store name node front (Ask ask) takes front replica id (place.is_asked name ask) is_front is stays_me (place.is_answered name answer)
        (λ q ne. refl) refl
        (puts_one id.conn name left next.outs id.command front (Answer answer) (Mark ask.id counts ∷ []) outs_own refl (answer_on id.command answer)
        none_left)
        shown_then (next.state, node_own murder.nodes name next.state)

  -- for a name
  module _ (kind : AskKind) (named : name_kind ask.op ≡ Some kind) (fits : IsFitting (Ask ask)) (its_own : ask.id ≡ id) where
    abbrev its_ask : NameAsk
    its_ask = name_ask front ask kind

    moved_so : MovesCommand whose me node next (on_link murder.links name me) (on_link left me name) (asked_move node.flows node.home.held its_ask)
    moved_so =
        as_before murder given store name node front (Ask ask) takes is_front.no_master
        (λ d. MovesCommand whose me node next (on_link murder.links name me) d (asked_move node.flows node.home.held its_ask))
        (ask_moves whose murder.master name node (on_link murder.links name me) (on_link murder.links me name) given front ask kind
        (talk murder given store name node front (Ask ask) takes) is_front.no_master fits named ask_own (is.shows name node takes.there))

    tested_front : (body : Option AnswerBody) → TellsFront front (tested_move its_ask body)
    tested_front (Some body) = refl
    tested_front None = tt

    asked_front : (resync : Option Resync) → TellsFront front (asked_move_by node.flows node.home.held its_ask resync)
    asked_front None = tested_front (refusal node.flows node.home.held its_ask.name its_ask.kind)
    asked_front (Some it) = tt

    tested_from : (body : Option AnswerBody) → SendsFrom id.command (tested_move its_ask body)
    tested_from (Some body) = tt
    tested_from None = omega (arith, ap (λ (i : AskId). i.command) its_own)

    asked_from : (resync : Option Resync) → SendsFrom id.command (asked_move_by node.flows node.home.held its_ask resync)
    asked_from None = tested_from (refusal node.flows node.home.held its_ask.name its_ask.kind)
    asked_from (Some it) = tt

    pub is_moved_then : IsMovedThen murder name front node next front replica id (asked_move node.flows node.home.held its_ask)
    is_moved_then =
        moves_to murder given store name node front (Ask ask) takes front replica id (place.is_asked name ask) is_front is stays_me none_left (λ q ne. refl) refl
        (asked_move node.flows node.home.held its_ask) (asked_front node.flows.resync) (asked_from node.flows.resync) moved_so

pub ask_is_answered : AskIsAnswered
ask_is_answered murder given store name node front replica id ask answer counts takes is_front none same step is =
    is_answered_then murder given store name node front replica id ask takes is_front is none answer counts same step

pub ask_is_moved : AskIsMoved
ask_is_moved murder given store name node front replica id ask kind takes is_front fits its_own named is =
    is_moved_then murder given store name node front replica id ask takes is_front is kind named fits its_own

-- ---- the response to its line

-- a response ends its flow, or lets it send the next line: what holds of these holds of whatever comes of it
module _ (mailbox : List ℕ) (flow : Flow) (Is : Move → Type 0) (ended : (body : AnswerBody) → Is (ends flow body))
    (made : Is (move.is_sent mailbox (record flow { stage = Making }))) (deleted : Is (move.is_sent mailbox (record flow { stage = Deleting }))) where
  is_it : (one it : Move) → Some one ≡ Some it → Is one → Is it
  is_it one it e is = let same : one ≡ it = cc in subst Is same is

  reserved_is : (serial : Option ℕ) → Is (reserved_move mailbox flow serial)
  reserved_is None = ended _
  reserved_is (Some serial) = made

  heard_by : (stage : Stage) (it : MResponse) (to : Move) → heard_move_by mailbox flow stage it ≡ Some to → Is to
  heard_by Reserving (response.Ok text) to e = is_it _ to e (reserved_is _)
  heard_by Reserving (response.No text) to e = is_it _ to e (ended _)
  heard_by Reserving (response.Bad text) to e = is_it _ to e (ended _)
  heard_by Making (response.Ok text) to e = is_it _ to e (ended _)
  heard_by Making (response.No text) to e = is_it _ to e (ended _)
  heard_by Making (response.Bad text) to e = is_it _ to e (ended _)
  heard_by Deactivating (response.Ok text) to e = is_it _ to e deleted
  heard_by Deactivating (response.No text) to e = cc
  heard_by Deactivating (response.Bad text) to e = cc
  heard_by Deleting (response.Ok text) to e = is_it _ to e (ended _)
  heard_by Deleting (response.No text) to e = cc
  heard_by Deleting (response.Bad text) to e = cc
  heard_by Reserving (response.Mailbox n at acl) to e = cc
  heard_by Reserving (response.Reserve n at) to e = cc
  heard_by Reserving (response.Delete n) to e = cc
  heard_by Making (response.Mailbox n at acl) to e = cc
  heard_by Making (response.Reserve n at) to e = cc
  heard_by Making (response.Delete n) to e = cc
  heard_by Deactivating (response.Mailbox n at acl) to e = cc
  heard_by Deactivating (response.Reserve n at) to e = cc
  heard_by Deactivating (response.Delete n) to e = cc
  heard_by Deleting (response.Mailbox n at acl) to e = cc
  heard_by Deleting (response.Reserve n at) to e = cc
  heard_by Deleting (response.Delete n) to e = cc

  pub heard_is : (it : MResponse) (to : Move) → heard_move mailbox flow it ≡ Some to → Is to
  heard_is it to e = heard_by flow.stage it to e

-- the answer at a response goes to the frontend of the flow
pub heard_front : (mailbox : List ℕ) (flow : Flow) (it : MResponse) (to : Move) → heard_move mailbox flow it ≡ Some to → TellsFront flow.front to
heard_front mailbox flow it to e = heard_is mailbox flow (TellsFront flow.front) (λ body. refl) tt tt it to e

-- and its next line is of the same command
heard_from : (first : ℕ) (mailbox : List ℕ) (flow : Flow) (it : MResponse) (to : Move) → heard_move mailbox flow it ≡ Some to → first ≤ (flow.ask).command
    → SendsFrom first to
heard_from first mailbox flow it to e le = heard_is mailbox flow (SendsFrom first) (λ body. tt) le le it to e

module _ (murder : Murder) (given : Given) (store : Store) (name : List ℕ) (node : BackNode) (message : LinkMsg) (front : List ℕ) (replica : Replica)
    (id : AskId) (at : Location) (mailbox : List ℕ) (flow : Flow) (it : MResponse) (takes : HomeTakes murder given store name node murder.master.me message)
    (is_front : IsFront murder front) (own : about message ≡ of_connection id.conn) (server : at.server ≡ name) (front_is : flow.front ≡ front)
    (is : IsIn murder front replica id (place.is_at at (name_at.hears mailbox flow it))) where
  abbrev its : Whose
  its = is_of_connection id.conn

  abbrev here : Place
  here = place.is_at at (name_at.hears mailbox flow it)

  at_is : at ≡ node.flows.me
  at_is = its_me murder name node takes.there at (name_at.hears mailbox flow it) server is.there

  shown : TalkShows its node (on_link murder.links name murder.master.me) (message ∷ takes.first.rest) (name_at.hears mailbox flow it)
  shown = subst (λ d. TalkShows its node (on_link murder.links name murder.master.me) d (name_at.hears mailbox flow it)) takes.first.first
      (subst (λ p. TalkShows its node (on_link murder.links name murder.master.me) (on_link murder.links murder.master.me name) p)
      (at_own at name (name_at.hears mailbox flow it) server) (is.shows name node takes.there))

  heard : IsHeard its murder.master.me node message (on_link murder.links name murder.master.me) takes.first.rest mailbox flow it
  heard =
      answer_moves its murder.master name node (on_link murder.links name murder.master.me) takes.first.rest given message mailbox flow it
      (hearing murder given store name node message takes) (own_it id.conn message own) shown

  is_on : is_over id.command message ≡ false
  is_on = line_down_on murder front replica id here name node takes.there message own is takes.first

  -- the response is that of the place, which isn't over
  from_on : id.command ≤ (flow.ask).command
  from_on = answer_from id.command flow it shown.at.numbered
      (on_of id.command (of_connection id.conn) (answer_message flow it)
      (found_about id.command murder.links murder.master.me at.server (answer_message flow it) (of_connection id.conn) is.message))

  has_heard : HasHeard murder name node (node_takes node murder.master.me message) front replica id mailbox flow it
  has_heard = record {
    move_is = heard.move;
    is = heard.is;
    moved = moves_to murder given store name node murder.master.me message takes front replica id here is_front is
        (master_me murder given store name node message takes)
        (its_first murder front replica id here murder.master.me name message takes.first own is_on is).1
        (λ q ne. at_other at name q (name_at.hears mailbox flow it) server ne) refl heard.move
        (subst (λ f. TellsFront f heard.move) front_is (heard_front mailbox flow it heard.move heard.is))
        (heard_from id.command mailbox flow it heard.move heard.is from_on)
        (moves_so murder given store name node message takes id.conn heard.move heard.moved);
  }

pub response_is_heard : ResponseIsHeard
response_is_heard murder given store name node message front replica id at mailbox flow it takes is_front own server front_is is = (
  at_is murder given store name node message front replica id at mailbox flow it takes is_front own server front_is is,
  has_heard murder given store name node message front replica id at mailbox flow it takes is_front own server front_is is,
)
