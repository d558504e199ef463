-- The line of the flow of a CREATE or DELETE comes to the master, and is the command's point. The body is that with which the backend answers at the master's
-- response (name_commands, `heard_move`).
use Rattle.std.specs.Prelude.{◌≡◌, ℕ, true, List, [], ◌∷◌, ◌++◌, filter, Some}
use Rattle.asking_core.specs.Answered.{answered}
use Rattle.back_links.specs.MasterEvents.{given_in}
use Rattle.back_node.specs.declared.node.BackNode.{BackNode}
use Rattle.link_msg.specs.declared.answer.AnswerBody.{AnswerBody}
use Rattle.link_msg.specs.declared.counts.Counts.{Counts}
use Rattle.link_msg.specs.declared.message.LinkMsg.{LinkMsg}
use Rattle.link_msg.specs.declared.out.Out.TheVariants.{Link, Mark}
use Rattle.link_queue.specs.Links.{on_link}
use Rattle.master_core.specs.Linked.{node_says}
use Rattle.master_core.specs.Whose.{TellNobody}
use Rattle.mupdate_codec.specs.declared.command.MResponse.{MResponse}
use Rattle.mur_model.specs.declared.store.Store.{Store}
use Rattle.name_commands.specs.Moves.{ends, heard_move}
use Rattle.name_commands.specs.Places.{TalkShows, sends, answer_message}
use Rattle.name_commands.specs.Whose.{is_command, is_own_message, is_own_out}
use Rattle.name_flows.specs.declared.flow.Flow.{Flow}
use Rattle.name_links.specs.Serials.{Given}
use Rattle.many_links.specs.Murder.{Murder, master_takes}
use Rattle.many_links.specs.ManyHold.{ManyHold}
use Rattle.point_links.specs.Carried.{CarriesOut, turn_at}
use Rattle.point_links.specs.Commands.{ClientCommand, told_turn}

-- the line of a CREATE's or DELETE's flow is the first message of its backend to the master
pub record LineComes (murder : Murder) (given : Given) (store : Store) (c : ClientCommand) (name : List ℕ) (node : BackNode) (message : LinkMsg)
    (rest : List LinkMsg) (flow : Flow) : Type 0 where
  pub holds : ManyHold murder given store
  pub streams : TellNobody murder.master.streams
  pub there : murder.nodes name ≡ Some node
  pub first : on_link murder.links name murder.master.me ≡ message ∷ rest
  pub own : is_own_message (is_command c.id) message ≡ true
  pub placed : TalkShows (is_command c.id) node (message ∷ rest) (on_link murder.links murder.master.me name) (sends c.name flow)

-- The master takes it, and this is the command's point: the step counts so, the store does what the command does, and the backend answers with this body
-- at the response, of which the client is told what the store replies.
pub record LineIsPoint (murder : Murder) (given : Given) (store : Store) (c : ClientCommand) (name : List ℕ) (message : LinkMsg) (flow : Flow) (later : Store)
    (serial : ℕ) (counts : Counts) (body : AnswerBody) : Type 0 where
  pub it : MResponse
  pub step : filter (is_own_out (is_command c.id)) (node_says murder.master name message).outs
      ≡ Link name (answer_message flow it) ∷ Mark c.id counts ∷ []
  pub then_holds : ManyHold (master_takes murder name message) (given ++ given_in murder.master.table name message) later
  pub carries : CarriesOut store later c.name c.work serial counts
  pub heard : heard_move c.name flow it ≡ Some (ends flow body)
  pub told : (master : List ℕ) → answered master c.id c.was c.waiting body ≡ told_turn c (turn_at store c.name c.work serial)
