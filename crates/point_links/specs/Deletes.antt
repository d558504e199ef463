-- The point of a DELETE (RFC 9051, 6.3.5) behind its backend: the step in which the master takes the DELETE for it (RFC 3656, 4.4). At the DEACTIVATE before
-- it the mailbox stays.
use Rattle.std.specs.Prelude.{◌≡◌, ℕ, List, [], ◌∷◌, ◌++◌, filter, Some}
use Rattle.back_links.specs.MasterEvents.{given_in}
use Rattle.back_node.specs.declared.node.BackNode.{BackNode}
use Rattle.link_msg.specs.declared.counts.Counts.TheVariants.{Always}
use Rattle.link_msg.specs.declared.message.LinkMsg.{LinkMsg}
use Rattle.link_msg.specs.declared.out.Out.TheVariants.{Link}
use Rattle.link_msg.specs.declared.outcome.Outcome.TheVariants.{None as nothing}
use Rattle.mail_message.specs.Boxes.{Content}
use Rattle.master_core.specs.Linked.{node_says}
use Rattle.mupdate_codec.specs.declared.command.MResponse.{MResponse}
use Rattle.mur_model.specs.declared.store.Store.{Store}
use Rattle.mur_model.specs.Store.{box_at}
use Rattle.name_commands.specs.Moves.{heard_move}
use Rattle.name_commands.specs.Places.{answer_message}
use Rattle.name_commands.specs.Whose.{is_command, is_own_out}
use Rattle.name_flows.specs.declared.flow.Flow.{Flow}
use Rattle.name_flows.specs.Running.{done}
use Rattle.name_links.specs.Serials.{Given}
use Rattle.many_links.specs.Murder.{Murder, master_takes}
use Rattle.many_links.specs.ManyHold.{ManyHold}
use Rattle.point_links.specs.Commands.{ClientCommand}
use Rattle.mur_model.specs.Needed.{Delete}
use Rattle.mur_model.specs.Store.{without_box}
use Rattle.name_commands.specs.Moves.Move.{is_sent}
use Rattle.name_flows.specs.declared.flow.Stage.TheVariants.{Deactivating, Deleting}
use Rattle.point_links.specs.FlowLines.{LineComes, LineIsPoint}

-- ---- it is carried out

-- there was a mailbox of the name, and from here on there is none
pub record IsDeleted (murder : Murder) (given : Given) (store : Store) (c : ClientCommand) (name : List ℕ) (message : LinkMsg) (flow : Flow) : Type 0 where
  pub box : Content
  pub was : box_at store c.name ≡ Some box
  pub point : (serial : ℕ) → LineIsPoint murder given store c name message flow (without_box store c.name) serial Always (done nothing)

abbrev pub DeleteDeletes : Type 0
DeleteDeletes = (murder : Murder) (given : Given) (store : Store) (c : ClientCommand) (name : List ℕ) (node : BackNode) (message : LinkMsg)
    (rest : List LinkMsg) (flow : Flow) → LineComes murder given store c name node message rest flow
    → c.work ≡ Delete → flow.stage ≡ Deleting → IsDeleted murder given store c name message flow

-- ---- it isn't yet

-- at the response the backend sends DELETE
pub record IsClosed (murder : Murder) (given : Given) (store : Store) (c : ClientCommand) (name : List ℕ) (message : LinkMsg) (flow : Flow) : Type 0 where
  pub it : MResponse
  pub step : filter (is_own_out (is_command c.id)) (node_says murder.master name message).outs ≡ Link name (answer_message flow it) ∷ []
  pub then_holds : ManyHold (master_takes murder name message) (given ++ given_in murder.master.table name message) store
  pub heard : heard_move c.name flow it ≡ Some (is_sent c.name (record flow { stage = Deleting }))

abbrev pub DeactivateCloses : Type 0
DeactivateCloses = (murder : Murder) (given : Given) (store : Store) (c : ClientCommand) (name : List ℕ) (node : BackNode) (message : LinkMsg)
    (rest : List LinkMsg) (flow : Flow) → LineComes murder given store c name node message rest flow
    → flow.stage ≡ Deactivating → IsClosed murder given store c name message flow
