-- The points of a CREATE (RFC 9051, 6.3.4) behind its backend: the step in which the master takes ACTIVATE for it, or refuses RESERVE since the name is active
-- (RFC 3656, 4.1 and 4.9).
use Rattle.std.specs.Prelude.{◌≡◌, ℕ, true, false, List, [], ◌∷◌, ◌++◌, filter, Some, None}
use Rattle.asking_core.specs.Answered.{answered}
use Rattle.back_links.specs.MasterEvents.{given_in}
use Rattle.back_node.specs.declared.node.BackNode.{BackNode}
use Rattle.link_msg.specs.declared.answer.AnswerBody.TheVariants.{NotNow}
use Rattle.link_msg.specs.declared.counts.Counts.TheVariants.{Always, IfAnswered}
use Rattle.link_msg.specs.declared.message.LinkMsg.{LinkMsg}
use Rattle.link_msg.specs.declared.out.Out.TheVariants.{Link}
use Rattle.link_msg.specs.declared.outcome.Outcome.TheVariants.{None as nothing, Exists, Limit}
use Rattle.mail_message.specs.Boxes.{Content}
use Rattle.master_core.specs.Linked.{node_says}
use Rattle.master_core.specs.Refusals.{is_active, is_full, is_reserved}
use Rattle.mupdate_codec.specs.declared.command.MResponse.{MResponse}
use Rattle.mur_model.specs.declared.store.Store.{Store}
use Rattle.mur_model.specs.Needed.{Make}
use Rattle.mur_model.specs.Store.{box_at}
use Rattle.name_commands.specs.Moves.{ends, heard_move}
use Rattle.name_commands.specs.Places.{answer_message}
use Rattle.name_commands.specs.Whose.{is_command, is_own_out}
use Rattle.name_flows.specs.declared.flow.Flow.{Flow}
use Rattle.name_flows.specs.declared.flow.Stage.TheVariants.{Reserving, Making}
use Rattle.name_flows.specs.Running.{done}
use Rattle.name_links.specs.Serials.{Given}
use Rattle.node_record.specs.Table.{record_at}
use Rattle.store_links.specs.TableEntries.{store_with}
use Rattle.many_links.specs.Murder.{Murder, master_takes}
use Rattle.many_links.specs.ManyHold.{ManyHold}
use Rattle.point_links.specs.Commands.{ClientCommand, WaitsOn}
use Rattle.point_links.specs.FlowLines.{LineComes, LineIsPoint}

-- ---- it is carried out

-- there was no mailbox of the name, and from here on there is one with this UIDVALIDITY
pub record IsCreated (murder : Murder) (given : Given) (store : Store) (c : ClientCommand) (name : List ℕ) (message : LinkMsg) (flow : Flow) : Type 0 where
  pub serial : ℕ
  pub none : box_at store c.name ≡ None
  pub point : LineIsPoint murder given store c name message flow (store_with store c.name serial) serial Always (done nothing)

-- while the table isn't full
abbrev pub ActivateCreates : Type 0
ActivateCreates = (murder : Murder) (given : Given) (store : Store) (c : ClientCommand) (name : List ℕ) (node : BackNode) (message : LinkMsg)
    (rest : List LinkMsg) (flow : Flow) → LineComes murder given store c name node message rest flow
    → c.work ≡ Make → flow.stage ≡ Making → is_full murder.master.table (record_at murder.master.table c.name) ≡ false
    → IsCreated murder given store c name message flow

-- ---- it is refused as the mailbox is there

pub record IsThere (murder : Murder) (given : Given) (store : Store) (c : ClientCommand) (name : List ℕ) (message : LinkMsg) (flow : Flow) : Type 0 where
  pub box : Content
  pub is : box_at store c.name ≡ Some box
  pub point : (serial : ℕ) → LineIsPoint murder given store c name message flow store serial IfAnswered (done Exists)

abbrev pub ReserveOfOneThere : Type 0
ReserveOfOneThere = (murder : Murder) (given : Given) (store : Store) (c : ClientCommand) (name : List ℕ) (node : BackNode) (message : LinkMsg)
    (rest : List LinkMsg) (flow : Flow) → LineComes murder given store c name node message rest flow
    → c.work ≡ Make → flow.stage ≡ Reserving → is_active (record_at murder.master.table c.name) ≡ true → IsThere murder given store c name message flow

-- ---- it is refused as there are as many mailboxes as there may be

abbrev pub ActivateOfFull : Type 0
ActivateOfFull = (murder : Murder) (given : Given) (store : Store) (c : ClientCommand) (name : List ℕ) (node : BackNode) (message : LinkMsg)
    (rest : List LinkMsg) (flow : Flow) → LineComes murder given store c name node message rest flow
    → c.work ≡ Make → flow.stage ≡ Making → is_full murder.master.table (record_at murder.master.table c.name) ≡ true
    → (serial : ℕ) → LineIsPoint murder given store c name message flow store serial IfAnswered (done Limit)

-- ---- it is put off as the name is reserved: this isn't its point, and the step doesn't count for it

pub record IsPutOff (murder : Murder) (given : Given) (store : Store) (c : ClientCommand) (name : List ℕ) (message : LinkMsg) (flow : Flow) : Type 0 where
  pub it : MResponse
  pub step : filter (is_own_out (is_command c.id)) (node_says murder.master name message).outs ≡ Link name (answer_message flow it) ∷ []
  pub then_holds : ManyHold (master_takes murder name message) (given ++ given_in murder.master.table name message) store
  pub heard : heard_move c.name flow it ≡ Some (ends flow NotNow)
  pub waits : (master : List ℕ) → WaitsOn master c (answered master c.id c.was c.waiting NotNow)

abbrev pub ReserveOfOneReserved : Type 0
ReserveOfOneReserved = (murder : Murder) (given : Given) (store : Store) (c : ClientCommand) (name : List ℕ) (node : BackNode) (message : LinkMsg)
    (rest : List LinkMsg) (flow : Flow) → LineComes murder given store c name node message rest flow
    → c.work ≡ Make → flow.stage ≡ Reserving → is_reserved (record_at murder.master.table c.name) ≡ true → IsPutOff murder given store c name message flow
