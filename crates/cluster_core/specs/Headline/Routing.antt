-- Which step is the point of a command: one in which a backend takes its ask for a mailbox's messages or the master takes a line under its tag, or one in
-- which its frontend answers it alone, or refuses it since it has the link to a node as down, or takes that link's End. A LIST asks no backend: the point of
-- one that tells names is the step in which the master takes its NOOP; of one that asks for the separator alone, or whose session may not list, its
-- frontend's own. A step that carries it out counts though its client is never told: a backend says so in its answer, and the master makes a mailbox or takes
-- one away.
use Rattle.std.specs.Prelude.{◌≡◌, ◌≢◌, ℕ, ◌+◌, ◌≤◌, ◌<◌, Bool, true, false, List, [], ◌∷◌, ◌++◌, length, All, Contains, Some}
use Rattle.ask_routes.specs.Barrier.{noop_line}
use Rattle.front_core.specs.declared.front.Front.{Front}
use Rattle.front_core.specs.Ups.{is_up}
use Rattle.imap_types.specs.declared.command.Command.TheVariants as command
use Rattle.imap_types.specs.declared.command.Tag.{Tag}
use Rattle.imap_types.specs.declared.op.Op.{Op}
use Rattle.imap_types.specs.declared.op.Op.TheVariants.{Create, Delete}
use Rattle.imap_types.specs.declared.reply.Code.{Code}
use Rattle.imap_types.specs.declared.reply.Verdict.TheVariants.{Ok as ok_reply}
use Rattle.imap_types.specs.declared.request.Answer.{Answer as ClientAnswer}
use Rattle.imap_types.specs.declared.request.Request.TheVariants.{Command as a_command}
use Rattle.link_msg.specs.declared.answer.AnswerBody.{AnswerBody}
use Rattle.link_msg.specs.declared.answer.AnswerBody.TheVariants.{Done}
use Rattle.link_msg.specs.declared.ask.FrontAsk.{FrontAsk}
use Rattle.link_msg.specs.declared.message.LinkMsg.{LinkMsg}
use Rattle.link_msg.specs.declared.message.LinkMsg.TheVariants.{Line, Ask, Answer}
use Rattle.link_queue.specs.Broken.{is_broken}
use Rattle.link_queue.specs.Links.{on_link}
use Rattle.mupdate_codec.specs.Asks.{line_ask}
use Rattle.mur_base.specs.declared.point.AskId.{AskId}
use Rattle.mur_base.specs.declared.point.Point.{Point}
use Rattle.mur_base.specs.declared.point.What.{What}
use Rattle.mur_base.specs.declared.point.What.TheVariants.{Reply as replied, Lost as lost, Unreached as unreached}
use Rattle.mur_config.specs.declared.config.Config.{Config}
use Rattle.mur_model.specs.History.{Talk, numbered}
use Rattle.node_record.specs.Table.{is_mailbox_if, record_at}
use Rattle.schedule_text.specs.declared.event.Event.{Event}
use Rattle.schedule_text.specs.declared.event.Event.TheVariants.{Deliver}
use Rattle.cluster_core.specs.declared.world.World.{World}
use Rattle.cluster_core.specs.Headline.Backends.{IsBackend}
use Rattle.cluster_core.specs.World.{master_of, client_at, front_at, start}
use Rattle.cluster_core.specs.declared.world.World.{World}
use Rattle.cluster_core.specs.Flow.{run_steps}
use Rattle.cluster_core.specs.Headline.OneNode.{node_of, worker}
use Rattle.cluster_core.specs.Headline.OpenAt.{IsOpenAt}
use Rattle.cluster_core.specs.Headline.Outside.{table_at}

-- a backend turns to the master for it: a mailbox is made or deleted
unfoldable pub is_of_name : Op → Bool
is_of_name Create = true
is_of_name Delete = true
is_of_name op = false

-- whether an answer says that an ask for messages was carried out, whatever came of it
unfoldable pub says_done : AnswerBody → Bool
says_done (Done outcome seen) = true
says_done body = false

-- one of these steps takes a message from node to node
pub record Taken (config : Config) (steps : List Event) : Type 0 where
  pub before : List Event
  pub from : List ℕ
  pub to : List ℕ
  pub later : List Event
  pub parts : steps ≡ before ++ Deliver from to ∷ later
  pub message : LinkMsg
  pub rest : List LinkMsg
  pub comes : on_link (run_steps (start config) before).links from to ≡ message ∷ rest

-- it works on this command: a backend takes an ask for messages, or the master a line under the command's tag
pub data IsStepOf (config : Config) (steps : List Event) (id : AskId) (taken : Taken config steps) : Type 0 where
  at_home : (ask : FrontAsk) → taken.message ≡ Ask ask → ask.id ≡ id → is_of_name ask.op ≡ false → IsBackend config taken.to → IsStepOf config steps id taken
  at_master : (line : List ℕ) → taken.message ≡ Line line → line_ask line ≡ Some id → taken.to ≡ master_of config → IsStepOf config steps id taken

-- the command of this number is a LIST
pub record IsList (talk : Talk) (id : AskId) : Type 0 where
  pub tag : Tag
  pub reference : List ℕ
  pub mailbox : List ℕ
  pub asked : numbered (talk.requests id.conn) id.command ≡ Some (a_command tag (command.List reference mailbox))

-- it is a LIST of names, since its pattern isn't empty, and was answered OK
pub record IsListed (talk : Talk) (id : AskId) : Type 0 where
  pub is_list : IsList talk id
  pub of_names : is_list.mailbox ≢ []
  pub answer : ClientAnswer
  pub answered : numbered (talk.answers id.conn) id.command ≡ Some answer
  pub code : Code
  pub name : List ℕ
  pub ok : answer.reply.verdict ≡ ok_reply code name

-- the master takes the NOOP of this command
pub record TakesNoop (config : Config) (steps : List Event) (taken : Taken config steps) (id : AskId) : Type 0 where
  pub line : taken.message ≡ Line (noop_line id)
  pub to : taken.to ≡ master_of config

-- and that in the step of this point
pub record IsAtItsNoop (config : Config) (steps : List Event) (point : Point) : Type 0 where
  pub taken : Taken config steps
  pub at : point.step ≡ length taken.before + 1
  pub takes : TakesNoop config steps taken point.ask

-- in one of these steps the node works at which a client is connected
pub record IsAtItsNode (config : Config) (steps : List Event) (conn : ℕ) (step : ℕ) : Type 0 where
  pub before : List Event
  pub event : Event
  pub later : List Event
  pub parts : steps ≡ before ++ event ∷ later
  pub step_is : step ≡ length before + 1
  pub node : List ℕ
  pub client : node_of (client_at (run_steps (start config) before) conn) ≡ Some node
  pub works : worker (run_steps (start config) before) event ≡ Some node

-- the step of the master makes a mailbox of this name, or takes it away: a name that was only reserved is none
pub record ChangesMailbox (config : Config) (steps : List Event) (taken : Taken config steps) (name : List ℕ) : Type 0 where
  pub to : taken.to ≡ master_of config
  pub differs : is_mailbox_if (record_at (table_at (run_steps (start config) taken.before) (master_of config)) name)
      ≢ is_mailbox_if (record_at (table_at (run_steps (start config) (taken.before ++ Deliver taken.from taken.to ∷ [])) (master_of config)) name)

-- the step carries its command out: a backend has the name open, or the master makes a mailbox or takes one away
pub data CarriesOut (config : Config) (steps : List Event) (taken : Taken config steps) : Type 0 where
  where_open : (ask : FrontAsk) → taken.message ≡ Ask ask → IsOpenAt (run_steps (start config) taken.before) ask.name taken.to → CarriesOut config steps taken
  of_name : (name : List ℕ) → ChangesMailbox config steps taken name → CarriesOut config steps taken

-- or it leaves the master's table as it was, and is no loss of the command. So a step that just reserves a name is no point.
pub data Does (config : Config) (steps : List Event) (taken : Taken config steps) (what : What) : Type 0 where
  carries_out : CarriesOut config steps taken → Does config steps taken what
  only_answers : what ≢ lost → table_at (run_steps (start config) (taken.before ++ Deliver taken.from taken.to ∷ [])) (master_of config)
      ≡ table_at (run_steps (start config) taken.before) (master_of config) → Does config steps taken what

-- the frontend has the link to this node as down before a step or behind it
pub data HasDown (before after : World) (front node : List ℕ) : Type 0 where
  was_down : (it : Front) → front_at before front ≡ Some it → is_up it.ups node ≡ false → HasDown before after front node
  goes_down : (it : Front) → front_at after front ≡ Some it → is_up it.ups node ≡ false → HasDown before after front node

-- in one of these steps the frontend at which a client is connected works, and has the link to this node as down
pub record IsRefusedThere (config : Config) (steps : List Event) (conn : ℕ) (step : ℕ) (node : List ℕ) : Type 0 where
  pub at : IsAtItsNode config steps conn step
  pub down : HasDown (run_steps (start config) at.before) (run_steps (start config) (at.before ++ at.event ∷ [])) at.node node

-- a point stands where a step works on its command; or the frontend of its client answered it there alone, and no step works on it; or refused it there,
-- since it has the link to a node as down
pub data StandsAt (config : Config) (steps : List Event) (point : Point) : Type 0 where
  where_taken : (taken : Taken config steps) → IsStepOf config steps point.ask taken → point.step ≡ length taken.before + 1
      → Does config steps taken point.what → StandsAt config steps point
  at_frontend : point.what ≡ replied → IsAtItsNode config steps (point.ask).conn point.step
      → ((taken : Taken config steps) → IsStepOf config steps point.ask taken → ⊥) → StandsAt config steps point
  not_reached : (node : List ℕ) → point.what ≡ unreached node → IsRefusedThere config steps (point.ask).conn point.step node → StandsAt config steps point

abbrev pub point_at : ℕ → AskId → What → Point
point_at step ask what = record { step = step; ask = ask; what = what }

-- a step is its command's point: its reply, if its client was told, and else its loss
pub record IsItsPoint (talk : Talk) (points : List Point) (step : ℕ) (id : AskId) : Type 0 where
  pub told : id.command ≤ length (talk.answers id.conn) → Contains points (point_at step id replied)
  pub untold : length (talk.answers id.conn) < id.command → Contains points (point_at step id lost)

-- a step only saw a command: it is no loss of it, and a point of it only if its client was told
pub record IsOnlySeen (talk : Talk) (points : List Point) (step : ℕ) (id : AskId) : Type 0 where
  pub no_loss : All (λ (p : Point). p.step ≡ step → p.ask ≡ id → p.what ≢ lost) points
  pub told : All (λ (p : Point). p.step ≡ step → p.ask ≡ id → id.command ≤ length (talk.answers id.conn)) points

-- what becomes of an ask for messages that is taken, in the history of these steps, where so much was told
pub record AnswersAsk (config : Config) (talk : Talk) (steps : List Event) (points : List Point) (taken : Taken config steps) (ask : FrontAsk) : Type 0 where
  pub is_home : IsBackend config taken.to
  -- the backend answers in that step; on a broken link its answer is lost
  pub body : AnswerBody
  pub answers : is_broken (run_steps (start config) taken.before).broken taken.to taken.from ≡ false → on_link (run_steps (start config) (taken.before ++ Deliver taken.from taken.to ∷ [])).links taken.to taken.from
      ≡ on_link (run_steps (start config) taken.before).links taken.to taken.from ++ Answer (record { id = ask.id; body = body }) ∷ []
  -- it carries out the command exactly where it has the name open before the step, and that step is the command's point
  pub where_open : says_done body ≡ true → IsOpenAt (run_steps (start config) taken.before) ask.name taken.to
  pub is_done : IsOpenAt (run_steps (start config) taken.before) ask.name taken.to → says_done body ≡ true
  pub point : says_done body ≡ true → IsItsPoint talk points (length taken.before + 1) ask.id
  -- else the command goes on from there
  pub seen : says_done body ≡ false → IsOnlySeen talk points (length taken.before + 1) ask.id

-- its line is a command's, and this step is the command's point
pub record CountsFor (talk : Talk) (points : List Point) (step : ℕ) (message : LinkMsg) : Type 0 where
  pub line : List ℕ
  pub is : message ≡ Line line
  pub id : AskId
  pub its : line_ask line ≡ Some id
  pub point : IsItsPoint talk points step id

-- so it is with each ask for messages and with each change of the mailboxes in these steps, and with each point of their history
pub record AreRouted (config : Config) (talk : Talk) (steps : List Event) (points : List Point) : Type 0 where
  pub asks : (taken : Taken config steps) (ask : FrontAsk) → taken.message ≡ Ask ask → is_of_name ask.op ≡ false → AnswersAsk config talk steps points taken ask
  pub makes : (taken : Taken config steps) (name : List ℕ) → ChangesMailbox config steps taken name
      → CountsFor talk points (length taken.before + 1) taken.message
  -- no other step works on a LIST (RFC 9051, 6.3.9) than one in which the master takes its NOOP
  pub lists : (taken : Taken config steps) (id : AskId) → IsList talk id → IsStepOf config steps id taken → TakesNoop config steps taken id
  pub points_stand : All (StandsAt config steps) points
  -- and each LIST of names that was answered OK has its point in such a one
  pub listed : All (λ (point : Point). point.what ≡ replied → IsListed talk point.ask → IsAtItsNoop config steps point) points
