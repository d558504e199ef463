-- What a session makes of the answer of a mailbox's home is what one store replies that has the same mailbox (RFC 9051, 6).
use Rattle.std.specs.Prelude.{◌≡◌, List, ℕ, None, Some}
use Rattle.backend_core.specs.declared.backend.Backend.{Backend}
use Rattle.backend_core.specs.HomeStep.{HomeStep, held_at}
use Rattle.imap_types.specs.declared.reply.Reply.{Reply as ReplyOf}
use Rattle.link_msg.specs.declared.answer.AnswerBody.{AnswerBody}
use Rattle.link_msg.specs.declared.ask.FrontAsk.{FrontAsk}
use Rattle.mur_base.specs.declared.home.Phase.TheVariants.{Open as open_here}
use Rattle.mur_base.specs.declared.point.AskId.{AskId}
use Rattle.mur_model.specs.Act.{Acted}
use Rattle.mur_model.specs.Store.{box_at}
use Rattle.mur_model.specs.declared.need.Asking.{Asking}
use Rattle.mur_model.specs.declared.need.Awaited.{Awaited}
use Rattle.mur_model.specs.declared.need.Need.{Need}
use Rattle.mur_model.specs.declared.need.Need.TheVariants.{Reply, Leave}
use Rattle.mur_model.specs.declared.session.Sess.{Sess}
use Rattle.mur_model.specs.declared.session.Sess.TheVariants.{Ended}
use Rattle.mur_model.specs.declared.store.Store.{Store}
use Rattle.node_record.specs.declared.held.Held.{Held}
use Rattle.session_core.specs.Finish.{Finished, finish}
use Rattle.session_core.specs.Results.{result_of}
use Rattle.session_core.specs.declared.result.OpResult.{OpResult}

-- a store and a home that have the same of a name: no mailbox, or this one, which is open at the home
pub data HaveAlike (store : Store) (home : Backend) (name : List ℕ) : Type 0 where
  neither : box_at store name ≡ None → held_at home name ≡ None → HaveAlike store home name
  both : (held : Held) → held_at home name ≡ Some held → held.phase ≡ open_here → box_at store name ≡ Some held.content → HaveAlike store home name

-- a frontend's ask for what a session asked
abbrev pub ask_of : AskId → List ℕ → List ℕ → Asking → FrontAsk
ask_of id user name asking = record { id = id; user = user; name = name; selected = asking.selected; op = asking.op }

-- the reply is given, and with it the session goes on or has ended (RFC 9051, 3.4)
unfoldable pub given_with : ReplyOf → Sess → Need
given_with reply Ended = Leave reply
given_with reply session = Reply reply

-- the session and the reply of the store's act
abbrev pub finished_as : Acted → Finished
finished_as acted = record { session = acted.session; need = Some (given_with acted.reply acted.session) }

-- the home answers in this step, and the session that awaits the answer finishes by it as the store acts; the home then has of the name what
-- the store has
pub record AnswersAsActed (session : Sess) (name : List ℕ) (awaited : Awaited) (step : HomeStep) (acted : Acted) : Type 0 where
  pub body : AnswerBody
  pub result : OpResult
  pub answers : step.body ≡ Some body
  pub is_result : result_of body ≡ Some result
  pub finishes : finish session awaited result ≡ finished_as acted
  pub still : HaveAlike acted.store step.home name
