-- What holds of a command that waits, whatever its frontend knows and whatever comes.
use Rattle.std.specs.Prelude.{◌≡◌, ◌≢◌, ℕ, List}
use Rattle.feed_core.specs.Feed.{Recs}
use Rattle.link_msg.specs.declared.answer.AnswerBody.{AnswerBody}
use Rattle.link_msg.specs.declared.answer.AnswerBody.TheVariants as answer
use Rattle.link_msg.specs.declared.message.LinkMsg.TheVariants.{Ask, Line}
use Rattle.mur_base.specs.declared.point.AskId.{AskId}
use Rattle.mur_base.specs.declared.point.What.{What}
use Rattle.mur_base.specs.declared.point.What.TheVariants.{Reserved, Unreached}
use Rattle.imap_types.specs.declared.reply.Reply.{Reply}
use Rattle.mur_model.specs.declared.session.Sess.{Sess}
use Rattle.ask_routes.specs.declared.next.Why.{Why}
use Rattle.ask_routes.specs.Barrier.{noop_line}
use Rattle.ask_routes.specs.Ways.{ask_for, behind_ok, first_step}
use Rattle.ask_routes.specs.declared.next.Next.TheVariants as next
use Rattle.asking_core.specs.declared.then.Then.{Then}
use Rattle.asking_core.specs.declared.then.Then.TheVariants as then
use Rattle.asking_core.specs.declared.waiting.At.{At}
use Rattle.asking_core.specs.declared.waiting.At.TheVariants.{Home, Barrier}
use Rattle.asking_core.specs.declared.waiting.Sent.{Sent}
use Rattle.asking_core.specs.declared.waiting.Waiting.{Waiting}
use Rattle.asking_core.specs.Begins.{ask_of, first_sent}
use Rattle.asking_core.specs.Answered.{WentOn, answered, goes_on, sends}
use Rattle.asking_core.specs.Cleared.{cleared}

-- ---- what goes out

-- the message goes to the node for which the command waits from then on: its ask to a server, or a NOOP to the master
abbrev pub FitsAt : List ℕ → AskId → Sess → Waiting → Sent → At → Type 0
FitsAt master id session it sent (Home server) = (sent.to ≡ server) × (sent.message ≡ Ask (ask_of id session it))
FitsAt master id session it sent (Barrier cause) = (sent.to ≡ master) × (sent.message ≡ Line (noop_line id))

-- what is asked for the command stays what it was, whomever it asks
pub record AsksOn (master : List ℕ) (id : AskId) (session : Sess) (it later : Waiting) (sent : Sent) : Type 0 where
  pub name_is : later.name ≡ it.name
  pub asking_is : later.asking ≡ it.asking
  pub fits : FitsAt master id session it sent later.at

abbrev pub BeginsToAsk : Type 0
BeginsToAsk = (recs : Recs) (master first : List ℕ) (id : AskId) (session : Sess) (it : Waiting)
    → AsksOn master id session it (first_sent recs master first id session it).waiting (first_sent recs master first id session it).sent

-- it begins as it is decided, so a server or the master is asked by the record of its name
abbrev pub BeginsAsDecided : Type 0
BeginsAsDecided = (recs : Recs) (master first : List ℕ) (id : AskId) (session : Sess) (it : Waiting)
    → sends session (first_sent recs master first id session it)
    ≡ goes_on master id session it (first_step recs first (ask_for it.name it.asking.op))

-- while it waits on, its session is as it was, and so is what it asks
abbrev pub IsHeldBack : List ℕ → AskId → Sess → Waiting → WentOn → Then → Type 0
IsHeldBack master id session it next (then.Sends sent) = (next.session ≡ session) × AsksOn master id session it next.waiting sent
IsHeldBack master id session it next then.Lost = next.session ≡ session
IsHeldBack master id session it next then.Stays = next.waiting ≡ it
IsHeldBack master id session it next (then.Needs need) = Unit {0}
IsHeldBack master id session it next (then.Refused cause reply) = Unit {0}

abbrev pub AsksTheSame : Type 0
AsksTheSame = (master : List ℕ) (id : AskId) (session : Sess) (it : Waiting) (body : AnswerBody)
    → IsHeldBack master id session it (answered master id session it body) (answered master id session it body).then

abbrev pub ClearedAsksTheSame : Type 0
ClearedAsksTheSame = (recs : Recs) (master first : List ℕ) (id : AskId) (session : Sess) (it : Waiting) (cause : Why)
    → IsHeldBack master id session it (cleared recs master first id session it cause) (cleared recs master first id session it cause).then

-- ---- refusals

-- an answer refuses for a node that its server hasn't reached
abbrev pub RefusedByAnswer : Type 0
RefusedByAnswer = (master : List ℕ) (id : AskId) (session : Sess) (it : Waiting) (body : AnswerBody) (cause : What) (reply : Reply)
    → (answered master id session it body).then ≡ then.Refused cause reply
    → (node : List ℕ) × (body ≡ answer.Unreached node) × (cause ≡ Unreached node)

-- the master's OK refuses what is decided to be refused
abbrev pub RefusedBehindOk : Type 0
RefusedBehindOk = (recs : Recs) (master first : List ℕ) (id : AskId) (session : Sess) (it : Waiting) (reason : Why) (cause : What) (reply : Reply)
    → (cleared recs master first id session it reason).then ≡ then.Refused cause reply
    → (cause ≡ Reserved) × (behind_ok recs first (ask_for it.name it.asking.op) reason ≡ next.Refused)

-- ---- no round of NOOPs

-- behind the master's OK it isn't asked again
abbrev pub ClearedOnce : Type 0
ClearedOnce = (recs : Recs) (master first : List ℕ) (id : AskId) (session : Sess) (it : Waiting) (reason again : Why) (sent : Sent)
    → (cleared recs master first id session it reason).then ≡ then.Sends sent → (cleared recs master first id session it reason).waiting.at ≢ Barrier again
