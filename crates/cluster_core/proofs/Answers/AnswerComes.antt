-- The answer of the server that was asked comes for the command that waits: its client is told of it, or the command waits on.
use Rattle.std.proofs.Common.{◌≡◌, ℕ, ◌+◌, true, nat_eq, List, Option, Some, sym, ◌∙◌, ap, subst, arith}
use Rattle.std.proofs.lemmas.Bool.Decides.{nat_tests}
use Rattle.ask_routes.specs.declared.next.Why.TheVariants as why
use Rattle.asking_core.specs.Answered.{WentOn, answered}
use Rattle.asking_core.specs.declared.waiting.At.TheVariants.{Home, Barrier as at_master}
use Rattle.asking_core.specs.declared.waiting.Waiting.{Waiting as WaitingFor}
use Rattle.back_node.specs.declared.node.BackNode.{BackNode}
use Rattle.feed_core.specs.declared.replica.Replica.{Replica}
use Rattle.front_core.specs.declared.connection.Connection.{Connection}
use Rattle.front_core.specs.declared.connection.Stage.TheVariants.{Waits}
use Rattle.front_core.specs.Answered.{answer_by, answer_comes, goes_on_by}
use Rattle.front_core.specs.Taken.{Turned, Ways, next_of}
use Rattle.imap_talk.specs.Inputs.{requests_in}
use Rattle.imap_talk.specs.declared.inputs.Input.{Input}
use Rattle.imap_types.specs.declared.command.Tag.{Tag}
use Rattle.link_msg.specs.declared.answer.AnswerBody.{AnswerBody}
use Rattle.link_msg.specs.declared.answer.AnswerBody.TheVariants.{Moved}
use Rattle.link_msg.specs.declared.answer.BackAnswer.{BackAnswer}
use Rattle.mark_history.specs.Marked.{Tale}
use Rattle.mur_base.specs.declared.point.AskId.{AskId}
use Rattle.mur_model.specs.declared.session.Sess.{Sess}
use Rattle.mur_model.specs.declared.setting.Setting.{Setting}
use Rattle.many_links.specs.Murder.{Nodes}
use Rattle.point_links.specs.AtHome.{IsElsewhere}
use Rattle.point_links.specs.AtHome.IsElsewhere.{moved, not_now}
use Rattle.point_links.specs.Commands.{ClientCommand, WaitsOn}
use Rattle.point_links.proofs.Told.{moved_waits, not_now_waits}
use Rattle.front_core.specs.Ups.{Ups}
use Rattle.cluster_core.specs.declared.world.World.{World}
use Rattle.cluster_core.specs.World.{home_at}
use Rattle.cluster_core.proofs.Commands.Knows.{Knows}
use Rattle.cluster_core.proofs.Commands.Knows.Knows.{is_decided, undecided}
use Rattle.cluster_core.proofs.Commands.Place.{Place as place}
use Rattle.cluster_core.proofs.Commands.Standing.{Fixed}
use Rattle.cluster_core.proofs.Connections.FrameLaw.{ways_for}
use Rattle.cluster_core.proofs.Answers.GoesOn.{MaySend, StandsSo, on_stands, told_stands, turned_by}
use Rattle.cluster_core.proofs.Answers.Replied.{InputsCome, IsHeard}
use Rattle.cluster_core.proofs.Answers.WaitsOn.{AsksBackend}

-- a server that an answer names is a backend
abbrev pub NamesBackend : Nodes → AnswerBody → Type 0
NamesBackend nodes body = (server : List ℕ) → body ≡ Moved server → (node : BackNode) × (nodes server ≡ Some node)

-- ---- where another node is asked

elsewhere_waits : (c : ClientCommand) (master : List ℕ) (body : AnswerBody) → IsElsewhere body → WaitsOn master c (answered master c.id c.was c.waiting body)
elsewhere_waits c master body not_now = not_now_waits c master
elsewhere_waits c master body (moved server) = moved_waits c master server

pub same_server : {one other : List ℕ} → Home one ≡ Home other → one ≡ other
same_server e = cc

elsewhere_backend : (nodes : Nodes) (master : List ℕ) (id : AskId) (session : Sess) (it : WaitingFor) (body : AnswerBody) → IsElsewhere body
    → NamesBackend nodes body → AsksBackend nodes ((answered master id session it body).waiting).at
unfolding answered
elsewhere_backend nodes master id session it body not_now names = λ server e. absurd (let no : at_master why.NotNow ≡ Home server = e in cc)
elsewhere_backend nodes master id session it body (moved server) names = λ other e.
    let same : server ≡ other = same_server e in names other (ap Moved same)

-- ---- the answer fits the command

pub fits : (setting : Setting) (ways : Ways) (conn : ℕ) (connection : Connection) (tag : Tag) (it : WaitingFor) (answer : BackAnswer)
    → (answer.id).command ≡ connection.answered + 1 → connection.stage ≡ Waits tag it
    → answer_comes setting ways conn connection answer
    ≡ goes_on_by setting ways conn connection tag (answered ways.master (next_of conn connection) connection.session it answer.body)
unfolding answer_comes answer_by
fits setting ways conn connection tag it answer number stage =
    let same : nat_eq (answer.id).command (connection.answered + 1) ≡ true = grind (arith, nat_tests) in
    ap (λ b. answer_by setting ways conn connection answer b connection.stage) same ∙ ap (answer_by setting ways conn connection answer true) stage

module _ (fixed : Fixed) (front : List ℕ) (ups : Ups) (replica : Replica) (conn : ℕ) (inputs : List Input) (held : Option (List ℕ)) (connection : Connection)
    (world : World) (story : Tale) (server : List ℕ) (answer : BackAnswer)
    (heard : IsHeard fixed front replica conn inputs held connection world story (place.is_answered server answer)) where
  abbrev c : ClientCommand
  c = (heard.waiting).c

  -- what comes of it
  abbrev next : WentOn
  next = answered fixed.master c.id c.was c.waiting answer.body

  next_is : next_of conn connection ≡ c.id
  next_is = ap (λ n. record { conn = conn; command = n + 1 }) heard.count ∙ sym ((heard.waiting).of).its

  turns_so : answer.id ≡ c.id
      → answer_comes fixed.setting (ways_for fixed ups replica) conn connection answer
      ≡ turned_by fixed front ups replica conn inputs held connection world story (place.is_answered server answer) heard next
  turns_so its =
      fits fixed.setting (ways_for fixed ups replica) conn connection (heard.waiting).tag c.waiting answer
      (ap (λ (i : AskId). i.command) (its ∙ sym next_is)) (heard.waiting).stage
      ∙ ap (λ i. goes_on_by fixed.setting (ways_for fixed ups replica) conn connection (heard.waiting).tag
      (answered fixed.master i connection.session c.waiting answer.body)) next_is
      ∙ ap (λ s. goes_on_by fixed.setting (ways_for fixed ups replica) conn connection (heard.waiting).tag
      (answered fixed.master c.id s c.waiting answer.body)) (sym ((heard.waiting).of).was_is)

  by_knows : InputsCome fixed front ups replica conn inputs held world story → story.talk.requests conn ≡ requests_in inputs → MaySend fixed front ups conn world story → NamesBackend (home_at world) answer.body
      → Knows fixed.master fixed.first front c (heard.waiting).tag (story.told conn) (story.talk.answers conn) (story.course.sessions conn)
      (place.is_answered server answer)
      → StandsSo fixed front replica conn inputs held world story (answer_comes fixed.setting (ways_for fixed ups replica) conn connection answer)
  by_knows come requests may names (undecided said was tells) =
      subst (λ (t : Turned). StandsSo fixed front replica conn inputs held world story t) (sym (turns_so tells.0))
      (on_stands fixed front ups replica conn inputs held connection world story (place.is_answered server answer) heard come requests may next
      (elsewhere_waits c fixed.master answer.body tells.1)
      (elsewhere_backend (home_at world) fixed.master c.id c.was c.waiting answer.body tells.1 names) said was)
  by_knows come requests may names (is_decided turn said session both brings) =
      subst (λ (t : Turned). StandsSo fixed front replica conn inputs held world story t) (sym (turns_so brings.0))
      (told_stands fixed front ups replica conn inputs held connection world story (place.is_answered server answer) heard come turn next
      (brings.1 (c.waiting).at) said session both)

  -- WHAT THE ANSWER MAKES OF THE CONNECTION
  pub answer_turns : InputsCome fixed front ups replica conn inputs held world story → story.talk.requests conn ≡ requests_in inputs → MaySend fixed front ups conn world story
      → NamesBackend (home_at world) answer.body
      → StandsSo fixed front replica conn inputs held world story (answer_comes fixed.setting (ways_for fixed ups replica) conn connection answer)
  answer_turns come requests may names = by_knows come requests may names (heard.waiting).knows
