-- A backend takes the ask of a command at a mailbox: where it has the name open this is the command's point, and else the step only sees it.
use Rattle.std.proofs.Common.{◌≡◌, ℕ, true, false, List, [], ◌∷◌, refl, ap, subst}
use Rattle.asking_core.specs.Answered.{answered}
use Rattle.asking_core.specs.declared.waiting.At.{At}
use Rattle.back_node.specs.declared.node.BackNode.{BackNode}
use Rattle.back_node.specs.Takes.{node_takes}
use Rattle.backend_core.specs.HomeLaws.{is_open_here}
use Rattle.backend_core.specs.HomeStep.{held_at}
use Rattle.imap_types.specs.declared.command.Tag.{Tag}
use Rattle.link_msg.specs.declared.answer.AnswerBody.{AnswerBody}
use Rattle.link_msg.specs.declared.answer.BackAnswer.{BackAnswer}
use Rattle.link_msg.specs.declared.counts.Counts.{Counts}
use Rattle.link_msg.specs.declared.counts.Counts.TheVariants.{IfAnswered}
use Rattle.link_msg.specs.declared.message.LinkMsg.TheVariants.{Ask, Answer}
use Rattle.link_msg.specs.declared.out.Out.{Out}
use Rattle.link_msg.specs.declared.out.Out.TheVariants.{Link, Mark as mark}
use Rattle.link_queue.specs.Broken.{Broken}
use Rattle.many_links.specs.Murder.{Murder, home_takes}
use Rattle.many_links.specs.ManyHold.{ManyHold}
use Rattle.mark_history.specs.Marked.{Tale}
use Rattle.mark_history.specs.declared.mark.Mark.{Mark}
use Rattle.mur_base.specs.declared.point.AskId.{AskId}
use Rattle.mur_model.specs.declared.store.Store.{Store}
use Rattle.name_links.specs.Serials.{Given}
use Rattle.point_links.specs.AtHome.{AskComes, IsServed, its_ask}
use Rattle.point_links.specs.Carried.{turn_at}
use Rattle.point_links.specs.Commands.{ClientCommand, told_turn}
use Rattle.point_links.proofs.HomeLaw.{closed_sends_on, open_serves}
use Rattle.cluster_core.proofs.Commands.Knows.{TellsAtAnswer, waiting_at}
use Rattle.cluster_core.proofs.Commands.Place.{Place, Place as place}
use Rattle.cluster_core.proofs.Commands.Standing.{Fixed}
use Rattle.cluster_core.proofs.Points.Acts.{IsCarriedOut, IsOpen, IsSeen, carried_so, seen_so}

-- its answer is on its way back
abbrev pub answered_at : List ℕ → AskId → AnswerBody → Place
answered_at name id body = place.is_answered name (record { id = id; body = body })

-- what a backend of this name lets out that answers it
abbrev pub answer_outs : List ℕ → AskId → AnswerBody → Counts → List Out
answer_outs front id body counts = Link front (Answer (record { id = id; body = body })) ∷ mark id counts ∷ []

-- the name is open there: the store carries the command out in this step
pub record ServesIt (fixed : Fixed) (front : List ℕ) (conn : ℕ) (broken : Broken) (now : ℕ) (marks : List Mark) (story : Tale) (tag : Tag) (c : ClientCommand)
    (murder : Murder) (given : Given) (name : List ℕ) (node : BackNode) : Type 0 where
  pub body : AnswerBody
  pub counts : Counts
  pub later : Store
  pub step : (node_takes node front (Ask (its_ask c))).outs ≡ answer_outs front c.id body counts
  pub then_holds : ManyHold (home_takes murder name node front (Ask (its_ask c))) given later
  pub carried : IsCarriedOut fixed front conn broken now marks story tag c later counts (answered_at name c.id body)

-- it isn't: the step only sees it
pub record SendsItOn (fixed : Fixed) (front : List ℕ) (conn : ℕ) (broken : Broken) (now : ℕ) (marks : List Mark) (story : Tale) (tag : Tag) (c : ClientCommand)
    (murder : Murder) (given : Given) (name : List ℕ) (node : BackNode) : Type 0 where
  pub body : AnswerBody
  pub state : (node_takes node front (Ask (its_ask c))).state ≡ node
  pub step : (node_takes node front (Ask (its_ask c))).outs ≡ answer_outs front c.id body IfAnswered
  pub then_holds : ManyHold (home_takes murder name node front (Ask (its_ask c))) given story.course.store
  pub seen : IsSeen fixed front conn broken now marks story tag c (answered_at name c.id body)

abbrev pub OpenIsItsPoint : Type 0
OpenIsItsPoint = (fixed : Fixed) (front : List ℕ) (conn : ℕ) (broken : Broken) (now : ℕ) (marks : List Mark) (story : Tale) (tag : Tag) (c : ClientCommand)
    (murder : Murder) (given : Given) (name : List ℕ) (node : BackNode) → IsOpen fixed conn broken now marks story tag c
    → AskComes murder given story.course.store c name node front → is_open_here (held_at node.home c.name) ≡ true
    → ServesIt fixed front conn broken now marks story tag c murder given name node

abbrev pub ClosedIsSeen : Type 0
ClosedIsSeen = (fixed : Fixed) (front : List ℕ) (conn : ℕ) (broken : Broken) (now : ℕ) (marks : List Mark) (story : Tale) (tag : Tag) (c : ClientCommand)
    (murder : Murder) (given : Given) (name : List ℕ) (node : BackNode) → IsOpen fixed conn broken now marks story tag c
    → AskComes murder given story.course.store c name node front → is_open_here (held_at node.home c.name) ≡ false
    → SendsItOn fixed front conn broken now marks story tag c murder given name node

-- ---- whomever its frontend waits for

one_body : (front : List ℕ) (id : AskId) (one other : AnswerBody) (outs : List Out) (first second : Counts)
    → outs ≡ answer_outs front id one first → outs ≡ answer_outs front id other second → one ≡ other
one_body front id one other outs first second is too =
    let same : (record { id = id; body = one }) ≡ (record { id = id; body = other }) = cc in ap (λ (a : BackAnswer). a.body) same

comes_for : (murder : Murder) (given : Given) (store : Store) (c : ClientCommand) (name : List ℕ) (node : BackNode) (front : List ℕ) (at : At)
    → AskComes murder given store c name node front → AskComes murder given store (waiting_at c at) name node front
comes_for murder given store c name node front at comes =
    record { of_home = comes.of_home; holds = comes.holds; there = comes.there; other = comes.other }

tells_all : (murder : Murder) (given : Given) (store : Store) (c : ClientCommand) (name : List ℕ) (node : BackNode) (front master : List ℕ)
    → AskComes murder given store c name node front → (is_here : is_open_here (held_at node.home c.name) ≡ true)
    → (served : IsServed murder given store c name node front) (serial : ℕ)
    → TellsAtAnswer master c served.body (turn_at store c.name c.work serial)
tells_all murder given store c name node front master comes is_here served serial at =
    let then = open_serves murder given store (waiting_at c at) name node front (comes_for murder given store c name node front at comes) is_here in
    let same : then.body ≡ served.body =
    one_body front c.id then.body served.body (node_takes node front (Ask (its_ask c))).outs then.counts served.counts then.step served.step in
    subst (λ (b : AnswerBody). answered master c.id c.was (waiting_at c at).waiting b ≡ told_turn (waiting_at c at) (turn_at store c.name c.work serial)) same
    (then.told master serial)

pub open_is_its_point : OpenIsItsPoint
open_is_its_point fixed front conn broken now marks story tag c murder given name node is_open comes is_here =
    let served = open_serves murder given story.course.store c name node front comes is_here in
    record {
      body = served.body;
      counts = served.counts;
      later = served.later;
      step = served.step;
      then_holds = served.then_holds;
      carried = carried_so fixed front conn broken now marks story tag c is_open 0 served.later served.counts (answered_at name c.id served.body) (served.carries 0)
          (refl, tells_all murder given story.course.store c name node front fixed.master comes is_here served 0);
    }

pub closed_is_seen : ClosedIsSeen
closed_is_seen fixed front conn broken now marks story tag c murder given name node is_open comes is_away =
    let sent = closed_sends_on murder given story.course.store c name node front comes is_away in
    record {
      body = sent.body;
      state = ap (λ done. done.state) sent.step;
      step = ap (λ done. done.outs) sent.step;
      then_holds = sent.then_holds;
      seen = seen_so fixed front conn broken now marks story tag c is_open (answered_at name c.id sent.body) (refl, sent.which);
    }
