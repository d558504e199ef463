-- The point of a command at a mailbox: the step in which a backend that has the name open takes its ask.
use Rattle.std.specs.Prelude.{◌≡◌, ◌≢◌, ℕ, true, false, List, [], ◌∷◌, Some}
use Rattle.asking_core.specs.Answered.{answered}
use Rattle.asking_core.specs.Begins.{ask_of}
use Rattle.back_node.specs.declared.node.BackNode.{BackNode}
use Rattle.back_node.specs.NodeLaws.{answered_only}
use Rattle.back_node.specs.Takes.{node_takes}
use Rattle.backend_core.specs.HomeLaws.{is_open_here}
use Rattle.backend_core.specs.HomeStep.{held_at}
use Rattle.link_msg.specs.declared.answer.AnswerBody.{AnswerBody}
use Rattle.link_msg.specs.declared.answer.AnswerBody.TheVariants.{NotNow, Moved}
use Rattle.link_msg.specs.declared.ask.FrontAsk.{FrontAsk}
use Rattle.link_msg.specs.declared.counts.Counts.{Counts}
use Rattle.link_msg.specs.declared.message.LinkMsg.TheVariants.{Ask, Answer}
use Rattle.link_msg.specs.declared.out.Out.TheVariants.{Link, Mark}
use Rattle.mur_model.specs.declared.store.Store.{Store}
use Rattle.mur_model.specs.Needed.{IsOfHome}
use Rattle.name_links.specs.Serials.{Given}
use Rattle.many_links.specs.Murder.{Murder, home_takes}
use Rattle.many_links.specs.ManyHold.{ManyHold}
use Rattle.point_links.specs.Carried.{CarriesOut, turn_at}
use Rattle.point_links.specs.Commands.{ClientCommand, WaitsOn, told_turn}

-- the ask for the command
abbrev pub its_ask : ClientCommand → FrontAsk
its_ask c = ask_of c.id c.was c.waiting

-- it is work that a home does by itself, and comes to a backend from another node than the master
pub record AskComes (murder : Murder) (given : Given) (store : Store) (c : ClientCommand) (name : List ℕ) (node : BackNode) (from : List ℕ) : Type 0 where
  pub of_home : IsOfHome c.work
  pub holds : ManyHold murder given store
  pub there : murder.nodes name ≡ Some node
  pub other : from ≢ murder.master.me

-- the backend answers with this body, the step counts so, the store does what the command does, and the client is told at the answer what the store replies
pub record IsServed (murder : Murder) (given : Given) (store : Store) (c : ClientCommand) (name : List ℕ) (node : BackNode) (from : List ℕ) : Type 0 where
  pub body : AnswerBody
  pub counts : Counts
  pub later : Store
  pub step : (node_takes node from (Ask (its_ask c))).outs ≡ Link from (Answer (record { id = c.id; body = body })) ∷ Mark c.id counts ∷ []
  pub then_holds : ManyHold (home_takes murder name node from (Ask (its_ask c))) given later
  pub carries : (serial : ℕ) → CarriesOut store later c.name c.work serial counts
  pub told : (master : List ℕ) (serial : ℕ) → answered master c.id c.was c.waiting body ≡ told_turn c (turn_at store c.name c.work serial)

abbrev pub OpenServes : Type 0
OpenServes = (murder : Murder) (given : Given) (store : Store) (c : ClientCommand) (name : List ℕ) (node : BackNode) (from : List ℕ)
    → AskComes murder given store c name node from → is_open_here (held_at node.home c.name) ≡ true → IsServed murder given store c name node from

-- ---- not its point

-- what is answered where the name isn't open
pub data IsElsewhere : AnswerBody → Type 0 where
  not_now : IsElsewhere NotNow
  moved : (server : List ℕ) → IsElsewhere (Moved server)

-- the backend tells that it can't serve it now, or where it is; the step counts at most where the client is answered by it, and that isn't so: it waits on
pub record IsSentOn (murder : Murder) (given : Given) (store : Store) (c : ClientCommand) (name : List ℕ) (node : BackNode) (from : List ℕ) : Type 0 where
  pub body : AnswerBody
  pub which : IsElsewhere body
  pub step : node_takes node from (Ask (its_ask c)) ≡ answered_only node from (its_ask c) body
  pub then_holds : ManyHold (home_takes murder name node from (Ask (its_ask c))) given store
  pub waits : (master : List ℕ) → WaitsOn master c (answered master c.id c.was c.waiting body)

abbrev pub ClosedSendsOn : Type 0
ClosedSendsOn = (murder : Murder) (given : Given) (store : Store) (c : ClientCommand) (name : List ℕ) (node : BackNode) (from : List ℕ)
    → AskComes murder given store c name node from → is_open_here (held_at node.home c.name) ≡ false → IsSentOn murder given store c name node from
