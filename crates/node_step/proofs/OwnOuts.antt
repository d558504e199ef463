-- What a node lets out in a step: bytes for its own clients alone, and messages for the nodes that it may send to; a frontend marks no command.
use Rattle.std.proofs.Common.{◌≡◌, ℕ, List, [], ◌∷◌, refl, sym, subst}
use Rattle.std.specs.Prelude.{⊤, All}
use Rattle.std.proofs.lemmas.List.Elements.{All-head, All-tail}
use Rattle.back_node.specs.declared.node.BackNode.{BackNode}
use Rattle.back_node.specs.NodeLaws.{AsksAs, IsSaid, OwesOnly}
use Rattle.back_node.specs.Takes.{node_takes}
use Rattle.back_node.proofs.Said.{step_says}
use Rattle.front_core.specs.declared.front.Front.{Front}
use Rattle.front_core.specs.Front.{ways_of}
use Rattle.front_core.proofs.OwnOuts.{AreLetOut, HasConnections, IsLetOut, MayAsk, MovesBy, bytes_own, connect_own, hang_own, message_own}
use Rattle.link_msg.specs.declared.answer.BackAnswer.{BackAnswer}
use Rattle.link_msg.specs.declared.message.LinkMsg.{LinkMsg}
use Rattle.link_msg.specs.declared.message.LinkMsg.TheVariants.{Up, End, Line, Ask, Answer}
use Rattle.link_msg.specs.declared.out.Out.{Out}
use Rattle.link_msg.specs.declared.out.Out.TheVariants.{Client, Close, Link, Mark, Told}
use Rattle.master_core.specs.declared.master.Master.{Master}
use Rattle.master_core.specs.declared.sender.Sender.TheVariants as sender
use Rattle.node_step.specs.declared.input.NodeInput.{NodeInput}
use Rattle.node_step.specs.declared.input.NodeInput.TheVariants.{Opened, Piece, Hung, From}
use Rattle.node_step.specs.declared.node.NodeState.{NodeState}
use Rattle.node_step.specs.declared.node.NodeState.TheVariants as node
use Rattle.node_step.specs.NodeStep.{Acted, back_takes, front_takes, master_takes, takes}
use Rattle.node_step.proofs.MasterOuts.{MayBeTold, SaysFrom, SpeaksFrom, TellsOwn, bytes_let, connect_let, says_let, without_tells}

-- a node may be given answers
abbrev pub MayBeAnswered : (List ℕ → LinkMsg → Type 0) → List ℕ → Type 0
MayBeAnswered may node = (answer : BackAnswer) → may node (Answer answer)

-- its connections, those whom it owes answers, and those whom it tells of changes
abbrev pub HasOwn : (ℕ → Type 0) → (List ℕ → LinkMsg → Type 0) → NodeState → Type 0
HasOwn own may (node.Front front) = HasConnections own front
HasOwn own may (node.Back home) = OwesOnly (MayBeAnswered may) home.flows
HasOwn own may (node.Master master) = TellsOwn own may master

-- a client of its own acts, or a node asks or says a line to which it may send
abbrev pub ComesFrom : (ℕ → Type 0) → (List ℕ → LinkMsg → Type 0) → NodeInput → Type 0
ComesFrom own may (Opened conn) = own conn
ComesFrom own may (Piece conn bytes) = own conn
ComesFrom own may (Hung conn) = own conn
ComesFrom own may (From name message) = SpeaksFrom may name message

-- where the input sends a command on
abbrev pub MovesOn : (List ℕ → LinkMsg → Type 0) → NodeInput → Type 0
MovesOn may (From name message) = MovesBy may message
MovesOn may input = ⊤

-- it may send to the master, a frontend to the servers of its records, and where an answer sends it
abbrev pub MaySend : (List ℕ → LinkMsg → Type 0) → NodeState → NodeInput → Type 0
MaySend may (node.Front front) input = MayAsk may (ways_of front) × MovesOn may input
MaySend may (node.Back home) input = MayBeTold may home.flows.master
MaySend may (node.Master master) input = ⊤

-- a frontend marks no command
abbrev pub MayMark : NodeState → Type 0
MayMark (node.Front front) = ⊥
MayMark (node.Back home) = ⊤
MayMark (node.Master master) = ⊤

-- a node stays of its kind, with its master, and a frontend with its first backend
abbrev pub KeepsKind : NodeState → NodeState → Type 0
KeepsKind (node.Front was) (node.Front now) = (now.master ≡ was.master) × (now.first ≡ was.first)
KeepsKind (node.Back was) (node.Back now) = now.flows.master ≡ was.flows.master
KeepsKind (node.Master was) (node.Master now) = ⊤
KeepsKind was now = ⊥

pub record LetsOut (own : ℕ → Type 0) (may : List ℕ → LinkMsg → Type 0) (marks : Type 0) (was : NodeState) (acted : Acted) : Type 0 where
  pub outs : AreLetOut own may marks acted.outs
  pub has : HasOwn own may acted.state
  pub kind : KeepsKind was acted.state

module _ (own : ℕ → Type 0) (may : List ℕ → LinkMsg → Type 0) where
  -- ---- a frontend

  pub front_lets : (front : Front) (input : NodeInput) → HasConnections own front → ComesFrom own may input → MayAsk may (ways_of front) → MovesOn may input
      → LetsOut own may ⊥ (node.Front front) (front_takes front input)
  unfolding front_takes
  front_lets front (Opened conn) has from may_ask moves =
      let lets = connect_own own may front has conn from in record { outs = lets.outs; has = lets.has; kind = (lets.master, lets.first) }
  front_lets front (Piece conn bytes) has from may_ask moves =
      let lets = bytes_own own may front has may_ask conn bytes in record { outs = lets.outs; has = lets.has; kind = (lets.master, lets.first) }
  front_lets front (Hung conn) has from may_ask moves =
      let lets = hang_own own may front has conn in record { outs = tt; has = lets.has; kind = (lets.master, lets.first) }
  front_lets front (From name message) has from may_ask moves =
      let lets = message_own own may front has may_ask name message moves in record { outs = lets.outs; has = lets.has; kind = (lets.master, lets.first) }

  -- ---- a backend

  one_said : (master : List ℕ) (out : Out) → MayBeTold may master → IsSaid master (MayBeAnswered may) out → IsLetOut own may ⊤ out
  one_said master (Link to (Line line)) there is = subst (MayBeTold may) (sym is) there line
  one_said master (Link to (Answer answer)) there is = is answer
  one_said master (Link to Up) there is = absurd is
  one_said master (Link to End) there is = absurd is
  one_said master (Link to (Ask ask)) there is = absurd is
  one_said master (Mark ask counts) there is = tt
  one_said master (Client conn bytes) there is = absurd is
  one_said master (Close conn) there is = tt
  one_said master (Told ask how) there is = tt

  all_said : (master : List ℕ) (outs : List Out) → MayBeTold may master → All (IsSaid master (MayBeAnswered may)) outs → AreLetOut own may ⊤ outs
  all_said master [] there all = tt
  all_said master (out ∷ outs) there all = (
    one_said master out there (All-head (IsSaid master (MayBeAnswered may)) out outs all),
    all_said master outs there (All-tail (IsSaid master
        (MayBeAnswered may)) out outs all),
  )

  asks_as : (name : List ℕ) (message : LinkMsg) → SpeaksFrom may name message → AsksAs (MayBeAnswered may) name message
  asks_as name (Ask ask) there = there
  asks_as name Up there = tt
  asks_as name End there = tt
  asks_as name (Line bytes) there = tt
  asks_as name (Answer answer) there = tt

  back_lets : (home : BackNode) (input : NodeInput) → OwesOnly (MayBeAnswered may) home.flows → ComesFrom own may input → MayBeTold may home.flows.master
      → LetsOut own may ⊤ (node.Back home) (back_takes home input)
  unfolding back_takes
  back_lets home (Opened conn) owes from there = record { outs = tt; has = owes; kind = refl }
  back_lets home (Piece conn bytes) owes from there = record { outs = tt; has = owes; kind = refl }
  back_lets home (Hung conn) owes from there = record { outs = tt; has = owes; kind = refl }
  back_lets home (From name message) owes from there =
      let says = step_says (MayBeAnswered may) home name message owes (asks_as name message from) in
      record { outs = all_said home.flows.master (node_takes home name message).outs there says.outs; has = says.owes; kind = says.master }

  -- ---- the master

  says_lines : (name : List ℕ) (message : LinkMsg) → SpeaksFrom may name message → SaysFrom may name message
  says_lines name (Line bytes) there = there
  says_lines name (Ask ask) there = tt
  says_lines name Up there = tt
  says_lines name End there = tt
  says_lines name (Answer answer) there = tt

  pub master_lets : (master : Master) (input : NodeInput) → TellsOwn own may master → ComesFrom own may input
      → LetsOut own may ⊤ (node.Master master) (master_takes master input)
  unfolding master_takes
  master_lets master (Opened conn) tells from =
      let lets = connect_let own may master tells conn from in record { outs = lets.outs; has = lets.tells; kind = tt }
  master_lets master (Piece conn bytes) tells from =
      let lets = bytes_let own may master tells conn bytes from in record { outs = lets.outs; has = lets.tells; kind = tt }
  master_lets master (Hung conn) tells from = record { outs = tt; has = without_tells own may master (sender.Outside conn) tells; kind = tt }
  master_lets master (From name message) tells from =
      let lets = says_let own may master tells name message (says_lines name message from) in record { outs = lets.outs; has = lets.tells; kind = tt }

  -- so whatever comes to a node
  pub takes_lets : (it : NodeState) (input : NodeInput) → HasOwn own may it → ComesFrom own may input → MaySend may it input
      → LetsOut own may (MayMark it) it (takes it input)
  unfolding takes
  takes_lets (node.Front front) input has from sends = front_lets front input has from sends.0 sends.1
  takes_lets (node.Back home) input has from sends = back_lets home input has from sends
  takes_lets (node.Master master) input has from sends = master_lets master input has from
