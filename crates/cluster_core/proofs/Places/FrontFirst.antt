-- The first message on a link to a frontend, where it is about a connection and isn't left of a command that is over, tells the place of its command: it is the
-- answer of its server, or the master's OK to its NOOP.
use Rattle.std.proofs.Common.{◌≡◌, ◌≢◌, ℕ, ◌≤◌, ◌<◌, true, false, List, ◌∷◌, None, Some, refl, sym, ◌∙◌, ap, subst}
use Rattle.ask_routes.specs.Barrier.{barrier_answered}
use Rattle.ask_routes.proofs.BarrierLaw.{ok_tells_its_command}
use Rattle.feed_core.specs.declared.replica.Replica.{Replica}
use Rattle.front_core.proofs.OneConnection.Places.{about, about_command, answer_on, first_of, is_about, is_over, isnt_about, line_on, line_over, none_over, of_connection}
use Rattle.link_msg.specs.declared.answer.BackAnswer.{BackAnswer}
use Rattle.link_msg.specs.declared.message.LinkMsg.{LinkMsg}
use Rattle.link_msg.specs.declared.message.LinkMsg.TheVariants.{Up, End, Line, Ask, Answer}
use Rattle.link_queue.proofs.Placed.{Carried}
use Rattle.link_queue.specs.Links.{Links, on_link}
use Rattle.many_links.specs.Murder.{Nodes}
use Rattle.mur_base.specs.declared.point.AskId.{AskId}
use Rattle.name_commands.specs.Places.{NamePlace as name_at}
use Rattle.node_record.specs.Table.{MailboxTable}
use Rattle.route_links.proofs.Tags.{ok_is_read}
use Rattle.route_links.specs.Answered.{ok_line, ok_of}
use Rattle.route_links.specs.Barriers.{Place as barrier}
use Rattle.std.proofs.lemmas.Option.{none-some, same_Some}
use Rattle.cluster_core.proofs.Commands.InPlace.{IsInNone, IsInPlace, IsThere}
use Rattle.cluster_core.proofs.Commands.Place.{Place, carried, its_message, Place as place}
use Rattle.cluster_core.proofs.Places.Numbered.{ok_numbered}
use Rattle.cluster_core.proofs.Places.Stays.{IsFrontend, home_apart}

-- ---- what holds

-- a message to a frontend that is about the command of this number, which is of a connection of `front`, and isn't what is left of an earlier one
pub data WhatComes (master from to : List ℕ) (message : LinkMsg) (front : List ℕ) (id : AskId) (here : Place) : Type 0 where
  its_answer : (answer : BackAnswer) → message ≡ Answer answer → front ≡ to → here ≡ place.is_answered from answer
      → WhatComes master from to message front id here
  its_ok : (table : MailboxTable) → message ≡ ok_of id → from ≡ master → front ≡ to → here ≡ place.is_barred (barrier.answered table)
      → WhatComes master from to message front id here

abbrev pub FirstTells : Type 0
FirstTells = (master : List ℕ) (nodes : Nodes) (links : Links LinkMsg) (from to : List ℕ) (message : LinkMsg) (rest : List LinkMsg) (front : List ℕ)
    (replica : Replica) (id : AskId) (here : Place) → IsFrontend master nodes to → on_link links from to ≡ message ∷ rest
    → about message ≡ of_connection id.conn → is_over id.command message ≡ false → IsInPlace master nodes links front replica id here
    → WhatComes master from to message front id here

-- an answer is that of its command's place
abbrev pub AnswerTells : Type 0
AnswerTells = (master : List ℕ) (nodes : Nodes) (links : Links LinkMsg) (from to : List ℕ) (answer : BackAnswer) (rest : List LinkMsg) (front : List ℕ)
    (replica : Replica) (id : AskId) (here : Place) → IsFrontend master nodes to → on_link links from to ≡ Answer answer ∷ rest
    → (answer.id).conn ≡ id.conn → IsInPlace master nodes links front replica id here → (front ≡ to) × (here ≡ place.is_answered from answer)

-- the OK of a command of this connection that isn't over is that of the command that waits for it
pub record OkIsIts (front to : List ℕ) (told id : AskId) (here : Place) : Type 0 where
  pub own : told ≡ id
  pub at : front ≡ to
  pub table : MailboxTable
  pub here_is : here ≡ place.is_barred (barrier.answered table)

abbrev pub OkTells : Type 0
OkTells = (master : List ℕ) (nodes : Nodes) (links : Links LinkMsg) (to bytes : List ℕ) (told : AskId) (rest : List LinkMsg) (front : List ℕ)
    (replica : Replica) (id : AskId) (here : Place) → IsFrontend master nodes to → on_link links master to ≡ Line bytes ∷ rest
    → barrier_answered bytes ≡ Some told → told.conn ≡ id.conn → is_over id.command (Line bytes) ≡ false
    → IsInPlace master nodes links front replica id here → OkIsIts front to told id here

-- another line of the master is about no command that is in a place
abbrev pub NewsAreNobodys : Type 0
NewsAreNobodys = (master : List ℕ) (nodes : Nodes) (links : Links LinkMsg) (from to bytes : List ℕ) (rest : List LinkMsg) (front : List ℕ)
    (replica : Replica) (id : AskId) (here : Place) → IsFrontend master nodes to → on_link links from to ≡ Line bytes ∷ rest
    → barrier_answered bytes ≡ None → IsInPlace master nodes links front replica id here
    → is_about id.command (of_connection id.conn) (Line bytes) ≡ false

-- a message that no command of a frontend waits for: an ask, a line of a node that isn't the master, or what tells of a link
abbrev pub IsIdle : List ℕ → List ℕ → LinkMsg → Type 0
IsIdle master from Up = Unit {0}
IsIdle master from End = Unit {0}
IsIdle master from (Ask ask) = Unit {0}
IsIdle master from (Line bytes) = from ≢ master
IsIdle master from (Answer answer) = ⊥

-- it is about no command that is in a place
abbrev pub IdleIsNobodys : Type 0
IdleIsNobodys = (master : List ℕ) (nodes : Nodes) (links : Links LinkMsg) (from to : List ℕ) (message : LinkMsg) (rest : List LinkMsg) (front : List ℕ)
    (replica : Replica) (id : AskId) (here : Place) → IsFrontend master nodes to → on_link links from to ≡ message ∷ rest → IsIdle master from message
    → IsInPlace master nodes links front replica id here → is_about id.command (of_connection id.conn) message ≡ false

-- no message that comes anywhere is about a connection that is in none
abbrev pub NoneComes : Type 0
NoneComes = (master : List ℕ) (nodes : Nodes) (links : Links LinkMsg) (from to : List ℕ) (message : LinkMsg) (rest : List LinkMsg) (conn : ℕ)
    → on_link links from to ≡ message ∷ rest → IsInNone master nodes links conn → about message ≢ of_connection conn

-- ---- the message of a place

pub record IsCarried (a b : List ℕ) (own : LinkMsg) (from to : List ℕ) (message : LinkMsg) : Type 0 where
  pub from_is : a ≡ from
  pub to_is : b ≡ to
  pub message_is : own ≡ message

pub carried_parts : (a b : List ℕ) (own : LinkMsg) (from to : List ℕ) (message : LinkMsg) → carried a b own ≡ carried from to message
    → IsCarried a b own from to message
carried_parts a b own from to message e =
    let same = same_Some (record { from = a; to = b; message = own }) (record { from = from; to = to; message = message }) e in
    record {
      from_is = ap (λ (c : Carried LinkMsg). c.from) same;
      to_is = ap (λ (c : Carried LinkMsg). c.to) same;
      message_is = ap (λ (c : Carried LinkMsg). c.message) same;
    }

module _ (master : List ℕ) (nodes : Nodes) (from to : List ℕ) (message : LinkMsg) (front : List ℕ) (id : AskId) (frontend : IsFrontend master nodes to) where
  by_place : (here : Place) → its_message master front id here ≡ carried from to message → IsThere nodes here → WhatComes master from to message front id here
  by_place place.nowhere e there = cc
  by_place (place.is_asked server ask) e there =
      absurd (home_apart nodes server to there.0 there.1 frontend.no_home (carried_parts front server (Ask ask) from to message e).to_is)
  by_place (place.is_answered server answer) e there =
      let parts = carried_parts server front (Answer answer) from to message e in
      its_answer answer (sym parts.message_is) parts.to_is (ap (λ s. place.is_answered s answer) parts.from_is)
  by_place (place.is_dropped server) e there = cc
  by_place (place.is_at me name_at.nowhere) e there = cc
  by_place (place.is_at me (name_at.waits ask)) e there = cc
  by_place (place.is_at me (name_at.sends name flow)) e there =
      absurd (frontend.no_master (sym (carried_parts me.server master _ from to message e).to_is))
  by_place (place.is_at me (name_at.hears name flow it)) e there =
      absurd (home_apart nodes me.server to there.0 there.1 frontend.no_home (carried_parts master me.server _ from to message e).to_is)
  by_place (place.is_barred barrier.nowhere) e there = cc
  by_place (place.is_barred barrier.asked) e there = absurd (frontend.no_master (sym (carried_parts front master _ from to message e).to_is))
  by_place (place.is_barred (barrier.answered table)) e there =
      let parts = carried_parts master front (ok_of id) from to message e in
      its_ok table (sym parts.message_is) (sym parts.from_is) parts.to_is refl

pub first_tells : FirstTells
first_tells master nodes links from to message rest front replica id here frontend first own on is =
    by_place master nodes from to message front id frontend here
    (first_of id.command links from to message rest (of_connection id.conn) (its_message master front id here) first own on is.message).0 is.there

-- ---- an answer

same_answer : (one other : BackAnswer) → Answer one ≡ Answer other → one ≡ other
same_answer one other e = cc

answer_by : (master from to : List ℕ) (answer : BackAnswer) (front : List ℕ) (id : AskId) (here : Place)
    → WhatComes master from to (Answer answer) front id here → (front ≡ to) × (here ≡ place.is_answered from answer)
answer_by master from to answer front id here (its_answer own is at here_is) =
    (at, here_is ∙ ap (place.is_answered from) (sym (same_answer answer own is)))
answer_by master from to answer front id here (its_ok table is of_master at here_is) = cc

pub answer_tells : AnswerTells
answer_tells master nodes links from to answer rest front replica id here frontend first own is =
    answer_by master from to answer front id here
    (first_tells master nodes links from to (Answer answer) rest front replica id here frontend first (ap of_connection own) (answer_on id.command answer) is)

-- ---- a line

same_line : (one other : List ℕ) → Line one ≡ Line other → one ≡ other
same_line one other e = cc

-- it is read, since it tells the command
ok_again : (bytes : List ℕ) (id : AskId) → about (Line bytes) ≡ of_connection id.conn → Line bytes ≡ ok_of id → barrier_answered bytes ≡ Some id
ok_again bytes id own is =
    ap barrier_answered (same_line bytes (ok_line id) is) ∙ ok_is_read id (ok_numbered id id.conn (sym (ap about is) ∙ own))

ok_by : (master from to bytes : List ℕ) (told : AskId) (front : List ℕ) (id : AskId) (here : Place) → barrier_answered bytes ≡ Some told
    → about (Line bytes) ≡ of_connection id.conn → WhatComes master from to (Line bytes) front id here → OkIsIts front to told id here
ok_by master from to bytes told front id here ok own (its_answer answer is at here_is) = cc
ok_by master from to bytes told front id here ok own (its_ok table is of_master at here_is) =
    record { own = same_Some told id (sym ok ∙ ok_again bytes id own is); at = at; table = table; here_is = here_is }

pub about_ok : (bytes : List ℕ) (told : AskId) → barrier_answered bytes ≡ Some told → about (Line bytes) ≡ of_connection told.conn
about_ok bytes told ok = ap about_command (ok_tells_its_command bytes told ok)

-- the OK of the command of this number, or of a later one, isn't over, and that of an earlier one is
pub ok_on : (first : ℕ) (bytes : List ℕ) (told : AskId) → barrier_answered bytes ≡ Some told → first ≤ told.command → is_over first (Line bytes) ≡ false
ok_on first bytes told ok le = line_on first bytes told (ok_tells_its_command bytes told ok) le

pub ok_over : (first : ℕ) (bytes : List ℕ) (told : AskId) → barrier_answered bytes ≡ Some told → told.command < first → is_over first (Line bytes) ≡ true
ok_over first bytes told ok lt = line_over first bytes told (ok_tells_its_command bytes told ok) lt

pub ok_tells : OkTells
ok_tells master nodes links to bytes told rest front replica id here frontend first ok same on is =
    let own = about_ok bytes told ok ∙ ap of_connection same in
    ok_by master master to bytes told front id here ok own
    (first_tells master nodes links master to (Line bytes) rest front replica id here frontend first own on is)

none_by : (master from to bytes : List ℕ) (front : List ℕ) (id : AskId) (here : Place) → barrier_answered bytes ≡ None
    → about (Line bytes) ≡ of_connection id.conn → WhatComes master from to (Line bytes) front id here → ⊥
none_by master from to bytes front id here none own (its_answer answer is at here_is) = cc
none_by master from to bytes front id here none own (its_ok table is of_master at here_is) =
    (let no : None ≡ Some id = sym none ∙ ok_again bytes id own is in cc)

pub news_are_nobodys : NewsAreNobodys
news_are_nobodys master nodes links from to bytes rest front replica id here frontend first none is =
    isnt_about id.command (of_connection id.conn) (Line bytes) (λ own on. none_by master from to bytes front id here none own
    (first_tells master nodes links from to (Line bytes) rest front replica id here frontend first own on is))

-- ---- a message that no command waits for

idle_by : (master from to : List ℕ) (message : LinkMsg) (front : List ℕ) (id : AskId) (here : Place) → IsIdle master from message
    → WhatComes master from to message front id here → ⊥
idle_by master from to message front id here idle (its_answer own is at here_is) = subst (IsIdle master from) is idle
idle_by master from to message front id here idle (its_ok table is of_master at here_is) = subst (IsIdle master from) is idle of_master

pub idle_is_nobodys : IdleIsNobodys
idle_is_nobodys master nodes links from to message rest front replica id here frontend first idle is =
    isnt_about id.command (of_connection id.conn) message (λ own on. idle_by master from to message front id here idle
    (first_tells master nodes links from to message rest front replica id here frontend first own on is))

-- ---- a connection that is in none

pub none_comes : NoneComes
none_comes master nodes links from to message rest conn first is own =
    none-some _ (first_of 0 links from to message rest (of_connection conn) None first own (none_over message) is.message).0
