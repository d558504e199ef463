-- A command that needs the home of a mailbox begins to wait: for an answer of the server that it asks, or for the master's OK.
use Rattle.std.specs.Prelude.{ℕ, List}
use Rattle.link_msg.specs.declared.ask.FrontAsk.{FrontAsk}
use Rattle.link_msg.specs.declared.message.LinkMsg.TheVariants.{Ask, Line}
use Rattle.mur_base.specs.declared.point.AskId.{AskId}
use Rattle.mur_model.specs.declared.session.Sess.{Sess}
use Rattle.feed_core.specs.Feed.{Recs}
use Rattle.session_core.specs.Begin.{user_of}
use Rattle.ask_routes.specs.declared.next.Next.{Next}
use Rattle.ask_routes.specs.declared.next.Next.TheVariants as next
use Rattle.ask_routes.specs.declared.next.Why.{Why}
use Rattle.ask_routes.specs.declared.next.Why.TheVariants as why
use Rattle.ask_routes.specs.Barrier.{noop_line}
use Rattle.ask_routes.specs.Ways.{ask_for, first_step}
use Rattle.asking_core.specs.declared.waiting.At.TheVariants.{Home, Barrier}
use Rattle.asking_core.specs.declared.waiting.Sent.{Sent}
use Rattle.asking_core.specs.declared.waiting.Waiting.{Waiting}

-- what the user of a session asks of a mailbox by the command of this number
abbrev pub ask_of : AskId → Sess → Waiting → FrontAsk
ask_of id session it = record { id = id; user = user_of session; name = it.name; selected = it.asking.selected; op = it.asking.op }

-- a server is asked, and the command waits for its answer

abbrev pub at_server : Waiting → List ℕ → Waiting
at_server it server = record it { at = Home server }

abbrev pub ask_sent : AskId → Sess → Waiting → List ℕ → Sent
ask_sent id session it server = record { to = server; message = Ask (ask_of id session it) }

-- the master is sent a NOOP, and the command waits for its OK

abbrev pub at_barrier : Waiting → Why → Waiting
at_barrier it cause = record it { at = Barrier cause }

abbrev pub noop_sent : List ℕ → AskId → Sent
noop_sent master id = record { to = master; message = Line (noop_line id) }

-- a command that waits, and what goes out for it
pub record Begun : Type 0 where
  pub waiting : Waiting
  pub sent : Sent

abbrev pub asks_server : AskId → Sess → Waiting → List ℕ → Begun
asks_server id session it server = record { waiting = at_server it server; sent = ask_sent id session it server }

abbrev pub asks_master : List ℕ → AskId → Waiting → Why → Begun
asks_master master id it cause = record { waiting = at_barrier it cause; sent = noop_sent master id }

-- it is decided first whether a server or the master is asked, and nothing else
abbrev pub first_by : List ℕ → AskId → Sess → Waiting → Next → Begun
first_by master id session it (next.Ask server) = asks_server id session it server
first_by master id session it (next.Barrier cause) = asks_master master id it cause
first_by master id session it other = asks_master master id it why.Missing

unfoldable pub first_sent : Recs → List ℕ → List ℕ → AskId → Sess → Waiting → Begun
first_sent recs master first id session it = first_by master id session it (first_step recs first (ask_for it.name it.asking.op))
