-- What a step leaves at a home of mailboxes, and what it answers.
use Rattle.std.specs.Prelude.{List, ℕ, Option, Some, None}
use Rattle.std.specs.Ordering.{nat_cmp}
use Rattle.std.specs.Cmp.Lexicographic.{slice_cmp}
use Rattle.mur_base.specs.Map.{value_at, with_value}
use Rattle.mail_message.specs.Boxes.{Content}
use Rattle.link_msg.specs.declared.answer.AnswerBody.{AnswerBody}
use Rattle.link_msg.specs.declared.counts.Counts.{Counts}
use Rattle.link_msg.specs.declared.counts.Counts.TheVariants.{IfAnswered}
use Rattle.backend_core.specs.declared.backend.Backend.{Backend}
use Rattle.node_record.specs.declared.held.Held.{Held}
use Rattle.backend_core.specs.declared.response.Response.{Response}

-- the home behind a step, its answer, if there is one, and when the step counts
pub record HomeStep : Type 0 where
  pub home : Backend
  pub body : Option AnswerBody
  pub counts : Counts

-- a mailbox's content behind an operation, and the answer
pub record BoxStep : Type 0 where
  pub content : Content
  pub response : Response

-- what a home has of a name
abbrev pub held_at : Backend → List ℕ → Option Held
held_at home name = value_at (slice_cmp nat_cmp) home.held name

abbrev pub body_of : Option Response → Option AnswerBody
body_of None = None
body_of (Some response) = Some response.body

abbrev pub counts_of : Option Response → Counts
counts_of None = IfAnswered
counts_of (Some response) = response.counts

-- the home behind what it answers, if it answers
abbrev pub responds : Backend → Option Response → HomeStep
responds home response = record { home = home; body = body_of response; counts = counts_of response }

-- the home behind an answer
abbrev pub answers : Backend → Response → HomeStep
answers home response = responds home (Some response)

-- nothing is done, and nothing answered
abbrev pub dropped : Backend → HomeStep
dropped home = responds home None

-- the home with another content of a mailbox that is there
abbrev pub with_content : Backend → List ℕ → Held → Content → Backend
with_content home name held content =
    record home { held = with_value (slice_cmp nat_cmp) home.held name (record held { content = content }) }

-- an operation on the content of a mailbox
abbrev pub changes : Backend → List ℕ → Held → BoxStep → HomeStep
changes home name held step = answers (with_content home name held step.content) step.response
