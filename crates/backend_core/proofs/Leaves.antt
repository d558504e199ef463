-- What a step leaves of a home: it stays as it was, or a mailbox that is Open goes on with another content.
use Rattle.std.proofs.Common.{◌≡◌, ℕ, Bool, true, List, Option, None, Some, refl, subst, sym}
use Rattle.mur_base.specs.declared.home.Phase.{Phase}
use Rattle.mur_base.specs.declared.home.Phase.TheVariants.{Open, Pointer}
use Rattle.mail_message.specs.Boxes.{Content}
use Rattle.link_msg.specs.declared.ask.FrontAsk.{FrontAsk}
use Rattle.imap_types.specs.declared.op.Op.{Op}
use Rattle.backend_core.specs.declared.backend.Backend.{Backend}
use Rattle.node_record.specs.declared.held.Held.{Held}
use Rattle.backend_core.specs.declared.response.Response.{Response}
use Rattle.backend_core.specs.HomeStep.{HomeStep, BoxStep, held_at, with_content}
use Rattle.backend_core.specs.HomeLaws.{is_open}
use Rattle.mail_store.specs.Kept.{IsLaterContent, AreUidsBelowNext}
use Rattle.backend_core.specs.Refusal.{refusal, refusal_in, is_other}
use Rattle.backend_core.specs.Served.{served, served_unless}
use Rattle.backend_core.specs.Step.{home_step}
use Rattle.backend_core.proofs.Serves.{Serves, works, tells, serves}

pub data Leaves (home : Backend) (name : List ℕ) (after : Backend) : Type 0 where
  stays : after ≡ home → Leaves home name after
  turns : (held : Held) (content : Content) → held_at home name ≡ Some held → is_open held.phase ≡ true → IsLaterContent held.content content
      → (AreUidsBelowNext held.content → AreUidsBelowNext content) → after ≡ with_content home name held content → Leaves home name after

-- an operation on messages is carried out only where the name is Open
pub served_open : (phase : Phase) (other : Bool) → refusal_in phase other ≡ None → is_open phase ≡ true
unfolding refusal_in is_open
served_open Open other served = refl
served_open (Pointer server) other served = cc
served_open phase other served = cc

unless_leaves : (home : Backend) (name : List ℕ) (held : Held) (step : BoxStep) (response : Option Response)
    → held_at home name ≡ Some held → (response ≡ None → is_open held.phase ≡ true) → IsLaterContent held.content step.content
    → (AreUidsBelowNext held.content → AreUidsBelowNext step.content)
    → Leaves home name (served_unless home name held step response).home
unfolding served_unless
unless_leaves home name held step (Some response) found opened follows below = stays refl
unless_leaves home name held step None found opened follows below = turns held step.content found (opened refl) follows below refl

served_leaves : (home : Backend) (name : List ℕ) (selected : Option ℕ) (operation : Content → BoxStep) (found : Option Held) → held_at home name ≡ found
    → ((content : Content) → IsLaterContent content (operation content).content)
    → ((content : Content) → AreUidsBelowNext content → AreUidsBelowNext (operation content).content)
    → Leaves home name (served home name selected operation found).home
unfolding served refusal
served_leaves home name selected operation None found follows below = stays refl
served_leaves home name selected operation (Some held) found follows below =
    unless_leaves home name held (operation held.content) (refusal selected held) found (served_open held.phase (is_other selected held.content))
    (follows held.content) (below held.content)

leaves_by : (home : Backend) (ask : FrontAsk) (op : Op) (step : HomeStep) → Serves home ask op step → Leaves home ask.name step.home
leaves_by home ask op step (works operation follows below is) =
    subst (λ (s : HomeStep). Leaves home ask.name s.home) (sym is)
    (served_leaves home ask.name ask.selected operation (held_at home ask.name) refl follows below)
leaves_by home ask op step (tells is) = stays is

pub leaves : (home : Backend) (ask : FrontAsk) → Leaves home ask.name (home_step home ask).home
leaves home ask = leaves_by home ask ask.op (home_step home ask) (serves home ask)
