-- A home answers that an operation on messages was done only where the name is open, and just those steps count always.
use Rattle.std.proofs.Common.{◌≡◌, ℕ, Bool, true, false, List, Option, None, Some, refl, sym, subst}
use Rattle.backend_core.specs.Append.{append_step, append_within_limits}
use Rattle.backend_core.specs.Expunge.{expunge_step, expunge_to}
use Rattle.backend_core.specs.Flags.{flags_step, flags_to, flags_unless}
use Rattle.backend_core.specs.HomeLaws.{is_open, is_open_here}
use Rattle.backend_core.specs.HomeStep.{BoxStep, answers, held_at}
use Rattle.backend_core.specs.Look.{look_at, look_step, look_unless}
use Rattle.backend_core.specs.Read.{read_step, read_to}
use Rattle.backend_core.specs.Refusal.{refusal, refusal_in, is_other}
use Rattle.backend_core.specs.Response.{done}
use Rattle.backend_core.specs.Served.{served, served_unless}
use Rattle.backend_core.specs.Step.{home_step, op_step}
use Rattle.backend_core.specs.Summaries.{summaries_at, summaries_step, summaries_unless}
use Rattle.backend_core.specs.declared.backend.Backend.{Backend}
use Rattle.backend_core.specs.declared.response.Response.{Response}
use Rattle.imap_types.specs.declared.op.Op.{Op}
use Rattle.imap_types.specs.declared.op.Op.TheVariants.{Look, Read, Summaries, Flags, Expunge, Append}
use Rattle.link_msg.specs.declared.ask.FrontAsk.{FrontAsk}
use Rattle.link_msg.specs.declared.counts.Counts.TheVariants.{Always, IfAnswered}
use Rattle.link_msg.specs.declared.outcome.Outcome.{Outcome}
use Rattle.mail_message.specs.Boxes.{Content}
use Rattle.mail_message.specs.declared.message.Message.{Message}
use Rattle.mail_message.specs.declared.message.Snapshot.{Snapshot}
use Rattle.mail_store.specs.Append.{append_fault}
use Rattle.mail_store.specs.Store.{has_too_many_flags, rows_stored}
use Rattle.mail_store.specs.declared.fault.StoreFault.{StoreFault}
use Rattle.mail_message.specs.declared.mode.Mode.{Mode}
use Rattle.mail_message.specs.FlagSets.{Flags as FlagsOf}
use Rattle.mur_base.specs.declared.home.Phase.{Phase}
use Rattle.mur_base.specs.declared.home.Phase.TheVariants.{Open, Pointer}
use Rattle.node_record.specs.declared.held.Held.{Held}
use Rattle.serve_law.specs.DoneHere.{IsDone, IsDoneWhereOpen}

apart : IfAnswered ≡ Always → ⊥
apart h = cc

-- a response that says that an operation was done
record Did (response : Response) : Type 0 where
  outcome : Outcome
  seen : Snapshot
  is : response ≡ done outcome seen

did_append : (content : Content) (messages : List Message) (fault : Option StoreFault) → Did (append_within_limits content messages fault).response
unfolding append_within_limits
did_append content messages (Some fault) = record { outcome = _; seen = _; is = refl }
did_append content messages None = record { outcome = _; seen = _; is = refl }

did_flags : (content : Content) (uids : List ℕ) (mode : Mode) (flags : FlagsOf) (many : Bool) → Did (flags_unless content uids mode flags many).response
unfolding flags_unless
did_flags content uids mode flags true = record { outcome = _; seen = _; is = refl }
did_flags content uids mode flags false = record { outcome = _; seen = _; is = refl }

-- it is done where the name is open
opens : (found : Option Held) (home : Backend) (response : Response) → is_open_here found ≡ true → Did response → IsDoneWhereOpen found (answers home response)
unfolding IsDone
opens found home response is_open did = subst (λ r. IsDoneWhereOpen found (answers home r)) (sym did.is) (record {
  only_open = λ h. is_open;
  counted = λ h. refl;
  only_done = λ h. tt;
})

-- another operation in its place, by the phase
unless_done : (home : Backend) (name : List ℕ) (held : Held) (step : BoxStep) (phase : Phase) (other : Bool) → held.phase ≡ phase → Did step.response
    → IsDoneWhereOpen (Some held) (served_unless home name held step (refusal_in phase other))
unfolding served_unless refusal_in IsDone is_open_here is_open
unless_done home name held step Open true is did =
    record { only_open = λ h. rw is refl; counted = λ h. refl; only_done = λ h. tt }
unless_done home name held step Open false is did = opens (Some held) _ step.response (rw is refl) did
unless_done home name held step (Pointer server) other is did =
    record { only_open = λ h. absurd h; counted = λ h. absurd h; only_done = λ h. absurd (apart h) }
unless_done home name held step phase other is did =
    record { only_open = λ h. absurd h; counted = λ h. absurd h; only_done = λ h. absurd (apart h) }

served_done : (home : Backend) (name : List ℕ) (selected : Option ℕ) (operation : Content → BoxStep) (found : Option Held)
    → ((content : Content) → Did (operation content).response) → IsDoneWhereOpen found (served home name selected operation found)
unfolding served refusal IsDone
served_done home name selected operation None did =
    record { only_open = λ h. absurd h; counted = λ h. absurd h; only_done = λ h. absurd (apart h) }
served_done home name selected operation (Some held) did =
    unless_done home name held (operation held.content) held.phase (is_other selected held.content) refl (did held.content)

-- a look, by the phase
look_done : (home : Backend) (held : Held) (phase : Phase) (other : Bool) → held.phase ≡ phase
    → IsDoneWhereOpen (Some held) (answers home (look_unless held.content (refusal_in phase other)))
unfolding look_unless refusal_in IsDone is_open_here is_open
look_done home held Open true is = record { only_open = λ h. rw is refl; counted = λ h. refl; only_done = λ h. tt }
look_done home held Open false is = record { only_open = λ h. rw is refl; counted = λ h. refl; only_done = λ h. tt }
look_done home held (Pointer server) other is = record { only_open = λ h. absurd h; counted = λ h. absurd h; only_done = λ h. absurd (apart h) }
look_done home held phase other is = record { only_open = λ h. absurd h; counted = λ h. absurd h; only_done = λ h. absurd (apart h) }

looks_done : (home : Backend) (selected : Option ℕ) (found : Option Held) → IsDoneWhereOpen found (look_step home selected found)
unfolding look_step look_at refusal IsDone
looks_done home selected None = record { only_open = λ h. absurd h; counted = λ h. absurd h; only_done = λ h. absurd (apart h) }
looks_done home selected (Some held) = look_done home held held.phase (is_other selected held.content) refl

summary_done : (home : Backend) (uids : List ℕ) (held : Held) (phase : Phase) (other : Bool) → held.phase ≡ phase
    → IsDoneWhereOpen (Some held) (answers home (summaries_unless held.content uids (refusal_in phase other)))
unfolding summaries_unless refusal_in IsDone is_open_here is_open
summary_done home uids held Open true is = record { only_open = λ h. rw is refl; counted = λ h. refl; only_done = λ h. tt }
summary_done home uids held Open false is = record { only_open = λ h. rw is refl; counted = λ h. refl; only_done = λ h. tt }
summary_done home uids held (Pointer server) other is = record { only_open = λ h. absurd h; counted = λ h. absurd h; only_done = λ h. absurd (apart h) }
summary_done home uids held phase other is = record { only_open = λ h. absurd h; counted = λ h. absurd h; only_done = λ h. absurd (apart h) }

summaries_done : (home : Backend) (selected : Option ℕ) (uids : List ℕ) (found : Option Held) → IsDoneWhereOpen found (summaries_step home selected uids found)
unfolding summaries_step summaries_at refusal IsDone
summaries_done home selected uids None = record { only_open = λ h. absurd h; counted = λ h. absurd h; only_done = λ h. absurd (apart h) }
summaries_done home selected uids (Some held) = summary_done home uids held held.phase (is_other selected held.content) refl

op_done : (home : Backend) (ask : FrontAsk) (op : Op) → IsDoneWhereOpen (held_at home ask.name) (op_step home ask op)
unfolding op_step append_step read_step flags_step expunge_step IsDone
op_done home ask (Append messages) =
    served_done home ask.name ask.selected (λ content. append_within_limits content messages (append_fault content messages)) (held_at home ask.name)
    (λ content. did_append content messages (append_fault content messages))
op_done home ask (Read uids sees) =
    served_done home ask.name ask.selected (λ content. read_to content uids sees) (held_at home ask.name)
    (λ content. record { outcome = _; seen = _; is = refl })
op_done home ask (Flags uids mode flags) =
    served_done home ask.name ask.selected (λ content. flags_to content uids mode flags) (held_at home ask.name)
    (λ content. did_flags content uids mode flags (has_too_many_flags (rows_stored content uids mode flags)))
op_done home ask (Expunge only) =
    served_done home ask.name ask.selected (λ content. expunge_to content only) (held_at home ask.name)
    (λ content. record { outcome = _; seen = _; is = refl })
op_done home ask Look = looks_done home ask.selected (held_at home ask.name)
op_done home ask (Summaries uids) = summaries_done home ask.selected uids (held_at home ask.name)
op_done home ask op = record { only_open = λ h. absurd h; counted = λ h. absurd h; only_done = λ h. absurd (apart h) }

pub done_where_open : (home : Backend) (ask : FrontAsk) → IsDoneWhereOpen (held_at home ask.name) (home_step home ask)
unfolding home_step
done_where_open home ask = op_done home ask ask.op
