-- What a step keeps, whatever event it is of: one that keeps the law and takes no reply back is such a step, and only a cut takes replies back.
use Rattle.std.proofs.Common.{ℕ}
use Rattle.imap_talk.specs.Heard.{Heard}
use Rattle.imap_talk.specs.Transcript.{Stop}
use Rattle.mark_history.specs.Marked.{Tale}
use Rattle.mur_config.specs.declared.config.Config.{Config}
use Rattle.schedule_text.specs.declared.event.Event.{Event}
use Rattle.schedule_text.specs.declared.event.Event.TheVariants.{Cut}
use Rattle.cluster_core.specs.declared.world.World.{World}
use Rattle.cluster_core.proofs.Connections.ConnectionLaw.{SaysOn}
use Rattle.cluster_core.proofs.Connections.KeepsLaw.{KeepsBehind, KeepsOn}
use Rattle.cluster_core.proofs.Connections.KeepsLaw.SaidOn.{on as said_on}

pub behind : (config : Config) (before : Tale) (stopped : ℕ → Stop) (heard : ℕ → Heard) (world : World) → KeepsOn config before stopped heard world
    → KeepsBehind config before stopped heard world
behind config before stopped heard world keeps = record {
  law = keeps.law;
  requests = keeps.more.requests;
  answers = keeps.more.answers;
  moving = keeps.more.moving;
  said = λ conn. said_on ((keeps.more.serials).more conn, (keeps.more.serials).parts conn) (keeps.grows conn);
  closed = keeps.closed;
}

-- no link breaks
abbrev pub IsNoCut : Event → Type 0
IsNoCut (Cut one other kept kept_back) = ⊥
IsNoCut event = Unit {0}

-- what a step of this event keeps
abbrev pub StepKeeps : Config → Tale → (ℕ → Stop) → (ℕ → Heard) → World → Event → Type 0
StepKeeps config before stopped heard world event =
    (keeps : KeepsBehind config before stopped heard world) × (IsNoCut event → SaysOn before keeps.law.story)

pub step_keeps : (config : Config) (before : Tale) (stopped : ℕ → Stop) (heard : ℕ → Heard) (world : World) (event : Event)
    → KeepsOn config before stopped heard world → StepKeeps config before stopped heard world event
unfolding behind
step_keeps config before stopped heard world event keeps = (behind config before stopped heard world keeps, λ none. keeps.grows)
