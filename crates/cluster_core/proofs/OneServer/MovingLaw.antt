-- Which mailboxes are being moved behind each step of a run, by the master's table then.
use Rattle.std.proofs.Common.{◌≡◌, ℕ, suc, ◌+◌, Bool, List, [], ◌∷◌, ◌++◌, length, take, refl, ◌∙◌, ap, arith}
use Rattle.cluster_core.specs.World.{master_of, start}
use Rattle.imap_talk.specs.Heard.{nobody}
use Rattle.master_core.specs.Refusals.{is_reserved}
use Rattle.mur_config.specs.declared.config.Config.{Config}
use Rattle.node_record.specs.Table.{record_at}
use Rattle.schedule_text.specs.declared.event.Event.{Event}
use Rattle.cluster_core.specs.Flow.{run_steps}
use Rattle.cluster_core.specs.Headline.Outside.{table_at}
use Rattle.cluster_core.specs.Headline.Refusals.{AreReserved}
use Rattle.cluster_core.proofs.Commands.Moving.{MovesBy}
use Rattle.cluster_core.proofs.Connections.KeepsLaw.{KeepsLaw}

-- behind the step of this number
abbrev pub moving_of : Config → List Event → ℕ → List ℕ → Bool
moving_of config steps number name = is_reserved (record_at (table_at (run_steps (start config) (take number steps)) (master_of config)) name)

take_more : (before : List Event) (event : Event) (later : List Event) → take (suc (length before)) (before ++ event ∷ later) ≡ before ++ event ∷ []
take_more [] event later = refl
take_more (first ∷ before) event later = ap (λ l. first ∷ l) (take_more before event later)

pub moves_then : (config : Config) (steps before : List Event) (event : Event) (later : List Event) → steps ≡ before ++ event ∷ later
    → MovesBy (moving_of config steps) (length before + 1) (table_at (run_steps (start config) (before ++ event ∷ [])) (master_of config))
moves_then config steps before event later e name =
    let number : length before + 1 ≡ suc (length before) = omega arith in
    ap (λ n. moving_of config steps n name) number ∙ ap (λ s. moving_of config s (suc (length before)) name) e
    ∙ ap (λ s. is_reserved (record_at (table_at (run_steps (start config) s) (master_of config)) name)) (take_more before event later)

take_front : (before later : List Event) → take (length before) (before ++ later) ≡ before
take_front [] later = refl
take_front (first ∷ before) later = ap (λ l. first ∷ l) (take_front before later)

pub moves_behind : (config : Config) (steps : List Event) → AreReserved config steps (moving_of config steps)
moves_behind config steps before later e name =
    ap (λ s. moving_of config s (length before) name) e
    ∙ ap (λ s. is_reserved (record_at (table_at (run_steps (start config) s) (master_of config)) name)) (take_front before later)

-- the law holds before the first step, of a tale to which this is moving
pub record StartsWith (config : Config) (moving : ℕ → List ℕ → Bool) : Type 0 where
  pub law : KeepsLaw config (λ conn. nobody) (start config)
  pub moving_is : law.story.talk.moving ≡ moving
