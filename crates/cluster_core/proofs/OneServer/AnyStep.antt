-- Where each event keeps the law, so does each step of a run; and what follows for names.
use Rattle.std.proofs.Common.{◌≡◌, ℕ, ◌+◌, Bool, List, [], ◌∷◌, ◌++◌, length, sym, ◌∙◌, subst, append_assoc}
use Rattle.imap_talk.specs.Heard.{Heard}
use Rattle.mur_config.specs.declared.config.Config.{Config}
use Rattle.mur_config.specs.Nodes.{AreNodes}
use Rattle.schedule_text.specs.declared.event.Event.{Event}
use Rattle.cluster_core.specs.Heard.{heard, heard_from, hears}
use Rattle.cluster_core.specs.World.{master_of, start, steps_by}
use Rattle.cluster_core.specs.declared.world.World.{World}
use Rattle.cluster_core.specs.Flow.{run_steps, steps_of_run}
use Rattle.cluster_core.specs.Headline.HomeLaw.{KeepsOneHomeEach}
use Rattle.cluster_core.specs.Headline.Outside.{table_at}
use Rattle.cluster_core.proofs.OneServer.MarksGoOn.{steps_made}
use Rattle.cluster_core.proofs.Runs.OneNodeLaw.{one_more_step}
use Rattle.cluster_core.proofs.Commands.Moving.{MovesBy}
use Rattle.cluster_core.proofs.Connections.KeepsBehind.{StepKeeps}
use Rattle.cluster_core.proofs.Connections.KeepsLaw.{KeepsLaw}
use Rattle.cluster_core.proofs.OneServer.EachStep.{EachKeeps, LawBehind, TellsMoves, heard_next, kept_all}
use Rattle.cluster_core.proofs.OneServer.MovingLaw.{StartsWith, moves_then, moving_of}
use Rattle.cluster_core.proofs.OneServer.OneHome.{one_home_each}
use Rattle.cluster_core.specs.Numbers.{NumbersFit, NumbersFitAll}

-- each event keeps the law of any world of which this holds, where the numbers fit then
abbrev pub AnyStepKeeps : Config → (World → Type 0) → Type 0
AnyStepKeeps config Holds = (came : ℕ → Heard) (world : World) (event : Event) (law : KeepsLaw config came world) → Holds world
    → NumbersFit (λ conn. hears config conn (came conn) event)
    → MovesBy law.story.talk.moving (world.steps + 1) (table_at (steps_by world event) (master_of config))
    → StepKeeps config law.story law.stops (λ conn. hears config conn (came conn) event) (steps_by world event) event

-- it holds behind each step
abbrev pub HoldsBehindAll : Config → (World → Type 0) → List Event → Type 0
HoldsBehindAll config Holds steps = (before later : List Event) → steps ≡ before ++ later → Holds (run_steps (start config) before)

same_heard : {A B : Type 0} {f g : A → B} → ((x : A) → f x ≡ g x) → f ≡ g
same_heard h = λ i x. h x i

-- what holds of a world and what was heard, as a run has both
as_run : (config : Config) (before : List Event) (event : Event) (P : (ℕ → Heard) → World → Type 0)
    → P (λ conn. hears config conn (heard config conn before) event) (steps_by (run_steps (start config) before) event)
    → P (λ conn. heard config conn (before ++ event ∷ [])) (run_steps (start config) (before ++ event ∷ []))
as_run config before event P is =
    subst (λ (w : World). P (λ conn. heard config conn (before ++ event ∷ [])) w) (sym (one_more_step (start config) before event))
    (subst (λ (came : ℕ → Heard). P came (steps_by (run_steps (start config) before) event))
    (sym (same_heard (λ conn. heard_next config conn before event))) is)

numbers_next : (config : Config) (before : List Event) (event : Event) → NumbersFit (λ conn. heard config conn (before ++ event ∷ []))
    → NumbersFit (λ conn. hears config conn (heard config conn before) event)
numbers_next config before event fit = subst NumbersFit (same_heard (λ conn. heard_next config conn before event)) fit

-- a run whose numbers fit
abbrev pub StepsKeep : Config → (World → Type 0) → List Event → Type 0
StepsKeep config Holds steps = AnyStepKeeps config Holds → StartsWith config (moving_of config steps)
    → HoldsBehindAll config Holds steps → NumbersFitAll config steps → EachKeeps config steps

begins : (config : Config) (steps : List Event) → StartsWith config (moving_of config steps) → (law : LawBehind config []) × TellsMoves config steps [] law
unfolding run_steps heard_from
begins config steps starts = (starts.law, starts.moving_is)

-- the tale has so of the next step
moves_next : (config : Config) (steps before : List Event) (event : Event) (later : List Event) (moving : ℕ → List ℕ → Bool) → steps ≡ before ++ event ∷ later
    → moving ≡ moving_of config steps
    → MovesBy moving ((run_steps (start config) before).steps + 1) (table_at (steps_by (run_steps (start config) before) event) (master_of config))
moves_next config steps before event later moving e same =
    subst (λ m. MovesBy m ((run_steps (start config) before).steps + 1) (table_at (steps_by (run_steps (start config) before) event) (master_of config)))
    (sym same)
    (subst (λ n. MovesBy (moving_of config steps) (n + 1) (table_at (steps_by (run_steps (start config) before) event) (master_of config)))
    (sym (steps_made config before))
    (subst (λ (w : World). MovesBy (moving_of config steps) (length before + 1) (table_at w (master_of config))) (one_more_step (start config) before event)
    (moves_then config steps before event later e)))

pub each_keeps : (config : Config) (steps : List Event) (Holds : World → Type 0) → StepsKeep config Holds steps
each_keeps config steps Holds any starts holds fit = record {
  first = (begins config steps starts).0;
  moves = (begins config steps starts).1;
  next = λ before event later e law moves. (keeps before event later e law moves).0;
  grows = λ before event later e law moves. (keeps before event later e law moves).1;
}
  where
    keeps : (before : List Event) (event : Event) (later : List Event) → steps ≡ before ++ event ∷ later → (law : LawBehind config before)
        → TellsMoves config steps before law
        → StepKeeps config law.story law.stops (λ conn. heard config conn (before ++ event ∷ [])) (run_steps (start config) (before ++ event ∷ [])) event
    keeps before event later e law moves =
        as_run config before event (λ came w. StepKeeps config law.story law.stops came w event)
        (any (λ conn. heard config conn before) (run_steps (start config) before) event law (holds before (event ∷ later) e)
        (numbers_next config before event (fit (before ++ event ∷ []) later (e ∙ sym (append_assoc before (event ∷ []) later))))
        (moves_next config steps before event later law.story.talk.moving e moves))

-- ---- the home law

abbrev pub OneHomeWhereKept : Config → List Event → Type 0
OneHomeWhereKept config events = AreNodes config.nodes → EachKeeps config (steps_of_run config events) → KeepsOneHomeEach config events

pub keeps_one_home_each : (config : Config) (events : List Event) → OneHomeWhereKept config events
keeps_one_home_each config events are each = λ before later parts.
    one_home_each config (λ conn. heard config conn before) (run_steps (start config) before) are
    ((kept_all config (steps_of_run config events) each).at before later parts).law
