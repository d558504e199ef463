-- An event behind any run, as long as the numbers fit: its steps are those of the event, and nothing waits behind them.
use Rattle.std.proofs.Common.{◌≡◌, List, ◌++◌, [], sym, ◌∙◌, ap, subst}
use Rattle.std.proofs.lemmas.List.{append-nil}
use Rattle.mur_config.specs.declared.config.Config.{Config}
use Rattle.mur_config.specs.Nodes.{AreNodes}
use Rattle.schedule_text.specs.declared.event.Event.{Event}
use Rattle.cluster_core.specs.declared.layout.Layout.{Layout}
use Rattle.cluster_core.specs.declared.world.World.{World}
use Rattle.cluster_core.specs.Flow.{run_steps, steps_of_event}
use Rattle.cluster_core.specs.Headline.AtRest.{NothingWaits, NothingWaitsBehind}
use Rattle.cluster_core.specs.Headline.FlowLaw.{AreItsSteps}
use Rattle.cluster_core.specs.Heard.{heard}
use Rattle.cluster_core.specs.Numbers.{NumbersFitAll}
use Rattle.cluster_core.specs.World.{start}
use Rattle.cluster_core.proofs.Guests.GuestsServed.{silent_behind}
use Rattle.cluster_core.proofs.Keeps.AnyStep.{law_of_run}
use Rattle.cluster_core.proofs.OneServer.AtRestLaw.{at_rest}
use Rattle.cluster_core.proofs.OneServer.EachStep.{kept_all}
use Rattle.cluster_core.proofs.Runs.FlowRests.{are_its_steps}
use Rattle.cluster_core.proofs.Runs.OnPairs.{KnowBackendsSoFar, know_by_law}
use Rattle.cluster_core.proofs.Runs.Unrolled.{run_steps-append}

known_so_far : (config : Config) (steps : List Event) → AreNodes config.nodes → NumbersFitAll config steps → KnowBackendsSoFar config steps
known_so_far config steps are fit before later parts =
    know_by_law config (λ conn. heard config conn before) (run_steps (start config) before)
    ((kept_all config steps (law_of_run config steps are fit)).at before later parts).law

pub steps_are_its : (layout : Layout) (world : World) (event : Event) → AreItsSteps layout world event
steps_are_its layout world event = are_its_steps layout world event known_so_far

behind_steps : (config : Config) (steps : List Event) → AreNodes config.nodes → NumbersFitAll config steps
    → NothingWaits config steps (run_steps (start config) steps)
behind_steps config steps are fit =
    let each = law_of_run config steps are fit in
    at_rest config steps are ((kept_all config steps each).at steps [] (sym (append-nil steps))).law (silent_behind config steps are each)

pub nothing_waits : (layout : Layout) (world : World) (event : Event) → NothingWaitsBehind layout world event
nothing_waits layout world event = λ config steps are e fit.
    let more = steps_of_event layout world event in
    let there : run_steps (start config) (steps ++ more) ≡ run_steps world more =
    run_steps-append (start config) steps more ∙ ap (λ w. run_steps w more) (sym e) in
    subst (λ w. NothingWaits config (steps ++ more) w) there (behind_steps config (steps ++ more) are fit)
