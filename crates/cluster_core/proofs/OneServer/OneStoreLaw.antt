-- One store tells each run whose steps keep the law.
use Rattle.std.proofs.Common.{List}
use Rattle.imap_command.specs.Ruled.{IsDate}
use Rattle.mur_config.specs.declared.config.Config.{Config}
use Rattle.mur_config.specs.Nodes.{AreNodes}
use Rattle.schedule_text.specs.declared.event.Event.{Event}
use Rattle.cluster_core.specs.Flow.{steps_of_run}
use Rattle.cluster_core.specs.Headline.OneStore.{IsToldByOneStore}
use Rattle.cluster_core.specs.Numbers.{NumbersFitAll}
use Rattle.cluster_core.proofs.Guests.GuestsServed.{others_silent}
use Rattle.cluster_core.proofs.OneServer.EachStep.{EachKeeps}
use Rattle.cluster_core.proofs.OneServer.ToldSoFar.{told_by_one_store}

abbrev pub OneStoreWhereKept : Config → List Event → Type 0
OneStoreWhereKept config events = AreNodes config.nodes → IsDate config.date → NumbersFitAll config (steps_of_run config events)
    → EachKeeps config (steps_of_run config events) → IsToldByOneStore config events

pub one_store_tells : (config : Config) (events : List Event) → OneStoreWhereKept config events
one_store_tells config events are date_is fits each = told_by_one_store config events are date_is fits each (others_silent config events are each)
