-- The text of a run is read back as what the run did.
use Rattle.std.proofs.Common.{List, [], length, refl, sym, subst}
use Rattle.std.proofs.lemmas.List.{append-nil}
use Rattle.std.specs.Prelude.{All}
use Rattle.std.specs.List.{flat_map}
use Rattle.std.specs.Ordering.{nat_cmp}
use Rattle.mur_base.specs.Map.{IsInOrder}
use Rattle.mur_config.specs.declared.config.Config.{Config}
use Rattle.mur_config.specs.Nodes.{AreNodes}
use Rattle.schedule_text.specs.declared.event.Event.{Event}
use Rattle.cluster_core.specs.declared.layout.Layout.{Layout}
use Rattle.cluster_core.specs.declared.world.World.{World}
use Rattle.cluster_core.specs.Flow.{run_of, steps_of_run}
use Rattle.cluster_core.specs.Headline.{IsOneServer}
use Rattle.cluster_core.specs.Headline.Outside.{table_at}
use Rattle.cluster_core.specs.Headline.Records.{RecordsStand, StandsAtBackend}
use Rattle.cluster_core.specs.History.{history_of}
use Rattle.cluster_core.specs.Shown.{home_rows}
use Rattle.cluster_core.specs.World.{layout_of, start}
use Rattle.top_call.specs.Output.{output_of, lines_of, client_lines, point_line, record_line, box_line, end_line}
use Rattle.top_call.specs.ReadBack.{TellsClient, IsPointLine, IsRecordLine, IsBoxLine, TellsRun}
use Rattle.top_call.specs.Replay.{replay_text}
use Rattle.cluster_core.proofs.Connections.ClientsInOrder.{clients_in_order}
use Rattle.cluster_core.proofs.Runs.Unrolled.{by_steps}
use Rattle.top_call.proofs.FoundLaw.{clients_found}
use Rattle.top_call.proofs.LinesRead.{tells_all, tells_each, client_read, point_line_read, record_line_read, box_line_read, end_line_read}

output_read : (config : Config) → AreNodes config.nodes → (layout : Layout) (world : World) → IsInOrder nat_cmp world.clients
    → All (StandsAtBackend config) (table_at world layout.master).records → TellsRun (output_of (record { layout = layout; world = world })) layout world
unfolding output_of lines_of
output_read config are layout world ordered stand = record {
  to_text = flat_map client_lines world.clients;
  point_text = flat_map point_line (history_of world);
  record_text = flat_map record_line (table_at world layout.master).records;
  box_text = flat_map box_line (home_rows layout world);
  end_text = end_line world.steps (length (history_of world));
  whole = refl;
  clients = tells_each TellsClient client_lines client_read world.clients;
  found = clients_found world ordered;
  points = tells_each IsPointLine point_line point_line_read (history_of world);
  records = tells_all (StandsAtBackend config) IsRecordLine record_line (record_line_read config are) (table_at world layout.master).records stand;
  boxes = tells_each IsBoxLine box_line box_line_read (home_rows layout world);
  ends = end_line_read world.steps (length (history_of world));
}

-- the world behind all steps is that of the run
records_stand : (config : Config) (events : List Event) → IsOneServer config events → RecordsStand config (run_of config events)
records_stand config events one =
    subst (RecordsStand config) (sym one.by_steps) (one.records (steps_of_run config events) [] (sym (append-nil (steps_of_run config events))))

pub run_read : (config : Config) (events : List Event) → AreNodes config.nodes → IsOneServer config events
    → TellsRun (replay_text config events) (layout_of config) (run_of config events)
run_read config events are one =
    output_read config are (layout_of config) (run_of config events)
    (subst (λ (world : World). IsInOrder nat_cmp world.clients) (sym (by_steps (layout_of config) (start config) events))
    (clients_in_order config (steps_of_run config events)))
    (records_stand config events one)

pub ruleset by_reading = (run_read)
