-- What a drill did: the schedule that its number makes was run, and the line of counts was written.
use Rattle.std.specs.Prelude.{ℕ, List, Bool, true, false, length, map}
use Rattle.std.specs.List.{flat_map, filter}
use Rattle.mur_base.specs.declared.home.Phase.{Phase}
use Rattle.mur_base.specs.declared.home.Phase.TheVariants.{Open as open_here}
use Rattle.mur_edge.specs.Host.{HostFacts}
use Rattle.schedule_text.specs.Cuts.{cuts_of}
use Rattle.drill_gen.specs.Drill.{drill_events}
use Rattle.drill_gen.specs.DrillCluster.{drill_config}
use Rattle.drill_gen.specs.LineKinds.{kind_of_line, count_of}
use Rattle.drill_gen.specs.Summary.{summary_line}
use Rattle.drill_gen.specs.declared.lines.LineKind.{LineKind}
use Rattle.drill_gen.specs.declared.lines.LineKind.TheVariants.{Ok, No, Bad, Bye}
use Rattle.drill_gen.specs.declared.summary.Summary.{Summary}
use Rattle.cluster_core.specs.Flow.{ran}
use Rattle.cluster_core.specs.Headline.{IsOneServer}
use Rattle.cluster_core.specs.History.{history_of}
use Rattle.cluster_core.specs.Shown.{home_rows}
use Rattle.cluster_core.specs.World.{ClusterState}
use Rattle.cluster_core.specs.declared.cluster.HomeRow.{HomeRow}
use Rattle.cluster_core.specs.declared.world.Client.{Client}
use Rattle.cluster_core.specs.declared.world.World.{World}
use Rattle.top_call.specs.Replay.{EndsWriting}
use Rattle.top_call.specs.declared.status.Status.{Status}

-- what each line tells that a client was given
abbrev pub client_kinds : ℕ × Client → List LineKind
client_kinds client = map kind_of_line (cuts_of (client.1).given)

unfoldable pub kinds_given : World → List LineKind
kinds_given world = flat_map client_kinds world.clients

abbrev pub is_open_phase : Phase → Bool
is_open_phase open_here = true
is_open_phase phase = false

-- a mailbox whose `box` line says `open`
abbrev pub is_open_row : HomeRow → Bool
is_open_row row = is_open_phase row.phase

-- the counts of a run: its steps, the points of its history, the tagged lines and the BYE lines that clients were given, and the open
-- mailboxes
unfoldable pub summary_of : ℕ → ℕ → ClusterState → Summary
summary_of number size now = record {
  number = number;
  size = size;
  steps = now.world.steps;
  points = length (history_of now.world);
  ok = count_of Ok (kinds_given now.world);
  no = count_of No (kinds_given now.world);
  bad = count_of Bad (kinds_given now.world);
  bye = count_of Bye (kinds_given now.world);
  boxes = length (filter is_open_row (home_rows now.layout now.world));
}

-- the line of the run of a drill
abbrev pub drill_text : ℕ → ℕ → List ℕ
drill_text number size = summary_line (summary_of number size (ran drill_config (drill_events number size)))

-- the headline holds of the drill's run, and the call ended as it wrote the line of this run
pub record DidDrill (number size : ℕ) (before now : HostFacts) (status : Status) : Type 0 where
  pub one_server : IsOneServer drill_config (drill_events number size)
  pub ended : EndsWriting (drill_text number size) before now status
