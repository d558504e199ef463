-- Nothing waits on empty links: where no message is on its way, each whole command was answered, up to an answer that ended
-- its connection, or to one that was lost with a link.
use Rattle.std.specs.Prelude.{◌≡◌, ◌⊎◌, ℕ, false, List, ◌++◌}
use Rattle.imap_talk.specs.Transcript.{Stop, transcript_till}
use Rattle.imap_talk.specs.Transcript.Stop.{is_lost}
use Rattle.mur_config.specs.declared.config.Config.{Config}
use Rattle.mur_config.specs.Nodes.{AreNodes}
use Rattle.imap_types.specs.declared.request.Request.{Request}
use Rattle.imap_types.specs.declared.request.Answer.{Answer}
use Rattle.schedule_text.specs.declared.event.Event.{Event}
use Rattle.cluster_core.specs.declared.layout.Layout.{Layout}
use Rattle.cluster_core.specs.declared.world.World.{World}
use Rattle.cluster_core.specs.Flow.{run_steps, steps_of_event}
use Rattle.cluster_core.specs.Numbers.{NumbersFitAll}
use Rattle.cluster_core.specs.Heard.{heard}
use Rattle.imap_talk.specs.Heard.{bytes_heard, frames_heard, has_closed}
use Rattle.cluster_core.specs.LawSetting.{law_setting}
use Rattle.cluster_core.specs.Headline.OneStore.{AreEmpty, IsAnsweredThrough}
use Rattle.cluster_core.specs.Headline.Outside.{guest_of, is_guest}
use Rattle.imap_talk.specs.Requests.{AreRequests}
use Rattle.cluster_core.specs.Shown.{given_to}
use Rattle.cluster_core.specs.World.{start}

-- behind these steps the client was given an answer to each whole command that it sent, or one that ended its connection, or the line that its command is
-- lost
pub record IsAnswered (config : Config) (conn : ℕ) (steps : List Event) (world : World) : Type 0 where
  pub requests : List Request
  pub answers : List Answer
  pub stop : Stop
  pub asked : AreRequests (law_setting config) (frames_heard (heard config conn steps)) requests
  pub given : given_to world conn ≡ transcript_till stop (law_setting config) (bytes_heard (heard config conn steps)) answers
  pub each : IsAnsweredThrough requests answers ⊎ (stop ≡ is_lost)

-- of each client that doesn't talk with the master and hasn't closed its connection
abbrev pub NothingWaits : Config → List Event → World → Type 0
NothingWaits config steps world = AreEmpty world → (conn : ℕ) → is_guest (guest_of config conn steps) ≡ false
    → has_closed (heard config conn steps) ≡ false → IsAnswered config conn steps world

-- whatever steps led here, in whatever configuration: as long as the numbers fit, nothing waits behind this event
abbrev pub NothingWaitsBehind : Layout → World → Event → Type 0
NothingWaitsBehind layout world event = (config : Config) (steps : List Event) → AreNodes config.nodes → world ≡ run_steps (start config) steps
    → NumbersFitAll config (steps ++ steps_of_event layout world event)
    → NothingWaits config (steps ++ steps_of_event layout world event) (run_steps world (steps_of_event layout world event))
