-- What a replay did, by cases on how it ended: the objects that it asked the host for, and those that came back, each with
-- all that it tells.
use Rattle.std.specs.Prelude.{◌≡◌, ℕ, ◌+◌, ◌≤◌, List, [], ◌∷◌, ◌++◌, ◌⊎◌, Result, Ok, Err, length}
use Rattle.mur_base.specs.declared.limits.TheConstants.{SCHEDULE_LIMIT}
use Rattle.mur_edge.specs.Host.{HostFacts, Came, source_came, out_came}
use Rattle.mur_edge.specs.Source.{SourceFacts, HasContent, GaveFront, GaveAtMost}
use Rattle.mur_edge.specs.Sink.{SinkFacts, HoldsAll, HoldsFront}
use Rattle.mur_edge.specs.declared.fault.HostFault.{HostFault}
use Rattle.mur_edge.specs.declared.fault.HostFault.TheVariants.{Failed as failed, Memory as no_memory}
use Rattle.mur_edge.specs.declared.host.Asked.{Asked}
use Rattle.mur_edge.specs.declared.host.Asked.TheVariants.{Source, Out}
use Rattle.mur_config.specs.declared.config.Config.{Config as Configuration}
use Rattle.schedule_text.specs.declared.event.Event.{Event}
use Rattle.cluster_core.specs.Flow.{ran, run_of}
use Rattle.cluster_core.specs.World.{layout_of}
use Rattle.mur_config.specs.Config.{config_of}
use Rattle.mur_config.specs.Rules.{config_rule_number as config_rule}
use Rattle.mur_config.specs.declared.fault.ConfigFault.{ConfigFault}
use Rattle.cluster_core.specs.Headline.{IsOneServer}
use Rattle.schedule_text.specs.Meaning.{IsSchedule, IsNoSchedule}
use Rattle.schedule_text.specs.Schedule.{schedule_of}
use Rattle.schedule_text.specs.ScheduleRules.{schedule_rule_number}
use Rattle.schedule_text.specs.declared.schedule.fault.SchedFault.{SchedFault}
use Rattle.top_call.specs.Output.{output_of}
use Rattle.top_call.specs.ReadBack.{TellsRun}
use Rattle.mur_config.specs.declared.config.TheConstants.{CONFIG_LIMIT}
use Rattle.top_call.specs.declared.status.Status.{Status}
use Rattle.top_call.specs.declared.status.Status.TheVariants.{Done, Words, Config, Schedule, Read, Write, Memory}

-- the names of the files that a replay reads
pub record Names : Type 0 where
  pub config : List ℕ
  pub schedule : List ℕ

-- since then these calls were made and these objects came back. As many objects are out as then, and of each name the same is told
pub record Adds (before now : HostFacts) (calls : List Asked) (came : List Came) : Type 0 where
  pub asked : now.asked ≡ before.asked ++ calls
  pub returned : now.returned ≡ before.returned ++ came
  pub held : now.held ≡ before.held
  pub content : now.content ≡ before.content

-- the file of this name was read: this is its text or, where it is longer than the limit, so much of it that this is seen, and
-- the rest wasn't read. A file has the content that the host tells of its name, where it tells any
pub record Reads (limit : ℕ) (name text : List ℕ) (before now : HostFacts) : Type 0 where
  pub source : SourceFacts
  pub content : HasContent (before.content name) source
  pub front : GaveFront (limit + 1) source.whole source.left text
  pub adds : Adds before now (Source name ∷ []) (source_came name source ∷ [])

-- the file of this name was asked for, and came back with no more read than that
pub record Uses (limit : ℕ) (name : List ℕ) (before now : HostFacts) : Type 0 where
  pub source : SourceFacts
  pub content : HasContent (before.content name) source
  pub at_most : GaveAtMost (limit + 1) source.whole source.left
  pub adds : Adds before now (Source name ∷ []) (source_came name source ∷ [])

-- a file was refused by the host, or its source failed
abbrev pub FailsToRead : ℕ → List ℕ → HostFacts → HostFacts → Type 0
FailsToRead limit name before now = Adds before now (Source name ∷ []) [] ⊎ Uses limit name before now

-- memory was wanting at a file: before it was asked for, or while its text was read or looked at
abbrev pub StopsReading : ℕ → List ℕ → HostFacts → HostFacts → Type 0
StopsReading limit name before now = Adds before now [] [] ⊎ Uses limit name before now

-- reading a file, by the answer
abbrev pub DidReadFile : ℕ → List ℕ → HostFacts → HostFacts → Result (List ℕ) HostFault → Type 0
DidReadFile limit name before now (Ok text) = Reads limit name text before now
DidReadFile limit name before now (Err failed) = FailsToRead limit name before now
DidReadFile limit name before now (Err no_memory) = StopsReading limit name before now

-- the configuration's file was read to its end, and spells this configuration
pub record HasConfig (name : List ℕ) (config : Configuration) (before now : HostFacts) : Type 0 where
  pub text : List ℕ
  pub reads : Reads CONFIG_LIMIT name text before now
  pub whole : length text ≤ CONFIG_LIMIT
  pub right : config_of text ≡ Ok config

-- the configuration's file was read to its end; this is the first rule that it breaks
pub record HasNoConfig (name : List ℕ) (rule : ℕ) (before now : HostFacts) : Type 0 where
  pub text : List ℕ
  pub reads : Reads CONFIG_LIMIT name text before now
  pub whole : length text ≤ CONFIG_LIMIT
  pub fault : ConfigFault
  pub wrong : config_of text ≡ Err fault
  pub by_rule : rule ≡ config_rule fault

-- how a call ends at the configuration, if it does
abbrev pub EndsAtConfig : List ℕ → HostFacts → HostFacts → Status → Type 0
EndsAtConfig name before now (Config rule) = HasNoConfig name rule before now
EndsAtConfig name before now Read = FailsToRead CONFIG_LIMIT name before now
EndsAtConfig name before now Memory = StopsReading CONFIG_LIMIT name before now
EndsAtConfig name before now Done = ⊥
EndsAtConfig name before now Words = ⊥
EndsAtConfig name before now (Schedule line rule) = ⊥
EndsAtConfig name before now Write = ⊥

abbrev pub DidReadConfig : List ℕ → HostFacts → HostFacts → Result Configuration Status → Type 0
DidReadConfig name before now (Ok config) = HasConfig name config before now
DidReadConfig name before now (Err status) = EndsAtConfig name before now status

-- the schedule's file was read to its end, and spells these events
pub record HasEvents (config : Configuration) (name : List ℕ) (events : List Event) (before now : HostFacts) : Type 0 where
  pub text : List ℕ
  pub reads : Reads SCHEDULE_LIMIT name text before now
  pub whole : length text ≤ SCHEDULE_LIMIT
  pub right : schedule_of config text ≡ Ok events
  pub means : IsSchedule config text events

-- the schedule's file was read; this is its first line that breaks a rule, and the rule
pub record HasNoEvents (config : Configuration) (name : List ℕ) (line rule : ℕ) (before now : HostFacts) : Type 0 where
  pub text : List ℕ
  pub reads : Reads SCHEDULE_LIMIT name text before now
  pub fault : SchedFault
  pub wrong : schedule_of config text ≡ Err fault
  pub means : IsNoSchedule config text line
  pub at_line : line ≡ fault.line
  pub by_rule : rule ≡ schedule_rule_number fault.why

-- how a call ends at the schedule, if it does
abbrev pub EndsAtSchedule : Configuration → List ℕ → HostFacts → HostFacts → Status → Type 0
EndsAtSchedule config name before now (Schedule line rule) = HasNoEvents config name line rule before now
EndsAtSchedule config name before now Read = FailsToRead SCHEDULE_LIMIT name before now
EndsAtSchedule config name before now Memory = StopsReading SCHEDULE_LIMIT name before now
EndsAtSchedule config name before now Done = ⊥
EndsAtSchedule config name before now Words = ⊥
EndsAtSchedule config name before now (Config rule) = ⊥
EndsAtSchedule config name before now Write = ⊥

abbrev pub DidReadSchedule : Configuration → List ℕ → HostFacts → HostFacts → Result (List Event) Status → Type 0
DidReadSchedule config name before now (Ok events) = HasEvents config name events before now
DidReadSchedule config name before now (Err status) = EndsAtSchedule config name before now status

-- the output was asked for and came back with this text
pub record Writes (text : List ℕ) (before now : HostFacts) : Type 0 where
  pub sink : SinkFacts
  pub written : HoldsAll sink.taken text
  pub adds : Adds before now (Out ∷ []) (out_came sink ∷ [])

-- the output was asked for and came back with a front of this text
pub record WritesFront (text : List ℕ) (before now : HostFacts) : Type 0 where
  pub sink : SinkFacts
  pub written : HoldsFront sink.taken text
  pub adds : Adds before now (Out ∷ []) (out_came sink ∷ [])

-- how a call ends that writes this text
abbrev pub EndsWriting : List ℕ → HostFacts → HostFacts → Status → Type 0
EndsWriting text before now Done = Writes text before now
EndsWriting text before now Write = Adds before now (Out ∷ []) [] ⊎ WritesFront text before now
EndsWriting text before now Memory = Adds before now [] [] ⊎ WritesFront text before now
EndsWriting text before now Words = ⊥
EndsWriting text before now (Config rule) = ⊥
EndsWriting text before now (Schedule line rule) = ⊥
EndsWriting text before now Read = ⊥

-- the text of the run of a configuration's cluster
abbrev pub replay_text : Configuration → List Event → List ℕ
replay_text config events = output_of (ran config events)

-- the configuration was right, and the call ended at the schedule
pub record EndsBehindConfig (names : Names) (before now : HostFacts) (status : Status) : Type 0 where
  pub config : Configuration
  pub between : HostFacts
  pub configured : HasConfig names.config config before between
  pub ended : EndsAtSchedule config names.schedule between now status

-- both were right, and the call ended as it wrote the text of the run. Of this run the headline holds: its clients were given what one
-- mailbox store replies to the printed history, up to a line that a command was lost with a link; a mailbox has at most one writable home,
-- and each refusal of relocation has its cause.
-- The text tells what this run gave its clients, its history, its mailboxes and its counts, whether or not an output took it
pub record EndsBehindRun (names : Names) (before now : HostFacts) (status : Status) : Type 0 where
  pub config : Configuration
  pub events : List Event
  pub configured_at : HostFacts
  pub between : HostFacts
  pub configured : HasConfig names.config config before configured_at
  pub scheduled : HasEvents config names.schedule events configured_at between
  pub one_server : IsOneServer config events
  pub tells : TellsRun (replay_text config events) (layout_of config) (run_of config events)
  pub ended : EndsWriting (replay_text config events) between now status

-- a replay ends at the configuration, else at the schedule, else as it writes the text of the run
abbrev pub DidReplay : Names → HostFacts → HostFacts → Status → Type 0
DidReplay names before now status =
    EndsAtConfig names.config before now status ⊎ (EndsBehindConfig names before now status ⊎ EndsBehindRun names before now status)
