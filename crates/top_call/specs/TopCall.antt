-- A whole call of the program: what the job that its words ask for did, and the line on the error output that tells how it ended.
use Rattle.std.specs.Prelude.{◌≡◌, ℕ, List, [], ◌∷◌, ◌⊎◌, Option, None, Some, MatchOption}
use Rattle.mur_edge.specs.Counts.{ErrorFault}
use Rattle.mur_edge.specs.Host.{HostFacts, errors_came}
use Rattle.mur_edge.specs.Sink.{SinkFacts, HoldsAll, HoldsFront}
use Rattle.mur_edge.specs.declared.host.Asked.TheVariants.{Errors}
use Rattle.mur_config.specs.Words.{job_of}
use Rattle.mur_config.specs.declared.job.Job.{Job}
use Rattle.mur_config.specs.declared.job.Job.TheVariants.{Replay, Drill}
use Rattle.top_call.specs.Drill.{DidDrill}
use Rattle.top_call.specs.Replay.{Adds, DidReplay}
use Rattle.top_call.specs.Status.{line_of, CountsStatus}
use Rattle.top_call.specs.declared.status.Status.{Status}
use Rattle.top_call.specs.declared.status.Status.TheVariants.{Words, Memory}

-- the call ended so before it asked the host for anything
pub record EndsAtOnce (ending : Status) (before now : HostFacts) (status : Status) : Type 0 where
  pub is : status ≡ ending
  pub nothing : Adds before now [] []

-- by the job: words without a form are refused, others do what they ask for
abbrev pub DidJob : Option Job → HostFacts → HostFacts → Status → Type 0
DidJob None before now status = EndsAtOnce Words before now status
DidJob (Some (Replay config schedule)) before now status = DidReplay (record { config = config; schedule = schedule }) before now status
DidJob (Some (Drill number size)) before now status = DidDrill number size before now status

-- memory may be wanting before a job begins: for its words, or for what is made from them
abbrev pub DidWords : Option Job → HostFacts → HostFacts → Status → Type 0
DidWords job before now status = EndsAtOnce Memory before now status ⊎ DidJob job before now status

-- the error output was asked for and came back with a front of the line: with all of it, or else a fault was counted
pub record TellsLine (line : List ℕ) (before now : HostFacts) : Type 0 where
  pub sink : SinkFacts
  pub front : HoldsFront sink.taken line
  pub all : (now.faults ≡ before.faults × HoldsAll sink.taken line) ⊎ ErrorFault before.faults now.faults
  pub adds : Adds before now (Errors ∷ []) (errors_came sink ∷ [])

-- the error output was asked for and refused, and that was counted
pub record IsRefusedErrors (before now : HostFacts) : Type 0 where
  pub counted : ErrorFault before.faults now.faults
  pub adds : Adds before now (Errors ∷ []) []

-- nothing was done
pub record DidNothing (before now : HostFacts) : Type 0 where
  pub counted : now.faults ≡ before.faults
  pub adds : Adds before now [] []

-- nothing is asked for where there is no line, or memory is wanting for it; else the line is written, or refused
abbrev pub DidTell : Option (List ℕ) → HostFacts → HostFacts → Type 0
DidTell line before now =
    DidNothing before now ⊎ MatchOption line ⊥ (λ text. IsRefusedErrors before now ⊎ TellsLine text before now)

-- a whole call: what its words ask for, and then the line of its status
pub record DidTopCall (words : List (List ℕ)) (before now : HostFacts) (status : Status) : Type 0 where
  pub between : HostFacts
  pub did : DidWords (job_of words) before between status
  pub counted : CountsStatus status before.faults between.faults
  pub told : DidTell (line_of status) between now
