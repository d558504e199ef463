-- What a host tells, and what its calls do to it.
use Rattle.std.specs.Prelude.{◌≡◌, ℕ, ◌+◌, ◌-◌, ◌<◌, List, [], ◌∷◌, ◌++◌, Option, None, Some, Result, Ok, Err}
use Rattle.std.specs.List.{fold}
use Rattle.mur_edge.specs.Counts.{SourceFault, OutputFault, ErrorFault}
use Rattle.mur_edge.specs.Source.{SourceFacts}
use Rattle.mur_edge.specs.Sink.{SinkFacts}
use Rattle.mur_edge.specs.declared.fault.Faults.{Faults}
use Rattle.mur_edge.specs.declared.fault.HostFault.{HostFault}
use Rattle.mur_edge.specs.declared.fault.HostFault.TheVariants.{Memory, Failed}
use Rattle.mur_edge.specs.declared.host.Asked.{Asked}
use Rattle.mur_edge.specs.declared.host.Asked.TheVariants.{Source as source_asked, Out as out_asked, Errors as errors_asked}
use Rattle.mur_edge.specs.declared.host.Used.{Used}
use Rattle.mur_edge.specs.declared.host.Used.TheVariants.{Source, Out, Errors}

-- an object that came back, with all that it tells
pub data Came : Type 0 where
  source_came : (name : List ℕ) (source : SourceFacts) → Came
  out_came : (sink : SinkFacts) → Came
  errors_came : (sink : SinkFacts) → Came

-- how many faults were counted, by the kind of object; the calls that asked for an object and weren't refused for memory, and the
-- objects that came back, both in order; how many objects are out; the content of a source by its name, where the host tells it
pub record HostFacts : Type 0 where
  pub faults : Faults
  pub asked : List Asked
  pub returned : List Came
  pub held : ℕ
  pub content : List ℕ → Option (List ℕ)

-- the calls so far, after one that was answered so
abbrev pub after_call : {T : Type 0} → List Asked → Asked → Result T HostFault → List Asked
after_call asked call (Ok _) = asked ++ call ∷ []
after_call asked call (Err Failed) = asked ++ call ∷ []
after_call asked call (Err Memory) = asked

-- the number of objects that are out, after a call that was answered so
abbrev pub after_hand_out : {T : Type 0} → ℕ → Result T HostFault → ℕ
after_hand_out held (Ok _) = held + 1
after_hand_out held (Err _) = held

-- a fault of the kind of object that was asked for was counted, and no other
abbrev pub FaultOfCall : Asked → Faults → Faults → Type 0
FaultOfCall (source_asked name) before now = SourceFault before now
FaultOfCall out_asked before now = OutputFault before now
FaultOfCall errors_asked before now = ErrorFault before now

-- the counts after a call that was answered so: they stay as they were unless it failed
abbrev pub CountsCall : {T : Type 0} → Asked → Faults → Faults → Result T HostFault → Type 0
CountsCall call before now (Ok _) = now ≡ before
CountsCall call before now (Err Failed) = FaultOfCall call before now
CountsCall call before now (Err Memory) = now ≡ before

-- what a call for an object does to all that a host tells
pub record DidAsk {T : Type 0} (call : Asked) (before now : HostFacts) (answer : Result T HostFault) : Type 0 where
  pub asked : now.asked ≡ after_call before.asked call answer
  pub returned : now.returned ≡ before.returned
  pub held : now.held ≡ after_hand_out before.held answer
  pub content : now.content ≡ before.content
  pub cause : CountsCall call before.faults now.faults answer

-- what comes back with an object, by what sources of type I and sinks of type O tell
module _ {I O : Type 0} (source : I → SourceFacts) (sink : O → SinkFacts) where
  abbrev pub came_of : Used I O → Came
  came_of (Source name object) = source_came name (source object)
  came_of (Out object) = out_came (sink object)
  came_of (Errors object) = errors_came (sink object)

-- the faults that an object had counted when it came back
abbrev pub faults_of : Came → ℕ
faults_of (source_came name source) = source.faults
faults_of (out_came sink) = sink.faults
faults_of (errors_came sink) = sink.faults

-- a fault of the object's kind was counted, and no other
abbrev pub FaultOfCame : Came → Faults → Faults → Type 0
FaultOfCame (source_came name source) before now = SourceFault before now
FaultOfCame (out_came sink) before now = OutputFault before now
FaultOfCame (errors_came sink) before now = ErrorFault before now

-- what taking an object back does to all that a host tells: a fault is counted exactly where the object had counted one
pub record TakesBack (came : Came) (before now : HostFacts) : Type 0 where
  pub asked : now.asked ≡ before.asked
  pub returned : now.returned ≡ before.returned ++ came ∷ []
  pub held : now.held ≡ before.held - 1
  pub content : now.content ≡ before.content
  pub faultless : faults_of came ≡ 0 → now.faults ≡ before.faults
  pub faulty : 0 < faults_of came → FaultOfCame came before.faults now.faults

-- the bytes that an output which came back had taken, where it told them, else those found before it
abbrev pub told_or : List ℕ → Option (List ℕ) → List ℕ
told_or found None = found
told_or found (Some taken) = taken

abbrev pub output_or : List ℕ → Came → List ℕ
output_or found (source_came name source) = found
output_or found (out_came sink) = told_or found sink.taken
output_or found (errors_came sink) = found

abbrev pub errors_or : List ℕ → Came → List ℕ
errors_or found (source_came name source) = found
errors_or found (out_came sink) = found
errors_or found (errors_came sink) = told_or found sink.taken

-- the bytes of the last output and of the last error output that came back
abbrev pub last_output : List Came → List ℕ
last_output came = fold output_or [] came

abbrev pub last_errors : List Came → List ℕ
last_errors came = fold errors_or [] came
