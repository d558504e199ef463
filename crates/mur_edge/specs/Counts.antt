-- Counts of faults, which never fall, and what ties them to an answer.
use Rattle.std.specs.Prelude.{◌≡◌, ℕ, Result, Ok, Err, MatchResult}
use Rattle.mur_base.specs.Counts.{Rose}
use Rattle.mur_edge.specs.declared.fault.Faults.{Faults}
use Rattle.mur_edge.specs.declared.fault.HostFault.{HostFault}
use Rattle.mur_edge.specs.declared.fault.HostFault.TheVariants.{Failed, Memory}

-- what an object's count does in a call of it: a failure is counted, and nothing else is
abbrev pub CountsFailures : {T E : Type 0} → ℕ → ℕ → Result T E → Type 0
CountsFailures before now answer = MatchResult answer (λ _. now ≡ before) (λ _. Rose before now)

-- the same where want of memory is an answer too, which isn't counted
abbrev pub HasHostCause : {T : Type 0} → ℕ → ℕ → Result T HostFault → Type 0
HasHostCause before now (Ok _) = now ≡ before
HasHostCause before now (Err Failed) = Rose before now
HasHostCause before now (Err Memory) = now ≡ before

-- a fault of a source was counted, and no other
pub record SourceFault (before now : Faults) : Type 0 where
  pub sources : Rose before.sources now.sources
  pub outputs : now.outputs ≡ before.outputs
  pub errors : now.errors ≡ before.errors

-- a fault of an output was counted, and no other
pub record OutputFault (before now : Faults) : Type 0 where
  pub sources : now.sources ≡ before.sources
  pub outputs : Rose before.outputs now.outputs
  pub errors : now.errors ≡ before.errors

-- a fault of an error output was counted, and no other
pub record ErrorFault (before now : Faults) : Type 0 where
  pub sources : now.sources ≡ before.sources
  pub outputs : now.outputs ≡ before.outputs
  pub errors : Rose before.errors now.errors
