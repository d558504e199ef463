-- What a refusal says of the disk.
use Rattle.std.specs.Prelude.{◌≡◌, ◌⊎◌, ℕ, Option, Some, Result, Ok, Err}
use Rattle.mur_base.specs.Counts.{Rose}
use Rattle.node_cell.specs.declared.fault.CellFault.{CellFault}
use Rattle.node_cell.specs.declared.fault.CellFault.TheVariants.{Down, LogFull, Memory}

-- a cell is down where its disk failed and was counted, and where it was down before; nothing else is counted
abbrev pub HasCellCause : {T : Type 0} → Option CellFault → ℕ → ℕ → Result T CellFault → Type 0
HasCellCause fault before now (Ok done) = now ≡ before
HasCellCause fault before now (Err Down) = Rose before now ⊎ ((fault ≡ Some Down) × (now ≡ before))
HasCellCause fault before now (Err LogFull) = now ≡ before
HasCellCause fault before now (Err Memory) = now ≡ before

-- the same of one entry
abbrev pub HasWriteCause : {T : Type 0} → ℕ → ℕ → Result T CellFault → Type 0
HasWriteCause before now (Ok done) = now ≡ before
HasWriteCause before now (Err Down) = Rose before now
HasWriteCause before now (Err LogFull) = ⊥
HasWriteCause before now (Err Memory) = now ≡ before
