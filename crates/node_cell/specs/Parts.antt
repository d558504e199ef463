-- The parts of a cell.
use Rattle.std.specs.Prelude.{ℕ, List, Option}
use Rattle.mur_disk.specs.declared.disk.Disk.{Ghosts}
use Rattle.mur_journal.specs.declared.journal.Journal.{Journal}
use Rattle.node_step.specs.declared.input.NodeInput.{NodeInput}
use Rattle.node_step.specs.declared.node.NodeState.{NodeState}
use Rattle.record_merge.specs.declared.logged.Logged.{Logged}
use Rattle.node_cell.specs.declared.cell.Cell.{Cell}
use Rattle.node_cell.specs.declared.fault.CellFault.{CellFault}

module _ {D : Type 0} {ghosts : Ghosts D} where
  -- its node's name
  abbrev pub name_of : Cell D ghosts → List ℕ
  name_of cell = cell.name

  -- its node as it began
  abbrev pub begun_of : Cell D ghosts → NodeState
  begun_of cell = cell.begun.value

  -- its node as it is
  abbrev pub node_of : Cell D ghosts → NodeState
  node_of cell = cell.node

  abbrev pub journal_of : Cell D ghosts → Option (Journal D ghosts)
  journal_of cell = cell.journal

  abbrev pub stamp_of : Cell D ghosts → ℕ
  stamp_of cell = cell.stamp

  abbrev pub log_of : Cell D ghosts → List (Logged NodeInput)
  log_of cell = cell.log

  -- the fault that has stopped it
  abbrev pub fault_of : Cell D ghosts → Option CellFault
  fault_of cell = cell.fault
