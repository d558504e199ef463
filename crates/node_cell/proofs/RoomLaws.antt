-- A node that is no frontend always has room.
use Rattle.std.proofs.Common.{◌≡◌, ℕ, List, [], ◌∷◌, IsFalse, ◌∙◌, Option, Some, subst}
use Rattle.std.specs.Option.{IfSome}
use Rattle.mur_disk.specs.declared.disk.Disk.{Ghosts}
use Rattle.node_cell.specs.declared.cell.Cell.{Cell}
use Rattle.node_cell.specs.Parts.{node_of}
use Rattle.node_step.specs.NodeStep.{takes}
use Rattle.node_step.specs.Room.{HasRoomToTake}
use Rattle.node_step.specs.declared.input.NodeInput.{NodeInput}
use Rattle.node_step.specs.declared.node.NodeState.{NodeState}
use Rattle.node_step.specs.declared.node.NodeState.TheVariants as node
use Rattle.node_cell.specs.Batch.{HasRoomToTakeAll}
use Rattle.node_cell.specs.Written.{is_front}
use Rattle.node_cell.proofs.FrontLaws.{front-stays}

pub room_to_take : (it : NodeState) (input : NodeInput) → IsFalse (is_front it) → HasRoomToTake it input
unfolding is_front HasRoomToTake
room_to_take (node.Front front) input is = cc
room_to_take (node.Back home) input is = tt
room_to_take (node.Master master) input is = tt

pub room_to_take_all : (it : NodeState) (inputs : List (ℕ × NodeInput)) → IsFalse (is_front it) → HasRoomToTakeAll it inputs
room_to_take_all it [] is = tt
room_to_take_all it (first ∷ inputs) is =
    (room_to_take it first.1 is, room_to_take_all (takes it first.1).state inputs (front-stays it first.1 ∙ is))

-- a cell that was found, whose node is no frontend
module _ {D : Type 0} {ghosts : Ghosts D} (found : Option (Cell D ghosts)) (cell : Cell D ghosts) where
  is_no_front : IfSome found (λ it. IsFalse (is_front (node_of it))) → found ≡ Some cell → IsFalse (is_front (node_of cell))
  is_no_front none is = let P : Option (Cell D ghosts) → Type 0 = λ o. IfSome o (λ it. IsFalse (is_front (node_of it))) in subst P is none

  pub room_found : (input : NodeInput) → IfSome found (λ it. IsFalse (is_front (node_of it))) → found ≡ Some cell → HasRoomToTake (node_of cell) input
  room_found input none is = room_to_take (node_of cell) input (is_no_front none is)

  pub all_room_found : (inputs : List (ℕ × NodeInput)) → IfSome found (λ it. IsFalse (is_front (node_of it))) → found ≡ Some cell
      → HasRoomToTakeAll (node_of cell) inputs
  all_room_found inputs none is = room_to_take_all (node_of cell) inputs (is_no_front none is)
