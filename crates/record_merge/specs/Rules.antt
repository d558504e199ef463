-- How the nodes of a service act: a node may have any state, inputs and outputs, and nodes may send any messages.
use Rattle.std.specs.Prelude.{◌≡◌, ℕ, List, Option, Some}

pub record Rules (State Input Output Message : Type 0) : Type 0 where
  -- a node's state after an input, and its outputs then
  pub after : State → Input → State
  pub outputs : State → Input → List Output
  -- the messages among outputs for the node at a place, in their order
  pub messages_for : ℕ → List Output → List Message
  -- the message that an input takes off a link, with the place of the node that sent it; none if the input is a client's
  pub taken : Input → Option (ℕ × Message)
  -- the input that takes a message of the node at a place
  pub taking : ℕ → Message → Input
  pub taking_taken : (input : Input) (from : ℕ) (message : Message) → taken input ≡ Some (from, message) → taking from message ≡ input
