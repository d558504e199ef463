-- What a connection has read: its bytes are cut into frames, and these are its inputs.
use Rattle.std.specs.Prelude.{ℕ, List, [], Option}
use Rattle.imap_talk.specs.declared.inputs.Before.{Before}
use Rattle.imap_talk.specs.declared.inputs.Input.{Input}
use Rattle.imap_talk.specs.Inputs.{at_first, before_next, inputs_of}
use Rattle.imap_wire.specs.Frames.{begun}
use Rattle.imap_wire.specs.More.{frames_of_more, begun_by_more}
use Rattle.mur_model.specs.declared.setting.Setting.{Setting}

-- the bytes of the frame that has begun, or none once the connection has ended at a fault; and what stands before the frame
pub record Reading : Type 0 where
  pub held : Option (List ℕ)
  pub before : Before

-- of a new connection
abbrev pub first_reading : Reading
first_reading = record { held = begun []; before = at_first }

-- the inputs that end in more bytes
unfoldable pub inputs_of_more : Setting → Reading → List ℕ → List Input
inputs_of_more setting reading bytes = inputs_of setting reading.before (frames_of_more reading.held bytes)

unfoldable pub read_more : Setting → Reading → List ℕ → Reading
read_more setting reading bytes =
    record { held = begun_by_more reading.held bytes; before = before_next setting reading.before (frames_of_more reading.held bytes) }
