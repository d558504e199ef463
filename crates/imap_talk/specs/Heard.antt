-- What came from the client of a connection.
use Rattle.std.specs.Prelude.{ℕ, Bool, false, List, [], Option, None, Some}
use Rattle.imap_wire.specs.declared.frame.Frame.{Frame}
use Rattle.imap_wire.specs.Frames.{frames}

-- the connection wasn't opened yet; it was opened at a node that is no frontend; or these bytes came, and whether it was closed
pub data Heard : Type 0 where
  nobody : Heard
  elsewhere : Heard
  client : List ℕ → Bool → Heard

-- the bytes that came from a client, if there is one
unfoldable pub bytes_heard : Heard → Option (List ℕ)
bytes_heard nobody = None
bytes_heard elsewhere = None
bytes_heard (client bytes closed) = Some bytes

unfoldable pub frames_heard : Heard → List Frame
frames_heard nobody = []
frames_heard elsewhere = []
frames_heard (client bytes closed) = frames bytes

-- the client closed its connection
unfoldable pub has_closed : Heard → Bool
has_closed nobody = false
has_closed elsewhere = false
has_closed (client bytes closed) = closed
