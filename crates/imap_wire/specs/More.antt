-- What more bytes of a connection bring, by the bytes of the command that has begun: whatever came before that command
-- makes no difference. None has begun where the connection has ended at a fault.
use Rattle.std.specs.Prelude.{ℕ, List, [], ◌∷◌, ◌++◌, length, drop, Option, None, Some}
use Rattle.imap_wire.specs.declared.frame.Frame.{Frame}
use Rattle.imap_wire.specs.Frames.{frames, begun}

-- the frames that end in them
unfoldable pub frames_of_more : Option (List ℕ) → List ℕ → List Frame
frames_of_more None more = []
frames_of_more (Some bytes) more = drop (length (frames bytes)) (frames (bytes ++ more))

-- the bytes of the command that has begun behind them
unfoldable pub begun_by_more : Option (List ℕ) → List ℕ → Option (List ℕ)
begun_by_more held [] = held
begun_by_more None (byte ∷ more) = None
begun_by_more (Some bytes) (byte ∷ more) = begun (bytes ++ byte ∷ more)
