-- What feeding a framer gives, where `past` are all bytes of the connection before the piece.
use Rattle.std.specs.Prelude.{◌≡◌, ℕ, ◌<◌, ◌≤◌, List, [], ◌∷◌, ◌++◌, length, take, Option, None, Some, IsSome, IsNone}
use Rattle.imap_wire.specs.declared.frame.Frame.{Frame}
use Rattle.imap_wire.specs.declared.frame.Frame.TheVariants.{Whole, NeedLiteral, TooBig, Fault}
use Rattle.imap_wire.specs.declared.tally.Tally.{Tally}
use Rattle.imap_wire.specs.Frames.{frames}

-- what a contract sees of a framer: the bytes of the command that has begun, none once it is spent, and what it did for the connection
pub record Progress : Type 0 where
  pub begun : Option (List ℕ)
  pub tally : Tally
  pub moves : ℕ

-- the frame ends at the last of the bytes that are taken, and none ends before it
pub record EndsFrame (past piece : List ℕ) (frame : Frame) (taken : ℕ) : Type 0 where
  pub within : taken ≤ length piece
  pub one_more : frames (past ++ take taken piece) ≡ frames past ++ frame ∷ []
  pub not_before : (n : ℕ) → n < taken → frames (past ++ take n piece) ≡ frames past

-- no frame ends in the piece, which is taken whole
pub record EndsNone (past piece : List ℕ) (taken : ℕ) : Type 0 where
  pub whole : taken ≡ length piece
  pub no_more : frames (past ++ piece) ≡ frames past

-- the first frame that ends in the piece, if one does, and how many bytes there are up to its end
abbrev pub GivesFrame : List ℕ → List ℕ → Option Frame → ℕ → Type 0
GivesFrame past piece None taken = EndsNone past piece taken
GivesFrame past piece (Some frame) taken = EndsFrame past piece frame taken

-- what a frame leaves of the command that has begun: a whole one and one that is too big leave nothing, a fault ends the connection
abbrev pub Leaves : Frame → Option (List ℕ) → Type 0
Leaves (Whole bytes) begun = begun ≡ Some []
Leaves (NeedLiteral size) begun = IsSome begun
Leaves (TooBig bytes) begun = begun ≡ Some []
Leaves (Fault fault) begun = IsNone begun
