-- What a host has noted of the calls that asked it for an object.
use Rattle.std.specs.Prelude.{ℕ, List}
use Rattle.mur_edge.specs.declared.host.Asked.{Asked}

-- the calls that weren't refused for memory, in order, and how many objects are out
pub record Noted : Type 0 where
  pub asked : List Asked
  pub held : ℕ
