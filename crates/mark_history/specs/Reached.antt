-- Whether a point tells of a server that wasn't reached.
use Rattle.std.specs.Prelude.{◌≡◌, ℕ, List}
use Rattle.mur_base.specs.declared.point.Point.{Point}
use Rattle.mur_base.specs.declared.point.What.TheVariants.{Unreached as unreached}

-- where no link was ever cut there is none
abbrev pub IsReached : Point → Type 0
IsReached point = (node : List ℕ) → point.what ≡ unreached node → ⊥
