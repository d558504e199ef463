-- What is left of a number of bytes.
use Rattle.std.specs.Prelude.{◌≡◌, ℕ, ◌+◌, ◌<◌, Option, None, Some}

-- of so many bytes these are left behind others, unless those are more
abbrev pub IsRest : ℕ → ℕ → Option ℕ → Type 0
IsRest room taken None = room < taken
IsRest room taken (Some rest) = taken + rest ≡ room
