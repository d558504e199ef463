-- The words of a call, without the program's name: `replay CONFIG SCHEDULE` or `drill NUMBER SIZE`.
use Rattle.std.specs.Prelude.{ℕ, ◌≤◌, ⊤, Bool, false, ◌&&◌, ◌==◌, nat_lt, nat_le, if◌then◌else◌, List, [], ◌∷◌, codes}
use Rattle.std.specs.Prelude.{Option, None, Some, option_map, option_and_then}
use Rattle.std.specs.Str.{bytes_eq}
use Rattle.mur_base.specs.Number.{number_of}
use Rattle.mur_config.specs.declared.job.Job.{Job}
use Rattle.mur_config.specs.declared.job.Job.TheVariants.{Replay, Drill}

-- `--` ends the options
unfoldable pub ends_options : List ℕ → Bool
ends_options word = bytes_eq word (codes "--")

-- a word that begins with `-` may be meant as an option
unfoldable pub is_option : List ℕ → Bool
is_option [] = false
is_option (byte ∷ rest) = byte == 45

-- what the words behind the form name. No form has an option, and each word behind `--` is a name
unfoldable pub operands_of : List (List ℕ) → Option (List (List ℕ))
operands_of [] = Some []
operands_of (word ∷ words) =
    if ends_options word then Some words
    else if is_option word then None
    else option_map (λ others. word ∷ others) (operands_of words)

-- `CONFIG SCHEDULE`, two names of files
unfoldable pub replay_of : List (List ℕ) → Option Job
replay_of (config ∷ schedule ∷ []) = Some (Replay config schedule)
replay_of _ = None

-- a size is 1 to 9,999, in decimal
unfoldable pub size_in : Option ℕ → Option ℕ
size_in None = None
size_in (Some size) = if nat_lt 0 size && nat_le size 9999 then Some size else None

-- `NUMBER SIZE`; the number has at most 64 bits. Leading zeros are taken in both
unfoldable pub drill_of : List (List ℕ) → Option Job
drill_of (number ∷ size ∷ []) = option_and_then (λ number. option_map (λ size. Drill number size) (size_in (number_of size))) (number_of number)
drill_of _ = None

-- what the word in front says of the operands
unfoldable pub job_named : List ℕ → List (List ℕ) → Option Job
job_named form operands =
    if bytes_eq form (codes "replay") then replay_of operands
    else if bytes_eq form (codes "drill") then drill_of operands
    else None

-- what words ask for, where they have a form
unfoldable pub job_of : List (List ℕ) → Option Job
job_of [] = None
job_of (form ∷ words) = option_and_then (job_named form) (operands_of words)

-- a drill that words ask for has a size from 1 to 9,999
abbrev pub HasDrillSize : Option Job → Type 0
HasDrillSize None = ⊤
HasDrillSize (Some (Replay config schedule)) = ⊤
HasDrillSize (Some (Drill number size)) = (1 ≤ size) × (size ≤ 9999)

abbrev pub IsDrillSize : Option ℕ → Type 0
IsDrillSize None = ⊤
IsDrillSize (Some size) = (1 ≤ size) × (size ≤ 9999)
