-- Which place is told of bytes that begin no line: the one from which on no line goes on so; but where a name or a location
-- could go on as a string of any text, the place at which it begins.
use Rattle.std.specs.Prelude.{◌≡◌, ℕ, ◌-◌, ◌≤◌, nat_lt, nat_eq, List, length, Result, Ok, Err, if◌then◌else◌}
use Rattle.grammar.specs.Part.{Part}
use Rattle.grammar.specs.Forms.{Form}
use Rattle.mupdate_codec.specs.Arguments.{Texts, exact}
use Rattle.mupdate_codec.specs.Strings.{mupdate_string}

-- how many bytes are left at the place that is told, where a string of any text is read so
abbrev pub loose_left : {A : Type 0} → ℕ → List ℕ → Result (A × List ℕ) ℕ → ℕ
loose_left left bytes (Ok x) = length bytes
loose_left left bytes (Err less) = if nat_lt less left then length bytes else left

-- the same where the argument stops with so many left: with none left it may still go on, and nothing is told
abbrev pub told_left : {A : Type 0} → ℕ → List ℕ → Result (A × List ℕ) ℕ → ℕ
told_left left bytes loose = if nat_eq left 0 then 0 else loose_left left bytes loose

abbrev pub placed_by : {A B : Type 0} → List ℕ → Result (B × List ℕ) ℕ → Result (A × List ℕ) ℕ → Result (A × List ℕ) ℕ
placed_by bytes loose (Ok x) = Ok x
placed_by bytes loose (Err left) = Err (told_left left bytes loose)

-- an argument whose stop is told so
abbrev pub placed_part : {A : Type 0} → Part A → Part A
placed_part p = record { lang = p.lang; at = λ bytes. placed_by bytes (mupdate_string.at bytes) (p.at bytes) }

-- names and locations with the places that are told of them
abbrev pub told_texts : Texts
told_texts = record {
  names = record { part = placed_part exact.names.part; text = exact.names.text };
  locations = record { part = placed_part exact.locations.part; text = exact.locations.text };
}

-- this is the place that is told of these bytes
pub record IsTold {A : Type 0} (line : Texts → Form A) (bytes : List ℕ) (at : ℕ) : Type 0 where
  pub within : at ≤ length bytes
  pub left : (line told_texts).part.at bytes ≡ Err (length bytes - at)
