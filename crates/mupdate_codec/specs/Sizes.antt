-- Numbers between two bounds.
use Rattle.std.specs.Prelude.{ℕ, ◌&&◌, nat_le}
use Rattle.std.specs.List.{list_all}
use Rattle.mur_base.specs.Number.{is_digit}
use Rattle.grammar.specs.Part.{Part, map}
use Rattle.grammar.specs.Runs.{some}
use Rattle.grammar.specs.Numbers.{value_of}
use Rattle.grammar.specs.Words.{Words, word}

-- digits of a number that is at least `least` and at most `most`; zeros may stand first
abbrev pub sizes : ℕ → ℕ → Words
sizes least most = record {
  begins = λ s. list_all is_digit s && nat_le (value_of s) most;
  whole = λ s. (list_all is_digit s && nat_le (value_of s) most) && (some s && nat_le least (value_of s));
}

-- such a number
abbrev pub size : ℕ → ℕ → Part ℕ
size least most = map value_of (word (sizes least most))
