-- Parts that take all bytes.
use Rattle.std.specs.Prelude.{◌≡◌, ℕ, ◌-◌, ◌⊎◌, Bool, true, false, nat_le, List, [], ◌++◌, length, take, drop, Result, Ok, Err, if◌then◌else◌}
use Rattle.std.specs.Str.{bytes_eq}
use Rattle.grammar.specs.Part.{Part}
use Rattle.grammar.specs.Exact.{whole_at}

-- the front, and nothing behind it, where the ending is there
abbrev pub cut_by : Bool → List ℕ → Result (List ℕ × List ℕ) ℕ
cut_by true front = Ok (front, [])
cut_by false front = Err 0

-- the first n bytes, where the others are the ending
abbrev pub cut_before : List ℕ → ℕ → List ℕ → Result (List ℕ × List ℕ) ℕ
cut_before ending n bytes = cut_by (bytes_eq (drop n bytes) ending) (take n bytes)

-- all bytes before an ending, whatever they are
abbrev pub all_before : List ℕ → Part (List ℕ)
all_before ending = record {
  lang = λ s v. s ≡ v ++ ending;
  at = λ bytes. cut_before ending (length bytes - length ending) bytes;
}

-- the value of the one reading or of the other, else the stop of the one that went further
abbrev pub either_end : {A : Type 0} → Result A ℕ → Result A ℕ → Result (A × List ℕ) ℕ
either_end (Ok a) other = Ok (a, [])
either_end (Err left) (Ok b) = Ok (b, [])
either_end (Err left) (Err less) = Err (if nat_le left less then left else less)

-- the one part or the other, to the end of the bytes
abbrev pub beside : {A : Type 0} → Part A → Part A → Part A
beside p q = record {
  lang = λ s v. p.lang s v ⊎ q.lang s v;
  at = λ bytes. either_end (whole_at p bytes) (whole_at q bytes);
}
