-- The calls that change a disk, and what each makes of its bytes.
use Rattle.std.specs.Prelude.{◌≡◌, ℕ, ◌+◌, ◌-◌, List, [], ◌∷◌, ◌++◌, length, take, drop, replicate}

-- these bytes written from this place on; or the disk cut to this length
pub data Call : Type 0 where
  Wrote : (at : ℕ) (bytes : List ℕ) → Call
  CutTo : (len : ℕ) → Call

-- new is old with these bytes at this place
abbrev pub Holds : List ℕ → ℕ → List ℕ → List ℕ → Type 0
Holds old at bytes new = new ≡ take at old ++ bytes ++ drop (at + length bytes) old

-- zeros up to a place past the end
abbrev pub padded : ℕ → List ℕ → List ℕ
padded at old = old ++ replicate (at - length old) 0

-- these bytes written over others, which may end before the place: what lies between holds zeros
abbrev pub written_over : ℕ → List ℕ → List ℕ → List ℕ
written_over at bytes old = take at (padded at old) ++ (bytes ++ drop (at + length bytes) old)

-- the bytes after a call that was carried out whole, and after several in order
abbrev pub done_call : Call → List ℕ → List ℕ
done_call (Wrote at bytes) old = written_over at bytes old
done_call (CutTo len) old = take len old

abbrev pub after_calls : List Call → List ℕ → List ℕ
after_calls [] bytes = bytes
after_calls (call ∷ calls) bytes = after_calls calls (done_call call bytes)
