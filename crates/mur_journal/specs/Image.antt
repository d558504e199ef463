-- What the bytes of a journal stand for.
use Rattle.std.specs.Prelude.{◌≡◌, ℕ, zero, suc, ◌+◌, List, [], ◌∷◌, ◌++◌, length, take, drop, if◌then◌else◌, ◌==◌, nat_lt}
use Rattle.std.specs.Int.{w32, from_be_bytes}

-- "MURDERJ1"
abbrev pub magic : List ℕ
magic = 77 ∷ 85 ∷ 82 ∷ 68 ∷ 69 ∷ 82 ∷ 74 ∷ 49 ∷ []

-- an image is a journal, with these entries and its closed gate at this place; or it is none, which shows at this offset
pub data ImageForm : Type 0 where
  Good : (entries : List (List ℕ)) (gate : ℕ) → ImageForm
  Bad : (offset : ℕ) → ImageForm

-- the length of an entry: the first four bytes as a number, the highest byte first
abbrev pub entry_size : List ℕ → ℕ
entry_size bytes = from_be_bytes w32 (take 4 bytes)

abbrev pub with_first_entry : List ℕ → ImageForm → ImageForm
with_first_entry entry (Good entries gate) = Good (entry ∷ entries) gate
with_first_entry entry (Bad offset) = Bad offset

-- The blocks from a gate at this place on. A gate is open if it is 1, and then a length, as many bytes and the next gate must
-- follow; any other gate is closed and ends them. Each block takes one from the fuel, and is longer than that.
abbrev pub blocks_from : ℕ → ℕ → List ℕ → ImageForm
blocks_from zero at bytes = Bad at
blocks_from (suc fuel) at [] = Bad at
blocks_from (suc fuel) at (gate ∷ rest) =
    if gate == 1 then
    (if nat_lt (4 + entry_size rest) (length rest) then
    with_first_entry (take (entry_size rest) (drop 4 rest)) (blocks_from fuel (at + (5 + entry_size rest)) (drop (4 + entry_size rest) rest)) else Bad at)
    else Good [] at

-- the rest of the magic, and then the blocks
abbrev pub headed : List ℕ → ℕ → List ℕ → ImageForm
headed [] at bytes = blocks_from (suc (length bytes)) at bytes
headed (m ∷ ms) at [] = Bad at
headed (m ∷ ms) at (b ∷ bytes) = if b == m then headed ms (at + 1) bytes else Bad at

-- what an image is, from its first byte on
abbrev pub parsed : List ℕ → ImageForm
parsed image = headed magic 0 image

abbrev pub entries_in : ImageForm → List (List ℕ)
entries_in (Good entries gate) = entries
entries_in (Bad offset) = []

-- the entries after open gates, in order
abbrev pub entries_of : List ℕ → List (List ℕ)
entries_of image = entries_in (parsed image)

-- the image is a journal with exactly these entries
abbrev pub HasEntries : List ℕ → List (List ℕ) → Type 0
HasEntries image entries = (gate : ℕ) × (parsed image ≡ Good entries gate)

-- the blocks of these entries with open gates, and nothing else: for each 1, its length in four bytes, and its bytes
abbrev pub IsFront : List (List ℕ) → List ℕ → Type 0
IsFront [] front = front ≡ []
IsFront (entry ∷ entries) front =
    (head : List ℕ) × (rest : List ℕ) × (length head ≡ 4) × (from_be_bytes w32 head ≡ length entry) × IsFront entries rest
    × (front ≡ 1 ∷ (head ++ (entry ++ rest)))

-- what an append of these entries writes after a gate: their blocks without the first gate, and a closed gate
abbrev pub IsBlock : List (List ℕ) → List ℕ → Type 0
IsBlock entries block = (body : List ℕ) × IsFront entries (1 ∷ body) × (block ≡ body ++ 0 ∷ [])
