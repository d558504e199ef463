-- Flags on a disk: a byte of system flags, and the keywords in strictly rising byte order.
use Rattle.std.specs.Prelude.{ℕ, zero, suc, ◌+◌, ◌-◌, ◌*◌, ◌/◌, ◌%◌, Bool, true, ◌&&◌, ◌||◌, ◌==◌, nat_le, nat_lt, if◌then◌else◌, List, [], ◌∷◌, ◌++◌, length, replicate}
use Rattle.std.specs.Ordering.{nat_cmp, is_lt}
use Rattle.std.specs.Cmp.Lexicographic.{slice_cmp}
use Rattle.mail_message.specs.declared.system_flags.SystemFlags.{SystemFlags}
use Rattle.mail_message.specs.FlagSets.{Flags}
use Rattle.mail_message.specs.Keywords.{has_atom_bytes}
use Rattle.grammar.specs.Part.{Part, give, ◌then◌, map, one_of, between}
use Rattle.grammar.specs.Forms.{Form}
use Rattle.grammar.specs.Words.{Words, word}
use Rattle.node_record.specs.Parts.{small, number_text, sized_text, list_text}

-- the bit of a place: 1, 2, 4, 8 or 16
abbrev pub is_set : ℕ → ℕ → Bool
is_set bit c = (c / bit) % 2 == 1

unfoldable pub system_in : ℕ → SystemFlags
system_in c = record { answered = is_set 1 c; flagged = is_set 2 c; deleted = is_set 4 c; seen = is_set 8 c; draft = is_set 16 c }

abbrev pub if_set : Bool → ℕ → ℕ
if_set set bit = if set then bit else 0

-- 1 answered, 2 flagged, 4 deleted, 8 seen, 16 draft
unfoldable pub system_byte : SystemFlags → ℕ
system_byte flags = if_set flags.answered 1 + if_set flags.flagged 2 + if_set flags.deleted 4 + if_set flags.seen 8 + if_set flags.draft 16

-- Which keywords may stand at a place hangs on how many are to come, since each of them is higher. All but the keywords of 63 `~` and
-- one byte more have plenty above them. Those have the greatest bytes of atoms as their last: `~`, `}`, `|`, `z` and on.

-- the last byte of the keyword above which there are so many, behind 63 `~`
unfoldable pub last_byte : ℕ → ℕ
last_byte above = if nat_lt above 3 then 126 - above else 125 - above

-- a text whose first so many bytes are `~` has then a byte of at most `last`
unfoldable pub leaves_room : ℕ → ℕ → List ℕ → Bool
leaves_room tildes last [] = true
leaves_room zero last (c ∷ text) = nat_le c last
leaves_room (suc tildes) last (c ∷ text) = if c == 126 then leaves_room tildes last text else true

abbrev pub is_before : List ℕ → List ℕ → Bool
is_before one other = is_lt (slice_cmp nat_cmp one other)

-- a keyword of so many bytes, higher than the one before it, with room for so many above it
unfoldable pub is_next : List ℕ → ℕ → ℕ → List ℕ → Bool
is_next before above size text = (length text == size) && (has_atom_bytes text && (is_before before text && leaves_room 63 (last_byte above) text))

-- so many `~`, of which the last is another byte
unfoldable pub tildes_to : ℕ → ℕ → List ℕ
tildes_to last zero = []
tildes_to last (suc n) = replicate n 126 ++ last ∷ []

-- the text goes on to such a keyword: with `~` to the end, or with the least last byte
unfoldable pub goes_on : List ℕ → ℕ → ℕ → List ℕ → Bool
goes_on before above size text =
    is_next before above size (text ++ tildes_to 126 (size - length text))
    || is_next before above size (text ++ tildes_to (last_byte above) (size - length text))

abbrev pub next_keywords : List ℕ → ℕ → ℕ → Words
next_keywords before above size = record { begins = goes_on before above size; whole = is_next before above size }

-- there is such a keyword of this size
unfoldable pub is_size : List ℕ → ℕ → ℕ → Bool
is_size before above size = (nat_le 1 size && nat_le size 64) && goes_on before above size []

-- the size, if there is such a keyword, else the greatest
abbrev pub size_for : List ℕ → ℕ → ℕ → ℕ
size_for before above size = if is_size before above size then size else 64

unfoldable pub keyword : List ℕ → ℕ → Part (List ℕ)
keyword before above = small (is_size before above) then λ size. word (next_keywords before above (size_for before above size))

-- a keyword that leaves room for so many, or else the empty text
unfoldable pub kept : ℕ → List ℕ → List ℕ
kept above text = if has_atom_bytes text && (nat_le (length text) 64 && leaves_room 63 (last_byte above) text) then text else []

-- so many keywords, each higher than the one before it, behind those so far
unfoldable pub rising : ℕ → List ℕ → List (List ℕ) → Part (List (List ℕ))
rising zero before so_far = give so_far
rising (suc above) before so_far = keyword before above then λ text. rising above (kept above text) (so_far ++ text ∷ [])

abbrev pub most_keywords : ℕ → ℕ
most_keywords n = if nat_le n 16 then n else 0

abbrev pub keywords : Part (List (List ℕ))
keywords = small (between 0 16) then λ n. rising (most_keywords n) [] []

abbrev pub flags_of : ℕ → List (List ℕ) → Flags
flags_of c keywords = record { system = system_in c; keywords = keywords }

unfoldable pub flags_text : Flags → List ℕ
flags_text flags = system_byte flags.system ∷ list_text sized_text flags.keywords

abbrev pub flags : Form Flags
flags = record { part = one_of (between 0 31) then λ c. map (flags_of c) keywords; text = flags_text }
