-- Bytes as printable text, in schedules and in outputs.
use Rattle.std.specs.Prelude.{◌≡◌, ℕ, ◌+◌, ◌-◌, ◌*◌, ◌/◌, ◌%◌, ◌<◌, ⊤, Bool, ◌&&◌, ◌==◌, nat_lt, nat_le, if◌then◌else◌}
use Rattle.std.specs.Prelude.{List, [], ◌∷◌, ◌++◌, Option, None, Some, codes}
use Rattle.std.specs.List.{flat_map}
use Rattle.mur_base.specs.Ascii.{cr, lf, space, digit_zero, digit_nine, backslash, tilde}
use Rattle.schedule_text.specs.declared.text.Spelling.{Spelling}
use Rattle.schedule_text.specs.declared.text.Spelling.TheVariants.{Between, Escape, Hex, HexDigit}
use Rattle.schedule_text.specs.declared.text.Character.{Character}
use Rattle.schedule_text.specs.declared.text.Character.TheVariants.{Inside, Ends, Bad}

abbrev pub letter_a : ℕ
letter_a = 97

abbrev pub letter_f : ℕ
letter_f = 102

abbrev pub letter_n : ℕ
letter_n = 110

abbrev pub letter_r : ℕ
letter_r = 114

abbrev pub letter_x : ℕ
letter_x = 120

-- a byte of printable ASCII
unfoldable pub is_printed : ℕ → Bool
is_printed b = nat_le space b && nat_le b tilde

-- a lower case digit of base 16
unfoldable pub hex_digit : ℕ → ℕ
hex_digit d = if nat_lt d 10 then digit_zero + d else letter_a - 10 + d

-- the one canonical spelling of a byte: '\\', itself, '\r', '\n', or '\x' and two digits
unfoldable pub spelling_of : ℕ → List ℕ
spelling_of b =
    if b == backslash then backslash ∷ backslash ∷ []
    else if is_printed b then b ∷ []
    else if b == cr then backslash ∷ letter_r ∷ []
    else if b == lf then backslash ∷ letter_n ∷ []
    else backslash ∷ letter_x ∷ hex_digit (b / 16) ∷ hex_digit (b % 16) ∷ []

-- the canonical text of bytes
unfoldable pub text_of : List ℕ → List ℕ
text_of bytes = flat_map spelling_of bytes

-- in a name a space is spelled '\x20', since names stand between spaces
unfoldable pub name_spelling_of : ℕ → List ℕ
name_spelling_of b = if b == space then codes "\\x20" else spelling_of b

unfoldable pub name_text_of : List ℕ → List ℕ
name_text_of bytes = flat_map name_spelling_of bytes

-- the value of a lower case digit of base 16
unfoldable pub hex_value : ℕ → Option ℕ
hex_value c =
    if nat_le digit_zero c && nat_le c digit_nine then Some (c - digit_zero)
    else if nat_le letter_a c && nat_le c letter_f then Some (c - letter_a + 10)
    else None

-- a character that begins a spelling
unfoldable pub between_spellings : ℕ → Character
between_spellings c = if c == backslash then Inside Escape else if is_printed c then Ends c else Bad

-- a character behind a backslash
unfoldable pub behind_escape : ℕ → Character
behind_escape c =
    if c == backslash then Ends backslash
    else if c == letter_r then Ends cr
    else if c == letter_n then Ends lf
    else if c == letter_x then Inside Hex
    else Bad

-- a character behind '\x', by the value that it has as a digit
unfoldable pub first_digit : Option ℕ → Character
first_digit None = Bad
first_digit (Some d) = Inside (HexDigit d)

-- a character behind '\x' and a digit, by the value that it has as one
unfoldable pub second_digit : ℕ → Option ℕ → Character
second_digit high None = Bad
second_digit high (Some d) = Ends (16 * high + d)

-- what a character does behind a part of a spelling
unfoldable pub character_at : Spelling → ℕ → Character
character_at Between c = between_spellings c
character_at Escape c = behind_escape c
character_at Hex c = first_digit (hex_value c)
character_at (HexDigit high) c = second_digit high (hex_value c)

unfoldable pub with_byte : ℕ → Option (List ℕ) → Option (List ℕ)
with_byte b None = None
with_byte b (Some bytes) = Some (b ∷ bytes)

-- a digit of base 16 is below 16
abbrev pub IsSpelling : Spelling → Type 0
IsSpelling Between = ⊤
IsSpelling Escape = ⊤
IsSpelling Hex = ⊤
IsSpelling (HexDigit high) = high < 16

abbrev pub KeepsSpelling : Character → Type 0
KeepsSpelling Bad = ⊤
KeepsSpelling (Inside place) = IsSpelling place
KeepsSpelling (Ends b) = ⊤

-- the bytes that are spelled behind a character, where `rest` says which are spelled behind it at each place
abbrev pub bytes_behind : Character → (Spelling → Option (List ℕ)) → Option (List ℕ)
bytes_behind Bad rest = None
bytes_behind (Inside place) rest = rest place
bytes_behind (Ends b) rest = with_byte b (rest Between)

-- no spelling ends inside
abbrev pub spelling_end : Spelling → Option (List ℕ)
spelling_end Between = Some []
spelling_end Escape = None
spelling_end Hex = None
spelling_end (HexDigit high) = None

-- the bytes that a text spells behind a part of a spelling
unfoldable pub bytes_spelled_from : List ℕ → Spelling → Option (List ℕ)
bytes_spelled_from [] place = spelling_end place
bytes_spelled_from (c ∷ text) place = bytes_behind (character_at place c) (bytes_spelled_from text)

-- bytes behind those that were read
unfoldable pub bytes_onto : List ℕ → Option (List ℕ) → Option (List ℕ)
bytes_onto before None = None
bytes_onto before (Some bytes) = Some (before ++ bytes)

-- what is spelled behind a text that ended at a place, or that had a bad character
abbrev pub bytes_past : Option Spelling → List ℕ → Option (List ℕ)
bytes_past None more = None
bytes_past (Some place) more = bytes_spelled_from more place

-- from a place on a text was read to the next one, which put its bytes behind those before it
abbrev pub IsReadOn : List ℕ → Spelling → List ℕ → List ℕ → Option Spelling → Type 0
IsReadOn text place before now next = (more : List ℕ) → bytes_onto now (bytes_past next more) ≡ bytes_onto before (bytes_spelled_from (text ++ more) place)

-- the bytes that a text spells, in any of the forms
abbrev pub bytes_of : List ℕ → Option (List ℕ)
bytes_of text = bytes_spelled_from text Between
