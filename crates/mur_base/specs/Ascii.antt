-- Bytes by their names (RFC 20, 4), and the line end of the mail protocols (RFC 5234, B.1).
use Rattle.std.specs.Prelude.{ℕ, Bool, false, ◌==◌, List, [], ◌∷◌}

abbrev pub nul : ℕ
nul = 0

abbrev pub tab : ℕ
tab = 9

abbrev pub lf : ℕ
lf = 10

abbrev pub cr : ℕ
cr = 13

abbrev pub space : ℕ
space = 32

-- the double quote
abbrev pub quote : ℕ
quote = 34

abbrev pub percent : ℕ
percent = 37

abbrev pub open_paren : ℕ
open_paren = 40

abbrev pub close_paren : ℕ
close_paren = 41

abbrev pub star : ℕ
star = 42

abbrev pub plus : ℕ
plus = 43

abbrev pub comma : ℕ
comma = 44

abbrev pub dash : ℕ
dash = 45

abbrev pub dot : ℕ
dot = 46

abbrev pub digit_zero : ℕ
digit_zero = 48

abbrev pub digit_nine : ℕ
digit_nine = 57

abbrev pub colon : ℕ
colon = 58

abbrev pub backslash : ℕ
backslash = 92

abbrev pub close_bracket : ℕ
close_bracket = 93

abbrev pub underscore : ℕ
underscore = 95

abbrev pub open_brace : ℕ
open_brace = 123

abbrev pub close_brace : ℕ
close_brace = 125

-- the last printable byte of ASCII
abbrev pub tilde : ℕ
tilde = 126

-- the last byte of ASCII, a control
abbrev pub delete : ℕ
delete = 127

-- the end of a line
abbrev pub crlf : List ℕ
crlf = cr ∷ lf ∷ []

-- whether the bytes begin with LF
unfoldable pub begins_with_lf : List ℕ → Bool
begins_with_lf [] = false
begins_with_lf (byte ∷ rest) = byte == lf

-- whether the bytes end in CR
unfoldable pub ends_with_cr : List ℕ → Bool
ends_with_cr [] = false
ends_with_cr (byte ∷ []) = byte == cr
ends_with_cr (byte ∷ next ∷ rest) = ends_with_cr (next ∷ rest)
