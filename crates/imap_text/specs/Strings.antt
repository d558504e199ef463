-- Strings (RFC 9051, 4.3 and 9).
use Rattle.std.specs.Prelude.{◌≡◌, ℕ, Bool, true, ◌&&◌, not, ◌==◌, nat_le, List, [], ◌∷◌, ◌++◌, length, if◌then◌else◌}
use Rattle.std.specs.List.{list_all}
use Rattle.mur_base.specs.Ascii.{lf, cr, quote, plus, backslash, open_brace, close_brace}
use Rattle.mur_base.specs.Number.{is_digit}
use Rattle.grammar.specs.Quoted.{is_quoted_plain, is_quoted_special, is_no_quote, escaped_char, plain_char, literal_text}
use Rattle.grammar.specs.Part.{Part, ◌then◌, map, byte, choose, exactly, optional, repeat}
use Rattle.grammar.specs.Forms.{Form, as_it_stands}
use Rattle.grammar.specs.Words.{word}
use Rattle.grammar.specs.Runs.{run_of, some}
use Rattle.grammar.specs.Numbers.{value_of, decimal_text}
use Rattle.imap_text.specs.Characters.{is_astring_char, is_atom_char, is_text_char, is_char8}
use Rattle.imap_text.specs.Utf8.{utf8_char}

-- CRLF
unfoldable pub crlf_part : Part ℕ
crlf_part = byte cr then λ _. byte lf

-- QUOTED-CHAR = <any TEXT-CHAR except quoted-specials> / "\" quoted-specials / UTF8-2 / UTF8-3 / UTF8-4, behind a text
unfoldable pub quoted_char : List ℕ → Part (List ℕ)
quoted_char so_far =
    choose (λ c. c == backslash) (escaped_char so_far) (choose is_quoted_plain (plain_char so_far) (utf8_char so_far))

-- quoted = DQUOTE *QUOTED-CHAR DQUOTE
unfoldable pub quoted : Part (List ℕ)
quoted = byte quote then λ _. repeat is_no_quote quoted_char [] then λ text. map (λ _. text) (byte quote)

-- literal = "{" number64 ["+"] "}" CRLF *CHAR8, where the number counts the octets
unfoldable pub literal : Part (List ℕ)
literal =
    byte open_brace then λ _. word (run_of is_digit) then λ digits. optional plus then λ _. byte close_brace then λ _. crlf_part then λ _.
    exactly is_char8 (value_of digits)

-- string = quoted / literal
unfoldable pub string : Part (List ℕ)
string = choose (λ c. c == quote) quoted literal

-- astring = 1*ASTRING-CHAR / string
unfoldable pub astring : Part (List ℕ)
astring = choose is_astring_char (word (run_of is_astring_char)) string

-- a string that some spelling stands for
abbrev pub IsString : List ℕ → Type 0
IsString text = list_all is_char8 text ≡ true

-- A string is printed as an atom where it is one, else in quotes where it can stand there, else as a literal that waits
-- for nothing. A text in quotes stands in a line, whose length is limited: so it has at most 1,024 bytes.

-- QUOTED-CHAR of 7 bits
unfoldable pub escaped : ℕ → List ℕ
escaped c = if is_quoted_special c then backslash ∷ c ∷ [] else c ∷ []

unfoldable pub escaped_text : List ℕ → List ℕ
escaped_text [] = []
escaped_text (c ∷ text) = escaped c ++ escaped_text text

-- in quotes
unfoldable pub quoted_text : List ℕ → List ℕ
quoted_text text = quote ∷ (escaped_text text ++ quote ∷ [])

-- 1*ASTRING-CHAR
unfoldable pub is_astring_atom : List ℕ → Bool
is_astring_atom text = list_all is_astring_char text && some text

-- atom = 1*ATOM-CHAR
unfoldable pub is_atom : List ℕ → Bool
is_atom text = list_all is_atom_char text && some text

-- what is printed in quotes, where it is no atom
unfoldable pub is_quotable : List ℕ → Bool
is_quotable text = nat_le (length text) 1024 && list_all is_text_char text

unfoldable pub astring_text : List ℕ → List ℕ
astring_text text = if is_astring_atom text then text else (if is_quotable text then quoted_text text else literal_text text)

-- an astring as an argument, and a literal as a message, with what is printed of them
abbrev pub argument : Form (List ℕ)
argument = record { part = astring; text = astring_text }

abbrev pub message : Form (List ℕ)
message = record { part = literal; text = literal_text }

-- atom = 1*ATOM-CHAR
abbrev pub atom : Form (List ℕ)
atom = as_it_stands (run_of is_atom_char)
