-- The character classes of the grammar (RFC 9051, 9).
use Rattle.std.specs.Prelude.{ℕ, Bool, ◌&&◌, ◌||◌, not, ◌==◌, nat_le}
use Rattle.std.specs.Char.{is_ascii_graphic}
use Rattle.grammar.specs.Quoted.{is_quoted_plain, is_quoted_special}
use Rattle.mur_base.specs.Ascii.{nul, lf, cr, quote, percent, open_paren, close_paren, star, plus, backslash, close_bracket, open_brace, delete}

-- printable ASCII other than a space
abbrev pub is_visible : ℕ → Bool
is_visible b = is_ascii_graphic b

-- ( ) { % * " \, which stand in no atom
abbrev pub is_atom_special : ℕ → Bool
is_atom_special b =
    (b == open_paren) || (b == close_paren) || (b == open_brace) || (b == percent) || (b == star) || (b == quote) || (b == backslash)

-- ASTRING-CHAR: an ATOM-CHAR or ]
unfoldable pub is_astring_char : ℕ → Bool
is_astring_char c = is_visible c && not (is_atom_special c)

-- ATOM-CHAR
unfoldable pub is_atom_char : ℕ → Bool
is_atom_char c = is_astring_char c && not (c == close_bracket)

-- a byte of a tag: ASTRING-CHAR except +
unfoldable pub is_tag_byte : ℕ → Bool
is_tag_byte b = is_visible b && not (is_atom_special b) && not (b == plus)

-- TEXT-CHAR: what a quoted string may hold of 7 bits, with a backslash before it or without
unfoldable pub is_text_char : ℕ → Bool
is_text_char c = is_quoted_plain c || is_quoted_special c

-- CHAR8: any octet but NUL
unfoldable pub is_char8 : ℕ → Bool
is_char8 c = not (c == nul)

-- UTF8-tail (RFC 3629, 4)
unfoldable pub is_utf8_tail : ℕ → Bool
is_utf8_tail c = nat_le 128 c && nat_le c 191
