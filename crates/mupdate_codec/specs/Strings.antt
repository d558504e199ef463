-- Strings, names and locations as arguments (RFC 3656, 2.2; RFC 5234, 3.6).
use Rattle.std.specs.Prelude.{ℕ, Bool, ◌&&◌, ◌==◌, nat_le, List, [], ◌∷◌, ◌++◌, length, if◌then◌else◌}
use Rattle.std.specs.List.{list_all}
use Rattle.mur_base.specs.Ascii.{lf, cr, quote, plus, backslash, open_brace, close_brace}
use Rattle.mur_base.specs.declared.home.Location.{Location}
use Rattle.grammar.specs.Part.{Part, ◌then◌, map, byte, choose, exactly, optional, turns}
use Rattle.grammar.specs.Exact.{any}
use Rattle.grammar.specs.Forms.{Form}
use Rattle.grammar.specs.Words.{word}
use Rattle.grammar.specs.Quoted.{is_quoted_plain, is_no_quote, escaped_char, plain_char, literal_text}
use Rattle.text_parts.specs.Names.{quoted_names, names_of_size}
use Rattle.text_parts.specs.Locations.{bang, located, short_names, location_of, location_text, clamped}
use Rattle.mupdate_codec.specs.Sizes.{size}
use Rattle.mupdate_codec.specs.declared.limits.TheConstants.{STRING_LIMIT, NAME_BYTES, LOCATION_LEAST, LOCATION_MOST}

-- one character of a quoted string, behind a text
unfoldable pub mupdate_quoted_char : List ℕ → Part (List ℕ)
mupdate_quoted_char so_far =
    choose (λ c. c == backslash) (escaped_char so_far) (plain_char so_far)

-- what stands between quotes
abbrev pub in_quotes : {A : Type 0} → Part A → Part A
in_quotes p = byte quote then λ _. p then λ a. map (λ _. a) (byte quote)

-- quoted = DQUOTE *QUOTED-CHAR DQUOTE, of at most 65,536 characters
abbrev pub mupdate_quoted : Part (List ℕ)
mupdate_quoted = in_quotes (turns is_no_quote mupdate_quoted_char STRING_LIMIT [])

-- "{" number ["+"] "}" CRLF: how many octets follow, which come unasked in either form
abbrev pub header : ℕ → ℕ → Part ℕ
header least most =
    byte open_brace then λ _. size least most then λ n. optional plus then λ _. byte close_brace then λ _. byte cr then λ _. map (λ _. n) (byte lf)

-- literal = "{" number ["+"] "}" CRLF *OCTET
abbrev pub mupdate_literal : Part (List ℕ)
mupdate_literal = header 0 STRING_LIMIT then λ n. exactly any n

-- the one between quotes, or the other
abbrev pub either_form : {A : Type 0} → Part A → Part A → Part A
either_form one other = choose (λ c. c == quote) one other

-- string = quoted / literal
unfoldable pub mupdate_string : Part (List ℕ)
mupdate_string = either_form mupdate_quoted mupdate_literal

-- a mailbox name as a string
unfoldable pub name : Part (List ℕ)
name = either_form (in_quotes (word quoted_names)) (header 1 NAME_BYTES then λ n. word (names_of_size n))

-- a location as a string: server "!" partition

abbrev pub quoted_location : Part Location
quoted_location = in_quotes (word short_names then λ server. byte bang then λ _. map (located server) (word short_names))

unfoldable pub location : Part Location
location = either_form quoted_location (header LOCATION_LEAST LOCATION_MOST then λ n. location_of (clamped LOCATION_LEAST LOCATION_MOST n))

-- How they are printed: in quotes where all characters stand there for themselves and are few, else as a literal.

unfoldable pub is_plain_quotable : List ℕ → Bool
is_plain_quotable text = nat_le (length text) 1024 && list_all is_quoted_plain text

-- a string in quotes, without escapes
abbrev pub plain_quoted_text : List ℕ → List ℕ
plain_quoted_text text = quote ∷ (text ++ quote ∷ [])

unfoldable pub string_text : List ℕ → List ℕ
string_text text = if is_plain_quotable text then plain_quoted_text text else literal_text text

-- the arguments as forms; a location has few characters, all of which stand in quotes for themselves
abbrev pub string_form : Form (List ℕ)
string_form = record { part = mupdate_string; text = string_text }

abbrev pub name_form : Form (List ℕ)
name_form = record { part = name; text = string_text }

abbrev pub location_form : Form Location
location_form = record { part = location; text = λ it. plain_quoted_text (location_text it) }
