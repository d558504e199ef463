-- authenticate = "AUTHENTICATE" SP auth-type [SP (base64 / "=")] (RFC 9051, 6.2.2 and 9), where PLAIN is the one mechanism
-- (RFC 4616). A response is characters of base64 and =; whether they are base64 of something is told once it is decoded.
use Rattle.std.specs.Prelude.{ℕ, Bool, ◌||◌, ◌==◌, List, Option, codes}
use Rattle.std.specs.Char.{is_ascii_alphanumeric}
use Rattle.mur_base.specs.Ascii.{space, plus}
use Rattle.grammar.specs.Forms.{Form, as_it_stands, preceded, maybe, worded}
use Rattle.grammar.specs.Runs.{run_of}

-- base64-char, or =
unfoldable pub is_base64_char : ℕ → Bool
is_base64_char c = is_ascii_alphanumeric c || (c == plus || (c == 47 || c == 61))

abbrev pub response : Form (List ℕ)
response = as_it_stands (run_of is_base64_char)

abbrev pub authenticate_form : Form (Option (List ℕ))
authenticate_form = preceded space (worded (codes "PLAIN") (maybe space response))
