-- How what a client is given is cut into lines (RFC 9051, 2.2.2 and 4.3): a line ends at its CRLF, but where it announces a literal there it
-- goes on behind the literal's octets.
use Rattle.std.specs.Prelude.{◌≡◌, ℕ, ◌<◌, ◌^◌, Bool, true, false, ◌==◌, if◌then◌else◌, List, [], ◌∷◌, ◌++◌, length}
use Rattle.mur_base.specs.Ascii.{plus, open_brace, close_brace, crlf}
use Rattle.mur_base.specs.Number.{is_digit}
use Rattle.mail_message.specs.Literals.{IsPlain, server_literal}

-- how far the end of a text has come to announce a literal: "{" number64 ["+"] "}"
pub data Announcing : Type 0 where
  nothing : Announcing
  opened : Announcing
  sized : Announcing
  unasked : Announcing
  announced : Announcing

abbrev pub after_digit : Announcing → Announcing
after_digit opened = sized
after_digit sized = sized
after_digit _ = nothing

abbrev pub after_plus : Announcing → Announcing
after_plus sized = unasked
after_plus _ = nothing

abbrev pub after_close : Announcing → Announcing
after_close sized = announced
after_close unasked = announced
after_close _ = nothing

unfoldable pub after_byte : Announcing → ℕ → Announcing
after_byte state c =
    if c == open_brace then opened
    else if is_digit c then after_digit state
    else if c == plus then after_plus state
    else if c == close_brace then after_close state
    else nothing

unfoldable pub after_text : Announcing → List ℕ → Announcing
after_text state [] = state
after_text state (c ∷ text) = after_text (after_byte state c) text

abbrev pub is_announced : Announcing → Bool
is_announced announced = true
is_announced _ = false

-- the text announces a literal at its end
abbrev pub announces : List ℕ → Bool
announces text = is_announced (after_text nothing text)

-- one line
pub data IsLine : List ℕ → Type 0 where
  ends : (text : List ℕ) → IsPlain text → announces text ≡ false → IsLine (text ++ crlf)
  goes_on : (text octets line : List ℕ) → IsPlain text → length octets < 2 ^ 64 → IsLine line → IsLine (text ++ (server_literal octets ++ line))
