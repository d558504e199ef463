-- Texts within a line that a client is given, and literals between them (RFC 9051, 2.2.2 and 4.3).
use Rattle.std.specs.Prelude.{◌≡◌, ℕ, ◌<◌, ◌^◌, Bool, true, ◌&&◌, not, ◌==◌, List, ◌++◌, length, codes, decimal}
use Rattle.std.specs.List.{list_all}
use Rattle.mur_base.specs.Ascii.{lf, cr}

abbrev pub is_within : ℕ → Bool
is_within c = not (c == cr) && not (c == lf)

-- neither CR nor LF stands in the text
abbrev pub IsPlain : List ℕ → Type 0
IsPlain text = list_all is_within text ≡ true

-- literal = "{" number64 "}" CRLF *CHAR8, where the number counts the octets
unfoldable pub server_literal : List ℕ → List ℕ
server_literal octets = codes "{" ++ decimal (length octets) ++ codes "}\r\n" ++ octets

-- what may stand within a line: texts with literals between them
pub data IsPart : List ℕ → Type 0 where
  plain : (text : List ℕ) → IsPlain text → IsPart text
  with_literal : (text octets rest : List ℕ) → IsPlain text → length octets < 2 ^ 64 → IsPart rest → IsPart (text ++ (server_literal octets ++ rest))
