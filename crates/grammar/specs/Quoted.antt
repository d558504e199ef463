-- What the quoted strings and literals of mail protocols share (RFC 9051, 9; RFC 3656, 2.2).
use Rattle.std.specs.Prelude.{◌≡◌, ◌≤◌, ℕ, Bool, true, ◌&&◌, ◌||◌, not, ◌==◌, nat_le, List, [], ◌∷◌, ◌++◌, length, take, drop}
use Rattle.std.specs.List.{list_all}
use Rattle.mur_base.specs.Ascii.{lf, cr, quote, plus, backslash, delete, open_brace, close_brace}
use Rattle.grammar.specs.Part.{Part, ◌then◌, map, byte, exactly}
use Rattle.grammar.specs.Numbers.{decimal_text}

-- a byte that stands for itself in a quoted string: 7 bits, and neither NUL, CR, LF nor one of `"` and `\`
unfoldable pub is_quoted_plain : ℕ → Bool
is_quoted_plain c = nat_le 1 c && nat_le c delete && not (c == cr) && not (c == lf) && not (c == quote) && not (c == backslash)

-- quoted-specials: a byte that stands in a quoted string after a `\`
unfoldable pub is_quoted_special : ℕ → Bool
is_quoted_special c = c == quote || c == backslash

-- a byte that doesn't end a quoted string
abbrev pub is_no_quote : ℕ → Bool
is_no_quote c = not (c == quote)

-- a text, and then a character after a `\`
abbrev pub escaped_char : List ℕ → Part (List ℕ)
escaped_char so_far = byte backslash then λ _. map (λ char. so_far ++ char) (exactly is_quoted_special 1)

-- a text, and then a character that stands for itself
abbrev pub plain_char : List ℕ → Part (List ℕ)
plain_char so_far = map (λ char. so_far ++ char) (exactly is_quoted_plain 1)

-- so many characters that stand for themselves, at most `most`, are put after a text
pub record IsPlainRun (most : ℕ) (so_far bytes text behind : List ℕ) (taken : ℕ) : Type 0 where
  pub upto : taken ≤ most
  pub there : taken ≤ length bytes
  pub passing : list_all is_quoted_plain (take taken bytes) ≡ true
  pub text_is : text ≡ so_far ++ take taken bytes
  pub behind_is : behind ≡ drop taken bytes

-- "{" number "+}" CRLF *OCTET
unfoldable pub literal_text : List ℕ → List ℕ
literal_text text = open_brace ∷ (decimal_text (length text) ++ (plus ∷ close_brace ∷ cr ∷ lf ∷ text))
