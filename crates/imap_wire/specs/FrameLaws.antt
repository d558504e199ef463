-- Words of the laws of frames (RFC 9051, 2.2.1 and 4.3). Limits stand here as numbers.
use Rattle.std.specs.Prelude.{◌≡◌, ◌≢◌, ℕ, ◌+◌, ◌<◌, ◌≤◌, IsTrue, Bool, true, false, if◌then◌else◌, List, [], ◌∷◌, ◌++◌, codes, length, Option, Some}
use Rattle.std.specs.Char.{is_ascii_digit}
use Rattle.std.specs.List.{AllByRecursion, flat_map}
use Rattle.std.specs.Str.Parse.{digits_value}
use Rattle.mur_base.specs.Ascii.{crlf, lf}
use Rattle.imap_wire.specs.declared.frame.Frame.{Frame}
use Rattle.imap_wire.specs.declared.frame.Frame.TheVariants.{NeedLiteral}
use Rattle.imap_wire.specs.Frames.{frames, begun}

-- Behind any bytes at whose end no command has begun, these bring these frames. What they leave is all of a command that has begun, none after a fault.
abbrev pub Brings : List ℕ → List Frame → Option (List ℕ) → Type 0
Brings bytes new left = (past : List ℕ) → begun past ≡ Some [] → (frames (past ++ bytes) ≡ frames past ++ new) × (begun (past ++ bytes) ≡ left)

-- bytes within one line
abbrev pub IsInLine : List ℕ → Type 0
IsInLine bytes = AllByRecursion (λ byte. byte ≢ lf) bytes

-- one digit or more
abbrev pub IsNumber : List ℕ → Type 0
IsNumber digits = (0 < length digits) × AllByRecursion (λ digit. IsTrue (is_ascii_digit digit)) digits

-- how a text ends that announces a literal: by `{n}`, where the client waits, or by `{n+}`
abbrev pub announcement : List ℕ → Bool → List ℕ
announcement digits true = codes "{" ++ digits ++ codes "}"
announcement digits false = codes "{" ++ digits ++ codes "+}"

-- a text that ends in neither
abbrev pub AnnouncesNone : List ℕ → Type 0
AnnouncesNone text = (front digits : List ℕ) (waits : Bool) → IsNumber digits → text ≢ front ++ announcement digits waits

-- a line that announces a literal, and the literal behind it
pub record LiteralLine : Type 0 where
  -- the line's text before the `{`
  pub front : List ℕ
  pub digits : List ℕ
  -- whether the client waits
  pub waits : Bool
  pub octets : List ℕ

abbrev pub literal_line_text : LiteralLine → List ℕ
literal_line_text it = it.front ++ announcement it.digits it.waits

-- the size that is announced
abbrev pub announced_size : LiteralLine → ℕ
announced_size it = digits_value 10 it.digits

abbrev pub IsLiteralLine : LiteralLine → Type 0
IsLiteralLine it = IsInLine it.front × IsNumber it.digits

-- the literal is within the limit of its kind, and has as many octets as the line announces
abbrev pub IsTaken : LiteralLine → Type 0
IsTaken it = IsLiteralLine it × (announced_size it ≤ (if it.waits then 1048576 else 4096)) × (length it.octets ≡ announced_size it)

-- how many bytes the texts of the lines have together
abbrev pub texts_length : List LiteralLine → ℕ
texts_length [] = 0
texts_length (it ∷ lines) = length (literal_line_text it) + texts_length lines

-- how many octets their literals have together
abbrev pub literals_length : List LiteralLine → ℕ
literals_length [] = 0
literals_length (it ∷ lines) = announced_size it + literals_length lines

-- the bytes of lines and of their literals
abbrev pub lines_bytes : List LiteralLine → List ℕ
lines_bytes lines = flat_map (λ it. literal_line_text it ++ crlf ++ it.octets) lines

-- what the client is asked for
abbrev pub literals_asked_for : List LiteralLine → List Frame
literals_asked_for lines = flat_map (λ it. if it.waits then NeedLiteral (announced_size it) ∷ [] else []) lines

-- the front of a command, up to the end of its last literal
abbrev pub IsCommandFront : List LiteralLine → Type 0
IsCommandFront lines = AllByRecursion IsTaken lines × (texts_length lines ≤ 8192) × (literals_length lines ≤ 1056768)
