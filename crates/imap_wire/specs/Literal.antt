-- The literal that a line announces (RFC 9051, 4.3), and what becomes of it.
use Rattle.std.specs.Prelude.{ℕ, ◌-◌, ◌^◌, IsTrue, Bool, true, false, ◌&&◌, ◌||◌, nat_eq, nat_lt, List, codes, length, take, drop, min}
use Rattle.std.specs.Prelude.{Option, None, Some, if◌then◌else◌}
use Rattle.std.specs.List.{ends_with, suffix_len}
use Rattle.std.specs.Char.{is_ascii_digit}
use Rattle.std.specs.Str.Parse.{digits_value}
use Rattle.mur_base.specs.declared.limits.TheConstants.{MESSAGE_LIMIT, PLUS_LITERAL_LIMIT}
use Rattle.imap_wire.specs.declared.literal.Literal.{Literal}
use Rattle.imap_wire.specs.declared.literal.Admission.{Admission}
use Rattle.imap_wire.specs.declared.literal.Admission.TheVariants.{Asked, Unasked, Refused, RefusedUnasked}

-- a byte is a digit
abbrev pub IsDigit : ℕ → Type 0
IsDigit byte = IsTrue (is_ascii_digit byte)

-- how many digits the bytes end in
abbrev pub last_digits : List ℕ → ℕ
last_digits bytes = suffix_len is_ascii_digit bytes

-- the literal whose size stands at the end of these bytes, one or more digits behind a `{`
unfoldable pub sized : Bool → List ℕ → Option Literal
sized waits bytes =
    let digits = last_digits bytes in
    if nat_lt 0 digits && ends_with nat_eq (take (length bytes - digits) bytes)
    (codes "{") then Some (record { size = digits_value 10 (drop (length bytes - digits) bytes); waits = waits })
    else None

-- the literal that a line's text announces at its end, wherever the text stands: `{n+}` comes unasked, for `{n}` the client waits
unfoldable pub announced : List ℕ → Option Literal
announced text =
    if ends_with nat_eq text (codes "+}") then sized false (take (length text - 2) text)
    else (if ends_with nat_eq text (codes "}") then sized true (take (length text - 1) text) else None)

-- what becomes of a literal, of a command whose literals may have so many further bytes
unfoldable pub admission_of : Literal → ℕ → Admission
admission_of literal room =
    if literal.waits then (if nat_lt MESSAGE_LIMIT literal.size || nat_lt room literal.size then Refused else Asked)
    else (if nat_lt PLUS_LITERAL_LIMIT literal.size || nat_lt room literal.size then RefusedUnasked else Unasked)

-- the same literal, where a size past 64 bits is the largest number of 64 bits
abbrev pub capped : Literal → Literal
capped literal = record { size = min literal.size (2 ^ 64 - 1); waits = literal.waits }
