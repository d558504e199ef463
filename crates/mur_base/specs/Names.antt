-- Names of nodes and users, and of mailboxes (RFC 9051, 5.1), with the first rule that a text breaks.
use Rattle.std.specs.Prelude.{◌≡◌, ℕ, Bool, true, false, ◌||◌, ◌&&◌, not, ◌==◌, nat_lt, nat_le, if◌then◌else◌, List, [], ◌∷◌}
use Rattle.std.specs.Prelude.{length, Option, None, Some, Result, Err, MatchResult}
use Rattle.std.specs.List.{list_any, list_all}
use Rattle.std.specs.Str.{is_utf8}
use Rattle.std.specs.Char.{is_ascii_alphanumeric}
use Rattle.mur_base.specs.Ascii.{space, quote, percent, star, dash, dot, backslash, underscore, delete}
use Rattle.mur_base.specs.declared.name.NameFault.{NameFault}
use Rattle.mur_base.specs.declared.name.NameFault.TheVariants.{Empty, TooLong, BadByte, BadLevel, Memory}
use Rattle.mur_base.specs.declared.limits.TheConstants.{SHORT_NAME_LIMIT, NAME_LIMIT}

-- a letter, a digit, '-' or '_'
unfoldable pub is_short_name_byte : ℕ → Bool
is_short_name_byte b = is_ascii_alphanumeric b || (b == dash) || (b == underscore)

unfoldable pub has_short_name_bytes : List ℕ → Bool
has_short_name_bytes text = list_all is_short_name_byte text

-- the first rule of names of nodes, users and partitions that a text breaks
unfoldable pub short_name_fault : List ℕ → Option NameFault
short_name_fault text =
    if length text == 0 then Some Empty
    else if nat_lt SHORT_NAME_LIMIT (length text) then Some TooLong
    else if not (has_short_name_bytes text) then Some BadByte
    else None

-- a byte that a mailbox name may have: no control, and none of '"', '\', '%' and '*'
unfoldable pub is_mail_name_byte : ℕ → Bool
is_mail_name_byte b = nat_le space b && not (b == delete) && not (b == quote) && not (b == backslash) && not (b == percent) && not (b == star)

-- the text is UTF-8, and a mailbox name may have each of its bytes
unfoldable pub has_mail_name_bytes : List ℕ → Bool
has_mail_name_bytes text = is_utf8 text && list_all is_mail_name_byte text

-- a byte is put before the first level
unfoldable pub with_first : ℕ → List (List ℕ) → List (List ℕ)
with_first b [] = (b ∷ []) ∷ []
with_first b (level ∷ levels) = (b ∷ level) ∷ levels

-- the levels of a name: the texts between its separators
unfoldable pub levels_of : List ℕ → List (List ℕ)
levels_of [] = [] ∷ []
levels_of (b ∷ text) = if b == dot then [] ∷ levels_of text else with_first b (levels_of text)

unfoldable pub is_empty_level : List ℕ → Bool
is_empty_level [] = true
is_empty_level (b ∷ level) = false

-- a level is empty, between two separators or at an end
unfoldable pub has_empty_level : List ℕ → Bool
has_empty_level text = list_any is_empty_level (levels_of text)

-- the first rule of mailbox names that a text breaks
unfoldable pub mail_name_fault : List ℕ → Option NameFault
mail_name_fault text =
    if length text == 0 then Some Empty
    else if nat_lt NAME_LIMIT (length text) then Some TooLong
    else if not (has_mail_name_bytes text) then Some BadByte
    else if has_empty_level text then Some BadLevel
    else None

-- a text is read as a name: refused by the rule that it breaks, else taken as it is unless memory is wanting
abbrev pub IsReadAsName : Option NameFault → List ℕ → Result (List ℕ) NameFault → Type 0
IsReadAsName (Some fault) text result = result ≡ Err fault
IsReadAsName None text result = MatchResult result (λ name. name ≡ text) (λ fault. fault ≡ Memory)
