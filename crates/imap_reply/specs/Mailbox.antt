-- How the name of a mailbox is printed (RFC 9051, 9: mailbox): as an atom where it is one, else in quotes. NIL, in any case, is quoted too, since clients may
-- read the atom as no name.
use Rattle.std.specs.Prelude.{ℕ, Bool, ◌&&◌, not, List, codes, if◌then◌else◌}
use Rattle.std.specs.Str.{str_eq_ignore_ascii_case}
use Rattle.imap_text.specs.Strings.{is_atom, quoted_text}

unfoldable pub is_nil : List ℕ → Bool
is_nil text = str_eq_ignore_ascii_case text (codes "nil")

unfoldable pub is_bare : List ℕ → Bool
is_bare name = is_atom name && not (is_nil name)

unfoldable pub mailbox_text : List ℕ → List ℕ
mailbox_text name = if is_bare name then name else quoted_text name
