-- The arguments that several commands have: a mailbox, two strings, or a string that may be left out, each behind a space (RFC 9051, 9).
use Rattle.std.specs.Prelude.{ℕ, List, Option}
use Rattle.mur_base.specs.Ascii.{space}
use Rattle.grammar.specs.Forms.{Form, preceded, maybe, ◌spaced◌}
use Rattle.imap_text.specs.Strings.{argument}

-- SP mailbox
abbrev pub one_string : Form (List ℕ)
one_string = preceded space argument

-- SP userid SP password, SP mailbox SP identifier
abbrev pub two_strings : Form (List ℕ × List ℕ)
two_strings = preceded space (argument spaced argument)

-- [SP partition]
abbrev pub optional_string : Form (Option (List ℕ))
optional_string = maybe space argument
