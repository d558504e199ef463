-- The arguments of lines, each behind a space, by what is read as a name and as a location (RFC 3656, 3 and 4).
use Rattle.std.specs.Prelude.{ℕ, List, Option}
use Rattle.mur_base.specs.Ascii.{space, cr, lf}
use Rattle.mur_base.specs.declared.home.Location.{Location}
use Rattle.grammar.specs.Forms.{Form, preceded, followed, maybe, ◌spaced◌}
use Rattle.mupdate_codec.specs.Strings.{string_form, name_form, location_form}

-- how names and locations are read
pub record Texts : Type 1 where
  pub names : Form (List ℕ)
  pub locations : Form Location

-- as what they are
abbrev pub exact : Texts
exact = record { names = name_form; locations = location_form }

-- SP string
abbrev pub a_string : Form (List ℕ)
a_string = preceded space string_form

-- [SP string]
abbrev pub maybe_string : Form (Option (List ℕ))
maybe_string = maybe space string_form

-- SP name
abbrev pub a_name : Texts → Form (List ℕ)
a_name by = preceded space by.names

-- SP name SP location
abbrev pub a_place : Texts → Form (List ℕ × Location)
a_place by = preceded space (by.names spaced by.locations)

-- SP name SP location SP string
abbrev pub a_mailbox : Texts → Form (List ℕ × (Location × List ℕ))
a_mailbox by = preceded space (by.names spaced (by.locations spaced string_form))

-- a form and CRLF
abbrev pub ended_line : {A : Type 0} → Form A → Form A
ended_line p = followed (followed p cr) lf
