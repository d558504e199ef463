-- setacl = "SETACL" SP mailbox SP identifier SP mod-rights, all of them astrings (RFC 4314, 4).
use Rattle.std.specs.Prelude.{ℕ, ◌==◌, List, [], ◌∷◌, if◌then◌else◌}
use Rattle.mur_base.specs.Ascii.{space, plus, dash}
use Rattle.grammar.specs.Forms.{Form, preceded, made, ◌spaced◌}
use Rattle.mail_message.specs.declared.mode.Mode.{Mode}
use Rattle.mail_message.specs.declared.mode.Mode.TheVariants.{Replace, Add, Remove}
use Rattle.imap_text.specs.Strings.{argument, astring_text}

-- mod-rights = ["+" / "-"] rights
abbrev pub rights_of : List ℕ → Mode × List ℕ
rights_of [] = (Replace, [])
rights_of (c ∷ text) = if c == plus then (Add, text) else if c == dash then (Remove, text) else (Replace, c ∷ text)

abbrev pub signed : Mode × List ℕ → List ℕ
signed (Replace, rights) = rights
signed (Add, rights) = plus ∷ rights
signed (Remove, rights) = dash ∷ rights

abbrev pub mod_rights : Form (Mode × List ℕ)
mod_rights = made rights_of (λ x. astring_text (signed x)) argument

abbrev pub set_acl : Form (List ℕ × (List ℕ × (Mode × List ℕ)))
set_acl = preceded space (argument spaced (argument spaced mod_rights))
