-- STATUS (RFC 9051, 6.3.11 and 9).
use Rattle.std.specs.Prelude.{ℕ, List}
use Rattle.mur_base.specs.Ascii.{space, open_paren, close_paren}
use Rattle.grammar.specs.Forms.{Form, preceded, closed, several, ◌spaced◌}
use Rattle.imap_text.specs.StatusItems.{status_item}
use Rattle.imap_text.specs.Strings.{argument}
use Rattle.imap_types.specs.declared.command.StatusItem.{StatusItem}

-- "(" status-att *(SP status-att) ")"
abbrev pub status_items : Form (List StatusItem)
status_items = closed open_paren (several space status_item) close_paren

-- SP mailbox SP the items
abbrev pub status_form : Form (List ℕ × List StatusItem)
status_form = preceded space (argument spaced status_items)
