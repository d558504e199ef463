-- status-att (RFC 9051, 6.3.11 and 9).
use Rattle.std.specs.Prelude.{ℕ, List, [], ◌∷◌, codes}
use Rattle.grammar.specs.Forms.{Form, Row, table}
use Rattle.imap_types.specs.declared.command.StatusItem.{StatusItem}
use Rattle.imap_types.specs.declared.command.StatusItem.TheVariants.{Messages, UidNext, UidValidity, Unseen, Deleted, Size}

abbrev pub status_item_rows : List (Row StatusItem)
status_item_rows =
    (codes "MESSAGES", Messages) ∷ (codes "UIDNEXT", UidNext) ∷ (codes "UIDVALIDITY", UidValidity) ∷ (codes "UNSEEN", Unseen)
    ∷ (codes "DELETED", Deleted) ∷ (codes "SIZE", Size) ∷ []

unfoldable pub item_text : StatusItem → List ℕ
item_text Messages = codes "MESSAGES"
item_text UidNext = codes "UIDNEXT"
item_text UidValidity = codes "UIDVALIDITY"
item_text Unseen = codes "UNSEEN"
item_text Deleted = codes "DELETED"
item_text Size = codes "SIZE"

abbrev pub status_item : Form StatusItem
status_item = table Messages status_item_rows item_text
