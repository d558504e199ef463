-- The line of a STATUS (RFC 9051, 7.3.3): a mailbox, and how much of each item there is.
use Rattle.std.specs.Prelude.{ℕ, List, [], ◌∷◌, ◌++◌, codes, decimal}
use Rattle.mur_base.specs.Ascii.{space}
use Rattle.imap_types.specs.declared.reply.StatusCount.{StatusCount}
use Rattle.imap_text.specs.StatusItems.{item_text}
use Rattle.imap_reply.specs.Mailbox.{mailbox_text}

unfoldable pub count_text : StatusCount → List ℕ
count_text count = item_text count.item ++ space ∷ decimal count.count

-- a space before each
unfoldable pub more_counts_text : List StatusCount → List ℕ
more_counts_text [] = []
more_counts_text (count ∷ counts) = space ∷ (count_text count ++ more_counts_text counts)

-- a space between each two
unfoldable pub counts_text : List StatusCount → List ℕ
counts_text [] = []
counts_text (count ∷ counts) = count_text count ++ more_counts_text counts

unfoldable pub status_line : List ℕ → List StatusCount → List ℕ
status_line name counts = codes "* STATUS " ++ mailbox_text name ++ codes " (" ++ counts_text counts ++ codes ")\r\n"
