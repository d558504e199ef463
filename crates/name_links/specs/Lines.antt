-- What a line of a backend is to one name. The line says it by itself: by its command and, since only a client's command waits under a tag that
-- tells it, by its tag.
use Rattle.std.specs.Prelude.{ℕ, Bool, false, ◌==◌, nat_le, nat_eq, is_some, if◌then◌else◌, List, [], ◌∷◌, ◌++◌, Option, None, Some}
use Rattle.std.specs.Cmp.Lexicographic.{pointwise}
use Rattle.mur_base.specs.declared.home.Location.{Location}
use Rattle.mur_base.specs.declared.limits.TheConstants.{MAILBOX_LIMIT}
use Rattle.text_parts.specs.Locations.{bang}
use Rattle.mupdate_codec.specs.declared.command.MCommand.{MCommand}
use Rattle.mupdate_codec.specs.declared.command.MCommand.TheVariants as command
use Rattle.mupdate_codec.specs.declared.tag.Tag.{Tag}
use Rattle.mupdate_codec.specs.Asks.{ask_id_of}
use Rattle.node_record.specs.Table.{MailboxTable}
use Rattle.home_law.specs.Items.{Server, is_same_server, NameRecord, Item, list, reserve, make, again, deactivate, delete, wipe, find}
use Rattle.home_law.specs.Steps.{answer}
use Rattle.home_law.specs.Link.{see, put}
use Rattle.home_law.specs.ManyNames.{Mailbox, if_named, SentLine, sent_list, sent_reserve, sent_make, sent_again, sent_deactivate, sent_delete, sent_wipe, sent_find}

-- a client's command waits for the answer
abbrev pub is_asked : Tag → Bool
is_asked tag = is_some (ask_id_of tag)

-- the line, if its location is at the backend
abbrev pub if_at : Server → Location → SentLine → Option SentLine
if_at b place line = if is_same_server place.server b then Some line else None

-- what the locations of a server begin with
abbrev pub places_of : Server → List ℕ
places_of b = b ++ bang ∷ []

-- the line of this backend that a command is, if it is one
unfoldable pub backend_line : Server → Tag → MCommand → Option SentLine
backend_line b tag (command.Reserve m place) = if_at b place (sent_reserve m)
backend_line b tag (command.Activate m place acl) = if_at b place (if is_asked tag then sent_make m else sent_again m)
backend_line b tag (command.Deactivate m place) = if_at b place (sent_deactivate m)
backend_line b tag (command.Delete m) = Some (if is_asked tag then sent_delete m else sent_wipe m)
backend_line b tag (command.Find m) = Some (sent_find m false)
backend_line b tag (command.List (Some prefix)) = if pointwise nat_eq prefix (places_of b) then Some sent_list else None
backend_line b tag it = None

-- the line, to a name: LIST is about every name, any other line about one
unfoldable pub items_of : Mailbox → SentLine → List Item
items_of n sent_list = list ∷ []
items_of n (sent_reserve m) = if_named m n reserve
items_of n (sent_make m) = if_named m n make
items_of n (sent_again m) = if_named m n again
items_of n (sent_deactivate m) = if_named m n deactivate
items_of n (sent_delete m) = if_named m n delete
items_of n (sent_wipe m) = if_named m n wipe
items_of n (sent_find m told) = if_named m n find

-- RESERVE finds no serial left; ACTIVATE finds as many mailboxes as there may be
unfoldable pub is_full_for : MailboxTable → SentLine → Bool
is_full_for table (sent_reserve m) = table.serial == 4294967295
is_full_for table line = nat_le MAILBOX_LIMIT table.mailboxes

-- The master's step in the protocol of one name: the record after a line, and what the backend is answered. A line that isn't about the name
-- leaves its record, and is answered nothing about it.
pub record NameStep : Type 0 where
  pub known : NameRecord
  pub says : List Item

unfoldable pub answered : Bool → Server → NameRecord → List Item → NameStep
answered is_full b r [] = record { known = r; says = [] }
answered is_full b r (x ∷ xs) = record { known = put (answer is_full (see r b) x).seen b r; says = (answer is_full (see r b) x).says }
