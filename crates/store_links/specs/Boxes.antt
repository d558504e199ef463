-- The mailboxes of the table are the boxes of the store, so there are as many (RFC 3656, 4.1: the master refuses one more than there may be).
use Rattle.std.specs.Prelude.{◌≡◌, ℕ, nat_le, is_some, if◌then◌else◌, List, [], ◌∷◌, length, Some}
use Rattle.std.specs.Map.{keys_of}
use Rattle.mur_base.specs.declared.limits.TheConstants.{MAILBOX_LIMIT}
use Rattle.mail_message.specs.Boxes.{Content}
use Rattle.mur_model.specs.declared.store.Store.{Store}
use Rattle.mur_model.specs.Store.{box_at, is_full}
use Rattle.node_record.specs.Table.{Records, MailboxTable, is_mailbox, is_mailbox_if, record_at, IsCounted}
use Rattle.home_law.specs.Items.{Server}
use Rattle.home_law.specs.ManyNames.{Mailbox}
use Rattle.store_links.specs.Shown.{Homes, content_at, Shows}
use Rattle.store_links.specs.TableEntries.{acl_at}

-- the store's box of a mailbox is what the server of its record has, with the record's access list
abbrev pub BoxIsThere : Type 0
BoxIsThere = (table : MailboxTable) (homes : Homes) (store : Store) (b : Server) (n : Mailbox) (acl : List ℕ) → Shows table homes store
    → acl_at table b n ≡ Some acl
    → (box : Content) × (content_at homes b n ≡ Some box) × (box_at store n ≡ Some box) × (box.acl ≡ acl)

abbrev pub EachIsABox : Type 0
EachIsABox = (table : MailboxTable) (homes : Homes) (store : Store) → Shows table homes store → (n : Mailbox)
    → is_mailbox_if (record_at table n) ≡ is_some (box_at store n)

-- the names that are mailboxes, in their order
abbrev pub mailbox_names : Records → List Mailbox
mailbox_names [] = []
mailbox_names (it ∷ records) = if is_mailbox it.1 then it.0 ∷ mailbox_names records else mailbox_names records

abbrev pub SameNames : Type 0
SameNames = (table : MailboxTable) (homes : Homes) (store : Store) → Shows table homes store → mailbox_names table.records ≡ keys_of store.boxes

abbrev pub AsMany : Type 0
AsMany = (table : MailboxTable) (homes : Homes) (store : Store) → Shows table homes store → IsCounted table → table.mailboxes ≡ length store.boxes

-- so the store is full where the master refuses one more
abbrev pub FullAlike : Type 0
FullAlike = (table : MailboxTable) (homes : Homes) (store : Store) → Shows table homes store → IsCounted table
    → is_full store ≡ nat_le MAILBOX_LIMIT table.mailboxes
