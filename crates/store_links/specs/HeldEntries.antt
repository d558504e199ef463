-- What the entries of a backend's disk are to the one store: those about messages of a mailbox change its box alone, the others none (RFC 9051, 6.4).
use Rattle.std.specs.Prelude.{◌≡◌, ◌≢◌, ℕ, List, Option, None, Some}
use Rattle.std.specs.List.{AllByRecursion}
use Rattle.std.specs.Ordering.{nat_cmp}
use Rattle.std.specs.Cmp.Lexicographic.{slice_cmp}
use Rattle.mail_message.specs.Boxes.{Content, content_after_all}
use Rattle.mail_message.specs.declared.change.Change.{Change}
use Rattle.mur_base.specs.Map.{IsInOrder}
use Rattle.mur_model.specs.declared.store.Store.{Store}
use Rattle.mur_model.specs.Store.{box_at, with_box}
use Rattle.node_record.specs.declared.backend.BackendRecord.{BackendRecord}
use Rattle.node_record.specs.declared.backend.BackendRecord.TheVariants as entry
use Rattle.node_record.specs.Held.{held_after, puts, relabels, removals}
use Rattle.node_record.specs.Table.{MailboxTable}
use Rattle.home_law.specs.Items.{Server}
use Rattle.home_law.specs.ManyNames.{Mailbox}
use Rattle.store_links.specs.Shown.{Homes, content_at, Shows}
use Rattle.store_links.specs.TableEntries.{OthersStay, acl_at, IsMailboxAt}

-- one server's entry is carried out
pub record IsAfter (homes then : Homes) (b : Server) (it : BackendRecord) : Type 0 where
  pub own : then b ≡ held_after (homes b) it
  pub others : (q : Server) → q ≢ b → then q ≡ homes q

-- ---- entries that leave each mailbox what it is

abbrev pub IsNoMailboxAt : MailboxTable → Server → Mailbox → Type 0
IsNoMailboxAt table b n = acl_at table b n ≡ None

-- a name is opened or closed; what is made, comes in, points elsewhere or is forgotten is no mailbox here
abbrev pub ChangesNone : MailboxTable → Server → BackendRecord → Type 0
ChangesNone table b (entry.Make n serial acl) = IsNoMailboxAt table b n
ChangesNone table b (entry.Opened n) = Unit {0}
ChangesNone table b (entry.Added n messages) = ⊥
ChangesNone table b (entry.Flagged n rows) = ⊥
ChangesNone table b (entry.Gone n uids) = ⊥
ChangesNone table b (entry.Closing n) = Unit {0}
ChangesNone table b (entry.Begun n giver serial acl) = IsNoMailboxAt table b n
ChangesNone table b (entry.Took n changes) = IsNoMailboxAt table b n
ChangesNone table b (entry.Ready n next) = IsNoMailboxAt table b n
ChangesNone table b (entry.Pointer n server) = IsNoMailboxAt table b n
ChangesNone table b (entry.Forget names) = AllByRecursion (IsNoMailboxAt table b) names

abbrev pub OthersChangeNone : Type 0
OthersChangeNone = (table : MailboxTable) (homes then : Homes) (store : Store) (b : Server) (it : BackendRecord) → Shows table homes store
    → IsAfter homes then b it
    → ChangesNone table b it → Shows table then store

-- whatever a server does, if it leaves the content of each mailbox
abbrev pub ContentsStay : Type 0
ContentsStay = (table : MailboxTable) (homes then : Homes) (store : Store) (b : Server) → Shows table homes store → ((q : Server) → q ≢ b → then q ≡ homes q)
    → ((n : Mailbox) (acl : List ℕ) → acl_at table b n ≡ Some acl → content_at then b n ≡ content_at homes b n) → Shows table then store

-- ---- entries about messages

-- whose messages an entry changes, and how
abbrev pub changes_in : BackendRecord → Option (Mailbox × List Change)
changes_in (entry.Make n serial acl) = None
changes_in (entry.Opened n) = None
changes_in (entry.Added n messages) = Some (n, puts messages)
changes_in (entry.Flagged n rows) = Some (n, relabels rows)
changes_in (entry.Gone n uids) = Some (n, removals uids)
changes_in (entry.Closing n) = None
changes_in (entry.Begun n giver serial acl) = None
changes_in (entry.Took n changes) = None
changes_in (entry.Ready n next) = None
changes_in (entry.Pointer n server) = None
changes_in (entry.Forget names) = None

-- the store's box after them
abbrev pub store_changed : Store → Mailbox → Content → List Change → Store
store_changed store n box changes = with_box store n (content_after_all box changes)

pub record IsChanged (table : MailboxTable) (then : Homes) (store : Store) (b : Server) (n : Mailbox) (changes : List Change) : Type 0 where
  pub box : Content
  pub was : box_at store n ≡ Some box
  -- the server has it so, and so has the store
  pub here : content_at then b n ≡ Some (content_after_all box changes)
  pub there : box_at (store_changed store n box changes) n ≡ Some (content_after_all box changes)
  pub shows : Shows table then (store_changed store n box changes)
  pub others : OthersStay store (store_changed store n box changes) n

abbrev pub MessagesChangeOne : Type 0
MessagesChangeOne = (table : MailboxTable) (homes then : Homes) (store : Store) (b : Server) (it : BackendRecord) (n : Mailbox) (changes : List Change)
    → changes_in it ≡ Some (n, changes) → Shows table homes store → IsAfter homes then b it → IsMailboxAt table b n → IsChanged table then store b n changes

-- whatever made it, a store that has of this name what its server has now, and of every other what it had
abbrev pub AnyStoreWithIt : Type 0
AnyStoreWithIt = (table : MailboxTable) (homes then : Homes) (store later : Store) (b : Server) (it : BackendRecord) (n : Mailbox) (changes : List Change)
    → changes_in it ≡ Some (n, changes) → Shows table homes store → IsAfter homes then b it → IsMailboxAt table b n
    → box_at later n ≡ content_at then b n → OthersStay store later n → IsInOrder (slice_cmp nat_cmp) later.boxes → Shows table then later
