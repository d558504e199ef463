-- What a frontend decides behind the OK of a barrier is as the one store of the step in which the master took the NOOP has it.
use Rattle.std.specs.Prelude.{◌≡◌, ℕ, true, List, ◌∷◌, None, Some}
use Rattle.std.specs.Map.{keys_of}
use Rattle.ask_routes.specs.declared.ask_for.AskFor.{AskFor}
use Rattle.ask_routes.specs.declared.ask_for.AskFor.TheVariants as about
use Rattle.ask_routes.specs.declared.next.Next.TheVariants as next
use Rattle.ask_routes.specs.declared.next.Why.{Why}
use Rattle.ask_routes.specs.declared.next.Why.TheVariants as why
use Rattle.ask_routes.specs.WayLaws.{name_of}
use Rattle.ask_routes.specs.Ways.{behind_ok}
use Rattle.feed_core.specs.declared.replica.Replica.{Replica}
use Rattle.feed_core.specs.Listing.{mailbox_names}
use Rattle.feed_links.specs.Replicas.{replica_of}
use Rattle.home_law.specs.Items.{Server}
use Rattle.mail_message.specs.Boxes.{Content}
use Rattle.master_core.specs.Refusals.{is_reserved}
use Rattle.mur_model.specs.declared.store.Store.{Store}
use Rattle.mur_model.specs.Store.{box_at}
use Rattle.node_record.specs.Table.{MailboxTable, IsMailbox, record_at}
use Rattle.store_links.specs.Shown.{Homes, content_at, Shows}
use Rattle.link_msg.specs.declared.message.LinkMsg.{LinkMsg}
use Rattle.mur_base.specs.declared.point.AskId.{AskId}
use Rattle.route_links.specs.Barriers.{IsOkOf, AwaitsOk}
use Rattle.route_links.specs.Decided.{by_table}

-- the store has no box of a name that is told missing
abbrev pub MissingHasNoBox : Type 0
MissingHasNoBox = (table : MailboxTable) (homes : Homes) (store : Store) (first name : List ℕ) (it : Why) → Shows table homes store
    → by_table table first (about.Mailbox name) it ≡ next.Missing → box_at store name ≡ None

-- the names that are listed are those of its boxes
abbrev pub NamesAreTheStores : Type 0
NamesAreTheStores = (table : MailboxTable) (homes : Homes) (store : Store) → Shows table homes store
    → mailbox_names (replica_of table).records ≡ keys_of store.boxes

-- a command is refused only at a name that is reserved
abbrev pub RefusedIsReserved : Type 0
RefusedIsReserved = (table : MailboxTable) (first : List ℕ) (what : AskFor) (it : Why) → by_table table first what it ≡ next.Refused
    → (is_reserved (record_at table (name_of what)) ≡ true) × (it ≡ why.NotNow)

-- the server that is asked at the name of a mailbox has its box, also for a CREATE of that name
pub record HasTheBox (homes : Homes) (store : Store) (server : Server) (name : List ℕ) : Type 0 where
  pub box : Content
  pub here : content_at homes server name ≡ Some box
  pub there : box_at store name ≡ Some box

abbrev pub AskedHasTheBox : Type 0
AskedHasTheBox = (table : MailboxTable) (homes : Homes) (store : Store) (first server : List ℕ) (what : AskFor) (it : Why) → Shows table homes store
    → IsMailbox table (name_of what) → by_table table first what it ≡ next.Ask server → HasTheBox homes store server (name_of what)

-- what the frontend does where it takes the OK, if the store and the homes were so when the master took the NOOP
pub record IsAsTheStore (table : MailboxTable) (homes : Homes) (store : Store) (replica : Replica) : Type 0 where
  pub missing : (first name : List ℕ) (it : Why) → behind_ok replica.records first (about.Mailbox name) it ≡ next.Missing → box_at store name ≡ None
  pub listed : mailbox_names replica.records ≡ keys_of store.boxes
  pub refused : (first : List ℕ) (what : AskFor) (it : Why) → behind_ok replica.records first what it ≡ next.Refused
      → is_reserved (record_at table (name_of what)) ≡ true
  pub asked : (first server : List ℕ) (what : AskFor) (it : Why) → IsMailbox table (name_of what) → behind_ok replica.records first what it ≡ next.Ask server
      → HasTheBox homes store server (name_of what)

abbrev pub DecidesAsTheStore : Type 0
DecidesAsTheStore = (ask : AskId) (table : MailboxTable) (homes : Homes) (store : Store) (up down : List LinkMsg) (message : LinkMsg) (replica : Replica)
    → AwaitsOk ask table up (message ∷ down) replica → IsOkOf ask message → Shows table homes store → IsAsTheStore table homes store replica
