-- What a home and the store have of one name, where an operation on its messages comes to the home (RFC 9051, 6.4), or its name is asked for at the master.
use Rattle.std.specs.Prelude.{◌≡◌, None}
use Rattle.backend_core.specs.declared.backend.Backend.{Backend}
use Rattle.mur_model.specs.declared.store.Store.{Store}
use Rattle.mur_model.specs.Store.{box_at}
use Rattle.node_record.specs.Held.{IsWritableHome}
use Rattle.node_record.specs.Table.{MailboxTable}
use Rattle.home_law.specs.Items.{Server}
use Rattle.home_law.specs.ManyNames.{Mailbox}
use Rattle.name_links.specs.LinkIs.{LinkHolds}
use Rattle.name_links.specs.OneLink.{OneLink, server_of}
use Rattle.serve_law.specs.AsTheStore.{HaveAlike}
use Rattle.store_links.specs.Shown.{Homes, Shows}
use Rattle.store_links.specs.TableEntries.{IsMailboxAt, IsNoMailbox}

-- a name that is open at a backend is a mailbox, and its record names that backend
abbrev pub OpenIsMailbox : Type 0
OpenIsMailbox = (link : OneLink) (n : Mailbox) → LinkHolds link → IsWritableHome link.held n → IsMailboxAt link.table (server_of link) n

-- the record of a mailbox names this server, and it is open here
abbrev pub OpenIsAlike : Type 0
OpenIsAlike = (table : MailboxTable) (homes : Homes) (store : Store) (b : Server) (home : Backend) (n : Mailbox) → Shows table homes store → homes b ≡ home.held
    → IsMailboxAt table b n → IsWritableHome home.held n → HaveAlike store home n

-- a name that is no mailbox has no box, whatever a backend has of it
abbrev pub NoneIsMissing : Type 0
NoneIsMissing = (table : MailboxTable) (homes : Homes) (store : Store) (n : Mailbox) → Shows table homes store → IsNoMailbox table n → box_at store n ≡ None
