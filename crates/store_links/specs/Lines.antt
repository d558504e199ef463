-- What a line of a backend is to the one store where the master takes it (RFC 3656, 4): a client's CREATE, a client's DELETE, or nothing.
use Rattle.std.specs.Prelude.{◌≡◌, ℕ, true, List, [], ◌∷◌}
use Rattle.mur_base.specs.declared.home.Location.{Location}
use Rattle.mur_model.specs.declared.store.Store.{Store}
use Rattle.mupdate_codec.specs.declared.command.MCommand.{MCommand}
use Rattle.mupdate_codec.specs.declared.command.MCommand.TheVariants as command
use Rattle.mupdate_codec.specs.declared.tag.Tag.{Tag}
use Rattle.node_record.specs.declared.master.MasterRecord.TheVariants as entry
use Rattle.node_record.specs.Table.{table_after}
use Rattle.home_law.specs.ManyNames.{Mailbox}
use Rattle.name_links.specs.Contents.{ContentHolds}
use Rattle.name_links.specs.Lines.{is_asked}
use Rattle.name_links.specs.LinkIs.{LinkHolds}
use Rattle.name_links.specs.OneLink.{OneLink, server_of, table_by}
use Rattle.name_links.specs.Serials.{Given, gives, SerialsHold}
use Rattle.store_links.specs.Given.{HasGiven}
use Rattle.store_links.specs.Shown.{Homes, Shows}
use Rattle.store_links.specs.TableEntries.{IsCreated, IsRemoved}

-- a line and its tag, by which a client's command waits for the answer or none does
pub data IsTaken (link : OneLink) (homes : Homes) (store : Store) (given : Given) (it : Tag × MCommand) : Type 0 where
  nothing : Shows (table_by link.table (server_of link) it.1) homes store → gives link.table (server_of link) it.1 ≡ [] → IsTaken link homes store given it
  created : (n : Mailbox) (place : Location) (acl : List ℕ) (serial : ℕ) → is_asked it.0 ≡ true → it.1 ≡ command.Activate n place acl
      → IsCreated link.table homes store given (server_of link) it.1 n serial → IsTaken link homes store given it
  removed : (n : Mailbox) → is_asked it.0 ≡ true → it.1 ≡ command.Delete n
      → table_by link.table (server_of link) it.1 ≡ table_after link.table (entry.Deleted n)
      → gives link.table (server_of link) it.1 ≡ [] → IsRemoved link.table homes store n → IsTaken link homes store given it

-- on a link of which all holds that `name_links` says
abbrev pub EachIsOne : Type 0
EachIsOne = (link : OneLink) (homes : Homes) (store : Store) (given : Given) (it : Tag × MCommand) (ups : List (Tag × MCommand))
    → LinkHolds link → ContentHolds link → SerialsHold link.table given → link.ups ≡ it ∷ ups
    → homes (server_of link) ≡ link.held → Shows link.table homes store → HasGiven store given → IsTaken link homes store given it
