-- What a watcher was given since its UPDATE makes the records of the table (RFC 3656, 4.11), in the eyes of whoever reads the lines.
use Rattle.std.specs.Prelude.{◌≡◌, ℕ, false, List, [], ◌∷◌, ◌++◌, None, Some, ⊤}
use Rattle.std.specs.List.{fold, AllByRecursion}
use Rattle.feed_core.specs.Feed.{Recs, recs_after}
use Rattle.feed_links.specs.Replicas.{recs_of}
use Rattle.feed_links.specs.Spelled.{CanBeTold}
use Rattle.master_core.specs.declared.master.Master.{Master}
use Rattle.master_core.specs.Dialogs.{Dialog}
use Rattle.mupdate_codec.specs.declared.command.MResponse.{MResponse}
use Rattle.mupdate_codec.specs.declared.command.MResponse.TheVariants as response
use Rattle.mupdate_codec.specs.declared.tag.Tag.{Tag}
use Rattle.mupdate_codec.specs.Responses.{IsResponseLine}
use Rattle.node_record.specs.Table.{MailboxTable}
use Rattle.guest_links.specs.Guests.{Watch}
use Rattle.guest_links.specs.Happenings.{Happening, master_from, seen_from, outs_from}
use Rattle.guest_links.specs.Outputs.{given_by}
use Rattle.guest_links.specs.Served.{HasWatchers, IsNoGuest}

-- the bytes are the lines of these responses, one behind another
pub data AreLinesOf : List ℕ → List (Tag × MResponse) → Type 0 where
  no_line : AreLinesOf [] []
  line_first : (line rest : List ℕ) (it : Tag × MResponse) (more : List (Tag × MResponse)) → IsResponseLine line it → AreLinesOf rest more
      → AreLinesOf (line ++ rest) (it ∷ more)

-- there is one way to read them
abbrev pub LinesAreReadInOneWay : Type 0
LinesAreReadInOneWay = (bytes : List ℕ) (its others : List (Tag × MResponse)) → AreLinesOf bytes its → AreLinesOf bytes others → its ≡ others

-- a response changes the records of its reader. After UPDATE no FIND or LIST is answered, so each line of a mailbox tells a change
abbrev pub reads : Recs → Tag × MResponse → Recs
reads recs it = recs_after recs it.1

-- a line of a mailbox is under this tag

abbrev pub IsToldUnder : Tag → Tag → MResponse → Type 0
IsToldUnder tag its (response.Ok text) = ⊤
IsToldUnder tag its (response.No text) = ⊤
IsToldUnder tag its (response.Bad text) = ⊤
IsToldUnder tag its it = its ≡ tag

abbrev pub IsUnder : Tag → Tag × MResponse → Type 0
IsUnder tag it = IsToldUnder tag it.0 it.1

-- the bytes are lines that make the records of the table, each line of a mailbox under this tag
pub record MakesTable (table : MailboxTable) (tag : Tag) (bytes : List ℕ) : Type 0 where
  pub responses : List (Tag × MResponse)
  pub lines : AreLinesOf bytes responses
  pub made : fold reads [] responses ≡ recs_of table
  pub tagged : AllByRecursion (IsUnder tag) responses

-- what the client was given behind what it had before the answer to its UPDATE
pub record HasTheTable (table : MailboxTable) (watch : Watch) (all : List ℕ) : Type 0 where
  pub since : List ℕ
  pub is : all ≡ watch.before ++ since
  pub makes : MakesTable table watch.tag since

-- whatever happened since a client connected that has sent UPDATE, and whose dialog goes on, its outputs made the table of now
abbrev pub WatchersHaveTheTable : Type 0
WatchersHaveTheTable = (master : Master) (conn : ℕ) (happenings : List Happening) → HasWatchers master → CanBeTold master.table → IsNoGuest master conn
    → (dialog : Dialog) (watch : Watch) → seen_from master conn None happenings ≡ Some (record { dialog = dialog; watch = Some watch }) → dialog.ended ≡ false
    → HasTheTable (master_from master happenings).table watch (given_by conn (outs_from master happenings))
