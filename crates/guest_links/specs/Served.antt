-- The master has each client from outside as its dialog says, and gives it what its dialog gives.
use Rattle.std.specs.Prelude.{◌≡◌, ℕ, Bool, true, false, ◌&&◌, not, is_some, if◌then◌else◌, List, [], ◌++◌, Option, None, Some}
use Rattle.std.specs.Ordering.{nat_cmp}
use Rattle.master_core.specs.declared.master.Master.{Master}
use Rattle.master_core.specs.declared.outside.Outside.{Outside}
use Rattle.master_core.specs.declared.outside.Outside.TheVariants as outside
use Rattle.master_core.specs.Boot.{booted}
use Rattle.master_core.specs.Dialogs.{Dialog, bytes_told}
use Rattle.master_core.specs.Outside.{Stepped, outside_at}
use Rattle.master_core.specs.Step.{table_with}
use Rattle.mupdate_codec.specs.declared.tag.Tag.{Tag}
use Rattle.mur_base.specs.Map.{value_at, IsInOrder}
use Rattle.node_record.specs.Table.{MailboxTable}
use Rattle.guest_links.specs.Guests.{Guest, bytes_taken, tag_of}
use Rattle.guest_links.specs.Happenings.{Happening, says, step_of, change_of, seen_after, master_from, outs_from, seen_from}
use Rattle.guest_links.specs.Outputs.{given_by, closes, ClosesLast}

-- the watchers stand in the order of their connections
abbrev pub HasWatchers : Master → Type 0
HasWatchers master = IsInOrder nat_cmp master.watchers

-- the tag of the UPDATE that a client from outside sent, if it is told changes
abbrev pub watcher_at : Master → ℕ → Option Tag
watcher_at master conn = value_at nat_cmp master.watchers conn

-- its connection
abbrev pub outside_of : Dialog → Outside
outside_of dialog = if dialog.ended then outside.Ended else outside.Open (Some dialog.begun)

-- the master's connection and its watcher are what the dialog says
pub record IsGuestOf (master : Master) (conn : ℕ) (guest : Guest) : Type 0 where
  pub outside : outside_at master conn ≡ Some (outside_of guest.dialog)
  pub watcher : watcher_at master conn ≡ tag_of guest
  pub streams : guest.dialog.ended ≡ false → is_some guest.watch ≡ guest.dialog.streams

-- nobody has connected
pub record IsNoGuest (master : Master) (conn : ℕ) : Type 0 where
  pub outside : outside_at master conn ≡ None
  pub watcher : watcher_at master conn ≡ None

abbrev pub IsSeen : Master → ℕ → Option Guest → Type 0
IsSeen master conn None = IsNoGuest master conn
IsSeen master conn (Some guest) = IsGuestOf master conn guest

abbrev pub given_to : Option Guest → List ℕ
given_to None = []
given_to (Some guest) = guest.dialog.given

-- its dialog has ended
abbrev pub is_over : Option Guest → Bool
is_over None = false
is_over (Some guest) = guest.dialog.ended

-- after a step the master has the client as its dialog says, and the step gave it what the dialog gained, and nothing else
pub record IsServed (conn : ℕ) (next : Stepped) (seen later : Option Guest) (shut : Bool) : Type 0 where
  pub is : IsSeen next.master conn later
  pub given : given_to later ≡ given_to seen ++ given_by conn next.outs
  pub closed : closes conn next.outs ≡ shut
  pub last : ClosesLast conn next.outs

-- the master closes the connection where a line of the client ends its dialog (LOGOUT)
abbrev pub closes_by : Option Guest → Option Guest → Happening → Bool
closes_by seen later (says conn bytes) = is_over later && not (is_over seen)
closes_by seen later happening = false

abbrev pub IsServedOn : Master → ℕ → Option Guest → Option Guest → Happening → Type 0
IsServedOn master conn seen later happening = IsServed conn (step_of master happening) seen later (closes_by seen later happening)

-- whatever happens, to whomever
abbrev pub EachStepServes : Type 0
EachStepServes = (master : Master) (conn : ℕ) (seen : Option Guest) (happening : Happening) → HasWatchers master → IsSeen master conn seen
    → IsServedOn master conn seen (seen_after master.me master.table (change_of master happening) conn seen happening) happening

abbrev pub WatchersStayInOrder : Type 0
WatchersStayInOrder = (master : Master) (happening : Happening) → HasWatchers master → HasWatchers (step_of master happening).master

-- the change that a step tells is that of the table
abbrev pub ChangesAreOfTheTable : Type 0
ChangesAreOfTheTable =
    (master : Master) (happening : Happening) → (step_of master happening).master.table ≡ table_with master.table (change_of master happening)

-- the dialog of a client is the one that the master's own laws have, but for changes
abbrev pub DialogIsTheMasters : Type 0
DialogIsTheMasters = (table : MailboxTable) (conn : ℕ) (guest : Guest) (bytes : List ℕ)
    → (bytes_taken table conn guest bytes).dialog ≡ bytes_told table conn guest.dialog bytes

-- after all that happened, from a master at which the client hadn't connected
pub record HasItsDialog (master : Master) (conn : ℕ) (happenings : List Happening) : Type 0 where
  pub is : IsSeen (master_from master happenings) conn (seen_from master conn None happenings)
  pub given : given_to (seen_from master conn None happenings) ≡ given_by conn (outs_from master happenings)

abbrev pub ClientsHaveTheirDialogs : Type 0
ClientsHaveTheirDialogs = (master : Master) (conn : ℕ) (happenings : List Happening) → HasWatchers master → IsNoGuest master conn
    → HasItsDialog master conn happenings

-- a dialog that has ended stays so, and its client is given nothing more
pub record StaysOver (conn : ℕ) (next : Stepped) (later : Option Guest) : Type 0 where
  pub over : is_over later ≡ true
  pub nothing : given_by conn next.outs ≡ []

abbrev pub EndsAreFinal : Type 0
EndsAreFinal =
    (master : Master) (conn : ℕ) (guest : Guest) (happening : Happening) → HasWatchers master → IsGuestOf master conn guest → guest.dialog.ended ≡ true
    → StaysOver conn (step_of master happening) (seen_after master.me master.table (change_of master happening) conn (Some guest) happening)

-- nobody has connected to a master that starts from its disk
pub record HasNobody (master : Master) : Type 0 where
  pub order : HasWatchers master
  pub nobody : (conn : ℕ) → IsNoGuest master conn

abbrev pub NobodyAtFirst : Type 0
NobodyAtFirst = (me : List ℕ) (backends : List (List ℕ)) (table : MailboxTable) → HasNobody (booted me backends table)
