-- One mailbox name, as the master and one backend see it, and the messages about it on the link between them.
use Rattle.std.specs.Prelude.{ℕ, Bool, false, ◌||◌, nat_eq, List, [], ◌∷◌}
use Rattle.std.specs.Cmp.Lexicographic.{pointwise}

-- the name of a node
abbrev pub Server : Type 0
Server = List ℕ

abbrev pub is_same_server : Server → Server → Bool
is_same_server one other = pointwise nat_eq one other

-- The master has a record of the name, or none. A record names a server, and is one of three kinds.
pub data RecordKind : Type 0 where
  -- reserved, and never active since: no mailbox yet
  bare : RecordKind
  -- reserved, with the access list that it had when it was active: a mailbox that can't be used
  kept : RecordKind
  -- active: a mailbox
  active : RecordKind

pub data NameRecord : Type 0 where
  no_record : NameRecord
  recorded : RecordKind → Server → NameRecord

-- the record as a backend finds it: none, one that names another server, or one that names this backend
pub data Seen : Type 0 where
  free : Seen
  other : Seen
  own : RecordKind → Seen

-- the record as far as it binds a backend: to one that it doesn't name, none and another's are alike
pub data Mine : Type 0 where
  away : Mine
  mine : RecordKind → Mine

-- The phase of the name on a backend's disk.
pub data HomePhase : Type 0 where
  no_phase : HomePhase
  -- made, and not yet known to be active
  creating : HomePhase
  -- open: here messages are changed
  serving : HomePhase
  -- closed, to be deleted
  closing : HomePhase
  -- at another server
  pointer : HomePhase

-- What a backend does with the name for a client's CREATE or DELETE, by the line whose answer it waits for.
pub data HomeFlow : Type 0 where
  idle : HomeFlow
  -- a CREATE, RESERVE
  reserving : HomeFlow
  -- a CREATE, ACTIVATE
  making : HomeFlow
  -- a DELETE, DEACTIVATE
  pausing : HomeFlow
  -- a DELETE, DELETE
  deleting : HomeFlow

-- Whether a backend compares its disk with the master's table, which it begins by LIST when its link comes up: no; yes, and the name
-- wasn't listed so far; yes, and it was.
pub data Resync : Type 0 where
  synced : Resync
  listing : Resync
  listed : Resync

-- A message about the name, or one that concerns every name.
pub data Item : Type 0 where
  -- To the backend. The link is up from here on; it is down from here on.
  backend_up : Item
  backend_end : Item
  -- the line of LIST for a name whose record is active at this backend; for one whose record is reserved at it; LIST's OK
  listed_active : Item
  listed_reserved : Item
  list_ok : Item
  -- the answer to RESERVE: OK; NO, since the name is active or reserved, or no serial is left
  reserve_ok : Item
  reserve_no : Item
  -- the answer to a CREATE's ACTIVATE: OK; NO, since there are as many mailboxes as may be
  make_ok : Item
  make_no : Item
  -- the OK of a resync's ACTIVATE, of DEACTIVATE, of a client's DELETE, of another DELETE
  again_ok : Item
  deactivate_ok : Item
  delete_ok : Item
  wipe_ok : Item
  -- FIND's line; its OK after that line; its OK without a line
  found : Item
  found_ok : Item
  not_found : Item
  -- any other NO, which never comes
  refused : Item
  -- To the master. The link is up from here on; it is down from here on.
  master_up : Item
  master_end : Item
  -- the LIST of a resync
  list : Item
  -- RESERVE of a CREATE
  reserve : Item
  -- ACTIVATE of a CREATE
  make : Item
  -- ACTIVATE of a resync, by which a reserved name serves again
  again : Item
  -- DEACTIVATE and DELETE of a client's DELETE
  deactivate : Item
  delete : Item
  -- DELETE of a name that never became a mailbox: of a resync, or after an ACTIVATE that was refused
  wipe : Item
  -- FIND of a name that is closed here and wasn't listed
  find : Item

-- numbers, by which messages are compared
unfoldable pub item_number : Item → ℕ
item_number backend_up = 0
item_number backend_end = 1
item_number listed_active = 2
item_number listed_reserved = 3
item_number list_ok = 4
item_number reserve_ok = 5
item_number reserve_no = 6
item_number make_ok = 7
item_number make_no = 8
item_number again_ok = 9
item_number deactivate_ok = 10
item_number delete_ok = 11
item_number wipe_ok = 12
item_number found = 13
item_number found_ok = 14
item_number not_found = 15
item_number refused = 16
item_number master_up = 17
item_number master_end = 18
item_number list = 19
item_number reserve = 20
item_number make = 21
item_number again = 22
item_number deactivate = 23
item_number delete = 24
item_number wipe = 25
item_number find = 26

unfoldable pub is_among : List Item → Item → Bool
unfolding item_number
is_among [] x = false
is_among (y ∷ ys) x = nat_eq (item_number x) (item_number y) || is_among ys x

-- A backend's state of the name, without what is on the link. `hears`: it treats the link as up. `linked`: the link isn't broken. These differ
-- while a mark, that the link is up or down, is on its way.
pub record Ctl : Type 0 where
  pub phase : HomePhase
  pub flow : HomeFlow
  pub resync : Resync
  pub hears : Bool
  pub linked : Bool
