-- What a line of a backend makes of the record of each name.
use Rattle.std.proofs.Common.{◌≡◌, ℕ, ◌+◌, Bool, true, false, ◌||◌, not, cond, List, Option, None, Some, refl, sym, ap, subst}
use Rattle.mur_base.specs.declared.home.Location.{Location}
use Rattle.mupdate_codec.specs.declared.command.MCommand.{MCommand}
use Rattle.mupdate_codec.specs.declared.command.MCommand.TheVariants as command
use Rattle.mupdate_codec.specs.declared.tag.Tag.{Tag}
use Rattle.node_record.specs.declared.master.MasterRecord.{MasterRecord}
use Rattle.node_record.specs.declared.master.MasterRecord.TheVariants as entry
use Rattle.node_record.specs.declared.table.State.{State}
use Rattle.node_record.specs.declared.table.State.TheVariants.{Bare, Kept, Active}
use Rattle.node_record.specs.declared.table.Record.{Record}
use Rattle.node_record.specs.Table.{MailboxTable, record_at}
use Rattle.master_core.specs.declared.refusal.Refusal.{Refusal}
use Rattle.master_core.specs.declared.sender.Sender.TheVariants.{Backend}
use Rattle.master_core.specs.Refusals.{is_active, is_reserved, reserve_refusal, activate_refusal, deactivate_refusal, delete_refusal}
use Rattle.master_core.specs.Replies.{reserve_by, activate_by, deactivate_by, delete_by, reserve_reply, activate_reply, deactivate_reply, delete_reply, find_reply, list_reply, reply_to}
use Rattle.master_core.specs.Senders.{is_server}
use Rattle.home_law.specs.Items.{Server, is_same_server}
use Rattle.home_law.specs.ManyNames.{Mailbox, SentLine as OpenLine, sent_reserve, sent_make, sent_again, sent_deactivate}
use Rattle.home_law.proofs.SameName.{is_itself, is_the_same}
use Rattle.name_links.specs.Lines.{is_asked, backend_line}
use Rattle.name_links.proofs.EachCommand.{if_so}

-- ---- what a line that isn't refused finds

-- the record names the server, or there is none
abbrev pub IsFreeFor : Server → Option Record → Type 0
IsFreeFor b None = Unit {0}
IsFreeFor b (Some it) = is_same_server (it.place).server b ≡ true

abbrev pub IsHereIn : Server → Option Record → Type 0
IsHereIn b None = ⊥
IsHereIn b (Some it) = is_same_server (it.place).server b ≡ true

-- the entry that a line makes
abbrev pub entry_of : MailboxTable → Server → MCommand → Option MasterRecord
entry_of table b it = (reply_to table (Backend b) it).entry

-- what it finds
pub data Change (table : MailboxTable) (b : Server) (it : MCommand) : Type 0 where
  nothing : entry_of table b it ≡ None → Change table b it
  reserved : (m : Mailbox) (place : Location) → it ≡ command.Reserve m place → is_same_server place.server b ≡ true → record_at table m ≡ None
      → entry_of table b it ≡ Some (entry.Reserved m place (table.serial + 1)) → Change table b it
  activated : (m : Mailbox) (place : Location) (acl : List ℕ) → it ≡ command.Activate m place acl → is_same_server place.server b ≡ true → IsFreeFor b (record_at table m)
      → entry_of table b it ≡ Some (entry.Active m place acl) → Change table b it
  deactivated : (m : Mailbox) (place : Location) (was : Record) (acl : List ℕ) → is_same_server place.server b ≡ true → record_at table m ≡ Some was
      → is_same_server (was.place).server b ≡ true → was.state ≡ Active acl → entry_of table b it ≡ Some (entry.Inactive m place) → Change table b it
  deleted : (m : Mailbox) → IsHereIn b (record_at table m) → entry_of table b it ≡ Some (entry.Deleted m) → Change table b it

-- the tests of a command don't hold
passed : (t : Bool) (why : Refusal) (rest : Option Refusal) → cond t (Some why) rest ≡ None → (t ≡ false) × (rest ≡ None)
passed true why rest e = cc
passed false why rest e = (refl, e)

not_false : (t : Bool) → not t ≡ false → t ≡ true
not_false true e = refl
not_false false e = cc

neither : (a b : Bool) → (a || b) ≡ false → (a ≡ false) × (b ≡ false)
neither true b e = cc
neither false b e = (refl, e)

-- the sender is the server
at_sender : (b : Server) (place : Location) → is_server (Backend b) place ≡ true → is_same_server place.server b ≡ true
at_sender b place e = subst (λ (s : List ℕ). is_same_server place.server s ≡ true) (sym (is_the_same b place.server e)) (is_itself place.server)

-- a name that is neither active nor reserved has no record
no_record_is : (found : Option Record) → is_active found ≡ false → is_reserved found ≡ false → found ≡ None
no_record_is None a r = refl
no_record_is (Some it) a r = by_state it.state refl
  where
    by_state : (s : State) → it.state ≡ s → Some it ≡ None
    by_state (Bare serial) e = let t : is_reserved (Some it) ≡ true = rw e refl in cc
    by_state (Kept acl) e = let t : is_reserved (Some it) ≡ true = rw e refl in cc
    by_state (Active acl) e = let t : is_active (Some it) ≡ true = rw e refl in cc

module _ (table : MailboxTable) (b : Server) where
  reserve_finds : (found : Option Record) (place : Location) → reserve_refusal table (Backend b) found place ≡ None → found ≡ None
  unfolding reserve_refusal
  reserve_finds found place e =
      let one = passed (not (is_server (Backend b) place)) _ _ e in
      let two = passed (is_active found) _ _ one.1 in
      let three = passed (is_reserved found) _ _ two.1 in no_record_is found two.0 three.0

  activate_finds : (found : Option Record) (place : Location) → activate_refusal table (Backend b) found place ≡ None → IsFreeFor b found
  unfolding activate_refusal
  activate_finds None place e = tt
  activate_finds (Some it) place e = at_sender b it.place (not_false (is_server (Backend b) it.place) (passed (not (is_server (Backend b) it.place)) _ _ e).0)

  here_if : (it : Record) → not (is_server (Backend b) it.place) ≡ false → is_same_server (it.place).server b ≡ true
  here_if it e = at_sender b it.place (not_false (is_server (Backend b) it.place) e)

  active_is : (it : Record) (s : State) → it.state ≡ s → not (is_active (Some it)) ≡ false → (acl : List ℕ) × (it.state ≡ Active acl)
  active_is it (Bare serial) e t = let f : not (is_active (Some it)) ≡ true = rw e refl in cc
  active_is it (Kept acl) e t = let f : not (is_active (Some it)) ≡ true = rw e refl in cc
  active_is it (Active acl) e t = (acl, e)

  deactivate_finds : (found : Option Record) (place : Location) → deactivate_refusal (Backend b) found place ≡ None
      → (was : Record) × (found ≡ Some was) × (is_same_server (was.place).server b ≡ true) × ((acl : List ℕ) × (was.state ≡ Active acl))
  unfolding deactivate_refusal
  deactivate_finds None place e = cc
  deactivate_finds (Some it) place e =
      let two = passed (not (is_server (Backend b) it.place) || not (is_server (Backend b) place)) _ _ e in
      let three = passed (not (is_active (Some it))) _ _ two.1 in
      (it, refl, here_if it (neither (not (is_server (Backend b) it.place)) (not (is_server (Backend b) place)) two.0).0, active_is it it.state refl three.0)

  delete_finds : (found : Option Record) → delete_refusal (Backend b) found ≡ None → IsHereIn b found
  unfolding delete_refusal
  delete_finds None e = cc
  delete_finds (Some it) e = here_if it (passed (not (is_server (Backend b) it.place)) _ _ e).0

  -- ---- by the command

  reserve_change : (m : Mailbox) (place : Location) → is_same_server place.server b ≡ true → Change table b (command.Reserve m place)
  unfolding reply_to reserve_reply
  reserve_change m place at = by_refusal (reserve_refusal table (Backend b) (record_at table m) place) refl
    where
      by_refusal : (r : Option Refusal) → reserve_refusal table (Backend b) (record_at table m) place ≡ r → Change table b (command.Reserve m place)
      by_refusal (Some why) e = nothing (ap (λ (r : Option Refusal). (reserve_by table m place r).entry) e)
      by_refusal None e =
          reserved m place refl at (reserve_finds (record_at table m) place e) (ap (λ (r : Option Refusal). (reserve_by table m place r).entry) e)

  activate_change : (m acl : Mailbox) (place : Location) → is_same_server place.server b ≡ true → Change table b (command.Activate m place acl)
  unfolding reply_to activate_reply
  activate_change m acl place at = by_refusal (activate_refusal table (Backend b) (record_at table m) place) refl
    where
      by_refusal : (r : Option Refusal) → activate_refusal table (Backend b) (record_at table m) place ≡ r → Change table b (command.Activate m place acl)
      by_refusal (Some why) e = nothing (ap (λ (r : Option Refusal). (activate_by (Backend b) m place acl r).entry) e)
      by_refusal None e =
          activated m place acl refl at (activate_finds (record_at table m) place e) (ap (λ (r : Option Refusal). (activate_by (Backend b) m place acl r).entry) e)

  deactivate_change : (m : Mailbox) (place : Location) → is_same_server place.server b ≡ true → Change table b (command.Deactivate m place)
  unfolding reply_to deactivate_reply
  deactivate_change m place at = by_refusal (deactivate_refusal (Backend b) (record_at table m) place) refl
    where
      by_refusal : (r : Option Refusal) → deactivate_refusal (Backend b) (record_at table m) place ≡ r → Change table b (command.Deactivate m place)
      by_refusal (Some why) e = nothing (ap (λ (r : Option Refusal). (deactivate_by m place r).entry) e)
      by_refusal None e =
          let found = deactivate_finds (record_at table m) place e in
          deactivated m place found.0 found.3.0 at found.1 found.2 found.3.1 (ap (λ (r : Option Refusal). (deactivate_by m place r).entry) e)

  delete_change : (m : Mailbox) → Change table b (command.Delete m)
  unfolding reply_to delete_reply
  delete_change m = by_refusal (delete_refusal (Backend b) (record_at table m)) refl
    where
      by_refusal : (r : Option Refusal) → delete_refusal (Backend b) (record_at table m) ≡ r → Change table b (command.Delete m)
      by_refusal (Some why) e = nothing (ap (λ (r : Option Refusal). (delete_by m r).entry) e)
      by_refusal None e = deleted m (delete_finds (record_at table m) e) (ap (λ (r : Option Refusal). (delete_by m r).entry) e)

  pub line_changes : (tag : Tag) (it : MCommand) (line : OpenLine) → backend_line b tag it ≡ Some line → Change table b it
  unfolding backend_line reply_to find_reply list_reply
  line_changes tag (command.Reserve m place) line e = reserve_change m place (if_so (is_same_server place.server b) (sent_reserve m) line e).0
  line_changes tag (command.Activate m place acl) line e = activate_change m acl place (if_so (is_same_server place.server b) (cond (is_asked tag) (sent_make m) (sent_again m)) line e).0
  line_changes tag (command.Deactivate m place) line e = deactivate_change m place (if_so (is_same_server place.server b) (sent_deactivate m) line e).0
  line_changes tag (command.Delete m) line e = delete_change m
  line_changes tag (command.Find m) line e = nothing refl
  line_changes tag (command.List prefix) line e = nothing refl
  line_changes tag command.Update line e = cc
  line_changes tag command.Noop line e = cc
  line_changes tag command.Logout line e = cc
