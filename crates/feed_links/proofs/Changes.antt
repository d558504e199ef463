-- Each change of the table, and what a replica of it makes of the line that tells it.
use Rattle.std.proofs.Common.{◌≡◌, ℕ, ◌+◌, Bool, true, false, not, List, [], ◌∷◌, Option, None, Some, refl, sym, ap, ◌∙◌, subst}
use Rattle.std.specs.Prelude.{◌==◌, ◌||◌}
use Rattle.feed_core.specs.Feed.{recs_after, reserved, reserved_in, replica_after}
use Rattle.master_core.specs.declared.refusal.Refusal.{Refusal}
use Rattle.master_core.specs.declared.refusal.Refusal.TheVariants as refusal
use Rattle.master_core.specs.declared.sender.Sender.{Sender}
use Rattle.master_core.specs.Changes.{change_line}
use Rattle.master_core.specs.Refusals.{first_of, is_active_state, reserve_refusal, activate_refusal, deactivate_refusal, delete_refusal, is_elsewhere, is_active}
use Rattle.master_core.specs.Replies.{reply_to, reserve_by, activate_by, deactivate_by, delete_by, reserve_reply, activate_reply, deactivate_reply, delete_reply}
use Rattle.master_core.specs.Replies.{find_reply, list_reply, update_reply, noop_reply, logout_reply}
use Rattle.master_core.specs.Senders.{is_backend, is_server}
use Rattle.mupdate_codec.specs.declared.command.MCommand.{MCommand}
use Rattle.mupdate_codec.specs.declared.command.MCommand.TheVariants as command
use Rattle.mur_base.specs.declared.home.Location.{Location}
use Rattle.mur_base.specs.Map.{with_value}
use Rattle.node_record.specs.declared.master.MasterRecord.{MasterRecord}
use Rattle.node_record.specs.declared.master.MasterRecord.TheVariants as entry
use Rattle.node_record.specs.declared.table.Record.{Record}
use Rattle.node_record.specs.declared.table.State.{State}
use Rattle.node_record.specs.declared.table.State.TheVariants.{Bare, Kept, Active}
use Rattle.node_record.specs.Table.{MailboxTable, record_at, moved, kept_state, reserved_again, table_after}
use Rattle.std.specs.Ordering.{nat_cmp}
use Rattle.std.specs.Cmp.Lexicographic.{slice_cmp}
use Rattle.feed_links.specs.Replicas.{rec_by, recs_of, replica_of}
use Rattle.feed_links.proofs.Entries.{recs, none_there, one_there, entry_put, value_put, entry_gone}

-- a command changes the record of its name: RESERVE only where there is none, DEACTIVATE only where there is one
pub data MakesChange (table : MailboxTable) : MCommand → MasterRecord → Type 0 where
  reserves : (name : List ℕ) (place : Location) (serial : ℕ) → record_at table name ≡ None
      → MakesChange table (command.Reserve name place) (entry.Reserved name place serial)
  activates : (name : List ℕ) (place : Location) (acl : List ℕ) → MakesChange table (command.Activate name place acl) (entry.Active name place acl)
  deactivates : (name : List ℕ) (place : Location) (it : Record) → record_at table name ≡ Some it
      → MakesChange table (command.Deactivate name place) (entry.Inactive name place)
  deletes : (name : List ℕ) → MakesChange table (command.Delete name) (entry.Deleted name)

-- a name with a record isn't reserved
reserved_by : (backend server active spent : Bool) → first_of (
    (not backend, refusal.NotYours) ∷ (not server, refusal.NotYours) ∷ (active, refusal.Exists) ∷ (not active, refusal.Reserved) ∷ (spent, refusal.SerialsSpent) ∷ []) ≡ None → ⊥
reserved_by false server active spent e = cc
reserved_by true false active spent e = cc
reserved_by true true true spent e = cc
reserved_by true true false spent e = cc

none_reserved : (table : MailboxTable) (from : Sender) (found : Option Record) (place : Location) → reserve_refusal table from found place ≡ None → found ≡ None
unfolding reserve_refusal
none_reserved table from None place e = refl
none_reserved table from (Some it) place e =
    absurd (reserved_by (is_backend from) (is_server from place) (is_active_state it.state) (table.serial == 4294967295) e)

-- a name without a record isn't deactivated
deactivated_by : (backend : Bool) (rest : List (Bool × Refusal)) → first_of ((not backend, refusal.NotYours) ∷ (true, refusal.NoSuchName) ∷ rest) ≡ None → ⊥
deactivated_by false rest e = cc
deactivated_by true rest e = cc

one_deactivated : (from : Sender) (found : Option Record) (place : Location) → deactivate_refusal from found place ≡ None → (it : Record) × (found ≡ Some it)
unfolding deactivate_refusal
one_deactivated from None place e =
    absurd (deactivated_by (is_backend from) ((is_elsewhere from None || not (is_server from place), refusal.NotYours) ∷ (not (is_active None), refusal.NotActive) ∷ []) e)
one_deactivated from (Some it) place e = (it, refl)

module _ (table : MailboxTable) (from : Sender) (change : MasterRecord) where
  is_change : {it : MCommand} (made : MasterRecord) → MakesChange table it made → (let o : Option MasterRecord = Some made in o ≡ Some change) → MakesChange table it change
  is_change {it} made makes e = (let same : made ≡ change = cc in subst (MakesChange table it) same makes)

  no_change : {A : Type 0} → (let o : Option MasterRecord = None in o ≡ Some change) → A
  no_change e = cc

  by_reserve : (name : List ℕ) (place : Location) (why : Option Refusal) → reserve_refusal table from (record_at table name) place ≡ why
      → (reserve_by table name place why).entry ≡ Some change → MakesChange table (command.Reserve name place) change
  by_reserve name place (Some why) is e = no_change e
  by_reserve name place None is e =
      is_change (entry.Reserved name place (table.serial + 1)) (reserves name place (table.serial + 1) (none_reserved table from (record_at table name) place is)) e

  by_activate : (name : List ℕ) (place : Location) (acl : List ℕ) (why : Option Refusal) → (activate_by from name place acl why).entry ≡ Some change
      → MakesChange table (command.Activate name place acl) change
  by_activate name place acl (Some why) e = no_change e
  by_activate name place acl None e = is_change (entry.Active name place acl) (activates name place acl) e

  by_deactivate : (name : List ℕ) (place : Location) (why : Option Refusal) → deactivate_refusal from (record_at table name) place ≡ why
      → (deactivate_by name place why).entry ≡ Some change → MakesChange table (command.Deactivate name place) change
  by_deactivate name place (Some why) is e = no_change e
  by_deactivate name place None is e =
      let found = one_deactivated from (record_at table name) place is in is_change (entry.Inactive name place) (deactivates name place found.0 found.1) e

  by_delete : (name : List ℕ) (why : Option Refusal) → (delete_by name why).entry ≡ Some change → MakesChange table (command.Delete name) change
  by_delete name (Some why) e = no_change e
  by_delete name None e = is_change (entry.Deleted name) (deletes name) e

  -- each change that a reply makes is one of these
  pub makes_change : (it : MCommand) → (reply_to table from it).entry ≡ Some change → MakesChange table it change
  unfolding reply_to reserve_reply activate_reply deactivate_reply delete_reply find_reply list_reply update_reply noop_reply logout_reply
  makes_change (command.Reserve name place) e = by_reserve name place (reserve_refusal table from (record_at table name) place) refl e
  makes_change (command.Activate name place acl) e = by_activate name place acl (activate_refusal table from (record_at table name) place) e
  makes_change (command.Deactivate name place) e = by_deactivate name place (deactivate_refusal from (record_at table name) place) refl e
  makes_change (command.Delete name) e = by_delete name (delete_refusal from (record_at table name)) e
  makes_change (command.Find name) e = no_change e
  makes_change (command.List prefix) e = no_change e
  makes_change command.Update e = no_change e
  makes_change command.Noop e = no_change e
  makes_change command.Logout e = no_change e

-- a record that is reserved at a place, in the table and in a replica
moved_rec : (place there : Location) (it : State) → rec_by place (kept_state it) ≡ reserved place (rec_by there it)
moved_rec place there (Bare serial) = refl
moved_rec place there (Kept acl) = refl
moved_rec place there (Active acl) = refl

-- the records after the line
heard_recs : (table : MailboxTable) (it : MCommand) (change : MasterRecord) → MakesChange table it change
    → recs_after (recs_of table) (change_line change) ≡ recs_of (table_after table change)
heard_recs table it change (reserves name place serial none) =
    ap (reserved_in (recs_of table) name place) (none_there table.records name none) ∙ sym (entry_put table.records name (record { place = place; state = Bare serial }))
heard_recs table it change (activates name place acl) = sym (entry_put table.records name (record { place = place; state = Active acl }))
heard_recs table it change (deactivates name place was there) =
    ap (reserved_in (recs_of table) name place) (one_there table.records name was there)
    ∙ ap (with_value (slice_cmp nat_cmp) (recs_of table) name) (sym (moved_rec place was.place was.state))
    ∙ sym (value_put table.records name (moved place was))
    ∙ ap (λ found. recs (reserved_again table.records name place found)) (sym there)
heard_recs table it change (deletes name) = sym (entry_gone table.records name)

-- the line changes neither that a replica is whole
whole_stays : (table : MailboxTable) (it : MCommand) (change : MasterRecord) → MakesChange table it change
    → (replica_after (replica_of table) (change_line change)).whole ≡ true
whole_stays table it change (reserves name place serial none) = refl
whole_stays table it change (activates name place acl) = refl
whole_stays table it change (deactivates name place was there) = refl
whole_stays table it change (deletes name) = refl

-- the replica of a table, after the line of a change, is that of the table after it
pub change_heard : (table : MailboxTable) (it : MCommand) (change : MasterRecord) → MakesChange table it change
    → replica_after (replica_of table) (change_line change) ≡ replica_of (table_after table change)
change_heard table it change makes =
    ap (λ w. record { records = recs_after (recs_of table) (change_line change); whole = w }) (whole_stays table it change makes)
    ∙ ap (λ r. record { records = r; whole = true }) (heard_recs table it change makes)
