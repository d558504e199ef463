-- What a line makes of the state of each name at its backend, and that it makes nothing of those at another one.
use Rattle.std.proofs.Common.{◌≡◌, ◌≢◌, ◌⊎◌, inl, inr, ℕ, ◌+◌, Bool, true, false, cond, List, Option, None, Some, refl, sym, ap, subst, ◌∙◌}
use Rattle.std.specs.Ordering.{nat_cmp}
use Rattle.std.specs.Cmp.Lexicographic.{slice_cmp}
use Rattle.mur_base.specs.Map.{value_at, IsInOrder}
use Rattle.mur_base.proofs.MapLaws.{names_apart, same_or_other, value_at-with_entry, value_at-with_entry-other, value_at-with_value, value_at-with_value-other}
use Rattle.mur_base.specs.declared.home.Location.{Location}
use Rattle.mupdate_codec.specs.declared.command.MCommand.{MCommand}
use Rattle.mupdate_codec.specs.declared.command.MCommand.TheVariants as command
use Rattle.node_record.specs.declared.master.MasterRecord.{MasterRecord}
use Rattle.node_record.specs.declared.master.MasterRecord.TheVariants as entry
use Rattle.node_record.specs.declared.table.State.{State}
use Rattle.node_record.specs.declared.table.State.TheVariants.{Bare, Kept, Active}
use Rattle.node_record.specs.declared.table.Record.{Record}
use Rattle.node_record.specs.Table.{Records, MailboxTable, record_at, kept_state, moved, reserved_again, table_after}
use Rattle.master_core.specs.Servers.{name_of}
use Rattle.master_core.specs.Step.{table_with}
use Rattle.home_law.specs.Items.{Server, is_same_server}
use Rattle.home_law.specs.ManyNames.{Mailbox}
use Rattle.home_law.proofs.SameName.{is_the_same, is_another}
use Rattle.name_flows.proofs.NameMaps.{value_at-without_key-same, value_at-without_key-other}
use Rattle.name_links.specs.Contents.{state_by, state_at}
use Rattle.name_links.specs.OneLink.{table_by}
use Rattle.name_links.proofs.TableTurn.{entry_of, IsFreeFor, IsHereIn, Change, nothing, reserved, activated, deactivated, deleted}

-- ---- records after an entry

pub own_reserved : (table : MailboxTable) (m : Mailbox) (place : Location) (serial : ℕ)
    → record_at (table_after table (entry.Reserved m place serial)) m ≡ Some (record { place = place; state = Bare serial })
own_reserved table m place serial = value_at-with_entry (slice_cmp nat_cmp) names_apart table.records m _

pub own_active : (table : MailboxTable) (m : Mailbox) (place : Location) (acl : List ℕ)
    → record_at (table_after table (entry.Active m place acl)) m ≡ Some (record { place = place; state = Active acl })
own_active table m place acl = value_at-with_entry (slice_cmp nat_cmp) names_apart table.records m _

pub own_kept : (table : MailboxTable) (m : Mailbox) (place : Location) (was : Record) → record_at table m ≡ Some was
    → record_at (table_after table (entry.Inactive m place)) m ≡ Some (moved place was)
own_kept table m place was there = rw there (value_at-with_value (slice_cmp nat_cmp) names_apart table.records m (moved place was) was there)

pub own_deleted : (table : MailboxTable) (m : Mailbox) → IsInOrder (slice_cmp nat_cmp) table.records → record_at (table_after table (entry.Deleted m)) m ≡ None
own_deleted table m order = value_at-without_key-same table.records m order

moved_other : (records : Records) (m n : Mailbox) (place : Location) (it : Option Record) → n ≢ m
    → value_at (slice_cmp nat_cmp) (reserved_again records m place it) n ≡ value_at (slice_cmp nat_cmp) records n
moved_other records m n place None ne = refl
moved_other records m n place (Some it) ne = value_at-with_value-other (slice_cmp nat_cmp) names_apart records m n (moved place it) ne

pub record_other : (table : MailboxTable) (e : MasterRecord) (n : Mailbox) → n ≢ name_of e → IsInOrder (slice_cmp nat_cmp) table.records
    → record_at (table_after table e) n ≡ record_at table n
record_other table (entry.Reserved m place serial) n ne order = value_at-with_entry-other (slice_cmp nat_cmp) names_apart table.records m n _ ne
record_other table (entry.Active m place acl) n ne order = value_at-with_entry-other (slice_cmp nat_cmp) names_apart table.records m n _ ne
record_other table (entry.Inactive m place) n ne order = moved_other table.records m n place (record_at table m) ne
record_other table (entry.Deleted m) n ne order = value_at-without_key-other table.records m n (λ e. ne (sym e)) order

-- ---- the state of a name at its server

pub state_here : (b : Server) (it : Record) → is_same_server (it.place).server b ≡ true → state_by b (Some it) ≡ Some it.state
state_here b it e = ap (λ (t : Bool). cond t (Some it.state) None) e

-- the table after an entry
pub table_is : (table : MailboxTable) (b : Server) (it : MCommand) (made : Option MasterRecord) → entry_of table b it ≡ made → table_by table b it ≡ table_with table made
table_is table b it made e = ap (λ (m : Option MasterRecord). table_with table m) e

-- what becomes of it
pub data StateTurn (serial : ℕ) (it : MCommand) (made : Option MasterRecord) (n : Mailbox) (old new : Option State) : Type 0 where
  as_was : new ≡ old → StateTurn serial it made n old new
  now_bare : (place : Location) → it ≡ command.Reserve n place → old ≡ None → new ≡ Some (Bare (serial + 1)) → StateTurn serial it made n old new
  now_active : (place : Location) (acl : List ℕ) → it ≡ command.Activate n place acl → made ≡ Some (entry.Active n place acl) → new ≡ Some (Active acl)
      → StateTurn serial it made n old new
  now_kept : (acl : List ℕ) → old ≡ Some (Active acl) → new ≡ Some (Kept acl) → StateTurn serial it made n old new
  now_none : new ≡ None → StateTurn serial it made n old new

module _ (table : MailboxTable) (order : IsInOrder (slice_cmp nat_cmp) table.records) (b : Server) (it : MCommand) where
  abbrev Turns : Mailbox → Type 0
  Turns n = StateTurn table.serial it (entry_of table b it) n (state_at table b n) (state_at (table_by table b it) b n)

  others_stay : (e : MasterRecord) (n : Mailbox) → n ≢ name_of e → entry_of table b it ≡ Some e → Turns n
  others_stay e n ne made = let after = table_is table b it (Some e) made in as_was (ap (λ (t : MailboxTable). state_at t b n) after ∙ ap (state_by b) (record_other table e n ne order))

  by_entry : (e : MasterRecord) → entry_of table b it ≡ Some e → Turns (name_of e) → (n : Mailbox) → Turns n
  by_entry e made own n = by_name (same_or_other (slice_cmp nat_cmp) names_apart n (name_of e))
    where
      by_name : (n ≡ name_of e) ⊎ (n ≢ name_of e) → Turns n
      by_name (inl same) = subst (λ (k : Mailbox). Turns k) (sym same) own
      by_name (inr ne) = others_stay e n ne made

  kept_is : (was : Record) (acl : List ℕ) → was.state ≡ Active acl → kept_state was.state ≡ Kept acl
  kept_is was acl e = ap (λ (s : State). kept_state s) e

  pub state_turns : Change table b it → (n : Mailbox) → Turns n
  state_turns (nothing made) n = as_was (ap (λ (t : MailboxTable). state_at t b n) (table_is table b it None made))
  state_turns (reserved m place is at none made) n =
      by_entry (entry.Reserved m place (table.serial + 1)) made
      (now_bare place is (ap (state_by b) none)
      (ap (λ (t : MailboxTable). state_at t b m) (table_is table b it _ made) ∙ ap (state_by b) (own_reserved table m place (table.serial + 1)) ∙ state_here b (record { place = place; state = Bare (table.serial + 1) }) at)) n
  state_turns (activated m place acl is at free made) n =
      by_entry (entry.Active m place acl) made
      (now_active place acl is made
      (ap (λ (t : MailboxTable). state_at t b m) (table_is table b it _ made) ∙ ap (state_by b) (own_active table m place acl) ∙ state_here b (record { place = place; state = Active acl }) at)) n
  state_turns (deactivated m place was acl at there here active made) n =
      by_entry (entry.Inactive m place) made
      (now_kept acl (ap (state_by b) there ∙ state_here b was here ∙ ap Some active)
      (ap (λ (t : MailboxTable). state_at t b m) (table_is table b it _ made) ∙ ap (state_by b) (own_kept table m place was there) ∙ state_here b (moved place was) at ∙ ap Some (kept_is was acl active))) n
  state_turns (deleted m here made) n =
      by_entry (entry.Deleted m) made (now_none (ap (λ (t : MailboxTable). state_at t b m) (table_is table b it _ made) ∙ ap (state_by b) (own_deleted table m order))) n

-- ---- the states at another server

module _ (q b : Server) (ne : q ≢ b) where
  apart : (s : Server) → is_same_server s q ≡ true → is_same_server s b ≡ false
  apart s e = subst (λ (z : Server). is_same_server z b ≡ false) (sym (is_the_same s q e)) (is_another q b ne)

  state_away : (it : Record) → is_same_server (it.place).server q ≡ true → state_by b (Some it) ≡ None
  state_away it e = ap (λ (t : Bool). cond t (Some it.state) None) (apart (it.place).server e)

  free_away : (found : Option Record) → IsFreeFor q found → state_by b found ≡ None
  free_away None f = refl
  free_away (Some it) f = state_away it f

  here_away : (found : Option Record) → IsHereIn q found → state_by b found ≡ None
  here_away None f = absurd f
  here_away (Some it) f = state_away it f

  module _ (table : MailboxTable) (order : IsInOrder (slice_cmp nat_cmp) table.records) (it : MCommand) where
    abbrev Stays : Mailbox → Type 0
    Stays n = state_at (table_by table q it) b n ≡ state_at table b n

    one_stays : (e : MasterRecord) → entry_of table q it ≡ Some e → state_by b (record_at (table_after table e) (name_of e)) ≡ state_at table b (name_of e) → (n : Mailbox) → Stays n
    one_stays e made own n = by_name (same_or_other (slice_cmp nat_cmp) names_apart n (name_of e))
      where
        by_name : (n ≡ name_of e) ⊎ (n ≢ name_of e) → Stays n
        by_name (inl same) = subst (λ (k : Mailbox). Stays k) (sym same) (ap (λ (t : MailboxTable). state_at t b (name_of e)) (table_is table q it (Some e) made) ∙ own)
        by_name (inr other) = ap (λ (t : MailboxTable). state_at t b n) (table_is table q it (Some e) made) ∙ ap (state_by b) (record_other table e n other order)

    -- a line of another backend leaves them
    pub states_stay : Change table q it → (n : Mailbox) → Stays n
    states_stay (nothing made) n = ap (λ (t : MailboxTable). state_at t b n) (table_is table q it None made)
    states_stay (reserved m place is at none made) n =
        one_stays (entry.Reserved m place (table.serial + 1)) made
        (ap (state_by b) (own_reserved table m place (table.serial + 1)) ∙ state_away (record { place = place; state = Bare (table.serial + 1) }) at ∙ sym (ap (state_by b) none)) n
    states_stay (activated m place acl is at free made) n =
        one_stays (entry.Active m place acl) made
        (ap (state_by b) (own_active table m place acl) ∙ state_away (record { place = place; state = Active acl }) at ∙ sym (free_away (record_at table m) free)) n
    states_stay (deactivated m place was acl at there here active made) n =
        one_stays (entry.Inactive m place) made
        (ap (state_by b) (own_kept table m place was there) ∙ state_away (moved place was) at ∙ sym (ap (state_by b) there ∙ state_away was here)) n
    states_stay (deleted m here made) n =
        one_stays (entry.Deleted m) made (ap (state_by b) (own_deleted table m order) ∙ sym (here_away (record_at table m) here)) n
