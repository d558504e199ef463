-- A table that can be told can be told after each change.
use Rattle.std.proofs.Common.{◌≡◌, ℕ, Bool, true, false, cond, List, [], ◌∷◌, Option, None, Some, refl, sym, ap, subst}
use Rattle.std.specs.declared.cmp.Ordering.{Ordering}
use Rattle.std.specs.declared.cmp.Ordering.TheVariants.{Less, Equal, Greater}
use Rattle.std.specs.List.{AllByRecursion}
use Rattle.std.specs.Ordering.{is_eq, nat_cmp, match_ordering}
use Rattle.std.specs.Cmp.Lexicographic.{slice_cmp}
use Rattle.std.proofs.lemmas.Cmp.{nat_list_cmp_total}
use Rattle.master_core.specs.declared.master.Master.{Master}
use Rattle.master_core.specs.declared.sender.Sender.{Sender}
use Rattle.master_core.specs.Replies.{reply_to, bad_reply}
use Rattle.master_core.specs.Step.{Planned, replied, bad_step, table_with}
use Rattle.master_core.specs.Streams.{stream_step}
use Rattle.mupdate_codec.specs.declared.command.MCommand.{MCommand}
use Rattle.mur_base.specs.Map.{with_entry, with_value, without_key, IsInOrder}
use Rattle.mur_base.proofs.MapOrder.{with_entry-in_order, with_value-in_order}
use Rattle.node_record.specs.declared.master.MasterRecord.{MasterRecord}
use Rattle.node_record.specs.declared.table.Record.{Record}
use Rattle.node_record.specs.declared.table.State.{State}
use Rattle.node_record.specs.declared.table.State.TheVariants.{Bare, Kept, Active}
use Rattle.node_record.specs.Table.{MailboxTable, Records, record_at, kept_state, moved, reserved_again, table_after}
use Rattle.feed_links.specs.Spelled.{IsSpelledRecord, HasSpelledAcl, CanBeTold}
use Rattle.feed_links.specs.Streams.{TablesCanBeTold}
use Rattle.feed_links.proofs.Arguments.{HasArguments}
use Rattle.feed_links.proofs.Changes.{MakesChange, reserves, activates, deactivates, deletes, makes_change}
use Rattle.feed_links.proofs.Names.{found_has, order_kept}
use Rattle.feed_links.proofs.Steps.{StepIs, is_bad, is_taken, step_is, settled_table}

abbrev AreSpelled : Records → Type 0
AreSpelled records = AllByRecursion IsSpelledRecord records

-- changes of the records

-- the name of an entry that is there
with_name : (one other : List ℕ) (was it : Record) → IsSpelledRecord (one, was) → IsSpelledRecord (other, it) → IsSpelledRecord (one, it)
with_name one other was it here new = record { name = here.name; place = new.place; acl = new.acl }

module _ (k : List ℕ) (it : Record) (new : IsSpelledRecord (k, it)) where
  put_by : (e : List ℕ × Record) (es : Records) → AreSpelled (e ∷ es) → AreSpelled (with_entry (slice_cmp nat_cmp) es k it)
      → (o : Ordering) → AreSpelled (match_ordering o ((k, it) ∷ e ∷ es) ((e.0, it) ∷ es) (e ∷ with_entry (slice_cmp nat_cmp) es k it))
  put_by e es all more Less = (new, all)
  put_by e es all more Equal = (with_name e.0 k e.1 it all.0 new, all.1)
  put_by e es all more Greater = (all.0, more)

  put_spelled : (es : Records) → AreSpelled es → AreSpelled (with_entry (slice_cmp nat_cmp) es k it)
  put_spelled [] all = (new, tt)
  put_spelled (e ∷ es) all = put_by e es all (put_spelled es all.1) (slice_cmp nat_cmp k e.0)

  value_by : (e : List ℕ × Record) (es rest : Records) (same : Bool) → AreSpelled (e ∷ es) → AreSpelled rest → AreSpelled (cond same ((e.0, it) ∷ es) (e ∷ rest))
  value_by e es rest true all more = (with_name e.0 k e.1 it all.0 new, all.1)
  value_by e es rest false all more = (all.0, more)

  value_spelled : (es : Records) → AreSpelled es → AreSpelled (with_value (slice_cmp nat_cmp) es k it)
  value_spelled [] all = tt
  value_spelled (e ∷ es) all = value_by e es (with_value (slice_cmp nat_cmp) es k it) (is_eq (slice_cmp nat_cmp k e.0)) all (value_spelled es all.1)

gone_by : (e : List ℕ × Record) (es rest : Records) (same : Bool) → AreSpelled (e ∷ es) → AreSpelled rest → AreSpelled (cond same es (e ∷ rest))
gone_by e es rest true all more = all.1
gone_by e es rest false all more = (all.0, more)

gone_spelled : (k : List ℕ) (es : Records) → AreSpelled es → AreSpelled (without_key (slice_cmp nat_cmp) es k)
gone_spelled k [] all = tt
gone_spelled k (e ∷ es) all = gone_by e es (without_key (slice_cmp nat_cmp) es k) (is_eq (slice_cmp nat_cmp k e.0)) all (gone_spelled k es all.1)

-- the access list stays
kept_acl : (it : State) → HasSpelledAcl it → HasSpelledAcl (kept_state it)
kept_acl (Bare serial) has = has
kept_acl (Kept acl) has = has
kept_acl (Active acl) has = has

-- entries
change_told : (table : MailboxTable) (it : MCommand) (change : MasterRecord) → CanBeTold table → MakesChange table it change → HasArguments it
    → CanBeTold (table_after table change)
change_told table it change can (reserves name place serial none) has = record {
  order = with_entry-in_order (slice_cmp nat_cmp) nat_list_cmp_total table.records name (record { place = place; state = Bare serial }) can.order;
  spelled = put_spelled name (record { place = place; state = Bare serial }) (record { name = has.0; place = has.1; acl = tt }) table.records can.spelled;
}
change_told table it change can (activates name place acl) has = record {
  order = with_entry-in_order (slice_cmp nat_cmp) nat_list_cmp_total table.records name (record { place = place; state = Active acl }) can.order;
  spelled = put_spelled name (record { place = place; state = Active acl }) (record { name = has.0; place = has.1; acl = has.2 }) table.records can.spelled;
}
change_told table it change can (deactivates name place was there) has =
    let again : Records = with_value (slice_cmp nat_cmp) table.records name (moved place was) in
    let is : again ≡ reserved_again table.records name place (record_at table name) = ap (reserved_again table.records name place) (sym there) in
    let old : IsSpelledRecord (name, was) = found_has IsSpelledRecord table.records name was can.spelled there in
    record {
      order = subst (IsInOrder (slice_cmp nat_cmp)) is (with_value-in_order (slice_cmp nat_cmp) table.records name (moved place was) can.order);
      spelled = subst AreSpelled is
          (value_spelled name (moved place was) (record { name = has.0; place = has.1; acl = kept_acl was.state old.acl }) table.records can.spelled);
    }
change_told table it change can (deletes name) has =
    record { order = order_kept name table.records can.order; spelled = gone_spelled name table.records can.spelled }

made_told : (table : MailboxTable) (it : MCommand) (made : Option MasterRecord) → CanBeTold table → HasArguments it
    → ((change : MasterRecord) → made ≡ Some change → MakesChange table it change) → CanBeTold (table_with table made)
made_told table it None can has makes = can
made_told table it (Some change) can has makes = change_told table it change can (makes change refl) has

told_by : (master : Master) (from : Sender) (next : Planned) → CanBeTold master.table → StepIs master from next → CanBeTold next.master.table
unfolding bad_step bad_reply replied
told_by master from next can (is_bad tag tagged) = can
told_by master from next can (is_taken tag it tagged has may) =
    subst CanBeTold (sym (settled_table (replied master from tag (reply_to master.table from it)) from tag (stream_step it)))
    (made_told master.table it (reply_to master.table from it).entry can has (λ change. makes_change master.table from change it))

pub tables_can_be_told : TablesCanBeTold
tables_can_be_told master from line can = told_by master from _ can (step_is master from line)
