use Rattle.std.proofs.Common.{◌≡◌, ◌∙◌, None, refl, sym, subst}
use Rattle.std.specs.List.{AllByRecursion}
use Rattle.std.specs.Map.{keys_of}
use Rattle.std.specs.Ordering.{nat_cmp}
use Rattle.mur_base.specs.Map.{with_entry}
use Rattle.mail_message.specs.RowOrder.{HasNext}
use Rattle.mail_message.specs.Slots.{filled, HasPlace, IsKeyed}
use Rattle.mail_message.proofs.NextLaws.{next-with_entry}
use Rattle.mail_message.proofs.SlotChanges.{either, placed, keyed-with_entry, kept-with_entry, placed-with_entry, filled-reserved}
use Rattle.mail_message.proofs.slots.Slots.reserve.Goals as goal

pub invariant_of-self : goal.invariant_of-self
invariant_of-self c =
    let old = c.self.inside.map in
    let done = c.insert_empty in
    record {
      ordered = done.ensures.ordered;
      keyed = either IsKeyed done.result old (with_entry nat_cmp old c.args.uid None) done.new.map done.ensures.ok done.ensures.err
          (keyed-with_entry old c.args.uid None tt c.self.invariant.keyed) c.self.invariant.keyed;
      next = either (λ places. AllByRecursion HasNext (keys_of places)) done.result old (with_entry nat_cmp old c.args.uid None) done.new.map done.ensures.ok done.ensures.err
          (next-with_entry old c.args.uid None c.requires c.self.invariant.next) c.self.invariant.next;
    }

pub returns-clause-same : goal.returns-clause-same
returns-clause-same c =
    let old = c.self.inside.map in
    let done = c.insert_empty in
    rw (← c.self.view_is)
    (either (λ places. filled places ≡ filled old) done.result old (with_entry nat_cmp old c.args.uid None) done.new.map done.ensures.ok done.ensures.err
    (filled-reserved old c.args.uid (sym c.contains_key.ensures ∙ c.if-contains_key.false)) refl)

pub returns-clause-place : goal.returns-clause-place
returns-clause-place c =
    let old = c.self.inside.map in
    let done = c.insert_empty in
    placed done.result (with_entry nat_cmp old c.args.uid None) done.new.map c.args.uid done.ensures.ok (placed-with_entry old c.args.uid None)

pub returns-clause-kept : goal.returns-clause-kept
returns-clause-kept c q h =
    let old = c.self.inside.map in
    let done = c.insert_empty in
    let was : HasPlace old q = subst (λ places. HasPlace places q) (sym c.self.view_is) h in
    either (λ places. HasPlace places q) done.result old (with_entry nat_cmp old c.args.uid None) done.new.map done.ensures.ok done.ensures.err
    (kept-with_entry old c.args.uid None q was) was
