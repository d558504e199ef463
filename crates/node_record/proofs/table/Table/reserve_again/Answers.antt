use Rattle.std.proofs.Common.{ℕ, refl, sym, ap, ◌∙◌}
use Rattle.std.specs.Ordering.{nat_cmp}
use Rattle.std.specs.Cmp.Lexicographic.{slice_cmp}
use Rattle.mur_base.specs.Map.{value_at}
use Rattle.node_record.specs.Table.{MailboxTable, Records, reserved_again}
use Rattle.node_record.proofs.TableLaw.{count_again}
use Rattle.node_record.proofs.table.Table.reserve_again.Goals as goal

abbrev built : Records → ℕ → ℕ → MailboxTable
built records serial mailboxes = record { records = records; serial = serial; mailboxes = mailboxes }

pub invariant_of-self : goal.invariant_of-self
invariant_of-self c =
    rw c.reserve_in.ensures
    (c.self.invariant ∙ sym (count_again c.self.inside.records c.args.name.now c.args.place (value_at (slice_cmp nat_cmp) c.self.inside.records c.args.name.now) refl))

pub returns : goal.returns
returns c =
    rw (c.reserve_in.ensures, ← c.self.view_is)
    (ap (λ (n : ℕ). built (reserved_again c.self.inside.records c.args.name.now c.args.place (value_at (slice_cmp nat_cmp) c.self.inside.records c.args.name.now)) c.self.inside.serial n)
    (c.self.invariant ∙ sym (count_again c.self.inside.records c.args.name.now c.args.place (value_at (slice_cmp nat_cmp) c.self.inside.records c.args.name.now) refl)))
