use Rattle.std.proofs.Common.{◌≡◌, ◌++◌, drop}
use Rattle.mail_message.specs.Sets.{set_at}
use Rattle.mur_model.proofs.named_rows.set_at.Given as goal

abbrev pub invariant-loop-part : goal.invariant-loop-part
invariant-loop-part l = l.made ++ set_at l.last (drop l.part-index l.set) ≡ set_at l.last l.set
