use Rattle.std.proofs.Common.{◌≡◌, ◌++◌}
use Rattle.mail_message.specs.RowOrder.{HaveNext}
use Rattle.mail_delta.specs.Notes.{changed_in}
use Rattle.mail_delta.proofs.notes.changed_in.Given as goal

abbrev pub invariant-loop-uid : goal.invariant-loop-uid
invariant-loop-uid l = record {
  changed : l.changed ++ changed_in l.content l.uid-iterator ≡ changed_in l.content l.notes;
  next : HaveNext l.changed;
}
