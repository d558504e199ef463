use Rattle.std.proofs.Common.{◌≡◌, ◌++◌}
use Rattle.mail_delta.specs.Notes.{gone_in}
use Rattle.mail_delta.proofs.notes.gone_in.Given as goal

abbrev pub invariant-loop-uid : goal.invariant-loop-uid
invariant-loop-uid l = l.gone ++ gone_in l.content l.uid-iterator ≡ gone_in l.content l.notes
