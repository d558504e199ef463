use Rattle.std.proofs.Common.{◌≡◌, ◌++◌, map, drop}
use Rattle.mail_message.specs.declared.message.Summary.{Summary}
use Rattle.mail_search.proofs.marks.uids_of.Given as goal

abbrev pub invariant-loop-message : goal.invariant-loop-message
invariant-loop-message l =
    l.uids.items ++ map (λ (message : Summary). message.uid) (drop l.message-index l.messages) ≡ map (λ (message : Summary). message.uid) l.messages
