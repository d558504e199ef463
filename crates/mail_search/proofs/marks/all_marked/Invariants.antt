use Rattle.std.proofs.Common.{◌≡◌, ◌++◌, true, map, drop}
use Rattle.mail_search.proofs.marks.all_marked.Given as goal

abbrev pub invariant-loop-message : goal.invariant-loop-message
invariant-loop-message l = l.made.items ++ map (λ _. true) (drop l._message-index l.messages) ≡ map (λ _. true) l.messages
