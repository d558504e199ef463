use Rattle.std.proofs.Common.{◌≡◌, ◌++◌, map, drop, length}
use Rattle.mail_message.specs.declared.message.Summary.{Summary}
use Rattle.mur_model.specs.Search.{number_at}
use Rattle.mur_model.proofs.commands.search.numbers_of.Given as goal

abbrev pub invariant-loop-message : goal.invariant-loop-message
invariant-loop-message l = record {
  numbers : l.numbers ++ map (λ (message : Summary). number_at l.rows message.uid) (drop l.message-index l.messages)
      ≡ map (λ (message : Summary). number_at l.rows message.uid) l.messages;
  length : length l.numbers ≡ l.message-index;
}
