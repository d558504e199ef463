-- What the entries of a backend change leaves a UIDNEXT, where what they put does.
use Rattle.std.proofs.Common.{ℕ, List, [], ◌∷◌, ◌++◌, map}
use Rattle.std.specs.List.{AllByRecursion}
use Rattle.mail_message.specs.declared.change.Change.{Change}
use Rattle.mail_message.specs.declared.change.Change.TheVariants.{Put}
use Rattle.mail_message.specs.declared.message.Message.{Message}
use Rattle.mail_message.specs.declared.message.Row.{Row}
use Rattle.mail_message.specs.Boxes.{LeavesNext}
use Rattle.mail_message.specs.RowOrder.{HasNext}
use Rattle.node_record.specs.Held.{next_behind, puts, relabels, removals}

leaves_both : (messages : List Message) (more : List Change) → AllByRecursion (λ message. HasNext message.uid) messages → AllByRecursion LeavesNext more
    → AllByRecursion LeavesNext (map Put messages ++ more)
leaves_both [] more next leaves = leaves
leaves_both (message ∷ messages) more next leaves = (next.0, leaves_both messages more next.1 leaves)

leaves_behind : (messages : List Message) → AllByRecursion LeavesNext (next_behind messages)
leaves_behind [] = tt
leaves_behind (message ∷ messages) = (tt, tt)

pub leaves-puts : (messages : List Message) → AllByRecursion (λ message. HasNext message.uid) messages → AllByRecursion LeavesNext (puts messages)
leaves-puts messages next = leaves_both messages (next_behind messages) next (leaves_behind messages)

pub leaves-relabels : (rows : List Row) → AllByRecursion LeavesNext (relabels rows)
leaves-relabels [] = tt
leaves-relabels (row ∷ rows) = (tt, leaves-relabels rows)

pub leaves-removals : (uids : List ℕ) → AllByRecursion LeavesNext (removals uids)
leaves-removals [] = tt
leaves-removals (uid ∷ uids) = (tt, leaves-removals uids)
