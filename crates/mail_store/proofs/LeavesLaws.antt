-- What APPEND and STORE change leaves a UIDNEXT.
use Rattle.std.proofs.Common.{ℕ, ◌+◌, ◌<◌, ◌^◌, List, [], ◌∷◌, length, arith}
use Rattle.std.specs.List.{AllByRecursion}
use Rattle.mail_message.specs.declared.message.Message.{Message}
use Rattle.mail_message.specs.declared.message.Row.{Row}
use Rattle.mail_message.specs.Boxes.{LeavesNext}
use Rattle.mail_store.specs.Append.{puts_from}
use Rattle.mail_store.specs.Store.{flag_changes}

pub leaves-puts : (uid : ℕ) (messages : List Message) → uid + length messages < 2 ^ 32 → AllByRecursion LeavesNext (puts_from uid messages)
leaves-puts uid [] room = (tt, tt)
leaves-puts uid (message ∷ messages) room = (omega (arith, room), leaves-puts (uid + 1) messages (omega (arith, room)))

pub leaves-flags : (rows : List Row) → AllByRecursion LeavesNext (flag_changes rows)
leaves-flags [] = tt
leaves-flags (row ∷ rows) = (tt, leaves-flags rows)
