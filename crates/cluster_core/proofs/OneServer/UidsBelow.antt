-- The messages of a mailbox whose UIDs rise below UIDNEXT are below UIDNEXT.
use Rattle.std.proofs.Common.{ℕ, ◌+◌, ◌<◌, List, [], ◌∷◌, Option, None, Some, arith}
use Rattle.std.specs.Prelude.{All, IfSome}
use Rattle.std.proofs.lemmas.List.Elements.{All-cons, All-nil}
use Rattle.mail_message.specs.Boxes.{Content}
use Rattle.mail_message.specs.declared.message.Message.{Message}
use Rattle.mail_store.specs.Kept.{AreUidsBelowNext}
use Rattle.store_law.proofs.RisingStores.{Rises, RisesTo, rises_below}

below_is : (low next : ℕ) (messages : List Message) → RisesTo low messages next → All (λ (message : Message). message.uid < next) messages
below_is low next [] rises = All-nil (λ (message : Message). message.uid < next)
below_is low next (message ∷ messages) rises =
    All-cons (λ (m : Message). m.uid < next) message messages (omega (arith, rises_below (message.uid + 1) messages next rises.1))
    (below_is (message.uid + 1) next messages rises.1)

pub some_below : (found : Option Content) → IfSome found Rises → IfSome found AreUidsBelowNext
some_below None rises = tt
some_below (Some box) rises = below_is 0 box.next box.messages rises
