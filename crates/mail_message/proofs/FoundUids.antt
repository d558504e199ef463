-- A message that is found has the UID that it was looked for by.
use Rattle.std.proofs.Common.{◌≡◌, ℕ, nat_eq, Bool, true, false, cond, List, [], ◌∷◌, Option, None, Some, refl, arith}
use Rattle.std.proofs.lemmas.Bool.Decides.{nat_tests}
use Rattle.mail_message.specs.Boxes.{message_at}
use Rattle.mail_message.specs.declared.message.Message.{Message}

abbrev pub IsOf : ℕ → Option Message → Type 0
IsOf uid None = Unit {0}
IsOf uid (Some message) = message.uid ≡ uid

of_by : (uid : ℕ) (message : Message) (rest : Option Message) (same : Bool) → nat_eq message.uid uid ≡ same → IsOf uid rest
    → IsOf uid (cond same (Some message) rest)
of_by uid message rest true is found = grind (arith, nat_tests, is)
of_by uid message rest false is found = found

pub found_is : (messages : List Message) (uid : ℕ) → IsOf uid (message_at messages uid)
found_is [] uid = tt
found_is (message ∷ messages) uid = of_by uid message (message_at messages uid) (nat_eq message.uid uid) refl (found_is messages uid)
