-- The UID of the last of some messages.
use Rattle.std.proofs.Common.{◌≡◌, ℕ, List, [], ◌∷◌, Option, None, Some, refl}
use Rattle.mail_message.specs.declared.message.Message.{Message}
use Rattle.node_record.specs.Held.{last_uid}

abbrev pub uid_of : List Message → Option ℕ
uid_of [] = None
uid_of (it ∷ messages) = Some (last_uid it.uid messages)

-- behind some that were there
abbrev pub last_of : Option ℕ → List Message → Option ℕ
last_of last [] = last
last_of last (it ∷ messages) = Some (last_uid it.uid messages)
