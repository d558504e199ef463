-- What operations on a mailbox keep of it.
use Rattle.std.specs.Prelude.{◌≡◌, ℕ, ◌<◌, ◌≤◌, Some, All}
use Rattle.mail_message.specs.Boxes.{Content, message_at}
use Rattle.mail_message.specs.declared.message.Message.{Message}

-- a mailbox's content may become this: UIDVALIDITY stays, and UIDNEXT doesn't fall (RFC 9051, 2.3.1.1)
abbrev pub IsLaterContent : Content → Content → Type 0
IsLaterContent content later = (later.serial ≡ content.serial) × (content.next ≤ later.next)

-- each message has a UID below UIDNEXT, as each new UID is above all that are there (RFC 9051, 2.3.1.1)
abbrev pub AreUidsBelowNext : Content → Type 0
AreUidsBelowNext content = All (λ (message : Message). message.uid < content.next) content.messages

-- each message stays at its UID, as it was
abbrev pub KeepsMessages : Content → Content → Type 0
KeepsMessages content later =
    (uid : ℕ) (message : Message) → message_at content.messages uid ≡ Some message → message_at later.messages uid ≡ Some message
