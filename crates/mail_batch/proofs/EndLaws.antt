-- The same of whole mailboxes: with the changes left, and with the giver's UIDNEXT, the taker's mailbox is the giver's.
use Rattle.std.proofs.Common.{◌≡◌, ℕ, List, [], ◌∷◌, refl, sym, ◌∙◌, subst}
use Rattle.std.specs.List.{fold}
use Rattle.mail_message.specs.declared.message.Message.{Message}
use Rattle.mail_message.specs.declared.change.Change.{Change}
use Rattle.mail_message.specs.Boxes.{Content, messages_after, content_after, content_after_all, IsRising}
use Rattle.mail_batch.specs.Sweeps.{SweepState, changes_left, batch_of, after_sending_all}
use Rattle.mail_batch.proofs.Agreement.{Agrees}
use Rattle.mail_batch.proofs.SentLaws.{left-makes, agrees-batch}
use Rattle.mail_batch.proofs.RisingLaws.{rising-after_all}

pub messages-after_all : (box : Content) (changes : List Change) → (content_after_all box changes).messages ≡ fold messages_after box.messages changes
messages-after_all box [] = refl
messages-after_all box (change ∷ changes) = messages-after_all (content_after box change) changes

pub serial-after_all : (box : Content) (changes : List Change) → (content_after_all box changes).serial ≡ box.serial
serial-after_all box [] = refl
serial-after_all box (change ∷ changes) = serial-after_all (content_after box change) changes

pub acl-after_all : (box : Content) (changes : List Change) → (content_after_all box changes).acl ≡ box.acl
acl-after_all box [] = refl
acl-after_all box (change ∷ changes) = acl-after_all (content_after box change) changes

pub rising-content : (box : Content) (changes : List Change) → IsRising box.messages → IsRising (content_after_all box changes).messages
rising-content box changes rising = subst IsRising (sym (messages-after_all box changes)) (rising-after_all box.messages changes rising)

abbrev content_of : ℕ → ℕ → List ℕ → List Message → Content
content_of serial next acl messages = record { serial = serial; next = next; acl = acl; messages = messages }

content_by : (serial other_serial next : ℕ) (acl other_acl : List ℕ) (messages others : List Message) → serial ≡ other_serial → acl ≡ other_acl
    → messages ≡ others
    → content_of serial next acl messages ≡ content_of other_serial next other_acl others
content_by serial other_serial next acl other_acl messages others s a m = rw (s, a, m) refl

-- the changes left make the taker's mailbox the giver's
pub left-makes-content : (sweep : SweepState) (giver taken : Content) → Agrees sweep giver.messages taken.messages
    → IsRising giver.messages → IsRising taken.messages → taken.serial ≡ giver.serial → taken.acl ≡ giver.acl
    → record (content_after_all taken (changes_left sweep giver.messages)) { next = giver.next } ≡ giver
left-makes-content sweep giver taken agrees rising taken_rises serial acl =
    content_by _ giver.serial giver.next _ giver.acl _ giver.messages
    (serial-after_all taken (changes_left sweep giver.messages) ∙ serial)
    (acl-after_all taken (changes_left sweep giver.messages) ∙ acl)
    (messages-after_all taken (changes_left sweep giver.messages) ∙ left-makes sweep giver.messages taken.messages agrees rising taken_rises)

-- if nothing is left, both are the same
pub nothing-left-is-content : (sweep : SweepState) (giver taken : Content) → Agrees sweep giver.messages taken.messages
    → IsRising giver.messages → IsRising taken.messages → taken.serial ≡ giver.serial → taken.acl ≡ giver.acl → sweep.left ≡ []
    → record taken { next = giver.next } ≡ giver
nothing-left-is-content sweep giver taken agrees rising taken_rises serial acl none =
    content_by taken.serial giver.serial giver.next taken.acl giver.acl taken.messages giver.messages serial acl
    (subst (λ left. fold messages_after taken.messages (changes_left (record { left = left; known = sweep.known }) giver.messages) ≡ giver.messages) none
    (left-makes sweep giver.messages taken.messages agrees rising taken_rises))

-- a batch that is sent
pub agrees-content : (sweep : SweepState) (messages : List Message) (taken : Content) → Agrees sweep messages taken.messages
    → Agrees (after_sending_all sweep (batch_of sweep messages)) messages (content_after_all taken (batch_of sweep messages)).messages
agrees-content sweep messages taken agrees =
    subst (Agrees (after_sending_all sweep (batch_of sweep messages)) messages) (sym (messages-after_all taken (batch_of sweep messages)))
    (agrees-batch sweep messages taken.messages agrees)
