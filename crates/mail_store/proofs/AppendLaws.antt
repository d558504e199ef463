-- UIDNEXT behind the messages of an APPEND, that UIDVALIDITY stays, and where the new UIDs lie.
use Rattle.std.proofs.Common.{◌≡◌, ℕ, ◌+◌, ◌<◌, ◌≤◌, List, [], ◌∷◌, length, refl, ◌∙◌, arith}
use Rattle.std.specs.Prelude.{All}
use Rattle.std.proofs.lemmas.Grind.{common_steps}
use Rattle.std.proofs.lemmas.List.Elements.{All-nil, All-cons, All-weaker}
use Rattle.mail_message.specs.declared.message.Message.{Message}
use Rattle.mail_message.specs.declared.change.Change.TheVariants.{Put}
use Rattle.mail_message.specs.Boxes.{Content, content_after, content_after_all}
use Rattle.mail_store.specs.Append.{uids_from, puts_from}

pub next-appended : (box : Content) (uid : ℕ) (messages : List Message) → (content_after_all box (puts_from uid messages)).next ≡ uid + length messages
next-appended box uid [] = omega arith
next-appended box uid (message ∷ messages) =
    let more = next-appended (content_after box (Put (record message { uid = uid }))) (uid + 1) messages in
    more ∙ grind (arith, common_steps)

pub serial-appended : (box : Content) (uid : ℕ) (messages : List Message) → (content_after_all box (puts_from uid messages)).serial ≡ box.serial
serial-appended box uid [] = refl
serial-appended box uid (message ∷ messages) = serial-appended (content_after box (Put (record message { uid = uid }))) (uid + 1) messages

-- the UIDs lie from the first on and below the one behind the last
pub uids-within : (first : ℕ) (messages : List Message) → All (λ uid. (first ≤ uid) × (uid < first + length messages)) (uids_from first messages)
uids-within first [] = All-nil (λ uid. (first ≤ uid) × (uid < first + 0))
uids-within first (message ∷ messages) =
    All-cons (λ uid. (first ≤ uid) × (uid < first + length (message ∷ messages))) first (uids_from (first + 1) messages)
    (omega arith, grind (arith, common_steps))
    (All-weaker (λ uid. (first + 1 ≤ uid) × (uid < (first + 1) + length messages)) (λ uid. (first ≤ uid) × (uid < first + length (message ∷ messages)))
    (λ uid h. (omega (arith, h.0), grind (arith, common_steps, h.1))) (uids_from (first + 1) messages) (uids-within (first + 1) messages))
