-- An APPEND puts its messages where none stood, and leaves each other message as it was.
use Rattle.std.proofs.Common.{◌≡◌, ℕ, ◌+◌, ◌<◌, ◌≤◌, ◌==◌, nat_lt, Bool, true, false, List, [], ◌∷◌, None, Some, refl, sym, ◌∙◌, arith}
use Rattle.std.specs.Prelude.{All}
use Rattle.std.specs.List.{list_any}
use Rattle.std.proofs.lemmas.Bool.Decides.{nat_tests}
use Rattle.std.proofs.lemmas.List.Elements.{All-head, All-tail}
use Rattle.mail_message.specs.declared.message.Message.{Message}
use Rattle.mail_message.specs.Boxes.{Content, message_at, is_touched}
use Rattle.mail_message.proofs.OtherLaws.{other-after_all}
use Rattle.mail_store.specs.Append.{appended, puts_from}
use Rattle.mail_store.specs.Kept.{AreUidsBelowNext, KeepsMessages}
use Rattle.mail_store.proofs.UidsBelow.{IsBelow}

pub none_from : (limit uid : ℕ) (messages : List Message) → limit ≤ uid → All (IsBelow limit) messages → message_at messages uid ≡ None
none_from limit uid [] le all = refl
none_from limit uid (message ∷ messages) le all =
    let one : message.uid < limit = All-head (IsBelow limit) message messages all in
    let apart : (message.uid == uid) ≡ false = grind (arith, nat_tests, one, le) in
    rw apart (none_from limit uid messages le (All-tail (IsBelow limit) message messages all))

-- messages that are put from a UID on name no lower one
untouched : (lower uid : ℕ) (messages : List Message) → lower < uid → list_any (is_touched lower) (puts_from uid messages) ≡ false
untouched lower uid [] lt = refl
untouched lower uid (message ∷ messages) lt =
    let apart : (uid == lower) ≡ false = grind (arith, nat_tests, lt) in rw apart (untouched lower (uid + 1) messages (omega (arith, lt)))

keeps_by : (box : Content) (messages : List Message) (uid : ℕ) (message : Message) → AreUidsBelowNext box → message_at box.messages uid ≡ Some message
    → (lower : Bool) → nat_lt uid box.next ≡ lower → message_at (appended box messages).messages uid ≡ Some message
keeps_by box messages uid message below there true h =
    let lt : uid < box.next = grind (arith, nat_tests, h) in
    other-after_all box (puts_from box.next messages) uid (untouched uid box.next messages lt) ∙ there
keeps_by box messages uid message below there false h =
    let le : box.next ≤ uid = grind (arith, nat_tests, h) in
    let no : None ≡ Some message = sym (none_from box.next uid box.messages le below) ∙ there in cc

pub appended_keeps : (box : Content) (messages : List Message) → AreUidsBelowNext box → KeepsMessages box (appended box messages)
appended_keeps box messages below = λ uid message there. keeps_by box messages uid message below there (nat_lt uid box.next) refl
