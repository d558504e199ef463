-- The entry of an APPEND makes of a content what the APPEND makes of it.
use Rattle.std.proofs.Common.{◌≡◌, ℕ, ◌+◌, ◌-◌, ◌^◌, ◌≤◌, min, nat_lt, Bool, true, false, if◌then◌else◌, List, [], ◌∷◌, ◌++◌, map, length, None, Some, refl, sym, ◌∙◌, ap, arith}
use Rattle.std.proofs.lemmas.Bool.Decides.{nat_tests}
use Rattle.std.proofs.lemmas.Grind.{common_steps}
use Rattle.mur_base.specs.declared.limits.TheConstants.{MAILBOX_MESSAGE_LIMIT}
use Rattle.mail_message.specs.declared.message.Message.{Message}
use Rattle.mail_message.specs.declared.change.Change.TheVariants.{Put, NextUid}
use Rattle.mail_message.specs.Boxes.{Content, content_after_all}
use Rattle.mail_store.specs.Append.{append_fault, appended, puts_from}
use Rattle.mail_store.specs.declared.fault.StoreFault.TheVariants.{TooMany, UidsSpent}
use Rattle.node_record.specs.Held.{last_uid, puts}
use Rattle.backend_core.specs.Append.{with_uids}

-- messages that are put at the UIDs from one on, and UIDNEXT after them
puts_numbered : (uid next : ℕ) (messages : List Message) → next ≡ uid + length messages
    → map Put (with_uids uid messages) ++ NextUid next ∷ [] ≡ puts_from uid messages
puts_numbered uid next [] is = let e : next ≡ uid = omega (arith, is) in ap (λ n. NextUid n ∷ []) e
puts_numbered uid next (message ∷ messages) is =
    let e : next ≡ (uid + 1) + length messages = is ∙ grind (arith, common_steps) in
    ap (λ rest. Put (record message { uid = uid }) ∷ rest) (puts_numbered (uid + 1) next messages e)

last_numbered : (uid : ℕ) (messages : List Message) → last_uid uid (with_uids (uid + 1) messages) ≡ uid + length messages
last_numbered uid [] = omega arith
last_numbered uid (message ∷ messages) =
    let more = last_numbered (uid + 1) messages in more ∙ grind (arith, common_steps)

within_top : (last next count top : ℕ) → last ≡ next + count → next + (count + 1) ≤ top → min (last + 1) top ≡ next + (count + 1)
within_top last next count top is fits = omega (arith, is, fits)

one_more : (message : Message) (messages : List Message) → length (message ∷ messages) ≡ length messages + 1
one_more message messages = grind (arith, common_steps)

added_by : (box : Content) (message : Message) (messages : List Message) → box.next + length (message ∷ messages) ≤ 2 ^ 32 - 1
    → content_after_all box (puts (with_uids box.next (message ∷ messages))) ≡ appended box (message ∷ messages)
added_by box message messages fits =
    let count = one_more message messages in
    let room : box.next + (length messages + 1) ≤ 2 ^ 32 - 1 = rw count at fits in
    let next = within_top (last_uid box.next (with_uids (box.next + 1) messages)) box.next (length messages) (2 ^ 32 - 1)
    (last_numbered box.next messages) room in
    ap (λ n. content_after_all box (map Put (with_uids box.next (message ∷ messages)) ++ NextUid n ∷ [])) next
    ∙ ap (content_after_all box)
    (puts_numbered box.next (box.next + (length messages + 1)) (message ∷ messages) (ap (λ n. box.next + n) (sym count)))

fits_by : (box : Content) (messages : List Message) (many spent : Bool) → nat_lt (2 ^ 32 - 1) (box.next + length messages) ≡ spent
    → (if many then Some TooMany else if spent then Some UidsSpent else None) ≡ None → box.next + length messages ≤ 2 ^ 32 - 1
fits_by box messages true spent e none = cc
fits_by box messages false true e none = cc
fits_by box messages false false e none = grind (arith, nat_tests, e)

pub fits : (box : Content) (messages : List Message) → append_fault box messages ≡ None → box.next + length messages ≤ 2 ^ 32 - 1
fits box messages none =
    let many = nat_lt MAILBOX_MESSAGE_LIMIT (length box.messages + length messages) in
    fits_by box messages many (nat_lt (2 ^ 32 - 1) (box.next + length messages)) refl none

-- within the limits
pub added_makes : (box : Content) (messages : List Message) → append_fault box messages ≡ None
    → content_after_all box (puts (with_uids box.next messages)) ≡ appended box messages
added_makes box [] none = refl
added_makes box (message ∷ messages) none = added_by box message messages (fits box (message ∷ messages) none)
