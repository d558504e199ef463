-- What an APPEND leaves of its mailbox, and of the store in which the mailbox stands.
use Rattle.std.proofs.Common.{◌≡◌, ◌≢◌, ℕ, List, [], ◌∷◌, Option, None, Some, refl, ap, ◌∙◌}
use Rattle.std.specs.Prelude.{Ok, Err}
use Rattle.std.specs.BTreeMap.{is_at}
use Rattle.std.specs.Cmp.Lexicographic.{slice_cmp}
use Rattle.std.specs.Ordering.{nat_cmp}
use Rattle.std.proofs.lemmas.Map.Steps.{set_value_same}
use Rattle.mail_message.specs.Boxes.{Content}
use Rattle.mail_message.specs.declared.message.Message.{Message}
use Rattle.mail_store.specs.Append.{appended, append_fault}
use Rattle.mail_store.specs.Faults.{IsValueUnless}
use Rattle.mail_store.specs.declared.fault.StoreFault.{StoreFault}
use Rattle.mail_store.specs.declared.fault.StoreFault.TheVariants.{Memory}
use Rattle.imap_types.specs.declared.reply.NoText.TheVariants.{Limit}
use Rattle.imap_types.specs.declared.reply.Reply.{Reply}
use Rattle.mur_model.specs.declared.store.Store.{Store}
use Rattle.mur_model.specs.Append.{append_on, append_to, append_reply}
use Rattle.mur_model.specs.Left.{Worked, replied, box_after, store_after}
use Rattle.imap_types.specs.Reply.{refused}
use Rattle.mur_model.specs.Store.{box_at, with_box}

-- the mailbox is left so, and this is the reply
abbrev pub IsReplied : Content → Worked → Content → Reply → Type 0
IsReplied box worked left reply = (left ≡ box_after box worked.left) × (replied reply ≡ worked.turn)

pub refused_left : (message : Message) (box left : Content) (fault : Option StoreFault) (uids : List ℕ) (why : StoreFault) (reply : Reply)
    → IsValueUnless fault uids (Err why) → left ≡ box → (why ≢ Memory) × (reply ≡ refused Limit) → IsReplied box (append_to message box fault) left reply
unfolding append_to box_after
refused_left message box left (Some fault) uids why reply answered same told = (same, ap replied told.1)
refused_left message box left None uids why reply answered same told = absurd (told.0 answered)

pub appended_left : (message : Message) (box left : Content) (fault : Option StoreFault) (uids given : List ℕ) (reply : Reply)
    → IsValueUnless fault uids (Ok given) → left ≡ appended box (message ∷ []) → reply ≡ append_reply box.serial box.next
    → IsReplied box (append_to message box fault) left reply
unfolding append_to box_after
appended_left message box left (Some fault) uids given reply answered is told = cc
appended_left message box left None uids given reply answered is told = (is, ap replied told)

-- a mailbox that is written back as it was leaves the store as it was
pub kept_there : (store : Store) (name : List ℕ) (box : Content) → box_at store name ≡ Some box → with_box store name box ≡ store
kept_there store name box there = ap (λ boxes. record store { boxes = boxes }) (set_value_same (is_at (slice_cmp nat_cmp name)) store.boxes box there)

left_there : (store : Store) (name : List ℕ) (message : Message) (box : Content) (fault : Option StoreFault) → box_at store name ≡ Some box
    → with_box store name (box_after box (append_to message box fault).left) ≡ store_after store name (append_to message box fault).left
unfolding append_to box_after store_after
left_there store name message box (Some fault) there = kept_there store name box there
left_there store name message box None there = refl

pub appended_there : (store : Store) (name : List ℕ) (message : Message) (box left : Content) (reply : Reply) → box_at store name ≡ Some box
    → IsReplied box (append_to message box (append_fault box (message ∷ []))) left reply
    → (with_box store name left ≡ store_after store name (append_on message (box_at store name)).left)
    × (replied reply ≡ (append_on message (box_at store name)).turn)
unfolding append_on
appended_there store name message box left reply there is =
    rw there (ap (λ content. with_box store name content) is.0 ∙ left_there store name message box (append_fault box (message ∷ [])) there, is.1)
