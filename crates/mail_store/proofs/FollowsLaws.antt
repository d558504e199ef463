-- What APPEND, STORE and EXPUNGE leave of a mailbox has its UIDVALIDITY, and UIDNEXT never falls.
use Rattle.std.proofs.Common.{◌≡◌, ℕ, ◌+◌, List, [], ◌∷◌, length, map, Option, refl, arith}
use Rattle.mail_message.specs.declared.change.Change.{Change}
use Rattle.mail_message.specs.declared.change.Change.TheVariants.{Gone}
use Rattle.mail_message.specs.declared.message.Message.{Message}
use Rattle.mail_message.specs.declared.mode.Mode.{Mode}
use Rattle.mail_message.specs.Boxes.{Content, content_after, content_after_all}
use Rattle.mail_message.specs.FlagSets.{Flags}
use Rattle.mail_store.specs.Append.{appended}
use Rattle.mail_store.specs.Expunge.{expunged, expunged_uids}
use Rattle.mail_store.specs.Kept.{IsLaterContent}
use Rattle.mail_store.specs.Store.{flag_changes, rows_stored, stored}
use Rattle.mail_store.proofs.AppendLaws.{next-appended, serial-appended}
use Rattle.mail_store.proofs.TouchedLaws.{next-flags, next-gone}

serial-after : (box : Content) (changes : List Change) → (content_after_all box changes).serial ≡ box.serial
serial-after box [] = refl
serial-after box (change ∷ changes) = serial-after (content_after box change) changes

pub appended_follows : (box : Content) (messages : List Message) → IsLaterContent box (appended box messages)
appended_follows box messages =
    let next : (appended box messages).next ≡ box.next + length messages = next-appended box box.next messages in
    (serial-appended box box.next messages, omega arith)

pub stored_follows : (box : Content) (uids : List ℕ) (mode : Mode) (flags : Flags) → IsLaterContent box (stored box uids mode flags)
stored_follows box uids mode flags =
    let rows = rows_stored box uids mode flags in
    let next : (stored box uids mode flags).next ≡ box.next = next-flags box rows in
    (serial-after box (flag_changes rows), omega arith)

pub expunged_follows : (box : Content) (only : Option (List ℕ)) → IsLaterContent box (expunged box only)
expunged_follows box only =
    let next : (expunged box only).next ≡ box.next = next-gone box (expunged_uids box only) in
    (serial-after box (map (λ uid. Gone uid) (expunged_uids box only)), omega arith)
