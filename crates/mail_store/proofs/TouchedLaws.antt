-- The UIDs that the changes of APPEND, STORE and EXPUNGE name, and what they leave of UIDNEXT.
use Rattle.std.proofs.Common.{◌≡◌, ℕ, ◌+◌, ◌==◌, ◌||◌, List, [], ◌∷◌, map, refl, ap}
use Rattle.std.specs.List.{list_any, fold}
use Rattle.mail_message.specs.declared.message.Message.{Message}
use Rattle.mail_message.specs.declared.message.Row.{Row}
use Rattle.mail_message.specs.declared.change.Change.TheVariants.{SetFlags, Gone}
use Rattle.mail_message.specs.Boxes.{Content, content_after, content_after_all, without_uid, is_touched}
use Rattle.mail_store.specs.Append.{puts_from, uids_from}
use Rattle.mail_store.specs.Store.{flag_changes}

pub touched-puts : (uid : ℕ) (messages : List Message) (q : ℕ)
    → list_any (is_touched q) (puts_from uid messages) ≡ list_any (λ given. given == q) (uids_from uid messages)
touched-puts uid [] q = refl
touched-puts uid (message ∷ messages) q = ap (λ rest. (uid == q) || rest) (touched-puts (uid + 1) messages q)

pub touched-flags : (rows : List Row) (q : ℕ) → list_any (is_touched q) (flag_changes rows) ≡ list_any (λ row. row.uid == q) rows
touched-flags [] q = refl
touched-flags (row ∷ rows) q = ap (λ rest. (row.uid == q) || rest) (touched-flags rows q)

pub touched-gone : (uids : List ℕ) (q : ℕ) → list_any (is_touched q) (map (λ uid. Gone uid) uids) ≡ list_any (λ gone. gone == q) uids
touched-gone [] q = refl
touched-gone (uid ∷ uids) q = ap (λ rest. (uid == q) || rest) (touched-gone uids q)

-- what is left where the messages of some UIDs go
pub content-gone : (box : Content) (uids : List ℕ)
    → record box { messages = fold without_uid box.messages uids } ≡ content_after_all box (map (λ uid. Gone uid) uids)
content-gone box [] = refl
content-gone box (uid ∷ uids) = content-gone (content_after box (Gone uid)) uids

pub next-flags : (box : Content) (rows : List Row) → (content_after_all box (flag_changes rows)).next ≡ box.next
next-flags box [] = refl
next-flags box (row ∷ rows) = next-flags (content_after box (SetFlags row.uid row.flags)) rows

pub next-gone : (box : Content) (uids : List ℕ) → (content_after_all box (map (λ uid. Gone uid) uids)).next ≡ box.next
next-gone box [] = refl
next-gone box (uid ∷ uids) = next-gone (content_after box (Gone uid)) uids
