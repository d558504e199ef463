-- What APPEND, STORE and EXPUNGE leave of a mailbox has the UIDs of its messages below UIDNEXT.
use Rattle.std.proofs.Common.{ℕ, ◌+◌, ◌<◌, Bool, true, false, not, if◌then◌else◌, List, [], ◌∷◌, map, Option, sym, subst, arith}
use Rattle.std.specs.Prelude.{All}
use Rattle.std.specs.Ordering.{nat_cmp, match_ordering}
use Rattle.std.specs.declared.cmp.Ordering.{Ordering}
use Rattle.std.specs.declared.cmp.Ordering.TheVariants.{Less, Equal, Greater}
use Rattle.std.proofs.lemmas.List.Elements.{All-nil, All-cons, All-head, All-tail, All-map, All-weaker, All-filter}
use Rattle.mail_message.specs.declared.change.Change.TheVariants.{Put, SetFlags, Gone}
use Rattle.mail_message.specs.declared.message.Message.{Message}
use Rattle.mail_message.specs.declared.message.Row.{Row}
use Rattle.mail_message.specs.declared.mode.Mode.{Mode}
use Rattle.mail_message.specs.Boxes.{Content, content_after, content_after_all, has_uid, relabelled, with_flags, with_message}
use Rattle.mail_message.specs.FlagSets.{Flags}
use Rattle.mail_store.specs.Append.{appended, puts_from}
use Rattle.mail_store.specs.Expunge.{expunged, expunged_uids}
use Rattle.mail_store.specs.Store.{flag_changes, rows_stored, stored}
use Rattle.mail_store.specs.Kept.{AreUidsBelowNext}
use Rattle.mail_store.proofs.TouchedLaws.{next-flags, next-gone}

abbrev pub IsBelow : ℕ → Message → Type 0
IsBelow limit message = message.uid < limit

put_by : (limit : ℕ) (order : Ordering) (message other : Message) (messages more : List Message) → IsBelow limit message
    → All (IsBelow limit) (other ∷ messages) → All (IsBelow limit) more
    → All (IsBelow limit) (match_ordering order (message ∷ other ∷ messages) (message ∷ messages) (other ∷ more))
put_by limit Less message other messages more one all rest = All-cons (IsBelow limit) message (other ∷ messages) one all
put_by limit Equal message other messages more one all rest = All-cons (IsBelow limit) message messages one (All-tail (IsBelow limit) other messages all)
put_by limit Greater message other messages more one all rest = All-cons (IsBelow limit) other more (All-head (IsBelow limit) other messages all) rest

put : (limit : ℕ) (messages : List Message) (message : Message) → All (IsBelow limit) messages → IsBelow limit message
    → All (IsBelow limit) (with_message messages message)
put limit [] message all one = All-cons (IsBelow limit) message [] one (All-nil (IsBelow limit))
put limit (other ∷ messages) message all one =
    put_by limit (nat_cmp message.uid other.uid) message other messages (with_message messages message) one all
    (put limit messages message (All-tail (IsBelow limit) other messages all) one)

labelled_by : (limit : ℕ) (test : Bool) (message : Message) (flags : Flags) → IsBelow limit message
    → IsBelow limit (if test then relabelled message flags else message)
labelled_by limit true message flags one = one
labelled_by limit false message flags one = one

labelled : (limit uid : ℕ) (flags : Flags) (messages : List Message) → All (IsBelow limit) messages
    → All (IsBelow limit) (map (with_flags uid flags) messages)
labelled limit uid flags messages all =
    All-map (IsBelow limit) (with_flags uid flags) messages
    (All-weaker (IsBelow limit) (λ message. IsBelow limit (with_flags uid flags message))
    (λ message one. labelled_by limit (has_uid uid message) message flags one) messages all)

-- UIDs that are put from one on, behind messages below it, are below the one behind the last
puts_below : (box : Content) (uid : ℕ) (messages : List Message) → All (IsBelow uid) box.messages
    → AreUidsBelowNext (content_after_all box (puts_from uid messages))
puts_below box uid [] all = all
puts_below box uid (message ∷ messages) all =
    puts_below (content_after box (Put (record message { uid = uid }))) (uid + 1) messages
    (put (uid + 1) box.messages (record message { uid = uid })
    (All-weaker (IsBelow uid) (IsBelow (uid + 1)) (λ other h. omega (arith, h)) box.messages all) (omega arith))

labels_below : (limit : ℕ) (box : Content) (rows : List Row) → All (IsBelow limit) box.messages
    → All (IsBelow limit) (content_after_all box (flag_changes rows)).messages
labels_below limit box [] all = all
labels_below limit box (row ∷ rows) all =
    labels_below limit (content_after box (SetFlags row.uid row.flags)) rows (labelled limit row.uid row.flags box.messages all)

rest_below : (limit : ℕ) (box : Content) (uids : List ℕ) → All (IsBelow limit) box.messages
    → All (IsBelow limit) (content_after_all box (map (λ uid. Gone uid) uids)).messages
rest_below limit box [] all = all
rest_below limit box (uid ∷ uids) all =
    rest_below limit (content_after box (Gone uid)) uids (All-filter (λ message. not (has_uid uid message)) (IsBelow limit) box.messages all)

pub appended_below : (box : Content) (messages : List Message) → AreUidsBelowNext box → AreUidsBelowNext (appended box messages)
appended_below box messages below = puts_below box box.next messages below

pub stored_below : (box : Content) (uids : List ℕ) (mode : Mode) (flags : Flags) → AreUidsBelowNext box → AreUidsBelowNext (stored box uids mode flags)
stored_below box uids mode flags below =
    let rows = rows_stored box uids mode flags in
    subst (λ (limit : ℕ). All (IsBelow limit) (stored box uids mode flags).messages) (sym (next-flags box rows)) (labels_below box.next box rows below)

pub expunged_below : (box : Content) (only : Option (List ℕ)) → AreUidsBelowNext box → AreUidsBelowNext (expunged box only)
expunged_below box only below =
    let gone = expunged_uids box only in
    subst (λ (limit : ℕ). All (IsBelow limit) (expunged box only).messages) (sym (next-gone box gone)) (rest_below box.next box gone below)
