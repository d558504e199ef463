-- Whatever changes a mailbox, its messages stay in strictly rising order of UID.
use Rattle.std.proofs.Common.{◌≡◌, ℕ, ◌<◌, Bool, true, false, not, cond, List, [], ◌∷◌, map, refl, sym, ◌∙◌, ap, subst, arith}
use Rattle.std.specs.Cmp.{nat_cmp_is}
use Rattle.std.specs.List.{AllByRecursion, filter}
use Rattle.std.specs.List.Sorted.{IsStrictlySortedBy}
use Rattle.std.specs.Ordering.{nat_cmp, match_ordering}
use Rattle.std.specs.declared.cmp.Ordering.{Ordering}
use Rattle.std.specs.declared.cmp.Ordering.TheVariants.{Less, Equal, Greater}
use Rattle.std.proofs.lemmas.Cmp.{ranked}
use Rattle.mail_message.specs.declared.change.Change.{Change}
use Rattle.mail_message.specs.declared.change.Change.TheVariants.{Put, SetFlags, Gone, NextUid}
use Rattle.mail_message.specs.declared.message.Message.{Message}
use Rattle.mail_message.specs.Boxes.{Content, content_after, content_after_all, has_uid, relabelled, uids_of, with_flags, with_message, IsRising}
use Rattle.mail_message.specs.FlagSets.{Flags}

abbrev IsAbove : ℕ → List Message → Type 0
IsAbove low messages = AllByRecursion (λ uid. nat_cmp low uid ≡ Less) (uids_of messages)

is_less : (low high : ℕ) → nat_cmp low high ≡ Less → low < high
is_less low high e = ranked low high Less (sym e)

less_is : (low high : ℕ) → low < high → nat_cmp low high ≡ Less
less_is low high lt = sym (nat_cmp_is low high Less lt)

from_lower : (lower low : ℕ) (messages : List Message) → lower < low → IsAbove low messages → IsAbove lower messages
from_lower lower low [] lt above = tt
from_lower lower low (message ∷ messages) lt above =
    let here = is_less low message.uid above.0 in
    (less_is lower message.uid (omega (arith, lt, here)), from_lower lower low messages lt above.1)

-- ---- a message that is put

above_by : (low : ℕ) (message other : Message) (messages more : List Message) (order : Ordering) → nat_cmp low message.uid ≡ Less
    → IsAbove low (other ∷ messages) → IsAbove low more
    → IsAbove low (match_ordering order (message ∷ other ∷ messages) (message ∷ messages) (other ∷ more))
above_by low message other messages more Less less above rest = (less, above)
above_by low message other messages more Equal less above rest = (less, above.1)
above_by low message other messages more Greater less above rest = (above.0, rest)

above_put : (low : ℕ) (messages : List Message) (message : Message) → nat_cmp low message.uid ≡ Less → IsAbove low messages
    → IsAbove low (with_message messages message)
above_put low [] message less above = (less, tt)
above_put low (other ∷ messages) message less above =
    above_by low message other messages (with_message messages message) (nat_cmp message.uid other.uid) less above
    (above_put low messages message less above.1)

put_by : (message other : Message) (messages : List Message) (order : Ordering) → nat_cmp message.uid other.uid ≡ order
    → IsAbove other.uid messages → IsRising messages → IsRising (with_message messages message)
    → IsRising (match_ordering order (message ∷ other ∷ messages) (message ∷ messages) (other ∷ with_message messages message))
unfolding IsStrictlySortedBy
put_by message other messages Less e above rising more =
    ((e, from_lower message.uid other.uid messages (is_less message.uid other.uid e) above), (above, rising))
put_by message other messages Equal e above rising more =
    let same : message.uid ≡ other.uid = ranked message.uid other.uid Equal (sym e) in
    (subst (λ uid. IsAbove uid messages) (sym same) above, rising)
put_by message other messages Greater e above rising more =
    let lt : other.uid < message.uid = ranked message.uid other.uid Greater (sym e) in
    (above_put other.uid messages message (less_is other.uid message.uid lt) above, more)

put_rises : (messages : List Message) (message : Message) → IsRising messages → IsRising (with_message messages message)
unfolding IsStrictlySortedBy
put_rises [] message rising = (tt, tt)
put_rises (other ∷ messages) message rising =
    put_by message other messages (nat_cmp message.uid other.uid) refl rising.0 rising.1 (put_rises messages message rising.1)

-- ---- other flags

uid_by : (test : Bool) (message : Message) (flags : Flags) → (cond test (relabelled message flags) message).uid ≡ message.uid
uid_by true message flags = refl
uid_by false message flags = refl

same_uids : (uid : ℕ) (flags : Flags) (messages : List Message) → uids_of (map (with_flags uid flags) messages) ≡ uids_of messages
same_uids uid flags [] = refl
same_uids uid flags (message ∷ messages) =
    ap (λ first. first ∷ uids_of (map (with_flags uid flags) messages)) (uid_by (has_uid uid message) message flags)
    ∙ ap (λ rest. message.uid ∷ rest) (same_uids uid flags messages)

-- ---- a message that goes

above_less_by : (low : ℕ) (message : Message) (messages : List Message) (stays : Bool) → nat_cmp low message.uid ≡ Less → IsAbove low messages
    → IsAbove low (cond stays (message ∷ messages) messages)
above_less_by low message messages true less above = (less, above)
above_less_by low message messages false less above = above

above_less : (low : ℕ) (test : Message → Bool) (messages : List Message) → IsAbove low messages → IsAbove low (filter test messages)
above_less low test [] above = tt
above_less low test (message ∷ messages) above =
    above_less_by low message (filter test messages) (test message) above.0 (above_less low test messages above.1)

less_by : (message : Message) (messages : List Message) (stays : Bool) → IsAbove message.uid messages → IsRising messages
    → IsRising (cond stays (message ∷ messages) messages)
unfolding IsStrictlySortedBy
less_by message messages true above rising = (above, rising)
less_by message messages false above rising = rising

less_rises : (test : Message → Bool) (messages : List Message) → IsRising messages → IsRising (filter test messages)
unfolding IsStrictlySortedBy
less_rises test [] rising = tt
less_rises test (message ∷ messages) rising =
    less_by message (filter test messages) (test message) (above_less message.uid test messages rising.0) (less_rises test messages rising.1)

-- ---- changes

change_rises : (box : Content) (change : Change) → IsRising box.messages → IsRising (content_after box change).messages
change_rises box (Put message) rising = put_rises box.messages message rising
change_rises box (SetFlags uid flags) rising = subst (IsStrictlySortedBy nat_cmp) (sym (same_uids uid flags box.messages)) rising
change_rises box (Gone uid) rising = less_rises (λ message. not (has_uid uid message)) box.messages rising
change_rises box (NextUid next) rising = rising

pub changes_rise : (box : Content) (changes : List Change) → IsRising box.messages → IsRising (content_after_all box changes).messages
changes_rise box [] rising = rising
changes_rise box (change ∷ changes) rising = changes_rise (content_after box change) changes (change_rises box change rising)
