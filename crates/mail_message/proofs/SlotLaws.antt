-- Places and the messages in them.
use Rattle.std.proofs.Common.{◌≡◌, ◌≢◌, ℕ, ◌+◌, ◌<◌, ◌≤◌, Bool, true, false, cond, ◌==◌, List}
use Rattle.std.proofs.Common.{[], ◌∷◌, ◌++◌, map, length, Option, Some, None, refl, sym, ap, subst, arith}
use Rattle.std.specs.List.{AllByRecursion}
use Rattle.std.specs.List.Sorted.{IsStrictlySortedBy}
use Rattle.std.specs.Option.{option_to_list, IfSome, is_some}
use Rattle.std.specs.declared.cmp.Ordering.TheVariants.{Less, Greater}
use Rattle.std.specs.Ordering.{is_eq, nat_cmp}
use Rattle.std.specs.Map.{keys_of}
use Rattle.std.proofs.lemmas.Bool.Decides.{nat_tests}
use Rattle.std.proofs.lemmas.Grind.{common_steps}
use Rattle.std.proofs.lemmas.Cmp.{ranked, by_ranked}
use Rattle.std.proofs.lemmas.Map.Keys.{sorted_head, sorted_tail}
use Rattle.mur_base.proofs.MapLaws.{numbers_apart}
use Rattle.mur_base.specs.Map.{value_at, IsInOrder}
use Rattle.mail_message.specs.declared.message.Message.{Message}
use Rattle.mail_message.specs.FlagSets.{Flags}
use Rattle.mail_message.specs.Boxes.{message_at, with_message, without_uid, with_flags, uids_of, IsRising}
use Rattle.mail_message.specs.Slots.{Places, filled, flat, IsKeyed}

-- ---- numbers

pub greater : (a b : ℕ) → b < a → nat_cmp a b ≡ Greater
greater a b h =
    by_ranked _ _ _ (nat_cmp a b) (ranked a b _ refl) (λ o l. absurd (omega (arith, h, l))) (λ o e. absurd (omega (arith, h, e))) (λ o g. o)

pub less : (a b : ℕ) → a < b → nat_cmp a b ≡ Less
less a b h =
    by_ranked _ _ _ (nat_cmp a b) (ranked a b _ refl) (λ o l. o) (λ o e. absurd (omega (arith, h, e))) (λ o g. absurd (omega (arith, h, g)))

pub below : (a b : ℕ) → nat_cmp a b ≡ Less → a < b
below a b h = ranked a b Less (sym h)

pub same_key : (k j : ℕ) → is_eq (nat_cmp k j) ≡ true → k ≡ j
same_key k j h = numbers_apart.exact k j h

pub other_key : (k j : ℕ) → is_eq (nat_cmp k j) ≡ false → k ≢ j
other_key k j h e =
    let itself : is_eq (nat_cmp k k) ≡ true = numbers_apart.itself k in
    let no : is_eq (nat_cmp k k) ≡ false = subst (λ x. is_eq (nat_cmp k x) ≡ false) (sym e) h in cc

-- ---- messages above a UID

unfoldable pub Above : ℕ → List Message → Type 0
Above k messages = AllByRecursion (λ message. k < message.uid) messages

above_by : (k j : ℕ) (slot : Option Message) (messages : List Message) → nat_cmp k j ≡ Less → IfSome slot (λ message. message.uid ≡ j)
    → Above k messages → Above k (option_to_list slot ++ messages)
unfolding Above
above_by k j None messages h at all = all
above_by k j (Some message) messages h at all = (subst (λ x. k < x) (sym at) (below k j h), all)

pub above_filled : (k : ℕ) (places : Places) → AllByRecursion (λ q. nat_cmp k q ≡ Less) (keys_of places) → IsKeyed places → Above k (filled places)
unfolding Above
above_filled k [] above keyed = tt
above_filled k (place ∷ places) above keyed = above_by k place.0 place.1 (filled places) above.0 keyed.0 (above_filled k places above.1 keyed.1)

pub find_above : (k : ℕ) (messages : List Message) → Above k messages → message_at messages k ≡ None
unfolding Above
find_above k [] above = refl
find_above k (message ∷ messages) above =
    let at = above.0 in
    let apart : (message.uid == k) ≡ false = grind (arith, nat_tests, at) in rw apart (find_above k messages above.1)

pub filter_above : (k : ℕ) (messages : List Message) → Above k messages → without_uid messages k ≡ messages
unfolding Above
filter_above k [] above = refl
filter_above k (message ∷ messages) above =
    let at = above.0 in
    let apart : (message.uid == k) ≡ false = grind (arith, nat_tests, at) in rw apart (ap (λ left. message ∷ left) (filter_above k messages above.1))

pub map_above : (k : ℕ) (flags : Flags) (messages : List Message) → Above k messages → map (with_flags k flags) messages ≡ messages
unfolding Above
map_above k flags [] above = refl
map_above k flags (message ∷ messages) above =
    let at = above.0 in
    let apart : (message.uid == k) ≡ false = grind (arith, nat_tests, at) in rw apart (ap (λ left. message ∷ left) (map_above k flags messages above.1))

pub put_above : (message : Message) (messages : List Message) → Above message.uid messages → with_message messages message ≡ message ∷ messages
unfolding Above
put_above message [] above = refl
put_above message (other ∷ messages) above = rw (less message.uid other.uid above.0) refl

-- the messages behind a place are above its UID
pub behind : (place : ℕ × Option Message) (places : Places) → IsInOrder nat_cmp (place ∷ places) → IsKeyed places → Above place.0 (filled places)
behind place places sorted keyed = above_filled place.0 places (sorted_head nat_cmp place.0 (keys_of places) sorted) keyed

pub rest_sorted : (place : ℕ × Option Message) (places : Places) → IsInOrder nat_cmp (place ∷ places) → IsInOrder nat_cmp places
rest_sorted place places sorted = sorted_tail nat_cmp place.0 (keys_of places) sorted

-- ---- a look-up

find_by : (k j : ℕ) (slot : Option Message) (messages : List Message) (found : Option (Option Message)) → IfSome slot (λ message. message.uid ≡ j)
    → message_at messages k ≡ flat found → Above j messages → (b : Bool) → is_eq (nat_cmp k j) ≡ b
    → message_at (option_to_list slot ++ messages) k ≡ flat (cond b (Some slot) found)
find_by k j None messages found at ih above true h = find_above k messages (subst (λ x. Above x messages) (sym (same_key k j h)) above)
find_by k j None messages found at ih above false h = ih
find_by k j (Some message) messages found at ih above true h =
    let same : (message.uid == k) ≡ true = let e = same_key k j h in grind (arith, nat_tests, at, e) in rw same refl
find_by k j (Some message) messages found at ih above false h =
    let ne = other_key k j h in
    let apart : (message.uid == k) ≡ false = subst (λ x. (x == k) ≡ false) (sym at) (grind (arith, nat_tests, ne)) in rw apart ih

-- the message at a UID stands in its place
pub message_at-filled : (places : Places) (k : ℕ) → IsInOrder nat_cmp places → IsKeyed places → message_at (filled places) k ≡ flat (value_at nat_cmp places k)
message_at-filled [] k sorted keyed = refl
message_at-filled (place ∷ places) k sorted keyed =
    find_by k place.0 place.1 (filled places) (value_at nat_cmp places k) keyed.0
    (message_at-filled places k (rest_sorted place places sorted) keyed.1) (behind place places sorted keyed.1) (is_eq (nat_cmp k place.0)) refl

-- ---- the order of the messages

above_uids : (k : ℕ) (messages : List Message) → Above k messages → AllByRecursion (λ q. nat_cmp k q ≡ Less) (uids_of messages)
unfolding Above
above_uids k [] above = tt
above_uids k (message ∷ messages) above = (less k message.uid above.0, above_uids k messages above.1)

rising_by : (j : ℕ) (slot : Option Message) (messages : List Message) → IfSome slot (λ message. message.uid ≡ j) → Above j messages
    → IsRising messages → IsRising (option_to_list slot ++ messages)
unfolding IsStrictlySortedBy
rising_by j None messages at above rising = rising
rising_by j (Some message) messages at above rising = (above_uids message.uid messages (subst (λ x. Above x messages) (sym at) above), rising)

-- messages in their places rise by UID
pub rising-filled : (places : Places) → IsInOrder nat_cmp places → IsKeyed places → IsRising (filled places)
unfolding IsStrictlySortedBy
rising-filled [] sorted keyed = tt
rising-filled (place ∷ places) sorted keyed =
    rising_by place.0 place.1 (filled places) keyed.0 (behind place places sorted keyed.1)
    (rising-filled places (rest_sorted place places sorted) keyed.1)

fewer_by : (slot : Option Message) (messages : List Message) (n : ℕ) → length messages ≤ n → length (option_to_list slot ++ messages) ≤ n + 1
fewer_by None messages n h = omega (arith, h)
fewer_by (Some message) messages n h = grind (arith, common_steps, h)

-- there are no more messages than places
pub length-filled : (places : Places) → length (filled places) ≤ length places
length-filled [] = omega arith
length-filled (place ∷ places) =
    let more = fewer_by place.1 (filled places) (length places) (length-filled places) in grind (arith, common_steps, more)

-- a message stands in the place
pub one_more : (slot : Option Message) (messages : List Message) → is_some slot ≡ true → length messages + 1 ≤ length (option_to_list slot ++ messages)
one_more None messages h = cc
one_more (Some message) messages h = grind (arith, common_steps)
