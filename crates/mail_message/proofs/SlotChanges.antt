-- What a change of a place is to the messages.
use Rattle.std.proofs.Math.Logic.{⊎_elim}
use Rattle.std.proofs.Common.{◌≡◌, ◌≢◌, ℕ, ◌<◌, Bool, true, false, cond, ◌==◌, List, [], ◌∷◌, ◌++◌, map}
use Rattle.std.proofs.Common.{Option, Some, None, Result, Ok, Err, OnOk, OnErr, option_map, refl, sym, ◌∙◌, ap, subst, arith}
use Rattle.std.specs.List.{AllByRecursion, list_any}
use Rattle.std.specs.Option.{option_to_list, IfSome, is_some}
use Rattle.std.specs.declared.cmp.Ordering.{Ordering}
use Rattle.std.specs.declared.cmp.Ordering.TheVariants.{Less, Equal, Greater}
use Rattle.std.specs.Ordering.{is_eq, nat_cmp, match_ordering}
use Rattle.std.specs.BTreeMap.{is_at}
use Rattle.std.specs.Map.{keys_of}
use Rattle.std.specs.List.Sorted.{IsStrictlySortedBy}
use Rattle.std.proofs.lemmas.Bool.Decides.{nat_tests}
use Rattle.std.proofs.lemmas.Map.{keys-set_value}
use Rattle.std.proofs.lemmas.Map.Keys.{sorted_head}
use Rattle.std.proofs.lemmas.Map.Made.{is_some-lookup}
use Rattle.mur_base.proofs.MapLaws.{numbers_apart, same_or_other, value_at-with_entry, value_at-with_entry-other}
use Rattle.mur_base.specs.Map.{value_at, with_entry, without_key, with_value, IsInOrder}
use Rattle.mail_message.specs.declared.message.Message.{Message}
use Rattle.mail_message.specs.FlagSets.{Flags}
use Rattle.mail_message.specs.Boxes.{with_message, without_uid, with_flags, relabelled}
use Rattle.mail_message.specs.Slots.{Places, filled, flat, IsKeyed, IsStanding, HasPlace, KeepsPlaces, flags_written}
use Rattle.mail_message.proofs.NextLaws.{next-with_value}
use Rattle.mail_message.proofs.SlotLaws.{Above, same_key, other_key, greater, below, behind, rest_sorted, filter_above, map_above, put_above}

-- ---- places are kept

pub kept-with_entry : (places : Places) (k : ℕ) (slot : Option Message) → KeepsPlaces places (with_entry nat_cmp places k slot)
kept-with_entry places k slot q h =
    ⊎_elim
    (λ (e : q ≡ k). subst (λ x. is_some (value_at nat_cmp (with_entry nat_cmp places k slot) x) ≡ true) (sym e)
    (ap is_some (value_at-with_entry nat_cmp numbers_apart places k slot)))
    (λ (ne : q ≢ k). ap is_some (value_at-with_entry-other nat_cmp numbers_apart places k q slot ne) ∙ h)
    (same_or_other nat_cmp numbers_apart q k)

pub placed-with_entry : (places : Places) (k : ℕ) (slot : Option Message) → HasPlace (with_entry nat_cmp places k slot) k
placed-with_entry places k slot = ap is_some (value_at-with_entry nat_cmp numbers_apart places k slot)

pub kept-with_value : (places : Places) (k : ℕ) (slot : Option Message) → KeepsPlaces places (with_value nat_cmp places k slot)
kept-with_value places k slot q h =
    is_some-lookup (is_at (nat_cmp q)) (with_value nat_cmp places k slot) ∙ ap (list_any (is_at (nat_cmp q))) (keys-set_value (is_at (nat_cmp k)) places slot)
    ∙ sym (is_some-lookup (is_at (nat_cmp q)) places) ∙ h

pub ordered-with_value : (places : Places) (k : ℕ) (slot : Option Message) → IsInOrder nat_cmp places → IsInOrder nat_cmp (with_value nat_cmp places k slot)
ordered-with_value places k slot sorted = subst (IsStrictlySortedBy nat_cmp) (sym (keys-set_value (is_at (nat_cmp k)) places slot)) sorted

-- ---- each message stays at its UID

some_is : {X : Type 0} (x y : X) → Some x ≡ Some y → x ≡ y
some_is x y e = cc

uid_by : (k : ℕ) (place : ℕ × Option Message) (message : Message) (found : Option (Option Message)) → IfSome place.1 (λ m. m.uid ≡ place.0)
    → (found ≡ Some (Some message) → message.uid ≡ k) → (b : Bool) → is_eq (nat_cmp k place.0) ≡ b
    → cond b (Some place.1) found ≡ Some (Some message) → message.uid ≡ k
uid_by k place message found at ih true h there =
    subst (λ slot. IfSome slot (λ m. m.uid ≡ place.0)) (some_is place.1 (Some message) there) at ∙ sym (same_key k place.0 h)
uid_by k place message found at ih false h there = ih there

-- a message that is found at a UID has it
uid_at : (places : Places) (k : ℕ) (message : Message) → IsKeyed places → value_at nat_cmp places k ≡ Some (Some message) → message.uid ≡ k
uid_at [] k message keyed there = cc
uid_at (place ∷ places) k message keyed there =
    uid_by k place message (value_at nat_cmp places k) keyed.0 (uid_at places k message keyed.1) (is_eq (nat_cmp k place.0)) refl there

At : Option Message → ℕ → Type 0
At slot k = IfSome slot (λ message. message.uid ≡ k)

entry_by : (k : ℕ) (slot : Option Message) (place : ℕ × Option Message) (places : Places) → At slot k → IsKeyed (place ∷ places)
    → IsKeyed (with_entry nat_cmp places k slot)
    → (o : Ordering) → nat_cmp k place.0 ≡ o → IsKeyed (match_ordering o ((k, slot) ∷ place ∷ places) ((place.0, slot) ∷ places)
    (place ∷ with_entry nat_cmp places k slot))
unfolding At
entry_by k slot place places at keyed ih Less h = (at, keyed)
entry_by k slot place places at keyed ih Equal h = (subst (λ x. IfSome slot (λ message. message.uid ≡ x)) (same_key k place.0 (ap is_eq h)) at, keyed.1)
entry_by k slot place places at keyed ih Greater h = (keyed.0, ih)

pub keyed-with_entry : (places : Places) (k : ℕ) (slot : Option Message) → IfSome slot (λ message. message.uid ≡ k) → IsKeyed places
    → IsKeyed (with_entry nat_cmp places k slot)
unfolding At
keyed-with_entry [] k slot at keyed = (at, tt)
keyed-with_entry (place ∷ places) k slot at keyed =
    entry_by k slot place places at keyed (keyed-with_entry places k slot at keyed.1) (nat_cmp k place.0) refl

value_by : (k : ℕ) (slot : Option Message) (place : ℕ × Option Message) (places others : Places) → At slot k → IsKeyed (place ∷ places) → IsKeyed others
    → (b : Bool) → is_eq (nat_cmp k place.0) ≡ b → IsKeyed (cond b ((place.0, slot) ∷ places) (place ∷ others))
unfolding At
value_by k slot place places others at keyed ih true h = (subst (λ x. IfSome slot (λ message. message.uid ≡ x)) (same_key k place.0 h) at, keyed.1)
value_by k slot place places others at keyed ih false h = (keyed.0, ih)

pub keyed-with_value : (places : Places) (k : ℕ) (slot : Option Message) → IfSome slot (λ message. message.uid ≡ k) → IsKeyed places
    → IsKeyed (with_value nat_cmp places k slot)
unfolding At
keyed-with_value [] k slot at keyed = tt
keyed-with_value (place ∷ places) k slot at keyed =
    value_by k slot place places (with_value nat_cmp places k slot) at keyed (keyed-with_value places k slot at keyed.1) (is_eq (nat_cmp k place.0)) refl

without_by : (k : ℕ) (place : ℕ × Option Message) (places others : Places) → IsKeyed (place ∷ places) → IsKeyed others → (b : Bool)
    → IsKeyed (cond b places (place ∷ others))
without_by k place places others keyed ih true = keyed.1
without_by k place places others keyed ih false = (keyed.0, ih)

pub keyed-without_key : (places : Places) (k : ℕ) → IsKeyed places → IsKeyed (without_key nat_cmp places k)
keyed-without_key [] k keyed = tt
keyed-without_key (place ∷ places) k keyed =
    without_by k place places (without_key nat_cmp places k) keyed (keyed-without_key places k keyed.1) (is_eq (nat_cmp k place.0))

-- ---- the messages

reserved_by : (k : ℕ) (place : ℕ × Option Message) (places others : Places) → filled others ≡ filled places
    → (o : Ordering) → is_some (cond (is_eq o) (Some place.1) (value_at nat_cmp places k)) ≡ false
    → filled (match_ordering o ((k, None) ∷ place ∷ places) ((place.0, None) ∷ places) (place ∷ others)) ≡ filled (place ∷ places)
reserved_by k place places others ih Less h = refl
reserved_by k place places others ih Equal h = cc
reserved_by k place places others ih Greater h = ap (λ rest. option_to_list place.1 ++ rest) ih

absent_behind : (k j : ℕ) (slot : Option Message) (found : Option (Option Message)) → (b : Bool) → is_some (cond b (Some slot) found) ≡ false
    → is_some found ≡ false
absent_behind k j slot found true h = cc
absent_behind k j slot found false h = h

-- an empty place is seen by nobody
pub filled-reserved : (places : Places) (k : ℕ) → is_some (value_at nat_cmp places k) ≡ false → filled (with_entry nat_cmp places k None) ≡ filled places
filled-reserved [] k absent = refl
filled-reserved (place ∷ places) k absent =
    reserved_by k place places (with_entry nat_cmp places k None)
    (filled-reserved places k (absent_behind k place.0 place.1 (value_at nat_cmp places k) (is_eq (nat_cmp k place.0)) absent)) (nat_cmp k place.0) absent

cleared_by : (k j : ℕ) (slot : Option Message) (places others : Places) (found : Option (Option Message)) → (found ≡ Some None → filled others ≡ filled places)
    → (b : Bool) → cond b (Some slot) found ≡ Some None → filled (cond b places ((j, slot) ∷ others)) ≡ option_to_list slot ++ filled places
cleared_by k j None places others found ih true h = refl
cleared_by k j (Some message) places others found ih true h = cc
cleared_by k j slot places others found ih false h = ap (λ rest. option_to_list slot ++ rest) (ih h)

-- nobody sees that an empty place goes
pub filled-cleared : (places : Places) (k : ℕ) → value_at nat_cmp places k ≡ Some None → filled (without_key nat_cmp places k) ≡ filled places
filled-cleared [] k there = cc
filled-cleared (place ∷ places) k there =
    cleared_by k place.0 place.1 places (without_key nat_cmp places k) (value_at nat_cmp places k) (filled-cleared places k) (is_eq (nat_cmp k place.0)) there

gone_by : (k j : ℕ) (slot : Option Message) (messages others : List Message) → At slot j → Above j messages → others ≡ without_uid messages k
    → (b : Bool) → is_eq (nat_cmp k j) ≡ b → cond b messages (option_to_list slot ++ others) ≡ without_uid (option_to_list slot ++ messages) k
unfolding At
gone_by k j None messages others at above ih true h = sym (filter_above k messages (subst (λ x. Above x messages) (sym (same_key k j h)) above))
gone_by k j None messages others at above ih false h = ih
gone_by k j (Some message) messages others at above ih true h =
    let e = same_key k j h in
    let same : (message.uid == k) ≡ true = grind (arith, nat_tests, at, e) in
    rw same (sym (filter_above k messages (subst (λ x. Above x messages) (sym e) above)))
gone_by k j (Some message) messages others at above ih false h =
    let ne = other_key k j h in
    let apart : (message.uid == k) ≡ false = subst (λ x. (x == k) ≡ false) (sym at) (grind (arith, nat_tests, ne)) in
    rw apart (ap (λ rest. message ∷ rest) ih)

filled_cond : (b : Bool) (j : ℕ) (new slot : Option Message) (places others : Places)
    → filled (cond b ((j, new) ∷ places) ((j, slot) ∷ others)) ≡ cond b (option_to_list new ++ filled places) (option_to_list slot ++ filled others)
filled_cond true j new slot places others = refl
filled_cond false j new slot places others = refl

-- the message of an emptied place is gone
pub filled-taken : (places : Places) (k : ℕ) → IsInOrder nat_cmp places → IsKeyed places
    → filled (with_value nat_cmp places k None) ≡ without_uid (filled places) k
unfolding At
filled-taken [] k sorted keyed = refl
filled-taken (place ∷ places) k sorted keyed =
    filled_cond (is_eq (nat_cmp k place.0)) place.0 None place.1 places (with_value nat_cmp places k None)
    ∙ gone_by k place.0 place.1 (filled places) (filled (with_value nat_cmp places k None)) keyed.0 (behind place places sorted keyed.1)
    (filled-taken places k (rest_sorted place places sorted) keyed.1) (is_eq (nat_cmp k place.0)) refl

filled_behind : (b : Bool) (place : ℕ × Option Message) (places others : Places)
    → filled (cond b places (place ∷ others)) ≡ cond b (filled places) (option_to_list place.1 ++ filled others)
filled_behind true place places others = refl
filled_behind false place places others = refl

-- the message of a place that goes is gone
pub filled-removed : (places : Places) (k : ℕ) → IsInOrder nat_cmp places → IsKeyed places
    → filled (without_key nat_cmp places k) ≡ without_uid (filled places) k
unfolding At
filled-removed [] k sorted keyed = refl
filled-removed (place ∷ places) k sorted keyed =
    filled_behind (is_eq (nat_cmp k place.0)) place places (without_key nat_cmp places k)
    ∙ gone_by k place.0 place.1 (filled places) (filled (without_key nat_cmp places k)) keyed.0 (behind place places sorted keyed.1)
    (filled-removed places k (rest_sorted place places sorted) keyed.1) (is_eq (nat_cmp k place.0)) refl

lower_by : (j k q : ℕ) (slot : Option Message) (found : Option (Option Message)) → nat_cmp j q ≡ Less → (is_some found ≡ true → j < k)
    → (b : Bool) → is_eq (nat_cmp k q) ≡ b → is_some (cond b (Some slot) found) ≡ true → j < k
lower_by j k q slot found first ih true h there = subst (λ x. j < x) (sym (same_key k q h)) (below j q first)
lower_by j k q slot found first ih false h there = ih there

-- what has a place behind a UID is above it
lower : (j k : ℕ) (places : Places) → AllByRecursion (λ q. nat_cmp j q ≡ Less) (keys_of places) → HasPlace places k → j < k
lower j k [] above there = cc
lower j k (place ∷ places) above there =
    lower_by j k place.0 place.1 (value_at nat_cmp places k) above.0 (lower j k places above.1) (is_eq (nat_cmp k place.0)) refl there

equal_by : (o : Ordering) → is_eq o ≡ true → o ≡ Equal
equal_by Less h = cc
equal_by Equal h = refl
equal_by Greater h = cc

put_by : (message : Message) (j : ℕ) (slot : Option Message) (messages others : List Message) (found : Option (Option Message)) → At slot j → Above j messages
    → (is_some found ≡ true → j < message.uid) → (is_some found ≡ true → others ≡ with_message messages message)
    → (b : Bool) → is_eq (nat_cmp message.uid j) ≡ b → is_some (cond b (Some slot) found) ≡ true
    → cond b (message ∷ messages) (option_to_list slot ++ others) ≡ with_message (option_to_list slot ++ messages) message
unfolding At
put_by message j None messages others found at above low ih true h there =
    sym (put_above message messages (subst (λ x. Above x messages) (sym (same_key message.uid j h)) above))
put_by message j None messages others found at above low ih false h there = ih there
put_by message j (Some other) messages others found at above low ih true h there =
    let equal : nat_cmp message.uid other.uid ≡ Equal = equal_by _ (subst (λ x. is_eq (nat_cmp message.uid x) ≡ true) (sym at) h) in rw equal refl
put_by message j (Some other) messages others found at above low ih false h there =
    let behind_other : nat_cmp message.uid other.uid ≡ Greater = greater message.uid other.uid (subst (λ x. x < message.uid) (sym at) (low there)) in
    rw behind_other (ap (λ rest. other ∷ rest) (ih there))

-- a message that is put in its place is among the messages
pub filled-put : (places : Places) (message : Message) → IsInOrder nat_cmp places → IsKeyed places → HasPlace places message.uid
    → filled (with_value nat_cmp places message.uid (Some message)) ≡ with_message (filled places) message
unfolding At
filled-put [] message sorted keyed there = cc
filled-put (place ∷ places) message sorted keyed there =
    filled_cond (is_eq (nat_cmp message.uid place.0)) place.0 (Some message) place.1 places (with_value nat_cmp places message.uid (Some message))
    ∙ put_by message place.0 place.1 (filled places) (filled (with_value nat_cmp places message.uid (Some message)))
    (value_at nat_cmp places message.uid) keyed.0
    (behind place places sorted keyed.1) (lower place.0 message.uid places (sorted_head nat_cmp place.0 (keys_of places) sorted))
    (filled-put places message (rest_sorted place places sorted) keyed.1) (is_eq (nat_cmp message.uid place.0)) refl there

flags_by : (k j : ℕ) (flags : Flags) (message : Message) (slot : Option Message) (messages others : List Message) (found : Option (Option Message))
    → At slot j → Above j messages → (flat found ≡ Some message → others ≡ map (with_flags k flags) messages)
    → (b : Bool) → is_eq (nat_cmp k j) ≡ b → flat (cond b (Some slot) found) ≡ Some message
    → cond b (relabelled message flags ∷ messages) (option_to_list slot ++ others) ≡ map (with_flags k flags) (option_to_list slot ++ messages)
unfolding At
flags_by k j flags message None messages others found at above ih true h there = cc
flags_by k j flags message None messages others found at above ih false h there = ih there
flags_by k j flags message (Some other) messages others found at above ih true h there =
    let e = same_key k j h in
    let same : (other.uid == k) ≡ true = grind (arith, nat_tests, at, e) in
    let rest = map_above k flags messages (subst (λ x. Above x messages) (sym e) above) in
    subst (λ x. relabelled x flags ∷ messages ≡ map (with_flags k flags) (other ∷ messages)) (some_is other message there)
    (rw same (ap (λ left. relabelled other flags ∷ left) (sym rest)))
flags_by k j flags message (Some other) messages others found at above ih false h there =
    let ne = other_key k j h in
    let apart : (other.uid == k) ≡ false = subst (λ x. (x == k) ≡ false) (sym at) (grind (arith, nat_tests, ne)) in
    rw apart (ap (λ rest. other ∷ rest) (ih there))

-- other flags in a place are other flags of the message
pub filled-flags : (places : Places) (k : ℕ) (flags : Flags) (message : Message) → IsInOrder nat_cmp places → IsKeyed places
    → flat (value_at nat_cmp places k) ≡ Some message
    → filled (with_value nat_cmp places k (Some (record message { flags = flags }))) ≡ map (with_flags k flags) (filled places)
unfolding At
filled-flags [] k flags message sorted keyed there = cc
filled-flags (place ∷ places) k flags message sorted keyed there =
    filled_cond (is_eq (nat_cmp k place.0)) place.0 (Some (relabelled message flags)) place.1 places
    (with_value nat_cmp places k (Some (relabelled message flags)))
    ∙ flags_by k place.0 flags message place.1 (filled places) (filled (with_value nat_cmp places k (Some (relabelled message flags))))
    (value_at nat_cmp places k) keyed.0 (behind place places sorted keyed.1)
    (filled-flags places k flags message (rest_sorted place places sorted) keyed.1) (is_eq (nat_cmp k place.0)) refl there

no_flags_by : (k j : ℕ) (flags : Flags) (slot : Option Message) (messages : List Message) (found : Option (Option Message))
    → At slot j → Above j messages → (flat found ≡ None → map (with_flags k flags) messages ≡ messages)
    → (b : Bool) → is_eq (nat_cmp k j) ≡ b → flat (cond b (Some slot) found) ≡ None
    → map (with_flags k flags) (option_to_list slot ++ messages) ≡ option_to_list slot ++ messages
unfolding At
no_flags_by k j flags None messages found at above ih true h absent = map_above k flags messages (subst (λ x. Above x messages) (sym (same_key k j h)) above)
no_flags_by k j flags None messages found at above ih false h absent = ih absent
no_flags_by k j flags (Some other) messages found at above ih true h absent = cc
no_flags_by k j flags (Some other) messages found at above ih false h absent =
    let ne = other_key k j h in
    let apart : (other.uid == k) ≡ false = subst (λ x. (x == k) ≡ false) (sym at) (grind (arith, nat_tests, ne)) in
    rw apart (ap (λ rest. other ∷ rest) (ih absent))

-- flags of a message that isn't there change nothing
pub filled-no_flags : (places : Places) (k : ℕ) (flags : Flags) → IsInOrder nat_cmp places → IsKeyed places → flat (value_at nat_cmp places k) ≡ None
    → map (with_flags k flags) (filled places) ≡ filled places
unfolding At
filled-no_flags [] k flags sorted keyed absent = refl
filled-no_flags (place ∷ places) k flags sorted keyed absent =
    no_flags_by k place.0 flags place.1 (filled places) (value_at nat_cmp places k) keyed.0 (behind place places sorted keyed.1)
    (filled-no_flags places k flags (rest_sorted place places sorted) keyed.1) (is_eq (nat_cmp k place.0)) refl absent

absent_by : (k : ℕ) (slot : Option Message) (place : ℕ × Option Message) (places others : Places) (found : Option (Option Message))
    → (found ≡ None → others ≡ places) → (b : Bool) → cond b (Some place.1) found ≡ None → cond b ((place.0, slot) ∷ places) (place ∷ others) ≡ place ∷ places
absent_by k slot place places others found ih true h = cc
absent_by k slot place places others found ih false h = ap (λ rest. place ∷ rest) (ih h)

-- nothing is written where there is no place
pub with_value-absent : (places : Places) (k : ℕ) (slot : Option Message) → value_at nat_cmp places k ≡ None → with_value nat_cmp places k slot ≡ places
with_value-absent [] k slot absent = refl
with_value-absent (place ∷ places) k slot absent =
    absent_by k slot place places (with_value nat_cmp places k slot) (value_at nat_cmp places k) (with_value-absent places k slot)
    (is_eq (nat_cmp k place.0)) absent

same_by : (k : ℕ) (slot : Option Message) (place : ℕ × Option Message) (places others : Places) (found : Option (Option Message))
    → (found ≡ Some slot → others ≡ places) → (b : Bool) → cond b (Some place.1) found ≡ Some slot
    → cond b ((place.0, slot) ∷ places) (place ∷ others) ≡ place ∷ places
same_by k slot place places others found ih true h =
    let e : place.1 ≡ slot = some_is place.1 slot h in ap (λ x. (place.0, x) ∷ places) (sym e)
same_by k slot place places others found ih false h = ap (λ rest. place ∷ rest) (ih h)

-- what is there already changes nothing
pub with_value-same : (places : Places) (k : ℕ) (slot : Option Message) → value_at nat_cmp places k ≡ Some slot → with_value nat_cmp places k slot ≡ places
with_value-same [] k slot there = refl
with_value-same (place ∷ places) k slot there =
    same_by k slot place places (with_value nat_cmp places k slot) (value_at nat_cmp places k) (with_value-same places k slot) (is_eq (nat_cmp k place.0)) there

-- ---- other flags

pub standing-flags : (places : Places) (k : ℕ) (flags : Flags) (found : Option (Option Message)) → value_at nat_cmp places k ≡ found → IsStanding places
    → IsStanding (flags_written places k flags found)
standing-flags places k flags None there standing = standing
standing-flags places k flags (Some None) there standing =
    record {
      ordered = ordered-with_value places k None standing.ordered;
      keyed = keyed-with_value places k None tt standing.keyed;
      next = next-with_value places k None standing.next;
    }
standing-flags places k flags (Some (Some message)) there standing =
    let at : message.uid ≡ k = uid_at places k message standing.keyed there in
    record {
      ordered = ordered-with_value places k (Some (relabelled message flags)) standing.ordered;
      keyed = keyed-with_value places k (Some (relabelled message flags)) at standing.keyed;
      next = next-with_value places k (Some (relabelled message flags)) standing.next;
    }

pub filled-flags_written : (places : Places) (k : ℕ) (flags : Flags) (found : Option (Option Message)) → value_at nat_cmp places k ≡ found → IsStanding places
    → filled (flags_written places k flags found) ≡ map (with_flags k flags) (filled places)
filled-flags_written places k flags None there standing = sym (filled-no_flags places k flags standing.ordered standing.keyed (ap flat there))
filled-flags_written places k flags (Some None) there standing =
    ap filled (with_value-same places k None there) ∙ sym (filled-no_flags places k flags standing.ordered standing.keyed (ap flat there))
filled-flags_written places k flags (Some (Some message)) there standing =
    filled-flags places k flags message standing.ordered standing.keyed (ap flat there)

pub kept-flags : (places : Places) (k : ℕ) (flags : Flags) (found : Option (Option Message)) → KeepsPlaces places (flags_written places k flags found)
kept-flags places k flags None q h = h
kept-flags places k flags (Some slot) q h = kept-with_value places k (option_map (λ message. relabelled message flags) slot) q h

-- ---- an insertion that may want memory

pub either : {A E : Type 0} (P : Places → Type 0) (result : Result A E) (old put new : Places) → OnOk result (new ≡ put) → OnErr result (new ≡ old)
    → P put → P old → P new
either P (Ok x) old put new ok err p o = subst P (sym ok) p
either P (Err e) old put new ok err p o = subst P (sym err) o

pub placed : {A E : Type 0} (result : Result A E) (put new : Places) (k : ℕ) → OnOk result (new ≡ put) → HasPlace put k → OnOk result (HasPlace new k)
placed (Ok x) put new k ok there = subst (λ places. HasPlace places k) (sym ok) there
placed (Err e) put new k ok there = tt
