-- A change keeps messages in rising order of UID, and two rising lists with the same message at each UID are equal.
use Rattle.std.proofs.Common.{◌≡◌, ◌⊎◌, inl, inr, ℕ, Bool, true, false, cond, ◌==◌, not, List, [], ◌∷◌, map, Some, None, unwrap_or, refl, sym, ◌∙◌, ap}
use Rattle.std.proofs.Common.{subst, arith}
use Rattle.std.specs.List.{AllByRecursion, fold}
use Rattle.std.specs.List.Sorted.{IsStrictlySortedBy}
use Rattle.std.specs.Ordering.{is_eq, nat_cmp, match_ordering, ordering_reverse}
use Rattle.std.specs.declared.cmp.Ordering.{Ordering}
use Rattle.std.specs.declared.cmp.Ordering.TheVariants.{Less, Equal, Greater}
use Rattle.std.proofs.lemmas.Bool.Decides.{nat_tests}
use Rattle.std.proofs.lemmas.Cmp.{nat_cmp_total}
use Rattle.mur_base.proofs.MapLaws.{numbers_apart}
use Rattle.mail_message.specs.declared.message.Message.{Message}
use Rattle.mail_message.specs.declared.change.Change.{Change}
use Rattle.mail_message.specs.declared.change.Change.TheVariants.{Put, SetFlags, Gone, NextUid}
use Rattle.mail_message.specs.FlagSets.{Flags}
use Rattle.mail_message.specs.Boxes.{message_at, with_message, without_uid, with_flags, relabelled, messages_after, uids_of, IsRising}

abbrev Above : ℕ → List Message → Type 0
Above k messages = AllByRecursion (λ q. nat_cmp k q ≡ Less) (uids_of messages)

above_lower : (j k : ℕ) (messages : List Message) → nat_cmp j k ≡ Less → Above k messages → Above j messages
above_lower j k [] less above = tt
above_lower j k (message ∷ messages) less above = (nat_cmp_total.trans j k message.uid less above.0, above_lower j k messages less above.1)

-- ---- a message that is put

above_by : (k : ℕ) (message other : Message) (messages others : List Message) → nat_cmp k message.uid ≡ Less → Above k (other ∷ messages) → Above k others
    → (o : Ordering) → Above k (match_ordering o (message ∷ other ∷ messages) (message ∷ messages) (other ∷ others))
above_by k message other messages others less above ih Less = (less, above)
above_by k message other messages others less above ih Equal = (less, above.1)
above_by k message other messages others less above ih Greater = (above.0, ih)

above_put : (k : ℕ) (message : Message) (messages : List Message) → nat_cmp k message.uid ≡ Less → Above k messages → Above k (with_message messages message)
above_put k message [] less above = (less, tt)
above_put k message (other ∷ messages) less above =
    above_by k message other messages (with_message messages message) less above (above_put k message messages less above.1)
    (nat_cmp message.uid other.uid)

put_by : (message other : Message) (messages : List Message) → IsRising (other ∷ messages) → IsRising (with_message messages message)
    → (o : Ordering) → nat_cmp message.uid other.uid ≡ o
    → IsRising (match_ordering o (message ∷ other ∷ messages) (message ∷ messages) (other ∷ with_message messages message))
unfolding IsStrictlySortedBy
put_by message other messages rising ih Less h = ((h, above_lower message.uid other.uid messages h rising.0), rising)
put_by message other messages rising ih Equal h =
    (subst (λ k. Above k messages) (sym (numbers_apart.exact message.uid other.uid (ap is_eq h))) rising.0, rising.1)
put_by message other messages rising ih Greater h =
    (above_put other.uid message messages (nat_cmp_total.antisymm other.uid message.uid ∙ ap ordering_reverse h) rising.0, ih)

rising_put : (message : Message) (messages : List Message) → IsRising messages → IsRising (with_message messages message)
unfolding IsStrictlySortedBy
rising_put message [] rising = (tt, tt)
rising_put message (other ∷ messages) rising =
    put_by message other messages rising (rising_put message messages rising.1) (nat_cmp message.uid other.uid) refl

-- ---- one that goes, and other flags

above_gone_by : (k : ℕ) (other : Message) (others : List Message) → nat_cmp k other.uid ≡ Less → Above k others → (b : Bool)
    → Above k (cond b (other ∷ others) others)
above_gone_by k other others less above true = (less, above)
above_gone_by k other others less above false = above

above_gone : (k uid : ℕ) (messages : List Message) → Above k messages → Above k (without_uid messages uid)
above_gone k uid [] above = tt
above_gone k uid (other ∷ messages) above =
    above_gone_by k other (without_uid messages uid) above.0 (above_gone k uid messages above.1) (not (other.uid == uid))

gone_by : (other : Message) (others : List Message) → Above other.uid others → IsRising others → (b : Bool) → IsRising (cond b (other ∷ others) others)
unfolding IsStrictlySortedBy
gone_by other others above rising true = (above, rising)
gone_by other others above rising false = rising

rising_gone : (uid : ℕ) (messages : List Message) → IsRising messages → IsRising (without_uid messages uid)
unfolding IsStrictlySortedBy
rising_gone uid [] rising = tt
rising_gone uid (other ∷ messages) rising =
    gone_by other (without_uid messages uid) (above_gone other.uid uid messages rising.0) (rising_gone uid messages rising.1) (not (other.uid == uid))

uid_by : (flags : Flags) (message : Message) (b : Bool) → (cond b (relabelled message flags) message).uid ≡ message.uid
uid_by flags message true = refl
uid_by flags message false = refl

uids_flagged : (uid : ℕ) (flags : Flags) (messages : List Message) → uids_of (map (with_flags uid flags) messages) ≡ uids_of messages
uids_flagged uid flags [] = refl
uids_flagged uid flags (message ∷ messages) = rw (uid_by flags message (message.uid == uid), uids_flagged uid flags messages) refl

pub rising-after : (messages : List Message) (change : Change) → IsRising messages → IsRising (messages_after messages change)
rising-after messages (Put message) rising = rising_put message messages rising
rising-after messages (SetFlags uid flags) rising = subst (IsStrictlySortedBy nat_cmp) (sym (uids_flagged uid flags messages)) rising
rising-after messages (Gone uid) rising = rising_gone uid messages rising
rising-after messages (NextUid next) rising = rising

pub rising-after_all : (messages : List Message) (changes : List Change) → IsRising messages → IsRising (fold messages_after messages changes)
rising-after_all messages [] rising = rising
rising-after_all messages (change ∷ changes) rising = rising-after_all (messages_after messages change) changes (rising-after messages change rising)

-- ---- rising lists with the same message at each UID are equal

none_by : (message : Message) (messages : List Message) (q : ℕ) → nat_cmp q message.uid ≡ Less → message_at messages q ≡ None
    → (b : Bool) → (message.uid == q) ≡ b → cond b (Some message) (message_at messages q) ≡ None
none_by message messages q less ih true h =
    let same : message.uid ≡ q = grind (arith, nat_tests, h) in
    let equal : is_eq (nat_cmp q message.uid) ≡ true = subst (λ x. is_eq (nat_cmp q x) ≡ true) (sym same) (numbers_apart.itself q) in
    let not_equal : is_eq (nat_cmp q message.uid) ≡ false = ap is_eq less in cc
none_by message messages q less ih false h = ih

lower : (q k uid : ℕ) → (q ≡ k) ⊎ (nat_cmp q k ≡ Less) → nat_cmp k uid ≡ Less → nat_cmp q uid ≡ Less
lower q k uid (inl same) less = subst (λ x. nat_cmp x uid ≡ Less) (sym same) less
lower q k uid (inr less) more = nat_cmp_total.trans q k uid less more

none_above : (k : ℕ) (messages : List Message) → Above k messages → (q : ℕ) → (q ≡ k) ⊎ (nat_cmp q k ≡ Less) → message_at messages q ≡ None
none_above k [] above q which = refl
none_above k (message ∷ messages) above q which =
    none_by message messages q (lower q k message.uid which above.0) (none_above k messages above.1 q which) (message.uid == q) refl

some_is : (message other : Message) → Some message ≡ Some other → message ≡ other
some_is message other same = ap (λ found. unwrap_or found message) same

there : (message : Message) (messages : List Message) → message_at (message ∷ messages) message.uid ≡ Some message
there message messages = let same : (message.uid == message.uid) ≡ true = grind (arith, nat_tests) in rw same refl

-- the first messages are the same
first_by : (x y : Message) (xs ys : List Message) → Above x.uid xs → Above y.uid ys → ((q : ℕ) → message_at (x ∷ xs) q ≡ message_at (y ∷ ys) q)
    → (o : Ordering) → nat_cmp x.uid y.uid ≡ o → x ≡ y
first_by x y xs ys ax ay same Less h =
    let none : message_at (y ∷ ys) x.uid ≡ None = none_above x.uid (y ∷ ys) (h, above_lower x.uid y.uid ys h ay) x.uid (inl refl) in
    let some : Some x ≡ None = sym (there x xs) ∙ same x.uid ∙ none in cc
first_by x y xs ys ax ay same Equal h =
    let uid : x.uid ≡ y.uid = numbers_apart.exact x.uid y.uid (ap is_eq h) in
    some_is x y (sym (there x xs) ∙ same x.uid ∙ subst (λ k. message_at (y ∷ ys) k ≡ Some y) (sym uid) (there y ys))
first_by x y xs ys ax ay same Greater h =
    let less : nat_cmp y.uid x.uid ≡ Less = nat_cmp_total.antisymm y.uid x.uid ∙ ap ordering_reverse h in
    let none : message_at (x ∷ xs) y.uid ≡ None = none_above y.uid (x ∷ xs) (less, above_lower y.uid x.uid xs less ax) y.uid (inl refl) in
    let some : Some y ≡ None = sym (there y ys) ∙ sym (same y.uid) ∙ none in cc

rest_by : (x : Message) (xs ys : List Message) (q : ℕ) → message_at xs x.uid ≡ None → message_at ys x.uid ≡ None
    → message_at (x ∷ xs) q ≡ message_at (x ∷ ys) q → (b : Bool) → (x.uid == q) ≡ b → message_at xs q ≡ message_at ys q
rest_by x xs ys q nx ny same true h =
    let uid : x.uid ≡ q = grind (arith, nat_tests, h) in
    subst (λ k. message_at xs k ≡ None) uid nx ∙ sym (subst (λ k. message_at ys k ≡ None) uid ny)
rest_by x xs ys q nx ny same false h = rw h at same

-- rising messages of which the same are found are the same
pub same-messages : (xs ys : List Message) → IsRising xs → IsRising ys → ((q : ℕ) → message_at xs q ≡ message_at ys q) → xs ≡ ys
unfolding IsStrictlySortedBy
same-messages [] [] rx ry same = refl
same-messages [] (y ∷ ys) rx ry same = let some : None ≡ Some y = same y.uid ∙ there y ys in cc
same-messages (x ∷ xs) [] rx ry same = let some : Some x ≡ None = sym (there x xs) ∙ same x.uid in cc
same-messages (x ∷ xs) (y ∷ ys) rx ry same =
    let first : x ≡ y = first_by x y xs ys rx.0 ry.0 same (nat_cmp x.uid y.uid) refl in
    let ay : Above x.uid ys = subst (λ (m : Message). Above m.uid ys) (sym first) ry.0 in
    let alike : (q : ℕ) → message_at (x ∷ xs) q ≡ message_at (x ∷ ys) q =
    λ q. subst (λ m. message_at (x ∷ xs) q ≡ message_at (m ∷ ys) q) (sym first) (same q) in
    let rest = same-messages xs ys rx.1 ry.1 (λ q. rest_by x xs ys q (none_above x.uid xs rx.0 x.uid (inl refl)) (none_above x.uid ys ay x.uid (inl refl))
    (alike q) (x.uid == q) refl) in
    ap (λ (m : Message). m ∷ xs) first ∙ ap (λ ms. y ∷ ms) rest
