-- A change leaves every message as it was whose UID it doesn't name.
use Rattle.std.proofs.Common.{◌≡◌, ℕ, Bool, true, false, cond, not, ◌==◌, ◌||◌, List, [], ◌∷◌, map, Some, refl, ◌∙◌, ap, arith}
use Rattle.std.specs.List.{list_any}
use Rattle.std.specs.declared.cmp.Ordering.{Ordering}
use Rattle.std.specs.declared.cmp.Ordering.TheVariants.{Less, Equal, Greater}
use Rattle.std.specs.Ordering.{is_eq, nat_cmp, match_ordering}
use Rattle.std.proofs.lemmas.Bool.Decides.{nat_tests}
use Rattle.mail_message.specs.declared.message.Message.{Message}
use Rattle.mail_message.specs.declared.change.Change.{Change}
use Rattle.mail_message.specs.declared.change.Change.TheVariants.{Put, SetFlags, Gone, NextUid}
use Rattle.mail_message.specs.FlagSets.{Flags}
use Rattle.mail_message.specs.Boxes.{Content, message_at, with_message, without_uid}
use Rattle.mail_message.specs.Boxes.{with_flags, relabelled, messages_after, content_after, content_after_all, is_touched}
use Rattle.mail_message.proofs.SlotLaws.{same_key}

apart : (k x q : ℕ) → (k == q) ≡ false → (x == k) ≡ true → (x == q) ≡ false
apart k x q ne same = grind (arith, nat_tests, ne, same)

put_by : (message other : Message) (messages others : List Message) (q : ℕ) → (message.uid == q) ≡ false → message_at others q ≡ message_at messages q
    → (o : Ordering) → nat_cmp message.uid other.uid ≡ o
    → message_at (match_ordering o (message ∷ other ∷ messages) (message ∷ messages) (other ∷ others)) q ≡ message_at (other ∷ messages) q
put_by message other messages others q ne ih Less h = rw ne refl
put_by message other messages others q ne ih Equal h =
    let same : (other.uid == message.uid) ≡ true = let e = same_key message.uid other.uid (ap is_eq h) in grind (arith, nat_tests, e) in
    rw (ne, apart message.uid other.uid q ne same) refl
put_by message other messages others q ne ih Greater h = ap (λ found. cond (other.uid == q) (Some other) found) ih

put_other : (messages : List Message) (message : Message) (q : ℕ) → (message.uid == q) ≡ false
    → message_at (with_message messages message) q ≡ message_at messages q
put_other [] message q ne = rw ne refl
put_other (other ∷ messages) message q ne =
    put_by message other messages (with_message messages message) q ne (put_other messages message q ne) (nat_cmp message.uid other.uid) refl

gone_by : (k : ℕ) (other : Message) (messages others : List Message) (q : ℕ) → (k == q) ≡ false → message_at others q ≡ message_at messages q
    → (b : Bool) → (other.uid == k) ≡ b → message_at (cond (not b) (other ∷ others) others) q ≡ message_at (other ∷ messages) q
gone_by k other messages others q ne ih true h = rw (apart k other.uid q ne h) ih
gone_by k other messages others q ne ih false h = ap (λ found. cond (other.uid == q) (Some other) found) ih

gone_other : (messages : List Message) (k q : ℕ) → (k == q) ≡ false → message_at (without_uid messages k) q ≡ message_at messages q
gone_other [] k q ne = refl
gone_other (other ∷ messages) k q ne =
    gone_by k other messages (without_uid messages k) q ne (gone_other messages k q ne) (other.uid == k) refl

flags_by : (k : ℕ) (flags : Flags) (other : Message) (messages others : List Message) (q : ℕ) → (k == q) ≡ false → message_at others q ≡ message_at messages q
    → (b : Bool) → (other.uid == k) ≡ b → message_at (cond b (relabelled other flags) other ∷ others) q ≡ message_at (other ∷ messages) q
flags_by k flags other messages others q ne ih true h =
    let other_uid : (other.uid == q) ≡ false = apart k other.uid q ne h in rw other_uid ih
flags_by k flags other messages others q ne ih false h = ap (λ found. cond (other.uid == q) (Some other) found) ih

flags_other : (messages : List Message) (k : ℕ) (flags : Flags) (q : ℕ) → (k == q) ≡ false
    → message_at (map (with_flags k flags) messages) q ≡ message_at messages q
flags_other [] k flags q ne = refl
flags_other (other ∷ messages) k flags q ne =
    flags_by k flags other messages (map (with_flags k flags) messages) q ne (flags_other messages k flags q ne) (other.uid == k) refl

pub other-after : (messages : List Message) (change : Change) (q : ℕ) → is_touched q change ≡ false
    → message_at (messages_after messages change) q ≡ message_at messages q
other-after messages (Put message) q ne = put_other messages message q ne
other-after messages (SetFlags uid flags) q ne = flags_other messages uid flags q ne
other-after messages (Gone uid) q ne = gone_other messages uid q ne
other-after messages (NextUid next) q ne = refl

pub first_not : (a b : Bool) → (a || b) ≡ false → a ≡ false
first_not true b h = h
first_not false b h = refl

pub later_not : (a b : Bool) → (a || b) ≡ false → b ≡ false
later_not true b h = cc
later_not false b h = h

pub other-after_all : (box : Content) (changes : List Change) (q : ℕ) → list_any (is_touched q) changes ≡ false
    → message_at (content_after_all box changes).messages q ≡ message_at box.messages q
other-after_all box [] q untouched = refl
other-after_all box (change ∷ changes) q untouched =
    other-after_all (content_after box change) changes q (later_not (is_touched q change) (list_any (is_touched q) changes) untouched)
    ∙ other-after box.messages change q (first_not (is_touched q change) (list_any (is_touched q) changes) untouched)
