-- UIDNEXT above each place, and so above each message and row.
use Rattle.std.proofs.Common.{◌≡◌, ℕ, Bool, true, false, cond, ◌==◌, List, [], ◌∷◌, ◌++◌, map, Option, Some, None, sym, subst}
use Rattle.std.specs.List.{AllByRecursion}
use Rattle.std.specs.Option.{option_to_list, IfSome}
use Rattle.std.specs.declared.cmp.Ordering.{Ordering}
use Rattle.std.specs.declared.cmp.Ordering.TheVariants.{Less, Equal, Greater}
use Rattle.std.specs.Ordering.{is_eq, nat_cmp, match_ordering}
use Rattle.std.specs.BTreeMap.{is_at}
use Rattle.std.specs.Map.{keys_of}
use Rattle.std.proofs.lemmas.Map.{keys-set_value}
use Rattle.mur_base.specs.Map.{with_entry, without_key, with_value}
use Rattle.mail_message.specs.declared.message.Message.{Message}
use Rattle.mail_message.specs.Boxes.{message_at, row_of}
use Rattle.mail_message.specs.RowOrder.{HasNext, HaveNext}
use Rattle.mail_message.specs.Slots.{Places, filled, IsKeyed}

abbrev Next : Places → Type 0
Next places = AllByRecursion HasNext (keys_of places)

-- ---- places

entry_by : (k : ℕ) (slot : Option Message) (place : ℕ × Option Message) (places others : Places) → HasNext k → Next (place ∷ places) → Next others
    → (o : Ordering) → Next (match_ordering o ((k, slot) ∷ place ∷ places) ((place.0, slot) ∷ places) (place ∷ others))
entry_by k slot place places others has next ih Less = (has, next)
entry_by k slot place places others has next ih Equal = next
entry_by k slot place places others has next ih Greater = (next.0, ih)

pub next-with_entry : (places : Places) (k : ℕ) (slot : Option Message) → HasNext k → Next places → Next (with_entry nat_cmp places k slot)
next-with_entry [] k slot has next = (has, tt)
next-with_entry (place ∷ places) k slot has next =
    entry_by k slot place places (with_entry nat_cmp places k slot) has next (next-with_entry places k slot has next.1) (nat_cmp k place.0)

pub next-with_value : (places : Places) (k : ℕ) (slot : Option Message) → Next places → Next (with_value nat_cmp places k slot)
next-with_value places k slot next = subst (AllByRecursion HasNext) (sym (keys-set_value (is_at (nat_cmp k)) places slot)) next

without_by : (place : ℕ × Option Message) (places others : Places) → Next (place ∷ places) → Next others → (b : Bool) → Next (cond b places (place ∷ others))
without_by place places others next ih true = next.1
without_by place places others next ih false = (next.0, ih)

pub next-without_key : (places : Places) (k : ℕ) → Next places → Next (without_key nat_cmp places k)
next-without_key [] k next = tt
next-without_key (place ∷ places) k next =
    without_by place places (without_key nat_cmp places k) next (next-without_key places k next.1) (is_eq (nat_cmp k place.0))

-- ---- messages and their rows

head_of : (uid : ℕ) (slot : Option Message) (messages : List Message) → HasNext uid → IfSome slot (λ message. message.uid ≡ uid)
    → HaveNext (map row_of messages) → HaveNext (map row_of (option_to_list slot ++ messages))
head_of uid None messages has at next = next
head_of uid (Some message) messages has at next = (subst HasNext (sym at) has, next)

pub next-rows : (places : Places) → IsKeyed places → Next places → HaveNext (map row_of (filled places))
next-rows [] keyed next = tt
next-rows (place ∷ places) keyed next = head_of place.0 place.1 (filled places) next.0 keyed.0 (next-rows places keyed.1 next.1)

-- a message that is found is one of those
pub next-found : (messages : List Message) (uid : ℕ) → HaveNext (map row_of messages) → IfSome (message_at messages uid) (λ message. HasNext message.uid)
next-found [] uid next = tt
next-found (message ∷ messages) uid next = by (message.uid == uid) (next-found messages uid next.1)
  where
    by : (here : Bool) → IfSome (message_at messages uid) (λ message. HasNext message.uid)
        → IfSome (cond here (Some message) (message_at messages uid)) (λ message. HasNext message.uid)
    by true ih = next.0
    by false ih = ih
