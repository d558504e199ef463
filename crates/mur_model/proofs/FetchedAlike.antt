-- A fetch of items, each of which what is kept of a message tells: its row, or its summary.
use Rattle.std.proofs.Common.{◌≡◌, ℕ, Bool, true, false, ◌&&◌, if◌then◌else◌, List, [], ◌∷◌, ◌++◌, map, refl}
use Rattle.std.proofs.Common.{not}
use Rattle.std.specs.List.{list_all, list_any}
use Rattle.std.proofs.lemmas.List.Folds.{list_all-append}
use Rattle.mail_fetch.specs.Parts.{part_text}
use Rattle.mail_message.specs.declared.item.Item.{Item}
use Rattle.mail_message.specs.declared.item.Item.TheVariants as item
use Rattle.mail_message.specs.declared.message.Message.{Message}
use Rattle.mur_model.specs.declared.commands.fetch.Fetching.{Fetching}
use Rattle.mur_model.specs.Fetch.{is_body, is_uid_item, items_told}

pub and_left : (one other : Bool) → (one && other) ≡ true → one ≡ true
and_left true other is = refl
and_left false other is = is

pub and_right : (one other : Bool) → (one && other) ≡ true → other ≡ true
and_right true other is = is
and_right false other is = absurd (cc)

-- what it tells of each item it tells of all
pub parts_same : {X : Type 0} (kept : Message → X) (told : Item → Bool) (part : Item → X → List ℕ)
    → ((asked : Item) (message : Message) → told asked ≡ true → part_text asked message ≡ part asked (kept message))
    → (items : List Item) (message : Message) → list_all told items ≡ true
    → map (λ asked. part_text asked message) items ≡ map (λ asked. part asked (kept message)) items
parts_same kept told part each [] message are = refl
parts_same kept told part each (asked ∷ items) message are =
    let one : part_text asked message ≡ part asked (kept message) = each asked message (and_left (told asked) (list_all told items) are) in
    let others = parts_same kept told part each items message (and_right (told asked) (list_all told items) are) in
    rw (one, others) refl

-- the items that are told without being asked for are told too
pub all_told : (told : Item → Bool) (it : Fetching) → told item.Uid ≡ true → list_all told it.items ≡ true → list_all told (items_told it false) ≡ true
all_told told it uid are = by (it.by_uid && not (list_any is_uid_item it.items))
  where
    asked : list_all told (it.items ++ []) ≡ true
    asked = rw (list_all-append told it.items [], are) refl

    by : (test : Bool) → list_all told ((if test then item.Uid ∷ [] else []) ++ it.items ++ []) ≡ true
    by true = rw (uid, asked) refl
    by false = asked

-- no message gets \Seen where no item that is told gives it
pub none_seen : (told : Item → Bool) → ((it : Item) → told it ≡ true → is_body it ≡ false)
    → (items : List Item) → list_all told items ≡ true → list_any is_body items ≡ false
none_seen told none [] are = refl
none_seen told none (asked ∷ items) are =
    rw (
      none asked (and_left (told asked) (list_all told items) are),
      none_seen told none items (and_right (told asked) (list_all told items) are),
    ) refl
