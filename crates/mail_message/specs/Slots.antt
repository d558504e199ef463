-- Messages by UID, with empty places for messages that are to come.
use Rattle.std.specs.Prelude.{◌≡◌, ℕ, true, List, [], ◌∷◌, ◌++◌, Option, Some, None, is_some}
use Rattle.std.specs.Option.{option_to_list, option_map, IfSome}
use Rattle.std.specs.List.{AllByRecursion}
use Rattle.std.specs.Map.{keys_of}
use Rattle.std.specs.Ordering.{nat_cmp}
use Rattle.mur_base.specs.Map.{value_at, with_value, IsInOrder}
use Rattle.mail_message.specs.declared.message.Message.{Message}
use Rattle.mail_message.specs.FlagSets.{Flags}
use Rattle.mail_message.specs.Boxes.{relabelled}
use Rattle.mail_message.specs.RowOrder.{HasNext}
use Rattle.mail_message.specs.declared.change.Change.{Change}
use Rattle.mail_message.specs.declared.change.Change.TheVariants.{Put, SetFlags, Gone, NextUid}

abbrev pub Places : Type 0
Places = List (ℕ × Option Message)

-- the messages that stand in their places
abbrev pub filled : Places → List Message
filled [] = []
filled (place ∷ places) = option_to_list place.1 ++ filled places

-- each message stands at its UID
abbrev pub IsKeyed : Places → Type 0
IsKeyed places = AllByRecursion (λ place. IfSome place.1 (λ message. message.uid ≡ place.0)) places

-- the places stand in rising order of UID, each message at its own, and above each there is a UIDNEXT
pub record IsStanding (places : Places) : Type 0 where
  pub ordered : IsInOrder nat_cmp places
  pub keyed : IsKeyed places
  pub next : AllByRecursion HasNext (keys_of places)

-- the message in a place, where there is a place and a message in it
abbrev pub flat : Option (Option Message) → Option Message
flat None = None
flat (Some slot) = slot

-- the places with other flags at the message of a UID, by what is found there
abbrev pub flags_written : Places → ℕ → Flags → Option (Option Message) → Places
flags_written places uid flags None = places
flags_written places uid flags (Some slot) = with_value nat_cmp places uid (option_map (λ message. relabelled message flags) slot)

-- there is a place for a UID, empty or not
abbrev pub HasPlace : Places → ℕ → Type 0
HasPlace places uid = is_some (value_at nat_cmp places uid) ≡ true

-- there is a place for what a change puts
abbrev pub HasPlaceFor : Places → Change → Type 0
HasPlaceFor places (Put message) = HasPlace places message.uid
HasPlaceFor places (SetFlags uid flags) = Unit {0}
HasPlaceFor places (Gone uid) = Unit {0}
HasPlaceFor places (NextUid next) = Unit {0}

-- there is a place for all that changes put
abbrev pub HasPlaces : Places → List Change → Type 0
HasPlaces places changes = AllByRecursion (HasPlaceFor places) changes

-- no place is lost
abbrev pub KeepsPlaces : Places → Places → Type 0
KeepsPlaces old new = (uid : ℕ) → HasPlace old uid → HasPlace new uid
