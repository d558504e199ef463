-- Changes that are carried out one after the other.
use Rattle.std.proofs.Common.{◌≡◌, ℕ, ◌+◌, ◌<◌, ◌≤◌, List, [], ◌∷◌, length, take, get_or, refl, subst}
use Rattle.std.specs.Prelude.{All}
use Rattle.std.specs.List.{fold}
use Rattle.std.proofs.lemmas.List.{take_all}
use Rattle.std.proofs.lemmas.List.Elements.{All-weaker, All-more, recursion_from_All}
use Rattle.mail_message.specs.declared.change.Change.{Change}
use Rattle.mail_message.specs.declared.change.Change.TheVariants.{Put, SetFlags, Gone, NextUid}
use Rattle.mail_message.specs.Boxes.{Content, messages_after, next_after, content_after, content_after_all}
use Rattle.mail_message.specs.Slots.{Places, HasPlaceFor, HasPlaces, KeepsPlaces}

kept_for : (old new : Places) → KeepsPlaces old new → (change : Change) → HasPlaceFor old change → HasPlaceFor new change
kept_for old new kept (Put message) place = kept message.uid place
kept_for old new kept (SetFlags uid flags) place = tt
kept_for old new kept (Gone uid) place = tt
kept_for old new kept (NextUid next) place = tt

-- one place more
pub places-more : (old new : Places) (changes : List Change) (i : ℕ) (change : Change) → KeepsPlaces old new → i < length changes
    → change ≡ get_or changes i change
    → All (HasPlaceFor old) (take i changes) → HasPlaceFor new change → All (HasPlaceFor new) (take (i + 1) changes)
places-more old new changes i change kept within is all place =
    All-more (HasPlaceFor new) changes i change within (All-weaker (HasPlaceFor old) (HasPlaceFor new) (kept_for old new kept) (take i changes) all)
    (subst (HasPlaceFor new) is place)

pub places-all : (places : Places) (changes : List Change) (i : ℕ) → length changes ≤ i → All (HasPlaceFor places) (take i changes) → HasPlaces places changes
places-all places changes i end all = recursion_from_All (HasPlaceFor places) changes (subst (All (HasPlaceFor places)) (take_all i changes end) all)

-- UIDNEXT and the messages change side by side
pub content-parts : (box : Content) (changes : List Change)
    → content_after_all box changes ≡ record box { next = fold next_after box.next changes; messages = fold messages_after box.messages changes }
content-parts box [] = refl
content-parts box (change ∷ changes) = content-parts (content_after box change) changes
