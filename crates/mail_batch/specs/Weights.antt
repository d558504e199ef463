-- How many of the changes left a batch takes: at most 64, with a weight of at most 1,114,112 together, and at least one.
use Rattle.std.specs.Prelude.{ℕ, ◌+◌, ◌-◌, ◌^◌, nat_lt, min, Bool, true, false, not, ◌==◌, ◌||◌, ◌&&◌, if◌then◌else◌, List, [], ◌∷◌, length}
use Rattle.mur_base.specs.declared.limits.TheConstants.{BATCH_CHANGE_LIMIT, BATCH_WEIGHT_LIMIT, CHANGE_WEIGHT}
use Rattle.mail_message.specs.declared.change.Change.{Change}
use Rattle.mail_message.specs.declared.change.Change.TheVariants.{Put, SetFlags, Gone, NextUid}

-- the weight of a change with a body of so many bytes, at most the greatest number of 64 bits
abbrev pub weight_with : ℕ → ℕ
weight_with bytes = min (CHANGE_WEIGHT + bytes) (2 ^ 64 - 1)

-- a change weighs 2,048 and the bytes of its body
abbrev pub weight_of : Change → ℕ
weight_of (Put message) = weight_with (length message.body)
weight_of (SetFlags uid flags) = CHANGE_WEIGHT
weight_of (Gone uid) = CHANGE_WEIGHT
weight_of (NextUid next) = CHANGE_WEIGHT

-- a batch that has so many changes, and room for so much weight, takes a change of this weight; an empty batch takes any change
abbrev pub takes_change : ℕ → ℕ → ℕ → Bool
takes_change count room weight = (count == 0) || (nat_lt count BATCH_CHANGE_LIMIT && not (nat_lt room weight))

module _ (change : ℕ → Change) where
  -- a batch that has so many changes, and room for so much weight, takes these of the UIDs' changes, in their order
  abbrev pub batch_from : ℕ → ℕ → List ℕ → List Change
  batch_from count room [] = []
  batch_from count room (uid ∷ uids) =
      if takes_change count room (weight_of (change uid)) then change uid ∷ batch_from (count + 1) (room - weight_of (change uid)) uids else []

  -- it takes all of them
  abbrev pub all_fit_from : ℕ → ℕ → List ℕ → Bool
  all_fit_from count room [] = true
  all_fit_from count room (uid ∷ uids) =
      if takes_change count room (weight_of (change uid)) then all_fit_from (count + 1) (room - weight_of (change uid)) uids else false

  abbrev pub batch : List ℕ → List Change
  batch uids = batch_from 0 BATCH_WEIGHT_LIMIT uids

  abbrev pub all_fit : List ℕ → Bool
  all_fit uids = all_fit_from 0 BATCH_WEIGHT_LIMIT uids
