-- What the taker has of the giver's messages while changes are left: the fact that each step of a transfer keeps.
use Rattle.std.proofs.Common.{◌≡◌, ◌⊎◌, ℕ, Bool, true, false, List, Option, None, Some}
use Rattle.std.specs.Option.{is_some}
use Rattle.std.specs.Ordering.{nat_cmp}
use Rattle.mur_base.specs.Map.{value_at}
use Rattle.mail_message.specs.declared.message.Message.{Message}
use Rattle.mail_message.specs.Boxes.{message_at, relabelled}
use Rattle.mail_batch.specs.Sweeps.{SweepState, is_left, is_sent}

-- the giver's message, if it is there, is the taker's but for the flags
abbrev pub IsLabelled : Option Message → Option Message → Type 0
IsLabelled None taken = Unit {0}
IsLabelled (Some message) None = ⊥
IsLabelled (Some message) (Some taken) = relabelled taken message.flags ≡ message

-- Of the giver's messages the taker has those of which no change is left; of those that it was sent it has all but the flags.
-- `taken` is the taker's mailbox once all that was sent has come.
pub record Agrees (sweep : SweepState) (messages taken : List Message) : Type 0 where
  pub kept : (uid : ℕ) → is_left sweep uid ≡ false → message_at taken uid ≡ message_at messages uid
  pub sent : (uid : ℕ) → is_sent sweep uid ≡ true → IsLabelled (message_at messages uid) (message_at taken uid)
  pub placed : (uid : ℕ) → is_left sweep uid ≡ true → is_some (value_at nat_cmp sweep.known uid) ≡ true

-- a message gets other flags or goes, and a new one comes only where the taker has none
abbrev pub MayBecome : Bool → Option Message → Option Message → Type 0
MayBecome sent old None = Unit {0}
MayBecome false old (Some message) = Unit {0}
MayBecome true None (Some message) = ⊥
MayBecome true (Some old) (Some message) = relabelled old message.flags ≡ message

-- the giver's messages change so, and only at UIDs of which a change is left
abbrev pub MayChange : SweepState → List Message → List Message → Type 0
MayChange sweep old new = (uid : ℕ)
    → (message_at new uid ≡ message_at old uid) ⊎ ((is_left sweep uid ≡ true) × MayBecome (is_sent sweep uid) (message_at old uid) (message_at new uid))
