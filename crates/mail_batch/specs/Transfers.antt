-- The steps of a transfer from its start to its end, in any order, and what each leaves.
use Rattle.std.specs.Prelude.{◌≡◌, ◌⊎◌, ℕ, Bool, true, false, ◌==◌, List, [], ◌∷◌, ◌++◌, take, drop, Option, None, Some}
use Rattle.std.specs.List.{fold, list_any}
use Rattle.mail_message.specs.declared.message.Message.{Message}
use Rattle.mail_message.specs.declared.change.Change.{Change}
use Rattle.mail_message.specs.declared.change.Change.TheVariants.{Put, SetFlags, Gone, NextUid}
use Rattle.mail_message.specs.Boxes.{Content, message_at, relabelled, uids_of, empty_box, content_after_all, is_touched, IsRising}
use Rattle.mail_batch.specs.Sweeps.{SweepState, noted, all_left, batch_of, after_sending_all, changes_left}

pub record Transfer : Type 0 where
  -- what the giver has still to send
  pub sweep : SweepState
  -- the giver's mailbox
  pub giver : Content
  -- the UIDs that messages of it had at any time since the start
  pub had : List ℕ
  -- the UIDs that were noted since a batch was sent
  pub fresh : List ℕ
  -- the batches that were sent and haven't come yet, the earliest first
  pub way : List (List Change)
  -- the taker's mailbox
  pub taken : Content

pub data TransferStep : Type 0 where
  -- the giver notes a UID
  notes : ℕ → TransferStep
  -- the giver's messages become these, and its UIDNEXT this
  becomes : List Message → ℕ → TransferStep
  -- the giver sends the next batch
  sends : TransferStep
  -- the first batch on the way comes, and the taker takes it
  comes : TransferStep

-- at the start the taker has an empty mailbox of the giver's UIDVALIDITY and access list
abbrev pub transfer_of : Content → Transfer
transfer_of giver = record {
  sweep = all_left giver.messages;
  giver = giver;
  had = uids_of giver.messages;
  fresh = [];
  way = [];
  taken = empty_box giver.serial giver.acl;
}

abbrev pub after_step : Transfer → TransferStep → Transfer
after_step transfer (notes uid) = record transfer { sweep = noted transfer.sweep uid; fresh = uid ∷ transfer.fresh }
after_step transfer (becomes messages next) =
    record transfer { giver = record transfer.giver { next = next; messages = messages }; had = transfer.had ++ uids_of messages }
after_step transfer sends = record transfer {
  sweep = after_sending_all transfer.sweep (batch_of transfer.sweep transfer.giver.messages);
  fresh = [];
  way = transfer.way ++ batch_of transfer.sweep transfer.giver.messages ∷ [];
}
after_step transfer comes = record transfer { way = drop 1 transfer.way; taken = fold content_after_all transfer.taken (take 1 transfer.way) }

abbrev pub after_steps : Transfer → List TransferStep → Transfer
after_steps transfer steps = fold after_step transfer steps

-- ---- what the giver's mailbox may become

abbrev pub lists_uid : List ℕ → ℕ → Bool
lists_uid uids uid = list_any (λ other. other == uid) uids

-- a message may get other flags, or go; where none is, a message may come if the mailbox never had one with its UID
abbrev pub IsAllowedChange : Bool → Option Message → Option Message → Type 0
IsAllowedChange had old None = Unit {0}
IsAllowedChange had (Some old) (Some message) = relabelled old message.flags ≡ message
IsAllowedChange had None (Some message) = had ≡ false

-- messages change only at UIDs that were noted
abbrev pub ChangesOnlyNoted : List ℕ → List ℕ → List Message → List Message → Type 0
ChangesOnlyNoted noted had old new = (uid : ℕ)
    → (message_at new uid ≡ message_at old uid)
    ⊎ ((lists_uid noted uid ≡ true) × IsAllowedChange (lists_uid had uid) (message_at old uid) (message_at new uid))

abbrev pub IsAllowed : Transfer → TransferStep → Type 0
IsAllowed transfer (notes uid) = Unit {0}
IsAllowed transfer (becomes messages next) = IsRising messages × ChangesOnlyNoted transfer.fresh transfer.had transfer.giver.messages messages
IsAllowed transfer sends = Unit {0}
IsAllowed transfer comes = Unit {0}

abbrev pub AreAllowed : Transfer → List TransferStep → Type 0
AreAllowed transfer [] = Unit {0}
AreAllowed transfer (step ∷ steps) = IsAllowed transfer step × AreAllowed (after_step transfer step) steps

-- ---- what the taker has

-- the taker's mailbox once the batches on the way have come
abbrev pub content_to_come : Transfer → Content
content_to_come transfer = fold content_after_all transfer.taken transfer.way

-- after the batches on the way, the changes left and the giver's UIDNEXT, the taker's mailbox is the giver's
abbrev pub TakerWillHaveAll : Transfer → Type 0
TakerWillHaveAll transfer =
    record (content_after_all (content_to_come transfer) (changes_left transfer.sweep transfer.giver.messages)) { next = transfer.giver.next } ≡ transfer.giver

-- after the giver's UIDNEXT alone it is the giver's
abbrev pub TakerHasAll : Transfer → Type 0
TakerHasAll transfer = record transfer.taken { next = transfer.giver.next } ≡ transfer.giver

-- ---- changes that a giver may carry out

abbrev pub puts_at : ℕ → Change → Bool
puts_at uid (Put message) = message.uid == uid
puts_at uid (SetFlags named flags) = false
puts_at uid (Gone named) = false
puts_at uid (NextUid next) = false

-- each UID of the changes was noted, and messages are put only at UIDs that the mailbox never had
pub record MayCarryOut (transfer : Transfer) (changes : List Change) : Type 0 where
  pub noted_first : (uid : ℕ) → list_any (is_touched uid) changes ≡ true → lists_uid transfer.fresh uid ≡ true
  pub new_only : (uid : ℕ) → list_any (puts_at uid) changes ≡ true → lists_uid transfer.had uid ≡ false

-- the step in which the giver carries changes out
abbrev pub carries_out : Transfer → List Change → TransferStep
carries_out transfer changes = becomes (content_after_all transfer.giver changes).messages (content_after_all transfer.giver changes).next
