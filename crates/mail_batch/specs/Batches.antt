-- A batch has the changes of the lowest UIDs left.
use Rattle.std.specs.Prelude.{◌≡◌, ℕ, ◌≤◌, List, ◌++◌, map, length}
use Rattle.std.specs.List.{AllByRecursion}
use Rattle.std.specs.Map.{keys_of}
use Rattle.mur_base.specs.declared.limits.TheConstants.{MESSAGE_LIMIT}
use Rattle.mail_message.specs.declared.message.Message.{Message}
use Rattle.mail_message.specs.declared.change.Change.{Change}
use Rattle.mail_batch.specs.Sweeps.{SweepState, after_sending_all}

-- the changes are those of the first UIDs left, and once they are sent the other UIDs are left
pub record IsOfFirstLeft (change : ℕ → Change) (sweep : SweepState) (changes : List Change) : Type 0 where
  pub first : List (ℕ × Unit {0})
  pub whole : sweep.left ≡ first ++ (after_sending_all sweep changes).left
  pub same : changes ≡ map change (keys_of first)

-- no message is longer than a message may be
abbrev pub AreWithinLimit : List Message → Type 0
AreWithinLimit messages = AllByRecursion (λ message. length message.body ≤ MESSAGE_LIMIT) messages
