-- The UIDs that an APPEND gives rise strictly.
use Rattle.std.proofs.Common.{◌≡◌, ℕ, ◌+◌, ◌<◌, List, [], ◌∷◌, sym, arith}
use Rattle.std.specs.Cmp.{nat_cmp_is}
use Rattle.std.specs.List.{AllByRecursion}
use Rattle.std.specs.List.Sorted.{IsStrictlySortedBy}
use Rattle.std.specs.Ordering.{nat_cmp}
use Rattle.std.specs.declared.cmp.Ordering.TheVariants.{Less}
use Rattle.mail_message.specs.declared.message.Message.{Message}
use Rattle.mail_store.specs.Append.{uids_from}

above : (uid first : ℕ) (messages : List Message) → uid < first → AllByRecursion (λ other. nat_cmp uid other ≡ Less) (uids_from first messages)
above uid first [] lt = tt
above uid first (message ∷ messages) lt = (sym (nat_cmp_is uid first Less lt), above uid (first + 1) messages (omega arith))

pub rising-uids : (first : ℕ) (messages : List Message) → IsStrictlySortedBy nat_cmp (uids_from first messages)
unfolding IsStrictlySortedBy
rising-uids first [] = tt
rising-uids first (message ∷ messages) = (above first (first + 1) messages (omega arith), rising-uids (first + 1) messages)
