-- The test of flags decides whether they are the same.
use Rattle.std.proofs.Common.{◌≡◌, Bool, true, Decides, refl}
use Rattle.std.specs.Bool.{beq}
use Rattle.std.specs.Cmp.{booleans_Decides, first_so, second_so}
use Rattle.std.specs.Cmp.Lexicographic.{pointwise_decides, bytes_decides}
use Rattle.mail_message.specs.declared.system_flags.SystemFlags.{SystemFlags}
use Rattle.mail_message.specs.FlagSets.{Flags}
use Rattle.mail_message.specs.SameFlags.{is_same_system, is_same_flags}

system_is : (one other : SystemFlags) → is_same_system one other ≡ true → one ≡ other
system_is one other same =
    let b = second_so (beq one.answered other.answered) _ same in
    let c = second_so (beq one.flagged other.flagged) _ b in
    let d = second_so (beq one.deleted other.deleted) _ c in
    let answered = (booleans_Decides one.answered other.answered).0 (first_so (beq one.answered other.answered) _ same) in
    let flagged = (booleans_Decides one.flagged other.flagged).0 (first_so (beq one.flagged other.flagged) _ b) in
    let deleted = (booleans_Decides one.deleted other.deleted).0 (first_so (beq one.deleted other.deleted) _ c) in
    let seen = (booleans_Decides one.seen other.seen).0 (first_so (beq one.seen other.seen) _ d) in
    let draft = (booleans_Decides one.draft other.draft).0 (second_so (beq one.seen other.seen) _ d) in
    λ i. record { answered = answered i; flagged = flagged i; deleted = deleted i; seen = seen i; draft = draft i }

same_self : (b : Bool) → beq b b ≡ true
same_self b = (booleans_Decides b b).1 refl

pub flags_self : (flags : Flags) → is_same_flags flags flags ≡ true
unfolding is_same_flags
flags_self flags =
    let it = flags.system in
    rw (same_self it.answered, same_self it.flagged, same_self it.deleted, same_self it.seen, same_self it.draft)
    ((pointwise_decides bytes_decides flags.keywords flags.keywords).1 refl)

pub same_flags_decide : (one other : Flags) → Decides (is_same_flags one other) (one ≡ other)
unfolding is_same_flags
same_flags_decide one other = (
  λ same. let system = system_is one.system other.system (first_so (is_same_system one.system other.system) _ same) in
      let keywords = (pointwise_decides bytes_decides one.keywords other.keywords).0 (second_so (is_same_system one.system other.system) _ same) in
      λ i. record { system = system i; keywords = keywords i },
  λ same. rw same (flags_self other),
)
