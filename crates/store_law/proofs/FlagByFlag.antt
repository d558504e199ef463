-- What a STORE makes of flags is what its mode says, flag by flag.
use Rattle.std.proofs.Common.{◌≡◌, Bool, true, false, not, ◌&&◌, ◌||◌, refl, inl, inr, ⊎_elim}
use Rattle.std.specs.Prelude.{◌⊎◌, ◌↔◌}
use Rattle.std.specs.Ordering.{nat_cmp}
use Rattle.std.specs.Cmp.Lexicographic.{slice_cmp}
use Rattle.mail_message.specs.FlagSets.{Flags, flags_after}
use Rattle.mail_message.specs.declared.flag_name.FlagName.{FlagName}
use Rattle.mail_message.specs.declared.flag_name.FlagName.TheVariants.{System, Keyword}
use Rattle.mail_message.specs.declared.mode.Mode.{Mode}
use Rattle.mail_message.specs.declared.mode.Mode.TheVariants.{Replace, Add, Remove}
use Rattle.mail_message.specs.declared.system_flags.SystemFlag.TheVariants.{Answered, Flagged, Deleted, Seen, Draft}
use Rattle.mur_base.proofs.MapLaws.{names_apart}
use Rattle.store_law.specs.FlagByFlag.{AreStored, HasFlag, IsByMode}
use Rattle.store_law.proofs.ContainsLaws.{all_kept, all_there, all_within, rest_gone, rest_kept, rest_within}

either_is : (one other : Bool) → ((one || other) ≡ true) ↔ ((one ≡ true) ⊎ (other ≡ true))
either_is true other = (λ is. inl refl, λ is. refl)
either_is false other = (λ is. inr is, λ is. ⊎_elim (λ (no : false ≡ true). absurd (cc)) (λ (yes : other ≡ true). yes) is)

but_is : (one other : Bool) → ((one && not other) ≡ true) ↔ ((one ≡ true) × (other ≡ true → ⊥))
but_is true true = (λ is. absurd (cc), λ is. absurd (is.1 refl))
but_is true false = (λ is. (refl, λ no. cc), λ is. refl)
but_is false other = (λ is. absurd (cc), λ is. is.0)

both_ways : (A : Type 0) → A ↔ A
both_ways A = (λ a. a, λ a. a)

module _ (old listed : Flags) where
  pub added : (flag : FlagName) → IsByMode Add (HasFlag old flag) (HasFlag listed flag) (HasFlag (flags_after Add old listed) flag)
  added (System Answered) = either_is old.system.answered listed.system.answered
  added (System Flagged) = either_is old.system.flagged listed.system.flagged
  added (System Deleted) = either_is old.system.deleted listed.system.deleted
  added (System Seen) = either_is old.system.seen listed.system.seen
  added (System Draft) = either_is old.system.draft listed.system.draft
  added (Keyword keyword) = (
    all_within (slice_cmp nat_cmp) names_apart old.keywords listed.keywords keyword,
    ⊎_elim (all_kept (slice_cmp nat_cmp) names_apart old.keywords listed.keywords keyword)
        (all_there (slice_cmp nat_cmp) names_apart old.keywords listed.keywords keyword),
  )

  removed : (flag : FlagName) → IsByMode Remove (HasFlag old flag) (HasFlag listed flag) (HasFlag (flags_after Remove old listed) flag)
  removed (System Answered) = but_is old.system.answered listed.system.answered
  removed (System Flagged) = but_is old.system.flagged listed.system.flagged
  removed (System Deleted) = but_is old.system.deleted listed.system.deleted
  removed (System Seen) = but_is old.system.seen listed.system.seen
  removed (System Draft) = but_is old.system.draft listed.system.draft
  removed (Keyword keyword) = (
    λ is. (
      rest_within (slice_cmp nat_cmp) names_apart old.keywords listed.keywords keyword is,
      λ out. rest_gone (slice_cmp nat_cmp) names_apart old.keywords listed.keywords keyword out is,
    ),
    λ is. rest_kept (slice_cmp nat_cmp) names_apart old.keywords listed.keywords keyword is.1 is.0,
  )

pub are_stored : (mode : Mode) (old listed : Flags) → AreStored mode listed old (flags_after mode old listed)
are_stored Replace old listed flag = both_ways (HasFlag listed flag)
are_stored Add old listed flag = added old listed flag
are_stored Remove old listed flag = removed old listed flag
