-- Where the first message of a link is taken in place.
use Rattle.std.proofs.Common.{◌≡◌, ℕ, List, ◌∷◌, drop, Option, None, Some, sym, ◌∙◌, ap}
use Rattle.std.specs.Option.{IfSome}
use Rattle.std.specs.Ordering.{nat_cmp}
use Rattle.std.specs.Cmp.Lexicographic.{slice_cmp}
use Rattle.mur_base.specs.Map.{value_at, with_entry, with_value, IsInOrder}
use Rattle.link_queue.specs.Links.{Ways, Links, ways_or_none, queue_or_none, queue_to, on_link, without_first}
use Rattle.link_queue.proofs.Entries.{entered_name}

module _ {M : Type 0} where
  pub taken_way : (ways : Ways M) (t : List ℕ) (old new : List M) (found : Option M) → IsInOrder (slice_cmp nat_cmp) ways
      → Some old ≡ value_at (slice_cmp nat_cmp) ways t → IfSome found (λ m. old ≡ m ∷ new)
      → IfSome found (λ m. with_value (slice_cmp nat_cmp) ways t new ≡ with_entry (slice_cmp nat_cmp) ways t (drop 1 (queue_to ways t)))
  taken_way ways t old new None sorted there first = tt
  taken_way ways t old new (Some m) sorted there first =
      entered_name ways t new old sorted (sym there)
      ∙ ap (λ q. with_entry (slice_cmp nat_cmp) ways t (drop 1 q)) (sym first ∙ ap queue_or_none there)

  pub taken_link : (links : Links M) (f t : List ℕ) (old new : Ways M) (found : Option M) → IsInOrder (slice_cmp nat_cmp) links
      → Some old ≡ value_at (slice_cmp nat_cmp) links f
      → IfSome found (λ m. new ≡ with_entry (slice_cmp nat_cmp) old t (drop 1 (queue_to old t)))
      → IfSome found (λ m. with_value (slice_cmp nat_cmp) links f new ≡ without_first links f t)
  unfolding without_first on_link
  taken_link links f t old new None sorted there taken = tt
  taken_link links f t old new (Some m) sorted there taken =
      entered_name links f new old sorted (sym there)
      ∙ ap (λ w. with_entry (slice_cmp nat_cmp) links f w) (taken
      ∙ ap (λ w. with_entry (slice_cmp nat_cmp) w t (drop 1 (queue_to w t))) (ap ways_or_none there))
