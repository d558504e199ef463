-- What is on its way between the nodes, whatever the message: each link is a queue in each direction.
use Rattle.std.specs.Prelude.{ℕ, Bool, ◌&&◌, List, [], ◌∷◌, ◌++◌, drop, take, Option, None, Some}
use Rattle.std.specs.Ordering.{nat_cmp, is_eq}
use Rattle.std.specs.Cmp.Lexicographic.{slice_cmp}
use Rattle.mur_base.specs.Map.{value_at, with_entry}

-- whether a pair of nodes is this link
abbrev pub same_link : List ℕ → List ℕ → List ℕ → List ℕ → Bool
same_link from to other another = is_eq (slice_cmp nat_cmp from other) && is_eq (slice_cmp nat_cmp to another)

-- what is on its way from one node, by the node that it goes to
abbrev pub Ways : Type 0 → Type 0
Ways M = List (List ℕ × List M)

-- what is on its way, by the node that it comes from
abbrev pub Links : Type 0 → Type 0
Links M = List (List ℕ × Ways M)

module _ {M : Type 0} where
  abbrev pub ways_or_none : Option (Ways M) → Ways M
  ways_or_none None = []
  ways_or_none (Some ways) = ways

  abbrev pub queue_or_none : Option (List M) → List M
  queue_or_none None = []
  queue_or_none (Some queue) = queue

  abbrev pub ways_from : Links M → List ℕ → Ways M
  ways_from links from = ways_or_none (value_at (slice_cmp nat_cmp) links from)

  abbrev pub queue_to : Ways M → List ℕ → List M
  queue_to ways to = queue_or_none (value_at (slice_cmp nat_cmp) ways to)

  -- the messages on their way from one node to another, the first one sent first
  unfoldable pub on_link : Links M → List ℕ → List ℕ → List M
  on_link links from to = queue_to (ways_from links from) to

  abbrev pub with_queue : Links M → List ℕ → List ℕ → List M → Links M
  with_queue links from to queue =
      with_entry (slice_cmp nat_cmp) links from (with_entry (slice_cmp nat_cmp) (ways_from links from) to queue)

  -- a message is sent
  unfoldable pub sent : Links M → List ℕ → List ℕ → M → Links M
  sent links from to message = with_queue links from to (on_link links from to ++ message ∷ [])

  -- the first message is taken
  unfoldable pub without_first : Links M → List ℕ → List ℕ → Links M
  without_first links from to = with_queue links from to (drop 1 (on_link links from to))

  -- only so many messages are kept, and this one comes behind them
  unfoldable pub cut_short : Links M → List ℕ → List ℕ → ℕ → M → Links M
  cut_short links from to keeps last = with_queue links from to (take keeps (on_link links from to) ++ last ∷ [])
