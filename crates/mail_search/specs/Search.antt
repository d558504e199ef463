-- Which messages a SEARCH finds (RFC 9051, 6.4.4).
use Rattle.std.specs.Prelude.{ℕ, Bool, ◌&&◌, ◌||◌, List, map}
use Rattle.std.specs.List.{filter, zip}
use Rattle.mail_message.specs.declared.key.Key.{Key}
use Rattle.mail_message.specs.declared.message.Summary.{Summary}
use Rattle.mail_search.specs.Matching.{Test, all_match}

-- messages beside their sequence numbers
abbrev pub Numbered : Type 0
Numbered = List (Summary × ℕ)

-- the UIDs of those messages that all keys match, in their order
abbrev pub found : List Key → List Summary → List ℕ → List ℕ
found keys messages numbers = map (λ row. row.0.uid) (filter (λ row. all_match keys row.0 row.1) (zip messages numbers))

-- for each message whether it passes a test
abbrev pub marks : Test → Numbered → List Bool
marks test rows = map (λ row. test row.0 row.1) rows

-- where both lists have a mark
abbrev pub both : List Bool → List Bool → List Bool
both one other = map (λ pair. pair.0 && pair.1) (zip one other)

-- where either list has a mark
abbrev pub either : List Bool → List Bool → List Bool
either one other = map (λ pair. pair.0 || pair.1) (zip one other)

-- the UIDs of the messages that have a mark
abbrev pub marked : List (Summary × Bool) → List ℕ
marked rows = map (λ row. row.0.uid) (filter (λ row. row.1) rows)
