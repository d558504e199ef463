-- What a source tells, and what a read does to it.
use Rattle.std.specs.Prelude.{◌≡◌, ℕ, ◌≤◌, ◌<◌, List, Option, None, Some, Result, Ok, Err, MatchResult, ⊤, length, take, nat_lt, ◌&&◌}
use Rattle.std.specs.Prelude.{if◌then◌else◌}
use Rattle.std.specs.Io.KnownBytes.{prepend_known, IsAtEnd}
use Rattle.mur_base.specs.Counts.{one_more}
use Rattle.mur_edge.specs.Counts.{CountsFailures}

-- all the bytes that it had when it was handed out and those that are left, where it tells them; how many reads failed; how many
-- gave something, and less than the buffer holds
pub record SourceFacts : Type 0 where
  pub whole : Option (List ℕ)
  pub left : Option (List ℕ)
  pub faults : ℕ
  pub shorts : ℕ

-- at `Ok(n)` the first n bytes of the buffer came, none only at the end or with no room; a failed read takes nothing
abbrev pub ReadGives : {E : Type 0} → Option (List ℕ) → Option (List ℕ) → Result ℕ E → List ℕ → Type 0
ReadGives before now answer buffer =
    MatchResult answer
    (λ n. (before ≡ prepend_known (take n buffer) now) × (n ≡ 0 → 0 < length buffer → IsAtEnd now))
    (λ _. now ≡ before)

-- the count of short reads after a read into this much room: one more where something came, and less than fits
abbrev pub after_read : {E : Type 0} → ℕ → Result ℕ E → ℕ → ℕ
after_read shorts (Ok n) room = (if nat_lt 0 n && nat_lt n room then one_more shorts else shorts)
after_read shorts (Err _) room = shorts

-- what a read does to all that a source tells
pub record DidRead {E : Type 0} (before now : SourceFacts) (answer : Result ℕ E) (buffer : List ℕ) : Type 0 where
  pub bytes : ReadGives before.left now.left answer buffer
  pub same : now.whole ≡ before.whole
  pub short : now.shorts ≡ after_read before.shorts answer (length buffer)
  pub cause : CountsFailures before.faults now.faults answer

-- a source as it is handed out: nothing is read and nothing is counted
pub record IsFreshSource (source : SourceFacts) : Type 0 where
  pub unread : source.left ≡ source.whole
  pub faultless : source.faults ≡ 0
  pub never_short : source.shorts ≡ 0

-- its bytes are those that were told of its name, where any were
abbrev pub HasContent : Option (List ℕ) → SourceFacts → Type 0
HasContent None source = ⊤
HasContent (Some content) source = source.whole ≡ Some content

-- these bytes were read, and no more than this many; there was nothing behind them where they are fewer
pub record GaveFront (count : ℕ) (before now : Option (List ℕ)) (bytes : List ℕ) : Type 0 where
  pub given : before ≡ prepend_known bytes now
  pub bounded : length bytes ≤ count
  pub ended : length bytes < count → IsAtEnd now

-- at most this many bytes were read, and the rest is left
pub record GaveAtMost (count : ℕ) (before now : Option (List ℕ)) : Type 0 where
  pub bytes : List ℕ
  pub given : before ≡ prepend_known bytes now
  pub bounded : length bytes ≤ count
