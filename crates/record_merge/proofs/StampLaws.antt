-- No stamp is above the number of steps up to its own: a step hears of an earlier one, and its node's last step is an earlier one.
use Rattle.std.proofs.Common.{◌≡◌, ℕ, ◌+◌, nat_eq, ◌<◌, ◌≤◌, ◌&&◌, max, Bool, true, false, cond, List, [], ◌∷◌, ◌++◌, drop, Option, Some, None}
use Rattle.std.proofs.Common.{refl, sym, ◌∙◌, ap, subst, arith}
use Rattle.std.specs.List.{AllByRecursion}
use Rattle.record_merge.specs.declared.logged.Logged.{Logged}
use Rattle.record_merge.specs.declared.logged.MergedStep.{MergedStep}
use Rattle.record_merge.specs.declared.logged.Sent.{Sent}
use Rattle.record_merge.specs.Rules.{Rules}
use Rattle.record_merge.specs.Logs.{RisesFrom, AreLogs, log_from, log_of}
use Rattle.record_merge.specs.Replay.{stamped, taken_from}
use Rattle.record_merge.specs.RunsAsLogged.{IsClosed}
use Rattle.record_merge.specs.Stamps.{AreStampsWithin, CountsFrom, StampsCount}
use Rattle.record_merge.proofs.MergedRuns.{Late, AreFrom, Hears, NeverFalls, sent_by, state_after, same_node, late_now, taken_here}
use Rattle.record_merge.proofs.MergedRuns.{closed_after, closed_own, closed_delivery, merged_falls, closed_of}

module _ {M : Type 0} where
  abbrev AreWithin : ℕ → List (Sent M) → Type 0
  AreWithin count sent = AllByRecursion (λ (message : Sent M). message.stamp ≤ count) sent

  within_more : (count : ℕ) (sent : List (Sent M)) → AreWithin count sent → AreWithin (count + 1) sent
  within_more count [] within = tt
  within_more count (message ∷ sent) within = (let le : message.stamp ≤ count = within.0 in omega (arith, le), within_more count sent within.1)

  within_join : (count : ℕ) (xs ys : List (Sent M)) → AreWithin count xs → AreWithin count ys → AreWithin count (xs ++ ys)
  within_join count [] ys x y = y
  within_join count (message ∷ xs) ys x y = (x.0, within_join count xs ys x.1 y)

  within_stamped : (count stamp : ℕ) (messages : List M) → stamp ≤ count → AreWithin count (stamped stamp messages)
  within_stamped count stamp [] le = tt
  within_stamped count stamp (message ∷ messages) le = (le, within_stamped count stamp messages le)

  within_sent : (same : Bool) (count stamp : ℕ) (waiting : List (Sent M)) (messages : List M) → stamp ≤ count + 1 → AreWithin count waiting
      → AreWithin (count + 1) (waiting ++ cond same (stamped stamp messages) [])
  within_sent true count stamp waiting messages le within =
      within_join (count + 1) waiting (stamped stamp messages) (within_more count waiting within) (within_stamped (count + 1) stamp messages le)
  within_sent false count stamp waiting messages le within = within_join (count + 1) waiting [] (within_more count waiting within) tt

  within_drop : (same : Bool) (count : ℕ) (sent : List (Sent M)) → AreWithin count sent → AreWithin count (cond same (drop 1 sent) sent)
  within_drop false count sent within = within
  within_drop true count [] within = tt
  within_drop true count (message ∷ sent) within = within.1

  within_start : (sent : List (Sent M)) → AllByRecursion (λ (message : Sent M). message.stamp ≡ 0) sent → AreWithin 0 sent
  within_start [] starts = tt
  within_start (message ∷ sent) starts = (let zero : message.stamp ≡ 0 = starts.0 in omega (arith, zero), within_start sent starts.1)

  -- the message that a log took was on its link
  heard_within : (count t : ℕ) (waiting taken rest sends : List (Sent M)) (heard : Sent M) → heard ∷ taken ++ rest ≡ waiting ++ sends
      → heard.stamp < t → Late t sends → AreWithin count waiting → heard.stamp ≤ count
  heard_within count t [] taken rest sends heard e less late within =
      (let l : Late t (heard ∷ taken ++ rest) = subst (λ (x : List (Sent M)). Late t x) (sym e) late in absurd (omega (arith, l.0, less)))
  heard_within count t (message ∷ waiting) taken rest sends heard e less late within =
      (let is : heard ≡ message = cc in subst (λ (x : Sent M). x.stamp ≤ count) (sym is) within.0)

stamp_within : (count last heard stamp : ℕ) → stamp ≡ max last heard + 1 → last ≤ count → heard ≤ count → stamp ≤ count + 1
stamp_within count last heard stamp is last_le heard_le = omega (arith, is, last_le, heard_le)

last_within : (same : Bool) (count last stamp : ℕ) → last ≤ count → stamp ≤ count + 1 → cond same stamp last ≤ count + 1
last_within true count last stamp le stamp_le = stamp_le
last_within false count last stamp le stamp_le = omega (arith, le)

above_last : (last heard stamp : ℕ) → stamp ≡ max last heard + 1 → last < stamp
above_last last heard stamp is = omega (arith, is)

above_heard : (last heard stamp : ℕ) → stamp ≡ max last heard + 1 → heard < stamp
above_heard last heard stamp is = omega (arith, is)

module _ {S I O M : Type 0} (rules : Rules S I O M) where
  -- ---- logs whose stamps count rise

  rises-counted : (last : ℕ) (log : List (Logged I)) → CountsFrom rules last log → RisesFrom last log
  rises-counted last [] counts = tt
  rises-counted last (entry ∷ log) counts =
      (above_last last entry.heard entry.stamp counts.0, above_heard last entry.heard entry.stamp counts.0, rises-counted entry.stamp log counts.2)

  all_rise : (logs : List (List (Logged I))) → AllByRecursion (CountsFrom rules 0) logs → AreLogs logs
  all_rise [] counts = tt
  all_rise (log ∷ logs) counts = (rises-counted 0 log counts.0, all_rise logs counts.1)

  either_counts : (b : Bool) (log other : List (Logged I)) → CountsFrom rules 0 log → CountsFrom rules 0 other → CountsFrom rules 0 (cond b log other)
  either_counts true log other f g = f
  either_counts false log other f g = g

  counts_from : (place : ℕ) (logs : List (List (Logged I))) (node : ℕ) → AllByRecursion (CountsFrom rules 0) logs
      → CountsFrom rules 0 (log_from place logs node)
  counts_from place [] node counts = tt
  counts_from place (log ∷ logs) node counts =
      either_counts (nat_eq node place) log (log_from (place + 1) logs node) counts.0 (counts_from (place + 1) logs node counts.1)

  -- ---- one step

  counts_after : (same : Bool) (last : ℕ) (entry : Logged I) (log : List (Logged I)) → CountsFrom rules last (cond same (entry ∷ []) [] ++ log)
      → CountsFrom rules (cond same entry.stamp last) log
  counts_after true last entry log counts = counts.2
  counts_after false last entry log counts = counts

  counts_here : (node last : ℕ) (entry : Logged I) (log : List (Logged I)) → CountsFrom rules last (cond (nat_eq node node) (entry ∷ []) [] ++ log)
      → CountsFrom rules last (entry ∷ log)
  counts_here node last entry log counts =
      subst (λ (b : Bool). CountsFrom rules last (cond b (entry ∷ []) [] ++ log)) (same_node node) counts

  abbrev RestCounts : ℕ → List (MergedStep I) → Type 0
  RestCounts count merged = (state : ℕ → S) (waiting : ℕ → ℕ → List (Sent M)) (last : ℕ → ℕ) → IsClosed rules waiting state (λ n. log_of n merged)
      → ((n : ℕ) → CountsFrom rules (last n) (log_of n merged)) → ((n : ℕ) → last n ≤ count) → ((from to : ℕ) → AreWithin count (waiting from to))
      → AreStampsWithin count merged

  step_within : (count : ℕ) (step : MergedStep I) (merged : List (MergedStep I)) → Hears step.entry → AreFrom step.entry.stamp merged
      → RestCounts (count + 1) merged → (state : ℕ → S) (waiting : ℕ → ℕ → List (Sent M)) (last : ℕ → ℕ)
      → IsClosed rules waiting state (λ n. log_of n (step ∷ merged)) → ((n : ℕ) → CountsFrom rules (last n) (log_of n (step ∷ merged)))
      → ((n : ℕ) → last n ≤ count) → ((from to : ℕ) → AreWithin count (waiting from to))
      → (found : Option (ℕ × M)) → rules.taken step.entry.input ≡ found → AreStampsWithin count (step ∷ merged)
  step_within count step merged less later rest state waiting last closed counts lasts within None own =
      let n : ℕ = step.node in
      let here = counts_here n (last n) step.entry (log_of n merged) (counts n) in
      let none : step.entry.heard ≡ 0 = here.1 own in
      let le : step.entry.stamp ≤ count + 1
      = stamp_within count (last n) step.entry.heard step.entry.stamp here.0 (lasts n) (omega (arith, none)) in (
        le,
        rest (state_after rules state n step.entry) (sent_by rules waiting state n step.entry) (λ k. cond (nat_eq k n) step.entry.stamp (last k))
            (closed_after rules state waiting step merged (closed_own rules state waiting step merged own closed))
            (λ k. counts_after (nat_eq k n) (last k) step.entry (log_of k merged) (counts k))
            (λ k. last_within (nat_eq k n) count (last k) step.entry.stamp (lasts k) le)
            (λ a b. within_sent (nat_eq a n) count step.entry.stamp (waiting a b) _ le (within a b)),
      )
  step_within count step merged less later rest state waiting last closed counts lasts within (Some (f, message)) takes =
      let n : ℕ = step.node in
      let here = counts_here n (last n) step.entry (log_of n merged) (counts n) in
      let old = closed f n in
      let heard : step.entry.heard ≤ count = heard_within count step.entry.stamp (waiting f n) (taken_from rules f (log_of n merged)) old.0 _
      (record { stamp = step.entry.heard; message = message })
      (ap (λ (x : List (Sent M)). x ++ old.0) (sym (taken_here rules n f message step.entry (log_of n merged) takes)) ∙ old.1)
      less (late_now rules n f step merged later (state f)) (within f n) in
      let le : step.entry.stamp ≤ count + 1 = stamp_within count (last n) step.entry.heard step.entry.stamp here.0 (lasts n) heard in
      let waiting_off : ℕ → ℕ → List (Sent M) = λ a b. cond (nat_eq a f && nat_eq b n) (drop 1 (waiting a b)) (waiting a b) in (
        le,
        rest (state_after rules state n step.entry) (sent_by rules waiting_off state n step.entry) (λ k. cond (nat_eq k n) step.entry.stamp (last k))
            (closed_after rules state waiting_off step merged (closed_delivery rules state waiting step merged f message takes less later closed))
            (λ k. counts_after (nat_eq k n) (last k) step.entry (log_of k merged) (counts k))
            (λ k. last_within (nat_eq k n) count (last k) step.entry.stamp (lasts k) le)
            (λ a b. within_sent (nat_eq a n) count step.entry.stamp (waiting_off a b) _ le
            (within_drop (nat_eq a f && nat_eq b n) count (waiting a b) (within a b))),
      )

  stamps_count : (merged : List (MergedStep I)) (count : ℕ) → NeverFalls merged → RestCounts count merged
  stamps_count [] count falls state waiting last closed counts lasts within = tt
  stamps_count (step ∷ merged) count falls state waiting last closed counts lasts within =
      step_within count step merged falls.0 falls.1 (stamps_count merged (count + 1) falls.2) state waiting last closed counts lasts within
      (rules.taken step.entry.input) refl

  pub stamps-count : StampsCount rules
  stamps-count logs merged state waiting counts is starts closed =
      stamps_count merged 0 (merged_falls logs merged (all_rise logs counts) is) state waiting (λ n. 0) (closed_of rules waiting state logs merged is closed)
      (λ n. subst (CountsFrom rules 0) (sym (is.entries n)) (counts_from 0 logs n counts)) (λ n. omega arith)
      (λ from to. within_start (waiting from to) (starts from to))
