-- The logs that the code mixes are merged: each node's entries are those of its log, and the steps are in order.
use Rattle.std.proofs.Common.{◌≡◌, ℕ, ◌+◌, nat_eq, nat_lt, ◌<◌, ◌≤◌, Bool, true, false, cond, List, [], ◌∷◌, ◌++◌, refl, sym, ◌∙◌, ap, subst, arith}
use Rattle.std.specs.Prelude.{Result, Ok, Err, IfOk}
use Rattle.std.specs.List.{AllByRecursion}
use Rattle.std.proofs.lemmas.List.{append-nil}
use Rattle.record_merge.specs.declared.logged.Logged.{Logged}
use Rattle.record_merge.specs.declared.logged.MergedStep.{MergedStep}
use Rattle.record_merge.specs.Logs.{RisesFrom, AreLogs, log_from, log_of, IsBefore, IsOrdered, IsMerged}
use Rattle.record_merge.specs.Mix.{placed_at, placed, mix_at, mix, merged_from}

less_of : (a b : ℕ) → nat_lt a b ≡ true → a < b
less_of a b h = grind arith

not_less : (a b : ℕ) → nat_lt a b ≡ false → b ≤ a
not_less a b h = grind arith

same_of : (a b : ℕ) → nat_eq a b ≡ true → a ≡ b
same_of a b h = grind arith

apart_of : (a b : ℕ) → a < b → nat_eq a b ≡ false
apart_of a b h = grind arith

above_of : (a b : ℕ) → b < a → nat_eq a b ≡ false
above_of a b h = grind arith

module _ {I : Type 0} where
  -- ---- a fact of all steps

  either_all : (P : MergedStep I → Type 0) (b : Bool) (xs ys : List (MergedStep I)) → AllByRecursion P xs → AllByRecursion P ys
      → AllByRecursion P (cond b xs ys)
  either_all P true xs ys f g = f
  either_all P false xs ys f g = g

  all_at : (P : MergedStep I → Type 0) (first : MergedStep I) (rest : List (MergedStep I) → List (MergedStep I)) (others : List (MergedStep I))
      → P first → ((ys : List (MergedStep I)) → AllByRecursion P ys → AllByRecursion P (rest ys)) → AllByRecursion P others
      → AllByRecursion P (mix_at first rest others)
  all_at P first rest [] f r o = (f, r [] tt)
  all_at P first rest (other ∷ others) f r o =
      either_all P (nat_lt other.entry.stamp first.entry.stamp) (other ∷ mix_at first rest others) (first ∷ rest (other ∷ others))
      (o.0, all_at P first rest others f r o.1) (f, r (other ∷ others) o)

  all-mix : (P : MergedStep I → Type 0) (xs ys : List (MergedStep I)) → AllByRecursion P xs → AllByRecursion P ys → AllByRecursion P (mix xs ys)
  all-mix P [] ys f o = o
  all-mix P (x ∷ xs) ys f o = all_at P x (mix xs) ys f.0 (λ zs g. all-mix P xs zs f.1 g) o

  weaker : (P Q : MergedStep I → Type 0) → ((x : MergedStep I) → P x → Q x) → (xs : List (MergedStep I)) → AllByRecursion P xs → AllByRecursion Q xs
  weaker P Q more [] all = tt
  weaker P Q more (x ∷ xs) all = (more x all.0, weaker P Q more xs all.1)

  -- ---- the order

  before_trans : (a b c : MergedStep I) → IsBefore a b → IsBefore b c → IsBefore a c
  before_trans a b c x y =
      let ab : a.entry.stamp ≤ b.entry.stamp = x.0 in
      let bc : b.entry.stamp ≤ c.entry.stamp = y.0 in (
        omega (arith, ab, bc),
        λ same.
            let first : a.entry.stamp ≡ b.entry.stamp = omega (arith, ab, bc, same) in
            let last : b.entry.stamp ≡ c.entry.stamp = omega (arith, ab, bc, same) in
            let lower : a.node < b.node = x.1 first in
            let more : b.node < c.node = y.1 last in omega (arith, lower, more),
      )

  sooner : (a b : MergedStep I) → a.entry.stamp < b.entry.stamp → IsBefore a b
  sooner a b less = (omega (arith, less), λ same. absurd (omega (arith, less, same)))

  later : (k : ℕ) (a b : MergedStep I) → a.node < k → k ≤ b.node → a.entry.stamp ≤ b.entry.stamp → IsBefore a b
  later k a b below from le = (le, λ same. omega (arith, below, from))

  abbrev IsBelow : ℕ → MergedStep I → Type 0
  IsBelow k step = step.node < k

  abbrev IsFrom : ℕ → MergedStep I → Type 0
  IsFrom k step = k ≤ step.node

  either_ordered : (b : Bool) (xs ys : List (MergedStep I)) → (b ≡ true → IsOrdered xs) → (b ≡ false → IsOrdered ys) → IsOrdered (cond b xs ys)
  either_ordered true xs ys f g = f refl
  either_ordered false xs ys f g = g refl

  ordered_at : (k : ℕ) (first : MergedStep I) (front others : List (MergedStep I)) → IsBelow k first → AllByRecursion (IsBefore first) front
      → ((ys : List (MergedStep I)) → AllByRecursion (IsFrom k) ys → IsOrdered ys → IsOrdered (mix front ys))
      → AllByRecursion (IsFrom k) others → IsOrdered others → IsOrdered (mix_at first (mix front) others)
  ordered_at k first front [] below after rest from o = (all-mix (IsBefore first) front [] after tt, rest [] tt tt)
  ordered_at k first front (other ∷ others) below after rest from o =
      either_ordered (nat_lt other.entry.stamp first.entry.stamp) (other ∷ mix_at first (mix front) others) (first ∷ mix front (other ∷ others))
      (λ e. let less : IsBefore other first = sooner other first (less_of other.entry.stamp first.entry.stamp e) in (
        all_at (IsBefore other) first (mix front) others less
            (λ ys g. all-mix (IsBefore other) front ys (weaker (IsBefore first) (IsBefore other) (λ x. before_trans other first x less) front after) g) o.0,
        ordered_at k first front others below after rest from.1 o.1,
      ))
      (λ e. let less : IsBefore first other = later k first other below from.0 (not_less other.entry.stamp first.entry.stamp e) in (
        all-mix (IsBefore first) front (other ∷ others) after
            (less, weaker (IsBefore other) (IsBefore first) (λ x. before_trans first other x less) others o.0),
        rest (other ∷ others) from o,
      ))

  ordered-mix : (k : ℕ) (xs ys : List (MergedStep I)) → AllByRecursion (IsBelow k) xs → IsOrdered xs → AllByRecursion (IsFrom k) ys → IsOrdered ys
      → IsOrdered (mix xs ys)
  ordered-mix k [] ys below x from y = y
  ordered-mix k (first ∷ front) ys below x from y =
      ordered_at k first front ys below.0 x.0 (λ zs f z. ordered-mix k front zs below.1 x.1 f z) from y

  after_placed : (node last : ℕ) (entry : Logged I) (log : List (Logged I)) → entry.stamp ≤ last → RisesFrom last log
      → AllByRecursion (IsBefore (placed_at node entry)) (placed node log)
  after_placed node last entry [] le rises = tt
  after_placed node last entry (next ∷ log) le rises =
      let above : last < next.stamp = rises.0 in (
        sooner (placed_at node entry) (placed_at node next) (omega (arith, le, above)),
        after_placed node next.stamp entry log (omega (arith, le, above)) rises.2,
      )

  ordered-placed : (node last : ℕ) (log : List (Logged I)) → RisesFrom last log → IsOrdered (placed node log)
  ordered-placed node last [] rises = tt
  ordered-placed node last (entry ∷ log) rises =
      (after_placed node entry.stamp entry log (omega arith) rises.2, ordered-placed node entry.stamp log rises.2)

  all-placed : (P : MergedStep I → Type 0) (node : ℕ) (log : List (Logged I)) → ((entry : Logged I) → P (placed_at node entry))
      → AllByRecursion P (placed node log)
  all-placed P node [] has = tt
  all-placed P node (entry ∷ log) has = (has entry, all-placed P node log has)

  -- ---- the entries of one node

  first_none : (same : Bool) (entry : Logged I) (more : List (Logged I)) → cond same (entry ∷ []) [] ++ more ≡ [] → cond same (entry ∷ []) [] ≡ []
  first_none true entry more e = cc
  first_none false entry more e = refl

  rest_none : (same : Bool) (entry : Logged I) (more : List (Logged I)) → cond same (entry ∷ []) [] ++ more ≡ [] → more ≡ []
  rest_none true entry more e = cc
  rest_none false entry more e = e

  abbrev own_of : ℕ → MergedStep I → List (Logged I)
  own_of node step = cond (nat_eq node step.node) (step.entry ∷ []) []

  either_log : (node : ℕ) (b : Bool) (xs ys : List (MergedStep I)) (log : List (Logged I)) → log_of node xs ≡ log → log_of node ys ≡ log
      → log_of node (cond b xs ys) ≡ log
  either_log node true xs ys log f g = f
  either_log node false xs ys log f g = g

  left_at : (node : ℕ) (first : MergedStep I) (front others : List (MergedStep I))
      → ((ys : List (MergedStep I)) → log_of node ys ≡ [] → log_of node (mix front ys) ≡ log_of node front) → log_of node others ≡ []
      → log_of node (mix_at first (mix front) others) ≡ log_of node (first ∷ front)
  left_at node first front [] rest o = ap (λ (x : List (Logged I)). own_of node first ++ x) (rest [] refl)
  left_at node first front (other ∷ others) rest o =
      either_log node (nat_lt other.entry.stamp first.entry.stamp) (other ∷ mix_at first (mix front) others) (first ∷ mix front (other ∷ others))
      (own_of node first ++ log_of node front)
      (ap (λ (x : List (Logged I)). x ++ log_of node (mix_at first (mix front) others))
      (first_none (nat_eq node other.node) other.entry (log_of node others) o)
      ∙ left_at node first front others rest (rest_none (nat_eq node other.node) other.entry (log_of node others) o))
      (ap (λ (x : List (Logged I)). own_of node first ++ x) (rest (other ∷ others) o))

  left-mix : (node : ℕ) (xs ys : List (MergedStep I)) → log_of node ys ≡ [] → log_of node (mix xs ys) ≡ log_of node xs
  left-mix node [] ys o = o
  left-mix node (first ∷ front) ys o = left_at node first front ys (λ zs z. left-mix node front zs z) o

  right_at : (node : ℕ) (first : MergedStep I) (front others : List (MergedStep I))
      → ((ys : List (MergedStep I)) → log_of node (mix front ys) ≡ log_of node ys) → own_of node first ≡ []
      → log_of node (mix_at first (mix front) others) ≡ log_of node others
  right_at node first front [] rest none = ap (λ (x : List (Logged I)). x ++ log_of node (mix front [])) none ∙ rest []
  right_at node first front (other ∷ others) rest none =
      either_log node (nat_lt other.entry.stamp first.entry.stamp) (other ∷ mix_at first (mix front) others) (first ∷ mix front (other ∷ others))
      (own_of node other ++ log_of node others)
      (ap (λ (x : List (Logged I)). own_of node other ++ x) (right_at node first front others rest none))
      (ap (λ (x : List (Logged I)). x ++ log_of node (mix front (other ∷ others))) none ∙ rest (other ∷ others))

  right-mix : (node : ℕ) (xs ys : List (MergedStep I)) → log_of node xs ≡ [] → log_of node (mix xs ys) ≡ log_of node ys
  right-mix node [] ys o = refl
  right-mix node (first ∷ front) ys o =
      right_at node first front ys (λ zs. right-mix node front zs (rest_none (nat_eq node first.node) first.entry (log_of node front) o))
      (first_none (nat_eq node first.node) first.entry (log_of node front) o)

  log_placed : (b : Bool) (node place : ℕ) (log : List (Logged I)) → nat_eq node place ≡ b → log_of node (placed place log) ≡ cond b log []
  log_placed true node place [] h = refl
  log_placed true node place (entry ∷ log) h = rw h (ap (λ (x : List (Logged I)). entry ∷ x) (log_placed true node place log h))
  log_placed false node place [] h = refl
  log_placed false node place (entry ∷ log) h = rw h (log_placed false node place log h)

  none_below : (node : ℕ) (steps : List (MergedStep I)) → AllByRecursion (IsBelow node) steps → log_of node steps ≡ []
  none_below node [] below = refl
  none_below node (step ∷ steps) below =
      let e : nat_eq node step.node ≡ false = above_of node step.node below.0 in rw e (none_below node steps below.1)

  -- the entries of a node before, or of the node whose log is mixed in
  log_mixed : (b : Bool) (node place : ℕ) (steps : List (MergedStep I)) (log : List (Logged I)) → nat_eq node place ≡ b
      → AllByRecursion (IsBelow place) steps → log_of node (mix steps (placed place log)) ≡ log_of node steps ++ cond b log []
  log_mixed true node place steps log h below =
      let is : node ≡ place = same_of node place h in
      let none : log_of node steps ≡ [] = none_below node steps (subst (λ k. AllByRecursion (IsBelow k) steps) (sym is) below) in
      right-mix node steps (placed place log) none ∙ log_placed true node place log h ∙ sym (ap (λ (x : List (Logged I)). x ++ log) none)
  log_mixed false node place steps log h below =
      left-mix node steps (placed place log) (log_placed false node place log h) ∙ sym (append-nil (log_of node steps))

  none_before : (node place : ℕ) (logs : List (List (Logged I))) → node < place → log_from place logs node ≡ []
  none_before node place [] less = refl
  none_before node place (log ∷ logs) less =
      let e : nat_eq node place ≡ false = apart_of node place less in rw e (none_before node (place + 1) logs (omega (arith, less)))

  join_by : (b : Bool) (before log rest : List (Logged I)) → (b ≡ true → rest ≡ []) → (before ++ cond b log []) ++ rest ≡ before ++ cond b log rest
  join_by true before log rest none = ap (λ (x : List (Logged I)). (before ++ log) ++ x) (none refl) ∙ append-nil (before ++ log)
  join_by false before log rest none = ap (λ (x : List (Logged I)). x ++ rest) (append-nil before)

  -- ---- all logs

  below_mixed : (place : ℕ) (steps : List (MergedStep I)) (log : List (Logged I)) → AllByRecursion (IsBelow place) steps
      → AllByRecursion (IsBelow (place + 1)) (mix steps (placed place log))
  below_mixed place steps log below =
      all-mix (IsBelow (place + 1)) steps (placed place log)
      (weaker (IsBelow place) (IsBelow (place + 1)) (λ x less. omega (arith, less)) steps below)
      (all-placed (IsBelow (place + 1)) place log (λ entry. omega arith))

  entries-merged : (place : ℕ) (steps : List (MergedStep I)) (logs : List (List (Logged I))) (node : ℕ) → AllByRecursion (IsBelow place) steps
      → log_of node (merged_from place steps logs) ≡ log_of node steps ++ log_from place logs node
  entries-merged place steps [] node below = sym (append-nil (log_of node steps))
  entries-merged place steps (log ∷ logs) node below =
      entries-merged (place + 1) (mix steps (placed place log)) logs node (below_mixed place steps log below)
      ∙ ap (λ (x : List (Logged I)). x ++ log_from (place + 1) logs node) (log_mixed (nat_eq node place) node place steps log refl below)
      ∙ join_by (nat_eq node place) (log_of node steps) log (log_from (place + 1) logs node)
      (λ h. let is : node ≡ place = same_of node place h in none_before node (place + 1) logs (omega (arith, is)))

  ordered-merged : (place : ℕ) (steps : List (MergedStep I)) (logs : List (List (Logged I))) → AllByRecursion (IsBelow place) steps
      → IsOrdered steps → AreLogs logs → IsOrdered (merged_from place steps logs)
  ordered-merged place steps [] below ordered are = ordered
  ordered-merged place steps (log ∷ logs) below ordered are =
      ordered-merged (place + 1) (mix steps (placed place log)) logs (below_mixed place steps log below)
      (ordered-mix place steps (placed place log) below ordered (all-placed (IsFrom place) place log (λ entry. omega arith))
      (ordered-placed place 0 log are.0)) are.1

  merged-is : (logs : List (List (Logged I))) → AreLogs logs → IsMerged logs (merged_from 0 [] logs)
  merged-is logs are = record { entries = λ node. entries-merged 0 [] logs node tt; ordered = ordered-merged 0 [] logs tt tt are }

  pub merged-told : {E : Type 0} (logs : List (List (Logged I))) (result : Result (List (MergedStep I)) E) → AreLogs logs
      → IfOk result (λ steps. steps ≡ merged_from 0 [] logs) → IfOk result (IsMerged logs)
  merged-told logs (Ok steps) are is = subst (IsMerged logs) (sym is) (merged-is logs are)
  merged-told logs (Err fault) are is = tt
