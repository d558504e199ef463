-- A batch has some of the changes left, from the first on, all of them if they fit, and it is within its limits.
use Rattle.std.proofs.Common.{◌≡◌, ℕ, ◌+◌, ◌-◌, ◌≤◌, ◌<◌, nat_lt, Bool, true, false, cond, not, ◌==◌, ◌||◌, ◌&&◌, List, [], ◌∷◌, map, length, refl, sym, ◌∙◌}
use Rattle.std.proofs.Common.{ap, arith}
use Rattle.std.specs.List.{AllByRecursion, sum_by}
use Rattle.std.proofs.lemmas.Bool.Decides.{nat_tests}
use Rattle.std.proofs.lemmas.List.Sums.{sum_by-cons}
use Rattle.mur_base.specs.declared.limits.TheConstants.{BATCH_CHANGE_LIMIT, BATCH_WEIGHT_LIMIT}
use Rattle.mail_message.specs.declared.change.Change.{Change}
use Rattle.mail_batch.specs.Weights.{weight_of, takes_change, batch_from, all_fit_from, batch}

-- a batch is the changes of some of the UIDs, which hold what all hold
pub record IsPart (change : ℕ → Change) (holds : ℕ → Bool) (uids : List ℕ) (changes : List Change) : Type 0 where
  pub part : List ℕ
  pub same : changes ≡ map change part
  pub held : AllByRecursion (λ uid. holds uid ≡ true) uids → AllByRecursion (λ uid. holds uid ≡ true) part

first_is : (a b : Bool) → (a && b) ≡ true → a ≡ true
first_is true b h = refl
first_is false b h = h

later_is : (a b : Bool) → (a && b) ≡ true → b ≡ true
later_is true b h = h
later_is false b h = cc

not_above : (room weight : ℕ) (b : Bool) → nat_lt room weight ≡ b → not b ≡ true → weight ≤ room
not_above room weight true h no_more = cc
not_above room weight false h no_more = grind (arith, nat_tests, h)

below_by : (count : ℕ) (lt within b : Bool) → (count == 0) ≡ b → lt ≡ nat_lt count BATCH_CHANGE_LIMIT → (b || (lt && within)) ≡ true
    → count + 1 ≤ BATCH_CHANGE_LIMIT
below_by count lt within true zero_is is h = let none : count ≡ 0 = grind (arith, nat_tests, zero_is) in omega (arith, none)
below_by count lt within false zero_is is h =
    let less : nat_lt count BATCH_CHANGE_LIMIT ≡ true = sym is ∙ first_is lt within h in grind (arith, nat_tests, less)

below_limit : (count room weight : ℕ) → takes_change count room weight ≡ true → count + 1 ≤ BATCH_CHANGE_LIMIT
below_limit count room weight h =
    below_by count (nat_lt count BATCH_CHANGE_LIMIT) (not (nat_lt room weight)) (count == 0) refl refl h

within_by : (count room weight : ℕ) (lt b : Bool) → 0 < count → (count == 0) ≡ b → (b || (lt && not (nat_lt room weight))) ≡ true → weight ≤ room
within_by count room weight lt true some zero_is h = let none : count ≡ 0 = grind (arith, nat_tests, zero_is) in absurd (omega (arith, none, some))
within_by count room weight lt false some zero_is h =
    not_above room weight (nat_lt room weight) refl (later_is lt (not (nat_lt room weight)) h)

within_room : (count room weight : ℕ) → 0 < count → takes_change count room weight ≡ true → weight ≤ room
within_room count room weight some h =
    within_by count room weight (nat_lt count BATCH_CHANGE_LIMIT) (count == 0) some refl h

module _ (change : ℕ → Change) where
  part_by : (holds : ℕ → Bool) (uid : ℕ) (uids : List ℕ) (changes : List Change) → IsPart change holds uids changes → (b : Bool)
      → IsPart change holds (uid ∷ uids) (cond b (change uid ∷ changes) [])
  part_by holds uid uids changes rest true = record {
    part = uid ∷ rest.part;
    same = ap (λ cs. change uid ∷ cs) rest.same;
    held = λ all. (all.0, rest.held all.1);
  }
  part_by holds uid uids changes rest false = record { part = []; same = refl; held = λ all. tt }

  pub batch-part : (holds : ℕ → Bool) (count room : ℕ) (uids : List ℕ) → IsPart change holds uids (batch_from change count room uids)
  batch-part holds count room [] = record { part = []; same = refl; held = λ all. tt }
  batch-part holds count room (uid ∷ uids) =
      part_by holds uid uids (batch_from change (count + 1) (room - weight_of (change uid)) uids)
      (batch-part holds (count + 1) (room - weight_of (change uid)) uids) (takes_change count room (weight_of (change uid)))

  fits_by : (uid : ℕ) (uids : List ℕ) (changes : List Change) (rest b : Bool) → (rest ≡ true → changes ≡ map change uids) → cond b rest false ≡ true
      → cond b (change uid ∷ changes) [] ≡ map change (uid ∷ uids)
  fits_by uid uids changes rest true ih h = ap (λ cs. change uid ∷ cs) (ih h)
  fits_by uid uids changes rest false ih h = cc

  -- changes that fit all go
  pub fits-all : (count room : ℕ) (uids : List ℕ) → all_fit_from change count room uids ≡ true → batch_from change count room uids ≡ map change uids
  fits-all count room [] h = refl
  fits-all count room (uid ∷ uids) h =
      fits_by uid uids (batch_from change (count + 1) (room - weight_of (change uid)) uids)
      (all_fit_from change (count + 1) (room - weight_of (change uid)) uids) (takes_change count room (weight_of (change uid)))
      (fits-all (count + 1) (room - weight_of (change uid)) uids) h

  all_by : (uid : ℕ) (uids : List ℕ) (changes : List Change) (rest b : Bool) → (length changes ≡ length uids → rest ≡ true)
      → length (cond b (change uid ∷ changes) []) ≡ length (uid ∷ uids) → cond b rest false ≡ true
  all_by uid uids changes rest true ih h = ih (omega (arith, h))
  all_by uid uids changes rest false ih h = absurd (omega (arith, h))

  -- and if all go, they fit
  pub all-fits : (count room : ℕ) (uids : List ℕ) → length (batch_from change count room uids) ≡ length uids → all_fit_from change count room uids ≡ true
  all-fits count room [] h = refl
  all-fits count room (uid ∷ uids) h =
      all_by uid uids (batch_from change (count + 1) (room - weight_of (change uid)) uids)
      (all_fit_from change (count + 1) (room - weight_of (change uid)) uids) (takes_change count room (weight_of (change uid)))
      (all-fits (count + 1) (room - weight_of (change uid)) uids) h

  -- one goes in any case
  pub some-goes : (uid : ℕ) (uids : List ℕ)
      → batch change (uid ∷ uids) ≡ change uid ∷ batch_from change 1 (BATCH_WEIGHT_LIMIT - weight_of (change uid)) uids
  some-goes uid uids = refl

  few_by : (count room : ℕ) (uid : ℕ) (changes : List Change) → count ≤ BATCH_CHANGE_LIMIT
      → (count + 1 ≤ BATCH_CHANGE_LIMIT → length changes + (count + 1) ≤ BATCH_CHANGE_LIMIT)
      → (b : Bool) → takes_change count room (weight_of (change uid)) ≡ b → length (cond b (change uid ∷ changes) []) + count ≤ BATCH_CHANGE_LIMIT
  few_by count room uid changes le ih true h =
      let lt = below_limit count room (weight_of (change uid)) h in
      let more = ih lt in omega (arith, more)
  few_by count room uid changes le ih false h = omega (arith, le)

  -- at most 64
  pub few-go : (count room : ℕ) (uids : List ℕ) → count ≤ BATCH_CHANGE_LIMIT → length (batch_from change count room uids) + count ≤ BATCH_CHANGE_LIMIT
  few-go count room [] le = omega (arith, le)
  few-go count room (uid ∷ uids) le =
      few_by count room uid (batch_from change (count + 1) (room - weight_of (change uid)) uids) le
      (few-go (count + 1) (room - weight_of (change uid)) uids) (takes_change count room (weight_of (change uid))) refl

  light_by : (count room uid : ℕ) (changes : List Change) → 0 < count → sum_by weight_of changes ≤ room - weight_of (change uid)
      → (b : Bool) → takes_change count room (weight_of (change uid)) ≡ b → sum_by weight_of (cond b (change uid ∷ changes) []) ≤ room
  light_by count room uid changes some ih true h =
      let le = within_room count room (weight_of (change uid)) some h in
      let sum : sum_by weight_of (change uid ∷ changes) ≡ weight_of (change uid) + sum_by weight_of changes = sum_by-cons weight_of (change uid) changes in
      let all : sum_by weight_of (change uid ∷ changes) ≤ room = omega (arith, le, ih, sum) in all
  light_by count room uid changes some ih false h = omega arith

  -- after the first change no more goes than there is room for
  pub light-go : (count room : ℕ) (uids : List ℕ) → 0 < count → sum_by weight_of (batch_from change count room uids) ≤ room
  light-go count room [] some = omega arith
  light-go count room (uid ∷ uids) some =
      light_by count room uid (batch_from change (count + 1) (room - weight_of (change uid)) uids) some
      (light-go (count + 1) (room - weight_of (change uid)) uids (omega (arith, some))) (takes_change count room (weight_of (change uid))) refl

  -- a batch is no heavier than its limit, if no change is
  pub light-batch : (uids : List ℕ) → AllByRecursion (λ uid. weight_of (change uid) ≤ BATCH_WEIGHT_LIMIT) uids
      → sum_by weight_of (batch change uids) ≤ BATCH_WEIGHT_LIMIT
  light-batch [] all = omega arith
  light-batch (uid ∷ uids) all =
      let rest = light-go 1 (BATCH_WEIGHT_LIMIT - weight_of (change uid)) uids (omega arith) in
      let first : weight_of (change uid) ≤ BATCH_WEIGHT_LIMIT = all.0 in
      let sum : sum_by weight_of (batch change (uid ∷ uids))
      ≡ weight_of (change uid) + sum_by weight_of (batch_from change 1 (BATCH_WEIGHT_LIMIT - weight_of (change uid)) uids) =
      sum_by-cons weight_of (change uid) (batch_from change 1 (BATCH_WEIGHT_LIMIT - weight_of (change uid)) uids) in
      omega (arith, rest, first, sum)
