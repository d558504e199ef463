-- A batch has the changes of the lowest UIDs left, and once it is sent the other UIDs are left.
use Rattle.std.proofs.Common.{◌≡◌, ℕ, ◌+◌, ◌-◌, ◌≤◌, Bool, true, false, cond, ◌==◌, List, [], ◌∷◌, ◌++◌, map, length, Option, Some, None, refl, sym, ◌∙◌, ap}
use Rattle.std.proofs.Common.{subst, arith}
use Rattle.std.specs.Option.{is_some}
use Rattle.std.specs.List.{AllByRecursion, sum_by}
use Rattle.std.specs.List.Sorted.{IsStrictlySortedBy}
use Rattle.std.specs.Map.{keys_of}
use Rattle.std.specs.Ordering.{nat_cmp}
use Rattle.mur_base.specs.declared.limits.TheConstants.{BATCH_CHANGE_LIMIT, BATCH_WEIGHT_LIMIT, MESSAGE_LIMIT}
use Rattle.mur_base.specs.Map.{with_value, without_key, IsInOrder}
use Rattle.mur_base.proofs.MapLaws.{numbers_apart}
use Rattle.mail_message.specs.declared.message.Message.{Message}
use Rattle.mail_message.specs.declared.change.Change.{Change}
use Rattle.mail_message.specs.Boxes.{message_at}
use Rattle.mail_batch.specs.Weights.{batch, weight_of, takes_change, batch_from}
use Rattle.mail_batch.specs.Sweeps.{SweepState, SentMarks, is_sent, after_sending, after_sending_all, change_by, change_at, changes_left, batch_of}
use Rattle.mail_batch.specs.Sweeps.{fits_one_batch}
use Rattle.mail_batch.specs.Batches.{IsOfFirstLeft, AreWithinLimit}
use Rattle.mail_message.proofs.FoundUids.{found_is}
use Rattle.mail_batch.proofs.StepLaws.{after_sending-is}
use Rattle.mail_batch.proofs.LimitLaws.{some-goes, few-go, light-batch, fits-all}

-- ---- the lowest UIDs left

abbrev sweep_of : List (ℕ × Unit {0}) → SentMarks → SweepState
sweep_of left known = record { left = left; known = known }

first_less : (e : ℕ × Unit {0}) (left : List (ℕ × Unit {0})) → without_key nat_cmp (e ∷ left) e.0 ≡ left
first_less e left = rw (numbers_apart.itself e.0) refl

module _ (messages : List Message) (sent : ℕ → Bool) where
  abbrev change_of : ℕ → Change
  change_of uid = change_by uid (sent uid) (message_at messages uid)

  abbrev known_after : SentMarks → ℕ → SentMarks
  known_after known uid = with_value nat_cmp known uid (is_some (message_at messages uid))

  first_sent : (e : ℕ × Unit {0}) (left : List (ℕ × Unit {0})) (known : SentMarks)
      → after_sending (sweep_of (e ∷ left) known) (change_of e.0) ≡ sweep_of left (known_after known e.0)
  first_sent e left known =
      after_sending-is (sweep_of (e ∷ left) known) e.0 (sent e.0) (message_at messages e.0) (found_is messages e.0)
      ∙ ap (λ rest. sweep_of rest (known_after known e.0)) (first_less e left)

  front_by : (e : ℕ × Unit {0}) (left : List (ℕ × Unit {0})) (known : SentMarks) (changes : List Change)
      → IsOfFirstLeft change_of (sweep_of left (known_after known e.0)) changes → (b : Bool)
      → IsOfFirstLeft change_of (sweep_of (e ∷ left) known) (cond b (change_of e.0 ∷ changes) [])
  front_by e left known changes rest true = record {
    first = e ∷ rest.first;
    whole = ap (λ es. e ∷ es) (rest.whole ∙ ap (λ (s : SweepState). rest.first ++ (after_sending_all s changes).left) (sym (first_sent e left known)));
    same = ap (λ cs. change_of e.0 ∷ cs) rest.same;
  }
  front_by e left known changes rest false = record { first = []; whole = refl; same = refl }

  front_of : (left : List (ℕ × Unit {0})) (known : SentMarks) (count room : ℕ)
      → IsOfFirstLeft change_of (sweep_of left known) (batch_from change_of count room (keys_of left))
  front_of [] known count room = record { first = []; whole = refl; same = refl }
  front_of (e ∷ left) known count room =
      front_by e left known (batch_from change_of (count + 1) (room - weight_of (change_of e.0)) (keys_of left))
      (front_of left (known_after known e.0) (count + 1) (room - weight_of (change_of e.0))) (takes_change count room (weight_of (change_of e.0)))

pub batch-front : (sweep : SweepState) (messages : List Message) → IsOfFirstLeft (change_at sweep messages) sweep (batch_of sweep messages)
batch-front sweep messages = front_of messages (is_sent sweep) sweep.left sweep.known 0 BATCH_WEIGHT_LIMIT

-- ---- its order

rest_sorted : (taken rest : List (ℕ × Unit {0})) → IsInOrder nat_cmp (taken ++ rest) → IsInOrder nat_cmp rest
unfolding IsStrictlySortedBy
rest_sorted [] rest sorted = sorted
rest_sorted (e ∷ taken) rest sorted = rest_sorted taken rest sorted.1

-- the UIDs left stay in order
pub in-order-batch : (sweep : SweepState) (messages : List Message) → IsInOrder nat_cmp sweep.left
    → IsInOrder nat_cmp (after_sending_all sweep (batch_of sweep messages)).left
in-order-batch sweep messages sorted =
    let front = batch-front sweep messages in
    rest_sorted front.first (after_sending_all sweep (batch_of sweep messages)).left (subst (IsInOrder nat_cmp) front.whole sorted)

-- ---- if all fit

lengths : (taken rest : List (ℕ × Unit {0})) (change : ℕ → Change)
    → length (map change (keys_of taken)) ≡ length (map change (keys_of (taken ++ rest))) → rest ≡ []
lengths [] [] change h = refl
lengths [] (e ∷ rest) change h = absurd (omega (arith, h))
lengths (e ∷ taken) rest change h = lengths taken rest change (omega (arith, h))

pub fits-one-batch : (sweep : SweepState) (messages : List Message)
    → fits_one_batch sweep messages ≡ true → batch_of sweep messages ≡ changes_left sweep messages
fits-one-batch sweep messages h = fits-all (change_at sweep messages) 0 BATCH_WEIGHT_LIMIT (keys_of sweep.left) h

pub none-after : (sweep : SweepState) (messages : List Message)
    → fits_one_batch sweep messages ≡ true → (after_sending_all sweep (batch_of sweep messages)).left ≡ []
none-after sweep messages h =
    let front = batch-front sweep messages in
    lengths front.first (after_sending_all sweep (batch_of sweep messages)).left (change_at sweep messages)
    (ap length (sym front.same ∙ fits-one-batch sweep messages h)
    ∙ ap (λ (left : List (ℕ × Unit {0})). length (map (change_at sweep messages) (keys_of left))) front.whole)

-- ---- its limits

pub few-batch : (sweep : SweepState) (messages : List Message) → length (batch_of sweep messages) ≤ BATCH_CHANGE_LIMIT
few-batch sweep messages =
    let few = few-go (change_at sweep messages) 0 BATCH_WEIGHT_LIMIT (keys_of sweep.left) (omega arith) in omega (arith, few)

none_only : (change : ℕ → Change) (left : List (ℕ × Unit {0})) → batch change (keys_of left) ≡ [] → left ≡ []
none_only change [] h = refl
none_only change (e ∷ left) h = let goes = sym (some-goes change e.0 (keys_of left)) ∙ h in cc

-- an empty batch goes only if none is left
pub some-batch : (sweep : SweepState) (messages : List Message) → batch_of sweep messages ≡ [] → sweep.left ≡ []
some-batch sweep messages h = none_only (change_at sweep messages) sweep.left h

abbrev HasLimit : Option Message → Type 0
HasLimit None = Unit {0}
HasLimit (Some message) = length message.body ≤ MESSAGE_LIMIT

limit_by : (message : Message) (found : Option Message) (b : Bool)
    → length message.body ≤ MESSAGE_LIMIT → HasLimit found → HasLimit (cond b (Some message) found)
limit_by message found true le has = le
limit_by message found false le has = has

limit_found : (messages : List Message) (uid : ℕ) → AreWithinLimit messages → HasLimit (message_at messages uid)
limit_found [] uid have = tt
limit_found (message ∷ messages) uid have =
    limit_by message (message_at messages uid) (message.uid == uid) have.0 (limit_found messages uid have.1)

light_change : (uid : ℕ) (sent : Bool) (found : Option Message) → HasLimit found → weight_of (change_by uid sent found) ≤ BATCH_WEIGHT_LIMIT
light_change uid sent None has = omega arith
light_change uid false (Some message) has = omega (arith, has)
light_change uid true (Some message) has = omega arith

light_all : (messages : List Message) (sent : ℕ → Bool) → AreWithinLimit messages → (uids : List ℕ)
    → AllByRecursion (λ uid. weight_of (change_by uid (sent uid) (message_at messages uid)) ≤ BATCH_WEIGHT_LIMIT) uids
light_all messages sent have [] = tt
light_all messages sent have (uid ∷ uids) =
    (light_change uid (sent uid) (message_at messages uid) (limit_found messages uid have), light_all messages sent have uids)

pub light-one : (sweep : SweepState) (messages : List Message) → AreWithinLimit messages → sum_by weight_of (batch_of sweep messages) ≤ BATCH_WEIGHT_LIMIT
light-one sweep messages have =
    light-batch (change_at sweep messages) (keys_of sweep.left) (light_all messages (is_sent sweep) have (keys_of sweep.left))
