-- Each choice gives an image that the pending calls may leave.
use Rattle.std.proofs.Common.{◌≡◌, ℕ, zero, suc, ◌+◌, ◌-◌, ◌/◌, ◌%◌, ◌≤◌, min, max, List, [], ◌∷◌, ◌++◌, length, take, drop, replicate, refl, sym, ◌∙◌, ap}
use Rattle.std.proofs.Common.{arith, length-append, length-drop, length-take}
use Rattle.std.proofs.lemmas.List.{length-take-le, drop_at, drop-drop, take-take, take-append-le, take_all, take_min, length-replicate}
use Rattle.mur_disk.specs.Calls.{Call, Wrote, CutTo, padded, written_over}
use Rattle.mur_disk.specs.Crash.{Torn, CutShort, IsTornBy, IsImage}
use Rattle.mur_disk.specs.Choice.{chosen_call, chosen}

module _ (at : ℕ) (old : List ℕ) where
  long_padded : length (padded at old) ≡ max (length old) at
  long_padded = omega (arith, length-append old (replicate (at - length old) 0), length-replicate {A = ℕ} (at - length old) 0)

  abbrev front : List ℕ
  front = take at (padded at old)

  long_front : length front ≡ at
  long_front = length-take-le at (padded at old) (omega (arith, long_padded))

  pub long_written : (bytes : List ℕ) → length (written_over at bytes old) ≡ max (length old) (at + length bytes)
  long_written bytes = omega (
    arith,
    long_front,
    length-append front (bytes ++ drop (at + length bytes) old),
    length-append bytes (drop (at + length bytes) old),
    length-drop (at + length bytes) old,
  )

  -- what lies after a write of at most n bytes
  pub after_written : (bytes : List ℕ) (n : ℕ) → length bytes ≤ n → drop (at + n) (written_over at bytes old) ≡ drop (at + n) old
  after_written bytes n fewer =
      sym (drop-drop n at (written_over at bytes old))
      ∙ ap (drop n) (drop_at front (bytes ++ drop (at + length bytes) old) at long_front)
      ∙ ap (λ (m : ℕ). drop m (bytes ++ drop (at + length bytes) old)) parts
      ∙ sym (drop-drop (n - length bytes) (length bytes) (bytes ++ drop (at + length bytes) old))
      ∙ ap (drop (n - length bytes)) (drop_at bytes (drop (at + length bytes) old) (length bytes) refl)
      ∙ drop-drop (n - length bytes) (at + length bytes) old
      ∙ ap (λ (m : ℕ). drop m old) whole
    where
      parts : n ≡ length bytes + (n - length bytes)
      parts = omega (arith, fewer)

      whole : at + length bytes + (n - length bytes) ≡ at + n
      whole = omega (arith, fewer)

  -- a write of fewer bytes is the torn write of more
  pub over_torn : (bytes : List ℕ) (n : ℕ) → length bytes ≤ n → Torn at n old (written_over at bytes old)
  over_torn bytes n fewer = record {
    before =
        take-append-le (min at (length old)) front (bytes ++ drop (at + length bytes) old) (omega (arith, long_front))
        ∙ take-take (min at (length old)) at (padded at old) (omega arith)
        ∙ take-append-le (min at (length old)) old (replicate (at - length old) 0) (omega arith)
        ∙ take_min at old;
    after = after_written bytes n fewer;
    no_shorter = omega (arith, long_written bytes);
    no_longer = omega (arith, long_written bytes, fewer);
  }

unwritten : (at n : ℕ) (old : List ℕ) → Torn at n old old
unwritten at n old = record { before = take_min at old; after = refl; no_shorter = omega arith; no_longer = omega arith }

uncut : (len : ℕ) (old : List ℕ) → CutShort len old old
uncut len old = record { no_shorter = omega arith; front = take_all (length old) old (omega arith) }

is_cut : (len : ℕ) (old : List ℕ) → CutShort len old (take len old)
is_cut len old = record { no_shorter = omega (arith, long); front = ap (λ (n : ℕ). take n old) long ∙ take_min len old }
  where
    long : length (take len old) ≡ min len (length old)
    long = length-take len old

pub call_torn : (number : ℕ) (call : Call) (old : List ℕ) → IsTornBy call old (chosen_call number call old)
call_torn zero (Wrote at bytes) old = unwritten at (length bytes) old
call_torn zero (CutTo len) old = uncut len old
call_torn (suc zero) (Wrote at bytes) old = over_torn at old bytes (length bytes) (omega arith)
call_torn (suc zero) (CutTo len) old = is_cut len old
call_torn (suc (suc zero)) (Wrote at bytes) old = over_torn at old (take (length bytes / 2) bytes) (length bytes)
    (omega (arith, length-take (length bytes / 2) bytes))
call_torn (suc (suc zero)) (CutTo len) old = uncut len old
call_torn (suc (suc (suc n))) (Wrote at bytes) old = over_torn at old (replicate (length bytes) 255) (length bytes)
    (omega (arith, length-replicate {A = ℕ} (length bytes) 255))
call_torn (suc (suc (suc n))) (CutTo len) old = uncut len old

pub chosen_is_image : (choice : ℕ) (calls : List Call) (synced : List ℕ) → IsImage synced calls (chosen choice calls synced)
chosen_is_image choice [] synced = refl
chosen_is_image choice (call ∷ calls) synced =
    (chosen_call (choice % 4) call synced, call_torn (choice % 4) call synced, chosen_is_image (choice / 4) calls (chosen_call (choice % 4) call synced))
