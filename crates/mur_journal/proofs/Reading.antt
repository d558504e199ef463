-- What is read so far of an image, block by block.
use Rattle.std.proofs.Common.{◌≡◌, ◌≢◌, ℕ, zero, suc, ◌+◌, ◌≤◌, ◌<◌, List, [], ◌∷◌, ◌++◌, length, get_or, take, drop, refl, sym, ◌∙◌, ap, subst, arith}
use Rattle.std.proofs.Common.{append_assoc, length-drop}
use Rattle.std.proofs.lemmas.List.{append-nil, drop_more, drop_all, length-take-le}
use Rattle.std.proofs.lemmas.Bool.Decides.{nat_tests}
use Rattle.mur_journal.specs.Image.{magic, ImageForm, Good, Bad, entry_size, with_first_entry, blocks_from, headed, parsed}
use Rattle.mur_journal.proofs.Images.{step_closed, step_open, step_short}

-- a form after these entries
abbrev pub prefixed : List (List ℕ) → ImageForm → ImageForm
prefixed entries (Good more gate) = Good (entries ++ more) gate
prefixed entries (Bad offset) = Bad offset

-- these entries are read, and the rest begins at this place with a gate
pub record Reading (image : List ℕ) (entries : List (List ℕ)) (at : ℕ) (rest : List ℕ) : Type 0 where
  pub fuel : ℕ
  pub enough : length rest < fuel
  pub same : parsed image ≡ prefixed entries (blocks_from fuel at rest)
  pub long : at + length rest ≡ length image

pub begun : (image rest : List ℕ) → parsed image ≡ blocks_from (suc (length rest)) 8 rest → 8 + length rest ≡ length image → Reading image [] 8 rest
begun image rest same long = record {
  fuel = suc (length rest);
  enough = omega arith;
  same = same
      ∙ as_it_is (blocks_from (suc (length rest)) 8 rest);
  long = long;
}
  where
    as_it_is : (f : ImageForm) → f ≡ prefixed [] f
    as_it_is (Good entries gate) = refl
    as_it_is (Bad offset) = refl

pushed : (entries : List (List ℕ)) (entry : List ℕ) (f : ImageForm) → prefixed entries (with_first_entry entry f) ≡ prefixed (entries ++ entry ∷ []) f
pushed entries entry (Good more gate) = ap (λ (es : List (List ℕ)). Good es gate) (sym (append_assoc entries (entry ∷ []) more))
pushed entries entry (Bad offset) = refl

module _ (image : List ℕ) (entries : List (List ℕ)) (at : ℕ) where
  pub goes_on : (rest : List ℕ) → Reading image entries at (1 ∷ rest) → 4 + entry_size rest < length rest
      → Reading image (entries ++ take (entry_size rest) (drop 4 rest) ∷ []) (at + (5 + entry_size rest)) (drop (4 + entry_size rest) rest)
  goes_on rest reading fits = with_fuel reading.fuel reading.enough reading.same
    where
      n : ℕ
      n = entry_size rest

      with_fuel : (fuel : ℕ) → length (1 ∷ rest) < fuel → parsed image ≡ prefixed entries (blocks_from fuel at (1 ∷ rest))
          → Reading image (entries ++ take (entry_size rest) (drop 4 rest) ∷ []) (at + (5 + entry_size rest)) (drop (4 + entry_size rest) rest)
      with_fuel zero enough same = absurd (omega (arith, enough))
      with_fuel (suc fuel) enough same = record {
        fuel = fuel;
        enough = omega (arith, enough, length-drop (4 + entry_size rest) rest);
        same = same ∙ ap (prefixed entries) (step_open fuel at 1 rest refl fits)
            ∙ pushed entries (take (entry_size rest) (drop 4 rest)) (blocks_from fuel (at + (5 + entry_size rest)) (drop (4 + entry_size rest) rest));
        long = omega (arith, reading.long, fits, length-drop (4 + entry_size rest) rest);
      }

  -- a gate that isn't open ends them
  pub ends : (gate : ℕ) (rest : List ℕ) → Reading image entries at (gate ∷ rest) → gate ≢ 1 → parsed image ≡ Good entries at
  ends gate rest reading shut = with_fuel reading.fuel reading.enough reading.same
    where
      with_fuel : (fuel : ℕ) → length (gate ∷ rest) < fuel → parsed image ≡ prefixed entries (blocks_from fuel at (gate ∷ rest))
          → parsed image ≡ Good entries at
      with_fuel zero enough same = absurd (omega (arith, enough))
      with_fuel (suc fuel) enough same = same ∙ ap (prefixed entries) (step_closed fuel at gate rest shut)
          ∙ ap (λ (es : List (List ℕ)). Good es at) (append-nil entries)

  pub is_short : (rest : List ℕ) → Reading image entries at (1 ∷ rest) → length rest ≤ 4 + entry_size rest → parsed image ≡ Bad at
  is_short rest reading short = with_fuel reading.fuel reading.enough reading.same
    where
      with_fuel : (fuel : ℕ) → length (1 ∷ rest) < fuel → parsed image ≡ prefixed entries (blocks_from fuel at (1 ∷ rest)) → parsed image ≡ Bad at
      with_fuel zero enough same = absurd (omega (arith, enough))
      with_fuel (suc fuel) enough same = same ∙ ap (prefixed entries) (step_short fuel at 1 rest refl short)

  pub has_no_gate : Reading image entries at [] → parsed image ≡ Bad at
  has_no_gate reading = with_fuel reading.fuel reading.enough reading.same
    where
      with_fuel : (fuel : ℕ) → 0 < fuel → parsed image ≡ prefixed entries (blocks_from fuel at []) → parsed image ≡ Bad at
      with_fuel zero enough same = absurd (omega (arith, enough))
      with_fuel (suc fuel) enough same = same

-- the magic, byte by byte
head_step : (m b : ℕ) (ms bytes : List ℕ) (at : ℕ) → b ≡ m → headed (m ∷ ms) at (b ∷ bytes) ≡ headed ms (at + 1) bytes
head_step m b ms bytes at same = grind (arith, nat_tests)

head_differs : (m b : ℕ) (ms bytes : List ℕ) (at : ℕ) → b ≢ m → headed (m ∷ ms) at (b ∷ bytes) ≡ Bad at
head_differs m b ms bytes at differs = grind (arith, nat_tests)

-- the first of them are there
abbrev pub IsHeaded : List ℕ → ℕ → Type 0
IsHeaded image at = (at ≤ 8) × (at ≤ length image) × (parsed image ≡ headed (drop at magic) at (drop at image))

module _ (image : List ℕ) (at : ℕ) (headed_so : IsHeaded image at) (more : at < 8) where
  magic_at : drop at magic ≡ get_or magic at 0 ∷ drop (at + 1) magic
  magic_at = drop_more magic at 0 more

  pub next_there : at < length image → get_or image at 0 ≡ get_or magic at 0 → IsHeaded image (at + 1)
  next_there there same = (
    omega (arith, more),
    omega (arith, there),
    headed_so.2
        ∙ ap (λ (l : List ℕ). headed l at (drop at image)) magic_at
        ∙ ap (headed (get_or magic at 0 ∷ drop (at + 1) magic) at) (drop_more image at 0 there)
        ∙ head_step (get_or magic at 0) (get_or image at 0) (drop (at + 1) magic) (drop (at + 1) image) at same,
  )

  pub next_differs : at < length image → get_or image at 0 ≢ get_or magic at 0 → parsed image ≡ Bad at
  next_differs there differs =
      headed_so.2
      ∙ ap (λ (l : List ℕ). headed l at (drop at image)) magic_at
      ∙ ap (headed (get_or magic at 0 ∷ drop (at + 1) magic) at) (drop_more image at 0 there)
      ∙ head_differs (get_or magic at 0) (get_or image at 0) (drop (at + 1) magic) (drop (at + 1) image) at differs

  pub next_missing : length image ≤ at → parsed image ≡ Bad at
  next_missing ended =
      headed_so.2
      ∙ ap (λ (l : List ℕ). headed l at (drop at image)) magic_at
      ∙ ap (headed (get_or magic at 0 ∷ drop (at + 1) magic) at) (drop_all at image ended)

-- one block further, as the code has it
pub to_next : (image : List ℕ) (entries : List (List ℕ)) (at : ℕ) (rest bytes entry after : List ℕ) (next : List (List ℕ)) → Reading image entries at rest
    → rest ≡ 1 ∷ bytes
    → 4 + entry_size bytes < length bytes → entry ≡ take (entry_size bytes) (drop 4 bytes) → after ≡ drop (4 + entry_size bytes) bytes → next ≡ entries ++ entry ∷ []
    → Reading image next (at + (5 + length entry)) after
to_next image entries at rest bytes entry after next reading is fits entry_is after_is next_is =
    let on = goes_on image entries at bytes (subst (Reading image entries at) is reading) fits in
    let wide : length entry ≡ entry_size bytes = ap length entry_is ∙ length-take-le (entry_size bytes) (drop 4 bytes) (omega (arith, fits, length-drop 4 bytes)) in
    subst (λ (es : List (List ℕ)). Reading image es (at + (5 + length entry)) after) (sym next_is)
    (subst (λ (e : List ℕ). Reading image (entries ++ e ∷ []) (at + (5 + length entry)) after) (sym entry_is)
    (subst (λ (l : List ℕ). Reading image (entries ++ take (entry_size bytes) (drop 4 bytes) ∷ []) (at + (5 + length entry)) l) (sym after_is)
    (subst (λ (n : ℕ). Reading image (entries ++ take (entry_size bytes) (drop 4 bytes) ∷ []) (at + (5 + n)) (drop (4 + entry_size bytes) bytes)) (sym wide) on)))
