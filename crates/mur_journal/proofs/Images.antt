-- What an image of open blocks and a closed gate is, and that each journal is such an image.
use Rattle.std.proofs.Common.{◌≡◌, ◌≢◌, ◌⊎◌, inl, inr, ℕ, zero, suc, ◌+◌, ◌≤◌, ◌<◌, List, [], ◌∷◌, ◌++◌, length, take, drop, refl, sym, ◌∙◌, ap, subst, arith}
use Rattle.std.proofs.Common.{append_assoc, length-append, length-drop, take-append-drop}
use Rattle.std.specs.Int.{w32, from_be_bytes}
use Rattle.std.proofs.lemmas.List.{length-take-le, take_at, drop_at, drop-drop, append-nil}
use Rattle.std.proofs.lemmas.Bool.{cases_eq, cases_lt}
use Rattle.std.proofs.lemmas.Bool.Decides.{nat_tests}
use Rattle.mur_journal.specs.Image.{magic, ImageForm, Good, Bad, entry_size, with_first_entry, blocks_from, headed, parsed, IsFront, IsBlock}

-- open blocks, a closed gate and whatever follows
pub record AtRest (image : List ℕ) (entries : List (List ℕ)) (place : ℕ) : Type 0 where
  pub front : List ℕ
  pub gate : ℕ
  pub tail : List ℕ
  pub opened : IsFront entries front
  pub shut : gate ≢ 1
  pub whole : image ≡ (magic ++ front) ++ gate ∷ tail
  pub at : place ≡ 8 + length front

pub step_closed : (fuel at gate : ℕ) (rest : List ℕ) → gate ≢ 1 → blocks_from (suc fuel) at (gate ∷ rest) ≡ Good [] at
step_closed fuel at gate rest shut = grind (arith, nat_tests)

pub step_open : (fuel at gate : ℕ) (rest : List ℕ) → gate ≡ 1 → 4 + entry_size rest < length rest
    → blocks_from (suc fuel) at (gate ∷ rest) ≡ with_first_entry (take (entry_size rest) (drop 4 rest))
    (blocks_from fuel (at + (5 + entry_size rest)) (drop (4 + entry_size rest) rest))
step_open fuel at gate rest is_open fits = grind (arith, nat_tests)

pub step_short : (fuel at gate : ℕ) (rest : List ℕ) → gate ≡ 1 → length rest ≤ 4 + entry_size rest → blocks_from (suc fuel) at (gate ∷ rest) ≡ Bad at
step_short fuel at gate rest is_open short = grind (arith, nat_tests)

-- a block's length, and where it ends
module _ (head entry rest : List ℕ) (four : length head ≡ 4) (says : from_be_bytes w32 head ≡ length entry) where
  size_at : entry_size (head ++ (entry ++ rest)) ≡ length entry
  size_at = ap (from_be_bytes w32) (take_at head (entry ++ rest) 4 four) ∙ says

  entry_at : take (length entry) (drop 4 (head ++ (entry ++ rest))) ≡ entry
  entry_at = ap (λ (l : List ℕ). take (length entry) l) (drop_at head (entry ++ rest) 4 four) ∙ take_at entry rest _ refl

  rest_at : drop (4 + length entry) (head ++ (entry ++ rest)) ≡ rest
  rest_at = sym (drop-drop (length entry) 4 (head ++ (entry ++ rest))) ∙ ap (λ (l : List ℕ). drop (length entry) l) (drop_at head (entry ++ rest) 4 four)
      ∙ drop_at entry rest _ refl

  length_block : length (head ++ (entry ++ rest)) ≡ 4 + length entry + length rest
  length_block = omega (arith, four, length-append head (entry ++ rest), length-append entry rest)

  pub step_block : (fuel at : ℕ) → 0 < length rest
      → blocks_from (suc fuel) at (1 ∷ (head ++ (entry ++ rest))) ≡ with_first_entry entry (blocks_from fuel (at + (5 + length entry)) rest)
  step_block fuel at more =
      step_open fuel at 1 (head ++ (entry ++ rest)) refl (omega (arith, more, size_at, length_block))
      ∙ ap (λ (n : ℕ). with_first_entry (take n (drop 4 (head ++ (entry ++ rest))))
      (blocks_from fuel (at + (5 + n)) (drop (4 + n) (head ++ (entry ++ rest))))) size_at
      ∙ ap (λ (l : List ℕ). with_first_entry l (blocks_from fuel (at + (5 + length entry)) (drop (4 + length entry) (head ++ (entry ++ rest))))) entry_at
      ∙ ap (λ (l : List ℕ). with_first_entry entry (blocks_from fuel (at + (5 + length entry)) l)) rest_at

-- open blocks and a closed gate are read as they are, whatever follows
pub read_front : (entries : List (List ℕ)) (front : List ℕ) (gate : ℕ) (tail : List ℕ) (fuel at : ℕ) → IsFront entries front → gate ≢ 1 → length front < fuel
    → blocks_from fuel at (front ++ gate ∷ tail) ≡ Good entries (at + length front)
read_front entries front gate tail zero at opened shut enough = absurd (omega (arith, enough))
read_front [] front gate tail (suc fuel) at opened shut enough =
    ap (λ (l : List ℕ). blocks_from (suc fuel) at (l ++ gate ∷ tail)) opened ∙ step_closed fuel at gate tail shut
    ∙ ap (Good []) (omega (arith, ap length opened))
read_front (entry ∷ entries) front gate tail (suc fuel) at (head, rest, four, says, opened, is) shut enough =
    let long : length front ≡ 5 + length entry + length rest = omega (arith, ap length is, length_block head entry rest four says) in
    let split : front ++ gate ∷ tail ≡ 1 ∷ (head ++ (entry ++ (rest ++ gate ∷ tail))) =
    ap (λ (l : List ℕ). l ++ gate ∷ tail) is
    ∙ ap (λ (l : List ℕ). 1 ∷ l) (append_assoc head (entry ++ rest) (gate ∷ tail)
    ∙ ap (λ (l : List ℕ). head ++ l) (append_assoc entry rest (gate ∷ tail))) in
    ap (blocks_from (suc fuel) at) split
    ∙ step_block head entry (rest ++ gate ∷ tail) four says fuel at (omega (arith, length-append rest (gate ∷ tail)))
    ∙ ap (with_first_entry entry) (read_front entries rest gate tail fuel (at + (5 + length entry)) opened shut (omega (arith, long, enough)))
    ∙ ap (Good (entry ∷ entries)) (omega (arith, long))

pub is_parsed : (image : List ℕ) (entries : List (List ℕ)) (place : ℕ) → AtRest image entries place → parsed image ≡ Good entries place
is_parsed image entries place rest =
    ap parsed rest.whole
    ∙ read_front entries rest.front rest.gate rest.tail (suc (length (rest.front ++ rest.gate ∷ rest.tail))) 8 rest.opened rest.shut
    (omega (arith, length-append rest.front (rest.gate ∷ rest.tail)))
    ∙ ap (Good entries) (sym rest.at)

-- two runs of open blocks
pub joined : (entries more : List (List ℕ)) (front second : List ℕ) → IsFront entries front → IsFront more second → IsFront (entries ++ more) (front ++ second)
joined [] more front second opened also = subst (λ (l : List ℕ). IsFront more (l ++ second)) (sym opened) also
joined (entry ∷ entries) more front second (head, rest, four, says, opened, is) also = (
  head,
  rest ++ second,
  four,
  says,
  joined entries more rest second opened also,
  ap (λ (l : List ℕ). l ++ second) is
      ∙ ap (λ (l : List ℕ). 1 ∷ l) (append_assoc head (entry ++ rest) second ∙ ap (λ (l : List ℕ). head ++ l) (append_assoc entry rest second)),
)

-- what a run of blocks is: open blocks of its entries, and a closed gate at its place
pub record Split (bytes : List ℕ) (entries : List (List ℕ)) (place at : ℕ) : Type 0 where
  pub front : List ℕ
  pub gate : ℕ
  pub tail : List ℕ
  pub opened : IsFront entries front
  pub shut : gate ≢ 1
  pub whole : bytes ≡ front ++ gate ∷ tail
  pub place_is : place ≡ at + length front

good_entries : (f : ImageForm) (entry : List ℕ) (entries : List (List ℕ)) (place : ℕ) → with_first_entry entry f ≡ Good entries place
    → (more : List (List ℕ)) × (f ≡ Good more place) × (entries ≡ entry ∷ more)
good_entries (Good more gate) entry entries place same = (more, ap (Good more) (cc same), sym (cc same))
good_entries (Bad offset) entry entries place same = absurd (cc same)

-- the first four bytes, as many as they say, and the rest
in_three : (rest : List ℕ) (n : ℕ) → rest ≡ take 4 rest ++ (take n (drop 4 rest) ++ drop (4 + n) rest)
in_three rest n =
    sym (take-append-drop 4 rest)
    ∙ ap (λ (l : List ℕ). take 4 rest ++ l) (sym (take-append-drop n (drop 4 rest)) ∙ ap (λ (l : List ℕ). take n (drop 4 rest) ++ l) (drop-drop n 4 rest))

pub split_front : (fuel at : ℕ) (bytes : List ℕ) (entries : List (List ℕ)) (place : ℕ) → blocks_from fuel at bytes ≡ Good entries place
    → Split bytes entries place at
split_front zero at bytes entries place good = absurd (cc good)
split_front (suc fuel) at [] entries place good = absurd (cc good)
split_front (suc fuel) at (gate ∷ rest) entries place good = elim (cases_eq gate 1) [
  | inl is_open ↦ elim (cases_lt (4 + entry_size rest) (length rest)) [
    | inr short ↦ absurd (cc (good, step_short fuel at gate rest is_open short))
    | inl fits ↦
        let n = entry_size rest in
        let entry = take n (drop 4 rest) in
        let found = good_entries (blocks_from fuel (at + (5 + n)) (drop (4 + n) rest)) entry entries place (sym (step_open fuel at gate rest is_open fits)
        ∙ good) in
        let next = split_front fuel (at + (5 + n)) (drop (4 + n) rest) found.0 place found.1 in
        let four : length (take 4 rest) ≡ 4 = length-take-le 4 rest (omega (arith, fits)) in
        let wide : length entry ≡ n = length-take-le n (drop 4 rest) (omega (arith, fits, length-drop 4 rest)) in
        let front = 1 ∷ (take 4 rest ++ (entry ++ next.front)) in
        record {
          front = front;
          gate = next.gate;
          tail = next.tail;
          opened = subst (λ (es : List (List ℕ)). IsFront es front) (sym found.2) (take 4 rest, next.front, four, sym wide, next.opened, refl);
          shut = next.shut;
          whole =
              ap (λ (g : ℕ). g ∷ rest) is_open
              ∙ ap (λ (l : List ℕ). 1 ∷ l) (in_three rest n ∙ ap (λ (l : List ℕ). take 4 rest ++ (entry ++ l)) next.whole
              ∙ ap (λ (l : List ℕ). take 4 rest ++ l) (sym (append_assoc entry next.front (next.gate ∷ next.tail)))
              ∙ sym (append_assoc (take 4 rest) (entry ++ next.front) (next.gate ∷ next.tail)));
          place_is = omega (arith, next.place_is, wide, length_block (take 4 rest) entry next.front four (sym wide));
        }
  ]
  | inr shut ↦
      let same : Good [] at ≡ Good entries place = sym (step_closed fuel at gate rest shut) ∙ good in
      let none : [] ≡ entries = cc same in
      let here : at ≡ place = cc same in
      record {
        front = [];
        gate = gate;
        tail = rest;
        opened = subst
            (λ (es : List (List ℕ)). IsFront es []) none refl;
        shut = shut;
        whole = refl;
        place_is = omega (arith, here);
      }
]

pub split_head : (ms : List ℕ) (at : ℕ) (bytes : List ℕ) (entries : List (List ℕ)) (place : ℕ) → headed ms at bytes ≡ Good entries place
    → (rest : List ℕ) × (bytes ≡ ms ++ rest) × (blocks_from (suc (length rest)) (at + length ms) rest ≡ Good entries place)
split_head [] at bytes entries place good = (bytes, refl, ap (λ (k : ℕ). blocks_from (suc (length bytes)) k bytes) (the_same at) ∙ good)
  where
    the_same : (k : ℕ) → k + 0 ≡ k
    the_same k = omega arith
split_head (m ∷ ms) at [] entries place good = absurd (cc good)
split_head (m ∷ ms) at (b ∷ bytes) entries place good = elim (cases_eq b m) [
  | inl same ↦
      let on : headed (m ∷ ms) at (b ∷ bytes) ≡ headed ms (at + 1) bytes = grind (arith, nat_tests) in
      let found = split_head ms (at + 1) bytes entries place (sym on ∙ good) in
      let there : at + 1 + length ms ≡ at + length (m ∷ ms) = omega arith in
      (found.0, (λ i. same i ∷ found.1 i), subst (λ (k : ℕ). blocks_from (suc (length found.0)) k found.0 ≡ Good entries place) there found.2)
  | inr differs ↦
      let off : headed (m ∷ ms) at (b ∷ bytes) ≡ Bad at = grind (arith, nat_tests) in
      absurd (cc (off, good))
]

pub is_split : (image : List ℕ) (entries : List (List ℕ)) (place : ℕ) → parsed image ≡ Good entries place → AtRest image entries place
is_split image entries place good =
    let head = split_head magic 0 image entries place good in
    let found = split_front (suc (length head.0)) 8 head.0 entries place head.2 in
    record {
      front = found.front;
      gate = found.gate;
      tail = found.tail;
      opened = found.opened;
      shut = found.shut;
      at = found.place_is;
      whole = head.1 ∙ ap (λ (l : List ℕ). magic ++ l) found.whole;
    }

-- one block more
pub one_more : (entries : List (List ℕ)) (front entry head : List ℕ) → IsFront entries front → length head ≡ 4 → from_be_bytes w32 head ≡ length entry
    → IsFront (entries ++ entry ∷ []) (((front ++ 1 ∷ []) ++ head) ++ entry)
one_more entries front entry head opened four says =
    subst (IsFront (entries ++ entry ∷ [])) (sym (ap (λ (l : List ℕ). l ++ entry) (append_assoc front (1 ∷ []) head) ∙ append_assoc front (1 ∷ head) entry))
    (joined entries (entry ∷ []) front (1 ∷ (head ++ entry)) opened (head, [], four, says, refl, ap (λ (l : List ℕ). 1 ∷ (head ++ l)) (sym (append-nil entry))))

-- open blocks and a closed gate, without the first gate, are what is written after a gate
pub is_block : (entries : List (List ℕ)) (front : List ℕ) → 0 < length entries → IsFront entries front → IsBlock entries (drop 1 (front ++ 0 ∷ []))
is_block [] front some opened = absurd (omega (arith, some))
is_block (entry ∷ entries) front some (head, rest, four, says, opened, is) =
    (head ++ (entry ++ rest), (head, rest, four, says, opened, refl), ap (λ (l : List ℕ). drop 1 (l ++ 0 ∷ [])) is)
