-- What a crash leaves in each of the two writes of an append.
use Rattle.std.proofs.Common.{◌≡◌, ◌≢◌, ◌⊎◌, inl, inr, ℕ, ◌+◌, ◌≤◌, ◌<◌, List, [], ◌∷◌, ◌++◌, length, get_or, take, drop, refl, sym, ◌∙◌, ap, arith}
use Rattle.std.proofs.Common.{append_assoc, length-append, take-append-drop}
use Rattle.std.proofs.lemmas.List.{take_at, drop_at, drop-drop, drop_more}
use Rattle.std.proofs.lemmas.Bool.{cases_eq}
use Rattle.mur_disk.specs.Calls.{Holds}
use Rattle.mur_disk.specs.Crash.{Torn}
use Rattle.mur_disk.proofs.Tears.{front_kept}
use Rattle.mur_journal.specs.Image.{magic, Good, parsed, entries_in, entries_of, HasEntries, IsFront, IsBlock}
use Rattle.mur_journal.specs.Settled.{HasBeforeOrAfter}
use Rattle.mur_journal.proofs.Images.{AtRest, joined, is_parsed, is_split}

-- the blocks of more entries stand after the closed gate
pub record Staged (image : List ℕ) (entries more : List (List ℕ)) (place wide : ℕ) : Type 0 where
  pub front : List ℕ
  pub gate : ℕ
  pub body : List ℕ
  pub tail : List ℕ
  pub opened : IsFront entries front
  pub shut : gate ≢ 1
  pub next : IsFront more (1 ∷ body)
  pub whole : image ≡ (magic ++ front) ++ gate ∷ (body ++ 0 ∷ tail)
  pub at : place ≡ 8 + length front
  pub width : wide ≡ length body

module _ (image : List ℕ) (entries : List (List ℕ)) (place : ℕ) (rest : AtRest image entries place) where
  abbrev head : List ℕ
  head = magic ++ rest.front

  long : length head ≡ place
  long = omega (arith, rest.at, length-append magic rest.front)

  -- the image up to its closed gate, and what follows
  split : image ≡ (head ++ rest.gate ∷ []) ++ rest.tail
  split = rest.whole ∙ sym (append_assoc head (rest.gate ∷ []) rest.tail)

  long_gate : length (head ++ rest.gate ∷ []) ≡ place + 1
  long_gate = omega (arith, long, length-append head (rest.gate ∷ []))

  to_gate : take (place + 1) image ≡ head ++ rest.gate ∷ []
  to_gate = ap (take (place + 1)) split ∙ take_at (head ++ rest.gate ∷ []) rest.tail (place + 1) long_gate

  reaches : place + 1 ≤ length image
  reaches = omega (arith, long_gate, ap length split, length-append (head ++ rest.gate ∷ []) rest.tail)

  -- whatever the first write leaves stands after a closed gate
  pub torn_block : (n : ℕ) (c : List ℕ) → Torn (place + 1) n image c → AtRest c entries place
  torn_block n c torn = record {
    front = rest.front;
    gate = rest.gate;
    tail = drop (place + 1) c;
    opened = rest.opened;
    shut = rest.shut;
    at = rest.at;
    whole = sym (take-append-drop (place + 1) c) ∙ ap (λ (l : List ℕ). l ++ drop (place + 1) c) (front_kept (place + 1) n image c torn reaches ∙ to_gate)
        ∙ append_assoc head (rest.gate ∷ []) (drop (place + 1) c);
  }

  pub written_block : (more : List (List ℕ)) (block : List ℕ) (c : List ℕ) (wide : ℕ) → IsBlock more block → length block ≡ wide + 1
      → Holds image (place + 1) block c → Staged c entries more place wide
  written_block more block c wide (body, next, is) long_block holds =
      let tail = drop (place + 1 + length block) image in record {
        front = rest.front;
        gate = rest.gate;
        body = body;
        tail = tail;
        opened = rest.opened;
        shut = rest.shut;
        next = next;
        at = rest.at;
        width = omega (arith, long_block, ap length is, length-append body (0 ∷ []));
        whole =
            holds
            ∙ ap (λ (l : List ℕ). l ++ block ++ tail) to_gate
            ∙ append_assoc (head ++ rest.gate ∷ []) block tail
            ∙ append_assoc head (rest.gate ∷ []) (block ++ tail)
            ∙ ap (λ (l : List ℕ). head ++ rest.gate ∷ (l ++ tail)) is
            ∙ ap (λ (l : List ℕ). head ++ rest.gate ∷ l) (append_assoc body (0 ∷ []) tail);
      }

module _ (image : List ℕ) (entries more : List (List ℕ)) (place wide : ℕ) (staged : Staged image entries more place wide) where
  abbrev head_2 : List ℕ
  head_2 = magic ++ staged.front

  long_2 : length head_2 ≡ place
  long_2 = omega (arith, staged.at, length-append magic staged.front)

  to_place : take place image ≡ head_2
  to_place = ap (take place) staged.whole ∙ take_at head_2 _ place long_2

  from_gate : drop (place + 1) image ≡ staged.body ++ 0 ∷ staged.tail
  from_gate =
      sym (drop-drop 1 place image)
      ∙ ap (drop 1) (ap (drop place) staged.whole ∙ drop_at head_2 (staged.gate ∷ (staged.body ++ 0 ∷ staged.tail)) place long_2)

  -- with the gate open there are the new entries too
  gate_open : (c : List ℕ) (gate : ℕ) → gate ≡ 1 → c ≡ head_2 ++ gate ∷ (staged.body ++ 0 ∷ staged.tail) → AtRest c (entries ++ more) (place + (1 + wide))
  gate_open c gate is_open is = record {
    front = staged.front ++ 1 ∷ staged.body;
    gate = 0;
    tail = staged.tail;
    opened = joined entries more staged.front (1 ∷ staged.body) staged.opened staged.next;
    shut = λ same. absurd (omega (arith, same));
    whole =
        is
        ∙ ap (λ (g : ℕ). head_2 ++ g ∷ (staged.body ++ 0 ∷ staged.tail)) is_open
        ∙ sym (append_assoc head_2 (1 ∷ staged.body) (0 ∷ staged.tail))
        ∙ ap (λ (l : List ℕ). l ++ 0 ∷ staged.tail) (append_assoc magic staged.front (1 ∷ staged.body));
    at = omega (arith, staged.at, staged.width, length-append staged.front (1 ∷ staged.body));
  }

  -- whatever the second write leaves in the gate, it counts or it doesn't
  pub torn_gate : (c : List ℕ) → Torn place 1 image c → AtRest c entries place ⊎ AtRest c (entries ++ more) (place + (1 + wide))
  torn_gate c torn =
      let reaches : place < length image = omega (
        arith,
        long_2,
        ap length staged.whole,
        length-append head_2 (staged.gate ∷ (staged.body ++ 0 ∷ staged.tail)),
      ) in
      let gate = get_or c place 0 in
      let rest : drop place c ≡ gate ∷ (staged.body ++ 0 ∷ staged.tail) =
      drop_more c place 0 (omega (arith, reaches, torn.no_shorter)) ∙ ap (λ (l : List ℕ). gate ∷ l) (torn.after ∙ from_gate) in
      let whole : c ≡ head_2 ++ gate ∷ (staged.body ++ 0 ∷ staged.tail) =
      sym (take-append-drop place c) ∙ ap (λ (l : List ℕ). l ++ drop place c) (front_kept place 1 image c torn (omega (arith, reaches)) ∙ to_place)
      ∙ ap (λ (l : List ℕ). head_2 ++ l) rest in
      elim (cases_eq gate 1) [
        | inl is_open ↦ inr (gate_open c gate is_open whole)
        | inr shut ↦ inl (record {
          front = staged.front;
          gate = gate;
          tail = staged.body ++ 0 ∷ staged.tail;
          opened = staged.opened;
          shut = shut;
          whole = whole;
          at = staged.at;
        })
      ]

  pub written_gate : (c : List ℕ) → Holds image place (1 ∷ []) c → AtRest c (entries ++ more) (place + (1 + wide))
  written_gate c holds =
      gate_open c 1 refl (holds
      ∙ ap (λ (l : List ℕ). l ++ (1 ∷ []) ++ drop (place + 1) image) to_place
      ∙ ap (λ (l : List ℕ). head_2 ++ (1 ∷ []) ++ l) from_gate
      ∙ append_assoc head_2 (1 ∷ []) (staged.body ++ 0 ∷ staged.tail))

-- The same, of what an image is read as.
module _ (image : List ℕ) (entries : List (List ℕ)) (place : ℕ) (good : parsed image ≡ Good entries place) where
  pub torn_block_kept : (n : ℕ) (c : List ℕ) → Torn (place + 1) n image c → HasEntries c entries
  torn_block_kept n c torn = (place, is_parsed c entries place (torn_block image entries place (is_split image entries place good) n c torn))

  module _ (more : List (List ℕ)) (block : List ℕ) (is : IsBlock more block) (staged : List ℕ) (holds : Holds image (place + 1) block staged) where
    width : length block ≡ length is.0 + 1
    width = omega (arith, ap length is.2, length-append is.0 (0 ∷ []))

    stage : Staged staged entries more place (length is.0)
    stage = written_block image entries place (is_split image entries place good) more block staged (length is.0) is width holds

    pub gate_kept : (c : List ℕ) → Torn place 1 staged c → HasBeforeOrAfter entries more c
    gate_kept c torn = elim (torn_gate staged entries more place (length is.0) stage c torn) [
      | inl rest ↦ inl (place, is_parsed c entries place rest)
      | inr rest ↦ inr (place + (1 + length is.0), is_parsed c (entries ++ more) (place + (1 + length is.0)) rest)
    ]

    pub gate_opened : (c : List ℕ) → Holds staged place (1 ∷ []) c → parsed c ≡ Good (entries ++ more) (place + length block)
    gate_opened c holds_gate =
        is_parsed c (entries ++ more) (place + (1 + length is.0)) (written_gate staged entries more place (length is.0) stage c holds_gate)
        ∙ ap (Good (entries ++ more)) (omega (arith, width))

-- its entries and its place, where they are known
pub good_of : (c : List ℕ) (entries : List (List ℕ)) (place : ℕ) → parsed c ≡ Good entries place → parsed c ≡ Good (entries_of c) place
good_of c entries place good = good ∙ ap (λ (es : List (List ℕ)). Good es place) (sym (ap entries_in good))
