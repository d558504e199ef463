-- What is found byte by byte of a text that leaves room for keywords above it.
use Rattle.std.proofs.Common.{◌≡◌, ◌≢◌, ℕ, zero, suc, ◌+◌, ◌-◌, ◌<◌, ◌≤◌, List, [], ◌∷◌, length, drop, get_or, Bool, true, false, cond, nat_le, nat_eq, ◌==◌, refl, sym, ap, ◌∙◌, subst, arith, eq-eqb, ne_eqb, drop-cons, length-drop}
use Rattle.node_record.specs.Flags.{leaves_room}

module _ (last : ℕ) (text : List ℕ) (i : ℕ) where
  pub room_at_63 : i ≡ 63 → i < length text → leaves_room (63 - i) last (drop i text) ≡ nat_le (get_or text i 0) last
  unfolding leaves_room
  room_at_63 is there =
      let none : 63 - i ≡ zero = omega (arith, is) in
      ap (λ (k : ℕ). leaves_room k last (drop i text)) none ∙ ap (leaves_room zero last) (drop-cons text i 0 there)

  step : i < 63 → i < length text → leaves_room (63 - i) last (drop i text) ≡ cond (get_or text i 0 == 126) (leaves_room (63 - (i + 1)) last (drop (i + 1) text)) true
  unfolding leaves_room
  step few there =
      let more : 63 - i ≡ suc (63 - (i + 1)) = omega (arith, few) in
      let next : suc i ≡ i + 1 = omega arith in
      ap (λ (k : ℕ). leaves_room k last (drop i text)) more
      ∙ ap (leaves_room (suc (63 - (i + 1))) last) (drop-cons text i 0 there ∙ ap (λ (j : ℕ). get_or text i 0 ∷ drop j text) next)

  pub room_other : i < 63 → i < length text → get_or text i 0 ≢ 126 → leaves_room (63 - i) last (drop i text) ≡ true
  room_other few there other =
      step few there ∙ ap (λ (b : Bool). cond b (leaves_room (63 - (i + 1)) last (drop (i + 1) text)) true) (ne_eqb (get_or text i 0) 126 other)

  pub room_next : i < 63 → i < length text → get_or text i 0 ≡ 126 → leaves_room (63 - (i + 1)) last (drop (i + 1) text) ≡ leaves_room (63 - i) last (drop i text)
  room_next few there is =
      sym (step few there ∙ ap (λ (b : Bool). cond b (leaves_room (63 - (i + 1)) last (drop (i + 1) text)) true) (eq-eqb (get_or text i 0) 126 is))

nothing : (t : List ℕ) → length t ≡ 0 → t ≡ []
nothing [] e = refl
nothing (c ∷ t) e = absurd (omega (arith, e))

pub room_end : (last : ℕ) (text : List ℕ) (i : ℕ) → length text ≤ i → leaves_room (63 - i) last (drop i text) ≡ true
unfolding leaves_room
room_end last text i done =
    ap (leaves_room (63 - i) last) (nothing (drop i text) (omega (arith, length-drop i text, done))) ∙ empty (63 - i)
  where
    empty : (k : ℕ) → leaves_room k last [] ≡ true
    empty k = refl
