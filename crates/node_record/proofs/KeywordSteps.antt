-- What the code that reads a keyword rests on.
use Rattle.std.proofs.Common.{◌≡◌, ℕ, ◌≤◌, List, [], ◌∷◌, length, Bool, true, ◌&&◌, cond, nat_le, Result, Ok, Err, None, IfOk, refl, sym, ap, ◌∙◌, arith, eq-eqb}
use Rattle.std.proofs.lemmas.Bool.Decides.{nat_tests}
use Rattle.grammar.specs.Part.{◌>>=◌}
use Rattle.grammar.specs.Words.{word}
use Rattle.grammar.proofs.Conditions.{and_both, and_left, and_right}
use Rattle.mail_message.specs.Keywords.{keyword_fault}
use Rattle.node_record.specs.Parts.{small}
use Rattle.node_record.specs.Flags.{is_next, goes_on, next_keywords, is_size, size_for, keyword}
use Rattle.node_record.proofs.KeywordsLaw.{Next, next_is, is_next_from}
use Rattle.node_record.proofs.FlagsLaw.{keyword_from}

module _ (before : List ℕ) (above : ℕ) where
  pub keyword_stops : (bytes : List ℕ) (left : ℕ) → (small (is_size before above)).at bytes ≡ Err left → (keyword before above).at bytes ≡ Err left
  unfolding keyword
  keyword_stops bytes left e = ap (λ r. r >>= (λ (size : ℕ) (rest : List ℕ). (word (next_keywords before above (size_for before above size))).at rest)) e

  sized : (size : ℕ) → is_size before above size ≡ true → size_for before above size ≡ size
  sized size h = ap (λ (b : Bool). cond b size 64) h

  pub keyword_goes : (bytes rest : List ℕ) (size : ℕ) → (small (is_size before above)).at bytes ≡ Ok (size, rest) → is_size before above size ≡ true
      → (keyword before above).at bytes ≡ (word (next_keywords before above size)).at rest
  unfolding keyword
  keyword_goes bytes rest size e h =
      ap (λ r. r >>= (λ (size : ℕ) (rest : List ℕ). (word (next_keywords before above (size_for before above size))).at rest)) e
      ∙ ap (λ (n : ℕ). (word (next_keywords before above n)).at rest) (sized size h)

  pub size_some : (size : ℕ) → is_size before above size ≡ true → goes_on before above size [] ≡ true
  unfolding is_size
  size_some size h = and_right (nat_le 1 size && nat_le size 64) (goes_on before above size []) h

  bounds : (size : ℕ) → is_size before above size ≡ true → (nat_le 1 size && nat_le size 64) ≡ true
  unfolding is_size
  bounds size h = and_left (nat_le 1 size && nat_le size 64) (goes_on before above size []) h

  pub size_short : (size : ℕ) → is_size before above size ≡ true → size ≤ 64
  size_short size h = let both = and_right (nat_le 1 size) (nat_le size 64) (bounds size h) in grind (arith, nat_tests, both)

  size_low : (size : ℕ) → is_size before above size ≡ true → 1 ≤ size
  size_low size h = let both = and_left (nat_le 1 size) (nat_le size 64) (bounds size h) in grind (arith, nat_tests, both)

  next_alone : (size : ℕ) (text : List ℕ) → is_next before above size text ≡ true → is_next before above (length text) text ≡ true
  next_alone size text h =
      let n = next_is before above size text h in
      is_next_from before above (length text) text (record { long = refl; atoms = n.atoms; higher = n.higher; room = n.room })

  next_named : (size : ℕ) (text : List ℕ) → is_size before above size ≡ true → is_next before above size text ≡ true → keyword_fault text ≡ None
  next_named size text ok h =
      let n = next_is before above size text h in
      keyword_from text (record { some = omega (arith, n.long, size_low size ok); few = omega (arith, n.long, size_short size ok); atoms = n.atoms })

  -- of what was read
  module _ {X E : Type 0} (text : X → List ℕ) (size : ℕ) where
    pub next_read : (r : Result X E) → IfOk r (λ x. is_next before above size (text x) ≡ true) → IfOk r (λ x. is_next before above (length (text x)) (text x) ≡ true)
    next_read (Ok x) h = next_alone size (text x) h
    next_read (Err e) h = tt

    pub named_read : is_size before above size ≡ true → (r : Result X E) → IfOk r (λ x. is_next before above size (text x) ≡ true) → IfOk r (λ x. keyword_fault (text x) ≡ None)
    named_read ok (Ok x) h = next_named size (text x) ok h
    named_read ok (Err e) h = tt
