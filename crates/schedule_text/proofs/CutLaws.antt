-- The first piece ends behind the first LF.
use Rattle.std.proofs.Common.{◌≡◌, ℕ, zero, suc, ◌+◌, ◌<◌, ◌≤◌, Bool, true, false, nat_eq, List, [], ◌∷◌, length, slice_index, take, drop, None, Some, refl}
use Rattle.std.proofs.Common.{arith}
use Rattle.std.proofs.lemmas.Bool.{false_from_ne_true}
use Rattle.mur_base.specs.Names.{with_first}
use Rattle.memchr.specs.Find.{IsFirstByte, is_byte}
use Rattle.schedule_text.specs.Cuts.{cuts_of}

pub cut_nowhere : (text : List ℕ) → 0 < length text → IsFirstByte (is_byte 10) text None → cuts_of text ≡ text ∷ []
unfolding cuts_of with_first
cut_nowhere [] some none = absurd (omega arith)
cut_nowhere (b ∷ []) some none = rw (false_from_ne_true _ (none 0 (omega arith) (omega arith))) refl
cut_nowhere (b ∷ next ∷ text) some none =
    rw (
      false_from_ne_true _ (none 0 (omega arith) (omega arith)),
      cut_nowhere (next ∷ text) (omega arith) (λ k low high. none (suc k) (omega arith) (omega arith)),
    ) refl

cut_at : (text : List ℕ) (k : ℕ) → k < length text → ((q : ℕ) → q < k → nat_eq (slice_index text q) 10 ≡ false) → nat_eq (slice_index text k) 10 ≡ true
    → cuts_of text ≡ take (suc k) text ∷ cuts_of (drop (suc k) text)
unfolding cuts_of with_first
cut_at [] k within none found = absurd (omega arith)
cut_at (b ∷ text) zero within none found = rw found refl
cut_at (b ∷ text) (suc k) within none found =
    rw (none 0 (omega arith), cut_at text k (omega arith) (λ q h. none (suc q) (omega arith)) found) refl

pub cut_behind : (text : List ℕ) (k : ℕ) → IsFirstByte (is_byte 10) text (Some k) → cuts_of text ≡ take (k + 1) text ∷ cuts_of (drop (k + 1) text)
cut_behind text k first =
    let next : k + 1 ≡ suc k = omega arith in
    rw next (cut_at text k first.0.high (λ q h. false_from_ne_true _ (first.0.before q (omega arith) h)) first.1)

length-with_first : (b : ℕ) (pieces : List (List ℕ)) → length (with_first b pieces) ≤ length pieces + 1
unfolding with_first
length-with_first b [] = omega arith
length-with_first b (piece ∷ pieces) = omega arith

length-cuts_by : (b : ℕ) (text : List ℕ) → length (cuts_of text) ≤ length text → (feed : Bool) → nat_eq b 10 ≡ feed
    → length (cuts_of (b ∷ text)) ≤ length (b ∷ text)
unfolding cuts_of
length-cuts_by b text ih true e = rw e (omega arith)
length-cuts_by b text ih false e = rw e (omega (arith, length-with_first b (cuts_of text)))

-- no piece is empty
pub length-cuts : (text : List ℕ) → length (cuts_of text) ≤ length text
unfolding cuts_of
length-cuts [] = omega arith
length-cuts (b ∷ text) = length-cuts_by b text (length-cuts text) (nat_eq b 10) refl

pub no_pieces : (text : List ℕ) → length text ≡ 0 → cuts_of text ≡ []
unfolding cuts_of
no_pieces [] none = refl
no_pieces (b ∷ text) none = absurd (omega arith)

pub ruleset by_first = (no_pieces, cut_nowhere, cut_behind)
