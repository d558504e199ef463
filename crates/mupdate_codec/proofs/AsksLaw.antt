-- A tag tells the command that it was made of.
use Rattle.std.proofs.Common.{◌≡◌, ℕ, ◌+◌, ◌-◌, ◌^◌, ◌<◌, List, [], ◌∷◌, ◌++◌, Bool, true, false, nat_eq, cond, None, Some, refl, sym, ap, ◌∙◌}
use Rattle.std.proofs.Common.{append-nil, append_assoc, arith, not, length, take, drop, get_or, add-one, take-suc, drop-cons, suc, ap₂, length-drop}
use Rattle.std.proofs.lemmas.Bool.Decides.{nat_tests}
use Rattle.std.specs.List.{list_all}
use Rattle.mur_base.specs.Number.{is_digit, is_numeral, number_of, digits_behind}
use Rattle.mur_base.specs.declared.point.AskId.{AskId}
use Rattle.grammar.specs.Numbers.{decimal_text}
use Rattle.grammar.specs.Runs.{some}
use Rattle.grammar.proofs.Conditions.{and_left, and_right}
use Rattle.grammar.proofs.NumeralLaw.{decimal_writes}
use Rattle.mupdate_codec.specs.Asks.{tag_of, split_dash, ask_in, ask_id_of}

no_dash : (c : ℕ) → is_digit c ≡ true → nat_eq c 45 ≡ false
unfolding is_digit
no_dash c h = grind (arith, nat_tests)

split_digits : (front digits rest : List ℕ) → list_all is_digit digits ≡ true → split_dash front (digits ++ 45 ∷ rest) ≡ Some (front ++ digits, rest)
unfolding split_dash
split_digits front [] rest h = ap (λ s. Some (s, rest)) (sym (append-nil front))
split_digits front (c ∷ digits) rest h =
    ap (λ b. cond b (Some (front, digits ++ 45 ∷ rest)) (split_dash (front ++ c ∷ []) (digits ++ 45 ∷ rest))) (no_dash c (and_left _ _ h))
    ∙ split_digits (front ++ c ∷ []) digits rest (and_right (is_digit c) _ h)
    ∙ ap (λ s. Some (s, rest)) (append_assoc front (c ∷ []) digits)

numeral : (text : List ℕ) → list_all is_digit text ≡ true → some text ≡ true → is_numeral text ≡ true
unfolding is_numeral
numeral [] h k = k
numeral (c ∷ text) h k = h

read_back : (n : ℕ) → n < 2 ^ 64 → number_of (decimal_text n) ≡ Some n
unfolding number_of
read_back n h =
    let w = decimal_writes n in
    let value : digits_behind 0 (decimal_text n) ≡ n = w.value in
    rw (numeral (decimal_text n) w.digits w.there, value) (grind (arith, nat_tests))

pub ask_again : (ask : AskId) → ask.conn < 2 ^ 64 → ask.command < 2 ^ 64 → ask_id_of (tag_of ask) ≡ Some ask
unfolding ask_id_of tag_of
ask_again ask h k =
    let c = decimal_writes ask.conn in
    ap ask_in (split_digits [] (decimal_text ask.conn) (decimal_text ask.command) c.digits) ∙ rw (read_back ask.conn h, read_back ask.command k) refl

-- the tags of lines that no client's command waits for tell none
pub none_of : (text : List ℕ) → list_all (λ c. not (nat_eq c 45)) text ≡ true → (front : List ℕ) → split_dash front text ≡ None
unfolding split_dash
none_of [] h front = refl
none_of (c ∷ text) h front = by_test (nat_eq c 45) (and_left _ _ h) (none_of text (and_right _ _ h) (front ++ c ∷ []))
  where
    by_test : (b : Bool) → not b ≡ true → split_dash (front ++ c ∷ []) text ≡ None
        → cond b (Some (front, text)) (split_dash (front ++ c ∷ []) text) ≡ None
    by_test true k again = cc
    by_test false k again = again

-- the split at a place of the text
module _ (text : List ℕ) (i : ℕ) (within : i < length text) where
  split_at : (b : Bool) → nat_eq (get_or text i 0) 45 ≡ b → split_dash (take i text) (drop i text)
      ≡ cond b (Some (take i text, drop (i + 1) text)) (split_dash (take (i + 1) text) (drop (i + 1) text))
  unfolding split_dash
  split_at b e =
      let next : take (i + 1) text ≡ take i text ++ get_or text i 0 ∷ [] = ap (λ n. take n text) (add-one i) ∙ take-suc text i 0 within in
      let rest : drop (suc i) text ≡ drop (i + 1) text = ap (λ n. drop n text) (sym (add-one i)) in
      ap (split_dash (take i text)) (drop-cons text i 0 within)
      ∙ ap (λ b. cond b (Some (take i text, drop (suc i) text)) (split_dash (take i text ++ get_or text i 0 ∷ []) (drop (suc i) text))) e
      ∙ ap₂ (λ t f. cond b (Some (take i text, t)) (split_dash f t)) rest (sym next)

  pub split_here : nat_eq (get_or text i 0) 45 ≡ true → split_dash (take i text) (drop i text) ≡ Some (take i text, drop (i + 1) text)
  split_here e = split_at true e

  pub split_on : nat_eq (get_or text i 0) 45 ≡ false → split_dash (take i text) (drop i text) ≡ split_dash (take (i + 1) text) (drop (i + 1) text)
  split_on e = split_at false e

take_all : (text : List ℕ) → take (length text) text ≡ text
take_all [] = refl
take_all (c ∷ text) = ap (λ s. c ∷ s) (take_all text)

-- what follows so many bytes
pub rest_is : (text : List ℕ) (n : ℕ) → take (length text - n) (drop n text) ≡ drop n text
rest_is text n = ap (λ m. take m (drop n text)) (sym (length-drop n text)) ∙ take_all (drop n text)
