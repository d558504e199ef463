-- The OK of a barrier begins with a digit.
use Rattle.std.proofs.Common.{◌≡◌, ℕ, nat_eq, nat_lt, Bool, true, false, cond, List, [], ◌∷◌, ◌++◌, length, Option, None, Some, refl, sym, ap, ◌∙◌, subst}
use Rattle.std.proofs.Common.{arith, suc}
use Rattle.std.proofs.lemmas.Bool.Decides.{nat_tests}
use Rattle.grammar.proofs.Conditions.{and_both, and_left}
use Rattle.mupdate_codec.specs.declared.tag.Tag.TheVariants.{Text}
use Rattle.mupdate_codec.specs.Asks.{ask_by, ask_id_of, ask_in, first_word, line_ask, split_dash}
use Rattle.mur_base.specs.declared.point.AskId.{AskId}
use Rattle.mur_base.specs.Number.{is_digit, is_numeral, number_of, digits_behind}
use Rattle.ask_routes.specs.Barrier.{barrier_answered, begins_with_digit}
use Rattle.ask_routes.proofs.BarrierLaw.{ok_tells_its_command}

-- a text that writes a number is a numeral

numeral_by : (text : List ℕ) (n : ℕ) (is : Bool) → is_numeral text ≡ is → number_of text ≡ Some n → is_numeral text ≡ true
unfolding number_of
numeral_by text n true e h = e
numeral_by text n false e h =
    let there : Option ℕ = cond (nat_lt (digits_behind 0 text) 18446744073709551616) (Some (digits_behind 0 text)) None in
    let none : None ≡ Some n = sym (ap (λ b. cond b there None) e) ∙ h in cc

numeral_of : (text : List ℕ) (n : ℕ) → number_of text ≡ Some n → is_numeral text ≡ true
numeral_of text n h = numeral_by text n (is_numeral text) refl h

first_by : (parts : List ℕ × List ℕ) (ask : AskId) (conn : Option ℕ) → number_of parts.0 ≡ conn → ask_by conn (number_of parts.1) ≡ Some ask
    → is_numeral parts.0 ≡ true
first_by parts ask None e h = cc
first_by parts ask (Some conn) e h = numeral_of parts.0 conn e

first_is_numeral : (parts : List ℕ × List ℕ) (ask : AskId) → ask_in (Some parts) ≡ Some ask → is_numeral parts.0 ≡ true
first_is_numeral parts ask h = first_by parts ask (number_of parts.0) refl h

numeral_begins : (b : ℕ) (text : List ℕ) → is_numeral (b ∷ text) ≡ true → is_digit b ≡ true
unfolding is_numeral
numeral_begins b text h = and_left (is_digit b) _ h

-- the text before the first `-` begins as the whole does

module _ (b : ℕ) where
  abbrev BeginsSo : Option (List ℕ × List ℕ) → Type 0
  BeginsSo None = Unit {0}
  BeginsSo (Some parts) = (more : List ℕ) × (parts.0 ≡ b ∷ more)

  split_begins : (front text : List ℕ) → BeginsSo (split_dash (b ∷ front) text)
  unfolding split_dash
  split_begins front [] = tt
  split_begins front (c ∷ text) = by_test (nat_eq c 45) (split_begins (front ++ c ∷ []) text)
    where
      by_test : (here : Bool) → BeginsSo (split_dash (b ∷ (front ++ c ∷ [])) text)
          → BeginsSo (cond here (Some (b ∷ front, text)) (split_dash (b ∷ (front ++ c ∷ [])) text))
      by_test true rest = (front, refl)
      by_test false rest = rest

  part_begins : (ask : AskId) (found : Option (List ℕ × List ℕ)) → BeginsSo found → ask_in found ≡ Some ask → is_digit b ≡ true
  part_begins ask None begins h = cc
  part_begins ask (Some parts) begins h =
      numeral_begins b begins.0 (subst (λ t. is_numeral t ≡ true) begins.1 (first_is_numeral parts ask h))

none_is_numeral : is_numeral [] ≡ false
unfolding is_numeral
none_is_numeral = refl

word_begins : (b : ℕ) (word : List ℕ) (ask : AskId) (here : Bool) → ask_in (cond here (Some ([], word)) (split_dash (b ∷ []) word)) ≡ Some ask → is_digit b ≡ true
word_begins b word ask true h =
    let is : is_numeral [] ≡ true = first_is_numeral ([], word) ask h in
    let no : true ≡ false = sym is ∙ none_is_numeral in cc
word_begins b word ask false h = part_begins b ask (split_dash (b ∷ []) word) (split_begins b [] word) h

text_begins : (b : ℕ) (word : List ℕ) (ask : AskId) → ask_id_of (Text (b ∷ word)) ≡ Some ask → is_digit b ≡ true
unfolding ask_id_of split_dash
text_begins b word ask h = word_begins b word ask (nat_eq b 45) h

no_text : (ask : AskId) → ask_id_of (Text []) ≡ Some ask → ⊥
unfolding ask_id_of split_dash
no_text ask h = cc

line_by : (b : ℕ) (rest : List ℕ) (ask : AskId) (here : Bool) → ask_id_of (Text (cond here [] (b ∷ first_word rest))) ≡ Some ask → is_digit b ≡ true
line_by b rest ask true h = absurd (no_text ask h)
line_by b rest ask false h = text_begins b (first_word rest) ask h

some_bytes : (n : ℕ) → nat_lt 0 (suc n) ≡ true
some_bytes n = grind (arith, nat_tests)

line_begins : (line : List ℕ) (ask : AskId) → line_ask line ≡ Some ask → begins_with_digit line ≡ true
unfolding line_ask first_word begins_with_digit
line_begins [] ask h = absurd (no_text ask h)
line_begins (b ∷ rest) ask h = and_both _ _ (some_bytes (length rest)) (line_by b rest ask (nat_eq b 32) h)

-- so bytes that don't are none

none_by : (line : List ℕ) (found : Option AskId) → barrier_answered line ≡ found → begins_with_digit line ≡ false → found ≡ None
none_by line None is other = refl
none_by line (Some ask) is other = (let both : false ≡ true = sym other ∙ line_begins line ask (ok_tells_its_command line ask is) in cc)

pub no_digit : (line : List ℕ) → begins_with_digit line ≡ false → barrier_answered line ≡ None
no_digit line other = none_by line (barrier_answered line) refl other
