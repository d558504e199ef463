-- Sets of message numbers: the law of their form.
use Rattle.std.proofs.Common.{◌≡◌, ℕ, List, [], ◌∷◌, ◌++◌, Bool, true, false, not, Option, None, Some, refl}
use Rattle.grammar.specs.Exact.{among}
use Rattle.grammar.specs.Forms.{Law, constant, made, maybe, maybe_text, nothing}
use Rattle.grammar.proofs.Conditions.{not_true, among_all}
use Rattle.grammar.proofs.FormLaw.{law_and, law_constant, law_either, law_made, law_maybe, made_text, apart_byte}
use Rattle.grammar.proofs.NumeralLaw.{law_numeral}
use Rattle.grammar.proofs.SeveralLaw.{law_several}
use Rattle.mur_base.specs.Number.{is_digit, digits_behind}
use Rattle.mail_message.specs.declared.set.SetEnd.{SetEnd}
use Rattle.mail_message.specs.declared.set.SetEnd.TheVariants.{Number, Last}
use Rattle.imap_command.specs.Sets.{set_number, end_text, star_text, set_end, is_set_start, part_of, set_part_text, set_part, set}

-- a space, the end of the line or a closing parenthesis
abbrev pub ends_set : ℕ → Bool
ends_set = among (32 ∷ 13 ∷ 41 ∷ [])

-- these, or a comma
abbrev ends_part : ℕ → Bool
ends_part = among (44 ∷ 32 ∷ 13 ∷ 41 ∷ [])

module _ (after : List ℕ) (apart : (c : ℕ) → among after c ≡ true → is_digit c ≡ false) where
  law_end : Law is_set_start (among after) set_end
  unfolding is_digit digits_behind
  law_end =
      law_either 42 end_text (constant Last star_text) (made Number end_text set_number) refl
      (made_text (λ _. Last) star_text nothing end_text (λ a. 42 ∷ star_text a) (λ _. refl)) (λ bytes a l. refl)
      (law_constant (among after) Last star_text refl)
      (law_made Number end_text set_number (λ number. refl) (law_numeral false 4294967295 49 refl (among after) apart))

no_digit : (c : ℕ) → among (58 ∷ 44 ∷ 32 ∷ 13 ∷ 41 ∷ []) c ≡ true → is_digit c ≡ false
unfolding is_digit
no_digit c h = not_true (is_digit c) (among_all (λ c. not (is_digit c)) (58 ∷ 44 ∷ 32 ∷ 13 ∷ 41 ∷ []) refl c h)

no_part_digit : (c : ℕ) → ends_part c ≡ true → is_digit c ≡ false
unfolding is_digit
no_part_digit c h = not_true (is_digit c) (among_all (λ c. not (is_digit c)) (44 ∷ 32 ∷ 13 ∷ 41 ∷ []) refl c h)

same_text : (x : SetEnd × Option SetEnd) → set_part_text (part_of x) ≡ end_text x.0 ++ maybe_text 58 end_text x.1
same_text (one, None) = refl
same_text (one, Some other) = refl

law_part : Law is_set_start ends_part set_part
law_part =
    law_made part_of set_part_text _ same_text
    (law_and set_end (maybe 58 set_end) (law_end (58 ∷ 44 ∷ 32 ∷ 13 ∷ 41 ∷ []) no_digit)
    (law_maybe ends_part 58 set_end refl (law_end (44 ∷ 32 ∷ 13 ∷ 41 ∷ []) no_part_digit)))

pub law_set : Law is_set_start ends_set set
law_set = law_several ends_set 44 set_part law_part refl (apart_byte 44 ends_set refl) (among_all ends_part (32 ∷ 13 ∷ 41 ∷ []) refl)
