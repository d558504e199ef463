-- SEARCH: the law of its arguments.
use Rattle.std.proofs.Common.{◌≡◌, ℕ, ◌+◌, [], ◌∷◌, Bool, true, false, not, ◌&&◌, ◌||◌, ◌==◌, nat_lt, cond, refl, sym, ap, ◌∙◌, arith, eqb-true}
use Rattle.std.proofs.lemmas.Bool.Decides.{nat_tests}
use Rattle.std.specs.Char.{eq_ignore_ascii_case}
use Rattle.mur_base.specs.Number.{is_digit}
use Rattle.grammar.specs.Exact.{Good, StartsWith, among}
use Rattle.grammar.specs.Forms.{Law}
use Rattle.grammar.specs.Nested.{after_maybe}
use Rattle.grammar.specs.Part.{◌then◌, byte}
use Rattle.grammar.specs.Tables.{any_case}
use Rattle.grammar.specs.Words.{word}
use Rattle.grammar.proofs.Conditions.{among_all}
use Rattle.grammar.proofs.NestedLaw.{law_after_maybe, starts_from}
use Rattle.grammar.proofs.StartLaw.{starts_then, starts_word}
use Rattle.grammar.proofs.TableLaw.{lawful_any_case, apart_any_case}
use Rattle.grammar.proofs.ToolLaws.{good_sp}
use Rattle.grammar.proofs.WordLaw.{good_word}
use Rattle.imap_command.specs.Keys.{keys}
use Rattle.imap_command.specs.Search.{key_depth, return_names, option_names, returned, begins_return, search_form}
use Rattle.imap_command.proofs.ArgumentsLaw.{ends_atom, ends_line, arguments_behind}
use Rattle.imap_command.proofs.KeysLaw.{starts_key, law_keys}

-- R in either case
r_among : (c : ℕ) (low middle : Bool) → nat_lt c 65 ≡ low → (114 == cond low c (cond middle (c + 32) c)) ≡ true → among (82 ∷ 114 ∷ []) c ≡ true
r_among c true middle below h = let same : 114 ≡ c = eqb-true 114 c h in grind (arith, nat_tests)
r_among c false true below h = let same : 114 ≡ c + 32 = eqb-true 114 (c + 32) h in let is : c ≡ 82 = omega arith in rw is refl
r_among c false false below h = let same : c ≡ 114 = sym (eqb-true 114 c h) in rw same refl

return_among : (c : ℕ) → begins_return c ≡ true → among (82 ∷ 114 ∷ []) c ≡ true
return_among c h = r_among c (nat_lt c 65) (nat_lt c 91) refl (first (eq_ignore_ascii_case 82 c) h)
  where
    first : (b : Bool) → (b && true) || false ≡ true → b ≡ true
    first true h = refl
    first false h = h

-- no key begins so
key_apart : (c : ℕ) → starts_key c ≡ true → begins_return c ≡ false
unfolding is_digit
key_apart c h = by_case (begins_return c) refl
  where
    by_case : (b : Bool) → begins_return c ≡ b → b ≡ false
    by_case true e =
        let no : false ≡ true = sym (ap not h) ∙ among_all (λ c. not (starts_key c)) (82 ∷ 114 ∷ []) refl c (return_among c e) in cc
    by_case false e = refl

good_returned : (V : Type 0) → Good V (among (32 ∷ [])) returned
good_returned V =
    good_sp (word (any_case return_names)) (λ _. word (any_case option_names)) refl
    (good_word (any_case return_names) (lawful_any_case return_names refl) (among (32 ∷ [])) (apart_any_case return_names (32 ∷ []) refl))
    (λ _. good_word (any_case option_names) (lawful_any_case option_names refl) (among (32 ∷ [])) (apart_any_case option_names (32 ∷ []) refl))

starts_returned : StartsWith begins_return returned
starts_returned =
    starts_then (word (any_case return_names)) (λ _. byte 32 then λ _. word (any_case option_names))
    (starts_word (any_case return_names) begins_return (lawful_any_case return_names refl) refl (λ c h. h))

starts_keys : StartsWith starts_key (keys key_depth).part
unfolding is_digit
starts_keys = starts_from (keys key_depth).part 13 refl refl (law_keys key_depth).begins

pub law_search : Law ends_atom ends_line search_form
law_search =
    arguments_behind (after_maybe begins_return returned (keys key_depth)) refl
    (law_after_maybe begins_return returned (keys key_depth) good_returned refl starts_returned key_apart starts_keys (law_keys key_depth))
