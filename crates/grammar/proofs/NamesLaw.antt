-- A table of names: the law of its form.
use Rattle.std.proofs.Common.{◌≡◌, ℕ, List, [], ◌∷◌, Bool, true, false, ◌||◌, cond, refl, sym, ap, ◌∙◌, subst, eq-eqb, eqb-true}
use Rattle.std.specs.List.{list_all, list_any}
use Rattle.std.specs.Char.{eq_ignore_ascii_case, to_ascii_lowercase}
use Rattle.grammar.specs.Part.{give}
use Rattle.grammar.specs.Exact.{StartsWith, among}
use Rattle.grammar.specs.Words.{word, Lawful}
use Rattle.grammar.specs.Tables.{any_case, begins_some, starts_name, is_name, lacks}
use Rattle.grammar.specs.Forms.{Form, Law, Row, names_of, named, begins_row, table, are_printed, worded}
use Rattle.grammar.proofs.Conditions.{and_both, and_left, and_right, or_left, or_right}
use Rattle.grammar.proofs.SequenceLaw.{good_map, good_then}
use Rattle.grammar.proofs.Spelling.{spell_then, spell_map}
use Rattle.grammar.proofs.StartLaw.{starts_then, starts_word, begins_from}
use Rattle.grammar.proofs.TableLaw.{name_same, lawful_any_case, apart_any_case}
use Rattle.grammar.proofs.WordLaw.{good_word}

letter_trans : (a b c : ℕ) → eq_ignore_ascii_case a b ≡ true → eq_ignore_ascii_case b c ≡ true → eq_ignore_ascii_case a c ≡ true
letter_trans a b c h k =
    eq-eqb (to_ascii_lowercase a) (to_ascii_lowercase c)
    (eqb-true (to_ascii_lowercase a) (to_ascii_lowercase b) h ∙ eqb-true (to_ascii_lowercase b) (to_ascii_lowercase c) k)

pub name_sym : (a b : List ℕ) → is_name a b ≡ true → is_name b a ≡ true
name_sym [] [] h = refl
name_sym [] (y ∷ b) h = cc
name_sym (x ∷ a) [] h = cc
name_sym (x ∷ a) (y ∷ b) h =
    and_both _ _ (eq-eqb (to_ascii_lowercase y) (to_ascii_lowercase x) (sym (eqb-true (to_ascii_lowercase x) (to_ascii_lowercase y) (and_left _ _ h))))
    (name_sym a b (and_right _ _ h))

pub name_trans : (a b c : List ℕ) → is_name a b ≡ true → is_name b c ≡ true → is_name a c ≡ true
name_trans [] [] c h k = k
name_trans [] (y ∷ b) c h k = cc
name_trans (x ∷ a) [] c h k = cc
name_trans (x ∷ a) (y ∷ b) [] h k = cc
name_trans (x ∷ a) (y ∷ b) (z ∷ c) h k =
    and_both _ _ (letter_trans x y z (and_left _ _ h) (and_left _ _ k)) (name_trans a b c (and_right _ _ h) (and_right _ _ k))

module _ {A : Type 0} (other : A) (text : A → List ℕ) (spelled : List ℕ) where
  -- the value has a name in the table that is printed for it, and that is the text in any case
  record Reread (rows : List (Row A)) (value : A) : Type 0 where
    whole : list_any (λ name. is_name name (text value)) (names_of rows) ≡ true
    same : named other rows (text value) ≡ value
    is : is_name (text value) spelled ≡ true

  -- where the first row is the one
  first_row : (name : List ℕ) (value : A) (rows : List (Row A)) → is_name name (text value) ≡ true → is_name name spelled ≡ true
      → Reread ((name, value) ∷ rows) value
  first_row name value rows self e = record {
    whole = or_left _ _ self;
    same = ap (λ t. cond t value (named other rows (text value))) self;
    is = name_trans (text value) name spelled (name_sym name (text value) self) e;
  }

  -- where a later one is
  later_row : (name : List ℕ) (skipped value : A) (rows : List (Row A)) → is_name name spelled ≡ false → Reread rows value
      → Reread ((name, skipped) ∷ rows) value
  later_row name skipped value rows e r =
      let apart : is_name name (text value) ≡ false = not_first (is_name name (text value)) refl in
      record {
        whole = or_right _ _ r.whole;
        same = ap (λ t. cond t skipped (named other rows (text value))) apart ∙ r.same;
        is = r.is;
      }
    where
      not_first : (t : Bool) → is_name name (text value) ≡ t → t ≡ false
      not_first true f = sym (name_trans name (text value) spelled f r.is) ∙ e
      not_first false f = refl

  reread : (rows : List (Row A)) → are_printed text rows ≡ true → list_any (λ name. is_name name spelled) (names_of rows) ≡ true
      → Reread rows (named other rows spelled)
  reread [] printed h = cc
  reread (row ∷ rows) printed h = by_test (is_name row.0 spelled) refl h (reread rows (and_right (is_name row.0 (text row.1)) _ printed))
    where
      by_test : (t : Bool) → is_name row.0 spelled ≡ t → t || list_any (λ name. is_name name spelled) (names_of rows) ≡ true
          → (list_any (λ name. is_name name spelled) (names_of rows) ≡ true → Reread rows (named other rows spelled))
          → Reread (row ∷ rows) (cond t row.1 (named other rows spelled))
      by_test true e h again = first_row row.0 row.1 rows (and_left _ _ printed) e
      by_test false e h again = later_row row.0 row.1 (named other rows spelled) rows e (again h)

module _ {A : Type 0} (other : A) (rows : List (Row A)) (text : A → List ℕ) (some : list_any (λ name. starts_name name []) (names_of rows) ≡ true)
    (none : list_any (λ name. is_name name []) (names_of rows) ≡ false) where
  -- there is a name, and none is empty
  pub starts_table : StartsWith (begins_row rows) (table other rows text).part
  starts_table =
      starts_then (word (any_case (names_of rows))) (λ name. give (named other rows name))
      (starts_word (any_case (names_of rows)) (begins_row rows) (lawful_any_case (names_of rows) some) none (λ c h. h))

  -- names that a byte of the set ends
  pub law_table : (set : List ℕ) → list_all (λ c. list_all (lacks c) (names_of rows)) set ≡ true → are_printed text rows ≡ true
      → Law (begins_row rows) (among set) (table other rows text)
  law_table set apart printed = record {
    good = λ V. good_map (named other rows) (word (any_case (names_of rows)))
        (good_word (any_case (names_of rows)) (lawful_any_case (names_of rows) some) (among set) (apart_any_case (names_of rows) set apart));
    begins = begins_from (among set) (table other rows text).part starts_table;
    prints = λ bytes a j.
        let value = named other rows j.between in
        let r = reread other text j.between rows printed j.begins.1 in
        subst (λ a. (table other rows text).part.lang (text a) a) (sym j.goes_on.1)
        (subst (λ a. (table other rows text).part.lang (text value) a) r.same
        (spell_map (named other rows) (word (any_case (names_of rows))) (text value) (text value) (refl, r.whole)));
  }

-- a value's own name
pub spell_name : {A : Type 0} (other : A) (rows : List (Row A)) (text : A → List ℕ) (a : A)
    → list_any (λ name. is_name name (text a)) (names_of rows) ≡ true → named other rows (text a) ≡ a → (table other rows text).part.lang (text a) a
spell_name other rows text a whole same =
    subst (λ b. (table other rows text).part.lang (text a) b) same
    (spell_map (named other rows) (word (any_case (names_of rows))) (text a) (text a) (refl, whole))

-- a word that a byte of the set ends, and a form that begins so
pub law_worded : {A : Type 0} {after : ℕ → Bool} (name : List ℕ) (set : List ℕ) (p : Form A)
    → list_any (λ name. starts_name name []) (name ∷ []) ≡ true → list_any (λ name. is_name name []) (name ∷ []) ≡ false
    → list_all (λ c. list_all (lacks c) (name ∷ [])) set ≡ true → Law (among set) after p
    → Law (λ c. begins_some (name ∷ []) (c ∷ [])) after (worded name p)
law_worded {A} {after} name set p some none apart g = record {
  good = λ V. good_then (word (any_case (name ∷ []))) (λ _. p.part)
      (good_word (any_case (name ∷ [])) lawful (among set) (apart_any_case (name ∷ []) set apart)) (λ _. g.good V) (λ _. g.begins);
  begins = begins_from after (worded name p).part
      (starts_then (word (any_case (name ∷ []))) (λ _. p.part)
      (starts_word (any_case (name ∷ [])) (λ c. begins_some (name ∷ []) (c ∷ [])) lawful none (λ c h. h)));
  prints = λ bytes a j.
      spell_then (word (any_case (name ∷ []))) (λ _. p.part) name (p.text a) name a (refl, or_left _ _ (name_same name)) (g.prints j.back a j.goes_on);
}
  where
    lawful : Lawful (any_case (name ∷ []))
    lawful = lawful_any_case (name ∷ []) some
