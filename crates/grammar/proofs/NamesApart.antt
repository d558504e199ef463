-- Which name of a table a text is, and texts that begin with names of two tables.
use Rattle.std.proofs.Common.{◌≡◌, ℕ, List, [], ◌∷◌, ◌++◌, map, Bool, true, false, ◌&&◌, ◌||◌, not, ◌==◌, cond, refl}
use Rattle.std.proofs.Common.{sym, ap, ap₂, ◌∙◌, eqb-true, if◌then◌else◌}
use Rattle.std.specs.List.{list_all, list_any}
use Rattle.std.specs.Char.{to_ascii_lowercase}
use Rattle.grammar.specs.Exact.{among}
use Rattle.grammar.specs.Words.{Apart, scan}
use Rattle.grammar.specs.Tables.{any_case, starts_name, is_name}
use Rattle.grammar.specs.Forms.{Row, names_of, named}
use Rattle.grammar.proofs.Conditions.{and_both, and_left, and_right, or_left, or_right, not_true, any_none, among_all}
use Rattle.grammar.proofs.NamesLaw.{name_sym, name_trans}
use Rattle.grammar.proofs.Reading.{ok_parts}
use Rattle.grammar.proofs.TableLaw.{some_push, lawful_any_case}
use Rattle.grammar.proofs.WordLaw.{word_reads}

-- a text is one of the names
abbrev pub is_some : List (List ℕ) → List ℕ → Bool
is_some names text = list_any (λ name. is_name name text) names

-- the names whose values pass a test
abbrev pub names_with : {A : Type 0} → (A → Bool) → List (Row A) → List (List ℕ)
names_with test [] = []
names_with test (row ∷ rows) = if test row.1 then row.0 ∷ names_with test rows else names_with test rows

-- a text that stands for such a value is one of them
pub named_with : {A : Type 0} (test : A → Bool) (other : A) (rows : List (Row A)) (text : List ℕ) → is_some (names_of rows) text ≡ true
    → test (named other rows text) ≡ true → is_some (names_with test rows) text ≡ true
named_with test other [] text h t = h
named_with test other (row ∷ rows) text h t = by_name (is_name row.0 text) (test row.1) refl refl h t (named_with test other rows text)
  where
    by_name : (b d : Bool) → is_name row.0 text ≡ b → test row.1 ≡ d → b || is_some (names_of rows) text ≡ true
        → test (cond b row.1 (named other rows text)) ≡ true
        → (is_some (names_of rows) text ≡ true → test (named other rows text) ≡ true → is_some (names_with test rows) text ≡ true)
        → is_some (cond d (row.0 ∷ names_with test rows) (names_with test rows)) text ≡ true
    by_name true true is passes h t again = or_left _ _ is
    by_name true false is passes h t again = let both : true ≡ false = sym t ∙ passes in cc
    by_name false true is passes h t again = or_right _ _ (again h t)
    by_name false false is passes h t again = again h t

-- a member of which one test holds, where the other holds of each
any_of_all : {X : Type 0} (p q : X → Bool) (xs : List X) → list_any p xs ≡ true → list_all q xs ≡ true → (x : X) × (p x ≡ true) × (q x ≡ true)
any_of_all p q [] h k = cc
any_of_all p q (x ∷ xs) h k = by_case (p x) refl h (any_of_all p q xs)
  where
    by_case : (b : Bool) → p x ≡ b → b || list_any p xs ≡ true → (list_any p xs ≡ true → list_all q xs ≡ true → (y : _) × (p y ≡ true) × (q y ≡ true))
        → (y : _) × (p y ≡ true) × (q y ≡ true)
    by_case true e h again = (x, e, and_left _ _ k)
    by_case false e h again = again h (and_right _ _ k)

-- what begins a name does so in any case
starts_same : (name one other : List ℕ) (c : ℕ) → is_name one other ≡ true → starts_name name (other ++ c ∷ []) ≡ starts_name name (one ++ c ∷ [])
starts_same name [] [] c h = refl
starts_same name [] (y ∷ other) c h = cc
starts_same name (x ∷ one) [] c h = cc
starts_same [] (x ∷ one) (y ∷ other) c h = refl
starts_same (z ∷ name) (x ∷ one) (y ∷ other) c h =
    ap₂ (λ a b. a && b) (ap (λ l. to_ascii_lowercase z == l) (sym (eqb-true (to_ascii_lowercase x) (to_ascii_lowercase y) (and_left _ _ h))))
    (starts_same name one other c (and_right _ _ h))

-- behind no name a byte of the set goes on with a name
abbrev pub are_apart : List (List ℕ) → List ℕ → Bool
are_apart names set = list_all (λ c. list_all (λ one. list_all (λ name. not (starts_name name (one ++ c ∷ []))) names) names) set

pub apart_names : (names : List (List ℕ)) (set : List ℕ) → are_apart names set ≡ true → Apart (any_case names) (among set)
apart_names names set none text whole c k =
    let one = any_of_all (λ one. is_name one text) (λ one. list_all (λ name. not (starts_name name (one ++ c ∷ []))) names) names whole
    (among_all (λ c. list_all (λ one. list_all (λ name. not (starts_name name (one ++ c ∷ []))) names) names) set none c k) in
    some_push names text c
    ∙ any_none (λ name. not (starts_name name (one.0 ++ c ∷ []))) (λ name. starts_name name (text ++ c ∷ []))
    (λ name h. starts_same name one.0 text c one.1 ∙ not_true _ h) names one.2

-- one name behind another
pub name_append : (one other text more : List ℕ) → is_name one text ≡ true → is_name other more ≡ true → is_name (one ++ other) (text ++ more) ≡ true
name_append [] other [] more h k = k
name_append [] other (c ∷ text) more h k = cc
name_append (n ∷ one) other [] more h k = cc
name_append (n ∷ one) other (c ∷ text) more h k = and_both _ _ (and_left _ _ h) (name_append one other text more (and_right _ _ h) k)

-- a name before each of the names
pub some_behind : (first : List ℕ) (names : List (List ℕ)) (text more : List ℕ) → is_name first text ≡ true → is_some names more ≡ true
    → is_some (map (λ name. first ++ name) names) (text ++ more) ≡ true
some_behind first [] text more h k = k
some_behind first (name ∷ names) text more h k = by_case (is_name name more) refl k (some_behind first names text more h)
  where
    by_case : (b : Bool) → is_name name more ≡ b → b || is_some names more ≡ true
        → (is_some names more ≡ true → is_some (map (λ name. first ++ name) names) (text ++ more) ≡ true)
        → is_some (map (λ name. first ++ name) (name ∷ names)) (text ++ more) ≡ true
    by_case true e k again = or_left _ _ (name_append first name text more h e)
    by_case false e k again = or_right _ _ (again k)

-- a text is one of the names of two tables where it is one of either
pub some_left : (one other : List (List ℕ)) (text : List ℕ) → is_some one text ≡ true → is_some (one ++ other) text ≡ true
some_left [] other text h = cc
some_left (name ∷ one) other text h = by_case (is_name name text) refl h (some_left one other text)
  where
    by_case : (b : Bool) → is_name name text ≡ b → b || is_some one text ≡ true → (is_some one text ≡ true → is_some (one ++ other) text ≡ true)
        → is_some ((name ∷ one) ++ other) text ≡ true
    by_case true e h again = or_left _ _ e
    by_case false e h again = or_right _ _ (again h)

pub some_right : (one other : List (List ℕ)) (text : List ℕ) → is_some other text ≡ true → is_some (one ++ other) text ≡ true
some_right [] other text h = h
some_right (name ∷ one) other text h = or_right _ _ (some_right one other text h)

-- no name of the one table is one of the other
abbrev pub are_other : List (List ℕ) → List (List ℕ) → Bool
are_other one other = list_all (λ n. list_all (λ m. not (is_name n m)) other) one

differ : (one other : List (List ℕ)) (text : List ℕ) → are_other one other ≡ true → is_some one text ≡ true → ¬ (is_some other text ≡ true)
differ one other text none h k =
    let n = any_of_all (λ n. is_name n text) (λ n. list_all (λ m. not (is_name n m)) other) one h none in
    let m = any_of_all (λ m. is_name m text) (λ m. not (is_name n.0 m)) other k n.2 in
    let both : false ≡ true = sym (not_true _ m.2) ∙ name_trans n.0 text m.0 n.1 (name_sym m.0 text m.1) in cc

-- no bytes begin with a name of the one table and with one of the other, each before a byte of the set
pub no_two_names : (one other : List (List ℕ)) (set : List ℕ) → list_any (λ name. starts_name name []) (one ++ other) ≡ true
    → are_apart (one ++ other) set ≡ true → are_other one other ≡ true → (text more : List ℕ) (c d : ℕ) (rest back : List ℕ)
    → text ++ (c ∷ rest) ≡ more ++ (d ∷ back) → among set c ≡ true → among set d ≡ true → is_some one text ≡ true → ¬ (is_some other more ≡ true)
no_two_names one other set first apart none text more c d rest back e h k this that =
    let w = any_case (one ++ other) in
    let lawful = lawful_any_case (one ++ other) first in
    let whole = some_left one other text this in
    let another = some_right one other more that in
    let read = word_reads w lawful text rest c whole (apart_names (one ++ other) set apart text whole c h) in
    let again = word_reads w lawful more back d another (apart_names (one ++ other) set apart more another d k) in
    let same = ok_parts (sym read ∙ ap (scan w []) e ∙ again) in
    differ one other text none this (ap (is_some other) same.0 ∙ that)
