-- Forms: parts of a grammar that are printed too, and the one law of each.
use Rattle.std.specs.Prelude.{ℕ, ⊤, Bool, ◌==◌, List, [], ◌∷◌, ◌++◌, map, Option, None, Some, if◌then◌else◌}
use Rattle.std.specs.List.{list_all}
use Rattle.mur_base.specs.Ascii.{space}
use Rattle.grammar.specs.Part.{Part, ◌then◌, give, map as map_part, byte, choose, repeat}
use Rattle.grammar.specs.Exact.{Good, Begins}
use Rattle.grammar.specs.Words.{Words, word}
use Rattle.grammar.specs.Tables.{any_case, is_name, begins_some}
use Rattle.grammar.specs.Numbers.{number, decimal_text}

infixr 15 ◌and◌
infixr 15 ◌spaced◌
-- a part, and how a value of it is printed
pub record Form (A : Type 0) : Type 1 where
  pub part : Part A
  pub text : A → List ℕ

-- A form is read exactly before a byte of `after`, begins with a byte of `starts`, and each value that it spells is spelled as it is
-- printed. So whatever holds of the printed values holds because some bytes spell them.
pub record Law {A : Type 0} (starts after : ℕ → Bool) (f : Form A) : Type 1 where
  pub good : (V : Type 0) → Good V after f.part
  pub begins : Begins starts after f.part
  pub prints : (bytes : List ℕ) (a : A) → f.part.lang bytes a → f.part.lang (f.text a) a

-- nothing
abbrev pub nothing : Form ⊤
nothing = record { part = give tt; text = λ _. [] }

-- words as they stand
abbrev pub as_it_stands : Words → Form (List ℕ)
as_it_stands w = record { part = word w; text = λ s. s }

-- one form behind another
abbrev pub ◌and◌ : {A B : Type 0} → Form A → Form B → Form (A × B)
p and q = record {
  part = p.part then λ a. map_part (λ b. (a, b)) q.part;
  text = λ x. p.text x.0 ++ q.text x.1;
}

-- a byte and a form
abbrev pub preceded : {A : Type 0} → ℕ → Form A → Form A
preceded c p = record { part = byte c then λ _. p.part; text = λ a. c ∷ p.text a }

-- a form and a byte
abbrev pub followed : {A : Type 0} → Form A → ℕ → Form A
followed p c = record { part = p.part then λ a. map_part (λ _. a) (byte c); text = λ a. p.text a ++ c ∷ [] }

-- a word in any case of letters, and a form
abbrev pub worded : {A : Type 0} → List ℕ → Form A → Form A
worded name p = record { part = word (any_case (name ∷ [])) then λ _. p.part; text = λ a. name ++ p.text a }

-- two forms with a space between them (SP of RFC 5234, B.1)
abbrev pub ◌spaced◌ : {A B : Type 0} → Form A → Form B → Form (A × B)
p spaced q = p and preceded space q

-- the values that a function makes, with their text
abbrev pub made : {A B : Type 0} → (A → B) → (B → List ℕ) → Form A → Form B
made make text p = record { part = map_part make p.part; text = text }

-- the one or the other, told apart by the first byte
abbrev pub choice : {A : Type 0} → (ℕ → Bool) → (A → List ℕ) → Form A → Form A → Form A
choice test text p q = record { part = choose test p.part q.part; text = text }

-- one value, for which nothing is spelled
abbrev pub constant : {A : Type 0} → A → (A → List ℕ) → Form A
constant a text = made (λ _. a) text nothing

-- a byte and the text of a value, or nothing
abbrev pub maybe_text : {A : Type 0} → ℕ → (A → List ℕ) → Option A → List ℕ
maybe_text c text None = []
maybe_text c text (Some a) = c ∷ text a

-- the text of a value, where there is one
abbrev pub given_text : {A : Type 0} → (A → List ℕ) → Option A → List ℕ
given_text text None = []
given_text text (Some a) = text a

-- a form behind a byte, both of which may be left out
abbrev pub maybe : {A : Type 0} → ℕ → Form A → Form (Option A)
maybe c p = choice (λ b. b == c) (maybe_text c p.text) (preceded c (made Some (given_text p.text) p)) (constant None (maybe_text c p.text))

-- a form between two bytes
abbrev pub closed : {A : Type 0} → ℕ → Form A → ℕ → Form A
closed open_byte p close_byte = preceded open_byte (followed p close_byte)

-- a name and the value that it stands for
abbrev pub Row : Type 0 → Type 0
Row A = List ℕ × A

abbrev pub names_of : {A : Type 0} → List (Row A) → List (List ℕ)
names_of rows = map (λ row. row.0) rows

-- the value of the first name that the text is, in any case
abbrev pub named : {A : Type 0} → A → List (Row A) → List ℕ → A
named other [] text = other
named other (row ∷ rows) text = if is_name row.0 text then row.1 else named other rows text

-- a byte begins some name
abbrev pub begins_row : {A : Type 0} → List (Row A) → ℕ → Bool
begins_row rows c = begins_some (names_of rows) (c ∷ [])

-- the names of a table, in any case, each for its value
abbrev pub table : {A : Type 0} → A → List (Row A) → (A → List ℕ) → Form A
table other rows text = record { part = map_part (named other rows) (word (any_case (names_of rows))); text = text }

-- each value of the table is printed as its name, in whatever case
abbrev pub are_printed : {A : Type 0} → (A → List ℕ) → List (Row A) → Bool
are_printed text rows = list_all (λ row. is_name row.0 (text row.1)) rows

-- a form that tells which form stands behind it
abbrev pub dispatch : {K A : Type 0} → Form K → (A → K) → (K → Form A) → Form A
dispatch p key next = record {
  part = p.part then λ k. (next k).part;
  text = λ a. p.text (key a) ++ (next (key a)).text a;
}

-- values one behind another, a byte before each
abbrev pub more_text : {A : Type 0} → ℕ → (A → List ℕ) → List A → List ℕ
more_text c text [] = []
more_text c text (a ∷ list) = c ∷ (text a ++ more_text c text list)

-- a byte between any two
abbrev pub list_text : {A : Type 0} → ℕ → (A → List ℕ) → List A → List ℕ
list_text c text [] = []
list_text c text (a ∷ list) = text a ++ more_text c text list

-- one value more behind a byte
abbrev pub next_value : {A : Type 0} → ℕ → Part A → List A → Part (List A)
next_value c p so_far = byte c then λ _. map_part (λ a. so_far ++ a ∷ []) p

-- one or more of a form, a byte between any two (RFC 5234, 3.6: X *(c X))
abbrev pub several : {A : Type 0} → ℕ → Form A → Form (List A)
several c p = record {
  part = map_part (λ a. a ∷ []) p.part then repeat (λ b. b == c) (next_value c p.part);
  text = list_text c p.text;
}

-- a number of at most `most`; a zero stands first only where `zeros` is true
abbrev pub numeral : Bool → ℕ → Form ℕ
numeral zeros most = record { part = number zeros most; text = decimal_text }
