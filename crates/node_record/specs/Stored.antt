-- Which values are stored, and as what: each as one text, which is read back as that value.
use Rattle.std.specs.Prelude.{◌≡◌, ℕ, ◌≤◌, ◌<◌, List, ◌++◌, ◌∷◌, length, take}
use Rattle.grammar.specs.Forms.{Form}

-- the bytes are the text of a value that may be stored
abbrev pub IsStored : {A : Type 0} → (A → Type 0) → Form A → List ℕ → A → Type 0
IsStored Is form bytes a = (bytes ≡ form.text a) × Is a

-- The first place at which none goes on: the bytes before it begin the text of some value; with the byte that stands there they begin
-- none, or no byte stands there and more has to come.
pub record IsFirstBad {A : Type 0} (Is : A → Type 0) (form : Form A) (bytes : List ℕ) (at : ℕ) : Type 0 where
  pub within : at ≤ length bytes
  pub more : List ℕ
  pub value : A
  pub begins : IsStored Is form (take at bytes ++ more) value
  pub longest : (n : ℕ) (more : List ℕ) (a : A) → at < n → n ≤ length bytes → ¬ IsStored Is form (take n bytes ++ more) a
