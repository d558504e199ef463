-- What it means that a reader and a set of spellings are one: what is read is spelled, what is spelled is read, and a
-- stop is at the longest prefix that begins some spelling.
use Rattle.std.specs.Prelude.{◌≡◌, ℕ, Bool, true, false, ◌||◌, ◌==◌, List, [], ◌∷◌, ◌++◌, length, Result, Ok, Err}
use Rattle.grammar.specs.Part.{Part, ◌>>=◌, Joins}

-- a stop with so many bytes left: the bytes before it begin something that L spells, and with one byte more they don't
pub record Stops {V : Type 0} (L : List ℕ → V → Type 0) (bytes : List ℕ) (left : ℕ) : Type 0 where
  pub front : List ℕ
  pub rest : List ℕ
  pub parts : bytes ≡ front ++ rest
  pub left_is : length rest ≡ left
  pub more : List ℕ
  pub value : V
  pub begins : L (front ++ more) value
  pub ends : (c : ℕ) (tail more : List ℕ) (v : V) → rest ≡ c ∷ tail → ¬ L (front ++ (c ∷ more)) v

-- a reader of whole byte strings, which answers a value or how many bytes are left at its stop, reads what L spells
pub record Exact {V : Type 0} (L : List ℕ → V → Type 0) (read : List ℕ → Result V ℕ) : Type 0 where
  pub found : (bytes : List ℕ) (v : V) → read bytes ≡ Ok v → L bytes v
  pub only : (bytes : List ℕ) (v : V) → L bytes v → read bytes ≡ Ok v
  pub stops : (bytes : List ℕ) (left : ℕ) → read bytes ≡ Err left → Stops L bytes left

-- what a reader itself takes
abbrev pub Taken : {V : Type 0} → (List ℕ → Result V ℕ) → List ℕ → V → Type 0
Taken read bytes v = read bytes ≡ Ok v

-- a reader that stops where nothing that it takes goes on
abbrev pub IsViable : {V : Type 0} → (List ℕ → Result V ℕ) → Type 0
IsViable read = (bytes : List ℕ) (left : ℕ) → read bytes ≡ Err left → Stops (Taken read) bytes left

-- a byte of a set
abbrev pub among : List ℕ → ℕ → Bool
among [] c = false
among (x ∷ xs) c = c == x || among xs c

-- any byte
abbrev pub any : ℕ → Bool
any c = true

-- no byte
abbrev pub none : ℕ → Bool
none c = false

-- what a reader takes begins, unless it is empty, with a byte that passes the test
abbrev pub FirstIsIn : {V : Type 0} → (ℕ → Bool) → (List ℕ → Result V ℕ) → Type 0
FirstIsIn set read = (c : ℕ) (tail : List ℕ) (v : _) → read (c ∷ tail) ≡ Ok v → set c ≡ true

-- a part reads what it spells, whatever exact reader goes on behind it with a byte that passes the test or with nothing
pub record Good (V : Type 0) {A : Type 0} (set : ℕ → Bool) (p : Part A) : Type 0 where
  pub sound : (bytes rest : List ℕ) (a : A) → p.at bytes ≡ Ok (a, rest) → (front : List ℕ) × (bytes ≡ front ++ rest) × p.lang front a
  pub exact : (next : A → List ℕ → Result V ℕ) → ((a : A) → IsViable (next a)) → ((a : A) → FirstIsIn set (next a)) →
      Exact (Joins p.lang (λ a. Taken (next a))) (λ bytes. p.at bytes >>= next)

-- what the spellings of a part begin with: a byte of `starts`, or nothing, where then each byte of `after` is one of `starts`
pub record Begins {A : Type 0} (starts after : ℕ → Bool) (p : Part A) : Type 0 where
  pub full : (c : ℕ) (tail : List ℕ) (a : A) → p.lang (c ∷ tail) a → starts c ≡ true
  pub empty : (a : A) → p.lang [] a → (c : ℕ) → after c ≡ true → starts c ≡ true

-- each spelling of a part begins with a byte that passes the test, so none is empty
pub record StartsWith {A : Type 0} (test : ℕ → Bool) (p : Part A) : Type 0 where
  pub full : (c : ℕ) (tail : List ℕ) (a : A) → p.lang (c ∷ tail) a → test c ≡ true
  pub empty : (a : A) → ¬ p.lang [] a

-- no spelling of a part begins with a byte that passes the test, nor does a byte of `after`, where the part may be empty
pub record StartsWithout {A : Type 0} (test : ℕ → Bool) (after : ℕ → Bool) (p : Part A) : Type 0 where
  pub full : (c : ℕ) (tail : List ℕ) (a : A) → p.lang (c ∷ tail) a → test c ≡ false
  pub empty : (a : A) → p.lang [] a → (c : ℕ) → after c ≡ true → test c ≡ false

-- the end of the bytes behind a value
abbrev pub at_end : {A : Type 0} → A → List ℕ → Result A ℕ
at_end a [] = Ok a
at_end a (c ∷ rest) = Err (length (c ∷ rest))

-- a part and nothing behind it
abbrev pub whole_at : {A : Type 0} → Part A → List ℕ → Result A ℕ
whole_at p bytes = p.at bytes >>= at_end
