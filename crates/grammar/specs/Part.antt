-- Parts of a grammar: which bytes spell which value, and what a reader makes of bytes that begin with a part.
use Rattle.std.specs.Prelude.{◌≡◌, ℕ, zero, suc, ◌⊎◌, Bool, true, false, cond, ◌==◌, ◌&&◌, nat_le, List, [], ◌∷◌, ◌++◌, length}
use Rattle.std.specs.Prelude.{Result, Ok, Err}
use Rattle.mur_base.specs.Ascii.{space}

infixl 20 ◌>>=◌
infixr 15 ◌then◌
infixr 15 ◌sp◌
-- a part that spells values of A
pub record Part (A : Type 0) : Type 1 where
  -- the bytes spell the value
  pub lang : List ℕ → A → Type 0
  -- the value that the bytes begin with and the bytes behind it, or how many bytes are left where no spelling goes on
  pub at : List ℕ → Result (A × List ℕ) ℕ

-- reading goes on with the value and the bytes behind it; a stop stays a stop
abbrev pub ◌>>=◌ : {A V : Type 0} → Result (A × List ℕ) ℕ → (A → List ℕ → Result V ℕ) → Result V ℕ
(Ok x) >>= next = next x.0 x.1
(Err left) >>= next = Err left

-- a spelling of some a, and then what `rest a` spells
pub record Joins {A V : Type 0} (first : List ℕ → A → Type 0) (rest : A → List ℕ → V → Type 0) (bytes : List ℕ) (value : V) : Type 0 where
  pub front : List ℕ
  pub back : List ℕ
  pub between : A
  pub parts : bytes ≡ front ++ back
  pub begins : first front between
  pub goes_on : rest between back value

-- nothing is spelled, and it stands for a
abbrev pub give : {A : Type 0} → A → Part A
give a = record { lang = λ s v. (s ≡ []) × (v ≡ a); at = λ bytes. Ok (a, bytes) }

-- one part behind another, which may depend on the value of the first
abbrev pub ◌then◌ : {A B : Type 0} → Part A → (A → Part B) → Part B
p then f = record {
  lang = Joins p.lang (λ a. (f a).lang);
  at = λ bytes. p.at bytes >>= λ a rest. (f a).at rest;
}

-- the same spellings, of the values that f makes
abbrev pub map : {A B : Type 0} → (A → B) → Part A → Part B
map f p = p then λ a. give (f a)

-- the first byte passes the test
abbrev pub starts : (ℕ → Bool) → List ℕ → Bool
starts test [] = false
starts test (c ∷ _) = test c

-- the one or the other, told apart by the first byte
abbrev pub choose : {A : Type 0} → (ℕ → Bool) → Part A → Part A → Part A
choose test p q = record {
  lang = λ s v. p.lang s v ⊎ q.lang s v;
  at = λ bytes. cond (starts test bytes) (p.at bytes) (q.at bytes);
}

-- one byte, taken or not
abbrev pub taken : Bool → ℕ → List ℕ → Result (ℕ × List ℕ) ℕ
taken true c rest = Ok (c, rest)
taken false c rest = Err (suc (length rest))

abbrev pub one_at : (ℕ → Bool) → List ℕ → Result (ℕ × List ℕ) ℕ
one_at test [] = Err 0
one_at test (c ∷ rest) = taken (test c) c rest

-- one byte that passes the test, which is its value
abbrev pub one_of : (ℕ → Bool) → Part ℕ
one_of test = record { lang = λ s v. (s ≡ v ∷ []) × (test v ≡ true); at = one_at test }

-- this byte
abbrev pub byte : ℕ → Part ℕ
byte c = one_of (λ b. b == c)

-- the bytes from one to another, both included
abbrev pub between : ℕ → ℕ → ℕ → Bool
between low high c = nat_le low c && nat_le c high

-- one part, a space and another part (SP of RFC 5234, B.1)
abbrev pub ◌sp◌ : {A B : Type 0} → Part A → (A → Part B) → Part B
p sp f = p then λ a. byte space then λ _. f a

-- exactly n bytes that pass the test
unfoldable pub exactly : (ℕ → Bool) → ℕ → Part (List ℕ)
exactly test zero = give []
exactly test (suc n) = one_of test then λ c. map (λ rest. c ∷ rest) (exactly test n)

-- at most n turns of a part that changes a state; each turn begins with a byte that passes the test
unfoldable pub turns : {S : Type 0} → (ℕ → Bool) → (S → Part S) → ℕ → S → Part S
turns test turn zero s = give s
turns test turn (suc n) s = choose test (turn s then λ t. turns test turn n t) (give s)

-- any number of turns: their spellings one after another, from the state s to the last
unfoldable pub repeat : {S : Type 0} → (ℕ → Bool) → (S → Part S) → S → Part S
repeat test turn s = record {
  lang = λ bytes last. (n : ℕ) × (turns test turn n s).lang bytes last;
  at = λ bytes. (turns test turn (length bytes) s).at bytes;
}

-- a byte that may be left out; true where it is there
unfoldable pub optional : ℕ → Part Bool
optional c = choose (λ b. b == c) (map (λ _. true) (byte c)) (give false)

-- a space and a turn
abbrev pub spaced : {S : Type 0} → (S → Part S) → S → Part S
spaced turn s = byte space then λ _. turn s
