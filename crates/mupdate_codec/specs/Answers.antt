-- Bytes that begin with a line, and bytes that begin one.
use Rattle.std.specs.Prelude.{◌≡◌, ℕ, ◌<◌, List, ◌++◌, length}

-- some line begins with the bytes and is longer
pub record IsBegun {A : Type 0} (L : List ℕ → A → Type 0) (bytes : List ℕ) : Type 0 where
  pub more : List ℕ
  pub value : A
  pub some : 0 < length more
  pub whole : L (bytes ++ more) value

-- the bytes begin with a line
pub record HasLine {A : Type 0} (L : List ℕ → A → Type 0) (bytes : List ℕ) : Type 0 where
  pub line : List ℕ
  pub rest : List ℕ
  pub value : A
  pub parts : bytes ≡ line ++ rest
  pub whole : L line value

-- the bytes neither begin with a line nor begin one
pub record BeginsNone {A : Type 0} (L : List ℕ → A → Type 0) (bytes : List ℕ) : Type 0 where
  pub no_line : ¬ HasLine L bytes
  pub none_begun : ¬ IsBegun L bytes
