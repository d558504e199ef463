-- What LIST tells, in other words.
use Rattle.std.specs.Prelude.{◌≡◌, ◌≢◌, ℕ, true, false, List, [], ◌∷◌, ◌++◌}
use Rattle.std.specs.List.{All, Any, Contains}
use Rattle.mur_base.specs.Ascii.{percent, dot}
use Rattle.mur_base.specs.Patterns.{is_wildcard, matches}
use Rattle.imap_types.specs.declared.reply.Attribute.{Attribute}
use Rattle.imap_types.specs.declared.reply.ReplyLine.{ReplyLine}
use Rattle.imap_types.specs.declared.reply.ReplyLine.TheVariants.{Listed}

-- the line of a reply that tells it (RFC 9051, 7.3.1)
abbrev pub line_of : List ℕ × Attribute → ReplyLine
line_of told = Listed told.1 told.0

-- the name is the level's, a separator and more
abbrev pub StandsAbove : List ℕ → List ℕ → Type 0
StandsAbove level name = (rest : List ℕ) × (name ≡ level ++ dot ∷ rest)

-- the text is one level
abbrev pub IsOneLevel : List ℕ → Type 0
IsOneLevel text = All (λ byte. byte ≢ dot) text

-- each byte of the pattern stands for itself
abbrev pub HasNoWildcard : List ℕ → Type 0
HasNoWildcard pattern = All (λ byte. is_wildcard byte ≡ false) pattern

-- A level is told that is no mailbox: it matches a pattern that ends in '%', and stands above a mailbox, which may not match.
pub record IsToldLevel (pattern : List ℕ) (names : List (List ℕ)) (level : List ℕ) : Type 0 where
  pub ends : (front : List ℕ) × (pattern ≡ front ++ percent ∷ [])
  pub fits : matches pattern level ≡ true
  pub above : Any (StandsAbove level) names
  pub no_mailbox : Contains names level → ⊥
