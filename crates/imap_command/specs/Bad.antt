-- What is told of a frame that spells no command.
use Rattle.std.specs.Prelude.{◌≡◌, ℕ, ◌<◌, ◌≤◌, List, ◌∷◌, ◌++◌, length, take, Option, None, Some, true}
use Rattle.mur_base.specs.Ascii.{space}
use Rattle.imap_types.specs.declared.command.Tag.{Tag}
use Rattle.imap_types.specs.declared.command.Tag.TheVariants.{Text}
use Rattle.imap_types.specs.declared.command.Command.{Command}
use Rattle.imap_command.specs.declared.fault.Bad.{Bad}
use Rattle.imap_command.specs.Spells.{Spells, tags}

-- so many bytes of the frame begin some command, and no more of them do
pub record IsLongest (frame : List ℕ) (at : ℕ) : Type 0 where
  pub within : at ≤ length frame
  pub more : List ℕ
  pub command : Tag × Command
  pub begins : Spells (take at frame ++ more) command
  pub longest : (n : ℕ) (more : List ℕ) (command : Tag × Command) → at < n → n ≤ length frame → ¬ Spells (take n frame ++ more) command

-- the first word of the frame, exactly where it is a tag with a space behind it
abbrev pub IsFirstTag : List ℕ → Option Tag → Type 0
IsFirstTag frame None = (text rest : List ℕ) → frame ≡ text ++ space ∷ rest → ¬ (tags.whole text ≡ true)
IsFirstTag frame (Some tag) = (text : List ℕ) × (rest : List ℕ) × (tag ≡ Text text) × (frame ≡ text ++ space ∷ rest) × (tags.whole text ≡ true)

-- what is told of such a frame
pub record IsBad (frame : List ℕ) (bad : Bad) : Type 0 where
  pub longest : IsLongest frame bad.at
  pub tagged : IsFirstTag frame bad.tag
