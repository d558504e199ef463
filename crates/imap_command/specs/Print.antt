-- How a command is printed under its tag.
use Rattle.std.specs.Prelude.{ℕ, List, ◌∷◌, ◌++◌}
use Rattle.mur_base.specs.Ascii.{space}
use Rattle.imap_types.specs.declared.command.Tag.{Tag}
use Rattle.imap_types.specs.declared.command.Command.{Command}
use Rattle.imap_command.specs.Spells.{commands}
use Rattle.imap_text.specs.Tags.{tag_text}

unfoldable pub printed : Tag → Command → List ℕ
printed tag command = tag_text tag ++ space ∷ commands.text command
