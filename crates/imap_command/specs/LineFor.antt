-- A line of a client, and the command that it is.
use Rattle.std.specs.Prelude.{◌≡◌, ℕ, List, ◌++◌, codes}
use Rattle.mur_base.specs.Ascii.{crlf}
use Rattle.imap_types.specs.declared.command.Command.{Command}
use Rattle.imap_types.specs.declared.command.Tag.TheVariants.{Text}
use Rattle.imap_types.specs.declared.request.Request.TheVariants.{Command as a_command}
use Rattle.imap_command.specs.Request.{request_of}

-- behind the tag `a` and a space, and before CRLF
abbrev pub IsLineFor : List ℕ → Command → Type 0
IsLineFor line it = request_of (codes "a " ++ (line ++ crlf)) ≡ a_command (Text (codes "a")) it
