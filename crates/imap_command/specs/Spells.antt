-- What a frame spells: command = tag SP command-name arguments CRLF (RFC 9051, 2.2.1 and 9).
use Rattle.std.specs.Prelude.{ℕ, List, ◌++◌}
use Rattle.mur_base.specs.Ascii.{crlf}
use Rattle.grammar.specs.Ends.{beside}
use Rattle.grammar.specs.Part.{Part, ◌then◌, ◌sp◌, map}
use Rattle.grammar.specs.Forms.{Form, dispatch}
use Rattle.grammar.specs.Words.{word, Words}
use Rattle.grammar.specs.Runs.{run_upto}
use Rattle.imap_text.specs.Characters.{is_tag_byte}
use Rattle.imap_command.specs.Commands.{arguments, verb_of}
use Rattle.imap_command.specs.LeftOut.{left_out}
use Rattle.imap_text.specs.Strings.{crlf_part}
use Rattle.imap_command.specs.Verbs.{verb_form}
use Rattle.imap_types.specs.declared.command.Tag.{Tag}
use Rattle.imap_types.specs.declared.command.Tag.TheVariants.{Text}
use Rattle.imap_types.specs.declared.command.Command.{Command}
use Rattle.imap_types.specs.declared.command.Command.TheVariants as command

-- tag = 1*<any ASTRING-CHAR except "+">, of at most 32 bytes
abbrev pub tags : Words
tags = run_upto 32 is_tag_byte

-- a form and CRLF
abbrev pub line : {A : Type 0} → Form A → Form A
line p = record { part = p.part then λ a. map (λ _. a) crlf_part; text = λ a. p.text a ++ crlf }

-- command-name arguments CRLF
abbrev pub known : Form Command
known = dispatch verb_form verb_of (λ verb. line (arguments verb))

-- a command that is left out is printed as it was spelled
unfoldable pub command_text : Command → List ℕ
command_text (command.LeftOut octets) = octets ++ crlf
command_text it = known.text it

-- a known command, or one that is left out
abbrev pub commands : Form Command
commands = record { part = beside known.part left_out; text = command_text }

unfoldable pub tagged_command : Part (Tag × Command)
tagged_command = word tags sp λ tag. map (λ command. (Text tag, command)) commands.part

-- the frame is the command under the tag
abbrev pub Spells : List ℕ → Tag × Command → Type 0
Spells frame tagged = tagged_command.lang frame tagged

-- some frame is the command under the tag
abbrev pub IsSpelled : Tag → Command → Type 0
IsSpelled tag command = (frame : List ℕ) × Spells frame (tag, command)
