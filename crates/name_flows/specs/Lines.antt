-- The lines that a backend sends to the master (RFC 3656, 4).
use Rattle.std.specs.Prelude.{ℕ, List, [], ◌∷◌, ◌++◌, codes, Option, None, Some}
use Rattle.mur_base.specs.declared.home.Location.{Location}
use Rattle.mur_base.specs.declared.point.AskId.{AskId}
use Rattle.mail_message.specs.FirstAcl.{first_acl}
use Rattle.mupdate_codec.specs.declared.command.MCommand.{MCommand}
use Rattle.mupdate_codec.specs.declared.command.MCommand.TheVariants as command
use Rattle.mupdate_codec.specs.declared.tag.Tag.TheVariants.{Text}
use Rattle.mupdate_codec.specs.Arguments.{exact}
use Rattle.mupdate_codec.specs.Asks.{tag_of}
use Rattle.mupdate_codec.specs.Commands.{command_line}
use Rattle.node_record.specs.declared.held.Held.{Held}
use Rattle.node_record.specs.Held.{Names, held_at}
use Rattle.text_parts.specs.Locations.{bang}
use Rattle.name_flows.specs.declared.sent.Sent.{Sent}
use Rattle.name_flows.specs.declared.sent.Sent.TheVariants.{List as list, Reserve, Make, Again, Deactivate, Delete, Wipe, Find}
use Rattle.name_flows.specs.declared.sent.SentLine.{SentLine}

-- what the locations of a server begin with
abbrev pub server_prefix : Location → List ℕ
server_prefix me = me.server ++ bang ∷ []

abbrev pub acl_in : Option Held → List ℕ
acl_in None = []
acl_in (Some it) = it.content.acl

-- the access list of a mailbox that is here
abbrev pub acl_at : Names → List ℕ → List ℕ
acl_at held name = acl_in (held_at held name)

-- A mailbox that is made has its first access list, and one that is served again the one that it has.
abbrev pub command_of : Location → Names → Sent → MCommand
command_of me held list = command.List (Some (server_prefix me))
command_of me held (Reserve name) = command.Reserve name me
command_of me held (Make name) = command.Activate name me (first_acl name)
command_of me held (Again name) = command.Activate name me (acl_at held name)
command_of me held (Deactivate name) = command.Deactivate name me
command_of me held (Delete name) = command.Delete name
command_of me held (Wipe name) = command.Delete name
command_of me held (Find name) = command.Find name

-- the bytes of a line
abbrev pub line_text : Location → Names → SentLine → List ℕ
line_text me held line = (command_line exact).text (line.tag, command_of me held line.what)

-- the line that a client's command waits for
abbrev pub asked_line : AskId → Sent → SentLine
asked_line id what = record { tag = tag_of id; what = what }

-- the line that no client's command waits for
abbrev pub unasked_line : Sent → SentLine
unasked_line what = record { tag = Text (codes "r0"); what = what }
