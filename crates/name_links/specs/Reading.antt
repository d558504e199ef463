-- Lines between the master and a backend are read as they were sent, where some line is what was sent.
use Rattle.std.specs.Prelude.{◌≡◌, Some}
use Rattle.mur_base.specs.declared.home.Location.{Location}
use Rattle.mupdate_codec.specs.declared.command.MResponse.{MResponse}
use Rattle.mupdate_codec.specs.declared.tag.Tag.{Tag}
use Rattle.mupdate_codec.specs.Commands.{IsSpelledCommand}
use Rattle.mupdate_codec.specs.Responses.{IsSpelledResponse}
use Rattle.node_record.specs.Held.{Names}
use Rattle.master_core.specs.Changes.{text_of}
use Rattle.mupdate_codec.specs.Whole.{command_in, response_in}
use Rattle.name_flows.specs.declared.sent.SentLine.{SentLine}
use Rattle.name_flows.specs.Lines.{command_of, line_text}
use Rattle.name_flows.specs.OneName.{open_behind}
use Rattle.name_links.specs.Lines.{backend_line}
use Rattle.name_links.specs.OneLink.{message_of}
use Rattle.name_links.specs.LinkIs.{IsTagged}

abbrev pub LinesAreRead : Type 0
LinesAreRead = (me : Location) (held : Names) (line : SentLine) → IsSpelledCommand line.tag (command_of me held line.what)
    → command_in (line_text me held line) ≡ Some (message_of me held line)

abbrev pub ResponsesAreRead : Type 0
ResponsesAreRead = (tag : Tag) (it : MResponse) → IsSpelledResponse tag it → response_in (text_of tag it) ≡ Some (tag, it)

-- and a line of a backend is the one that the backend meant
abbrev pub LinesAreMeant : Type 0
LinesAreMeant = (me : Location) (held : Names) (line : SentLine) → IsTagged line → backend_line me.server line.tag (command_of me held line.what) ≡ Some (open_behind line)
