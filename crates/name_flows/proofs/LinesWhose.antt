-- Whose the lines are that a backend sends to the master: what their tags tell.
use Rattle.std.proofs.Common.{◌≡◌, codes, None, refl, ◌∙◌}
use Rattle.mur_base.specs.declared.home.Location.{Location}
use Rattle.mur_base.specs.declared.point.AskId.{AskId}
use Rattle.mupdate_codec.specs.declared.tag.Tag.TheVariants.{Text}
use Rattle.mupdate_codec.specs.Asks.{ask_id_of, first_word, line_ask, split_dash, tag_of}
use Rattle.mupdate_codec.specs.Tags.{mupdate_tag_text}
use Rattle.mupdate_codec.proofs.LineAsks.{IsOneWord, command_under, own_command, tag_tells}
use Rattle.node_record.specs.Held.{Names}
use Rattle.name_flows.specs.declared.sent.Sent.{Sent}
use Rattle.name_flows.specs.declared.sent.SentLine.{SentLine}
use Rattle.name_flows.specs.Lines.{asked_line, command_of, line_text, unasked_line}

pub line_whose : (me : Location) (held : Names) (line : SentLine) → IsOneWord line.tag → line_ask (line_text me held line) ≡ ask_id_of line.tag
line_whose me held line one = command_under line.tag (command_of me held line.what) ∙ tag_tells line.tag one

-- one that a client's command waits for is that command's
pub asked_whose : (me : Location) (held : Names) (id : AskId) (what : Sent) → line_ask (line_text me held (asked_line id what)) ≡ ask_id_of (tag_of id)
asked_whose me held id what = own_command id (command_of me held what)

none_tells : line_ask (mupdate_tag_text (Text (codes "r0"))) ≡ None
unfolding line_ask mupdate_tag_text first_word ask_id_of split_dash
none_tells = refl

-- one that none waits for is nobody's
pub unasked_whose : (me : Location) (held : Names) (what : Sent) → line_ask (line_text me held (unasked_line what)) ≡ None
unasked_whose me held what = command_under (Text (codes "r0")) (command_of me held what) ∙ none_tells
