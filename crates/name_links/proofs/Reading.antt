-- A printed response is read again.
use Rattle.std.proofs.Common.{◌≡◌, List, [], ◌∷◌, ◌++◌, map, Some, refl, ap}
use Rattle.std.specs.List.{flat_map}
use Rattle.mupdate_codec.specs.declared.command.MResponse.{MResponse}
use Rattle.mupdate_codec.specs.declared.tag.Tag.{Tag}
use Rattle.mupdate_codec.specs.Arguments.{exact}
use Rattle.mupdate_codec.specs.Responses.{response_line, IsSpelledResponse}
use Rattle.mupdate_codec.proofs.AnswersLaw.{whole_read}
use Rattle.mupdate_codec.proofs.LinesLaw.{law_command_line, law_response_line}
use Rattle.master_core.specs.Changes.{text_of}
use Rattle.mupdate_codec.specs.Whole.{response_in, whole_by}
use Rattle.mupdate_codec.proofs.WholeLaw.{line_is}
use Rattle.home_law.specs.ManyNames.{BackMessage}
use Rattle.name_flows.specs.Lines.{line_text}
use Rattle.name_flows.specs.OneName.{told_by}
use Rattle.name_links.specs.OneLink.{message_of}
use Rattle.name_links.specs.Reading.{LinesAreRead}
use Rattle.name_links.specs.Answers.{told_in, told_all, AreSpelled}

pub line_read : LinesAreRead
line_read me held line s = line_is (line_text me held line) (message_of me held line) (law_command_line.prints s.0 (message_of me held line) s.1)

pub read_back : (tag : Tag) (it : MResponse) → IsSpelledResponse tag it → response_in (text_of tag it) ≡ Some (tag, it)
unfolding response_in
read_back tag it s = ap whole_by (whole_read (response_line exact).part law_response_line.good (text_of tag it) (tag, it) (law_response_line.prints s.0 (tag, it) s.1))

-- so lines of answers are to each name what the answers are
pub told_again : (tag : Tag) (answers : List MResponse) → AreSpelled tag answers → flat_map told_in (map (text_of tag) answers) ≡ told_all answers
unfolding told_in
told_again tag [] s = refl
told_again tag (it ∷ more) s = rw (read_back tag it s.0) (ap (λ (ms : List BackMessage). told_by it ++ ms) (told_again tag more s.1))
