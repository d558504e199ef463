use Rattle.mupdate_codec.specs.Arguments.{exact}
use Rattle.mupdate_codec.specs.Responses.{response_line}
use Rattle.mupdate_codec.proofs.AnswersLaw.{none_begun, one_value}
use Rattle.mupdate_codec.proofs.LinesLaw.{law_response_line}
use Rattle.mupdate_codec.proofs.laws.a_line_is_one_response.Goals as goal

pub returns-clause-whole : goal.returns-clause-whole
returns-clause-whole c = none_begun (response_line exact).part law_response_line.good

pub returns-clause-one : goal.returns-clause-one
returns-clause-one c = one_value (response_line exact).part law_response_line.good

pub returns-clause-printed : goal.returns-clause-printed
returns-clause-printed c = λ tag it s. law_response_line.prints s.0 (tag, it) s.1
