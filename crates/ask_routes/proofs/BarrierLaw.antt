-- The OK of a barrier is a line of its command.
use Rattle.std.proofs.Common.{◌≡◌, ℕ, List, [], ◌∷◌, Option, None, Some, Result, Ok as ok, Err, refl, sym, ◌∙◌, subst, append-nil}
use Rattle.grammar.specs.Part.{Part}
use Rattle.mupdate_codec.specs.declared.command.MResponse.{MResponse}
use Rattle.mupdate_codec.specs.declared.command.MResponse.TheVariants as response
use Rattle.mupdate_codec.specs.declared.tag.Tag.{Tag}
use Rattle.mupdate_codec.specs.Arguments.{exact}
use Rattle.mupdate_codec.specs.Asks.{line_ask}
use Rattle.mupdate_codec.specs.Responses.{response_line, IsResponseLine}
use Rattle.mupdate_codec.specs.Whole.{response_in, whole_by}
use Rattle.mupdate_codec.proofs.AnswersLaw.{line_found}
use Rattle.mupdate_codec.proofs.LineAsks.{response_tells}
use Rattle.mupdate_codec.proofs.LinesLaw.{law_response_line}
use Rattle.mur_base.specs.declared.point.AskId.{AskId}
use Rattle.ask_routes.specs.Barrier.{barrier_answered, ok_ask, ok_under, OkTellsItsCommand}

-- bytes that are read as a response are its line

abbrev part : Part (Tag × MResponse)
part = (response_line exact).part

same_response : {x y : Tag × MResponse} → (let o : Option (Tag × MResponse) = Some x in o ≡ Some y) → x ≡ y
same_response e = cc

rest_is_nothing : (line rest : List ℕ) (x it : Tag × MResponse) → part.at line ≡ ok (x, rest) → whole_by (ok (x, rest)) ≡ Some it → IsResponseLine line it
rest_is_nothing line [] x it is e =
    let found = line_found part law_response_line.good line [] x is in
    let same : x ≡ it = same_response e in
    subst (λ y. IsResponseLine line y) same (subst (λ s. IsResponseLine s x) (sym (found.1 ∙ append-nil found.0)) found.2)
rest_is_nothing line (c ∷ rest) x it is e = absurd (let no : ⊥ = cc in no)

is_response_by : (line : List ℕ) (it : Tag × MResponse) (r : Result ((Tag × MResponse) × List ℕ) ℕ) → part.at line ≡ r → whole_by r ≡ Some it
    → IsResponseLine line it
is_response_by line it (ok x) is e = rest_is_nothing line x.1 x.0 it is e
is_response_by line it (Err left) is e = absurd (let no : ⊥ = cc in no)

is_response : (line : List ℕ) (it : Tag × MResponse) → response_in line ≡ Some it → IsResponseLine line it
unfolding response_in
is_response line it e = is_response_by line it (part.at line) refl e

-- so an OK tells its command

tells_under : (line : List ℕ) (ask : AskId) (tag : Tag) (it : MResponse) → IsResponseLine line (tag, it) → ok_under tag it ≡ Some ask → line_ask line ≡ Some ask
tells_under line ask tag (response.Ok text) l e = response_tells line (tag, response.Ok text) l ∙ e
tells_under line ask tag (response.No text) l e = cc
tells_under line ask tag (response.Bad text) l e = cc
tells_under line ask tag (response.Mailbox name place acl) l e = cc
tells_under line ask tag (response.Reserve name place) l e = cc
tells_under line ask tag (response.Delete name) l e = cc

tells_by : (line : List ℕ) (ask : AskId) (found : Option (Tag × MResponse)) → response_in line ≡ found → ok_ask found ≡ Some ask → line_ask line ≡ Some ask
tells_by line ask None is e = cc
tells_by line ask (Some it) is e = tells_under line ask it.0 it.1 (is_response line it is) e

pub ok_tells_its_command : OkTellsItsCommand
unfolding barrier_answered
ok_tells_its_command line ask e = tells_by line ask (response_in line) refl e
