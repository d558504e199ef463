-- Lines one behind another: they are put together, and read in one way.
use Rattle.std.proofs.Common.{◌≡◌, ℕ, List, [], ◌∷◌, ◌++◌, map, Result, Ok, Err, refl, sym, ap, ◌∙◌, subst, append_assoc}
use Rattle.master_core.specs.Changes.{text_of}
use Rattle.master_core.specs.Dialogs.{answers_text}
use Rattle.mupdate_codec.specs.declared.command.MResponse.{MResponse}
use Rattle.mupdate_codec.specs.declared.tag.Tag.{Tag}
use Rattle.mupdate_codec.specs.Arguments.{exact}
use Rattle.mupdate_codec.specs.Characters.{is_mupdate_tag_byte}
use Rattle.mupdate_codec.specs.Responses.{response_line, IsResponseLine, IsSpelledResponse}
use Rattle.mupdate_codec.proofs.AnswersLaw.{line_read}
use Rattle.mupdate_codec.proofs.LinesLaw.{law_response_line}
use Rattle.std.specs.List.{AllByRecursion}
use Rattle.guest_links.specs.Reading.{AreLinesOf, no_line, line_first, LinesAreReadInOneWay}

abbrev pub Responses : Type 0
Responses = List (Tag × MResponse)

pub lines_both : (one two : List ℕ) (first second : Responses) → AreLinesOf one first → AreLinesOf two second → AreLinesOf (one ++ two) (first ++ second)
lines_both one two first second no_line b = b
lines_both one two first second (line_first line rest it more is a) b =
    subst (λ bytes. AreLinesOf bytes (it ∷ more ++ second)) (sym (append_assoc line rest two))
    (line_first line (rest ++ two) it (more ++ second) is (lines_both rest two more second a b))

-- each answer is a line
abbrev pub under : Tag → MResponse → Tag × MResponse
under tag it = (tag, it)

pub answers_lines : (tag : Tag) (answers : List MResponse) → AllByRecursion (IsSpelledResponse tag) answers
    → AreLinesOf (answers_text tag answers) (map (under tag) answers)
answers_lines tag [] all = no_line
answers_lines tag (it ∷ answers) all =
    line_first (text_of tag it) (answers_text tag answers) (under tag it) (map (under tag) answers) (law_response_line.prints (all.0).0 (tag, it) (all.0).1)
    (answers_lines tag answers all.1)

-- one way

abbrev Read : Type 0
Read = Result ((Tag × MResponse) × List ℕ) ℕ

abbrev read : List ℕ → Read
read bytes = (response_line exact).part.at bytes

nothing_read : read [] ≡ Err 0
unfolding response_line is_mupdate_tag_byte
nothing_read = refl

line_is_read : (line rest : List ℕ) (it : Tag × MResponse) → IsResponseLine line it → read (line ++ rest) ≡ Ok (it, rest)
line_is_read line rest it is = line_read (response_line exact).part law_response_line.good line rest it is

no_ok : (x : (Tag × MResponse) × List ℕ) → (let none : Read = Err 0 in none ≡ Ok x) → ⊥
no_ok x e = cc

same_ok : (x y : (Tag × MResponse) × List ℕ) → (let one : Read = Ok x in one ≡ Ok y) → x ≡ y
same_ok x y e = cc

no_read : (line rest : List ℕ) (it : Tag × MResponse) → IsResponseLine line it → [] ≡ line ++ rest → ⊥
no_read line rest it is e = no_ok (it, rest) (sym nothing_read ∙ ap read e ∙ line_is_read line rest it is)

one_way_by : (bytes same : List ℕ) (its others : Responses) → bytes ≡ same → AreLinesOf bytes its → AreLinesOf same others → its ≡ others
one_way_by bytes same its others e no_line no_line = refl
one_way_by bytes same its others e no_line (line_first line rest it more is l) = absurd (no_read line rest it is e)
one_way_by bytes same its others e (line_first line rest it more is l) no_line = absurd (no_read line rest it is (sym e))
one_way_by bytes same its others e (line_first line rest it more is l) (line_first line' rest' it' more' is' l') =
    let both = same_ok (it, rest) (it', rest') (sym (line_is_read line rest it is) ∙ ap read e ∙ line_is_read line' rest' it' is') in
    ap (λ (x : (Tag × MResponse) × List ℕ). x.0 ∷ more) both
    ∙ ap (λ m. it' ∷ m) (one_way_by rest rest' more more' (ap (λ (x : (Tag × MResponse) × List ℕ). x.1) both) l l')

pub lines_are_read_in_one_way : LinesAreReadInOneWay
lines_are_read_in_one_way bytes its others one other = one_way_by bytes bytes its others refl one other
