-- sequence-set = (seq-number / seq-range) ["," sequence-set] (RFC 9051, 9).
use Rattle.std.specs.Prelude.{ℕ, Bool, false, ◌||◌, ◌==◌, List, [], ◌∷◌, ◌++◌, Option, None, Some}
use Rattle.mur_base.specs.Ascii.{comma, colon, star}
use Rattle.mur_base.specs.Number.{is_digit}
use Rattle.grammar.specs.Forms.{Form, ◌and◌, preceded, choice, constant, made, maybe, numeral, several}
use Rattle.grammar.specs.Numbers.{decimal_text}
use Rattle.mail_message.specs.declared.set.SetEnd.{SetEnd}
use Rattle.mail_message.specs.declared.set.SetEnd.TheVariants.{Number, Last}
use Rattle.mail_message.specs.declared.set.SetPart.{SetPart}
use Rattle.mail_message.specs.declared.set.SetPart.TheVariants.{One, Range}

-- nz-number of 32 bits
abbrev pub set_number : Form ℕ
set_number = numeral false 4294967295

abbrev pub end_text : SetEnd → List ℕ
end_text (Number number) = decimal_text number
end_text Last = star ∷ []

-- what stands behind the star
abbrev pub star_text : SetEnd → List ℕ
star_text end = []

-- seq-number = nz-number / "*"
abbrev pub set_end : Form SetEnd
set_end = choice (λ c. c == star) end_text (preceded star (constant Last star_text)) (made Number end_text set_number)

abbrev pub part_of : SetEnd × Option SetEnd → SetPart
part_of (one, None) = One one
part_of (one, Some other) = Range one other

abbrev pub set_part_text : SetPart → List ℕ
set_part_text (One one) = end_text one ++ []
set_part_text (Range one other) = end_text one ++ colon ∷ end_text other

-- what a set begins with
abbrev pub is_set_start : ℕ → Bool
is_set_start c = (c == star) || is_digit c

-- seq-number / seq-range, in which the ends may stand in either order
abbrev pub set_part : Form SetPart
set_part = made part_of set_part_text (set_end and maybe colon set_end)

abbrev pub set : Form (List SetPart)
set = several comma set_part
