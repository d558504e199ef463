-- The law of the commands that are left out, and that none of them is spelled as a known one.
use Rattle.std.proofs.Common.{◌≡◌, ℕ, List, [], ◌∷◌, ◌++◌, ◌==◌, ⊎_elim, refl, sym, ap, ◌∙◌, append_assoc, append-nil, eqb-true}
use Rattle.grammar.specs.Ends.{all_before}
use Rattle.grammar.specs.Exact.{Good, StartsWith, none}
use Rattle.grammar.specs.Part.{Part, give, ◌then◌, map, byte}
use Rattle.grammar.specs.Tables.{any_case}
use Rattle.grammar.specs.Words.{word, Lawful, Apart}
use Rattle.grammar.proofs.ChoiceLaw.{good_choose}
use Rattle.grammar.proofs.EndsLaw.{good_all_before}
use Rattle.grammar.proofs.FormLaw.{apart_byte, begins_map, one_byte}
use Rattle.grammar.proofs.NamesApart.{apart_names, is_some, no_two_names}
use Rattle.grammar.proofs.SequenceLaw.{good_then, good_map}
use Rattle.grammar.proofs.StartLaw.{starts_then, starts_byte, starts_choose, starts_weaker, begins_from, without_from}
use Rattle.grammar.proofs.TableLaw.{lawful_any_case}
use Rattle.grammar.proofs.ToolLaws.{good_behind}
use Rattle.grammar.proofs.WordLaw.{good_word}
use Rattle.imap_types.specs.declared.command.Command.{Command}
use Rattle.imap_types.specs.declared.command.Command.TheVariants as command
use Rattle.imap_command.specs.LeftOut.{left_out_names, to_the_end, left_out}
use Rattle.imap_command.specs.Spells.{known, command_text}
use Rattle.imap_text.specs.Strings.{crlf_part}
use Rattle.imap_command.specs.Verbs.{is_uid_verb}
use Rattle.imap_command.proofs.ArgumentsLaw.{ends_atom, ends_line, line_ends_atom}
use Rattle.imap_command.proofs.KnownLaw.{BeginsWith, begins_by, known_begins, known_names, starts_crlf}
use Rattle.imap_text.proofs.StringsLaw.{good_crlf}

lawful_names : Lawful (any_case left_out_names)
lawful_names = lawful_any_case left_out_names refl

apart_left_out : Apart (any_case left_out_names) ends_atom
apart_left_out = apart_names left_out_names (32 ∷ 13 ∷ []) refl

abbrev spaced_text : Part (List ℕ)
spaced_text = map (λ text. 32 ∷ text) (all_before (13 ∷ 10 ∷ []))

abbrev no_text : Part (List ℕ)
no_text = map (λ _. []) crlf_part

starts_space : StartsWith (λ c. c == 32) (byte 32 then λ _. spaced_text)
starts_space = starts_then (byte 32) (λ _. spaced_text) (starts_byte 32)

good_to_the_end : {V : Type 0} → Good V none to_the_end
good_to_the_end =
    good_choose (λ c. c == 32) (byte 32 then λ _. spaced_text) no_text
    (good_behind 32 spaced_text (good_map (λ text. 32 ∷ text) (all_before (13 ∷ 10 ∷ [])) (good_all_before (13 ∷ 10 ∷ []))))
    (good_map (λ _. []) crlf_part (good_crlf none)) starts_space
    (without_from (λ c. c == 32) none no_text (apart_byte 32 ends_line refl) (starts_crlf []))

starts_to_the_end : StartsWith ends_atom to_the_end
starts_to_the_end =
    starts_choose (λ c. c == 32) (byte 32 then λ _. spaced_text) no_text
    (starts_weaker (byte 32 then λ _. spaced_text) (one_byte 32 ends_atom refl) starts_space) (starts_weaker no_text line_ends_atom (starts_crlf []))

abbrev behind_name : List ℕ → Part Command
behind_name name = map (λ text. command.LeftOut (name ++ text)) to_the_end

pub good_left_out : {V : Type 0} → Good V none left_out
good_left_out =
    good_then (word (any_case left_out_names)) behind_name (good_word (any_case left_out_names) lawful_names ends_atom apart_left_out)
    (λ name. good_map (λ text. command.LeftOut (name ++ text)) to_the_end good_to_the_end)
    (λ name. begins_map (λ text. command.LeftOut (name ++ text)) to_the_end (begins_from none to_the_end starts_to_the_end))

-- it is spelled as it is printed

crlf_is : (bytes : List ℕ) (n : ℕ) → crlf_part.lang bytes n → bytes ≡ 13 ∷ 10 ∷ []
unfolding crlf_part
crlf_is bytes n j =
    j.parts ∙ ap (λ s. s ++ j.back) j.begins.0 ∙ ap (λ c. c ∷ j.back) (eqb-true j.between 13 j.begins.1)
    ∙ ap (λ s. 13 ∷ s) j.goes_on.0 ∙ ap (λ c. 13 ∷ c ∷ []) (eqb-true n 10 j.goes_on.1)

spaced_is : (bytes text : List ℕ) → spaced_text.lang bytes text → 32 ∷ bytes ≡ text ++ 13 ∷ 10 ∷ []
spaced_is bytes text k =
    ap (λ s. 32 ∷ s) (k.parts ∙ ap (λ s. k.front ++ s) k.goes_on.0 ∙ append-nil k.front ∙ k.begins) ∙ ap (λ s. s ++ 13 ∷ 10 ∷ []) (sym k.goes_on.1)

end_is : (bytes text : List ℕ) → to_the_end.lang bytes text → bytes ≡ text ++ 13 ∷ 10 ∷ []
end_is bytes text l =
    ⊎_elim (λ j.
    j.parts ∙ ap (λ s. s ++ j.back) j.begins.0 ∙ ap (λ c. c ∷ j.back) (eqb-true j.between 32 j.begins.1) ∙ spaced_is j.back text j.goes_on)
    (λ j.
    j.parts ∙ ap (λ s. j.front ++ s) j.goes_on.0 ∙ append-nil j.front ∙ crlf_is j.front j.between j.begins ∙ ap (λ s. s ++ 13 ∷ 10 ∷ []) (sym j.goes_on.1)) l

pub left_out_text : (bytes : List ℕ) (it : Command) → left_out.lang bytes it → bytes ≡ command_text it
unfolding command_text
left_out_text bytes it j =
    let k = j.goes_on in
    let name = j.between in
    j.parts ∙ ap (λ s. s ++ j.back) j.begins.0
    ∙ ap (λ s. name ++ s) (k.parts ∙ ap (λ s. k.front ++ s) k.goes_on.0 ∙ append-nil k.front ∙ end_is k.front k.between k.begins)
    ∙ sym (append_assoc name k.between (13 ∷ 10 ∷ [])) ∙ ap command_text (sym k.goes_on.1)

-- it isn't known

left_out_begins : (bytes : List ℕ) (it : Command) → left_out.lang bytes it → BeginsWith left_out_names bytes
left_out_begins bytes it j =
    begins_by left_out_names (behind_name j.between)
    (starts_then to_the_end (λ text. give (command.LeftOut (j.between ++ text))) starts_to_the_end) bytes j.front j.back it j.parts j.goes_on
    (ap (is_some left_out_names) j.begins.0 ∙ j.begins.1)

pub known_apart : (bytes : List ℕ) (it other : Command) → known.part.lang bytes it → left_out.lang bytes other → ⊥
unfolding is_uid_verb
known_apart bytes it other h k =
    let one = known_begins bytes it h in
    let two = left_out_begins bytes other k in
    no_two_names known_names left_out_names (32 ∷ 13 ∷ []) refl refl refl one.name two.name one.next two.next one.rest two.rest
    (sym one.parts ∙ two.parts) one.ends two.ends one.is two.is
