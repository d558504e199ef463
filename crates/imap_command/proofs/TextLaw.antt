-- How a known command is printed, in one line.
use Rattle.std.proofs.Common.{◌≡◌, [], ◌∷◌, ◌++◌, refl, sym, ap, ◌∙◌, append_assoc}
use Rattle.imap_types.specs.declared.command.Command.{Command}
use Rattle.imap_command.specs.declared.verb.Verb.{Verb}
use Rattle.imap_command.specs.declared.verb.Verb.TheVariants as verb
use Rattle.imap_command.specs.declared.verb.UidVerb.{UidVerb}
use Rattle.imap_command.specs.declared.verb.UidVerb.TheVariants as uid
use Rattle.imap_command.specs.Commands.{arguments, arguments_text, uid_arguments, uid_words, verb_of, words_text}
use Rattle.imap_command.specs.Spells.{known}
use Rattle.imap_command.specs.Verbs.{is_uid_verb, name_text, uid_name_text, uid_verb_of}

uid_text : (k : UidVerb) (it : Command) → (uid_arguments k).text it ≡ arguments_text it
unfolding uid_arguments
uid_text uid.Copy it = refl
uid_text uid.Expunge it = refl
uid_text uid.Fetch it = refl
uid_text uid.Search it = refl
uid_text uid.Store it = refl

text_behind : (v : Verb) (it : Command) → (arguments v).text it ≡ uid_words v it ++ arguments_text it
unfolding arguments is_uid_verb
text_behind verb.Uid it = ap (λ s. 32 ∷ (uid_name_text (uid_verb_of it) ++ s)) (uid_text (uid_verb_of it) it)
text_behind v it = refl

pub known_text : (it : Command) → known.text it ≡ words_text it ++ (arguments_text it ++ 13 ∷ 10 ∷ [])
unfolding words_text
known_text it =
    let v = verb_of it in
    ap (λ s. name_text v ++ (s ++ 13 ∷ 10 ∷ [])) (text_behind v it)
    ∙ ap (λ s. name_text v ++ s) (append_assoc (uid_words v it) (arguments_text it) (13 ∷ 10 ∷ []))
    ∙ sym (append_assoc (name_text v) (uid_words v it) (arguments_text it ++ 13 ∷ 10 ∷ []))
