-- What is printed of a command is a spelling of it, where it has one.
use Rattle.std.proofs.Common.{refl, sym, subst}
use Rattle.grammar.specs.Part.{map}
use Rattle.grammar.specs.Words.{word}
use Rattle.grammar.proofs.Spelling.{spell_sp, spell_map}
use Rattle.imap_command.specs.Print.{printed}
use Rattle.imap_command.specs.Spells.{tags, commands, tagged_command, Spells, IsSpelled}
use Rattle.imap_text.specs.Tags.{tag_text}
use Rattle.imap_types.specs.declared.command.Command.{Command}
use Rattle.imap_types.specs.declared.command.Tag.{Tag}
use Rattle.imap_types.specs.declared.command.Tag.TheVariants.{Text}
use Rattle.imap_command.proofs.SpellsLaw.{law_commands}

pub spell_printed : (tag : Tag) (it : Command) → IsSpelled tag it → Spells (printed tag it) (tag, it)
unfolding tagged_command printed tag_text
spell_printed tag it (frame, j) =
    let text = j.between in
    let k = j.goes_on.goes_on in
    let own = k.between in
    subst (λ (tagged : Tag × Command). Spells (printed tagged.0 tagged.1) tagged) (sym k.goes_on.1)
    (spell_sp (word tags) (λ tag. map (λ it. (Text tag, it)) commands.part) text (commands.text own) text (Text text, own) (refl, j.begins.1)
    (spell_map (λ it. (Text text, it)) commands.part (commands.text own) own (law_commands.prints k.front own k.begins)))
