use Rattle.std.proofs.Common.{sym, ap, ◌∙◌}
use Rattle.imap_types.specs.declared.command.Tag.TheVariants.{Text}
use Rattle.imap_command.proofs.BadLaws.{tag_found, tag_unspaced, tag_stopped}
use Rattle.imap_command.proofs.reader.first_tag.Goals as goal

pub returns-in_ok-text-in-Ok : goal.returns-in_ok-text-in-Ok
returns-in_ok-text-in-Ok c =
    let t = tag_found c.args.frame.now c.in-Ok.text.now c.in-Ok.rest.now c.in-Ok.ensures.reads (sym c.begins.ensures ∙ c.if-begins.true) in
    (c.in-Ok.text.now, t.0, ap Text c.in_ok-text-in-Ok.ensures, t.1, t.2)

pub returns-else-begins : goal.returns-else-begins
returns-else-begins c = tag_unspaced c.args.frame.now c.in-Ok.text.now c.in-Ok.rest.now c.in-Ok.ensures.reads (sym c.begins.ensures ∙ c.if-begins.false)

pub returns-in-Err : goal.returns-in-Err
returns-in-Err c = tag_stopped c.args.frame.now _ c.in-Err.ensures.reads
