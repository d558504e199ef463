use Rattle.std.proofs.Common.{sym, ap, ◌∙◌}
use Rattle.grammar.specs.Words.{Words}
use Rattle.text_parts.proofs.NameSound.{quoted_is_name}
use Rattle.mupdate_codec.proofs.name.quoted_name.Goals as goal

pub returns-clause-named : goal.returns-clause-named
returns-clause-named c =
    let text = c.in_ok-text.text.now in
    quoted_is_name text (sym (ap (λ (w : Words). w.whole text) c.quoted.ensures) ∙ c.in_ok-text.ensures.whole)
