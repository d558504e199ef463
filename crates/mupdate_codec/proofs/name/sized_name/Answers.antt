use Rattle.std.proofs.Common.{sym, ap, ◌∙◌}
use Rattle.grammar.specs.Words.{Words}
use Rattle.text_parts.proofs.NameSound.{sized_is_name}
use Rattle.mupdate_codec.proofs.name.sized_name.Goals as goal

pub returns-clause-named : goal.returns-clause-named
returns-clause-named c =
    let text = c.in_ok-text.text.now in
    sized_is_name c.in_ok-size.size text c.in_ok-size.ensures.within (sym (ap (λ (w : Words). w.whole text) c.sized.ensures) ∙ c.in_ok-text.ensures.whole)
