use Rattle.std.proofs.Common.{sym, ap, ◌∙◌}
use Rattle.grammar.specs.Words.{Words}
use Rattle.text_parts.proofs.NameSound.{sized_is_name}
use Rattle.text_parts.proofs.names.sized_name_of.Goals as goal

pub made_name-requires : goal.made_name-requires
made_name-requires c =
    let text = c.in_ok-text.text.now in
    sized_is_name c.args.size text c.requires (sym (ap (λ (w : Words). w.whole text) c.sized.ensures) ∙ c.in_ok-text.ensures.whole)
