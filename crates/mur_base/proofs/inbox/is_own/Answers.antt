use Rattle.std.proofs.Common.{◌∙◌, sym, ap}
use Rattle.std.proofs.lemmas.List.{take_rest}
use Rattle.std.specs.Str.{bytes_eq}
use Rattle.mur_base.proofs.OwnLaw.{is_own_behind, is_own_none}
use Rattle.mur_base.proofs.inbox.is_own.Goals as goal

pub returns-then-starts_with : goal.returns-then-starts_with
returns-then-starts_with c =
    let user = c.as_bytes.result.now in let name = c.as_bytes-name.result.now in
    rw (← c.as_bytes-name.ensures, ← c.as_bytes.ensures)
    (c.eq.ensures ∙ ap (bytes_eq user) (take_rest name 5) ∙ sym (is_own_behind user name (sym c.if-starts_with.ensures.value)))

pub returns-else-starts_with : goal.returns-else-starts_with
returns-else-starts_with c =
    rw (← c.as_bytes-name.ensures) (c.if-starts_with.false ∙ sym (is_own_none c.args.user.now c.as_bytes-name.result.now (sym c.if-starts_with.ensures.value)))
