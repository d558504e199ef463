use Rattle.std.proofs.Common.{◌∙◌, sym, ap}
use Rattle.std.specs.Prelude.{is_some}
use Rattle.std.proofs.lemmas.List.{take_rest}
use Rattle.mur_base.specs.Inbox.{behind}
use Rattle.mur_base.proofs.OwnLaw.{owns_behind, owns_none, is_some_now}
use Rattle.mur_base.proofs.inbox.owns.Goals as goal

pub returns-then-starts_with : goal.returns-then-starts_with
returns-then-starts_with c =
    let user = c.as_bytes.result.now in let name = c.as_bytes-name.result.now in
    rw (← c.as_bytes-name.ensures, ← c.as_bytes.ensures)
    (c.is_some.ensures ∙ is_some_now c.behind.result ∙ ap is_some c.behind.ensures ∙ ap (λ rest. is_some (behind user rest)) (take_rest name 5)
    ∙ sym (owns_behind user name (sym c.if-starts_with.ensures.value)))

pub returns-else-starts_with : goal.returns-else-starts_with
returns-else-starts_with c =
    rw (← c.as_bytes-name.ensures) (c.if-starts_with.false ∙ sym (owns_none c.args.user.now c.as_bytes-name.result.now (sym c.if-starts_with.ensures.value)))
