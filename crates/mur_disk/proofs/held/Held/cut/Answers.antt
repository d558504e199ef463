use Rattle.std.proofs.Common.{◌∙◌, ◌-◌, ap, arith, drop, length, length-drop}
use Rattle.std.proofs.lemmas.List.{take_all}
use Rattle.mur_disk.proofs.UndoLaws.{did_cut}
use Rattle.mur_disk.proofs.held.Held.cut.Goals as goal

pub returns-clause-ok : goal.returns-clause-ok
returns-clause-ok c =
    let bytes = c.as_slice.result.now in
    did_cut c.args.len c.in_ok-from_slice.field-0 c.args.self.now (record { bytes = c.truncate.new.self; pending = c.push.new.self }) c.requires
    (c.in_ok-from_slice.ensures ∙ take_all (length bytes - c.args.len) (drop c.args.len bytes) (omega (arith, length-drop c.args.len bytes))
    ∙ ap (drop c.args.len) c.as_slice.ensures)
    c.truncate.ensures c.in_ok-push.ensures.ok
