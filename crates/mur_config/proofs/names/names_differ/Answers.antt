use Rattle.std.proofs.Common.{rules, ◌≡◌, true, false, arith}
use Rattle.std.proofs.lemmas.Grind.{common_steps}
use Rattle.std.proofs.lemmas.List.{drop_all}
use Rattle.mur_base.proofs.UsersLaw.{not_true}
use Rattle.mur_config.proofs.EachLaw.{items_at}
use Rattle.mur_config.proofs.NamesLaw.{begins, goes_on, stops, ends}
use Rattle.mur_config.proofs.names.names_differ.Goals as goal

pub loop-item-init : goal.loop-item-init
loop-item-init g c = begins g.N.Named.name_of c.new-seen.result.keys c.args.items.now c.new-seen.ensures.empty

pub returns-then-not-branch : goal.returns-then-not-branch
returns-then-not-branch g c =
    let at = items_at c.args.items.now c.loop-item.item-index c.item-item.result (omega arith) c.item-item.is in
    let told = c.if-not-branch.true in
    let again : c.in_ok-insert.field-0 ≡ false = first_of (cc, search rules, grind (arith, common_steps, told), search (rules, not_true)) in
    stops g.N.Named.name_of c.loop-item.seen.keys c.name.result _ _ c.item-item.result _ c.in_ok-insert.field-0 at c.name.ensures
    c.in_ok-insert.ensures.added again c.loop-item.invariant

pub loop-item-preserved : goal.loop-item-preserved
loop-item-preserved g c =
    let at = items_at c.args.items.now c.loop-item.item-index c.item-item.result (omega arith) c.item-item.is in
    let told = c.if-not-branch.false in
    let new : c.in_ok-insert.field-0 ≡ true = first_of (cc, search rules, grind (arith, common_steps, told)) in
    goes_on g.N.Named.name_of c.loop-item.seen.keys c.insert.new.self.keys c.name.result _ _ c.item-item.result _ c.in_ok-insert.field-0 at c.name.ensures
    c.in_ok-insert.ensures.added new c.in_ok-insert.ensures.keys c.loop-item.invariant

pub returns : goal.returns
returns g c =
    let at = drop_all c.loop-item.item-index c.args.items.now (omega arith) in
    ends g.N.Named.name_of c.loop-item.seen.keys _ _ at c.loop-item.invariant
