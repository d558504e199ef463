use Rattle.std.proofs.Common.{rules, ◌≡◌, None, Some, sym, ◌∙◌, arith}
use Rattle.std.proofs.lemmas.List.{drop_all}
use Rattle.serde_json.specs.View.{view}
use Rattle.serde_json.specs.declared.value.Value.{Value}
use Rattle.mur_config.specs.Json.{each_of}
use Rattle.mur_config.proofs.EachLaw.{items_at, goes_on, stops, ends, each_item-each_of}
use Rattle.mur_config.proofs.draft.each_item.Goals as goal

pub returns-in_default : goal.returns-in_default
returns-in_default g c =
    let is = λ (value : Value). g.F.FromObject.fields_of (view value) in
    let none : g.F.FromObject.fields_of (view c.item-item.result) ≡ None = search rules in
    let at = items_at c.args.items.now c.loop-item.item-index c.item-item.result (omega arith) c.item-item.is in
    stops is c.loop-item.found _ _ c.item-item.result (each_of is c.args.items.now) at none c.loop-item.invariant
    ∙ sym (each_item-each_of g.F.FromObject.fields_of c.args.items.now)

pub loop-item-preserved : goal.loop-item-preserved
loop-item-preserved g c =
    let is = λ (value : Value). g.F.FromObject.fields_of (view value) in
    let some : g.F.FromObject.fields_of (view c.item-item.result) ≡ Some c.in-Some.one = search rules in
    let at = items_at c.args.items.now c.loop-item.item-index c.item-item.result (omega arith) c.item-item.is in
    goes_on is c.loop-item.found c.push.new.self _ _ c.item-item.result c.in-Some.one (each_of is c.args.items.now) at some c.in_ok-push.ensures.ok
    c.loop-item.invariant

pub returns : goal.returns
returns g c =
    let is = λ (value : Value). g.F.FromObject.fields_of (view value) in
    let at = drop_all c.loop-item.item-index c.args.items.now (omega arith) in
    ends is c.loop-item.found _ (each_of is c.args.items.now) at c.loop-item.invariant
    ∙ sym (each_item-each_of g.F.FromObject.fields_of c.args.items.now)
