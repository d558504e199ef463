use Rattle.std.proofs.Common.{drop}
use Rattle.serde_json.specs.View.{view}
use Rattle.serde_json.specs.declared.value.Value.{Value}
use Rattle.mur_config.specs.Json.{each_of}
use Rattle.mur_config.proofs.EachLaw.{IsSoFar}
use Rattle.mur_config.proofs.draft.each_item.Given as goal

abbrev pub invariant-loop-item : goal.invariant-loop-item
invariant-loop-item g l =
    let is = λ (value : Value). g.F.FromObject.fields_of (view value) in
    IsSoFar is l.found (drop l.item-index l.items) (each_of is l.items)
