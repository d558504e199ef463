use Rattle.serde_json.specs.Errors.{IsMemory}
use Rattle.mur_config.proofs.JsonLaw.{is_value, no_value}
use Rattle.mur_config.proofs.json.json_of.Goals as goal

pub returns-in-Ok : goal.returns-in-Ok
returns-in-Ok c = is_value _ _ c.in-Ok.ensures.ok.0 c.in-Ok.ensures.ok.1

pub returns-else-is_memory : goal.returns-else-is_memory
returns-else-is_memory c =
    let other : ¬ IsMemory c.in-Err.error = λ told. let is = c.is_memory.ensures.1 told in let is_not = c.if-is_memory.false in cc in
    no_value _ (c.in-Err.ensures.err other)
