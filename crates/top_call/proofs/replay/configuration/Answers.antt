use Rattle.std.proofs.Common.{rules, ◌≡◌, Ok, Err, refl, arith}
use Rattle.mur_config.specs.Config.{config_of}
use Rattle.top_call.proofs.replay.configuration.Goals as goal

pub returns-in-Ok-read_config-clause-did : goal.returns-in-Ok-read_config-clause-did
returns-in-Ok-read_config-clause-did g c =
    let right : config_of c.in-Ok.text ≡ Ok c.in-Ok-read_config.config = search rules in
    record { text = c.in-Ok.text; reads = search rules; whole = omega arith; right = right }

pub returns-in-Err-Refused-clause-did : goal.returns-in-Err-Refused-clause-did
returns-in-Err-Refused-clause-did g c =
    let wrong : config_of c.in-Ok.text ≡ Err c.in-Err-Refused.fault = search rules in
    rw c.refused_config.ensures
    (record { text = c.in-Ok.text; reads = search rules; whole = omega arith; fault = c.in-Err-Refused.fault; wrong = wrong; by_rule = refl })
