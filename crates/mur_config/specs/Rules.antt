-- The numbers of the rules of configurations.
use Rattle.std.specs.Prelude.{ℕ}
use Rattle.mur_config.specs.declared.fault.ConfigFault.{ConfigFault}
use Rattle.mur_config.specs.declared.fault.ConfigFault.TheVariants.{NotJson, WrongField, UnknownKind, NameTwice, NodeCount, BadValue}

unfoldable pub config_rule_number : ConfigFault → ℕ
config_rule_number NotJson = 1
config_rule_number WrongField = 2
config_rule_number UnknownKind = 3
config_rule_number NameTwice = 4
config_rule_number NodeCount = 5
config_rule_number BadValue = 6
