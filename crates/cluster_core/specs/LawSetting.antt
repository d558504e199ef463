-- What the one store knows of a configuration: its users and its date. The law reads both off the configuration itself, and not off what the nodes
-- were started with.
use Rattle.mur_config.specs.declared.config.Config.{Config}
use Rattle.mur_model.specs.declared.setting.Setting.{Setting}

abbrev pub law_setting : Config → Setting
law_setting config = record { users = config.users; date = config.date }
