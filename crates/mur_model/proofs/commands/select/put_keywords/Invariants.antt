use Rattle.std.proofs.Common.{◌≡◌, ◌++◌, map}
use Rattle.mail_message.specs.declared.flag_name.FlagName.TheVariants.{Keyword}
use Rattle.mur_model.proofs.commands.select.put_keywords.Given as goal

abbrev pub invariant-loop-keyword : goal.invariant-loop-keyword
invariant-loop-keyword l = l.flags ++ map Keyword l.keyword-iterator ≡ l.initial.flags ++ map Keyword l.keywords.keys
