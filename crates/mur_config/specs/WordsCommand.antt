-- The command by which `clap` reads the words: two subcommands, each with two operands.
use Rattle.std.specs.Prelude.{true, ℕ, List, codes}
use Rattle.clap.specs.Words.{App, Rule, new_app, new_rule, with_rule, with_subcommand}
use Rattle.clap.specs.Simple.{on_top}

abbrev pub operand : List ℕ → Rule
operand id = record (new_rule id) { required = true }

abbrev pub form : List ℕ → App
form name = with_rule (with_rule (new_app name) (operand (codes "first"))) (operand (codes "second"))

-- without help, and without the program's name in front of the words
abbrev pub bare : App
bare = on_top (λ shape. record shape { no_binary_name = true; disable_help_flag = true; disable_help_subcommand = true; subcommand_required = true })
    (new_app (codes "murder"))

abbrev pub words_command : App
words_command = with_subcommand (with_subcommand bare (form (codes "replay")).top) (form (codes "drill")).top
