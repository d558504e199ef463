-- The command or the response whose line the bytes are, with nothing after it.
use Rattle.std.specs.Prelude.{ℕ, List, [], Option, None, Some, Result, Ok}
use Rattle.mupdate_codec.specs.declared.command.MCommand.{MCommand}
use Rattle.mupdate_codec.specs.declared.command.MResponse.{MResponse}
use Rattle.mupdate_codec.specs.declared.tag.Tag.{Tag}
use Rattle.mupdate_codec.specs.Arguments.{exact}
use Rattle.mupdate_codec.specs.Commands.{command_line}
use Rattle.mupdate_codec.specs.Responses.{response_line}

abbrev pub whole_by : {A : Type 0} → Result (A × List ℕ) ℕ → Option A
whole_by (Ok (it, [])) = Some it
whole_by r = None

unfoldable pub command_in : List ℕ → Option (Tag × MCommand)
command_in bytes = whole_by ((command_line exact).part.at bytes)

unfoldable pub response_in : List ℕ → Option (Tag × MResponse)
response_in bytes = whole_by ((response_line exact).part.at bytes)
