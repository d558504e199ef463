-- The lines of a barrier: a NOOP under the tag of a client's command, and the OK under that tag (RFC 3656, 4.8).
use Rattle.std.specs.Prelude.{◌≡◌, ℕ, nat_lt, Bool, ◌&&◌, List, length, get_or, Option, None, Some}
use Rattle.mupdate_codec.specs.declared.command.MCommand.TheVariants as command
use Rattle.mupdate_codec.specs.declared.command.MResponse.{MResponse}
use Rattle.mupdate_codec.specs.declared.command.MResponse.TheVariants as response
use Rattle.mupdate_codec.specs.declared.tag.Tag.{Tag}
use Rattle.mupdate_codec.specs.Arguments.{exact}
use Rattle.mupdate_codec.specs.Asks.{ask_id_of, line_ask, tag_of}
use Rattle.mupdate_codec.specs.Commands.{command_line}
use Rattle.mupdate_codec.specs.Whole.{response_in}
use Rattle.mur_base.specs.declared.point.AskId.{AskId}
use Rattle.mur_base.specs.Number.{is_digit}

-- the line by which a command waits for all that the master told before
unfoldable pub noop_line : AskId → List ℕ
noop_line ask = (command_line exact).text (tag_of ask, command.Noop)

-- the command whose OK a response is
abbrev pub ok_under : Tag → MResponse → Option AskId
ok_under tag (response.Ok text) = ask_id_of tag
ok_under tag it = None

abbrev pub ok_ask : Option (Tag × MResponse) → Option AskId
ok_ask None = None
ok_ask (Some it) = ok_under it.0 it.1

-- the command whose barrier's OK the bytes are, if they are one
unfoldable pub barrier_answered : List ℕ → Option AskId
barrier_answered line = ok_ask (response_in line)

-- bytes begin with a digit, as the tag of a client's command does
unfoldable pub begins_with_digit : List ℕ → Bool
begins_with_digit line = nat_lt 0 (length line) && is_digit (get_or line 0 0)

-- the tag of the line alone tells that command
abbrev pub OkTellsItsCommand : Type 0
OkTellsItsCommand = (line : List ℕ) (ask : AskId) → barrier_answered line ≡ Some ask → line_ask line ≡ Some ask
