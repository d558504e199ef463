-- The messages between the master and a backend, as the commands and the responses that they are.
use Rattle.std.specs.Prelude.{◌≡◌, List, map}
use Rattle.std.specs.List.{AllByRecursion}
use Rattle.link_msg.specs.declared.message.LinkMsg.{LinkMsg}
use Rattle.link_msg.specs.declared.message.LinkMsg.TheVariants.{Line}
use Rattle.master_core.specs.Changes.{text_of}
use Rattle.mupdate_codec.specs.declared.command.MCommand.{MCommand}
use Rattle.mupdate_codec.specs.declared.command.MResponse.{MResponse}
use Rattle.mupdate_codec.specs.declared.tag.Tag.{Tag}
use Rattle.mupdate_codec.specs.Arguments.{exact}
use Rattle.mupdate_codec.specs.Commands.{command_line}
use Rattle.back_links.specs.Spelled.{HasCommandTexts, HasResponseTexts}

abbrev pub command_message : Tag × MCommand → LinkMsg
command_message it = Line ((command_line exact).text it)

abbrev pub response_message : Tag × MResponse → LinkMsg
response_message it = Line (text_of it.0 it.1)

-- the messages to the master are the lines of these commands, those to the backend the lines of these responses
pub record AreWritten (up down : List LinkMsg) (ups : List (Tag × MCommand)) (downs : List (Tag × MResponse)) : Type 0 where
  pub up_is : up ≡ map command_message ups
  pub down_is : down ≡ map response_message downs
  pub commands : AllByRecursion HasCommandTexts ups
  pub responses : AllByRecursion HasResponseTexts downs
