-- What a frontend hears of the lines that the master sends under the tag of its UPDATE.
use Rattle.std.proofs.Common.{◌≡◌, ℕ, List, Some, refl, ap}
use Rattle.mupdate_codec.specs.declared.command.MCommand.TheVariants as command
use Rattle.mupdate_codec.specs.declared.command.MResponse.{MResponse}
use Rattle.mupdate_codec.specs.Arguments.{exact}
use Rattle.mupdate_codec.specs.Characters.{is_mupdate_tag_byte}
use Rattle.mupdate_codec.specs.Commands.{command_line, command_word, command_printed_as, command_arguments}
use Rattle.mupdate_codec.specs.Responses.{response_line, IsSpelledResponse}
use Rattle.mupdate_codec.specs.Tags.{mupdate_tag_text}
use Rattle.mupdate_codec.specs.Whole.{command_in}
use Rattle.mupdate_codec.proofs.LinesLaw.{law_response_line}
use Rattle.mupdate_codec.proofs.WholeLaw.{response_is}
use Rattle.feed_core.specs.declared.replica.Replica.{Replica}
use Rattle.feed_core.specs.Feed.{replica_after}
use Rattle.feed_core.specs.Stream.{update_tag, update_line, heard, heard_by}

-- a line of the stream
abbrev pub stream_line : MResponse → List ℕ
stream_line it = (response_line exact).text (update_tag, it)

pub heard_line : (replica : Replica) (it : MResponse) → IsSpelledResponse update_tag it → heard replica (stream_line it) ≡ replica_after replica it
unfolding heard heard_by
heard_line replica it spelled =
    ap (heard_by replica) (response_is (stream_line it) (update_tag, it) (law_response_line.prints spelled.0 (update_tag, it) spelled.1))

-- the master reads UPDATE
pub update_read : command_in update_line ≡ Some (update_tag, command.Update)
unfolding update_line command_in command_line command_word command_printed_as command_arguments mupdate_tag_text is_mupdate_tag_byte
update_read = refl
