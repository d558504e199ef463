-- The stream of a frontend (RFC 3656, 4.11): its UPDATE, and the lines of the master under the tag of that.
use Rattle.std.specs.Prelude.{ℕ, nat_eq, Bool, false, if◌then◌else◌, List, codes, Option, None, Some}
use Rattle.std.specs.Cmp.Lexicographic.{pointwise}
use Rattle.mupdate_codec.specs.declared.command.MCommand.TheVariants as command
use Rattle.mupdate_codec.specs.declared.command.MResponse.{MResponse}
use Rattle.mupdate_codec.specs.declared.tag.Tag.{Tag}
use Rattle.mupdate_codec.specs.declared.tag.Tag.TheVariants.{Star, Text}
use Rattle.mupdate_codec.specs.Arguments.{exact}
use Rattle.mupdate_codec.specs.Commands.{command_line}
use Rattle.mupdate_codec.specs.Whole.{response_in}
use Rattle.feed_core.specs.declared.replica.Replica.{Replica}
use Rattle.feed_core.specs.Feed.{replica_after}

abbrev pub update_tag : Tag
update_tag = Text (codes "u")

-- the bytes of a frontend's UPDATE
unfoldable pub update_line : List ℕ
update_line = (command_line exact).text (update_tag, command.Update)

abbrev pub is_update_tag : Tag → Bool
is_update_tag Star = false
is_update_tag (Text text) = pointwise nat_eq text (codes "u")

-- a line of the stream is taken, and any other line changes nothing
unfoldable pub heard_by : Replica → Option (Tag × MResponse) → Replica
heard_by replica None = replica
heard_by replica (Some it) = if is_update_tag it.0 then replica_after replica it.1 else replica

unfoldable pub heard : Replica → List ℕ → Replica
heard replica bytes = heard_by replica (response_in bytes)
