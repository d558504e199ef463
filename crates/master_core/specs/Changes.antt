-- A change of the table, as streams are told it (RFC 3656, 4.11): where the name is now, or that it has no record any more.
use Rattle.std.specs.Prelude.{ℕ, List, ◌++◌, map, Option, None, Some, []}
use Rattle.link_msg.specs.declared.message.LinkMsg.TheVariants.{Line}
use Rattle.link_msg.specs.declared.out.Out.{Out}
use Rattle.link_msg.specs.declared.out.Out.TheVariants.{Client, Link}
use Rattle.mupdate_codec.specs.declared.command.MResponse.{MResponse}
use Rattle.mupdate_codec.specs.declared.command.MResponse.TheVariants as response
use Rattle.mupdate_codec.specs.declared.tag.Tag.{Tag}
use Rattle.mupdate_codec.specs.Arguments.{exact}
use Rattle.mupdate_codec.specs.Responses.{response_line}
use Rattle.node_record.specs.declared.master.MasterRecord.{MasterRecord}
use Rattle.node_record.specs.declared.master.MasterRecord.TheVariants as entry

abbrev pub change_line : MasterRecord → MResponse
change_line (entry.Reserved name place serial) = response.Reserve name place
change_line (entry.Active name place acl) = response.Mailbox name place acl
change_line (entry.Inactive name place) = response.Reserve name place
change_line (entry.Deleted name) = response.Delete name

-- the line of a response
abbrev pub text_of : Tag → MResponse → List ℕ
text_of tag it = (response_line exact).text (tag, it)

-- it is told to a node and to an outside connection under the tag of its UPDATE

abbrev pub node_told : MResponse → List ℕ × Tag → Out
node_told it stream = Link stream.0 (Line (text_of stream.1 it))

abbrev pub watcher_told : MResponse → ℕ × Tag → Out
watcher_told it watcher = Client watcher.0 (text_of watcher.1 it)

unfoldable pub change_outs : List (List ℕ × Tag) → List (ℕ × Tag) → Option MasterRecord → List Out
change_outs streams watchers None = []
change_outs streams watchers (Some change) = map (node_told (change_line change)) streams ++ map (watcher_told (change_line change)) watchers
