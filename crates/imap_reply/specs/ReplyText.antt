-- The bytes of a whole reply (RFC 9051, 7): its untagged lines, and then the tagged one.
use Rattle.std.specs.Prelude.{ℕ, List, [], ◌∷◌, ◌++◌}
use Rattle.imap_types.specs.declared.command.Tag.{Tag}
use Rattle.imap_types.specs.declared.reply.Reply.{Reply}
use Rattle.imap_types.specs.declared.reply.ReplyLine.{ReplyLine}
use Rattle.imap_types.specs.declared.reply.ReplyLine.TheVariants.{Capability, Bye, Enabled, Closed, Flags, Exists, Listed, Permanent}
use Rattle.imap_types.specs.declared.reply.ReplyLine.TheVariants.{UidNext, UidValidity, Status, Search, Expunge, Fetch, Acl, MyRights}
use Rattle.imap_reply.specs.AccessLines.{acl_line, my_rights_line}
use Rattle.imap_reply.specs.ByeLine.{bye_line}
use Rattle.imap_reply.specs.Capability.{capability_line}
use Rattle.imap_reply.specs.Enabled.{enabled_line}
use Rattle.imap_reply.specs.ExistsLine.{exists_line}
use Rattle.imap_reply.specs.ExpungeLine.{expunge_line}
use Rattle.imap_reply.specs.FetchLine.{fetch_line}
use Rattle.imap_reply.specs.FlagsLine.{flags_line}
use Rattle.imap_reply.specs.ListLine.{list_line}
use Rattle.imap_reply.specs.OkLines.{closed_line, permanent_line, uid_next_line, uid_validity_line}
use Rattle.imap_reply.specs.SearchLine.{search_line}
use Rattle.imap_reply.specs.StatusLine.{status_line}
use Rattle.imap_reply.specs.TaggedLine.{tagged_line}

-- an untagged line in the reply to the command with this tag
unfoldable pub line_text : Tag → ReplyLine → List ℕ
line_text tag Capability = capability_line
line_text tag (Bye bye) = bye_line bye
line_text tag Enabled = enabled_line
line_text tag Closed = closed_line
line_text tag (Flags flags) = flags_line flags
line_text tag (Exists count) = exists_line count
line_text tag (Listed attribute name) = list_line attribute name
line_text tag (Permanent flags new) = permanent_line flags new
line_text tag (UidNext uid) = uid_next_line uid
line_text tag (UidValidity serial) = uid_validity_line serial
line_text tag (Status name counts) = status_line name counts
line_text tag (Search by_uid numbers) = search_line tag by_uid numbers
line_text tag (Expunge number) = expunge_line number
line_text tag (Fetch number parts) = fetch_line number parts
line_text tag (Acl name acl) = acl_line name acl
line_text tag (MyRights name rights) = my_rights_line name rights

unfoldable pub lines_text : Tag → List ReplyLine → List ℕ
lines_text tag [] = []
lines_text tag (line ∷ lines) = line_text tag line ++ lines_text tag lines

unfoldable pub reply_text : Tag → Reply → List ℕ
reply_text tag reply = lines_text tag reply.lines ++ tagged_line tag reply.verdict
