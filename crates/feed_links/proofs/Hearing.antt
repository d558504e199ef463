-- What a replica makes of one line of the master.
use Rattle.std.proofs.Common.{◌≡◌, ℕ, ◌≤◌, Bool, true, false, List, length, Some, refl, ap, ◌∙◌}
use Rattle.std.specs.Prelude.{if◌then◌else◌}
use Rattle.feed_core.specs.declared.replica.Replica.{Replica}
use Rattle.feed_core.specs.Feed.{replica_after}
use Rattle.feed_core.specs.Stream.{heard, heard_by, is_update_tag}
use Rattle.master_core.specs.Changes.{text_of}
use Rattle.mupdate_codec.specs.declared.command.MResponse.{MResponse}
use Rattle.mupdate_codec.specs.declared.command.MResponse.TheVariants as response
use Rattle.mupdate_codec.specs.declared.tag.Tag.{Tag}
use Rattle.mupdate_codec.specs.Responses.{IsSpelledResponse}
use Rattle.mupdate_codec.specs.Strings.{string_form, string_text}
use Rattle.mupdate_codec.specs.Whole.{response_in}
use Rattle.mupdate_codec.proofs.LinesLaw.{law_response_line}
use Rattle.mupdate_codec.proofs.StringsPrinted.{spell_string}
use Rattle.mupdate_codec.proofs.WholeLaw.{response_is}
use Rattle.node_record.specs.Table.{MailboxTable}
use Rattle.feed_links.specs.Replicas.{hears, replica_of}
use Rattle.feed_links.specs.Spelled.{IsSpelledIn}
use Rattle.feed_links.proofs.Arguments.{IsSpelledTag}
use Rattle.feed_links.proofs.Messages.{told_line}
use Rattle.feed_links.proofs.Printed.{HasParts, response_spelled}

-- a text that isn't too long
pub text_spelled : (text : List ℕ) → length text ≤ 65536 → IsSpelledIn string_form text
text_spelled text short = (string_text text, spell_string text short)

-- a line is read back
pub read_back : (tag : Tag) (it : MResponse) → IsSpelledResponse tag it → response_in (text_of tag it) ≡ Some (tag, it)
read_back tag it spelled = response_is (text_of tag it) (tag, it) (law_response_line.prints spelled.0 (tag, it) spelled.1)

-- under another tag it tells nothing
pub other_heard : (replica : Replica) (tag : Tag) (it : MResponse) → IsSpelledResponse tag it → is_update_tag tag ≡ false → hears replica (told_line tag it) ≡ replica
unfolding heard heard_by
other_heard replica tag it spelled other =
    ap (heard_by replica) (read_back tag it spelled) ∙ ap (λ b. if b then replica_after replica it else replica) other

-- OK and BAD, whatever their tag, change nothing of a replica that is whole
abbrev pub IsQuiet : MResponse → Type 0
IsQuiet (response.Ok text) = IsSpelledIn string_form text
IsQuiet (response.Bad text) = IsSpelledIn string_form text
IsQuiet it = ⊥

quiet_parts : (it : MResponse) → IsQuiet it → HasParts it
quiet_parts (response.Ok text) quiet = quiet
quiet_parts (response.Bad text) quiet = quiet
quiet_parts (response.Mailbox name place acl) quiet = absurd quiet
quiet_parts (response.Reserve name place) quiet = absurd quiet
quiet_parts (response.Delete name) quiet = absurd quiet
quiet_parts (response.No text) quiet = absurd quiet

quiet_after : (table : MailboxTable) (it : MResponse) → IsQuiet it → replica_after (replica_of table) it ≡ replica_of table
quiet_after table (response.Ok text) quiet = refl
quiet_after table (response.Bad text) quiet = refl
quiet_after table (response.Mailbox name place acl) quiet = absurd quiet
quiet_after table (response.Reserve name place) quiet = absurd quiet
quiet_after table (response.Delete name) quiet = absurd quiet
quiet_after table (response.No text) quiet = absurd quiet

by_tag : (table : MailboxTable) (it : MResponse) → IsQuiet it → (same : Bool)
    → (if same then replica_after (replica_of table) it else replica_of table) ≡ replica_of table
by_tag table it quiet true = quiet_after table it quiet
by_tag table it quiet false = refl

pub quiet_heard : (table : MailboxTable) (tag : Tag) (it : MResponse) → IsSpelledTag tag → IsQuiet it → hears (replica_of table) (told_line tag it) ≡ replica_of table
unfolding heard heard_by
quiet_heard table tag it tagged quiet =
    ap (heard_by (replica_of table)) (read_back tag it (response_spelled tag it tagged (quiet_parts it quiet)))
    ∙ by_tag table it quiet (is_update_tag tag)
