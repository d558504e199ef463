-- The lines by which a stream tells of a record: MAILBOX if it has an access list, and then RESERVE if the name is reserved.
use Rattle.std.specs.Prelude.{ℕ, List, [], ◌∷◌, None, Some}
use Rattle.mupdate_codec.specs.declared.command.MResponse.{MResponse}
use Rattle.mupdate_codec.specs.declared.command.MResponse.TheVariants as response
use Rattle.feed_core.specs.declared.rec.Rec.{Rec}
use Rattle.feed_core.specs.declared.rec.Rec.TheVariants.{Active, Reserved}

abbrev pub lines_of_rec : List ℕ → Rec → List MResponse
lines_of_rec name (Active place acl) = response.Mailbox name place acl ∷ []
lines_of_rec name (Reserved place None) = response.Reserve name place ∷ []
lines_of_rec name (Reserved place (Some acl)) = response.Mailbox name place acl ∷ response.Reserve name place ∷ []

abbrev pub rec_lines : List ℕ × Rec → List MResponse
rec_lines entry = lines_of_rec entry.0 entry.1
