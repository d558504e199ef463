-- What a client is told of a mailbox that changes while it is selected (RFC 9051, 7.4 and 7.5). A view is the rows that the client was last told.
use Rattle.std.specs.Prelude.{ℕ, zero, suc, ◌+◌, Bool, true, false, not, ◌&&◌, nat_lt}
use Rattle.std.specs.Prelude.{if◌then◌else◌, List, [], ◌∷◌, ◌++◌, length, map, Option, None, Some, is_some}
use Rattle.std.specs.BTreeMap.{is_at}
use Rattle.std.specs.List.{filter, list_all, list_any}
use Rattle.std.specs.Ordering.{nat_cmp}
use Rattle.mail_fetch.specs.FlagText.{flags_text}
use Rattle.mail_fetch.specs.Parts.{uid_text}
use Rattle.mail_message.specs.declared.message.Row.{Row}
use Rattle.mail_message.specs.RowOrder.{row_at}
use Rattle.mur_model.specs.declared.news.Told.{Told}
use Rattle.mail_message.specs.SameFlags.{is_same_flags}
use Rattle.imap_types.specs.declared.reply.ReplyLine.{ReplyLine}
use Rattle.imap_types.specs.declared.reply.ReplyLine.TheVariants.{Exists, Expunge, Fetch}

-- the mailbox has a message with the UID
abbrev pub has_row : List Row → ℕ → Bool
has_row now uid = is_some (row_at now uid)

-- the rows of a view whose messages are there
abbrev pub rows_there : List Row → List Row → List Row
rows_there now rows = filter (λ row. has_row now row.uid) rows

-- a line for each message of a view that is no more; each is named by its number after the earlier ones (RFC 9051, 7.5.1)
abbrev pub expunge_lines : List Row → ℕ → List Row → List ReplyLine
expunge_lines now number [] = []
expunge_lines now number (row ∷ rows) =
    if has_row now row.uid then expunge_lines now (number + 1) rows else Expunge number ∷ expunge_lines now number rows

-- a UID is above those of all rows
abbrev pub is_above : List Row → ℕ → Bool
is_above rows uid = list_all (λ row. nat_lt row.uid uid) rows

-- the messages behind a view
abbrev pub rows_behind : List Row → List Row → List Row
rows_behind rows now = filter (λ row. is_above rows row.uid) now

-- how many messages there are, where some came (RFC 9051, 7.4.1)
abbrev pub exists_lines : ℕ → ℕ → List ReplyLine
exists_lines before zero = []
exists_lines before (suc more) = Exists (before + suc more) ∷ []

-- what a FETCH line says of a message's flags; under its UID where that is told too (RFC 9051, 7.5.2)
abbrev pub flag_parts : Bool → Row → List (List ℕ)
flag_parts true row = uid_text row.uid ∷ flags_text row.flags ∷ []
flag_parts false row = flags_text row.flags ∷ []

-- a line for a message with other flags than were told
abbrev pub changed_line : Bool → ℕ → Row → Option Row → List ReplyLine
changed_line is_told number row None = []
changed_line is_told number row (Some it) =
    if not is_told && not (is_same_flags row.flags it.flags) then Fetch number (flag_parts true it) ∷ [] else []

-- a UID is among some
unfoldable pub is_among : List ℕ → ℕ → Bool
is_among uids uid = list_any (is_at (nat_cmp uid)) uids

-- the lines of all whose flags aren't told yet
abbrev pub changed_lines : List Row → List ℕ → ℕ → List Row → List ReplyLine
changed_lines now told number [] = []
changed_lines now told number (row ∷ rows) = changed_line (is_among told row.uid) number row (row_at now row.uid) ++ changed_lines now told (number + 1) rows

-- the row as the mailbox has it, if it is there
abbrev pub fresh_row : Row → Option Row → Row
fresh_row row None = row
fresh_row row (Some it) = it

abbrev pub fresh_rows : List Row → List Row → List Row
fresh_rows now rows = map (λ row. fresh_row row (row_at now row.uid)) rows

-- the news behind the lines of expunged messages
abbrev pub told_of : List ReplyLine → List Row → List Row → List ℕ → Told
told_of lines rows now told = record {
  lines = lines ++ (exists_lines (length rows) (length (rows_behind rows now)) ++ changed_lines now told 1 rows);
  rows = fresh_rows now rows ++ rows_behind rows now;
}

-- The news of a view for which a mailbox has these rows now. Expunged messages are told where numbers may change (RFC 9051, 7.5.1); else they
-- stay in the view. Flags that stand in the reply already, or that this client changed silently, are told no second time.
unfoldable pub news : List Row → List Row → Bool → List ℕ → Told
news rows now true told = told_of (expunge_lines now 1 rows) (rows_there now rows) now told
news rows now false told = told_of [] rows now told
