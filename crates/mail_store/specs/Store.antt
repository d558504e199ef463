-- What STORE does to a mailbox (RFC 9051, 6.4.6).
use Rattle.std.specs.Prelude.{◌≡◌, ◌⊎◌, ℕ, Bool, true, false, List, [], ◌∷◌, ◌++◌, map, Option, Some, None, Result, Err, MatchResult}
use Rattle.std.specs.List.{list_any}
use Rattle.mail_message.specs.declared.message.Message.{Message}
use Rattle.mail_message.specs.declared.message.Row.{Row}
use Rattle.mail_message.specs.declared.mode.Mode.{Mode}
use Rattle.mail_message.specs.declared.change.Change.{Change}
use Rattle.mail_message.specs.declared.change.Change.TheVariants.{SetFlags}
use Rattle.mail_message.specs.FlagSets.{Flags, flags_after, has_too_many}
use Rattle.mail_message.specs.Boxes.{Content, message_at, content_after_all}
use Rattle.mail_store.specs.declared.fault.StoreFault.{StoreFault}
use Rattle.mail_store.specs.declared.fault.StoreFault.TheVariants.{TooManyFlags, Memory}
use Rattle.mail_store.specs.Named.{set_of}

abbrev pub IsMadeRowBy : Bool → Row → Result Row StoreFault → Type 0
IsMadeRowBy true row result = (result ≡ Err TooManyFlags) ⊎ (result ≡ Err Memory)
IsMadeRowBy false row result = MatchResult result (λ given. given ≡ row) (λ fault. fault ≡ Memory)

-- the result is this row: refused where it would have too many keywords, and where memory is wanting
abbrev pub IsMadeRow : Row → Result Row StoreFault → Type 0
IsMadeRow row result = IsMadeRowBy (has_too_many row.flags) row result

-- the row of a message after a STORE, where there is a message
abbrev pub stored_row : Mode → Flags → Option Message → List Row
stored_row mode flags None = []
stored_row mode flags (Some message) = record { uid = message.uid; flags = flags_after mode message.flags flags } ∷ []

-- the rows of the messages with these UIDs after a STORE, in the order of the UIDs
abbrev pub stored_rows : List Message → Mode → Flags → List ℕ → List Row
stored_rows messages mode flags [] = []
stored_rows messages mode flags (uid ∷ uids) = stored_row mode flags (message_at messages uid) ++ stored_rows messages mode flags uids

-- the rows of the named messages after a STORE, in rising order of UID
abbrev pub rows_stored : Content → List ℕ → Mode → Flags → List Row
rows_stored box uids mode flags = stored_rows box.messages mode flags (set_of uids)

-- each row's message gets the flags of the row
abbrev pub flag_changes : List Row → List Change
flag_changes rows = map (λ row. SetFlags row.uid row.flags) rows

-- the content after a STORE
abbrev pub stored : Content → List ℕ → Mode → Flags → Content
stored box uids mode flags = content_after_all box (flag_changes (rows_stored box uids mode flags))

-- some message would have more keywords than it may
abbrev pub has_too_many_flags : List Row → Bool
has_too_many_flags rows = list_any (λ row. has_too_many row.flags) rows

abbrev pub IsStoredBy : Bool → List Row → Result (List Row) StoreFault → Type 0
IsStoredBy true rows result = (result ≡ Err TooManyFlags) ⊎ (result ≡ Err Memory)
IsStoredBy false rows result = MatchResult result (λ given. given ≡ rows) (λ fault. fault ≡ Memory)

-- the result is these rows: refused where a message would have too many keywords, and where memory is wanting
abbrev pub IsStored : List Row → Result (List Row) StoreFault → Type 0
IsStored rows result = IsStoredBy (has_too_many_flags rows) rows result
