-- Messages, rows of flags and changes of a mailbox on a disk.
use Rattle.std.specs.Prelude.{ℕ, List, [], ◌∷◌, ◌++◌}
use Rattle.mail_message.specs.declared.message.Message.{Message}
use Rattle.mail_message.specs.declared.message.Row.{Row}
use Rattle.mail_message.specs.declared.change.Change.{Change}
use Rattle.mail_message.specs.declared.change.Change.TheVariants.{Put, SetFlags, Gone, NextUid}
use Rattle.mail_message.specs.FlagSets.{Flags}
use Rattle.grammar.specs.Forms.{Form, ◌and◌, dispatch, made}
use Rattle.node_record.specs.declared.change.ChangeKind.{ChangeKind}
use Rattle.node_record.specs.declared.change.ChangeKind.TheVariants as kind
use Rattle.node_record.specs.Parts.{number, number_text, text, sized_text, date, kind_byte}
use Rattle.node_record.specs.Flags.{flags, flags_text}

-- its UID, its flags, its date and its body
unfoldable pub message_text : Message → List ℕ
message_text it = number_text it.uid ++ (flags_text it.flags ++ (sized_text it.date ++ sized_text it.body))

abbrev pub message_of : ℕ × (Flags × (List ℕ × List ℕ)) → Message
message_of x = record { uid = x.0; flags = x.1.0; date = x.1.1.0; body = x.1.1.1 }

abbrev pub message : Form Message
message = made message_of message_text (number and (flags and (date and text)))

-- a UID and flags
unfoldable pub row_text : Row → List ℕ
row_text it = number_text it.uid ++ flags_text it.flags

abbrev pub row_of : ℕ × Flags → Row
row_of x = record { uid = x.0; flags = x.1 }

abbrev pub row : Form Row
row = made row_of row_text (number and flags)

abbrev pub change_number : ChangeKind → ℕ
change_number kind.Put = 1
change_number kind.SetFlags = 2
change_number kind.Gone = 3
change_number kind.NextUid = 4

abbrev pub change_kinds : Form ChangeKind
change_kinds = kind_byte change_number kind.NextUid (kind.Put ∷ kind.SetFlags ∷ kind.Gone ∷ kind.NextUid ∷ [])

-- what stands behind the number of each kind
unfoldable pub change_parts : Change → ChangeKind × List ℕ
change_parts (Put it) = (kind.Put, message_text it)
change_parts (SetFlags uid it) = (kind.SetFlags, number_text uid ++ flags_text it)
change_parts (Gone uid) = (kind.Gone, number_text uid)
change_parts (NextUid uid) = (kind.NextUid, number_text uid)

abbrev pub kind_of_change : Change → ChangeKind
kind_of_change it = (change_parts it).0

abbrev pub change_fields : Change → List ℕ
change_fields it = (change_parts it).1

unfoldable pub change_of : ChangeKind → Form Change
change_of kind.Put = made Put change_fields message
change_of kind.SetFlags = made (λ x. SetFlags x.0 x.1) change_fields (number and flags)
change_of kind.Gone = made Gone change_fields number
change_of kind.NextUid = made NextUid change_fields number

abbrev pub change : Form Change
change = dispatch change_kinds kind_of_change change_of
