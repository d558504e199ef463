-- The entries of a backend's disk: a kind, which is one byte, and its fields.
use Rattle.std.specs.Prelude.{ℕ, List, [], ◌∷◌, ◌++◌}
use Rattle.grammar.specs.Forms.{Form, ◌and◌, dispatch, made}
use Rattle.node_record.specs.declared.backend.BackendRecord.{BackendRecord}
use Rattle.node_record.specs.declared.backend.BackendRecord.TheVariants as entry
use Rattle.node_record.specs.declared.backend.BackendKind.{BackendKind}
use Rattle.node_record.specs.declared.backend.BackendKind.TheVariants as kind
use Rattle.node_record.specs.Parts.{number, number_text, text, sized_text, name, node, list, list_text, kind_from, kind_byte}
use Rattle.node_record.specs.Messages.{message, message_text, row, row_text, change}

abbrev pub backend_number : BackendKind → ℕ
backend_number kind.Make = 1
backend_number kind.Opened = 2
backend_number kind.Added = 3
backend_number kind.Flagged = 4
backend_number kind.Gone = 5
backend_number kind.Closing = 6
backend_number kind.Begun = 7
backend_number kind.Took = 8
backend_number kind.Ready = 9
backend_number kind.Pointer = 10
backend_number kind.Forget = 11

abbrev pub all_backend_kinds : List BackendKind
all_backend_kinds =
    kind.Make ∷ kind.Opened ∷ kind.Added ∷ kind.Flagged ∷ kind.Gone ∷ kind.Closing ∷ kind.Begun ∷ kind.Took ∷ kind.Ready ∷ kind.Pointer ∷ kind.Forget ∷ []

abbrev pub kind_of_number : ℕ → BackendKind
kind_of_number n = kind_from 1 kind.Forget all_backend_kinds n

abbrev pub backend_kinds : Form BackendKind
backend_kinds = kind_byte backend_number kind.Forget all_backend_kinds

-- the kind of each entry, and the text of its fields
unfoldable pub backend_parts : BackendRecord → BackendKind × List ℕ
backend_parts (entry.Make mailbox serial acl) = (kind.Make, sized_text mailbox ++ (number_text serial ++ sized_text acl))
backend_parts (entry.Opened mailbox) = (kind.Opened, sized_text mailbox)
backend_parts (entry.Added mailbox messages) = (kind.Added, sized_text mailbox ++ list_text message_text messages)
backend_parts (entry.Flagged mailbox rows) = (kind.Flagged, sized_text mailbox ++ list_text row_text rows)
backend_parts (entry.Gone mailbox uids) = (kind.Gone, sized_text mailbox ++ list_text number_text uids)
backend_parts (entry.Closing mailbox) = (kind.Closing, sized_text mailbox)
backend_parts (entry.Begun mailbox giver serial acl) = (kind.Begun, sized_text mailbox ++ (sized_text giver ++ (number_text serial ++ sized_text acl)))
backend_parts (entry.Took mailbox changes) = (kind.Took, sized_text mailbox ++ list_text change.text changes)
backend_parts (entry.Ready mailbox next) = (kind.Ready, sized_text mailbox ++ number_text next)
backend_parts (entry.Pointer mailbox server) = (kind.Pointer, sized_text mailbox ++ sized_text server)
backend_parts (entry.Forget mailboxes) = (kind.Forget, list_text sized_text mailboxes)

abbrev pub kind_of_backend : BackendRecord → BackendKind
kind_of_backend it = (backend_parts it).0

abbrev pub backend_fields : BackendRecord → List ℕ
backend_fields it = (backend_parts it).1

-- the fields behind each kind
unfoldable pub backend_of : BackendKind → Form BackendRecord
backend_of kind.Make = made (λ x. entry.Make x.0 x.1.0 x.1.1) backend_fields (name and (number and text))
backend_of kind.Opened = made entry.Opened backend_fields name
backend_of kind.Added = made (λ x. entry.Added x.0 x.1) backend_fields (name and list message)
backend_of kind.Flagged = made (λ x. entry.Flagged x.0 x.1) backend_fields (name and list row)
backend_of kind.Gone = made (λ x. entry.Gone x.0 x.1) backend_fields (name and list number)
backend_of kind.Closing = made entry.Closing backend_fields name
backend_of kind.Begun = made (λ x. entry.Begun x.0 x.1.0 x.1.1.0 x.1.1.1) backend_fields (name and (node and (number and text)))
backend_of kind.Took = made (λ x. entry.Took x.0 x.1) backend_fields (name and list change)
backend_of kind.Ready = made (λ x. entry.Ready x.0 x.1) backend_fields (name and number)
backend_of kind.Pointer = made (λ x. entry.Pointer x.0 x.1) backend_fields (name and node)
backend_of kind.Forget = made entry.Forget backend_fields (list name)

abbrev pub backend_entry : Form BackendRecord
backend_entry = dispatch backend_kinds kind_of_backend backend_of
