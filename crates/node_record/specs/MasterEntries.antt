-- The entries of the master's disk: a kind, which is one byte, and its fields.
use Rattle.std.specs.Prelude.{ℕ, List, [], ◌∷◌, ◌++◌}
use Rattle.grammar.specs.Forms.{Form, ◌and◌, dispatch, made}
use Rattle.node_record.specs.declared.master.MasterRecord.{MasterRecord}
use Rattle.node_record.specs.declared.master.MasterRecord.TheVariants as entry
use Rattle.node_record.specs.declared.master.MasterKind.{MasterKind}
use Rattle.node_record.specs.declared.master.MasterKind.TheVariants as kind
use Rattle.node_record.specs.Parts.{number, number_text, text, sized_text, name, place, place_text, kind_byte}

abbrev pub master_number : MasterKind → ℕ
master_number kind.Reserved = 1
master_number kind.Active = 2
master_number kind.Inactive = 3
master_number kind.Deleted = 4

abbrev pub master_kinds : Form MasterKind
master_kinds = kind_byte master_number kind.Deleted (kind.Reserved ∷ kind.Active ∷ kind.Inactive ∷ kind.Deleted ∷ [])

-- the kind of each entry, and the text of its fields
unfoldable pub master_parts : MasterRecord → MasterKind × List ℕ
master_parts (entry.Reserved mailbox at serial) = (kind.Reserved, sized_text mailbox ++ (place_text at ++ number_text serial))
master_parts (entry.Active mailbox at acl) = (kind.Active, sized_text mailbox ++ (place_text at ++ sized_text acl))
master_parts (entry.Inactive mailbox at) = (kind.Inactive, sized_text mailbox ++ place_text at)
master_parts (entry.Deleted mailbox) = (kind.Deleted, sized_text mailbox)

abbrev pub kind_of_master : MasterRecord → MasterKind
kind_of_master it = (master_parts it).0

abbrev pub master_fields : MasterRecord → List ℕ
master_fields it = (master_parts it).1

-- the fields behind each kind
unfoldable pub master_of : MasterKind → Form MasterRecord
master_of kind.Reserved = made (λ x. entry.Reserved x.0 x.1.0 x.1.1) master_fields (name and (place and number))
master_of kind.Active = made (λ x. entry.Active x.0 x.1.0 x.1.1) master_fields (name and (place and text))
master_of kind.Inactive = made (λ x. entry.Inactive x.0 x.1) master_fields (name and place)
master_of kind.Deleted = made entry.Deleted master_fields name

abbrev pub master_entry : Form MasterRecord
master_entry = dispatch master_kinds kind_of_master master_of
