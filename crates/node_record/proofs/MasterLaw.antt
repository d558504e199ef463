-- The entries of the master's disk: each has one text.
use Rattle.std.proofs.Common.{◌≡◌, ℕ, List, [], ◌∷◌, length, true, refl}
use Rattle.grammar.specs.Part.{between}
use Rattle.grammar.specs.Forms.{Form, ◌and◌, made}
use Rattle.node_record.specs.declared.master.MasterRecord.{MasterRecord}
use Rattle.node_record.specs.declared.master.MasterRecord.TheVariants as master
use Rattle.node_record.specs.declared.master.MasterKind.{MasterKind}
use Rattle.node_record.specs.declared.master.MasterKind.TheVariants as of_master
use Rattle.node_record.specs.Parts.{number, text, name, place, kind_from}
use Rattle.node_record.specs.MasterEntries.{master_entry, master_kinds, master_number, master_of, master_fields, master_parts, kind_of_master}
use Rattle.node_record.specs.Ruled.{IsMasterRecord}
use Rattle.node_record.proofs.StoredLaw.{Stored, Branch, branch, spell_made, stored_and, stored_dispatch}
use Rattle.node_record.proofs.PartsLaw.{stored_number, stored_text, stored_name, stored_place, stored_kind}

-- by kind

master_branch : (k : MasterKind) → Branch (λ it. IsMasterRecord it × (kind_of_master it ≡ k)) (master_of k)
unfolding master_of master_parts
master_branch of_master.Reserved =
    branch (λ it. IsMasterRecord it × (kind_of_master it ≡ of_master.Reserved)) (λ x. master.Reserved x.0 x.1.0 x.1.1) master_fields (name and (place and number)) (stored_and name (place and number) stored_name (stored_and place number stored_place stored_number)) (λ x is. (refl, (is, refl)))
master_branch of_master.Active =
    branch (λ it. IsMasterRecord it × (kind_of_master it ≡ of_master.Active)) (λ x. master.Active x.0 x.1.0 x.1.1) master_fields (name and (place and text)) (stored_and name (place and text) stored_name (stored_and place text stored_place stored_text)) (λ x is. (refl, (is, refl)))
master_branch of_master.Inactive =
    branch (λ it. IsMasterRecord it × (kind_of_master it ≡ of_master.Inactive)) (λ x. master.Inactive x.0 x.1) master_fields (name and place) (stored_and name place stored_name stored_place) (λ x is. (refl, (is, refl)))
master_branch of_master.Deleted =
    branch (λ it. IsMasterRecord it × (kind_of_master it ≡ of_master.Deleted)) master.Deleted master_fields name stored_name (λ x is. (refl, (is, refl)))

master_all : (it : MasterRecord) → IsMasterRecord it → (master_of (kind_of_master it)).part.lang ((master_of (kind_of_master it)).text it) it
unfolding master_of master_parts
master_all (master.Reserved mailbox at serial) is = spell_made (λ x. master.Reserved x.0 x.1.0 x.1.1) master_fields (name and (place and number)) (stored_and name (place and number) stored_name (stored_and place number stored_place stored_number)) (mailbox, (at, serial)) is refl
master_all (master.Active mailbox at acl) is = spell_made (λ x. master.Active x.0 x.1.0 x.1.1) master_fields (name and (place and text)) (stored_and name (place and text) stored_name (stored_and place text stored_place stored_text)) (mailbox, (at, acl)) is refl
master_all (master.Inactive mailbox at) is = spell_made (λ x. master.Inactive x.0 x.1) master_fields (name and place) (stored_and name place stored_name stored_place) (mailbox, at) is refl
master_all (master.Deleted mailbox) is = spell_made master.Deleted master_fields name stored_name mailbox is refl

master_kind : Stored (λ _. Unit {0}) master_kinds
master_kind = stored_kind master_number of_master.Deleted (of_master.Reserved ∷ of_master.Active ∷ of_master.Inactive ∷ of_master.Deleted ∷ []) refl refl each
  where
    each : (k : MasterKind) → (between 1 (length (of_master.Reserved ∷ of_master.Active ∷ of_master.Inactive ∷ of_master.Deleted ∷ [])) (master_number k) ≡ true) × (kind_from 1 of_master.Deleted (of_master.Reserved ∷ of_master.Active ∷ of_master.Inactive ∷ of_master.Deleted ∷ []) (master_number k) ≡ k)
    each of_master.Reserved = (refl, refl)
    each of_master.Active = (refl, refl)
    each of_master.Inactive = (refl, refl)
    each of_master.Deleted = (refl, refl)

pub stored_master : Stored IsMasterRecord master_entry
stored_master = stored_dispatch IsMasterRecord master_kinds kind_of_master master_of master_kind master_branch master_all
