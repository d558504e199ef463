-- The entries of a backend's disk: each has one text.
use Rattle.std.proofs.Common.{◌≡◌, ℕ, List, [], ◌∷◌, length, true, refl}
use Rattle.grammar.specs.Part.{between}
use Rattle.grammar.specs.Forms.{Form, ◌and◌, made}
use Rattle.node_record.specs.declared.backend.BackendRecord.{BackendRecord}
use Rattle.node_record.specs.declared.backend.BackendRecord.TheVariants as backend
use Rattle.node_record.specs.declared.backend.BackendKind.{BackendKind}
use Rattle.node_record.specs.declared.backend.BackendKind.TheVariants as of_backend
use Rattle.node_record.specs.Parts.{number, text, name, node, list, kind_from}
use Rattle.node_record.specs.Messages.{message, row, change}
use Rattle.node_record.specs.BackendEntries.{backend_entry, backend_kinds, backend_number, all_backend_kinds, backend_of, backend_fields, backend_parts, kind_of_backend}
use Rattle.node_record.specs.Ruled.{IsNumber, IsName, IsMessage, IsRow, IsChange, IsBackendRecord}
use Rattle.node_record.proofs.StoredLaw.{Stored, Branch, branch, spell_made, stored_and, stored_dispatch}
use Rattle.node_record.proofs.PartsLaw.{stored_number, stored_text, stored_name, stored_node, stored_list, stored_kind}
use Rattle.node_record.proofs.ChangesLaw.{stored_message, stored_row, stored_change}

-- by kind

backend_branch : (k : BackendKind) → Branch (λ it. IsBackendRecord it × (kind_of_backend it ≡ k)) (backend_of k)
unfolding backend_of backend_parts
backend_branch of_backend.Make =
    branch (λ it. IsBackendRecord it × (kind_of_backend it ≡ of_backend.Make)) (λ x. backend.Make x.0 x.1.0 x.1.1) backend_fields (name and (number and text)) (stored_and name (number and text) stored_name (stored_and number text stored_number stored_text)) (λ x is. (refl, (is, refl)))
backend_branch of_backend.Opened =
    branch (λ it. IsBackendRecord it × (kind_of_backend it ≡ of_backend.Opened)) backend.Opened backend_fields name stored_name (λ x is. (refl, (is, refl)))
backend_branch of_backend.Added =
    branch (λ it. IsBackendRecord it × (kind_of_backend it ≡ of_backend.Added)) (λ x. backend.Added x.0 x.1) backend_fields (name and (list message)) (stored_and name (list message) stored_name (stored_list IsMessage message stored_message)) (λ x is. (refl, (is, refl)))
backend_branch of_backend.Flagged =
    branch (λ it. IsBackendRecord it × (kind_of_backend it ≡ of_backend.Flagged)) (λ x. backend.Flagged x.0 x.1) backend_fields (name and (list row)) (stored_and name (list row) stored_name (stored_list IsRow row stored_row)) (λ x is. (refl, (is, refl)))
backend_branch of_backend.Gone =
    branch (λ it. IsBackendRecord it × (kind_of_backend it ≡ of_backend.Gone)) (λ x. backend.Gone x.0 x.1) backend_fields (name and (list number)) (stored_and name (list number) stored_name (stored_list IsNumber number stored_number)) (λ x is. (refl, (is, refl)))
backend_branch of_backend.Closing =
    branch (λ it. IsBackendRecord it × (kind_of_backend it ≡ of_backend.Closing)) backend.Closing backend_fields name stored_name (λ x is. (refl, (is, refl)))
backend_branch of_backend.Begun =
    branch (λ it. IsBackendRecord it × (kind_of_backend it ≡ of_backend.Begun)) (λ x. backend.Begun x.0 x.1.0 x.1.1.0 x.1.1.1) backend_fields (name and (node and (number and text))) (stored_and name (node and (number and text)) stored_name (stored_and node (number and text) stored_node (stored_and number text stored_number stored_text))) (λ x is. (refl, (is, refl)))
backend_branch of_backend.Took =
    branch (λ it. IsBackendRecord it × (kind_of_backend it ≡ of_backend.Took)) (λ x. backend.Took x.0 x.1) backend_fields (name and (list change)) (stored_and name (list change) stored_name (stored_list IsChange change stored_change)) (λ x is. (refl, (is, refl)))
backend_branch of_backend.Ready =
    branch (λ it. IsBackendRecord it × (kind_of_backend it ≡ of_backend.Ready)) (λ x. backend.Ready x.0 x.1) backend_fields (name and number) (stored_and name number stored_name stored_number) (λ x is. (refl, (is, refl)))
backend_branch of_backend.Pointer =
    branch (λ it. IsBackendRecord it × (kind_of_backend it ≡ of_backend.Pointer)) (λ x. backend.Pointer x.0 x.1) backend_fields (name and node) (stored_and name node stored_name stored_node) (λ x is. (refl, (is, refl)))
backend_branch of_backend.Forget =
    branch (λ it. IsBackendRecord it × (kind_of_backend it ≡ of_backend.Forget)) backend.Forget backend_fields (list name) (stored_list IsName name stored_name) (λ x is. (refl, (is, refl)))

backend_all : (it : BackendRecord) → IsBackendRecord it → (backend_of (kind_of_backend it)).part.lang ((backend_of (kind_of_backend it)).text it) it
unfolding backend_of backend_parts
backend_all (backend.Make mailbox serial acl) is = spell_made (λ x. backend.Make x.0 x.1.0 x.1.1) backend_fields (name and (number and text)) (stored_and name (number and text) stored_name (stored_and number text stored_number stored_text)) (mailbox, (serial, acl)) is refl
backend_all (backend.Opened mailbox) is = spell_made backend.Opened backend_fields name stored_name mailbox is refl
backend_all (backend.Added mailbox messages) is = spell_made (λ x. backend.Added x.0 x.1) backend_fields (name and (list message)) (stored_and name (list message) stored_name (stored_list IsMessage message stored_message)) (mailbox, messages) is refl
backend_all (backend.Flagged mailbox rows) is = spell_made (λ x. backend.Flagged x.0 x.1) backend_fields (name and (list row)) (stored_and name (list row) stored_name (stored_list IsRow row stored_row)) (mailbox, rows) is refl
backend_all (backend.Gone mailbox uids) is = spell_made (λ x. backend.Gone x.0 x.1) backend_fields (name and (list number)) (stored_and name (list number) stored_name (stored_list IsNumber number stored_number)) (mailbox, uids) is refl
backend_all (backend.Closing mailbox) is = spell_made backend.Closing backend_fields name stored_name mailbox is refl
backend_all (backend.Begun mailbox giver serial acl) is = spell_made (λ x. backend.Begun x.0 x.1.0 x.1.1.0 x.1.1.1) backend_fields (name and (node and (number and text))) (stored_and name (node and (number and text)) stored_name (stored_and node (number and text) stored_node (stored_and number text stored_number stored_text))) (mailbox, (giver, (serial, acl))) is refl
backend_all (backend.Took mailbox changes) is = spell_made (λ x. backend.Took x.0 x.1) backend_fields (name and (list change)) (stored_and name (list change) stored_name (stored_list IsChange change stored_change)) (mailbox, changes) is refl
backend_all (backend.Ready mailbox next) is = spell_made (λ x. backend.Ready x.0 x.1) backend_fields (name and number) (stored_and name number stored_name stored_number) (mailbox, next) is refl
backend_all (backend.Pointer mailbox server) is = spell_made (λ x. backend.Pointer x.0 x.1) backend_fields (name and node) (stored_and name node stored_name stored_node) (mailbox, server) is refl
backend_all (backend.Forget mailboxes) is = spell_made backend.Forget backend_fields (list name) (stored_list IsName name stored_name) mailboxes is refl

backend_kind : Stored (λ _. Unit {0}) backend_kinds
backend_kind = stored_kind backend_number of_backend.Forget all_backend_kinds refl refl each
  where
    each : (k : BackendKind) → (between 1 (length all_backend_kinds) (backend_number k) ≡ true) × (kind_from 1 of_backend.Forget all_backend_kinds (backend_number k) ≡ k)
    each of_backend.Make = (refl, refl)
    each of_backend.Opened = (refl, refl)
    each of_backend.Added = (refl, refl)
    each of_backend.Flagged = (refl, refl)
    each of_backend.Gone = (refl, refl)
    each of_backend.Closing = (refl, refl)
    each of_backend.Begun = (refl, refl)
    each of_backend.Took = (refl, refl)
    each of_backend.Ready = (refl, refl)
    each of_backend.Pointer = (refl, refl)
    each of_backend.Forget = (refl, refl)

pub stored_backend : Stored IsBackendRecord backend_entry
stored_backend = stored_dispatch IsBackendRecord backend_kinds kind_of_backend backend_of backend_kind backend_branch backend_all
