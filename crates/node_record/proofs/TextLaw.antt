-- How the fields of an entry are written does not hang on its kind.
use Rattle.std.proofs.Common.{◌≡◌, refl}
use Rattle.mail_message.specs.declared.change.Change.{Change}
use Rattle.node_record.specs.declared.change.ChangeKind.{ChangeKind}
use Rattle.node_record.specs.declared.change.ChangeKind.TheVariants as of_change
use Rattle.node_record.specs.declared.master.MasterRecord.{MasterRecord}
use Rattle.node_record.specs.declared.master.MasterKind.{MasterKind}
use Rattle.node_record.specs.declared.master.MasterKind.TheVariants as of_master
use Rattle.node_record.specs.declared.backend.BackendRecord.{BackendRecord}
use Rattle.node_record.specs.declared.backend.BackendKind.{BackendKind}
use Rattle.node_record.specs.declared.backend.BackendKind.TheVariants as of_backend
use Rattle.node_record.specs.Messages.{change_of, change_fields}
use Rattle.node_record.specs.MasterEntries.{master_of, master_fields}
use Rattle.node_record.specs.BackendEntries.{backend_of, backend_fields}

pub change_text : (k : ChangeKind) (it : Change) → (change_of k).text it ≡ change_fields it
unfolding Rattle.node_record.specs.Messages.change_of
change_text of_change.Put it = refl
change_text of_change.SetFlags it = refl
change_text of_change.Gone it = refl
change_text of_change.NextUid it = refl

pub master_text : (k : MasterKind) (it : MasterRecord) → (master_of k).text it ≡ master_fields it
unfolding Rattle.node_record.specs.MasterEntries.master_of
master_text of_master.Reserved it = refl
master_text of_master.Active it = refl
master_text of_master.Inactive it = refl
master_text of_master.Deleted it = refl

pub backend_text : (k : BackendKind) (it : BackendRecord) → (backend_of k).text it ≡ backend_fields it
unfolding Rattle.node_record.specs.BackendEntries.backend_of
backend_text of_backend.Make it = refl
backend_text of_backend.Opened it = refl
backend_text of_backend.Added it = refl
backend_text of_backend.Flagged it = refl
backend_text of_backend.Gone it = refl
backend_text of_backend.Closing it = refl
backend_text of_backend.Begun it = refl
backend_text of_backend.Took it = refl
backend_text of_backend.Ready it = refl
backend_text of_backend.Pointer it = refl
backend_text of_backend.Forget it = refl
