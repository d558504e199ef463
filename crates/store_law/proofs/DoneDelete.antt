-- A DELETE that was answered OK took away the mailbox that its text means.
use Rattle.std.proofs.Common.{◌≡◌, ℕ, Bool, true, false, List, Option, None, Some, refl}
use Rattle.mail_message.specs.Boxes.{Content}
use Rattle.mur_base.specs.Inbox.{taken_name}
use Rattle.mur_base.specs.Names.{mail_name_fault}
use Rattle.mur_base.specs.declared.name.NameFault.{NameFault}
use Rattle.imap_types.specs.declared.command.Command.TheVariants as command
use Rattle.imap_types.specs.declared.reply.BadText.TheVariants.{State}
use Rattle.imap_types.specs.declared.reply.Code.{Code}
use Rattle.imap_types.specs.declared.reply.NoText.TheVariants.{Cannot, NonExistent}
use Rattle.imap_types.specs.declared.reply.Verdict.TheVariants.{Ok as ok_reply}
use Rattle.mur_model.specs.declared.session.Sess.{Sess}
use Rattle.mur_model.specs.declared.session.Sess.TheVariants.{Off, In, Selected as selected, Ended}
use Rattle.mur_model.specs.declared.setting.Setting.{Setting}
use Rattle.mur_model.specs.declared.store.Store.{Store}
use Rattle.mur_model.specs.Act.{act_by, act_of, need_begun, need_in, need_of, need_selected, need_taken, work_on}
use Rattle.mur_model.specs.Create.{is_inbox}
use Rattle.mur_model.specs.Delete.{delete, delete_as, delete_by, delete_on}
use Rattle.mur_model.specs.Left.{store_after}
use Rattle.mur_model.specs.Rights.{has_rights}
use Rattle.mur_model.specs.Store.{box_at}
use Rattle.mur_model.specs.Traits.{is_in, may_be, traits_of}
use Rattle.mur_model.proofs.BoxGone.{box_gone}
use Rattle.store_law.specs.Appended.{name_meant}
use Rattle.store_law.specs.DoneIsDone.{IsDone, IsRemoved}
use Rattle.store_law.proofs.DoneAtBox.{Does, bad_does, no_does}

module _ (store : Store) (session : Sess) (serial : ℕ) (code : Code) (command_name : List ℕ) where
  on_done : (name : List ℕ) (found : Option Content) → box_at store name ≡ found → (delete_on found).turn.reply.verdict ≡ ok_reply code command_name
      → IsRemoved name store (store_after store name (delete_on found).left)
  unfolding delete_on store_after
  on_done name None at is = cc
  on_done name (Some box) at is = record { was = rw at refl; gone = box_gone store name }

  by_does : (name : List ℕ) (may : Bool) → Does store session serial code command_name (IsRemoved name store) (delete_by name may)
  unfolding delete_by act_by work_on
  by_does name true is = on_done name (box_at store name) refl is
  by_does name false is = cc

  as_does : (setting : Setting) (user name : List ℕ) (inbox : Bool) (fault : Option NameFault)
      → Does store session serial code command_name (IsRemoved name store) (delete_as setting user name inbox fault)
  unfolding delete_as
  as_does setting user name true fault = no_does store session serial code command_name (IsRemoved name store) Cannot
  as_does setting user name false (Some fault) = no_does store session serial code command_name (IsRemoved name store) NonExistent
  as_does setting user name false None = by_does name (has_rights setting.users user name)

  delete_does : (setting : Setting) (user text : List ℕ)
      → Does store session serial code command_name (IsRemoved (taken_name user text) store) (delete setting user text)
  unfolding delete
  delete_does setting user text = as_does setting user (taken_name user text) (is_inbox text) (mail_name_fault (taken_name user text))

pub delete_done : (store : Store) (serial : ℕ) (code : Code) (name : List ℕ) (text : List ℕ) (setting : Setting) (session : Sess)
    → (act_of setting store session (command.Delete text) serial).reply.verdict ≡ ok_reply code name
    → IsDone session (command.Delete text) store (act_of setting store session (command.Delete text) serial).store
unfolding act_of need_of need_taken need_in need_selected need_begun is_in may_be traits_of name_meant
delete_done store serial code name text setting Off is = bad_does store Off serial code name (λ later. ⊥) State is
delete_done store serial code name text setting (In user) is = delete_does store (In user) serial code name setting user text is
delete_done store serial code name text setting (selected view) is = delete_does store (selected view) serial code name setting view.user text is
delete_done store serial code name text setting Ended is = bad_does store Ended serial code name (λ later. ⊥) State is
