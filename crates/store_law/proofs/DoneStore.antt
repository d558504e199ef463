-- A STORE that was answered OK gave each named message the flags that its mode says, and no other message others.
use Rattle.std.proofs.Common.{◌≡◌, ℕ, Bool, true, false, List, Option, Some, subst}
use Rattle.std.specs.Prelude.{IfSome, if◌then◌else◌}
use Rattle.mail_message.specs.Boxes.{Content}
use Rattle.mail_message.specs.FlagSets.{Flags}
use Rattle.mail_message.specs.declared.mode.Mode.{Mode}
use Rattle.mail_message.specs.declared.set.SetPart.{SetPart}
use Rattle.mail_store.specs.Store.{has_too_many_flags, rows_stored, stored}
use Rattle.imap_types.specs.declared.command.Command.TheVariants as command
use Rattle.imap_types.specs.declared.reply.BadText.TheVariants.{Message as no_message, State}
use Rattle.imap_types.specs.declared.reply.Code.{Code}
use Rattle.imap_types.specs.declared.reply.NoText.TheVariants.{Cannot}
use Rattle.imap_types.specs.declared.reply.Verdict.TheVariants.{Ok as ok_reply}
use Rattle.mur_model.specs.declared.commands.store.FlagStore.{FlagStore}
use Rattle.mur_model.specs.declared.session.Sess.{Sess}
use Rattle.mur_model.specs.declared.session.Sess.TheVariants.{Off, In, Selected as selected, Ended}
use Rattle.mur_model.specs.declared.setting.Setting.{Setting}
use Rattle.mur_model.specs.declared.store.Store.{Store}
use Rattle.mur_model.specs.declared.view.View.{View}
use Rattle.mur_model.specs.declared.work.ViewWork.TheVariants as work
use Rattle.mur_model.specs.Act.{act_of, need_of, need_selected, need_taken}
use Rattle.mur_model.specs.Left.{store_after}
use Rattle.mur_model.specs.NamedRows.{named_uids, names_messages}
use Rattle.mur_model.specs.Needed.{no_such_number, read_only}
use Rattle.mur_model.specs.Store.{box_at, with_box}
use Rattle.mur_model.specs.StoreFlags.{store as store_need, store_named, stored_at}
use Rattle.mur_model.specs.Traits.{is_in, may_be, traits_of}
use Rattle.mur_model.specs.Viewing.{work_there}
use Rattle.store_law.specs.DoneIsDone.{BoxBecomes, IsDone, Relabels}
use Rattle.store_law.specs.FlagByFlag.{AreStored}
use Rattle.store_law.specs.SetNames.{Names}
use Rattle.store_law.proofs.DoneAtBox.{Does, DoesThere, bad_does, box_becomes, either_does, no_does, view_does}
use Rattle.store_law.proofs.FlagByFlag.{are_stored}
use Rattle.store_law.proofs.MessagesDone.{stored_relabels}
use Rattle.store_law.proofs.RisingStores.{Rises}
use Rattle.store_law.proofs.SetNames.{named_taken, taken_named}

-- a STORE that a limit refuses isn't answered OK
refused_not : (view : View) (it : FlagStore) (box : Content) (code : Code) (name : List ℕ)
    → (stored_at view it box true).turn.reply.verdict ≡ ok_reply code name → ⊥
refused_not view it box code name is = cc

stored_left : (Q : Store → Type 0) (store : Store) (view : View) (it : FlagStore) (box : Content) (code : Code) (name : List ℕ)
    → Q (with_box store view.name (stored box it.uids it.mode it.flags)) → (many : Bool)
    → (stored_at view it box many).turn.reply.verdict ≡ ok_reply code name → Q (store_after store view.name (stored_at view it box many).left)
unfolding store_after
stored_left Q store view it box code name done true is = absurd (refused_not view it box code name is)
stored_left Q store view it box code name done false is = done

module _ (store : Store) (rises : (name : List ℕ) → IfSome (box_at store name) Rises) (serial : ℕ) (code : Code) (name : List ℕ)
    (by_uid : Bool) (set : List SetPart) (mode : Mode) (is_silent : Bool) (flags : Flags) where
  module _ (view : View) where
    abbrev IsStored : Store → Type 0
    IsStored later = BoxBecomes (Relabels (Names by_uid set view.rows) (AreStored mode flags)) view store later

    abbrev asked : FlagStore
    asked = record { by_uid = by_uid; uids = named_uids by_uid set view.rows; mode = mode; is_silent = is_silent; flags = flags }

    stored_now : (box : Content) → Rises box → box_at store view.name ≡ Some box → box.serial ≡ view.serial
        → IsStored (with_box store view.name (stored box (named_uids by_uid set view.rows) mode flags))
    stored_now box rising at same =
        box_becomes (Relabels (Names by_uid set view.rows) (AreStored mode flags)) view store box (stored box (named_uids by_uid set view.rows) mode flags)
        at same
        (stored_relabels (Names by_uid set view.rows) (AreStored mode flags) box (named_uids by_uid set view.rows) mode flags rising
        (named_taken by_uid set view.rows) (taken_named by_uid set view.rows) (λ old. are_stored mode old flags))

    there_rises : (box : Content) → box_at store view.name ≡ Some box → Rises box
    there_rises box at = subst (λ (f : Option Content). IfSome f Rises) at (rises view.name)

    named_does : Does store (selected view) serial code name IsStored (store_named view by_uid set mode is_silent flags)
    unfolding work_there
    named_does = view_does store (selected view) serial code name IsStored view (work.Store asked) there
      where
        there : DoesThere store (selected view) serial code name IsStored view (work.Store asked)
        there box at same is =
            stored_left IsStored store view asked box code name (stored_now box (there_rises box at) at same)
            (has_too_many_flags (rows_stored box (named_uids by_uid set view.rows) mode flags)) is

    store_does : Does store (selected view) serial code name IsStored (store_need view by_uid set mode is_silent flags)
    store_does =
        let one = store_named view by_uid set mode is_silent flags in
        either_does store (selected view) serial code name IsStored (names_messages view by_uid set) (if view.is_writable then one else read_only)
        no_such_number
        (λ _. either_does store (selected view) serial code name IsStored view.is_writable one read_only (λ _. named_does)
        (λ _. no_does store (selected view) serial code name IsStored Cannot))
        (λ _. bad_does store (selected view) serial code name IsStored no_message)

  pub store_done : (setting : Setting) (session : Sess)
      → (act_of setting store session (command.Store by_uid set mode is_silent flags) serial).reply.verdict ≡ ok_reply code name
      → IsDone session (command.Store by_uid set mode is_silent flags) store
      (act_of setting store session (command.Store by_uid set mode is_silent flags) serial).store
  unfolding act_of need_of need_taken need_selected is_in may_be traits_of
  store_done setting Off is = bad_does store Off serial code name (λ later. ⊥) State is
  store_done setting (In user) is = bad_does store (In user) serial code name (λ later. ⊥) State is
  store_done setting (selected view) is = store_does view is
  store_done setting Ended is = bad_does store Ended serial code name (λ later. ⊥) State is
