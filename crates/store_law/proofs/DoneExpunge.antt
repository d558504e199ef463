-- An EXPUNGE, a UID EXPUNGE and a CLOSE of a mailbox that was selected to be changed, answered OK, left no named message with \Deleted, and took no other.
use Rattle.std.proofs.Common.{◌≡◌, ℕ, true, false, List, Option, None, Some, codes, sym, ◌∙◌, subst}
use Rattle.std.specs.Prelude.{IfSome}
use Rattle.mail_message.specs.Boxes.{Content}
use Rattle.mail_message.specs.declared.set.SetPart.{SetPart}
use Rattle.mail_store.specs.Expunge.{expunged}
use Rattle.imap_types.specs.declared.command.Command.TheVariants as command
use Rattle.imap_types.specs.declared.reply.BadText.TheVariants.{State}
use Rattle.imap_types.specs.declared.reply.Code.{Code}
use Rattle.imap_types.specs.declared.reply.NoText.TheVariants.{Cannot}
use Rattle.imap_types.specs.declared.reply.Verdict.TheVariants.{Ok as ok_reply}
use Rattle.mur_model.specs.declared.session.Sess.{Sess}
use Rattle.mur_model.specs.declared.session.Sess.TheVariants.{Off, In, Selected as selected, Ended}
use Rattle.mur_model.specs.declared.setting.Setting.{Setting}
use Rattle.mur_model.specs.declared.store.Store.{Store}
use Rattle.mur_model.specs.declared.view.View.{View}
use Rattle.mur_model.specs.declared.work.ViewWork.TheVariants as work
use Rattle.mur_model.specs.Act.{act_of, need_of, need_selected, need_taken}
use Rattle.mur_model.specs.Close.{close, left_by}
use Rattle.mur_model.specs.Expunge.{expunge, expunge_named}
use Rattle.mur_model.specs.Left.{changed, store_after}
use Rattle.mur_model.specs.NamedRows.{named_uids}
use Rattle.mur_model.specs.Needed.{Turned, at_mailbox, read_only}
use Rattle.mur_model.specs.Store.{box_at}
use Rattle.mur_model.specs.Traits.{is_in, may_be, traits_of}
use Rattle.mur_model.specs.Viewing.{work_there}
use Rattle.store_law.specs.DoneIsDone.{BoxBecomes, Everything, ExpungesNamed, IsDone}
use Rattle.store_law.specs.SetNames.{Names}
use Rattle.store_law.proofs.DoneAtBox.{Does, DoesThere, bad_does, box_becomes, either_does, no_does, view_does}
use Rattle.store_law.proofs.MessagesDone.{expunged_named}
use Rattle.store_law.proofs.NeedsFit.{IsMeant}
use Rattle.store_law.proofs.RisingStores.{Rises}
use Rattle.store_law.proofs.SetNames.{named_taken, taken_named}

module _ (store : Store) (rises : (name : List ℕ) → IfSome (box_at store name) Rises) (serial : ℕ) (code : Code) (name : List ℕ) where
  module _ (view : View) where
    abbrev IsExpunged : (ℕ → Type 0) → Store → Type 0
    IsExpunged IsNamed later = BoxBecomes (ExpungesNamed IsNamed) view store later

    there_rises : (box : Content) → box_at store view.name ≡ Some box → Rises box
    there_rises box at = subst (λ (f : Option Content). IfSome f Rises) at (rises view.name)

    took : (only : Option (List ℕ)) (IsNamed : ℕ → Type 0) → ((uid : ℕ) → IsNamed uid → IsMeant only uid) → ((uid : ℕ) → IsMeant only uid → IsNamed uid)
        → (box : Content) → box_at store view.name ≡ Some box → box.serial ≡ view.serial
        → IsExpunged IsNamed (store_after store view.name (changed (expunged box only)))
    unfolding store_after
    took only IsNamed meant named box at same =
        box_becomes (ExpungesNamed IsNamed) view store box (expunged box only) at same
        (expunged_named box only (there_rises box at) IsNamed meant named)

    named_does : (only : Option (List ℕ)) (IsNamed : ℕ → Type 0) → ((uid : ℕ) → IsNamed uid → IsMeant only uid)
        → ((uid : ℕ) → IsMeant only uid → IsNamed uid)
        → Does store (selected view) serial code name (IsExpunged IsNamed) (at_mailbox view (work.Expunge only))
    unfolding work_there
    named_does only IsNamed meant named =
        view_does store (selected view) serial code name (IsExpunged IsNamed) view (work.Expunge only) there
      where
        there : DoesThere store (selected view) serial code name (IsExpunged IsNamed) view (work.Expunge only)
        there box at same is = took only IsNamed meant named box at same

    all_does : Does store (selected view) serial code name (IsExpunged Everything) (expunge view None)
    all_does =
        either_does store (selected view) serial code name (IsExpunged Everything) view.is_writable (expunge_named view None) read_only
        (λ _. named_does None Everything (λ uid it. it) (λ uid it. it))
        (λ _. no_does store (selected view) serial code name (IsExpunged Everything) Cannot)

    set_does : (set : List SetPart) → Does store (selected view) serial code name (IsExpunged (Names true set view.rows)) (expunge view (Some set))
    set_does set =
        either_does store (selected view) serial code name (IsExpunged (Names true set view.rows)) view.is_writable (expunge_named view (Some set)) read_only
        (λ _. named_does (Some (named_uids true set view.rows)) (Names true set view.rows) (named_taken true set view.rows) (taken_named true set view.rows))
        (λ _. no_does store (selected view) serial code name (IsExpunged (Names true set view.rows)) Cannot)

    abbrev IsClosed : Store → Type 0
    IsClosed later = view.is_writable ≡ true → IsExpunged Everything later

    close_there : DoesThere store (selected view) serial code name IsClosed view work.Close
    unfolding work_there
    close_there box at same is = λ writable. took None Everything (λ uid it. it) (λ uid it. it) box at same

    close_does : Does store (selected view) serial code name IsClosed (close view)
    close_does =
        either_does store (selected view) serial code name IsClosed view.is_writable (at_mailbox view work.Close) (Turned (left_by view (codes "CLOSE")))
        (λ _. view_does store (selected view) serial code name IsClosed view work.Close close_there)
        (λ closed is writable. absurd (let both : false ≡ true = sym closed ∙ writable in cc))

  pub close_done : (setting : Setting) (session : Sess) → (act_of setting store session command.Close serial).reply.verdict ≡ ok_reply code name
      → IsDone session command.Close store (act_of setting store session command.Close serial).store
  unfolding act_of need_of need_taken need_selected is_in may_be traits_of
  close_done setting Off is = bad_does store Off serial code name (λ later. ⊥) State is
  close_done setting (In user) is = bad_does store (In user) serial code name (λ later. ⊥) State is
  close_done setting (selected view) is = close_does view is
  close_done setting Ended is = bad_does store Ended serial code name (λ later. ⊥) State is

  pub expunge_done : (only : Option (List SetPart)) (setting : Setting) (session : Sess)
      → (act_of setting store session (command.Expunge only) serial).reply.verdict ≡ ok_reply code name
      → IsDone session (command.Expunge only) store (act_of setting store session (command.Expunge only) serial).store
  unfolding act_of need_of need_taken need_selected is_in may_be traits_of
  expunge_done None setting Off is = bad_does store Off serial code name (λ later. ⊥) State is
  expunge_done None setting (In user) is = bad_does store (In user) serial code name (λ later. ⊥) State is
  expunge_done None setting (selected view) is = all_does view is
  expunge_done None setting Ended is = bad_does store Ended serial code name (λ later. ⊥) State is
  expunge_done (Some set) setting Off is = bad_does store Off serial code name (λ later. ⊥) State is
  expunge_done (Some set) setting (In user) is = bad_does store (In user) serial code name (λ later. ⊥) State is
  expunge_done (Some set) setting (selected view) is = set_does view set is
  expunge_done (Some set) setting Ended is = bad_does store Ended serial code name (λ later. ⊥) State is
