-- A FETCH of a body that was answered OK left \Seen where the mailbox was selected to be changed; any other changed nothing.
use Rattle.std.proofs.Common.{◌≡◌, ℕ, Bool, true, false, ◌&&◌, if◌then◌else◌, List, [], Option, Some}
use Rattle.std.proofs.Common.{refl, sym, ◌∙◌, subst, inl, inr, ⊎_elim}
use Rattle.std.specs.Prelude.{◌↔◌, IfSome}
use Rattle.std.specs.List.{list_any}
use Rattle.mail_message.specs.Boxes.{Content}
use Rattle.mail_message.specs.FlagSets.{Flags, flags_after}
use Rattle.mail_message.specs.declared.flag_name.FlagName.{FlagName}
use Rattle.mail_message.specs.declared.flag_name.FlagName.TheVariants.{System, Keyword}
use Rattle.mail_message.specs.declared.item.Item.{Item}
use Rattle.mail_message.specs.declared.mode.Mode.TheVariants.{Add}
use Rattle.mail_message.specs.declared.set.SetPart.{SetPart}
use Rattle.mail_message.specs.declared.system_flags.SystemFlag.TheVariants.{Answered, Flagged, Deleted, Seen, Draft}
use Rattle.mail_store.specs.Store.{stored}
use Rattle.imap_types.specs.declared.command.Command.TheVariants as command
use Rattle.imap_types.specs.declared.reply.BadText.TheVariants.{Message as no_message, State}
use Rattle.imap_types.specs.declared.reply.Code.{Code}
use Rattle.imap_types.specs.declared.reply.Verdict.TheVariants.{Ok as ok_reply}
use Rattle.mur_model.specs.declared.commands.fetch.Fetching.{Fetching}
use Rattle.mur_model.specs.declared.session.Sess.{Sess}
use Rattle.mur_model.specs.declared.session.Sess.TheVariants.{Off, In, Selected as selected, Ended}
use Rattle.mur_model.specs.declared.setting.Setting.{Setting}
use Rattle.mur_model.specs.declared.store.Store.{Store}
use Rattle.mur_model.specs.declared.view.View.{View}
use Rattle.mur_model.specs.declared.work.ViewWork.TheVariants as work
use Rattle.mur_model.specs.Act.{act_of, need_of, need_selected, need_taken}
use Rattle.mur_model.specs.Fetch.{each_once, fetch, fetch_named, is_body, seen_flags}
use Rattle.mur_model.specs.Left.{Left, Worked, kept, changed, store_after}
use Rattle.mur_model.specs.NamedRows.{named_uids, names_messages}
use Rattle.mur_model.specs.Needed.{no_such_number}
use Rattle.mur_model.specs.Store.{box_at, with_box}
use Rattle.mur_model.specs.Traits.{is_in, may_be, traits_of}
use Rattle.mur_model.specs.Viewing.{work_there}
use Rattle.store_law.specs.DoneIsDone.{AreSeen, AsksBody, Fetches, IsDone, Relabels}
use Rattle.store_law.specs.FlagByFlag.{HasFlag}
use Rattle.store_law.specs.SetNames.{Names}
use Rattle.store_law.proofs.BodiesAsked.{asked_line, line_asked}
use Rattle.store_law.proofs.ContainsLaws.{none_there}
use Rattle.store_law.proofs.DoneAtBox.{Does, DoesThere, bad_does, box_becomes, either_does, view_does}
use Rattle.store_law.proofs.FlagByFlag.{added}
use Rattle.store_law.proofs.MessagesDone.{stored_relabels}
use Rattle.store_law.proofs.RisingStores.{Rises}
use Rattle.store_law.proofs.SetNames.{named_taken, taken_named}

-- ---- \Seen

seen_alone : (flag : FlagName) → HasFlag seen_flags flag ↔ (flag ≡ System Seen)
seen_alone (System Answered) = (λ is. cc, λ is. cc)
seen_alone (System Flagged) = (λ is. cc, λ is. cc)
seen_alone (System Deleted) = (λ is. cc, λ is. cc)
seen_alone (System Seen) = (λ is. refl, λ is. refl)
seen_alone (System Draft) = (λ is. cc, λ is. cc)
seen_alone (Keyword keyword) = (λ is. absurd (none_there keyword is), λ is. absurd (cc))

are_seen : (old : Flags) → AreSeen old (flags_after Add old seen_flags)
are_seen old flag =
    let stored = added old seen_flags flag in
    let alone = seen_alone flag in (
      λ has. ⊎_elim (λ (had : HasFlag old flag). inl had) (λ (listed : HasFlag seen_flags flag). inr (alone.0 listed)) (stored.0 has),
      λ it. stored.1 (⊎_elim (λ (had : HasFlag old flag). inl had) (λ (is : flag ≡ System Seen). inr (alone.1 is)) it),
    )

-- ---- at the mailbox

module _ (store : Store) (rises : (name : List ℕ) → IfSome (box_at store name) Rises) (serial : ℕ) (code : Code) (name : List ℕ)
    (by_uid : Bool) (set : List SetPart) (items : List Item) where
  module _ (view : View) where
    abbrev IsFetched : Store → Type 0
    IsFetched later = Fetches (Names by_uid set view.rows) items view store later

    abbrev uids : List ℕ
    uids = named_uids by_uid set view.rows

    there_rises : (box : Content) → box_at store view.name ≡ Some box → Rises box
    there_rises box at = subst (λ (f : Option Content). IfSome f Rises) at (rises view.name)

    seen_there : (box : Content) → box_at store view.name ≡ Some box → box.serial ≡ view.serial → view.is_writable ≡ true → AsksBody items
        → IsFetched (with_box store view.name (stored box uids Add seen_flags))
    seen_there box at same writable body = record {
      seen = λ _ _. box_becomes (Relabels (Names by_uid set view.rows) AreSeen) view store box (stored box uids Add seen_flags) at same
          (stored_relabels (Names by_uid set view.rows) AreSeen box uids Add seen_flags (there_rises box at) (named_taken by_uid set view.rows)
          (taken_named by_uid set view.rows) are_seen);
      unseen = ⊎_elim (λ (closed : view.is_writable ≡ false). absurd (let both : true ≡ false = sym writable ∙ closed in cc))
          (λ (none : AsksBody items → ⊥). absurd (none body));
    }

    unseen_there : ((view.is_writable ≡ true) → AsksBody items → ⊥) → IsFetched store
    unseen_there none = record { seen = λ writable body. absurd (none writable body); unseen = λ _. refl }

    -- by whether the mailbox was selected to be changed, and a body is told
    left_there : (box : Content) → box_at store view.name ≡ Some box → box.serial ≡ view.serial → (writable body : Bool) → view.is_writable ≡ writable
        → list_any is_body (each_once [] items) ≡ body → (one other : Worked) → one.left ≡ changed (stored box uids Add seen_flags) → other.left ≡ kept
        → IsFetched (store_after store view.name (if writable && body then one else other).left)
    unfolding store_after
    left_there box at same true true w b one other is is_other =
        subst (λ (left : Left). IsFetched (store_after store view.name left)) (sym is) (seen_there box at same w (line_asked items b))
    left_there box at same true false w b one other is is_other =
        subst (λ (left : Left). IsFetched (store_after store view.name left)) (sym is_other)
        (unseen_there (λ writable asks. let both : false ≡ true = sym b ∙ asked_line items asks in cc))
    left_there box at same false body w b one other is is_other =
        subst (λ (left : Left). IsFetched (store_after store view.name left)) (sym is_other)
        (unseen_there (λ writable asks. let both : false ≡ true = sym w ∙ writable in cc))

    abbrev fetching : Fetching
    fetching = record { by_uid = by_uid; uids = uids; items = each_once [] items }

    fetch_there : DoesThere store (selected view) serial code name IsFetched view (work.Fetch fetching)
    unfolding work_there
    fetch_there box at same is =
        left_there box at same view.is_writable (list_any is_body (each_once [] items)) refl refl _ _ refl refl

    fetch_does : Does store (selected view) serial code name IsFetched (fetch view by_uid set items)
    fetch_does =
        either_does store (selected view) serial code name IsFetched (names_messages view by_uid set) (fetch_named view by_uid set items) no_such_number
        (λ _. view_does store (selected view) serial code name IsFetched view (work.Fetch fetching) fetch_there)
        (λ _. bad_does store (selected view) serial code name IsFetched no_message)

  pub fetch_done : (setting : Setting) (session : Sess)
      → (act_of setting store session (command.Fetch by_uid set items) serial).reply.verdict ≡ ok_reply code name
      → IsDone session (command.Fetch by_uid set items) store (act_of setting store session (command.Fetch by_uid set items) serial).store
  unfolding act_of need_of need_taken need_selected is_in may_be traits_of
  fetch_done setting Off is = bad_does store Off serial code name (λ later. ⊥) State is
  fetch_done setting (In user) is = bad_does store (In user) serial code name (λ later. ⊥) State is
  fetch_done setting (selected view) is = fetch_does view is
  fetch_done setting Ended is = bad_does store Ended serial code name (λ later. ⊥) State is
