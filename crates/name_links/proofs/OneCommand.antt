-- What the master makes of each command about one name, by the record and the tests of the command in their order.
use Rattle.std.proofs.Common.{◌≡◌, ◌⊎◌, inl, inr, ℕ, ◌+◌, ◌==◌, nat_eq, nat_le, Bool, true, false, cond, List, [], ◌∷◌, Option, None, Some, refl, ap, ◌∙◌}
use Rattle.std.specs.Ordering.{nat_cmp}
use Rattle.std.specs.Cmp.Lexicographic.{slice_cmp, pointwise}
use Rattle.std.proofs.lemmas.Cmp.{nat_list_eq_equiv}
use Rattle.grammar.specs.Numbers.{decimal_text}
use Rattle.mur_base.specs.Map.{IsInOrder}
use Rattle.mur_base.proofs.MapLaws.{names_apart, value_at-with_entry, value_at-with_value}
use Rattle.mur_base.specs.declared.home.Location.{Location}
use Rattle.mur_base.specs.declared.limits.TheConstants.{MAILBOX_LIMIT}
use Rattle.node_record.specs.declared.master.MasterRecord.TheVariants as entry
use Rattle.node_record.specs.declared.table.State.{State}
use Rattle.node_record.specs.declared.table.State.TheVariants.{Bare, Kept, Active}
use Rattle.node_record.specs.declared.table.Record.{Record}
use Rattle.node_record.specs.Table.{MailboxTable, record_at, moved}
use Rattle.master_core.specs.declared.refusal.Refusal.TheVariants as refusal
use Rattle.master_core.specs.declared.sender.Sender.TheVariants.{Backend}
use Rattle.master_core.specs.Refusals.{refusal_text, reserve_refusal, activate_refusal, deactivate_refusal, delete_refusal}
use Rattle.master_core.specs.Replies.{done, reserve_reply, activate_reply, deactivate_reply, delete_reply}
use Rattle.home_law.specs.Items.{RecordKind, bare, kept, active, recorded, is_same_server, Seen, free, other, own, Item, reserve_ok, reserve_no, make_ok, make_no, again_ok, deactivate_ok, delete_ok, wipe_ok, refused, reserve, make, again, deactivate, delete, wipe}
use Rattle.home_law.specs.Steps.{with_answer, answer_reserve, answer_activate, answer_deactivate, answer_delete, answer}
use Rattle.home_law.specs.Link.{see, put}
use Rattle.home_law.specs.ManyNames.{Mailbox, SentLine, sent_reserve, sent_make, sent_again, sent_deactivate, sent_delete, sent_wipe, ok_items, no_items}
use Rattle.home_law.proofs.SameName.{is_itself, is_the_same, is_another}
use Rattle.name_flows.proofs.NameMaps.{value_at-without_key-same}
use Rattle.name_links.specs.Known.{known, known_by, kind_of}
use Rattle.name_links.specs.Lines.{items_of}
use Rattle.name_links.proofs.Outcome.{Refuses, Grants, Outcome, denied, granted, IsAbout}

-- each line about one name

pub about_reserve : (m : Mailbox) → IsAbout m (sent_reserve m) reserve reserve_ok
unfolding items_of ok_items no_items
about_reserve m = record { items = λ n. refl; oks = λ n. refl; nos = λ n ne. ap (λ t. cond t (reserve_no ∷ []) []) (is_another m n ne) }

pub about_make : (m : Mailbox) → IsAbout m (sent_make m) make make_ok
unfolding items_of ok_items no_items
about_make m = record { items = λ n. refl; oks = λ n. refl; nos = λ n ne. ap (λ t. cond t (make_no ∷ []) []) (is_another m n ne) }

pub about_again : (m : Mailbox) → IsAbout m (sent_again m) again again_ok
unfolding items_of ok_items no_items
about_again m = record { items = λ n. refl; oks = λ n. refl; nos = λ n ne. refl }

pub about_deactivate : (m : Mailbox) → IsAbout m (sent_deactivate m) deactivate deactivate_ok
unfolding items_of ok_items no_items
about_deactivate m = record { items = λ n. refl; oks = λ n. refl; nos = λ n ne. refl }

pub about_delete : (m : Mailbox) → IsAbout m (sent_delete m) delete delete_ok
unfolding items_of ok_items no_items
about_delete m = record { items = λ n. refl; oks = λ n. refl; nos = λ n ne. refl }

pub about_wipe : (m : Mailbox) → IsAbout m (sent_wipe m) wipe wipe_ok
unfolding items_of ok_items no_items
about_wipe m = record { items = λ n. refl; oks = λ n. refl; nos = λ n ne. refl }

-- the comparison of two servers, from either side
flip : (x y : List ℕ) (t : Bool) → pointwise nat_eq x y ≡ t → pointwise nat_eq y x ≡ t
flip x y t e = nat_list_eq_equiv.symm y x ∙ e

-- what the protocol of one name answers, by whether the record names the backend

reserve_taken : (is_full : Bool) (s : Seen) (t : Bool) (k : RecordKind) → s ≡ cond t (own k) other → answer is_full s reserve ≡ with_answer s reserve_no
unfolding answer answer_reserve
reserve_taken true s true k e = rw e refl
reserve_taken true s false k e = rw e refl
reserve_taken false s true k e = rw e refl
reserve_taken false s false k e = rw e refl

activate_other : (is_full : Bool) (ok denial : Item) → answer_activate is_full other ok denial ≡ with_answer other refused
unfolding answer_activate
activate_other true ok denial = refl
activate_other false ok denial = refl

activate_mailbox : (is_full : Bool) (k : RecordKind) (ok denial : Item) → (k ≡ kept) ⊎ (k ≡ active) → answer_activate is_full (own k) ok denial ≡ with_answer (own active) ok
unfolding answer_activate
activate_mailbox true k ok denial (inl e) = rw e refl
activate_mailbox true k ok denial (inr e) = rw e refl
activate_mailbox false k ok denial (inl e) = refl
activate_mailbox false k ok denial (inr e) = refl

module _ (table : MailboxTable) (b m : List ℕ) where
  -- the record as the backend finds it
  seen_none : record_at table m ≡ None → see (known table m) b ≡ free
  unfolding see
  seen_none there = rw there refl

  seen_some : (it : Record) → record_at table m ≡ Some it → (t : Bool) → is_same_server (it.place).server b ≡ t
      → see (known table m) b ≡ cond t (own (kind_of it.state)) other
  unfolding see
  seen_some it there t e = rw (there, e) refl

  module _ (place : Location) (here : is_same_server place.server b ≡ true) where
    at_sender : pointwise nat_eq b place.server ≡ true
    at_sender = flip place.server b true here

    server_is : place.server ≡ b
    server_is = is_the_same place.server b here

    -- ---- RESERVE

    abbrev ReserveOutcome : Type 0
    ReserveOutcome = Outcome table b m (reserve_reply table (Backend b) m place) (sent_reserve m) reserve reserve_ok (table.serial == 4294967295)

    own_no : no_items m (sent_reserve m) ≡ reserve_no ∷ []
    unfolding no_items
    own_no = ap (λ t. cond t (reserve_no ∷ []) []) (is_itself m)

    reserve_refuses : (it : Record) → record_at table m ≡ Some it → (s : State) → it.state ≡ s → Refuses (reserve_reply table (Backend b) m place)
    unfolding reserve_reply reserve_refusal
    reserve_refuses it there (Bare serial) at = rw (there, at, at_sender) (record { entry = refl; text = refusal_text refusal.Reserved; answers = refl })
    reserve_refuses it there (Kept acl) at = rw (there, at, at_sender) (record { entry = refl; text = refusal_text refusal.Reserved; answers = refl })
    reserve_refuses it there (Active acl) at = rw (there, at, at_sender) (record { entry = refl; text = refusal_text refusal.Exists; answers = refl })

    reserve_by : (found : Option Record) → record_at table m ≡ found → (full : Bool) → (table.serial == 4294967295) ≡ full → ReserveOutcome
    unfolding reserve_reply reserve_refusal answer answer_reserve put
    reserve_by (Some it) there full f =
        denied (reserve_refuses it there it.state refl) reserve_no
        (reserve_taken (table.serial == 4294967295) (see (known table m) b) (is_same_server (it.place).server b) (kind_of it.state) (seen_some it there (is_same_server (it.place).server b) refl)) (inl own_no)
    reserve_by None there true f =
        denied (rw (there, f, at_sender) (record { entry = refl; text = refusal_text refusal.SerialsSpent; answers = refl })) reserve_no (rw (seen_none there, f) refl) (inl own_no)
    reserve_by None there false f =
        granted (entry.Reserved m place (table.serial + 1)) (rw (there, f, at_sender) (record { entry = refl; text = decimal_text (table.serial + 1); answers = refl })) refl (own bare)
        (ap known_by (value_at-with_entry (slice_cmp nat_cmp) names_apart table.records m (record { place = place; state = Bare (table.serial + 1) })) ∙ ap (λ z. recorded bare z) server_is)
        (rw (seen_none there, f) refl)

    pub reserve_outcome : ReserveOutcome
    reserve_outcome = reserve_by (record_at table m) refl (table.serial == 4294967295) refl

    -- ---- ACTIVATE, of a client's CREATE or of a resync

    module _ (acl : List ℕ) (line : SentLine) (x ok denial : Item) (is : (is_full : Bool) (s : Seen) → answer is_full s x ≡ answer_activate is_full s ok denial)
        (no_is : (no_items m line ≡ denial ∷ []) ⊎ (denial ≡ refused)) where
      abbrev ActivateOutcome : Type 0
      ActivateOutcome = Outcome table b m (activate_reply table (Backend b) m place acl) line x ok (nat_le MAILBOX_LIMIT table.mailboxes)

      activates : Grants (activate_reply table (Backend b) m place acl) (entry.Active m place acl) → answer_activate (nat_le MAILBOX_LIMIT table.mailboxes) (see (known table m) b) ok denial ≡ with_answer (own active) ok
          → ActivateOutcome
      unfolding put
      activates it e =
          granted (entry.Active m place acl) it refl (own active)
          (ap known_by (value_at-with_entry (slice_cmp nat_cmp) names_apart table.records m (record { place = place; state = Active acl })) ∙ ap (λ z. recorded active z) server_is)
          (is (nat_le MAILBOX_LIMIT table.mailboxes) (see (known table m) b) ∙ e)

      activate_here : (it : Record) → record_at table m ≡ Some it → is_same_server (it.place).server b ≡ true → (s : State) → it.state ≡ s
          → (full : Bool) → nat_le MAILBOX_LIMIT table.mailboxes ≡ full → ActivateOutcome
      unfolding activate_reply activate_refusal answer_activate
      activate_here it there e (Bare serial) at true f =
          denied (rw (there, at, flip (it.place).server b true e, f) (record { entry = refl; text = refusal_text refusal.Full; answers = refl })) denial
          (is (nat_le MAILBOX_LIMIT table.mailboxes) (see (known table m) b) ∙ rw (seen_some it there true e, at, f) refl) no_is
      activate_here it there e (Bare serial) at false f =
          activates (rw (there, at, flip (it.place).server b true e, f, at_sender) (record { entry = refl; text = done; answers = refl })) (rw (seen_some it there true e, at, f) refl)
      activate_here it there e (Kept acl) at full f =
          activates (rw (there, at, flip (it.place).server b true e, at_sender) (record { entry = refl; text = done; answers = refl }))
          (rw (seen_some it there true e, at) (activate_mailbox (nat_le MAILBOX_LIMIT table.mailboxes) kept ok denial (inl refl)))
      activate_here it there e (Active acl) at full f =
          activates (rw (there, at, flip (it.place).server b true e, at_sender) (record { entry = refl; text = done; answers = refl }))
          (rw (seen_some it there true e, at) (activate_mailbox (nat_le MAILBOX_LIMIT table.mailboxes) active ok denial (inr refl)))

      activate_some : (it : Record) → record_at table m ≡ Some it → (t : Bool) → is_same_server (it.place).server b ≡ t → ActivateOutcome
      unfolding activate_reply activate_refusal
      activate_some it there true e = activate_here it there e it.state refl (nat_le MAILBOX_LIMIT table.mailboxes) refl
      activate_some it there false e =
          denied (rw (there, flip (it.place).server b false e) (record { entry = refl; text = refusal_text refusal.NotYours; answers = refl })) refused
          (is (nat_le MAILBOX_LIMIT table.mailboxes) (see (known table m) b) ∙ rw (seen_some it there false e) (activate_other (nat_le MAILBOX_LIMIT table.mailboxes) ok denial)) (inr refl)

      activate_by : (found : Option Record) → record_at table m ≡ found → (full : Bool) → nat_le MAILBOX_LIMIT table.mailboxes ≡ full → ActivateOutcome
      unfolding activate_reply activate_refusal answer_activate
      activate_by (Some it) there full f = activate_some it there (is_same_server (it.place).server b) refl
      activate_by None there true f =
          denied (rw (there, at_sender, f) (record { entry = refl; text = refusal_text refusal.Full; answers = refl })) denial
          (is (nat_le MAILBOX_LIMIT table.mailboxes) (see (known table m) b) ∙ rw (seen_none there, f) refl) no_is
      activate_by None there false f =
          activates (rw (there, at_sender, f) (record { entry = refl; text = done; answers = refl })) (rw (seen_none there, f) refl)

      pub activate_outcome : ActivateOutcome
      activate_outcome = activate_by (record_at table m) refl (nat_le MAILBOX_LIMIT table.mailboxes) refl

    -- ---- DEACTIVATE

    module _ (is_full : Bool) where
      abbrev DeactivateOutcome : Type 0
      DeactivateOutcome = Outcome table b m (deactivate_reply table (Backend b) m place) (sent_deactivate m) deactivate deactivate_ok is_full

      deactivate_here : (it : Record) → record_at table m ≡ Some it → is_same_server (it.place).server b ≡ true → (s : State) → it.state ≡ s → DeactivateOutcome
      unfolding deactivate_reply deactivate_refusal answer answer_deactivate put
      deactivate_here it there e (Bare serial) at =
          denied (rw (there, at, flip (it.place).server b true e, at_sender) (record { entry = refl; text = refusal_text refusal.NotActive; answers = refl })) refused
          (rw (seen_some it there true e, at) refl) (inr refl)
      deactivate_here it there e (Kept acl) at =
          denied (rw (there, at, flip (it.place).server b true e, at_sender) (record { entry = refl; text = refusal_text refusal.NotActive; answers = refl })) refused
          (rw (seen_some it there true e, at) refl) (inr refl)
      deactivate_here it there e (Active acl) at =
          granted (entry.Inactive m place) (rw (there, at, flip (it.place).server b true e, at_sender) (record { entry = refl; text = done; answers = refl })) refl (own kept)
          (rw there (ap known_by (value_at-with_value (slice_cmp nat_cmp) names_apart table.records m (moved place it) it there) ∙ rw (at, server_is) refl))
          (rw (seen_some it there true e, at) refl)

      deactivate_some : (it : Record) → record_at table m ≡ Some it → (t : Bool) → is_same_server (it.place).server b ≡ t → DeactivateOutcome
      unfolding deactivate_reply deactivate_refusal answer answer_deactivate
      deactivate_some it there true e = deactivate_here it there e it.state refl
      deactivate_some it there false e =
          denied (rw (there, flip (it.place).server b false e) (record { entry = refl; text = refusal_text refusal.NotYours; answers = refl })) refused
          (rw (seen_some it there false e) refl) (inr refl)

      deactivate_by : (found : Option Record) → record_at table m ≡ found → DeactivateOutcome
      unfolding deactivate_reply deactivate_refusal answer answer_deactivate
      deactivate_by (Some it) there = deactivate_some it there (is_same_server (it.place).server b) refl
      deactivate_by None there = denied (rw there (record { entry = refl; text = refusal_text refusal.NoSuchName; answers = refl })) refused (rw (seen_none there) refl) (inr refl)

      pub deactivate_outcome : DeactivateOutcome
      deactivate_outcome = deactivate_by (record_at table m) refl

  -- ---- DELETE, of a client or another

  module _ (order : IsInOrder (slice_cmp nat_cmp) table.records) (line : SentLine) (x ok : Item) (is_full : Bool) (is : (s : Seen) → answer is_full s x ≡ answer_delete s ok) where
    abbrev DeleteOutcome : Type 0
    DeleteOutcome = Outcome table b m (delete_reply table (Backend b) m) line x ok is_full

    delete_some : (it : Record) → record_at table m ≡ Some it → (t : Bool) → is_same_server (it.place).server b ≡ t → DeleteOutcome
    unfolding delete_reply delete_refusal answer_delete put
    delete_some it there true e =
        granted (entry.Deleted m) (rw (there, flip (it.place).server b true e) (record { entry = refl; text = done; answers = refl })) refl free
        (ap known_by (value_at-without_key-same table.records m order)) (is (see (known table m) b) ∙ rw (seen_some it there true e) refl)
    delete_some it there false e =
        denied (rw (there, flip (it.place).server b false e) (record { entry = refl; text = refusal_text refusal.NotYours; answers = refl })) refused
        (is (see (known table m) b) ∙ rw (seen_some it there false e) refl) (inr refl)

    delete_by : (found : Option Record) → record_at table m ≡ found → DeleteOutcome
    unfolding delete_reply delete_refusal answer_delete
    delete_by (Some it) there = delete_some it there (is_same_server (it.place).server b) refl
    delete_by None there = denied (rw there (record { entry = refl; text = refusal_text refusal.NoSuchName; answers = refl })) refused (is (see (known table m) b) ∙ rw (seen_none there) refl) (inr refl)

    pub delete_outcome : DeleteOutcome
    delete_outcome = delete_by (record_at table m) refl
