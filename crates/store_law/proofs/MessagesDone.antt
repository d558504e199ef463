-- What a STORE and an EXPUNGE leave of each message that stands in a mailbox whose UIDs rise.
use Rattle.std.proofs.Common.{◌≡◌, ◌≢◌, ℕ, ◌+◌, ◌≤◌, ◌==◌, ◌||◌, Bool, true, false, cond, List, [], ◌∷◌, ◌++◌, Option, None, Some}
use Rattle.std.proofs.Common.{refl, sym, ◌∙◌, ap, subst, inl, inr, ⊎_elim, arith}
use Rattle.std.specs.Prelude.{◌⊎◌}
use Rattle.std.specs.List.{Contains, list_any}
use Rattle.std.specs.Ordering.{nat_cmp}
use Rattle.std.proofs.lemmas.Bool.Decides.{nat_tests}
use Rattle.std.proofs.lemmas.List.Folds.{list_any-append}
use Rattle.mail_message.specs.Boxes.{Content, content_after, content_after_all, has_uid, is_deleted, message_at, relabelled, with_flags}
use Rattle.mail_message.specs.FlagSets.{Flags, flags_after}
use Rattle.mail_message.specs.declared.change.Change.TheVariants.{SetFlags}
use Rattle.mail_message.specs.declared.message.Message.{Message}
use Rattle.mail_message.specs.declared.mode.Mode.{Mode}
use Rattle.mail_store.specs.Expunge.{deleted_among, deleted_uid, expunged, expunged_uids}
use Rattle.mail_store.specs.Named.{set_of}
use Rattle.mail_store.specs.Store.{flag_changes, stored, stored_row, stored_rows}
use Rattle.mur_base.proofs.MapLaws.{numbers_apart}
use Rattle.store_law.specs.DoneIsDone.{ExpungesNamed, Relabels}
use Rattle.store_law.proofs.ContainsLaws.{all_there, all_within, among, at_first, behind_first, first_or_behind, none_there, stands}
use Rattle.store_law.proofs.MessagesLeft.{all_deleted, deleted_itself, found_deleted, gone_at, labelled_at, only_deleted, only_meant, uid_of_found}
use Rattle.store_law.proofs.NeedsFit.{IsMeant}
use Rattle.store_law.proofs.RisingStores.{Rises, RisesTo, expunged_rises}

-- ---- a message that stands in a mailbox is found by its UID, and one that is found stands in it

at_itself : (uid : ℕ) → (uid == uid) ≡ true
at_itself uid = grind (arith, nat_tests)

pub found_stands : (messages : List Message) (uid : ℕ) (message : Message) → message_at messages uid ≡ Some message → Contains messages message
found_stands [] uid message at = cc
found_stands (other ∷ messages) uid message at = by (other.uid == uid) at (found_stands messages uid message)
  where
    by : (same : Bool) → cond same (Some other) (message_at messages uid) ≡ Some message
        → (message_at messages uid ≡ Some message → Contains messages message) → Contains (other ∷ messages) message
    by true at rest = let here : other ≡ message = cc in subst (λ (m : Message). Contains (m ∷ messages) message) (sym here) (at_first message messages)
    by false at rest = behind_first other message messages (rest at)

above : (low : ℕ) (messages : List Message) (next : ℕ) (message : Message) → RisesTo low messages next → Contains messages message → low ≤ message.uid
above low [] next message rises is = absurd (none_there message is)
above low (other ∷ messages) next message rises is = ⊎_elim
    (λ (here : other ≡ message). subst (λ (m : Message). low ≤ m.uid) here rises.0)
    (λ (behind : Contains messages message). omega (arith, rises.0, above (other.uid + 1) messages next message rises.1 behind))
    (first_or_behind other message messages is)

stands_found : (low : ℕ) (messages : List Message) (next : ℕ) (message : Message) → RisesTo low messages next → Contains messages message
    → message_at messages message.uid ≡ Some message
stands_found low [] next message rises is = absurd (none_there message is)
stands_found low (other ∷ messages) next message rises is = ⊎_elim
    (λ (here : other ≡ message). subst (λ (m : Message). cond (m.uid == message.uid) (Some m) (message_at messages message.uid) ≡ Some message) (sym here)
    (rw (at_itself message.uid) refl))
    (λ (behind : Contains messages message).
    let far : other.uid + 1 ≤ message.uid = above (other.uid + 1) messages next message rises.1 behind in
    let other_uid : (other.uid == message.uid) ≡ false = grind (arith, nat_tests, far) in
    rw other_uid (stands_found (other.uid + 1) messages next message rises.1 behind))
    (first_or_behind other message messages is)

pub found : (box : Content) → Rises box → (message : Message) → Contains box.messages message → message_at box.messages message.uid ≡ Some message
found box rises message is = stands_found 0 box.messages box.next message rises is

-- ---- STORE

module _ (messages : List Message) (mode : Mode) (flags : Flags) (q : ℕ) (first : Message) (own : message_at messages q ≡ Some first) where
  -- what a message is after it was named, or wasn't
  abbrev named_now : Message → Bool → Message
  named_now now true = relabelled now (flags_after mode first.flags flags)
  named_now now false = now

  twice : (now : Message) (named : Bool) → named_now (named_now now true) named ≡ named_now now true
  twice now true = refl
  twice now false = refl

  -- what rows of these UIDs leave of the message
  abbrev Labelled : List ℕ → Type 0
  Labelled uids = (box : Content) (now : Message) → now.uid ≡ q → message_at box.messages q ≡ Some now
      → message_at (content_after_all box (flag_changes (stored_rows messages mode flags uids))).messages q
      ≡ Some (named_now now (list_any (λ uid. uid == q) uids))

  none_label : (uid : ℕ) (uids : List ℕ) → Labelled uids → (box : Content) (now : Message) → now.uid ≡ q → message_at box.messages q ≡ Some now
      → message_at messages uid ≡ None → (same : Bool) → (uid == q) ≡ same
      → message_at (content_after_all box (flag_changes (stored_rows messages mode flags uids))).messages q
      ≡ Some (named_now now (same || list_any (λ other. other == q) uids))
  none_label uid uids again box now is at none true e =
      let here : uid ≡ q = grind (arith, nat_tests, e) in
      let both : None ≡ Some first = sym none ∙ ap (message_at messages) here ∙ own in cc
  none_label uid uids again box now is at none false e = again box now is at

  -- the content after the row of a message
  abbrev labelled_box : Content → Message → Content
  labelled_box box message = content_after box (SetFlags message.uid (flags_after mode message.flags flags))

  one_label : (uid : ℕ) (uids : List ℕ) → Labelled uids → (box : Content) (now : Message) → now.uid ≡ q → message_at box.messages q ≡ Some now
      → (message : Message) → message_at messages uid ≡ Some message → (same : Bool) → (uid == q) ≡ same
      → message_at (content_after_all (labelled_box box message) (flag_changes (stored_rows messages mode flags uids))).messages q
      ≡ Some (named_now now (same || list_any (λ other. other == q) uids))
  one_label uid uids again box now is at message there true e =
      let here : uid ≡ q = grind (arith, nat_tests, e) in
      let one : Some message ≡ Some first = sym there ∙ ap (message_at messages) here ∙ own in
      let same : message ≡ first = cc in
      let uid_is : message.uid ≡ uid = uid_of_found messages uid message there in
      let meets : has_uid message.uid now ≡ true = grind (arith, nat_tests, uid_is, here, is) in
      let label : with_flags message.uid (flags_after mode message.flags flags) now ≡ named_now now true =
      ap (λ b. cond b (relabelled now (flags_after mode message.flags flags)) now) meets
      ∙ ap (λ (m : Message). relabelled now (flags_after mode m.flags flags)) same in
      again (labelled_box box message) (named_now now true) is
      (labelled_at box.messages message.uid q (flags_after mode message.flags flags) now at ∙ ap (λ (m : Message). Some m) label)
      ∙ ap (λ (m : Message). Some m) (twice now (list_any (λ other. other == q) uids))
  one_label uid uids again box now is at message there false e =
      let uid_is : message.uid ≡ uid = uid_of_found messages uid message there in
      let misses : has_uid message.uid now ≡ false = grind (arith, nat_tests, uid_is, e, is) in
      let label : with_flags message.uid (flags_after mode message.flags flags) now ≡ now =
      ap (λ b. cond b (relabelled now (flags_after mode message.flags flags)) now) misses in
      again (labelled_box box message) now is
      (labelled_at box.messages message.uid q (flags_after mode message.flags flags) now at ∙ ap (λ (m : Message). Some m) label)

  row_label : (uid : ℕ) (uids : List ℕ) → Labelled uids → (box : Content) (now : Message) → now.uid ≡ q → message_at box.messages q ≡ Some now
      → (there : Option Message) → message_at messages uid ≡ there
      → message_at (content_after_all box (flag_changes (stored_row mode flags there ++ stored_rows messages mode flags uids))).messages q
      ≡ Some (named_now now ((uid == q) || list_any (λ other. other == q) uids))
  row_label uid uids again box now is at None none = none_label uid uids again box now is at none (uid == q) refl
  row_label uid uids again box now is at (Some message) there = one_label uid uids again box now is at message there (uid == q) refl

  rows_label : (uids : List ℕ) → Labelled uids
  rows_label [] box now is at = at
  rows_label (uid ∷ uids) box now is at = row_label uid uids (rows_label uids) box now is at (message_at messages uid) refl

module _ (box : Content) (uids : List ℕ) (mode : Mode) (flags : Flags) (rises : Rises box) (message : Message) (is : Contains box.messages message) where
  stored_found : (named : Bool) → list_any (λ uid. uid == message.uid) (set_of uids) ≡ named
      → message_at (stored box uids mode flags).messages message.uid
      ≡ Some (named_now box.messages mode flags message.uid message (found box rises message is) message named)
  stored_found named e =
      rows_label box.messages mode flags message.uid message (found box rises message is) (set_of uids) box message refl (found box rises message is)
      ∙ ap (λ b. Some (named_now box.messages mode flags message.uid message (found box rises message is) message b)) e

  stored_named : Contains uids message.uid → Contains (stored box uids mode flags).messages (relabelled message (flags_after mode message.flags flags))
  stored_named named =
      found_stands (stored box uids mode flags).messages message.uid (relabelled message (flags_after mode message.flags flags))
      (stored_found true (among (set_of uids) message.uid (all_there nat_cmp numbers_apart [] uids message.uid named)))

  stored_other : (Contains uids message.uid → ⊥) → Contains (stored box uids mode flags).messages message
  stored_other none = by (list_any (λ uid. uid == message.uid) (set_of uids)) refl
    where
      by : (named : Bool) → list_any (λ uid. uid == message.uid) (set_of uids) ≡ named → Contains (stored box uids mode flags).messages message
      by true e = absurd (⊎_elim (none_there message.uid) none
          (all_within nat_cmp numbers_apart [] uids message.uid (stands (set_of uids) message.uid e)))
      by false e = found_stands (stored box uids mode flags).messages message.uid message (stored_found false e)

pub stored_relabels : (IsNamed : ℕ → Type 0) (P : Flags → Flags → Type 0) (box : Content) (uids : List ℕ) (mode : Mode) (flags : Flags) → Rises box
    → ((uid : ℕ) → IsNamed uid → Contains uids uid) → ((uid : ℕ) → Contains uids uid → IsNamed uid)
    → ((old : Flags) → P old (flags_after mode old flags)) → Relabels IsNamed P box (stored box uids mode flags)
stored_relabels IsNamed P box uids mode flags rises taken named such = record {
  named = λ message is it. record {
    flags = flags_after mode message.flags flags;
    there = stored_named box uids mode flags rises message is (taken message.uid it);
    such = such message.flags;
  };
  others = λ message is none. stored_other box uids mode flags rises message is (λ it. none (named message.uid it));
}

-- ---- EXPUNGE

or_true : (b : Bool) → (b || true) ≡ true
or_true true = refl
or_true false = refl

among_gone : (messages : List Message) (uids : List ℕ) (q : ℕ) (message : Message) → message_at messages q ≡ Some message → is_deleted message ≡ true
    → Contains uids q → list_any (λ gone. gone == q) (deleted_among messages uids) ≡ true
among_gone messages [] q message at gone is = absurd (none_there q is)
among_gone messages (uid ∷ uids) q message at gone is = ⊎_elim
    (λ (here : uid ≡ q).
    let there : message_at messages uid ≡ Some message = ap (message_at messages) here ∙ at in
    let own : (message.uid == q) ≡ true = (let same : message.uid ≡ q = uid_of_found messages q message at in grind (arith, nat_tests, same)) in
    rw (there, gone, own) refl)
    (λ (behind : Contains uids q). list_any-append (λ gone. gone == q) (deleted_uid (message_at messages uid)) (deleted_among messages uids)
    ∙ rw (among_gone messages uids q message at gone behind) (or_true (list_any (λ gone. gone == q) (deleted_uid (message_at messages uid)))))
    (first_or_behind uid q uids is)

all_gone : (box : Content) (only : Option (List ℕ)) (q : ℕ) (message : Message) → message_at box.messages q ≡ Some message → is_deleted message ≡ true
    → IsMeant only q → list_any (λ gone. gone == q) (expunged_uids box only) ≡ true
all_gone box None q message at gone meant =
    let same : message.uid ≡ q = uid_of_found box.messages q message at in
    all_deleted box.messages q ∙ found_deleted box.messages message q q gone (grind (arith, nat_tests, same)) at
all_gone box (Some uids) q message at gone meant =
    among_gone box.messages (set_of uids) q message at gone (all_there nat_cmp numbers_apart [] uids q meant)

module _ (box : Content) (only : Option (List ℕ)) (rises : Rises box) where
  abbrev goes : ℕ → Bool
  goes q = list_any (λ gone. gone == q) (expunged_uids box only)

  left_at : (q : ℕ) → message_at (expunged box only).messages q ≡ cond (goes q) None (message_at box.messages q)
  left_at q = gone_at box (expunged_uids box only) q

  went : (message : Message) → Contains box.messages message → IsMeant only message.uid → is_deleted message ≡ true → goes message.uid ≡ true
  went message is meant gone = all_gone box only message.uid message (found box rises message is) gone meant

  found_left : (message : Message) → Contains (expunged box only).messages message → message_at (expunged box only).messages message.uid ≡ Some message
  found_left message is = found (expunged box only) (expunged_rises box only rises) message is

  stayed_by : (message : Message) (test : Bool) → cond test None (message_at box.messages message.uid) ≡ Some message → Contains box.messages message
  stayed_by message true at = cc
  stayed_by message false at = found_stands box.messages message.uid message at

  stayed : (message : Message) → Contains (expunged box only).messages message → Contains box.messages message
  stayed message is = stayed_by message (goes message.uid) (sym (left_at message.uid) ∙ found_left message is)

  not_there : (message : Message) → goes message.uid ≡ true → (other : Message) → Contains (expunged box only).messages other → other.uid ≢ message.uid
  not_there message gone other is same =
      let none : message_at (expunged box only).messages message.uid ≡ None = left_at message.uid ∙ ap (λ b. cond b None (message_at box.messages message.uid)) gone in
      let some : message_at (expunged box only).messages message.uid ≡ Some other =
      sym (ap (message_at (expunged box only).messages) same) ∙ found_left other is in
      let both : None ≡ Some other = sym none ∙ some in cc

  stays_by : (message : Message) → Contains box.messages message → (test : Bool) → goes message.uid ≡ test
      → (IsMeant only message.uid → ⊥) ⊎ (is_deleted message ≡ true → ⊥) → Contains (expunged box only).messages message
  stays_by message is true e spared = absurd (⊎_elim
      (λ (unmeant : IsMeant only message.uid → ⊥). unmeant (only_meant box only message.uid e))
      (λ (kept : is_deleted message ≡ true → ⊥).
      kept (deleted_itself 0 box.messages box.next message.uid message rises (found box rises message is) (only_deleted box only message.uid e))) spared)
  stays_by message is false e spared =
      found_stands (expunged box only).messages message.uid message
      (left_at message.uid ∙ ap (λ b. cond b None (message_at box.messages message.uid)) e ∙ found box rises message is)

  pub expunged_named : (IsNamed : ℕ → Type 0) → ((uid : ℕ) → IsNamed uid → IsMeant only uid) → ((uid : ℕ) → IsMeant only uid → IsNamed uid)
      → ExpungesNamed IsNamed box (expunged box only)
  expunged_named IsNamed meant named = record {
    gone = λ message is it deleted. not_there message (went message is (meant message.uid it) deleted);
    none_left = λ message is it deleted. not_there message (went message (stayed message is) (meant message.uid it) deleted) message is refl;
    others = λ message is spared. stays_by message is (goes message.uid) refl (⊎_elim
        (λ (unnamed : IsNamed message.uid → ⊥). inl (λ it. unnamed (named message.uid it)))
        (λ (kept : is_deleted message ≡ true → ⊥). inr kept) spared);
    none_new = stayed;
  }
