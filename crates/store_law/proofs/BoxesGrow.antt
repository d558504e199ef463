-- What commands leave of a mailbox: its UIDVALIDITY, and new messages from its UIDNEXT on alone. A new mailbox has a UIDVALIDITY that none had.
use Rattle.std.proofs.Common.{◌≡◌, ℕ, ◌≤◌, ◌==◌, Bool, true, false, not, cond, if◌then◌else◌, List, [], ◌∷◌, map, Option, None, Some, is_some}
use Rattle.std.proofs.Common.{refl, sym, ◌∙◌, ap, subst, inl, inr, ⊎_elim, arith}
use Rattle.std.specs.Prelude.{◌⊎◌, ◌≢◌, ◌++◌, ⊤, All}
use Rattle.std.specs.Cmp.Lexicographic.{slice_cmp}
use Rattle.std.specs.Ordering.{nat_cmp, match_ordering}
use Rattle.std.specs.declared.cmp.Ordering.{Ordering}
use Rattle.std.specs.declared.cmp.Ordering.TheVariants.{Less, Equal, Greater}
use Rattle.std.proofs.lemmas.Bool.Decides.{nat_tests}
use Rattle.std.proofs.lemmas.List.Elements.{All-nil, All-cons, All-head, All-tail}
use Rattle.mail_message.specs.Boxes.{Content, content_after, content_after_all, has_uid, message_at, relabelled, with_flags, with_message, without_uid}
use Rattle.mail_message.specs.FlagSets.{Flags}
use Rattle.mail_message.specs.declared.change.Change.TheVariants.{Gone, SetFlags}
use Rattle.mail_message.specs.declared.message.Message.{Message}
use Rattle.mail_message.specs.declared.message.Row.{Row}
use Rattle.mail_message.specs.declared.mode.Mode.TheVariants.{Add}
use Rattle.mail_store.specs.Append.{appended, append_fault}
use Rattle.mail_store.specs.Expunge.{expunged_uids}
use Rattle.mail_store.specs.Store.{flag_changes, has_too_many_flags, rows_stored}
use Rattle.mail_store.specs.declared.fault.StoreFault.{StoreFault}
use Rattle.mur_base.proofs.MapLaws.{names_apart, same_or_other, value_at-with_entry, value_at-with_value}
use Rattle.mur_model.specs.Needed.{Needed, Refusal, Turned, Mailbox, Names, Work, Make, Delete as delete_work, Append as append_work, Status as status_work, Select as select_work, Viewed as viewed_work}
use Rattle.mur_model.specs.declared.commands.store.FlagStore.{FlagStore}
use Rattle.mur_model.specs.declared.session.Sess.{Sess}
use Rattle.mur_model.specs.declared.store.Pair.{Pair}
use Rattle.mur_model.specs.declared.store.Store.{Store}
use Rattle.mur_model.specs.declared.view.View.{View}
use Rattle.mur_model.specs.declared.work.ViewWork.{ViewWork}
use Rattle.mur_model.specs.declared.work.ViewWork.TheVariants as view_work
use Rattle.mur_model.specs.Act.{act_by, work_on, MayAct, MayWork}
use Rattle.mur_model.specs.Append.{append_on, append_to}
use Rattle.mur_model.specs.Create.{create_on, make}
use Rattle.mur_model.specs.Delete.{delete_on}
use Rattle.mur_model.specs.Fetch.{seen_flags, sees}
use Rattle.mur_model.specs.Left.{Left, Worked, kept, made, changed, removed, store_after}
use Rattle.mur_model.specs.Select.{select_on}
use Rattle.mur_model.specs.Status.{status_on}
use Rattle.mur_model.specs.Store.{box_at, is_full, with_new_box}
use Rattle.mur_model.specs.StoreFlags.{stored_at}
use Rattle.mur_model.specs.Viewing.{found_gone, viewed_on, work_there}
use Rattle.mur_model.proofs.BoxGone.{box_gone}
use Rattle.store_law.proofs.NoneLost.{others_stay}

abbrev pub has_message : List Message → ℕ → Bool
has_message messages uid = is_some (message_at messages uid)

pub record Grows (box later : Content) : Type 0 where
  pub serial : later.serial ≡ box.serial
  pub next : box.next ≤ later.next
  pub new : (uid : ℕ) → has_message later.messages uid ≡ true → (has_message box.messages uid ≡ true) ⊎ (box.next ≤ uid)

pub still : (box : Content) → Grows box box
still box = record { serial = refl; next = omega arith; new = λ uid has. inl has }

both_grow : (one other last : Content) → Grows one other → Grows other last → Grows one last
both_grow one other last first second = record {
  serial = second.serial ∙ first.serial;
  next = omega (arith, first.next, second.next);
  new = λ uid has. ⊎_elim (λ (there : has_message other.messages uid ≡ true). first.new uid there)
      (λ (above : other.next ≤ uid). inr (omega (arith, above, first.next))) (second.new uid has);
}

-- ---- changes

some_label : (uid : ℕ) (test : Bool) (message : Message) (flags : Flags) → (if test then relabelled message flags else message).uid ≡ message.uid
some_label uid true message flags = refl
some_label uid false message flags = refl

label_has : (key uid : ℕ) (flags : Flags) (messages : List Message) → has_message (map (with_flags key flags) messages) uid ≡ has_message messages uid
label_has key uid flags [] = refl
label_has key uid flags (message ∷ messages) = by (has_uid key message) (message.uid == uid) refl (label_has key uid flags messages)
  where
    by : (test same : Bool) → (message.uid == uid) ≡ same → has_message (map (with_flags key flags) messages) uid ≡ has_message messages uid
        → is_some (cond ((if test then relabelled message flags else message).uid == uid) (Some (if test then relabelled message flags else message))
        (message_at (map (with_flags key flags) messages) uid)) ≡ is_some (cond same (Some message) (message_at messages uid))
    by test true e rest = rw (ap (λ n. n == uid) (some_label uid test message flags) ∙ e) refl
    by test false e rest = rw (ap (λ n. n == uid) (some_label uid test message flags) ∙ e) rest

label_grows : (key : ℕ) (flags : Flags) (box : Content) → Grows box (content_after box (SetFlags key flags))
label_grows key flags box = record {
  serial = refl;
  next = omega arith;
  new = λ uid has. inl (sym (label_has key uid flags box.messages) ∙ has);
}

labels_grow : (box : Content) (rows : List Row) → Grows box (content_after_all box (flag_changes rows))
labels_grow box [] = still box
labels_grow box (row ∷ rows) =
    both_grow box (content_after box (SetFlags row.uid row.flags)) _ (label_grows row.uid row.flags box)
    (labels_grow (content_after box (SetFlags row.uid row.flags)) rows)

gone_has : (key uid : ℕ) (messages : List Message) → has_message (without_uid messages key) uid ≡ true → has_message messages uid ≡ true
gone_has key uid [] is = is
gone_has key uid (message ∷ messages) is = by (has_uid key message) (message.uid == uid) refl is (gone_has key uid messages)
  where
    by : (gone same : Bool) → (message.uid == uid) ≡ same → has_message (cond (not gone) (message ∷ without_uid messages key) (without_uid messages key)) uid ≡ true
        → (has_message (without_uid messages key) uid ≡ true → has_message messages uid ≡ true)
        → is_some (cond same (Some message) (message_at messages uid)) ≡ true
    by gone true e is rest = refl
    by true false e is rest = rest is
    by false false e is rest = rest (subst (λ b. is_some (cond b (Some message) (message_at (without_uid messages key) uid)) ≡ true) e is)

gone_grows : (box : Content) (uids : List ℕ) → Grows box (content_after_all box (map (λ uid. Gone uid) uids))
gone_grows box [] = still box
gone_grows box (key ∷ uids) =
    both_grow box (content_after box (Gone key)) _
    (record { serial = refl; next = omega arith; new = λ uid has. inl (gone_has key uid box.messages has) })
    (gone_grows (content_after box (Gone key)) uids)

put_has : (message : Message) (uid : ℕ) (messages : List Message) → has_message (with_message messages message) uid ≡ true
    → (has_message messages uid ≡ true) ⊎ (message.uid ≡ uid)
put_has message uid [] is = by (message.uid == uid) refl is
  where
    by : (same : Bool) → (message.uid == uid) ≡ same → is_some (cond same (Some message) None) ≡ true → (false ≡ true) ⊎ (message.uid ≡ uid)
    by true e is = inr (grind (arith, nat_tests, e))
    by false e is = cc
put_has message uid (other ∷ messages) is = by (nat_cmp message.uid other.uid) (message.uid == uid) (other.uid == uid) refl refl is (put_has message uid messages)
  where
    by : (order : Ordering) (own same : Bool) → (message.uid == uid) ≡ own → (other.uid == uid) ≡ same
        → has_message (match_ordering order (message ∷ other ∷ messages) (message ∷ messages) (other ∷ with_message messages message)) uid ≡ true
        → (has_message (with_message messages message) uid ≡ true → (has_message messages uid ≡ true) ⊎ (message.uid ≡ uid))
        → (is_some (cond same (Some other) (message_at messages uid)) ≡ true) ⊎ (message.uid ≡ uid)
    by order true same e f is rest = inr (grind (arith, nat_tests, e))
    by order false true e f is rest = inl refl
    by Less false false e f is rest =
        inl (subst (λ b. is_some (cond b (Some other) (message_at messages uid)) ≡ true) f
        (subst (λ b. is_some (cond b (Some message) (message_at (other ∷ messages) uid)) ≡ true) e is))
    by Equal false false e f is rest = inl (subst (λ b. is_some (cond b (Some message) (message_at messages uid)) ≡ true) e is)
    by Greater false false e f is rest = rest (subst (λ b. is_some (cond b (Some other) (message_at (with_message messages message) uid)) ≡ true) f is)

appended_grows : (box : Content) (message : Message) → Grows box (appended box (message ∷ []))
appended_grows box message = record {
  serial = refl;
  next = omega arith;
  new = λ uid has. ⊎_elim (λ (there : has_message box.messages uid ≡ true). inl there)
      (λ (own : box.next ≡ uid). inr (omega (arith, own))) (put_has (record message { uid = box.next }) uid box.messages has);
}

-- ---- what an APPEND and the commands of a view leave

abbrev pub LeftGrows : Content → Left → Type 0
LeftGrows box kept = ⊤
LeftGrows box (made other) = ⊥
LeftGrows box (changed later) = Grows box later
LeftGrows box removed = ⊥

either_grows : (box : Content) (test : Bool) (one other : Worked) → LeftGrows box one.left → LeftGrows box other.left
    → LeftGrows box (if test then one else other).left
either_grows box true one other is is_other = is
either_grows box false one other is is_other = is_other

append_grows : (message : Message) (box : Content) (fault : Option StoreFault) → LeftGrows box (append_to message box fault).left
unfolding append_to
append_grows message box (Some fault) = tt
append_grows message box None = appended_grows box message

flags_grow : (view : View) (asked : FlagStore) (box : Content) (many : Bool) → LeftGrows box (stored_at view asked box many).left
flags_grow view asked box true = tt
flags_grow view asked box false = labels_grow box (rows_stored box asked.uids asked.mode asked.flags)

pub there_grows : (view : View) (work : ViewWork) (box : Content) → LeftGrows box (work_there view work box).left
unfolding work_there
there_grows view (view_work.News why) box = tt
there_grows view view_work.Close box = gone_grows box (expunged_uids box None)
there_grows view (view_work.Expunge only) box = gone_grows box (expunged_uids box only)
there_grows view (view_work.Store asked) box =
    flags_grow view asked box (has_too_many_flags (rows_stored box asked.uids asked.mode asked.flags))
there_grows view (view_work.Fetch asked) box =
    either_grows box (sees view asked) _ _ (labels_grow box (rows_stored box asked.uids Add seen_flags)) tt
there_grows view (view_work.Search asked) box = tt

-- ---- what each work leaves

-- a UIDVALIDITY that the store never gave
abbrev pub IsUnused : Store → ℕ → Type 0
IsUnused store serial = All (λ (pair : Pair). pair.serial ≢ serial) store.given

-- what is found goes on, or goes; what is made has a UIDVALIDITY that none had
abbrev LeftComes : Store → Option Content → Left → Type 0
LeftComes store found kept = ⊤
LeftComes store found (made other) = IsUnused store other.serial
LeftComes store None (changed later) = ⊥
LeftComes store (Some box) (changed later) = Grows box later
LeftComes store found removed = ⊤

grown_comes : (store : Store) (box : Content) (left : Left) → LeftGrows box left → LeftComes store (Some box) left
grown_comes store box kept grows = tt
grown_comes store box (made other) grows = absurd grows
grown_comes store box (changed later) grows = grows
grown_comes store box removed grows = absurd grows

made_comes : (store : Store) (name : List ℕ) (serial : ℕ) (full : Bool) → is_full store ≡ full → MayWork store name serial Make → box_at store name ≡ None
    → LeftComes store None (make name serial full).left
unfolding make MayWork
made_comes store name serial true e may none = tt
made_comes store name serial false e may none = (may none e).unused

work_comes : (store : Store) (name : List ℕ) (work : Work) (serial : ℕ) (found : Option Content) → box_at store name ≡ found → MayWork store name serial work
    → LeftComes store found (work_on name work serial (is_full store) found).left
unfolding work_on create_on delete_on append_on status_on select_on viewed_on
work_comes store name Make serial None at may = made_comes store name serial (is_full store) refl may at
work_comes store name delete_work serial None at may = tt
work_comes store name (append_work message) serial None at may = tt
work_comes store name (status_work shown items) serial None at may = tt
work_comes store name (select_work opened) serial None at may = tt
work_comes store name (viewed_work view work) serial None at may = tt
work_comes store name Make serial (Some box) at may = tt
work_comes store name delete_work serial (Some box) at may = tt
work_comes store name (append_work message) serial (Some box) at may =
    grown_comes store box _ (append_grows message box (append_fault box (message ∷ [])))
work_comes store name (status_work shown items) serial (Some box) at may = tt
work_comes store name (select_work opened) serial (Some box) at may = tt
work_comes store name (viewed_work view work) serial (Some box) at may =
    grown_comes store box _ (either_grows box (box.serial == view.serial) (work_there view work box) found_gone (there_grows view work box) tt)

-- ---- where each mailbox comes from

-- from the one of its name
pub record GrowsFrom (store : Store) (name : List ℕ) (box : Content) : Type 0 where
  pub before : Content
  pub there : box_at store name ≡ Some before
  pub grows : Grows before box

-- or it is new, and its UIDVALIDITY is given now
abbrev pub IsNew : Store → Store → ℕ → Type 0
IsNew store later serial = IsUnused store serial × ¬ IsUnused later serial

pub record AllGrow (store later : Store) : Type 0 where
  pub boxes : (name : List ℕ) (box : Content) → box_at later name ≡ Some box → GrowsFrom store name box ⊎ IsNew store later box.serial
  pub given : (serial : ℕ) → IsUnused later serial → IsUnused store serial

as_before : (store : Store) (name : List ℕ) (box : Content) → box_at store name ≡ Some box → GrowsFrom store name box
as_before store name box at = record { before = box; there = at; grows = still box }

pub unchanged : (store : Store) → AllGrow store store
unchanged store = record { boxes = λ name box at. inl (as_before store name box at); given = λ serial is. is }

all_front : (P : Pair → Type 0) (xs ys : List Pair) → All P (xs ++ ys) → All P xs
all_front P [] ys all = All-nil P
all_front P (x ∷ xs) ys all = All-cons P x xs (All-head P x (xs ++ ys) all) (all_front P xs ys (All-tail P x (xs ++ ys) all))

all_last : (P : Pair → Type 0) (xs : List Pair) (last : Pair) → All P (xs ++ last ∷ []) → P last
all_last P [] last all = All-head P last [] all
all_last P (x ∷ xs) last all = all_last P xs last (All-tail P x (xs ++ last ∷ []) all)

made_noted : (store : Store) (name : List ℕ) (box : Content) → ¬ IsUnused (with_new_box store name box) box.serial
made_noted store name box unused =
    all_last (λ (pair : Pair). pair.serial ≢ box.serial) store.given (record { name = name; serial = box.serial }) unused refl

left_given : (store : Store) (name : List ℕ) (left : Left) (serial : ℕ) → IsUnused (store_after store name left) serial → IsUnused store serial
unfolding store_after
left_given store name kept serial unused = unused
left_given store name (made box) serial unused =
    all_front (λ (pair : Pair). pair.serial ≢ serial) store.given ((record { name = name; serial = box.serial }) ∷ []) unused
left_given store name (changed box) serial unused = unused
left_given store name removed serial unused = unused

left_there : (store : Store) (name : List ℕ) (left : Left) (found : Option Content) (box : Content) → box_at store name ≡ found → LeftComes store found left
    → box_at (store_after store name left) name ≡ Some box → GrowsFrom store name box ⊎ IsNew store (store_after store name left) box.serial
unfolding store_after
left_there store name kept found box at comes there = inl (as_before store name box there)
left_there store name (made other) found box at comes there =
    let both : Some other ≡ Some box = sym (value_at-with_entry (slice_cmp nat_cmp) names_apart store.boxes name other) ∙ there in
    let same : other ≡ box = cc in
    inr (subst (λ (b : Content). IsNew store (with_new_box store name other) b.serial) same (comes, made_noted store name other))
left_there store name (changed later) None box at comes there = absurd comes
left_there store name (changed later) (Some before) box at comes there =
    let both : Some later ≡ Some box = sym (value_at-with_value (slice_cmp nat_cmp) names_apart store.boxes name later before at) ∙ there in
    let same : later ≡ box = cc in
    inl (subst (GrowsFrom store name) same (record { before = before; there = at; grows = comes }))
left_there store name removed found box at comes there = let none : None ≡ Some box = sym (box_gone store name) ∙ there in cc

left_grows : (store : Store) (name : List ℕ) (left : Left) → LeftComes store (box_at store name) left → AllGrow store (store_after store name left)
left_grows store name left comes = record {
  boxes = λ other box there. ⊎_elim
      (λ (same : other ≡ name). subst (λ n. GrowsFrom store n box ⊎ IsNew store (store_after store name left) box.serial) (sym same)
      (left_there store name left (box_at store name) box refl comes (subst (λ n. box_at (store_after store name left) n ≡ Some box) same there)))
      (λ (ne : other ≢ name). inl (as_before store other box (sym (others_stay store name left other ne) ∙ there)))
      (same_or_other (slice_cmp nat_cmp) names_apart other name);
  given = left_given store name left;
}

pub act_grows : (store : Store) (session : Sess) (serial : ℕ) (need : Needed) → MayAct store serial need → AllGrow store (act_by store session serial need).store
unfolding act_by MayAct
act_grows store session serial (Refusal verdict) may = unchanged store
act_grows store session serial (Turned turn) may = unchanged store
act_grows store session serial (Mailbox name work) may =
    left_grows store name (work_on name work serial (is_full store) (box_at store name)).left (work_comes store name work serial (box_at store name) refl may)
act_grows store session serial (Names it) may = unchanged store
