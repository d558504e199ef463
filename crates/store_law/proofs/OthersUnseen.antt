-- A session sees and changes nothing but what its user has rights on.
use Rattle.std.proofs.Common.{◌≡◌, ◌≢◌, ◌↔◌, ℕ, Bool, true, false, List, [], ◌∷◌, Option, None}
use Rattle.std.proofs.Common.{refl, sym, ◌∙◌, ap, subst, length, leb-true, le-leb}
use Rattle.std.proofs.Math.Logic.{⊎_elim}
use Rattle.std.specs.Cmp.Lexicographic.{slice_cmp}
use Rattle.std.specs.Option.{option_map}
use Rattle.std.specs.Ordering.{is_eq, nat_cmp}
use Rattle.mail_message.specs.Boxes.{Content}
use Rattle.mur_base.specs.declared.limits.TheConstants.{MAILBOX_LIMIT}
use Rattle.mur_base.specs.Map.{value_at, with_value}
use Rattle.mur_base.proofs.MapLaws.{names_apart, same_or_other, value_at-with_entry, value_at-with_entry-other, value_at-with_value-other}
use Rattle.mur_base.specs.declared.user.User.{User}
use Rattle.imap_types.specs.declared.command.Command.{Command}
use Rattle.imap_types.specs.declared.reply.Reply.{Reply}
use Rattle.imap_types.specs.declared.request.Answer.{Answer}
use Rattle.imap_types.specs.declared.request.Request.{Request}
use Rattle.imap_types.specs.declared.request.Request.TheVariants.{Command as a_command, Unknown as unknown, TooBig as too_big}
use Rattle.mur_model.specs.declared.session.Sess.{Sess}
use Rattle.mur_model.specs.declared.setting.Setting.{Setting}
use Rattle.mur_model.specs.declared.store.Store.{Store}
use Rattle.mur_model.specs.Act.{Acted, act_by, act_of, need_of, session_after, work_on, worked_at}
use Rattle.mur_model.specs.Answer.{answer_of}
use Rattle.mur_model.specs.Append.{append_on}
use Rattle.mur_model.specs.Create.{create_on}
use Rattle.mur_model.specs.Delete.{delete_on}
use Rattle.mur_model.specs.Select.{select_on}
use Rattle.mur_model.specs.Status.{status_on}
use Rattle.mur_model.specs.Viewing.{viewed_on}
use Rattle.mur_model.specs.Left.{Left, Worked, kept, made, changed, removed, store_after}
use Rattle.mur_model.specs.Needed.{Needed, Refusal, Turned, Mailbox, Names, Work, Make, Delete as delete_work, Append as append_work, Status as status_work, Select as select_work, Viewed as viewed_work}
use Rattle.mur_model.specs.Store.{box_at, is_full}
use Rattle.mur_model.proofs.BoxGone.{box_gone, others_there}
use Rattle.store_law.specs.OthersUnseen.{Creates, HasOwnSelected, IsAlike, IsAnsweredAlike, IsCreate, IsFull, KeepsToItsOwn, MayMake, MayUse}
use Rattle.store_law.proofs.ListedAlike.{both_or_neither, replied_alike}
use Rattle.store_law.proofs.NoneLost.{others_stay}
use Rattle.store_law.proofs.OwnNeeds.{IsOwnWork, NeedsOwn, needs_own}

-- ---- full

full_by : (store : Store) → is_full store ≡ true → IsFull store
unfolding is_full
full_by store is = leb-true MAILBOX_LIMIT (length store.boxes) is

by_full : (store : Store) → IsFull store → is_full store ≡ true
unfolding is_full
by_full store is = le-leb MAILBOX_LIMIT (length store.boxes) is

same_test : (store other : Store) → (IsFull store ↔ IsFull other) → is_full store ≡ is_full other
same_test store other same =
    both_or_neither (is_full store) (is_full other)
    (λ is. by_full other (same.0 (full_by store is))) (λ is. by_full store (same.1 (full_by other is)))

-- ---- the same work, at mailboxes that are the same

same_work : (users : List User) (session : Sess) (it : Command) (name : List ℕ) (work : Work) → IsOwnWork users session it name work → (serial : ℕ) (full other : Bool)
    → (Creates it → full ≡ other) → (box : Option Content) → work_on name work serial full box ≡ work_on name work serial other box
unfolding work_on
same_work users session it name Make own serial full other same box = ap (λ s. create_on name serial s box) (same own.0)
same_work users session it name delete_work own serial full other same box = refl
same_work users session it name (append_work message) own serial full other same box = refl
same_work users session it name (status_work shown items) own serial full other same box = refl
same_work users session it name (select_work opened) own serial full other same box = refl
same_work users session it name (viewed_work view work) own serial full other same box = refl

found_by : (e : List ℕ × Content) (boxes : List (List ℕ × Content)) (name : List ℕ) (box : Content) (same : Bool) → is_eq (slice_cmp nat_cmp name e.0) ≡ same
    → value_at (slice_cmp nat_cmp) (with_value (slice_cmp nat_cmp) boxes name box) name ≡ option_map (λ _. box) (value_at (slice_cmp nat_cmp) boxes name)
    → value_at (slice_cmp nat_cmp) (with_value (slice_cmp nat_cmp) (e ∷ boxes) name box) name
    ≡ option_map (λ _. box) (value_at (slice_cmp nat_cmp) (e ∷ boxes) name)
found_by e boxes name box true h more = rw (h, h) refl
found_by e boxes name box false h more = rw (h, h) more

-- another content is found where there was one
found_then : (boxes : List (List ℕ × Content)) (name : List ℕ) (box : Content)
    → value_at (slice_cmp nat_cmp) (with_value (slice_cmp nat_cmp) boxes name box) name ≡ option_map (λ _. box) (value_at (slice_cmp nat_cmp) boxes name)
found_then [] name box = refl
found_then (e ∷ boxes) name box = found_by e boxes name box (is_eq (slice_cmp nat_cmp name e.0)) refl (found_then boxes name box)

left_alike : (store other : Store) (at name : List ℕ) (left : Left) → box_at store at ≡ box_at other at → box_at store name ≡ box_at other name
    → box_at (store_after store at left) name ≡ box_at (store_after other at left) name
unfolding store_after
left_alike store other at name kept here is = is
left_alike store other at name (made box) here is =
    ⊎_elim (λ (e : name ≡ at). rw e (value_at-with_entry (slice_cmp nat_cmp) names_apart store.boxes at box
    ∙ sym (value_at-with_entry (slice_cmp nat_cmp) names_apart other.boxes at box)))
    (λ (ne : name ≢ at). value_at-with_entry-other (slice_cmp nat_cmp) names_apart store.boxes at name box ne ∙ is
    ∙ sym (value_at-with_entry-other (slice_cmp nat_cmp) names_apart other.boxes at name box ne))
    (same_or_other (slice_cmp nat_cmp) names_apart name at)
left_alike store other at name (changed box) here is =
    ⊎_elim (λ (e : name ≡ at). rw e (found_then store.boxes at box ∙ ap (option_map (λ _. box)) here ∙ sym (found_then other.boxes at box)))
    (λ (ne : name ≢ at). value_at-with_value-other (slice_cmp nat_cmp) names_apart store.boxes at name box ne ∙ is
    ∙ sym (value_at-with_value-other (slice_cmp nat_cmp) names_apart other.boxes at name box ne))
    (same_or_other (slice_cmp nat_cmp) names_apart name at)
left_alike store other at name removed here is =
    ⊎_elim (λ (e : name ≡ at). rw e (box_gone store at ∙ sym (box_gone other at)))
    (λ (ne : name ≢ at). others_there store at name ne ∙ is ∙ sym (others_there other at name ne))
    (same_or_other (slice_cmp nat_cmp) names_apart name at)

-- ---- a command in two stores

record IsActedAlike (users : List User) (before : Sess) (here there : Acted) : Type 0 where
  reply : here.reply ≡ there.reply
  session : here.session ≡ there.session
  boxes : (name : List ℕ) → MayUse users before name → box_at here.store name ≡ box_at there.store name

act_alike : (users : List User) (session : Sess) (it : Command) (store other : Store) (serial : ℕ) (need : Needed) → NeedsOwn users session it need
    → ((name : List ℕ) → MayUse users session name → box_at store name ≡ box_at other name)
    → (Creates it → is_full store ≡ is_full other)
    → IsActedAlike users session (act_by store session serial need) (act_by other session serial need)
unfolding act_by
act_alike users session it store other serial (Refusal verdict) own boxes full = record { reply = refl; session = refl; boxes = boxes }
act_alike users session it store other serial (Turned turn) own boxes full = record { reply = refl; session = refl; boxes = boxes }
act_alike users session it store other serial (Mailbox name work) own boxes full =
    let here : box_at store name ≡ box_at other name = boxes name own.0 in
    let same : worked_at store name work serial ≡ worked_at other name work serial =
    same_work users session it name work own.1 serial (is_full store) (is_full other) full (box_at store name)
    ∙ ap (work_on name work serial (is_full other)) here in
    record {
      reply = ap (λ (w : Worked). w.turn.reply) same;
      session = ap (λ (w : Worked). session_after session w.turn.session) same;
      boxes = λ n may. left_alike store other name n (worked_at store name work serial).left here (boxes n may)
          ∙ ap (λ (w : Worked). box_at (store_after other name w.left) n) same;
    }
act_alike users session it store other serial (Names listing) own boxes full =
    record { reply = replied_alike listing store other (λ name is. boxes name (own name is)); session = refl; boxes = boxes }

act_leaves : (users : List User) (session : Sess) (it : Command) (store : Store) (serial : ℕ) (need : Needed) → NeedsOwn users session it need
    → (name : List ℕ) → ¬ MayUse users session name → box_at (act_by store session serial need).store name ≡ box_at store name
unfolding act_by
act_leaves users session it store serial (Refusal verdict) own name barred = refl
act_leaves users session it store serial (Turned turn) own name barred = refl
act_leaves users session it store serial (Names listing) own name barred = refl
act_leaves users session it store serial (Mailbox at work) own name barred =
    others_stay store at (worked_at store at work serial).left name (λ (same : name ≡ at). barred (subst (MayUse users session) (sym same) own.0))

-- ---- no mailbox is made but where the user may

-- where there is no mailbox, only work that makes one leaves one
none_left : (users : List User) (session : Sess) (it : Command) (name : List ℕ) (work : Work) (serial : ℕ) (full : Bool)
    → IsOwnWork users session it name work → ¬ MayMake users session name → (work_on name work serial full None).left ≡ kept
unfolding work_on delete_on append_on status_on select_on viewed_on
none_left users session it name Make serial full own barred = absurd (barred own.1)
none_left users session it name delete_work serial full own barred = refl
none_left users session it name (append_work message) serial full own barred = refl
none_left users session it name (status_work shown items) serial full own barred = refl
none_left users session it name (select_work opened) serial full own barred = refl
none_left users session it name (viewed_work view work) serial full own barred = refl

act_makes : (users : List User) (session : Sess) (it : Command) (store : Store) (serial : ℕ) (need : Needed) → NeedsOwn users session it need
    → (name : List ℕ) → ¬ MayMake users session name → box_at store name ≡ None → box_at (act_by store session serial need).store name ≡ None
unfolding act_by store_after
act_makes users session it store serial (Refusal verdict) own name barred none = none
act_makes users session it store serial (Turned turn) own name barred none = none
act_makes users session it store serial (Names listing) own name barred none = none
act_makes users session it store serial (Mailbox at work) own name barred none =
    ⊎_elim (λ (same : name ≡ at).
    let empty : box_at store at ≡ None = ap (box_at store) (sym same) ∙ none in
    let left : (worked_at store at work serial).left ≡ kept =
    ap (λ (box : Option Content). (work_on at work serial (is_full store) box).left) empty
    ∙ none_left users session it at work serial (is_full store) own.1 (subst (λ n. ¬ MayMake users session n) same barred) in
    ap (λ (l : Left). box_at (store_after store at l) name) left ∙ none)
    (λ (ne : name ≢ at). others_stay store at (worked_at store at work serial).left name ne ∙ none)
    (same_or_other (slice_cmp nat_cmp) names_apart name at)

-- ---- a request

answered_alike : (setting : Setting) (session : Sess) (store other : Store) (request : Request) (serial : ℕ) → HasOwnSelected setting.users session
    → IsAlike setting.users session request store other
    → IsAnsweredAlike setting.users session (answer_of setting store session request serial) (answer_of setting other session request serial)
unfolding answer_of act_of IsCreate
answered_alike setting session store other (a_command tag it) serial own alike =
    let acted = act_alike setting.users session it store other serial (need_of setting session it) (needs_own setting session it own) alike.boxes
    (λ creates. same_test store other (alike.full creates)) in
    record { answer = ap (λ (r : Reply). let a : Answer = record { tag = tag; reply = r } in a) acted.reply; session = acted.session; boxes = acted.boxes }
answered_alike setting session store other (unknown tag) serial own alike = record { answer = refl; session = refl; boxes = alike.boxes }
answered_alike setting session store other (too_big tag) serial own alike = record { answer = refl; session = refl; boxes = alike.boxes }

answer_leaves : (setting : Setting) (session : Sess) (store : Store) → HasOwnSelected setting.users session → (request : Request) (serial : ℕ)
    → (name : List ℕ) → ¬ MayUse setting.users session name → box_at (answer_of setting store session request serial).store name ≡ box_at store name
unfolding answer_of act_of
answer_leaves setting session store own (a_command tag it) serial name barred =
    act_leaves setting.users session it store serial (need_of setting session it) (needs_own setting session it own) name barred
answer_leaves setting session store own (unknown tag) serial name barred = refl
answer_leaves setting session store own (too_big tag) serial name barred = refl

answer_makes : (setting : Setting) (session : Sess) (store : Store) → HasOwnSelected setting.users session → (request : Request) (serial : ℕ)
    → (name : List ℕ) → ¬ MayMake setting.users session name → box_at store name ≡ None
    → box_at (answer_of setting store session request serial).store name ≡ None
unfolding answer_of act_of
answer_makes setting session store own (a_command tag it) serial name barred none =
    act_makes setting.users session it store serial (need_of setting session it) (needs_own setting session it own) name barred none
answer_makes setting session store own (unknown tag) serial name barred none = none
answer_makes setting session store own (too_big tag) serial name barred none = none

pub keeps_to_its_own : (setting : Setting) (store : Store) (session : Sess) → HasOwnSelected setting.users session → KeepsToItsOwn setting store session
keeps_to_its_own setting store session own = record {
  own_selected = own;
  others_stay = answer_leaves setting session store own;
  none_made = answer_makes setting session store own;
  others_unseen = λ other request serial alike. answered_alike setting session store other request serial own alike;
}
