-- Work at a mailbox, but for making one or deleting one: which operation is asked, what the store does with a name that it hasn't, and that it makes no
-- mailbox and takes none away.
use Rattle.std.proofs.Common.{◌≡◌, ◌≢◌, ◌⊎◌, inl, inr, ℕ, ◌==◌, Bool, true, false, List, [], ◌∷◌, Option, None, Some, refl}
use Rattle.std.specs.Prelude.{⊤, if◌then◌else◌}
use Rattle.std.specs.Ordering.{nat_cmp}
use Rattle.std.specs.Cmp.Lexicographic.{slice_cmp}
use Rattle.ask_routes.specs.declared.ask_for.AskFor.TheVariants as about
use Rattle.ask_routes.specs.Ways.{ask_for}
use Rattle.back_node.specs.NodeLaws.{is_of_messages}
use Rattle.imap_types.specs.declared.op.Op.{Op}
use Rattle.imap_types.specs.declared.op.Op.TheVariants as op
use Rattle.mail_message.specs.Boxes.{Content}
use Rattle.mail_message.specs.declared.message.Message.{Message}
use Rattle.mail_store.specs.Append.{append_fault}
use Rattle.mail_store.specs.Store.{has_too_many_flags, rows_stored}
use Rattle.mail_store.specs.declared.fault.StoreFault.{StoreFault}
use Rattle.mur_base.specs.Map.{IsInOrder}
use Rattle.mur_base.proofs.MapOrder.{with_value-in_order}
use Rattle.mur_model.specs.declared.store.Store.{Store}
use Rattle.mur_model.specs.declared.view.View.{View}
use Rattle.mur_model.specs.declared.work.ViewWork.{ViewWork}
use Rattle.mur_model.specs.declared.work.ViewWork.TheVariants as view_work
use Rattle.mur_model.specs.declared.commands.store.FlagStore.{FlagStore}
use Rattle.mur_model.specs.Act.{MayWork, work_on}
use Rattle.mur_model.specs.Append.{append_on, append_to}
use Rattle.mur_model.specs.Asking.{asked_for, fetch_op, search_op, view_op}
use Rattle.mur_model.specs.Fetch.{sees}
use Rattle.mur_model.specs.FetchRows.{asks_rows}
use Rattle.mur_model.specs.FetchSummaries.{asks_summaries}
use Rattle.mur_model.specs.Left.{Left, Worked, kept, made, changed, removed, store_after}
use Rattle.mur_model.specs.Needed.{IsOfHome, Work, Make, Delete, Append as append_work, Status as status_work, Select as select_work, Viewed as viewed_work}
use Rattle.mur_model.specs.SearchRows.{are_keys_in_rows}
use Rattle.mur_model.specs.Select.{select_on}
use Rattle.mur_model.specs.Status.{status_on}
use Rattle.mur_model.specs.StoreFlags.{stored_at}
use Rattle.mur_model.specs.Viewing.{found_gone, viewed_on, work_there}
use Rattle.mur_model.specs.declared.commands.fetch.Fetching.{Fetching}

-- it makes a mailbox, or not
pub is_make : (work : Work) → (work ≡ Make) ⊎ (work ≢ Make)
is_make Make = inl refl
is_make Delete = inr (λ e. cc)
is_make (append_work message) = inr (λ e. cc)
is_make (status_work shown items) = inr (λ e. cc)
is_make (select_work it) = inr (λ e. cc)
is_make (viewed_work view it) = inr (λ e. cc)

-- a home does it by itself, or it makes a mailbox, or deletes one
pub who_does : (work : Work) → IsOfHome work ⊎ ((work ≡ Make) ⊎ (work ≡ Delete))
unfolding IsOfHome
who_does Make = inr (inl refl)
who_does Delete = inr (inr refl)
who_does (append_work message) = inl tt
who_does (status_work shown items) = inl tt
who_does (select_work it) = inl tt
who_does (viewed_work view it) = inl tt

-- ---- what is asked for

fetch_is : (view : View) (it : Fetching) (rows summaries : Bool) → is_of_messages (fetch_op view it rows summaries) ≡ true
unfolding fetch_op
fetch_is view it true summaries = refl
fetch_is view it false true = refl
fetch_is view it false false = refl

search_is : (view : View) (rows : Bool) → is_of_messages (search_op view rows) ≡ true
unfolding search_op
search_is view true = refl
search_is view false = refl

viewed_is : (view : View) (it : ViewWork) → is_of_messages (view_op view it) ≡ true
unfolding view_op
viewed_is view (view_work.News why) = refl
viewed_is view view_work.Close = refl
viewed_is view (view_work.Expunge only) = refl
viewed_is view (view_work.Store it) = refl
viewed_is view (view_work.Fetch it) = fetch_is view it (asks_rows it) (asks_summaries it)
viewed_is view (view_work.Search it) = search_is view (are_keys_in_rows it.keys)

pub of_messages : (name : List ℕ) (work : Work) → IsOfHome work → is_of_messages (asked_for name work).op ≡ true
unfolding asked_for IsOfHome
of_messages name Make of = absurd of
of_messages name Delete of = absurd of
of_messages name (append_work message) of = refl
of_messages name (status_work shown items) of = refl
of_messages name (select_work it) of = refl
of_messages name (viewed_work view it) of = viewed_is view it

for_messages : (name : List ℕ) (asks : Op) → is_of_messages asks ≡ true → ask_for name asks ≡ about.Mailbox name
for_messages name op.Create of = cc
for_messages name asks of = refl

-- it is about a mailbox that is there, unless it makes one
pub about_mailbox : (name : List ℕ) (work : Work) → work ≢ Make → ask_for name (asked_for name work).op ≡ about.Mailbox name
unfolding asked_for
about_mailbox name Make ne = absurd (ne refl)
about_mailbox name Delete ne = refl
about_mailbox name (append_work message) ne = refl
about_mailbox name (status_work shown items) ne = refl
about_mailbox name (select_work it) ne = refl
about_mailbox name (viewed_work view it) ne = for_messages name (view_op view it) (viewed_is view it)

-- any UIDVALIDITY will do
pub may_work : (store : Store) (name : List ℕ) (serial : ℕ) (work : Work) → work ≢ Make → MayWork store name serial work
unfolding MayWork
may_work store name serial Make ne = absurd (ne refl)
may_work store name serial Delete ne = tt
may_work store name serial (append_work message) ne = tt
may_work store name serial (status_work shown items) ne = tt
may_work store name serial (select_work it) ne = tt
may_work store name serial (viewed_work view it) ne = tt

pub same_work : (name : List ℕ) (work : Work) (one other : ℕ) (full left : Bool) (box : Option Content) → work ≢ Make
    → work_on name work one full box ≡ work_on name work other left box
unfolding work_on
same_work name Make one other full left box ne = absurd (ne refl)
same_work name Delete one other full left box ne = refl
same_work name (append_work message) one other full left box ne = refl
same_work name (status_work shown items) one other full left box ne = refl
same_work name (select_work it) one other full left box ne = refl
same_work name (viewed_work view it) one other full left box ne = refl

-- ---- no mailbox is made or deleted

unfoldable pub StaysThere : Left → Type 0
StaysThere (made box) = ⊥
StaysThere removed = ⊥
StaysThere left = ⊤

either_none : (test : Bool) (one other : Worked) → StaysThere one.left → StaysThere other.left → StaysThere (if test then one else other).left
either_none true one other is is_other = is
either_none false one other is is_other = is_other

append_none : (message : Message) (box : Content) (fault : Option StoreFault) → StaysThere (append_to message box fault).left
unfolding append_to StaysThere
append_none message box (Some fault) = tt
append_none message box None = tt

flags_none : (view : View) (asked : FlagStore) (box : Content) (many : Bool) → StaysThere (stored_at view asked box many).left
unfolding StaysThere
flags_none view asked box true = tt
flags_none view asked box false = tt

there_none : (view : View) (work : ViewWork) (box : Content) → StaysThere (work_there view work box).left
unfolding work_there StaysThere
there_none view (view_work.News why) box = tt
there_none view view_work.Close box = tt
there_none view (view_work.Expunge only) box = tt
there_none view (view_work.Store asked) box =
    flags_none view asked box (has_too_many_flags (rows_stored box asked.uids asked.mode asked.flags))
there_none view (view_work.Fetch asked) box = either_none (sees view asked) _ _ tt tt
there_none view (view_work.Search asked) box = tt

pub work_makes_none : (name : List ℕ) (work : Work) (serial : ℕ) (full : Bool) (found : Option Content) → IsOfHome work
    → StaysThere (work_on name work serial full found).left
unfolding work_on append_on status_on select_on viewed_on StaysThere IsOfHome
work_makes_none name Make serial full found of = absurd of
work_makes_none name Delete serial full found of = absurd of
work_makes_none name (append_work message) serial full None of = tt
work_makes_none name (status_work shown items) serial full None of = tt
work_makes_none name (select_work opened) serial full None of = tt
work_makes_none name (viewed_work view work) serial full None of = tt
work_makes_none name (append_work message) serial full (Some box) of = append_none message box (append_fault box (message ∷ []))
work_makes_none name (status_work shown items) serial full (Some box) of = tt
work_makes_none name (select_work opened) serial full (Some box) of = tt
work_makes_none name (viewed_work view work) serial full (Some box) ne =
    either_none (box.serial == view.serial) (work_there view work box) found_gone (there_none view work box) tt

-- so none is given, and the boxes stay in order

pub given_stays : (store : Store) (name : List ℕ) (left : Left) → StaysThere left → (store_after store name left).given ≡ store.given
unfolding store_after StaysThere
given_stays store name kept none = refl
given_stays store name (made box) none = absurd none
given_stays store name (changed box) none = refl
given_stays store name removed none = absurd none

pub order_stays : (store : Store) (name : List ℕ) (left : Left) → StaysThere left → IsInOrder (slice_cmp nat_cmp) store.boxes
    → IsInOrder (slice_cmp nat_cmp) (store_after store name left).boxes
unfolding store_after StaysThere
order_stays store name kept none order = order
order_stays store name (made box) none order = absurd none
order_stays store name (changed box) none order = with_value-in_order (slice_cmp nat_cmp) store.boxes name box order
order_stays store name removed none order = absurd none
