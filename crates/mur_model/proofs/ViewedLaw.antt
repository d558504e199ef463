-- What a command of a selected session leaves of the store in which its mailbox stands: none is made, and none goes.
use Rattle.std.proofs.Common.{◌≡◌, ℕ, ◌==◌, Bool, true, false, List, Option, None, Some, if◌then◌else◌, refl, ap, ◌∙◌}
use Rattle.mail_message.specs.Boxes.{Content}
use Rattle.mail_store.specs.Store.{has_too_many_flags, rows_stored}
use Rattle.mur_model.specs.declared.work.ViewWork.{ViewWork}
use Rattle.mur_model.specs.declared.work.ViewWork.TheVariants as work
use Rattle.mur_model.specs.declared.session.Turn.{Turn}
use Rattle.mur_model.specs.declared.store.Store.{Store}
use Rattle.mur_model.specs.declared.commands.store.FlagStore.{FlagStore}
use Rattle.mur_model.specs.declared.view.View.{View}
use Rattle.mur_model.specs.Fetch.{sees}
use Rattle.mur_model.specs.Left.{Left, kept, made, changed, removed, Worked, IsLeft, box_after, store_after}
use Rattle.mur_model.specs.Selected.{gone}
use Rattle.mur_model.specs.Store.{box_at, with_box}
use Rattle.mur_model.specs.StoreFlags.{stored_at}
use Rattle.mur_model.specs.Viewing.{found_gone, viewed_on, work_there}
use Rattle.mur_model.proofs.AppendLaws.{kept_there}

unfoldable StaysThere : Left → Type 0
StaysThere kept = Unit {0}
StaysThere (made content) = ⊥
StaysThere (changed content) = Unit {0}
StaysThere removed = ⊥

none_left : (left other : Worked) (test : Bool) → StaysThere left.left → StaysThere other.left → StaysThere (if test then left else other).left
none_left left other true one two = one
none_left left other false one two = two

stored_made : (view : View) (it : FlagStore) (box : Content) (many : Bool) → StaysThere (stored_at view it box many).left
unfolding StaysThere
stored_made view it box true = tt
stored_made view it box false = tt

worked_made : (view : View) (it : ViewWork) (box : Content) → StaysThere (work_there view it box).left
unfolding work_there StaysThere
worked_made view (work.News why) box = tt
worked_made view work.Close box = tt
worked_made view (work.Expunge only) box = tt
worked_made view (work.Store it) box = stored_made view it box (has_too_many_flags (rows_stored box it.uids it.mode it.flags))
worked_made view (work.Fetch it) box = none_left _ _ (sees view it) tt tt
worked_made view (work.Search it) box = tt

viewed_made : (view : View) (it : ViewWork) (box : Option Content) → StaysThere (viewed_on view it box).left
unfolding viewed_on StaysThere
viewed_made view it None = tt
viewed_made view it (Some box) = none_left (work_there view it box) found_gone (box.serial == view.serial) (worked_made view it box) tt

left_by : (store : Store) (name : List ℕ) (box : Content) (left : Left) → StaysThere left → box_at store name ≡ Some box
    → with_box store name (box_after box left) ≡ store_after store name left
unfolding StaysThere box_after store_after
left_by store name box kept none there = kept_there store name box there
left_by store name box (made content) none there = absurd none
left_by store name box (changed content) none there = refl
left_by store name box removed none there = absurd none

-- the mailbox is there
pub viewed_there : (store : Store) (name : List ℕ) (view : View) (it : ViewWork) (box left : Content) (turn : Turn) → box_at store name ≡ Some box
    → IsLeft box (viewed_on view it (Some box)) left turn
    → (with_box store name left ≡ store_after store name (viewed_on view it (box_at store name)).left) × (turn ≡ (viewed_on view it (box_at store name)).turn)
viewed_there store name view it box left turn there is =
    rw there (
      ap (λ content. with_box store name content) is.0
          ∙ left_by store name box (viewed_on view it (Some box)).left (viewed_made view it (Some box)) there,
      is.1,
    )

-- no mailbox has the name
pub viewed_nowhere : (store : Store) (name : List ℕ) (view : View) (it : ViewWork) (turn : Turn) → box_at store name ≡ None → turn ≡ gone
    → (store ≡ store_after store name (viewed_on view it (box_at store name)).left) × (turn ≡ (viewed_on view it (box_at store name)).turn)
unfolding store_after viewed_on
viewed_nowhere store name view it turn none is = rw none (refl, is)
