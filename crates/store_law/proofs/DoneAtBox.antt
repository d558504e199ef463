-- What follows for the store where a command was answered OK: its work was done at a mailbox that is there.
use Rattle.std.proofs.Common.{◌≡◌, ℕ, ◌==◌, Bool, true, false, if◌then◌else◌, List, Option, None, Some, refl, arith}
use Rattle.std.specs.Ordering.{nat_cmp}
use Rattle.std.specs.Cmp.Lexicographic.{slice_cmp}
use Rattle.std.proofs.lemmas.Bool.Decides.{nat_tests}
use Rattle.mail_message.specs.Boxes.{Content}
use Rattle.mur_base.proofs.MapLaws.{names_apart, value_at-with_value}
use Rattle.imap_types.specs.declared.reply.BadText.{BadText}
use Rattle.imap_types.specs.declared.reply.Code.{Code}
use Rattle.imap_types.specs.declared.reply.NoText.{NoText}
use Rattle.imap_types.specs.declared.reply.Verdict.TheVariants.{Ok as ok_reply, No as no_reply, Bad as bad_reply}
use Rattle.mur_model.specs.Needed.{Needed, Refusal, at_mailbox}
use Rattle.mur_model.specs.declared.session.Sess.{Sess}
use Rattle.mur_model.specs.declared.store.Store.{Store}
use Rattle.mur_model.specs.declared.view.View.{View}
use Rattle.mur_model.specs.declared.work.ViewWork.{ViewWork}
use Rattle.mur_model.specs.Act.{act_by, work_on}
use Rattle.mur_model.specs.Left.{store_after}
use Rattle.mur_model.specs.Store.{box_at, with_box}
use Rattle.mur_model.specs.Viewing.{found_gone, viewed_on, work_there}
use Rattle.store_law.specs.DoneIsDone.{BoxBecomes}

module _ (store : Store) (session : Sess) (serial : ℕ) (code : Code) (command : List ℕ) (Q : Store → Type 0) where
  -- where this was answered OK, that is so of the store
  abbrev pub Does : Needed → Type 0
  Does need = (act_by store session serial need).reply.verdict ≡ ok_reply code command → Q (act_by store session serial need).store

  pub bad_does : (text : BadText) → Does (Refusal (bad_reply text))
  unfolding act_by
  bad_does text is = cc

  pub no_does : (text : NoText) → Does (Refusal (no_reply text))
  unfolding act_by
  no_does text is = cc

  pub either_does : (test : Bool) (one other : Needed) → (test ≡ true → Does one) → (test ≡ false → Does other) → Does (if test then one else other)
  either_does true one other is is_other = is refl
  either_does false one other is is_other = is_other refl

  module _ (view : View) (work : ViewWork) where
    -- the same at the mailbox of the view
    abbrev pub DoesThere : Type 0
    DoesThere = (box : Content) → box_at store view.name ≡ Some box → box.serial ≡ view.serial
        → (work_there view work box).turn.reply.verdict ≡ ok_reply code command → Q (store_after store view.name (work_there view work box).left)

    same_does : DoesThere → (box : Content) → box_at store view.name ≡ Some box → (same : Bool) → (box.serial == view.serial) ≡ same
        → (if same then work_there view work box else found_gone).turn.reply.verdict ≡ ok_reply code command
        → Q (store_after store view.name (if same then work_there view work box else found_gone).left)
    same_does does box at true e is = does box at (grind (arith, nat_tests, e)) is
    same_does does box at false e is = cc

    found_does : DoesThere → (found : Option Content) → box_at store view.name ≡ found
        → (viewed_on view work found).turn.reply.verdict ≡ ok_reply code command → Q (store_after store view.name (viewed_on view work found).left)
    unfolding viewed_on
    found_does does None at is = cc
    found_does does (Some box) at is = same_does does box at (box.serial == view.serial) refl is

    pub view_does : DoesThere → Does (at_mailbox view work)
    unfolding act_by work_on
    view_does does is = found_does does (box_at store view.name) refl is

pub box_becomes : (P : Content → Content → Type 0) (view : View) (store : Store) (box after : Content) → box_at store view.name ≡ Some box
    → box.serial ≡ view.serial → P box after → BoxBecomes P view store (with_box store view.name after)
box_becomes P view store box after at same done = record {
  box = box;
  there = at;
  same = same;
  after = after;
  stays = value_at-with_value (slice_cmp nat_cmp) names_apart store.boxes view.name after box at;
  done = done;
}
