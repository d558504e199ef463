-- What the one store does in the step that is a command's point.
use Rattle.std.specs.Prelude.{◌≡◌, ℕ, List}
use Rattle.link_msg.specs.declared.counts.Counts.{Counts}
use Rattle.link_msg.specs.declared.counts.Counts.TheVariants.{IfAnswered}
use Rattle.mur_model.specs.declared.session.Turn.{Turn}
use Rattle.mur_model.specs.declared.store.Store.{Store}
use Rattle.mur_model.specs.Act.{MayWork, worked_at}
use Rattle.mur_model.specs.Left.{kept, store_after}
use Rattle.mur_model.specs.Needed.{Work}

-- it carries the work out; a step that counts only where the client is answered leaves it as it was
pub record CarriesOut (store later : Store) (name : List ℕ) (work : Work) (serial : ℕ) (counts : Counts) : Type 0 where
  pub free : MayWork store name serial work
  pub later_is : later ≡ store_after store name (worked_at store name work serial).left
  pub stays : counts ≡ IfAnswered → (worked_at store name work serial).left ≡ kept

-- what the client is to be told of it
abbrev pub turn_at : Store → List ℕ → Work → ℕ → Turn
turn_at store name work serial = (worked_at store name work serial).turn
