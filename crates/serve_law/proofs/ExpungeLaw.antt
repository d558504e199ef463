-- An EXPUNGE at the home of its mailbox is one at the store.
use Rattle.std.proofs.Common.{ℕ, List, Option, Some, refl}
use Rattle.backend_core.specs.declared.backend.Backend.{Backend}
use Rattle.node_record.specs.declared.held.Held.{Held}
use Rattle.backend_core.specs.Expunge.{expunge_step, expunge_to}
use Rattle.mail_store.specs.Expunge.{expunged}
use Rattle.mur_model.specs.declared.work.ViewWork.TheVariants.{Expunge}
use Rattle.mur_model.specs.declared.store.Store.{Store}
use Rattle.mur_model.specs.declared.view.View.{View}
use Rattle.mur_model.specs.Left.{store_after}
use Rattle.mur_model.specs.Viewing.{work_there}
use Rattle.session_core.specs.Finish.{turn_of}
use Rattle.session_core.specs.Results.{result_of, turn_by}
use Rattle.session_core.specs.Viewed.{viewed_done, viewed_in, viewed_told, viewed_turn}
use Rattle.serve_law.proofs.HomeStore.{IsAtHome, changed_alike}
use Rattle.serve_law.proofs.ServedAlike.{apart}
use Rattle.serve_law.proofs.ViewedAlike.{DoesAlike, operates, ViewsAlike}

expunges : (store : Store) (home : Backend) (name : List ℕ) (view : View) (only : Option (List ℕ)) (held : Held) → IsAtHome store home name held
    → DoesAlike store home name view (Expunge only) (λ content. expunge_to content only) held
unfolding turn_by result_of turn_of viewed_in viewed_turn viewed_told viewed_done store_after work_there
expunges store home name view only held at = record {
  shown = refl;
  still = changed_alike store home name held (expunged held.content only) at;
  unless = λ h. absurd (apart h);
}

pub expunge_views : (store : Store) (home : Backend) (name : List ℕ) (view : View) (only : Option (List ℕ)) (held : Held)
    → IsAtHome store home name held
    → ViewsAlike store home name view (Expunge only) (Some held) (expunge_step home name (Some view.serial) only (Some held))
unfolding expunge_step
expunge_views store home name view only held at =
    operates store home name view (Expunge only) (λ content. expunge_to content only) held (expunges store home name view only held at) at
