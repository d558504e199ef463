-- A CLOSE at the home of its mailbox is one at the store.
use Rattle.std.proofs.Common.{ℕ, List, None, Some, refl}
use Rattle.backend_core.specs.declared.backend.Backend.{Backend}
use Rattle.node_record.specs.declared.held.Held.{Held}
use Rattle.backend_core.specs.Expunge.{expunge_step, expunge_to}
use Rattle.mail_store.specs.Expunge.{expunged}
use Rattle.mur_model.specs.declared.work.ViewWork.TheVariants.{Close}
use Rattle.mur_model.specs.declared.store.Store.{Store}
use Rattle.mur_model.specs.declared.view.View.{View}
use Rattle.mur_model.specs.Left.{store_after}
use Rattle.mur_model.specs.Viewing.{work_there}
use Rattle.session_core.specs.Finish.{turn_of}
use Rattle.session_core.specs.Results.{result_of, turn_by}
use Rattle.session_core.specs.Viewed.{viewed_done, viewed_in, viewed_told, viewed_turn}
use Rattle.serve_law.proofs.HomeStore.{IsAtHome, changed_alike}
use Rattle.serve_law.proofs.ServedAlike.{apart}
use Rattle.serve_law.proofs.ViewedAlike.{DoesAlike, operates, ViewsAlike}

closes : (store : Store) (home : Backend) (name : List ℕ) (view : View) (held : Held) → IsAtHome store home name held
    → DoesAlike store home name view Close (λ content. expunge_to content None) held
unfolding turn_by result_of turn_of viewed_in viewed_turn viewed_told viewed_done store_after work_there
closes store home name view held at = record {
  shown = refl;
  still = changed_alike store home name held (expunged held.content None) at;
  unless = λ h. absurd (apart h);
}

pub close_views : (store : Store) (home : Backend) (name : List ℕ) (view : View) (held : Held) → IsAtHome store home name held
    → ViewsAlike store home name view Close (Some held) (expunge_step home name (Some view.serial) None (Some held))
unfolding expunge_step
close_views store home name view held at =
    operates store home name view Close (λ content. expunge_to content None) held (closes store home name view held at) at
