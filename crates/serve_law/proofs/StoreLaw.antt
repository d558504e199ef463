-- A STORE at the home of its mailbox is one at the store.
use Rattle.std.proofs.Common.{ℕ, Bool, true, false, List, Some, refl}
use Rattle.backend_core.specs.declared.backend.Backend.{Backend}
use Rattle.node_record.specs.declared.held.Held.{Held}
use Rattle.backend_core.specs.Flags.{flags_step, flags_to, flags_unless}
use Rattle.backend_core.specs.HomeStep.{with_content}
use Rattle.mail_store.specs.Store.{rows_stored, stored, has_too_many_flags}
use Rattle.mur_model.specs.declared.work.ViewWork.TheVariants.{Store as store_work}
use Rattle.mur_model.specs.declared.store.Store.{Store}
use Rattle.mur_model.specs.declared.commands.store.FlagStore.{FlagStore}
use Rattle.mur_model.specs.declared.view.View.{View}
use Rattle.mur_model.specs.Left.{store_after}
use Rattle.mur_model.specs.StoreFlags.{stored_at}
use Rattle.mur_model.specs.Viewing.{work_there}
use Rattle.session_core.specs.Finish.{turn_of}
use Rattle.session_core.specs.Results.{result_of, turn_by}
use Rattle.session_core.specs.Viewed.{viewed_done, viewed_in, viewed_told, viewed_turn}
use Rattle.serve_law.proofs.HomeStore.{IsAtHome, changed_alike, kept_alike}
use Rattle.serve_law.proofs.ServedAlike.{apart}
use Rattle.serve_law.proofs.ViewedAlike.{AnswersAlike, operates, ViewsAlike}

stores_by : (store : Store) (home : Backend) (name : List ℕ) (view : View) (it : FlagStore) (held : Held) (is_full : Bool)
    → IsAtHome store home name held
    → AnswersAlike store home name view (store_work it) (stored_at view it held.content is_full)
    (with_content home name held (flags_unless held.content it.uids it.mode it.flags is_full).content)
    (flags_unless held.content it.uids it.mode it.flags is_full).response
unfolding turn_by result_of turn_of viewed_in viewed_turn viewed_told viewed_done store_after flags_unless
stores_by store home name view it held true at = record {
  shown = refl;
  still = kept_alike store home name held at;
  unless = λ _. refl;
}
stores_by store home name view it held false at = record {
  shown = refl;
  still = changed_alike store home name held (stored held.content it.uids it.mode it.flags) at;
  unless = λ h. absurd (apart h);
}

pub store_views : (store : Store) (home : Backend) (name : List ℕ) (view : View) (it : FlagStore) (held : Held)
    → IsAtHome store home name held
    → ViewsAlike store home name view (store_work it) (Some held) (flags_step home name (Some view.serial) it.uids it.mode it.flags (Some held))
unfolding flags_step work_there
store_views store home name view it held at =
    operates store home name view (store_work it) (λ content. flags_to content it.uids it.mode it.flags) held
    (stores_by store home name view it held (has_too_many_flags (rows_stored held.content it.uids it.mode it.flags)) at) at
