-- A STATUS at the home is one at the store.
use Rattle.std.proofs.Common.{ℕ, List, Option, None, Some, refl, sym, subst}
use Rattle.backend_core.specs.declared.backend.Backend.{Backend}
use Rattle.node_record.specs.declared.held.Held.{Held}
use Rattle.backend_core.specs.HomeStep.{answers}
use Rattle.backend_core.specs.Look.{look_step}
use Rattle.backend_core.specs.Response.{done}
use Rattle.link_msg.specs.declared.outcome.Outcome.TheVariants.{None as nothing}
use Rattle.mail_message.specs.Boxes.{snapshot_of}
use Rattle.imap_types.specs.declared.command.StatusItem.{StatusItem}
use Rattle.mur_model.specs.Needed.{Status as status_work}
use Rattle.mur_model.specs.declared.store.Store.{Store}
use Rattle.mur_model.specs.Left.{store_after}
use Rattle.mur_model.specs.Status.{status_on}
use Rattle.mur_model.specs.Asking.{asked_for}
use Rattle.session_core.specs.Finish.{turn_of}
use Rattle.session_core.specs.Results.{result_of, turn_by}
use Rattle.session_core.specs.Status.{reply_to_status, reply_to_counted}
use Rattle.backend_core.specs.OpenBox.{open_content}
use Rattle.serve_law.proofs.HomeStore.{IsAtHome, opened}
use Rattle.serve_law.proofs.HomeStore.IsStoreOf.{is_there}
use Rattle.serve_law.proofs.ServedAlike.{ServesAlike, apart, looked}

abbrev pub LooksAlike : Store → Backend → List ℕ → List ℕ → List StatusItem → Option Held → Type 0
LooksAlike store home name shown items found =
    ServesAlike store home name (status_work shown items) (status_on shown items (open_content found)) (look_step home None found)

seen : (store : Store) (home : Backend) (name shown : List ℕ) (items : List StatusItem) (held : Held) → IsAtHome store home name held
    → ServesAlike store home name (status_work shown items) (status_on shown items (Some held.content))
    (answers home (done nothing (snapshot_of held.content)))
unfolding status_on store_after asked_for turn_by result_of turn_of reply_to_status reply_to_counted
seen store home name shown items held is = record {
  body = _;
  is_body = refl;
  shown = λ session own. refl;
  still = is_there held is;
  unless = λ h. absurd (apart h);
}

pub looks_alike : (store : Store) (home : Backend) (name shown : List ℕ) (items : List StatusItem) (held : Held) → IsAtHome store home name held
    → LooksAlike store home name shown items (Some held)
looks_alike store home name shown items held is =
    subst (λ b. ServesAlike store home name (status_work shown items) (status_on shown items b) (look_step home None (Some held))) (sym (opened held held.content is.is_open))
    (subst (λ s. ServesAlike store home name (status_work shown items) (status_on shown items (Some held.content)) s) (sym (looked home held is.is_open))
    (seen store home name shown items held is))
