-- A SELECT or an EXAMINE at the home is one at the store.
use Rattle.std.proofs.Common.{ℕ, List, Option, None, Some, refl, sym, subst}
use Rattle.backend_core.specs.declared.backend.Backend.{Backend}
use Rattle.node_record.specs.declared.held.Held.{Held}
use Rattle.backend_core.specs.HomeStep.{answers}
use Rattle.backend_core.specs.Look.{look_step}
use Rattle.backend_core.specs.Response.{done}
use Rattle.link_msg.specs.declared.outcome.Outcome.TheVariants.{None as nothing}
use Rattle.mail_message.specs.Boxes.{snapshot_of}
use Rattle.mur_model.specs.Needed.{Select as select_work}
use Rattle.mur_model.specs.declared.commands.select.Opening.{Opening}
use Rattle.mur_model.specs.declared.store.Store.{Store}
use Rattle.mur_model.specs.Left.{store_after}
use Rattle.mur_model.specs.Select.{select_on}
use Rattle.mur_model.specs.Asking.{asked_for}
use Rattle.session_core.specs.Finish.{turn_of}
use Rattle.session_core.specs.Results.{result_of, turn_by}
use Rattle.session_core.specs.Select.{select_done, select_turn}
use Rattle.backend_core.specs.OpenBox.{open_content}
use Rattle.serve_law.proofs.HomeStore.{IsAtHome, opened}
use Rattle.serve_law.proofs.HomeStore.IsStoreOf.{is_there}
use Rattle.serve_law.proofs.ServedAlike.{ServesAlike, apart, looked}

abbrev pub SelectsAlike : Store → Backend → List ℕ → Opening → Option Held → Type 0
SelectsAlike store home name it found =
    ServesAlike store home name (select_work it) (select_on it name (open_content found)) (look_step home None found)

seen : (store : Store) (home : Backend) (name : List ℕ) (it : Opening) (held : Held) → IsAtHome store home name held
    → ServesAlike store home name (select_work it) (select_on it name (Some held.content)) (answers home (done nothing (snapshot_of held.content)))
unfolding select_on store_after asked_for turn_by result_of turn_of select_turn select_done
seen store home name it held is = record {
  body = _;
  is_body = refl;
  shown = λ session own. refl;
  still = is_there held is;
  unless = λ h. absurd (apart h);
}

pub selects_alike : (store : Store) (home : Backend) (name : List ℕ) (it : Opening) (held : Held) → IsAtHome store home name held
    → SelectsAlike store home name it (Some held)
selects_alike store home name it held is =
    subst (λ b. ServesAlike store home name (select_work it) (select_on it name b) (look_step home None (Some held))) (sym (opened held held.content is.is_open))
    (subst (λ s. ServesAlike store home name (select_work it) (select_on it name (Some held.content)) s) (sym (looked home held is.is_open))
    (seen store home name it held is))
