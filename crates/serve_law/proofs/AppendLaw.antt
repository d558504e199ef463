-- An APPEND at the home is one at the store.
use Rattle.std.proofs.Common.{ℕ, List, [], ◌∷◌, Option, None, Some, refl, sym, subst}
use Rattle.backend_core.specs.declared.backend.Backend.{Backend}
use Rattle.node_record.specs.declared.held.Held.{Held}
use Rattle.backend_core.specs.Append.{append_step, append_within_limits}
use Rattle.backend_core.specs.Served.{served, served_unless}
use Rattle.backend_core.specs.HomeStep.{with_content}
use Rattle.mail_message.specs.declared.message.Message.{Message}
use Rattle.mail_store.specs.Append.{appended, append_fault}
use Rattle.mail_store.specs.declared.fault.StoreFault.{StoreFault}
use Rattle.mur_model.specs.Needed.{Append as append_work}
use Rattle.mur_model.specs.declared.store.Store.{Store}
use Rattle.mur_model.specs.Append.{append_on, append_to as append_to_box}
use Rattle.mur_model.specs.Left.{store_after}
use Rattle.session_core.specs.Append.{reply_to_append, reply_to_appended, reply_to_uids}
use Rattle.mur_model.specs.Asking.{asked_for}
use Rattle.session_core.specs.Finish.{turn_of}
use Rattle.session_core.specs.Results.{result_of, turn_by}
use Rattle.backend_core.specs.OpenBox.{open_content}
use Rattle.serve_law.proofs.HomeStore.{IsAtHome, opened, changed_alike, kept_alike}
use Rattle.serve_law.proofs.ServedAlike.{ServesAlike, apart, not_refused}

abbrev pub AppendsAlike : Store → Backend → List ℕ → Message → Option Held → Type 0
AppendsAlike store home name message found =
    ServesAlike store home name (append_work message) (append_on message (open_content found)) (append_step home name None (message ∷ []) found)

fault_by : (store : Store) (home : Backend) (name : List ℕ) (message : Message) (held : Held) (fault : Option StoreFault)
    → IsAtHome store home name held
    → ServesAlike store home name (append_work message) (append_to_box message held.content fault)
    (record {
      home = with_content home name held (append_within_limits held.content (message ∷ []) fault).content;
      body =
          Some (append_within_limits held.content (message ∷ []) fault).response.body;
      counts = (append_within_limits held.content (message ∷ []) fault).response.counts;
    })
unfolding append_within_limits append_to_box store_after asked_for turn_by result_of turn_of reply_to_append reply_to_appended reply_to_uids
fault_by store home name message held (Some fault) is = record {
  body = _;
  is_body = refl;
  shown = λ session own. refl;
  still = kept_alike store home name held is;
  unless = λ _. refl;
}
fault_by store home name message held None is = record {
  body = _;
  is_body = refl;
  shown = λ session own. refl;
  still = changed_alike store home name held (appended held.content (message ∷ [])) is;
  unless = λ h. absurd (apart h);
}

pub appends_alike : (store : Store) (home : Backend) (name : List ℕ) (message : Message) (held : Held) → IsAtHome store home name held
    → AppendsAlike store home name message (Some held)
unfolding append_step served served_unless append_on
appends_alike store home name message held is =
    let step = append_within_limits held.content (message ∷ []) (append_fault held.content (message ∷ [])) in
    subst (λ r. ServesAlike store home name (append_work message) (append_on message (open_content (Some held))) (served_unless home name held step r))
    (sym (not_refused held is.is_open))
    (subst (λ b. ServesAlike store home name (append_work message) (append_on message b) (served_unless home name held step None))
    (sym (opened held held.content is.is_open))
    (fault_by store home name message held (append_fault held.content (message ∷ [])) is))
