-- What a home answers and leaves is what the one store replies and leaves, for work at a mailbox.
use Rattle.std.proofs.Common.{◌≡◌, ℕ, List, Some, None, refl, ap}
use Rattle.backend_core.specs.declared.backend.Backend.{Backend}
use Rattle.node_record.specs.declared.held.Held.{Held}
use Rattle.backend_core.specs.HomeStep.{HomeStep, answers}
use Rattle.link_msg.specs.declared.answer.AnswerBody.{AnswerBody}
use Rattle.link_msg.specs.declared.counts.Counts.TheVariants.{Always, IfAnswered}
use Rattle.mur_base.specs.declared.home.Phase.TheVariants.{Open as open_here}
use Rattle.mur_model.specs.Needed.{Work}
use Rattle.mur_model.specs.declared.session.Sess.{Sess}
use Rattle.mur_model.specs.declared.store.Store.{Store}
use Rattle.mur_model.specs.Left.{Worked, store_after, kept}
use Rattle.mur_model.specs.Asking.{asked_for}
use Rattle.mur_model.proofs.OwnView.{IsOfWork}
use Rattle.session_core.specs.Results.{turn_behind}
use Rattle.backend_core.specs.Refusal.{refusal, refusal_in, is_other}
use Rattle.mail_message.specs.Boxes.{snapshot_of}
use Rattle.backend_core.specs.Look.{look_step, look_at, look_unless}
use Rattle.backend_core.specs.Response.{done}
use Rattle.link_msg.specs.declared.outcome.Outcome.TheVariants.{None as nothing}
use Rattle.serve_law.proofs.HomeStore.{IsStoreOf}

pub apart : Always ≡ IfAnswered → ⊥
apart h = cc

-- work at a mailbox on both sides
pub record ServesAlike (store : Store) (home : Backend) (name : List ℕ) (work : Work) (worked : Worked) (step : HomeStep) : Type 0 where
  pub body : AnswerBody
  pub is_body : step.body ≡ Some body
  pub shown : (session : Sess) → IsOfWork session work → turn_behind session (asked_for name work).awaited body ≡ Some worked.turn
  pub still : IsStoreOf (store_after store name worked.left) step.home name
  pub unless : step.counts ≡ IfAnswered → worked.left ≡ kept

-- a home serves a mailbox that is open to a session without one selected
pub not_refused : (held : Held) → held.phase ≡ open_here → refusal None held ≡ None
unfolding refusal refusal_in is_other
not_refused held e = rw e refl

-- the look at a mailbox that is open, by a session without one selected
pub looked : (home : Backend) (held : Held) → held.phase ≡ open_here
    → look_step home None (Some held) ≡ answers home (done nothing (snapshot_of held.content))
unfolding look_step look_at look_unless
looked home held e = ap (λ r. answers home (look_unless held.content r)) (not_refused held e)
