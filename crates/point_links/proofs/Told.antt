-- What comes of an answer for a command that waits.
use Rattle.std.proofs.Common.{◌≡◌, ℕ, List, Option, Some, refl, sym, ◌∙◌, ap}
use Rattle.asking_core.specs.Answered.{answered, refused, refused_in, sends, told, told_in}
use Rattle.asking_core.specs.Begins.{ask_sent, asks_server, noop_sent}
use Rattle.imap_types.specs.declared.reply.NoText.TheVariants.{BeingMoved}
use Rattle.link_msg.specs.declared.answer.AnswerBody.TheVariants as answer
use Rattle.link_msg.specs.declared.outcome.Outcome.{Outcome}
use Rattle.mail_message.specs.declared.message.Snapshot.{Snapshot}
use Rattle.mur_base.specs.declared.point.What.TheVariants.{Reserved}
use Rattle.mur_model.specs.declared.need.Asking.{Asking}
use Rattle.mur_model.specs.declared.session.Sess.{Sess}
use Rattle.mur_model.specs.declared.session.Sess.TheVariants.{Ended}
use Rattle.mur_model.specs.declared.session.Turn.{Turn}
use Rattle.mur_model.specs.Act.{need_of}
use Rattle.mur_model.specs.Asking.{asked_for}
use Rattle.mur_model.specs.Relocation.{cause_text, refused_for}
use Rattle.session_core.specs.declared.result.OpResult.{OpResult}
use Rattle.session_core.specs.declared.result.OpResult.TheVariants.{Done}
use Rattle.session_core.specs.Finish.{finish, finished_by, turn_of}
use Rattle.session_core.specs.Relocated.{relocated}
use Rattle.session_core.proofs.RefusedLaw.{refused_as_told}
use Rattle.serve_law.proofs.AnswersAsActed.{ended_needs_none, finished_so}
use Rattle.point_links.specs.Commands.{ClientCommand, WaitsOn, refused_turn, told_turn}

module _ (c : ClientCommand) where
  not_ended : c.was ≡ Ended → ⊥
  not_ended e = ended_needs_none c.setting c.it c.name c.work (ap (λ (s : Sess). need_of c.setting s c.it) (sym e) ∙ c.need)

  -- it comes to its end by a result of which its session has this turn
  pub told_so : (result : OpResult) (turn : Turn) → turn_of c.was (asked_for c.name c.work).awaited result ≡ Some turn
      → told c.was c.waiting result ≡ told_turn c turn
  told_so result turn e =
      ap (λ (a : Asking). told_in c.waiting (finish c.was a.awaited result)) c.asking_is
      ∙ ap (λ (t : Option Turn). told_in c.waiting (finished_by c.was t)) e
      ∙ ap (told_in c.waiting) (finished_so c.was turn.reply turn.session not_ended)

  pub done_so : (master : List ℕ) (outcome : Outcome) (seen : Snapshot) (turn : Turn)
      → turn_of c.was (asked_for c.name c.work).awaited (Done outcome seen) ≡ Some turn
      → answered master c.id c.was c.waiting (answer.Done outcome seen) ≡ told_turn c turn
  unfolding answered
  done_so master outcome seen turn e = told_so (Done outcome seen) turn e

  -- it is refused as in a history
  pub refused_so : refused c.was c.waiting Reserved ≡ refused_turn c (refused_for c.was c.it BeingMoved)
  unfolding cause_text
  refused_so =
      ap (λ (a : Asking). refused_in c.waiting Reserved (relocated c.was a.awaited Reserved)) c.asking_is
      ∙ ap (refused_in c.waiting Reserved) (refused_as_told c.setting c.was c.it c.name c.work Reserved BeingMoved c.need refl)

  -- ---- it waits on

  pub server_waits : (master server : List ℕ) → WaitsOn master c (sends c.was (asks_server c.id c.was c.waiting server))
  server_waits master server = record {
    sent = ask_sent c.id c.was c.waiting server;
    sends = refl;
    session_is = refl;
    asks = record { name_is = refl; asking_is = refl; fits = (refl, refl) };
  }

  pub moved_waits : (master server : List ℕ) → WaitsOn master c (answered master c.id c.was c.waiting (answer.Moved server))
  unfolding answered
  moved_waits master server = server_waits master server

  pub not_now_waits : (master : List ℕ) → WaitsOn master c (answered master c.id c.was c.waiting answer.NotNow)
  unfolding answered
  not_now_waits master = record {
    sent = noop_sent master c.id;
    sends = refl;
    session_is = refl;
    asks = record { name_is = refl; asking_is = refl; fits = (refl, refl) };
  }
