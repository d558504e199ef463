-- What an ask is to a home: an operation on the messages of a mailbox, or one that leaves the home as it was.
use Rattle.std.proofs.Common.{◌≡◌, refl}
use Rattle.mail_message.specs.Boxes.{Content}
use Rattle.mail_store.specs.Append.{append_fault}
use Rattle.link_msg.specs.declared.ask.FrontAsk.{FrontAsk}
use Rattle.imap_types.specs.declared.op.Op.{Op}
use Rattle.imap_types.specs.declared.op.Op.TheVariants.{Look, Read, Summaries, Flags, Expunge, Append}
use Rattle.backend_core.specs.declared.backend.Backend.{Backend}
use Rattle.backend_core.specs.HomeStep.{HomeStep, BoxStep, held_at}
use Rattle.mail_store.specs.Kept.{IsLaterContent, AreUidsBelowNext}
use Rattle.backend_core.specs.Append.{append_step, append_within_limits}
use Rattle.backend_core.specs.Expunge.{expunge_step, expunge_to}
use Rattle.backend_core.specs.Flags.{flags_step, flags_to}
use Rattle.backend_core.specs.Look.{look_step}
use Rattle.backend_core.specs.Read.{read_step, read_to}
use Rattle.backend_core.specs.Served.{served}
use Rattle.backend_core.specs.Summaries.{summaries_step}
use Rattle.backend_core.specs.Step.{home_step, op_step}
use Rattle.backend_core.proofs.Follows.{append_follows, expunge_follows, flags_follow, read_follows}
use Rattle.backend_core.proofs.StaysBelow.{append_below, expunge_below, flags_below, read_below}

pub data Serves (home : Backend) (ask : FrontAsk) (op : Op) (step : HomeStep) : Type 0 where
  works : (operation : Content → BoxStep) → ((content : Content) → IsLaterContent content (operation content).content)
      → ((content : Content) → AreUidsBelowNext content → AreUidsBelowNext (operation content).content)
      → step ≡ served home ask.name ask.selected operation (held_at home ask.name) → Serves home ask op step
  tells : step.home ≡ home → Serves home ask op step

op_serves : (home : Backend) (ask : FrontAsk) (op : Op) → Serves home ask op (op_step home ask op)
unfolding op_step append_step look_step read_step summaries_step flags_step expunge_step
op_serves home ask (Append messages) =
    works (λ content. append_within_limits content messages (append_fault content messages)) (append_follows messages) (append_below messages) refl
op_serves home ask (Read uids sees) = works (λ content. read_to content uids sees) (read_follows uids sees) (read_below uids sees) refl
op_serves home ask (Flags uids mode flags) =
    works (λ content. flags_to content uids mode flags) (flags_follow uids mode flags) (flags_below uids mode flags) refl
op_serves home ask (Expunge only) = works (λ content. expunge_to content only) (expunge_follows only) (expunge_below only) refl
op_serves home ask Look = tells refl
op_serves home ask (Summaries uids) = tells refl
op_serves home ask op = tells refl

pub serves : (home : Backend) (ask : FrontAsk) → Serves home ask ask.op (home_step home ask)
unfolding home_step
serves home ask = op_serves home ask ask.op
