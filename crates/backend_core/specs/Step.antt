-- What an ask to a home of mailboxes is: what it leaves, and what is answered. AskPlan says what is written of it, and Plan what that makes.
use Rattle.link_msg.specs.declared.ask.FrontAsk.{FrontAsk}
use Rattle.imap_types.specs.declared.op.Op.{Op}
use Rattle.imap_types.specs.declared.op.Op.TheVariants.{Look, Read, Summaries, Flags, Expunge, Append}
use Rattle.backend_core.specs.declared.backend.Backend.{Backend}
use Rattle.backend_core.specs.HomeStep.{HomeStep, held_at, dropped}
use Rattle.backend_core.specs.Append.{append_step}
use Rattle.backend_core.specs.Expunge.{expunge_step}
use Rattle.backend_core.specs.Flags.{flags_step}
use Rattle.backend_core.specs.Look.{look_step}
use Rattle.backend_core.specs.Read.{read_step}
use Rattle.backend_core.specs.Summaries.{summaries_step}

-- an ask that is none for messages is dropped: CREATE and DELETE are back_node's, with the name master
unfoldable pub op_step : Backend → FrontAsk → Op → HomeStep
op_step home ask (Append messages) = append_step home ask.name ask.selected messages (held_at home ask.name)
op_step home ask Look = look_step home ask.selected (held_at home ask.name)
op_step home ask (Read uids sees) = read_step home ask.name ask.selected uids sees (held_at home ask.name)
op_step home ask (Summaries uids) = summaries_step home ask.selected uids (held_at home ask.name)
op_step home ask (Flags uids mode flags) = flags_step home ask.name ask.selected uids mode flags (held_at home ask.name)
op_step home ask (Expunge only) = expunge_step home ask.name ask.selected only (held_at home ask.name)
op_step home ask _ = dropped home

unfoldable pub home_step : Backend → FrontAsk → HomeStep
home_step home ask = op_step home ask ask.op
