-- What a home of mailboxes writes of an ask, and what it tells.
use Rattle.std.specs.Prelude.{Option, None, Some}
use Rattle.link_msg.specs.declared.ask.FrontAsk.{FrontAsk}
use Rattle.imap_types.specs.declared.op.Op.{Op}
use Rattle.imap_types.specs.declared.op.Op.TheVariants.{Look, Read, Summaries, Flags, Expunge, Append}
use Rattle.backend_core.specs.declared.backend.Backend.{Backend}
use Rattle.backend_core.specs.declared.op_plan.OpPlan.{OpPlan}
use Rattle.backend_core.specs.HomeStep.{held_at}
use Rattle.backend_core.specs.Append.{append_plan}
use Rattle.backend_core.specs.Expunge.{expunge_plan}
use Rattle.backend_core.specs.Flags.{flags_plan}
use Rattle.backend_core.specs.Look.{look_plan}
use Rattle.backend_core.specs.Read.{read_plan}
use Rattle.backend_core.specs.Summaries.{summaries_plan}

-- an ask that is none for messages, as CREATE and DELETE, is not carried out here, and not answered
unfoldable pub op_plan : Backend → FrontAsk → Op → Option OpPlan
op_plan home ask (Append messages) = Some (append_plan ask.name ask.selected messages (held_at home ask.name))
op_plan home ask Look = Some (look_plan ask.name ask.selected (held_at home ask.name))
op_plan home ask (Read uids sees) = Some (read_plan ask.name ask.selected uids sees (held_at home ask.name))
op_plan home ask (Summaries uids) = Some (summaries_plan ask.name ask.selected uids (held_at home ask.name))
op_plan home ask (Flags uids mode flags) = Some (flags_plan ask.name ask.selected uids mode flags (held_at home ask.name))
op_plan home ask (Expunge only) = Some (expunge_plan ask.name ask.selected only (held_at home ask.name))
op_plan home ask _ = None

unfoldable pub ask_plan : Backend → FrontAsk → Option OpPlan
ask_plan home ask = op_plan home ask ask.op
