-- Above each UID that a step of a backend writes there is a UIDNEXT.
use Rattle.std.proofs.Common.{◌≡◌, ℕ, Result, Ok, Err, IfOk, sym, subst, List, [], ◌∷◌, Option, None, Some}
use Rattle.std.specs.List.{AllByRecursion}
use Rattle.std.specs.Option.{IfSome}
use Rattle.mupdate_codec.specs.declared.command.MResponse.{MResponse}
use Rattle.mupdate_codec.specs.declared.tag.Tag.{Tag}
use Rattle.link_msg.specs.declared.ask.FrontAsk.{FrontAsk}
use Rattle.node_record.specs.declared.backend.BackendRecord.{BackendRecord}
use Rattle.node_record.specs.Held.{EntryLeavesNext}
use Rattle.name_flows.specs.declared.ask.AskKind.{AskKind}
use Rattle.backend_core.specs.Plan.{back_plan}
use Rattle.backend_core.proofs.PlanNext.{next_planned}
use Rattle.back_node.specs.declared.node.BackNode.{BackNode}
use Rattle.back_node.specs.declared.rest.Rest.{Rest}
use Rattle.back_node.specs.Acted.{listed_entry}
use Rattle.back_node.specs.Takes.{UpToEntry, ask_by, line_by, name_ask, only_entry}
use Rattle.back_node.proofs.FlowNext.{next_asked, next_heard}

abbrev Next : UpToEntry → Type 0
Next it = IfSome it.rest.entry EntryLeavesNext

pub next_line : (node : BackNode) (line : Option (Tag × MResponse)) → Next (line_by node line)
next_line node None = tt
next_line node (Some it) = next_heard node.flows node.home.held it.0 it.1

next_only : (entries : List BackendRecord) → AllByRecursion EntryLeavesNext entries → IfSome (only_entry entries) EntryLeavesNext
next_only [] next = tt
next_only (entry ∷ entries) next = next.0

pub next_ask : (node : BackNode) (from : List ℕ) (ask : FrontAsk) (kind : Option AskKind) → Next (ask_by node from ask kind)
next_ask node from ask None =
    next_only (back_plan node.home from ask).entries (next_planned node.home from ask)
next_ask node from ask (Some kind) = next_asked node.flows node.home.held (name_ask from ask kind)

-- the rest of a step is what its definition says
pub next_rest : {E : Type 0} (result : Result Rest E) (after : BackNode) (it : UpToEntry) → IfOk result (λ rest. record { node = after; rest = rest } ≡ it)
    → Next it → IfOk result (λ rest. IfSome rest.entry EntryLeavesNext)
next_rest (Ok rest) after it is next = subst Next (sym is) next
next_rest (Err fault) after it is next = tt

pub next_as_list : (entry : Option BackendRecord) → IfSome entry EntryLeavesNext → AllByRecursion EntryLeavesNext (listed_entry entry)
next_as_list None next = tt
next_as_list (Some entry) next = (next, tt)
