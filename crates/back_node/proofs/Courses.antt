-- The mailboxes are what the entries make.
use Rattle.std.proofs.Common.{◌≡◌, ℕ, List, [], ◌∷◌, ◌++◌, Option, None, Some, refl, ap, ◌∙◌}
use Rattle.std.specs.List.{fold}
use Rattle.mur_base.specs.declared.home.Location.{Location}
use Rattle.link_msg.specs.declared.message.LinkMsg.{LinkMsg}
use Rattle.node_record.specs.declared.backend.BackendRecord.{BackendRecord}
use Rattle.node_record.specs.Held.{Names, held_after, phases_of}
use Rattle.backend_core.specs.declared.backend.Backend.{Backend}
use Rattle.name_flows.specs.Steps.{held_with}
use Rattle.back_node.specs.declared.node.BackNode.{BackNode}
use Rattle.back_node.specs.Acted.{home_with, listed_entry}
use Rattle.back_node.specs.Node.{new_node}
use Rattle.back_node.specs.NodeLaws.{after_messages, entries_of_messages}
use Rattle.back_node.specs.Takes.{UpToEntry, node_takes, taken_up}
use Rattle.back_node.proofs.Rows.{each_row}

-- up to the entry of a step the mailboxes are as they were
pub home_waits : (node : BackNode) (from : List ℕ) (message : LinkMsg) → (taken_up node from message).node.home ≡ node.home
home_waits node from message = each_row (λ (it : UpToEntry). it.node.home ≡ node.home) node from message
    (record {
      nothing = refl;
      up = refl;
      ended = refl;
      heard = λ tag it. refl;
      named = λ ask kind is named. refl;
      served = λ ask is none. refl;
    })

pub with_one : (home : Backend) (entry : Option BackendRecord) → (home_with home entry).held ≡ held_with home.held entry
with_one home None = refl
with_one home (Some entry) = refl

pub one_entry : (node : BackNode) (from : List ℕ) (message : LinkMsg)
    → (node_takes node from message).state.home.held ≡ held_with node.home.held (node_takes node from message).entry
one_entry node from message =
    with_one (taken_up node from message).node.home (taken_up node from message).rest.entry
    ∙ ap (λ (home : Backend). held_with home.held (taken_up node from message).rest.entry) (home_waits node from message)

more : (held : Names) (entry : Option BackendRecord) (entries : List BackendRecord)
    → fold held_after (held_with held entry) entries ≡ fold held_after held (listed_entry entry ++ entries)
more held None entries = refl
more held (Some entry) entries = refl

pub all_entries : (node : BackNode) (all : List (List ℕ × LinkMsg))
    → (after_messages node all).home.held ≡ fold held_after node.home.held (entries_of_messages node all)
unfolding after_messages entries_of_messages
all_entries node [] = refl
all_entries node (it ∷ all) =
    let step = node_takes node it.0 it.1 in
    all_entries step.state all
    ∙ ap (λ (held : Names). fold held_after held (entries_of_messages step.state all)) (one_entry node it.0 it.1)
    ∙ more node.home.held step.entry (entries_of_messages step.state all)

pub entries_from_start : (me : Location) (master : List ℕ) (all : List (List ℕ × LinkMsg))
    → (after_messages (new_node me master) all).home.held ≡ phases_of (entries_of_messages (new_node me master) all)
entries_from_start me master all = all_entries (new_node me master) all
