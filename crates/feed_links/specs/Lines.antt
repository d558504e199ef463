-- The messages that outputs of the master put on the link with a node, and whose line came to it.
use Rattle.std.specs.Prelude.{◌≡◌, ◌≢◌, ℕ, nat_eq, if◌then◌else◌, List, [], ◌∷◌, Option}
use Rattle.std.specs.Cmp.Lexicographic.{pointwise, slice_cmp}
use Rattle.std.specs.List.{flat_map}
use Rattle.std.specs.Ordering.{nat_cmp}
use Rattle.link_msg.specs.declared.message.LinkMsg.{LinkMsg}
use Rattle.link_msg.specs.declared.out.Out.{Out}
use Rattle.link_msg.specs.declared.out.Out.TheVariants.{Link}
use Rattle.master_core.specs.declared.master.Master.{Master}
use Rattle.master_core.specs.declared.sender.Sender.{Sender}
use Rattle.master_core.specs.declared.sender.Sender.TheVariants.{Backend, Frontend, Outside}
use Rattle.mupdate_codec.specs.declared.tag.Tag.{Tag}
use Rattle.mur_base.specs.Map.{value_at, IsInOrder}

abbrev pub message_to : List ℕ → Out → List LinkMsg
message_to node (Link to message) = if pointwise nat_eq to node then message ∷ [] else []
message_to node out = []

abbrev pub messages_to : List ℕ → List Out → List LinkMsg
messages_to node outs = flat_map (message_to node) outs

-- the line is of this node
abbrev pub IsOf : List ℕ → Sender → Type 0
IsOf node (Backend other) = other ≡ node
IsOf node (Frontend other) = other ≡ node
IsOf node (Outside conn) = ⊥

-- the line is of another node, or from outside
abbrev pub IsOfAnother : List ℕ → Sender → Type 0
IsOfAnother node (Backend other) = other ≢ node
IsOfAnother node (Frontend other) = other ≢ node
IsOfAnother node (Outside conn) = Unit {0}

-- the tag of the UPDATE that a node sent, if it sent one
abbrev pub stream_of : Master → List ℕ → Option Tag
stream_of master node = value_at (slice_cmp nat_cmp) master.streams node

-- the streams stand in the order of their nodes
abbrev pub HasStreams : Master → Type 0
HasStreams master = IsInOrder (slice_cmp nat_cmp) master.streams
