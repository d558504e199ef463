-- Each node of a run stays what it was at the start.
use Rattle.std.proofs.Common.{◌≡◌, ℕ, Bool, true, false, List, [], ◌∷◌, Option, None, Some, refl, sym, ◌∙◌, ap, subst}
use Rattle.std.specs.Option.{IsSome}
use Rattle.cluster_core.specs.Flow.{run_steps}
use Rattle.cluster_core.specs.Headline.Backends.{IsBackend}
use Rattle.cluster_core.specs.World.{client_at, client_does, cuts_if, deliver_first, home_at, joins_if, may_cut, may_join, node_at, opens, start, stepped, steps_by, taken_from_link, takes, with_client}
use Rattle.cluster_core.specs.declared.world.Client.{Client}
use Rattle.cluster_core.specs.declared.world.World.{World}
use Rattle.link_msg.specs.declared.message.LinkMsg.{LinkMsg}
use Rattle.link_queue.specs.Links.{on_link}
use Rattle.mur_config.specs.Nodes.{AreNodes, is_node_of_kind, is_of_kind}
use Rattle.mur_config.specs.declared.config.Config.{Config}
use Rattle.mur_config.specs.declared.node.Kind.TheVariants.{Backend}
use Rattle.mur_config.specs.declared.node.Node.{Node}
use Rattle.node_step.specs.declared.input.NodeInput.{NodeInput}
use Rattle.node_step.specs.declared.input.NodeInput.TheVariants.{Opened, Piece, Hung, From}
use Rattle.schedule_text.specs.declared.event.Event.{Event}
use Rattle.schedule_text.specs.declared.event.Event.TheVariants.{Open, Data, Hang, Deliver, Cut, Join}
use Rattle.cluster_core.proofs.Links.Tells.{comes_kinds, kind_of}
use Rattle.cluster_core.proofs.Runs.NeverMoved.{home_by_kind, is_home_kind}
use Rattle.cluster_core.proofs.Starts.Begins.{Starts, starts}
use Rattle.cluster_core.proofs.Starts.Begins.Starts.{is_front, is_home, is_silent}

-- ---- an event

opens_kinds : (world : World) (node : List ℕ) (conn : ℕ) (found : Option Client) (any : List ℕ)
    → kind_of (node_at (opens world node conn found) any) ≡ kind_of (node_at world any)
unfolding opens
opens_kinds world node conn None any = comes_kinds (with_client world node conn) node (Opened conn) any
opens_kinds world node conn (Some there) any = refl

does_kinds : (world : World) (input : NodeInput) (found : Option Client) (any : List ℕ)
    → kind_of (node_at (client_does world input found) any) ≡ kind_of (node_at world any)
unfolding client_does
does_kinds world input None any = refl
does_kinds world input (Some client) any = comes_kinds world client.at input any

first_kinds : (world : World) (from to : List ℕ) (queue : List LinkMsg) (any : List ℕ)
    → kind_of (node_at (deliver_first world from to queue) any) ≡ kind_of (node_at world any)
unfolding deliver_first
first_kinds world from to [] any = refl
first_kinds world from to (message ∷ rest) any = comes_kinds (taken_from_link world from to) to (From from message) any

cut_kinds : (world : World) (one other : List ℕ) (k l : ℕ) (may : Bool) (any : List ℕ)
    → kind_of (node_at (cuts_if may world one other k l) any) ≡ kind_of (node_at world any)
unfolding cuts_if
cut_kinds world one other k l true any = refl
cut_kinds world one other k l false any = refl

join_kinds : (world : World) (one other : List ℕ) (may : Bool) (any : List ℕ) → kind_of (node_at (joins_if may world one other) any) ≡ kind_of (node_at world any)
unfolding joins_if
join_kinds world one other true any = refl
join_kinds world one other false any = refl

takes_kinds : (world : World) (event : Event) (any : List ℕ) → kind_of (node_at (takes world event) any) ≡ kind_of (node_at world any)
unfolding takes
takes_kinds world (Open node conn) any = opens_kinds world node conn (client_at world conn) any
takes_kinds world (Data conn bytes) any = does_kinds world (Piece conn bytes) (client_at world conn) any
takes_kinds world (Hang conn) any = does_kinds world (Hung conn) (client_at world conn) any
takes_kinds world (Deliver from to) any = first_kinds world from to (on_link world.links from to) any
takes_kinds world (Cut one other k l) any = cut_kinds world one other k l (may_cut world one other) any
takes_kinds world (Join one other) any = join_kinds world one other (may_join world one other) any
takes_kinds world event any = refl

-- ---- a run

pub run_kinds : (world : World) (steps : List Event) (any : List ℕ) → kind_of (node_at (run_steps world steps) any) ≡ kind_of (node_at world any)
unfolding run_steps
run_kinds world [] any = refl
run_kinds world (event ∷ steps) any = run_kinds (steps_by world event) steps any ∙ takes_kinds (stepped world) event any

-- a backend of the configuration is one
starts_home : (config : Config) (are : AreNodes config.nodes) (name : List ℕ) (node : Node) → node.kind ≡ Backend → Starts config are name (Some node)
    → IsSome (home_at (start config) name)
unfolding is_node_of_kind is_of_kind
starts_home config are name node is (is_home it begins front_kind back_kind master_kind) = subst IsSome (sym begins.at) refl
starts_home config are name node is (is_front it begins front_kind back_kind master_kind) =
    absurd (let no : true ≡ false = sym (rw is refl) ∙ back_kind in cc)
starts_home config are name node is (is_silent found it begins no_front no_back front_kind back_kind masters) =
    absurd (let no : true ≡ false = sym (rw is refl) ∙ back_kind in cc)

pub backends_stay : (config : Config) (steps : List Event) → AreNodes config.nodes → (name : List ℕ) → IsBackend config name
    → IsSome (home_at (run_steps (start config) steps) name)
backends_stay config steps are name is =
    let world : World = run_steps (start config) steps in
    home_by_kind (node_at world name) ∙ ap is_home_kind (run_kinds (start config) steps name) ∙ sym (home_by_kind (node_at (start config) name))
    ∙ starts_home config are name is.node is.kind (subst (Starts config are name) is.at (starts config are name))
