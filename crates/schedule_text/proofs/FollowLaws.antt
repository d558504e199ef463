-- What the tests of nodes and connections find is what may follow.
use Rattle.std.proofs.Common.{◌≡◌, ℕ, Bool, true, false, List, [], ◌∷◌, Option, None, Some, Ok, refl, subst}
use Rattle.std.specs.Option.{ok_or}
use Rattle.std.proofs.lemmas.Bool.{or_right, eqb-true, eq-eqb, false_from_ne_true}
use Rattle.mur_config.specs.Nodes.{node_named, are_linked}
use Rattle.mur_config.specs.declared.config.Config.{Config}
use Rattle.mur_config.specs.declared.node.Kind.{Kind}
use Rattle.mur_config.specs.declared.node.Kind.TheVariants.{Master, Frontend, Backend}
use Rattle.mur_config.specs.declared.node.Link.{Link}
use Rattle.mur_config.specs.declared.node.Node.{Node}
use Rattle.schedule_text.specs.declared.event.Event.{Event}
use Rattle.schedule_text.specs.declared.event.Event.TheVariants.{Open, Data, Hang, Deliver, Flow, Cut, Join, Crash, Arm, Start, Heal}
use Rattle.schedule_text.specs.declared.schedule.fault.Rule.TheVariants.{UnknownNode}
use Rattle.schedule_text.specs.MayFollow.{IsClientNode, AreLinkedNodes, Opens}
use Rattle.schedule_text.specs.MayFollow.Opens.{opens, opened}
use Rattle.schedule_text.specs.ScheduleNodes.{node_in, client_node_in, takes_clients, link_in}
use Rattle.schedule_text.specs.ScheduleOpened.{is_opened, opens_connection}
use Rattle.schedule_text.proofs.Steps.{both, kept_true}

some_node : (found : Option Node) (node : Node) → ok_or found UnknownNode ≡ Ok node → found ≡ Some node
some_node None node h = cc
some_node (Some found) node h = cc

named_by : (config : Config) (name : List ℕ) (node : Node) → node_in config name ≡ Ok node → node_named name config.nodes ≡ Some node
unfolding node_in
named_by config name node h = some_node (node_named name config.nodes) node h

node_read : (config : Config) (name : List ℕ) (node : Node) → node_named name config.nodes ≡ Some node → node_in config name ≡ Ok node
unfolding node_in
node_read config name node h = rw h refl

takes_by : (kind : Kind) → takes_clients kind ≡ true → kind ≡ Backend → ⊥
unfolding takes_clients
takes_by Master h same = cc
takes_by Frontend h same = cc
takes_by Backend h same = cc

takes_read : (kind : Kind) → (kind ≡ Backend → ⊥) → takes_clients kind ≡ true
unfolding takes_clients
takes_read Master h = refl
takes_read Frontend h = refl
takes_read Backend h = absurd (h refl)

pub is_client_node : (config : Config) (name node : List ℕ) → client_node_in config name ≡ Ok node → IsClientNode config name
unfolding client_node_in
is_client_node config name node h =
    let there = both (node_in config name) _ node h in
    record {
      node = there.0;
      named = named_by config name there.0 there.1;
      takes = takes_by there.0.kind (kept_true (takes_clients there.0.kind) name node UnknownNode there.2);
    }

pub client_node_read : (config : Config) (name : List ℕ) → IsClientNode config name → client_node_in config name ≡ Ok name
unfolding client_node_in
client_node_read config name is = rw (node_read config name is.node is.named, takes_read is.node.kind is.takes) refl

pub are_linked_nodes : (config : Config) (from to : List ℕ) (link : Link) → link_in config from to ≡ Ok link → AreLinkedNodes config from to
unfolding link_in
are_linked_nodes config from to link h =
    let sender = both (node_in config from) _ link h in
    let taker = both (node_in config to) _ link sender.2 in
    let named : Link = record { from = from; to = to } in
    record {
      sender = sender.0;
      taker = taker.0;
      sender_named = named_by config from sender.0 sender.1;
      taker_named = named_by config to taker.0 taker.1;
      linked = kept_true (are_linked sender.0 taker.0) named link UnknownNode taker.2;
    }

pub link_read : (config : Config) (from to : List ℕ) → AreLinkedNodes config from to → link_in config from to ≡ Ok (record { from = from; to = to })
unfolding link_in
link_read config from to are =
    rw (node_read config from are.sender are.sender_named, node_read config to are.taker are.taker_named, are.linked) refl

first_opens : (conn : ℕ) (event : Event) (events : List Event) → opens_connection conn event ≡ true → Opens conn (event ∷ events)
unfolding opens_connection
first_opens conn (Open node number) events h =
    subst (λ (n : ℕ). Opens conn (Open node n ∷ events)) (eqb-true conn number h) (opens node events)
first_opens conn (Data number bytes) events h = cc
first_opens conn (Hang number) events h = cc
first_opens conn (Deliver from to) events h = cc
first_opens conn (Flow count) events h = cc
first_opens conn (Cut one other to from) events h = cc
first_opens conn (Join one other) events h = cc
first_opens conn (Crash node image kept) events h = cc
first_opens conn (Arm node call image kept) events h = cc
first_opens conn (Start node) events h = cc
first_opens conn Heal events h = cc

opens_by : (conn : ℕ) (event : Event) (events : List Event) → (is_opened events conn ≡ true → Opens conn events)
    → (here : Bool) → opens_connection conn event ≡ here → is_opened (event ∷ events) conn ≡ true → Opens conn (event ∷ events)
unfolding is_opened
opens_by conn event events ih true e h = first_opens conn event events e
opens_by conn event events ih false e h = opened event events (ih (rw e at h))

pub opens_in : (events : List Event) (conn : ℕ) → is_opened events conn ≡ true → Opens conn events
unfolding is_opened
opens_in [] conn h = cc
opens_in (event ∷ events) conn h = opens_by conn event events (opens_in events conn) _ refl h

pub opened_in : (conn : ℕ) (events : List Event) → Opens conn events → is_opened events conn ≡ true
unfolding is_opened opens_connection
opened_in conn events (opens node more) = rw (eq-eqb conn conn refl) refl
opened_in conn events (opened event more h) = or_right (opens_connection conn event) _ (opened_in conn more h)

pub none_opens : (conn : ℕ) (events : List Event) → (Opens conn events → ⊥) → is_opened events conn ≡ false
none_opens conn events h = false_from_ne_true (is_opened events conn) (λ e. h (opens_in events conn e))

not_both : (b : Bool) → b ≡ false → b ≡ true → ⊥
not_both true e h = cc
not_both false e h = cc

pub opens_not : (conn : ℕ) (events : List Event) → is_opened events conn ≡ false → Opens conn events → ⊥
opens_not conn events e there = not_both (is_opened events conn) e (opened_in conn events there)
