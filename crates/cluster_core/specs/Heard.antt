-- What came from the client of a connection, event by event.
use Rattle.std.specs.Prelude.{ℕ, ◌==◌, Bool, true, false, if◌then◌else◌, List, [], ◌∷◌, ◌++◌, Option, None, Some}
use Rattle.imap_talk.specs.Heard.{Heard, nobody, elsewhere, client}
use Rattle.mur_config.specs.declared.config.Config.{Config}
use Rattle.mur_config.specs.declared.node.Kind.TheVariants.{Frontend}
use Rattle.mur_config.specs.declared.node.Node.{Node}
use Rattle.mur_config.specs.Nodes.{is_node_of_kind, node_named}
use Rattle.schedule_text.specs.declared.event.Event.{Event}
use Rattle.schedule_text.specs.declared.event.Event.TheVariants.{Open, Data, Hang}

abbrev pub is_frontend_node : Option Node → Bool
is_frontend_node None = false
is_frontend_node (Some node) = is_node_of_kind Frontend node

-- whether the configuration has a frontend of this name
abbrev pub is_frontend : Config → List ℕ → Bool
is_frontend config name = is_frontend_node (node_named name config.nodes)

abbrev pub opened_at : Bool → Heard
opened_at true = client [] false
opened_at false = elsewhere

abbrev pub heard_first : Config → ℕ → Event → Heard
heard_first config conn (Open node other) = if conn == other then opened_at (is_frontend config node) else nobody
heard_first config conn event = nobody

abbrev pub of_client : ℕ → List ℕ → Event → Heard
of_client conn bytes (Data other more) = if conn == other then client (bytes ++ more) false else client bytes false
of_client conn bytes (Hang other) = if conn == other then client bytes true else client bytes false
of_client conn bytes event = client bytes false

unfoldable pub hears : Config → ℕ → Heard → Event → Heard
hears config conn nobody event = heard_first config conn event
hears config conn elsewhere event = elsewhere
hears config conn (client bytes true) event = client bytes true
hears config conn (client bytes false) event = of_client conn bytes event

unfoldable pub heard_from : Config → ℕ → Heard → List Event → Heard
heard_from config conn heard [] = heard
heard_from config conn heard (event ∷ events) = heard_from config conn (hears config conn heard event) events

abbrev pub heard : Config → ℕ → List Event → Heard
heard config conn events = heard_from config conn nobody events
