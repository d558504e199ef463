-- The configuration that bytes spell, or the first rule that they break.
use Rattle.std.specs.Prelude.{◌≡◌, ℕ, Bool, false, ◌&&◌, ◌==◌, not, nat_lt, nat_le, is_none, is_some, if◌then◌else◌, List, length, map, filter, ⊤}
use Rattle.std.specs.Prelude.{Option, None, Some, option_map, option_and_then, Result, Ok, Err}
use Rattle.std.specs.List.{list_all}
use Rattle.serde_json.specs.Data.{Data}
use Rattle.mur_base.specs.Names.{short_name_fault}
use Rattle.mur_base.specs.Users.{is_password}
use Rattle.mur_base.specs.declared.limits.TheConstants.{FRONTEND_LIMIT, BACKEND_LIMIT}
use Rattle.mur_base.specs.declared.user.User.{User}
use Rattle.mail_message.specs.Date.{date_of}
use Rattle.mur_config.specs.Draft.{draft_of}
use Rattle.mur_config.specs.Json.{json_of, each_of}
use Rattle.mur_config.specs.Names.{names_differ}
use Rattle.mur_config.specs.Nodes.{is_of_kind, is_some_within, fits_kind}
use Rattle.mur_config.specs.declared.config.Config.{Config}
use Rattle.mur_config.specs.declared.draft.Draft.{Draft}
use Rattle.mur_config.specs.declared.draft.NodeDraft.{NodeDraft}
use Rattle.mur_config.specs.declared.draft.UserDraft.{UserDraft}
use Rattle.mur_config.specs.declared.draft.PortField.{PortField}
use Rattle.mur_config.specs.declared.draft.PortField.TheVariants.{Missing, Whole, Other}
use Rattle.mur_config.specs.declared.fault.ConfigFault.{ConfigFault}
use Rattle.mur_config.specs.declared.fault.ConfigFault.TheVariants.{NotJson, WrongField, UnknownKind, NameTwice, NodeCount, BadValue}
use Rattle.mur_config.specs.declared.fault.ConfigError.{ConfigError}
use Rattle.mur_config.specs.declared.fault.ConfigError.TheVariants.{Refused, Memory}
use Rattle.mur_config.specs.declared.node.Kind.{Kind}
use Rattle.mur_config.specs.declared.node.Kind.TheVariants.{Master, Frontend, Backend}
use Rattle.mur_config.specs.declared.node.Node.{Node}
use Rattle.mur_config.specs.declared.node.TheConstants.{MASTER_PORT, FRONTEND_PORT, NO_PORT}

unfoldable pub has_known_kind : NodeDraft → Bool
has_known_kind node = is_some node.kind

unfoldable pub is_kind : Kind → Option Kind → Bool
is_kind wanted None = false
is_kind wanted (Some kind) = is_of_kind wanted kind

unfoldable pub is_draft_of_kind : Kind → NodeDraft → Bool
is_draft_of_kind wanted node = is_kind wanted node.kind

unfoldable pub count_of_drafts : Kind → List NodeDraft → ℕ
count_of_drafts wanted nodes = length (filter (is_draft_of_kind wanted) nodes)

-- one master, and some frontends and backends
unfoldable pub has_draft_counts : List NodeDraft → Bool
has_draft_counts nodes =
    (count_of_drafts Master nodes == 1) && is_some_within FRONTEND_LIMIT (count_of_drafts Frontend nodes)
    && is_some_within BACKEND_LIMIT (count_of_drafts Backend nodes)

-- no two nodes have one name, and no two users
unfoldable pub has_own_names : Draft → Bool
has_own_names draft = names_differ (map (λ (node : NodeDraft). node.name) draft.nodes) && names_differ (map (λ (user : UserDraft). user.name) draft.users)

-- the port of a node that names none
unfoldable pub standard_port : Kind → ℕ
standard_port Master = MASTER_PORT
standard_port Frontend = FRONTEND_PORT
standard_port Backend = NO_PORT

-- a port is 1 to 65,535
unfoldable pub port_of : Kind → PortField → Option ℕ
port_of kind Missing = Some (standard_port kind)
port_of kind (Whole number) = if nat_lt 0 number && nat_le number 65535 then Some number else None
port_of kind Other = None

abbrev pub node_at : NodeDraft → Kind → ℕ → Node
node_at draft kind port = record { name = draft.name; kind = kind; partition = draft.partition; port = port }

unfoldable pub has_node_names : NodeDraft → Kind → Bool
has_node_names draft kind = is_none (short_name_fault draft.name) && fits_kind kind draft.partition

unfoldable pub node_of_kind : NodeDraft → Option Kind → Option Node
node_of_kind draft None = None
node_of_kind draft (Some kind) = if has_node_names draft kind then option_map (node_at draft kind) (port_of kind draft.port) else None

-- the node that a draft makes, if its name and its partition are names and its port is one
unfoldable pub node_of_draft : NodeDraft → Option Node
node_of_draft draft = node_of_kind draft draft.kind

abbrev pub user_at : UserDraft → User
user_at draft = record { name = draft.name; password = draft.password; admin = draft.admin }

-- the user that a draft makes, if its name is one and its password has 1 to 255 bytes without NUL
unfoldable pub user_of_draft : UserDraft → Option User
user_of_draft draft =
    if is_none (short_name_fault draft.name) && is_password draft.password then Some (record { name = draft.name; password = draft.password; admin = draft.admin }) else None

abbrev pub config_at : List Node → List User → List ℕ → Config
config_at nodes users date = record { nodes = nodes; users = users; date = date }

-- the configuration that a draft makes, if each of its values has its form
unfoldable pub values_of : Draft → Option Config
values_of draft =
    option_and_then (λ nodes. option_and_then (λ users. option_map (config_at nodes users) (date_of draft.date)) (each_of user_of_draft draft.users))
    (each_of node_of_draft draft.nodes)

unfoldable pub if_values : Option Config → Result Config ConfigFault
if_values None = Err BadValue
if_values (Some config) = Ok config

unfoldable pub config_from : Draft → Result Config ConfigFault
config_from draft =
    if not (list_all has_known_kind draft.nodes) then Err UnknownKind
    else if not (has_own_names draft) then Err NameTwice
    else if not (has_draft_counts draft.nodes) then Err NodeCount
    else if_values (values_of draft)

unfoldable pub if_fields : Option Draft → Result Config ConfigFault
if_fields None = Err WrongField
if_fields (Some draft) = config_from draft

unfoldable pub if_json : Option Data → Result Config ConfigFault
if_json None = Err NotJson
if_json (Some value) = if_fields (draft_of value)

-- the configuration that a text spells, or the first rule that it breaks
unfoldable pub config_of : List ℕ → Result Config ConfigFault
config_of bytes = if_json (json_of bytes)

-- a text is read as this: its configuration, or the rule by which it is refused, unless memory is wanting
abbrev pub IsReadAsConfig : Result Config ConfigFault → Result Config ConfigError → Type 0
IsReadAsConfig spelled (Ok config) = spelled ≡ Ok config
IsReadAsConfig spelled (Err (Refused fault)) = spelled ≡ Err fault
IsReadAsConfig spelled (Err Memory) = ⊤
