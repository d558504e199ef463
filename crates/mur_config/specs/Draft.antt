-- What the fields of a configuration say, before names, numbers of nodes and values are looked at.
use Rattle.std.specs.Prelude.{ℕ, Bool, false, if◌then◌else◌, List, [], codes, Option, None, Some, option_map, option_and_then}
use Rattle.std.specs.Str.{bytes_eq}
use Rattle.serde_json.specs.Data.{Data}
use Rattle.serde_json.specs.Find.{get, as_number, as_bool, as_u64}
use Rattle.mur_config.specs.Json.{text_field, list_field, each_item}
use Rattle.mur_config.specs.declared.node.Kind.{Kind}
use Rattle.mur_config.specs.declared.node.Kind.TheVariants.{Master, Frontend, Backend}
use Rattle.mur_config.specs.declared.draft.PortField.{PortField}
use Rattle.mur_config.specs.declared.draft.PortField.TheVariants.{Missing, Whole, Other}
use Rattle.mur_config.specs.declared.draft.NodeDraft.{NodeDraft}
use Rattle.mur_config.specs.declared.draft.UserDraft.{UserDraft}
use Rattle.mur_config.specs.declared.draft.Draft.{Draft}

-- the kind of node that a text names
unfoldable pub kind_named : List ℕ → Option Kind
kind_named text =
    if bytes_eq text (codes "master") then Some Master
    else if bytes_eq text (codes "frontend") then Some Frontend
    else if bytes_eq text (codes "backend") then Some Backend
    else None

-- `partition`, which a backend needs; of another node it is passed over
unfoldable pub partition_field : Option Kind → Data → Option (List ℕ)
partition_field (Some Backend) value = text_field (codes "partition") value
partition_field (Some Master) value = Some []
partition_field (Some Frontend) value = Some []
partition_field None value = Some []

unfoldable pub port_said : Option ℕ → PortField
port_said (Some number) = Whole number
port_said None = Other

unfoldable pub port_at : Option Data → Option PortField
port_at None = Some Missing
port_at (Some value) = option_map (λ number. port_said (as_u64 number)) (as_number value)

-- `port`, a number if it is there
unfoldable pub port_field : Data → Option PortField
port_field value = port_at (get (codes "port") value)

abbrev pub node_said : List ℕ → Option Kind → List ℕ → PortField → NodeDraft
node_said name kind partition port = record { name = name; kind = kind; partition = partition; port = port }

-- a node: an object with the texts `name` and `kind`, for a backend `partition`, and optionally the number `port`
unfoldable pub node_draft : Data → Option NodeDraft
node_draft value =
    option_and_then (λ name. option_and_then (λ kind. option_and_then (λ partition. option_map (node_said name (kind_named kind) partition)
    (port_field value)) (partition_field (kind_named kind) value)) (text_field (codes "kind") value)) (text_field (codes "name") value)

unfoldable pub admin_at : Option Data → Option Bool
admin_at None = Some false
admin_at (Some value) = as_bool value

-- `admin`, a boolean if it is there
unfoldable pub admin_field : Data → Option Bool
admin_field value = admin_at (get (codes "admin") value)

abbrev pub user_said : List ℕ → List ℕ → Bool → UserDraft
user_said name password admin = record { name = name; password = password; admin = admin }

-- a user: an object with the texts `name` and `password`, and optionally the boolean `admin`
unfoldable pub user_draft : Data → Option UserDraft
user_draft value =
    option_and_then (λ name. option_and_then (λ password. option_map (user_said name password) (admin_field value)) (text_field (codes "password") value))
    (text_field (codes "name") value)

abbrev pub said : List NodeDraft → List UserDraft → List ℕ → Draft
said nodes users date = record { nodes = nodes; users = users; date = date }

-- a configuration: an object with the arrays `nodes` and `users`, and the text `date`. Other fields are passed over
unfoldable pub draft_of : Data → Option Draft
draft_of value =
    option_and_then (λ nodes. option_and_then (λ users. option_map (said nodes users) (text_field (codes "date") value)) (option_and_then (each_item user_draft) (list_field (codes "users") value)))
    (option_and_then (each_item node_draft) (list_field (codes "nodes") value))
