-- The cluster of a drill: a master, two frontends, three backends, an administrator and eight users.
use Rattle.std.specs.Prelude.{ℕ, zero, suc, ◌+◌, true, false, List, [], ◌∷◌, ◌++◌, codes, decimal}
use Rattle.mur_base.specs.declared.user.User.{User}
use Rattle.mur_config.specs.declared.config.Config.{Config}
use Rattle.mur_config.specs.declared.node.Node.{Node}
use Rattle.mur_config.specs.declared.node.Kind.{Kind}
use Rattle.mur_config.specs.declared.node.Kind.TheVariants.{Master, Frontend, Backend}

unfoldable pub node_at : List ℕ → Kind → List ℕ → ℕ → Node
node_at name kind partition port = record { name = name; kind = kind; partition = partition; port = port }

-- each has the port that a configuration without one gives it
unfoldable pub drill_nodes : List Node
drill_nodes =
    node_at (codes "m") Master [] 3905
    ∷ node_at (codes "f1") Frontend [] 143
    ∷ node_at (codes "f2") Frontend [] 143
    ∷ node_at (codes "b1") Backend (codes "p") 0
    ∷ node_at (codes "b2") Backend (codes "p") 0
    ∷ node_at (codes "b3") Backend (codes "p") 0
    ∷ []

unfoldable pub administrator : User
administrator = record { name = codes "adm"; password = codes "x"; admin = true }

unfoldable pub user_numbered : ℕ → User
user_numbered number = record { name = codes "u" ++ decimal number; password = codes "p"; admin = false }

-- the administrator and the first users
unfoldable pub users_up_to : ℕ → List User
users_up_to zero = administrator ∷ []
users_up_to (suc before) = users_up_to before ++ user_numbered (before + 1) ∷ []

unfoldable pub drill_config : Config
drill_config = record { nodes = drill_nodes; users = users_up_to 8; date = codes "17-Jul-1996 02:44:25 -0700" }
