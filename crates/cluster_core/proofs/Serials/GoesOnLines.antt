-- What is between a backend and the master about a connection is of the command that its client wasn't told of: nothing is left there of one that is over.
use Rattle.std.proofs.Common.{◌≡◌, ℕ, ◌+◌, ◌≤◌, false, List, ◌∷◌, length, None, Some, ◌∙◌, ap}
use Rattle.std.specs.Option.{IsSome}
use Rattle.back_node.specs.declared.node.BackNode.{BackNode}
use Rattle.feed_core.specs.declared.replica.Replica.{Replica}
use Rattle.front_core.proofs.OneConnection.Places.{IsPlaced, about, about_command, first_of, is_over, line_from, none_over, of_connection}
use Rattle.imap_talk.specs.Heard.{Heard}
use Rattle.imap_talk.specs.Transcript.{Stop}
use Rattle.link_msg.specs.declared.message.LinkMsg.{LinkMsg}
use Rattle.link_msg.specs.declared.message.LinkMsg.TheVariants.{Line}
use Rattle.link_queue.proofs.Placed.{Carried}
use Rattle.link_queue.specs.Links.{on_link}
use Rattle.many_links.specs.Murder.{Murder}
use Rattle.mupdate_codec.specs.Asks.{line_ask}
use Rattle.mur_base.specs.declared.point.AskId.{AskId}
use Rattle.mur_config.specs.declared.config.Config.{Config}
use Rattle.cluster_core.specs.World.{home_at, master_of}
use Rattle.cluster_core.specs.declared.world.World.{World}
use Rattle.cluster_core.proofs.Commands.Place.{Place}
use Rattle.cluster_core.proofs.Commands.Standing.{next_id}
use Rattle.cluster_core.proofs.Connections.KeepsLaw.{ConnectionIs, KeepsLaw, fixed_of, murder_of}
use Rattle.cluster_core.proofs.Connections.KeepsLaw.ConnectionIs.{is_closed, is_cut_off, is_elsewhere, is_nobody, is_open}
use Rattle.cluster_core.proofs.Routing.Makes.{has_home}
use Rattle.cluster_core.proofs.Steps.Heads.{line_down_on, line_up_on}
use Rattle.cluster_core.proofs.Steps.Murders.{IsIn}
use Rattle.cluster_core.proofs.Steps.Worlds.{in_murder}

module _ (config : Config) (heard : ℕ → Heard) (world : World) (law : KeepsLaw config heard world) (server : List ℕ) (backend : BackNode)
    (there : home_at world server ≡ Some backend) (message : LinkMsg) (rest : List LinkMsg) (conn : ℕ) (own : about message ≡ of_connection conn) where
  abbrev id : AskId
  id = next_id conn (law.story.told conn)

  abbrev murder : Murder
  murder = murder_of world law.master

  abbrev IsOn : Type 0
  IsOn = is_over id.command message ≡ false

  none_some : (it : Carried LinkMsg) → None ≡ Some it → IsOn
  none_some it e = absurd (let no : None ≡ Some it = e in cc)

  none_first : (from to : List ℕ) → on_link world.links from to ≡ message ∷ rest → IsPlaced 0 (of_connection conn) world.links None → IsOn
  none_first from to first placed =
      let found = (first_of 0 world.links from to message rest (of_connection conn) None first own (none_over message) placed).0 in
      none_some (record { from = from; to = to; message = message }) found

  on_by : (from to : List ℕ) → on_link world.links from to ≡ message ∷ rest → ((node : List ℕ) (replica : Replica) (here : Place) → IsIn murder node replica id here → IsOn)
      → (stop : Stop) (was : Heard) → ConnectionIs (fixed_of config) conn world law.story stop was → IsOn
  on_by from to first goes stop was (is_nobody none fronts untold) = none_first from to first untold.nothing.message
  on_by from to first goes stop was (is_elsewhere node given at none untold) = none_first from to first untold.nothing.message
  on_by from to first goes stop was (is_open bytes node front connection at reader standing) =
      goes node front.replica standing.here (in_murder (fixed_of config) world law.master law.nodes.me node front.replica id standing.here standing.placed)
  on_by from to first goes stop was (is_cut_off bytes node front connection at gone unanswered) =
      goes node front.replica gone.here (in_murder (fixed_of config) world law.master law.nodes.me node front.replica id gone.here gone.placed)
  on_by from to first goes stop was (is_closed _ bytes node front connection at gone) =
      goes node front.replica gone.here (in_murder (fixed_of config) world law.master law.nodes.me node front.replica id gone.here gone.placed)

  -- the first from the backend
  pub up_is_on : on_link world.links server (master_of config) ≡ message ∷ rest → IsOn
  up_is_on first =
      on_by server (master_of config) first
      (λ node replica here is. line_up_on murder node replica id here server backend there message own is
      (record { rest = rest; first = ap (on_link world.links server) law.nodes.me ∙ first }))
      (law.stops conn) (heard conn) (law.connections conn)

  -- the first from the master
  pub down_is_on : on_link world.links (master_of config) server ≡ message ∷ rest → IsOn
  down_is_on first =
      on_by (master_of config) server first
      (λ node replica here is. line_down_on murder node replica id here server backend there message own is
      (record { rest = rest; first = ap (λ m. on_link world.links m server) law.nodes.me ∙ first }))
      (law.stops conn) (heard conn) (law.connections conn)

-- a line of a backend
pub line_is_on : (config : Config) (heard : ℕ → Heard) (world : World) (law : KeepsLaw config heard world) → (from line : List ℕ) (rest : List LinkMsg) (id : AskId)
    → IsSome (home_at world from) → on_link world.links from (master_of config) ≡ Line line ∷ rest → line_ask line ≡ Some id
    → length (law.story.told id.conn) + 1 ≤ id.command
line_is_on config heard world law from line rest id home first its =
    let node = has_home (home_at world from) home in
    line_from (length (law.story.told id.conn) + 1) line id its
    (up_is_on config heard world law from node.0 node.1 (Line line) rest id.conn (ap about_command its) first)
