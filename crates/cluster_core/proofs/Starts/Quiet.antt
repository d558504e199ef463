-- What links that come up make nodes send is about no connection, and gives no client anything; no step counts for a command.
use Rattle.std.proofs.Common.{◌≡◌, ℕ, nat_eq, Bool, true, false, if◌then◌else◌, List, [], ◌∷◌, ◌++◌, Option, None, Some, refl, sym, ◌∙◌, ap, subst, append-nil}
use Rattle.std.specs.List.{AllByRecursion}
use Rattle.std.specs.Cmp.Lexicographic.{pointwise}
use Rattle.back_node.specs.declared.node.BackNode.{BackNode}
use Rattle.back_node.specs.Node.{is_my_master}
use Rattle.back_node.specs.Takes.{UpToEntry, passed_over, taken_up, talks}
use Rattle.back_node.specs.Acted.{acted}
use Rattle.cluster_core.specs.declared.world.Client.{Client}
use Rattle.front_core.proofs.OneConnection.Places.{About, IsPlaced, about, about_command, nobody_whom, of_connection, of_nobody, others_sent, update_nobodys}
use Rattle.front_core.specs.declared.front.Front.{Front}
use Rattle.front_core.specs.Front.{deliver, up_from, with_up}
use Rattle.link_msg.specs.declared.message.LinkMsg.{LinkMsg}
use Rattle.link_msg.specs.declared.message.LinkMsg.TheVariants.{Up}
use Rattle.link_msg.specs.declared.out.Out.{Out}
use Rattle.link_msg.specs.declared.out.Out.TheVariants.{Client as to_client, Close, Link as to_node, Mark as mark, Told as tell}
use Rattle.link_queue.specs.Links.{Links, on_link}
use Rattle.many_links.specs.Murder.{put_all, put_out}
use Rattle.master_core.specs.Linked.{node_says}
use Rattle.mupdate_codec.specs.Asks.{ask_id_of, first_word, line_ask, split_dash}
use Rattle.mupdate_codec.specs.Tags.{mupdate_tag_text}
use Rattle.mupdate_codec.proofs.LineAsks.{command_under}
use Rattle.mur_config.specs.declared.node.Link.{Link}
use Rattle.node_step.specs.declared.input.NodeInput.TheVariants.{From}
use Rattle.node_step.specs.declared.node.NodeState.{NodeState}
use Rattle.node_step.specs.declared.node.NodeState.TheVariants as state
use Rattle.node_step.specs.NodeStep.{back_takes, front_takes, master_takes, takes as node_takes}
use Rattle.name_flows.specs.Lines.{command_of}
use Rattle.name_flows.specs.Listing.{resync_line, up_step}
use Rattle.cluster_core.specs.declared.world.World.{World}
use Rattle.cluster_core.specs.World.{node_at, told_up, with_ups}
use Rattle.cluster_core.proofs.Nodes.Carried.{given_all, given_out, is_made, made, marks_made}
use Rattle.cluster_core.proofs.Nodes.Comes.{comes_by, none_comes, wrote}
use Rattle.cluster_core.proofs.Starts.Ups.{up_acted}

-- messages about nobody, and nothing else
abbrev pub IsNobodys : Out → Type 0
IsNobodys (to_node other message) = about message ≡ of_nobody
IsNobodys out = ⊥

abbrev pub AreNobodys : List Out → Type 0
AreNobodys outs = AllByRecursion IsNobodys outs

resync_tells_none : line_ask (mupdate_tag_text resync_line.tag) ≡ None
unfolding line_ask mupdate_tag_text first_word ask_id_of split_dash
resync_tells_none = refl

front_ups : (front : Front) (same : Bool) → AreNobodys (up_from same front).outs
unfolding up_from
front_ups front true = (update_nobodys, tt)
front_ups front false = tt

back_ups : (home : BackNode) (same : Bool)
    → (let next : UpToEntry = if same then talks home (up_step home.flows) else passed_over home in AreNobodys (acted next.node next.rest).outs)
back_ups home true =
    (ap about_command (command_under resync_line.tag (command_of home.flows.me home.home.held resync_line.what) ∙ resync_tells_none), tt)
back_ups home false = tt

pub ups_nobodys : (it : NodeState) (from : List ℕ) → AreNobodys (up_acted it from).outs
unfolding node_takes front_takes back_takes master_takes deliver taken_up node_says
ups_nobodys (state.Front front) from = front_ups (with_up front from) (pointwise nat_eq from front.master)
ups_nobodys (state.Back home) from = back_ups home (is_my_master home from)
ups_nobodys (state.Master master) from = tt

-- ---- in a world

-- in which no client was given anything, no step counts, and nothing is on its way for a connection
pub record IsQuiet (world : World) : Type 0 where
  pub clients : world.clients ≡ []
  pub broken : world.broken ≡ []
  pub marks : world.marks ≡ []
  pub steps : world.steps ≡ 0
  pub placed : (conn : ℕ) → IsPlaced 0 (of_connection conn) world.links None

gives_none : (clients : List (ℕ × Client)) (outs : List Out) → AreNobodys outs → given_all clients outs ≡ clients
unfolding given_all given_out
gives_none clients [] are = refl
gives_none clients (to_node other message ∷ outs) are = gives_none clients outs are.1
gives_none clients (to_client conn bytes ∷ outs) are = absurd are.0
gives_none clients (Close conn ∷ outs) are = absurd are.0
gives_none clients (mark ask counts ∷ outs) are = absurd are.0
gives_none clients (tell ask how ∷ outs) are = absurd are.0

marks_none : (step : ℕ) (outs : List Out) → AreNobodys outs → marks_made step outs ≡ []
marks_none step [] are = refl
marks_none step (to_node other message ∷ outs) are = marks_none step outs are.1
marks_none step (to_client conn bytes ∷ outs) are = absurd are.0
marks_none step (Close conn ∷ outs) are = absurd are.0
marks_none step (mark ask counts ∷ outs) are = absurd are.0
marks_none step (tell ask how ∷ outs) are = absurd are.0

places_none : (conn : ℕ) (node : List ℕ) (links : Links LinkMsg) (outs : List Out) → AreNobodys outs → IsPlaced 0 (of_connection conn) links None
    → IsPlaced 0 (of_connection conn) (put_all node links outs) None
unfolding put_all put_out
places_none conn node links [] are placed = placed
places_none conn node links (to_node other message ∷ outs) are placed =
    places_none conn node (put_out node links (to_node other message)) outs are.1
    (others_sent links node other message (of_connection conn) (λ e. nobody_whom conn (sym are.0 ∙ e)) 0 None placed)
places_none conn node links (to_client c bytes ∷ outs) are placed = absurd are.0
places_none conn node links (Close c ∷ outs) are placed = absurd are.0
places_none conn node links (mark ask counts ∷ outs) are placed = absurd are.0
places_none conn node links (tell ask how ∷ outs) are placed = absurd are.0

made_quiet : (world : World) (node : List ℕ) (it : NodeState) (outs : List Out) → AreNobodys outs → IsQuiet world → IsQuiet (made world node it outs)
made_quiet world node it outs are quiet =
    let is = is_made world node it outs in
    record {
      clients = is.clients ∙ gives_none world.clients outs are ∙ quiet.clients;
      broken = is.broken ∙ quiet.broken;
      marks = is.marks ∙ ap (λ m. world.marks ++ m) (marks_none world.steps outs are) ∙ append-nil world.marks ∙ quiet.marks;
      steps = is.steps ∙ quiet.steps;
      placed = λ conn. subst (λ l. IsPlaced 0 (of_connection conn) l None) (sym is.links) (places_none conn node world.links outs are (quiet.placed conn));
    }

told_quiet : (world : World) (link : Link) (found : Option NodeState) → node_at world link.to ≡ found → IsQuiet world → IsQuiet (told_up world link)
told_quiet world link None at quiet = subst IsQuiet (sym (none_comes world link.to (From link.from Up) at)) quiet
told_quiet world link (Some it) at quiet =
    subst IsQuiet (sym (comes_by world link.to (From link.from Up) it quiet.broken at))
    (made_quiet (wrote world link.to it (From link.from Up)) link.to (up_acted it link.from).state (up_acted it link.from).outs (ups_nobodys it link.from)
    (record { clients = quiet.clients; broken = quiet.broken; marks = quiet.marks; steps = quiet.steps; placed = quiet.placed }))

pub ups_quiet : (world : World) (links : List Link) → IsQuiet world → IsQuiet (with_ups world links)
unfolding with_ups
ups_quiet world [] quiet = quiet
ups_quiet world (link ∷ links) quiet = ups_quiet (told_up world link) links (told_quiet world link (node_at world link.to) refl quiet)

pub no_place : (first : ℕ) (whom : About) → IsPlaced first whom [] None
unfolding on_link
no_place first whom a b = refl
