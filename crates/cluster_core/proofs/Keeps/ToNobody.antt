-- WHAT COMES TO A NODE THAT ISN'T THERE KEEPS THE LAW: it is lost.
use Rattle.std.proofs.Common.{◌≡◌, ◌≢◌, ℕ, List, ◌∷◌, None, Some, refl, sym, ◌∙◌, ap, subst, arith}
use Rattle.cluster_core.specs.World.{master_of, front_at, home_at, node_at, taken_from_link}
use Rattle.front_core.specs.declared.front.Front.{Front}
use Rattle.imap_talk.specs.Heard.{Heard}
use Rattle.link_msg.specs.declared.message.LinkMsg.{LinkMsg}
use Rattle.link_queue.specs.Links.{on_link}
use Rattle.many_links.specs.Murder.{Murder}
use Rattle.mur_config.specs.declared.config.Config.{Config}
use Rattle.node_step.specs.NodeStep.{as_back, as_front, as_master}
use Rattle.node_step.specs.declared.input.NodeInput.TheVariants.{From}
use Rattle.cluster_core.specs.declared.world.World.{World}
use Rattle.std.proofs.lemmas.Option.{same_Some}
use Rattle.cluster_core.proofs.Commands.InPlace.{IsInNone, IsInPlace}
use Rattle.cluster_core.proofs.Commands.Standing.{Fixed}
use Rattle.cluster_core.proofs.Connections.ConnectionLaw.{IsInNoneOf, IsInPlaceOf}
use Rattle.cluster_core.proofs.Connections.KeepsLaw.{KeepsLaw, KeepsOn, fixed_of, murder_of}
use Rattle.cluster_core.proofs.Connections.KeepsStill.{SeesAlike, same_client, still_kept}
use Rattle.cluster_core.proofs.Connections.Stays.{StaysInPlace, same_front}
use Rattle.cluster_core.proofs.Feeds.Others.{lost_feeds, lost_many, lost_nodes}
use Rattle.cluster_core.proofs.Nodes.AllCome.{all_come, none_all_come}
use Rattle.cluster_core.proofs.Steps.Murders.{IsFirstOn}
use Rattle.cluster_core.proofs.Steps.Nobody.{IsNobody, to_nobody_stays, to_nobody_stays_none}
use Rattle.cluster_core.proofs.Steps.Worlds.{in_murder, none_in_murder}

module _ (config : Config) (heard : ℕ → Heard) (world : World) (law : KeepsLaw config heard world) (from to : List ℕ) (message : LinkMsg)
    (rest : List LinkMsg) (none : node_at world to ≡ None) (first : on_link world.links from to ≡ message ∷ rest) where
  abbrev fixed : Fixed
  fixed = fixed_of config

  abbrev next : World
  next = taken_from_link world from to

  abbrev murder : Murder
  murder = murder_of world law.master

  front_none : front_at world to ≡ None
  unfolding as_front
  front_none = ap as_front none

  home_none : home_at world to ≡ None
  unfolding as_back
  home_none = ap as_back none

  apart : to ≢ master_of config
  unfolding as_master
  apart e = (let no : None ≡ Some law.master = ap as_master (sym none) ∙ ap (λ n. as_master (node_at world n)) e ∙ law.nodes.is_there in cc)

  nobody : IsNobody murder to
  nobody = record { no_master = λ e. apart (e ∙ law.nodes.me); no_home = home_none }

  is_first : IsFirstOn murder from to message
  is_first = record { rest = rest; first = first }

  in_place : (conn : ℕ) → StaysInPlace fixed conn world next
  in_place conn node was now before after command here is =
      let same : was ≡ now = same_Some _ _ (sym before ∙ after) in
      let ne : to ≢ node = (λ e. (let no : None ≡ Some was = sym front_none ∙ ap (front_at world) e ∙ before in cc)) in
      let stays = to_nobody_stays murder from to message node was.replica (record { conn = conn; command = command }) here nobody ne is_first
      (in_murder fixed world law.master law.nodes.me node was.replica (record { conn = conn; command = command }) here is) in
      subst (λ (f : Front). IsInPlaceOf fixed next node f.replica (record { conn = conn; command = command }) here) same
      (subst (λ m. IsInPlace m (home_at world) next.links node was.replica (record { conn = conn; command = command }) here) law.nodes.me stays)

  in_none : (conn : ℕ) → IsInNoneOf fixed world conn → IsInNoneOf fixed next conn
  in_none conn is =
      subst (λ m. IsInNone m (home_at world) next.links conn) law.nodes.me
      (to_nobody_stays_none murder from to message conn nobody is_first (none_in_murder fixed world law.master law.nodes.me conn is))

  alike : SeesAlike fixed world next
  alike = record {
    fronts = λ conn node. same_front conn (front_at world node) (front_at next node) refl;
    clients = λ conn. same_client refl;
    in_place = in_place;
    in_none = in_none;
    broken = refl;
    marks = refl;
    steps = omega arith;
  }

  keeps : KeepsOn config law.story law.stops heard next
  keeps =
      still_kept config heard heard world next law.master alike (λ conn. refl) law
      (lost_nodes config world law.master law.nodes from to front_none home_none apart)
      (lost_many config world law.master law.nodes from to front_none home_none apart law.given law.story.course.store law.many)
      (lost_feeds config world law.master law.nodes from to front_none home_none apart law.feeds)

  comes_so : KeepsOn config law.story law.stops heard (all_come next to (From from message))
  comes_so = subst (λ w. KeepsOn config law.story law.stops heard w) (sym (none_all_come next to (From from message) none)) keeps

-- A MESSAGE IS DELIVERED WHERE NO NODE IS
abbrev pub ToNobodyKeeps : Type 0
ToNobodyKeeps = (config : Config) (heard : ℕ → Heard) (world : World) (law : KeepsLaw config heard world) (from to : List ℕ) (message : LinkMsg)
    (rest : List LinkMsg) → node_at world to ≡ None → on_link world.links from to ≡ message ∷ rest
    → KeepsOn config law.story law.stops heard (all_come (taken_from_link world from to) to (From from message))

pub to_nobody_keeps : ToNobodyKeeps
to_nobody_keeps config heard world law from to message rest none first = comes_so config heard world law from to message rest none first
