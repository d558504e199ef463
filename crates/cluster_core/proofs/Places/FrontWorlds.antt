-- What a frontend sends and takes leaves the commands of other connections where they are, in a world.
use Rattle.std.proofs.Common.{◌≡◌, ◌≢◌, ℕ, List, ◌∷◌, Some, refl, sym, ◌∙◌, subst}
use Rattle.ask_routes.specs.Barrier.{barrier_answered}
use Rattle.back_node.specs.declared.node.BackNode.{BackNode}
use Rattle.feed_core.specs.declared.replica.Replica.{Replica}
use Rattle.link_msg.specs.declared.answer.BackAnswer.{BackAnswer}
use Rattle.link_msg.specs.declared.ask.FrontAsk.{FrontAsk}
use Rattle.link_msg.specs.declared.message.LinkMsg.{LinkMsg}
use Rattle.link_msg.specs.declared.message.LinkMsg.TheVariants.{Line, Ask, Answer}
use Rattle.link_queue.specs.Links.{Links, on_link, sent}
use Rattle.many_links.specs.Murder.{Nodes}
use Rattle.mur_base.specs.declared.point.AskId.{AskId}
use Rattle.route_links.specs.Answered.{IsNumbered, noop_of}
use Rattle.cluster_core.specs.declared.world.World.{World}
use Rattle.cluster_core.specs.World.{home_at, taken_from_link}
use Rattle.cluster_core.proofs.Commands.InPlace.{IsInNone, IsInPlace, IsThere}
use Rattle.cluster_core.proofs.Commands.Place.{Place, Place as place}
use Rattle.cluster_core.proofs.Commands.Standing.{Fixed}
use Rattle.cluster_core.proofs.Connections.ConnectionLaw.{IsInPlaceOf, PlacesStay}
use Rattle.cluster_core.proofs.Places.FrontSends.{ask_leaves_others, noop_leaves_others}
use Rattle.cluster_core.proofs.Places.FrontTakes.{answer_leaves_others, ok_leaves_others}
use Rattle.cluster_core.proofs.Places.Stays.{IsFrontend, KeepsPlaces, keeps_same}

-- ---- what holds

-- a node is a frontend there
abbrev pub IsFrontendOf : Fixed → World → List ℕ → Type 0
IsFrontendOf fixed world front = IsFrontend fixed.master (home_at world) front

-- a message is sent
abbrev pub with_sent : World → List ℕ → List ℕ → LinkMsg → World
with_sent world from to message = record world { links = sent world.links from to message }

-- the backends are the same
abbrev pub SameHomes : World → World → Type 0
SameHomes before after = (name : List ℕ) → home_at after name ≡ home_at before name

-- with the same backends and links, whatever else changes
abbrev pub AlikeStay : Type 0
AlikeStay = (fixed : Fixed) (conn : ℕ) (before after : World) → SameHomes before after → after.links ≡ before.links → PlacesStay fixed conn before after

-- with the same backends, by the links
abbrev pub KeptStay : Type 0
KeptStay = (fixed : Fixed) (conn : ℕ) (before after : World) → SameHomes before after
    → KeepsPlaces fixed.master (home_at before) conn before.links after.links → PlacesStay fixed conn before after

-- a command in its place
abbrev pub MovesWith : Type 0
MovesWith = (fixed : Fixed) (before after : World) (front : List ℕ) (replica : Replica) (id : AskId) (here : Place) → SameHomes before after
    → IsInPlace fixed.master (home_at before) after.links front replica id here → IsInPlaceOf fixed after front replica id here

abbrev pub AskStays : Type 0
AskStays = (fixed : Fixed) (world : World) (front server : List ℕ) (node : BackNode) (ask : FrontAsk) (conn : ℕ) → IsFrontendOf fixed world front
    → home_at world server ≡ Some node → conn ≢ (ask.id).conn → PlacesStay fixed conn world (with_sent world front server (Ask ask))

abbrev pub NoopStays : Type 0
NoopStays = (fixed : Fixed) (world : World) (front : List ℕ) (id : AskId) (conn : ℕ) → IsFrontendOf fixed world front → IsNumbered id → conn ≢ id.conn
    → PlacesStay fixed conn world (with_sent world front fixed.master (noop_of id))

abbrev pub AnswerStays : Type 0
AnswerStays = (fixed : Fixed) (world : World) (from to : List ℕ) (answer : BackAnswer) (rest : List LinkMsg) (conn : ℕ) → IsFrontendOf fixed world to
    → on_link world.links from to ≡ Answer answer ∷ rest → conn ≢ (answer.id).conn → PlacesStay fixed conn world (taken_from_link world from to)

abbrev pub OkStays : Type 0
OkStays = (fixed : Fixed) (world : World) (to bytes : List ℕ) (told : AskId) (rest : List LinkMsg) (conn : ℕ) → IsFrontendOf fixed world to
    → on_link world.links fixed.master to ≡ Line bytes ∷ rest → barrier_answered bytes ≡ Some told → conn ≢ told.conn
    → PlacesStay fixed conn world (taken_from_link world fixed.master to)

-- ---- with other nodes that are the same backends

module _ (nodes later : Nodes) (alike : (name : List ℕ) → later name ≡ nodes name) where
  there_alike : (here : Place) → IsThere nodes here → IsThere later here
  there_alike place.nowhere there = tt
  there_alike (place.is_asked server ask) there = (there.0, alike server ∙ there.1)
  there_alike (place.is_answered server answer) there = (there.0, alike server ∙ there.1)
  there_alike (place.is_dropped server) there = (there.0, alike server ∙ there.1)
  there_alike (place.is_at me at) there = (there.0, alike me.server ∙ there.1, there.2)
  there_alike (place.is_barred at) there = tt

  pub in_place_alike : (master : List ℕ) (links : Links LinkMsg) (front : List ℕ) (replica : Replica) (id : AskId) (here : Place)
      → IsInPlace master nodes links front replica id here → IsInPlace master later links front replica id here
  in_place_alike master links front replica id here is = record {
    message = is.message;
    shows = λ name node at. is.shows name node (sym (alike name) ∙ at);
    barrier = is.barrier;
    there = there_alike here is.there;
  }

  pub in_none_alike : (master : List ℕ) (links : Links LinkMsg) (conn : ℕ) → IsInNone master nodes links conn → IsInNone master later links conn
  in_none_alike master links conn is = record { message = is.message; shows = λ name node at. is.shows name node (sym (alike name) ∙ at) }

pub kept_stay : KeptStay
kept_stay fixed conn before after alike keeps = record {
  in_place = λ front replica command here is.
      in_place_alike (home_at before) (home_at after) alike fixed.master after.links front replica (record { conn = conn; command = command }) here
      (keeps.in_place front replica command here is);
  in_none = λ is. in_none_alike (home_at before) (home_at after) alike fixed.master after.links conn (keeps.in_none is);
}

pub alike_stay : AlikeStay
alike_stay fixed conn before after alike links = kept_stay fixed conn before after alike
    (subst (KeepsPlaces fixed.master (home_at before) conn before.links) (sym links) (keeps_same fixed.master (home_at before) conn before.links))

pub stays_on : (fixed : Fixed) (conn : ℕ) (one two three : World) → PlacesStay fixed conn one two → PlacesStay fixed conn two three
    → PlacesStay fixed conn one three
stays_on fixed conn one two three first second = record {
  in_place = λ front replica command here is. second.in_place front replica command here (first.in_place front replica command here is);
  in_none = λ is. second.in_none (first.in_none is);
}

pub moves_with : MovesWith
moves_with fixed before after front replica id here alike is =
    in_place_alike (home_at before) (home_at after) alike fixed.master after.links front replica id here is

-- ---- what is sent and taken

pub ask_stays : AskStays
ask_stays fixed world front server node ask conn frontend at ne =
    kept_stay fixed conn world (with_sent world front server (Ask ask)) (λ name. refl)
    (ask_leaves_others fixed.master (home_at world) world.links front server node ask conn frontend at ne)

pub noop_stays : NoopStays
noop_stays fixed world front id conn frontend numbered ne =
    kept_stay fixed conn world (with_sent world front fixed.master (noop_of id)) (λ name. refl)
    (noop_leaves_others fixed.master (home_at world) world.links front id conn frontend numbered ne)

pub answer_stays : AnswerStays
answer_stays fixed world from to answer rest conn frontend first ne =
    kept_stay fixed conn world (taken_from_link world from to) (λ name. refl)
    (answer_leaves_others fixed.master (home_at world) world.links from to answer rest conn frontend first ne)

pub ok_stays : OkStays
ok_stays fixed world to bytes told rest conn frontend first ok ne =
    kept_stay fixed conn world (taken_from_link world fixed.master to) (λ name. refl)
    (ok_leaves_others fixed.master (home_at world) world.links to bytes told rest conn frontend first ok ne)
