-- A frontend takes whatever message comes to it first on a link, and the law is kept, where the names and the feeds are; one that tells of its link with the master is
-- told of beside.
use Rattle.std.proofs.Common.{◌≡◌, ◌≢◌, ◌⊎◌, inl, inr, ℕ, ◌+◌, Bool, List, [], ◌∷◌, length, Option, None, Some, refl, sym, subst}
use Rattle.std.proofs.Math.Logic.{⊎_elim}
use Rattle.ask_routes.specs.Barrier.{barrier_answered}
use Rattle.cluster_core.specs.Numbers.{NumbersFit}
use Rattle.cluster_core.specs.World.{master_of, front_at, home_at}
use Rattle.cluster_core.specs.declared.world.World.{World}
use Rattle.feed_core.specs.declared.replica.Replica.{Replica}
use Rattle.feed_links.specs.OneFeed.{IsFed, IsLine}
use Rattle.feed_links.specs.OneFeed.IsFed.{asks, is_told, comes_up, breaks_early, is_parted}
use Rattle.front_core.proofs.OneConnection.Places.{over_or}
use Rattle.front_core.specs.Ups.{is_up}
use Rattle.front_core.specs.declared.front.Front.{Front}
use Rattle.imap_talk.specs.Heard.{Heard}
use Rattle.link_msg.specs.declared.ask.FrontAsk.{FrontAsk}
use Rattle.link_msg.specs.declared.message.LinkMsg.{LinkMsg}
use Rattle.link_msg.specs.declared.message.LinkMsg.TheVariants.{Up, End, Line, Ask, Answer}
use Rattle.link_queue.specs.Broken.{is_broken}
use Rattle.link_queue.specs.Links.{on_link}
use Rattle.many_links.specs.Murder.{Nodes}
use Rattle.master_core.specs.declared.master.Master.{Master}
use Rattle.mur_base.specs.declared.point.AskId.{AskId}
use Rattle.mur_config.specs.declared.config.Config.{Config}
use Rattle.cluster_core.proofs.Answers.AnswerComes.{NamesBackend}
use Rattle.cluster_core.proofs.Answers.Ends.{OwnsClients, end_stands, up_stands}
use Rattle.cluster_core.proofs.Answers.Keeps.{IsTakenBy, answer_stands, ok_stands, taken_by}
use Rattle.cluster_core.proofs.Answers.LateOk.{late_ok_stands}
use Rattle.cluster_core.proofs.Answers.OtherMessages.{idle_stands, news_stand}
use Rattle.cluster_core.proofs.Connections.KeepsLaw.{KeepsLaw, KeepsOn}
use Rattle.cluster_core.proofs.Links.Stand.{LinksStand}
use Rattle.cluster_core.proofs.Places.Stays.{same_name_or}

-- a server that the message names is a backend
abbrev pub MessageNamesBackend : Nodes → List ℕ → LinkMsg → Type 0
MessageNamesBackend nodes from (Answer answer) = NamesBackend nodes answer.body
MessageNamesBackend nodes from message = Unit {0}

-- it tells of a link
abbrev pub TellsOfLink : LinkMsg → Type 0
TellsOfLink message = (message ≡ Up) ⊎ (message ≡ End)

-- A FRONTEND'S TAKING OF A MESSAGE KEEPS THE LAW, but for one that tells of its link with the master: its connections are those of its own clients, and no link ends
-- before one is cut
abbrev pub FrontTakesKeep : Type 0
FrontTakesKeep = (config : Config) (heard : ℕ → Heard) (world : World) (law : KeepsLaw config heard world) → LinksStand config world
    → (from to : List ℕ) (front : Front) (message : LinkMsg) → front_at world to ≡ Some front → OwnsClients world to front
    → IsTakenBy config heard world law from message to
    → MessageNamesBackend (home_at world) from message → (TellsOfLink message → from ≢ master_of config) → (message ≡ End → world.broken ≢ []) → NumbersFit heard
    → KeepsOn config law.story law.stops heard (taken_by config heard world law from message to)

-- ---- by its kind

ask_is_none : (ask : FrontAsk) → IsLine (Ask ask) → ⊥
ask_is_none ask is = (let no : Ask ask ≡ Line is.0 = is.1 in cc)

ask_tells_none : (ask : FrontAsk) → TellsOfLink (Ask ask) → ⊥
ask_tells_none ask tells = ⊎_elim (λ (up : Ask ask ≡ Up). cc) (λ (end : Ask ask ≡ End). cc) tells

first_up : (message : LinkMsg) (rest ends : List LinkMsg) → message ∷ rest ≡ Up ∷ ends → message ≡ Up
first_up message rest ends e = cc

-- the master sends a frontend lines, but for what tells of their link
pub master_says : (master : Master) (node : List ℕ) (broken reached : Bool) (up rest : List LinkMsg) (message : LinkMsg) (replica : Replica)
    → IsFed master node broken reached up (message ∷ rest) replica → IsLine message ⊎ TellsOfLink message
master_says master node broken reached up rest message replica (asks whole here before behind is one two lines four empty no_stream) = inl lines.0
master_says master node broken reached up rest message replica (is_told whole here one lines three four) = inl lines.0
master_says master node broken reached up rest message replica (comes_up whole here one is three) = inr (inl (first_up message rest [] is))
master_says master node broken reached up rest message replica (breaks_early one two three ends is four five six) = inr (inl (first_up message rest ends is))
master_says master node broken reached up rest message replica (is_parted one own lines few tag) = ⊎_elim (λ line. inl line) (λ end. inr (inr end)) lines.0

module _ (config : Config) (heard : ℕ → Heard) (world : World) (law : KeepsLaw config heard world) where
  abbrev Keeps : List ℕ → List ℕ → LinkMsg → Type 0
  Keeps from to message = KeepsOn config law.story law.stops heard (taken_by config heard world law from message to)

  -- what the master sends a frontend first
  pub first_of_master : (to : List ℕ) (front : Front) (message : LinkMsg) (rest : List LinkMsg) → front_at world to ≡ Some front
      → on_link world.links (master_of config) to ≡ message ∷ rest → IsLine message ⊎ TellsOfLink message
  first_of_master to front message rest there first =
      let me : List ℕ = master_of config in
      master_says law.master to (is_broken world.broken me to) (is_up front.ups me) (on_link world.links to me) rest message front.replica
      (subst (λ d. IsFed law.master to (is_broken world.broken me to) (is_up front.ups me) (on_link world.links to me) d front.replica) first
      ((law.feeds).each to front there).fed)

  not_ask : (to : List ℕ) (front : Front) (ask : FrontAsk) → front_at world to ≡ Some front → IsTakenBy config heard world law (master_of config) (Ask ask) to → ⊥
  not_ask to front ask there taken =
      ⊎_elim (λ line. ask_is_none ask line) (λ tells. ask_tells_none ask tells) (first_of_master to front (Ask ask) taken.rest there taken.first)

  line_by : LinksStand config world → (to : List ℕ) (front : Front) (bytes : List ℕ) (found : Option AskId) → front_at world to ≡ Some front
      → OwnsClients world to front → IsTakenBy config heard world law (master_of config) (Line bytes) to → NumbersFit heard
      → barrier_answered bytes ≡ found → Keeps (master_of config) to (Line bytes)
  line_by links to front bytes None there owns taken numbers is = news_stand config heard world law to front bytes there taken is
  line_by links to front bytes (Some id) there owns taken numbers is = ⊎_elim
      (λ over. late_ok_stands config heard world law to front bytes id there taken is over owns)
      (λ on. ok_stands config heard world law links to front bytes id there taken is on numbers)
      (over_or (length (law.story.told id.conn) + 1) (Line bytes))

  front_takes : LinksStand config world → (from to : List ℕ) (front : Front) (message : LinkMsg) → front_at world to ≡ Some front → OwnsClients world to front
      → IsTakenBy config heard world law from message to → MessageNamesBackend (home_at world) from message
      → (TellsOfLink message → from ≢ master_of config) → (message ≡ End → world.broken ≢ [])
      → NumbersFit heard → Keeps from to message
  front_takes links from to front (Answer answer) there owns taken names others cut numbers =
      answer_stands config heard world law links from to front answer there taken names numbers
  front_takes links from to front (Line bytes) there owns taken names others cut numbers = ⊎_elim
      (λ (e : from ≡ master_of config). subst (λ f. Keeps f to (Line bytes)) (sym e)
      (line_by links to front bytes (barrier_answered bytes) there owns (subst (λ f. IsTakenBy config heard world law f (Line bytes) to) e taken) numbers refl))
      (λ (ne : from ≢ master_of config). idle_stands config heard world law from to front (Line bytes) there taken ne ne)
      (same_name_or from (master_of config))
  front_takes links from to front Up there owns taken names others cut numbers =
      up_stands config heard world law from to front there taken (others (inl refl))
  front_takes links from to front End there owns taken names others cut numbers =
      end_stands config heard world law from to front there taken (others (inr refl)) owns (cut refl)
  front_takes links from to front (Ask ask) there owns taken names others cut numbers = ⊎_elim
      (λ (e : from ≡ master_of config). absurd (not_ask to front ask there (subst (λ f. IsTakenBy config heard world law f (Ask ask) to) e taken)))
      (λ (ne : from ≢ master_of config). idle_stands config heard world law from to front (Ask ask) there taken ne tt)
      (same_name_or from (master_of config))

pub front_takes_keep : FrontTakesKeep
front_takes_keep config heard world law links from to front message there owns taken names others cut numbers =
    front_takes config heard world law links from to front message there owns taken names others cut numbers
