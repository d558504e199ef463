-- What an event but a cut leaves out of what is on links about connections: nothing of what the master sends, but where it takes a message over a broken link.
use Rattle.std.proofs.Common.{◌≡◌, ◌≢◌, ℕ, Bool, true, false, List, [], ◌∷◌, ◌++◌, Option, None, Some, filter, refl, sym, ◌∙◌, ap, subst, append-nil}
use Rattle.std.proofs.Math.Logic.{⊎_elim}
use Rattle.std.proofs.lemmas.List.Elements.{filter-append}
use Rattle.std.specs.Cmp.Lexicographic.{slice_cmp}
use Rattle.std.specs.Ordering.{nat_cmp}
use Rattle.cluster_core.specs.World.{client_at, client_does, comes, deliver_first, node_at, opens, taken_from_link, takes, with_client}
use Rattle.cluster_core.specs.declared.world.Client.{Client}
use Rattle.cluster_core.specs.declared.world.World.{World}
use Rattle.feed_links.specs.Lines.{messages_to}
use Rattle.front_core.proofs.OneConnection.Places.{is_about, of_connection}
use Rattle.link_msg.specs.declared.message.LinkMsg.{LinkMsg}
use Rattle.link_queue.specs.Broken.{Broken, is_broken}
use Rattle.link_queue.specs.Links.{Links, on_link}
use Rattle.master_core.specs.Whose.{TellNobody}
use Rattle.master_core.specs.declared.master.Master.{Master}
use Rattle.mur_base.proofs.MapLaws.{names_apart, same_or_other}
use Rattle.node_step.specs.NodeStep.{master_takes, takes as node_takes}
use Rattle.node_step.specs.declared.input.NodeInput.{NodeInput}
use Rattle.node_step.specs.declared.input.NodeInput.TheVariants.{Opened, Piece, Hung, From}
use Rattle.node_step.specs.declared.node.NodeState.TheVariants as state
use Rattle.schedule_text.specs.declared.event.Event.{Event}
use Rattle.schedule_text.specs.declared.event.Event.TheVariants.{Open, Data, Hang, Deliver, Cut, Join}
use Rattle.cluster_core.proofs.Links.SaysElse.{does_nobodys, none_about}
use Rattle.cluster_core.proofs.Links.Streams.{IsNotFrom}
use Rattle.cluster_core.proofs.Nodes.AllCome.{all_come, all_first, all_of_client, all_open, all_takes}
use Rattle.cluster_core.proofs.Nodes.Comes.{master_does}
use Rattle.cluster_core.proofs.Nodes.Thins.{IsNoCut, comes_else, comes_thinned, cut_own}
use Rattle.cluster_core.proofs.Runs.OneNodeLaw.{comes_broken}

-- of each connection the master's links have what they have where nothing is lost
abbrev pub OksStay : List ℕ → Links LinkMsg → Links LinkMsg → Type 0
OksStay me next all = (conn first : ℕ) (node : List ℕ) → filter (is_about first (of_connection conn)) (on_link next me node)
    ≡ filter (is_about first (of_connection conn)) (on_link all me node)

-- where the master takes a message it does so over a link that isn't broken
abbrev pub IsTimely : List ℕ → World → Event → Type 0
IsTimely me world (Deliver from to) = (message : LinkMsg) (rest : List LinkMsg) → on_link world.links from to ≡ message ∷ rest → to ≡ me
    → is_broken world.broken me from ≡ false
IsTimely me world event = Unit {0}

outs_are : (master : Master) (input : NodeInput) → (node_takes (state.Master master) input).outs ≡ (master_does master input).outs
unfolding node_takes master_takes
outs_are master (Opened conn) = refl
outs_are master (Piece conn bytes) = refl
outs_are master (Hung conn) = refl
outs_are master (From name message) = refl

module _ (me : List ℕ) (master : Master) (nobodys : TellNobody master.streams) where
  -- it comes from no node whose link from the master is broken
  abbrev NotLate : World → List ℕ → NodeInput → Type 0
  NotLate world node input = node ≡ me → (b : List ℕ) → is_broken world.broken me b ≡ true → IsNotFrom b input

  own_oks : (world : World) (input : NodeInput) → node_at world me ≡ Some (state.Master master) → (conn first : ℕ) (b : List ℕ)
      → is_broken world.broken me b ≡ true → IsNotFrom b input
      → filter (is_about first (of_connection conn)) (on_link (comes world me input).links me b)
      ≡ filter (is_about first (of_connection conn)) (on_link (all_come world me input).links me b)
  own_oks world input there conn first b cut not =
      let own = cut_own world me b input (state.Master master) there cut in
      let sent : List LinkMsg = messages_to b (master_does master input).outs in
      ap (filter (is_about first (of_connection conn))) own.left
      ∙ sym (ap (filter (is_about first (of_connection conn))) (own.sent ∙ ap (λ o. on_link world.links me b ++ messages_to b o) (outs_are master input))
      ∙ filter-append (is_about first (of_connection conn)) (on_link world.links me b) sent
      ∙ ap (λ l. filter (is_about first (of_connection conn)) (on_link world.links me b) ++ l)
      (none_about first conn sent (does_nobodys master b input not nobodys))
      ∙ append-nil (filter (is_about first (of_connection conn)) (on_link world.links me b)))

  comes_oks : (world : World) (node : List ℕ) (input : NodeInput) → node_at world me ≡ Some (state.Master master) → NotLate world node input
      → OksStay me (comes world node input).links (all_come world node input).links
  comes_oks world node input there not conn first b = by (is_broken world.broken me b) refl
    where
      by : (cut : Bool) → is_broken world.broken me b ≡ cut → filter (is_about first (of_connection conn)) (on_link (comes world node input).links me b)
          ≡ filter (is_about first (of_connection conn)) (on_link (all_come world node input).links me b)
      by false e =
          ap (filter (is_about first (of_connection conn)))
          (let thin = comes_thinned world node input in
          thin.whole me b (ap (λ (broken : Broken). is_broken broken me b) (sym thin.broken ∙ comes_broken world node input (node_at world node)) ∙ e))
      by true e = ⊎_elim
          (λ (its : me ≡ node).
          subst (λ n. filter (is_about first (of_connection conn)) (on_link (comes world n input).links me b)
          ≡ filter (is_about first (of_connection conn)) (on_link (all_come world n input).links me b)) its
          (own_oks world input there conn first b e (not (sym its) b e)))
          (λ (ne : me ≢ node). ap (filter (is_about first (of_connection conn))) (comes_else world node input me b ne))
          (same_or_other (slice_cmp nat_cmp) names_apart me node)

  -- ---- an event

  opens_oks : (world : World) (node : List ℕ) (conn : ℕ) (found : Option Client) → node_at world me ≡ Some (state.Master master)
      → OksStay me (opens world node conn found).links (all_open world node conn found).links
  unfolding opens all_open
  opens_oks world node conn None there = comes_oks (with_client world node conn) node (Opened conn) there (λ e b cut. tt)
  opens_oks world node conn (Some was) there = λ other first b. refl

  piece_oks : (world : World) (conn : ℕ) (bytes : List ℕ) (found : Option Client) → node_at world me ≡ Some (state.Master master)
      → OksStay me (client_does world (Piece conn bytes) found).links (all_of_client world (Piece conn bytes) found).links
  unfolding client_does all_of_client
  piece_oks world conn bytes None there = λ other first b. refl
  piece_oks world conn bytes (Some client) there = comes_oks world client.at (Piece conn bytes) there (λ e b cut. tt)

  hung_oks : (world : World) (conn : ℕ) (found : Option Client) → node_at world me ≡ Some (state.Master master)
      → OksStay me (client_does world (Hung conn) found).links (all_of_client world (Hung conn) found).links
  unfolding client_does all_of_client
  hung_oks world conn None there = λ other first b. refl
  hung_oks world conn (Some client) there = comes_oks world client.at (Hung conn) there (λ e b cut. tt)

  first_oks : (world : World) (from to : List ℕ) (queue : List LinkMsg) → on_link world.links from to ≡ queue → node_at world me ≡ Some (state.Master master)
      → IsTimely me world (Deliver from to) → OksStay me (deliver_first world from to queue).links (all_first world from to queue).links
  unfolding deliver_first all_first
  first_oks world from to [] first there timely = λ other number b. refl
  first_oks world from to (message ∷ rest) first there timely =
      comes_oks (taken_from_link world from to) to (From from message) there
      (λ e b cut same. (let no : true ≡ false = sym cut ∙ ap (is_broken world.broken me) (sym same) ∙ timely message rest first e in true_false no))
    where
      true_false : true ≡ false → ⊥
      true_false k = cc

  pub takes_oks : (world : World) (event : Event) → IsNoCut event → node_at world me ≡ Some (state.Master master) → IsTimely me world event
      → OksStay me (takes world event).links (all_takes world event).links
  unfolding takes all_takes
  takes_oks world (Open node conn) is there timely = opens_oks world node conn (client_at world conn) there
  takes_oks world (Data conn bytes) is there timely = piece_oks world conn bytes (client_at world conn) there
  takes_oks world (Hang conn) is there timely = hung_oks world conn (client_at world conn) there
  takes_oks world (Deliver from to) is there timely = first_oks world from to (on_link world.links from to) refl there timely
  takes_oks world (Cut one other kept left) is there timely = absurd is
  takes_oks world (Join one other) is there timely = absurd is
  takes_oks world event is there timely = λ other first b. refl
