-- What a client from outside does at the master keeps the law.
use Rattle.std.proofs.Common.{◌≡◌, ◌≢◌, ℕ, ◌++◌, List, Some, sym, ◌∙◌, ap, subst, arith}
use Rattle.std.proofs.Math.Logic.{⊎_elim}
use Rattle.std.proofs.lemmas.Bool.{cases_eq}
use Rattle.cluster_core.specs.World.{master_of, client_at, front_at, with_state}
use Rattle.front_core.specs.declared.front.Front.{Front}
use Rattle.imap_talk.specs.Heard.{Heard}
use Rattle.master_core.specs.declared.master.Master.{Master}
use Rattle.master_core.specs.Outside.{Stepped as Served}
use Rattle.master_core.proofs.DialogLaw.{bytes_of}
use Rattle.master_core.proofs.OutsideAlone.{AreItsOwn, bytes_alone, connects_alone}
use Rattle.mur_config.specs.declared.config.Config.{Config}
use Rattle.node_step.specs.declared.input.NodeInput.{NodeInput}
use Rattle.node_step.specs.declared.input.NodeInput.TheVariants.{Opened, Piece, Hung, From}
use Rattle.node_step.specs.declared.node.NodeState.TheVariants as state
use Rattle.cluster_core.specs.declared.world.World.{World}
use Rattle.std.proofs.lemmas.Option.{same_Some}
use Rattle.cluster_core.proofs.Connections.ConnectionLaw.{PlacesStay}
use Rattle.cluster_core.proofs.Connections.GivenAlone.{GivenAlone, given_alone}
use Rattle.cluster_core.proofs.Connections.KeepsLaw.{KeepsLaw, KeepsOn, fixed_of}
use Rattle.cluster_core.proofs.Connections.KeepsStill.{ClientStays, IsOfConnection, MasterServes, SeesAlike, still_kept, of_client}
use Rattle.cluster_core.proofs.Connections.KeepsStill.ClientStays.{same_client, given_elsewhere}
use Rattle.cluster_core.proofs.Connections.Stays.{ReplicasStay, fixed_places, same_front}
use Rattle.cluster_core.proofs.Feeds.AtMaster.{master_serves_feeds}
use Rattle.cluster_core.proofs.Feeds.Many.{master_serves_many}
use Rattle.cluster_core.proofs.Nodes.AllCome.{all_come, master_all_come}
use Rattle.cluster_core.proofs.Nodes.Comes.{MasterMoved, master_does, master_moved, master_no_front_at, with_master, client_writes}
use Rattle.cluster_core.proofs.Nodes.Stay.{master_keeps_nodes}
use Rattle.cluster_core.proofs.Places.FrontWorlds.{alike_stay}

its_own : (master : Master) (conn : ℕ) (input : NodeInput) → IsOfConnection conn input → AreItsOwn conn (master_does master input).outs
unfolding AreItsOwn
its_own master conn (Opened other) is = subst (λ c. AreItsOwn c (master_does master (Opened other)).outs) is (connects_alone master other).own
its_own master conn (Piece other bytes) is = subst (λ c. AreItsOwn c (master_does master (Piece other bytes)).outs) is (bytes_alone master other bytes).own
its_own master conn (Hung other) is = tt
its_own master conn (From name message) is = absurd is

-- all but the client's bytes, and the master's own connections, is as it was
module _ (config : Config) (heard : ℕ → Heard) (world : World) (conn : ℕ) (input : NodeInput) (given : List ℕ) (law : KeepsLaw config heard world)
    (is : IsOfConnection conn input) (at : client_at world conn ≡ Some (record { at = master_of config; given = given })) where
  abbrev me : List ℕ
  me = master_of config

  abbrev served : Served
  served = master_does law.master input

  abbrev next : World
  next = with_master world me served

  abbrev put : World
  put = with_state world me (state.Master served.master)

  moved : MasterMoved world me served.master next
  moved = master_moved world me law.master served (law.nodes).is_there

  alone : GivenAlone conn me (given ++ bytes_of served.outs) put next
  alone = given_alone me put conn me given served.outs at (its_own law.master conn input is)

  stay : (other : ℕ) → PlacesStay (fixed_of config) other world next
  stay other = alike_stay (fixed_of config) other world next moved.homes (ap (λ (w : World). w.links) alone.next_is)

  replicas : ReplicasStay world next
  replicas any was now before later =
      ap (λ (f : Front). f.replica) (same_Some _ _ (sym later ∙ (moved.fronts any ∙ before)))

  clients : (other : ℕ) → ClientStays other world next
  clients other = ⊎_elim
      (λ (e : other ≡ conn). subst (λ c. ClientStays c world next) (sym e)
      (given_elsewhere me given (given ++ bytes_of served.outs) (master_no_front_at world me law.master (law.nodes).is_there) at
      (ap (λ w. client_at w conn) alone.next_is ∙ alone.own)))
      (λ (ne : other ≢ conn). same_client (ap (λ w. client_at w other) alone.next_is ∙ alone.others other ne))
      (cases_eq other conn)

  alike : SeesAlike (fixed_of config) world next
  alike = record {
    fronts = λ other node. same_front other (front_at world node) (front_at next node) (moved.fronts node);
    clients = clients;
    in_place = λ other. fixed_places (fixed_of config) other world next (stay other) replicas;
    in_none = λ other. (stay other).in_none;
    broken = ap (λ (w : World). w.broken) alone.next_is;
    marks = ap (λ (w : World). w.marks) alone.next_is;
    steps = omega (arith, ap (λ (w : World). w.steps) alone.next_is);
  }

  next_is : all_come world me input ≡ next
  next_is =
      master_all_come world me input law.master (law.nodes).is_there
      ∙ ap (λ w. with_master w me served) (client_writes world me (state.Master law.master) input (of_client conn input is))

  serves : (after : ℕ → Heard) → ((other : ℕ) → after other ≡ heard other) → KeepsOn config law.story law.stops after (all_come world me input)
  serves after same =
      subst (λ w. KeepsOn config law.story law.stops after w) (sym next_is)
      (still_kept config heard after world next served.master alike same law
      (master_keeps_nodes config world law.master input law.nodes)
      (master_serves_many config world law.master law.given law.story.course.store law.nodes law.many input (of_client conn input is))
      (master_serves_feeds config world law.master law.nodes law.feeds input (of_client conn input is)))

pub master_serves : (config : Config) → MasterServes config
master_serves config heard after world conn input given is at law same = serves config heard world conn input given law is at after same
