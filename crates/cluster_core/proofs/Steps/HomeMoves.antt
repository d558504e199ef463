-- A step of a backend moves a command, or leaves it: where it is then.
use Rattle.std.proofs.Common.{◌≡◌, ◌≢◌, ℕ, ◌≤◌, false, List, [], ◌++◌, filter, None, refl, sym, subst, ◌∙◌}
use Rattle.back_node.specs.declared.node.BackNode.{BackNode}
use Rattle.back_node.specs.Acted.{BackActed}
use Rattle.back_node.specs.Takes.{node_takes}
use Rattle.feed_core.specs.declared.replica.Replica.{Replica}
use Rattle.feed_links.specs.Lines.{messages_to}
use Rattle.front_core.proofs.OneConnection.Places.{IsPlaced, about, answer_on, is_about, left_taken, of_connection, others_taken}
use Rattle.link_msg.specs.declared.message.LinkMsg.{LinkMsg}
use Rattle.link_msg.specs.declared.message.LinkMsg.TheVariants.{Answer}
use Rattle.link_queue.specs.Links.{Links, on_link}
use Rattle.many_links.specs.ManyHold.{HasTalkIn}
use Rattle.many_links.specs.Murder.{Murder, put_all, put_out, taken, with_node}
use Rattle.many_links.proofs.NodesLaw.{node_own}
use Rattle.mur_base.specs.declared.home.Location.{Location}
use Rattle.mur_base.specs.declared.point.AskId.{AskId}
use Rattle.mur_model.specs.declared.store.Store.{Store}
use Rattle.name_commands.specs.Moves.{LeavesCommand, Move, MovesCommand, outs_of, place_after, Move as move}
use Rattle.name_commands.specs.Places.{HasNumbers, NamePlace, TalkShows, flow_message, NamePlace as name_at}
use Rattle.name_commands.specs.Whose.{Whose, is_of_connection, is_own_out}
use Rattle.name_links.specs.Serials.{Given}
use Rattle.route_links.specs.Barriers.{Place as barrier}
use Rattle.cluster_core.proofs.Commands.InPlace.{IsThere}
use Rattle.cluster_core.proofs.Commands.Place.{Place, at_backend, at_barrier, carried, its_message, Place as place}
use Rattle.cluster_core.proofs.Steps.HomeLinks.{IsInThen, barrier_then, its_own_there, links_then, shows_then, there_then}
use Rattle.cluster_core.proofs.Steps.HomeSteps.{HomeTakes, IsMovedThen, NoneThen, StaysThen, moved_to}
use Rattle.cluster_core.proofs.Steps.Murders.{IsFront, IsIn, IsNowhere, at_other, at_own, no_front, no_master}
use Rattle.cluster_core.proofs.Steps.Narrow.{flow_on}
use Rattle.cluster_core.proofs.Steps.Outs.{puts_none, puts_one}

-- the answer of a move goes to this frontend
abbrev pub TellsFront : List ℕ → Move → Type 0
TellsFront front (move.is_answered f id body) = f ≡ front
TellsFront front (move.is_kept ask) = Unit {0}
TellsFront front (move.is_sent mailbox flow) = Unit {0}

-- the line that a move sends is of the command of this number, or of a later one
abbrev pub SendsFrom : ℕ → Move → Type 0
SendsFrom first (move.is_answered f id body) = Unit {0}
SendsFrom first (move.is_kept ask) = Unit {0}
SendsFrom first (move.is_sent mailbox flow) = first ≤ (flow.ask).command

-- ---- a step

module _ (murder : Murder) (given : Given) (store : Store) (name : List ℕ) (node : BackNode) (from : List ℕ) (message : LinkMsg)
    (takes : HomeTakes murder given store name node from message) where
  abbrev me : List ℕ
  me = murder.master.me

  abbrev next : BackActed
  next = node_takes node from message

  abbrev left : Links LinkMsg
  left = taken murder from name

  abbrev up : List LinkMsg
  up = on_link murder.links name me

  pub apart : name ≢ me
  apart = no_master murder given store name node takes.holds takes.there

  pub talk : HasTalkIn murder given name node
  talk = (takes.holds.each name node takes.there).talk

  -- ---- it moves the command

  module _ (front : List ℕ) (replica : Replica) (id : AskId) (here : Place) (is_front : IsFront murder front) (is : IsIn murder front replica id here)
      (me_stays : next.state.flows.me ≡ node.flows.me) where
    abbrev conn : ℕ
    conn = id.conn

    abbrev whose : Whose
    whose = is_of_connection id.conn

    abbrev mine : Location
    mine = node.flows.me

    named : mine.server ≡ name
    named = talk.each.named

    -- to a place that is at this backend, or of a message from it
    pub goes_to : (later : Place) → ((q : List ℕ) → q ≢ name → at_backend q later ≡ at_backend q here) → at_barrier later ≡ at_barrier here
        → IsPlaced id.command (of_connection conn) (links_then murder name from next) (its_message me front id later)
        → TalkShows whose next.state (up ++ messages_to me next.outs) (on_link left me name) (at_backend name later)
        → IsThere (with_node murder.nodes name next.state) later → IsInThen murder name from next front replica id later
    goes_to later others free placed own there = record {
      message = placed;
      shows = shows_then murder name apart from next conn here later others is.shows own;
      barrier = barrier_then murder name apart from next front replica id (at_barrier here) (at_barrier later)
          (no_front murder front name node is_front takes.there) free is.barrier;
      there = there;
    }

    -- it was at no other backend, and in no message on another link
    module _ (none : IsPlaced id.command (of_connection conn) left None) (elsewhere : (q : List ℕ) → q ≢ name → at_backend q here ≡ name_at.nowhere)
        (free : at_barrier here ≡ barrier.nowhere) where
      moved_message : (it : Move) → TellsFront front it → SendsFrom id.command it → HasNumbers (place_after it)
          → filter (is_own_out whose) next.outs ≡ outs_of me mine it
          → IsPlaced id.command (of_connection conn) (links_then murder name from next) (its_message me front id (moved_to name mine it))
      unfolding put_all put_out
      moved_message (move.is_answered f ask body) tells from_it fits outs =
          subst (λ (to : List ℕ). IsPlaced id.command (of_connection conn) (links_then murder name from next) (carried name to (Answer (record { id = ask; body = body }))))
          tells
          (puts_one conn name left next.outs id.command f (Answer (record { id = ask; body = body })) [] outs refl
          (answer_on id.command (record { id = ask; body = body })) none)
      moved_message (move.is_kept ask) tells from_it fits outs = puts_none conn name left next.outs id.command None outs none
      moved_message (move.is_sent mailbox flow) tells from_it fits outs =
          subst (λ (server : List ℕ). IsPlaced id.command (of_connection conn) (links_then murder name from next) (carried server me (flow_message mine mailbox flow)))
          (sym named)
          (puts_one conn name left next.outs id.command me (flow_message mine mailbox flow) [] outs refl
          (flow_on id.command mine mailbox flow fits from_it) none)

      moved_own : (it : Move) → at_backend name (moved_to name mine it) ≡ place_after it
      moved_own (move.is_answered f ask body) = refl
      moved_own (move.is_kept ask) = at_own mine name (name_at.waits ask) named
      moved_own (move.is_sent mailbox flow) = at_own mine name (name_at.sends mailbox flow) named

      moved_other : (it : Move) (q : List ℕ) → q ≢ name → at_backend q (moved_to name mine it) ≡ name_at.nowhere
      moved_other (move.is_answered f ask body) q ne = refl
      moved_other (move.is_kept ask) q ne = at_other mine name q (name_at.waits ask) named ne
      moved_other (move.is_sent mailbox flow) q ne = at_other mine name q (name_at.sends mailbox flow) named ne

      moved_free : (it : Move) → at_barrier (moved_to name mine it) ≡ barrier.nowhere
      moved_free (move.is_answered f ask body) = refl
      moved_free (move.is_kept ask) = refl
      moved_free (move.is_sent mailbox flow) = refl

      moved_there : (it : Move) → IsThere (with_node murder.nodes name next.state) (moved_to name mine it)
      moved_there (move.is_answered f ask body) = (next.state, node_own murder.nodes name next.state)
      moved_there (move.is_kept ask) = its_own_there murder name apart from next mine named me_stays
      moved_there (move.is_sent mailbox flow) = its_own_there murder name apart from next mine named me_stays

      pub moves_to : (it : Move) → TellsFront front it → SendsFrom id.command it → MovesCommand whose me node next up (on_link left me name) it
          → IsMovedThen murder name from node next front replica id it
      moves_to it tells from_it moved = record {
        placed = goes_to (moved_to name mine it) (λ q ne. moved_other it q ne ∙ sym (elsewhere q ne)) (moved_free it ∙ sym free)
            (moved_message it tells from_it moved.placed.at.numbered moved.outs)
            (subst (λ (p : NamePlace). TalkShows whose next.state (up ++ messages_to me next.outs) (on_link left me name) p) (sym (moved_own it)) moved.placed)
            (moved_there it);
        outs = moved.outs;
      }

    -- ---- it leaves the command

    pub left_so : is_about id.command (of_connection conn) message ≡ false → LeavesCommand whose me next up (on_link left me name) (at_backend name here)
        → StaysThen murder name from next front replica id here
    left_so ne leaves_it = record {
      placed = goes_to here (λ q other. refl) refl
          (puts_none conn name left next.outs id.command (its_message me front id here) leaves_it.outs
          (left_taken id.command murder.links from name message takes.first.rest (of_connection conn) (its_message me front id here) takes.first.first ne
          is.message))
          leaves_it.placed (there_then murder name apart from next node takes.there me_stays here is.there);
      outs = leaves_it.outs;
    }

  -- of a connection that no frontend has
  pub left_none : (conn : ℕ) → IsNowhere murder conn → about message ≢ of_connection conn
      → LeavesCommand (is_of_connection conn) me next up (on_link left me name) name_at.nowhere → NoneThen murder name from next conn
  left_none conn is ne leaves_it = record {
    placed = record {
      message = puts_none conn name left next.outs 0 None leaves_it.outs
          (others_taken murder.links from name message takes.first.rest (of_connection conn) takes.first.first ne 0 None is.message);
      shows = shows_then murder name apart from next conn place.nowhere place.nowhere (λ q other. refl) is.shows leaves_it.placed;
    };
    outs = leaves_it.outs;
  }
