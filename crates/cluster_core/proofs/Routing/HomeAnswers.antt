-- A backend that is asked for messages answers in the step in which it takes the ask: that they were served exactly where it has the name open, and then the
-- step always counts.
use Rattle.std.proofs.Common.{◌≡◌, ◌≢◌, ◌⊎◌, inl, inr, ℕ, ◌+◌, Bool, true, false, cond, List, [], ◌∷◌, ◌++◌, drop, Option, None, Some, refl, sym, ◌∙◌, ap}
use Rattle.std.specs.Ordering.{nat_cmp}
use Rattle.std.specs.Cmp.Lexicographic.{slice_cmp}
use Rattle.back_node.specs.declared.node.BackNode.{BackNode}
use Rattle.back_node.specs.Acted.{BackActed}
use Rattle.back_node.specs.NodeLaws.{IsCarriedOut, IsDone, elsewhere_by, is_of_messages}
use Rattle.back_node.specs.Takes.{node_takes}
use Rattle.back_node.proofs.OpenHere.{elsewhere_is_told}
use Rattle.backend_core.specs.HomeLaws.{is_open, is_open_here}
use Rattle.backend_core.specs.HomeStep.{held_at}
use Rattle.backend_core.specs.Plan.{answer_outs}
use Rattle.backend_core.specs.Step.{home_step}
use Rattle.cluster_core.specs.Headline.Backends.{IsBackend}
use Rattle.cluster_core.specs.Headline.Outside.{table_by, table_at}
use Rattle.imap_talk.specs.Heard.{Heard}
use Rattle.link_msg.specs.declared.answer.AnswerBody.{AnswerBody}
use Rattle.link_msg.specs.declared.answer.AnswerBody.TheVariants as answer
use Rattle.link_msg.specs.declared.ask.FrontAsk.{FrontAsk}
use Rattle.link_msg.specs.declared.counts.Counts.{Counts}
use Rattle.link_msg.specs.declared.counts.Counts.TheVariants.{Always, IfAnswered}
use Rattle.link_msg.specs.declared.message.LinkMsg.{LinkMsg}
use Rattle.link_msg.specs.declared.message.LinkMsg.TheVariants.{Ask, Answer}
use Rattle.link_msg.specs.declared.out.Out.{Out}
use Rattle.link_msg.specs.declared.out.Out.TheVariants.{Link, Mark as mark}
use Rattle.link_queue.specs.Broken.{Broken, is_broken}
use Rattle.link_queue.specs.Links.{Links, on_link, same_link, sent, without_first}
use Rattle.link_queue.proofs.Wires.{on_link-sent, on_link-taken, same_itself, same_names}
use Rattle.many_links.specs.Murder.{put_all, put_out}
use Rattle.many_links.proofs.OpenLaw.{open_is_the_stores}
use Rattle.mark_history.specs.declared.mark.MarkKind.TheVariants.{Home}
use Rattle.mur_base.specs.Map.{value_at}
use Rattle.mur_base.specs.declared.home.Phase.{Phase}
use Rattle.mur_base.specs.declared.home.Phase.TheVariants.{Open, Creating, Closing, Receiving, Ready, Pointer}
use Rattle.mur_config.specs.declared.config.Config.{Config}
use Rattle.mur_config.specs.Nodes.{AreNodes}
use Rattle.mur_model.specs.declared.need.Asking.{Asking}
use Rattle.mur_model.specs.Asking.{asked_for}
use Rattle.mur_model.specs.Needed.{Delete, IsOfHome, Make, Work}
use Rattle.node_step.specs.declared.input.NodeInput.TheVariants.{From}
use Rattle.node_step.specs.declared.node.NodeState.TheVariants as state
use Rattle.node_step.specs.NodeStep.{as_master}
use Rattle.name_flows.specs.Phases.{pointer_in}
use Rattle.node_record.specs.declared.held.Held.{Held}
use Rattle.point_links.specs.AtHome.{its_ask}
use Rattle.point_links.specs.Commands.{ClientCommand}
use Rattle.point_links.proofs.Works.{of_messages, who_does}
use Rattle.schedule_text.specs.declared.event.Event.TheVariants.{Deliver}
use Rattle.serve_law.proofs.DoneHere.{done_where_open}
use Rattle.serve_law.specs.DoneHere.{IsDone as IsDoneHere}
use Rattle.cluster_core.specs.declared.world.World.{World}
use Rattle.cluster_core.specs.Headline.OpenAt.{IsOpenAt}
use Rattle.cluster_core.specs.Headline.Routing.{is_of_name, says_done}
use Rattle.cluster_core.specs.Shown.{held_by}
use Rattle.cluster_core.specs.World.{comes, deliver_first, home_at, stepped, steps_by, taken_from_link, takes}
use Rattle.cluster_core.proofs.Connections.KeepsLaw.{KeepsLaw, murder_of}
use Rattle.cluster_core.proofs.Nodes.Carried.{IsMade, is_made, marks_made}
use Rattle.cluster_core.proofs.Links.Thinned.{IsThinned}
use Rattle.cluster_core.proofs.Nodes.AllCome.{all_come, home_all_come}
use Rattle.cluster_core.proofs.Nodes.Comes.{home_moved, with_home, wrote}
use Rattle.cluster_core.proofs.Nodes.Then.{looks_then}
use Rattle.cluster_core.proofs.Nodes.Thins.{comes_thinned}
use Rattle.cluster_core.proofs.OneServer.OpenLaw.{HasIt, has_it, open_found, open_test}
use Rattle.cluster_core.proofs.Routing.Works.{AskTells, ask_tells, backend_is}

-- ---- what it answers

-- an answer says that the ask was served exactly where the name is open, and then the step always counts
pub record CountsSo (is_here : Bool) (body : AnswerBody) (counts : Counts) : Type 0 where
  pub done : says_done body ≡ is_here
  pub always : is_here ≡ true → counts ≡ Always
  pub only : is_here ≡ false → counts ≡ IfAnswered

pub record AnswersSo (node : BackNode) (from : List ℕ) (ask : FrontAsk) (is_here : Bool) : Type 0 where
  pub body : AnswerBody
  pub counts : Counts
  pub outs : (node_takes node from (Ask ask)).outs ≡ Link from (Answer (record { id = ask.id; body = body })) ∷ mark ask.id counts ∷ []
  pub so : CountsSo is_here body counts

record HasBody (found : Option AnswerBody) : Type 0 where
  body : AnswerBody
  is : found ≡ Some body
  done : says_done body ≡ true
  is_done : IsDoneHere found

done_body : (found : Option AnswerBody) → IsDone found → HasBody found
unfolding says_done IsDoneHere
done_body (Some (answer.Done outcome seen)) done = record { body = answer.Done outcome seen; is = refl; done = refl; is_done = tt }
done_body (Some answer.NotNow) done = absurd done
done_body (Some (answer.Moved server)) done = absurd done
done_body (Some (answer.Unreached node)) done = absurd done
done_body (Some answer.Lost) done = absurd done
done_body None done = absurd done

outs_of : (from : List ℕ) (ask : FrontAsk) (counts : Counts) (found : Option AnswerBody) (body : AnswerBody) → found ≡ Some body
    → answer_outs from ask.id counts found ≡ Link from (Answer (record { id = ask.id; body = body })) ∷ mark ask.id counts ∷ []
unfolding answer_outs
outs_of from ask counts found body e = ap (answer_outs from ask.id counts) e

-- a CREATE and a DELETE ask for such a thing
op_is : (c : ClientCommand) (work : Work) → c.work ≡ work → (its_ask c).op ≡ (asked_for c.name work).op
op_is c work is = ap (λ (a : Asking). a.op) c.asking_is ∙ ap (λ (w : Work). (asked_for c.name w).op) is

not_done : (server : Option (List ℕ)) → says_done (elsewhere_by server) ≡ false
unfolding says_done
not_done None = refl
not_done (Some server) = refl

carried_out : (node : BackNode) (from : List ℕ) (ask : FrontAsk) → IsCarriedOut node from ask → AnswersSo node from ask true
carried_out node from ask carried =
    let its = done_body (home_step node.home ask).body carried.done in
    record {
      body = its.body;
      counts = (home_step node.home ask).counts;
      outs = carried.outs ∙ outs_of from ask (home_step node.home ask).counts (home_step node.home ask).body its.body its.is;
      so = record {
        done = its.done;
        always = λ here. (done_where_open node.home ask).counted its.is_done;
        only = λ here. (let no : true ≡ false = here in cc);
      };
    }

sent_on : (node : BackNode) (from : List ℕ) (ask : FrontAsk) → is_of_messages ask.op ≡ true → is_open_here (held_at node.home ask.name) ≡ false
    → AnswersSo node from ask false
sent_on node from ask of closed = record {
  body = elsewhere_by (pointer_in (held_at node.home ask.name));
  counts = IfAnswered;
  outs = ap (λ (it : BackActed). it.outs) (elsewhere_is_told node from ask of closed);
  so = record {
    done = not_done (pointer_in (held_at node.home ask.name));
    always = λ here. (let no : false ≡ true = here in cc);
    only = λ here. refl;
  };
}

-- ---- the step

pub record IsServed (config : Config) (world : World) (from to : List ℕ) (ask : FrontAsk) : Type 0 where
  pub is_home : IsBackend config to
  pub body : AnswerBody
  pub counts : Counts
  -- on a broken link the answer is lost
  pub answers : is_broken world.broken to from ≡ false
      → on_link (steps_by world (Deliver from to)).links to from ≡ on_link world.links to from ++ Answer (record { id = ask.id; body = body }) ∷ []
  pub marks : (steps_by world (Deliver from to)).marks ≡ world.marks ++ (record { step = world.steps + 1; ask = ask.id; kind = Home counts }) ∷ []
  pub table : (any : List ℕ) → table_at (steps_by world (Deliver from to)) any ≡ table_at world any
  pub done : says_done body ≡ true → (counts ≡ Always) × IsOpenAt world ask.name to
  pub undone : says_done body ≡ false → (counts ≡ IfAnswered) × (IsOpenAt world ask.name to → ⊥)

-- an answer is put behind what stands on the way back
back_behind : (links : Links LinkMsg) (from to : List ℕ) (message : LinkMsg) → from ≢ to
    → on_link (sent (without_first links from to) to from message) to from ≡ on_link links to from ++ message ∷ []
back_behind links from to message ne =
    on_link-sent (without_first links from to) to from to from message
    ∙ ap (λ b. on_link (without_first links from to) to from ++ cond b (message ∷ []) []) (same_itself to from)
    ∙ ap (λ q. q ++ message ∷ []) (on_link-taken links from to to from ∙ other (same_link to from from to) refl)
  where
    other : (same : Bool) → same_link to from from to ≡ same → cond same (drop 1 (on_link links to from)) (on_link links to from) ≡ on_link links to from
    other true e = absurd (ne (sym (same_names to from from to e).0))
    other false e = refl

answer_put : (node : List ℕ) (links : Links LinkMsg) (to : List ℕ) (ask : FrontAsk) (message : LinkMsg) (counts : Counts)
    → put_all node links (Link to message ∷ mark ask.id counts ∷ []) ≡ sent links node to message
unfolding put_all put_out
answer_put node links to ask message counts = refl

open_phase : (phase : Phase) → is_open phase ≡ true → phase ≡ Open
unfolding is_open
open_phase Open e = refl
open_phase Creating e = cc
open_phase Closing e = cc
open_phase Receiving e = cc
open_phase Ready e = cc
open_phase (Pointer server) e = cc

module _ (config : Config) (heard : ℕ → Heard) (world : World) (are : AreNodes config.nodes) (law : KeepsLaw config heard world) (from to : List ℕ)
    (ask : FrontAsk) (rest : List LinkMsg) (first : on_link world.links from to ≡ Ask ask ∷ rest) (for_messages : is_of_name ask.op ≡ false) where
  tells : AskTells config heard world law from to ask
  tells = ask_tells config heard world law from to ask rest first

  abbrev c : ClientCommand
  c = tells.c

  abbrev home : BackNode
  home = tells.home

  no_name : (work : Work) → c.work ≡ work → is_of_name (asked_for c.name work).op ≡ true → ⊥
  no_name work is of =
      let no : true ≡ false = sym (ap is_of_name (ap (λ (a : FrontAsk). a.op) tells.ask_is ∙ op_is c work is) ∙ of) ∙ for_messages in cc

  of_home : IsOfHome c.work
  unfolding is_of_name asked_for
  of_home = by (who_does c.work)
    where
      by : IsOfHome c.work ⊎ ((c.work ≡ Make) ⊎ (c.work ≡ Delete)) → IsOfHome c.work
      by (inl of) = of
      by (inr (inl makes)) = absurd (no_name Make makes refl)
      by (inr (inr deletes)) = absurd (no_name Delete deletes refl)

  messages : is_of_messages ask.op ≡ true
  messages =
      ap (λ (a : FrontAsk). is_of_messages a.op) tells.ask_is ∙ ap (λ (a : Asking). is_of_messages a.op) c.asking_is ∙ of_messages c.name c.work of_home

  answers_by : (is_here : Bool) → is_open_here (held_at home.home ask.name) ≡ is_here → AnswersSo home from ask is_here
  answers_by true e =
      carried_out home from ask
      ((open_is_the_stores (murder_of world law.master) law.given law.story.course.store to home ask.name law.many tells.there e).served from ask refl messages)
  answers_by false e = sent_on home from ask messages e

  abbrev is_here : Bool
  is_here = is_open_here (held_at home.home ask.name)

  so : AnswersSo home from ask is_here
  so = answers_by is_here refl

  -- ---- whether the name is open, as the world shows it

  opened_by : (found : Option Held) → held_at home.home ask.name ≡ found → is_open_here found ≡ true → IsOpenAt world ask.name to
  unfolding is_open_here
  opened_by None at here = cc
  opened_by (Some held) at here =
      record {
        held = held;
        at = ap (λ (b : Option BackNode). value_at (slice_cmp nat_cmp) (held_by b) ask.name) tells.there ∙ at;
        is_open = open_phase held.phase here;
      }

  open_is_here : IsOpenAt world ask.name to → is_here ≡ true
  open_is_here opened =
      let its : HasIt world to ask.name opened.held = has_it world to ask.name opened.held opened.at in
      let same : its.backend ≡ home = same_home (sym its.is ∙ tells.there) in
      open_found opened.held (held_at home.home ask.name) (ap (λ (b : BackNode). held_at b.home ask.name) (sym same) ∙ its.at)
      (open_test opened.held.phase opened.is_open)
    where
      same_home : {one other : BackNode} → Some one ≡ Some other → one ≡ other
      same_home e = cc

  -- ---- the world then

  abbrev acted : BackActed
  acted = node_takes home from (Ask ask)

  abbrev begun : World
  begun = wrote (taken_from_link (stepped world) from to) to (state.Back home) (From from (Ask ask))

  abbrev taken : World
  taken = taken_from_link (stepped world) from to

  next_is : steps_by world (Deliver from to) ≡ comes taken to (From from (Ask ask))
  unfolding takes deliver_first
  next_is = ap (deliver_first (stepped world) from to) first

  -- where nothing is lost
  all_is : all_come taken to (From from (Ask ask)) ≡ with_home begun to acted
  all_is = home_all_come taken to (From from (Ask ask)) home tells.there

  lost : IsThinned (all_come taken to (From from (Ask ask))) (comes taken to (From from (Ask ask)))
  lost = comes_thinned taken to (From from (Ask ask))

  made : IsMade begun to (state.Back acted.state) acted.outs (with_home begun to acted)
  made = is_made begun to (state.Back acted.state) acted.outs

  apart : from ≢ to
  apart e =
      let none : home_at world from ≡ None = (law.nodes.fronts from tells.front tells.at).no_home in
      let no : None ≡ Some home = sym none ∙ ap (home_at world) e ∙ tells.there in cc

  served : IsServed config world from to ask
  served = record {
    is_home = backend_is config heard world are law to home tells.there;
    body = so.body;
    counts = so.counts;
    answers = λ reached. ap (λ (w : World). on_link w.links to from) next_is
        ∙ lost.whole to from (ap (λ (w : World). is_broken w.broken to from) all_is ∙ ap (λ (b : Broken). is_broken b to from) made.broken ∙ reached)
        ∙ ap (λ (w : World). on_link w.links to from) all_is
        ∙ ap (λ (l : Links LinkMsg). on_link l to from)
        (made.links ∙ ap (put_all to (without_first world.links from to)) so.outs
        ∙ answer_put to (without_first world.links from to) from ask (Answer (record { id = ask.id; body = so.body })) so.counts)
        ∙ back_behind world.links from to (Answer (record { id = ask.id; body = so.body })) apart;
    marks = ap (λ (w : World). w.marks) next_is ∙ lost.marks ∙ ap (λ (w : World). w.marks) all_is ∙ made.marks ∙ ap (λ (outs : List Out). world.marks ++ marks_made (world.steps + 1) outs) so.outs;
    table = λ any. ap (λ (w : World). table_at w any) next_is ∙ looks_then taken to (From from (Ask ask)) (λ n. table_by (as_master n)) any
        ∙ ap (λ (w : World). table_at w any) all_is ∙ ap table_by ((home_moved begun to home acted tells.there).masters any);
    done = λ said.
        (let here : is_here ≡ true = sym so.so.done ∙ said in
        (so.so.always here, opened_by (held_at home.home ask.name) refl here));
    undone = λ said.
        (let away : is_here ≡ false = sym so.so.done ∙ said in
        (so.so.only away, λ opened. (let no : true ≡ false = sym (open_is_here opened) ∙ away in cc)));
  }

pub ask_is_served : (config : Config) (heard : ℕ → Heard) (world : World) → AreNodes config.nodes → KeepsLaw config heard world → (from to : List ℕ)
    (ask : FrontAsk) (rest : List LinkMsg) → on_link world.links from to ≡ Ask ask ∷ rest → is_of_name ask.op ≡ false → IsServed config world from to ask
ask_is_served config heard world are law from to ask rest first for_messages = served config heard world are law from to ask rest first for_messages
