-- The marks that a step puts behind others are of this step.
use Rattle.std.proofs.Common.{◌≡◌, ℕ, Bool, true, false, List, [], ◌∷◌, ◌++◌, Option, None, Some, refl, sym, ◌∙◌, ap, append_assoc}
use Rattle.std.specs.Prelude.{All}
use Rattle.std.proofs.lemmas.List.{append-nil}
use Rattle.std.proofs.lemmas.List.Elements.{All-append, All-nil, All-push, All-weaker}
use Rattle.node_step.specs.declared.input.NodeInput.{NodeInput}
use Rattle.node_step.specs.declared.input.NodeInput.TheVariants.{Opened, Piece, Hung, From}
use Rattle.link_msg.specs.declared.message.LinkMsg.{LinkMsg}
use Rattle.link_msg.specs.declared.out.Out.{Out}
use Rattle.link_msg.specs.declared.out.Out.TheVariants.{Client as to_client, Close, Link as to_node, Mark as mark_out, Told as tell}
use Rattle.node_step.specs.declared.node.NodeState.{NodeState}
use Rattle.node_step.specs.NodeStep.{Acted, takes as node_takes}
use Rattle.schedule_text.specs.declared.event.Event.{Event}
use Rattle.schedule_text.specs.declared.event.Event.TheVariants.{Open, Data, Hang, Deliver, Cut, Join}
use Rattle.cluster_core.specs.declared.world.Client.{Client}
use Rattle.mark_history.specs.declared.mark.Mark.{Mark}
use Rattle.mur_base.specs.declared.point.AskId.{AskId}
use Rattle.mark_history.specs.declared.mark.MarkKind.{MarkKind}
use Rattle.mark_history.specs.declared.mark.MarkKind.TheVariants.{Home, Told}
use Rattle.cluster_core.specs.declared.world.World.{World}
use Rattle.link_queue.specs.Links.{on_link}
use Rattle.cluster_core.specs.World.{cuts_if, joins_if, may_cut, may_join, not_lost, marked, client_at, node_at, given_more, carry, carry_all, acts, comes_to, with_client, opens, client_does, taken_from_link, deliver_first, takes}

-- marks of one step, put behind others; the step stays
pub record Adds (before now : World) : Type 0 where
  pub rest : List Mark
  pub parts : now.marks ≡ before.marks ++ rest
  pub in_step : All (λ (mark : Mark). mark.step ≡ before.steps) rest
  pub same_step : now.steps ≡ before.steps

adds_none : (before now : World) → now.marks ≡ before.marks → now.steps ≡ before.steps → Adds before now
adds_none before now e s = record {
  rest = [];
  parts = e
      ∙ sym (append-nil before.marks);
  in_step = All-nil (λ (mark : Mark). mark.step ≡ before.steps);
  same_step = s;
}

adds_more : (one two three : World) → Adds one two → Adds two three → Adds one three
adds_more one two three first second = record {
  rest = first.rest ++ second.rest;
  parts = second.parts ∙ ap (λ m. m ++ second.rest) first.parts ∙ append_assoc one.marks first.rest second.rest;
  in_step = All-append (λ (mark : Mark). mark.step ≡ one.steps) first.rest second.rest first.in_step
      (All-weaker (λ (mark : Mark). mark.step ≡ two.steps) (λ (mark : Mark). mark.step ≡ one.steps) (λ m h. h ∙ first.same_step) second.rest second.in_step);
  same_step = second.same_step ∙ first.same_step;
}

given_adds : (world : World) (conn : ℕ) (bytes : List ℕ) (found : Option Client) → Adds world (given_more world conn bytes found)
unfolding given_more
given_adds world conn bytes None = adds_none world world refl refl
given_adds world conn bytes (Some client) = adds_none world _ refl refl

marked_adds : (world : World) (ask : AskId) (kind : MarkKind) → Adds world (marked world ask kind)
marked_adds world ask kind =
    let new : Mark = record { step = world.steps; ask = ask; kind = kind } in
    record {
      rest = new ∷ [];
      parts = refl;
      in_step =
          All-push (λ (m : Mark). m.step ≡ world.steps) [] new (All-nil (λ (m : Mark). m.step ≡ world.steps)) refl;
      same_step = refl;
    }

carry_adds : (node : List ℕ) (world : World) (out : Out) → Adds world (carry node world out)
unfolding carry
carry_adds node world (to_client conn bytes) = given_adds world conn bytes (client_at world conn)
carry_adds node world (Close conn) = adds_none world world refl refl
carry_adds node world (to_node other message) = adds_none world _ refl refl
carry_adds node world (mark_out ask counts) = marked_adds world ask (Home counts)
carry_adds node world (tell ask how) = marked_adds world ask (Told how)

carry_all_adds : (node : List ℕ) (world : World) (outs : List Out) → Adds world (carry_all node world outs)
unfolding carry_all
carry_all_adds node world [] = adds_none world world refl refl
carry_all_adds node world (out ∷ outs) = adds_more world (carry node world out) _ (carry_adds node world out) (carry_all_adds node (carry node world out) outs)

acts_add : (world : World) (node : List ℕ) (acted : Acted) → Adds world (acts world node acted)
acts_add world node acted = adds_more world _ _ (adds_none world _ refl refl) (carry_all_adds node _ (not_lost world.broken node acted.outs))

pub comes_add : (world : World) (node : List ℕ) (input : NodeInput) (found : Option NodeState) → Adds world (comes_to world node input found)
unfolding comes_to
comes_add world node input None = adds_none world world refl refl
comes_add world node input (Some it) = acts_add world node (node_takes it input)

opens_add : (world : World) (node : List ℕ) (conn : ℕ) (found : Option Client) → Adds world (opens world node conn found)
unfolding opens
opens_add world node conn (Some there) = adds_none world world refl refl
opens_add world node conn None =
    adds_more world (with_client world node conn) _ (adds_none world _ refl refl)
    (comes_add (with_client world node conn) node (Opened conn) (node_at world node))

client_adds : (world : World) (input : NodeInput) (found : Option Client) → Adds world (client_does world input found)
unfolding client_does
client_adds world input None = adds_none world world refl refl
client_adds world input (Some client) = comes_add world client.at input (node_at world client.at)

deliver_adds : (world : World) (from to : List ℕ) (queue : List LinkMsg) → Adds world (deliver_first world from to queue)
unfolding deliver_first
deliver_adds world from to [] = adds_none world world refl refl
deliver_adds world from to (message ∷ rest) =
    adds_more world (taken_from_link world from to) _ (adds_none world _ refl refl)
    (comes_add (taken_from_link world from to) to (From from message) (node_at world to))

cut_adds : (world : World) (one other : List ℕ) (k l : ℕ) (may : Bool) → Adds world (cuts_if may world one other k l)
unfolding cuts_if
cut_adds world one other k l true = adds_none world _ refl refl
cut_adds world one other k l false = adds_none world world refl refl

join_adds : (world : World) (one other : List ℕ) (may : Bool) → Adds world (joins_if may world one other)
unfolding joins_if
join_adds world one other true = adds_none world _ refl refl
join_adds world one other false = adds_none world world refl refl

pub takes_adds : (world : World) (event : Event) → Adds world (takes world event)
unfolding takes
takes_adds world (Open node conn) = opens_add world node conn (client_at world conn)
takes_adds world (Data conn bytes) = client_adds world (Piece conn bytes) (client_at world conn)
takes_adds world (Hang conn) = client_adds world (Hung conn) (client_at world conn)
takes_adds world (Deliver from to) = deliver_adds world from to (on_link world.links from to)
takes_adds world (Cut one other k l) = cut_adds world one other k l (may_cut world one other)
takes_adds world (Join one other) = join_adds world one other (may_join world one other)
takes_adds world event = adds_none world world refl refl
