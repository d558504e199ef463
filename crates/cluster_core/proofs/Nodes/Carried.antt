-- What the outputs of a node change: the links by those to nodes, the clients by what is given to them, and the marks. What its step
-- writes to its disk changes nothing else.
use Rattle.std.proofs.Common.{◌≡◌, ℕ, false, if◌then◌else◌, List, [], ◌∷◌, ◌++◌, Option, None, Some, refl, sym, ap, ◌∙◌, append-nil, append_assoc}
use Rattle.std.specs.Ordering.{nat_cmp}
use Rattle.std.specs.List.{flat_map}
use Rattle.std.specs.Cmp.Lexicographic.{slice_cmp}
use Rattle.cluster_core.specs.declared.world.Client.{Client}
use Rattle.link_msg.specs.declared.message.LinkMsg.{LinkMsg}
use Rattle.link_msg.specs.declared.out.Out.{Out}
use Rattle.link_msg.specs.declared.out.Out.TheVariants.{Client as to_client, Close, Link as to_node, Mark as mark, Told as tell}
use Rattle.link_queue.specs.Broken.{Broken, is_broken}
use Rattle.link_queue.specs.Links.{Links}
use Rattle.many_links.specs.Murder.{put_out, put_all}
use Rattle.mark_history.specs.declared.mark.Mark.{Mark}
use Rattle.mark_history.specs.declared.mark.MarkKind.TheVariants.{Home, Told}
use Rattle.mur_base.specs.Map.{value_at, with_value}
use Rattle.node_step.specs.declared.node.NodeState.{NodeState}
use Rattle.node_step.specs.NodeStep.{Acted}
use Rattle.cluster_core.specs.declared.world.World.{World}
use Rattle.cluster_core.specs.World.{acts, carry, carry_all, client_at, given_more, is_lost, not_lost, with_state, with_written, with_acted}

-- ---- nothing is lost

none_lost : (node : List ℕ) (out : Out) → is_lost [] node out ≡ false
unfolding is_lost is_broken
none_lost node (to_node other message) = refl
none_lost node (to_client conn bytes) = refl
none_lost node (Close conn) = refl
none_lost node (mark ask counts) = refl
none_lost node (tell ask how) = refl

all_go : (node : List ℕ) (outs : List Out) → not_lost [] node outs ≡ outs
unfolding not_lost
all_go node [] = refl
all_go node (out ∷ outs) =
    ap (λ lost. if lost then not_lost [] node outs else out ∷ not_lost [] node outs) (none_lost node out) ∙ ap (λ l. out ∷ l) (all_go node outs)

-- a node in another state, and what it let out
abbrev pub made : World → List ℕ → NodeState → List Out → World
made world node it outs = carry_all node (with_state world node it) outs

pub acts_whole : (world : World) (node : List ℕ) (acted : Acted) → world.broken ≡ []
    → acts world node acted ≡ made (with_written world node acted.entry) node acted.state acted.outs
acts_whole world node acted whole =
    let put : World = with_acted world node acted in
    ap (λ (broken : Broken). carry_all node put (not_lost broken node acted.outs)) whole ∙ ap (carry_all node put) (all_go node acted.outs)

-- ---- what each output changes

-- the clients, once this one was given bytes
abbrev pub given_by : List (ℕ × Client) → ℕ → List ℕ → Option Client → List (ℕ × Client)
given_by clients conn bytes None = clients
given_by clients conn bytes (Some client) = with_value nat_cmp clients conn (record client { given = client.given ++ bytes })

unfoldable pub given_out : List (ℕ × Client) → Out → List (ℕ × Client)
given_out clients (to_client conn bytes) = given_by clients conn bytes (value_at nat_cmp clients conn)
given_out clients (Close conn) = clients
given_out clients (to_node other message) = clients
given_out clients (mark ask counts) = clients
given_out clients (tell ask how) = clients

unfoldable pub given_all : List (ℕ × Client) → List Out → List (ℕ × Client)
given_all clients [] = clients
given_all clients (out ∷ outs) = given_all (given_out clients out) outs

-- what this step says of commands
abbrev pub mark_made : ℕ → Out → List Mark
mark_made step (mark ask counts) = (record { step = step; ask = ask; kind = Home counts }) ∷ []
mark_made step (tell ask how) = (record { step = step; ask = ask; kind = Told how }) ∷ []
mark_made step out = []

abbrev pub marks_made : ℕ → List Out → List Mark
marks_made step outs = flat_map (mark_made step) outs

-- a world that the outputs of a node made of another
pub record IsCarried (node : List ℕ) (world : World) (outs : List Out) (next : World) : Type 0 where
  pub nodes : next.nodes ≡ world.nodes
  pub disks : next.disks ≡ world.disks
  pub clients : next.clients ≡ given_all world.clients outs
  pub broken : next.broken ≡ world.broken
  pub links : next.links ≡ put_all node world.links outs
  pub marks : next.marks ≡ world.marks ++ marks_made world.steps outs
  pub steps : next.steps ≡ world.steps

pub record IsOneCarried (node : List ℕ) (world : World) (out : Out) (next : World) : Type 0 where
  pub nodes : next.nodes ≡ world.nodes
  pub disks : next.disks ≡ world.disks
  pub clients : next.clients ≡ given_out world.clients out
  pub broken : next.broken ≡ world.broken
  pub links : next.links ≡ put_out node world.links out
  pub marks : next.marks ≡ world.marks ++ mark_made world.steps out
  pub steps : next.steps ≡ world.steps

given_carried : (node : List ℕ) (world : World) (conn : ℕ) (bytes : List ℕ) (found : Option Client)
    → (next : World) × (next ≡ given_more world conn bytes found) × (next ≡ record world { clients = given_by world.clients conn bytes found })
unfolding given_more
given_carried node world conn bytes None = (world, refl, refl)
given_carried node world conn bytes (Some client) =
    (record world { clients = with_value nat_cmp world.clients conn (record client { given = client.given ++ bytes }) }, refl, refl)

pub one_carried : (node : List ℕ) (world : World) (out : Out) → IsOneCarried node world out (carry node world out)
unfolding carry given_out put_out
one_carried node world (to_client conn bytes) =
    let is = given_carried node world conn bytes (client_at world conn) in
    let e : given_more world conn bytes (client_at world conn) ≡ record world { clients = given_by world.clients conn bytes (client_at world conn) } = sym is.1 ∙ is.2 in
    record {
      nodes = ap (λ (w : World). w.nodes) e;
      disks = ap (λ (w : World). w.disks) e;
      clients = ap (λ (w : World). w.clients) e;
      broken = ap (λ (w : World). w.broken) e;
      links = ap (λ (w : World). w.links) e;
      marks = ap (λ (w : World). w.marks) e ∙ sym (append-nil world.marks);
      steps = ap (λ (w : World). w.steps) e;
    }
one_carried node world (Close conn) =
    record { nodes = refl; disks = refl; clients = refl; broken = refl; links = refl; marks = sym (append-nil world.marks); steps = refl }
one_carried node world (to_node other message) =
    record { nodes = refl; disks = refl; clients = refl; broken = refl; links = refl; marks = sym (append-nil world.marks); steps = refl }
one_carried node world (mark ask counts) = record { nodes = refl; disks = refl; clients = refl; broken = refl; links = refl; marks = refl; steps = refl }
one_carried node world (tell ask how) = record { nodes = refl; disks = refl; clients = refl; broken = refl; links = refl; marks = refl; steps = refl }

pub all_carried : (node : List ℕ) (world : World) (outs : List Out) → IsCarried node world outs (carry_all node world outs)
unfolding carry_all given_all put_all
all_carried node world [] =
    record { nodes = refl; disks = refl; clients = refl; broken = refl; links = refl; marks = sym (append-nil world.marks); steps = refl }
all_carried node world (out ∷ outs) =
    let one = one_carried node world out in
    let more = all_carried node (carry node world out) outs in
    record {
      nodes = more.nodes ∙ one.nodes;
      disks = more.disks ∙ one.disks;
      clients = more.clients ∙ ap (λ c. given_all c outs) one.clients;
      broken = more.broken ∙ one.broken;
      links = more.links ∙ ap (λ (l : Links LinkMsg). put_all node l outs) one.links;
      marks = more.marks ∙ ap (λ m. m ++ marks_made (carry node world out).steps outs) one.marks
          ∙ ap (λ s. (world.marks ++ mark_made world.steps out) ++ marks_made s outs) one.steps
          ∙ append_assoc world.marks (mark_made world.steps out) (marks_made world.steps outs);
      steps = more.steps ∙ one.steps;
    }

-- ---- a node in another state

-- the world after a step of a node
pub record IsMade (world : World) (node : List ℕ) (it : NodeState) (outs : List Out) (next : World) : Type 0 where
  pub nodes : next.nodes ≡ with_value (slice_cmp nat_cmp) world.nodes node it
  pub disks : next.disks ≡ world.disks
  pub clients : next.clients ≡ given_all world.clients outs
  pub broken : next.broken ≡ world.broken
  pub links : next.links ≡ put_all node world.links outs
  pub marks : next.marks ≡ world.marks ++ marks_made world.steps outs
  pub steps : next.steps ≡ world.steps

pub is_made : (world : World) (node : List ℕ) (it : NodeState) (outs : List Out) → IsMade world node it outs (made world node it outs)
is_made world node it outs =
    let all = all_carried node (with_state world node it) outs in
    record { nodes = all.nodes; disks = all.disks; clients = all.clients; broken = all.broken; links = all.links; marks = all.marks; steps = all.steps }
