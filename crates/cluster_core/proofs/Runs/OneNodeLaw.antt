-- In a step one node works, and nothing else changes.
use Rattle.std.proofs.Common.{◌≡◌, ◌≢◌, ℕ, Bool, true, false, not, ◌&&◌, ◌||◌, cond, if◌then◌else◌, nat_eq, List, [], ◌∷◌, ◌++◌, drop, take, Option, None, Some, refl, sym, ◌∙◌, ap, subst, arith}
use Rattle.std.specs.Ordering.{nat_cmp, is_eq}
use Rattle.std.specs.Cmp.Lexicographic.{slice_cmp}
use Rattle.std.proofs.Math.Logic.{⊎_elim}
use Rattle.std.proofs.lemmas.Bool.Decides.{nat_tests}
use Rattle.std.proofs.lemmas.List.{append-nil, append_assoc}
use Rattle.node_step.specs.declared.input.NodeInput.{NodeInput}
use Rattle.node_step.specs.declared.input.NodeInput.TheVariants.{Opened, Piece, Hung, From}
use Rattle.link_msg.specs.declared.message.LinkMsg.{LinkMsg}
use Rattle.link_msg.specs.declared.message.LinkMsg.TheVariants.{Up, End}
use Rattle.link_msg.specs.declared.out.Out.{Out}
use Rattle.link_msg.specs.declared.out.Out.TheVariants.{Client as to_client, Close, Link as to_node, Mark as mark_out, Told as tell}
use Rattle.mur_base.specs.Map.{value_at, with_value}
use Rattle.mur_base.proofs.MapLaws.{names_apart, numbers_apart, not_equal, same_or_other, value_at-with_entry, value_at-with_entry-other, value_at-with_value, value_at-with_value-other}
use Rattle.node_step.specs.declared.node.NodeState.{NodeState}
use Rattle.node_step.specs.NodeStep.{Acted, takes as node_takes}
use Rattle.schedule_text.specs.declared.event.Event.{Event}
use Rattle.schedule_text.specs.declared.event.Event.TheVariants.{Open, Data, Hang, Deliver, Cut, Join}
use Rattle.cluster_core.specs.declared.world.Client.{Client}
use Rattle.mur_base.specs.declared.point.AskId.{AskId}
use Rattle.mark_history.specs.declared.mark.MarkKind.{MarkKind}
use Rattle.mark_history.specs.declared.mark.MarkKind.TheVariants.{Home, Told}
use Rattle.cluster_core.specs.declared.world.World.{World}
use Rattle.cluster_core.specs.Flow.{run_steps}
use Rattle.link_queue.specs.Broken.{Broken, breaking, is_broken, mending}
use Rattle.link_queue.specs.Links.{Links, cut_short, same_link, on_link, sent, without_first}
use Rattle.link_queue.proofs.BrokenLaws.{is_broken-breaking, is_broken-mending}
use Rattle.cluster_core.specs.Headline.OneNode.{node_of, worker, connected, leaves_on, relinks, ChangesLinks, WasSent, OnlyWorks, WorksBy, OneNodeWorks, OneNodeWorksEach}
use Rattle.cluster_core.specs.World.{is_lost, cuts_if, joins_if, may_cut, may_join, may_part, not_lost, marked, client_at, node_at, given_more, carry, carry_all, comes_to, with_client, opens, client_does, taken_from_link, deliver_first, takes, stepped, steps_by, Disks, with_acted, written, written_on}
use Rattle.cluster_core.proofs.Runs.InTime.{takes_adds}
use Rattle.link_queue.proofs.Wires.{same_names, on_link-cut, on_link-sent, on_link-taken}

-- what a node's outputs do: messages stand behind those on its links, clients are given bytes, and nothing else of nodes, disks and links changes
pub record Sends (node : List ℕ) (before after : World) : Type 0 where
  pub nodes : after.nodes ≡ before.nodes
  pub disks : after.disks ≡ before.disks
  pub broken : after.broken ≡ before.broken
  pub clients : (conn : ℕ) → node_of (client_at after conn) ≡ node_of (client_at before conn)
  pub others : (from to : List ℕ) → from ≢ node → on_link after.links from to ≡ on_link before.links from to
  goes : (to : List ℕ) → WasSent (on_link before.links node to) (on_link after.links node to)

none_sent : (before after : List LinkMsg) → after ≡ before → WasSent before after
none_sent before after same = record { more = []; behind = same ∙ sym (append-nil before) }

sent_on : (one two three : List LinkMsg) → WasSent one two → WasSent two three → WasSent one three
sent_on one two three first second = record {
  more = first.more ++ second.more;
  behind = second.behind ∙ ap (λ q. q ++ second.more) first.behind ∙ append_assoc one first.more second.more;
}

sends_nothing : (node : List ℕ) (world : World) → Sends node world world
sends_nothing node world = record {
  nodes = refl;
  disks = refl;
  broken = refl;
  clients = λ conn. refl;
  others = λ from to ne. refl;
  goes = λ to. none_sent (on_link world.links node to) (on_link world.links node to) refl;
}

sends_more : (node : List ℕ) (one two three : World) → Sends node one two → Sends node two three → Sends node one three
sends_more node one two three first second = record {
  nodes = second.nodes ∙ first.nodes;
  disks = second.disks ∙ first.disks;
  broken = second.broken ∙ first.broken;
  clients = λ conn. second.clients conn ∙ first.clients conn;
  others = λ from to ne. second.others from to ne ∙ first.others from to ne;
  goes = λ to. sent_on (on_link one.links node to) (on_link two.links node to) (on_link three.links node to) (first.goes to) (second.goes to);
}

elsewhere_none : (from node to other : List ℕ) (message : LinkMsg) → from ≢ node → cond (same_link from to node other) (message ∷ []) [] ≡ []
elsewhere_none from node to other message ne = rw (not_equal (slice_cmp nat_cmp) names_apart from node ne) refl

-- a client that is given bytes stays where it is
stays_there : (world : World) (conn : ℕ) (was now : Client) → client_at world conn ≡ Some was → now.at ≡ was.at → (other : ℕ)
    → node_of (client_at (record world { clients = with_value nat_cmp world.clients conn now }) other) ≡ node_of (client_at world other)
stays_there world conn was now there at other = ⊎_elim
    (λ (e : other ≡ conn).
    subst (λ c. node_of (client_at (record world { clients = with_value nat_cmp world.clients conn now }) c) ≡ node_of (client_at world c)) (sym e)
    (ap node_of (value_at-with_value nat_cmp numbers_apart world.clients conn now was there) ∙ ap (λ a. Some a) at ∙ sym (ap node_of there)))
    (λ (ne : other ≢ conn). ap node_of (value_at-with_value-other nat_cmp numbers_apart world.clients conn other now ne))
    (same_or_other nat_cmp numbers_apart other conn)

given_sends : (node : List ℕ) (world : World) (conn : ℕ) (bytes : List ℕ) (found : Option Client) → client_at world conn ≡ found
    → Sends node world (given_more world conn bytes found)
unfolding given_more
given_sends node world conn bytes None there = sends_nothing node world
given_sends node world conn bytes (Some client) there = record {
  nodes = refl;
  disks = refl;
  broken = refl;
  clients = stays_there world conn client (record client { given = client.given ++ bytes }) there refl;
  others = λ from to ne. refl;
  goes = λ to. none_sent (on_link world.links node to) (on_link world.links node to) refl;
}

pub given_links : (world : World) (conn : ℕ) (bytes : List ℕ) (found : Option Client) → (given_more world conn bytes found).links ≡ world.links
unfolding given_more
given_links world conn bytes None = refl
given_links world conn bytes (Some client) = refl

marked_sends : (node : List ℕ) (world : World) (ask : AskId) (kind : MarkKind) → Sends node world (marked world ask kind)
marked_sends node world ask kind = record {
  nodes = refl;
  disks = refl;
  broken = refl;
  clients = λ conn. refl;
  others = λ from to ne. refl;
  goes = λ to. none_sent (on_link world.links node to) (on_link world.links node to) refl;
}

carry_sends : (node : List ℕ) (world : World) (out : Out) → Sends node world (carry node world out)
unfolding carry
carry_sends node world (to_client conn bytes) = given_sends node world conn bytes (client_at world conn) refl
carry_sends node world (Close conn) = sends_nothing node world
carry_sends node world (mark_out ask counts) = marked_sends node world ask (Home counts)
carry_sends node world (tell ask how) = marked_sends node world ask (Told how)
carry_sends node world (to_node other message) = record {
  nodes = refl;
  disks = refl;
  broken = refl;
  clients = λ conn. refl;
  others = λ from to ne. on_link-sent world.links node other from to message
      ∙ ap (λ m. on_link world.links from to ++ m) (elsewhere_none from node to other message ne) ∙ append-nil (on_link world.links from to);
  goes = λ to. record { more = cond (same_link node to node other) (message ∷ []) []; behind = on_link-sent world.links node other node to message };
}

pub carry_all_sends : (node : List ℕ) (world : World) (outs : List Out) → Sends node world (carry_all node world outs)
unfolding carry_all
carry_all_sends node world [] = sends_nothing node world
carry_all_sends node world (out ∷ outs) =
    sends_more node world (carry node world out) _ (carry_sends node world out) (carry_all_sends node (carry node world out) outs)

-- what a node sends on a broken link is lost

one_kept : (node : List ℕ) (world : World) (broken : Broken) (out : Out) (to : List ℕ) → is_lost broken node out ≡ false → is_broken broken node to ≡ true
    → on_link (carry node world out).links node to ≡ on_link world.links node to
unfolding carry is_lost
one_kept node world broken (to_client conn bytes) to not is =
    ap (λ (l : Links LinkMsg). on_link l node to) (given_links world conn bytes (client_at world conn))
one_kept node world broken (Close conn) to not is = refl
one_kept node world broken (mark_out ask counts) to not is = refl
one_kept node world broken (tell ask how) to not is = refl
one_kept node world broken (to_node other message) to not is =
    on_link-sent world.links node other node to message
    ∙ ap (λ s. on_link world.links node to ++ cond s (message ∷ []) []) (elsewhere (same_link node to node other) refl)
    ∙ append-nil (on_link world.links node to)
  where
    elsewhere : (same : Bool) → same_link node to node other ≡ same → same_link node to node other ≡ false
    elsewhere true e = (let no : false ≡ true = sym not ∙ ap (is_broken broken node) (sym (same_names node to node other e).1) ∙ is in cc)
    elsewhere false e = e

either_kept : (node : List ℕ) (world : World) (broken : Broken) (out : Out) (outs : List Out) (to : List ℕ) (lost : Bool) → is_lost broken node out ≡ lost
    → is_broken broken node to ≡ true
    → on_link (carry_all node world (not_lost broken node outs)).links node to ≡ on_link world.links node to
    → on_link (carry_all node (carry node world out) (not_lost broken node outs)).links node to ≡ on_link (carry node world out).links node to
    → on_link (carry_all node world (if lost then not_lost broken node outs else out ∷ not_lost broken node outs)).links node to ≡ on_link world.links node to
unfolding carry_all
either_kept node world broken out outs to true e is without with_it = without
either_kept node world broken out outs to false e is without with_it = with_it ∙ one_kept node world broken out to e is

all_kept : (node : List ℕ) (world : World) (broken : Broken) (outs : List Out) (to : List ℕ) → is_broken broken node to ≡ true
    → on_link (carry_all node world (not_lost broken node outs)).links node to ≡ on_link world.links node to
unfolding not_lost carry_all
all_kept node world broken [] to is = refl
all_kept node world broken (out ∷ outs) to is =
    either_kept node world broken out outs to (is_lost broken node out) refl is (all_kept node world broken outs to is)
    (all_kept node (carry node world out) broken outs to is)

-- a node that works, and then sends
works_and_sends : (event : Event) (node : List ℕ) (one two three : World) → OnlyWorks event node one two → Sends node two three
    → ((to : List ℕ) → is_broken two.broken node to ≡ true → on_link three.links node to ≡ on_link two.links node to)
    → OnlyWorks event node one three
works_and_sends event node one two three works out kept = record {
  nodes = λ other ne. ap (λ n. value_at (slice_cmp nat_cmp) n other) out.nodes ∙ works.nodes other ne;
  disks = λ other ne. ap (λ d. value_at (slice_cmp nat_cmp) d other) out.disks ∙ works.disks other ne;
  clients = λ conn. out.clients conn ∙ works.clients conn;
  stays = λ from to ne. out.others from to ne ∙ works.stays from to ne;
  sends = λ to. sent_on (leaves_on event node to (on_link one.links node to)) (on_link two.links node to) (on_link three.links node to) (works.sends to)
      (out.goes to);
  lost = λ to is. kept to (subst (λ b. is_broken b node to ≡ true) (sym works.broken) is) ∙ works.lost to is;
  broken = out.broken ∙ works.broken;
}

-- an event that takes no message
abbrev TakesNone : Event → Type 0
TakesNone event = (from to : List ℕ) (queue : List LinkMsg) → leaves_on event from to queue ≡ queue

-- where nothing changes but clients
idle : (event : Event) (node : List ℕ) (world : World) (clients : List (ℕ × Client)) → TakesNone event
    → ((conn : ℕ) → node_of (value_at nat_cmp clients conn) ≡ connected event conn (node_of (client_at world conn)))
    → OnlyWorks event node world (record world { clients = clients })
idle event node world clients none there = record {
  nodes = λ other ne. refl;
  disks = λ other ne. refl;
  clients = there;
  stays = λ from to ne. sym (none from to (on_link world.links from to));
  sends = λ to. none_sent (leaves_on event node to (on_link world.links node to)) (on_link world.links node to)
      (sym (none node to (on_link world.links node to)));
  lost = λ to is. sym (none node to (on_link world.links node to));
  broken = refl;
}

-- a message is taken at the node that it goes to
takes_first : (from to : List ℕ) (world : World) → OnlyWorks (Deliver from to) to world (taken_from_link world from to)
takes_first from to world = record {
  nodes = λ other ne. refl;
  disks = λ other ne. refl;
  clients = λ conn. refl;
  stays = λ one other ne. on_link-taken world.links from to one other;
  sends = λ other. none_sent (leaves_on (Deliver from to) to other (on_link world.links to other))
      (on_link (without_first world.links from to) to other) (on_link-taken world.links from to to other);
  lost = λ other is. on_link-taken world.links from to to other;
  broken = refl;
}

pub nothing_first : (links : Links LinkMsg) (from to one other : List ℕ) (same : Bool) → same_link one other from to ≡ same → on_link links from to ≡ []
    → on_link links one other ≡ cond same (drop 1 (on_link links one other)) (on_link links one other)
nothing_first links from to one other true h none =
    let is = same_names one other from to h in
    let empty : on_link links one other ≡ [] = ap (λ x. on_link links x other) is.0 ∙ ap (λ x. on_link links from x) is.1 ∙ none in
    empty ∙ sym (ap (λ q. drop 1 q) empty)
nothing_first links from to one other false h none = refl

takes_nothing : (from to : List ℕ) (world : World) → on_link world.links from to ≡ [] → OnlyWorks (Deliver from to) to world world
takes_nothing from to world none = record {
  nodes = λ other ne. refl;
  disks = λ other ne. refl;
  clients = λ conn. refl;
  stays = λ one other ne. nothing_first world.links from to one other (same_link one other from to) refl none;
  sends = λ other. none_sent (leaves_on (Deliver from to) to other (on_link world.links to other)) (on_link world.links to other)
      (nothing_first world.links from to to other (same_link to other from to) refl none);
  lost = λ other is. nothing_first world.links from to to other (same_link to other from to) refl none;
  broken = refl;
}

-- an entry is written to the disk of its node alone
written_elsewhere : (disks : Disks) (node entry : List ℕ) (found : Option (List (List ℕ))) (other : List ℕ) → other ≢ node
    → value_at (slice_cmp nat_cmp) (written_on disks node entry found) other ≡ value_at (slice_cmp nat_cmp) disks other
unfolding written_on
written_elsewhere disks node entry None other ne = refl
written_elsewhere disks node entry (Some entries) other ne =
    value_at-with_value-other (slice_cmp nat_cmp) names_apart disks node other (entries ++ entry ∷ []) ne

pub others_disks : (disks : Disks) (node : List ℕ) (entry : Option (List ℕ)) (other : List ℕ) → other ≢ node
    → value_at (slice_cmp nat_cmp) (written disks node entry) other ≡ value_at (slice_cmp nat_cmp) disks other
unfolding written
others_disks disks node None other ne = refl
others_disks disks node (Some entry) other ne = written_elsewhere disks node entry (value_at (slice_cmp nat_cmp) disks node) other ne

-- what a node does itself
acts_itself : (event : Event) (node : List ℕ) (before world : World) (acted : Acted) → OnlyWorks event node before world
    → OnlyWorks event node before (with_acted world node acted)
acts_itself event node before world acted works = record {
  nodes = λ other ne. value_at-with_value-other (slice_cmp nat_cmp) names_apart world.nodes node other acted.state ne ∙ works.nodes other ne;
  disks = λ other ne. others_disks world.disks node acted.entry other ne ∙ works.disks other ne;
  clients = works.clients;
  stays = works.stays;
  sends = works.sends;
  lost = works.lost;
  broken = works.broken;
}

comes_works : (event : Event) (node : List ℕ) (before world : World) (input : NodeInput) (found : Option NodeState) → OnlyWorks event node before world
    → OnlyWorks event node before (comes_to world node input found)
unfolding comes_to
comes_works event node before world input None works = works
comes_works event node before world input (Some it) works =
    works_and_sends event node before _ _ (acts_itself event node before world (node_takes it input) works)
    (carry_all_sends node _ (not_lost world.broken node (node_takes it input).outs))
    (all_kept node (with_acted world node (node_takes it input)) world.broken (node_takes it input).outs)

-- no link breaks where something comes to a node
pub comes_broken : (world : World) (node : List ℕ) (input : NodeInput) (found : Option NodeState) → (comes_to world node input found).broken ≡ world.broken
unfolding comes_to
comes_broken world node input None = refl
comes_broken world node input (Some it) =
    (carry_all_sends node (with_acted world node (node_takes it input)) (not_lost world.broken node (node_takes it input).outs)).broken

-- on a broken link stands what stood there
pub comes_lost : (world : World) (node : List ℕ) (input : NodeInput) (found : Option NodeState) (from to : List ℕ) → is_broken world.broken from to ≡ true
    → on_link (comes_to world node input found).links from to ≡ on_link world.links from to
unfolding comes_to
comes_lost world node input None from to is = refl
comes_lost world node input (Some it) from to is =
    let acted = node_takes it input in
    ⊎_elim
    (λ (e : from ≡ node).
    subst (λ f. on_link (carry_all node (with_acted world node acted) (not_lost world.broken node acted.outs)).links f to ≡ on_link world.links f to) (sym e)
    (all_kept node (with_acted world node acted) world.broken acted.outs to (subst (λ f. is_broken world.broken f to ≡ true) e is)))
    (λ (ne : from ≢ node). (carry_all_sends node (with_acted world node acted) (not_lost world.broken node acted.outs)).others from to ne)
    (same_or_other (slice_cmp nat_cmp) names_apart from node)

-- a client that is connected stays where it is
joined_before : (node : List ℕ) (conn other : ℕ) (at : Option (List ℕ)) → (at ≡ None → other ≢ conn) → at ≡ connected (Open node conn) other at
joined_before node conn other (Some there) ne = refl
joined_before node conn other None ne =
    let apart : nat_eq other conn ≡ false = by (ne refl) in
    sym (ap (λ s. cond s (Some node) None) apart)
  where
    by : other ≢ conn → nat_eq other conn ≡ false
    by k = grind (arith, nat_tests)

-- a connection is opened
joins : (world : World) (node : List ℕ) (conn : ℕ) → client_at world conn ≡ None → (other : ℕ)
    → node_of (client_at (with_client world node conn) other) ≡ connected (Open node conn) other (node_of (client_at world other))
joins world node conn none other = ⊎_elim
    (λ (e : other ≡ conn).
    let same : nat_eq conn conn ≡ true = grind (arith, nat_tests) in
    subst (λ c. node_of (client_at (with_client world node conn) c) ≡ connected (Open node conn) c (node_of (client_at world c))) (sym e)
    (ap node_of (value_at-with_entry nat_cmp numbers_apart world.clients conn (record { at = node; given = [] }))
    ∙ sym (ap (λ found. connected (Open node conn) conn (node_of found)) none ∙ ap (λ s. cond s (Some node) None) same)))
    (λ (ne : other ≢ conn). ap node_of (value_at-with_entry-other nat_cmp numbers_apart world.clients conn other (record { at = node; given = [] }) ne)
    ∙ joined_before node conn other (node_of (client_at world other)) (λ _. ne))
    (same_or_other nat_cmp numbers_apart other conn)

is_there : (world : World) (conn other : ℕ) (client : Client) → client_at world conn ≡ Some client → node_of (client_at world other) ≡ None → other ≢ conn
is_there world conn other client there none e =
    let no : Some client.at ≡ None = sym (ap node_of there) ∙ ap (λ c. node_of (client_at world c)) (sym e) ∙ none in
    cc

opens_work : (world : World) (node : List ℕ) (conn : ℕ) (found : Option Client) → client_at world conn ≡ found
    → OnlyWorks (Open node conn) node world (opens world node conn found)
unfolding opens
opens_work world node conn (Some client) there =
    idle (Open node conn) node world world.clients (λ from to queue. refl)
    (λ other. joined_before node conn other (node_of (client_at world other)) (is_there world conn other client there))
opens_work world node conn None there =
    comes_works (Open node conn) node world (with_client world node conn) (Opened conn) (node_at world node)
    (idle (Open node conn) node world (with_client world node conn).clients (λ from to queue. refl) (joins world node conn there))

-- bytes come, or a client closes its connection
client_works : (event : Event) (world : World) (input : NodeInput) (found : Option Client) → WorksBy event None world world → TakesNone event
    → ((conn : ℕ) → connected event conn (node_of (client_at world conn)) ≡ node_of (client_at world conn))
    → WorksBy event (node_of found) world (client_does world input found)
unfolding client_does
client_works event world input None still none stays = still
client_works event world input (Some client) still none stays =
    comes_works event client.at world world input (node_at world client.at)
    (idle event client.at world world.clients none (λ conn. sym (stays conn)))

deliver_works : (world : World) (from to : List ℕ) (queue : List LinkMsg) → on_link world.links from to ≡ queue
    → OnlyWorks (Deliver from to) to world (deliver_first world from to queue)
unfolding deliver_first
deliver_works world from to [] first = takes_nothing from to world first
deliver_works world from to (message ∷ rest) first =
    comes_works (Deliver from to) to world (taken_from_link world from to) (From from message) (node_at world to) (takes_first from to world)

-- ---- a link breaks, or comes up

-- no link leads from a node to itself
not_both : (one other from to : List ℕ) → is_eq (slice_cmp nat_cmp one other) ≡ false → same_link from to one other ≡ true → same_link from to other one ≡ true → ⊥
not_both one other from to apart here there =
    let is = same_names from to one other here in
    let also = same_names from to other one there in
    let same : one ≡ other = sym is.0 ∙ also.0 in
    let no : false ≡ true = sym apart ∙ ap (λ n. is_eq (slice_cmp nat_cmp one n)) (sym same) ∙ names_apart.itself one in cc

cut_queues : (one other from to : List ℕ) (k l : ℕ) (queue : List LinkMsg) (here there : Bool) → (here ≡ true → there ≡ true → ⊥)
    → cond there (take l (cond here (take k queue ++ End ∷ []) queue) ++ End ∷ []) (cond here (take k queue ++ End ∷ []) queue)
    ≡ cond here (take k queue ++ End ∷ []) (cond there (take l queue ++ End ∷ []) queue)
cut_queues one other from to k l queue true true not = absurd (not refl refl)
cut_queues one other from to k l queue true false not = refl
cut_queues one other from to k l queue false there not = refl

either_or : (here there was : Bool) → (there || (here || was)) ≡ ((here || there) || was)
either_or true true was = refl
either_or true false was = refl
either_or false there was = refl

apart_by : (a same c : Bool) → ((a && not same) && c) ≡ true → same ≡ false
apart_by true true c e = cc
apart_by true false c e = refl
apart_by false same c e = cc

pub may_cut_apart : (world : World) (one other : List ℕ) → may_cut world one other ≡ true → is_eq (slice_cmp nat_cmp one other) ≡ false
unfolding may_cut
may_cut_apart world one other e =
    apart_by (may_part (node_at world one) (node_at world other)) (is_eq (slice_cmp nat_cmp one other)) (not (is_broken world.broken one other)) e

pub cut_works : (world : World) (one other : List ℕ) (k l : ℕ) (may : Bool) → may_cut world one other ≡ may
    → ChangesLinks may (Cut one other k l) world (cuts_if may world one other k l)
unfolding cuts_if may_cut
cut_works world one other k l true e = record {
  rest = refl;
  queues = λ from to. on_link-cut (cut_short world.links one other k End) other one from to l End
      ∙ ap (λ q. cond (same_link from to other one) (take l q ++ End ∷ []) q) (on_link-cut world.links one other from to k End)
      ∙ cut_queues one other from to k l (on_link world.links from to) (same_link from to one other) (same_link from to other one)
      (not_both one other from to (may_cut_apart world one other e));
  broken = λ from to. is_broken-breaking (breaking world.broken one other) other one from to
      ∙ ap (λ b. same_link from to other one || b) (is_broken-breaking world.broken one other from to)
      ∙ either_or (same_link from to one other) (same_link from to other one) (is_broken world.broken from to);
}
cut_works world one other k l false e = refl

pub join_works : (world : World) (one other : List ℕ) (may : Bool) → ChangesLinks may (Join one other) world (joins_if may world one other)
unfolding joins_if
join_works world one other true = record {
  rest = refl;
  queues = λ from to. on_link-sent (sent world.links one other Up) other one from to Up
      ∙ ap (λ q. q ++ cond (same_link from to other one) (Up ∷ []) []) (on_link-sent world.links one other from to Up);
  broken = λ from to. is_broken-mending (mending world.broken one other) other one from to
      ∙ ap (λ b. cond (same_link from to other one) false b) (is_broken-mending world.broken one other from to)
      ∙ mends (same_link from to one other) (same_link from to other one) (is_broken world.broken from to);
}
  where
    mends : (here there was : Bool) → cond there false (cond here false was) ≡ cond (here || there) false was
    mends true true was = refl
    mends true false was = refl
    mends false there was = refl
join_works world one other false = refl

pub takes_works : (world : World) (event : Event) → WorksBy event (worker world event) world (takes world event)
unfolding takes
takes_works world (Open node conn) = opens_work world node conn (client_at world conn) refl
takes_works world (Data conn bytes) =
    client_works (Data conn bytes) world (Piece conn bytes) (client_at world conn) refl (λ from to queue. refl) (λ other. refl)
takes_works world (Hang conn) = client_works (Hang conn) world (Hung conn) (client_at world conn) refl (λ from to queue. refl) (λ other. refl)
takes_works world (Deliver from to) = deliver_works world from to (on_link world.links from to) refl
takes_works world (Cut one other k l) = cut_works world one other k l (may_cut world one other) refl
takes_works world (Join one other) = join_works world one other (may_join world one other)
takes_works world event = refl

pub same_worker : (world : World) (event : Event) → worker (stepped world) event ≡ worker world event
same_worker world (Open node conn) = refl
same_worker world (Data conn bytes) = refl
same_worker world (Hang conn) = refl
same_worker world (Deliver from to) = refl
same_worker world event = refl

same_relinks : (world : World) (event : Event) → relinks (stepped world) event ≡ relinks world event
unfolding may_cut may_join
same_relinks world (Cut one other k l) = refl
same_relinks world (Join one other) = refl
same_relinks world event = refl

-- the count of steps is nothing that works
links_before_counting : (event : Event) (changes : Bool) (world after : World) → ChangesLinks changes event (stepped world) after → ChangesLinks changes event world after
links_before_counting event true world after works = record { rest = works.rest; queues = works.queues; broken = works.broken }
links_before_counting event false world after works = works

before_counting : (event : Event) (at : Option (List ℕ)) (world after : World) → WorksBy event at (stepped world) after → WorksBy event at world after
before_counting event None world after works =
    links_before_counting event (relinks world event) world after
    (subst (λ changes. ChangesLinks changes event (stepped world) after) (same_relinks world event) works)
before_counting event (Some node) world after works = record {
  nodes = works.nodes;
  disks = works.disks;
  clients = works.clients;
  stays = works.stays;
  sends = works.sends;
  lost = works.lost;
  broken = works.broken;
}

pub one_node_works : (world : World) (event : Event) → OneNodeWorks event world (steps_by world event)
one_node_works world event = record {
  counted = (takes_adds (stepped world) event).same_step;
  works = before_counting event (worker world event) world (steps_by world event)
      (subst (λ at. WorksBy event at (stepped world) (steps_by world event)) (same_worker world event) (takes_works (stepped world) event));
}

pub one_more_step : (world : World) (before : List Event) (event : Event) → run_steps world (before ++ event ∷ []) ≡ steps_by (run_steps world before) event
unfolding run_steps
one_more_step world [] event = refl
one_more_step world (first ∷ before) event = one_more_step (steps_by world first) before event

-- in each of these steps one node works
pub one_node_each : (world : World) (steps : List Event) → OneNodeWorksEach world steps
one_node_each world steps before event later parts =
    subst (λ w. OneNodeWorks event (run_steps world before) w) (sym (one_more_step world before event)) (one_node_works (run_steps world before) event)

-- ---- where no link breaks or comes up

broken_by : (event : Event) (at : Option (List ℕ)) (before after : World) → WorksBy event at before after → relinks before event ≡ false
    → after.broken ≡ before.broken
broken_by event (Some node) before after works none = works.broken
broken_by event None before after works none =
    ap (λ (w : World). w.broken) (subst (λ changes. ChangesLinks changes event before after) none works)

pub same_broken : (world : World) (event : Event) → relinks world event ≡ false → (steps_by world event).broken ≡ world.broken
same_broken world event none = broken_by event (worker world event) world (steps_by world event) (one_node_works world event).works none
