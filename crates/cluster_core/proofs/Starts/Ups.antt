-- Links come up one after another: a backend does something only where the link is its master's, and then it sends messages of nobody; the master does nothing.
use Rattle.std.proofs.Common.{◌≡◌, ◌≢◌, ℕ, ◌+◌, ◌&&◌, Bool, true, false, cond, List, [], ◌∷◌, ◌++◌, Option, None, Some, refl, sym, ◌∙◌, ap, subst, arith}
use Rattle.std.specs.List.{AllByRecursion}
use Rattle.std.specs.Ordering.{nat_cmp, is_eq}
use Rattle.std.specs.Cmp.Lexicographic.{slice_cmp}
use Rattle.std.proofs.Math.Logic.{⊎_elim}
use Rattle.back_node.specs.declared.node.BackNode.{BackNode}
use Rattle.back_node.specs.Node.{is_my_master}
use Rattle.back_node.specs.Takes.{taken_up, UpToEntry, passed_over}
use Rattle.back_node.specs.Acted.{acted}
use Rattle.feed_links.specs.Lines.{messages_to}
use Rattle.link_msg.specs.declared.message.LinkMsg.{LinkMsg}
use Rattle.link_msg.specs.declared.message.LinkMsg.TheVariants.{Up}
use Rattle.link_msg.specs.declared.out.Out.{Out}
use Rattle.link_queue.specs.Links.{Links, on_link}
use Rattle.many_links.specs.Murder.{put_all}
use Rattle.many_links.proofs.Carried.{puts_own, puts_else}
use Rattle.master_core.specs.Linked.{node_says}
use Rattle.mur_base.proofs.MapLaws.{names_apart, same_or_other}
use Rattle.mur_config.specs.declared.node.Link.{Link}
use Rattle.mur_config.proofs.OncePairs.{times}
use Rattle.node_step.specs.declared.input.NodeInput.TheVariants.{From}
use Rattle.node_step.specs.declared.node.NodeState.{NodeState}
use Rattle.node_step.specs.declared.node.NodeState.TheVariants as state
use Rattle.node_step.specs.NodeStep.{Acted, back_acted, back_takes, idle, master_takes, takes as node_takes}
use Rattle.cluster_core.specs.declared.world.World.{World}
use Rattle.cluster_core.specs.World.{node_at, told_up, with_ups}
use Rattle.cluster_core.proofs.Nodes.Carried.{is_made, made}
use Rattle.cluster_core.proofs.Nodes.Comes.{comes_by, made_here, made_other, none_comes, wrote}

-- a frontend notes every link, a backend takes that of its master
abbrev pub takes_up : NodeState → List ℕ → Bool
takes_up (state.Front front) from = true
takes_up (state.Back home) from = is_my_master home from
takes_up (state.Master master) from = false

abbrev pub up_acted : NodeState → List ℕ → Acted
up_acted it from = node_takes it (From from Up)

up_passed : (home : BackNode) (from : List ℕ) → is_my_master home from ≡ false → taken_up home from Up ≡ passed_over home
unfolding taken_up
up_passed home from e = rw e refl

passed_acted : (home : BackNode) → acted (passed_over home).node (passed_over home).rest ≡ record { state = home; entry = None; outs = [] }
passed_acted home = refl

-- no other link is any matter to it
pub no_up : (it : NodeState) (from : List ℕ) → takes_up it from ≡ false → up_acted it from ≡ idle it
unfolding node_takes back_takes master_takes node_says
no_up (state.Front front) from e = cc
no_up (state.Back home) from e =
    ap (λ (u : UpToEntry). back_acted (acted u.node u.rest)) (up_passed home from e) ∙ ap back_acted (passed_acted home)
no_up (state.Master master) from e = refl

-- ---- one link comes up

up_comes : (world : World) (link : Link) (it : NodeState) → world.broken ≡ [] → node_at world link.to ≡ Some it
    → told_up world link ≡ made (wrote world link.to it (From link.from Up)) link.to (up_acted it link.from).state (up_acted it link.from).outs
up_comes world link it whole at = comes_by world link.to (From link.from Up) it whole at

-- a node and what it sent stay as they were
pub record LeavesNode (world next : World) (name : List ℕ) : Type 0 where
  pub node : node_at next name ≡ node_at world name
  pub sent : (other : List ℕ) → on_link next.links name other ≡ on_link world.links name other

leaves_same : (world next : World) (name : List ℕ) → next ≡ world → LeavesNode world next name
leaves_same world next name e = record { node = ap (λ w. node_at w name) e; sent = λ other. ap (λ (w : World). on_link w.links name other) e }

leaves_on : (one two three : World) (name : List ℕ) → LeavesNode one two name → LeavesNode two three name → LeavesNode one three name
leaves_on one two three name first second = record { node = second.node ∙ first.node; sent = λ other. second.sent other ∙ first.sent other }

made_leaves : (world : World) (node name : List ℕ) (it : NodeState) (outs : List Out) → name ≢ node → LeavesNode world (made world node it outs) name
made_leaves world node name it outs ne = record {
  node = made_other world node it outs name ne;
  sent = λ other. ap (λ (l : Links LinkMsg). on_link l name other) (is_made world node it outs).links ∙ puts_else node world.links outs name other ne;
}

-- this node, if it is the one, takes it as none of its master
abbrev pub Ignores : Option NodeState → List ℕ → Link → Type 0
Ignores found name link = link.to ≡ name → (it : NodeState) → found ≡ Some it → takes_up it link.from ≡ false

idle_leaves : (world : World) (link : Link) (it : NodeState) → world.broken ≡ [] → node_at world link.to ≡ Some it → takes_up it link.from ≡ false
    → LeavesNode world (told_up world link) link.to
unfolding put_all
idle_leaves world link it whole at ignored =
    let put : World = wrote world link.to it (From link.from Up) in
    let is : told_up world link ≡ made put link.to it [] =
    up_comes world link it whole at ∙ ap (λ (a : Acted). made put link.to a.state a.outs) (no_up it link.from ignored) in
    record {
      node = ap (λ w. node_at w link.to) is ∙ made_here put link.to it [] it at ∙ sym at;
      sent = λ other. ap (λ (w : World). on_link w.links link.to other) is
          ∙ ap (λ (l : Links LinkMsg). on_link l link.to other) (is_made put link.to it []).links;
    }

told_by : (world : World) (link : Link) (name : List ℕ) (found : Option NodeState) → world.broken ≡ [] → node_at world link.to ≡ found
    → (link.to ≡ name → (it : NodeState) → found ≡ Some it → takes_up it link.from ≡ false) → LeavesNode world (told_up world link) name
told_by world link name None whole at ignores = leaves_same world (told_up world link) name (none_comes world link.to (From link.from Up) at)
told_by world link name (Some it) whole at ignores = ⊎_elim
    (λ (e : name ≡ link.to). subst (LeavesNode world (told_up world link)) (sym e) (idle_leaves world link it whole at (ignores (sym e) it refl)))
    (λ (ne : name ≢ link.to). subst (λ w. LeavesNode world w name) (sym (up_comes world link it whole at))
    (leaves_on world (wrote world link.to it (From link.from Up)) _ name (record { node = refl; sent = λ other. refl })
    (made_leaves (wrote world link.to it (From link.from Up)) link.to name (up_acted it link.from).state (up_acted it link.from).outs ne)))
    (same_or_other (slice_cmp nat_cmp) names_apart name link.to)

pub told_leaves : (world : World) (link : Link) (name : List ℕ) → world.broken ≡ [] → Ignores (node_at world name) name link
    → LeavesNode world (told_up world link) name
told_leaves world link name whole ignores =
    told_by world link name (node_at world link.to) whole refl
    (λ (e : link.to ≡ name) it at. ignores e it (ap (node_at world) (sym e) ∙ at))

still_whole : (world : World) (link : Link) (found : Option NodeState) → world.broken ≡ [] → node_at world link.to ≡ found → (told_up world link).broken ≡ []
still_whole world link None whole at = ap (λ (w : World). w.broken) (none_comes world link.to (From link.from Up) at) ∙ whole
still_whole world link (Some it) whole at =
    ap (λ (w : World). w.broken) (up_comes world link it whole at)
    ∙ (is_made (wrote world link.to it (From link.from Up)) link.to (up_acted it link.from).state (up_acted it link.from).outs).broken ∙ whole

pub told_whole : (world : World) (link : Link) → world.broken ≡ [] → (told_up world link).broken ≡ []
told_whole world link whole = still_whole world link (node_at world link.to) whole refl

-- ---- several

pub ups_leave : (world : World) (links : List Link) (name : List ℕ) (found : Option NodeState) → world.broken ≡ [] → node_at world name ≡ found
    → AllByRecursion (Ignores found name) links → LeavesNode world (with_ups world links) name
unfolding with_ups
ups_leave world [] name found whole at ignores = leaves_same world world name refl
ups_leave world (link ∷ links) name found whole at ignores =
    let first = told_leaves world link name whole (subst (λ f. Ignores f name link) (sym at) ignores.0) in
    leaves_on world (told_up world link) (with_ups (told_up world link) links) name first
    (ups_leave (told_up world link) links name found (told_whole world link whole) (first.node ∙ at) ignores.1)

-- it takes only this node as its master
abbrev pub Heeds : NodeState → List ℕ → Type 0
Heeds it master = (from : List ℕ) → from ≢ master → takes_up it from ≡ false

abbrev pub one_if : Bool → ℕ
one_if b = cond b 1 0

another_from : (name master : List ℕ) (link : Link) → one_if (is_eq (slice_cmp nat_cmp link.from master) && is_eq (slice_cmp nat_cmp link.to name)) ≡ 0
    → link.to ≡ name → link.from ≢ master
another_from name master link none to from =
    let both : (is_eq (slice_cmp nat_cmp link.from master) && is_eq (slice_cmp nat_cmp link.to name)) ≡ true =
    rw (from, to, names_apart.itself master, names_apart.itself name) refl in
    omega (arith, ap one_if both, none)

pub none_heeded : (name master : List ℕ) (it : NodeState) (links : List Link) → Heeds it master → times master name links ≡ 0
    → AllByRecursion (Ignores (Some it) name) links
unfolding times
none_heeded name master it [] heeds none = tt
none_heeded name master it (link ∷ links) heeds none =
    let test : Bool = is_eq (slice_cmp nat_cmp link.from master) && is_eq (slice_cmp nat_cmp link.to name) in (
      λ (to : link.to ≡ name) (other : NodeState) (e : Some it ≡ Some other).
          (let same : it ≡ other = cc in
          subst (λ i. takes_up i link.from ≡ false) same (heeds link.from (another_from name master link (omega (arith, none)) to))),
      none_heeded name master it links heeds (omega (arith, none)),
    )

-- a node that is told once that its master's link is up
pub record IsUpOnce (world next : World) (name master : List ℕ) (it : NodeState) : Type 0 where
  pub node : node_at next name ≡ Some (up_acted it master).state
  pub sent : (other : List ℕ) → on_link next.links name other ≡ on_link world.links name other ++ messages_to other (up_acted it master).outs

pub up_here : (world : World) (link : Link) (it : NodeState) → world.broken ≡ [] → node_at world link.to ≡ Some it
    → IsUpOnce world (told_up world link) link.to link.from it
up_here world link it whole at =
    let is = up_comes world link it whole at in
    let put : World = wrote world link.to it (From link.from Up) in
    let next : Acted = up_acted it link.from in
    record {
      node = ap (λ w. node_at w link.to) is ∙ made_here put link.to next.state next.outs it at;
      sent = λ other. ap (λ (w : World). on_link w.links link.to other) is
          ∙ ap (λ (l : Links LinkMsg). on_link l link.to other) (is_made put link.to next.state next.outs).links
          ∙ puts_own link.to world.links next.outs other;
    }

both_are : (one two : Bool) → one && two ≡ true → (one ≡ true) × (two ≡ true)
both_are true true e = (refl, refl)
both_are true false e = cc
both_are false two e = cc

once_by : (world : World) (link : Link) (links : List Link) (name master : List ℕ) (it : NodeState) (test : Bool)
    → (is_eq (slice_cmp nat_cmp link.from master) && is_eq (slice_cmp nat_cmp link.to name)) ≡ test → world.broken ≡ [] → node_at world name ≡ Some it
    → Heeds it master → Heeds (up_acted it master).state master → cond test 1 0 + times master name links ≡ 1
    → ((next : World) → next.broken ≡ [] → node_at next name ≡ Some it → times master name links ≡ 1 → IsUpOnce next (with_ups next links) name master it)
    → IsUpOnce world (with_ups (told_up world link) links) name master it
once_by world link links name master it true e whole at heeds later once rest =
    let both = both_are (is_eq (slice_cmp nat_cmp link.from master)) (is_eq (slice_cmp nat_cmp link.to name)) e in
    let from : link.from ≡ master = names_apart.exact link.from master both.0 in
    let to : link.to ≡ name = names_apart.exact link.to name both.1 in
    let here : IsUpOnce world (told_up world link) name master it =
    subst (λ n. IsUpOnce world (told_up world link) n master it) to
    (subst (λ m. IsUpOnce world (told_up world link) link.to m it) from (up_here world link it whole (ap (node_at world) to ∙ at))) in
    let left = ups_leave (told_up world link) links name (Some (up_acted it master).state) (told_whole world link whole) here.node
    (none_heeded name master (up_acted it master).state links later (omega (arith, once))) in
    record { node = left.node ∙ here.node; sent = λ other. left.sent other ∙ here.sent other }
once_by world link links name master it false e whole at heeds later once rest =
    let ignores : Ignores (node_at world name) name link = λ (to : link.to ≡ name) (other : NodeState) (there : node_at world name ≡ Some other).
    (let same : it ≡ other = (let both : Some it ≡ Some other = sym at ∙ there in cc) in
    subst (λ i. takes_up i link.from ≡ false) same (heeds link.from (another_from name master link (ap (λ b. cond b 1 0) e) to))) in
    let first = told_leaves world link name whole ignores in
    let more = rest (told_up world link) (told_whole world link whole) (first.node ∙ at) (omega (arith, once)) in
    record {
      node = more.node;
      sent = λ other. more.sent other ∙ ap (λ l. l ++ messages_to other (up_acted it master).outs) (first.sent other);
    }

pub ups_once : (world : World) (links : List Link) (name master : List ℕ) (it : NodeState) → world.broken ≡ [] → node_at world name ≡ Some it
    → Heeds it master → Heeds (up_acted it master).state master → times master name links ≡ 1 → IsUpOnce world (with_ups world links) name master it
unfolding with_ups times
ups_once world [] name master it whole at heeds later once = absurd (omega (arith, once))
ups_once world (link ∷ links) name master it whole at heeds later once =
    once_by world link links name master it (is_eq (slice_cmp nat_cmp link.from master) && is_eq (slice_cmp nat_cmp link.to name)) refl whole at heeds later once
    (λ next w a t. ups_once next links name master it w a heeds later t)
