-- WHAT EVERY WORLD OF A RUN HOLDS beside the law: whom a master tells of changes is connected to it, a master sends itself nothing, nothing comes from
-- where no node is, and only links between two nodes are broken that may break. A step of a node keeps it.
use Rattle.std.proofs.Common.{◌≡◌, ◌≢◌, ℕ, true, List, [], ◌∷◌, ◌++◌, Option, None, Some, refl, sym, ◌∙◌, ap, subst}
use Rattle.std.proofs.Math.Logic.{⊎_elim}
use Rattle.std.proofs.lemmas.Bool.{cases_eq}
use Rattle.std.specs.Ordering.{nat_cmp}
use Rattle.std.specs.Cmp.Lexicographic.{slice_cmp}
use Rattle.cluster_core.specs.declared.world.Client.{Client}
use Rattle.feed_links.specs.Lines.{messages_to, stream_of}
use Rattle.link_msg.specs.declared.message.LinkMsg.{LinkMsg}
use Rattle.link_msg.specs.declared.out.Out.{Out}
use Rattle.link_msg.specs.declared.out.Out.TheVariants.{Client as to_client, Close, Link as to_node, Mark as mark, Told as tell}
use Rattle.link_queue.specs.Broken.{Broken, is_broken}
use Rattle.link_queue.specs.Links.{on_link}
use Rattle.many_links.proofs.Carried.{puts_else, puts_own}
use Rattle.master_core.specs.declared.master.Master.{Master}
use Rattle.mur_base.specs.Map.{value_at, with_value}
use Rattle.mur_base.proofs.MapLaws.{names_apart, numbers_apart, same_or_other, value_at-with_value, value_at-with_value-other}
use Rattle.node_step.specs.declared.node.NodeState.{NodeState}
use Rattle.node_step.specs.NodeStep.{as_master}
use Rattle.cluster_core.specs.declared.world.World.{World}
use Rattle.cluster_core.specs.World.{master_at, node_at}
use Rattle.cluster_core.proofs.Links.Tells.{ArePartedAt, kind_of, parted_still}
use Rattle.cluster_core.proofs.Links.Thinned.{IsThinned, part_of_none, parts_of}
use Rattle.cluster_core.proofs.Nodes.Carried.{given_all, given_by, given_out, is_made, made}
use Rattle.cluster_core.proofs.Nodes.Comes.{made_here, made_other}
use Rattle.cluster_core.proofs.Points.Outside.{AreThey, IsIts, they_keep}

-- of the master of this name
pub record IsMasterOf (world : World) (node : List ℕ) (master : Master) : Type 0 where
  pub watchers : AreThey (IsIts node world.clients) master.watchers
  pub no_stream : stream_of master node ≡ None
  pub selfless : on_link world.links node node ≡ []

pub record HoldsAlways (world : World) : Type 0 where
  pub masters : (node : List ℕ) (master : Master) → master_at world node ≡ Some master → IsMasterOf world node master
  pub senders : (node other : List ℕ) → node_at world node ≡ None → on_link world.links node other ≡ []
  pub cut : (one other : List ℕ) → is_broken world.broken one other ≡ true → ArePartedAt world one other × (one ≢ other)

-- so it does where messages on broken links are gone
pub thinned_always : (world next : World) → IsThinned world next → HoldsAlways world → HoldsAlways next
thinned_always world next thin holds =
    let same : (any : List ℕ) → node_at next any ≡ node_at world any = λ any. ap (λ n. value_at (slice_cmp nat_cmp) n any) thin.nodes in
    record {
      masters = λ node master at.
          (let is = holds.masters node master (ap as_master (sym (same node)) ∙ at) in
          record {
            watchers = subst (λ cs. AreThey (IsIts node cs) master.watchers) (sym thin.clients) is.watchers;
            no_stream = is.no_stream;
            selfless = part_of_none (parts_of world next thin node node) is.selfless;
          });
      senders = λ node other none. part_of_none (parts_of world next thin node other) (holds.senders node other (sym (same node) ∙ none));
      cut = λ one other lost.
          (let was = holds.cut one other (ap (λ (b : Broken). is_broken b one other) (sym thin.broken) ∙ lost) in
          (parted_still world next (λ any. ap kind_of (same any)) one other was.0, was.1));
    }

-- ---- a client that is connected to a node stays connected to it, whatever it is given

module _ (name : List ℕ) where
  given_stays : (clients : List (ℕ × Client)) (c : ℕ) (bytes : List ℕ) (found : Option Client) → value_at nat_cmp clients c ≡ found → (conn : ℕ)
      → IsIts name clients conn → IsIts name (given_by clients c bytes found) conn
  given_stays clients c bytes None there conn its = its
  given_stays clients c bytes (Some client) there conn its =
      let now : Client = record client { given = client.given ++ bytes } in
      ⊎_elim
      (λ (e : conn ≡ c).
      (let both : Some client ≡ Some (record { at = name; given = its.0 }) = sym there ∙ ap (value_at nat_cmp clients) (sym e) ∙ its.1 in
      let same : client ≡ record { at = name; given = its.0 } = cc in
      let at : now ≡ record { at = name; given = its.0 ++ bytes } = ap (λ (k : Client). record k { given = k.given ++ bytes }) same in (
        its.0 ++ bytes,
        ap (value_at nat_cmp (with_value nat_cmp clients c now)) e ∙ value_at-with_value nat_cmp numbers_apart clients c now client there ∙ ap (λ (k : Client). Some k) at,
      )))
      (λ (ne : conn ≢ c). (its.0, value_at-with_value-other nat_cmp numbers_apart clients c conn now ne ∙ its.1))
      (cases_eq conn c)

  out_stays : (clients : List (ℕ × Client)) (out : Out) (conn : ℕ) → IsIts name clients conn → IsIts name (given_out clients out) conn
  unfolding given_out
  out_stays clients (to_client c bytes) conn its = given_stays clients c bytes (value_at nat_cmp clients c) refl conn its
  out_stays clients (Close c) conn its = its
  out_stays clients (to_node other message) conn its = its
  out_stays clients (mark ask counts) conn its = its
  out_stays clients (tell ask how) conn its = its

  pub its_stays : (clients : List (ℕ × Client)) (outs : List Out) (conn : ℕ) → IsIts name clients conn → IsIts name (given_all clients outs) conn
  unfolding given_all
  its_stays clients [] conn its = its
  its_stays clients (out ∷ outs) conn its = its_stays (given_out clients out) outs conn (out_stays clients out conn its)

-- ---- a node in another state, and what it let out

-- what the state of the step is, if it is a master's
pub record IsWell (world : World) (node : List ℕ) (outs : List Out) (master : Master) : Type 0 where
  pub watchers : AreThey (IsIts node world.clients) master.watchers
  pub no_stream : stream_of master node ≡ None
  pub selfless : on_link world.links node node ≡ []
  pub sends_others : messages_to node outs ≡ []

abbrev pub IsWellStep : World → List ℕ → NodeState → List Out → Type 0
IsWellStep world node it outs = (master : Master) → as_master (Some it) ≡ Some master → IsWell world node outs master

module _ (world : World) (node : List ℕ) (was it : NodeState) (outs : List Out) (there : node_at world node ≡ Some was) (kind : kind_of (Some it) ≡ kind_of (Some was))
    (holds : HoldsAlways world) (well : IsWellStep world node it outs) where
  abbrev next : World
  next = made world node it outs

  watch_on : (any : List ℕ) (master : Master) → AreThey (IsIts any world.clients) master.watchers → AreThey (IsIts any next.clients) master.watchers
  watch_on any master are =
      subst (λ cs. AreThey (IsIts any cs) master.watchers) (sym (is_made world node it outs).clients)
      (they_keep (IsIts any world.clients) (IsIts any (given_all world.clients outs)) (its_stays any world.clients outs) master.watchers are)

  its_master : (master : Master) → master_at next node ≡ Some master → IsMasterOf next node master
  its_master master at =
      let is = well master (ap as_master (sym (made_here world node it outs was there)) ∙ at) in
      record {
        watchers = watch_on node master is.watchers;
        no_stream = is.no_stream;
        selfless = ap (λ l. on_link l node node) (is_made world node it outs).links ∙ puts_own node world.links outs node
            ∙ ap (λ (l : List LinkMsg). l ++ messages_to node outs) is.selfless ∙ is.sends_others;
      }

  other_master : (any : List ℕ) (master : Master) → any ≢ node → master_at next any ≡ Some master → IsMasterOf next any master
  other_master any master ne at =
      let is = holds.masters any master (ap as_master (sym (made_other world node it outs any ne)) ∙ at) in
      record {
        watchers = watch_on any master is.watchers;
        no_stream = is.no_stream;
        selfless = ap (λ l. on_link l any any) (is_made world node it outs).links ∙ puts_else node world.links outs any any ne ∙ is.selfless;
      }

  not_it : (any : List ℕ) → node_at next any ≡ None → any ≢ node
  not_it any none e = (let no : None ≡ Some it = sym none ∙ ap (node_at next) e ∙ made_here world node it outs was there in cc)

  kinds : (any : List ℕ) → kind_of (node_at next any) ≡ kind_of (node_at world any)
  kinds any = ⊎_elim
      (λ (e : any ≡ node). ap (λ n. kind_of (node_at next n)) e ∙ ap kind_of (made_here world node it outs was there) ∙ kind ∙ ap kind_of (sym there)
      ∙ ap (λ n. kind_of (node_at world n)) (sym e))
      (λ (ne : any ≢ node). ap kind_of (made_other world node it outs any ne))
      (same_or_other (slice_cmp nat_cmp) names_apart any node)

  pub made_holds : HoldsAlways next
  made_holds = record {
    masters = λ any master at. ⊎_elim
        (λ (e : any ≡ node). subst (λ n. IsMasterOf next n master) (sym e) (its_master master (ap (master_at next) (sym e) ∙ at)))
        (λ (ne : any ≢ node). other_master any master ne at)
        (same_or_other (slice_cmp nat_cmp) names_apart any node);
    senders = λ any other none. ap (λ l. on_link l any other) (is_made world node it outs).links
        ∙ puts_else node world.links outs any other (not_it any none)
        ∙ holds.senders any other (sym (made_other world node it outs any (not_it any none)) ∙ none);
    cut = λ one other lost.
        (let before = holds.cut one other (ap (λ (b : Broken). is_broken b one other) (sym (is_made world node it outs).broken) ∙ lost) in
        (parted_still world next kinds one other before.0, before.1));
  }
