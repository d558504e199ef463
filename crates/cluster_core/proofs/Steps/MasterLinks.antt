-- What is on each link behind a step of the master, and where a command is.
use Rattle.std.proofs.Common.{◌≡◌, ◌≢◌, inl, inr, ℕ, List, ◌++◌, Some, refl, sym, ap, subst, ◌∙◌}
use Rattle.feed_core.specs.declared.replica.Replica.{Replica}
use Rattle.feed_links.specs.Lines.{messages_to}
use Rattle.link_msg.specs.declared.message.LinkMsg.{LinkMsg}
use Rattle.link_queue.specs.Links.{Links, on_link}
use Rattle.many_links.specs.ManyHold.{ManyHold}
use Rattle.many_links.specs.Murder.{Murder, put_all, taken}
use Rattle.many_links.proofs.Carried.{puts_else, puts_own, taken_else, taken_first}
use Rattle.master_core.specs.Outside.{Stepped}
use Rattle.mur_base.specs.declared.point.AskId.{AskId}
use Rattle.mur_model.specs.declared.store.Store.{Store}
use Rattle.back_node.specs.declared.node.BackNode.{BackNode}
use Rattle.name_commands.specs.Places.{TalkShows}
use Rattle.name_commands.specs.Whose.{is_of_connection}
use Rattle.name_links.specs.Serials.{Given}
use Rattle.route_links.specs.Barriers.{IsBarrierAt}
use Rattle.cluster_core.proofs.Commands.InPlace.{ShowEach}
use Rattle.cluster_core.proofs.Commands.Place.{Place, at_backend, at_barrier}
use Rattle.cluster_core.proofs.Steps.Murders.{IsFirstOn, no_master, shows_on}

-- what the step left on the links of the other nodes with the master
abbrev pub UpsLeft : Murder → Links LinkMsg → List ℕ → List LinkMsg → Type 0
UpsLeft murder left q up = on_link left q murder.master.me ≡ up

abbrev pub DownsLeft : Murder → Links LinkMsg → Type 0
DownsLeft murder left = (q : List ℕ) → q ≢ murder.master.me → on_link left murder.master.me q ≡ on_link murder.links murder.master.me q

module _ (murder : Murder) (left : Links LinkMsg) (next : Stepped) (downs : DownsLeft murder left) where
  abbrev me : List ℕ
  me = murder.master.me

  abbrev then : Links LinkMsg
  then = put_all me left next.outs

  up_then : (q : List ℕ) (up : List LinkMsg) → q ≢ me → UpsLeft murder left q up → on_link then q me ≡ up
  up_then q up ne is = puts_else me left next.outs q me ne ∙ is

  down_then : (q : List ℕ) → q ≢ me → on_link then me q ≡ on_link murder.links me q ++ messages_to q next.outs
  down_then q ne = puts_own me left next.outs q ∙ ap (λ (l : List LinkMsg). l ++ messages_to q next.outs) (downs q ne)

  -- at a backend
  abbrev pub ShownBehind : ℕ → Place → List ℕ → BackNode → Type 0
  ShownBehind conn here q its =
      TalkShows (is_of_connection conn) its (on_link left q me) (on_link murder.links me q ++ messages_to q next.outs) (at_backend q here)

  pub shows_behind : (given : Given) (store : Store) (conn : ℕ) (here : Place) → ManyHold murder given store
      → ((q : List ℕ) (its : BackNode) → murder.nodes q ≡ Some its → ShownBehind conn here q its) → ShowEach me murder.nodes then conn here
  shows_behind given store conn here holds shown = λ q its at.
      let ne = no_master murder given store q its holds at in
      shows_on (is_of_connection conn) its (on_link left q me) (on_link murder.links me q ++ messages_to q next.outs) (on_link then q me) (on_link then me q)
      (at_backend q here) (at_backend q here) (up_then q (on_link left q me) ne refl) (down_then q ne) refl (shown q its at)

  -- at a frontend
  pub barrier_behind : (front : List ℕ) (replica : Replica) (id : AskId) (here : Place) → front ≢ me
      → IsBarrierAt id (at_barrier here) (on_link left front me) (on_link murder.links me front ++ messages_to front next.outs) replica
      → IsBarrierAt id (at_barrier here) (on_link then front me) (on_link then me front) replica
  barrier_behind front replica id here ne is =
      subst (λ (u : List LinkMsg). IsBarrierAt id (at_barrier here) u (on_link then me front) replica) (sym (up_then front (on_link left front me) ne refl))
      (subst (λ (d : List LinkMsg). IsBarrierAt id (at_barrier here) (on_link left front me) d replica) (sym (down_then front ne)) is)

-- where it took a message
pub downs_taken : (murder : Murder) (from : List ℕ) → DownsLeft murder (taken murder from murder.master.me)
downs_taken murder from = λ q ne. taken_else murder.links from murder.master.me murder.master.me q (inr ne)

pub up_first : (murder : Murder) (from : List ℕ) (message : LinkMsg) (first : IsFirstOn murder from murder.master.me message)
    → on_link (taken murder from murder.master.me) from murder.master.me ≡ first.rest
up_first murder from message first = taken_first murder.links from murder.master.me message first.rest first.first

pub up_else : (murder : Murder) (from q : List ℕ) → q ≢ from
    → on_link (taken murder from murder.master.me) q murder.master.me ≡ on_link murder.links q murder.master.me
up_else murder from q ne = taken_else murder.links from murder.master.me q murder.master.me (inl ne)
