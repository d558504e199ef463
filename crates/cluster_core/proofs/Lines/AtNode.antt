-- What a single step of the world is to a backend: it takes the first message of a link, and sends what its step lets out; or it stays as it was, and sends
-- nothing.
use Rattle.std.proofs.Common.{◌≡◌, ◌≢◌, ◌⊎◌, inl, inr, ℕ, Bool, true, false, List, [], ◌∷◌, ◌++◌, slice_get, Option, None, Some, refl, sym, ap, subst, ◌∙◌, append-nil}
use Rattle.std.specs.Ordering.{nat_cmp}
use Rattle.std.specs.Cmp.Lexicographic.{slice_cmp}
use Rattle.std.proofs.lemmas.List.{append_cancel_left}
use Rattle.back_node.specs.declared.node.BackNode.{BackNode}
use Rattle.back_node.specs.Takes.{node_takes}
use Rattle.feed_links.specs.Lines.{messages_to}
use Rattle.link_msg.specs.declared.message.LinkMsg.{LinkMsg}
use Rattle.link_msg.specs.declared.out.Out.{Out}
use Rattle.link_queue.specs.Broken.{is_broken}
use Rattle.link_queue.specs.Links.{on_link}
use Rattle.many_links.proofs.Carried.{puts_own}
use Rattle.mur_base.proofs.MapLaws.{names_apart, same_or_other}
use Rattle.node_step.specs.declared.input.NodeInput.{NodeInput}
use Rattle.node_step.specs.declared.input.NodeInput.TheVariants.{Opened, Piece, Hung, From}
use Rattle.node_step.specs.declared.node.NodeState.{NodeState}
use Rattle.node_step.specs.declared.node.NodeState.TheVariants as state
use Rattle.node_step.specs.NodeStep.{as_back, back_takes, takes}
use Rattle.node_step.proofs.NodeKinds.{a_back, back_is}
use Rattle.schedule_text.specs.declared.event.Event.{Event}
use Rattle.schedule_text.specs.declared.event.Event.TheVariants.{Deliver}
use Rattle.cluster_core.specs.declared.world.World.{World}
use Rattle.cluster_core.specs.Headline.Asks.{taken_by}
use Rattle.cluster_core.specs.Headline.Lines.{Sends}
use Rattle.cluster_core.specs.Headline.OneNode.{ChangesLinks, WorksBy, leaves_on, relinks, worker}
use Rattle.cluster_core.specs.World.{home_at, node_at, steps_by}
use Rattle.cluster_core.proofs.Asking.NodeAsks.{taken_in}
use Rattle.cluster_core.proofs.Asking.StepSends.{IsBrought, StepSends, all_put, all_sent, is_away, rests as none_comes, sends, step_sends}
use Rattle.cluster_core.proofs.Runs.OneNodeLaw.{one_node_works}

-- the backend sends these in the step, to each node, but nothing on a broken link
abbrev pub SendsIn : World → Event → List ℕ → (List ℕ → List LinkMsg) → Type 0
SendsIn world event node all = (to : List ℕ) (sent : List LinkMsg) → Sends world event node to sent → (sent ≡ all to) ⊎ (sent ≡ [])

abbrev pub SendsNothing : World → Event → List ℕ → Type 0
SendsNothing world event node = (to : List ℕ) (sent : List LinkMsg) → Sends world event node to sent → sent ≡ []

pub data IsAtNode (world : World) (event : Event) (node : List ℕ) (home : BackNode) : Type 0 where
  rests : home_at (steps_by world event) node ≡ Some home → SendsNothing world event node → IsAtNode world event node home
  works : (from : List ℕ) (message : LinkMsg) (rest : List LinkMsg) → event ≡ Deliver from node → on_link world.links from node ≡ message ∷ rest
      → home_at (steps_by world event) node ≡ Some (node_takes home from message).state
      → SendsIn world event node (λ to. messages_to to (node_takes home from message).outs) → IsAtNode world event node home

-- where none works, each is as it was
pub no_node_changes : (changes : Bool) (event : Event) (world next : World) → ChangesLinks changes event world next → (node : List ℕ)
    → node_at next node ≡ node_at world node
no_node_changes true event world next only node = ap (λ (w : World). node_at w node) only.rest
no_node_changes false event world next same node = ap (λ (w : World). node_at w node) same

-- ---- the first message of a link

record HasFirst (queue : List LinkMsg) (message : LinkMsg) : Type 0 where
  rest : List LinkMsg
  is : queue ≡ message ∷ rest

has_first : (queue : List LinkMsg) (message : LinkMsg) → slice_get queue 0 ≡ Some message → HasFirst queue message
has_first [] message e = cc
has_first (first ∷ rest) message e = (let same : first ≡ message = cc in record { rest = rest; is = ap (λ m. m ∷ rest) same })

-- what outputs put on a link of their node are the messages to the other
same_sent : (node to : List ℕ) (outs : List Out) → all_sent node to outs ≡ messages_to to outs
same_sent node to outs =
    append_cancel_left (on_link [] node to) (all_sent node to outs) (messages_to to outs) (sym (all_put node to [] outs) ∙ puts_own node [] outs to)

module _ (world : World) (node : List ℕ) (home : BackNode) (there : home_at world node ≡ Some home) where
  abbrev IsAt : Event → Type 0
  IsAt event = IsAtNode world event node home

  -- so much stands on a link of it behind the step, and so much it sends
  sends_so : (event : Event) (to : List ℕ) (all : List LinkMsg)
      → on_link (steps_by world event).links node to ≡ leaves_on event node to (on_link world.links node to) ++ all
      → (sent : List LinkMsg) → Sends world event node to sent → sent ≡ all
  sends_so event to all links sent is =
      append_cancel_left (leaves_on event node to (on_link world.links node to)) sent all (sym is.behind ∙ links)

  nothing_sent : (event : Event) (to : List ℕ)
      → on_link (steps_by world event).links node to ≡ leaves_on event node to (on_link world.links node to)
      → (sent : List LinkMsg) → Sends world event node to sent → sent ≡ []
  nothing_sent event to links = sends_so event to [] (links ∙ sym (append-nil (leaves_on event node to (on_link world.links node to))))

  -- ---- another node works, or none

  elsewhere : (event : Event) (at : Option (List ℕ)) → worker world event ≡ at → (at ≡ Some node → ⊥) → WorksBy event at world (steps_by world event)
      → IsAt event
  elsewhere event None is other changes =
      rests (ap as_back (no_node_changes (relinks world event) event world (steps_by world event) changes node) ∙ there)
      (λ to sent its. (let no : None ≡ Some node = sym is ∙ its.works in cc))
  elsewhere event (Some by) is other works_there =
      rests (ap as_back (works_there.nodes node (λ e. other (ap (λ n. Some n) (sym e)))) ∙ there)
      (λ to sent its. absurd (other (sym is ∙ its.works)))

  -- ---- something comes to it

  module _ (event : Event) where
    abbrev next : World
    next = steps_by world event

    abbrev Comes : NodeInput → Type 0
    Comes input = IsBrought event node input → taken_by event world ≡ taken_in input → node_at next node ≡ Some (takes (state.Back home) input).state
        → ((to : List ℕ) → is_broken world.broken node to ≡ false → on_link next.links node to
        ≡ leaves_on event node to (on_link world.links node to) ++ all_sent node to (takes (state.Back home) input).outs)
        → ((to : List ℕ) → is_broken world.broken node to ≡ true → on_link next.links node to ≡ leaves_on event node to (on_link world.links node to))
        → IsAt event

    -- by whether the link is broken
    sends_by : (to : List ℕ) (all : List LinkMsg) (lost : Bool) → is_broken world.broken node to ≡ lost
        → (is_broken world.broken node to ≡ false → on_link next.links node to ≡ leaves_on event node to (on_link world.links node to) ++ all)
        → (is_broken world.broken node to ≡ true → on_link next.links node to ≡ leaves_on event node to (on_link world.links node to))
        → (sent : List LinkMsg) → Sends world event node to sent → (sent ≡ all) ⊎ (sent ≡ [])
    sends_by to all false e links cut sent is = inl (sends_so event to all (links e) sent is)
    sends_by to all true e links cut sent is = inr (nothing_sent event to (cut e) sent is)

    -- of what a client does nothing comes
    client_comes : node_at next node ≡ Some (state.Back home)
        → ((to : List ℕ) → is_broken world.broken node to ≡ false → on_link next.links node to ≡ leaves_on event node to (on_link world.links node to) ++ [])
        → ((to : List ℕ) → is_broken world.broken node to ≡ true → on_link next.links node to ≡ leaves_on event node to (on_link world.links node to))
        → IsAt event
    client_comes own links cut =
        rests (ap as_back own ∙ a_back home)
        (λ to sent is. either (sends_by to [] (is_broken world.broken node to) refl (links to) (cut to) sent is))
      where
        either : {sent : List LinkMsg} → (sent ≡ []) ⊎ (sent ≡ []) → sent ≡ []
        either (inl e) = e
        either (inr e) = e

    comes : (input : NodeInput) → Comes input
    unfolding takes back_takes
    comes (Opened conn) brought taken own links cut = client_comes own links cut
    comes (Piece conn bytes) brought taken own links cut = client_comes own links cut
    comes (Hung conn) brought taken own links cut = client_comes own links cut
    comes (From from message) brought taken own links cut =
        let first = has_first (on_link world.links from node) message (ap (λ (e : Event). taken_by e world) (sym brought) ∙ taken) in
        let acted = node_takes home from message in
        works from message first.rest brought first.is (ap as_back own ∙ a_back acted.state)
        (λ to. sends_by to (messages_to to acted.outs) (is_broken world.broken node to) refl
        (λ whole. links to whole ∙ ap (λ (l : List LinkMsg). leaves_on event node to (on_link world.links node to) ++ l) (same_sent node to acted.outs))
        (cut to))

    by_sends : StepSends world event node next → IsAt event
    unfolding as_back
    by_sends (none_comes none same links) = rests (ap as_back same ∙ there) (λ to. nothing_sent event to (links to))
    by_sends (is_away away same links) = absurd (let no : None ≡ Some home = sym (ap as_back away) ∙ there in cc)
    by_sends (sends it input at brought taken own links cut) =
        let its : it ≡ state.Back home = (let both : Some it ≡ Some (state.Back home) = sym at ∙ back_is (node_at world node) home there in cc) in
        comes input brought taken
        (subst (λ (s : NodeState). node_at next node ≡ Some (takes s input).state) its own)
        (subst (λ (s : NodeState). (to : List ℕ) → is_broken world.broken node to ≡ false → on_link next.links node to
        ≡ leaves_on event node to (on_link world.links node to) ++ all_sent node to (takes s input).outs) its links) cut

    works_of : (at : Option (List ℕ)) → worker world event ≡ at → WorksBy event at world next
    works_of at is = subst (λ (w : Option (List ℕ)). WorksBy event w world next) is (one_node_works world event).works

    by_worker : (at : Option (List ℕ)) → worker world event ≡ at → IsAt event
    by_worker None is = elsewhere event None is (λ e. cc) (works_of None is)
    by_worker (Some by) is = by_same (same_or_other (slice_cmp nat_cmp) names_apart by node)
      where
        by_same : (by ≡ node) ⊎ (by ≢ node) → IsAt event
        by_same (inl e) = by_sends (step_sends world event node (is ∙ ap (λ n. Some n) e))
        by_same (inr ne) = elsewhere event (Some by) is (λ e. ne (let same : by ≡ node = cc in same)) (works_of (Some by) is)

    pub at_node : IsAt event
    at_node = by_worker (worker world event) refl
