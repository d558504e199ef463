-- No link of the master with a backend breaks or comes up, so what is on its way from the master to a backend stays on its way.
use Rattle.std.proofs.Common.{◌≡◌, ◌≢◌, ℕ, ◌&&◌, Bool, true, false, if◌then◌else◌, List, [], ◌∷◌, ◌++◌, take, refl, sym, ◌∙◌, ap, append-nil}
use Rattle.link_msg.specs.declared.message.LinkMsg.{LinkMsg}
use Rattle.link_msg.specs.declared.message.LinkMsg.TheVariants.{Up, End}
use Rattle.link_queue.specs.Broken.{is_broken}
use Rattle.link_queue.specs.Links.{on_link, same_link}
use Rattle.link_queue.proofs.Wires.{same_names}
use Rattle.schedule_text.specs.declared.event.Event.{Event}
use Rattle.schedule_text.specs.declared.event.Event.TheVariants.{Cut, Join}
use Rattle.cluster_core.specs.declared.world.World.{World}
use Rattle.cluster_core.specs.Headline.OneNode.{relinked, relinks, up_on}
use Rattle.cluster_core.specs.World.{is_nothing, may_join}
use Rattle.cluster_core.proofs.Runs.NeverMoved.{WorldIsQuiet, cut_apart, homes_of, join_apart}
use Rattle.cluster_core.proofs.Runs.QuietNodes.{NotMasters}

first_true : (one two : Bool) → one && two ≡ true → one ≡ true
first_true true two e = refl
first_true false two e = cc

module _ (master to : List ℕ) (homes : List ℕ → Bool) (home : homes to ≡ true) where
  -- another link
  not_its : (one other : List ℕ) → (homes other ≡ true → one ≢ master) → (same : Bool) → same_link master to one other ≡ same → same ≡ false
  not_its one other ne true e =
      let are = same_names master to one other e in absurd (ne (ap homes (sym are.1) ∙ home) (sym are.0))
  not_its one other ne false e = refl

  module _ (one other : List ℕ) (apart : NotMasters master homes one other) where
    not_there : same_link master to one other ≡ false
    not_there = not_its one other apart.from_apart (same_link master to one other) refl

    not_back : same_link master to other one ≡ false
    not_back = not_its other one apart.to_apart (same_link master to other one) refl

    cut_leaves : (kept kept_back : ℕ) (queue : List LinkMsg) → relinked (Cut one other kept kept_back) master to queue ≡ queue
    cut_leaves kept kept_back queue =
        ap (λ same. if same then take kept queue ++ End ∷ [] else (if same_link master to other one then take kept_back queue ++ End ∷ [] else queue)) not_there
        ∙ ap (λ same. if same then take kept_back queue ++ End ∷ [] else queue) not_back

    join_leaves : (queue : List LinkMsg) → relinked (Join one other) master to queue ≡ queue
    join_leaves queue =
        ap (λ l. (queue ++ l) ++ up_on other one master to) (ap (λ same. if same then Up ∷ [] else []) not_there)
        ∙ ap (λ l. (queue ++ []) ++ l) (ap (λ same. if same then Up ∷ [] else []) not_back)
        ∙ append-nil (queue ++ []) ∙ append-nil queue

module _ (master to : List ℕ) where
  module _ (world : World) (quiet : WorldIsQuiet master world) (home : homes_of world to ≡ true) where
    joined_is_broken : (one other : List ℕ) → may_join world one other ≡ true → is_broken world.broken one other ≡ true
    unfolding may_join
    joined_is_broken one other may =
        first_true (is_broken world.broken one other) (is_nothing (on_link world.links one other))
        (first_true (is_broken world.broken one other && is_nothing (on_link world.links one other)) (is_nothing (on_link world.links other one)) may)

    pub master_links_stay : (event : Event) (queue : List LinkMsg) → relinks world event ≡ true → relinked event master to queue ≡ queue
    master_links_stay (Cut one other kept kept_back) queue may =
        cut_leaves master to (homes_of world) home one other (cut_apart master world one other quiet.nodes may) kept kept_back queue
    master_links_stay (Join one other) queue may =
        join_leaves master to (homes_of world) home one other (join_apart master world one other (joined_is_broken one other may) quiet.whole) queue
    master_links_stay event queue may = refl
