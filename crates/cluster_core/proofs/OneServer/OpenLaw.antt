-- A name is open at one node, and a backend that has it open has the store's mailbox, and is the server of its record.
use Rattle.std.proofs.Common.{◌≡◌, ℕ, true, List, Option, None, Some, refl, sym, ◌∙◌, ap}
use Rattle.std.specs.Ordering.{nat_cmp}
use Rattle.std.specs.Cmp.Lexicographic.{slice_cmp}
use Rattle.back_node.specs.declared.node.BackNode.{BackNode}
use Rattle.backend_core.specs.HomeLaws.{is_open, is_open_here}
use Rattle.mur_base.specs.Map.{value_at}
use Rattle.mur_base.specs.declared.home.Phase.{Phase}
use Rattle.mur_base.specs.declared.home.Phase.TheVariants.{Open as open_here}
use Rattle.node_record.specs.declared.held.Held.{Held}
use Rattle.many_links.proofs.OpenLaw.{one_has_it_open}
use Rattle.mur_config.specs.declared.config.Config.{Config}
use Rattle.imap_talk.specs.Heard.{Heard}
use Rattle.cluster_core.specs.declared.world.World.{World}
use Rattle.cluster_core.specs.Headline.OpenAt.{OpensAtOneNode}
use Rattle.cluster_core.specs.Shown.{held_at_node, held_by}
use Rattle.cluster_core.specs.World.{home_at}
use Rattle.cluster_core.proofs.Connections.KeepsLaw.{KeepsLaw, murder_of}

-- what a node has of a name, its backend has
pub record HasIt (world : World) (node name : List ℕ) (held : Held) : Type 0 where
  pub backend : BackNode
  pub is : home_at world node ≡ Some backend
  pub at : value_at (slice_cmp nat_cmp) backend.home.held name ≡ Some held

has_by : (world : World) (node name : List ℕ) (held : Held) (found : Option BackNode) → home_at world node ≡ found
    → value_at (slice_cmp nat_cmp) (held_by found) name ≡ Some held → HasIt world node name held
has_by world node name held None is at = cc
has_by world node name held (Some backend) is at = record { backend = backend; is = is; at = at }

pub has_it : (world : World) (node name : List ℕ) (held : Held) → value_at (slice_cmp nat_cmp) (held_at_node world node) name ≡ Some held
    → HasIt world node name held
has_it world node name held at = has_by world node name held (home_at world node) refl at

pub open_test : (phase : Phase) → phase ≡ open_here → is_open phase ≡ true
unfolding is_open
open_test phase e = ap is_open e

pub open_found : (held : Held) (found : Option Held) → found ≡ Some held → is_open held.phase ≡ true → is_open_here found ≡ true
unfolding is_open_here
open_found held found at test = ap is_open_here at ∙ test

pub open_at_one : (config : Config) (heard : ℕ → Heard) (world : World) → KeepsLaw config heard world → OpensAtOneNode world
open_at_one config heard world law = λ name one other here there.
    let its = has_it world one name here.held here.at in
    let too = has_it world other name there.held there.at in
    sym (one_has_it_open (murder_of world law.master) law.given law.story.course.store one other its.backend too.backend name law.many its.is too.is
    (open_found here.held _ its.at (open_test here.held.phase here.is_open))
    (open_found there.held _ too.at (open_test there.held.phase there.is_open)))
