-- A node is of one kind.
use Rattle.std.proofs.Common.{◌≡◌, Option, Some, None, refl}
use Rattle.back_node.specs.declared.node.BackNode.{BackNode}
use Rattle.front_core.specs.declared.front.Front.{Front}
use Rattle.master_core.specs.declared.master.Master.{Master}
use Rattle.node_step.specs.declared.node.NodeState.{NodeState}
use Rattle.node_step.specs.declared.node.NodeState.TheVariants as node
use Rattle.node_step.specs.NodeStep.{as_front, as_back, as_master}

-- what is a frontend is that one
pub front_is : (found : Option NodeState) (front : Front) → as_front found ≡ Some front → found ≡ Some (node.Front front)
unfolding as_front
front_is (Some (node.Front it)) front e = cc
front_is (Some (node.Back home)) front e = cc
front_is (Some (node.Master master)) front e = cc
front_is None front e = cc

-- what is a backend is that one
pub back_is : (found : Option NodeState) (home : BackNode) → as_back found ≡ Some home → found ≡ Some (node.Back home)
unfolding as_back
back_is (Some (node.Front front)) home e = cc
back_is (Some (node.Back it)) home e = cc
back_is (Some (node.Master master)) home e = cc
back_is None home e = cc

-- what is a master is that one
pub master_is : (found : Option NodeState) (master : Master) → as_master found ≡ Some master → found ≡ Some (node.Master master)
unfolding as_master
master_is (Some (node.Front front)) master e = cc
master_is (Some (node.Back home)) master e = cc
master_is (Some (node.Master it)) master e = cc
master_is None master e = cc

-- a backend is no frontend
pub back_no_front : (found : Option NodeState) (home : BackNode) → as_back found ≡ Some home → as_front found ≡ None
unfolding as_front as_back
back_no_front (Some (node.Front front)) home e = cc
back_no_front (Some (node.Back it)) home e = refl
back_no_front (Some (node.Master master)) home e = refl
back_no_front None home e = refl

-- and the other way round
pub front_no_back : (found : Option NodeState) (front : Front) → as_front found ≡ Some front → as_back found ≡ None
unfolding as_front as_back
front_no_back (Some (node.Front it)) front e = refl
front_no_back (Some (node.Back home)) front e = cc
front_no_back (Some (node.Master master)) front e = refl
front_no_back None front e = refl

pub a_front : (front : Front) → as_front (Some (node.Front front)) ≡ Some front
unfolding as_front
a_front front = refl

pub a_back : (home : BackNode) → as_back (Some (node.Back home)) ≡ Some home
unfolding as_back
a_back home = refl

pub no_back : (front : Front) → as_back (Some (node.Front front)) ≡ None
unfolding as_back
no_back front = refl

pub no_front : (home : BackNode) → as_front (Some (node.Back home)) ≡ None
unfolding as_front
no_front home = refl
