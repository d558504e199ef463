-- What a step of a backend comes to. Its mailboxes are what its one entry makes of those before.
use Rattle.std.specs.Prelude.{List, [], ◌∷◌, Option, None, Some}
use Rattle.link_msg.specs.declared.out.Out.{Out}
use Rattle.node_record.specs.declared.backend.BackendRecord.{BackendRecord}
use Rattle.backend_core.specs.declared.backend.Backend.{Backend}
use Rattle.backend_core.specs.OpPlan.{home_after}
use Rattle.backend_core.specs.Plan.{owed_outs}
use Rattle.back_node.specs.declared.node.BackNode.{BackNode}
use Rattle.back_node.specs.declared.rest.Rest.{Rest}
use Rattle.back_node.specs.declared.rest.Says.{Says}
use Rattle.back_node.specs.declared.rest.Says.TheVariants.{Now, Owed}

-- the state after a step, the entry that it writes, if it writes one, and what goes out
pub record BackActed : Type 0 where
  pub state : BackNode
  pub entry : Option BackendRecord
  pub outs : List Out

abbrev pub listed_entry : Option BackendRecord → List BackendRecord
listed_entry None = []
listed_entry (Some entry) = entry ∷ []

-- the mailboxes after an entry, if there is one
abbrev pub home_with : Backend → Option BackendRecord → Backend
home_with home entry = home_after home (listed_entry entry)

-- what goes out, by the mailboxes after the entry
abbrev pub outs_by : Backend → Says → List Out
outs_by home (Now outs) = outs
outs_by home (Owed owed) = owed_outs home owed

-- the entry is carried out, and what goes out is handed out
abbrev pub acted : BackNode → Rest → BackActed
acted node it = record {
  state = record node { home = home_with node.home it.entry };
  entry = it.entry;
  outs = outs_by (home_with node.home it.entry) it.says;
}
