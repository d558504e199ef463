-- The point of a LIST (RFC 9051, 6.3.9): the step in which the master takes its NOOP. The reply at the OK is made of the table of that step, which the
-- frontend's replica is then (route_links, `a_barrier_decides_by_the_table`).
use Rattle.std.specs.Prelude.{◌≡◌, ℕ, List}
use Rattle.feed_core.specs.Listing.{mailbox_names}
use Rattle.feed_links.specs.Replicas.{recs_of}
use Rattle.mur_base.specs.declared.point.AskId.{AskId}
use Rattle.mur_model.specs.declared.store.Store.{Store}
use Rattle.mur_model.specs.Listing.{names_in}
use Rattle.name_links.specs.Serials.{Given}
use Rattle.many_links.specs.Murder.{Murder}
use Rattle.point_links.specs.Barriers.{NoopComes, NoopTaken}

-- the master takes it, and the mailboxes of the one store are those of the table of this step
pub record IsListed (murder : Murder) (given : Given) (store : Store) (front : List ℕ) (id : AskId) : Type 0 where
  pub taken : NoopTaken murder given store front id
  pub names : names_in store ≡ mailbox_names (recs_of murder.master.table)

abbrev pub ListIsAPoint : Type 0
ListIsAPoint = (murder : Murder) (given : Given) (store : Store) (front : List ℕ) (id : AskId) → NoopComes murder given store front id
    → IsListed murder given store front id
