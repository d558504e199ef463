-- A SEARCH at the home of its mailbox is one at the store, whether or not the rows of the mailbox tell what is found.
use Rattle.std.proofs.Common.{◌≡◌, ℕ, Bool, true, false, List, Some, refl, sym, subst}
use Rattle.backend_core.specs.declared.backend.Backend.{Backend}
use Rattle.node_record.specs.declared.held.Held.{Held}
use Rattle.backend_core.specs.HomeStep.{held_at}
use Rattle.backend_core.specs.Look.{look_step}
use Rattle.backend_core.specs.Summaries.{summaries_step}
use Rattle.mur_model.specs.declared.work.ViewWork.TheVariants.{Search}
use Rattle.mur_model.specs.Needed.{Viewed as viewed_work}
use Rattle.mur_model.specs.declared.commands.search.Searching.{Searching}
use Rattle.mur_model.specs.declared.store.Store.{Store}
use Rattle.mur_model.specs.declared.view.View.{View}
use Rattle.mur_model.specs.ClientView.{uids}
use Rattle.mur_model.specs.Left.{kept}
use Rattle.mur_model.specs.Search.{search_at}
use Rattle.mur_model.specs.SearchRows.{are_keys_in_rows, rows_searched}
use Rattle.mur_model.specs.Selected.{rows_of}
use Rattle.mur_model.specs.Viewing.{viewed_on, work_there}
use Rattle.mur_model.proofs.SearchRowsLaw.{rows_search}
use Rattle.mur_model.specs.Asking.{search_op}
use Rattle.session_core.specs.Viewed.{viewed_done}
use Rattle.backend_core.specs.OpenBox.{open_content}
use Rattle.serve_law.proofs.HomeStore.{IsAtHome}
use Rattle.serve_law.proofs.ServedAlike.{ServesAlike}
use Rattle.serve_law.proofs.ViewedAlike.{LooksAlike, looks_alike, SummariesAlike, summaries_alike, ViewsAlike}
use Rattle.backend_core.specs.Step.{op_step}
use Rattle.imap_types.specs.declared.op.Op.{Op}
use Rattle.mur_base.specs.declared.point.AskId.{AskId}

-- a search among messages without their bodies
search_summaries : (view : View) (it : Searching) → SummariesAlike view (Search it) (uids view.rows)
unfolding work_there viewed_done
search_summaries view it box = ((search_at view it box).turn, refl, refl)

-- a search by keys that rows tell
search_look : (view : View) (it : Searching) → are_keys_in_rows it.keys ≡ true → LooksAlike view (Search it)
unfolding work_there viewed_done
search_look view it are box = (rows_searched view it (rows_of box), searched, refl)
  where
    searched : search_at view it box ≡ record { left = kept; turn = rows_searched view it (rows_of box) }
    searched = rw (rows_search view it box are) refl

search_rows_views : (store : Store) (home : Backend) (name : List ℕ) (view : View) (it : Searching) (held : Held)
    → are_keys_in_rows it.keys ≡ true → IsAtHome store home name held
    → ViewsAlike store home name view (Search it) (Some held) (look_step home (Some view.serial) (Some held))
search_rows_views store home name view it held are at = looks_alike store home name view (Search it) held (search_look view it are) at

-- a SEARCH, by whether the rows of the mailbox tell what is found
pub searches : (store : Store) (home : Backend) (id : AskId) (user name : List ℕ) (view : View) (it : Searching) (op : Op) (rows : Bool) (held : Held)
    → are_keys_in_rows it.keys ≡ rows → IsAtHome store home name held
    → ServesAlike store home name (viewed_work view (Search it)) (viewed_on view (Search it) (open_content (held_at home name)))
    (op_step home (record { id = id; user = user; name = name; selected = Some view.serial; op = op }) (search_op view rows))
unfolding op_step search_op
searches store home id user name view it op true held are is =
    subst (λ f. ViewsAlike store home name view (Search it) f (look_step home (Some view.serial) f)) (sym is.at)
    (search_rows_views store home name view it held are is)
searches store home id user name view it op false held are is =
    subst (λ f. ViewsAlike store home name view (Search it) f (summaries_step home (Some view.serial) (uids view.rows) f)) (sym is.at)
    (summaries_alike store home name view (Search it) (uids view.rows) held (search_summaries view it) is)
