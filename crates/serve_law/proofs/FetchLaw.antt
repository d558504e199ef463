-- A FETCH at the home of its mailbox is one at the store, whether the rows of the mailbox tell all of it, or its messages without their bodies, or
-- neither.
use Rattle.std.proofs.Common.{◌≡◌, ℕ, Bool, true, false, ◌&&◌, List, map, Some, refl, sym, subst}
use Rattle.std.specs.List.{list_any}
use Rattle.backend_core.specs.declared.backend.Backend.{Backend}
use Rattle.node_record.specs.declared.held.Held.{Held}
use Rattle.backend_core.specs.HomeStep.{held_at, with_content}
use Rattle.backend_core.specs.Look.{look_step}
use Rattle.backend_core.specs.Read.{read_step, read_to, read_in}
use Rattle.backend_core.specs.Summaries.{summaries_step}
use Rattle.mail_message.specs.Boxes.{Content, messages_at, summary_of}
use Rattle.mur_model.specs.declared.commands.fetch.Fetching.{Fetching}
use Rattle.mur_model.specs.declared.work.ViewWork.TheVariants.{Fetch}
use Rattle.mur_model.specs.Needed.{Viewed as viewed_work}
use Rattle.mur_model.specs.declared.store.Store.{Store}
use Rattle.mur_model.specs.declared.view.View.{View}
use Rattle.mur_model.specs.Fetch.{fetch_at, is_body, sees}
use Rattle.mur_model.specs.FetchRows.{asks_rows, rows_told}
use Rattle.mur_model.specs.FetchSummaries.{asks_summaries, summaries_told}
use Rattle.mur_model.specs.declared.session.Turn.{Turn}
use Rattle.mur_model.specs.Left.{store_after, kept}
use Rattle.mur_model.specs.Selected.{rows_of}
use Rattle.mur_model.specs.Viewing.{viewed_on, work_there}
use Rattle.mur_model.proofs.FetchRowsLaw.{rows_tell, rows_unseen}
use Rattle.mur_model.proofs.FetchSummariesLaw.{summaries_tell, summaries_unseen}
use Rattle.mur_model.specs.Asking.{fetch_op}
use Rattle.session_core.specs.Finish.{turn_of}
use Rattle.session_core.specs.Results.{result_of, turn_by}
use Rattle.session_core.specs.Viewed.{viewed_done, viewed_in, viewed_told, viewed_turn}
use Rattle.backend_core.specs.OpenBox.{open_content}
use Rattle.serve_law.proofs.HomeStore.{IsAtHome, changed_alike, kept_alike}
use Rattle.serve_law.proofs.ServedAlike.{ServesAlike, apart}
use Rattle.serve_law.proofs.ViewedAlike.{AnswersAlike, operates, LooksAlike, looks_alike, SummariesAlike, summaries_alike, ViewsAlike}
use Rattle.backend_core.specs.Step.{op_step}
use Rattle.imap_types.specs.declared.op.Op.{Op}
use Rattle.mur_base.specs.declared.point.AskId.{AskId}

reads_by : (store : Store) (home : Backend) (name : List ℕ) (view : View) (it : Fetching) (held : Held) (is : Bool) → sees view it ≡ is
    → IsAtHome store home name held
    → AnswersAlike store home name view (Fetch it) (fetch_at view it held.content)
    (with_content home name held (read_to held.content it.uids is).content) (read_to held.content it.uids is).response
unfolding turn_by result_of turn_of viewed_in viewed_turn viewed_told viewed_done store_after read_in
reads_by store home name view it held true s at = rw s (record {
  shown = refl;
  still = changed_alike store home name held (read_in held.content it.uids true) at;
  unless = λ h. absurd (apart h);
})
reads_by store home name view it held false s at = rw s (record {
  shown = refl;
  still = kept_alike store home name held at;
  unless = λ _. refl;
})

-- a fetch of what the rows tell
rows_look : (view : View) (it : Fetching) → asks_rows it ≡ true → LooksAlike view (Fetch it)
unfolding work_there viewed_done
rows_look view it are box = (rows_told view it (rows_of box), fetched, refl)
  where
    unseen : (writable : Bool) → (writable && list_any is_body it.items) ≡ false
    unseen true = rows_unseen it.items are
    unseen false = refl

    fetched : fetch_at view it box ≡ record { left = kept; turn = rows_told view it (rows_of box) }
    fetched = rw (unseen view.is_writable, rows_tell view it box are) refl

-- a fetch of what summaries tell
abbrev told_of : View → Fetching → Content → Turn
told_of view it box = summaries_told view it (map summary_of (messages_at box.messages it.uids)) (rows_of box)

summaries_shown : (view : View) (it : Fetching) → asks_summaries it ≡ true → SummariesAlike view (Fetch it) it.uids
unfolding work_there viewed_done
summaries_shown view it are box = (told_of view it box, fetched, refl)
  where
    unseen : (writable : Bool) → (writable && list_any is_body it.items) ≡ false
    unseen true = summaries_unseen it.items are
    unseen false = refl

    fetched : fetch_at view it box ≡ record { left = kept; turn = told_of view it box }
    fetched = rw (unseen view.is_writable, summaries_tell view it box are) refl

read_views : (store : Store) (home : Backend) (name : List ℕ) (view : View) (it : Fetching) (held : Held)
    → IsAtHome store home name held
    → ViewsAlike store home name view (Fetch it) (Some held) (read_step home name (Some view.serial) it.uids (sees view it) (Some held))
unfolding read_step work_there
read_views store home name view it held at =
    operates store home name view (Fetch it) (λ content. read_to content it.uids (sees view it)) held
    (reads_by store home name view it held (sees view it) refl at) at

rows_views : (store : Store) (home : Backend) (name : List ℕ) (view : View) (it : Fetching) (held : Held) → asks_rows it ≡ true
    → IsAtHome store home name held → ViewsAlike store home name view (Fetch it) (Some held) (look_step home (Some view.serial) (Some held))
rows_views store home name view it held are at = looks_alike store home name view (Fetch it) held (rows_look view it are) at

-- a FETCH, by what tells all of it
pub fetches : (store : Store) (home : Backend) (id : AskId) (user name : List ℕ) (view : View) (it : Fetching) (op : Op) (rows summaries : Bool) (held : Held)
    → asks_rows it ≡ rows → asks_summaries it ≡ summaries → IsAtHome store home name held
    → ServesAlike store home name (viewed_work view (Fetch it)) (viewed_on view (Fetch it) (open_content (held_at home name)))
    (op_step home (record { id = id; user = user; name = name; selected = Some view.serial; op = op }) (fetch_op view it rows summaries))
unfolding op_step fetch_op
fetches store home id user name view it op true summaries held are tell is =
    subst (λ f. ViewsAlike store home name view (Fetch it) f (look_step home (Some view.serial) f)) (sym is.at)
    (rows_views store home name view it held are is)
fetches store home id user name view it op false true held are tell is =
    subst (λ f. ViewsAlike store home name view (Fetch it) f (summaries_step home (Some view.serial) it.uids f)) (sym is.at)
    (summaries_alike store home name view (Fetch it) it.uids held (summaries_shown view it tell) is)
fetches store home id user name view it op false false held are tell is =
    subst (λ f. ViewsAlike store home name view (Fetch it) f (read_step home name (Some view.serial) it.uids (sees view it) f)) (sym is.at)
    (read_views store home name view it held is)
