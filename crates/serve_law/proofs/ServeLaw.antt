-- What the home does with work at a mailbox is what the one store does with it. Each command has its law in a file of its own.
use Rattle.std.proofs.Common.{◌≡◌, ℕ, List, None, Some, refl, sym, ◌∙◌, ap, subst}
use Rattle.backend_core.specs.declared.backend.Backend.{Backend}
use Rattle.backend_core.specs.Expunge.{expunge_step}
use Rattle.backend_core.specs.Flags.{flags_step}
use Rattle.backend_core.specs.HomeStep.{held_at}
use Rattle.backend_core.specs.Look.{look_step}
use Rattle.node_record.specs.declared.held.Held.{Held}
use Rattle.backend_core.specs.Step.{home_step, op_step}
use Rattle.link_msg.specs.declared.ask.FrontAsk.{FrontAsk}
use Rattle.mur_base.specs.declared.point.AskId.{AskId}
use Rattle.mur_model.specs.declared.work.ViewWork.{ViewWork}
use Rattle.mur_model.specs.declared.work.ViewWork.TheVariants.{News, Close, Expunge, Store as store_work, Fetch, Search}
use Rattle.mur_model.specs.Needed.{Work, Make, Delete, Append as append_work, Status as status_work, Select as select_work, Viewed as viewed_work, IsOfHome}
use Rattle.mur_model.specs.declared.store.Store.{Store}
use Rattle.mur_model.specs.declared.view.View.{View}
use Rattle.mur_model.specs.Act.{worked_at, work_on}
use Rattle.mur_model.specs.FetchRows.{asks_rows}
use Rattle.mur_model.specs.FetchSummaries.{asks_summaries}
use Rattle.mur_model.specs.SearchRows.{are_keys_in_rows}
use Rattle.mur_model.specs.Store.{box_at, is_full}
use Rattle.mur_model.specs.Asking.{asked_for}
use Rattle.mur_model.specs.Asking.{fetch_op, search_op, view_op}
use Rattle.backend_core.specs.OpenBox.{open_content}
use Rattle.serve_law.proofs.HomeStore.{IsAtHome, IsStoreOf, opened}
use Rattle.serve_law.proofs.HomeStore.IsStoreOf.{is_missing, is_there}
use Rattle.serve_law.proofs.ServedAlike.{ServesAlike}
use Rattle.serve_law.proofs.AppendLaw.{AppendsAlike, appends_alike}
use Rattle.serve_law.proofs.SelectLaw.{SelectsAlike, selects_alike}
use Rattle.serve_law.proofs.StatusLaw.{LooksAlike, looks_alike}
use Rattle.serve_law.proofs.MissingAlike.{misses_alike}
use Rattle.serve_law.proofs.ViewedAlike.{ViewsAlike}
use Rattle.serve_law.proofs.NewsLaw.{news_views}
use Rattle.serve_law.proofs.CloseLaw.{close_views}
use Rattle.serve_law.proofs.ExpungeLaw.{expunge_views}
use Rattle.serve_law.proofs.StoreLaw.{store_views}
use Rattle.serve_law.proofs.FetchLaw.{fetches}
use Rattle.serve_law.proofs.SearchLaw.{searches}

-- what a session asks for work at a mailbox
abbrev pub plain_ask : AskId → List ℕ → List ℕ → Work → FrontAsk
plain_ask id user name work =
    record { id = id; user = user; name = name; selected = (asked_for name work).selected; op = (asked_for name work).op }

-- work at what the home has of the name
abbrev OpensAlike : Store → Backend → AskId → List ℕ → List ℕ → Work → ℕ → Type 0
OpensAlike store home id user name work serial =
    ServesAlike store home name work (work_on name work serial (is_full store) (open_content (held_at home name)))
    (home_step home (plain_ask id user name work))

views : (store : Store) (home : Backend) (id : AskId) (user name : List ℕ) (view : View) (it : ViewWork) (serial : ℕ) (held : Held)
    → IsAtHome store home name held → OpensAlike store home id user name (viewed_work view it) serial
unfolding home_step op_step asked_for view_op work_on
views store home id user name view (News why) serial held is =
    subst (λ f. ViewsAlike store home name view (News why) f (look_step home (Some view.serial) f)) (sym is.at) (news_views store home name view why held is)
views store home id user name view Close serial held is =
    subst (λ f. ViewsAlike store home name view Close f (expunge_step home name (Some view.serial) None f)) (sym is.at)
    (close_views store home name view held is)
views store home id user name view (Expunge only) serial held is =
    subst (λ f. ViewsAlike store home name view (Expunge only) f (expunge_step home name (Some view.serial) only f)) (sym is.at)
    (expunge_views store home name view only held is)
views store home id user name view (store_work it) serial held is =
    subst (λ f. ViewsAlike store home name view (store_work it) f (flags_step home name (Some view.serial) it.uids it.mode it.flags f)) (sym is.at)
    (store_views store home name view it held is)
views store home id user name view (Fetch it) serial held is =
    fetches store home id user name view it (fetch_op view it (asks_rows it) (asks_summaries it)) (asks_rows it) (asks_summaries it) held refl refl is
views store home id user name view (Search it) serial held is =
    searches store home id user name view it (search_op view (are_keys_in_rows it.keys)) (are_keys_in_rows it.keys) held refl is

-- a mailbox that is there
there_alike : (store : Store) (home : Backend) (id : AskId) (user name : List ℕ) (work : Work) (serial : ℕ) (held : Held) → IsOfHome work
    → IsAtHome store home name held → OpensAlike store home id user name work serial
unfolding home_step op_step asked_for work_on IsOfHome
there_alike store home id user name Make serial held of is = absurd of
there_alike store home id user name Delete serial held of is = absurd of
there_alike store home id user name (append_work message) serial held of is =
    subst (λ f. AppendsAlike store home name message f) (sym is.at) (appends_alike store home name message held is)
there_alike store home id user name (status_work shown items) serial held of is =
    subst (λ f. LooksAlike store home name shown items f) (sym is.at) (looks_alike store home name shown items held is)
there_alike store home id user name (select_work it) serial held of is =
    subst (λ f. SelectsAlike store home name it f) (sym is.at) (selects_alike store home name it held is)
there_alike store home id user name (viewed_work view it) serial held of is = views store home id user name view it serial held is

abbrev MissedAlike : Store → Backend → AskId → List ℕ → List ℕ → Work → ℕ → Type 0
MissedAlike store home id user name work serial =
    ServesAlike store home name work (work_on name work serial (is_full store) None) (home_step home (plain_ask id user name work))

-- one that is missing
missing_alike : (store : Store) (home : Backend) (id : AskId) (user name : List ℕ) (work : Work) (serial : ℕ) → IsOfHome work → box_at store name ≡ None
    → held_at home name ≡ None → MissedAlike store home id user name work serial
unfolding home_step op_step asked_for work_on IsOfHome
missing_alike store home id user name Make serial of box none = absurd of
missing_alike store home id user name Delete serial of box none = absurd of
missing_alike store home id user name (append_work message) serial of box none =
    misses_alike store home (plain_ask id user name (append_work message)) (append_work message) serial (is_full store) of refl box none
missing_alike store home id user name (status_work shown items) serial of box none =
    misses_alike store home (plain_ask id user name (status_work shown items)) (status_work shown items) serial (is_full store) of refl box none
missing_alike store home id user name (select_work it) serial of box none =
    misses_alike store home (plain_ask id user name (select_work it)) (select_work it) serial (is_full store) of refl box none
missing_alike store home id user name (viewed_work view it) serial of box none =
    misses_alike store home (plain_ask id user name (viewed_work view it)) (viewed_work view it) serial (is_full store) of refl box none

-- any command but a CREATE and a DELETE, whose mailbox the home makes and deletes when the name master lets it
pub serves_others : (store : Store) (home : Backend) (id : AskId) (user name : List ℕ) (work : Work) (serial : ℕ) → IsStoreOf store home name → IsOfHome work
    → ServesAlike store home name work (worked_at store name work serial) (home_step home (plain_ask id user name work))
serves_others store home id user name work serial (is_missing box none) of =
    subst (λ b. ServesAlike store home name work (work_on name work serial (is_full store) b)
    (home_step home (plain_ask id user name work))) (sym box)
    (missing_alike store home id user name work serial of box none)
serves_others store home id user name work serial (is_there held is) of =
    subst (λ b. ServesAlike store home name work (work_on name work serial (is_full store) b)
    (home_step home (plain_ask id user name work))) (ap open_content is.at ∙ opened held held.content is.is_open ∙ sym is.box)
    (there_alike store home id user name work serial held of is)
