-- A name that the store hasn't is one that its home hasn't: the home's NotNow is told as the store replies, and both stay as they were. A line a
-- command.
use Rattle.std.proofs.Common.{◌≡◌, ◌≢◌, ℕ, Bool, true, false, List, [], ◌∷◌, None, Some, refl, sym, ◌∙◌, ap, subst}
use Rattle.backend_core.specs.declared.backend.Backend.{Backend}
use Rattle.backend_core.specs.Append.{append_step}
use Rattle.backend_core.specs.Expunge.{expunge_step}
use Rattle.backend_core.specs.Flags.{flags_step}
use Rattle.backend_core.specs.HomeStep.{answers, held_at}
use Rattle.backend_core.specs.Look.{look_step, look_at}
use Rattle.backend_core.specs.Read.{read_step}
use Rattle.backend_core.specs.Response.{not_now}
use Rattle.backend_core.specs.Served.{served}
use Rattle.backend_core.specs.Step.{home_step, op_step}
use Rattle.backend_core.specs.Summaries.{summaries_at, summaries_step}
use Rattle.link_msg.specs.declared.answer.AnswerBody.TheVariants.{NotNow}
use Rattle.link_msg.specs.declared.ask.FrontAsk.{FrontAsk}
use Rattle.mur_model.specs.Act.{work_on}
use Rattle.mur_model.specs.Append.{append_on}
use Rattle.mur_model.specs.Asking.{asked_for, fetch_op, search_op, view_op}
use Rattle.mur_model.specs.Delete.{delete_on}
use Rattle.mur_model.specs.Fetch.{sees}
use Rattle.mur_model.specs.FetchRows.{asks_rows}
use Rattle.mur_model.specs.FetchSummaries.{asks_summaries}
use Rattle.mur_model.specs.Left.{Worked, kept, store_after}
use Rattle.mur_model.specs.Needed.{Work, Make, Delete, Append as append_work, Status as status_work, Select as select_work, Viewed as viewed_work, IsOfHome}
use Rattle.mur_model.specs.SearchRows.{are_keys_in_rows}
use Rattle.mur_model.specs.Select.{select_on}
use Rattle.mur_model.specs.Status.{status_on}
use Rattle.mur_model.specs.Store.{box_at}
use Rattle.mur_model.specs.ClientView.{uids}
use Rattle.mur_model.specs.Viewing.{viewed_on}
use Rattle.mur_model.specs.declared.commands.fetch.Fetching.{Fetching}
use Rattle.mur_model.specs.declared.session.Sess.{Sess}
use Rattle.mur_model.specs.declared.store.Store.{Store}
use Rattle.mur_model.specs.declared.view.View.{View}
use Rattle.mur_model.specs.declared.work.ViewWork.{ViewWork}
use Rattle.mur_model.specs.declared.work.ViewWork.TheVariants.{News, Close, Expunge, Store as store_work, Fetch, Search}
use Rattle.mur_model.proofs.OwnView.{IsOfWork}
use Rattle.session_core.specs.Append.{reply_to_append}
use Rattle.session_core.specs.Delete.{reply_to_delete}
use Rattle.session_core.specs.declared.result.OpResult.TheVariants.{Missing}
use Rattle.session_core.specs.Finish.{turn_of}
use Rattle.session_core.specs.Results.{result_of, turn_by}
use Rattle.session_core.specs.Select.{select_turn}
use Rattle.session_core.specs.Status.{reply_to_status}
use Rattle.session_core.specs.Viewed.{viewed_in, viewed_turn}
use Rattle.serve_law.proofs.HomeStore.{IsStoreOf}
use Rattle.serve_law.proofs.HomeStore.IsStoreOf.{is_missing}
use Rattle.serve_law.proofs.ServedAlike.{ServesAlike}

-- what a home that hasn't the name answers to the operation of a command

fetch_lacks : (home : Backend) (ask : FrontAsk) (view : View) (it : Fetching) (rows summaries : Bool) → held_at home ask.name ≡ None
    → op_step home ask (fetch_op view it rows summaries) ≡ answers home not_now
unfolding op_step fetch_op look_step look_at summaries_step summaries_at read_step served
fetch_lacks home ask view it true summaries none = ap (look_step home ask.selected) none
fetch_lacks home ask view it false true none = ap (summaries_step home ask.selected it.uids) none
fetch_lacks home ask view it false false none = ap (read_step home ask.name ask.selected it.uids (sees view it)) none

search_lacks : (home : Backend) (ask : FrontAsk) (view : View) (rows : Bool) → held_at home ask.name ≡ None
    → op_step home ask (search_op view rows) ≡ answers home not_now
unfolding op_step search_op look_step look_at summaries_step summaries_at
search_lacks home ask view true none = ap (look_step home ask.selected) none
search_lacks home ask view false none = ap (summaries_step home ask.selected (uids view.rows)) none

view_lacks : (home : Backend) (ask : FrontAsk) (view : View) (it : ViewWork) → held_at home ask.name ≡ None
    → op_step home ask (view_op view it) ≡ answers home not_now
unfolding op_step view_op look_step look_at expunge_step flags_step served
view_lacks home ask view (News why) none = ap (look_step home ask.selected) none
view_lacks home ask view Close none = ap (expunge_step home ask.name ask.selected None) none
view_lacks home ask view (Expunge only) none = ap (expunge_step home ask.name ask.selected only) none
view_lacks home ask view (store_work it) none = ap (flags_step home ask.name ask.selected it.uids it.mode it.flags) none
view_lacks home ask view (Fetch it) none = fetch_lacks home ask view it (asks_rows it) (asks_summaries it) none
view_lacks home ask view (Search it) none = search_lacks home ask view (are_keys_in_rows it.keys) none

work_lacks : (home : Backend) (ask : FrontAsk) (name : List ℕ) (work : Work) → IsOfHome work → held_at home ask.name ≡ None
    → op_step home ask (asked_for name work).op ≡ answers home not_now
unfolding op_step asked_for append_step look_step look_at served IsOfHome
work_lacks home ask name Make of none = absurd of
work_lacks home ask name Delete of none = absurd of
work_lacks home ask name (append_work message) of none = ap (append_step home ask.name ask.selected (message ∷ [])) none
work_lacks home ask name (status_work shown items) of none = ap (look_step home ask.selected) none
work_lacks home ask name (select_work it) of none = ap (look_step home ask.selected) none
work_lacks home ask name (viewed_work view it) of none = view_lacks home ask view it none

-- what the store does with a name that it hasn't
pub record IsMissed (name : List ℕ) (work : Work) (worked : Worked) : Type 0 where
  pub stays : worked.left ≡ kept
  pub shown : (session : Sess) → IsOfWork session work → turn_of session (asked_for name work).awaited Missing ≡ Some worked.turn

pub misses : (name : List ℕ) (work : Work) (serial : ℕ) (full : Bool) → work ≢ Make
    → IsMissed name work (work_on name work serial full None)
unfolding work_on asked_for turn_of delete_on reply_to_delete append_on reply_to_append status_on reply_to_status select_on select_turn viewed_on viewed_in viewed_turn IsOfWork
misses name Make serial full ne = absurd (ne refl)
misses name Delete serial full ne = record { stays = refl; shown = λ session own. refl }
misses name (append_work message) serial full ne = record { stays = refl; shown = λ session own. refl }
misses name (status_work shown items) serial full ne = record { stays = refl; shown = λ session own. refl }
misses name (select_work it) serial full ne = record { stays = refl; shown = λ session own. refl }
misses name (viewed_work view it) serial full ne = record { stays = refl; shown = λ session own. ap (λ s. viewed_in s it Missing) own }

-- a home makes no mailbox by itself
pub no_make : (work : Work) → IsOfHome work → work ≢ Make
unfolding IsOfHome
no_make work of same = subst IsOfHome same of

pub misses_alike : (store : Store) (home : Backend) (ask : FrontAsk) (work : Work) (serial : ℕ) (full : Bool) → IsOfHome work
    → ask.op ≡ (asked_for ask.name work).op → box_at store ask.name ≡ None → held_at home ask.name ≡ None
    → ServesAlike store home ask.name work (work_on ask.name work serial full None) (home_step home ask)
unfolding home_step store_after turn_by result_of
misses_alike store home ask work serial full of op box none =
    let name : List ℕ = ask.name in
    let is = misses name work serial full (no_make work of) in
    subst (λ s. ServesAlike store home name work (work_on name work serial full None) s)
    (sym (ap (op_step home ask) op ∙ work_lacks home ask name work of none))
    (record {
      body = NotNow;
      is_body = refl;
      shown = is.shown;
      still = subst (λ l. IsStoreOf (store_after store name l) home name) (sym is.stays) (is_missing box none);
      unless = λ _. is.stays;
    })
