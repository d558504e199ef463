-- A command of a selected session at the home of its mailbox is one at the store: the mailbox is gone at both, or both do the same with it.
use Rattle.std.proofs.Common.{◌≡◌, ℕ, Bool, true, false, not, nat_eq, if◌then◌else◌, List, Option, None, Some, refl, sym, ap, ◌∙◌, subst, arith}
use Rattle.std.proofs.lemmas.Bool.Decides.{nat_tests}
use Rattle.backend_core.specs.declared.backend.Backend.{Backend}
use Rattle.node_record.specs.declared.held.Held.{Held}
use Rattle.backend_core.specs.declared.response.Response.{Response}
use Rattle.backend_core.specs.HomeStep.{HomeStep, BoxStep, with_content, answers}
use Rattle.backend_core.specs.Look.{look_step, look_at, look_unless}
use Rattle.backend_core.specs.Refusal.{refusal, refusal_in, is_other}
use Rattle.backend_core.specs.Response.{done, no_snapshot}
use Rattle.backend_core.specs.Served.{served, served_unless}
use Rattle.backend_core.specs.Summaries.{summaries_at, summaries_in, summaries_step, summaries_unless}
use Rattle.link_msg.specs.declared.counts.Counts.TheVariants.{IfAnswered}
use Rattle.link_msg.specs.declared.outcome.Outcome.{Outcome}
use Rattle.link_msg.specs.declared.outcome.Outcome.TheVariants.{None as nothing, Gone as gone_there}
use Rattle.mail_message.specs.Boxes.{Content, snapshot_of}
use Rattle.mur_base.specs.declared.home.Phase.TheVariants.{Open as open_here}
use Rattle.mur_model.specs.declared.work.ViewWork.{ViewWork}
use Rattle.mur_model.specs.Needed.{Viewed as viewed_work}
use Rattle.mur_model.specs.declared.session.Turn.{Turn}
use Rattle.mur_model.specs.declared.store.Store.{Store}
use Rattle.mur_model.specs.declared.view.View.{View}
use Rattle.mur_model.specs.Left.{Worked, store_after, kept}
use Rattle.mur_model.specs.Selected.{gone}
use Rattle.mur_model.specs.Viewing.{found_gone, viewed_on, work_there}
use Rattle.mur_model.specs.Asking.{asked_for}
use Rattle.mur_model.proofs.OwnView.{IsOfWork}
use Rattle.mur_model.specs.declared.need.Awaited.TheVariants.{Viewed}
use Rattle.mur_model.specs.declared.session.Sess.TheVariants.{Selected}
use Rattle.session_core.specs.Finish.{turn_of}
use Rattle.session_core.specs.Results.{result_of, turn_by, turn_behind}
use Rattle.session_core.specs.Viewed.{viewed_done, viewed_in, viewed_told, viewed_turn}
use Rattle.backend_core.specs.OpenBox.{open_content}
use Rattle.serve_law.proofs.HomeStore.{IsAtHome, IsStoreOf, opened}
use Rattle.serve_law.proofs.HomeStore.IsStoreOf.{is_there}
use Rattle.serve_law.proofs.ServedAlike.{ServesAlike}

-- ---- what is answered, and what is left

-- an answer that comes of work at the mailbox of a view
pub record AnswersAlike (store : Store) (home : Backend) (name : List ℕ) (view : View) (it : ViewWork) (worked : Worked) (behind : Backend) (response : Response)
    : Type 0 where
  pub shown : turn_behind (Selected view) (Viewed it) response.body ≡ Some worked.turn
  pub still : IsStoreOf (store_after store name worked.left) behind name
  pub unless : response.counts ≡ IfAnswered → worked.left ≡ kept

serves_as : (store : Store) (home : Backend) (name : List ℕ) (view : View) (it : ViewWork) (worked : Worked) (behind : Backend) (response : Response)
    → AnswersAlike store home name view it worked behind response
    → ServesAlike store home name (viewed_work view it) worked (answers behind response)
unfolding asked_for IsOfWork
serves_as store home name view it worked behind response same = record {
  body = response.body;
  is_body = refl;
  shown = λ session own. ap (λ s. turn_behind s (Viewed it) response.body) own ∙ same.shown;
  still = same.still;
  unless = same.unless;
}

tells_gone : (view : View) (it : ViewWork) → turn_behind (Selected view) (Viewed it) (done gone_there no_snapshot).body ≡ Some gone
unfolding turn_by result_of turn_of viewed_in viewed_turn viewed_told
tells_gone view it = refl

-- the home has another mailbox of the name
another : (store : Store) (home : Backend) (name : List ℕ) (view : View) (it : ViewWork) (held : Held) → IsAtHome store home name held
    → ServesAlike store home name (viewed_work view it) found_gone (answers home (done gone_there no_snapshot))
unfolding store_after
another store home name view it held is =
    serves_as store home name view it found_gone home (done gone_there no_snapshot)
    (record { shown = tells_gone view it; still = is_there held is; unless = λ _. refl })

-- ---- by the UIDVALIDITY

turned : (one other : ℕ) (is : Bool) → nat_eq one other ≡ is → nat_eq other one ≡ is
turned one other true e = grind (arith, nat_tests, e)
turned one other false e = grind (arith, nat_tests, e)

refused_by : (held : Held) (serial : ℕ) (is : Bool) → held.phase ≡ open_here → nat_eq serial held.content.serial ≡ is
    → refusal (Some serial) held ≡ refusal_in open_here (not is)
unfolding refusal is_other
refused_by held serial is e s = rw e (rw s refl)

worked_by : (view : View) (it : ViewWork) (box : Content) (is : Bool) → nat_eq box.serial view.serial ≡ is
    → viewed_on view it (Some box) ≡ (if is then work_there view it box else found_gone)
unfolding viewed_on
worked_by view it box is s = rw s refl

-- a step by what is answered instead, and work at the mailbox of the view
at_serial : (store : Store) (home : Backend) (name : List ℕ) (view : View) (it : ViewWork) (held : Held)
    (step : Option Response → HomeStep) (is : Bool)
    → ((response : Response) → step (Some response) ≡ answers home response)
    → ServesAlike store home name (viewed_work view it) (work_there view it held.content) (step None) → IsAtHome store home name held
    → ServesAlike store home name (viewed_work view it) (if is then work_there view it held.content else found_gone) (step (refusal_in open_here (not is)))
unfolding refusal_in
at_serial store home name view it held step true refuses does at = does
at_serial store home name view it held step false refuses does at =
    subst (λ s. ServesAlike store home name (viewed_work view it) found_gone s) (sym (refuses (done gone_there no_snapshot)))
    (another store home name view it held at)

-- the mailbox is open
at_open : (store : Store) (home : Backend) (name : List ℕ) (view : View) (it : ViewWork) (held : Held)
    (step : Option Response → HomeStep)
    → ((response : Response) → step (Some response) ≡ answers home response)
    → ServesAlike store home name (viewed_work view it) (work_there view it held.content) (step None) → IsAtHome store home name held
    → ServesAlike store home name (viewed_work view it) (viewed_on view it (open_content (Some held))) (step (refusal (Some view.serial) held))
at_open store home name view it held step refuses does at =
    let is : Bool = nat_eq held.content.serial view.serial in
    subst (λ b. ServesAlike store home name (viewed_work view it) (viewed_on view it b) (step (refusal (Some view.serial) held))) (sym (opened held held.content at.is_open))
    (subst (λ w. ServesAlike store home name (viewed_work view it) w (step (refusal (Some view.serial) held)))
    (sym (worked_by view it held.content is refl))
    (subst (λ r. ServesAlike store home name (viewed_work view it) (if is then work_there view it held.content else found_gone) (step r))
    (sym (refused_by held view.serial is at.is_open (turned held.content.serial view.serial is refl)))
    (at_serial store home name view it held step is refuses does at)))

-- ---- an operation on its messages

abbrev pub DoesAlike : Store → Backend → List ℕ → View → ViewWork → (Content → BoxStep) → Held → Type 0
DoesAlike store home name view it operation held =
    AnswersAlike store home name view it (work_there view it held.content) (with_content home name held (operation held.content).content)
    (operation held.content).response

pub operates : (store : Store) (home : Backend) (name : List ℕ) (view : View) (it : ViewWork) (operation : Content → BoxStep) (held : Held)
    → DoesAlike store home name view it operation held → IsAtHome store home name held
    → ServesAlike store home name (viewed_work view it) (viewed_on view it (open_content (Some held)))
    (served home name (Some view.serial) operation (Some held))
unfolding served served_unless
operates store home name view it operation held does at =
    at_open store home name view it held (λ r. served_unless home name held (operation held.content) r) (λ _. refl)
    (serves_as store home name view it (work_there view it held.content) (with_content home name held (operation held.content).content)
    (operation held.content).response does) at

-- ---- a look

-- what is told of a mailbox that stays as it is
tells_of : (store : Store) (home : Backend) (name : List ℕ) (view : View) (it : ViewWork) (held : Held) (outcome : Outcome) (turn : Turn)
    → work_there view it held.content ≡ record { left = kept; turn = turn }
    → viewed_told view it outcome (snapshot_of held.content) ≡ Some turn → IsAtHome store home name held
    → ServesAlike store home name (viewed_work view it) (work_there view it held.content) (answers home (done outcome (snapshot_of held.content)))
unfolding turn_by result_of turn_of viewed_in viewed_turn store_after
tells_of store home name view it held outcome turn is shown at =
    subst (λ w. ServesAlike store home name (viewed_work view it) w (answers home (done outcome (snapshot_of held.content)))) (sym is)
    (serves_as store home name view it (record { left = kept; turn = turn }) home (done outcome (snapshot_of held.content))
    (record { shown = shown; still = is_there held at; unless = λ _. refl }))

abbrev pub LooksAlike : View → ViewWork → Type 0
LooksAlike view it =
    (box : Content)
    → (turn : Turn) × (work_there view it box ≡ record { left = kept; turn = turn }) × (viewed_done view it nothing (snapshot_of box) ≡ Some turn)

pub looks_alike : (store : Store) (home : Backend) (name : List ℕ) (view : View) (it : ViewWork) (held : Held)
    → LooksAlike view it → IsAtHome store home name held
    → ServesAlike store home name (viewed_work view it) (viewed_on view it (open_content (Some held))) (look_step home (Some view.serial) (Some held))
unfolding look_step look_at look_unless viewed_told
looks_alike store home name view it held alike at =
    let shown = alike held.content in
    at_open store home name view it held (λ r. answers home (look_unless held.content r)) (λ _. refl)
    (tells_of store home name view it held nothing shown.0 shown.1 shown.2 at) at

-- ---- messages without their bodies

abbrev pub SummariesAlike : View → ViewWork → List ℕ → Type 0
SummariesAlike view it uids =
    (box : Content)
    → (turn : Turn) × (work_there view it box ≡ record { left = kept; turn = turn }) × (viewed_done view it (summaries_in box uids) (snapshot_of box) ≡ Some turn)

pub summaries_alike : (store : Store) (home : Backend) (name : List ℕ) (view : View) (it : ViewWork) (uids : List ℕ) (held : Held)
    → SummariesAlike view it uids → IsAtHome store home name held
    → ServesAlike store home name (viewed_work view it) (viewed_on view it (open_content (Some held)))
    (summaries_step home (Some view.serial) uids (Some held))
unfolding summaries_step summaries_at summaries_unless viewed_told
summaries_alike store home name view it uids held alike at =
    let shown = alike held.content in
    at_open store home name view it held (λ r. answers home (summaries_unless held.content uids r)) (λ _. refl)
    (tells_of store home name view it held (summaries_in held.content uids) shown.0 shown.1 shown.2 at) at

abbrev pub ViewsAlike : Store → Backend → List ℕ → View → ViewWork → Option Held → HomeStep → Type 0
ViewsAlike store home name view it found step = ServesAlike store home name (viewed_work view it) (viewed_on view it (open_content found)) step
