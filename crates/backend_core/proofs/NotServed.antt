-- An ask changes nothing where its mailbox isn't Open at this home, or has another UIDVALIDITY than the ask names.
use Rattle.std.proofs.Common.{◌≡◌, ◌≢◌, ℕ, true, false, nat_eq, List, Option, None, Some, refl, ◌∙◌, ap, arith}
use Rattle.std.proofs.lemmas.Bool.Decides.{nat_tests}
use Rattle.mur_base.specs.declared.home.Phase.{Phase}
use Rattle.mur_base.specs.declared.home.Phase.TheVariants.{Open, Pointer}
use Rattle.mail_message.specs.Boxes.{Content}
use Rattle.link_msg.specs.declared.ask.FrontAsk.{FrontAsk}
use Rattle.imap_types.specs.declared.op.Op.{Op}
use Rattle.backend_core.specs.declared.backend.Backend.{Backend}
use Rattle.node_record.specs.declared.held.Held.{Held}
use Rattle.backend_core.specs.declared.response.Response.{Response}
use Rattle.backend_core.specs.HomeStep.{HomeStep, BoxStep, held_at}
use Rattle.backend_core.specs.HomeLaws.{is_open, is_open_here}
use Rattle.backend_core.specs.Refusal.{refusal, refusal_in, is_other}
use Rattle.backend_core.specs.Served.{served, served_unless}
use Rattle.backend_core.specs.Step.{home_step}
use Rattle.backend_core.proofs.Leaves.{served_open}
use Rattle.backend_core.proofs.Serves.{Serves, works, tells, serves}

unless_stays : (home : Backend) (name : List ℕ) (held : Held) (step : BoxStep) (response : Option Response)
    → (response ≡ None → is_open held.phase ≡ true) → is_open held.phase ≡ false → (served_unless home name held step response).home ≡ home
unfolding served_unless
unless_stays home name held step (Some response) served closed = refl
unless_stays home name held step None served closed = let yes : is_open held.phase ≡ true = served refl in cc

served_stays : (home : Backend) (name : List ℕ) (selected : Option ℕ) (operation : Content → BoxStep) (found : Option Held) → is_open_here found ≡ false
    → (served home name selected operation found).home ≡ home
unfolding served refusal is_open_here
served_stays home name selected operation None closed = refl
served_stays home name selected operation (Some held) closed =
    unless_stays home name held (operation held.content) (refusal selected held) (served_open held.phase (is_other selected held.content)) closed

elsewhere_by : (home : Backend) (ask : FrontAsk) (op : Op) (step : HomeStep) → is_open_here (held_at home ask.name) ≡ false
    → Serves home ask op step → step.home ≡ home
elsewhere_by home ask op step closed (works operation follows below is) =
    ap (λ (s : HomeStep). s.home) is ∙ served_stays home ask.name ask.selected operation (held_at home ask.name) closed
elsewhere_by home ask op step closed (tells is) = is

pub ask_elsewhere : (home : Backend) (ask : FrontAsk) → is_open_here (held_at home ask.name) ≡ false → (home_step home ask).home ≡ home
ask_elsewhere home ask closed = elsewhere_by home ask ask.op (home_step home ask) closed (serves home ask)

other_refused : (home : Backend) (name : List ℕ) (held : Held) (step : BoxStep) (phase : Phase)
    → (served_unless home name held step (refusal_in phase true)).home ≡ home
unfolding served_unless refusal_in
other_refused home name held step Open = refl
other_refused home name held step (Pointer server) = refl
other_refused home name held step phase = refl

other_stays : (home : Backend) (name : List ℕ) (selected : Option ℕ) (operation : Content → BoxStep) (held : Held) → is_other selected held.content ≡ true
    → (served home name selected operation (Some held)).home ≡ home
unfolding served refusal
other_stays home name selected operation held other =
    ap (λ b. (served_unless home name held (operation held.content) (refusal_in held.phase b)).home) other
    ∙ other_refused home name held (operation held.content) held.phase

another_by : (home : Backend) (ask : FrontAsk) (op : Op) (step : HomeStep) (held : Held) → held_at home ask.name ≡ Some held
    → is_other ask.selected held.content ≡ true → Serves home ask op step → step.home ≡ home
another_by home ask op step held found other (works operation follows below is) =
    ap (λ (s : HomeStep). s.home) is ∙ ap (λ f. (served home ask.name ask.selected operation f).home) found
    ∙ other_stays home ask.name ask.selected operation held other
another_by home ask op step held found other (tells is) = is

other_is : (selected : Option ℕ) (serial : ℕ) (content : Content) → selected ≡ Some serial → serial ≢ content.serial → is_other selected content ≡ true
unfolding is_other
other_is selected serial content is ne =
    let apart : nat_eq serial content.serial ≡ false = grind (arith, nat_tests, ne) in rw (is, apart) refl

pub ask_of_another : (home : Backend) (ask : FrontAsk) (held : Held) (serial : ℕ) → held_at home ask.name ≡ Some held → ask.selected ≡ Some serial
    → serial ≢ held.content.serial → (home_step home ask).home ≡ home
ask_of_another home ask held serial found is ne =
    another_by home ask ask.op (home_step home ask) held found (other_is ask.selected serial held.content is ne) (serves home ask)
