-- A backend takes the ask of a command at a mailbox: where it has the name open it does what the one store does, and else the command is sent on.
use Rattle.std.proofs.Common.{◌≡◌, ℕ, ◌&&◌, Bool, true, false, List, Option, None}
use Rattle.std.proofs.Common.{Some, refl, sym, ◌∙◌, ap, subst}
use Rattle.asking_core.specs.Answered.{answered}
use Rattle.back_links.specs.BackEvents.{IsFitting, fits_by}
use Rattle.back_node.specs.declared.node.BackNode.{BackNode}
use Rattle.back_node.specs.NodeLaws.{IsCarriedOut, IsDone, elsewhere, elsewhere_by, is_of_messages}
use Rattle.back_node.specs.Takes.{node_takes}
use Rattle.back_node.proofs.OpenHere.{elsewhere_is_told, no_kind}
use Rattle.backend_core.specs.declared.backend.Backend.{Backend}
use Rattle.backend_core.specs.HomeLaws.{is_open_here}
use Rattle.backend_core.specs.HomeStep.{HomeStep, held_at}
use Rattle.backend_core.specs.Plan.{answer_outs}
use Rattle.backend_core.specs.Step.{home_step}
use Rattle.link_msg.specs.declared.answer.AnswerBody.{AnswerBody}
use Rattle.link_msg.specs.declared.answer.AnswerBody.TheVariants as answer
use Rattle.link_msg.specs.declared.ask.FrontAsk.{FrontAsk}
use Rattle.link_msg.specs.declared.message.LinkMsg.TheVariants.{Ask}
use Rattle.mur_model.specs.declared.need.Asking.{Asking}
use Rattle.mur_model.specs.declared.session.Turn.{Turn}
use Rattle.mur_model.specs.declared.store.Store.{Store}
use Rattle.mur_model.specs.Act.{worked_at}
use Rattle.mur_model.specs.Asking.{asked_for}
use Rattle.mur_model.specs.Left.{Left, Worked, store_after}
use Rattle.mur_model.specs.Needed.{Mailbox}
use Rattle.mur_model.specs.Store.{box_at, is_full}
use Rattle.mur_model.proofs.OwnView.{IsOfNeeded, work_own}
use Rattle.name_flows.specs.declared.ask.AskKind.{AskKind}
use Rattle.name_flows.specs.Phases.{pointer_in}
use Rattle.name_links.specs.Serials.{Given}
use Rattle.session_core.specs.Begin.{user_of}
use Rattle.session_core.specs.Results.{result_of, turn_behind, turn_by}
use Rattle.serve_law.specs.AsTheStore.{HaveAlike}
use Rattle.serve_law.specs.AsTheStore.HaveAlike.{neither, both}
use Rattle.serve_law.proofs.MissingAlike.{no_make}
use Rattle.serve_law.proofs.HomeStore.{IsStoreOf, other_boxes}
use Rattle.serve_law.proofs.HomeStore.IsStoreOf.{is_missing, is_there}
use Rattle.serve_law.proofs.ServedAlike.{ServesAlike}
use Rattle.serve_law.proofs.ServeLaw.{plain_ask, serves_others}
use Rattle.many_links.specs.Murder.{Murder}
use Rattle.many_links.specs.HomeEvents.{IsStoreWith, is_served}
use Rattle.many_links.proofs.HomeLaw.{alike_has_it, asks_keep_many, serves_keeps_many}
use Rattle.many_links.proofs.OpenLaw.{open_is_the_stores}
use Rattle.point_links.specs.AtHome.{AskComes, ClosedSendsOn, IsElsewhere, IsSentOn, IsServed, OpenServes, its_ask, not_now, moved}
use Rattle.point_links.specs.Carried.{turn_at}
use Rattle.point_links.specs.Commands.{ClientCommand, WaitsOn, told_turn}
use Rattle.point_links.proofs.Told.{done_so, moved_waits, not_now_waits}
use Rattle.point_links.proofs.Works.{StaysThere, given_stays, may_work, of_messages, order_stays, same_work, work_makes_none}

-- ---- what the store has

store_of_home : (store : Store) (home : Backend) (name : List ℕ) → HaveAlike store home name → IsStoreOf store home name
store_of_home store home name (neither box held) = is_missing box held
store_of_home store home name (both held at is_open box) = is_there held (record { at = at; is_open = is_open; box = box })

alike_after : (store : Store) (home : Backend) (name : List ℕ) → IsStoreOf store home name → HaveAlike store home name
alike_after store home name (is_missing box held) = neither box held
alike_after store home name (is_there held is) = both held is.at is.is_open is.box

-- ---- what is answered where it is done

body_done : (c : ClientCommand) (master : List ℕ) (body : AnswerBody) (turn : Turn) → IsDone (Some body)
    → turn_behind c.was (asked_for c.name c.work).awaited body ≡ Some turn → answered master c.id c.was c.waiting body ≡ told_turn c turn
unfolding result_of turn_by
body_done c master (answer.Done outcome seen) turn done e = done_so c master outcome seen turn e
body_done c master answer.NotNow turn done e = absurd done
body_done c master (answer.Moved server) turn done e = absurd done
body_done c master (answer.Unreached node) turn done e = absurd done
body_done c master answer.Lost turn done e = absurd done

both_true : (one two : Bool) → one ≡ true → two ≡ true → (one && two) ≡ true
both_true one two first second = rw (first, second) refl

second_false : (one two : Bool) → two ≡ false → (one && two) ≡ false
second_false true two e = e
second_false false two e = refl

module _ (murder : Murder) (given : Given) (store : Store) (c : ClientCommand) (name : List ℕ) (node : BackNode) (from : List ℕ)
    (comes : AskComes murder given store c name node from) where
  abbrev ask : FrontAsk
  ask = its_ask c

  abbrev plain : FrontAsk
  plain = plain_ask c.id (user_of c.was) c.name c.work

  ask_is : ask ≡ plain
  ask_is =
      ap (λ (n : List ℕ). record { id = c.id; user = user_of c.was; name = n; selected = c.waiting.asking.selected; op = c.waiting.asking.op }) c.name_is
      ∙ ap (λ (a : Asking). record { id = c.id; user = user_of c.was; name = c.name; selected = a.selected; op = a.op }) c.asking_is

  its_name : ask.name ≡ c.name
  its_name = c.name_is

  is_message : is_of_messages ask.op ≡ true
  is_message = subst (λ (a : FrontAsk). is_of_messages a.op ≡ true) (sym ask_is) (of_messages c.name c.work comes.of_home)

  -- ---- open

  module _ (is_here : is_open_here (held_at node.home c.name) ≡ true) where
    abbrev home : Backend
    home = node.home

    abbrev step : HomeStep
    step = home_step home plain

    abbrev worked : ℕ → Worked
    worked serial = worked_at store c.name c.work serial

    open_at : IsCarriedOut node from ask
    open_at = (open_is_the_stores murder given store name node c.name comes.holds comes.there is_here).served from ask its_name is_message

    done_at : IsCarriedOut node from plain
    done_at = subst (λ (a : FrontAsk). IsCarriedOut node from a) ask_is open_at

    serves : ServesAlike store home c.name c.work (worked 0) step
    serves =
        serves_others store home c.id (user_of c.was) c.name c.work 0
        (store_of_home store home c.name (open_is_the_stores murder given store name node c.name comes.holds comes.there is_here).alike)
        comes.of_home

    -- of a UIDVALIDITY the work reads nothing
    same : (serial : ℕ) → worked 0 ≡ worked serial
    same serial = same_work c.name c.work 0 serial (is_full store) (is_full store) (box_at store c.name) (no_make c.work comes.of_home)

    abbrev left : Left
    left = (worked 0).left

    none_made : StaysThere left
    none_made = work_makes_none c.name c.work 0 (is_full store) (box_at store c.name) comes.of_home

    abbrev later : Store
    later = store_after store c.name left

    still : HaveAlike later step.home c.name
    still = alike_after later step.home c.name serves.still

    -- what the backend has after the step
    store_with_it : IsStoreWith store later (node_takes node from (Ask ask)).state.home ask.name
    store_with_it =
        subst (λ (a : FrontAsk). IsStoreWith store later (node_takes node from (Ask a)).state.home a.name) (sym ask_is)
        (subst (λ (h : Backend). IsStoreWith store later h c.name) (sym done_at.home) (record {
          own = alike_has_it later step.home c.name still;
          others = λ m ne. other_boxes store c.name left m ne;
          gave = given_stays store c.name left none_made;
          order = order_stays store c.name left none_made comes.holds.shows.boxes_in_order;
        }))

    serving : is_served node (Ask ask) ≡ true
    serving = both_true (is_of_messages ask.op) (is_open_here (held_at node.home ask.name)) is_message
        (subst (λ (n : List ℕ). is_open_here (held_at node.home n) ≡ true) (sym its_name) is_here)

    served : IsServed murder given store c name node from
    unfolding answer_outs IsOfNeeded
    served = record {
      body = serves.body;
      counts = step.counts;
      later = later;
      step = subst (λ (a : FrontAsk). (node_takes node from (Ask a)).outs ≡ answer_outs from c.id step.counts (Some serves.body)) (sym ask_is)
          (done_at.outs ∙ ap (λ (b : Option AnswerBody). answer_outs from c.id step.counts b) serves.is_body);
      then_holds = serves_keeps_many murder given store later name node from ask comes.holds comes.there comes.other serving store_with_it;
      carries = λ serial. record {
        free = may_work store c.name serial c.work (no_make c.work comes.of_home);
        later_is = ap (λ (w : Worked). store_after store c.name w.left) (same serial);
        stays = λ h. ap (λ (w : Worked). w.left) (sym (same serial)) ∙ serves.unless h;
      };
      told = λ master serial. body_done c master serves.body (turn_at store c.name c.work serial)
          (subst IsDone serves.is_body done_at.done)
          (serves.shown c.was (work_own c.setting c.was c.it (Mailbox c.name c.work) c.need) ∙ ap (λ (w : Worked). Some w.turn) (same serial));
    }

  -- ---- not open

  module _ (is_away : is_open_here (held_at node.home c.name) ≡ false) where
    away : is_open_here (held_at node.home ask.name) ≡ false
    away = subst (λ (n : List ℕ). is_open_here (held_at node.home n) ≡ false) (sym its_name) is_away

    not_served : is_served node (Ask ask) ≡ false
    not_served = second_false (is_of_messages ask.op) (is_open_here (held_at node.home ask.name)) away

    fits : IsFitting (Ask ask)
    fits = subst (λ (kind : Option AskKind). fits_by kind ask) (sym (no_kind ask.op is_message)) tt

    record Goes (body : AnswerBody) : Type 0 where
      which : IsElsewhere body
      waits : (master : List ℕ) → WaitsOn master c (answered master c.id c.was c.waiting body)

    goes_by : (server : Option (List ℕ)) → Goes (elsewhere_by server)
    goes_by None = record { which = not_now; waits = λ master. not_now_waits c master }
    goes_by (Some server) = record { which = moved server; waits = λ master. moved_waits c master server }

    sent_on : IsSentOn murder given store c name node from
    sent_on =
        let goes : Goes (elsewhere (held_at node.home ask.name)) = goes_by (pointer_in (held_at node.home ask.name)) in
        record {
          body = elsewhere (held_at node.home ask.name);
          which = goes.which;
          step = elsewhere_is_told node from ask is_message away;
          then_holds = asks_keep_many murder given store name node from (Ask ask) comes.holds comes.there comes.other fits not_served;
          waits = goes.waits;
        }

pub open_serves : OpenServes
open_serves murder given store c name node from comes is_here = served murder given store c name node from comes is_here

pub closed_sends_on : ClosedSendsOn
closed_sends_on murder given store c name node from comes is_away = sent_on murder given store c name node from comes is_away
