-- What an ask that is tested comes to.
use Rattle.std.proofs.Common.{ℕ, Bool, true, false, ◌||◌, not, List, [], ◌∷◌, Option, None, Some, refl}
use Rattle.link_msg.specs.declared.answer.AnswerBody.{AnswerBody}
use Rattle.link_msg.specs.declared.answer.AnswerBody.TheVariants.{NotNow, Unreached}
use Rattle.node_record.specs.Held.{Names, held_at}
use Rattle.name_flows.specs.declared.ask.AskKind.{AskKind}
use Rattle.name_flows.specs.declared.ask.AskKind.TheVariants.{Create, Delete}
use Rattle.name_flows.specs.declared.ask.NameAsk.{NameAsk}
use Rattle.name_flows.specs.declared.flows.Flows.{Flows}
use Rattle.name_flows.specs.declared.resync.Resync.{Resync}
use Rattle.name_flows.specs.Asked.{create_refusal, delete_refusal, delete_refusal_in, first_of, refusal}
use Rattle.name_flows.specs.Phases.{is_closing, is_open, pointer_in}
use Rattle.name_flows.specs.Running.{has_flow}
use Rattle.name_commands.specs.Moves.{asked_move_by, tested_move}
use Rattle.name_commands.specs.PutOff.{AskedMoves, IsAskedSo, is_kept_so, is_tested_now, IsPutOff, IsTestedSo, moved, not_now, put_off, sends_line, TestedMoves, unreached}

abbrev IfPutOff : List ℕ → AskKind → Option AnswerBody → Type 0
IfPutOff master kind None = Unit {0}
IfPutOff master kind (Some body) = IsPutOff master kind body

create_by : (master : List ℕ) (runs down closed : Bool) → IfPutOff master Create (first_of ((runs, NotNow) ∷ (down, Unreached master) ∷ (closed, NotNow) ∷ []))
create_by master true down closed = not_now refl
create_by master false true closed = unreached refl
create_by master false false true = not_now refl
create_by master false false false = tt

delete_by : (master : List ℕ) (runs down : Bool) → IfPutOff master Delete (first_of ((runs, NotNow) ∷ (down, Unreached master) ∷ []))
delete_by master true down = not_now refl
delete_by master false true = unreached refl
delete_by master false false = tt

delete_in : (flows : Flows) (held : Names) (name : List ℕ) (pointer : Option (List ℕ))
    → IfPutOff flows.master Delete (delete_refusal_in flows held name pointer)
unfolding delete_refusal_in
delete_in flows held name (Some server) = moved server refl refl
delete_in flows held name None = delete_by flows.master (not (is_open (held_at held name)) || has_flow flows name) (not flows.up)

refused_so : (flows : Flows) (held : Names) (name : List ℕ) (kind : AskKind) → IfPutOff flows.master kind (refusal flows held name kind)
unfolding create_refusal delete_refusal
refused_so flows held name Create = create_by flows.master (has_flow flows name) (not flows.up) (is_closing (held_at held name))
refused_so flows held name Delete = delete_in flows held name (pointer_in (held_at held name))

tested_by : (master : List ℕ) (ask : NameAsk) (body : Option AnswerBody) → IfPutOff master ask.kind body → IsTestedSo master ask (tested_move ask body)
tested_by master ask (Some body) put = put_off body refl put
tested_by master ask None put = sends_line refl

pub tested_moves : TestedMoves
tested_moves flows held ask = tested_by flows.master ask (refusal flows held ask.name ask.kind) (refused_so flows held ask.name ask.kind)

asked_by : (flows : Flows) (held : Names) (ask : NameAsk) (resync : Option Resync) → IsAskedSo flows.master ask (asked_move_by flows held ask resync)
asked_by flows held ask None = is_tested_now (tested_moves flows held ask)
asked_by flows held ask (Some it) = is_kept_so refl

pub asked_moves : AskedMoves
asked_moves flows held ask = asked_by flows held ask flows.resync
