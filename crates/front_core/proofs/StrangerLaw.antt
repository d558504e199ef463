-- What another node than the one that was asked says changes nothing, but whether its link is up.
use Rattle.std.proofs.Common.{◌≡◌, ◌≢◌, Bool, true, false, nat_eq, List, [], ◌∷◌, ℕ, Option, None, Some, refl, sym, ap, ◌∙◌}
use Rattle.std.specs.Map.{keys_of}
use Rattle.std.specs.Cmp.Lexicographic.{pointwise, same_text}
use Rattle.front_core.specs.declared.front.Front.{Front}
use Rattle.asking_core.specs.declared.waiting.At.{At}
use Rattle.asking_core.specs.declared.waiting.At.TheVariants.{Home, Barrier}
use Rattle.front_core.specs.declared.connection.Connection.{Connection}
use Rattle.front_core.specs.declared.connection.Stage.{Stage}
use Rattle.front_core.specs.declared.connection.Stage.TheVariants.{Reading, Waits, Lists, Ended}
use Rattle.front_core.specs.AskOrder.{in_order}
use Rattle.front_core.specs.Front.{WaitsForNone, all_end, answer_from, awaited, behind_them, connection_at, deliver, end_from, end_if, line_from, noting, still}
use Rattle.front_core.specs.Front.{up_from, waits_for, with_asks_in_order, with_up, without_up}
use Rattle.front_core.specs.Stages.{asks_at, awaits, has_asked, waits_at}
use Rattle.link_msg.specs.declared.answer.BackAnswer.{BackAnswer}
use Rattle.link_msg.specs.declared.ask.FrontAsk.{FrontAsk}
use Rattle.link_msg.specs.declared.message.LinkMsg.{LinkMsg}
use Rattle.link_msg.specs.declared.message.LinkMsg.TheVariants.{Up, End, Line, Ask, Answer}
use Rattle.link_msg.specs.declared.out.Out.{Out}

another : (one other : List ℕ) (same : Bool) → pointwise nat_eq one other ≡ same → one ≢ other → same ≡ false
another one other true e ne = absurd (ne (same_text one other (sym e)))
another one other false e ne = refl

not_asked : (front : Front) (answer : BackAnswer) → answer_from false front answer ≡ still front
unfolding answer_from
not_asked front answer = refl

no_answer : (front : Front) (from : List ℕ) (answer : BackAnswer) → WaitsForNone front from
    → answer_from (waits_for (connection_at front (answer.id).conn) from) front answer ≡ still front
no_answer front from answer none = ap (λ asked. answer_from asked front answer) (none (answer.id).conn) ∙ not_asked front answer

no_up : (front : Front) → up_from false front ≡ still front
unfolding up_from
no_up front = refl

up_stranger : (front : Front) (from : List ℕ) → from ≢ front.master → up_from (pointwise nat_eq from front.master) front ≡ still front
up_stranger front from ne = ap (λ same. up_from same front) (another from front.master (pointwise nat_eq from front.master) refl ne) ∙ no_up front

no_line : (front : Front) (bytes : List ℕ) → line_from false front bytes ≡ still front
unfolding line_from
no_line front bytes = refl

line_stranger : (front : Front) (from bytes : List ℕ) → from ≢ front.master
    → line_from (pointwise nat_eq from front.master) front bytes ≡ still front
line_stranger front from bytes ne =
    ap (λ same. line_from same front bytes) (another from front.master (pointwise nat_eq from front.master) refl ne) ∙ no_line front bytes

-- ---- its link ends

nothing_there : (front : Front) (node : List ℕ) (at : At) → asks_at at node ≡ false → node ≢ front.master → waits_at front.master at node ≡ false
nothing_there front node (Home server) none ne = none
nothing_there front node (Barrier why) none ne = another front.master node (pointwise nat_eq front.master node) refl (λ e. ne (sym e))

nothing_by : (front : Front) (node : List ℕ) (stage : Stage) → has_asked stage node ≡ false → node ≢ front.master → awaits front.master stage node ≡ false
unfolding has_asked awaits
nothing_by front node Reading none ne = refl
nothing_by front node (Waits tag it) none ne = nothing_there front node it.at none ne
nothing_by front node (Lists tag it) none ne = another front.master node (pointwise nat_eq front.master node) refl (λ e. ne (sym e))
nothing_by front node Ended none ne = refl

not_awaited : (front : Front) (node : List ℕ) (found : Option Connection) → waits_for found node ≡ false → node ≢ front.master
    → awaited front.master found node ≡ false
unfolding waits_for awaited
not_awaited front node None none ne = refl
not_awaited front node (Some connection) none ne = nothing_by front node connection.stage none ne

none_end : (front : Front) (node : List ℕ) (conns : List ℕ) → WaitsForNone front node → node ≢ front.master → all_end front node conns ≡ still front
unfolding all_end
none_end front node [] none ne = refl
none_end front node (conn ∷ conns) none ne =
    ap (λ waits. behind_them (end_if waits front conn).outs (all_end (end_if waits front conn).front node conns))
    (not_awaited front node (connection_at front conn) (none conn) ne)
    ∙ none_end front node conns none ne

end_stranger : (front : Front) (node : List ℕ) → WaitsForNone front node → node ≢ front.master
    → end_from (without_up front node) node ≡ still (without_up front node)
unfolding in_order
end_stranger front node none ne = ap with_asks_in_order (none_end (without_up front node) node (keys_of front.connections) none ne)

pub strangers : (front : Front) (from : List ℕ) (message : LinkMsg) → WaitsForNone front from → from ≢ front.master
    → deliver front from message ≡ still (noting front from message)
unfolding deliver noting
strangers front from (Answer answer) none no_master = no_answer front from answer none
strangers front from Up none no_master = up_stranger (with_up front from) from no_master
strangers front from End none no_master = end_stranger front from none no_master
strangers front from (Line bytes) none no_master = line_stranger front from bytes no_master
strangers front from (Ask ask) none no_master = refl

-- by the message that came

pub answer_noted : (front : Front) (from : List ℕ) (message : LinkMsg) (answer : BackAnswer) → message ≡ Answer answer → WaitsForNone front from
    → from ≢ front.master → answer_from (waits_for (connection_at front (answer.id).conn) from) front answer ≡ still (noting front from message)
unfolding deliver
answer_noted front from message answer is none no_master = sym (ap (deliver front from) is) ∙ strangers front from message none no_master

pub up_noted : (front : Front) (from : List ℕ) (message : LinkMsg) → message ≡ Up → WaitsForNone front from → from ≢ front.master
    → up_from (pointwise nat_eq from front.master) (with_up front from) ≡ still (noting front from message)
unfolding deliver
up_noted front from message is none no_master = sym (ap (deliver front from) is) ∙ strangers front from message none no_master

pub end_noted : (front : Front) (from : List ℕ) (message : LinkMsg) → message ≡ End → WaitsForNone front from → from ≢ front.master
    → end_from (without_up front from) from ≡ still (noting front from message)
unfolding deliver
end_noted front from message is none no_master = sym (ap (deliver front from) is) ∙ strangers front from message none no_master

pub line_noted : (front : Front) (from : List ℕ) (message : LinkMsg) (bytes : List ℕ) → message ≡ Line bytes → WaitsForNone front from → from ≢ front.master
    → line_from (pointwise nat_eq from front.master) front bytes ≡ still (noting front from message)
unfolding deliver
line_noted front from message bytes is none no_master = sym (ap (deliver front from) is) ∙ strangers front from message none no_master

pub ask_noted : (front : Front) (from : List ℕ) (message : LinkMsg) (ask : FrontAsk) (outs : List Out) → message ≡ Ask ask → outs ≡ []
    → record { front = front; outs = outs } ≡ still (noting front from message)
unfolding noting
ask_noted front from message ask outs is none = ap (λ l. record { front = front; outs = l }) none ∙ sym (ap (λ m. still (noting front from m)) is)
