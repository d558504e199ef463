-- The messages that a step of a backend sends the master, and a step of the master a backend.
use Rattle.std.proofs.Common.{◌≡◌, ◌≢◌, ℕ, Bool, nat_eq, List, [], ◌∷◌, ◌++◌, map, Option, None, Some, refl, sym, ap, ◌∙◌, append-nil}
use Rattle.std.specs.Prelude.{All, if◌then◌else◌}
use Rattle.std.specs.Cmp.Lexicographic.{pointwise}
use Rattle.std.proofs.lemmas.List.{map-append}
use Rattle.std.proofs.lemmas.List.Concat.{flat_map-append}
use Rattle.std.proofs.lemmas.List.Elements.{All-head, All-tail}
use Rattle.backend_core.specs.declared.backend.Backend.{Backend}
use Rattle.backend_core.specs.declared.op_plan.OpPlan.{OpPlan}
use Rattle.backend_core.specs.OpPlan.{told_after}
use Rattle.backend_core.specs.Plan.{answer_outs, owed_outs, owes}
use Rattle.link_msg.specs.declared.answer.AnswerBody.{AnswerBody}
use Rattle.link_msg.specs.declared.counts.Counts.{Counts}
use Rattle.link_msg.specs.declared.message.LinkMsg.{LinkMsg}
use Rattle.link_msg.specs.declared.message.LinkMsg.TheVariants.{Line, Answer}
use Rattle.link_msg.specs.declared.out.Out.TheVariants.{Link}
use Rattle.mupdate_codec.specs.declared.command.MResponse.{MResponse}
use Rattle.mupdate_codec.specs.declared.tag.Tag.{Tag}
use Rattle.mur_base.specs.declared.home.Location.{Location}
use Rattle.mur_base.specs.declared.point.AskId.{AskId}
use Rattle.node_record.specs.Held.{Names}
use Rattle.name_flows.specs.declared.ask.Told.{Told}
use Rattle.name_flows.specs.declared.sent.SentLine.{SentLine}
use Rattle.name_flows.specs.Lines.{line_text}
use Rattle.name_flows.specs.Steps.{FlowStep, handed}
use Rattle.back_node.specs.Takes.{answer_out, line_out, step_outs}
use Rattle.back_node.proofs.Owed.{IsToOne}
use Rattle.feed_links.specs.Lines.{message_to, messages_to}
use Rattle.feed_links.proofs.Messages.{told_line}
use Rattle.feed_links.proofs.Names.{same_name, other_name}
use Rattle.name_links.specs.OneLink.{message_of, under}
use Rattle.back_links.specs.Written.{command_message, response_message}

-- ---- a backend's

to_it : (master to : List ℕ) (message : LinkMsg) → to ≡ master → message_to master (Link to message) ≡ message ∷ []
to_it master to message same =
    ap (λ (b : Bool). if b then message ∷ [] else []) (ap (λ (n : List ℕ). pointwise nat_eq n master) same ∙ same_name master)

to_another : (master to : List ℕ) (message : LinkMsg) → to ≢ master → message_to master (Link to message) ≡ []
to_another master to message ne = ap (λ (b : Bool). if b then message ∷ [] else []) (other_name to master ne)

lines_sent : (master to : List ℕ) (me : Location) (held : Names) (sends : List SentLine) → to ≡ master
    → messages_to master (map (line_out to) (map (line_text me held) sends)) ≡ map command_message (map (message_of me held) sends)
lines_sent master to me held [] same = refl
lines_sent master to me held (line ∷ sends) same =
    ap (λ (l : List LinkMsg). l ++ messages_to master (map (line_out to) (map (line_text me held) sends)))
    (to_it master to (Line (line_text me held line)) same)
    ∙ ap (λ (l : List LinkMsg). command_message (message_of me held line) ∷ l) (lines_sent master to me held sends same)

no_answers : (master : List ℕ) (answers : List Told) → All (IsToOne (λ front. front ≢ master)) answers → messages_to master (map answer_out answers) ≡ []
no_answers master [] all = refl
no_answers master (told ∷ answers) all =
    ap (λ (l : List LinkMsg). l ++ messages_to master (map answer_out answers))
    (to_another master told.front (Answer told.answer) (All-head (IsToOne (λ front. front ≢ master)) told answers all))
    ∙ no_answers master answers (All-tail (IsToOne (λ front. front ≢ master)) told answers all)

-- a step of its talk sends the master the lines of its commands
pub step_sends : (master : List ℕ) (held : Names) (step : FlowStep) → step.flows.master ≡ master → All (IsToOne (λ front. front ≢ master)) step.answers
    → messages_to master (step_outs step.flows.master (handed held step).step) ≡ map command_message (map (message_of step.flows.me held) step.sends)
step_sends master held step same others =
    flat_map-append (message_to master) (map (line_out step.flows.master) (map (line_text step.flows.me held) step.sends)) (map answer_out step.answers)
    ∙ ap (λ (l : List LinkMsg). messages_to master (map (line_out step.flows.master) (map (line_text step.flows.me held) step.sends)) ++ l)
    (no_answers master step.answers others)
    ∙ append-nil (messages_to master (map (line_out step.flows.master) (map (line_text step.flows.me held) step.sends)))
    ∙ lines_sent master step.flows.master step.flows.me held step.sends same

answered_else : (master from : List ℕ) (id : AskId) (counts : Counts) (body : Option AnswerBody) → from ≢ master
    → messages_to master (answer_outs from id counts body) ≡ []
unfolding answer_outs
answered_else master from id counts None ne = refl
answered_else master from id counts (Some body) ne =
    ap (λ (l : List LinkMsg). l ++ []) (to_another master from (Answer (record { id = id; body = body })) ne)

-- an ask for messages sends it nothing
pub owed_sends : (master from : List ℕ) (id : AskId) (home : Backend) (plan : Option OpPlan) → from ≢ master
    → messages_to master (owed_outs home (owes from id plan).owed) ≡ []
owed_sends master from id home None ne = refl
owed_sends master from id home (Some plan) ne =
    answered_else master from id (told_after home plan.telling).counts (Some (told_after home plan.telling).body) ne

-- ---- the master's

pub told_messages : (tag : Tag) (answers : List MResponse) → map (told_line tag) answers ≡ map response_message (map (under tag) answers)
told_messages tag [] = refl
told_messages tag (it ∷ answers) = ap (λ (l : List LinkMsg). told_line tag it ∷ l) (told_messages tag answers)

-- ---- behind what is on its way

pub written_then : {A : Type 0} (text : A → LinkMsg) (queue more : List LinkMsg) (its extra : List A) → queue ≡ map text its → more ≡ map text extra
    → queue ++ more ≡ map text (its ++ extra)
written_then text queue more its extra is more_is =
    ap (λ (q : List LinkMsg). q ++ more) is ∙ ap (λ (m : List LinkMsg). map text its ++ m) more_is ∙ sym (map-append text its extra)

-- the first message is that of the first
pub record IsFirst {A : Type 0} (text : A → LinkMsg) (message : LinkMsg) (queue : List LinkMsg) (its : List A) : Type 0 where
  pub it : A
  pub more : List A
  pub are : its ≡ it ∷ more
  pub is : message ≡ text it
  pub rest : queue ≡ map text more

pub first_of : {A : Type 0} (text : A → LinkMsg) (message : LinkMsg) (queue : List LinkMsg) (its : List A) → message ∷ queue ≡ map text its
    → IsFirst text message queue its
first_of text message queue [] e = cc
first_of text message queue (it ∷ more) e = (let is : message ≡ text it = cc in let rest : queue ≡ map text more = cc in
    record { it = it; more = more; are = refl; is = is; rest = rest })
