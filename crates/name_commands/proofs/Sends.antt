-- What a step of a backend's talk lets out, of which commands it is.
use Rattle.std.proofs.Common.{◌≡◌, ◌≢◌, ℕ, Bool, true, false, cond, List, [], ◌∷◌, ◌++◌, map, filter, Option, refl, sym, ap, ◌∙◌}
use Rattle.std.specs.List.{AllByRecursion}
use Rattle.std.proofs.lemmas.List.Elements.{filter-append}
use Rattle.link_msg.specs.declared.message.LinkMsg.{LinkMsg}
use Rattle.link_msg.specs.declared.out.Out.{Out}
use Rattle.link_msg.specs.declared.out.Out.TheVariants.{Link}
use Rattle.master_core.specs.declared.master.Master.{Master}
use Rattle.mupdate_codec.specs.declared.command.MCommand.{MCommand}
use Rattle.mupdate_codec.specs.Asks.{tag_of}
use Rattle.mupdate_codec.proofs.LineAsks.{command_tells}
use Rattle.mur_base.specs.declared.home.Location.{Location}
use Rattle.mur_base.specs.declared.point.AskId.{AskId}
use Rattle.node_record.specs.Held.{Names}
use Rattle.name_flows.specs.declared.ask.Told.{Told}
use Rattle.name_flows.specs.declared.flow.Flow.{Flow}
use Rattle.name_flows.specs.declared.flow.Stage.{Stage}
use Rattle.name_flows.specs.declared.flow.Stage.TheVariants.{Reserving, Making, Deactivating, Deleting}
use Rattle.name_flows.specs.declared.sent.SentLine.{SentLine}
use Rattle.name_flows.specs.Lines.{command_of, line_text}
use Rattle.name_flows.specs.Steps.{FlowStep, handed}
use Rattle.back_node.specs.declared.node.BackNode.{BackNode}
use Rattle.back_node.specs.Acted.{BackActed}
use Rattle.back_node.specs.Takes.{answer_out, line_out, talks}
use Rattle.back_node.proofs.AtHome.{done_by}
use Rattle.back_node.proofs.Owed.{AnswersOnly}
use Rattle.feed_links.specs.Lines.{messages_to}
use Rattle.name_links.specs.OneLink.{message_of}
use Rattle.back_links.specs.OneTalk.{HaveEachOther}
use Rattle.back_links.specs.Spelled.{CanTellMaster, HasCommandTexts}
use Rattle.back_links.specs.Written.{command_message}
use Rattle.back_links.proofs.Queues.{step_sends}
use Rattle.back_links.proofs.StepsSaid.{StepSaid, sends_spelled}
use Rattle.back_links.proofs.Texts.{command_is}
use Rattle.name_commands.specs.Moves.{Move, is_answered, is_kept, is_sent, answers_of, lines_of, outs_of, place_after, LeavesCommand, MovesCommand}
use Rattle.name_commands.specs.Places.{NamePlace, FlowsShow, IsKnown, flow_line, flow_message, stage_command, stage_line, ups_at, downs_at}
use Rattle.name_commands.specs.Whose.{Whose, is_own, is_own_line, is_own_message, is_own_out, is_own_told}
use Rattle.name_commands.proofs.Own.{all_behind, none_behind}
use Rattle.name_commands.proofs.Steps.{Leaves, Makes, left_at}

-- ---- a test of what is made of elements, by a test of them

module _ {X Y : Type 0} (f : X → Y) (p : Y → Bool) (q : X → Bool) where
  onto : (here : Bool) (x : X) (xs : List X) → cond here (f x ∷ map f xs) (map f xs) ≡ map f (cond here (x ∷ xs) xs)
  onto true x xs = refl
  onto false x xs = refl

  pub filter_made : (xs : List X) → AllByRecursion (λ x. p (f x) ≡ q x) xs → filter p (map f xs) ≡ map f (filter q xs)
  filter_made [] same = refl
  filter_made (x ∷ xs) same =
      ap (λ b. cond b (f x ∷ filter p (map f xs)) (filter p (map f xs))) same.0
      ∙ ap (λ l. cond (q x) (f x ∷ l) l) (filter_made xs same.1) ∙ onto (q x) x (filter q xs)

every : {X : Type 0} (P : X → Type 0) → ((x : X) → P x) → (xs : List X) → AllByRecursion P xs
every P p [] = tt
every P p (x ∷ xs) = (p x, every P p xs)

-- ---- lines

module _ (whose : Whose) (me : Location) (held : Names) where
  abbrev line_message : SentLine → LinkMsg
  line_message line = command_message (message_of me held line)

  abbrev line_to : List ℕ → SentLine → Out
  line_to master line = Link master (line_message line)

  -- the line that can be read again tells what its tag tells
  line_same : (line : SentLine) → HasCommandTexts (message_of me held line) → is_own_message whose (line_message line) ≡ is_own_line whose line
  line_same line spelled =
      ap (λ (i : Option AskId). is_own whose i)
      (command_tells (line_text me held line) (message_of me held line) (command_is (message_of me held line) spelled))

  lines_same : (lines : List SentLine) → AllByRecursion HasCommandTexts (map (message_of me held) lines)
      → AllByRecursion (λ line. is_own_message whose (line_message line) ≡ is_own_line whose line) lines
  lines_same [] spelled = tt
  lines_same (line ∷ lines) spelled = (line_same line spelled.0, lines_same lines spelled.1)

  as_outs : (master : List ℕ) (lines : List SentLine) → map (line_out master) (map (line_text me held) lines) ≡ map (line_to master) lines
  as_outs master [] = refl
  as_outs master (line ∷ lines) = ap (λ (l : List Out). line_to master line ∷ l) (as_outs master lines)

  as_messages : (lines : List SentLine) → map command_message (map (message_of me held) lines) ≡ map line_message lines
  as_messages [] = refl
  as_messages (line ∷ lines) = ap (λ (l : List LinkMsg). line_message line ∷ l) (as_messages lines)

  pub own_lines_out : (master : List ℕ) (lines : List SentLine) → AllByRecursion HasCommandTexts (map (message_of me held) lines)
      → filter (is_own_out whose) (map (line_out master) (map (line_text me held) lines)) ≡ map (line_to master) (filter (is_own_line whose) lines)
  own_lines_out master lines spelled =
      ap (λ (l : List Out). filter (is_own_out whose) l) (as_outs master lines)
      ∙ filter_made (line_to master) (is_own_out whose) (is_own_line whose) lines (lines_same lines spelled)

  pub own_lines_sent : (lines : List SentLine) → AllByRecursion HasCommandTexts (map (message_of me held) lines)
      → filter (is_own_message whose) (map command_message (map (message_of me held) lines)) ≡ map line_message (filter (is_own_line whose) lines)
  own_lines_sent lines spelled =
      ap (λ (l : List LinkMsg). filter (is_own_message whose) l) (as_messages lines)
      ∙ filter_made line_message (is_own_message whose) (is_own_line whose) lines (lines_same lines spelled)

  -- the line of a flow is the same whatever is here
  pub stage_same : (stage : Stage) (name : List ℕ) → command_of me held (stage_line stage name) ≡ stage_command me name stage
  stage_same Reserving name = refl
  stage_same Making name = refl
  stage_same Deactivating name = refl
  stage_same Deleting name = refl

  pub flow_same : (name : List ℕ) (flow : Flow) → line_message (flow_line name flow) ≡ flow_message me name flow
  flow_same name flow = ap (λ (it : MCommand). command_message (tag_of flow.ask, it)) (stage_same flow.stage name)

  pub move_outs : (master : List ℕ) (move : Move) → map (line_to master) (lines_of move) ++ map answer_out (answers_of move) ≡ outs_of master me move
  move_outs master (is_answered front id body) = refl
  move_outs master (is_kept ask) = refl
  move_outs master (is_sent name flow) = ap (λ (m : LinkMsg). Link master m ∷ []) (flow_same name flow)

  pub move_ups : (move : Move) → map line_message (lines_of move) ≡ ups_at me (place_after move)
  move_ups (is_answered front id body) = refl
  move_ups (is_kept ask) = refl
  move_ups (is_sent name flow) = ap (λ (m : LinkMsg). m ∷ []) (flow_same name flow)

own_answers_out : (whose : Whose) (answers : List Told)
    → filter (is_own_out whose) (map answer_out answers) ≡ map answer_out (filter (is_own_told whose) answers)
own_answers_out whose answers =
    filter_made answer_out (is_own_out whose) (is_own_told whose) answers
    (every (λ told. is_own_out whose (answer_out told) ≡ is_own_told whose told) (λ told. refl) answers)

-- after a move nothing comes from the master
none_down : (move : Move) → downs_at (place_after move) ≡ []
none_down (is_answered front id body) = refl
none_down (is_kept ask) = refl
none_down (is_sent name flow) = refl

move_known : (move : Move) → IsKnown (place_after move)
move_known (is_answered front id body) = tt
move_known (is_kept ask) = tt
move_known (is_sent name flow) = tt

-- ---- a step of the talk

module _ (whose : Whose) (master : Master) (name : List ℕ) (node : BackNode) (step : FlowStep) (each : HaveEachOther master name node)
    (said : CanTellMaster node.flows node.home.held) (so : StepSaid node.flows.me node.home.held step)
    (only : AnswersOnly (λ front. front ≢ master.me) node.flows step) where
  abbrev then : BackActed
  then = done_by (talks node step)

  abbrev held : Names
  held = node.home.held

  spelled : AllByRecursion HasCommandTexts (map (message_of step.flows.me held) step.sends)
  spelled = sends_spelled step.flows.me held step.sends so.can.place said.mailboxes so.sends

  outs_are : filter (is_own_out whose) then.outs
      ≡ map (line_to whose step.flows.me held step.flows.master) (filter (is_own_line whose) step.sends) ++ map answer_out
      (filter (is_own_told whose) step.answers)
  outs_are =
      let lines : List Out = map (line_out step.flows.master) (map (line_text step.flows.me held) step.sends) in
      filter-append (is_own_out whose) lines (map answer_out step.answers)
      ∙ ap (λ (l : List Out). l ++ filter (is_own_out whose) (map answer_out step.answers))
      (own_lines_out whose step.flows.me held step.flows.master step.sends spelled)
      ∙ ap (λ (l : List Out). map (line_to whose step.flows.me held step.flows.master) (filter (is_own_line whose) step.sends) ++ l)
      (own_answers_out whose step.answers)

  sent_are : filter (is_own_message whose) (messages_to master.me then.outs)
      ≡ map (line_message whose step.flows.me held) (filter (is_own_line whose) step.sends)
  sent_are =
      ap (λ (l : List LinkMsg). filter (is_own_message whose) l) (step_sends master.me held step (only.master ∙ each.its_master) only.answers)
      ∙ own_lines_sent whose step.flows.me held step.sends spelled

  -- it makes this of theirs
  pub is_moved : (up down : List LinkMsg) (move : Move) → Makes whose held step move → filter (is_own_message whose) up ≡ []
      → filter (is_own_message whose) down ≡ []
      → MovesCommand whose master.me node then up down move
  is_moved up down move makes none_up none_here = record {
    placed = record {
      at = makes.at;
      up_is = all_behind (is_own_message whose) up (messages_to master.me then.outs) (ups_at step.flows.me (place_after move)) none_up
          (sent_are ∙ ap (λ (l : List SentLine). map (line_message whose step.flows.me held) l) makes.lines ∙ move_ups whose step.flows.me held move);
      down_is = none_here ∙ sym (none_down move);
      known = move_known move;
    };
    outs = outs_are
        ∙ ap (λ (l : List SentLine). map (line_to whose step.flows.me held step.flows.master) l ++ map answer_out (filter (is_own_told whose) step.answers))
        makes.lines
        ∙ ap (λ (l : List Told). map (line_to whose step.flows.me held step.flows.master) (lines_of move) ++ map answer_out l) makes.answers
        ∙ move_outs whose step.flows.me held step.flows.master move
        ∙ ap (λ (me : Location). outs_of step.flows.master me move) so.me_is
        ∙ ap (λ (m : List ℕ). outs_of m node.flows.me move) (only.master ∙ each.its_master);
  }

  -- or leaves it
  pub is_left : (up down : List LinkMsg) (place : NamePlace) → FlowsShow whose (handed held step).flows place → filter (is_own_line whose) step.sends ≡ []
      → filter (is_own_told whose) step.answers ≡ [] → filter (is_own_message whose) up ≡ ups_at node.flows.me place
      → filter (is_own_message whose) down ≡ downs_at place → IsKnown place → LeavesCommand whose master.me then up down place
  is_left up down place at no_lines no_answers up_is down_is known = record {
    placed = record {
      at = at;
      up_is = none_behind (is_own_message whose) up (messages_to master.me then.outs)
          (sent_are ∙ ap (λ (l : List SentLine). map (line_message whose step.flows.me held) l) no_lines)
          ∙ up_is ∙ ap (λ (me : Location). ups_at me place) (sym so.me_is);
      down_is = down_is;
      known = known;
    };
    outs = outs_are
        ∙ ap (λ (l : List SentLine). map (line_to whose step.flows.me held step.flows.master) l ++ map answer_out (filter (is_own_told whose) step.answers))
        no_lines
        ∙ ap (λ (l : List Told). map answer_out l) no_answers;
  }

  pub leaves_it : (up down : List LinkMsg) (place : NamePlace) → Leaves whose node.flows step → FlowsShow whose node.flows place
      → filter (is_own_message whose) up ≡ ups_at node.flows.me place → filter (is_own_message whose) down ≡ downs_at place → IsKnown place
      → LeavesCommand whose master.me then up down place
  leaves_it up down place leaves at up_is down_is known =
      is_left up down place (left_at whose node.flows held step place leaves at) leaves.lines leaves.answers up_is down_is known
