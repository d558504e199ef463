-- LIST's OK ends a resync: each command that waited is tested, one after the other, and any other is left where it is.
use Rattle.std.proofs.Common.{◌≡◌, ℕ, ◌≤◌, Bool, true, false, cond, List, [], ◌∷◌, length, map, filter, Option, None, Some, refl, sym, ap, subst, ◌∙◌, arith}
use Rattle.std.specs.declared.cmp.Ordering.{Ordering}
use Rattle.std.specs.declared.cmp.Ordering.TheVariants.{Less, Equal, Greater}
use Rattle.std.specs.List.{fold}
use Rattle.std.specs.Ordering.{is_eq, match_ordering, nat_cmp}
use Rattle.std.specs.Cmp.Lexicographic.{slice_cmp}
use Rattle.link_msg.specs.declared.answer.AnswerBody.{AnswerBody}
use Rattle.mupdate_codec.specs.declared.command.MResponse.TheVariants as response
use Rattle.mupdate_codec.specs.declared.tag.Tag.{Tag}
use Rattle.mur_base.specs.Map.{value_at, IsInOrder}
use Rattle.node_record.specs.Held.{Names, held_at}
use Rattle.name_flows.specs.declared.ask.NameAsk.{NameAsk}
use Rattle.name_flows.specs.declared.ask.Told.{Told}
use Rattle.name_flows.specs.declared.flow.Flow.{Flow}
use Rattle.name_flows.specs.declared.flows.Flows.{Flows}
use Rattle.name_flows.specs.declared.resync.Resync.{Resync}
use Rattle.name_flows.specs.declared.sent.Sent.{Sent}
use Rattle.name_flows.specs.declared.sent.Sent.TheVariants.{List as List_line}
use Rattle.name_flows.specs.declared.sent.SentLine.{SentLine}
use Rattle.name_flows.specs.Asked.{begun_line, flow_for, refusal}
use Rattle.name_flows.specs.Heard.{heard_step, is_same_tag, ok_of, taken}
use Rattle.name_flows.specs.Link.{waiting_in}
use Rattle.name_flows.specs.Listed.{LinesByName, ended_resync, is_lost, line_in, list_ok_by, round, round_by, Round, with_find, with_line}
use Rattle.name_flows.specs.Running.{answer_to, flow_at}
use Rattle.name_flows.specs.Steps.{FlowStep, handed, silent}
use Rattle.name_flows.proofs.AnswerOrder.{ordered_few}
use Rattle.name_links.specs.LinkIs.{AreNumbered, IsTagged}
use Rattle.name_links.proofs.HearParts.{not_lost}
use Rattle.name_links.proofs.LinesByName.{Each, IsAboutIt, is_in_passing}
use Rattle.name_links.proofs.ResyncEnd.{find_about, finds_each, finds_none}
use Rattle.name_links.proofs.Rounds.{carried_out, IsRound, round_is, rounds_are}
use Rattle.name_links.proofs.Sends.{heard_is, step_ok}
use Rattle.name_commands.specs.Moves.{Move, is_answered, is_kept, is_sent, answers_of, lines_of, place_after, tested_move}
use Rattle.name_commands.specs.Places.{NamePlace, nowhere, waits, FlowsShow, IsNumbered, asks_at, flow_line, flows_at}
use Rattle.name_commands.specs.Whose.{Whose, is_own_ask, is_own_line, is_own_told, own_flow}
use Rattle.name_commands.proofs.AskLaw.{begun_is, begun_others, begun_own, begun_running}
use Rattle.name_commands.proofs.Own.{all_behind, find_own, kept, kept_behind, none_behind, passed, passed_behind}
use Rattle.name_commands.proofs.Steps.{Makes}

-- ---- a line is put among those that are sent, on a name that has none

abbrev own_lines : Whose → LinesByName → List SentLine
own_lines whose lines = filter (is_own_line whose) (map line_in lines)

not_there : {X : Type 0} (t : Bool) (x : X) (rest : Option X) → cond t (Some x) rest ≡ None → (t ≡ false) × (rest ≡ None)
not_there true x rest e = cc
not_there false x rest e = (refl, e)

none_kept : {X : Type 0} (t : Bool) (x : X) (rest : List X) → cond t (x ∷ rest) rest ≡ [] → (t ≡ false) × (rest ≡ [])
none_kept true x rest e = cc
none_kept false x rest e = (refl, e)

module _ (whose : Whose) (name : List ℕ) (line : SentLine) where
  abbrev IsNew : LinesByName → Type 0
  IsNew lines = value_at (slice_cmp nat_cmp) lines name ≡ None

  is_new : (first : List ℕ × SentLine) (lines : LinesByName) → IsNew (first ∷ lines) → (is_eq (slice_cmp nat_cmp name first.0) ≡ false) × IsNew lines
  is_new first lines new = not_there (is_eq (slice_cmp nat_cmp name first.0)) first.1 (value_at (slice_cmp nat_cmp) lines name) new

  abbrev put_by : (List ℕ × SentLine) → LinesByName → Ordering → LinesByName
  put_by first lines order = match_ordering order ((name, line) ∷ first ∷ lines) ((first.0, line) ∷ lines) (first ∷ with_line lines name line)

  other_by : is_own_line whose line ≡ false → (first : List ℕ × SentLine) (lines : LinesByName) → IsNew (first ∷ lines)
      → own_lines whose (with_line lines name line) ≡ own_lines whose lines → (order : Ordering) → slice_cmp nat_cmp name first.0 ≡ order
      → own_lines whose (put_by first lines order) ≡ own_lines whose (first ∷ lines)
  other_by other first lines new more Less e = passed (is_own_line whose) line (map line_in (first ∷ lines)) other
  other_by other first lines new more Equal e =
      (let there : is_eq (slice_cmp nat_cmp name first.0) ≡ true = ap is_eq e in
      let gone : is_eq (slice_cmp nat_cmp name first.0) ≡ false = (is_new first lines new).0 in cc)
  other_by other first lines new more Greater e = ap (λ (l : List SentLine). cond (is_own_line whose first.1) (first.1 ∷ l) l) more

  -- another's changes none of theirs
  pub put_other : is_own_line whose line ≡ false → (lines : LinesByName) → IsNew lines → own_lines whose (with_line lines name line) ≡ own_lines whose lines
  put_other other [] new = passed (is_own_line whose) line [] other
  put_other other (first ∷ lines) new =
      other_by other first lines new (put_other other lines (is_new first lines new).1) (slice_cmp nat_cmp name first.0) refl

  own_by : is_own_line whose line ≡ true → (first : List ℕ × SentLine) (lines : LinesByName) → IsNew (first ∷ lines) → own_lines whose (first ∷ lines) ≡ []
      → (own_lines whose lines ≡ [] → own_lines whose (with_line lines name line) ≡ line ∷ []) → (order : Ordering) → slice_cmp nat_cmp name first.0 ≡ order
      → own_lines whose (put_by first lines order) ≡ line ∷ []
  own_by own first lines new none more Less e =
      kept (is_own_line whose) line (map line_in (first ∷ lines)) own ∙ ap (λ (l : List SentLine). line ∷ l) none
  own_by own first lines new none more Equal e =
      (let there : is_eq (slice_cmp nat_cmp name first.0) ≡ true = ap is_eq e in
      let gone : is_eq (slice_cmp nat_cmp name first.0) ≡ false = (is_new first lines new).0 in cc)
  own_by own first lines new none more Greater e =
      let parts = none_kept (is_own_line whose first.1) first.1 (own_lines whose lines) none in
      passed (is_own_line whose) first.1 (map line_in (with_line lines name line)) parts.0 ∙ more parts.1

  -- its own is there, alone
  pub put_own : is_own_line whose line ≡ true → (lines : LinesByName) → IsNew lines → own_lines whose lines ≡ []
      → own_lines whose (with_line lines name line) ≡ line ∷ []
  put_own own [] new none = kept (is_own_line whose) line [] own
  put_own own (first ∷ lines) new none =
      own_by own first lines new none (put_own own lines (is_new first lines new).1) (slice_cmp nat_cmp name first.0) refl

no_lines : (whose : Whose) (lines : LinesByName) → Each (λ e. is_own_line whose e.1 ≡ false) lines → own_lines whose lines ≡ []
no_lines whose [] each = refl
no_lines whose (first ∷ lines) each = passed (is_own_line whose) first.1 (map line_in lines) each.0 ∙ no_lines whose lines each.1

-- ---- the asks that waited, one after the other

-- what there is of theirs between two asks
record Has (whose : Whose) (it : Round) (running : List ℕ → Option Flow) (lines : List SentLine) (answers : List Told) : Type 0 where
  running_is : (name : List ℕ) → own_flow whose (flow_at it.flows name) ≡ running name
  lines_are : own_lines whose it.lines ≡ lines
  answers_are : filter (is_own_told whose) it.answers ≡ answers

abbrev HasMove : Whose → Round → Move → Type 0
HasMove whose it move = Has whose it (flows_at (place_after move)) (lines_of move) (answers_of move)

abbrev HasNone : Whose → Round → Type 0
HasNone whose it = Has whose it (flows_at nowhere) [] []

-- the link is as it was
record IsSameLink (start : Flows) (it : Round) : Type 0 where
  up : it.flows.up ≡ start.up
  master : it.flows.master ≡ start.master

same_by : (start : Flows) (it : Round) (ask : NameAsk) (body : Option AnswerBody) → IsSameLink start it → IsSameLink start (round_by it ask body)
same_by start it ask (Some body) same = record { up = same.up; master = same.master }
same_by start it ask None same = record { up = same.up; master = same.master }

module _ (whose : Whose) (start : Flows) (held : Names) where
  module _ (it : Round) (ask : NameAsk) (is : IsRound start held it) (fit : IsNumbered ask.id) where
    -- a name whose ask is carried out has no line
    new_line : refusal it.flows held ask.name ask.kind ≡ None → value_at (slice_cmp nat_cmp) it.lines ask.name ≡ None
    new_line granted = let free = carried_out it.flows held ask.name ask.kind granted in is.others_none ask.name free.0 free.1

    module _ (running : List ℕ → Option Flow) (lines : List SentLine) (answers : List Told) (other : whose ask.id ≡ false)
        (has : Has whose it running lines answers) where
      other_round_by : (body : Option AnswerBody) → refusal it.flows held ask.name ask.kind ≡ body → Has whose (round_by it ask body) running lines answers
      other_round_by (Some body) e = record {
        running_is = has.running_is;
        lines_are = has.lines_are;
        answers_are = passed_behind (is_own_told whose) it.answers (answer_to ask.front ask.id body) other ∙ has.answers_are;
      }
      other_round_by None e = record {
        running_is = λ name. begun_others whose it.flows held ask other e name ∙ has.running_is name;
        lines_are = put_other whose ask.name (begun_line ask) (begun_own whose ask false fit other) it.lines (new_line e) ∙ has.lines_are;
        answers_are = has.answers_are;
      }

      other_round : Has whose (round held it ask) running lines answers
      other_round = other_round_by (refusal it.flows held ask.name ask.kind) refl

    own_round_by : whose ask.id ≡ true → HasNone whose it → (body : Option AnswerBody) → refusal it.flows held ask.name ask.kind ≡ body
        → HasMove whose (round_by it ask body) (tested_move ask body)
    own_round_by own has (Some body) e = record {
      running_is = has.running_is;
      lines_are = has.lines_are;
      answers_are = kept_behind (is_own_told whose) it.answers (answer_to ask.front ask.id body) own has.answers_are;
    }
    own_round_by own has None e = record {
      running_is = begun_running whose it.flows ask own has.running_is;
      lines_are = put_own whose ask.name (begun_line ask) (begun_own whose ask true fit own) it.lines (new_line e) has.lines_are
          ∙ ap (λ (line : SentLine). line ∷ []) (begun_is ask);
      answers_are = has.answers_are;
    }

    own_round : whose ask.id ≡ true → HasNone whose it → HasMove whose (round held it ask) (tested_move ask (refusal it.flows held ask.name ask.kind))
    own_round own has = own_round_by own has (refusal it.flows held ask.name ask.kind) refl

  -- others' leave what there is
  others_have : (running : List ℕ → Option Flow) (lines : List SentLine) (answers : List Told) (asks : List NameAsk) (it : Round) → AreNumbered asks
      → IsRound start held it → filter (is_own_ask whose) asks ≡ [] → Has whose it running lines answers
      → Has whose (fold (round held) it asks) running lines answers
  others_have running lines answers [] it fit is none has = has
  others_have running lines answers (ask ∷ asks) it fit is none has =
      let parts = none_kept (whose ask.id) ask (filter (is_own_ask whose) asks) none in
      others_have running lines answers asks (round held it ask) fit.1 (round_is start held it ask is fit.0.0 fit.0.1) parts.1
      (other_round it ask is fit.0 running lines answers parts.0 has)

  -- its own is tested by the flows that run then
  record IsTestedThen (it : Round) (ask : NameAsk) : Type 0 where
    then : Flows
    up : then.up ≡ start.up
    master : then.master ≡ start.master
    has : HasMove whose it (tested_move ask (refusal then held ask.name ask.kind))

  one_has_by : (own : NameAsk) (ask : NameAsk) (asks : List NameAsk) (it : Round) → AreNumbered (ask ∷ asks) → IsRound start held it → IsSameLink start it
      → HasNone whose it
      → ((next : Round) → IsRound start held next → IsSameLink start next → HasNone whose next → filter (is_own_ask whose) asks ≡ own ∷ []
      → IsTestedThen (fold (round held) next asks) own)
      → (here : Bool) → whose ask.id ≡ here → cond here (ask ∷ filter (is_own_ask whose) asks) (filter (is_own_ask whose) asks) ≡ own ∷ []
      → IsTestedThen (fold (round held) (round held it ask) asks) own
  one_has_by own ask asks it fit is same has more true e one =
      let is_it : ask ≡ own = cc in
      let none : filter (is_own_ask whose) asks ≡ [] = cc in
      subst (λ (a : NameAsk). IsTestedThen (fold (round held) (round held it ask) asks) a) is_it
      (record {
        then = it.flows;
        up = same.up;
        master = same.master;
        has = others_have _ _ _ asks (round held it ask) fit.1 (round_is start held it ask is fit.0.0 fit.0.1) none (own_round it ask is fit.0 e has);
      })
  one_has_by own ask asks it fit is same has more false e one =
      more (round held it ask) (round_is start held it ask is fit.0.0 fit.0.1) (same_by start it ask (refusal it.flows held ask.name ask.kind) same)
      (other_round it ask is fit.0 (flows_at nowhere) [] [] e has) one

  one_has : (own : NameAsk) (asks : List NameAsk) (it : Round) → AreNumbered asks → IsRound start held it → IsSameLink start it → HasNone whose it
      → filter (is_own_ask whose) asks ≡ own ∷ [] → IsTestedThen (fold (round held) it asks) own
  one_has own [] it fit is same has one = absurd (let no : [] ≡ own ∷ [] = one in cc)
  one_has own (ask ∷ asks) it fit is same has one =
      one_has_by own ask asks it fit is same has (λ next next_is next_same next_has rest. one_has own asks next fit.1 next_is next_same next_has rest)
      (whose ask.id) refl one

-- ---- LIST's OK

-- a command has one answer at most
one_answer : (move : Move) → length (answers_of move) ≤ 1
one_answer (is_answered front id body) = omega arith
one_answer (is_kept ask) = omega arith
one_answer (is_sent name flow) = omega arith

-- what the end of a resync is to one that waited
pub record IsTested (whose : Whose) (flows : Flows) (held : Names) (step : FlowStep) (ask : NameAsk) : Type 0 where
  pub then : Flows
  pub up : then.up ≡ flows.up
  pub master : then.master ≡ flows.master
  pub over : step.flows.resync ≡ None
  pub makes : Makes whose held step (tested_move ask (refusal then held ask.name ask.kind))

-- and to all
pub record EndsResync (whose : Whose) (flows : Flows) (held : Names) (step : FlowStep) : Type 0 where
  pub left : (place : NamePlace) → asks_at place ≡ [] → FlowsShow whose flows place → FlowsShow whose (handed held step).flows place
  pub silent : filter (is_own_ask whose) (waiting_in flows.resync) ≡ []
      → (filter (is_own_line whose) step.sends ≡ []) × (filter (is_own_told whose) step.answers ≡ [])
  pub tested : (ask : NameAsk) → FlowsShow whose flows (waits ask) → IsTested whose flows held step ask

module _ (whose : Whose) (flows : Flows) (held : Names) (held_order : IsInOrder (slice_cmp nat_cmp) held) (tag : Tag) (line : SentLine) (lines : List SentLine)
    (first : flows.sent ≡ line ∷ lines) (same : is_same_tag line.tag tag ≡ true) (other : is_own_line whose line ≡ false)
    (sent_same : filter (is_own_line whose) (taken flows).sent ≡ filter (is_own_line whose) flows.sent) where
  abbrev over : Flows
  over = record (taken flows) { resync = None }

  -- without a resync
  none_ends : flows.resync ≡ None → EndsResync whose flows held (silent over)
  none_ends e = record {
    left = λ place none at. record {
      waiting = sym none;
      running = at.running;
      sent = none_behind (is_own_line whose) over.sent [] refl ∙ sent_same ∙ at.sent;
      numbered = at.numbered;
    };
    silent = λ none. (refl, refl);
    tested = λ ask at. absurd (let no : [] ≡ ask ∷ [] = ap (λ (r : Option Resync). filter (is_own_ask whose) (waiting_in r)) (sym e) ∙ at.waiting in cc);
  }

  module _ (w : Resync) (runs : flows.resync ≡ Some w) (fit : AreNumbered w.waiting) where
    abbrev begun : Round
    begun = record { flows = over; lines = fold with_find [] (filter (is_lost w.listed) held); answers = [] }

    abbrev ended : Round
    ended = fold (round held) begun w.waiting

    abbrev step : FlowStep
    step = ended_resync over held w

    begun_round : IsRound over held begun
    begun_round = record {
      resync = refl;
      sent_is = refl;
      found_is = refl;
      me_is = refl;
      about = finds_each IsAboutIt find_about (filter (is_lost w.listed) held) [] tt;
      tagged = finds_each (λ e. IsTagged e.1) (λ e. tt) (filter (is_lost w.listed) held) [] tt;
      others_none =
          λ k f c. finds_none k (filter (is_lost w.listed) held) []
          (is_in_passing (is_lost w.listed) k held held_order ∙ not_lost w.listed k (held_at held k) c);
    }

    ended_round : IsRound over held ended
    ended_round = rounds_are over held w.waiting begun fit begun_round

    begun_lines : own_lines whose begun.lines ≡ []
    begun_lines =
        no_lines whose begun.lines (finds_each (λ e. is_own_line whose e.1 ≡ false) (λ e. find_own whose e.0) (filter (is_lost w.listed) held) [] tt)

    waited : (asks : List NameAsk) → filter (is_own_ask whose) (waiting_in flows.resync) ≡ asks → filter (is_own_ask whose) w.waiting ≡ asks
    waited asks e = ap (λ (r : Option Resync). filter (is_own_ask whose) (waiting_in r)) (sym runs) ∙ e

    none_waits : filter (is_own_ask whose) (waiting_in ended.flows.resync) ≡ []
    none_waits = ap (λ (r : Option Resync). filter (is_own_ask whose) (waiting_in r)) ended_round.resync

    sent_then : filter (is_own_line whose) ended.flows.sent ≡ filter (is_own_line whose) flows.sent
    sent_then = ap (λ (l : List SentLine). filter (is_own_line whose) l) ended_round.sent_is ∙ sent_same

    -- none of theirs waited
    has_left : (running : List ℕ → Option Flow) → ((name : List ℕ) → own_flow whose (flow_at flows name) ≡ running name)
        → filter (is_own_ask whose) (waiting_in flows.resync) ≡ [] → Has whose ended running [] []
    has_left running are none =
        others_have whose over held running [] [] w.waiting begun fit begun_round (waited [] none)
        (record { running_is = are; lines_are = begun_lines; answers_are = refl })

    left_so : (place : NamePlace) → asks_at place ≡ [] → FlowsShow whose flows place → FlowsShow whose (handed held step).flows place
    left_so place none at =
        let has = has_left (flows_at place) at.running (at.waiting ∙ none) in
        record {
          waiting = none_waits ∙ sym none;
          running = has.running_is;
          sent = none_behind (is_own_line whose) ended.flows.sent (map line_in ended.lines) has.lines_are ∙ sent_then ∙ at.sent;
          numbered = at.numbered;
        }

    silent_so : filter (is_own_ask whose) (waiting_in flows.resync) ≡ []
        → (filter (is_own_line whose) step.sends ≡ []) × (filter (is_own_told whose) step.answers ≡ [])
    silent_so none =
        let has = has_left (λ name. own_flow whose (flow_at flows name)) (λ name. refl) none in
        (has.lines_are, ordered_few (is_own_told whose) ended.answers [] (omega arith) has.answers_are)

    -- one of them did
    tested_has : (ask : NameAsk) → FlowsShow whose flows (waits ask) → IsTestedThen whose over held ended ask
    tested_has ask at =
        one_has whose over held ask w.waiting begun fit begun_round (record { up = refl; master = refl })
        (record { running_is = at.running; lines_are = begun_lines; answers_are = refl }) (waited (ask ∷ []) at.waiting)

    tested_numbers : (ask : NameAsk) (body : Option AnswerBody) → IsNumbered ask.id → (move : Move) → tested_move ask body ≡ move
        → FlowsShow whose flows (waits ask)
        → HasMove whose ended move → FlowsShow whose (handed held step).flows (place_after move)
    tested_numbers ask body fit_id move is at has =
        subst (λ (m : Move). HasMove whose ended m → FlowsShow whose (handed held step).flows (place_after m)) is (by body) has
      where
        by : (b : Option AnswerBody) → HasMove whose ended (tested_move ask b) → FlowsShow whose (handed held step).flows (place_after (tested_move ask b))
        by (Some b) h = record {
          waiting = none_waits;
          running = h.running_is;
          sent = none_behind (is_own_line whose) ended.flows.sent (map line_in ended.lines) h.lines_are ∙ sent_then ∙ at.sent;
          numbered = tt;
        }
        by None h = record {
          waiting = none_waits;
          running = h.running_is;
          sent =
              all_behind (is_own_line whose) ended.flows.sent (map line_in ended.lines) (flow_line ask.name (flow_for ask) ∷ []) (sent_then ∙ at.sent)
              h.lines_are;
          numbered = fit_id;
        }

    tested_so : (ask : NameAsk) → FlowsShow whose flows (waits ask) → IsTested whose flows held step ask
    tested_so ask at =
        let tested = tested_has ask at in
        let body = refusal tested.then held ask.name ask.kind in
        let move = tested_move ask body in
        record {
          then = tested.then;
          up = tested.up;
          master = tested.master;
          over = ended_round.resync;
          makes = record {
            at = tested_numbers ask body at.numbered move refl at tested.has;
            lines = (tested.has).lines_are;
            answers = ordered_few (is_own_told whose) ended.answers (answers_of move) (one_answer move) (tested.has).answers_are;
          };
        }

    some_ends : EndsResync whose flows held step
    some_ends = record { left = left_so; silent = silent_so; tested = tested_so }

  ends_by : (resync : Option Resync) → flows.resync ≡ resync → AreNumbered (waiting_in resync) → EndsResync whose flows held (list_ok_by over held resync)
  ends_by None e fit = none_ends e
  ends_by (Some w) e fit = some_ends w e fit

  list_step_is : (text : List ℕ) → line.what ≡ List_line → heard_step flows held tag (response.Ok text) ≡ list_ok_by over held flows.resync
  unfolding ok_of
  list_step_is text is =
      heard_is flows held tag line lines first same (response.Ok text)
      ∙ step_ok flows held tag line lines first same text
      ∙ ap (λ (what : Sent). ok_of (taken flows) held flows.found line.tag text what) is

  pub list_ends : (text : List ℕ) → line.what ≡ List_line → AreNumbered (waiting_in flows.resync)
      → EndsResync whose flows held (heard_step flows held tag (response.Ok text))
  list_ends text is fit =
      subst (λ (s : FlowStep). EndsResync whose flows held s) (sym (list_step_is text is)) (ends_by flows.resync refl fit)
