-- No step of a backend's talk with the master makes a mailbox one that has moved, or answers so, as long as none has moved and none is looked for. None is
-- looked for in a resync that finds no mailbox there.
use Rattle.std.proofs.Common.{◌≡◌, ℕ, Bool, true, false, ◌||◌, ◌&&◌, not, cond, List, [], ◌∷◌, codes, Option, None, Some, refl, sym, ap, ◌∙◌, subst}
use Rattle.std.specs.Prelude.{All}
use Rattle.std.specs.Option.{IfSome}
use Rattle.std.specs.List.{AllByRecursion, fold}
use Rattle.std.specs.Map.{values_of}
use Rattle.std.specs.BTreeMap.{is_at as has_key}
use Rattle.std.specs.Ordering.{nat_cmp}
use Rattle.std.specs.Cmp.Lexicographic.{slice_cmp}
use Rattle.std.proofs.lemmas.List.Elements.{All-from_recursion, All-nil, All-cons, All-head, All-tail, recursion_from_All}
use Rattle.std.proofs.lemmas.Map.Views.{All-values-insert_entry, All-map-remove_entry, All-values-set_value, IfSome-lookup_from_All}
use Rattle.link_msg.specs.declared.answer.AnswerBody.{AnswerBody}
use Rattle.link_msg.specs.declared.answer.AnswerBody.TheVariants.{NotNow, Lost, Moved, Unreached}
use Rattle.link_msg.specs.declared.outcome.Outcome.TheVariants.{None as nothing, Exists, Limit}
use Rattle.mupdate_codec.specs.declared.command.MResponse.{MResponse}
use Rattle.mupdate_codec.specs.declared.command.MResponse.TheVariants as response
use Rattle.mupdate_codec.specs.declared.tag.Tag.{Tag}
use Rattle.mur_base.specs.Map.{value_at}
use Rattle.mur_base.specs.declared.home.Location.{Location}
use Rattle.mur_base.specs.declared.home.Phase.{Phase}
use Rattle.mur_base.specs.declared.home.Phase.TheVariants.{Creating, Open, Closing, Receiving, Ready, Pointer}
use Rattle.name_flows.specs.declared.ask.AskKind.{AskKind}
use Rattle.name_flows.specs.declared.ask.AskKind.TheVariants.{Create, Delete}
use Rattle.name_flows.specs.declared.ask.NameAsk.{NameAsk}
use Rattle.name_flows.specs.declared.ask.Told.{Told}
use Rattle.name_flows.specs.declared.flow.Flow.{Flow}
use Rattle.name_flows.specs.declared.flow.Stage.{Stage}
use Rattle.name_flows.specs.declared.flow.Stage.TheVariants.{Reserving, Making, Deactivating, Deleting}
use Rattle.name_flows.specs.declared.flows.Flows.{Flows}
use Rattle.name_flows.specs.declared.resync.Resync.{Resync}
use Rattle.name_flows.specs.declared.sent.Sent.{Sent}
use Rattle.name_flows.specs.declared.sent.Sent.TheVariants as sent
use Rattle.name_flows.specs.declared.sent.SentLine.{SentLine}
use Rattle.name_flows.specs.Asked.{asked_by, asked_step, begun_line, create_refusal, delete_refusal, delete_refusal_in, first_line as line_of_kind, refusal, tested_by}
use Rattle.name_flows.specs.Creates.{is_text, make_no, make_ok, reserve_no, reserve_ok, reserve_refused, reserved_by, serial_in}
use Rattle.name_flows.specs.Deletes.{deactivate_ok, delete_ok}
use Rattle.name_flows.specs.Finds.{again_ok, forgotten_if}
use Rattle.name_flows.specs.Heard.{behind_first, first_line, heard_step, is_answer, no_by, no_of, ok_by, ok_of, record_of, response_step, taken, what_in}
use Rattle.name_flows.specs.Lines.{unasked_line}
use Rattle.name_flows.specs.Listed.{Round, after_round, ended_resync, list_ok_by, round, round_by}
use Rattle.name_flows.specs.Listing.{listed_step, noted, noted_in, up_step}
use Rattle.name_flows.specs.Phases.{is_closing, is_creating, is_open, pointer_in, pointer_of}
use Rattle.name_flows.specs.Running.{answers_for, done, ended, flow_at, forget, has_flow, has_stage, is_at}
use Rattle.name_flows.specs.Steps.{FlowStep, given, held_with, silent}
use Rattle.name_flows.proofs.AnswerOrder.{ordered_all}
use Rattle.node_record.specs.Held.{Names, changed_if, forgotten, has_content, held_after, held_at, with_phase}
use Rattle.node_record.specs.declared.backend.BackendRecord.{BackendRecord}
use Rattle.node_record.specs.declared.backend.BackendRecord.TheVariants as entry
use Rattle.node_record.specs.declared.held.Held.{Held}
use Rattle.feed_links.proofs.FeedLaw.{both}

-- ---- what has not moved

abbrev pub IsHere : Phase → Type 0
IsHere (Pointer server) = ⊥
IsHere phase = Unit {0}

abbrev pub IsHeldHere : Held → Type 0
IsHeldHere it = IsHere it.phase

-- no mailbox has moved
abbrev pub AreHere : Names → Type 0
AreHere held = All IsHeldHere (values_of held)

-- the entry moves none
abbrev pub MovesNone : BackendRecord → Type 0
MovesNone (entry.Make name serial acl) = Unit {0}
MovesNone (entry.Opened name) = Unit {0}
MovesNone (entry.Closing name) = Unit {0}
MovesNone (entry.Forget names) = Unit {0}
MovesNone (entry.Added name messages) = Unit {0}
MovesNone (entry.Flagged name rows) = Unit {0}
MovesNone (entry.Gone name uids) = Unit {0}
MovesNone it = ⊥

abbrev pub MovesNoneIf : Option BackendRecord → Type 0
MovesNoneIf None = Unit {0}
MovesNoneIf (Some it) = MovesNone it

found_here : (held : Names) (name : List ℕ) (found : Option Held) → held_at held name ≡ found → AreHere held → IfSome found IsHeldHere
found_here held name found is here =
    subst (λ f. IfSome f IsHeldHere) is (IfSome-lookup_from_All IsHeldHere (has_key (slice_cmp nat_cmp name)) held here)

pub none_points : (held : Names) (name : List ℕ) → AreHere held → pointer_in (held_at held name) ≡ None
none_points held name here = by_found (held_at held name) (found_here held name (held_at held name) refl here)
  where
    by_phase : (phase : Phase) → IsHere phase → pointer_of phase ≡ None
    by_phase (Pointer server) is = absurd is
    by_phase Creating is = refl
    by_phase Open is = refl
    by_phase Closing is = refl
    by_phase Receiving is = refl
    by_phase Ready is = refl

    by_found : (found : Option Held) → IfSome found IsHeldHere → pointer_in found ≡ None
    by_found None is = refl
    by_found (Some it) is = by_phase it.phase is

either_here : (b : Bool) (one other : Held) → IsHeldHere one → IsHeldHere other → IsHeldHere (cond b one other)
either_here true one other a c = a
either_here false one other a c = c

changed_here : (held : Names) (name : List ℕ) (change : Held → Held) (found : Option Held) → held_at held name ≡ found
    → ((it : Held) → IsHeldHere it → IsHeldHere (change it)) → AreHere held → AreHere (changed_if held name change found)
changed_here held name change None is keeps here = here
changed_here held name change (Some it) is keeps here =
    let own : IsHeldHere it = found_here held name (Some it) is here in
    All-values-set_value (has_key (slice_cmp nat_cmp name)) IsHeldHere held (cond (has_content it.phase) (change it) it) here
    (either_here (has_content it.phase) (change it) it (keeps it own) own)

forgotten_here : (names : List (List ℕ)) (held : Names) → AreHere held → AreHere (fold forgotten held names)
forgotten_here [] held here = here
forgotten_here (name ∷ names) held here =
    forgotten_here names (forgotten held name)
    (All-map-remove_entry (has_key (slice_cmp nat_cmp name)) (λ (e : List ℕ × Held). e.1) IsHeldHere held here)

pub after_here : (held : Names) (it : BackendRecord) → MovesNone it → AreHere held → AreHere (held_after held it)
after_here held (entry.Make name serial acl) moves here = All-values-insert_entry (slice_cmp nat_cmp) name _ IsHeldHere held here tt
after_here held (entry.Opened name) moves here = changed_here held name (with_phase Open) (held_at held name) refl (λ it is. tt) here
after_here held (entry.Closing name) moves here = changed_here held name (with_phase Closing) (held_at held name) refl (λ it is. tt) here
after_here held (entry.Forget names) moves here = forgotten_here names held here
after_here held (entry.Added name messages) moves here = changed_here held name _ (held_at held name) refl (λ it is. is) here
after_here held (entry.Flagged name rows) moves here = changed_here held name _ (held_at held name) refl (λ it is. is) here
after_here held (entry.Gone name uids) moves here = changed_here held name _ (held_at held name) refl (λ it is. is) here
after_here held (entry.Begun name giver serial acl) moves here = absurd moves
after_here held (entry.Took name changes) moves here = absurd moves
after_here held (entry.Ready name count) moves here = absurd moves
after_here held (entry.Pointer name server) moves here = absurd moves

-- ---- what is answered and sent

-- the answer tells of no server to which a mailbox has moved, nor that the command is lost
abbrev pub TellsNoServer : AnswerBody → Type 0
TellsNoServer (Moved server) = ⊥
TellsNoServer Lost = ⊥
TellsNoServer body = Unit {0}

abbrev pub IsNotMoved : Told → Type 0
IsNotMoved told = TellsNoServer (told.answer).body

abbrev pub IsNoFind : Sent → Type 0
IsNoFind (sent.Find name) = ⊥
IsNoFind what = Unit {0}

abbrev pub LooksForNone : SentLine → Type 0
LooksForNone line = IsNoFind line.what

one_line : (line : SentLine) → LooksForNone line → All LooksForNone (line ∷ [])
one_line line is = All-cons LooksForNone line [] is (All-nil LooksForNone)

-- in a resync nothing is there, and nothing is under way
abbrev pub ResyncsEmpty : Names → Flows → Type 0
ResyncsEmpty held flows = (it : Resync) → flows.resync ≡ Some it → (held ≡ []) × (flows.running ≡ [])

pub record IsQuietTalk (held : Names) (flows : Flows) : Type 0 where
  pub here : AreHere held
  pub lines : All LooksForNone flows.sent
  pub resyncs : ResyncsEmpty held flows

pub record IsQuietStep (held : Names) (step : FlowStep) : Type 0 where
  pub moves : MovesNoneIf step.entry
  pub sends : All LooksForNone step.sends
  pub kept : All LooksForNone step.flows.sent
  pub resyncs : ResyncsEmpty (held_with held step.entry) step.flows
  pub answers : AllByRecursion IsNotMoved step.answers

either_step : (held : Names) (test : Bool) (one other : FlowStep) → (test ≡ true → IsQuietStep held one) → IsQuietStep held other
    → IsQuietStep held (cond test one other)
either_step held true one other a c = a refl
either_step held false one other a c = c

silent_step : (held : Names) (flows : Flows) → IsQuietTalk held flows → IsQuietStep held (silent flows)
silent_step held flows quiet = record { moves = tt; sends = All-nil LooksForNone; kept = quiet.lines; resyncs = quiet.resyncs; answers = tt }

answers_quiet : (body : AnswerBody) (found : Option Flow) → TellsNoServer body → AllByRecursion IsNotMoved (answers_for body found)
answers_quiet body None is = tt
answers_quiet body (Some flow) is = (is, tt)

-- ---- an ask

abbrev TellsNoServerIf : Option AnswerBody → Type 0
TellsNoServerIf None = Unit {0}
TellsNoServerIf (Some body) = TellsNoServer body

first_quiet : (test : Bool) (body : AnswerBody) (rest : Option AnswerBody) → TellsNoServer body → TellsNoServerIf rest
    → TellsNoServerIf (cond test (Some body) rest)
first_quiet true body rest is more = is
first_quiet false body rest is more = more

delete_quiet : (flows : Flows) (held : Names) (name : List ℕ) (points : Option (List ℕ)) → points ≡ None
    → TellsNoServerIf (delete_refusal_in flows held name points)
unfolding delete_refusal_in
delete_quiet flows held name None e =
    first_quiet (not (is_open (held_at held name)) || has_flow flows name) NotNow _ tt (first_quiet (not flows.up) (Unreached flows.master) None tt tt)
delete_quiet flows held name (Some server) e = cc

refusal_quiet : (flows : Flows) (held : Names) (name : List ℕ) (kind : AskKind) → AreHere held → TellsNoServerIf (refusal flows held name kind)
unfolding create_refusal delete_refusal
refusal_quiet flows held name Create here =
    first_quiet (has_flow flows name) NotNow _ tt (first_quiet (not flows.up) (Unreached flows.master) _ tt
    (first_quiet (is_closing (held_at held name)) NotNow None tt tt))
refusal_quiet flows held name Delete here = delete_quiet flows held name (pointer_in (held_at held name)) (none_points held name here)

kind_line : (kind : AskKind) (name : List ℕ) → IsNoFind (line_of_kind kind name)
kind_line Create name = tt
kind_line Delete name = tt

tested_quiet : (held : Names) (flows : Flows) (ask : NameAsk) (found : Option AnswerBody) → IsQuietTalk held flows → flows.resync ≡ None → TellsNoServerIf found
    → IsQuietStep held (tested_by flows ask found)
tested_quiet held flows ask None quiet none is = record {
  moves = tt;
  sends = one_line (begun_line ask) (kind_line ask.kind ask.name);
  kept = quiet.lines;
  resyncs = λ it e. (let no : None ≡ Some it = sym none ∙ e in cc);
  answers = tt;
}
tested_quiet held flows ask (Some body) quiet none is =
    record { moves = tt; sends = All-nil LooksForNone; kept = quiet.lines; resyncs = quiet.resyncs; answers = (is, tt) }

asked_quiet_by : (held : Names) (flows : Flows) (ask : NameAsk) (resync : Option Resync) → flows.resync ≡ resync → IsQuietTalk held flows
    → IsQuietStep held (asked_by flows held ask resync)
unfolding asked_by
asked_quiet_by held flows ask None is quiet =
    tested_quiet held flows ask (refusal flows held ask.name ask.kind) quiet is (refusal_quiet flows held ask.name ask.kind quiet.here)
asked_quiet_by held flows ask (Some it) is quiet =
    record { moves = tt; sends = All-nil LooksForNone; kept = quiet.lines; resyncs = λ other e. quiet.resyncs it is; answers = tt }

pub asked_quiet : (held : Names) (flows : Flows) (ask : NameAsk) → IsQuietTalk held flows → IsQuietStep held (asked_step flows held ask)
unfolding asked_step
asked_quiet held flows ask quiet = asked_quiet_by held flows ask flows.resync refl quiet

-- ---- the link comes up

pub up_quiet : (held : Names) (flows : Flows) → IsQuietTalk held flows → held ≡ [] → flows.running ≡ [] → IsQuietStep held (up_step flows)
up_quiet held flows quiet none idle =
    record { moves = tt; sends = All-cons LooksForNone _ [] tt (All-nil LooksForNone); kept = quiet.lines; resyncs = λ it e. (none, idle); answers = tt }

-- ---- a response to a line of a flow

module _ (held : Names) (flows : Flows) (quiet : IsQuietTalk held flows) where
  -- a flow is under way, so there is no resync
  no_resync : (name : List ℕ) (stage : Stage) → is_at flows name stage ≡ true → (it : Resync) → flows.resync ≡ Some it → ⊥
  no_resync name stage at it e =
      let none : is_at flows name stage ≡ false =
      ap (λ (r : List (List ℕ × Flow)). has_stage stage (value_at (slice_cmp nat_cmp) r name)) (quiet.resyncs it e).1 in
      let no : true ≡ false = sym at ∙ none in cc

  -- a mailbox is there, so there is none either
  some_there : (test : Option Held → Bool) (name : List ℕ) → test None ≡ false → test (held_at held name) ≡ true → (it : Resync) → flows.resync ≡ Some it → ⊥
  some_there test name no_test at it e =
      let none : test (held_at held name) ≡ false = ap (λ (h : Names). test (held_at h name)) (quiet.resyncs it e).0 ∙ no_test in
      let no : true ≡ false = sym at ∙ none in cc

  finished_quiet : (name : List ℕ) (stage : Stage) (body : AnswerBody) (change : Option BackendRecord) (more : List SentLine) → is_at flows name stage ≡ true
      → MovesNoneIf change → All LooksForNone more → TellsNoServer body
      → IsQuietStep held (record { flows = ended flows name; entry = change; sends = more; answers = answers_for body (flow_at flows name) })
  finished_quiet name stage body change more at moves sends is = record {
    moves = moves;
    sends = sends;
    kept = quiet.lines;
    resyncs = λ it e. absurd (no_resync name stage at it e);
    answers = answers_quiet body (flow_at flows name) is;
  }

  reserved_quiet : (tag : Tag) (name : List ℕ) (serial : Option ℕ) → is_at flows name Reserving ≡ true → IsQuietStep held (reserved_by flows tag name serial)
  reserved_quiet tag name None at = finished_quiet name Reserving NotNow None [] at tt (All-nil LooksForNone) tt
  reserved_quiet tag name (Some serial) at = record {
    moves = tt;
    sends = All-cons LooksForNone _ [] tt (All-nil LooksForNone);
    kept = quiet.lines;
    resyncs = λ it e. absurd (no_resync name Reserving at it e);
    answers = tt;
  }

  reserve_quiet : (tag : Tag) (name text : List ℕ) → IsQuietStep held (reserve_ok flows tag name text)
  unfolding reserve_ok
  reserve_quiet tag name text = either_step held (is_at flows name Reserving) _ _ (reserved_quiet tag name (serial_in text)) (silent_step held flows quiet)

  refused_body : (text : List ℕ) → TellsNoServer (reserve_refused text)
  unfolding reserve_refused
  refused_body text = by_test (is_text text (codes "1 exists"))
    where
      by_test : (a : Bool) → TellsNoServer (cond a (done Exists) NotNow)
      by_test true = tt
      by_test false = tt

  reserve_no_quiet : (name text : List ℕ) → IsQuietStep held (reserve_no flows name text)
  unfolding reserve_no
  reserve_no_quiet name text = either_step held (is_at flows name Reserving) _ _
      (λ at. finished_quiet name Reserving (reserve_refused text) None [] at tt (All-nil LooksForNone) (refused_body text)) (silent_step held flows quiet)

  make_quiet : (name : List ℕ) → IsQuietStep held (make_ok flows name)
  unfolding make_ok
  make_quiet name = either_step held (is_at flows name Making) _ _
      (λ at. finished_quiet name Making (done nothing) (Some (entry.Opened name)) [] at tt (All-nil LooksForNone) tt) (silent_step held flows quiet)

  make_no_quiet : (name : List ℕ) → IsQuietStep held (make_no flows name)
  unfolding make_no
  make_no_quiet name = either_step held (is_at flows name Making) _ _
      (λ at. finished_quiet name Making (done Limit) (Some (forget name)) _ at tt (one_line (unasked_line (sent.Wipe name)) tt) tt)
      (silent_step held flows quiet)

  deactivate_quiet : (tag : Tag) (name : List ℕ) → IsQuietStep held (deactivate_ok flows tag name)
  unfolding deactivate_ok
  deactivate_quiet tag name = either_step held (is_at flows name Deactivating) _ _
      (λ at. record {
        moves = tt;
        sends = All-cons LooksForNone _ [] tt (All-nil LooksForNone);
        kept = quiet.lines;
        resyncs = λ it e. absurd (no_resync name Deactivating at it e);
        answers = tt;
      })
      (silent_step held flows quiet)

  delete_ok_quiet : (name : List ℕ) → IsQuietStep held (delete_ok flows name)
  unfolding delete_ok
  delete_ok_quiet name = either_step held (is_at flows name Deleting) _ _
      (λ at. finished_quiet name Deleting (done nothing) (Some (forget name)) [] at tt (All-nil LooksForNone) tt) (silent_step held flows quiet)

  -- ---- to a line that no client waits for

  both_true : (a b : Bool) → (a && b) ≡ true → a ≡ true
  both_true true b e = refl
  both_true false b e = cc

  again_quiet : (name : List ℕ) → IsQuietStep held (again_ok flows held name)
  again_quiet name = either_step held (is_closing (held_at held name) && not (has_flow flows name)) _ _
      (λ at. record {
        moves = tt;
        sends = All-nil LooksForNone;
        kept = quiet.lines;
        resyncs = λ it e. absurd (some_there is_closing name refl (both_true (is_closing (held_at held name)) (not (has_flow flows name)) at) it e);
        answers = tt;
      })
      (silent_step held flows quiet)

  forgotten_quiet : (name : List ℕ) (test : Bool) → (test ≡ true → (it : Resync) → flows.resync ≡ Some it → ⊥)
      → IsQuietStep held (given flows (forgotten_if test name))
  forgotten_quiet name true none = record {
    moves = tt;
    sends = All-nil LooksForNone;
    kept = quiet.lines;
    resyncs = λ it e. absurd (none refl it e);
    answers = tt;
  }
  forgotten_quiet name false none = silent_step held flows quiet

  -- ---- a resync

  noted_resync : (name : List ℕ) (resync : Option Resync) (it : Resync) → noted_in resync name ≡ Some it → (was : Resync) × (resync ≡ Some was)
  noted_resync name None it e = cc
  noted_resync name (Some was) it e = (was, refl)

  noted_empty : (name : List ℕ) → ResyncsEmpty held (noted flows name)
  noted_empty name it e = let was = noted_resync name flows.resync it e in quiet.resyncs was.0 was.1

  active_quiet : (name : List ℕ) (test : Bool) → (test ≡ true → (it : Resync) → flows.resync ≡ Some it → ⊥) → IsQuietStep held (given (noted flows name)
      (cond test (record { entry = Some (entry.Opened name); sends = []; answers = [] }) (record { entry = None; sends = []; answers = [] })))
  active_quiet name true none = record {
    moves = tt;
    sends = All-nil LooksForNone;
    kept = quiet.lines;
    resyncs = λ it e. (let was = noted_resync name flows.resync it e in absurd (none refl was.0 was.1));
    answers = tt;
  }
  active_quiet name false none =
      record { moves = tt; sends = All-nil LooksForNone; kept = quiet.lines; resyncs = noted_empty name; answers = tt }

  one_true : (a b : Bool) → (a || b) ≡ true → (a ≡ true → ⊥) → b ≡ true
  one_true true b e none = absurd (none refl)
  one_true false b e none = e

  again_or_wipe : (test : Bool) (name : List ℕ) → IsNoFind (cond test (sent.Again name) (sent.Wipe name))
  again_or_wipe true name = tt
  again_or_wipe false name = tt

  listed_quiet : (name : List ℕ) (is_active : Bool) → IsQuietStep held (listed_step flows held name is_active)
  listed_quiet name true = active_quiet name (is_creating (held_at held name) || is_closing (held_at held name))
      (λ at it e. some_there is_closing name refl
      (one_true (is_creating (held_at held name)) (is_closing (held_at held name)) at (λ made. some_there is_creating name refl made it e)) it e)
  listed_quiet name false = record {
    moves = tt;
    sends = All-cons LooksForNone _ [] (again_or_wipe (is_open (held_at held name) || is_closing (held_at held name)) name) (All-nil LooksForNone);
    kept = quiet.lines;
    resyncs = noted_empty name;
    answers = tt;
  }

-- the end of a resync that finds no mailbox here

record IsQuietRound (it : Round) : Type 0 where
  kept : All LooksForNone it.flows.sent
  over : it.flows.resync ≡ None
  lines : All LooksForNone (values_of it.lines)
  answers : AllByRecursion IsNotMoved it.answers

round_quiet_by : (it : Round) (ask : NameAsk) (found : Option AnswerBody) → TellsNoServerIf found → IsQuietRound it → IsQuietRound (round_by it ask found)
round_quiet_by it ask (Some body) is quiet =
    record { kept = quiet.kept; over = quiet.over; lines = quiet.lines; answers = both IsNotMoved it.answers _ quiet.answers (is, tt) }
round_quiet_by it ask None is quiet = record {
  kept = quiet.kept;
  over = quiet.over;
  lines = All-values-insert_entry (slice_cmp nat_cmp) ask.name (begun_line ask) LooksForNone it.lines quiet.lines (kind_line ask.kind ask.name);
  answers = quiet.answers;
}

none_here : AreHere []
none_here = All-nil IsHeldHere

rounds_quiet : (it : Round) (waiting : List NameAsk) → IsQuietRound it → IsQuietRound (fold (round []) it waiting)
rounds_quiet it [] quiet = quiet
rounds_quiet it (ask ∷ waiting) quiet =
    rounds_quiet (round [] it ask) waiting
    (round_quiet_by it ask (refusal it.flows [] ask.name ask.kind) (refusal_quiet it.flows [] ask.name ask.kind none_here) quiet)

after_quiet : (it : Round) → IsQuietRound it → IsQuietStep [] (after_round None it)
after_quiet it quiet = record {
  moves = tt;
  sends = quiet.lines;
  kept = quiet.kept;
  resyncs = λ other e. (let no : None ≡ Some other = sym quiet.over ∙ e in cc);
  answers = recursion_from_All IsNotMoved _ (ordered_all IsNotMoved it.answers (All-from_recursion IsNotMoved it.answers quiet.answers));
}

ended_quiet : (flows : Flows) (it : Resync) → All LooksForNone flows.sent → flows.resync ≡ None → IsQuietStep [] (ended_resync flows [] it)
ended_quiet flows it lines none =
    after_quiet (fold (round []) (record { flows = flows; lines = []; answers = [] }) it.waiting)
    (rounds_quiet (record { flows = flows; lines = []; answers = [] }) it.waiting
    (record { kept = lines; over = none; lines = All-nil LooksForNone; answers = tt }))

list_quiet : (held : Names) (flows : Flows) (resync : Option Resync) → flows.resync ≡ resync → IsQuietTalk held flows
    → IsQuietStep held (list_ok_by (record flows { resync = None }) held resync)
list_quiet held flows None is quiet =
    record { moves = tt; sends = All-nil LooksForNone; kept = quiet.lines; resyncs = λ it e. cc; answers = tt }
list_quiet held flows (Some it) is quiet =
    subst (λ h. IsQuietStep h (ended_resync (record flows { resync = None }) h it)) (sym (quiet.resyncs it is).0)
    (ended_quiet (record flows { resync = None }) it quiet.lines refl)

-- ---- a response

module _ (held : Names) (flows : Flows) (quiet : IsQuietTalk held flows) where
  ok_of_quiet : (found : Bool) (tag : Tag) (text : List ℕ) (what : Sent) → IsNoFind what → IsQuietStep held (ok_of flows held found tag text what)
  unfolding ok_of
  ok_of_quiet found tag text sent.List is = list_quiet held flows flows.resync refl quiet
  ok_of_quiet found tag text (sent.Reserve name) is = reserve_quiet held flows quiet tag name text
  ok_of_quiet found tag text (sent.Make name) is = make_quiet held flows quiet name
  ok_of_quiet found tag text (sent.Again name) is = again_quiet held flows quiet name
  ok_of_quiet found tag text (sent.Deactivate name) is = deactivate_quiet held flows quiet tag name
  ok_of_quiet found tag text (sent.Delete name) is = delete_ok_quiet held flows quiet name
  ok_of_quiet found tag text (sent.Wipe name) is =
      forgotten_quiet held flows quiet name (is_creating (held_at held name)) (λ at it e. some_there held flows quiet is_creating name refl at it e)
  ok_of_quiet found tag text (sent.Find name) is = absurd is

  no_of_quiet : (text : List ℕ) (what : Sent) → IsQuietStep held (no_of flows text what)
  unfolding no_of
  no_of_quiet text (sent.Reserve name) = reserve_no_quiet held flows quiet name text
  no_of_quiet text (sent.Make name) = make_no_quiet held flows quiet name
  no_of_quiet text sent.List = silent_step held flows quiet
  no_of_quiet text (sent.Again name) = silent_step held flows quiet
  no_of_quiet text (sent.Deactivate name) = silent_step held flows quiet
  no_of_quiet text (sent.Delete name) = silent_step held flows quiet
  no_of_quiet text (sent.Wipe name) = silent_step held flows quiet
  no_of_quiet text (sent.Find name) = silent_step held flows quiet

  record_quiet : (name : List ℕ) (place : Location) (is_active : Bool) (what : Sent) → IsNoFind what
      → IsQuietStep held (record_of flows held name place is_active (Some what))
  record_quiet name place is_active sent.List is = listed_quiet held flows quiet name is_active
  record_quiet name place is_active (sent.Reserve other) is = silent_step held flows quiet
  record_quiet name place is_active (sent.Make other) is = silent_step held flows quiet
  record_quiet name place is_active (sent.Again other) is = silent_step held flows quiet
  record_quiet name place is_active (sent.Deactivate other) is = silent_step held flows quiet
  record_quiet name place is_active (sent.Delete other) is = silent_step held flows quiet
  record_quiet name place is_active (sent.Wipe other) is = silent_step held flows quiet
  record_quiet name place is_active (sent.Find other) is = absurd is

  record_by : (name : List ℕ) (place : Location) (is_active : Bool) (lines : List SentLine) → All LooksForNone lines
      → IsQuietStep held (record_of flows held name place is_active (what_in (first_line lines)))
  record_by name place is_active [] all = silent_step held flows quiet
  record_by name place is_active (line ∷ lines) all = record_quiet name place is_active line.what (All-head LooksForNone line lines all)

first_of_quiet : (lines : List SentLine) → All LooksForNone lines → IfSome (first_line lines) LooksForNone
first_of_quiet [] all = tt
first_of_quiet (line ∷ lines) all = All-head LooksForNone line lines all

behind_quiet : (lines : List SentLine) → All LooksForNone lines → All LooksForNone (behind_first lines)
behind_quiet [] all = all
behind_quiet (line ∷ lines) all = All-tail LooksForNone line lines all

taken_quiet : (held : Names) (flows : Flows) → IsQuietTalk held flows → IsQuietTalk held (taken flows)
taken_quiet held flows quiet = record { here = quiet.here; lines = behind_quiet flows.sent quiet.lines; resyncs = quiet.resyncs }

module _ (held : Names) (flows : Flows) (quiet : IsQuietTalk held flows) where
  ok_quiet : (found : Bool) (text : List ℕ) (line : Option SentLine) → IfSome line LooksForNone → IsQuietStep held (ok_by flows held found text line)
  ok_quiet found text None is = silent_step held flows quiet
  ok_quiet found text (Some line) is = ok_of_quiet held flows quiet found line.tag text line.what is

  no_quiet : (text : List ℕ) (line : Option SentLine) → IsQuietStep held (no_by flows text line)
  no_quiet text None = silent_step held flows quiet
  no_quiet text (Some line) = no_of_quiet held flows quiet text line.what

module _ (held : Names) (flows : Flows) (quiet : IsQuietTalk held flows) where
  response_quiet : (it : MResponse) → IsQuietStep held (response_step flows held it)
  response_quiet (response.Mailbox name place acl) = record_by held flows quiet name place true flows.sent quiet.lines
  response_quiet (response.Reserve name place) = record_by held flows quiet name place false flows.sent quiet.lines
  response_quiet (response.Delete name) = silent_step held flows quiet
  response_quiet (response.Ok text) =
      ok_quiet held (taken flows) (taken_quiet held flows quiet) flows.found text (first_line flows.sent) (first_of_quiet flows.sent quiet.lines)
  response_quiet (response.No text) = no_quiet held (taken flows) (taken_quiet held flows quiet) text (first_line flows.sent)
  response_quiet (response.Bad text) = no_quiet held (taken flows) (taken_quiet held flows quiet) text (first_line flows.sent)

  pub heard_quiet : (tag : Tag) (it : MResponse) → IsQuietStep held (heard_step flows held tag it)
  unfolding heard_step
  heard_quiet tag it = either_step held (is_answer flows.sent tag) _ _ (λ at. response_quiet it) (silent_step held flows quiet)
