-- What the entry of a step makes of the mailbox of each name, and which lines that activate a name a step sends.
use Rattle.std.proofs.Common.{◌≡◌, ◌≢◌, ◌⊎◌, inl, inr, ℕ, Bool, true, false, ◌&&◌, ◌||◌, not, cond, filter, List, [], ◌∷◌, map, Option, None, Some, refl, sym, ap, subst, ◌∙◌}
use Rattle.std.specs.List.{fold, AllByRecursion}
use Rattle.std.specs.Ordering.{nat_cmp}
use Rattle.std.specs.Cmp.Lexicographic.{slice_cmp}
use Rattle.mur_base.specs.Map.{value_at, with_value, IsInOrder}
use Rattle.mur_base.proofs.MapLaws.{names_apart, same_or_other, value_at-with_value, value_at-with_entry, value_at-with_entry-other}
use Rattle.mur_base.specs.declared.home.Location.{Location}
use Rattle.mur_base.specs.declared.home.Phase.{Phase}
use Rattle.mur_base.specs.declared.home.Phase.TheVariants.{Open, Closing}
use Rattle.link_msg.specs.declared.answer.AnswerBody.{AnswerBody}
use Rattle.mupdate_codec.specs.declared.command.MResponse.{MResponse}
use Rattle.mupdate_codec.specs.declared.command.MResponse.TheVariants as response
use Rattle.mupdate_codec.specs.declared.tag.Tag.{Tag}
use Rattle.node_record.specs.declared.held.Held.{Held}
use Rattle.node_record.specs.declared.backend.BackendRecord.{BackendRecord}
use Rattle.node_record.specs.declared.backend.BackendRecord.TheVariants as entry
use Rattle.node_record.specs.Held.{Names, held_at, with_phase, has_content, pointer, changed_if, changed}
use Rattle.home_law.specs.ManyNames.{Mailbox}
use Rattle.name_flows.specs.declared.ask.AskKind.{AskKind}
use Rattle.name_flows.specs.declared.ask.AskKind.TheVariants.{Create, Delete as Remove}
use Rattle.name_flows.specs.declared.ask.NameAsk.{NameAsk}
use Rattle.name_flows.specs.declared.flow.Flow.{Flow}
use Rattle.name_flows.specs.declared.flow.Stage.TheVariants.{Reserving, Making, Deactivating, Deleting}
use Rattle.name_flows.specs.declared.flows.Flows.{Flows}
use Rattle.name_flows.specs.declared.resync.Resync.{Resync}
use Rattle.name_flows.specs.declared.sent.Sent.{Sent}
use Rattle.name_flows.specs.declared.sent.Sent.TheVariants.{List as List_line, Reserve, Make, Again, Deactivate, Delete, Wipe, Find}
use Rattle.name_flows.specs.declared.sent.SentLine.{SentLine}
use Rattle.name_flows.specs.Asked.{first_line as line_of_kind, first_stage, flow_for, begun_flow, begun_line, refusal, tested_by, asked_by, asked_step}
use Rattle.name_flows.specs.Creates.{serial_in, makes as made_step, reserved_by, reserve_ok, reserve_no, make_ok, make_no}
use Rattle.name_flows.specs.Deletes.{deactivate_ok, delete_ok}
use Rattle.name_flows.specs.Finds.{forgotten_if}
use Rattle.name_flows.specs.Heard.{is_same_tag, taken, ok_of, no_of, record_of, heard_step}
use Rattle.name_flows.specs.Lines.{unasked_line}
use Rattle.name_flows.specs.Listed.{LinesByName, is_unmade, is_lost, name_in, forget_all, line_in, Round, round_by, round, list_ok_by}
use Rattle.name_flows.specs.Listing.{noted, listed_step}
use Rattle.name_flows.specs.Phases.{is_creating_phase, is_creating, is_open, is_closing}
use Rattle.name_flows.specs.Running.{is_same_stage, flow_at, has_flow, has_stage, is_at, staged, goes_on, ended}
use Rattle.name_flows.specs.Steps.{FlowStep, given, silent, changing, held_with}
use Rattle.name_flows.proofs.OneStep.{flow_ended, flow_ended-other, flow_goes_on, flow_goes_on-other, held_brought, held_brought-other, held_placed, held_placed-other}
use Rattle.name_links.proofs.LinesByName.{Each, each_put, is_in, gone as gone_of}
use Rattle.name_links.proofs.ResyncEnd.{finds_each}
use Rattle.name_links.proofs.Sends.{step_by, heard_is}

-- ---- entries

-- what a name has behind an entry that makes no mailbox
pub data Becomes (old new : Option Held) : Type 0 where
  same : new ≡ old → Becomes old new
  brought : (it : Held) (p : Phase) → old ≡ Some it → has_content it.phase ≡ true → is_creating_phase p ≡ false → new ≡ Some (with_phase p it) → Becomes old new
  gone : new ≡ None → Becomes old new
  moved : (server : List ℕ) → new ≡ Some (pointer server) → Becomes old new

-- the entry makes no mailbox, and changes no content
abbrev pub MakesNone : Option BackendRecord → Type 0
MakesNone None = Unit {0}
MakesNone (Some (entry.Opened name)) = Unit {0}
MakesNone (Some (entry.Closing name)) = Unit {0}
MakesNone (Some (entry.Pointer name server)) = Unit {0}
MakesNone (Some (entry.Forget names)) = Unit {0}
MakesNone (Some e) = ⊥

module _ (held : Names) (order : IsInOrder (slice_cmp nat_cmp) held) (n : Mailbox) where
  phase_given : (m : Mailbox) (p : Phase) → is_creating_phase p ≡ false → Becomes (held_at held n) (held_at (changed held m (with_phase p)) n)
  phase_given m p e = by_name (same_or_other (slice_cmp nat_cmp) names_apart n m)
    where
      own : (h : Option Held) → held_at held m ≡ h → Becomes (held_at held m) (held_at (changed held m (with_phase p)) m)
      own None there = same (ap (λ (h : Option Held). held_at (changed_if held m (with_phase p) h) m) there)
      own (Some it) there = by_content (has_content it.phase) refl
        where
          by_content : (t : Bool) → has_content it.phase ≡ t → Becomes (held_at held m) (held_at (changed held m (with_phase p)) m)
          by_content true f = brought it p there f e (held_brought held m p it there f)
          by_content false f =
              same (ap (λ (h : Option Held). held_at (changed_if held m (with_phase p) h) m) there
              ∙ ap (λ (t : Bool). held_at (with_value (slice_cmp nat_cmp) held m (cond t (with_phase p it) it)) m) f
              ∙ value_at-with_value (slice_cmp nat_cmp) names_apart held m it it there ∙ sym there)

      by_name : (n ≡ m) ⊎ (n ≢ m) → Becomes (held_at held n) (held_at (changed held m (with_phase p)) n)
      by_name (inl e) = subst (λ (k : Mailbox). Becomes (held_at held k) (held_at (changed held m (with_phase p)) k)) (sym e) (own (held_at held m) refl)
      by_name (inr ne) = same (held_brought-other held m n p ne)

  pub becomes : (e : Option BackendRecord) → MakesNone e → Becomes (held_at held n) (held_at (held_with held e) n)
  becomes None k = same refl
  becomes (Some (entry.Opened m)) k = phase_given m Open refl
  becomes (Some (entry.Closing m)) k = phase_given m Closing refl
  becomes (Some (entry.Pointer m server)) k = by_name (same_or_other (slice_cmp nat_cmp) names_apart n m)
    where
      by_name : (n ≡ m) ⊎ (n ≢ m) → Becomes (held_at held n) (held_at (held_with held (Some (entry.Pointer m server))) n)
      by_name (inl e) = moved server (ap (λ (k : Mailbox). held_at (held_with held (Some (entry.Pointer m server))) k) e ∙ held_placed held m (pointer server))
      by_name (inr ne) = same (held_placed-other held m n (pointer server) ne)
  becomes (Some (entry.Forget names)) k = by_test (is_in n names) refl
    where
      by_test : (t : Bool) → is_in n names ≡ t → Becomes (held_at held n) (held_at (held_with held (Some (entry.Forget names))) n)
      by_test true e = gone (gone_of n names held order ∙ rw e refl)
      by_test false e = same (gone_of n names held order ∙ rw e refl)
  becomes (Some e) k = absurd k

-- ---- lines

-- The line activates no name, or it is a resync's: the name is open or closed here, and the step changes no mailbox.
abbrev pub SendFits : Names → Option BackendRecord → Sent → Type 0
SendFits held e (Make m) = ⊥
SendFits held e (Again m) = (e ≡ None) × (is_open (held_at held m) || is_closing (held_at held m) ≡ true)
SendFits held e what = Unit {0}

abbrev pub SendsFit : Names → FlowStep → Type 0
SendsFit held step = AllByRecursion (λ line. SendFits held step.entry line.what) step.sends

-- ---- flows

-- no more flows wait for the answer to a CREATE's ACTIVATE
abbrev pub NoneMore : List (Mailbox × Flow) → List (Mailbox × Flow) → Type 0
NoneMore old new = (n : Mailbox) → has_stage Making (value_at (slice_cmp nat_cmp) new n) ≡ true → has_stage Making (value_at (slice_cmp nat_cmp) old n) ≡ true

not_made : (n : Mailbox) (old new : List (Mailbox × Flow)) (h : Option Flow) → value_at (slice_cmp nat_cmp) new n ≡ h → has_stage Making h ≡ false
    → has_stage Making (value_at (slice_cmp nat_cmp) new n) ≡ true → has_stage Making (value_at (slice_cmp nat_cmp) old n) ≡ true
not_made n old new h there none e = let t : has_stage Making h ≡ true = subst (λ (o : Option Flow). has_stage Making o ≡ true) there e in cc

as_before : (n : Mailbox) (old new : List (Mailbox × Flow)) → value_at (slice_cmp nat_cmp) new n ≡ value_at (slice_cmp nat_cmp) old n
    → has_stage Making (value_at (slice_cmp nat_cmp) new n) ≡ true → has_stage Making (value_at (slice_cmp nat_cmp) old n) ≡ true
as_before n old new there e = subst (λ (o : Option Flow). has_stage Making o ≡ true) there e

-- of one name alone
one_less : (m : Mailbox) (old new : List (Mailbox × Flow)) (h : Option Flow) → value_at (slice_cmp nat_cmp) new m ≡ h → has_stage Making h ≡ false
    → ((n : Mailbox) → n ≢ m → value_at (slice_cmp nat_cmp) new n ≡ value_at (slice_cmp nat_cmp) old n) → NoneMore old new
one_less m old new h there none others n e = by_name (same_or_other (slice_cmp nat_cmp) names_apart n m)
  where
    by_name : (n ≡ m) ⊎ (n ≢ m) → has_stage Making (value_at (slice_cmp nat_cmp) old n) ≡ true
    by_name (inl own) = not_made n old new h (subst (λ (k : Mailbox). value_at (slice_cmp nat_cmp) new k ≡ h) (sym own) there) none e
    by_name (inr ne) = as_before n old new (others n ne) e

none_ended : (f : Flows) (m : Mailbox) → IsInOrder (slice_cmp nat_cmp) f.running → NoneMore f.running (ended f m).running
none_ended f m order = one_less m f.running (ended f m).running None (flow_ended f m order) refl (λ n ne. flow_ended-other f m n (λ e. ne (sym e)) order)

none_deleting : (f : Flows) (m : Mailbox) → NoneMore f.running (goes_on f m Deleting).running
none_deleting f m = by_flow (flow_at f m) refl
  where
    by_flow : (h : Option Flow) → flow_at f m ≡ h → NoneMore f.running (goes_on f m Deleting).running
    by_flow None there = λ n e. subst (λ (h : Option Flow). has_stage Making (value_at (slice_cmp nat_cmp) (staged f.running m Deleting h) n) ≡ true) there e
    by_flow (Some flow) there =
        one_less m f.running (goes_on f m Deleting).running (Some (record flow { stage = Deleting })) (flow_goes_on f m Deleting flow there) refl
        (λ n ne. flow_goes_on-other f m n Deleting ne)

kind_begun : (ask : NameAsk) (k : AskKind) → is_same_stage (first_stage k) Making ≡ false
kind_begun ask Create = refl
kind_begun ask Remove = refl

none_begun : (f : Flows) (ask : NameAsk) → NoneMore f.running (begun_flow f ask).running
none_begun f ask =
    one_less ask.name f.running (begun_flow f ask).running (Some (flow_for ask)) (value_at-with_entry (slice_cmp nat_cmp) names_apart f.running ask.name (flow_for ask)) (kind_begun ask ask.kind)
    (λ n ne. value_at-with_entry-other (slice_cmp nat_cmp) names_apart f.running ask.name n (flow_for ask) ne)

-- no mailbox is made, and no more flows wait for ACTIVATE's answer
pub record IsPlain (running : List (Mailbox × Flow)) (held : Names) (step : FlowStep) : Type 0 where
  pub entry_is : MakesNone step.entry
  pub sends_are : SendsFit held step
  pub flows_are : NoneMore running step.flows.running

-- RESERVE's OK comes to the CREATE: the mailbox is made, and ACTIVATE sent
pub record Makes (flows : Flows) (line : SentLine) (it : MResponse) (step : FlowStep) : Type 0 where
  pub name : Mailbox
  pub serial : ℕ
  pub text : List ℕ
  pub what : line.what ≡ Reserve name
  pub ok : it ≡ response.Ok text
  pub told : serial_in text ≡ Some serial
  pub at : is_at flows name Reserving ≡ true
  pub step_is : step ≡ made_step (taken flows) line.tag name serial

plain_silent : (held : Names) (f : Flows) → IsPlain f.running held (silent f)
plain_silent held f = record { entry_is = tt; sends_are = tt; flows_are = λ n e. e }

plain_if : (held : Names) (f : Flows) (b : Bool) (step : FlowStep) → IsPlain f.running held step → IsPlain f.running held (cond b step (silent f))
plain_if held f true step k = k
plain_if held f false step k = plain_silent held f

plain_forgets : (held : Names) (f : Flows) (b : Bool) (name : List ℕ) → IsPlain f.running held (given f (forgotten_if b name))
plain_forgets held f true name = record { entry_is = tt; sends_are = tt; flows_are = λ n e. e }
plain_forgets held f false name = record { entry_is = tt; sends_are = tt; flows_are = λ n e. e }

-- ---- the end of a resync

forgets_none : (names : List Mailbox) → MakesNone (forget_all names)
forgets_none [] = tt
forgets_none (name ∷ names) = tt

abbrev IsQuiet : Sent → Type 0
IsQuiet (Make m) = ⊥
IsQuiet (Again m) = ⊥
IsQuiet what = Unit {0}

abbrev QuietIn : List ℕ × SentLine → Type 0
QuietIn e = IsQuiet (e.1).what

kind_quiet : (k : AskKind) (name : Mailbox) → IsQuiet (line_of_kind k name)
kind_quiet Create name = tt
kind_quiet Remove name = tt

rounds_quiet : (held : Names) (asks : List NameAsk) (it : Round) → Each QuietIn it.lines → Each QuietIn (fold (round held) it asks).lines
rounds_quiet held [] it all = all
rounds_quiet held (ask ∷ asks) it all = rounds_quiet held asks (round held it ask) (by_body (refusal it.flows held ask.name ask.kind))
  where
    by_body : (body : Option AnswerBody) → Each QuietIn (round_by it ask body).lines
    by_body (Some body) = all
    by_body None = each_put ask.name (begun_line ask) QuietIn (kind_quiet ask.kind ask.name) it.lines all

quiet_fits : (held : Names) (e : Option BackendRecord) (what : Sent) → IsQuiet what → SendFits held e what
quiet_fits held e (Make m) q = absurd q
quiet_fits held e (Again m) q = absurd q
quiet_fits held e List_line q = tt
quiet_fits held e (Reserve m) q = tt
quiet_fits held e (Deactivate m) q = tt
quiet_fits held e (Delete m) q = tt
quiet_fits held e (Wipe m) q = tt
quiet_fits held e (Find m) q = tt

lines_fit : (held : Names) (e : Option BackendRecord) (lines : LinesByName) → Each QuietIn lines → AllByRecursion (λ line. SendFits held e line.what) (map line_in lines)
lines_fit held e [] all = tt
lines_fit held e (first ∷ lines) all = (quiet_fits held e (first.1).what all.0, lines_fit held e lines all.1)

rounds_none : (held : Names) (asks : List NameAsk) (it : Round) → NoneMore it.flows.running (fold (round held) it asks).flows.running
rounds_none held [] it = λ n e. e
rounds_none held (ask ∷ asks) it = λ n e. by_body (refusal it.flows held ask.name ask.kind) n (rounds_none held asks (round held it ask) n e)
  where
    by_body : (body : Option AnswerBody) → NoneMore it.flows.running (round_by it ask body).flows.running
    by_body (Some body) = λ n e. e
    by_body None = none_begun it.flows ask

plain_ended : (held : Names) (f : Flows) (r : Option Resync) → IsPlain f.running held (list_ok_by f held r)
plain_ended held f None = plain_silent held f
plain_ended held f (Some w) = record {
  entry_is = forgets_none (map name_in (filter (is_unmade w.listed) held));
  sends_are = lines_fit held _ _ (rounds_quiet held w.waiting _ (finds_each QuietIn (λ e. tt) (filter (is_lost w.listed) held) [] tt));
  flows_are = rounds_none held w.waiting _;
}

-- ---- a response

module _ (flows : Flows) (held : Names) (tag : Tag) (line : SentLine) (lines : List SentLine) (e : flows.sent ≡ line ∷ lines) (same_tag : is_same_tag line.tag tag ≡ true)
    (order : IsInOrder (slice_cmp nat_cmp) flows.running) where
  abbrev Is : MResponse → FlowStep → Type 0
  Is it step = IsPlain flows.running held step ⊎ Makes flows line it step

  reserve_is : (text : List ℕ) (name : Mailbox) → line.what ≡ Reserve name → Is (response.Ok text) (reserve_ok (taken flows) line.tag name text)
  unfolding reserve_ok
  reserve_is text name what = by_flow (is_at flows name Reserving) refl
    where
      by_serial : (s : Option ℕ) → serial_in text ≡ s → is_at flows name Reserving ≡ true → Is (response.Ok text) (reserved_by (taken flows) line.tag name s)
      by_serial None told at = inl (record { entry_is = tt; sends_are = tt; flows_are = none_ended (taken flows) name order })
      by_serial (Some serial) told at = inr (record { name = name; serial = serial; text = text; what = what; ok = refl; told = told; at = at; step_is = refl })

      by_flow : (t : Bool) → is_at flows name Reserving ≡ t → Is (response.Ok text) (cond t (reserved_by (taken flows) line.tag name (serial_in text)) (silent (taken flows)))
      by_flow true at = by_serial (serial_in text) refl at
      by_flow false at = inl (plain_silent held (taken flows))

  ok_is : (text : List ℕ) (what : Sent) → line.what ≡ what → Is (response.Ok text) (ok_of (taken flows) held flows.found line.tag text what)
  unfolding ok_of make_ok deactivate_ok delete_ok
  ok_is text List_line w = inl (plain_ended held (record (taken flows) { resync = None }) flows.resync)
  ok_is text (Reserve name) w = reserve_is text name w
  ok_is text (Make name) w = inl (plain_if held (taken flows) (is_at flows name Making) _ (record { entry_is = tt; sends_are = tt; flows_are = none_ended (taken flows) name order }))
  ok_is text (Again name) w = inl (plain_if held (taken flows) (is_closing (held_at held name) && not (has_flow flows name)) _ (record { entry_is = tt; sends_are = tt; flows_are = λ n e. e }))
  ok_is text (Deactivate name) w = inl (plain_if held (taken flows) (is_at flows name Deactivating) _ (record { entry_is = tt; sends_are = (tt, tt); flows_are = none_deleting (taken flows) name }))
  ok_is text (Delete name) w = inl (plain_if held (taken flows) (is_at flows name Deleting) _ (record { entry_is = tt; sends_are = tt; flows_are = none_ended (taken flows) name order }))
  ok_is text (Wipe name) w = inl (plain_forgets held (taken flows) (is_creating (held_at held name)) name)
  ok_is text (Find name) w = inl (plain_forgets held (taken flows) (not flows.found && is_closing (held_at held name)) name)

  no_is : (text : List ℕ) (what : Sent) → IsPlain flows.running held (no_of (taken flows) text what)
  unfolding no_of reserve_no make_no
  no_is text (Reserve name) = plain_if held (taken flows) (is_at flows name Reserving) _ (record { entry_is = tt; sends_are = tt; flows_are = none_ended (taken flows) name order })
  no_is text (Make name) = plain_if held (taken flows) (is_at flows name Making) _ (record { entry_is = tt; sends_are = (tt, tt); flows_are = none_ended (taken flows) name order })
  no_is text List_line = plain_silent held (taken flows)
  no_is text (Again name) = plain_silent held (taken flows)
  no_is text (Deactivate name) = plain_silent held (taken flows)
  no_is text (Delete name) = plain_silent held (taken flows)
  no_is text (Wipe name) = plain_silent held (taken flows)
  no_is text (Find name) = plain_silent held (taken flows)

  listed_is : (name : List ℕ) (is_active : Bool) → IsPlain flows.running held (listed_step flows held name is_active)
  listed_is name true = by_test (is_creating (held_at held name) || is_closing (held_at held name))
    where
      by_test : (b : Bool) → IsPlain flows.running held (given (noted flows name) (cond b (record { entry = Some (entry.Opened name); sends = []; answers = [] }) (record { entry = None; sends = []; answers = [] })))
      by_test true = record { entry_is = tt; sends_are = tt; flows_are = λ n e. e }
      by_test false = record { entry_is = tt; sends_are = tt; flows_are = λ n e. e }
  listed_is name false = by_test (is_open (held_at held name) || is_closing (held_at held name)) refl
    where
      by_test : (b : Bool) → is_open (held_at held name) || is_closing (held_at held name) ≡ b
          → IsPlain flows.running held (given (noted flows name) (record { entry = None; sends = unasked_line (cond b (Again name) (Wipe name)) ∷ []; answers = [] }))
      by_test true f = record { entry_is = tt; sends_are = ((refl, f), tt); flows_are = λ n e. e }
      by_test false f = record { entry_is = tt; sends_are = (tt, tt); flows_are = λ n e. e }

  found_is : (name server : List ℕ) (b : Bool) → IsPlain flows.running held (cond b (changing (record flows { found = true }) (entry.Pointer name server) []) (silent (record flows { found = true })))
  found_is name server true = record { entry_is = tt; sends_are = tt; flows_are = λ n e. e }
  found_is name server false = record { entry_is = tt; sends_are = tt; flows_are = λ n e. e }

  record_is : (name : List ℕ) (place : Location) (is_active : Bool) (what : Sent) → IsPlain flows.running held (record_of flows held name place is_active (Some what))
  record_is name place is_active List_line = listed_is name is_active
  record_is name place is_active (Find sought) = found_is sought place.server (is_closing (held_at held sought))
  record_is name place is_active (Reserve m) = plain_silent held flows
  record_is name place is_active (Make m) = plain_silent held flows
  record_is name place is_active (Again m) = plain_silent held flows
  record_is name place is_active (Deactivate m) = plain_silent held flows
  record_is name place is_active (Delete m) = plain_silent held flows
  record_is name place is_active (Wipe m) = plain_silent held flows

  by_response : (it : MResponse) → Is it (step_by flows held tag line lines e same_tag it)
  unfolding step_by
  by_response (response.Mailbox name place acl) = inl (record_is name place true line.what)
  by_response (response.Reserve name place) = inl (record_is name place false line.what)
  by_response (response.Delete name) = inl (plain_silent held flows)
  by_response (response.Ok text) = ok_is text line.what refl
  by_response (response.No text) = inl (no_is text line.what)
  by_response (response.Bad text) = inl (no_is text line.what)

  -- a step that a response to the first line makes
  pub heard_entry : (it : MResponse) → Is it (heard_step flows held tag it)
  heard_entry it = subst (λ (s : FlowStep). Is it s) (sym (heard_is flows held tag line lines e same_tag it)) (by_response it)

-- ---- an ask makes no mailbox

module _ (flows : Flows) (held : Names) (ask : NameAsk) where
  tested_is : (body : Option AnswerBody) → IsPlain flows.running held (tested_by flows ask body)
  tested_is (Some body) = record { entry_is = tt; sends_are = tt; flows_are = λ n e. e }
  tested_is None = record { entry_is = tt; sends_are = (quiet_fits held None (line_of_kind ask.kind ask.name) (kind_quiet ask.kind ask.name), tt); flows_are = none_begun flows ask }

  asked_by_is : (r : Option Resync) → IsPlain flows.running held (asked_by flows held ask r)
  unfolding asked_by
  asked_by_is None = tested_is (refusal flows held ask.name ask.kind)
  asked_by_is (Some w) = record { entry_is = tt; sends_are = tt; flows_are = λ n e. e }

  pub asked_entry : IsPlain flows.running held (asked_step flows held ask)
  unfolding asked_step
  asked_entry = asked_by_is flows.resync
