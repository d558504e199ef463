-- What a step of the backend sends, and what it leaves of the lines that it sent before.
use Rattle.std.proofs.Common.{◌≡◌, ℕ, ◌<◌, ◌^◌, Bool, true, false, ◌&&◌, ◌||◌, not, cond, is_some, List, [], ◌∷◌, ◌++◌, map, Option, None, Some, refl, sym, ap, subst, ◌∙◌, append-nil}
use Rattle.std.specs.List.{AllByRecursion}
use Rattle.std.proofs.lemmas.List.{map-append}
use Rattle.mur_base.specs.declared.home.Location.{Location}
use Rattle.link_msg.specs.declared.answer.AnswerBody.{AnswerBody}
use Rattle.mupdate_codec.specs.declared.command.MResponse.{MResponse}
use Rattle.mupdate_codec.specs.declared.command.MResponse.TheVariants as response
use Rattle.mupdate_codec.specs.declared.tag.Tag.{Tag}
use Rattle.mupdate_codec.specs.Asks.{tag_of}
use Rattle.mupdate_codec.proofs.AsksLaw.{ask_again}
use Rattle.node_record.specs.declared.backend.BackendRecord.TheVariants as entry
use Rattle.node_record.specs.Held.{Names, held_at}
use Rattle.home_law.specs.ManyNames.{SentLine as OpenLine, with_line}
use Rattle.name_flows.specs.declared.ask.AskKind.{AskKind}
use Rattle.name_flows.specs.declared.ask.AskKind.TheVariants.{Create, Delete as Remove}
use Rattle.name_flows.specs.declared.ask.NameAsk.{NameAsk}
use Rattle.name_flows.specs.declared.flow.Stage.TheVariants.{Reserving, Making, Deactivating, Deleting}
use Rattle.name_flows.specs.declared.flows.Flows.{Flows}
use Rattle.name_flows.specs.declared.resync.Resync.{Resync}
use Rattle.name_flows.specs.declared.sent.Sent.{Sent}
use Rattle.name_flows.specs.declared.sent.Sent.TheVariants.{List as List_line, Reserve, Make, Again, Deactivate, Delete, Wipe, Find}
use Rattle.name_flows.specs.declared.sent.SentLine.{SentLine}
use Rattle.name_flows.specs.Asked.{first_line as line_of_kind, begun_line, refusal, tested_by, asked_by, asked_step}
use Rattle.name_flows.specs.Creates.{serial_in, reserved_by, reserve_ok, reserve_no, make_ok, make_no}
use Rattle.name_flows.specs.Deletes.{deactivate_ok, delete_ok}
use Rattle.name_flows.specs.Finds.{forgotten_if}
use Rattle.name_flows.specs.Heard.{is_same_tag, is_answer, first_line, what_in, taken, ok_of, ok_by, no_of, no_by, record_of, heard_step}
use Rattle.name_flows.specs.Lines.{unasked_line}
use Rattle.name_flows.specs.Listing.{noted, listed_step}
use Rattle.name_flows.specs.OneName.{open_line}
use Rattle.name_flows.specs.Phases.{is_creating, is_open, is_closing}
use Rattle.name_flows.specs.Running.{has_flow, is_at}
use Rattle.name_flows.specs.Steps.{FlowStep, given, silent, changing, handed}
use Rattle.name_links.specs.Lines.{is_asked}
use Rattle.name_links.specs.LinkIs.{tagged_line, tagged_by, tagged_lines, lines_after, is_tagged_as, IsTagged}
use Rattle.name_links.proofs.Messages.{unasked, all_more}

-- ---- steps

-- LIST's OK ends a resync
abbrev pub is_list_end : Option Sent → MResponse → Bool
is_list_end (Some List_line) (response.Ok text) = true
is_list_end what it = false

-- of the lines sent before all are left, and of the first it is known so that a record was told
pub record Keeps (old : Flows) (found : Bool) (step : FlowStep) : Type 0 where
  pub sent_is : step.flows.sent ≡ old.sent
  pub found_is : step.flows.found ≡ found
  pub me_is : step.flows.me ≡ old.me
  pub tagged : AllByRecursion IsTagged step.sends

silent_keeps : (f : Flows) → Keeps f f.found (silent f)
silent_keeps f = record { sent_is = refl; found_is = refl; me_is = refl; tagged = tt }

if_keeps : (f : Flows) (b : Bool) (step : FlowStep) → Keeps f f.found step → Keeps f f.found (cond b step (silent f))
if_keeps f true step k = k
if_keeps f false step k = silent_keeps f

forgets_keeps : (f : Flows) (b : Bool) (name : List ℕ) → Keeps f f.found (given f (forgotten_if b name))
forgets_keeps f true name = record { sent_is = refl; found_is = refl; me_is = refl; tagged = tt }
forgets_keeps f false name = record { sent_is = refl; found_is = refl; me_is = refl; tagged = tt }

reserved_keeps : (f : Flows) (tag : Tag) (name : List ℕ) (serial : Option ℕ) → is_asked tag ≡ true → Keeps f f.found (reserved_by f tag name serial)
reserved_keeps f tag name None a = record { sent_is = refl; found_is = refl; me_is = refl; tagged = tt }
reserved_keeps f tag name (Some serial) a = record { sent_is = refl; found_is = refl; me_is = refl; tagged = (a, tt) }

ok_keeps : (f : Flows) (held : Names) (found : Bool) (tag : Tag) (text : List ℕ) (what : Sent) → is_tagged_as (is_asked tag) what
    → is_list_end (Some what) (response.Ok text) ≡ false → Keeps f f.found (ok_of f held found tag text what)
unfolding ok_of reserve_ok make_ok deactivate_ok delete_ok
ok_keeps f held found tag text List_line t e = cc
ok_keeps f held found tag text (Reserve name) t e = if_keeps f (is_at f name Reserving) _ (reserved_keeps f tag name (serial_in text) t)
ok_keeps f held found tag text (Make name) t e = if_keeps f (is_at f name Making) _ (record { sent_is = refl; found_is = refl; me_is = refl; tagged = tt })
ok_keeps f held found tag text (Again name) t e = if_keeps f (is_closing (held_at held name) && not (has_flow f name)) _ (record { sent_is = refl; found_is = refl; me_is = refl; tagged = tt })
ok_keeps f held found tag text (Deactivate name) t e = if_keeps f (is_at f name Deactivating) _ (record { sent_is = refl; found_is = refl; me_is = refl; tagged = (t, tt) })
ok_keeps f held found tag text (Delete name) t e = if_keeps f (is_at f name Deleting) _ (record { sent_is = refl; found_is = refl; me_is = refl; tagged = tt })
ok_keeps f held found tag text (Wipe name) t e = forgets_keeps f (is_creating (held_at held name)) name
ok_keeps f held found tag text (Find name) t e = forgets_keeps f (not found && is_closing (held_at held name)) name

no_keeps : (f : Flows) (text : List ℕ) (what : Sent) → Keeps f f.found (no_of f text what)
unfolding no_of reserve_no make_no
no_keeps f text (Reserve name) = if_keeps f (is_at f name Reserving) _ (record { sent_is = refl; found_is = refl; me_is = refl; tagged = tt })
no_keeps f text (Make name) = if_keeps f (is_at f name Making) _ (record { sent_is = refl; found_is = refl; me_is = refl; tagged = (unasked, tt) })
no_keeps f text List_line = silent_keeps f
no_keeps f text (Again name) = silent_keeps f
no_keeps f text (Deactivate name) = silent_keeps f
no_keeps f text (Delete name) = silent_keeps f
no_keeps f text (Wipe name) = silent_keeps f
no_keeps f text (Find name) = silent_keeps f

-- whether a record was told in answer to the first line, after a record
told_found : Sent → Bool → Bool
told_found (Find name) found = true
told_found what found = found

line_told : (what : Sent) (found : Bool) → open_line (told_found what found) what ≡ with_line (open_line found what)
unfolding told_found with_line
line_told List_line found = refl
line_told (Reserve name) found = refl
line_told (Make name) found = refl
line_told (Again name) found = refl
line_told (Deactivate name) found = refl
line_told (Delete name) found = refl
line_told (Wipe name) found = refl
line_told (Find name) found = refl

listed_keeps : (f : Flows) (held : Names) (name : List ℕ) (is_active : Bool) → Keeps f f.found (listed_step f held name is_active)
listed_keeps f held name true = by_test (is_creating (held_at held name) || is_closing (held_at held name))
  where
    by_test : (b : Bool) → Keeps f f.found (given (noted f name) (cond b (record { entry = Some (entry.Opened name); sends = []; answers = [] }) (record { entry = None; sends = []; answers = [] })))
    by_test true = record { sent_is = refl; found_is = refl; me_is = refl; tagged = tt }
    by_test false = record { sent_is = refl; found_is = refl; me_is = refl; tagged = tt }
listed_keeps f held name false = by_test (is_open (held_at held name) || is_closing (held_at held name))
  where
    by_test : (b : Bool) → Keeps f f.found (given (noted f name) (record { entry = None; sends = unasked_line (cond b (Again name) (Wipe name)) ∷ []; answers = [] }))
    by_test true = record { sent_is = refl; found_is = refl; me_is = refl; tagged = (unasked, tt) }
    by_test false = record { sent_is = refl; found_is = refl; me_is = refl; tagged = (unasked, tt) }

found_keeps : (f : Flows) (held : Names) (name server : List ℕ) (b : Bool)
    → Keeps f true (cond b (changing (record f { found = true }) (entry.Pointer name server) []) (silent (record f { found = true })))
found_keeps f held name server true = record { sent_is = refl; found_is = refl; me_is = refl; tagged = tt }
found_keeps f held name server false = record { sent_is = refl; found_is = refl; me_is = refl; tagged = tt }

record_keeps : (f : Flows) (held : Names) (name : List ℕ) (place : Location) (is_active : Bool) (what : Sent)
    → Keeps f (told_found what f.found) (record_of f held name place is_active (Some what))
unfolding told_found
record_keeps f held name place is_active List_line = listed_keeps f held name is_active
record_keeps f held name place is_active (Find sought) = found_keeps f held sought place.server (is_closing (held_at held sought))
record_keeps f held name place is_active (Reserve m) = silent_keeps f
record_keeps f held name place is_active (Make m) = silent_keeps f
record_keeps f held name place is_active (Again m) = silent_keeps f
record_keeps f held name place is_active (Deactivate m) = silent_keeps f
record_keeps f held name place is_active (Delete m) = silent_keeps f
record_keeps f held name place is_active (Wipe m) = silent_keeps f

-- ---- the lines after a step

-- what a step leaves: these lines, and behind them those that it sends
pub record Leaves (me : Location) (held : Names) (step : FlowStep) (lines : List (Tag × OpenLine)) : Type 0 where
  pub lines_are : tagged_lines (handed held step).flows ≡ lines ++ map (tagged_line false) step.sends
  pub me_is : step.flows.me ≡ me
  pub tagged : AllByRecursion IsTagged step.sends
  pub all_tagged : AllByRecursion IsTagged (handed held step).flows.sent

all_behind : (lines : List SentLine) → tagged_by false lines ≡ map (tagged_line false) lines
all_behind [] = refl
all_behind (line ∷ lines) = refl

-- the first line is answered
pub last_leaves : (f : Flows) (held : Names) (lines : List SentLine) (step : FlowStep) → f.sent ≡ lines → Keeps f false step → AllByRecursion IsTagged lines
    → Leaves f.me held step (map (tagged_line false) lines)
last_leaves f held lines step e k t = record {
  lines_are = rw (k.sent_is, k.found_is, e) (all_behind (lines ++ step.sends) ∙ map-append (tagged_line false) lines step.sends);
  me_is = k.me_is;
  tagged = k.tagged;
  all_tagged = subst (λ s. AllByRecursion IsTagged (s ++ step.sends)) (sym (k.sent_is ∙ e)) (all_more lines step.sends t k.tagged);
}

-- it isn't yet
first_leaves : (f : Flows) (held : Names) (line : SentLine) (lines : List SentLine) (found : Bool) (step : FlowStep) → f.sent ≡ line ∷ lines → Keeps f found step
    → AllByRecursion IsTagged (line ∷ lines) → Leaves f.me held step (tagged_line found line ∷ map (tagged_line false) lines)
first_leaves f held line lines found step e k t = record {
  lines_are = rw (k.sent_is, k.found_is, e) (ap (λ ls. tagged_line found line ∷ ls) (map-append (tagged_line false) lines step.sends));
  me_is = k.me_is;
  tagged = k.tagged;
  all_tagged = subst (λ s. AllByRecursion IsTagged (s ++ step.sends)) (sym (k.sent_is ∙ e)) (all_more (line ∷ lines) step.sends t k.tagged);
}

-- ---- a response

module _ (flows : Flows) (held : Names) (tag : Tag) (line : SentLine) (lines : List SentLine) (e : flows.sent ≡ line ∷ lines) (same : is_same_tag line.tag tag ≡ true) where
  -- the step, by the line that it answers
  unfoldable pub step_by : MResponse → FlowStep
  step_by (response.Mailbox name place acl) = record_of flows held name place true (Some line.what)
  step_by (response.Reserve name place) = record_of flows held name place false (Some line.what)
  step_by (response.Delete name) = silent flows
  step_by (response.Ok text) = ok_of (taken flows) held flows.found line.tag text line.what
  step_by (response.No text) = no_of (taken flows) text line.what
  step_by (response.Bad text) = no_of (taken flows) text line.what

  pub step_ok : (text : List ℕ) → step_by (response.Ok text) ≡ ok_of (taken flows) held flows.found line.tag text line.what
  unfolding step_by
  step_ok text = refl

  answers : is_answer flows.sent tag ≡ true
  unfolding is_answer
  answers = ap (λ ls. is_answer ls tag) e ∙ same

  first : first_line flows.sent ≡ Some line
  first = ap (λ ls. first_line ls) e

  pub heard_is : (it : MResponse) → heard_step flows held tag it ≡ step_by it
  unfolding heard_step step_by
  heard_is (response.Mailbox name place acl) = rw answers (ap (λ l. record_of flows held name place true (what_in l)) first)
  heard_is (response.Reserve name place) = rw answers (ap (λ l. record_of flows held name place false (what_in l)) first)
  heard_is (response.Delete name) = rw answers refl
  heard_is (response.Ok text) = rw answers (ap (λ l. ok_by (taken flows) held flows.found text l) first)
  heard_is (response.No text) = rw answers (ap (λ l. no_by (taken flows) text l) first)
  heard_is (response.Bad text) = rw answers (ap (λ l. no_by (taken flows) text l) first)

  module _ (tagged : AllByRecursion IsTagged (line ∷ lines)) where
    told_leaves : (name : List ℕ) (place : Location) (is_active : Bool)
        → Leaves flows.me held (record_of flows held name place is_active (Some line.what)) ((line.tag, with_line (open_line flows.found line.what)) ∷ map (tagged_line false) lines)
    told_leaves name place is_active =
        subst (λ (o : OpenLine). Leaves flows.me held (record_of flows held name place is_active (Some line.what)) ((line.tag, o) ∷ map (tagged_line false) lines)) (line_told line.what flows.found)
        (first_leaves flows held line lines (told_found line.what flows.found) (record_of flows held name place is_active (Some line.what)) e (record_keeps flows held name place is_active line.what) tagged)

    taken_sent : (taken flows).sent ≡ lines
    taken_sent = rw e refl

    by_leaves : (it : MResponse) → is_list_end (Some line.what) it ≡ false
        → Leaves flows.me held (step_by it) (lines_after (tagged_line flows.found line) (map (tagged_line false) lines) it)
    unfolding step_by
    by_leaves (response.Mailbox name place acl) n = told_leaves name place true
    by_leaves (response.Reserve name place) n = told_leaves name place false
    by_leaves (response.Delete name) n = first_leaves flows held line lines flows.found (silent flows) e (silent_keeps flows) tagged
    by_leaves (response.Ok text) n =
        last_leaves (taken flows) held lines (ok_of (taken flows) held flows.found line.tag text line.what) taken_sent (ok_keeps (taken flows) held flows.found line.tag text line.what tagged.0 n) tagged.1
    by_leaves (response.No text) n = last_leaves (taken flows) held lines (no_of (taken flows) text line.what) taken_sent (no_keeps (taken flows) text line.what) tagged.1
    by_leaves (response.Bad text) n = last_leaves (taken flows) held lines (no_of (taken flows) text line.what) taken_sent (no_keeps (taken flows) text line.what) tagged.1

    pub heard_leaves : (it : MResponse) → is_list_end (Some line.what) it ≡ false
        → Leaves flows.me held (heard_step flows held tag it) (lines_after (tagged_line flows.found line) (map (tagged_line false) lines) it)
    heard_leaves it n =
        subst (λ s. Leaves flows.me held s (lines_after (tagged_line flows.found line) (map (tagged_line false) lines) it)) (sym (heard_is it)) (by_leaves it n)

-- ---- an ask

tagged_one : (found : Bool) (lines : List SentLine) (line : SentLine) → open_line found line.what ≡ open_line false line.what
    → tagged_by found (lines ++ line ∷ []) ≡ tagged_by found lines ++ tagged_line false line ∷ []
tagged_one found [] line e = ap (λ (o : OpenLine). (line.tag, o) ∷ []) e
tagged_one found (first ∷ lines) line e = ap (λ ls. tagged_line found first ∷ ls) (map-append (tagged_line false) lines (line ∷ []))

module _ (flows : Flows) (held : Names) (tagged : AllByRecursion IsTagged flows.sent) where
  still_leaves : (step : FlowStep) → Keeps flows flows.found step → step.sends ≡ [] → Leaves flows.me held step (tagged_lines flows)
  still_leaves step k e = record {
    lines_are = rw (k.sent_is, k.found_is, e) (ap (tagged_by flows.found) (append-nil flows.sent) ∙ sym (append-nil (tagged_lines flows)));
    me_is = k.me_is;
    tagged = k.tagged;
    all_tagged = subst (λ s. AllByRecursion IsTagged (s ++ step.sends)) (sym k.sent_is) (all_more flows.sent step.sends tagged k.tagged);
  }

  sends_leaves : (step : FlowStep) (line : SentLine) → Keeps flows flows.found step → step.sends ≡ line ∷ [] → open_line flows.found line.what ≡ open_line false line.what
      → Leaves flows.me held step (tagged_lines flows)
  sends_leaves step line k e o = record {
    lines_are = rw (k.sent_is, k.found_is, e) (tagged_one flows.found flows.sent line o);
    me_is = k.me_is;
    tagged = k.tagged;
    all_tagged = subst (λ s. AllByRecursion IsTagged (s ++ step.sends)) (sym k.sent_is) (all_more flows.sent step.sends tagged k.tagged);
  }

  module _ (ask : NameAsk) (conn : ask.id.conn < 2 ^ 64) (command : ask.id.command < 2 ^ 64) where
    is_clients : is_asked (tag_of ask.id) ≡ true
    is_clients = ap (λ a. is_some a) (ask_again ask.id conn command)

    kind_tagged : (k : AskKind) → is_tagged_as (is_asked (tag_of ask.id)) (line_of_kind k ask.name)
    kind_tagged Create = is_clients
    kind_tagged Remove = is_clients

    kind_open : (k : AskKind) (found : Bool) → open_line found (line_of_kind k ask.name) ≡ open_line false (line_of_kind k ask.name)
    kind_open Create found = refl
    kind_open Remove found = refl

    tested_leaves : (body : Option AnswerBody) → Leaves flows.me held (tested_by flows ask body) (tagged_lines flows)
    tested_leaves (Some body) = still_leaves (tested_by flows ask (Some body)) (record { sent_is = refl; found_is = refl; me_is = refl; tagged = tt }) refl
    tested_leaves None =
        sends_leaves (tested_by flows ask None) (begun_line ask) (record { sent_is = refl; found_is = refl; me_is = refl; tagged = (kind_tagged ask.kind, tt) }) refl (kind_open ask.kind flows.found)

    asked_by_leaves : (r : Option Resync) → Leaves flows.me held (asked_by flows held ask r) (tagged_lines flows)
    unfolding asked_by
    asked_by_leaves None = tested_leaves (refusal flows held ask.name ask.kind)
    asked_by_leaves (Some w) = still_leaves (asked_by flows held ask (Some w)) (record { sent_is = refl; found_is = refl; me_is = refl; tagged = tt }) refl

    pub asked_leaves : Leaves flows.me held (asked_step flows held ask) (tagged_lines flows)
    unfolding asked_step
    asked_leaves = asked_by_leaves flows.resync
