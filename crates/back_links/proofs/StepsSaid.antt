-- What a backend sends can be read again, and what it has can still be told, whatever comes to it.
use Rattle.std.proofs.Common.{◌≡◌, ℕ, Bool, true, false, ◌&&◌, ◌||◌, not, cond, List, [], ◌∷◌, ◌++◌, map, filter, Option, None, Some, refl, sym, subst}
use Rattle.std.specs.Prelude.{All}
use Rattle.std.specs.List.{AllByRecursion, fold}
use Rattle.std.specs.Map.{keys_of}
use Rattle.std.proofs.lemmas.List.Elements.{All-cons, All-head, All-tail}
use Rattle.link_msg.specs.declared.answer.AnswerBody.{AnswerBody}
use Rattle.mupdate_codec.specs.declared.command.MResponse.{MResponse}
use Rattle.mupdate_codec.specs.declared.command.MResponse.TheVariants as response
use Rattle.mupdate_codec.specs.declared.tag.Tag.{Tag}
use Rattle.mupdate_codec.specs.Characters.{is_mupdate_tag_byte}
use Rattle.mur_base.specs.declared.home.Location.{Location}
use Rattle.node_record.specs.declared.backend.BackendRecord.TheVariants as entry
use Rattle.node_record.specs.declared.held.Held.{Held}
use Rattle.node_record.specs.Held.{Names, held_at}
use Rattle.name_flows.specs.declared.ask.NameAsk.{NameAsk}
use Rattle.name_flows.specs.declared.flow.Stage.TheVariants.{Reserving, Making, Deactivating, Deleting}
use Rattle.name_flows.specs.declared.flows.Flows.{Flows}
use Rattle.name_flows.specs.declared.gives.Gives.{Gives}
use Rattle.name_flows.specs.declared.resync.Resync.{Resync}
use Rattle.name_flows.specs.declared.sent.Sent.{Sent}
use Rattle.name_flows.specs.declared.sent.Sent.TheVariants.{List as List_line, Reserve, Make, Again, Deactivate, Delete, Wipe, Find}
use Rattle.name_flows.specs.declared.sent.SentLine.{SentLine}
use Rattle.name_flows.specs.Asked.{begun_line, refusal, tested_by, asked_by, asked_step}
use Rattle.name_flows.specs.Creates.{serial_in, reserved_by, reserve_ok, reserve_no, make_ok, make_no}
use Rattle.name_flows.specs.Deletes.{deactivate_ok, delete_ok}
use Rattle.name_flows.specs.Finds.{forgotten_if}
use Rattle.name_flows.specs.Heard.{is_answer, first_line, behind_first, what_in, taken, ok_of, ok_by, no_of, no_by, record_of, response_step, heard_step}
use Rattle.name_flows.specs.Lines.{unasked_line}
use Rattle.name_flows.specs.Link.{waiting_in}
use Rattle.name_flows.specs.Listed.{LinesByName, is_lost, is_unmade, name_in, find_line, line_in, with_find, Round, round_by, round, list_ok_by}
use Rattle.name_flows.specs.Listing.{noted_in, noted, listed_step, resync_line, up_step}
use Rattle.name_flows.specs.Phases.{is_creating, is_open, is_closing}
use Rattle.name_flows.specs.Running.{has_flow, is_at, new_flows}
use Rattle.name_flows.specs.Steps.{FlowStep, given, silent, changing, held_with, handed}
use Rattle.name_links.specs.OneLink.{message_of}
use Rattle.name_links.specs.Spelled.{IsNameText, IsPlaceText, TellsTexts}
use Rattle.name_links.proofs.LinesByName.{Each, each_put}
use Rattle.name_links.proofs.OnWay.{all_append}
use Rattle.back_links.specs.Spelled.{IsTextTag, HasCommandTexts, IsAboutName, HasLineTexts, HasAskTexts, HaveTexts, CanTellMaster}
use Rattle.back_links.proofs.Mailboxes.{acl_there, none_spelled, made_spelled, pointed_spelled, opened_spelled, closed_spelled, gone_spelled, forget_spelled}
use Rattle.back_links.proofs.Texts.{first_short, line_texts}

-- what a step leaves can be told, and what it sends can be read again
pub record StepSaid (me : Location) (held : Names) (step : FlowStep) : Type 0 where
  pub me_is : step.flows.me ≡ me
  pub can : CanTellMaster step.flows (held_with held step.entry)
  pub sends : AllByRecursion HasLineTexts step.sends

abbrev AreLines : List SentLine → Type 0
AreLines lines = AllByRecursion HasLineTexts lines

abbrev AreAsks : List NameAsk → Type 0
AreAsks asks = AllByRecursion HasAskTexts asks

-- ---- lines that no client's command waits for

unasked_spelled : (what : Sent) → IsAboutName what → HasLineTexts (unasked_line what)
unfolding is_mupdate_tag_byte
unasked_spelled what about = (refl, about)

find_spelled : (name : List ℕ) → IsNameText name → HasLineTexts (find_line name)
unfolding is_mupdate_tag_byte
find_spelled name named = (refl, named)

resync_spelled : HasLineTexts resync_line
unfolding is_mupdate_tag_byte
resync_spelled = (refl, tt)

-- ---- lines by their names

abbrev AreByName : LinesByName → Type 0
AreByName lines = Each (λ e. HasLineTexts e.1) lines

lines_spelled : (lines : LinesByName) → AreByName lines → AreLines (map line_in lines)
lines_spelled [] all = tt
lines_spelled (first ∷ lines) all = (all.0, lines_spelled lines all.1)

filtered_named : (test : List ℕ × Held → Bool) (held : Names) → All IsNameText (keys_of held) → All IsNameText (keys_of (filter test held))
filtered_named test [] all = all
filtered_named test (e ∷ held) all = by_test (test e) (filtered_named test held (All-tail IsNameText e.0 (keys_of held) all))
  where
    by_test : (passes : Bool) → All IsNameText (keys_of (filter test held)) → All IsNameText (keys_of (cond passes (e ∷ filter test held) (filter test held)))
    by_test true more = All-cons IsNameText e.0 (keys_of (filter test held)) (All-head IsNameText e.0 (keys_of held) all) more
    by_test false more = more

finds_spelled : (held : Names) (lines : LinesByName) → All IsNameText (keys_of held) → AreByName lines → AreByName (fold with_find lines held)
finds_spelled [] lines named all = all
finds_spelled (e ∷ held) lines named all =
    finds_spelled held (with_find lines e) (All-tail IsNameText e.0 (keys_of held) named)
    (each_put e.0 (find_line e.0) (λ e. HasLineTexts e.1) (find_spelled e.0 (All-head IsNameText e.0 (keys_of held) named)) lines all)

-- ---- the asks that waited for a resync

record RoundSaid (f : Flows) (it : Round) : Type 0 where
  me_is : it.flows.me ≡ f.me
  sent_is : it.flows.sent ≡ f.sent
  none_waits : it.flows.resync ≡ None
  lines_are : AreByName it.lines

round_by_said : (f : Flows) (it : Round) (ask : NameAsk) (body : Option AnswerBody) → HasAskTexts ask → RoundSaid f it → RoundSaid f (round_by it ask body)
round_by_said f it ask (Some body) spelled so = record { me_is = so.me_is; sent_is = so.sent_is; none_waits = so.none_waits; lines_are = so.lines_are }
round_by_said f it ask None spelled so = record {
  me_is = so.me_is;
  sent_is = so.sent_is;
  none_waits = so.none_waits;
  lines_are = each_put ask.name (begun_line ask) (λ e. HasLineTexts e.1) spelled it.lines so.lines_are;
}

rounds_said : (f : Flows) (held : Names) (asks : List NameAsk) (it : Round) → AreAsks asks → RoundSaid f it → RoundSaid f (fold (round held) it asks)
rounds_said f held [] it all so = so
rounds_said f held (ask ∷ asks) it all so =
    rounds_said f held asks (round held it ask) all.1 (round_by_said f it ask (refusal it.flows held ask.name ask.kind) all.0 so)

-- what they begin with
abbrev first_round : Flows → Names → Resync → Round
first_round f held it = record { flows = record f { resync = None }; lines = fold with_find [] (filter (is_lost it.listed) held); answers = [] }

noted_waiting : (resync : Option Resync) (name : List ℕ) → waiting_in (noted_in resync name) ≡ waiting_in resync
noted_waiting None name = refl
noted_waiting (Some it) name = refl

-- what becomes of a name that is listed as active, and of one that is listed as reserved

abbrev opened_if : Bool → List ℕ → Gives
opened_if b name = cond b (record { entry = Some (entry.Opened name); sends = []; answers = [] }) (record { entry = None; sends = []; answers = [] })

abbrev reserved_if : Bool → List ℕ → Gives
reserved_if b name = record { entry = None; sends = unasked_line (cond b (Again name) (Wipe name)) ∷ []; answers = [] }

-- ---- steps

abbrev IfAbout : Option Sent → Type 0
IfAbout None = Unit {0}
IfAbout (Some what) = IsAboutName what

module _ (f : Flows) (held : Names) (is : CanTellMaster f held) where
  -- the lines sent before and the asks that wait are left as they are
  does : (step : FlowStep) → step.flows.me ≡ f.me → step.flows.sent ≡ f.sent → waiting_in step.flows.resync ≡ waiting_in f.resync
      → HaveTexts (held_with held step.entry) → AreLines step.sends → StepSaid f.me held step
  does step me_is sent_is waiting_is mailboxes sends = record {
    me_is = me_is;
    can = record {
      place = subst IsPlaceText (sym me_is) is.place;
      mailboxes = mailboxes;
      sent = subst AreLines (sym sent_is) is.sent;
      waiting = subst AreAsks (sym waiting_is) is.waiting;
    };
    sends = sends;
  }

  silent_said : StepSaid f.me held (silent f)
  silent_said = does (silent f) refl refl refl is.mailboxes tt

  if_said : (test : Bool) (step : FlowStep) → StepSaid f.me held step → StepSaid f.me held (cond test step (silent f))
  if_said true step so = so
  if_said false step so = silent_said

  forgets_said : (test : Bool) (name : List ℕ) → StepSaid f.me held (given f (forgotten_if test name))
  forgets_said true name = does _ refl refl refl (gone_spelled held name is.mailboxes) tt
  forgets_said false name = does _ refl refl refl is.mailboxes tt

  reserved_said : (tag : Tag) (name : List ℕ) (serial : Option ℕ) → IsTextTag tag → IsNameText name → StepSaid f.me held (reserved_by f tag name serial)
  reserved_said tag name None tagged named = does _ refl refl refl is.mailboxes tt
  reserved_said tag name (Some serial) tagged named =
      does _ refl refl refl (made_spelled held name serial _ named (first_short name named) is.mailboxes) ((tagged, named), tt)

  -- the end of a resync
  ended_said : (resync : Option Resync) → f.resync ≡ resync → StepSaid f.me held (list_ok_by (record f { resync = None }) held resync)
  ended_said None at =
      record { me_is = refl; can = record { place = is.place; mailboxes = is.mailboxes; sent = is.sent; waiting = tt }; sends = tt }
  ended_said (Some it) at =
      let lost = filtered_named (is_lost it.listed) held is.mailboxes.names in
      let so = rounds_said f held it.waiting (first_round f held it) (subst (λ r. AreAsks (waiting_in r)) at is.waiting)
      (record { me_is = refl; sent_is = refl; none_waits = refl; lines_are = finds_spelled (filter (is_lost it.listed) held) [] lost tt }) in
      record {
        me_is = so.me_is;
        can = record {
          place = subst IsPlaceText (sym so.me_is) is.place;
          mailboxes = forget_spelled (map name_in (filter (is_unmade it.listed) held)) held is.mailboxes;
          sent = subst AreLines (sym so.sent_is) is.sent;
          waiting = subst (λ r. AreAsks (waiting_in r)) (sym so.none_waits) tt;
        };
        sends = lines_spelled _ so.lines_are;
      }

  -- ---- by the line that is answered

  ok_said : (found : Bool) (tag : Tag) (text : List ℕ) (what : Sent) → IsTextTag tag → IsAboutName what → StepSaid f.me held (ok_of f held found tag text what)
  unfolding ok_of reserve_ok make_ok deactivate_ok delete_ok
  ok_said found tag text List_line tagged named = ended_said f.resync refl
  ok_said found tag text (Reserve name) tagged named = if_said (is_at f name Reserving) _ (reserved_said tag name (serial_in text) tagged named)
  ok_said found tag text (Make name) tagged named = if_said (is_at f name Making) _ (does _ refl refl refl (opened_spelled held name is.mailboxes) tt)
  ok_said found tag text (Again name) tagged named =
      if_said (is_closing (held_at held name) && not (has_flow f name)) _ (does _ refl refl refl (opened_spelled held name is.mailboxes) tt)
  ok_said found tag text (Deactivate name) tagged named =
      if_said (is_at f name Deactivating) _ (does _ refl refl refl (closed_spelled held name is.mailboxes) ((tagged, named), tt))
  ok_said found tag text (Delete name) tagged named = if_said (is_at f name Deleting) _ (does _ refl refl refl (gone_spelled held name is.mailboxes) tt)
  ok_said found tag text (Wipe name) tagged named = forgets_said (is_creating (held_at held name)) name
  ok_said found tag text (Find name) tagged named = forgets_said (not found && is_closing (held_at held name)) name

  no_said : (text : List ℕ) (what : Sent) → IsAboutName what → StepSaid f.me held (no_of f text what)
  unfolding no_of reserve_no make_no
  no_said text (Reserve name) named = if_said (is_at f name Reserving) _ (does _ refl refl refl is.mailboxes tt)
  no_said text (Make name) named =
      if_said (is_at f name Making) _ (does _ refl refl refl (gone_spelled held name is.mailboxes) (unasked_spelled (Wipe name) named, tt))
  no_said text List_line named = silent_said
  no_said text (Again name) named = silent_said
  no_said text (Deactivate name) named = silent_said
  no_said text (Delete name) named = silent_said
  no_said text (Wipe name) named = silent_said
  no_said text (Find name) named = silent_said

  listed_said : (name : List ℕ) (is_active : Bool) → IsNameText name → StepSaid f.me held (listed_step f held name is_active)
  listed_said name true named = by_test (is_creating (held_at held name) || is_closing (held_at held name))
    where
      by_test : (b : Bool) → StepSaid f.me held (given (noted f name) (opened_if b name))
      by_test true = does _ refl refl (noted_waiting f.resync name) (opened_spelled held name is.mailboxes) tt
      by_test false = does _ refl refl (noted_waiting f.resync name) is.mailboxes tt
  listed_said name false named = by_test (is_open (held_at held name) || is_closing (held_at held name))
    where
      by_test : (b : Bool) → StepSaid f.me held (given (noted f name) (reserved_if b name))
      by_test true = does _ refl refl (noted_waiting f.resync name) is.mailboxes (unasked_spelled (Again name) named, tt)
      by_test false = does _ refl refl (noted_waiting f.resync name) is.mailboxes (unasked_spelled (Wipe name) named, tt)

  found_said : (name server : List ℕ) (b : Bool) → IsNameText name
      → StepSaid f.me held (cond b (changing (record f { found = true }) (entry.Pointer name server) []) (silent (record f { found = true })))
  found_said name server true named = does _ refl refl refl (pointed_spelled held name server named is.mailboxes) tt
  found_said name server false named = does _ refl refl refl is.mailboxes tt

  record_said : (name : List ℕ) (place : Location) (is_active : Bool) (what : Option Sent) → IsNameText name → IfAbout what
      → StepSaid f.me held (record_of f held name place is_active what)
  record_said name place is_active None named about = silent_said
  record_said name place is_active (Some List_line) named about = listed_said name is_active named
  record_said name place is_active (Some (Find sought)) named about = found_said sought place.server (is_closing (held_at held sought)) about
  record_said name place is_active (Some (Reserve m)) named about = silent_said
  record_said name place is_active (Some (Make m)) named about = silent_said
  record_said name place is_active (Some (Again m)) named about = silent_said
  record_said name place is_active (Some (Deactivate m)) named about = silent_said
  record_said name place is_active (Some (Delete m)) named about = silent_said
  record_said name place is_active (Some (Wipe m)) named about = silent_said

  -- ---- an ask

  more_asks : (asks : List NameAsk) (ask : NameAsk) → AreAsks asks → HasAskTexts ask → AreAsks (asks ++ ask ∷ [])
  more_asks asks ask all spelled = all_append HasAskTexts asks (ask ∷ []) all (spelled, tt)

  tested_said : (ask : NameAsk) (body : Option AnswerBody) → HasAskTexts ask → StepSaid f.me held (tested_by f ask body)
  tested_said ask (Some body) spelled = does _ refl refl refl is.mailboxes tt
  tested_said ask None spelled = does _ refl refl refl is.mailboxes (spelled, tt)

  asked_by_said : (ask : NameAsk) (resync : Option Resync) → f.resync ≡ resync → HasAskTexts ask → StepSaid f.me held (asked_by f held ask resync)
  unfolding asked_by
  asked_by_said ask None at spelled = tested_said ask (refusal f held ask.name ask.kind) spelled
  asked_by_said ask (Some it) at spelled = record {
    me_is = refl;
    can = record {
      place = is.place;
      mailboxes = is.mailboxes;
      sent = is.sent;
      waiting = more_asks it.waiting ask (subst (λ r. AreAsks (waiting_in r)) at is.waiting) spelled;
    };
    sends = tt;
  }

  pub asked_said : (ask : NameAsk) → HasAskTexts ask → StepSaid f.me held (asked_step f held ask)
  unfolding asked_step
  asked_said ask spelled = asked_by_said ask f.resync refl spelled

-- ---- a response

abbrev IfLine : Option SentLine → Type 0
IfLine None = Unit {0}
IfLine (Some line) = HasLineTexts line

first_said : (lines : List SentLine) → AreLines lines → IfLine (first_line lines)
first_said [] all = tt
first_said (line ∷ lines) all = all.0

behind_said : (lines : List SentLine) → AreLines lines → AreLines (behind_first lines)
behind_said [] all = tt
behind_said (line ∷ lines) all = all.1

module _ (f : Flows) (held : Names) (is : CanTellMaster f held) where
  taken_is : CanTellMaster (taken f) held
  taken_is = record { place = is.place; mailboxes = is.mailboxes; sent = behind_said f.sent is.sent; waiting = is.waiting }

  about_by : (line : Option SentLine) → IfLine line → IfAbout (what_in line)
  about_by None spelled = tt
  about_by (Some line) spelled = spelled.1

  ok_by_said : (text : List ℕ) (line : Option SentLine) → IfLine line → StepSaid f.me held (ok_by (taken f) held f.found text line)
  ok_by_said text None spelled = silent_said (taken f) held taken_is
  ok_by_said text (Some line) spelled = ok_said (taken f) held taken_is f.found line.tag text line.what spelled.0 spelled.1

  no_by_said : (text : List ℕ) (line : Option SentLine) → IfLine line → StepSaid f.me held (no_by (taken f) text line)
  no_by_said text None spelled = silent_said (taken f) held taken_is
  no_by_said text (Some line) spelled = no_said (taken f) held taken_is text line.what spelled.1

  first : IfLine (first_line f.sent)
  first = first_said f.sent is.sent

  about : IfAbout (what_in (first_line f.sent))
  about = about_by (first_line f.sent) first

  response_said : (it : MResponse) → TellsTexts it → StepSaid f.me held (response_step f held it)
  response_said (response.Mailbox name place acl) tells = record_said f held is name place true (what_in (first_line f.sent)) tells.0 about
  response_said (response.Reserve name place) tells = record_said f held is name place false (what_in (first_line f.sent)) tells.0 about
  response_said (response.Delete name) tells = silent_said f held is
  response_said (response.Ok text) tells = ok_by_said text (first_line f.sent) first
  response_said (response.No text) tells = no_by_said text (first_line f.sent) first
  response_said (response.Bad text) tells = no_by_said text (first_line f.sent) first

  pub heard_said : (tag : Tag) (it : MResponse) → TellsTexts it → StepSaid f.me held (heard_step f held tag it)
  unfolding heard_step
  heard_said tag it tells = if_said f held is (is_answer f.sent tag) (response_step f held it) (response_said it tells)

-- ---- the link comes up first

pub new_said : (me : Location) (master : List ℕ) → IsPlaceText me → CanTellMaster (new_flows me master) []
new_said me master place = record { place = place; mailboxes = none_spelled; sent = tt; waiting = tt }

pub up_said : (f : Flows) (held : Names) → CanTellMaster f held → StepSaid f.me held (up_step f)
up_said f held is = does f held is _ refl refl refl is.mailboxes (resync_spelled, tt)

-- ---- what is handed out

pub handed_said : (me : Location) (held : Names) (step : FlowStep) → StepSaid me held step → CanTellMaster (handed held step).flows (held_with held step.entry)
handed_said me held step so = record {
  place = so.can.place;
  mailboxes = so.can.mailboxes;
  sent = all_append HasLineTexts step.flows.sent step.sends so.can.sent so.sends;
  waiting = so.can.waiting;
}

pub sends_spelled : (me : Location) (held : Names) (sends : List SentLine) → IsPlaceText me → HaveTexts held → AreLines sends
    → AllByRecursion HasCommandTexts (map (message_of me held) sends)
sends_spelled me held [] place are all = tt
sends_spelled me held (line ∷ sends) place are all = (line_texts me held line place (acl_there held are) all.0, sends_spelled me held sends place are all.1)
