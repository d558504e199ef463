-- What the place of a CREATE or DELETE tells after its backend took the ask, the end of a resync, or the response to the line of its flow: it isn't its point.
use Rattle.std.proofs.Common.{◌≡◌, ℕ, Bool, true, false, not, ◌||◌, List, [], ◌∷◌, Option, None, Some, refl, sym, ◌∙◌, ap, subst}
use Rattle.imap_types.specs.declared.command.Tag.{Tag}
use Rattle.imap_types.specs.declared.request.Answer.{Answer}
use Rattle.link_msg.specs.declared.answer.AnswerBody.{AnswerBody}
use Rattle.link_msg.specs.declared.answer.AnswerBody.TheVariants.{NotNow, Moved, Unreached}
use Rattle.mupdate_codec.specs.declared.command.MResponse.{MResponse}
use Rattle.mupdate_codec.specs.declared.command.MResponse.TheVariants as response
use Rattle.mur_base.specs.declared.home.Location.{Location}
use Rattle.mur_model.specs.declared.session.Sess.{Sess}
use Rattle.mur_model.specs.declared.session.Turn.{Turn}
use Rattle.name_commands.specs.Moves.{Move, asked_move, asked_move_by, heard_move, heard_move_by, is_answered, is_kept, is_sent, reserved_move, tested_move}
use Rattle.name_commands.specs.Places.{NamePlace as name_at}
use Rattle.name_flows.specs.declared.ask.AskKind.{AskKind}
use Rattle.name_flows.specs.declared.ask.AskKind.TheVariants.{Create, Delete}
use Rattle.name_flows.specs.declared.ask.NameAsk.{NameAsk}
use Rattle.name_flows.specs.declared.flow.Flow.{Flow}
use Rattle.name_flows.specs.declared.flow.Stage.{Stage}
use Rattle.name_flows.specs.declared.flow.Stage.TheVariants.{Reserving, Making, Deactivating, Deleting}
use Rattle.name_flows.specs.declared.flows.Flows.{Flows}
use Rattle.name_flows.specs.declared.resync.Resync.{Resync}
use Rattle.name_flows.specs.Asked.{create_refusal, delete_refusal, delete_refusal_in, first_of, flow_for, refusal}
use Rattle.name_flows.specs.Creates.{serial_in}
use Rattle.name_flows.specs.Phases.{is_closing, is_open, pointer_in}
use Rattle.name_flows.specs.Running.{has_flow}
use Rattle.node_record.specs.Held.{Names, held_at}
use Rattle.point_links.specs.AtHome.{IsElsewhere}
use Rattle.point_links.specs.AtHome.IsElsewhere.{moved, not_now}
use Rattle.point_links.specs.Commands.{ClientCommand}
use Rattle.cluster_core.proofs.Commands.Knows.{Brings, GoesOnAtResponse, IsFlowOf, Knows, TellsAtResponse, Undecided, is_of_kind, kind_ask, kind_of}
use Rattle.cluster_core.proofs.Commands.Knows.GoesOnAtResponse.{puts_off, sends_on}
use Rattle.cluster_core.proofs.Commands.Knows.Knows.{is_decided, undecided}
use Rattle.cluster_core.proofs.Commands.Place.{Place, Place as place}
use Rattle.cluster_core.proofs.Steps.HomeSteps.{moved_to}

-- an answer goes to the frontend of its connection
abbrev pub AnswersFront : List ℕ → Move → Type 0
AnswersFront front (is_answered to id body) = to ≡ front
AnswersFront front (is_kept ask) = Unit {0}
AnswersFront front (is_sent name flow) = Unit {0}

-- ---- an ask is tested

-- the name can't be served now, or is elsewhere; or the line of its flow is sent
pub data IsTested (ask : NameAsk) (move : Move) : Type 0 where
  is_put_off : (body : AnswerBody) → IsElsewhere body → move ≡ is_answered ask.front ask.id body → IsTested ask move
  is_begun : move ≡ is_sent ask.name (flow_for ask) → IsTested ask move

-- where its backend has reached the master
abbrev pub AsksAreTested : Type 0
AsksAreTested = (flows : Flows) (held : Names) (ask : NameAsk) → flows.up ≡ true
    → IsTested ask (tested_move ask (refusal flows held ask.name ask.kind))

tested_by : (ask : NameAsk) (runs closing : Bool) (master : List ℕ)
    → IsTested ask (tested_move ask (first_of ((runs, NotNow) ∷ (not true, Unreached master) ∷ (closing, NotNow) ∷ [])))
tested_by ask true closing master = is_put_off NotNow not_now refl
tested_by ask false true master = is_put_off NotNow not_now refl
tested_by ask false false master = is_begun refl

deleted_by : (ask : NameAsk) (runs : Bool) (master : List ℕ)
    → IsTested ask (tested_move ask (first_of ((runs, NotNow) ∷ (not true, Unreached master) ∷ [])))
deleted_by ask true master = is_put_off NotNow not_now refl
deleted_by ask false master = is_begun refl

deleted_in : (flows : Flows) (held : Names) (ask : NameAsk) (pointer : Option (List ℕ)) → flows.up ≡ true
    → IsTested ask (tested_move ask (delete_refusal_in flows held ask.name pointer))
unfolding delete_refusal_in
deleted_in flows held ask (Some server) up = is_put_off (Moved server) (moved server) refl
deleted_in flows held ask None up =
    let runs = not (is_open (held_at held ask.name)) || has_flow flows ask.name in
    subst (λ (u : Bool). IsTested ask (tested_move ask (first_of ((runs, NotNow) ∷ (not u, Unreached flows.master) ∷ [])))) (sym up)
    (deleted_by ask runs flows.master)

each_tested : (flows : Flows) (held : Names) (ask : NameAsk) (kind : AskKind) → flows.up ≡ true
    → IsTested ask (tested_move ask (refusal flows held ask.name kind))
unfolding create_refusal delete_refusal
each_tested flows held ask Create up =
    subst (λ (u : Bool). IsTested ask (tested_move ask (first_of
    ((has_flow flows ask.name, NotNow) ∷ (not u, Unreached flows.master) ∷ (is_closing (held_at held ask.name), NotNow) ∷ [])))) (sym up)
    (tested_by ask (has_flow flows ask.name) (is_closing (held_at held ask.name)) flows.master)
each_tested flows held ask Delete up = deleted_in flows held ask (pointer_in (held_at held ask.name)) up

pub asks_are_tested : AsksAreTested
asks_are_tested flows held ask up = each_tested flows held ask ask.kind up

module _ (master first front : List ℕ) (c : ClientCommand) (tag : Tag) (told said : List Answer) (session : Sess) (name : List ℕ) (me : Location) where
  abbrev KnowsAt : Place → Type 0
  KnowsAt here = Knows master first front c tag told said session here

  -- it isn't decided yet
  abbrev pub UndecidedAt : Move → Type 0
  UndecidedAt move = Undecided master first front c (moved_to name me move) × AnswersFront front move

  -- the ask of a CREATE or DELETE
  abbrev pub IsAskOf : NameAsk → Type 0
  IsAskOf ask = (kind : AskKind) × (kind_of c.work ≡ Some kind) × (ask ≡ kind_ask front c kind)

  begins : (kind : AskKind) → is_of_kind kind (flow_for (kind_ask front c kind)).stage
  begins Create = tt
  begins Delete = tt

  begun_of : (ask : NameAsk) → IsAskOf ask → IsFlowOf front c ask.name (flow_for ask)
  begun_of ask (kind, does, is) = record {
    kind = kind;
    does = does;
    name_is = ap (λ (a : NameAsk). a.name) is;
    front_is = ap (λ (a : NameAsk). a.front) is;
    its = ap (λ (a : NameAsk). a.id) is;
    stage = subst (λ (a : NameAsk). is_of_kind kind (flow_for a).stage) (sym is) (begins kind);
  }

  tested_so : (ask : NameAsk) (move : Move) → IsAskOf ask → IsTested ask move → UndecidedAt move
  tested_so ask move of (is_put_off body elsewhere e) =
      subst (λ (m : Move). UndecidedAt m) (sym e) ((ap (λ (a : NameAsk). a.id) of.2, elsewhere), ap (λ (a : NameAsk). a.front) of.2)
  tested_so ask move of (is_begun e) =
      subst (λ (m : Move). UndecidedAt m) (sym e) (begun_of ask of, tt)

  pub tests_so : (flows : Flows) (held : Names) (ask : NameAsk) → IsAskOf ask → flows.up ≡ true
      → UndecidedAt (tested_move ask (refusal flows held ask.name ask.kind))
  tests_so flows held ask of up =
      tested_so ask (tested_move ask (refusal flows held ask.name ask.kind)) of (asks_are_tested flows held ask up)

  asks_by : (flows : Flows) (held : Names) (ask : NameAsk) (resync : Option Resync) → IsAskOf ask → flows.up ≡ true
      → UndecidedAt (asked_move_by flows held ask resync)
  asks_by flows held ask None of up = tests_so flows held ask of up
  asks_by flows held ask (Some it) of up = (of, tt)

  pub asks_so : (flows : Flows) (held : Names) (ask : NameAsk) → IsAskOf ask → flows.up ≡ true → UndecidedAt (asked_move flows held ask)
  asks_so flows held ask of up = asks_by flows held ask flows.resync of up

  -- ---- the end of a resync

  record IsWaitOf (ask : NameAsk) : Type 0 where
    of : IsAskOf ask
    said_is : said ≡ told
    was_is : c.was ≡ session

  wait_of : (ask : NameAsk) → KnowsAt (place.is_at me (name_at.waits ask)) → IsWaitOf ask
  wait_of ask (undecided said_is was_is tells) = record { of = tells; said_is = said_is; was_is = was_is }
  wait_of ask (is_decided turn said_is session_is ends_so brings) = absurd brings

  pub tests_on : (flows : Flows) (held : Names) (ask : NameAsk) → KnowsAt (place.is_at me (name_at.waits ask)) → flows.up ≡ true
      → KnowsAt (moved_to name me (tested_move ask (refusal flows held ask.name ask.kind)))
      × AnswersFront front (tested_move ask (refusal flows held ask.name ask.kind))
  tests_on flows held ask knows up =
      let waits = wait_of ask knows in
      let tests = tests_so flows held ask waits.of up in
      (undecided waits.said_is waits.was_is tests.0, tests.1)

  -- ---- the response to the line of its flow

  -- a flow goes on only behind the OK to RESERVE or DEACTIVATE
  abbrev GoesOn : List ℕ → Flow → AskKind → Flow → Type 0
  GoesOn name flow kind later = (stage : Stage) × is_of_kind kind stage × (later ≡ record flow { stage = stage })

  goes_on_by : (name : List ℕ) (flow later : Flow) (kind : AskKind) (stage : Stage) (it : MResponse) → is_of_kind kind stage
      → heard_move_by name flow stage it ≡ Some (is_sent name later) → GoesOn name flow kind later
  goes_on_by name flow later Create Reserving (response.Ok text) of e = by (serial_in text) e
    where
      by : (found : Option ℕ) → Some (reserved_move name flow found) ≡ Some (is_sent name later) → GoesOn name flow Create later
      by None e = cc
      by (Some serial) e = (Making, tt, (let same : later ≡ record flow { stage = Making } = cc in same))
  goes_on_by name flow later Create Reserving (response.No text) of e = cc
  goes_on_by name flow later Create Reserving (response.Bad text) of e = cc
  goes_on_by name flow later Create Reserving (response.Reserve n at) of e = cc
  goes_on_by name flow later Create Reserving (response.Mailbox n at acl) of e = cc
  goes_on_by name flow later Create Reserving (response.Delete n) of e = cc
  goes_on_by name flow later Create Making (response.Ok text) of e = cc
  goes_on_by name flow later Create Making (response.No text) of e = cc
  goes_on_by name flow later Create Making (response.Bad text) of e = cc
  goes_on_by name flow later Create Making (response.Reserve n at) of e = cc
  goes_on_by name flow later Create Making (response.Mailbox n at acl) of e = cc
  goes_on_by name flow later Create Making (response.Delete n) of e = cc
  goes_on_by name flow later Create Deactivating it of e = absurd of
  goes_on_by name flow later Create Deleting it of e = absurd of
  goes_on_by name flow later Delete Reserving it of e = absurd of
  goes_on_by name flow later Delete Making it of e = absurd of
  goes_on_by name flow later Delete Deactivating (response.Ok text) of e = (Deleting, tt, (let same : later ≡ record flow { stage = Deleting } = cc in same))
  goes_on_by name flow later Delete Deactivating (response.No text) of e = cc
  goes_on_by name flow later Delete Deactivating (response.Bad text) of e = cc
  goes_on_by name flow later Delete Deactivating (response.Reserve n at) of e = cc
  goes_on_by name flow later Delete Deactivating (response.Mailbox n at acl) of e = cc
  goes_on_by name flow later Delete Deactivating (response.Delete n) of e = cc
  goes_on_by name flow later Delete Deleting (response.Ok text) of e = cc
  goes_on_by name flow later Delete Deleting (response.No text) of e = cc
  goes_on_by name flow later Delete Deleting (response.Bad text) of e = cc
  goes_on_by name flow later Delete Deleting (response.Reserve n at) of e = cc
  goes_on_by name flow later Delete Deleting (response.Mailbox n at acl) of e = cc
  goes_on_by name flow later Delete Deleting (response.Delete n) of e = cc

  same_move : {one other : Move} → Some one ≡ Some other → one ≡ other
  same_move e = cc

  later_of : (mailbox : List ℕ) (flow later : Flow) (of : IsFlowOf front c mailbox flow) → GoesOn mailbox flow of.kind later → IsFlowOf front c mailbox later
  later_of mailbox flow later of (stage, fits, is) =
      subst (λ (f : Flow). IsFlowOf front c mailbox f) (sym is)
      (record { kind = of.kind; does = of.does; name_is = of.name_is; front_is = of.front_is; its = of.its; stage = fits })

  goes_so : (mailbox : List ℕ) (flow : Flow) (it : MResponse) (move : Move) → heard_move mailbox flow it ≡ Some move → IsFlowOf front c mailbox flow
      → GoesOnAtResponse mailbox flow it → UndecidedAt move
  goes_so mailbox flow it move is of (puts_off heard) =
      subst (λ (m : Move). UndecidedAt m) (same_move (sym heard ∙ is)) ((of.its, not_now), of.front_is)
  goes_so mailbox flow it move is of (sends_on later heard) =
      subst (λ (m : Move). UndecidedAt m) (same_move (sym heard ∙ is))
      (later_of mailbox flow later of (goes_on_by mailbox flow later of.kind flow.stage it of.stage heard), tt)

  ends_so : (mailbox : List ℕ) (flow : Flow) (it : MResponse) (move : Move) (turn : Turn) → heard_move mailbox flow it ≡ Some move
      → TellsAtResponse master front c mailbox flow it turn → Brings master first front c (moved_to name me move) turn × AnswersFront front move
  ends_so mailbox flow it move turn is tells =
      subst (λ (m : Move). Brings master first front c (moved_to name me m) turn × AnswersFront front m) (same_move (sym tells.ended ∙ is))
      ((tells.its, tells.tells), tells.front_is)

  pub hears_on : (mailbox : List ℕ) (flow : Flow) (it : MResponse) (move : Move) → KnowsAt (place.is_at me (name_at.hears mailbox flow it))
      → heard_move mailbox flow it ≡ Some move → KnowsAt (moved_to name me move) × AnswersFront front move
  hears_on mailbox flow it move (undecided said_is was_is tells) is =
      let goes = goes_so mailbox flow it move is tells.0 tells.1 in (undecided said_is was_is goes.0, goes.1)
  hears_on mailbox flow it move (is_decided turn said_is session_is turn_ends brings) is =
      let ended = ends_so mailbox flow it move turn is brings in (is_decided turn said_is session_is turn_ends ended.0, ended.1)
