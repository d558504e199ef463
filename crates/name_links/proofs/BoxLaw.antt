-- The UIDVALIDITYs of the mailboxes of a link: what holds of them holds when the link comes up first, and each event keeps it.
use Rattle.std.proofs.Common.{◌≡◌, ◌≢◌, ◌⊎◌, inl, inr, ℕ, ◌+◌, ◌≤◌, Bool, true, false, cond, List, [], ◌∷◌, ◌++◌, Option, None, Some, refl, sym, ap, subst, ◌∙◌, arith}
use Rattle.std.specs.List.{AllByRecursion}
use Rattle.std.specs.Ordering.{nat_cmp}
use Rattle.std.specs.Cmp.Lexicographic.{slice_cmp}
use Rattle.mail_message.specs.FirstAcl.{first_acl}
use Rattle.mur_base.proofs.MapLaws.{names_apart, same_or_other}
use Rattle.mur_base.specs.declared.home.Location.{Location}
use Rattle.link_msg.specs.declared.answer.AnswerBody.{AnswerBody}
use Rattle.mupdate_codec.specs.declared.command.MCommand.{MCommand}
use Rattle.mupdate_codec.specs.declared.command.MCommand.TheVariants as command
use Rattle.mupdate_codec.specs.declared.command.MResponse.{MResponse}
use Rattle.mupdate_codec.specs.declared.tag.Tag.{Tag}
use Rattle.node_record.specs.declared.held.Held.{Held}
use Rattle.node_record.specs.declared.backend.BackendRecord.{BackendRecord}
use Rattle.node_record.specs.declared.backend.BackendRecord.TheVariants as kept
use Rattle.node_record.specs.declared.master.MasterRecord.{MasterRecord}
use Rattle.node_record.specs.declared.master.MasterRecord.TheVariants as entry
use Rattle.node_record.specs.declared.table.State.{State}
use Rattle.node_record.specs.declared.table.State.TheVariants.{Bare}
use Rattle.node_record.specs.declared.table.Record.{Record}
use Rattle.node_record.specs.Held.{Names, held_at, has_content, held_after}
use Rattle.node_record.specs.Table.{record_at}
use Rattle.home_law.specs.Items.{Server, is_same_server}
use Rattle.home_law.specs.Link.{see}
use Rattle.home_law.specs.ManyNames.{Mailbox, SentLine as OpenLine}
use Rattle.home_law.specs.Rows.{mine_of}
use Rattle.name_flows.specs.declared.ask.NameAsk.{NameAsk}
use Rattle.name_flows.specs.declared.flows.Flows.{Flows}
use Rattle.name_flows.specs.declared.resync.Resync.{Resync}
use Rattle.name_flows.specs.declared.sent.SentLine.{SentLine}
use Rattle.name_flows.specs.Asked.{refusal, tested_by, asked_by, asked_step}
use Rattle.name_flows.specs.Steps.{FlowStep, held_with}
use Rattle.name_flows.proofs.OneStep.{held_placed, held_placed-other}
use Rattle.name_links.specs.Contents.{state_by, state_at, acl_in, new_box, command_fits, ContentHolds}
use Rattle.name_links.specs.Known.{known}
use Rattle.name_links.specs.Lines.{is_asked}
use Rattle.name_links.specs.LinkIs.{tagged_by, AreAnswers, AreSent, LinkHolds}
use Rattle.name_links.specs.OneLink.{OneLink, server_of, does, hears, table_by, takes}
use Rattle.name_links.specs.Serials.{serial_in, serial_at, uid_validity, Given, given_at, given_by, gives, IsGiven, AreApart, SerialsHold, BoxesHold, BoxesFirst, AsksKeepBoxes, HearsKeepsBoxes, TakesKeepsBoxes, OthersKeepBoxes, ServesKeepsBoxes, MailboxesDiffer}
use Rattle.name_links.proofs.ContentLaw.{step, leaves, told_by_ok}
use Rattle.name_links.proofs.ContentTakes.{turn, taken_fits, LineNow, it_now}
use Rattle.name_links.proofs.HearEvents.{same as same_tag, none_answers}
use Rattle.name_links.proofs.HeldTurn.{Becomes, same, brought, gone, moved, becomes, IsPlain, Makes, heard_entry}
use Rattle.name_links.proofs.LinkEvents.{line_is, none_sent}
use Rattle.name_links.proofs.OnWay.{item_fits}
use Rattle.name_links.proofs.PhaseFacts.{kept_state, again_kept}
use Rattle.name_links.proofs.SerialTurn.{serial_turns, serial_rises}
use Rattle.name_links.proofs.ServedLaw.{serial_kept, Served, untouched, served, served_is}
use Rattle.name_links.proofs.StateTurn.{StateTurn, as_was, now_bare, now_active, now_kept, now_none, states_stay}
use Rattle.name_links.proofs.TableTurn.{entry_of, Change, line_changes}

-- ---- UIDVALIDITYs through an entry of the backend

if_some : (t : Bool) (x u : ℕ) → (let o : Option ℕ = cond t (Some x) None in o ≡ Some u) → Some x ≡ Some u
if_some true x u e = e
if_some false x u e = cc

box_stays : (old new : Option Held) (u : ℕ) → Becomes old new → uid_validity new ≡ Some u → uid_validity old ≡ Some u
box_stays old new u (same e) f = sym (ap (λ (h : Option Held). uid_validity h) e) ∙ f
box_stays old new u (brought it p e had c g) f =
    ap (λ (h : Option Held). uid_validity h) e ∙ ap (λ (t : Bool). cond t (Some it.content.serial) None) had
    ∙ if_some (has_content p) it.content.serial u (sym (ap (λ (h : Option Held). uid_validity h) g) ∙ f)
box_stays old new u (gone e) f = let no : (let o : Option ℕ = None in o ≡ Some u) = sym (ap (λ (h : Option Held). uid_validity h) e) ∙ f in cc
box_stays old new u (moved server e) f = let no : (let o : Option ℕ = None in o ≡ Some u) = sym (ap (λ (h : Option Held). uid_validity h) e) ∙ f in cc

-- the serial of a name that is reserved at a server
pub reserved_serial : (b : Server) (r : Option Record) (s : ℕ) → state_by b r ≡ Some (Bare s) → serial_in r ≡ Some s
reserved_serial b None s e = cc
reserved_serial b (Some it) s e = by_test (is_same_server (it.place).server b) refl
  where
    by_test : (t : Bool) → is_same_server (it.place).server b ≡ t → serial_in (Some it) ≡ Some s
    by_test true f =
        let at : it.state ≡ Bare s = (let both : Some it.state ≡ Some (Bare s) = sym (ap (λ (t : Bool). cond t (Some it.state) None) f) ∙ e in cc) in
        ap (λ (z : State). serial_in (Some (record it { state = z }))) at
    by_test false f = let no : state_by b (Some it) ≡ None = rw f refl in cc

-- ---- a step of the backend

module _ (link : OneLink) (given : Given) (it : FlowStep) (downs : List (Tag × MResponse)) (me_is : it.flows.me ≡ link.flows.me) (old : BoxesHold link given) where
  abbrev held_then : Names
  held_then = held_with link.held it.entry

  moved_here : ((n : Mailbox) (acl : List ℕ) (u : ℕ) → acl_in (state_at link.table (server_of link) n) ≡ Some acl → uid_validity (held_at held_then n) ≡ Some u → IsGiven n u given)
      → (n : Mailbox) (acl : List ℕ) (u : ℕ) → acl_in (state_at link.table (it.flows.me).server n) ≡ Some acl → uid_validity (held_at held_then n) ≡ Some u → IsGiven n u given
  moved_here f n acl u e g = f n acl u (subst (λ (me : Location). acl_in (state_at link.table me.server n) ≡ Some acl) me_is e) g

  fewer_boxes : ((n : Mailbox) (u : ℕ) → uid_validity (held_at held_then n) ≡ Some u → uid_validity (held_at link.held n) ≡ Some u) → BoxesHold (does link downs it) given
  fewer_boxes was = record {
    low = λ n u e. old.low n u (was n u e);
    reserved = λ m n u e f. old.reserved m n u e (was n u f);
    once = λ m n u e f. old.once m n u (was m u e) (was n u f);
    given_here = moved_here (λ n acl u e f. old.given_here n acl u e (was n u f));
  }

  -- the mailbox is made under the serial of its name
  module _ (serials : SerialsHold link.table given) (name : Mailbox) (s : ℕ) (entry_is : it.entry ≡ Some (kept.Make name s (first_acl name)))
      (bare : state_at link.table (server_of link) name ≡ Some (Bare s)) where
    abbrev Case : Mailbox → ℕ → Type 0
    Case n u = ((n ≡ name) × (u ≡ s)) ⊎ ((n ≢ name) × (uid_validity (held_at link.held n) ≡ Some u))

    reserved_now : serial_at link.table name ≡ Some s
    reserved_now = reserved_serial (server_of link) (record_at link.table name) s bare

    which : (n : Mailbox) (u : ℕ) → uid_validity (held_at held_then n) ≡ Some u → Case n u
    which n u e = by_name (same_or_other (slice_cmp nat_cmp) names_apart n name)
      where
        by_name : (n ≡ name) ⊎ (n ≢ name) → Case n u
        by_name (inl own) =
            let now : Some s ≡ Some u = sym (ap (λ (h : Option Held). uid_validity h) (ap (λ (k : Option BackendRecord). held_at (held_with link.held k) name) entry_is ∙ held_placed link.held name (new_box name s)))
            ∙ ap (λ (k : Mailbox). uid_validity (held_at held_then k)) (sym own) ∙ e in
            inl (own, (let back : s ≡ u = cc in sym back))
        by_name (inr ne) =
            inr (ne, sym (ap (λ (h : Option Held). uid_validity h) (ap (λ (k : Option BackendRecord). held_at (held_with link.held k) n) entry_is ∙ held_placed-other link.held name n (new_box name s) ne)) ∙ e)

    low_by : (n : Mailbox) (u : ℕ) → Case n u → u ≤ link.table.serial
    low_by n u (inl c) = subst (λ (z : ℕ). z ≤ link.table.serial) (sym c.1) (serials.low name s reserved_now)
    low_by n u (inr c) = old.low n u c.1

    reserved_by : (m n : Mailbox) (u : ℕ) → serial_at link.table m ≡ Some u → Case n u → m ≡ n
    reserved_by m n u e (inl c) = serials.once m name s (subst (λ (z : ℕ). serial_at link.table m ≡ Some z) c.1 e) reserved_now ∙ sym c.0
    reserved_by m n u e (inr c) = old.reserved m n u e c.1

    new_is : (n : Mailbox) (u : ℕ) → u ≡ s → uid_validity (held_at link.held n) ≡ Some u → name ≡ n
    new_is n u e f = old.reserved name n s reserved_now (subst (λ (z : ℕ). uid_validity (held_at link.held n) ≡ Some z) e f)

    once_by : (m n : Mailbox) (u : ℕ) → Case m u → Case n u → m ≡ n
    once_by m n u (inl c) (inl d) = c.0 ∙ sym d.0
    once_by m n u (inl c) (inr d) = c.0 ∙ new_is n u c.1 d.1
    once_by m n u (inr c) (inl d) = sym (d.0 ∙ new_is m u d.1 c.1)
    once_by m n u (inr c) (inr d) = old.once m n u c.1 d.1

    given_by_case : (n : Mailbox) (acl : List ℕ) (u : ℕ) → acl_in (state_at link.table (server_of link) n) ≡ Some acl → Case n u → IsGiven n u given
    given_by_case n acl u e (inl c) =
        let none : acl_in (state_at link.table (server_of link) n) ≡ None = ap (λ (k : Mailbox). acl_in (state_at link.table (server_of link) k)) c.0 ∙ ap acl_in bare in cc
    given_by_case n acl u e (inr c) = old.given_here n acl u e c.1

    one_box : BoxesHold (does link downs it) given
    one_box = record {
      low = λ n u e. low_by n u (which n u e);
      reserved = λ m n u e f. reserved_by m n u e (which n u f);
      once = λ m n u e f. once_by m n u (which m u e) (which n u f);
      given_here = moved_here (λ n acl u e f. given_by_case n acl u e (which n u f));
    }

-- ---- an ask

module _ (flows : Flows) (held : Names) (ask : NameAsk) where
  tested_me : (body : Option AnswerBody) → ((tested_by flows ask body).flows.me ≡ flows.me) × ((tested_by flows ask body).entry ≡ None)
  tested_me (Some body) = (refl, refl)
  tested_me None = (refl, refl)

  asked_by_me : (r : Option Resync) → ((asked_by flows held ask r).flows.me ≡ flows.me) × ((asked_by flows held ask r).entry ≡ None)
  unfolding asked_by
  asked_by_me None = tested_me (refusal flows held ask.name ask.kind)
  asked_by_me (Some w) = (refl, refl)

  pub asked_me : ((asked_step flows held ask).flows.me ≡ flows.me) × ((asked_step flows held ask).entry ≡ None)
  unfolding asked_step
  asked_me = asked_by_me flows.resync

pub asks_boxes : AsksKeepBoxes
asks_boxes link given ask old =
    let me = asked_me link.flows link.held ask in
    fewer_boxes link given (asked_step link.flows link.held ask) link.downs me.0 old
    (λ n u e. subst (λ (k : Option BackendRecord). uid_validity (held_at (held_with link.held k) n) ≡ Some u) me.1 e)

-- ---- a response

module _ (link : OneLink) (given : Given) (it : Tag × MResponse) (downs : List (Tag × MResponse)) (holds : LinkHolds link) (c : ContentHolds link) (serials : SerialsHold link.table given)
    (old : BoxesHold link given) (e : link.downs ≡ it ∷ downs) (line : SentLine) (lines : List SentLine) (first : link.flows.sent ≡ line ∷ lines) where
  abbrev now : FlowStep
  now = step link it downs holds c e line lines first

  me_is : now.flows.me ≡ link.flows.me
  me_is = (leaves link it downs holds c e line lines first).me_is

  by_step : IsPlain link.flows.running link.held now ⊎ Makes link.flows line it.1 now → BoxesHold (hears link it downs) given
  by_step (inl plain) =
      fewer_boxes link given now downs me_is old
      (λ n u f. box_stays (held_at link.held n) (held_at (held_with link.held now.entry) n) u (becomes link.held holds.ready.held n now.entry plain.entry_is) f)
  by_step (inr made) =
      let told = told_by_ok link it downs holds c e line lines first made in
      let one : told.serial ≡ made.serial = (let both : Some told.serial ≡ Some made.serial = sym told.told ∙ made.told in cc) in
      one_box link given now downs me_is old serials made.name made.serial (ap (λ (s : FlowStep). s.entry) made.step_is)
      (subst (λ (s : ℕ). state_at link.table (server_of link) made.name ≡ Some (Bare s)) one told.reserved)

  hear_boxes : BoxesHold (hears link it downs) given
  hear_boxes = by_step (heard_entry link.flows link.held it.0 line lines first (same_tag link it downs holds.ready holds.is e line lines first) holds.ready.running it.1)

pub hears_boxes : HearsKeepsBoxes
hears_boxes link given it downs holds c serials old e = by_sent link.flows.sent refl
  where
    by_sent : (ls : List SentLine) → link.flows.sent ≡ ls → BoxesHold (hears link it downs) given
    by_sent [] first =
        absurd (none_answers it downs holds.is.tied.left (subst (λ (ds : List (Tag × MResponse)). AreAnswers [] ds holds.is.tied.left) e
        (subst (λ (ls : List SentLine). AreAnswers (tagged_by link.flows.found ls) link.downs holds.is.tied.left) first holds.is.tied.answers)))
    by_sent (line ∷ lines) first = hear_boxes link given it downs holds c serials old e line lines first

-- ---- a line that the master takes

pub given_more : (n : Mailbox) (u : ℕ) (given more : Given) → IsGiven n u given → IsGiven n u (given ++ more)
given_more n u [] more i = absurd i
given_more n u (g ∷ given) more (inl e) = inl e
given_more n u (g ∷ given) more (inr i) = inr (given_more n u given more i)

given_last : (n : Mailbox) (u : ℕ) (given more : Given) → IsGiven n u more → IsGiven n u (given ++ more)
given_last n u [] more i = i
given_last n u (g ∷ given) more i = inr (given_last n u given more i)

-- what is here stays, and no name is reserved under its serial
module _ (link : OneLink) (given : Given) (old : BoxesHold link given) (q : Server) (it : MCommand) (changed : Change link.table q it) (holds : LinkHolds link) where
  low_then : (n : Mailbox) (u : ℕ) → uid_validity (held_at link.held n) ≡ Some u → u ≤ (table_by link.table q it).serial
  low_then n u e = let h = old.low n u e in let rises = serial_rises link.table q it in omega (arith, h, rises)

  reserved_then : (m n : Mailbox) (u : ℕ) → serial_at (table_by link.table q it) m ≡ Some u → uid_validity (held_at link.held n) ≡ Some u → m ≡ n
  reserved_then m n u e f = by_case (serial_turns link.table holds.ready.table.order q it changed m u e)
    where
      by_case : (serial_at link.table m ≡ Some u) ⊎ (u ≡ link.table.serial + 1) → m ≡ n
      by_case (inl g) = old.reserved m n u g f
      by_case (inr g) = let h = old.low n u f in absurd (omega (arith, g, h))

pub others_boxes : OthersKeepBoxes
others_boxes link given q tag it line holds old ne e = record {
  low = low_then link given old q it (line_changes link.table q tag it line e) holds;
  reserved = reserved_then link given old q it (line_changes link.table q tag it line e) holds;
  once = old.once;
  given_here = λ n acl u f g.
      given_more n u given (gives link.table q it)
      (old.given_here n acl u (ap acl_in (sym (states_stay q (server_of link) ne link.table holds.ready.table.order it (line_changes link.table q tag it line e) n)) ∙ f) g);
}

module _ (link : OneLink) (given : Given) (it : Tag × MCommand) (ups : List (Tag × MCommand)) (holds : LinkHolds link) (c : ContentHolds link) (old : BoxesHold link given) (e : link.ups ≡ it ∷ ups)
    (line : Tag × OpenLine) (lines : List (Tag × OpenLine)) (first : holds.is.tied.left ≡ line ∷ lines) where
  abbrev b : Server
  b = server_of link

  changes : Change link.table b it.1
  changes = line_changes link.table b it.0 it.1 line.1 (line_is link it ups holds.ready holds.is e line lines first)

  given_new : (n : Mailbox) (u s : ℕ) (place : Location) (acl : List ℕ) → entry_of link.table b it.1 ≡ Some (entry.Active n place acl) → state_at link.table b n ≡ Some (Bare s)
      → held_at link.held n ≡ Some (new_box n s) → uid_validity (held_at link.held n) ≡ Some u → IsGiven n u (given ++ gives link.table b it.1)
  given_new n u s place acl gave bare made f =
      let is : s ≡ u = (let both : Some s ≡ Some u = sym (ap (λ (h : Option Held). uid_validity h) made) ∙ f in cc) in
      given_last n u given (gives link.table b it.1)
      (subst (λ (gs : Given). IsGiven n u gs)
      (sym (ap (λ (m : Option MasterRecord). given_by link.table m) gave ∙ ap (λ (z : Option ℕ). given_at n z) (reserved_serial b (record_at link.table n) s bare)))
      (inl (refl, is)))

  by_line : (n : Mailbox) (u : ℕ) (place : Location) (acl : List ℕ) (t : Bool) → entry_of link.table b it.1 ≡ Some (entry.Active n place acl)
      → command_fits link.table b link.held t (command.Activate n place acl) → item_fits (LineNow link it ups holds c e line lines first) t (command.Activate n place acl)
      → uid_validity (held_at link.held n) ≡ Some u → IsGiven n u (given ++ gives link.table b it.1)
  by_line n u place acl true gave f i g = given_new n u f.serial place acl gave f.reserved f.made g
  by_line n u place acl false gave f i g =
      let was = kept_state b (record_at link.table n) (again_kept (mine_of (see (known link.table n) b)) _ i) in
      given_more n u given (gives link.table b it.1) (old.given_here n was.0 u (ap acl_in was.1) g)

  given_turn : (n : Mailbox) (acl : List ℕ) (u : ℕ) (was now : Option State) → state_at link.table b n ≡ was → StateTurn link.table.serial it.1 (entry_of link.table b it.1) n was now
      → acl_in now ≡ Some acl → uid_validity (held_at link.held n) ≡ Some u → IsGiven n u (given ++ gives link.table b it.1)
  given_turn n acl u was now at (as_was f) g h = given_more n u given (gives link.table b it.1) (old.given_here n acl u (ap acl_in at ∙ ap acl_in (sym f) ∙ g) h)
  given_turn n acl u was now at (now_bare place is none f) g h = let no : (let k : Option (List ℕ) = None in k ≡ Some acl) = sym (ap acl_in f) ∙ g in cc
  given_turn n acl u was now at (now_active place list is gave f) g h =
      by_line n u place list (is_asked it.0) gave (subst (λ (k : MCommand). command_fits link.table b link.held (is_asked it.0) k) is (taken_fits link it ups holds c e line lines first))
      (subst (λ (k : MCommand). item_fits (LineNow link it ups holds c e line lines first) (is_asked it.0) k) is (it_now link it ups holds c e line lines first)) h
  given_turn n acl u was now at (now_kept list before f) g h = given_more n u given (gives link.table b it.1) (old.given_here n list u (ap acl_in (at ∙ before)) h)
  given_turn n acl u was now at (now_none f) g h = let no : (let k : Option (List ℕ) = None in k ≡ Some acl) = sym (ap acl_in f) ∙ g in cc

  take_boxes : BoxesHold (takes link it ups) (given ++ gives link.table b it.1)
  take_boxes = record {
    low = low_then link given old b it.1 changes holds;
    reserved = reserved_then link given old b it.1 changes holds;
    once = old.once;
    given_here = λ n acl u f g. given_turn n acl u (state_at link.table b n) (state_at (table_by link.table b it.1) b n) refl (turn link it ups holds c e line lines first n) f g;
  }

pub takes_boxes : TakesKeepsBoxes
takes_boxes link given it ups holds c old e = by_left holds.is.tied.left refl
  where
    by_left : (ls : List (Tag × OpenLine)) → holds.is.tied.left ≡ ls → BoxesHold (takes link it ups) (given ++ gives link.table (server_of link) it.1)
    by_left [] first =
        absurd (none_sent (server_of link) it ups (subst (λ (us : List (Tag × MCommand)). AreSent (server_of link) [] us) e
        (subst (λ (ls : List (Tag × OpenLine)). AreSent (server_of link) ls link.ups) first holds.is.tied.sent)))
    by_left (line ∷ lines) first = take_boxes link given it ups holds c old e line lines first

-- ---- a message step, and the link that comes up first

served_box : (old new : Option Held) → Served old new → uid_validity new ≡ uid_validity old
served_box old new (untouched e) = ap (λ (h : Option Held). uid_validity h) e
served_box old new (served it changes o p e) =
    ap (λ (h : Option Held). uid_validity h) e ∙ ap (λ (s : ℕ). cond (has_content it.phase) (Some s) None) (serial_kept it.content changes) ∙ sym (ap (λ (h : Option Held). uid_validity h) o)

pub serves_boxes : ServesKeepsBoxes
serves_boxes link given it old s = record {
  low = λ n u e. old.low n u (was n u e);
  reserved = λ m n u e f. old.reserved m n u e (was n u f);
  once = λ m n u e f. old.once m n u (was m u e) (was n u f);
  given_here = λ n acl u e f. old.given_here n acl u e (was n u f);
}
  where
    was : (n : Mailbox) (u : ℕ) → uid_validity (held_at (held_after link.held it) n) ≡ Some u → uid_validity (held_at link.held n) ≡ Some u
    was n u e = sym (served_box (held_at link.held n) (held_at (held_after link.held it) n) (served_is link.held it s n)) ∙ e

pub first_boxes : BoxesFirst
first_boxes me master = record { low = λ n u e. cc; reserved = λ m n u e f. cc; once = λ m n u e f. cc; given_here = λ n acl u e f. cc }

-- ---- what was given once is one mailbox's

not_given : (n : Mailbox) (u : ℕ) (given : Given) → AllByRecursion (λ (g : Mailbox × ℕ). g.1 ≢ u) given → IsGiven n u given → ⊥
not_given n u [] all i = i
not_given n u (g ∷ given) all (inl e) = all.0 e.1
not_given n u (g ∷ given) all (inr i) = not_given n u given all.1 i

given_once : (m n : Mailbox) (u : ℕ) (given : Given) → AreApart given → IsGiven m u given → IsGiven n u given → m ≡ n
given_once m n u [] apart i j = absurd i
given_once m n u (g ∷ given) apart (inl e) (inl f) = sym e.0 ∙ f.0
given_once m n u (g ∷ given) apart (inl e) (inr j) = absurd (not_given n u given (subst (λ (z : ℕ). AllByRecursion (λ (h : Mailbox × ℕ). h.1 ≢ z) given) e.1 apart.0) j)
given_once m n u (g ∷ given) apart (inr i) (inl f) = absurd (not_given m u given (subst (λ (z : ℕ). AllByRecursion (λ (h : Mailbox × ℕ). h.1 ≢ z) given) f.1 apart.0) i)
given_once m n u (g ∷ given) apart (inr i) (inr j) = given_once m n u given apart.1 i j

pub mailboxes_differ : MailboxesDiffer
mailboxes_differ link other given serials boxes others m n one two u e f g h = given_once m n u given serials.apart (boxes.given_here m one u e g) (others.given_here n two u f h)
