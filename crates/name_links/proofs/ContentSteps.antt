-- A step of the backend keeps what holds of a link's contents.
use Rattle.std.proofs.Common.{◌≡◌, ◌≢◌, ◌⊎◌, inl, inr, ℕ, Bool, true, false, ◌||◌, List, [], ◌∷◌, ◌++◌, map, Option, None, Some, refl, sym, ap, subst, ◌∙◌}
use Rattle.std.specs.List.{flat_map, AllByRecursion}
use Rattle.std.specs.Ordering.{nat_cmp}
use Rattle.std.specs.Cmp.Lexicographic.{slice_cmp}
use Rattle.mail_message.specs.FirstAcl.{first_acl}
use Rattle.mur_base.specs.Map.{value_at, IsInOrder}
use Rattle.mur_base.proofs.MapLaws.{names_apart, same_or_other}
use Rattle.mupdate_codec.specs.declared.command.MCommand.{MCommand}
use Rattle.mupdate_codec.specs.declared.command.MCommand.TheVariants as command
use Rattle.mupdate_codec.specs.declared.command.MResponse.{MResponse}
use Rattle.mupdate_codec.specs.declared.tag.Tag.{Tag}
use Rattle.node_record.specs.declared.held.Held.{Held}
use Rattle.node_record.specs.declared.backend.BackendRecord.{BackendRecord}
use Rattle.node_record.specs.declared.backend.BackendRecord.TheVariants as entry
use Rattle.node_record.specs.declared.table.State.TheVariants.{Bare}
use Rattle.node_record.specs.Held.{Names, held_at}
use Rattle.node_record.specs.Table.{MailboxTable, record_at}
use Rattle.home_law.specs.Items.{Server, Mine, mine, bare, making, Item, again, Ctl}
use Rattle.home_law.specs.Link.{see}
use Rattle.home_law.specs.LinkOk.{EachItem}
use Rattle.home_law.specs.ManyNames.{Mailbox, SentLine as OpenLine}
use Rattle.home_law.specs.Rows.{mine_of, is_kept, is_creating as is_creating_name, control_ok, line_ok}
use Rattle.name_flows.specs.declared.flow.Flow.{Flow}
use Rattle.name_flows.specs.declared.flow.Stage.{Stage}
use Rattle.name_flows.specs.declared.flow.Stage.TheVariants.{Reserving, Making, Deactivating, Deleting}
use Rattle.name_flows.specs.declared.sent.Sent.{Sent}
use Rattle.name_flows.specs.declared.sent.Sent.TheVariants.{List as List_line, Reserve, Make, Again, Deactivate, Delete, Wipe, Find}
use Rattle.name_flows.specs.declared.sent.SentLine.{SentLine}
use Rattle.name_flows.specs.Heard.{taken}
use Rattle.name_flows.specs.Lines.{acl_at, command_of}
use Rattle.name_flows.specs.OneName.{phase_in, flow_in, ctl_of}
use Rattle.name_flows.specs.Phases.{is_open, is_closing as is_closed}
use Rattle.name_flows.specs.Running.{flow_at, has_stage}
use Rattle.name_flows.specs.Steps.{FlowStep, held_with, handed}
use Rattle.name_flows.proofs.OneStep.{held_placed, held_placed-other, flow_goes_on-other}
use Rattle.name_links.specs.Contents.{state_at, acl_in, HasAcl, new_box, IsNew, command_fits, LineFits, TellsSerial, answer_fits, EachAnswer, ContentHolds}
use Rattle.name_links.specs.Known.{known}
use Rattle.name_links.specs.Lines.{is_asked}
use Rattle.name_links.specs.LinkIs.{tagged_line, tagged_lines, AreAnswers, is_tagged_as, IsTagged, LinkHolds}
use Rattle.name_links.specs.OneLink.{OneLink, server_of, up_items, back_of, message_of, does}
use Rattle.name_links.proofs.HeldTurn.{Becomes, becomes, SendFits, IsPlain, Makes}
use Rattle.name_links.proofs.OnWay.{all_append, all_first, all_both, item_fits, ItemFits, lines_on_way, answer_more}
use Rattle.name_links.proofs.PhaseFacts.{mine_mailbox, mine_bare, IsThere, mailbox_there, open_acl, acl_stays, made_stays, home_fits, making_creates, make_creates, again_kept, again_there}
use Rattle.name_links.proofs.Sends.{Leaves}

-- what holds of the contents of a link, by its parts
pub record Parts (table : MailboxTable) (b : Server) (held : Names) (running : List (Mailbox × Flow)) (ups : List (Tag × MCommand)) (lines : List (Tag × OpenLine))
    (downs : List (Tag × MResponse)) : Type 0 where
  pub mailboxes : (n : Mailbox) (acl : List ℕ) → acl_in (state_at table b n) ≡ Some acl → HasAcl (held_at held n) acl
  pub making : (n : Mailbox) (serial : ℕ) → state_at table b n ≡ Some (Bare serial) → has_stage Making (value_at (slice_cmp nat_cmp) running n) ≡ true → held_at held n ≡ Some (new_box n serial)
  pub lines_are : AllByRecursion (LineFits table b held) ups
  pub answers_are : EachAnswer (answer_fits table b) lines downs

pub parts_of : (link : OneLink) → ContentHolds link → Parts link.table (server_of link) link.held link.flows.running link.ups (tagged_lines link.flows) link.downs
parts_of link c = record { mailboxes = c.mailboxes; making = c.making; lines_are = c.lines; answers_are = c.answers }

pub holds_of : (link : OneLink) → Parts link.table (server_of link) link.held link.flows.running link.ups (tagged_lines link.flows) link.downs → ContentHolds link
holds_of link p = record { mailboxes = p.mailboxes; making = p.making; lines = p.lines_are; answers = p.answers_are }

-- the flow that waits for ACTIVATE's answer
pub waits_making : (f : Option Flow) → has_stage Making f ≡ true → flow_in f ≡ making
waits_making None e = cc
waits_making (Some flow) e = by_stage flow.stage refl
  where
    by_stage : (s : Stage) → flow.stage ≡ s → flow_in (Some flow) ≡ making
    by_stage Reserving f = let no : has_stage Making (Some flow) ≡ false = rw f refl in cc
    by_stage Making f = rw f refl
    by_stage Deactivating f = let no : has_stage Making (Some flow) ≡ false = rw f refl in cc
    by_stage Deleting f = let no : has_stage Making (Some flow) ≡ false = rw f refl in cc

module _ (link : OneLink) (step : FlowStep) (downs : List (Tag × MResponse)) (lines left : List (Tag × OpenLine)) (leaves : Leaves link.flows.me link.held step lines)
    (answers : AreAnswers lines downs left) (next : LinkHolds (does link downs step))
    (old : Parts link.table (step.flows.me).server link.held link.flows.running link.ups lines downs) where
  abbrev b : Server
  b = (step.flows.me).server

  abbrev held_then : Names
  held_then = held_with link.held step.entry

  abbrev mine_at : Mailbox → Mine
  mine_at n = mine_of (see (known link.table n) b)

  -- what `home_law` says of each name then

  abbrev ctl_then : Mailbox → Ctl
  ctl_then n = ctl_of true held_then (handed link.held step).flows n

  control_then : (n : Mailbox) → control_ok (mine_at n) (ctl_then n) ≡ true
  unfolding back_of
  control_then n = (next.is.named n).control

  abbrev LineThen : Mailbox → Item → Type 0
  LineThen n x = line_ok (mine_at n) (ctl_then n) x ≡ true

  ups_then : (n : Mailbox) → EachItem (LineThen n) (flat_map (up_items b n) (link.ups ++ map (message_of step.flows.me link.held) step.sends))
  unfolding back_of
  ups_then n = (next.is.named n).ups

  -- of each line that was on its way
  lines_then : AllByRecursion (ItemFits LineThen) link.ups
  lines_then =
      all_first (ItemFits LineThen) link.ups (map (message_of step.flows.me link.held) step.sends)
      (lines_on_way LineThen b next.is.tied.left (link.ups ++ map (message_of step.flows.me link.held) step.sends) next.is.tied.sent ups_then)

  answers_then : EachAnswer (answer_fits link.table b) (tagged_lines (handed link.held step).flows) downs
  answers_then =
      subst (λ (ls : List (Tag × OpenLine)). EachAnswer (answer_fits link.table b) ls downs) (sym leaves.lines_are)
      (answer_more (answer_fits link.table b) lines (map (tagged_line false) step.sends) downs left answers old.answers_are)

  sends_with : (P : Tag × MCommand → Type 0) (Q : SentLine → Type 0) → ((line : SentLine) → IsTagged line → Q line → P (message_of step.flows.me link.held line))
      → (sends : List SentLine) → AllByRecursion IsTagged sends → AllByRecursion Q sends → AllByRecursion P (map (message_of step.flows.me link.held) sends)
  sends_with P Q f [] t q = tt
  sends_with P Q f (line ∷ sends) t q = (f line t.0 q.0, sends_with P Q f sends t.1 q.1)

  -- the phase of a mailbox, by the record
  there_then : (n : Mailbox) (acl : List ℕ) → acl_in (state_at link.table b n) ≡ Some acl → IsThere (held_at held_then n)
  there_then n acl e = mailbox_there (held_at held_then n) (mine_at n) (mine_mailbox b (record_at link.table n) acl e) (home_fits (mine_at n) (ctl_then n) (control_then n))

  creating_then : (n : Mailbox) → has_stage Making (value_at (slice_cmp nat_cmp) step.flows.running n) ≡ true → is_creating_name (phase_in (held_at held_then n)) ≡ true
  creating_then n e = making_creates (mine_at n) (ctl_then n) (control_then n) (waits_making (flow_at step.flows n) e)

  -- ---- no mailbox is made

  module _ (order : IsInOrder (slice_cmp nat_cmp) link.held) (plain : IsPlain link.flows.running link.held step) where
    turn : (n : Mailbox) → Becomes (held_at link.held n) (held_at held_then n)
    turn n = becomes link.held order n step.entry plain.entry_is

    line_stays : (t : Bool) (it : MCommand) → command_fits link.table b link.held t it → item_fits LineThen t it → command_fits link.table b held_then t it
    line_stays true (command.Activate n place acl) c i =
        record { serial = c.serial; reserved = c.reserved; made = made_stays (held_at link.held n) (held_at held_then n) (turn n) (make_creates (mine_at n) (ctl_then n) i) ∙ c.made; first = c.first }
    line_stays false (command.Activate n place acl) c i =
        acl_stays (held_at link.held n) (held_at held_then n) acl (turn n) (again_there (mine_at n) (ctl_then n) (held_at held_then n) refl i) c
    line_stays t it c i = tt

    again_sent : (m : Mailbox) → step.entry ≡ None → is_open (held_at link.held m) || is_closed (held_at link.held m) ≡ true → HasAcl (held_at held_then m) (acl_at link.held m)
    again_sent m e f = subst (λ (x : Option BackendRecord). HasAcl (held_at (held_with link.held x) m) (acl_at link.held m)) (sym e) (open_acl (held_at link.held m) f)

    send_fits : (t : Bool) (what : Sent) → is_tagged_as t what → SendFits link.held step.entry what → command_fits link.table b held_then t (command_of step.flows.me link.held what)
    send_fits true (Again m) t f = cc
    send_fits false (Again m) t f = again_sent m f.0 f.1
    send_fits t (Make m) g f = absurd f
    send_fits t List_line g f = tt
    send_fits t (Reserve m) g f = tt
    send_fits t (Deactivate m) g f = tt
    send_fits t (Delete m) g f = tt
    send_fits t (Wipe m) g f = tt
    send_fits t (Find m) g f = tt

    pub plain_keeps : Parts link.table b held_then step.flows.running (link.ups ++ map (message_of step.flows.me link.held) step.sends) (tagged_lines (handed link.held step).flows) downs
    plain_keeps = record {
      mailboxes = λ n acl e. acl_stays (held_at link.held n) (held_at held_then n) acl (turn n) (there_then n acl e) (old.mailboxes n acl e);
      making = λ n serial e w. made_stays (held_at link.held n) (held_at held_then n) (turn n) (creating_then n w) ∙ old.making n serial e (plain.flows_are n w);
      lines_are =
          all_append (LineFits link.table b held_then) link.ups (map (message_of step.flows.me link.held) step.sends)
          (all_both (LineFits link.table b link.held) (ItemFits LineThen) (LineFits link.table b held_then) (λ it c i. line_stays (is_asked it.0) it.1 c i) link.ups old.lines_are lines_then)
          (sends_with (LineFits link.table b held_then) (λ line. SendFits link.held step.entry line.what) (λ line t f. send_fits (is_asked line.tag) line.what t f) step.sends leaves.tagged plain.sends_are);
      answers_are = answers_then;
    }

  -- ---- the mailbox is made

  module _ (line : SentLine) (it : MResponse) (made : Makes link.flows line it step) (told : TellsSerial link.table b made.name made.text) where
    abbrev at_name : Held
    at_name = new_box made.name made.serial

    entry_is : step.entry ≡ Some (entry.Make made.name made.serial (first_acl made.name))
    entry_is = ap (λ (s : FlowStep). s.entry) made.step_is

    sends_are : step.sends ≡ record { tag = line.tag; what = Make made.name } ∷ []
    sends_are = ap (λ (s : FlowStep). s.sends) made.step_is

    reserved_is : state_at link.table b made.name ≡ Some (Bare made.serial)
    reserved_is =
        let one : told.serial ≡ made.serial = (let both : Some told.serial ≡ Some made.serial = sym told.told ∙ made.told in cc) in
        subst (λ (s : ℕ). state_at link.table b made.name ≡ Some (Bare s)) one told.reserved

    bare_one : (s : ℕ) → state_at link.table b made.name ≡ Some (Bare s) → s ≡ made.serial
    bare_one s e = let both : Some (Bare s) ≡ Some (Bare made.serial) = sym e ∙ reserved_is in cc

    made_now : held_at held_then made.name ≡ Some at_name
    made_now = ap (λ (e : Option BackendRecord). held_at (held_with link.held e) made.name) entry_is ∙ held_placed link.held made.name at_name

    other_now : (n : Mailbox) → n ≢ made.name → held_at held_then n ≡ held_at link.held n
    other_now n ne = ap (λ (e : Option BackendRecord). held_at (held_with link.held e) n) entry_is ∙ held_placed-other link.held made.name n at_name ne

    flows_now : (n : Mailbox) → n ≢ made.name → has_stage Making (value_at (slice_cmp nat_cmp) step.flows.running n) ≡ true
        → has_stage Making (value_at (slice_cmp nat_cmp) link.flows.running n) ≡ true
    flows_now n ne e =
        subst (λ (h : Option Flow). has_stage Making h ≡ true) (ap (λ (s : FlowStep). flow_at s.flows n) made.step_is ∙ flow_goes_on-other (taken link.flows) made.name n Making ne) e

    mailboxes_by : (n : Mailbox) (acl : List ℕ) → (n ≡ made.name) ⊎ (n ≢ made.name) → acl_in (state_at link.table b n) ≡ Some acl → HasAcl (held_at held_then n) acl
    mailboxes_by n acl (inl e) f =
        let none : acl_in (state_at link.table b n) ≡ None = ap (λ (k : Mailbox). acl_in (state_at link.table b k)) e ∙ ap acl_in reserved_is in cc
    mailboxes_by n acl (inr ne) f = subst (λ (h : Option Held). HasAcl h acl) (sym (other_now n ne)) (old.mailboxes n acl f)

    making_by : (n : Mailbox) (s : ℕ) → (n ≡ made.name) ⊎ (n ≢ made.name) → state_at link.table b n ≡ Some (Bare s)
        → has_stage Making (value_at (slice_cmp nat_cmp) step.flows.running n) ≡ true → held_at held_then n ≡ Some (new_box n s)
    making_by n s (inl e) f w =
        subst (λ (k : Mailbox). state_at link.table b k ≡ Some (Bare s) → held_at held_then k ≡ Some (new_box k s)) (sym e)
        (λ g. made_now ∙ ap (λ (z : ℕ). Some (new_box made.name z)) (sym (bare_one s g))) f
    making_by n s (inr ne) f w = other_now n ne ∙ old.making n s f (flows_now n ne w)

    new_by : (n : Mailbox) (acl : List ℕ) → (n ≡ made.name) ⊎ (n ≢ made.name) → IsNew link.table b link.held n acl → IsNew link.table b held_then n acl
    new_by n acl (inl e) c = record {
      serial = c.serial;
      reserved = c.reserved;
      made = subst (λ (k : Mailbox). state_at link.table b k ≡ Some (Bare c.serial) → held_at held_then k ≡ Some (new_box k c.serial)) (sym e)
          (λ g. made_now ∙ ap (λ (z : ℕ). Some (new_box made.name z)) (sym (bare_one c.serial g))) c.reserved;
      first = c.first;
    }
    new_by n acl (inr ne) c = record { serial = c.serial; reserved = c.reserved; made = other_now n ne ∙ c.made; first = c.first }

    again_by : (n : Mailbox) (acl : List ℕ) → (n ≡ made.name) ⊎ (n ≢ made.name) → HasAcl (held_at link.held n) acl → LineThen n again → HasAcl (held_at held_then n) acl
    unfolding is_kept
    again_by n acl (inl e) c i =
        let at : mine_at n ≡ mine bare = ap mine_at e ∙ mine_bare b (record_at link.table made.name) made.serial reserved_is in
        let no : is_kept (mine bare) ≡ true = subst (λ (m : Mine). is_kept m ≡ true) at (again_kept (mine_at n) (ctl_then n) i) in cc
    again_by n acl (inr ne) c i = subst (λ (h : Option Held). HasAcl h acl) (sym (other_now n ne)) c

    name_or_other : (n : Mailbox) → (n ≡ made.name) ⊎ (n ≢ made.name)
    name_or_other n = same_or_other (slice_cmp nat_cmp) names_apart n made.name

    line_then : (t : Bool) (c : MCommand) → command_fits link.table b link.held t c → item_fits LineThen t c → command_fits link.table b held_then t c
    line_then true (command.Activate n place acl) c i = new_by n acl (name_or_other n) c
    line_then false (command.Activate n place acl) c i = again_by n acl (name_or_other n) c i
    line_then t c f i = tt

    make_fits : is_asked line.tag ≡ true → AllByRecursion (LineFits link.table b held_then) (map (message_of step.flows.me link.held) (record { tag = line.tag; what = Make made.name } ∷ []))
    make_fits t = (by_tag (is_asked line.tag) t, tt)
      where
        by_tag : (u : Bool) → u ≡ true → command_fits link.table b held_then u (command.Activate made.name step.flows.me (first_acl made.name))
        by_tag true e = record { serial = made.serial; reserved = reserved_is; made = made_now; first = refl }
        by_tag false e = cc

    make_tagged : is_asked line.tag ≡ true
    make_tagged = let all : AllByRecursion IsTagged (record { tag = line.tag; what = Make made.name } ∷ []) = subst (λ (ls : List SentLine). AllByRecursion IsTagged ls) sends_are leaves.tagged in all.0

    pub made_keeps : Parts link.table b held_then step.flows.running (link.ups ++ map (message_of step.flows.me link.held) step.sends) (tagged_lines (handed link.held step).flows) downs
    made_keeps = record {
      mailboxes = λ n acl e. mailboxes_by n acl (name_or_other n) e;
      making = λ n s e w. making_by n s (name_or_other n) e w;
      lines_are =
          all_append (LineFits link.table b held_then) link.ups (map (message_of step.flows.me link.held) step.sends)
          (all_both (LineFits link.table b link.held) (ItemFits LineThen) (LineFits link.table b held_then) (λ c f i. line_then (is_asked c.0) c.1 f i) link.ups old.lines_are lines_then)
          (subst (λ (ls : List SentLine). AllByRecursion (LineFits link.table b held_then) (map (message_of step.flows.me link.held) ls)) (sym sends_are) (make_fits make_tagged));
      answers_are = answers_then;
    }
