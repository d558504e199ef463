-- A line that the master takes keeps what holds of a link's contents.
use Rattle.std.proofs.Common.{◌≡◌, ℕ, ◌+◌, Bool, true, false, cond, nat_eq, List, [], ◌∷◌, ◌++◌, map, filter, Option, None, Some, refl, sym, ap, subst, ◌∙◌}
use Rattle.std.specs.List.{flat_map, AllByRecursion}
use Rattle.std.specs.Cmp.Lexicographic.{pointwise}
use Rattle.grammar.specs.Numbers.{decimal_text}
use Rattle.mur_base.specs.declared.home.Location.{Location}
use Rattle.mupdate_codec.specs.declared.command.MCommand.{MCommand}
use Rattle.mupdate_codec.specs.declared.command.MCommand.TheVariants as command
use Rattle.mupdate_codec.specs.declared.command.MResponse.{MResponse}
use Rattle.mupdate_codec.specs.declared.command.MResponse.TheVariants as response
use Rattle.mupdate_codec.specs.declared.tag.Tag.{Tag}
use Rattle.node_record.specs.declared.held.Held.{Held}
use Rattle.node_record.specs.declared.master.MasterRecord.{MasterRecord}
use Rattle.node_record.specs.declared.table.State.{State}
use Rattle.node_record.specs.declared.table.State.TheVariants.{Bare, Kept, Active}
use Rattle.node_record.specs.declared.table.Record.{Record}
use Rattle.node_record.specs.Held.{held_at}
use Rattle.node_record.specs.Table.{Records, MailboxTable, record_at}
use Rattle.master_core.specs.declared.refusal.Refusal.{Refusal}
use Rattle.master_core.specs.declared.sender.Sender.TheVariants.{Backend}
use Rattle.master_core.specs.Records.{listed_line, is_listed, found_line}
use Rattle.master_core.specs.Refusals.{reserve_refusal, activate_refusal, deactivate_refusal, delete_refusal}
use Rattle.master_core.specs.Replies.{done, reserve_by, activate_by, deactivate_by, delete_by, reserve_reply, activate_reply, deactivate_reply, delete_reply, find_reply, list_reply, reply_to}
use Rattle.master_core.specs.Step.{table_with}
use Rattle.home_law.specs.Items.{Server, is_same_server, Mine, HomeFlow, making, Item, Ctl}
use Rattle.home_law.specs.Link.{see}
use Rattle.home_law.specs.LinkOk.{EachItem}
use Rattle.home_law.specs.ManyNames.{Mailbox, SentLine as OpenLine, sent_list, sent_reserve, sent_make, sent_again, sent_deactivate, sent_delete, sent_wipe, sent_find, with_line, downs_of}
use Rattle.home_law.specs.Rows.{mine_of, is_bare, is_reserving, answer_ok, line_ok}
use Rattle.name_flows.specs.declared.flow.Stage.TheVariants.{Making}
use Rattle.name_flows.specs.OneName.{ctl_of}
use Rattle.name_flows.specs.Running.{flow_at, has_stage}
use Rattle.name_links.specs.Answers.{answers_to}
use Rattle.name_links.specs.Contents.{state_by, state_at, acl_in, HasAcl, new_box, command_fits, LineFits, TellsSerial, answer_fits, EachAnswer, ContentHolds, TakesKeepsContents}
use Rattle.name_links.specs.Known.{known}
use Rattle.name_links.specs.Lines.{is_asked, places_of, backend_line}
use Rattle.name_links.specs.LinkIs.{tagged_lines, AreSent, LinkHolds}
use Rattle.name_links.specs.OneLink.{OneLink, server_of, up_items, told_of, back_of, under, table_by, takes}
use Rattle.name_links.proofs.ContentSteps.{waits_making}
use Rattle.name_links.proofs.EachCommand.{some_is, if_so}
use Rattle.name_links.proofs.LineAnswers.{serial_again, serial_left, next_serial}
use Rattle.name_links.proofs.LinkEvents.{tag_is, line_is, none_sent}
use Rattle.name_links.proofs.LinkLaw.{takes_law}
use Rattle.name_links.proofs.OnWay.{all_both, item_fits, ItemFits, lines_on_way, told_fits, answers_on_way, answer_both, answer_first, answer_then}
use Rattle.name_links.proofs.PhaseFacts.{bare_state, make_bare, told_bare, reserve_waits}
use Rattle.name_links.proofs.StateTurn.{StateTurn, as_was, now_bare, now_active, now_kept, now_none, state_turns, own_reserved, state_here}
use Rattle.name_links.proofs.TableTurn.{entry_of, line_changes}
use Rattle.name_links.proofs.Tied.{lines_of, untagged}

-- ---- the answers to a line

module _ (table : MailboxTable) (b : Server) (then : MailboxTable) (tag : Tag) (lines : List (Tag × OpenLine)) where
  abbrev Fit : MCommand → OpenLine → Type 0
  Fit it line = EachAnswer (answer_fits then b) ((tag, line) ∷ lines) (map (under tag) (answers_to table b it))

  reserve_told : (m : Mailbox) (place : Location) → (reserve_refusal table (Backend b) (record_at table m) place ≡ None → TellsSerial then b m (decimal_text (table.serial + 1)))
      → Fit (command.Reserve m place) (sent_reserve m)
  unfolding reply_to reserve_reply EachAnswer
  reserve_told m place told = by_refusal (reserve_refusal table (Backend b) (record_at table m) place) refl
    where
      by_refusal : (r : Option Refusal) → reserve_refusal table (Backend b) (record_at table m) place ≡ r
          → EachAnswer (answer_fits then b) ((tag, sent_reserve m) ∷ lines) (map (under tag) (reserve_by table m place r).answers)
      by_refusal (Some why) e = (tt, tt)
      by_refusal None e = (told e, tt)

  activate_told : (m acl : Mailbox) (place : Location) (t : Bool) → Fit (command.Activate m place acl) (cond t (sent_make m) (sent_again m))
  unfolding reply_to activate_reply EachAnswer
  activate_told m acl place t = by_refusal (activate_refusal table (Backend b) (record_at table m) place) t
    where
      by_refusal : (r : Option Refusal) (t : Bool)
          → EachAnswer (answer_fits then b) ((tag, cond t (sent_make m) (sent_again m)) ∷ lines) (map (under tag) (activate_by (Backend b) m place acl r).answers)
      by_refusal (Some why) true = (tt, tt)
      by_refusal (Some why) false = (tt, tt)
      by_refusal None true = (tt, tt)
      by_refusal None false = (tt, tt)

  deactivate_told : (m : Mailbox) (place : Location) → Fit (command.Deactivate m place) (sent_deactivate m)
  unfolding reply_to deactivate_reply EachAnswer
  deactivate_told m place = by_refusal (deactivate_refusal (Backend b) (record_at table m) place)
    where
      by_refusal : (r : Option Refusal) → EachAnswer (answer_fits then b) ((tag, sent_deactivate m) ∷ lines) (map (under tag) (deactivate_by m place r).answers)
      by_refusal (Some why) = (tt, tt)
      by_refusal None = (tt, tt)

  delete_told : (m : Mailbox) (t : Bool) → Fit (command.Delete m) (cond t (sent_delete m) (sent_wipe m))
  unfolding reply_to delete_reply EachAnswer
  delete_told m t = by_refusal (delete_refusal (Backend b) (record_at table m)) t
    where
      by_refusal : (r : Option Refusal) (t : Bool)
          → EachAnswer (answer_fits then b) ((tag, cond t (sent_delete m) (sent_wipe m)) ∷ lines) (map (under tag) (delete_by m r).answers)
      by_refusal (Some why) true = (tt, tt)
      by_refusal (Some why) false = (tt, tt)
      by_refusal None true = (tt, tt)
      by_refusal None false = (tt, tt)

  find_told : (m : Mailbox) → Fit (command.Find m) (sent_find m false)
  unfolding reply_to find_reply EachAnswer with_line
  find_told m = by_found (record_at table m)
    where
      by_state : (it : Record) (s : State) → it.state ≡ s → EachAnswer (answer_fits then b) ((tag, sent_find m false) ∷ lines) (map (under tag) (found_line m (Some it) ++ response.Ok done ∷ []))
      by_state it (Bare serial) e = rw e (tt, (tt, tt))
      by_state it (Kept acl) e = rw e (tt, (tt, tt))
      by_state it (Active acl) e = rw e (tt, (tt, tt))

      by_found : (found : Option Record) → EachAnswer (answer_fits then b) ((tag, sent_find m false) ∷ lines) (map (under tag) (found_line m found ++ response.Ok done ∷ []))
      by_found None = (tt, tt)
      by_found (Some it) = by_state it it.state refl

  listed_told : (entry : List ℕ × Record) (s : State) → (entry.1).state ≡ s → (more : List MResponse) → EachAnswer (answer_fits then b) ((tag, sent_list) ∷ lines) (map (under tag) more)
      → EachAnswer (answer_fits then b) ((tag, sent_list) ∷ lines) (map (under tag) (listed_line entry ∷ more))
  unfolding EachAnswer with_line
  listed_told entry (Bare serial) e more a = rw e (tt, a)
  listed_told entry (Kept acl) e more a = rw e (tt, a)
  listed_told entry (Active acl) e more a = rw e (tt, a)

  listed_if : (entry : List ℕ × Record) (t : Bool) (more : Records) → EachAnswer (answer_fits then b) ((tag, sent_list) ∷ lines) (map (under tag) (map listed_line more ++ response.Ok done ∷ []))
      → EachAnswer (answer_fits then b) ((tag, sent_list) ∷ lines) (map (under tag) (map listed_line (cond t (entry ∷ more) more) ++ response.Ok done ∷ []))
  listed_if entry true more a = listed_told entry (entry.1).state refl (map listed_line more ++ response.Ok done ∷ []) a
  listed_if entry false more a = a

  list_of_told : (prefix : Option (List ℕ)) (records : Records)
      → EachAnswer (answer_fits then b) ((tag, sent_list) ∷ lines) (map (under tag) (map listed_line (filter (is_listed prefix) records) ++ response.Ok done ∷ []))
  unfolding EachAnswer
  list_of_told prefix [] = (tt, tt)
  list_of_told prefix (entry ∷ records) = listed_if entry (is_listed prefix entry) (filter (is_listed prefix) records) (list_of_told prefix records)

  list_told : (prefix : Option (List ℕ)) → Fit (command.List prefix) sent_list
  unfolding reply_to list_reply
  list_told prefix = list_of_told prefix table.records

  pub answers_fit : (it : MCommand) (line : OpenLine) → backend_line b tag it ≡ Some line
      → ((m : Mailbox) (place : Location) → it ≡ command.Reserve m place → is_same_server place.server b ≡ true → reserve_refusal table (Backend b) (record_at table m) place ≡ None
      → TellsSerial then b m (decimal_text (table.serial + 1)))
      → Fit it line
  unfolding backend_line
  answers_fit (command.Reserve m place) line e told =
      let f = if_so (is_same_server place.server b) (sent_reserve m) line e in
      subst (λ l. Fit (command.Reserve m place) l) f.1 (reserve_told m place (told m place refl f.0))
  answers_fit (command.Activate m place acl) line e told =
      subst (λ l. Fit (command.Activate m place acl) l) (if_so (is_same_server place.server b) (cond (is_asked tag) (sent_make m) (sent_again m)) line e).1 (activate_told m acl place (is_asked tag))
  answers_fit (command.Deactivate m place) line e told = subst (λ l. Fit (command.Deactivate m place) l) (if_so (is_same_server place.server b) (sent_deactivate m) line e).1 (deactivate_told m place)
  answers_fit (command.Delete m) line e told = subst (λ l. Fit (command.Delete m) l) (some_is e) (delete_told m (is_asked tag))
  answers_fit (command.Find m) line e told = subst (λ l. Fit (command.Find m) l) (some_is e) (find_told m)
  answers_fit (command.List (Some prefix)) line e told =
      subst (λ l. Fit (command.List (Some prefix)) l) (if_so (pointwise nat_eq prefix (places_of b)) sent_list line e).1 (list_told (Some prefix))
  answers_fit (command.List None) line e told = cc
  answers_fit command.Update line e told = cc
  answers_fit command.Noop line e told = cc
  answers_fit command.Logout line e told = cc

-- ---- states

bare_stays : (serial : ℕ) (it : MCommand) (made : Option MasterRecord) (n : Mailbox) (old new : Option State) (s : ℕ) → StateTurn serial it made n old new → old ≡ Some (Bare s) → (z : ℕ) → new ≡ Some (Bare z)
    → new ≡ Some (Bare s)
bare_stays serial it made n old new s (as_was e) o z f = e ∙ o
bare_stays serial it made n old new s (now_bare place is none e) o z f = let no : (let k : Option State = None in k ≡ Some (Bare s)) = sym none ∙ o in cc
bare_stays serial it made n old new s (now_active place acl is gave e) o z f = let no : Some (Active acl) ≡ Some (Bare z) = sym e ∙ f in cc
bare_stays serial it made n old new s (now_kept acl w e) o z f = let no : Some (Kept acl) ≡ Some (Bare z) = sym e ∙ f in cc
bare_stays serial it made n old new s (now_none e) o z f = let no : (let k : Option State = None in k ≡ Some (Bare z)) = sym e ∙ f in cc

-- the flow of a CREATE waits for one answer
not_both : (f : HomeFlow) → f ≡ making → is_reserving f ≡ true → ⊥
unfolding is_reserving
not_both f e r = let no : is_reserving making ≡ true = subst (λ (g : HomeFlow). is_reserving g ≡ true) e r in cc

module _ (link : OneLink) (it : Tag × MCommand) (ups : List (Tag × MCommand)) (holds : LinkHolds link) (c : ContentHolds link) (e : link.ups ≡ it ∷ ups)
    (line : Tag × OpenLine) (lines : List (Tag × OpenLine)) (first : holds.is.tied.left ≡ line ∷ lines) where
  abbrev b : Server
  b = server_of link

  abbrev then : MailboxTable
  then = table_by link.table b it.1

  next : LinkHolds (takes link it ups)
  next = takes_law link it ups holds e

  is_line : backend_line b it.0 it.1 ≡ Some line.1
  is_line = line_is link it ups holds.ready holds.is e line lines first

  pub turn : (n : Mailbox) → StateTurn link.table.serial it.1 (entry_of link.table b it.1) n (state_at link.table b n) (state_at then b n)
  turn n = state_turns link.table holds.ready.table.order b it.1 (line_changes link.table b it.0 it.1 line.1 is_line) n

  abbrev mine_then : Mailbox → Mine
  mine_then n = mine_of (see (known then n) b)

  abbrev ctl_at : Mailbox → Ctl
  ctl_at n = ctl_of true link.held link.flows n

  stays_bare : (n : Mailbox) (s : ℕ) → state_at link.table b n ≡ Some (Bare s) → is_bare (mine_then n) ≡ true → state_at then b n ≡ Some (Bare s)
  stays_bare n s o m = let z = bare_state b (record_at then n) m in bare_stays link.table.serial it.1 (entry_of link.table b it.1) n (state_at link.table b n) (state_at then b n) s (turn n) o z.0 z.1

  -- the line that is taken
  pub taken_fits : LineFits link.table b link.held it
  taken_fits = let all : AllByRecursion (LineFits link.table b link.held) (it ∷ ups) = subst (λ (us : List (Tag × MCommand)). AllByRecursion (LineFits link.table b link.held) us) e c.lines in all.0

  later_fit : AllByRecursion (LineFits link.table b link.held) ups
  later_fit = let all : AllByRecursion (LineFits link.table b link.held) (it ∷ ups) = subst (λ (us : List (Tag × MCommand)). AllByRecursion (LineFits link.table b link.held) us) e c.lines in all.1

  -- ---- mailboxes

  line_acl : (t : Bool) (n : Mailbox) (place : Location) (acl : List ℕ) → command_fits link.table b link.held t (command.Activate n place acl) → HasAcl (held_at link.held n) acl
  line_acl true n place acl f = subst (λ (h : Option Held). HasAcl h acl) (sym f.made) (refl, sym f.first)
  line_acl false n place acl f = f

  mailbox_by : (n : Mailbox) (acl : List ℕ) (old new : Option State) → state_at link.table b n ≡ old → StateTurn link.table.serial it.1 (entry_of link.table b it.1) n old new → acl_in new ≡ Some acl → HasAcl (held_at link.held n) acl
  mailbox_by n acl old new at (as_was f) g = c.mailboxes n acl (ap acl_in at ∙ ap acl_in (sym f) ∙ g)
  mailbox_by n acl old new at (now_bare place is none f) g = let no : (let k : Option (List ℕ) = None in k ≡ Some acl) = sym (ap acl_in f) ∙ g in cc
  mailbox_by n acl old new at (now_active place list is gave f) g =
      let same : list ≡ acl = (let both : Some list ≡ Some acl = sym (ap acl_in f) ∙ g in cc) in
      subst (λ (l : List ℕ). HasAcl (held_at link.held n) l) same
      (line_acl (is_asked it.0) n place list (subst (λ (k : MCommand). command_fits link.table b link.held (is_asked it.0) k) is taken_fits))
  mailbox_by n acl old new at (now_kept list was f) g =
      let same : Some list ≡ Some acl = sym (ap acl_in f) ∙ g in c.mailboxes n acl (ap acl_in (at ∙ was) ∙ same)
  mailbox_by n acl old new at (now_none f) g = let no : (let k : Option (List ℕ) = None in k ≡ Some acl) = sym (ap acl_in f) ∙ g in cc

  -- ---- the flow that waits for ACTIVATE's answer

  abbrev pub LineNow : Mailbox → Item → Type 0
  LineNow n x = line_ok (mine_of (see (known link.table n) b)) (ctl_at n) x ≡ true

  ups_now : (n : Mailbox) → EachItem (LineNow n) (flat_map (up_items b n) link.ups)
  unfolding back_of
  ups_now n = (holds.is.named n).ups

  pub it_now : ItemFits LineNow it
  it_now =
      let all : AllByRecursion (ItemFits LineNow) (it ∷ ups) = subst (λ (us : List (Tag × MCommand)). AllByRecursion (ItemFits LineNow) us) e (lines_on_way LineNow b holds.is.tied.left link.ups holds.is.tied.sent ups_now) in
      all.0

  making_by : (n : Mailbox) (s : ℕ) (old new : Option State) → state_at link.table b n ≡ old → StateTurn link.table.serial it.1 (entry_of link.table b it.1) n old new → new ≡ Some (Bare s)
      → has_stage Making (flow_at link.flows n) ≡ true → held_at link.held n ≡ Some (new_box n s)
  making_by n s old new at (as_was f) g w = c.making n s (at ∙ sym f ∙ g) w
  making_by n s old new at (now_bare place is none f) g w =
      let waits : is_reserving (ctl_at n).flow ≡ true = reserve_waits (mine_of (see (known link.table n) b)) (ctl_at n) refl (subst (λ (k : MCommand). item_fits LineNow (is_asked it.0) k) is it_now) in
      absurd (not_both (ctl_at n).flow (waits_making (flow_at link.flows n) w) waits)
  making_by n s old new at (now_active place list is gave f) g w = let no : Some (Active list) ≡ Some (Bare s) = sym f ∙ g in cc
  making_by n s old new at (now_kept list was f) g w = let no : Some (Kept list) ≡ Some (Bare s) = sym f ∙ g in cc
  making_by n s old new at (now_none f) g w = let no : (let k : Option State = None in k ≡ Some (Bare s)) = sym f ∙ g in cc

  -- ---- lines

  abbrev LineThen : Mailbox → Item → Type 0
  LineThen n x = line_ok (mine_then n) (ctl_at n) x ≡ true

  ups_then : (n : Mailbox) → EachItem (LineThen n) (flat_map (up_items b n) ups)
  unfolding back_of
  ups_then n = (next.is.named n).ups

  line_then : (t : Bool) (k : MCommand) → command_fits link.table b link.held t k → item_fits LineThen t k → command_fits then b link.held t k
  line_then true (command.Activate n place acl) f i =
      record { serial = f.serial; reserved = stays_bare n f.serial f.reserved (make_bare (mine_then n) (ctl_at n) i); made = f.made; first = f.first }
  line_then false (command.Activate n place acl) f i = f
  line_then t k f i = tt

  -- ---- answers

  abbrev ToldThen : Mailbox → Item → Type 0
  ToldThen n x = answer_ok (mine_then n) (ctl_at n) x ≡ true

  abbrev answers_now : List (Tag × MResponse)
  answers_now = map (under it.0) (answers_to link.table b it.1)

  downs_then : (n : Mailbox) → EachItem (ToldThen n) (downs_of n (lines_of (tagged_lines link.flows)) (told_of (link.downs ++ answers_now)))
  unfolding back_of
  downs_then n =
      subst (λ (ls : List OpenLine). EachItem (ToldThen n) (downs_of n ls (told_of (link.downs ++ answers_now)))) (sym (untagged link.flows.found link.flows.sent)) (next.is.named n).downs

  answer_then_fits : (l : OpenLine) (r : MResponse) → answer_fits link.table b l r → told_fits ToldThen l r → answer_fits then b l r
  answer_then_fits (sent_reserve n) (response.Ok text) f i =
      record { serial = f.serial; told = f.told; reserved = stays_bare n f.serial f.reserved (told_bare (mine_then n) (ctl_at n) i) }
  answer_then_fits l r f i = tt

  told_first : (m : Mailbox) (place : Location) → it.1 ≡ command.Reserve m place → is_same_server place.server b ≡ true
      → reserve_refusal link.table (Backend b) (record_at link.table m) place ≡ None → TellsSerial then b m (decimal_text (link.table.serial + 1))
  unfolding reply_to reserve_reply
  told_first m place is at free = record {
    serial = link.table.serial + 1;
    told = serial_again (link.table.serial + 1) (next_serial link.table.serial holds.ready.serial (serial_left link.table b (record_at link.table m) place free));
    reserved =
        ap (λ (k : MCommand). state_at (table_by link.table b k) b m) is
        ∙ ap (λ (r : Option Refusal). state_at (table_with link.table (reserve_by link.table m place r).entry) b m) free
        ∙ ap (state_by b) (own_reserved link.table m place (link.table.serial + 1)) ∙ state_here b (record { place = place; state = Bare (link.table.serial + 1) }) at;
  }

  tagged_fit : EachAnswer (answer_fits then b) (line ∷ lines) answers_now
  tagged_fit =
      subst (λ (t : Tag). EachAnswer (answer_fits then b) ((t, line.1) ∷ lines) answers_now) (sym (tag_is link it ups holds.ready holds.is e line lines first))
      (answers_fit link.table b then it.0 lines it.1 line.1 is_line told_first)

  answers_then : EachAnswer (answer_fits then b) (tagged_lines link.flows) (link.downs ++ answers_now)
  answers_then =
      answer_then (answer_fits then b) (tagged_lines link.flows) holds.is.tied.left link.downs answers_now holds.is.tied.answers
      (answer_both (answer_fits link.table b) (told_fits ToldThen) (answer_fits then b) answer_then_fits (tagged_lines link.flows) link.downs c.answers
      (answer_first (told_fits ToldThen) (tagged_lines link.flows) link.downs answers_now
      (answers_on_way ToldThen (tagged_lines link.flows) (link.downs ++ answers_now) next.is.tied.left next.is.tied.answers downs_then)))
      (subst (λ (ls : List (Tag × OpenLine)). EachAnswer (answer_fits then b) ls answers_now) (sym first) tagged_fit)

  take_content : ContentHolds (takes link it ups)
  take_content = record {
    mailboxes = λ n acl g. mailbox_by n acl (state_at link.table b n) (state_at then b n) refl (turn n) g;
    making = λ n s g w. making_by n s (state_at link.table b n) (state_at then b n) refl (turn n) g w;
    lines =
        all_both (LineFits link.table b link.held) (ItemFits LineThen) (LineFits then b link.held) (λ k f i. line_then (is_asked k.0) k.1 f i) ups later_fit
        (lines_on_way LineThen b next.is.tied.left ups next.is.tied.sent ups_then);
    answers = answers_then;
  }

pub takes_content : TakesKeepsContents
takes_content link it ups holds c e = by_left holds.is.tied.left refl
  where
    by_left : (ls : List (Tag × OpenLine)) → holds.is.tied.left ≡ ls → ContentHolds (takes link it ups)
    by_left [] first =
        absurd (none_sent (server_of link) it ups (subst (λ (us : List (Tag × MCommand)). AreSent (server_of link) [] us) e
        (subst (λ (ls : List (Tag × OpenLine)). AreSent (server_of link) ls link.ups) first holds.is.tied.sent)))
    by_left (line ∷ lines) first = take_content link it ups holds c e line lines first
