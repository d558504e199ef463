-- The steps of a backend, its asks, and the lines that the master takes keep the invariant of a link: to each name they are rows of steps of the
-- protocol of one name.
use Rattle.std.proofs.Common.{◌≡◌, ◌≢◌, ◌<◌, ◌^◌, true, false, List, [], ◌∷◌, ◌++◌, map, Option, Some, refl, sym, ap, subst, ◌∙◌}
use Rattle.std.specs.List.{flat_map, AllByRecursion}
use Rattle.std.proofs.lemmas.List.Concat.{flat_map-append}
use Rattle.mur_base.specs.declared.home.Location.{Location}
use Rattle.mupdate_codec.specs.declared.command.MCommand.{MCommand}
use Rattle.mupdate_codec.specs.declared.command.MResponse.{MResponse}
use Rattle.mupdate_codec.specs.declared.tag.Tag.{Tag}
use Rattle.node_record.specs.Held.{Names}
use Rattle.master_core.specs.declared.sender.Sender.TheVariants.{Backend}
use Rattle.master_core.specs.Replies.{reply_to}
use Rattle.home_law.specs.Items.{NameRecord, Server, Mine, Item}
use Rattle.home_law.specs.Link.{Back, see}
use Rattle.home_law.specs.LinkOk.{LinkOk}
use Rattle.home_law.specs.ManyNames.{Mailbox, SentLine as OpenLine, BackMessage, downs_of, left_of}
use Rattle.home_law.specs.Rows.{mine_of}
use Rattle.home_law.specs.Steps.{BackStep}
use Rattle.home_law.proofs.ManyNamesLaw.{downs-append}
use Rattle.name_flows.specs.declared.ask.NameAsk.{NameAsk}
use Rattle.name_flows.specs.declared.sent.Sent.{Sent}
use Rattle.name_flows.specs.declared.sent.Sent.TheVariants.{List as List_line, Reserve, Make, Again, Deactivate, Delete, Wipe, Find}
use Rattle.name_flows.specs.declared.sent.SentLine.{SentLine}
use Rattle.name_flows.specs.Asked.{asked_step}
use Rattle.name_flows.specs.OneName.{ctl_of, sent_items, line_items, open_line, open_lines, seen_by, told_by}
use Rattle.name_flows.specs.Steps.{FlowStep}
use Rattle.name_flows.proofs.AskedLaw.{asked_as_one}
use Rattle.name_links.specs.Known.{known}
use Rattle.name_links.specs.Lines.{backend_line, items_of, is_full_for, NameStep, answered}
use Rattle.name_links.specs.Answers.{HasNoBang, told_all, answers_to}
use Rattle.name_links.specs.OneLink.{OneLink, server_of, items_if, up_items, told_pair, told_of, back_of, message_of, does, asks, under, table_by, takes, takes_other}
use Rattle.name_links.specs.LinkIs.{tagged_line, tagged_lines, AreAnswers, AreSent, IsTagged, IsTied, LinkIs, IsReady}
use Rattle.name_links.proofs.EachCommand.{each_command}
use Rattle.name_links.proofs.LineAnswers.{answers_done}
use Rattle.name_links.proofs.LinkRows.{back, asked_row, items_one, answered_kept, answered_granted, others_still}
use Rattle.name_links.proofs.Outcome.{IsStep}
use Rattle.name_links.proofs.Messages.{message_is, sends_sent}
use Rattle.name_links.proofs.Sends.{Leaves, asked_leaves}
use Rattle.name_links.proofs.Tied.{lines_of, untagged, left_is, answers_more, downs_more, answers_then, sent_more}

-- ---- a step of the backend

module _ (n : Mailbox) where
  open_items : (what : Sent) → items_of n (open_line false what) ≡ sent_items n what
  unfolding items_of
  open_items List_line = refl
  open_items (Reserve m) = refl
  open_items (Make m) = refl
  open_items (Again m) = refl
  open_items (Deactivate m) = refl
  open_items (Delete m) = refl
  open_items (Wipe m) = refl
  open_items (Find m) = refl

  -- the lines as messages are to the name what they are
  says_items : (me : Location) (held : Names) (sends : List SentLine) → AllByRecursion IsTagged sends
      → flat_map (up_items me.server n) (map (message_of me held) sends) ≡ flat_map (line_items n) sends
  says_items me held [] t = refl
  says_items me held (line ∷ sends) t =
      ap (λ (o : Option OpenLine). items_if n o ++ flat_map (up_items me.server n) (map (message_of me held) sends)) (message_is me held line t.0)
      ∙ ap (λ (xs : List Item). xs ++ flat_map (up_items me.server n) (map (message_of me held) sends)) (open_items line.what)
      ∙ ap (λ (xs : List Item). line_items n line ++ xs) (says_items me held sends t.1)

module _ (link : OneLink) (step : FlowStep) (lines left : List (Tag × OpenLine)) (downs : List (Tag × MResponse))
    (leaves : Leaves link.flows.me link.held step lines) (answers : AreAnswers lines downs left) where
  down_is : (n : Mailbox) → (back_of (does link downs step) n).down ≡ downs_of n (lines_of lines) (told_of downs)
  unfolding back_of
  down_is n =
      ap (λ (ls : List OpenLine). downs_of n ls (told_of downs)) (sym (untagged step.flows.found (step.flows.sent ++ step.sends)) ∙ ap (λ (ls : List (Tag × OpenLine)). lines_of ls) leaves.lines_are)
      ∙ downs_more n lines (map (tagged_line false) step.sends) downs left answers

  up_is : (n : Mailbox) → (back_of (does link downs step) n).up ≡ (back_of link n).up ++ flat_map (line_items n) step.sends
  unfolding back_of
  up_is n =
      ap (λ (me : Location). flat_map (up_items me.server n) (link.ups ++ map (message_of me link.held) step.sends)) leaves.me_is
      ∙ flat_map-append (up_items (server_of link) n) link.ups (map (message_of link.flows.me link.held) step.sends)
      ∙ ap (λ (xs : List Item). flat_map (up_items (server_of link) n) link.ups ++ xs) (says_items n link.flows.me link.held step.sends leaves.tagged)

  back_is : (n : Mailbox) → back_of (does link downs step) n
      ≡ back (seen_by n true link.held step).ctl (downs_of n (lines_of lines) (told_of downs)) ((back_of link n).up ++ (seen_by n true link.held step).says)
  unfolding back_of
  back_is n =
      ap (λ (d : List Item). back (seen_by n true link.held step).ctl d (back_of (does link downs step) n).up) (down_is n)
      ∙ ap (λ (u : List Item). back (seen_by n true link.held step).ctl (downs_of n (lines_of lines) (told_of downs)) u) (up_is n)

  pub did_named : (n : Mailbox)
      → LinkOk (mine_of (see (known link.table n) (server_of link))) (back (seen_by n true link.held step).ctl (downs_of n (lines_of lines) (told_of downs)) ((back_of link n).up ++ (seen_by n true link.held step).says))
      → LinkOk (mine_of (see (known link.table n) (step.flows.me).server)) (back_of (does link downs step) n)
  did_named n ok =
      subst (λ (me : Location). LinkOk (mine_of (see (known link.table n) me.server)) (back_of (does link downs step) n)) (sym leaves.me_is)
      (subst (λ (k : Back). LinkOk (mine_of (see (known link.table n) (server_of link))) k) (sym (back_is n)) ok)

  pub did_tied : AreSent (server_of link) left link.ups → IsTied (does link downs step)
  did_tied sent = record {
    left = left ++ map (tagged_line false) step.sends;
    answers = subst (λ ls. AreAnswers ls downs (left ++ map (tagged_line false) step.sends)) (sym leaves.lines_are) (answers_more lines (map (tagged_line false) step.sends) downs left answers);
    sent = subst (λ (me : Location). AreSent me.server (left ++ map (tagged_line false) step.sends) (link.ups ++ map (message_of me link.held) step.sends)) (sym leaves.me_is)
        (sent_more (server_of link) left (map (tagged_line false) step.sends) link.ups (map (message_of link.flows.me link.held) step.sends) sent
        (sends_sent (server_of link) link.flows.me link.held step.sends refl leaves.tagged));
    tagged = leaves.all_tagged;
  }

-- ---- an ask

module _ (link : OneLink) (it : NameAsk) (is : LinkIs link) (conn : it.id.conn < 2 ^ 64) (command : it.id.command < 2 ^ 64) where
  ask_leaves : Leaves link.flows.me link.held (asked_step link.flows link.held it) (tagged_lines link.flows)
  ask_leaves = asked_leaves link.flows link.held is.tied.tagged it conn command

  ask_named : (n : Mailbox) → LinkOk (mine_of (see (known link.table n) (server_of link)))
      (back (seen_by n true link.held (asked_step link.flows link.held it)).ctl (downs_of n (lines_of (tagged_lines link.flows)) (told_of link.downs))
      ((back_of link n).up ++ (seen_by n true link.held (asked_step link.flows link.held it)).says))
  unfolding back_of
  ask_named n =
      subst (λ (s : BackStep). LinkOk (mine_of (see (known link.table n) (server_of link))) (back s.ctl (downs_of n (lines_of (tagged_lines link.flows)) (told_of link.downs)) ((back_of link n).up ++ s.says)))
      (asked_as_one true n link.flows link.held it)
      (asked_row n it _ (ctl_of true link.held link.flows n) _ (back_of link n).up refl
      (subst (λ (ls : List OpenLine). LinkOk (mine_of (see (known link.table n) (server_of link))) (back (ctl_of true link.held link.flows n) (downs_of n ls (told_of link.downs)) (back_of link n).up))
      (sym (untagged link.flows.found link.flows.sent)) (is.named n)))

  ask_is : LinkIs (asks link it)
  ask_is = record {
    named = λ n. did_named link (asked_step link.flows link.held it) (tagged_lines link.flows) is.tied.left link.downs ask_leaves is.tied.answers n (ask_named n);
    tied = did_tied link (asked_step link.flows link.held it) (tagged_lines link.flows) is.tied.left link.downs ask_leaves is.tied.answers is.tied.sent;
  }

pub asks_keep : (link : OneLink) (it : NameAsk) → LinkIs link → it.id.conn < 2 ^ 64 → it.id.command < 2 ^ 64 → LinkIs (asks link it)
asks_keep link it is conn command = ask_is link it is conn command

-- ---- the master takes a line

told_under : (tag : Tag) (answers : List MResponse) → told_of (map (under tag) answers) ≡ told_all answers
told_under tag [] = refl
told_under tag (it ∷ more) = ap (λ (ms : List BackMessage). told_by it ++ ms) (told_under tag more)

module _ (link : OneLink) (it : Tag × MCommand) (ups : List (Tag × MCommand)) (ready : IsReady link) (is : LinkIs link) (e : link.ups ≡ it ∷ ups)
    (line : Tag × OpenLine) (lines : List (Tag × OpenLine)) (first : is.tied.left ≡ line ∷ lines) where
  sent_parts : AreSent (server_of link) (line ∷ lines) (it ∷ ups)
  sent_parts = subst (λ (ls : List (Tag × OpenLine)). AreSent (server_of link) ls (it ∷ ups)) first
      (subst (λ (us : List (Tag × MCommand)). AreSent (server_of link) is.tied.left us) e is.tied.sent)

  pub tag_is : line.0 ≡ it.0
  unfolding AreSent
  tag_is = sent_parts.0

  pub line_is : backend_line (server_of link) it.0 it.1 ≡ Some line.1
  unfolding AreSent
  line_is = sent_parts.1

  pub sent_rest : AreSent (server_of link) lines ups
  unfolding AreSent
  sent_rest = sent_parts.2

  step : (n : Mailbox) → IsStep link.table (server_of link) (reply_to link.table (Backend (server_of link)) it.1) line.1 (is_full_for link.table line.1) n
  step n = each_command link.table ready.table (server_of link) ready.name n it.0 it.1 line.1 line_is

  abbrev one_step : Mailbox → NameStep
  one_step n = answered (is_full_for link.table line.1) (server_of link) (known link.table n) (items_of n line.1)

  opens_left : left_of (told_of link.downs) (open_lines link.flows) ≡ line.1 ∷ lines_of lines
  opens_left =
      ap (λ (ls : List OpenLine). left_of (told_of link.downs) ls) (sym (untagged link.flows.found link.flows.sent))
      ∙ left_is (tagged_lines link.flows) link.downs is.tied.left is.tied.answers ∙ ap (λ (ls : List (Tag × OpenLine)). lines_of ls) first

  up_parts : (n : Mailbox) → (back_of link n).up ≡ items_of n line.1 ++ flat_map (up_items (server_of link) n) ups
  unfolding back_of
  up_parts n =
      ap (λ (us : List (Tag × MCommand)). flat_map (up_items (server_of link) n) us) e
      ∙ ap (λ (o : Option OpenLine). items_if n o ++ flat_map (up_items (server_of link) n) ups) line_is

  take_parts : (n : Mailbox) → LinkOk (mine_of (see (known link.table n) (server_of link)))
      (back (ctl_of true link.held link.flows n) (back_of link n).down (items_of n line.1 ++ flat_map (up_items (server_of link) n) ups))
  unfolding back_of
  take_parts n =
      subst (λ (u : List Item). LinkOk (mine_of (see (known link.table n) (server_of link))) (back (ctl_of true link.held link.flows n) (back_of link n).down u)) (up_parts n) (is.named n)

  down_after : (n : Mailbox)
      → downs_of n (open_lines link.flows) (told_of (link.downs ++ map (under it.0) (answers_to link.table (server_of link) it.1))) ≡ (back_of link n).down ++ (one_step n).says
  unfolding back_of
  down_after n =
      let all : List MResponse = answers_to link.table (server_of link) it.1 in
      ap (λ (q : List BackMessage). downs_of n (open_lines link.flows) q)
      (flat_map-append told_pair link.downs (map (under it.0) all) ∙ ap (λ (q : List BackMessage). told_of link.downs ++ q) (told_under it.0 all))
      ∙ downs-append n (open_lines link.flows) (told_of link.downs) (told_all all)
      ∙ ap (λ (ls : List OpenLine). (back_of link n).down ++ downs_of n ls (told_all all)) opens_left
      ∙ ap (λ (xs : List Item). (back_of link n).down ++ xs)
      ((step n).says (lines_of lines)
      (answered_granted (is_full_for link.table line.1) (known link.table n) (server_of link) (items_of n line.1) _ (back_of link n).down _ (items_one n line.1) (take_parts n)))

  take_named : (n : Mailbox) → LinkOk (mine_of (see (known (table_by link.table (server_of link) it.1) n) (server_of link))) (back_of (takes link it ups) n)
  unfolding back_of
  take_named n =
      subst (λ (r : NameRecord). LinkOk (mine_of (see r (server_of link))) (back_of (takes link it ups) n)) (sym (step n).now)
      (subst (λ (d : List Item). LinkOk (mine_of (see (one_step n).known (server_of link))) (back (ctl_of true link.held link.flows n) d (flat_map (up_items (server_of link) n) ups))) (sym (down_after n))
      (answered_kept (is_full_for link.table line.1) (known link.table n) (server_of link) (items_of n line.1) (ctl_of true link.held link.flows n) (back_of link n).down
      (flat_map (up_items (server_of link) n) ups) (items_one n line.1) refl (take_parts n)))

  take_is : LinkIs (takes link it ups)
  take_is = record {
    named = take_named;
    tied = record {
      left = lines;
      answers = answers_then (tagged_lines link.flows) link.downs (map (under it.0) (answers_to link.table (server_of link) it.1)) (line ∷ lines) lines
          (subst (λ (ls : List (Tag × OpenLine)). AreAnswers (tagged_lines link.flows) link.downs ls) first is.tied.answers)
          (subst (λ (t : Tag). AreAnswers ((t, line.1) ∷ lines) (map (under it.0) (answers_to link.table (server_of link) it.1)) lines) (sym tag_is)
          (answers_done link.table ready.serial (server_of link) it.0 lines it.1 line.1 line_is));
      sent = sent_rest;
      tagged = is.tied.tagged;
    };
  }

pub none_sent : (b : Server) (it : Tag × MCommand) (ups : List (Tag × MCommand)) → AreSent b [] (it ∷ ups) → ⊥
unfolding AreSent
none_sent b it ups s = s

pub takes_keep : (link : OneLink) (it : Tag × MCommand) (ups : List (Tag × MCommand)) → IsReady link → LinkIs link → link.ups ≡ it ∷ ups → LinkIs (takes link it ups)
takes_keep link it ups ready is e = by_left is.tied.left refl
  where
    by_left : (ls : List (Tag × OpenLine)) → is.tied.left ≡ ls → LinkIs (takes link it ups)
    by_left [] first =
        absurd (none_sent (server_of link) it ups (subst (λ (us : List (Tag × MCommand)). AreSent (server_of link) [] us) e
        (subst (λ (ls : List (Tag × OpenLine)). AreSent (server_of link) ls link.ups) first is.tied.sent)))
    by_left (line ∷ lines) first = take_is link it ups ready is e line lines first

-- ---- the master takes a line of another backend

pub others_keep : (link : OneLink) (q : Server) (tag : Tag) (it : MCommand) (line : OpenLine) → IsReady link → LinkIs link → HasNoBang q → q ≢ server_of link
    → backend_line q tag it ≡ Some line → LinkIs (takes_other link q it)
unfolding back_of
others_keep link q tag it line ready is no_bang ne e = record {
  named = λ n. subst (λ (m : Mine). LinkOk m (back_of link n))
      (sym (ap (λ (r : NameRecord). mine_of (see r (server_of link))) (each_command link.table ready.table q no_bang n tag it line e).now
      ∙ others_still (is_full_for link.table line) (known link.table n) q (server_of link) ne n line)) (is.named n);
  tied = record { left = is.tied.left; answers = is.tied.answers; sent = is.tied.sent; tagged = is.tied.tagged };
}
