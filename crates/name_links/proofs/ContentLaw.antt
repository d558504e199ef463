-- What holds of a link's contents holds when it comes up first, and each event keeps it.
use Rattle.std.proofs.Common.{◌≡◌, ◌≢◌, ◌⊎◌, inl, inr, Bool, true, false, List, [], ◌∷◌, map, Some, refl, sym, ap, subst, ◌∙◌}
use Rattle.mur_base.specs.declared.home.Location.{Location}
use Rattle.mupdate_codec.specs.declared.command.MCommand.{MCommand}
use Rattle.mupdate_codec.specs.declared.command.MCommand.TheVariants as command
use Rattle.mupdate_codec.specs.declared.command.MResponse.{MResponse}
use Rattle.mupdate_codec.specs.declared.command.MResponse.TheVariants as response
use Rattle.mupdate_codec.specs.declared.tag.Tag.{Tag}
use Rattle.node_record.specs.Table.{MailboxTable}
use Rattle.home_law.specs.Items.{Server}
use Rattle.home_law.specs.ManyNames.{Mailbox, SentLine as OpenLine, sent_reserve}
use Rattle.name_flows.specs.declared.sent.Sent.{Sent}
use Rattle.name_flows.specs.declared.sent.SentLine.{SentLine}
use Rattle.name_flows.specs.Asked.{asked_step}
use Rattle.name_flows.specs.Heard.{heard_step}
use Rattle.name_flows.specs.OneName.{open_line}
use Rattle.name_flows.specs.Steps.{FlowStep}
use Rattle.name_links.specs.Contents.{state_at, acl_in, command_fits, LineFits, TellsSerial, answer_fits, EachAnswer, ContentHolds, ContentsFirst, AsksKeepContents, HearsKeepsContents, OthersKeepContents}
use Rattle.name_links.specs.Lines.{is_asked, backend_line}
use Rattle.name_links.specs.LinkIs.{tagged_line, tagged_by, tagged_lines, AreAnswers, LinkHolds}
use Rattle.name_links.specs.OneLink.{OneLink, server_of, does, hears, table_by, takes_other}
use Rattle.name_links.proofs.ContentSteps.{Parts, parts_of, holds_of, plain_keeps, made_keeps}
use Rattle.name_links.proofs.HearEvents.{opened_is, same, then, rest, none_answers, leaves_then}
use Rattle.name_links.proofs.HeldTurn.{IsPlain, Makes, heard_entry, asked_entry}
use Rattle.name_links.proofs.LinkLaw.{asks_law, hears_law}
use Rattle.name_links.proofs.OnWay.{all_as, answer_as}
use Rattle.name_links.proofs.Sends.{is_list_end, Leaves, asked_leaves}
use Rattle.name_links.proofs.StateTurn.{states_stay}
use Rattle.name_links.proofs.TableTurn.{line_changes}

-- ---- the backend's steps

module _ (link : OneLink) (step : FlowStep) (downs : List (Tag × MResponse)) (lines left : List (Tag × OpenLine)) (leaves : Leaves link.flows.me link.held step lines)
    (answers : AreAnswers lines downs left) (holds : LinkHolds link) (next : LinkHolds (does link downs step)) where
  abbrev Old : Server → Type 0
  Old b = Parts link.table b link.held link.flows.running link.ups lines downs

  old_here : Old (server_of link) → Old (step.flows.me).server
  old_here old = subst (λ (me : Location). Old me.server) (sym leaves.me_is) old

  plain_holds : Old (server_of link) → IsPlain link.flows.running link.held step → ContentHolds (does link downs step)
  plain_holds old plain = holds_of (does link downs step) (plain_keeps link step downs lines left leaves answers next (old_here old) holds.ready.held plain)

  made_holds : Old (server_of link) → (line : SentLine) (it : MResponse) (made : Makes link.flows line it step) → TellsSerial link.table (server_of link) made.name made.text
      → ContentHolds (does link downs step)
  made_holds old line it made told =
      holds_of (does link downs step) (made_keeps link step downs lines left leaves answers next (old_here old) line it made
      (subst (λ (me : Location). TellsSerial link.table me.server made.name made.text) (sym leaves.me_is) told))

pub asks_content : AsksKeepContents
asks_content link ask holds c conn command =
    plain_holds link (asked_step link.flows link.held ask) link.downs (tagged_lines link.flows) holds.is.tied.left (asked_leaves link.flows link.held holds.is.tied.tagged ask conn command)
    holds.is.tied.answers holds (asks_law link ask holds conn command) (parts_of link c) (asked_entry link.flows link.held ask)

module _ (link : OneLink) (it : Tag × MResponse) (downs : List (Tag × MResponse)) (holds : LinkHolds link) (c : ContentHolds link) (e : link.downs ≡ it ∷ downs)
    (line : SentLine) (lines : List SentLine) (first : link.flows.sent ≡ line ∷ lines) where
  abbrev pub step : FlowStep
  step = heard_step link.flows link.held it.0 it.1

  abbrev pub left_then : List (Tag × OpenLine)
  left_then = then link it downs holds.ready holds.is e line lines first

  fits : EachAnswer (answer_fits link.table (server_of link)) (tagged_line link.flows.found line ∷ map (tagged_line false) lines) (it ∷ downs)
  fits =
      subst (λ (ls : List (Tag × OpenLine)). EachAnswer (answer_fits link.table (server_of link)) ls (it ∷ downs)) (opened_is link it downs holds.ready holds.is e line lines first)
      (subst (λ (ds : List (Tag × MResponse)). EachAnswer (answer_fits link.table (server_of link)) (tagged_lines link.flows) ds) e c.answers)

  first_fits : answer_fits link.table (server_of link) (open_line link.flows.found line.what) it.1
  unfolding EachAnswer
  first_fits = fits.0

  later_fit : EachAnswer (answer_fits link.table (server_of link)) left_then downs
  unfolding EachAnswer
  later_fit = fits.1

  old : Parts link.table (server_of link) link.held link.flows.running link.ups left_then downs
  old = record { mailboxes = c.mailboxes; making = c.making; lines_are = c.lines; answers_are = later_fit }

  pub leaves : Leaves link.flows.me link.held step left_then
  leaves = leaves_then link it downs holds.ready holds.is e line lines first (is_list_end (Some line.what) it.1) refl

  answers : AreAnswers left_then downs holds.is.tied.left
  answers = rest link it downs holds.ready holds.is e line lines first

  pub told_by_ok : (made : Makes link.flows line it.1 step) → TellsSerial link.table (server_of link) made.name made.text
  told_by_ok made =
      subst (λ (r : MResponse). answer_fits link.table (server_of link) (sent_reserve made.name) r) made.ok
      (subst (λ (w : Sent). answer_fits link.table (server_of link) (open_line link.flows.found w) it.1) made.what first_fits)

  by_step : IsPlain link.flows.running link.held step ⊎ Makes link.flows line it.1 step → ContentHolds (hears link it downs)
  by_step (inl plain) = plain_holds link step downs left_then holds.is.tied.left leaves answers holds (hears_law link it downs holds e) old plain
  by_step (inr made) = made_holds link step downs left_then holds.is.tied.left leaves answers holds (hears_law link it downs holds e) old line it.1 made (told_by_ok made)

  hear_content : ContentHolds (hears link it downs)
  hear_content = by_step (heard_entry link.flows link.held it.0 line lines first (same link it downs holds.ready holds.is e line lines first) holds.ready.running it.1)

pub hears_content : HearsKeepsContents
hears_content link it downs holds c e = by_sent link.flows.sent refl
  where
    by_sent : (ls : List SentLine) → link.flows.sent ≡ ls → ContentHolds (hears link it downs)
    by_sent [] first =
        absurd (none_answers it downs holds.is.tied.left (subst (λ (ds : List (Tag × MResponse)). AreAnswers [] ds holds.is.tied.left) e
        (subst (λ (ls : List SentLine). AreAnswers (tagged_by link.flows.found ls) link.downs holds.is.tied.left) first holds.is.tied.answers)))
    by_sent (line ∷ lines) first = hear_content link it downs holds c e line lines first

-- ---- a line of another backend

module _ (link : OneLink) (q : Server) (tag : Tag) (it : MCommand) (line : OpenLine) (holds : LinkHolds link) (c : ContentHolds link) (ne : q ≢ server_of link)
    (e : backend_line q tag it ≡ Some line) where
  abbrev now : MailboxTable
  now = table_by link.table q it

  stays : (n : Mailbox) → state_at now (server_of link) n ≡ state_at link.table (server_of link) n
  stays n = states_stay q (server_of link) ne link.table holds.ready.table.order it (line_changes link.table q tag it line e) n

  line_stays : (t : Bool) (k : MCommand) → command_fits link.table (server_of link) link.held t k → command_fits now (server_of link) link.held t k
  line_stays true (command.Activate n place acl) f = record { serial = f.serial; reserved = stays n ∙ f.reserved; made = f.made; first = f.first }
  line_stays false (command.Activate n place acl) f = f
  line_stays t k f = tt

  answer_stays : (l : OpenLine) (r : MResponse) → answer_fits link.table (server_of link) l r → answer_fits now (server_of link) l r
  answer_stays (sent_reserve n) (response.Ok text) f = record { serial = f.serial; told = f.told; reserved = stays n ∙ f.reserved }
  answer_stays l r f = tt

  other_content : ContentHolds (takes_other link q it)
  other_content = record {
    mailboxes = λ n acl f. c.mailboxes n acl (ap acl_in (sym (stays n)) ∙ f);
    making = λ n s f w. c.making n s (sym (stays n) ∙ f) w;
    lines = all_as (LineFits link.table (server_of link) link.held) (LineFits now (server_of link) link.held) (λ k f. line_stays (is_asked k.0) k.1 f) link.ups c.lines;
    answers = answer_as (answer_fits link.table (server_of link)) (answer_fits now (server_of link)) answer_stays (tagged_lines link.flows) link.downs c.answers;
  }

pub others_content : OthersKeepContents
others_content link q tag it line holds c ne e = other_content link q tag it line holds c ne e

-- ---- the link comes up first

pub first_content : ContentsFirst
unfolding EachAnswer
first_content me master = record { mailboxes = λ n acl e. cc; making = λ n s e w. cc; lines = (tt, tt); answers = tt }
