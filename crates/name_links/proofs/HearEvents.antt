-- A response that the backend takes keeps the invariant of a link: to each name it is a row of steps of the protocol of one name.
use Rattle.std.proofs.Common.{◌≡◌, ℕ, Bool, true, false, ◌&&◌, ◌||◌, is_some, not, filter, List, [], ◌∷◌, ◌++◌, map, Option, None, Some, refl, sym, ap, subst, ◌∙◌, append-nil}
use Rattle.std.specs.List.{fold, AllByRecursion}
use Rattle.mur_base.specs.declared.home.Location.{Location}
use Rattle.mupdate_codec.specs.declared.command.MResponse.{MResponse}
use Rattle.mupdate_codec.specs.declared.command.MResponse.TheVariants as response
use Rattle.mupdate_codec.specs.declared.tag.Tag.{Tag}
use Rattle.node_record.specs.declared.held.Held.{Held}
use Rattle.node_record.specs.Held.{Names, held_at}
use Rattle.home_law.specs.Items.{Item, listed_active, listed_reserved, list_ok, synced}
use Rattle.home_law.specs.Link.{Back, see}
use Rattle.home_law.specs.LinkOk.{EachItem, LinkOk}
use Rattle.home_law.specs.ManyNames.{Mailbox, SentLine as OpenLine, BackMessage, downs_of, left_of, ok_items}
use Rattle.home_law.specs.Rows.{mine_of, answer_ok, is_listing, is_synced, is_active, is_bare, is_kept}
use Rattle.home_law.specs.Steps.{BackStep, hear, hear_list_ok}
use Rattle.home_law.proofs.ManyNamesLaw.{downs-append}
use Rattle.name_flows.specs.declared.flows.Flows.{Flows}
use Rattle.name_flows.specs.declared.resync.Resync.{Resync}
use Rattle.name_flows.specs.declared.sent.Sent.{Sent}
use Rattle.name_flows.specs.declared.sent.Sent.TheVariants.{List as List_line, Reserve, Make, Again, Deactivate, Delete, Wipe, Find}
use Rattle.name_flows.specs.declared.sent.SentLine.{SentLine}
use Rattle.name_flows.specs.Heard.{is_same_tag, is_answer, first_line, behind_first, what_in, taken, ok_of, heard_step}
use Rattle.name_flows.specs.Link.{waiting_in}
use Rattle.name_flows.specs.Listed.{is_unmade, is_lost, name_in, Round, round, ended_resync, list_ok_by}
use Rattle.name_flows.specs.Running.{flow_at}
use Rattle.name_flows.specs.OneName.{phase_in, flow_in, progress_in, ctl_of, open_line, open_behind, open_by, open_lines, seen_by, told_by, CanHear, IsRead}
use Rattle.name_flows.specs.Steps.{FlowStep}
use Rattle.name_flows.proofs.HeardLaw.{heard_as_one}
use Rattle.name_links.specs.Known.{known}
use Rattle.name_links.specs.OneLink.{OneLink, server_of, told_of, back_of, hears}
use Rattle.name_links.specs.LinkIs.{AreNumbered, tagged_line, tagged_by, tagged_lines, lines_after, IsAnswerTo, AreAnswers, IsTagged, LinkIs, IsReady}
use Rattle.name_links.proofs.LinkRows.{back, one_heard, heard_kept}
use Rattle.name_links.proofs.HearParts.{and_left, and_right, runs, list_items, reserved_items, read_is, forget_is, not_lost}
use Rattle.name_links.proofs.LinkEvents.{did_named, did_tied}
use Rattle.name_links.proofs.LinesByName.{says, IsAboutIt, lines_tagged, is_in_passing}
use Rattle.name_links.proofs.ResyncEnd.{find_about, finds_each, finds_none, step_with, after_held, lost_lines, is_noted, after_at, list_ok_is}
use Rattle.name_links.proofs.Rounds.{SameFor, forgotten_same, IsRound, rounds_are, rounds_kept}
use Rattle.name_links.proofs.Sends.{is_list_end, step_by, step_ok, heard_is, Keeps, last_leaves, Leaves, heard_leaves}
use Rattle.name_links.proofs.Tied.{lines_of, untagged, left_one}

module _ (link : OneLink) (it : Tag × MResponse) (downs : List (Tag × MResponse)) (ready : IsReady link) (is : LinkIs link) (e : link.downs ≡ it ∷ downs)
    (line : SentLine) (lines : List SentLine) (first : link.flows.sent ≡ line ∷ lines) where
  abbrev pub opened : List (Tag × OpenLine)
  opened = tagged_line link.flows.found line ∷ map (tagged_line false) lines

  abbrev pub then : List (Tag × OpenLine)
  then = lines_after (tagged_line link.flows.found line) (map (tagged_line false) lines) it.1

  pub opened_is : tagged_lines link.flows ≡ opened
  opened_is = ap (λ (ls : List SentLine). tagged_by link.flows.found ls) first

  answers : AreAnswers opened (it ∷ downs) is.tied.left
  answers = subst (λ (ls : List (Tag × OpenLine)). AreAnswers ls (it ∷ downs) is.tied.left) opened_is
      (subst (λ (ds : List (Tag × MResponse)). AreAnswers (tagged_lines link.flows) ds is.tied.left) e is.tied.answers)

  pub same : is_same_tag line.tag it.0 ≡ true
  unfolding AreAnswers
  same = answers.0

  told : IsAnswerTo (open_line link.flows.found line.what) it.1
  unfolding AreAnswers
  told = answers.1

  pub rest : AreAnswers then downs is.tied.left
  unfolding AreAnswers
  rest = answers.2

  left_then : left_of (told_by it.1) (open_lines link.flows) ≡ lines_of then
  unfolding left_of
  left_then =
      ap (λ (ls : List OpenLine). left_of (told_by it.1) ls) (sym (untagged link.flows.found link.flows.sent) ∙ ap (λ (ls : List (Tag × OpenLine)). lines_of ls) opened_is)
      ∙ ap (λ (q : List BackMessage). left_of q (lines_of opened)) (sym (append-nil (told_by it.1)))
      ∙ left_one (tagged_line link.flows.found line) (map (tagged_line false) lines) it.1 []

  -- what the response is to a name stands before what the others are
  abbrev heard_items : Mailbox → List Item
  heard_items n = downs_of n (open_lines link.flows) (told_by it.1)

  abbrev later_items : Mailbox → List Item
  later_items n = downs_of n (lines_of then) (told_of downs)

  down_parts : (n : Mailbox) → (back_of link n).down ≡ heard_items n ++ later_items n
  unfolding back_of
  down_parts n =
      ap (λ (ds : List (Tag × MResponse)). downs_of n (open_lines link.flows) (told_of ds)) e
      ∙ downs-append n (open_lines link.flows) (told_by it.1) (told_of downs)
      ∙ ap (λ (ls : List OpenLine). heard_items n ++ downs_of n ls (told_of downs)) left_then

  abbrev Named : Mailbox → Back → Type 0
  Named n k = LinkOk (mine_of (see (known link.table n) (server_of link))) k

  named_parts : (n : Mailbox) → Named n (back (ctl_of true link.held link.flows n) (heard_items n ++ later_items n) (back_of link n).up)
  unfolding back_of
  named_parts n = subst (λ (d : List Item). Named n (back (ctl_of true link.held link.flows n) d (back_of link n).up)) (down_parts n) (is.named n)

  -- the first message is one that fits
  first_fits : (n : Mailbox) (x : Item) → heard_items n ≡ x ∷ [] → answer_ok (mine_of (see (known link.table n) (server_of link))) (ctl_of true link.held link.flows n) x ≡ true
  unfolding EachItem
  first_fits n x f =
      let parts = subst (λ (xs : List Item). Named n (back (ctl_of true link.held link.flows n) (xs ++ later_items n) (back_of link n).up)) f (named_parts n) in parts.downs.0

  heard_when : (n : Mailbox) (what : Sent) (r : MResponse) → line.what ≡ what → it.1 ≡ r → heard_items n ≡ downs_of n (open_line link.flows.found what ∷ map open_behind lines) (told_by r)
  heard_when n what r w f =
      ap (λ (ls : List SentLine). downs_of n (open_by link.flows.found ls) (told_by it.1)) first
      ∙ ap (λ (s : Sent). downs_of n (open_line link.flows.found s ∷ map open_behind lines) (told_by it.1)) w
      ∙ ap (λ (m : MResponse). downs_of n (open_line link.flows.found what ∷ map open_behind lines) (told_by m)) f

  listed_runs : (name : List ℕ) (place : Location) (acl : List ℕ) → line.what ≡ List_line → it.1 ≡ response.Mailbox name place acl → is_some link.flows.resync ≡ true
  unfolding answer_ok
  listed_runs name place acl w f =
      let fits = first_fits name listed_active (heard_when name List_line (response.Mailbox name place acl) w f ∙ list_items name place acl (map open_behind lines)) in
      runs name link.flows.resync
      (and_right link.flows.up (is_listing (progress_in name link.flows.resync))
      (and_left (link.flows.up && is_listing (progress_in name link.flows.resync)) (is_active (mine_of (see (known link.table name) (server_of link)))) fits))

  reserved_runs : (name : List ℕ) (place : Location) → line.what ≡ List_line → it.1 ≡ response.Reserve name place → is_some link.flows.resync ≡ true
  unfolding answer_ok
  reserved_runs name place w f =
      let fits = first_fits name listed_reserved (heard_when name List_line (response.Reserve name place) w f ∙ reserved_items name place (map open_behind lines)) in
      runs name link.flows.resync
      (and_right link.flows.up (is_listing (progress_in name link.flows.resync))
      (and_left (link.flows.up && is_listing (progress_in name link.flows.resync))
      (is_bare (mine_of (see (known link.table name) (server_of link))) || is_kept (mine_of (see (known link.table name) (server_of link)))) fits))

  all_tagged : AllByRecursion IsTagged (line ∷ lines)
  all_tagged = subst (λ (ls : List SentLine). AllByRecursion IsTagged ls) first is.tied.tagged

  -- ---- any response but LIST's OK

  module _ (not_end : is_list_end (Some line.what) it.1 ≡ false) where
    hear_leaves : Leaves link.flows.me link.held (heard_step link.flows link.held it.0 it.1) then
    hear_leaves = heard_leaves link.flows link.held it.0 line lines first same all_tagged it.1 not_end

    can : (n : Mailbox) → CanHear (mine_of (see (known link.table n) (server_of link))) true n link.flows link.held it.0 it.1
    unfolding back_of is_answer
    can n = record {
      answers = ap (λ (ls : List SentLine). is_answer ls it.0) first ∙ same;
      read = subst (λ (w : Option Sent). IsRead w it.1 link.flows) (sym (ap (λ (ls : List SentLine). what_in (first_line ls)) first))
          (read_is link.flows link.flows.found line.what it.1 told not_end listed_runs reserved_runs);
      control = (is.named n).control;
      running = ready.running;
      names = ready.held;
    }

    hear_named : (n : Mailbox) → Named n (back (seen_by n true link.held (heard_step link.flows link.held it.0 it.1)).ctl (later_items n)
        ((back_of link n).up ++ (seen_by n true link.held (heard_step link.flows link.held it.0 it.1)).says))
    hear_named n =
        subst (λ (s : BackStep). Named n (back s.ctl (later_items n) ((back_of link n).up ++ s.says))) (heard_as_one true n link.flows link.held it.0 it.1 _ (can n))
        (heard_kept (heard_items n) _ (ctl_of true link.held link.flows n) (later_items n) (back_of link n).up refl (named_parts n))

    hear_is : LinkIs (hears link it downs)
    hear_is = record {
      named = λ n. did_named link (heard_step link.flows link.held it.0 it.1) then is.tied.left downs hear_leaves rest n (hear_named n);
      tied = did_tied link (heard_step link.flows link.held it.0 it.1) then is.tied.left downs hear_leaves rest is.tied.sent;
    }

  -- ---- LIST's OK

  module _ (w : Resync) (runs_now : link.flows.resync ≡ Some w) (text : List ℕ) (what : line.what ≡ List_line) (ok : it.1 ≡ response.Ok text) where
    abbrev over : Flows
    over = record (taken link.flows) { resync = None }

    abbrev begun : Round
    begun = record { flows = over; lines = lost_lines link.flows link.held ready.held w.listed; answers = [] }

    abbrev ended : Round
    ended = fold (round link.held) begun w.waiting

    numbered : AreNumbered w.waiting
    numbered = subst (λ (r : Option Resync). AreNumbered (waiting_in r)) runs_now ready.waiting

    begun_is : IsRound over link.held begun
    begun_is = record {
      resync = refl;
      sent_is = refl;
      found_is = refl;
      me_is = refl;
      about = finds_each IsAboutIt find_about (filter (is_lost w.listed) link.held) [] tt;
      tagged = finds_each (λ e. IsTagged e.1) (λ e. tt) (filter (is_lost w.listed) link.held) [] tt;
      others_none = λ k f c. finds_none k (filter (is_lost w.listed) link.held) [] (is_in_passing (is_lost w.listed) k link.held ready.held ∙ not_lost w.listed k (held_at link.held k) c);
    }

    ended_is : IsRound over link.held ended
    ended_is = rounds_are over link.held w.waiting begun numbered begun_is

    step_is : heard_step link.flows link.held it.0 it.1 ≡ ended_resync over link.held w
    unfolding ok_of
    step_is =
        heard_is link.flows link.held it.0 line lines first same it.1
        ∙ ap (λ (r : MResponse). step_by link.flows link.held it.0 line lines first same r) ok
        ∙ step_ok link.flows link.held it.0 line lines first same text
        ∙ ap (λ (s : Sent). ok_of (taken link.flows) link.held link.flows.found line.tag text s) what
        ∙ ap (λ (r : Option Resync). list_ok_by over link.held r) runs_now

    end_keeps : Keeps (taken link.flows) false (ended_resync over link.held w)
    end_keeps = record { sent_is = ended_is.sent_is; found_is = ended_is.found_is; me_is = ended_is.me_is; tagged = lines_tagged ended.lines ended_is.tagged }

    end_leaves : Leaves link.flows.me link.held (heard_step link.flows link.held it.0 it.1) then
    end_leaves =
        subst (λ (s : FlowStep). Leaves link.flows.me link.held s then) (sym step_is)
        (subst (λ (r : MResponse). Leaves link.flows.me link.held (ended_resync over link.held w) (lines_after (tagged_line link.flows.found line) (map (tagged_line false) lines) r)) (sym ok)
        (last_leaves (taken link.flows) link.held lines (ended_resync over link.held w) (ap (λ (ls : List SentLine). behind_first ls) first) end_keeps all_tagged.1))

    end_items : (n : Mailbox) → heard_items n ≡ list_ok ∷ []
    unfolding downs_of ok_items
    end_items n = heard_when n List_line (response.Ok text) what ok

    -- LIST's OK, to a name
    ok_is : (n : Mailbox) → hear (ctl_of true link.held link.flows n) list_ok
        ≡ step_with (phase_in (held_at (after_held link.flows link.held ready.held w.listed) n)) (flow_in (flow_at link.flows n)) synced link.flows.up (says n begun.lines)
    unfolding hear
    ok_is n =
        ap (λ (r : Option Resync). hear_list_ok (record { phase = phase_in (held_at link.held n); flow = flow_in (flow_at link.flows n); resync = progress_in n r; hears = link.flows.up; linked = true }) (progress_in n r) (phase_in (held_at link.held n))) runs_now
        ∙ sym (list_ok_is link.flows link.held ready.held w.listed n (flow_in (flow_at link.flows n)) link.flows.up)

    ok_named : (n : Mailbox) → Named n (back (ctl_of true (after_held link.flows link.held ready.held w.listed) over n) (later_items n) ((back_of link n).up ++ says n begun.lines))
    ok_named n =
        subst (λ (s : BackStep). Named n (back s.ctl (later_items n) ((back_of link n).up ++ s.says))) (ok_is n)
        (one_heard _ (ctl_of true link.held link.flows n) list_ok (later_items n) (back_of link n).up refl
        (subst (λ (xs : List Item). Named n (back (ctl_of true link.held link.flows n) (xs ++ later_items n) (back_of link n).up)) (end_items n) (named_parts n)))

    asks_named : (n : Mailbox) → Named n (back (ctl_of true (after_held link.flows link.held ready.held w.listed) ended.flows n) (later_items n) ((back_of link n).up ++ says n ended.lines))
    asks_named n =
        rounds_kept over link.held (after_held link.flows link.held ready.held w.listed)
        (λ k. subst (λ (h : Option Held). SameFor h (held_at link.held k)) (sym (after_at link.flows link.held ready.held w.listed k)) (forgotten_same k (is_noted link.flows link.held ready.held w.listed k) (held_at link.held k)))
        n w.waiting begun numbered begun_is _ (later_items n) (back_of link n).up (ok_named n)

    end_named : (n : Mailbox) → Named n (back (seen_by n true link.held (heard_step link.flows link.held it.0 it.1)).ctl (later_items n)
        ((back_of link n).up ++ (seen_by n true link.held (heard_step link.flows link.held it.0 it.1)).says))
    end_named n =
        subst (λ (s : FlowStep). Named n (back (seen_by n true link.held s).ctl (later_items n) ((back_of link n).up ++ (seen_by n true link.held s).says))) (sym step_is)
        (subst (λ (h : Names). Named n (back (ctl_of true h ended.flows n) (later_items n) ((back_of link n).up ++ says n ended.lines))) (sym (forget_is link.held (map name_in (filter (is_unmade w.listed) link.held)))) (asks_named n))

    end_is : LinkIs (hears link it downs)
    end_is = record {
      named = λ n. did_named link (heard_step link.flows link.held it.0 it.1) then is.tied.left downs end_leaves rest n (end_named n);
      tied = did_tied link (heard_step link.flows link.held it.0 it.1) then is.tied.left downs end_leaves rest is.tied.sent;
    }

  -- a resync runs
  unsynced : (r : Option Resync) → not (is_synced (progress_in [] r)) ≡ true → (w : Resync) × (r ≡ Some w)
  unfolding is_synced
  unsynced None e = cc
  unsynced (Some w) e = (w, refl)

  resync_runs : (text : List ℕ) → line.what ≡ List_line → it.1 ≡ response.Ok text → (w : Resync) × (link.flows.resync ≡ Some w)
  unfolding answer_ok downs_of ok_items
  resync_runs text what ok =
      let fits = first_fits [] list_ok (heard_when [] List_line (response.Ok text) what ok) in
      unsynced link.flows.resync (and_right link.flows.up (not (is_synced (progress_in [] link.flows.resync))) fits)

  list_end : (what : Sent) (r : MResponse) → line.what ≡ what → it.1 ≡ r → is_list_end (Some what) r ≡ true → LinkIs (hears link it downs)
  list_end List_line (response.Ok text) w ok e = let run = resync_runs text w ok in end_is run.0 run.1 text w ok
  list_end List_line (response.Mailbox name place acl) w ok e = cc
  list_end List_line (response.Reserve name place) w ok e = cc
  list_end List_line (response.Delete name) w ok e = cc
  list_end List_line (response.No text) w ok e = cc
  list_end List_line (response.Bad text) w ok e = cc
  list_end (Reserve m) r w ok e = cc
  list_end (Make m) r w ok e = cc
  list_end (Again m) r w ok e = cc
  list_end (Deactivate m) r w ok e = cc
  list_end (Delete m) r w ok e = cc
  list_end (Wipe m) r w ok e = cc
  list_end (Find m) r w ok e = cc

  -- what is left of the lines, whatever the response
  leaves_end : (what : Sent) (r : MResponse) → line.what ≡ what → it.1 ≡ r → is_list_end (Some what) r ≡ true
      → Leaves link.flows.me link.held (heard_step link.flows link.held it.0 it.1) then
  leaves_end List_line (response.Ok text) w ok e = let run = resync_runs text w ok in end_leaves run.0 run.1 text w ok
  leaves_end what r w ok e = cc

  pub leaves_then : (t : Bool) → is_list_end (Some line.what) it.1 ≡ t → Leaves link.flows.me link.held (heard_step link.flows link.held it.0 it.1) then
  leaves_then true e = leaves_end line.what it.1 refl refl e
  leaves_then false e = hear_leaves e

  pub heard_keeps : (t : Bool) → is_list_end (Some line.what) it.1 ≡ t → LinkIs (hears link it downs)
  heard_keeps true e = list_end line.what it.1 refl refl e
  heard_keeps false e = hear_is e

pub none_answers : (it : Tag × MResponse) (downs : List (Tag × MResponse)) (left : List (Tag × OpenLine)) → AreAnswers [] (it ∷ downs) left → ⊥
unfolding AreAnswers
none_answers it downs left a = a

pub hears_keep : (link : OneLink) (it : Tag × MResponse) (downs : List (Tag × MResponse)) → IsReady link → LinkIs link → link.downs ≡ it ∷ downs → LinkIs (hears link it downs)
hears_keep link it downs ready is e = by_sent link.flows.sent refl
  where
    by_sent : (ls : List SentLine) → link.flows.sent ≡ ls → LinkIs (hears link it downs)
    by_sent [] first =
        absurd (none_answers it downs is.tied.left (subst (λ (ds : List (Tag × MResponse)). AreAnswers [] ds is.tied.left) e
        (subst (λ (ls : List SentLine). AreAnswers (tagged_by link.flows.found ls) link.downs is.tied.left) first is.tied.answers)))
    by_sent (line ∷ lines) first =
        heard_keeps link it downs ready is e line lines first (is_list_end (Some line.what) it.1) refl
