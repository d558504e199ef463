-- What holds of a link holds when it comes up first, and each event keeps it.
use Rattle.std.proofs.Common.{◌≡◌, ℕ, true, List, [], ◌∷◌, ◌++◌, Option, refl, sym, ap, subst, arith}
use Rattle.std.specs.List.Sorted.{IsStrictlySortedBy}
use Rattle.mur_base.specs.declared.home.Location.{Location}
use Rattle.mupdate_codec.specs.declared.command.MCommand.{MCommand}
use Rattle.mupdate_codec.specs.declared.command.MResponse.{MResponse}
use Rattle.mupdate_codec.specs.declared.tag.Tag.{Tag}
use Rattle.home_law.specs.Items.{Item, no_record, no_phase, idle, listing}
use Rattle.home_law.specs.Link.{Back, see}
use Rattle.home_law.specs.LinkOk.{LinkOk}
use Rattle.home_law.specs.Rows.{mine_of}
use Rattle.home_law.specs.ManyNames.{SentLine as OpenLine, sent_list, downs_of}
use Rattle.home_law.specs.NameRun.{back_of_start, name_start, name_run}
use Rattle.home_law.proofs.Keeps.{always}
use Rattle.name_flows.specs.declared.sent.SentLine.{SentLine}
use Rattle.name_flows.specs.Asked.{asked_step}
use Rattle.name_flows.specs.Heard.{heard_step}
use Rattle.name_flows.specs.Listing.{resync_line}
use Rattle.name_flows.specs.Steps.{FlowStep}
use Rattle.name_links.specs.Answers.{HasNoBang}
use Rattle.name_links.specs.Lines.{items_of}
use Rattle.name_links.specs.OneLink.{OneLink, server_of, items_if, back_of, does, takes, first_link}
use Rattle.name_links.specs.LinkIs.{tagged_by, AreAnswers, AreSent, IsTied, IsReady, HoldsFirst, AsksKeepIt, HearsKeepsIt, TakesKeepsIt, OthersKeepIt}
use Rattle.name_links.proofs.BackReady.{IsOrdered, StepOrdered, asked_ordered, heard_ordered}
use Rattle.name_links.proofs.HearEvents.{same, none_answers, hears_keep}
use Rattle.name_links.proofs.LinkEvents.{line_is, none_sent, asks_keep, takes_keep, others_keep}
use Rattle.name_links.proofs.Messages.{message_is}
use Rattle.name_links.proofs.TableReady.{IsSound, table_sound}

-- ---- a step of the backend

ordered : (link : OneLink) → IsReady link → IsOrdered link.flows.me link.flows link.held
ordered link ready = record { me_is = refl; running = ready.running; names = ready.held; waiting = ready.waiting }

did_ready : (link : OneLink) (downs : List (Tag × MResponse)) (step : FlowStep) → IsReady link → StepOrdered link.flows.me link.held step → IsReady (does link downs step)
did_ready link downs step ready o = record {
  table = ready.table;
  serial = ready.serial;
  name = subst (λ (me : Location). HasNoBang me.server) (sym o.me_is) ready.name;
  running = o.running;
  held = o.names;
  waiting = o.waiting;
}

pub asks_law : AsksKeepIt
asks_law link ask it conn command = record {
  ready = did_ready link link.downs (asked_step link.flows link.held ask) it.ready (asked_ordered link.flows.me link.flows link.held (ordered link it.ready) ask conn command);
  is = asks_keep link ask it.is conn command;
}

pub hears_law : HearsKeepsIt
hears_law link it downs holds e = record { ready = by_sent link.flows.sent refl; is = hears_keep link it downs holds.ready holds.is e }
  where
    by_sent : (ls : List SentLine) → link.flows.sent ≡ ls → IsReady (does link downs (heard_step link.flows link.held it.0 it.1))
    by_sent [] first =
        absurd (none_answers it downs holds.is.tied.left (subst (λ (ds : List (Tag × MResponse)). AreAnswers [] ds holds.is.tied.left) e
        (subst (λ (ls : List SentLine). AreAnswers (tagged_by link.flows.found ls) link.downs holds.is.tied.left) first holds.is.tied.answers)))
    by_sent (line ∷ lines) first =
        did_ready link downs (heard_step link.flows link.held it.0 it.1) holds.ready
        (heard_ordered link.flows.me link.flows link.held it.0 line lines first (same link it downs holds.ready holds.is e line lines first) (ordered link holds.ready) it.1)

-- ---- a step of the master

sound : (link : OneLink) → IsReady link → IsSound link.table
sound link ready = record { table_is = ready.table; serial_is = ready.serial }

pub takes_law : TakesKeepsIt
takes_law link it ups holds e = record { ready = by_left holds.is.tied.left refl; is = takes_keep link it ups holds.ready holds.is e }
  where
    by_left : (ls : List (Tag × OpenLine)) → holds.is.tied.left ≡ ls → IsReady (takes link it ups)
    by_left [] first =
        absurd (none_sent (server_of link) it ups (subst (λ (us : List (Tag × MCommand)). AreSent (server_of link) [] us) e
        (subst (λ (ls : List (Tag × OpenLine)). AreSent (server_of link) ls link.ups) first holds.is.tied.sent)))
    by_left (line ∷ lines) first =
        let after = table_sound link.table (sound link holds.ready) (server_of link) holds.ready.name it.0 it.1 line.1 (line_is link it ups holds.ready holds.is e line lines first) in
        record { table = after.table_is; serial = after.serial_is; name = holds.ready.name; running = holds.ready.running; held = holds.ready.held; waiting = holds.ready.waiting }

pub others_law : OthersKeepIt
others_law link q tag it line holds no_bang ne e =
    let after = table_sound link.table (sound link holds.ready) q no_bang tag it line e in
    record {
      ready = record { table = after.table_is; serial = after.serial_is; name = holds.ready.name; running = holds.ready.running; held = holds.ready.held; waiting = holds.ready.waiting };
      is = others_keep link q tag it line holds.ready holds.is no_bang ne e;
    }

-- ---- the link comes up first

module _ (me : Location) (master : List ℕ) (no_bang : HasNoBang me.server) where
  first_ready : IsReady (first_link me master)
  unfolding IsStrictlySortedBy
  first_ready = record { table = record { order = tt; servers = tt }; serial = omega arith; name = no_bang; running = tt; held = tt; waiting = tt }

  first_tied : IsTied (first_link me master)
  unfolding AreAnswers AreSent
  first_tied = record {
    left = (resync_line.tag, sent_list) ∷ [];
    answers = refl;
    sent = (refl, message_is me [] resync_line tt, tt);
    tagged = (tt, tt);
  }

  first_back : (n : List ℕ) → back_of (first_link me master) n ≡ back_of_start
  unfolding back_of back_of_start downs_of items_of
  first_back n = ap (λ (o : Option OpenLine). up_back (items_if n o ++ [])) (message_is me [] resync_line tt)
    where
      up_back : List Item → Back
      up_back u = record { ctl = record { phase = no_phase; flow = idle; resync = listing; hears = true; linked = true }; down = []; up = u }

  first_named : (n : List ℕ) → LinkOk (mine_of (see no_record me.server)) (back_of (first_link me master) n)
  unfolding name_run name_start
  first_named n = subst (λ (k : Back). LinkOk (mine_of (see no_record me.server)) k) (sym (first_back n)) (always [] me.server)

pub first_law : HoldsFirst
first_law me master no_bang = record { ready = first_ready me master no_bang; is = record { named = first_named me master no_bang; tied = first_tied me master no_bang } }
