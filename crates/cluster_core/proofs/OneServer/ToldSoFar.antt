-- What is told at every step of a run.
use Rattle.std.proofs.Common.{◌≡◌, ◌⊎◌, inl, inr, ℕ, Bool, ◌≤◌, false, List, [], ◌++◌, length, refl, sym, ◌∙◌, ap, subst, append_assoc}
use Rattle.std.specs.Prelude.{All, IfSome}
use Rattle.std.proofs.lemmas.List.{append-nil}
use Rattle.imap_command.specs.Ruled.{IsDate}
use Rattle.imap_talk.specs.Heard.{Heard, bytes_heard, frames_heard}
use Rattle.imap_talk.specs.Requests.{AreRequests}
use Rattle.imap_talk.specs.Transcript.Stop.{is_lost, silent as silent_stop}
use Rattle.imap_talk.proofs.ReadLaw.{heard_sound, read_of_legal}
use Rattle.imap_talk.proofs.RequestsOf.{asks_all}
use Rattle.imap_talk.proofs.SoundStores.{empty_is}
use Rattle.mail_store.specs.Kept.{AreUidsBelowNext}
use Rattle.mark_history.specs.FirstCourse.{first_course}
use Rattle.mark_history.specs.Moments.{GoOn}
use Rattle.mur_config.specs.declared.config.Config.{Config}
use Rattle.mur_config.specs.Nodes.{AreNodes}
use Rattle.mur_model.specs.declared.store.Pair.{Pair}
use Rattle.mur_model.specs.declared.store.Store.{Store}
use Rattle.mur_model.specs.History.{Talk}
use Rattle.mur_model.specs.Store.{box_at}
use Rattle.schedule_text.specs.declared.event.Event.{Event}
use Rattle.store_law.proofs.AppendedThere.{keeps_appended}
use Rattle.store_law.proofs.BegunLaw.{begins_as_read}
use Rattle.store_law.proofs.CausesTold.{have_causes}
use Rattle.store_law.proofs.DoneIsDone.{does_what_it_says}
use Rattle.store_law.proofs.LinesLaw.{speaks_by_numbers}
use Rattle.store_law.proofs.ListedLaw.{lists_mailboxes}
use Rattle.store_law.proofs.LoginLaw.{begins_by_login}
use Rattle.store_law.proofs.MirrorsAlong.{views_are_told}
use Rattle.store_law.proofs.NewsTold.{news_are_told}
use Rattle.store_law.proofs.NoneLost.{both_hold, loses_none}
use Rattle.store_law.proofs.OpenedLaw.{reads_what_is_examined}
use Rattle.store_law.proofs.OthersUnseen.{keeps_to_its_own}
use Rattle.store_law.proofs.OwnSelected.{none_own, points_own}
use Rattle.store_law.proofs.RisingStores.{Rises, box_rises, none_rises, points_rise, some_rising}
use Rattle.store_law.proofs.ViewsCover.{none_given}
use Rattle.cluster_core.specs.Heard.{heard}
use Rattle.cluster_core.specs.LawSetting.{law_setting}
use Rattle.cluster_core.specs.declared.world.World.{World}
use Rattle.cluster_core.specs.Flow.{run_steps, steps_of_run}
use Rattle.cluster_core.specs.Headline.Homes.{ShowsBoxesOf}
use Rattle.cluster_core.specs.Headline.OneStore.{HasBoxesOf, HasCut, HasItsRights, IsAnsweredThrough, IsToldByOneStore, IsToldSoFar}
use Rattle.cluster_core.specs.Headline.Outside.{guest_of, is_guest}
use Rattle.cluster_core.specs.Headline.Serials.{reserves_taken}
use Rattle.cluster_core.specs.History.{history_of}
use Rattle.cluster_core.specs.Numbers.{NumbersFitAll}
use Rattle.cluster_core.specs.Shown.{given_to}
use Rattle.cluster_core.specs.World.{start}
use Rattle.cluster_core.proofs.OneServer.Boxes.{has_boxes, has_rights}
use Rattle.cluster_core.proofs.OneServer.EachStep.{EachKeeps, IsKeptAt, LawBehind, kept_all, said_behind}
use Rattle.cluster_core.proofs.OneServer.HistoryLaw.{history_is, stands_in_time}
use Rattle.cluster_core.proofs.OneServer.MarksGoOn.{run_goes_on, steps_made}
use Rattle.cluster_core.proofs.Runs.Unrolled.{run_steps-append}
use Rattle.cluster_core.proofs.OneServer.SaysOf.{IsSilent, SaysOf, says_of}
use Rattle.cluster_core.proofs.OneServer.WaitsLaw.{next_waits}
use Rattle.cluster_core.proofs.OneServer.MovingLaw.{moves_behind}
use Rattle.mark_history.specs.Reached.{IsReached}
use Rattle.mark_history.proofs.Reached.{TellsReached, all_reached}
use Rattle.cluster_core.proofs.OneServer.SerialsRise.{serials_are_low}
use Rattle.cluster_core.proofs.OneServer.ShownHomes.{shows_boxes}
use Rattle.cluster_core.proofs.OneServer.UidsBelow.{some_below}
use Rattle.cluster_core.proofs.Links.StandLaw.{links_stand, uncut}
use Rattle.cluster_core.proofs.Routing.RoutedLaw.{are_routed}

-- a client that is connected where no frontend is, and doesn't talk with the master, was given nothing
abbrev pub OthersAreSilent : Config → List Event → Type 0
OthersAreSilent config steps = (conn : ℕ) → is_guest (guest_of config conn steps) ≡ false → IsSilent (run_steps (start config) steps) conn

-- the law held behind each front of some steps of a run in which this will have been said
abbrev KeepsEarlier : Config → List Event → Talk → List Event → Type 0
KeepsEarlier config all talk steps = (before later : List Event) → steps ≡ before ++ later → IsKeptAt config all talk before

reached_in : (world : World) → All TellsReached world.marks → All IsReached (history_of world)
unfolding history_of
reached_in world all = all_reached world.marks all

-- behind some steps of a run that ends so
told_so_far : (config : Config) (steps : List Event) (talk : Talk) (before later : List Event) → AreNodes config.nodes → IsDate config.date
    → OthersAreSilent config before → KeepsEarlier config steps talk before → NumbersFitAll config before → IsKeptAt config steps talk before
    → LawBehind config (before ++ later)
    → IsToldSoFar config talk (history_of (run_steps (start config) (before ++ later))) before (run_steps (start config) before)
told_so_far config steps talk before later are date_is silent earlier fits now last =
    let law = now.law in
    let world : World = run_steps (start config) before in
    let whole : World = run_steps (start config) (before ++ later) in
    let came : ℕ → Heard = λ conn. heard config conn before in
    let all : ℕ → Heard = λ conn. heard config conn (before ++ later) in
    let says : (conn : ℕ) → SaysOf (law_setting config) world conn (law.stops conn) (came conn) (law.story.told conn) =
    λ conn. says_of config came world law (links_stand config before are) conn in
    let so_far : Talk = said_behind config before law in
    let history = history_is config came world law in
    let legal = history.legal in
    let on : GoOn world.steps world.marks whole.marks =
    subst (λ (w : World). GoOn world.steps world.marks w.marks) (sym (run_steps-append (start config) before later)) (run_goes_on world later) in
    let asked : (conn : ℕ) → AreRequests (law_setting config) (frames_heard (came conn)) (law.story.talk.requests conn) =
    λ conn. subst (λ r. AreRequests (law_setting config) (frames_heard (came conn)) r) (sym (law.requests conn))
    (asks_all (law_setting config) (frames_heard (came conn))) in
    let rises : (name : List ℕ) → IfSome (box_at legal.last.store name) Rises =
    λ name. box_rises legal.last.store name
    (points_rise (law_setting config) so_far first_course legal.last (history_of world) legal.legal.follows none_rises) in
    let below : (name : List ℕ) → IfSome (box_at legal.last.store name) AreUidsBelowNext =
    λ name. some_below (box_at legal.last.store name) (rises name) in
    record {
      so_far = so_far;
      goes_on = now.more;
      asked = asked;
      stops = law.stops;
      given = λ conn mail. (says conn).given (λ _. silent conn mail);
      read = λ conn mail. read_of_legal (law_setting config) first_course so_far (history_of world) legal.last legal.legal date_is empty_is
          (λ other. heard_sound (law_setting config) (came other) (law.story.talk.requests other) (asked other)) conn (law.stops conn) (given_to world conn)
          (bytes_heard (came conn)) ((says conn).given (λ _. silent conn mail));
      ends_only_last = λ conn. (says conn).lasts;
      last = legal.last;
      legal = legal.legal;
      stops_late = before_cut ((conn : ℕ) → law.stops conn ≡ silent_stop) (λ whole conn. (says conn).cut whole) (uncut config before);
      reached = before_cut (All IsReached (history_of world)) (λ whole. reached_in world (law.is_told.reached whole)) (uncut config before);
      refusals = have_causes (law_setting config) first_course so_far (history_of world) legal.last legal.legal;
      one_content = subst (λ (s : Store). HasBoxesOf config s world) (sym legal.same_store) (has_boxes config came world law);
      rights = subst (λ (s : Store). HasItsRights config s world) (sym legal.same_store) (has_rights config came world law);
      homes_shown = subst (λ (s : Store). ShowsBoxesOf config s world) (sym legal.same_store) (shows_boxes config came world law are);
      below_next = below;
      uids_rise = λ name. some_rising (box_at legal.last.store name) (rises name);
      none_lost = loses_none (law_setting config) legal.last.store (λ name. both_hold (box_at legal.last.store name) (below name) (rises name));
      appended_there = keeps_appended (law_setting config) legal.last.store rises;
      done = does_what_it_says (law_setting config) legal.last.store rises;
      others_unseen = λ conn. keeps_to_its_own (law_setting config) legal.last.store (legal.last.sessions conn)
          (points_own (law_setting config) so_far first_course legal.last (history_of world) legal.legal.follows
          (none_own (law_setting config)) conn);
      lists = lists_mailboxes (law_setting config) legal.last.store;
      views_told = views_are_told (law_setting config) first_course so_far (history_of world) legal.last legal.legal none_rises (λ conn. refl);
      news_told = news_are_told (law_setting config) first_course so_far (history_of world) legal.last legal.legal none_rises none_given (λ conn. refl);
      low_serials = subst (λ (s : Store). All (λ (pair : Pair). pair.serial ≤ reserves_taken config before) s.given) (sym legal.same_store)
          (serials_are_low config are before law);
      lost_next = history.lost_next;
      made_by_now = history.made_by_now;
      in_time = stands_in_time config came all world whole law last on;
      routed = are_routed config are before (λ front back parts. (earlier front back parts).law) law fits talk.requests (now.more).requests
          (λ front back parts. ((earlier front back parts).more).requests);
      counted = steps_made config before;
      nothing_waits = λ empty conn stays.
          subst (λ r. IsAnsweredThrough r (law.story.told conn) ⊎ (law.stops conn ≡ is_lost)) (sym (law.requests conn)) ((says conn).waits_not empty stays);
      next_waits = λ conn stays quiet unanswered. next_waits config came world law conn stays quiet
          (λ through. unanswered (subst (λ r. IsAnsweredThrough r (law.story.told conn)) (sym (law.requests conn)) through));
    }
  where
    before_cut : (P : Type 0) → ((run_steps (start config) before).broken ≡ [] → P)
        → HasCut config before ⊎ ((run_steps (start config) before).broken ≡ []) → HasCut config before ⊎ P
    before_cut P so (inl cut) = inl cut
    before_cut P so (inr whole) = inr (so whole)

told_at : (config : Config) (talk : Talk) (steps before later : List Event) → steps ≡ before ++ later → AreNodes config.nodes → IsDate config.date
    → OthersAreSilent config before → KeepsEarlier config steps talk steps → NumbersFitAll config steps → IsKeptAt config steps talk before → LawBehind config steps
    → IsToldSoFar config talk (history_of (run_steps (start config) steps)) before (run_steps (start config) before)
told_at config talk steps before later e are date_is silent earlier fits now last =
    subst (λ s. IsToldSoFar config talk (history_of (run_steps (start config) s)) before (run_steps (start config) before)) (sym e)
    (told_so_far config steps talk before later are date_is silent (λ front back parts. earlier front (back ++ later) (front_of front back parts))
    (λ front back parts. fits front (back ++ later) (front_of front back parts)) now (subst (LawBehind config) e last))
  where
    front_of : (front back : List Event) → before ≡ front ++ back → steps ≡ front ++ (back ++ later)
    front_of front back parts = e ∙ ap (λ l. l ++ later) parts ∙ append_assoc front back later

-- so it is where each step keeps the law
abbrev pub IsToldWhereKept : Config → List Event → Type 0
IsToldWhereKept config events = AreNodes config.nodes → IsDate config.date → NumbersFitAll config (steps_of_run config events)
    → EachKeeps config (steps_of_run config events)
    → ((before later : List Event) → steps_of_run config events ≡ before ++ later → OthersAreSilent config before) → IsToldByOneStore config events

pub told_by_one_store : (config : Config) (events : List Event) → IsToldWhereKept config events
told_by_one_store config events are date_is fits each silent =
    let steps : List Event = steps_of_run config events in
    let all = kept_all config steps each in
    let last = (all.at steps [] (sym (append-nil steps))).law in
    let none = all.at [] steps refl in
    record {
      begins_as_read = begins_as_read (law_setting config);
      examined_stays = reads_what_is_examined (law_setting config);
      speaks_by_numbers = speaks_by_numbers (law_setting config);
      begins_by_login = begins_by_login (law_setting config);
      talk = all.talk;
      moving = λ before later e name.
          ap (λ (m : ℕ → List ℕ → Bool). m (length before) name) (none.more.moving ∙ none.moves) ∙ moves_behind config steps before later e name;
      at_each_step = λ before later e. told_at config all.talk steps before later e are date_is (silent before later e)
          all.at fits (all.at before later e) last;
      steps_rise = (history_is config (λ conn. heard config conn steps) (run_steps (start config) steps) last).steps_rise;
    }
