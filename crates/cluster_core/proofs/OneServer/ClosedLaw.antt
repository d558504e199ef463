-- A client that has closed its connection is given nothing more: it is told no more answers, and nothing more is heard of it.
use Rattle.std.proofs.Common.{◌≡◌, ℕ, true, false, List, [], ◌∷◌, ◌++◌, refl, sym, ◌∙◌, ap, append_assoc}
use Rattle.std.proofs.lemmas.List.{append-nil}
use Rattle.imap_talk.specs.Heard.{Heard, nobody, elsewhere, client, bytes_heard, has_closed}
use Rattle.imap_talk.specs.Transcript.{transcript_till}
use Rattle.mur_config.specs.declared.config.Config.{Config}
use Rattle.mur_config.specs.Nodes.{AreNodes}
use Rattle.schedule_text.specs.declared.event.Event.{Event}
use Rattle.cluster_core.specs.Heard.{heard, hears}
use Rattle.cluster_core.specs.LawSetting.{law_setting}
use Rattle.cluster_core.specs.declared.world.World.{World}
use Rattle.cluster_core.specs.Flow.{run_steps, steps_of_run}
use Rattle.cluster_core.specs.Headline.Closed.{GivesNoMore}
use Rattle.cluster_core.specs.Shown.{given_to}
use Rattle.cluster_core.specs.World.{start}
use Rattle.cluster_core.proofs.Connections.KeepsLaw.{KeepsBehind, KeepsLaw}
use Rattle.cluster_core.proofs.Links.Stand.{LinksStand}
use Rattle.cluster_core.proofs.Links.StandLaw.{links_stand}
use Rattle.cluster_core.proofs.OneServer.EachStep.{EachKeeps, LawBehind, TellsMoves, heard_next, kept_all}
use Rattle.cluster_core.proofs.OneServer.SaysOf.{says_of}

closed_hears : (config : Config) (conn : ℕ) (came : Heard) (event : Event) → has_closed came ≡ true → hears config conn came event ≡ came
unfolding hears has_closed
closed_hears config conn nobody event shut = cc
closed_hears config conn elsewhere event shut = cc
closed_hears config conn (client bytes true) event shut = refl
closed_hears config conn (client bytes false) event shut = cc

not_elsewhere : (came : Heard) → has_closed came ≡ true → came ≡ elsewhere → ⊥
unfolding has_closed
not_elsewhere came shut e = (let no : false ≡ true = sym (ap has_closed e) ∙ shut in cc)

-- what a client was given is the transcript of what was heard of it and of what it was told
step_gives : (config : Config) (now then : ℕ → Heard) (world next : World) (conn : ℕ) → LinksStand config world → LinksStand config next
    → (law : KeepsLaw config now world) → KeepsBehind config law.story law.stops then next → then conn ≡ now conn → has_closed (now conn) ≡ true
    → given_to next conn ≡ given_to world conn
step_gives config now then world next conn links links_then law on same shut =
    let was = says_of config now world law links conn in
    let is = says_of config then next on.law links_then conn in
    let closed = on.closed conn (ap has_closed same ∙ shut) in
    is.given (λ e. absurd (not_elsewhere (now conn) shut (sym same ∙ e)))
    ∙ ap (λ h. transcript_till (on.law.stops conn) (law_setting config) (bytes_heard h) (on.law.story.told conn)) same
    ∙ ap (transcript_till (on.law.stops conn) (law_setting config) (bytes_heard (now conn))) closed.0
    ∙ ap (λ stop. transcript_till stop (law_setting config) (bytes_heard (now conn)) (law.story.told conn)) closed.1
    ∙ sym (was.given (λ e. absurd (not_elsewhere (now conn) shut e)))

stays_given : (config : Config) (steps before more later : List Event) (conn : ℕ) → AreNodes config.nodes → EachKeeps config steps
    → steps ≡ before ++ (more ++ later) → (law : LawBehind config before) → TellsMoves config steps before law → has_closed (heard config conn before) ≡ true
    → given_to (run_steps (start config) (before ++ more)) conn ≡ given_to (run_steps (start config) before) conn
stays_given config steps before [] later conn are each e law moves shut = ap (λ s. given_to (run_steps (start config) s) conn) (append-nil before)
stays_given config steps before (event ∷ more) later conn are each e law moves shut =
    let on = each.next before event (more ++ later) e law moves in
    let same : heard config conn (before ++ event ∷ []) ≡ heard config conn before =
    heard_next config conn before event ∙ closed_hears config conn (heard config conn before) event shut in
    sym (ap (λ s. given_to (run_steps (start config) s) conn) (append_assoc before (event ∷ []) more))
    ∙ stays_given config steps (before ++ event ∷ []) more later conn are each (e ∙ sym (append_assoc before (event ∷ []) (more ++ later))) on.law
    (on.moving ∙ moves) (ap has_closed same ∙ shut)
    ∙ step_gives config (λ c. heard config c before) (λ c. heard config c (before ++ event ∷ [])) (run_steps (start config) before)
    (run_steps (start config) (before ++ event ∷ [])) conn (links_stand config before are) (links_stand config (before ++ event ∷ []) are) law on same shut

-- so it is where each step keeps the law
abbrev pub ClosesWhereKept : Config → List Event → Type 0
ClosesWhereKept config events = AreNodes config.nodes → EachKeeps config (steps_of_run config events) → GivesNoMore config events

pub gives_no_more : (config : Config) (events : List Event) → ClosesWhereKept config events
gives_no_more config events are each = λ conn before more later e shut.
    let kept = (kept_all config (steps_of_run config events) each).at before (more ++ later) (e ∙ append_assoc before more later) in
    stays_given config (steps_of_run config events) before more later conn are each (e ∙ append_assoc before more later) kept.law kept.moves shut
