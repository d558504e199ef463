-- The law at each step of a run, where each step keeps it.
use Rattle.std.proofs.Common.{◌≡◌, ℕ, List, [], ◌∷◌, ◌++◌, length, take, refl, sym, ◌∙◌, ap, subst, append_assoc}
use Rattle.std.proofs.lemmas.List.{append-nil}
use Rattle.imap_talk.specs.Heard.{Heard, nobody}
use Rattle.mark_history.specs.Marked.{AreMarked, Tale}
use Rattle.mark_history.specs.declared.mark.Mark.{Mark}
use Rattle.mark_history.proofs.SettledTalk.{SerialsGoOn, settled_talk, settled_talk_goes_on}
use Rattle.mark_history.proofs.SettledTalk.SerialsGoOn.{more_given, taken_back}
use Rattle.mur_config.specs.declared.config.Config.{Config}
use Rattle.mur_model.specs.History.{Talk, TalkGoesOn}
use Rattle.mur_model.proofs.HistoryGrows.{same_talk, talks_follow}
use Rattle.schedule_text.specs.declared.event.Event.{Event}
use Rattle.cluster_core.specs.Heard.{heard, heard_from, hears}
use Rattle.cluster_core.specs.Flow.{run_steps}
use Rattle.cluster_core.specs.World.{setting_of, start}
use Rattle.cluster_core.specs.declared.world.World.{World}
use Rattle.cluster_core.proofs.Commands.Standing.{Fixed}
use Rattle.cluster_core.proofs.Connections.ConnectionLaw.{SaysOn}
pub use Rattle.cluster_core.proofs.Connections.KeepsBehind.{IsNoCut}
use Rattle.cluster_core.proofs.Connections.KeepsLaw.{KeepsBehind, KeepsLaw, SaidOn, fixed_of}
use Rattle.cluster_core.proofs.Connections.KeepsLaw.SaidOn.{back as said_back, on as said_on}
use Rattle.cluster_core.proofs.OneServer.MarksGoOn.{run_goes_on, run_steps-append}
use Rattle.cluster_core.proofs.OneServer.MovingLaw.{moving_of}

-- behind these steps of a run
abbrev pub LawBehind : Config → List Event → Type 0
LawBehind config steps = KeepsLaw config (λ conn. heard config conn steps) (run_steps (start config) steps)

-- its tale has as moving what the master has reserved, behind each step of a run
abbrev pub TellsMoves : (config : Config) (all before : List Event) → LawBehind config before → Type 0
TellsMoves config all before law = law.story.talk.moving ≡ moving_of config all

-- the law holds at the start, and each of these steps keeps it
pub record EachKeeps (config : Config) (steps : List Event) : Type 0 where
  pub first : LawBehind config []
  pub moves : TellsMoves config steps [] first
  pub next : (before : List Event) (event : Event) (later : List Event) → steps ≡ before ++ event ∷ later → (law : LawBehind config before)
      → TellsMoves config steps before law
      → KeepsBehind config law.story law.stops (λ conn. heard config conn (before ++ event ∷ [])) (run_steps (start config) (before ++ event ∷ []))
  -- only a cut takes replies back
  pub grows : (before : List Event) (event : Event) (later : List Event) (parts : steps ≡ before ++ event ∷ later) (law : LawBehind config before)
      (moves : TellsMoves config steps before law) → IsNoCut event → SaysOn law.story (next before event later parts law moves).law.story

-- what was said behind these steps and can't be taken back
abbrev pub said_behind : (config : Config) (steps : List Event) → LawBehind config steps → Talk
said_behind config steps law = settled_talk (run_steps (start config) steps).marks law.story

-- the law behind some of the steps of a run in which this will have been said
pub record IsKeptAt (config : Config) (all : List Event) (talk : Talk) (steps : List Event) : Type 0 where
  pub law : LawBehind config steps
  pub moves : TellsMoves config all steps law
  pub more : TalkGoesOn (said_behind config steps law) talk

-- and behind each
pub record KeepsAll (config : Config) (steps : List Event) : Type 0 where
  pub talk : Talk
  pub at : (before later : List Event) → steps ≡ before ++ later → IsKeptAt config steps talk before

-- what holds behind these steps, and behind each that follows
pub at_the_end : (P : List Event → Type 0) (before : List Event) → P before → (front back : List Event) → [] ≡ front ++ back → P (before ++ front)
at_the_end P before is [] back e = subst P (sym (append-nil before)) is
at_the_end P before is (event ∷ front) back e = cc

pub at_an_event : (P : List Event → Type 0) (before : List Event) (event : Event) (rest : List Event) → P before
    → ((front back : List Event) → rest ≡ front ++ back → P ((before ++ event ∷ []) ++ front))
    → (front back : List Event) → event ∷ rest ≡ front ++ back → P (before ++ front)
at_an_event P before event rest is later [] back e = subst P (sym (append-nil before)) is
at_an_event P before event rest is later (first ∷ front) back e =
    let same : event ≡ first = cc in
    let behind : rest ≡ front ++ back = cc in
    subst (λ (x : Event). P (before ++ x ∷ front)) same (subst P (append_assoc before (event ∷ []) front) (later front back behind))

-- ---- a step takes back nothing of what can't be

serials_go_on : (fixed : Fixed) (before : Tale) (world : World) (story : Tale) (conn : ℕ) → SaidOn fixed before world story conn → SerialsGoOn before story conn
serials_go_on fixed before world story conn (said_on more grows) = more_given more.0 more.1
serials_go_on fixed before world story conn (said_back is) =
    taken_back (is.serials ∙ ap (λ l. take (length l) (before.talk.serials conn)) (sym is.said))

marks_next : (config : Config) (before : List Event) (event : Event)
    → (more : List Mark) × ((run_steps (start config) (before ++ event ∷ [])).marks ≡ (run_steps (start config) before).marks ++ more)
marks_next config before event =
    let on = run_goes_on (run_steps (start config) before) (event ∷ []) in
    (on.rest, ap (λ (w : World). w.marks) (run_steps-append (start config) before (event ∷ [])) ∙ on.parts)

step_goes_on : (config : Config) (before : List Event) (event : Event) (law : LawBehind config before)
    (keeps : KeepsBehind config law.story law.stops (λ conn. heard config conn (before ++ event ∷ [])) (run_steps (start config) (before ++ event ∷ [])))
    → TalkGoesOn (said_behind config before law) (said_behind config (before ++ event ∷ []) keeps.law)
step_goes_on config before event law keeps =
    let world : World = run_steps (start config) before in
    let next : World = run_steps (start config) (before ++ event ∷ []) in
    let more = marks_next config before event in
    subst (λ marks. TalkGoesOn (said_behind config before law) (settled_talk marks (keeps.law).story)) (sym more.1)
    (settled_talk_goes_on (setting_of config) world.steps next.steps world.marks more.0 law.story (keeps.law).story law.is_told.marked
    (subst (λ marks. AreMarked (setting_of config) next.steps marks (keeps.law).story) more.1 ((keeps.law).is_told).marked) keeps.requests keeps.answers
    keeps.moving (λ conn. serials_go_on (fixed_of config) law.story next (keeps.law).story conn (keeps.said conn)))

record KeepsFrom (config : Config) (steps : List Event) (said : Talk) (before rest : List Event) : Type 0 where
  talk : Talk
  more : TalkGoesOn said talk
  at : (front back : List Event) → rest ≡ front ++ back → IsKeptAt config steps talk (before ++ front)

kept_from : (config : Config) (steps before rest : List Event) → EachKeeps config steps → steps ≡ before ++ rest → (law : LawBehind config before)
    → TellsMoves config steps before law → KeepsFrom config steps (said_behind config before law) before rest
kept_from config steps before [] each e law moves = record {
  talk = said_behind config before law;
  more = same_talk (said_behind config before law);
  at = at_the_end (IsKeptAt config steps (said_behind config before law)) before
      (record { law = law; moves = moves; more = same_talk (said_behind config before law) });
}
kept_from config steps before (event ∷ rest) each e law moves =
    let one = each.next before event rest e law moves in
    let all = kept_from config steps (before ++ event ∷ []) rest each (e ∙ sym (append_assoc before (event ∷ []) rest)) one.law (one.moving ∙ moves) in
    let more =
    talks_follow (said_behind config before law) (said_behind config (before ++ event ∷ []) one.law) all.talk (step_goes_on config before event law one)
    all.more in
    record {
      talk = all.talk;
      more = more;
      at = at_an_event (IsKeptAt config steps all.talk) before event rest (record { law = law; moves = moves; more = more }) all.at;
    }

pub kept_all : (config : Config) (steps : List Event) → EachKeeps config steps → KeepsAll config steps
kept_all config steps each =
    let all = kept_from config steps [] steps each refl each.first each.moves in record { talk = all.talk; at = all.at }

-- ---- what each step keeps where the law holds before it

-- the law behind these steps, and behind each that follows
LawsFrom : Config → List Event → List Event → Type 0
LawsFrom config before rest = (front back : List Event) → rest ≡ front ++ back → LawBehind config (before ++ front)

law_here : (config : Config) (before rest : List Event) → LawsFrom config before rest → LawBehind config before
unfolding LawsFrom
law_here config before rest laws = subst (LawBehind config) (append-nil before) (laws [] rest refl)

laws_on : (config : Config) (before : List Event) (event : Event) (rest : List Event) → LawsFrom config before (event ∷ rest)
    → LawsFrom config (before ++ event ∷ []) rest
unfolding LawsFrom
laws_on config before event rest laws front back e =
    subst (LawBehind config) (sym (append_assoc before (event ∷ []) front)) (laws (event ∷ front) back (ap (λ l. event ∷ l) e))

laws_behind : (config : Config) (steps : List Event) → EachKeeps config steps → (before later : List Event) → steps ≡ before ++ later
    → LawsFrom config [] before
unfolding LawsFrom
laws_behind config steps each before later parts front back e =
    ((kept_all config steps each).at front (back ++ later) (parts ∙ ap (λ l. l ++ later) e ∙ append_assoc front back later)).law

module _ (config : Config) (steps : List Event) (P : List Event → Type 0) (each : EachKeeps config steps) (first : P [])
    (next : (before : List Event) (event : Event) → LawBehind config before → P before → P (before ++ event ∷ [])) where
  kept_on : (before rest : List Event) → LawsFrom config before rest → P before → P (before ++ rest)
  kept_on before [] laws is = subst P (sym (append-nil before)) is
  kept_on before (event ∷ rest) laws is =
      subst P (append_assoc before (event ∷ []) rest)
      (kept_on (before ++ event ∷ []) rest (laws_on config before event rest laws) (next before event (law_here config before (event ∷ rest) laws) is))

  pub kept_behind : (before later : List Event) → steps ≡ before ++ later → P before
  kept_behind before later parts = kept_on [] before (laws_behind config steps each before later parts) first

-- ---- what was heard before and then

pub heard_from-append : (config : Config) (conn : ℕ) (so_far : Heard) (front back : List Event)
    → heard_from config conn so_far (front ++ back) ≡ heard_from config conn (heard_from config conn so_far front) back
unfolding heard_from
heard_from-append config conn so_far [] back = refl
heard_from-append config conn so_far (event ∷ front) back = heard_from-append config conn (hears config conn so_far event) front back

pub heard_next : (config : Config) (conn : ℕ) (before : List Event) (event : Event)
    → heard config conn (before ++ event ∷ []) ≡ hears config conn (heard config conn before) event
unfolding heard_from
heard_next config conn before event = heard_from-append config conn nobody before (event ∷ [])
