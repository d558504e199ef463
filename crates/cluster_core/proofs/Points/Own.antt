-- What a step that is about the command of a connection makes of its tale, its marks, and the connection itself.
use Rattle.std.proofs.Common.{◌≡◌, ◌≢◌, inl, inr, ℕ, List, [], ◌∷◌, ◌++◌, Option, None, Some, refl, sym, ◌∙◌, ap, subst, append-nil}
use Rattle.asking_core.specs.declared.waiting.At.{At}
use Rattle.cluster_core.specs.World.{setting_of, client_at, front_at}
use Rattle.front_core.specs.declared.connection.Connection.{Connection}
use Rattle.front_core.specs.declared.front.Front.{Front}
use Rattle.imap_talk.specs.Heard.{Heard}
use Rattle.imap_talk.specs.Transcript.{Stop}
use Rattle.imap_types.specs.declared.command.Tag.{Tag}
use Rattle.link_msg.specs.declared.counts.Counts.{Counts}
use Rattle.link_msg.specs.declared.counts.Counts.TheVariants.{IfAnswered}
use Rattle.link_queue.specs.Broken.{Broken}
use Rattle.many_links.specs.ManyHold.{ManyHold}
use Rattle.mark_history.specs.Marked.{Tale}
use Rattle.mark_history.specs.declared.mark.Mark.{Mark}
use Rattle.master_core.specs.declared.master.Master.{Master}
use Rattle.mur_base.specs.declared.point.AskId.{AskId}
use Rattle.mur_config.specs.declared.config.Config.{Config}
use Rattle.mur_model.specs.declared.store.Store.{Store}
use Rattle.name_links.specs.Serials.{Given}
use Rattle.point_links.specs.Commands.{ClientCommand}
use Rattle.route_links.specs.Barriers.{Place as barrier}
use Rattle.cluster_core.specs.declared.world.World.{World}
use Rattle.cluster_core.proofs.Commands.AllReached.{AreMarkedSo}
use Rattle.cluster_core.proofs.Commands.Place.{Place, Place as place}
use Rattle.cluster_core.proofs.Commands.Standing.{Fixed, WaitsAt, next_id}
use Rattle.cluster_core.proofs.Connections.ConnectionLaw.{CanRestore, GoesOnAt, IsDroppedAt, IsInPlaceOf, IsMarkedAt, MarksStay, same_story}
use Rattle.cluster_core.proofs.Connections.KeepsLaw.{ConnectionIs, fixed_of, murder_of}
use Rattle.cluster_core.proofs.Connections.Tales.{others_marked}
use Rattle.cluster_core.proofs.Points.Acts.{IsCarriedOut, IsSeen, KnowsOf, acted_on, home_mark}
use Rattle.cluster_core.proofs.Points.Waits.{CommandWaits}

pub record OwnStep (config : Config) (conn : ℕ) (stop : Stop) (heard : Heard) (world : World) (story : Tale) (next : World) (master : Master) (given : Given) : Type 0 where
  pub later : Tale
  pub told : later.told ≡ story.told
  pub goes_on : GoesOnAt conn story later
  pub is_told : AreMarkedSo (setting_of config) next.broken next.steps next.marks later
  pub marks : (other : ℕ) → other ≢ conn → MarksStay other world.marks next.marks
  pub many : ManyHold (murder_of next master) given later.course.store
  pub mine : ConnectionIs (fixed_of config) conn next later stop heard

-- the mark that the step makes, if it makes one
abbrev pub made_by : ℕ → AskId → Option Counts → List Mark
made_by now id None = []
made_by now id (Some counts) = home_mark now id counts ∷ []

-- where the master's OK is on its way then, a reply that the store has given can be taken back
abbrev pub RestoresAt : ℕ → ClientCommand → Tale → Place → Type 0
RestoresAt conn c later there = (connection : Connection) → connection.session ≡ c.was → CanRestore later conn connection there

-- it has given none
pub restores_none : (conn : ℕ) (c : ClientCommand) (later : Tale) (there : Place) → later.talk.answers conn ≡ later.told conn → RestoresAt conn c later there
restores_none conn c later place.nowhere said connection was = tt
restores_none conn c later (place.is_asked server ask) said connection was = tt
restores_none conn c later (place.is_answered server answer) said connection was = tt
restores_none conn c later (place.is_dropped server) said connection was = tt
restores_none conn c later (place.is_at me at) said connection was = tt
restores_none conn c later (place.is_barred barrier.nowhere) said connection was = tt
restores_none conn c later (place.is_barred barrier.asked) said connection was = tt
restores_none conn c later (place.is_barred (barrier.answered table)) said connection was = inl said

-- or gave it in a session that it knows
pub restores_one : (conn : ℕ) (c : ClientCommand) (later : Tale) (there : Place) → later.before conn ≡ c.was → RestoresAt conn c later there
restores_one conn c later place.nowhere before connection was = tt
restores_one conn c later (place.is_asked server ask) before connection was = tt
restores_one conn c later (place.is_answered server answer) before connection was = tt
restores_one conn c later (place.is_dropped server) before connection was = tt
restores_one conn c later (place.is_at me at) before connection was = tt
restores_one conn c later (place.is_barred barrier.nowhere) before connection was = tt
restores_one conn c later (place.is_barred barrier.asked) before connection was = tt
restores_one conn c later (place.is_barred (barrier.answered table)) before connection was = inr (before ∙ sym was)

-- what it is to the command that waits
pub record Outcome (fixed : Fixed) (front : List ℕ) (conn : ℕ) (broken : Broken) (now : ℕ) (marks : List Mark) (story : Tale) (tag : Tag) (c : ClientCommand) (store : Store)
    (counts : Option Counts) (there : Place) : Type 0 where
  pub later : Tale
  pub told : later.told ≡ story.told
  pub goes_on : GoesOnAt conn story later
  pub is_told : AreMarkedSo fixed.setting broken now (marks ++ made_by now c.id counts) later
  pub store_is : later.course.store ≡ store
  pub restores : RestoresAt conn c later there
  pub knows : KnowsOf fixed front conn tag c later there

module _ (fixed : Fixed) (front : List ℕ) (conn : ℕ) (broken : Broken) (now : ℕ) (marks : List Mark) (story : Tale) (tag : Tag) (c : ClientCommand) (there : Place) where
  pub of_carried : (store : Store) (counts : Counts) → IsCarriedOut fixed front conn broken now marks story tag c store counts there
      → Outcome fixed front conn broken now marks story tag c store (Some counts) there
  of_carried store counts done = record {
    later = acted_on fixed story conn tag c done.serial;
    told = refl;
    goes_on = done.goes_on;
    is_told = done.is_told;
    store_is = done.store;
    restores = restores_one conn c (acted_on fixed story conn tag c done.serial) there done.before;
    knows = done.knows;
  }

  pub of_seen : IsSeen fixed front conn broken now marks story tag c there
      → Outcome fixed front conn broken now marks story tag c story.course.store (Some IfAnswered) there
  of_seen seen = record {
    later = story;
    told = refl;
    goes_on = same_story conn story;
    is_told = seen.is_told;
    store_is = refl;
    restores = restores_none conn c story there seen.said;
    knows = seen.knows;
  }

  pub of_known : AreMarkedSo fixed.setting broken now marks story → KnowsOf fixed front conn tag c story there → RestoresAt conn c story there
      → Outcome fixed front conn broken now marks story tag c story.course.store None there
  of_known are knows restores = record {
    later = story;
    told = refl;
    goes_on = same_story conn story;
    is_told = subst (λ (m : List Mark). AreMarkedSo fixed.setting broken now m story) (sym (append-nil marks)) are;
    store_is = refl;
    restores = restores;
    knows = knows;
  }

-- the marks of each other connection stay
made_stays : (conn now : ℕ) (id : AskId) (marks : List Mark) (counts : Option Counts) → id.conn ≡ conn → (other : ℕ) → other ≢ conn
    → MarksStay other marks (marks ++ made_by now id counts)
made_stays conn now id marks None its other ne = subst (MarksStay other marks) (sym (append-nil marks)) (λ command. refl)
made_stays conn now id marks (Some counts) its other ne = others_marked other marks (home_mark now id counts) (λ e. ne (sym e ∙ its))

module _ (config : Config) (conn : ℕ) (node : List ℕ) (front : Front) (world : World) (story : Tale) (stop : Stop) (heard : Heard) (here : Place)
    (waits : CommandWaits (fixed_of config) conn node front world story stop heard here) (next : World) where
  -- what the step leaves: its frontend, its client and the number of the step
  pub record Leaves (counts : Option Counts) : Type 0 where
    pub fronts : front_at next node ≡ front_at world node
    pub clients : client_at next conn ≡ client_at world conn
    pub broken : next.broken ≡ world.broken
    pub steps : next.steps ≡ world.steps
    pub marks : next.marks ≡ world.marks ++ made_by world.steps waits.c.id counts

  pub own_step : (master : Master) (given : Given) (store : Store) (counts : Option Counts) (there : Place) → Leaves counts
      → Outcome (fixed_of config) node conn world.broken world.steps world.marks story waits.tag waits.c store counts there
      → ManyHold (murder_of next master) given store
      → IsInPlaceOf (fixed_of config) next node front.replica (next_id conn (story.told conn)) there
      → IsMarkedAt story.talk.moving (world.marks ++ made_by world.steps waits.c.id counts) (next_id conn (story.told conn)) there
      → IsDroppedAt (fixed_of config).master next node there
      → ((at : At) → WaitsAt at here → WaitsAt at there) → OwnStep config conn stop heard world story next master given
  own_step master given store counts there leaves out many placed marked dropped whom =
      let later : Tale = out.later in
      let same : later.told conn ≡ story.told conn = ap (λ t. t conn) out.told in
      let its : waits.c.id.conn ≡ conn = ap (λ (i : AskId). i.conn) waits.its in
      record {
        later = later;
        told = out.told;
        goes_on = out.goes_on;
        is_told = subst (λ (b : Broken). AreMarkedSo (setting_of config) b next.steps next.marks later) (sym leaves.broken)
            (subst (λ (s : ℕ). AreMarkedSo (setting_of config) world.broken s next.marks later) (sym leaves.steps)
            (subst (λ (m : List Mark). AreMarkedSo (setting_of config) world.broken world.steps m later) (sym leaves.marks) out.is_told));
        marks = λ other ne. subst (MarksStay other world.marks) (sym leaves.marks) (made_stays conn world.steps waits.c.id world.marks counts its other ne);
        many = subst (λ (s : Store). ManyHold (murder_of next master) given s) (sym out.store_is) many;
        mine = waits.goes_on next later there (record {
          fronts = leaves.fronts;
          clients = leaves.clients;
          broken = leaves.broken;
          told = same;
          dropped = dropped;
          restores = out.restores;
          placed = subst (λ t. IsInPlaceOf (fixed_of config) next node front.replica (next_id conn t) there) (sym same) placed;
          marked = subst (λ m. IsMarkedAt m next.marks (next_id conn (later.told conn)) there) (sym out.goes_on.more.moving)
              (subst (λ t. IsMarkedAt story.talk.moving next.marks (next_id conn t) there) (sym same)
              (subst (λ (m : List Mark). IsMarkedAt story.talk.moving m (next_id conn (story.told conn)) there) (sym leaves.marks) marked));
          whom = whom;
          knows = out.knows;
        });
      }
