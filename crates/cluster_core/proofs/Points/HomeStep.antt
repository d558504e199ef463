-- A backend takes the first message of a link: what that keeps of the tale, the marks, the one store and each connection.
use Rattle.std.proofs.Common.{◌≡◌, ◌≢◌, ◌⊎◌, inl, inr, ℕ, ◌+◌, true, false, List, ◌∷◌, ◌++◌, length, Some, refl, sym, ◌∙◌, ap, subst, append-nil}
use Rattle.std.proofs.Math.Logic.{⊎_elim}
use Rattle.std.proofs.lemmas.Bool.{cases_eq}
use Rattle.std.specs.Ordering.{nat_cmp}
use Rattle.std.specs.Cmp.Lexicographic.{slice_cmp}
use Rattle.back_links.specs.BackEvents.{IsFitting}
use Rattle.back_node.specs.declared.node.BackNode.{BackNode}
use Rattle.back_node.specs.Takes.{node_takes}
use Rattle.cluster_core.specs.World.{setting_of, client_at, front_at, home_at, taken_from_link}
use Rattle.front_core.proofs.OneConnection.Places.{About, about, is_about, is_over, nobody_whom, not_about, of_connection, of_nobody, over_about, over_or}
use Rattle.imap_talk.specs.Heard.{Heard}
use Rattle.link_msg.specs.declared.message.LinkMsg.{LinkMsg}
use Rattle.link_msg.specs.declared.message.LinkMsg.TheVariants.{Up, End, Line, Ask, Answer}
use Rattle.link_queue.specs.Broken.{Broken}
use Rattle.link_queue.specs.Links.{on_link}
use Rattle.many_links.specs.HomeEvents.{is_served}
use Rattle.many_links.specs.ManyHold.{ManyHold}
use Rattle.many_links.specs.Murder.{Murder, home_takes}
use Rattle.many_links.proofs.HomeLaw.{asks_keep_many, hears_keeps_many}
use Rattle.mark_history.specs.Marked.{Tale, talk_told}
use Rattle.mark_history.specs.declared.mark.Mark.{Mark}
use Rattle.mur_base.specs.Map.{value_at}
use Rattle.mur_base.proofs.MapLaws.{names_apart, same_or_other}
use Rattle.mur_config.specs.declared.config.Config.{Config}
use Rattle.mur_model.specs.History.{TalkGoesOn}
use Rattle.mur_model.proofs.HistoryGrows.{same_talk}
use Rattle.node_step.specs.declared.node.NodeState.TheVariants as state
use Rattle.cluster_core.specs.declared.world.World.{World}
use Rattle.cluster_core.proofs.Commands.AllReached.{AreMarkedSo}
use Rattle.cluster_core.proofs.Connections.ConnectionLaw.{MarksStay, SaysOn, says_on, says_same}
use Rattle.cluster_core.proofs.Connections.KeepsLaw.{ConnectionIs, KeepsLaw, fixed_of, murder_of}
use Rattle.cluster_core.proofs.Feeds.Many.{home_murder}
use Rattle.cluster_core.proofs.Nodes.Carried.{IsMade, is_made}
use Rattle.cluster_core.proofs.Nodes.Comes.{home_moved, with_home}
use Rattle.cluster_core.proofs.Points.Marks.{asks_messages, backend_marks_none}
use Rattle.cluster_core.proofs.Points.OthersAtHome.{LeavesElse, home_step_is_others}
use Rattle.cluster_core.proofs.Points.Own.{OwnStep}
use Rattle.cluster_core.proofs.Points.OwnAtHome.{gives_none, home_step_is_own}
use Rattle.cluster_core.proofs.Points.Waits.{AskedFit}

-- what a step of a node keeps of the law, but for the nodes and the feeds
pub record StepKeeps (config : Config) (heard : ℕ → Heard) (world : World) (law : KeepsLaw config heard world) (next : World) : Type 0 where
  pub later : Tale
  pub requests : later.talk.requests ≡ law.story.talk.requests
  pub told : later.told ≡ law.story.told
  pub more : TalkGoesOn (talk_told law.story) (talk_told later)
  pub grows : SaysOn law.story later
  pub is_told : AreMarkedSo (setting_of config) next.broken next.steps next.marks later
  pub many : ManyHold (murder_of next law.master) law.given later.course.store
  pub connections : (conn : ℕ) → ConnectionIs (fixed_of config) conn next later (law.stops conn) (heard conn)

-- what a message of nobody is

nobody_asks : (message : LinkMsg) → about message ≡ of_nobody → asks_messages message ≡ false
nobody_asks Up e = refl
nobody_asks End e = refl
nobody_asks (Line bytes) e = refl
nobody_asks (Ask ask) e = cc
nobody_asks (Answer answer) e = refl

pub nobody_fits : (message : LinkMsg) → about message ≡ of_nobody → IsFitting message
nobody_fits Up e = tt
nobody_fits End e = tt
nobody_fits (Line bytes) e = tt
nobody_fits (Ask ask) e = (let no : of_connection (ask.id).conn ≡ of_nobody = e in cc)
nobody_fits (Answer answer) e = tt

nobody_served : (node : BackNode) (message : LinkMsg) → about message ≡ of_nobody → is_served node message ≡ false
nobody_served node Up e = refl
nobody_served node End e = refl
nobody_served node (Line bytes) e = refl
nobody_served node (Ask ask) e = cc
nobody_served node (Answer answer) e = refl

-- what is left of a command that is over is a line
pub over_fits : (first : ℕ) (message : LinkMsg) → is_over first message ≡ true → IsFitting message
unfolding is_over
over_fits first Up over = tt
over_fits first End over = tt
over_fits first (Line bytes) over = tt
over_fits first (Ask ask) over = cc
over_fits first (Answer answer) over = tt

over_asks : (first : ℕ) (message : LinkMsg) → is_over first message ≡ true → asks_messages message ≡ false
unfolding is_over
over_asks first Up over = refl
over_asks first End over = refl
over_asks first (Line bytes) over = refl
over_asks first (Ask ask) over = cc
over_asks first (Answer answer) over = refl

over_served : (first : ℕ) (node : BackNode) (message : LinkMsg) → is_over first message ≡ true → is_served node message ≡ false
unfolding is_over
over_served first node Up over = refl
over_served first node End over = refl
over_served first node (Line bytes) over = refl
over_served first node (Ask ask) over = cc
over_served first node (Answer answer) over = refl

another : (one conn : ℕ) → one ≢ conn → of_connection conn ≢ of_connection one
another one conn ne e = (let same : conn ≡ one = cc in ne (sym same))

module _ (config : Config) (heard : ℕ → Heard) (world : World) (law : KeepsLaw config heard world) (from to : List ℕ) (node : BackNode)
    (message : LinkMsg) (rest : List LinkMsg) (fit : AskedFit world law.story) (there : home_at world to ≡ Some node)
    (first : on_link world.links from to ≡ message ∷ rest) where
  abbrev next : World
  next = with_home (taken_from_link world from to) to (node_takes node from message)

  abbrev story : Tale
  story = law.story

  abbrev murder : Murder
  murder = murder_of world law.master

  made : IsMade (taken_from_link world from to) to (state.Back (node_takes node from message).state) (node_takes node from message).outs next
  made = is_made (taken_from_link world from to) to (state.Back (node_takes node from message).state) (node_takes node from message).outs

  fronts_stay : (any : List ℕ) → front_at next any ≡ front_at world any
  fronts_stay any = (home_moved (taken_from_link world from to) to node (node_takes node from message) there).fronts any

  clients_stay : (conn : ℕ) → client_at next conn ≡ client_at world conn
  clients_stay conn = ap (λ cs. value_at nat_cmp cs conn) (made.clients ∙ gives_none node from message world.clients)

  -- ---- it is about a command

  others_by : (conn : ℕ) (own : OwnStep config conn (law.stops conn) (heard conn) world story next law.master law.given) (other : ℕ) → other ≢ conn
      → LeavesElse other world next story own.later
  others_by conn own other ne = record {
    fronts = fronts_stay;
    client = clients_stay other;
    broken = made.broken;
    marks = own.marks other ne;
    told = ap (λ t. t other) own.told;
    said = own.goes_on.said other ne;
    session = own.goes_on.sessions other ne;
    before = own.goes_on.before other ne;
    moving = own.goes_on.more.moving;
  }

  -- another connection's
  elsewhere : (conn other : ℕ) → about message ≡ of_connection conn → other ≢ conn
      → is_about (length (story.told other) + 1) (of_connection other) message ≡ false
  elsewhere conn other own ne = not_about (length (story.told other) + 1) (of_connection other) message (λ e. another other conn ne (sym own ∙ e))

  of_command : (conn : ℕ) → about message ≡ of_connection conn → is_over (length (story.told conn) + 1) message ≡ false
      → StepKeeps config heard world law next
  of_command conn own on =
      let it = home_step_is_own config heard world law conn from to node message rest fit there first own on in
      let step = it.step in
      record {
        later = step.later;
        requests = step.goes_on.requests;
        told = step.told;
        more = step.goes_on.more;
        grows = says_on conn story step.later step.goes_on;
        is_told = step.is_told;
        many = step.many;
        connections = λ other. ⊎_elim
            (λ (e : other ≡ conn). subst (λ k. ConnectionIs (fixed_of config) k next step.later (law.stops k) (heard k)) (sym e) step.mine)
            (λ (ne : other ≢ conn). home_step_is_others config heard world law other from to node message rest step.later there first
            (elsewhere conn other own ne) it.fits (others_by conn step other ne))
            (cases_eq other conn);
      }

  -- ---- it is nobody's, or is left of a command that is over

  record IsUnowned : Type 0 where
    asks : asks_messages message ≡ false
    fits : IsFitting message
    served : is_served node message ≡ false
    nobodys : (conn : ℕ) → is_about (length (story.told conn) + 1) (of_connection conn) message ≡ false

  of_nobodys : about message ≡ of_nobody → IsUnowned
  of_nobodys own = record {
    asks = nobody_asks message own;
    fits = nobody_fits message own;
    served = nobody_served node message own;
    nobodys = λ conn. not_about (length (story.told conn) + 1) (of_connection conn) message (λ e. nobody_whom conn (sym own ∙ e));
  }

  left_over : (conn : ℕ) → about message ≡ of_connection conn → is_over (length (story.told conn) + 1) message ≡ true → IsUnowned
  left_over conn own over =
      let at : ℕ = length (story.told conn) + 1 in
      record {
        asks = over_asks at message over;
        fits = over_fits at message over;
        served = over_served at node message over;
        nobodys = λ other. ⊎_elim
            (λ (e : other ≡ conn). subst (λ k. is_about (length (story.told k) + 1) (of_connection k) message ≡ false) (sym e)
            (over_about at (of_connection conn) message over))
            (λ (ne : other ≢ conn). elsewhere conn other own ne)
            (cases_eq other conn);
      }

  module _ (unowned : IsUnowned) where
    none_marked : next.marks ≡ world.marks
    none_marked =
        made.marks ∙ ap (λ (m : List Mark). world.marks ++ m) (backend_marks_none world.steps node from message unowned.asks) ∙ append-nil world.marks

    many_then : ManyHold (murder_of next law.master) law.given story.course.store
    many_then =
        home_murder config world law.master law.given story.course.store law.nodes law.many from to node (node_takes node from message) story.course.store there
        (by (same_or_other (slice_cmp nat_cmp) names_apart from law.master.me))
      where
        by : (from ≡ law.master.me) ⊎ (from ≢ law.master.me) → ManyHold (home_takes murder to node from message) law.given story.course.store
        by (inl e) =
            subst (λ f. ManyHold (home_takes murder to node f message) law.given story.course.store) (sym e)
            (hears_keeps_many murder law.given story.course.store to node message rest law.many there (ap (λ f. on_link world.links f to) (sym e) ∙ first))
        by (inr ne) =
            asks_keep_many murder law.given story.course.store to node from message law.many there ne unowned.fits unowned.served

    of_none : StepKeeps config heard world law next
    of_none = record {
      later = story;
      requests = refl;
      told = refl;
      more = same_talk (talk_told story);
      grows = says_same story;
      is_told = subst (λ (b : Broken). AreMarkedSo (setting_of config) b next.steps next.marks story) (sym made.broken)
          (subst (λ (s : ℕ). AreMarkedSo (setting_of config) world.broken s next.marks story) (sym made.steps)
          (subst (λ (m : List Mark). AreMarkedSo (setting_of config) world.broken world.steps m story) (sym none_marked) law.is_told));
      many = many_then;
      connections = λ conn. home_step_is_others config heard world law conn from to node message rest story there first (unowned.nobodys conn) unowned.fits
          (record {
            fronts = fronts_stay;
            client = clients_stay conn;
            broken = made.broken;
            marks = subst (MarksStay conn world.marks) (sym none_marked) (λ command. refl);
            told = refl;
            said = refl;
            session = refl;
            before = refl;
            moving = refl;
          });
    }

  keeps_by : (whom : About) → about message ≡ whom → StepKeeps config heard world law next
  keeps_by (of_connection conn) e = ⊎_elim
      (λ (over : is_over (length (story.told conn) + 1) message ≡ true). of_none (left_over conn e over))
      (λ (on : is_over (length (story.told conn) + 1) message ≡ false). of_command conn e on)
      (over_or (length (story.told conn) + 1) message)
  keeps_by of_nobody e = of_none (of_nobodys e)

-- THE STEP OF A BACKEND
abbrev pub HomeStepKeeps : Type 0
HomeStepKeeps = (config : Config) (heard : ℕ → Heard) (world : World) (law : KeepsLaw config heard world) (from to : List ℕ) (node : BackNode)
    (message : LinkMsg) (rest : List LinkMsg) → AskedFit world law.story → home_at world to ≡ Some node → on_link world.links from to ≡ message ∷ rest
    → StepKeeps config heard world law (with_home (taken_from_link world from to) to (node_takes node from message))

pub home_step_keeps : HomeStepKeeps
home_step_keeps config heard world law from to node message rest fit there first =
    keeps_by config heard world law from to node message rest fit there first (about message) refl
