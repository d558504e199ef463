-- The master takes the NOOP of a LIST that waits for its OK: this is the LIST's point. The store replies by its mailboxes, which are those of the table of this
-- step, and the OK will tell the reply by that table.
use Rattle.std.proofs.Common.{◌≡◌, inr, ℕ, ◌+◌, false, List, [], ◌∷◌, ◌++◌, length, None, Some, refl, sym, ◌∙◌, ap, subst}
use Rattle.feed_core.specs.Listing.{mailbox_names}
use Rattle.feed_links.specs.Replicas.{recs_of}
use Rattle.front_core.specs.declared.front.Front.{Front}
use Rattle.imap_talk.specs.Heard.{Heard}
use Rattle.imap_types.specs.declared.command.Command.{Command}
use Rattle.imap_types.specs.declared.command.Tag.{Tag}
use Rattle.imap_types.specs.declared.request.Request.TheVariants.{Command as a_command}
use Rattle.link_msg.specs.declared.counts.Counts.TheVariants.{IfAnswered}
use Rattle.link_msg.specs.declared.message.LinkMsg.{LinkMsg}
use Rattle.link_queue.specs.Broken.{Broken, is_broken}
use Rattle.link_queue.specs.Links.{on_link, without_first}
use Rattle.many_links.specs.ManyHold.{ManyHold}
use Rattle.many_links.specs.Murder.{Murder, after_master}
use Rattle.mark_history.specs.Marked.{Tale, acting, last_mark}
use Rattle.mark_history.specs.declared.mark.Mark.{Mark}
use Rattle.mark_history.proofs.TakenBack.{list_at}
use Rattle.master_core.specs.Linked.{node_says}
use Rattle.master_core.specs.Outside.{Stepped}
use Rattle.mur_base.specs.declared.point.AskId.{AskId}
use Rattle.mur_config.specs.declared.config.Config.{Config}
use Rattle.mur_model.specs.declared.commands.list.Listing.{Listing}
use Rattle.mur_model.specs.declared.session.Sess.{Sess}
use Rattle.mur_model.specs.declared.setting.Setting.{Setting}
use Rattle.mur_model.specs.declared.store.Store.{Store}
use Rattle.mur_model.specs.Act.{MayAct, act_by, act_of, need_of}
use Rattle.mur_model.specs.Answer.{Answered, MayTake, answer_of}
use Rattle.mur_model.specs.History.{Course, carried_out, numbered}
use Rattle.mur_model.specs.Listing.{list_reply, names_in}
use Rattle.mur_model.specs.Needed.{Names}
use Rattle.node_record.specs.Table.{MailboxTable}
use Rattle.node_step.specs.declared.node.NodeState.TheVariants as state
use Rattle.name_commands.specs.Places.{IsNumbered}
use Rattle.point_links.specs.Lists.{IsListed}
use Rattle.point_links.proofs.ListLaw.{list_is_a_point}
use Rattle.route_links.specs.Answered.{noop_of}
use Rattle.route_links.specs.Barriers.{Place as barrier}
use Rattle.cluster_core.specs.declared.world.World.{World}
use Rattle.cluster_core.specs.World.{client_at, front_at, master_of, setting_of, taken_from_link}
use Rattle.cluster_core.proofs.Commands.AllReached.{AreMarkedSo, carries_out}
use Rattle.cluster_core.proofs.Commands.Knows.{listed_by}
use Rattle.cluster_core.proofs.Commands.Knows.KnowsNames.{is_gone, is_listed, not_yet}
use Rattle.cluster_core.proofs.Commands.Moving.{MovesBy}
use Rattle.cluster_core.proofs.Commands.Place.{Place, its_message, Place as place}
use Rattle.cluster_core.proofs.Commands.Standing.{Fixed, next_id}
use Rattle.cluster_core.proofs.Connections.ConnectionLaw.{IsInPlaceOf, MarksStay, session_at}
use Rattle.cluster_core.proofs.Connections.KeepsLaw.{KeepsLaw, fixed_of, murder_of}
use Rattle.cluster_core.proofs.Connections.Tales.{others_marked, own_marked}
use Rattle.cluster_core.proofs.Feeds.Many.{master_murder}
use Rattle.cluster_core.proofs.Nodes.Carried.{IsMade, is_made, marks_made}
use Rattle.cluster_core.proofs.Nodes.Comes.{master_moved, with_master}
use Rattle.cluster_core.proofs.Steps.Heads.{here_at}
use Rattle.cluster_core.proofs.Steps.MasterOwn.{noop_is_taken}
use Rattle.cluster_core.proofs.Steps.MasterSteps.{IsInBehind}
use Rattle.cluster_core.proofs.Steps.Worlds.{in_murder, in_world_behind, is_fed_front, master_takes}
use Rattle.cluster_core.proofs.Points.Acts.{acting_goes_on, home_mark}
use Rattle.cluster_core.proofs.Points.AtBarrier.{cleared_at}
use Rattle.cluster_core.proofs.Points.Found.{from_is, message_is, to_is}
use Rattle.cluster_core.proofs.Points.ListWaits.{ListWaits, NamesOf}
use Rattle.cluster_core.proofs.Points.Own.{OwnStep}

-- ---- the store replies

abbrev needs_names : Setting → Course → ℕ → Command → Listing → Type 0
needs_names setting course conn it listing = need_of setting (course.sessions conn) it ≡ Names listing

listed_as : (setting : Setting) (course : Course) (conn : ℕ) (tag : Tag) (it : Command) (listing : Listing) → needs_names setting course conn it listing
    → carried_out setting course conn (a_command tag it) 0
    ≡ record {
      store = course.store;
      session = course.sessions conn;
      answer = record { tag = tag; reply = list_reply listing (names_in course.store) };
    }
unfolding answer_of act_of act_by
listed_as setting course conn tag it listing need = rw need refl

may_list : (setting : Setting) (course : Course) (conn : ℕ) (tag : Tag) (it : Command) (listing : Listing) → needs_names setting course conn it listing
    → MayTake setting course.store (course.sessions conn) (a_command tag it) 0
unfolding MayTake MayAct
may_list setting course conn tag it listing need = subst (λ n. MayAct course.store 0 n) (sym need) tt

-- the step carries it out, and its place tells its client's reply
pub record IsListedSo (fixed : Fixed) (conn : ℕ) (broken : Broken) (now : ℕ) (marks : List Mark) (story : Tale) (tag : Tag) (it : Command) (listing : Listing) (was : Sess)
    (table : MailboxTable) : Type 0 where
  pub is_told : AreMarkedSo fixed.setting broken now (marks ++ home_mark now (next_id conn (story.told conn)) IfAnswered ∷ [])
      (acting fixed.setting story conn (a_command tag it) 0)
  pub store : (acting fixed.setting story conn (a_command tag it) 0).course.store ≡ story.course.store
  pub knows : NamesOf conn tag listing was (acting fixed.setting story conn (a_command tag it) 0) (cleared_at table)

module _ (fixed : Fixed) (conn : ℕ) (broken : Broken) (now : ℕ) (marks : List Mark) (story : Tale) (tag : Tag) (it : Command) (listing : Listing) (was : Sess) (table : MailboxTable)
    (is_told : AreMarkedSo fixed.setting broken now marks story) (said : story.talk.answers conn ≡ story.told conn) (was_is : was ≡ story.course.sessions conn)
    (need : need_of fixed.setting was it ≡ Names listing)
    (asked : numbered (story.talk.requests conn) (length (story.told conn) + 1) ≡ Some (a_command tag it))
    (names : names_in story.course.store ≡ mailbox_names (recs_of table)) where
  abbrev acted : Tale
  acted = acting fixed.setting story conn (a_command tag it) 0

  need_is : needs_names fixed.setting story.course conn it listing
  need_is = ap (λ (s : Sess). need_of fixed.setting s it) (sym was_is) ∙ need

  out : carried_out fixed.setting story.course conn (a_command tag it) 0
      ≡ record {
        store = story.course.store;
        session = story.course.sessions conn;
        answer = record { tag = tag; reply = list_reply listing (names_in story.course.store) };
      }
  out = listed_as fixed.setting story.course conn tag it listing need_is

  said_then : acted.talk.answers conn ≡ story.told conn ++ listed_by tag listing table ∷ []
  said_then =
      list_at story.talk.answers conn (story.told conn ++ (carried_out fixed.setting story.course conn (a_command tag it) 0).answer ∷ [])
      ∙ ap (λ (a : Answered). story.told conn ++ a.answer ∷ []) out
      ∙ ap (λ (ns : List (List ℕ)). story.told conn ++ (record { tag = tag; reply = list_reply listing ns }) ∷ []) names

  session_then : was ≡ acted.course.sessions conn
  session_then = was_is ∙ sym (session_at story.course.sessions conn _ ∙ ap (λ (a : Answered). a.session) out)

  pub listed_so : IsListedSo fixed conn broken now marks story tag it listing was table
  listed_so = record {
    is_told = carries_out now marks story conn IfAnswered (a_command tag it) 0
        (record { unreplied = said; asked = asked; free = may_list fixed.setting story.course conn tag it listing need_is })
        (λ if_answered. ap (λ (a : Answered). a.store) out) is_told;
    store = ap (λ (a : Answered). a.store) out;
    knows = is_listed table said_then session_then refl;
  }

-- ---- the master takes its NOOP

module _ (config : Config) (heard : ℕ → Heard) (world : World) (law : KeepsLaw config heard world) (conn : ℕ)
    (fits : IsNumbered (next_id conn (law.story.told conn))) (fnode : List ℕ) (front : Front) (here : Place) (at : front_at world fnode ≡ Some front)
    (waits : ListWaits (fixed_of config) conn fnode front world law.story (law.stops conn) (heard conn) here)
    (placed : IsInPlaceOf (fixed_of config) world fnode front.replica (next_id conn (law.story.told conn)) here) where
  abbrev story : Tale
  story = law.story

  abbrev fixed : Fixed
  fixed = fixed_of config

  abbrev id : AskId
  id = next_id conn (story.told conn)

  abbrev murder : Murder
  murder = murder_of world law.master

  abbrev store : Store
  store = story.course.store

  abbrev name : List ℕ
  name = master_of config

  abbrev table : MailboxTable
  table = law.master.table

  abbrev says : Stepped
  says = node_says law.master fnode (noop_of id)

  abbrev next : World
  next = with_master (taken_from_link world fnode name) name says

  -- its mark
  abbrev mark : Mark
  mark = home_mark world.steps id IfAnswered

  listed : IsListed murder law.given store fnode id
  listed =
      list_is_a_point murder law.given store fnode id
      (record { holds = law.many; its_front = (law.nodes.fronts fnode front at).no_backend; numbered = fits })

  made : IsMade (taken_from_link world fnode name) name (state.Master says.master) says.outs next
  made = is_made (taken_from_link world fnode name) name (state.Master says.master) says.outs

  marks_are : next.marks ≡ world.marks ++ mark ∷ []
  marks_are = made.marks ∙ ap (λ (s : Stepped). world.marks ++ marks_made world.steps s.outs) (listed.taken).step

  many_then : ManyHold (murder_of next says.master) law.given store
  many_then =
      master_murder config world law.master law.given store law.nodes law.many (without_first world.links fnode name) says law.given store
      (subst (λ m. ManyHold (after_master murder (without_first world.links fnode m) says) law.given store) law.nodes.me (listed.taken).then_holds)

  placed_then : (rest : List LinkMsg) → here ≡ place.is_barred barrier.asked → is_broken world.broken name fnode ≡ false
      → on_link world.links fnode name ≡ noop_of id ∷ rest → IsInPlaceOf fixed next fnode front.replica id (cleared_at table)
  placed_then rest asks whole first =
      in_world_behind fixed world law.master law.nodes.me (without_first world.links fnode name) says law.nodes.is_there fnode front.replica id
      (cleared_at table)
      (subst (λ m. IsInBehind murder (without_first world.links fnode m) says fnode front.replica id (cleared_at table)) law.nodes.me
      (noop_is_taken murder law.given store fnode front.replica id
      (master_takes config world law.master law.nodes law.feeds law.given store fnode (noop_of id) rest law.many first)
      (is_fed_front config world law.master law.nodes law.feeds fnode front id at fits) whole
      (in_murder fixed world law.master law.nodes.me fnode front.replica id (place.is_barred barrier.asked)
      (subst (λ p. IsInPlaceOf fixed world fnode front.replica id p) asks placed))))

  noop_own : (rest : List LinkMsg) → story.talk.answers conn ≡ story.told conn → waits.was ≡ story.course.sessions conn → here ≡ place.is_barred barrier.asked
      → is_broken world.broken name fnode ≡ false → on_link world.links fnode name ≡ noop_of id ∷ rest → client_at next conn ≡ client_at world conn → MovesBy story.talk.moving world.steps says.master.table
      → OwnStep config conn (law.stops conn) (heard conn) world story next says.master law.given
  noop_own rest said was_is asks whole first same moves =
      let done = listed_so fixed conn world.broken world.steps world.marks story waits.tag waits.it waits.listing waits.was table law.is_told said was_is waits.need
      (ap (λ r. numbered r (length (story.told conn) + 1)) (law.requests conn) ∙ waits.asked) listed.names in
      let later : Tale = acting fixed.setting story conn (a_command waits.tag waits.it) 0 in
      record {
        later = later;
        told = refl;
        goes_on = acting_goes_on fixed.setting conn story (a_command waits.tag waits.it) 0 said;
        is_told = subst (λ (b : Broken). AreMarkedSo (setting_of config) b next.steps next.marks later) (sym made.broken)
            (subst (λ (s : ℕ). AreMarkedSo (setting_of config) world.broken s next.marks later) (sym made.steps)
            (subst (λ (m : List Mark). AreMarkedSo (setting_of config) world.broken world.steps m later) (sym marks_are) done.is_told));
        marks = λ other ne. subst (MarksStay other world.marks) (sym marks_are) (others_marked other world.marks mark (λ e. ne (sym e)));
        many = subst (λ (s : Store). ManyHold (murder_of next says.master) law.given s) (sym done.store) many_then;
        mine = waits.goes_on next later (cleared_at table) (record {
          fronts = (master_moved (taken_from_link world fnode name) name law.master says law.nodes.is_there).fronts fnode;
          clients = same;
          broken = made.broken;
          told = refl;
          placed = placed_then rest asks whole first;
          dropped = tt;
          restores = λ connection session_is. inr (session_at story.before conn (story.course.sessions conn) ∙ sym was_is ∙ sym session_is);
          marked = record {
            step = world.steps;
            saw = ap (λ (m : List Mark). last_mark id m) marks_are ∙ own_marked id world.marks mark refl;
            moves = subst (MovesBy story.talk.moving world.steps) (ap (λ (s : Stepped). s.master.table) (listed.taken).step) moves;
          };
          knows = done.knows;
        });
      }

  -- ---- its message is between its frontend and the master

  abbrev IsIn : List ℕ → List ℕ → LinkMsg → Place → Type 0
  IsIn from to message p = its_message name fnode id p ≡ Some (record { from = from; to = to; message = message })

  -- of those that the master takes it is the NOOP
  module _ (from : List ℕ) (message : LinkMsg) (rest : List LinkMsg) (first : on_link world.links from name ≡ message ∷ rest)
      (whole : is_broken world.broken name from ≡ false)
      (same : client_at (with_master (taken_from_link world from name) name (node_says law.master from message)) conn ≡ client_at world conn)
      (moves : MovesBy story.talk.moving world.steps (node_says law.master from message).master.table) where
    abbrev Own : List ℕ → LinkMsg → Type 0
    Own f m = OwnStep config conn (law.stops conn) (heard conn) world story (with_master (taken_from_link world f name) name (node_says law.master f m))
        (node_says law.master f m).master law.given

    by_knows : IsIn from name message here → NamesOf conn waits.tag waits.listing waits.was story here → Own from message
    by_knows found (not_yet said was_is is) =
        let asked = subst (IsIn from name message) is found in
        let e1 : fnode ≡ from = from_is asked in
        let e3 : noop_of id ≡ message = message_is asked in
        subst (λ f. Own f message) e1
        (subst (λ m. Own fnode m) e3
        (noop_own rest said was_is is (ap (λ f. is_broken world.broken name f) e1 ∙ whole) (ap (λ f. on_link world.links f name) e1 ∙ first ∙ ap (λ m. m ∷ rest) (sym e3))
        (ap (λ m. client_at (with_master (taken_from_link world fnode name) name (node_says law.master fnode m)) conn) e3
        ∙ ap (λ f. client_at (with_master (taken_from_link world f name) name (node_says law.master f message)) conn) e1 ∙ same)
        (subst (MovesBy story.talk.moving world.steps)
        (sym (ap (λ m. (node_says law.master fnode m).master.table) e3 ∙ ap (λ f. (node_says law.master f message).master.table) e1)) moves)))
    by_knows found (is_gone said was_is is) = (let none : None ≡ here_at from name message = subst (IsIn from name message) is found in cc)
    by_knows found (is_listed told said was_is is) =
        absurd ((law.nodes.fronts fnode front at).no_master (to_is (subst (IsIn from name message) is found)))

    pub list_is_own : IsIn from name message here → Own from message
    list_is_own found = by_knows found waits.knows

  -- a backend takes none of them
  module _ (from to : List ℕ) (message : LinkMsg) (no_front : fnode ≡ to → ⊥) (no_master : name ≡ to → ⊥) where
    not_by : IsIn from to message here → NamesOf conn waits.tag waits.listing waits.was story here → ⊥
    not_by found (not_yet said was_is is) = no_master (to_is (subst (IsIn from to message) is found))
    not_by found (is_gone said was_is is) = (let none : None ≡ here_at from to message = subst (IsIn from to message) is found in cc)
    not_by found (is_listed told said was_is is) = no_front (to_is (subst (IsIn from to message) is found))

    pub list_not_at_home : IsIn from to message here → ⊥
    list_not_at_home found = not_by found waits.knows
