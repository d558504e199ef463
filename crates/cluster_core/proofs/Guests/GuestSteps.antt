-- Each event leaves each client at the master with its dialog.
use Rattle.std.proofs.Common.{◌≡◌, ◌≢◌, ℕ, Bool, true, false, cond, List, [], ◌∷◌, Option, None, Some, refl, sym, ◌∙◌, ap, subst}
use Rattle.std.specs.Ordering.{nat_cmp}
use Rattle.std.specs.Cmp.Lexicographic.{slice_cmp}
use Rattle.std.proofs.Math.Logic.{⊎_elim}
use Rattle.cluster_core.specs.Headline.OneNode.{node_of, node_of as node_there}
use Rattle.cluster_core.specs.Headline.Outside.{is_master, at_master, by_client, by_delivery, by_opening, guest_after, happening_of, seen_by}
use Rattle.cluster_core.specs.World.{master_of, client_at, client_does, comes, cuts_if, deliver_first, joins_if, master_at, may_cut, may_join, opens, stepped, steps_by, taken_from_link, takes, with_client}
use Rattle.cluster_core.specs.declared.world.Client.{Client}
use Rattle.feed_links.specs.Spelled.{CanBeTold}
use Rattle.guest_links.specs.Guests.{Guest, arrived}
use Rattle.guest_links.specs.Happenings.{Happening, connects, first_seen, step_of}
use Rattle.guest_links.specs.Served.{HasWatchers, IsNoGuest, IsSeen}
use Rattle.guest_links.proofs.Numbers.{other_number, same_number}
use Rattle.guest_links.proofs.ServedLaw.{next_seen}
use Rattle.link_msg.specs.declared.message.LinkMsg.{LinkMsg}
use Rattle.link_queue.specs.Links.{on_link}
use Rattle.master_core.specs.declared.master.Master.{Master}
use Rattle.mur_base.specs.Map.{value_at}
use Rattle.mur_base.proofs.MapLaws.{numbers_apart, same_or_other, value_at-with_entry}
use Rattle.mur_config.specs.declared.config.Config.{Config}
use Rattle.node_step.specs.declared.input.NodeInput.{NodeInput}
use Rattle.node_step.specs.declared.input.NodeInput.TheVariants.{Opened, Piece, Hung, From}
use Rattle.node_step.specs.declared.node.NodeState.TheVariants as state
use Rattle.node_step.specs.NodeStep.{as_front, as_master}
use Rattle.node_step.proofs.OwnOuts.{ComesFrom}
use Rattle.schedule_text.specs.declared.event.Event.{Event}
use Rattle.schedule_text.specs.declared.event.Event.TheVariants.{Open, Data, Hang, Deliver, Cut, Join}
use Rattle.cluster_core.specs.declared.world.World.{World}
use Rattle.cluster_core.specs.Shown.{given_by, given_to}
use Rattle.cluster_core.proofs.Runs.OwnClientsLaw.{Anyone, HaveOwnClients, IsClientOf, anyone_speaks, joins_here, joins_own, joins_same}
use Rattle.cluster_core.proofs.Guests.AtMaster.{comes_so, guest_joins, guest_next, happening_by, law_next}
use Rattle.cluster_core.proofs.Guests.AtOthers.{other_guest, other_master}
use Rattle.cluster_core.proofs.Guests.GuestLaw.{GuestIs, GuestsLaw, IsElsewhere, IsPlacedSo, placed_same}
use Rattle.cluster_core.proofs.Nodes.AllCome.{all_come}
use Rattle.cluster_core.proofs.Nodes.Comes.{with_master, wrote}
use Rattle.cluster_core.proofs.Nodes.Relinks.{cut_relinks, join_relinks}
use Rattle.cluster_core.proofs.Nodes.Thins.{comes_thinned}

-- what each world has
pub record Fits (config : Config) (world : World) : Type 0 where
  pub only : (node : List ℕ) (other : Master) → master_at world node ≡ Some other → node ≡ master_of config
  pub own : HaveOwnClients world

-- which node is the master
pub record KnowsMaster (config : Config) : Type 0 where
  pub here : is_master config (master_of config) ≡ true
  pub only : (node : List ℕ) → is_master config node ≡ true → node ≡ master_of config

-- ---- the same clients

pub law_same : (config : Config) (guests later : ℕ → Option Guest) (world : World) → ((conn : ℕ) → later conn ≡ guests conn) → GuestsLaw config guests world
    → GuestsLaw config later world
law_same config guests later world same law = record {
  master = law.master;
  there = law.there;
  order = law.order;
  told = law.told;
  each = λ conn. subst (GuestIs config world law.master conn) (sym (same conn)) (law.each conn);
}

guest_alike : (config : Config) (world next : World) (master : Master) (conn : ℕ) (seen : Option Guest) → client_at next conn ≡ client_at world conn
    → next.nodes ≡ world.nodes → GuestIs config world master conn seen → GuestIs config next master conn seen
guest_alike config world next master conn seen client nodes is = record {
  has = is.has;
  placed = placed_same config world next conn seen client
      (λ any none was. sym (ap (λ n. as_front (value_at (slice_cmp nat_cmp) n any)) nodes) ∙ none) is.placed;
  reads = is.reads;
}

-- a world in which the nodes and the clients are the same
law_alike : (config : Config) (guests : ℕ → Option Guest) (world next : World) → next.clients ≡ world.clients → next.nodes ≡ world.nodes
    → GuestsLaw config guests world → GuestsLaw config guests next
law_alike config guests world next clients nodes law = record {
  master = law.master;
  there = ap (λ n. as_master (value_at (slice_cmp nat_cmp) n (master_of config))) nodes ∙ law.there;
  order = law.order;
  told = law.told;
  each = λ conn. guest_alike config world next law.master conn (guests conn) (ap (λ c. value_at nat_cmp c conn) clients) nodes (law.each conn);
}

-- ---- something comes to a node

-- what a client sees where this happens at the master
abbrev seen_at : Master → (ℕ → Option Guest) → Option Happening → ℕ → Option Guest
seen_at master guests happening conn = seen_by conn (guests conn) (Some master) happening

module _ (config : Config) (knows : KnowsMaster config) (world : World) (master : Master) (there : master_at world (master_of config) ≡ Some master)
    (order : HasWatchers master) (told : CanBeTold master.table) (node : List ℕ) (input : NodeInput) (fits : Fits config world)
    (from : ComesFrom (IsClientOf world node) Anyone input) (guests : ℕ → Option Guest) where
  abbrev happens : Happening
  happens = happening_by input

  -- the world once the master's entry is written
  abbrev put : World
  put = wrote world (master_of config) (state.Master master) input

  abbrev acts_so : World
  acts_so = with_master put (master_of config) (step_of master (happening_by input))

  -- it is the master
  master_comes : node ≡ master_of config
      → ((conn : ℕ) → GuestIs config acts_so (step_of master happens).master conn (next_seen master conn (guests conn) happens))
      → GuestsLaw config (seen_at master guests (Some happens)) (comes world node input)
  master_comes here each =
      subst (λ n. GuestsLaw config (seen_at master guests (Some happens)) (comes world n input)) (sym here)
      (law_alike config (seen_at master guests (Some happens)) (all_come world (master_of config) input) (comes world (master_of config) input)
      (comes_thinned world (master_of config) input).clients (comes_thinned world (master_of config) input).nodes
      (subst (GuestsLaw config (seen_at master guests (Some happens))) (sym (comes_so world (master_of config) input master there))
      (law_next config put master there order told happens (seen_at master guests (Some happens)) each)))

  -- it is another node
  other_comes : node ≢ master_of config → ((conn : ℕ) → GuestIs config world master conn (guests conn)) → GuestsLaw config guests (comes world node input)
  other_comes apart each = record {
    master = master;
    there = other_master config world node input apart fits.only fits.own from ∙ there;
    order = order;
    told = told;
    each = λ conn. other_guest config world node input apart fits.only fits.own from master conn (guests conn) (each conn);
  }

  comes_by : (here : Bool) → is_master config node ≡ here
      → (node ≡ master_of config
      → (conn : ℕ) → GuestIs config acts_so (step_of master happens).master conn (next_seen master conn (guests conn) happens))
      → (node ≢ master_of config → (conn : ℕ) → GuestIs config world master conn (guests conn))
      → GuestsLaw config (seen_at master guests (cond here (Some happens) None)) (comes world node input)
  comes_by true is at_it else = master_comes (knows.only node is) (at_it (knows.only node is))
  comes_by false is at_it else =
      let apart : node ≢ master_of config = λ e. (let no : true ≡ false = sym knows.here ∙ ap (is_master config) (sym e) ∙ is in cc) in
      other_comes apart (else apart)

  pub comes_guests : (node ≡ master_of config
      → (conn : ℕ) → GuestIs config acts_so (step_of master happens).master conn (next_seen master conn (guests conn) happens))
      → (node ≢ master_of config → (conn : ℕ) → GuestIs config world master conn (guests conn))
      → GuestsLaw config (seen_at master guests (at_master config node happens)) (comes world node input)
  comes_guests at_it else = comes_by (is_master config node) refl at_it else

  -- nobody connects
  pub acts_guests : ((conn : ℕ) → first_seen master.me conn happens ≡ None) → ((conn : ℕ) → GuestIs config world master conn (guests conn))
      → GuestsLaw config (seen_at master guests (at_master config node happens)) (comes world node input)
  acts_guests first each =
      comes_guests
      (λ here conn. guest_next config put master there order told happens conn (guests conn) (λ _. first conn)
      (guest_alike config world put master conn (guests conn) refl refl (each conn)))
      (λ apart. each)

-- ---- a client connects

nobody_seen : (config : Config) (world : World) (conn : ℕ) (seen : Option Guest) → client_at world conn ≡ None → IsPlacedSo config world conn seen
    → seen ≡ None
nobody_seen config world conn None none placed = refl
nobody_seen config world conn (Some guest) none placed =
    absurd (let no : None ≡ Some (record { at = master_of config; given = guest.dialog.given }) = sym none ∙ placed in cc)

module _ (config : Config) (knows : KnowsMaster config) (world : World) (fits : Fits config world) (guests : ℕ → Option Guest)
    (law : GuestsLaw config guests world) (node : List ℕ) (conn : ℕ) (none : client_at world conn ≡ None) where
  abbrev joined : World
  joined = with_client world node conn

  joined_fits : Fits config joined
  joined_fits = record { only = fits.only; own = joins_own world node conn none fits.own }

  is_new : guests conn ≡ None
  is_new = nobody_seen config world conn (guests conn) none (law.each conn).placed

  unseen : IsNoGuest law.master conn
  unseen = subst (IsSeen law.master conn) is_new (law.each conn).has

  its_client : client_at joined conn ≡ Some (record { at = node; given = [] })
  its_client = value_at-with_entry nat_cmp numbers_apart world.clients conn (record { at = node; given = [] })

  others_there : (other : ℕ) → other ≢ conn → GuestIs config joined law.master other (guests other)
  others_there other ne = guest_alike config world joined law.master other (guests other) (joins_same world node conn other ne) refl (law.each other)

  -- at another node it is given nothing yet
  new_there : node ≢ master_of config → IsElsewhere config joined conn
  unfolding given_to
  new_there apart = record {
    apart = λ e. apart (let same : Some node ≡ Some (master_of config) = sym (ap node_of its_client) ∙ e in cc);
    silent = λ there at front. ap given_by its_client;
  }

  all_there : node ≢ master_of config → (other : ℕ) → GuestIs config joined law.master other (guests other)
  all_there apart other = ⊎_elim
      (λ (e : other ≡ conn). subst (λ c. GuestIs config joined law.master c (guests c)) (sym e)
      (subst (GuestIs config joined law.master conn) (sym is_new) (record { has = unseen; placed = new_there apart; reads = tt })))
      (λ (ne : other ≢ conn). others_there other ne)
      (same_or_other nat_cmp numbers_apart other conn)

  abbrev joined_there : World
  joined_there = wrote joined (master_of config) (state.Master law.master) (Opened conn)

  abbrev greets : World
  greets = with_master joined_there (master_of config) (step_of law.master (connects conn))

  its_own : node ≡ master_of config
      → GuestIs config greets (step_of law.master (connects conn)).master conn (next_seen law.master conn (guests conn) (connects conn))
  its_own here =
      subst (λ s. GuestIs config greets (step_of law.master (connects conn)).master conn (next_seen law.master conn s (connects conn))) (sym is_new)
      (guest_joins config joined_there law.master law.there law.order law.told (connects conn) conn
      (ap (λ b. cond b (Some (arrived law.master.me)) None) (same_number conn))
      (its_client ∙ ap {B = Option Client} (λ n. Some (record { at = n; given = [] })) here) unseen)

  all_greeted : node ≡ master_of config
      → (other : ℕ) → GuestIs config greets (step_of law.master (connects conn)).master other (next_seen law.master other (guests other) (connects conn))
  all_greeted here other = ⊎_elim
      (λ (e : other ≡ conn).
      subst (λ c. GuestIs config greets (step_of law.master (connects conn)).master c (next_seen law.master c (guests c) (connects conn))) (sym e)
      (its_own here))
      (λ (ne : other ≢ conn). guest_next config joined_there law.master law.there law.order law.told (connects conn) other (guests other)
      (λ _. ap (λ b. cond b (Some (arrived law.master.me)) None) (other_number other conn ne))
      (guest_alike config joined joined_there law.master other (guests other) refl refl (others_there other ne)))
      (same_or_other nat_cmp numbers_apart other conn)

  opens_new : GuestsLaw config (seen_at law.master guests (at_master config node (connects conn))) (comes joined node (Opened conn))
  opens_new =
      comes_guests config knows joined law.master law.there law.order law.told node (Opened conn) joined_fits (joins_here world node conn) guests
      all_greeted all_there

-- ---- an event

module _ (config : Config) (knows : KnowsMaster config) (world : World) (fits : Fits config world) (guests : ℕ → Option Guest)
    (law : GuestsLaw config guests world) where
  open_guests : (node : List ℕ) (conn : ℕ) (found : Option Client) → client_at world conn ≡ found
      → GuestsLaw config (seen_at law.master guests (by_opening config node conn found)) (opens world node conn found)
  unfolding opens
  open_guests node conn (Some there) at = law
  open_guests node conn None at = opens_new config knows world fits guests law node conn at

  client_guests : (input : NodeInput) (found : Option Client)
      → ((client : Client) → found ≡ Some client → ComesFrom (IsClientOf world client.at) Anyone input)
      → ((conn : ℕ) → first_seen law.master.me conn (happening_by input) ≡ None)
      → GuestsLaw config (seen_at law.master guests (by_client config found (happening_by input))) (client_does world input found)
  unfolding client_does
  client_guests input None from first = law
  client_guests input (Some client) from first =
      acts_guests config knows world law.master law.there law.order law.told client.at input fits (from client refl) guests first law.each

  deliver_guests : (from to : List ℕ) (queue : List LinkMsg)
      → GuestsLaw config (seen_at law.master guests (by_delivery config from to queue)) (deliver_first world from to queue)
  unfolding deliver_first
  deliver_guests from to [] = law
  deliver_guests from to (message ∷ rest) =
      let taken : World = taken_from_link world from to in
      acts_guests config knows taken law.master law.there law.order law.told to (From from message)
      (record { only = fits.only; own = fits.own }) (anyone_speaks from message) guests (λ conn. refl)
      (λ conn. guest_alike config world taken law.master conn (guests conn) refl refl (law.each conn))

  takes_guests : (event : Event) → GuestsLaw config (seen_at law.master guests (happening_of config world event)) (takes world event)
  unfolding takes happening_of
  takes_guests (Open node conn) = open_guests node conn (client_at world conn) refl
  takes_guests (Data conn bytes) = client_guests (Piece conn bytes) (client_at world conn) (λ client is. ap node_there is) (λ other. refl)
  takes_guests (Hang conn) = client_guests (Hung conn) (client_at world conn) (λ client is. ap node_there is) (λ other. refl)
  takes_guests (Deliver from to) = deliver_guests from to (on_link world.links from to)
  takes_guests (Cut one other kept kept_back) =
      let is = cut_relinks (may_cut world one other) world one other kept kept_back in
      law_alike config guests world (cuts_if (may_cut world one other) world one other kept kept_back) is.clients is.nodes law
  takes_guests (Join one other) =
      let is = join_relinks (may_join world one other) world one other in
      law_alike config guests world (joins_if (may_join world one other) world one other) is.clients is.nodes law
  takes_guests event = law

-- the count of steps is nothing that a client sees
happens_alike : (config : Config) (world : World) (event : Event) → happening_of config (stepped world) event ≡ happening_of config world event
unfolding happening_of
happens_alike config world (Open node conn) = refl
happens_alike config world (Data conn bytes) = refl
happens_alike config world (Hang conn) = refl
happens_alike config world (Deliver from to) = refl
happens_alike config world event = refl

pub step_guests : (config : Config) (knows : KnowsMaster config) (world : World) → Fits config world → (guests : ℕ → Option Guest)
    → GuestsLaw config guests world → (event : Event) → GuestsLaw config (λ conn. guest_after config conn world (guests conn) event) (steps_by world event)
unfolding guest_after law_alike
step_guests config knows world fits guests law event =
    let begun = law_alike config guests world (stepped world) refl refl law in
    law_same config (seen_at law.master guests (happening_of config (stepped world) event)) (λ conn. guest_after config conn world (guests conn) event)
    (steps_by world event)
    (λ conn. ap (λ m. seen_by conn (guests conn) m (happening_of config world event)) law.there
    ∙ ap (λ h. seen_by conn (guests conn) (Some law.master) h) (sym (happens_alike config world event)))
    (takes_guests config knows (stepped world) (record { only = fits.only; own = fits.own }) guests begun event)
