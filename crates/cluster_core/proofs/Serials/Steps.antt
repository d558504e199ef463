-- What a step makes of the RESERVEs that the master has answered OK: each is of a command that the one store has replied to, or of one that waits.
use Rattle.std.proofs.Common.{◌≡◌, ◌≢◌, ◌⊎◌, inl, inr, ℕ, ◌+◌, ◌≤◌, Bool, true, false, cond, is_some, List, [], ◌∷◌, length, Option, None, Some, refl, sym, ◌∙◌, ap, subst}
use Rattle.std.proofs.Common.{arith}
use Rattle.std.specs.Ordering.{nat_cmp}
use Rattle.std.specs.Cmp.Lexicographic.{slice_cmp}
use Rattle.std.proofs.Math.Logic.{⊎_elim}
use Rattle.std.proofs.lemmas.Bool.{cases_eq}
use Rattle.back_node.specs.declared.node.BackNode.{BackNode}
use Rattle.guest_links.specs.Happenings.{sends, step_of}
use Rattle.imap_talk.specs.Heard.{Heard}
use Rattle.link_msg.specs.declared.message.LinkMsg.{LinkMsg}
use Rattle.link_queue.specs.Broken.{Broken, is_broken}
use Rattle.link_queue.specs.Links.{on_link}
use Rattle.master_core.specs.declared.master.Master.{Master}
use Rattle.master_core.specs.Linked.{node_says}
use Rattle.master_core.specs.Outside.{Stepped}
use Rattle.mur_base.specs.Map.{value_at}
use Rattle.mur_base.proofs.MapLaws.{names_apart, same_or_other}
use Rattle.mur_config.specs.declared.config.Config.{Config}
use Rattle.node_record.specs.Table.{MailboxTable}
use Rattle.node_step.specs.declared.input.NodeInput.{NodeInput}
use Rattle.node_step.specs.declared.input.NodeInput.TheVariants.{Opened, Piece, Hung, From}
use Rattle.node_step.specs.declared.node.NodeState.{NodeState}
use Rattle.node_step.specs.declared.node.NodeState.TheVariants as state
use Rattle.node_step.specs.NodeStep.{as_back, as_master, takes as node_takes}
use Rattle.schedule_text.specs.declared.event.Event.{Event}
use Rattle.schedule_text.specs.declared.event.Event.TheVariants.{Open, Data, Hang, Deliver, Cut, Join, Crash, Arm, Start, Flow, Heal}
use Rattle.cluster_core.specs.declared.world.Client.{Client}
use Rattle.cluster_core.specs.declared.world.World.{World}
use Rattle.cluster_core.specs.Headline.OneNode.{node_of, relinked, relinks, worker}
use Rattle.cluster_core.specs.Headline.Outside.{table_at, table_by}
use Rattle.cluster_core.specs.Headline.Serials.{asks_reserve, last_serial}
use Rattle.cluster_core.specs.Numbers.{NumbersFit}
use Rattle.cluster_core.specs.World.{client_at, client_does, comes, deliver_first, home_at, master_of, may_cut, may_join, node_at, opens, stepped, taken_from_link, takes, with_client}
use Rattle.cluster_core.proofs.Connections.KeepsLaw.{KeepsLaw}
use Rattle.cluster_core.proofs.Connections.KeepsStill.{disks_law}
use Rattle.cluster_core.proofs.Guests.TablesStay.{step_tables}
use Rattle.cluster_core.proofs.Nodes.AllCome.{all_come, all_come_to, home_all_come, master_all_come}
use Rattle.cluster_core.proofs.Nodes.Carried.{is_made}
use Rattle.cluster_core.proofs.Nodes.Comes.{IsOfClient, master_moved, with_master, wrote}
use Rattle.cluster_core.proofs.Nodes.Relinks.{cut_relinks, join_relinks}
use Rattle.cluster_core.proofs.Nodes.Then.{looks_then}
use Rattle.cluster_core.proofs.Nodes.Thins.{comes_thinned}
use Rattle.cluster_core.proofs.OneServer.SerialsRise.{step_rises}
use Rattle.cluster_core.proofs.Runs.NeverMoved.{WorldIsQuiet, homes_of, homes_stay}
use Rattle.cluster_core.proofs.Runs.OneNodeLaw.{takes_works}
use Rattle.cluster_core.proofs.Serials.AtHome.{home_goes}
use Rattle.cluster_core.proofs.Serials.AtMaster.{Gives, IsGiven, master_gives}
use Rattle.cluster_core.proofs.Serials.AtMaster.Gives.{gives_none, gives_one}
use Rattle.cluster_core.proofs.Serials.Awaits.{AwaitsMaster, awaits_so}
use Rattle.cluster_core.proofs.Serials.Counting.{times, times_else, times_first}
use Rattle.cluster_core.proofs.Serials.MasterLinks.{master_links_stay}
use Rattle.cluster_core.proofs.Serials.Reserved.{HasReserved, IsReserved, beside, client_leaves, reserved_so}

-- so many are of a connection's commands: the one store has replied to as many, or there is one more, which waits in this world
pub data IsCounted (master : List ℕ) (told said : ℕ) (world : World) (conn n : ℕ) : Type 0 where
  replied : n ≤ said → IsCounted master told said world conn n
  waiting : IsReserved master world conn → n ≤ told + 1 → IsCounted master told said world conn n

-- what comes to a node breaks no link
all_come_broken : (world : World) (node : List ℕ) (input : NodeInput) (found : Option NodeState) → (all_come_to world node input found).broken ≡ world.broken
unfolding all_come_to
all_come_broken world node input None = refl
all_come_broken world node input (Some it) = (is_made (wrote world node it input) node (node_takes it input).state (node_takes it input).outs).broken

module _ (config : Config) (heard : ℕ → Heard) (before : World) (quiet : WorldIsQuiet (master_of config) before)
    (law : KeepsLaw config heard (stepped before)) (fits : NumbersFit heard) where
  abbrev world : World
  world = stepped before

  abbrev name : List ℕ
  name = master_of config

  abbrev told : ℕ → ℕ
  told conn = length (law.story.told conn)

  abbrev said : ℕ → ℕ
  said conn = length (law.story.talk.answers conn)

  abbrev next : Event → World
  next event = takes world event

  begun_quiet : WorldIsQuiet name world
  begun_quiet = record { nodes = quiet.nodes; links = quiet.links; whole = quiet.whole; calm = quiet.calm }

  -- what the master sends to a backend is never lost
  reserved_then : (all real : World) → real.nodes ≡ all.nodes
      → ((server : List ℕ) (node : BackNode) → home_at all server ≡ Some node → on_link real.links name server ≡ on_link all.links name server) → (conn : ℕ)
      → IsReserved name all conn → IsReserved name real conn
  reserved_then all real nodes links conn is = record {
    server = is.server;
    node = is.node;
    there = ap (λ n. as_back (value_at (slice_cmp nat_cmp) n is.server)) nodes ∙ is.there;
    name = is.name;
    flow = is.flow;
    runs = is.runs;
    own = is.own;
    reserved = subst (HasReserved is.name is.flow) (sym (links is.server is.node is.there)) is.reserved;
  }

  -- a backend was one before
  was_home : (there : World) (node : List ℕ) (input : NodeInput) (server : List ℕ) (its : BackNode) → there.nodes ≡ world.nodes
      → home_at (comes there node input) server ≡ Some its → homes_of world server ≡ true
  was_home there node input server its nodes at =
      ap (λ n. is_some (as_back (value_at (slice_cmp nat_cmp) n server))) (sym nodes) ∙ sym (homes_stay there node input server) ∙ ap is_some at

  comes_reserved : (there : World) (node : List ℕ) (input : NodeInput) (conn : ℕ) → there.nodes ≡ world.nodes → there.broken ≡ world.broken
      → IsReserved name (all_come there node input) conn → IsReserved name (comes there node input) conn
  comes_reserved there node input conn nodes same is =
      let lost = comes_thinned there node input in
      reserved_then (all_come there node input) (comes there node input) lost.nodes
      (λ server its at. lost.whole name server
      (ap (λ (b : Broken). is_broken b name server) (all_come_broken there node input (node_at there node) ∙ same)
      ∙ (quiet.whole server (was_home there node input server its nodes (ap (λ n. as_back (value_at (slice_cmp nat_cmp) n server)) lost.nodes ∙ at))).0)) conn is

  -- ---- a command whose RESERVE was answered OK

  abbrev Goes : World → ℕ → Type 0
  Goes there conn = IsReserved name there conn ⊎ (told conn + 1 ≤ said conn)

  module _ (conn : ℕ) (is : IsReserved name world conn) where
    -- the backend does what a client wants of it
    by_client : (input : NodeInput) (node : List ℕ) → IsOfClient input → node ≡ is.server → Goes (comes world node input) conn
    by_client input node of same =
        inl (subst (λ n. IsReserved name (comes world n input) conn) (sym same) (client_leaves name world conn is input of))

    opening : (node : List ℕ) (other : ℕ) (found : Option Client) → node ≡ is.server → Goes (opens world node other found) conn
    unfolding opens
    opening node other (Some client) same = inl is
    opening node other None same =
        let there : IsReserved name (with_client world node other) conn = record {
          server = is.server;
          node = is.node;
          there = is.there;
          name = is.name;
          flow = is.flow;
          runs = is.runs;
          own = is.own;
          reserved = is.reserved;
        } in
        inl (subst (λ n. IsReserved name (comes (with_client world node other) n (Opened other)) conn) (sym same)
        (client_leaves name (with_client world node other) conn there (Opened other) tt))

    does : (input : NodeInput) (found : Option Client) → IsOfClient input → node_of found ≡ Some is.server → Goes (client_does world input found) conn
    unfolding client_does
    does input None of at = inl is
    does input (Some client) of at = by_client input client.at of (let same : client.at ≡ is.server = cc in same)

    delivered : (from to : List ℕ) (queue : List LinkMsg) → on_link world.links from to ≡ queue → to ≡ is.server → Goes (deliver_first world from to queue) conn
    unfolding deliver_first
    delivered from to [] first same = inl is
    delivered from to (message ∷ rest) first same =
        let first_there = ap (on_link world.links from) (sym same) ∙ first in
        let put : World = wrote world is.server (state.Back is.node) (From from message) in
        subst (λ n. Goes (comes (taken_from_link world from n) n (From from message)) conn) (sym same)
        (goes_really from message
        (subst (λ w. Goes w conn) (sym (home_all_come (taken_from_link world from is.server) is.server (From from message) is.node is.there))
        (home_goes config heard put (disks_law config heard world put.disks law) fits is.server is.node is.there conn is.name is.flow is.runs is.own is.reserved
        from message rest first_there)))
      where
        goes_really : (from : List ℕ) (message : LinkMsg) → Goes (all_come (taken_from_link world from is.server) is.server (From from message)) conn
            → Goes (comes (taken_from_link world from is.server) is.server (From from message)) conn
        goes_really from message (inl on) = inl (comes_reserved (taken_from_link world from is.server) is.server (From from message) conn refl refl on)
        goes_really from message (inr more) = inr more

    at_itself : (event : Event) → worker world event ≡ Some is.server → Goes (next event) conn
    unfolding takes
    at_itself (Open node other) at = opening node other (client_at world other) (let same : node ≡ is.server = cc in same)
    at_itself (Data other bytes) at = does (Piece other bytes) (client_at world other) tt at
    at_itself (Hang other) at = does (Hung other) (client_at world other) tt at
    at_itself (Deliver from to) at = delivered from to (on_link world.links from to) refl (let same : to ≡ is.server = cc in same)
    at_itself event at = cc

    some_name : {one other : List ℕ} → Some one ≡ Some other → one ≡ other
    some_name e = cc

    keeps_down : (event : Event) → relinks world event ≡ true
        → relinked event name is.server (on_link world.links name is.server) ≡ on_link world.links name is.server
    keeps_down event may =
        master_links_stay name is.server world begun_quiet (ap is_some is.there) event (on_link world.links name is.server) may

    goes_by : (event : Event) (at : Option (List ℕ)) → worker world event ≡ at → Goes (next event) conn
    goes_by event None at =
        inl (beside name world conn is event (next event) (λ some. (let no : None ≡ Some is.server = sym at ∙ some in cc)) (keeps_down event) (takes_works world event))
    goes_by event (Some node) at = ⊎_elim
        (λ (same : node ≡ is.server). at_itself event (at ∙ ap (λ (n : List ℕ). Some n) same))
        (λ (ne : node ≢ is.server).
        inl (beside name world conn is event (next event) (λ some. ne (some_name (sym at ∙ some))) (keeps_down event) (takes_works world event)))
        (same_or_other (slice_cmp nat_cmp) names_apart node is.server)

    goes : (event : Event) → Goes (next event) conn
    goes event = goes_by event (worker world event) refl

  abbrev Counted : World → ℕ → ℕ → Type 0
  Counted there conn n = IsCounted name (told conn) (said conn) there conn n

  counted_on : (event : Event) (conn n : ℕ) → Counted world conn n → Counted (next event) conn n
  counted_on event conn n (replied few) = replied few
  counted_on event conn n (waiting is few) = ⊎_elim
      (λ (on : IsReserved name (next event) conn). waiting on few)
      (λ (more : told conn + 1 ≤ said conn). replied (omega (arith, few, more)))
      (goes conn is event)

  -- ---- all of them

  -- the connection of each: there are as many as the master's serial tells; and none is of a command that waited for the master before the step
  pub record Counts (there : World) (reserved : List ℕ) : Type 0 where
    pub few : last_serial config there ≤ length reserved
    pub each : (conn : ℕ) → Counted there conn (times conn reserved)
    pub barred : (conn : ℕ) → AwaitsMaster name world conn → times conn reserved ≤ told conn

  abbrev pub CountsThen : Event → Type 0
  CountsThen event = (reserved : List ℕ) × Counts (next event) reserved

  module _ (reserved : List ℕ) (counts : Counts world reserved) where
    serial_stays : (event : Event) → last_serial config (next event) ≤ last_serial config world → CountsThen event
    serial_stays event stays = (
      reserved,
      record {
        few = omega (arith, counts.few, stays);
        each = λ conn. counted_on event conn (times conn reserved) (counts.each conn);
        barred = counts.barred;
      },
    )

    -- ---- the master takes a message

    module _ (from : List ℕ) (message : LinkMsg) (rest : List LinkMsg) (first : on_link world.links from name ≡ message ∷ rest) where
      abbrev says : Stepped
      says = node_says law.master from message

      -- the world once its entry is written, in which the law holds too
      abbrev put : World
      put = wrote world name (state.Master law.master) (From from message)

      abbrev put_law : KeepsLaw config heard put
      put_law = disks_law config heard world put.disks law

      takes_it : next (Deliver from name) ≡ comes (taken_from_link world from name) name (From from message)
      unfolding takes deliver_first
      takes_it = ap (deliver_first world from name) first

      -- where nothing is lost
      all_of_it : all_come (taken_from_link world from name) name (From from message) ≡ with_master (taken_from_link put from name) name says
      all_of_it = master_all_come (taken_from_link world from name) name (From from message) law.master law.nodes.is_there

      serial_now : last_serial config world ≡ law.master.table.serial
      serial_now = ap (λ (m : Option Master). (table_by m).serial) law.nodes.is_there

      serial_then : last_serial config (next (Deliver from name)) ≡ says.master.table.serial
      serial_then =
          ap (last_serial config) takes_it
          ∙ looks_then (taken_from_link world from name) name (From from message) (λ n. (table_by (as_master n)).serial) name
          ∙ ap (last_serial config) all_of_it
          ∙ ap (λ (m : Option Master). (table_by m).serial) (master_moved (taken_from_link put from name) name law.master says law.nodes.is_there).own

      rises : (asks : Bool) → asks_reserve message ≡ asks → says.master.table.serial ≤ law.master.table.serial + cond asks 1 0
      unfolding step_of
      rises asks e = subst (λ b. says.master.table.serial ≤ law.master.table.serial + cond b 1 0) e (step_rises law.master (sends from message))

      module _ (conn : ℕ) (given : IsGiven config heard put put_law fits from message rest first conn) where
        once : (n : ℕ) → Counted world conn n → n ≤ told conn
        once n (replied few) = omega (arith, few, ap length given.said)
        once n (waiting is few) = absurd (given.fresh (reserved_so name world put.disks conn is))

        one_more : (other : ℕ) → Counted (next (Deliver from name)) other (times other (conn ∷ reserved))
        one_more other = ⊎_elim
            (λ (same : other ≡ conn).
            subst (λ c. Counted (next (Deliver from name)) c (times c (conn ∷ reserved))) (sym same)
            (waiting (subst (λ w. IsReserved name w conn) (sym takes_it)
            (comes_reserved (taken_from_link world from name) name (From from message) conn refl refl
            (subst (λ w. IsReserved name w conn) (sym all_of_it) given.reserved)))
            (omega (arith, once (times conn reserved) (counts.each conn), times_first conn reserved))))
            (λ (ne : other ≢ conn).
            subst (Counted (next (Deliver from name)) other) (sym (times_else other conn reserved ne))
            (counted_on (Deliver from name) other (times other reserved) (counts.each other)))
            (cases_eq other conn)

        none_barred : (other : ℕ) → AwaitsMaster name world other → times other (conn ∷ reserved) ≤ told other
        none_barred other awaits = ⊎_elim
            (λ (same : other ≡ conn). absurd (given.apart (awaits_so name world put.disks conn (subst (AwaitsMaster name world) same awaits))))
            (λ (ne : other ≢ conn). omega (arith, times_else other conn reserved ne, counts.barred other awaits))
            (cases_eq other conn)

        reserves_one : says.master.table.serial ≤ law.master.table.serial + 1 → CountsThen (Deliver from name)
        reserves_one more =
            (conn ∷ reserved, record { few = omega (arith, counts.few, more, serial_now, serial_then); each = one_more; barred = none_barred })

      by_gives : asks_reserve message ≡ true → Gives config heard put put_law fits from message rest first → CountsThen (Deliver from name)
      by_gives asks (gives_none stays) = serial_stays (Deliver from name) (omega (arith, stays, serial_now, serial_then))
      by_gives asks (gives_one conn given) = reserves_one conn given (rises true asks)

      by_asks : (asks : Bool) → asks_reserve message ≡ asks → CountsThen (Deliver from name)
      by_asks true e = by_gives e (master_gives config heard put put_law fits from message rest first e)
      by_asks false e = serial_stays (Deliver from name) (omega (arith, rises false e, serial_now, serial_then))

      pub master_counts : CountsThen (Deliver from name)
      master_counts = by_asks (asks_reserve message) refl

    -- ---- any event

    same_table : (event : Event) → table_at (next event) name ≡ table_at world name → CountsThen event
    same_table event same = serial_stays event (omega (arith, ap (λ (t : MailboxTable). t.serial) same))

    to_another : (from to : List ℕ) → name ≢ to → CountsThen (Deliver from to)
    to_another from to ne =
        same_table (Deliver from to) (ap (λ (n : Option NodeState). table_by (as_master n)) ((takes_works world (Deliver from to)).nodes name ne))

    to_master : (from : List ℕ) (queue : List LinkMsg) → on_link world.links from name ≡ queue → CountsThen (Deliver from name)
    unfolding takes deliver_first
    to_master from [] first =
        same_table (Deliver from name) (ap (λ (q : List LinkMsg). table_at (deliver_first world from name q) name) first)
    to_master from (message ∷ rest) first = master_counts from message rest first

    -- A STEP COUNTS ON
    pub step_counts : (event : Event) → CountsThen event
    unfolding takes
    step_counts (Open node conn) = same_table (Open node conn) (step_tables before (Open node conn) refl name)
    step_counts (Data conn bytes) = same_table (Data conn bytes) (step_tables before (Data conn bytes) refl name)
    step_counts (Hang conn) = same_table (Hang conn) (step_tables before (Hang conn) refl name)
    step_counts (Deliver from to) = ⊎_elim
        (λ (same : name ≡ to). subst (λ n. CountsThen (Deliver from n)) same (to_master from (on_link world.links from name) refl))
        (λ (ne : name ≢ to). to_another from to ne)
        (same_or_other (slice_cmp nat_cmp) names_apart name to)
    step_counts (Cut one other kept left) =
        same_table (Cut one other kept left)
        (ap (λ n. table_by (as_master (value_at (slice_cmp nat_cmp) n name))) (cut_relinks (may_cut world one other) world one other kept left).nodes)
    step_counts (Join one other) =
        same_table (Join one other)
        (ap (λ n. table_by (as_master (value_at (slice_cmp nat_cmp) n name))) (join_relinks (may_join world one other) world one other).nodes)
    step_counts (Crash node image kept) = same_table (Crash node image kept) refl
    step_counts (Arm node call image kept) = same_table (Arm node call image kept) refl
    step_counts (Start node) = same_table (Start node) refl
    step_counts (Flow n) = same_table (Flow n) refl
    step_counts Heal = same_table Heal refl
