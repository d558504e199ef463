-- The master serves its clients so in each run whose steps keep the law, and any other client where no frontend is was given nothing.
use Rattle.std.proofs.Common.{◌≡◌, ℕ, false, List, [], ◌∷◌, ◌++◌, Option, None, Some, refl, sym, ◌∙◌, ap, subst, arith}
use Rattle.std.proofs.lemmas.List.{append-nil}
use Rattle.cluster_core.specs.Headline.OneNode.{node_of}
use Rattle.cluster_core.specs.Headline.Outside.{table_by, HasTheTableOfNow, IsGivenItsDialog, ServesGuests, guest_after, guest_from, guest_of, is_guest, table_at}
use Rattle.cluster_core.specs.Heard.{heard, heard_from}
use Rattle.cluster_core.specs.World.{master_of, client_at, start, steps_by}
use Rattle.guest_links.specs.Guests.{Guest}
use Rattle.guest_links.specs.Reading.{HasTheTable}
use Rattle.imap_talk.specs.Transcript.{Stop}
use Rattle.imap_talk.specs.Heard.{Heard, nobody}
use Rattle.mur_config.specs.declared.config.Config.{Config}
use Rattle.mur_config.specs.Nodes.{AreNodes}
use Rattle.node_record.specs.Table.{MailboxTable}
use Rattle.schedule_text.specs.declared.event.Event.{Event}
use Rattle.cluster_core.specs.declared.world.World.{World}
use Rattle.cluster_core.specs.Flow.{run_steps, steps_of_run}
use Rattle.cluster_core.specs.Shown.{given_by, given_to}
use Rattle.cluster_core.proofs.Runs.OneNodeLaw.{one_more_step}
use Rattle.cluster_core.proofs.Runs.OwnClientsLaw.{run_own, start_own}
use Rattle.cluster_core.proofs.Connections.KeepsLaw.{ConnectionIs, KeepsLaw, fixed_of}
use Rattle.cluster_core.proofs.Connections.KeepsLaw.ConnectionIs.{is_nobody, is_elsewhere, is_open, is_cut_off, is_closed}
use Rattle.cluster_core.proofs.Guests.GuestLaw.{GuestIs, GuestsLaw, IsPlacedSo}
use Rattle.cluster_core.proofs.Guests.GuestSteps.{Fits, KnowsMaster, law_same, step_guests}
use Rattle.cluster_core.proofs.Guests.StartGuests.{start_nobody}
use Rattle.cluster_core.proofs.Guests.TablesStay.{step_tables}
use Rattle.cluster_core.proofs.OneServer.EachStep.{EachKeeps, LawBehind, kept_behind}
use Rattle.cluster_core.proofs.OneServer.SaysOf.{IsSilent}
use Rattle.cluster_core.proofs.OneServer.ToldSoFar.{OthersAreSilent}
use Rattle.cluster_core.proofs.Starts.Kinds.{master_named, only_master}

-- ---- the results

abbrev pub GuestsServedWhereKept : Config → List Event → Type 0
GuestsServedWhereKept config events = AreNodes config.nodes → EachKeeps config (steps_of_run config events) → ServesGuests config events

abbrev pub OthersSilentWhereKept : Config → List Event → Type 0
OthersSilentWhereKept config events = AreNodes config.nodes → EachKeeps config (steps_of_run config events)
    → (before later : List Event) → steps_of_run config events ≡ before ++ later → OthersAreSilent config before

-- ---- the world behind some steps

knows_master : (config : Config) → AreNodes config.nodes → KnowsMaster config
knows_master config are = record {
  here = master_named config.nodes are.names (omega (arith, are.master));
  only = λ node is. sym (only_master node config.nodes is (omega (arith, are.master)));
}

fits_behind : (config : Config) (steps : List Event) → LawBehind config steps → Fits config (run_steps (start config) steps)
fits_behind config steps law = record {
  only = law.nodes.only;
  own = run_own (start config) steps (start_own config);
}

-- what clients have seen behind these steps
abbrev GuestsBehind : Config → List Event → Type 0
GuestsBehind config steps = GuestsLaw config (λ conn. guest_of config conn steps) (run_steps (start config) steps)

no_client : (config : Config) (all : ℕ → Heard) (world : World) (law : KeepsLaw config all world) (conn : ℕ) (stop : Stop) (came : Heard)
    → came ≡ nobody → ConnectionIs (fixed_of config) conn world law.story stop came → client_at world conn ≡ None
no_client config all world law conn stop came e (is_nobody none fronts untold) = none
no_client config all world law conn stop came e (is_elsewhere node given at none untold) = cc
no_client config all world law conn stop came e (is_open bytes node front connection at reader standing) = cc
no_client config all world law conn stop came e (is_cut_off bytes node front connection at gone unanswered) = cc
no_client config all world law conn stop came e (is_closed _ bytes node front connection at gone) = cc

guests_first : (config : Config) → LawBehind config [] → GuestsBehind config []
unfolding run_steps guest_from heard_from given_to
guests_first config law =
    let yet = start_nobody config (master_of config) law.master law.nodes.is_there in
    let none : (conn : ℕ) → client_at (start config) conn ≡ None =
    λ conn. no_client config (λ c. heard config c []) (start config) law conn (law.stops conn) nobody refl (law.connections conn) in
    record {
      master = law.master;
      there = law.nodes.is_there;
      order = yet.order;
      told = yet.told;
      each = λ conn. record {
        has = yet.nobody conn;
        placed = record {
          apart = λ e. (let no : None ≡ Some (master_of config) = sym (ap node_of (none conn)) ∙ e in cc);
          silent = λ node at front. ap given_by (none conn);
        };
        reads = tt;
      };
    }

-- one step more

guest_from-append : (config : Config) (conn : ℕ) (world : World) (seen : Option Guest) (front back : List Event)
    → guest_from config conn world seen (front ++ back) ≡ guest_from config conn (run_steps world front) (guest_from config conn world seen front) back
unfolding guest_from run_steps
guest_from-append config conn world seen [] back = refl
guest_from-append config conn world seen (event ∷ front) back =
    guest_from-append config conn (steps_by world event) (guest_after config conn world seen event) front back

guest_next : (config : Config) (conn : ℕ) (before : List Event) (event : Event)
    → guest_of config conn (before ++ event ∷ []) ≡ guest_after config conn (run_steps (start config) before) (guest_of config conn before) event
unfolding guest_from
guest_next config conn before event = guest_from-append config conn (start config) None before (event ∷ [])

guests_next : (config : Config) → KnowsMaster config → (before : List Event) (event : Event) → LawBehind config before → GuestsBehind config before
    → GuestsBehind config (before ++ event ∷ [])
guests_next config knows before event law guests =
    let world : World = run_steps (start config) before in
    let seen : ℕ → Option Guest = λ conn. guest_of config conn before in
    subst (GuestsLaw config (λ conn. guest_of config conn (before ++ event ∷ []))) (sym (one_more_step (start config) before event))
    (law_same config (λ conn. guest_after config conn world (seen conn) event) (λ conn. guest_of config conn (before ++ event ∷ []))
    (steps_by world event) (λ conn. guest_next config conn before event)
    (step_guests config knows world (fits_behind config before law) seen guests event))

-- ---- a run

guests_at : (config : Config) (steps : List Event) → AreNodes config.nodes → EachKeeps config steps → (before later : List Event) → steps ≡ before ++ later
    → GuestsBehind config before
guests_at config steps are each before later parts =
    kept_behind config steps (GuestsBehind config) each (guests_first config each.first) (guests_next config (knows_master config are)) before later parts

-- ---- what follows

given_dialog : (config : Config) (world : World) (conn : ℕ) (seen : Option Guest) → IsPlacedSo config world conn seen → IsGivenItsDialog world conn seen
unfolding given_to
given_dialog config world conn None placed = tt
given_dialog config world conn (Some guest) at = ap given_by at

reads_table : (config : Config) (guests : ℕ → Option Guest) (world : World) (law : GuestsLaw config guests world) (conn : ℕ) (seen : Option Guest)
    → guests conn ≡ seen → HasTheTableOfNow config world conn seen
reads_table config guests world law conn None e = tt
reads_table config guests world law conn (Some guest) e =
    let its = subst (GuestIs config world law.master conn) e (law.each conn) in
    λ on watch is.
    subst (λ (t : MailboxTable). HasTheTable t watch (given_to world conn)) (sym (ap table_by law.there))
    (subst (HasTheTable law.master.table watch) (sym (given_dialog config world conn (Some guest) its.placed)) (its.reads on watch is).has)

silent_by : (config : Config) (world : World) (conn : ℕ) (seen : Option Guest) → is_guest seen ≡ false → IsPlacedSo config world conn seen
    → IsSilent world conn
silent_by config world conn None mail placed = placed.silent
silent_by config world conn (Some guest) mail at = cc

pub serves_guests : (config : Config) (events : List Event) → GuestsServedWhereKept config events
serves_guests config events are each = record {
  given = λ conn before later parts.
      given_dialog config (run_steps (start config) before) conn (guest_of config conn before)
      ((guests_at config (steps_of_run config events) are each before later parts).each conn).placed;
  watchers = λ conn before later parts.
      reads_table config (λ c. guest_of config c before) (run_steps (start config) before)
      (guests_at config (steps_of_run config events) are each before later parts) conn (guest_of config conn before) refl;
  tables = λ before event later parts is node.
      ap (λ (w : World). table_at w node) (one_more_step (start config) before event)
      ∙ step_tables (run_steps (start config) before) event is node;
}

-- a client that isn't connected to the master
pub others_silent : (config : Config) (events : List Event) → OthersSilentWhereKept config events
others_silent config events are each before later parts = λ conn mail.
    silent_by config (run_steps (start config) before) conn (guest_of config conn before) mail
    ((guests_at config (steps_of_run config events) are each before later parts).each conn).placed

-- behind all of the steps
pub silent_behind : (config : Config) (steps : List Event) → AreNodes config.nodes → EachKeeps config steps → OthersAreSilent config steps
silent_behind config steps are each = λ conn mail.
    silent_by config (run_steps (start config) steps) conn (guest_of config conn steps) mail
    ((guests_at config steps are each steps [] (sym (append-nil steps))).each conn).placed
