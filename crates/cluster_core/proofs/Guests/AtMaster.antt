-- What happens at the master leaves it each of its clients as its dialog says.
use Rattle.std.proofs.Common.{◌≡◌, ℕ, List, [], ◌++◌, Option, None, Some, refl, sym, ◌∙◌, ap, subst}
use Rattle.std.specs.Option.{option_map}
use Rattle.cluster_core.specs.World.{master_of, client_at, master_at}
use Rattle.cluster_core.specs.declared.world.Client.{Client}
use Rattle.feed_links.specs.Spelled.{CanBeTold}
use Rattle.guest_links.specs.Guests.{Guest, arrived}
use Rattle.guest_links.specs.Happenings.{Happening, change_of, connects, first_seen, guest_after, leaves, says, seen_after, sends, step_of}
use Rattle.guest_links.specs.Outputs.{given_by as given_out}
use Rattle.guest_links.specs.Served.{HasWatchers, IsNoGuest, IsSeen, IsServedOn, given_to as given_in}
use Rattle.guest_links.proofs.Orders.{watchers_stay_in_order}
use Rattle.guest_links.proofs.ServedLaw.{each_step_serves, next_seen}
use Rattle.guest_links.proofs.WatcherLaw.{step_keeps, step_told}
use Rattle.master_core.specs.declared.master.Master.{Master}
use Rattle.master_core.specs.Outside.{Stepped}
use Rattle.mur_config.specs.declared.config.Config.{Config}
use Rattle.node_step.specs.declared.input.NodeInput.{NodeInput}
use Rattle.node_step.specs.declared.input.NodeInput.TheVariants.{Opened, Piece, Hung, From}
use Rattle.node_step.specs.declared.node.NodeState.TheVariants as state
use Rattle.cluster_core.specs.declared.world.World.{World}
use Rattle.cluster_core.proofs.Guests.Given.{gets, gets_none, given_made}
use Rattle.cluster_core.proofs.Guests.GuestLaw.{GuestIs, GuestsLaw, IsPlacedSo, placed_same}
use Rattle.cluster_core.proofs.Nodes.AllCome.{all_come, master_all_come}
use Rattle.cluster_core.proofs.Nodes.Comes.{MasterMoved, master_does, master_moved, with_master, wrote}

-- what comes to the master
abbrev pub happening_by : NodeInput → Happening
happening_by (Opened conn) = connects conn
happening_by (Piece conn bytes) = says conn bytes
happening_by (Hung conn) = leaves conn
happening_by (From name message) = sends name message

does_so : (master : Master) (input : NodeInput) → master_does master input ≡ step_of master (happening_by input)
unfolding step_of
does_so master (Opened conn) = refl
does_so master (Piece conn bytes) = refl
does_so master (Hung conn) = refl
does_so master (From name message) = refl

-- where nothing is lost
pub comes_so : (world : World) (node : List ℕ) (input : NodeInput) (master : Master) → master_at world node ≡ Some master
    → all_come world node input ≡ with_master (wrote world node (state.Master master) input) node (step_of master (happening_by input))
comes_so world node input master at =
    master_all_come world node input master at ∙ ap (with_master (wrote world node (state.Master master) input) node) (does_so master input)

module _ (config : Config) (world : World) (master : Master) (there : master_at world (master_of config) ≡ Some master) (order : HasWatchers master)
    (told : CanBeTold master.table) (happening : Happening) where
  abbrev acted : Stepped
  acted = step_of master happening

  abbrev next : World
  next = with_master world (master_of config) (step_of master happening)

  moved : MasterMoved world (master_of config) acted.master next
  moved = master_moved world (master_of config) master acted there

  client_next : (conn : ℕ) → client_at next conn ≡ option_map (gets (given_out conn acted.outs)) (client_at world conn)
  client_next conn = given_made world (master_of config) (state.Master acted.master) acted.outs conn

  -- where nothing is given
  none_placed : (conn : ℕ) (later : Option Guest) → later ≡ None → given_in later ≡ given_in None ++ given_out conn acted.outs
      → IsPlacedSo config world conn None → IsPlacedSo config next conn later
  none_placed conn later none given placed =
      let nothing : given_out conn acted.outs ≡ [] = sym given ∙ ap given_in none in
      subst (IsPlacedSo config next conn) (sym none)
      (placed_same config world next conn None
      (client_next conn ∙ ap (λ g. option_map (gets g) (client_at world conn)) nothing ∙ gets_none (client_at world conn))
      (λ any front was. sym (moved.fronts any) ∙ front) placed)

  gained : (conn : ℕ) (before bytes : List ℕ) → client_at world conn ≡ Some (record { at = master_of config; given = before })
      → bytes ≡ before ++ given_out conn acted.outs → client_at next conn ≡ Some (record { at = master_of config; given = bytes })
  gained conn before bytes at given =
      client_next conn ∙ ap (option_map (gets (given_out conn acted.outs))) at
      ∙ ap {B = Option Client} (λ g. Some (record { at = master_of config; given = g })) (sym given)

  placed_next : (conn : ℕ) (seen : Option Guest) → (seen ≡ None → first_seen master.me conn happening ≡ None)
      → IsServedOn master conn seen (next_seen master conn seen happening) happening
      → IsPlacedSo config world conn seen → IsPlacedSo config next conn (next_seen master conn seen happening)
  unfolding seen_after
  placed_next conn None first served placed = none_placed conn (first_seen master.me conn happening) (first refl) served.given placed
  placed_next conn (Some guest) first served at =
      gained conn guest.dialog.given (guest_after master.table (change_of master happening) conn guest happening).dialog.given at served.given

  served : (conn : ℕ) (seen : Option Guest) → IsSeen master conn seen → IsServedOn master conn seen (next_seen master conn seen happening) happening
  served conn seen has = each_step_serves master conn seen happening order has

  -- a client that is where it was
  pub guest_next : (conn : ℕ) (seen : Option Guest) → (seen ≡ None → first_seen master.me conn happening ≡ None) → GuestIs config world master conn seen
      → GuestIs config next acted.master conn (next_seen master conn seen happening)
  guest_next conn seen first is = record {
    has = (served conn seen is.has).is;
    placed = placed_next conn seen first (served conn seen is.has) is.placed;
    reads = step_keeps master conn seen happening order told is.has is.reads;
  }

  joined_placed : (conn : ℕ) (later : Option Guest) → later ≡ Some (arrived master.me) → given_in later ≡ given_in None ++ given_out conn acted.outs
      → client_at world conn ≡ Some (record { at = master_of config; given = [] }) → IsPlacedSo config next conn later
  joined_placed conn later is given at =
      subst (IsPlacedSo config next conn) (sym is)
      (gained conn [] (arrived master.me).dialog.given at (sym (ap given_in is) ∙ given))

  -- one that connects
  pub guest_joins : (conn : ℕ) → first_seen master.me conn happening ≡ Some (arrived master.me)
      → client_at world conn ≡ Some (record { at = master_of config; given = [] })
      → IsNoGuest master conn → GuestIs config next acted.master conn (next_seen master conn None happening)
  unfolding seen_after
  guest_joins conn first at none = record {
    has = (served conn None none).is;
    placed = joined_placed conn (first_seen master.me conn happening) first (served conn None none).given at;
    reads = step_keeps master conn None happening order told none tt;
  }

  -- whatever happens to its clients
  pub law_next : (later : ℕ → Option Guest) → ((conn : ℕ) → GuestIs config next acted.master conn (later conn)) → GuestsLaw config later next
  law_next later each = record {
    master = acted.master;
    there = moved.own;
    order = watchers_stay_in_order master happening order;
    told = step_told master happening told;
    each = each;
  }
