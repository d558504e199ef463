-- How the master has each of its clients and what each was given; any other client that is connected where no frontend is was given nothing.
use Rattle.std.proofs.Common.{◌≡◌, ◌≢◌, ℕ, List, Option, None, Some, sym, ◌∙◌, ap}
use Rattle.cluster_core.specs.Headline.OneNode.{node_of}
use Rattle.cluster_core.specs.World.{master_of, client_at, front_at, master_at}
use Rattle.feed_links.specs.Spelled.{CanBeTold}
use Rattle.guest_links.specs.Guests.{Guest}
use Rattle.guest_links.specs.Served.{HasWatchers, IsSeen}
use Rattle.guest_links.proofs.WatcherLaw.{SeenKeeps}
use Rattle.master_core.specs.declared.master.Master.{Master}
use Rattle.mur_config.specs.declared.config.Config.{Config}
use Rattle.cluster_core.specs.declared.world.World.{World}
use Rattle.cluster_core.specs.Shown.{given_by, given_to}
use Rattle.cluster_core.proofs.OneServer.SaysOf.{IsSilent}

-- a client is at another node, or nowhere
pub record IsElsewhere (config : Config) (world : World) (conn : ℕ) : Type 0 where
  pub apart : node_of (client_at world conn) ≢ Some (master_of config)
  pub silent : IsSilent world conn

-- where the client of a connection is, and what it was given
abbrev pub IsPlacedSo : Config → World → ℕ → Option Guest → Type 0
IsPlacedSo config world conn None = IsElsewhere config world conn
IsPlacedSo config world conn (Some guest) = client_at world conn ≡ Some (record { at = master_of config; given = guest.dialog.given })

pub record GuestIs (config : Config) (world : World) (master : Master) (conn : ℕ) (seen : Option Guest) : Type 0 where
  pub has : IsSeen master conn seen
  pub placed : IsPlacedSo config world conn seen
  -- what it was given since its UPDATE is the table
  pub reads : SeenKeeps master.table seen

pub record GuestsLaw (config : Config) (guests : ℕ → Option Guest) (world : World) : Type 0 where
  pub master : Master
  pub there : master_at world (master_of config) ≡ Some master
  pub order : HasWatchers master
  pub told : CanBeTold master.table
  pub each : (conn : ℕ) → GuestIs config world master conn (guests conn)

-- a client that is as it was, where the frontends are

silent_same : (world next : World) (conn : ℕ) → client_at next conn ≡ client_at world conn
    → ((any : List ℕ) → front_at next any ≡ None → node_of (client_at world conn) ≡ Some any → front_at world any ≡ None)
    → IsSilent world conn → IsSilent next conn
unfolding given_to
silent_same world next conn same fronts silent = λ there at none.
    let was : node_of (client_at world conn) ≡ Some there = ap node_of (sym same) ∙ at in
    ap given_by same ∙ silent there was (fronts there none was)

pub placed_same : (config : Config) (world next : World) (conn : ℕ) (seen : Option Guest) → client_at next conn ≡ client_at world conn
    → ((any : List ℕ) → front_at next any ≡ None → node_of (client_at world conn) ≡ Some any → front_at world any ≡ None)
    → IsPlacedSo config world conn seen → IsPlacedSo config next conn seen
placed_same config world next conn None same fronts placed = record {
  apart = λ e. placed.apart (ap node_of (sym same) ∙ e);
  silent = silent_same world next conn same fronts placed.silent;
}
placed_same config world next conn (Some guest) same fronts at = same ∙ at
