-- The servers that a frontend may ask are backends, so none is the master.
use Rattle.std.proofs.Common.{◌≡◌, ◌≢◌, ℕ, zero, suc, nat_eq, get_or, take, length, Bool, true, false, if◌then◌else◌, is_some, List, Option, None, Some, refl, sym, ap, ◌∙◌, subst}
use Rattle.std.specs.Option.{IsSome}
use Rattle.cluster_core.specs.World.{home_of, master_of, front_at, home_at}
use Rattle.feed_core.specs.declared.rec.Rec.{Rec}
use Rattle.feed_core.specs.Above.{rec_by, rec_of_text}
use Rattle.feed_core.specs.Feed.{Recs}
use Rattle.feed_core.specs.Routes.{above_at, above_within, home_by, home_for, or_else, server_in}
use Rattle.feed_links.proofs.Names.{found_has}
use Rattle.front_core.specs.declared.front.Front.{Front}
use Rattle.front_core.specs.Front.{ways_of}
use Rattle.many_links.specs.Murder.{Nodes}
use Rattle.master_core.specs.declared.master.Master.{Master}
use Rattle.mur_base.specs.Ascii.{dot}
use Rattle.mur_base.specs.Names.{mail_name_fault}
use Rattle.mur_base.specs.declared.name.NameFault.{NameFault}
use Rattle.mur_config.specs.declared.config.Config.{Config}
use Rattle.cluster_core.specs.declared.world.World.{World}
use Rattle.cluster_core.proofs.Connections.KeepsLaw.{AreAtBackends, AreNodesOf, FeedsHold}
use Rattle.cluster_core.proofs.Feeds.Noops.{AreApart}
use Rattle.cluster_core.proofs.Nodes.Comes.{master_no_home_at}

module _ (nodes : Nodes) (recs : Recs) (all : AreAtBackends nodes recs) where
  text_in : (text : List ℕ) (fault : Option NameFault) (it : Rec) → rec_by recs text fault ≡ Some it → IsSome (nodes (server_in it))
  text_in text None it at = found_has (λ (entry : List ℕ × Rec). IsSome (nodes (server_in entry.1))) recs text it all at
  text_in text (Some fault) it at = cc

  first_in : (found other : Option Rec) (it : Rec) → ((i : Rec) → found ≡ Some i → IsSome (nodes (server_in i)))
      → ((i : Rec) → other ≡ Some i → IsSome (nodes (server_in i))) → or_else found other ≡ Some it → IsSome (nodes (server_in it))
  first_in None other it one two e = two it e
  first_in (Some i) other it one two e = one it e

  within_by : (name : List ℕ) (n : ℕ) (here : Bool) (it : Rec) → ((i : Rec) → above_within recs name n ≡ Some i → IsSome (nodes (server_in i)))
      → (if here then or_else (rec_of_text recs (take n name)) (above_within recs name n) else above_within recs name n) ≡ Some it → IsSome (nodes (server_in it))
  within_by name n true it more e =
      first_in (rec_of_text recs (take n name)) (above_within recs name n) it (λ i at. text_in (take n name) (mail_name_fault (take n name)) i at) more e
  within_by name n false it more e = more it e

  above_in : (name : List ℕ) (n : ℕ) (it : Rec) → above_within recs name n ≡ Some it → IsSome (nodes (server_in it))
  unfolding above_within
  above_in name zero it e = cc
  above_in name (suc n) it e = within_by name n (nat_eq (get_or name n 0) dot) it (λ i h. above_in name n i h) e

  home_in : (first : List ℕ) (found : Option Rec) → IsSome (nodes first) → ((it : Rec) → found ≡ Some it → IsSome (nodes (server_in it)))
      → IsSome (nodes (home_by first found))
  home_in first None there in_them = there
  home_in first (Some it) there in_them = in_them it refl

  -- the server of a new mailbox
  pub made_in : (first name : List ℕ) → IsSome (nodes first) → IsSome (nodes (home_for recs first name))
  made_in first name there = home_in first (above_at recs name) there (λ it e. above_in name (length name) it e)

module _ (config : Config) (world : World) (master : Master) (nodes : AreNodesOf config world master) where
  -- a backend is not the master
  pub backend_apart : (server : List ℕ) → IsSome (home_at world server) → server ≢ master_of config
  backend_apart server there e =
      let none : is_some (home_at world server) ≡ false = ap is_some (ap (home_at world) e ∙ master_no_home_at world (master_of config) master nodes.is_there) in
      let no : true ≡ false = sym there ∙ none in cc

  first_is_there : IsSome (home_at world (home_of config))
  first_is_there = nodes.homes (home_of config) ∙ nodes.first_there

  pub servers_apart : (node : List ℕ) (front : Front) → FeedsHold config world master → front_at world node ≡ Some front → AreApart (ways_of front)
  servers_apart node front feeds at =
      let is = nodes.fronts node front at in
      let knows = (feeds.each node front at).knows in
      record {
        named = λ name server e. λ same. backend_apart server (knows.has name server e) (same ∙ is.master_is);
        made = λ name same. backend_apart (home_for front.replica.records front.first name)
            (made_in (home_at world) front.replica.records knows.each front.first name (subst (λ f. IsSome (home_at world f)) (sym is.first_is) first_is_there))
            (same ∙ is.master_is);
      }
