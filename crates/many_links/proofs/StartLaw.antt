-- There is a start at which it holds.
use Rattle.std.proofs.Common.{◌≡◌, ◌≢◌, ◌⊎◌, inl, inr, ◌||◌, ℕ, Bool, true, false, nat_eq, is_some, List, [], ◌∷◌, ◌++◌, Option, None, Some}
use Rattle.std.proofs.Common.{refl, sym, ap, ◌∙◌}
use Rattle.std.specs.List.{list_any, AllByRecursion}
use Rattle.std.specs.Ordering.{nat_cmp}
use Rattle.std.specs.Cmp.Lexicographic.{pointwise, slice_cmp}
use Rattle.link_msg.specs.declared.message.LinkMsg.{LinkMsg}
use Rattle.link_queue.specs.Links.{on_link}
use Rattle.mur_base.proofs.MapLaws.{names_apart, same_or_other}
use Rattle.mur_base.specs.declared.home.Location.{Location}
use Rattle.back_node.specs.declared.node.BackNode.{BackNode}
use Rattle.back_node.specs.Acted.{BackActed}
use Rattle.feed_links.specs.Lines.{messages_to}
use Rattle.feed_links.proofs.Names.{same_name}
use Rattle.many_links.specs.Murder.{Murder}
use Rattle.many_links.specs.Start.{HasBegun, IsStart, told_up, no_murder, tell_one, tell_all, servers_of, AreServers, ThereIsAStart}
use Rattle.many_links.proofs.Carried.{puts_own, puts_else}
use Rattle.many_links.proofs.NodesLaw.{each_node, node_own, node_else}

-- a backend is none yet, and the master knows of it
abbrev IsNext : Murder → List (List ℕ) → Location → Type 0
IsNext murder backends place = (murder.nodes place.server ≡ None) × (list_any (pointwise nat_eq place.server) backends ≡ true)

-- so far: what nobody was told yet is quiet, and so is the master
record SoFar (murder : Murder) (me : List ℕ) (backends : List (List ℕ)) (places : List Location) : Type 0 where
  first : IsStart murder me backends
  up : (name : List ℕ) → murder.nodes name ≡ None → on_link murder.links name me ≡ []
  down : (name : List ℕ) → on_link murder.links me name ≡ []
  next : AllByRecursion (IsNext murder backends) places

module _ (murder : Murder) (me : List ℕ) (backends : List (List ℕ)) (place : Location) (places : List Location) (are : AreServers me (place ∷ places))
    (so : SoFar murder me backends (place ∷ places)) where
  abbrev name : List ℕ
  name = place.server

  abbrev told : BackActed
  told = told_up place me

  abbrev then : Murder
  then = tell_one me murder place

  not_mine : me ≢ name
  not_mine = λ e. are.1 (sym e)

  down_then : (q : List ℕ) → on_link then.links me q ≡ []
  down_then q = puts_else name murder.links told.outs me q not_mine ∙ so.down q

  own_begun : HasBegun then me backends name told.state
  own_begun = record {
    place = place;
    spelled = are.0;
    named = refl;
    backend = so.next.0.1;
    apart = are.1;
    state = refl;
    up = puts_own name murder.links told.outs me ∙ ap (λ (l : List LinkMsg). l ++ messages_to me told.outs) (so.up name so.next.0.0);
    down = down_then name;
  }

  else_begun : (q : List ℕ) (its : BackNode) → q ≢ name → murder.nodes q ≡ Some its → HasBegun then me backends q its
  else_begun q its ne at =
      let was : HasBegun murder me backends q its = so.first.begun q its at in
      record {
        place = was.place;
        spelled = was.spelled;
        named = was.named;
        backend = was.backend;
        apart = was.apart;
        state = was.state;
        up = puts_else name murder.links told.outs q me ne ∙ was.up;
        down = down_then q;
      }

  up_then : (q : List ℕ) → then.nodes q ≡ None → on_link then.links q me ≡ []
  up_then q none = by_name (same_or_other (slice_cmp nat_cmp) names_apart q name)
    where
      by_name : (q ≡ name) ⊎ (q ≢ name) → on_link then.links q me ≡ []
      by_name (inl same) =
          let no : Some told.state ≡ None = sym (node_own murder.nodes name told.state) ∙ ap then.nodes (sym same) ∙ none in cc
      by_name (inr ne) =
          puts_else name murder.links told.outs q me ne ∙ so.up q (sym (node_else murder.nodes name told.state q ne) ∙ none)

  next_then : (others : List Location) → AllByRecursion (λ (other : Location). other.server ≢ name) others → AllByRecursion (IsNext murder backends) others
      → AllByRecursion (IsNext then backends) others
  next_then [] apart next = tt
  next_then (other ∷ others) apart next =
      ((node_else murder.nodes name told.state other.server apart.0 ∙ next.0.0, next.0.1), next_then others apart.1 next.1)

  so_then : SoFar then me backends places
  so_then = record {
    first = record {
      master = so.first.master;
      begun = each_node murder.nodes name told.state (λ (q : List ℕ) (its : BackNode). HasBegun then me backends q its) own_begun else_begun;
    };
    up = up_then;
    down = down_then;
    next = next_then places are.2 so.next.1;
  }

all_told : (places : List Location) (murder : Murder) (me : List ℕ) (backends : List (List ℕ)) → AreServers me places → SoFar murder me backends places
    → IsStart (tell_all me murder places) me backends
unfolding tell_all
all_told [] murder me backends are so = so.first
all_told (place ∷ places) murder me backends are so =
    all_told places (tell_one me murder place) me backends are.3 (so_then murder me backends place places are so)

-- ---- each has begun

stays_there : (me : List ℕ) (places : List Location) (murder : Murder) (q : List ℕ) → is_some (murder.nodes q) ≡ true
    → is_some ((tell_all me murder places).nodes q) ≡ true
unfolding tell_all
stays_there me [] murder q there = there
stays_there me (place ∷ places) murder q there =
    stays_there me places (tell_one me murder place) q (by_name (same_or_other (slice_cmp nat_cmp) names_apart q place.server))
  where
    by_name : (q ≡ place.server) ⊎ (q ≢ place.server) → is_some ((tell_one me murder place).nodes q) ≡ true
    by_name (inl same) =
        ap (λ (k : List ℕ). is_some ((tell_one me murder place).nodes k)) same
        ∙ ap is_some (node_own murder.nodes place.server (told_up place me).state)
    by_name (inr ne) = ap is_some (node_else murder.nodes place.server (told_up place me).state q ne) ∙ there

each_there : (me : List ℕ) (places : List Location) (murder : Murder)
    → AllByRecursion (λ (place : Location). is_some ((tell_all me murder places).nodes place.server) ≡ true) places
unfolding tell_all
each_there me [] murder = tt
each_there me (place ∷ places) murder = (
  stays_there me places (tell_one me murder place) place.server (ap is_some (node_own murder.nodes place.server (told_up place me).state)),
  each_there me places (tell_one me murder place),
)

-- ---- from nothing on

more_known : (server name : List ℕ) (backends : List (List ℕ)) → list_any (pointwise nat_eq name) backends ≡ true
    → list_any (pointwise nat_eq name) (server ∷ backends) ≡ true
more_known server name backends known = by_test (pointwise nat_eq name server)
  where
    by_test : (t : Bool) → (t || list_any (pointwise nat_eq name) backends) ≡ true
    by_test true = refl
    by_test false = known

all_known : (server : List ℕ) (backends : List (List ℕ)) (murder : Murder) (places : List Location) → AllByRecursion (IsNext murder backends) places
    → AllByRecursion (IsNext murder (server ∷ backends)) places
all_known server backends murder [] all = tt
all_known server backends murder (place ∷ places) all =
    ((all.0.0, more_known server place.server backends all.0.1), all_known server backends murder places all.1)

all_next : (murder : Murder) (places : List Location) → ((name : List ℕ) → murder.nodes name ≡ None)
    → AllByRecursion (IsNext murder (servers_of places)) places
all_next murder [] none = tt
all_next murder (place ∷ places) none = (
  (none place.server, ap (λ (t : Bool). t || list_any (pointwise nat_eq place.server) (servers_of places)) (same_name place.server)),
  all_known place.server (servers_of places) murder places (all_next murder places none),
)

nothing_on : (from to : List ℕ) → on_link {M = LinkMsg} [] from to ≡ []
unfolding on_link
nothing_on from to = refl

none_yet : (me : List ℕ) (places : List Location) → SoFar (no_murder me (servers_of places)) me (servers_of places) places
none_yet me places = record {
  first = record { master = refl; begun = λ name node there. (let no : (let found : Option BackNode = None in found ≡ Some node) = there in cc) };
  up = λ name none. nothing_on name me;
  down = λ name. nothing_on me name;
  next = all_next (no_murder me (servers_of places)) places (λ name. refl);
}

pub there_is_a_start : ThereIsAStart
there_is_a_start me places are = record {
  first = all_told places (no_murder me (servers_of places)) me (servers_of places) are (none_yet me places);
  each = each_there me places (no_murder me (servers_of places));
}
