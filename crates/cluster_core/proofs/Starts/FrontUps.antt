-- The links of a frontend come up one after another: it notes each, and asks the master for its table where the link is the master's.
use Rattle.std.proofs.Common.{◌≡◌, ℕ, zero, suc, ◌+◌, ◌&&◌, nat_eq, Bool, true, false, if◌then◌else◌, List, [], ◌∷◌, ◌++◌, Some, refl, sym, ◌∙◌, ap, subst, append-nil, append_assoc, arith}
use Rattle.std.specs.Ordering.{nat_cmp, is_eq}
use Rattle.std.specs.Cmp.Lexicographic.{pointwise, slice_cmp}
use Rattle.cluster_core.specs.World.{home_of, master_of, setting_of, node_at, told_up, with_ups}
use Rattle.feed_core.specs.Stream.{update_line}
use Rattle.feed_links.specs.Lines.{messages_to}
use Rattle.feed_links.proofs.Names.{other_name, same_name}
use Rattle.front_core.specs.declared.front.Front.{Front}
use Rattle.front_core.specs.Front.{deliver, new_front, up_from, with_up}
use Rattle.front_core.specs.Ups.{Ups, coming_up}
use Rattle.link_msg.specs.declared.message.LinkMsg.TheVariants.{Line}
use Rattle.link_msg.specs.declared.out.Out.{Out}
use Rattle.link_msg.specs.declared.out.Out.TheVariants.{Link as to_node}
use Rattle.link_queue.specs.Links.{on_link}
use Rattle.mur_base.proofs.MapLaws.{names_apart}
use Rattle.mur_config.specs.declared.config.Config.{Config}
use Rattle.mur_config.specs.declared.node.Link.{Link}
use Rattle.mur_config.proofs.OncePairs.{times}
use Rattle.mur_model.specs.declared.setting.Setting.{Setting}
use Rattle.node_step.specs.declared.node.NodeState.{NodeState}
use Rattle.node_step.specs.declared.node.NodeState.TheVariants as state
use Rattle.node_step.specs.NodeStep.{Acted, front_acted, front_takes, takes as node_takes}
use Rattle.cluster_core.specs.declared.world.World.{World}
use Rattle.cluster_core.proofs.Nodes.LinksUp.{up_if, ups_on}
use Rattle.cluster_core.proofs.Starts.Ups.{told_leaves, told_whole, up_acted, up_here, one_if}

-- a frontend that has done nothing but note these links
abbrev pub noting_front : Config → List ℕ → Ups → Front
noting_front config name ups = record (new_front name (home_of config) (master_of config) (setting_of config)) { ups = ups }

-- so often it asked the master for its table
abbrev pub asks_often : Config → ℕ → List Out
asks_often config zero = []
asks_often config (suc n) = to_node (master_of config) (Line update_line) ∷ asks_often config n

asks_both : (config : Config) (other : List ℕ) (n m all : ℕ) → all ≡ n + m
    → messages_to other (asks_often config n) ++ messages_to other (asks_often config m) ≡ messages_to other (asks_often config all)
asks_both config other zero m all e = ap (λ k. messages_to other (asks_often config k)) (omega (arith, e))
asks_both config other (suc n) m zero e = absurd (omega (arith, e))
asks_both config other (suc n) m (suc all) e =
    append_assoc (if pointwise nat_eq (master_of config) other then Line update_line ∷ [] else []) (messages_to other (asks_often config n))
    (messages_to other (asks_often config m))
    ∙ ap (λ l. (if pointwise nat_eq (master_of config) other then Line update_line ∷ [] else []) ++ l) (asks_both config other n m all (omega (arith, e)))

-- ---- what it does as a link comes up

front_up : (config : Config) (name from : List ℕ) (ups : Ups) (same : Bool)
    → up_from same (with_up (noting_front config name ups) from)
    ≡ record { front = noting_front config name (coming_up ups from); outs = asks_often config (one_if same) }
unfolding new_front up_from
front_up config name from ups true = refl
front_up config name from ups false = refl

new_master : (name first master : List ℕ) (setting : Setting) → (new_front name first master setting).master ≡ master
unfolding new_front
new_master name first master setting = refl

same_test : (one other : List ℕ) (test : Bool) → is_eq (slice_cmp nat_cmp one other) ≡ test → pointwise nat_eq one other ≡ test
same_test one other true e = subst (λ n. pointwise nat_eq one n ≡ true) (names_apart.exact one other e) (same_name one)
same_test one other false e = other_name one other (λ same.
    (let no : false ≡ true = sym e ∙ ap (λ n. is_eq (slice_cmp nat_cmp n other)) same ∙ names_apart.itself other in cc))

noted : (config : Config) (name from : List ℕ) (ups : Ups) (same : Bool) → is_eq (slice_cmp nat_cmp from (master_of config)) ≡ same
    → up_acted (state.Front (noting_front config name ups)) from
    ≡ front_acted (record { front = noting_front config name (coming_up ups from); outs = asks_often config (one_if same) })
unfolding node_takes front_takes deliver
noted config name from ups same e =
    let test : pointwise nat_eq from (noting_front config name ups).master ≡ same =
    ap (pointwise nat_eq from) (new_master name (home_of config) (master_of config) (setting_of config)) ∙ same_test from (master_of config) same e in
    ap front_acted (ap (λ b. up_from b (with_up (noting_front config name ups) from)) test ∙ front_up config name from ups same)

-- ---- in the world

-- the frontend with these links up, which has asked so often
pub record AreUp (config : Config) (world next : World) (name : List ℕ) (ups : Ups) (asks : ℕ) : Type 0 where
  pub node : node_at next name ≡ Some (state.Front (noting_front config name ups))
  pub sent : (other : List ℕ) → on_link next.links name other ≡ on_link world.links name other ++ messages_to other (asks_often config asks)

module _ (config : Config) (name : List ℕ) where
  abbrev me : List ℕ
  me = master_of config

  abbrev Stands : World → Ups → Type 0
  Stands world ups = node_at world name ≡ Some (state.Front (noting_front config name ups))

  -- a link to another node
  other_up : (world : World) (link : Link) (ups : Ups) → is_eq (slice_cmp nat_cmp link.to name) ≡ false → world.broken ≡ [] → Stands world ups
      → AreUp config world (told_up world link) name ups 0
  other_up world link ups e whole at =
      let leaves = told_leaves world link name whole (λ (to : link.to ≡ name) it there.
      absurd (let no : false ≡ true = sym e ∙ ap (λ n. is_eq (slice_cmp nat_cmp n name)) to ∙ names_apart.itself name in cc)) in
      record { node = leaves.node ∙ at; sent = λ other. leaves.sent other ∙ sym (append-nil (on_link world.links name other)) }

  -- one of its own
  own_up : (world : World) (link : Link) (ups : Ups) (same : Bool) → is_eq (slice_cmp nat_cmp link.to name) ≡ true
      → is_eq (slice_cmp nat_cmp link.from me) ≡ same → world.broken ≡ [] → Stands world ups
      → AreUp config world (told_up world link) name (coming_up ups link.from) (one_if same)
  own_up world link ups same e from whole at =
      let it : NodeState = state.Front (noting_front config name ups) in
      let to : link.to ≡ name = names_apart.exact link.to name e in
      let here = up_here world link it whole (ap (node_at world) to ∙ at) in
      let acts = noted config name link.from ups same from in
      record {
        node = ap (node_at (told_up world link)) (sym to) ∙ here.node ∙ ap (λ (a : Acted). Some a.state) acts;
        sent = λ other. ap (λ n. on_link (told_up world link).links n other) (sym to) ∙ here.sent other
            ∙ ap (λ n. on_link world.links n other ++ messages_to other (up_acted it link.from).outs) to
            ∙ ap (λ (a : Acted). on_link world.links name other ++ messages_to other a.outs) acts;
      }

  one_up : (world : World) (link : Link) (ups : Ups) (from to : Bool) → is_eq (slice_cmp nat_cmp link.from me) ≡ from
      → is_eq (slice_cmp nat_cmp link.to name) ≡ to → world.broken ≡ [] → Stands world ups
      → AreUp config world (told_up world link) name (up_if to ups link.from) (one_if (from && to))
  one_up world link ups true true from to whole at = own_up world link ups true to from whole at
  one_up world link ups false true from to whole at = own_up world link ups false to from whole at
  one_up world link ups true false from to whole at = other_up world link ups to whole at
  one_up world link ups false false from to whole at = other_up world link ups to whole at

  -- several
  pub links_up : (world : World) (links : List Link) (ups : Ups) → world.broken ≡ [] → Stands world ups
      → AreUp config world (with_ups world links) name (ups_on name ups links) (times me name links)
  unfolding with_ups ups_on times
  links_up world [] ups whole at = record { node = at; sent = λ other. sym (append-nil (on_link world.links name other)) }
  links_up world (link ∷ links) ups whole at =
      let from : Bool = is_eq (slice_cmp nat_cmp link.from me) in
      let to : Bool = is_eq (slice_cmp nat_cmp link.to name) in
      let one = one_up world link ups from to refl refl whole at in
      let more = links_up (told_up world link) links (up_if to ups link.from) (told_whole world link whole) one.node in
      record {
        node = more.node;
        sent = λ other. more.sent other ∙ ap (λ l. l ++ messages_to other (asks_often config (times me name links))) (one.sent other)
            ∙ append_assoc (on_link world.links name other) (messages_to other (asks_often config (one_if (from && to))))
            (messages_to other (asks_often config (times me name links)))
            ∙ ap (λ l. on_link world.links name other ++ l) (asks_both config other (one_if (from && to)) (times me name links) (one_if (from && to) + times me name links) refl);
      }
