-- The printed homes are the store's mailboxes.
use Rattle.std.proofs.Common.{◌≡◌, ℕ, zero, suc, ◌≤◌, ◌<◌, Bool, true, false, cond, nat_eq, is_some, List, [], ◌∷◌, ◌++◌, length, get_or, Option, None, Some, refl, sym, ◌∙◌, ap, subst, arith, if◌then◌else◌}
use Rattle.std.specs.Prelude.{All, Contains, count_by}
use Rattle.std.specs.List.{list_any}
use Rattle.std.specs.Option.{option_map}
use Rattle.std.specs.Ordering.{nat_cmp}
use Rattle.std.specs.Cmp.Lexicographic.{pointwise, slice_cmp}
use Rattle.std.specs.Str.{bytes_eq}
use Rattle.std.proofs.lemmas.List.Elements.{All-append, All-cons, All-head, All-nil, All-tail, All-weaker, Contains-append_left, Contains-append_right}
use Rattle.back_node.specs.declared.node.BackNode.{BackNode}
use Rattle.backend_core.specs.HomeLaws.{is_open}
use Rattle.mail_message.specs.Boxes.{Content}
use Rattle.mur_base.specs.Map.{value_at}
use Rattle.mur_config.specs.declared.config.Config.{Config}
use Rattle.mur_config.specs.Nodes.{AreNodes}
use Rattle.mur_model.specs.Store.{box_at}
use Rattle.name_links.specs.Contents.{content_in}
use Rattle.node_record.specs.declared.held.Held.{Held}
use Rattle.node_record.specs.declared.table.Record.{Record}
use Rattle.node_record.specs.declared.table.State.{State}
use Rattle.node_record.specs.declared.table.State.TheVariants.{Bare, Kept, Active}
use Rattle.node_record.specs.Held.{has_content, held_at}
use Rattle.node_record.specs.Table.{MailboxTable, record_at}
use Rattle.many_links.proofs.OpenLaw.{open_is_the_stores}
use Rattle.serve_law.specs.AsTheStore.{HaveAlike, neither, both}
use Rattle.store_links.proofs.ShownLaw.{IsRecordAt, record_of}
use Rattle.imap_talk.specs.Heard.{Heard}
use Rattle.cluster_core.specs.declared.cluster.HomeRow.{HomeRow}
use Rattle.cluster_core.specs.Headline.Backends.{IsBackend}
use Rattle.cluster_core.specs.Headline.Homes.{numbers_of, IsHeldAt, IsShownBox, ShowsBoxesOf, ShowsOpen, recorded_server}
use Rattle.cluster_core.specs.World.{backends_of, layout_of, master_of}
use Rattle.cluster_core.specs.declared.world.World.{World}
use Rattle.cluster_core.specs.Headline.OneStore.{box_by, box_in}
use Rattle.cluster_core.specs.Headline.Outside.{table_at}
use Rattle.cluster_core.specs.Shown.{held_at_node, home_row, home_rows, home_rows_of, names_at, row_if, rows_of_all}
use Rattle.cluster_core.proofs.Connections.KeepsLaw.{KeepsLaw, murder_of}
use Rattle.cluster_core.proofs.OneServer.BackendsLaw.{are_backends}
use Rattle.cluster_core.proofs.OneServer.Boxes.{has_boxes, table_is}
use Rattle.cluster_core.proofs.OneServer.NamesHeld.{is_listed, is_name, key_has, names_cons, same_bytes}
use Rattle.cluster_core.proofs.OneServer.OpenLaw.{has_it, open_found}

-- ---- what a row tells, its backend has

row_at : (config : Config) (world : World) (name node : List ℕ) (found : Option Held) → IsBackend config node
    → value_at (slice_cmp nat_cmp) (held_at_node world node) name ≡ found → All (IsHeldAt config world) (row_if name node found)
row_at config world name node None is at = All-nil (IsHeldAt config world)
row_at config world name node (Some held) is at =
    All-cons (IsHeldAt config world) (home_row name node held) [] (record { backend = is; held = held; at = at; phase = refl; numbers = refl })
    (All-nil (IsHeldAt config world))

rows_at : (config : Config) (world : World) (name : List ℕ) (nodes : List (List ℕ)) → All (IsBackend config) nodes
    → All (IsHeldAt config world) (home_rows_of world name nodes)
unfolding home_rows_of
rows_at config world name [] are = All-nil (IsHeldAt config world)
rows_at config world name (node ∷ nodes) are =
    let found = value_at (slice_cmp nat_cmp) (held_at_node world node) name in
    All-append (IsHeldAt config world) (row_if name node found) (home_rows_of world name nodes)
    (row_at config world name node found (All-head (IsBackend config) node nodes are) refl)
    (rows_at config world name nodes (All-tail (IsBackend config) node nodes are))

all_at : (config : Config) (world : World) (names : List (List ℕ)) → All (IsBackend config) (backends_of config.nodes)
    → All (IsHeldAt config world) (rows_of_all (layout_of config) world names)
unfolding rows_of_all
all_at config world [] are = All-nil (IsHeldAt config world)
all_at config world (name ∷ names) are =
    All-append (IsHeldAt config world) (home_rows_of world name (backends_of config.nodes)) (rows_of_all (layout_of config) world names)
    (rows_at config world name (backends_of config.nodes) are) (all_at config world names are)

pub rows_held : (config : Config) (world : World) → AreNodes config.nodes → All (IsHeldAt config world) (home_rows (layout_of config) world)
unfolding home_rows
rows_held config world are = all_at config world (names_at world [] (backends_of config.nodes)) (are_backends config are)

-- ---- what a backend has is in a row

there_at : (world : World) (name node : List ℕ) (held : Held) (nodes : List (List ℕ)) (k : ℕ) → k < length nodes → get_or nodes k node ≡ node
    → value_at (slice_cmp nat_cmp) (held_at_node world node) name ≡ Some held → Contains (home_rows_of world name nodes) (home_row name node held)
unfolding home_rows_of
there_at world name node held [] k within at is = absurd (omega (arith, within))
there_at world name node held (first ∷ nodes) zero within at is =
    subst (λ n. Contains (row_if name n (value_at (slice_cmp nat_cmp) (held_at_node world n) name) ++ home_rows_of world name nodes) (home_row name node held))
    (sym at)
    (subst (λ found. Contains (row_if name node found ++ home_rows_of world name nodes) (home_row name node held)) (sym is) (0, omega arith, refl))
there_at world name node held (first ∷ nodes) (suc k) within at is =
    Contains-append_right (row_if name first (value_at (slice_cmp nat_cmp) (held_at_node world first) name)) (home_rows_of world name nodes)
    (home_row name node held) (there_at world name node held nodes k (omega (arith, within)) at is)

among_by : (config : Config) (world : World) (name : List ℕ) (row : HomeRow) (other : List ℕ) (names : List (List ℕ)) (b : Bool) → bytes_eq other name ≡ b
    → 1 ≤ count_by (is_name name) (other ∷ names) → Contains (home_rows_of world name (backends_of config.nodes)) row
    → (1 ≤ count_by (is_name name) names → Contains (rows_of_all (layout_of config) world names) row)
    → Contains (home_rows_of world other (backends_of config.nodes) ++ rows_of_all (layout_of config) world names) row
among_by config world name row other names true h some here later =
    subst (λ n. Contains (home_rows_of world n (backends_of config.nodes) ++ rows_of_all (layout_of config) world names) row) (sym (same_bytes other name h))
    (Contains-append_left (home_rows_of world name (backends_of config.nodes)) (rows_of_all (layout_of config) world names) row here)
among_by config world name row other names false h some here later =
    Contains-append_right (home_rows_of world other (backends_of config.nodes)) (rows_of_all (layout_of config) world names) row
    (later (omega (arith, some, names_cons (is_name name) other names, ap {B = ℕ} (λ b. cond b 1 0) h)))

among : (config : Config) (world : World) (name : List ℕ) (row : HomeRow) (names : List (List ℕ)) → 1 ≤ count_by (is_name name) names
    → Contains (home_rows_of world name (backends_of config.nodes)) row → Contains (rows_of_all (layout_of config) world names) row
unfolding rows_of_all
among config world name row [] some here = absurd (omega (arith, some))
among config world name row (other ∷ names) some here =
    among_by config world name row other names (bytes_eq other name) refl some here (λ more. among config world name row names more here)

pub row_there : (config : Config) (world : World) (name node : List ℕ) (held : Held) → Contains (backends_of config.nodes) node
    → value_at (slice_cmp nat_cmp) (held_at_node world node) name ≡ Some held → Contains (home_rows (layout_of config) world) (home_row name node held)
unfolding home_rows
row_there config world name node held there at =
    among config world name (home_row name node held) (names_at world [] (backends_of config.nodes))
    (is_listed world name node (backends_of config.nodes) [] there (key_has name (held_at_node world node) held at))
    (there_at world name node held (backends_of config.nodes) there.0 there.1 there.2 at)

-- ---- a node that is a backend is listed

found_by : (node first : List ℕ) (nodes : List (List ℕ)) (b : Bool) → pointwise nat_eq node first ≡ b → list_any (pointwise nat_eq node) (first ∷ nodes) ≡ true
    → (list_any (pointwise nat_eq node) nodes ≡ true → Contains nodes node) → Contains (first ∷ nodes) node
found_by node first nodes true e any later = (0, omega arith, sym (same_bytes node first e))
found_by node first nodes false e any later =
    Contains-append_right (first ∷ []) nodes node (later (let rest : list_any (pointwise nat_eq node) nodes ≡ true = rw e at any in rest))

found_among : (node : List ℕ) (nodes : List (List ℕ)) → list_any (pointwise nat_eq node) nodes ≡ true → Contains nodes node
found_among node [] any = cc
found_among node (first ∷ nodes) any = found_by node first nodes (pointwise nat_eq node first) refl any (found_among node nodes)

module _ (config : Config) (heard : ℕ → Heard) (world : World) (law : KeepsLaw config heard world) where
  backend_listed : (node name : List ℕ) (held : Held) → value_at (slice_cmp nat_cmp) (held_at_node world node) name ≡ Some held
      → Contains (backends_of config.nodes) node
  backend_listed node name held at =
      let its = has_it world node name held at in
      subst (λ all. Contains all node) law.nodes.backends
      (found_among node law.master.backends (sym (law.nodes.homes node) ∙ ap is_some its.is))

  -- ---- a mailbox of the store is shown

  record HasContent (found : Option Held) (box : Content) : Type 0 where
    held : Held
    at : found ≡ Some held
    is : held.content ≡ box

  content_by : (held : Held) (box : Content) (b : Bool) → has_content held.phase ≡ b → (if b then Some held.content else None) ≡ Some box
      → HasContent (Some held) box
  content_by held box true e is = record { held = held; at = refl; is = let same : held.content ≡ box = cc in same }
  content_by held box false e is = cc

  content_of : (found : Option Held) (box : Content) → content_in found ≡ Some box → HasContent found box
  content_of None box is = cc
  content_of (Some held) box is = content_by held box (has_content held.phase) refl is

  shown_at : (name : List ℕ) (box : Content) (it : Record) → record_at (table_at world (master_of config)) name ≡ Some it
      → content_in (held_at (held_at_node world (it.place).server) name) ≡ Some box → IsShownBox config world name box
  shown_at name box it recorded is =
      let its = content_of (held_at (held_at_node world (it.place).server) name) box is in
      record {
        row = home_row name (it.place).server its.held;
        among = row_there config world name (it.place).server its.held (backend_listed (it.place).server name its.held its.at) its.at;
        named = refl;
        recorded = ap (option_map (λ (r : Record). (r.place).server)) recorded;
        numbers = ap numbers_of its.is;
      }

  shown_in : (name : List ℕ) (box : Content) (it : Record) (state : State) → it.state ≡ state → record_at (table_at world (master_of config)) name ≡ Some it
      → box_in world name it.place state ≡ Some box → IsShownBox config world name box
  shown_in name box it (Bare serial) e recorded is = cc
  shown_in name box it (Kept acl) e recorded is = shown_at name box it recorded is
  shown_in name box it (Active acl) e recorded is = shown_at name box it recorded is

  shown_by : (name : List ℕ) (box : Content) (found : Option Record) → record_at (table_at world (master_of config)) name ≡ found
      → box_by world name found ≡ Some box → IsShownBox config world name box
  shown_by name box None recorded is = cc
  shown_by name box (Some it) recorded is = shown_in name box it it.state refl recorded is

  box_shown : (name : List ℕ) (box : Content) → box_at law.story.course.store name ≡ Some box → IsShownBox config world name box
  box_shown name box at =
      shown_by name box (record_at (table_at world (master_of config)) name) refl (sym (has_boxes config heard world law name) ∙ at)

  -- ---- a writable home has the store's mailbox

  alike_box : (backend : BackNode) (name : List ℕ) (held : Held) → value_at (slice_cmp nat_cmp) backend.home.held name ≡ Some held
      → HaveAlike law.story.course.store backend.home name → box_at law.story.course.store name ≡ Some held.content
  alike_box backend name held at (neither missing none) = (let no : None ≡ Some held = sym none ∙ at in cc)
  alike_box backend name held at (both its there is_open box) =
      let same : Some its ≡ Some held = sym there ∙ at in
      let one : its ≡ held = cc in box ∙ ap {B = Option Content} (λ (h : Held). Some h.content) one

  server_of_record : (name server acl : List ℕ) → IsRecordAt server (record_at law.master.table name) acl
      → recorded_server config world name ≡ Some server
  server_of_record name server acl is =
      ap (λ (table : MailboxTable). option_map (λ (r : Record). (r.place).server) (record_at table name)) (table_is config heard world law)
      ∙ ap (option_map (λ (r : Record). (r.place).server)) is.is ∙ ap {B = Option (List ℕ)} (λ s. Some s) is.server

  open_row : (row : HomeRow) → IsHeldAt config world row → ShowsOpen config law.story.course.store world row
  open_row row held = λ shows.
      let its = has_it world row.backend row.name held.held held.at in
      let test : is_open held.held.phase ≡ true = ap is_open (sym held.phase) ∙ shows in
      let there = open_is_the_stores (murder_of world law.master) law.given law.story.course.store row.backend its.backend row.name law.many its.is
      (open_found held.held (value_at (slice_cmp nat_cmp) its.backend.home.held row.name) its.at test) in
      record {
        box = held.held.content;
        at = alike_box its.backend row.name held.held its.at there.alike;
        recorded = server_of_record row.name row.backend there.named.acl
            (record_of row.backend (record_at law.master.table row.name) there.named.acl there.named.recorded);
        numbers = held.numbers;
      }

  pub shows_boxes : AreNodes config.nodes → ShowsBoxesOf config law.story.course.store world
  shows_boxes are = record {
    boxes = box_shown;
    open_homes = All-weaker (IsHeldAt config world) (ShowsOpen config law.story.course.store world) open_row (home_rows (layout_of config) world)
        (rows_held config world are);
    rows = rows_held config world are;
  }
