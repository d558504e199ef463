-- A frontend lets out what it lets out, with its asks in another order: to each connection all is as it was, since at most one message is about it, and what goes to
-- clients, to the master and to the marks is no ask.
use Rattle.std.proofs.Common.{◌≡◌, ◌≢◌, ℕ, suc, ◌≤◌, nat_eq, Bool, true, false, ◌&&◌, cond, is_none, is_some, List, [], ◌∷◌, ◌++◌, length, filter, Option, None, Some, refl, sym, ◌∙◌, ap, subst, length-append, arith}
use Rattle.std.proofs.Math.Logic.{⊎_elim}
use Rattle.std.proofs.lemmas.List.Elements.{filter-append}
use Rattle.std.specs.Cmp.Lexicographic.{pointwise, slice_cmp}
use Rattle.std.specs.Ordering.{nat_cmp}
use Rattle.feed_links.specs.Lines.{messages_to}
use Rattle.feed_links.specs.OneFeed.{AreNoops}
use Rattle.front_core.proofs.AskOrder.{AsksNone, few_stay, others_stay, outs_all}
use Rattle.front_core.proofs.OneConnection.Places.{is_about, of_connection}
use Rattle.front_core.specs.AskOrder.{asked_name, in_ask_order}
use Rattle.front_core.specs.Front.{Stepped, with_asks_in_order}
use Rattle.imap_talk.specs.Heard.{Heard}
use Rattle.imap_talk.specs.Transcript.{Stop}
use Rattle.link_msg.specs.declared.message.LinkMsg.{LinkMsg}
use Rattle.link_msg.specs.declared.message.LinkMsg.TheVariants.{Up, End, Line, Ask, Answer}
use Rattle.link_msg.specs.declared.out.Out.{Out}
use Rattle.link_msg.specs.declared.out.Out.TheVariants.{Client as to_client, Close, Link as to_node, Mark as mark_out, Told as tell}
use Rattle.link_queue.proofs.Placed.{Carried, IsFound}
use Rattle.link_queue.specs.Broken.{Broken, is_broken}
use Rattle.link_queue.specs.Links.{Links, on_link, same_link}
use Rattle.many_links.proofs.Carried.{puts_else, puts_own}
use Rattle.mark_history.specs.Marked.{Tale}
use Rattle.mur_base.specs.Map.{value_at}
use Rattle.mur_config.specs.declared.config.Config.{Config}
use Rattle.node_step.specs.NodeStep.{as_back, as_front}
use Rattle.node_step.specs.declared.node.NodeState.TheVariants as state
use Rattle.cluster_core.specs.World.{front_at, home_at, master_of}
use Rattle.cluster_core.specs.declared.world.Client.{Client}
use Rattle.cluster_core.specs.declared.world.World.{World}
use Rattle.cluster_core.proofs.Answers.Ends.{kept_then}
use Rattle.cluster_core.proofs.Connections.KeepsLaw.{FeedsHold, KeepsLaw, KeepsOn}
use Rattle.cluster_core.proofs.Feeds.Beside.{still_fed, still_feeds}
use Rattle.cluster_core.proofs.Feeds.Noops.{AreWellSent, IsWellSent, well_sent_noops}
use Rattle.cluster_core.proofs.Links.Relinked.{Relinks, relinked_keeps}
use Rattle.cluster_core.proofs.Nodes.Carried.{IsMade, given_all, given_out, is_made, mark_made, marks_made}
use Rattle.cluster_core.proofs.Nodes.Comes.{with_front}
use Rattle.cluster_core.proofs.Places.Stays.{barrier_alike, same_name_or}

-- ---- what goes to one node, and is of a kind

abbrev goes_there : (LinkMsg → Bool) → List ℕ → Out → Bool
goes_there is node (to_node other message) = pointwise nat_eq other node && is message
goes_there is node out = false

module _ (is : LinkMsg → Bool) (node : List ℕ) where
  abbrev part : List Out → List Out
  part outs = filter (goes_there is node) outs

  one_part : (other : List ℕ) (message : LinkMsg) (outs : List Out) (same own : Bool) → messages_to node (part outs) ≡ filter is (messages_to node outs)
      → pointwise nat_eq other node ≡ same → is message ≡ own
      → messages_to node (part (to_node other message ∷ outs)) ≡ filter is (messages_to node (to_node other message ∷ outs))
  one_part other message outs true true more e h =
      rw (e, h) (ap (λ (b : Bool). cond b (message ∷ []) [] ++ messages_to node (part outs)) e ∙ ap (λ l. message ∷ l) more)
  one_part other message outs true false more e h = rw (e, h) more
  one_part other message outs false own more e h = rw e more

  part_is : (outs : List Out) → messages_to node (part outs) ≡ filter is (messages_to node outs)
  part_is [] = refl
  part_is (to_client conn bytes ∷ outs) = part_is outs
  part_is (Close conn ∷ outs) = part_is outs
  part_is (to_node other message ∷ outs) = one_part other message outs (pointwise nat_eq other node) (is message) (part_is outs) refl refl
  part_is (mark_out ask counts ∷ outs) = part_is outs
  part_is (tell ask how ∷ outs) = part_is outs

  one_count : (other : List ℕ) (message : LinkMsg) (outs : List Out) (same own : Bool) → length (part outs) ≡ length (filter is (messages_to node outs))
      → pointwise nat_eq other node ≡ same → is message ≡ own
      → length (part (to_node other message ∷ outs)) ≡ length (filter is (messages_to node (to_node other message ∷ outs)))
  one_count other message outs true true more e h = rw (e, h) (ap suc more)
  one_count other message outs true false more e h = rw (e, h) more
  one_count other message outs false own more e h = rw e more

  part_count : (outs : List Out) → length (part outs) ≡ length (filter is (messages_to node outs))
  part_count [] = refl
  part_count (to_client conn bytes ∷ outs) = part_count outs
  part_count (Close conn ∷ outs) = part_count outs
  part_count (to_node other message ∷ outs) = one_count other message outs (pointwise nat_eq other node) (is message) (part_count outs) refl refl
  part_count (mark_out ask counts ∷ outs) = part_count outs
  part_count (tell ask how ∷ outs) = part_count outs

  -- where at most one is of the kind
  few_there : (outs : List Out) → length (filter is (messages_to node outs)) ≤ 1
      → filter is (messages_to node (in_ask_order outs)) ≡ filter is (messages_to node outs)
  few_there outs few =
      let same : length (filter (goes_there is node) outs) ≡ length (filter is (messages_to node outs)) = part_count outs in
      sym (part_is (in_ask_order outs))
      ∙ ap (messages_to node) (few_stay (goes_there is node) outs (subst (λ n. n ≤ 1) (sym same) few))
      ∙ part_is outs

-- ---- what is no ask

abbrev is_no_ask : LinkMsg → Bool
is_no_ask (Ask ask) = false
is_no_ask message = true

no_ask_none : (node : List ℕ) (out : Out) → goes_there is_no_ask node out ≡ true → AsksNone out
no_ask_none node (to_node other Up) e = refl
no_ask_none node (to_node other End) e = refl
no_ask_none node (to_node other (Line bytes)) e = refl
no_ask_none node (to_node other (Answer answer)) e = refl
no_ask_none node (to_node other (Ask ask)) e = absurd (never (pointwise nat_eq other node) e)
  where
    never : (b : Bool) → (b && false) ≡ true → ⊥
    never true h = cc
    never false h = cc
no_ask_none node (to_client conn bytes) e = refl
no_ask_none node (Close conn) e = refl
no_ask_none node (mark_out ask counts) e = refl
no_ask_none node (tell ask how) e = refl

noops_stay : (messages : List LinkMsg) → AreNoops messages → filter is_no_ask messages ≡ messages
noops_stay [] are = refl
noops_stay (message ∷ messages) are =
    let e : is_no_ask message ≡ true = ap is_no_ask (are.0).is in
    let more : filter is_no_ask messages ≡ messages = noops_stay messages are.1 in
    rw e (ap (λ l. message ∷ l) more)

-- all that goes to the master
to_master_stays : (master : List ℕ) (outs : List Out) → AreWellSent master outs → messages_to master (in_ask_order outs) ≡ messages_to master outs
to_master_stays master outs well =
    sym (noops_stay (messages_to master (in_ask_order outs)) (well_sent_noops master (in_ask_order outs) (outs_all (IsWellSent master) outs well)))
    ∙ sym (part_is is_no_ask master (in_ask_order outs))
    ∙ ap (messages_to master) (others_stay (goes_there is_no_ask master) outs (no_ask_none master))
    ∙ part_is is_no_ask master outs
    ∙ noops_stay (messages_to master outs) (well_sent_noops master outs well)

-- ---- clients and marks

abbrev asks_none : Out → Bool
asks_none out = is_none (asked_name out)

none_asked : (out : Out) → asks_none out ≡ true → AsksNone out
none_asked out e = by (asked_name out) e
  where
    by : (found : Option (List ℕ)) → is_none found ≡ true → found ≡ None
    by None h = refl
    by (Some name) h = cc

given_by : (out : Out) (outs : List Out) (clients : List (ℕ × Client)) (b : Bool) → given_out clients out ≡ clients
    → given_all clients (cond b (out ∷ outs) outs) ≡ given_all clients outs
unfolding given_all
given_by out outs clients true e = ap (λ c. given_all c outs) e
given_by out outs clients false e = refl

given_part : (outs : List Out) (clients : List (ℕ × Client)) → given_all clients (filter asks_none outs) ≡ given_all clients outs
unfolding given_all given_out
given_part [] clients = refl
given_part (to_client conn bytes ∷ outs) clients = given_part outs (given_out clients (to_client conn bytes))
given_part (Close conn ∷ outs) clients = given_part outs clients
given_part (to_node other message ∷ outs) clients =
    given_by (to_node other message) (filter asks_none outs) clients (asks_none (to_node other message)) refl ∙ given_part outs clients
given_part (mark_out ask counts ∷ outs) clients = given_part outs clients
given_part (tell ask how ∷ outs) clients = given_part outs clients

given_stay : (outs : List Out) (clients : List (ℕ × Client)) → given_all clients (in_ask_order outs) ≡ given_all clients outs
given_stay outs clients =
    sym (given_part (in_ask_order outs) clients) ∙ ap (given_all clients) (others_stay asks_none outs none_asked) ∙ given_part outs clients

marked_by : (step : ℕ) (out : Out) (outs : List Out) (b : Bool) → mark_made step out ≡ [] → marks_made step (cond b (out ∷ outs) outs) ≡ marks_made step outs
marked_by step out outs true e = ap (λ l. l ++ marks_made step outs) e
marked_by step out outs false e = refl

marks_part : (step : ℕ) (outs : List Out) → marks_made step (filter asks_none outs) ≡ marks_made step outs
marks_part step [] = refl
marks_part step (to_client conn bytes ∷ outs) = marks_part step outs
marks_part step (Close conn ∷ outs) = marks_part step outs
marks_part step (to_node other message ∷ outs) =
    marked_by step (to_node other message) (filter asks_none outs) (asks_none (to_node other message)) refl ∙ marks_part step outs
marks_part step (mark_out ask counts ∷ outs) = ap (λ l. mark_made step (mark_out ask counts) ++ l) (marks_part step outs)
marks_part step (tell ask how ∷ outs) = ap (λ l. mark_made step (tell ask how) ++ l) (marks_part step outs)

marks_stay : (step : ℕ) (outs : List Out) → marks_made step (in_ask_order outs) ≡ marks_made step outs
marks_stay step outs =
    sym (marks_part step (in_ask_order outs)) ∙ ap (marks_made step) (others_stay asks_none outs none_asked) ∙ marks_part step outs

-- ---- the worlds

few_by : {X : Type 0} (x : X) (b : Bool) → length (cond b (x ∷ []) []) ≤ 1
few_by x true = (let one : 1 ≤ 1 = omega arith in one)
few_by x false = (let none : 0 ≤ 1 = omega arith in none)

module _ (config : Config) (world : World) (to : List ℕ) (next : Stepped) (apart : master_of config ≢ to) (well : AreWellSent (master_of config) next.outs) where
  abbrev me : List ℕ
  me = master_of config

  abbrev one : World
  one = with_front world to next

  abbrev two : World
  two = with_front world to (with_asks_in_order next)

  abbrev sorted : List Out
  sorted = in_ask_order next.outs

  first : IsMade world to (state.Front next.front) next.outs one
  first = is_made world to (state.Front next.front) next.outs

  second : IsMade world to (state.Front next.front) sorted two
  second = is_made world to (state.Front next.front) sorted

  else_stays : (a b : List ℕ) → a ≢ to → on_link two.links a b ≡ on_link one.links a b
  else_stays a b ne =
      ap (λ (l : Links LinkMsg). on_link l a b) second.links ∙ puts_else to world.links sorted a b ne
      ∙ sym (ap (λ (l : Links LinkMsg). on_link l a b) first.links ∙ puts_else to world.links next.outs a b ne)

  own_first : (b : List ℕ) → on_link one.links to b ≡ on_link world.links to b ++ messages_to b next.outs
  own_first b = ap (λ (l : Links LinkMsg). on_link l to b) first.links ∙ puts_own to world.links next.outs b

  own_second : (b : List ℕ) → on_link two.links to b ≡ on_link world.links to b ++ messages_to b sorted
  own_second b = ap (λ (l : Links LinkMsg). on_link l to b) second.links ∙ puts_own to world.links sorted b

  kind_stays : (is : LinkMsg → Bool) (b : List ℕ) → length (filter is (on_link one.links to b)) ≤ 1
      → filter is (on_link two.links to b) ≡ filter is (on_link one.links to b)
  kind_stays is b few =
      let parts : filter is (on_link one.links to b) ≡ filter is (on_link world.links to b) ++ filter is (messages_to b next.outs) =
      ap (filter is) (own_first b) ∙ filter-append is (on_link world.links to b) (messages_to b next.outs) in
      let short : length (filter is (messages_to b next.outs)) ≤ 1 =
      omega (arith, few, ap length parts, length-append (filter is (on_link world.links to b)) (filter is (messages_to b next.outs))) in
      ap (filter is) (own_second b) ∙ filter-append is (on_link world.links to b) (messages_to b sorted)
      ∙ ap (λ l. filter is (on_link world.links to b) ++ l) (few_there is b next.outs short) ∙ sym parts

  kinds_stay : (is : LinkMsg → Bool) (a b : List ℕ) → length (filter is (on_link one.links a b)) ≤ 1
      → filter is (on_link two.links a b) ≡ filter is (on_link one.links a b)
  kinds_stay is a b few = ⊎_elim
      (λ (e : a ≡ to). subst (λ n. filter is (on_link two.links n b) ≡ filter is (on_link one.links n b)) (sym e)
      (kind_stays is b (subst (λ n. length (filter is (on_link one.links n b)) ≤ 1) e few)))
      (λ (ne : a ≢ to). ap (filter is) (else_stays a b ne))
      (same_name_or a to)

  short_of : (is : LinkMsg → Bool) (found : Option (Carried LinkMsg)) → IsFound is one.links found → (a b : List ℕ)
      → length (filter is (on_link one.links a b)) ≤ 1
  short_of is None placed a b =
      let none : 0 ≤ 1 = omega arith in subst (λ (l : List LinkMsg). length l ≤ 1) (sym (placed a b)) none
  short_of is (Some it) placed a b =
      subst (λ (l : List LinkMsg). length l ≤ 1) (sym (placed a b)) (few_by it.message (same_link a b it.from it.to))

  found_stays : (is : LinkMsg → Bool) (found : Option (Carried LinkMsg)) → IsFound is one.links found → IsFound is two.links found
  found_stays is None placed = λ a b. kinds_stay is a b (short_of is None placed a b) ∙ placed a b
  found_stays is (Some it) placed = λ a b. kinds_stay is a b (short_of is (Some it) placed a b) ∙ placed a b

  up_stays : (any : List ℕ) → on_link two.links any me ≡ on_link one.links any me
  up_stays any = ⊎_elim
      (λ (e : any ≡ to). subst (λ n. on_link two.links n me ≡ on_link one.links n me) (sym e)
      (own_second me ∙ ap (λ l. on_link world.links to me ++ l) (to_master_stays me next.outs well) ∙ sym (own_first me)))
      (λ (ne : any ≢ to). else_stays any me ne)
      (same_name_or any to)

  broken_same : two.broken ≡ one.broken
  broken_same = second.broken ∙ sym first.broken

  sorted_relinks : Relinks me one two
  sorted_relinks = record {
    nodes = second.nodes ∙ sym first.nodes;
    clients = second.clients ∙ given_stay next.outs world.clients ∙ sym first.clients;
    marks = second.marks ∙ ap (λ l. world.marks ++ l) (marks_stay world.steps next.outs) ∙ sym first.marks;
    steps = second.steps ∙ sym first.steps;
    messages = λ conn number found placed. found_stays (is_about number (of_connection conn)) found placed;
    homes = λ name node at. (up_stays name, else_stays me name apart);
    barriers = λ conn front replica command at is.
        barrier_alike (record { conn = conn; command = command }) at (on_link one.links front me) (on_link one.links me front) (on_link two.links front me)
        (on_link two.links me front) replica (up_stays front) (else_stays me front apart) is;
    cut = λ none. sym broken_same ∙ none;
    dropped = λ conn node server front at waits is. ap (λ (b : Broken). is_broken b server node) broken_same ∙ is;
  }

  fronts_same : (any : List ℕ) → front_at two any ≡ front_at one any
  fronts_same any = ap (λ n. as_front (value_at (slice_cmp nat_cmp) n any)) (second.nodes ∙ sym first.nodes)

  homes_same : (any : List ℕ) → home_at two any ≡ home_at one any
  homes_same any = ap (λ n. as_back (value_at (slice_cmp nat_cmp) n any)) (second.nodes ∙ sym first.nodes)

  feeds_stay : (heard : ℕ → Heard) (law : KeepsLaw config heard one) → FeedsHold config two law.master
  feeds_stay heard law =
      still_feeds config one law.master law.nodes law.feeds two (λ server. ap is_some (homes_same server))
      (λ any front there. still_fed config one law.master law.nodes law.feeds two any front (sym (fronts_same any) ∙ there) (up_stays any) (else_stays me any apart)
      (ap (λ (b : Broken). is_broken b me any) broken_same) (λ server. ap is_some (homes_same server)))

  -- THE LAW STANDS WHERE THE ASKS OF A STEP OF A FRONTEND GO IN ANOTHER ORDER
  pub in_order_keeps : (heard : ℕ → Heard) (before : Tale) (stopped : ℕ → Stop) → KeepsOn config before stopped heard one → KeepsOn config before stopped heard two
  in_order_keeps heard before stopped kept =
      kept_then config heard before stopped one two kept (relinked_keeps config heard one two sorted_relinks kept.law (feeds_stay heard kept.law))
