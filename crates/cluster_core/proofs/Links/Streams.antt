-- What comes to the master leaves the stream of each node from which it doesn't come; and the stream of a node ends where its link does.
use Rattle.std.proofs.Common.{◌≡◌, ◌≢◌, ℕ, nat_eq, Bool, true, false, List, [], ◌∷◌, None, refl, sym, ap, subst}
use Rattle.std.specs.Cmp.Lexicographic.{pointwise, slice_cmp}
use Rattle.std.specs.List.{AllByRecursion, list_any}
use Rattle.std.specs.List.Sorted.{IsStrictlySortedBy}
use Rattle.std.specs.Map.{keys_of}
use Rattle.std.specs.Ordering.{is_eq, nat_cmp}
use Rattle.std.specs.declared.cmp.Ordering.TheVariants.{Less}
use Rattle.feed_links.proofs.Begun.{others_leave}
use Rattle.feed_links.proofs.FeedLaw.{other_sender, says_order}
use Rattle.feed_links.proofs.Names.{value_at-without_key-other}
use Rattle.feed_links.specs.Lines.{HasStreams, stream_of}
use Rattle.link_msg.specs.declared.message.LinkMsg.{LinkMsg}
use Rattle.link_msg.specs.declared.message.LinkMsg.TheVariants.{Up, End, Line, Ask, Answer}
use Rattle.master_core.proofs.OutsideAlone.{bytes_alone, connects_alone, ends_alone}
use Rattle.master_core.specs.Linked.{node_says, sender_by, sender_of}
use Rattle.master_core.specs.Streams.{without}
use Rattle.master_core.specs.declared.master.Master.{Master}
use Rattle.mur_base.proofs.MapLaws.{names_apart}
use Rattle.mur_base.specs.Map.{IsInOrder, value_at, without_key}
use Rattle.mupdate_codec.specs.declared.tag.Tag.{Tag}
use Rattle.node_step.specs.declared.input.NodeInput.{NodeInput}
use Rattle.node_step.specs.declared.input.NodeInput.TheVariants.{Opened, Piece, Hung, From}
use Rattle.cluster_core.proofs.Nodes.Comes.{master_does}

-- ---- a stream that ends

-- a name below all isn't among them
not_above : (name : List ℕ) (es : List (List ℕ × Tag)) → AllByRecursion (λ k. slice_cmp nat_cmp name k ≡ Less) (keys_of es)
    → value_at (slice_cmp nat_cmp) es name ≡ None
not_above name [] all = refl
not_above name (e ∷ es) all = rw (ap is_eq all.0) (not_above name es all.1)

gone_at : (e : List ℕ × Tag) (es : List (List ℕ × Tag)) (k : List ℕ) (same : Bool) → is_eq (slice_cmp nat_cmp k e.0) ≡ same
    → AllByRecursion (λ q. slice_cmp nat_cmp e.0 q ≡ Less) (keys_of es)
    → value_at (slice_cmp nat_cmp) (without_key (slice_cmp nat_cmp) es k) k ≡ None
    → value_at (slice_cmp nat_cmp) (without_key (slice_cmp nat_cmp) (e ∷ es) k) k ≡ None
gone_at e es k true h above later =
    let is : k ≡ e.0 = names_apart.exact k e.0 h in
    rw h (subst (λ n. value_at (slice_cmp nat_cmp) es n ≡ None) (sym is) (not_above e.0 es above))
gone_at e es k false h above later = rw (h, h) later

gone : (es : List (List ℕ × Tag)) (k : List ℕ) → IsInOrder (slice_cmp nat_cmp) es → value_at (slice_cmp nat_cmp) (without_key (slice_cmp nat_cmp) es k) k ≡ None
unfolding IsStrictlySortedBy
gone [] k order = refl
gone (e ∷ es) k order = gone_at e es k (is_eq (slice_cmp nat_cmp k e.0)) refl order.0 (gone es k order.1)

ends_by : (master : Master) (node : List ℕ) (b : Bool) → HasStreams master → stream_of (without master (sender_by b node)) node ≡ None
unfolding without
ends_by master node true order = gone master.streams node order
ends_by master node false order = gone master.streams node order

pub stream_ends : (master : Master) (node : List ℕ) → HasStreams master → stream_of (node_says master node End).master node ≡ None
unfolding node_says
stream_ends master node order = ends_by master node (list_any (pointwise nat_eq node) master.backends) order

-- ---- any other

else_by : (master : Master) (node other : List ℕ) (b : Bool) → other ≢ node → stream_of (without master (sender_by b other)) node ≡ stream_of master node
unfolding without
else_by master node other true ne = value_at-without_key-other master.streams other node (λ e. ne (sym e))
else_by master node other false ne = value_at-without_key-other master.streams other node (λ e. ne (sym e))

says_else : (master : Master) (node other : List ℕ) (message : LinkMsg) → other ≢ node
    → stream_of (node_says master other message).master node ≡ stream_of master node
unfolding node_says
says_else master node other (Line bytes) ne =
    (others_leave master (sender_of master other) bytes node (other_sender node other (list_any (pointwise nat_eq other) master.backends) ne)).stream
says_else master node other End ne = else_by master node other (list_any (pointwise nat_eq other) master.backends) ne
says_else master node other Up ne = refl
says_else master node other (Ask ask) ne = refl
says_else master node other (Answer answer) ne = refl

-- it doesn't come from this node
abbrev pub IsNotFrom : List ℕ → NodeInput → Type 0
IsNotFrom node (From name message) = name ≢ node
IsNotFrom node input = Unit {0}

pub streams_stay : (master : Master) (node : List ℕ) (input : NodeInput) → IsNotFrom node input
    → stream_of (master_does master input).master node ≡ stream_of master node
streams_stay master node (From name message) ne = says_else master node name message ne
streams_stay master node (Opened conn) ne = ap (λ s. value_at (slice_cmp nat_cmp) s node) (connects_alone master conn).beside.streams
streams_stay master node (Piece conn bytes) ne = ap (λ s. value_at (slice_cmp nat_cmp) s node) (bytes_alone master conn bytes).beside.streams
streams_stay master node (Hung conn) ne = ap (λ s. value_at (slice_cmp nat_cmp) s node) (ends_alone master conn).beside.streams

-- ---- they stay in order

pub order_stays : (master : Master) (input : NodeInput) → HasStreams master → HasStreams (master_does master input).master
order_stays master (From name message) order = says_order master name message order
order_stays master (Opened conn) order = subst (IsInOrder (slice_cmp nat_cmp)) (sym (connects_alone master conn).beside.streams) order
order_stays master (Piece conn bytes) order = subst (IsInOrder (slice_cmp nat_cmp)) (sym (bytes_alone master conn bytes).beside.streams) order
order_stays master (Hung conn) order = subst (IsInOrder (slice_cmp nat_cmp)) (sym (ends_alone master conn).beside.streams) order
