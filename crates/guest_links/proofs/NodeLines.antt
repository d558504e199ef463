-- A message of a node tells a watcher the change that it makes, and no other client anything.
use Rattle.std.proofs.Common.{◌≡◌, ℕ, Bool, true, false, nat_eq, List, [], ◌++◌, map, Option, None, Some, refl, sym, ap, ◌∙◌, subst}
use Rattle.std.specs.List.{list_any}
use Rattle.std.specs.Ordering.{nat_cmp}
use Rattle.std.specs.Cmp.Lexicographic.{pointwise}
use Rattle.feed_links.proofs.Steps.{StepIs, is_bad, is_taken, taken, step_is}
use Rattle.link_msg.specs.declared.message.LinkMsg.{LinkMsg}
use Rattle.link_msg.specs.declared.message.LinkMsg.TheVariants.{Up, End, Line, Ask, Answer}
use Rattle.master_core.specs.declared.master.Master.{Master}
use Rattle.master_core.specs.declared.reply.Reply.{Reply}
use Rattle.master_core.specs.declared.sender.Sender.{Sender}
use Rattle.master_core.specs.declared.sender.Sender.TheVariants.{Backend, Frontend, Outside}
use Rattle.master_core.specs.declared.streams.StreamStep.{StreamStep}
use Rattle.master_core.specs.declared.streams.StreamStep.TheVariants as stream
use Rattle.master_core.specs.Changes.{change_outs}
use Rattle.master_core.specs.Linked.{sender_by, sender_of, let_out, node_entry, node_says}
use Rattle.master_core.specs.Outside.{Stepped}
use Rattle.master_core.specs.Replies.{reply_to, bad_reply}
use Rattle.master_core.specs.Step.{Planned, answered, mark_outs, reply_outs, replied, settled, bad_step, line_step, table_with}
use Rattle.master_core.specs.Streams.{stream_step, streaming, without}
use Rattle.mupdate_codec.specs.declared.tag.Tag.{Tag}
use Rattle.mur_base.specs.Map.{value_at}
use Rattle.node_record.specs.declared.master.MasterRecord.{MasterRecord}
use Rattle.guest_links.specs.Guests.{Guest, told_of, told_change}
use Rattle.guest_links.specs.Served.{HasWatchers, IsGuestOf, IsNoGuest, IsServed, watcher_at}
use Rattle.guest_links.proofs.Outputs.{Gives, gives_nothing, both, and_nothing, IsANode, no_answers, no_marks, change_told}

-- the master but for its table and its streams of nodes
pub record SameClients (master next : Master) : Type 0 where
  pub outside : next.outside ≡ master.outside
  pub watchers : next.watchers ≡ master.watchers

-- what a step of a node tells a client: its change
pub record NodeStep (master : Master) (conn : ℕ) (next : Stepped) (change : Option MasterRecord) : Type 0 where
  pub clients : SameClients master next.master
  pub table : next.master.table ≡ table_with master.table change
  pub gives : HasWatchers master → Gives conn next.outs (told_of change (watcher_at master conn))

-- a reply to a node
reply_gives : (master : Master) (conn : ℕ) (from : Sender) (tag : Tag) (reply : Reply) → HasWatchers master → IsANode from
    → Gives conn (reply_outs master from tag reply) (told_of reply.entry (watcher_at master conn))
reply_gives master conn from tag reply order node =
    both conn (map (answered from tag) reply.answers) (change_outs master.streams master.watchers reply.entry ++ mark_outs from tag reply.counts) []
    (told_of reply.entry (watcher_at master conn)) (no_answers conn from tag reply.answers node)
    (and_nothing conn (change_outs master.streams master.watchers reply.entry) (mark_outs from tag reply.counts) (told_of reply.entry (watcher_at master conn))
    (change_told conn master.streams master.watchers reply.entry order) (no_marks conn from tag reply.counts))

replied_step : (master : Master) (conn : ℕ) (from : Sender) (tag : Tag) (reply : Reply) → IsANode from
    → NodeStep master conn (let_out (replied master from tag reply)) reply.entry
unfolding replied
replied_step master conn from tag reply node = record {
  clients = record { outside = refl; watchers = refl };
  table = refl;
  gives = λ order. reply_gives master conn from tag reply order node;
}

settled_step : (master : Master) (conn : ℕ) (planned : Planned) (from : Sender) (tag : Tag) (step : StreamStep) (change : Option MasterRecord) → IsANode from
    → NodeStep master conn (let_out planned) change → NodeStep master conn (let_out (settled planned from tag step)) change
unfolding settled streaming without
settled_step master conn planned from tag stream.Stays change node is = is
settled_step master conn planned (Backend name) tag stream.Begins change node is =
    record { clients = record { outside = is.clients.outside; watchers = is.clients.watchers }; table = is.table; gives = is.gives }
settled_step master conn planned (Frontend name) tag stream.Begins change node is =
    record { clients = record { outside = is.clients.outside; watchers = is.clients.watchers }; table = is.table; gives = is.gives }
settled_step master conn planned (Outside other) tag stream.Begins change node is = absurd node
settled_step master conn planned (Backend name) tag stream.Ends change node is = record {
  clients = record { outside = is.clients.outside; watchers = is.clients.watchers };
  table = is.table;
  gives = λ order. and_nothing conn planned.outs [] (told_of change (watcher_at master conn)) (is.gives order) (gives_nothing conn);
}
settled_step master conn planned (Frontend name) tag stream.Ends change node is = record {
  clients = record { outside = is.clients.outside; watchers = is.clients.watchers };
  table = is.table;
  gives = λ order. and_nothing conn planned.outs [] (told_of change (watcher_at master conn)) (is.gives order) (gives_nothing conn);
}
settled_step master conn planned (Outside other) tag stream.Ends change node is = absurd node

settled_entry : (planned : Planned) (from : Sender) (tag : Tag) (step : StreamStep) → (settled planned from tag step).entry ≡ planned.entry
unfolding settled
settled_entry planned from tag stream.Stays = refl
settled_entry planned from tag stream.Begins = refl
settled_entry planned from tag stream.Ends = refl

pub taken_entry : (master : Master) (from : Sender) (tag : Tag) (reply : Reply) (step : StreamStep)
    → (settled (replied master from tag reply) from tag step).entry ≡ reply.entry
unfolding replied
taken_entry master from tag reply step = settled_entry (replied master from tag reply) from tag step

step_by : (master : Master) (conn : ℕ) (from : Sender) (next : Planned) → IsANode from → StepIs master from next
    → NodeStep master conn (let_out next) next.entry
unfolding bad_step replied bad_reply
step_by master conn from next node (is_bad tag tagged) = replied_step master conn from tag bad_reply node
step_by master conn from next node (is_taken tag it tagged has may) =
    let reply : Reply = reply_to master.table from it in
    subst (NodeStep master conn (let_out (taken master from tag it))) (sym (taken_entry master from tag reply (stream_step it)))
    (settled_step master conn (replied master from tag reply) from tag (stream_step it) reply.entry node (replied_step master conn from tag reply node))

a_node : (b : Bool) (node : List ℕ) → IsANode (sender_by b node)
a_node true node = tt
a_node false node = tt

ended_step : (master : Master) (conn : ℕ) (b : Bool) (node : List ℕ)
    → NodeStep master conn (record { master = without master (sender_by b node); outs = [] }) None
unfolding without
ended_step master conn true node = record { clients = record { outside = refl; watchers = refl }; table = refl; gives = λ order. gives_nothing conn }
ended_step master conn false node = record { clients = record { outside = refl; watchers = refl }; table = refl; gives = λ order. gives_nothing conn }

same_step : (master : Master) (conn : ℕ) → NodeStep master conn (record { master = master; outs = [] }) None
same_step master conn = record { clients = record { outside = refl; watchers = refl }; table = refl; gives = λ order. gives_nothing conn }

pub node_step : (master : Master) (conn : ℕ) (node : List ℕ) (message : LinkMsg)
    → NodeStep master conn (node_says master node message) (node_entry master node message)
unfolding node_says
node_step master conn node (Line bytes) =
    step_by master conn (sender_of master node) (line_step master (sender_of master node) bytes)
    (a_node (list_any (pointwise nat_eq node) master.backends) node)
    (step_is master (sender_of master node) bytes)
node_step master conn node End = ended_step master conn (list_any (pointwise nat_eq node) master.backends) node
node_step master conn node Up = same_step master conn
node_step master conn node (Ask ask) = same_step master conn
node_step master conn node (Answer answer) = same_step master conn

-- the client after it

pub guest_told : (master : Master) (conn : ℕ) (guest : Guest) (next : Stepped) (change : Option MasterRecord) → HasWatchers master
    → NodeStep master conn next change
    → IsGuestOf master conn guest → IsServed conn next (Some guest) (Some (told_change change guest)) false
guest_told master conn guest next change order step is = record {
  is = record {
    outside = ap (λ all. value_at nat_cmp all conn) step.clients.outside ∙ is.outside;
    watcher = ap (λ all. value_at nat_cmp all conn) step.clients.watchers ∙ is.watcher;
    streams = is.streams;
  };
  given = ap (λ tag. guest.dialog.given ++ told_of change tag) (sym is.watcher) ∙ ap (λ bytes. guest.dialog.given ++ bytes) (sym (step.gives order).given);
  closed = (step.gives order).closed;
  last = (step.gives order).last;
}

pub told_nothing : (change : Option MasterRecord) → told_of change None ≡ []
told_nothing None = refl
told_nothing (Some change) = refl

pub nobody_told : (master : Master) (conn : ℕ) (next : Stepped) (change : Option MasterRecord) → HasWatchers master → NodeStep master conn next change
    → IsNoGuest master conn
    → IsServed conn next None None false
nobody_told master conn next change order step none = record {
  is = record {
    outside = ap (λ all. value_at nat_cmp all conn) step.clients.outside ∙ none.outside;
    watcher = ap (λ all. value_at nat_cmp all conn) step.clients.watchers ∙ none.watcher;
  };
  given = sym ((step.gives order).given ∙ ap (told_of change) none.watcher ∙ told_nothing change);
  closed = (step.gives order).closed;
  last = (step.gives order).last;
}
