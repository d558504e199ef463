-- A talk goes on when the master takes what is of no backend.
use Rattle.std.proofs.Common.{◌≡◌, ◌≢◌, ℕ, Bool, true, false, nat_eq, List, [], ◌++◌, Option, None, Some, refl, sym, ap, subst, ◌∙◌, append-nil}
use Rattle.std.specs.List.{list_any}
use Rattle.std.specs.Ordering.{nat_cmp}
use Rattle.std.specs.Cmp.Lexicographic.{pointwise, slice_cmp}
use Rattle.link_msg.specs.declared.message.LinkMsg.{LinkMsg}
use Rattle.link_msg.specs.declared.message.LinkMsg.TheVariants.{Up, End, Line, Ask, Answer}
use Rattle.link_msg.specs.declared.out.Out.{Out}
use Rattle.master_core.specs.declared.master.Master.{Master}
use Rattle.master_core.specs.declared.sender.Sender.TheVariants.{Backend, Frontend, Outside}
use Rattle.master_core.specs.declared.streams.StreamStep.{StreamStep}
use Rattle.master_core.specs.declared.streams.StreamStep.TheVariants as stream
use Rattle.master_core.specs.Linked.{sender_by, node_says}
use Rattle.master_core.specs.Outside.{bytes_in, connect}
use Rattle.master_core.specs.Replies.{reply_to, bad_reply}
use Rattle.master_core.specs.Step.{Planned, table_with, replied, settled, bad_step, line_step}
use Rattle.master_core.specs.Streams.{stream_step, streaming, without}
use Rattle.master_core.proofs.OutsideAlone.{AreItsOwn, IsBeside, bytes_alone, connects_alone, ends_alone}
use Rattle.master_core.proofs.ServersLaw.{by_line}
use Rattle.mupdate_codec.specs.declared.tag.Tag.{Tag}
use Rattle.mur_base.specs.Map.{value_at}
use Rattle.node_record.specs.declared.master.MasterRecord.{MasterRecord}
use Rattle.node_record.specs.Table.{MailboxTable}
use Rattle.back_node.specs.declared.node.BackNode.{BackNode}
use Rattle.back_node.specs.NodeLaws.{OwesOnly}
use Rattle.feed_links.specs.Lines.{messages_to, stream_of}
use Rattle.feed_links.specs.Spelled.{CanBeTold}
use Rattle.feed_links.proofs.FeedLaw.{no_message, SaysNothingTo, says_nothing_to}
use Rattle.feed_links.proofs.Steps.{StepIs, is_bad, is_taken, step_is}
use Rattle.name_links.specs.Serials.{Given}
use Rattle.back_links.specs.MasterEvents.{FrontendsKeepTalk, UpsKeepTalk, ClientsKeepTalk}
use Rattle.back_links.specs.OneTalk.{link_of, HoldsOfEachName, HasTalk}

-- a step that sends the node nothing, and leaves the table, the backends, its name and the node's stream
record LeavesTalk (master next : Master) (name : List ℕ) : Type 0 where
  me : next.me ≡ master.me
  backends : next.backends ≡ master.backends
  stream : stream_of next name ≡ stream_of master name
  table : next.table ≡ master.table

leaves_talk : (master next : Master) (name : List ℕ) (node : BackNode) (up down sent : List LinkMsg) (given : Given) → LeavesTalk master next name → sent ≡ []
    → HasTalk master name node up down given → HasTalk next name node up (down ++ sent) given
leaves_talk master next name node up down sent given leaves none talk =
    subst (λ (d : List LinkMsg). HasTalk next name node up d given) (sym (ap (λ (l : List LinkMsg). down ++ l) none ∙ append-nil down))
    (record {
      ups = talk.ups;
      downs = talk.downs;
      written = talk.written;
      own_place = talk.own_place;
      each = record {
        named = talk.each.named;
        backend = subst (λ (b : List (List ℕ)). list_any (pointwise nat_eq name) b ≡ true) (sym leaves.backends) talk.each.backend;
        no_stream = leaves.stream ∙ talk.each.no_stream;
        its_master = talk.each.its_master ∙ sym leaves.me;
        owes = subst (λ (m : List ℕ). OwesOnly (λ front. front ≢ m) node.flows) (sym leaves.me) talk.each.owes;
      };
      told = subst CanBeTold (sym leaves.table) talk.told;
      said = talk.said;
      holds =
          subst (λ (t : MailboxTable). HoldsOfEachName (record (link_of master node talk.ups talk.downs) { table = t }) given) (sym leaves.table) talk.holds;
    })

-- a frontend's line changes nothing but its stream

record IsAllButStreams (master next : Master) : Type 0 where
  me : next.me ≡ master.me
  backends : next.backends ≡ master.backends
  table : next.table ≡ master.table

no_entry : (master : Master) (front line : List ℕ) (made : Option MasterRecord) → (line_step master (Frontend front) line).entry ≡ made → made ≡ None
no_entry master front line None e = refl
no_entry master front line (Some it) e =
    let by = by_line master (Frontend front) it line e in
    let no : Frontend front ≡ Backend by.node = by.is in cc

settled_rest : (planned : Planned) (front : List ℕ) (tag : Tag) (step : StreamStep)
    → IsAllButStreams planned.master (settled planned (Frontend front) tag step).master × ((settled planned (Frontend front) tag step).entry ≡ planned.entry)
unfolding settled streaming without
settled_rest planned front tag stream.Stays = (record { me = refl; backends = refl; table = refl }, refl)
settled_rest planned front tag stream.Begins = (record { me = refl; backends = refl; table = refl }, refl)
settled_rest planned front tag stream.Ends = (record { me = refl; backends = refl; table = refl }, refl)

step_rest : (master : Master) (front : List ℕ) (next : Planned) → StepIs master (Frontend front) next → next.entry ≡ None → IsAllButStreams master next.master
unfolding bad_step bad_reply replied
step_rest master front _ (is_bad tag tagged) none = record { me = refl; backends = refl; table = refl }
step_rest master front _ (is_taken tag it tagged has may) none =
    let rest = settled_rest (replied master (Frontend front) tag (reply_to master.table (Frontend front) it)) front tag (stream_step it) in
    record {
      me = rest.0.me;
      backends = rest.0.backends;
      table = rest.0.table ∙ ap (λ (e : Option MasterRecord). table_with master.table e) (sym rest.1 ∙ none);
    }

line_rest : (master : Master) (front line : List ℕ) → IsAllButStreams master (line_step master (Frontend front) line).master
line_rest master front line =
    step_rest master front (line_step master (Frontend front) line) (step_is master (Frontend front) line)
    (no_entry master front line (line_step master (Frontend front) line).entry refl)

ended_rest : (master : Master) (front : List ℕ) → IsAllButStreams master (without master (Frontend front))
unfolding without
ended_rest master front = record { me = refl; backends = refl; table = refl }

says_rest : (master : Master) (front : List ℕ) (message : LinkMsg) → list_any (pointwise nat_eq front) master.backends ≡ false
    → IsAllButStreams master (node_says master front message).master
unfolding node_says
says_rest master front (Line bytes) none =
    subst (λ (b : Bool). IsAllButStreams master (line_step master (sender_by b front) bytes).master) (sym none) (line_rest master front bytes)
says_rest master front End none = subst (λ (b : Bool). IsAllButStreams master (without master (sender_by b front))) (sym none) (ended_rest master front)
says_rest master front Up none = record { me = refl; backends = refl; table = refl }
says_rest master front (Ask ask) none = record { me = refl; backends = refl; table = refl }
says_rest master front (Answer answer) none = record { me = refl; backends = refl; table = refl }

pub frontends_keep_talk : FrontendsKeepTalk
frontends_keep_talk master name front node up down given message none talk =
    let ne : front ≢ name = λ e. (let no : list_any (pointwise nat_eq name) master.backends ≡ false =
    subst (λ (n : List ℕ). list_any (pointwise nat_eq n) master.backends ≡ false) e none in
    let both : true ≡ false = sym talk.each.backend ∙ no in cc) in
    let rest = says_rest master front message none in
    let silent : SaysNothingTo master name (node_says master front message) = says_nothing_to master name front message ne in
    leaves_talk master (node_says master front message).master name node up down (messages_to name (node_says master front message).outs) given
    (record { me = rest.me; backends = rest.backends; stream = silent.stream; table = rest.table }) (silent.nothing talk.each.no_stream) talk

pub ups_keep_talk : UpsKeepTalk
unfolding node_says
ups_keep_talk master name other node up down given talk = subst (λ (d : List LinkMsg). HasTalk master name node up d given) (sym (append-nil down)) talk

-- ---- a client from outside

client_keeps : (master next : Master) (outs : List Out) (conn : ℕ) (name : List ℕ) (node : BackNode) (up down : List LinkMsg) (given : Given)
    → IsBeside conn master next → AreItsOwn conn outs → HasTalk master name node up down given → HasTalk next name node up (down ++ messages_to name outs) given
client_keeps master next outs conn name node up down given beside own talk =
    leaves_talk master next name node up down (messages_to name outs) given
    (record {
      me = beside.me;
      backends = beside.backends;
      stream = ap (λ (s : List (List ℕ × Tag)). value_at (slice_cmp nat_cmp) s name) beside.streams;
      table = beside.table;
    }) (no_message name conn outs own) talk

pub clients_keep_talk : ClientsKeepTalk
clients_keep_talk master name node up down given talk = record {
  connects = λ conn. (let alone = connects_alone master conn in
      client_keeps master (connect master conn).master (connect master conn).outs conn name node up down given alone.beside alone.own talk);
  says = λ conn bytes. (let alone = bytes_alone master conn bytes in
      client_keeps master (bytes_in master conn bytes).master (bytes_in master conn bytes).outs conn name node up down given alone.beside alone.own talk);
  ends = λ conn. (let alone = ends_alone master conn in
      subst (λ (d : List LinkMsg). HasTalk (without master (Outside conn)) name node up d given) (append-nil down)
      (client_keeps master (without master (Outside conn)) [] conn name node up down given alone.beside alone.own talk));
}
