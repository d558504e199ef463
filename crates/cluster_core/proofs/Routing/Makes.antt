-- A line by which the master makes a mailbox, or takes one away, is a command's, and the step marks it, whatever its client is told. Any other step of the
-- master that marks a command leaves the table as it was.
use Rattle.std.proofs.Common.{◌≡◌, ◌≢◌, ◌⊎◌, inl, inr, ℕ, ◌+◌, ◌<◌, Bool, true, false, is_some, nat_eq, List, [], ◌∷◌, ◌++◌, length, get_or, Option, None, Some, refl, sym, ◌∙◌, ap, subst, arith}
use Rattle.std.specs.Prelude.{All, Contains}
use Rattle.std.specs.List.{list_any}
use Rattle.std.specs.Ordering.{nat_cmp}
use Rattle.std.specs.Cmp.Lexicographic.{pointwise, slice_cmp}
use Rattle.std.proofs.lemmas.List.Elements.{All-cons, All-nil, Contains-append_right}
use Rattle.back_links.specs.MasterEvents.{given_in}
use Rattle.back_node.specs.declared.node.BackNode.{BackNode}
use Rattle.cluster_core.specs.Headline.Outside.{table_by, table_at}
use Rattle.cluster_core.specs.World.{master_of, comes, deliver_first, home_at, stepped, steps_by, taken_from_link, takes}
use Rattle.imap_talk.specs.Heard.{Heard}
use Rattle.link_msg.specs.declared.counts.Counts.{Counts}
use Rattle.link_msg.specs.declared.counts.Counts.TheVariants.{Always, IfAnswered}
use Rattle.link_msg.specs.declared.message.LinkMsg.{LinkMsg}
use Rattle.link_msg.specs.declared.message.LinkMsg.TheVariants.{Up, End, Line, Ask, Answer}
use Rattle.link_msg.specs.declared.out.Out.{Out}
use Rattle.link_msg.specs.declared.out.Out.TheVariants.{Client, Close, Link, Mark as mark, Told as tell}
use Rattle.link_queue.specs.Links.{on_link}
use Rattle.mail_message.specs.Boxes.{empty_box}
use Rattle.mail_message.specs.FirstAcl.{first_acl}
use Rattle.many_links.specs.ManyHold.{ManyHold}
use Rattle.many_links.specs.Marks.{CarryNoneOut, marks_in}
use Rattle.many_links.specs.MasterEvents.{IsDoneFor, StoreTakes, created, nothing, removed}
use Rattle.many_links.specs.Murder.{Murder, homes_of, master_takes}
use Rattle.many_links.proofs.MasterLaw.{frontends_keep_many}
use Rattle.many_links.proofs.TakesLaw.{takes_keeps_many}
use Rattle.mark_history.specs.declared.mark.Mark.{Mark}
use Rattle.mark_history.specs.declared.mark.MarkKind.TheVariants.{Home}
use Rattle.master_core.specs.Linked.{node_says, sender_by, sender_of}
use Rattle.master_core.specs.Outside.{Stepped}
use Rattle.master_core.specs.Senders.{is_backend}
use Rattle.master_core.specs.Step.{line_step}
use Rattle.mupdate_codec.specs.declared.command.MCommand.{MCommand}
use Rattle.mupdate_codec.specs.declared.command.MCommand.TheVariants as command
use Rattle.mupdate_codec.specs.Asks.{line_ask}
use Rattle.mupdate_codec.proofs.LineAsks.{command_tells}
use Rattle.mupdate_codec.proofs.WholeLaw.{is_line}
use Rattle.mur_base.specs.declared.point.AskId.{AskId}
use Rattle.mur_config.specs.declared.config.Config.{Config}
use Rattle.mur_model.specs.declared.store.Store.{Store}
use Rattle.mur_model.specs.Store.{box_at, without_box}
use Rattle.mur_model.proofs.BoxGone.{box_gone}
use Rattle.node_step.specs.declared.input.NodeInput.TheVariants.{From}
use Rattle.node_step.specs.declared.node.NodeState.TheVariants as state
use Rattle.node_step.specs.NodeStep.{as_master}
use Rattle.name_links.specs.Serials.{Given}
use Rattle.node_record.specs.Table.{MailboxTable, is_mailbox_if, record_at}
use Rattle.schedule_text.specs.declared.event.Event.TheVariants.{Deliver}
use Rattle.mur_base.proofs.MapLaws.{names_apart, value_at-with_entry}
use Rattle.store_links.specs.TableEntries.{store_with}
use Rattle.store_links.proofs.BoxesLaw.{each_is_a_box}
use Rattle.cluster_core.specs.declared.world.World.{World}
use Rattle.cluster_core.proofs.Connections.KeepsLaw.{KeepsLaw, murder_of}
use Rattle.cluster_core.proofs.Nodes.Carried.{is_made, marks_made}
use Rattle.cluster_core.proofs.Nodes.AllCome.{all_come, master_all_come}
use Rattle.cluster_core.proofs.Nodes.Comes.{master_moved, with_master, wrote}
use Rattle.cluster_core.proofs.Nodes.Then.{looks_then}
use Rattle.cluster_core.proofs.Nodes.Thins.{comes_thinned}
use Rattle.cluster_core.proofs.OneServer.Boxes.{table_is}
use Rattle.cluster_core.proofs.Routing.MasterMarks.{TellsStep, line_marks, marks_of_it}

-- ---- the marks of outputs

same_pair : {one other : AskId × Counts} {more rest : List (AskId × Counts)} → one ∷ more ≡ other ∷ rest → one ≡ other
same_pair e = cc

mark_there : (now : ℕ) (ask id : AskId) (counts of : Counts) (more : List Mark) → ◌≡◌ {A = AskId × Counts} (ask, counts) (id, of)
    → Contains ((record { step = now; ask = ask; kind = Home counts }) ∷ more) (record { step = now; ask = id; kind = Home of })
mark_there now ask id counts of more e =
    subst (λ (p : AskId × Counts).
    Contains ((record { step = now; ask = ask; kind = Home counts }) ∷ more) (record { step = now; ask = p.0; kind = Home p.1 })) e
    (0, omega arith, refl)

marked_so : (now : ℕ) (id : AskId) (counts : Counts) (outs : List Out) → marks_in outs ≡ (id, counts) ∷ []
    → Contains (marks_made now outs) (record { step = now; ask = id; kind = Home counts })
marked_so now id counts [] e = cc
marked_so now id counts (mark ask its ∷ outs) e = mark_there now ask id its counts (marks_made now outs) (same_pair e)
marked_so now id counts (tell ask how ∷ outs) e =
    Contains-append_right (_ ∷ []) (marks_made now outs) (record { step = now; ask = id; kind = Home counts }) (marked_so now id counts outs e)
marked_so now id counts (Client conn bytes ∷ outs) e = marked_so now id counts outs e
marked_so now id counts (Close conn ∷ outs) e = marked_so now id counts outs e
marked_so now id counts (Link node message ∷ outs) e = marked_so now id counts outs e

-- it doesn't always count
abbrev NotAlways : Mark → Type 0
NotAlways made = made.kind ≡ Home Always → ⊥

same_counts : {one other : Counts} → Home one ≡ Home other → one ≡ other
same_counts e = cc

none_carried : (now : ℕ) (outs : List Out) → CarryNoneOut outs → All NotAlways (marks_made now outs)
none_carried now [] are = All-nil NotAlways
none_carried now (mark ask counts ∷ outs) are =
    All-cons NotAlways _ (marks_made now outs) (λ kind. (let no : Always ≡ IfAnswered = sym (same_counts kind) ∙ are.0 in cc)) (none_carried now outs are.1)
none_carried now (tell ask how ∷ outs) are = All-cons NotAlways _ (marks_made now outs) (λ kind. cc) (none_carried now outs are)
none_carried now (Client conn bytes ∷ outs) are = none_carried now outs are
none_carried now (Close conn ∷ outs) are = none_carried now outs are
none_carried now (Link node message ∷ outs) are = none_carried now outs are

-- ---- the step

pub record MakesIt (world next : World) (message : LinkMsg) : Type 0 where
  pub line : List ℕ
  pub is : message ≡ Line line
  pub id : AskId
  pub its : line_ask line ≡ Some id
  pub marked : Contains next.marks (record { step = world.steps + 1; ask = id; kind = Home Always })

-- whether the name is a mailbox changes in the step
abbrev pub DiffersAt : Config → World → World → List ℕ → Type 0
DiffersAt config world next name =
    is_mailbox_if (record_at (table_at world (master_of config)) name) ≢ is_mailbox_if (record_at (table_at next (master_of config)) name)

pub record ChangesSome (config : Config) (world next : World) : Type 0 where
  pub name : List ℕ
  pub differs : DiffersAt config world next name

-- what a step of the master did that made a mark
pub record MasterDeed (config : Config) (world next : World) (made : Mark) : Type 0 where
  pub always : made.kind ≡ Home Always → ChangesSome config world next
  pub seen : made.kind ≡ Home IfAnswered → table_at next (master_of config) ≡ table_at world (master_of config)

pub record MasterDeeds (config : Config) (world next : World) : Type 0 where
  pub new : List Mark
  pub parts : next.marks ≡ world.marks ++ new
  pub each : All (MasterDeed config world next) new

pub has_home : (found : Option BackNode) → is_some found ≡ true → (node : BackNode) × (found ≡ Some node)
has_home None e = cc
has_home (Some node) e = (node, refl)

module _ (config : Config) (heard : ℕ → Heard) (world : World) (law : KeepsLaw config heard world) (from : List ℕ) (message : LinkMsg)
    (rest : List LinkMsg) (first : on_link world.links from (master_of config) ≡ message ∷ rest) where
  abbrev says : Stepped
  says = node_says law.master from message

  abbrev taken : World
  taken = taken_from_link (stepped world) from (master_of config)

  abbrev begun : World
  begun = wrote taken (master_of config) (state.Master law.master) (From from message)

  abbrev murder : Murder
  murder = murder_of world law.master

  abbrev store : Store
  store = law.story.course.store

  abbrev next : World
  next = steps_by world (Deliver from (master_of config))

  next_is : next ≡ comes taken (master_of config) (From from message)
  unfolding takes deliver_first
  next_is = ap (deliver_first (stepped world) from (master_of config)) first

  -- where nothing is lost
  all_is : all_come taken (master_of config) (From from message) ≡ with_master begun (master_of config) says
  all_is = master_all_come taken (master_of config) (From from message) law.master law.nodes.is_there

  marks_are : next.marks ≡ world.marks ++ marks_made (world.steps + 1) says.outs
  marks_are =
      ap (λ (w : World). w.marks) next_is ∙ (comes_thinned taken (master_of config) (From from message)).marks ∙ ap (λ (w : World). w.marks) all_is
      ∙ (is_made begun (master_of config) (state.Master says.master) says.outs).marks

  table_behind : table_at next (master_of config) ≡ says.master.table
  table_behind =
      ap (λ (w : World). table_at w (master_of config)) next_is
      ∙ looks_then taken (master_of config) (From from message) (λ n. table_by (as_master n)) (master_of config)
      ∙ ap (λ (w : World). table_at w (master_of config)) all_is
      ∙ ap table_by (master_moved begun (master_of config) law.master says law.nodes.is_there).own

  -- the command that is carried out in it
  does_it : (id : AskId) (it : MCommand) → IsDoneFor id message it says.outs → MakesIt world next message
  does_it id it done = record {
    line = done.bytes;
    is = done.is;
    id = id;
    its = command_tells done.bytes (done.tag, it) (is_line done.bytes (done.tag, it) done.read) ∙ done.asked;
    marked = subst (λ (m : List Mark). Contains m (record { step = world.steps + 1; ask = id; kind = Home Always })) (sym marks_are)
        (Contains-append_right world.marks (marks_made (world.steps + 1) says.outs) (record { step = world.steps + 1; ask = id; kind = Home Always })
        (marked_so (world.steps + 1) id Always says.outs done.marked));
  }

  -- ---- what the store has, by the table before and behind

  box_before : (name : List ℕ) → is_mailbox_if (record_at (table_at world (master_of config)) name) ≡ is_some (box_at store name)
  box_before name =
      ap (λ (t : MailboxTable). is_mailbox_if (record_at t name)) (table_is config heard world law)
      ∙ each_is_a_box law.master.table (homes_of (home_at world)) store law.many.shows name

  box_behind : (name : List ℕ) (later : Store) → {given : Given} → ManyHold (master_takes murder from message) given later
      → is_mailbox_if (record_at (table_at next (master_of config)) name) ≡ is_some (box_at later name)
  box_behind name later hold =
      ap (λ (t : MailboxTable). is_mailbox_if (record_at t name)) table_behind
      ∙ each_is_a_box says.master.table (homes_of (home_at world)) later hold.shows name

  -- ---- where it makes a mailbox or takes one away, it carries a command out

  module _ (name : List ℕ) (differs : DiffersAt config world next name) where
    -- the store does something in it
    not_same : {given : Given} → ManyHold (master_takes murder from message) given store → ⊥
    not_same hold = differs (box_before name ∙ sym (box_behind name store hold))

    by_does : (later : Store) → {given : Given} → ManyHold (master_takes murder from message) given later
        → StoreTakes message says.outs (given_in law.master.table from message) store later → MakesIt world next message
    by_does _ hold (nothing none carries) = absurd (not_same hold)
    by_does _ hold (created id n at acl serial is none free gives) = does_it id (command.Activate n at acl) is
    by_does _ hold (removed id n box is was gives) = does_it id (command.Delete n) is

    makes_by : (backend : Bool) → list_any (pointwise nat_eq from) law.master.backends ≡ backend → MakesIt world next message
    makes_by false e = absurd (not_same (frontends_keep_many murder law.given store from message law.many e))
    makes_by true e =
        let node = has_home (home_at world from) (law.nodes.homes from ∙ e) in
        let one = takes_keeps_many murder law.given store from node.0 message rest law.many node.1 (ap (on_link world.links from) law.nodes.me ∙ first) in
        by_does one.later one.hold one.does

  -- ---- where it marks a command that always counts, it makes a mailbox or takes one away

  differ : {one other : Bool} {a b : Bool} → one ≡ a → other ≡ b → a ≢ b → one ≢ other
  differ e f ne same = ne (sym e ∙ same ∙ f)

  false_true : false ≢ true
  false_true e = cc

  changes_by : (later : Store) → {given : Given} → ManyHold (master_takes murder from message) given later
      → StoreTakes message says.outs (given_in law.master.table from message) store later
      → (All NotAlways (marks_made (world.steps + 1) says.outs)) ⊎ ChangesSome config world next
  changes_by _ hold (nothing none carries) = inl (none_carried (world.steps + 1) says.outs carries)
  changes_by _ hold (created id n at acl serial is none free gives) = inr (record {
    name = n;
    differs = differ (box_before n ∙ ap is_some none)
        (box_behind n (store_with store n serial) hold
        ∙ ap is_some (value_at-with_entry (slice_cmp nat_cmp) names_apart store.boxes n (empty_box serial (first_acl n)))) false_true;
  })
  changes_by _ hold (removed id n box is was gives) = inr (record {
    name = n;
    differs = differ (box_before n ∙ ap is_some was)
        (box_behind n (without_box store n) hold ∙ ap is_some (box_gone store n))
        (λ e. false_true (sym e));
  })

  -- one that isn't a backend marks none
  frontend_marks : list_any (pointwise nat_eq from) law.master.backends ≡ false → (it : LinkMsg)
      → All NotAlways (marks_made (world.steps + 1) (node_says law.master from it).outs)
  unfolding node_says
  frontend_marks e (Line line) =
      marks_of_it (world.steps + 1) NotAlways (line_ask line) (TellsStep law.master (sender_of law.master from) line)
      (λ ask counts its so kind. (let no : true ≡ false = sym (so.always (same_counts kind)) ∙ ap (λ b. is_backend (sender_by b from)) e in cc))
      (line_step law.master (sender_of law.master from) line).outs (line_marks law.master (sender_of law.master from) line)
  frontend_marks e Up = All-nil NotAlways
  frontend_marks e End = All-nil NotAlways
  frontend_marks e (Ask ask) = All-nil NotAlways
  frontend_marks e (Answer answer) = All-nil NotAlways

  either_by : (backend : Bool) → list_any (pointwise nat_eq from) law.master.backends ≡ backend
      → (All NotAlways (marks_made (world.steps + 1) says.outs)) ⊎ ChangesSome config world next
  either_by false e = inl (frontend_marks e message)
  either_by true e =
      let node = has_home (home_at world from) (law.nodes.homes from ∙ e) in
      let one = takes_keeps_many murder law.given store from node.0 message rest law.many node.1 (ap (on_link world.links from) law.nodes.me ∙ first) in
      changes_by one.later one.hold one.does

  -- ---- and where it marks one that counts if its client is told, the table stays

  abbrev Stays : Mark → Type 0
  Stays made = made.kind ≡ Home IfAnswered → says.master.table ≡ law.master.table

  stays_by : (it : LinkMsg) → All (λ (made : Mark). made.kind ≡ Home IfAnswered → (node_says law.master from it).master.table ≡ law.master.table)
      (marks_made (world.steps + 1) (node_says law.master from it).outs)
  unfolding node_says
  stays_by (Line line) =
      marks_of_it (world.steps + 1)
      (λ (made : Mark). made.kind ≡ Home IfAnswered → (line_step law.master (sender_of law.master from) line).master.table ≡ law.master.table)
      (line_ask line) (TellsStep law.master (sender_of law.master from) line) (λ ask counts its so kind. so.seen (same_counts kind))
      (line_step law.master (sender_of law.master from) line).outs (line_marks law.master (sender_of law.master from) line)
  stays_by Up = All-nil _
  stays_by End = All-nil _
  stays_by (Ask ask) = All-nil _
  stays_by (Answer answer) = All-nil _

  deeds : MasterDeeds config world next
  deeds = record {
    new = marks_made (world.steps + 1) says.outs;
    parts = marks_are;
    each = λ k d h. record {
      always = λ kind. by k d h kind (either_by (list_any (pointwise nat_eq from) law.master.backends) refl);
      seen = λ kind. table_behind ∙ stays_by message k d h kind ∙ sym (table_is config heard world law);
    };
  }
    where
      by : (k : ℕ) (d : Mark) → k < length (marks_made (world.steps + 1) says.outs)
          → (get_or (marks_made (world.steps + 1) says.outs) k d).kind ≡ Home Always
          → (All NotAlways (marks_made (world.steps + 1) says.outs)) ⊎ ChangesSome config world next → ChangesSome config world next
      by k d h kind (inl none) = absurd (none k d h kind)
      by k d h kind (inr some) = some

pub master_deeds : (config : Config) (heard : ℕ → Heard) (world : World) → KeepsLaw config heard world → (from : List ℕ) (message : LinkMsg)
    (rest : List LinkMsg) → on_link world.links from (master_of config) ≡ message ∷ rest
    → MasterDeeds config world (steps_by world (Deliver from (master_of config)))
master_deeds config heard world law from message rest first = deeds config heard world law from message rest first

pub master_makes : (config : Config) (heard : ℕ → Heard) (world : World) → KeepsLaw config heard world → (from : List ℕ) (message : LinkMsg)
    (rest : List LinkMsg) → on_link world.links from (master_of config) ≡ message ∷ rest → (name : List ℕ)
    → DiffersAt config world (steps_by world (Deliver from (master_of config))) name
    → MakesIt world (steps_by world (Deliver from (master_of config))) message
master_makes config heard world law from message rest first name differs =
    makes_by config heard world law from message rest first name differs (list_any (pointwise nat_eq from) law.master.backends) refl
