-- The master's last serial is at most how many lines RESERVE it has taken: only such a line makes it rise, and by one.
use Rattle.std.proofs.Common.{◌≡◌, ◌≢◌, ℕ, ◌+◌, ◌≤◌, Bool, true, false, ◌&&◌, not, cond, List, [], ◌∷◌, Option, None, Some, refl, sym, ◌∙◌, ap, subst, arith}
use Rattle.std.specs.Cmp.Lexicographic.{slice_cmp}
use Rattle.std.specs.Ordering.{nat_cmp}
use Rattle.std.proofs.Math.Logic.{⊎_elim}
use Rattle.std.proofs.lemmas.List.Elements.{All-weaker}
use Rattle.std.specs.Prelude.{All}
use Rattle.cluster_core.specs.Headline.Outside.{is_master, table_by, at_master, by_delivery, happening_of, table_at}
use Rattle.cluster_core.specs.World.{master_of, comes, deliver_first, front_at, home_at, master_at, may_cut, may_join, node_at, start, stepped, steps_by, taken_from_link, takes}
use Rattle.guest_links.specs.Happenings.{Happening, change_of, connects, leaves, says, sends, step_of}
use Rattle.guest_links.proofs.ServedLaw.{changes_are_of_the_table}
use Rattle.link_msg.specs.declared.message.LinkMsg.{LinkMsg}
use Rattle.link_msg.specs.declared.message.LinkMsg.TheVariants.{Up, End, Line, Ask, Answer}
use Rattle.link_queue.specs.Links.{on_link}
use Rattle.master_core.specs.declared.master.Master.{Master}
use Rattle.master_core.specs.declared.refusal.Refusal.{Refusal}
use Rattle.master_core.specs.declared.sender.Sender.{Sender}
use Rattle.master_core.specs.declared.streams.StreamStep.{StreamStep}
use Rattle.master_core.specs.declared.streams.StreamStep.TheVariants as stream
use Rattle.master_core.specs.Linked.{sender_of}
use Rattle.master_core.specs.Refusals.{activate_refusal, deactivate_refusal, delete_refusal, reserve_refusal}
use Rattle.master_core.specs.Replies.{activate_by, activate_reply, bad_reply, deactivate_by, deactivate_reply, delete_by, delete_reply, find_reply, list_reply, logout_reply, noop_reply, reply_to, reserve_by, reserve_reply, update_reply}
use Rattle.master_core.specs.Step.{Planned, bad_step, command_step, line_by, line_step, replied, settled, table_with}
use Rattle.master_core.specs.Streams.{is_stream, may_follow_update, stream_step}
use Rattle.mupdate_codec.specs.declared.command.MCommand.{MCommand}
use Rattle.mupdate_codec.specs.declared.command.MCommand.TheVariants as command
use Rattle.mupdate_codec.specs.declared.tag.Tag.{Tag}
use Rattle.mupdate_codec.specs.Whole.{command_in}
use Rattle.mur_base.specs.Map.{value_at}
use Rattle.mur_base.proofs.MapLaws.{names_apart, same_or_other}
use Rattle.mur_base.specs.declared.home.Location.{Location}
use Rattle.mur_config.specs.declared.config.Config.{Config}
use Rattle.mur_config.specs.Nodes.{AreNodes}
use Rattle.mur_model.specs.declared.store.Pair.{Pair}
use Rattle.node_step.specs.declared.input.NodeInput.{NodeInput}
use Rattle.node_step.specs.declared.input.NodeInput.TheVariants.{From}
use Rattle.node_step.specs.declared.node.NodeState.{NodeState}
use Rattle.node_step.specs.declared.node.NodeState.TheVariants as state
use Rattle.node_step.specs.NodeStep.{as_back, as_front, as_master}
use Rattle.node_step.proofs.NodeKinds.{a_back, a_front}
use Rattle.node_record.specs.declared.master.MasterRecord.{MasterRecord}
use Rattle.node_record.specs.Table.{MailboxTable, record_at}
use Rattle.store_links.proofs.GivenLaw.{given_are_low}
use Rattle.schedule_text.specs.declared.event.Event.{Event}
use Rattle.schedule_text.specs.declared.event.Event.TheVariants.{Open, Data, Hang, Deliver, Cut, Join, Crash, Arm, Start, Flow, Heal}
use Rattle.cluster_core.specs.declared.world.World.{World}
use Rattle.cluster_core.specs.Flow.{run_steps}
use Rattle.cluster_core.specs.Headline.Serials.{is_reserve, last_serial, reserves_from, reserves_in, reserves_taken}
use Rattle.cluster_core.proofs.Starts.Ups.{one_if}
use Rattle.cluster_core.proofs.Guests.AtMaster.{comes_so, happening_by}
use Rattle.cluster_core.proofs.Guests.TablesStay.{step_tables}
use Rattle.cluster_core.proofs.Nodes.AllCome.{all_come, front_all_come, home_all_come, none_all_come}
use Rattle.cluster_core.proofs.Nodes.Comes.{a_master, front_does, front_moved, home_does, home_moved, master_moved, wrote}
use Rattle.cluster_core.proofs.Nodes.Relinks.{OnlyRelinks, cut_relinks, join_relinks}
use Rattle.cluster_core.proofs.Nodes.Then.{looks_then}
use Rattle.cluster_core.proofs.OneServer.EachStep.{LawBehind}
use Rattle.cluster_core.proofs.Starts.Kinds.{master_named}
use Rattle.cluster_core.proofs.Starts.StartLaw.{start_table}

-- ---- a step of the master

module _ (table : MailboxTable) where
  abbrev then : Option MasterRecord → ℕ
  then change = (table_with table change).serial

  by_reserve : (name : List ℕ) (place : Location) (refusal : Option Refusal) → then (reserve_by table name place refusal).entry ≤ table.serial + 1
  by_reserve name place (Some why) = omega arith
  by_reserve name place None = omega arith

  by_activate : (from : Sender) (name : List ℕ) (place : Location) (acl : List ℕ) (refusal : Option Refusal)
      → then (activate_by from name place acl refusal).entry ≤ table.serial + 0
  by_activate from name place acl (Some why) = omega arith
  by_activate from name place acl None = omega arith

  by_deactivate : (name : List ℕ) (place : Location) (refusal : Option Refusal) → then (deactivate_by name place refusal).entry ≤ table.serial + 0
  by_deactivate name place (Some why) = omega arith
  by_deactivate name place None = omega arith

  by_delete : (name : List ℕ) (refusal : Option Refusal) → then (delete_by name refusal).entry ≤ table.serial + 0
  by_delete name (Some why) = omega arith
  by_delete name None = omega arith

  reply_rises : (from : Sender) (tag : Tag) (it : MCommand) → then (reply_to table from it).entry ≤ table.serial + one_if (is_reserve (Some (tag, it)))
  unfolding reply_to reserve_reply activate_reply deactivate_reply delete_reply find_reply list_reply update_reply noop_reply logout_reply
  reply_rises from tag (command.Reserve name place) = by_reserve name place (reserve_refusal table from (record_at table name) place)
  reply_rises from tag (command.Activate name place acl) = by_activate from name place acl (activate_refusal table from (record_at table name) place)
  reply_rises from tag (command.Deactivate name place) = by_deactivate name place (deactivate_refusal from (record_at table name) place)
  reply_rises from tag (command.Delete name) = by_delete name (delete_refusal from (record_at table name))
  reply_rises from tag (command.Find name) = omega arith
  reply_rises from tag (command.List prefix) = omega arith
  reply_rises from tag command.Update = omega arith
  reply_rises from tag command.Noop = omega arith
  reply_rises from tag command.Logout = omega arith

pub settled_entry : (planned : Planned) (from : Sender) (tag : Tag) (step : StreamStep) → (settled planned from tag step).entry ≡ planned.entry
unfolding settled
settled_entry planned from tag stream.Stays = refl
settled_entry planned from tag stream.Begins = refl
settled_entry planned from tag stream.Ends = refl

module _ (master : Master) (from : Sender) where
  abbrev serial_then : Option MasterRecord → ℕ
  serial_then change = (table_with master.table change).serial

  by_reply : (tag : Tag) (it : MCommand) → serial_then (replied master from tag (reply_to master.table from it)).entry
      ≤ master.table.serial + one_if (is_reserve (Some (tag, it)))
  unfolding replied
  by_reply tag it = reply_rises master.table from tag it

  by_stream : (tag : Tag) (it : MCommand) (bad : Bool)
      → serial_then (cond bad (bad_step master from tag) (settled (replied master from tag (reply_to master.table from it)) from tag (stream_step it))).entry
      ≤ master.table.serial + one_if (is_reserve (Some (tag, it)))
  unfolding bad_step replied bad_reply
  by_stream tag it true = omega arith
  by_stream tag it false =
      subst (λ e. serial_then e ≤ master.table.serial + one_if (is_reserve (Some (tag, it))))
      (sym (settled_entry (replied master from tag (reply_to master.table from it)) from tag (stream_step it))) (by_reply tag it)

  by_command : (line : List ℕ) (found : Option (Tag × MCommand))
      → serial_then (line_by master from line found).entry ≤ master.table.serial + one_if (is_reserve found)
  unfolding line_by command_step bad_step replied bad_reply
  by_command line None = omega arith
  by_command line (Some (tag, it)) = by_stream tag it (is_stream master from && not (may_follow_update it))

  line_rises : (line : List ℕ) → serial_then (line_step master from line).entry ≤ master.table.serial + one_if (is_reserve (command_in line))
  unfolding line_step
  line_rises line = by_command line (command_in line)

change_rises : (master : Master) (happening : Happening)
    → (table_with master.table (change_of master happening)).serial ≤ master.table.serial + reserves_in (Some happening)
change_rises master (connects conn) = omega arith
change_rises master (says conn bytes) = omega arith
change_rises master (leaves conn) = omega arith
change_rises master (sends node (Line bytes)) = line_rises master (sender_of master node) bytes
change_rises master (sends node Up) = omega arith
change_rises master (sends node End) = omega arith
change_rises master (sends node (Ask ask)) = omega arith
change_rises master (sends node (Answer answer)) = omega arith

pub step_rises : (master : Master) (happening : Happening)
    → (step_of master happening).master.table.serial ≤ master.table.serial + reserves_in (Some happening)
step_rises master happening =
    subst (λ (t : MailboxTable). t.serial ≤ master.table.serial + reserves_in (Some happening)) (sym (changes_are_of_the_table master happening))
    (change_rises master happening)

-- ---- a step of the world

module _ (config : Config) (here : is_master config (master_of config) ≡ true) where
  abbrev Rises : World → World → Option Happening → Type 0
  Rises world next happening = last_serial config next ≤ last_serial config world + reserves_in happening

  same_rises : (world next : World) (happening : Option Happening) → table_at next (master_of config) ≡ table_at world (master_of config)
      → Rises world next happening
  same_rises world next happening same = omega (arith, ap (λ (t : MailboxTable). t.serial) same)

  -- where nothing is lost
  at_it : (world : World) (node : List ℕ) (input : NodeInput) (master : Master) → master_at world node ≡ Some master
      → node ≡ master_of config → Rises world (all_come world node input) (at_master config node (happening_by input))
  at_it world node input master there e =
      let acted = step_of master (happening_by input) in
      let at : table_at world (master_of config) ≡ master.table = ap table_by (ap (master_at world) (sym e) ∙ there) in
      let now : table_at (all_come world node input) (master_of config) ≡ acted.master.table =
      ap (λ n. table_at (all_come world node input) n) (sym e) ∙ ap (λ (w : World). table_at w node) (comes_so world node input master there)
      ∙ ap table_by (master_moved (wrote world node (state.Master master) input) node master acted there).own in
      let happens : at_master config node (happening_by input) ≡ Some (happening_by input) =
      ap (λ b. cond b (Some (happening_by input)) None) (ap (is_master config) e ∙ here) in
      subst (λ h. Rises world (all_come world node input) h) (sym happens)
      (omega (arith, step_rises master (happening_by input), ap (λ (t : MailboxTable). t.serial) at, ap (λ (t : MailboxTable). t.serial) now))

  all_by : (world : World) (node : List ℕ) (input : NodeInput) (found : Option NodeState) → node_at world node ≡ found
      → Rises world (all_come world node input) (at_master config node (happening_by input))
  all_by world node input None found =
      same_rises world (all_come world node input) _ (ap (λ (w : World). table_at w (master_of config)) (none_all_come world node input found))
  all_by world node input (Some (state.Front front)) found =
      let there : front_at world node ≡ Some front = ap as_front found ∙ a_front front in
      same_rises world (all_come world node input) _ (ap (λ (w : World). table_at w (master_of config)) (front_all_come world node input front there)
      ∙ ap table_by ((front_moved world node front (front_does front input) there).masters (master_of config)))
  all_by world node input (Some (state.Back home)) found =
      let there : home_at world node ≡ Some home = ap as_back found ∙ a_back home in
      same_rises world (all_come world node input) _ (ap (λ (w : World). table_at w (master_of config)) (home_all_come world node input home there)
      ∙ ap table_by ((home_moved (wrote world node (state.Back home) input) node home (home_does home input) there).masters (master_of config)))
  all_by world node input (Some (state.Master master)) found =
      let there : master_at world node ≡ Some master = ap as_master found ∙ a_master master in
      ⊎_elim
      (λ (e : node ≡ master_of config). at_it world node input master there e)
      (λ (ne : node ≢ master_of config).
      same_rises world (all_come world node input) _ (ap (λ (w : World). table_at w (master_of config)) (comes_so world node input master there)
      ∙ ap table_by ((master_moved (wrote world node (state.Master master) input) node master (step_of master (happening_by input)) there).masters
      (master_of config) (λ e. ne (sym e)))))
      (same_or_other (slice_cmp nat_cmp) names_apart node (master_of config))

  comes_rises : (world : World) (node : List ℕ) (input : NodeInput) → Rises world (comes world node input) (at_master config node (happening_by input))
  comes_rises world node input =
      omega (
        arith,
        all_by world node input (node_at world node) refl,
        ap (λ (t : MailboxTable). t.serial) (looks_then world node input (λ n. table_by (as_master n)) (master_of config)),
      )

  deliver_rises : (world : World) (from to : List ℕ) (queue : List LinkMsg)
      → Rises world (deliver_first world from to queue) (by_delivery config from to queue)
  unfolding deliver_first
  deliver_rises world from to [] = omega arith
  deliver_rises world from to (message ∷ rest) = comes_rises (taken_from_link world from to) to (From from message)

  -- a link that breaks or comes up is nothing to the table
  relink_rises : (world next : World) → OnlyRelinks world next → Rises world next None
  relink_rises world next is = same_rises world next None (ap (λ n. table_by (as_master (value_at (slice_cmp nat_cmp) n (master_of config)))) is.nodes)

  event_rises : (world : World) (event : Event) → Rises world (steps_by world event) (happening_of config world event)
  unfolding takes happening_of
  event_rises world (Open node conn) =
      same_rises world (steps_by world (Open node conn)) (happening_of config world (Open node conn))
      (step_tables world (Open node conn) refl (master_of config))
  event_rises world (Data conn bytes) =
      same_rises world (steps_by world (Data conn bytes)) (happening_of config world (Data conn bytes))
      (step_tables world (Data conn bytes) refl (master_of config))
  event_rises world (Hang conn) =
      same_rises world (steps_by world (Hang conn)) (happening_of config world (Hang conn))
      (step_tables world (Hang conn) refl (master_of config))
  event_rises world (Deliver from to) = deliver_rises (stepped world) from to (on_link world.links from to)
  event_rises world (Cut one other kept left) =
      relink_rises (stepped world) (steps_by world (Cut one other kept left))
      (cut_relinks (may_cut (stepped world) one other) (stepped world) one other kept left)
  event_rises world (Join one other) =
      relink_rises (stepped world) (steps_by world (Join one other)) (join_relinks (may_join (stepped world) one other) (stepped world) one other)
  event_rises world (Crash node image kept) = omega arith
  event_rises world (Arm node call image kept) = omega arith
  event_rises world (Start node) = omega arith
  event_rises world (Flow n) = omega arith
  event_rises world Heal = omega arith

  steps_rise : (world : World) (steps : List Event)
      → last_serial config (run_steps world steps) ≤ last_serial config world + reserves_from config world steps
  unfolding run_steps reserves_from
  steps_rise world [] = omega arith
  steps_rise world (event ∷ steps) = omega (arith, event_rises world event, steps_rise (steps_by world event) steps)

-- behind all steps of a run
pub serial_is_low : (config : Config) → AreNodes config.nodes → (steps : List Event)
    → (table_at (run_steps (start config) steps) (master_of config)).serial ≤ reserves_taken config steps
serial_is_low config are steps =
    omega (
      arith,
      ap (λ (t : MailboxTable). t.serial) (start_table config are),
      steps_rise config (master_named config.nodes are.names (omega (arith, are.master))) (start config) steps,
    )

-- and so is each UIDVALIDITY that the store has given
pub serials_are_low : (config : Config) → AreNodes config.nodes → (steps : List Event) → (law : LawBehind config steps)
    → All (λ (pair : Pair). pair.serial ≤ reserves_taken config steps) law.story.course.store.given
serials_are_low config are steps law =
    let is : last_serial config (run_steps (start config) steps) ≡ law.master.table.serial =
    ap (λ (m : Option Master). (table_by m).serial) law.nodes.is_there in
    All-weaker (λ (pair : Pair). pair.serial ≤ law.master.table.serial) (λ (pair : Pair). pair.serial ≤ reserves_taken config steps)
    (λ pair low. omega (arith, low, is, serial_is_low config are steps)) law.story.course.store.given
    (given_are_low law.master.table law.story.course.store law.given law.many.gave law.many.serials)
