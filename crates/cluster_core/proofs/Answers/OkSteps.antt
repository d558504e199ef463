-- A frontend takes the master's OK for which a command of an open connection waits.
use Rattle.std.proofs.Common.{◌≡◌, ◌≢◌, ℕ, ◌+◌, nat_eq, true, false, List, ◌∷◌, length, Option, Some, sym, ◌∙◌, ap, subst, arith}
use Rattle.std.specs.Cmp.Lexicographic.{pointwise}
use Rattle.std.proofs.lemmas.Cmp.{nat_list_eq_equiv}
use Rattle.ask_routes.specs.Barrier.{barrier_answered}
use Rattle.feed_links.specs.Replicas.{replica_of}
use Rattle.front_core.proofs.OneConnection.Places.{is_over}
use Rattle.front_core.specs.declared.connection.Connection.{Connection}
use Rattle.front_core.specs.declared.front.Front.{Front}
use Rattle.front_core.specs.Answered.{ok_comes}
use Rattle.front_core.specs.Ended.{released}
use Rattle.front_core.specs.Front.{connection_at, deliver, line_by, line_from, ok_at, ways_of, with_turned}
use Rattle.front_core.specs.Taken.{Turned}
use Rattle.imap_talk.specs.declared.inputs.Input.{Input}
use Rattle.link_msg.specs.declared.message.LinkMsg.{LinkMsg}
use Rattle.link_msg.specs.declared.message.LinkMsg.TheVariants.{Line}
use Rattle.link_queue.specs.Links.{on_link}
use Rattle.mark_history.specs.Marked.{Tale}
use Rattle.mur_base.specs.declared.point.AskId.{AskId}
use Rattle.mur_model.specs.declared.setting.Setting.{Setting}
use Rattle.node_step.specs.declared.input.NodeInput.TheVariants.{From}
use Rattle.node_record.specs.Table.{MailboxTable}
use Rattle.point_links.specs.Commands.{ClientCommand}
use Rattle.route_links.specs.Barriers.{Place as barrier}
use Rattle.cluster_core.specs.declared.world.World.{World}
use Rattle.cluster_core.specs.World.{home_at, taken_from_link}
use Rattle.cluster_core.proofs.Commands.Moving.{IsSeenBy}
use Rattle.cluster_core.proofs.Commands.Place.{Place, Place as place}
use Rattle.cluster_core.proofs.Commands.Standing.{Fixed, next_id}
use Rattle.cluster_core.proofs.Connections.ConnectionLaw.{IsInPlaceOf, IsMarkedAt, IsStanding}
use Rattle.cluster_core.proofs.Connections.KeepsFront.{world_after}
use Rattle.cluster_core.proofs.Connections.Nowhere.{nowhere_too}
use Rattle.cluster_core.proofs.Nodes.AllCome.{all_come, front_all_come}
use Rattle.cluster_core.proofs.Nodes.Comes.{with_front}
use Rattle.cluster_core.proofs.Places.FrontTakes.{takes_ok}
use Rattle.cluster_core.proofs.Places.FrontWorlds.{ok_stays}
use Rattle.cluster_core.proofs.Connections.FrameLaw.{ways_for}
use Rattle.cluster_core.proofs.Answers.Backends.{cleared_backend}
use Rattle.cluster_core.proofs.Answers.OkComes.{ok_turns}
use Rattle.cluster_core.proofs.Answers.GoesOn.{StandsSo}
use Rattle.cluster_core.proofs.Answers.ListOk.{listed_turns, lists_live}
use Rattle.cluster_core.proofs.Answers.OpenSteps.{OpenStep, WaitsThere, of_mailbox, of_names, stands_there, turned_step, waits_live}
use Rattle.cluster_core.proofs.Answers.Readers.{ok_reader}
use Rattle.cluster_core.proofs.Answers.Replied.{IsHeard, IsHeardFor}
use Rattle.cluster_core.proofs.Answers.Steps.{IsBefore, inputs_may_come, may_send}

-- ---- the frontend takes the OK of the command

module _ (fixed : Fixed) (node : List ℕ) (front : Front) (conn : ℕ) (connection : Connection) (bytes : List ℕ) (id : AskId)
    (setting_is : front.setting ≡ fixed.setting) (master_is : front.master ≡ fixed.master) (ways_is : ways_of front ≡ ways_for fixed front.ups front.replica)
    (has : connection_at front conn ≡ Some connection) (own : id.conn ≡ conn) (reads_so : barrier_answered bytes ≡ Some id) where
  pub delivers_ok : deliver front fixed.master (Line bytes)
      ≡ with_turned front conn (ok_comes fixed.setting (ways_for fixed front.ups front.replica) conn connection id)
  unfolding deliver line_from ok_at
  delivers_ok =
      let from_master : pointwise nat_eq fixed.master front.master ≡ true =
      ap (pointwise nat_eq fixed.master) master_is ∙ nat_list_eq_equiv.refl fixed.master in
      ap (λ b. line_from b front bytes) from_master ∙ ap (line_by front bytes) reads_so
      ∙ ap (ok_at front id) (ap (connection_at front) own ∙ has)
      ∙ ap (λ c. with_turned front c (ok_comes front.setting (ways_of front) c connection id)) own
      ∙ ap (λ (s : Setting). with_turned front conn (ok_comes s (ways_of front) conn connection id)) setting_is
      ∙ ap (λ ways. with_turned front conn (ok_comes fixed.setting ways conn connection id)) ways_is

module _ (fixed : Fixed) (world : World) (story : Tale) (node : List ℕ) (front : Front) (conn : ℕ) (inputs : List Input) (held : Option (List ℕ))
    (connection : Connection) (before : IsBefore fixed world story node front conn inputs connection)
    (standing : IsStanding fixed node front.replica conn inputs held connection world story) where
  not_nowhere : (table : MailboxTable) → place.is_barred (barrier.answered table) ≢ place.nowhere
  not_nowhere table e = cc

  ok_comes_so : (bytes : List ℕ) (turned : Turned) → deliver front fixed.master (Line bytes) ≡ with_turned front conn turned
      → all_come (taken_from_link world fixed.master node) node (From fixed.master (Line bytes))
      ≡ world_after (taken_from_link world fixed.master node) node front conn (released turned.connection) turned.outs
  ok_comes_so bytes turned is =
      front_all_come (taken_from_link world fixed.master node) node (From fixed.master (Line bytes)) front (before.at).at
      ∙ ap (with_front (taken_from_link world fixed.master node) node) is

  -- of what waits
  ok_by : (bytes : List ℕ) (id : AskId) (rest : List LinkMsg) → on_link world.links fixed.master node ≡ Line bytes ∷ rest
      → barrier_answered bytes ≡ Some id → id.conn ≡ conn → (table : MailboxTable)
      → IsInPlaceOf fixed (taken_from_link world fixed.master node) node front.replica (next_id conn (story.told conn)) place.nowhere
      → id ≡ next_id conn (story.told conn) → front.replica ≡ replica_of table
      → IsSeenBy story.talk.moving world.marks (next_id conn (story.told conn)) table
      → WaitsThere fixed node conn inputs held connection (story.told conn) (story.talk.answers conn) (story.course.sessions conn)
      (place.is_barred (barrier.answered table))
      → OpenStep fixed world story fixed.master node front conn inputs held connection
      (world_after (taken_from_link world fixed.master node) node front conn
      (released (ok_comes fixed.setting (ways_for fixed front.ups front.replica) conn connection id).connection)
      (ok_comes fixed.setting (ways_for fixed front.ups front.replica) conn connection id).outs)
  ok_by bytes id rest first reads_so own table over its has_all seen (of_mailbox waiting) =
      let here : Place = place.is_barred (barrier.answered table) in
      let base : World = taken_from_link world fixed.master node in
      let heard : IsHeard fixed node front.replica conn inputs held connection base story here =
      record { count = standing.count; client = standing.client; nothing = over; is_told = before.is_told; waiting = waiting } in
      let c : ClientCommand = waiting.c in
      turned_step fixed world story fixed.master node front conn inputs held connection before standing
      (ok_comes fixed.setting (ways_for fixed front.ups front.replica) conn connection id) (waits_live connection waiting.tag c.waiting waiting.stage)
      (subst (λ i. StandsSo fixed node front.replica conn inputs held base story (ok_comes fixed.setting (ways_for fixed front.ups front.replica) conn connection i))
      ((waiting.of).its ∙ sym its)
      (ok_turns fixed node front.ups front.replica conn inputs held connection base story table heard
      (inputs_may_come fixed world story node front conn inputs held connection before fixed.master)
      (may_send fixed world story node front conn inputs held connection before fixed.master (story.talk.answers conn) (story.course.sessions conn) here
      waiting)
      before.requests seen has_all
      (λ cause at. cleared_backend (home_at world) (front.replica).records (before.may).knows fixed.first (before.may).first fixed.master c.id c.was c.waiting
      cause at)))
      (ok_reader fixed.setting (ways_for fixed front.ups front.replica) conn connection id)
      (λ other ne. ok_stays fixed world node bytes id rest other (before.may).frontend first reads_so (λ e. ne (e ∙ own)))
  ok_by bytes id rest first reads_so own table over its has_all seen (of_names it) =
      let base : World = taken_from_link world fixed.master node in
      let heard : IsHeardFor fixed node front.replica conn inputs held connection base story it.tag it.it =
      record {
        count = standing.count;
        client = standing.client;
        nothing = nowhere_too fixed.master (home_at base) base.links node front.replica (next_id conn (story.told conn)) (length (story.told conn) + 1 + 1)
            (omega arith) over;
        is_told = before.is_told;
        next = it.next;
      } in
      turned_step fixed world story fixed.master node front conn inputs held connection before standing
      (ok_comes fixed.setting (ways_for fixed front.ups front.replica) conn connection id) (lists_live connection it.tag it.listing it.stage)
      (subst (λ i. StandsSo fixed node front.replica conn inputs held base story (ok_comes fixed.setting (ways_for fixed front.ups front.replica) conn connection i))
      (sym its)
      (listed_turns fixed node front.ups front.replica conn inputs held connection base story table it heard
      (inputs_may_come fixed world story node front conn inputs held connection before fixed.master) has_all))
      (ok_reader fixed.setting (ways_for fixed front.ups front.replica) conn connection id)
      (λ other ne. ok_stays fixed world node bytes id rest other (before.may).frontend first reads_so (λ e. ne (e ∙ own)))

  pub ok_step : (bytes : List ℕ) (id : AskId) (rest : List LinkMsg) → on_link world.links fixed.master node ≡ Line bytes ∷ rest
      → barrier_answered bytes ≡ Some id → id.conn ≡ conn → is_over (length (story.told conn) + 1) (Line bytes) ≡ false
      → OpenStep fixed world story fixed.master node front conn inputs held connection
      (all_come (taken_from_link world fixed.master node) node (From fixed.master (Line bytes)))
  ok_step bytes id rest first reads_so own on =
      let next : AskId = next_id conn (story.told conn) in
      let frontend = (before.may).frontend in
      let is = takes_ok fixed.master (home_at world) world.links node bytes id rest node front.replica next standing.here frontend first reads_so own
      on standing.placed in
      let here : Place = place.is_barred (barrier.answered is.table) in
      let turned : Turned = ok_comes fixed.setting (ways_for fixed front.ups front.replica) conn connection id in
      subst (λ w. OpenStep fixed world story fixed.master node front conn inputs held connection w)
      (sym (ok_comes_so bytes turned (delivers_ok fixed node front conn connection bytes id before.setting_is before.master_is before.ways_is (before.at).has own
      reads_so)))
      (ok_by bytes id rest first reads_so own is.table is.over is.own is.has_all
      (subst (IsMarkedAt story.talk.moving world.marks next) is.here_is standing.marked)
      (stands_there fixed world story fixed.master node front conn inputs held connection before standing here (not_nowhere is.table) is.here_is))
