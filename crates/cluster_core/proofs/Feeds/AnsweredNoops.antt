-- What a frontend sends the master as it takes an answer of a backend, or the master's OK, are NOOPs.
use Rattle.std.proofs.Common.{◌≡◌, ◌≢◌, inl, inr, ℕ, ◌+◌, ◌<◌, ◌^◌, ◌==◌, Bool, true, false, List, [], length, Option, None, Some, refl, ap, arith}
use Rattle.ask_routes.specs.declared.ask_for.AskFor.{AskFor}
use Rattle.ask_routes.specs.declared.ask_for.AskFor.TheVariants as about
use Rattle.ask_routes.specs.declared.next.Next.{Next}
use Rattle.ask_routes.specs.declared.next.Next.TheVariants as next
use Rattle.ask_routes.specs.declared.next.Why.{Why}
use Rattle.ask_routes.specs.declared.next.Why.TheVariants as why
use Rattle.ask_routes.specs.Ways.{ask_for, behind_ok, behind_record, behind_reserved, create_behind, mailbox_behind}
use Rattle.asking_core.specs.Begins.{Begun}
use Rattle.asking_core.specs.Answered.{WentOn, answered, goes_on, needs_by, told_by}
use Rattle.asking_core.specs.Cleared.{cleared}
use Rattle.asking_core.specs.declared.then.Then.{Then}
use Rattle.asking_core.specs.declared.then.Then.TheVariants as then
use Rattle.asking_core.specs.declared.waiting.At.{At}
use Rattle.asking_core.specs.declared.waiting.At.TheVariants.{Home, Barrier}
use Rattle.asking_core.specs.declared.waiting.Sent.{Sent}
use Rattle.asking_core.specs.declared.waiting.Waiting.{Waiting}
use Rattle.feed_core.specs.declared.rec.Rec.{Rec}
use Rattle.feed_core.specs.declared.rec.Rec.TheVariants.{Active, Reserved as reserved_rec}
use Rattle.feed_core.specs.Feed.{rec_at}
use Rattle.feed_core.specs.Routes.{server_by}
use Rattle.feed_links.proofs.FeedLaw.{both}
use Rattle.front_core.specs.declared.connection.Connection.{Connection}
use Rattle.front_core.specs.declared.connection.Stage.{Stage}
use Rattle.front_core.specs.declared.connection.Stage.TheVariants.{Reading, Waits, Lists, Ended}
use Rattle.front_core.specs.Answered.{answer_by, answer_comes, by_then, clears_at, goes_on_by, need_behind, ok_by, ok_comes, reading_again, refused_behind, sends_if}
use Rattle.front_core.specs.Answered.{waiting_come}
use Rattle.front_core.specs.Taken.{Turned, Ways, asks, begins_if, inputs_come, lists_if, next_of, told_now}
use Rattle.front_core.specs.Ups.{is_up}
use Rattle.imap_types.specs.declared.command.Tag.{Tag}
use Rattle.link_msg.specs.declared.answer.AnswerBody.{AnswerBody}
use Rattle.link_msg.specs.declared.answer.AnswerBody.TheVariants as answer
use Rattle.link_msg.specs.declared.answer.BackAnswer.{BackAnswer}
use Rattle.link_msg.specs.declared.how.How.{How}
use Rattle.link_msg.specs.declared.how.How.TheVariants.{Behind}
use Rattle.link_msg.specs.declared.out.Out.TheVariants.{Link as to_node}
use Rattle.mur_base.specs.declared.point.AskId.{AskId}
use Rattle.mur_base.specs.declared.point.What.TheVariants.{Unreached as unreached}
use Rattle.mur_model.specs.declared.commands.list.Listing.{Listing}
use Rattle.mur_model.specs.declared.need.Need.{Need}
use Rattle.mur_model.specs.declared.need.Need.TheVariants as needs
use Rattle.mur_model.specs.declared.session.Sess.{Sess}
use Rattle.mur_model.specs.declared.setting.Setting.{Setting}
use Rattle.route_links.specs.Answered.{IsNumbered}
use Rattle.route_links.proofs.Tags.{is_noop}
use Rattle.session_core.specs.Finish.{finish}
use Rattle.session_core.specs.Relocated.{Refused, relocated}
use Rattle.session_core.specs.declared.result.OpResult.TheVariants.{Missing}
use Rattle.cluster_core.proofs.Feeds.Noops.{AreApart, AreWellSent, IsWellSent, asks_well, begun_for, inputs_well, lists_well}

-- what was decided asks no master for mail
abbrev pub IsWellNext : List ℕ → Next → Type 0
IsWellNext master (next.Ask server) = server ≢ master
IsWellNext master it = Unit {0}

abbrev IsWellThen : List ℕ → Then → Type 0
IsWellThen master (then.Sends sent) = IsWellSent master (to_node sent.to sent.message)
IsWellThen master it = Unit {0}

needs_well : (master : List ℕ) (need : Option Need) → IsWellThen master (needs_by need)
needs_well master None = tt
needs_well master (Some need) = tt

next_well : (master : List ℕ) (id : AskId) (session : Sess) (it : Waiting) (decided : Next) → IsNumbered id → IsWellNext master decided
    → IsWellThen master (goes_on master id session it decided).then
next_well master id session it (next.Ask server) numbered well = inl well
next_well master id session it (next.Barrier cause) numbered well = inr (is_noop id numbered)
next_well master id session it next.Missing numbered well = needs_well master (finish session it.asking.awaited Missing).need
next_well master id session it next.Refused numbered well = tt

told_well : (master : List ℕ) (session : Sess) (it : Waiting) (body : AnswerBody) → IsWellThen master (told_by session it body).then
told_well master session it (answer.Done outcome seen) = needs_well master _
told_well master session it (answer.Unreached node) = tt
told_well master session it answer.Lost = tt
told_well master session it answer.NotNow = tt
told_well master session it (answer.Moved server) = tt

-- an answer that tells of no server, or of another than the master
abbrev pub IsWellAnswer : List ℕ → AnswerBody → Type 0
IsWellAnswer master (answer.Moved server) = server ≢ master
IsWellAnswer master body = Unit {0}

answered_well : (master : List ℕ) (id : AskId) (session : Sess) (it : Waiting) (body : AnswerBody) → IsNumbered id → IsWellAnswer master body
    → IsWellThen master (answered master id session it body).then
unfolding answered
answered_well master id session it (answer.Moved server) numbered well = inl well
answered_well master id session it answer.NotNow numbered well = inr (is_noop id numbered)
answered_well master id session it (answer.Done outcome seen) numbered well = told_well master session it (answer.Done outcome seen)
answered_well master id session it (answer.Unreached node) numbered well = tt
answered_well master id session it answer.Lost numbered well = tt

-- where a command waits, there are numbers left for the inputs behind it
abbrev pub HasRoomAt : Connection → Stage → Type 0
HasRoomAt connection (Waits tag it) = connection.answered + 1 + length connection.waiting < 2 ^ 64
HasRoomAt connection (Lists tag it) = connection.answered + 1 + length connection.waiting < 2 ^ 64
HasRoomAt connection stage = Unit {0}

module _ (setting : Setting) (ways : Ways) (apart : AreApart ways) (conn : ℕ) (fits : conn < 2 ^ 64) where
  reserved_well : (server : List ℕ) (cause : Why) → server ≢ ways.master → IsWellNext ways.master (behind_reserved server cause)
  reserved_well server why.NotNow ne = tt
  reserved_well server why.Missing ne = ne

  record_well : (name : List ℕ) (cause : Why) (found : Rec) → rec_at ways.recs name ≡ Some found → IsWellNext ways.master (behind_record cause found)
  record_well name cause (Active place acl) at = apart.named name place.server (ap server_by at)
  record_well name cause (reserved_rec place acl) at = reserved_well place.server cause (apart.named name place.server (ap server_by at))

  mailbox_well : (name : List ℕ) (cause : Why) (found : Option Rec) → rec_at ways.recs name ≡ found → IsWellNext ways.master (mailbox_behind cause found)
  mailbox_well name cause None at = tt
  mailbox_well name cause (Some found) at = record_well name cause found at

  create_well : (name : List ℕ) (cause : Why) (found : Option Rec) → rec_at ways.recs name ≡ found
      → IsWellNext ways.master (create_behind ways.recs ways.first name cause found)
  create_well name cause None at = apart.made name
  create_well name cause (Some found) at = record_well name cause found at

  ok_next_well : (asks_for : AskFor) (cause : Why) → IsWellNext ways.master (behind_ok ways.recs ways.first asks_for cause)
  ok_next_well (about.Mailbox name) cause = mailbox_well name cause (rec_at ways.recs name) refl
  ok_next_well (about.Create name) cause = create_well name cause (rec_at ways.recs name) refl

  cleared_well : (id : AskId) (session : Sess) (it : Waiting) (cause : Why) → IsNumbered id
      → IsWellThen ways.master (cleared ways.recs ways.master ways.first id session it cause).then
  unfolding cleared
  cleared_well id session it cause numbered =
      next_well ways.master id session it (behind_ok ways.recs ways.first (ask_for it.name it.asking.op) cause) numbered (ok_next_well (ask_for it.name it.asking.op) cause)

  -- there are numbers left for the inputs that wait
  abbrev pub HasRoomBehind : Connection → Type 0
  HasRoomBehind connection = connection.answered + 1 + length connection.waiting < 2 ^ 64

  -- the inputs that wait come behind what was let out
  follow_well : (turned : Turned) → AreWellSent ways.master turned.outs → turned.connection.answered + length turned.connection.waiting < 2 ^ 64
      → AreWellSent ways.master (waiting_come setting ways conn turned).outs
  follow_well turned well room =
      let free : Connection = record turned.connection { waiting = [] } in
      both (IsWellSent ways.master) turned.outs (inputs_come setting ways conn free turned.connection.waiting).outs well
      (inputs_well setting ways apart conn fits free turned.connection.waiting room)

  begins_room : (up : Bool) (connection : Connection) (tag : Tag) (begun : Begun) → HasRoomBehind connection
      → (let next = (begins_if up conn (record connection { stage = Reading }) tag begun).connection in next.answered + length next.waiting < 2 ^ 64)
  unfolding told_now
  begins_room true connection tag begun room = omega (arith, room)
  begins_room false connection tag begun room = omega (arith, room)

  lists_room : (up : Bool) (connection : Connection) (tag : Tag) (it : Listing) → HasRoomBehind connection
      → (let next = (lists_if up ways.master conn (record connection { stage = Reading }) tag it).connection in next.answered + length next.waiting < 2 ^ 64)
  unfolding told_now
  lists_room true connection tag it room = omega (arith, room)
  lists_room false connection tag it room = omega (arith, room)

  behind_well : (connection : Connection) (tag : Tag) (how : How) (need : Need) → HasRoomBehind connection
      → AreWellSent ways.master (need_behind setting ways conn connection tag how need).outs
  behind_well connection tag how (needs.Reply reply) room =
      (tt, (tt, inputs_well setting ways apart conn fits (reading_again connection) connection.waiting (omega (arith, room))))
  behind_well connection tag how (needs.Leave reply) room = (tt, (tt, (tt, tt)))
  behind_well connection tag how (needs.Home name asking) room =
      let reads : Connection = record connection { stage = Reading } in
      let begun : Begun = begun_for setting ways apart conn fits reads name asking in
      follow_well (asks ways conn reads tag name asking) (asks_well setting ways apart conn fits reads tag name asking (omega (arith, room))).outs
      (begins_room (is_up ways.ups begun.sent.to) connection tag begun room)
  behind_well connection tag how (needs.Names it) room =
      let reads : Connection = record connection { stage = Reading } in
      let up : Bool = is_up ways.ups ways.master in
      follow_well (lists_if up ways.master conn reads tag it) (lists_well setting ways apart conn fits up reads tag it (omega (arith, room))).outs
      (lists_room up connection tag it room)

  -- the client is given the refusal, and the inputs that waited come
  refused_well : (connection : Connection) (tag : Tag) (refused : Refused) (node : List ℕ) → HasRoomBehind connection
      → AreWellSent ways.master (refused_behind setting ways conn connection tag refused node).outs
  refused_well connection tag refused node room = (
    tt,
    (
      tt,
      inputs_well setting ways apart conn fits (reading_again (record connection { session = refused.session })) connection.waiting
          (omega (arith, room)),
    ),
  )

  sends_well : (up : Bool) (connection : Connection) (tag : Tag) (it : Waiting) (sent : Sent) → HasRoomBehind connection
      → IsWellSent ways.master (to_node sent.to sent.message) → AreWellSent ways.master (sends_if up setting ways conn connection tag it sent).outs
  sends_well true connection tag it sent room well = (well, tt)
  sends_well false connection tag it sent room well =
      refused_well connection tag (relocated connection.session it.asking.awaited (unreached sent.to)) sent.to room

  then_well : (connection : Connection) (tag : Tag) (it : Waiting) (what : Then) → HasRoomBehind connection → IsWellThen ways.master what
      → AreWellSent ways.master (by_then setting ways conn connection tag it what).outs
  then_well connection tag it (then.Sends sent) room well = sends_well (is_up ways.ups sent.to) connection tag it sent room well
  then_well connection tag it (then.Needs need) room well = behind_well connection tag Behind need room
  then_well connection tag it (then.Refused cause reply) room well =
      (tt, (tt, inputs_well setting ways apart conn fits (reading_again connection) connection.waiting (omega (arith, room))))
  then_well connection tag it then.Lost room well = (tt, (tt, tt))
  then_well connection tag it then.Stays room well = tt

  went_well : (connection : Connection) (tag : Tag) (went : WentOn) → HasRoomBehind connection → IsWellThen ways.master went.then
      → AreWellSent ways.master (goes_on_by setting ways conn connection tag went).outs
  went_well connection tag went room well = then_well (record connection { session = went.session }) tag went.waiting went.then room well

  numbered_here : (connection : Connection) → HasRoomBehind connection → IsNumbered (next_of conn connection)
  numbered_here connection room = (fits, omega (arith, room))

  answer_stage_well : (connection : Connection) (it : BackAnswer) (same : Bool) (stage : Stage) → HasRoomAt connection stage → IsWellAnswer ways.master it.body
      → AreWellSent ways.master (answer_by setting ways conn connection it same stage).outs
  unfolding answer_by
  answer_stage_well connection it true (Waits tag waiting) room well =
      went_well connection tag (answered ways.master (next_of conn connection) connection.session waiting it.body) room
      (answered_well ways.master (next_of conn connection) connection.session waiting it.body (numbered_here connection room) well)
  answer_stage_well connection it true (Lists tag listing) room well = tt
  answer_stage_well connection it true Reading room well = tt
  answer_stage_well connection it true Ended room well = tt
  answer_stage_well connection it false stage room well = tt

  pub answer_well : (connection : Connection) (it : BackAnswer) → HasRoomAt connection connection.stage → IsWellAnswer ways.master it.body
      → AreWellSent ways.master (answer_comes setting ways conn connection it).outs
  unfolding answer_comes
  answer_well connection it room well = answer_stage_well connection it ((it.id).command == connection.answered + 1) connection.stage room well

  clears_well : (connection : Connection) (tag : Tag) (it : Waiting) (at : At) → HasRoomBehind connection
      → AreWellSent ways.master (clears_at setting ways conn connection tag it at).outs
  clears_well connection tag it (Home server) room = tt
  clears_well connection tag it (Barrier cause) room =
      went_well connection tag (cleared ways.recs ways.master ways.first (next_of conn connection) connection.session it cause) room
      (cleared_well (next_of conn connection) connection.session it cause (numbered_here connection room))

  ok_stage_well : (connection : Connection) (same : Bool) (stage : Stage) → HasRoomAt connection stage
      → AreWellSent ways.master (ok_by setting ways conn connection same stage).outs
  unfolding ok_by
  ok_stage_well connection true (Waits tag it) room = clears_well connection tag it it.at room
  ok_stage_well connection true (Lists tag it) room =
      (tt, (tt, inputs_well setting ways apart conn fits (reading_again connection) connection.waiting (omega (arith, room))))
  ok_stage_well connection true Reading room = tt
  ok_stage_well connection true Ended room = tt
  ok_stage_well connection false stage room = tt

  pub ok_well : (connection : Connection) (id : AskId) → HasRoomAt connection connection.stage → AreWellSent ways.master (ok_comes setting ways conn connection id).outs
  unfolding ok_comes
  ok_well connection id room = ok_stage_well connection (id.command == connection.answered + 1) connection.stage room
