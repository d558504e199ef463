-- What comes of an answer, of the master's OK, or of the end of a link, leaves the reader of its connection as it was.
use Rattle.std.proofs.Common.{◌≡◌, ℕ, Bool, true, false, List, [], refl, ◌∙◌}
use Rattle.asking_core.specs.Begins.{Begun, first_sent}
use Rattle.asking_core.specs.declared.then.Then.{Then}
use Rattle.asking_core.specs.declared.then.Then.TheVariants as then
use Rattle.asking_core.specs.declared.waiting.At.{At}
use Rattle.asking_core.specs.declared.waiting.At.TheVariants.{Home, Barrier}
use Rattle.asking_core.specs.declared.waiting.Sent.{Sent}
use Rattle.asking_core.specs.declared.waiting.Waiting.{Waiting}
use Rattle.front_core.specs.declared.connection.Connection.{Connection}
use Rattle.front_core.specs.declared.connection.Stage.{Stage}
use Rattle.front_core.specs.declared.connection.Stage.TheVariants.{Reading, Waits, Lists, Ended}
use Rattle.front_core.specs.Answered.{answer_by, answer_comes, by_then, clears_at, end_by, end_comes, ends_at, need_behind, ok_by, ok_comes, reading_again, refused_behind, sends_if}
use Rattle.front_core.specs.Answered.{waiting_come}
use Rattle.front_core.specs.Taken.{Turned, Ways, asks, begins_if, list_refused, lists, lists_if, next_of, to_begin, told_now}
use Rattle.front_core.specs.Ups.{is_up}
use Rattle.imap_types.specs.declared.command.Tag.{Tag}
use Rattle.link_msg.specs.declared.answer.BackAnswer.{BackAnswer}
use Rattle.link_msg.specs.declared.how.How.{How}
use Rattle.link_msg.specs.declared.how.How.TheVariants.{Behind}
use Rattle.mur_base.specs.declared.point.AskId.{AskId}
use Rattle.mur_base.specs.declared.point.What.TheVariants.{Unreached as unreached}
use Rattle.mur_model.specs.declared.commands.list.Listing.{Listing}
use Rattle.mur_model.specs.declared.need.Need.{Need}
use Rattle.mur_model.specs.declared.need.Need.TheVariants as needs
use Rattle.mur_model.specs.declared.setting.Setting.{Setting}
use Rattle.session_core.specs.Relocated.{Refused, relocated}
use Rattle.cluster_core.proofs.Connections.KeepsData.{inputs_keep_reader}

abbrev pub KeepsReader : Connection → Turned → Type 0
KeepsReader connection turned = turned.connection.reader ≡ connection.reader

begins_reader : (up : Bool) (conn : ℕ) (connection : Connection) (tag : Tag) (begun : Begun) → KeepsReader connection (begins_if up conn connection tag begun)
unfolding told_now
begins_reader true conn connection tag begun = refl
begins_reader false conn connection tag begun = refl

lists_reader : (up : Bool) (master : List ℕ) (conn : ℕ) (connection : Connection) (tag : Tag) (it : Listing)
    → KeepsReader connection (lists_if up master conn connection tag it)
unfolding told_now
lists_reader true master conn connection tag it = refl
lists_reader false master conn connection tag it = refl

module _ (setting : Setting) (ways : Ways) (conn : ℕ) where
  -- the inputs that waited come
  come_reader : (connection : Connection) (turned : Turned) → KeepsReader connection turned
      → KeepsReader connection (waiting_come setting ways conn turned)
  come_reader connection turned kept =
      inputs_keep_reader setting ways conn (record turned.connection { waiting = [] }) turned.connection.waiting ∙ kept

  need_reader : (connection : Connection) (tag : Tag) (how : How) (need : Need) → KeepsReader connection (need_behind setting ways conn connection tag how need)
  need_reader connection tag how (needs.Reply reply) = inputs_keep_reader setting ways conn (reading_again connection) connection.waiting
  need_reader connection tag how (needs.Leave reply) = refl
  need_reader connection tag how (needs.Home name asking) =
      let reads : Connection = record connection { stage = Reading } in
      let begun : Begun = first_sent ways.recs ways.master ways.first (next_of conn reads) reads.session (to_begin name asking) in
      come_reader connection (asks ways conn reads tag name asking) (begins_reader (is_up ways.ups begun.sent.to) conn reads tag begun)
  need_reader connection tag how (needs.Names it) =
      let reads : Connection = record connection { stage = Reading } in
      come_reader connection (lists ways conn reads tag it) (lists_reader (is_up ways.ups ways.master) ways.master conn reads tag it)

  refused_reader : (connection : Connection) (tag : Tag) (refused : Refused) (node : List ℕ)
      → KeepsReader connection (refused_behind setting ways conn connection tag refused node)
  refused_reader connection tag refused node =
      inputs_keep_reader setting ways conn (reading_again (record connection { session = refused.session })) connection.waiting

  sends_reader : (up : Bool) (connection : Connection) (tag : Tag) (it : Waiting) (sent : Sent)
      → KeepsReader connection (sends_if up setting ways conn connection tag it sent)
  sends_reader true connection tag it sent = refl
  sends_reader false connection tag it sent =
      refused_reader connection tag (relocated connection.session it.asking.awaited (unreached sent.to)) sent.to

  then_reader : (connection : Connection) (tag : Tag) (it : Waiting) (what : Then) → KeepsReader connection (by_then setting ways conn connection tag it what)
  then_reader connection tag it (then.Sends sent) = sends_reader (is_up ways.ups sent.to) connection tag it sent
  then_reader connection tag it (then.Needs need) = need_reader connection tag Behind need
  then_reader connection tag it (then.Refused cause reply) = inputs_keep_reader setting ways conn (reading_again connection) connection.waiting
  then_reader connection tag it then.Lost = refl
  then_reader connection tag it then.Stays = refl

  answer_reader_by : (connection : Connection) (answer : BackAnswer) (own : Bool) (stage : Stage)
      → KeepsReader connection (answer_by setting ways conn connection answer own stage)
  unfolding answer_by
  answer_reader_by connection answer true (Waits tag it) = then_reader _ tag _ _
  answer_reader_by connection answer true (Lists tag it) = refl
  answer_reader_by connection answer true Reading = refl
  answer_reader_by connection answer true Ended = refl
  answer_reader_by connection answer false stage = refl

  pub answer_reader : (connection : Connection) (answer : BackAnswer) → KeepsReader connection (answer_comes setting ways conn connection answer)
  unfolding answer_comes
  answer_reader connection answer = answer_reader_by connection answer _ connection.stage

  clears_reader : (connection : Connection) (tag : Tag) (it : Waiting) (at : At) → KeepsReader connection (clears_at setting ways conn connection tag it at)
  clears_reader connection tag it (Home server) = refl
  clears_reader connection tag it (Barrier why) = then_reader _ tag _ _

  ok_reader_by : (connection : Connection) (own : Bool) (stage : Stage) → KeepsReader connection (ok_by setting ways conn connection own stage)
  unfolding ok_by
  ok_reader_by connection true (Waits tag it) = clears_reader connection tag it it.at
  ok_reader_by connection true (Lists tag it) = inputs_keep_reader setting ways conn (reading_again connection) connection.waiting
  ok_reader_by connection true Reading = refl
  ok_reader_by connection true Ended = refl
  ok_reader_by connection false stage = refl

  pub ok_reader : (connection : Connection) (id : AskId) → KeepsReader connection (ok_comes setting ways conn connection id)
  unfolding ok_comes
  ok_reader connection id = ok_reader_by connection _ connection.stage

  ends_reader : (connection : Connection) (tag : Tag) (it : Waiting) (at : At) → KeepsReader connection (ends_at setting ways conn connection tag it at)
  ends_reader connection tag it (Home server) = refl
  ends_reader connection tag it (Barrier why) =
      refused_reader connection tag (relocated connection.session it.asking.awaited (unreached ways.master)) ways.master

  end_reader_by : (connection : Connection) (stage : Stage) → KeepsReader connection (end_by setting ways conn connection stage)
  unfolding end_by
  end_reader_by connection (Waits tag it) = ends_reader connection tag it it.at
  end_reader_by connection (Lists tag it) = refused_reader connection tag (list_refused connection.session) ways.master
  end_reader_by connection Reading = refl
  end_reader_by connection Ended = refl

  pub end_reader : (connection : Connection) → KeepsReader connection (end_comes setting ways conn connection)
  end_reader connection = end_reader_by connection connection.stage
