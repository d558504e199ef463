-- What comes to a connection whose command waits ends the connection only as the command is answered, but for the end of a link.
use Rattle.std.proofs.Common.{◌≡◌, ◌≢◌, ℕ, ◌+◌, ◌≤◌, ◌==◌, Bool, true, false, List, Option, None, Some, refl, sym, ◌∙◌, ap, arith}
use Rattle.ask_routes.specs.Ways.{ask_for, behind_ok}
use Rattle.ask_routes.specs.declared.next.Next.{Next}
use Rattle.ask_routes.specs.declared.next.Next.TheVariants as next
use Rattle.asking_core.specs.Answered.{answered, goes_on, refused, told, told_in}
use Rattle.asking_core.specs.Begins.{first_by}
use Rattle.asking_core.specs.Cleared.{cleared}
use Rattle.asking_core.specs.declared.waiting.At.{At}
use Rattle.asking_core.specs.declared.waiting.At.TheVariants.{Home, Barrier}
use Rattle.asking_core.specs.declared.waiting.Sent.{Sent}
use Rattle.asking_core.specs.declared.waiting.Waiting.{Waiting}
use Rattle.front_core.specs.Answered.{answer_by, answer_comes, clears_at, ends_with, goes_on_by, how_for, need_behind, ok_by, ok_comes, reading_again, reads_on, sends_if, unchanged}
use Rattle.front_core.specs.Taken.{Turned, Ways, inputs_come, next_of}
use Rattle.front_core.specs.Ups.{is_up}
use Rattle.front_core.specs.declared.connection.Connection.{Connection}
use Rattle.front_core.specs.declared.connection.Stage.{Stage}
use Rattle.front_core.specs.declared.connection.Stage.TheVariants.{Reading, Waits, Lists, Ended}
use Rattle.front_core.proofs.FramesLaws.{HoldsBack, held_back}
use Rattle.imap_talk.specs.declared.inputs.Input.{Input}
use Rattle.imap_types.specs.declared.command.Tag.{Tag}
use Rattle.imap_types.specs.declared.reply.Reply.{Reply}
use Rattle.link_msg.specs.declared.answer.AnswerBody.{AnswerBody}
use Rattle.link_msg.specs.declared.answer.AnswerBody.TheVariants as answer_body
use Rattle.link_msg.specs.declared.answer.BackAnswer.{BackAnswer}
use Rattle.link_msg.specs.declared.how.How.{How}
use Rattle.link_msg.specs.declared.how.How.TheVariants.{Behind, Unreached}
use Rattle.mur_base.specs.declared.point.AskId.{AskId}
use Rattle.mur_base.specs.declared.point.What.{What}
use Rattle.mur_base.specs.declared.point.What.TheVariants as what
use Rattle.mur_model.specs.Need.{told_with}
use Rattle.mur_model.specs.declared.session.Sess.{Sess}
use Rattle.mur_model.specs.declared.session.Sess.TheVariants as session_is
use Rattle.mur_model.specs.declared.session.Turn.{Turn}
use Rattle.mur_model.specs.declared.setting.Setting.{Setting}
use Rattle.session_core.specs.Finish.{finished_by, turn_of}
use Rattle.session_core.specs.Need.{told_reply}
use Rattle.session_core.specs.Relocated.{relocated}
use Rattle.session_core.specs.declared.result.OpResult.{OpResult}
use Rattle.session_core.specs.declared.result.OpResult.TheVariants.{Done, Missing}
use Rattle.cluster_core.proofs.Asking.Asked.{inputs_so}

-- where it has ended, a command more was answered
pub record EndsAnswered (c : Connection) (turned : Turned) : Type 0 where
  pub more : turned.connection.stage ≡ Ended → c.answered + 1 ≤ turned.connection.answered

module _ (setting : Setting) (ways : Ways) (conn : ℕ) where
  reads_more : (c : Connection) (how : How) (text : List ℕ) → EndsAnswered c (reads_on setting ways conn c how text)
  reads_more c how text = record { more = λ ended. omega (arith, (inputs_so ways conn setting (reading_again c) c.waiting refl).more) }

  ends_more : (c : Connection) (how : How) (text : List ℕ) → EndsAnswered c (ends_with conn c how text)
  ends_more c how text = record { more = λ ended. omega arith }

  stays_open : (c : Connection) (session : Sess) → c.stage ≢ Ended → EndsAnswered c (unchanged (record c { session = session }))
  stays_open c session lasts = record { more = λ ended. absurd (lasts ended) }

  -- a session that changes is no matter
  as_before : (c : Connection) (session : Sess) (turned : Turned) → EndsAnswered (record c { session = session }) turned → EndsAnswered c turned
  as_before c session turned is = record { more = is.more }

  -- a reply is told
  told_more : (c : Connection) (tag : Tag) (how : How) (session : Sess) (reply : Reply) (later : Option Sess)
      → EndsAnswered c (need_behind setting ways conn c tag how (told_reply session reply later).need)
  unfolding told_with
  told_more c tag how session reply None = reads_more c how _
  told_more c tag how session reply (Some session_is.Off) = reads_more c how _
  told_more c tag how session reply (Some (session_is.In user)) = reads_more c how _
  told_more c tag how session reply (Some (session_is.Selected view)) = reads_more c how _
  told_more c tag how session reply (Some session_is.Ended) = ends_more c how _

  finished_more : (c : Connection) (tag : Tag) (it : Waiting) (turn : Option Turn) → c.stage ≢ Ended
      → EndsAnswered c (goes_on_by setting ways conn c tag (told_in it (finished_by c.session turn)))
  unfolding finished_by
  finished_more c tag it None lasts = stays_open c c.session lasts
  finished_more c tag it (Some turn) lasts =
      let session : Sess = (told_reply c.session turn.reply turn.session).session in
      as_before c session _ (told_more (record c { session = session }) tag Behind c.session turn.reply turn.session)

  result_more : (c : Connection) (tag : Tag) (it : Waiting) (result : OpResult) → c.stage ≢ Ended
      → EndsAnswered c (goes_on_by setting ways conn c tag (told c.session it result))
  result_more c tag it result lasts = finished_more c tag it (turn_of c.session it.asking.awaited result) lasts

  refused_more : (c : Connection) (tag : Tag) (it : Waiting) (cause : What) → EndsAnswered c (goes_on_by setting ways conn c tag (refused c.session it cause))
  refused_more c tag it cause =
      let session : Sess = (relocated c.session it.asking.awaited cause).session in
      as_before c session _ (reads_more (record c { session = session }) (how_for cause) _)

  -- a message goes out for it, or it is refused
  sends_more : (up : Bool) (c : Connection) (tag : Tag) (it : Waiting) (sent : Sent) → EndsAnswered c (sends_if up setting ways conn c tag it sent)
  sends_more true c tag it sent = record { more = λ ended. cc }
  sends_more false c tag it sent =
      let session : Sess = (relocated c.session it.asking.awaited (what.Unreached sent.to)).session in
      as_before c session _ (reads_more (record c { session = session }) (Unreached sent.to) _)

  goes_more : (c : Connection) (tag : Tag) (it : Waiting) (found : Next) → c.stage ≢ Ended
      → EndsAnswered c (goes_on_by setting ways conn c tag (goes_on ways.master (next_of conn c) c.session it found))
  goes_more c tag it (next.Ask server) lasts =
      let begun = first_by ways.master (next_of conn c) c.session it (next.Ask server) in
      sends_more (is_up ways.ups begun.sent.to) c tag begun.waiting begun.sent
  goes_more c tag it (next.Barrier why) lasts =
      let begun = first_by ways.master (next_of conn c) c.session it (next.Barrier why) in
      sends_more (is_up ways.ups begun.sent.to) c tag begun.waiting begun.sent
  goes_more c tag it next.Missing lasts = result_more c tag it Missing lasts
  goes_more c tag it next.Refused lasts = refused_more c tag it what.Reserved

  -- the master's OK
  clears_more : (c : Connection) (tag : Tag) (it : Waiting) (at : At) → c.stage ≢ Ended → EndsAnswered c (clears_at setting ways conn c tag it at)
  unfolding cleared
  clears_more c tag it (Home server) lasts = stays_open c c.session lasts
  clears_more c tag it (Barrier why) lasts = goes_more c tag it (behind_ok ways.recs ways.first (ask_for it.name it.asking.op) why) lasts

  ok_more_by : (c : Connection) (fits : Bool) (stage : Stage) → c.stage ≢ Ended → EndsAnswered c (ok_by setting ways conn c fits stage)
  unfolding ok_by
  ok_more_by c true (Waits tag it) lasts = clears_more c tag it it.at lasts
  ok_more_by c true (Lists tag it) lasts = reads_more c _ _
  ok_more_by c true Reading lasts = stays_open c c.session lasts
  ok_more_by c true Ended lasts = stays_open c c.session lasts
  ok_more_by c false stage lasts = stays_open c c.session lasts

  pub ok_answers : (c : Connection) (id : AskId) → c.stage ≢ Ended → EndsAnswered c (ok_comes setting ways conn c id)
  unfolding ok_comes
  ok_answers c id lasts = ok_more_by c (id.command == c.answered + 1) c.stage lasts

  -- a server's answer
  answered_more : (c : Connection) (tag : Tag) (it : Waiting) (body : AnswerBody) → body ≢ answer_body.Lost → c.stage ≢ Ended
      → EndsAnswered c (goes_on_by setting ways conn c tag (answered ways.master (next_of conn c) c.session it body))
  unfolding answered
  answered_more c tag it answer_body.NotNow plain lasts = goes_more c tag it (next.Barrier _) lasts
  answered_more c tag it (answer_body.Moved server) plain lasts = goes_more c tag it (next.Ask server) lasts
  answered_more c tag it (answer_body.Done outcome seen) plain lasts = result_more c tag it (Done outcome seen) lasts
  answered_more c tag it (answer_body.Unreached node) plain lasts = refused_more c tag it (what.Unreached node)
  answered_more c tag it answer_body.Lost plain lasts = absurd (plain refl)

  answer_more_by : (c : Connection) (answer : BackAnswer) (fits : Bool) (stage : Stage) → answer.body ≢ answer_body.Lost → c.stage ≢ Ended
      → EndsAnswered c (answer_by setting ways conn c answer fits stage)
  unfolding answer_by
  answer_more_by c answer true (Waits tag it) plain lasts = answered_more c tag it answer.body plain lasts
  answer_more_by c answer true Reading plain lasts = stays_open c c.session lasts
  answer_more_by c answer true (Lists tag it) plain lasts = stays_open c c.session lasts
  answer_more_by c answer true Ended plain lasts = stays_open c c.session lasts
  answer_more_by c answer false stage plain lasts = stays_open c c.session lasts

  pub answer_answers : (c : Connection) (answer : BackAnswer) → answer.body ≢ answer_body.Lost → c.stage ≢ Ended
      → EndsAnswered c (answer_comes setting ways conn c answer)
  unfolding answer_comes
  answer_answers c answer plain lasts = answer_more_by c answer _ c.stage plain lasts

  -- bytes that come wait behind it
  pub bytes_wait : (c later : Connection) (inputs : List Input) → later.stage ≡ c.stage → HoldsBack later.stage → c.stage ≢ Ended
      → EndsAnswered c (inputs_come setting ways conn later inputs)
  bytes_wait c later inputs same holds lasts =
      record {
        more = λ ended. absurd (lasts (sym same ∙ sym (ap (λ (t : Turned). t.connection.stage) (held_back setting ways conn later inputs holds)) ∙ ended));
      }
