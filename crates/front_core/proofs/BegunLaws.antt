-- A connection whose command waits has a session that has begun, whatever comes.
use Rattle.std.proofs.Common.{◌≡◌, ℕ, ◌+◌, Bool, true, false, List, [], ◌∷◌, refl, sym, subst}
use Rattle.std.specs.Prelude.{◌==◌}
use Rattle.asking_core.specs.Answered.{WentOn, answered}
use Rattle.asking_core.specs.Begins.{Begun, first_sent}
use Rattle.asking_core.specs.Cleared.{cleared}
use Rattle.asking_core.specs.declared.then.Then.{Then}
use Rattle.asking_core.specs.declared.then.Then.TheVariants as then
use Rattle.asking_core.specs.declared.waiting.At.{At}
use Rattle.asking_core.specs.declared.waiting.At.TheVariants.{Home as at_home, Barrier as at_barrier}
use Rattle.asking_core.specs.declared.waiting.Sent.{Sent}
use Rattle.asking_core.specs.declared.waiting.Waiting.{Waiting}
use Rattle.imap_talk.specs.declared.inputs.Input.{Input}
use Rattle.imap_talk.specs.declared.inputs.Input.TheVariants.{GoesOn, Asks, Faults}
use Rattle.imap_types.specs.declared.command.Tag.{Tag}
use Rattle.imap_types.specs.declared.request.Request.{Request}
use Rattle.imap_types.specs.declared.request.Request.TheVariants.{Command as a_command, Unknown as unknown, TooBig as too_big}
use Rattle.link_msg.specs.declared.answer.BackAnswer.{BackAnswer}
use Rattle.link_msg.specs.declared.how.How.{How}
use Rattle.link_msg.specs.declared.how.How.TheVariants as how
use Rattle.mur_base.specs.declared.point.AskId.{AskId}
use Rattle.mur_base.specs.declared.point.What.TheVariants.{Unreached as unreached}
use Rattle.mur_model.specs.declared.need.Need.{Need}
use Rattle.mur_model.specs.declared.need.Need.TheVariants.{Reply, Leave, Home, Names}
use Rattle.mur_model.specs.declared.session.Sess.{Sess}
use Rattle.mur_model.specs.declared.commands.list.Listing.{Listing}
use Rattle.mur_model.specs.declared.need.Asking.{Asking}
use Rattle.mur_model.specs.declared.setting.Setting.{Setting}
use Rattle.session_core.specs.Begin.{HasBegun, MayNeed, begin}
use Rattle.session_core.proofs.NeedLaw.{may_need, relocated_begun}
use Rattle.front_core.specs.declared.connection.Connection.{Connection}
use Rattle.front_core.specs.declared.connection.Stage.{Stage}
use Rattle.front_core.specs.declared.connection.Stage.TheVariants.{Reading, Waits, Lists, Ended}
use Rattle.front_core.specs.Answered.{answer_by, answer_comes, by_then, clears_at, end_by, end_comes, ends_at, goes_on_by, need_behind, ok_by, ok_comes}
use Rattle.front_core.specs.Answered.{reading_again, sends_if}
use Rattle.front_core.specs.Begun.{BegunAt, IsBegun}
use Rattle.front_core.specs.Ended.{released_at, with_released}
use Rattle.front_core.specs.Taken.{Turned, Ways, answers_last, asks, begins_if, comes_at, input_comes, input_in, inputs_come, lists, lists_if, next_of}
use Rattle.front_core.specs.Taken.{request_in, to_begin, told_now, turned_by_need}
use Rattle.front_core.specs.Ups.{is_up}
use Rattle.front_core.proofs.WentLaws.{IsFit, FitAt, answered_fit, cleared_fit}

reading_begun : (stage : Stage) (session : Sess) → stage ≡ Reading → BegunAt stage session
reading_begun stage session is = subst (λ (s : Stage). BegunAt s session) (sym is) tt

-- by another session that has begun
begun_with : (stage : Stage) (session : Sess) → HasBegun session → BegunAt stage session
begun_with Reading session begun = tt
begun_with (Waits tag it) session begun = begun
begun_with (Lists tag it) session begun = tt
begun_with Ended session begun = tt

module _ (setting : Setting) (ways : Ways) (conn : ℕ) where
  begins_begun : (up : Bool) (c : Connection) (tag : Tag) (begun : Begun) → HasBegun c.session → IsBegun (begins_if up conn c tag begun).connection
  unfolding told_now
  begins_begun true c tag it begun = begun
  begins_begun false c tag it begun =
      begun_with c.stage _ (relocated_begun c.session it.waiting.asking.awaited (unreached it.sent.to) begun)

  asks_begun : (c : Connection) (tag : Tag) (name : List ℕ) (asking : Asking) → HasBegun c.session → IsBegun (asks ways conn c tag name asking).connection
  asks_begun c tag name asking begun =
      let it = first_sent ways.recs ways.master ways.first (next_of conn c) c.session (to_begin name asking) in
      begins_begun (is_up ways.ups it.sent.to) c tag it begun

  lists_begun_if : (up : Bool) (c : Connection) (tag : Tag) (it : Listing) → IsBegun c → IsBegun (lists_if up ways.master conn c tag it).connection
  unfolding told_now
  lists_begun_if true c tag it begun = tt
  lists_begun_if false c tag it begun = begun

  lists_begun : (c : Connection) (tag : Tag) (it : Listing) → IsBegun c → IsBegun (lists ways conn c tag it).connection
  lists_begun c tag it begun = lists_begun_if (is_up ways.ups ways.master) c tag it begun

  need_begun : (c : Connection) (tag : Tag) (need : Need) → IsBegun c → MayNeed c.session need → IsBegun (turned_by_need ways conn c tag need).connection
  unfolding turned_by_need told_now answers_last MayNeed
  need_begun c tag (Reply reply) begun fits = begun
  need_begun c tag (Leave reply) begun fits = tt
  need_begun c tag (Home name asking) begun fits = asks_begun c tag name asking fits
  need_begun c tag (Names it) begun fits = lists_begun c tag it begun

  request_begun : (c : Connection) (request : Request) → c.stage ≡ Reading → IsBegun (request_in setting ways conn c request).connection
  unfolding request_in told_now
  request_begun c (a_command tag it) is =
      let behind = begin setting c.session it in
      need_begun (record c { session = behind.session }) tag behind.need (reading_begun c.stage behind.session is) (may_need setting c.session it)
  request_begun c (unknown tag) is = reading_begun c.stage c.session is
  request_begun c (too_big tag) is = reading_begun c.stage c.session is

  input_in_begun : (c : Connection) (input : Input) → c.stage ≡ Reading → IsBegun (input_in setting ways conn c input).connection
  unfolding input_in
  input_in_begun c (Asks request) is = request_begun c request is
  input_in_begun c (GoesOn why) is = reading_begun c.stage c.session is
  input_in_begun c (Faults fault) is = tt

  comes_begun : (c : Connection) (input : Input) (stage : Stage) → c.stage ≡ stage → IsBegun c → IsBegun (comes_at setting ways conn c input stage).connection
  unfolding comes_at
  comes_begun c input Reading is begun = input_in_begun c input is
  comes_begun c input (Waits tag it) is begun = begun
  comes_begun c input (Lists tag it) is begun = begun
  comes_begun c input Ended is begun = begun

  pub inputs_begun : (c : Connection) (inputs : List Input) → IsBegun c → IsBegun (inputs_come setting ways conn c inputs).connection
  unfolding inputs_come input_comes
  inputs_begun c [] begun = begun
  inputs_begun c (input ∷ inputs) begun = inputs_begun (input_comes setting ways conn c input).connection inputs (comes_begun c input c.stage refl begun)

  behind_begun : (c : Connection) (tag : Tag) (told : How) (need : Need) → MayNeed c.session need → IsBegun (need_behind setting ways conn c tag told need).connection
  unfolding MayNeed
  behind_begun c tag told (Reply reply) fits = inputs_begun (reading_again c) c.waiting tt
  behind_begun c tag told (Leave reply) fits = tt
  behind_begun c tag told (Home name asking) fits =
      inputs_begun _ _ (asks_begun (record c { stage = Reading }) tag name asking fits)
  behind_begun c tag told (Names it) fits = inputs_begun _ _ (lists_begun (record c { stage = Reading }) tag it tt)

  sends_begun : (up : Bool) (c : Connection) (tag : Tag) (it : Waiting) (sent : Sent) → HasBegun c.session
      → IsBegun (sends_if up setting ways conn c tag it sent).connection
  sends_begun true c tag it sent begun = begun
  sends_begun false c tag it sent begun = inputs_begun (reading_again (record c { session = _ })) c.waiting tt

  then_begun : (c : Connection) (tag : Tag) (it : Waiting) (session : Sess) (later : Waiting) (what : Then) → c.stage ≡ Waits tag it → IsBegun c
      → FitAt c.session it session later what → IsBegun (by_then setting ways conn (record c { session = session }) tag later what).connection
  then_begun c tag it session later (then.Sends sent) is begun fit =
      sends_begun (is_up ways.ups sent.to) (record c { session = session }) tag later sent
      (subst (λ (s : Sess). HasBegun s) (sym fit) (subst (λ (s : Stage). BegunAt s c.session) is begun))
  then_begun c tag it session later (then.Needs need) is begun fit = behind_begun (record c { session = session }) tag how.Behind need fit
  then_begun c tag it session later (then.Refused cause reply) is begun fit = inputs_begun (reading_again (record c { session = session })) c.waiting tt
  then_begun c tag it session later then.Lost is begun fit = tt
  then_begun c tag it session later then.Stays is begun fit = subst (λ (s : Sess). BegunAt c.stage s) (sym fit.0) begun

  went_begun : (c : Connection) (tag : Tag) (it : Waiting) (next : WentOn) → c.stage ≡ Waits tag it → IsBegun c → IsFit c.session it next
      → IsBegun (goes_on_by setting ways conn c tag next).connection
  went_begun c tag it next is begun fit = then_begun c tag it next.session next.waiting next.then is begun fit

  answer_begun_by : (c : Connection) (answer : BackAnswer) (fits : Bool) (stage : Stage) → c.stage ≡ stage → IsBegun c
      → IsBegun (answer_by setting ways conn c answer fits stage).connection
  unfolding answer_by
  answer_begun_by c answer true (Waits tag it) is begun =
      went_begun c tag it (answered ways.master (next_of conn c) c.session it answer.body) is begun
      (answered_fit ways.master (next_of conn c) c.session it answer.body)
  answer_begun_by c answer true (Lists tag it) is begun = begun
  answer_begun_by c answer true Reading is begun = begun
  answer_begun_by c answer true Ended is begun = begun
  answer_begun_by c answer false stage is begun = begun

  pub answer_begun : (c : Connection) (answer : BackAnswer) → IsBegun c → IsBegun (answer_comes setting ways conn c answer).connection
  unfolding answer_comes
  answer_begun c answer begun = answer_begun_by c answer ((answer.id).command == c.answered + 1) c.stage refl begun

  clears_begun : (c : Connection) (tag : Tag) (it : Waiting) (at : At) → c.stage ≡ Waits tag it → IsBegun c
      → IsBegun (clears_at setting ways conn c tag it at).connection
  clears_begun c tag it (at_home server) is begun = begun
  clears_begun c tag it (at_barrier why) is begun =
      went_begun c tag it (cleared ways.recs ways.master ways.first (next_of conn c) c.session it why) is begun
      (cleared_fit ways.recs ways.master ways.first (next_of conn c) c.session it why)

  ok_begun_by : (c : Connection) (fits : Bool) (stage : Stage) → c.stage ≡ stage → IsBegun c → IsBegun (ok_by setting ways conn c fits stage).connection
  unfolding ok_by
  ok_begun_by c true (Waits tag it) is begun = clears_begun c tag it it.at is begun
  ok_begun_by c true (Lists tag it) is begun = inputs_begun (reading_again c) c.waiting tt
  ok_begun_by c true Reading is begun = begun
  ok_begun_by c true Ended is begun = begun
  ok_begun_by c false stage is begun = begun

  pub ok_begun : (c : Connection) (id : AskId) → IsBegun c → IsBegun (ok_comes setting ways conn c id).connection
  unfolding ok_comes
  ok_begun c id begun = ok_begun_by c (id.command == c.answered + 1) c.stage refl begun

  ends_begun : (c : Connection) (tag : Tag) (it : Waiting) (at : At) → IsBegun (ends_at setting ways conn c tag it at).connection
  ends_begun c tag it (at_home server) = tt
  ends_begun c tag it (at_barrier why) = inputs_begun (reading_again (record c { session = _ })) c.waiting tt

  end_begun_by : (c : Connection) (stage : Stage) → c.stage ≡ stage → IsBegun c → IsBegun (end_by setting ways conn c stage).connection
  unfolding end_by
  end_begun_by c (Waits tag it) is begun = ends_begun c tag it it.at
  end_begun_by c (Lists tag it) is begun = inputs_begun (reading_again c) c.waiting tt
  end_begun_by c Reading is begun = begun
  end_begun_by c Ended is begun = begun

  pub end_begun : (c : Connection) → IsBegun c → IsBegun (end_comes setting ways conn c).connection
  end_begun c begun = end_begun_by c c.stage refl begun

-- what is let go changes nothing of it

released_by : (c : Connection) (stage : Stage) → IsBegun c → IsBegun (released_at c stage)
unfolding released_at
released_by c Reading begun = begun
released_by c (Waits tag it) begun = begun
released_by c (Lists tag it) begun = begun
released_by c Ended begun = tt

was_by : (c : Connection) (stage : Stage) → c.stage ≡ stage → IsBegun (released_at c stage) → IsBegun c
unfolding released_at
was_by c Reading is begun = begun
was_by c (Waits tag it) is begun = begun
was_by c (Lists tag it) is begun = begun
was_by c Ended is begun = subst (λ (s : Stage). BegunAt s c.session) (sym is) tt

pub released_begun : (one other : Turned) → with_released one ≡ with_released other → IsBegun other.connection → IsBegun one.connection
released_begun one other same begun =
    was_by one.connection (one.connection).stage refl
    (subst (λ (t : Turned). IsBegun t.connection) (sym same) (released_by other.connection (other.connection).stage begun))
