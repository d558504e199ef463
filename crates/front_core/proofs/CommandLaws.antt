-- How many commands a connection may have, behind inputs and answers.
use Rattle.std.proofs.Common.{◌≡◌, ℕ, ◌+◌, ◌<◌, ◌≤◌, ◌^◌, Bool, true, false, List, [], ◌∷◌, length, refl, ap, arith, length-append}
use Rattle.std.specs.Prelude.{◌==◌}
use Rattle.asking_core.specs.Answered.{answered}
use Rattle.asking_core.specs.Begins.{Begun, first_sent}
use Rattle.asking_core.specs.Cleared.{cleared}
use Rattle.asking_core.specs.declared.then.Then.{Then}
use Rattle.asking_core.specs.declared.then.Then.TheVariants as then
use Rattle.asking_core.specs.declared.waiting.At.{At}
use Rattle.asking_core.specs.declared.waiting.At.TheVariants.{Home as at_home, Barrier as at_barrier}
use Rattle.asking_core.specs.declared.waiting.Sent.{Sent}
use Rattle.asking_core.specs.declared.waiting.Waiting.{Waiting}
use Rattle.imap_talk.specs.declared.inputs.Input.{Input}
use Rattle.imap_talk.specs.declared.inputs.Input.TheVariants.{GoesOn, Asks, Faults}
use Rattle.link_msg.specs.declared.answer.BackAnswer.{BackAnswer}
use Rattle.link_msg.specs.declared.how.How.{How}
use Rattle.link_msg.specs.declared.out.Out.{Out}
use Rattle.link_msg.specs.declared.how.How.TheVariants as how
use Rattle.mur_base.specs.declared.point.AskId.{AskId}
use Rattle.imap_types.specs.declared.command.Tag.{Tag}
use Rattle.imap_types.specs.declared.request.Request.{Request}
use Rattle.imap_types.specs.declared.request.Request.TheVariants.{Command as a_command, Unknown as unknown, TooBig as too_big}
use Rattle.mur_model.specs.declared.commands.list.Listing.{Listing}
use Rattle.mur_model.specs.declared.need.Asking.{Asking}
use Rattle.mur_model.specs.declared.session.Sess.{Sess}
use Rattle.mur_model.specs.declared.setting.Setting.{Setting}
use Rattle.front_core.specs.declared.connection.Connection.{Connection}
use Rattle.front_core.specs.declared.connection.Stage.{Stage}
use Rattle.front_core.specs.declared.connection.Stage.TheVariants.{Reading, Waits, Lists, Ended}
use Rattle.front_core.specs.Answered.{answer_comes, answer_by, by_then, clears_at, end_by, end_comes, ends_at, need_behind, ok_comes, ok_by, reading_again, sends_if}
use Rattle.front_core.specs.Front.{is_asked}
use Rattle.front_core.specs.Room.{commands_of}
use Rattle.front_core.specs.Taken.{Turned, Ways, answers_last, asks, begins_if, behind_outs, lists, lists_if, next_of, to_begin, told_now, turned_by_need, request_in, input_in}
use Rattle.front_core.specs.Taken.{comes_at, input_comes, inputs_come}
use Rattle.front_core.specs.Ups.{is_up}
use Rattle.mur_model.specs.declared.need.Need.{Need}
use Rattle.mur_model.specs.declared.need.Need.TheVariants.{Reply, Leave, Home, Names}
use Rattle.session_core.specs.Begin.{begin}

module _ (setting : Setting) (ways : Ways) (conn : ℕ) where
  begins_counts : (up : Bool) (c : Connection) (tag : Tag) (begun : Begun) → commands_of (begins_if up conn c tag begun).connection ≤ commands_of c + 1
  unfolding told_now
  begins_counts true c tag begun = omega arith
  begins_counts false c tag begun = omega arith

  asks_counts : (c : Connection) (tag : Tag) (name : List ℕ) (asking : Asking) → commands_of (asks ways conn c tag name asking).connection ≤ commands_of c + 1
  asks_counts c tag name asking =
      let it = first_sent ways.recs ways.master ways.first (next_of conn c) c.session (to_begin name asking) in
      begins_counts (is_up ways.ups it.sent.to) c tag it

  lists_count_if : (up : Bool) (c : Connection) (tag : Tag) (it : Listing) → commands_of (lists_if up ways.master conn c tag it).connection ≤ commands_of c + 1
  unfolding told_now
  lists_count_if true c tag it = omega arith
  lists_count_if false c tag it = omega arith

  lists_count : (c : Connection) (tag : Tag) (it : Listing) → commands_of (lists ways conn c tag it).connection ≤ commands_of c + 1
  lists_count c tag it = lists_count_if (is_up ways.ups ways.master) c tag it

  need_counts : (c : Connection) (tag : Tag) (need : Need) → commands_of (turned_by_need ways conn c tag need).connection ≤ commands_of c + 1
  unfolding turned_by_need told_now answers_last
  need_counts c tag (Reply reply) = omega arith
  need_counts c tag (Leave reply) = omega arith
  need_counts c tag (Home name asking) = asks_counts c tag name asking
  need_counts c tag (Names it) = lists_count c tag it

  request_counts : (c : Connection) (request : Request) → commands_of (request_in setting ways conn c request).connection ≤ commands_of c + 1
  unfolding request_in told_now
  request_counts c (a_command tag it) =
      let behind = begin setting c.session it in
      need_counts (record c { session = behind.session }) tag behind.need
  request_counts c (unknown tag) = omega arith
  request_counts c (too_big tag) = omega arith

  pub input_in_counts : (c : Connection) (input : Input) → commands_of (input_in setting ways conn c input).connection ≤ commands_of c + 1
  unfolding input_in
  input_in_counts c (Asks request) = request_counts c request
  input_in_counts c (GoesOn why) = omega arith
  input_in_counts c (Faults fault) = omega arith

  comes_counts : (c : Connection) (input : Input) (stage : Stage) → commands_of (comes_at setting ways conn c input stage).connection ≤ commands_of c + 1
  unfolding comes_at
  comes_counts c input Reading = input_in_counts c input
  comes_counts c input (Waits tag it) = omega (arith, length-append c.waiting (input ∷ []))
  comes_counts c input (Lists tag it) = omega (arith, length-append c.waiting (input ∷ []))
  comes_counts c input Ended = omega arith

  -- an input is at most one command more
  pub input_counts : (c : Connection) (input : Input) → commands_of (input_comes setting ways conn c input).connection ≤ commands_of c + 1
  unfolding input_comes
  input_counts c input = comes_counts c input c.stage

  pub inputs_count : (c : Connection) (inputs : List Input) → commands_of (inputs_come setting ways conn c inputs).connection ≤ commands_of c + length inputs
  unfolding inputs_come
  inputs_count c [] = omega arith
  inputs_count c (input ∷ inputs) =
      omega (arith, input_counts c input, inputs_count (input_comes setting ways conn c input).connection inputs)

  behind_counts : (c : Connection) (tag : Tag) (it : Waiting) (told : How) (need : Need) → c.stage ≡ Waits tag it
      → commands_of (need_behind setting ways conn c tag told need).connection ≤ commands_of c
  behind_counts c tag it told (Reply reply) is = omega (arith, inputs_count (reading_again c) c.waiting, ap is_asked is)
  behind_counts c tag it told (Leave reply) is = omega (arith, ap is_asked is)
  behind_counts c tag it told (Home name asking) is =
      let turned = asks ways conn (record c { stage = Reading }) tag name asking in
      omega (
        arith,
        asks_counts (record c { stage = Reading }) tag name asking,
        inputs_count (record turned.connection { waiting = [] }) turned.connection.waiting,
        ap is_asked is,
      )
  behind_counts c tag it told (Names listing) is =
      let turned = lists ways conn (record c { stage = Reading }) tag listing in
      omega (
        arith,
        lists_count (record c { stage = Reading }) tag listing,
        inputs_count (record turned.connection { waiting = [] }) turned.connection.waiting,
        ap is_asked is,
      )

  -- a client is given a reply, and the inputs that waited come
  read_counts : (c : Connection) (tag : Tag) (it : Waiting) (session : Sess) → c.stage ≡ Waits tag it
      → commands_of (inputs_come setting ways conn (reading_again (record c { session = session })) c.waiting).connection ≤ commands_of c
  read_counts c tag it session is = omega (arith, inputs_count (reading_again (record c { session = session })) c.waiting, ap is_asked is)

  sends_count : (up : Bool) (c : Connection) (tag : Tag) (it later : Waiting) (sent : Sent) → c.stage ≡ Waits tag it
      → commands_of (sends_if up setting ways conn c tag later sent).connection ≤ commands_of c
  sends_count true c tag it later sent is = omega (arith, ap is_asked is)
  sends_count false c tag it later sent is = read_counts c tag it _ is

  then_counts : (c : Connection) (tag : Tag) (it later : Waiting) (what : Then) → c.stage ≡ Waits tag it
      → commands_of (by_then setting ways conn c tag later what).connection ≤ commands_of c
  then_counts c tag it later (then.Sends sent) is = sends_count (is_up ways.ups sent.to) c tag it later sent is
  then_counts c tag it later (then.Needs need) is = behind_counts c tag it how.Behind need is
  then_counts c tag it later (then.Refused cause reply) is = read_counts c tag it c.session is
  then_counts c tag it later then.Lost is = omega arith
  then_counts c tag it later then.Stays is = omega arith

  answer_counts_by : (c : Connection) (answer : BackAnswer) (fits : Bool) (stage : Stage) → c.stage ≡ stage
      → commands_of (answer_by setting ways conn c answer fits stage).connection ≤ commands_of c
  unfolding answer_by
  answer_counts_by c answer true (Waits tag it) is =
      let next = answered ways.master (next_of conn c) c.session it answer.body in
      then_counts (record c { session = next.session }) tag it next.waiting next.then is
  answer_counts_by c answer true Reading is = omega arith
  answer_counts_by c answer true (Lists tag it) is = omega arith
  answer_counts_by c answer true Ended is = omega arith
  answer_counts_by c answer false stage is = omega arith

  -- the command that is answered was counted before, and so were the inputs that waited
  pub answer_counts : (c : Connection) (answer : BackAnswer) → commands_of (answer_comes setting ways conn c answer).connection ≤ commands_of c
  unfolding answer_comes
  answer_counts c answer = answer_counts_by c answer ((answer.id).command == c.answered + 1) c.stage refl

  clears_counts : (c : Connection) (tag : Tag) (it : Waiting) (at : At) → c.stage ≡ Waits tag it
      → commands_of (clears_at setting ways conn c tag it at).connection ≤ commands_of c
  clears_counts c tag it (at_home server) is = omega arith
  clears_counts c tag it (at_barrier why) is =
      let next = cleared ways.recs ways.master ways.first (next_of conn c) c.session it why in
      then_counts (record c { session = next.session }) tag it next.waiting next.then is

  ok_counts_by : (c : Connection) (fits : Bool) (stage : Stage) → c.stage ≡ stage → commands_of (ok_by setting ways conn c fits stage).connection ≤ commands_of c
  unfolding ok_by
  ok_counts_by c true (Waits tag it) is = clears_counts c tag it it.at is
  ok_counts_by c true (Lists tag it) is = omega (arith, inputs_count (reading_again c) c.waiting, ap is_asked is)
  ok_counts_by c true Reading is = omega arith
  ok_counts_by c true Ended is = omega arith
  ok_counts_by c false stage is = omega arith

  pub ok_counts : (c : Connection) (id : AskId) → commands_of (ok_comes setting ways conn c id).connection ≤ commands_of c
  unfolding ok_comes
  ok_counts c id = ok_counts_by c (id.command == c.answered + 1) c.stage refl

  ends_count : (c : Connection) (tag : Tag) (it : Waiting) (at : At) → c.stage ≡ Waits tag it
      → commands_of (ends_at setting ways conn c tag it at).connection ≤ commands_of c
  ends_count c tag it (at_home server) is = omega arith
  ends_count c tag it (at_barrier why) is = read_counts c tag it _ is

  end_counts_by : (c : Connection) (stage : Stage) → c.stage ≡ stage → commands_of (end_by setting ways conn c stage).connection ≤ commands_of c
  unfolding end_by
  end_counts_by c (Waits tag it) is = ends_count c tag it it.at is
  end_counts_by c (Lists tag it) is = omega (arith, inputs_count (reading_again c) c.waiting, ap is_asked is)
  end_counts_by c Reading is = omega arith
  end_counts_by c Ended is = omega arith

  pub end_counts : (c : Connection) → commands_of (end_comes setting ways conn c).connection ≤ commands_of c
  end_counts c = end_counts_by c c.stage refl

  -- behind a command that waited, another is asked or listed, so that no more are counted

  pub asks_fit : (was begun now : Connection) (tag next : Tag) (it : Waiting) (name : List ℕ) (asking : Asking) (outs later : List Out)
      → was.stage ≡ Waits tag it → begun.stage ≡ Reading → begun.answered ≡ was.answered → begun.waiting ≡ was.waiting → commands_of was < 2 ^ 64
      → record { connection = now; outs = later } ≡ behind_outs outs (asks ways conn begun next name asking) → commands_of now < 2 ^ 64
  asks_fit was begun now tag next it name asking outs later is reads answered waiting room e =
      omega (
        arith,
        room,
        ap (λ (t : Turned). commands_of t.connection) e,
        asks_counts begun next name asking,
        ap is_asked is,
        ap is_asked reads,
        answered,
        ap length waiting,
      )

  pub lists_fit : (was begun now : Connection) (tag next : Tag) (it : Waiting) (listing : Listing) (outs later : List Out)
      → was.stage ≡ Waits tag it → begun.stage ≡ Reading → begun.answered ≡ was.answered → begun.waiting ≡ was.waiting → commands_of was < 2 ^ 64
      → record { connection = now; outs = later } ≡ behind_outs outs (lists ways conn begun next listing) → commands_of now < 2 ^ 64
  lists_fit was begun now tag next it listing outs later is reads answered waiting room e =
      omega (
        arith,
        room,
        ap (λ (t : Turned). commands_of t.connection) e,
        lists_count begun next listing,
        ap is_asked is,
        ap is_asked reads,
        answered,
        ap length waiting,
      )
