-- What a frontend answers by itself, with no word from any other node, is a command that hadn't begun; and how many have begun only grows.
use Rattle.std.proofs.Common.{◌≡◌, ◌≢◌, ◌⊎◌, inl, inr, ℕ, ◌+◌, ◌≤◌, ◌<◌, nat_eq, Bool, true, false, List, [], ◌∷◌, ◌++◌, Option, None, Some, refl, sym, ◌∙◌, ap, arith}
use Rattle.std.specs.Prelude.{⊤}
use Rattle.std.specs.List.{AllByRecursion}
use Rattle.std.specs.Map.{keys_of}
use Rattle.std.specs.Ordering.{nat_cmp}
use Rattle.std.specs.Cmp.Lexicographic.{pointwise}
use Rattle.ask_routes.specs.Barrier.{barrier_answered}
use Rattle.asking_core.specs.Answered.{WentOn, answered}
use Rattle.asking_core.specs.Begins.{Begun}
use Rattle.asking_core.specs.Cleared.{cleared}
use Rattle.asking_core.specs.declared.then.Then.{Then}
use Rattle.asking_core.specs.declared.then.Then.TheVariants as then
use Rattle.asking_core.specs.declared.waiting.At.{At}
use Rattle.asking_core.specs.declared.waiting.At.TheVariants.{Home, Barrier}
use Rattle.asking_core.specs.declared.waiting.Sent.{Sent}
use Rattle.asking_core.specs.declared.waiting.Waiting.{Waiting}
use Rattle.front_core.specs.Reading.{inputs_of_more}
use Rattle.front_core.specs.declared.connection.Connection.{Connection}
use Rattle.front_core.specs.declared.connection.Stage.{Stage}
use Rattle.front_core.specs.declared.connection.Stage.TheVariants.{Reading, Waits, Lists, Ended}
use Rattle.front_core.specs.declared.front.Front.{Front}
use Rattle.front_core.specs.Answered.{answer_by, answer_comes, by_then, clears_at, end_by, end_comes, ends_at, how_for, need_behind, ok_by, ok_comes, reading_again}
use Rattle.front_core.specs.Answered.{reads_on, refused_behind, sends_if, waiting_come}
use Rattle.front_core.specs.Ended.{released, released_at}
use Rattle.front_core.specs.Front.{Stepped, all_end, answer_at, answer_from, awaited, behind_them, bytes_by, bytes_in, connect, connect_at, connection_at, deliver, end_at}
use Rattle.front_core.specs.Front.{end_if, front_bytes_at, front_hang_at, hang, having_read, hung_up, line_by, line_from, ok_at, one_ends, still, up_from}
use Rattle.front_core.specs.Front.{waits_for, ways_of, with_asks_in_order, with_turned, with_up, without_up}
use Rattle.front_core.specs.Taken.{Turned, Ways, answers_last, answers_now, asks, begins_if, comes_at, input_comes, input_in, inputs_come, list_refused, lists, lists_if}
use Rattle.front_core.specs.Taken.{request_in, says_bye, told_now, turned_by_need}
use Rattle.front_core.specs.Ups.{Ups, coming_up, going_down, is_up}
use Rattle.front_core.proofs.AskOrder.{outs_all}
use Rattle.imap_talk.specs.declared.inputs.Input.{Input}
use Rattle.imap_talk.specs.declared.inputs.Input.TheVariants.{GoesOn, Asks, Faults}
use Rattle.imap_reply.specs.ReplyText.{reply_text}
use Rattle.imap_types.specs.declared.command.Tag.{Tag}
use Rattle.imap_types.specs.declared.reply.Bye.TheVariants.{Lost as lost_bye}
use Rattle.imap_types.specs.declared.reply.Reply.{Reply}
use Rattle.imap_types.specs.declared.request.Request.{Request}
use Rattle.imap_types.specs.declared.request.Request.TheVariants.{Command as a_command, Unknown as unknown, TooBig as too_big}
use Rattle.link_msg.specs.declared.answer.BackAnswer.{BackAnswer}
use Rattle.link_msg.specs.declared.how.How.{How}
use Rattle.link_msg.specs.declared.how.How.TheVariants.{Here, Behind, Reserved, Unreached}
use Rattle.link_msg.specs.declared.message.LinkMsg.{LinkMsg}
use Rattle.link_msg.specs.declared.message.LinkMsg.TheVariants.{Up, End, Line, Ask, Answer}
use Rattle.link_msg.specs.declared.out.Out.{Out}
use Rattle.link_msg.specs.declared.out.Out.TheVariants.{Client, Close, Link, Mark as mark, Told as tell}
use Rattle.mur_base.specs.Map.{with_value}
use Rattle.mur_base.specs.declared.point.AskId.{AskId}
use Rattle.mur_base.specs.declared.point.What.{What}
use Rattle.mur_base.specs.declared.point.What.TheVariants.{Unreached as unreached}
use Rattle.mur_base.proofs.MapLaws.{numbers_apart, same_or_other, value_at-with_entry-other, value_at-with_value, value_at-with_value-other}
use Rattle.mur_model.specs.declared.commands.list.Listing.{Listing}
use Rattle.mur_model.specs.declared.need.Need.{Need}
use Rattle.mur_model.specs.declared.need.Need.TheVariants as needs
use Rattle.mur_model.specs.declared.session.Sess.{Sess}
use Rattle.mur_model.specs.declared.setting.Setting.{Setting}
use Rattle.session_core.specs.Begin.{begin}
use Rattle.session_core.specs.Relocated.{Refused, relocated}

-- how many commands of a connection have begun: those that were answered, and the one that waits or that ended it
abbrev pub begun_at : Stage → ℕ
begun_at Reading = 0
begun_at (Waits tag it) = 1
begun_at (Lists tag it) = 1
begun_at Ended = 1

abbrev pub begun : Connection → ℕ
begun connection = connection.answered + begun_at connection.stage

at_most_one : (stage : Stage) → begun_at stage ≤ 1
at_most_one Reading = omega arith
at_most_one (Waits tag it) = omega arith
at_most_one (Lists tag it) = omega arith
at_most_one Ended = omega arith

-- a command that is answered by the frontend alone is of this connection and beyond so many, one that is refused as a node isn't reached is of this
-- connection, and none is marked
abbrev pub TellsBeyond : ℕ → ℕ → Out → Type 0
TellsBeyond conn most (tell ask Here) = (ask.conn ≡ conn) × (most < ask.command)
TellsBeyond conn most (tell ask (Unreached node)) = ask.conn ≡ conn
TellsBeyond conn most (mark ask counts) = ⊥
TellsBeyond conn most out = ⊤

abbrev pub TellBeyond : ℕ → ℕ → List Out → Type 0
TellBeyond conn most outs = AllByRecursion (TellsBeyond conn most) outs

one_less : (conn most less : ℕ) (out : Out) → less ≤ most → TellsBeyond conn most out → TellsBeyond conn less out
one_less conn most less (tell ask Here) le is = (is.0, omega (arith, le, is.1))
one_less conn most less (tell ask Behind) le is = tt
one_less conn most less (tell ask Reserved) le is = tt
one_less conn most less (tell ask (Unreached node)) le is = is
one_less conn most less (mark ask counts) le is = is
one_less conn most less (Client other bytes) le is = tt
one_less conn most less (Close other) le is = tt
one_less conn most less (Link node message) le is = tt

all_less : (conn most less : ℕ) (outs : List Out) → less ≤ most → TellBeyond conn most outs → TellBeyond conn less outs
all_less conn most less [] le are = tt
all_less conn most less (out ∷ outs) le are = (one_less conn most less out le are.0, all_less conn most less outs le are.1)

both : (conn most : ℕ) (one two : List Out) → TellBeyond conn most one → TellBeyond conn most two → TellBeyond conn most (one ++ two)
both conn most [] two first second = second
both conn most (out ∷ one) two first second = (first.0, both conn most one two first.1 second)

-- ---- one connection

pub record Goes (conn : ℕ) (connection : Connection) (turned : Turned) : Type 0 where
  pub outs : TellBeyond conn (begun connection) turned.outs
  pub more : begun connection ≤ begun turned.connection

module _ (setting : Setting) (ways : Ways) (conn : ℕ) where
  stays : (connection later : Connection) → begun later ≡ begun connection → Goes conn connection (record { connection = later; outs = [] })
  stays connection later same = record { outs = tt; more = omega (arith, same) }

  -- one that reads
  now_goes : (connection : Connection) (session : Sess) (tag : Tag) (reply : Reply) → connection.stage ≡ Reading
      → Goes conn connection (answers_now conn connection session tag reply)
  unfolding told_now
  now_goes connection session tag reply reads =
      let none : begun_at connection.stage ≡ 0 = ap begun_at reads in
      record { outs = (tt, ((refl, omega (arith, none)), tt)); more = omega arith }

  last_goes : (connection : Connection) (tag : Tag) (reply : Reply) → connection.stage ≡ Reading → Goes conn connection (answers_last conn connection tag reply)
  unfolding answers_last
  last_goes connection tag reply reads =
      let none : begun_at connection.stage ≡ 0 = ap begun_at reads in
      record { outs = (tt, ((refl, omega (arith, none)), (tt, tt))); more = omega (arith, none) }

  -- a command begins, for which a message goes out or which is refused; no more than it had begun
  begins_go : (up : Bool) (was connection : Connection) (tag : Tag) (begun_so : Begun) → connection.answered ≡ was.answered → begun_at was.stage ≤ 1
      → Goes conn was (begins_if up conn connection tag begun_so)
  unfolding told_now
  begins_go true was connection tag begun_so same one = record { outs = (tt, tt); more = omega (arith, same, one) }
  begins_go false was connection tag begun_so same one = record { outs = (tt, (refl, tt)); more = omega (arith, same, one) }

  lists_go : (up : Bool) (was connection : Connection) (tag : Tag) (it : Listing) → connection.answered ≡ was.answered → begun_at was.stage ≤ 1
      → Goes conn was (lists_if up ways.master conn connection tag it)
  unfolding told_now
  lists_go true was connection tag it same one = record { outs = (tt, tt); more = omega (arith, same, one) }
  lists_go false was connection tag it same one = record { outs = (tt, (refl, tt)); more = omega (arith, same, one) }

  need_goes : (connection : Connection) (tag : Tag) (need : Need) → connection.stage ≡ Reading
      → Goes conn connection (turned_by_need ways conn connection tag need)
  unfolding turned_by_need
  need_goes connection tag (needs.Reply reply) reads = now_goes connection connection.session tag reply reads
  need_goes connection tag (needs.Leave reply) reads = last_goes connection tag reply reads
  need_goes connection tag (needs.Home name asking) reads = begins_go (is_up ways.ups _) connection connection tag _ refl (omega (arith, ap begun_at reads))
  need_goes connection tag (needs.Names it) reads =
      lists_go (is_up ways.ups ways.master) connection connection tag it refl (omega (arith, ap begun_at reads))

  request_goes : (connection : Connection) (request : Request) → connection.stage ≡ Reading
      → Goes conn connection (request_in setting ways conn connection request)
  unfolding request_in
  request_goes connection (a_command tag it) reads =
      let its =
      need_goes (record connection { session = (begin setting connection.session it).session }) tag (begin setting connection.session it).need reads in
      record { outs = its.outs; more = its.more }
  request_goes connection (unknown tag) reads = now_goes connection connection.session tag _ reads
  request_goes connection (too_big tag) reads = now_goes connection connection.session tag _ reads

  input_goes : (connection : Connection) (input : Input) → connection.stage ≡ Reading → Goes conn connection (input_in setting ways conn connection input)
  unfolding input_in
  input_goes connection (Asks request) reads = request_goes connection request reads
  input_goes connection (GoesOn why) reads = record { outs = (tt, tt); more = omega arith }
  input_goes connection (Faults fault) reads =
      let none : begun_at connection.stage ≡ 0 = ap begun_at reads in record { outs = (tt, (tt, tt)); more = omega (arith, none) }

  comes_goes : (connection : Connection) (input : Input) (stage : Stage) → connection.stage ≡ stage
      → Goes conn connection (comes_at setting ways conn connection input stage)
  unfolding comes_at
  comes_goes connection input Reading e = input_goes connection input e
  comes_goes connection input (Waits tag it) e = record { outs = tt; more = omega arith }
  comes_goes connection input (Lists tag it) e = record { outs = tt; more = omega arith }
  comes_goes connection input Ended e = record { outs = tt; more = omega arith }

  pub inputs_go : (connection : Connection) (inputs : List Input) → Goes conn connection (inputs_come setting ways conn connection inputs)
  unfolding inputs_come input_comes
  inputs_go connection [] = record { outs = tt; more = omega arith }
  inputs_go connection (input ∷ inputs) =
      let turned : Turned = comes_at setting ways conn connection input connection.stage in
      let one = comes_goes connection input connection.stage refl in
      let rest = inputs_go turned.connection inputs in
      record {
        outs = both conn (begun connection) turned.outs (inputs_come setting ways conn turned.connection inputs).outs one.outs
            (all_less conn (begun turned.connection) (begun connection) (inputs_come setting ways conn turned.connection inputs).outs one.more rest.outs);
        more = omega (arith, one.more, rest.more);
      }

  -- one whose command waits

  -- it isn't answered by the frontend alone
  abbrev IsBehind : How → Type 0
  IsBehind Here = ⊥
  IsBehind how = ⊤

  tells_behind : (most : ℕ) (ask : AskId) (how : How) → IsBehind how → ask.conn ≡ conn → TellsBeyond conn most (tell ask how)
  tells_behind most ask Here is own = absurd is
  tells_behind most ask Behind is own = tt
  tells_behind most ask Reserved is own = tt
  tells_behind most ask (Unreached node) is own = own

  refused_behind_it : (cause : What) → IsBehind (how_for cause)
  refused_behind_it (unreached node) = tt
  refused_behind_it cause = tt

  reads_on_goes : (connection : Connection) (how : How) (text : List ℕ) → begun_at connection.stage ≡ 1 → IsBehind how
      → Goes conn connection (reads_on setting ways conn connection how text)
  reads_on_goes connection how text waits is =
      let rest = inputs_go (reading_again connection) connection.waiting in
      record {
        outs = (
          tt,
          (
            tells_behind (begun connection) _ how is refl,
            all_less conn (begun (reading_again connection)) (begun connection)
                (inputs_come setting ways conn (reading_again connection) connection.waiting).outs (omega (arith, waits)) rest.outs,
          ),
        );
        more = omega (arith, waits, rest.more);
      }

  -- the inputs that waited come
  come_goes : (connection : Connection) (turned : Turned) → Goes conn connection turned → Goes conn connection (waiting_come setting ways conn turned)
  come_goes connection turned one =
      let free : Connection = record turned.connection { waiting = [] } in
      let rest = inputs_go free turned.connection.waiting in
      record {
        outs = both conn (begun connection) turned.outs (inputs_come setting ways conn free turned.connection.waiting).outs one.outs
            (all_less conn (begun turned.connection) (begun connection) (inputs_come setting ways conn free turned.connection.waiting).outs one.more rest.outs);
        more = omega (arith, one.more, rest.more);
      }

  behind_goes : (connection : Connection) (tag : Tag) (how : How) (need : Need) → begun_at connection.stage ≡ 1 → IsBehind how
      → Goes conn connection (need_behind setting ways conn connection tag how need)
  behind_goes connection tag how (needs.Reply reply) waits is = reads_on_goes connection how _ waits is
  behind_goes connection tag how (needs.Leave reply) waits is =
      record { outs = (tt, (tells_behind (begun connection) _ how is refl, (tt, tt))); more = omega (arith, waits) }
  behind_goes connection tag how (needs.Home name asking) waits is =
      let reads : Connection = record connection { stage = Reading } in
      come_goes connection (asks ways conn reads tag name asking) (begins_go (is_up ways.ups _) connection reads tag _ refl (omega (arith, waits)))
  behind_goes connection tag how (needs.Names it) waits is =
      let reads : Connection = record connection { stage = Reading } in
      come_goes connection (lists ways conn reads tag it) (lists_go (is_up ways.ups ways.master) connection reads tag it refl (omega (arith, waits)))

  -- the client is told that it is refused
  refusal_goes : (connection : Connection) (tag : Tag) (refused : Refused) (node : List ℕ) → begun_at connection.stage ≡ 1
      → Goes conn connection (refused_behind setting ways conn connection tag refused node)
  refusal_goes connection tag refused node waits =
      let its = reads_on_goes (record connection { session = refused.session }) (Unreached node) (reply_text tag refused.reply) waits tt in
      record { outs = its.outs; more = its.more }

  sends_go : (up : Bool) (connection : Connection) (tag : Tag) (it : Waiting) (sent : Sent) → begun_at connection.stage ≡ 1
      → Goes conn connection (sends_if up setting ways conn connection tag it sent)
  sends_go true connection tag it sent waits = record { outs = (tt, tt); more = omega (arith, waits) }
  sends_go false connection tag it sent waits =
      refusal_goes connection tag (relocated connection.session it.asking.awaited (unreached sent.to)) sent.to waits

  -- its connection ends
  bye_goes : (connection : Connection) → begun_at connection.stage ≡ 1 → Goes conn connection (says_bye conn connection lost_bye)
  bye_goes connection waits = record { outs = (tt, (tt, tt)); more = omega (arith, waits) }

  then_goes : (connection : Connection) (tag : Tag) (it : Waiting) (what : Then) → begun_at connection.stage ≡ 1
      → Goes conn connection (by_then setting ways conn connection tag it what)
  then_goes connection tag it (then.Sends sent) waits = sends_go (is_up ways.ups sent.to) connection tag it sent waits
  then_goes connection tag it (then.Needs need) waits = behind_goes connection tag Behind need waits tt
  then_goes connection tag it (then.Refused cause reply) waits =
      reads_on_goes connection (how_for cause) (reply_text tag reply) waits (refused_behind_it cause)
  then_goes connection tag it then.Lost waits = bye_goes connection waits
  then_goes connection tag it then.Stays waits = record { outs = tt; more = omega arith }

  went_goes : (connection : Connection) (tag : Tag) (next : WentOn) → begun_at connection.stage ≡ 1
      → Goes conn connection (by_then setting ways conn (record connection { session = next.session }) tag next.waiting next.then)
  went_goes connection tag next waits =
      let its = then_goes (record connection { session = next.session }) tag next.waiting next.then waits in record { outs = its.outs; more = its.more }

  answer_goes_by : (connection : Connection) (answer : BackAnswer) (fits : Bool) (stage : Stage) → connection.stage ≡ stage
      → Goes conn connection (answer_by setting ways conn connection answer fits stage)
  unfolding answer_by
  answer_goes_by connection answer true (Waits tag it) e =
      went_goes connection tag
      (answered ways.master (record { conn = conn; command = connection.answered + 1 }) connection.session it answer.body) (ap begun_at e)
  answer_goes_by connection answer true (Lists tag it) e = record { outs = tt; more = omega arith }
  answer_goes_by connection answer true Reading e = record { outs = tt; more = omega arith }
  answer_goes_by connection answer true Ended e = record { outs = tt; more = omega arith }
  answer_goes_by connection answer false stage e = record { outs = tt; more = omega arith }

  pub answer_goes : (connection : Connection) (answer : BackAnswer) → Goes conn connection (answer_comes setting ways conn connection answer)
  unfolding answer_comes
  answer_goes connection answer = answer_goes_by connection answer _ connection.stage refl

  clears_go : (connection : Connection) (tag : Tag) (it : Waiting) (at : At) → begun_at connection.stage ≡ 1
      → Goes conn connection (clears_at setting ways conn connection tag it at)
  clears_go connection tag it (Home server) waits = record { outs = tt; more = omega arith }
  clears_go connection tag it (Barrier why) waits =
      went_goes connection tag
      (cleared ways.recs ways.master ways.first (record { conn = conn; command = connection.answered + 1 }) connection.session it why) waits

  ok_goes_by : (connection : Connection) (fits : Bool) (stage : Stage) → connection.stage ≡ stage
      → Goes conn connection (ok_by setting ways conn connection fits stage)
  unfolding ok_by
  ok_goes_by connection true (Waits tag it) e = clears_go connection tag it it.at (ap begun_at e)
  ok_goes_by connection true (Lists tag it) e = reads_on_goes connection Behind _ (ap begun_at e) tt
  ok_goes_by connection true Reading e = record { outs = tt; more = omega arith }
  ok_goes_by connection true Ended e = record { outs = tt; more = omega arith }
  ok_goes_by connection false stage e = record { outs = tt; more = omega arith }

  pub ok_goes : (connection : Connection) (id : AskId) → Goes conn connection (ok_comes setting ways conn connection id)
  unfolding ok_comes
  ok_goes connection id = ok_goes_by connection _ connection.stage refl

  -- the link to the node for which it waits ends
  ends_go : (connection : Connection) (tag : Tag) (it : Waiting) (at : At) → begun_at connection.stage ≡ 1
      → Goes conn connection (ends_at setting ways conn connection tag it at)
  ends_go connection tag it (Home server) waits = bye_goes connection waits
  ends_go connection tag it (Barrier why) waits =
      refusal_goes connection tag (relocated connection.session it.asking.awaited (unreached ways.master)) ways.master waits

  end_goes_by : (connection : Connection) (stage : Stage) → connection.stage ≡ stage → Goes conn connection (end_by setting ways conn connection stage)
  unfolding end_by
  end_goes_by connection (Waits tag it) e = ends_go connection tag it it.at (ap begun_at e)
  end_goes_by connection (Lists tag it) e = refusal_goes connection tag (list_refused connection.session) ways.master (ap begun_at e)
  end_goes_by connection Reading e = record { outs = tt; more = omega arith }
  end_goes_by connection Ended e = record { outs = tt; more = omega arith }

  pub end_goes : (connection : Connection) → Goes conn connection (end_comes setting ways conn connection)
  end_goes connection = end_goes_by connection connection.stage refl

-- ---- a frontend

-- so many commands of a connection have begun there
pub record HasBegun (front : Front) (conn number : ℕ) : Type 0 where
  pub connection : Connection
  pub at : connection_at front conn ≡ Some connection
  pub most : number ≤ begun connection

-- a command that it answers alone hadn't begun
pub record AnswersAlone (front : Front) (ask : AskId) : Type 0 where
  pub connection : Connection
  pub at : connection_at front ask.conn ≡ Some connection
  pub beyond : begun connection < ask.command

-- a command's connection is there
pub record HasItsConnection (front : Front) (ask : AskId) : Type 0 where
  pub connection : Connection
  pub at : connection_at front ask.conn ≡ Some connection

abbrev pub FrontTells : Front → Out → Type 0
FrontTells front (tell ask Here) = AnswersAlone front ask
FrontTells front (tell ask (Unreached node)) = HasItsConnection front ask
FrontTells front (mark ask counts) = ⊥
FrontTells front out = ⊤

pub record FrontGoes (front : Front) (next : Stepped) : Type 0 where
  pub outs : AllByRecursion (FrontTells front) next.outs
  pub more : (conn number : ℕ) → HasBegun front conn number → HasBegun next.front conn number

nothing_goes : (front : Front) → FrontGoes front (still front)
nothing_goes front = record { outs = tt; more = λ conn number has. has }

-- in whatever order the asks go
ordered_goes : (front : Front) (next : Stepped) → FrontGoes front next → FrontGoes front (with_asks_in_order next)
ordered_goes front next its = record { outs = outs_all (FrontTells front) next.outs its.outs; more = its.more }

same_connection : {one other : Connection} → Some one ≡ Some other → one ≡ other
same_connection e = cc

released_begun : (connection : Connection) → begun (released connection) ≡ begun connection
unfolding released_at
released_begun connection = by connection.stage refl
  where
    by : (stage : Stage) → connection.stage ≡ stage → begun (released_at connection stage) ≡ begun connection
    by Reading e = refl
    by (Waits tag it) e = refl
    by (Lists tag it) e = refl
    by Ended e = ap (λ (n : ℕ). connection.answered + n) (sym (ap begun_at e))

module _ (front : Front) (conn : ℕ) (connection : Connection) (at : connection_at front conn ≡ Some connection) where
  out_tells : (out : Out) → TellsBeyond conn (begun connection) out → FrontTells front out
  out_tells (tell ask Here) is = record { connection = connection; at = ap (connection_at front) is.0 ∙ at; beyond = is.1 }
  out_tells (tell ask Behind) is = tt
  out_tells (tell ask Reserved) is = tt
  out_tells (tell ask (Unreached node)) is = record { connection = connection; at = ap (connection_at front) is ∙ at }
  out_tells (mark ask counts) is = is
  out_tells (Client other bytes) is = tt
  out_tells (Close other) is = tt
  out_tells (Link node message) is = tt

  outs_tell : (outs : List Out) → TellBeyond conn (begun connection) outs → AllByRecursion (FrontTells front) outs
  outs_tell [] are = tt
  outs_tell (out ∷ outs) are = (out_tells out are.0, outs_tell outs are.1)

  changed_has : (later : Connection) → begun connection ≤ begun later → (other number : ℕ) → HasBegun front other number
      → HasBegun (record front { connections = with_value nat_cmp front.connections conn later }) other number
  changed_has later le other number has = by (same_or_other nat_cmp numbers_apart other conn)
    where
      by : (other ≡ conn) ⊎ (other ≢ conn) → HasBegun (record front { connections = with_value nat_cmp front.connections conn later }) other number
      by (inl e) =
          let same : has.connection ≡ connection = same_connection (sym has.at ∙ ap (connection_at front) e ∙ at) in
          record {
            connection = later;
            at = ap (connection_at (record front { connections = with_value nat_cmp front.connections conn later })) e
                ∙ value_at-with_value nat_cmp numbers_apart front.connections conn later connection at;
            most = omega (arith, has.most, le, ap begun same);
          }
      by (inr ne) =
          record {
            connection = has.connection;
            at = value_at-with_value-other nat_cmp numbers_apart front.connections conn other later ne ∙ has.at;
            most = has.most;
          }

  turned_goes : (turned : Turned) → Goes conn connection turned → FrontGoes front (with_turned front conn turned)
  turned_goes turned goes = record {
    outs = outs_tell turned.outs goes.outs;
    more = changed_has (released turned.connection) (omega (arith, goes.more, released_begun turned.connection));
  }

  -- what the frontend answers alone then, it would have answered alone before
  told_before : (turned : Turned) → Goes conn connection turned → (out : Out) → FrontTells (with_turned front conn turned).front out → FrontTells front out
  told_before turned goes (tell ask Here) is = by (same_or_other nat_cmp numbers_apart ask.conn conn)
    where
      now : Front
      now = (with_turned front conn turned).front

      by : (ask.conn ≡ conn) ⊎ (ask.conn ≢ conn) → AnswersAlone front ask
      by (inl e) =
          let same : is.connection ≡ released turned.connection = same_connection (sym is.at ∙ ap (connection_at now) e
          ∙ value_at-with_value nat_cmp numbers_apart front.connections conn (released turned.connection) connection at) in
          record {
            connection = connection;
            at = ap (connection_at front) e ∙ at;
            beyond = omega (arith, is.beyond, goes.more, released_begun turned.connection, ap begun same);
          }
      by (inr ne) = record {
        connection = is.connection;
        at = sym (value_at-with_value-other nat_cmp numbers_apart front.connections conn ask.conn (released turned.connection) ne) ∙ is.at;
        beyond = is.beyond;
      }
  told_before turned goes (tell ask Behind) is = tt
  told_before turned goes (tell ask Reserved) is = tt
  told_before turned goes (tell ask (Unreached node)) is = by (same_or_other nat_cmp numbers_apart ask.conn conn)
    where
      by : (ask.conn ≡ conn) ⊎ (ask.conn ≢ conn) → HasItsConnection front ask
      by (inl e) = record { connection = connection; at = ap (connection_at front) e ∙ at }
      by (inr ne) = record {
        connection = is.connection;
        at = sym (value_at-with_value-other nat_cmp numbers_apart front.connections conn ask.conn (released turned.connection) ne) ∙ is.at;
      }
  told_before turned goes (mark ask counts) is = is
  told_before turned goes (Client other bytes) is = tt
  told_before turned goes (Close other) is = tt
  told_before turned goes (Link node message) is = tt

-- one step of a frontend, and then others
record GoesFurther (front : Front) (next : Stepped) : Type 0 where
  goes : FrontGoes front next
  before : (out : Out) → FrontTells next.front out → FrontTells front out

all_before : (front now : Front) (outs : List Out) → ((out : Out) → FrontTells now out → FrontTells front out) → AllByRecursion (FrontTells now) outs
    → AllByRecursion (FrontTells front) outs
all_before front now [] before tell_so = tt
all_before front now (out ∷ outs) before tell_so = (before out tell_so.0, all_before front now outs before tell_so.1)

join : (front : Front) (one two : List Out) → AllByRecursion (FrontTells front) one → AllByRecursion (FrontTells front) two
    → AllByRecursion (FrontTells front) (one ++ two)
join front [] two first second = second
join front (out ∷ one) two first second = (first.0, join front one two first.1 second)

further : (front : Front) (one two : Stepped) → GoesFurther front one → GoesFurther one.front two → GoesFurther front (behind_them one.outs two)
further front one two first second = record {
  goes = record {
    outs = join front one.outs two.outs first.goes.outs (all_before front one.front two.outs first.before second.goes.outs);
    more = λ conn number has. second.goes.more conn number (first.goes.more conn number has);
  };
  before = λ out is. first.before out (second.before out is);
}

no_further : (front : Front) → GoesFurther front (still front)
no_further front = record { goes = nothing_goes front; before = λ out is. is }

-- it notes which links are up
noted_goes : (front : Front) (ups : Ups) → GoesFurther front (still (record front { ups = ups }))
noted_goes front ups = record {
  goes = record { outs = tt; more = λ conn number has. record { connection = has.connection; at = has.at; most = has.most } };
  before = before;
}
  where
    before : (out : Out) → FrontTells (record front { ups = ups }) out → FrontTells front out
    before (tell ask Here) is = record { connection = is.connection; at = is.at; beyond = is.beyond }
    before (tell ask Behind) is = tt
    before (tell ask Reserved) is = tt
    before (tell ask (Unreached node)) is = record { connection = is.connection; at = is.at }
    before (mark ask counts) is = is
    before (Client other bytes) is = tt
    before (Close other) is = tt
    before (Link node message) is = tt

ends_further : (front : Front) (conn : ℕ) (found : Option Connection) → connection_at front conn ≡ found → GoesFurther front (end_at front conn found)
unfolding end_at
ends_further front conn None at = no_further front
ends_further front conn (Some connection) at =
    let goes = end_goes front.setting (ways_of front) conn connection in
    let turned : Turned = end_comes front.setting (ways_of front) conn connection in
    record { goes = turned_goes front conn connection at turned goes; before = told_before front conn connection at turned goes }

one_further : (front : Front) (conn : ℕ) (test : Bool) → GoesFurther front (end_if test front conn)
one_further front conn true = ends_further front conn (connection_at front conn) refl
one_further front conn false = no_further front

all_further : (front : Front) (node : List ℕ) (conns : List ℕ) → GoesFurther front (all_end front node conns)
unfolding all_end
all_further front node [] = no_further front
all_further front node (conn ∷ conns) =
    let one : Stepped = one_ends front node conn in
    further front one (all_end one.front node conns) (one_further front conn (awaited front.master (connection_at front conn) node))
    (all_further one.front node conns)

connects : (front : Front) (conn : ℕ) (found : Option Connection) → connection_at front conn ≡ found → FrontGoes front (connect_at front conn found)
unfolding connect_at
connects front conn (Some there) at = nothing_goes front
connects front conn None at = record { outs = (tt, tt); more = more }
  where
    more : (other number : ℕ) → HasBegun front other number → HasBegun (connect_at front conn None).front other number
    more other number has = by (same_or_other nat_cmp numbers_apart other conn)
      where
        by : (other ≡ conn) ⊎ (other ≢ conn) → HasBegun (connect_at front conn None).front other number
        by (inl e) = absurd (let no : None ≡ Some has.connection = sym at ∙ ap (connection_at front) (sym e) ∙ has.at in cc)
        by (inr ne) = record {
          connection = has.connection;
          at = value_at-with_entry-other nat_cmp numbers_apart front.connections conn other _ ne ∙ has.at;
          most = has.most;
        }

reads_go : (front : Front) (conn : ℕ) (bytes : List ℕ) (connection : Connection) → connection_at front conn ≡ Some connection
    → FrontGoes front (with_turned front conn
    (inputs_come front.setting (ways_of front) conn (having_read front.setting connection bytes) (inputs_of_more front.setting connection.reader bytes)))
reads_go front conn bytes connection at =
    let its =
    inputs_go front.setting (ways_of front) conn (having_read front.setting connection bytes) (inputs_of_more front.setting connection.reader bytes) in
    turned_goes front conn connection at _ (record { outs = its.outs; more = its.more })

bytes_go_by : (front : Front) (conn : ℕ) (bytes : List ℕ) (connection : Connection) (stage : Stage) → connection_at front conn ≡ Some connection
    → FrontGoes front (bytes_by front conn bytes connection stage)
unfolding bytes_by
bytes_go_by front conn bytes connection Ended at = nothing_goes front
bytes_go_by front conn bytes connection Reading at = reads_go front conn bytes connection at
bytes_go_by front conn bytes connection (Waits tag it) at = reads_go front conn bytes connection at
bytes_go_by front conn bytes connection (Lists tag it) at = reads_go front conn bytes connection at

bytes_go : (front : Front) (conn : ℕ) (bytes : List ℕ) (found : Option Connection) → connection_at front conn ≡ found
    → FrontGoes front (front_bytes_at front conn bytes found)
unfolding front_bytes_at
bytes_go front conn bytes None at = nothing_goes front
bytes_go front conn bytes (Some connection) at = bytes_go_by front conn bytes connection connection.stage at

hangs : (front : Front) (conn : ℕ) (found : Option Connection) → connection_at front conn ≡ found
    → FrontGoes front (record { front = front_hang_at front conn found; outs = [] })
unfolding front_hang_at
hangs front conn None at = nothing_goes front
hangs front conn (Some connection) at =
    record { outs = tt; more = changed_has front conn connection at (hung_up connection) (omega (arith, at_most_one connection.stage)) }

answered_goes : (front : Front) (answer : BackAnswer) (found : Option Connection) → connection_at front (answer.id).conn ≡ found
    → FrontGoes front (answer_at front answer found)
unfolding answer_at
answered_goes front answer None at = nothing_goes front
answered_goes front answer (Some connection) at =
    turned_goes front (answer.id).conn connection at _ (answer_goes front.setting (ways_of front) (answer.id).conn connection answer)

answers_go : (front : Front) (answer : BackAnswer) (is_asked : Bool) → FrontGoes front (answer_from is_asked front answer)
unfolding answer_from
answers_go front answer true = answered_goes front answer (connection_at front (answer.id).conn) refl
answers_go front answer false = nothing_goes front

ok_goes_at : (front : Front) (id : AskId) (found : Option Connection) → connection_at front id.conn ≡ found → FrontGoes front (ok_at front id found)
unfolding ok_at
ok_goes_at front id None at = nothing_goes front
ok_goes_at front id (Some connection) at = turned_goes front id.conn connection at _ (ok_goes front.setting (ways_of front) id.conn connection id)

heard_goes : (front : Front) (bytes : List ℕ) (found : Option AskId) → FrontGoes front (line_by front bytes found)
heard_goes front bytes None =
    record { outs = tt; more = λ conn number has. record { connection = has.connection; at = has.at; most = has.most } }
heard_goes front bytes (Some id) = ok_goes_at front id (connection_at front id.conn) refl

lines_go : (front : Front) (bytes : List ℕ) (is_master : Bool) → FrontGoes front (line_from is_master front bytes)
unfolding line_from
lines_go front bytes true = heard_goes front bytes (barrier_answered bytes)
lines_go front bytes false = nothing_goes front

ups_go : (front : Front) (from : List ℕ) (is_master : Bool) → FrontGoes front (up_from is_master (with_up front from))
unfolding up_from
ups_go front from true = record { outs = (tt, tt); more = λ conn number has. record { connection = has.connection; at = has.at; most = has.most } }
ups_go front from false = (noted_goes front (coming_up front.ups from)).goes

-- whatever comes to it

pub connect_goes : (front : Front) (conn : ℕ) → FrontGoes front (connect front conn)
unfolding connect
connect_goes front conn = connects front conn (connection_at front conn) refl

pub bytes_in_go : (front : Front) (conn : ℕ) (bytes : List ℕ) → FrontGoes front (bytes_in front conn bytes)
unfolding bytes_in
bytes_in_go front conn bytes = bytes_go front conn bytes (connection_at front conn) refl

pub hang_goes : (front : Front) (conn : ℕ) → FrontGoes front (record { front = hang front conn; outs = [] })
unfolding hang
hang_goes front conn = hangs front conn (connection_at front conn) refl

pub message_goes : (front : Front) (from : List ℕ) (message : LinkMsg) → FrontGoes front (deliver front from message)
unfolding deliver
message_goes front from (Answer answer) = answers_go front answer (waits_for (connection_at front (answer.id).conn) from)
message_goes front from (Line line) = lines_go front line (pointwise nat_eq from front.master)
message_goes front from Up = ups_go front from (pointwise nat_eq from front.master)
message_goes front from End =
    let ended : Stepped = all_end (without_up front from) from (keys_of front.connections) in
    ordered_goes front ended
    (further front (still (without_up front from)) ended (noted_goes front (going_down front.ups from))
    (all_further (without_up front from) from (keys_of front.connections))).goes
message_goes front from (Ask ask) = nothing_goes front
