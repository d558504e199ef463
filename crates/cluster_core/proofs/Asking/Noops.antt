-- The lines of a frontend: its UPDATE, and the NOOP of a command that its connection then holds back, which needs it. Where the link to the master ends, it
-- sends none.
use Rattle.std.proofs.Common.{◌≡◌, ◌≢◌, ℕ, ◌+◌, nat_eq, Bool, true, false, List, [], ◌∷◌, ◌++◌, Option, None, Some, refl, sym, ap, ◌∙◌, subst, eqb-true}
use Rattle.std.specs.Prelude.{⊤, ◌==◌}
use Rattle.std.specs.List.{AllByRecursion}
use Rattle.std.specs.Ordering.{nat_cmp}
use Rattle.std.specs.Map.{keys_of}
use Rattle.std.specs.Cmp.Lexicographic.{pointwise, slice_cmp}
use Rattle.std.proofs.Math.Logic.{⊎_elim}
use Rattle.ask_routes.specs.Barrier.{barrier_answered, noop_line}
use Rattle.ask_routes.specs.Ways.{ask_for, behind_ok, first_step, mailbox_first}
use Rattle.ask_routes.specs.WayLaws.{IsBehind}
use Rattle.ask_routes.specs.declared.ask_for.AskFor.{AskFor}
use Rattle.ask_routes.specs.declared.next.Next.{Next}
use Rattle.ask_routes.specs.declared.next.Next.TheVariants as next
use Rattle.ask_routes.specs.declared.next.Why.{Why}
use Rattle.ask_routes.specs.declared.next.Why.TheVariants.{Missing}
use Rattle.ask_routes.proofs.WayLaw.{each_behind}
use Rattle.asking_core.specs.Answered.{answered, goes_on, needs_by}
use Rattle.asking_core.specs.Begins.{Begun, at_barrier, first_by, first_sent}
use Rattle.asking_core.specs.Cleared.{cleared}
use Rattle.asking_core.specs.declared.then.Then.{Then}
use Rattle.asking_core.specs.declared.then.Then.TheVariants as then
use Rattle.asking_core.specs.declared.waiting.At.{At}
use Rattle.asking_core.specs.declared.waiting.At.TheVariants.{Home, Barrier}
use Rattle.asking_core.specs.declared.waiting.Sent.{Sent}
use Rattle.asking_core.specs.declared.waiting.Waiting.{Waiting}
use Rattle.feed_core.specs.Feed.{rec_at}
use Rattle.feed_core.specs.Routes.{server_by}
use Rattle.feed_core.specs.declared.rec.Rec.{Rec}
use Rattle.feed_links.proofs.FeedLaw.{both}
use Rattle.front_core.specs.Answered.{answer_by, answer_comes, by_then, clears_at, end_by, end_comes, ends_at, need_behind, ok_by, ok_comes, reading_again, refused_behind, sends_if, waiting_come}
use Rattle.front_core.specs.Ended.{released, released_at}
use Rattle.front_core.specs.Front.{Stepped, all_end, answer_at, answer_from, awaited, bytes_by, bytes_in, connect, connect_at, connection_at, deliver, end_at, end_from, end_if, front_bytes_at}
use Rattle.front_core.specs.Front.{having_read, line_by, line_from, ok_at, one_ends, up_from, waits_for, ways_of, with_turned, with_up, without_up}
use Rattle.front_core.specs.Reading.{inputs_of_more}
use Rattle.front_core.specs.Taken.{Turned, Ways, answers_last, asks, begins_if, comes_at, input_comes, input_in, inputs_come, list_refused, lists, lists_if, next_of, request_in}
use Rattle.front_core.specs.Taken.{to_begin, told_now, turned_by_need}
use Rattle.front_core.specs.Ups.{is_up}
use Rattle.front_core.specs.declared.connection.Connection.{Connection}
use Rattle.front_core.specs.declared.connection.Stage.{Stage}
use Rattle.front_core.specs.declared.connection.Stage.TheVariants.{Reading, Waits, Lists, Ended}
use Rattle.front_core.specs.declared.front.Front.{Front}
use Rattle.front_core.proofs.FramesLaws.{HoldsBack, held_back}
use Rattle.front_core.proofs.AskOrder.{outs_all}
use Rattle.front_core.proofs.OwnOuts.{AreLetOut, IsLetOut, one_ways}
use Rattle.front_core.proofs.UpsLaws.{down_goes}
use Rattle.imap_talk.specs.declared.inputs.Input.{Input}
use Rattle.imap_talk.specs.declared.inputs.Input.TheVariants.{GoesOn, Asks, Faults}
use Rattle.imap_types.specs.declared.command.Tag.{Tag}
use Rattle.imap_types.specs.declared.op.Op.{Op}
use Rattle.imap_types.specs.declared.op.Op.TheVariants as op
use Rattle.imap_types.specs.declared.request.Request.{Request}
use Rattle.imap_types.specs.declared.request.Request.TheVariants.{Command as a_command, Unknown as unknown, TooBig as too_big}
use Rattle.link_msg.specs.declared.answer.AnswerBody.{AnswerBody}
use Rattle.link_msg.specs.declared.answer.AnswerBody.TheVariants as answer_body
use Rattle.link_msg.specs.declared.answer.BackAnswer.{BackAnswer}
use Rattle.link_msg.specs.declared.how.How.{How}
use Rattle.link_msg.specs.declared.how.How.TheVariants.{Behind}
use Rattle.link_msg.specs.declared.message.LinkMsg.{LinkMsg}
use Rattle.link_msg.specs.declared.message.LinkMsg.TheVariants.{Up, End, Line, Ask, Answer}
use Rattle.link_msg.specs.declared.out.Out.{Out}
use Rattle.link_msg.specs.declared.out.Out.TheVariants.{Client, Close, Link, Mark, Told}
use Rattle.mur_base.specs.Map.{IsInOrder}
use Rattle.mur_base.specs.declared.point.AskId.{AskId}
use Rattle.mur_base.specs.declared.point.What.TheVariants.{Unreached as unreached}
use Rattle.mur_base.proofs.MapLaws.{names_apart, numbers_apart, same_or_other, value_at-with_value}
use Rattle.mur_model.specs.declared.commands.list.Listing.{Listing}
use Rattle.mur_model.specs.declared.need.Asking.{Asking}
use Rattle.mur_model.specs.declared.need.Need.{Need}
use Rattle.mur_model.specs.declared.need.Need.TheVariants as needs
use Rattle.mur_model.specs.declared.session.Sess.{Sess}
use Rattle.mur_model.specs.declared.setting.Setting.{Setting}
use Rattle.session_core.specs.Begin.{begin}
use Rattle.session_core.specs.Relocated.{Refused, relocated}
use Rattle.cluster_core.specs.Headline.Asks.{IsNeeded, IsRightLine}
use Rattle.cluster_core.specs.Headline.Asks.IsNeeded.{to_list, is_unknown, is_put_off}
use Rattle.cluster_core.specs.Headline.Asks.IsRightLine.{is_update, is_noop}
use Rattle.cluster_core.proofs.Asking.ServerEnds.{IsForClient, server_ends}
use Rattle.cluster_core.proofs.Runs.QuietNodes.{AnyClient}

-- an output is no line
abbrev pub IsNoLine : Out → Type 0
IsNoLine (Link node (Line bytes)) = ⊥
IsNoLine out = ⊤

-- ---- a connection

module _ (taken : Option LinkMsg) (ways : Ways) (conn : ℕ) where
  -- the command of this number waits for the master's OK
  abbrev IsNeededFor : Connection → Type 0
  IsNeededFor c = IsNeeded taken ways.recs (next_of conn c) c.stage

  -- a line that goes out is the NOOP of the command that the connection holds back, and the link to the master is up
  pub record FitsLine (c : Connection) (node bytes : List ℕ) : Type 0 where
    pub to : node ≡ ways.master
    pub is : bytes ≡ noop_line (next_of conn c)
    pub needed : IsNeededFor c
    pub up : is_up ways.ups node ≡ true

  abbrev pub Fits : Connection → Out → Type 0
  Fits c (Link node (Line bytes)) = FitsLine c node bytes
  Fits c out = ⊤

  abbrev AllFit : Connection → List Out → Type 0
  AllFit c outs = AllByRecursion (Fits c) outs

  abbrev pub AllFitOf : Turned → Type 0
  AllFitOf turned = AllFit turned.connection turned.outs

  both_fit : (c : Connection) (one two : List Out) → AllFit c one → AllFit c two → AllFit c (one ++ two)
  both_fit c [] two first second = second
  both_fit c (out ∷ one) two first second = (first.0, both_fit c one two first.1 second)

  pub holds_back : (recs_stage : Stage) (id : AskId) → IsNeeded taken ways.recs id recs_stage → HoldsBack recs_stage
  holds_back stage id (to_list tag listing is) = subst HoldsBack (sym is) tt
  holds_back stage id (is_unknown tag it is at none other) = subst HoldsBack (sym is) tt
  holds_back stage id (is_put_off tag it is at from) = subst HoldsBack (sym is) tt

  -- what comes then changes neither what the connection is at nor the number of its command
  fit_kept : (setting : Setting) (c : Connection) (inputs : List Input) (out : Out) → Fits c out → Fits (inputs_come setting ways conn c inputs).connection out
  fit_kept setting c inputs (Link node (Line bytes)) fits =
      subst (λ (t : Turned). Fits t.connection (Link node (Line bytes)))
      (sym (held_back setting ways conn c inputs (holds_back c.stage (next_of conn c) fits.needed)))
      (record { to = fits.to; is = fits.is; needed = fits.needed; up = fits.up })
  fit_kept setting c inputs out fits = tt

  all_kept : (setting : Setting) (c : Connection) (inputs : List Input) (outs : List Out) → AllFit c outs
      → AllFit (inputs_come setting ways conn c inputs).connection outs
  all_kept setting c inputs [] fit = tt
  all_kept setting c inputs (out ∷ outs) fit = (fit_kept setting c inputs out fit.0, all_kept setting c inputs outs fit.1)

  -- what goes out for a command that waits so, where the link is up
  abbrev ThenFits : Connection → Tag → Waiting → Then → Type 0
  ThenFits c tag it (then.Sends sent) = (is_up ways.ups sent.to ≡ true → Fits (record c { stage = Waits tag it }) (Link sent.to sent.message))
  ThenFits c tag it what = ⊤

  needs_fit : (c : Connection) (tag : Tag) (it : Waiting) (found : Option Need) → ThenFits c tag it (needs_by found)
  needs_fit c tag it None = tt
  needs_fit c tag it (Some need) = tt

  -- ---- a command begins

  abbrev FirstFits : Connection → Tag → Waiting → Next → Type 0
  FirstFits c tag it found = let begun = first_by ways.master (next_of conn c) c.session it found in ThenFits c tag begun.waiting (then.Sends begun.sent)

  mailbox_fits : (c : Connection) (tag : Tag) (it : Waiting) (found : Option Rec) → it.asking.op ≢ op.Create → rec_at ways.recs it.name ≡ found
      → FirstFits c tag it (mailbox_first (server_by found))
  mailbox_fits c tag it None other is =
      λ up. (record { to = refl; is = refl; needed = is_unknown tag (at_barrier it Missing) refl refl is other; up = up })
  mailbox_fits c tag it (Some found) other is = λ up. tt

  first_fits : (c : Connection) (tag : Tag) (it : Waiting) (asks : Op) → it.asking.op ≡ asks
      → FirstFits c tag it (first_step ways.recs ways.first (ask_for it.name asks))
  first_fits c tag it op.Create is = λ up. tt
  first_fits c tag it asks is =
      mailbox_fits c tag it (rec_at ways.recs it.name) (λ e. (let no : asks ≡ op.Create = sym is ∙ e in cc)) refl

  -- where the link is up
  begins_fit : (up : Bool) (c : Connection) (tag : Tag) (begun : Begun) → is_up ways.ups begun.sent.to ≡ up
      → ThenFits c tag begun.waiting (then.Sends begun.sent) → AllFitOf (begins_if up conn c tag begun)
  unfolding told_now
  begins_fit true c tag begun e fits = (fits e, tt)
  begins_fit false c tag begun e fits = (tt, (tt, tt))

  asks_fit : (c : Connection) (tag : Tag) (name : List ℕ) (asking : Asking) → AllFitOf (asks ways conn c tag name asking)
  unfolding first_sent
  asks_fit c tag name asking =
      let begun = first_sent ways.recs ways.master ways.first (next_of conn c) c.session (to_begin name asking) in
      begins_fit (is_up ways.ups begun.sent.to) c tag begun refl (first_fits c tag (to_begin name asking) asking.op refl)

  begin_lists_fit : (up : Bool) (c : Connection) (tag : Tag) (listing : Listing) → is_up ways.ups ways.master ≡ up
      → AllFitOf (lists_if up ways.master conn c tag listing)
  unfolding told_now
  begin_lists_fit true c tag listing e = (record { to = refl; is = refl; needed = to_list tag listing refl; up = e }, tt)
  begin_lists_fit false c tag listing e = (tt, (tt, tt))

  lists_fit : (c : Connection) (tag : Tag) (listing : Listing) → AllFitOf (lists ways conn c tag listing)
  lists_fit c tag listing = begin_lists_fit (is_up ways.ups ways.master) c tag listing refl

  need_fits : (c : Connection) (tag : Tag) (need : Need) → AllFitOf (turned_by_need ways conn c tag need)
  unfolding turned_by_need told_now answers_last
  need_fits c tag (needs.Reply reply) = (tt, (tt, tt))
  need_fits c tag (needs.Leave reply) = (tt, (tt, (tt, tt)))
  need_fits c tag (needs.Home name asking) = asks_fit c tag name asking
  need_fits c tag (needs.Names listing) = lists_fit c tag listing

  module _ (setting : Setting) where
    request_fits : (c : Connection) (request : Request) → AllFitOf (request_in setting ways conn c request)
    unfolding request_in told_now
    request_fits c (a_command tag it) =
        let behind = begin setting c.session it in
        need_fits (record c { session = behind.session }) tag behind.need
    request_fits c (unknown tag) = (tt, (tt, tt))
    request_fits c (too_big tag) = (tt, (tt, tt))

    input_fits : (c : Connection) (input : Input) → AllFitOf (input_in setting ways conn c input)
    unfolding input_in
    input_fits c (Asks request) = request_fits c request
    input_fits c (GoesOn why) = (tt, tt)
    input_fits c (Faults fault) = (tt, (tt, tt))

    comes_fits : (c : Connection) (input : Input) (stage : Stage) → AllFitOf (comes_at setting ways conn c input stage)
    unfolding comes_at
    comes_fits c input Reading = input_fits c input
    comes_fits c input (Waits tag it) = tt
    comes_fits c input (Lists tag it) = tt
    comes_fits c input Ended = tt

    pub inputs_fit : (c : Connection) (inputs : List Input) → AllFitOf (inputs_come setting ways conn c inputs)
    unfolding inputs_come input_comes
    inputs_fit c [] = tt
    inputs_fit c (input ∷ inputs) =
        let turned = comes_at setting ways conn c input c.stage in
        let rest = inputs_come setting ways conn turned.connection inputs in
        both_fit rest.connection turned.outs rest.outs
        (all_kept setting turned.connection inputs turned.outs (comes_fits c input c.stage)) (inputs_fit turned.connection inputs)

    -- ---- a command goes on

    -- the inputs that wait come behind what was let out
    free_fits : (c : Connection) (outs : List Out) → AllFit c outs → AllFit (record c { waiting = [] }) outs
    free_fits c [] fit = tt
    free_fits c (Link node (Line bytes) ∷ outs) fit =
        let line = fit.0 in
        (record { to = line.to; is = line.is; needed = line.needed; up = line.up }, free_fits c outs fit.1)
    free_fits c (out ∷ outs) fit = (tt, free_fits c outs fit.1)

    come_fits : (turned : Turned) → AllFitOf turned → AllFitOf (waiting_come setting ways conn turned)
    come_fits turned fit =
        let free : Connection = record turned.connection { waiting = [] } in
        let rest = inputs_come setting ways conn free turned.connection.waiting in
        both_fit rest.connection turned.outs rest.outs
        (all_kept setting free turned.connection.waiting turned.outs (free_fits turned.connection turned.outs fit))
        (inputs_fit free turned.connection.waiting)

    refused_fits : (c : Connection) (tag : Tag) (refused : Refused) (node : List ℕ) → AllFitOf (refused_behind setting ways conn c tag refused node)
    refused_fits c tag refused node = (tt, (tt, inputs_fit (reading_again (record c { session = refused.session })) c.waiting))

    sends_fit : (up : Bool) (c : Connection) (tag : Tag) (it : Waiting) (sent : Sent) → is_up ways.ups sent.to ≡ up → ThenFits c tag it (then.Sends sent)
        → AllFitOf (sends_if up setting ways conn c tag it sent)
    sends_fit true c tag it sent e fits = (fits e, tt)
    sends_fit false c tag it sent e fits = refused_fits c tag (relocated c.session it.asking.awaited (unreached sent.to)) sent.to

    behind_fits : (c : Connection) (tag : Tag) (how : How) (need : Need) → AllFitOf (need_behind setting ways conn c tag how need)
    behind_fits c tag how (needs.Reply reply) = (tt, (tt, inputs_fit (reading_again c) c.waiting))
    behind_fits c tag how (needs.Leave reply) = (tt, (tt, (tt, tt)))
    behind_fits c tag how (needs.Home name asking) =
        come_fits (asks ways conn (record c { stage = Reading }) tag name asking) (asks_fit (record c { stage = Reading }) tag name asking)
    behind_fits c tag how (needs.Names listing) =
        come_fits (lists ways conn (record c { stage = Reading }) tag listing) (lists_fit (record c { stage = Reading }) tag listing)

    then_fits : (c : Connection) (tag : Tag) (it : Waiting) (what : Then) → ThenFits c tag it what → AllFitOf (by_then setting ways conn c tag it what)
    then_fits c tag it (then.Sends sent) fits = sends_fit (is_up ways.ups sent.to) c tag it sent refl fits
    then_fits c tag it (then.Needs need) fits = behind_fits c tag Behind need
    then_fits c tag it (then.Refused cause reply) fits = (tt, (tt, inputs_fit (reading_again c) c.waiting))
    then_fits c tag it then.Lost fits = (tt, (tt, tt))
    then_fits c tag it then.Stays fits = tt

    -- ---- behind the master's OK

    goes_on_fits : (c : Connection) (session : Sess) (tag : Tag) (it : Waiting) (what : AskFor) (why : Why) (found : Next)
        → IsBehind ways.recs ways.first what why found
        → ThenFits c tag (goes_on ways.master (next_of conn c) session it found).waiting (goes_on ways.master (next_of conn c) session it found).then
    goes_on_fits c session tag it what why (next.Ask server) is = λ up. tt
    goes_on_fits c session tag it what why (next.Barrier again) is = absurd is
    goes_on_fits c session tag it what why next.Missing is = needs_fit c tag it _
    goes_on_fits c session tag it what why found is = tt

    clears_fit : (c : Connection) (tag : Tag) (it : Waiting) (at : At) → AllFitOf (clears_at setting ways conn c tag it at)
    unfolding cleared
    clears_fit c tag it (Home server) = tt
    clears_fit c tag it (Barrier why) =
        let went = cleared ways.recs ways.master ways.first (next_of conn c) c.session it why in
        let what = ask_for it.name it.asking.op in
        then_fits (record c { session = went.session }) tag went.waiting went.then
        (goes_on_fits (record c { session = went.session }) c.session tag it what why (behind_ok ways.recs ways.first what why)
        (each_behind ways.recs ways.first what why))

    ok_by_fits : (c : Connection) (fits : Bool) (stage : Stage) → AllFitOf (ok_by setting ways conn c fits stage)
    unfolding ok_by
    ok_by_fits c true (Waits tag it) = clears_fit c tag it it.at
    ok_by_fits c true (Lists tag it) = (tt, (tt, inputs_fit (reading_again c) c.waiting))
    ok_by_fits c fits stage = tt

    pub ok_fits : (c : Connection) (id : AskId) → AllFitOf (ok_comes setting ways conn c id)
    unfolding ok_comes
    ok_fits c id = ok_by_fits c (id.command == c.answered + 1) c.stage

    -- ---- behind an answer

    -- the message taken is this answer to the connection's command
    abbrev IsTaken : Connection → AnswerBody → Type 0
    IsTaken c body = taken ≡ Some (Answer (record { id = next_of conn c; body = body }))

    answered_fits : (c : Connection) (session : Sess) (tag : Tag) (it : Waiting) (body : AnswerBody) → IsTaken c body
        → ThenFits c tag (answered ways.master (next_of conn c) session it body).waiting (answered ways.master (next_of conn c) session it body).then
    unfolding answered
    answered_fits c session tag it answer_body.NotNow is = λ up. (record { to = refl; is = refl; needed = is_put_off tag _ refl refl is; up = up })
    answered_fits c session tag it (answer_body.Moved server) is = λ up. tt
    answered_fits c session tag it (answer_body.Done outcome seen) is = needs_fit c tag it _
    answered_fits c session tag it (answer_body.Unreached node) is = tt
    answered_fits c session tag it answer_body.Lost is = tt

    answer_by_fits : (c : Connection) (answer : BackAnswer) (fits : Bool) (stage : Stage) → (fits ≡ true → IsTaken c answer.body)
        → AllFitOf (answer_by setting ways conn c answer fits stage)
    unfolding answer_by
    answer_by_fits c answer true (Waits tag it) is =
        let went = answered ways.master (next_of conn c) c.session it answer.body in
        then_fits (record c { session = went.session }) tag went.waiting went.then
        (answered_fits (record c { session = went.session }) c.session tag it answer.body (is refl))
    answer_by_fits c answer fits stage is = tt

    pub answer_fits : (c : Connection) (answer : BackAnswer) → taken ≡ Some (Answer answer) → (answer.id).conn ≡ conn
        → AllFitOf (answer_comes setting ways conn c answer)
    unfolding answer_comes
    answer_fits c answer is own =
        let named = λ (id : AskId). Some (Answer (record { id = id; body = answer.body })) in
        answer_by_fits c answer ((answer.id).command == c.answered + 1) c.stage
        (λ fits. is ∙ ap (λ n. named (record { conn = n; command = (answer.id).command })) own
        ∙ ap (λ n. named (record { conn = conn; command = n })) (eqb-true (answer.id).command (c.answered + 1) fits))

    -- ---- the link to a node ends

    at_end_fits : (c : Connection) (tag : Tag) (it : Waiting) (at : At) → AllFitOf (ends_at setting ways conn c tag it at)
    at_end_fits c tag it (Home server) = (tt, (tt, tt))
    at_end_fits c tag it (Barrier why) = refused_fits c tag (relocated c.session it.asking.awaited (unreached ways.master)) ways.master

    pub end_fits : (c : Connection) (stage : Stage) → AllFitOf (end_by setting ways conn c stage)
    unfolding end_by
    end_fits c (Waits tag it) = at_end_fits c tag it it.at
    end_fits c (Lists tag it) = refused_fits c tag (list_refused c.session) ways.master
    end_fits c Reading = tt
    end_fits c Ended = tt

  -- where the link to the master is down, no line goes out
  pub none_fit : (c : Connection) (outs : List Out) → is_up ways.ups ways.master ≡ false → AllFit c outs → AllByRecursion IsNoLine outs
  none_fit c [] down fit = tt
  none_fit c (out ∷ outs) down fit = (by out fit.0, none_fit c outs down fit.1)
    where
      by : (out : Out) → Fits c out → IsNoLine out
      by (Link node (Line bytes)) line =
          (let no : true ≡ false = sym (line.up) ∙ ap (is_up ways.ups) (line.to) ∙ down in cc)
      by (Link node Up) line = tt
      by (Link node End) line = tt
      by (Link node (Ask ask)) line = tt
      by (Link node (Answer answer)) line = tt
      by (Client conn bytes) line = tt
      by (Close conn) line = tt
      by (Mark ask counts) line = tt
      by (Told ask how) line = tt

-- ---- a frontend

-- it may send this line
abbrev pub MaySay : Option LinkMsg → Front → List ℕ → LinkMsg → Type 0
MaySay taken now server (Line bytes) = (server ≡ now.master) × IsRightLine taken now bytes
MaySay taken now server message = ⊤

-- so is each line that goes out, by what the frontend is then
abbrev pub SaysRightly : Option LinkMsg → Stepped → Type 0
SaysRightly taken stepped = AreLetOut AnyClient (MaySay taken stepped.front) ⊤ stepped.outs

stays_held : (c : Connection) (stage : Stage) → HoldsBack stage → released_at c stage ≡ c
unfolding released_at
stays_held c Reading holds = absurd holds
stays_held c (Waits tag it) holds = refl
stays_held c (Lists tag it) holds = refl
stays_held c Ended holds = absurd holds

module _ (taken : Option LinkMsg) (front : Front) where
  module _ (conn : ℕ) (was : Connection) (there : connection_at front conn ≡ Some was) where
    out_says : (turned : Turned) (out : Out) → Fits taken (ways_of front) conn turned.connection out
        → IsLetOut AnyClient (MaySay taken (with_turned front conn turned).front) ⊤ out
    out_says turned (Link node (Line bytes)) fits =
        let c = turned.connection in
        let stays = stays_held c c.stage (holds_back taken (ways_of front) conn c.stage (next_of conn c) fits.needed) in (
          fits.to,
          is_noop (next_of conn c) fits.is (record {
            connection = c;
            there = value_at-with_value nat_cmp numbers_apart front.connections conn (released c) was there ∙ ap (λ r. Some r) stays;
            number = refl;
            needed = fits.needed;
          }),
        )
    out_says turned out fits = tt

    outs_say : (turned : Turned) (outs : List Out) → AllByRecursion (Fits taken (ways_of front) conn turned.connection) outs
        → AreLetOut AnyClient (MaySay taken (with_turned front conn turned).front) ⊤ outs
    outs_say turned [] fit = tt
    outs_say turned (out ∷ outs) fit = (out_says turned out fit.0, outs_say turned outs fit.1)

    turned_says : (turned : Turned) → AllFitOf taken (ways_of front) conn turned → SaysRightly taken (with_turned front conn turned)
    turned_says turned fit = outs_say turned turned.outs fit

  connect_by : (conn : ℕ) (found : Option Connection) → SaysRightly taken (connect_at front conn found)
  unfolding connect_at
  connect_by conn (Some there) = tt
  connect_by conn None = (tt, tt)

  pub connect_says : (conn : ℕ) → SaysRightly taken (connect front conn)
  unfolding connect
  connect_says conn = connect_by conn (connection_at front conn)

  read_says : (conn : ℕ) (bytes : List ℕ) (c : Connection) → connection_at front conn ≡ Some c
      → SaysRightly taken (with_turned front conn
      (inputs_come front.setting (ways_of front) conn (having_read front.setting c bytes) (inputs_of_more front.setting c.reader bytes)))
  read_says conn bytes c there = turned_says conn c there _
      (inputs_fit taken (ways_of front) conn front.setting (having_read front.setting c bytes) (inputs_of_more front.setting c.reader bytes))

  bytes_by_says : (conn : ℕ) (bytes : List ℕ) (c : Connection) (stage : Stage) → connection_at front conn ≡ Some c
      → SaysRightly taken (bytes_by front conn bytes c stage)
  unfolding bytes_by
  bytes_by_says conn bytes c Ended there = tt
  bytes_by_says conn bytes c Reading there = read_says conn bytes c there
  bytes_by_says conn bytes c (Waits tag it) there = read_says conn bytes c there
  bytes_by_says conn bytes c (Lists tag it) there = read_says conn bytes c there

  bytes_at_says : (conn : ℕ) (bytes : List ℕ) (found : Option Connection) → connection_at front conn ≡ found
      → SaysRightly taken (front_bytes_at front conn bytes found)
  unfolding front_bytes_at
  bytes_at_says conn bytes None there = tt
  bytes_at_says conn bytes (Some c) there = bytes_by_says conn bytes c c.stage there

  pub bytes_say : (conn : ℕ) (bytes : List ℕ) → SaysRightly taken (bytes_in front conn bytes)
  unfolding bytes_in
  bytes_say conn bytes = bytes_at_says conn bytes (connection_at front conn) refl

  answer_at_says : (answer : BackAnswer) (found : Option Connection) → taken ≡ Some (Answer answer) → connection_at front (answer.id).conn ≡ found
      → SaysRightly taken (answer_at front answer found)
  unfolding answer_at
  answer_at_says answer None is there = tt
  answer_at_says answer (Some c) is there = turned_says (answer.id).conn c there _
      (answer_fits taken (ways_of front) (answer.id).conn front.setting c answer is refl)

  answer_says : (answer : BackAnswer) (is_asked : Bool) → taken ≡ Some (Answer answer) → SaysRightly taken (answer_from is_asked front answer)
  unfolding answer_from
  answer_says answer true is = answer_at_says answer (connection_at front (answer.id).conn) is refl
  answer_says answer false is = tt

  up_says : (is_master : Bool) → taken ≡ Some Up → SaysRightly taken (up_from is_master front)
  unfolding up_from
  up_says true is = ((refl, is_update refl is), tt)
  up_says false is = tt

  ok_says : (id : AskId) (found : Option Connection) → connection_at front id.conn ≡ found → SaysRightly taken (ok_at front id found)
  unfolding ok_at
  ok_says id None there = tt
  ok_says id (Some c) there = turned_says id.conn c there _ (ok_fits taken (ways_of front) id.conn front.setting c id)

  line_by_says : (bytes : List ℕ) (found : Option AskId) → SaysRightly taken (line_by front bytes found)
  line_by_says bytes None = tt
  line_by_says bytes (Some id) = ok_says id (connection_at front id.conn) refl

  line_says : (bytes : List ℕ) (is_master : Bool) → SaysRightly taken (line_from is_master front bytes)
  unfolding line_from
  line_says bytes true = line_by_says bytes (barrier_answered bytes)
  line_says bytes false = tt

-- ---- a link ends

module _ (taken : Option LinkMsg) (node : List ℕ) where
  found_says : (front : Front) (conn : ℕ) (found : Option Connection) → is_up front.ups front.master ≡ false → AllByRecursion IsNoLine (end_at front conn found).outs
  unfolding end_at
  found_says front conn None down = tt
  found_says front conn (Some c) down =
      let turned = end_comes front.setting (ways_of front) conn c in
      none_fit taken (ways_of front) conn turned.connection turned.outs down (end_fits taken (ways_of front) conn front.setting c c.stage)

  if_says : (front : Front) (conn : ℕ) (waits : Bool) → is_up front.ups front.master ≡ false → AllByRecursion IsNoLine (end_if waits front conn).outs
  if_says front conn true down = found_says front conn (connection_at front conn) down
  if_says front conn false down = tt

  all_say : (front : Front) (conns : List ℕ) → is_up front.ups front.master ≡ false → AllByRecursion IsNoLine (all_end front node conns).outs
  unfolding all_end
  all_say front [] down = tt
  all_say front (conn ∷ conns) down =
      let one = one_ends front node conn in
      both IsNoLine one.outs (all_end one.front node conns).outs
      (if_says front conn (awaited front.master (connection_at front conn) node) down)
      (all_say one.front conns (ap (λ (w : Ways). is_up w.ups w.master) (one_ways front node conn) ∙ down))

-- what is no line may go out
none_says : (taken : Option LinkMsg) (now : Front) (outs : List Out) → AllByRecursion IsNoLine outs → AreLetOut AnyClient (MaySay taken now) ⊤ outs
none_says taken now [] are = tt
none_says taken now (Link node (Line bytes) ∷ outs) are = absurd are.0
none_says taken now (Link node Up ∷ outs) are = (tt, none_says taken now outs are.1)
none_says taken now (Link node End ∷ outs) are = (tt, none_says taken now outs are.1)
none_says taken now (Link node (Ask ask) ∷ outs) are = (tt, none_says taken now outs are.1)
none_says taken now (Link node (Answer answer) ∷ outs) are = (tt, none_says taken now outs are.1)
none_says taken now (Client conn bytes ∷ outs) are = (tt, none_says taken now outs are.1)
none_says taken now (Close conn ∷ outs) are = (tt, none_says taken now outs are.1)
none_says taken now (Mark ask counts ∷ outs) are = (tt, none_says taken now outs are.1)
none_says taken now (Told ask how ∷ outs) are = (tt, none_says taken now outs are.1)

-- what is for clients alone is none
mute_none : (outs : List Out) → AllByRecursion IsForClient outs → AllByRecursion IsNoLine outs
mute_none [] are = tt
mute_none (Client conn bytes ∷ outs) are = (tt, mute_none outs are.1)
mute_none (Close conn ∷ outs) are = (tt, mute_none outs are.1)
mute_none (Link node message ∷ outs) are = absurd are.0
mute_none (Mark ask counts ∷ outs) are = absurd are.0
mute_none (Told ask how ∷ outs) are = absurd are.0

-- the master's link is down then, and behind another one's End only clients are given something
master_says : (taken : Option LinkMsg) (front : Front) → IsInOrder (slice_cmp nat_cmp) front.ups
    → AllByRecursion IsNoLine (end_from (without_up front front.master) front.master).outs
master_says taken front order =
    outs_all IsNoLine (all_end (without_up front front.master) front.master (keys_of front.connections)).outs
    (all_say taken front.master (without_up front front.master) (keys_of front.connections) (down_goes front.ups front.master order))

end_says : (taken : Option LinkMsg) (front : Front) (from : List ℕ) → IsInOrder (slice_cmp nat_cmp) front.ups → SaysRightly taken (end_from (without_up front from) from)
end_says taken front from order =
    none_says taken (end_from (without_up front from) from).front (end_from (without_up front from) from).outs
    (⊎_elim
    (λ (e : from ≡ front.master). subst (λ n. AllByRecursion IsNoLine (end_from (without_up front n) n).outs) (sym e) (master_says taken front order))
    (λ (ne : from ≢ front.master). mute_none (end_from (without_up front from) from).outs (server_ends front from ne).outs)
    (same_or_other (slice_cmp nat_cmp) names_apart from front.master))

-- a message that comes; of the links that are up each stands there once
pub message_says : (front : Front) (from : List ℕ) (message : LinkMsg) → IsInOrder (slice_cmp nat_cmp) front.ups → SaysRightly (Some message) (deliver front from message)
unfolding deliver
message_says front from (Answer answer) order = answer_says (Some (Answer answer)) front answer (waits_for (connection_at front (answer.id).conn) from) refl
message_says front from Up order = up_says (Some Up) (with_up front from) (pointwise nat_eq from front.master) refl
message_says front from End order = end_says (Some End) front from order
message_says front from (Line line) order = line_says (Some (Line line)) front line (pointwise nat_eq from front.master)
message_says front from (Ask ask) order = tt
