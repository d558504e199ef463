-- The inputs of one connection keep the law: each request gets its answer, or begins to wait for a backend or the master; a literal gets its continuation, a
-- fault its line.
use Rattle.std.proofs.Common.{◌≡◌, ◌≢◌, ℕ, ◌+◌, ◌<◌, ◌^◌, List, [], ◌∷◌, ◌++◌, length, Option, None, Some, refl, sym, ◌∙◌, ap, subst, append_assoc, length-append, Bool, true, false, arith}
use Rattle.std.specs.Ordering.{nat_cmp}
use Rattle.std.proofs.lemmas.List.{append-nil}
use Rattle.asking_core.specs.Begins.{Begun, ask_of, first_sent}
use Rattle.asking_core.specs.declared.waiting.At.{At}
use Rattle.asking_core.specs.declared.waiting.At.TheVariants.{Home, Barrier}
use Rattle.asking_core.specs.declared.waiting.Waiting.{Waiting as Ask_waits}
use Rattle.feed_core.specs.declared.replica.Replica.{Replica}
use Rattle.front_core.proofs.OneConnection.LastAnswer.{all_go_on}
use Rattle.front_core.proofs.OneConnection.Readings.{FaultsLast}
use Rattle.front_core.specs.declared.connection.Connection.{Connection}
use Rattle.front_core.specs.declared.connection.Stage.{Stage}
use Rattle.front_core.specs.declared.connection.Stage.TheVariants.{Reading, Waits, Lists, Ended}
use Rattle.front_core.specs.Taken.{Turned, Ways, answers_now, answers_last, asks, begins_if, comes_at, input_comes, input_in, inputs_come, list_refused, lists, lists_if, lists_with, refuses_now, request_in, to_begin, told_now, ways_by}
use Rattle.front_core.specs.Ups.{Ups, is_up}
use Rattle.front_core.proofs.FramesLaws.{HoldsBack, ended_drops, held_back}
use Rattle.front_core.proofs.OneConnection.FrontAnswers.{IsTaken, request_taken}
use Rattle.front_core.proofs.OneConnection.FrontAnswers.IsTaken.{here, finishes, asked, listed}
use Rattle.imap_reply.specs.ByeLine.{bye_line}
use Rattle.imap_talk.specs.FaultBye.{bye_of}
use Rattle.imap_reply.specs.Continuation.{continuation_line}
use Rattle.imap_reply.specs.Greeting.{greeting}
use Rattle.imap_reply.specs.ReplyText.{reply_text}
use Rattle.imap_talk.specs.SessionEnds.{has_ended}
use Rattle.imap_talk.specs.Transcript.{answer_text, ends, replies_to}
use Rattle.imap_talk.specs.Transcript.Stop.{silent}
use Rattle.imap_talk.proofs.TranscriptGrows.{AreAnswered, Grows, request_answered, continued, fault_told, end_told}
use Rattle.imap_talk.specs.declared.inputs.Input.{Input}
use Rattle.imap_talk.specs.declared.inputs.Input.TheVariants.{GoesOn, Asks, Faults}
use Rattle.imap_talk.specs.Inputs.{requests_in}
use Rattle.imap_talk.proofs.InputLaws.{requests-append}
use Rattle.imap_talk.proofs.RequestsOf.{answered_lengths, next_request, replies_stop}
use Rattle.imap_reply.specs.declared.continuation.Continuation.{Continuation}
use Rattle.imap_wire.specs.declared.frame.FrameFault.{FrameFault}
use Rattle.imap_types.specs.declared.command.Command.{Command}
use Rattle.imap_types.specs.declared.command.Tag.{Tag}
use Rattle.imap_types.specs.declared.reply.Reply.{Reply}
use Rattle.imap_types.specs.declared.request.Answer.{Answer}
use Rattle.imap_types.specs.declared.request.Request.{Request}
use Rattle.imap_types.specs.declared.request.Request.TheVariants.{Command as a_command}
use Rattle.link_msg.specs.declared.ask.FrontAsk.{FrontAsk}
use Rattle.link_msg.specs.declared.how.How.{How}
use Rattle.link_msg.specs.declared.how.How.TheVariants.{Here, Unreached}
use Rattle.link_msg.specs.declared.message.LinkMsg.{LinkMsg}
use Rattle.link_msg.specs.declared.message.LinkMsg.TheVariants.{Ask}
use Rattle.link_msg.specs.declared.out.Out.{Out}
use Rattle.link_msg.specs.declared.out.Out.TheVariants.{Client as to_client, Close, Link as to_node}
use Rattle.mark_history.specs.Marked.{Tale}
use Rattle.mur_base.specs.declared.point.AskId.{AskId}
use Rattle.mur_base.proofs.MapLaws.{numbers_apart, value_at-with_value}
use Rattle.imap_types.specs.declared.reply.NoText.TheVariants.{NotReached}
use Rattle.mark_history.specs.declared.mark.MarkKind.TheVariants.{Told}
use Rattle.mur_base.specs.declared.point.What.TheVariants.{Unreached as unreached}
use Rattle.mur_model.specs.declared.need.Asking.{Asking}
use Rattle.mur_model.specs.Relocation.{refused_for}
use Rattle.session_core.specs.Relocated.{Refused, relocated}
use Rattle.mur_model.specs.Act.{need_of, session_after}
use Rattle.mur_model.specs.Answer.{Answered, NeedsNoStore}
use Rattle.mur_model.specs.Asking.{asked_for}
use Rattle.mur_model.specs.History.{numbered}
use Rattle.mur_model.specs.Needed.{Mailbox, Names, Work}
use Rattle.mur_model.specs.declared.commands.list.Listing.{Listing}
use Rattle.mur_model.specs.declared.session.Sess.{Sess}
use Rattle.mur_model.specs.declared.session.Sess.TheVariants.{Ended as session_ended}
use Rattle.mur_model.specs.declared.setting.Setting.{Setting}
use Rattle.point_links.specs.Commands.{ClientCommand}
use Rattle.route_links.specs.Answered.{IsNumbered, noop_of}
use Rattle.route_links.specs.Barriers.{Place as barrier}
use Rattle.cluster_core.specs.declared.world.Client.{Client}
use Rattle.cluster_core.specs.declared.world.World.{World}
use Rattle.cluster_core.specs.World.{carry, carry_all, home_at}
use Rattle.cluster_core.proofs.Commands.Knows.{Undecided}
use Rattle.cluster_core.proofs.Commands.Knows.Knows.{undecided}
use Rattle.cluster_core.proofs.Commands.Knows.KnowsNames.{not_yet}
use Rattle.cluster_core.proofs.Commands.Place.{Place, Place as place}
use Rattle.cluster_core.proofs.Commands.Standing.{Fixed, IsCommandOf, Stands, WaitsAt, next_id}
use Rattle.cluster_core.proofs.Commands.Standing.Stands.{reads, waits, lists as waits_listing, faulted, finished}
use Rattle.cluster_core.proofs.Connections.AsksFirst.{FirstWay, Reaches, first_cut, first_way, way_asking}
use Rattle.cluster_core.proofs.Connections.AsksFirst.FirstWay.{by_server, by_master}
use Rattle.cluster_core.proofs.Connections.ConnectionLaw.{CanRestore, IsDroppedAt, IsInPlaceOf, IsMarkedAt, ReadsOn, StandsOn, client_with, keeps_on, session_at, stories_follow}
use Rattle.cluster_core.proofs.Answers.Given.{told_keeps, told_world}
use Rattle.cluster_core.proofs.Answers.Tells.{IsTold, list_unreached_as_told, list_unreached_told, refused_ends, refused_lasts, unreached_as_told, unreached_told}
use Rattle.cluster_core.proofs.Commands.AllReached.{AreMarkedSo}
use Rattle.cluster_core.proofs.Connections.Nowhere.{nowhere_too}
use Rattle.cluster_core.proofs.Connections.Said.{IsAnsweredSo, answer_carried, carry_all-append, counted_one, end_carried, given_keeps, given_world, last_carried, line_carried, said_made, said_one, said_tale, told_one}
use Rattle.cluster_core.proofs.Connections.Sends.{MayAsk, SendsSo, asks_so, bars_so, may_ask_later}
use Rattle.cluster_core.proofs.Places.FrontWorlds.{with_sent}

-- by what a frontend of this replica decides whom it asks
abbrev pub ways_for : Fixed → Ups → Replica → Ways
ways_for fixed ups replica = ways_by replica.records fixed.master fixed.first ups

-- its commands have numbers of 64 bits
abbrev pub HasNumbersOf : ℕ → Tale → Type 0
HasNumbersOf conn told = (conn < 2 ^ 64) × (length (told.talk.requests conn) < 2 ^ 64)

abbrev last_of : ℕ → Connection → Tag → Reply → Turned
last_of conn connection tag reply = answers_last conn (record connection { session = session_ended }) tag reply

module _ (fixed : Fixed) (front : List ℕ) (replica : Replica) (conn : ℕ) where
  -- a request that the frontend answers by itself
  answered_here : (inputs next : List Input) (connection : Connection) (before : World) (told : Tale) (world : World)
      (request : Request) (tag : Tag) (reply : Reply) (session : Sess) (was : ReadsOn fixed front replica conn inputs connection before told world)
      → numbered (was.story.talk.requests conn) (length (was.story.told conn) + 1) ≡ Some request
      → IsAnsweredSo fixed.setting (was.story.course.sessions conn) request tag reply session
      → NeedsNoStore fixed.setting (was.story.course.sessions conn) request
      → ends reply ≡ false → has_ended session ≡ false
      → ((answer : Answer) → ends answer.reply ≡ false → Grows inputs next (was.story.told conn) (was.story.told conn ++ answer ∷ []) (answer_text answer))
      → ReadsOn fixed front replica conn next (answers_now conn connection session tag reply).connection before told
      (carry_all front world (answers_now conn connection session tag reply).outs)
  unfolding told_now
  answered_here inputs next connection before told world request tag reply session was number is alone stays lasts grows =
      let story = was.story in
      let answer : Answer = record { tag = tag; reply = reply } in
      let client : Client = client_with front inputs (story.told conn) in
      let text : List ℕ = reply_text tag reply in
      let world_is = answer_carried front world conn client text (record { conn = conn; command = connection.answered + 1 }) Here was.reading.client in
      let now : Tale = said_tale fixed.setting story conn request in
      let one = told_one fixed.setting story conn request tag reply session is in
      let its = session_at story.course.sessions conn _ ∙ ap (λ (a : Answered). a.session) (is story.course.store) in
      let grown = grows answer stays in
      subst (λ w. ReadsOn fixed front replica conn next (answers_now conn connection session tag reply).connection before told w) (sym world_is)
      (record {
        story = now;
        made = said_made fixed front replica conn inputs connection before told world request tag reply session text was number is alone;
        reading = record {
          stage_is = was.reading.stage_is;
          waiting_is = was.reading.waiting_is;
          session_is = sym its;
          goes_on = ap has_ended its ∙ lasts;
          count = ap (λ n. n + 1) was.reading.count ∙ sym (counted_one fixed.setting story conn request tag reply session is);
          answered = subst (λ a. AreAnswered next a) (sym one) grown.answered;
          said = said_one fixed.setting story conn request tag reply session is ∙ sym one;
          client = value_at-with_value nat_cmp numbers_apart world.clients conn (record client { given = client.given ++ text }) client was.reading.client
              ∙ ap (λ g. Some (record { at = front; given = g }))
              (append_assoc greeting (replies_to inputs (story.told conn)) text ∙ ap (λ t. greeting ++ t) (sym grown.text_is)
              ∙ ap (λ a. greeting ++ replies_to next a) (sym one));
          nothing = nowhere_too fixed.master (home_at world) world.links front replica (next_id conn (story.told conn)) (length (now.told conn) + 1)
              (omega (arith, counted_one fixed.setting story conn request tag reply session is)) was.reading.nothing;
        };
      })

  -- a request whose client is told of it at once
  told_here : (inputs next : List Input) (connection : Connection) (before : World) (told : Tale) (world : World) (how : How) (tag : Tag) (reply : Reply)
      (session : Sess) (was : ReadsOn fixed front replica conn inputs connection before told world)
      → IsTold fixed.setting world was.story conn how (record { tag = tag; reply = reply }) session → has_ended session ≡ false
      → Grows inputs next (was.story.told conn) (was.story.told conn ++ (record { tag = tag; reply = reply }) ∷ []) (reply_text tag reply)
      → ReadsOn fixed front replica conn next (told_now how conn connection session tag reply).connection before told
      (carry_all front world (told_now how conn connection session tag reply).outs)
  unfolding told_now
  told_here inputs next connection before told world how tag reply session was it lasts grown =
      let story = was.story in
      let answer : Answer = record { tag = tag; reply = reply } in
      let client : Client = client_with front inputs (story.told conn) in
      let text : List ℕ = reply_text tag reply in
      let ask : AskId = record { conn = conn; command = connection.answered + 1 } in
      let world_is = answer_carried front world conn client text ask how was.reading.client in
      subst (λ w. ReadsOn fixed front replica conn next (told_now how conn connection session tag reply).connection before told w) (sym world_is)
      (record {
        story = it.later;
        made = record {
          others = keeps_on fixed conn before world (told_world world conn client text ask how) was.made.others
              (told_keeps fixed world conn client text ask how refl);
          goes_on = stories_follow conn told story it.later was.made.goes_on it.goes_on;
          store = it.store ∙ was.made.store;
          is_told = subst (λ n. AreMarkedSo fixed.setting world.broken world.steps
              (world.marks ++ (record { step = world.steps; ask = record { conn = conn; command = n + 1 }; kind = Told how }) ∷ []) it.later)
              (sym was.reading.count) it.is_told;
        };
        reading = record {
          stage_is = was.reading.stage_is;
          waiting_is = was.reading.waiting_is;
          session_is = sym it.session_is;
          goes_on = ap has_ended it.session_is ∙ lasts;
          count = ap (λ n. n + 1) was.reading.count ∙ sym (ap length it.told ∙ length-append (story.told conn) (answer ∷ []));
          answered = subst (λ a. AreAnswered next a) (sym it.told) grown.answered;
          said = it.said ∙ sym it.told;
          client = value_at-with_value nat_cmp numbers_apart world.clients conn (record client { given = client.given ++ text }) client was.reading.client
              ∙ ap (λ g. Some (record { at = front; given = g }))
              (append_assoc greeting (replies_to inputs (story.told conn)) text ∙ ap (λ t. greeting ++ t) (sym grown.text_is)
              ∙ ap (λ a. greeting ++ replies_to next a) (sym it.told));
          nothing = nowhere_too fixed.master (home_at world) world.links front replica (next_id conn (story.told conn)) (length (it.later.told conn) + 1)
              (omega (arith, ap length it.told, length-append (story.told conn) (answer ∷ []))) was.reading.nothing;
        };
      })

  -- a request that the frontend answers by itself, and with that ends the connection: nothing that follows it is taken
  last_here : (inputs more : List Input) (held : Option (List ℕ)) (connection : Connection) (before : World) (told : Tale) (world : World)
      (request : Request) (tag : Tag) (reply : Reply) (was : ReadsOn fixed front replica conn inputs connection before told world)
      → numbered (was.story.talk.requests conn) (length (was.story.told conn) + 1) ≡ Some request
      → IsAnsweredSo fixed.setting (was.story.course.sessions conn) request tag reply session_ended
      → NeedsNoStore fixed.setting (was.story.course.sessions conn) request
      → ends reply ≡ true
      → StandsOn fixed front replica conn (inputs ++ Asks request ∷ more) held (last_of conn connection tag reply).connection before told
      (carry_all front world (last_of conn connection tag reply).outs)
  unfolding answers_last
  last_here inputs more held connection before told world request tag reply was number is alone is_end =
      let story = was.story in
      let answer : Answer = record { tag = tag; reply = reply } in
      let client : Client = client_with front inputs (story.told conn) in
      let text : List ℕ = reply_text tag reply in
      let next : List Input = inputs ++ Asks request ∷ more in
      let world_is = last_carried front world conn client text (record { conn = conn; command = connection.answered + 1 }) Here was.reading.client in
      let now : Tale = said_tale fixed.setting story conn request in
      let one = told_one fixed.setting story conn request tag reply session_ended is in
      subst (λ w. StandsOn fixed front replica conn next held (last_of conn connection tag reply).connection before told w) (sym world_is)
      (record {
        story = now;
        made = said_made fixed front replica conn inputs connection before told world request tag reply session_ended text was number is alone;
        standing = record {
          count = ap (λ n. n + 1) was.reading.count ∙ sym (counted_one fixed.setting story conn request tag reply session_ended is);
          client = value_at-with_value nat_cmp numbers_apart world.clients conn (record client { given = client.given ++ text }) client was.reading.client
              ∙ ap (λ g. Some (record { at = front; given = g }))
              (append_assoc greeting (replies_to inputs (story.told conn)) text
              ∙ ap (λ t. greeting ++ t) (sym (end_told silent inputs (story.told conn) request more answer [] was.reading.answered is_end))
              ∙ ap (λ a. greeting ++ replies_to next a) (sym one));
          here = place.nowhere;
          placed = nowhere_too fixed.master (home_at world) world.links front replica (next_id conn (story.told conn)) (length (now.told conn) + 1)
              (omega (arith, counted_one fixed.setting story conn request tag reply session_ended is)) was.reading.nothing;
          marked = tt;
          dropped = tt;
          restores = tt;
          stands = finished inputs more request (story.told conn) answer refl refl was.reading.answered one is_end
              (said_one fixed.setting story conn request tag reply session_ended is ∙ sym one) refl;
        };
      })

  -- the client is told to go on
  awaited_here : (inputs : List Input) (connection : Connection) (before : World) (told : Tale) (world : World)
      (why : Continuation) → ReadsOn fixed front replica conn inputs connection before told world
      → ReadsOn fixed front replica conn (inputs ++ GoesOn why ∷ []) connection before told (carry_all front world (to_client conn
      (continuation_line why) ∷ []))
  awaited_here inputs connection before told world why was =
      let story = was.story in
      let client : Client = client_with front inputs (story.told conn) in
      let world_is = line_carried front world conn client (continuation_line why) was.reading.client in
      let grown = continued inputs (story.told conn) why was.reading.answered in
      subst (λ w. ReadsOn fixed front replica conn (inputs ++ GoesOn why ∷ []) connection before told w) (sym world_is)
      (record {
        story = story;
        made = record {
          others = keeps_on fixed conn before world (given_world world conn client (continuation_line why)) was.made.others
              (given_keeps fixed world conn client (continuation_line why));
          goes_on = was.made.goes_on;
          store = was.made.store;
          is_told = was.made.is_told;
        };
        reading = record {
          stage_is = was.reading.stage_is;
          waiting_is = was.reading.waiting_is;
          session_is = was.reading.session_is;
          goes_on = was.reading.goes_on;
          count = was.reading.count;
          answered = grown.answered;
          said = was.reading.said;
          client = value_at-with_value nat_cmp numbers_apart world.clients conn
              (record client { given = client.given ++ continuation_line why }) client was.reading.client
              ∙ ap (λ g. Some (record { at = front; given = g }))
              (append_assoc greeting (replies_to inputs (story.told conn)) (continuation_line why) ∙ ap (λ t. greeting ++ t) (sym grown.text_is));
          nothing = was.reading.nothing;
        };
      })

  -- a fault ends the connection
  faulted_here : (inputs : List Input) (held : Option (List ℕ)) (connection : Connection) (before : World) (told : Tale) (world : World)
      (fault : FrameFault) → held ≡ None → ReadsOn fixed front replica conn inputs connection before told world
      → StandsOn fixed front replica conn (inputs ++ Faults fault ∷ []) held (record connection { stage = Ended }) before told
      (carry_all front world (to_client conn (bye_line (bye_of fault)) ∷ Close conn ∷ []))
  unfolding requests_in
  faulted_here inputs held connection before told world fault none was =
      let story = was.story in
      let client : Client = client_with front inputs (story.told conn) in
      let text = bye_line (bye_of fault) in
      let world_is = end_carried front world conn client text was.reading.client in
      subst (λ w. StandsOn fixed front replica conn (inputs ++ Faults fault ∷ []) held (record connection { stage = Ended }) before told w) (sym world_is)
      (record {
        story = story;
        made = record {
          others = keeps_on fixed conn before world (given_world world conn client text) was.made.others (given_keeps fixed world conn client text);
          goes_on = was.made.goes_on;
          store = was.made.store;
          is_told = was.made.is_told;
        };
        standing = record {
          count = was.reading.count;
          client = value_at-with_value nat_cmp numbers_apart world.clients conn (record client { given = client.given ++ text }) client was.reading.client
              ∙ ap (λ g. Some (record { at = front; given = g })) (append_assoc greeting (replies_to inputs (story.told conn)) text
              ∙ ap (λ t. greeting ++ t) (sym (fault_told inputs (story.told conn) fault was.reading.answered)));
          here = place.nowhere;
          placed = was.reading.nothing;
          marked = tt;
          dropped = tt;
          restores = tt;
          stands = faulted refl none
              (ap length (requests-append inputs (Faults fault ∷ []) ∙ append-nil (requests_in inputs))
              ∙ answered_lengths inputs (story.told conn) was.reading.answered)
              was.reading.said (all_go_on inputs (story.told conn) was.reading.answered) refl;
        };
      })

  -- ---- a request that needs a mailbox; the inputs behind it wait

  -- its number, as the connection counts it
  abbrev next_at : Connection → AskId
  next_at connection = record { conn = conn; command = connection.answered + 1 }

  -- a message goes out for it: so the connection stands, wherever the request is then
  sent_here : (inputs waiting : List Input) (held : Option (List ℕ)) (connection : Connection) (before : World) (told : Tale) (world : World)
      (request : Request) (stage : Stage) (to : List ℕ) (message : LinkMsg) (its_place : Place)
      (was : ReadsOn fixed front replica conn inputs connection before told world)
      → IsMarkedAt was.story.talk.moving world.marks (next_id conn (was.story.told conn)) its_place
      → IsDroppedAt fixed.master (with_sent world front to message) front its_place
      → CanRestore was.story conn (record connection { waiting = waiting; stage = stage }) its_place
      → SendsSo fixed world (with_sent world front to message) front replica (next_at connection) its_place
      → Stands fixed front conn (inputs ++ Asks request ∷ waiting) held (record connection { waiting = waiting; stage = stage })
      (was.story.told conn) (was.story.talk.answers conn) (was.story.course.sessions conn) its_place
      → StandsOn fixed front replica conn (inputs ++ Asks request ∷ waiting) held
      (record connection { waiting = waiting; stage = stage }) before told (carry_all front world (to_node to message ∷ []))
  unfolding carry_all carry
  sent_here inputs waiting held connection before told world request stage to message its_place was marked dropped restores sends stands =
      let story = was.story in
      let next : World = with_sent world front to message in
      record {
        story = story;
        made = record {
          others = keeps_on fixed conn before world next was.made.others (record {
            nodes = refl;
            broken = refl;
            steps = refl;
            clients = λ other ne. refl;
            places = sends.others;
            marks = λ other ne command. refl;
          });
          goes_on = was.made.goes_on;
          store = was.made.store;
          is_told = was.made.is_told;
        };
        standing = record {
          count = was.reading.count;
          client = was.reading.client ∙ ap (λ t. Some (record { at = front; given = greeting ++ t }))
              (replies_stop inputs (story.told conn) request waiting was.reading.answered);
          here = its_place;
          placed = subst (λ n. IsInPlaceOf fixed next front replica (record { conn = conn; command = n + 1 }) its_place) was.reading.count
              (sends.own (subst (λ n. IsInPlaceOf fixed world front replica (record { conn = conn; command = n + 1 }) place.nowhere)
              (sym was.reading.count) was.reading.nothing));
          marked = marked;
          dropped = dropped;
          restores = restores;
          stands = stands;
        };
      }

  waits_here : (inputs waiting : List Input) (held : Option (List ℕ)) (connection : Connection) (before : World) (told : Tale) (world : World)
      (request : Request) (tag : Tag) (to : List ℕ) (message : LinkMsg) (c : ClientCommand) (its_place : Place)
      (was : ReadsOn fixed front replica conn inputs connection before told world)
      → request ≡ a_command tag c.it → FaultsLast waiting held
      → IsCommandOf fixed conn (was.story.told conn) connection.session c → WaitsAt c.waiting.at its_place
      → Undecided fixed.master fixed.first front c its_place
      → IsMarkedAt was.story.talk.moving world.marks (next_id conn (was.story.told conn)) its_place
      → IsDroppedAt fixed.master (with_sent world front to message) front its_place
      → CanRestore was.story conn (record connection { waiting = waiting; stage = Waits tag c.waiting }) its_place
      → SendsSo fixed world (with_sent world front to message) front replica (next_at connection) its_place
      → StandsOn fixed front replica conn (inputs ++ Asks request ∷ waiting) held
      (record connection { waiting = waiting; stage = Waits tag c.waiting }) before told (carry_all front world (to_node to message ∷ []))
  waits_here inputs waiting held connection before told world request tag to message c its_place was is last of at so marked dropped restores sends =
      sent_here inputs waiting held connection before told world request (Waits tag c.waiting) to message its_place was marked dropped restores sends (waits (record {
        passed = inputs;
        request = request;
        tag = tag;
        c = c;
        of = of;
        stage = refl;
        at = at;
        parts = refl;
        lasts = ap has_ended was.reading.session_is ∙ was.reading.goes_on;
        answered = was.reading.answered;
        is = is;
        last = last;
        knows = undecided was.reading.said (of.was_is ∙ was.reading.session_is) so;
      }))

  -- the command, as it begins to wait
  abbrev begins_at : (id : AskId) (session : Sess) (it : Command) (name : List ℕ) (work : Work) → need_of fixed.setting session it ≡ Mailbox name work → At
      → ClientCommand
  begins_at id session it name work need at = record {
    setting = fixed.setting;
    id = id;
    was = session;
    it = it;
    name = name;
    work = work;
    waiting = record (to_begin name (asked_for name work)) { at = at };
    need = need;
    name_is = refl;
    asking_is = refl;
  }

  asked_by : (inputs waiting : List Input) (held : Option (List ℕ)) (connection : Connection) (before : World) (told : Tale) (world : World)
      (request : Request) (tag : Tag) (it : Command) (name : List ℕ) (work : Work) (begun : Begun)
      (was : ReadsOn fixed front replica conn inputs connection before told world)
      → request ≡ a_command tag it → need_of fixed.setting connection.session it ≡ Mailbox name work → FaultsLast waiting held
      → MayAsk fixed (home_at world) front replica → IsNumbered (next_at connection)
      → FirstWay (home_at world) fixed.master (next_at connection) connection.session (to_begin name (asked_for name work)) begun
      → StandsOn fixed front replica conn (inputs ++ Asks request ∷ waiting) held
      (record connection { waiting = waiting; stage = Waits tag begun.waiting }) before told
      (carry_all front world (to_node begun.sent.to begun.sent.message ∷ []))
  asked_by inputs waiting held connection before told world request tag it name work begun was is need last may numbered (by_server server there) =
      let first : Ask_waits = to_begin name (asked_for name work) in
      let ask : FrontAsk = ask_of (next_at connection) connection.session first in
      let c : ClientCommand = begins_at (next_id conn (was.story.told conn)) connection.session it name work need (Home server) in
      waits_here inputs waiting held connection before told world request tag server (Ask ask) c (place.is_asked server ask) was is last
      (record { setting_is = refl; its = refl; was_is = refl }) refl
      (ap (λ n. ask_of (record { conn = conn; command = n + 1 }) connection.session first) was.reading.count) tt tt tt
      (asks_so fixed world front server replica ask may.frontend there)
  asked_by inputs waiting held connection before told world request tag it name work begun was is need last may numbered (by_master cause) =
      let c : ClientCommand = begins_at (next_id conn (was.story.told conn)) connection.session it name work need (Barrier cause) in
      waits_here inputs waiting held connection before told world request tag fixed.master (noop_of (next_at connection)) c (place.is_barred barrier.asked) was
      is last (record { setting_is = refl; its = refl; was_is = refl }) tt tt tt tt tt
      (bars_so fixed world front replica (next_at connection) may.frontend numbered)

  -- what begins to wait, and what goes out for it
  abbrev begun_at : Connection → List ℕ → Work → Begun
  begun_at connection name work =
      first_sent replica.records fixed.master fixed.first (next_at connection) connection.session (to_begin name (asked_for name work))

  asked_kept : (inputs waiting : List Input) (held : Option (List ℕ)) (connection : Connection) (before : World) (told : Tale) (world : World)
      (request : Request) (tag : Tag) (it : Command) (name : List ℕ) (work : Work)
      (was : ReadsOn fixed front replica conn inputs connection before told world)
      → request ≡ a_command tag it → need_of fixed.setting (was.story.course.sessions conn) it ≡ Mailbox name work → FaultsLast waiting held
      → MayAsk fixed (home_at before) front replica → IsNumbered (next_at connection)
      → StandsOn fixed front replica conn (inputs ++ Asks request ∷ waiting) held
      (record connection { waiting = waiting; stage = Waits tag (begun_at connection name work).waiting }) before told
      (carry_all front (carry_all front world
      (to_node (begun_at connection name work).sent.to (begun_at connection name work).sent.message ∷ [])) [])
  unfolding carry_all
  asked_kept inputs waiting held connection before told world request tag it name work was is need last may numbered =
      let may_now : MayAsk fixed (home_at world) front replica = may_ask_later fixed before world front replica was.made.others.nodes may in
      asked_by inputs waiting held connection before told world request tag it name work (begun_at connection name work) was is
      (ap (λ s. need_of fixed.setting s it) was.reading.session_is ∙ need) last may_now numbered
      (first_way (home_at world) replica.records fixed.master fixed.first (next_at connection) connection.session (to_begin name (asked_for name work))
      may_now.knows may_now.first)

  -- ---- a LIST; the inputs behind it wait

  listed_kept : (inputs waiting : List Input) (held : Option (List ℕ)) (connection : Connection) (before : World) (told : Tale) (world : World)
      (request : Request) (tag : Tag) (it : Command) (listing : Listing)
      (was : ReadsOn fixed front replica conn inputs connection before told world)
      → request ≡ a_command tag it → need_of fixed.setting (was.story.course.sessions conn) it ≡ Names listing → FaultsLast waiting held
      → MayAsk fixed (home_at before) front replica → IsNumbered (next_at connection)
      → StandsOn fixed front replica conn (inputs ++ Asks request ∷ waiting) held
      (record connection { waiting = waiting; stage = Lists tag listing }) before told
      (carry_all front (carry_all front world (lists_with fixed.master conn connection tag listing).outs) [])
  unfolding carry_all
  listed_kept inputs waiting held connection before told world request tag it listing was is need last may numbered =
      let may_now : MayAsk fixed (home_at world) front replica = may_ask_later fixed before world front replica was.made.others.nodes may in
      sent_here inputs waiting held connection before told world request (Lists tag listing) fixed.master (noop_of (next_at connection))
      (place.is_barred barrier.asked) was tt tt tt (bars_so fixed world front replica (next_at connection) may_now.frontend numbered)
      (waits_listing (record {
        tag = tag;
        it = it;
        listing = listing;
        need = ap (λ s. need_of fixed.setting s it) was.reading.session_is ∙ need;
        stage = refl;
        lasts = ap has_ended was.reading.session_is ∙ was.reading.goes_on;
        next = record { passed = inputs; request = request; parts = refl; answered = was.reading.answered; is = is; last = last };
        knows = not_yet was.reading.said was.reading.session_is refl;
      }))

last_turned : (setting : Setting) (ways : Ways) (conn : ℕ) (connection : Connection) (tag : Tag) (reply : Reply) (inputs : List Input)
    → inputs_come setting ways conn (answers_last conn connection tag reply).connection inputs
    ≡ record { connection = (answers_last conn connection tag reply).connection; outs = [] }
unfolding answers_last
last_turned setting ways conn connection tag reply inputs =
    ended_drops setting ways conn (record connection { stage = Ended; answered = connection.answered + 1 }) inputs refl

reads_input : (setting : Setting) (ways : Ways) (conn : ℕ) (connection : Connection) (input : Input) → connection.stage ≡ Reading
    → input_comes setting ways conn connection input ≡ input_in setting ways conn connection input
unfolding input_comes comes_at
reads_input setting ways conn connection input e = ap (comes_at setting ways conn connection input) e

module _ (fixed : Fixed) (front : List ℕ) (ups : Ups) (replica : Replica) (conn : ℕ) where
  -- what inputs make of a connection of this frontend
  abbrev come : Connection → List Input → Turned
  come connection inputs = inputs_come fixed.setting (ways_for fixed ups replica) conn connection inputs

  -- an input, and then the others
  came_on : (all : List Input) (held : Option (List ℕ)) (connection : Connection) (before : World) (told : Tale) (world : World)
      (input : Input) (inputs : List Input) (turned : Turned) → input_comes fixed.setting (ways_for fixed ups replica) conn connection input ≡ turned
      → StandsOn fixed front replica conn all held (come turned.connection inputs).connection before told
      (carry_all front (carry_all front world turned.outs) (come turned.connection inputs).outs)
      → StandsOn fixed front replica conn all held (come connection (input ∷ inputs)).connection before told
      (carry_all front world (come connection (input ∷ inputs)).outs)
  unfolding inputs_come
  came_on all held connection before told world input inputs turned e stands =
      subst (λ (t : Turned). StandsOn fixed front replica conn all held (come t.connection inputs).connection before told
      (carry_all front world (t.outs ++ (come t.connection inputs).outs))) (sym e)
      (subst (λ w. StandsOn fixed front replica conn all held (come turned.connection inputs).connection before told w)
      (sym (carry_all-append front world turned.outs (come turned.connection inputs).outs)) stands)

  fault_kept : (inputs new : List Input) (held : Option (List ℕ)) (connection : Connection) (before : World) (told : Tale) (world : World)
      (fault : FrameFault) → new ≡ [] → held ≡ None → ReadsOn fixed front replica conn inputs connection before told world
      → StandsOn fixed front replica conn (inputs ++ Faults fault ∷ new) held (come connection (Faults fault ∷ new)).connection before told
      (carry_all front world (come connection (Faults fault ∷ new)).outs)
  unfolding input_in inputs_come carry_all
  fault_kept inputs new held connection before told world fault nil none was =
      subst (λ n. StandsOn fixed front replica conn (inputs ++ Faults fault ∷ n) held (come connection (Faults fault ∷ n)).connection before told
      (carry_all front world (come connection (Faults fault ∷ n)).outs)) (sym nil)
      (came_on (inputs ++ Faults fault ∷ []) held connection before told world (Faults fault) [] _
      (reads_input fixed.setting (ways_for fixed ups replica) conn connection (Faults fault) was.reading.stage_is)
      (faulted_here fixed front replica conn inputs held connection before told world fault none was))

  -- the inputs of a piece that haven't ended stand so
  pub reads_stands : (inputs : List Input) (held : Option (List ℕ)) (connection : Connection) (before : World) (told : Tale) (world : World)
      → ReadsOn fixed front replica conn inputs connection before told world
      → StandsOn fixed front replica conn inputs held connection before told world
  reads_stands inputs held connection before told world was = record {
    story = was.story;
    made = was.made;
    standing = record {
      count = was.reading.count;
      client = was.reading.client;
      here = place.nowhere;
      placed = was.reading.nothing;
      marked = tt;
      dropped = tt;
      restores = tt;
      stands = reads was.reading.stage_is was.reading.waiting_is was.reading.session_is was.reading.goes_on was.reading.answered was.reading.said refl;
    };
  }

  -- the request of an input is the next that has no answer
  next_of : (inputs rest : List Input) (input : Input) (connection : Connection) (before : World) (told : Tale) (world : World) (request : Request)
      (was : ReadsOn fixed front replica conn inputs connection before told world) → told.talk.requests conn ≡ requests_in (inputs ++ input ∷ rest)
      → requests_in (input ∷ rest) ≡ request ∷ requests_in rest → numbered (was.story.talk.requests conn) (length (was.story.told conn) + 1) ≡ Some request
  next_of inputs rest input connection before told world request was all is =
      subst (λ r. numbered r (length (was.story.told conn) + 1) ≡ Some request)
      (sym (ap (λ (r : ℕ → List Request). r conn) was.made.goes_on.requests ∙ all ∙ requests-append inputs (input ∷ rest)
      ∙ ap (λ r. requests_in inputs ++ r) is))
      (next_request (requests_in inputs) (requests_in rest) request (length (was.story.told conn))
      (answered_lengths inputs (was.story.told conn) was.reading.answered))

  -- and its number is of 64 bits
  next_numbered : (inputs rest : List Input) (input : Input) (connection : Connection) (before : World) (told : Tale) (world : World) (request : Request)
      (was : ReadsOn fixed front replica conn inputs connection before told world) → told.talk.requests conn ≡ requests_in (inputs ++ input ∷ rest)
      → requests_in (input ∷ rest) ≡ request ∷ requests_in rest → HasNumbersOf conn told
      → IsNumbered (record { conn = conn; command = connection.answered + 1 })
  next_numbered inputs rest input connection before told world request was all is fits =
      let so : requests_in (inputs ++ input ∷ rest) ≡ requests_in inputs ++ request ∷ requests_in rest =
      requests-append inputs (input ∷ rest) ∙ ap (λ r. requests_in inputs ++ r) is in
      let counted : length (told.talk.requests conn) ≡ length (requests_in inputs) + length (request ∷ requests_in rest) =
      ap length (all ∙ so) ∙ length-append (requests_in inputs) (request ∷ requests_in rest) in
      let few : connection.answered + 1 < 2 ^ 64 =
      omega (arith, fits.1, counted, was.reading.count, answered_lengths inputs (was.story.told conn) was.reading.answered) in
      (fits.0, few)

  -- the inputs that follow go on so, from wherever the connection reads
  abbrev pub Follow : List Input → Option (List ℕ) → World → Tale → Type 0
  Follow new held before told = (inputs : List Input) (connection : Connection) (world : World)
      → told.talk.requests conn ≡ requests_in (inputs ++ new)
      → ReadsOn fixed front replica conn inputs connection before told world
      → StandsOn fixed front replica conn (inputs ++ new) held (come connection new).connection before told
      (carry_all front world (come connection new).outs)

  -- an input behind which the connection reads on
  read_on : (inputs new : List Input) (input : Input) (held : Option (List ℕ)) (connection : Connection) (before : World) (told : Tale) (world : World)
      (turned : Turned) → input_comes fixed.setting (ways_for fixed ups replica) conn connection input ≡ turned
      → told.talk.requests conn ≡ requests_in (inputs ++ input ∷ new)
      → Follow new held before told
      → ReadsOn fixed front replica conn (inputs ++ input ∷ []) turned.connection before told (carry_all front world turned.outs)
      → StandsOn fixed front replica conn (inputs ++ input ∷ new) held (come connection (input ∷ new)).connection before told
      (carry_all front world (come connection (input ∷ new)).outs)
  read_on inputs new input held connection before told world turned e all follow reading =
      came_on (inputs ++ input ∷ new) held connection before told world input new turned e
      (subst (λ f. StandsOn fixed front replica conn f held (come turned.connection new).connection before told
      (carry_all front (carry_all front world turned.outs) (come turned.connection new).outs)) (append_assoc inputs (input ∷ []) new)
      (follow (inputs ++ input ∷ []) turned.connection (carry_all front world turned.outs)
      (all ∙ ap requests_in (sym (append_assoc inputs (input ∷ []) new))) reading))

  -- whom the frontend may ask, and what numbers its commands have
  pub record MaySend (before : World) (told : Tale) : Type 0 where
    pub may : MayAsk fixed (home_at before) front replica
    pub reaches : Reaches fixed.master (home_at before) before.broken ups
    pub numbers : HasNumbersOf conn told

  -- a message goes out for a request, and the inputs behind it wait
  sent_kept : (inputs new : List Input) (request : Request) (held : Option (List ℕ)) (connection : Connection) (before : World) (told : Tale) (world : World)
      (stage : Stage) (outs : List Out) (was : ReadsOn fixed front replica conn inputs connection before told world) → HoldsBack stage
      → request_in fixed.setting (ways_for fixed ups replica) conn connection request ≡ record { connection = record connection { stage = stage }; outs = outs }
      → StandsOn fixed front replica conn (inputs ++ Asks request ∷ new) held (record connection { waiting = new; stage = stage }) before told
      (carry_all front (carry_all front world outs) [])
      → StandsOn fixed front replica conn (inputs ++ Asks request ∷ new) held (come connection (Asks request ∷ new)).connection before told
      (carry_all front world (come connection (Asks request ∷ new)).outs)
  unfolding input_in
  sent_kept inputs new request held connection before told world stage outs was holds form stands =
      let turned : Turned = record { connection = record connection { stage = stage }; outs = outs } in
      let waits_all : come turned.connection new ≡ record { connection = record connection { waiting = new; stage = stage }; outs = [] } =
      held_back fixed.setting (ways_for fixed ups replica) conn turned.connection new holds
      ∙ ap (λ w. record { connection = record connection { waiting = w ++ new; stage = stage }; outs = [] }) was.reading.waiting_is in
      came_on (inputs ++ Asks request ∷ new) held connection before told world (Asks request) new turned
      (reads_input fixed.setting (ways_for fixed ups replica) conn connection (Asks request) was.reading.stage_is ∙ form)
      (subst (λ (t : Turned). StandsOn fixed front replica conn (inputs ++ Asks request ∷ new) held t.connection before told
      (carry_all front (carry_all front world turned.outs) t.outs)) (sym waits_all) stands)

  -- it is sent, or its server isn't reached
  asked_if : (inputs new : List Input) (request : Request) (held : Option (List ℕ)) (connection : Connection) (before : World) (told : Tale) (world : World)
      (was : ReadsOn fixed front replica conn inputs connection before told world) → MaySend before told → FaultsLast new held
      → told.talk.requests conn ≡ requests_in (inputs ++ Asks request ∷ new)
      → Follow new held before told → (tag : Tag) (it : Command) (name : List ℕ) (work : Work) → request ≡ a_command tag it
      → need_of fixed.setting (was.story.course.sessions conn) it ≡ Mailbox name work
      → ((c : Connection) → c.session ≡ was.story.course.sessions conn
      → request_in fixed.setting (ways_for fixed ups replica) conn c request ≡ asks (ways_for fixed ups replica) conn c tag name (asked_for name work))
      → (up : Bool) → is_up ups (begun_at fixed front replica conn connection name work).sent.to ≡ up
      → StandsOn fixed front replica conn (inputs ++ Asks request ∷ new) held (come connection (Asks request ∷ new)).connection before told
      (carry_all front world (come connection (Asks request ∷ new)).outs)
  unfolding input_in requests_in
  asked_if inputs new request held connection before told world was sends last all follow tag it name work is need form true up =
      let begun : Begun = begun_at fixed front replica conn connection name work in
      sent_kept inputs new request held connection before told world (Waits tag begun.waiting) (to_node begun.sent.to begun.sent.message ∷ []) was tt
      (form connection was.reading.session_is ∙ ap (λ b. begins_if b conn connection tag begun) up)
      (asked_kept fixed front replica conn inputs new held connection before told world request tag it name work was is need last sends.may
      (next_numbered inputs new (Asks request) connection before told world request was all refl sends.numbers))
  asked_if inputs new request held connection before told world was sends last all follow tag it name work is need form false down =
      let story = was.story in
      let session : Sess = story.course.sessions conn in
      let begun : Begun = begun_at fixed front replica conn connection name work in
      let server : List ℕ = begun.sent.to in
      let first : Ask_waits = to_begin name (asked_for name work) in
      let id : AskId = next_at fixed front replica conn connection in
      let asks_so : begun.waiting.asking ≡ asked_for name work =
      way_asking (home_at before) fixed.master id connection.session first begun
      (first_way (home_at before) replica.records fixed.master fixed.first id connection.session first sends.may.knows sends.may.first) in
      let reply : Reply = (refused_for session it NotReached).reply in
      let then : Sess = session_after session (refused_for session it NotReached).session in
      let refusal_is : relocated connection.session begun.waiting.asking.awaited (unreached server) ≡ record { session = then; reply = reply } =
      ap (λ (a : Asking). relocated connection.session a.awaited (unreached server)) asks_so
      ∙ ap (λ s. relocated s (asked_for name work).awaited (unreached server)) was.reading.session_is
      ∙ unreached_as_told fixed.setting session it server name work need in
      let cut : before.broken ≢ [] =
      first_cut (home_at before) replica.records fixed.master fixed.first id connection.session first before.broken ups sends.reaches sends.may.knows
      sends.may.first down in
      let number = next_of inputs new (Asks request) connection before told world request was all refl in
      read_on inputs new (Asks request) held connection before told world (told_now (Unreached server) conn connection then tag reply)
      (reads_input fixed.setting (ways_for fixed ups replica) conn connection (Asks request) was.reading.stage_is ∙ form connection was.reading.session_is
      ∙ ap (λ b. begins_if b conn connection tag begun) down ∙ ap (λ (r : Refused). refuses_now conn connection tag r server) refusal_is)
      all follow
      (told_here fixed front replica conn inputs (inputs ++ Asks request ∷ []) connection before told world (Unreached server) tag reply then was
      (unreached_told fixed.setting world story conn tag it server name work was.made.is_told was.reading.said (number ∙ ap Some is) need
      (λ none. cut (sym was.made.others.broken ∙ none)))
      (refused_lasts session it NotReached was.reading.goes_on)
      (request_answered inputs (story.told conn) request (record { tag = tag; reply = reply }) was.reading.answered (refused_ends session it NotReached)))

  -- a LIST: the NOOP is sent, or the master isn't reached
  listed_if : (inputs new : List Input) (request : Request) (held : Option (List ℕ)) (connection : Connection) (before : World) (told : Tale) (world : World)
      (was : ReadsOn fixed front replica conn inputs connection before told world) → MaySend before told → FaultsLast new held
      → told.talk.requests conn ≡ requests_in (inputs ++ Asks request ∷ new)
      → Follow new held before told → (tag : Tag) (it : Command) (listing : Listing) → request ≡ a_command tag it
      → need_of fixed.setting (was.story.course.sessions conn) it ≡ Names listing
      → ((c : Connection) → c.session ≡ was.story.course.sessions conn
      → request_in fixed.setting (ways_for fixed ups replica) conn c request ≡ lists (ways_for fixed ups replica) conn c tag listing)
      → (up : Bool) → is_up ups fixed.master ≡ up
      → StandsOn fixed front replica conn (inputs ++ Asks request ∷ new) held (come connection (Asks request ∷ new)).connection before told
      (carry_all front world (come connection (Asks request ∷ new)).outs)
  unfolding input_in requests_in
  listed_if inputs new request held connection before told world was sends last all follow tag it listing is need form true up =
      sent_kept inputs new request held connection before told world (Lists tag listing)
      (lists_with fixed.master conn connection tag listing).outs was tt
      (form connection was.reading.session_is ∙ ap (λ b. lists_if b fixed.master conn connection tag listing) up)
      (listed_kept fixed front replica conn inputs new held connection before told world request tag it listing was is need last sends.may
      (next_numbered inputs new (Asks request) connection before told world request was all refl sends.numbers))
  listed_if inputs new request held connection before told world was sends last all follow tag it listing is need form false down =
      let story = was.story in
      let session : Sess = story.course.sessions conn in
      let reply : Reply = (refused_for session it NotReached).reply in
      let then : Sess = session_after session (refused_for session it NotReached).session in
      let refusal_is : list_refused connection.session ≡ record { session = then; reply = reply } =
      ap list_refused was.reading.session_is ∙ list_unreached_as_told fixed.setting session it listing need in
      let cut : before.broken ≢ [] = sends.reaches.master_cut down in
      let number = next_of inputs new (Asks request) connection before told world request was all refl in
      read_on inputs new (Asks request) held connection before told world (told_now (Unreached fixed.master) conn connection then tag reply)
      (reads_input fixed.setting (ways_for fixed ups replica) conn connection (Asks request) was.reading.stage_is ∙ form connection was.reading.session_is
      ∙ ap (λ b. lists_if b fixed.master conn connection tag listing) down ∙ ap (λ (r : Refused). refuses_now conn connection tag r fixed.master) refusal_is)
      all follow
      (told_here fixed front replica conn inputs (inputs ++ Asks request ∷ []) connection before told world (Unreached fixed.master) tag reply then was
      (list_unreached_told fixed.setting world story conn tag it fixed.master listing was.made.is_told was.reading.said (number ∙ ap Some is) need
      (λ none. cut (sym was.made.others.broken ∙ none)))
      (refused_lasts session it NotReached was.reading.goes_on)
      (request_answered inputs (story.told conn) request (record { tag = tag; reply = reply }) was.reading.answered (refused_ends session it NotReached)))

  request_kept : (inputs new : List Input) (request : Request) (held : Option (List ℕ)) (connection : Connection) (before : World) (told : Tale) (world : World)
      (was : ReadsOn fixed front replica conn inputs connection before told world) → MaySend before told → FaultsLast new held
      → told.talk.requests conn ≡ requests_in (inputs ++ Asks request ∷ new)
      → Follow new held before told → IsTaken fixed.setting (ways_for fixed ups replica) conn (was.story.course.sessions conn) request
      → StandsOn fixed front replica conn (inputs ++ Asks request ∷ new) held (come connection (Asks request ∷ new)).connection before told
      (carry_all front world (come connection (Asks request ∷ new)).outs)
  unfolding input_in requests_in carry_all
  request_kept inputs new request held connection before told world was sends last all follow (here tag reply session is alone stays lasts form) =
      read_on inputs new (Asks request) held connection before told world (answers_now conn connection session tag reply)
      (reads_input fixed.setting (ways_for fixed ups replica) conn connection (Asks request) was.reading.stage_is ∙ form connection was.reading.session_is)
      all follow
      (answered_here fixed front replica conn inputs (inputs ++ Asks request ∷ []) connection before told world request tag reply session was
      (next_of inputs new (Asks request) connection before told world request was all refl) is alone stays lasts
      (λ answer on. request_answered inputs (was.story.told conn) request answer was.reading.answered on))
  request_kept inputs new request held connection before told world was sends last all follow (finishes tag it reply command is alone is_end form) =
      let turned : Turned = last_of conn connection tag reply in
      came_on (inputs ++ Asks request ∷ new) held connection before told world (Asks request) new turned
      (reads_input fixed.setting (ways_for fixed ups replica) conn connection (Asks request) was.reading.stage_is ∙ form connection was.reading.session_is)
      (subst (λ (t : Turned). StandsOn fixed front replica conn (inputs ++ Asks request ∷ new) held t.connection before told
      (carry_all front (carry_all front world turned.outs) t.outs))
      (sym (last_turned fixed.setting (ways_for fixed ups replica) conn (record connection { session = session_ended }) tag reply new))
      (last_here fixed front replica conn inputs new held connection before told world request tag reply was
      (next_of inputs new (Asks request) connection before told world request was all refl) is alone is_end))
  request_kept inputs new request held connection before told world was sends last all follow (asked tag it name work is need form) =
      asked_if inputs new request held connection before told world was sends last all follow tag it name work is need form
      (is_up ups (begun_at fixed front replica conn connection name work).sent.to) refl
  request_kept inputs new request held connection before told world was sends last all follow (listed tag it listing is need form) =
      listed_if inputs new request held connection before told world was sends last all follow tag it listing is need form (is_up ups fixed.master) refl

  -- all inputs of a piece, or all that waited
  pub inputs_kept : (new : List Input) (held : Option (List ℕ)) (before : World) (told : Tale) → MaySend before told → FaultsLast new held
      → Follow new held before told
  unfolding inputs_come FaultsLast input_in carry_all
  inputs_kept [] held before told sends last = λ inputs connection world all was.
      subst (λ f. StandsOn fixed front replica conn f held connection before told world) (sym (append-nil inputs))
      (reads_stands inputs held connection before told world was)
  inputs_kept (Asks request ∷ new) held before told sends last = λ inputs connection world all was.
      request_kept inputs new request held connection before told world was sends last all
      (inputs_kept new held before told sends last)
      (request_taken fixed.setting (ways_for fixed ups replica) conn (was.story.course.sessions conn) request was.reading.goes_on)
  inputs_kept (GoesOn why ∷ new) held before told sends last = λ inputs connection world all was.
      read_on inputs new (GoesOn why) held connection before told world
      (record { connection = connection; outs = to_client conn (continuation_line why) ∷ [] })
      (reads_input fixed.setting (ways_for fixed ups replica) conn connection (GoesOn why) was.reading.stage_is) all
      (inputs_kept new held before told sends last)
      (awaited_here fixed front replica conn inputs connection before told world why was)
  inputs_kept (Faults fault ∷ new) held before told sends last = λ inputs connection world all was.
      fault_kept inputs new held connection before told world fault last.0 last.1 was
