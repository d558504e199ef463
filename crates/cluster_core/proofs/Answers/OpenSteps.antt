-- A frontend takes the answer, or the master's OK, for which a command of an open connection waits.
use Rattle.std.proofs.Common.{◌≡◌, ◌≢◌, ℕ, true, List, ◌∷◌, Option, Some, inr, sym, ◌∙◌, ap, subst}
use Rattle.std.proofs.Math.Logic.{⊎_elim}
use Rattle.std.proofs.lemmas.Cmp.{nat_list_eq_equiv}
use Rattle.asking_core.specs.declared.waiting.At.TheVariants.{Home}
use Rattle.asking_core.specs.declared.waiting.Waiting.{Waiting as WaitingFor}
use Rattle.front_core.specs.Reading.{Reading as Read}
use Rattle.front_core.specs.declared.connection.Connection.{Connection}
use Rattle.front_core.specs.declared.connection.Stage.TheVariants.{Waits, Ended}
use Rattle.front_core.specs.declared.front.Front.{Front}
use Rattle.front_core.specs.Answered.{answer_comes}
use Rattle.front_core.specs.Ended.{released}
use Rattle.front_core.specs.Front.{answer_at, answer_from, connection_at, deliver, waits_for, ways_of, with_turned}
use Rattle.front_core.specs.Stages.{asks_at, has_asked}
use Rattle.front_core.specs.Taken.{Turned}
use Rattle.imap_talk.specs.declared.inputs.Input.{Input}
use Rattle.imap_types.specs.declared.command.Tag.{Tag}
use Rattle.imap_types.specs.declared.request.Answer.{Answer as AnswerOf}
use Rattle.link_msg.specs.declared.answer.BackAnswer.{BackAnswer}
use Rattle.link_msg.specs.declared.message.LinkMsg.{LinkMsg}
use Rattle.link_msg.specs.declared.message.LinkMsg.TheVariants.{Answer}
use Rattle.link_msg.specs.declared.out.Out.{Out}
use Rattle.link_queue.specs.Links.{on_link}
use Rattle.mark_history.specs.Marked.{Tale}
use Rattle.mur_base.specs.declared.point.AskId.{AskId}
use Rattle.mur_model.specs.declared.commands.list.Listing.{Listing}
use Rattle.mur_model.specs.declared.session.Sess.{Sess}
use Rattle.mur_model.specs.declared.setting.Setting.{Setting}
use Rattle.node_step.specs.declared.input.NodeInput.TheVariants.{From}
use Rattle.route_links.specs.Barriers.{Place as Barrier, Place as barrier}
use Rattle.cluster_core.specs.declared.world.World.{World}
use Rattle.cluster_core.specs.World.{carry_all, home_at, taken_from_link}
use Rattle.cluster_core.proofs.Commands.Knows.{KnowsNames}
use Rattle.cluster_core.proofs.Commands.Knows.KnowsNames.{is_gone, is_listed, not_yet}
use Rattle.cluster_core.proofs.Commands.Place.{Place, Place as place}
use Rattle.cluster_core.proofs.Commands.Released.{begun_released}
use Rattle.cluster_core.proofs.Commands.Standing.{Fixed, HasBegunSo, Lists, Stands, Waiting, next_id}
use Rattle.cluster_core.proofs.Commands.Standing.Stands.{reads, waits, lists, faulted, finished}
use Rattle.cluster_core.proofs.Connections.ConnectionLaw.{IsInPlaceOf, IsStanding, PlacesStay}
use Rattle.cluster_core.proofs.Connections.KeepsData.{standing_released}
use Rattle.cluster_core.proofs.Connections.KeepsFront.{standing_after, world_after}
use Rattle.cluster_core.proofs.Nodes.AllCome.{all_come, front_all_come}
use Rattle.cluster_core.proofs.Nodes.Comes.{with_front}
use Rattle.cluster_core.proofs.Places.FrontTakes.{takes_answer}
use Rattle.cluster_core.proofs.Places.FrontWorlds.{answer_stays}
use Rattle.cluster_core.proofs.Connections.FrameLaw.{ways_for}
use Rattle.cluster_core.proofs.Answers.AnswerComes.{NamesBackend, answer_turns}
use Rattle.cluster_core.proofs.Answers.GoesOn.{StandsSo}
use Rattle.cluster_core.proofs.Answers.Readers.{KeepsReader, answer_reader}
use Rattle.cluster_core.proofs.Answers.Replied.{IsHeard}
use Rattle.cluster_core.proofs.Answers.Steps.{IsBefore, IsStep, inputs_may_come, may_send, step_is}

-- THE STEP OF AN OPEN CONNECTION: it stands behind it
pub record OpenStep (fixed : Fixed) (world : World) (story : Tale) (from node : List ℕ) (front : Front) (conn : ℕ) (inputs : List Input)
    (held : Option (List ℕ)) (was : Connection) (next : World) : Type 0 where
  pub connection : Connection
  pub outs : List Out
  pub later : Tale
  pub step : IsStep fixed world story from node front conn connection outs next later
  pub standing : IsStanding fixed node front.replica conn inputs held connection next later
  pub begun : (reading : Read) → HasBegunSo was reading → HasBegunSo connection reading

-- ---- a command that is somewhere waits

pub data WaitsThere (fixed : Fixed) (front : List ℕ) (conn : ℕ) (inputs : List Input) (held : Option (List ℕ)) (connection : Connection)
    (told said : List AnswerOf) (session : Sess) (here : Place) : Type 0 where
  of_mailbox : Waiting fixed front conn inputs held connection told said session here
      → WaitsThere fixed front conn inputs held connection told said session here
  of_names : Lists fixed inputs held connection told said session here → WaitsThere fixed front conn inputs held connection told said session here

pub waits_there : (fixed : Fixed) (front : List ℕ) (conn : ℕ) (inputs : List Input) (held : Option (List ℕ)) (connection : Connection)
    (told said : List AnswerOf) (session : Sess) (here : Place) → here ≢ place.nowhere → Stands fixed front conn inputs held connection told said session here
    → WaitsThere fixed front conn inputs held connection told said session here
waits_there fixed front conn inputs held connection told said session here somewhere (reads a b c d e f none) = absurd (somewhere none)
waits_there fixed front conn inputs held connection told said session here somewhere (waits waiting) = of_mailbox waiting
waits_there fixed front conn inputs held connection told said session here somewhere (lists it) = of_names it
waits_there fixed front conn inputs held connection told said session here somewhere (faulted a b c d e none) = absurd (somewhere none)
waits_there fixed front conn inputs held connection told said session here somewhere (finished passed more request before last a b c d e f none) =
    absurd (somewhere none)

-- a LIST is at its barrier alone
not_answered : (server : List ℕ) (answer : BackAnswer) (at : Barrier) → place.is_answered server answer ≡ place.is_barred at → ⊥
not_answered server answer at e = cc

not_listed : (server : List ℕ) (answer : BackAnswer) (tag : Tag) (it : Listing) (was : Sess) (told said : List AnswerOf) (session : Sess)
    → KnowsNames tag it was told said session (place.is_answered server answer) → ⊥
not_listed server answer tag it was told said session (not_yet same stays at) = not_answered server answer barrier.asked at
not_listed server answer tag it was told said session (is_gone same stays at) = not_answered server answer barrier.nowhere at
not_listed server answer tag it was told said session (is_listed table more stays at) = not_answered server answer (barrier.answered table) at

answer_of : (fixed : Fixed) (front : List ℕ) (conn : ℕ) (inputs : List Input) (held : Option (List ℕ)) (connection : Connection)
    (told said : List AnswerOf) (session : Sess) (server : List ℕ) (answer : BackAnswer)
    → WaitsThere fixed front conn inputs held connection told said session (place.is_answered server answer)
    → Waiting fixed front conn inputs held connection told said session (place.is_answered server answer)
answer_of fixed front conn inputs held connection told said session server answer (of_mailbox waiting) = waiting
answer_of fixed front conn inputs held connection told said session server answer (of_names it) =
    absurd (not_listed server answer it.tag it.listing connection.session told said session it.knows)

-- it hasn't ended
pub waits_live : (connection : Connection) (tag : Tag) (it : WaitingFor) → connection.stage ≡ Waits tag it → connection.stage ≢ Ended
waits_live connection tag it stage ended = let no : Waits tag it ≡ Ended = sym stage ∙ ended in cc

module _ (fixed : Fixed) (world : World) (story : Tale) (from node : List ℕ) (front : Front) (conn : ℕ) (inputs : List Input) (held : Option (List ℕ))
    (connection : Connection) (before : IsBefore fixed world story node front conn inputs connection)
    (standing : IsStanding fixed node front.replica conn inputs held connection world story) where
  -- what waits at this place
  pub stands_there : (here : Place) → here ≢ place.nowhere → standing.here ≡ here
      → WaitsThere fixed node conn inputs held connection (story.told conn) (story.talk.answers conn) (story.course.sessions conn) here
  stands_there here somewhere is =
      waits_there fixed node conn inputs held connection (story.told conn) (story.talk.answers conn) (story.course.sessions conn) here somewhere
      (subst (λ h. Stands fixed node conn inputs held connection (story.told conn) (story.talk.answers conn) (story.course.sessions conn) h) is standing.stands)

  -- the message was taken, and the command is nowhere
  pub heard_so : (here : Place)
      → IsInPlaceOf fixed (taken_from_link world from node) node front.replica (next_id conn (story.told conn)) place.nowhere
      → Waiting fixed node conn inputs held connection (story.told conn) (story.talk.answers conn) (story.course.sessions conn) here
      → IsHeard fixed node front.replica conn inputs held connection (taken_from_link world from node) story here
  heard_so here over waiting =
      record { count = standing.count; client = standing.client; nothing = over; is_told = before.is_told; waiting = waiting }

  -- the frontend does this with the connection
  pub turned_step : (turned : Turned) → connection.stage ≢ Ended
      → StandsSo fixed node front.replica conn inputs held (taken_from_link world from node) story turned
      → KeepsReader connection turned
      → ((other : ℕ) → other ≢ conn → PlacesStay fixed other world (taken_from_link world from node))
      → OpenStep fixed world story from node front conn inputs held connection
      (world_after (taken_from_link world from node) node front conn (released turned.connection) turned.outs)
  turned_step turned lives stands reader others = record {
    connection = released turned.connection;
    outs = turned.outs;
    later = stands.story;
    step = step_is fixed world story from node front conn connection (released turned.connection) before.at turned.outs stands.story stands.made others;
    standing = standing_after fixed (taken_from_link world from node) node front conn (released turned.connection) turned.outs inputs held front.replica
        stands.story (before.at).at ((stands.made).others).nodes
        (standing_released fixed node front.replica conn inputs held turned.connection (carry_all node (taken_from_link world from node) turned.outs)
        stands.story stands.standing);
    begun = λ reading so. begun_released turned.connection reading
        (⊎_elim (λ ended. absurd (lives ended)) (λ is. inr (reader ∙ is)) so);
  }

  -- ---- an answer

  not_elsewhere : (server : List ℕ) (answer : BackAnswer) → place.is_answered server answer ≢ place.nowhere
  not_elsewhere server answer e = cc

  -- it counts, as it comes from the server that was asked
  delivers_answer : (answer : BackAnswer) (tag : Tag) (it : WaitingFor) → (answer.id).conn ≡ conn → connection.stage ≡ Waits tag it → it.at ≡ Home from
      → deliver front from (Answer answer) ≡ with_turned front conn (answer_comes fixed.setting (ways_for fixed front.ups front.replica) conn connection answer)
  unfolding deliver answer_from answer_at waits_for has_asked
  delivers_answer answer tag it own stage asked =
      let there : connection_at front (answer.id).conn ≡ Some connection = ap (connection_at front) own ∙ (before.at).has in
      let waits_so : waits_for (connection_at front (answer.id).conn) from ≡ true =
      ap (λ c. waits_for c from) there ∙ ap (λ s. has_asked s from) stage ∙ ap (λ a. asks_at a from) asked ∙ nat_list_eq_equiv.refl from in
      ap (λ b. answer_from b front answer) waits_so ∙ ap (answer_at front answer) there
      ∙ ap (λ c. with_turned front c (answer_comes front.setting (ways_of front) c connection answer)) own
      ∙ ap (λ (s : Setting). with_turned front conn (answer_comes s (ways_of front) conn connection answer)) before.setting_is
      ∙ ap (λ ways. with_turned front conn (answer_comes fixed.setting ways conn connection answer)) before.ways_is

  answer_comes_so : (answer : BackAnswer) (turned : Turned) → deliver front from (Answer answer) ≡ with_turned front conn turned
      → all_come (taken_from_link world from node) node (From from (Answer answer))
      ≡ world_after (taken_from_link world from node) node front conn (released turned.connection) turned.outs
  answer_comes_so answer turned is =
      front_all_come (taken_from_link world from node) node (From from (Answer answer)) front (before.at).at
      ∙ ap (with_front (taken_from_link world from node) node) is

  pub answer_step : (answer : BackAnswer) (rest : List LinkMsg) → on_link world.links from node ≡ Answer answer ∷ rest → (answer.id).conn ≡ conn
      → NamesBackend (home_at world) answer.body
      → OpenStep fixed world story from node front conn inputs held connection (all_come (taken_from_link world from node) node (From from (Answer answer)))
  answer_step answer rest first own names =
      let id : AskId = next_id conn (story.told conn) in
      let frontend = (before.may).frontend in
      let is = takes_answer fixed.master (home_at world) world.links from node answer rest node front.replica id standing.here frontend first own
      standing.placed in
      let turned : Turned = answer_comes fixed.setting (ways_for fixed front.ups front.replica) conn connection answer in
      let base : World = taken_from_link world from node in
      let here : Place = place.is_answered from answer in
      let waiting = answer_of fixed node conn inputs held connection (story.told conn) (story.talk.answers conn) (story.course.sessions conn) from answer
      (stands_there here (not_elsewhere from answer) is.here_is) in
      let heard = heard_so here is.over waiting in
      subst (λ w. OpenStep fixed world story from node front conn inputs held connection w)
      (sym (answer_comes_so answer turned (delivers_answer answer waiting.tag (waiting.c).waiting own waiting.stage waiting.at)))
      (turned_step turned (waits_live connection waiting.tag (waiting.c).waiting waiting.stage)
      (answer_turns fixed node front.ups front.replica conn inputs held connection base story from answer heard
      (inputs_may_come fixed world story node front conn inputs held connection before from) before.requests
      (may_send fixed world story node front conn inputs held connection before from (story.talk.answers conn) (story.course.sessions conn) here waiting)
      names)
      (answer_reader fixed.setting (ways_for fixed front.ups front.replica) conn connection answer)
      (λ other ne. answer_stays fixed world from node answer rest other frontend first (λ e. ne (e ∙ own))))
