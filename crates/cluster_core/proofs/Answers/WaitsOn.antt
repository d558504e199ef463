-- A command that isn't at its end waits on: its frontend asks a server, or sends the master a NOOP.
use Rattle.std.proofs.Common.{◌≡◌, ℕ, Bool, List, Option, Some, refl, sym, ◌∙◌, ap, subst}
use Rattle.asking_core.specs.Answered.{WentOn}
use Rattle.asking_core.specs.Begins.{ask_of}
use Rattle.asking_core.specs.Laws.{FitsAt}
use Rattle.asking_core.specs.declared.waiting.At.{At}
use Rattle.asking_core.specs.declared.waiting.At.TheVariants.{Home, Barrier as at_master}
use Rattle.asking_core.specs.declared.waiting.Sent.{Sent}
use Rattle.asking_core.specs.declared.waiting.Waiting.{Waiting as WaitingFor}
use Rattle.back_node.specs.declared.node.BackNode.{BackNode}
use Rattle.feed_core.specs.declared.replica.Replica.{Replica}
use Rattle.front_core.specs.declared.connection.Connection.{Connection}
use Rattle.front_core.specs.Taken.{waits_with}
use Rattle.imap_talk.specs.SessionEnds.{has_ended}
use Rattle.imap_talk.specs.declared.inputs.Input.{Input}
use Rattle.link_msg.specs.declared.ask.FrontAsk.{FrontAsk}
use Rattle.link_msg.specs.declared.message.LinkMsg.{LinkMsg}
use Rattle.link_msg.specs.declared.message.LinkMsg.TheVariants.{Ask}
use Rattle.link_queue.specs.Links.{sent}
use Rattle.mark_history.specs.Marked.{Tale}
use Rattle.mark_history.specs.declared.mark.Mark.{Mark}
use Rattle.mur_base.specs.declared.point.AskId.{AskId}
use Rattle.mur_model.specs.declared.need.Asking.{Asking}
use Rattle.point_links.specs.AtHome.{its_ask}
use Rattle.point_links.specs.Commands.{ClientCommand, WaitsOn}
use Rattle.route_links.specs.Answered.{IsNumbered, noop_of}
use Rattle.route_links.specs.Barriers.{Place as barrier}
use Rattle.many_links.specs.Murder.{Nodes}
use Rattle.cluster_core.specs.declared.world.World.{World}
use Rattle.cluster_core.specs.World.{carry, carry_all, home_at}
use Rattle.cluster_core.proofs.Commands.Knows.{Undecided}
use Rattle.cluster_core.proofs.Commands.Knows.Knows.{undecided}
use Rattle.cluster_core.proofs.Commands.Place.{Place, Place as place}
use Rattle.cluster_core.proofs.Commands.Standing.{Fixed, WaitsAt, next_id}
use Rattle.cluster_core.proofs.Commands.Standing.Stands.{waits}
use Rattle.cluster_core.proofs.Connections.ConnectionLaw.{CanRestore, IsDroppedAt, IsInPlaceOf, IsMarkedAt, KeepsOthers, StandsOn, same_story}
use Rattle.cluster_core.proofs.Places.FrontSends.{ask_leaves_others, noop_leaves_others, sends_ask, sends_noop}
use Rattle.cluster_core.proofs.Places.Stays.{IsFrontend}
use Rattle.cluster_core.proofs.Answers.Replied.{IsHeard}

-- the server that is asked then is a backend
abbrev pub AsksBackend : Nodes → At → Type 0
AsksBackend nodes at = (server : List ℕ) → at ≡ Home server → (node : BackNode) × (nodes server ≡ Some node)

-- the same command, which waits so from then on
abbrev pub waiting_as : (c : ClientCommand) (next : WaitingFor) → next.name ≡ c.waiting.name → next.asking ≡ c.waiting.asking → ClientCommand
waiting_as c next name asking = record {
  setting = c.setting;
  id = c.id;
  was = c.was;
  it = c.it;
  name = c.name;
  work = c.work;
  waiting = next;
  need = c.need;
  name_is = name ∙ c.name_is;
  asking_is = asking ∙ c.asking_is;
}

-- a message went out in a world, and nothing else changed
abbrev pub sent_in : World → List ℕ → Sent → World
sent_in world front it = record world { links = sent world.links front it.to it.message }

-- what is sent for it, and where it is then
record IsSent (fixed : Fixed) (front : List ℕ) (replica : Replica) (conn : ℕ) (world : World) (story : Tale) (c : ClientCommand) (it : Sent)
    : Type 0 where
  here : Place
  placed : IsInPlaceOf fixed (sent_in world front it) front replica (next_id conn (story.told conn)) here
  others : KeepsOthers fixed conn world (sent_in world front it)
  at : WaitsAt c.waiting.at here
  is_undecided : Undecided fixed.master fixed.first front c here
  no_mark : (moving : ℕ → List ℕ → Bool) (marks : List Mark) (id : AskId) → IsMarkedAt moving marks id here
  not_dropped : IsDroppedAt fixed.master (sent_in world front it) front here
  restores : (connection : Connection) → CanRestore story conn connection here

module _ (fixed : Fixed) (front : List ℕ) (replica : Replica) (conn : ℕ) (world : World) (frontend : IsFrontend fixed.master (home_at world) front) where
  asked_others : (server : List ℕ) (node : BackNode) (ask : FrontAsk) → home_at world server ≡ Some node → (ask.id).conn ≡ conn
      → KeepsOthers fixed conn world (record world { links = sent world.links front server (Ask ask) })
  asked_others server node ask at own = record {
    nodes = refl;
    broken = refl;
    steps = refl;
    clients = λ other ne. refl;
    places = λ other ne.
        let keeps = ask_leaves_others fixed.master (home_at world) world.links front server node ask other frontend at (λ e. ne (e ∙ own)) in
        record { in_place = keeps.in_place; in_none = keeps.in_none };
    marks = λ other ne command. refl;
  }

  barred_others : (id : AskId) → IsNumbered id → id.conn ≡ conn
      → KeepsOthers fixed conn world (record world { links = sent world.links front fixed.master (noop_of id) })
  barred_others id numbered own = record {
    nodes = refl;
    broken = refl;
    steps = refl;
    clients = λ other ne. refl;
    places = λ other ne.
        let keeps = noop_leaves_others fixed.master (home_at world) world.links front id other frontend numbered (λ e. ne (e ∙ own)) in
        record { in_place = keeps.in_place; in_none = keeps.in_none };
    marks = λ other ne command. refl;
  }

  -- ---- what is sent

  sent_is : (it : Sent) (to : List ℕ) (message : LinkMsg) → it.to ≡ to → it.message ≡ message → it ≡ record { to = to; message = message }
  sent_is it to message one two =
      ap (λ t. record { to = t; message = it.message }) one ∙ ap (λ (m : LinkMsg). record { to = to; message = m }) two

  -- the ask is what it was
  same_ask : (c : ClientCommand) (next : WaitingFor) (name : next.name ≡ c.waiting.name) (asking : next.asking ≡ c.waiting.asking)
      → its_ask c ≡ its_ask (waiting_as c next name asking)
  same_ask c next name asking =
      ap (λ n. ask_of c.id c.was (record c.waiting { name = n })) (sym name)
      ∙ ap (λ (a : Asking). ask_of c.id c.was (record next { asking = a })) (sym asking)

  sent_so : (story : Tale) (c : ClientCommand) (next : WaitingFor) (name : next.name ≡ c.waiting.name) (asking : next.asking ≡ c.waiting.asking)
      (it : Sent) (at : At) → next.at ≡ at → FitsAt fixed.master c.id c.was c.waiting it at → AsksBackend (home_at world) at
      → c.id ≡ next_id conn (story.told conn) → IsNumbered c.id
      → IsInPlaceOf fixed world front replica (next_id conn (story.told conn)) place.nowhere
      → IsSent fixed front replica conn world story (waiting_as c next name asking) it
  sent_so story c next name asking it (Home server) e fits backend its numbered nowhere =
      let there = backend server refl in
      let then : ClientCommand = waiting_as c next name asking in
      let own : (its_ask then).id ≡ next_id conn (story.told conn) = its in
      subst (λ i. IsSent fixed front replica conn world story then i)
      (sym (sent_is it server (Ask (its_ask then)) fits.0 (fits.1 ∙ ap Ask (same_ask c next name asking))))
      (record {
        here = place.is_asked server (its_ask then);
        placed = sends_ask fixed.master (home_at world) world.links front replica (next_id conn (story.told conn)) server there.0 (its_ask then) frontend
            there.1 own nowhere;
        others = asked_others server there.0 (its_ask then) there.1 (ap (λ (i : AskId). i.conn) its);
        at = e;
        is_undecided = refl;
        no_mark = λ moving marks id. tt;
        not_dropped = tt;
        restores = λ connection. tt;
      })
  sent_so story c next name asking it (at_master cause) e fits backend its numbered nowhere =
      subst (λ i. IsSent fixed front replica conn world story (waiting_as c next name asking) i)
      (sym (sent_is it fixed.master (noop_of c.id) fits.0 fits.1))
      (record {
        here = place.is_barred barrier.asked;
        placed = subst (λ (i : AskId). IsInPlaceOf fixed (sent_in world front (record { to = fixed.master; message = noop_of i })) front replica
            (next_id conn (story.told conn)) (place.is_barred barrier.asked)) (sym its)
            (sends_noop fixed.master (home_at world) world.links front replica (next_id conn (story.told conn)) frontend
            (subst IsNumbered its numbered) nowhere);
        others = barred_others c.id numbered (ap (λ (i : AskId). i.conn) its);
        at = subst (λ a. WaitsAt a (place.is_barred barrier.asked)) (sym e) tt;
        is_undecided = tt;
        no_mark = λ moving marks id. tt;
        not_dropped = tt;
        restores = λ connection. tt;
      })

-- ---- the connection waits on

pub waits_on_stands : (fixed : Fixed) (front : List ℕ) (replica : Replica) (conn : ℕ) (inputs : List Input) (held : Option (List ℕ)) (connection : Connection)
    (world : World) (story : Tale) (here : Place) (heard : IsHeard fixed front replica conn inputs held connection world story here)
    → IsFrontend fixed.master (home_at world) front → IsNumbered (next_id conn (story.told conn))
    → story.talk.answers conn ≡ story.told conn → (heard.waiting).c.was ≡ story.course.sessions conn
    → (next : WentOn) (on : WaitsOn fixed.master (heard.waiting).c next) → AsksBackend (home_at world) next.waiting.at
    → StandsOn fixed front replica conn inputs held
    (waits_with (record connection { session = next.session }) (heard.waiting).tag next.waiting on.sent).connection world story
    (carry_all front world (waits_with (record connection { session = next.session }) (heard.waiting).tag next.waiting on.sent).outs)
unfolding carry_all carry
waits_on_stands fixed front replica conn inputs held connection world story here heard frontend numbered said was next on backend =
    let waiting = heard.waiting in
    let c : ClientCommand = waiting.c in
    let is = sent_so fixed front replica conn world frontend story c next.waiting on.asks.name_is on.asks.asking_is on.sent next.waiting.at refl on.asks.fits
    backend (waiting.of).its (subst IsNumbered (sym (waiting.of).its) numbered) heard.nothing in
    record {
      story = story;
      made = record { others = is.others; goes_on = same_story conn story; store = refl; is_told = heard.is_told };
      standing = record {
        count = heard.count;
        client = heard.client;
        here = is.here;
        placed = is.placed;
        marked = is.no_mark story.talk.moving world.marks (next_id conn (story.told conn));
        dropped = is.not_dropped;
        restores = is.restores (waits_with (record connection { session = next.session }) waiting.tag next.waiting on.sent).connection;
        stands = waits (record {
          passed = waiting.passed;
          request = waiting.request;
          tag = waiting.tag;
          c = waiting_as c next.waiting on.asks.name_is on.asks.asking_is;
          of = record { setting_is = (waiting.of).setting_is; its = (waiting.of).its; was_is = sym on.session_is };
          stage = refl;
          at = is.at;
          parts = waiting.parts;
          lasts = ap has_ended (on.session_is ∙ (waiting.of).was_is) ∙ waiting.lasts;
          answered = waiting.answered;
          is = waiting.is;
          last = waiting.last;
          knows = undecided said was is.is_undecided;
        });
      };
    }
