-- A frontend takes a message about one of its connections: what the world is then for that connection, and for all others.
use Rattle.std.proofs.Common.{◌≡◌, ◌≢◌, ℕ, ◌+◌, ◌<◌, ◌^◌, List, ◌∷◌, ◌++◌, length, Option, refl, sym, ◌∙◌, ap, subst, length-append, arith}
use Rattle.front_core.specs.declared.connection.Connection.{Connection}
use Rattle.front_core.specs.declared.front.Front.{Front}
use Rattle.front_core.specs.Front.{ways_of}
use Rattle.front_core.specs.Taken.{Turned, inputs_come}
use Rattle.imap_talk.specs.Inputs.{requests_in}
use Rattle.imap_talk.specs.declared.inputs.Input.{Input}
use Rattle.imap_talk.specs.declared.inputs.Input.TheVariants.{Asks}
use Rattle.imap_talk.proofs.InputLaws.{requests-append}
use Rattle.imap_talk.proofs.RequestsOf.{answered_lengths}
use Rattle.imap_types.specs.declared.request.Answer.{Answer as AnswerOf}
use Rattle.link_msg.specs.declared.out.Out.{Out}
use Rattle.mark_history.specs.Marked.{Tale}
use Rattle.mur_model.specs.declared.session.Sess.{Sess}
use Rattle.route_links.specs.Answered.{IsNumbered}
use Rattle.cluster_core.specs.declared.world.World.{World}
use Rattle.cluster_core.specs.World.{carry_all, home_at, taken_from_link}
use Rattle.cluster_core.proofs.Commands.AllReached.{AreMarkedSo}
use Rattle.cluster_core.proofs.Commands.Place.{Place}
use Rattle.cluster_core.proofs.Commands.Standing.{Fixed, Waiting, next_id}
use Rattle.cluster_core.proofs.Connections.AsksFirst.{Reaches}
use Rattle.cluster_core.proofs.Connections.ConnectionLaw.{IsMade, PlacesStay, StandsOn}
use Rattle.cluster_core.proofs.Connections.FrameLaw.{HasNumbersOf, inputs_kept, ways_for}
use Rattle.cluster_core.proofs.Connections.KeepsFront.{is_at_after, with_connection, world_after}
use Rattle.cluster_core.proofs.Connections.KeepsLaw.{IsAt}
use Rattle.cluster_core.proofs.Connections.Sends.{MayAsk}
use Rattle.cluster_core.proofs.Answers.GoesOn.{MaySend}
use Rattle.cluster_core.proofs.Answers.Replied.{InputsCome}

-- a connection of a frontend, before the frontend takes a message
pub record IsBefore (fixed : Fixed) (world : World) (story : Tale) (node : List ℕ) (front : Front) (conn : ℕ) (inputs : List Input)
    (connection : Connection) : Type 0 where
  pub at : IsAt world conn node front connection
  pub setting_is : front.setting ≡ fixed.setting
  pub master_is : front.master ≡ fixed.master
  pub ways_is : ways_of front ≡ ways_for fixed front.ups front.replica
  pub may : MayAsk fixed (home_at world) node front.replica
  pub reaches : Reaches fixed.master (home_at world) world.broken front.ups
  pub numbers : HasNumbersOf conn story
  pub is_told : AreMarkedSo fixed.setting world.broken world.steps world.marks story
  pub requests : story.talk.requests conn ≡ requests_in inputs

-- WHAT THE STEP MAKES: the connection is so then, it let this out, and the tale is this one; the commands of all others are where they were
pub record IsStep (fixed : Fixed) (world : World) (story : Tale) (from node : List ℕ) (front : Front) (conn : ℕ) (connection : Connection)
    (outs : List Out) (next : World) (later : Tale) : Type 0 where
  pub is : next ≡ world_after (taken_from_link world from node) node front conn connection outs
  pub at : IsAt next conn node (with_connection front conn connection) connection
  pub made : IsMade fixed conn (taken_from_link world from node) story (carry_all node (taken_from_link world from node) outs) later
  pub others : (other : ℕ) → other ≢ conn → PlacesStay fixed other world (taken_from_link world from node)

pub step_is : (fixed : Fixed) (world : World) (story : Tale) (from node : List ℕ) (front : Front) (conn : ℕ) (was connection : Connection)
    → IsAt world conn node front was → (outs : List Out) (later : Tale)
    → IsMade fixed conn (taken_from_link world from node) story (carry_all node (taken_from_link world from node) outs) later
    → ((other : ℕ) → other ≢ conn → PlacesStay fixed other world (taken_from_link world from node))
    → IsStep fixed world story from node front conn connection outs (world_after (taken_from_link world from node) node front conn connection outs) later
step_is fixed world story from node front conn was connection at outs later made others = record {
  is = refl;
  at = is_at_after (taken_from_link world from node) node front conn was connection outs at.at at.has;
  made = made;
  others = others;
}

-- a command that waits is one of its connection's, so its number is one of 64 bits
waits_numbered : (fixed : Fixed) (front : List ℕ) (conn : ℕ) (inputs : List Input) (held : Option (List ℕ)) (connection : Connection) (story : Tale)
    (said : List AnswerOf) (session : Sess) (here : Place) → Waiting fixed front conn inputs held connection (story.told conn) said session here
    → HasNumbersOf conn story → story.talk.requests conn ≡ requests_in inputs → IsNumbered (next_id conn (story.told conn))
unfolding requests_in
waits_numbered fixed front conn inputs held connection story said session here waiting numbers requests =
    let so : requests_in inputs ≡ requests_in waiting.passed ++ waiting.request ∷ requests_in connection.waiting =
    ap requests_in waiting.parts ∙ requests-append waiting.passed (Asks waiting.request ∷ connection.waiting) in
    let counted : length (story.talk.requests conn) ≡ length (requests_in waiting.passed) + length (waiting.request ∷ requests_in connection.waiting) =
    ap length (requests ∙ so) ∙ length-append (requests_in waiting.passed) (waiting.request ∷ requests_in connection.waiting) in
    let few : length (story.told conn) + 1 < 2 ^ 64 =
    omega (arith, numbers.1, counted, answered_lengths waiting.passed (story.told conn) waiting.answered) in
    (numbers.0, few)

module _ (fixed : Fixed) (world : World) (story : Tale) (node : List ℕ) (front : Front) (conn : ℕ) (inputs : List Input) (held : Option (List ℕ))
    (connection : Connection) (before : IsBefore fixed world story node front conn inputs connection) (from : List ℕ) where
  pub may_send : (said : List AnswerOf) (session : Sess) (here : Place)
      → Waiting fixed node conn inputs held connection (story.told conn) said session here → MaySend fixed node front.ups conn (taken_from_link world from node) story
  may_send said session here waiting = record {
    frontend = (before.may).frontend;
    reaches = before.reaches;
    is_numbered = waits_numbered fixed node conn inputs held connection story said session here waiting before.numbers before.requests;
  }

  -- the inputs that waited come behind it
  pub inputs_may_come : InputsCome fixed node front.ups front.replica conn inputs held (taken_from_link world from node) story
  inputs_may_come passed new later next parts last reads =
      let behind : Turned = inputs_come fixed.setting (ways_for fixed front.ups front.replica) conn later new in
      subst (λ (all : List Input). StandsOn fixed node front.replica conn all held behind.connection (taken_from_link world from node) story
      (carry_all node next behind.outs)) parts
      (inputs_kept fixed node front.ups front.replica conn new held (taken_from_link world from node) story
      (record { may = before.may; reaches = before.reaches; numbers = before.numbers }) last
      passed later next (before.requests ∙ ap requests_in (sym parts)) reads)
