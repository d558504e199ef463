-- One step of the world in which a backend takes a message. Where an ask waits behind the step, the backend says nothing of its command in the step. And a line
-- that begins something is for the ask that the backend takes in the step, or for one that waited.
use Rattle.std.proofs.Common.{◌≡◌, ◌≢◌, ◌⊎◌, inl, inr, ℕ, true, false, nat_eq, List, [], ◌∷◌, ◌++◌, filter, slice_get, Option, None, Some, refl, sym, ap, subst}
use Rattle.std.proofs.Common.{◌∙◌, eqb-true}
use Rattle.std.specs.List.{AllByRecursion}
use Rattle.std.specs.Ordering.{nat_cmp}
use Rattle.std.specs.Cmp.Lexicographic.{slice_cmp}
use Rattle.std.proofs.lemmas.List.Elements.{All-append, All-cons, All-nil}
use Rattle.back_links.specs.BackEvents.{IsFitting}
use Rattle.back_links.specs.OneTalk.{HasTalk}
use Rattle.back_links.specs.Spelled.{HasLineTexts}
use Rattle.back_links.proofs.BackLaw.{asks_keep_talk, hears_keeps_talk}
use Rattle.back_node.specs.declared.node.BackNode.{BackNode}
use Rattle.back_node.specs.Acted.{BackActed}
use Rattle.back_node.specs.Takes.{node_takes}
use Rattle.feed_links.specs.Lines.{messages_to}
use Rattle.imap_talk.specs.Heard.{Heard}
use Rattle.imap_types.specs.declared.op.Op.{Op}
use Rattle.link_msg.specs.declared.ask.FrontAsk.{FrontAsk}
use Rattle.link_msg.specs.declared.message.LinkMsg.{LinkMsg}
use Rattle.link_msg.specs.declared.message.LinkMsg.TheVariants.{Line, Ask}
use Rattle.link_queue.specs.Links.{on_link}
use Rattle.mupdate_codec.specs.Asks.{line_ask}
use Rattle.mupdate_codec.specs.Whole.{command_in}
use Rattle.mur_base.proofs.MapLaws.{names_apart, same_or_other}
use Rattle.mur_base.specs.declared.point.AskId.{AskId}
use Rattle.mur_config.specs.declared.config.Config.{Config}
use Rattle.name_commands.specs.Whose.{is_of_connection, is_own, is_own_ask, is_own_message, is_own_out, its_command}
use Rattle.name_commands.proofs.Marks.{none_sent}
use Rattle.name_commands.proofs.Own.{none_kept}
use Rattle.name_flows.specs.declared.ask.NameAsk.{NameAsk}
use Rattle.name_flows.specs.Link.{waiting_in}
use Rattle.schedule_text.specs.declared.event.Event.{Event}
use Rattle.schedule_text.specs.declared.event.Event.TheVariants.{Deliver}
use Rattle.cluster_core.specs.declared.world.World.{World}
use Rattle.cluster_core.specs.Headline.Asks.{taken_by}
use Rattle.cluster_core.specs.Headline.Lines.{AreOfOthers, SaysNothing, Sends, TakesAsk, begun_by}
use Rattle.cluster_core.specs.World.{home_at}
use Rattle.cluster_core.proofs.Connections.KeepsLaw.{KeepsLaw}
use Rattle.cluster_core.proofs.Lines.AtNode.{SendsIn}
use Rattle.cluster_core.proofs.Lines.Says.{IsAlone, IsForAsk, IsSilent, WaitsThen, comes, for_new, for_waiting, kind_is, line_alone, not_empty, op_of, waited}
use Rattle.cluster_core.proofs.Lines.Says.{waits_silently}
use Rattle.cluster_core.proofs.Lines.Steps.{IsDone, fits, hears, step_is, talk}
use Rattle.cluster_core.proofs.Lines.Tagged.{IsToldSo, behind, master_so, other_so, told_so}
use Rattle.cluster_core.proofs.Points.Waits.{AskedFit}
use Rattle.cluster_core.proofs.Steps.Outs.{conn_own, first_left}

-- ---- messages that aren't about a connection aren't about a command of it

abbrev NotAbout : AskId → LinkMsg → Type 0
NotAbout id message = its_command message ≢ Some id

not_its : (id : AskId) (found : Option AskId) → is_own (is_of_connection id.conn) found ≡ false → found ≢ Some id
not_its id None other e = cc
not_its id (Some it) other e =
    let same : it ≡ id = cc in
    let no : true ≡ false = sym (conn_own id.conn id refl) ∙ ap (λ (x : AskId). nat_eq x.conn id.conn) (sym same) ∙ other in cc

pub none_of_others : (id : AskId) → AreOfOthers id []
none_of_others id = All-nil (NotAbout id)

of_others : (id : AskId) (messages : List LinkMsg) → filter (is_own_message (is_of_connection id.conn)) messages ≡ [] → AreOfOthers id messages
of_others id [] none = none_of_others id
of_others id (message ∷ messages) none =
    let first = none_kept (is_own_message (is_of_connection id.conn)) message messages none in
    All-cons (NotAbout id) message messages (not_its id (its_command message) first.0) (of_others id messages first.1)

-- ---- what the step tells

-- of the commands of the connection this ask waits at the backend
abbrev pub HasWaiting : BackNode → ℕ → NameAsk → Type 0
HasWaiting home conn ask = filter (is_own_ask (is_of_connection conn)) (waiting_in home.flows.resync) ≡ ask ∷ []

-- an ask waited before the step, or is taken in it
pub data WaitedOrTaken (world : World) (event : Event) (node : List ℕ) (home : BackNode) (conn : ℕ) (ask : NameAsk) : Type 0 where
  it_waited : HasWaiting home conn ask → WaitedOrTaken world event node home conn ask
  it_comes : TakesAsk world event node (op_of ask.kind) ask.id → WaitedOrTaken world event node home conn ask

-- of an ask that waits behind it
pub record WaitsStill (world : World) (event : Event) (node : List ℕ) (home : BackNode) (conn : ℕ) (ask : NameAsk) : Type 0 where
  pub since : WaitedOrTaken world event node home conn ask
  pub says : SaysNothing world event node ask.id

-- what is begun is asked for in the step, or waited
pub data IsForOne (world : World) (event : Event) (node : List ℕ) (home : BackNode) (for_this : Op) (id : AskId) : Type 0 where
  for_taken : TakesAsk world event node for_this id → IsForOne world event node home for_this id
  for_waited : (ask : NameAsk) → HasWaiting home id.conn ask → ask.id ≡ id → op_of ask.kind ≡ for_this → IsForOne world event node home for_this id

-- of a line that begins this
pub record LineTells (world : World) (event : Event) (node : List ℕ) (home : BackNode) (to line : List ℕ) (beside : List LinkMsg) (for_this : Op) : Type 0 where
  pub id : AskId
  pub tag : line_ask line ≡ Some id
  pub its : IsForOne world event node home for_this id
  pub only : AreOfOthers id beside
  pub elsewhere : (other : List ℕ) (sent : List LinkMsg) → other ≢ to → Sends world event node other sent → AreOfOthers id sent

module _ (config : Config) (came : ℕ → Heard) (world : World) (law : KeepsLaw config came world) (fit : AskedFit world law.story) (node : List ℕ)
    (home : BackNode) (there : home_at world node ≡ Some home) (from : List ℕ) (message : LinkMsg) (rest : List LinkMsg)
    (first : on_link world.links from node ≡ message ∷ rest) (event : Event) (is : event ≡ Deliver from node)
    (all : SendsIn world event node (λ to. messages_to to (node_takes home from message).outs)) where
  abbrev me : List ℕ
  me = law.master.me

  abbrev next : BackActed
  next = node_takes home from message

  talk_is : HasTalk law.master node home (on_link world.links node me) (on_link world.links me node) law.given
  talk_is = talk config came world law fit from node home message rest there first

  done : (conn : ℕ) → IsDone (is_of_connection conn) me home from message
  done conn = step_is config came world law fit from node home message rest there first conn

  fits_is : IsFitting message
  fits_is = fits config came world law fit from node home message rest there first

  -- what holds whoever sent the message
  by_sender : (P : BackActed → Type 0)
      → ((up down : List LinkMsg) → HasTalk law.master node home up (message ∷ down) law.given → P (node_takes home me message))
      → ((up down : List LinkMsg) → from ≢ me → HasTalk law.master node home up down law.given → P next) → P next
  by_sender P of_master of_other = by (same_or_other (slice_cmp nat_cmp) names_apart from me)
    where
      by : (from ≡ me) ⊎ (from ≢ me) → P next
      by (inl mine) =
          subst (λ (f : List ℕ). P (node_takes home f message)) (sym mine)
          (of_master _ rest (hears config came world law fit from node home message rest there first mine))
      by (inr ne) = of_other _ _ ne talk_is

  told_rightly : (to : List ℕ) → AllByRecursion IsToldSo (messages_to to next.outs)
  told_rightly to =
      by_sender (λ (acted : BackActed). AllByRecursion IsToldSo (messages_to to acted.outs))
      (λ up down hearing. told_so to _ (master_so law.master node home up down law.given message hearing))
      (λ up down ne talking. told_so to _ (other_so law.master node home up down law.given from talking ne message fits_is))

  lines_then : AllByRecursion HasLineTexts next.state.flows.sent
  lines_then =
      by_sender (λ (acted : BackActed). AllByRecursion HasLineTexts acted.state.flows.sent)
      (λ up down hearing. (hears_keeps_talk law.master node home up down law.given message hearing).said.sent)
      (λ up down ne talking. (asks_keep_talk law.master node home up down law.given from message ne fits_is talking).said.sent)

  -- what it sends a node of a connection is nothing, where all that it lets out to it is
  of_connection : (conn : ℕ) (to : List ℕ) (sent : List LinkMsg) → Sends world event node to sent
      → filter (is_own_message (is_of_connection conn)) (messages_to to next.outs) ≡ [] → filter (is_own_message (is_of_connection conn)) sent ≡ []
  of_connection conn to sent sends none = by (all to sent sends)
    where
      by : (sent ≡ messages_to to next.outs) ⊎ (sent ≡ []) → filter (is_own_message (is_of_connection conn)) sent ≡ []
      by (inl e) = ap (λ (l : List LinkMsg). filter (is_own_message (is_of_connection conn)) l) e ∙ none
      by (inr e) = ap (λ (l : List LinkMsg). filter (is_own_message (is_of_connection conn)) l) e

  takes_ask : (it : FrontAsk) → message ≡ Ask it → TakesAsk world event node it.op it.id
  takes_ask it asks = record {
    from = from;
    comes = is;
    ask = it;
    taken = ap (λ (e : Event). taken_by e world) is ∙ ap (λ (q : List LinkMsg). slice_get q 0) first ∙ ap (λ (m : LinkMsg). Some m) asks;
    its = refl;
    for_this = refl;
  }

  -- ---- an ask that waits behind the step

  module _ (conn : ℕ) (ask : NameAsk) (waiting : HasWaiting next.state conn ask) where
    silent : IsSilent conn me home from message ask
    silent = waits_silently conn me home from message (done conn) ask waiting

    nothing_goes : filter (is_own_out (is_of_connection ask.id.conn)) next.outs ≡ []
    nothing_goes =
        subst (λ c. filter (is_own_out (is_of_connection c)) next.outs ≡ [])
        (sym (eqb-true ask.id.conn conn (first_left (is_own_ask (is_of_connection conn)) _ ask [] waiting))) silent.outs

    by_waits : WaitsThen conn me home from message ask → WaitedOrTaken world event node home conn ask
    by_waits (waited before) = it_waited before
    by_waits (comes it kind asks named same) =
        it_comes (subst (λ (a : NameAsk). TakesAsk world event node (op_of a.kind) a.id) (sym same)
        (subst (λ o. TakesAsk world event node o it.id) (kind_is it.op kind named) (takes_ask it asks)))

    pub waits_still : WaitsStill world event node home conn ask
    waits_still = record {
      since = by_waits silent.waits;
      says = λ to sent sends.
          of_others ask.id sent
          (of_connection ask.id.conn to sent sends (none_sent (is_of_connection ask.id.conn) to next.outs nothing_goes));
    }

  -- ---- a line that begins something

  module _ (to : List ℕ) (ahead : List LinkMsg) (line : List ℕ) (behind_it : List LinkMsg) (sends : Sends world event node to (ahead ++ Line line ∷ behind_it))
      (for_this : Op) (begins : begun_by (command_in line) ≡ Some for_this) where
    sent : messages_to to next.outs ≡ ahead ++ Line line ∷ behind_it
    sent = by (all to (ahead ++ Line line ∷ behind_it) sends)
      where
        by : (ahead ++ Line line ∷ behind_it ≡ messages_to to next.outs) ⊎ (ahead ++ Line line ∷ behind_it ≡ [])
            → messages_to to next.outs ≡ ahead ++ Line line ∷ behind_it
        by (inl e) = sym e
        by (inr e) = absurd (not_empty ahead behind_it (Line line) e)

    tagged : (id : AskId) × (line_ask line ≡ Some id)
    tagged = (behind IsToldSo ahead (Line line ∷ behind_it) (subst (AllByRecursion IsToldSo) sent (told_rightly to))).0 for_this begins

    -- the command that its tag tells
    abbrev id : AskId
    id = tagged.0

    alone : IsAlone id.conn me home from message to ahead line behind_it for_this
    alone =
        line_alone id.conn me home from message talk_is.said.place talk_is.said.mailboxes lines_then to ahead line behind_it sent
        (ap (λ found. is_own (is_of_connection id.conn) found) tagged.1 ∙ conn_own id.conn id refl) for_this begins (done id.conn)

    same : alone.id ≡ id
    same = (let both : Some alone.id ≡ Some id = sym alone.tag ∙ tagged.1 in cc)

    by_asked : IsForAsk id.conn me home from message for_this alone.id → IsForOne world event node home for_this id
    by_asked (for_new it asks own op_is) =
        for_taken (subst (λ o. TakesAsk world event node o id) op_is (subst (λ i. TakesAsk world event node it.op i) (own ∙ same) (takes_ask it asks)))
    by_asked (for_waiting ask before own op_is) = for_waited ask before (own ∙ same) op_is

    pub line_tells : LineTells world event node home to line (ahead ++ behind_it) for_this
    line_tells = record {
      id = id;
      tag = tagged.1;
      its = by_asked alone.asked;
      only = All-append (NotAbout id) ahead behind_it (of_others id ahead alone.none_ahead) (of_others id behind_it alone.none_behind);
      elsewhere = λ other more ne sends_more. of_others id more (of_connection id.conn other more sends_more (alone.elsewhere other ne));
    }
