-- What a frontend lets out for the inputs of a connection: bytes for the client of that connection alone, asks for backends, and NOOPs of its commands for the
-- master.
use Rattle.std.proofs.Common.{◌≡◌, ◌≢◌, ℕ, ◌+◌, ◌<◌, ◌≤◌, ◌^◌, nat_eq, Bool, true, false, List, [], ◌∷◌, ◌++◌, length, None, if◌then◌else◌, is_some, refl, sym, ◌∙◌, ap, subst, arith}
use Rattle.std.specs.Prelude.{⊤}
use Rattle.std.specs.Option.{IsSome}
use Rattle.std.specs.List.{AllByRecursion}
use Rattle.std.specs.Cmp.Lexicographic.{pointwise}
use Rattle.asking_core.specs.Begins.{Begun, ask_of, first_sent}
use Rattle.asking_core.specs.declared.waiting.Waiting.{Waiting}
use Rattle.feed_core.specs.declared.replica.Replica.{Replica}
use Rattle.feed_links.specs.Lines.{messages_to}
use Rattle.feed_links.specs.OneFeed.{AreNoops, IsNoop}
use Rattle.feed_links.proofs.FeedLaw.{both as both_noops}
use Rattle.feed_links.proofs.Names.{other_name}
use Rattle.front_core.specs.declared.connection.Connection.{Connection}
use Rattle.front_core.specs.declared.connection.Stage.{Stage}
use Rattle.front_core.specs.declared.connection.Stage.TheVariants.{Reading, Waits, Lists, Ended}
use Rattle.front_core.specs.Taken.{Turned, answers_last, begins_if, comes_at, input_comes, input_in, inputs_come, lists_if, request_in, to_begin, told_now, turned_by_need}
use Rattle.front_core.specs.Ups.{Ups, is_up}
use Rattle.imap_talk.specs.declared.inputs.Input.{Input}
use Rattle.imap_talk.specs.declared.inputs.Input.TheVariants.{GoesOn, Asks, Faults}
use Rattle.imap_types.specs.declared.command.Tag.{Tag}
use Rattle.imap_types.specs.declared.request.Request.{Request}
use Rattle.imap_types.specs.declared.request.Request.TheVariants.{Command as a_command, Unknown as unknown, TooBig as too_big}
use Rattle.link_msg.specs.declared.ask.FrontAsk.{FrontAsk}
use Rattle.link_msg.specs.declared.message.LinkMsg.{LinkMsg}
use Rattle.link_msg.specs.declared.message.LinkMsg.TheVariants.{Ask}
use Rattle.link_msg.specs.declared.out.Out.{Out}
use Rattle.link_msg.specs.declared.out.Out.TheVariants.{Client as to_client, Close, Link as to_node, Mark as mark, Told as tell}
use Rattle.many_links.specs.Murder.{Nodes}
use Rattle.mur_base.specs.declared.point.AskId.{AskId}
use Rattle.mur_model.specs.declared.commands.list.Listing.{Listing}
use Rattle.mur_model.specs.declared.need.Need.{Need}
use Rattle.mur_model.specs.declared.need.Need.TheVariants as needs
use Rattle.mur_model.specs.declared.session.Sess.{Sess}
use Rattle.route_links.specs.Answered.{noop_of}
use Rattle.route_links.proofs.Tags.{is_noop}
use Rattle.session_core.specs.Begin.{begin}
use Rattle.cluster_core.proofs.Commands.Standing.{Fixed}
use Rattle.cluster_core.proofs.Connections.AsksFirst.{FirstWay, first_way}
use Rattle.cluster_core.proofs.Connections.AsksFirst.FirstWay.{by_server, by_master}
use Rattle.cluster_core.proofs.Connections.FrameLaw.{ways_for}
use Rattle.cluster_core.proofs.Connections.KeepsLaw.{NamesBackends}

-- a message of a connection's commands, up to this number
pub data IsOwnSent (master : List ℕ) (nodes : Nodes) (conn most : ℕ) : List ℕ → LinkMsg → Type 0 where
  an_ask : (server : List ℕ) (ask : FrontAsk) → IsSome (nodes server) → (ask.id).conn ≡ conn → IsOwnSent master nodes conn most server (Ask ask)
  a_noop : (command : ℕ) → command ≤ most → IsOwnSent master nodes conn most master (noop_of (record { conn = conn; command = command }))

abbrev pub IsOwn : List ℕ → Nodes → ℕ → ℕ → Out → Type 0
IsOwn master nodes conn most (to_client other bytes) = other ≡ conn
IsOwn master nodes conn most (to_node node message) = IsOwnSent master nodes conn most node message
IsOwn master nodes conn most (mark ask counts) = ⊥
IsOwn master nodes conn most (Close other) = ⊤
IsOwn master nodes conn most (tell ask how) = ⊤

abbrev pub AreOwn : List ℕ → Nodes → ℕ → ℕ → List Out → Type 0
AreOwn master nodes conn most outs = AllByRecursion (IsOwn master nodes conn most) outs

-- ---- the master is sent NOOPs alone

one_noop : (master : List ℕ) (node : List ℕ) (message : LinkMsg) (same : Bool) → IsNoop message → AreNoops (if same then message ∷ [] else [])
one_noop master node message true is = (is, tt)
one_noop master node message false is = tt

no_backend : (master : List ℕ) (nodes : Nodes) (server : List ℕ) → nodes master ≡ None → IsSome (nodes server) → server ≢ master
no_backend master nodes server none there e = (let no : false ≡ true = sym (ap is_some (ap nodes e ∙ none)) ∙ there in cc)

sent_noop : (master : List ℕ) (nodes : Nodes) (conn most : ℕ) (node : List ℕ) (message : LinkMsg) → conn < 2 ^ 64 → most < 2 ^ 64 → nodes master ≡ None
    → IsOwnSent master nodes conn most node message → AreNoops (if pointwise nat_eq node master then message ∷ [] else [])
sent_noop master nodes conn most node message one two none (an_ask server ask there its) =
    subst (λ (b : Bool). AreNoops (if b then Ask ask ∷ [] else [])) (sym (other_name server master (no_backend master nodes server none there))) tt
sent_noop master nodes conn most node message one two none (a_noop command le) =
    let few : command < 2 ^ 64 = omega (arith, le, two) in
    one_noop master master (noop_of (record { conn = conn; command = command })) (pointwise nat_eq master master)
    (is_noop (record { conn = conn; command = command }) (one, few))

pub own_noops : (master : List ℕ) (nodes : Nodes) (conn most : ℕ) (outs : List Out) → conn < 2 ^ 64 → most < 2 ^ 64 → nodes master ≡ None
    → AreOwn master nodes conn most outs → AreNoops (messages_to master outs)
own_noops master nodes conn most [] one two none own = tt
own_noops master nodes conn most (to_node node message ∷ outs) one two none own =
    both_noops IsNoop (if pointwise nat_eq node master then message ∷ [] else []) (messages_to master outs)
    (sent_noop master nodes conn most node message one two none own.0)
    (own_noops master nodes conn most outs one two none own.1)
own_noops master nodes conn most (to_client other bytes ∷ outs) one two none own = own_noops master nodes conn most outs one two none own.1
own_noops master nodes conn most (Close other ∷ outs) one two none own = own_noops master nodes conn most outs one two none own.1
own_noops master nodes conn most (tell ask how ∷ outs) one two none own = own_noops master nodes conn most outs one two none own.1
own_noops master nodes conn most (mark ask counts ∷ outs) one two none own = absurd own.0

-- ---- outputs one behind another

pub both_own : (master : List ℕ) (nodes : Nodes) (conn most : ℕ) (one two : List Out) → AreOwn master nodes conn most one → AreOwn master nodes conn most two
    → AreOwn master nodes conn most (one ++ two)
both_own master nodes conn most [] two first second = second
both_own master nodes conn most (out ∷ one) two first second = (first.0, both_own master nodes conn most one two first.1 second)

sent_more : (master : List ℕ) (nodes : Nodes) (conn most more : ℕ) (node : List ℕ) (message : LinkMsg) → most ≤ more
    → IsOwnSent master nodes conn most node message
    → IsOwnSent master nodes conn more node message
sent_more master nodes conn most more node message le (an_ask server ask there its) = an_ask server ask there its
sent_more master nodes conn most more node message le (a_noop command few) = a_noop command (omega (arith, le, few))

one_more : (master : List ℕ) (nodes : Nodes) (conn most more : ℕ) (out : Out) → most ≤ more → IsOwn master nodes conn most out
    → IsOwn master nodes conn more out
one_more master nodes conn most more (to_node node message) le is = sent_more master nodes conn most more node message le is
one_more master nodes conn most more (to_client other bytes) le is = is
one_more master nodes conn most more (Close other) le is = is
one_more master nodes conn most more (tell ask how) le is = is
one_more master nodes conn most more (mark ask counts) le is = is

pub own_more : (master : List ℕ) (nodes : Nodes) (conn most more : ℕ) (outs : List Out) → most ≤ more → AreOwn master nodes conn most outs
    → AreOwn master nodes conn more outs
own_more master nodes conn most more [] le are = tt
own_more master nodes conn most more (out ∷ outs) le are =
    (one_more master nodes conn most more out le are.0, own_more master nodes conn most more outs le are.1)

-- ---- what inputs bring

module _ (fixed : Fixed) (nodes : Nodes) (ups : Ups) (replica : Replica) (conn : ℕ) (knows : NamesBackends nodes replica.records) (first : IsSome (nodes fixed.first)) where
  -- the outputs are of the next command, and that is then answered at most
  pub record TurnsOwn (connection : Connection) (turned : Turned) : Type 0 where
    pub own : AreOwn fixed.master nodes conn (connection.answered + 1) turned.outs
    pub count : (turned.connection).answered ≤ connection.answered + 1

  begun_own : (id : AskId) (session : Sess) (it : Waiting) (begun : Begun) → id.conn ≡ conn → FirstWay nodes fixed.master id session it begun
      → IsOwnSent fixed.master nodes conn id.command begun.sent.to begun.sent.message
  begun_own id session it begun its (by_server server there) = an_ask server (ask_of id session it) there its
  begun_own id session it begun its (by_master cause) =
      subst (λ c. IsOwnSent fixed.master nodes conn id.command fixed.master (noop_of (record { conn = c; command = id.command }))) (sym its)
      (a_noop id.command (omega arith))

  -- it goes out, or the command is refused
  begins_own : (up : Bool) (connection : Connection) (tag : Tag) (begun : Begun)
      → IsOwnSent fixed.master nodes conn (connection.answered + 1) begun.sent.to begun.sent.message → TurnsOwn connection (begins_if up conn connection tag begun)
  unfolding told_now
  begins_own true connection tag begun sent = record { own = (sent, tt); count = omega arith }
  begins_own false connection tag begun sent = record { own = (refl, (tt, tt)); count = omega arith }

  lists_own : (up : Bool) (connection : Connection) (tag : Tag) (it : Listing) → TurnsOwn connection (lists_if up fixed.master conn connection tag it)
  unfolding told_now
  lists_own true connection tag it = record { own = (a_noop (connection.answered + 1) (omega arith), tt); count = omega arith }
  lists_own false connection tag it = record { own = (refl, (tt, tt)); count = omega arith }

  need_own : (connection : Connection) (tag : Tag) (need : Need)
      → TurnsOwn connection (turned_by_need (ways_for fixed ups replica) conn connection tag need)
  unfolding turned_by_need told_now answers_last
  need_own connection tag (needs.Reply reply) = record { own = (refl, (tt, tt)); count = omega arith }
  need_own connection tag (needs.Leave reply) = record { own = (refl, (tt, (tt, tt))); count = omega arith }
  need_own connection tag (needs.Home name asking) =
      let id : AskId = record { conn = conn; command = connection.answered + 1 } in
      let it : Waiting = to_begin name asking in
      let begun : Begun = first_sent replica.records fixed.master fixed.first id connection.session it in
      begins_own (is_up ups begun.sent.to) connection tag begun
      (begun_own id connection.session it begun refl (first_way nodes replica.records fixed.master fixed.first id connection.session it knows first))
  need_own connection tag (needs.Names it) = lists_own (is_up ups fixed.master) connection tag it

  request_own : (connection : Connection) (request : Request)
      → TurnsOwn connection (request_in fixed.setting (ways_for fixed ups replica) conn connection request)
  unfolding request_in told_now
  request_own connection (a_command tag it) =
      let is = need_own (record connection { session = (begin fixed.setting connection.session it).session }) tag
      (begin fixed.setting connection.session it).need in
      record { own = is.own; count = is.count }
  request_own connection (unknown tag) = record { own = (refl, (tt, tt)); count = omega arith }
  request_own connection (too_big tag) = record { own = (refl, (tt, tt)); count = omega arith }

  input_own : (connection : Connection) (input : Input)
      → TurnsOwn connection (input_in fixed.setting (ways_for fixed ups replica) conn connection input)
  unfolding input_in
  input_own connection (Asks request) = request_own connection request
  input_own connection (GoesOn why) = record { own = (refl, tt); count = omega arith }
  input_own connection (Faults fault) = record { own = (refl, (tt, tt)); count = omega arith }

  comes_own : (connection : Connection) (input : Input) (stage : Stage)
      → TurnsOwn connection (comes_at fixed.setting (ways_for fixed ups replica) conn connection input stage)
  unfolding comes_at
  comes_own connection input Reading = input_own connection input
  comes_own connection input (Waits tag it) = record { own = tt; count = omega arith }
  comes_own connection input (Lists tag it) = record { own = tt; count = omega arith }
  comes_own connection input Ended = record { own = tt; count = omega arith }

  pub inputs_own : (connection : Connection) (inputs : List Input)
      → AreOwn fixed.master nodes conn (connection.answered + length inputs)
      (inputs_come fixed.setting (ways_for fixed ups replica) conn connection inputs).outs
  unfolding inputs_come input_comes
  inputs_own connection [] = tt
  inputs_own connection (input ∷ inputs) =
      let turned : Turned = comes_at fixed.setting (ways_for fixed ups replica) conn connection input connection.stage in
      let one = comes_own connection input connection.stage in
      let most : ℕ = connection.answered + length (input ∷ inputs) in
      both_own fixed.master nodes conn most turned.outs (inputs_come fixed.setting (ways_for fixed ups replica) conn turned.connection inputs).outs
      (own_more fixed.master nodes conn (connection.answered + 1) most turned.outs (omega arith) one.own)
      (own_more fixed.master nodes conn ((turned.connection).answered + length inputs) most
      (inputs_come fixed.setting (ways_for fixed ups replica) conn turned.connection inputs).outs (omega (arith, one.count))
      (inputs_own turned.connection inputs))
