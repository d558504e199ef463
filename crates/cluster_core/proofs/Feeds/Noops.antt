-- What a frontend sends the master for its clients are NOOPs, as long as its records and its first server are other nodes, and its commands' numbers have 64 bits.
use Rattle.std.proofs.Common.{◌≡◌, ◌≢◌, ◌⊎◌, inl, inr, ℕ, ◌+◌, ◌<◌, ◌≤◌, ◌^◌, nat_eq, Bool, true, false, if◌then◌else◌, List, [], ◌∷◌, ◌++◌, length, Option, None, Some, refl, sym, subst, arith}
use Rattle.std.specs.List.{AllByRecursion}
use Rattle.std.specs.Cmp.Lexicographic.{pointwise}
use Rattle.asking_core.specs.Begins.{Begun, first_by, first_sent}
use Rattle.asking_core.specs.declared.waiting.Waiting.{Waiting}
use Rattle.ask_routes.specs.declared.ask_for.AskFor.{AskFor}
use Rattle.ask_routes.specs.declared.ask_for.AskFor.TheVariants as about
use Rattle.ask_routes.specs.Ways.{ask_for, first_step, mailbox_first}
use Rattle.feed_core.specs.Routes.{home_for, server_at}
use Rattle.feed_links.specs.Lines.{messages_to}
use Rattle.feed_links.specs.OneFeed.{AreNoops, IsNoop}
use Rattle.feed_links.proofs.FeedLaw.{both}
use Rattle.feed_links.proofs.Names.{other_name}
use Rattle.front_core.specs.declared.connection.Connection.{Connection}
use Rattle.front_core.specs.declared.connection.Stage.{Stage}
use Rattle.front_core.specs.declared.connection.Stage.TheVariants.{Reading, Waits, Lists, Ended}
use Rattle.front_core.specs.Taken.{Turned, Ways, answers_last, asks, begins_if, comes_at, input_comes, input_in, inputs_come, lists_if, next_of, request_in, to_begin}
use Rattle.front_core.specs.Taken.{told_now, turned_by_need}
use Rattle.front_core.specs.Ups.{is_up}
use Rattle.imap_talk.specs.declared.inputs.Input.{Input}
use Rattle.imap_talk.specs.declared.inputs.Input.TheVariants.{GoesOn, Asks, Faults}
use Rattle.imap_types.specs.declared.command.Tag.{Tag}
use Rattle.imap_types.specs.declared.request.Request.{Request}
use Rattle.imap_types.specs.declared.request.Request.TheVariants.{Command as a_command, Unknown as unknown, TooBig as too_big}
use Rattle.link_msg.specs.declared.message.LinkMsg.{LinkMsg}
use Rattle.link_msg.specs.declared.out.Out.{Out}
use Rattle.link_msg.specs.declared.out.Out.TheVariants.{Client as to_client, Close, Link as to_node, Mark as mark, Told as tell}
use Rattle.mur_base.specs.declared.point.AskId.{AskId}
use Rattle.mur_model.specs.declared.commands.list.Listing.{Listing}
use Rattle.mur_model.specs.declared.need.Asking.{Asking}
use Rattle.mur_model.specs.declared.need.Need.{Need}
use Rattle.mur_model.specs.declared.need.Need.TheVariants as needs
use Rattle.mur_model.specs.declared.session.Sess.{Sess}
use Rattle.mur_model.specs.declared.setting.Setting.{Setting}
use Rattle.route_links.specs.Answered.{IsNumbered}
use Rattle.route_links.proofs.Tags.{is_noop}
use Rattle.session_core.specs.Begin.{begin}

-- a message goes to another node than the master, or is a NOOP
abbrev pub IsWellSent : List ℕ → Out → Type 0
IsWellSent master (to_node to message) = (to ≢ master) ⊎ IsNoop message
IsWellSent master out = Unit {0}

abbrev pub AreWellSent : List ℕ → List Out → Type 0
AreWellSent master outs = AllByRecursion (IsWellSent master) outs

one_noop : (message : LinkMsg) (same : Bool) → IsNoop message → AreNoops (if same then message ∷ [] else [])
one_noop message true noop = (noop, tt)
one_noop message false noop = tt

-- so what comes to the master are NOOPs
pub well_sent_noops : (master : List ℕ) (outs : List Out) → AreWellSent master outs → AreNoops (messages_to master outs)
well_sent_noops master [] are = tt
well_sent_noops master (to_node to message ∷ outs) (inl ne, are) =
    subst (λ b. AreNoops ((if b then message ∷ [] else []) ++ messages_to master outs)) (sym (other_name to master ne)) (well_sent_noops master outs are)
well_sent_noops master (to_node to message ∷ outs) (inr noop, are) =
    both IsNoop (if pointwise nat_eq to master then message ∷ [] else []) (messages_to master outs) (one_noop message (pointwise nat_eq to master) noop)
    (well_sent_noops master outs are)
well_sent_noops master (to_client conn bytes ∷ outs) are = well_sent_noops master outs are.1
well_sent_noops master (Close conn ∷ outs) are = well_sent_noops master outs are.1
well_sent_noops master (mark ask counts ∷ outs) are = well_sent_noops master outs are.1
well_sent_noops master (tell ask how ∷ outs) are = well_sent_noops master outs are.1

-- the servers that a frontend may ask are not the master
pub record AreApart (ways : Ways) : Type 0 where
  pub named : (name server : List ℕ) → server_at ways.recs name ≡ Some server → server ≢ ways.master
  pub made : (name : List ℕ) → home_for ways.recs ways.first name ≢ ways.master

module _ (setting : Setting) (ways : Ways) (apart : AreApart ways) (conn : ℕ) (fits : conn < 2 ^ 64) where
  by_server : (id : AskId) (session : Sess) (it : Waiting) (name : List ℕ) (found : Option (List ℕ)) → IsNumbered id → server_at ways.recs name ≡ found
      → (let begun : Begun = first_by ways.master id session it (mailbox_first found) in IsWellSent ways.master (to_node begun.sent.to begun.sent.message))
  by_server id session it name None numbered at = inr (is_noop id numbered)
  by_server id session it name (Some server) numbered at = inl (apart.named name server at)

  by_about : (id : AskId) (session : Sess) (it : Waiting) (asks_for : AskFor) → IsNumbered id
      → (let begun : Begun = first_by ways.master id session it (first_step ways.recs ways.first asks_for) in IsWellSent ways.master (to_node begun.sent.to begun.sent.message))
  by_about id session it (about.Mailbox name) numbered = by_server id session it name (server_at ways.recs name) numbered refl
  by_about id session it (about.Create name) numbered = inl (apart.made name)

  -- the first message of a command
  pub first_well : (id : AskId) (session : Sess) (it : Waiting) → IsNumbered id
      → (let begun : Begun = first_sent ways.recs ways.master ways.first id session it in IsWellSent ways.master (to_node begun.sent.to begun.sent.message))
  unfolding first_sent
  first_well id session it numbered = by_about id session it (ask_for it.name it.asking.op) numbered

  -- what an input makes of a connection: one command more is answered at most
  pub record IsWell (connection : Connection) (turned : Turned) : Type 0 where
    pub outs : AreWellSent ways.master turned.outs
    pub count : turned.connection.answered ≤ connection.answered + 1

  numbered : (connection : Connection) → connection.answered + 1 < 2 ^ 64 → IsNumbered (next_of conn connection)
  numbered connection less = (fits, less)

  -- it goes out, or the command is refused
  pub begins_well : (up : Bool) (connection : Connection) (tag : Tag) (begun : Begun) → IsWellSent ways.master (to_node begun.sent.to begun.sent.message)
      → IsWell connection (begins_if up conn connection tag begun)
  unfolding told_now
  begins_well true connection tag begun well = record { outs = (well, tt); count = omega arith }
  begins_well false connection tag begun well = record { outs = (tt, (tt, tt)); count = omega arith }

  pub lists_well : (up : Bool) (connection : Connection) (tag : Tag) (it : Listing) → connection.answered + 1 < 2 ^ 64
      → IsWell connection (lists_if up ways.master conn connection tag it)
  unfolding told_now
  lists_well true connection tag it less =
      record { outs = (inr (is_noop (next_of conn connection) (numbered connection less)), tt); count = omega arith }
  lists_well false connection tag it less = record { outs = (tt, (tt, tt)); count = omega arith }

  -- what begins, and what goes out for it
  abbrev pub begun_for : Connection → List ℕ → Asking → Begun
  begun_for connection name asking =
      first_sent ways.recs ways.master ways.first (next_of conn connection) connection.session (to_begin name asking)

  pub asks_well : (connection : Connection) (tag : Tag) (name : List ℕ) (asking : Asking) → connection.answered + 1 < 2 ^ 64
      → IsWell connection (asks ways conn connection tag name asking)
  asks_well connection tag name asking less =
      let begun : Begun = begun_for connection name asking in
      begins_well (is_up ways.ups begun.sent.to) connection tag begun
      (first_well (next_of conn connection) connection.session (to_begin name asking) (numbered connection less))

  need_well : (connection : Connection) (tag : Tag) (need : Need) → connection.answered + 1 < 2 ^ 64 → IsWell connection (turned_by_need ways conn connection tag need)
  unfolding turned_by_need told_now answers_last
  need_well connection tag (needs.Reply reply) less = record { outs = (tt, (tt, tt)); count = omega arith }
  need_well connection tag (needs.Leave reply) less = record { outs = (tt, (tt, (tt, tt))); count = omega arith }
  need_well connection tag (needs.Home name asking) less = asks_well connection tag name asking less
  need_well connection tag (needs.Names it) less = lists_well (is_up ways.ups ways.master) connection tag it less

  request_well : (connection : Connection) (request : Request) → connection.answered + 1 < 2 ^ 64 → IsWell connection (request_in setting ways conn connection request)
  unfolding request_in told_now
  request_well connection (a_command tag it) less =
      let behind = begin setting connection.session it in
      let well = need_well (record connection { session = behind.session }) tag behind.need less in
      record { outs = well.outs; count = well.count }
  request_well connection (unknown tag) less = record { outs = (tt, (tt, tt)); count = omega arith }
  request_well connection (too_big tag) less = record { outs = (tt, (tt, tt)); count = omega arith }

  input_well : (connection : Connection) (input : Input) → connection.answered + 1 < 2 ^ 64 → IsWell connection (input_in setting ways conn connection input)
  unfolding input_in
  input_well connection (Asks request) less = request_well connection request less
  input_well connection (GoesOn why) less = record { outs = (tt, tt); count = omega arith }
  input_well connection (Faults fault) less = record { outs = (tt, (tt, tt)); count = omega arith }

  stage_well : (connection : Connection) (input : Input) (stage : Stage) → connection.answered + 1 < 2 ^ 64
      → IsWell connection (comes_at setting ways conn connection input stage)
  unfolding comes_at
  stage_well connection input Reading less = input_well connection input less
  stage_well connection input (Waits tag it) less = record { outs = tt; count = omega arith }
  stage_well connection input (Lists tag it) less = record { outs = tt; count = omega arith }
  stage_well connection input Ended less = record { outs = tt; count = omega arith }

  -- several inputs
  pub inputs_well : (connection : Connection) (inputs : List Input) → connection.answered + length inputs < 2 ^ 64
      → AreWellSent ways.master (inputs_come setting ways conn connection inputs).outs
  unfolding inputs_come input_comes
  inputs_well connection [] less = tt
  inputs_well connection (input ∷ inputs) less =
      let one = stage_well connection input connection.stage (omega (arith, less)) in
      let turned : Turned = comes_at setting ways conn connection input connection.stage in
      both (IsWellSent ways.master) turned.outs (inputs_come setting ways conn turned.connection inputs).outs one.outs
      (inputs_well turned.connection inputs (omega (arith, less, one.count)))
