-- What the law says of a connection: what its client was given, and that nothing waits on empty links.
use Rattle.std.proofs.Common.{◌≡◌, ◌⊎◌, ℕ, Bool, true, false, ◌||◌, List, [], ◌∷◌, ◌++◌, length, Option, None, Some, inl, inr, refl, sym, ◌∙◌, ap, subst, if◌then◌else◌}
use Rattle.std.specs.List.{list_any}
use Rattle.back_node.specs.declared.node.BackNode.{BackNode}
use Rattle.feed_core.specs.declared.replica.Replica.{Replica}
use Rattle.front_core.specs.Ending.{EndsOnlyLast}
use Rattle.front_core.proofs.OneConnection.LastAnswer.{none_given}
use Rattle.front_core.proofs.OneConnection.Places.{nowhere_on_empty, of_connection}
use Rattle.front_core.proofs.OneConnection.Readings.{inputs_in}
use Rattle.asking_core.specs.declared.waiting.At.{At}
use Rattle.asking_core.specs.declared.waiting.At.TheVariants.{Home, Barrier}
use Rattle.asking_core.specs.declared.waiting.Waiting.{Waiting}
use Rattle.front_core.specs.Front.{awaited, connection_at}
use Rattle.front_core.specs.Stages.{awaits, waits_at}
use Rattle.front_core.specs.Ups.{is_up}
use Rattle.front_core.specs.declared.connection.Stage.TheVariants.{Lists, Waits}
use Rattle.front_core.specs.declared.front.Front.{Front}
use Rattle.front_core.specs.declared.connection.Connection.{Connection}
use Rattle.imap_talk.specs.Heard.{Heard, bytes_heard, elsewhere, frames_heard, has_closed}
use Rattle.imap_talk.specs.Inputs.{inputs_of, requests_in}
use Rattle.imap_talk.specs.Transcript.{Stop, all_told_till, ends, transcript_till}
use Rattle.imap_talk.specs.Transcript.Stop.{is_lost, silent}
use Rattle.imap_talk.specs.declared.inputs.Input.{Input}
use Rattle.imap_talk.proofs.RequestsOf.{answered_lengths, requests_of}
use Rattle.imap_types.specs.declared.command.Tag.{Tag}
use Rattle.imap_types.specs.declared.request.Answer.{Answer}
use Rattle.link_msg.specs.declared.message.LinkMsg.{LinkMsg}
use Rattle.link_msg.specs.declared.message.LinkMsg.TheVariants.{End}
use Rattle.link_queue.specs.Broken.{is_broken}
use Rattle.link_queue.specs.Links.{on_link}
use Rattle.mur_base.specs.declared.home.Location.{Location}
use Rattle.mur_base.specs.declared.point.AskId.{AskId}
use Rattle.mur_config.specs.declared.config.Config.{Config}
use Rattle.mur_model.specs.declared.commands.list.Listing.{Listing}
use Rattle.mur_model.specs.declared.session.Sess.{Sess}
use Rattle.mur_model.specs.declared.setting.Setting.{Setting}
use Rattle.name_commands.specs.Places.{FlowsShow, NamePlace as name_at}
use Rattle.name_commands.specs.Whose.{is_of_connection}
use Rattle.name_flows.specs.declared.ask.NameAsk.{NameAsk}
use Rattle.point_links.specs.Commands.{ClientCommand}
use Rattle.route_links.specs.Barriers.{Place as barrier}
use Rattle.cluster_core.specs.declared.world.Client.{Client}
use Rattle.cluster_core.specs.Headline.OneNode.{node_of}
use Rattle.cluster_core.specs.LawSetting.{law_setting}
use Rattle.cluster_core.specs.declared.world.World.{World}
use Rattle.cluster_core.specs.Headline.OneStore.{AreEmpty, IsAnsweredThrough}
use Rattle.cluster_core.specs.Shown.{given_by, given_to}
use Rattle.cluster_core.specs.World.{client_at, front_at, home_at, master_of}
use Rattle.cluster_core.proofs.Commands.Knows.{Knows, KnowsNames}
use Rattle.cluster_core.proofs.Commands.Knows.Knows.{undecided, is_decided}
use Rattle.cluster_core.proofs.Commands.Knows.KnowsNames.{not_yet, is_gone, is_listed}
use Rattle.cluster_core.proofs.Commands.Place.{Place, at_backend, its_message, Place as place}
use Rattle.cluster_core.proofs.Commands.Released.{stands_last}
use Rattle.cluster_core.proofs.Commands.Standing.{Stands, Waiting as WaitsHere, WaitsAt, next_id}
use Rattle.cluster_core.proofs.Commands.Standing.Stands.{reads, waits, lists, faulted, finished}
use Rattle.cluster_core.proofs.Connections.ConnectionLaw.{IsDroppedAt, IsInPlaceOf, client_till, client_with}
use Rattle.cluster_core.proofs.Connections.KeepsLaw.{ConnectionIs, IsAt, KeepsLaw, fixed_of}
use Rattle.cluster_core.proofs.Connections.KeepsLaw.ConnectionIs.{is_nobody, is_elsewhere, is_open, is_cut_off, is_closed}
use Rattle.cluster_core.proofs.Links.Stand.{IsDown, LinksStand}
use Rattle.cluster_core.proofs.Links.Stand.IsDown.{has_ended, is_ending}
use Rattle.cluster_core.proofs.OneServer.NamesHeld.{bytes_itself}
use Rattle.cluster_core.proofs.OneServer.NoResync.{none_waits_there, rests}

-- a client that is connected where no frontend is was given nothing
abbrev pub IsSilent : World → ℕ → Type 0
IsSilent world conn = (node : List ℕ) → node_of (client_at world conn) ≡ Some node → front_at world node ≡ None → given_to world conn ≡ []

-- what can be said of a connection, by where what its client is given stops and by what was heard of it
pub record SaysOf (setting : Setting) (world : World) (conn : ℕ) (stop : Stop) (heard : Heard) (told : List Answer) : Type 0 where
  pub given : (heard ≡ elsewhere → IsSilent world conn) → given_to world conn ≡ transcript_till stop setting (bytes_heard heard) told
  pub lasts : EndsOnlyLast told
  pub waits_not : AreEmpty world → has_closed heard ≡ false → IsAnsweredThrough (requests_of setting (frames_heard heard)) told ⊎ (stop ≡ is_lost)
  -- a command is lost only once a link has broken
  pub cut : world.broken ≡ [] → stop ≡ silent

given_at : (world : World) (conn : ℕ) (found : Option Client) → client_at world conn ≡ found → given_to world conn ≡ given_by found
unfolding given_to
given_at world conn found at = ap given_by at

or_true : (one other : Bool) → other ≡ true → (one || other) ≡ true
or_true true other e = refl
or_true false other e = e

pub last_ends : (before : List Answer) (last : Answer) → ends last.reply ≡ true
    → list_any (λ (answer : Answer). ends answer.reply) (before ++ last ∷ []) ≡ true
last_ends [] last e = ap (λ t. t || false) e
last_ends (answer ∷ before) last e = or_true (ends answer.reply) _ (last_ends before last e)

-- ---- where nothing is on the way

-- no ask waits for the end of a resync
module _ (config : Config) (heard : ℕ → Heard) (world : World) (law : KeepsLaw config heard world) (links : LinksStand config world) (empty : AreEmpty world) where
  resync_over : (server : List ℕ) (node : BackNode) → home_at world server ≡ Some node → node.flows.resync ≡ None
  resync_over server node there =
      rests law.master server node (on_link world.links server law.master.me) (on_link world.links law.master.me server) law.given
      (law.many.each server node there).talk (empty server law.master.me) (empty law.master.me server)

  none_at : (front : List ℕ) (replica : Replica) (id : AskId) (me : Location) (ask : NameAsk)
      → IsInPlaceOf (fixed_of config) world front replica id (place.is_at me (name_at.waits ask)) → ⊥
  none_at front replica id me ask placed =
      let node : BackNode = placed.there.0 in
      let there : home_at world me.server ≡ Some node = placed.there.1 in
      let here : at_backend me.server (place.is_at me (name_at.waits ask)) ≡ name_at.waits ask =
      ap (λ b. if b then name_at.waits ask else name_at.nowhere) (bytes_itself me.server) in
      none_waits_there (is_of_connection id.conn) node ask
      (subst (FlowsShow (is_of_connection id.conn) node.flows) here (placed.shows me.server node there).at) (resync_over me.server node there)

  -- no command that waits was dropped: the End of the link would be on its way
  none_down : (queue : List LinkMsg) (up : Bool) → queue ≡ [] → up ≡ true → IsDown queue up → ⊥
  none_down queue up none is_up (is_ending messages is) = not_empty messages (sym is ∙ none)
    where
      not_empty : (before : List LinkMsg) → before ++ End ∷ [] ≡ [] → ⊥
      not_empty [] e = cc
      not_empty (message ∷ before) e = cc
  none_down queue up none is_up (has_ended is down) = (let no : false ≡ true = sym down ∙ is_up in cc)

  none_awaited : (node server : List ℕ) (front : Front) (conn : ℕ) → front_at world node ≡ Some front → is_broken world.broken server node ≡ true
      → awaited (master_of config) (connection_at front conn) server ≡ true → ⊥
  none_awaited node server front conn at cut awaiting =
      none_down (on_link world.links server node) (is_up front.ups server) (empty server node) (links.waits_up node server front conn at awaiting)
      (links.down node server front at cut)

  -- its frontend waits for the answer of the server to which it was dropped
  awaits_dropped : (connection : Connection) (tag : Tag) (it : Waiting) (server : List ℕ) → connection.stage ≡ Waits tag it → it.at ≡ Home server
      → awaited (master_of config) (Some connection) server ≡ true
  unfolding awaited awaits
  awaits_dropped connection tag it server stage at =
      ap (λ s. awaits (master_of config) s server) stage ∙ ap (λ a. waits_at (master_of config) a server) at ∙ bytes_itself server

  -- or for the master's OK, where that or its NOOP is gone with the link
  at_master : (at : At) → WaitsAt at (place.is_barred barrier.nowhere) → waits_at (master_of config) at (master_of config) ≡ true
  at_master (Home server) is = absurd is
  at_master (Barrier why) is = bytes_itself (master_of config)

  awaits_master : (connection : Connection) (tag : Tag) (it : Waiting) → connection.stage ≡ Waits tag it → WaitsAt it.at (place.is_barred barrier.nowhere)
      → awaited (master_of config) (Some connection) (master_of config) ≡ true
  unfolding awaited awaits
  awaits_master connection tag it stage is = ap (λ s. awaits (master_of config) s (master_of config)) stage ∙ at_master it.at is

  lists_master : (connection : Connection) (tag : Tag) (listing : Listing) → connection.stage ≡ Lists tag listing
      → awaited (master_of config) (Some connection) (master_of config) ≡ true
  unfolding awaited awaits
  lists_master connection tag listing stage = ap (λ s. awaits (master_of config) s (master_of config)) stage ∙ bytes_itself (master_of config)

  -- of a command's place nothing is known, unless its message is gone with a link
  NotGone : Place → Type 0
  NotGone here = ((server : List ℕ) → here ≡ place.is_dropped server → ⊥) × (here ≡ place.is_barred barrier.nowhere → ⊥)

  none_knows : (front : List ℕ) (replica : Replica) (id : AskId) (here : Place) (c : ClientCommand) (tag : Tag) (told said : List Answer) (session : Sess)
      → NotGone here → IsInPlaceOf (fixed_of config) world front replica id here → its_message (fixed_of config).master front id here ≡ None
      → Knows (fixed_of config).master (fixed_of config).first front c tag told said session here → ⊥
  unfolding NotGone
  none_knows front replica id place.nowhere c tag told said session kept placed none (undecided a b so) = so
  none_knows front replica id place.nowhere c tag told said session kept placed none (is_decided turn a b d so) = so
  none_knows front replica id (place.is_asked server ask) c tag told said session kept placed none knows = cc
  none_knows front replica id (place.is_answered server answer) c tag told said session kept placed none knows = cc
  none_knows front replica id (place.is_dropped server) c tag told said session kept placed none knows = kept.0 server refl
  none_knows front replica id (place.is_at me name_at.nowhere) c tag told said session kept placed none (undecided a b so) = so
  none_knows front replica id (place.is_at me name_at.nowhere) c tag told said session kept placed none (is_decided turn a b d so) = so
  none_knows front replica id (place.is_at me (name_at.waits ask)) c tag told said session kept placed none knows = none_at front replica id me ask placed
  none_knows front replica id (place.is_at me (name_at.sends name flow)) c tag told said session kept placed none knows = cc
  none_knows front replica id (place.is_at me (name_at.hears name flow it)) c tag told said session kept placed none knows = cc
  none_knows front replica id (place.is_barred barrier.nowhere) c tag told said session kept placed none knows = kept.1 refl
  none_knows front replica id (place.is_barred barrier.asked) c tag told said session kept placed none knows = cc
  none_knows front replica id (place.is_barred (barrier.answered table)) c tag told said session kept placed none knows = cc

  none_lists : (front : List ℕ) (id : AskId) (here : Place) (tag : Tag) (it : Listing) (was : Sess) (told said : List Answer) (session : Sess)
      → (here ≡ place.is_barred barrier.nowhere → ⊥) → its_message (fixed_of config).master front id here ≡ None
      → KnowsNames tag it was told said session here → ⊥
  none_lists front id here tag it was told said session kept none (is_gone a b at) = kept at
  none_lists front id here tag it was told said session kept none (not_yet a b at) =
      let no : its_message (fixed_of config).master front id (place.is_barred barrier.asked) ≡ None =
      ap (its_message (fixed_of config).master front id) (sym at) ∙ none in cc
  none_lists front id here tag it was told said session kept none (is_listed table a b at) =
      let no : its_message (fixed_of config).master front id (place.is_barred (barrier.answered table)) ≡ None =
      ap (its_message (fixed_of config).master front id) (sym at) ∙ none in cc

  -- a client that hasn't closed its connection was answered in all, or its session has ended
  module _ (node : List ℕ) (front : Front) (conn : ℕ) (connection : Connection) (at : IsAt world conn node front connection) where
    -- nobody waits over a broken link
    waits_over : (server : List ℕ) → is_broken world.broken server node ≡ true → awaited (master_of config) (Some connection) server ≡ true → ⊥
    waits_over server cut awaiting =
        none_awaited node server front conn at.at cut (ap (λ found. awaited (master_of config) found server) at.has ∙ awaiting)

    no_waiting : (inputs : List Input) (held : Option (List ℕ)) (told said : List Answer) (session : Sess) (here : Place)
        → IsDroppedAt (master_of config) world node here
        → WaitsHere (fixed_of config) node conn inputs held connection told said session here → NotGone here
    unfolding NotGone
    no_waiting inputs held told said session here dropped waiting = (
      λ server is.
          waits_over server (subst (IsDroppedAt (master_of config) world node) is dropped)
          (awaits_dropped connection waiting.tag waiting.c.waiting server waiting.stage (subst (WaitsAt waiting.c.waiting.at) is waiting.at)),
      λ is.
          waits_over (master_of config) (subst (IsDroppedAt (master_of config) world node) is dropped)
          (awaits_master connection waiting.tag waiting.c.waiting waiting.stage (subst (WaitsAt waiting.c.waiting.at) is waiting.at)),
    )

    none_waits : (replica : Replica) (id : AskId) (inputs : List Input) (held : Option (List ℕ)) (told said : List Answer) (session : Sess) (here : Place)
        → IsInPlaceOf (fixed_of config) world node replica id here → IsDroppedAt (master_of config) world node here
        → Stands (fixed_of config) node conn inputs held connection told said session here → IsAnsweredThrough (requests_in inputs) told
    none_waits replica id inputs held told said session here placed dropped (reads a b c d e f at) = inl (sym (answered_lengths inputs told e))
    none_waits replica id inputs held told said session here placed dropped (waits waiting) =
        absurd (none_knows node replica id here waiting.c waiting.tag told said session (no_waiting inputs held told said session here dropped waiting) placed
        (nowhere_on_empty id.command world.links (of_connection id.conn) (its_message (fixed_of config).master node id here) empty placed.message) waiting.knows)
    none_waits replica id inputs held told said session here placed dropped (lists waiting) =
        absurd (none_lists node id here waiting.tag waiting.listing connection.session told said session
        (λ is.
        waits_over (master_of config) (subst (IsDroppedAt (master_of config) world node) is dropped)
        (lists_master connection waiting.tag waiting.listing waiting.stage))
        (nowhere_on_empty id.command world.links (of_connection id.conn) (its_message (fixed_of config).master node id here) empty placed.message) waiting.knows)
    none_waits replica id inputs held told said session here placed dropped (faulted a b c d e at) = inl (sym c)
    none_waits replica id inputs held told said session here placed dropped (finished passed more asking before last a b c d e f at) =
        inr (subst (λ t. list_any (λ (answer : Answer). ends answer.reply) t ≡ true) (sym d) (last_ends before last e))

-- ---- of any connection

says_by : (config : Config) (all : ℕ → Heard) (world : World) (law : KeepsLaw config all world) → LinksStand config world → (conn : ℕ) (stop : Stop)
    (heard : Heard) → ConnectionIs (fixed_of config) conn world law.story stop heard → SaysOf (law_setting config) world conn stop heard (law.story.told conn)
unfolding all_told_till bytes_heard frames_heard has_closed requests_in inputs_of
says_by config all world law links conn stop heard (is_nobody none fronts untold) = record {
  given = λ silent. given_at world conn None none;
  lasts = none_given (law.story.told conn) untold.told;
  waits_not = λ empty stays. inl (inl (ap length untold.told));
  cut = λ whole. refl;
}
says_by config all world law links conn stop heard (is_elsewhere node given at none untold) = record {
  given = λ silent. silent refl node (ap node_of at) none;
  lasts = none_given (law.story.told conn) untold.told;
  waits_not = λ empty stays. inl (inl (ap length untold.told));
  cut = λ whole. refl;
}
says_by config all world law links conn stop heard (is_open bytes node front connection at reader standing) = record {
  given = λ silent. given_at world conn (Some (client_with node (inputs_in (law_setting config) bytes) (law.story.told conn))) standing.client;
  lasts = stands_last (fixed_of config) node conn _ _ connection (law.story.told conn) (law.story.talk.answers conn)
      (law.story.course.sessions conn) standing.here standing.stands;
  waits_not = λ empty stays. inl (none_waits config all world law links empty node front conn connection at front.replica (next_id conn (law.story.told conn))
      _ _ (law.story.told conn) (law.story.talk.answers conn) (law.story.course.sessions conn) standing.here standing.placed standing.dropped standing.stands);
  cut = λ whole. refl;
}
says_by config all world law links conn stop heard (is_cut_off bytes node front connection at gone unanswered) = record {
  given = λ silent. given_at world conn (Some (client_till is_lost node (inputs_in (law_setting config) bytes) (law.story.told conn))) gone.client;
  lasts = gone.lasts;
  waits_not = λ empty stays. inr refl;
  cut = λ whole. absurd (gone.cut refl whole);
}
says_by config all world law links conn stop heard (is_closed _ bytes node front connection at gone) = record {
  given = λ silent. given_at world conn (Some (client_till stop node (inputs_in (law_setting config) bytes) (law.story.told conn))) gone.client;
  lasts = gone.lasts;
  waits_not = λ empty stays. cc;
  cut = λ whole. not_lost_is stop (λ lost. gone.cut lost whole);
}
  where
    not_lost_is : (stop : Stop) → (stop ≡ is_lost → ⊥) → stop ≡ silent
    not_lost_is silent not = refl
    not_lost_is is_lost not = absurd (not refl)

pub says_of : (config : Config) (heard : ℕ → Heard) (world : World) (law : KeepsLaw config heard world) → LinksStand config world → (conn : ℕ)
    → SaysOf (law_setting config) world conn (law.stops conn) (heard conn) (law.story.told conn)
says_of config heard world law links conn = says_by config heard world law links conn (law.stops conn) (heard conn) (law.connections conn)
