-- Where each client sent less than 2^32 bytes, the numbers of its commands have 64 bits, and there are numbers left for what waits.
use Rattle.std.proofs.Common.{◌≡◌, ℕ, ◌+◌, ◌≤◌, ◌<◌, ◌^◌, Bool, true, false, List, [], ◌∷◌, length, Option, None, Some, refl, sym, ◌∙◌, ap, subst, arith, length-append}
use Rattle.cluster_core.specs.World.{setting_of, client_at, front_at}
use Rattle.cluster_core.specs.declared.world.Client.{Client}
use Rattle.front_core.proofs.OneConnection.Readings.{inputs_in}
use Rattle.front_core.specs.declared.connection.Connection.{Connection}
use Rattle.front_core.specs.declared.front.Front.{Front}
use Rattle.imap_talk.specs.Heard.{Heard, client, frames_heard}
use Rattle.imap_talk.specs.Inputs.{requests_in}
use Rattle.imap_talk.specs.Transcript.{Stop}
use Rattle.imap_talk.specs.Transcript.{Stop}
use Rattle.imap_talk.specs.declared.inputs.Input.{Input}
use Rattle.imap_talk.specs.declared.inputs.Input.TheVariants.{Asks}
use Rattle.imap_talk.proofs.RequestsOf.{answered_lengths, requests_of}
use Rattle.imap_types.specs.declared.command.Command.{Command}
use Rattle.imap_types.specs.declared.command.Tag.{Tag}
use Rattle.imap_types.specs.declared.request.Answer.{Answer}
use Rattle.imap_types.specs.declared.request.Request.{Request}
use Rattle.mark_history.proofs.Tellings.{has_tellings}
use Rattle.mur_config.specs.declared.config.Config.{Config}
use Rattle.mur_model.specs.declared.commands.list.Listing.{Listing}
use Rattle.mur_model.specs.declared.session.Sess.{Sess}
use Rattle.point_links.specs.Commands.{ClientCommand}
use Rattle.route_links.specs.Answered.{IsNumbered}
use Rattle.imap_wire.specs.Frames.{begun}
use Rattle.cluster_core.specs.declared.world.World.{World}
use Rattle.cluster_core.proofs.Commands.Knows.{Knows, KnowsNames, listed_by}
use Rattle.cluster_core.proofs.Commands.Knows.Knows.{is_decided, undecided}
use Rattle.cluster_core.proofs.Commands.Knows.KnowsNames.{is_gone, is_listed, not_yet}
use Rattle.cluster_core.proofs.Commands.Place.{Place}
use Rattle.cluster_core.proofs.Commands.Released.{waits_next}
use Rattle.cluster_core.proofs.Commands.Standing.{Fixed, IsLeft, IsNext, Stands, next_id}
use Rattle.cluster_core.proofs.Commands.Standing.IsLeft.{left_listing, left_waiting, nothing}
use Rattle.cluster_core.proofs.Commands.Standing.Stands.{faulted, finished, lists, reads, waits}
use Rattle.cluster_core.proofs.Connections.BytesCome.{bytes_many, inputs_many, requests_few}
use Rattle.cluster_core.proofs.Connections.KeepsLaw.{ConnectionIs, IsAt, KeepsLaw, fixed_of}
use Rattle.cluster_core.proofs.Connections.KeepsLaw.ConnectionIs.{is_nobody, is_elsewhere, is_open, is_cut_off, is_closed}
use Rattle.cluster_core.proofs.Feeds.AnsweredNoops.{HasRoomAt}
use Rattle.cluster_core.proofs.Points.Waits.{AskedFit}
use Rattle.cluster_core.specs.Numbers.{HeardFits, NumbersFit}

-- ---- no more was told than the store replied

known_few : (master first front : List ℕ) {c : ClientCommand} {tag : Tag} (told said : List Answer) (session : Sess) (here : Place)
    → Knows master first front c tag told said session here → length told ≤ length said
known_few master first front told said session here (undecided same was waits_on) = omega (arith, ap length same)
known_few master first front {c} {tag} told said session here (is_decided turn same after ends brings) =
    omega (arith, ap length same, length-append told (record { tag = tag; reply = turn.reply } ∷ []))

names_few : {tag : Tag} {it : Listing} {was : Sess} (told said : List Answer) (session : Sess) (here : Place) → KnowsNames tag it was told said session here
    → length told ≤ length said
names_few told said session here (not_yet same was at) = omega (arith, ap length same)
names_few told said session here (is_gone same was at) = omega (arith, ap length same)
names_few {tag} {it} told said session here (is_listed table same was at) =
    omega (arith, ap length same, length-append told (listed_by tag it table ∷ []))

module _ (fixed : Fixed) (front : List ℕ) (conn : ℕ) (told said : List Answer) (session : Sess) (here : Place) where
  stands_few : {inputs : List Input} {held : Option (List ℕ)} {connection : Connection} → Stands fixed front conn inputs held connection told said session here
      → length told ≤ length said
  stands_few (reads stage waiting same on answered said_is at) = omega (arith, ap length said_is)
  stands_few (waits waiting) = known_few fixed.master fixed.first front told said session here waiting.knows
  stands_few (lists waiting) = names_few told said session here waiting.knows
  stands_few (faulted stage held count said_is lasts at) = omega (arith, ap length said_is)
  stands_few (finished passed more request before last stage parts answered told_is ends said_is at) = omega (arith, ap length said_is)

  left_few : {requests : List Request} → IsLeft fixed front conn requests told said session here → length told ≤ length said
  left_few (nothing rest said_is few at) = omega (arith, ap length said_is, length-append told rest)
  left_few (left_waiting waiting) = known_few fixed.master fixed.first front told said session here waiting.knows
  left_few (left_listing waiting) = names_few told said session here waiting.knows

module _ (config : Config) (heard : ℕ → Heard) (world : World) (law : KeepsLaw config heard world) (fits : NumbersFit heard) where
  -- nor did the store reply more than it was asked
  said_few : (conn : ℕ) → length (law.story.talk.answers conn) ≤ length (law.story.talk.requests conn)
  said_few conn = (has_tellings (setting_of config) world.steps world.marks law.story law.is_told.marked).replied conn

  numbers_by : (conn : ℕ) (bytes : List ℕ) (closed : Bool) → heard conn ≡ client bytes closed
      → length (law.story.told conn) ≤ length (law.story.talk.answers conn) → IsNumbered (next_id conn (law.story.told conn))
  unfolding frames_heard
  numbers_by conn bytes closed e told =
      let its : (conn < 2 ^ 64) × (length bytes < 2 ^ 32) = subst (HeardFits conn) e (fits conn) in
      let so : law.story.talk.requests conn ≡ requests_in (inputs_in (setting_of config) bytes) =
      law.requests conn ∙ ap (λ h. requests_of (setting_of config) (frames_heard h)) e in
      let few : length (law.story.told conn) + 1 < 2 ^ 64 =
      omega (arith, told, said_few conn, ap length so, bytes_many (setting_of config) bytes, its.1) in
      (its.0, few)

  fit_by : (conn : ℕ) (node : List ℕ) (front : Front) (connection : Connection) (stop : Stop) (was : Heard) → IsAt world conn node front connection
      → (its : Client) → client_at world conn ≡ Some its → its.at ≡ node → heard conn ≡ was → ConnectionIs (fixed_of config) conn world law.story stop was
      → IsNumbered (next_id conn (law.story.told conn))
  fit_by conn node front connection _ was at its given its_at e (is_nobody none nowhere untold) =
      absurd (let no : None ≡ Some its = sym none ∙ given in cc)
  fit_by conn node front connection _ was at its given its_at e (is_elsewhere there bytes found none untold) =
      absurd (let same : record { at = there; given = bytes } ≡ its = (let both : Some (record { at = there; given = bytes }) ≡ Some its = sym found ∙ given in cc) in
      let here : there ≡ node = ap (λ (c : Client). c.at) same ∙ its_at in
      let no : None ≡ Some front = sym none ∙ ap (front_at world) here ∙ at.at in cc)
  fit_by conn node front connection _ was at its given its_at e (is_open bytes there other it is_at reader standing) =
      numbers_by conn bytes false e
      (stands_few (fixed_of config) there conn (law.story.told conn) (law.story.talk.answers conn) (law.story.course.sessions conn) standing.here standing.stands)
  fit_by conn node front connection _ was at its given its_at e (is_cut_off bytes there other it is_at gone unanswered) =
      numbers_by conn bytes false e
      (left_few (fixed_of config) there conn (law.story.told conn) (law.story.talk.answers conn) (law.story.course.sessions conn) gone.here gone.left)
  fit_by conn node front connection _ was at its given its_at e (is_closed stop bytes there other it is_at gone) =
      numbers_by conn bytes true e
      (left_few (fixed_of config) there conn (law.story.told conn) (law.story.talk.answers conn) (law.story.course.sessions conn) gone.here gone.left)

  pub asked_fit : AskedFit world law.story
  asked_fit conn node front connection at its given its_at =
      fit_by conn node front connection (law.stops conn) (heard conn) at its given its_at refl (law.connections conn)

-- ---- numbers left for what waits

module _ (fixed : Fixed) (node : List ℕ) (conn : ℕ) (bytes : List ℕ) (connection : Connection) (told said : List Answer) (session : Sess)
    (here : Place) (count : connection.answered ≡ length told) (few : length bytes < 2 ^ 32) where
  room_behind : {tag : Tag} {it : Command} → IsNext (inputs_in fixed.setting bytes) (begun bytes) connection told tag it
      → connection.answered + 1 + length connection.waiting < 2 ^ 64
  room_behind next = omega (
    arith,
    count,
    few,
    answered_lengths next.passed told next.answered,
    requests_few next.passed,
    ap length next.parts,
    length-append next.passed (Asks next.request ∷ connection.waiting),
    inputs_many fixed.setting bytes,
  )

  room_by : Stands fixed node conn (inputs_in fixed.setting bytes) (begun bytes) connection told said session here
      → HasRoomAt connection connection.stage
  room_by (reads stage waiting same on answered said_is at) = subst (HasRoomAt connection) (sym stage) tt
  room_by (waits waiting) =
      subst (HasRoomAt connection) (sym waiting.stage)
      (room_behind (waits_next fixed node conn (inputs_in fixed.setting bytes) (begun bytes) connection told said session here waiting))
  room_by (lists waiting) = subst (HasRoomAt connection) (sym waiting.stage) (room_behind waiting.next)
  room_by (faulted stage held count said_is lasts at) = subst (HasRoomAt connection) (sym stage) tt
  room_by (finished passed more request before last stage parts answered told_is ends said_is at) = subst (HasRoomAt connection) (sym stage) tt

-- a connection that its client has open
pub open_has_room : (fixed : Fixed) (node : List ℕ) (conn : ℕ) (bytes : List ℕ) (connection : Connection) (told said : List Answer) (session : Sess) (here : Place)
    → connection.answered ≡ length told → length bytes < 2 ^ 32
    → Stands fixed node conn (inputs_in fixed.setting bytes) (begun bytes) connection told said session here → HasRoomAt connection connection.stage
open_has_room fixed node conn bytes connection told said session here count few stands =
    room_by fixed node conn bytes connection told said session here count few stands
