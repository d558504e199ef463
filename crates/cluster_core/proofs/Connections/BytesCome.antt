-- More bytes of a client, at its connection: the requests that they bring, what their inputs make of the connection, and what goes out for them.
use Rattle.std.proofs.Common.{◌≡◌, ◌≢◌, ℕ, ◌+◌, ◌≤◌, ◌<◌, ◌^◌, true, false, nat_eq, List, [], ◌∷◌, ◌++◌, length, Option, None, Some, refl, sym, ◌∙◌, ap, subst, arith, append_assoc, length-append}
use Rattle.std.specs.Option.{is_none}
use Rattle.std.proofs.Math.Logic.{⊎_elim}
use Rattle.std.proofs.lemmas.Bool.{cases_eq}
use Rattle.std.proofs.lemmas.Bool.Decides.{nat_tests}
use Rattle.std.proofs.lemmas.List.{append-nil}
use Rattle.cluster_core.specs.Heard.{hears}
use Rattle.cluster_core.specs.World.{master_of, setting_of, carry_all, home_at}
use Rattle.feed_links.specs.Lines.{messages_to}
use Rattle.feed_links.specs.OneFeed.{AreNoops}
use Rattle.front_core.specs.Reading.{Reading as Read, inputs_of_more, read_more}
use Rattle.front_core.proofs.OneConnection.Readings.{FaultsLast, faults_after, inputs_in, inputs_with_more, reading_of, reading_with_more}
use Rattle.front_core.proofs.FramesLaws.{HoldsBack, held_back}
use Rattle.front_core.proofs.ReadingLaws.{ended_inputs, ended_reader, inputs_of_more-length}
use Rattle.front_core.specs.declared.connection.Connection.{Connection}
use Rattle.front_core.specs.declared.front.Front.{Front}
use Rattle.front_core.specs.Front.{having_read}
use Rattle.front_core.specs.Taken.{Turned, Ways, inputs_come}
use Rattle.imap_reply.specs.Greeting.{greeting}
use Rattle.imap_talk.specs.Heard.{Heard, nobody, elsewhere, client, frames_heard}
use Rattle.imap_talk.specs.Inputs.{at_first, requests_in}
use Rattle.imap_talk.specs.Transcript.{replies_to}
use Rattle.imap_talk.specs.declared.inputs.Input.{Input}
use Rattle.imap_talk.specs.declared.inputs.Input.TheVariants.{GoesOn as goes_on, Asks, Faults}
use Rattle.imap_talk.proofs.InputLaws.{inputs-length, requests-append}
use Rattle.imap_talk.proofs.RequestsOf.{answered_lengths, requests_of, replies_stop}
use Rattle.imap_types.specs.declared.command.Command.{Command}
use Rattle.imap_types.specs.declared.command.Tag.{Tag}
use Rattle.imap_types.specs.declared.request.Request.{Request}
use Rattle.imap_wire.specs.Frames.{begun, frames}
use Rattle.imap_wire.specs.More.{frames_of_more}
use Rattle.imap_wire.proofs.FeedLaws.{frames-nil}
use Rattle.imap_wire.proofs.MoreLaws.{frames_of_more-length, frames_with_more}
use Rattle.mark_history.specs.Marked.{Tale, asking}
use Rattle.mur_config.specs.declared.config.Config.{Config}
use Rattle.mur_model.specs.History.{GoesOn}
use Rattle.mur_model.specs.declared.setting.Setting.{Setting}
use Rattle.schedule_text.specs.declared.event.Event.TheVariants.{Data}
use Rattle.cluster_core.specs.declared.world.World.{World}
use Rattle.cluster_core.proofs.Commands.AllReached.{AreMarkedSo, asks as asks_more}
use Rattle.cluster_core.proofs.Commands.Released.{waits_next}
use Rattle.cluster_core.proofs.Commands.Standing.{Fixed, IsNext, Lists, Stands, Waiting}
use Rattle.cluster_core.proofs.Commands.Standing.Stands.{lists, waits}
use Rattle.cluster_core.proofs.Connections.ConnectionLaw.{IsReading, IsStanding, StandsOn, keeps_all, restores_as, same_story}
use Rattle.cluster_core.proofs.Connections.FrameLaw.{HasNumbersOf, inputs_kept, ways_for}
use Rattle.cluster_core.proofs.Connections.KeepsLaw.{IsAt, KeepsLaw, fixed_of}
use Rattle.cluster_core.proofs.Links.Stand.{LinksStand}
use Rattle.cluster_core.proofs.Connections.MayAskAt.{may_ask, reaches}
use Rattle.cluster_core.proofs.Connections.OwnOuts.{inputs_own, own_noops}
use Rattle.cluster_core.specs.Numbers.{HeardFits, NumbersFit}

-- ---- what is heard

abbrev pub after_data : Config → (ℕ → Heard) → ℕ → List ℕ → ℕ → Heard
after_data config heard conn bytes other = hears config other (heard other) (Data conn bytes)

pub other_heard : (config : Config) (conn other : ℕ) (bytes : List ℕ) (heard : Heard) → other ≢ conn → hears config other heard (Data conn bytes) ≡ heard
unfolding hears
other_heard config conn other bytes nobody ne = refl
other_heard config conn other bytes elsewhere ne = refl
other_heard config conn other bytes (client b true) ne = refl
other_heard config conn other bytes (client b false) ne = let apart : nat_eq other conn ≡ false = grind (arith, nat_tests) in rw apart refl

pub heard_more : (config : Config) (conn : ℕ) (bytes more : List ℕ) (heard : Heard) → heard ≡ client bytes false
    → hears config conn heard (Data conn more) ≡ client (bytes ++ more) false
unfolding hears
heard_more config conn bytes more heard e = let same : nat_eq conn conn ≡ true = grind (arith, nat_tests) in rw (e, same) refl

pub still_heard : (config : Config) (heard : ℕ → Heard) (conn : ℕ) (bytes : List ℕ) → hears config conn (heard conn) (Data conn bytes) ≡ heard conn
    → (other : ℕ) → after_data config heard conn bytes other ≡ heard other
still_heard config heard conn bytes same other = ⊎_elim
    (λ (e : other ≡ conn). subst (λ c. hears config c (heard c) (Data conn bytes) ≡ heard c) (sym e) same)
    (λ (ne : other ≢ conn). other_heard config conn other bytes (heard other) ne)
    (cases_eq other conn)

pub nothing_heard : (config : Config) (conn : ℕ) (bytes : List ℕ) → hears config conn nobody (Data conn bytes) ≡ nobody
unfolding hears
nothing_heard config conn bytes = refl

pub elsewhere_heard : (config : Config) (conn : ℕ) (bytes : List ℕ) → hears config conn elsewhere (Data conn bytes) ≡ elsewhere
unfolding hears
elsewhere_heard config conn bytes = refl

pub closed_heard : (config : Config) (conn : ℕ) (b bytes : List ℕ) → hears config conn (client b true) (Data conn bytes) ≡ client b true
unfolding hears
closed_heard config conn b bytes = refl

-- ---- the requests of a connection are those before and more

record IsLonger (requests longer : List Request) : Type 0 where
  rest : List Request
  parts : longer ≡ requests ++ rest

longer_here : (config : Config) (heard : ℕ → Heard) (conn : ℕ) (bytes more : List ℕ) (held : Read) → heard conn ≡ client bytes false
    → reading_of (setting_of config) bytes ≡ held
    → (requests : List Request) → requests ≡ requests_of (setting_of config) (frames_heard (heard conn))
    → IsLonger requests (requests_of (setting_of config) (frames_heard (hears config conn (heard conn) (Data conn more))))
unfolding frames_heard
longer_here config heard conn bytes more held e is requests r = record {
  rest = requests_in (inputs_of_more (setting_of config) held more);
  parts = ap (λ h. requests_of (setting_of config) (frames_heard h)) (heard_more config conn bytes more (heard conn) e)
      ∙ ap requests_in (inputs_with_more (setting_of config) bytes more held is)
      ∙ requests-append (inputs_in (setting_of config) bytes) (inputs_of_more (setting_of config) held more)
      ∙ ap (λ q. q ++ requests_in (inputs_of_more (setting_of config) held more)) (ap (λ h. requests_of (setting_of config) (frames_heard h)) (sym e) ∙ sym r);
}

longer_other : (config : Config) (heard : ℕ → Heard) (conn other : ℕ) (more : List ℕ) → other ≢ conn → (requests : List Request)
    → requests ≡ requests_of (setting_of config) (frames_heard (heard other))
    → IsLonger requests (requests_of (setting_of config) (frames_heard (hears config other (heard other) (Data conn more))))
longer_other config heard conn other more ne requests r = record {
  rest = [];
  parts = ap (λ h. requests_of (setting_of config) (frames_heard h)) (other_heard config conn other more (heard other) ne) ∙ sym r ∙ sym (append-nil requests);
}

-- the tale in which the clients asked all that was heard by then
abbrev pub asked_tale : Config → (ℕ → Heard) → ℕ → List ℕ → Tale → Tale
asked_tale config heard conn more story = asking story
    (λ other. requests_of (setting_of config) (frames_heard (hears config other (heard other) (Data conn more))))

pub asked_more : (config : Config) (heard : ℕ → Heard) (conn : ℕ) (bytes more : List ℕ) (held : Read) → heard conn ≡ client bytes false
    → reading_of (setting_of config) bytes ≡ held
    → (requests : ℕ → List Request) → ((c : ℕ) → requests c ≡ requests_of (setting_of config) (frames_heard (heard c)))
    → GoesOn requests (λ other. requests_of (setting_of config) (frames_heard (hears config other (heard other) (Data conn more))))
asked_more config heard conn bytes more held e is requests r = record {
  more = λ other. (longer other).rest;
  parts = λ other. (longer other).parts;
}
  where
    longer : (other : ℕ) → IsLonger (requests other) (requests_of (setting_of config) (frames_heard (hears config other (heard other) (Data conn more))))
    longer other = ⊎_elim
        (λ (same : other ≡ conn). subst (λ c. IsLonger (requests c) (requests_of (setting_of config) (frames_heard (hears config c (heard c)
        (Data conn more))))) (sym same)
        (longer_here config heard conn bytes more held e is (requests conn) (r conn)))
        (λ (ne : other ≢ conn). longer_other config heard conn other more ne (requests other) (r other))
        (cases_eq other conn)

all_inputs : (config : Config) (heard : ℕ → Heard) (conn : ℕ) (bytes more : List ℕ) (held : Read) → heard conn ≡ client bytes false
    → reading_of (setting_of config) bytes ≡ held
    → requests_of (setting_of config) (frames_heard (hears config conn (heard conn) (Data conn more)))
    ≡ requests_in (inputs_in (setting_of config) bytes ++ inputs_of_more (setting_of config) held more)
unfolding frames_heard
all_inputs config heard conn bytes more held e is =
    ap (λ h. requests_of (setting_of config) (frames_heard h)) (heard_more config conn bytes more (heard conn) e)
    ∙ ap requests_in (inputs_with_more (setting_of config) bytes more held is)

faults_behind : (front new : List Input) (held later : Option (List ℕ)) → FaultsLast front held → FaultsLast new later
    → (held ≡ None → (new ≡ []) × (later ≡ None)) → FaultsLast (front ++ new) later
unfolding FaultsLast
faults_behind [] new held later one two none = two
faults_behind (Asks request ∷ front) new held later one two none = faults_behind front new held later one two none
faults_behind (goes_on why ∷ front) new held later one two none = faults_behind front new held later one two none
faults_behind (Faults fault ∷ front) new held later one two none =
    let is = none one.1 in (ap (λ f. f ++ new) one.0 ∙ is.0, is.1)

-- ---- a byte is one request at most

frames_few : (bytes : List ℕ) → length (frames bytes) ≤ length bytes
frames_few bytes = omega (
  arith,
  ap length (frames_with_more [] bytes (begun []) refl),
  length-append (frames []) (frames_of_more (begun []) bytes),
  ap length frames-nil,
  frames_of_more-length (begun []) bytes,
)

pub requests_few : (inputs : List Input) → length (requests_in inputs) ≤ length inputs
unfolding requests_in
requests_few [] = omega arith
requests_few (Asks request ∷ inputs) = omega (arith, requests_few inputs)
requests_few (goes_on why ∷ inputs) = omega (arith, requests_few inputs)
requests_few (Faults fault ∷ inputs) = omega (arith, requests_few inputs)

pub inputs_many : (setting : Setting) (bytes : List ℕ) → length (inputs_in setting bytes) ≤ length bytes
inputs_many setting bytes = omega (arith, inputs-length setting at_first (frames bytes), frames_few bytes)

pub bytes_many : (setting : Setting) (bytes : List ℕ) → length (requests_in (inputs_in setting bytes)) ≤ length bytes
bytes_many setting bytes =
    omega (arith, requests_few (inputs_in setting bytes), inputs-length setting at_first (frames bytes), frames_few bytes)

-- ---- more bytes of a connection at its frontend

abbrev pub ways_same : Config → List ℕ → Front → Ways
ways_same config node front = ways_for (fixed_of config) front.ups front.replica

module _ (config : Config) (heard : ℕ → Heard) (world : World) (law : KeepsLaw config heard world) (conn : ℕ) (bytes more node : List ℕ) (front : Front)
    (connection : Connection) (e : heard conn ≡ client bytes false) (at : IsAt world conn node front connection)
    (fits : NumbersFit (after_data config heard conn more)) where
  abbrev fixed : Fixed
  fixed = fixed_of config

  abbrev after : ℕ → Heard
  after = after_data config heard conn more

  abbrev told : Tale
  told = asked_tale config heard conn more law.story

  -- the inputs that the bytes bring, and what they make of the connection
  abbrev pub new : List Input
  new = inputs_of_more (setting_of config) connection.reader more

  abbrev pub turned : Turned
  turned = inputs_come (setting_of config) (ways_same config node front) conn (having_read (setting_of config) connection more) new

  abbrev pub Behind : Type 0
  Behind = StandsOn fixed node front.replica conn (inputs_in (setting_of config) (bytes ++ more)) (begun (bytes ++ more)) turned.connection world told
      (carry_all node world turned.outs)

  its_numbers : (conn < 2 ^ 64) × (length (bytes ++ more) < 2 ^ 32)
  its_numbers = subst (HeardFits conn) (heard_more config conn bytes more (heard conn) e) (fits conn)

  told_numbers : (held : Read) → reading_of (setting_of config) bytes ≡ held → HasNumbersOf conn told
  told_numbers held is =
      let so : told.talk.requests conn ≡ requests_in (inputs_in (setting_of config) (bytes ++ more)) =
      all_inputs config heard conn bytes more held e is ∙ ap requests_in (sym (inputs_with_more (setting_of config) bytes more held is)) in
      let few : length (told.talk.requests conn) < 2 ^ 64 = omega (arith, ap length so, bytes_many (setting_of config) (bytes ++ more), its_numbers.1) in
      (its_numbers.0, few)

  pub now_told : (held : Read) → reading_of (setting_of config) bytes ≡ held → AreMarkedSo (setting_of config) world.broken world.steps world.marks told
  now_told held is =
      asks_more world.steps world.marks law.story _ (asked_more config heard conn bytes more held e is law.story.talk.requests law.requests) law.is_told

  pub reading_behind : LinksStand config world → connection.reader ≡ reading_of (setting_of config) bytes
      → IsReading fixed node front.replica conn (inputs_in (setting_of config) bytes) connection world law.story → Behind
  reading_behind links reader reading =
      let held : reading_of (setting_of config) bytes ≡ connection.reader = sym reader in
      subst (λ f. StandsOn fixed node front.replica conn f (begun (bytes ++ more)) turned.connection world told
      (carry_all node world turned.outs)) (sym (inputs_with_more (setting_of config) bytes more connection.reader held))
      (subst (λ h. StandsOn fixed node front.replica conn (inputs_in (setting_of config) bytes ++ new) h turned.connection world told
      (carry_all node world turned.outs)) (sym (ap (λ (r : Read). r.held) (reading_with_more (setting_of config) bytes more connection.reader held)))
      (inputs_kept fixed node front.ups front.replica conn new (read_more (setting_of config) connection.reader more).held world told
      (record {
        may = may_ask config heard world node front law at.at;
        reaches = reaches config heard world node front law links at.at;
        numbers = told_numbers connection.reader held;
      })
      (faults_after (setting_of config) bytes more connection.reader held)
      (inputs_in (setting_of config) bytes) (having_read (setting_of config) connection more) world
      (all_inputs config heard conn bytes more connection.reader e held)
      (record {
        story = told;
        made = record {
          others = keeps_all fixed conn world;
          goes_on = same_story conn told;
          store = refl;
          is_told = now_told connection.reader held;
        };
        reading = record {
          stage_is = reading.stage_is;
          waiting_is = reading.waiting_is;
          session_is = reading.session_is;
          goes_on = reading.goes_on;
          count = reading.count;
          answered = reading.answered;
          said = reading.said;
          client = reading.client;
          nothing = reading.nothing;
        };
      })))

  -- what goes out of it to the master is NOOPs
  pub reading_noops : IsReading fixed node front.replica conn (inputs_in (setting_of config) bytes) connection world law.story
      → AreNoops (messages_to (master_of config) turned.outs)
  reading_noops reading =
      let may = may_ask config heard world node front law at.at in
      let few : connection.answered + length new < 2 ^ 64 = omega (
        arith,
        reading.count,
        answered_lengths (inputs_in (setting_of config) bytes) (law.story.told conn) reading.answered,
        bytes_many (setting_of config) bytes,
        inputs_of_more-length (setting_of config) connection.reader more,
        frames_of_more-length connection.reader.held more,
        length-append bytes more,
        its_numbers.1,
      ) in
      own_noops (master_of config) (home_at world) conn (connection.answered + length new) turned.outs its_numbers.0 few (may.frontend).master_no_home
      (inputs_own fixed (home_at world) front.ups front.replica conn may.knows may.first (having_read (setting_of config) connection more) new)

  -- the inputs of more bytes wait behind a command that waits
  abbrev Waits_on : Turned
  Waits_on = record { connection = record (having_read (setting_of config) connection more) { waiting = connection.waiting ++ new }; outs = [] }

  waits_all : HoldsBack connection.stage → turned ≡ Waits_on
  waits_all holds = held_back (setting_of config) (ways_same config node front) conn (having_read (setting_of config) connection more) new holds

  -- that command is the next to be answered
  abbrev IsNextBefore : Tag → Command → Type 0
  IsNextBefore tag it = IsNext (inputs_in (setting_of config) bytes) (begun bytes) connection (law.story.told conn) tag it

  abbrev IsNextBehind : Tag → Command → Type 0
  IsNextBehind tag it = IsNext (inputs_in (setting_of config) (bytes ++ more)) (begun (bytes ++ more)) Waits_on.connection (law.story.told conn) tag it

  parts_behind : (tag : Tag) (it : Command) → connection.reader ≡ reading_of (setting_of config) bytes → (next : IsNextBefore tag it)
      → inputs_in (setting_of config) (bytes ++ more) ≡ next.passed ++ Asks next.request ∷ (connection.waiting ++ new)
  parts_behind tag it reader next =
      inputs_with_more (setting_of config) bytes more connection.reader (sym reader) ∙ ap (λ f. f ++ new) next.parts
      ∙ append_assoc next.passed (Asks next.request ∷ connection.waiting) new

  next_behind : (tag : Tag) (it : Command) → connection.reader ≡ reading_of (setting_of config) bytes → IsNextBefore tag it → IsNextBehind tag it
  next_behind tag it reader next = record {
    passed = next.passed;
    request = next.request;
    parts = parts_behind tag it reader next;
    answered = next.answered;
    is = next.is;
    last = subst (λ h. FaultsLast (connection.waiting ++ new) h)
        (sym (ap (λ (r : Read). r.held) (reading_with_more (setting_of config) bytes more connection.reader (sym reader))))
        (faults_behind connection.waiting new (begun bytes) (read_more (setting_of config) connection.reader more).held next.last
        (faults_after (setting_of config) bytes more connection.reader (sym reader))
        (λ none. let over = ap (λ (r : Read). is_none r.held) reader ∙ ap is_none none in (
          ended_inputs (setting_of config) connection.reader more over,
          ap (λ (r : Read). r.held) (ended_reader (setting_of config) connection.reader more over ∙ reader) ∙ none,
        )));
  }

  held_behind : (tag : Tag) (it : Command) → connection.reader ≡ reading_of (setting_of config) bytes
      → (standing : IsStanding fixed node front.replica conn (inputs_in (setting_of config) bytes) (begun bytes) connection world law.story)
      → HoldsBack connection.stage → IsNextBefore tag it
      → Stands fixed node conn (inputs_in (setting_of config) (bytes ++ more)) (begun (bytes ++ more)) Waits_on.connection (law.story.told conn)
      (law.story.talk.answers conn) (law.story.course.sessions conn) standing.here
      → Behind
  unfolding carry_all
  held_behind tag it reader standing holds next stands =
      subst (λ (t : Turned). StandsOn fixed node front.replica conn (inputs_in (setting_of config) (bytes ++ more))
      (begun (bytes ++ more)) t.connection world told (carry_all node world t.outs)) (sym (waits_all holds))
      (record {
        story = told;
        made = record {
          others = keeps_all fixed conn world;
          goes_on = same_story conn told;
          store = refl;
          is_told = now_told connection.reader (sym reader);
        };
        standing = record {
          count = standing.count;
          client = standing.client ∙ ap (λ t. Some (record { at = node; given = greeting ++ t }))
              (ap (λ f. replies_to f (law.story.told conn)) next.parts
              ∙ sym (replies_stop next.passed (law.story.told conn) next.request connection.waiting next.answered)
              ∙ replies_stop next.passed (law.story.told conn) next.request (connection.waiting ++ new) next.answered
              ∙ ap (λ f. replies_to f (law.story.told conn)) (sym (parts_behind tag it reader next)));
          here = standing.here;
          placed = standing.placed;
          marked = standing.marked;
          dropped = standing.dropped;
          restores = restores_as law.story told conn connection Waits_on.connection standing.here refl refl refl refl standing.restores;
          stands = stands;
        };
      })

  pub waiting_behind : connection.reader ≡ reading_of (setting_of config) bytes
      → (standing : IsStanding fixed node front.replica conn (inputs_in (setting_of config) bytes) (begun bytes) connection world law.story)
      → Waiting fixed node conn (inputs_in (setting_of config) bytes) (begun bytes) connection (law.story.told conn)
      (law.story.talk.answers conn) (law.story.course.sessions conn) standing.here
      → Behind
  waiting_behind reader standing waiting =
      let next = waits_next fixed node conn (inputs_in (setting_of config) bytes) (begun bytes) connection (law.story.told conn)
      (law.story.talk.answers conn) (law.story.course.sessions conn) standing.here waiting in
      let now = next_behind waiting.tag (waiting.c).it reader next in
      held_behind waiting.tag (waiting.c).it reader standing (subst HoldsBack (sym waiting.stage) tt) next (waits (record {
        passed = now.passed;
        request = now.request;
        tag = waiting.tag;
        c = waiting.c;
        of = waiting.of;
        stage = waiting.stage;
        at = waiting.at;
        parts = now.parts;
        lasts = waiting.lasts;
        answered = now.answered;
        is = now.is;
        last = now.last;
        knows = waiting.knows;
      }))

  -- the same of a LIST
  pub listing_behind : connection.reader ≡ reading_of (setting_of config) bytes
      → (standing : IsStanding fixed node front.replica conn (inputs_in (setting_of config) bytes) (begun bytes) connection world law.story)
      → Lists fixed (inputs_in (setting_of config) bytes) (begun bytes) connection (law.story.told conn)
      (law.story.talk.answers conn) (law.story.course.sessions conn) standing.here
      → Behind
  listing_behind reader standing waiting =
      held_behind waiting.tag waiting.it reader standing (subst HoldsBack (sym waiting.stage) tt) waiting.next (lists (record {
        tag = waiting.tag;
        it = waiting.it;
        listing = waiting.listing;
        need = waiting.need;
        stage = waiting.stage;
        lasts = waiting.lasts;
        next = next_behind waiting.tag waiting.it reader waiting.next;
        knows = waiting.knows;
      }))

  pub held_noops : HoldsBack connection.stage → AreNoops (messages_to (master_of config) turned.outs)
  held_noops holds = subst (λ (t : Turned). AreNoops (messages_to (master_of config) t.outs)) (sym (waits_all holds)) tt
