-- The numbers of a run fit behind each of its steps, where those of its events do: a flow's deliveries bring nothing, so clients send what the events bring.
use Rattle.std.proofs.Common.{◌≡◌, ℕ, zero, suc, ◌+◌, ◌≤◌, ◌<◌, ◌^◌, ◌==◌, nat_eq, Bool, true, false, if◌then◌else◌, List, [], ◌∷◌, ◌++◌, length, refl, ap, subst}
use Rattle.std.proofs.Common.{arith, length-append}
use Rattle.std.specs.List.{AllByRecursion}
use Rattle.std.proofs.lemmas.Bool.Decides.{nat_tests}
use Rattle.imap_talk.specs.Heard.{Heard, nobody, elsewhere, client}
use Rattle.link_msg.specs.declared.message.LinkMsg.{LinkMsg}
use Rattle.link_queue.specs.Links.{on_link}
use Rattle.mur_config.specs.declared.config.Config.{Config}
use Rattle.mur_config.specs.declared.node.Link.{Link}
use Rattle.schedule_text.specs.Brings.{bytes_brought, bytes_of_all}
use Rattle.schedule_text.specs.ScheduleFits.{HasConnNumber}
use Rattle.schedule_text.specs.declared.event.Event.{Event}
use Rattle.schedule_text.specs.declared.event.Event.TheVariants.{Open, Data, Hang, Deliver, Join, Flow, Heal}
use Rattle.cluster_core.specs.declared.layout.Layout.{Layout}
use Rattle.cluster_core.specs.declared.world.World.{World}
use Rattle.cluster_core.specs.Flow.{Flowing, Healing, heal, heal_by, heal_link, heal_links, flow, happens, round, rounds, rounds_by, steps_of_event, turn_by, turn_of_link, unrolled}
use Rattle.cluster_core.specs.Heard.{heard, heard_first, heard_from, hears, is_frontend, of_client, opened_at}
use Rattle.cluster_core.specs.World.{may_join}
use Rattle.cluster_core.specs.Numbers.{HeardFits, NumbersFitAll}

-- ---- what a flow's deliveries bring

bytes_joined : (one other : List Event) → bytes_of_all (one ++ other) ≡ bytes_of_all one + bytes_of_all other
unfolding bytes_of_all
bytes_joined [] other = omega arith
bytes_joined (event ∷ one) other = omega (arith, bytes_joined one other)

module _ (P : Event → Type 0) where
  each_joined : (one other : List Event) → AllByRecursion P one → AllByRecursion P other → AllByRecursion P (one ++ other)
  each_joined [] other all more = more
  each_joined (event ∷ one) other all more = (all.0, each_joined one other all.1 more)

  each_first : (one other : List Event) → AllByRecursion P (one ++ other) → AllByRecursion P one
  each_first [] other all = tt
  each_first (event ∷ one) other all = (all.0, each_first one other all.1)

  -- so is each of these steps, and they bring at most so many bytes of clients
  record Fit (most : ℕ) (steps : List Event) : Type 0 where
    each : AllByRecursion P steps
    bytes : bytes_of_all steps ≤ most

  none_fit : Fit 0 []
  unfolding bytes_of_all
  none_fit = record { each = tt; bytes = omega arith }

  fit_joined : (m n : ℕ) (one other : List Event) → Fit m one → Fit n other → Fit (m + n) (one ++ other)
  fit_joined m n one other first second = record {
    each = each_joined one other first.each second.each;
    bytes = omega (arith, bytes_joined one other, first.bytes, second.bytes);
  }

  one_fits : (event : Event) → P event → Fit (bytes_brought event) (event ∷ [])
  unfolding bytes_of_all
  one_fits event is = record { each = (is, tt); bytes = omega arith }

  module _ (delivers : (from to : List ℕ) → P (Deliver from to)) (joins : (from to : List ℕ) → P (Join from to)) where
    pushed : (made : List Event) (from to : List ℕ) → Fit 0 made → Fit 0 (made ++ Deliver from to ∷ [])
    unfolding bytes_brought
    pushed made from to fit = fit_joined 0 0 made (Deliver from to ∷ []) fit (one_fits (Deliver from to) (delivers from to))

    turn_fits : (flowing : Flowing) (link : Link) (left : ℕ) (queue : List LinkMsg) → Fit 0 flowing.made → Fit 0 (turn_by flowing link left queue).made
    unfolding turn_by
    turn_fits flowing link zero queue fit = fit
    turn_fits flowing link (suc left) [] fit = fit
    turn_fits flowing link (suc left) (message ∷ queue) fit = pushed flowing.made link.from link.to fit

    round_fits : (links : List Link) (flowing : Flowing) → Fit 0 flowing.made → Fit 0 (round flowing links).made
    unfolding round turn_of_link
    round_fits [] flowing fit = fit
    round_fits (link ∷ links) flowing fit =
        round_fits links (turn_of_link flowing link)
        (turn_fits flowing link flowing.left (on_link flowing.world.links link.from link.to) fit)

    rounds_fit_by : (over : Bool) (next more : Flowing) → Fit 0 next.made → Fit 0 more.made → Fit 0 (rounds_by over next more).made
    unfolding rounds_by
    rounds_fit_by true next more one other = one
    rounds_fit_by false next more one other = other

    rounds_fit : (count : ℕ) (links : List Link) (flowing : Flowing) → Fit 0 flowing.made → Fit 0 (rounds count links flowing).made
    unfolding rounds
    rounds_fit zero links flowing fit = fit
    rounds_fit (suc count) links flowing fit =
        let next = round flowing links in
        let fits = round_fits links flowing fit in
        rounds_fit_by (next.left == flowing.left) next (rounds count links next) fits (rounds_fit count links next fits)

    -- and a heal's joins

    join_fits : (healing : Healing) (link : Link) (may : Bool) → Fit 0 healing.made → Fit 0 (heal_by may healing link).made
    unfolding heal_by bytes_brought
    join_fits healing link true fit =
        fit_joined 0 0 healing.made (Join link.from link.to ∷ []) fit (one_fits (Join link.from link.to) (joins link.from link.to))
    join_fits healing link false fit = fit

    joins_fit : (links : List Link) (healing : Healing) → Fit 0 healing.made → Fit 0 (heal_links healing links).made
    unfolding heal_links heal_link
    joins_fit [] healing fit = fit
    joins_fit (link ∷ links) healing fit =
        joins_fit links (heal_link healing link) (join_fits healing link (may_join healing.world link.from link.to) fit)

    -- the steps of events

    event_fits : (layout : Layout) (world : World) (event : Event) → P event → Fit (bytes_brought event) (steps_of_event layout world event)
    unfolding steps_of_event flow heal bytes_brought
    event_fits layout world (Flow count) is = rounds_fit count layout.pairs (record { world = world; made = []; left = count }) none_fit
    event_fits layout world Heal is = joins_fit layout.pairs (record { world = world; made = [] }) none_fit
    event_fits layout world event is = one_fits event is

    unrolled_fit : (layout : Layout) (world : World) (events : List Event) → AllByRecursion P events
        → Fit (bytes_of_all events) (unrolled layout world events)
    unfolding unrolled bytes_of_all
    unrolled_fit layout world [] all = none_fit
    unrolled_fit layout world (event ∷ events) all =
        fit_joined (bytes_brought event) (bytes_of_all events) (steps_of_event layout world event) (unrolled layout (happens layout world event) events)
        (event_fits layout world event all.0) (unrolled_fit layout (happens layout world event) events all.1)

-- the steps of events bring no more bytes of clients than the events
any_events : (events : List Event) → AllByRecursion (λ (event : Event). Unit {0}) events
any_events [] = tt
any_events (event ∷ events) = (tt, any_events events)

pub bytes_of_steps : (layout : Layout) (world : World) (events before later : List Event) → unrolled layout world events ≡ before ++ later
    → bytes_of_all before ≤ bytes_of_all events
bytes_of_steps layout world events before later parts =
    let fit = unrolled_fit (λ (event : Event). Unit {0}) (λ from to. tt) (λ from to. tt) layout world events (any_events events) in
    omega (arith, fit.bytes, ap bytes_of_all parts, bytes_joined before later)

-- ---- what is heard

abbrev Within : ℕ → ℕ → Heard → Type 0
Within conn most nobody = Unit {0}
Within conn most elsewhere = Unit {0}
Within conn most (client bytes closed) = (conn < 2 ^ 64) × (length bytes ≤ most)

opened_within : (conn most : ℕ) (at_front : Bool) → conn < 2 ^ 64 → Within conn most (opened_at at_front)
opened_within conn most true number = (number, omega arith)
opened_within conn most false number = tt

first_within : (config : Config) (conn most : ℕ) (node : List ℕ) (other : ℕ) (same : Bool) → nat_eq conn other ≡ same → other < 2 ^ 64
    → Within conn most (if same then opened_at (is_frontend config node) else nobody)
first_within config conn most node other true e number =
    opened_within conn most (is_frontend config node) (let is : conn ≡ other = grind (arith, nat_tests) in omega (arith, is, number))
first_within config conn most node other false e number = tt

sends_within : (conn most : ℕ) (bytes more : List ℕ) (same : Bool) → Within conn most (client bytes false)
    → Within conn (most + length more) (if same then client (bytes ++ more) false else client bytes false)
sends_within conn most bytes more true fit = (fit.0, omega (arith, length-append bytes more, fit.1))
sends_within conn most bytes more false fit = (fit.0, omega (arith, fit.1))

hangs_within : (conn most : ℕ) (bytes : List ℕ) (same : Bool) → Within conn most (client bytes false)
    → Within conn (most + 0) (if same then client bytes true else client bytes false)
hangs_within conn most bytes true fit = (fit.0, omega (arith, fit.1))
hangs_within conn most bytes false fit = (fit.0, omega (arith, fit.1))

more_within : (conn most more : ℕ) (came : Heard) → Within conn most came → Within conn (most + more) came
more_within conn most more nobody fit = tt
more_within conn most more elsewhere fit = tt
more_within conn most more (client bytes closed) fit = (fit.0, omega (arith, fit.1))

nobody_within : (config : Config) (conn most : ℕ) (event : Event) → HasConnNumber event → Within conn (most + bytes_brought event) (heard_first config conn event)
nobody_within config conn most (Open node other) number = first_within config conn (most + bytes_brought (Open node other)) node other (conn == other) refl number
nobody_within config conn most event number = tt

client_within : (conn most : ℕ) (bytes : List ℕ) (event : Event) → Within conn most (client bytes false)
    → Within conn (most + bytes_brought event) (of_client conn bytes event)
unfolding bytes_brought
client_within conn most bytes (Data other more) fit = sends_within conn most bytes more (conn == other) fit
client_within conn most bytes (Hang other) fit = hangs_within conn most bytes (conn == other) fit
client_within conn most bytes event fit = more_within conn most (bytes_brought event) (client bytes false) fit

hears_within : (config : Config) (conn most : ℕ) (came : Heard) (event : Event) → HasConnNumber event → Within conn most came
    → Within conn (most + bytes_brought event) (hears config conn came event)
unfolding hears
hears_within config conn most nobody event number fit = nobody_within config conn most event number
hears_within config conn most elsewhere event number fit = tt
hears_within config conn most (client bytes true) event number fit = more_within conn most (bytes_brought event) (client bytes true) fit
hears_within config conn most (client bytes false) event number fit = client_within conn most bytes event fit

heard_within : (config : Config) (conn most : ℕ) (came : Heard) (events : List Event) → AllByRecursion HasConnNumber events → Within conn most came
    → Within conn (most + bytes_of_all events) (heard_from config conn came events)
unfolding heard_from bytes_of_all
heard_within config conn most came [] all fit = more_within conn most 0 came fit
heard_within config conn most came (event ∷ events) all fit =
    subst (λ n. Within conn n (heard_from config conn (hears config conn came event) events)) (omega arith)
    (heard_within config conn (most + bytes_brought event) (hears config conn came event) events all.1 (hears_within config conn most came event all.0 fit))

fits_by : (conn most : ℕ) (came : Heard) → most < 2 ^ 32 → Within conn most came → HeardFits conn came
fits_by conn most nobody small fit = tt
fits_by conn most elsewhere small fit = tt
fits_by conn most (client bytes closed) small fit = (fit.0, omega (arith, small, fit.1))

-- ---- a run

steps_fit : (config : Config) (steps : List Event) (most : ℕ) → Fit HasConnNumber most steps → most < 2 ^ 32 → NumbersFitAll config steps
steps_fit config steps most fit small before later parts conn =
    let all = subst (AllByRecursion HasConnNumber) parts fit.each in
    let less : bytes_of_all before ≤ most = omega (arith, fit.bytes, bytes_joined before later, ap bytes_of_all parts) in
    fits_by conn (0 + bytes_of_all before) (heard config conn before) (omega (arith, less, small))
    (heard_within config conn 0 nobody before (each_first HasConnNumber before later all) tt)

pub numbers_fit : (config : Config) (layout : Layout) (world : World) (events : List Event) → AllByRecursion HasConnNumber events → bytes_of_all events < 2 ^ 32
    → NumbersFitAll config (unrolled layout world events)
numbers_fit config layout world events all small =
    steps_fit config (unrolled layout world events) (bytes_of_all events) (unrolled_fit HasConnNumber (λ from to. tt) (λ from to. tt) layout world events all) small
