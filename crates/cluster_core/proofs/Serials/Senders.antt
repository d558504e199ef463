-- What clients send in the steps of a run, byte by byte: of each connection as much as was heard of it, and of all together what the steps bring.
use Rattle.std.proofs.Common.{◌≡◌, ℕ, ◌+◌, ◌*◌, ◌≤◌, Bool, true, false, cond, nat_eq, List, [], ◌∷◌, ◌++◌, length, map, refl, ap, arith, length-append}
use Rattle.std.proofs.lemmas.Bool.Decides.{nat_tests}
use Rattle.imap_talk.proofs.RequestsOf.{requests_of}
use Rattle.imap_talk.specs.Heard.{Heard, nobody, elsewhere, client, frames_heard}
use Rattle.imap_talk.specs.Inputs.{inputs_of, requests_in}
use Rattle.mur_config.specs.declared.config.Config.{Config}
use Rattle.mur_model.specs.declared.setting.Setting.{Setting}
use Rattle.schedule_text.specs.Brings.{bytes_brought, bytes_of_all}
use Rattle.schedule_text.specs.declared.event.Event.{Event}
use Rattle.schedule_text.specs.declared.event.Event.TheVariants.{Open, Data, Hang}
use Rattle.cluster_core.specs.Heard.{heard, heard_first, heard_from, hears, is_frontend, of_client, opened_at}
use Rattle.cluster_core.proofs.Serials.Counting.{times, times_joined}
use Rattle.cluster_core.proofs.Serials.Lines.{two_bytes_each}
use Rattle.cluster_core.proofs.Starts.Ups.{one_if}

-- the connection of each byte that an event brings
abbrev senders_of : Event → List ℕ
senders_of (Data conn bytes) = map (λ (byte : ℕ). conn) bytes
senders_of event = []

pub senders : List Event → List ℕ
senders [] = []
senders (event ∷ events) = senders_of event ++ senders events

-- ---- of all

alike_many : (conn : ℕ) (bytes : List ℕ) → length (map (λ (byte : ℕ). conn) bytes) ≡ length bytes
alike_many conn [] = refl
alike_many conn (byte ∷ bytes) = omega (arith, alike_many conn bytes)

event_many : (event : Event) → length (senders_of event) ≡ bytes_brought event
unfolding bytes_brought
event_many (Data conn bytes) = alike_many conn bytes
event_many event = refl

pub senders_many : (events : List Event) → length (senders events) ≡ bytes_of_all events
unfolding senders bytes_of_all
senders_many [] = refl
senders_many (event ∷ events) = omega (arith, length-append (senders_of event) (senders events), event_many event, senders_many events)

-- ---- of one connection

alike_times : (n conn : ℕ) (bytes : List ℕ) (same : Bool) → nat_eq conn n ≡ same → times n (map (λ (byte : ℕ). conn) bytes) ≡ cond same (length bytes) 0
unfolding times
alike_times n conn [] true e = refl
alike_times n conn [] false e = refl
alike_times n conn (byte ∷ bytes) true e = omega (arith, ap one_if e, alike_times n conn bytes true e)
alike_times n conn (byte ∷ bytes) false e = omega (arith, ap one_if e, alike_times n conn bytes false e)

-- how many bytes came
pub bytes_in : Heard → ℕ
bytes_in nobody = 0
bytes_in elsewhere = 0
bytes_in (client bytes closed) = length bytes

module _ (config : Config) (conn : ℕ) where
  opened_few : (at_front : Bool) → bytes_in (opened_at at_front) ≤ 0
  unfolding bytes_in
  opened_few true = omega arith
  opened_few false = omega arith

  first_by : (node : List ℕ) (same : Bool) → bytes_in (cond same (opened_at (is_frontend config node)) nobody) ≤ 0
  unfolding bytes_in
  first_by node true = opened_few (is_frontend config node)
  first_by node false = omega arith

  first_few : (event : Event) → bytes_in (heard_first config conn event) ≤ 0
  unfolding bytes_in
  first_few (Open node other) = first_by node (nat_eq conn other)
  first_few event = omega arith

  data_few : (bytes more : List ℕ) (other : ℕ) (same : Bool) → nat_eq conn other ≡ same
      → bytes_in (cond same (client (bytes ++ more) false) (client bytes false)) ≤ length bytes + times conn (map (λ (byte : ℕ). other) more)
  unfolding bytes_in
  data_few bytes more other true e =
      let its : nat_eq other conn ≡ true = grind (arith, nat_tests) in omega (arith, length-append bytes more, alike_times conn other more true its)
  data_few bytes more other false e = omega arith

  hang_few : (bytes : List ℕ) (same : Bool) → bytes_in (cond same (client bytes true) (client bytes false)) ≤ length bytes
  unfolding bytes_in
  hang_few bytes true = omega arith
  hang_few bytes false = omega arith

  client_few : (bytes : List ℕ) (event : Event) → bytes_in (of_client conn bytes event) ≤ length bytes + times conn (senders_of event)
  unfolding bytes_in times
  client_few bytes (Data other more) = data_few bytes more other (nat_eq conn other) refl
  client_few bytes (Hang other) = omega (arith, hang_few bytes (nat_eq conn other))
  client_few bytes event = omega arith

  event_few : (came : Heard) (event : Event) → bytes_in (hears config conn came event) ≤ bytes_in came + times conn (senders_of event)
  unfolding hears bytes_in
  event_few nobody event = omega (arith, first_few event)
  event_few elsewhere event = omega arith
  event_few (client bytes true) event = omega arith
  event_few (client bytes false) event = client_few bytes event

  from_few : (came : Heard) (events : List Event) → bytes_in (heard_from config conn came events) ≤ bytes_in came + times conn (senders events)
  unfolding heard_from senders
  from_few came [] = omega arith
  from_few came (event ∷ events) =
      omega (arith, from_few (hears config conn came event) events, event_few came event, times_joined conn (senders_of event) (senders events))

-- ---- a client's commands

asked_few : (setting : Setting) (came : Heard) → 2 * length (requests_of setting (frames_heard came)) ≤ bytes_in came
unfolding frames_heard bytes_in inputs_of requests_in
asked_few setting nobody = omega arith
asked_few setting elsewhere = omega arith
asked_few setting (client bytes closed) = two_bytes_each setting bytes

-- EACH CONNECTION HAS A COMMAND FOR TWO BYTES AT MOST
pub commands_few : (config : Config) (setting : Setting) (conn : ℕ) (events : List Event)
    → 2 * length (requests_of setting (frames_heard (heard config conn events))) ≤ times conn (senders events)
unfolding bytes_in
commands_few config setting conn events = omega (arith, asked_few setting (heard config conn events), from_few config conn nobody events)
