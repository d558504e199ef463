-- What is known of a command whose message is gone with a link: one in an ask or in an answer is dropped, and of a barrier nothing is on its way any more. A reply
-- whose OK is gone was never told.
use Rattle.std.proofs.Common.{◌≡◌, ℕ, true, List, [], ◌∷◌, ◌++◌, Option, refl, sym, ◌∙◌, ap, subst, arith, append-nil}
use Rattle.asking_core.specs.declared.waiting.At.{At}
use Rattle.asking_core.specs.declared.waiting.At.TheVariants.{Home, Barrier as at_master}
use Rattle.feed_links.proofs.Names.{same_name}
use Rattle.front_core.specs.Stages.{awaits, waits_at}
use Rattle.front_core.specs.declared.connection.Connection.{Connection}
use Rattle.imap_talk.specs.declared.inputs.Input.{Input}
use Rattle.imap_types.specs.declared.command.Tag.{Tag}
use Rattle.imap_types.specs.declared.request.Answer.{Answer}
use Rattle.imap_types.specs.declared.request.Request.{Request}
use Rattle.link_msg.specs.declared.answer.BackAnswer.{BackAnswer}
use Rattle.link_msg.specs.declared.ask.FrontAsk.{FrontAsk}
use Rattle.mur_model.specs.declared.commands.list.Listing.{Listing}
use Rattle.mur_model.specs.declared.session.Sess.{Sess}
use Rattle.mur_model.specs.declared.session.Turn.{Turn}
use Rattle.node_record.specs.Table.{MailboxTable}
use Rattle.point_links.specs.Commands.{ClientCommand}
use Rattle.route_links.specs.Barriers.{Place as Barrier, Place as barrier}
use Rattle.cluster_core.proofs.Commands.Knows.{Knows, KnowsNames, listed_by, tells_of_barrier}
use Rattle.cluster_core.proofs.Commands.Place.{Place, Place as place}
use Rattle.cluster_core.proofs.Commands.Standing.{Fixed, IsLeft, Lists, Stands, Waiting, WaitsAt}

-- ---- one in an ask or in an answer

-- it still waits
pub data IsCarriedBetween (server : List ℕ) : Place → Type 0 where
  in_ask : (ask : FrontAsk) → IsCarriedBetween server (place.is_asked server ask)
  in_answer : (answer : BackAnswer) → IsCarriedBetween server (place.is_answered server answer)

dropped_knows : (master first front : List ℕ) (c : ClientCommand) (tag : Tag) (told said : List Answer) (session : Sess) (server : List ℕ) (here : Place)
    → IsCarriedBetween server here → Knows master first front c tag told said session here → Knows master first front c tag told said session (place.is_dropped server)
dropped_knows master first front c tag told said session server here is (Knows.undecided same was other) = Knows.undecided same was tt
dropped_knows master first front c tag told said session server here is (Knows.is_decided turn replied session_is ends brings) =
    Knows.is_decided turn replied session_is ends tt

-- it is nowhere else
not_carried : (server : List ℕ) (here other : Place) → IsCarriedBetween server here → here ≡ other → IsCarriedBetween server other
not_carried server here other is e = subst (IsCarriedBetween server) e is

none_nowhere : (server : List ℕ) → IsCarriedBetween server place.nowhere → ⊥
none_nowhere server is = elim is [ ]

none_barred : (server : List ℕ) (at : Barrier) → IsCarriedBetween server (place.is_barred at) → ⊥
none_barred server at is = elim is [ ]

no_list : (tag : Tag) (it : Listing) (was : Sess) (told said : List Answer) (session : Sess) (server : List ℕ) (here : Place) → IsCarriedBetween server here
    → KnowsNames tag it was told said session here → ⊥
no_list tag it was told said session server here is (KnowsNames.not_yet same session_is at) =
    none_barred server barrier.asked (not_carried server here (place.is_barred barrier.asked) is at)
no_list tag it was told said session server here is (KnowsNames.is_gone same session_is at) =
    none_barred server barrier.nowhere (not_carried server here (place.is_barred barrier.nowhere) is at)
no_list tag it was told said session server here is (KnowsNames.is_listed table same session_is at) =
    none_barred server (barrier.answered table) (not_carried server here (place.is_barred (barrier.answered table)) is at)

waits_there : (at : At) (server : List ℕ) (here : Place) → IsCarriedBetween server here → WaitsAt at here → WaitsAt at (place.is_dropped server)
waits_there at server here (in_ask ask) is = is
waits_there at server here (in_answer answer) is = is

module _ (fixed : Fixed) (front : List ℕ) (conn : ℕ) (told said : List Answer) (session : Sess) (server : List ℕ) (here : Place) (between : IsCarriedBetween server here) where
  waits_dropped : (inputs : List Input) (held : Option (List ℕ)) (connection : Connection)
      → Waiting fixed front conn inputs held connection told said session here
      → Waiting fixed front conn inputs held connection told said session (place.is_dropped server)
  waits_dropped inputs held connection waiting = record {
    passed = waiting.passed;
    request = waiting.request;
    tag = waiting.tag;
    c = waiting.c;
    of = waiting.of;
    stage = waiting.stage;
    at = waits_there (waiting.c).waiting.at server here between waiting.at;
    parts = waiting.parts;
    lasts = waiting.lasts;
    answered = waiting.answered;
    is = waiting.is;
    last = waiting.last;
    knows = dropped_knows fixed.master fixed.first front waiting.c waiting.tag told said session server here between waiting.knows;
  }

  -- a command that waits is dropped
  pub stands_dropped : (inputs : List Input) (held : Option (List ℕ)) (connection : Connection)
      → Stands fixed front conn inputs held connection told said session here
      → Stands fixed front conn inputs held connection told said session (place.is_dropped server)
  stands_dropped inputs held connection (Stands.waits waiting) = Stands.waits (waits_dropped inputs held connection waiting)
  stands_dropped inputs held connection (Stands.lists listing) =
      absurd (no_list listing.tag listing.listing connection.session told said session server here between listing.knows)
  stands_dropped inputs held connection (Stands.reads a b c d e f at) = absurd (none_nowhere server (not_carried server here place.nowhere between at))
  stands_dropped inputs held connection (Stands.faulted a b c d e at) = absurd (none_nowhere server (not_carried server here place.nowhere between at))
  stands_dropped inputs held connection (Stands.finished passed more request before last a b c d e f at) =
      absurd (none_nowhere server (not_carried server here place.nowhere between at))

-- ---- one of a connection that has ended leaves nothing, wherever it was

module _ (fixed : Fixed) (front : List ℕ) (conn : ℕ) (requests : List Request) (told said : List Answer) (session : Sess) (here : Place) where
  left_by : (c : ClientCommand) (tag : Tag) → Knows fixed.master fixed.first front c tag told said session here
      → IsLeft fixed front conn requests told said session place.nowhere
  left_by c tag (Knows.undecided same was other) = IsLeft.nothing [] (same ∙ sym (append-nil told)) (omega arith) refl
  left_by c tag (Knows.is_decided turn replied session_is ends brings) =
      IsLeft.nothing ((record { tag = tag; reply = turn.reply }) ∷ []) replied (omega arith) refl

  list_left : (tag : Tag) (it : Listing) (was : Sess) → KnowsNames tag it was told said session here → IsLeft fixed front conn requests told said session place.nowhere
  list_left tag it was (KnowsNames.not_yet same session_is at) = IsLeft.nothing [] (same ∙ sym (append-nil told)) (omega arith) refl
  list_left tag it was (KnowsNames.is_gone same session_is at) = IsLeft.nothing [] (same ∙ sym (append-nil told)) (omega arith) refl
  list_left tag it was (KnowsNames.is_listed table replied session_is at) = IsLeft.nothing (listed_by tag it table ∷ []) replied (omega arith) refl

  pub left_nowhere : IsLeft fixed front conn requests told said session here → IsLeft fixed front conn requests told said session place.nowhere
  left_nowhere (IsLeft.nothing rest e le at) = IsLeft.nothing rest e le refl
  left_nowhere (IsLeft.left_waiting waiting) = left_by waiting.c waiting.tag waiting.knows
  left_nowhere (IsLeft.left_listing listing) = list_left listing.tag listing.listing listing.was listing.knows

-- ---- one at its barrier

-- it waits for the master
master_waits : (master : List ℕ) (at : At) (here : Barrier) → WaitsAt at (place.is_barred here) → waits_at master at master ≡ true
master_waits master (Home server) here is = absurd is
master_waits master (at_master why) here is = same_name master

pub barred_waits : (fixed : Fixed) (front : List ℕ) (conn : ℕ) (inputs : List Input) (held : Option (List ℕ)) (connection : Connection) (told said : List Answer)
    (session : Sess) (here : Place) (at : Barrier) → here ≡ place.is_barred at → Stands fixed front conn inputs held connection told said session here
    → awaits fixed.master connection.stage fixed.master ≡ true
unfolding awaits
barred_waits fixed front conn inputs held connection told said session here at e (Stands.waits waiting) =
    ap (λ s. awaits fixed.master s fixed.master) waiting.stage
    ∙ master_waits fixed.master waiting.c.waiting.at at (subst (WaitsAt waiting.c.waiting.at) e waiting.at)
barred_waits fixed front conn inputs held connection told said session here at e (Stands.lists listing) =
    ap (λ s. awaits fixed.master s fixed.master) listing.stage ∙ same_name fixed.master
barred_waits fixed front conn inputs held connection told said session here at e (Stands.reads a b c d f g none) =
    (let no : place.is_barred at ≡ place.nowhere = sym e ∙ none in cc)
barred_waits fixed front conn inputs held connection told said session here at e (Stands.faulted a b c d f none) =
    (let no : place.is_barred at ≡ place.nowhere = sym e ∙ none in cc)
barred_waits fixed front conn inputs held connection told said session here at e (Stands.finished passed more request before last a b c d f g none) =
    (let no : place.is_barred at ≡ place.nowhere = sym e ∙ none in cc)

-- nothing of its barrier is on its way any more: it had no reply; or its reply, of which the client wasn't told, is taken back
pub data Unbarred (fixed : Fixed) (front : List ℕ) (conn : ℕ) (inputs : List Input) (held : Option (List ℕ)) (connection : Connection) (told said : List Answer)
    (session : Sess) (here : Place) : Type 0 where
  no_reply : Stands fixed front conn inputs held connection told said session (place.is_barred barrier.nowhere)
      → Unbarred fixed front conn inputs held connection told said session here
  taken_back : (answer : Answer) (table : MailboxTable) → here ≡ place.is_barred (barrier.answered table) → said ≡ told ++ answer ∷ []
      → Stands fixed front conn inputs held connection told told connection.session (place.is_barred barrier.nowhere)
      → Unbarred fixed front conn inputs held connection told said session here

waits_unbarred : (at : At) (here : Barrier) → WaitsAt at (place.is_barred here) → WaitsAt at (place.is_barred barrier.nowhere)
waits_unbarred (Home server) here is = is
waits_unbarred (at_master why) here is = is

module _ (fixed : Fixed) (front : List ℕ) (conn : ℕ) (inputs : List Input) (held : Option (List ℕ)) (connection : Connection) (told said : List Answer)
    (session : Sess) where
  -- it waits for the OK that won't come, and the store has replied so much
  still_waits : (at : Barrier) (also : List Answer) (then : Sess) (waiting : Waiting fixed front conn inputs held connection told said session (place.is_barred at))
      → also ≡ told → waiting.c.was ≡ then → Waiting fixed front conn inputs held connection told also then (place.is_barred barrier.nowhere)
  still_waits at also then waiting none was = record {
    passed = waiting.passed;
    request = waiting.request;
    tag = waiting.tag;
    c = waiting.c;
    of = waiting.of;
    stage = waiting.stage;
    at = waits_unbarred waiting.c.waiting.at at waiting.at;
    parts = waiting.parts;
    lasts = waiting.lasts;
    answered = waiting.answered;
    is = waiting.is;
    last = waiting.last;
    knows = Knows.undecided none was tt;
  }

  still_lists : (at : Barrier) (also : List Answer) (then : Sess) (listing : Lists fixed inputs held connection told said session (place.is_barred at))
      → also ≡ told → connection.session ≡ then → Lists fixed inputs held connection told also then (place.is_barred barrier.nowhere)
  still_lists at also then listing none was = record {
    tag = listing.tag;
    it = listing.it;
    listing = listing.listing;
    need = listing.need;
    stage = listing.stage;
    lasts = listing.lasts;
    next = listing.next;
    knows = KnowsNames.is_gone none was refl;
  }

  Goes : Place → Type 0
  Goes here = Unbarred fixed front conn inputs held connection told said session here

  decided_goes : (at : Barrier) (waiting : Waiting fixed front conn inputs held connection told said session (place.is_barred at)) (turn : Turn)
      → said ≡ told ++ (record { tag = waiting.tag; reply = turn.reply }) ∷ [] → tells_of_barrier fixed.master fixed.first waiting.c at turn → Goes (place.is_barred at)
  unfolding Goes
  decided_goes barrier.nowhere waiting turn replied brings = absurd brings
  decided_goes barrier.asked waiting turn replied brings = absurd brings
  decided_goes (barrier.answered table) waiting turn replied brings =
      taken_back (record { tag = waiting.tag; reply = turn.reply }) table refl replied
      (Stands.waits (still_waits (barrier.answered table) told connection.session waiting refl waiting.of.was_is))

  waiting_goes : (at : Barrier) (waiting : Waiting fixed front conn inputs held connection told said session (place.is_barred at))
      → Knows fixed.master fixed.first front waiting.c waiting.tag told said session (place.is_barred at) → Goes (place.is_barred at)
  unfolding Goes
  waiting_goes at waiting (Knows.undecided same was other) = no_reply (Stands.waits (still_waits at said session waiting same was))
  waiting_goes at waiting (Knows.is_decided turn replied session_is ends brings) = decided_goes at waiting turn replied brings

  listing_goes : (at : Barrier) (listing : Lists fixed inputs held connection told said session (place.is_barred at))
      → KnowsNames listing.tag listing.listing connection.session told said session (place.is_barred at) → Goes (place.is_barred at)
  unfolding Goes
  listing_goes at listing (KnowsNames.not_yet same was e) = no_reply (Stands.lists (still_lists at said session listing same was))
  listing_goes at listing (KnowsNames.is_gone same was e) = no_reply (Stands.lists (still_lists at said session listing same was))
  listing_goes at listing (KnowsNames.is_listed table replied was e) =
      taken_back (listed_by listing.tag listing.listing table) table e replied (Stands.lists (still_lists at told connection.session listing refl refl))

  pub unbarred : (at : Barrier) → Stands fixed front conn inputs held connection told said session (place.is_barred at)
      → Unbarred fixed front conn inputs held connection told said session (place.is_barred at)
  unfolding Goes
  unbarred at (Stands.waits waiting) = waiting_goes at waiting waiting.knows
  unbarred at (Stands.lists listing) = listing_goes at listing listing.knows
  unbarred at (Stands.reads a b c d f g none) = (let no : place.is_barred at ≡ place.nowhere = none in cc)
  unbarred at (Stands.faulted a b c d f none) = (let no : place.is_barred at ≡ place.nowhere = none in cc)
  unbarred at (Stands.finished passed more request before last a b c d f g none) = (let no : place.is_barred at ≡ place.nowhere = none in cc)
