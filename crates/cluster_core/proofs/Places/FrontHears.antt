-- What a frontend's link with the master makes of a barrier where the first message on it is taken: one that isn't the OK leaves it where it is, and an OK
-- tells no replica anything.
use Rattle.std.proofs.Common.{◌≡◌, ◌⊎◌, inl, inr, ℕ, Bool, true, false, cond, if◌then◌else◌, List, [], ◌∷◌, filter, Option, None, Some, refl, sym, ◌∙◌, ap, subst, arith}
use Rattle.ask_routes.proofs.BarrierLaw.{ok_tells_its_command}
use Rattle.ask_routes.specs.Barrier.{barrier_answered, ok_ask, ok_under}
use Rattle.feed_core.specs.declared.replica.Replica.{Replica}
use Rattle.feed_core.specs.Feed.{replica_after}
use Rattle.feed_core.specs.Stream.{heard, heard_by, is_update_tag}
use Rattle.feed_links.specs.Replicas.{IsNoNews, hears}
use Rattle.front_core.proofs.OneConnection.Places.{About, IsPlaced, about_command, about_of, is_about, line_on, of_connection, own_about}
use Rattle.link_msg.specs.declared.message.LinkMsg.{LinkMsg}
use Rattle.link_msg.specs.declared.message.LinkMsg.TheVariants.{Up, End, Line, Ask, Answer}
use Rattle.link_queue.proofs.Wires.{same_itself}
use Rattle.link_queue.specs.Links.{Links, on_link}
use Rattle.mupdate_codec.specs.Asks.{line_ask}
use Rattle.mupdate_codec.specs.Whole.{response_in}
use Rattle.mupdate_codec.specs.declared.command.MResponse.{MResponse}
use Rattle.mupdate_codec.specs.declared.command.MResponse.TheVariants as response
use Rattle.mupdate_codec.specs.declared.tag.Tag.{Tag}
use Rattle.mur_base.specs.declared.point.AskId.{AskId}
use Rattle.route_links.proofs.BarrierLaw.{hears_one}
use Rattle.route_links.specs.Answered.{IsNumbered, noop_of, ok_of}
use Rattle.route_links.specs.Barriers.{IsBarrierAt, IsOkOf, Place as Barrier, Place as barrier}
use Rattle.cluster_core.proofs.Nodes.Known.{no_update}
use Rattle.cluster_core.proofs.Commands.Place.{Place, at_barrier, its_message, Place as place}
use Rattle.cluster_core.proofs.Places.Numbered.{noop_numbered, ok_numbered}

-- ---- an OK is no news

under_ok : (tag : Tag) (it : MResponse) (told : AskId) → ok_under tag it ≡ Some told → is_update_tag tag ≡ false
under_ok tag (response.Ok text) told e = no_update tag told e
under_ok tag (response.No text) told e = cc
under_ok tag (response.Bad text) told e = cc
under_ok tag (response.Mailbox name place acl) told e = cc
under_ok tag (response.Reserve name place) told e = cc
under_ok tag (response.Delete name) told e = cc

read_by : (any : Replica) (told : AskId) (found : Option (Tag × MResponse)) → ok_ask found ≡ Some told → heard_by any found ≡ any
unfolding heard_by
read_by any told None e = cc
read_by any told (Some it) e = ap (λ b. if b then replica_after any it.1 else any) (under_ok it.0 it.1 told e)

-- whatever command it is of
pub an_ok_is_no_news : (bytes : List ℕ) (told : AskId) → barrier_answered bytes ≡ Some told → IsNoNews (Line bytes)
unfolding barrier_answered heard
an_ok_is_no_news bytes told e any = read_by any told (response_in bytes) e

-- ---- a barrier is where its message is

kept_holds : (is : LinkMsg → Bool) (queue more : List LinkMsg) (message : LinkMsg) → filter is queue ≡ message ∷ more → is message ≡ true
kept_holds is [] more message e = cc
kept_holds is (m ∷ queue) more message e = by (is m) refl (kept_holds is queue more message) e
  where
    by : (b : Bool) → is m ≡ b → (filter is queue ≡ message ∷ more → is message ≡ true) → cond b (m ∷ filter is queue) (filter is queue) ≡ message ∷ more
        → is message ≡ true
    by true h behind k = (let same : m ≡ message = cc in sym (ap is same) ∙ h)
    by false h behind k = behind k

-- what is found on a link is about them, and isn't over
pub found_about : (first : ℕ) (links : Links LinkMsg) (from to : List ℕ) (message : LinkMsg) (whom : About)
    → IsPlaced first whom links (Some (record { from = from; to = to; message = message })) → is_about first whom message ≡ true
found_about first links from to message whom placed =
    kept_holds (is_about first whom) (on_link links from to) [] message
    (placed from to ∙ ap (λ (b : Bool). cond b (message ∷ []) []) (same_itself from to))

-- ---- the message isn't the OK

-- the command of a place whose barrier is somewhere has numbers of 64 bits
numbered_there : (master front : List ℕ) (links : Links LinkMsg) (id : AskId) (here : Place)
    → IsPlaced id.command (of_connection id.conn) links (its_message master front id here) → (at_barrier here ≡ barrier.nowhere) ⊎ IsNumbered id
numbered_there master front links id place.nowhere placed = inl refl
numbered_there master front links id (place.is_asked server ask) placed = inl refl
numbered_there master front links id (place.is_answered server answer) placed = inl refl
numbered_there master front links id (place.is_dropped server) placed = inl refl
numbered_there master front links id (place.is_at me at) placed = inl refl
numbered_there master front links id (place.is_barred barrier.nowhere) placed = inl refl
numbered_there master front links id (place.is_barred barrier.asked) placed =
    inr (noop_numbered id id.conn
    (about_of id.command (of_connection id.conn) (noop_of id) (found_about id.command links front master (noop_of id) (of_connection id.conn) placed)))
numbered_there master front links id (place.is_barred (barrier.answered table)) placed =
    inr (ok_numbered id id.conn
    (about_of id.command (of_connection id.conn) (ok_of id) (found_about id.command links master front (ok_of id) (of_connection id.conn) placed)))

-- the OK of the command is about it
ok_is_about : (id : AskId) (bytes : List ℕ) → line_ask bytes ≡ Some id → is_about id.command (of_connection id.conn) (Line bytes) ≡ true
ok_is_about id bytes is =
    own_about id.command (of_connection id.conn) (Line bytes) (ap about_command is) (line_on id.command bytes id is (omega arith))

not_its_ok : (id : AskId) (message : LinkMsg) → is_about id.command (of_connection id.conn) message ≡ false → IsOkOf id message → ⊥
not_its_ok id (Line bytes) other ok = (let no : true ≡ false = sym (ok_is_about id bytes (ok_tells_its_command bytes id ok)) ∙ other in cc)
not_its_ok id Up other ok = ok
not_its_ok id End other ok = ok
not_its_ok id (Ask ask) other ok = ok
not_its_ok id (Answer answer) other ok = ok

past_by : (id : AskId) (at : Barrier) (up down : List LinkMsg) (message : LinkMsg) (replica : Replica) → (at ≡ barrier.nowhere) ⊎ IsNumbered id
    → (IsOkOf id message → ⊥) → IsBarrierAt id at up (message ∷ down) replica → IsBarrierAt id at up down (hears replica message)
past_by id at up down message replica (inl none) no_ok is =
    subst (λ a. IsBarrierAt id a up down (hears replica message)) (sym none)
    (nothing (subst (λ a. IsBarrierAt id a up (message ∷ down) replica) none is))
  where
    nothing : IsBarrierAt id barrier.nowhere up (message ∷ down) replica → IsBarrierAt id barrier.nowhere up down (hears replica message)
    nothing has = record { up_others = has.up_others; down_others = has.down_others.1 }
past_by id at up down message replica (inr numbered) no_ok is = hears_one id at up down message replica numbered no_ok is

-- a message that isn't about the command leaves the barrier where it is
pub heard_past : (master front : List ℕ) (links : Links LinkMsg) (id : AskId) (here : Place) (up down : List LinkMsg) (message : LinkMsg)
    (replica : Replica) → is_about id.command (of_connection id.conn) message ≡ false
    → IsPlaced id.command (of_connection id.conn) links (its_message master front id here)
    → IsBarrierAt id (at_barrier here) up (message ∷ down) replica → IsBarrierAt id (at_barrier here) up down (hears replica message)
heard_past master front links id here up down message replica other placed is =
    past_by id (at_barrier here) up down message replica (numbered_there master front links id here placed) (not_its_ok id message other) is
