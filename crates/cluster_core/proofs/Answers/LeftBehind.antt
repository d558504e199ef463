-- A command whose client is told of it, while its barrier is asked or gone with the link: the next command of its connection is nowhere, whatever is left of this
-- one.
use Rattle.std.proofs.Common.{◌≡◌, ℕ, ◌+◌, Bool, true, false, cond, List, [], ◌∷◌, filter, None, Some, refl, sym, ◌∙◌, ap, arith}
use Rattle.feed_core.specs.declared.replica.Replica.{Replica}
use Rattle.ask_routes.specs.Barrier.{noop_line}
use Rattle.front_core.proofs.OneConnection.Places.{About, IsPlaced, about_of, earlier_on, is_about, is_over, later_none, line_over, of_connection, on_of, over_about, own_about}
use Rattle.link_msg.specs.declared.message.LinkMsg.{LinkMsg}
use Rattle.link_queue.proofs.Placed.{Carried}
use Rattle.link_queue.specs.Links.{Links, on_link, same_link}
use Rattle.many_links.specs.Murder.{Nodes}
use Rattle.mur_base.specs.declared.point.AskId.{AskId}
use Rattle.route_links.proofs.Tags.{noop_tells}
use Rattle.route_links.specs.Answered.{IsNumbered, noop_of}
use Rattle.route_links.specs.Barriers.{Place as Barrier, Place as barrier}
use Rattle.cluster_core.proofs.Commands.InPlace.{IsInPlace}
use Rattle.cluster_core.proofs.Commands.Place.{barrier_carried, Place as place}
use Rattle.cluster_core.proofs.Connections.Nowhere.{all_of_others}

-- the master's OK isn't on its way
abbrev pub IsUnanswered : Barrier → Type 0
IsUnanswered barrier.nowhere = Unit {0}
IsUnanswered barrier.asked = Unit {0}
IsUnanswered (barrier.answered table) = ⊥

-- ---- of one kind, and of one within it

module _ {M : Type 0} (wide narrow : M → Bool) (within : (x : M) → narrow x ≡ true → wide x ≡ true) where
  narrow_by : (x : M) (list : List M) (one other : Bool) → narrow x ≡ one → wide x ≡ other → filter narrow (filter wide list) ≡ filter narrow list
      → filter narrow (filter wide (x ∷ list)) ≡ filter narrow (x ∷ list)
  narrow_by x list one true e h more = rw h (ap (λ l. cond (narrow x) (x ∷ l) l) more)
  narrow_by x list true false e h more = (let no : true ≡ false = sym (within x e) ∙ h in cc)
  narrow_by x list false false e h more = rw (h, e) more

  narrow_parts : (list : List M) → filter narrow (filter wide list) ≡ filter narrow list
  narrow_parts [] = refl
  narrow_parts (x ∷ list) = narrow_by x list (narrow x) (wide x) refl refl (narrow_parts list)

one_less : {M : Type 0} (is : M → Bool) (x : M) (same : Bool) → is x ≡ false → filter is (cond same (x ∷ []) []) ≡ []
one_less is x true e = rw e refl
one_less is x false e = refl

-- the one message that is about them is of a command that is over from the next number on
over_none : (first : ℕ) (whom : About) (links : Links LinkMsg) (it : Carried LinkMsg) → is_over (first + 1) it.message ≡ true → IsPlaced first whom links (Some it)
    → IsPlaced (first + 1) whom links None
over_none first whom links it over placed = λ a b.
    sym (narrow_parts (is_about first whom) (is_about (first + 1) whom)
    (λ message e. own_about first whom message (about_of (first + 1) whom message e)
    (earlier_on first (first + 1) message (omega arith) (on_of (first + 1) whom message e)))
    (on_link links a b))
    ∙ ap (filter (is_about (first + 1) whom)) (placed a b)
    ∙ one_less (is_about (first + 1) whom) it.message (same_link a b it.from it.to) (over_about (first + 1) whom it.message over)

-- ---- the next command

module _ (master : List ℕ) (nodes : Nodes) (links : Links LinkMsg) (front : List ℕ) (replica : Replica) (id : AskId) (numbered : IsNumbered id) where
  abbrev next : AskId
  next = record { conn = id.conn; command = id.command + 1 }

  none_behind : (at : Barrier) → IsUnanswered at → IsPlaced id.command (of_connection id.conn) links (barrier_carried master front id at)
      → IsPlaced (id.command + 1) (of_connection id.conn) links None
  none_behind barrier.nowhere left placed = later_none id.command (id.command + 1) (of_connection id.conn) links (omega arith) placed
  none_behind barrier.asked left placed =
      over_none id.command (of_connection id.conn) links (record { from = front; to = master; message = noop_of id })
      (line_over (id.command + 1) (noop_line id) id (noop_tells id numbered) (omega arith)) placed
  none_behind (barrier.answered table) left placed = absurd left

  pub over_behind : (at : Barrier) → IsUnanswered at → IsInPlace master nodes links front replica id (place.is_barred at)
      → IsInPlace master nodes links front replica next place.nowhere
  over_behind at left is =
      let none = none_behind at left is.message in
      record {
        message = none;
        shows = is.shows;
        barrier = record {
          up_others = all_of_others next (on_link links front master) (none front master);
          down_others = all_of_others next (on_link links master front) (none master front);
        };
        there = tt;
      }
