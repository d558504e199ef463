-- What more bytes bring is what they bring behind all bytes of the connection.
use Rattle.std.proofs.Common.{◌≡◌, ℕ, ◌≤◌, false, true, List, [], ◌∷◌, ◌++◌, length, take, drop, Option, None, Some, refl, sym}
use Rattle.std.proofs.Common.{◌∙◌, ap, arith, append_assoc, length-append}
use Rattle.std.proofs.lemmas.List.{append-nil, take-append-drop}
use Rattle.std.specs.Option.{option_to_list}
use Rattle.imap_wire.specs.declared.frame.Frame.{Frame}
use Rattle.imap_wire.specs.Frames.{frames, begun}
use Rattle.imap_wire.specs.Feeding.{GivesFrame}
use Rattle.imap_wire.specs.More.{frames_of_more, begun_by_more}
use Rattle.imap_wire.specs.Steps.{State, start_state, step, given, state_after, begun_bytes, IsReached}
use Rattle.imap_wire.proofs.FeedLaws.{IsReached-after, IsReached-start, frames-past, begun-past, frames-ended, begun-ended, frames-given}

-- the state at which a connection stands, by the bytes of the command that has begun
pub record Stands (past bytes : List ℕ) : Type 0 where
  pub state : State
  pub here : state_after start_state past ≡ state
  pub own : state_after start_state bytes ≡ state

going : (s : State) (bytes : List ℕ) → begun_bytes s ≡ Some bytes → (s.spent ≡ false) × (s.bytes ≡ bytes)
going s bytes h = by s.spent refl
  where
    by : (spent : _) → s.spent ≡ spent → (s.spent ≡ false) × (s.bytes ≡ bytes)
    by true e = let none : begun_bytes s ≡ None = (rw e refl) in cc
    by false e = (e, (let some : begun_bytes s ≡ Some s.bytes = (rw e refl) in cc))

pub stands : (past bytes : List ℕ) → begun past ≡ Some bytes → Stands past bytes
unfolding state_after
stands past bytes held =
    let reached : IsReached (state_after start_state past) = IsReached-after start_state past (IsReached-start start_state refl) in
    let is : begun past ≡ begun_bytes (state_after start_state past) = begun-past start_state [] past refl in
    let parts = going (state_after start_state past) bytes (sym is ∙ held) in
    record { state = state_after start_state past; here = refl; own = ap (state_after start_state) (sym parts.1) ∙ reached parts.0 }

drop_front : {T : Type 0} (front back : List T) → drop (length front) (front ++ back) ≡ back
drop_front [] back = refl
drop_front (x ∷ front) back = drop_front front back

pub given_more : (past bytes more : List ℕ) (s : Stands past bytes) → frames_of_more (Some bytes) more ≡ given s.state more
unfolding frames_of_more
given_more past bytes more s = ap (drop (length (frames bytes))) (frames-past s.state bytes more s.own) ∙ drop_front (frames bytes) (given s.state more)

pub frames_with_more : (past more : List ℕ) (held : Option (List ℕ)) → begun past ≡ held
    → frames (past ++ more) ≡ frames past ++ frames_of_more held more
unfolding frames_of_more
frames_with_more past more None held = frames-ended past more held ∙ sym (append-nil (frames past))
frames_with_more past more (Some bytes) held =
    let s = stands past bytes held in frames-past s.state past more s.here ∙ ap (λ f. frames past ++ f) (sym (given_more past bytes more s))

pub begun_with_more : (past more : List ℕ) (held : Option (List ℕ)) → begun past ≡ held → begun (past ++ more) ≡ begun_by_more held more
unfolding begun_by_more
begun_with_more past [] held is = ap begun (append-nil past) ∙ is
begun_with_more past (byte ∷ more) None is = begun-ended past (byte ∷ more) is
begun_with_more past (byte ∷ more) (Some bytes) is =
    let s = stands past bytes is in begun-past s.state past (byte ∷ more) s.here ∙ sym (begun-past s.state bytes (byte ∷ more) s.own)

option_length : {T : Type 0} (o : Option T) → length (option_to_list o) ≤ 1
option_length None = omega arith
option_length (Some x) = omega arith

given_length : (s : State) (bytes : List ℕ) → length (given s bytes) ≤ length bytes
unfolding given
given_length s [] = omega arith
given_length s (byte ∷ bytes) =
    omega (
      arith,
      given_length (step s byte).after bytes,
      option_length (step s byte).frame,
      length-append (option_to_list (step s byte).frame) (given (step s byte).after bytes),
    )

-- no byte ends two frames
pub frames_of_more-length : (held : Option (List ℕ)) (more : List ℕ) → length (frames_of_more held more) ≤ length more
unfolding frames_of_more
frames_of_more-length None more = omega arith
frames_of_more-length (Some bytes) more =
    let cut : drop (length (frames bytes)) (frames (bytes ++ more)) ≡ given (state_after start_state bytes) more =
    ap (drop (length (frames bytes))) (frames-past (state_after start_state bytes) bytes more refl) ∙ drop_front (frames bytes) (given (state_after start_state bytes) more) in
    omega (arith, given_length (state_after start_state bytes) more, ap length cut)

-- a piece is taken up to the end of its first frame, and then the rest
pub more_fed : (bytes piece : List ℕ) (frame : Option Frame) (taken : ℕ) (held : Option (List ℕ)) → begun bytes ≡ Some bytes
    → GivesFrame bytes piece frame taken → begun (bytes ++ take taken piece) ≡ held
    → frames_of_more (Some bytes) piece ≡ option_to_list frame ++ frames_of_more held (drop taken piece)
more_fed bytes piece frame taken held own gives next =
    let whole : bytes ++ piece ≡ (bytes ++ take taken piece) ++ drop taken piece = ap (λ p. bytes ++ p) (sym (take-append-drop taken piece))
    ∙ sym (append_assoc bytes (take taken piece) (drop taken piece)) in
    let one : frames (bytes ++ take taken piece) ≡ frames bytes ++ option_to_list frame = frames-given bytes piece frame taken gives in
    let all : frames bytes ++ frames_of_more (Some bytes) piece ≡ frames bytes ++ (option_to_list frame ++ frames_of_more held (drop taken piece)) =
    sym (frames_with_more bytes piece (Some bytes) own) ∙ ap frames whole ∙ frames_with_more (bytes ++ take taken piece) (drop taken piece) held next
    ∙ ap (λ f. f ++ frames_of_more held (drop taken piece)) one
    ∙ append_assoc (frames bytes) (option_to_list frame) (frames_of_more held (drop taken piece)) in
    sym (drop_front (frames bytes) (frames_of_more (Some bytes) piece)) ∙ ap (drop (length (frames bytes))) all
    ∙ drop_front (frames bytes) (option_to_list frame ++ frames_of_more held (drop taken piece))

pub begun_fed : (bytes piece : List ℕ) (taken : ℕ) (held : Option (List ℕ)) → begun bytes ≡ Some bytes → begun (bytes ++ take taken piece) ≡ held
    → begun_by_more (Some bytes) piece ≡ begun_by_more held (drop taken piece)
begun_fed bytes piece taken held own next =
    let whole : bytes ++ piece ≡ (bytes ++ take taken piece) ++ drop taken piece = ap (λ p. bytes ++ p) (sym (take-append-drop taken piece))
    ∙ sym (append_assoc bytes (take taken piece) (drop taken piece)) in
    sym (begun_with_more bytes piece (Some bytes) own) ∙ ap begun whole ∙ begun_with_more (bytes ++ take taken piece) (drop taken piece) held next

-- once the connection has ended, nothing changes
pub ended_stays : (piece : List ℕ) → begun_by_more None piece ≡ None
unfolding begun_by_more
ended_stays [] = refl
ended_stays (byte ∷ piece) = refl

pub none_ended : (piece : List ℕ) → frames_of_more None piece ≡ []
unfolding frames_of_more
none_ended piece = refl

pub begun_by_nothing : (held : Option (List ℕ)) → begun_by_more held [] ≡ held
unfolding begun_by_more
begun_by_nothing held = refl

-- no bytes bring nothing
pub no_more : (held : Option (List ℕ)) → frames_of_more held [] ≡ []
unfolding frames_of_more
no_more None = refl
no_more (Some bytes) = ap (λ b. drop (length (frames bytes)) (frames b)) (append-nil bytes)
    ∙ ap (drop (length (frames bytes))) (sym (append-nil (frames bytes))) ∙ drop_front (frames bytes) []

-- nothing of a connection has come at first
pub begins_empty : begun [] ≡ Some []
unfolding state_after
begins_empty = begun-past start_state [] [] refl
