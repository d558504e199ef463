-- From the bytes of one command to those of a connection.
use Rattle.std.proofs.Common.{◌≡◌, ℕ, zero, suc, ◌<◌, Bool, true, false, cond, List, [], ◌∷◌, ◌++◌, ◌+◌, ◌-◌, length, take, drop}
use Rattle.std.proofs.Common.{get_or, Option, None, Some, inl, inr, refl, sym, ap, ◌∙◌, append_assoc, arith}
use Rattle.std.specs.Option.{option_to_list, is_none, IsSome, IfSome}
use Rattle.std.specs.List.{concat}
use Rattle.std.proofs.lemmas.List.{append-nil, take_all, take_rest, take-append-drop, take_more}
use Rattle.std.proofs.Math.Seq.{take-add}
use Rattle.std.proofs.lemmas.Bool.{cases_Bool}
use Rattle.imap_wire.specs.declared.frame.Frame.{Frame}
use Rattle.imap_wire.specs.Frames.{Cut, frames, begun}
use Rattle.imap_wire.specs.Steps.{State, start_state, step, given, state_after, begun_bytes, IsReached}
use Rattle.imap_wire.specs.Begun.{TakesFrame}
use Rattle.imap_wire.specs.Feeding.{GivesFrame}
use Rattle.imap_wire.proofs.StepLaws.{step-spent, after-append, given-append, after-spent, given-spent}
use Rattle.imap_wire.proofs.TakeLaws.{step-effect}
use Rattle.imap_wire.proofs.CutLaws.{cut-shown}

IsReached-step : (s : State) (byte : ℕ) → IsReached s → IsReached (step s byte).after
unfolding state_after
IsReached-step s byte reached = elim (cases_Bool s.spent) [
  | inl spent ↦ rw (step-spent s byte spent) reached
  | inr going ↦ elim (step-effect s byte going) [
    | inl grows ↦ (λ _. rw (grows.1, after-append start_state s.bytes (byte ∷ []), reached going) refl)
    | inr (inl restarts) ↦ (λ _. rw restarts refl)
    | inr (inr fails) ↦ (λ still. cc)
  ]
]

pub IsReached-after : (s : State) (bytes : List ℕ) → IsReached s → IsReached (state_after s bytes)
unfolding state_after
IsReached-after s [] reached = reached
IsReached-after s (x ∷ bytes) reached = IsReached-after (step s x).after bytes (IsReached-step s x reached)

frames-shown : (bytes : List ℕ) → frames bytes ≡ given start_state bytes
frames-shown bytes = ap (λ (c : Cut). c.frames) (cut-shown bytes)

begun-shown : (bytes : List ℕ) → begun bytes ≡ begun_bytes (state_after start_state bytes)
begun-shown bytes = ap (λ (c : Cut). c.begun) (cut-shown bytes)

begun_of-some : (spent : Bool) (held bytes : List ℕ) → cond spent None (Some held) ≡ Some bytes → (spent ≡ false) × (held ≡ bytes)
begun_of-some true held bytes h = cc
begun_of-some false held bytes h = (refl, cc)

-- all bytes of a connection lead where those of the command that has begun lead
pub past-state : (s : State) (past : List ℕ) → s.spent ≡ false → IsReached s → begun past ≡ begun_bytes s → state_after start_state past ≡ s
unfolding state_after
past-state s past going reached held =
    let now = state_after start_state past in
    let parts = begun_of-some now.spent now.bytes s.bytes (sym (begun-shown past) ∙ (held ∙ (rw going refl))) in
    let same : state_after start_state now.bytes ≡ now = IsReached-after start_state past (λ _. refl) parts.0 in
    sym same ∙ (ap (λ (b : List ℕ). state_after start_state b) parts.1 ∙ reached going)

pub frames-past : (s : State) (past bytes : List ℕ) → state_after start_state past ≡ s → frames (past ++ bytes) ≡ frames past ++ given s bytes
frames-past s past bytes is = rw (frames-shown (past ++ bytes), frames-shown past, given-append start_state past bytes, is) refl

pub begun-past : (s : State) (past bytes : List ℕ) → state_after start_state past ≡ s → begun (past ++ bytes) ≡ begun_bytes (state_after s bytes)
begun-past s past bytes is = rw (begun-shown (past ++ bytes), after-append start_state past bytes, is) refl

pub Gives-takes : (s to : State) (past piece : List ℕ) (frame : Option Frame) (taken : ℕ) → state_after start_state past ≡ s → TakesFrame s piece frame taken to
    → (frame ≡ None → taken ≡ length piece) → GivesFrame past piece frame taken
Gives-takes s to past piece None taken is takes whole =
    let all = whole refl in
    let none : given s piece ≡ [] = rw (take_all taken piece (omega arith)) at takes.gives in
    record { whole = all; no_more = rw (frames-past s past piece is, none) (append-nil (frames past)) }
Gives-takes s to past piece (Some frame) taken is takes whole = record {
  within = takes.within;
  one_more = rw (frames-past s past (take taken piece) is, takes.gives) refl;
  not_before = λ n before. rw (frames-past s past (take n piece) is, takes.first n before) (append-nil (frames past));
}

pub begun-takes : (s to : State) (past piece : List ℕ) (frame : Option Frame) (taken : ℕ) → state_after start_state past ≡ s → TakesFrame s piece frame taken to
    → begun (past ++ take taken piece) ≡ begun_bytes to
begun-takes s to past piece frame taken is takes = begun-past s past (take taken piece) is ∙ ap begun_bytes (sym takes.arrives)

pub IsReached-takes : (s to : State) (piece : List ℕ) (frame : Option Frame) (taken : ℕ) → IsReached s → TakesFrame s piece frame taken to → IsReached to
IsReached-takes s to piece frame taken reached takes = rw takes.arrives (IsReached-after s (take taken piece) reached)

-- a new framer
pub IsReached-start : (s : State) → s ≡ start_state → IsReached s
unfolding state_after
IsReached-start s is = rw is (λ _. refl)

pub begun-start : (s : State) → s ≡ start_state → begun_bytes s ≡ begun []
unfolding state_after
begun-start s is = rw is (sym (begun-shown []))

-- of a piece that has bytes some are taken
pub Takes-some : (s to : State) (piece : List ℕ) (frame : Option Frame) (taken : ℕ) → TakesFrame s piece frame taken to
    → (frame ≡ None → taken ≡ length piece)
    → 0 < length piece → 0 < taken
unfolding given
Takes-some s to piece None taken takes whole some = let all = whole refl in omega arith
Takes-some s to piece (Some frame) zero takes whole some = let none = takes.gives in cc
Takes-some s to piece (Some frame) (suc taken) takes whole some = omega arith

-- after a fault there is nothing more
begun_of-none : (spent : Bool) (held : List ℕ) → cond spent None (Some held) ≡ None → spent ≡ true
begun_of-none true held h = refl
begun_of-none false held h = cc

ended : (past : List ℕ) → begun past ≡ None → (state_after start_state past).spent ≡ true
ended past none = begun_of-none (state_after start_state past).spent (state_after start_state past).bytes (sym (begun-shown past) ∙ none)

pub frames-ended : (past more : List ℕ) → begun past ≡ None → frames (past ++ more) ≡ frames past
frames-ended past more none = rw (frames-past (state_after start_state past) past more refl, given-spent (state_after start_state past) more (ended past none))
    (append-nil (frames past))

pub begun-ended : (past more : List ℕ) → begun past ≡ None → begun (past ++ more) ≡ None
begun-ended past more none = rw (begun-past (state_after start_state past) past more refl, after-spent (state_after start_state past) more (ended past none), ended past none) refl

-- the frames with the one that `feed` gives, if there is one
pub frames-given : (past piece : List ℕ) (frame : Option Frame) (taken : ℕ) → GivesFrame past piece frame taken
    → frames (past ++ take taken piece) ≡ frames past ++ option_to_list frame
frames-given past piece None taken gives = rw (take_all taken piece (omega (arith, gives.whole))) (gives.no_more ∙ sym (append-nil (frames past)))
frames-given past piece (Some frame) taken gives = gives.one_more

-- one call behind another
pub past-more : (past piece : List ℕ) (taken more : ℕ) → past ++ take (taken + more) piece ≡ past ++ take taken piece ++ take more
    (take (length piece - taken) (drop taken piece))
past-more past piece taken more =
    rw (take_rest piece taken, take-add taken more piece) (sym (append_assoc past (take taken piece) (take more (drop taken piece))))

pub frames-more : (past piece : List ℕ) (taken more : ℕ) (frame : Option Frame) (old new : List Frame)
    → GivesFrame (past ++ take taken piece) (take (length piece - taken) (drop taken piece)) frame more
    → old ≡ frames (past ++ take taken piece) → new ≡ old ++ option_to_list frame → new ≡ frames (past ++ take (taken + more) piece)
frames-more past piece taken more frame old new gives old_is new_is =
    rw (past-more past piece taken more, frames-given (past ++ take taken piece) (take (length piece - taken) (drop taken piece)) frame more gives)
    (new_is ∙ ap (λ (l : List Frame). l ++ option_to_list frame) old_is)

pub some_from : {T : Type 0} (held : Option T) → is_none held ≡ false → IsSome held
some_from None none = cc
some_from (Some bytes) none = refl

none_from : {T : Type 0} (held : Option T) → is_none held ≡ true → held ≡ None
none_from None none = refl
none_from (Some bytes) none = cc

past-rest : (past piece : List ℕ) (taken : ℕ) → past ++ piece ≡ past ++ take taken piece ++ drop taken piece
past-rest past piece taken =
    ap (λ (l : List ℕ). past ++ l) (sym (take-append-drop taken piece)) ∙ sym (append_assoc past (take taken piece) (drop taken piece))

-- a spent framer leaves the rest of a piece
pub frames-rest : (past piece : List ℕ) (taken : ℕ) (held : Option (List ℕ)) → is_none held ≡ true → begun (past ++ take taken piece) ≡ held
    → frames (past ++ piece) ≡ frames (past ++ take taken piece)
frames-rest past piece taken held none is =
    rw (past-rest past piece taken) (frames-ended (past ++ take taken piece) (drop taken piece) (is ∙ none_from held none))

pub begun-rest : (past piece : List ℕ) (taken : ℕ) (held : Option (List ℕ)) → is_none held ≡ true → begun (past ++ take taken piece) ≡ held
    → begun (past ++ piece) ≡ held
begun-rest past piece taken held none is =
    let gone = none_from held none in
    rw (past-rest past piece taken) (begun-ended (past ++ take taken piece) (drop taken piece) (is ∙ gone) ∙ sym gone)

pub frames-nil : [] ≡ frames []
unfolding given
frames-nil = sym (frames-shown [])

-- one piece more
concat-push : (pieces : List (List ℕ)) (piece : List ℕ) → concat (pieces ++ piece ∷ []) ≡ concat pieces ++ piece
concat-push [] piece = append-nil piece
concat-push (x ∷ pieces) piece = ap (λ (l : List ℕ). x ++ l) (concat-push pieces piece) ∙ sym (append_assoc x (concat pieces) piece)

pub concat-more : (pieces : List (List ℕ)) (i : ℕ) (piece : List ℕ) → i < length pieces → piece ≡ get_or pieces i piece
    → concat (take (i + 1) pieces) ≡ concat (take i pieces) ++ piece
concat-more pieces i piece within is = rw (take_more pieces i piece within, ← is) (concat-push (take i pieces) piece)

-- the bytes of the command that has begun would lead to it alone
pub begun-own : (s : State) (held : Option (List ℕ)) → IsReached s → begun_bytes s ≡ held → IfSome held (λ bytes. begun bytes ≡ held)
begun-own s None reached is = tt
begun-own s (Some bytes) reached is =
    let parts = begun_of-some s.spent s.bytes bytes is in
    begun-shown bytes ∙ (ap (λ (b : List ℕ). begun_bytes (state_after start_state b)) (sym parts.1) ∙ (ap begun_bytes (reached parts.0) ∙ is))
