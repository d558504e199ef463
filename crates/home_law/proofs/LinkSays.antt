-- What the invariant of a link says.
use Rattle.std.proofs.Common.{◌≡◌, Bool, true, false, ◌&&◌, ◌||◌, List, [], ◌∷◌, ◌⊎◌, inl, inr, refl, subst}
use Rattle.std.proofs.Math.Logic.{⊎_elim}
use Rattle.home_law.specs.Items.{RecordKind, bare, kept, active, Seen, Mine, away, mine, HomePhase, no_phase, creating, serving, closing, pointer, Item, refused, item_number, is_among}
use Rattle.home_law.specs.Steps.{answer}
use Rattle.home_law.specs.Link.{Back}
use Rattle.home_law.specs.Rows.{mine_of, home_ok, flow_ok, control_ok, is_idle, is_synced, is_bare, is_kept, line_ok, first_line_ok, is_unfinished, finishes, waits, is_awaited}
use Rattle.home_law.specs.LinkOk.{EachItem, FirstItem, SomeItem, LinkOk}
use Rattle.home_law.proofs.Finite.{AllTrue, each_from_every}
use Rattle.home_law.proofs.Lists.{each_weaker}
use Rattle.home_law.proofs.Kept.{and_both}
use Rattle.home_law.proofs.Moves.{not_refused, take_checks}
use Rattle.home_law.proofs.Events.{take_facts}

home_is_ok : (m : Mine) (k : Back) → LinkOk m k → home_ok m k.ctl.phase ≡ true
unfolding control_ok
home_is_ok m k ok =
    (and_both (home_ok m k.ctl.phase) (flow_ok m k.ctl.phase k.ctl.flow && ((is_idle k.ctl.flow || k.ctl.hears && is_synced k.ctl.resync) && (k.ctl.hears || is_synced k.ctl.resync))) ok.control).0

serving_by : (m : Mine) (p : HomePhase) → home_ok m p ≡ true → p ≡ serving → (m ≡ mine active) ⊎ (m ≡ mine kept)
unfolding home_ok
serving_by away p h e = let t : home_ok away serving ≡ true = subst (λ q. home_ok away q ≡ true) e h in cc
serving_by (mine bare) p h e = let t : home_ok (mine bare) serving ≡ true = subst (λ q. home_ok (mine bare) q ≡ true) e h in cc
serving_by (mine kept) p h e = inr refl
serving_by (mine active) p h e = inl refl

-- who serves is named
pub serving_mine : (m : Mine) (k : Back) → LinkOk m k → k.ctl.phase ≡ serving → (m ≡ mine active) ⊎ (m ≡ mine kept)
serving_mine m k ok e = serving_by m k.ctl.phase (home_is_ok m k ok) e

active_by : (p : HomePhase) → home_ok (mine active) p ≡ true → (p ≡ creating) ⊎ (p ≡ serving) ⊎ (p ≡ closing)
unfolding home_ok
active_by creating h = inl refl
active_by serving h = inr (inl refl)
active_by closing h = inr (inr refl)
active_by no_phase h = cc
active_by pointer h = cc

-- an active name is there
pub active_is_there : (k : Back) → LinkOk (mine active) k → (k.ctl.phase ≡ creating) ⊎ (k.ctl.phase ≡ serving) ⊎ (k.ctl.phase ≡ closing)
active_is_there k ok = active_by k.ctl.phase (home_is_ok (mine active) k ok)

kept_by : (p : HomePhase) → home_ok (mine kept) p ≡ true → (p ≡ serving) ⊎ (p ≡ closing)
unfolding home_ok
kept_by serving h = inl refl
kept_by closing h = inr refl
kept_by creating h = cc
kept_by no_phase h = cc
kept_by pointer h = cc

-- so is a mailbox that is reserved
pub reserved_is_there : (k : Back) → LinkOk (mine kept) k → (k.ctl.phase ≡ serving) ⊎ (k.ctl.phase ≡ closing)
reserved_is_there k ok = kept_by k.ctl.phase (home_is_ok (mine kept) k ok)

is_refused : (y : Item) → not_refused y ≡ true → y ≡ refused → ⊥
unfolding not_refused is_among item_number
is_refused y h e = let t : not_refused refused ≡ true = subst (λ z. not_refused z ≡ true) e h in cc

-- the first line is refused for no other reason than want of room
pub none_refused : (is_full : Bool) (s : Seen) (k : Back) (x : Item) (u : List Item) → LinkOk (mine_of s) k → k.up ≡ x ∷ u
    → EachItem (λ y. y ≡ refused → ⊥) (answer is_full s x).says
unfolding take_checks AllTrue EachItem FirstItem
none_refused is_full s k x u ok e =
    let lines : EachItem (λ y. line_ok (mine_of s) k.ctl y ≡ true) (x ∷ u) = subst (EachItem (λ y. line_ok (mine_of s) k.ctl y ≡ true)) e ok.ups in
    let first : FirstItem (λ y. first_line_ok (mine_of s) k.ctl y ≡ true) (x ∷ u) = subst (FirstItem (λ y. first_line_ok (mine_of s) k.ctl y ≡ true)) e ok.up_first in
    let f : AllTrue (take_checks is_full s k.ctl x) = take_facts is_full s k.ctl x ok.control lines.0 first in
    each_weaker (λ y. not_refused y ≡ true) (λ y. y ≡ refused → ⊥) (λ y h. is_refused y h) (answer is_full s x).says
    (each_from_every not_refused (answer is_full s x).says f.1.1.1.0)

-- what needs no end on a whole link
needless : (k : RecordKind) → (is_bare (mine k) || is_kept (mine k) ≡ true → ⊥) → k ≡ active
unfolding is_bare is_kept
needless bare h = absurd (h refl)
needless active h = refl
needless kept h = absurd (h refl)

none_left : (P : Item → Type 0) (xs : List Item) → xs ≡ [] → SomeItem P xs → ⊥
unfolding SomeItem
none_left P xs e s = let t : SomeItem P [] = subst (SomeItem P) e s in t

-- on a whole link with empty queues the name isn't reserved here
pub none_stays_reserved : (j : RecordKind) (k : Back) → LinkOk (mine j) k → k.ctl.linked ≡ true → k.down ≡ [] → k.up ≡ [] → j ≡ active
unfolding is_unfinished
none_stays_reserved j k ok l d u =
    needless j (λ h.
    let n : is_unfinished (mine j) k.ctl ≡ true = rw l h in
    ⊎_elim (none_left (λ x. finishes (mine j) k.ctl x ≡ true) k.down d) (none_left (λ x. finishes (mine j) k.ctl x ≡ true) k.up u) (ok.finished n))

-- and no flow and no resync runs
pub none_waits : (m : Mine) (k : Back) → LinkOk m k → k.down ≡ [] → k.up ≡ [] → waits k.ctl ≡ false
none_waits m k ok d u = by_test (waits k.ctl) refl
  where
    by_test : (b : Bool) → waits k.ctl ≡ b → b ≡ false
    by_test false e = refl
    by_test true e =
        absurd (⊎_elim (none_left (λ x. is_awaited k.ctl x ≡ true) k.down d) (none_left (λ x. is_awaited k.ctl x ≡ true) k.up u) (ok.awaited e))
