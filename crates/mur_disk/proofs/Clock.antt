-- The laws of a disk's clock, for a disk in memory with its earlier moments.
use Rattle.std.proofs.Common.{◌≡◌, ◌⊎◌, inl, inr, ⊎_elim, ℕ, ◌≤◌, List, [], ◌∷◌, ◌++◌, length, drop, sym, subst, arith, length-append}
use Rattle.std.proofs.lemmas.List.{drop-append-le}
use Rattle.mur_disk.specs.Moments.{Elapses}
use Rattle.mur_disk.specs.Memory.{MayLeave, LeftAtOne, LeftSince}
use Rattle.mur_disk.specs.declared.held.Held.{Held}

-- one moment more, after the others
at_last : (moments : List Held) (last : Held) (image : List ℕ) → LeftAtOne (moments ++ last ∷ []) image → LeftAtOne moments image ⊎ MayLeave last image
at_last [] last image (inl left) = inr left
at_last [] last image (inr left) = elim left [ ]
at_last (first ∷ moments) last image (inl left) = inl (inl left)
at_last (first ∷ moments) last image (inr left) = ⊎_elim (λ before. inl (inr before)) (λ then. inr then) (at_last moments last image left)

still_left : (moments : List Held) (last : Held) (image : List ℕ) → LeftAtOne moments image → LeftAtOne (moments ++ last ∷ []) image
still_left [] last image left = elim left [ ]
still_left (first ∷ moments) last image (inl left) = inl left
still_left (first ∷ moments) last image (inr left) = inr (still_left moments last image left)

last_left : (moments : List Held) (last : Held) (image : List ℕ) → MayLeave last image → LeftAtOne (moments ++ last ∷ []) image
last_left [] last image left = inl left
last_left (first ∷ moments) last image left = inr (last_left moments last image left)

-- a moment is over, whatever the disk holds then
pub elapses : (past : List Held) (old new : Held)
    → Elapses (length past) (length (past ++ old ∷ [])) (LeftSince past old) (LeftSince (past ++ old ∷ []) new) (MayLeave new)
elapses past old new = record {
  later = omega (arith, length-append past (old ∷ []));
  nothing_else = λ t image le since. ⊎_elim
      (λ was. inl (at_last (drop t past) old image (subst (λ (l : List Held). LeftAtOne l image) (split t le) was)))
      (λ now. inr now) since;
  keeps = λ t image le since. inl (subst (λ (l : List Held). LeftAtOne l image) (sym (split t le))
      (⊎_elim (λ was. still_left (drop t past) old image was) (λ then. last_left (drop t past) old image then) since));
}
  where
    split : (t : ℕ) → t ≤ length past → drop t (past ++ old ∷ []) ≡ drop t past ++ old ∷ []
    split t le = drop-append-le t past (old ∷ []) le

-- the same with the list of moments by a name of its own
pub elapses_to : (past moments : List Held) (old new : Held) → moments ≡ past ++ old ∷ []
    → Elapses (length past) (length moments) (LeftSince past old) (LeftSince moments new) (MayLeave new)
elapses_to past moments old new is =
    subst (λ (l : List Held). Elapses (length past) (length l) (LeftSince past old) (LeftSince l new) (MayLeave new)) (sym is) (elapses past old new)

-- no moment is over
pub stands_still : (past : List Held) (held : Held) → Elapses (length past) (length past) (LeftSince past held) (LeftSince past held) (MayLeave held)
stands_still past held = record { later = omega arith; nothing_else = λ t image le since. inl since; keeps = λ t image le since. since }
