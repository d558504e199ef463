-- Bytes that were given or taken in two steps.
use Rattle.std.specs.Prelude.{◌≡◌, ℕ, ◌+◌, ◌-◌, ◌≤◌, min, List, ◌++◌, Option, None, Some, Ok, take, drop}
use Rattle.std.specs.Prelude.{length, refl}
use Rattle.std.proofs.Common.{◌∙◌, ap, sym, subst, arith, append_assoc, length-drop}
use Rattle.std.proofs.Math.Seq.{take-append-add}
use Rattle.std.proofs.lemmas.List.{take-append-drop, length-take-le, take_all, drop-drop, drop_all}
use Rattle.std.specs.Io.KnownBytes.{prepend_known, append_known}
use Rattle.mur_edge.specs.Sink.{Took, TookFront}
use Rattle.mur_edge.specs.Source.{ReadGives}

pub prepend_known-append : (xs ys : List ℕ) (known : Option (List ℕ)) → prepend_known (xs ++ ys) known ≡ prepend_known xs (prepend_known ys known)
prepend_known-append xs ys None = refl
prepend_known-append xs ys (Some zs) = ap (λ bytes. Some bytes) (append_assoc xs ys zs)

pub append_known-append : (known : Option (List ℕ)) (xs ys : List ℕ) → append_known known (xs ++ ys) ≡ append_known (append_known known xs) ys
append_known-append None xs ys = refl
append_known-append (Some zs) xs ys = ap (λ bytes. Some bytes) (sym (append_assoc zs xs ys))

pub Took-append : (first second third : Option (List ℕ)) (xs ys : List ℕ) → Took first second xs → Took second third ys → Took first third (xs ++ ys)
Took-append first second third xs ys one two = two ∙ ap (λ known. append_known known ys) one ∙ sym (append_known-append first xs ys)

-- all of the first part and a front of the second are a front of the whole
pub TookFront-append_right : (first second third : Option (List ℕ)) (xs ys : List ℕ) → Took first second xs → TookFront second third ys
    → TookFront first third (xs ++ ys)
TookFront-append_right first second third xs ys all front =
    (length xs + front.0, rw (take-append-add xs ys front.0) (Took-append first second third xs (take front.0 ys) all front.1))

-- the first a + n are the first a, and then n of the rest
pub take-add : (a n : ℕ) (xs : List ℕ) → a ≤ length xs → take (a + n) xs ≡ take a xs ++ take n (take (length xs - a) (drop a xs))
take-add a n xs h =
    let whole : take a xs ++ drop a xs ≡ xs = take-append-drop a xs in
    let until : length (take a xs) ≡ a = length-take-le a xs h in
    let rest : take (length xs - a) (drop a xs) ≡ drop a xs = take_all _ _ (rw length-drop (omega arith)) in
    let seam : take (length (take a xs) + n) (take a xs ++ drop a xs) ≡ take a xs ++ take n (drop a xs) = take-append-add (take a xs) (drop a xs) n in
    rw rest
    (subst (λ ys. take (a + n) ys ≡ take a xs ++ take n (drop a xs)) whole
    (subst (λ m. take (m + n) (take a xs ++ drop a xs) ≡ take a xs ++ take n (drop a xs)) until seam))

-- what is taken from a place on joins what was taken before it
pub Took-from_place : (first second third : Option (List ℕ)) (a n : ℕ) (xs : List ℕ) → a ≤ length xs → Took first second (take a xs)
    → Took second third (take n (take (length xs - a) (drop a xs))) → Took first third (take (a + n) xs)
Took-from_place first second third a n xs h one two = rw (take-add a n xs h) (Took-append first second third (take a xs) _ one two)

-- a read of a list from a place on gives what fits into the buffer, or what is left
pub ReadGives-drop : (whole : List ℕ) (at n : ℕ) (buffer : List ℕ) → n ≡ min (length buffer) (length (drop at whole))
    → take n buffer ≡ take n (drop at whole) → ReadGives {E = Unit {0}} (Some (drop at whole)) (Some (drop (at + n) whole)) (Ok n) buffer
ReadGives-drop whole at n buffer count bytes =
    let rest : drop n (drop at whole) ≡ drop (at + n) whole = drop-drop n at whole in
    let parts : take n (drop at whole) ++ drop n (drop at whole) ≡ drop at whole = take-append-drop n (drop at whole) in (
      ap (λ list. Some list) (rw (bytes, ← rest) (sym parts)),
      λ none room. rw (← rest) (drop_all n (drop at whole) (omega arith)),
    )
