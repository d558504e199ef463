-- Bytes whose run behind a place is not put yet, since it stands for itself.
use Rattle.std.proofs.Common.{◌≡◌, ℕ, ◌+◌, ◌-◌, ◌<◌, ◌≤◌, List, [], ◌∷◌, ◌++◌, length, take, drop, get_or, slice_range}
use Rattle.std.proofs.Common.{refl, sym, ◌∙◌, ap, append_assoc, arith}
use Rattle.std.specs.List.{flat_map}
use Rattle.std.proofs.lemmas.Grind.{flat_map-append}
use Rattle.std.proofs.lemmas.List.{take-append-drop, take_more, flat_map_more, get_or-drop, length-drop, append-nil}
use Rattle.schedule_text.specs.Text.{spelling_of, text_of}

-- a run with the next byte
run_more : (bytes : List ℕ) (from at : ℕ) → from ≤ at → at < length bytes
    → slice_range bytes from (at + 1) ≡ slice_range bytes from at ++ get_or bytes at 0 ∷ []
run_more bytes from at behind within =
    let count : at + 1 - from ≡ at - from + 1 = omega arith in
    let place : from + (at - from) ≡ at = omega arith in
    let here : at - from < length (drop from bytes) = rw length-drop (omega arith) in
    rw (count, take_more (drop from bytes) (at - from) 0 here, get_or-drop from bytes (at - from) 0, place) refl

-- a text with the next byte
text_more : (bytes : List ℕ) (at : ℕ) → at < length bytes → text_of (take (at + 1) bytes) ≡ text_of (take at bytes) ++ spelling_of (get_or bytes at 0)
unfolding text_of
text_more bytes at within =
    rw (take_more bytes at 0 within) (sym (flat_map_more spelling_of [] (take at bytes) (get_or bytes at 0)))

-- the next byte stands for itself
pub goes_on : (before out bytes : List ℕ) (from at : ℕ) → from ≤ at → at < length bytes → spelling_of (get_or bytes at 0) ≡ get_or bytes at 0 ∷ []
    → out ++ slice_range bytes from at ≡ before ++ text_of (take at bytes)
    → out ++ slice_range bytes from (at + 1) ≡ before ++ text_of (take (at + 1) bytes)
goes_on before out bytes from at behind within plain put =
    rw (run_more bytes from at behind within, text_more bytes at within, plain)
    (sym (append_assoc out _ _) ∙ ap (λ front. front ++ get_or bytes at 0 ∷ []) put ∙ append_assoc before _ _)

-- the run and the spelling of the next byte are put
pub is_put : (before out bytes : List ℕ) (from at : ℕ) → at < length bytes → out ++ slice_range bytes from at ≡ before ++ text_of (take at bytes)
    → (out ++ slice_range bytes from at ++ spelling_of (get_or bytes at 0)) ++ slice_range bytes (at + 1) (at + 1) ≡ before ++ text_of (take (at + 1) bytes)
is_put before out bytes from at within put =
    let none : at + 1 - (at + 1) ≡ 0 = omega arith in
    rw (none, text_more bytes at within) (append-nil _ ∙ ap (λ front. front ++ spelling_of (get_or bytes at 0)) put ∙ append_assoc before _ _)

-- the texts of a front and of the rest make that of the whole
pub text_split : (bytes : List ℕ) (n : ℕ) → text_of (take n bytes) ++ text_of (drop n bytes) ≡ text_of bytes
unfolding text_of
text_split bytes n = sym (flat_map-append spelling_of (take n bytes) (drop n bytes)) ∙ ap (flat_map spelling_of) (take-append-drop n bytes)

-- one byte more stands for itself
pub plain_more : (bytes : List ℕ) (n : ℕ) → n < length bytes → text_of (take n bytes) ≡ take n bytes
    → spelling_of (get_or bytes n 0) ≡ get_or bytes n 0 ∷ [] → text_of (take (n + 1) bytes) ≡ take (n + 1) bytes
plain_more bytes n within so_far plain =
    text_more bytes n within ∙ rw (so_far, plain) (sym (take_more bytes n 0 within))
