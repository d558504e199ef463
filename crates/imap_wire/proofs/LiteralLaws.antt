-- The digits that bytes end in, and their number.
use Rattle.std.proofs.Common.{◌≡◌, ℕ, ◌+◌, ◌-◌, ◌*◌, ◌^◌, ◌<◌, ◌≤◌, Bool, true, false, List, length, get_or, drop, min}
use Rattle.std.proofs.Common.{nat_lt, cond, ◌||◌, refl, arith}
use Rattle.std.specs.Char.{is_ascii_digit, digit_value}
use Rattle.std.proofs.lemmas.List.{get_or-drop, get_or_default, length-drop}
use Rattle.std.proofs.lemmas.List.Sums.{suffix_len_is}
use Rattle.std.proofs.lemmas.Bool.Decides.{nat_tests}
use Rattle.mur_base.specs.declared.limits.TheConstants.{MESSAGE_LIMIT, PLUS_LITERAL_LIMIT}
use Rattle.imap_wire.specs.declared.literal.Literal.{Literal}
use Rattle.imap_wire.specs.declared.literal.Admission.TheVariants.{Asked, Unasked, Refused, RefusedUnasked}
use Rattle.imap_wire.specs.Literal.{IsDigit, last_digits, admission_of}

pub last_digits-is : (bytes : List ℕ) (at : ℕ) → at ≤ length bytes → ((k : ℕ) → at ≤ k → k < length bytes → IsDigit (get_or bytes k 0))
    → (0 < at → is_ascii_digit (get_or bytes (at - 1) 0) ≡ false) → at ≡ length bytes - last_digits bytes
last_digits-is bytes at within digits other = let e = suffix_len_is is_ascii_digit bytes at 0 within digits other in omega (arith, e)

pub IsDigit-drop : (bytes : List ℕ) (at : ℕ) → ((k : ℕ) → at ≤ k → k < length bytes → IsDigit (get_or bytes k 0))
    → (k d : ℕ) → k < length (drop at bytes) → IsDigit (get_or (drop at bytes) k d)
IsDigit-drop bytes at digits k d within =
    let inside : at + k < length bytes = omega (arith, length-drop at bytes) in
    rw (get_or-drop at bytes k d, get_or_default bytes (at + k) d 0 inside) (digits (at + k) (omega arith) inside)

pub digit_value-digit : (byte : ℕ) → IsDigit byte → (digit_value byte ≡ byte - 48) × (48 ≤ byte)
digit_value-digit byte digit =
    let low : 48 ≤ byte = grind (arith, nat_tests) in
    let high : byte < 58 = grind (arith, nat_tests) in
    let first : nat_lt byte 48 ≡ false = grind (arith, nat_tests) in
    let second : nat_lt byte 58 ≡ true = grind (arith, nat_tests) in
    (rw (first, second) refl, low)

pub size-more : (number digit : ℕ) → min (min (min number (2 ^ 64 - 1) * 10) (2 ^ 64 - 1) + digit) (2 ^ 64 - 1) ≡ min (number * 10 + digit) (2 ^ 64 - 1)
size-more number digit = omega arith

-- which literals belong to a command
asked_tests : (waits large unasked_large : Bool) → cond waits (cond large Refused Asked) (cond unasked_large RefusedUnasked Unasked) ≡ Asked
    → large ≡ false
asked_tests true true unasked_large h = cc
asked_tests true false unasked_large h = refl
asked_tests false large true h = cc
asked_tests false large false h = cc

unasked_tests : (waits large unasked_large : Bool) → cond waits (cond large Refused Asked) (cond unasked_large RefusedUnasked Unasked) ≡ Unasked
    → unasked_large ≡ false
unasked_tests true true unasked_large h = cc
unasked_tests true false unasked_large h = cc
unasked_tests false large true h = cc
unasked_tests false large false h = refl

pub asked_fits : (literal : Literal) (room : ℕ) → admission_of literal room ≡ Asked → (literal.size ≤ room) × (literal.size ≤ MESSAGE_LIMIT)
unfolding admission_of
asked_fits literal room is =
    let fits = asked_tests literal.waits (nat_lt MESSAGE_LIMIT literal.size || nat_lt room literal.size) _ is in
    (grind (arith, nat_tests), grind (arith, nat_tests))

pub unasked_fits : (literal : Literal) (room : ℕ) → admission_of literal room ≡ Unasked
    → (literal.size ≤ room) × (literal.size ≤ PLUS_LITERAL_LIMIT)
unfolding admission_of
unasked_fits literal room is =
    let fits = unasked_tests literal.waits _ (nat_lt PLUS_LITERAL_LIMIT literal.size || nat_lt room literal.size) is in
    (grind (arith, nat_tests), grind (arith, nat_tests))

pub ruleset by_size = (asked_fits, unasked_fits)
