-- What one byte does, case by case, and a run over bytes.
use Rattle.std.proofs.Common.{◌≡◌, ℕ, ◌-◌, ◌<◌, ◌≤◌, true, false, ◌&&◌, ◌==◌, nat_lt, List, [], ◌∷◌, ◌++◌, length, refl}
use Rattle.std.proofs.Common.{sym, arith, append_assoc}
use Rattle.std.specs.Option.{option_to_list}
use Rattle.std.proofs.lemmas.List.{append-nil}
use Rattle.std.proofs.lemmas.Bool.Decides.{nat_tests}
use Rattle.imap_wire.specs.declared.frame.FrameFault.TheVariants.{LineTooLong}
use Rattle.mur_base.specs.Ascii.{ends_with_cr}
use Rattle.imap_wire.specs.Line.{without_last, least_length}
use Rattle.imap_wire.specs.Literal.{announced}
use Rattle.imap_wire.specs.Steps.{State, step, given, state_after, silent, failing, literal_step, line_step, line_end, at_line_end}

pub step-spent : (s : State) (byte : ℕ) → s.spent ≡ true → step s byte ≡ silent s
unfolding step
step-spent s byte spent = rw spent

pub step-literal : (s : State) (byte : ℕ) → s.spent ≡ false → 0 < s.literal_left → step s byte ≡ literal_step s byte
unfolding step
step-literal s byte going left = rw going (let t : nat_lt 0 s.literal_left ≡ true = grind (arith, nat_tests) in rw t)

pub step-end : (s : State) → s.spent ≡ false → s.literal_left ≡ 0 → ends_with_cr s.line ≡ true
    → step s 10 ≡ line_end (at_line_end s (without_last s.line)) (announced (without_last s.line))
unfolding step
step-end s going none cr = rw (going, none, cr)

pub step-line : (s : State) (byte : ℕ) → s.spent ≡ false → s.literal_left ≡ 0 → (byte == 10 && ends_with_cr s.line) ≡ false
    → step s byte ≡ line_step s byte
unfolding step
step-line s byte going none goes_on = rw (going, none, goes_on)

pub line_step-fits : (s : State) (byte : ℕ) → least_length (s.line ++ byte ∷ []) ≤ s.line_room
    → line_step s byte ≡ silent (record s { bytes = s.bytes ++ byte ∷ []; line = s.line ++ byte ∷ [] })
line_step-fits s byte fits = let t : nat_lt s.line_room (least_length (s.line ++ byte ∷ [])) ≡ false = grind (arith, nat_tests) in rw t

pub line_step-too_long : (s : State) (byte : ℕ) → s.line_room < least_length (s.line ++ byte ∷ []) → line_step s byte ≡ failing LineTooLong s
line_step-too_long s byte long = let t : nat_lt s.line_room (least_length (s.line ++ byte ∷ [])) ≡ true = grind (arith, nat_tests) in rw t

pub after-append : (s : State) (a b : List ℕ) → state_after s (a ++ b) ≡ state_after (state_after s a) b
unfolding state_after
after-append s [] b = refl
after-append s (x ∷ a) b = after-append (step s x).after a b

pub given-append : (s : State) (a b : List ℕ) → given s (a ++ b) ≡ given s a ++ given (state_after s a) b
unfolding given state_after
given-append s [] b = refl
given-append s (x ∷ a) b =
    rw (given-append (step s x).after a b)
    (sym (append_assoc (option_to_list (step s x).frame) (given (step s x).after a) (given (state_after (step s x).after a) b)))

pub given-spent : (s : State) (bytes : List ℕ) → s.spent ≡ true → given s bytes ≡ []
unfolding given
given-spent s [] spent = refl
given-spent s (x ∷ bytes) spent = rw (step-spent s x spent) (given-spent s bytes spent)

pub after-spent : (s : State) (bytes : List ℕ) → s.spent ≡ true → state_after s bytes ≡ s
unfolding state_after
after-spent s [] spent = refl
after-spent s (x ∷ bytes) spent = rw (step-spent s x spent) (after-spent s bytes spent)

-- bytes of a literal, all at once
abbrev pub literal_moved : State → List ℕ → ℕ → State
literal_moved s bytes left = record s { bytes = bytes; literal_left = left }

pub after-literal : (s : State) (bytes : List ℕ) → s.spent ≡ false → length bytes ≤ s.literal_left
    → state_after s bytes ≡ literal_moved s (s.bytes ++ bytes) (s.literal_left - length bytes)
unfolding state_after
after-literal s [] going fits = let none : s.literal_left - 0 ≡ s.literal_left = omega arith in rw (append-nil, none) refl
after-literal s (x ∷ bytes) going fits =
    rw (step-literal s x going (omega arith))
    (let rest = after-literal (literal_moved s (s.bytes ++ x ∷ []) (s.literal_left - 1)) bytes going (omega arith) in
    let less : s.literal_left - 1 - length bytes ≡ s.literal_left - length (x ∷ bytes) = omega arith in
    rw (append_assoc s.bytes (x ∷ []) bytes, less) at rest)

pub given-literal : (s : State) (bytes : List ℕ) → s.spent ≡ false → length bytes ≤ s.literal_left → given s bytes ≡ []
unfolding given
given-literal s [] going fits = refl
given-literal s (x ∷ bytes) going fits =
    rw (step-literal s x going (omega arith)) (given-literal (literal_moved s (s.bytes ++ x ∷ []) (s.literal_left - 1)) bytes going (omega arith))
