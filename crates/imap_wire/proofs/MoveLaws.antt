-- Bytes that are taken all at once: those of a literal, and those of a line without LF.
use Rattle.std.proofs.Common.{◌≡◌, ℕ, zero, suc, ◌+◌, ◌-◌, ◌<◌, ◌≤◌, Bool, true, false, ◌&&◌, ◌==◌, nat_lt, cond, List, []}
use Rattle.std.proofs.Common.{◌∷◌, ◌++◌, length, take, drop, get_or, Option, None, Some, unwrap_or, refl, sym, ◌∙◌, arith, append_assoc}
use Rattle.std.proofs.lemmas.List.{append-nil, length-append, length-take-le, drop-append-le, drop_all, take_all}
use Rattle.std.proofs.lemmas.Bool.{false_from_ne_true}
use Rattle.std.proofs.lemmas.Bool.Decides.{nat_tests}
use Rattle.memchr.specs.Find.{IsFirstByte, is_byte}
use Rattle.mur_base.specs.Ascii.{ends_with_cr}
use Rattle.imap_wire.specs.Line.{least_length}
use Rattle.imap_wire.specs.Steps.{State, step, given, state_after}
use Rattle.imap_wire.specs.Begun.{Moves}
use Rattle.imap_wire.proofs.StepLaws.{step-line, line_step-fits, after-literal, given-literal, literal_moved}
use Rattle.imap_wire.proofs.LineLaws.{least_length-le}

-- no byte is LF
abbrev pub IsOneLine : List ℕ → Type 0
IsOneLine [] = Unit {0}
IsOneLine (byte ∷ bytes) = ((byte == 10) ≡ false) × IsOneLine bytes

abbrev pub line_moved : State → List ℕ → List ℕ → State
line_moved s bytes line = record s { bytes = bytes; line = line }

line-goes_on : (s : State) (byte : ℕ) → s.spent ≡ false → s.literal_left ≡ 0 → (byte == 10) ≡ false → length s.line + 1 ≤ s.line_room
    → step s byte ≡ record { frame = None; after = line_moved s (s.bytes ++ byte ∷ []) (s.line ++ byte ∷ []) }
line-goes_on s byte going in_line other room =
    let goes_on : (byte == 10 && ends_with_cr s.line) ≡ false = rw other refl in
    let fits : least_length (s.line ++ byte ∷ []) ≤ s.line_room =
    omega (arith, least_length-le (s.line ++ byte ∷ []), length-append s.line (byte ∷ [])) in
    step-line s byte going in_line goes_on ∙ line_step-fits s byte fits

pub after-text : (s : State) (bytes : List ℕ) → s.spent ≡ false → s.literal_left ≡ 0 → IsOneLine bytes
    → length s.line + length bytes ≤ s.line_room
    → state_after s bytes ≡ line_moved s (s.bytes ++ bytes) (s.line ++ bytes)
unfolding state_after
after-text s [] going in_line one room = rw (append-nil, append-nil) refl
after-text s (x ∷ bytes) going in_line one room =
    let longer = length-append s.line (x ∷ []) in
    rw (line-goes_on s x going in_line one.0 (omega arith))
    (let rest = after-text (line_moved s (s.bytes ++ x ∷ []) (s.line ++ x ∷ [])) bytes going in_line one.1 (omega (arith, longer)) in
    rw (append_assoc s.bytes (x ∷ []) bytes, append_assoc s.line (x ∷ []) bytes) at rest)

pub given-text : (s : State) (bytes : List ℕ) → s.spent ≡ false → s.literal_left ≡ 0 → IsOneLine bytes
    → length s.line + length bytes ≤ s.line_room
    → given s bytes ≡ []
unfolding given
given-text s [] going in_line one room = refl
given-text s (x ∷ bytes) going in_line one room =
    let longer = length-append s.line (x ∷ []) in
    rw (line-goes_on s x going in_line one.0 (omega arith))
    (given-text (line_moved s (s.bytes ++ x ∷ []) (s.line ++ x ∷ [])) bytes going in_line one.1 (omega (arith, longer)))

pub IsOneLine-take : (bytes : List ℕ) (n : ℕ) → ((k : ℕ) → k < n → (get_or bytes k 0 == 10) ≡ true → ⊥) → IsOneLine (take n bytes)
IsOneLine-take bytes zero h = tt
IsOneLine-take [] (suc n) h = tt
IsOneLine-take (x ∷ bytes) (suc n) h =
    (false_from_ne_true (x == 10) (h 0 (omega arith)), IsOneLine-take bytes n (λ k below. h (suc k) (omega arith)))

-- what stands before the first LF, if there is one
pub IsOneLine-first : (bytes : List ℕ) (found : Option ℕ) (n : ℕ) → IsFirstByte (is_byte 10) bytes found → n ≤ unwrap_or found (length bytes)
    → IsOneLine (take n bytes)
IsOneLine-first bytes None n first within = IsOneLine-take bytes n (λ k below. first k (omega arith) (omega arith))
IsOneLine-first bytes (Some at) n first within = IsOneLine-take bytes n (λ k below. first.0.before k (omega arith) (omega arith))

pub IsFirstByte-within : (bytes : List ℕ) (found : Option ℕ) → IsFirstByte (is_byte 10) bytes found → unwrap_or found (length bytes) ≤ length bytes
IsFirstByte-within bytes None first = omega arith
IsFirstByte-within bytes (Some at) first = omega (arith, first.0.high)

-- a line is empty at its beginning
pub no_line : (test : Bool) (bytes : List ℕ) (n : ℕ) → length bytes ≤ n → cond test [] (drop n bytes) ≡ []
no_line true bytes n all = refl
no_line false bytes n all = drop_all n bytes all

pub Moves-literal : (s to : State) (piece : List ℕ) (taken : ℕ) → s.spent ≡ false → taken ≤ s.literal_left → taken ≤ length piece
    → to ≡ literal_moved s (s.bytes ++ take taken piece) (s.literal_left - taken) → Moves s piece taken to
Moves-literal s to piece taken going left within is =
    let size = length-take-le taken piece within in
    record {
      within = within;
      silent = given-literal s (take taken piece) going (omega arith);
      arrives = is ∙ (rw (after-literal s (take taken piece) going (omega arith), size) refl);
    }

Moves-none : (s to : State) (piece : List ℕ) → to ≡ line_moved s (s.bytes ++ []) (s.line ++ []) → Moves s piece 0 to
unfolding given state_after
Moves-none s to piece is = record { within = omega arith; silent = refl; arrives = rw (append-nil s.bytes, append-nil s.line) at is }

pub Moves-text : (s to : State) (piece : List ℕ) (found : Option ℕ) (taken : ℕ) → s.spent ≡ false → s.literal_left ≡ 0
    → IsFirstByte (is_byte 10) piece found → taken ≤ unwrap_or found (length piece) → taken ≤ length piece
    → (0 < taken → taken + length s.line ≤ s.line_room)
    → to ≡ line_moved s (s.bytes ++ take taken piece) (s.line ++ take taken piece) → Moves s piece taken to
Moves-text s to piece found zero going in_line first before within room is = Moves-none s to piece is
Moves-text s to piece found (suc n) going in_line first before within room is =
    let size = length-take-le (suc n) piece within in
    let one = IsOneLine-first piece found (suc n) first before in
    record {
      within = within;
      silent = given-text s (take (suc n) piece) going in_line one (omega arith);
      arrives = is ∙ sym (after-text s (take (suc n) piece) going in_line one (omega arith));
    }

-- the state of a command with these bytes, whose present line has these before the last block, which has these
abbrev pub kept : List ℕ → List ℕ → List ℕ → ℕ → ℕ → ℕ → ℕ → Bool → State
kept bytes front last line_at line_room literal_room literal_left spent =
    record {
      bytes = bytes;
      line = cond (nat_lt 0 literal_left) [] (front ++ drop line_at last);
      line_room = line_room;
      literal_room = literal_room;
      literal_left = literal_left;
      spent = spent;
    }

-- while a literal comes the present line is empty, and so it is behind the literal
pub kept-literal : (bytes same all front before grown more : List ℕ) (line_at at line_room literal_room left less : ℕ) (spent : Bool) → 0 < left
    → same ≡ bytes
    → all ≡ same ++ more → at ≡ length grown
    → kept all [] grown at line_room literal_room less spent ≡ literal_moved (kept bytes front before line_at line_room literal_room left spent) (bytes ++ more) less
kept-literal bytes same all front before grown more line_at at line_room literal_room left less spent some same_is all_is at_is =
    let test : nat_lt 0 left ≡ true = grind (arith, nat_tests) in
    let empty : cond (nat_lt 0 less) [] (drop at grown) ≡ [] = no_line (nat_lt 0 less) grown at (omega arith) in
    rw (empty, test, all_is, same_is) refl

pub kept-text : (bytes all front behind last grown more : List ℕ) (line_at line_room literal_room left : ℕ) (spent : Bool) → left ≡ 0 → all ≡ bytes ++ more
    → behind ≡ front → grown ≡ last ++ more → line_at ≤ length last
    → kept all behind grown line_at line_room literal_room left spent ≡ (let s = kept bytes front last line_at line_room literal_room left spent in
    line_moved s (bytes ++ more) (s.line ++ more))
kept-text bytes all front behind last grown more line_at line_room literal_room left spent none all_is front_is grown_is within =
    rw (none, all_is, front_is, grown_is, drop-append-le line_at last more within, append_assoc front (drop line_at last) more) refl

-- a whole piece within a line
pub Moves-whole : (s to : State) (piece : List ℕ) → s.spent ≡ false → s.literal_left ≡ 0 → IsOneLine piece → length s.line + length piece ≤ s.line_room
    → to ≡ line_moved s (s.bytes ++ piece) (s.line ++ piece) → Moves s piece (length piece) to
Moves-whole s to piece going in_line one room is =
    let whole = take_all (length piece) piece (omega arith) in
    record {
      within = omega arith;
      silent = rw whole (given-text s piece going in_line one room);
      arrives = rw whole (is ∙ sym (after-text s piece going in_line one room));
    }
