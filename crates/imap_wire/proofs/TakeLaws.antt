-- Bytes of a piece that are taken up to the end of a frame.
use Rattle.std.proofs.Common.{◌≡◌, ℕ, ◌+◌, ◌-◌, ◌<◌, ◌≤◌, true, false, ◌&&◌, ◌==◌, List, [], ◌∷◌, ◌++◌, length}
use Rattle.std.proofs.Common.{take, drop, get_or, Option, None, Some, ◌⊎◌, inl, inr, refl, sym, ap, ◌∙◌, arith}
use Rattle.std.specs.Option.{option_to_list, IsSome, is_some}
use Rattle.std.proofs.lemmas.List.{append-nil, length-drop, get_or-drop}
use Rattle.std.proofs.Math.Seq.{take-add}
use Rattle.std.proofs.lemmas.Bool.{cases_lt, cases_Bool, and_parts}
use Rattle.std.proofs.lemmas.Bool.Decides.{nat_tests}
use Rattle.imap_wire.specs.declared.frame.Frame.{Frame}
use Rattle.imap_wire.specs.declared.literal.Literal.{Literal}
use Rattle.imap_wire.specs.declared.literal.Admission.{Admission}
use Rattle.imap_wire.specs.declared.literal.Admission.TheVariants.{Asked, Unasked, Refused, RefusedUnasked}
use Rattle.mur_base.specs.Ascii.{ends_with_cr}
use Rattle.imap_wire.specs.Line.{without_last, least_length}
use Rattle.imap_wire.specs.Literal.{announced, admission_of}
use Rattle.imap_wire.specs.Steps.{State, Step, start_state, step, given, state_after, line_end, announced_step, at_line_end, line_step}
use Rattle.imap_wire.specs.Begun.{Moves, TakesFrame}
use Rattle.imap_wire.proofs.StepLaws.{step-literal, step-end, step-line, line_step-fits, line_step-too_long, given-append, after-append}

-- what a step does to the bytes of the command: they grow, or a new command begins, or the framer is spent
abbrev pub Effect : Step → List ℕ → Type 0
Effect next bytes =
    ((next.after.spent ≡ false) × (next.after.bytes ≡ bytes)) ⊎ ((next.after ≡ start_state) ⊎ ((next.after.spent ≡ true) × IsSome next.frame))

announced_step-effect : (admission : Admission) (s : State) (literal : Literal) → s.spent ≡ false → Effect (announced_step admission s literal) s.bytes
unfolding announced_step
announced_step-effect Asked s literal going = inl (going, refl)
announced_step-effect Unasked s literal going = inl (going, refl)
announced_step-effect Refused s literal going = inr (inl refl)
announced_step-effect RefusedUnasked s literal going = inr (inr (refl, refl))

line_end-effect : (s : State) (literal : Option Literal) → s.spent ≡ false → Effect (line_end s literal) s.bytes
unfolding line_end
line_end-effect s None going = inr (inl refl)
line_end-effect s (Some literal) going = announced_step-effect (admission_of literal s.literal_room) s literal going

line_step-effect : (s : State) (byte : ℕ) → s.spent ≡ false → Effect (line_step s byte) (s.bytes ++ byte ∷ [])
line_step-effect s byte going = elim (cases_lt s.line_room (least_length (s.line ++ byte ∷ []))) [
  | inl long ↦ rw (line_step-too_long s byte long) (inr (inr (refl, refl)))
  | inr short ↦ rw (line_step-fits s byte short) (inl (going, refl))
]

pub step-effect : (s : State) (byte : ℕ) → s.spent ≡ false → Effect (step s byte) (s.bytes ++ byte ∷ [])
step-effect s byte going = elim (cases_lt 0 s.literal_left) [
  | inl left ↦ rw (step-literal s byte going left) (inl (going, refl))
  | inr none ↦
      let in_line : s.literal_left ≡ 0 = omega arith in
      elim (cases_Bool (byte == 10 && ends_with_cr s.line)) [
        | inl ends ↦
            let parts = and_parts (byte == 10) (ends_with_cr s.line) ends in
            let lf : byte ≡ 10 = grind (arith, nat_tests) in
            rw (lf, step-end s going in_line parts.1) (line_end-effect (at_line_end s (without_last s.line)) (announced (without_last s.line)) going)
        | inr goes_on ↦ rw (step-line s byte going in_line goes_on) (line_step-effect s byte going)
      ]
]

first-none : (a b : List Frame) → a ++ b ≡ [] → a ≡ []
first-none [] b none = refl
first-none (x ∷ a) b none = cc

rest-none : (frame : Option Frame) (rest : List Frame) → option_to_list frame ++ rest ≡ [] → rest ≡ []
rest-none None rest none = none
rest-none (Some frame) rest none = cc

some-frame : (frame : Option Frame) (rest : List Frame) → IsSome frame → option_to_list frame ++ rest ≡ [] → ⊥
some-frame None rest some none = cc
some-frame (Some frame) rest some none = cc

-- no frame, no end
pub spent-none : (s : State) (bytes : List ℕ) → s.spent ≡ false → given s bytes ≡ [] → (state_after s bytes).spent ≡ false
unfolding given state_after
spent-none s [] going none = going
spent-none s (x ∷ bytes) going none = elim (step-effect s x going) [
  | inl grows ↦ spent-none (step s x).after bytes grows.0 (rest-none (step s x).frame _ none)
  | inr (inl restarts) ↦ spent-none (step s x).after bytes (rw restarts refl) (rest-none (step s x).frame _ none)
  | inr (inr fails) ↦ absurd (some-frame (step s x).frame _ fails.1 none)
]

-- before a frame there is none
pub given-prefix : (s : State) (a b : List ℕ) → given s (a ++ b) ≡ [] → given s a ≡ []
given-prefix s a b none = first-none (given s a) (given (state_after s a) b) (sym (given-append s a b) ∙ none)

pub given-take : (s : State) (piece : List ℕ) (taken n : ℕ) → n ≤ taken → given s (take taken piece) ≡ [] → given s (take n piece) ≡ []
given-take s piece taken n before none =
    let split : take taken piece ≡ take n piece ++ take (taken - n) (drop n piece) =
    ap (λ (k : ℕ). take k piece) (omega arith) ∙ take-add n (taken - n) piece in
    given-prefix s (take n piece) (take (taken - n) (drop n piece)) (rw split at none)

pub Takes-silent : (s to : State) (piece : List ℕ) (taken : ℕ) → Moves s piece taken to → TakesFrame s piece None taken to
Takes-silent s to piece taken moves = record {
  within = moves.within;
  gives = moves.silent;
  first = λ n before. given-take s piece taken n (omega arith) moves.silent;
  arrives = moves.arrives;
}

-- a piece that begins with one byte
pub Takes-byte : (s mid to : State) (piece : List ℕ) (frame : Option Frame) → 0 < length piece → mid ≡ s
    → frame ≡ (step mid (get_or piece 0 0)).frame → to ≡ (step mid (get_or piece 0 0)).after → TakesFrame s piece frame 1 to
unfolding given state_after
Takes-byte s mid to [] frame some same frame_is to_is = absurd (omega arith)
Takes-byte s mid to (byte ∷ piece) frame some same frame_is to_is = record {
  within = omega arith;
  gives = rw (rw same at frame_is, append-nil) refl;
  first = λ n before. let zero_is : n ≡ 0 = omega arith in rw zero_is refl;
  arrives = rw same at to_is;
}

-- one stretch behind another
pub Takes-more : (s mid to : State) (piece : List ℕ) (frame : Option Frame) (taken more : ℕ) → TakesFrame s piece None taken mid
    → TakesFrame mid (drop taken piece) frame more to
    → TakesFrame s piece frame (taken + more) to
Takes-more s mid to piece frame taken more before behind =
    let rest = length-drop taken piece in
    let mid_is = before.arrives in
    record {
      within = omega (arith, before.within, behind.within);
      gives = rw (take-add taken more piece, given-append s (take taken piece) (take more (drop taken piece)), before.gives, ← mid_is) behind.gives;
      first = λ n under. elim (cases_lt taken n) [
        | inl past ↦
            let split : take n piece ≡ take taken piece ++ take (n - taken) (drop taken piece) =
            ap (λ (k : ℕ). take k piece) (omega arith) ∙ take-add taken (n - taken) piece in
            rw (split, given-append s (take taken piece) (take (n - taken) (drop taken piece)), before.gives, ← mid_is)
            (behind.first (n - taken) (omega arith))
        | inr within ↦ given-take s piece taken n within before.gives
      ];
      arrives = rw (take-add taken more piece, after-append s (take taken piece) (take more (drop taken piece)), ← mid_is) behind.arrives;
    }

-- bytes of a line, and the byte behind them
pub Takes-text : (s mid to : State) (piece : List ℕ) (frame : Option Frame) (taken : ℕ) → taken < length piece → Moves s piece taken mid
    → frame ≡ (step mid (get_or piece taken 0)).frame → to ≡ (step mid (get_or piece taken 0)).after → TakesFrame s piece frame (taken + 1) to
Takes-text s mid to piece frame taken within moves frame_is to_is =
    let here : taken + 0 ≡ taken = omega arith in
    let byte : get_or (drop taken piece) 0 0 ≡ get_or piece taken 0 = rw here at (get_or-drop taken piece 0 0) in
    Takes-more s mid to piece frame taken 1 (Takes-silent s mid piece taken moves)
    (Takes-byte mid mid to (drop taken piece) frame (omega (arith, length-drop taken piece)) refl (rw byte frame_is) (rw byte to_is))

pub Takes-going : (s to : State) (piece : List ℕ) (taken : ℕ) → s.spent ≡ false → TakesFrame s piece None taken to → to.spent ≡ false
Takes-going s to piece taken going takes = rw takes.arrives (spent-none s (take taken piece) going takes.gives)

pub Takes-nothing : (s : State) (piece : List ℕ) → TakesFrame s piece None 0 s
unfolding given state_after
Takes-nothing s piece = record { within = omega arith; gives = refl; first = λ n before. absurd (omega arith); arrives = refl }

pub none_of : (frame : Option Frame) → is_some frame ≡ false → frame ≡ None
none_of None none = refl
none_of (Some frame) none = cc

pub Takes-none : (s to : State) (piece : List ℕ) (frame : Option Frame) (taken : ℕ) → is_some frame ≡ false → TakesFrame s piece frame taken to
    → TakesFrame s piece None taken to
Takes-none s to piece None taken none takes = takes
Takes-none s to piece (Some frame) taken none takes = cc
