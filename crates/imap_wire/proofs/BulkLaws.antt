-- What moves cost, and what pays for them.
use Rattle.std.proofs.Common.{◌≡◌, ℕ, ◌+◌, ◌*◌, ◌<◌, ◌≤◌, false, ◌&&◌, ◌==◌, nat_eq, List, [], ◌∷◌, ◌++◌, length}
use Rattle.std.proofs.Common.{take, drop, get_or, Option, None, Some, ◌⊎◌, inl, inr, refl, sym, ap, ◌∙◌, arith}
use Rattle.std.proofs.lemmas.List.{length-append, take_more}
use Rattle.std.proofs.lemmas.Bool.{cases_lt, cases_Bool}
use Rattle.std.proofs.lemmas.Bool.Decides.{nat_tests}
use Rattle.std.proofs.Math.Seq.{take-add}
use Rattle.imap_wire.specs.declared.block.Block.{Block}
use Rattle.imap_wire.specs.declared.block.TheConstants.{BLOCK_ROOM}
use Rattle.imap_wire.specs.declared.begun.Begun.{Begun}
use Rattle.imap_wire.specs.declared.frame.Frame.{Frame}
use Rattle.mur_base.specs.Ascii.{ends_with_cr}
use Rattle.imap_wire.specs.Line.{least_length}
use Rattle.imap_wire.specs.Kept.{filled_room}
use Rattle.imap_wire.specs.Steps.{State, start_state, step, state_after, begun_bytes, IsReached}
use Rattle.imap_wire.specs.Begun.{Moves, state_of}
use Rattle.imap_wire.specs.Bulk.{line_feeds, most_moves, frame_moves, IsUpTo, IsInBulk, credit, IsPaid}
use Rattle.imap_wire.proofs.StepLaws.{step-line, line_step-fits, line_step-too_long}
use Rattle.imap_wire.proofs.LineLaws.{least_length-ge}

-- a block has room for a byte, or the new one behind it where it is full
filled-less : (block : Block) → filled_room block < BLOCK_ROOM
filled-less block = grind (arith, nat_tests)

credit-most : (s : State) → credit s ≤ 4
credit-most s = grind (arith, nat_tests)

line_feeds-more : (s : State) (a b : List ℕ) → line_feeds s (a ++ b) ≡ line_feeds s a + line_feeds (state_after s a) b
unfolding line_feeds state_after
line_feeds-more s [] b = omega arith
line_feeds-more s (x ∷ a) b = elim (cases_Bool (x == 10 && nat_eq s.literal_left 0)) [
  | inl ends ↦ rw ends (let rest = line_feeds-more (step s x).after a b in omega arith)
  | inr other ↦ rw other (line_feeds-more (step s x).after a b)
]

line_feeds-lf : (s : State) → s.literal_left ≡ 0 → line_feeds s (10 ∷ []) ≡ 1
unfolding line_feeds
line_feeds-lf s none = rw none refl

-- the byte past the limit of a line is CR, and no second one
credit-past : (s : State) (byte : ℕ) → s.spent ≡ false → s.literal_left ≡ 0 → (byte == 10) ≡ false → s.line_room ≤ length s.line
    → (step s byte).frame ≡ None → (credit (step s byte).after ≡ 0) × (credit s ≡ 3)
credit-past s byte going in_line other past silent =
    let goes_on : (byte == 10 && ends_with_cr s.line) ≡ false = rw other refl in
    let is = step-line s byte going in_line goes_on in
    elim (cases_lt s.line_room (least_length (s.line ++ byte ∷ []))) [
      | inl long ↦ (let fails = rw (is, line_step-too_long s byte long) at silent in cc)
      | inr fits ↦
          let longer = length-append s.line (byte ∷ []) in
          let short : length s.line ≤ s.line_room = omega (arith, least_length-ge (s.line ++ byte ∷ [])) in
          (rw (is, line_step-fits s byte fits) (grind (arith, nat_tests)), grind (arith, nat_tests))
    ]

-- bytes of a line, and the byte behind them
pub line-paid : (s mid to : State) (piece : List ℕ) (frame : Option Frame) (taken : ℕ) → Moves s piece taken mid → mid.spent ≡ false
    → mid.literal_left ≡ 0
    → credit mid ≡ credit s → taken < length piece → (get_or piece taken 0 ≡ 10) ⊎ (mid.line_room ≤ length mid.line)
    → frame ≡ (step mid (get_or piece taken 0)).frame → to ≡ (step mid (get_or piece taken 0)).after → frame ≡ None
    → 3 + credit to ≤ credit s + 7 * line_feeds s (take (taken + 1) piece)
line-paid s mid to piece frame taken moves going in_line same within stops frame_is to_is silent =
    let byte = get_or piece taken 0 in
    let split : take (taken + 1) piece ≡ take taken piece ++ byte ∷ [] = take_more piece taken 0 within in
    let feeds : line_feeds s (take (taken + 1) piece) ≡ line_feeds s (take taken piece) + line_feeds mid (byte ∷ []) =
    rw (split, line_feeds-more s (take taken piece) (byte ∷ []), ← moves.arrives) refl in
    elim (cases_Bool (byte == 10)) [
      | inl lf ↦
          let is : byte ≡ 10 = grind (arith, nat_tests) in
          let one : line_feeds mid (byte ∷ []) ≡ 1 = rw is (line_feeds-lf mid in_line) in
          omega (arith, credit-most to)
      | inr other ↦
          let past : mid.line_room ≤ length mid.line = elim stops [ inl is ↦ absurd (grind (arith, nat_tests)) | inr past ↦ past ] in
          let costs = credit-past mid byte going in_line other past (sym frame_is ∙ silent) in
          let none : credit to ≡ 0 = ap credit to_is ∙ costs.0 in
          omega (arith, costs.1)
    ]

pub account-paid : (from to : Begun) (bytes : List ℕ) → to.kept.moves ≤ from.kept.moves + 3
    → filled_room to.kept.last ≤ filled_room from.kept.last + length bytes
    → 3 + credit (state_of to) ≤ credit (state_of from) + 7 * line_feeds (state_of from) bytes → IsPaid from bytes to
account-paid from to bytes moves bytes_fill pays = omega arith

-- nothing is paid for with nothing
pub paid-nothing : (begun : Begun) → IsPaid begun [] begun
paid-nothing begun = omega arith

-- one stretch behind another
pub paid-more : (from mid to : Begun) (piece : List ℕ) (taken more : ℕ) → taken ≤ length piece
    → state_of mid ≡ state_after (state_of from) (take taken piece)
    → IsPaid from (take taken piece) mid → IsPaid mid (take more (drop taken piece)) to → IsPaid from (take (taken + more) piece) to
paid-more from mid to piece taken more within mid_is before behind =
    let feeds = line_feeds-more (state_of from) (take taken piece) (take more (drop taken piece)) in
    let size = length-append (take taken piece) (take more (drop taken piece)) in
    rw (take-add taken more piece) (let split = rw (← mid_is) at feeds in omega arith)

-- the last stretch costs three moves at most, and those of its frame
pub bulk-end : (from mid : Begun) (behind : ℕ) (bytes more : List ℕ) (frame : Option Frame) → IsPaid from bytes mid → from.kept.moves ≤ mid.kept.moves
    → IsUpTo mid.kept.moves (3 + frame_moves frame) behind
    → IsUpTo from.kept.moves (most_moves (state_of from) (bytes ++ more) + frame_moves frame) behind
bulk-end from mid behind bytes more frame paid rises few =
    let feeds = line_feeds-more (state_of from) bytes more in
    let size = length-append bytes more in
    (omega arith, omega (arith, credit-most (state_of from), filled-less from.kept.last))

-- the same of a framer, whose state the bytes of its command lead to
pub bulk-own : (s : State) (held : Option (List ℕ)) (bytes : List ℕ) (frame : Option Frame) (before behind : ℕ) → s.spent ≡ false → IsReached s
    → begun_bytes s ≡ held → IsUpTo before (most_moves s bytes + frame_moves frame) behind → IsInBulk held bytes frame before behind
bulk-own s held bytes frame before behind going reached is most =
    let some : begun_bytes s ≡ Some s.bytes = rw going refl in
    let same : state_after start_state s.bytes ≡ s = reached going in
    rw (sym is ∙ some, same) most
