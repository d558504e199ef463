-- The first block, and the line that stands in it.
use Rattle.std.proofs.Common.{◌≡◌, ℕ, ◌+◌, ◌-◌, ◌<◌, ◌≤◌, true, nat_lt, List, [], ◌∷◌, ◌++◌, length, take, drop, Option, inl, inr, refl, sym, ap, ◌∙◌, arith}
use Rattle.std.specs.Option.{option_map}
use Rattle.std.proofs.lemmas.Bool.{cases_lt}
use Rattle.std.proofs.lemmas.Bool.Decides.{nat_tests}
use Rattle.std.proofs.lemmas.List.{append-nil, drop_all, drop-append-le, length-append, length-drop}
use Rattle.std.proofs.lemmas.List.Elements.{All-append}
use Rattle.mur_base.specs.Ascii.{ends_with_cr}
use Rattle.imap_wire.specs.declared.literal.Literal.{Literal}
use Rattle.imap_wire.specs.declared.begun.Begun.{Begun}
use Rattle.imap_wire.specs.declared.block.Block.{Block}
use Rattle.imap_wire.specs.Kept.{joined_blocks}
use Rattle.imap_wire.specs.Front.{IsPlain, IsPlainByte, front_of}
use Rattle.imap_wire.specs.Front.{back_at}
use Rattle.imap_wire.specs.Begun.{IsRoomy, present_line, line_front, line_back}
use Rattle.imap_wire.specs.Literal.{announced, capped}
use Rattle.imap_wire.proofs.PlainLaws.{cr-line, cr-some, announced-line}

-- a line that stands in two blocks has room to its end
pub unsplit : (begun : Begun) → ¬ IsRoomy begun → begun.front_len ≡ 0
unsplit begun rough = elim (cases_lt 0 begun.front_len) [
  | inl some ↦
      let test : nat_lt 0 begun.front_len ≡ true = grind (arith, nat_tests) in
      absurd (rough (rw test (omega (arith, begun.room_within, begun.kept.last_room (begun.front_full some)))))
  | inr none ↦ omega arith
]

-- a line without room to its end is plain
pub rest-plain : (begun : Begun) → ¬ IsRoomy begun → IsPlain (drop begun.line_at begun.kept.last.bytes.items)
rest-plain begun rough =
    let whole = unsplit begun rough in
    let short = rw whole at rough in
    elim (cases_lt begun.line_at (length begun.kept.last.bytes.items)) [
      | inl some ↦ (begun.line_fits (rw whole some) (rw whole (omega arith))).1
      | inr none ↦ rw (drop_all begun.line_at begun.kept.last.bytes.items (omega arith)) (λ k d within. absurd (omega arith))
    ]

-- where something of such a line has come, it stands in the first block
pub rest-first : (begun : Begun) → ¬ IsRoomy begun → begun.line_at < length begun.kept.last.bytes.items → length begun.kept.full.items ≡ 0
rest-first begun rough some =
    let whole = unsplit begun rough in
    let short = rw whole at rough in
    (begun.line_fits (rw whole some) (rw whole (omega arith))).0

first-front : (full grown : List Block) (last : Block) (at : ℕ) → length full ≡ 0 → grown ≡ full ++ last ∷ []
    → drop at (joined_blocks grown) ≡ drop at last.bytes.items
first-front [] grown last at none is = rw (is, append-nil last.bytes.items) refl
first-front (block ∷ full) grown last at none is = absurd (omega arith)

-- where the first block becomes a full one, what stood in it of the present line stands before the last block
pub front-grown : (size at : ℕ) (full grown : List Block) (last : Block) → 0 < size → length full ≡ 0 → grown ≡ full ++ last ∷ []
    → front_of size at grown ≡ drop at last.bytes.items
front-grown size at full grown last some none is =
    let test : nat_lt 0 size ≡ true = grind (arith, nat_tests) in
    rw test (first-front full grown last at none is)

-- plain bytes behind a plain line
pub rest-more : (at : ℕ) (last grown more : List ℕ) → at ≤ length last → grown ≡ last ++ more → IsPlain (drop at last) → IsPlain more → IsPlain (drop at grown)
rest-more at last grown more within is plain also =
    rw (is, drop-append-le at last more within) (All-append IsPlainByte (drop at last) more plain also)

pub line-size : (begun : Begun) → begun.literal_left ≡ 0
    → length (present_line begun) ≡ begun.front_len + (length begun.kept.last.bytes.items - back_at begun.front_len begun.line_at)
line-size begun in_line =
    let at = back_at begun.front_len begun.line_at in
    rw in_line (omega (arith, length-append (line_front begun) (line_back begun), length-drop at begun.kept.last.bytes.items, begun.front_is))

pub line-cr : (begun : Begun) → begun.literal_left ≡ 0 → ends_with_cr (present_line begun) ≡ ends_with_cr (line_back begun)
line-cr begun in_line = rw in_line (cr-line (line_front begun) (line_back begun) begun.front_plain)

pub back-some : (begun : Begun) → begun.literal_left ≡ 0 → ends_with_cr (present_line begun) ≡ true → 1 ≤ length (line_back begun)
back-some begun in_line cr = cr-some (line_front begun) (line_back begun) begun.front_plain (rw in_line at cr)

-- what the line announces stands in the last block
pub text-announced : (begun : Begun) (back : List ℕ) (literal : Option Literal) → begun.literal_left ≡ 0 → ends_with_cr (present_line begun) ≡ true
    → back ≡ line_back begun → literal ≡ option_map capped (announced (take (length back - 1) back))
    → literal ≡ option_map capped (announced (take (length (present_line begun) - 1) (present_line begun)))
text-announced begun back literal in_line cr back_is is =
    is
    ∙ (rw (back_is, in_line)
    (ap (λ a. option_map capped a)
    (sym (announced-line (line_front begun) (line_back begun) begun.front_plain (back-some begun in_line cr)))))
