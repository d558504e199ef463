-- The bytes of blocks, one block behind the other.
use Rattle.std.proofs.Common.{◌≡◌, ℕ, ◌+◌, ◌*◌, ◌<◌, ◌≤◌, List, [], ◌∷◌, ◌++◌, length, take, drop, get_or}
use Rattle.std.proofs.Common.{inl, inr, refl, sym, ap, ◌∙◌, append_assoc, arith}
use Rattle.std.proofs.lemmas.Bool.{cases_lt}
use Rattle.std.proofs.lemmas.List.{append-nil, length-append, take_more, take-append-drop}
use Rattle.mur_base.specs.declared.limits.TheConstants.{LINE_LIMIT}
use Rattle.imap_wire.specs.declared.block.Block.{Block}
use Rattle.imap_wire.specs.Kept.{joined_blocks, joined}

pub joined_blocks-append : (front back : List Block) → joined_blocks (front ++ back) ≡ joined_blocks front ++ joined_blocks back
joined_blocks-append [] back = refl
joined_blocks-append (block ∷ front) back =
    ap (λ (l : List ℕ). block.bytes.items ++ l) (joined_blocks-append front back)
    ∙ sym (append_assoc block.bytes.items (joined_blocks front) (joined_blocks back))

pub joined_blocks-push : (blocks : List Block) (block : Block) → joined_blocks (blocks ++ block ∷ []) ≡ joined_blocks blocks ++ block.bytes.items
joined_blocks-push blocks block =
    joined_blocks-append blocks (block ∷ []) ∙ ap (λ (l : List ℕ). joined_blocks blocks ++ l) (append-nil block.bytes.items)

pub joined_blocks-more : (blocks : List Block) (i : ℕ) (block : Block) → i < length blocks → block ≡ get_or blocks i block
    → joined_blocks (take (i + 1) blocks) ≡ joined_blocks (take i blocks) ++ block.bytes.items
joined_blocks-more blocks i block within is = rw (take_more blocks i block within, ← is) (joined_blocks-push (take i blocks) block)

-- some of the blocks have no more bytes than all
pub joined_blocks-part : (blocks : List Block) (i : ℕ) → length (joined_blocks (take i blocks)) ≤ length (joined_blocks blocks)
joined_blocks-part blocks i =
    let split = ap (λ (l : List Block). length (joined_blocks l)) (take-append-drop i blocks) in
    omega (
      arith,
      split,
      ap length (joined_blocks-append (take i blocks) (drop i blocks)),
      length-append (joined_blocks (take i blocks)) (joined_blocks (drop i blocks)),
    )

-- where the last block becomes one of the full ones, the bytes stay
pub joined-next : (full grown : List Block) (last next moved : Block) → grown ≡ full ++ moved ∷ [] → moved ≡ last → next.bytes.items ≡ []
    → joined grown next ≡ joined full last
joined-next full grown last next moved grown_is moved_is empty = rw (empty, append-nil (joined_blocks grown), grown_is, moved_is) (joined_blocks-push full last)

-- the next block to be put behind those before it has room where all have
pub joined_blocks-fit : (blocks : List Block) (i : ℕ) (block : Block) (room : ℕ) → i < length blocks → block ≡ get_or blocks i block
    → length (joined_blocks blocks) ≤ room
    → length (joined_blocks (take i blocks)) + length block.bytes.items ≤ room
joined_blocks-fit blocks i block room within is fits =
    omega (
      arith,
      ap length (joined_blocks-more blocks i block within is),
      length-append (joined_blocks (take i blocks)) block.bytes.items,
      joined_blocks-part blocks (i + 1),
    )

-- where a block that is half full becomes one of the full ones, these still are so, but for the first
pub halves-next : (full grown : List Block) (moved : Block) → grown ≡ full ++ moved ∷ []
    → length full * (LINE_LIMIT + 2) ≤ length (joined_blocks full) + (LINE_LIMIT + 2)
    → (0 < length full → LINE_LIMIT + 2 ≤ length moved.bytes.items)
    → length grown * (LINE_LIMIT + 2) ≤ length (joined_blocks grown) + (LINE_LIMIT + 2)
halves-next full grown moved grown_is halves half =
    rw (grown_is, length-append full (moved ∷ []), joined_blocks-push full moved, length-append (joined_blocks full) moved.bytes.items)
    (elim (cases_lt 0 (length full)) [ inl some ↦ omega (arith, half some) | inr none ↦ omega arith ])
