-- A call that is undone leaves what was there before it.
use Rattle.std.proofs.Common.{◌≡◌, ◌⊎◌, inl, inr, ℕ, zero, suc, ◌+◌, ◌-◌, ◌≤◌, ◌<◌, min, List, [], ◌∷◌, ◌++◌, length, take, drop, replicate, map, refl, sym}
use Rattle.std.proofs.Common.{◌∙◌, ap, arith, length-drop, length-take, take-append-drop}
use Rattle.std.proofs.lemmas.Bool.{cases_lt}
use Rattle.std.proofs.lemmas.List.{take-append-le, take-take, take_all, take_min, drop_all, drop_at, drop-drop, append-nil, length-take-le, map-append}
use Rattle.mur_disk.specs.Calls.{Wrote, CutTo, written_over, done_call}
use Rattle.mur_disk.specs.Undo.{call_of, undone_call, undone}
use Rattle.mur_disk.proofs.Choices.{long_written, after_written}
use Rattle.mur_disk.specs.Memory.{DidCall}
use Rattle.mur_disk.specs.declared.held.Held.{Held}
use Rattle.mur_disk.specs.declared.held.Pending.{Pending}
use Rattle.mur_disk.specs.declared.held.Pending.TheVariants.{Write, Cut}

-- within the length there are no zeros between
pub over_within : (at : ℕ) (bytes old : List ℕ) → at ≤ length old → written_over at bytes old ≡ take at old ++ (bytes ++ drop (at + length bytes) old)
over_within at bytes old within = ap (λ (l : List ℕ). l ++ (bytes ++ drop (at + length bytes) old))
    (take-append-le at old (replicate (at - length old) 0) within)

module _ (at : ℕ) (piece old : List ℕ) (within : at ≤ length old) where
  abbrev new : List ℕ
  new = written_over at piece old

  abbrev kept : List ℕ
  kept = take (length old) new

  abbrev replaced : List ℕ
  replaced = take (length piece) (drop at old)

  long_replaced : length replaced ≡ min (length piece) (length old - at)
  long_replaced = length-take (length piece) (drop at old) ∙ ap (min (length piece)) (length-drop at old)

  long_kept : length kept ≡ length old
  long_kept = length-take-le (length old) new (omega (arith, long_written at old piece))

  front_kept : take at kept ≡ take at old
  front_kept =
      take-take at (length old) new within
      ∙ ap (take at) (over_within at piece old within)
      ∙ take-append-le at (take at old) (piece ++ drop (at + length piece) old) (omega (arith, within, length-take at old))
      ∙ take-take at at old (omega arith)

  rest_kept : drop (at + length replaced) kept ≡ drop (at + length piece) old
  rest_kept = elim (cases_lt (length old) (at + length piece)) [
    | inr inside ↦
        let same : at + length replaced ≡ at + length piece = omega (arith, long_replaced, inside) in
        let whole : kept ≡ new = take_all (length old) new (omega (arith, long_written at old piece, inside)) in
        ap (λ (n : ℕ). drop n kept) same ∙ ap (drop (at + length piece)) whole ∙ after_written at old piece (length piece) (omega arith)
    | inl past ↦
        drop_all (at + length replaced) kept (omega (arith, long_replaced, long_kept, past, within))
        ∙ sym (drop_all (at + length piece) old (omega (arith, past)))
  ]

  pub write_undone : written_over at replaced kept ≡ old
  write_undone =
      over_within at replaced kept (omega (arith, long_kept, within))
      ∙ ap (λ (l : List ℕ). l ++ (replaced ++ drop (at + length replaced) kept)) front_kept
      ∙ ap (λ (l : List ℕ). take at old ++ (replaced ++ l)) rest_kept
      ∙ ap (λ (l : List ℕ). take at old ++ (replaced ++ l)) (sym (drop-drop (length piece) at old))
      ∙ ap (λ (l : List ℕ). take at old ++ l) (take-append-drop (length piece) (drop at old))
      ∙ take-append-drop at old

pub cut_undone : (len : ℕ) (old : List ℕ) → len ≤ length old → written_over len (drop len old) (take len old) ≡ old
cut_undone len old within =
    over_within len (drop len old) (take len old) (omega (arith, long))
    ∙ ap (λ (l : List ℕ). l ++ (drop len old ++ drop (len + length (drop len old)) (take len old))) (take_all len (take len old) (omega (arith, long)))
    ∙ ap (λ (l : List ℕ). take len old ++ (drop len old ++ l)) (drop_all (len + length (drop len old)) (take len old) (omega (arith, long)))
    ∙ ap (λ (l : List ℕ). take len old ++ l) (append-nil (drop len old))
    ∙ take-append-drop len old
  where
    long : length (take len old) ≡ len
    long = length-take-le len old within

-- the last call is undone first
pub undone_more : (calls : List Pending) (call : Pending) (bytes : List ℕ) → undone (calls ++ call ∷ []) bytes ≡ undone calls (undone_call call bytes)
undone_more [] call bytes = refl
undone_more (first ∷ calls) call bytes = ap (undone_call first) (undone_more calls call bytes)

-- a call is carried out, and noted with what undoes it
called : (call : Pending) (old new : Held) → new.bytes ≡ done_call (call_of call) old.bytes → new.pending ≡ old.pending ++ call ∷ []
    → undone_call call (done_call (call_of call) old.bytes) ≡ old.bytes → DidCall (call_of call) old new
called call old new bytes pending undoes = record {
  bytes = bytes;
  pending = ap (map call_of) pending ∙ map-append call_of old.pending (call ∷ []);
  synced =
      ap (λ (calls : List Pending). undone calls new.bytes) pending
      ∙ ap (undone (old.pending ++ call ∷ [])) bytes
      ∙ undone_more old.pending call (done_call (call_of call) old.bytes)
      ∙ ap (undone old.pending) undoes;
}

pub did_cut : (len : ℕ) (lost : List ℕ) (old new : Held) → len ≤ length old.bytes → lost ≡ drop len old.bytes → new.bytes ≡ take len old.bytes
    → new.pending ≡ old.pending ++ Cut len lost ∷ [] → DidCall (CutTo len) old new
did_cut len lost old new within is bytes pending =
    called (Cut len lost) old new bytes pending (ap (λ (l : List ℕ). written_over len l (take len old.bytes)) is ∙ cut_undone len old.bytes within)

pub did_write : (at : ℕ) (piece replaced : List ℕ) (len : ℕ) (old new : Held) → at ≤ length old.bytes → len ≡ length old.bytes
    → replaced ≡ take (length piece) (drop at old.bytes) → new.bytes ≡ written_over at piece old.bytes
    → new.pending ≡ old.pending ++ Write at piece replaced len ∷ []
    → DidCall (Wrote at piece) old new
did_write at piece replaced len old new within long is bytes pending =
    called (Write at piece replaced len) old new bytes pending
    (ap (λ (l : List ℕ). written_over at l (take len (written_over at piece old.bytes))) is
    ∙ ap (λ (n : ℕ). written_over at (take (length piece) (drop at old.bytes)) (take n (written_over at piece old.bytes))) long
    ∙ write_undone at piece old.bytes within)

-- what lies past the end comes first, and then what is written over
pub grown_over : (at over : ℕ) (piece old : List ℕ) → at ≤ length old → over ≡ min (length piece) (length old - at)
    → take at (old ++ drop over piece) ++ (take over piece ++ drop (at + length (take over piece)) (old ++ drop over piece)) ≡ written_over at piece old
grown_over at over piece old within is =
    ap (λ (l : List ℕ). l ++ (take over piece ++ drop (at + length (take over piece)) (old ++ drop over piece)))
    (take-append-le at old (drop over piece) within)
    ∙ ap (λ (l : List ℕ). take at old ++ l) rest
    ∙ sym (over_within at piece old within)
  where
    long : length (take over piece) ≡ over
    long = length-take-le over piece (omega (arith, is))

    rest : take over piece ++ drop (at + length (take over piece)) (old ++ drop over piece) ≡ piece ++ drop (at + length piece) old
    rest = elim (cases_lt (length old) (at + length piece)) [
      | inr inside ↦
          let all : over ≡ length piece = omega (arith, is, inside) in
          ap (λ (n : ℕ). take over piece ++ drop (at + n) (old ++ drop over piece)) (long ∙ all)
          ∙ ap (λ (n : ℕ). take n piece ++ drop (at + length piece) (old ++ drop n piece)) all
          ∙ ap (λ (l : List ℕ). l ++ drop (at + length piece) (old ++ drop (length piece) piece)) (take_all (length piece) piece (omega arith))
          ∙ ap (λ (l : List ℕ). piece ++ drop (at + length piece) (old ++ l)) (drop_all (length piece) piece (omega arith))
          ∙ ap (λ (l : List ℕ). piece ++ drop (at + length piece) l) (append-nil old)
      | inl past ↦
          let to_end : at + length (take over piece) ≡ length old = omega (arith, long, is, past, within) in
          ap (λ (n : ℕ). take over piece ++ drop n (old ++ drop over piece)) to_end
          ∙ ap (λ (l : List ℕ). take over piece ++ l) (drop_at old (drop over piece) (length old) refl)
          ∙ take-append-drop over piece
          ∙ sym (append-nil piece)
          ∙ ap (λ (l : List ℕ). piece ++ l) (sym (drop_all (at + length piece) old (omega (arith, past))))
    ]

-- what a write replaces, as far as the bytes reach
pub replaced_is : (at over : ℕ) (piece old : List ℕ) → at ≤ length old → over ≡ min (length piece) (length old - at)
    → take over (drop at old) ≡ take (length piece) (drop at old)
replaced_is at over piece old within is =
    ap (λ (n : ℕ). take n (drop at old)) (is ∙ ap (min (length piece)) (sym (length-drop at old))) ∙ take_min (length piece) (drop at old)
