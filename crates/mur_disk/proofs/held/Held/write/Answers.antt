use Rattle.std.proofs.Common.{◌≡◌, ◌∙◌, ◌+◌, ◌-◌, ◌++◌, ◌∷◌, [], List, ℕ, ap, arith, length, take, drop, min, length-drop}
use Rattle.std.proofs.lemmas.List.{take_all}
use Rattle.mur_disk.specs.Calls.{written_over}
use Rattle.mur_disk.specs.declared.held.Pending.TheVariants.{Write}
use Rattle.mur_disk.proofs.UndoLaws.{did_write, grown_over, replaced_is}
use Rattle.mur_disk.proofs.held.Held.write.Goals as goal

pub returns-clause-ok : goal.returns-clause-ok
returns-clause-ok c =
    let held = c.args.self.now in
    let at = c.args.at in
    let piece = c.args.piece.now in
    let over = c.min-over.result in
    let long : length c.as_slice-len.result.now ≡ length held.bytes = ap length c.as_slice-len.ensures in
    let is : over ≡ min (length piece) (length held.bytes - at) = c.min-over.ensures ∙ ap (λ (n : ℕ). min (length piece) (n - at)) long in
    let wide : at + over - at ≡ over = omega arith in
    let replaced : c.in_ok-from_slice-2.field-0 ≡ take (length piece) (drop at held.bytes) =
    c.in_ok-from_slice-2.ensures
    ∙ ap (λ (n : ℕ). take n (drop at c.as_slice.result.now)) wide
    ∙ ap (λ (l : List ℕ). take over (drop at l)) c.as_slice.ensures
    ∙ replaced_is at over piece held.bytes c.requires is in
    let grown : c.extend.new.self ≡ held.bytes ++ drop over piece =
    c.in_ok-extend.ensures.ok
    ∙ ap (λ (l : List ℕ). held.bytes ++ l) (take_all (length piece - over) (drop over piece) (omega (arith, length-drop over piece))) in
    let written : c.overwrite.new.self ≡ written_over at piece held.bytes =
    c.overwrite.ensures.written
    ∙ ap (λ (l : List ℕ). take at l ++ (take over piece ++ drop (at + length (take over piece)) l)) grown
    ∙ grown_over at over piece held.bytes c.requires is in
    did_write at piece c.in_ok-from_slice-2.field-0 (length c.as_slice-len.result.now) held (record { bytes = c.overwrite.new.self; pending = c.push.new.self })
    c.requires long replaced written
    (c.in_default.ensures.ok
    ∙ ap (λ (l : List ℕ). held.pending ++ Write at l c.in_ok-from_slice-2.field-0 (length c.as_slice-len.result.now) ∷ []) c.in_ok-from_slice.ensures)
