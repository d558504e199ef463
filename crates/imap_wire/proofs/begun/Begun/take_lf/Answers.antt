-- The text is the line without its CR; what stands before the last block announces nothing.
use Rattle.std.proofs.Common.{◌≡◌, ◌-◌, length, take, refl, arith}
use Rattle.std.proofs.lemmas.List.{length-take-le}
use Rattle.imap_wire.specs.Begun.{state_of, present_line, line_front}
use Rattle.imap_wire.specs.Front.{back_at}
use Rattle.imap_wire.proofs.FirstLaws.{back-some, text-announced}
use Rattle.imap_wire.proofs.LineLaws.{length-ends_with_cr}
use Rattle.imap_wire.proofs.LineEndLaws.{line_end-step, kept-line_end}
use Rattle.imap_wire.proofs.TallyLaws.{fed-line_end}
use Rattle.imap_wire.proofs.begun.Begun.take_lf.Goals as goal

pub slice_bounds-announced-count : goal.slice_bounds-announced-count
slice_bounds-announced-count c = rw c.line_back-back.ensures (back-some c.args.self.now c.requires.in_line c.requires.cr)

pub overflow_sub-length : goal.overflow_sub-length
overflow_sub-length c = rw c.line_len-length.ensures (length-ends_with_cr (present_line c.args.self.now) c.requires.cr)

pub returns-clause-frame : goal.returns-clause-frame
returns-clause-frame c =
    let it = c.args.self.now in
    let line = present_line it in
    let text = take (length line - 1) line in
    let cut : c.line_len-length.result - 1 ≡ length text =
    omega (arith, c.line_len-length.ensures, length-take-le (length line - 1) line (omega arith)) in
    rw (← line_end-step (state_of it) _ text _ c.requires.going c.requires.in_line c.requires.cr refl
    (text-announced it c.line_back-back.result.now _ c.requires.in_line c.requires.cr c.line_back-back.ensures c.announced-literal.ensures)
    (kept-line_end _ _ (line_front it) it.kept.last.bytes.items _ (c.line_len-length.result - 1) (back_at it.front_len it.line_at) _ it.line_room _ _ _ _
    text c.keep.ensures.bytes c.len-self.ensures c.saturating_sub-self.ensures cut))
    c.end_line.ensures.frame

pub returns-clause-after : goal.returns-clause-after
returns-clause-after c =
    let it = c.args.self.now in
    let line = present_line it in
    let text = take (length line - 1) line in
    let cut : c.line_len-length.result - 1 ≡ length text =
    omega (arith, c.line_len-length.ensures, length-take-le (length line - 1) line (omega arith)) in
    rw (← line_end-step (state_of it) _ text _ c.requires.going c.requires.in_line c.requires.cr refl
    (text-announced it c.line_back-back.result.now _ c.requires.in_line c.requires.cr c.line_back-back.ensures c.announced-literal.ensures)
    (kept-line_end _ _ (line_front it) it.kept.last.bytes.items _ (c.line_len-length.result - 1) (back_at it.front_len it.line_at) _ it.line_room _ _ _ _
    text c.keep.ensures.bytes c.len-self.ensures c.saturating_sub-self.ensures cut))
    c.end_line.ensures.after

pub returns-clause-tally : goal.returns-clause-tally
returns-clause-tally c = fed-line_end _ _ _ _ c.keep.ensures.tally c.end_line.ensures.tally c.end_line.ensures.kept
