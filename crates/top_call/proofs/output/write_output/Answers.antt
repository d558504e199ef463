use Rattle.top_call.proofs.WritingLaws.{all_written, last_breaks, lines_break, all_in_front}
use Rattle.top_call.proofs.output.write_output.Goals as goal

pub returns-in_err-write_lines-clause-front : goal.returns-in_err-write_lines-clause-front
returns-in_err-write_lines-clause-front g c = lines_break _ _ _ _ c.new-part.ensures c.in_err-write_lines.ensures.did

pub returns-in_err-write_all-clause-front : goal.returns-in_err-write_all-clause-front
returns-in_err-write_all-clause-front g c =
    last_breaks _ _ _ _ _ _ _ c.new-part.ensures c.as_slice.ensures c.in_ok-write_lines.ensures.did c.in_err-write_all.ensures.front

pub returns-clause-all : goal.returns-clause-all
returns-clause-all g c = all_written _ _ _ _ _ _ _ c.new-part.ensures c.as_slice.ensures c.in_ok-write_lines.ensures.did c.in_ok-write_all.ensures.all

pub returns-clause-front : goal.returns-clause-front
returns-clause-front g c = all_in_front _ _ _
    (all_written _ _ _ _ _ _ _ c.new-part.ensures c.as_slice.ensures c.in_ok-write_lines.ensures.did c.in_ok-write_all.ensures.all)
