use Rattle.std.proofs.Common.{ap, inl, Ok}
use Rattle.imap_command.proofs.SpellsLaw.{exact_command}
use Rattle.imap_command.proofs.BadLaws.{bad_from, longest_from_stop, left_within}
use Rattle.imap_command.proofs.reader.read.Goals as goal

pub whole_of-requires : goal.whole_of-requires
whole_of-requires c = exact_command

pub overflow_sub-result : goal.overflow_sub-result
overflow_sub-result c = left_within c.args.frame.now c.in-Err-Stopped.stop.left (c.whole_of.ensures.stops c.in-Err-Stopped.stop (cc))

pub returns-in-Ok-clause-only : goal.returns-in-Ok-clause-only
returns-in-Ok-clause-only c = λ tagged h. inl (ap Ok ((c.whole_of.ensures.only tagged h).0 c.in-Ok.tagged (cc)))

pub returns-in_ok-first_tag-in-Err-Stopped-clause-bad : goal.returns-in_ok-first_tag-in-Err-Stopped-clause-bad
returns-in_ok-first_tag-in-Err-Stopped-clause-bad c = λ bad e.
    bad_from c.args.frame.now c.in_ok-first_tag-in-Err-Stopped.field-0 _ bad
    (longest_from_stop c.args.frame.now c.in-Err-Stopped.stop.left
    (c.whole_of.ensures.stops c.in-Err-Stopped.stop (cc))) c.in_ok-first_tag-in-Err-Stopped.ensures e
