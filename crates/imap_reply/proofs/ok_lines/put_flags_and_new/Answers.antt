use Rattle.std.proofs.Common.{arith}
use Rattle.std.proofs.lemmas.Grind.{common_steps}
use Rattle.imap_reply.specs.Spaced.{more_spaced, spaced_text}
use Rattle.imap_reply.proofs.SpacedLaws.{more_spaced_last}
use Rattle.imap_reply.proofs.ok_lines.put_flags_and_new.Goals as goal

pub returns-in-empty : goal.returns-in-empty
unfolding more_spaced spaced_text
returns-in-empty c = grind (arith, common_steps)

pub returns-in_ok-put_more_flags-in-len1-up : goal.returns-in_ok-put_more_flags-in-len1-up
unfolding more_spaced spaced_text
returns-in_ok-put_more_flags-in-len1-up c = grind (arith, common_steps, more_spaced_last)
