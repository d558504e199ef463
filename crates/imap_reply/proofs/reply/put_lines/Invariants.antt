use Rattle.std.proofs.Common.{◌≡◌, ◌++◌, drop}
use Rattle.imap_reply.specs.ReplyText.{lines_text}
use Rattle.imap_reply.proofs.reply.put_lines.Given as goal

-- what is written so far and the lines that are left make the whole text
abbrev pub invariant-loop-line : goal.invariant-loop-line
invariant-loop-line l = l.out ++ lines_text l.tag (drop l.line-index l.lines) ≡ l.initial.out ++ lines_text l.tag l.lines
