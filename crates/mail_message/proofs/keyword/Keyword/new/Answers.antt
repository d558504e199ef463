use Rattle.std.proofs.Common.{arith}
use Rattle.mail_message.proofs.KeywordTexts.{keyword_short}
use Rattle.mail_message.proofs.keyword.Keyword.new.Goals as goal

pub unreachable-requires : goal.unreachable-requires
unreachable-requires c = omega (arith, keyword_short c.args.text.now c.requires, c.in-Err.ensures)
