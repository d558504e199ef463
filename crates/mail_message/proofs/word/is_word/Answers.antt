use Rattle.std.proofs.Common.{map}
use Rattle.std.specs.Char.{to_ascii_lowercase}
use Rattle.mail_message.proofs.WordLaws.{decided}
use Rattle.mail_message.proofs.word.is_word.Goals as goal

pub returns : goal.returns
returns c = decided (map to_ascii_lowercase c.args.text.now) (map to_ascii_lowercase c.args.word.now) _ c.eq_ignore_ascii_case.ensures.test
