use Rattle.std.specs.Cmp.Lexicographic.{pointwise_decides, bytes_decides}
use Rattle.mail_message.proofs.keyword.Keywords.is_same.Goals as goal

pub returns : goal.returns
returns c = rw (← c.self.view_is, ← c.others.view_is, c.eq.ensures) (pointwise_decides bytes_decides c.self.inside.list.items c.others.inside.list.items)
