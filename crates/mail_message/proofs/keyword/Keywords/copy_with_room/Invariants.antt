use Rattle.std.proofs.Common.{◌≡◌, ◌++◌, drop}
use Rattle.mail_message.proofs.keyword.Keywords.copy_with_room.Given as goal

-- the keywords so far and those that are left are all keywords
abbrev pub invariant-loop-keyword : goal.invariant-loop-keyword
invariant-loop-keyword l = l.list.items ++ drop l.keyword-index l.keyword-items ≡ l.self
