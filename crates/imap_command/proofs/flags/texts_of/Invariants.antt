use Rattle.std.proofs.Common.{◌≡◌, ◌++◌, map}
use Rattle.std.specs.Slice.Iter.{iter_rest}
use Rattle.imap_command.proofs.flags.texts_of.Given as goal

-- the texts so far and the keywords that are left are all keywords
abbrev pub invariant-loop-keyword : goal.invariant-loop-keyword
invariant-loop-keyword l = map (λ text. text.now) l.texts ++ iter_rest l.keyword-iterator ≡ l.keywords
