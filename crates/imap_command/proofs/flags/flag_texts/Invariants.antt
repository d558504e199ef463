use Rattle.std.proofs.Common.{◌≡◌, ◌++◌, map}
use Rattle.std.specs.Slice.Iter.{iter_rest}
use Rattle.imap_command.specs.Flags.{system_texts}
use Rattle.imap_command.proofs.flags.flag_texts.Given as goal

-- the texts so far and the keywords that are left are all flags
abbrev pub invariant-loop-keyword : goal.invariant-loop-keyword
invariant-loop-keyword l = map (λ text. text.now) l.texts ++ iter_rest l.keyword-iterator ≡ system_texts l.flags.system ++ l.flags.keywords
