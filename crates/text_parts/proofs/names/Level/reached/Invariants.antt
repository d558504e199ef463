use Rattle.std.proofs.Common.{◌≡◌, Some, drop}
use Rattle.text_parts.specs.Names.{reached}
use Rattle.text_parts.proofs.names.Level.reached.Given as goal

-- what is left of the text decides
abbrev pub invariant-loop-byte : goal.invariant-loop-byte
invariant-loop-byte l = reached (Some l.level) (drop l.byte-index l.text) ≡ reached (Some l.fn.self) l.text
