use Rattle.std.proofs.Common.{◌≡◌, drop}
use Rattle.std.specs.List.{list_all}
use Rattle.imap_text.proofs.strings.are_all.Given as goal

-- the bytes that are left decide
abbrev pub invariant-loop-byte : goal.invariant-loop-byte
invariant-loop-byte g l = list_all (g.C.Class.test l.class) (drop l.byte-index l.text) ≡ list_all (g.C.Class.test l.class) l.text
