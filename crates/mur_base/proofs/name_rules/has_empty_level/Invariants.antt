use Rattle.std.proofs.Common.{◌≡◌, drop}
use Rattle.mur_base.specs.Names.{has_empty_level}
use Rattle.mur_base.proofs.EmptyLevels.{empty_from}
use Rattle.mur_base.proofs.name_rules.has_empty_level.Given as goal

abbrev pub invariant-loop-byte : goal.invariant-loop-byte
invariant-loop-byte l = empty_from l.at_begin (drop l.byte-index l.text) ≡ has_empty_level l.text
