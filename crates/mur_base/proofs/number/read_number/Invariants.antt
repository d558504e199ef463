use Rattle.std.proofs.Common.{◌≡◌, Some, drop}
use Rattle.mur_base.specs.Number.{number_of}
use Rattle.mur_base.proofs.ReadDigits.{read_behind}
use Rattle.mur_base.proofs.number.read_number.Given as goal

abbrev pub invariant-loop-byte : goal.invariant-loop-byte
invariant-loop-byte l = read_behind (Some l.number) (drop l.byte-index l.text) ≡ number_of l.text
