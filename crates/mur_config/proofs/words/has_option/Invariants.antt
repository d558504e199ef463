use Rattle.std.proofs.Common.{◌≡◌, is_none, drop, map}
use Rattle.std.specs.Prelude.{string_bytes}
use Rattle.mur_config.specs.Words.{operands_of}
use Rattle.mur_config.proofs.words.has_option.Given as goal

abbrev pub invariant-loop-word : goal.invariant-loop-word
invariant-loop-word l = is_none (operands_of (map string_bytes (drop l.word-index l.words))) ≡ is_none (operands_of (map string_bytes l.words))
