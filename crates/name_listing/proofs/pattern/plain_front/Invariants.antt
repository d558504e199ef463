use Rattle.std.proofs.Common.{◌≡◌, false, take}
use Rattle.std.specs.Prelude.{All}
use Rattle.mur_base.specs.Patterns.{is_wildcard}
use Rattle.name_listing.proofs.pattern.plain_front.Given as goal

-- none so far is a wildcard
abbrev pub invariant-loop-i : goal.invariant-loop-i
invariant-loop-i l = All (λ byte. is_wildcard byte ≡ false) (take l.i l.bytes)
