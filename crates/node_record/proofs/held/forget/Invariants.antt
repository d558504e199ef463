use Rattle.std.proofs.Common.{◌≡◌, drop}
use Rattle.std.specs.List.{fold}
use Rattle.node_record.specs.Held.{forgotten}
use Rattle.node_record.proofs.held.forget.Given as goal

-- the names that are left are taken away of what is left
abbrev pub invariant-loop-name : goal.invariant-loop-name
invariant-loop-name l = fold forgotten l.held (drop l.name-index l.names) ≡ fold forgotten l.initial.held l.names
