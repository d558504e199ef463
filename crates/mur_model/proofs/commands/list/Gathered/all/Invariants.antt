use Rattle.std.proofs.Common.{◌≡◌, ◌++◌, drop}
use Rattle.mur_model.proofs.commands.list.Gathered.all.Given as goal

-- the names so far, and those to come
abbrev pub invariant-loop-text : goal.invariant-loop-text
invariant-loop-text l = l.names ++ drop l.text-index l.self.own ≡ l.self.own

abbrev pub invariant-loop-level : goal.invariant-loop-level
invariant-loop-level l = l.names ++ drop l.level-index l.self.named ≡ l.self.own ++ l.self.named
