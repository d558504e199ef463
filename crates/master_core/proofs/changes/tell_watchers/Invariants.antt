use Rattle.std.proofs.Common.{◌≡◌, ◌++◌, map}
use Rattle.master_core.specs.Changes.{watcher_told}
use Rattle.master_core.proofs.changes.tell_watchers.Given as goal

-- the streams told so far, and those to come
abbrev pub invariant-loop-conn : goal.invariant-loop-conn
invariant-loop-conn l = l.outs ++ map (watcher_told l.line) l.conn-iterator ≡ l.initial.outs ++ map (watcher_told l.line) l.watchers
