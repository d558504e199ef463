use Rattle.std.proofs.Common.{◌≡◌, ◌++◌, map}
use Rattle.std.specs.Vec.Iter.{into_iter_items}
use Rattle.name_flows.specs.Lines.{line_text}
use Rattle.name_flows.proofs.gives.send_all.Given as goal

-- the lines so far
abbrev pub invariant-loop-line : goal.invariant-loop-line
invariant-loop-line l = record {
  texts : l.lines ++ map (line_text l.me l.held) (into_iter_items l.line-iterator) ≡ map (line_text l.me l.held) l.fn.sends;
  queue : l.sent ++ into_iter_items l.line-iterator ≡ l.initial.sent ++ l.fn.sends;
}
