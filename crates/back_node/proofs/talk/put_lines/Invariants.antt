use Rattle.std.proofs.Common.{◌≡◌, ◌++◌, map}
use Rattle.std.specs.Vec.Iter.{into_iter_items}
use Rattle.back_node.specs.Takes.{line_out}
use Rattle.back_node.proofs.talk.put_lines.Given as goal

-- the outputs so far, and the lines to come
abbrev pub invariant-loop-line : goal.invariant-loop-line
invariant-loop-line l =
    l.outs ++ map (line_out l.master) (into_iter_items l.line-iterator) ≡ l.initial.outs ++ map (line_out l.master) l.fn.lines
