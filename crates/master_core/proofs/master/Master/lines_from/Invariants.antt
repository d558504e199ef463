use Rattle.std.proofs.Common.{◌≡◌, List, take}
use Rattle.link_msg.specs.declared.out.Out.{Out}
use Rattle.master_core.specs.declared.master.Master.{Master}
use Rattle.std.specs.List.{fold}
use Rattle.master_core.specs.Outside.{Stepped, still, line_comes}
use Rattle.master_core.proofs.master.Master.lines_from.Given as goal

abbrev stepped : Master → List Out → Stepped
stepped master outs = record { master = master; outs = outs }

-- the lines so far
abbrev pub invariant-loop-line : goal.invariant-loop-line
invariant-loop-line l = stepped l.self l.outs ≡ fold (line_comes l.conn) (still l.initial.self) (take l.line-index l.lines)
