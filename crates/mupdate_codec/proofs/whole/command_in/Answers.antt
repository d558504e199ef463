use Rattle.std.proofs.Common.{sym, arith}
use Rattle.mupdate_codec.proofs.WholeLaw.{command_whole, command_front, command_begun, no_command}
use Rattle.mupdate_codec.proofs.whole.command_in.Goals as goal

pub returns-then-used-line : goal.returns-then-used-line
returns-then-used-line c = sym (command_whole c.args.line.now (c.in-Ok.tag, c.in-Ok.command) c.in-Ok.used c.if-used-line.true c.in-Ok.ensures.line)

pub returns-else-used-line : goal.returns-else-used-line
returns-else-used-line c =
    sym (command_front c.args.line.now (c.in-Ok.tag, c.in-Ok.command) c.in-Ok.used (omega (arith, c.in-Ok.ensures.within, c.if-used-line.false)) c.in-Ok.ensures.line)

pub returns-in-Err-More : goal.returns-in-Err-More
returns-in-Err-More c = sym (command_begun c.args.line.now (c.read_command.ensures.more (cc)))

pub returns-in-Err-Bad : goal.returns-in-Err-Bad
returns-in-Err-Bad c = sym (no_command c.args.line.now (c.read_command.ensures.bad c.in-Err-Bad._at (cc)))
