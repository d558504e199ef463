use Rattle.imap_reply.proofs.NoForgery.{read_as_meant}
use Rattle.imap_reply.proofs.reply.write.Goals as goal

pub returns-in_err-put_lines-clause-read : goal.returns-in_err-put_lines-clause-read
returns-in_err-put_lines-clause-read c = read_as_meant c.args.tag.now c.args.reply.now

pub returns-clause-read : goal.returns-clause-read
returns-clause-read c = read_as_meant c.args.tag.now c.args.reply.now
