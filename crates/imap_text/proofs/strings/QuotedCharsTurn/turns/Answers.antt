use Rattle.std.proofs.Common.{arith}
use Rattle.grammar.proofs.QuotedRuns.{takes_other, takes_plain}
use Rattle.imap_text.specs.Strings.{quoted_char}
use Rattle.imap_text.proofs.StringsLaw.{puts_plain}
use Rattle.imap_text.proofs.strings.QuotedCharsTurn.turns.Goals as goal

pub returns-then-taken-gt0-clause-taken : goal.returns-then-taken-gt0-clause-taken
returns-then-taken-gt0-clause-taken c =
    takes_plain quoted_char puts_plain c.args.most c.args.state c.args.bytes.now c.in_ok-text.text c.in_ok-text.rest.now c.in_ok-text.taken
    (omega (arith, c.if-taken-gt0.true)) c.in_ok-text.ensures

pub returns-clause-taken : goal.returns-clause-taken
returns-clause-taken c =
    takes_other quoted_char puts_plain c.args.most c.args.state c.args.bytes.now c.in_ok-text.text c.in_ok-text.rest.now c.in_ok-text-2.text c.in_ok-text-2.rest.now
    c.in_ok-text.taken (omega (arith, c.if-taken-gt0.false)) c.in_ok-text.ensures c.requires.some c.requires.begins c.in_ok-text-2.ensures
