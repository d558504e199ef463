use Rattle.std.proofs.Common.{Some, None, ap, subst}
use Rattle.mail_delta.proofs.SinceLaw.{AreSince, kept-since, told-since, never-since, complete-since}
use Rattle.mail_delta.proofs.log.ChangeLog.since.Goals as goal

pub returns-in_ok-delta-in-Some-clause-kept : goal.returns-in_ok-delta-in-Some-clause-kept
returns-in_ok-delta-in-Some-clause-kept c =
    let log = c.args.self.now in let mark = c.args.mark in
    kept-since log mark (Some c.in-Some.notes) (subst (AreSince log mark) c.in-Some.is c.in_ok-since.ensures)

pub returns-in_ok-delta-in-Some-clause-delta : goal.returns-in_ok-delta-in-Some-clause-delta
returns-in_ok-delta-in-Some-clause-delta c = λ rows were rising had.
    let log = c.args.self.now in let mark = c.args.mark in
    ap Some (told-since log mark c.args.content.now rows rising were had c.in-Some.notes c.args.size c.in_ok-delta-in-Some.delta
    (subst (AreSince log mark) c.in-Some.is c.in_ok-since.ensures) c.in_ok-delta-in-Some.ensures.ordered c.requires c.in_ok-delta-in-Some.ensures.value)

pub returns-in_ok-delta-in-Some-clause-complete : goal.returns-in_ok-delta-in-Some-clause-complete
returns-in_ok-delta-in-Some-clause-complete c = λ old were rising had.
    let log = c.args.self.now in let mark = c.args.mark in
    complete-since log mark c.args.content.now old rising were had c.in-Some.notes c.args.size c.in_ok-delta-in-Some.delta
    (subst (AreSince log mark) c.in-Some.is c.in_ok-since.ensures) c.in_ok-delta-in-Some.ensures.ordered c.requires c.in_ok-delta-in-Some.ensures.value

pub returns-in-None-clause-kept : goal.returns-in-None-clause-kept
returns-in-None-clause-kept c =
    let log = c.args.self.now in let mark = c.args.mark in
    kept-since log mark None (subst (AreSince log mark) c.in-None.is c.in_ok-since.ensures)

pub returns-in-None-clause-delta : goal.returns-in-None-clause-delta
returns-in-None-clause-delta c = λ rows were rising had.
    let log = c.args.self.now in let mark = c.args.mark in
    never-since log mark c.args.content.now rows rising were had (subst (AreSince log mark) c.in-None.is c.in_ok-since.ensures)
