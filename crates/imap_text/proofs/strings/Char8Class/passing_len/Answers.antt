use Rattle.std.proofs.Common.{sym, subst}
use Rattle.imap_text.proofs.NoNul.{StandBefore, found_before}
use Rattle.imap_text.proofs.strings.Char8Class.passing_len.Goals as goal

pub returns : goal.returns
returns c =
    let before = found_before c.args.bytes.now c.memchr.result c.memchr.ensures in
    let is = subst (StandBefore c.args.bytes.now) (sym c.unwrap_or.ensures) before in
    record { there = is.there; passing = is.passing; ends = is.ends }
