use Rattle.std.proofs.Common.{◌≡◌, suc, length, nat_lt, nat_le, sym, ap, ◌∙◌, arith}
use Rattle.std.specs.Ordering.{nat_cmp}
use Rattle.std.specs.Cmp.Lexicographic.{slice_cmp}
use Rattle.std.proofs.lemmas.Bool.Decides.{nat_tests}
use Rattle.std.proofs.lemmas.Cmp.{nat_list_cmp_total}
use Rattle.mail_message.proofs.KeywordLaws.{there_stays, length_absent}
use Rattle.mail_message.proofs.keyword.Keywords.has_room.Goals as goal

pub returns-then-contains : goal.returns-then-contains
returns-then-contains c =
    let stays =
    there_stays (slice_cmp nat_cmp) nat_list_cmp_total c.args.keyword.now c.args.self.now c.contains.ensures.ordered (sym c.contains.ensures.value ∙ c.if-contains.true) in
    ap (λ n. nat_le n c.args.most) (c.len.ensures ∙ sym (ap length stays))

pub returns : goal.returns
returns c =
    let longer = length_absent (slice_cmp nat_cmp) c.args.self.now c.args.keyword.now (sym c.contains.ensures.value ∙ c.if-contains.false) in
    let here : c.len-2.result ≡ length c.args.self.now = c.len-2.ensures in
    let next : nat_lt (length c.args.self.now) c.args.most ≡ nat_le (suc (length c.args.self.now)) c.args.most = grind (arith, nat_tests) in
    ap (λ n. nat_lt n c.args.most) here ∙ next ∙ sym (ap (λ n. nat_le n c.args.most) longer)
