use Rattle.std.specs.Ordering.{nat_cmp}
use Rattle.std.specs.Cmp.Lexicographic.{slice_cmp}
use Rattle.std.proofs.lemmas.Cmp.{nat_list_cmp_total}
use Rattle.mail_message.proofs.KeywordLaws.{sorted_none}
use Rattle.mail_message.proofs.keyword.Keywords.new.Goals as goal

pub invariant_of-result : goal.invariant_of-result
invariant_of-result c = rw c.new.ensures.items (sorted_none (slice_cmp nat_cmp) nat_list_cmp_total)
