use Rattle.std.proofs.Common.{length, ◌∙◌, subst}
use Rattle.std.specs.List.Sorted.{IsSearchInRange, IsBinarySearchResult}
use Rattle.std.specs.Ordering.{nat_cmp}
use Rattle.std.specs.Cmp.Lexicographic.{slice_cmp}
use Rattle.std.proofs.lemmas.Cmp.{nat_list_cmp_total}
use Rattle.mail_message.specs.Keywords.{AreSortedKeywords}
use Rattle.mail_message.proofs.KeywordLaws.{search_contains}
use Rattle.mail_message.proofs.keyword.Keywords.contains.Goals as goal

pub returns-clause-value : goal.returns-clause-value
returns-clause-value c =
    let same = c.deref.ensures.value ∙ c.self.view_is in
    let found = c.binary_search.result in
    c.is_ok.ensures.value
    ∙ search_contains (slice_cmp nat_cmp) nat_list_cmp_total c.args.keyword.now c.args.self.now (subst AreSortedKeywords c.self.view_is c.self.invariant) found
    (subst (λ xs. IsSearchInRange found (length xs)) same c.binary_search.ensures.bound)
    (subst (λ xs. IsBinarySearchResult (λ y. slice_cmp nat_cmp y c.args.keyword.now) xs found) same c.binary_search.ensures.position)
