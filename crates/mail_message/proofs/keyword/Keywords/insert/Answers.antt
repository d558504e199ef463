use Rattle.std.proofs.Common.{◌≡◌, ◌<◌, length, Err, HoldsAt, ◌∙◌, ap, subst}
use Rattle.std.specs.List.Sorted.{IsBinarySearchResult}
use Rattle.std.specs.Ordering.{nat_cmp}
use Rattle.std.specs.Cmp.Lexicographic.{slice_cmp}
use Rattle.std.proofs.lemmas.Cmp.{nat_list_cmp_total}
use Rattle.std.specs.declared.cmp.Ordering.TheVariants.{Equal}
use Rattle.mail_message.specs.Keywords.{AreSortedKeywords, with_keyword}
use Rattle.mail_message.proofs.KeywordLaws.{search_stays, search_puts, sorted_put}
use Rattle.mail_message.proofs.keyword.Keywords.insert.Goals as goal

pub invariant_of-self-in-Err : goal.invariant_of-self-in-Err
invariant_of-self-in-Err c =
    let at = subst (λ xs. IsBinarySearchResult (λ y. slice_cmp nat_cmp y c.args.keyword) xs (Err c.in-Err.place)) c.deref.ensures.value c.in-Err.ensures.position in
    rw c.in_ok-insert-in-Err.ensures.items
    (sorted_put (slice_cmp nat_cmp) nat_list_cmp_total c.args.keyword c.self.inside.list.items c.self.invariant c.in-Err.place at)

pub returns-in-Ok-clause-ok : goal.returns-in-Ok-clause-ok
returns-in-Ok-clause-ok c =
    let same = c.deref.ensures.value ∙ c.self.view_is in
    search_stays (slice_cmp nat_cmp) nat_list_cmp_total c.args.keyword c.args.self.now (subst AreSortedKeywords c.self.view_is c.self.invariant) c.in-Ok.field-0
    (subst (λ xs. c.in-Ok.field-0 < length xs) same c.in-Ok.ensures.bound)
    (subst (λ xs. HoldsAt (λ y. slice_cmp nat_cmp y c.args.keyword ≡ Equal) xs c.in-Ok.field-0) same c.in-Ok.ensures.position)

pub returns-in_ok-insert-in-Err-clause-ok : goal.returns-in_ok-insert-in-Err-clause-ok
returns-in_ok-insert-in-Err-clause-ok c =
    let at = subst (λ xs. IsBinarySearchResult (λ y. slice_cmp nat_cmp y c.args.keyword) xs (Err c.in-Err.place)) c.deref.ensures.value c.in-Err.ensures.position in
    c.in_ok-insert-in-Err.ensures.items
    ∙ search_puts (slice_cmp nat_cmp) nat_list_cmp_total c.args.keyword c.self.inside.list.items c.self.invariant c.in-Err.place at
    ∙ ap (λ xs. with_keyword xs c.args.keyword) c.self.view_is
