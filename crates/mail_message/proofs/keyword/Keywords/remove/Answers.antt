use Rattle.std.proofs.Common.{◌≡◌, ◌<◌, length, Err, HoldsAt, ◌∙◌, ap, subst}
use Rattle.std.specs.List.Sorted.{IsBinarySearchResult}
use Rattle.std.specs.Ordering.{nat_cmp}
use Rattle.std.specs.Cmp.Lexicographic.{slice_cmp}
use Rattle.std.proofs.lemmas.Cmp.{nat_list_cmp_total}
use Rattle.std.specs.declared.cmp.Ordering.TheVariants.{Equal}
use Rattle.mail_message.specs.Keywords.{AreSortedKeywords, without_keyword}
use Rattle.mail_message.proofs.KeywordLaws.{search_takes, search_leaves, sorted_taken}
use Rattle.mail_message.proofs.keyword.Keywords.remove.Goals as goal

pub invariant_of-self : goal.invariant_of-self
invariant_of-self c =
    rw c.remove.ensures.items
    (sorted_taken (slice_cmp nat_cmp) nat_list_cmp_total c.args.keyword.now c.self.inside.list.items c.self.invariant c.in-Ok.place
    (subst (λ xs. c.in-Ok.place < length xs) c.deref.ensures.value c.in-Ok.ensures.bound)
    (subst (λ xs. HoldsAt (λ y. slice_cmp nat_cmp y c.args.keyword.now ≡ Equal) xs c.in-Ok.place) c.deref.ensures.value c.in-Ok.ensures.position))

pub returns-in-Ok-clause-value : goal.returns-in-Ok-clause-value
returns-in-Ok-clause-value c =
    c.remove.ensures.items
    ∙ search_takes (slice_cmp nat_cmp) nat_list_cmp_total c.args.keyword.now c.self.inside.list.items c.self.invariant c.in-Ok.place
    (subst (λ xs. c.in-Ok.place < length xs) c.deref.ensures.value c.in-Ok.ensures.bound)
    (subst (λ xs. HoldsAt (λ y. slice_cmp nat_cmp y c.args.keyword.now ≡ Equal) xs c.in-Ok.place) c.deref.ensures.value c.in-Ok.ensures.position)
    ∙ ap (λ xs. without_keyword xs c.args.keyword.now) c.self.view_is

pub returns-in-Err-clause-value : goal.returns-in-Err-clause-value
returns-in-Err-clause-value c =
    let same = c.deref.ensures.value ∙ c.self.view_is in
    search_leaves (slice_cmp nat_cmp) nat_list_cmp_total c.args.keyword.now c.args.self.now (subst AreSortedKeywords c.self.view_is c.self.invariant) c.in-Err.field-0
    (subst (λ xs. IsBinarySearchResult (λ y. slice_cmp nat_cmp y c.args.keyword.now) xs (Err c.in-Err.field-0)) same c.in-Err.ensures.position)
