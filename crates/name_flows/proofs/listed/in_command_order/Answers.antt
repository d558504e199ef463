use Rattle.std.proofs.Common.{◌≡◌, ◌∙◌, ℕ, subst, rules}
use Rattle.std.proofs.lemmas.Fn.{always_returns_same}
use Rattle.name_flows.specs.declared.ask.Told.{Told}
use Rattle.name_flows.specs.AnswerOrder.{in_command_order}
use Rattle.name_flows.proofs.AnswerOrder.{ordered_by_sort}
use Rattle.name_flows.proofs.listed.in_command_order.Goals as goal

abbrev key : Told → ℕ × ℕ
key told = ((told.answer).id.conn, (told.answer).id.command)

pub returns : goal.returns
returns c =
    let sort = c.in_ok-sort_by_key.ensures in
    let by = always_returns_same _ (λ a r. r ≡ key (a.0).now) _ (λ a r q k. search rules) in
    c.from_vec.ensures
    ∙ subst (λ all. c.sort_by_key.new.self.items ≡ in_command_order all) c.into_vec-all.ensures
    (ordered_by_sort c.into_vec-all.result.items _ (sort.sorted key by) (sort.stable key by))
