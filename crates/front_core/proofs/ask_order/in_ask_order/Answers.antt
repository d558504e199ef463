use Rattle.std.proofs.Common.{◌≡◌, ◌∙◌, subst, rules}
use Rattle.std.specs.Ordering.{is_lt}
use Rattle.std.proofs.lemmas.Fn.{always_returns_same}
use Rattle.front_core.specs.AskOrder.{asks_earlier, in_ask_order}
use Rattle.front_core.proofs.AskOrder.{ask_order}
use Rattle.front_core.proofs.InOrder.{ordered_by_sort}
use Rattle.front_core.proofs.ask_order.in_ask_order.Goals as goal

pub returns : goal.returns
returns c =
    let sort = c.in_ok-sort_by.ensures in
    let by = always_returns_same _ (λ a r. is_lt r ≡ asks_earlier a.0.now a.1.0.now) _ (λ a r q k. search rules) in
    c.from_vec.ensures
    ∙ subst (λ all. c.sort_by.new.self.items ≡ in_ask_order all) c.into_vec-all.ensures
    (ordered_by_sort asks_earlier ask_order c.into_vec-all.result.items _ (sort.sorted asks_earlier ask_order by) (sort.stable asks_earlier ask_order by))
