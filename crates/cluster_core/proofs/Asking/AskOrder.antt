-- The asks of one step go by the names of their mailboxes: of each kind of outputs as many go out.
use Rattle.std.proofs.Common.{◌≡◌, Bool, true, false, cond, List, [], ◌∷◌, refl, ◌∙◌, arith}
use Rattle.std.specs.Prelude.{count_by}
use Rattle.front_core.specs.AskOrder.{asks_earlier, in_ask_order, in_order, put_in}
use Rattle.link_msg.specs.declared.out.Out.{Out}
use Rattle.mark_history.proofs.Numbers.{count_cons}

module _ (p : Out → Bool) where
  put_count : (it : Out) (all : List Out) → count_by p (put_in asks_earlier it all) ≡ count_by p (it ∷ all)
  unfolding put_in
  put_count it [] = refl
  put_count it (first ∷ rest) = by (put_count it rest) (asks_earlier first it)
    where
      by : count_by p (put_in asks_earlier it rest) ≡ count_by p (it ∷ rest) → (earlier : Bool)
          → count_by p (cond earlier (first ∷ put_in asks_earlier it rest) (it ∷ first ∷ rest)) ≡ count_by p (it ∷ first ∷ rest)
      by more true = omega (
        arith,
        more,
        count_cons p first (put_in asks_earlier it rest),
        count_cons p it rest,
        count_cons p it (first ∷ rest),
        count_cons p first rest,
      )
      by more false = refl

  pub order_count : (outs : List Out) → count_by p (in_ask_order outs) ≡ count_by p outs
  unfolding in_order
  order_count [] = refl
  order_count (it ∷ all) =
      put_count it (in_ask_order all) ∙ omega (arith, order_count all, count_cons p it (in_ask_order all), count_cons p it all)
