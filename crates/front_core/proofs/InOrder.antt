-- A list that is put in order: what holds of each still does, a part of it is in order, too, one in order stays as it is, and a stable sort gives it.
use Rattle.std.proofs.Common.{◌≡◌, ℕ, suc, ◌<◌, ◌≤◌, Bool, true, false, not, ◌&&◌, cond, List, [], ◌∷◌, length, get_or, filter, refl, sym, ap, ◌∙◌, arith}
use Rattle.std.specs.Prelude.{⊤}
use Rattle.std.specs.Cmp.{IsStrictWeakOrder}
use Rattle.std.specs.List.{AllByRecursion}
use Rattle.std.specs.List.Sorted.{IsSortedBy, IsStableBy, ties}
use Rattle.std.proofs.lemmas.List.Sorted.{sorted_far}
use Rattle.front_core.specs.AskOrder.{in_order, put_in}

both_no : (a b : Bool) → (not a && not b) ≡ true → (a ≡ false) × (b ≡ false)
both_no false false e = (refl, refl)
both_no false true e = cc
both_no true b e = cc

none_of : (a b : Bool) → a ≡ false → b ≡ false → (not a && not b) ≡ true
none_of false false e f = refl
none_of false true e f = cc
none_of true b e f = cc

module _ {X : Type 0} where
  kept : (p : X → Bool) (it : X) (all : List X) → p it ≡ true → filter p (it ∷ all) ≡ it ∷ filter p all
  kept p it all e = rw e refl

  passed : (p : X → Bool) (it : X) (all : List X) → p it ≡ false → filter p (it ∷ all) ≡ filter p all
  passed p it all e = rw e refl

  -- what holds of each holds of each of a part
  part_all : (P : X → Type 0) (p : X → Bool) (all : List X) → AllByRecursion P all → AllByRecursion P (filter p all)
  part_all P p [] are = tt
  part_all P p (first ∷ rest) are = by_test (part_all P p rest are.1) (p first)
    where
      by_test : AllByRecursion P (filter p rest) → (b : Bool) → AllByRecursion P (cond b (first ∷ filter p rest) (filter p rest))
      by_test more true = (are.0, more)
      by_test more false = more

module _ {X : Type 0} (is_earlier : X → X → Bool) where
  put_all : (P : X → Type 0) (it : X) (all : List X) → P it → AllByRecursion P all → AllByRecursion P (put_in is_earlier it all)
  unfolding put_in
  put_all P it [] is are = (is, tt)
  put_all P it (first ∷ rest) is are = by_test (put_all P it rest is are.1) (is_earlier first it)
    where
      by_test : AllByRecursion P (put_in is_earlier it rest) → (b : Bool) → AllByRecursion P (cond b (first ∷ put_in is_earlier it rest) (it ∷ first ∷ rest))
      by_test more true = (are.0, more)
      by_test more false = (is, are)

  -- what holds of each still does
  pub ordered_all : (P : X → Type 0) (all : List X) → AllByRecursion P all → AllByRecursion P (in_order is_earlier all)
  unfolding in_order
  ordered_all P [] are = tt
  ordered_all P (it ∷ all) are = put_all P it (in_order is_earlier all) are.0 (ordered_all P all are.1)

  -- none of them is earlier than this one
  abbrev pub Follow : X → List X → Type 0
  Follow one all = AllByRecursion (λ it. is_earlier it one ≡ false) all

  -- in order: none is earlier than one in front of it
  abbrev pub Rise : List X → Type 0
  Rise [] = ⊤
  Rise (first ∷ rest) = Follow first rest × Rise rest

  put_first : (it : X) (all : List X) → Follow it all → put_in is_earlier it all ≡ it ∷ all
  unfolding put_in
  put_first it [] are = refl
  put_first it (first ∷ rest) are = ap (λ (b : Bool). cond b (first ∷ put_in is_earlier it rest) (it ∷ first ∷ rest)) are.0

  -- one in order stays as it is
  pub rising_stays : (all : List X) → Rise all → in_order is_earlier all ≡ all
  unfolding in_order
  rising_stays [] up = refl
  rising_stays (it ∷ all) up = ap (put_in is_earlier it) (rising_stays all up.1) ∙ put_first it all up.0

  module _ (order : IsStrictWeakOrder is_earlier) where
    follow_further : (one other : X) (all : List X) → is_earlier other one ≡ false → Follow other all → Follow one all
    follow_further one other [] late are = tt
    follow_further one other (first ∷ rest) late are = (order.chain first other one are.0 late, follow_further one other rest late are.1)

    rise_put : (it : X) (all : List X) → Rise all → Rise (put_in is_earlier it all)
    unfolding put_in
    rise_put it [] up = (tt, tt)
    rise_put it (first ∷ rest) up = by_test (rise_put it rest up.1) (is_earlier first it) refl
      where
        by_test : Rise (put_in is_earlier it rest) → (b : Bool) → is_earlier first it ≡ b
            → Rise (cond b (first ∷ put_in is_earlier it rest) (it ∷ first ∷ rest))
        by_test more true e = (put_all (λ (x : X). is_earlier x first ≡ false) it rest (order.one_way first it e) up.0, more)
        by_test more false e = ((e, follow_further it first rest e up.0), up)

    pub ordered_rise : (all : List X) → Rise (in_order is_earlier all)
    unfolding in_order
    ordered_rise [] = tt
    ordered_rise (it ∷ all) = rise_put it (in_order is_earlier all) (ordered_rise all)

    -- ---- a part of them

    module _ (p : X → Bool) where
      put_part : (it : X) (all : List X) → Rise all → filter p (put_in is_earlier it all) ≡ cond (p it) (put_in is_earlier it (filter p all)) (filter p all)
      unfolding put_in
      put_part it [] up = refl
      put_part it (first ∷ rest) up = by_test (put_part it rest up.1) (is_earlier first it) refl
        where
          behind : is_earlier first it ≡ true → (is_kept own : Bool)
              → cond is_kept (first ∷ cond own (put_in is_earlier it (filter p rest)) (filter p rest))
              (cond own (put_in is_earlier it (filter p rest)) (filter p rest))
              ≡ cond own (put_in is_earlier it (cond is_kept (first ∷ filter p rest) (filter p rest))) (cond is_kept (first ∷ filter p rest) (filter p rest))
          behind e true true = ap (λ (b : Bool). cond b (first ∷ put_in is_earlier it (filter p rest)) (it ∷ first ∷ filter p rest)) (sym e)
          behind e true false = refl
          behind e false own = refl

          by_test : filter p (put_in is_earlier it rest) ≡ cond (p it) (put_in is_earlier it (filter p rest)) (filter p rest) → (b : Bool)
              → is_earlier first it ≡ b
              → filter p (cond b (first ∷ put_in is_earlier it rest) (it ∷ first ∷ rest))
              ≡ cond (p it) (put_in is_earlier it (filter p (first ∷ rest))) (filter p (first ∷ rest))
          by_test more true e = ap (λ (l : List X). cond (p first) (first ∷ l) l) more ∙ behind e (p first) (p it)
          by_test more false e = ap (λ (l : List X). cond (p it) l (filter p (first ∷ rest)))
              (sym (put_first it (filter p (first ∷ rest))
              (part_all (λ (x : X). is_earlier x it ≡ false) p (first ∷ rest) (e, follow_further it first rest e up.0))))

      -- a part of them is in that order, too
      pub ordered_part : (all : List X) → filter p (in_order is_earlier all) ≡ in_order is_earlier (filter p all)
      unfolding in_order
      ordered_part [] = refl
      ordered_part (it ∷ all) =
          put_part it (in_order is_earlier all) (ordered_rise all)
          ∙ ap (λ (l : List X). cond (p it) (put_in is_earlier it l) l) (ordered_part all) ∙ goes_on (p it)
        where
          goes_on : (own : Bool) → cond own (put_in is_earlier it (in_order is_earlier (filter p all))) (in_order is_earlier (filter p all))
              ≡ in_order is_earlier (cond own (it ∷ filter p all) (filter p all))
          goes_on true = refl
          goes_on false = refl

      -- where a part is in order, it is there as it was
      pub part_stays : (all : List X) → Rise (filter p all) → filter p (in_order is_earlier all) ≡ filter p all
      part_stays all up = ordered_part all ∙ rising_stays (filter p all) up

    -- ---- a stable sort

    abbrev is_tied : X → X → Bool
    is_tied = ties is_earlier

    not_itself : (it : X) → is_earlier it it ≡ false
    not_itself it = by_test (is_earlier it it) refl
      where
        by_test : (b : Bool) → is_earlier it it ≡ b → is_earlier it it ≡ false
        by_test true e = order.one_way it it e
        by_test false e = e

    tied_itself : (it : X) → is_tied it it ≡ true
    tied_itself it = let late = not_itself it in none_of _ _ late late

    tied_follow : (one it : X) (all : List X) → is_tied one it ≡ true → Follow it (filter (is_tied one) all)
    tied_follow one it [] e = tt
    tied_follow one it (first ∷ rest) e = by_test (tied_follow one it rest e) (is_tied one first) refl
      where
        by_test : Follow it (filter (is_tied one) rest) → (b : Bool) → is_tied one first ≡ b
            → Follow it (cond b (first ∷ filter (is_tied one) rest) (filter (is_tied one) rest))
        by_test more true is = (order.chain first one it (both_no _ _ is).1 (both_no _ _ e).0, more)
        by_test more false is = more

    tied_rise : (one : X) (all : List X) → Rise (filter (is_tied one) all)
    tied_rise one [] = tt
    tied_rise one (first ∷ rest) = by_test (tied_rise one rest) (is_tied one first) refl
      where
        by_test : Rise (filter (is_tied one) rest) → (b : Bool) → is_tied one first ≡ b
            → Rise (cond b (first ∷ filter (is_tied one) rest) (filter (is_tied one) rest))
        by_test more true is = (tied_follow one first rest is, more)
        by_test more false is = more

    -- one that is found among those that follow isn't earlier
    found_follows : (first it : X) (all : List X) (w : X) (ws : List X) → Follow first all → filter (is_tied it) all ≡ w ∷ ws → is_earlier it first ≡ false
    found_follows first it [] w ws are e = cc
    found_follows first it (next ∷ rest) w ws are e = by_test (λ more. found_follows first it rest w ws are.1 more) (is_tied it next) refl
      where
        by_test : (filter (is_tied it) rest ≡ w ∷ ws → is_earlier it first ≡ false) → (b : Bool) → is_tied it next ≡ b → is_earlier it first ≡ false
        by_test more true is = order.chain it next first (both_no _ _ is).0 are.0
        by_test more false is = more (sym (passed (is_tied it) next rest is) ∙ e)

    same_order : (one other : List X) → Rise one → Rise other → ((it : X) → filter (is_tied it) one ≡ filter (is_tied it) other) → one ≡ other
    same_order [] [] up above same = refl
    same_order [] (z ∷ zs) up above same = let no : [] ≡ z ∷ filter (is_tied z) zs = same z ∙ kept (is_tied z) z zs (tied_itself z) in cc
    same_order (y ∷ ys) [] up above same = let no : [] ≡ y ∷ filter (is_tied y) ys = sym (same y) ∙ kept (is_tied y) y ys (tied_itself y) in cc
    same_order (y ∷ ys) (z ∷ zs) up above same =
        let at_y = kept (is_tied y) y ys (tied_itself y) in
        let at_z = kept (is_tied z) z zs (tied_itself z) in
        let none = found_follows z y (z ∷ zs) y _ (not_itself z, above.0) (sym (same y) ∙ at_y) in
        let late = found_follows y z (y ∷ ys) z _ (not_itself y, up.0) (same z ∙ at_z) in
        let heads = sym at_y ∙ same y ∙ kept (is_tied y) z zs (none_of _ _ none late) in
        let head : y ≡ z = cc in
        let tails : (it : X) → filter (is_tied it) ys ≡ filter (is_tied it) zs = λ it. tail_by it head (is_tied it y) refl in
        ap (λ w. w ∷ ys) head ∙ ap (λ l. z ∷ l) (same_order ys zs up.1 above.1 tails)
      where
        tail_by : (it : X) → y ≡ z → (b : Bool) → is_tied it y ≡ b → filter (is_tied it) ys ≡ filter (is_tied it) zs
        tail_by it head true e =
            let both = sym (kept (is_tied it) y ys e) ∙ same it ∙ kept (is_tied it) z zs (ap (is_tied it) (sym head) ∙ e) in cc
        tail_by it head false e = sym (passed (is_tied it) y ys e) ∙ same it ∙ passed (is_tied it) z zs (ap (is_tied it) (sym head) ∙ e)

    follow_sorted : (first : X) (rest : List X) → ((at : ℕ) → at < length rest → is_earlier (get_or rest at first) first ≡ false) → Follow first rest
    follow_sorted first [] are = tt
    follow_sorted first (next ∷ rest) are = (are 0 (omega arith), follow_sorted first rest (λ at less. are (suc at) (omega arith)))

    rise_sorted : (all : List X) → ((i j : ℕ) (d : X) → i ≤ j → j < length all → is_earlier (get_or all j d) (get_or all i d) ≡ false) → Rise all
    rise_sorted [] are = tt
    rise_sorted (first ∷ rest) are = (
      follow_sorted first rest (λ at less. are 0 (suc at) first (omega arith) (omega arith)),
      rise_sorted rest (λ i j d to less. are (suc i) (suc j) d (omega arith) (omega arith)),
    )

    pub ordered_by_sort : (was all : List X) → IsSortedBy is_earlier all → IsStableBy is_earlier was all → all ≡ in_order is_earlier was
    ordered_by_sort was all sorted stable =
        same_order all (in_order is_earlier was) (rise_sorted all (sorted_far is_earlier order all sorted)) (ordered_rise was)
        (λ it. stable it ∙ sym (part_stays (is_tied it) was (tied_rise it was)))
