-- Answers in the order of their commands: what holds of each still does, a part of them is in that order, too, and a stable sort gives it.
use Rattle.std.proofs.Common.{◌≡◌, ℕ, suc, ◌<◌, ◌≤◌, Bool, true, false, not, ◌&&◌, cond, List, [], ◌∷◌, ◌++◌, length, get_or, filter, refl, sym, ap, ◌∙◌, arith}
use Rattle.std.specs.Prelude.{All}
use Rattle.std.specs.Cmp.{IsStrictWeakOrder, nat_cmp_total, on_total, then_total}
use Rattle.std.specs.List.{fold}
use Rattle.std.specs.List.Sorted.{IsSortedBy, IsStableBy, ties}
use Rattle.std.proofs.lemmas.List.{append-nil, append_assoc}
use Rattle.std.proofs.lemmas.List.Elements.{All-nil, All-cons, All-head, All-tail}
use Rattle.std.proofs.lemmas.List.MinMax.{ranks_by}
use Rattle.std.proofs.lemmas.List.Sorted.{sorted_far}
use Rattle.mur_base.specs.declared.point.AskId.{AskId}
use Rattle.name_flows.specs.declared.ask.Told.{Told}
use Rattle.name_flows.specs.AnswerOrder.{is_earlier, with_answer, in_command_order}

pub earlier_order : IsStrictWeakOrder is_earlier
earlier_order =
    ranks_by (then_total (on_total (λ (id : AskId). id.conn) nat_cmp_total) (on_total (λ (id : AskId). id.command) nat_cmp_total))
    (λ (told : Told). (told.answer).id)

-- ---- what holds of all of them

put_all : (P : Told → Type 0) (all : List Told) (it : Told) → All P all → P it → All P (with_answer all it)
unfolding with_answer
put_all P [] it are is = All-cons P it [] is are
put_all P (first ∷ rest) it are is = by_test (put_all P rest it (All-tail P first rest are) is) (is_earlier it first)
  where
    by_test : All P (with_answer rest it) → (b : Bool) → All P (cond b (it ∷ first ∷ rest) (first ∷ with_answer rest it))
    by_test more true = All-cons P it (first ∷ rest) is are
    by_test more false = All-cons P first (with_answer rest it) (All-head P first rest are) more

folds_all : (P : Told → Type 0) (answers all : List Told) → All P answers → All P all → All P (fold with_answer all answers)
folds_all P [] all are rest = rest
folds_all P (it ∷ answers) all are rest =
    folds_all P answers (with_answer all it) (All-tail P it answers are) (put_all P all it rest (All-head P it answers are))

pub ordered_all : (P : Told → Type 0) (answers : List Told) → All P answers → All P (in_command_order answers)
ordered_all P answers are = folds_all P answers [] are (All-nil P)

-- ---- lists in that order

-- none is earlier
abbrev pub Follow : Told → List Told → Type 0
Follow one [] = Unit {0}
Follow one (first ∷ rest) = (is_earlier first one ≡ false) × Follow one rest

abbrev pub Rise : List Told → Type 0
Rise [] = Unit {0}
Rise (first ∷ rest) = Follow first rest × Rise rest

follow_further : (one other : Told) (all : List Told) → is_earlier other one ≡ false → Follow other all → Follow one all
follow_further one other [] late are = tt
follow_further one other (first ∷ rest) late are = (earlier_order.chain first other one are.0 late, follow_further one other rest late are.1)

follow_put : (one it : Told) (all : List Told) → is_earlier it one ≡ false → Follow one all → Follow one (with_answer all it)
unfolding with_answer
follow_put one it [] late are = (late, tt)
follow_put one it (first ∷ rest) late are = by_test (follow_put one it rest late are.1) (is_earlier it first)
  where
    by_test : Follow one (with_answer rest it) → (b : Bool) → Follow one (cond b (it ∷ first ∷ rest) (first ∷ with_answer rest it))
    by_test more true = (late, are)
    by_test more false = (are.0, more)

rise_put : (all : List Told) (it : Told) → Rise all → Rise (with_answer all it)
unfolding with_answer
rise_put [] it up = (tt, tt)
rise_put (first ∷ rest) it up = by_test (rise_put rest it up.1) (is_earlier it first) refl
  where
    by_test : Rise (with_answer rest it) → (b : Bool) → is_earlier it first ≡ b → Rise (cond b (it ∷ first ∷ rest) (first ∷ with_answer rest it))
    by_test more true e = let late = earlier_order.one_way it first e in ((late, follow_further it first rest late up.0), up)
    by_test more false e = (follow_put first it rest e up.0, more)

folds_rise : (answers all : List Told) → Rise all → Rise (fold with_answer all answers)
folds_rise [] all up = up
folds_rise (it ∷ answers) all up = folds_rise answers (with_answer all it) (rise_put all it up)

pub ordered_rise : (answers : List Told) → Rise (in_command_order answers)
ordered_rise answers = folds_rise answers [] tt

-- ---- a part of them

-- all are later
abbrev Later : Told → List Told → Type 0
Later it [] = Unit {0}
Later it (first ∷ rest) = (is_earlier it first ≡ true) × Later it rest

later_by : (it first next : Told) → is_earlier it first ≡ true → is_earlier next first ≡ false → (b : Bool) → is_earlier it next ≡ b → b ≡ true
later_by it first next e late true is = refl
later_by it first next e late false is = (let gone : is_earlier it first ≡ false = earlier_order.chain it next first is late in cc)

later_rest : (it first : Told) (rest : List Told) → is_earlier it first ≡ true → Follow first rest → Later it rest
later_rest it first [] e are = tt
later_rest it first (next ∷ rest) e are =
    (later_by it first next e are.0 (is_earlier it next) refl, later_rest it first rest e are.1)

module _ (p : Told → Bool) where
  later_part : (it : Told) (all : List Told) → Later it all → Later it (filter p all)
  later_part it [] are = tt
  later_part it (first ∷ rest) are = by_test (later_part it rest are.1) (p first)
    where
      by_test : Later it (filter p rest) → (b : Bool) → Later it (cond b (first ∷ filter p rest) (filter p rest))
      by_test more true = (are.0, more)
      by_test more false = more

put_first : (it : Told) (all : List Told) → Later it all → with_answer all it ≡ it ∷ all
unfolding with_answer
put_first it [] are = refl
put_first it (first ∷ rest) are = ap (λ (b : Bool). cond b (it ∷ first ∷ rest) (first ∷ with_answer rest it)) are.0

module _ (p : Told → Bool) where
  put_part : (all : List Told) (it : Told) → Rise all → filter p (with_answer all it) ≡ cond (p it) (with_answer (filter p all) it) (filter p all)
  unfolding with_answer
  put_part [] it up = refl
  put_part (first ∷ rest) it up = by_test (put_part rest it up.1) (is_earlier it first) refl
    where
      behind : is_earlier it first ≡ false → (kept own : Bool)
          → cond kept (first ∷ cond own (with_answer (filter p rest) it) (filter p rest)) (cond own (with_answer (filter p rest) it) (filter p rest))
          ≡ cond own (with_answer (cond kept (first ∷ filter p rest) (filter p rest)) it) (cond kept (first ∷ filter p rest) (filter p rest))
      behind e true true = ap (λ (b : Bool). cond b (it ∷ first ∷ filter p rest) (first ∷ with_answer (filter p rest) it)) (sym e)
      behind e true false = refl
      behind e false own = refl

      by_test : filter p (with_answer rest it) ≡ cond (p it) (with_answer (filter p rest) it) (filter p rest) → (b : Bool) → is_earlier it first ≡ b
          → filter p (cond b (it ∷ first ∷ rest) (first ∷ with_answer rest it))
          ≡ cond (p it) (with_answer (filter p (first ∷ rest)) it) (filter p (first ∷ rest))
      by_test more true e = ap (λ (l : List Told). cond (p it) l (filter p (first ∷ rest)))
          (sym (put_first it (filter p (first ∷ rest)) (later_part p it (first ∷ rest) (e, later_rest it first rest e up.0))))
      by_test more false e = ap (λ (l : List Told). cond (p first) (first ∷ l) l) more ∙ behind e (p first) (p it)

  folds_part : (answers all : List Told) → Rise all → filter p (fold with_answer all answers) ≡ fold with_answer (filter p all) (filter p answers)
  folds_part [] all up = refl
  folds_part (it ∷ answers) all up =
      folds_part answers (with_answer all it) (rise_put all it up)
      ∙ ap (λ (l : List Told). fold with_answer l (filter p answers)) (put_part all it up) ∙ goes_on (p it)
    where
      goes_on : (own : Bool) → fold with_answer (cond own (with_answer (filter p all) it) (filter p all)) (filter p answers)
          ≡ fold with_answer (filter p all) (cond own (it ∷ filter p answers) (filter p answers))
      goes_on true = refl
      goes_on false = refl

  -- a part of them is in that order, too
  pub ordered_part : (answers : List Told) → filter p (in_command_order answers) ≡ in_command_order (filter p answers)
  ordered_part answers = folds_part answers [] tt

-- one alone is in order, and so is none
few_ordered : (few : List Told) → length few ≤ 1 → in_command_order few ≡ few
unfolding with_answer
few_ordered [] short = refl
few_ordered (it ∷ []) short = refl
few_ordered (it ∷ other ∷ few) short = absurd (omega arith)

-- where there is at most one of a part, it is there as it was
pub ordered_few : (p : Told → Bool) (answers few : List Told) → length few ≤ 1 → filter p answers ≡ few → filter p (in_command_order answers) ≡ few
ordered_few p answers few short is = ordered_part p answers ∙ ap in_command_order is ∙ few_ordered few short

-- ---- answers to one command

abbrev is_tied : Told → Told → Bool
is_tied = ties is_earlier

both_no : (a b : Bool) → (not a && not b) ≡ true → (a ≡ false) × (b ≡ false)
both_no false false e = (refl, refl)
both_no false true e = cc
both_no true b e = cc

none_of : (a b : Bool) → a ≡ false → b ≡ false → (not a && not b) ≡ true
none_of false false e f = refl
none_of false true e f = cc
none_of true b e f = cc

not_itself : (it : Told) → is_earlier it it ≡ false
not_itself it = by_test (is_earlier it it) refl
  where
    by_test : (b : Bool) → is_earlier it it ≡ b → is_earlier it it ≡ false
    by_test true e = earlier_order.one_way it it e
    by_test false e = e

tied_itself : (it : Told) → is_tied it it ≡ true
tied_itself it = let late = not_itself it in none_of _ _ late late

-- none is later
abbrev Before : Told → List Told → Type 0
Before it [] = Unit {0}
Before it (first ∷ rest) = (is_earlier it first ≡ false) × Before it rest

put_last : (it : Told) (all : List Told) → Before it all → with_answer all it ≡ all ++ it ∷ []
unfolding with_answer
put_last it [] are = refl
put_last it (first ∷ rest) are =
    ap (λ (b : Bool). cond b (it ∷ first ∷ rest) (first ∷ with_answer rest it)) are.0 ∙ ap (λ (l : List Told). first ∷ l) (put_last it rest are.1)

module _ (one : Told) where
  abbrev AreTied : List Told → Type 0
  AreTied [] = Unit {0}
  AreTied (first ∷ rest) = (is_tied one first ≡ true) × AreTied rest

  tied_before : (it : Told) (all : List Told) → is_tied one it ≡ true → AreTied all → Before it all
  tied_before it [] e are = tt
  tied_before it (first ∷ rest) e are =
      (earlier_order.chain it one first (both_no _ _ e).1 (both_no _ _ are.0).0, tied_before it rest e are.1)

  tied_behind : (all : List Told) (it : Told) → AreTied all → is_tied one it ≡ true → AreTied (all ++ it ∷ [])
  tied_behind [] it are e = (e, tt)
  tied_behind (first ∷ rest) it are e = (are.0, tied_behind rest it are.1 e)

  tied_part : (answers : List Told) → AreTied (filter (is_tied one) answers)
  tied_part [] = tt
  tied_part (first ∷ rest) = by_test (tied_part rest) (is_tied one first) refl
    where
      by_test : AreTied (filter (is_tied one) rest) → (b : Bool) → is_tied one first ≡ b
          → AreTied (cond b (first ∷ filter (is_tied one) rest) (filter (is_tied one) rest))
      by_test more true e = (e, more)
      by_test more false e = more

  folds_tied : (answers all : List Told) → AreTied answers → AreTied all → fold with_answer all answers ≡ all ++ answers
  folds_tied [] all are before = sym (append-nil all)
  folds_tied (it ∷ answers) all are before =
      ap (λ (l : List Told). fold with_answer l answers) (put_last it all (tied_before it all are.0 before))
      ∙ folds_tied answers (all ++ it ∷ []) are.1 (tied_behind all it before are.0) ∙ append_assoc all (it ∷ []) answers

  ordered_tied : (answers : List Told) → filter (is_tied one) (in_command_order answers) ≡ filter (is_tied one) answers
  ordered_tied answers =
      ordered_part (is_tied one) answers ∙ folds_tied (filter (is_tied one) answers) [] (tied_part answers) tt

-- ---- a stable sort

kept : (p : Told → Bool) (it : Told) (all : List Told) → p it ≡ true → filter p (it ∷ all) ≡ it ∷ filter p all
kept p it all e = rw e refl

passed : (p : Told → Bool) (it : Told) (all : List Told) → p it ≡ false → filter p (it ∷ all) ≡ filter p all
passed p it all e = rw e refl

-- one that is found among those that follow isn't earlier
found_follows : (first it : Told) (all : List Told) (w : Told) (ws : List Told) → Follow first all → filter (is_tied it) all ≡ w ∷ ws
    → is_earlier it first ≡ false
found_follows first it [] w ws are e = cc
found_follows first it (next ∷ rest) w ws are e = by_test (λ more. found_follows first it rest w ws are.1 more) (is_tied it next) refl
  where
    by_test : (filter (is_tied it) rest ≡ w ∷ ws → is_earlier it first ≡ false) → (b : Bool) → is_tied it next ≡ b → is_earlier it first ≡ false
    by_test more true is = earlier_order.chain it next first (both_no _ _ is).0 are.0
    by_test more false is = more (sym (passed (is_tied it) next rest is) ∙ e)

same_order : (one other : List Told) → Rise one → Rise other → ((it : Told) → filter (is_tied it) one ≡ filter (is_tied it) other) → one ≡ other
same_order [] [] up above same = refl
same_order [] (z ∷ zs) up above same = let no : [] ≡ z ∷ filter (is_tied z) zs = same z ∙ kept (is_tied z) z zs (tied_itself z) in cc
same_order (y ∷ ys) [] up above same = let no : [] ≡ y ∷ filter (is_tied y) ys = sym (same y) ∙ kept (is_tied y) y ys (tied_itself y) in cc
same_order (y ∷ ys) (z ∷ zs) up above same =
    let at_y = kept (is_tied y) y ys (tied_itself y) in
    let at_z = kept (is_tied z) z zs (tied_itself z) in
    let none = found_follows z y (z ∷ zs) y _ (not_itself z, above.0) (sym (same y) ∙ at_y) in
    let late = found_follows y z (y ∷ ys) z _ (not_itself y, up.0) (same z ∙ at_z) in
    let heads = sym at_y ∙ same y ∙ kept (is_tied y) z zs (none_of _ _ none late) in
    let head : y ≡ z = cc in
    let tails : (it : Told) → filter (is_tied it) ys ≡ filter (is_tied it) zs = λ it. tail_by it head (is_tied it y) refl in
    ap (λ w. w ∷ ys) head ∙ ap (λ l. z ∷ l) (same_order ys zs up.1 above.1 tails)
  where
    tail_by : (it : Told) → y ≡ z → (b : Bool) → is_tied it y ≡ b → filter (is_tied it) ys ≡ filter (is_tied it) zs
    tail_by it head true e =
        let both = sym (kept (is_tied it) y ys e) ∙ same it ∙ kept (is_tied it) z zs (ap (is_tied it) (sym head) ∙ e) in cc
    tail_by it head false e = sym (passed (is_tied it) y ys e) ∙ same it ∙ passed (is_tied it) z zs (ap (is_tied it) (sym head) ∙ e)

follow_sorted : (first : Told) (rest : List Told) → ((at : ℕ) → at < length rest → is_earlier (get_or rest at first) first ≡ false) → Follow first rest
follow_sorted first [] are = tt
follow_sorted first (next ∷ rest) are = (are 0 (omega arith), follow_sorted first rest (λ at less. are (suc at) (omega arith)))

rise_sorted : (all : List Told) → ((i j : ℕ) (d : Told) → i ≤ j → j < length all → is_earlier (get_or all j d) (get_or all i d) ≡ false) → Rise all
rise_sorted [] are = tt
rise_sorted (first ∷ rest) are = (
  follow_sorted first rest (λ at less. are 0 (suc at) first (omega arith) (omega arith)),
  rise_sorted rest (λ i j d to less. are (suc i) (suc j) d (omega arith) (omega arith)),
)

pub ordered_by_sort : (answers all : List Told) → IsSortedBy is_earlier all → IsStableBy is_earlier answers all → all ≡ in_command_order answers
ordered_by_sort answers all sorted stable =
    same_order all (in_command_order answers) (rise_sorted all (sorted_far is_earlier earlier_order all sorted)) (ordered_rise answers)
    (λ it. stable it ∙ sym (ordered_tied it answers))
