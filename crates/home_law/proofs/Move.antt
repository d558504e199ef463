-- A step as far as one backend's invariant sees it, and the tests that it keeps the invariant.
use Rattle.std.proofs.Common.{Bool, true, false, ◌&&◌, ◌||◌, not, List, [], ◌∷◌}
use Rattle.home_law.specs.Items.{Mine, Item, Ctl}
use Rattle.home_law.specs.Rows.{control_ok, answer_ok, line_ok, precedes, first_answer_ok, first_line_ok, is_unfinished, finishes, waits, is_awaited}
use Rattle.home_law.proofs.Finite.{all_true, provided, every, all_items}

-- From one control to another. Of each queue a part is kept, and something is put behind it. What is known of
-- the messages kept: kept_d and kept_u of each, head_d and head_u of the first; helped: that one of them helps.
pub record Move : Type 0 where
  pub was : Mine
  pub from : Ctl
  pub now : Mine
  pub to : Ctl
  pub kept_d : Item → Bool
  pub kept_u : Item → Bool
  pub head_d : Item → Bool
  pub head_u : Item → Bool
  pub finishing : Bool
  pub waiting : Bool
  pub says_d : List Item
  pub says_u : List Item

unfoldable pub first_is : (Item → Bool) → List Item → Bool
first_is f [] = true
first_is f (x ∷ xs) = f x

unfoldable pub one_is : (Item → Bool) → List Item → Bool
one_is f [] = false
one_is f (x ∷ xs) = f x || one_is f xs

unfoldable pub sorted : List Item → Bool
unfolding every
sorted [] = true
sorted (x ∷ xs) = every (precedes x) xs && sorted xs

-- a message to the backend that is kept
unfoldable pub answer_checks : Move → Item → List Bool
unfolding every
answer_checks v y =
    answer_ok v.now v.to y ∷ (not (v.head_d y) || first_answer_ok v.now v.to y) ∷ every (precedes y) v.says_d ∷ every (precedes y) v.says_u
    ∷ (not (v.finishing && finishes v.was v.from y) || finishes v.now v.to y) ∷ (not (v.waiting && is_awaited v.from y) || is_awaited v.to y) ∷ []

unfoldable pub answer_kept : Move → Item → Bool
unfolding provided all_true answer_checks
answer_kept v y = provided (answer_ok v.was v.from y && v.kept_d y) (λ _. all_true (answer_checks v y))

-- a line that is kept
unfoldable pub line_checks : Move → Item → List Bool
unfolding every
line_checks v y =
    line_ok v.now v.to y ∷ (not (v.head_u y) || first_line_ok v.now v.to y) ∷ every (precedes y) v.says_u ∷ every (λ z. precedes z y) v.says_d
    ∷ (not (v.finishing && finishes v.was v.from y) || finishes v.now v.to y) ∷ (not (v.waiting && is_awaited v.from y) || is_awaited v.to y) ∷ []

unfoldable pub line_kept : Move → Item → Bool
unfolding provided all_true line_checks
line_kept v y = provided (line_ok v.was v.from y && v.kept_u y) (λ _. all_true (line_checks v y))

-- no message to the backend is the one that helps, so a line is
unfoldable pub no_answer_helps : Move → Item → Bool
no_answer_helps v y = not (answer_ok v.was v.from y && (v.kept_d y && finishes v.was v.from y))

unfoldable pub checks : Move → List Bool
unfolding every sorted first_is one_is all_items answer_kept line_kept no_answer_helps
checks v =
    control_ok v.now v.to ∷ every (answer_ok v.now v.to) v.says_d ∷ every (line_ok v.now v.to) v.says_u ∷ sorted v.says_d ∷ sorted v.says_u
    ∷ every (λ x. every (precedes x) v.says_u) v.says_d ∷ first_is (first_answer_ok v.now v.to) v.says_d
    ∷ (first_is (first_line_ok v.now v.to) v.says_u || v.finishing && all_items (no_answer_helps v))
    ∷ (not (is_unfinished v.now v.to) || (one_is (finishes v.now v.to) v.says_d || (one_is (finishes v.now v.to) v.says_u || v.finishing)))
    ∷ all_items (answer_kept v) ∷ all_items (line_kept v)
    ∷ (not (waits v.to) || (one_is (is_awaited v.to) v.says_d || (one_is (is_awaited v.to) v.says_u || v.waiting))) ∷ []

unfoldable pub keeps : Move → Bool
unfolding all_true checks
keeps v = all_true (checks v)
