use Rattle.std.proofs.Common.{ℕ, zero, suc, false, [], ◌∷◌, ◌++◌, refl}
use Rattle.std.specs.Prelude.{codes, replicate}
use Rattle.std.specs.List.{concat}
use Rattle.reply_law.proofs.Computes.{computes}
use Rattle.reply_law.proofs.Searches.{finds_in}
use Rattle.reply_law.proofs.SearchViews.{four_selected}
use Rattle.reply_law.proofs.Sought.{Sought, group, is_not, seen}
use Rattle.reply_law.proofs.limits.texts_have_limits.Goals as goal

pub returns-clause-tag : goal.returns-clause-tag
unfolding computes
returns-clause-tag c = refl

pub returns-clause-longer_tag : goal.returns-clause-longer_tag
unfolding computes
returns-clause-longer_tag c = refl

pub returns-clause-name : goal.returns-clause-name
unfolding computes
returns-clause-name c = refl

pub returns-clause-longer_name : goal.returns-clause-longer_name
unfolding computes
returns-clause-longer_name c = refl

pub returns-clause-keyword : goal.returns-clause-keyword
unfolding computes
returns-clause-keyword c = refl

pub returns-clause-longer_keyword : goal.returns-clause-longer_keyword
unfolding computes
returns-clause-longer_keyword c = refl

-- SEEN within so many NOTs, and within so many pairs of parentheses
abbrev nots : ℕ → Sought
nots zero = seen
nots (suc n) = is_not (nots n)

abbrev groups : ℕ → Sought
groups zero = seen
groups (suc n) = group (groups n ∷ [])

pub returns-clause-keys : goal.returns-clause-keys
unfolding computes
returns-clause-keys c =
    finds_in four_selected (codes "a SEARCH " ++ (concat (replicate 64 (codes "NOT ")) ++ codes "SEEN")) (codes "a") false (nots 64 ∷ []) refl refl refl

pub returns-clause-deeper_keys : goal.returns-clause-deeper_keys
unfolding computes
returns-clause-deeper_keys c = refl

pub returns-clause-groups : goal.returns-clause-groups
unfolding computes
returns-clause-groups c =
    finds_in four_selected (codes "a SEARCH " ++ (replicate 64 40 ++ (codes "SEEN" ++ replicate 64 41))) (codes "a") false (groups 64 ∷ []) refl refl refl

pub returns-clause-deeper_groups : goal.returns-clause-deeper_groups
unfolding computes
returns-clause-deeper_groups c = refl
