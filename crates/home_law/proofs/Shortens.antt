-- Facts of a queue through a crash that shortens it.
use Rattle.std.proofs.Common.{◌≡◌, ℕ, zero, suc, Bool, true, false, List, [], ◌∷◌, refl}
use Rattle.home_law.specs.Items.{Item, backend_up, backend_end, master_end}
use Rattle.home_law.specs.Link.{shorten}
use Rattle.home_law.specs.Rows.{precedes}
use Rattle.home_law.specs.LinkOk.{EachItem, InSequence, FirstItem, hears_then}

pub each_shorten : (P : Item → Type 0) (n : ℕ) (xs : List Item) → EachItem P xs → EachItem P (shorten n xs)
unfolding EachItem shorten
each_shorten P n [] a = tt
each_shorten P n (backend_end ∷ xs) a = (a.0, each_shorten P n xs a.1)
each_shorten P n (master_end ∷ xs) a = (a.0, each_shorten P n xs a.1)
each_shorten P zero (x ∷ xs) a = each_shorten P zero xs a.1
each_shorten P (suc n) (x ∷ xs) a = (a.0, each_shorten P n xs a.1)

pub sorted_shorten : (n : ℕ) (xs : List Item) → InSequence xs → InSequence (shorten n xs)
unfolding InSequence shorten
sorted_shorten n [] a = tt
sorted_shorten n (backend_end ∷ xs) a = (each_shorten (λ y. precedes backend_end y ≡ true) n xs a.0, sorted_shorten n xs a.1)
sorted_shorten n (master_end ∷ xs) a = (each_shorten (λ y. precedes master_end y ≡ true) n xs a.0, sorted_shorten n xs a.1)
sorted_shorten zero (x ∷ xs) a = sorted_shorten zero xs a.1
sorted_shorten (suc n) (x ∷ xs) a = (each_shorten (λ y. precedes x y ≡ true) n xs a.0, sorted_shorten n xs a.1)

-- only an End is left
only_ends : (P : Item → Type 0) → P backend_end → P master_end → (xs : List Item) → FirstItem P (shorten zero xs)
unfolding FirstItem shorten
only_ends P d u [] = tt
only_ends P d u (backend_end ∷ xs) = d
only_ends P d u (master_end ∷ xs) = u
only_ends P d u (x ∷ xs) = only_ends P d u xs

pub first_shorten : (P : Item → Type 0) → P backend_end → P master_end → (n : ℕ) (xs : List Item) → FirstItem P xs → FirstItem P (shorten n xs)
unfolding FirstItem shorten
first_shorten P d u n [] a = tt
first_shorten P d u n (backend_end ∷ xs) a = d
first_shorten P d u n (master_end ∷ xs) a = u
first_shorten P d u zero (x ∷ xs) a = only_ends P d u xs
first_shorten P d u (suc n) (x ∷ xs) a = a

deafer : (xs : List Item) → hears_then true xs ≡ false → hears_then false xs ≡ false
unfolding hears_then
deafer [] e = refl
deafer (backend_up ∷ xs) e = e
deafer (backend_end ∷ xs) e = e
deafer (x ∷ xs) e = deafer xs e

deaf_by : (h : Bool) (xs : List Item) → hears_then true xs ≡ false → hears_then h xs ≡ false
deaf_by true xs e = e
deaf_by false xs e = deafer xs e

pub deaf_shorten : (h : Bool) (n : ℕ) (xs : List Item) → hears_then h xs ≡ false → hears_then h (shorten n xs) ≡ false
unfolding hears_then shorten
deaf_shorten h n [] e = e
deaf_shorten h n (backend_end ∷ xs) e = deaf_shorten false n xs e
deaf_shorten h n (master_end ∷ xs) e = deaf_shorten h n xs e
deaf_shorten h zero (backend_up ∷ xs) e = deaf_shorten h zero xs (deaf_by h xs e)
deaf_shorten h (suc n) (backend_up ∷ xs) e = deaf_shorten true n xs e
deaf_shorten h zero (x ∷ xs) e = deaf_shorten h zero xs e
deaf_shorten h (suc n) (x ∷ xs) e = deaf_shorten h n xs e
