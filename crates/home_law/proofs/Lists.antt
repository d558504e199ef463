-- Facts of each message of a queue, and of each two, through what is put at the end and what is kept of the front.
use Rattle.std.proofs.Common.{◌≡◌, ℕ, zero, suc, Bool, true, false, List, [], ◌∷◌, ◌++◌, take, inl, inr, refl}
use Rattle.home_law.specs.Items.{Item, backend_up, backend_end}
use Rattle.home_law.specs.Rows.{precedes}
use Rattle.home_law.specs.LinkOk.{EachItem, InSequence, FirstItem, SomeItem, hears_then}

pub each_append : (P : Item → Type 0) (xs ys : List Item) → EachItem P xs → EachItem P ys → EachItem P (xs ++ ys)
unfolding EachItem
each_append P [] ys a b = b
each_append P (x ∷ xs) ys a b = (a.0, each_append P xs ys a.1 b)

pub each_take : (P : Item → Type 0) (n : ℕ) (xs : List Item) → EachItem P xs → EachItem P (take n xs)
unfolding EachItem
each_take P zero xs a = tt
each_take P (suc n) [] a = tt
each_take P (suc n) (x ∷ xs) a = (a.0, each_take P n xs a.1)

pub each_weaker : (P Q : Item → Type 0) → ((x : Item) → P x → Q x) → (xs : List Item) → EachItem P xs → EachItem Q xs
unfolding EachItem
each_weaker P Q f [] a = tt
each_weaker P Q f (x ∷ xs) a = (f x a.0, each_weaker P Q f xs a.1)

-- two facts of each together
pub each_both : (P Q R : Item → Type 0) → ((x : Item) → P x → Q x → R x) → (xs : List Item) → EachItem P xs → EachItem Q xs → EachItem R xs
unfolding EachItem
each_both P Q R f [] a b = tt
each_both P Q R f (x ∷ xs) a b = (f x a.0 b.0, each_both P Q R f xs a.1 b.1)

pub each_any : (P : Item → Type 0) → ((x : Item) → P x) → (xs : List Item) → EachItem P xs
unfolding EachItem
each_any P f [] = tt
each_any P f (x ∷ xs) = (f x, each_any P f xs)

-- what each of the one list has with each of the other, the other way round
pub each_each : (P : Item → Item → Type 0) (xs ys : List Item) → EachItem (λ y. EachItem (λ x. P x y) xs) ys → EachItem (λ x. EachItem (λ y. P x y) ys) xs
unfolding EachItem
each_each P [] ys a = tt
each_each P (x ∷ xs) ys a = (
  each_weaker (λ y. EachItem (λ z. P z y) (x ∷ xs)) (λ y. P x y) (λ y b. b.0) ys a,
  each_each P xs ys (each_weaker (λ y. EachItem (λ z. P z y) (x ∷ xs)) (λ y. EachItem (λ z. P z y) xs) (λ y b. b.1) ys a),
)

pub sorted_append : (xs ys : List Item) → InSequence xs → InSequence ys → EachItem (λ x. EachItem (λ y. precedes x y ≡ true) ys) xs → InSequence (xs ++ ys)
unfolding EachItem InSequence
sorted_append [] ys a b across = b
sorted_append (x ∷ xs) ys a b across = (each_append (λ y. precedes x y ≡ true) xs ys a.0 across.0, sorted_append xs ys a.1 b across.1)

pub sorted_take : (n : ℕ) (xs : List Item) → InSequence xs → InSequence (take n xs)
unfolding EachItem InSequence
sorted_take zero xs a = tt
sorted_take (suc n) [] a = tt
sorted_take (suc n) (x ∷ xs) a = (each_take (λ y. precedes x y ≡ true) n xs a.0, sorted_take n xs a.1)

pub first_take : (P : Item → Type 0) (n : ℕ) (xs : List Item) → FirstItem P xs → FirstItem P (take n xs)
unfolding FirstItem
first_take P zero xs a = tt
first_take P (suc n) [] a = tt
first_take P (suc n) (x ∷ xs) a = a

pub first_any : (P : Item → Type 0) → ((x : Item) → P x) → (xs : List Item) → FirstItem P xs
unfolding FirstItem
first_any P f [] = tt
first_any P f (x ∷ xs) = f x

-- the first of a list, from a fact of each and one of the first
pub first_append : (P Q R : Item → Type 0) → ((x : Item) → P x → Q x → R x) → (xs ys : List Item) → EachItem P xs → FirstItem Q xs → (xs ≡ [] → FirstItem R ys) → FirstItem R (xs ++ ys)
unfolding EachItem FirstItem
first_append P Q R f [] ys a b more = more refl
first_append P Q R f (x ∷ xs) ys a b more = f x a.0 b

pub some_left : (P : Item → Type 0) (xs ys : List Item) → SomeItem P xs → SomeItem P (xs ++ ys)
unfolding SomeItem
some_left P [] ys a = absurd a
some_left P (x ∷ xs) ys (inl a) = inl a
some_left P (x ∷ xs) ys (inr a) = inr (some_left P xs ys a)

pub some_right : (P : Item → Type 0) (xs ys : List Item) → SomeItem P ys → SomeItem P (xs ++ ys)
unfolding SomeItem
some_right P [] ys a = a
some_right P (x ∷ xs) ys a = inr (some_right P xs ys a)

pub some_both : (P Q R : Item → Type 0) → ((x : Item) → P x → Q x → R x) → (xs : List Item) → EachItem P xs → SomeItem Q xs → SomeItem R xs
unfolding EachItem SomeItem
some_both P Q R f [] a b = absurd b
some_both P Q R f (x ∷ xs) a (inl b) = inl (f x a.0 b)
some_both P Q R f (x ∷ xs) a (inr b) = inr (some_both P Q R f xs a.1 b)

pub some_none : (P Q : Item → Type 0) → ((x : Item) → P x → Q x → ⊥) → (xs : List Item) → EachItem P xs → SomeItem Q xs → ⊥
unfolding EachItem SomeItem
some_none P Q f [] a b = b
some_none P Q f (x ∷ xs) a (inl b) = f x a.0 b
some_none P Q f (x ∷ xs) a (inr b) = some_none P Q f xs a.1 b

-- the mark of a message
unfoldable pub heard_after : Bool → Item → Bool
heard_after h backend_up = true
heard_after h backend_end = false
heard_after h x = h

pub hears_more : (h : Bool) (x : Item) (xs : List Item) → hears_then h (x ∷ xs) ≡ hears_then (heard_after h x) xs
unfolding hears_then heard_after
hears_more h backend_up xs = refl
hears_more h backend_end xs = refl
hears_more h x xs = refl

hears_cons : (h : Bool) (x : Item) (xs : List Item) (l : Bool) → hears_then h (x ∷ xs) ≡ l → hears_then (heard_after h x) xs ≡ l
hears_cons h x xs l e = cc (hears_more h x xs)

pub hears_append : (h : Bool) (xs ys : List Item) → hears_then h (xs ++ ys) ≡ hears_then (hears_then h xs) ys
unfolding hears_then
hears_append h [] ys = refl
hears_append h (backend_up ∷ xs) ys = hears_append true xs ys
hears_append h (backend_end ∷ xs) ys = hears_append false xs ys
hears_append h (x ∷ xs) ys = hears_append h xs ys

pub across_take : (n : ℕ) (xs ys : List Item) → EachItem (λ x. EachItem (λ y. precedes x y ≡ true) ys) xs → EachItem (λ x. EachItem (λ y. precedes x y ≡ true) (take n ys)) xs
across_take n xs ys a = each_weaker (λ x. EachItem (λ y. precedes x y ≡ true) ys) (λ x. EachItem (λ y. precedes x y ≡ true) (take n ys)) (λ x b. each_take (λ y. precedes x y ≡ true) n ys b) xs a
