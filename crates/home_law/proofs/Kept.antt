-- A step that passes the tests keeps the invariant of its backend.
use Rattle.std.proofs.Common.{◌≡◌, Bool, true, false, ◌&&◌, ◌||◌, not, List, [], ◌∷◌, ◌++◌, ◌⊎◌, inl, inr, subst, refl}
use Rattle.std.proofs.Math.Logic.{⊎_elim}
use Rattle.home_law.specs.Items.{Item}
use Rattle.home_law.specs.Rows.{answer_ok, line_ok, precedes, first_answer_ok, first_line_ok, is_unfinished, finishes, waits, is_awaited}
use Rattle.home_law.specs.LinkOk.{EachItem, InSequence, FirstItem, SomeItem, hears_then, LinkOk}
use Rattle.home_law.proofs.Finite.{all_true, AllTrue, split, given, every, each_from_every, all_items, items_all}
use Rattle.home_law.proofs.Lists.{each_append, each_weaker, each_both, each_each, sorted_append, first_append, some_left, some_right, some_both, some_none}
use Rattle.home_law.proofs.Move.{Move, first_is, one_is, sorted, answer_checks, answer_kept, line_checks, line_kept, no_answer_helps, checks, keeps}

-- what is known of the messages that a step keeps
pub record Rest (v : Move) (d u : List Item) : Type 0 where
  pub downs : EachItem (λ x. answer_ok v.was v.from x ≡ true) d
  pub ups : EachItem (λ x. line_ok v.was v.from x ≡ true) u
  pub down_sorted : InSequence d
  pub up_sorted : InSequence u
  pub across : EachItem (λ x. EachItem (λ y. precedes x y ≡ true) u) d
  pub kept_downs : EachItem (λ x. v.kept_d x ≡ true) d
  pub kept_ups : EachItem (λ x. v.kept_u x ≡ true) u
  pub down_first : FirstItem (λ x. v.head_d x ≡ true) d
  pub up_first : FirstItem (λ x. v.head_u x ≡ true) u
  pub finishes : v.finishing ≡ true → SomeItem (λ x. finishes v.was v.from x ≡ true) d ⊎ SomeItem (λ x. finishes v.was v.from x ≡ true) u
  pub waiting : v.waiting ≡ true → SomeItem (λ x. is_awaited v.from x ≡ true) d ⊎ SomeItem (λ x. is_awaited v.from x ≡ true) u

pub both_true : (a b : Bool) → a ≡ true → b ≡ true → a && b ≡ true
both_true a b f g = rw (f, g) refl

-- a test under a test
if_so : (a b : Bool) → not a || b ≡ true → a ≡ true → b ≡ true
if_so true b h e = h
if_so false b h e = cc

if_both : (a b c : Bool) → not (a && b) || c ≡ true → a ≡ true → b ≡ true → c ≡ true
if_both a b c h e f = if_so (a && b) c h (both_true a b e f)

or_else : (a b : Bool) → a || b ≡ true → (a ≡ true) ⊎ (b ≡ true)
or_else true b h = inl refl
or_else false b h = inr h

pub and_both : (a b : Bool) → a && b ≡ true → (a ≡ true) × (b ≡ true)
and_both true b h = (refl, h)
and_both false b h = cc

not_three : (a b c : Bool) → not (a && (b && c)) ≡ true → a ≡ true → b ≡ true → c ≡ true → ⊥
not_three true true true h e f g = cc
not_three true true false h e f g = cc
not_three true false c h e f g = cc
not_three false b c h e f g = cc

first_from : (f : Item → Bool) (xs : List Item) → first_is f xs ≡ true → FirstItem (λ x. f x ≡ true) xs
unfolding first_is FirstItem
first_from f [] h = tt
first_from f (x ∷ xs) h = h

some_from : (f : Item → Bool) (xs : List Item) → one_is f xs ≡ true → SomeItem (λ x. f x ≡ true) xs
unfolding one_is SomeItem
some_from f [] h = cc
some_from f (x ∷ xs) h = ⊎_elim (λ a. inl a) (λ b. inr (some_from f xs b)) (or_else (f x) (one_is f xs) h)

sorted_from : (xs : List Item) → sorted xs ≡ true → InSequence xs
unfolding sorted InSequence
sorted_from [] h = tt
sorted_from (x ∷ xs) h =
    let p : (every (precedes x) xs ≡ true) × (sorted xs ≡ true) = and_both (every (precedes x) xs) (sorted xs) h in
    (each_from_every (precedes x) xs p.0, sorted_from xs p.1)

abbrev pub Facts : Move → Type 0
unfolding AllTrue checks
Facts v = AllTrue (checks v)

facts : (v : Move) → keeps v ≡ true → Facts v
unfolding keeps checks AllTrue
facts v h = split (checks v) h

-- what the tests say of a message that is kept
answer_facts : (v : Move) (y : Item) → Facts v → answer_ok v.was v.from y ≡ true → v.kept_d y ≡ true → AllTrue (answer_checks v y)
unfolding AllTrue checks answer_kept
answer_facts v y f a k =
    split (answer_checks v y) (given (answer_ok v.was v.from y && v.kept_d y) (λ _. all_true (answer_checks v y))
    (items_all (answer_kept v) f.1.1.1.1.1.1.1.1.1.0 y) (both_true (answer_ok v.was v.from y) (v.kept_d y) a k))

line_facts : (v : Move) (y : Item) → Facts v → line_ok v.was v.from y ≡ true → v.kept_u y ≡ true → AllTrue (line_checks v y)
unfolding AllTrue checks line_kept
line_facts v y f a k =
    split (line_checks v y) (given (line_ok v.was v.from y && v.kept_u y) (λ _. all_true (line_checks v y))
    (items_all (line_kept v) f.1.1.1.1.1.1.1.1.1.1.0 y) (both_true (line_ok v.was v.from y) (v.kept_u y) a k))

-- a message that is kept, with what is known of it
abbrev pub HeldDown : Move → Item → Type 0
HeldDown v y = (answer_ok v.was v.from y ≡ true) × (v.kept_d y ≡ true)

abbrev pub HeldUp : Move → Item → Type 0
HeldUp v y = (line_ok v.was v.from y ≡ true) × (v.kept_u y ≡ true)

held_downs : (v : Move) (d u : List Item) → Rest v d u → EachItem (HeldDown v) d
held_downs v d u r = each_both (λ x. answer_ok v.was v.from x ≡ true) (λ x. v.kept_d x ≡ true) (HeldDown v) (λ x a k. (a, k)) d r.downs r.kept_downs

held_ups : (v : Move) (d u : List Item) → Rest v d u → EachItem (HeldUp v) u
held_ups v d u r = each_both (λ x. line_ok v.was v.from x ≡ true) (λ x. v.kept_u x ≡ true) (HeldUp v) (λ x a k. (a, k)) u r.ups r.kept_ups

-- the first line after the step, where no line is kept: it is one that is sent now
first_said : (v : Move) (d u : List Item) → Facts v → Rest v d u → u ≡ [] → FirstItem (λ x. first_line_ok v.now v.to x ≡ true) v.says_u
unfolding AllTrue checks SomeItem no_answer_helps
first_said v d u f r e =
    ⊎_elim (λ (h : first_is (first_line_ok v.now v.to) v.says_u ≡ true). first_from (first_line_ok v.now v.to) v.says_u h)
    (λ (h : v.finishing && all_items (no_answer_helps v) ≡ true).
    let p : (v.finishing ≡ true) × (all_items (no_answer_helps v) ≡ true) = and_both v.finishing (all_items (no_answer_helps v)) h in
    absurd (⊎_elim
    (λ (s : SomeItem (λ x. finishes v.was v.from x ≡ true) d). some_none (HeldDown v) (λ x. finishes v.was v.from x ≡ true)
    (λ x a b. not_three (answer_ok v.was v.from x) (v.kept_d x) (finishes v.was v.from x) (items_all (no_answer_helps v) p.1 x) a.0 a.1 b) d (held_downs v d u r) s)
    (λ (s : SomeItem (λ x. finishes v.was v.from x ≡ true) u). let t : SomeItem (λ x. finishes v.was v.from x ≡ true) [] = subst (SomeItem (λ x. finishes v.was v.from x ≡ true)) e s in t)
    (r.finishes p.0)))
    (or_else (first_is (first_line_ok v.now v.to) v.says_u) (v.finishing && all_items (no_answer_helps v)) f.1.1.1.1.1.1.1.0)

-- something on the way still ends what needs an end
ends_still : (v : Move) (d u : List Item) → Facts v → Rest v d u → is_unfinished v.now v.to ≡ true
    → SomeItem (λ x. finishes v.now v.to x ≡ true) (d ++ v.says_d) ⊎ SomeItem (λ x. finishes v.now v.to x ≡ true) (u ++ v.says_u)
unfolding AllTrue checks answer_checks line_checks
ends_still v d u f r n =
    ⊎_elim (λ (h : one_is (finishes v.now v.to) v.says_d ≡ true). inl (some_right (λ x. finishes v.now v.to x ≡ true) d v.says_d (some_from (finishes v.now v.to) v.says_d h)))
    (λ (m : one_is (finishes v.now v.to) v.says_u || v.finishing ≡ true).
    ⊎_elim (λ (h : one_is (finishes v.now v.to) v.says_u ≡ true). inr (some_right (λ x. finishes v.now v.to x ≡ true) u v.says_u (some_from (finishes v.now v.to) v.says_u h)))
    (λ (h : v.finishing ≡ true).
    ⊎_elim
    (λ (s : SomeItem (λ x. finishes v.was v.from x ≡ true) d). inl (some_left (λ x. finishes v.now v.to x ≡ true) d v.says_d
    (some_both (HeldDown v) (λ x. finishes v.was v.from x ≡ true) (λ x. finishes v.now v.to x ≡ true)
    (λ x a b. if_both v.finishing (finishes v.was v.from x) (finishes v.now v.to x) (answer_facts v x f a.0 a.1).1.1.1.1.0 h b) d (held_downs v d u r) s)))
    (λ (s : SomeItem (λ x. finishes v.was v.from x ≡ true) u). inr (some_left (λ x. finishes v.now v.to x ≡ true) u v.says_u
    (some_both (HeldUp v) (λ x. finishes v.was v.from x ≡ true) (λ x. finishes v.now v.to x ≡ true)
    (λ x a b. if_both v.finishing (finishes v.was v.from x) (finishes v.now v.to x) (line_facts v x f a.0 a.1).1.1.1.1.0 h b) u (held_ups v d u r) s)))
    (r.finishes h))
    (or_else (one_is (finishes v.now v.to) v.says_u) v.finishing m))
    (or_else (one_is (finishes v.now v.to) v.says_d) (one_is (finishes v.now v.to) v.says_u || v.finishing)
    (if_so (is_unfinished v.now v.to) (one_is (finishes v.now v.to) v.says_d || (one_is (finishes v.now v.to) v.says_u || v.finishing)) f.1.1.1.1.1.1.1.1.0 n))

-- what a flow or a resync waits for is still on the way
goes_still : (v : Move) (d u : List Item) → Facts v → Rest v d u → waits v.to ≡ true
    → SomeItem (λ x. is_awaited v.to x ≡ true) (d ++ v.says_d) ⊎ SomeItem (λ x. is_awaited v.to x ≡ true) (u ++ v.says_u)
unfolding AllTrue checks answer_checks line_checks
goes_still v d u f r n =
    ⊎_elim (λ (h : one_is (is_awaited v.to) v.says_d ≡ true). inl (some_right (λ x. is_awaited v.to x ≡ true) d v.says_d (some_from (is_awaited v.to) v.says_d h)))
    (λ (m : one_is (is_awaited v.to) v.says_u || v.waiting ≡ true).
    ⊎_elim (λ (h : one_is (is_awaited v.to) v.says_u ≡ true). inr (some_right (λ x. is_awaited v.to x ≡ true) u v.says_u (some_from (is_awaited v.to) v.says_u h)))
    (λ (h : v.waiting ≡ true).
    ⊎_elim
    (λ (s : SomeItem (λ x. is_awaited v.from x ≡ true) d). inl (some_left (λ x. is_awaited v.to x ≡ true) d v.says_d
    (some_both (HeldDown v) (λ x. is_awaited v.from x ≡ true) (λ x. is_awaited v.to x ≡ true)
    (λ x a b. if_both v.waiting (is_awaited v.from x) (is_awaited v.to x) (answer_facts v x f a.0 a.1).1.1.1.1.1.0 h b) d (held_downs v d u r) s)))
    (λ (s : SomeItem (λ x. is_awaited v.from x ≡ true) u). inr (some_left (λ x. is_awaited v.to x ≡ true) u v.says_u
    (some_both (HeldUp v) (λ x. is_awaited v.from x ≡ true) (λ x. is_awaited v.to x ≡ true)
    (λ x a b. if_both v.waiting (is_awaited v.from x) (is_awaited v.to x) (line_facts v x f a.0 a.1).1.1.1.1.1.0 h b) u (held_ups v d u r) s)))
    (r.waiting h))
    (or_else (one_is (is_awaited v.to) v.says_u) v.waiting m))
    (or_else (one_is (is_awaited v.to) v.says_d) (one_is (is_awaited v.to) v.says_u || v.waiting)
    (if_so (waits v.to) (one_is (is_awaited v.to) v.says_d || (one_is (is_awaited v.to) v.says_u || v.waiting)) f.1.1.1.1.1.1.1.1.1.1.1.0 n))

-- THE lemma: a step that passes the tests keeps the invariant
pub link_kept : (v : Move) (d u : List Item) → keeps v ≡ true → Rest v d u → hears_then v.to.hears (d ++ v.says_d) ≡ v.to.linked
    → LinkOk v.now (record { ctl = v.to; down = d ++ v.says_d; up = u ++ v.says_u })
unfolding AllTrue checks answer_checks line_checks
link_kept v d u h r tied =
    let f : Facts v = facts v h in
    let down : EachItem (HeldDown v) d = held_downs v d u r in
    let up : EachItem (HeldUp v) u = held_ups v d u r in
    let said_up : EachItem (λ x. EachItem (λ y. precedes x y ≡ true) v.says_u) v.says_d =
    each_weaker (λ x. every (precedes x) v.says_u ≡ true) (λ x. EachItem (λ y. precedes x y ≡ true) v.says_u) (λ x e. each_from_every (precedes x) v.says_u e) v.says_d
    (each_from_every (λ x. every (precedes x) v.says_u) v.says_d f.1.1.1.1.1.0) in
    let down_said : EachItem (λ x. EachItem (λ y. precedes x y ≡ true) v.says_d) d =
    each_weaker (HeldDown v) (λ x. EachItem (λ y. precedes x y ≡ true) v.says_d) (λ x a. each_from_every (precedes x) v.says_d (answer_facts v x f a.0 a.1).1.1.0) d down in
    let down_up : EachItem (λ x. EachItem (λ y. precedes x y ≡ true) v.says_u) d =
    each_weaker (HeldDown v) (λ x. EachItem (λ y. precedes x y ≡ true) v.says_u) (λ x a. each_from_every (precedes x) v.says_u (answer_facts v x f a.0 a.1).1.1.1.0) d down in
    let up_said : EachItem (λ x. EachItem (λ y. precedes x y ≡ true) v.says_u) u =
    each_weaker (HeldUp v) (λ x. EachItem (λ y. precedes x y ≡ true) v.says_u) (λ x a. each_from_every (precedes x) v.says_u (line_facts v x f a.0 a.1).1.1.0) u up in
    let said_kept : EachItem (λ z. EachItem (λ y. precedes z y ≡ true) u) v.says_d =
    each_each (λ z y. precedes z y ≡ true) v.says_d u
    (each_weaker (HeldUp v) (λ y. EachItem (λ z. precedes z y ≡ true) v.says_d) (λ y a. each_from_every (λ z. precedes z y) v.says_d (line_facts v y f a.0 a.1).1.1.1.0) u up) in
    record {
      control = f.0;
      downs = each_append (λ x. answer_ok v.now v.to x ≡ true) d v.says_d
          (each_weaker (HeldDown v) (λ x. answer_ok v.now v.to x ≡ true) (λ x a. (answer_facts v x f a.0 a.1).0) d down)
          (each_from_every (answer_ok v.now v.to) v.says_d f.1.0);
      ups = each_append (λ x. line_ok v.now v.to x ≡ true) u v.says_u
          (each_weaker (HeldUp v) (λ x. line_ok v.now v.to x ≡ true) (λ x a. (line_facts v x f a.0 a.1).0) u up)
          (each_from_every (line_ok v.now v.to) v.says_u f.1.1.0);
      down_sorted = sorted_append d v.says_d r.down_sorted (sorted_from v.says_d f.1.1.1.0) down_said;
      up_sorted = sorted_append u v.says_u r.up_sorted (sorted_from v.says_u f.1.1.1.1.0) up_said;
      across = each_append (λ x. EachItem (λ y. precedes x y ≡ true) (u ++ v.says_u)) d v.says_d
          (each_both (λ x. EachItem (λ y. precedes x y ≡ true) u) (λ x. EachItem (λ y. precedes x y ≡ true) v.says_u) (λ x. EachItem (λ y. precedes x y ≡ true) (u ++ v.says_u))
          (λ x a b. each_append (λ y. precedes x y ≡ true) u v.says_u a b) d r.across down_up)
          (each_both (λ x. EachItem (λ y. precedes x y ≡ true) u) (λ x. EachItem (λ y. precedes x y ≡ true) v.says_u) (λ x. EachItem (λ y. precedes x y ≡ true) (u ++ v.says_u))
          (λ x a b. each_append (λ y. precedes x y ≡ true) u v.says_u a b) v.says_d said_kept said_up);
      down_first = first_append (HeldDown v) (λ x. v.head_d x ≡ true) (λ x. first_answer_ok v.now v.to x ≡ true)
          (λ x a b. if_so (v.head_d x) (first_answer_ok v.now v.to x) (answer_facts v x f a.0 a.1).1.0 b) d v.says_d down r.down_first
          (λ e. first_from (first_answer_ok v.now v.to) v.says_d f.1.1.1.1.1.1.0);
      up_first = first_append (HeldUp v) (λ x. v.head_u x ≡ true) (λ x. first_line_ok v.now v.to x ≡ true)
          (λ x a b. if_so (v.head_u x) (first_line_ok v.now v.to x) (line_facts v x f a.0 a.1).1.0 b) u v.says_u up r.up_first
          (first_said v d u f r);
      tied = tied;
      finished = ends_still v d u f r;
      awaited = goes_still v d u f r;
    }
