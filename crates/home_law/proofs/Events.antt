-- Each event keeps the invariant of its backend.
use Rattle.std.proofs.Common.{◌≡◌, Bool, true, false, ◌&&◌, not, List, [], ◌∷◌, ◌++◌, inl, inr, refl, sym, ◌∙◌, ap, subst}
use Rattle.std.proofs.lemmas.List.{append-nil}
use Rattle.std.proofs.Math.Logic.{⊎_elim}
use Rattle.home_law.specs.Items.{Mine, Seen, Item, Ctl}
use Rattle.home_law.specs.Steps.{hear, answer, NameAsk, ask}
use Rattle.home_law.specs.Link.{Back, sent_over, does, hears_first, asked, LineStep, took, takes_first}
use Rattle.home_law.specs.Rows.{mine_of, control_ok, answer_ok, line_ok, precedes, first_answer_ok, first_line_ok, is_unfinished, finishes, waits, is_awaited}
use Rattle.home_law.specs.LinkOk.{EachItem, InSequence, FirstItem, SomeItem, hears_then, LinkOk}
use Rattle.home_law.proofs.Finite.{all_true, AllTrue, split, given, all_items, items_all, bools_all, mines_all, all_seens, seens_all, all_ctls, ctls_all}
use Rattle.home_law.proofs.Lists.{each_any, first_any, hears_more, hears_append}
use Rattle.home_law.proofs.Move.{Move, keeps}
use Rattle.home_law.proofs.Kept.{Rest, both_true, and_both, link_kept}
use Rattle.home_law.proofs.Moves.{same, is_other, hear_move, take_move, ask_move, hear_checks, take_checks, ask_checks, hear_test, take_test, ask_test, asks_computed, hears_computed, takes_computed}

same_true : (a b : Bool) → same a b ≡ true → a ≡ b
unfolding same
same_true true true h = refl
same_true true false h = cc
same_true false false h = refl
same_true false true h = cc

not_true : (b : Bool) → not b ≡ true → b ≡ true → ⊥
not_true true h e = cc
not_true false h e = cc

pub is_not : (b : Bool) → b ≡ false → not b ≡ true
is_not b e = rw e refl

-- a backend by its parts
abbrev pub IsOk : Mine → Ctl → List Item → List Item → Type 0
IsOk m c d u = LinkOk m (record { ctl = c; down = d; up = u })

-- a step that sends only to the master, and one that sends only to the backend
pub kept_up : (v : Move) (d u : List Item) → v.says_d ≡ [] → keeps v ≡ true → Rest v d u → hears_then v.to.hears d ≡ v.to.linked → IsOk v.now v.to d (u ++ v.says_u)
kept_up v d u e h r tied =
    let same_d : d ++ v.says_d ≡ d = ap (λ s. d ++ s) e ∙ append-nil d in
    subst (λ q. IsOk v.now v.to q (u ++ v.says_u)) same_d (link_kept v d u h r (ap (hears_then v.to.hears) same_d ∙ tied))

pub kept_down : (v : Move) (d u : List Item) → v.says_u ≡ [] → keeps v ≡ true → Rest v d u → hears_then v.to.hears (d ++ v.says_d) ≡ v.to.linked → IsOk v.now v.to (d ++ v.says_d) u
kept_down v d u e h r tied =
    subst (λ q. IsOk v.now v.to (d ++ v.says_d) q) (ap (λ s. u ++ s) e ∙ append-nil u) (link_kept v d u h r tied)

-- the backend takes its first message
hear_facts : (m : Mine) (c : Ctl) (x : Item) → control_ok m c ≡ true → answer_ok m c x ≡ true → first_answer_ok m c x ≡ true → AllTrue (hear_checks m c x)
unfolding hear_test
hear_facts m c x k a f =
    split (hear_checks m c x) (given (control_ok m c && (answer_ok m c x && first_answer_ok m c x)) (λ _. all_true (hear_checks m c x))
    (items_all (λ y. hear_test m c y) (ctls_all (λ z. all_items (λ y. hear_test m z y)) (mines_all (λ n. all_ctls (λ z. all_items (λ y. hear_test n z y))) hears_computed m) c) x)
    (both_true _ _ k (both_true _ _ a f)))

hear_rest : (m : Mine) (c : Ctl) (x : Item) (d u : List Item) → IsOk m c (x ∷ d) u → Rest (hear_move m c x) d u
unfolding EachItem InSequence SomeItem
hear_rest m c x d u ok = record {
  downs = ok.downs.1;
  ups = ok.ups;
  down_sorted = ok.down_sorted.1;
  up_sorted = ok.up_sorted;
  across = ok.across.1;
  kept_downs = ok.down_sorted.0;
  kept_ups = ok.across.0;
  down_first = first_any (λ y. true ≡ true) (λ y. refl) d;
  up_first = ok.up_first;
  finishes = λ h. let p : (is_unfinished m c ≡ true) × (not (finishes m c x) ≡ true) = and_both _ _ h in
      ⊎_elim (λ (s : SomeItem (λ y. finishes m c y ≡ true) (x ∷ d)). inl (⊎_elim (λ (a : finishes m c x ≡ true). absurd (not_true _ p.1 a)) (λ (t : SomeItem (λ y. finishes m c y ≡ true) d). t) s))
      (λ (s : SomeItem (λ y. finishes m c y ≡ true) u). inr s) (ok.finished p.0);
  waiting = λ h. let p : (waits c ≡ true) × (not (is_awaited c x) ≡ true) = and_both _ _ h in
      ⊎_elim (λ (s : SomeItem (λ y. is_awaited c y ≡ true) (x ∷ d)). inl (⊎_elim (λ (a : is_awaited c x ≡ true). absurd (not_true _ p.1 a)) (λ (t : SomeItem (λ y. is_awaited c y ≡ true) d). t) s))
      (λ (s : SomeItem (λ y. is_awaited c y ≡ true) u). inr s) (ok.awaited p.0);
}

heard : (m : Mine) (c : Ctl) (x : Item) (d u : List Item) → IsOk m c (x ∷ d) u → IsOk m (hear c x).ctl d (u ++ sent_over c.linked (hear c x).says)
unfolding EachItem FirstItem hear_checks AllTrue
heard m c x d u ok =
    let f : AllTrue (hear_checks m c x) = hear_facts m c x ok.control ok.downs.0 ok.down_first in
    kept_up (hear_move m c x) d u refl f.0 (hear_rest m c x d u ok)
    (ap (λ h. hears_then h d) (same_true _ _ f.1.0) ∙ sym (hears_more c.hears x d) ∙ ok.tied ∙ sym (same_true _ _ f.1.1.0))

pub hear_linked : (m : Mine) (c : Ctl) (x : Item) (d u : List Item) → IsOk m c (x ∷ d) u → (hear c x).ctl.linked ≡ c.linked
unfolding EachItem FirstItem hear_checks AllTrue
hear_linked m c x d u ok = same_true _ _ (hear_facts m c x ok.control ok.downs.0 ok.down_first).1.1.0

pub hears_by : (m : Mine) (k : Back) (q : List Item) → k.down ≡ q → LinkOk m k → LinkOk m (hears_first k q)
unfolding hears_first does
hears_by m k [] e ok = ok
hears_by m k (x ∷ d) e ok = heard m k.ctl x d k.up (subst (λ z. IsOk m k.ctl z k.up) e ok)

-- an ask
ask_facts : (a : NameAsk) (m : Mine) (c : Ctl) → control_ok m c ≡ true → AllTrue (ask_checks a m c)
unfolding ask_test
ask_facts a m c k =
    split (ask_checks a m c) (given (control_ok m c) (λ _. all_true (ask_checks a m c))
    (ctls_all (λ z. ask_test a m z) (mines_all (λ n. all_ctls (λ z. ask_test a n z)) (asks_computed a) m) c) k)

pub ask_linked : (a : NameAsk) (m : Mine) (c : Ctl) → control_ok m c ≡ true → (ask a c).ctl.linked ≡ c.linked
unfolding ask_checks AllTrue
ask_linked a m c k = same_true _ _ (ask_facts a m c k).1.1.0

pub asked_kept : (a : NameAsk) (m : Mine) (k : Back) → LinkOk m k → LinkOk m (asked a k)
unfolding asked does ask_checks AllTrue
asked_kept a m k ok =
    let f : AllTrue (ask_checks a m k.ctl) = ask_facts a m k.ctl ok.control in
    kept_up (ask_move a m k.ctl) k.down k.up refl f.0
    (record {
      downs = ok.downs;
      ups = ok.ups;
      down_sorted = ok.down_sorted;
      up_sorted = ok.up_sorted;
      across = ok.across;
      kept_downs = each_any (λ y. true ≡ true) (λ y. refl) k.down;
      kept_ups = each_any (λ y. true ≡ true) (λ y. refl) k.up;
      down_first = ok.down_first;
      up_first = ok.up_first;
      finishes = ok.finished;
      waiting = ok.awaited;
    })
    (ap (λ h. hears_then h k.down) (same_true _ _ f.1.0) ∙ ok.tied ∙ sym (same_true _ _ f.1.1.0))

-- the master takes the backend's first line
pub take_facts : (is_full : Bool) (s : Seen) (c : Ctl) (x : Item) → control_ok (mine_of s) c ≡ true → line_ok (mine_of s) c x ≡ true → first_line_ok (mine_of s) c x ≡ true → AllTrue (take_checks is_full s c x)
unfolding take_test
take_facts b s c x k a f =
    split (take_checks b s c x) (given (control_ok (mine_of s) c && (line_ok (mine_of s) c x && first_line_ok (mine_of s) c x)) (λ _. all_true (take_checks b s c x))
    (items_all (λ y. take_test b s c y) (ctls_all (λ z. all_items (λ y. take_test b s z y)) (seens_all (λ t. all_ctls (λ z. all_items (λ y. take_test b t z y)))
    (bools_all (λ i. all_seens (λ t. all_ctls (λ z. all_items (λ y. take_test i t z y)))) takes_computed b) s) c) x)
    (both_true _ _ k (both_true _ _ a f)))

-- what stands before a line stands before it
all_before : (x : Item) (d u : List Item) → EachItem (λ y. EachItem (λ z. precedes y z ≡ true) (x ∷ u)) d → EachItem (λ y. precedes y x ≡ true) d
unfolding EachItem
all_before x [] u a = tt
all_before x (y ∷ d) u a = (a.0.0, all_before x d u a.1)

rest_across : (x : Item) (d u : List Item) → EachItem (λ y. EachItem (λ z. precedes y z ≡ true) (x ∷ u)) d → EachItem (λ y. EachItem (λ z. precedes y z ≡ true) u) d
unfolding EachItem
rest_across x [] u a = tt
rest_across x (y ∷ d) u a = (a.0.1, rest_across x d u a.1)

take_rest : (b : Bool) (s : Seen) (c : Ctl) (x : Item) (d u : List Item) → IsOk (mine_of s) c d (x ∷ u) → Rest (take_move b s c x) d u
unfolding EachItem InSequence SomeItem
take_rest b s c x d u ok = record {
  downs = ok.downs;
  ups = ok.ups.1;
  down_sorted = ok.down_sorted;
  up_sorted = ok.up_sorted.1;
  across = rest_across x d u ok.across;
  kept_downs = all_before x d u ok.across;
  kept_ups = ok.up_sorted.0;
  down_first = ok.down_first;
  up_first = first_any (λ y. true ≡ true) (λ y. refl) u;
  finishes = λ h. let p : (is_unfinished (mine_of s) c ≡ true) × (not (finishes (mine_of s) c x) ≡ true) = and_both _ _ h in
      ⊎_elim (λ (t : SomeItem (λ y. finishes (mine_of s) c y ≡ true) d). inl t)
      (λ (t : SomeItem (λ y. finishes (mine_of s) c y ≡ true) (x ∷ u)). inr (⊎_elim (λ (a : finishes (mine_of s) c x ≡ true). absurd (not_true _ p.1 a)) (λ (r : SomeItem (λ y. finishes (mine_of s) c y ≡ true) u). r) t))
      (ok.finished p.0);
  waiting = λ h. let p : (waits c ≡ true) × (not (is_awaited c x) ≡ true) = and_both _ _ h in
      ⊎_elim (λ (t : SomeItem (λ y. is_awaited c y ≡ true) d). inl t)
      (λ (t : SomeItem (λ y. is_awaited c y ≡ true) (x ∷ u)). inr (⊎_elim (λ (a : is_awaited c x ≡ true). absurd (not_true _ p.1 a)) (λ (r : SomeItem (λ y. is_awaited c y ≡ true) u). r) t))
      (ok.awaited p.0);
}

-- the backend's part, and that the master leaves another's record alone
pub record LineStepOk (s : Seen) (t : LineStep) : Type 0 where
  pub link : LinkOk (mine_of t.seen) t.back
  pub others : is_other t.seen ≡ is_other s

line_taken : (b : Bool) (s : Seen) (c : Ctl) (x : Item) (d u : List Item) → IsOk (mine_of s) c d (x ∷ u) → LineStepOk s (took (record { ctl = c; down = d; up = x ∷ u }) u (answer b s x))
unfolding EachItem FirstItem take_checks AllTrue took
line_taken b s c x d u ok =
    let f : AllTrue (take_checks b s c x) = take_facts b s c x ok.control ok.ups.0 ok.up_first in
    record {
      link = kept_down (take_move b s c x) d u refl f.0 (take_rest b s c x d u ok)
          (hears_append c.hears d (sent_over c.linked (answer b s x).says) ∙ ap (λ h. hears_then h (sent_over c.linked (answer b s x).says)) ok.tied ∙ same_true _ _ f.1.0);
      others = same_true _ _ f.1.1.0;
    }

pub takes_by : (b : Bool) (s : Seen) (k : Back) (q : List Item) → k.up ≡ q → LinkOk (mine_of s) k → LineStepOk s (takes_first b s k q)
unfolding takes_first took
takes_by b s k [] e ok = record { link = ok; others = refl }
takes_by b s k (x ∷ u) e ok = line_taken b s k.ctl x k.down u (subst (λ z. IsOk (mine_of s) k.ctl k.down z) e ok)
