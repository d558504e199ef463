-- Each fault keeps the invariant of its backend.
use Rattle.std.proofs.Common.{◌≡◌, ℕ, Bool, true, false, ◌&&◌, not, List, [], ◌∷◌, ◌++◌, take, refl, ◌∙◌, subst}
use Rattle.home_law.specs.Items.{Mine, Item, backend_up, backend_end, master_up, master_end, Ctl}
use Rattle.home_law.specs.Steps.{unlinked, crashed}
use Rattle.home_law.specs.Link.{Back, shorten, cut, crash, lose, join}
use Rattle.home_law.specs.Rows.{control_ok, answer_ok, line_ok, precedes, first_answer_ok, first_line_ok}
use Rattle.home_law.specs.LinkOk.{EachItem, InSequence, FirstItem, hears_then, LinkOk}
use Rattle.home_law.proofs.Finite.{all_true, AllTrue, split, given, mines_all, all_ctls, ctls_all}
use Rattle.home_law.proofs.Lists.{each_any, each_take, sorted_take, first_take, across_take, hears_append}
use Rattle.home_law.proofs.Shortens.{each_shorten, sorted_shorten, first_shorten, deaf_shorten}
use Rattle.home_law.proofs.Move.{keeps}
use Rattle.home_law.proofs.Kept.{Rest, both_true, link_kept}
use Rattle.home_law.proofs.Moves.{any, none, fault_move, cut_move, crash_move, lose_move, join_move, linked_tests, linked_test, unlinked_tests, unlinked_test, linked_computed, unlinked_computed}
use Rattle.home_law.proofs.Events.{IsOk, kept_up, kept_down, is_not}

-- faults
linked_facts : (m : Mine) (c : Ctl) → control_ok m c ≡ true → c.linked ≡ true → AllTrue (linked_tests m c)
unfolding linked_test
linked_facts m c k l =
    split (linked_tests m c) (given (control_ok m c && c.linked) (λ _. all_true (linked_tests m c))
    (ctls_all (λ z. linked_test m z) (mines_all (λ n. all_ctls (λ z. linked_test n z)) linked_computed m) c) (both_true _ _ k l))

unlinked_facts : (m : Mine) (c : Ctl) → control_ok m c ≡ true → c.linked ≡ false → AllTrue (unlinked_tests m c)
unfolding unlinked_test
unlinked_facts m c k l =
    split (unlinked_tests m c) (given (control_ok m c && not c.linked) (λ _. all_true (unlinked_tests m c))
    (ctls_all (λ z. unlinked_test m z) (mines_all (λ n. all_ctls (λ z. unlinked_test n z)) unlinked_computed m) c) (both_true _ _ k (is_not _ l)))

-- a part of each queue is kept
fault_rest : (m : Mine) (k : Back) (to : Ctl) (i j : ℕ) (says_d says_u : List Item) → LinkOk m k → Rest (fault_move m k.ctl to any any says_d says_u) (take i k.down) (take j k.up)
fault_rest m k to i j says_d says_u ok = record {
  downs = each_take (λ x. answer_ok m k.ctl x ≡ true) i k.down ok.downs;
  ups = each_take (λ x. line_ok m k.ctl x ≡ true) j k.up ok.ups;
  down_sorted = sorted_take i k.down ok.down_sorted;
  up_sorted = sorted_take j k.up ok.up_sorted;
  across = each_take _ i k.down (across_take j k.down k.up ok.across);
  kept_downs = each_any (λ y. true ≡ true) (λ y. refl) _;
  kept_ups = each_any (λ y. true ≡ true) (λ y. refl) _;
  down_first = first_take (λ x. first_answer_ok m k.ctl x ≡ true) i k.down ok.down_first;
  up_first = first_take (λ x. first_line_ok m k.ctl x ≡ true) j k.up ok.up_first;
  finishes = λ h. cc;
  waiting = λ h. cc;
}

-- nothing of the one queue is kept
no_down_rest : (m : Mine) (c to : Ctl) (says_d says_u u : List Item) → EachItem (λ x. line_ok m c x ≡ true) u → InSequence u → FirstItem (λ x. first_line_ok m c x ≡ true) u → Rest (fault_move m c to none any says_d says_u) [] u
unfolding EachItem InSequence FirstItem
no_down_rest m c to says_d says_u u ups s f = record {
  downs = tt;
  ups = ups;
  down_sorted = tt;
  up_sorted = s;
  across = tt;
  kept_downs = tt;
  kept_ups = each_any (λ y. true ≡ true) (λ y. refl) u;
  down_first = tt;
  up_first = f;
  finishes = λ h. cc;
  waiting = λ h. cc;
}

no_up_rest : (m : Mine) (c to : Ctl) (says_d says_u d : List Item) → EachItem (λ x. answer_ok m c x ≡ true) d → InSequence d → FirstItem (λ x. first_answer_ok m c x ≡ true) d → Rest (fault_move m c to any none says_d says_u) d []
unfolding EachItem InSequence FirstItem
no_up_rest m c to says_d says_u d downs s f = record {
  downs = downs;
  ups = tt;
  down_sorted = s;
  up_sorted = tt;
  across = each_any (λ x. EachItem (λ y. precedes x y ≡ true) []) (λ x. tt) d;
  kept_downs = each_any (λ y. true ≡ true) (λ y. refl) d;
  kept_ups = tt;
  down_first = f;
  up_first = tt;
  finishes = λ h. cc;
  waiting = λ h. cc;
}

nothing_rest : (m : Mine) (c to : Ctl) (says_d says_u : List Item) → Rest (fault_move m c to none none says_d says_u) [] []
unfolding EachItem InSequence FirstItem
nothing_rest m c to says_d says_u = record { downs = tt; ups = tt; down_sorted = tt; up_sorted = tt; across = tt; kept_downs = tt; kept_ups = tt; down_first = tt; up_first = tt; finishes = λ h. cc; waiting = λ h. cc }

-- behind an End the link isn't up
ended : (h : Bool) (d : List Item) → hears_then h (d ++ backend_end ∷ []) ≡ false
unfolding hears_then
ended h d = hears_append h d (backend_end ∷ [])

pub cut_by : (i j : ℕ) (m : Mine) (k : Back) (l : Bool) → k.ctl.linked ≡ l → LinkOk m k → LinkOk m (cut i j k l)
unfolding cut linked_tests AllTrue
cut_by i j m k false e ok = ok
cut_by i j m k true e ok =
    link_kept (cut_move m k.ctl) (take i k.down) (take j k.up) (linked_facts m k.ctl ok.control e).0 (fault_rest m k (unlinked k.ctl) i j (backend_end ∷ []) (master_end ∷ []) ok) (ended k.ctl.hears (take i k.down))

pub crash_by : (j : ℕ) (m : Mine) (k : Back) (l : Bool) → k.ctl.linked ≡ l → LinkOk m k → LinkOk m (crash j k l)
unfolding crash linked_tests unlinked_tests AllTrue hears_then first_line_ok
crash_by j m k true e ok =
    link_kept (crash_move m k.ctl (master_end ∷ [])) [] (take j k.up) (linked_facts m k.ctl ok.control e).1.0
    (no_down_rest m k.ctl (crashed k.ctl) [] (master_end ∷ []) (take j k.up) (each_take (λ x. line_ok m k.ctl x ≡ true) j k.up ok.ups) (sorted_take j k.up ok.up_sorted)
    (first_take (λ x. first_line_ok m k.ctl x ≡ true) j k.up ok.up_first)) refl
crash_by j m k false e ok =
    kept_down (crash_move m k.ctl []) [] (shorten j k.up) refl (unlinked_facts m k.ctl ok.control e).0
    (no_down_rest m k.ctl (crashed k.ctl) [] [] (shorten j k.up) (each_shorten (λ x. line_ok m k.ctl x ≡ true) j k.up ok.ups) (sorted_shorten j k.up ok.up_sorted)
    (first_shorten (λ x. first_line_ok m k.ctl x ≡ true) refl refl j k.up ok.up_first)) refl

pub lose_by : (i : ℕ) (m : Mine) (k : Back) (l : Bool) → k.ctl.linked ≡ l → LinkOk m k → LinkOk m (lose i k l)
unfolding lose linked_tests unlinked_tests AllTrue first_answer_ok
lose_by i m k true e ok =
    link_kept (lose_move m k.ctl (backend_end ∷ [])) (take i k.down) [] (linked_facts m k.ctl ok.control e).1.1.0
    (no_up_rest m k.ctl (unlinked k.ctl) (backend_end ∷ []) [] (take i k.down) (each_take (λ x. answer_ok m k.ctl x ≡ true) i k.down ok.downs) (sorted_take i k.down ok.down_sorted)
    (first_take (λ x. first_answer_ok m k.ctl x ≡ true) i k.down ok.down_first)) (ended k.ctl.hears (take i k.down))
lose_by i m k false e ok =
    kept_up (lose_move m k.ctl []) (shorten i k.down) [] refl (unlinked_facts m k.ctl ok.control e).1.0
    (no_up_rest m k.ctl (unlinked k.ctl) [] [] (shorten i k.down) (each_shorten (λ x. answer_ok m k.ctl x ≡ true) i k.down ok.downs) (sorted_shorten i k.down ok.down_sorted)
    (first_shorten (λ x. first_answer_ok m k.ctl x ≡ true) refl refl i k.down ok.down_first)) (deaf_shorten k.ctl.hears i k.down (ok.tied ∙ e))

joined : (m : Mine) (k : Back) → k.ctl.linked ≡ false → k.ctl.hears ≡ false → LinkOk m k → IsOk m (record k.ctl { linked = true }) (backend_up ∷ []) (master_up ∷ [])
unfolding unlinked_tests AllTrue hears_then
joined m k e h ok =
    link_kept (join_move m k.ctl) [] []
    (given (not k.ctl.hears) (λ _. keeps (join_move m k.ctl)) (unlinked_facts m k.ctl ok.control e).1.1.0 (is_not _ h)) (nothing_rest m k.ctl (record k.ctl { linked = true }) (backend_up ∷ []) (master_up ∷ [])) refl

-- where nothing comes the link is up as the backend sees it or not
deaf : (h l : Bool) (d : List Item) → d ≡ [] → hears_then h d ≡ l → h ≡ l
unfolding hears_then
deaf h l d e t = let s : hears_then h [] ≡ l = subst (λ q. hears_then h q ≡ l) e t in s

pub join_by : (m : Mine) (k : Back) (l : Bool) (d u : List Item) → k.ctl.linked ≡ l → k.down ≡ d → LinkOk m k → LinkOk m (join k l d u)
unfolding join
join_by m k false [] [] e f ok = joined m k e (deaf k.ctl.hears k.ctl.linked k.down f ok.tied ∙ e) ok
join_by m k false [] (x ∷ u) e f ok = ok
join_by m k false (x ∷ d) u e f ok = ok
join_by m k true d u e f ok = ok
