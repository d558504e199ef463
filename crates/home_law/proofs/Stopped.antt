-- A crash inside a step, after its entry and with no outputs, is the step and then a crash that keeps nothing that the step sent.
use Rattle.std.proofs.Common.{◌≡◌, ℕ, zero, suc, Bool, true, false, List, [], ◌∷◌, ◌++◌, take, refl, sym, ◌∙◌, ap, subst}
use Rattle.std.proofs.lemmas.List.{append-nil}
use Rattle.home_law.specs.Items.{NameRecord, Server, Mine, Seen, Item, backend_end, master_end}
use Rattle.home_law.specs.Steps.{BackStep, hear, MasterStep, answer, NameAsk, ask, unlinked, crashed}
use Rattle.home_law.specs.Link.{Back, sent_over, does, hears_first, asked, took, takes_first, shorten, crash, lose, silently, stopped_hearing, stopped_asked, stopped_taking, see, put}
use Rattle.home_law.specs.Rows.{mine_of}
use Rattle.home_law.specs.LinkOk.{LinkOk}
use Rattle.home_law.proofs.Events.{IsOk, LineStepOk, hears_by, takes_by, asked_kept, hear_linked, ask_linked}
use Rattle.home_law.proofs.Faults.{crash_by, lose_by}
use Rattle.home_law.proofs.Records.{see_put}

-- as many of the first messages, but no more than there are
unfoldable at_most : ℕ → List Item → ℕ
at_most zero xs = zero
at_most (suc j) [] = zero
at_most (suc j) (x ∷ xs) = suc (at_most j xs)

take_at_most : (j : ℕ) (xs ys : List Item) → take (at_most j xs) (xs ++ ys) ≡ take j xs
unfolding at_most
take_at_most zero xs ys = refl
take_at_most (suc j) [] ys = refl
take_at_most (suc j) (x ∷ xs) ys = ap (λ q. x ∷ q) (take_at_most j xs ys)

nothing_sent : (l : Bool) (xs says : List Item) → l ≡ false → xs ++ sent_over l says ≡ xs
unfolding sent_over
nothing_sent l xs says e = ap (λ b. xs ++ sent_over b says) e ∙ append-nil xs

-- the backend crashes inside a step
stopped_by : (j : ℕ) (m : Mine) (k : Back) (d : List Item) (h : BackStep) (l : Bool) → k.ctl.linked ≡ l → h.ctl.linked ≡ k.ctl.linked
    → LinkOk m (does k d h) → LinkOk m (crash j (silently k h.ctl d) l)
unfolding does silently crash
stopped_by j m k d h true e f ok =
    subst (λ q. IsOk m (crashed h.ctl) [] (q ++ master_end ∷ [])) (take_at_most j k.up (sent_over k.ctl.linked h.says))
    (crash_by (at_most j k.up) m (does k d h) true (f ∙ e) ok)
stopped_by j m k d h false e f ok =
    subst (λ q. IsOk m (crashed h.ctl) [] (shorten j q)) (nothing_sent k.ctl.linked k.up h.says e) (crash_by j m (does k d h) false (f ∙ e) ok)

hearing_by : (j : ℕ) (m : Mine) (k : Back) (q : List Item) → k.down ≡ q → LinkOk m k → LinkOk m (stopped_hearing j k q)
unfolding stopped_hearing hears_first
hearing_by j m k [] e ok = crash_by j m k k.ctl.linked refl ok
hearing_by j m k (x ∷ d) e ok =
    stopped_by j m k d (hear k.ctl x) k.ctl.linked refl (hear_linked m k.ctl x d k.up (subst (λ q. IsOk m k.ctl q k.up) e ok)) (hears_by m k (x ∷ d) e ok)

pub stopped_hearing_kept : (j : ℕ) (m : Mine) (k : Back) → LinkOk m k → LinkOk m (stopped_hearing j k k.down)
stopped_hearing_kept j m k ok = hearing_by j m k k.down refl ok

pub stopped_asked_kept : (j : ℕ) (a : NameAsk) (m : Mine) (k : Back) → LinkOk m k → LinkOk m (stopped_asked j a k)
unfolding stopped_asked asked
stopped_asked_kept j a m k ok = stopped_by j m k k.down (ask a k.ctl) k.ctl.linked refl (ask_linked a m k.ctl ok.control) (asked_kept a m k ok)

-- the master crashes inside a step

lost_by : (i : ℕ) (m : Mine) (k : Back) (u : List Item) (t : MasterStep) (l : Bool) → k.ctl.linked ≡ l → LinkOk m (took k u t).back
    → LinkOk m (lose i (record k { up = u }) l)
unfolding took lose
lost_by i m k u t true e ok =
    subst (λ q. IsOk m (unlinked k.ctl) (q ++ backend_end ∷ []) []) (take_at_most i k.down (sent_over k.ctl.linked t.says))
    (lose_by (at_most i k.down) m (took k u t).back true e ok)
lost_by i m k u t false e ok =
    subst (λ q. IsOk m (unlinked k.ctl) (shorten i q) []) (nothing_sent k.ctl.linked k.down t.says e) (lose_by i m (took k u t).back false e ok)

taking_by : (i : ℕ) (is_full : Bool) (s : Seen) (k : Back) (q : List Item) → k.up ≡ q → LinkOk (mine_of s) k
    → LineStepOk s (stopped_taking i is_full s k q)
unfolding stopped_taking takes_first took
taking_by i is_full s k [] e ok = record { link = lose_by i (mine_of s) k k.ctl.linked refl ok; others = refl }
taking_by i is_full s k (x ∷ u) e ok =
    let step = takes_by is_full s k (x ∷ u) e ok in
    record { link = lost_by i (mine_of (answer is_full s x).seen) k u (answer is_full s x) k.ctl.linked refl step.link; others = step.others }

pub stopped_taking_kept : (i : ℕ) (is_full : Bool) (r : NameRecord) (b : Server) (k : Back) → LinkOk (mine_of (see r b)) k
    → LinkOk (mine_of (see (put (stopped_taking i is_full (see r b) k k.up).seen b r) b)) (stopped_taking i is_full (see r b) k k.up).back
stopped_taking_kept i is_full r b k ok =
    let step = taking_by i is_full (see r b) k k.up refl ok in
    subst (λ s. LinkOk (mine_of s) (stopped_taking i is_full (see r b) k k.up).back) (sym (see_put r b (stopped_taking i is_full (see r b) k k.up).seen step.others)) step.link
