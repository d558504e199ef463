-- Every event keeps the invariant of the name at every backend.
use Rattle.std.proofs.Common.{inl, inr, ◌≡◌, ◌≢◌, Bool, true, false, cond, List, [], ◌∷◌, refl, sym, ◌∙◌, ap, subst}
use Rattle.home_law.specs.Items.{Server, is_same_server, Seen}
use Rattle.home_law.specs.Link.{Back, hears_first, asked, takes_first, cut, crash, join, see, put}
use Rattle.home_law.specs.NameRun.{NameWorld, set_back, NameEvent, on_ask, on_line, on_answer, on_cut, on_join, on_crash, on_master_crash, with_line_step, with_back, name_happens, back_of_start, name_start, name_run}
use Rattle.home_law.specs.Rows.{mine_of}
use Rattle.home_law.specs.LinkOk.{EachItem, InSequence, FirstItem, SomeItem, hears_then, LinkOk, NameOk}
use Rattle.home_law.proofs.Moves.{computed}
use Rattle.home_law.proofs.Events.{asked_kept}
use Rattle.home_law.proofs.LinkEvents.{hears_kept, takes_kept, others_kept, cut_kept, crash_kept, lose_kept, join_kept}
use Rattle.home_law.proofs.SameName.{is_itself, is_the_same}

line_by : (w : NameWorld) (b q : Server) (seen : Seen) (k : Back) (i : Bool) → is_same_server q b ≡ i → NameOk w
    → LinkOk (mine_of (see (put seen b w.known) b)) k → (b ≢ q → mine_of (see (put seen b w.known) q) ≡ mine_of (see w.known q))
    → LinkOk (mine_of (see (put seen b w.known) q)) (cond i k (w.back q))
line_by w b q seen k true e ok next others =
    subst (λ y. LinkOk (mine_of (see (put seen b w.known) y)) k) (sym (is_the_same q b e)) next
line_by w b q seen k false e ok next others =
    subst (λ m. LinkOk m (w.back q)) (sym (others (λ same. apart (ap (λ y. is_same_server y b) same ∙ e)))) (ok q)
  where
    apart : is_same_server b b ≡ false → ⊥
    apart f = let itself = is_itself b in cc

line_kept : (w : NameWorld) (is_full : Bool) (b : Server) → NameOk w → NameOk (name_happens w (on_line is_full b))
unfolding name_happens with_line_step set_back
line_kept w is_full b ok q =
    line_by w b q (takes_first is_full (see w.known b) (w.back b) (w.back b).up).seen (takes_first is_full (see w.known b) (w.back b) (w.back b).up).back
    (is_same_server q b) refl ok (takes_kept is_full w.known b (w.back b) (ok b)) (λ ne. others_kept is_full w.known b q (w.back b) ne (ok b))

back_by : (w : NameWorld) (b q : Server) (k : Back) (i : Bool) → is_same_server q b ≡ i → NameOk w → LinkOk (mine_of (see w.known b)) k
    → LinkOk (mine_of (see w.known q)) (cond i k (w.back q))
back_by w b q k true e ok next = subst (λ y. LinkOk (mine_of (see w.known y)) k) (sym (is_the_same q b e)) next
back_by w b q k false e ok next = ok q

back_kept : (w : NameWorld) (b : Server) (k : Back) → NameOk w → LinkOk (mine_of (see w.known b)) k → NameOk (with_back w b k)
unfolding set_back
back_kept w b k ok next q = back_by w b q k (is_same_server q b) refl ok next

pub happens_kept : (w : NameWorld) (e : NameEvent) → NameOk w → NameOk (name_happens w e)
unfolding name_happens
happens_kept w (on_ask a b) ok = back_kept w b (asked a (w.back b)) ok (asked_kept a (mine_of (see w.known b)) (w.back b) (ok b))
happens_kept w (on_line is_full b) ok = line_kept w is_full b ok
happens_kept w (on_answer b) ok = back_kept w b (hears_first (w.back b) (w.back b).down) ok (hears_kept (mine_of (see w.known b)) (w.back b) (ok b))
happens_kept w (on_cut b i j) ok = back_kept w b (cut i j (w.back b) (w.back b).ctl.linked) ok (cut_kept i j (mine_of (see w.known b)) (w.back b) (ok b))
happens_kept w (on_join b) ok =
    back_kept w b (join (w.back b) (w.back b).ctl.linked (w.back b).down (w.back b).up) ok (join_kept (mine_of (see w.known b)) (w.back b) (ok b))
happens_kept w (on_crash b j) ok = back_kept w b (crash j (w.back b) (w.back b).ctl.linked) ok (crash_kept j (mine_of (see w.known b)) (w.back b) (ok b))
happens_kept w (on_master_crash i) ok = λ b. lose_kept (i b) (mine_of (see w.known b)) (w.back b) (ok b)

start_kept : NameOk name_start
unfolding name_start back_of_start see computed EachItem InSequence FirstItem SomeItem hears_then
start_kept b = record {
  control = refl;
  downs = tt;
  ups = (refl, tt);
  down_sorted = tt;
  up_sorted = (tt, tt);
  across = tt;
  down_first = tt;
  up_first = refl;
  tied = refl;
  finished = λ h. cc;
  awaited = λ h. inr (inl refl);
}

run_kept : (w : NameWorld) (es : List NameEvent) → NameOk w → NameOk (name_run w es)
unfolding name_run
run_kept w [] ok = ok
run_kept w (e ∷ es) ok = run_kept (name_happens w e) es (happens_kept w e ok)

-- the invariant holds at every moment of every run
pub always : (es : List NameEvent) → NameOk (name_run name_start es)
always es = run_kept name_start es start_kept
