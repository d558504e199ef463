-- The end of a resync: to each name it is LIST's OK, and then the asks that waited, one after the other.
use Rattle.std.proofs.Common.{◌≡◌, ◌≢◌, ◌⊎◌, inl, inr, ℕ, Bool, true, false, ◌&&◌, not, cond, is_some, List, [], ◌∷◌, map, filter, Option, None, Some, refl, sym, ap, subst, ◌∙◌}
use Rattle.std.specs.List.{fold}
use Rattle.std.specs.List.Sorted.{IsStrictlySortedBy}
use Rattle.std.specs.Ordering.{is_eq, nat_cmp}
use Rattle.std.specs.Cmp.Lexicographic.{slice_cmp}
use Rattle.mur_base.specs.Map.{value_at, IsInOrder}
use Rattle.mur_base.proofs.MapLaws.{names_apart, same_or_other, not_equal, value_at-with_entry-other}
use Rattle.mur_base.specs.declared.home.Phase.{Phase}
use Rattle.mur_base.specs.declared.home.Phase.TheVariants.{Creating, Open, Closing, Receiving, Ready, Pointer}
use Rattle.node_record.specs.declared.held.Held.{Held}
use Rattle.node_record.specs.Held.{Names, held_at, forgotten}
use Rattle.home_law.specs.Items.{HomePhase, HomeFlow, Resync as Progress, synced, listing, listed, Item, find}
use Rattle.home_law.specs.Steps.{BackStep, hear_list_ok}
use Rattle.home_law.specs.ManyNames.{Mailbox}
use Rattle.home_law.proofs.SameName.{is_itself, is_another}
use Rattle.name_flows.specs.declared.flows.Flows.{Flows}
use Rattle.name_flows.specs.declared.sent.SentLine.{SentLine}
use Rattle.name_flows.specs.Listed.{ListedNames, LinesByName, is_unmade, is_lost, name_in, with_find, find_line}
use Rattle.name_flows.specs.OneName.{phase_in}
use Rattle.name_flows.specs.Phases.{is_creating_phase, is_closing_phase}
use Rattle.name_links.proofs.LinesByName.{says, IsAboutIt, Each, differs, says_none, each_put, says_put-other, says_put-same, is_in, passes, absent, is_in_passing, gone}

-- ---- the lines that look for names

pub find_about : (e : List ℕ × Held) → IsAboutIt (e.0, find_line e.0)
find_about e m ne = ap (λ (t : Bool). cond t (find ∷ []) []) (is_another e.0 m ne)

pub finds_each : (P : List ℕ × SentLine → Type 0) → ((e : List ℕ × Held) → P (e.0, find_line e.0)) → (xs : Names) (lines : LinesByName) → Each P lines → Each P (fold with_find lines xs)
finds_each P p [] lines all = all
finds_each P p (e ∷ xs) lines all = finds_each P p xs (with_find lines e) (each_put e.0 (find_line e.0) P (p e) lines all)

in_parts : (t r : Bool) → cond t true r ≡ false → (t ≡ false) × (r ≡ false)
in_parts true r e = cc
in_parts false r e = (refl, e)

finds_says-other : (n : Mailbox) (xs : Names) (lines : LinesByName) → is_in n (map name_in xs) ≡ false → Each IsAboutIt lines → says n (fold with_find lines xs) ≡ says n lines
unfolding is_in
finds_says-other n [] lines out about = refl
finds_says-other n (e ∷ xs) lines out about =
    let parts = in_parts (is_eq (slice_cmp nat_cmp n e.0)) (is_in n (map name_in xs)) out in
    finds_says-other n xs (with_find lines e) parts.1 (each_put e.0 (find_line e.0) IsAboutIt (find_about e) lines about)
    ∙ says_put-other e.0 (find_line e.0) n (differs n e.0 parts.0) (find_about e) lines about

pub finds_none : (n : Mailbox) (xs : Names) (lines : LinesByName) → is_in n (map name_in xs) ≡ false → value_at (slice_cmp nat_cmp) (fold with_find lines xs) n ≡ value_at (slice_cmp nat_cmp) lines n
unfolding is_in
finds_none n [] lines out = refl
finds_none n (e ∷ xs) lines out =
    let parts = in_parts (is_eq (slice_cmp nat_cmp n e.0)) (is_in n (map name_in xs)) out in
    finds_none n xs (with_find lines e) parts.1
    ∙ value_at-with_entry-other (slice_cmp nat_cmp) names_apart lines e.0 n (find_line e.0) (λ f. differs n e.0 parts.0 (sym f))

finds_own : (p : List ℕ × Held → Bool) (e : List ℕ × Held) (es : Names) (lines : LinesByName) → is_in e.0 (map name_in (filter p es)) ≡ false → Each IsAboutIt lines
    → value_at (slice_cmp nat_cmp) lines e.0 ≡ None → (t : Bool) → says e.0 (fold with_find lines (cond t (e ∷ filter p es) (filter p es))) ≡ cond t (find ∷ []) []
finds_own p e es lines out about none true =
    finds_says-other e.0 (filter p es) (with_find lines e) out (each_put e.0 (find_line e.0) IsAboutIt (find_about e) lines about)
    ∙ says_put-same e.0 (find_line e.0) lines about none ∙ ap (λ (t : Bool). cond t (find ∷ []) []) (is_itself e.0)
finds_own p e es lines out about none false = finds_says-other e.0 (filter p es) lines out about ∙ says_none e.0 lines about none

finds_next : (p : List ℕ × Held → Bool) (n : Mailbox) (e : List ℕ × Held) (es : Names) (xs : List Item) → n ≢ e.0
    → ((lines : LinesByName) → Each IsAboutIt lines → value_at (slice_cmp nat_cmp) lines n ≡ None → says n (fold with_find lines (filter p es)) ≡ xs)
    → (lines : LinesByName) → Each IsAboutIt lines → value_at (slice_cmp nat_cmp) lines n ≡ None → (t : Bool)
    → says n (fold with_find lines (cond t (e ∷ filter p es) (filter p es))) ≡ xs
finds_next p n e es xs ne ih lines about none true =
    ih (with_find lines e) (each_put e.0 (find_line e.0) IsAboutIt (find_about e) lines about)
    (value_at-with_entry-other (slice_cmp nat_cmp) names_apart lines e.0 n (find_line e.0) ne ∙ none)
finds_next p n e es xs ne ih lines about none false = ih lines about none

-- a name is looked for if its entry passes
finds_says : (p : List ℕ × Held → Bool) (n : Mailbox) (es : Names) → IsInOrder (slice_cmp nat_cmp) es → (lines : LinesByName) → Each IsAboutIt lines
    → value_at (slice_cmp nat_cmp) lines n ≡ None → says n (fold with_find lines (filter p es)) ≡ cond (passes p n (value_at (slice_cmp nat_cmp) es n)) (find ∷ []) []
unfolding IsStrictlySortedBy
finds_says p n [] order lines about none = says_none n lines about none
finds_says p n (e ∷ es) order lines about none = by_name (finds_says p n es order.1) (same_or_other (slice_cmp nat_cmp) names_apart n e.0)
  where
    by_name : ((ls : LinesByName) → Each IsAboutIt ls → value_at (slice_cmp nat_cmp) ls n ≡ None → says n (fold with_find ls (filter p es)) ≡ cond (passes p n (value_at (slice_cmp nat_cmp) es n)) (find ∷ []) [])
        → (n ≡ e.0) ⊎ (n ≢ e.0) → says n (fold with_find lines (filter p (e ∷ es))) ≡ cond (passes p n (value_at (slice_cmp nat_cmp) (e ∷ es) n)) (find ∷ []) []
    by_name ih (inl same) =
        subst (λ (k : Mailbox). says k (fold with_find lines (filter p (e ∷ es))) ≡ cond (passes p k (value_at (slice_cmp nat_cmp) (e ∷ es) k)) (find ∷ []) []) (sym same)
        (finds_own p e es lines (absent p e.0 es order.0) about (subst (λ (k : Mailbox). value_at (slice_cmp nat_cmp) lines k ≡ None) same none) (p e)
        ∙ sym (ap (λ (t : Bool). cond (passes p e.0 (cond t (Some e.1) (value_at (slice_cmp nat_cmp) es e.0))) (find ∷ []) []) (names_apart.itself e.0)))
    by_name ih (inr ne) =
        finds_next p n e es _ ne ih lines about none (p e)
        ∙ sym (ap (λ (t : Bool). cond (passes p n (cond t (Some e.1) (value_at (slice_cmp nat_cmp) es n))) (find ∷ []) []) (not_equal (slice_cmp nat_cmp) names_apart n e.0 ne))

-- ---- LIST's OK

abbrev pub step_with : HomePhase → HomeFlow → Progress → Bool → List Item → BackStep
step_with h f s u xs = record { ctl = record { phase = h; flow = f; resync = s; hears = u; linked = true }; says = xs }

abbrev made_by : Bool → List ℕ × Held → Bool
made_by t e = is_creating_phase (e.1).phase && not t

abbrev closed_by : Bool → List ℕ × Held → Bool
closed_by t e = is_closing_phase (e.1).phase && not t

ok_by : (n : Mailbox) (f : HomeFlow) (u : Bool) (h : Option Held) (t : Bool)
    → step_with (phase_in (cond (passes (made_by t) n h) None h)) f synced u (cond (passes (closed_by t) n h) (find ∷ []) [])
    ≡ hear_list_ok (record { phase = phase_in h; flow = f; resync = cond t listed listing; hears = u; linked = true }) (cond t listed listing) (phase_in h)
unfolding hear_list_ok
ok_by n f u None true = refl
ok_by n f u None false = refl
ok_by n f u (Some it) t = by_phase it.phase refl t
  where
    by_phase : (p : Phase) → it.phase ≡ p → (t : Bool)
        → step_with (phase_in (cond (passes (made_by t) n (Some it)) None (Some it))) f synced u (cond (passes (closed_by t) n (Some it)) (find ∷ []) [])
        ≡ hear_list_ok (record { phase = phase_in (Some it); flow = f; resync = cond t listed listing; hears = u; linked = true }) (cond t listed listing) (phase_in (Some it))
    by_phase Creating e true = rw e refl
    by_phase Creating e false = rw e refl
    by_phase Open e true = rw e refl
    by_phase Open e false = rw e refl
    by_phase Closing e true = rw e refl
    by_phase Closing e false = rw e refl
    by_phase Receiving e true = rw e refl
    by_phase Receiving e false = rw e refl
    by_phase Ready e true = rw e refl
    by_phase Ready e false = rw e refl
    by_phase (Pointer server) e true = rw e refl
    by_phase (Pointer server) e false = rw e refl

module _ (flows : Flows) (held : Names) (order : IsInOrder (slice_cmp nat_cmp) held) (listed_names : ListedNames) where
  -- what is here behind the resync, and the lines that look for names
  abbrev pub after_held : Names
  after_held = fold forgotten held (map name_in (filter (is_unmade listed_names) held))

  abbrev pub lost_lines : LinesByName
  lost_lines = fold with_find [] (filter (is_lost listed_names) held)

  abbrev pub is_noted : Mailbox → Bool
  is_noted n = is_some (value_at (slice_cmp nat_cmp) listed_names n)

  pub after_at : (n : Mailbox) → held_at after_held n ≡ cond (passes (made_by (is_noted n)) n (held_at held n)) None (held_at held n)
  after_at n = gone n (map name_in (filter (is_unmade listed_names) held)) held order ∙ ap (λ (t : Bool). cond t None (held_at held n)) (is_in_passing (is_unmade listed_names) n held order ∙ by_held (held_at held n))
    where
      by_held : (h : Option Held) → passes (is_unmade listed_names) n h ≡ passes (made_by (is_noted n)) n h
      by_held None = refl
      by_held (Some it) = refl

  lost_says : (n : Mailbox) → says n lost_lines ≡ cond (passes (closed_by (is_noted n)) n (held_at held n)) (find ∷ []) []
  lost_says n = finds_says (is_lost listed_names) n held order [] tt refl ∙ ap (λ (t : Bool). cond t (find ∷ []) []) (by_held (held_at held n))
    where
      by_held : (h : Option Held) → passes (is_lost listed_names) n h ≡ passes (closed_by (is_noted n)) n h
      by_held None = refl
      by_held (Some it) = refl

  -- to a name this is LIST's OK
  pub list_ok_is : (n : Mailbox) (f : HomeFlow) (u : Bool) → step_with (phase_in (held_at after_held n)) f synced u (says n lost_lines)
      ≡ hear_list_ok (record { phase = phase_in (held_at held n); flow = f; resync = cond (is_noted n) listed listing; hears = u; linked = true }) (cond (is_noted n) listed listing) (phase_in (held_at held n))
  list_ok_is n f u =
      ap (λ (h : Option Held). step_with (phase_in h) f synced u (says n lost_lines)) (after_at n)
      ∙ ap (λ (xs : List Item). step_with (phase_in (cond (passes (made_by (is_noted n)) n (held_at held n)) None (held_at held n))) f synced u xs) (lost_says n)
      ∙ ok_by n f u (held_at held n) (is_noted n)
