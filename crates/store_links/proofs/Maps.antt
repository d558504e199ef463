-- What is at a name after a change of a backend's names.
use Rattle.std.proofs.Common.{◌≡◌, ◌≢◌, Bool, true, false, cond, List, [], ◌∷◌, Option, None, Some, refl, ap, subst, ◌∙◌}
use Rattle.std.specs.List.{fold, AllByRecursion}
use Rattle.std.specs.Ordering.{is_eq, nat_cmp}
use Rattle.std.specs.Cmp.Lexicographic.{slice_cmp}
use Rattle.mur_base.proofs.MapLaws.{names_apart, not_equal, value_at-with_value, value_at-with_value-other}
use Rattle.node_record.specs.declared.held.Held.{Held}
use Rattle.node_record.specs.Held.{Names, held_at, has_content, changed_if, changed, forgotten}
use Rattle.home_law.specs.ManyNames.{Mailbox}

-- what a change makes of a name
abbrev pub changed_to : (Held → Held) → Option Held → Option Held
changed_to change None = None
changed_to change (Some it) = Some (cond (has_content it.phase) (change it) it)

module _ (held : Names) (m : Mailbox) (change : Held → Held) where
  own_by : (h : Option Held) → held_at held m ≡ h → held_at (changed_if held m change h) m ≡ changed_to change h
  own_by None e = e
  own_by (Some it) e = value_at-with_value (slice_cmp nat_cmp) names_apart held m (cond (has_content it.phase) (change it) it) it e

  pub changed_own : held_at (changed held m change) m ≡ changed_to change (held_at held m)
  changed_own = own_by (held_at held m) refl

  other_by : (n : Mailbox) → n ≢ m → (h : Option Held) → held_at (changed_if held m change h) n ≡ held_at held n
  other_by n ne None = refl
  other_by n ne (Some it) = value_at-with_value-other (slice_cmp nat_cmp) names_apart held m n (cond (has_content it.phase) (change it) it) ne

  pub changed_other : (n : Mailbox) → n ≢ m → held_at (changed held m change) n ≡ held_at held n
  changed_other n ne = other_by n ne (held_at held m)

-- a name that is forgotten leaves the others, in whatever order they stand
forgotten_by : (e : Mailbox × Held) (es rest : Names) (m n : Mailbox) → is_eq (slice_cmp nat_cmp n m) ≡ false → held_at rest n ≡ held_at es n
    → (t : Bool) → is_eq (slice_cmp nat_cmp m e.0) ≡ t → held_at (cond t es (e ∷ rest)) n ≡ held_at (e ∷ es) n
forgotten_by e es rest m n ne same true h =
    let apart : is_eq (slice_cmp nat_cmp n e.0) ≡ false = subst (λ (k : Mailbox). is_eq (slice_cmp nat_cmp n k) ≡ false) (names_apart.exact m e.0 h) ne in
    rw apart refl
forgotten_by e es rest m n ne same false h = ap (λ (found : Option Held). cond (is_eq (slice_cmp nat_cmp n e.0)) (Some e.1) found) same

pub forgotten_other : (held : Names) (m n : Mailbox) → n ≢ m → held_at (forgotten held m) n ≡ held_at held n
forgotten_other [] m n ne = refl
forgotten_other (e ∷ es) m n ne =
    forgotten_by e es (forgotten es m) m n (not_equal (slice_cmp nat_cmp) names_apart n m ne) (forgotten_other es m n ne) (is_eq (slice_cmp nat_cmp m e.0)) refl

pub all_forgotten_other : (names : List Mailbox) (held : Names) (n : Mailbox) → AllByRecursion (λ m. n ≢ m) names
    → held_at (fold forgotten held names) n ≡ held_at held n
all_forgotten_other [] held n all = refl
all_forgotten_other (m ∷ names) held n all = all_forgotten_other names (forgotten held m) n all.1 ∙ forgotten_other held m n all.0
