-- The UIDVALIDITYs of the store are those that the master's lines gave.
use Rattle.std.proofs.Common.{◌≡◌, ◌≢◌, ℕ, ◌<◌, ◌≤◌, List, [], ◌∷◌, map, refl, sym, subst}
use Rattle.std.specs.Prelude.{All}
use Rattle.std.specs.List.{AllByRecursion}
use Rattle.std.proofs.lemmas.List.Elements.{All-nil, All-cons, All-weaker}
use Rattle.mur_model.specs.declared.store.Pair.{Pair}
use Rattle.home_law.specs.ManyNames.{Mailbox}
use Rattle.name_links.specs.Serials.{Given}
use Rattle.store_links.specs.Given.{given_pair, GivenFirst, NewIsFree, GivenAreLow}

pub given_first : GivenFirst
given_first = refl

-- what holds of each that the lines gave
all_given : (P : Mailbox × ℕ → Type 0) (pairs : List Pair) → AllByRecursion P (map given_pair pairs) → All (λ (pair : Pair). P (given_pair pair)) pairs
all_given P [] all = All-nil (λ (pair : Pair). P (given_pair pair))
all_given P (pair ∷ pairs) all = All-cons (λ (p : Pair). P (given_pair p)) pair pairs all.0 (all_given P pairs all.1)

pub new_is_free : NewIsFree
new_is_free store given n serial has positive new =
    let all = all_given (λ (g : Mailbox × ℕ). (g.1 ≢ serial) × (g.0 ≡ n → g.1 < serial)) store.given
    (subst (λ (gs : Given). AllByRecursion (λ (g : Mailbox × ℕ). (g.1 ≢ serial) × (g.0 ≡ n → g.1 < serial)) gs) (sym has) new) in
    record {
      positive = positive;
      unused = All-weaker (λ (p : Pair). (p.serial ≢ serial) × (p.name ≡ n → p.serial < serial)) (λ (p : Pair). p.serial ≢ serial) (λ p h. h.0) store.given all;
      rises = All-weaker (λ (p : Pair). (p.serial ≢ serial) × (p.name ≡ n → p.serial < serial)) (λ (p : Pair). p.name ≡ n → p.serial < serial)
          (λ p h. h.1) store.given all;
    }

pub given_are_low : GivenAreLow
given_are_low table store given has serials =
    all_given (λ (g : Mailbox × ℕ). g.1 ≤ table.serial) store.given
    (subst (λ (gs : Given). AllByRecursion (λ (g : Mailbox × ℕ). g.1 ≤ table.serial) gs) (sym has) serials.given_low)
