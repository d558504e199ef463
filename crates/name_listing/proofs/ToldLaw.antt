-- What LIST tells of a name, by the tests that it is told by.
use Rattle.std.proofs.Common.{◌≡◌, ◌≢◌, ◌⊎◌, ◌↔◌, inl, inr, ℕ, ◌-◌, Bool, true, false, ◌&&◌, not, cond, List, [], ◌∷◌}
use Rattle.std.proofs.Common.{◌++◌, length, take, Option, Some, None, refl, sym, ◌∙◌}
use Rattle.std.specs.List.{list_any, Any, Contains}
use Rattle.std.specs.Cmp.Lexicographic.{nat_list_eq_equiv}
use Rattle.std.proofs.lemmas.Bool.{false_from_ne_true, true≢false}
use Rattle.std.proofs.lemmas.Bool.Decides.{Decides-eqb}
use Rattle.std.proofs.lemmas.List.Folds.{Any-from_list_any, list_any-from_Any}
use Rattle.std.proofs.lemmas.Map.Views.{list_any-from_Contains, Contains-from_any}
use Rattle.std.proofs.lemmas.Slice.Eq.{bytes_eq-Decides, ends_is}
use Rattle.mur_base.specs.Ascii.{percent}
use Rattle.mur_base.specs.Patterns.{matches}
use Rattle.imap_types.specs.declared.reply.Attribute.{Attribute}
use Rattle.imap_types.specs.declared.reply.Attribute.TheVariants.{None as no_attribute, NoSelect, NonExistent}
use Rattle.name_listing.specs.Listing.{is_among, is_above, ends_in_percent, listed_as}
use Rattle.name_listing.specs.Told.{StandsAbove, IsToldLevel}
use Rattle.name_listing.proofs.Above.{stands_above, above_from}

-- what is told by the tests: it matches, is a mailbox, the pattern ends in '%', a mailbox stands below
abbrev told_by : Bool → Bool → Bool → Bool → Option Attribute
told_by fits here ends above =
    cond (not fits) None (cond here (Some no_attribute) (cond (ends && above) (Some NonExistent) None))

by_fits : (fits here ends above : Bool) (attribute : Attribute) → told_by fits here ends above ≡ Some attribute → fits ≡ true
by_fits true here ends above attribute h = refl
by_fits false here ends above attribute h = cc

never_noselect : (fits here ends above : Bool) → told_by fits here ends above ≢ Some NoSelect
never_noselect true true ends above = λ h. cc
never_noselect true false true true = λ h. cc
never_noselect true false true false = λ h. cc
never_noselect true false false above = λ h. cc
never_noselect false here ends above = λ h. cc

mailbox_tests : (fits here ends above : Bool) → told_by fits here ends above ≡ Some no_attribute → (here ≡ true) × (fits ≡ true)
mailbox_tests true true ends above h = (refl, refl)
mailbox_tests true false true true h = cc
mailbox_tests true false true false h = cc
mailbox_tests true false false above h = cc
mailbox_tests false here ends above h = cc

level_tests : (fits here ends above : Bool) → told_by fits here ends above ≡ Some NonExistent
    → (fits ≡ true) × (here ≡ false) × (ends ≡ true) × (above ≡ true)
level_tests true true ends above h = cc
level_tests true false true true h = (refl, refl, refl, refl)
level_tests true false true false h = cc
level_tests true false false above h = cc
level_tests false here ends above h = cc

pub listed_fits : (pattern : List ℕ) (names : List (List ℕ)) (name : List ℕ) (attribute : Attribute)
    → listed_as pattern names name ≡ Some attribute → matches pattern name ≡ true
unfolding listed_as
listed_fits pattern names name attribute h =
    by_fits (matches pattern name) (is_among names name) (ends_in_percent pattern) (list_any (is_above name) names) attribute h

pub listed_as-never_noselect : (pattern : List ℕ) (names : List (List ℕ)) (name : List ℕ) → listed_as pattern names name ≢ Some NoSelect
unfolding listed_as
listed_as-never_noselect pattern names name =
    never_noselect (matches pattern name) (is_among names name) (ends_in_percent pattern) (list_any (is_above name) names)

-- a name is among names
pub among_from : (names : List (List ℕ)) (name : List ℕ) → Contains names name → is_among names name ≡ true
unfolding is_among
among_from names name there = list_any-from_Contains nat_list_eq_equiv name names there

pub from_among : (names : List (List ℕ)) (name : List ℕ) → is_among names name ≡ true → Contains names name
unfolding is_among
from_among names name h = Contains-from_any (λ x y same. (bytes_eq-Decides x y).0 same) name names h

pub not_among : (names : List (List ℕ)) (name : List ℕ) → (Contains names name → ⊥) → is_among names name ≡ false
not_among names name none = false_from_ne_true _ (λ h. none (from_among names name h))

pub none_among : (names : List (List ℕ)) (name : List ℕ) → is_among names name ≡ false → (Contains names name → ⊥)
none_among names name h = λ there. true≢false (sym (among_from names name there) ∙ h)

-- a mailbox stands below a level
pub some_below : (level : List ℕ) (names : List (List ℕ)) → list_any (is_above level) names ≡ true → Any (StandsAbove level) names
some_below level names h =
    let found = Any-from_list_any (is_above level) names h in (found.0, found.1, found.2, found.3, stands_above level found.1 found.4)

pub any_below : (level : List ℕ) (names : List (List ℕ)) → Any (StandsAbove level) names → list_any (is_above level) names ≡ true
any_below level names some =
    list_any-from_Any (is_above level) names (some.0, some.1, some.2, some.3, above_from level some.1 some.4)

-- '%' ends a pattern
pub ends_from : (pattern front : List ℕ) → pattern ≡ front ++ percent ∷ [] → ends_in_percent pattern ≡ true
unfolding ends_in_percent
ends_from pattern front h = (ends_is Decides-eqb pattern (percent ∷ []) (ends_in_percent pattern) refl).1 front h

pub from_ends : (pattern : List ℕ) → ends_in_percent pattern ≡ true → (front : List ℕ) × (pattern ≡ front ++ percent ∷ [])
unfolding ends_in_percent
from_ends pattern h = (take (length pattern - 1) pattern, (ends_is Decides-eqb pattern (percent ∷ []) (ends_in_percent pattern) refl).0 h)

-- a mailbox that matches
pub mailbox_told : (pattern : List ℕ) (names : List (List ℕ)) (name : List ℕ) → is_among names name ≡ true → matches pattern name ≡ true
    → listed_as pattern names name ≡ Some no_attribute
unfolding listed_as
mailbox_told pattern names name here fits = rw (fits, here) refl

pub mailboxes : (pattern : List ℕ) (names : List (List ℕ)) (name : List ℕ)
    → (listed_as pattern names name ≡ Some no_attribute) ↔ (Contains names name × (matches pattern name ≡ true))
unfolding listed_as
mailboxes pattern names name = (
  λ h. let tests = mailbox_tests (matches pattern name) (is_among names name) (ends_in_percent pattern) (list_any (is_above name) names) h in
      (from_among names name tests.0, tests.1),
  λ both. mailbox_told pattern names name (among_from names name both.0) both.1,
)

-- a level that matches
pub level_told : (pattern : List ℕ) (names : List (List ℕ)) (name : List ℕ) → matches pattern name ≡ true → is_among names name ≡ false
    → ends_in_percent pattern ≡ true → list_any (is_above name) names ≡ true → listed_as pattern names name ≡ Some NonExistent
unfolding listed_as
level_told pattern names name fits here ends above = rw (fits, here, ends, above) refl

told_level : (pattern : List ℕ) (names : List (List ℕ)) (name : List ℕ) → listed_as pattern names name ≡ Some NonExistent → IsToldLevel pattern names name
unfolding listed_as
told_level pattern names name h =
    let tests = level_tests (matches pattern name) (is_among names name) (ends_in_percent pattern) (list_any (is_above name) names) h in record {
      ends = from_ends pattern tests.2;
      fits = tests.0;
      above = some_below name names tests.3;
      no_mailbox = none_among names name tests.1;
    }

pub levels : (pattern : List ℕ) (names : List (List ℕ)) (name : List ℕ)
    → (listed_as pattern names name ≡ Some NonExistent) ↔ IsToldLevel pattern names name
levels pattern names name = (
  told_level pattern names name,
  λ it. level_told pattern names name it.fits (not_among names name it.no_mailbox) (ends_from pattern it.ends.0 it.ends.1)
      (any_below name names it.above),
)

-- what is told is a mailbox, or stands above one
kind_tests : (fits here ends above : Bool) (attribute : Attribute) → told_by fits here ends above ≡ Some attribute
    → (here ≡ true) ⊎ ((ends ≡ true) × (above ≡ true))
kind_tests true true ends above attribute h = inl refl
kind_tests true false true true attribute h = inr (refl, refl)
kind_tests true false true false attribute h = cc
kind_tests true false false above attribute h = cc
kind_tests false here ends above attribute h = cc

pub told_kind : (pattern : List ℕ) (names : List (List ℕ)) (name : List ℕ) (attribute : Attribute)
    → listed_as pattern names name ≡ Some attribute
    → (is_among names name ≡ true) ⊎ ((ends_in_percent pattern ≡ true) × (list_any (is_above name) names ≡ true))
unfolding listed_as
told_kind pattern names name attribute h =
    kind_tests (matches pattern name) (is_among names name) (ends_in_percent pattern) (list_any (is_above name) names) attribute h
