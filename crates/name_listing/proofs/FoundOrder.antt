-- What is found stands in order.
use Rattle.std.proofs.Common.{◌≡◌, ℕ, Bool, true, false, List, [], ◌∷◌, Option, Some, None, Result, Ok, Err, refl, sym, ap, ◌∙◌, subst}
use Rattle.std.specs.Prelude.{IfOk}
use Rattle.std.specs.List.{fold}
use Rattle.std.specs.List.Sorted.{IsStrictlySortedBy}
use Rattle.std.specs.Ordering.{nat_cmp}
use Rattle.std.specs.Cmp.Lexicographic.{slice_cmp, nat_list_cmp_total}
use Rattle.mur_base.specs.Map.{value_at, IsInOrder}
use Rattle.mur_base.specs.declared.memory.Memory.{Memory}
use Rattle.mur_base.specs.Patterns.{matches}
use Rattle.mur_base.proofs.MapOrder.{with_entry-in_order}
use Rattle.imap_types.specs.declared.reply.Attribute.{Attribute}
use Rattle.imap_types.specs.declared.reply.Attribute.TheVariants.{None as no_attribute, NonExistent}
use Rattle.name_listing.specs.Listing.{Lines, ends_in_percent, IsListing}
use Rattle.name_listing.specs.Found.{found_lines, with_mailbox, with_level, with_levels, levels_from}
use Rattle.name_listing.proofs.FoundLaw.{found_told}

abbrev Rises : Lines → Type 0
Rises lines = IsInOrder (slice_cmp nat_cmp) lines

with_mailbox-rises : (pattern : List ℕ) (lines : Lines) (name : List ℕ) (m : Bool) → matches pattern name ≡ m → Rises lines
    → Rises (with_mailbox pattern lines name)
unfolding with_mailbox
with_mailbox-rises pattern lines name true h rises = rw h (with_entry-in_order (slice_cmp nat_cmp) nat_list_cmp_total lines name no_attribute rises)
with_mailbox-rises pattern lines name false h rises = rw h rises

with_level-rises : (pattern : List ℕ) (lines : Lines) (level : List ℕ) (o : Option Attribute) → value_at (slice_cmp nat_cmp) lines level ≡ o
    → (m : Bool) → matches pattern level ≡ m → Rises lines → Rises (with_level pattern lines level)
unfolding with_level
with_level-rises pattern lines level (Some a) there m h rises = rw there rises
with_level-rises pattern lines level None there true h rises =
    rw (there, h) (with_entry-in_order (slice_cmp nat_cmp) nat_list_cmp_total lines level NonExistent rises)
with_level-rises pattern lines level None there false h rises = rw (there, h) rises

mailboxes-rise : (pattern : List ℕ) (names : List (List ℕ)) (lines : Lines) → Rises lines → Rises (fold (with_mailbox pattern) lines names)
mailboxes-rise pattern [] lines rises = rises
mailboxes-rise pattern (name ∷ names) lines rises =
    mailboxes-rise pattern names (with_mailbox pattern lines name) (with_mailbox-rises pattern lines name (matches pattern name) refl rises)

levels-rise : (pattern : List ℕ) (levels : List (List ℕ)) (lines : Lines) → Rises lines → Rises (fold (with_level pattern) lines levels)
levels-rise pattern [] lines rises = rises
levels-rise pattern (level ∷ levels) lines rises =
    levels-rise pattern levels (with_level pattern lines level)
    (with_level-rises pattern lines level (value_at (slice_cmp nat_cmp) lines level) refl (matches pattern level) refl rises)

all-rise : (pattern : List ℕ) (names : List (List ℕ)) (lines : Lines) → Rises lines → Rises (fold (with_levels pattern) lines names)
unfolding with_levels
all-rise pattern [] lines rises = rises
all-rise pattern (name ∷ names) lines rises =
    all-rise pattern names (with_levels pattern lines name) (levels-rise pattern (levels_from [] name) lines rises)

found-rises : (pattern : List ℕ) (names : List (List ℕ)) (ends : Bool) → ends_in_percent pattern ≡ ends → Rises (found_lines pattern names)
unfolding found_lines IsStrictlySortedBy
found-rises pattern names true e = rw e (all-rise pattern names _ (mailboxes-rise pattern names [] tt))
found-rises pattern names false e = rw e (mailboxes-rise pattern names [] tt)

-- the lines that are found are the listing
pub found_listing : (pattern : List ℕ) (names : List (List ℕ)) → IsListing pattern names (found_lines pattern names)
found_listing pattern names = record {
  rising = found-rises pattern names (ends_in_percent pattern) refl;
  told = found_told pattern names;
}

-- the lines are what is found
pub ok_found : (pattern : List ℕ) (names : List (List ℕ)) (found : Lines) → found ≡ found_lines pattern names
    → (result : Result Lines Memory) → IfOk result (λ lines. lines ≡ found) → IfOk result (λ lines. lines ≡ found_lines pattern names)
ok_found pattern names found all (Ok lines) same = same ∙ all
ok_found pattern names found all (Err fault) same = tt

-- so they are the listing
pub ok_listing : (pattern : List ℕ) (names : List (List ℕ)) (found : Lines) → found ≡ found_lines pattern names
    → (result : Result Lines Memory) → IfOk result (λ lines. lines ≡ found) → IfOk result (λ lines. IsListing pattern names lines)
ok_listing pattern names found all (Ok lines) same = subst (IsListing pattern names) (sym (same ∙ all)) (found_listing pattern names)
ok_listing pattern names found all (Err fault) same = tt

pub found_all : (pattern : List ℕ) (names : List (List ℕ)) (one other : Lines) → ends_in_percent pattern ≡ true
    → one ≡ fold (with_mailbox pattern) [] names → other ≡ fold (with_levels pattern) one names → other ≡ found_lines pattern names
unfolding found_lines
found_all pattern names one other e first second = rw e (second ∙ ap (λ (l : Lines). fold (with_levels pattern) l names) first)

pub found_same : (pattern : List ℕ) (names : List (List ℕ)) (one : Lines) → ends_in_percent pattern ≡ false
    → one ≡ fold (with_mailbox pattern) [] names → one ≡ found_lines pattern names
unfolding found_lines
found_same pattern names one e first = rw e first
