-- How the lines of a LIST are found: mailboxes that match, and then the levels above mailboxes.
use Rattle.std.specs.Prelude.{ℕ, ◌==◌, if◌then◌else◌, List, [], ◌∷◌, ◌++◌, is_some}
use Rattle.std.specs.List.{fold}
use Rattle.std.specs.Ordering.{nat_cmp}
use Rattle.std.specs.Cmp.Lexicographic.{slice_cmp}
use Rattle.mur_base.specs.Ascii.{dot}
use Rattle.mur_base.specs.Map.{value_at, with_entry}
use Rattle.mur_base.specs.Patterns.{matches}
use Rattle.imap_types.specs.declared.reply.Attribute.TheVariants.{None as no_attribute, NonExistent}
use Rattle.name_listing.specs.Listing.{Lines, ends_in_percent}

-- with a mailbox, where it matches
unfoldable pub with_mailbox : List ℕ → Lines → List ℕ → Lines
with_mailbox pattern lines name = if matches pattern name then with_entry (slice_cmp nat_cmp) lines name no_attribute else lines

-- with a level above a mailbox, where it matches and isn't there yet
unfoldable pub with_level : List ℕ → Lines → List ℕ → Lines
with_level pattern lines level =
    if is_some (value_at (slice_cmp nat_cmp) lines level) then lines
    else if matches pattern level then with_entry (slice_cmp nat_cmp) lines level NonExistent
    else lines

-- the levels above a name from here on, behind what stands before
unfoldable pub levels_from : List ℕ → List ℕ → List (List ℕ)
levels_from front [] = []
levels_from front (b ∷ rest) = if b == dot then front ∷ levels_from (front ++ b ∷ []) rest else levels_from (front ++ b ∷ []) rest

-- with the levels above a mailbox
unfoldable pub with_levels : List ℕ → Lines → List ℕ → Lines
with_levels pattern lines name = fold (with_level pattern) lines (levels_from [] name)

-- what is found: mailboxes, and behind a '%' at the end the levels above mailboxes
unfoldable pub found_lines : List ℕ → List (List ℕ) → Lines
found_lines pattern names =
    if ends_in_percent pattern then fold (with_levels pattern) (fold (with_mailbox pattern) [] names) names
    else fold (with_mailbox pattern) [] names
