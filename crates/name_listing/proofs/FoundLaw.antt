-- What is found of each name is what LIST tells of it.
use Rattle.std.proofs.Common.{◌≡◌, ◌≢◌, ◌⊎◌, inl, inr, ℕ, Bool, true, false, ◌&&◌, ◌||◌, not, cond, List, [], ◌∷◌, Option, Some, None}
use Rattle.std.proofs.Common.{refl, sym, ap, ◌∙◌, subst}
use Rattle.std.specs.Prelude.{if◌then◌else◌}
use Rattle.std.specs.Option.{option_or}
use Rattle.std.specs.List.{fold, list_any}
use Rattle.std.specs.Str.{bytes_eq}
use Rattle.std.specs.Ordering.{nat_cmp}
use Rattle.std.specs.Cmp.Lexicographic.{slice_cmp}
use Rattle.std.proofs.lemmas.Bool.{and_right}
use Rattle.mur_base.specs.Map.{value_at}
use Rattle.mur_base.specs.Patterns.{matches}
use Rattle.mur_base.proofs.MapLaws.{names_apart, same_or_other, value_at-with_entry, value_at-with_entry-other}
use Rattle.imap_types.specs.declared.reply.Attribute.{Attribute}
use Rattle.imap_types.specs.declared.reply.Attribute.TheVariants.{None as no_attribute, NonExistent}
use Rattle.name_listing.specs.Listing.{Lines, ends_in_percent, is_above, is_among, listed_as}
use Rattle.name_listing.specs.Found.{found_lines, with_mailbox, with_level, with_levels, levels_from}
use Rattle.name_listing.proofs.Above.{same_text, other_text, levels_above}

-- what is told of a name
abbrev pub told : Lines → List ℕ → Option Attribute
told lines name = value_at (slice_cmp nat_cmp) lines name

mailbox_itself : (pattern : List ℕ) (lines : Lines) (name : List ℕ) (m : Bool) → matches pattern name ≡ m
    → told (with_mailbox pattern lines name) name ≡ cond (matches pattern name && bytes_eq name name) (Some no_attribute) (told lines name)
unfolding with_mailbox
mailbox_itself pattern lines name true h = rw (h, same_text name) (value_at-with_entry (slice_cmp nat_cmp) names_apart lines name no_attribute)
mailbox_itself pattern lines name false h = rw h refl

mailbox_other : (pattern : List ℕ) (lines : Lines) (name x : List ℕ) → x ≢ name → (m : Bool) → matches pattern name ≡ m
    → told (with_mailbox pattern lines name) x ≡ told lines x
unfolding with_mailbox
mailbox_other pattern lines name x ne true h = rw h (value_at-with_entry-other (slice_cmp nat_cmp) names_apart lines name x no_attribute ne)
mailbox_other pattern lines name x ne false h = rw h refl

mailbox_by : (pattern : List ℕ) (lines : Lines) (name x : List ℕ) → (x ≡ name) ⊎ (x ≢ name)
    → told (with_mailbox pattern lines name) x ≡ cond (matches pattern x && bytes_eq x name) (Some no_attribute) (told lines x)
mailbox_by pattern lines name x (inl same) =
    subst (λ y. told (with_mailbox pattern lines name) y ≡ cond (matches pattern y && bytes_eq y name) (Some no_attribute) (told lines y)) (sym same)
    (mailbox_itself pattern lines name (matches pattern name) refl)
mailbox_by pattern lines name x (inr ne) =
    mailbox_other pattern lines name x ne (matches pattern name) refl
    ∙ sym (ap (λ b. cond b (Some no_attribute) (told lines x)) (and_right (matches pattern x) (bytes_eq x name) (other_text x name ne)))

either : (m a b : Bool) (y z : Option Attribute) → cond (m && b) y (cond (m && a) y z) ≡ cond (m && (a || b)) y z
either true true true y z = refl
either true true false y z = refl
either true false true y z = refl
either true false false y z = refl
either false a b y z = refl

mailboxes_told : (pattern : List ℕ) (names : List (List ℕ)) (lines : Lines) (x : List ℕ)
    → told (fold (with_mailbox pattern) lines names) x ≡ cond (matches pattern x && is_among names x) (Some no_attribute) (told lines x)
unfolding is_among
mailboxes_told pattern [] lines x = sym (ap (λ b. cond b (Some no_attribute) (told lines x)) (and_right (matches pattern x) false refl))
mailboxes_told pattern (name ∷ names) lines x =
    mailboxes_told pattern names (with_mailbox pattern lines name) x
    ∙ ap (λ o. cond (matches pattern x && is_among names x) (Some no_attribute) o)
    (mailbox_by pattern lines name x (same_or_other (slice_cmp nat_cmp) names_apart x name))
    ∙ either (matches pattern x) (bytes_eq x name) (is_among names x) (Some no_attribute) (told lines x)

-- a level, where this holds
level_if : Bool → Option Attribute
level_if b = cond b (Some NonExistent) None

or_none : (o : Option Attribute) → o ≡ option_or o None
or_none None = refl
or_none (Some a) = refl

level_itself : (pattern : List ℕ) (lines : Lines) (level : List ℕ) (o : Option Attribute) → told lines level ≡ o → (m : Bool) → matches pattern level ≡ m
    → told (with_level pattern lines level) level ≡ option_or (told lines level) (level_if (matches pattern level && bytes_eq level level))
unfolding with_level level_if
level_itself pattern lines level (Some a) there m h = rw (there, there) refl
level_itself pattern lines level None there true h =
    rw (there, h, same_text level) (value_at-with_entry (slice_cmp nat_cmp) names_apart lines level NonExistent)
level_itself pattern lines level None there false h = rw (there, h) there

level_other : (pattern : List ℕ) (lines : Lines) (level x : List ℕ) → x ≢ level → (o : Option Attribute) → told lines level ≡ o
    → (m : Bool) → matches pattern level ≡ m → told (with_level pattern lines level) x ≡ told lines x
unfolding with_level
level_other pattern lines level x ne (Some a) there m h = rw there refl
level_other pattern lines level x ne None there true h =
    rw (there, h) (value_at-with_entry-other (slice_cmp nat_cmp) names_apart lines level x NonExistent ne)
level_other pattern lines level x ne None there false h = rw (there, h) refl

level_by : (pattern : List ℕ) (lines : Lines) (level x : List ℕ) → (x ≡ level) ⊎ (x ≢ level)
    → told (with_level pattern lines level) x ≡ option_or (told lines x) (level_if (matches pattern x && bytes_eq x level))
unfolding level_if
level_by pattern lines level x (inl same) =
    subst (λ y. told (with_level pattern lines level) y ≡ option_or (told lines y) (level_if (matches pattern y && bytes_eq y level))) (sym same)
    (level_itself pattern lines level (told lines level) refl (matches pattern level) refl)
level_by pattern lines level x (inr ne) =
    level_other pattern lines level x ne (told lines level) refl (matches pattern level) refl ∙ or_none (told lines x)
    ∙ sym (ap (λ b. option_or (told lines x) (level_if b)) (and_right (matches pattern x) (bytes_eq x level) (other_text x level ne)))

either_level : (o : Option Attribute) (m a b : Bool)
    → option_or (option_or o (level_if (m && a))) (level_if (m && b)) ≡ option_or o (level_if (m && (a || b)))
unfolding level_if
either_level (Some y) m a b = refl
either_level None true true b = refl
either_level None true false b = refl
either_level None false a b = refl

levels_told : (pattern : List ℕ) (levels : List (List ℕ)) (lines : Lines) (x : List ℕ)
    → told (fold (with_level pattern) lines levels) x ≡ option_or (told lines x) (level_if (matches pattern x && is_among levels x))
unfolding is_among level_if
levels_told pattern [] lines x = or_none (told lines x)
    ∙ sym (ap (λ b. option_or (told lines x) (level_if b)) (and_right (matches pattern x) false refl))
levels_told pattern (level ∷ levels) lines x =
    levels_told pattern levels (with_level pattern lines level) x
    ∙ ap (λ o. option_or o (level_if (matches pattern x && is_among levels x)))
    (level_by pattern lines level x (same_or_other (slice_cmp nat_cmp) names_apart x level))
    ∙ either_level (told lines x) (matches pattern x) (bytes_eq x level) (is_among levels x)

-- the levels above one mailbox
above_told : (pattern : List ℕ) (lines : Lines) (name x : List ℕ)
    → told (with_levels pattern lines name) x ≡ option_or (told lines x) (level_if (matches pattern x && is_above x name))
unfolding with_levels
above_told pattern lines name x =
    levels_told pattern (levels_from [] name) lines x
    ∙ ap (λ b. option_or (told lines x) (level_if (matches pattern x && b))) (levels_above name x)

-- the levels above all
all_above_told : (pattern : List ℕ) (names : List (List ℕ)) (lines : Lines) (x : List ℕ)
    → told (fold (with_levels pattern) lines names) x ≡ option_or (told lines x) (level_if (matches pattern x && list_any (is_above x) names))
unfolding level_if
all_above_told pattern [] lines x = or_none (told lines x)
    ∙ sym (ap (λ b. option_or (told lines x) (level_if b)) (and_right (matches pattern x) false refl))
all_above_told pattern (name ∷ names) lines x =
    all_above_told pattern names (with_levels pattern lines name) x
    ∙ ap (λ o. option_or o (level_if (matches pattern x && list_any (is_above x) names))) (above_told pattern lines name x)
    ∙ either_level (told lines x) (matches pattern x) (is_above x name) (list_any (is_above x) names)

both : (m here above : Bool) → option_or (cond (m && here) (Some no_attribute) None) (level_if (m && above))
    ≡ cond (not m) None (cond here (Some no_attribute) (cond above (Some NonExistent) None))
unfolding level_if
both true true above = refl
both true false above = refl
both false here above = refl

mailboxes_alone : (m here : Bool) → cond (m && here) (Some no_attribute) None ≡ cond (not m) None (cond here (Some no_attribute) None)
mailboxes_alone true here = refl
mailboxes_alone false here = refl

found_by : (pattern : List ℕ) (names : List (List ℕ)) (x : List ℕ) (ends : Bool) → ends_in_percent pattern ≡ ends
    → told (found_lines pattern names) x ≡ listed_as pattern names x
unfolding found_lines listed_as
found_by pattern names x true e =
    rw e (all_above_told pattern names (fold (with_mailbox pattern) [] names) x
    ∙ ap (λ o. option_or o (level_if (matches pattern x && list_any (is_above x) names))) (mailboxes_told pattern names [] x)
    ∙ both (matches pattern x) (is_among names x) (list_any (is_above x) names))
found_by pattern names x false e = rw e (mailboxes_told pattern names [] x ∙ mailboxes_alone (matches pattern x) (is_among names x))

pub found_told : (pattern : List ℕ) (names : List (List ℕ)) (x : List ℕ) → told (found_lines pattern names) x ≡ listed_as pattern names x
found_told pattern names x = found_by pattern names x (ends_in_percent pattern) refl
