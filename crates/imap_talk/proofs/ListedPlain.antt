-- The lines of a LIST tell names that hold no end of a line, where no name of a mailbox holds one.
use Rattle.std.proofs.Common.{◌≡◌, ℕ, ◌==◌, Bool, true, false, List, [], ◌∷◌, ◌++◌, map, filter, None, refl}
use Rattle.std.specs.Prelude.{All, if◌then◌else◌, is_some}
use Rattle.std.specs.List.{fold, list_all}
use Rattle.std.specs.Map.{keys_of}
use Rattle.std.specs.Cmp.Lexicographic.{slice_cmp}
use Rattle.std.specs.Ordering.{nat_cmp}
use Rattle.std.proofs.lemmas.Bool.{and_parts}
use Rattle.std.proofs.lemmas.List.Elements.{All-nil, All-cons, All-head, All-tail, All-filter, All-map, All-weaker}
use Rattle.std.proofs.lemmas.Map.Views.{All-keys-insert_entry}
use Rattle.mail_message.specs.Literals.{IsPlain, is_within}
use Rattle.mail_message.proofs.PlainTexts.{all_append}
use Rattle.mur_base.specs.Ascii.{dot}
use Rattle.mur_base.specs.Inbox.{shown_name}
use Rattle.mur_base.specs.Map.{value_at}
use Rattle.mur_base.specs.Names.{mail_name_fault}
use Rattle.mur_base.specs.Patterns.{matches}
use Rattle.imap_types.specs.declared.reply.Attribute.TheVariants.{None as no_attribute, NonExistent}
use Rattle.imap_reply.specs.SoundTexts.{IsSoundLine}
use Rattle.name_listing.specs.Found.{found_lines, with_mailbox, with_level, with_levels, levels_from}
use Rattle.name_listing.specs.Listing.{Lines, ends_in_percent}
use Rattle.name_listing.specs.Told.{line_of}
use Rattle.mur_model.specs.declared.commands.list.Listing.{Listing}
use Rattle.mur_model.specs.Listing.{list_reply, shown_to, tells}
use Rattle.imap_talk.proofs.PlainNames.{shown_plain}

abbrev AllPlain : List (List ℕ) → Type 0
AllPlain names = All IsPlain names

abbrev TellsPlain : Lines → Type 0
TellsPlain lines = AllPlain (keys_of lines)

-- ---- mailboxes

mailbox_by : (pattern : List ℕ) (lines : Lines) (name : List ℕ) (fits : Bool) → matches pattern name ≡ fits → IsPlain name → TellsPlain lines
    → TellsPlain (with_mailbox pattern lines name)
unfolding with_mailbox
mailbox_by pattern lines name true is plain all = rw is (All-keys-insert_entry (slice_cmp nat_cmp) name no_attribute IsPlain lines all plain)
mailbox_by pattern lines name false is plain all = rw is all

mailboxes_plain : (pattern : List ℕ) (names : List (List ℕ)) (lines : Lines) → AllPlain names → TellsPlain lines
    → TellsPlain (fold (with_mailbox pattern) lines names)
mailboxes_plain pattern [] lines plain all = all
mailboxes_plain pattern (name ∷ names) lines plain all =
    mailboxes_plain pattern names (with_mailbox pattern lines name) (All-tail IsPlain name names plain)
    (mailbox_by pattern lines name (matches pattern name) refl (All-head IsPlain name names plain) all)

-- ---- levels above them

level_by : (pattern : List ℕ) (lines : Lines) (level : List ℕ) (there fits : Bool) → is_some (value_at (slice_cmp nat_cmp) lines level) ≡ there
    → matches pattern level ≡ fits → IsPlain level → TellsPlain lines → TellsPlain (with_level pattern lines level)
unfolding with_level
level_by pattern lines level true fits here is plain all = rw here all
level_by pattern lines level false true here is plain all =
    rw (here, is) (All-keys-insert_entry (slice_cmp nat_cmp) level NonExistent IsPlain lines all plain)
level_by pattern lines level false false here is plain all = rw (here, is) all

levels_plain : (pattern : List ℕ) (levels : List (List ℕ)) (lines : Lines) → AllPlain levels → TellsPlain lines
    → TellsPlain (fold (with_level pattern) lines levels)
levels_plain pattern [] lines plain all = all
levels_plain pattern (level ∷ levels) lines plain all =
    levels_plain pattern levels (with_level pattern lines level) (All-tail IsPlain level levels plain)
    (level_by pattern lines level (is_some (value_at (slice_cmp nat_cmp) lines level)) (matches pattern level) refl refl
    (All-head IsPlain level levels plain) all)

-- a level is a front of its name
fronts_by : (front : List ℕ) (more : List (List ℕ)) (ends : Bool) → IsPlain front → AllPlain more → AllPlain (if ends then front ∷ more else more)
fronts_by front more true plain all = All-cons IsPlain front more plain all
fronts_by front more false plain all = all

fronts_plain : (front name : List ℕ) → IsPlain front → IsPlain name → AllPlain (levels_from front name)
unfolding levels_from
fronts_plain front [] plain rest_plain = All-nil IsPlain
fronts_plain front (byte ∷ rest) plain rest_plain =
    let parts = and_parts (is_within byte) (list_all is_within rest) rest_plain in
    let one : IsPlain (byte ∷ []) = rw parts.0 refl in
    fronts_by front (levels_from (front ++ byte ∷ []) rest) (byte == dot) plain
    (fronts_plain (front ++ byte ∷ []) rest (all_append is_within front (byte ∷ []) plain one) parts.1)

all_levels_plain : (pattern : List ℕ) (names : List (List ℕ)) (lines : Lines) → AllPlain names → TellsPlain lines
    → TellsPlain (fold (with_levels pattern) lines names)
unfolding with_levels
all_levels_plain pattern [] lines plain all = all
all_levels_plain pattern (name ∷ names) lines plain all =
    all_levels_plain pattern names (with_levels pattern lines name) (All-tail IsPlain name names plain)
    (levels_plain pattern (levels_from [] name) lines (fronts_plain [] name refl (All-head IsPlain name names plain)) all)

-- ---- both

found_by : (pattern : List ℕ) (names : List (List ℕ)) (ends : Bool) → ends_in_percent pattern ≡ ends → AllPlain names
    → TellsPlain (found_lines pattern names)
unfolding found_lines
found_by pattern names true is plain =
    rw is (all_levels_plain pattern names (fold (with_mailbox pattern) [] names) plain (mailboxes_plain pattern names [] plain (All-nil IsPlain)))
found_by pattern names false is plain = rw is (mailboxes_plain pattern names [] plain (All-nil IsPlain))

lines_sound : (lines : Lines) → TellsPlain lines → All IsSoundLine (map line_of lines)
unfolding IsSoundLine
lines_sound [] all = All-nil IsSoundLine
lines_sound (told ∷ lines) all =
    All-cons IsSoundLine (line_of told) (map line_of lines) (All-head IsPlain told.0 (keys_of lines) all)
    (lines_sound lines (All-tail IsPlain told.0 (keys_of lines) all))

-- the names that are told, as they are shown
told_plain : (it : Listing) (names : List (List ℕ)) → All (λ name. mail_name_fault name ≡ None) names → AllPlain (shown_to it names)
unfolding shown_to
told_plain it names named =
    All-map IsPlain (shown_name it.user) (filter (tells it) names)
    (All-weaker (λ name. mail_name_fault name ≡ None) (λ name. IsPlain (shown_name it.user name)) (λ name is. shown_plain it.user name is)
    (filter (tells it) names) (All-filter (tells it) (λ name. mail_name_fault name ≡ None) names named))

-- so the lines of a LIST have sound texts, where each mailbox has a name by the rules
pub list_sound : (it : Listing) (names : List (List ℕ)) → All (λ name. mail_name_fault name ≡ None) names
    → All IsSoundLine (list_reply it names).lines
unfolding list_reply
list_sound it names named =
    lines_sound (found_lines it.pattern (shown_to it names))
    (found_by it.pattern (shown_to it names) (ends_in_percent it.pattern) refl (told_plain it names named))
