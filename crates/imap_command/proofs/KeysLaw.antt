-- Search keys: the law of their form, by induction on the depth.
use Rattle.std.proofs.Common.{◌≡◌, ℕ, List, [], ◌∷◌, Bool, true, false, not, ◌||◌, ◌==◌, refl, sym, ap, ◌∙◌, arith}
use Rattle.std.proofs.lemmas.Bool.Decides.{nat_tests}
use Rattle.std.specs.List.{list_all}
use Rattle.mur_base.specs.Number.{is_digit, digits_behind}
use Rattle.grammar.specs.Exact.{among, StartsWith}
use Rattle.grammar.specs.Forms.{Form, Law, preceded, begins_row, several, ◌spaced◌}
use Rattle.grammar.specs.Nested.{told}
use Rattle.grammar.specs.Part.{Part, give, map, byte}
use Rattle.grammar.specs.Words.{word}
use Rattle.grammar.proofs.Conditions.{among_all, not_true, or_right, or_none}
use Rattle.grammar.proofs.FormLaw.{Within, one_byte, apart_byte, law_behind, law_closed, law_made, law_spaced, law_weaker}
use Rattle.grammar.proofs.NamesLaw.{law_table}
use Rattle.grammar.proofs.NestedLaw.{with_text, Told, told_give, told_made, law_told, law_nested, law_apart, starts_from}
use Rattle.grammar.proofs.NumeralLaw.{law_numeral}
use Rattle.grammar.proofs.SeveralLaw.{law_several}
use Rattle.grammar.proofs.StartLaw.{starts_then, starts_byte, starts_word, begins_from}
use Rattle.grammar.proofs.WordLaw.{good_word}
use Rattle.mail_message.specs.declared.flag_name.FlagName.TheVariants.{Keyword}
use Rattle.mail_message.specs.declared.key.Key.{Key}
use Rattle.mail_message.specs.declared.key.Key.TheVariants as key_is
use Rattle.mail_message.specs.declared.key.Key.TheOpen.{Key-F}
use Rattle.mail_message.specs.declared.key.Key.TheFolds.{fold-roll-Key}
use Rattle.mail_message.specs.Keywords.{is_atom_byte}
use Rattle.imap_command.specs.declared.keys.FlatName.{FlatName}
use Rattle.imap_command.specs.declared.keys.FlatName.TheVariants as flat
use Rattle.imap_command.specs.declared.keys.KeyName.{KeyName}
use Rattle.imap_command.specs.declared.keys.KeyName.TheVariants as deep
use Rattle.imap_command.specs.Dates.{date}
use Rattle.imap_command.specs.Fetch.{number64_most}
use Rattle.imap_command.specs.Flags.{any_keyword}
use Rattle.imap_text.specs.FlagNames.{flag_text}
use Rattle.imap_command.specs.Keys.{keyword, size_form, text_by, key_text, flat_rows, flat_name_text, behind_flat, flat_name, flat_key}
use Rattle.imap_command.specs.Keys.{numbers_or, key_rows, key_name_text, behind_key, key_name, group, deep_key, key, keys}
use Rattle.imap_command.specs.Sets.{is_set_start, set}
use Rattle.imap_command.proofs.DatesLaw.{law_date}
use Rattle.imap_command.proofs.FlagsLaw.{ends_flag, any_are}
use Rattle.imap_command.proofs.KeySteps.{group_text}
use Rattle.imap_command.proofs.SetsLaw.{ends_set, law_set}

-- ---- what stands behind a name

law_keyword : Law is_atom_byte ends_set keyword
law_keyword =
    law_made Keyword flag_text _ (λ k. refl)
    (law_weaker is_atom_byte ends_set _ (λ c h. h) (among_all ends_flag (32 ∷ 13 ∷ 41 ∷ []) refl)
    (record {
      good = λ V. good_word any_keyword any_are.lawful ends_flag any_are.apart;
      begins = begins_from ends_flag (word any_keyword) (starts_word any_keyword is_atom_byte any_are.lawful any_are.none any_are.first);
      prints = λ bytes text l. (refl, l.1);
    }))

no_digit : (c : ℕ) → ends_set c ≡ true → is_digit c ≡ false
unfolding is_digit
no_digit c h = not_true (is_digit c) (among_all (λ c. not (is_digit c)) (32 ∷ 13 ∷ 41 ∷ []) refl c h)

law_size : Law is_digit ends_set size_form
unfolding is_digit digits_behind
law_size = law_numeral true number64_most 48 refl ends_set no_digit

law_space : {A : Type 0} {starts : ℕ → Bool} (p : Form A) → Law starts ends_set p → Law ends_set ends_set (preceded 32 p)
law_space p g = law_weaker ends_set ends_set (preceded 32 p) (one_byte 32 ends_set refl) (λ c h. h) (law_behind 32 p g)

-- ---- keys that hold no key

told_flat : (n : FlatName) → Told ends_set ends_set key_text (flat_name_text n) (behind_flat n)
unfolding flat_name_text behind_flat key_text
told_flat flat.All =
    told_give ends_set key_text _ key_is.All (ap key_text (sym key_is.rolls-All) ∙ fold-roll-Key (List ℕ) text_by Key-F.All)
told_flat flat.Answered =
    told_give ends_set key_text _ key_is.Answered (ap key_text (sym key_is.rolls-Answered) ∙ fold-roll-Key (List ℕ) text_by Key-F.Answered)
told_flat flat.Deleted =
    told_give ends_set key_text _ key_is.Deleted (ap key_text (sym key_is.rolls-Deleted) ∙ fold-roll-Key (List ℕ) text_by Key-F.Deleted)
told_flat flat.Draft =
    told_give ends_set key_text _ key_is.Draft (ap key_text (sym key_is.rolls-Draft) ∙ fold-roll-Key (List ℕ) text_by Key-F.Draft)
told_flat flat.Flagged =
    told_give ends_set key_text _ key_is.Flagged (ap key_text (sym key_is.rolls-Flagged) ∙ fold-roll-Key (List ℕ) text_by Key-F.Flagged)
told_flat flat.Seen =
    told_give ends_set key_text _ key_is.Seen (ap key_text (sym key_is.rolls-Seen) ∙ fold-roll-Key (List ℕ) text_by Key-F.Seen)
told_flat flat.Unanswered =
    told_give ends_set key_text _ key_is.Unanswered (ap key_text (sym key_is.rolls-Unanswered) ∙ fold-roll-Key (List ℕ) text_by Key-F.Unanswered)
told_flat flat.Undeleted =
    told_give ends_set key_text _ key_is.Undeleted (ap key_text (sym key_is.rolls-Undeleted) ∙ fold-roll-Key (List ℕ) text_by Key-F.Undeleted)
told_flat flat.Undraft =
    told_give ends_set key_text _ key_is.Undraft (ap key_text (sym key_is.rolls-Undraft) ∙ fold-roll-Key (List ℕ) text_by Key-F.Undraft)
told_flat flat.Unflagged =
    told_give ends_set key_text _ key_is.Unflagged (ap key_text (sym key_is.rolls-Unflagged) ∙ fold-roll-Key (List ℕ) text_by Key-F.Unflagged)
told_flat flat.Unseen =
    told_give ends_set key_text _ key_is.Unseen (ap key_text (sym key_is.rolls-Unseen) ∙ fold-roll-Key (List ℕ) text_by Key-F.Unseen)
told_flat flat.Keyword =
    told_made key_text _ key_is.Keyword (preceded 32 keyword) (law_space keyword law_keyword)
    (λ x. ap key_text (sym (key_is.rolls-Keyword x)) ∙ fold-roll-Key (List ℕ) text_by (Key-F.Keyword x))
told_flat flat.Unkeyword =
    told_made key_text _ key_is.Unkeyword (preceded 32 keyword) (law_space keyword law_keyword)
    (λ x. ap key_text (sym (key_is.rolls-Unkeyword x)) ∙ fold-roll-Key (List ℕ) text_by (Key-F.Unkeyword x))
told_flat flat.Larger =
    told_made key_text _ key_is.Larger (preceded 32 size_form) (law_space size_form law_size)
    (λ x. ap key_text (sym (key_is.rolls-Larger x)) ∙ fold-roll-Key (List ℕ) text_by (Key-F.Larger x))
told_flat flat.Smaller =
    told_made key_text _ key_is.Smaller (preceded 32 size_form) (law_space size_form law_size)
    (λ x. ap key_text (sym (key_is.rolls-Smaller x)) ∙ fold-roll-Key (List ℕ) text_by (Key-F.Smaller x))
told_flat flat.Before =
    told_made key_text _ key_is.Before (preceded 32 date) (law_space date (law_date ends_set))
    (λ x. ap key_text (sym (key_is.rolls-Before x)) ∙ fold-roll-Key (List ℕ) text_by (Key-F.Before x))
told_flat flat.On =
    told_made key_text _ key_is.On (preceded 32 date) (law_space date (law_date ends_set))
    (λ x. ap key_text (sym (key_is.rolls-On x)) ∙ fold-roll-Key (List ℕ) text_by (Key-F.On x))
told_flat flat.Since =
    told_made key_text _ key_is.Since (preceded 32 date) (law_space date (law_date ends_set))
    (λ x. ap key_text (sym (key_is.rolls-Since x)) ∙ fold-roll-Key (List ℕ) text_by (Key-F.Since x))
told_flat flat.Uid =
    told_made key_text _ key_is.Uid (preceded 32 set) (law_space set law_set)
    (λ x. ap key_text (sym (key_is.rolls-Uid x)) ∙ fold-roll-Key (List ℕ) text_by (Key-F.Uid x))

-- ---- a set or a named key

-- the bytes of digits, one by one
abbrev digits : List ℕ
digits = 48 ∷ 49 ∷ 50 ∷ 51 ∷ 52 ∷ 53 ∷ 54 ∷ 55 ∷ 56 ∷ 57 ∷ []

digit_among : (c : ℕ) → is_digit c ≡ true → among digits c ≡ true
unfolding is_digit
digit_among c h = grind (arith, nat_tests)

-- what a set begins with begins no name
set_apart : (test : ℕ → Bool) → test 42 ≡ false → list_all (λ c. not (test c)) digits ≡ true → (c : ℕ) → test c ≡ true → is_set_start c ≡ false
set_apart test star none c h = or_none (c == 42) (is_digit c) (apart_byte 42 test star c h) (by_case (is_digit c) refl)
  where
    by_case : (b : Bool) → is_digit c ≡ b → b ≡ false
    by_case true e = let no : false ≡ true = sym (ap not h) ∙ among_all (λ c. not (test c)) digits none c (digit_among c e) in cc
    by_case false e = refl

law_numbers : Law is_set_start ends_set (with_text key_text (map key_is.Numbers set.part))
unfolding key_text
law_numbers =
    law_made key_is.Numbers key_text set
    (λ x. ap key_text (sym (key_is.rolls-Numbers x)) ∙ fold-roll-Key (List ℕ) text_by (Key-F.Numbers x)) law_set

starts_numbers : StartsWith is_set_start (map key_is.Numbers set.part)
unfolding is_digit
starts_numbers = starts_then set.part (λ parts. give (key_is.Numbers parts)) (starts_from set.part 32 refl refl law_set.begins)

law_flat : Law (λ c. is_set_start c || begins_row flat_rows c) ends_set (with_text key_text flat_key)
unfolding flat_key flat_name_text
law_flat =
    law_apart is_set_start key_text (map key_is.Numbers set.part) (told flat_name behind_flat key_text).part starts_numbers
    (set_apart (begins_row flat_rows) refl refl) law_numbers
    (law_told flat_name behind_flat key_text (law_table flat.All flat_rows flat_name_text refl refl (32 ∷ 13 ∷ 41 ∷ []) refl refl) told_flat)

-- ---- keys that hold keys

abbrev pub starts_key : ℕ → Bool
starts_key c = (c == 40) || (is_set_start c || begins_row key_rows c)

more_names : Within (begins_row flat_rows) (begins_row key_rows)
more_names c h = or_right _ _ (or_right _ _ h)

flat_starts : Within (λ c. is_set_start c || begins_row flat_rows c) starts_key
flat_starts c h = or_right (c == 40) _ (by_case (is_set_start c) h)
  where
    by_case : (b : Bool) → b || begins_row flat_rows c ≡ true → b || begins_row key_rows c ≡ true
    by_case true h = refl
    by_case false h = more_names c h

module _ (p : Part Key) (g : Law starts_key ends_set (with_text key_text p)) where
  told_key : (n : KeyName) → Told ends_set ends_set key_text (key_name_text n) (behind_key (with_text key_text p) n)
  unfolding behind_key key_text
  told_key deep.Not =
      told_made key_text _ key_is.Not (preceded 32 (with_text key_text p)) (law_space (with_text key_text p) g)
      (λ x. ap key_text (sym (key_is.rolls-Not x)) ∙ fold-roll-Key (List ℕ) text_by (Key-F.Not x))
  told_key deep.Or =
      told_made key_text _ (λ x. key_is.Or x.0 x.1) (preceded 32 (with_text key_text p spaced with_text key_text p))
      (law_space _ (law_spaced (with_text key_text p) (with_text key_text p) refl g g))
      (λ x. ap key_text (sym (key_is.rolls-Or x.0 x.1)) ∙ fold-roll-Key (List ℕ) text_by (Key-F.Or x.0 x.1))
  told_key (deep.Flat n) = told_flat n

  law_group : Law (λ c. c == 40) ends_set (with_text key_text (map key_is.Group (group (with_text key_text p)).part))
  law_group =
      law_made key_is.Group key_text (group (with_text key_text p)) group_text
      (law_closed ends_set 40 (several 32 (with_text key_text p)) 41 refl
      (law_several (λ c. c == 41) 32 (with_text key_text p) g refl (apart_byte 32 (λ c. c == 41) refl) (one_byte 41 ends_set refl)))

  law_named : Law (λ c. is_set_start c || begins_row key_rows c) ends_set
      (with_text key_text (numbers_or (told key_name (behind_key (with_text key_text p)) key_text).part))
  unfolding flat_name_text
  law_named =
      law_apart is_set_start key_text (map key_is.Numbers set.part) (told key_name (behind_key (with_text key_text p)) key_text).part starts_numbers
      (set_apart (begins_row key_rows) refl refl) law_numbers
      (law_told key_name (behind_key (with_text key_text p)) key_text
      (law_table deep.Not key_rows key_name_text refl refl (32 ∷ 13 ∷ 41 ∷ []) refl refl) told_key)

  law_deep : Law starts_key ends_set (with_text key_text (deep_key (with_text key_text p)))
  unfolding deep_key is_digit
  law_deep =
      law_apart (λ c. c == 40) key_text (map key_is.Group (group (with_text key_text p)).part)
      (numbers_or (told key_name (behind_key (with_text key_text p)) key_text).part)
      (starts_then (group (with_text key_text p)).part (λ keys. give (key_is.Group keys)) (starts_then (byte 40) _ (starts_byte 40)))
      (apart_byte 40 (λ c. is_set_start c || begins_row key_rows c) refl) law_group law_named

law_key : (depth : ℕ) → Law starts_key ends_set (key depth)
law_key depth =
    law_nested key_text flat_key deep_key
    (law_weaker starts_key ends_set (with_text key_text flat_key) flat_starts (λ c h. h) law_flat) law_deep depth

-- keys up to the end of the line
pub law_keys : (depth : ℕ) → Law starts_key (λ c. c == 13) (keys depth)
law_keys depth = law_several (λ c. c == 13) 32 (key depth) (law_key depth) refl (apart_byte 32 (λ c. c == 13) refl) (one_byte 13 ends_set refl)
