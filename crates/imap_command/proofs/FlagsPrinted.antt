-- Flags that some bytes spell are spelled as they are printed: their keywords stand in order, and are not too many.
use Rattle.std.proofs.Common.{◌≡◌, ℕ, ◌<◌, ◌≤◌, List, [], ◌∷◌, ◌++◌, length, Bool, true, false, ◌==◌, nat_le, nat_lt, cond, inl, inr, refl, sym}
use Rattle.std.proofs.Common.{ap, ◌∙◌, subst}
use Rattle.std.proofs.Common.{append-nil, append_assoc, length-append, arith}
use borrow.Author.Tests.{lt-leb}
use Rattle.std.proofs.lemmas.Bool.Decides.{nat_tests}
use Rattle.std.specs.List.{list_all}
use Rattle.std.specs.List.Sorted.{IsStrictlySortedBy}
use Rattle.std.specs.Ordering.{nat_cmp}
use Rattle.std.specs.Cmp.Lexicographic.{slice_cmp}
use Rattle.std.specs.BTreeSet.{insert_key}
use Rattle.std.proofs.lemmas.Cmp.{nat_list_cmp_total}
use Rattle.grammar.specs.Part.{Part, ◌then◌, map, byte, choose, turns, repeat, spaced}
use Rattle.grammar.specs.Exact.{any}
use Rattle.grammar.specs.Forms.{Law, more_text, list_text, table}
use Rattle.grammar.specs.Members.{is_same, members}
use Rattle.grammar.specs.Runs.{some}
use Rattle.grammar.specs.Words.{word}
use Rattle.grammar.proofs.Conditions.{and_both, and_left, and_right, and_false}
use Rattle.grammar.proofs.FormLaw.{one_byte, apart_byte}
use Rattle.grammar.proofs.MembersLaw.{same_is}
use Rattle.grammar.proofs.NamesLaw.{spell_name}
use Rattle.grammar.proofs.RepetitionLaw.{begins_any}
use Rattle.grammar.proofs.Spelling.{spell_then, spell_map, spell_byte, spell_one}
use Rattle.mail_message.specs.FlagSets.{Flags, no_flags, with_flag, has_too_many}
use Rattle.mail_message.specs.declared.flag_name.FlagName.{FlagName}
use Rattle.mail_message.specs.declared.flag_name.FlagName.TheVariants.{System, Keyword}
use Rattle.mail_message.specs.declared.system_flags.SystemFlag.{SystemFlag}
use Rattle.mail_message.specs.declared.system_flags.SystemFlag.TheVariants.{Answered, Flagged, Deleted, Seen, Draft}
use Rattle.mail_message.specs.declared.system_flags.SystemFlags.{SystemFlags}
use Rattle.mail_message.specs.Keywords.{is_atom_byte}
use Rattle.imap_text.specs.FlagNames.{system_text}
use Rattle.imap_command.specs.Flags.{system_rows, system_flag, any_keyword, is_full, keywords_beside, put_flag, flag, some_flags}
use Rattle.imap_command.specs.Flags.{flag_list_part, text_if, system_texts, flag_list_text, flag_list, store_flags_part, store_flags}
use Rattle.imap_command.proofs.ArgumentsLaw.{ends_line}
use Rattle.imap_command.proofs.FlagsLaw.{ends_flag, is_space, are_keywords, good_list, good_store}
use Rattle.imap_command.proofs.KeywordsKept.{all_insert, length_insert, sorted_insert, insert_present, insert_last}
use Rattle.imap_text.proofs.Values.{Only, only_then, only_map, only_behind, only_choose, only_repeat}

-- keywords in order, at most 16 of them, all of which are keywords
pub record IsKept (flags : Flags) : Type 0 where
  pub sorted : IsStrictlySortedBy (slice_cmp nat_cmp) flags.keywords
  pub few : length flags.keywords ≤ 16
  pub valid : list_all any_keyword.whole flags.keywords ≡ true

kept_none : IsKept no_flags
unfolding IsStrictlySortedBy
kept_none = record { sorted = tt; few = omega arith; valid = refl }

-- one keyword more
few_more : (known : List (List ℕ)) (k : List ℕ) → IsStrictlySortedBy (slice_cmp nat_cmp) known → length known ≤ 16
    → list_all any_keyword.whole known ≡ true → (keywords_beside known).whole k ≡ true → length (insert_key (slice_cmp nat_cmp) known k) ≤ 16
few_more known k sorted few valid h = by_many (nat_le 16 (length known)) refl h
  where
    not_more : nat_le 16 (length known) ≡ false → length known < 16
    not_more e = grind (arith, nat_tests)

    by_many : (b : Bool) → nat_le 16 (length known) ≡ b → (keywords_beside known).whole k ≡ true
        → length (insert_key (slice_cmp nat_cmp) known k) ≤ 16
    by_many true e h =
        let full : is_full known ≡ true = and_both (nat_le 16 (length known)) _ e valid in
        let member : (members is_atom_byte known).whole k ≡ true =
        sym (ap (λ b. (cond b (members is_atom_byte known) any_keyword).whole k) full) ∙ h in
        let there = and_right (some k) _ (and_right (list_all is_atom_byte k) _ member) in
        let same = insert_present (slice_cmp nat_cmp) nat_list_cmp_total k (λ text. is_same text k) (λ text e. same_is text k e) known sorted there in
        subst (λ keys. length keys ≤ 16) (sym same) few
    by_many false e h = omega (arith, length_insert (slice_cmp nat_cmp) known k, not_more e)

kept_keyword : (flags : Flags) (k : List ℕ) → IsKept flags → (keywords_beside flags.keywords).whole k ≡ true → IsKept (with_flag flags (Keyword k))
kept_keyword flags k kept h = record {
  sorted = sorted_insert (slice_cmp nat_cmp) nat_list_cmp_total flags.keywords k kept.sorted;
  few = few_more flags.keywords k kept.sorted kept.few kept.valid h;
  valid = all_insert (slice_cmp nat_cmp) any_keyword.whole flags.keywords k kept.valid ((are_keywords flags.keywords).valid k h);
}

-- there is room for a flag beside kept ones
room_for : (flags : Flags) (name : FlagName) → length (with_flag flags name).keywords ≤ 16 → put_flag flags name ≡ with_flag flags name
room_for flags name few =
    let no : has_too_many (with_flag flags name) ≡ false = not_many (length (with_flag flags name).keywords) few in
    ap (λ b. cond b flags (with_flag flags name)) no
  where
    not_many : (n : ℕ) → n ≤ 16 → nat_lt 16 n ≡ false
    not_many n h = grind (arith, nat_tests)

only_flag : (so_far : Flags) → IsKept so_far → Only (flag so_far) IsKept
unfolding flag
only_flag so_far kept bytes flags (inl j) =
    subst IsKept (sym (j.goes_on.1 ∙ room_for so_far (System j.between) kept.few)) (record { sorted = kept.sorted; few = kept.few; valid = kept.valid })
only_flag so_far kept bytes flags (inr j) =
    let next = kept_keyword so_far j.between kept j.begins.1 in
    subst IsKept (sym (j.goes_on.1 ∙ room_for so_far (Keyword j.between) next.few)) next

only_some : Only some_flags IsKept
unfolding some_flags
only_some =
    only_then (flag no_flags) (λ first. repeat is_space (spaced flag) first) IsKept IsKept (only_flag no_flags kept_none)
    (λ first kept. only_repeat IsKept is_space (spaced flag) (λ s p. only_behind IsKept 32 (flag s) (only_flag s p)) first kept)

-- what stands behind the parenthesis
abbrev behind_open : Part Flags
behind_open =
    choose (λ c. c == 41) (map (λ _. no_flags) (byte 41)) (some_flags then λ flags. map (λ _. flags) (byte 41))

pub only_list : Only flag_list_part IsKept
unfolding flag_list_part
only_list =
    only_behind IsKept 40 behind_open
    (only_choose IsKept (λ c. c == 41) (map (λ _. no_flags) (byte 41)) (some_flags then λ flags. map (λ _. flags) (byte 41))
    (only_map (λ _. no_flags) (byte 41) IsKept (λ bytes c l. kept_none))
    (only_then some_flags (λ flags. map (λ _. flags) (byte 41)) IsKept IsKept only_some
    (λ flags kept. only_map (λ _. flags) (byte 41) IsKept (λ bytes c l. kept))))

pub only_store : Only store_flags_part IsKept
unfolding store_flags_part
only_store = only_choose IsKept (λ c. c == 40) flag_list_part some_flags only_list only_some

-- the texts, one after another, lead from some flags to others
abbrev Steps : Flags → List (List ℕ) → Flags → Type 0
Steps one [] other = one ≡ other
Steps one (text ∷ texts) other = (next : Flags) × (flag one).lang text next × Steps next texts other

steps_append : (texts more : List (List ℕ)) (one next other : Flags) → Steps one texts next → Steps next more other → Steps one (texts ++ more) other
steps_append [] more one next other e s = subst (λ f. Steps f more other) (sym e) s
steps_append (text ∷ texts) more one next other s t = (s.0, s.1, steps_append texts more s.0 next other s.2 t)

turns_from : (texts : List (List ℕ)) (one other : Flags) → Steps one texts other
    → (turns is_space (spaced flag) (length texts) one).lang (more_text 32 (λ s. s) texts) other
unfolding turns
turns_from [] one other e = (refl, sym e)
turns_from (text ∷ texts) one other s =
    inl (record {
      front = 32 ∷ text;
      back = more_text 32 (λ s. s) texts;
      between = s.0;
      parts = refl;
      begins = spell_byte 32 (flag one) text s.0 s.1;
      goes_on = turns_from texts s.0 other s.2;
    })

list_from : (texts : List (List ℕ)) (flags : Flags) → Steps no_flags texts flags
    → flag_list_part.lang (40 ∷ (list_text 32 (λ s. s) texts ++ 41 ∷ [])) flags
unfolding flag_list_part some_flags repeat
list_from [] flags e =
    subst (λ flags. flag_list_part.lang (40 ∷ 41 ∷ []) flags) e
    (spell_byte 40 behind_open (41 ∷ []) no_flags (inl (spell_map (λ _. no_flags) (byte 41) (41 ∷ []) 41 (spell_one 41))))
list_from (text ∷ texts) flags s =
    spell_byte 40 behind_open (list_text 32 (λ s. s) (text ∷ texts) ++ 41 ∷ []) flags
    (inr (spell_then some_flags (λ flags. map (λ _. flags) (byte 41)) (list_text 32 (λ s. s) (text ∷ texts)) (41 ∷ []) flags flags
    (spell_then (flag no_flags) (λ first. repeat is_space (spaced flag) first) text (more_text 32 (λ s. s) texts) s.0 flags s.1
    (length texts, turns_from texts s.0 flags s.2))
    (spell_map (λ _. flags) (byte 41) (41 ∷ []) 41 (spell_one 41))))

named_flag : (f : SystemFlag) → (table Answered system_rows system_text).part.lang (system_text f) f
unfolding system_text
named_flag Answered = spell_name Answered system_rows system_text Answered refl refl
named_flag Flagged = spell_name Answered system_rows system_text Flagged refl refl
named_flag Deleted = spell_name Answered system_rows system_text Deleted refl refl
named_flag Seen = spell_name Answered system_rows system_text Seen refl refl
named_flag Draft = spell_name Answered system_rows system_text Draft refl refl

spell_system : (f : SystemFlag) (flags : Flags) → (flag flags).lang (92 ∷ system_text f) (put_flag flags (System f))
unfolding flag
spell_system f flags =
    inl (spell_map (λ system. put_flag flags (System system)) system_flag.part (92 ∷ system_text f) f
    (spell_byte 92 (table Answered system_rows system_text).part (system_text f) f (named_flag f)))

abbrev those : Bool → Bool → Bool → Bool → Bool → Flags
those a f d s r = record { system = record { answered = a; flagged = f; deleted = d; seen = s; draft = r }; keywords = [] }

answered_step : (a : Bool) → Steps no_flags (text_if a Answered) (those a false false false false)
answered_step true = (those true false false false false, spell_system Answered no_flags, refl)
answered_step false = refl

flagged_step : (a f : Bool) → Steps (those a false false false false) (text_if f Flagged) (those a f false false false)
flagged_step a true = (those a true false false false, spell_system Flagged (those a false false false false), refl)
flagged_step a false = refl

deleted_step : (a f d : Bool) → Steps (those a f false false false) (text_if d Deleted) (those a f d false false)
deleted_step a f true = (those a f true false false, spell_system Deleted (those a f false false false), refl)
deleted_step a f false = refl

seen_step : (a f d s : Bool) → Steps (those a f d false false) (text_if s Seen) (those a f d s false)
seen_step a f d true = (those a f d true false, spell_system Seen (those a f d false false), refl)
seen_step a f d false = refl

draft_step : (a f d s r : Bool) → Steps (those a f d s false) (text_if r Draft) (those a f d s r)
draft_step a f d s true = (those a f d s true, spell_system Draft (those a f d s false), refl)
draft_step a f d s false = refl

system_steps : (s : SystemFlags) → Steps no_flags (system_texts s) (record { system = s; keywords = [] })
system_steps s =
    let a = s.answered in
    let f = s.flagged in
    let d = s.deleted in
    let e = s.seen in
    let r = s.draft in
    let last = those a f d e r in
    steps_append (text_if a Answered) _ no_flags (those a false false false false) last (answered_step a)
    (steps_append (text_if f Flagged) _ (those a false false false false) (those a f false false false) last (flagged_step a f)
    (steps_append (text_if d Deleted) _ (those a f false false false) (those a f d false false) last (deleted_step a f d)
    (steps_append (text_if e Seen) _ (those a f d false false) (those a f d e false) last (seen_step a f d e) (draft_step a f d e r))))

spell_keyword : (flags : Flags) (k : List ℕ) → (keywords_beside flags.keywords).whole k ≡ true → length (with_flag flags (Keyword k)).keywords ≤ 16
    → (flag flags).lang k (with_flag flags (Keyword k))
unfolding flag
spell_keyword flags k h few =
    subst (λ f. (flag flags).lang k f) (room_for flags (Keyword k) few)
    (inr (spell_map (λ keyword. put_flag flags (Keyword keyword)) (word (keywords_beside flags.keywords)) k k (refl, h)))

-- a keyword behind fewer than 16
beside_few : (known : List (List ℕ)) (k : List ℕ) → length known < 16 → any_keyword.whole k ≡ true → (keywords_beside known).whole k ≡ true
beside_few known k less h =
    let full : is_full known ≡ false = and_false _ _ (lt-leb 16 (length known) less) in
    ap (λ b. (cond b (members is_atom_byte known) any_keyword).whole k) full ∙ h

keyword_steps : (system : SystemFlags) (known rest : List (List ℕ)) → IsStrictlySortedBy (slice_cmp nat_cmp) (known ++ rest)
    → length (known ++ rest) ≤ 16 → list_all any_keyword.whole rest ≡ true
    → Steps (record { system = system; keywords = known }) rest (record { system = system; keywords = known ++ rest })
keyword_steps system known [] sorted few valid =
    let with_keywords : List (List ℕ) → Flags = λ keywords. record { system = system; keywords = keywords } in
    ap with_keywords (sym (append-nil known))
keyword_steps system known (k ∷ rest) sorted few valid =
    let with_keywords : List (List ℕ) → Flags = λ keywords. record { system = system; keywords = keywords } in
    let together : (known ++ k ∷ []) ++ rest ≡ known ++ k ∷ rest = append_assoc known (k ∷ []) rest in
    let next : insert_key (slice_cmp nat_cmp) known k ≡ known ++ k ∷ [] = insert_last (slice_cmp nat_cmp) nat_list_cmp_total known k rest sorted in
    let whole = beside_few known k (omega (arith, few, length-append known (k ∷ rest))) (and_left _ _ valid) in
    let room : length (insert_key (slice_cmp nat_cmp) known k) ≤ 16 =
    subst (λ keys. length keys ≤ 16) (sym next) (omega (arith, few, length-append known (k ∷ rest), length-append known (k ∷ []))) in (
      with_keywords (known ++ k ∷ []),
      subst (λ keys. (flag (with_keywords known)).lang k (with_keywords keys)) next (spell_keyword (with_keywords known) k whole room),
      subst (λ keys. Steps (with_keywords (known ++ k ∷ [])) rest (with_keywords keys)) together
          (keyword_steps system (known ++ k ∷ []) rest (subst (IsStrictlySortedBy (slice_cmp nat_cmp)) (sym together) sorted)
          (subst (λ keys. length keys ≤ 16) (sym together) few) (and_right (any_keyword.whole k) _ valid)),
    )

spell_flags : (flags : Flags) → IsKept flags → flag_list_part.lang (flag_list_text flags) flags
spell_flags flags kept =
    list_from (system_texts flags.system ++ flags.keywords) flags
    (steps_append (system_texts flags.system) flags.keywords no_flags (record { system = flags.system; keywords = [] }) flags
    (system_steps flags.system) (keyword_steps flags.system [] flags.keywords kept.sorted kept.few kept.valid))

pub no_flags_printed : flag_list_part.lang (flag_list_text no_flags) no_flags
no_flags_printed = spell_flags no_flags kept_none

pub law_flag_list : (after : ℕ → Bool) → Law any after flag_list
law_flag_list after = record {
  good = λ V. good_list V after;
  begins = begins_any after flag_list_part;
  prints = λ bytes flags l. spell_flags flags (only_list bytes flags l);
}

pub law_store_flags : Law any ends_line store_flags
unfolding store_flags_part
law_store_flags = record {
  good = λ V. good_store V ends_line (apart_byte 32 ends_line refl) (one_byte 13 ends_flag refl);
  begins = begins_any ends_line store_flags_part;
  prints = λ bytes flags l. inl (spell_flags flags (only_store bytes flags l));
}
