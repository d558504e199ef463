-- Flags are read exactly.
use Rattle.std.proofs.Common.{◌≡◌, ℕ, List, [], ◌∷◌, Bool, true, false, ◌&&◌, ◌||◌, not, ◌==◌, nat_le, length, cond, refl, subst, lit<}
use Rattle.std.specs.List.{list_all, list_any}
use Rattle.grammar.specs.Part.{Part, ◌then◌, give, map, byte, repeat, spaced}
use Rattle.grammar.specs.Exact.{Good, StartsWith, among}
use Rattle.grammar.specs.Forms.{Law, table}
use Rattle.grammar.specs.Members.{begins_with, is_same, members}
use Rattle.grammar.specs.Runs.{some}
use Rattle.grammar.specs.Words.{Words, Lawful, Apart, word}
use Rattle.grammar.proofs.ChoiceLaw.{good_choose}
use Rattle.grammar.proofs.Conditions.{and_left, and_right, and_both, or_left, or_right, not_true, among_all}
use Rattle.grammar.proofs.FormLaw.{Within, one_byte, apart_byte, law_behind}
use Rattle.grammar.proofs.MembersLaw.{same_is, found_in, lawful_members, apart_members}
use Rattle.grammar.proofs.NamesLaw.{law_table}
use Rattle.grammar.proofs.RepetitionLaw.{good_repeat, begins_repeat}
use Rattle.grammar.proofs.RunLaw.{lawful_run_upto, apart_run_upto}
use Rattle.grammar.proofs.SequenceLaw.{good_map, good_then}
use Rattle.grammar.proofs.StartLaw.{starts_then, starts_byte, starts_choose, starts_weaker, starts_word, begins_from, without_from}
use Rattle.grammar.proofs.ToolLaws.{good_byte, good_behind}
use Rattle.grammar.proofs.WordLaw.{good_word}
use Rattle.mail_message.specs.FlagSets.{Flags, no_flags}
use Rattle.mail_message.specs.declared.flag_name.FlagName.TheVariants.{System, Keyword}
use Rattle.mail_message.specs.declared.system_flags.SystemFlag.TheVariants.{Answered}
use Rattle.mail_message.specs.Keywords.{is_atom_byte}
use Rattle.imap_text.specs.FlagNames.{system_text}
use Rattle.imap_command.specs.Flags.{system_rows, system_flag, any_keyword, is_full, keywords_beside, put_flag, flag, some_flags}
use Rattle.imap_command.specs.Flags.{flag_list_part, store_flags_part}

-- a space, a closing parenthesis or the end of the line
abbrev pub ends_flag : ℕ → Bool
ends_flag = among (32 ∷ 41 ∷ 13 ∷ [])

abbrev pub is_space : ℕ → Bool
is_space c = c == 32

keyword_ends : (c : ℕ) → ends_flag c ≡ true → is_atom_byte c ≡ false
unfolding is_atom_byte
keyword_ends c h = not_true (is_atom_byte c) (among_all (λ c. not (is_atom_byte c)) (32 ∷ 41 ∷ 13 ∷ []) refl c h)

all_weaker : {X : Type 0} (p q : X → Bool) → ((x : X) → p x ≡ true → q x ≡ true) → (xs : List X) → list_all p xs ≡ true → list_all q xs ≡ true
all_weaker p q to [] h = refl
all_weaker p q to (x ∷ xs) h = and_both (q x) _ (to x (and_left _ _ h)) (all_weaker p q to xs (and_right (p x) _ h))

begins_empty : (text : List ℕ) → begins_with text [] ≡ true
begins_empty [] = refl
begins_empty (d ∷ text) = refl

-- what makes words keywords
pub record AreKeywords (w : Words) : Type 0 where
  pub lawful : Lawful w
  pub apart : Apart w ends_flag
  pub none : w.whole [] ≡ false
  pub first : (c : ℕ) → w.begins (c ∷ []) ≡ true → is_atom_byte c ≡ true
  pub valid : (k : List ℕ) → w.whole k ≡ true → any_keyword.whole k ≡ true

pub any_are : AreKeywords any_keyword
unfolding is_atom_byte
any_are = record {
  lawful = lawful_run_upto is_atom_byte 64 97 refl (lit< tt);
  apart = apart_run_upto is_atom_byte 64 ends_flag keyword_ends;
  none = refl;
  first = λ c h. and_left _ _ (and_left _ _ h);
  valid = λ k h. h;
}

some_there : (known : List (List ℕ)) → is_full known ≡ true → list_any (λ text. begins_with text []) known ≡ true
some_there [] h = cc
some_there (k ∷ known) h = or_left (begins_with k []) (list_any (λ text. begins_with text []) known) (begins_empty k)

full_are : (known : List (List ℕ)) → is_full known ≡ true → AreKeywords (members is_atom_byte known)
full_are known full =
    let all = and_right (nat_le 16 (length known)) _ full in
    record {
      lawful = lawful_members is_atom_byte known (some_there known full)
          (all_weaker any_keyword.whole (λ text. list_all is_atom_byte text && some text)
          (λ text h. and_both (list_all is_atom_byte text) (some text) (and_left _ _ (and_left _ _ h))
          (and_right (list_all is_atom_byte text && nat_le (length text) 64) _ h)) known all);
      apart = apart_members is_atom_byte known ends_flag keyword_ends;
      none = refl;
      first = λ c h. and_left _ _ (and_left _ _ h);
      valid = λ k h.
          let f = found_in any_keyword.whole (λ text. is_same text k) known all (and_right (some k) _ (and_right (list_all is_atom_byte k) _ h)) in
          subst (λ text. any_keyword.whole text ≡ true) (same_is f.it k f.this) f.all;
    }

-- a member of so many keywords is one
pub member_is_keyword : (known : List (List ℕ)) (k : List ℕ) → is_full known ≡ true → (members is_atom_byte known).whole k ≡ true
    → any_keyword.whole k ≡ true
member_is_keyword known k full h = (full_are known full).valid k h

pub are_keywords : (known : List (List ℕ)) → AreKeywords (keywords_beside known)
are_keywords known = by_full (is_full known) refl
  where
    by_full : (b : Bool) → is_full known ≡ b → AreKeywords (cond b (members is_atom_byte known) any_keyword)
    by_full true e = full_are known e
    by_full false e = any_are

-- the bytes that flags begin with
abbrev flag_starts : ℕ → Bool
flag_starts c = (c == 92) || is_atom_byte c

abbrev keyword_part : Flags → Part Flags
keyword_part so_far = map (λ keyword. put_flag so_far (Keyword keyword)) (word (keywords_beside so_far.keywords))

abbrev system_part : Flags → Part Flags
system_part so_far = map (λ system. put_flag so_far (System system)) system_flag.part

law_system : Law (λ c. c == 92) ends_flag system_flag
unfolding system_text
law_system =
    law_behind 92 (table Answered system_rows system_text) (law_table Answered system_rows system_text refl refl (32 ∷ 41 ∷ 13 ∷ []) refl refl)

starts_system : (so_far : Flags) → StartsWith (λ c. c == 92) (system_part so_far)
starts_system so_far =
    starts_then system_flag.part (λ system. give (put_flag so_far (System system))) (starts_then (byte 92) _ (starts_byte 92))

starts_keyword : (so_far : Flags) → StartsWith is_atom_byte (keyword_part so_far)
starts_keyword so_far =
    let k = are_keywords so_far.keywords in
    starts_then (word (keywords_beside so_far.keywords)) (λ keyword. give (put_flag so_far (Keyword keyword)))
    (starts_word (keywords_beside so_far.keywords) is_atom_byte k.lawful k.none k.first)

starts_flag : (so_far : Flags) → StartsWith flag_starts (flag so_far)
unfolding flag
starts_flag so_far =
    starts_choose (λ c. c == 92) (system_part so_far) (keyword_part so_far)
    (starts_weaker (system_part so_far) (λ c h. or_left (c == 92) (is_atom_byte c) h) (starts_system so_far))
    (starts_weaker (keyword_part so_far) (λ c h. or_right (c == 92) (is_atom_byte c) h) (starts_keyword so_far))

starts_some : StartsWith flag_starts some_flags
unfolding some_flags
starts_some = starts_then (flag no_flags) (λ first. repeat is_space (spaced flag) first) (starts_flag no_flags)

not_open : flag_starts 40 ≡ false
unfolding is_atom_byte
not_open = refl

not_close : flag_starts 41 ≡ false
unfolding is_atom_byte
not_close = refl

not_backslash : is_atom_byte 92 ≡ false
unfolding is_atom_byte
not_backslash = refl

closing : Flags → Part Flags
closing flags = map (λ _. flags) (byte 41)

module _ (V : Type 0) where
  good_flag : (so_far : Flags) → Good V ends_flag (flag so_far)
  unfolding flag
  good_flag so_far =
      let k = are_keywords so_far.keywords in
      good_choose (λ c. c == 92) (system_part so_far) (keyword_part so_far)
      (good_map (λ system. put_flag so_far (System system)) system_flag.part (law_system.good V))
      (good_map (λ keyword. put_flag so_far (Keyword keyword)) (word (keywords_beside so_far.keywords))
      (good_word (keywords_beside so_far.keywords) k.lawful ends_flag k.apart)) (starts_system so_far)
      (without_from (λ c. c == 92) ends_flag (keyword_part so_far) (apart_byte 92 is_atom_byte not_backslash) (starts_keyword so_far))

  module _ (after : ℕ → Bool) (apart : (c : ℕ) → after c ≡ true → (c == 32) ≡ false) (ends : Within after ends_flag) where
    pub good_some : Good V after some_flags
    unfolding some_flags
    good_some =
        good_then (flag no_flags) (λ first. repeat is_space (spaced flag) first) (good_flag no_flags)
        (good_repeat is_space after ends_flag (spaced flag) (λ s. good_behind 32 (flag s) (good_flag s))
        (λ s. starts_then (byte 32) (λ _. flag s) (starts_byte 32)) apart (one_byte 32 ends_flag refl) ends)
        (begins_repeat {V = V} is_space after ends_flag (spaced flag) (λ s. good_behind 32 (flag s) (good_flag s))
        (λ s. starts_then (byte 32) (λ _. flag s) (starts_byte 32)) apart (one_byte 32 ends_flag refl) ends)

  pub good_list : (after : ℕ → Bool) → Good V after flag_list_part
  unfolding flag_list_part closing
  good_list after =
      good_behind 40 _
      (good_choose (λ c. c == 41) (map (λ _. no_flags) (byte 41)) (some_flags then closing) (good_map (λ _. no_flags) (byte 41) (good_byte after 41))
      (good_then some_flags closing (good_some (λ c. c == 41) (apart_byte 32 (λ c. c == 41) refl) (one_byte 41 ends_flag refl))
      (λ flags. good_map (λ _. flags) (byte 41) (good_byte after 41))
      (λ flags. begins_from after (closing flags) (starts_then (byte 41) (λ _. give flags) (starts_byte 41))))
      (starts_then (byte 41) (λ _. give no_flags) (starts_byte 41))
      (without_from (λ c. c == 41) after (some_flags then closing) (apart_byte 41 flag_starts not_close) (starts_then some_flags closing starts_some)))

  pub good_store : (after : ℕ → Bool) → ((c : ℕ) → after c ≡ true → (c == 32) ≡ false) → Within after ends_flag → Good V after store_flags_part
  unfolding store_flags_part flag_list_part
  good_store after apart ends =
      good_choose (λ c. c == 40) flag_list_part some_flags (good_list after) (good_some after apart ends) (starts_then (byte 40) _ (starts_byte 40))
      (without_from (λ c. c == 40) after some_flags (apart_byte 40 flag_starts not_open) starts_some)
