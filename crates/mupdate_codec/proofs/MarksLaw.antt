-- Where an LF stands in a part of a line: at the end of the header of a literal, or in a literal that may be any text.
use Rattle.std.proofs.Common.{◌≡◌, ℕ, zero, suc, ◌-◌, List, [], ◌∷◌, ◌++◌, length, Bool, true, false, ◌||◌, not, ◌==◌, nat_eq, nat_lt, cond, Option, None, Some, ⊎_elim}
use Rattle.std.proofs.Common.{refl, sym, ap, ◌∙◌, subst, append_assoc, arith, eqb-true}
use Rattle.std.specs.List.{list_all, list_any}
use Rattle.std.specs.Char.{eq_ignore_ascii_case}
use Rattle.mur_base.specs.Number.{is_digit}
use Rattle.mur_base.specs.Names.{is_short_name_byte, is_mail_name_byte, has_mail_name_bytes, mail_name_fault}
use Rattle.mur_base.specs.declared.limits.TheConstants.{NAME_LIMIT}
use Rattle.grammar.specs.Part.{Part, ◌then◌, give, map, byte, one_of, choose, exactly, optional, turns}
use Rattle.grammar.specs.Words.{Words, word}
use Rattle.grammar.specs.Tables.{any_case, is_name, lacks}
use Rattle.grammar.specs.Numbers.{value_of}
use Rattle.grammar.specs.Quoted.{is_quoted_plain, is_quoted_special, is_no_quote}
use Rattle.grammar.proofs.Conditions.{and_both, and_left, and_right, not_true}
use Rattle.text_parts.specs.Names.{quoted_names, names_of_size}
use Rattle.text_parts.specs.Locations.{located, short_names, servers_of, location_of, clamped}
use Rattle.text_parts.proofs.LocationsLaw.{short_parts}
use Rattle.text_parts.proofs.NameSound.{quoted_is_name, sized_is_name}
use Rattle.mupdate_codec.specs.declared.limits.TheConstants.{STRING_LIMIT, NAME_BYTES, LOCATION_LEAST, LOCATION_MOST}
use Rattle.mupdate_codec.specs.Sizes.{sizes, size}
use Rattle.mupdate_codec.specs.Strings.{mupdate_quoted_char, in_quotes, mupdate_quoted, header, either_form, name, location}
use Rattle.mupdate_codec.proofs.CutLaw.{has_no_lf, no_lf, not_nothing, lf_in}
use Rattle.mupdate_codec.proofs.HeadReads.{byte_text}
use Rattle.mupdate_codec.proofs.StringsLaw.{is_quote, escaped, plain, line_end, behind_size}
use Rattle.mupdate_codec.proofs.StringsPrinted.{header_bounds}

-- the bytes end as the header of a literal does before its LF
abbrev pub Marked : List ℕ → Type 0
Marked front = (f : List ℕ) × (front ≡ f ++ 125 ∷ 13 ∷ [])

pub marked_behind : (s front : List ℕ) → Marked front → Marked (s ++ front)
marked_behind s front m = (s ++ m.0, ap (λ t. s ++ t) m.1 ∙ sym (append_assoc s m.0 (125 ∷ 13 ∷ [])))

-- each LF of a spelling ends a header
pub record Marks {A : Type 0} (p : Part A) : Type 0 where
  pub marked : (s front more : List ℕ) (a : A) → p.lang s a → s ≡ front ++ 10 ∷ more → Marked front

pub marks_then : {A B : Type 0} (p : Part A) (f : A → Part B) → Marks p → ((s : List ℕ) (a : A) → p.lang s a → Marks (f a)) → Marks (p then f)
marks_then p f m k = record {
  marked = λ s front more b j e.
      ⊎_elim (λ r. m.marked j.front front r.0 j.between j.begins r.1)
      (λ g. subst Marked (sym g.1) (marked_behind j.front g.0 ((k j.front j.between j.begins).marked j.back g.0 more b j.goes_on g.2)))
      (lf_in j.front j.back front more (sym j.parts ∙ e));
}

pub marks_choose : {A : Type 0} (test : ℕ → Bool) (p q : Part A) → Marks p → Marks q → Marks (choose test p q)
marks_choose test p q m k = record {
  marked = λ s front more a l e. ⊎_elim (λ l. m.marked s front more a l e) (λ l. k.marked s front more a l e) l;
}

-- parts without an LF

marks_clean : {A : Type 0} (p : Part A) → ((s : List ℕ) (a : A) → p.lang s a → has_no_lf s ≡ true) → Marks p
marks_clean p c = record { marked = λ s front more a l e. absurd (no_lf front more (ap has_no_lf (sym e) ∙ c s a l)) }

byte_clean : (test : ℕ → Bool) → test 10 ≡ false → (c : ℕ) → test c ≡ true → not (nat_eq c 10) ≡ true
byte_clean test none c h = by_equal (nat_eq c 10) refl
  where
    by_equal : (b : Bool) → nat_eq c 10 ≡ b → not b ≡ true
    by_equal true is = let both : false ≡ true = sym none ∙ ap test (sym (eqb-true c 10 is)) ∙ h in cc
    by_equal false is = refl

run_clean : (test : ℕ → Bool) → test 10 ≡ false → (s : List ℕ) → list_all test s ≡ true → has_no_lf s ≡ true
run_clean test none [] h = refl
run_clean test none (c ∷ s) h = and_both _ _ (byte_clean test none c (and_left _ _ h)) (run_clean test none s (and_right (test c) _ h))

pub marks_give : {A : Type 0} (a : A) → Marks (give a)
marks_give a = marks_clean (give a) (λ s v l. ap has_no_lf l.0)

pub marks_map : {A B : Type 0} (f : A → B) (p : Part A) → Marks p → Marks (map f p)
marks_map f p m = marks_then p (λ a. give (f a)) m (λ _ a _. marks_give (f a))

marks_one_of : (test : ℕ → Bool) → test 10 ≡ false → Marks (one_of test)
marks_one_of test none = marks_clean (one_of test) (λ s v l. ap has_no_lf l.0 ∙ and_both _ _ (byte_clean test none v l.1) refl)

pub marks_byte : (c : ℕ) → (10 == c) ≡ false → Marks (byte c)
marks_byte c none = marks_one_of (λ b. b == c) none

-- a byte and a part
pub marks_behind : {B : Type 0} (c : ℕ) (q : Part B) → (10 == c) ≡ false → Marks q → Marks (byte c then λ _. q)
marks_behind c q none m = marks_then (byte c) (λ _. q) (marks_byte c none) (λ _ _ _. m)

marks_optional : (c : ℕ) → (10 == c) ≡ false → Marks (optional c)
unfolding optional
marks_optional c none =
    marks_choose (λ b. b == c) (map (λ _. true) (byte c)) (give false) (marks_map (λ _. true) (byte c) (marks_byte c none)) (marks_give false)

marks_exactly : (test : ℕ → Bool) → test 10 ≡ false → (n : ℕ) → Marks (exactly test n)
unfolding exactly
marks_exactly test none zero = marks_give []
marks_exactly test none (suc n) =
    marks_then (one_of test) (λ c. map (λ rest. c ∷ rest) (exactly test n)) (marks_one_of test none)
    (λ _ c _. marks_map (λ rest. c ∷ rest) (exactly test n) (marks_exactly test none n))

pub marks_word : (w : Words) → ((s : List ℕ) → w.whole s ≡ true → has_no_lf s ≡ true) → Marks (word w)
marks_word w c = marks_clean (word w) (λ s v l. ap has_no_lf l.0 ∙ c v l.1)

-- words whose bytes pass a test
pub marks_run : (w : Words) (test : ℕ → Bool) → test 10 ≡ false → ((s : List ℕ) → w.whole s ≡ true → list_all test s ≡ true) → Marks (word w)
marks_run w test none all = marks_word w (λ s h. run_clean test none s (all s h))

letters_clean : (letters s : List ℕ) → lacks 10 letters ≡ true → is_name letters s ≡ true → has_no_lf s ≡ true
letters_clean [] [] l h = refl
letters_clean [] (c ∷ s) l h = cc
letters_clean (n ∷ letters) [] l h = refl
letters_clean (n ∷ letters) (c ∷ s) l h =
    and_both _ _ (byte_clean (eq_ignore_ascii_case n) (not_true (eq_ignore_ascii_case n 10) (and_left _ (lacks 10 letters) l)) c (and_left (eq_ignore_ascii_case n c) _ h))
    (letters_clean letters s (and_right (not (eq_ignore_ascii_case n 10)) _ l) (and_right (eq_ignore_ascii_case n c) _ h))

names_clean : (names : List (List ℕ)) → list_all (lacks 10) names ≡ true → (s : List ℕ) → list_any (λ letters. is_name letters s) names ≡ true → has_no_lf s ≡ true
names_clean [] l s h = cc
names_clean (letters ∷ names) l s h = by_first (is_name letters s) refl h (names_clean names (and_right (lacks 10 letters) _ l) s)
  where
    by_first : (b : Bool) → is_name letters s ≡ b → b || list_any (λ letters. is_name letters s) names ≡ true
        → (list_any (λ letters. is_name letters s) names ≡ true → has_no_lf s ≡ true) → has_no_lf s ≡ true
    by_first true is k next = letters_clean letters s (and_left (lacks 10 letters) _ l) is
    by_first false is k next = next k

-- the words of a table
pub marks_names : (names : List (List ℕ)) → list_all (lacks 10) names ≡ true → Marks (word (any_case names))
marks_names names l = marks_word (any_case names) (names_clean names l)

-- headers

mark_at : (front more : List ℕ) → (let s : List ℕ = 125 ∷ 13 ∷ 10 ∷ [] in s) ≡ front ++ 10 ∷ more → Marked front
mark_at [] more e = let first : (let n : ℕ = 125 in n ≡ 10) = cc in absurd (omega (arith, first))
mark_at (c ∷ []) more e = let second : (let n : ℕ = 13 in n ≡ 10) = cc in absurd (omega (arith, second))
mark_at (c ∷ d ∷ []) more e =
    let first : 125 ≡ c = cc in
    let second : 13 ≡ d = cc in
    ([], ap (λ b. b ∷ d ∷ []) (sym first) ∙ ap (λ b. 125 ∷ b ∷ []) (sym second))
mark_at (c ∷ d ∷ b ∷ front) more e = let none : [] ≡ front ++ 10 ∷ more = cc in absurd (not_nothing front 10 more none)

marks_end : (n : ℕ) → Marks (byte 125 then λ _. line_end n)
marks_end n = record {
  marked = λ s front more a j e.
      let k = j.goes_on in
      let l = k.goes_on in
      let last : k.back ≡ 10 ∷ [] = l.parts ∙ ap (λ t. t ++ l.back) (byte_text 10 l.front l.between l.begins) ∙ ap (λ t. 10 ∷ t) l.goes_on.0 in
      let text : s ≡ 125 ∷ 13 ∷ 10 ∷ [] =
      j.parts ∙ ap (λ t. t ++ j.back) (byte_text 125 j.front j.between j.begins)
      ∙ ap (λ t. 125 ∷ t) (k.parts ∙ ap (λ t. t ++ k.back) (byte_text 13 k.front k.between k.begins) ∙ ap (λ t. 13 ∷ t) last) in
      mark_at front more (sym text ∙ e);
}

marks_size : (least most : ℕ) → Marks (size least most)
unfolding is_digit
marks_size least most =
    marks_map value_of (word (sizes least most)) (marks_run (sizes least most) is_digit refl (λ s h. and_left _ _ (and_left _ _ h)))

pub marks_header : (least most : ℕ) → Marks (header least most)
marks_header least most =
    marks_behind 123 (size least most then behind_size) refl
    (marks_then (size least most) behind_size (marks_size least most)
    (λ _ n _. marks_then (optional 43) (λ _. byte 125 then λ _. line_end n) (marks_optional 43 refl) (λ _ _ _. marks_end n)))

-- quotes

marks_quotes : {A : Type 0} (p : Part A) → Marks p → Marks (in_quotes p)
marks_quotes p m =
    marks_behind 34 (p then λ a. map (λ _. a) (byte 34)) refl
    (marks_then p (λ a. map (λ _. a) (byte 34)) m (λ _ a _. marks_map (λ _. a) (byte 34) (marks_byte 34 refl)))

marks_char : (so_far : List ℕ) → Marks (mupdate_quoted_char so_far)
unfolding mupdate_quoted_char is_quoted_special is_quoted_plain
marks_char so_far =
    marks_choose (λ c. c == 92) (escaped so_far) (plain so_far)
    (marks_behind 92 (map (λ char. so_far ++ char) (exactly is_quoted_special 1)) refl
    (marks_map (λ char. so_far ++ char) (exactly is_quoted_special 1) (marks_exactly is_quoted_special refl 1)))
    (marks_map (λ char. so_far ++ char) (exactly is_quoted_plain 1) (marks_exactly is_quoted_plain refl 1))

marks_chars : (n : ℕ) (so_far : List ℕ) → Marks (turns is_no_quote mupdate_quoted_char n so_far)
unfolding turns
marks_chars zero so_far = marks_give so_far
marks_chars (suc n) so_far =
    marks_choose is_no_quote (mupdate_quoted_char so_far then λ t. turns is_no_quote mupdate_quoted_char n t) (give so_far)
    (marks_then (mupdate_quoted_char so_far) (λ t. turns is_no_quote mupdate_quoted_char n t) (marks_char so_far) (λ _ t _. marks_chars n t))
    (marks_give so_far)

pub marks_quoted : Marks mupdate_quoted
marks_quoted = marks_quotes (turns is_no_quote mupdate_quoted_char STRING_LIMIT []) (marks_chars STRING_LIMIT [])

-- the one between quotes, or the other
marks_either : {A : Type 0} (p : Part A) (least most : ℕ) (f : ℕ → Part A) → Marks p → ((s : List ℕ) (n : ℕ) → (header least most).lang s n → Marks (f n))
    → Marks (either_form (in_quotes p) (header least most then f))
marks_either p least most f m k =
    marks_choose is_quote (in_quotes p) (header least most then f) (marks_quotes p m) (marks_then (header least most) f (marks_header least most) k)

-- names

no_fault : {A : Type 0} (empty long good : Bool) (a b c : A) (rest : Option A)
    → cond empty (Some a) (cond long (Some b) (cond (not good) (Some c) rest)) ≡ None → good ≡ true
no_fault empty long true a b c rest e = refl
no_fault true long false a b c rest e = cc
no_fault false true false a b c rest e = cc
no_fault false false false a b c rest e = cc

has_name_bytes : (text : List ℕ) → mail_name_fault text ≡ None → has_mail_name_bytes text ≡ true
unfolding mail_name_fault
has_name_bytes text none = no_fault (length text == 0) (nat_lt NAME_LIMIT (length text)) (has_mail_name_bytes text) _ _ _ _ none

is_name_clean : (text : List ℕ) → mail_name_fault text ≡ None → has_no_lf text ≡ true
unfolding has_mail_name_bytes is_mail_name_byte
is_name_clean text none = run_clean is_mail_name_byte refl text (and_right _ (list_all is_mail_name_byte text) (has_name_bytes text none))

pub marks_name : Marks name
unfolding name
marks_name =
    marks_either (word quoted_names) 1 NAME_BYTES (λ n. word (names_of_size n)) (marks_word quoted_names (λ s h. is_name_clean s (quoted_is_name s h)))
    (λ s n l. marks_word (names_of_size n) (λ t h. is_name_clean t (sized_is_name n t (header_bounds 1 NAME_BYTES s n l).1 h)))

-- locations

marks_located : (n : ℕ) → Marks (location_of n)
unfolding is_short_name_byte
marks_located n =
    marks_then (word (servers_of n)) (λ server. byte 33 then λ _. map (located server) (exactly is_short_name_byte (n - 1 - length server)))
    (marks_run (servers_of n) is_short_name_byte refl (λ s h. and_left _ _ (and_left _ _ h)))
    (λ _ server _. marks_behind 33 (map (located server) (exactly is_short_name_byte (n - 1 - length server))) refl
    (marks_map (located server) (exactly is_short_name_byte (n - 1 - length server)) (marks_exactly is_short_name_byte refl (n - 1 - length server))))

marks_short : Marks (word short_names)
unfolding is_short_name_byte
marks_short = marks_run short_names is_short_name_byte refl (λ s h. (short_parts s h).0)

pub marks_location : Marks location
unfolding location
marks_location =
    marks_either (word short_names then λ server. byte 33 then λ _. map (located server) (word short_names)) LOCATION_LEAST LOCATION_MOST
    (λ n. location_of (clamped LOCATION_LEAST LOCATION_MOST n))
    (marks_then (word short_names) (λ server. byte 33 then λ _. map (located server) (word short_names)) marks_short
    (λ _ server _. marks_behind 33 (map (located server) (word short_names)) refl (marks_map (located server) (word short_names) marks_short)))
    (λ _ n _. marks_located (clamped LOCATION_LEAST LOCATION_MOST n))
