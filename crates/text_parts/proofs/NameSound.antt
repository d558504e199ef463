-- A text that the states of a name take to its end is a mailbox name.
use Rattle.std.proofs.Common.{◌≡◌, ℕ, zero, suc, ◌+◌, ◌-◌, ◌<◌, ◌≤◌, List, [], ◌∷◌, ◌++◌, length, Bool, true, false, ◌&&◌, ◌||◌, not, cond, nat_lt, nat_le, nat_eq, max}
use Rattle.std.proofs.Common.{Option, None, Some, refl, sym, ap, ◌∙◌, subst, arith, eqb-true}
use Rattle.std.proofs.lemmas.Bool.Decides.{nat_tests}
use Rattle.std.specs.List.{list_all}
use Rattle.std.specs.Str.{is_utf8}
use Rattle.std.proofs.lemmas.Str.{IsUtf8-append, IsUtf8-nil, is_utf8-from_IsUtf8}
use Rattle.mur_base.specs.Names.{is_mail_name_byte, has_mail_name_bytes, has_empty_level, mail_name_fault}
use Rattle.mur_base.specs.declared.limits.TheConstants.{NAME_LIMIT}
use Rattle.grammar.proofs.Conditions.{and_both, and_left, and_right, not_true}
use Rattle.text_parts.specs.declared.names.Level.{Level}
use Rattle.text_parts.specs.Names.{lead_of, is_letter, level_after_byte, reached, may_end, names_from, start_of, quoted_names, names_of_size}
use Rattle.mur_base.proofs.EmptyLevels.{empty_from, has_empty_level-from}
use Rattle.text_parts.proofs.LevelLaw.{Fits, Comes, comes, letter_of, dot_of, led_of, fits_start, fits_reached}
use Rattle.text_parts.proofs.NameLaw.{First, a_dot, a_letter, a_lead, first_of_name, IsNamed, character_utf8, led_any}
use Rattle.text_parts.proofs.NameSteps.{reached_none}
use Rattle.text_parts.proofs.Utf8Law.{ascii_utf8}

module _ (level last next : Level) (b : ℕ) (s : List ℕ) (f : Fits level) (none : last.due ≡ 0) (c : Comes level next) where
  by_first : First level b next → reached (Some next) s ≡ Some last
      → ((after : Level) (rest : List ℕ) → length rest ≤ length s → Fits after → after.due ≡ 0 → reached (Some after) rest ≡ Some last → IsNamed after last rest)
      → level.due ≡ 0 → IsNamed level last (b ∷ s)
  unfolding empty_from is_mail_name_byte
  by_first (a_dot is closed same) e again d =
      let n = again (dot_of level) s (omega arith) (subst Fits (sym same) c.fits) d (ap (λ l. reached (Some l) s) same ∙ e) in
      let one : next.left + 1 ≡ level.left = c.one in
      subst (λ x. IsNamed level last (x ∷ s)) (sym is) (record {
        utf8 = IsUtf8-append (46 ∷ []) s (character_utf8 (46 ∷ []) (ascii_utf8 46 (omega arith))) n.utf8;
        bytes = n.bytes;
        levels = ap (λ o. o || empty_from true s) closed ∙ n.levels;
        count = omega (arith, n.count, one, ap (λ (l : Level). l.left) same);
      })
  by_first (a_letter no_dot letter same) e again d =
      let n = again (letter_of level) s (omega arith) (subst Fits (sym same) c.fits) d (ap (λ l. reached (Some l) s) same ∙ e) in
      let small : nat_lt b 128 ≡ true = and_right (is_mail_name_byte b) _ letter in
      record {
        utf8 = IsUtf8-append (b ∷ []) s (character_utf8 (b ∷ []) (ascii_utf8 b (grind (arith, nat_tests)))) n.utf8;
        bytes = and_both _ _ (and_left (is_mail_name_byte b) _ letter) n.bytes;
        levels = rw no_dot n.levels;
        count = omega (arith, n.count, c.one, ap (λ (l : Level). l.left) same);
      }
  by_first (a_lead no_dot some same) e again d =
      let fits : Fits (led_of level (lead_of b)) = subst Fits (sym same) c.fits in
      led_any level last b s f (omega (arith, fits.room, c.one, ap (λ (l : Level). l.left) same)) no_dot none again (ap (λ l. reached (Some l) s) same ∙ e) some

pub named : (n : ℕ) (s : List ℕ) → length s ≤ n → (level last : Level) → Fits level → level.due ≡ 0 → reached (Some level) s ≡ Some last → last.due ≡ 0
    → IsNamed level last s
unfolding empty_from
named n [] h level last f d e none =
    let same : level ≡ last = cc in
    record { utf8 = IsUtf8-nil; bytes = refl; levels = ap (λ (l : Level). l.is_open) same; count = omega (arith, ap (λ (l : Level). l.left) same) }
named zero (b ∷ s) h level last f d e none = absurd (omega arith)
named (suc n) (b ∷ s) h level last f d e none =
    by_next (level_after_byte level b) refl e (λ after rest shorter fits due e. named n rest (omega arith) after last fits due e none)
  where
    by_next : (r : Option Level) → level_after_byte level b ≡ r → reached r s ≡ Some last
        → ((after : Level) (rest : List ℕ) → length rest ≤ length s → Fits after → after.due ≡ 0 → reached (Some after) rest ≡ Some last → IsNamed after last rest)
        → IsNamed level last (b ∷ s)
    by_next None is e again = let both : None ≡ Some last = sym (reached_none s) ∙ e in cc
    by_next (Some next) is e again = by_first level last next b s f none (comes level next b f is) (first_of_name level b next d is) e again d

-- a text that breaks no rule
by_rules : (text : List ℕ) (empty long bytes levels : Bool) → nat_eq (length text) 0 ≡ empty → nat_lt NAME_LIMIT (length text) ≡ long
    → has_mail_name_bytes text ≡ bytes → has_empty_level text ≡ levels → empty ≡ false → long ≡ false → bytes ≡ true → levels ≡ false
    → mail_name_fault text ≡ None
unfolding mail_name_fault
by_rules text empty long bytes levels e l b v ne nl yb nv = rw (e ∙ ne, l ∙ nl, b ∙ yb, v ∙ nv) refl

pub is_a_name : (wide : Bool) (left : ℕ) (last : Level) (text : List ℕ) → IsNamed (start_of wide left) last text → last.is_open ≡ false → left ≤ 255
    → mail_name_fault text ≡ None
unfolding has_mail_name_bytes empty_from
is_a_name wide left last text n closed few =
    by_rules text (nat_eq (length text) 0) (nat_lt NAME_LIMIT (length text)) (has_mail_name_bytes text) (has_empty_level text) refl refl refl refl (some text refl)
    (grind (arith, nat_tests, n.count)) (and_both (is_utf8 text) _ (is_utf8-from_IsUtf8 text n.utf8) n.bytes) (has_empty_level-from text ∙ n.levels ∙ closed)
  where
    some : (s : List ℕ) → text ≡ s → nat_eq (length text) 0 ≡ false
    some [] e = let both : true ≡ false = ap (empty_from true) (sym e) ∙ n.levels ∙ closed in cc
    some (b ∷ s) e = grind (arith, nat_tests, ap length e)

module _ (start : Level) (text : List ℕ) (f : Fits start) (d : start.due ≡ 0) where
  -- a name whose bytes have all come
  pub sized_name : may_end true (reached (Some start) text) ≡ true → (last : Level) × (IsNamed start last text) × (last.is_open ≡ false) × (last.left ≡ 0)
  unfolding may_end
  sized_name h = by_last (reached (Some start) text) refl h
    where
      closed : (last : Level) → Fits last → last.left ≡ 0 → (b : Bool) → last.is_open ≡ b → b ≡ false
      closed last fits none false e = refl
      closed last fits none true e = absurd (omega (arith, fits.open_room e))

      by_last : (r : Option Level) → reached (Some start) text ≡ r → may_end true r ≡ true
          → (last : Level) × (IsNamed start last text) × (last.is_open ≡ false) × (last.left ≡ 0)
      by_last None e h = cc
      by_last (Some last) e h =
          let fits = (fits_reached text start last f e).0 in
          let none : last.left ≡ 0 = grind (arith, nat_tests) in
          let due : last.due ≡ 0 = omega (arith, fits.room) in
          (last, named (length text) text (omega arith) start last f d e due, closed last fits none last.is_open refl, none)

  -- a name in quotes
  pub quoted_name : start.is_wide ≡ false → may_end false (reached (Some start) text) ≡ true → (last : Level) × (IsNamed start last text) × (last.is_open ≡ false)
  unfolding may_end
  quoted_name narrow h = by_last (reached (Some start) text) refl h
    where
      by_last : (r : Option Level) → reached (Some start) text ≡ r → may_end false r ≡ true → (last : Level) × (IsNamed start last text) × (last.is_open ≡ false)
      by_last None e h = cc
      by_last (Some last) e h =
          let fits = fits_reached text start last f e in
          (last, named (length text) text (omega arith) start last f d e (fits.0.narrow (fits.1 ∙ narrow)), not_true last.is_open h)

pub quoted_is_name : (text : List ℕ) → quoted_names.whole text ≡ true → mail_name_fault text ≡ None
quoted_is_name text h =
    let n = quoted_name (start_of false NAME_LIMIT) text (fits_start false NAME_LIMIT (omega arith)) refl refl h in
    is_a_name false NAME_LIMIT n.0 text n.1 n.2 (omega arith)

pub sized_is_name : (size : ℕ) (text : List ℕ) → size ≤ 255 → (names_of_size size).whole text ≡ true → mail_name_fault text ≡ None
sized_is_name size text few h =
    let n = sized_name (start_of true (max 1 size)) text (fits_start true (max 1 size) (omega arith)) refl h in
    is_a_name true (max 1 size) n.0 text n.1 n.2 (omega arith)

-- such a name has so many bytes
pub sized_length : (size : ℕ) (text : List ℕ) → 1 ≤ size → (names_of_size size).whole text ≡ true → length text ≡ size
sized_length size text some h =
    let n = sized_name (start_of true (max 1 size)) text (fits_start true (max 1 size) (omega arith)) refl h in
    omega (arith, n.1.count, n.3)
