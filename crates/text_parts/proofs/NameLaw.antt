-- The texts that the states of a name take are the mailbox names.
use Rattle.std.proofs.Common.{◌≡◌, ℕ, zero, suc, ◌+◌, ◌-◌, ◌<◌, ◌≤◌, List, [], ◌∷◌, ◌++◌, length, Bool, true, false, ◌&&◌, ◌||◌, not, cond, nat_lt, nat_le, nat_eq, ◌==◌}
use Rattle.std.proofs.Common.{Option, None, Some, refl, sym, ap, ◌∙◌, subst, append-nil, append_assoc, arith, length-append, eqb-true}
use Rattle.std.proofs.lemmas.Bool.Decides.{nat_tests}
use Rattle.std.specs.List.{list_all}
use Rattle.std.specs.Str.{IsUtf8, is_utf8}
use Rattle.std.proofs.lemmas.Str.{IsUtf8-append, is_utf8-from_IsUtf8}
use lib.Utf8.{encode, encodes, scalar, scalars}
use Rattle.mur_base.specs.Names.{is_mail_name_byte, has_mail_name_bytes, has_empty_level, mail_name_fault}
use Rattle.mur_base.specs.declared.limits.TheConstants.{NAME_LIMIT}
use Rattle.grammar.specs.Part.{between}
use Rattle.grammar.proofs.Conditions.{and_both, and_left, and_right, not_true}
use Rattle.text_parts.specs.declared.names.Lead.{Lead}
use Rattle.text_parts.specs.declared.names.Level.{Level}
use Rattle.text_parts.specs.Names.{lead_of, is_letter, after_tail, after_lead, after_dot, after_first, level_after_byte, reached, may_end, names_from, start_of}
use Rattle.mur_base.proofs.EmptyLevels.{empty_from, has_empty_level-from}
use Rattle.text_parts.proofs.LevelLaw.{Fits, Comes, comes, tail_of, letter_of, dot_of, led_of, given_if, fits_start}
use Rattle.text_parts.proofs.NameSteps.{reached_none}
use Rattle.text_parts.proofs.Utf8Law.{IsCharacter, Leads, leads, two, three, four, ascii_utf8}

-- what a byte between characters is
pub data First (level : Level) (b : ℕ) (next : Level) : Type 0 where
  a_dot : b ≡ 46 → level.is_open ≡ false → dot_of level ≡ next → First level b next
  a_letter : nat_eq b 46 ≡ false → is_letter b ≡ true → letter_of level ≡ next → First level b next
  a_lead : nat_eq b 46 ≡ false → 0 < (lead_of b).due → led_of level (lead_of b) ≡ next → First level b next

pub first_of_name : (level : Level) (b : ℕ) (next : Level) → level.due ≡ 0 → level_after_byte level b ≡ Some next → First level b next
unfolding level_after_byte after_first after_dot after_lead
first_of_name level b next none e =
    by_tests (nat_lt 0 level.left) (nat_lt 0 level.due) (nat_eq b 46) (is_letter b) (ap (nat_lt 0) none) refl refl e
  where
    by_tests : (some due dot letter : Bool) → due ≡ false → nat_eq b 46 ≡ dot → is_letter b ≡ letter
        → cond (not some) None (cond due (after_tail level b) (cond dot (after_dot level) (cond letter (Some (letter_of level)) (after_lead level (lead_of b))))) ≡ Some next
        → First level b next
    by_tests false due dot letter n d l e = cc
    by_tests true true dot letter n d l e = cc
    by_tests true false true letter n d l e =
        let g = given_if (not level.is_open && nat_lt 1 level.left) (dot_of level) next e in
        a_dot (eqb-true b 46 d) (not_true level.is_open (and_left _ _ g.0)) g.1
    by_tests true false false true n d l e = a_letter d l (cc)
    by_tests true false false false n d l e =
        let g = given_if (level.is_wide && (nat_lt 0 (lead_of b).due && nat_lt (lead_of b).due level.left)) (led_of level (lead_of b)) next e in
        let some : nat_lt 0 (lead_of b).due ≡ true = and_left _ _ (and_right level.is_wide _ g.0) in
        a_lead d (grind (arith, nat_tests)) g.1

-- a byte of a character that has begun
record Tail (level : Level) (s : List ℕ) (last : Level) : Type 0 where
  t : ℕ
  rest : List ℕ
  parts : s ≡ t ∷ rest
  low : level.low ≤ t
  high : t ≤ level.high
  on : reached (Some (tail_of level)) rest ≡ Some last

one_tail : (level : Level) (s : List ℕ) (last : Level) → 0 < level.due → reached (Some level) s ≡ Some last → last.due ≡ 0 → Tail level s last
unfolding level_after_byte after_tail
one_tail level [] last some e none = let same : level ≡ last = cc in absurd (omega (arith, ap (λ (l : Level). l.due) same))
one_tail level (b ∷ s) last some e none = by_tests (nat_lt 0 level.left) (nat_lt 0 level.due) (between level.low level.high b) refl refl e
  where
    by_tests : (room due within : Bool) → nat_lt 0 level.due ≡ due → between level.low level.high b ≡ within
        → reached (cond (not room) None (cond due (cond within (Some (tail_of level)) None) (after_first level b))) s ≡ Some last → Tail level (b ∷ s) last
    by_tests false due within d w e = let both : None ≡ Some last = sym (reached_none s) ∙ e in cc
    by_tests true false within d w e = absurd (grind (arith, nat_tests))
    by_tests true true false d w e = let both : None ≡ Some last = sym (reached_none s) ∙ e in cc
    by_tests true true true d w e =
        let low : nat_le level.low b ≡ true = and_left _ _ w in
        let high : nat_le b level.high ≡ true = and_right (nat_le level.low b) _ w in
        record { t = b; rest = s; parts = refl; low = grind (arith, nat_tests); high = grind (arith, nat_tests); on = e }

-- a text from between characters to between characters
pub record IsNamed (level last : Level) (s : List ℕ) : Type 0 where
  pub utf8 : IsUtf8 s
  pub bytes : list_all is_mail_name_byte s ≡ true
  pub levels : empty_from level.is_open s ≡ last.is_open
  pub count : length s + last.left ≡ level.left

high_byte : (b : ℕ) → 128 ≤ b → is_mail_name_byte b ≡ true
unfolding is_mail_name_byte
high_byte b h = grind (arith, nat_tests)

high_no_dot : (b : ℕ) → 128 ≤ b → nat_eq b 46 ≡ false
high_no_dot b h = grind (arith, nat_tests)

pub character_utf8 : (s : List ℕ) → IsCharacter s → IsUtf8 s
character_utf8 s c = (c.char ∷ [], (and_both _ _ c.is_scalar refl, append-nil (encode c.char) ∙ c.spelled))

-- a character of several bytes, and a text behind it
module _ (level last : Level) (room : 0 < level.left) where
  behind_char : (front rest : List ℕ) (b : ℕ) (tail : List ℕ) (after : Level) → front ≡ b ∷ tail → IsCharacter front → list_all is_mail_name_byte front ≡ true
      → nat_eq b 46 ≡ false → empty_from false (tail ++ rest) ≡ empty_from false rest → IsNamed after last rest → after.is_open ≡ false
      → length front + after.left ≡ level.left → IsNamed level last (front ++ rest)
  unfolding empty_from
  behind_char front rest b tail after is c bytes no_dot skip n closed count = record {
    utf8 = IsUtf8-append front rest (character_utf8 front c) n.utf8;
    bytes = all_join front rest bytes n.bytes;
    levels = ap (λ s. empty_from level.is_open (s ++ rest)) is ∙ rw no_dot (skip ∙ ap (λ o. empty_from o rest) (sym closed) ∙ n.levels);
    count = omega (arith, length-append front rest, n.count);
  }
    where
      all_join : (s t : List ℕ) → list_all is_mail_name_byte s ≡ true → list_all is_mail_name_byte t ≡ true → list_all is_mail_name_byte (s ++ t) ≡ true
      all_join [] t h k = k
      all_join (c ∷ s) t h k = and_both (is_mail_name_byte c) _ (and_left _ _ h) (all_join s t (and_right _ _ h) k)

skip_high : (t : ℕ) (rest : List ℕ) → 128 ≤ t → empty_from false (t ∷ rest) ≡ empty_from false rest
unfolding empty_from
skip_high t rest h = rw (high_no_dot t h) refl

-- what a lead of one, two or three further bytes leads to
module _ (level last : Level) (b : ℕ) (s : List ℕ) (f : Fits level) (room : (lead_of b).due < level.left) (no_dot : nat_eq b 46 ≡ false)
    (none : last.due ≡ 0) (again : (after : Level) (rest : List ℕ) → length rest ≤ length s → Fits after → after.due ≡ 0
    → reached (Some after) rest ≡ Some last → IsNamed after last rest) where
  closes : (after : Level) → after.due ≡ 0 → after.due ≤ after.left → after.is_open ≡ false → Fits after
  closes after d r o = record {
    room = r;
    open_room = λ h. let both : true ≡ false = sym h ∙ o in cc;
    bounds = λ h. absurd (omega (arith, d));
    inside = λ _. o;
    narrow = λ _. d;
  }

  led : reached (Some (led_of level (lead_of b))) s ≡ Some last → (lead_of b).due ≡ 1 → IsNamed level last (b ∷ s)
  led e one =
      let l = leads b in
      let some : 0 < (lead_of b).due = omega (arith, one) in
      let first = one_tail (led_of level (lead_of b)) s last some e none in
      let after : Level = tail_of (led_of level (lead_of b)) in
      let lows : 128 ≤ first.t = omega (arith, l.least some, first.low) in
      let highs : first.t ≤ 191 = omega (arith, l.most some, first.high) in
      let n = again after first.rest (omega (arith, ap length first.parts)) (closes after (omega (arith, one)) (omega (arith, one)) refl) (omega (arith, one)) first.on in
      subst (λ x. IsNamed level last (b ∷ x)) (sym first.parts)
      (behind_char level last (omega arith) (b ∷ first.t ∷ []) first.rest b (first.t ∷ []) after refl
      (two b first.t (l.one one).0 (l.one one).1 lows highs)
      (and_both _ _ (high_byte b (omega (arith, (l.one one).0))) (and_both _ _ (high_byte first.t lows) refl))
      no_dot (skip_high first.t first.rest lows) n refl (omega (arith, one)))

  led_2 : reached (Some (led_of level (lead_of b))) s ≡ Some last → (lead_of b).due ≡ 2 → IsNamed level last (b ∷ s)
  led_2 e one =
      let l = leads b in
      let m = l.two_more one in
      let some : 0 < (lead_of b).due = omega (arith, one) in
      let first = one_tail (led_of level (lead_of b)) s last some e none in
      let middle : Level = tail_of (led_of level (lead_of b)) in
      let due : middle.due ≡ 1 = omega (arith, one) in
      let second = one_tail middle first.rest last (omega (arith, due)) first.on none in
      let after : Level = tail_of middle in
      let lows : 128 ≤ first.t = omega (arith, l.least some, first.low) in
      let highs : first.t ≤ 191 = omega (arith, l.most some, first.high) in
      let done : after.due ≡ 0 = omega (arith, one) in
      let shorter : length second.rest ≤ length s = omega (arith, ap length first.parts, ap length second.parts) in
      let n = again after second.rest shorter (closes after done (omega (arith, done)) refl) done second.on in
      let parts : s ≡ first.t ∷ second.t ∷ second.rest = first.parts ∙ ap (λ x. first.t ∷ x) second.parts in
      subst (λ x. IsNamed level last (b ∷ x)) (sym parts)
      (behind_char level last (omega arith) (b ∷ first.t ∷ second.t ∷ []) second.rest b (first.t ∷ second.t ∷ []) after refl
      (three b first.t second.t m.0 m.1 (λ h. omega (arith, m.2 h, first.low)) (λ h. omega (arith, m.3 h, first.high)) lows highs second.low second.high)
      (and_both _ _ (high_byte b (omega (arith, m.0))) (and_both _ _ (high_byte first.t lows) (and_both _ _ (high_byte second.t second.low) refl)))
      no_dot (skip_high first.t (second.t ∷ second.rest) lows ∙ skip_high second.t second.rest second.low) n refl (omega (arith, one)))

  led_3 : reached (Some (led_of level (lead_of b))) s ≡ Some last → (lead_of b).due ≡ 3 → IsNamed level last (b ∷ s)
  led_3 e one =
      let l = leads b in
      let m = l.three_more one in
      let some : 0 < (lead_of b).due = omega (arith, one) in
      let first = one_tail (led_of level (lead_of b)) s last some e none in
      let middle : Level = tail_of (led_of level (lead_of b)) in
      let due : middle.due ≡ 2 = omega (arith, one) in
      let second = one_tail middle first.rest last (omega (arith, due)) first.on none in
      let later : Level = tail_of middle in
      let left : later.due ≡ 1 = omega (arith, one) in
      let third = one_tail later second.rest last (omega (arith, left)) second.on none in
      let after : Level = tail_of later in
      let lows : 128 ≤ first.t = omega (arith, l.least some, first.low) in
      let highs : first.t ≤ 191 = omega (arith, l.most some, first.high) in
      let done : after.due ≡ 0 = omega (arith, one) in
      let shorter : length third.rest ≤ length s = omega (arith, ap length first.parts, ap length second.parts, ap length third.parts) in
      let n = again after third.rest shorter (closes after done (omega (arith, done)) refl) done third.on in
      let parts : s ≡ first.t ∷ second.t ∷ third.t ∷ third.rest =
      first.parts ∙ ap (λ x. first.t ∷ x) (second.parts ∙ ap (λ x. second.t ∷ x) third.parts) in
      subst (λ x. IsNamed level last (b ∷ x)) (sym parts)
      (behind_char level last (omega arith) (b ∷ first.t ∷ second.t ∷ third.t ∷ []) third.rest b (first.t ∷ second.t ∷ third.t ∷ []) after refl
      (four b first.t second.t third.t m.0 m.1 (λ h. omega (arith, m.2 h, first.low)) (λ h. omega (arith, m.3 h, first.high)) lows highs second.low second.high third.low
      third.high)
      (and_both _ _ (high_byte b (omega (arith, m.0)))
      (and_both _ _ (high_byte first.t lows) (and_both _ _ (high_byte second.t second.low) (and_both _ _ (high_byte third.t third.low) refl))))
      no_dot
      (skip_high first.t (second.t ∷ third.t ∷ third.rest) lows ∙ skip_high second.t (third.t ∷ third.rest) second.low ∙ skip_high third.t third.rest third.low) n
      refl (omega (arith, one)))

  pub led_any : reached (Some (led_of level (lead_of b))) s ≡ Some last → 0 < (lead_of b).due → IsNamed level last (b ∷ s)
  led_any e some = by_due (lead_of b).due refl (leads b).few some
    where
      by_due : (n : ℕ) → (lead_of b).due ≡ n → n ≤ 3 → 0 < n → IsNamed level last (b ∷ s)
      by_due zero is few some = absurd (omega arith)
      by_due (suc zero) is few some = led e is
      by_due (suc (suc zero)) is few some = led_2 e is
      by_due (suc (suc (suc zero))) is few some = led_3 e is
      by_due (suc (suc (suc (suc n)))) is few some = absurd (omega arith)
