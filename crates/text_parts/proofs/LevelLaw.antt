-- Texts that go on as names are lawful words: each goes on to one that is whole.
use Rattle.std.proofs.Common.{◌≡◌, ℕ, zero, suc, ◌+◌, ◌-◌, ◌<◌, ◌≤◌, List, [], ◌∷◌, ◌++◌, Bool, true, false, ◌&&◌, not, cond, nat_lt, nat_le, ◌==◌}
use Rattle.std.proofs.Common.{Option, None, Some, refl, sym, ap, ◌∙◌, subst, append-nil, arith, le_refl, le-leb, leb-true, eqb-true}
use Rattle.std.proofs.lemmas.Bool.Decides.{nat_tests}
use Rattle.std.specs.Option.{is_some}
use Rattle.mur_base.specs.Names.{is_mail_name_byte}
use Rattle.grammar.specs.Part.{between}
use Rattle.grammar.specs.Words.{Lawful, Apart}
use Rattle.grammar.proofs.Conditions.{and_both, and_left, and_right}
use Rattle.text_parts.specs.declared.names.Lead.{Lead}
use Rattle.text_parts.specs.declared.names.Level.{Level}
use Rattle.text_parts.specs.Names.{lead_of, is_letter, after_tail, after_lead, after_dot, after_first, level_after_byte, reached, may_end, names_from, start_of}
use Rattle.text_parts.proofs.NameSteps.{reached_none, reached_append, reached_push}

-- what holds of each state of a name
pub record Fits (level : Level) : Type 0 where
  pub room : level.due ≤ level.left
  pub open_room : level.is_open ≡ true → 0 < level.left
  pub bounds : 0 < level.due → level.low ≤ level.high
  pub inside : 0 < level.due → level.is_open ≡ false
  pub narrow : level.is_wide ≡ false → level.due ≡ 0

-- a byte has come
pub record Comes (level next : Level) : Type 0 where
  pub fits : Fits next
  pub one : next.left + 1 ≡ level.left
  pub same : next.is_wide ≡ level.is_wide

-- the bounds of what follows a first byte
lead_bounds : (b : ℕ) → (lead_of b).low ≤ (lead_of b).high
unfolding lead_of
lead_bounds b = grind (arith, nat_tests)

abbrev pub tail_of : Level → Level
tail_of level = record level { left = level.left - 1; is_open = false; due = level.due - 1; low = 128; high = 191 }

abbrev pub letter_of : Level → Level
letter_of level = record level { left = level.left - 1; is_open = false }

abbrev pub dot_of : Level → Level
dot_of level = record level { left = level.left - 1; is_open = true }

abbrev pub led_of : Level → Lead → Level
led_of level lead = record level { left = level.left - 1; is_open = false; due = lead.due; low = lead.low; high = lead.high }

-- what is given where a test holds
pub given_if : (b : Bool) (made next : Level) → cond b (Some made) None ≡ Some next → (b ≡ true) × (made ≡ next)
given_if true made next e = (refl, cc)
given_if false made next e = cc

module _ (level next : Level) (f : Fits level) (some : 0 < level.left) where
  comes_tail : (b : ℕ) → 0 < level.due → after_tail level b ≡ Some next → Comes level next
  unfolding after_tail
  comes_tail b due e =
      let g = given_if (between level.low level.high b) (tail_of level) next e in
      subst (Comes level) g.1 (record {
        fits = record {
          room = omega (arith, f.room);
          open_room = λ h. cc;
          bounds = λ _. omega arith;
          inside = λ _. refl;
          narrow = λ h. absurd (omega (arith, f.narrow h));
        };
        one = omega arith;
        same = refl;
      })

  comes_lead : (lead : Lead) → lead.low ≤ lead.high → after_lead level lead ≡ Some next → Comes level next
  unfolding after_lead
  comes_lead lead bounds e =
      let g = given_if (level.is_wide && (nat_lt 0 lead.due && nat_lt lead.due level.left)) (led_of level lead) next e in
      let wide : level.is_wide ≡ true = and_left _ _ g.0 in
      let less : nat_lt lead.due level.left ≡ true = and_right (nat_lt 0 lead.due) _ (and_right level.is_wide _ g.0) in
      subst (Comes level) g.1 (record {
        fits = record {
          room = grind (arith, nat_tests);
          open_room = λ h. cc;
          bounds = λ _. bounds;
          inside = λ _. refl;
          narrow = λ h. cc;
        };
        one = omega arith;
        same = refl;
      })

  comes_dot : level.due ≡ 0 → after_dot level ≡ Some next → Comes level next
  unfolding after_dot
  comes_dot none e =
      let g = given_if (not level.is_open && nat_lt 1 level.left) (dot_of level) next e in
      let more : nat_lt 1 level.left ≡ true = and_right (not level.is_open) _ g.0 in
      subst (Comes level) g.1 (record {
        fits = record {
          room = omega (arith, none);
          open_room = λ h. grind (arith, nat_tests);
          bounds = λ h. absurd (omega (arith, none));
          inside = λ h. absurd (omega (arith, none));
          narrow = λ _. none;
        };
        one = omega arith;
        same = refl;
      })

  comes_letter : level.due ≡ 0 → letter_of level ≡ next → Comes level next
  comes_letter none e = subst (Comes level) e (record {
    fits = record {
      room = omega (arith, none);
      open_room = λ h. cc;
      bounds = λ h. absurd (omega (arith, none));
      inside = λ h. absurd (omega (arith, none));
      narrow = λ _. none;
    };
    one = omega arith;
    same = refl;
  })

  comes_first : (b : ℕ) → level.due ≡ 0 → after_first level b ≡ Some next → Comes level next
  unfolding after_first
  comes_first b none e = by_tests (b == 46) (is_letter b) e
    where
      by_tests : (dot letter : Bool) → cond dot (after_dot level) (cond letter (Some (letter_of level)) (after_lead level (lead_of b))) ≡ Some next
          → Comes level next
      by_tests true letter e = comes_dot none e
      by_tests false true e = comes_letter none (cc)
      by_tests false false e = comes_lead (lead_of b) (lead_bounds b) e

-- one byte more
pub comes : (level next : Level) (b : ℕ) → Fits level → level_after_byte level b ≡ Some next → Comes level next
unfolding level_after_byte
comes level next b f e = by_tests (nat_lt 0 level.left) (nat_lt 0 level.due) refl refl e
  where
    by_tests : (some due : Bool) → nat_lt 0 level.left ≡ some → nat_lt 0 level.due ≡ due
        → cond (not some) None (cond due (after_tail level b) (after_first level b)) ≡ Some next → Comes level next
    by_tests false due s d e = cc
    by_tests true true s d e = comes_tail level next f (grind (arith, nat_tests)) b (grind (arith, nat_tests)) e
    by_tests true false s d e = comes_first level next f (grind (arith, nat_tests)) b (grind (arith, nat_tests)) e

-- a letter goes on with a name, between characters
pub after_letter : (level : Level) → 0 < level.left → level.due ≡ 0 → level_after_byte level 97 ≡ Some (letter_of level)
unfolding level_after_byte after_first is_mail_name_byte
after_letter level some none =
    let there : nat_lt 0 level.left ≡ true = grind (arith, nat_tests) in
    let d : nat_lt 0 level.due ≡ false = ap (nat_lt 0) none in
    rw (there, d) refl

-- a byte with which a name goes on
pub next_byte : (level : Level) → Fits level → 0 < level.left → (b : ℕ) × (next : Level) × (level_after_byte level b ≡ Some next)
unfolding level_after_byte after_tail
next_byte level f some = by_due (nat_lt 0 level.due) refl
  where
    by_due : (due : Bool) → nat_lt 0 level.due ≡ due → (b : ℕ) × (next : Level) × (level_after_byte level b ≡ Some next)
    by_due true d =
        let low : level.low ≤ level.high = f.bounds (grind (arith, nat_tests)) in
        let within : between level.low level.high level.low ≡ true = and_both _ _ (le-leb _ _ (le_refl level.low)) (le-leb _ _ low) in
        let there : nat_lt 0 level.left ≡ true = grind (arith, nat_tests) in
        (level.low, tail_of level, rw (there, d, within) refl)
    by_due false d = (97, letter_of level, after_letter level some (grind (arith, nat_tests)))

-- all states fit
pub fits_reached : (s : List ℕ) (start level : Level) → Fits start → reached (Some start) s ≡ Some level → Fits level × (level.is_wide ≡ start.is_wide)
fits_reached [] start level f e = let same : start ≡ level = cc in (subst Fits same f, ap (λ (l : Level). l.is_wide) (sym same))
fits_reached (b ∷ s) start level f e = by_next (level_after_byte start b) refl e (λ next fit e. fits_reached s next level fit e)
  where
    by_next : (r : Option Level) → level_after_byte start b ≡ r → reached r s ≡ Some level
        → ((next : Level) → Fits next → reached (Some next) s ≡ Some level → Fits level × (level.is_wide ≡ next.is_wide))
        → Fits level × (level.is_wide ≡ start.is_wide)
    by_next None is e again = let both : None ≡ Some level = sym (reached_none s) ∙ e in cc
    by_next (Some next) is e again =
        let c = comes start next b f is in
        let on = again next c.fits e in
        (on.0, on.1 ∙ c.same)

-- the bytes that are left may come
fill : (n : ℕ) (level : Level) → level.left ≡ n → Fits level → (t : List ℕ) × (last : Level) × (reached (Some level) t ≡ Some last) × (last.left ≡ 0)
fill zero level e f = ([], level, refl, e)
fill (suc n) level e f =
    let b = next_byte level f (omega arith) in
    let c = comes level b.1 b.0 f b.2 in
    let on = fill n b.1 (omega (arith, c.one)) c.fits in
    (b.0 ∷ on.0, on.1, ap (λ r. reached r on.0) b.2 ∙ on.2, on.3)

names_front : (is_sized : Bool) (start : Level) (s t : List ℕ) → (names_from is_sized start).begins (s ++ t) ≡ true → (names_from is_sized start).begins s ≡ true
names_front is_sized start s t h = by_front (reached (Some start) s) (ap is_some (sym (reached_append (Some start) s t)) ∙ h)
  where
    by_front : (r : Option Level) → is_some (reached r t) ≡ true → is_some r ≡ true
    by_front None k = ap is_some (sym (reached_none t)) ∙ k
    by_front (Some level) k = refl

ends_some : (is_sized : Bool) (r : Option Level) → may_end is_sized r ≡ true → is_some r ≡ true
unfolding may_end
ends_some is_sized None h = h
ends_some is_sized (Some level) h = refl

-- a name may end behind some further bytes
ends_behind : (is_sized : Bool) (level : Level) → Fits level → (is_sized ≡ false → level.is_wide ≡ false)
    → (t : List ℕ) × (may_end is_sized (reached (Some level) t) ≡ true)
unfolding may_end
ends_behind true level f narrow =
    let on = fill level.left level refl f in
    (on.0, ap (may_end true) on.2 ∙ ap (λ n. not (nat_lt 0 n)) on.3)
ends_behind false level f narrow = by_open level.is_open refl
  where
    by_open : (b : Bool) → level.is_open ≡ b → (t : List ℕ) × (may_end false (reached (Some level) t) ≡ true)
    by_open false e = ([], ap not e)
    by_open true e = (97 ∷ [], ap (λ r. may_end false (reached r [])) (after_letter level (f.open_room e) (f.narrow (narrow refl))))

-- whatever goes on from a state that fits
pub lawful_names : (is_sized : Bool) (start : Level) → Fits start → (is_sized ≡ false → start.is_wide ≡ false) → Lawful (names_from is_sized start)
lawful_names is_sized start f narrow = record {
  empty_begins = refl;
  front = names_front is_sized start;
  whole = λ s h. ends_some is_sized (reached (Some start) s) h;
  goes_on = λ s h. by_state s (reached (Some start) s) refl h;
}
  where
    by_state : (s : List ℕ) (r : Option Level) → reached (Some start) s ≡ r → is_some r ≡ true
        → (t : List ℕ) × ((names_from is_sized start).whole (s ++ t) ≡ true)
    by_state s None e h = cc
    by_state s (Some level) e h =
        let fit = fits_reached s start level f e in
        let on = ends_behind is_sized level fit.0 (λ k. fit.1 ∙ narrow k) in
        (on.0, ap (may_end is_sized) (reached_append (Some start) s on.0 ∙ ap (λ r. reached r on.0) e) ∙ on.1)

-- the beginning of a name fits
pub fits_start : (is_wide : Bool) (left : ℕ) → 0 < left → Fits (start_of is_wide left)
fits_start is_wide left some = record {
  room = omega arith;
  open_room = λ _. some;
  bounds = λ _. omega arith;
  inside = λ h. absurd (omega arith);
  narrow = λ _. refl;
}

-- behind a name whose bytes have all come nothing goes on
pub apart_sized : (start : Level) (after : ℕ → Bool) → Apart (names_from true start) after
unfolding may_end level_after_byte
apart_sized start after s h c k = by_state (reached (Some start) s) refl h
  where
    by_state : (r : Option Level) → reached (Some start) s ≡ r → may_end true r ≡ true → (names_from true start).begins (s ++ c ∷ []) ≡ false
    by_state None e h = cc
    by_state (Some level) e h = ap is_some (reached_push start level s c e ∙ ap (λ b. cond b None (cond (nat_lt 0 level.due) (after_tail level c) (after_first level c))) h)

no_quote : (level : Level) → level.due ≡ 0 → level_after_byte level 34 ≡ None
unfolding level_after_byte after_first after_lead lead_of is_mail_name_byte
no_quote level none = by_tests level.is_wide (nat_lt 0 level.left) (nat_lt 0 level.due) (ap (nat_lt 0) none)
  where
    by_tests : (wide some due : Bool) → due ≡ false
        → cond (not some) None (cond due (after_tail level 34) (cond (wide && false) (Some (led_of level (lead_of 34))) None)) ≡ None
    by_tests wide false due e = refl
    by_tests true true false e = refl
    by_tests false true false e = refl
    by_tests wide true true e = cc

-- no name in quotes goes on with a quote
pub apart_quote : (start : Level) → Fits start → start.is_wide ≡ false → Apart (names_from false start) (λ c. c == 34)
unfolding may_end
apart_quote start f narrow s h c k = by_state (reached (Some start) s) refl h
  where
    by_state : (r : Option Level) → reached (Some start) s ≡ r → may_end false r ≡ true → (names_from false start).begins (s ++ c ∷ []) ≡ false
    by_state None e h = cc
    by_state (Some level) e h =
        let fit = fits_reached s start level f e in
        let none = fit.0.narrow (fit.1 ∙ narrow) in
        ap is_some (reached_push start level s c e ∙ ap (level_after_byte level) (eqb-true c 34 k) ∙ no_quote level none)
