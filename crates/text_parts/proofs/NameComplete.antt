-- Each mailbox name is taken by the states of a name to its end.
use Rattle.std.proofs.Common.{◌≡◌, ℕ, zero, suc, ◌+◌, ◌-◌, ◌/◌, ◌%◌, ◌<◌, ◌≤◌, List, [], ◌∷◌, ◌++◌, length, Bool, true, false, ◌&&◌, ◌||◌, not, cond, nat_lt, nat_le, nat_eq, max}
use Rattle.std.proofs.Common.{Option, None, Some, inl, inr, ⊎_elim, refl, sym, ap, ◌∙◌, subst, arith, eqb-true, length-append}
use Rattle.std.proofs.lemmas.Bool.Decides.{nat_tests}
use Rattle.std.specs.List.{list_all}
use Rattle.std.specs.Str.{is_utf8}
use Rattle.std.proofs.lemmas.Str.{IsUtf8-from_is_utf8, encode_ascii}
use lib.Utf8.{encode, encodes, scalar, scalars, scalar_cases}
use Rattle.mur_base.specs.Names.{is_mail_name_byte, has_mail_name_bytes, has_empty_level, mail_name_fault}
use Rattle.mur_base.specs.declared.limits.TheConstants.{NAME_LIMIT}
use Rattle.mur_base.proofs.NamesFit.{name_fits}
use Rattle.grammar.specs.Part.{between}
use Rattle.grammar.proofs.Conditions.{and_both, and_left, and_right, or_right}
use Rattle.text_parts.specs.declared.names.Lead.{Lead}
use Rattle.text_parts.specs.declared.names.Level.{Level}
use Rattle.text_parts.specs.Names.{lead_of, is_letter, after_tail, after_lead, after_dot, after_first, level_after_byte, reached, may_end, names_from, start_of, quoted_names, names_of_size}
use Rattle.mur_base.proofs.EmptyLevels.{empty_from, has_empty_level-from}
use Rattle.text_parts.proofs.LevelLaw.{tail_of, letter_of, dot_of, led_of}

-- the first bytes of characters, and what may follow

lead_1 : (b t : ℕ) → 194 ≤ b → b ≤ 223 → 128 ≤ t → t ≤ 191 → ((lead_of b).due ≡ 1) × ((lead_of b).low ≤ t) × (t ≤ (lead_of b).high)
unfolding lead_of
lead_1 b t lb hb lt ht = (grind (arith, nat_tests), grind (arith, nat_tests), grind (arith, nat_tests))

lead_2 : (b t : ℕ) → 224 ≤ b → b ≤ 239 → (b ≡ 224 → 160 ≤ t) → (b ≡ 237 → t ≤ 159) → 128 ≤ t → t ≤ 191
    → ((lead_of b).due ≡ 2) × ((lead_of b).low ≤ t) × (t ≤ (lead_of b).high)
unfolding lead_of
lead_2 b t lb hb least most lt ht = (grind (arith, nat_tests), grind (arith, nat_tests), grind (arith, nat_tests))

lead_3 : (b t : ℕ) → 240 ≤ b → b ≤ 244 → (b ≡ 240 → 144 ≤ t) → (b ≡ 244 → t ≤ 143) → 128 ≤ t → t ≤ 191
    → ((lead_of b).due ≡ 3) × ((lead_of b).low ≤ t) × (t ≤ (lead_of b).high)
unfolding lead_of
lead_3 b t lb hb least most lt ht = (grind (arith, nat_tests), grind (arith, nat_tests), grind (arith, nat_tests))

-- steps

step_lead : (level : Level) (b : ℕ) → level.due ≡ 0 → level.is_wide ≡ true → 128 ≤ b → 0 < (lead_of b).due → (lead_of b).due < level.left
    → level_after_byte level b ≡ Some (led_of level (lead_of b))
unfolding level_after_byte after_first after_lead
step_lead level b none wide high some room =
    let there : nat_lt 0 level.left ≡ true = grind (arith, nat_tests) in
    let due : nat_lt 0 level.due ≡ false = grind (arith, nat_tests) in
    let no_dot : nat_eq b 46 ≡ false = grind (arith, nat_tests) in
    let no_letter : nat_lt b 128 ≡ false = grind (arith, nat_tests) in
    let letter : is_letter b ≡ false = by_and (is_mail_name_byte b) (nat_lt b 128) no_letter in
    let lead : nat_lt 0 (lead_of b).due ≡ true = grind (arith, nat_tests) in
    let fits : nat_lt (lead_of b).due level.left ≡ true = grind (arith, nat_tests) in
    rw (there, due, no_dot, letter, wide, lead, fits) refl
  where
    by_and : (a b : Bool) → b ≡ false → a && b ≡ false
    by_and true b e = e
    by_and false b e = refl

step_tail : (level : Level) (t : ℕ) → 0 < level.due → 0 < level.left → level.low ≤ t → t ≤ level.high → level_after_byte level t ≡ Some (tail_of level)
unfolding level_after_byte after_tail
step_tail level t some room low high =
    let there : nat_lt 0 level.left ≡ true = grind (arith, nat_tests) in
    let due : nat_lt 0 level.due ≡ true = grind (arith, nat_tests) in
    let least : nat_le level.low t ≡ true = grind (arith, nat_tests) in
    let most : nat_le t level.high ≡ true = grind (arith, nat_tests) in
    rw (there, due, least, most) refl

step_letter : (level : Level) (b : ℕ) → level.due ≡ 0 → 0 < level.left → nat_eq b 46 ≡ false → is_mail_name_byte b ≡ true → b < 128
    → level_after_byte level b ≡ Some (letter_of level)
unfolding level_after_byte after_first
step_letter level b none room no_dot byte small =
    let there : nat_lt 0 level.left ≡ true = grind (arith, nat_tests) in
    let due : nat_lt 0 level.due ≡ false = grind (arith, nat_tests) in
    let ascii : nat_lt b 128 ≡ true = grind (arith, nat_tests) in
    rw (there, due, no_dot, byte, ascii) refl

step_dot : (level : Level) → level.due ≡ 0 → 1 < level.left → level.is_open ≡ false → level_after_byte level 46 ≡ Some (dot_of level)
unfolding level_after_byte after_first after_dot
step_dot level none room closed =
    let there : nat_lt 0 level.left ≡ true = grind (arith, nat_tests) in
    let due : nat_lt 0 level.due ≡ false = grind (arith, nat_tests) in
    let more : nat_lt 1 level.left ≡ true = grind (arith, nat_tests) in
    rw (there, due, closed, more) refl

-- a text that is taken to the end of a level
pub record Ends (level : Level) (s : List ℕ) : Type 0 where
  pub last : Level
  pub at : reached (Some level) s ≡ Some last
  pub left : last.left + length s ≡ level.left
  pub closed : last.is_open ≡ false

-- what stands behind a character of several bytes, which is between characters
record Passes (level : Level) (front : List ℕ) : Type 0 where
  after : Level
  due : after.due ≡ 0
  wide : after.is_wide ≡ level.is_wide
  closed : after.is_open ≡ false
  left : after.left + length front ≡ level.left
  on : (rest : List ℕ) → reached (Some level) (front ++ rest) ≡ reached (Some after) rest
  skips : (rest : List ℕ) → empty_from level.is_open (front ++ rest) ≡ empty_from false rest

high_no_dot : (b : ℕ) → 128 ≤ b → nat_eq b 46 ≡ false
high_no_dot b h = grind (arith, nat_tests)

skip_high : (begun : Bool) (t : ℕ) (rest : List ℕ) → 128 ≤ t → empty_from begun (t ∷ rest) ≡ empty_from false rest
unfolding empty_from
skip_high begun t rest h = rw (high_no_dot t h) refl

module _ (level : Level) (none : level.due ≡ 0) (wide : level.is_wide ≡ true) where
  pass_2 : (b t : ℕ) → 194 ≤ b → b ≤ 223 → 128 ≤ t → t ≤ 191 → 2 ≤ level.left → Passes level (b ∷ t ∷ [])
  pass_2 b t lb hb lt ht room =
      let l = lead_1 b t lb hb lt ht in
      let next : Level = led_of level (lead_of b) in
      let one : level_after_byte level b ≡ Some next = step_lead level b none wide (omega arith) (omega (arith, l.0)) (omega (arith, l.0)) in
      let two : level_after_byte next t ≡ Some (tail_of next) = step_tail next t (omega (arith, l.0)) (omega arith) l.1 l.2 in
      record {
        after = tail_of next;
        due = omega (arith, l.0);
        wide = refl;
        closed = refl;
        left = omega arith;
        on = λ rest. ap (λ r. reached r (t ∷ rest)) one ∙ ap (λ r. reached r rest) two;
        skips = λ rest. skip_high level.is_open b (t ∷ rest) (omega arith) ∙ skip_high false t rest lt;
      }

  pass_3 : (b t u : ℕ) → 224 ≤ b → b ≤ 239 → (b ≡ 224 → 160 ≤ t) → (b ≡ 237 → t ≤ 159) → 128 ≤ t → t ≤ 191 → 128 ≤ u → u ≤ 191 → 3 ≤ level.left
      → Passes level (b ∷ t ∷ u ∷ [])
  pass_3 b t u lb hb least most lt ht lu hu room =
      let l = lead_2 b t lb hb least most lt ht in
      let next : Level = led_of level (lead_of b) in
      let one : level_after_byte level b ≡ Some next = step_lead level b none wide (omega arith) (omega (arith, l.0)) (omega (arith, l.0)) in
      let two : level_after_byte next t ≡ Some (tail_of next) = step_tail next t (omega (arith, l.0)) (omega arith) l.1 l.2 in
      let three : level_after_byte (tail_of next) u ≡ Some (tail_of (tail_of next)) = step_tail (tail_of next) u (omega (arith, l.0)) (omega arith) lu hu in
      record {
        after = tail_of (tail_of next);
        due = omega (arith, l.0);
        wide = refl;
        closed = refl;
        left = omega arith;
        on = λ rest. ap (λ r. reached r (t ∷ u ∷ rest)) one ∙ ap (λ r. reached r (u ∷ rest)) two ∙ ap (λ r. reached r rest) three;
        skips = λ rest. skip_high level.is_open b (t ∷ u ∷ rest) (omega arith) ∙ skip_high false t (u ∷ rest) lt ∙ skip_high false u rest lu;
      }

  pass_4 : (b t u v : ℕ) → 240 ≤ b → b ≤ 244 → (b ≡ 240 → 144 ≤ t) → (b ≡ 244 → t ≤ 143) → 128 ≤ t → t ≤ 191 → 128 ≤ u → u ≤ 191 → 128 ≤ v → v ≤ 191
      → 4 ≤ level.left → Passes level (b ∷ t ∷ u ∷ v ∷ [])
  pass_4 b t u v lb hb least most lt ht lu hu lv hv room =
      let l = lead_3 b t lb hb least most lt ht in
      let next : Level = led_of level (lead_of b) in
      let one : level_after_byte level b ≡ Some next = step_lead level b none wide (omega arith) (omega (arith, l.0)) (omega (arith, l.0)) in
      let two : level_after_byte next t ≡ Some (tail_of next) = step_tail next t (omega (arith, l.0)) (omega arith) l.1 l.2 in
      let three : level_after_byte (tail_of next) u ≡ Some (tail_of (tail_of next)) = step_tail (tail_of next) u (omega (arith, l.0)) (omega arith) lu hu in
      let four : level_after_byte (tail_of (tail_of next)) v ≡ Some (tail_of (tail_of (tail_of next))) =
      step_tail (tail_of (tail_of next)) v (omega (arith, l.0)) (omega arith) lv hv in
      record {
        after = tail_of (tail_of (tail_of next));
        due = omega (arith, l.0);
        wide = refl;
        closed = refl;
        left = omega arith;
        on = λ rest. ap (λ r. reached r (t ∷ u ∷ v ∷ rest)) one ∙ ap (λ r. reached r (u ∷ v ∷ rest)) two ∙ ap (λ r. reached r (v ∷ rest)) three
            ∙ ap (λ r. reached r rest) four;
        skips = λ rest. skip_high level.is_open b (t ∷ u ∷ v ∷ rest) (omega arith) ∙ skip_high false t (u ∷ v ∷ rest) lt ∙ skip_high false u (v ∷ rest) lu
            ∙ skip_high false v rest lv;
      }

  -- a character of several bytes
  passes : (c : ℕ) → scalar c ≡ true → 128 ≤ c → length (encode c) ≤ level.left → Passes level (encode c)
  unfolding encode
  passes c s high room = by_size (nat_lt c 128) (nat_lt c 2048) (nat_lt c 65536) refl refl refl room
    where
      by_size : (one two three : Bool) → nat_lt c 128 ≡ one → nat_lt c 2048 ≡ two → nat_lt c 65536 ≡ three
          → length (cond one (c ∷ []) (cond two ((192 + c / 64) ∷ (128 + c % 64) ∷ []) (cond three ((224 + c / 4096) ∷ (128 + (c / 64) % 64) ∷ (128 + c % 64) ∷ [])
          ((240 + c / 262144) ∷ (128 + (c / 4096) % 64) ∷ (128 + (c / 64) % 64) ∷ (128 + c % 64) ∷ [])))) ≤ level.left
          → Passes level (cond one (c ∷ []) (cond two ((192 + c / 64) ∷ (128 + c % 64) ∷ []) (cond three ((224 + c / 4096) ∷ (128 + (c / 64) % 64) ∷ (128 + c % 64) ∷ [])
          ((240 + c / 262144) ∷ (128 + (c / 4096) % 64) ∷ (128 + (c / 64) % 64) ∷ (128 + c % 64) ∷ []))))
      by_size true two three a b d r = absurd (grind (arith, nat_tests))
      by_size false true three a b d r =
          let under : c < 2048 = grind (arith, nat_tests) in
          pass_2 (192 + c / 64) (128 + c % 64) (omega arith) (omega arith) (omega arith) (omega arith) r
      by_size false false true a b d r =
          let under : c < 65536 = grind (arith, nat_tests) in
          let over : 2048 ≤ c = grind (arith, nat_tests) in
          pass_3 (224 + c / 4096) (128 + (c / 64) % 64) (128 + c % 64) (omega arith) (omega arith) (λ h. omega arith)
          (λ h. ⊎_elim (λ low. omega (arith, low)) (λ up. omega (arith, up.0)) (scalar_cases c s)) (omega arith) (omega arith) (omega arith) (omega arith) r
      by_size false false false a b d r =
          let over : 65536 ≤ c = grind (arith, nat_tests) in
          let under : c < 1114112 = ⊎_elim (λ low. omega (arith, low)) (λ up. up.1) (scalar_cases c s) in
          pass_4 (240 + c / 262144) (128 + (c / 4096) % 64) (128 + (c / 64) % 64) (128 + c % 64) (omega arith) (omega arith) (λ h. omega arith) (λ h. omega arith)
          (omega arith) (omega arith) (omega arith) (omega arith) (omega arith) (omega arith) r

-- the bytes of characters lead on
module _ (c : ℕ) (cs : List ℕ) (level : Level) (none : level.due ≡ 0) (is_scalar : scalar c ≡ true)
    (bytes : list_all is_mail_name_byte (encode c ++ encodes cs) ≡ true)
    (wide : level.is_wide || list_all (λ b. nat_lt b 128) (encode c ++ encodes cs) ≡ true)
    (room : length (encode c ++ encodes cs) ≤ level.left) (levels : empty_from level.is_open (encode c ++ encodes cs) ≡ false)
    (again : (next : Level) → next.due ≡ 0 → next.is_wide ≡ level.is_wide → length (encodes cs) ≤ next.left → empty_from next.is_open (encodes cs) ≡ false
    → Ends next (encodes cs)) where
  all_behind : (s t : List ℕ) → list_all is_mail_name_byte (s ++ t) ≡ true → list_all is_mail_name_byte t ≡ true
  all_behind [] t h = h
  all_behind (b ∷ s) t h = all_behind s t (and_right (is_mail_name_byte b) _ h)

  by_passes : Passes level (encode c) → Ends level (encode c ++ encodes cs)
  by_passes p =
      let n = again p.after p.due p.wide (omega (arith, p.left, length-append (encode c) (encodes cs)))
      (ap (λ o. empty_from o (encodes cs)) p.closed ∙ sym (p.skips (encodes cs)) ∙ levels) in
      record {
        last = n.last;
        at = p.on (encodes cs) ∙ n.at;
        left = omega (arith, n.left, p.left, length-append (encode c) (encodes cs));
        closed = n.closed;
      }

  no_wide : (b : ℕ) (tail : List ℕ) → 128 ≤ b → level.is_wide || list_all (λ b. nat_lt b 128) (b ∷ tail) ≡ true → level.is_wide ≡ true
  no_wide b tail high h =
      let over : nat_lt b 128 ≡ false = grind (arith, nat_tests) in
      by_wide level.is_wide (subst (λ t. level.is_wide || (t && list_all (λ b. nat_lt b 128) tail) ≡ true) over h)
    where
      by_wide : (w : Bool) → w || false ≡ true → w ≡ true
      by_wide true k = refl
      by_wide false k = k

  -- a character of several bytes begins with a high one
  high_first : 128 ≤ c → (b : ℕ) × (tail : List ℕ) × (128 ≤ b) × (encode c ≡ b ∷ tail)
  unfolding encode
  high_first high = by_size (nat_lt c 128) (nat_lt c 2048) (nat_lt c 65536) refl
    where
      by_size : (one two three : Bool) → nat_lt c 128 ≡ one
          → (b : ℕ) × (tail : List ℕ) × (128 ≤ b) × (cond one (c ∷ []) (cond two ((192 + c / 64) ∷ (128 + c % 64) ∷ [])
          (cond three ((224 + c / 4096) ∷ (128 + (c / 64) % 64) ∷ (128 + c % 64) ∷ [])
          ((240 + c / 262144) ∷ (128 + (c / 4096) % 64) ∷ (128 + (c / 64) % 64) ∷ (128 + c % 64) ∷ []))) ≡ b ∷ tail)
      by_size true two three a = absurd (grind (arith, nat_tests))
      by_size false true three a = (192 + c / 64, (128 + c % 64) ∷ [], omega arith, refl)
      by_size false false true a = (224 + c / 4096, (128 + (c / 64) % 64) ∷ (128 + c % 64) ∷ [], omega arith, refl)
      by_size false false false a = (240 + c / 262144, (128 + (c / 4096) % 64) ∷ (128 + (c / 64) % 64) ∷ (128 + c % 64) ∷ [], omega arith, refl)

  high_char : 128 ≤ c → Ends level (encode c ++ encodes cs)
  high_char high =
      let first = high_first high in
      let is_wide : level.is_wide ≡ true =
      no_wide first.0 (first.1 ++ encodes cs) first.2 (subst (λ s. level.is_wide || list_all (λ b. nat_lt b 128) (s ++ encodes cs) ≡ true) first.3 wide) in
      by_passes (passes level none is_wide c is_scalar high (omega (arith, length-append (encode c) (encodes cs))))

  -- behind a separator comes another level
  more_behind : empty_from true (encodes cs) ≡ false → 1 + length (encodes cs) ≤ level.left → 1 < level.left
  unfolding empty_from
  more_behind levels room = by_rest (encodes cs) refl
    where
      by_rest : (s : List ℕ) → encodes cs ≡ s → 1 < level.left
      by_rest [] e = let both : true ≡ false = ap (empty_from true) (sym e) ∙ levels in cc
      by_rest (b ∷ s) e = omega (arith, ap length e)

  dot_char : c ≡ 46 → encode c ≡ c ∷ [] → Ends level (encode c ++ encodes cs)
  unfolding empty_from
  dot_char is one =
      let parts : encode c ++ encodes cs ≡ 46 ∷ encodes cs = ap (λ s. s ++ encodes cs) one ∙ ap (λ b. b ∷ encodes cs) is in
      let begun : level.is_open || empty_from true (encodes cs) ≡ false = ap (empty_from level.is_open) (sym parts) ∙ levels in
      let closed : level.is_open ≡ false = first_false level.is_open (empty_from true (encodes cs)) begun in
      let behind : empty_from true (encodes cs) ≡ false = ap (λ o. o || empty_from true (encodes cs)) (sym closed) ∙ begun in
      let size : length (encode c ++ encodes cs) ≡ length (46 ∷ encodes cs) = ap length parts in
      let more = more_behind behind (omega (arith, size)) in
      let n = again (dot_of level) none refl (omega (arith, size)) behind in
      record {
        last = n.last;
        at = ap (reached (Some level)) parts ∙ ap (λ r. reached r (encodes cs)) (step_dot level none more closed) ∙ n.at;
        left = omega (arith, n.left, size);
        closed = n.closed;
      }
    where
      first_false : (a b : Bool) → a || b ≡ false → a ≡ false
      first_false true b h = h
      first_false false b h = refl

  letter_char : c < 128 → nat_eq c 46 ≡ false → encode c ≡ c ∷ [] → Ends level (encode c ++ encodes cs)
  unfolding empty_from
  letter_char low no_dot one =
      let parts : encode c ++ encodes cs ≡ c ∷ encodes cs = ap (λ s. s ++ encodes cs) one in
      let byte : is_mail_name_byte c ≡ true = and_left _ _ (ap (list_all is_mail_name_byte) (sym parts) ∙ bytes) in
      let size : length (encode c ++ encodes cs) ≡ length (c ∷ encodes cs) = ap length parts in
      let skips : empty_from level.is_open (c ∷ encodes cs) ≡ empty_from false (encodes cs) = rw no_dot refl in
      let behind : empty_from false (encodes cs) ≡ false = sym skips ∙ ap (empty_from level.is_open) (sym parts) ∙ levels in
      let n = again (letter_of level) none refl (omega (arith, size)) behind in
      record {
        last = n.last;
        at = ap (reached (Some level)) parts ∙ ap (λ r. reached r (encodes cs)) (step_letter level c none (omega (arith, size)) no_dot byte low) ∙ n.at;
        left = omega (arith, n.left, size);
        closed = n.closed;
      }

  one_char : Ends level (encode c ++ encodes cs)
  one_char = by_size (nat_lt c 128) (nat_eq c 46) refl refl
    where
      by_size : (low dot : Bool) → nat_lt c 128 ≡ low → nat_eq c 46 ≡ dot → Ends level (encode c ++ encodes cs)
      by_size false dot l d = high_char (grind (arith, nat_tests))
      by_size true true l d = dot_char (eqb-true c 46 d) (encode_ascii c (grind (arith, nat_tests)))
      by_size true false l d = letter_char (grind (arith, nat_tests)) d (encode_ascii c (grind (arith, nat_tests)))

test_behind : (test : ℕ → Bool) (s t : List ℕ) → list_all test (s ++ t) ≡ true → list_all test t ≡ true
test_behind test [] t h = h
test_behind test (b ∷ s) t h = test_behind test s t (and_right (test b) _ h)

wide_behind : (wide : Bool) (s t : List ℕ) → wide || list_all (λ b. nat_lt b 128) (s ++ t) ≡ true → wide || list_all (λ b. nat_lt b 128) t ≡ true
wide_behind true s t h = refl
wide_behind false s t h = test_behind (λ b. nat_lt b 128) s t h

-- the characters of a name, the state before them, and room for them
pub complete : (cs : List ℕ) (level : Level) → scalars cs ≡ true → level.due ≡ 0 → list_all is_mail_name_byte (encodes cs) ≡ true
    → level.is_wide || list_all (λ b. nat_lt b 128) (encodes cs) ≡ true → length (encodes cs) ≤ level.left → empty_from level.is_open (encodes cs) ≡ false
    → Ends level (encodes cs)
unfolding empty_from
complete [] level s none bytes wide room levels = record { last = level; at = refl; left = omega arith; closed = levels }
complete (c ∷ cs) level s none bytes wide room levels =
    one_char c cs level none (and_left _ _ s) bytes wide room levels
    (λ next due same r l. complete cs next (and_right (scalar c) _ s) due (test_behind is_mail_name_byte (encode c) (encodes cs) bytes)
    (ap (λ w. w || list_all (λ b. nat_lt b 128) (encodes cs)) same ∙ wide_behind level.is_wide (encode c) (encodes cs) wide) r l)

-- what holds of a name
record IsNameText (text : List ℕ) : Type 0 where
  bytes : has_mail_name_bytes text ≡ true
  levels : has_empty_level text ≡ false

by_rules : (text : List ℕ) (empty long bytes levels : Bool) → nat_eq (length text) 0 ≡ empty → nat_lt NAME_LIMIT (length text) ≡ long
    → has_mail_name_bytes text ≡ bytes → has_empty_level text ≡ levels → mail_name_fault text ≡ None → IsNameText text
unfolding mail_name_fault
by_rules text true long bytes levels e l b v n = absurd (grind (arith, rw e at n))
by_rules text false true bytes levels e l b v n = absurd (grind (arith, rw (e, l) at n))
by_rules text false false false levels e l b v n = absurd (grind (arith, rw (e, l, b) at n))
by_rules text false false true true e l b v n = absurd (grind (arith, rw (e, l, b, v) at n))
by_rules text false false true false e l b v n = record { bytes = b; levels = v }

name_ends : (text : List ℕ) (wide : Bool) (left : ℕ) → mail_name_fault text ≡ None → wide || list_all (λ b. nat_lt b 128) text ≡ true → length text ≤ left
    → Ends (start_of wide left) text
unfolding has_mail_name_bytes
name_ends text wide left n ascii room =
    let is = by_rules text (nat_eq (length text) 0) (nat_lt NAME_LIMIT (length text)) (has_mail_name_bytes text) (has_empty_level text) refl refl refl refl n in
    let utf8 = IsUtf8-from_is_utf8 text (and_left _ _ is.bytes) in
    let same : encodes utf8.0 ≡ text = utf8.1.1 in
    subst (Ends (start_of wide left)) same
    (complete utf8.0 (start_of wide left) utf8.1.0 refl (ap (list_all is_mail_name_byte) same ∙ and_right (is_utf8 text) _ is.bytes)
    (ap (λ s. wide || list_all (λ b. nat_lt b 128) s) same ∙ ascii) (subst (λ s. length s ≤ left) (sym same) room)
    (ap (empty_from true) same ∙ sym (has_empty_level-from text) ∙ is.levels))

-- a name isn't empty
pub some : (text : List ℕ) → mail_name_fault text ≡ None → 0 < length text
unfolding mail_name_fault
some [] n = cc
some (b ∷ s) n = omega arith

-- a name of 7-bit characters stands in quotes
pub name_is_quoted : (text : List ℕ) → mail_name_fault text ≡ None → list_all (λ b. nat_lt b 128) text ≡ true → quoted_names.whole text ≡ true
unfolding may_end
name_is_quoted text n ascii =
    let e = name_ends text false NAME_LIMIT n ascii (name_fits text n) in
    ap (may_end false) e.at ∙ ap not e.closed

-- each name is one of so many bytes
pub name_is_sized : (text : List ℕ) → mail_name_fault text ≡ None → (names_of_size (length text)).whole text ≡ true
unfolding may_end
name_is_sized text n =
    let e = name_ends text true (max 1 (length text)) n refl (omega arith) in
    let none : e.last.left ≡ 0 = omega (arith, e.left, some text n) in
    ap (may_end true) e.at ∙ ap (λ n. not (nat_lt 0 n)) none
