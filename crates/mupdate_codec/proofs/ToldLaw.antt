-- Readings that tell another place at a stop read the same lines.
use Rattle.std.proofs.Common.{◌≡◌, ℕ, ◌≤◌, List, length, Result, Ok, Err, Bool, true, false, cond, nat_lt, nat_eq, refl, sym, ap, subst}
use Rattle.std.proofs.Common.{length-append, arith, le_refl, le_trans}
use Rattle.std.proofs.lemmas.Bool.Decides.{nat_tests}
use Rattle.grammar.specs.Part.{Part, ◌>>=◌, ◌then◌, give, map, byte}
use Rattle.grammar.specs.Exact.{Good, any, at_end}
use Rattle.grammar.specs.Forms.{Form, Law, preceded, ◌spaced◌}
use Rattle.grammar.proofs.Reading.{viable, ok_parts}
use Rattle.grammar.proofs.SequenceLaw.{viable_end, follows_end}
use Rattle.mupdate_codec.specs.Arguments.{exact, a_name, a_place, a_mailbox}
use Rattle.mupdate_codec.specs.Strings.{mupdate_string, string_form, name_form, location_form}
use Rattle.mupdate_codec.specs.Told.{loose_left, told_left, placed_by, placed_part, told_texts}
use Rattle.grammar.proofs.ToolLaws.{good_byte}
use Rattle.mupdate_codec.proofs.StringsPrinted.{law_string, law_name, law_location}

-- what is told of a reading of so many bytes: its value, or a stop no nearer the end, which is at the end only where the reading's is
pub record TellsStop {A : Type 0} (left : ℕ) (other : Result (A × List ℕ) ℕ) (size : ℕ) : Type 0 where
  pub stop : ℕ
  pub is : other ≡ Err stop
  pub least : left ≤ stop
  pub most : stop ≤ size
  pub at_end : left ≡ 0 → stop ≡ 0

abbrev pub Tells : {A : Type 0} → Result (A × List ℕ) ℕ → Result (A × List ℕ) ℕ → ℕ → Type 0
Tells (Ok x) other size = other ≡ Ok x
Tells (Err left) other size = TellsStop left other size

-- the part p, and the part t that tells other places
pub record Told {A : Type 0} (p t : Part A) : Type 0 where
  pub same : (bytes : List ℕ) → Tells (p.at bytes) (t.at bytes) (length bytes)

-- a reading leaves no more bytes than there are
pub record Leaves {A : Type 0} (p : Part A) : Type 0 where
  pub rest : (bytes : List ℕ) (a : A) (rest : List ℕ) → p.at bytes ≡ Ok (a, rest) → length rest ≤ length bytes
  pub stop : (bytes : List ℕ) (left : ℕ) → p.at bytes ≡ Err left → left ≤ length bytes

pub leaves : {A : Type 0} {set : ℕ → Bool} (p : Part A) → Good A set p → Leaves p
leaves {A} {set} p g = record {
  rest = λ bytes a rest e. let s = g.sound bytes rest a e in omega (arith, ap length s.1, length-append s.0 rest);
  stop = λ bytes left e.
      let s = viable (g.exact at_end viable_end (follows_end set)) bytes left (ap (λ r. r >>= at_end) e) in
      omega (arith, length-append s.front s.rest, ap length s.parts, s.left_is);
}

pub law_leaves : {A : Type 0} {starts after : ℕ → Bool} (f : Form A) → Law starts after f → Leaves f.part
law_leaves {A} f g = leaves f.part (g.good A)

-- each part tells its own places
pub told_same : {A : Type 0} (p : Part A) → Leaves p → Told p p
told_same {A} p l = record { same = λ bytes. by_read bytes (p.at bytes) refl }
  where
    by_read : (bytes : List ℕ) (r : Result (A × List ℕ) ℕ) → p.at bytes ≡ r → Tells r (p.at bytes) (length bytes)
    by_read bytes (Ok x) e = e
    by_read bytes (Err left) e = record { stop = left; is = e; least = le_refl left; most = l.stop bytes left e; at_end = λ h. h }

module _ {A B : Type 0} (p t : Part A) (f g : A → Part B) where
  -- one part behind another
  pub told_then : Told p t → Leaves p → ((a : A) → Told (f a) (g a)) → Told (p then f) (t then g)
  told_then first l second = record { same = λ bytes. by_read bytes (p.at bytes) refl (first.same bytes) }
    where
      wider : (r other : Result (B × List ℕ) ℕ) (few many : ℕ) → few ≤ many → Tells r other few → Tells r other many
      wider (Ok x) other few many h s = s
      wider (Err left) other few many h s =
          record { stop = s.stop; is = s.is; least = s.least; most = omega (arith, s.most); at_end = s.at_end }

      by_read : (bytes : List ℕ) (r : Result (A × List ℕ) ℕ) → p.at bytes ≡ r → Tells r (t.at bytes) (length bytes)
          → Tells (r >>= (λ a. (f a).at)) (t.at bytes >>= (λ a. (g a).at)) (length bytes)
      by_read bytes (Ok x) e s =
          let on : t.at bytes >>= (λ a. (g a).at) ≡ (g x.0).at x.1 = ap (λ r. r >>= (λ a. (g a).at)) s in
          subst (λ r. Tells ((f x.0).at x.1) r (length bytes)) (sym on)
          (wider ((f x.0).at x.1) ((g x.0).at x.1) (length x.1) (length bytes) (l.rest bytes x.0 x.1 e) ((second x.0).same x.1))
      by_read bytes (Err left) e s =
          record { stop = s.stop; is = ap (λ r. r >>= (λ a. (g a).at)) s.is; least = s.least; most = s.most; at_end = s.at_end }

-- nothing
pub told_give : {A : Type 0} (a : A) → Told (give a) (give a)
told_give a = record { same = λ bytes. refl }

pub told_map : {A B : Type 0} (f : A → B) (p t : Part A) → Told p t → Leaves p → Told (map f p) (map f t)
told_map f p t s l = told_then p t (λ a. give (f a)) (λ a. give (f a)) s l (λ a. told_give (f a))

pub leaves_byte : (c : ℕ) → Leaves (byte c)
leaves_byte c = leaves (byte c) (good_byte any c)

pub told_behind : {A : Type 0} (c : ℕ) (p t : Part A) → Told p t → Told (byte c then λ _. p) (byte c then λ _. t)
told_behind c p t s = told_then (byte c) (byte c) (λ _. p) (λ _. t) (told_same (byte c) (leaves_byte c)) (leaves_byte c) (λ _. s)

pub leaves_then : {A B : Type 0} (p : Part A) (f : A → Part B) → Leaves p → ((a : A) → Leaves (f a)) → Leaves (p then f)
leaves_then {A} {B} p f l m = record {
  rest = λ bytes b rest e. by_rest bytes b rest (p.at bytes) refl e;
  stop = λ bytes left e. by_stop bytes left (p.at bytes) refl e;
}
  where
    by_rest : (bytes : List ℕ) (b : B) (rest : List ℕ) (r : Result (A × List ℕ) ℕ) → p.at bytes ≡ r → r >>= (λ a. (f a).at) ≡ Ok (b, rest)
        → length rest ≤ length bytes
    by_rest bytes b rest (Ok x) is e = le_trans ((m x.0).rest x.1 b rest e) (l.rest bytes x.0 x.1 is)
    by_rest bytes b rest (Err left) is e = cc

    by_stop : (bytes : List ℕ) (left : ℕ) (r : Result (A × List ℕ) ℕ) → p.at bytes ≡ r → r >>= (λ a. (f a).at) ≡ Err left → left ≤ length bytes
    by_stop bytes left (Ok x) is e = le_trans ((m x.0).stop x.1 left e) (l.rest bytes x.0 x.1 is)
    by_stop bytes left (Err less) is e = let same : less ≡ left = cc in omega (arith, l.stop bytes less is)

-- two forms with a space between them
pub told_spaced : {A B : Type 0} (p t : Form A) (q u : Form B) → Told p.part t.part → Leaves p.part → Told q.part u.part → Leaves q.part
    → Told (p spaced q).part (t spaced u).part
told_spaced p t q u s l r m =
    told_then p.part t.part (λ a. map (λ b. (a, b)) (preceded 32 q).part) (λ a. map (λ b. (a, b)) (preceded 32 u).part) s l
    (λ a. told_map (λ b. (a, b)) (preceded 32 q).part (preceded 32 u).part (told_behind 32 q.part u.part r)
    (leaves_then (byte 32) (λ _. q.part) (leaves_byte 32) (λ _. m)))

-- names and locations

module _ {A : Type 0} (f : Form A) (l : Leaves f.part) where
  placed_left : (bytes : List ℕ) (left : ℕ) → left ≤ length bytes → (loose : Result (List ℕ × List ℕ) ℕ)
      → (left ≤ told_left left bytes loose) × (told_left left bytes loose ≤ length bytes) × (left ≡ 0 → told_left left bytes loose ≡ 0)
  placed_left bytes left within loose = by_end (nat_eq left 0) refl
    where
      by_less : (less : ℕ) (b : Bool) → (left ≤ cond b (length bytes) left) × (cond b (length bytes) left ≤ length bytes)
      by_less less true = (within, le_refl (length bytes))
      by_less less false = (le_refl left, within)

      by_loose : (r : Result (List ℕ × List ℕ) ℕ) → (left ≤ loose_left left bytes r) × (loose_left left bytes r ≤ length bytes)
      by_loose (Ok x) = (within, le_refl (length bytes))
      by_loose (Err less) = by_less less (nat_lt less left)

      by_end : (b : Bool) → nat_eq left 0 ≡ b
          → (left ≤ cond b 0 (loose_left left bytes loose)) × (cond b 0 (loose_left left bytes loose) ≤ length bytes)
          × (left ≡ 0 → cond b 0 (loose_left left bytes loose) ≡ 0)
      by_end true e = (grind (arith, nat_tests), omega arith, λ h. refl)
      by_end false e = let both = by_loose loose in (both.0, both.1, λ h. absurd (grind (arith, nat_tests)))

  told_placed : Told f.part (placed_part f.part)
  told_placed = record { same = λ bytes. by_read bytes (f.part.at bytes) refl }
    where
      by_read : (bytes : List ℕ) (r : Result (A × List ℕ) ℕ) → f.part.at bytes ≡ r → Tells r (placed_by bytes (mupdate_string.at bytes) r) (length bytes)
      by_read bytes (Ok x) e = refl
      by_read bytes (Err left) e =
          let p = placed_left bytes left (l.stop bytes left e) (mupdate_string.at bytes) in
          record { stop = told_left left bytes (mupdate_string.at bytes); is = refl; least = p.0; most = p.1; at_end = p.2 }

leaves_name : Leaves name_form.part
leaves_name = law_leaves name_form law_name

leaves_location : Leaves location_form.part
leaves_location = law_leaves location_form law_location

leaves_string : Leaves string_form.part
leaves_string = law_leaves string_form law_string

told_name : Told exact.names.part told_texts.names.part
told_name = told_placed name_form leaves_name

told_location : Told exact.locations.part told_texts.locations.part
told_location = told_placed location_form leaves_location

pub told_a_name : Told (a_name exact).part (a_name told_texts).part
told_a_name = told_behind 32 exact.names.part told_texts.names.part told_name

pub told_a_place : Told (a_place exact).part (a_place told_texts).part
told_a_place =
    told_behind 32 (exact.names spaced exact.locations).part (told_texts.names spaced told_texts.locations).part
    (told_spaced exact.names told_texts.names exact.locations told_texts.locations told_name leaves_name told_location leaves_location)

pub leaves_spaced : {A B : Type 0} (p : Form A) (q : Form B) → Leaves p.part → Leaves q.part → Leaves (p spaced q).part
leaves_spaced p q l m =
    leaves_then p.part (λ a. map (λ b. (a, b)) (preceded 32 q).part) l
    (λ a. leaves_then (preceded 32 q).part (λ b. give (a, b)) (leaves_then (byte 32) (λ _. q.part) (leaves_byte 32) (λ _. m)) (λ b. leaves_give (a, b)))
  where
    leaves_give : {C : Type 0} (c : C) → Leaves (give c)
    leaves_give c = record { rest = λ bytes d rest e. let same : bytes ≡ rest = (ok_parts e).1 in omega (arith, ap length same); stop = λ bytes left e. cc }

pub told_a_mailbox : Told (a_mailbox exact).part (a_mailbox told_texts).part
told_a_mailbox =
    told_behind 32 (exact.names spaced (exact.locations spaced string_form)).part (told_texts.names spaced (told_texts.locations spaced string_form)).part
    (told_spaced exact.names told_texts.names (exact.locations spaced string_form) (told_texts.locations spaced string_form) told_name leaves_name
    (told_spaced exact.locations told_texts.locations string_form string_form told_location leaves_location (told_same string_form.part leaves_string) leaves_string)
    (leaves_spaced exact.locations string_form leaves_location leaves_string))
