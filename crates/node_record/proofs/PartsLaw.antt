-- Numbers, texts, names, locations, dates, lists and kinds: each value has one text.
use Rattle.std.proofs.Common.{◌≡◌, ℕ, zero, suc, ◌+◌, ◌-◌, ◌*◌, ◌%◌, ◌^◌, ◌<◌, ◌≤◌, List, [], ◌∷◌, ◌++◌, length, get_or, Bool, true, false, ◌&&◌, not, ◌==◌, nat_le, nat_lt, nat_eq, cond}
use Rattle.std.proofs.Common.{None, refl, sym, ap, ◌∙◌, subst, append-nil, append_assoc, arith, eqb-true, eq-eqb, leb-true, le-leb, length-append, max, min}
use Rattle.std.proofs.lemmas.Bool.{false≢true}
use Rattle.std.proofs.lemmas.Bool.Decides.{nat_tests}
use Rattle.std.proofs.lemmas.Nat.{be_bytes_4, from_be_bytes-to_be_bytes_4}
use Rattle.std.specs.Int.{w32, from_be_bytes, to_be_bytes}
use Rattle.std.specs.List.{list_all, AllByRecursion}
use Rattle.mur_base.specs.Names.{is_short_name_byte, has_short_name_bytes, short_name_fault, mail_name_fault}
use Rattle.mur_base.specs.declared.home.Location.{Location}
use Rattle.mur_base.specs.declared.limits.TheConstants.{NAME_LIMIT, SHORT_NAME_LIMIT}
use Rattle.mur_base.proofs.NamesFit.{name_fits}
use Rattle.mail_message.specs.Date.{is_date}
use Rattle.mail_message.specs.declared.date_text.TheConstants.{DATE_LENGTH}
use Rattle.grammar.specs.Part.{Part, give, ◌then◌, map, byte, one_of, exactly, between}
use Rattle.grammar.specs.Exact.{Good, any}
use Rattle.grammar.specs.Forms.{Form}
use Rattle.grammar.specs.Words.{word}
use Rattle.grammar.proofs.Conditions.{and_both, and_left, and_right}
use Rattle.grammar.proofs.ChoiceLaw.{good_one_of}
use Rattle.grammar.proofs.SequenceLaw.{good_give, good_then, good_map}
use Rattle.grammar.proofs.RepetitionLaw.{begins_any, good_exactly}
use Rattle.grammar.proofs.Spelling.{spell_then, spell_map, spell_byte, spell_exactly}
use Rattle.grammar.proofs.ToolLaws.{good_behind}
use Rattle.grammar.proofs.WordLaw.{good_word}
use Rattle.text_parts.specs.Names.{names_of_size, start_of}
use Rattle.text_parts.specs.Locations.{location_of, location_text, clamped, short_names}
use Rattle.text_parts.specs.Dates.{dates}
use Rattle.text_parts.proofs.LevelLaw.{fits_start, lawful_names, apart_sized}
use Rattle.text_parts.proofs.LocationsLaw.{good_location_of, exactly_length, exactly_same, one_located, only_located, spell_located, located_length, short_parts}
use Rattle.text_parts.proofs.LocationsLaw as located
use Rattle.text_parts.proofs.NameComplete.{name_is_sized, some as name_is_some}
use Rattle.text_parts.proofs.NameSound.{sized_is_name, sized_length}
use Rattle.text_parts.proofs.PlaceLaw.{short_is_node, node_is_short}
use Rattle.text_parts.proofs.DatesLaw.{lawful_dates, apart_dates, is_long}
use Rattle.node_record.specs.Parts.{is_byte, number_text, number, small, sized_text, text, name, node, place, place_text, date, more, members_text, list_text, list, kind_from, kind_byte}
use Rattle.node_record.specs.Ruled.{IsNumber, IsText, IsName, IsNode, IsPlace, IsDate, IsList}
use Rattle.node_record.proofs.StoredLaw.{Stored, unmap, good_joined}

-- numbers

mod_small : (n : ℕ) → n < 2 ^ 32 → n % 2 ^ 32 ≡ n
mod_small n h = omega (arith, h)

is_byte_in : (bytes : List ℕ) → list_all is_byte bytes ≡ true → (i : ℕ) → get_or bytes i 0 < 256
is_byte_in [] h i = omega arith
is_byte_in (c ∷ bytes) h zero = let b = and_left (is_byte c) _ h in grind (arith, nat_tests)
is_byte_in (c ∷ bytes) h (suc i) = is_byte_in bytes (and_right (is_byte c) _ h) i

below_32 : (bytes : List ℕ) → length bytes ≡ 4 → ((i : ℕ) → get_or bytes i 0 < 256) → from_be_bytes w32 bytes < 2 ^ 32
below_32 [] long low = cc
below_32 (a ∷ []) long low = cc
below_32 (a ∷ b ∷ []) long low = cc
below_32 (a ∷ b ∷ c ∷ []) long low = cc
below_32 (a ∷ b ∷ c ∷ d ∷ []) long low =
    let la : a < 256 = low 0 in
    let lb : b < 256 = low 1 in
    let lc : c < 256 = low 2 in
    let ld : d < 256 = low 3 in
    omega arith
below_32 (a ∷ b ∷ c ∷ d ∷ e ∷ rest) long low = absurd (omega (arith, long))

pub number_one : (bytes : List ℕ) (n : ℕ) → number.part.lang bytes n → (bytes ≡ number_text n) × IsNumber n
unfolding number_text
number_one bytes n j =
    let was = unmap (from_be_bytes w32) (exactly is_byte 4) bytes n j in
    let same : bytes ≡ was.0 = exactly_same is_byte 4 bytes was.0 was.1 in
    let length_is = exactly_length is_byte 4 bytes was.0 was.1 in
    let low = is_byte_in was.0 length_is.1 in
    let small_number : n < 2 ^ 32 = subst (λ (m : ℕ). m < 2 ^ 32) (sym was.2) (below_32 was.0 length_is.0 low) in
    (same ∙ sym (be_bytes_4 was.0 n length_is.0 low was.2) ∙ ap (to_be_bytes w32) (sym (mod_small n small_number)), small_number)

bytes_of : (n : ℕ) → list_all is_byte (to_be_bytes w32 n) ≡ true
bytes_of n = grind (arith, nat_tests)

pub number_all : (n : ℕ) → IsNumber n → number.part.lang (number_text n) n
unfolding number_text
number_all n h =
    let bytes : List ℕ = to_be_bytes w32 (n % 2 ^ 32) in
    let small_number : n % 2 ^ 32 ≡ n = mod_small n h in
    let value : from_be_bytes w32 bytes ≡ n = from_be_bytes-to_be_bytes_4 (n % 2 ^ 32) (subst (λ (m : ℕ). m < 2 ^ 32) (sym small_number) h) ∙ small_number in
    subst (λ (m : ℕ). number.part.lang bytes m) value (spell_map (from_be_bytes w32) (exactly is_byte 4) bytes bytes (spell_exactly is_byte bytes (bytes_of (n % 2 ^ 32))))

pub stored_number : Stored IsNumber number
stored_number = record {
  good = λ V. good_map (from_be_bytes w32) (exactly is_byte 4) (good_exactly is_byte any 0 refl 4);
  one = number_one;
  all = number_all;
}

-- numbers below 256

small_text : (n : ℕ) → n < 256 → number_text n ≡ 0 ∷ 0 ∷ 0 ∷ n ∷ []
unfolding number_text
small_text n h =
    ap (to_be_bytes w32) (mod_small n (omega (arith, h)))
    ∙ be_bytes_4 (0 ∷ 0 ∷ 0 ∷ n ∷ []) n refl (is_byte_in (0 ∷ 0 ∷ 0 ∷ n ∷ []) (and_both (is_byte n) true (grind (arith, nat_tests, h)) refl)) (omega arith)

pub good_small : {V : Type 0} (test : ℕ → Bool) (example : ℕ) → test example ≡ true → Good V any (small test)
good_small test example passes =
    good_behind 0 (byte 0 then λ _. byte 0 then λ _. one_of test)
    (good_behind 0 (byte 0 then λ _. one_of test) (good_behind 0 (one_of test) (good_one_of test any example passes)))

-- what a byte and a part behind it spell
unbyte : {B : Type 0} (c : ℕ) (p : Part B) (bytes : List ℕ) (b : B) → (byte c then λ _. p).lang bytes b → (rest : List ℕ) × (bytes ≡ c ∷ rest) × p.lang rest b
unbyte c p bytes b j =
    (j.back, j.parts ∙ ap (λ (x : List ℕ). x ++ j.back) (j.begins.0 ∙ ap (λ (d : ℕ). d ∷ []) (eqb-true j.between c j.begins.1)), j.goes_on)

pub small_one : (test : ℕ → Bool) → ((n : ℕ) → test n ≡ true → n < 256) → (bytes : List ℕ) (n : ℕ) → (small test).lang bytes n → (bytes ≡ number_text n) × (test n ≡ true)
small_one test low bytes n j =
    let one = unbyte 0 (byte 0 then λ _. byte 0 then λ _. one_of test) bytes n j in
    let two = unbyte 0 (byte 0 then λ _. one_of test) one.0 n one.2 in
    let three = unbyte 0 (one_of test) two.0 n two.2 in (
      one.1 ∙ ap (λ (x : List ℕ). 0 ∷ x) (two.1 ∙ ap (λ (x : List ℕ). 0 ∷ x) (three.1 ∙ ap (λ (x : List ℕ). 0 ∷ x) three.2.0))
          ∙ sym (small_text n (low n three.2.1)),
      three.2.1,
    )

pub small_all : (test : ℕ → Bool) → ((n : ℕ) → test n ≡ true → n < 256) → (n : ℕ) → test n ≡ true → (small test).lang (number_text n) n
small_all test low n h =
    subst (λ (s : List ℕ). (small test).lang s n) (sym (small_text n (low n h)))
    (spell_byte 0 (byte 0 then λ _. byte 0 then λ _. one_of test) (0 ∷ 0 ∷ n ∷ []) n
    (spell_byte 0 (byte 0 then λ _. one_of test) (0 ∷ n ∷ []) n (spell_byte 0 (one_of test) (n ∷ []) n (refl, h))))

-- texts of any bytes

all_any : (s : List ℕ) → list_all any s ≡ true
all_any [] = refl
all_any (c ∷ s) = all_any s

pub stored_text : Stored IsText text
unfolding sized_text
stored_text = record {
  good = λ V. good_joined number.part (λ n. exactly any n) (stored_number.good V) (λ n. good_exactly any any 0 refl n);
  one = λ bytes v j.
      let size = number_one j.front j.between j.begins in
      let same : j.back ≡ v = exactly_same any j.between j.back v j.goes_on in
      let long : length v ≡ j.between = (exactly_length any j.between j.back v j.goes_on).0 in (
        j.parts ∙ ap (λ (x : List ℕ). x ++ j.back) (size.0 ∙ ap number_text (sym long)) ∙ ap (λ (x : List ℕ). number_text (length v) ++ x) same,
        subst (λ (n : ℕ). n < 2 ^ 32) (sym long) size.1,
      );
  all = λ v h. spell_then number.part (λ n. exactly any n) (number_text (length v)) v (length v) v (number_all (length v) h) (spell_exactly any v (all_any v));
}

-- texts of few bytes

-- what is spelled behind a number below 256 is a text of as many bytes
pub stored_sized : {A : Type 0} (Is : A → Type 0) (test : ℕ → Bool) (f : ℕ → Part A) (text : A → List ℕ) (example : ℕ) → test example ≡ true
    → ((n : ℕ) → test n ≡ true → n < 256) → ((V : Type 0) (n : ℕ) → Good V any (f n))
    → ((n : ℕ) → test n ≡ true → (bytes : List ℕ) (a : A) → (f n).lang bytes a → (bytes ≡ text a) × (length bytes ≡ n) × Is a)
    → ((a : A) → Is a → (test (length (text a)) ≡ true) × (f (length (text a))).lang (text a) a)
    → Stored Is (record { part = small test then f; text = λ a. sized_text (text a) })
unfolding sized_text
stored_sized Is test f text example passes low good one all = record {
  good = λ V. good_joined (small test) f (good_small test example passes) (good V);
  one = λ bytes a j.
      let size = small_one test low j.front j.between j.begins in
      let behind = one j.between size.1 j.back a j.goes_on in
      let count : j.between ≡ length (text a) = sym behind.1 ∙ ap length behind.0 in
      (j.parts ∙ ap (λ (x : List ℕ). x ++ j.back) (size.0 ∙ ap number_text count) ∙ ap (λ (x : List ℕ). number_text (length (text a)) ++ x) behind.0, behind.2);
  all = λ a is.
      let whole = all a is in
      spell_then (small test) f (number_text (length (text a))) (text a) (length (text a)) a (small_all test low (length (text a)) whole.0) whole.1;
}

few : (least most : ℕ) → most < 256 → (n : ℕ) → between least most n ≡ true → n < 256
few least most small n h = let le = leb-true n most (and_right (nat_le least n) _ h) in omega (arith, small)

low_to : (least most n : ℕ) → between least most n ≡ true → (least ≤ n) × (n ≤ most)
low_to least most n h = (leb-true least n (and_left _ _ h), leb-true n most (and_right (nat_le least n) _ h))

pub stored_name : Stored IsName name
stored_name =
    stored_sized IsName (between 1 NAME_LIMIT) (λ n. word (names_of_size n)) (λ s. s) 1 refl (few 1 NAME_LIMIT (omega arith))
    (λ V n. good_word (names_of_size n) (lawful_names true (start_of true (max 1 n)) (fits_start true (max 1 n) (omega arith)) (λ h. cc)) any
    (apart_sized (start_of true (max 1 n)) any))
    (λ n h bytes v l.
    let bounds = low_to 1 NAME_LIMIT n h in
    (l.0, ap length l.0 ∙ sized_length n v bounds.0 l.1, sized_is_name n v bounds.1 l.1))
    (λ v is. (and_both _ _ (le-leb _ _ (name_is_some v is)) (le-leb _ _ (name_fits v is)), (refl, name_is_sized v is)))

pub stored_node : Stored IsNode node
unfolding is_short_name_byte
stored_node =
    stored_sized IsNode (between 1 SHORT_NAME_LIMIT) (λ n. exactly is_short_name_byte n) (λ s. s) 1 refl (few 1 SHORT_NAME_LIMIT (omega arith))
    (λ V n. good_exactly is_short_name_byte any 97 refl n)
    (λ n h bytes v l.
    let bounds = low_to 1 SHORT_NAME_LIMIT n h in
    let same = exactly_same is_short_name_byte n bytes v l in
    let parts = exactly_length is_short_name_byte n bytes v l in
    (same, ap length same ∙ parts.0, short_is_node v (located.short_whole v parts.1 (omega (arith, parts.0, bounds.0)) (omega (arith, parts.0, bounds.1)))))
    (λ v is.
    let parts = short_parts v (node_is_short v is) in
    (and_both _ _ (le-leb _ _ parts.1) (le-leb _ _ parts.2), spell_exactly is_short_name_byte v parts.0))

pub stored_place : Stored IsPlace place
stored_place =
    stored_sized IsPlace (between 3 129) (λ n. location_of (clamped 3 129 n)) location_text 3 refl (few 3 129 (omega arith))
    (λ V n. good_location_of any (clamped 3 129 n) (omega arith) (omega arith))
    (λ n h bytes it l.
    let bounds = low_to 3 129 n h in
    let exact : clamped 3 129 n ≡ n = omega (arith, bounds.0, bounds.1) in
    let one = one_located (clamped 3 129 n) (omega arith) (omega arith) bytes it l in
    let is = only_located (clamped 3 129 n) (omega arith) (omega arith) bytes it l in
    (one.0, one.1 ∙ exact, record { server = short_is_node it.server is.server; partition = short_is_node it.partition is.partition }))
    (λ it is.
    let short : located.IsPlace it = record { server = node_is_short it.server is.server; partition = node_is_short it.partition is.partition } in
    let bounds = located_length it short in
    let exact : clamped 3 129 (length (location_text it)) ≡ length (location_text it) = omega (arith, bounds.0, bounds.1) in (
      and_both _ _ (le-leb _ _ bounds.0) (le-leb _ _ bounds.1),
      subst (λ (n : ℕ). (location_of n).lang (location_text it) it) (sym exact) (spell_located it short),
    ))

pub stored_date : Stored IsDate date
stored_date =
    stored_sized IsDate (λ n. n == DATE_LENGTH) (λ _. word dates) (λ s. s) DATE_LENGTH refl (λ n h. omega (arith, eqb-true n DATE_LENGTH h))
    (λ V n. good_word dates lawful_dates any apart_dates)
    (λ n h bytes v l. (l.0, ap length l.0 ∙ is_long v l.1 ∙ sym (eqb-true n DATE_LENGTH h), l.1))
    (λ v is. (eq-eqb (length v) DATE_LENGTH (is_long v is), (refl, is)))

-- lists

module _ {A : Type 0} (Is : A → Type 0) (p : Form A) (law : Stored Is p) where
  good_more : (V : Type 0) (n : ℕ) (so_far : List A) → Good V any (more p.part n so_far)
  good_more V zero so_far = good_give any so_far
  good_more V (suc n) so_far = good_joined p.part (λ a. more p.part n (so_far ++ a ∷ [])) (law.good V) (λ a. good_more V n (so_far ++ a ∷ []))

  record Members (n : ℕ) (so_far : List A) (bytes : List ℕ) (list : List A) : Type 0 where
    members : List A
    whole : list ≡ so_far ++ members
    count : length members ≡ n
    text : bytes ≡ members_text p.text members
    are : AllByRecursion Is members

  one_more : (n : ℕ) (so_far : List A) (bytes : List ℕ) (list : List A) → (more p.part n so_far).lang bytes list → Members n so_far bytes list
  one_more zero so_far bytes list l = record { members = []; whole = l.1 ∙ sym (append-nil so_far); count = refl; text = l.0; are = tt }
  one_more (suc n) so_far bytes list j =
      let first = law.one j.front j.between j.begins in
      let rest = one_more n (so_far ++ j.between ∷ []) j.back list j.goes_on in
      record {
        members = j.between ∷ rest.members;
        whole = rest.whole ∙ append_assoc so_far (j.between ∷ []) rest.members;
        count = ap suc rest.count;
        text = j.parts ∙ ap (λ (x : List ℕ). x ++ j.back) first.0 ∙ ap (λ (x : List ℕ). p.text j.between ++ x) rest.text;
        are = (first.1, rest.are);
      }

  all_more : (members so_far : List A) → AllByRecursion Is members → (more p.part (length members) so_far).lang (members_text p.text members) (so_far ++ members)
  all_more [] so_far are = (refl, append-nil so_far)
  all_more (a ∷ members) so_far are =
      spell_then p.part (λ b. more p.part (length members) (so_far ++ b ∷ [])) (p.text a) (members_text p.text members) a (so_far ++ a ∷ members) (law.all a are.0)
      (subst (λ (l : List A). (more p.part (length members) (so_far ++ a ∷ [])).lang (members_text p.text members) l) (append_assoc so_far (a ∷ []) members)
      (all_more members (so_far ++ a ∷ []) are.1))

  pub stored_list : Stored (IsList Is) (list p)
  unfolding list_text
  stored_list = record {
    good = λ V. good_joined number.part (λ n. more p.part n []) (stored_number.good V) (λ n. good_more V n []);
    one = λ bytes l j.
        let size = number_one j.front j.between j.begins in
        let m = one_more j.between [] j.back l j.goes_on in
        let whole : m.members ≡ l = sym m.whole in
        let count : length l ≡ j.between = ap length m.whole ∙ m.count in (
          j.parts ∙ ap (λ (x : List ℕ). x ++ j.back) (size.0 ∙ ap number_text (sym count))
              ∙ ap (λ (x : List ℕ). number_text (length l) ++ x) (m.text ∙ ap (members_text p.text) whole),
          (subst (λ (n : ℕ). n < 2 ^ 32) (sym count) size.1, subst (AllByRecursion Is) whole m.are),
        );
    all = λ l is.
        spell_then number.part (λ n. more p.part n []) (number_text (length l)) (members_text p.text l) (length l) l (number_all (length l) is.0) (all_more l [] is.1);
  }

-- kinds

-- the kinds are numbered in their order from a number on
abbrev pub are_numbered : {K : Type 0} → (K → ℕ) → ℕ → List K → Bool
are_numbered number from [] = true
are_numbered number from (kind ∷ kinds) = (number kind == from) && are_numbered number (from + 1) kinds

module _ {K : Type 0} (number_of : K → ℕ) (last : K) where
  kind_is : (kinds : List K) (from c : ℕ) → are_numbered number_of from kinds ≡ true → from ≤ c → c < from + length kinds → number_of (kind_from from last kinds c) ≡ c
  kind_is [] from c h low high = absurd (omega arith)
  kind_is (kind ∷ kinds) from c h low high =
      by_case (c == from) refl (λ more. kind_is kinds (from + 1) c (and_right (number_of kind == from) _ h) (omega (arith, more)) (omega arith))
    where
      by_case : (b : Bool) → (c == from) ≡ b → (from < c → number_of (kind_from (from + 1) last kinds c) ≡ c)
          → number_of (cond b kind (kind_from (from + 1) last kinds c)) ≡ c
      by_case true e again = eqb-true (number_of kind) from (and_left _ _ h) ∙ sym (eqb-true c from e)
      by_case false e again = again (grind (arith, nat_tests))

  pub stored_kind : (kinds : List K) → are_numbered number_of 1 kinds ≡ true → between 1 (length kinds) 1 ≡ true
      → ((kind : K) → (between 1 (length kinds) (number_of kind) ≡ true) × (kind_from 1 last kinds (number_of kind) ≡ kind))
      → Stored (λ _. Unit {0}) (kind_byte number_of last kinds)
  stored_kind kinds numbered some each = record {
    good = λ V. good_map (kind_from 1 last kinds) (one_of (between 1 (length kinds))) (good_one_of (between 1 (length kinds)) any 1 some);
    one = λ bytes kind j.
        let was = unmap (kind_from 1 last kinds) (one_of (between 1 (length kinds))) bytes kind j in
        let bounds = low_to 1 (length kinds) was.0 was.1.1 in
        let same : number_of kind ≡ was.0 = ap number_of was.2 ∙ kind_is kinds 1 was.0 numbered bounds.0 (omega (arith, bounds.1)) in
        (was.1.0 ∙ ap (λ (c : ℕ). c ∷ []) (sym same), tt);
    all = λ kind _.
        subst (λ (k : K). (kind_byte number_of last kinds).part.lang (number_of kind ∷ []) k) (each kind).1
        (spell_map (kind_from 1 last kinds) (one_of (between 1 (length kinds))) (number_of kind ∷ []) (number_of kind) (refl, (each kind).0));
  }
