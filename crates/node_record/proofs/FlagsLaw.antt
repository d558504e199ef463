-- Flags are an exact part: a byte of system flags, and keywords each higher than the one before it.
use Rattle.std.proofs.Common.{◌≡◌, ℕ, zero, suc, ◌+◌, ◌-◌, ◌<◌, ◌≤◌, List, [], ◌∷◌, ◌++◌, length, Bool, true, false, ◌&&◌, cond, not, ◌==◌, nat_lt, nat_le, nat_eq}
use Rattle.std.proofs.Common.{None, Some, Ordering, Less, Equal, Greater, refl, sym, ap, ◌∙◌, subst, append-nil, append_assoc, arith, eqb-true, leb-true, le-leb}
use Rattle.std.proofs.lemmas.Bool.{false≢true}
use Rattle.std.proofs.lemmas.Bool.Decides.{nat_tests}
use Rattle.std.proofs.lemmas.Cmp.{nat_list_cmp_total}
use Rattle.std.specs.Ordering.{nat_cmp, is_lt}
use Rattle.std.specs.Cmp.Lexicographic.{slice_cmp}
use Rattle.std.specs.List.{list_all, AllByRecursion}
use Rattle.std.specs.List.Sorted.{IsStrictlySortedBy}
use Rattle.mur_base.specs.declared.limits.TheConstants.{KEYWORD_LIMIT}
use Rattle.mur_base.specs.declared.name.NameFault.TheVariants.{Empty, TooLong, BadByte}
use Rattle.mail_message.specs.declared.system_flags.SystemFlags.{SystemFlags}
use Rattle.mail_message.specs.FlagSets.{Flags}
use Rattle.mail_message.specs.Keywords.{is_atom_byte, has_atom_bytes, keyword_fault, AreSortedKeywords}
use Rattle.grammar.specs.Part.{Part, give, ◌then◌, map, one_of, between}
use Rattle.grammar.specs.Exact.{any}
use Rattle.grammar.specs.Words.{word}
use Rattle.grammar.proofs.ChoiceLaw.{good_one_of}
use Rattle.grammar.proofs.SequenceLaw.{good_map}
use Rattle.grammar.proofs.Spelling.{spell_then, spell_map}
use Rattle.grammar.proofs.Conditions.{and_both, and_left, and_right}
use Rattle.node_record.specs.Parts.{small, number_text, sized_text, members_text, list_text}
use Rattle.node_record.specs.Flags.{last_byte, leaves_room, is_before, is_size, size_for, is_next, next_keywords, keyword, kept, rising, most_keywords, keywords, goes_on}
use Rattle.node_record.specs.Flags.{is_set, system_in, system_byte, flags_of, flags_text, flags}
use Rattle.node_record.specs.Ruled.{IsFlags}
use Rattle.node_record.proofs.StoredLaw.{Stored, unmap, good_joined}
use Rattle.node_record.proofs.PartsLaw.{good_small, small_one, small_all}
use Rattle.node_record.proofs.KeywordOrder.{rises, is_before-rises, atom_low, room_at_top, room_below, last_next, last_top}
use Rattle.node_record.proofs.KeywordsLaw.{Next, next_is, is_next_from, front_goes_on, Fits, fits_none, kept_is, good_rising}

-- keywords by their rule

pub record Keyword (text : List ℕ) : Type 0 where
  pub some : 1 ≤ length text
  pub few : length text ≤ 64
  pub atoms : list_all is_atom_byte text ≡ true

pub keyword_is : (text : List ℕ) → keyword_fault text ≡ None → Keyword text
unfolding keyword_fault has_atom_bytes
keyword_is text n = by_tests text (nat_eq (length text) 0) (nat_lt KEYWORD_LIMIT (length text)) (list_all is_atom_byte text) refl refl refl n
  where
    by_tests : (text : List ℕ) (none long atoms : Bool) → nat_eq (length text) 0 ≡ none → nat_lt KEYWORD_LIMIT (length text) ≡ long → list_all is_atom_byte text ≡ atoms
        → cond none (Some Empty) (cond long (Some TooLong) (cond (not atoms) (Some BadByte) None)) ≡ None → Keyword text
    by_tests text true long atoms e l a n = absurd (cc)
    by_tests text false true atoms e l a n = absurd (cc)
    by_tests text false false false e l a n = absurd (cc)
    by_tests text false false true e l a n = record { some = grind (arith, nat_tests, e); few = grind (arith, nat_tests, l); atoms = a }

pub keyword_from : (text : List ℕ) → Keyword text → keyword_fault text ≡ None
unfolding keyword_fault has_atom_bytes
keyword_from text k =
    let there : nat_eq (length text) 0 ≡ false = grind (arith, nat_tests, k.some) in
    let short : nat_lt KEYWORD_LIMIT (length text) ≡ false = grind (arith, nat_tests, k.few) in
    rw (there, short, k.atoms) refl

-- order

abbrev pub order : List ℕ → List ℕ → Ordering
order = slice_cmp nat_cmp

less_is : (o : Ordering) → is_lt o ≡ true → o ≡ Less
less_is Less h = refl
less_is Equal h = absurd (false≢true h)
less_is Greater h = absurd (false≢true h)

pub rises_less : (p t : List ℕ) → rises p t ≡ true → order p t ≡ Less
rises_less p t h = less_is (order p t) (is_before-rises p t ∙ h)

pub less_rises : (p t : List ℕ) → order p t ≡ Less → rises p t ≡ true
less_rises p t h = sym (is_before-rises p t) ∙ ap is_lt h

-- each is higher than the one before it
abbrev pub Chain : List ℕ → List (List ℕ) → Type 0
Chain before [] = Unit {0}
Chain before (text ∷ texts) = (rises before text ≡ true) × Chain text texts

pub chain_above : (one before : List ℕ) (texts : List (List ℕ)) → order one before ≡ Less → Chain before texts → AllByRecursion (λ text. order one text ≡ Less) texts
chain_above one before [] less c = tt
chain_above one before (text ∷ texts) less c =
    let more : order one text ≡ Less = nat_list_cmp_total.trans one before text less (rises_less before text c.0) in
    (more, chain_above one text texts more c.1)

above_all : (before : List ℕ) (texts : List (List ℕ)) → Chain before texts → AllByRecursion (λ text. order before text ≡ Less) texts
unfolding IsStrictlySortedBy
above_all before [] c = tt
above_all before (text ∷ texts) c = (rises_less before text c.0, chain_above before text texts (rises_less before text c.0) c.1)

pub chain_sorted : (before : List ℕ) (texts : List (List ℕ)) → Chain before texts → AreSortedKeywords texts
unfolding IsStrictlySortedBy
chain_sorted before [] c = tt
chain_sorted before (text ∷ texts) c = (above_all text texts c.1, chain_sorted text texts c.1)

sorted_chain : (before : List ℕ) (texts : List (List ℕ)) → AllByRecursion (λ text. order before text ≡ Less) texts → AreSortedKeywords texts → Chain before texts
unfolding IsStrictlySortedBy
sorted_chain before [] above s = tt
sorted_chain before (text ∷ texts) above s = (less_rises before text above.0, sorted_chain text texts s.0 s.1)

pub chain_of : (texts : List (List ℕ)) → AllByRecursion (λ text. keyword_fault text ≡ None) texts → AreSortedKeywords texts → Chain [] texts
unfolding IsStrictlySortedBy
chain_of [] are s = tt
chain_of ([] ∷ texts) are s = absurd (omega (arith, (keyword_is [] are.0).some))
chain_of ((c ∷ text) ∷ texts) are s = (refl, sorted_chain (c ∷ text) texts s.0 s.1)

-- one keyword

sizes : (before : List ℕ) (above size : ℕ) → is_size before above size ≡ true → (1 ≤ size) × (size ≤ 64) × (size_for before above size ≡ size)
unfolding is_size
sizes before above size h =
    let bounds = and_left (nat_le 1 size && nat_le size 64) _ h in
    (leb-true 1 size (and_left (nat_le 1 size) _ bounds), leb-true size 64 (and_right (nat_le 1 size) _ bounds), ap (λ (b : Bool). cond b size 64) h)

size_low : (before : List ℕ) (above size : ℕ) → is_size before above size ≡ true → size < 256
size_low before above size h = let s = sizes before above size h in omega (arith, s.1)

pub keyword_one : (before : List ℕ) (above : ℕ) (bytes text : List ℕ) → (keyword before above).lang bytes text
    → (bytes ≡ sized_text text) × Next before above (length text) text × Keyword text
unfolding keyword sized_text
keyword_one before above bytes text j =
    let size = small_one (is_size before above) (size_low before above) j.front j.between j.begins in
    let bounds = sizes before above j.between size.1 in
    let next = next_is before above (size_for before above j.between) text j.goes_on.1 in
    let long : length text ≡ j.between = next.long ∙ bounds.2 in (
      j.parts ∙ ap (λ (x : List ℕ). x ++ j.back) (size.0 ∙ ap number_text (sym long)) ∙ ap (λ (x : List ℕ). number_text (length text) ++ x) j.goes_on.0,
      record { long = refl; atoms = next.atoms; higher = next.higher; room = next.room },
      record { some = omega (arith, long, bounds.0); few = omega (arith, long, bounds.1); atoms = next.atoms },
    )

size_there : (before : List ℕ) (above : ℕ) (text : List ℕ) → Keyword text → goes_on before above (length text) [] ≡ true → is_size before above (length text) ≡ true
unfolding is_size
size_there before above text k h =
    and_both (nat_le 1 (length text) && nat_le (length text) 64) _
    (and_both (nat_le 1 (length text)) _ (le-leb 1 (length text) k.some) (le-leb (length text) 64 k.few)) h

pub keyword_all : (before : List ℕ) (above : ℕ) (text : List ℕ) → above ≤ 15 → Keyword text → Next before above (length text) text
    → (keyword before above).lang (sized_text text) text
unfolding keyword sized_text
keyword_all before above text few k n =
    let size = length text in
    let is = is_next_from before above size text n in
    let there = size_there before above text k (front_goes_on before above size few k.few [] text is) in
    spell_then (small (is_size before above)) (λ size. word (next_keywords before above (size_for before above size))) (number_text size) text size text
    (small_all (is_size before above) (size_low before above) size there)
    (refl, ap (λ (m : ℕ). is_next before above m text) (sizes before above size there).2 ∙ is)

-- keywords

abbrev pub Keywords : List (List ℕ) → Type 0
Keywords texts = AllByRecursion (λ text. keyword_fault text ≡ None) texts

pub record Risen (n : ℕ) (before : List ℕ) (so_far : List (List ℕ)) (bytes : List ℕ) (list : List (List ℕ)) : Type 0 where
  pub members : List (List ℕ)
  pub whole : list ≡ so_far ++ members
  pub count : length members ≡ n
  pub text : bytes ≡ members_text sized_text members
  pub are : Keywords members
  pub chain : Chain before members

pub one_rising : (n : ℕ) (before : List ℕ) (so_far : List (List ℕ)) (bytes : List ℕ) (list : List (List ℕ)) → (rising n before so_far).lang bytes list
    → Risen n before so_far bytes list
unfolding rising
one_rising zero before so_far bytes list l = record { members = []; whole = l.1 ∙ sym (append-nil so_far); count = refl; text = l.0; are = tt; chain = tt }
one_rising (suc above) before so_far bytes list j =
    let text = j.between in
    let first = keyword_one before above j.front text j.begins in
    let fits : Fits above text = record { atoms = first.2.atoms; short = first.2.few; room = first.1.room } in
    let on = subst (λ (b : List ℕ). (rising above b (so_far ++ text ∷ [])).lang j.back list) (kept_is above text fits) j.goes_on in
    let rest = one_rising above text (so_far ++ text ∷ []) j.back list on in
    record {
      members = text ∷ rest.members;
      whole = rest.whole ∙ append_assoc so_far (text ∷ []) rest.members;
      count = ap suc rest.count;
      text = j.parts ∙ ap (λ (x : List ℕ). x ++ j.back) first.0 ∙ ap (λ (x : List ℕ). sized_text text ++ x) rest.text;
      are = (keyword_from text first.2, rest.are);
      chain = (first.1.higher, rest.chain);
    }

-- a keyword with others above it leaves room for them
room_of : (text : List ℕ) (texts : List (List ℕ)) → Keyword text → Keywords texts → Chain text texts → length texts ≤ 15
    → leaves_room 63 (last_byte (length texts)) text ≡ true
unfolding last_byte
room_of text [] k are c few = room_at_top 63 text (atom_low text k.atoms)
room_of text (next ∷ texts) k are c few =
    let other = keyword_is next are.0 in
    room_below 63 (last_byte (suc (length texts))) (last_byte (length texts)) text next (λ c a l. last_next (length texts) c (omega (arith, few)) a l) k.atoms
    (atom_low next other.atoms) other.few c.0 (room_of next texts other are.1 c.1 (omega (arith, few)))

pub all_rising : (members : List (List ℕ)) (before : List ℕ) (so_far : List (List ℕ)) → Keywords members → Chain before members → length members ≤ 16
    → (rising (length members) before so_far).lang (members_text sized_text members) (so_far ++ members)
unfolding rising
all_rising [] before so_far are c few = (refl, append-nil so_far)
all_rising (text ∷ members) before so_far are c few =
    let above = length members in
    let k = keyword_is text are.0 in
    let room = room_of text members k are.1 c.1 (omega (arith, few)) in
    let next : Next before above (length text) text = record { long = refl; atoms = k.atoms; higher = c.0; room = room } in
    let fits : Fits above text = record { atoms = k.atoms; short = k.few; room = room } in
    let rest = all_rising members text (so_far ++ text ∷ []) are.1 c.1 (omega (arith, few)) in
    spell_then (keyword before above) (λ t. rising above (kept above t) (so_far ++ t ∷ [])) (sized_text text) (members_text sized_text members) text
    (so_far ++ text ∷ members) (keyword_all before above text (omega (arith, few)) k next)
    (subst (λ (l : List (List ℕ)). (rising above (kept above text) (so_far ++ text ∷ [])).lang (members_text sized_text members) l) (append_assoc so_far (text ∷ []) members)
    (subst (λ (b : List ℕ). (rising above b (so_far ++ text ∷ [])).lang (members_text sized_text members) ((so_far ++ text ∷ []) ++ members)) (sym (kept_is above text fits)) rest))

-- the byte of system flags

below : ℕ → (ℕ → Bool) → Bool
below zero test = true
below (suc n) test = test n && below n test

below_each : (n : ℕ) (test : ℕ → Bool) → below n test ≡ true → (c : ℕ) → c < n → test c ≡ true
unfolding below
below_each zero test h c less = absurd (omega arith)
below_each (suc n) test h c less = by_case (nat_eq c n) refl (λ smaller. below_each n test (and_right (test n) (below n test) h) c smaller)
  where
    by_case : (b : Bool) → nat_eq c n ≡ b → (c < n → test c ≡ true) → test c ≡ true
    by_case true e again = ap test (eqb-true c n e) ∙ and_left (test n) (below n test) h
    by_case false e again = again (grind (arith, nat_tests, less))

byte_back : (c : ℕ) → c < 32 → system_byte (system_in c) ≡ c
unfolding below system_in system_byte
byte_back c less = eqb-true (system_byte (system_in c)) c (below_each 32 (λ c. system_byte (system_in c) == c) refl c less)

bits : (answered flagged deleted seen draft : Bool)
    → (between 0 31 (system_byte (record { answered = answered; flagged = flagged; deleted = deleted; seen = seen; draft = draft })) ≡ true)
    × (system_in (system_byte (record { answered = answered; flagged = flagged; deleted = deleted; seen = seen; draft = draft }))
    ≡ record { answered = answered; flagged = flagged; deleted = deleted; seen = seen; draft = draft })
unfolding system_in system_byte
bits true true true true true = (refl, refl)
bits true true true true false = (refl, refl)
bits true true true false true = (refl, refl)
bits true true true false false = (refl, refl)
bits true true false true true = (refl, refl)
bits true true false true false = (refl, refl)
bits true true false false true = (refl, refl)
bits true true false false false = (refl, refl)
bits true false true true true = (refl, refl)
bits true false true true false = (refl, refl)
bits true false true false true = (refl, refl)
bits true false true false false = (refl, refl)
bits true false false true true = (refl, refl)
bits true false false true false = (refl, refl)
bits true false false false true = (refl, refl)
bits true false false false false = (refl, refl)
bits false true true true true = (refl, refl)
bits false true true true false = (refl, refl)
bits false true true false true = (refl, refl)
bits false true true false false = (refl, refl)
bits false true false true true = (refl, refl)
bits false true false true false = (refl, refl)
bits false true false false true = (refl, refl)
bits false true false false false = (refl, refl)
bits false false true true true = (refl, refl)
bits false false true true false = (refl, refl)
bits false false true false true = (refl, refl)
bits false false true false false = (refl, refl)
bits false false false true true = (refl, refl)
bits false false false true false = (refl, refl)
bits false false false false true = (refl, refl)
bits false false false false false = (refl, refl)

-- flags

count_low : (n : ℕ) → between 0 16 n ≡ true → n < 256
count_low n h = let few = leb-true n 16 (and_right (nat_le 0 n) _ h) in omega (arith, few)

keywords_one : (bytes : List ℕ) (texts : List (List ℕ)) → keywords.lang bytes texts
    → (bytes ≡ list_text sized_text texts) × (length texts ≤ 16) × Keywords texts × AreSortedKeywords texts
unfolding list_text
keywords_one bytes texts j =
    let size = small_one (between 0 16) count_low j.front j.between j.begins in
    let within = and_right (nat_le 0 j.between) _ size.1 in
    let few = leb-true j.between 16 within in
    let most : most_keywords j.between ≡ j.between = ap (λ (b : Bool). cond b j.between 0) within in
    let r = one_rising (most_keywords j.between) [] [] j.back texts j.goes_on in
    let same : r.members ≡ texts = sym r.whole in
    let count : length texts ≡ j.between = ap length r.whole ∙ r.count ∙ most in (
      j.parts ∙ ap (λ (x : List ℕ). x ++ j.back) (size.0 ∙ ap number_text (sym count))
          ∙ ap (λ (x : List ℕ). number_text (length texts) ++ x) (r.text ∙ ap (members_text sized_text) same),
      omega (arith, count, few),
      subst Keywords same r.are,
      subst AreSortedKeywords same (chain_sorted [] r.members r.chain),
    )

keywords_all : (texts : List (List ℕ)) → length texts ≤ 16 → Keywords texts → AreSortedKeywords texts → keywords.lang (list_text sized_text texts) texts
unfolding list_text
keywords_all texts few are sorted =
    let most : most_keywords (length texts) ≡ length texts = ap (λ (b : Bool). cond b (length texts) 0) (le-leb (length texts) 16 few) in
    spell_then (small (between 0 16)) (λ n. rising (most_keywords n) [] []) (number_text (length texts)) (members_text sized_text texts) (length texts) texts
    (small_all (between 0 16) count_low (length texts) (and_both (nat_le 0 (length texts)) _ (le-leb 0 (length texts) (omega arith)) (le-leb (length texts) 16 few)))
    (subst (λ (n : ℕ). (rising n [] []).lang (members_text sized_text texts) texts) (sym most) (all_rising texts [] [] are (chain_of texts are sorted) few))

most_few : (n : ℕ) → most_keywords n ≤ 16
most_few n = by_case (nat_le n 16) refl
  where
    by_case : (b : Bool) → nat_le n 16 ≡ b → cond b n 0 ≤ 16
    by_case true e = leb-true n 16 e
    by_case false e = omega arith

pub stored_flags : Stored IsFlags flags
unfolding flags_text
stored_flags = record {
  good = λ V. good_joined (one_of (between 0 31)) (λ c. map (flags_of c) keywords) (good_one_of (between 0 31) any 0 refl)
      (λ c. good_map (flags_of c) keywords
      (good_joined (small (between 0 16)) (λ n. rising (most_keywords n) [] []) (good_small (between 0 16) 0 refl)
      (λ n. good_rising V (most_keywords n) [] [] (most_few n) (fits_none (most_keywords n)))));
  one = λ bytes it j.
      let c = j.between in
      let less : c < 32 = low c j.begins.1 in
      let was = unmap (flags_of c) keywords j.back it j.goes_on in
      let k = keywords_one j.back was.0 was.1 in
      let text : bytes ≡ system_byte (system_in c) ∷ list_text sized_text was.0 =
      j.parts ∙ ap (λ (x : List ℕ). x ++ j.back) j.begins.0 ∙ ap (λ (x : List ℕ). c ∷ x) k.0
      ∙ ap (λ (d : ℕ). d ∷ list_text sized_text was.0) (sym (byte_back c less)) in
      subst (λ (v : Flags). (bytes ≡ system_byte v.system ∷ list_text sized_text v.keywords) × IsFlags v) (sym was.2)
      (text, record { few = k.1; keywords = k.2; rising = k.3 });
  all = λ it is.
      let b = bits it.system.answered it.system.flagged it.system.deleted it.system.seen it.system.draft in
      let c = system_byte it.system in
      let made : flags_of c it.keywords ≡ it = ap (λ (s : SystemFlags). let f : Flags = record { system = s; keywords = it.keywords } in f) b.1 in
      subst (λ (v : Flags). flags.part.lang (c ∷ list_text sized_text it.keywords) v) made
      (spell_then (one_of (between 0 31)) (λ c. map (flags_of c) keywords) (c ∷ []) (list_text sized_text it.keywords) c (flags_of c it.keywords) (refl, b.0)
      (spell_map (flags_of c) keywords (list_text sized_text it.keywords) it.keywords (keywords_all it.keywords is.few is.keywords is.rising)));
}
  where
    low : (c : ℕ) → between 0 31 c ≡ true → c < 32
    low c h = let most = leb-true c 31 (and_right (nat_le 0 c) _ h) in omega (arith, most)
