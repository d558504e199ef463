-- Locations of so many bytes are exact parts, and each location is one of its length.
use Rattle.std.proofs.Common.{◌≡◌, ℕ, zero, suc, ◌+◌, ◌-◌, ◌<◌, ◌≤◌, List, [], ◌∷◌, ◌++◌, length, Bool, true, false, ◌&&◌, nat_le, ◌==◌, max, min}
use Rattle.std.proofs.Common.{refl, sym, ap, ◌∙◌, subst, arith, leb-true, le-leb, eqb-true, append-nil, length-append}
use Rattle.std.proofs.lemmas.Bool.{false≢true}
use Rattle.std.specs.List.{list_all}
use Rattle.mur_base.specs.Names.{is_short_name_byte}
use Rattle.mur_base.specs.declared.home.Location.{Location}
use Rattle.mur_base.specs.declared.limits.TheConstants.{SHORT_NAME_LIMIT}
use Rattle.grammar.specs.Part.{Part, ◌then◌, map, byte, exactly}
use Rattle.grammar.specs.Exact.{Good, StartsWith}
use Rattle.grammar.specs.Runs.{some}
use Rattle.grammar.specs.Words.{word}
use Rattle.grammar.proofs.Conditions.{and_both, and_left, and_right}
use Rattle.grammar.proofs.RepetitionLaw.{good_exactly}
use Rattle.grammar.proofs.SequenceLaw.{good_then, good_map}
use Rattle.grammar.proofs.Spelling.{spell_then, spell_map, spell_byte, spell_exactly}
use Rattle.grammar.proofs.StartLaw.{starts_then, starts_byte, begins_from}
use Rattle.grammar.proofs.ToolLaws.{good_behind}
use Rattle.grammar.proofs.WordLaw.{good_word}
use Rattle.text_parts.specs.Locations.{run_within, located, short_names, servers_of, location_of, location_text}
use Rattle.text_parts.proofs.WithinLaw.{lawful_within, apart_within}

abbrev pub is_bang : ℕ → Bool
is_bang c = c == 33

pub no_bang : (c : ℕ) → is_bang c ≡ true → is_short_name_byte c ≡ false
unfolding is_short_name_byte
no_bang c h = ap is_short_name_byte (eqb-true c 33 h)

pub starts_bang : {A : Type 0} (p : Part A) → StartsWith is_bang (byte 33 then λ _. p)
starts_bang p = starts_then (byte 33) (λ _. p) (starts_byte 33)

good_servers : {V : Type 0} (n : ℕ) → 3 ≤ n → n ≤ 129 → Good V is_bang (word (servers_of n))
unfolding is_short_name_byte
good_servers n least most =
    let low : ℕ = max 1 (n - 1 - SHORT_NAME_LIMIT) in
    let high : ℕ = min SHORT_NAME_LIMIT (n - 2) in
    good_word (servers_of n) (lawful_within low high is_short_name_byte 97 refl (omega arith)) is_bang (apart_within low high is_short_name_byte is_bang no_bang)

module _ {V : Type 0} (after : ℕ → Bool) where
  pub good_location_of : (n : ℕ) → 3 ≤ n → n ≤ 129 → Good V after (location_of n)
  unfolding is_short_name_byte
  good_location_of n least most =
      let rest : List ℕ → Part Location = λ server. byte 33 then λ _. map (located server) (exactly is_short_name_byte (n - 1 - length server)) in
      good_then (word (servers_of n)) rest (good_servers n least most)
      (λ server. good_behind 33 (map (located server) (exactly is_short_name_byte (n - 1 - length server)))
      (good_map (located server) (exactly is_short_name_byte (n - 1 - length server)) (good_exactly is_short_name_byte after 97 refl (n - 1 - length server))))
      (λ server. begins_from after (rest server) (starts_bang (map (located server) (exactly is_short_name_byte (n - 1 - length server)))))

-- what they spell

pub exactly_length : (test : ℕ → Bool) (n : ℕ) (s v : List ℕ) → (exactly test n).lang s v → (length v ≡ n) × (list_all test v ≡ true)
unfolding exactly
exactly_length test zero s v l = (ap length l.1, ap (list_all test) l.1)
exactly_length test (suc n) s v j =
    let k = j.goes_on in
    let on = exactly_length test n k.front k.between k.begins in
    let same : v ≡ j.between ∷ k.between = k.goes_on.1 in
    (ap length same ∙ ap suc on.0, ap (list_all test) same ∙ and_both _ _ j.begins.1 on.1)

pub record IsPlace (it : Location) : Type 0 where
  pub server : short_names.whole it.server ≡ true
  pub partition : short_names.whole it.partition ≡ true

pub short_whole : (s : List ℕ) → list_all is_short_name_byte s ≡ true → 0 < length s → length s ≤ 64 → short_names.whole s ≡ true
short_whole [] h some room = absurd (omega arith)
short_whole (c ∷ s) h some room = and_both _ _ (and_both _ _ h (le-leb _ _ room)) refl

pub short_parts : (s : List ℕ) → short_names.whole s ≡ true → (list_all is_short_name_byte s ≡ true) × (1 ≤ length s) × (length s ≤ 64)
short_parts [] h = absurd (false≢true h)
short_parts (c ∷ s) h =
    let begins = and_left _ _ h in
    (and_left _ _ begins, omega arith, leb-true _ _ (and_right (list_all is_short_name_byte (c ∷ s)) _ begins))

-- what is read as a location of so many bytes is one
pub only_located : (n : ℕ) → 3 ≤ n → n ≤ 129 → (bytes : List ℕ) (it : Location) → (location_of n).lang bytes it → IsPlace it
only_located n least most bytes it k =
    let l = k.goes_on.goes_on in
    let whole = k.begins.1 in
    let server_most : length k.between ≤ min SHORT_NAME_LIMIT (n - 2) = leb-true _ _ (and_right (list_all is_short_name_byte k.between) _ (and_left _ _ whole)) in
    let server_least : max 1 (n - 1 - SHORT_NAME_LIMIT) ≤ length k.between =
    leb-true _ _ (and_right (list_all is_short_name_byte k.between && nat_le (length k.between) (min SHORT_NAME_LIMIT (n - 2))) _ whole) in
    let partition = exactly_length is_short_name_byte (n - 1 - length k.between) l.front l.between l.begins in
    subst IsPlace (sym l.goes_on.1) (record {
      server = short_whole k.between (and_left _ _ (and_left _ _ whole)) (omega arith) (omega arith);
      partition = short_whole l.between partition.1 (omega (arith, partition.0)) (omega (arith, partition.0));
    })

-- so many bytes are their own value
pub exactly_same : (test : ℕ → Bool) (n : ℕ) (s v : List ℕ) → (exactly test n).lang s v → s ≡ v
unfolding exactly
exactly_same test zero s v l = l.0 ∙ sym l.1
exactly_same test (suc n) s v j =
    let k = j.goes_on in
    let tail : k.front ≡ k.between = exactly_same test n k.front k.between k.begins in
    j.parts ∙ ap (λ (x : List ℕ). x ++ j.back) j.begins.0
    ∙ ap (λ (x : List ℕ). j.between ∷ x) (k.parts ∙ ap (λ (x : List ℕ). k.front ++ x) k.goes_on.0 ∙ append-nil k.front ∙ tail) ∙ sym k.goes_on.1

-- a location of so many bytes is spelled by its text alone, which has so many
pub one_located : (n : ℕ) → 3 ≤ n → n ≤ 129 → (bytes : List ℕ) (it : Location) → (location_of n).lang bytes it → (bytes ≡ location_text it) × (length bytes ≡ n)
one_located n least most bytes it j =
    let bang = j.goes_on in
    let last = bang.goes_on in
    let whole = j.begins.1 in
    let server_most : length j.between ≤ min SHORT_NAME_LIMIT (n - 2) = leb-true _ _ (and_right (list_all is_short_name_byte j.between) _ (and_left _ _ whole)) in
    let partition = exactly_length is_short_name_byte (n - 1 - length j.between) last.front last.between last.begins in
    let behind : bang.back ≡ last.between = last.parts ∙ ap (λ (x : List ℕ). last.front ++ x) last.goes_on.0 ∙ append-nil last.front
    ∙ exactly_same is_short_name_byte (n - 1 - length j.between) last.front last.between last.begins in
    let back : j.back ≡ 33 ∷ last.between = bang.parts ∙ ap (λ (x : List ℕ). x ++ bang.back) (bang.begins.0 ∙ ap (λ (c : ℕ). c ∷ []) (eqb-true bang.between 33 bang.begins.1))
    ∙ ap (λ (x : List ℕ). 33 ∷ x) behind in
    let text : bytes ≡ j.between ++ (33 ∷ last.between) = j.parts ∙ ap (λ (x : List ℕ). x ++ j.back) j.begins.0 ∙ ap (λ (x : List ℕ). j.between ++ x) back in (
      subst (λ (v : Location). bytes ≡ location_text v) (sym last.goes_on.1) text,
      omega (arith, ap length text, length-append j.between (33 ∷ last.between), partition.0),
    )

-- a location is one of as many bytes as its text has
pub spell_located : (it : Location) → IsPlace it → (location_of (length (location_text it))).lang (location_text it) it
spell_located it p =
    let n : ℕ = length (location_text it) in
    let size : n ≡ length it.server + (1 + length it.partition) = omega (arith, length-append it.server (33 ∷ it.partition)) in
    let server = short_parts it.server p.server in
    let partition = short_parts it.partition p.partition in
    let left : n - 1 - length it.server ≡ length it.partition = omega (arith, size) in
    let rest : List ℕ → Part Location = λ server. byte 33 then λ _. map (located server) (exactly is_short_name_byte (n - 1 - length server)) in
    let whole : (servers_of n).whole it.server ≡ true =
    and_both _ _ (and_both _ _ server.0 (le-leb _ _ (omega (arith, size, server.2, partition.1)))) (le-leb _ _ (omega (arith, size, server.1, partition.2))) in
    spell_then (word (servers_of n)) rest it.server (33 ∷ it.partition) it.server it (refl, whole)
    (spell_byte 33 (map (located it.server) (exactly is_short_name_byte (n - 1 - length it.server))) it.partition it
    (spell_map (located it.server) (exactly is_short_name_byte (n - 1 - length it.server)) it.partition it.partition
    (subst (λ (k : ℕ). (exactly is_short_name_byte k).lang it.partition it.partition) (sym left) (spell_exactly is_short_name_byte it.partition partition.0))))

-- how many bytes the text of a location has
pub located_length : (it : Location) → IsPlace it → (3 ≤ length (location_text it)) × (length (location_text it) ≤ 129)
located_length it p =
    let size : length (location_text it) ≡ length it.server + (1 + length it.partition) = omega (arith, length-append it.server (33 ∷ it.partition)) in
    let server = short_parts it.server p.server in
    let partition = short_parts it.partition p.partition in
    (omega (arith, size, server.1, partition.1), omega (arith, size, server.2, partition.2))
