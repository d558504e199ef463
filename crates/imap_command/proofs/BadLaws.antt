-- What a stop and a first word say of a frame.
use Rattle.std.proofs.Common.{◌≡◌, ℕ, zero, suc, ◌-◌, ◌<◌, ◌≤◌, List, [], ◌∷◌, ◌++◌, length, take, Result, Ok, Err, Option, true, false, refl, sym, ap, ◌∙◌}
use Rattle.std.proofs.Common.{subst, append_assoc, length-append, arith, eqb-true}
use Rattle.grammar.specs.Part.{starts}
use Rattle.grammar.specs.Words.{scan}
use Rattle.grammar.specs.Exact.{Stops}
use Rattle.grammar.proofs.Reading.{ok_parts}
use Rattle.grammar.proofs.WordLaw.{good_word, word_reads}
use Rattle.imap_types.specs.declared.command.Tag.{Tag}
use Rattle.imap_types.specs.declared.command.Command.{Command}
use Rattle.imap_command.specs.Spells.{Spells, tags}
use Rattle.imap_command.specs.Bad.{IsLongest, IsFirstTag, IsBad}
use Rattle.imap_command.specs.declared.fault.Bad.{Bad}
use Rattle.imap_command.specs.declared.fault.ReadFault.{ReadFault}
use Rattle.imap_command.specs.declared.fault.ReadFault.TheVariants as fault
use Rattle.imap_command.proofs.SpellsLaw.{is_space, lawful_tags, apart_tags}

-- so many bytes of two texts one after the other
take_front : (front rest : List ℕ) → take (length front) (front ++ rest) ≡ front
take_front [] rest = refl
take_front (c ∷ front) rest = ap (λ s. c ∷ s) (take_front front rest)

-- and more of them
take_more : (front : List ℕ) (c : ℕ) (tail : List ℕ) (n : ℕ) → length front < n → (more : List ℕ) × (take n (front ++ (c ∷ tail)) ≡ front ++ (c ∷ more))
take_more [] c tail zero h = absurd (omega arith)
take_more [] c tail (suc n) h = (take n tail, refl)
take_more (d ∷ front) c tail zero h = absurd (omega arith)
take_more (d ∷ front) c tail (suc n) h = let m = take_more front c tail n (omega arith) in (m.0, ap (λ s. d ∷ s) m.1)

pub left_within : (frame : List ℕ) (left : ℕ) → Stops Spells frame left → left ≤ length frame
left_within frame left s = omega (arith, length-append s.front s.rest, ap length s.parts, s.left_is)

-- a stop tells the longest prefix
pub longest_from_stop : (frame : List ℕ) (left : ℕ) → Stops Spells frame left → IsLongest frame (length frame - left)
longest_from_stop frame left s = record {
  within = omega arith;
  more = s.more;
  command = s.value;
  begins = subst (λ t. Spells (t ++ s.more) s.value) (sym front_is) s.begins;
  longest = λ n more command h k l. by_rest s.rest refl n more command h k l;
}
  where
    at_front : length frame - left ≡ length s.front
    at_front = omega (arith, length-append s.front s.rest, ap length s.parts, s.left_is)

    front_is : take (length frame - left) frame ≡ s.front
    front_is = ap (λ n. take n frame) at_front ∙ ap (take (length s.front)) s.parts ∙ take_front s.front s.rest

    by_rest : (rest : List ℕ) → s.rest ≡ rest → (n : ℕ) (more : List ℕ) (command : Tag × Command) → length frame - left < n → n ≤ length frame
        → ¬ Spells (take n frame ++ more) command
    by_rest [] e n more command h k l = absurd (omega (arith, length-append s.front s.rest, ap length s.parts, s.left_is, ap length e))
    by_rest (c ∷ tail) e n more command h k l =
        let longer = take_more s.front c tail n (omega (arith, at_front)) in
        let same : take n frame ≡ s.front ++ (c ∷ longer.0) = ap (take n) (s.parts ∙ ap (λ t. s.front ++ t) e) ∙ longer.1 in
        s.ends c tail (longer.0 ++ more) command e
        (subst (λ t. Spells t command) (ap (λ t. t ++ more) same ∙ append_assoc s.front (c ∷ longer.0) more) l)

-- the first word, where it is a tag with a space behind it
pub tag_found : (frame text rest : List ℕ) → scan tags [] frame ≡ Ok (text, rest) → starts is_space rest ≡ true →
    (tail : List ℕ) × (frame ≡ text ++ 32 ∷ tail) × (tags.whole text ≡ true)
tag_found frame text [] e h = cc
tag_found frame text (c ∷ tail) e h =
    let s = (good_word {V = ℕ} tags lawful_tags is_space apart_tags).sound frame (c ∷ tail) text e in
    (tail, s.1 ∙ ap (λ x. x ++ c ∷ tail) s.2.0 ∙ ap (λ d. text ++ d ∷ tail) (eqb-true c 32 h), s.2.1)

-- a tag with a space behind it is read so
pub tag_reads : (frame text rest : List ℕ) → frame ≡ text ++ 32 ∷ rest → tags.whole text ≡ true → scan tags [] frame ≡ Ok (text, 32 ∷ rest)
tag_reads frame text rest e whole = ap (scan tags []) e ∙ word_reads tags lawful_tags text rest 32 whole (apart_tags text whole 32 refl)

-- no first word is a tag where the reading stops
pub tag_stopped : (frame : List ℕ) (left : ℕ) → scan tags [] frame ≡ Err left → (text rest : List ℕ) → frame ≡ text ++ 32 ∷ rest → ¬ (tags.whole text ≡ true)
tag_stopped frame left e text rest same whole = no_stop left (text, 32 ∷ rest) (sym e ∙ tag_reads frame text rest same whole)
  where
    no_stop : (left : ℕ) (x : List ℕ × List ℕ) → (let r : Result (List ℕ × List ℕ) ℕ = Err left in r ≡ Ok x) → ⊥
    no_stop left x e = cc

-- nor where no space stands behind the word
pub tag_unspaced : (frame word behind : List ℕ) → scan tags [] frame ≡ Ok (word, behind) → starts is_space behind ≡ false →
    (text rest : List ℕ) → frame ≡ text ++ 32 ∷ rest → ¬ (tags.whole text ≡ true)
tag_unspaced frame word behind e h text rest same whole =
    let parts = ok_parts (sym e ∙ tag_reads frame text rest same whole) in
    let both : false ≡ true = sym h ∙ ap (starts is_space) parts.1 in cc

-- what is told is the prefix and the word
pub bad_from : (frame : List ℕ) (tag : Option Tag) (at : ℕ) (bad : Bad) → IsLongest frame at → IsFirstTag frame tag →
    (let told : Result (Tag × Command) ReadFault = Err (fault.Bad (record { tag = tag; at = at })) in told ≡ Err (fault.Bad bad)) → IsBad frame bad
bad_from frame tag at bad longest tagged e =
    let told : fault.Bad (record { tag = tag; at = at }) ≡ fault.Bad bad = cc in
    let same : record { tag = tag; at = at } ≡ bad = cc in
    subst (λ b. IsBad frame b) same (record { longest = longest; tagged = tagged })
