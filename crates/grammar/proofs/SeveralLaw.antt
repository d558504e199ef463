-- One or more of a form, a byte between any two: the law of the list.
use Rattle.std.proofs.Common.{◌≡◌, ℕ, zero, suc, List, [], ◌∷◌, ◌++◌, length, Bool, true, false, ◌==◌, inl, inr, refl, sym, ap, subst}
use Rattle.std.proofs.Common.{append-nil, append_assoc}
use Rattle.std.specs.Prelude.{⊤}
use Rattle.grammar.specs.Part.{Part, map, byte, turns, repeat}
use Rattle.grammar.specs.Exact.{Good, Begins, StartsWith}
use Rattle.grammar.specs.Forms.{Form, Law, several, next_value, more_text, list_text}
use Rattle.grammar.proofs.SequenceLaw.{good_map, good_then}
use Rattle.grammar.proofs.RepetitionLaw.{good_repeat, begins_repeat}
use Rattle.grammar.proofs.StartLaw.{starts_then, starts_byte}
use Rattle.grammar.proofs.ToolLaws.{good_behind, begins_then}
use Rattle.grammar.proofs.Spelling.{spell_then, spell_map, spell_byte}
use Rattle.grammar.proofs.FormLaw.{begins_map, Within, one_byte}

module _ {A : Type 0} (c : ℕ) (p : Form A) where
  -- each value is spelled as it is printed
  abbrev pub Each : List A → Type 0
  Each [] = ⊤
  Each (a ∷ list) = p.part.lang (p.text a) a × Each list

  each_push : (list : List A) (a : A) → Each list → p.part.lang (p.text a) a → Each (list ++ a ∷ [])
  each_push [] a e l = (l, tt)
  each_push (b ∷ list) a e l = (e.0, each_push list a e.1 l)

  abbrev turn : List A → Part (List A)
  turn = next_value c p.part

  abbrev is_it : ℕ → Bool
  is_it b = b == c

  -- the values that turns put behind those so far
  spell_turns : (list so_far : List A) → Each list → (turns is_it turn (length list) so_far).lang (more_text c p.text list) (so_far ++ list)
  unfolding turns
  spell_turns [] so_far e = (refl, append-nil so_far)
  spell_turns (a ∷ list) so_far e =
      inl (record {
        front = c ∷ p.text a;
        back = more_text c p.text list;
        between = so_far ++ a ∷ [];
        parts = refl;
        begins = spell_byte c (map (λ a. so_far ++ a ∷ []) p.part) (p.text a) (so_far ++ a ∷ []) (spell_map (λ a. so_far ++ a ∷ []) p.part (p.text a) a e.0);
        goes_on = subst (λ last. (turns is_it turn (length list) (so_far ++ a ∷ [])).lang (more_text c p.text list) last)
            (append_assoc so_far (a ∷ []) list) (spell_turns list (so_far ++ a ∷ []) e.1);
      })

  pub spell_list : (a : A) (list : List A) → Each (a ∷ list) → (several c p).part.lang (list_text c p.text (a ∷ list)) (a ∷ list)
  unfolding repeat
  spell_list a list e =
      spell_then (map (λ a. a ∷ []) p.part) (repeat is_it turn) (p.text a) (more_text c p.text list) (a ∷ []) (a ∷ list)
      (spell_map (λ a. a ∷ []) p.part (p.text a) a e.0) (length list, spell_turns list (a ∷ []) e.1)

  -- at least one value, each of them spelled as it is printed
  record IsListed (list : List A) : Type 0 where
    first : A
    rest : List A
    is : list ≡ first ∷ rest
    each : Each list

  listed_push : (list : List A) (a : A) → IsListed list → p.part.lang (p.text a) a → IsListed (list ++ a ∷ [])
  listed_push list a s l = record {
    first = s.first;
    rest = s.rest ++ a ∷ [];
    is = ap (λ list. list ++ a ∷ []) s.is;
    each = each_push list a s.each l;
  }

  module _ (prints : (bytes : List ℕ) (a : A) → p.part.lang bytes a → p.part.lang (p.text a) a) where
    only_turns : (n : ℕ) (so_far last : List A) (bytes : List ℕ) → IsListed so_far → (turns is_it turn n so_far).lang bytes last → IsListed last
    unfolding turns
    only_turns zero so_far last bytes s l = subst IsListed (sym l.1) s
    only_turns (suc n) so_far last bytes s (inl j) =
        let one = j.begins.goes_on in
        let next : IsListed j.between =
        subst IsListed (sym one.goes_on.1) (listed_push so_far one.between s (prints one.front one.between one.begins)) in
        only_turns n j.between last j.back next j.goes_on
    only_turns (suc n) so_far last bytes s (inr l) = subst IsListed (sym l.1) s

    only_list : (bytes : List ℕ) (list : List A) → (several c p).part.lang bytes list → IsListed list
    unfolding repeat
    only_list bytes list j =
        let one = j.begins in
        let first : IsListed j.between =
        subst IsListed (sym one.goes_on.1)
        (record { first = one.between; rest = []; is = refl; each = (prints one.front one.between one.begins, tt) }) in
        only_turns j.goes_on.0 j.between list j.back first j.goes_on.1

    prints_list : (bytes : List ℕ) (list : List A) → (several c p).part.lang bytes list → (several c p).part.lang (list_text c p.text list) list
    prints_list bytes list l =
        let s = only_list bytes list l in
        subst (λ list. (several c p).part.lang (list_text c p.text list) list) (sym s.is) (spell_list s.first s.rest (subst Each s.is s.each))

module _ {A : Type 0} {starts between : ℕ → Bool} (after : ℕ → Bool) (c : ℕ) (p : Form A) (g : Law starts between p) (more : between c ≡ true)
    (apart : (d : ℕ) → after d ≡ true → (d == c) ≡ false) (ends : Within after between) where
  starts_more : (so_far : List A) → StartsWith (λ b. b == c) (next_value c p.part so_far)
  starts_more so_far = starts_then (byte c) (λ _. map (λ a. so_far ++ a ∷ []) p.part) (starts_byte c)

  good_more : (V : Type 0) (so_far : List A) → Good V between (next_value c p.part so_far)
  good_more V so_far = good_behind c (map (λ a. so_far ++ a ∷ []) p.part) (good_map (λ a. so_far ++ a ∷ []) p.part (g.good V))

  begins_more : (so_far : List A) → Begins between after (repeat (λ b. b == c) (next_value c p.part) so_far)
  begins_more so_far =
      begins_repeat {V = ℕ} (λ b. b == c) after between (next_value c p.part) (good_more ℕ) starts_more apart (one_byte c between more) ends so_far

  pub law_several : Law starts after (several c p)
  law_several = record {
    good = λ V. good_then (map (λ a. a ∷ []) p.part) (repeat (λ b. b == c) (next_value c p.part)) (good_map (λ a. a ∷ []) p.part (g.good V))
        (good_repeat (λ b. b == c) after between (next_value c p.part) (good_more V) starts_more apart (one_byte c between more) ends) begins_more;
    begins = begins_then (map (λ a. a ∷ []) p.part) (repeat (λ b. b == c) (next_value c p.part)) (begins_map (λ a. a ∷ []) p.part g.begins) begins_more;
    prints = prints_list c p g.prints;
  }
