-- Marking the places of a text one by one.
use Rattle.std.proofs.Common.{◌≡◌, ℕ, ◌+◌, ◌<◌, ◌≤◌, Bool, true, false, ◌||◌, ◌&&◌, nat_eq, List, [], length, drop, get_or, set}
use Rattle.std.proofs.Common.{refl, sym, ◌∙◌, arith, add-one, drop-cons}
use Rattle.std.proofs.lemmas.List.{get_or-set_other, drop_all, length-drop}
use Rattle.std.proofs.lemmas.Bool.Decides.{nat_tests}
use Rattle.std.proofs.lemmas.Grind.{get_or-set_at, common_steps}
use Rattle.mur_base.specs.Patterns.{matches, covers, behind_some, behind_one, behind_byte, AreMarked}

-- below a place the marks say where one test holds, from it on where another does
pub record AreMarkedAround (low high : List ℕ → Bool) (text : List ℕ) (marks : List Bool) (i : ℕ) : Type 0 where
  below : (k : ℕ) → k < i → get_or marks k false ≡ low (drop k text)
  above : (k : ℕ) → i ≤ k → k ≤ length text → get_or marks k false ≡ high (drop k text)

marked_down : (low high : List ℕ → Bool) (text : List ℕ) (marks : List Bool) (i j : ℕ) (mark : Bool) → i < length marks → j ≡ i + 1
    → mark ≡ high (drop i text) → AreMarkedAround low high text marks j → AreMarkedAround low high text (set marks i mark) i
marked_down low high text marks i j mark h e is around = record {
  below = λ k less. get_or-set_other marks i k mark false (omega arith) ∙ around.below k (omega arith);
  above = λ k from to. grind (arith, common_steps, get_or-set_at, get_or-set_other marks i k mark false, around.above k);
}

marked_stays : (low high : List ℕ → Bool) (text : List ℕ) (marks : List Bool) (i j : ℕ) → j ≡ i + 1
    → get_or marks i false ≡ high (drop i text) → AreMarkedAround low high text marks j → AreMarkedAround low high text marks i
marked_stays low high text marks i j e is around = record {
  below = λ k less. around.below k (omega arith);
  above = λ k from to. grind (arith, is, around.above k);
}

marked_up : (low high : List ℕ → Bool) (text : List ℕ) (marks : List Bool) (i j : ℕ) (mark : Bool) → i < length marks → j ≡ i + 1
    → mark ≡ low (drop i text) → AreMarkedAround low high text marks i → AreMarkedAround low high text (set marks i mark) j
marked_up low high text marks i j mark h e is around = record {
  below = λ k less. grind (arith, common_steps, get_or-set_at, get_or-set_other marks i k mark false, around.below k);
  above = λ k from to. get_or-set_other marks i k mark false (omega arith) ∙ around.above k (omega arith) to;
}

behind_some_at : (wildcard : ℕ) (test : List ℕ → Bool) (text : List ℕ) (i : ℕ) → i < length text
    → behind_some wildcard test (drop i text) ≡ test (drop i text) || (covers wildcard (get_or text i 0) && behind_some wildcard test (drop (i + 1) text))
unfolding behind_some
behind_some_at wildcard test text i h = rw (add-one, drop-cons text i 0) refl

behind_one_at : (byte : ℕ) (test : List ℕ → Bool) (text : List ℕ) (i : ℕ) → i < length text
    → behind_one byte test (drop i text) ≡ nat_eq (get_or text i 0) byte && test (drop (i + 1) text)
unfolding behind_one
behind_one_at byte test text i h = rw (add-one, drop-cons text i 0) refl

matches_at : (pattern text : List ℕ) (i : ℕ) → i < length pattern
    → matches (drop i pattern) text ≡ behind_byte (get_or pattern i 0) (matches (drop (i + 1) pattern)) text
unfolding matches
matches_at pattern text i h = rw (add-one, drop-cons pattern i 0) refl

-- the end alone matches the empty pattern
pub end_matches : (text : List ℕ) (marks : List Bool) → ((k : ℕ) → k < length text → get_or marks k false ≡ false) → get_or marks (length text) false ≡ true
    → AreMarked (matches []) text marks
unfolding matches
end_matches text marks none one = λ i to. let left = length-drop i text in grind (arith, nat_tests, none i, one, left)

-- a byte of the pattern more
pub byte_more : (pattern text : List ℕ) (marks : List Bool) (i j : ℕ) → i < length pattern → j ≡ i + 1
    → AreMarked (behind_byte (get_or pattern i 0) (matches (drop j pattern))) text marks → AreMarked (matches (drop i pattern)) text marks
byte_more pattern text marks i j h e are = λ k to. rw (matches_at pattern (drop k text) i h, ← e) (are k to)

-- at the end, where a wildcard stands for nothing
pub some_end : (wildcard : ℕ) (test : List ℕ → Bool) (text : List ℕ) (marks : List Bool) → AreMarked test text marks
    → AreMarkedAround test (behind_some wildcard test) text marks (length text)
unfolding behind_some
some_end wildcard test text marks are = record {
  below = λ k less. are k (omega arith);
  above = λ k from to. let at_end = drop_all k text from in are k to ∙ rw at_end refl;
}

pub some_reached : (wildcard : ℕ) (test : List ℕ → Bool) (text : List ℕ) (marks : List Bool) (i j : ℕ) → i < length marks → i < length text → j ≡ i + 1
    → covers wildcard (get_or text i 0) ≡ true → get_or marks (i + 1) false ≡ true
    → AreMarkedAround test (behind_some wildcard test) text marks j → AreMarkedAround test (behind_some wildcard test) text (set marks i true) i
some_reached wildcard test text marks i j fits h e covered marked around =
    let next = around.above (i + 1) (omega arith) (omega arith) in let at_i = behind_some_at wildcard test text i h in
    marked_down _ _ text marks i j true fits e (grind (arith, common_steps)) around

pub some_unreached : (wildcard : ℕ) (test : List ℕ → Bool) (text : List ℕ) (marks : List Bool) (i j : ℕ) → i < length text → j ≡ i + 1
    → covers wildcard (get_or text i 0) && get_or marks (i + 1) false ≡ false
    → AreMarkedAround test (behind_some wildcard test) text marks j → AreMarkedAround test (behind_some wildcard test) text marks i
some_unreached wildcard test text marks i j h e none around =
    let next = around.above (i + 1) (omega arith) (omega arith) in let here = around.below i (omega arith) in
    let at_i = behind_some_at wildcard test text i h in
    marked_stays _ _ text marks i j e (grind (arith, common_steps)) around

pub some_begin : (wildcard : ℕ) (test : List ℕ → Bool) (text : List ℕ) (marks : List Bool) (i : ℕ) → i ≡ 0
    → AreMarkedAround test (behind_some wildcard test) text marks i → AreMarked (behind_some wildcard test) text marks
some_begin wildcard test text marks i e around = λ k to. around.above k (omega arith) to

pub one_begin : (byte : ℕ) (test : List ℕ → Bool) (text : List ℕ) (marks : List Bool) → AreMarked test text marks
    → AreMarkedAround (behind_one byte test) test text marks 0
one_begin byte test text marks are = record {
  below = λ k less. absurd (omega arith);
  above = λ k from to. are k to;
}

pub one_more : (byte : ℕ) (test : List ℕ → Bool) (text : List ℕ) (marks : List Bool) (i : ℕ) (mark : Bool) → i < length marks → i < length text
    → mark ≡ nat_eq (get_or text i 0) byte && get_or marks (i + 1) false
    → AreMarkedAround (behind_one byte test) test text marks i → AreMarkedAround (behind_one byte test) test text (set marks i mark) (i + 1)
one_more byte test text marks i mark fits h is around =
    let next = around.above (i + 1) (omega arith) (omega arith) in let at_i = behind_one_at byte test text i h in
    marked_up _ _ text marks i (i + 1) mark fits refl (is ∙ rw next (sym at_i)) around

pub one_end : (byte : ℕ) (test : List ℕ → Bool) (text : List ℕ) (marks : List Bool) (i : ℕ) → length text < length marks → length text ≤ i
    → i ≤ length text → AreMarkedAround (behind_one byte test) test text marks i → AreMarked (behind_one byte test) text (set marks (length text) false)
unfolding behind_one
one_end byte test text marks i fits from upto around = λ k to.
    let at_end = drop_all k text in let below = around.below k in
    grind (arith, common_steps, get_or-set_at, get_or-set_other marks (length text) k false false, below, at_end)
