-- The text of a name is one word: no space stands in it.
use Rattle.std.proofs.Common.{◌≡◌, ◌≢◌, ℕ, ◌/◌, ◌%◌, Bool, true, false, nat_eq, List, [], ◌∷◌, refl, arith}
use Rattle.std.specs.Prelude.{All}
use Rattle.std.proofs.lemmas.Bool.{eqb-false}
use Rattle.std.proofs.lemmas.Bool.Decides.{nat_tests}
use Rattle.std.proofs.lemmas.List.Elements.{All-nil, All-cons, All-append}
use Rattle.schedule_text.specs.Text.{name_text_of, spelling_of, name_spelling_of, is_printed, hex_digit}

abbrev NoSpace : ℕ → Type 0
NoSpace c = c ≢ 32

one : (c : ℕ) → NoSpace c → All NoSpace (c ∷ [])
one c is = All-cons NoSpace c [] is (All-nil NoSpace)

two : (c d : ℕ) → NoSpace c → NoSpace d → All NoSpace (c ∷ d ∷ [])
two c d first second = All-cons NoSpace c (d ∷ []) first (one d second)

digit_is : (d : ℕ) → NoSpace (hex_digit d)
unfolding hex_digit
digit_is d = λ e. grind (arith, nat_tests)

escape_is : NoSpace 92
escape_is = λ e. absurd (omega (arith, e))

spelling_by : (b : ℕ) → nat_eq b 32 ≡ false → (escape printed return feed : Bool) → nat_eq b 92 ≡ escape → is_printed b ≡ printed
    → nat_eq b 13 ≡ return → nat_eq b 10 ≡ feed → All NoSpace (spelling_of b)
unfolding spelling_of
spelling_by b other true printed return feed e p r f = rw e (two 92 92 escape_is escape_is)
spelling_by b other false true return feed e p r f = rw (e, p) (one b (eqb-false b 32 other))
spelling_by b other false false true feed e p r f = rw (e, p, r) (two 92 114 escape_is (λ e. absurd (omega (arith, e))))
spelling_by b other false false false true e p r f = rw (e, p, r, f) (two 92 110 escape_is (λ e. absurd (omega (arith, e))))
spelling_by b other false false false false e p r f =
    rw (e, p, r, f) (All-append NoSpace (92 ∷ 120 ∷ []) (hex_digit (b / 16) ∷ hex_digit (b % 16) ∷ [])
    (two 92 120 escape_is (λ e. absurd (omega (arith, e)))) (two (hex_digit (b / 16)) (hex_digit (b % 16)) (digit_is (b / 16)) (digit_is (b % 16))))

name_spelling_by : (b : ℕ) (space : Bool) → nat_eq b 32 ≡ space → All NoSpace (name_spelling_of b)
unfolding name_spelling_of
name_spelling_by b true e =
    rw e (All-append NoSpace (92 ∷ 120 ∷ []) (50 ∷ 48 ∷ []) (two 92 120 escape_is (λ e. absurd (omega (arith, e))))
    (two 50 48 (λ e. absurd (omega (arith, e))) (λ e. absurd (omega (arith, e)))))
name_spelling_by b false e = rw e (spelling_by b e (nat_eq b 92) (is_printed b) (nat_eq b 13) (nat_eq b 10) refl refl refl refl)

pub one_word : (name : List ℕ) → All NoSpace (name_text_of name)
unfolding name_text_of
one_word [] = All-nil NoSpace
one_word (b ∷ name) =
    All-append NoSpace (name_spelling_of b) (name_text_of name) (name_spelling_by b (nat_eq b 32) refl) (one_word name)
