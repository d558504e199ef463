-- A text is cut into lines in one way.
use Rattle.std.proofs.Common.{◌≡◌, ℕ, ◌<◌, ◌^◌, ◌==◌, Bool, true, false, ◌&&◌, not, List}
use Rattle.std.proofs.Common.{[], ◌∷◌, ◌++◌, length, codes, decimal, refl, sym, ◌∙◌, ap, subst, append_assoc, arith}
use Rattle.std.specs.Prelude.{All}
use Rattle.std.specs.List.{list_all, concat}
use Rattle.std.proofs.lemmas.Bool.{and_parts}
use Rattle.std.proofs.lemmas.Bool.Decides.{nat_tests}
use Rattle.std.proofs.lemmas.Fmt.{decimal_injective, decimal_nonempty}
use Rattle.std.proofs.lemmas.List.{append_cancel_right}
use Rattle.std.proofs.lemmas.List.Folds.{list_all-append}
use Rattle.std.proofs.lemmas.List.Elements.{All-head, All-tail}
use Rattle.mur_base.specs.Ascii.{crlf}
use Rattle.mur_base.specs.Number.{is_digit}
use Rattle.mail_message.specs.Literals.{IsPlain, is_within, server_literal}
use Rattle.imap_reply.specs.Lines.{IsLine, after_byte, after_text, is_announced, announces}
use Rattle.imap_reply.specs.Lines.Announcing.{nothing, opened, sized}
use Rattle.imap_reply.specs.Lines.IsLine.{ends, goes_on}
use Rattle.imap_reply.proofs.LineLaws.{after_append}
use Rattle.mail_message.proofs.PlainTexts.{decimal_plain, all_append, all_weaker, decimal_digits}

-- the first CRLF

no_cr : (c : ℕ) (more : Bool) → 13 ≡ c → (is_within c && more) ≡ true → ⊥
no_cr c more e h =
    let P : ℕ → Type 0 = λ n. (is_within n && more) ≡ true in
    let at_cr : false ≡ true = subst P (sym e) h in
    cc

first_break : (s t x y : List ℕ) → IsPlain s → IsPlain t → s ++ (13 ∷ 10 ∷ x) ≡ t ++ (13 ∷ 10 ∷ y) → (s ≡ t) × (x ≡ y)
first_break [] [] x y one other e = (refl, cc)
first_break [] (c ∷ t) x y one other e = let is : 13 ≡ c = cc in absurd (no_cr c (list_all is_within t) is other)
first_break (c ∷ s) [] x y one other e = let is : 13 ≡ c = cc in absurd (no_cr c (list_all is_within s) is one)
first_break (c ∷ s) (d ∷ t) x y one other e =
    let left = and_parts (is_within c) (list_all is_within s) one in
    let right = and_parts (is_within d) (list_all is_within t) other in
    let same : c ≡ d = cc in
    let more : s ++ (13 ∷ 10 ∷ x) ≡ t ++ (13 ∷ 10 ∷ y) = cc in
    let both = first_break s t x y left.1 right.1 more in
    let heads : s ≡ t = both.0 in
    (cc, both.1)

-- the digits of a literal that is announced

abbrev is_no_brace : ℕ → Bool
is_no_brace c = not (c == 123)

digit_no_brace : (c : ℕ) → is_digit c ≡ true → is_no_brace c ≡ true
unfolding is_digit
digit_no_brace c h = grind (arith, nat_tests, h)

no_brace_in : (front rest : List ℕ) → list_all is_no_brace (front ++ 123 ∷ rest) ≡ true → ⊥
no_brace_in front rest h =
    let whole : (list_all is_no_brace front && false) ≡ true = sym (list_all-append is_no_brace front (123 ∷ rest)) ∙ h in
    let last : false ≡ true = (and_parts (list_all is_no_brace front) false whole).1 in
    cc

no_brace : (digits : List ℕ) → list_all is_digit digits ≡ true → list_all is_no_brace (digits ++ 125 ∷ []) ≡ true
no_brace digits all = all_append is_no_brace digits (125 ∷ []) (all_weaker is_digit is_no_brace digit_no_brace digits all) refl

same_digits : (s t one other : List ℕ) → list_all is_digit one ≡ true → list_all is_digit other ≡ true
    → s ++ (123 ∷ (one ++ 125 ∷ [])) ≡ t ++ (123 ∷ (other ++ 125 ∷ [])) → (s ≡ t) × (one ≡ other)
same_digits [] [] one other digits others e =
    let more : one ++ 125 ∷ [] ≡ other ++ 125 ∷ [] = cc in (refl, append_cancel_right one other (125 ∷ []) more)
same_digits [] (c ∷ t) one other digits others e =
    let more : one ++ 125 ∷ [] ≡ t ++ (123 ∷ (other ++ 125 ∷ [])) = cc in
    let P : List ℕ → Type 0 = λ text. list_all is_no_brace text ≡ true in
    absurd (no_brace_in t (other ++ 125 ∷ []) (subst P more (no_brace one digits)))
same_digits (c ∷ s) [] one other digits others e =
    let more : other ++ 125 ∷ [] ≡ s ++ (123 ∷ (one ++ 125 ∷ [])) = cc in
    let P : List ℕ → Type 0 = λ text. list_all is_no_brace text ≡ true in
    absurd (no_brace_in s (one ++ 125 ∷ []) (subst P more (no_brace other others)))
same_digits (c ∷ s) (d ∷ t) one other digits others e =
    let same : c ≡ d = cc in
    let more : s ++ (123 ∷ (one ++ 125 ∷ [])) ≡ t ++ (123 ∷ (other ++ 125 ∷ [])) = cc in
    let both = same_digits s t one other digits others more in
    let heads : s ≡ t = both.0 in
    (cc, both.1)

digit_no_open : (c : ℕ) → is_digit c ≡ true → (c == 123) ≡ false
unfolding is_digit
digit_no_open c h = grind (arith, nat_tests, h)

digit_step : (c : ℕ) → is_digit c ≡ true → (after_byte opened c ≡ sized) × (after_byte sized c ≡ sized)
unfolding after_byte
digit_step c h =
    let brace : (c == 123) ≡ false = digit_no_open c h in
    (rw (brace, h) refl, rw (brace, h) refl)

sized_stays : (digits : List ℕ) → list_all is_digit digits ≡ true → after_text sized digits ≡ sized
unfolding after_text
sized_stays [] all = refl
sized_stays (c ∷ digits) all =
    let both = and_parts (is_digit c) (list_all is_digit digits) all in
    rw (digit_step c both.0).1 (sized_stays digits both.1)

opened_sizes : (digits : List ℕ) → list_all is_digit digits ≡ true → 0 < length digits → after_text opened digits ≡ sized
unfolding after_text
opened_sizes [] all some = absurd (omega arith)
opened_sizes (c ∷ digits) all some =
    let both = and_parts (is_digit c) (list_all is_digit digits) all in
    rw (digit_step c both.0).0 (sized_stays digits both.1)

is_announcement : (front digits : List ℕ) → list_all is_digit digits ≡ true → 0 < length digits
    → announces (front ++ (123 ∷ (digits ++ 125 ∷ []))) ≡ true
unfolding after_text after_byte is_digit
is_announcement front digits all some =
    ap is_announced
    (after_append nothing front (123 ∷ (digits ++ 125 ∷ [])) ∙ after_append opened digits (125 ∷ [])
    ∙ ap (λ state. after_text state (125 ∷ [])) (opened_sizes digits all some))

-- lines

same_length : (one other x y : List ℕ) → length one ≡ length other → one ++ x ≡ other ++ y → (one ≡ other) × (x ≡ y)
same_length [] [] x y len e = (refl, e)
same_length [] (c ∷ other) x y len e = absurd (omega arith)
same_length (c ∷ one) [] x y len e = absurd (omega arith)
same_length (c ∷ one) (d ∷ other) x y len e =
    let same : c ≡ d = cc in
    let more : one ++ x ≡ other ++ y = cc in
    let shorter : length one ≡ length other = omega arith in
    let both = same_length one other x y shorter more in
    let heads : one ≡ other = both.0 in
    (cc, both.1)

abbrev announcement : List ℕ → List ℕ → List ℕ
announcement text octets = text ++ (123 ∷ (decimal (length octets) ++ 125 ∷ []))

announcement_plain : (text octets : List ℕ) → IsPlain text → IsPlain (announcement text octets)
announcement_plain text octets one =
    all_append is_within text (123 ∷ (decimal (length octets) ++ 125 ∷ [])) one
    (all_append is_within (decimal (length octets)) (125 ∷ [])
    (decimal_plain (length octets)) refl)

regroup : (text digits octets line x : List ℕ)
    → (text ++ ((codes "{" ++ digits ++ codes "}\r\n" ++ octets) ++ line)) ++ x ≡ (text ++ (123 ∷ (digits ++ 125 ∷ []))) ++ (13 ∷ 10 ∷ (octets ++ (line ++ x)))
regroup text digits octets line x = simp append_assoc refl

spread : (text octets line x : List ℕ) → (text ++ (server_literal octets ++ line)) ++ x ≡ announcement text octets ++ (13 ∷ 10 ∷ (octets ++ (line ++ x)))
unfolding server_literal
spread text octets line x = regroup text (decimal (length octets)) octets line x

differs : (s text octets x y : List ℕ) → IsPlain s → announces s ≡ false → IsPlain text → length octets < 2 ^ 64
    → s ++ (13 ∷ 10 ∷ x) ≡ announcement text octets ++ (13 ∷ 10 ∷ y) → ⊥
differs s text octets x y plain silent one counted e =
    let same = (first_break s (announcement text octets) x y plain (announcement_plain text octets one) e).0 in
    let loud : announces (announcement text octets) ≡ true =
    is_announcement text (decimal (length octets)) (decimal_digits (length octets)) (decimal_nonempty (length octets) counted) in
    let P : List ℕ → Type 0 = λ t. announces t ≡ true in
    let both : announces s ≡ true = subst P (sym same) loud in
    cc

pub one_cut : (a b : List ℕ) → IsLine a → IsLine b → (x y : List ℕ) → a ++ x ≡ b ++ y → (a ≡ b) × (x ≡ y)
one_cut _ _ (ends s plain silent) (ends t other quiet) x y e =
    let both = first_break s t x y plain other (sym (append_assoc s crlf x) ∙ e ∙ append_assoc t crlf y) in
    (ap (λ text. text ++ crlf) both.0, both.1)
one_cut _ _ (ends s plain silent) (goes_on t octets line other counted inner) x y e =
    absurd (differs s t octets x (octets ++ (line ++ y)) plain silent other counted (sym (append_assoc s crlf x) ∙ e ∙ spread t octets line y))
one_cut _ _ (goes_on s octets line plain counted inner) (ends t other quiet) x y e =
    absurd (differs t s octets y (octets ++ (line ++ x)) other quiet plain counted (sym (append_assoc t crlf y) ∙ sym e ∙ spread s octets line x))
one_cut _ _ (goes_on s octets line plain counted inner) (goes_on t more rest other limited within) x y e =
    let both = first_break (announcement s octets) (announcement t more) (octets ++ (line ++ x)) (more ++ (rest ++ y))
    (announcement_plain s octets plain) (announcement_plain t more other) (sym (spread s octets line x) ∙ e ∙ spread t more rest y) in
    let heads = same_digits s t (decimal (length octets)) (decimal (length more)) (decimal_digits (length octets)) (decimal_digits (length more)) both.0 in
    let lengths = decimal_injective (length octets) (length more) counted limited heads.1 in
    let parts = same_length octets more (line ++ x) (rest ++ y) lengths both.1 in
    let ends = one_cut line rest inner within x y parts.1 in
    let same_text : s ≡ t = heads.0 in
    let same_octets : octets ≡ more = parts.0 in
    let same_line : line ≡ rest = ends.0 in
    (cc, ends.1)

some_byte : (text rest : List ℕ) (c : ℕ) → text ++ (c ∷ rest) ≡ [] → ⊥
some_byte [] rest c e = cc
some_byte (d ∷ text) rest c e = cc

not_empty : (line x : List ℕ) → IsLine line → line ++ x ≡ [] → ⊥
not_empty _ x (ends text plain silent) e = some_byte text (10 ∷ x) 13 (sym (append_assoc text crlf x) ∙ e)
not_empty _ x (goes_on text octets line plain counted inner) e =
    some_byte (announcement text octets) (10 ∷ (octets ++ (line ++ x))) 13 (sym (spread text octets line x) ∙ e)

pub same_lines : (one other : List (List ℕ)) → All IsLine one → All IsLine other → concat one ≡ concat other → one ≡ other
same_lines [] [] lines others e = refl
same_lines [] (line ∷ other) lines others e = absurd (not_empty line (concat other) (All-head IsLine line other others) (sym e))
same_lines (line ∷ one) [] lines others e = absurd (not_empty line (concat one) (All-head IsLine line one lines) e)
same_lines (line ∷ one) (next ∷ other) lines others e =
    let both = one_cut line next (All-head IsLine line one lines) (All-head IsLine next other others) (concat one) (concat other) e in
    let heads : line ≡ next = both.0 in
    let tails : one ≡ other = same_lines one other (All-tail IsLine line one lines) (All-tail IsLine next other others) both.1 in
    cc
