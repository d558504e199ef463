-- The lines in the pieces of bytes are the lines of the bytes.
use Rattle.std.proofs.Common.{◌≡◌, ℕ, ◌-◌, ◌<◌, ◌||◌, Bool, true, false, nat_eq, nat_lt, List, [], ◌∷◌, ◌++◌, length, map, slice_index, take}
use Rattle.std.proofs.Common.{refl, sym, ap, ◌∙◌, subst, inl, inr, arith, eqb-true, length-append}
use Rattle.std.specs.List.{list_any}
use Rattle.std.proofs.lemmas.Bool.{or_parts, or_from, lt-ltb, le-ltb}
use Rattle.std.proofs.lemmas.List.Folds.{list_any-append}
use Rattle.mur_base.specs.Ascii.{ends_with_cr}
use Rattle.mur_base.specs.Names.{with_first}
use Rattle.schedule_text.specs.Cuts.{cuts_of, line_in, without_end}
use Rattle.schedule_text.specs.Spelled.{Lacks, IsBeforeLf, AreLinesOf}
use Rattle.schedule_text.specs.Spelled.AreLinesOf.{no_bytes, without_lf, with_lf}

-- a text by its last byte
pub data Last : List ℕ → Type 0 where
  empty : Last []
  behind : (front : List ℕ) (b : ℕ) → Last (front ++ b ∷ [])

last_onto : (b : ℕ) (text : List ℕ) → Last text → Last (b ∷ text)
last_onto b text empty = behind [] b
last_onto b text (behind front last) = behind (b ∷ front) last

pub last_in : (text : List ℕ) → Last text
last_in [] = empty
last_in (b ∷ text) = last_onto b text (last_in text)

last_at : (front : List ℕ) (b : ℕ) → length (front ++ b ∷ []) - 1 ≡ length front
last_at front b = omega (arith, length-append front (b ∷ []))

index_last : (front : List ℕ) (b : ℕ) → slice_index (front ++ b ∷ []) (length front) ≡ b
index_last [] b = refl
index_last (x ∷ front) b = index_last front b

take_front : (front : List ℕ) (b : ℕ) → take (length front) (front ++ b ∷ []) ≡ front
take_front [] b = refl
take_front (x ∷ front) b = ap (λ (l : List ℕ). x ∷ l) (take_front front b)

pub end_dropped : (front : List ℕ) (b : ℕ) → nat_eq b b ≡ true → without_end (front ++ b ∷ []) b ≡ front
unfolding without_end
end_dropped front b e = rw (last_at front b, index_last front b, e) (take_front front b)

pub end_kept : (front : List ℕ) (last b : ℕ) → nat_eq last b ≡ false → without_end (front ++ last ∷ []) b ≡ front ++ last ∷ []
unfolding without_end
end_kept front last b e = rw (last_at front last, index_last front last, e) refl

pub ends_in : (front : List ℕ) (b : ℕ) → ends_with_cr (front ++ b ∷ []) ≡ nat_eq b 13
unfolding ends_with_cr
ends_in [] b = refl
ends_in (x ∷ []) b = refl
ends_in (x ∷ y ∷ front) b = ends_in (y ∷ front) b

before_by : (front : List ℕ) (b : ℕ) (return : Bool) → nat_eq b 13 ≡ return
    → IsBeforeLf (front ++ b ∷ []) (without_end (front ++ b ∷ []) 13)
before_by front b true e =
    subst (λ x. IsBeforeLf (front ++ x ∷ []) (without_end (front ++ x ∷ []) 13)) (sym (eqb-true b 13 e))
    (inl (ap (λ (l : List ℕ). l ++ 13 ∷ []) (sym (end_dropped front 13 refl))))
before_by front b false e = inr (sym (end_kept front b 13 e), ends_in front b ∙ e)

before_last : (text : List ℕ) → Last text → IsBeforeLf text (without_end text 13)
unfolding without_end ends_with_cr
before_last text empty = inr (refl, refl)
before_last text (behind front b) = before_by front b _ refl

lacks_last : (front : List ℕ) (b c : ℕ) → Lacks c (front ++ b ∷ []) → nat_eq b c ≡ false
lacks_last front b c h =
    let parts = or_parts (list_any (λ x. nat_eq x c) front) (nat_eq b c || false) (sym (list_any-append (λ x. nat_eq x c) front (b ∷ [])) ∙ h) in
    (or_parts (nat_eq b c) false parts.1).0

longer : (front : List ℕ) (b : ℕ) → nat_lt (length front) (length (front ++ b ∷ [])) ≡ true
longer front b = lt-ltb (length front) (length (front ++ b ∷ [])) (omega (arith, length-append front (b ∷ [])))

no_longer : (text : List ℕ) → nat_lt (length text) (length text) ≡ false
no_longer text = le-ltb (length text) (length text) (omega arith)

-- the line in a piece that LF ends
pub line_before : (front : List ℕ) → line_in (front ++ 10 ∷ []) ≡ without_end front 13
unfolding line_in
line_before front = rw (end_dropped front 10 refl, longer front 10) refl

-- the line in a piece without an LF
pub line_alone : (piece : List ℕ) → Last piece → Lacks 10 piece → line_in piece ≡ piece
unfolding line_in without_end
line_alone piece empty h = refl
line_alone piece (behind front b) h = rw (end_kept front b 10 (lacks_last front b 10 h), no_longer (front ++ b ∷ [])) refl

-- pieces of bytes: LF ends each, but for a rest without one
data ArePieces : List ℕ → List (List ℕ) → Type 0 where
  none : ArePieces [] []
  rest_alone : (piece : List ℕ) → 0 < length piece → Lacks 10 piece → ArePieces piece (piece ∷ [])
  a_piece : (text rest : List ℕ) (pieces : List (List ℕ)) → Lacks 10 text → ArePieces rest pieces → ArePieces (text ++ 10 ∷ rest) ((text ++ 10 ∷ []) ∷ pieces)

onto_first : (b : ℕ) → nat_eq b 10 ≡ false → (text : List ℕ) (pieces : List (List ℕ)) → ArePieces text pieces → ArePieces (b ∷ text) (with_first b pieces)
unfolding with_first
onto_first b e text pieces none = rest_alone (b ∷ []) (omega arith) (or_from (nat_eq b 10) false e refl)
onto_first b e text pieces (rest_alone piece some h) = rest_alone (b ∷ piece) (omega arith) (or_from (nat_eq b 10) _ e h)
onto_first b e text pieces (a_piece front rest more h are) = a_piece (b ∷ front) rest more (or_from (nat_eq b 10) _ e h) are

cut_by : (b : ℕ) (text : List ℕ) → ArePieces text (cuts_of text) → (feed : Bool) → nat_eq b 10 ≡ feed → ArePieces (b ∷ text) (cuts_of (b ∷ text))
unfolding cuts_of
cut_by b text are true e =
    rw e (subst (λ x. ArePieces (x ∷ text) ((x ∷ []) ∷ cuts_of text)) (sym (eqb-true b 10 e)) (a_piece [] text (cuts_of text) refl are))
cut_by b text are false e = rw e (onto_first b e text (cuts_of text) are)

are_pieces : (bytes : List ℕ) → ArePieces bytes (cuts_of bytes)
unfolding cuts_of
are_pieces [] = none
are_pieces (b ∷ text) = cut_by b text (are_pieces text) _ refl

lines_in : (bytes : List ℕ) (pieces : List (List ℕ)) → ArePieces bytes pieces → AreLinesOf bytes (map line_in pieces)
lines_in bytes pieces none = no_bytes
lines_in bytes pieces (rest_alone piece some h) =
    subst (λ line. AreLinesOf piece (line ∷ [])) (sym (line_alone piece (last_in piece) h)) (without_lf piece some h)
lines_in bytes pieces (a_piece text rest more h are) =
    subst (λ line. AreLinesOf (text ++ 10 ∷ rest) (line ∷ map line_in more)) (sym (line_before text))
    (with_lf text (without_end text 13) rest (map line_in more) h (before_last text (last_in text)) (lines_in rest more are))

-- the lines in the pieces of bytes are their lines
pub are_lines : (bytes : List ℕ) → AreLinesOf bytes (map line_in (cuts_of bytes))
are_lines bytes = lines_in bytes (cuts_of bytes) (are_pieces bytes)
