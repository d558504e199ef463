-- What is known of a line that has begun, as bytes come.
use Rattle.std.proofs.Common.{◌≡◌, ℕ, ◌-◌, ◌<◌, ◌≤◌, List, [], ◌∷◌, ◌++◌, length, drop, true, false, nat_eq, Result, Ok, Err, ⊎_elim}
use Rattle.std.proofs.Common.{refl, sym, ap, ◌∙◌, subst, append-nil, append_assoc, length-append, arith}
use Rattle.std.specs.Cmp.Lexicographic.{pointwise}
use Rattle.std.specs.List.{ends_with}
use Rattle.std.proofs.Math.Seq.{drop-append_seam}
use Rattle.mupdate_codec.specs.Answers.{IsBegun}
use Rattle.mupdate_codec.specs.Commands.{IsCommandLine}
use Rattle.mupdate_codec.specs.Cut.{IsUncut, EndsLine}
use Rattle.mupdate_codec.specs.Waits.{goes_on, head, yet_to_come, octets_left, HasBegunLine, Ended}
use Rattle.mupdate_codec.proofs.CutLaw.{goes_to, lf_in, has_no_lf, no_lf, not_nothing}
use Rattle.mupdate_codec.proofs.HeadLaw.{head_skips}
use Rattle.mupdate_codec.proofs.HeadReads.{head_read, head_found, head_ends}
use Rattle.mupdate_codec.proofs.InnerLaw.{InLiteral, inner_line}
use Rattle.mupdate_codec.proofs.MarksLaw.{Marked}

-- a literal that may be any text has begun, and so many octets are to come
record IsInside (bytes : List ℕ) (left : ℕ) : Type 0 where
  front : List ℕ
  text : List ℕ
  size : ℕ
  spelled : head.lang front size
  parts : bytes ≡ front ++ text
  left_is : left ≡ size - length text

is_inside : (bytes : List ℕ) (left : ℕ) → left ≡ octets_left bytes → 0 < left → IsInside bytes left
unfolding octets_left
is_inside bytes left is some = by_read (head.at bytes) refl is
  where
    by_read : (r : Result (ℕ × List ℕ) ℕ) → head.at bytes ≡ r → left ≡ yet_to_come r → IsInside bytes left
    by_read (Ok x) e same =
        let found = head_found bytes x.1 x.0 e in
        record { front = found.0; text = x.1; size = x.0; spelled = found.2; parts = found.1; left_is = same }
    by_read (Err stop) e same = absurd (omega (arith, some, same))

octets_at : (front text : List ℕ) (n : ℕ) → head.lang front n → octets_left (front ++ text) ≡ n - length text
unfolding octets_left
octets_at front text n l = ap yet_to_come (head_read front text n l)

-- more of the literal
octets_more : (bytes x : List ℕ) (left : ℕ) → IsInside bytes left → left - length x ≡ octets_left (bytes ++ x)
octets_more bytes x left i =
    let same : left - length x ≡ i.size - length (i.text ++ x) = omega (arith, i.left_is, length-append i.text x) in
    same ∙ sym (ap octets_left (ap (λ s. s ++ x) i.parts ∙ append_assoc i.front i.text x) ∙ octets_at i.front (i.text ++ x) i.size i.spelled)

-- bytes in which no header ends
octets_none : (bytes x : List ℕ) → 0 ≡ octets_left bytes → has_no_lf x ≡ true → 0 ≡ octets_left (bytes ++ x)
unfolding octets_left
octets_none bytes x is none = by_read (head.at (bytes ++ x)) refl
  where
    earlier : (front rest r : List ℕ) (n : ℕ) → head.lang front n → bytes ++ x ≡ front ++ rest → bytes ≡ front ++ r → 0 ≡ n - length rest
    earlier front rest r n l all parts =
        let now : 0 ≡ n - length r = is ∙ ap octets_left parts ∙ octets_at front r n l in
        omega (arith, now, ap length all, ap length parts, length-append bytes x, length-append front rest, length-append front r)

    by_read : (r : Result (ℕ × List ℕ) ℕ) → head.at (bytes ++ x) ≡ r → 0 ≡ yet_to_come r
    by_read (Err stop) e = refl
    by_read (Ok y) e =
        let found = head_found (bytes ++ x) y.1 y.0 e in
        let last = head_ends found.0 y.0 found.2 in
        let whole : (behind : List ℕ) → last.0 ++ 10 ∷ behind ≡ found.0 ++ behind =
        λ behind. sym (append_assoc last.0 (10 ∷ []) behind) ∙ ap (λ s. s ++ behind) (sym last.1) in
        ⊎_elim (λ r. earlier found.0 y.1 r.0 y.0 found.2 found.1 (r.1 ∙ whole r.0)) (λ f. absurd (no_lf f.0 y.1 (ap has_no_lf (sym f.2) ∙ none)))
        (lf_in bytes x last.0 y.1 (found.1 ∙ sym (whole y.1)))

-- the line goes on in the literal
inside_goes_on : (bytes text : List ℕ) (left : ℕ) → IsInside bytes left → 0 < left → length text ≤ left → goes_on (bytes ++ text) ≡ true
inside_goes_on bytes text left i some room =
    ap goes_on (ap (λ s. s ++ text) i.parts ∙ append_assoc i.front i.text text)
    ∙ head_skips i.front i.size i.spelled (i.text ++ text) (omega (arith, some, room, i.left_is, length-append i.text text))

pub holds_nothing : HasBegunLine [] 0
unfolding octets_left head
holds_nothing = record { uncut = λ front rest e. absurd (not_nothing front 10 rest e); left_is = refl }

-- bytes of a literal
pub holds_literal : (bytes x : List ℕ) (left : ℕ) → HasBegunLine bytes left → 0 < left → length x ≤ left → HasBegunLine (bytes ++ x) (left - length x)
holds_literal bytes x left h some room =
    let i = is_inside bytes left h.left_is some in
    record {
      uncut = λ front rest e.
          ⊎_elim (λ r. h.uncut front r.0 r.1)
          (λ f. let size = ap length f.2 in
          subst (λ s. goes_on s ≡ true) (sym (append_assoc bytes f.0 (10 ∷ [])) ∙ ap (λ s. s ++ 10 ∷ []) (sym f.1))
          (inside_goes_on bytes (f.0 ++ 10 ∷ []) left i some (omega (arith, size, room, length-append f.0 (10 ∷ []), length-append f.0 (10 ∷ rest)))))
          (lf_in bytes x front rest e);
      left_is = octets_more bytes x left i;
    }

-- bytes without an LF
pub holds_text : (bytes x : List ℕ) → HasBegunLine bytes 0 → has_no_lf x ≡ true → HasBegunLine (bytes ++ x) 0
holds_text bytes x h none = record {
  uncut = λ front rest e. ⊎_elim (λ r. h.uncut front r.0 r.1) (λ f. absurd (no_lf f.0 rest (ap has_no_lf (sym f.2) ∙ none))) (lf_in bytes x front rest e);
  left_is = octets_none bytes x h.left_is none;
}

only_lf : (f rest : List ℕ) → (let s : List ℕ = 10 ∷ [] in s) ≡ f ++ 10 ∷ rest → f ≡ []
only_lf [] rest e = refl
only_lf (c ∷ f) rest e = let none : [] ≡ f ++ 10 ∷ rest = cc in absurd (not_nothing f 10 rest none)

-- an LF behind which the line goes on
pub holds_lf : (bytes : List ℕ) (left : ℕ) → HasBegunLine bytes 0 → goes_on (bytes ++ 10 ∷ []) ≡ true → left ≡ octets_left (bytes ++ 10 ∷ [])
    → HasBegunLine (bytes ++ 10 ∷ []) left
holds_lf bytes left h goes is = record {
  uncut = λ front rest e.
      ⊎_elim (λ r. h.uncut front r.0 r.1)
      (λ f. subst (λ s. goes_on (s ++ 10 ∷ []) ≡ true) (sym (f.1 ∙ ap (λ g. bytes ++ g) (only_lf f.0 rest f.2) ∙ append-nil bytes)) goes)
      (lf_in bytes (10 ∷ []) front rest e);
  left_is = is;
}

-- what is known of a line that has begun says that none has ended
pub holds_uncut : (bytes : List ℕ) (left : ℕ) → HasBegunLine bytes left → IsUncut bytes
holds_uncut bytes left h = λ front rest e. goes_to (front ++ 10 ∷ []) (h.uncut front rest e)

-- a line that ends
pub ends_line : (bytes : List ℕ) → HasBegunLine bytes 0 → ¬ IsBegun IsCommandLine (bytes ++ 10 ∷ []) → EndsLine (bytes ++ 10 ∷ [])
ends_line bytes h ends = record { front = bytes; parts = refl; uncut = holds_uncut bytes 0 h; ends = ends }

-- an LF outside such a literal, behind which the line goes on, ends a header
marked_by : (front : List ℕ) → HasBegunLine front 0 → IsBegun IsCommandLine (front ++ 10 ∷ []) → Marked front
marked_by front h b =
    ⊎_elim (λ m. m) (λ i. absurd (outside i)) (inner_line ((front ++ 10 ∷ []) ++ b.more) front b.more b.value b.whole (append_assoc front (10 ∷ []) b.more) b.some)
  where
    outside : InLiteral head front → ⊥
    outside i = let now : 0 ≡ i.size - length i.text = h.left_is ∙ ap octets_left i.parts ∙ octets_at i.before i.text i.size i.spelled in omega (arith, now, i.inside)

-- so a line ends where no header does
pub ends_unmarked : (bytes : List ℕ) → Ended bytes → ends_with nat_eq bytes (125 ∷ 13 ∷ 10 ∷ []) ≡ false → ¬ IsBegun IsCommandLine bytes
ends_unmarked bytes e unmarked b =
    let m = marked_by e.front e.holds (subst (IsBegun IsCommandLine) e.parts b) in
    let last : List ℕ = 125 ∷ 13 ∷ 10 ∷ [] in
    let text : bytes ≡ m.0 ++ last = e.parts ∙ ap (λ s. s ++ 10 ∷ []) m.1 ∙ append_assoc m.0 (125 ∷ 13 ∷ []) (10 ∷ []) in
    let at : length (m.0 ++ last) - 3 ≡ length m.0 = omega (arith, length-append m.0 last) in
    let ends : ends_with nat_eq bytes last ≡ true =
    ap (λ s. ends_with nat_eq s last) text ∙ ap (pointwise nat_eq last) (ap (λ n. drop n (m.0 ++ last)) at ∙ drop-append_seam m.0 last) in
    let both : false ≡ true = sym unmarked ∙ ends in cc
