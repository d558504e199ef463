-- What a cutter does with a piece, step by step.
use Rattle.std.proofs.Common.{◌≡◌, ℕ, zero, suc, ◌+◌, ◌-◌, ◌<◌, ◌≤◌, List, [], ◌∷◌, ◌++◌, length, take, drop, get_or, Bool, true, false, not, nat_eq, cond, Option, None, Some}
use Rattle.std.proofs.Common.{refl, sym, ap, ◌∙◌, subst, append-nil, append_assoc, arith, eqb-true, add-one, take-suc, length-take-le, length-drop}
use Rattle.std.specs.List.{concat}
use Rattle.std.specs.Option.{IfSome, IsSomeAnd, is_none, is_some, option_to_list}
use Rattle.memchr.specs.Find.{IsFirstByte, is_byte}
use Rattle.grammar.proofs.Conditions.{and_both, not_then_false}
use Rattle.mupdate_codec.specs.Answers.{IsBegun}
use Rattle.mupdate_codec.specs.Commands.{IsCommandLine}
use Rattle.mupdate_codec.specs.Cut.{IsUncut, EndsLine, IsCut, Feeds, waits}
use Rattle.mupdate_codec.specs.Waits.{goes_on, octets_left, HasBegunLine, Ended, TakesSome}
use Rattle.mupdate_codec.proofs.BegunLaw.{holds_literal, holds_text, holds_lf, holds_uncut, ends_line}
use Rattle.mupdate_codec.proofs.CutLaw.{has_no_lf, goes_from, cut_waits, cut_line}

-- a search for LF

all_before : (bytes : List ℕ) (n : ℕ) → n ≤ length bytes → ((k : ℕ) → k < n → ¬ (nat_eq (get_or bytes k 0) 10 ≡ true)) → has_no_lf (take n bytes) ≡ true
all_before bytes zero h none = refl
all_before [] (suc n) h none = refl
all_before (c ∷ bytes) (suc n) h none =
    and_both _ _ (ap not (not_then_false (nat_eq c 10) (none 0 (omega arith)))) (all_before bytes n (omega arith) (λ k below. none (suc k) (omega arith)))

take_all : (bytes : List ℕ) → take (length bytes) bytes ≡ bytes
take_all [] = refl
take_all (c ∷ bytes) = ap (λ s. c ∷ s) (take_all bytes)

pub text_none : (piece : List ℕ) → IsFirstByte (is_byte 10) piece None → has_no_lf piece ≡ true
text_none piece first = ap has_no_lf (sym (take_all piece)) ∙ all_before piece (length piece) (omega arith) (λ k below. first k (omega arith) below)

-- the bytes up to an LF
pub record UpToLf (piece : List ℕ) (at : ℕ) : Type 0 where
  pub within : at < length piece
  pub text : has_no_lf (take at piece) ≡ true
  pub parts : take (at + 1) piece ≡ take at piece ++ 10 ∷ []

pub text_some : (piece : List ℕ) (at : ℕ) → IsFirstByte (is_byte 10) piece (Some at) → UpToLf piece at
text_some piece at first =
    let within : at < length piece = first.0.high in
    record {
      within = within;
      text = all_before piece at (omega (arith, within)) (λ k below. first.0.before k (omega arith) below);
      parts = ap (λ n. take n piece) (add-one at) ∙ take-suc piece at 0 within ∙ ap (λ c. take at piece ++ c ∷ []) (eqb-true (get_or piece at 0) 10 first.1);
    }

pub ended_by : (begun piece : List ℕ) (at : ℕ) → HasBegunLine begun 0 → UpToLf piece at → Ended (begun ++ take (at + 1) piece)
ended_by begun piece at h u = record {
  front = begun ++ take at piece;
  parts = ap (λ s. begun ++ s) u.parts ∙ sym (append_assoc begun (take at piece) (10 ∷ []));
  holds = holds_text begun (take at piece) h u.text;
}

-- a line that goes on behind its LF
pub ended_goes_on : (bytes : List ℕ) (left : ℕ) → Ended bytes → IsBegun IsCommandLine bytes → left ≡ octets_left bytes → HasBegunLine bytes left
ended_goes_on bytes left e b is =
    subst (λ s. HasBegunLine s left) (sym e.parts)
    (holds_lf e.front left e.holds (ap goes_on (sym e.parts) ∙ goes_from bytes b) (is ∙ ap octets_left e.parts))

-- and one that ends with it
pub ended_ends : (bytes : List ℕ) → Ended bytes → ¬ IsBegun IsCommandLine bytes → EndsLine bytes
ended_ends bytes e none = subst EndsLine (sym e.parts) (ends_line e.front e.holds (λ b. none (subst (IsBegun IsCommandLine) (sym e.parts) b)))

-- bytes of a literal
pub literal_taken : (begun piece : List ℕ) (left taken : ℕ) → HasBegunLine begun left → 0 < left → taken ≤ left → taken ≤ length piece
    → HasBegunLine (begun ++ take taken piece) (left - taken)
literal_taken begun piece left taken h some room within =
    let size : length (take taken piece) ≡ taken = length-take-le taken piece within in
    subst (HasBegunLine (begun ++ take taken piece)) (ap (λ n. left - n) size)
    (holds_literal begun (take taken piece) left h some (omega (arith, size)))

-- one step behind others

take_more : (piece : List ℕ) (taken more : ℕ) → taken ≤ length piece → take (taken + more) piece ≡ take taken piece ++ take more (drop taken piece)
take_more piece zero more h = ap (λ n. take n piece) (let none : zero + more ≡ more = omega arith in none)
take_more [] (suc taken) more h = absurd (omega arith)
take_more (c ∷ piece) (suc taken) more h =
    ap (λ n. take n (c ∷ piece)) (let next : suc taken + more ≡ suc (taken + more) = omega arith in next)
    ∙ ap (λ s. c ∷ s) (take_more piece taken more (omega arith))

drop_length : (piece : List ℕ) (taken : ℕ) → length (drop taken piece) ≡ length piece - taken
drop_length piece taken = length-drop taken piece

pub takes_then : (begun piece mid : List ℕ) (taken more : ℕ) (line : Option (List ℕ)) (after : List ℕ) → taken ≤ length piece → mid ≡ begun ++ take taken piece
    → TakesSome mid (drop taken piece) line more after → TakesSome begun piece line (taken + more) after
takes_then begun piece mid taken more None after within is t = (
  omega (arith, t.0, drop_length piece taken),
  t.1 ∙ ap (λ s. s ++ take more (drop taken piece)) is ∙ append_assoc begun (take taken piece) (take more (drop taken piece))
      ∙ ap (λ s. begun ++ s) (sym (take_more piece taken more within)),
)
takes_then begun piece mid taken more (Some line) after within is t = (
  omega (arith, t.0, drop_length piece taken),
  t.1 ∙ ap (λ s. s ++ take more (drop taken piece)) is ∙ append_assoc begun (take taken piece) (take more (drop taken piece))
      ∙ ap (λ s. begun ++ s) (sym (take_more piece taken more within)),
  t.2,
  t.3,
)

-- what a call gives
pub feeds_by : (begun piece : List ℕ) (line : Option (List ℕ)) (taken : ℕ) (after : List ℕ) (left : ℕ) → TakesSome begun piece line taken after
    → (line ≡ None → taken ≡ length piece) → HasBegunLine after left → Feeds begun piece line taken (Some after)
feeds_by begun piece None taken after left t whole h =
    let all : taken ≡ length piece = whole refl in
    let same : after ≡ begun ++ piece = t.1 ∙ ap (λ s. begun ++ s) (ap (λ n. take n piece) all ∙ take_all piece) in
    (all, ap Some same, subst IsUncut same (holds_uncut after left h))
feeds_by begun piece (Some line) taken after left t whole h = (t.0, t.1, t.2, ap Some t.3)

-- more lines of a connection

abbrev pub IsCutFrom : List ℕ → List (List ℕ) → Option (List ℕ) → Type 0
IsCutFrom past lines begun = IsSomeAnd begun (λ begun. IsCut past lines begun)

pub fed_line : (past begun piece line : List ℕ) (lines : List (List ℕ)) (taken : ℕ) (after : Option (List ℕ)) → IsCut past lines begun
    → Feeds begun piece (Some line) taken after → IsCutFrom (past ++ take taken piece) (lines ++ line ∷ []) after
fed_line past begun piece line lines taken after c f =
    subst (IsCutFrom (past ++ take taken piece) (lines ++ line ∷ [])) (sym f.3)
    (subst (λ l. IsCut (past ++ take taken piece) (lines ++ l ∷ []) []) (sym f.1)
    (cut_line past (take taken piece) begun lines c (subst EndsLine f.1 f.2)))

pub fed_none : (past begun piece : List ℕ) (lines : List (List ℕ)) (taken : ℕ) (after : Option (List ℕ)) → IsCut past lines begun
    → Feeds begun piece None taken after → IsCutFrom (past ++ take taken piece) lines after
fed_none past begun piece lines taken after c f =
    subst (IsCutFrom (past ++ take taken piece) lines) (sym f.1)
    (subst (λ s. IsCut (past ++ s) lines (begun ++ piece)) (sym (ap (λ n. take n piece) f.0 ∙ take_all piece))
    (cut_waits past piece begun lines c f.2))

pub past_more : (past piece : List ℕ) (taken more : ℕ) → taken ≤ length piece
    → (past ++ take taken piece) ++ take more (drop taken piece) ≡ past ++ take (taken + more) piece
past_more past piece taken more within =
    append_assoc past (take taken piece) (take more (drop taken piece)) ∙ ap (λ s. past ++ s) (sym (take_more piece taken more within))

pub past_all : (past piece : List ℕ) (taken : ℕ) → length piece ≤ taken → past ++ take taken piece ≡ past ++ piece
past_all past piece taken h = ap (λ s. past ++ s) (over piece taken h)
  where
    over : (piece : List ℕ) (taken : ℕ) → length piece ≤ taken → take taken piece ≡ piece
    over [] zero h = refl
    over [] (suc n) h = refl
    over (c ∷ piece) zero h = absurd (omega arith)
    over (c ∷ piece) (suc n) h = ap (λ s. c ∷ s) (over piece n (omega arith))

-- the lines so far of a piece: those of the bytes so far, where the ones before it were so cut
abbrev pub IsCutSoFar : List ℕ → List ℕ → Option (List ℕ) → List (List ℕ) → Option (List ℕ) → List (List ℕ) → ℕ → Type 0
IsCutSoFar past piece start before self lines taken =
    IfSome start (λ begun. IsCut past before begun → IsSomeAnd self (λ after. IsCut (past ++ take taken piece) lines after))

module _ (past piece : List ℕ) (start : Option (List ℕ)) (before lines : List (List ℕ)) (taken more : ℕ) (within : taken ≤ length piece) where
  -- one call more
  pub fed_more : (self next : Option (List ℕ)) (line : Option (List ℕ)) → IsCutSoFar past piece start before self lines taken
      → IfSome self (λ begun. Feeds begun (drop taken piece) line more next)
      → IsCutSoFar past piece start before next (lines ++ option_to_list line) (taken + more)
  fed_more self next line i f = by_start start i
    where
      by_line : (s : List ℕ) (l : Option (List ℕ)) → IsCut (past ++ take taken piece) lines s → Feeds s (drop taken piece) l more next
          → IsCutFrom ((past ++ take taken piece) ++ take more (drop taken piece)) (lines ++ option_to_list l) next
      by_line s None c f =
          subst (λ ls. IsCutFrom ((past ++ take taken piece) ++ take more (drop taken piece)) ls next) (sym (append-nil lines))
          (fed_none (past ++ take taken piece) s (drop taken piece) lines more next c f)
      by_line s (Some l) c f = fed_line (past ++ take taken piece) s (drop taken piece) l lines more next c f

      by_self : (self : Option (List ℕ)) → IsSomeAnd self (λ after. IsCut (past ++ take taken piece) lines after)
          → IfSome self (λ begun. Feeds begun (drop taken piece) line more next)
          → IsSomeAnd next (λ after. IsCut (past ++ take (taken + more) piece) (lines ++ option_to_list line) after)
      by_self None c f = absurd c
      by_self (Some s) c f =
          subst (λ p. IsCutFrom p (lines ++ option_to_list line) next) (past_more past piece taken more within) (by_line s line c f)

      by_start : (s : Option (List ℕ)) → IsCutSoFar past piece s before self lines taken → IsCutSoFar past piece s before next (lines ++ option_to_list line) (taken + more)
      by_start None i = i
      by_start (Some s) i = λ c. by_self self (i c) f

-- all of a piece
pub fed_all : (past piece : List ℕ) (start self : Option (List ℕ)) (before lines : List (List ℕ)) (taken : ℕ) → IsCutSoFar past piece start before self lines taken
    → length piece ≤ taken → IsCutSoFar past piece start before self lines (length piece)
fed_all past piece start self before lines taken i h = by_start start i
  where
    same : past ++ take taken piece ≡ past ++ take (length piece) piece
    same = past_all past piece taken h ∙ ap (λ s. past ++ s) (sym (take_all piece))

    by_start : (s : Option (List ℕ)) → IsCutSoFar past piece s before self lines taken → IsCutSoFar past piece s before self lines (length piece)
    by_start None i = i
    by_start (Some s) i = λ c. subst (λ p. IsSomeAnd self (λ after. IsCut p lines after)) same (i c)

-- a piece that is taken whole
abbrev pub IsCutBehind : List ℕ → List ℕ → Option (List ℕ) → List (List ℕ) → Option (List ℕ) → List (List ℕ) → Type 0
IsCutBehind past piece start before self lines =
    IfSome start (λ begun. IsCut past before begun → IsSomeAnd self (λ after. IsCut (past ++ piece) lines after))

pub fed_whole : (past piece : List ℕ) (start self : Option (List ℕ)) (before lines : List (List ℕ)) (taken : ℕ) → IsCutSoFar past piece start before self lines taken
    → length piece ≤ taken → IsCutBehind past piece start before self lines
fed_whole past piece None self before lines taken i h = i
fed_whole past piece (Some s) self before lines taken i h = λ c. subst (λ p. IsSomeAnd self (λ after. IsCut p lines after)) (past_all past piece taken h) (i c)

-- one that isn't, since the cutter was spent before it
pub fed_spent : (past piece : List ℕ) (start self : Option (List ℕ)) (before lines : List (List ℕ)) (taken : ℕ) → IsCutSoFar past piece start before self lines taken
    → is_none self ≡ true → IsCutBehind past piece start before self lines
fed_spent past piece None self before lines taken i h = i
fed_spent past piece (Some s) None before lines taken i h = λ c. i c
fed_spent past piece (Some s) (Some t) before lines taken i h = cc

-- nothing was cut of nothing
pub cut_nothing : IsCut [] [] []
cut_nothing = waits [] (λ front rest e. absurd (no_lf_in front rest e))
  where
    no_lf_in : (front rest : List ℕ) → [] ≡ front ++ 10 ∷ rest → ⊥
    no_lf_in [] rest e = cc
    no_lf_in (c ∷ front) rest e = cc

-- the pieces joined
pub concat-more : (pieces : List (List ℕ)) (i : ℕ) (piece : List ℕ) → i < length pieces → piece ≡ get_or pieces i piece
    → concat (take (i + 1) pieces) ≡ concat (take i pieces) ++ piece
concat-more [] i piece within is = absurd (omega arith)
concat-more (first ∷ pieces) zero piece within is = append-nil first ∙ sym is
concat-more (first ∷ pieces) (suc i) piece within is =
    ap (λ n. concat (take n (first ∷ pieces))) (let next : suc i + 1 ≡ suc (i + 1) = omega arith in next)
    ∙ ap (λ s. first ++ s) (concat-more pieces i piece (omega arith) is) ∙ sym (append_assoc first (concat (take i pieces)) piece)

-- one piece more
pub pieces_more : (past piece joined : List ℕ) (self next : Option (List ℕ)) (before lines : List (List ℕ)) → joined ≡ past ++ piece
    → IsSomeAnd self (λ begun. IsCut past before begun) → IsCutBehind past piece self before next lines → IsSomeAnd next (λ after. IsCut joined lines after)
pieces_more past piece joined None next before lines e c f = absurd c
pieces_more past piece joined (Some s) next before lines e c f = subst (λ p. IsSomeAnd next (λ after. IsCut p lines after)) (sym e) (f c)

-- the text of the line that has begun
pub left_is : (past left : List ℕ) (self : Option (List ℕ)) (lines : List (List ℕ)) → IsSomeAnd self (λ begun. IsCut past lines begun)
    → IfSome self (λ begun. left ≡ begun) → IsCut past lines left
left_is past left None lines c e = absurd c
left_is past left (Some s) lines c e = subst (IsCut past lines) (sym e) c

-- a piece without an LF
pub text_taken : (begun piece : List ℕ) (left : ℕ) → left ≡ 0 → HasBegunLine begun left → IsFirstByte (is_byte 10) piece None → HasBegunLine (begun ++ piece) left
text_taken begun piece left none h first =
    subst (HasBegunLine (begun ++ piece)) (sym none) (holds_text begun piece (subst (HasBegunLine begun) none h) (text_none piece first))

pub none_from : {T : Type 0} (o : Option T) → is_some o ≡ false → o ≡ None
none_from None h = refl
none_from (Some x) h = cc

-- the bytes of a cutter that isn't spent, and what comes of a piece
pub feeds_of : (view next : Option (List ℕ)) (spent : Bool) (begun piece : List ℕ) (line : Option (List ℕ)) (taken : ℕ) (after : List ℕ) (left : ℕ)
    → view ≡ cond spent None (Some begun) → spent ≡ false → TakesSome begun piece line taken after → (line ≡ None → taken ≡ length piece) → HasBegunLine after left
    → next ≡ cond spent None (Some after) → IfSome view (λ begun. Feeds begun piece line taken next)
feeds_of view next spent begun piece line taken after left is live t whole h next_is =
    let some : view ≡ Some begun = is ∙ ap (λ s. cond s None (Some begun)) live in
    let then : next ≡ Some after = next_is ∙ ap (λ s. cond s None (Some after)) live in
    subst (λ v. IfSome v (λ begun. Feeds begun piece line taken next)) (sym some)
    (subst (Feeds begun piece line taken) (sym then) (feeds_by begun piece line taken after left t whole h))

pub uncut_of : (view : Option (List ℕ)) (spent : Bool) (begun : List ℕ) (left : ℕ) → view ≡ cond spent None (Some begun) → (spent ≡ false → HasBegunLine begun left)
    → IfSome view IsUncut
uncut_of view true begun left is h = subst (λ v. IfSome v IsUncut) (sym is) tt
uncut_of view false begun left is h = subst (λ v. IfSome v IsUncut) (sym is) (holds_uncut begun left (h refl))

-- what follows the bytes that are taken
pub rest_is : (piece : List ℕ) (taken : ℕ) → take (length piece - taken) (drop taken piece) ≡ drop taken piece
rest_is piece taken = ap (λ n. take n (drop taken piece)) (sym (drop_length piece taken)) ∙ take_all (drop taken piece)

pub takes_on : (begun piece mid : List ℕ) (taken more : ℕ) (line : Option (List ℕ)) (after : List ℕ) → taken ≤ length piece → mid ≡ begun ++ take taken piece
    → TakesSome mid (take (length piece - taken) (drop taken piece)) line more after → TakesSome begun piece line (taken + more) after
takes_on begun piece mid taken more line after within is t =
    takes_then begun piece mid taken more line after within is (subst (λ r. TakesSome mid r line more after) (rest_is piece taken) t)

pub fed_on : (past piece : List ℕ) (start : Option (List ℕ)) (before lines : List (List ℕ)) (taken more : ℕ) → taken ≤ length piece
    → (self next : Option (List ℕ)) (line : Option (List ℕ)) → IsCutSoFar past piece start before self lines taken
    → IfSome self (λ begun. Feeds begun (take (length piece - taken) (drop taken piece)) line more next)
    → IsCutSoFar past piece start before next (lines ++ option_to_list line) (taken + more)
fed_on past piece start before lines taken more within self next line i f =
    fed_more past piece start before lines taken more within self next line i
    (subst (λ r. IfSome self (λ begun. Feeds begun r line more next)) (rest_is piece taken) f)
