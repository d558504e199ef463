-- Characters of a quoted string that stand for themselves, taken at once.
use Rattle.std.proofs.Common.{◌≡◌, ℕ, zero, suc, ◌+◌, ◌<◌, ◌≤◌, List, [], ◌∷◌, ◌++◌, length, take, drop, Bool, true, false, not, ◌==◌, ◌&&◌, nat_le, Ok}
use Rattle.std.proofs.Common.{refl, sym, subst, ap, ◌∙◌, append-nil, append_assoc, arith}
use Rattle.std.specs.List.{list_all}
use Rattle.grammar.specs.Part.{Part, ◌>>=◌, turns}
use Rattle.grammar.specs.Quoted.{is_quoted_plain, is_no_quote, IsPlainRun}
use Rattle.grammar.specs.Turns.{BeginsTurn, TakesTurns}
use Rattle.grammar.proofs.Conditions.{and_left, and_right}
use Rattle.grammar.proofs.TakenSteps.{takes_one}
use Rattle.grammar.proofs.TurnSteps.{turns_more}

pub plain_no_quote : (c : ℕ) → is_quoted_plain c ≡ true → not (c == 34) ≡ true
unfolding is_quoted_plain
plain_no_quote c h = and_right (nat_le 1 c && nat_le c 127 && not (c == 13) && not (c == 10)) _ (and_left _ _ h)

pub plain_no_backslash : (c : ℕ) → is_quoted_plain c ≡ true → not (c == 92) ≡ true
unfolding is_quoted_plain
plain_no_backslash c h = and_right (nat_le 1 c && nat_le c 127 && not (c == 13) && not (c == 10) && not (c == 34)) _ h

not_false : (b : Bool) → not b ≡ true → b ≡ false
not_false true h = cc
not_false false h = refl

pub plain_is_no_backslash : (c : ℕ) → is_quoted_plain c ≡ true → (c == 92) ≡ false
plain_is_no_backslash c h = not_false (c == 92) (plain_no_backslash c h)

-- a reader of characters that puts each one that stands for itself after the text so far
module _ (char : List ℕ → Part (List ℕ))
    (puts : (so_far : List ℕ) (c : ℕ) (rest : List ℕ) → is_quoted_plain c ≡ true → (char so_far).at (c ∷ rest) ≡ Ok (so_far ++ c ∷ [], rest)) where
  plain_run : (n more : ℕ) (so_far bytes : List ℕ) → n ≤ length bytes → list_all is_quoted_plain (take n bytes) ≡ true
      → (turns is_no_quote char (n + more) so_far).at bytes ≡ (turns is_no_quote char more (so_far ++ take n bytes)).at (drop n bytes)
  plain_run zero more so_far bytes within passing =
      let none : 0 + more ≡ more = omega arith in
      rw (none, append-nil so_far) refl
  plain_run (suc n) more so_far [] within passing = absurd (omega arith)
  plain_run (suc n) more so_far (c ∷ bytes) within passing =
      let first : is_quoted_plain c ≡ true = and_left _ _ passing in
      let next : suc n + more ≡ suc (n + more) = omega arith in
      ap (λ m. (turns is_no_quote char m so_far).at (c ∷ bytes)) next
      ∙ turns_more is_no_quote char so_far (c ∷ bytes) (n + more) (plain_no_quote c first)
      ∙ ap (λ r. r >>= (λ t. (turns is_no_quote char (n + more) t).at)) (puts so_far c bytes first)
      ∙ plain_run n more (so_far ++ c ∷ []) bytes (omega arith) (and_right _ _ passing)
      ∙ ap (λ s. (turns is_no_quote char more s).at (drop n bytes)) (append_assoc so_far (c ∷ []) (take n bytes))

  pub takes_plain : (most : ℕ) (so_far bytes text behind : List ℕ) (taken : ℕ) → 0 < taken → IsPlainRun most so_far bytes text behind taken
      → TakesTurns is_no_quote char most so_far bytes text behind taken
  takes_plain most so_far bytes text behind taken some run =
      subst (λ (t : List ℕ). TakesTurns is_no_quote char most so_far bytes t behind taken) (sym run.text_is)
      (subst (λ (b : List ℕ). TakesTurns is_no_quote char most so_far bytes (so_far ++ take taken bytes) b taken) (sym run.behind_is)
      (record { some = some; upto = run.upto; all = λ more. plain_run taken more so_far bytes run.there run.passing }))

  -- none of them stands there, and the character that does is taken
  pub takes_other : (most : ℕ) (so_far bytes text behind next left : List ℕ) (taken : ℕ) → taken ≡ 0 → IsPlainRun most so_far bytes text behind taken
      → 0 < most → BeginsTurn is_no_quote bytes → (char text).at behind ≡ Ok (next, left) → TakesTurns is_no_quote char most so_far bytes next left 1
  takes_other most so_far bytes text behind next left taken none run some begins turn =
      let same_text : text ≡ so_far = run.text_is ∙ ap (λ n. so_far ++ take n bytes) none ∙ append-nil so_far in
      let same_bytes : behind ≡ bytes = run.behind_is ∙ ap (λ n. drop n bytes) none in
      takes_one is_no_quote char so_far bytes most some begins next left
      (subst (λ (t : List ℕ). (char t).at bytes ≡ Ok (next, left)) same_text
      (subst (λ (b : List ℕ). (char text).at b ≡ Ok (next, left)) same_bytes turn))
