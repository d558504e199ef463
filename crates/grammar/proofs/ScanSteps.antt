-- One byte more in a scan at a place of the bytes.
use Rattle.std.proofs.Common.{◌≡◌, ℕ, suc, ◌+◌, ◌<◌, List, [], ◌∷◌, ◌++◌, length, take, drop, get_or, Bool, true, false, cond, sym}
use Rattle.std.proofs.Common.{ap, ap₂, ◌∙◌, add-one, drop-cons, take-suc}
use Rattle.grammar.specs.Words.{Words, scan, halt}

module _ (w : Words) (bytes : List ℕ) (i : ℕ) (within : i < length bytes) (scanned : scan w (take i bytes) (drop i bytes) ≡ scan w [] bytes) where
  -- what the next byte decides
  scan_place : (b : Bool) → w.begins (take (i + 1) bytes) ≡ b →
      scan w [] bytes ≡ cond b (scan w (take (i + 1) bytes) (drop (i + 1) bytes)) (halt (w.whole (take i bytes)) (take i bytes) (drop i bytes))
  scan_place b e =
      let next : take (i + 1) bytes ≡ take i bytes ++ get_or bytes i 0 ∷ [] = ap (λ n. take n bytes) (add-one i) ∙ take-suc bytes i 0 within in
      let left = drop-cons bytes i 0 within in
      sym scanned ∙ ap (scan w (take i bytes)) left
      ∙ ap (λ b. cond b (scan w (take i bytes ++ get_or bytes i 0 ∷ []) (drop (suc i) bytes))
      (halt (w.whole (take i bytes)) (take i bytes) (get_or bytes i 0 ∷ drop (suc i) bytes)))
      (ap w.begins (sym next) ∙ e)
      ∙ ap₂ (cond b) (ap₂ (scan w) (sym next) (ap (λ n. drop n bytes) (sym (add-one i)))) (ap (halt (w.whole (take i bytes)) (take i bytes)) (sym left))

  pub scan_more : w.begins (take (i + 1) bytes) ≡ true → scan w (take (i + 1) bytes) (drop (i + 1) bytes) ≡ scan w [] bytes
  scan_more e = sym (scan_place true e)

  pub scan_halts : w.begins (take (i + 1) bytes) ≡ false → scan w [] bytes ≡ halt (w.whole (take i bytes)) (take i bytes) (drop i bytes)
  scan_halts e = scan_place false e
