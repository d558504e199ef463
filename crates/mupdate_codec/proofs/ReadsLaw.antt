-- What a reading that tells places says of the lines.
use Rattle.std.proofs.Common.{◌≡◌, ℕ, zero, suc, Bool, ◌-◌, ◌<◌, ◌≤◌, List, [], ◌∷◌, ◌++◌, length, take, Result, Ok, Err, refl, sym, ap, ◌∙◌, subst}
use Rattle.std.proofs.Common.{length-append, arith}
use Rattle.grammar.specs.Exact.{any}
use Rattle.grammar.specs.Forms.{Form, Law}
use Rattle.grammar.proofs.Reading.{ok_parts}
use Rattle.mupdate_codec.specs.Answers.{IsBegun, HasLine}
use Rattle.mupdate_codec.specs.Arguments.{Texts, exact}
use Rattle.mupdate_codec.specs.Told.{told_texts, IsTold}
use Rattle.mupdate_codec.proofs.AnswersLaw.{line_read, line_found, more_found, more_only, no_line, not_begun}
use Rattle.mupdate_codec.proofs.ToldLaw.{Told, Tells}

take_front : (front rest : List ℕ) → take (length front) (front ++ rest) ≡ front
take_front [] rest = refl
take_front (c ∷ front) rest = ap (λ s. c ∷ s) (take_front front rest)

module _ {A : Type 0} {starts : ℕ → Bool} (line : Texts → Form A) (law : Law starts any (line exact)) (tells : Told (line exact).part (line told_texts).part)
    (bytes : List ℕ) where
  abbrev L : List ℕ → A → Type 0
  L = (line exact).part.lang

  -- what the exact reading gave
  exact_ok : (a : A) (rest : List ℕ) → (line told_texts).part.at bytes ≡ Ok (a, rest) → (line exact).part.at bytes ≡ Ok (a, rest)
  exact_ok a rest e = by_read ((line exact).part.at bytes) refl (tells.same bytes)
    where
      by_read : (r : Result (A × List ℕ) ℕ) → (line exact).part.at bytes ≡ r → Tells r ((line told_texts).part.at bytes) (length bytes)
          → (line exact).part.at bytes ≡ Ok (a, rest)
      by_read (Ok x) is s = is ∙ sym s ∙ e
      by_read (Err left) is s = let both : Err s.stop ≡ Ok (a, rest) = sym s.is ∙ e in cc

  -- a stop of the exact reading
  record Stopped (stop : ℕ) : Type 0 where
    left : ℕ
    was : (line exact).part.at bytes ≡ Err left
    least : left ≤ stop
    most : stop ≤ length bytes
    at_end : left ≡ 0 → stop ≡ 0

  exact_stop : (stop : ℕ) → (line told_texts).part.at bytes ≡ Err stop → Stopped stop
  exact_stop stop e = by_read ((line exact).part.at bytes) refl (tells.same bytes)
    where
      by_read : (r : Result (A × List ℕ) ℕ) → (line exact).part.at bytes ≡ r → Tells r ((line told_texts).part.at bytes) (length bytes) → Stopped stop
      by_read (Ok x) is s = let both : Ok x ≡ Err stop = sym s ∙ e in cc
      by_read (Err left) is s =
          let same : s.stop ≡ stop = by_err (sym s.is ∙ e) in
          record { left = left; was = is; least = omega (arith, s.least); most = omega (arith, s.most); at_end = λ h. sym same ∙ s.at_end h }
        where
          by_err : {m n : ℕ} → (let r : Result (A × List ℕ) ℕ = Err m in r ≡ Err n) → m ≡ n
          by_err e = cc

  -- a line is there
  pub ok_line : (a : A) (rest : List ℕ) → (line told_texts).part.at bytes ≡ Ok (a, rest) → L (take (length bytes - length rest) bytes) a
  ok_line a rest e =
      let found = line_found (line exact).part law.good bytes rest a (exact_ok a rest e) in
      let size : length bytes - length rest ≡ length found.0 = omega (arith, ap length found.1, length-append found.0 rest) in
      let front : take (length bytes - length rest) bytes ≡ found.0 = ap (λ n. take n bytes) size ∙ ap (take (length found.0)) found.1 ∙ take_front found.0 rest in
      subst (λ s. L s a) (sym front) found.2

  pub ok_size : (a : A) (rest : List ℕ) → (line told_texts).part.at bytes ≡ Ok (a, rest) → length rest ≤ length bytes
  ok_size a rest e =
      let found = line_found (line exact).part law.good bytes rest a (exact_ok a rest e) in omega (arith, ap length found.1, length-append found.0 rest)

  -- it is the only one
  pub ok_only : (a b : A) (rest front behind : List ℕ) → (line told_texts).part.at bytes ≡ Ok (a, rest) → bytes ≡ front ++ behind → L front b
      → (a ≡ b) × (length bytes - length rest ≡ length front)
  ok_only a b rest front behind e is l =
      let read = ap (line exact).part.at is ∙ line_read (line exact).part law.good front behind b l in
      let parts = ok_parts (sym (exact_ok a rest e) ∙ read) in
      (parts.0, omega (arith, ap length is, length-append front behind, ap length parts.1))

  pub ok_not_begun : (a : A) (rest : List ℕ) → (line told_texts).part.at bytes ≡ Ok (a, rest) → ¬ IsBegun L bytes
  ok_not_begun a rest e b = apart (a, rest) (sym (exact_ok a rest e) ∙ more_only (line exact).part law.good bytes b)
    where
      apart : (x : A × List ℕ) → (let r : Result (A × List ℕ) ℕ = Ok x in r ≡ Err 0) → ⊥
      apart x e = cc

  -- none is there
  pub err_no_line : (stop : ℕ) → (line told_texts).part.at bytes ≡ Err stop → ¬ HasLine L bytes
  err_no_line stop e = let s = exact_stop stop e in no_line (line exact).part law.good bytes s.left s.was

  pub err_begun : (stop : ℕ) → (line told_texts).part.at bytes ≡ Err stop → stop ≡ 0 → IsBegun L bytes
  err_begun stop e none =
      let s = exact_stop stop e in
      more_found (line exact).part law.good bytes (s.was ∙ ap Err (let zero : s.left ≡ 0 = omega (arith, s.least, none) in zero))

  pub err_waits : (stop : ℕ) → (line told_texts).part.at bytes ≡ Err stop → IsBegun L bytes → stop ≡ 0
  err_waits stop e b =
      let s = exact_stop stop e in
      s.at_end (by_err (sym s.was ∙ more_only (line exact).part law.good bytes b))
    where
      by_err : {m n : ℕ} → (let r : Result (A × List ℕ) ℕ = Err m in r ≡ Err n) → m ≡ n
      by_err e = cc

  pub err_not_begun : (stop : ℕ) → (line told_texts).part.at bytes ≡ Err stop → 0 < stop → ¬ IsBegun L bytes
  err_not_begun stop e some =
      let s = exact_stop stop e in
      not_begun (line exact).part law.good bytes s.left s.was (by_left s.left s.at_end)
    where
      by_left : (left : ℕ) → (left ≡ 0 → stop ≡ 0) → 0 < left
      by_left zero at_end = absurd (omega (arith, at_end refl))
      by_left (suc left) at_end = omega arith

  pub err_size : (stop : ℕ) → (line told_texts).part.at bytes ≡ Err stop → stop ≤ length bytes
  err_size stop e = (exact_stop stop e).most

  pub err_told : (stop : ℕ) → (line told_texts).part.at bytes ≡ Err stop → IsTold line bytes (length bytes - stop)
  err_told stop e =
      let most = err_size stop e in
      record { within = omega arith; left = e ∙ ap Err (let same : stop ≡ length bytes - (length bytes - stop) = omega arith in same) }
