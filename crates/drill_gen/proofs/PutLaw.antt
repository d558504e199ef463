-- Three parts, put behind one another.
use Rattle.std.proofs.Common.{◌≡◌, ◌∙◌, ℕ, List, ◌++◌, ap, append_assoc}

pub three : (out one two now a b c : List ℕ) → one ≡ out ++ a → two ≡ one ++ b → now ≡ two ++ c → now ≡ out ++ (a ++ (b ++ c))
three out one two now a b c first second third =
    third ∙ (ap (λ (x : List ℕ). x ++ c) (second ∙ ap (λ (x : List ℕ). x ++ b) first) ∙ (append_assoc (out ++ a) b c ∙ append_assoc out a (b ++ c)))
