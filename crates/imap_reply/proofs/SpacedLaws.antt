-- Texts with a space between each two, and one more at the end.
use Rattle.std.proofs.Common.{◌≡◌, ℕ, List, [], ◌∷◌, ◌++◌, sym, ◌∙◌, ap, append_assoc}
use Rattle.std.proofs.lemmas.List.{append-nil}
use Rattle.mur_base.specs.Ascii.{space}
use Rattle.imap_reply.specs.Spaced.{more_spaced}

pub more_spaced_last : (texts : List (List ℕ)) (text : List ℕ) → more_spaced (texts ++ text ∷ []) ≡ more_spaced texts ++ space ∷ text
unfolding more_spaced
more_spaced_last [] text = ap (λ t. space ∷ t) (append-nil text)
more_spaced_last (one ∷ texts) text =
    ap (λ t. space ∷ (one ++ t)) (more_spaced_last texts text) ∙ sym (append_assoc (space ∷ one) (more_spaced texts) (space ∷ text))
