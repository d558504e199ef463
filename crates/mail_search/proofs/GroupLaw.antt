-- Keys in parentheses match what all of them match.
use Rattle.std.proofs.Common.{◌≡◌, ◌∙◌, ℕ, List, [], ◌∷◌, ◌&&◌, map, refl, sym, ap}
use Rattle.std.specs.List.{list_all}
use Rattle.mail_message.specs.declared.key.Key.{Key}
use Rattle.mail_message.specs.declared.key.Key.TheVariants.{Group, rolls-Group}
use Rattle.mail_message.specs.declared.key.Key.TheOpen.{Key-F}
use Rattle.mail_message.specs.declared.key.Key.TheFolds.{fold-roll-Key}
use Rattle.mail_message.specs.declared.message.Summary.{Summary}
use Rattle.mail_search.specs.Matching.{Test, matches_by, key_matches, all_match}

grouped : (keys : List Key) (message : Summary) (number : ℕ)
    → list_all (λ (test : Test). test message number) (map key_matches keys) ≡ all_match keys message number
grouped [] message number = refl
grouped (key ∷ keys) message number = ap (λ rest. key_matches key message number && rest) (grouped keys message number)

pub group-matches : (keys : List Key) (message : Summary) (number : ℕ) → key_matches (Group keys) message number ≡ all_match keys message number
group-matches keys message number =
    ap (λ (test : Test). test message number) (ap key_matches (sym (rolls-Group keys)) ∙ fold-roll-Key Test matches_by (Key-F.Group keys))
    ∙ grouped keys message number
