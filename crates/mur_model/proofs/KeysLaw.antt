-- The numbers of a group of keys are those of its keys.
use Rattle.std.proofs.Common.{◌≡◌, ◌∙◌, ℕ, Bool, ◌&&◌, List, [], ◌∷◌, map, refl, sym, ap}
use Rattle.std.specs.List.{list_all}
use Rattle.mail_message.specs.declared.key.Key.{Key}
use Rattle.mail_message.specs.declared.key.Key.TheVariants.{Group, rolls-Group}
use Rattle.mail_message.specs.declared.key.Key.TheOpen.{Key-F}
use Rattle.mail_message.specs.declared.key.Key.TheFolds.{fold-roll-Key}
use Rattle.mur_model.specs.Keys.{numbers_by, has_key_numbers, have_all_numbers}

grouped : (count : ℕ) (keys : List Key) → list_all (λ (key : Bool). key) (map (has_key_numbers count) keys) ≡ have_all_numbers count keys
grouped count [] = refl
grouped count (key ∷ keys) = ap (λ rest. has_key_numbers count key && rest) (grouped count keys)

pub group_numbers : (count : ℕ) (keys : List Key) → has_key_numbers count (Group keys) ≡ have_all_numbers count keys
group_numbers count keys =
    ap (has_key_numbers count) (sym (rolls-Group keys)) ∙ fold-roll-Key Bool (numbers_by count) (Key-F.Group keys) ∙ grouped count keys
