-- What the code of a key rests on.
use Rattle.std.proofs.Common.{◌≡◌, ◌∙◌, ℕ, zero, suc, ◌+◌, ◌-◌, ◌<◌, ◌≤◌, List, [], ◌∷◌, ◌++◌, length, map, drop, get_or, refl, sym, ap, subst}
use Rattle.std.proofs.Common.{append_assoc, append-nil, add-one, drop-cons, drop_of_length-le}
use Rattle.grammar.specs.Forms.{list_text, more_text}
use Rattle.grammar.proofs.NestedLaw.{nested_flat, nested_deep}
use Rattle.mail_message.specs.declared.key.Key.{Key}
use Rattle.mail_message.specs.declared.key.Key.TheVariants.{Group, rolls-Group}
use Rattle.mail_message.specs.declared.key.Key.TheOpen.{Key-F}
use Rattle.mail_message.specs.declared.key.Key.TheFolds.{fold-roll-Key}
use Rattle.imap_command.specs.Keys.{text_by, key_text, flat_key, deep_key, key, separator}

-- a key at depth 0, and one at another depth
pub key_flat : (depth : ℕ) (bytes : List ℕ) → depth ≡ 0 → (key depth).part.at bytes ≡ flat_key.at bytes
key_flat depth bytes e = nested_flat key_text flat_key deep_key depth bytes e

pub key_deep : (depth : ℕ) (bytes : List ℕ) → ¬ (depth ≡ 0) → (key depth).part.at bytes ≡ (deep_key (key (depth - 1))).at bytes
key_deep depth bytes e = nested_deep key_text flat_key deep_key depth bytes e

more_mapped : (keys : List Key) → more_text 32 (λ s. s) (map key_text keys) ≡ more_text 32 key_text keys
more_mapped [] = refl
more_mapped (key ∷ keys) = ap (λ s. 32 ∷ (key_text key ++ s)) (more_mapped keys)

mapped : (keys : List Key) → list_text 32 (λ s. s) (map key_text keys) ≡ list_text 32 key_text keys
mapped [] = refl
mapped (key ∷ keys) = ap (λ s. key_text key ++ s) (more_mapped keys)

-- how keys in parentheses are printed
pub group_text : (keys : List Key) → key_text (Group keys) ≡ 40 ∷ (list_text 32 key_text keys ++ 41 ∷ [])
unfolding key_text
group_text keys =
    ap key_text (sym (rolls-Group keys)) ∙ fold-roll-Key (List ℕ) text_by (Key-F.Group keys) ∙ ap (λ s. 40 ∷ (s ++ 41 ∷ [])) (mapped keys)

-- the text of the keys that are left where so many are printed
unfoldable pub left_text : ℕ → List Key → List ℕ
left_text zero keys = list_text 32 key_text keys
left_text (suc n) keys = more_text 32 key_text keys

-- one key more is printed
left_step : (n : ℕ) (key : Key) (keys : List Key) → left_text n (key ∷ keys) ≡ separator n ++ (key_text key ++ left_text (suc n) keys)
unfolding left_text separator
left_step zero key keys = refl
left_step (suc n) key keys = refl

left_none : (n : ℕ) → left_text n [] ≡ []
unfolding left_text
left_none zero = refl
left_none (suc n) = refl

left_all : (keys : List Key) → left_text 0 keys ≡ list_text 32 key_text keys
unfolding left_text
left_all keys = refl

module _ (out first : List ℕ) (n : ℕ) (keys : List Key) (so_far : out ++ left_text n (drop n keys) ≡ first ++ left_text 0 keys) where
  pub put_step : (spaced after : List ℕ) (key : Key) → spaced ≡ out ++ separator n → after ≡ spaced ++ key_text key → n < length keys
      → key ≡ get_or keys n key → after ++ left_text (n + 1) (drop (n + 1) keys) ≡ first ++ left_text 0 keys
  put_step spaced after key one two within is =
      let left = left_text (suc n) (drop (suc n) keys) in
      let here : drop n keys ≡ key ∷ drop (suc n) keys = drop-cons keys n key within ∙ ap (λ k. k ∷ drop (suc n) keys) (sym is) in
      let all : after ++ left ≡ first ++ left_text 0 keys =
      ap (λ s. s ++ left) (two ∙ ap (λ s. s ++ key_text key) one)
      ∙ append_assoc (out ++ separator n) (key_text key) left
      ∙ append_assoc out (separator n) (key_text key ++ left)
      ∙ ap (λ s. out ++ s) (sym (ap (left_text n) here ∙ left_step n key (drop (suc n) keys)))
      ∙ so_far in
      subst (λ m. after ++ left_text m (drop m keys) ≡ first ++ left_text 0 keys) (sym (add-one n)) all

  pub put_end : length keys ≤ n → out ≡ first ++ list_text 32 key_text keys
  put_end none =
      sym (append-nil out) ∙ ap (λ s. out ++ s) (sym (ap (left_text n) (drop_of_length-le keys none) ∙ left_none n)) ∙ so_far
      ∙ ap (λ s. first ++ s) (left_all keys)
