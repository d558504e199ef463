-- The keys of a SEARCH at a view (RFC 9051, 6.4.4 and 9: seq-number): `*` in a set is the last message of the view.
use Rattle.std.specs.Prelude.{ℕ, Bool, true, ◌&&◌, List, map}
use Rattle.std.specs.List.{list_all}
use Rattle.mail_message.specs.Sets.{set_at}
use Rattle.mail_message.specs.declared.key.Key.{Key, roll-Key}
use Rattle.mail_message.specs.declared.key.Key.TheOpen.{Key-F}
use Rattle.mail_message.specs.declared.key.Key.TheFolds.{fold-Key}
use Rattle.mur_model.specs.NamedRows.{has_all_numbers}

-- each sequence number in a key is that of a message, of so many, where this is so of the keys in it
abbrev pub numbers_by : ℕ → Key-F Bool → Bool
numbers_by count (Key-F.Numbers set) = has_all_numbers count set
numbers_by count (Key-F.Not key) = key
numbers_by count (Key-F.Or one other) = one && other
numbers_by count (Key-F.Group keys) = list_all (λ (key : Bool). key) keys
numbers_by count key = true

abbrev pub has_key_numbers : ℕ → Key → Bool
has_key_numbers count = fold-Key Bool (numbers_by count)

abbrev pub have_all_numbers : ℕ → List Key → Bool
have_all_numbers count keys = list_all (λ key. has_key_numbers count key) keys

-- a key where so many messages are in a view and its last has this UID; the keys in it are so already
abbrev pub key_by : ℕ → ℕ → Key-F Key → Key
key_by count last (Key-F.Numbers set) = roll-Key (Key-F.Numbers (set_at count set))
key_by count last (Key-F.Uid set) = roll-Key (Key-F.Uid (set_at last set))
key_by count last key = roll-Key key

abbrev pub key_at : ℕ → ℕ → Key → Key
key_at count last = fold-Key Key (key_by count last)

abbrev pub keys_at : ℕ → ℕ → List Key → List Key
keys_at count last keys = map (λ key. key_at count last key) keys
