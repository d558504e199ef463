-- When bytes are a JSON value.
use Rattle.std.proofs.Common.{◌≡◌, ℕ, Bool, true, false, List, None, Some, sym, refl}
use Rattle.std.specs.Str.{IsUtf8, is_utf8}
use Rattle.std.proofs.lemmas.Str.{IsUtf8-from_is_utf8, is_utf8-from_IsUtf8}
use Rattle.serde_json.specs.Data.{Data}
use Rattle.serde_json.specs.Read.{read}
use Rattle.mur_config.specs.Json.{json_of}

pub is_value : (bytes : List ℕ) (value : Data) → IsUtf8 bytes → read bytes ≡ Some value → Some value ≡ json_of bytes
unfolding json_of
is_value bytes value utf8 found = rw (is_utf8-from_IsUtf8 bytes utf8) (sym found)

no_value_by : (bytes : List ℕ) (utf8 : Bool) → is_utf8 bytes ≡ utf8 → (IsUtf8 bytes → read bytes ≡ None) → None ≡ json_of bytes
unfolding json_of
no_value_by bytes true is none = rw is (sym (none (IsUtf8-from_is_utf8 bytes is)))
no_value_by bytes false is none = rw is refl

pub no_value : (bytes : List ℕ) → (IsUtf8 bytes → read bytes ≡ None) → None ≡ json_of bytes
no_value bytes none = no_value_by bytes _ refl none
