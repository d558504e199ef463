-- JSON values as `serde_json` reads them: of two members of one key the last stays, and an integer that doesn't fit 64 bits, a fraction, an
-- exponent and `-0` are floats.
use Rattle.std.specs.Prelude.{ℕ, if◌then◌else◌, List, [], ◌∷◌, Option, None, Some, option_map, option_and_then}
use Rattle.std.specs.Str.{is_utf8}
use Rattle.serde_json.specs.Data.{Data, Items, no_items, item}
use Rattle.serde_json.specs.Find.{get, as_str, as_array}
use Rattle.serde_json.specs.Read.{read}

-- the value that bytes are: UTF-8 that is one JSON text (RFC 8259) and nests at most 127 deep
unfoldable pub json_of : List ℕ → Option Data
json_of bytes = if is_utf8 bytes then read bytes else None

-- the text at a key of an object
unfoldable pub text_field : List ℕ → Data → Option (List ℕ)
text_field key value = option_and_then as_str (get key value)

-- the array at a key of an object
unfoldable pub list_field : List ℕ → Data → Option Items
list_field key value = option_and_then as_array (get key value)

-- what each item of an array is, where each is something
unfoldable pub each_item : {T : Type 0} → (Data → Option T) → Items → Option (List T)
each_item is no_items = Some []
each_item is (item value items) = option_and_then (λ one. option_map (λ others. one ∷ others) (each_item is items)) (is value)

-- what each member of a list is, where each is something
unfoldable pub each_of : {S T : Type 0} → (S → Option T) → List S → Option (List T)
each_of is [] = Some []
each_of is (x ∷ xs) = option_and_then (λ one. option_map (λ others. one ∷ others) (each_of is xs)) (is x)
