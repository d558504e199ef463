-- search = "SEARCH" [SP "RETURN" SP "(" ["ALL"] ")"] SP search-key *(SP search-key), and its form behind UID (RFC 9051, 6.4.4 and 9).
-- ALL is what is returned where nothing is asked for, so a command says no more with it than without.
use Rattle.std.specs.Prelude.{ℕ, Bool, List, [], ◌∷◌, codes}
use Rattle.mur_base.specs.Ascii.{space}
use Rattle.grammar.specs.Forms.{Form, preceded}
use Rattle.grammar.specs.Nested.{after_maybe}
use Rattle.grammar.specs.Part.{Part, ◌sp◌}
use Rattle.grammar.specs.Tables.{any_case, begins_some}
use Rattle.grammar.specs.Words.{word}
use Rattle.mail_message.specs.declared.key.Key.{Key}
use Rattle.imap_command.specs.Keys.{keys}

-- how deep keys nest: so many keys may stand round a key
abbrev pub key_depth : ℕ
key_depth = 64

abbrev pub return_names : List (List ℕ)
return_names = codes "RETURN" ∷ []

-- the return options
abbrev pub option_names : List (List ℕ)
option_names = codes "()" ∷ codes "(ALL)" ∷ []

-- "RETURN" SP the options
abbrev pub returned : Part (List ℕ)
returned = word (any_case return_names) sp λ _. word (any_case option_names)

abbrev pub begins_return : ℕ → Bool
begins_return c = begins_some return_names (c ∷ [])

-- SP what is returned SP the keys
abbrev pub search_form : Form (List Key)
search_form = preceded space (after_maybe begins_return returned (keys key_depth))
