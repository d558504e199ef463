-- list = "LIST" SP mailbox SP list-mailbox, of RFC 9051's forms the one with neither selection nor return options (6.3.9 and 9).
use Rattle.std.specs.Prelude.{ℕ, Bool, ◌||◌, ◌==◌, List}
use Rattle.mur_base.specs.Ascii.{space, percent, star}
use Rattle.grammar.specs.Forms.{Form, preceded, ◌spaced◌}
use Rattle.grammar.specs.Part.{Part, choose}
use Rattle.grammar.specs.Runs.{run_of}
use Rattle.grammar.specs.Words.{word}
use Rattle.imap_text.specs.Characters.{is_astring_char}
use Rattle.imap_text.specs.Strings.{argument, string, astring_text}

-- list-char = ATOM-CHAR / list-wildcards / resp-specials
unfoldable pub is_list_char : ℕ → Bool
is_list_char c = is_astring_char c || (c == percent || c == star)

-- list-mailbox = 1*list-char / string
unfoldable pub list_mailbox : Part (List ℕ)
list_mailbox = choose is_list_char (word (run_of is_list_char)) string

abbrev pub pattern : Form (List ℕ)
pattern = record { part = list_mailbox; text = astring_text }

-- SP the reference SP the pattern
abbrev pub list : Form (List ℕ × List ℕ)
list = preceded space (argument spaced pattern)
