-- flag-list = "(" [flag *(SP flag)] ")" (RFC 9051, 9). The flags of one command have at most 16 different keywords; a keyword is
-- an atom of at most 64 bytes, and keywords are compared byte by byte.
use Rattle.std.specs.Prelude.{ℕ, Bool, ◌==◌, ◌&&◌, nat_le, List, [], ◌∷◌, ◌++◌, length, codes, if◌then◌else◌}
use Rattle.std.specs.List.{list_all}
use Rattle.mur_base.specs.Ascii.{space, open_paren, close_paren, backslash}
use Rattle.grammar.specs.Forms.{Form, Row, preceded, list_text, table}
use Rattle.grammar.specs.Members.{members}
use Rattle.grammar.specs.Part.{Part, ◌then◌, byte, choose, map, repeat, spaced}
use Rattle.grammar.specs.Runs.{run_upto}
use Rattle.grammar.specs.Words.{Words, word}
use Rattle.imap_text.specs.FlagNames.{system_text}
use Rattle.mail_message.specs.FlagSets.{Flags, no_flags, with_flag, has_too_many}
use Rattle.mail_message.specs.declared.flag_name.FlagName.{FlagName}
use Rattle.mail_message.specs.declared.flag_name.FlagName.TheVariants.{System, Keyword}
use Rattle.mail_message.specs.declared.system_flags.SystemFlag.{SystemFlag}
use Rattle.mail_message.specs.declared.system_flags.SystemFlag.TheVariants.{Answered, Flagged, Deleted, Seen, Draft}
use Rattle.mail_message.specs.declared.system_flags.SystemFlags.{SystemFlags}
use Rattle.mail_message.specs.Keywords.{is_atom_byte}

abbrev pub system_rows : List (Row SystemFlag)
system_rows = (codes "Answered", Answered) ∷ (codes "Flagged", Flagged) ∷ (codes "Deleted", Deleted) ∷ (codes "Seen", Seen) ∷ (codes "Draft", Draft) ∷ []

-- a system flag, behind its backslash
abbrev pub system_flag : Form SystemFlag
system_flag = preceded backslash (table Answered system_rows system_text)

-- flag-keyword = atom, of at most 64 bytes
abbrev pub any_keyword : Words
any_keyword = run_upto 64 is_atom_byte

-- so many keywords that no other may stand beside them
abbrev pub is_full : List (List ℕ) → Bool
is_full known = nat_le 16 (length known) && list_all any_keyword.whole known

-- the keywords that may stand beside those
abbrev pub keywords_beside : List (List ℕ) → Words
keywords_beside known = if is_full known then members is_atom_byte known else any_keyword

-- the flags with one more; no command has so many keywords that the flags would have no room for it
abbrev pub put_flag : Flags → FlagName → Flags
put_flag so_far name = if has_too_many (with_flag so_far name) then so_far else with_flag so_far name

-- flag, put to the flags so far
unfoldable pub flag : Flags → Part Flags
flag so_far =
    choose (λ c. c == backslash) (map (λ system. put_flag so_far (System system)) system_flag.part)
    (map (λ keyword. put_flag so_far (Keyword keyword)) (word (keywords_beside so_far.keywords)))

-- flag *(SP flag)
unfoldable pub some_flags : Part Flags
some_flags = flag no_flags then λ first. repeat (λ c. c == space) (spaced flag) first

unfoldable pub flag_list_part : Part Flags
flag_list_part =
    byte open_paren then λ _. choose (λ c. c == close_paren) (map (λ _. no_flags) (byte close_paren))
    (some_flags then λ flags. map (λ _. flags) (byte close_paren))

-- Flags are printed in a list, the system flags first.

abbrev pub text_if : Bool → SystemFlag → List (List ℕ)
text_if is_set flag = if is_set then (backslash ∷ system_text flag) ∷ [] else []

abbrev pub system_texts : SystemFlags → List (List ℕ)
system_texts s =
    text_if s.answered Answered ++ (text_if s.flagged Flagged ++ (text_if s.deleted Deleted ++ (text_if s.seen Seen ++ text_if s.draft Draft)))

abbrev pub flag_list_text : Flags → List ℕ
flag_list_text flags = open_paren ∷ (list_text space (λ s. s) (system_texts flags.system ++ flags.keywords) ++ close_paren ∷ [])

abbrev pub flag_list : Form Flags
flag_list = record { part = flag_list_part; text = flag_list_text }

-- flag-list / (flag *(SP flag)), as STORE takes them
unfoldable pub store_flags_part : Part Flags
store_flags_part = choose (λ c. c == open_paren) flag_list_part some_flags

abbrev pub store_flags : Form Flags
store_flags = record { part = store_flags_part; text = flag_list_text }
