-- The flags of a message as a FETCH gives them (RFC 9051, 7.5.2 and 9: flag-list).
use Rattle.std.specs.Prelude.{ℕ, Bool, true, false, if◌then◌else◌, List, [], ◌∷◌, ◌++◌, codes}
use Rattle.mur_base.specs.Ascii.{space}
use Rattle.mail_message.specs.declared.system_flags.SystemFlags.{SystemFlags}
use Rattle.mail_message.specs.FlagNames.{backslashed}
use Rattle.mail_message.specs.FlagSets.{Flags}

-- the name of a flag, if it is set
abbrev pub name_if_set : Bool → List ℕ → List (List ℕ)
name_if_set is_set name = if is_set then name ∷ [] else []

-- the names of the system flags that are set, in the order in which they are told
abbrev pub system_names : SystemFlags → List (List ℕ)
system_names flags =
    name_if_set flags.answered (backslashed (codes "Answered"))
    ++ (name_if_set flags.flagged (backslashed (codes "Flagged"))
    ++ (name_if_set flags.deleted (backslashed (codes "Deleted"))
    ++ (name_if_set flags.seen (backslashed (codes "Seen"))
    ++ name_if_set flags.draft (backslashed (codes "Draft")))))

-- names with a space between them, and one before the first where names have begun already
abbrev pub spaced_names : Bool → List (List ℕ) → List ℕ
spaced_names begun [] = []
spaced_names begun (name ∷ names) = (if begun then space ∷ name else name) ++ spaced_names true names

-- names have begun, before them or with them
abbrev pub are_begun : Bool → List (List ℕ) → Bool
are_begun begun [] = begun
are_begun begun (name ∷ names) = true

-- the system flags and the keywords in byte order, in parentheses
abbrev pub flags_text : Flags → List ℕ
flags_text flags = codes "FLAGS (" ++ spaced_names false (system_names flags.system ++ flags.keywords) ++ codes ")"
