-- What a line that a client is given tells: the verdict of a command, or the end of a connection (RFC 9051, 2.2.2 and 7.1).
use Rattle.std.specs.Prelude.{ℕ, Bool, true, false, if◌then◌else◌, List, drop, length, codes}
use Rattle.std.specs.List.{filter}
use Rattle.std.specs.Str.{bytes_eq}
use Rattle.schedule_text.specs.ScheduleWords.{split_word}
use Rattle.drill_gen.specs.declared.lines.LineKind.{LineKind}
use Rattle.drill_gen.specs.declared.lines.LineKind.TheVariants.{Ok, No, Bad, Bye, Other}

-- the first word of a line, and the word after it
unfoldable pub first_word : List ℕ → List ℕ
first_word line = (split_word line).word

unfoldable pub second_word : List ℕ → List ℕ
second_word line = (split_word (drop 1 (split_word line).rest)).word

-- an untagged line is one of a connection's end, or neither
unfoldable pub untagged_kind : List ℕ → LineKind
untagged_kind word = if bytes_eq word (codes "BYE") then Bye else Other

-- the tagged line of a command has its verdict behind the tag
unfoldable pub tagged_kind : List ℕ → LineKind
tagged_kind word =
    if bytes_eq word (codes "OK") then Ok
    else if bytes_eq word (codes "NO") then No
    else if bytes_eq word (codes "BAD") then Bad
    else Other

-- a line begins with its tag, but for an untagged line and a continuation request (RFC 9051, 2.2.2)
unfoldable pub kind_by_words : List ℕ → List ℕ → LineKind
kind_by_words first second =
    if bytes_eq first (codes "*") then untagged_kind second
    else if bytes_eq first (codes "+") then Other
    else tagged_kind second

-- what a line tells a client
unfoldable pub kind_of_line : List ℕ → LineKind
kind_of_line line = kind_by_words (first_word line) (second_word line)

unfoldable pub is_kind : LineKind → LineKind → Bool
is_kind Ok Ok = true
is_kind No No = true
is_kind Bad Bad = true
is_kind Bye Bye = true
is_kind Other Other = true
is_kind wanted kind = false

unfoldable pub count_of : LineKind → List LineKind → ℕ
count_of wanted kinds = length (filter (is_kind wanted) kinds)
