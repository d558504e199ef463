-- Keywords of messages (RFC 9051, 9: flag-keyword), and sets of them.
use Rattle.std.specs.Prelude.{ℕ, Bool, ◌&&◌, not, ◌==◌, nat_lt, nat_le, if◌then◌else◌, List, length, Option, None, Some, Result, Ok, Err}
use Rattle.std.specs.List.{filter, list_all, list_any, fold}
use Rattle.std.specs.List.Sorted.{IsStrictlySortedBy}
use Rattle.std.specs.Ordering.{nat_cmp}
use Rattle.std.specs.Cmp.Lexicographic.{slice_cmp}
use Rattle.std.specs.BTreeMap.{is_at}
use Rattle.std.specs.BTreeSet.{insert_key}
use Rattle.mur_base.specs.declared.name.NameFault.{NameFault}
use Rattle.mur_base.specs.declared.name.NameFault.TheVariants.{Empty, TooLong, BadByte}
use Rattle.mur_base.specs.declared.limits.TheConstants.{KEYWORD_LIMIT}

-- ATOM-CHAR: no control, no space, none of '(', ')', '{', '%', '*', '"', '\' and ']'
unfoldable pub is_atom_byte : ℕ → Bool
is_atom_byte b =
    (nat_le 33 b && nat_le b 126) && not (b == 40) && not (b == 41) && not (b == 123) && not (b == 37) && not (b == 42) && not (b == 34) && not (b == 92)
    && not (b == 93)

unfoldable pub has_atom_bytes : List ℕ → Bool
has_atom_bytes text = list_all is_atom_byte text

-- the first rule of keywords that a text breaks
unfoldable pub keyword_fault : List ℕ → Option NameFault
keyword_fault text =
    if length text == 0 then Some Empty
    else if nat_lt KEYWORD_LIMIT (length text) then Some TooLong
    else if not (has_atom_bytes text) then Some BadByte
    else None

abbrev pub keyword_unless : Option NameFault → List ℕ → Result (List ℕ) NameFault
keyword_unless (Some fault) text = Err fault
keyword_unless None text = Ok text

-- the keyword that a text is, unless it breaks a rule of keywords
abbrev pub keyword_of : List ℕ → Result (List ℕ) NameFault
keyword_of text = keyword_unless (keyword_fault text) text

-- the keyword is among the keywords, byte by byte
abbrev pub keyword_in : List (List ℕ) → List ℕ → Bool
keyword_in keywords keyword = list_any (is_at (slice_cmp nat_cmp keyword)) keywords

-- the keywords and this one at its place in byte order, each once
abbrev pub with_keyword : List (List ℕ) → List ℕ → List (List ℕ)
with_keyword keywords keyword = insert_key (slice_cmp nat_cmp) keywords keyword

-- the keywords but this one, wherever it stands
abbrev pub without_keyword : List (List ℕ) → List ℕ → List (List ℕ)
without_keyword keywords keyword = filter (λ other. not (is_at (slice_cmp nat_cmp keyword) other)) keywords

-- all keywords of two sets
abbrev pub with_keywords : List (List ℕ) → List (List ℕ) → List (List ℕ)
with_keywords keywords others = fold with_keyword keywords others

-- the keywords of the first set that aren't in the second
abbrev pub without_keywords : List (List ℕ) → List (List ℕ) → List (List ℕ)
without_keywords keywords others = fold without_keyword keywords others

-- strictly rising byte order
abbrev pub AreSortedKeywords : List (List ℕ) → Type 0
AreSortedKeywords keywords = IsStrictlySortedBy (slice_cmp nat_cmp) keywords
