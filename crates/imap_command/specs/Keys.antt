-- search-key (RFC 9051, 6.4.4 and 9): how each key is spelled and printed, to the depth to which keys nest.
use Rattle.std.specs.Prelude.{ℕ, zero, suc, true, ◌==◌, List, [], ◌∷◌, ◌++◌, map, codes}
use Rattle.mur_base.specs.Ascii.{space, open_paren, close_paren}
use Rattle.grammar.specs.Forms.{Form, Row, as_it_stands, preceded, closed, made, numeral, next_value, several, ◌spaced◌, table, list_text}
use Rattle.grammar.specs.Nested.{nested, told}
use Rattle.grammar.specs.Part.{Part, choose, give, map as map_part, repeat}
use Rattle.mail_message.specs.declared.flag_name.FlagName.{FlagName}
use Rattle.mail_message.specs.declared.flag_name.FlagName.TheVariants.{Keyword}
use Rattle.mail_message.specs.declared.key.Key.{Key}
use Rattle.mail_message.specs.declared.key.Key.TheVariants as key_is
use Rattle.mail_message.specs.declared.key.Key.TheOpen.{Key-F}
use Rattle.mail_message.specs.declared.key.Key.TheFolds.{fold-Key}
use Rattle.imap_command.specs.declared.keys.FlatName.{FlatName}
use Rattle.imap_command.specs.declared.keys.FlatName.TheVariants as flat
use Rattle.imap_command.specs.declared.keys.KeyName.{KeyName}
use Rattle.imap_command.specs.declared.keys.KeyName.TheVariants as deep
use Rattle.imap_command.specs.Dates.{date}
use Rattle.imap_command.specs.Fetch.{number64_most}
use Rattle.imap_command.specs.Flags.{any_keyword}
use Rattle.imap_text.specs.FlagNames.{flag_text}
use Rattle.imap_command.specs.Sets.{is_set_start, set}

-- flag-keyword; no key is spelled with a system flag
abbrev pub keyword : Form FlagName
keyword = made Keyword flag_text (as_it_stands any_keyword)

-- number64
abbrev pub size_form : Form ℕ
size_form = numeral true number64_most

-- how a key is printed, where the texts of the keys in it stand in their places
abbrev pub text_by : Key-F (List ℕ) → List ℕ
text_by Key-F.All = codes "ALL"
text_by Key-F.Answered = codes "ANSWERED"
text_by Key-F.Deleted = codes "DELETED"
text_by Key-F.Draft = codes "DRAFT"
text_by Key-F.Flagged = codes "FLAGGED"
text_by Key-F.Seen = codes "SEEN"
text_by Key-F.Unanswered = codes "UNANSWERED"
text_by Key-F.Undeleted = codes "UNDELETED"
text_by Key-F.Undraft = codes "UNDRAFT"
text_by Key-F.Unflagged = codes "UNFLAGGED"
text_by Key-F.Unseen = codes "UNSEEN"
text_by (Key-F.Keyword flag) = codes "KEYWORD" ++ (preceded space keyword).text flag
text_by (Key-F.Unkeyword flag) = codes "UNKEYWORD" ++ (preceded space keyword).text flag
text_by (Key-F.Larger octets) = codes "LARGER" ++ (preceded space size_form).text octets
text_by (Key-F.Smaller octets) = codes "SMALLER" ++ (preceded space size_form).text octets
text_by (Key-F.Before day) = codes "BEFORE" ++ (preceded space date).text day
text_by (Key-F.On day) = codes "ON" ++ (preceded space date).text day
text_by (Key-F.Since day) = codes "SINCE" ++ (preceded space date).text day
text_by (Key-F.Uid parts) = codes "UID" ++ (preceded space set).text parts
text_by (Key-F.Numbers parts) = set.text parts
text_by (Key-F.Not text) = codes "NOT" ++ space ∷ text
text_by (Key-F.Or one other) = codes "OR" ++ space ∷ (one ++ space ∷ other)
text_by (Key-F.Group texts) = open_paren ∷ (list_text space (λ text. text) texts ++ close_paren ∷ [])

unfoldable pub key_text : Key → List ℕ
key_text = fold-Key (List ℕ) text_by

-- the names of the keys that hold no key
abbrev pub flat_rows : List (Row FlatName)
flat_rows =
    (codes "ALL", flat.All) ∷ (codes "ANSWERED", flat.Answered) ∷ (codes "DELETED", flat.Deleted) ∷ (codes "DRAFT", flat.Draft)
    ∷ (codes "FLAGGED", flat.Flagged) ∷ (codes "SEEN", flat.Seen) ∷ (codes "UNANSWERED", flat.Unanswered) ∷ (codes "UNDELETED", flat.Undeleted)
    ∷ (codes "UNDRAFT", flat.Undraft) ∷ (codes "UNFLAGGED", flat.Unflagged) ∷ (codes "UNSEEN", flat.Unseen) ∷ (codes "KEYWORD", flat.Keyword)
    ∷ (codes "UNKEYWORD", flat.Unkeyword) ∷ (codes "LARGER", flat.Larger) ∷ (codes "SMALLER", flat.Smaller) ∷ (codes "BEFORE", flat.Before)
    ∷ (codes "ON", flat.On) ∷ (codes "SINCE", flat.Since) ∷ (codes "UID", flat.Uid) ∷ []

unfoldable pub flat_name_text : FlatName → List ℕ
flat_name_text flat.All = codes "ALL"
flat_name_text flat.Answered = codes "ANSWERED"
flat_name_text flat.Deleted = codes "DELETED"
flat_name_text flat.Draft = codes "DRAFT"
flat_name_text flat.Flagged = codes "FLAGGED"
flat_name_text flat.Seen = codes "SEEN"
flat_name_text flat.Unanswered = codes "UNANSWERED"
flat_name_text flat.Undeleted = codes "UNDELETED"
flat_name_text flat.Undraft = codes "UNDRAFT"
flat_name_text flat.Unflagged = codes "UNFLAGGED"
flat_name_text flat.Unseen = codes "UNSEEN"
flat_name_text flat.Keyword = codes "KEYWORD"
flat_name_text flat.Unkeyword = codes "UNKEYWORD"
flat_name_text flat.Larger = codes "LARGER"
flat_name_text flat.Smaller = codes "SMALLER"
flat_name_text flat.Before = codes "BEFORE"
flat_name_text flat.On = codes "ON"
flat_name_text flat.Since = codes "SINCE"
flat_name_text flat.Uid = codes "UID"

-- what stands behind the name of a key that holds no key, and the key
unfoldable pub behind_flat : FlatName → Part Key
behind_flat flat.All = give key_is.All
behind_flat flat.Answered = give key_is.Answered
behind_flat flat.Deleted = give key_is.Deleted
behind_flat flat.Draft = give key_is.Draft
behind_flat flat.Flagged = give key_is.Flagged
behind_flat flat.Seen = give key_is.Seen
behind_flat flat.Unanswered = give key_is.Unanswered
behind_flat flat.Undeleted = give key_is.Undeleted
behind_flat flat.Undraft = give key_is.Undraft
behind_flat flat.Unflagged = give key_is.Unflagged
behind_flat flat.Unseen = give key_is.Unseen
behind_flat flat.Keyword = map_part key_is.Keyword (preceded space keyword).part
behind_flat flat.Unkeyword = map_part key_is.Unkeyword (preceded space keyword).part
behind_flat flat.Larger = map_part key_is.Larger (preceded space size_form).part
behind_flat flat.Smaller = map_part key_is.Smaller (preceded space size_form).part
behind_flat flat.Before = map_part key_is.Before (preceded space date).part
behind_flat flat.On = map_part key_is.On (preceded space date).part
behind_flat flat.Since = map_part key_is.Since (preceded space date).part
behind_flat flat.Uid = map_part key_is.Uid (preceded space set).part

abbrev pub flat_name : Form FlatName
flat_name = table flat.All flat_rows flat_name_text

-- sequence-set, or a key that is named
abbrev pub numbers_or : Part Key → Part Key
numbers_or named = choose is_set_start (map_part key_is.Numbers set.part) named

-- a key that holds no key
unfoldable pub flat_key : Part Key
flat_key = numbers_or (told flat_name behind_flat key_text).part

-- the names of all keys
abbrev pub key_rows : List (Row KeyName)
key_rows = (codes "NOT", deep.Not) ∷ (codes "OR", deep.Or) ∷ map (λ row. (row.0, deep.Flat row.1)) flat_rows

abbrev pub key_name_text : KeyName → List ℕ
key_name_text deep.Not = codes "NOT"
key_name_text deep.Or = codes "OR"
key_name_text (deep.Flat name) = flat_name_text name

-- what stands behind the name of a key that may hold such keys, and the key
unfoldable pub behind_key : Form Key → KeyName → Part Key
behind_key inner deep.Not = map_part key_is.Not (preceded space inner).part
behind_key inner deep.Or = map_part (λ x. key_is.Or x.0 x.1) (preceded space (inner spaced inner)).part
behind_key inner (deep.Flat name) = behind_flat name

abbrev pub key_name : Form KeyName
key_name = table deep.Not key_rows key_name_text

-- search-key *(SP search-key) in parentheses
abbrev pub group : Form Key → Form (List Key)
group inner = closed open_paren (several space inner) close_paren

-- a key that may hold such keys
unfoldable pub deep_key : Form Key → Part Key
deep_key inner =
    choose (λ c. c == open_paren) (map_part key_is.Group (group inner).part) (numbers_or (told key_name (behind_key inner) key_text).part)

-- a key in which keys nest at most so deep
abbrev pub key : ℕ → Form Key
key depth = nested key_text flat_key deep_key depth

-- *(SP search-key), behind keys
abbrev pub more_keys : ℕ → List Key → Part (List Key)
more_keys depth so_far = repeat (λ c. c == space) (next_value space (key depth).part) so_far

-- search-key *(SP search-key)
abbrev pub keys : ℕ → Form (List Key)
keys depth = several space (key depth)

-- what stands before a key that so many keys stand before
unfoldable pub separator : ℕ → List ℕ
separator zero = []
separator (suc before) = space ∷ []
