-- Access lists and rights (RFC 4314, 3.6 and 3.8).
use Rattle.std.specs.Prelude.{ℕ, Bool, ◌||◌, ◌==◌, if◌then◌else◌, List, [], ◌∷◌, ◌++◌, codes}
use Rattle.std.specs.List.{list_any, slice_split}
use Rattle.mur_base.specs.Ascii.{tab, space}
use Rattle.imap_reply.specs.Mailbox.{mailbox_text}

-- the right k, beside which `c` is told (RFC 4314, 2.1.1)
abbrev pub is_create : ℕ → Bool
is_create letter = letter == 107

-- one of the rights x, t and e, beside which `d` is told (RFC 4314, 2.1.1)
abbrev pub is_delete : ℕ → Bool
is_delete letter = letter == 120 || letter == 116 || letter == 101

unfoldable pub create_text : List ℕ → List ℕ
create_text letters = if list_any is_create letters then codes "c" else []

unfoldable pub delete_text : List ℕ → List ℕ
delete_text letters = if list_any is_delete letters then codes "d" else []

-- the letters, and behind them those of RFC 2086 that they stand for
unfoldable pub rights_text : List ℕ → List ℕ
rights_text letters = letters ++ create_text letters ++ delete_text letters

abbrev pub is_tab : ℕ → Bool
is_tab byte = byte == tab

-- each identifier with its rights; an access list has a TAB behind each, and nothing behind the last
unfoldable pub entries_text : List (List ℕ) → List ℕ
entries_text [] = []
entries_text (identifier ∷ []) = []
entries_text (identifier ∷ rights ∷ fields) = space ∷ (mailbox_text identifier ++ space ∷ (rights_text rights ++ entries_text fields))

unfoldable pub acl_line : List ℕ → List ℕ → List ℕ
acl_line name acl = codes "* ACL " ++ mailbox_text name ++ entries_text (slice_split is_tab acl) ++ codes "\r\n"

unfoldable pub my_rights_line : List ℕ → List ℕ → List ℕ
my_rights_line name letters = codes "* MYRIGHTS " ++ mailbox_text name ++ space ∷ rights_text letters ++ codes "\r\n"
