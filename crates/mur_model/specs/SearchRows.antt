-- SEARCH and UID SEARCH by keys that ask for neither date nor size of a message (RFC 9051, 6.4.4): the rows of a mailbox tell what is found.
use Rattle.std.specs.Prelude.{ℕ, Bool, true, false, ◌&&◌, List, [], ◌∷◌, ◌++◌, codes}
use Rattle.std.specs.List.{list_all}
use Rattle.std.specs.Option.{option_map, option_to_list}
use Rattle.mail_message.specs.RowOrder.{row_at}
use Rattle.mail_message.specs.declared.key.Key.{Key}
use Rattle.mail_message.specs.declared.key.Key.TheOpen.{Key-F}
use Rattle.mail_message.specs.declared.key.Key.TheFolds.{fold-Key}
use Rattle.mail_message.specs.declared.message.Row.{Row}
use Rattle.mail_message.specs.declared.message.Summary.{Summary}
use Rattle.mur_model.specs.declared.commands.search.Searching.{Searching}
use Rattle.mur_model.specs.declared.session.Turn.{Turn}
use Rattle.mur_model.specs.declared.view.View.{View}
use Rattle.mur_model.specs.ClientView.{uids}
use Rattle.mur_model.specs.Search.{search_told}

-- a key asks for neither date nor size, where this is so of the keys in it
abbrev pub in_row_by : Key-F Bool → Bool
in_row_by (Key-F.Larger size) = false
in_row_by (Key-F.Smaller size) = false
in_row_by (Key-F.Before day) = false
in_row_by (Key-F.On day) = false
in_row_by (Key-F.Since day) = false
in_row_by (Key-F.Not key) = key
in_row_by (Key-F.Or one other) = one && other
in_row_by (Key-F.Group keys) = list_all (λ (key : Bool). key) keys
in_row_by key = true

abbrev pub is_key_in_row : Key → Bool
is_key_in_row = fold-Key Bool in_row_by

-- rows tell which messages all of some keys match
abbrev pub are_keys_in_rows : List Key → Bool
are_keys_in_rows keys = list_all (λ key. is_key_in_row key) keys

-- a date that no key in rows asks for
abbrev pub no_date : List ℕ
no_date = codes " 1-Jan-1970 00:00:00 +0000"

-- a message of which the row alone is known
abbrev pub bare_summary : Row → Summary
bare_summary row = record { uid = row.uid; flags = row.flags; date = no_date; size = 0 }

-- for each UID in its turn such a message, if its row is there
abbrev pub bare_at : List Row → List ℕ → List Summary
bare_at rows [] = []
bare_at rows (uid ∷ uids) = option_to_list (option_map bare_summary (row_at rows uid)) ++ bare_at rows uids

-- what is told where a mailbox has these rows now
abbrev pub rows_searched : View → Searching → List Row → Turn
rows_searched view it now = search_told view it (bare_at now (uids view.rows)) now
