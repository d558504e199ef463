-- A search by keys that rows tell finds among messages what it finds among their rows.
use Rattle.std.proofs.Common.{◌≡◌, ◌∙◌, ℕ, Bool, true, false, not, ◌&&◌, ◌||◌, List, [], ◌∷◌, ◌++◌, map, Option, None, Some, refl, sym, ap, subst}
use Rattle.std.specs.List.{filter, list_all, zip}
use Rattle.std.specs.Option.{option_map, option_to_list}
use Rattle.mail_message.specs.Boxes.{Content, message_at, messages_at, row_of, summary_of}
use Rattle.mail_message.specs.Date.{date_of, is_date, is_calendar, is_clock, is_zone, is_day, is_month, is_below}
use Rattle.mail_message.specs.RowOrder.{row_at}
use Rattle.mail_message.specs.declared.key.Key.{Key, roll-Key}
use Rattle.mail_message.specs.declared.key.Key.TheVariants.{Group, rolls-Group}
use Rattle.mail_message.specs.declared.key.Key.TheOpen.{Key-F}
use Rattle.mail_message.specs.declared.key.Key.TheFolds.{fold-roll-Key, ind-Key, map-Key}
use Rattle.mail_message.specs.declared.message.Message.{Message}
use Rattle.mail_message.specs.declared.message.Row.{Row}
use Rattle.mail_message.specs.declared.message.Summary.{Summary}
use Rattle.mail_search.specs.Matching.{Test, all_match, key_matches, matches_by}
use Rattle.mail_search.specs.Search.{Numbered, found}
use Rattle.imap_types.specs.declared.reply.ReplyLine.TheVariants.{Search}
use Rattle.imap_types.specs.declared.reply.Verdict.TheVariants.{Ok as ok_reply}
use Rattle.mur_model.specs.declared.commands.search.Searching.{Searching}
use Rattle.mur_model.specs.declared.view.View.{View}
use Rattle.mur_model.specs.ClientView.{uids}
use Rattle.mur_model.specs.News.{news}
use Rattle.mur_model.specs.Search.{found_uids, number_at, numbers_told, search_name, search_told}
use Rattle.mur_model.specs.SearchRows.{are_keys_in_rows, bare_at, bare_summary, in_row_by, is_key_in_row, no_date, rows_searched}
use Rattle.mur_model.specs.Selected.{rows_of, with_news}
use Rattle.mur_model.specs.StoreFlags.{code_for}
use Rattle.mur_model.proofs.FetchedAlike.{and_left, and_right}
use Rattle.mur_model.proofs.FetchRowsLaw.{row_found}

-- ---- what the code computes

pub no_date_is_read : date_of no_date ≡ Some no_date
unfolding date_of is_date is_calendar is_clock is_zone is_day is_month is_below
no_date_is_read = refl

grouped : (keys : List Key) → list_all (λ (key : Bool). key) (map is_key_in_row keys) ≡ are_keys_in_rows keys
grouped [] = refl
grouped (key ∷ keys) = ap (λ rest. is_key_in_row key && rest) (grouped keys)

pub group_in_rows : (keys : List Key) → is_key_in_row (Group keys) ≡ are_keys_in_rows keys
group_in_rows keys = ap is_key_in_row (sym (rolls-Group keys)) ∙ fold-roll-Key Bool in_row_by (Key-F.Group keys) ∙ grouped keys

-- ---- a key

-- a message without its date and size
abbrev bared : Summary → Summary
bared message = bare_summary (record { uid = message.uid; flags = message.flags })

-- a key that rows tell takes no notice of those
abbrev IsAlike : Key → Type 0
IsAlike key = is_key_in_row key ≡ true → (message : Summary) (number : ℕ) → key_matches key (bared message) number ≡ key_matches key message number

-- a key with a proof of it
abbrev Shown : Type 0
Shown = (key : Key) × IsAlike key

abbrev keys_of : List Shown → List Key
keys_of shown = map (λ (it : Shown). it.0) shown

-- the same of a key, by the tests of those in it
abbrev IsAlikeBy : Key-F Key → Type 0
IsAlikeBy layer =
    in_row_by (map-Key Key Bool is_key_in_row layer) ≡ true → (message : Summary) (number : ℕ)
    → matches_by (map-Key Key Test key_matches layer) (bared message) number ≡ matches_by (map-Key Key Test key_matches layer) message number

both : (one other two more : Bool) → one ≡ other → two ≡ more → (one && two) ≡ (other && more)
both one other two more same alike = rw (same, alike) refl

either : (one other two more : Bool) → one ≡ other → two ≡ more → (one || two) ≡ (other || more)
either one other two more same alike = rw (same, alike) refl

group_alike : (shown : List Shown) → list_all (λ (key : Bool). key) (map is_key_in_row (keys_of shown)) ≡ true → (message : Summary) (number : ℕ)
    → list_all (λ (test : Test). test (bared message) number) (map key_matches (keys_of shown))
    ≡ list_all (λ (test : Test). test message number) (map key_matches (keys_of shown))
group_alike [] are message number = refl
group_alike (it ∷ shown) are message number =
    let others : Bool = list_all (λ (key : Bool). key) (map is_key_in_row (keys_of shown)) in
    both _ _ _ _ (it.1 (and_left (is_key_in_row it.0) others are) message number)
    (group_alike shown (and_right (is_key_in_row it.0) others are) message number)

layer_alike : (layer : Key-F Shown) → IsAlikeBy (map-Key Shown Key (λ it. it.0) layer)
layer_alike (Key-F.Larger size) are message number = absurd (cc)
layer_alike (Key-F.Smaller size) are message number = absurd (cc)
layer_alike (Key-F.Before day) are message number = absurd (cc)
layer_alike (Key-F.On day) are message number = absurd (cc)
layer_alike (Key-F.Since day) are message number = absurd (cc)
layer_alike (Key-F.Not it) are message number = ap not (it.1 are message number)
layer_alike (Key-F.Or one other) are message number =
    either _ _ _ _ (one.1 (and_left (is_key_in_row one.0) (is_key_in_row other.0) are) message number)
    (other.1 (and_right (is_key_in_row one.0) (is_key_in_row other.0) are) message number)
layer_alike (Key-F.Group shown) are message number = group_alike shown are message number
layer_alike layer are message number = refl

rolled_alike : (layer : Key-F Key) → IsAlikeBy layer → IsAlike (roll-Key layer)
rolled_alike layer alike are message number =
    subst (λ (test : Test). test (bared message) number ≡ test message number) (sym (fold-roll-Key Test matches_by layer))
    (alike (sym (fold-roll-Key Bool in_row_by layer) ∙ are) message number)

key_alike : (key : Key) → IsAlike key
key_alike = ind-Key IsAlike (λ layer shown is. rolled_alike layer (subst IsAlikeBy is (layer_alike shown)))

keys_alike : (keys : List Key) → are_keys_in_rows keys ≡ true → (message : Summary) (number : ℕ)
    → all_match keys (bared message) number ≡ all_match keys message number
keys_alike [] are message number = refl
keys_alike (key ∷ keys) are message number =
    both _ _ _ _ (key_alike key (and_left (is_key_in_row key) (are_keys_in_rows keys) are) message number)
    (keys_alike keys (and_right (is_key_in_row key) (are_keys_in_rows keys) are) message number)

-- ---- messages

bared_by : (message : Option Message) (row : Option Row) (before : List Message) (bares : List Summary) → row ≡ option_map row_of message
    → bares ≡ map bared (map summary_of before)
    → option_to_list (option_map bare_summary row) ++ bares ≡ map bared (map summary_of (option_to_list message ++ before))
bared_by None row before bares found same = rw (found, same) refl
bared_by (Some message) row before bares found same = rw (found, same) refl

bared_at : (messages : List Message) (uids : List ℕ) → bare_at (map row_of messages) uids ≡ map bared (map summary_of (messages_at messages uids))
bared_at messages [] = refl
bared_at messages (uid ∷ uids) =
    bared_by (message_at messages uid) (row_at (map row_of messages) uid) (messages_at messages uids) (bare_at (map row_of messages) uids)
    (row_found messages uid) (bared_at messages uids)

-- ---- what is found

abbrev uids_in : List Key → Numbered → List ℕ
uids_in keys rows = map (λ (row : Summary × ℕ). row.0.uid) (filter (λ (row : Summary × ℕ). all_match keys row.0 row.1) rows)

found_by : (keys : List Key) (message : Summary) (number : ℕ) (rest others : Numbered) (is : Bool) → all_match keys message number ≡ is
    → all_match keys (bared message) number ≡ is → uids_in keys rest ≡ uids_in keys others
    → uids_in keys ((message, number) ∷ rest) ≡ uids_in keys ((bared message, number) ∷ others)
found_by keys message number rest others true one other same = rw (one, other, same) refl
found_by keys message number rest others false one other same = rw (one, other, same) refl

abbrev numbers_in : List Row → List Summary → List ℕ
numbers_in rows messages = map (λ (message : Summary). number_at rows message.uid) messages

found_alike : (keys : List Key) (rows : List Row) (messages : List Summary) → are_keys_in_rows keys ≡ true
    → found keys messages (numbers_in rows messages) ≡ found keys (map bared messages) (numbers_in rows (map bared messages))
found_alike keys rows [] are = refl
found_alike keys rows (message ∷ messages) are =
    let number : ℕ = number_at rows message.uid in
    found_by keys message number (zip messages (numbers_in rows messages)) (zip (map bared messages) (numbers_in rows (map bared messages)))
    (all_match keys message number) refl (keys_alike keys are message number) (found_alike keys rows messages are)

-- what is told of the messages of a mailbox that stays as it is
pub rows_search : (view : View) (it : Searching) (box : Content) → are_keys_in_rows it.keys ≡ true
    → search_told view it (map summary_of (messages_at box.messages (uids view.rows))) (rows_of box) ≡ rows_searched view it (rows_of box)
rows_search view it box are =
    let before : List Summary = map summary_of (messages_at box.messages (uids view.rows)) in
    let same : found_uids it view.rows before ≡ found_uids it view.rows (bare_at (rows_of box) (uids view.rows)) =
    found_alike it.keys view.rows before are
    ∙ ap (found_uids it view.rows) (sym (bared_at box.messages (uids view.rows))) in
    ap (λ (all : List ℕ). with_news view (Search it.by_uid (numbers_told it.by_uid view.rows all) ∷ []) (news view.rows (rows_of box) it.by_uid [])
    (ok_reply (code_for it.by_uid (rows_of box) (uids view.rows)) (search_name it.by_uid))) same
