-- The lines of a STORE and of a FETCH speak of the messages of their numbers.
use Rattle.std.proofs.Common.{◌≡◌, ℕ, zero, suc, ◌+◌, ◌≤◌, ◌==◌, Bool, true, false, not, cond, if◌then◌else◌, List, [], ◌∷◌, ◌++◌, map, Option, None, Some, refl, sym}
use Rattle.std.proofs.Common.{◌∙◌, ap, subst, arith, append-nil}
use Rattle.std.specs.Prelude.{⊤, All, IfSome, slice_get}
use Rattle.std.specs.List.{position_from}
use Rattle.std.specs.Option.{option_map, option_to_list}
use Rattle.std.proofs.lemmas.Bool.Decides.{nat_tests}
use Rattle.std.proofs.lemmas.List.Elements.{All-append, All-cons, All-head, All-nil, All-tail}
use Rattle.mail_fetch.specs.Parts.{part_text}
use Rattle.mail_message.specs.Boxes.{Content, message_at, messages_at, relabelled, row_of}
use Rattle.mail_message.specs.RowOrder.{is_row_of, row_at}
use Rattle.mail_message.specs.SameFlags.{is_same_flags}
use Rattle.mail_message.specs.declared.item.Item.{Item}
use Rattle.mail_message.specs.declared.message.Message.{Message}
use Rattle.mail_message.specs.declared.message.Row.{Row}
use Rattle.mail_message.specs.FlagSets.{Flags}
use Rattle.mail_message.specs.declared.mode.Mode.{Mode}
use Rattle.mail_store.specs.Store.{stored, rows_stored}
use Rattle.mur_model.specs.declared.commands.fetch.Fetching.{Fetching}
use Rattle.mur_model.specs.declared.commands.store.FlagStore.{FlagStore}
use Rattle.mur_model.specs.ClientView.{Known}
use Rattle.mur_model.specs.Fetch.{fetch_lines, fetch_reply_line, items_told, number_in}
use Rattle.mur_model.specs.History.{numbered}
use Rattle.mur_model.specs.Selected.{rows_of}
use Rattle.mur_model.specs.StoreFlags.{own_lines, stored_line, stored_lines}
use Rattle.mur_model.proofs.FetchRowsLaw.{row_found}
use Rattle.store_law.specs.Lines.{IsPartOf}
use Rattle.store_law.proofs.LinesSpoken.{SpeakAlone, both_alone, each_alone, flags_speak, none_alone, one_alone, told_uids}
use Rattle.store_law.proofs.MessagesLeft.{IsWithFlags, IsStoredFlags, stored_left, uid_of_found}
use Rattle.store_law.proofs.MirrorNews.{found_uid, lines_by}
use Rattle.store_law.proofs.StoredFlags.{TellsFlags, stored_told}

-- ---- STORE

stored_as : (by_uid : Bool) (changes : List Row) (number : ℕ) (rows : List Row)
    → stored_lines by_uid changes number rows ≡ lines_by (λ n row. stored_line by_uid n (row_at changes row.uid)) number rows
stored_as by_uid changes number [] = refl
stored_as by_uid changes number (row ∷ rows) =
    ap (λ lines. stored_line by_uid number (row_at changes row.uid) ++ lines) (stored_as by_uid changes (number + 1) rows)

stored_by : (by_uid : Bool) (box : Content) (known : Known) (number : ℕ) (row change : Row) (found : Option Row) → numbered known number ≡ Some (Some row.uid)
    → row_at (rows_of box) row.uid ≡ found → change.uid ≡ row.uid → IfSome found (λ (it : Row). it.uid ≡ row.uid) → TellsFlags change.flags found
    → SpeakAlone box known (stored_line by_uid number (Some change))
stored_by by_uid box known number row change None at there own uid flags = absurd flags
stored_by by_uid box known number row change (Some it) at there own uid flags =
    one_alone box known number _ row.uid at (flags_speak by_uid box row.uid it change there (own ∙ sym uid) (sym flags))

module _ (it : FlagStore) (box : Content) where
  abbrev pub after : Content
  after = stored box it.uids it.mode it.flags

  abbrev pub changes : List Row
  changes = rows_stored box it.uids it.mode it.flags

  stored_one : (known : Known) (number : ℕ) (row : Row) (found : Option Row) → row_at changes row.uid ≡ found → numbered known number ≡ Some (Some row.uid)
      → SpeakAlone after known (stored_line it.by_uid number found)
  stored_one known number row None e at = none_alone after known
  stored_one known number row (Some change) e at =
      stored_by it.by_uid after known number row change (row_at (rows_of after) row.uid) at refl
      (subst (λ (r : Option Row). IfSome r (λ (one : Row). one.uid ≡ row.uid)) e (found_uid changes row.uid)) (found_uid (rows_of after) row.uid)
      (stored_told box it.uids it.mode it.flags row.uid change e)

  own_by : (rows : List Row) (silent : Bool)
      → SpeakAlone after (told_uids rows ++ []) (if silent then [] else stored_lines it.by_uid changes 1 rows)
  own_by rows true = none_alone after (told_uids rows ++ [])
  own_by rows false =
      subst (SpeakAlone after (told_uids rows ++ [])) (sym (stored_as it.by_uid changes 1 rows))
      (each_alone after (λ n row. stored_line it.by_uid n (row_at changes row.uid))
      (λ known number row at. stored_one known number row (row_at changes row.uid) refl at) 1 [] rows [] refl)

  pub own_alone : (rows : List Row) → SpeakAlone after (told_uids rows) (own_lines it changes rows)
  own_alone rows = subst (λ known. SpeakAlone after known (own_lines it changes rows)) (append-nil (told_uids rows)) (own_by rows it.is_silent)

-- ---- FETCH

place_by : (uid before place k : ℕ) (row : Row) (rows : List Row) (same : Bool) → (row.uid == uid) ≡ same
    → cond same (Some before) (position_from (is_row_of uid) (before + 1) rows) ≡ Some place → place ≡ before + k
    → (position_from (is_row_of uid) (before + 1) rows ≡ Some place → before + 1 ≤ place)
    → ((j : ℕ) → position_from (is_row_of uid) (before + 1) rows ≡ Some place → place ≡ before + 1 + j → slice_get (told_uids rows) j ≡ Some (Some uid))
    → slice_get (told_uids (row ∷ rows)) k ≡ Some (Some uid)
place_by uid before place zero row rows true e is far least more = let here : row.uid ≡ uid = grind (arith, nat_tests, e) in ap (λ u. Some (Some u)) here
place_by uid before place (suc k) row rows true e is far least more = let one : before ≡ place = cc in absurd (omega (arith, one, far))
place_by uid before place zero row rows false e is far least more = absurd (omega (arith, far, least is))
place_by uid before place (suc k) row rows false e is far least more = more k is (omega (arith, far))

least_by : (before place : ℕ) (same : Bool) (found : Option ℕ) → cond same (Some before) found ≡ Some place → (found ≡ Some place → before + 1 ≤ place)
    → before ≤ place
least_by before place true found is more = let one : before ≡ place = cc in omega (arith, one)
least_by before place false found is more = omega (arith, more is)

least : (uid before place : ℕ) (rows : List Row) → position_from (is_row_of uid) before rows ≡ Some place → before ≤ place
least uid before place [] is = cc
least uid before place (row ∷ rows) is =
    least_by before place (row.uid == uid) (position_from (is_row_of uid) (before + 1) rows) is (least uid (before + 1) place rows)

place_at : (uid before place k : ℕ) (rows : List Row) → position_from (is_row_of uid) before rows ≡ Some place → place ≡ before + k
    → slice_get (told_uids rows) k ≡ Some (Some uid)
place_at uid before place k [] is far = cc
place_at uid before place k (row ∷ rows) is far =
    place_by uid before place k row rows (row.uid == uid) refl is far (least uid (before + 1) place rows)
    (λ j found apart. place_at uid (before + 1) place j rows found apart)

number_is : (rows : List Row) (uid place : ℕ) → position_from (is_row_of uid) 0 rows ≡ Some place → numbered (told_uids rows) (place + 1) ≡ Some (Some uid)
unfolding numbered
number_is rows uid place is =
    let next : suc place ≡ place + 1 = omega arith in
    subst (λ n. numbered (told_uids rows) n ≡ Some (Some uid)) next (place_at uid 0 place place rows is (omega arith))

parts_all : (message : Message) (items : List Item) → All (IsPartOf message) (map (λ asked. part_text asked message) items)
parts_all message [] = All-nil (IsPartOf message)
parts_all message (asked ∷ items) =
    All-cons (IsPartOf message) (part_text asked message) (map (λ one. part_text one message) items) (record { asked = asked; says = refl })
    (parts_all message items)

-- the message with other flags, where it is there
abbrev pub IsSameBut : Message → Option Message → Type 0
IsSameBut message None = ⊤
IsSameBut message (Some later) = later ≡ relabelled message later.flags

-- what is there of a message that was read before
abbrev pub IsRead : Content → Message → Type 0
IsRead box message = IsSameBut message (message_at box.messages message.uid)

with_row : (message : Message) (row : Row) (found : Option Message) → IsSameBut message found → option_map row_of found ≡ Some row
    → found ≡ Some (relabelled message row.flags)
with_row message row None same is = cc
with_row message row (Some later) same is =
    let own : row_of later ≡ row = cc in
    ap (λ (m : Message). Some m) (same ∙ ap (λ (r : Row). relabelled message r.flags) own)

line_alone : (box : Content) (rows : List Row) (it : Fetching) (message : Message) (place : Option ℕ) (found : Option Row) → IsRead box message
    → position_from (is_row_of message.uid) 0 rows ≡ place → row_at (rows_of box) message.uid ≡ found
    → SpeakAlone box (told_uids rows) (fetch_reply_line it message (option_map (λ p. p + 1) place) found)
line_alone box rows it message None None read at is = none_alone box (told_uids rows)
line_alone box rows it message None (Some row) read at is = none_alone box (told_uids rows)
line_alone box rows it message (Some place) None read at is = none_alone box (told_uids rows)
line_alone box rows it message (Some place) (Some row) read at is =
    one_alone box (told_uids rows) (place + 1) _ message.uid (number_is rows message.uid place at) (record {
      message = relabelled message row.flags;
      there = with_row message row (message_at box.messages message.uid) read (sym (row_found box.messages message.uid) ∙ is);
      parts_of_it = parts_all (relabelled message row.flags) (items_told it (not (is_same_flags message.flags row.flags)));
    })

pub fetch_alone : (box : Content) (rows : List Row) (it : Fetching) (before : List Message) → All (IsRead box) before
    → SpeakAlone box (told_uids rows) (fetch_lines it rows (rows_of box) before)
fetch_alone box rows it [] read = none_alone box (told_uids rows)
fetch_alone box rows it (message ∷ before) read =
    both_alone box (told_uids rows) (fetch_reply_line it message (number_in rows message.uid) (row_at (rows_of box) message.uid))
    (fetch_lines it rows (rows_of box) before)
    (line_alone box rows it message (position_from (is_row_of message.uid) 0 rows) (row_at (rows_of box) message.uid)
    (All-head (IsRead box) message before read) refl refl)
    (fetch_alone box rows it before (All-tail (IsRead box) message before read))

one_read : (box later : Content) (uid : ℕ) (found : Option Message) → message_at box.messages uid ≡ found
    → ((q : ℕ) (message : Message) → message_at box.messages q ≡ Some message → IsSameBut message (message_at later.messages q))
    → All (IsRead later) (option_to_list found)
one_read box later uid None at same = All-nil (IsRead later)
one_read box later uid (Some message) at same =
    All-cons (IsRead later) message []
    (subst (λ q. IsSameBut message (message_at later.messages q)) (sym (uid_of_found box.messages uid message at)) (same uid message at))
    (All-nil (IsRead later))

pub all_read : (box later : Content) (some : List ℕ)
    → ((q : ℕ) (message : Message) → message_at box.messages q ≡ Some message → IsSameBut message (message_at later.messages q))
    → All (IsRead later) (messages_at box.messages some)
all_read box later [] same = All-nil (IsRead later)
all_read box later (uid ∷ some) same =
    All-append (IsRead later) (option_to_list (message_at box.messages uid)) (messages_at box.messages some)
    (one_read box later uid (message_at box.messages uid) refl same) (all_read box later some same)

from_flags : (box : Content) (mode : Mode) (flags : Flags) (some : List ℕ) (message : Message) (found : Option Message)
    → IsWithFlags (IsStoredFlags mode flags some message) message found → IsSameBut message found
from_flags box mode flags some message None is = tt
from_flags box mode flags some message (Some later) is = is.0

pub stored_same : (box : Content) (some : List ℕ) (mode : Mode) (flags : Flags) (q : ℕ) (message : Message) → message_at box.messages q ≡ Some message
    → IsSameBut message (message_at (stored box some mode flags).messages q)
stored_same box some mode flags q message at =
    from_flags box mode flags some message (message_at (stored box some mode flags).messages q) (stored_left box some mode flags q message at)

pub kept_same : (box : Content) (q : ℕ) (message : Message) → message_at box.messages q ≡ Some message → IsSameBut message (message_at box.messages q)
kept_same box q message at = subst (IsSameBut message) (sym at) refl
