-- What is so of each line that tells of a mailbox: of the news of a view, and of STORE and FETCH.
use Rattle.std.proofs.Common.{ℕ, zero, suc, ◌+◌, Bool, true, false, not, ◌&&◌, cond, if◌then◌else◌, List, [], ◌∷◌, ◌++◌, length, map}
use Rattle.std.proofs.Common.{Option, None, Some}
use Rattle.std.specs.List.{find}
use Rattle.std.specs.Prelude.{All, IfSome}
use Rattle.std.proofs.lemmas.List.Elements.{All-nil, All-cons, All-head, All-tail, All-append}
use Rattle.mail_fetch.specs.Parts.{part_text}
use Rattle.mail_message.specs.Boxes.{relabelled}
use Rattle.mail_message.specs.RowOrder.{row_at, is_row_of}
use Rattle.mail_message.specs.declared.message.Message.{Message}
use Rattle.mail_message.specs.declared.message.Row.{Row}
use Rattle.mur_model.specs.declared.commands.fetch.Fetching.{Fetching}
use Rattle.imap_types.specs.declared.reply.ReplyLine.{ReplyLine}
use Rattle.imap_types.specs.declared.reply.ReplyLine.TheVariants.{Exists, Expunge, Fetch}
use Rattle.mur_model.specs.declared.commands.store.FlagStore.{FlagStore}
use Rattle.mur_model.specs.Fetch.{items_told, number_in, fetch_reply_line, fetch_lines}
use Rattle.mur_model.specs.News.{news, told_of, has_row, is_among, expunge_lines, rows_there, rows_behind}
use Rattle.mur_model.specs.News.{exists_lines, changed_lines, changed_line, flag_parts}
use Rattle.mail_message.specs.SameFlags.{is_same_flags}
use Rattle.mur_model.specs.StoreFlags.{stored_line, stored_lines, own_lines}

found_by : {X : Type 0} (Q : X → Type 0) (is : Bool) (item : X) (rest : Option X) → Q item → IfSome rest Q → IfSome (cond is (Some item) rest) Q
found_by Q true item rest one more = one
found_by Q false item rest one more = more

-- what is so of all is so of the one that is found
pub found : {X : Type 0} (Q : X → Type 0) (test : X → Bool) (items : List X) → All Q items → IfSome (find test items) Q
found Q test [] all = tt
found Q test (item ∷ items) all =
    found_by Q (test item) item (find test items) (All-head Q item items all) (found Q test items (All-tail Q item items all))

-- what is so of the lines that tell of messages, where that is so of their rows
pub record OfLines (P : ReplyLine → Type 0) (Q : Row → Type 0) : Type 0 where
  pub exists : (count : ℕ) → P (Exists count)
  pub expunge : (number : ℕ) → P (Expunge number)
  pub flags : (by_uid : Bool) (number : ℕ) (row : Row) → Q row → P (Fetch number (flag_parts by_uid row))

module _ (P : ReplyLine → Type 0) (Q : Row → Type 0) (of : OfLines P Q) where
  expunge_by : (there : Bool) (number : ℕ) (lines others : List ReplyLine) → All P lines → All P others
      → All P (if there then lines else Expunge number ∷ others)
  expunge_by true number lines others one other = one
  expunge_by false number lines others one other = All-cons P (Expunge number) others (of.expunge number) other

  each_expunge : (now : List Row) (number : ℕ) (rows : List Row) → All P (expunge_lines now number rows)
  each_expunge now number [] = All-nil P
  each_expunge now number (row ∷ rows) =
      expunge_by (has_row now row.uid) number (expunge_lines now (number + 1) rows) (expunge_lines now number rows)
      (each_expunge now (number + 1) rows) (each_expunge now number rows)

  exist : (before more : ℕ) → All P (exists_lines before more)
  exist before zero = All-nil P
  exist before (suc more) = All-cons P (Exists (before + suc more)) [] (of.exists (before + suc more)) (All-nil P)

  flags_by : (test : Bool) (number : ℕ) (row : Row) → Q row → All P (if test then Fetch number (flag_parts true row) ∷ [] else [])
  flags_by true number row is = All-cons P (Fetch number (flag_parts true row)) [] (of.flags true number row is) (All-nil P)
  flags_by false number row is = All-nil P

  change : (is_told : Bool) (number : ℕ) (row : Row) (it : Option Row) → IfSome it Q → All P (changed_line is_told number row it)
  change is_told number row None is = All-nil P
  change is_told number row (Some it) is = flags_by (not is_told && not (is_same_flags row.flags it.flags)) number it is

  each_change : (now : List Row) (told : List ℕ) (number : ℕ) (rows : List Row) → All Q now → All P (changed_lines now told number rows)
  each_change now told number [] all = All-nil P
  each_change now told number (row ∷ rows) all =
      All-append P (changed_line (is_among told row.uid) number row (row_at now row.uid)) (changed_lines now told (number + 1) rows)
      (change (is_among told row.uid) number row (row_at now row.uid) (found Q (is_row_of row.uid) now all))
      (each_change now told (number + 1) rows all)

  told : (lines : List ReplyLine) (rows now : List Row) (known : List ℕ) → All P lines → All Q now → All P (told_of lines rows now known).lines
  told lines rows now known first all =
      let behind = length (rows_behind rows now) in
      All-append P lines (exists_lines (length rows) behind ++ changed_lines now known 1 rows) first
      (All-append P (exists_lines (length rows) behind) (changed_lines now known 1 rows) (exist (length rows) behind) (each_change now known 1 rows all))

  pub each_news : (rows now : List Row) (expunges : Bool) (known : List ℕ) → All Q now → All P (news rows now expunges known).lines
  unfolding news
  each_news rows now true known all = told (expunge_lines now 1 rows) (rows_there now rows) now known (each_expunge now 1 rows) all
  each_news rows now false known all = told [] rows now known (All-nil P) all

  store : (by_uid : Bool) (number : ℕ) (row : Option Row) → IfSome row Q → All P (stored_line by_uid number row)
  store by_uid number None is = All-nil P
  store by_uid number (Some row) is = All-cons P (Fetch number (flag_parts by_uid row)) [] (of.flags by_uid number row is) (All-nil P)

  each_store : (by_uid : Bool) (changes : List Row) (number : ℕ) (rows : List Row) → All Q changes → All P (stored_lines by_uid changes number rows)
  each_store by_uid changes number [] all = All-nil P
  each_store by_uid changes number (row ∷ rows) all =
      All-append P (stored_line by_uid number (row_at changes row.uid)) (stored_lines by_uid changes (number + 1) rows)
      (store by_uid number (row_at changes row.uid) (found Q (is_row_of row.uid) changes all))
      (each_store by_uid changes (number + 1) rows all)

  silent_or_not : (is_silent : Bool) (lines : List ReplyLine) → All P lines → All P (if is_silent then [] else lines)
  silent_or_not true lines all = All-nil P
  silent_or_not false lines all = all

  pub each_own : (it : FlagStore) (changes rows : List Row) → All Q changes → All P (own_lines it changes rows)
  each_own it changes rows all = silent_or_not it.is_silent (stored_lines it.by_uid changes 1 rows) (each_store it.by_uid changes 1 rows all)

-- the line of a message in a FETCH
abbrev pub fetched : Fetching → ℕ → Message → Row → Bool → ReplyLine
fetched it number message row changes = Fetch number (map (λ asked. part_text asked (relabelled message row.flags)) (items_told it changes))

module _ (P : ReplyLine → Type 0) (Q : Row → Type 0) (R : Message → Type 0) (it : Fetching)
    (of : (number : ℕ) (message : Message) (row : Row) (changes : Bool) → R message → Q row → P (fetched it number message row changes)) where
  line : (message : Message) (number : Option ℕ) (row : Option Row) → R message → IfSome row Q → All P (fetch_reply_line it message number row)
  line message None row one is = All-nil P
  line message (Some number) None one is = All-nil P
  line message (Some number) (Some row) one is =
      let changes = not (is_same_flags message.flags row.flags) in
      All-cons P (fetched it number message row changes) [] (of number message row changes one is) (All-nil P)

  pub each_fetch : (rows now : List Row) (before : List Message) → All Q now → All R before → All P (fetch_lines it rows now before)
  each_fetch rows now [] all each = All-nil P
  each_fetch rows now (message ∷ before) all each =
      All-append P (fetch_reply_line it message (number_in rows message.uid) (row_at now message.uid)) (fetch_lines it rows now before)
      (line message (number_in rows message.uid) (row_at now message.uid) (All-head R message before each) (found Q (is_row_of message.uid) now all))
      (each_fetch rows now before all (All-tail R message before each))
