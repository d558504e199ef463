-- The entry of a STORE has only the rows that differ, and makes of a content what the STORE makes of it.
use Rattle.std.proofs.Common.{◌≡◌, ◌⊎◌, ℕ, ◌<◌, nat_eq, Bool, true, false, not, cond, List, [], ◌∷◌, ◌++◌, map, Option, None, Some, inl, inr, refl, sym, ◌∙◌, ap, subst, arith}
use Rattle.std.specs.List.{AllByRecursion}
use Rattle.std.specs.List.Sorted.{IsStrictlySortedBy}
use Rattle.std.specs.Ordering.{nat_cmp}
use Rattle.std.specs.declared.cmp.Ordering.TheVariants.{Less}
use Rattle.std.proofs.lemmas.Bool.Decides.{nat_tests}
use Rattle.std.proofs.lemmas.Cmp.{ranked}
use Rattle.mail_message.specs.declared.change.Change.TheVariants.{SetFlags}
use Rattle.mail_message.specs.declared.message.Message.{Message}
use Rattle.mail_message.specs.declared.message.Row.{Row}
use Rattle.mail_message.specs.declared.mode.Mode.{Mode}
use Rattle.mail_message.specs.Boxes.{Content, content_after, content_after_all, message_at, relabelled, uids_of, with_flags, IsRising}
use Rattle.mail_message.specs.FlagSets.{Flags, flags_after}
use Rattle.mail_message.specs.SameFlags.{is_same_flags}
use Rattle.mail_message.proofs.FlagLaw.{same_flags_decide}
use Rattle.mail_message.proofs.FoundUids.{IsOf, found_is}
use Rattle.mail_store.specs.Named.{set_of}
use Rattle.mail_store.specs.Store.{flag_changes, rows_stored, stored, stored_row, stored_rows}
use Rattle.node_record.specs.Held.{relabels}
use Rattle.backend_core.specs.Flags.{differing, differs_from}

-- a message, and messages, with the flags of rows in their order
abbrev labels : Message → List Row → Message
labels message [] = message
labels message (row ∷ rows) = labels (with_flags row.uid row.flags message) rows

abbrev all_labels : List Message → List Row → List Message
all_labels messages [] = messages
all_labels messages (row ∷ rows) = all_labels (map (with_flags row.uid row.flags) messages) rows

labels_content : (box : Content) (rows : List Row) → content_after_all box (flag_changes rows) ≡ record box { messages = all_labels box.messages rows }
labels_content box [] = refl
labels_content box (row ∷ rows) = labels_content (content_after box (SetFlags row.uid row.flags)) rows

all_none : (rows : List Row) → all_labels [] rows ≡ []
all_none [] = refl
all_none (row ∷ rows) = all_none rows

all_cons : (message : Message) (messages : List Message) (rows : List Row)
    → all_labels (message ∷ messages) rows ≡ labels message rows ∷ all_labels messages rows
all_cons message messages [] = refl
all_cons message messages (row ∷ rows) = all_cons (with_flags row.uid row.flags message) (map (with_flags row.uid row.flags) messages) rows

-- ---- one message: its flags are now those that it had, or already those after the STORE

abbrev rows_of : Content → Mode → Flags → List ℕ → List Row
rows_of box mode flags uids = stored_rows box.messages mode flags uids

abbrev AreNow : Mode → Flags → Message → Flags → Type 0
AreNow mode flags message now = (now ≡ message.flags) ⊎ (now ≡ flags_after mode message.flags flags)

abbrev IsSame : Content → Message → Flags → List Row → Type 0
IsSame box message now rows = labels (relabelled message now) rows ≡ labels (relabelled message now) (differing box rows)

-- the message itself is found, and no flags change
already : (mode : Mode) (flags now : Flags) (message : Message) → AreNow mode flags message now
    → is_same_flags message.flags (flags_after mode message.flags flags) ≡ true → flags_after mode message.flags flags ≡ now
already mode flags now message are same =
    let is = (same_flags_decide message.flags (flags_after mode message.flags flags)).0 same in
    elim are [ inl e ↦ sym (e ∙ is) | inr e ↦ sym e ]

row_by : (box : Content) (mode : Mode) (flags now : Flags) (message other : Message) (rows : List Row) (mine same : Bool)
    → AreNow mode flags message now
    → (nat_eq message.uid other.uid ≡ true → message ≡ other)
    → nat_eq message.uid other.uid ≡ mine → is_same_flags other.flags (flags_after mode other.flags flags) ≡ same
    → ((later : Flags) → AreNow mode flags message later → IsSame box message later rows)
    → labels (with_flags other.uid (flags_after mode other.flags flags) (relabelled message now)) rows
    ≡ labels (relabelled message now) (cond (not same) ((record { uid = other.uid; flags = flags_after mode other.flags flags }) ∷ differing box rows) (differing box rows))
row_by box mode flags now message other rows false true are one mine same more = rw mine (more now are)
row_by box mode flags now message other rows false false are one mine same more =
    let stays : with_flags other.uid (flags_after mode other.flags flags) (relabelled message now) ≡ relabelled message now = rw mine refl in
    subst (λ (m : Message). labels m rows ≡ labels m (differing box rows)) (sym stays) (more now are)
row_by box mode flags now message other rows true true are one mine same more =
    let is = one mine in
    let unchanged = already mode flags now message are (subst (λ (m : Message). is_same_flags m.flags (flags_after mode m.flags flags) ≡ true) (sym is) same) in
    rw mine
    (subst (λ (m : Message). labels (relabelled message (flags_after mode m.flags flags)) rows ≡ labels (relabelled message now) (differing box rows)) is
    (subst (λ f. labels (relabelled message f) rows ≡ labels (relabelled message now) (differing box rows)) (sym unchanged) (more now are)))
row_by box mode flags now message other rows true false are one mine same more =
    let turns : with_flags other.uid (flags_after mode other.flags flags) (relabelled message now) ≡ relabelled message (flags_after mode other.flags flags) =
    rw mine refl in
    subst (λ (m : Message). labels m rows ≡ labels m (differing box rows)) (sym turns)
    (subst (λ (m : Message). IsSame box message (flags_after mode m.flags flags) rows) (one mine)
    (more (flags_after mode message.flags flags) (inr refl)))

one_by : (box : Content) (mode : Mode) (flags now : Flags) (message : Message) (uid : ℕ) (rows : List Row) (found : Option Message)
    → message_at box.messages message.uid ≡ Some message → AreNow mode flags message now
    → message_at box.messages uid ≡ found → IsOf uid found
    → ((later : Flags) → AreNow mode flags message later → IsSame box message later rows)
    → IsSame box message now (stored_row mode flags found ++ rows)
unfolding differs_from
one_by box mode flags now message uid rows None own are at of more = more now are
one_by box mode flags now message uid rows (Some other) own are at of more =
    let there : message_at box.messages other.uid ≡ Some other = ap (message_at box.messages) of ∙ at in
    let row : Row = record { uid = other.uid; flags = flags_after mode other.flags flags } in
    let one : nat_eq message.uid other.uid ≡ true → message ≡ other =
    λ e. (let same : message.uid ≡ other.uid = grind (arith, nat_tests, e) in
    let both : Some message ≡ Some other = sym own ∙ ap (message_at box.messages) same ∙ there in cc) in
    subst (λ f. labels (with_flags other.uid (flags_after mode other.flags flags) (relabelled message now)) rows
    ≡ labels (relabelled message now) (cond (differs_from row f) (row ∷ differing box rows) (differing box rows))) (sym there)
    (row_by box mode flags now message other rows (nat_eq message.uid other.uid) (is_same_flags other.flags (flags_after mode other.flags flags)) are one refl
    refl more)

one_same : (box : Content) (mode : Mode) (flags now : Flags) (message : Message) (uids : List ℕ)
    → message_at box.messages message.uid ≡ Some message → AreNow mode flags message now → IsSame box message now (rows_of box mode flags uids)
one_same box mode flags now message [] own are = refl
one_same box mode flags now message (uid ∷ uids) own are =
    one_by box mode flags now message uid (rows_of box mode flags uids) (message_at box.messages uid) own are refl (found_is box.messages uid)
    (λ later is. one_same box mode flags later message uids own is)

-- ---- all messages, each of which is found by its UID

abbrev AreOwn : List Message → List Message → Type 0
AreOwn messages some = AllByRecursion (λ (message : Message). message_at messages message.uid ≡ Some message) some

all_same : (box : Content) (mode : Mode) (flags : Flags) (uids : List ℕ) (messages : List Message) → AreOwn box.messages messages
    → all_labels messages (rows_of box mode flags uids) ≡ all_labels messages (differing box (rows_of box mode flags uids))
all_same box mode flags uids [] own = all_none (rows_of box mode flags uids) ∙ sym (all_none (differing box (rows_of box mode flags uids)))
all_same box mode flags uids (message ∷ messages) own =
    let first : IsSame box message message.flags (rows_of box mode flags uids) = one_same box mode flags message.flags message uids own.0 (inl refl) in
    all_cons message messages (rows_of box mode flags uids)
    ∙ ap (λ it. it ∷ all_labels messages (rows_of box mode flags uids)) first
    ∙ ap (λ rest. labels message (differing box (rows_of box mode flags uids)) ∷ rest) (all_same box mode flags uids messages own.1)
    ∙ sym (all_cons message messages (differing box (rows_of box mode flags uids)))

apart : (low high : ℕ) → nat_cmp low high ≡ Less → nat_eq low high ≡ false
apart low high less = let lt : low < high = ranked low high Less (sym less) in grind (arith, nat_tests, lt)

own_more : (first : Message) (messages some : List Message) → AllByRecursion (λ other. nat_cmp first.uid other ≡ Less) (uids_of some)
    → AreOwn messages some → AreOwn (first ∷ messages) some
own_more first messages [] above own = tt
own_more first messages (message ∷ some) above own =
    (rw (apart first.uid message.uid above.0) own.0, own_more first messages some above.1 own.1)

itself : (uid : ℕ) → nat_eq uid uid ≡ true
itself uid = grind (arith, nat_tests)

own_each : (messages : List Message) → IsRising messages → AreOwn messages messages
unfolding IsStrictlySortedBy
own_each [] rising = tt
own_each (message ∷ messages) rising = (rw (itself message.uid) refl, own_more message messages messages rising.0 (own_each messages rising.1))

-- where each UID stands once
pub flagged_makes : (box : Content) (uids : List ℕ) (mode : Mode) (flags : Flags) → IsRising box.messages
    → content_after_all box (relabels (differing box (rows_stored box uids mode flags))) ≡ stored box uids mode flags
flagged_makes box uids mode flags rising =
    let rows = rows_stored box uids mode flags in
    labels_content box (differing box rows)
    ∙ ap (λ (messages : List Message). record box { messages = messages })
    (sym (all_same box mode flags (set_of uids) box.messages (own_each box.messages rising)))
    ∙ sym (labels_content box rows)
