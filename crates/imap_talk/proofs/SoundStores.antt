-- Messages stay sound, whatever changes at a mailbox.
use Rattle.std.proofs.Common.{◌≡◌, ℕ, Bool, true, false, not, if◌then◌else◌, List, [], ◌∷◌, map, Option, None, Some, subst, sym}
use Rattle.std.specs.List.{fold}
use Rattle.std.specs.Prelude.{All, IfSome, ⊤}
use Rattle.std.specs.Option.{option_to_list}
use Rattle.std.specs.BTreeMap.{is_at}
use Rattle.std.specs.Cmp.Lexicographic.{slice_cmp}
use Rattle.std.specs.Ordering.{nat_cmp, match_ordering}
use Rattle.std.specs.declared.cmp.Ordering.{Ordering}
use Rattle.std.specs.declared.cmp.Ordering.TheVariants.{Less, Equal, Greater}
use Rattle.std.proofs.lemmas.List.Elements.{All-nil, All-cons, All-head, All-tail, All-append, All-map, All-weaker, All-filter}
use Rattle.std.proofs.lemmas.Map.{keys-set_value}
use Rattle.std.proofs.lemmas.Map.Views.{All-insert_key, All-keys-insert_entry, All-values-insert_entry, All-values-set_value, IfSome-lookup_from_All}
use Rattle.mur_base.specs.Names.{mail_name_fault}
use Rattle.mail_message.specs.Boxes.{Content, content_after, content_after_all, has_uid, message_at, messages_after, messages_at, relabelled, row_of}
use Rattle.mail_message.specs.Boxes.{with_flags, with_message}
use Rattle.mail_message.specs.FlagSets.{Flags, HasRuledKeywords, flags_after}
use Rattle.mail_message.specs.Keywords.{keyword_fault, with_keyword, with_keywords, without_keyword, without_keywords}
use Rattle.mail_message.specs.declared.change.Change.{Change}
use Rattle.mail_message.specs.declared.change.Change.TheVariants.{Put, SetFlags, Gone, NextUid}
use Rattle.mail_message.specs.declared.message.Message.{Message}
use Rattle.mail_message.specs.declared.message.Row.{Row}
use Rattle.mail_message.specs.declared.mode.Mode.{Mode}
use Rattle.mail_message.specs.declared.mode.Mode.TheVariants.{Replace, Add, Remove}
use Rattle.mail_store.specs.Append.{appended}
use Rattle.mail_store.specs.Expunge.{expunged, expunged_uids}
use Rattle.mail_store.specs.Named.{set_of}
use Rattle.mail_store.specs.Store.{stored, stored_row, stored_rows, rows_stored}
use Rattle.mur_model.specs.declared.store.Store.{Store}
use Rattle.mur_model.specs.Left.{Left, kept, made, changed, removed, store_after}
use Rattle.mur_model.specs.Select.{keywords_in}
use Rattle.mur_model.specs.Selected.{rows_of}
use Rattle.mur_model.specs.Store.{box_at, empty_store}
use Rattle.mur_model.proofs.BoxGone.{each_left}
use Rattle.imap_talk.specs.SoundRequests.{IsSoundMessage, IsSoundBox, IsSoundStore}
use Rattle.imap_talk.proofs.TurnLines.{found}

abbrev pub IsKeyword : List ℕ → Type 0
IsKeyword keyword = keyword_fault keyword ≡ None

abbrev pub IsSoundRow : Row → Type 0
IsSoundRow row = HasRuledKeywords row.flags

-- keywords

with_all : (keywords others : List (List ℕ)) → All IsKeyword keywords → All IsKeyword others → All IsKeyword (with_keywords keywords others)
with_all keywords [] one other = one
with_all keywords (keyword ∷ others) one other =
    with_all (with_keyword keywords keyword) others
    (All-insert_key (slice_cmp nat_cmp) keyword IsKeyword keywords one (All-head IsKeyword keyword others other)) (All-tail IsKeyword keyword others other)

without_all : (keywords others : List (List ℕ)) → All IsKeyword keywords → All IsKeyword (without_keywords keywords others)
without_all keywords [] one = one
without_all keywords (keyword ∷ others) one =
    without_all (without_keyword keywords keyword) others (All-filter (λ other. not (is_at (slice_cmp nat_cmp keyword) other)) IsKeyword keywords one)

flags_kept : (mode : Mode) (old flags : Flags) → HasRuledKeywords old → HasRuledKeywords flags → HasRuledKeywords (flags_after mode old flags)
flags_kept Replace old flags one other = other
flags_kept Add old flags one other = with_all old.keywords flags.keywords one other
flags_kept Remove old flags one other = without_all old.keywords flags.keywords one

keywords_on : (known : List (List ℕ)) (rows : List Row) → All IsKeyword known → All IsSoundRow rows
    → All IsKeyword (fold (λ (keywords : List (List ℕ)) (row : Row). with_keywords keywords row.flags.keywords) known rows)
keywords_on known [] one all = one
keywords_on known (row ∷ rows) one all =
    keywords_on (with_keywords known row.flags.keywords) rows (with_all known row.flags.keywords one (All-head IsSoundRow row rows all))
    (All-tail IsSoundRow row rows all)

pub keywords_are : (rows : List Row) → All IsSoundRow rows → All IsKeyword (keywords_in rows)
keywords_are rows all = keywords_on [] rows (All-nil IsKeyword) all

-- changes

abbrev IsSoundChange : Change → Type 0
IsSoundChange (Put message) = IsSoundMessage message
IsSoundChange (SetFlags uid flags) = HasRuledKeywords flags
IsSoundChange (Gone uid) = ⊤
IsSoundChange (NextUid next) = ⊤

put_by : (order : Ordering) (message other : Message) (messages more : List Message) → IsSoundMessage message → All IsSoundMessage (other ∷ messages)
    → All IsSoundMessage more
    → All IsSoundMessage (match_ordering order (message ∷ other ∷ messages) (message ∷ messages) (other ∷ more))
put_by Less message other messages more one all rest = All-cons IsSoundMessage message (other ∷ messages) one all
put_by Equal message other messages more one all rest = All-cons IsSoundMessage message messages one (All-tail IsSoundMessage other messages all)
put_by Greater message other messages more one all rest = All-cons IsSoundMessage other more (All-head IsSoundMessage other messages all) rest

put : (messages : List Message) (message : Message) → All IsSoundMessage messages → IsSoundMessage message
    → All IsSoundMessage (with_message messages message)
put [] message all one = All-cons IsSoundMessage message [] one (All-nil IsSoundMessage)
put (other ∷ messages) message all one =
    put_by (nat_cmp message.uid other.uid) message other messages (with_message messages message) one all
    (put messages message (All-tail IsSoundMessage other messages all) one)

labelled : (message : Message) (flags : Flags) → HasRuledKeywords flags → IsSoundMessage message → IsSoundMessage (relabelled message flags)
labelled message flags ruled is = record { ruled = ruled; dated = is.dated; counted = is.counted }

labelled_by : (test : Bool) (message : Message) (flags : Flags) → HasRuledKeywords flags → IsSoundMessage message
    → IsSoundMessage (if test then relabelled message flags else message)
labelled_by true message flags ruled is = labelled message flags ruled is
labelled_by false message flags ruled is = is

change : (messages : List Message) (it : Change) → IsSoundChange it → All IsSoundMessage messages → All IsSoundMessage (messages_after messages it)
change messages (Put message) is all = put messages message all is
change messages (SetFlags uid flags) is all =
    All-map IsSoundMessage (with_flags uid flags) messages
    (All-weaker IsSoundMessage (λ message. IsSoundMessage (with_flags uid flags message))
    (λ message one. labelled_by (has_uid uid message) message flags is one) messages all)
change messages (Gone uid) is all = All-filter (λ message. not (has_uid uid message)) IsSoundMessage messages all
change messages (NextUid next) is all = all

changes : (box : Content) (list : List Change) → All IsSoundChange list → IsSoundBox box → IsSoundBox (content_after_all box list)
changes box [] each all = all
changes box (it ∷ list) each all =
    changes (content_after box it) list (All-tail IsSoundChange it list each)
    (change box.messages it (All-head IsSoundChange it list each) all)

-- the messages and the rows of a mailbox

pub messages_found : (messages : List Message) (uids : List ℕ) → All IsSoundMessage messages → All IsSoundMessage (messages_at messages uids)
messages_found messages [] all = All-nil IsSoundMessage
messages_found messages (uid ∷ uids) all =
    All-append IsSoundMessage (option_to_list (message_at messages uid)) (messages_at messages uids)
    (listed (message_at messages uid) (found IsSoundMessage (has_uid uid) messages all)) (messages_found messages uids all)
  where
    listed : (it : Option Message) → IfSome it IsSoundMessage → All IsSoundMessage (option_to_list it)
    listed None is = All-nil IsSoundMessage
    listed (Some message) is = All-cons IsSoundMessage message [] is (All-nil IsSoundMessage)

pub rows_are : (box : Content) → IsSoundBox box → All IsSoundRow (rows_of box)
rows_are box all =
    All-map IsSoundRow row_of box.messages (All-weaker IsSoundMessage (λ message. IsSoundRow (row_of message)) (λ message is. is.ruled) box.messages all)

store_row : (mode : Mode) (flags : Flags) (it : Option Message) → HasRuledKeywords flags → IfSome it IsSoundMessage
    → All IsSoundRow (stored_row mode flags it)
store_row mode flags None ruled is = All-nil IsSoundRow
store_row mode flags (Some message) ruled is =
    All-cons IsSoundRow (record { uid = message.uid; flags = flags_after mode message.flags flags }) []
    (flags_kept mode message.flags flags is.ruled ruled) (All-nil IsSoundRow)

store_rows : (messages : List Message) (mode : Mode) (flags : Flags) (uids : List ℕ) → HasRuledKeywords flags → All IsSoundMessage messages
    → All IsSoundRow (stored_rows messages mode flags uids)
store_rows messages mode flags [] ruled all = All-nil IsSoundRow
store_rows messages mode flags (uid ∷ uids) ruled all =
    All-append IsSoundRow (stored_row mode flags (message_at messages uid)) (stored_rows messages mode flags uids)
    (store_row mode flags (message_at messages uid) ruled (found IsSoundMessage (has_uid uid) messages all))
    (store_rows messages mode flags uids ruled all)

pub changes_are : (box : Content) (uids : List ℕ) (mode : Mode) (flags : Flags) → HasRuledKeywords flags → IsSoundBox box
    → All IsSoundRow (rows_stored box uids mode flags)
changes_are box uids mode flags ruled all = store_rows box.messages mode flags (set_of uids) ruled all

-- what a command leaves

pub stored_is : (box : Content) (uids : List ℕ) (mode : Mode) (flags : Flags) → HasRuledKeywords flags → IsSoundBox box
    → IsSoundBox (stored box uids mode flags)
stored_is box uids mode flags ruled all =
    let rows = rows_stored box uids mode flags in
    changes box (map (λ (row : Row). SetFlags row.uid row.flags) rows)
    (All-map IsSoundChange (λ (row : Row). SetFlags row.uid row.flags) rows (changes_are box uids mode flags ruled all)) all

pub expunged_is : (box : Content) (only : Option (List ℕ)) → IsSoundBox box → IsSoundBox (expunged box only)
expunged_is box only all =
    changes box (map (λ uid. Gone uid) (expunged_uids box only))
    (All-map IsSoundChange (λ uid. Gone uid) (expunged_uids box only) (λ k d within. tt)) all

pub appended_is : (box : Content) (message : Message) → IsSoundMessage message → IsSoundBox box → IsSoundBox (appended box (message ∷ []))
appended_is box message is all =
    put box.messages (record message { uid = box.next }) all (record { ruled = is.ruled; dated = is.dated; counted = is.counted })

-- the store

-- a mailbox's name keeps the rules of names
abbrev pub HasRuledName : List ℕ → Type 0
HasRuledName name = mail_name_fault name ≡ None

-- what is left at this name
abbrev pub IsSoundLeft : List ℕ → Left → Type 0
IsSoundLeft name kept = ⊤
IsSoundLeft name (made box) = HasRuledName name × IsSoundBox box
IsSoundLeft name (changed box) = IsSoundBox box
IsSoundLeft name removed = ⊤

pub empty_is : IsSoundStore empty_store
empty_is = record { boxes = All-nil IsSoundBox; names = All-nil HasRuledName }

pub box_is : (store : Store) (name : List ℕ) → IsSoundStore store → IfSome (box_at store name) IsSoundBox
box_is store name all = IfSome-lookup_from_All IsSoundBox (is_at (slice_cmp nat_cmp name)) store.boxes all.boxes

pub store_is : (store : Store) (name : List ℕ) (left : Left) → IsSoundLeft name left → IsSoundStore store → IsSoundStore (store_after store name left)
unfolding store_after
store_is store name kept is all = all
store_is store name (made box) is all = record {
  boxes = All-values-insert_entry (slice_cmp nat_cmp) name box IsSoundBox store.boxes all.boxes is.1;
  names = All-keys-insert_entry (slice_cmp nat_cmp) name box HasRuledName store.boxes all.names is.0;
}
store_is store name (changed box) is all = record {
  boxes = All-values-set_value (is_at (slice_cmp nat_cmp name)) IsSoundBox store.boxes box all.boxes is;
  names = subst (All HasRuledName) (sym (keys-set_value (is_at (slice_cmp nat_cmp name)) store.boxes box)) all.names;
}
store_is store name removed is all = record {
  boxes = each_left (λ (e : List ℕ × Content). e.1) IsSoundBox store name all.boxes;
  names = each_left (λ (e : List ℕ × Content). e.0) HasRuledName store name all.names;
}
