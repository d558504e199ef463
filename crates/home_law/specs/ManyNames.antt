-- The queue to a backend, on which answers about many names are, and what it is to one name. A response names no command: it answers the
-- first of the backend's lines whose last answer hasn't come.
use Rattle.std.specs.Prelude.{◌≡◌, ◌≢◌, ℕ, Bool, true, false, cond, nat_eq, List, [], ◌∷◌, ◌++◌, ⊤}
use Rattle.std.specs.Cmp.Lexicographic.{pointwise}
use Rattle.home_law.specs.Items.{RecordKind, bare, kept, active, NameRecord, no_record, recorded, Server, is_same_server, Item, backend_up, backend_end, listed_active, listed_reserved, list_ok, reserve_ok, reserve_no, make_ok, make_no, again_ok, deactivate_ok, delete_ok, wipe_ok, found, found_ok, not_found}
use Rattle.home_law.specs.Steps.{answer_list, answer_find}
use Rattle.home_law.specs.Link.{see}

-- the name of a mailbox
abbrev pub Mailbox : Type 0
Mailbox = List ℕ

abbrev pub is_same_mailbox : Mailbox → Mailbox → Bool
is_same_mailbox one other = pointwise nat_eq one other

-- a line of the backend whose last answer hasn't come; of a FIND also whether the record's line came
pub data SentLine : Type 0 where
  sent_list : SentLine
  sent_reserve : Mailbox → SentLine
  sent_make : Mailbox → SentLine
  sent_again : Mailbox → SentLine
  sent_deactivate : Mailbox → SentLine
  sent_delete : Mailbox → SentLine
  sent_wipe : Mailbox → SentLine
  sent_find : Mailbox → Bool → SentLine

-- a response: MAILBOX or RESERVE of a name, OK, NO
pub data NameResponse : Type 0 where
  mailbox_told : Mailbox → NameResponse
  reserve_told : Mailbox → NameResponse
  ok_told : NameResponse
  no_told : NameResponse

-- a message to the backend: the link is up from here on, it is down from here on, a response
pub data BackMessage : Type 0 where
  up_told : BackMessage
  end_told : BackMessage
  response : NameResponse → BackMessage

-- the item, if it is about this name
abbrev pub if_named : Mailbox → Mailbox → Item → List Item
if_named m n item = cond (is_same_mailbox m n) (item ∷ []) []

-- the line of a record, as an answer to a LIST or a FIND
unfoldable pub line_items : Mailbox → SentLine → Mailbox → Item → List Item
line_items n sent_list m item = if_named m n item
line_items n (sent_find k told) m item = if_named k n found
line_items n sent m item = []

unfoldable pub ok_items : Mailbox → SentLine → List Item
ok_items n sent_list = list_ok ∷ []
ok_items n (sent_reserve m) = if_named m n reserve_ok
ok_items n (sent_make m) = if_named m n make_ok
ok_items n (sent_again m) = if_named m n again_ok
ok_items n (sent_deactivate m) = if_named m n deactivate_ok
ok_items n (sent_delete m) = if_named m n delete_ok
ok_items n (sent_wipe m) = if_named m n wipe_ok
ok_items n (sent_find m true) = if_named m n found_ok
ok_items n (sent_find m false) = if_named m n not_found

unfoldable pub no_items : Mailbox → SentLine → List Item
no_items n (sent_reserve m) = if_named m n reserve_no
no_items n (sent_make m) = if_named m n make_no
no_items n sent = []

-- the record's line of a FIND has come
unfoldable pub with_line : SentLine → SentLine
with_line (sent_find m told) = sent_find m true
with_line sent = sent

-- what the queue is to the name, by the lines that it answers
unfoldable pub downs_of : Mailbox → List SentLine → List BackMessage → List Item
unfolding line_items ok_items no_items with_line
downs_of n sents [] = []
downs_of n sents (up_told ∷ queue) = backend_up ∷ downs_of n sents queue
downs_of n sents (end_told ∷ queue) = backend_end ∷ downs_of n sents queue
downs_of n [] (response it ∷ queue) = downs_of n [] queue
downs_of n (sent ∷ sents) (response (mailbox_told m) ∷ queue) = line_items n sent m listed_active ++ downs_of n (with_line sent ∷ sents) queue
downs_of n (sent ∷ sents) (response (reserve_told m) ∷ queue) = line_items n sent m listed_reserved ++ downs_of n (with_line sent ∷ sents) queue
downs_of n (sent ∷ sents) (response ok_told ∷ queue) = ok_items n sent ++ downs_of n sents queue
downs_of n (sent ∷ sents) (response no_told ∷ queue) = no_items n sent ++ downs_of n sents queue

-- the lines that are left when the queue was taken
unfoldable pub left_of : List BackMessage → List SentLine → List SentLine
unfolding with_line
left_of [] sents = sents
left_of (response ok_told ∷ queue) [] = left_of queue []
left_of (response no_told ∷ queue) [] = left_of queue []
left_of (response ok_told ∷ queue) (sent ∷ sents) = left_of queue sents
left_of (response no_told ∷ queue) (sent ∷ sents) = left_of queue sents
left_of (response (mailbox_told m) ∷ queue) [] = left_of queue []
left_of (response (reserve_told m) ∷ queue) [] = left_of queue []
left_of (response (mailbox_told m) ∷ queue) (sent ∷ sents) = left_of queue (with_line sent ∷ sents)
left_of (response (reserve_told m) ∷ queue) (sent ∷ sents) = left_of queue (with_line sent ∷ sents)
left_of (message ∷ queue) sents = left_of queue sents

-- the master's table: of each name with a record its kind and the server that it names
pub record NameRow : Type 0 where
  pub name : Mailbox
  pub kind : RecordKind
  pub server : Server

unfoldable pub row_at : List NameRow → Mailbox → NameRecord
row_at [] n = no_record
row_at (row ∷ rows) n = cond (is_same_mailbox row.name n) (recorded row.kind row.server) (row_at rows n)

-- each name has one row
unfoldable pub HasNoRow : List NameRow → Mailbox → Type 0
HasNoRow [] n = ⊤
HasNoRow (row ∷ rows) n = (row.name ≢ n) × HasNoRow rows n

unfoldable pub AreOnce : List NameRow → Type 0
unfolding HasNoRow
AreOnce [] = ⊤
AreOnce (row ∷ rows) = HasNoRow rows row.name × AreOnce rows

unfoldable pub row_line : RecordKind → Mailbox → NameResponse
row_line active m = mailbox_told m
row_line bare m = reserve_told m
row_line kept m = reserve_told m

-- the answer to a backend's LIST: the lines of the records that name it, and OK
unfoldable pub list_lines : List NameRow → Server → List BackMessage
list_lines [] b = []
list_lines (row ∷ rows) b = cond (is_same_server row.server b) (response (row_line row.kind row.name) ∷ []) [] ++ list_lines rows b

abbrev pub list_answer : List NameRow → Server → List BackMessage
list_answer rows b = list_lines rows b ++ response ok_told ∷ []

-- After what is on the link already, the answer to LIST is to each name what the protocol of one name answers to it.
abbrev pub ListsEach : Type 0
ListsEach = (rows : List NameRow) (b : Server) (n : Mailbox) (sents rest : List SentLine) (queue : List BackMessage) → AreOnce rows
    → left_of queue sents ≡ sent_list ∷ rest
    → downs_of n sents (queue ++ list_answer rows b) ≡ downs_of n sents queue ++ (answer_list (see (row_at rows n) b)).says

-- the answer to FIND of a name: the line of its record, and OK
unfoldable pub find_answer : Mailbox → NameRecord → List BackMessage
find_answer m no_record = response ok_told ∷ []
find_answer m (recorded active b) = response (mailbox_told m) ∷ response ok_told ∷ []
find_answer m (recorded k b) = response (reserve_told m) ∷ response ok_told ∷ []

unfoldable pub find_items : Mailbox → Mailbox → NameRecord → Server → List Item
unfolding answer_find
find_items m n it b = cond (is_same_mailbox m n) (answer_find (see it b)).says []

-- And the answer to FIND is to that name what the protocol of one name answers to it, and nothing to others.
abbrev pub FindsEach : Type 0
FindsEach = (it : NameRecord) (b : Server) (m n : Mailbox) (sents rest : List SentLine) (queue : List BackMessage)
    → left_of queue sents ≡ sent_find m false ∷ rest
    → downs_of n sents (queue ++ find_answer m it) ≡ downs_of n sents queue ++ find_items m n it b

-- What comes after other messages is read by the lines that they leave.
abbrev pub ReadsInOrder : Type 0
ReadsInOrder = (n : Mailbox) (sents : List SentLine) (one two : List BackMessage)
    → downs_of n sents (one ++ two) ≡ downs_of n sents one ++ downs_of n (left_of one sents) two
