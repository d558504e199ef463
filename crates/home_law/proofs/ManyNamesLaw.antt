-- The answers to LIST and FIND, to each name.
use Rattle.std.proofs.Common.{◌≡◌, Bool, true, false, cond, List, [], ◌∷◌, ◌++◌, refl, sym, ◌∙◌, ap, subst, append_assoc}
use Rattle.home_law.specs.Items.{RecordKind, bare, kept, active, NameRecord, no_record, recorded, Server, is_same_server, Seen, free, other, own, Item, backend_up, backend_end, listed_active, listed_reserved, list_ok}
use Rattle.home_law.specs.Steps.{answer_list, answer_find}
use Rattle.home_law.specs.Link.{see}
use Rattle.home_law.specs.ManyNames.{Mailbox, is_same_mailbox, SentLine, sent_list, sent_find, with_line, mailbox_told, reserve_told, ok_told, no_told, BackMessage, up_told, end_told, response, line_items, ok_items, no_items, downs_of, left_of, NameRow, row_at, HasNoRow, AreOnce, row_line, list_lines, list_answer, ListsEach, find_answer, find_items, FindsEach}
use Rattle.home_law.proofs.SameName.{is_the_same, is_another}

-- what comes after other messages is read by the lines that they leave
pub downs-append : (n : Mailbox) (sents : List SentLine) (one two : List BackMessage) → downs_of n sents (one ++ two) ≡ downs_of n sents one ++ downs_of n (left_of one sents) two
unfolding downs_of left_of
downs-append n sents [] two = refl
downs-append n sents (up_told ∷ one) two = ap (λ l. backend_up ∷ l) (downs-append n sents one two)
downs-append n sents (end_told ∷ one) two = ap (λ l. backend_end ∷ l) (downs-append n sents one two)
downs-append n [] (response ok_told ∷ one) two = downs-append n [] one two
downs-append n [] (response no_told ∷ one) two = downs-append n [] one two
downs-append n [] (response (mailbox_told m) ∷ one) two = downs-append n [] one two
downs-append n [] (response (reserve_told m) ∷ one) two = downs-append n [] one two
downs-append n (sent ∷ sents) (response (mailbox_told m) ∷ one) two =
    ap (λ l. line_items n sent m listed_active ++ l) (downs-append n (with_line sent ∷ sents) one two) ∙ sym (append_assoc (line_items n sent m listed_active) _ _)
downs-append n (sent ∷ sents) (response (reserve_told m) ∷ one) two =
    ap (λ l. line_items n sent m listed_reserved ++ l) (downs-append n (with_line sent ∷ sents) one two) ∙ sym (append_assoc (line_items n sent m listed_reserved) _ _)
downs-append n (sent ∷ sents) (response ok_told ∷ one) two = ap (λ l. ok_items n sent ++ l) (downs-append n sents one two) ∙ sym (append_assoc (ok_items n sent) _ _)
downs-append n (sent ∷ sents) (response no_told ∷ one) two = ap (λ l. no_items n sent ++ l) (downs-append n sents one two) ∙ sym (append_assoc (no_items n sent) _ _)

-- the lines of a list, to a name
unfoldable row_items : RecordKind → List Item
row_items active = listed_active ∷ []
row_items bare = listed_reserved ∷ []
row_items kept = listed_reserved ∷ []

unfoldable seen_items : Seen → List Item
seen_items free = []
seen_items other = []
seen_items (own active) = listed_active ∷ []
seen_items (own bare) = listed_reserved ∷ []
seen_items (own kept) = listed_reserved ∷ []

tells_so : (s : Seen) → (answer_list s).says ≡ seen_items s ++ list_ok ∷ []
unfolding answer_list seen_items
tells_so free = refl
tells_so other = refl
tells_so (own active) = refl
tells_so (own bare) = refl
tells_so (own kept) = refl

kind_items : (k : RecordKind) (n m : Mailbox) (rest : List SentLine) (queue : List BackMessage)
    → downs_of n (sent_list ∷ rest) (response (row_line k m) ∷ queue) ≡ cond (is_same_mailbox m n) (row_items k) [] ++ downs_of n (sent_list ∷ rest) queue
unfolding downs_of line_items row_line row_items with_line
kind_items active n m rest queue = refl
kind_items bare n m rest queue = refl
kind_items kept n m rest queue = refl

own_items : (k : RecordKind) → seen_items (own k) ≡ row_items k
unfolding seen_items row_items
own_items active = refl
own_items bare = refl
own_items kept = refl

no_items_by : (rows : List NameRow) (row : NameRow) (b : Server) (n : Mailbox) (rest : List SentLine) (tail : List BackMessage) → is_same_mailbox row.name n ≡ false
    → downs_of n (sent_list ∷ rest) (list_lines rows b ++ tail) ≡ downs_of n (sent_list ∷ rest) tail → (t : Bool)
    → downs_of n (sent_list ∷ rest) ((cond t (response (row_line row.kind row.name) ∷ []) [] ++ list_lines rows b) ++ tail) ≡ downs_of n (sent_list ∷ rest) tail
no_items_by rows row b n rest tail apart more true =
    kind_items row.kind n row.name rest (list_lines rows b ++ tail)
    ∙ ap (λ c. cond c (row_items row.kind) [] ++ downs_of n (sent_list ∷ rest) (list_lines rows b ++ tail)) apart ∙ more
no_items_by rows row b n rest tail apart more false = more

none_of : (rows : List NameRow) (b : Server) (n : Mailbox) (rest : List SentLine) (tail : List BackMessage) → HasNoRow rows n
    → downs_of n (sent_list ∷ rest) (list_lines rows b ++ tail) ≡ downs_of n (sent_list ∷ rest) tail
unfolding list_lines HasNoRow
none_of [] b n rest tail none = refl
none_of (row ∷ rows) b n rest tail none =
    no_items_by rows row b n rest tail (is_another row.name n none.0) (none_of rows b n rest tail none.1) (is_same_server row.server b)

items_mine : (row : NameRow) (b : Server) (n : Mailbox) (rest : List SentLine) (queue tail : List BackMessage) → is_same_mailbox row.name n ≡ true
    → downs_of n (sent_list ∷ rest) queue ≡ downs_of n (sent_list ∷ rest) tail → (t : Bool) → is_same_server row.server b ≡ t
    → downs_of n (sent_list ∷ rest) (cond t (response (row_line row.kind row.name) ∷ []) [] ++ queue)
    ≡ seen_items (see (recorded row.kind row.server) b) ++ downs_of n (sent_list ∷ rest) tail
unfolding see seen_items
items_mine row b n rest queue tail e mine true f =
    kind_items row.kind n row.name rest queue
    ∙ ap (λ c. cond c (row_items row.kind) [] ++ downs_of n (sent_list ∷ rest) queue) e
    ∙ ap (λ l. row_items row.kind ++ l) mine
    ∙ ap (λ l. l ++ downs_of n (sent_list ∷ rest) tail) (sym (own_items row.kind) ∙ sym (ap (λ c. seen_items (cond c (own row.kind) other)) f))
items_mine row b n rest queue tail e mine false f = mine ∙ sym (ap (λ c. seen_items (cond c (own row.kind) other) ++ downs_of n (sent_list ∷ rest) tail) f)

items_by : (rows : List NameRow) (row : NameRow) (b : Server) (n : Mailbox) (rest : List SentLine) (tail : List BackMessage) → HasNoRow rows row.name
    → downs_of n (sent_list ∷ rest) (list_lines rows b ++ tail) ≡ seen_items (see (row_at rows n) b) ++ downs_of n (sent_list ∷ rest) tail
    → (same : Bool) → is_same_mailbox row.name n ≡ same → (t : Bool) → is_same_server row.server b ≡ t
    → downs_of n (sent_list ∷ rest) ((cond t (response (row_line row.kind row.name) ∷ []) [] ++ list_lines rows b) ++ tail)
    ≡ seen_items (see (cond same (recorded row.kind row.server) (row_at rows n)) b) ++ downs_of n (sent_list ∷ rest) tail
items_by rows row b n rest tail none more true e t f =
    let same = is_the_same row.name n e in
    ap (λ q. downs_of n (sent_list ∷ rest) q) (append_assoc (cond t (response (row_line row.kind row.name) ∷ []) []) (list_lines rows b) tail)
    ∙ items_mine row b n rest (list_lines rows b ++ tail) tail e (none_of rows b n rest tail (subst (λ x. HasNoRow rows x) same none)) t f
items_by rows row b n rest tail none more false e true f =
    kind_items row.kind n row.name rest (list_lines rows b ++ tail)
    ∙ ap (λ c. cond c (row_items row.kind) [] ++ downs_of n (sent_list ∷ rest) (list_lines rows b ++ tail)) e ∙ more
items_by rows row b n rest tail none more false e false f = more

all_items_of : (rows : List NameRow) (b : Server) (n : Mailbox) (rest : List SentLine) (tail : List BackMessage) → AreOnce rows
    → downs_of n (sent_list ∷ rest) (list_lines rows b ++ tail) ≡ seen_items (see (row_at rows n) b) ++ downs_of n (sent_list ∷ rest) tail
unfolding list_lines AreOnce row_at see seen_items
all_items_of [] b n rest tail once = refl
all_items_of (row ∷ rows) b n rest tail once =
    items_by rows row b n rest tail once.0 (all_items_of rows b n rest tail once.1) (is_same_mailbox row.name n) refl (is_same_server row.server b) refl

pub lists_each : ListsEach
unfolding downs_of ok_items
lists_each rows b n sents rest queue once first =
    downs-append n sents queue (list_answer rows b)
    ∙ ap (λ o. downs_of n sents queue ++ downs_of n o (list_answer rows b)) first
    ∙ ap (λ l. downs_of n sents queue ++ l)
    (all_items_of rows b n rest (response ok_told ∷ []) once ∙ sym (tells_so (see (row_at rows n) b)))

finds_by : (it : NameRecord) (b : Server) (m n : Mailbox) (rest : List SentLine) (same : Bool) → is_same_mailbox m n ≡ same
    → downs_of n (sent_find m false ∷ rest) (find_answer m it) ≡ cond same (answer_find (see it b)).says []
unfolding downs_of line_items ok_items with_line find_answer see answer_find
finds_by no_record b m n rest true e = rw e refl
finds_by no_record b m n rest false e = rw e refl
finds_by (recorded k z) b m n rest same e = by k (is_same_server z b) same e
  where
    by : (j : RecordKind) (t : Bool) (s : Bool) → is_same_mailbox m n ≡ s
        → downs_of n (sent_find m false ∷ rest) (find_answer m (recorded j z)) ≡ cond s (answer_find (cond t (own j) other)).says []
    by active true true e = rw e refl
    by active false true e = rw e refl
    by active true false e = rw e refl
    by active false false e = rw e refl
    by bare true true e = rw e refl
    by bare false true e = rw e refl
    by bare true false e = rw e refl
    by bare false false e = rw e refl
    by kept true true e = rw e refl
    by kept false true e = rw e refl
    by kept true false e = rw e refl
    by kept false false e = rw e refl

pub finds_each : FindsEach
unfolding find_items
finds_each it b m n sents rest queue first =
    downs-append n sents queue (find_answer m it)
    ∙ ap (λ o. downs_of n sents queue ++ downs_of n o (find_answer m it)) first
    ∙ ap (λ l. downs_of n sents queue ++ l) (finds_by it b m n rest (is_same_mailbox m n) refl)
