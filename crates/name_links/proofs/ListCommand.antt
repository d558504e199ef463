-- LIST and FIND: the master's answers are those of a table of many names.
use Rattle.std.proofs.Common.{◌≡◌, ◌≢◌, ◌⊎◌, inl, inr, ℕ, nat_eq, Bool, true, false, ◌&&◌, not, cond, List, [], ◌∷◌, ◌++◌, filter, map, Option, None, Some, refl, sym, ap, subst, ◌∙◌, append_assoc}
use Rattle.std.specs.List.{list_all, AllByRecursion, starts_with, IsDistinct}
use Rattle.std.specs.Map.{keys_of}
use Rattle.std.specs.Ordering.{is_eq, nat_cmp, eq_by_cmp}
use Rattle.std.specs.Cmp.Lexicographic.{slice_cmp}
use Rattle.std.proofs.lemmas.Cmp.{nat_eq_equiv}
use Rattle.std.proofs.lemmas.List.Concat.{flat_map-append}
use Rattle.std.proofs.lemmas.Map.Keys.{IsDistinct-from_sorted}
use Rattle.mur_base.specs.Map.{value_at, IsInOrder}
use Rattle.mur_base.proofs.MapLaws.{names_apart, same_or_other, not_equal}
use Rattle.text_parts.specs.Locations.{bang}
use Rattle.mupdate_codec.specs.declared.command.MResponse.{MResponse}
use Rattle.mupdate_codec.specs.declared.command.MResponse.TheVariants as response
use Rattle.node_record.specs.declared.table.State.{State}
use Rattle.node_record.specs.declared.table.State.TheVariants.{Bare, Kept, Active}
use Rattle.node_record.specs.declared.table.Record.{Record}
use Rattle.node_record.specs.Table.{Records, MailboxTable, record_at}
use Rattle.master_core.specs.Records.{has_prefix, listed_line, is_listed, found_line}
use Rattle.master_core.specs.Replies.{done, find_reply, list_reply}
use Rattle.home_law.specs.Items.{RecordKind, bare, kept, active, NameRecord, no_record, recorded, Server, is_same_server, Seen, free, other, own}
use Rattle.home_law.specs.Steps.{answer_list, answer_find, answer}
use Rattle.home_law.specs.Link.{see, put}
use Rattle.home_law.specs.ManyNames.{Mailbox, SentLine, sent_list, sent_find, BackMessage, response as told, ok_told, NameRow, row_at, HasNoRow, AreOnce, row_line, list_lines, list_answer, find_answer, find_items, downs_of, left_of, with_line}
use Rattle.home_law.proofs.SameName.{is_itself, is_another}
use Rattle.home_law.proofs.ManyNamesLaw.{lists_each, finds_each}
use Rattle.name_flows.specs.OneName.{told_by}
use Rattle.name_links.specs.Known.{known, known_by, kind_of, rows_of}
use Rattle.name_links.specs.Lines.{places_of, items_of, answered}
use Rattle.name_links.specs.Answers.{HasNoBang, IsTable, told_all}
use Rattle.name_links.proofs.Outcome.{put_seen, IsStep}

-- ---- the records at a server are those whose location begins with its name and `!`

not_equal_sign : (b : Bool) → (rest : Bool) → (not b && rest) ≡ true → b ≡ false
not_equal_sign true rest e = cc
not_equal_sign false rest e = refl

rest_holds : (b : Bool) → (rest : Bool) → (b && rest) ≡ true → rest ≡ true
rest_holds true rest e = e
rest_holds false rest e = cc

prefix_is : (b z part : List ℕ) → HasNoBang b → HasNoBang z → starts_with nat_eq (z ++ bang ∷ part) (places_of b) ≡ is_same_server z b
prefix_is [] [] part x y = refl
prefix_is [] (c ∷ z) part x y = rw (nat_eq_equiv.symm 33 c, not_equal_sign (nat_eq c bang) (list_all (λ c. not (nat_eq c bang)) z) y) refl
prefix_is (d ∷ b) [] part x y = rw (not_equal_sign (nat_eq d bang) (list_all (λ c. not (nat_eq c bang)) b) x) refl
prefix_is (d ∷ b) (c ∷ z) part x y =
    rw (nat_eq_equiv.symm d c)
    (ap (λ t. nat_eq c d && t) (prefix_is b z part (rest_holds (not (nat_eq d bang)) (list_all (λ c. not (nat_eq c bang)) b) x) (rest_holds (not (nat_eq c bang)) (list_all (λ c. not (nat_eq c bang)) z) y)))

-- ---- the table as rows

line_is : (e : List ℕ × Record) (s : State) → (e.1).state ≡ s → told_by (listed_line e) ≡ told (row_line (kind_of s) e.0) ∷ []
unfolding row_line
line_is e (Bare serial) at = rw at refl
line_is e (Kept acl) at = rw at refl
line_is e (Active acl) at = rw at refl

lines_by : (b : Server) (e : List ℕ × Record) (es : Records) (t : Bool)
    → told_all (map listed_line (filter (is_listed (Some (places_of b))) es)) ≡ list_lines (rows_of es) b
    → told_all (map listed_line (cond t (e ∷ filter (is_listed (Some (places_of b))) es) (filter (is_listed (Some (places_of b))) es)))
    ≡ cond t (told (row_line (kind_of (e.1).state) e.0) ∷ []) [] ++ list_lines (rows_of es) b
lines_by b e es true ih =
    ap (λ (ms : List BackMessage). ms ++ told_all (map listed_line (filter (is_listed (Some (places_of b))) es))) (line_is e (e.1).state refl)
    ∙ ap (λ (ms : List BackMessage). told (row_line (kind_of (e.1).state) e.0) ∷ ms) ih
lines_by b e es false ih = ih

lines_are : (b : Server) (es : Records) → HasNoBang b → AllByRecursion (λ entry. HasNoBang ((entry.1).place).server) es
    → told_all (map listed_line (filter (is_listed (Some (places_of b))) es)) ≡ list_lines (rows_of es) b
unfolding list_lines
lines_are b [] plain all = refl
lines_are b (e ∷ es) plain all =
    let here : has_prefix (Some (places_of b)) (e.1).place ≡ is_same_server ((e.1).place).server b = prefix_is b ((e.1).place).server ((e.1).place).partition plain all.0 in
    rw here (lines_by b e es (is_same_server ((e.1).place).server b) (lines_are b es plain all.1))

row_by : (e : List ℕ × Record) (es : Records) (n : Mailbox) → row_at (rows_of es) n ≡ known_by (value_at (slice_cmp nat_cmp) es n)
    → (e.0 ≡ n) ⊎ (e.0 ≢ n)
    → row_at (rows_of (e ∷ es)) n ≡ known_by (value_at (slice_cmp nat_cmp) (e ∷ es) n)
unfolding row_at
row_by e es n ih (inl same) = rw (sym same, is_itself e.0, names_apart.itself e.0) refl
row_by e es n ih (inr ne) = rw (is_another e.0 n ne, not_equal (slice_cmp nat_cmp) names_apart n e.0 (λ f. ne (sym f))) ih

rows_are : (es : Records) (n : Mailbox) → row_at (rows_of es) n ≡ known_by (value_at (slice_cmp nat_cmp) es n)
unfolding row_at
rows_are [] n = refl
rows_are (e ∷ es) n = row_by e es n (rows_are es n) (same_or_other (slice_cmp nat_cmp) names_apart e.0 n)

no_row : (es : Records) (n : Mailbox) → AllByRecursion (λ y. eq_by_cmp (slice_cmp nat_cmp) n y ≡ false) (keys_of es) → HasNoRow (rows_of es) n
unfolding HasNoRow
no_row [] n all = tt
no_row (e ∷ es) n all = ((λ (same : e.0 ≡ n). apart same), no_row es n all.1)
  where
    apart : e.0 ≡ n → ⊥
    apart same =
        let itself : is_eq (slice_cmp nat_cmp n n) ≡ true = names_apart.itself n in
        let other : is_eq (slice_cmp nat_cmp n n) ≡ false = subst (λ y. is_eq (slice_cmp nat_cmp n y) ≡ false) same all.0 in cc

once_by : (es : Records) → IsDistinct (eq_by_cmp (slice_cmp nat_cmp)) (keys_of es) → AreOnce (rows_of es)
unfolding AreOnce IsDistinct
once_by [] d = tt
once_by (e ∷ es) d = (no_row es e.0 d.0, once_by es d.1)

once : (es : Records) → IsInOrder (slice_cmp nat_cmp) es → AreOnce (rows_of es)
once es order = once_by es (IsDistinct-from_sorted (slice_cmp nat_cmp) (keys_of es) order)

-- ---- neither changes the record

pub list_seen : (s : Seen) → (answer_list s).seen ≡ s
unfolding answer_list
list_seen free = refl
list_seen other = refl
list_seen (own active) = refl
list_seen (own bare) = refl
list_seen (own kept) = refl

pub find_seen : (s : Seen) → (answer_find s).seen ≡ s
unfolding answer_find
find_seen free = refl
find_seen other = refl
find_seen (own k) = refl

-- ---- LIST

left_kind : (k : RecordKind) (m : Mailbox) (queue : List BackMessage) (rest : List SentLine) → left_of queue (sent_list ∷ rest) ≡ rest
    → left_of (told (row_line k m) ∷ queue) (sent_list ∷ rest) ≡ rest
unfolding left_of with_line row_line
left_kind active m queue rest e = e
left_kind bare m queue rest e = e
left_kind kept m queue rest e = e

left_test : (row : NameRow) (t : Bool) (queue : List BackMessage) (rest : List SentLine) → left_of queue (sent_list ∷ rest) ≡ rest
    → left_of (cond t (told (row_line row.kind row.name) ∷ []) [] ++ queue) (sent_list ∷ rest) ≡ rest
left_test row true queue rest e = left_kind row.kind row.name queue rest e
left_test row false queue rest e = e

left_lines : (rows : List NameRow) (b : Server) (rest : List SentLine) → left_of (list_answer rows b) (sent_list ∷ rest) ≡ rest
unfolding list_lines left_of
left_lines [] b rest = refl
left_lines (row ∷ rows) b rest =
    ap (λ ms. left_of ms (sent_list ∷ rest)) (append_assoc (cond (is_same_server row.server b) (told (row_line row.kind row.name) ∷ []) []) (list_lines rows b) (told ok_told ∷ []))
    ∙ left_test row (is_same_server row.server b) (list_answer rows b) rest (left_lines rows b rest)

told_append : (xs ys : List MResponse) → told_all (xs ++ ys) ≡ told_all xs ++ told_all ys
told_append xs ys = flat_map-append told_by xs ys

module _ (table : MailboxTable) (ok : IsTable table) (b : Server) (no_bang : HasNoBang b) (is_full : Bool) where
  list_told : told_all (list_reply table (Some (places_of b))).answers ≡ list_answer (rows_of table.records) b
  unfolding list_reply
  list_told =
      told_append (map listed_line (filter (is_listed (Some (places_of b))) table.records)) (response.Ok done ∷ [])
      ∙ ap (λ (ms : List BackMessage). ms ++ told ok_told ∷ []) (lines_are b table.records no_bang ok.servers)

  pub list_step : (n : Mailbox) → IsStep table b (list_reply table (Some (places_of b))) sent_list is_full n
  unfolding list_reply items_of answered answer downs_of left_of
  list_step n = record {
    now = sym (ap (λ (s : Seen). put s b (known table n)) (list_seen (see (known table n) b)) ∙ put_seen (known table n) b);
    says = λ rest h.
        ap (λ ms. downs_of n (sent_list ∷ rest) ms) list_told
        ∙ lists_each (rows_of table.records) b n (sent_list ∷ rest) rest [] (once table.records ok.order) refl
        ∙ ap (λ r. (answer_list (see r b)).says) (rows_are table.records n);
    left = λ rest. ap (λ ms. left_of ms (sent_list ∷ rest)) list_told ∙ left_lines (rows_of table.records) b rest;
  }

-- ---- FIND

module _ (table : MailboxTable) (b m : List ℕ) (is_full : Bool) where
  find_told_by : (found : Option Record) → told_all (found_line m found ++ response.Ok done ∷ []) ≡ find_answer m (known_by found)
  unfolding find_answer
  find_told_by None = refl
  find_told_by (Some it) = by_state it.state refl
    where
      by_state : (s : State) → it.state ≡ s → told_all (found_line m (Some it) ++ response.Ok done ∷ []) ≡ find_answer m (known_by (Some it))
      by_state (Bare serial) at = rw at refl
      by_state (Kept acl) at = rw at refl
      by_state (Active acl) at = rw at refl

  find_told : told_all (find_reply table m).answers ≡ find_answer m (known table m)
  unfolding find_reply
  find_told = find_told_by (record_at table m)

  find_left : (r : NameRecord) (rest : List SentLine) → left_of (find_answer m r) (sent_find m false ∷ rest) ≡ rest
  unfolding find_answer left_of with_line
  find_left no_record rest = refl
  find_left (recorded bare z) rest = refl
  find_left (recorded kept z) rest = refl
  find_left (recorded active z) rest = refl

  find_says : (n : Mailbox) (rest : List SentLine) → downs_of n (sent_find m false ∷ rest) (told_all (find_reply table m).answers) ≡ find_items m n (known table m) b
  unfolding downs_of left_of
  find_says n rest =
      ap (λ ms. downs_of n (sent_find m false ∷ rest) ms) find_told
      ∙ finds_each (known table m) b m n (sent_find m false ∷ rest) rest [] refl

  find_by : (n : Mailbox) → (m ≡ n) ⊎ (m ≢ n) → IsStep table b (find_reply table m) (sent_find m false) is_full n
  unfolding find_reply items_of answered answer find_items
  find_by n (inl same) = subst (λ k. IsStep table b (find_reply table m) (sent_find m false) is_full k) same (record {
    now = rw (is_itself m) (sym (ap (λ (s : Seen). put s b (known table m)) (find_seen (see (known table m) b)) ∙ put_seen (known table m) b));
    says = λ rest h. find_says m rest ∙ rw (is_itself m) refl;
    left = λ rest. ap (λ ms. left_of ms (sent_find m false ∷ rest)) find_told ∙ find_left (known table m) rest;
  })
  find_by n (inr ne) = record {
    now = rw (is_another m n ne) refl;
    says = λ rest h. find_says n rest ∙ rw (is_another m n ne) refl;
    left = λ rest. ap (λ ms. left_of ms (sent_find m false ∷ rest)) find_told ∙ find_left (known table m) rest;
  }

  pub find_step : (n : Mailbox) → IsStep table b (find_reply table m) (sent_find m false) is_full n
  find_step n = find_by n (same_or_other (slice_cmp nat_cmp) names_apart m n)
