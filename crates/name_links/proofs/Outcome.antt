-- A reply to a line about one name: a NO, or an OK and a change of that name's record; and what that is to each name.
use Rattle.std.proofs.Common.{◌≡◌, ◌≢◌, ◌⊎◌, inl, inr, ℕ, Bool, true, false, cond, List, [], ◌∷◌, Option, None, Some, refl, sym, ap, subst, ◌∙◌}
use Rattle.std.specs.Ordering.{nat_cmp}
use Rattle.std.specs.Cmp.Lexicographic.{slice_cmp}
use Rattle.std.proofs.lemmas.List.{append-nil}
use Rattle.mur_base.specs.Map.{value_at, IsInOrder}
use Rattle.mur_base.proofs.MapLaws.{names_apart, same_or_other, value_at-with_entry-other, value_at-with_value-other}
use Rattle.mur_base.specs.declared.home.Location.{Location}
use Rattle.mupdate_codec.specs.declared.command.MResponse.TheVariants as response
use Rattle.node_record.specs.declared.master.MasterRecord.{MasterRecord}
use Rattle.node_record.specs.declared.master.MasterRecord.TheVariants as entry
use Rattle.node_record.specs.declared.table.Record.{Record}
use Rattle.node_record.specs.Table.{Records, MailboxTable, record_at, reserved_again, moved, table_after}
use Rattle.master_core.specs.declared.reply.Reply.{Reply}
use Rattle.master_core.specs.Servers.{name_of}
use Rattle.master_core.specs.Step.{table_with}
use Rattle.home_law.specs.Items.{RecordKind, NameRecord, no_record, recorded, Server, is_same_server, Seen, other, own, Item, refused}
use Rattle.home_law.specs.Steps.{MasterStep, with_answer, answer}
use Rattle.home_law.specs.Link.{see, put}
use Rattle.home_law.specs.LinkOk.{EachItem}
use Rattle.home_law.specs.ManyNames.{Mailbox, if_named, SentLine, ok_items, no_items, downs_of, left_of}
use Rattle.home_law.proofs.SameName.{is_itself, is_the_same, is_another}
use Rattle.name_flows.proofs.NameMaps.{value_at-without_key-other}
use Rattle.name_links.specs.Known.{known, known_by}
use Rattle.name_links.specs.Lines.{items_of, NameStep, answered}
use Rattle.name_links.specs.Answers.{told_all, NoneRefused}

-- a NO, and no change
pub record Refuses (reply : Reply) : Type 0 where
  pub entry : reply.entry ≡ None
  pub text : List ℕ
  pub answers : reply.answers ≡ response.No text ∷ []

-- an OK, and this change
pub record Grants (reply : Reply) (e : MasterRecord) : Type 0 where
  pub entry : reply.entry ≡ Some e
  pub text : List ℕ
  pub answers : reply.answers ≡ response.Ok text ∷ []

-- a line about one name, with the item that it is and those that its OK and its NO are
pub record IsAbout (m : Mailbox) (line : SentLine) (x ok : Item) : Type 0 where
  pub items : (n : Mailbox) → items_of n line ≡ if_named m n x
  pub oks : (n : Mailbox) → ok_items n line ≡ if_named m n ok
  pub nos : (n : Mailbox) → m ≢ n → no_items n line ≡ []

-- what the protocol of one name makes of the line
pub data Outcome (table : MailboxTable) (b m : List ℕ) (reply : Reply) (line : SentLine) (x ok : Item) (is_full : Bool) : Type 0 where
  denied : Refuses reply → (y : Item) → answer is_full (see (known table m) b) x ≡ with_answer (see (known table m) b) y
      → (no_items m line ≡ y ∷ []) ⊎ (y ≡ refused) → Outcome table b m reply line x ok is_full
  granted : (e : MasterRecord) → Grants reply e → name_of e ≡ m → (s : Seen) → known (table_after table e) m ≡ put s b (known table m)
      → answer is_full (see (known table m) b) x ≡ with_answer s ok → Outcome table b m reply line x ok is_full

-- what the record was, it is
same_put : (k : RecordKind) (z b : Server) (t : Bool) → is_same_server z b ≡ t → put (cond t (own k) other) b (recorded k z) ≡ recorded k z
unfolding put
same_put k z b true e = ap (λ y. recorded k y) (sym (is_the_same z b e))
same_put k z b false e = refl

pub put_seen : (r : NameRecord) (b : Server) → put (see r b) b r ≡ r
unfolding see put
put_seen no_record b = refl
put_seen (recorded k z) b = same_put k z b (is_same_server z b) refl

-- an entry leaves the records of other names
known_moved : (records : Records) (m n : Mailbox) (place : Location) (it : Option Record) → n ≢ m
    → value_at (slice_cmp nat_cmp) (reserved_again records m place it) n ≡ value_at (slice_cmp nat_cmp) records n
known_moved records m n place None ne = refl
known_moved records m n place (Some it) ne = value_at-with_value-other (slice_cmp nat_cmp) names_apart records m n (moved place it) ne

pub known_other : (table : MailboxTable) (e : MasterRecord) (n : Mailbox) → name_of e ≢ n → IsInOrder (slice_cmp nat_cmp) table.records
    → known (table_after table e) n ≡ known table n
known_other table (entry.Reserved m place serial) n ne order = ap known_by (value_at-with_entry-other (slice_cmp nat_cmp) names_apart table.records m n _ (λ e. ne (sym e)))
known_other table (entry.Active m place acl) n ne order = ap known_by (value_at-with_entry-other (slice_cmp nat_cmp) names_apart table.records m n _ (λ e. ne (sym e)))
known_other table (entry.Inactive m place) n ne order = ap known_by (known_moved table.records m n place (record_at table m) (λ e. ne (sym e)))
known_other table (entry.Deleted m) n ne order = ap known_by (value_at-without_key-other table.records m n ne order)

-- what the step is to one name: its record then, and the answers, read by the line that they answer
pub record IsStep (table : MailboxTable) (b : Server) (reply : Reply) (line : SentLine) (is_full : Bool) (n : Mailbox) : Type 0 where
  pub now : known (table_with table reply.entry) n ≡ (answered is_full b (known table n) (items_of n line)).known
  pub says : (rest : List SentLine) → NoneRefused (answered is_full b (known table n) (items_of n line)).says
      → downs_of n (line ∷ rest) (told_all reply.answers) ≡ (answered is_full b (known table n) (items_of n line)).says
  pub left : (rest : List SentLine) → left_of (told_all reply.answers) (line ∷ rest) ≡ rest

module _ (table : MailboxTable) (b m : List ℕ) (reply : Reply) (line : SentLine) (x ok : Item) (is_full : Bool) (about : IsAbout m line x ok) where
  -- the item of the line, to its own name and to another
  own_item : items_of m line ≡ x ∷ []
  own_item = about.items m ∙ ap (λ t. cond t (x ∷ []) []) (is_itself m)

  no_item : (n : Mailbox) → m ≢ n → items_of n line ≡ []
  no_item n ne = about.items n ∙ ap (λ t. cond t (x ∷ []) []) (is_another m n ne)

  no_ok : (n : Mailbox) → m ≢ n → ok_items n line ≡ []
  no_ok n ne = about.oks n ∙ ap (λ t. cond t (ok ∷ []) []) (is_another m n ne)

  own_ok : ok_items m line ≡ ok ∷ []
  own_ok = about.oks m ∙ ap (λ t. cond t (ok ∷ []) []) (is_itself m)

  -- a NO takes the line off, and so does an OK
  denied_left : Refuses reply → (rest : List SentLine) → left_of (told_all reply.answers) (line ∷ rest) ≡ rest
  unfolding left_of
  denied_left it rest = rw it.answers refl

  granted_left : (e : MasterRecord) → Grants reply e → (rest : List SentLine) → left_of (told_all reply.answers) (line ∷ rest) ≡ rest
  unfolding left_of
  granted_left e it rest = rw it.answers refl

  denied_downs : Refuses reply → (n : Mailbox) (rest : List SentLine) → downs_of n (line ∷ rest) (told_all reply.answers) ≡ no_items n line
  unfolding downs_of
  denied_downs it n rest = rw it.answers (append-nil (no_items n line))

  granted_downs : (e : MasterRecord) → Grants reply e → (n : Mailbox) (rest : List SentLine) → downs_of n (line ∷ rest) (told_all reply.answers) ≡ ok_items n line
  unfolding downs_of
  granted_downs e it n rest = rw it.answers (append-nil (ok_items n line))

  -- to another name the line is nothing
  other_denied : Refuses reply → (n : Mailbox) → m ≢ n → IsStep table b reply line is_full n
  unfolding answered
  other_denied it n ne = record {
    now = rw (it.entry, no_item n ne) refl;
    says = λ rest h. denied_downs it n rest ∙ about.nos n ne ∙ sym (ap (λ xs. (answered is_full b (known table n) xs).says) (no_item n ne));
    left = denied_left it;
  }

  other_granted : IsInOrder (slice_cmp nat_cmp) table.records → (e : MasterRecord) → Grants reply e → name_of e ≡ m → (n : Mailbox) → m ≢ n
      → IsStep table b reply line is_full n
  unfolding answered
  other_granted order e it same n ne = record {
    now = rw (it.entry, no_item n ne) (known_other table e n (λ f. ne (sym same ∙ f)) order);
    says = λ rest h. granted_downs e it n rest ∙ no_ok n ne ∙ sym (ap (λ xs. (answered is_full b (known table n) xs).says) (no_item n ne));
    left = granted_left e it;
  }

  -- the answers of a NO that the protocol of one name knows
  denied_says : Refuses reply → (y : Item) → (no_items m line ≡ y ∷ []) ⊎ (y ≡ refused) → (rest : List SentLine) → NoneRefused (y ∷ [])
      → downs_of m (line ∷ rest) (told_all reply.answers) ≡ y ∷ []
  unfolding EachItem
  denied_says it y (inl e) rest h = denied_downs it m rest ∙ e
  denied_says it y (inr e) rest h = absurd (none_refused y e h)
    where
      none_refused : (y : Item) → y ≡ refused → NoneRefused (y ∷ []) → ⊥
      none_refused y e h = h.0 e

  own_denied : Refuses reply → (y : Item) → answer is_full (see (known table m) b) x ≡ with_answer (see (known table m) b) y
      → (no_items m line ≡ y ∷ []) ⊎ (y ≡ refused) → IsStep table b reply line is_full m
  unfolding answered
  own_denied it y e which =
      let step : answered is_full b (known table m) (items_of m line) ≡ record { known = put (see (known table m) b) b (known table m); says = y ∷ [] } =
      ap (λ xs. answered is_full b (known table m) xs) own_item ∙ ap (λ (s : MasterStep). let n : NameStep = record { known = put s.seen b (known table m); says = s.says } in n) e in
      record {
        now = ap (λ z. known (table_with table z) m) it.entry ∙ sym (ap (λ (s : NameStep). s.known) step ∙ put_seen (known table m) b);
        says = λ rest h. denied_says it y which rest (subst (λ (s : NameStep). NoneRefused s.says) step h) ∙ sym (ap (λ (s : NameStep). s.says) step);
        left = denied_left it;
      }

  own_granted : (e : MasterRecord) → Grants reply e → (s : Seen) → known (table_after table e) m ≡ put s b (known table m)
      → answer is_full (see (known table m) b) x ≡ with_answer s ok → IsStep table b reply line is_full m
  unfolding answered
  own_granted e it s now f =
      let step : answered is_full b (known table m) (items_of m line) ≡ record { known = put s b (known table m); says = ok ∷ [] } =
      ap (λ xs. answered is_full b (known table m) xs) own_item ∙ ap (λ (t : MasterStep). let n : NameStep = record { known = put t.seen b (known table m); says = t.says } in n) f in
      record {
        now = ap (λ z. known (table_with table z) m) it.entry ∙ now ∙ sym (ap (λ (t : NameStep). t.known) step);
        says = λ rest h. granted_downs e it m rest ∙ own_ok ∙ sym (ap (λ (t : NameStep). t.says) step);
        left = granted_left e it;
      }

  module _ (order : IsInOrder (slice_cmp nat_cmp) table.records) where
    to_own : Outcome table b m reply line x ok is_full → IsStep table b reply line is_full m
    to_own (denied it y e which) = own_denied it y e which
    to_own (granted e it same s now f) = own_granted e it s now f

    to_other : Outcome table b m reply line x ok is_full → (n : Mailbox) → m ≢ n → IsStep table b reply line is_full n
    to_other (denied it y e which) n ne = other_denied it n ne
    to_other (granted e it same s now f) n ne = other_granted order e it same n ne

    by_name : Outcome table b m reply line x ok is_full → (n : Mailbox) → (m ≡ n) ⊎ (m ≢ n) → IsStep table b reply line is_full n
    by_name out n (inl e) = subst (λ k. IsStep table b reply line is_full k) e (to_own out)
    by_name out n (inr ne) = to_other out n ne

    -- to each name the step is the one of the protocol of one name
    pub each_name : Outcome table b m reply line x ok is_full → (n : Mailbox) → IsStep table b reply line is_full n
    each_name out n = by_name out n (same_or_other (slice_cmp nat_cmp) names_apart m n)
