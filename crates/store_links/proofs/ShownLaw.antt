-- What is shown of a name by its record, and when it stays so.
use Rattle.std.proofs.Common.{◌≡◌, ◌≢◌, ◌⊎◌, inl, inr, Bool, true, false, cond, List, ℕ, Option, None, Some, refl, sym, ap, subst, ◌∙◌}
use Rattle.std.specs.List.Sorted.{IsStrictlySortedBy}
use Rattle.std.specs.Ordering.{nat_cmp}
use Rattle.std.specs.Cmp.Lexicographic.{slice_cmp}
use Rattle.mail_message.specs.Boxes.{Content}
use Rattle.mur_base.proofs.MapLaws.{names_apart, same_or_other}
use Rattle.mur_model.specs.declared.store.Store.{Store}
use Rattle.mur_model.specs.Store.{box_at}
use Rattle.node_record.specs.declared.table.State.{State}
use Rattle.node_record.specs.declared.table.State.TheVariants.{Bare, Kept, Active}
use Rattle.node_record.specs.declared.table.Record.{Record}
use Rattle.node_record.specs.Held.{Names, held_at}
use Rattle.node_record.specs.Table.{MailboxTable, is_mailbox_if, record_at}
use Rattle.home_law.specs.Items.{Server, is_same_server}
use Rattle.home_law.specs.ManyNames.{Mailbox}
use Rattle.home_law.proofs.SameName.{is_itself, is_the_same}
use Rattle.name_links.specs.Contents.{state_by, acl_in, content_in}
use Rattle.store_links.specs.Shown.{Homes, content_at, IsMailboxOf, StateShows, RecordShows, NameShows, ShowsFirst}
use Rattle.store_links.specs.TableEntries.{acl_at}

pub shows_first : ShowsFirst
unfolding IsStrictlySortedBy
shows_first = record { names = λ n. refl; records_in_order = tt; boxes_in_order = tt }

-- ---- by the record

-- a name that is no mailbox has no box
pub none_by : (homes : Homes) (n : Mailbox) (there : Option Content) (r : Option Record) → is_mailbox_if r ≡ false → RecordShows homes n there r → there ≡ None
none_by homes n there None e s = s
none_by homes n there (Some it) e s = by_state it.state refl s
  where
    by_state : (z : State) → it.state ≡ z → StateShows (content_at homes (it.place).server n) there z → there ≡ None
    by_state (Bare serial) f s = s
    by_state (Kept acl) f s = let no : is_mailbox_if (Some it) ≡ true = rw f refl in cc
    by_state (Active acl) f s = let no : is_mailbox_if (Some it) ≡ true = rw f refl in cc

-- a mailbox by its access list
pub acl_of : (here there : Option Content) (z : State) (acl : List ℕ) → acl_in (Some z) ≡ Some acl → StateShows here there z → IsMailboxOf here there acl
acl_of here there (Bare serial) acl e s = cc
acl_of here there (Kept list) acl e s = let same : list ≡ acl = cc in subst (λ (a : List ℕ). IsMailboxOf here there a) same s
acl_of here there (Active list) acl e s = let same : list ≡ acl = cc in subst (λ (a : List ℕ). IsMailboxOf here there a) same s

pub shows_as : (here there : Option Content) (z : State) (acl : List ℕ) → acl_in (Some z) ≡ Some acl → IsMailboxOf here there acl → StateShows here there z
shows_as here there (Bare serial) acl e s = cc
shows_as here there (Kept list) acl e s = let same : acl ≡ list = cc in subst (λ (a : List ℕ). IsMailboxOf here there a) same s
shows_as here there (Active list) acl e s = let same : acl ≡ list = cc in subst (λ (a : List ℕ). IsMailboxOf here there a) same s

-- ---- by the server

-- the record of a mailbox at this server
pub record IsRecordAt (b : Server) (r : Option Record) (acl : List ℕ) : Type 0 where
  pub it : Record
  pub is : r ≡ Some it
  pub server : (it.place).server ≡ b
  pub list : acl_in (Some it.state) ≡ Some acl

pub record_of : (b : Server) (r : Option Record) (acl : List ℕ) → acl_in (state_by b r) ≡ Some acl → IsRecordAt b r acl
record_of b None acl e = cc
record_of b (Some it) acl e = by_test (is_same_server (it.place).server b) refl
  where
    by_test : (t : Bool) → is_same_server (it.place).server b ≡ t → IsRecordAt b (Some it) acl
    by_test true f = record {
      it = it;
      is = refl;
      server = is_the_same (it.place).server b f;
      list = sym (ap (λ (t : Bool). acl_in (cond t (Some it.state) None)) f) ∙ e;
    }
    by_test false f = let no : acl_in (state_by b (Some it)) ≡ None = ap (λ (t : Bool). acl_in (cond t (Some it.state) None)) f in cc

module _ (table : MailboxTable) (homes : Homes) (store : Store) (b : Server) (n : Mailbox) (acl : List ℕ) where
  -- a mailbox of this server
  pub mailbox_by : acl_at table b n ≡ Some acl → NameShows table homes store n → IsMailboxOf (content_at homes b n) (box_at store n) acl
  mailbox_by e s =
      let r = record_of b (record_at table n) acl e in
      subst (λ (q : Server). IsMailboxOf (content_at homes q n) (box_at store n) acl) r.server
      (acl_of _ (box_at store n) r.it.state acl r.list
      (subst (λ (f : Option Record). RecordShows homes n (box_at store n) f) r.is s))

-- ---- when it stays

-- the record and the box stay
pub name_stays : (table then : MailboxTable) (homes : Homes) (store later : Store) (n : Mailbox) → record_at then n ≡ record_at table n
    → box_at later n ≡ box_at store n
    → NameShows table homes store n → NameShows then homes later n
name_stays table then homes store later n r e s =
    subst (λ (f : Option Record). RecordShows homes n (box_at later n) f) (sym r)
    (subst (λ (there : Option Content). RecordShows homes n there (record_at table n)) (sym e) s)

-- each other server has what it had, and this one the content of the name, if that is a mailbox here
module _ (homes then : Homes) (b : Server) (others : (q : Server) → q ≢ b → then q ≡ homes q) (n : Mailbox) (there : Option Content) where
  none_here : (it : Record) → (it.place).server ≡ b → acl_in (state_by b (Some it)) ≡ None → StateShows (content_at homes (it.place).server n) there it.state
      → StateShows (content_at then (it.place).server n) there it.state
  none_here it at none s = by_state it.state refl s
    where
      own : is_same_server (it.place).server b ≡ true
      own = subst (λ (q : Server). is_same_server (it.place).server q ≡ true) at (is_itself (it.place).server)

      list : acl_in (Some it.state) ≡ None
      list = sym (ap (λ (t : Bool). acl_in (cond t (Some it.state) None)) own) ∙ none

      by_state : (z : State) → it.state ≡ z → StateShows (content_at homes (it.place).server n) there z
          → StateShows (content_at then (it.place).server n) there z
      by_state (Bare serial) f s = s
      by_state (Kept acl) f s = let no : Some acl ≡ None = sym (ap (λ (z : State). acl_in (Some z)) f) ∙ list in cc
      by_state (Active acl) f s = let no : Some acl ≡ None = sym (ap (λ (z : State). acl_in (Some z)) f) ∙ list in cc

  pub record_stays : (r : Option Record) → (acl_in (state_by b r) ≡ None) ⊎ (content_at then b n ≡ content_at homes b n) → RecordShows homes n there r
      → RecordShows then n there r
  record_stays None c s = s
  record_stays (Some it) c s = by_server (same_or_other (slice_cmp nat_cmp) names_apart (it.place).server b) c
    where
      by_server : ((it.place).server ≡ b) ⊎ ((it.place).server ≢ b) → (acl_in (state_by b (Some it)) ≡ None) ⊎ (content_at then b n ≡ content_at homes b n)
          → RecordShows then n there (Some it)
      by_server (inr ne) c = subst (λ (held : Names). StateShows (content_in (held_at held n)) there it.state) (sym (others (it.place).server ne)) s
      by_server (inl at) (inl none) = none_here it at none s
      by_server (inl at) (inr same) =
          subst (λ (here : Option Content). StateShows here there it.state)
          (sym (subst (λ (q : Server). content_at then q n ≡ content_at homes q n) (sym at) same)) s
