-- What a line of a backend makes of the serials under which names are reserved.
use Rattle.std.proofs.Common.{◌≡◌, ◌≢◌, ◌⊎◌, inl, inr, ℕ, ◌+◌, ◌<◌, ◌≤◌, max, List, [], ◌∷◌, ◌++◌, Option, None, Some, refl, sym, ap, subst, ◌∙◌, append-nil, arith}
use Rattle.std.specs.List.{AllByRecursion}
use Rattle.std.specs.Ordering.{nat_cmp}
use Rattle.std.specs.Cmp.Lexicographic.{slice_cmp}
use Rattle.mur_base.specs.Map.{IsInOrder}
use Rattle.mur_base.proofs.MapLaws.{names_apart, same_or_other}
use Rattle.mur_base.specs.declared.home.Location.{Location}
use Rattle.mupdate_codec.specs.declared.command.MCommand.{MCommand}
use Rattle.node_record.specs.declared.master.MasterRecord.{MasterRecord}
use Rattle.node_record.specs.declared.master.MasterRecord.TheVariants as entry
use Rattle.node_record.specs.declared.table.State.{State}
use Rattle.node_record.specs.declared.table.State.TheVariants.{Active}
use Rattle.node_record.specs.declared.table.Record.{Record}
use Rattle.node_record.specs.Table.{MailboxTable, record_at, kept_state, table_after}
use Rattle.master_core.specs.Servers.{name_of}
use Rattle.master_core.specs.Step.{table_with}
use Rattle.home_law.specs.Items.{Server}
use Rattle.home_law.specs.ManyNames.{Mailbox}
use Rattle.name_links.specs.OneLink.{table_by}
use Rattle.name_links.specs.Serials.{serial_of, serial_in, serial_at, Given, given_at, given_by, gives, IsNewFor, AreApart, SerialsHold, SerialsFirst, LinesKeepSerials}
use Rattle.name_links.proofs.OnWay.{all_append, all_as}
use Rattle.name_links.proofs.StateTurn.{own_reserved, own_active, own_kept, own_deleted, record_other, table_is}
use Rattle.name_links.proofs.TableTurn.{entry_of, Change, nothing, reserved, activated, deactivated, deleted, line_changes}

-- ---- one entry

module _ (table : MailboxTable) (order : IsInOrder (slice_cmp nat_cmp) table.records) where
  -- after an entry that reserves no name without an access list, no more names are reserved so
  none_more : (e : MasterRecord) → serial_in (record_at (table_after table e) (name_of e)) ≡ None → (n : Mailbox) (s : ℕ) → serial_at (table_after table e) n ≡ Some s
      → (n ≢ name_of e) × (serial_at table n ≡ Some s)
  none_more e none n s f = by_name (same_or_other (slice_cmp nat_cmp) names_apart n (name_of e))
    where
      by_name : (n ≡ name_of e) ⊎ (n ≢ name_of e) → (n ≢ name_of e) × (serial_at table n ≡ Some s)
      by_name (inl same) = let no : (let o : Option ℕ = None in o ≡ Some s) = sym none ∙ ap (λ (k : Mailbox). serial_at (table_after table e) k) (sym same) ∙ f in cc
      by_name (inr ne) = (ne, sym (ap (λ (r : Option Record). serial_in r) (record_other table e n ne order)) ∙ f)

  active_none : (m : Mailbox) (place : Location) (acl : List ℕ) → serial_in (record_at (table_after table (entry.Active m place acl)) m) ≡ None
  active_none m place acl = ap (λ (r : Option Record). serial_in r) (own_active table m place acl)

  kept_none : (m : Mailbox) (place : Location) (was : Record) (acl : List ℕ) → record_at table m ≡ Some was → was.state ≡ Active acl
      → serial_in (record_at (table_after table (entry.Inactive m place)) m) ≡ None
  kept_none m place was acl there at =
      ap (λ (r : Option Record). serial_in r) (own_kept table m place was there) ∙ ap (λ (s : State). serial_of (kept_state s)) at

  deleted_none : (m : Mailbox) → serial_in (record_at (table_after table (entry.Deleted m)) m) ≡ None
  deleted_none m = ap (λ (r : Option Record). serial_in r) (own_deleted table m order)

  -- after RESERVE
  one_more : (m : Mailbox) (place : Location) (n : Mailbox) (s : ℕ) → serial_at (table_after table (entry.Reserved m place (table.serial + 1))) n ≡ Some s
      → ((n ≡ m) × (s ≡ table.serial + 1)) ⊎ ((n ≢ m) × (serial_at table n ≡ Some s))
  one_more m place n s f = by_name (same_or_other (slice_cmp nat_cmp) names_apart n m)
    where
      by_name : (n ≡ m) ⊎ (n ≢ m) → ((n ≡ m) × (s ≡ table.serial + 1)) ⊎ ((n ≢ m) × (serial_at table n ≡ Some s))
      by_name (inl same) =
          let now : Some (table.serial + 1) ≡ Some s = sym (ap (λ (r : Option Record). serial_in r) (own_reserved table m place (table.serial + 1)))
          ∙ ap (λ (k : Mailbox). serial_at (table_after table (entry.Reserved m place (table.serial + 1))) k) (sym same) ∙ f in
          inl (same, (let back : table.serial + 1 ≡ s = cc in sym back))
      by_name (inr ne) = inr (ne, sym (ap (λ (r : Option Record). serial_in r) (record_other table (entry.Reserved m place (table.serial + 1)) n ne order)) ∙ f)

  -- ---- what a line reserves

  module _ (b : Server) (it : MCommand) where
    was_or_next : (made : Option MasterRecord) → entry_of table b it ≡ made
        → ((n : Mailbox) (s : ℕ) → serial_at (table_with table made) n ≡ Some s → (serial_at table n ≡ Some s) ⊎ (s ≡ table.serial + 1))
        → (n : Mailbox) (s : ℕ) → serial_at (table_by table b it) n ≡ Some s → (serial_at table n ≡ Some s) ⊎ (s ≡ table.serial + 1)
    was_or_next made e f n s g = f n s (subst (λ (t : MailboxTable). serial_at t n ≡ Some s) (table_is table b it made e) g)

    pub serial_turns : Change table b it → (n : Mailbox) (s : ℕ) → serial_at (table_by table b it) n ≡ Some s → (serial_at table n ≡ Some s) ⊎ (s ≡ table.serial + 1)
    serial_turns (nothing made) = was_or_next None made (λ n s f. inl f)
    serial_turns (reserved m place is at none made) = was_or_next _ made (λ n s f. by_case n s (one_more m place n s f))
      where
        by_case : (n : Mailbox) (s : ℕ) → ((n ≡ m) × (s ≡ table.serial + 1)) ⊎ ((n ≢ m) × (serial_at table n ≡ Some s)) → (serial_at table n ≡ Some s) ⊎ (s ≡ table.serial + 1)
        by_case n s (inl c) = inr c.1
        by_case n s (inr c) = inl c.1
    serial_turns (activated m place acl is at free made) = was_or_next _ made (λ n s f. inl (none_more (entry.Active m place acl) (active_none m place acl) n s f).1)
    serial_turns (deactivated m place was acl at there here active made) =
        was_or_next _ made (λ n s f. inl (none_more (entry.Inactive m place) (kept_none m place was acl there active) n s f).1)
    serial_turns (deleted m here made) = was_or_next _ made (λ n s f. inl (none_more (entry.Deleted m) (deleted_none m) n s f).1)

at_most_max : (a b : ℕ) → a ≤ max a b
at_most_max a b = omega arith

max_next : (a : ℕ) → max a (a + 1) ≡ a + 1
max_next a = omega arith

-- the table's serial only rises
entry_rises : (table : MailboxTable) (made : Option MasterRecord) → table.serial ≤ (table_with table made).serial
entry_rises table None = omega arith
entry_rises table (Some (entry.Reserved m place s)) = at_most_max table.serial s
entry_rises table (Some (entry.Active m place acl)) = omega arith
entry_rises table (Some (entry.Inactive m place)) = omega arith
entry_rises table (Some (entry.Deleted m)) = omega arith

pub serial_rises : (table : MailboxTable) (b : Server) (it : MCommand) → table.serial ≤ (table_by table b it).serial
serial_rises table b it = entry_rises table (entry_of table b it)

-- ---- the law of the table

apart_more : (given : Given) (m : Mailbox) (s : ℕ) → AreApart given → AllByRecursion (λ (g : Mailbox × ℕ). g.1 ≢ s) given → AreApart (given ++ (m, s) ∷ [])
apart_more [] m s a new = (tt, tt)
apart_more (g ∷ given) m s a new = (
  all_append (λ (h : Mailbox × ℕ). h.1 ≢ g.1) given ((m, s) ∷ []) a.0 ((λ e. new.0 (sym e)), tt),
  apart_more given m s a.1 new.1,
)

module _ (table : MailboxTable) (given : Given) (order : IsInOrder (slice_cmp nat_cmp) table.records) (old : SerialsHold table given) where
  -- no more names are reserved
  fewer : (then : MailboxTable) → table.serial ≤ then.serial → ((n : Mailbox) (s : ℕ) → serial_at then n ≡ Some s → serial_at table n ≡ Some s) → SerialsHold then given
  fewer then rises was = record {
    positive = λ n s e. old.positive n s (was n s e);
    low = λ n s e. (let h = old.low n s (was n s e) in omega (arith, h, rises));
    once = λ m n s e f. old.once m n s (was m s e) (was n s f);
    unused = λ n s e. old.unused n s (was n s e);
    given_low = all_as (λ (g : Mailbox × ℕ). g.1 ≤ table.serial) (λ (g : Mailbox × ℕ). g.1 ≤ then.serial) (λ g h. omega (arith, h, rises)) given old.given_low;
    apart = old.apart;
  }

  -- and the serial of one of them is given
  given_one : (then : MailboxTable) (m : Mailbox) (z : ℕ) → serial_at table m ≡ Some z → table.serial ≤ then.serial
      → ((n : Mailbox) (s : ℕ) → serial_at then n ≡ Some s → (n ≢ m) × (serial_at table n ≡ Some s)) → SerialsHold then (given ++ (m, z) ∷ [])
  given_one then m z at rises was =
      let less = fewer then rises (λ n s e. (was n s e).1) in
      record {
        positive = less.positive;
        low = less.low;
        once = less.once;
        unused = λ n s e. all_append (λ (g : Mailbox × ℕ). (g.1 ≢ s) × (g.0 ≡ n → g.1 < s)) given ((m, z) ∷ []) (less.unused n s e) ((differs n s e, (λ same. absurd ((was n s e).0 (sym same)))), tt);
        given_low = all_append (λ (g : Mailbox × ℕ). g.1 ≤ then.serial) given ((m, z) ∷ []) less.given_low ((let h = old.low m z at in omega (arith, h, rises)), tt);
        apart = apart_more given m z old.apart (all_as (λ (g : Mailbox × ℕ). (g.1 ≢ z) × (g.0 ≡ m → g.1 < z)) (λ (g : Mailbox × ℕ). g.1 ≢ z) (λ g h. h.0) given (old.unused m z at));
      }
    where
      differs : (n : Mailbox) (s : ℕ) → serial_at then n ≡ Some s → z ≢ s
      differs n s e same = (was n s e).0 (old.once n m s (was n s e).1 (subst (λ (k : ℕ). serial_at table m ≡ Some k) same at))

  next_new : (n : Mailbox) (gs : Given) → AllByRecursion (λ (g : Mailbox × ℕ). g.1 ≤ table.serial) gs → IsNewFor n (table.serial + 1) gs
  next_new n gs all = all_as (λ (g : Mailbox × ℕ). g.1 ≤ table.serial) (λ (g : Mailbox × ℕ). (g.1 ≢ table.serial + 1) × (g.0 ≡ n → g.1 < table.serial + 1))
      (λ g h. ((λ e. omega (arith, h, e)), (λ e. omega (arith, h)))) gs all

  -- a name is reserved under the next serial
  abbrev Case : Mailbox → Mailbox → ℕ → Type 0
  Case m n s = ((n ≡ m) × (s ≡ table.serial + 1)) ⊎ ((n ≢ m) × (serial_at table n ≡ Some s))

  reserves : (m : Mailbox) (place : Location) → SerialsHold (table_after table (entry.Reserved m place (table.serial + 1))) given
  reserves m place = record {
    positive = λ n s e. positive_by n s (one_more table order m place n s e);
    low = λ n s e. low_by n s (one_more table order m place n s e);
    once = λ k n s e f. once_by k n s (one_more table order m place k s e) (one_more table order m place n s f);
    unused = λ n s e. unused_by n s (one_more table order m place n s e);
    given_low = all_as (λ (g : Mailbox × ℕ). g.1 ≤ table.serial) (λ (g : Mailbox × ℕ). g.1 ≤ max table.serial (table.serial + 1)) (λ g h. (let more = at_most_max table.serial (table.serial + 1) in omega (arith, h, more))) given old.given_low;
    apart = old.apart;
  }
    where
      positive_by : (n : Mailbox) (s : ℕ) → Case m n s → 0 < s
      positive_by n s (inl c) = let e = c.1 in omega (arith, e)
      positive_by n s (inr c) = old.positive n s c.1

      low_by : (n : Mailbox) (s : ℕ) → Case m n s → s ≤ max table.serial (table.serial + 1)
      low_by n s (inl c) = let e = c.1 in omega (arith, e)
      low_by n s (inr c) = let h = old.low n s c.1 in omega (arith, h)

      too_high : (n : Mailbox) (s : ℕ) → s ≡ table.serial + 1 → serial_at table n ≡ Some s → ⊥
      too_high n s e f = let h = old.low n s f in omega (arith, h, e)

      once_by : (k n : Mailbox) (s : ℕ) → Case m k s → Case m n s → k ≡ n
      once_by k n s (inl c) (inl d) = c.0 ∙ sym d.0
      once_by k n s (inl c) (inr d) = absurd (too_high n s c.1 d.1)
      once_by k n s (inr c) (inl d) = absurd (too_high k s d.1 c.1)
      once_by k n s (inr c) (inr d) = old.once k n s c.1 d.1

      unused_by : (n : Mailbox) (s : ℕ) → Case m n s → IsNewFor n s given
      unused_by n s (inl c) = subst (λ (z : ℕ). IsNewFor n z given) (sym c.1) (next_new n given old.given_low)
      unused_by n s (inr c) = old.unused n s c.1

  -- ---- by the line

  none_given : (then : MailboxTable) → SerialsHold then given → SerialsHold then (given ++ [])
  none_given then h = subst (λ (gs : Given). SerialsHold then gs) (sym (append-nil given)) h

  active_keeps : (m : Mailbox) (place : Location) (acl : List ℕ) (z : Option ℕ) → serial_at table m ≡ z
      → SerialsHold (table_after table (entry.Active m place acl)) (given ++ given_at m z)
  active_keeps m place acl None at =
      none_given _ (fewer _ (omega arith) (λ n s e. (none_more table order (entry.Active m place acl) (active_none table order m place acl) n s e).1))
  active_keeps m place acl (Some z) at = given_one _ m z at (omega arith) (none_more table order (entry.Active m place acl) (active_none table order m place acl))

  module _ (b : Server) (it : MCommand) where
    with_entry_made : (made : Option MasterRecord) → entry_of table b it ≡ made → SerialsHold (table_with table made) (given ++ given_by table made)
        → SerialsHold (table_by table b it) (given ++ gives table b it)
    with_entry_made made e h = subst (λ (m : Option MasterRecord). SerialsHold (table_with table m) (given ++ given_by table m)) (sym e) h

    line_keeps : Change table b it → SerialsHold (table_by table b it) (given ++ gives table b it)
    line_keeps (nothing made) = with_entry_made None made (none_given table old)
    line_keeps (reserved m place is at none made) = with_entry_made _ made (none_given _ (reserves m place))
    line_keeps (activated m place acl is at free made) = with_entry_made _ made (active_keeps m place acl (serial_at table m) refl)
    line_keeps (deactivated m place was acl at there here active made) =
        with_entry_made _ made
        (none_given _ (fewer _ (omega arith) (λ n s e. (none_more table order (entry.Inactive m place) (kept_none table order m place was acl there active) n s e).1)))
    line_keeps (deleted m here made) =
        with_entry_made _ made (none_given _ (fewer _ (omega arith) (λ n s e. (none_more table order (entry.Deleted m) (deleted_none table order m) n s e).1)))

pub lines_serials : LinesKeepSerials
lines_serials table given b tag it line is old e = line_keeps table given is.order old b it (line_changes table b tag it line e)

pub first_serials : SerialsFirst
first_serials = record { positive = λ n s e. cc; low = λ n s e. cc; once = λ m n s e f. cc; unused = λ n s e. cc; given_low = tt; apart = tt }
