-- What the table of a step says is as the store of that step has it.
use Rattle.std.proofs.Common.{◌≡◌, ℕ, true, false, List, Option, None, Some, refl, sym, ap, ◌∙◌, subst}
use Rattle.ask_routes.specs.declared.ask_for.AskFor.TheVariants as about
use Rattle.ask_routes.specs.declared.next.Next.TheVariants as next
use Rattle.ask_routes.specs.declared.next.Why.{Why}
use Rattle.ask_routes.specs.declared.next.Why.TheVariants as why
use Rattle.ask_routes.specs.Ways.{behind_reserved}
use Rattle.feed_links.specs.Replicas.{replica_of}
use Rattle.master_core.specs.Refusals.{is_reserved}
use Rattle.mur_model.specs.declared.store.Store.{Store}
use Rattle.mur_model.specs.Store.{box_at}
use Rattle.node_record.specs.declared.table.Record.{Record}
use Rattle.node_record.specs.declared.table.State.{State}
use Rattle.node_record.specs.declared.table.State.TheVariants.{Bare, Kept, Active}
use Rattle.node_record.specs.Table.{MailboxTable, has_acl, is_mailbox_if, record_at}
use Rattle.store_links.specs.Shown.{Homes, content_at, IsMailboxOf, StateShows, RecordShows, Shows}
use Rattle.store_links.proofs.BoxesLaw.{same_names}
use Rattle.store_links.proofs.OpenLaw.{none_is_missing}
use Rattle.route_links.specs.AsTheStore.{MissingHasNoBox, NamesAreTheStores, RefusedIsReserved, HasTheBox, AskedHasTheBox, IsAsTheStore, DecidesAsTheStore}
use Rattle.route_links.specs.Barriers.{Place, answered}
use Rattle.route_links.specs.Decided.{by_state, mailbox_by, create_by}
use Rattle.route_links.proofs.BarrierLaw.{decides}
use Rattle.route_links.proofs.DecidedLaw.{by_its_table, names_of_its_table}

-- ---- missing

reserved_is_there : (server : List ℕ) (it : Why) → behind_reserved server it ≡ next.Missing → ⊥
reserved_is_there server why.Missing e = cc
reserved_is_there server why.NotNow e = cc

state_is_there : (it : Why) (server : List ℕ) (found : State) → by_state it server found ≡ next.Missing → ⊥
state_is_there it server (Bare serial) e = reserved_is_there server it e
state_is_there it server (Kept acl) e = reserved_is_there server it e
state_is_there it server (Active acl) e = cc

missing_by : (it : Why) (found : Option Record) → mailbox_by it found ≡ next.Missing → is_mailbox_if found ≡ false
missing_by it None e = refl
missing_by it (Some found) e = absurd (state_is_there it (found.place).server found.state e)

pub missing_has_no_box : MissingHasNoBox
missing_has_no_box table homes store first name it shown e = none_is_missing table homes store name shown (missing_by it (record_at table name) e)

-- ---- listed

pub names_are_the_stores : NamesAreTheStores
names_are_the_stores table homes store shown = names_of_its_table table ∙ same_names table homes store shown

-- ---- refused

reserved_refused : (server : List ℕ) (it : Why) → behind_reserved server it ≡ next.Refused → it ≡ why.NotNow
reserved_refused server why.Missing e = cc
reserved_refused server why.NotNow e = refl

record_refused : (it : Why) (found : Record) (z : State) → found.state ≡ z → by_state it (found.place).server z ≡ next.Refused
    → (is_reserved (Some found) ≡ true) × (it ≡ why.NotNow)
record_refused it found (Bare serial) is e = (rw is refl, reserved_refused (found.place).server it e)
record_refused it found (Kept acl) is e = (rw is refl, reserved_refused (found.place).server it e)
record_refused it found (Active acl) is e = absurd (let no : ⊥ = cc in no)

mailbox_refused : (it : Why) (found : Option Record) → mailbox_by it found ≡ next.Refused → (is_reserved found ≡ true) × (it ≡ why.NotNow)
mailbox_refused it None e = absurd (let no : ⊥ = cc in no)
mailbox_refused it (Some found) e = record_refused it found found.state refl e

create_refused : (table : MailboxTable) (first name : List ℕ) (it : Why) (found : Option Record) → create_by table first name it found ≡ next.Refused
    → (is_reserved found ≡ true) × (it ≡ why.NotNow)
create_refused table first name it None e = absurd (let no : ⊥ = cc in no)
create_refused table first name it (Some found) e = record_refused it found found.state refl e

pub refused_is_reserved : RefusedIsReserved
refused_is_reserved table first (about.Mailbox name) it e = mailbox_refused it (record_at table name) e
refused_is_reserved table first (about.Create name) it e = create_refused table first name it (record_at table name) e

-- ---- asked

reserved_asks : (server asked : List ℕ) (it : Why) → behind_reserved server it ≡ next.Ask asked → server ≡ asked
reserved_asks server asked why.Missing e = cc
reserved_asks server asked why.NotNow e = cc

module _ (homes : Homes) (store : Store) (name server : List ℕ) where
  has_it : (at : List ℕ) (acl : List ℕ) → at ≡ server → IsMailboxOf (content_at homes at name) (box_at store name) acl → HasTheBox homes store server name
  has_it at acl same is = record {
    box = is.content;
    here = subst (λ s. content_at homes s name ≡ Some is.content) same is.at_home;
    there = is.in_store;
  }

  state_has : (it : Why) (at : List ℕ) (z : State) → StateShows (content_at homes at name) (box_at store name) z → has_acl z ≡ true
      → by_state it at z ≡ next.Ask server → HasTheBox homes store server name
  state_has it at (Bare serial) shows box e = absurd (let no : ⊥ = cc in no)
  state_has it at (Kept acl) shows box e = has_it at acl (reserved_asks at server it e) shows
  state_has it at (Active acl) shows box e = has_it at acl (let same : at ≡ server = cc in same) shows

  mailbox_has : (it : Why) (found : Option Record) → RecordShows homes name (box_at store name) found → is_mailbox_if found ≡ true
      → mailbox_by it found ≡ next.Ask server → HasTheBox homes store server name
  mailbox_has it None shows box e = absurd (let no : ⊥ = cc in no)
  mailbox_has it (Some found) shows box e = state_has it (found.place).server found.state shows box e

  create_has : (table : MailboxTable) (first : List ℕ) (it : Why) (found : Option Record) → RecordShows homes name (box_at store name) found
      → is_mailbox_if found ≡ true → create_by table first name it found ≡ next.Ask server → HasTheBox homes store server name
  create_has table first it None shows box e = absurd (let no : ⊥ = cc in no)
  create_has table first it (Some found) shows box e = state_has it (found.place).server found.state shows box e

pub asked_has_the_box : AskedHasTheBox
asked_has_the_box table homes store first server (about.Mailbox name) it shown box e =
    mailbox_has homes store name server it (record_at table name) (shown.names name) box e
asked_has_the_box table homes store first server (about.Create name) it shown box e =
    create_has homes store name server table first it (record_at table name) (shown.names name) box e

-- ---- all of it, where the frontend takes the OK

as_the_store : (table : MailboxTable) (homes : Homes) (store : Store) → Shows table homes store → IsAsTheStore table homes store (replica_of table)
as_the_store table homes store shown = record {
  missing = λ first name it e. missing_has_no_box table homes store first name it shown (sym (by_its_table table first (about.Mailbox name) it) ∙ e);
  listed = names_are_the_stores table homes store shown;
  refused = λ first what it e. (refused_is_reserved table first what it (sym (by_its_table table first what it) ∙ e)).0;
  asked = λ first server what it box e. asked_has_the_box table homes store first server what it shown box (sym (by_its_table table first what it) ∙ e);
}

same_table : (table other : MailboxTable) → (let p : Place = answered table in p ≡ answered other) → table ≡ other
same_table table other e = cc

pub decides_as_the_store : DecidesAsTheStore
decides_as_the_store ask table homes store up down message replica awaits ok shown =
    let is = decides ask (answered table) up down message replica ok awaits in
    let has : replica ≡ replica_of table = is.has_all ∙ ap replica_of (sym (same_table table is.table is.at_is)) in
    subst (IsAsTheStore table homes store) (sym has) (as_the_store table homes store shown)
