-- UIDVALIDITYs (RFC 9051, 2.3.1.1): the store gave those that the master's lines gave, in the same order.
use Rattle.std.specs.Prelude.{◌≡◌, ℕ, ◌<◌, ◌≤◌, [], map, All}
use Rattle.mur_model.specs.declared.store.Pair.{Pair}
use Rattle.mur_model.specs.declared.store.Store.{Store}
use Rattle.mur_model.specs.Store.{empty_store, IsFree}
use Rattle.node_record.specs.Table.{MailboxTable}
use Rattle.home_law.specs.ManyNames.{Mailbox}
use Rattle.name_links.specs.Serials.{Given, IsNewFor, SerialsHold}

abbrev pub given_pair : Pair → Mailbox × ℕ
given_pair pair = (pair.name, pair.serial)

abbrev pub HasGiven : Store → Given → Type 0
HasGiven store given = map given_pair store.given ≡ given

abbrev pub GivenFirst : Type 0
GivenFirst = HasGiven empty_store []

-- what no mailbox had, and is above those that a name had, is free for it
abbrev pub NewIsFree : Type 0
NewIsFree = (store : Store) (given : Given) (n : Mailbox) (serial : ℕ) → HasGiven store given → 0 < serial → IsNewFor n serial given → IsFree store n serial

-- none is above the table's serial
abbrev pub GivenAreLow : Type 0
GivenAreLow = (table : MailboxTable) (store : Store) (given : Given) → HasGiven store given → SerialsHold table given
    → All (λ (pair : Pair). pair.serial ≤ table.serial) store.given
