-- The mailbox store (RFC 9051, 2.3): a map from names to mailboxes, and every UIDVALIDITY that was ever given.
use Rattle.std.specs.Prelude.{◌≡◌, ◌≢◌, ℕ, ◌<◌, nat_le, Bool, not, List, [], ◌∷◌, ◌++◌, length, Option, All}
use Rattle.std.specs.List.{filter}
use Rattle.std.specs.Ordering.{is_eq, nat_cmp}
use Rattle.std.specs.Cmp.Lexicographic.{slice_cmp}
use Rattle.mail_message.specs.Boxes.{Content}
use Rattle.mur_base.specs.declared.limits.TheConstants.{MAILBOX_LIMIT}
use Rattle.mur_base.specs.Map.{value_at, with_entry, with_value}
use Rattle.mur_model.specs.declared.store.Pair.{Pair}
use Rattle.mur_model.specs.declared.store.Store.{Store}

-- no mailbox yet, and no UIDVALIDITY given
abbrev pub empty_store : Store
empty_store = record { boxes = []; given = [] }

-- the mailbox of a name, if there is one
abbrev pub box_at : Store → List ℕ → Option Content
box_at store name = value_at (slice_cmp nat_cmp) store.boxes name

-- the store with a new mailbox, whose UIDVALIDITY is noted
abbrev pub with_new_box : Store → List ℕ → Content → Store
with_new_box store name box = record {
  boxes = with_entry (slice_cmp nat_cmp) store.boxes name box;
  given = store.given ++ (record { name = name; serial = box.serial }) ∷ [];
}

-- the store with another content of a mailbox
abbrev pub with_box : Store → List ℕ → Content → Store
with_box store name box = record store { boxes = with_value (slice_cmp nat_cmp) store.boxes name box }

-- the store without the mailbox of a name; its UIDVALIDITY stays given
abbrev pub without_box : Store → List ℕ → Store
without_box store name = record store { boxes = filter (λ (entry : List ℕ × Content). not (is_eq (slice_cmp nat_cmp name entry.0))) store.boxes }

-- as many mailboxes as there may be: this server's limit, each name counted once
unfoldable pub is_full : Store → Bool
is_full store = nat_le MAILBOX_LIMIT (length store.boxes)

-- a UIDVALIDITY that a new mailbox of this name may get: no mailbox ever had it, and it is above those that this name had
-- (RFC 9051, 2.3.1.1)
pub record IsFree (store : Store) (name : List ℕ) (serial : ℕ) : Type 0 where
  pub positive : 0 < serial
  pub unused : All (λ (pair : Pair). pair.serial ≢ serial) store.given
  pub rises : All (λ (pair : Pair). pair.name ≡ name → pair.serial < serial) store.given
