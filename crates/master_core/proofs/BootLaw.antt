-- The entries of a disk, one after another.
use Rattle.std.proofs.Common.{◌≡◌, ℕ, ◌+◌, ◌<◌, List, [], ◌∷◌, ◌++◌, take, drop, length, get_or, suc, Result, Err, refl, sym, ap, ◌∙◌, subst}
use Rattle.std.proofs.Common.{add-one, drop-cons}
use Rattle.std.proofs.lemmas.List.{take-append-drop, take_more}
use Rattle.std.proofs.lemmas.List.Sums.{fold-append}
use Rattle.node_record.specs.declared.master.MasterRecord.{MasterRecord}
use Rattle.node_record.specs.declared.fault.RecordFault.{RecordFault}
use Rattle.node_record.specs.MasterEntries.{master_entry}
use Rattle.node_record.specs.Ruled.{IsMasterRecord}
use Rattle.node_record.specs.Stored.{IsStored, IsFirstBad}
use Rattle.node_record.specs.Table.{MailboxTable, table_after, empty_table}
use Rattle.master_core.specs.Boot.{AreStored, none, next, IsRead, IsNoEntry}

stored_more : (all : List (List ℕ)) (entries : List MasterRecord) (bytes : List ℕ) (entry : MasterRecord) → AreStored all entries
    → IsStored IsMasterRecord master_entry bytes entry → AreStored (all ++ bytes ∷ []) (entries ++ entry ∷ [])
stored_more all entries bytes entry none s = next bytes entry [] [] s none
stored_more all entries bytes entry (next b e more later t rest) s = next b e (more ++ bytes ∷ []) (later ++ entry ∷ []) t (stored_more more later bytes entry rest s)

pub read_nothing : IsRead [] empty_table
read_nothing = record { entries = []; stored = none; is = refl }

-- one entry more
pub read_more : (all : List (List ℕ)) (i : ℕ) (bytes : List ℕ) (entry : MasterRecord) (table after : MailboxTable) → i < length all
    → bytes ≡ get_or all i bytes → IsRead (take i all) table → IsStored IsMasterRecord master_entry bytes entry → after ≡ table_after table entry
    → IsRead (take (i + 1) all) after
read_more all i bytes entry table after within is r s a = record {
  entries = r.entries ++ entry ∷ [];
  stored =
      subst (λ t. AreStored t (r.entries ++ entry ∷ [])) (ap (λ b. take i all ++ b ∷ []) is ∙ sym (take_more all i bytes within))
      (stored_more (take i all) r.entries bytes entry r.stored s);
  is = a ∙ ap (λ t. table_after t entry) r.is ∙ sym (fold-append table_after empty_table r.entries (entry ∷ []));
}

-- one that is no entry
pub no_entry : (all : List (List ℕ)) (i : ℕ) (bytes : List ℕ) (at : ℕ) (table : MailboxTable) → i < length all → bytes ≡ get_or all i bytes
    → IsRead (take i all) table → IsFirstBad IsMasterRecord master_entry bytes at → IsNoEntry all at
no_entry all i bytes at table within is r bad = record {
  before = take i all;
  bytes = bytes;
  after = drop (i + 1) all;
  entries = r.entries;
  parts =
      sym (take-append-drop i all) ∙ ap (λ t. take i all ++ t) (drop-cons all i bytes within)
      ∙ ap (λ b. take i all ++ b ∷ drop (suc i) all) (sym is) ∙ ap (λ n. take i all ++ bytes ∷ drop n all) (sym (add-one i));
  stored = r.stored;
  bad = bad;
}

-- a fault that is handed on
pub err_is : {A B : Type 0} (x y : RecordFault) → (let r : Result A RecordFault = Err x in r ≡ Err y) → (let s : Result B RecordFault = Err x in s ≡ Err y)
err_is x y e = let same : x ≡ y = cc in ap Err same
