-- What the records of a table are to a replica, after each change of a map.
use Rattle.std.proofs.Common.{◌≡◌, ℕ, Bool, true, false, cond, List, [], ◌∷◌, map, Option, None, Some, refl, ap, ◌∙◌}
use Rattle.std.specs.declared.cmp.Ordering.{Ordering}
use Rattle.std.specs.declared.cmp.Ordering.TheVariants.{Less, Equal, Greater}
use Rattle.std.specs.Ordering.{is_eq, nat_cmp, match_ordering}
use Rattle.std.specs.Cmp.Lexicographic.{slice_cmp}
use Rattle.mur_base.specs.Map.{value_at, with_entry, with_value, without_key}
use Rattle.feed_core.specs.declared.rec.Rec.{Rec}
use Rattle.feed_core.specs.Feed.{Recs, rec_at, put}
use Rattle.node_record.specs.declared.table.Record.{Record}
use Rattle.feed_links.specs.Replicas.{rec_of, rec_entry}

abbrev Records : Type 0
Records = List (List ℕ × Record)

abbrev pub recs : Records → Recs
recs records = map rec_entry records

abbrev rec_if : Option Record → Option Rec
rec_if None = None
rec_if (Some it) = Some (rec_of it)

found_by : (e : List ℕ × Record) (found : Option Record) (same : Bool) → cond same (Some (rec_of e.1)) (rec_if found) ≡ rec_if (cond same (Some e.1) found)
found_by e found true = refl
found_by e found false = refl

found_if : (records : Records) (name : List ℕ) → rec_at (recs records) name ≡ rec_if (value_at (slice_cmp nat_cmp) records name)
found_if [] name = refl
found_if (e ∷ records) name =
    ap (λ found. cond (is_eq (slice_cmp nat_cmp name e.0)) (Some (rec_of e.1)) found) (found_if records name)
    ∙ found_by e (value_at (slice_cmp nat_cmp) records name) (is_eq (slice_cmp nat_cmp name e.0))

-- a name without a record, and one with one
pub none_there : (records : Records) (name : List ℕ) → value_at (slice_cmp nat_cmp) records name ≡ None → rec_at (recs records) name ≡ None
none_there records name none = found_if records name ∙ ap rec_if none

pub one_there : (records : Records) (name : List ℕ) (it : Record) → value_at (slice_cmp nat_cmp) records name ≡ Some it
    → rec_at (recs records) name ≡ Some (rec_of it)
one_there records name it there = found_if records name ∙ ap rec_if there

put_by : (e : List ℕ × Record) (records : Records) (name : List ℕ) (it : Record) → recs (with_entry (slice_cmp nat_cmp) records name it) ≡ put (recs records) name (rec_of it)
    → (o : Ordering) → recs (match_ordering o ((name, it) ∷ e ∷ records) ((e.0, it) ∷ records) (e ∷ with_entry (slice_cmp nat_cmp) records name it))
    ≡ match_ordering o ((name, rec_of it) ∷ rec_entry e ∷ recs records) ((e.0, rec_of it) ∷ recs records) (rec_entry e ∷ put (recs records) name (rec_of it))
put_by e records name it more Less = refl
put_by e records name it more Equal = refl
put_by e records name it more Greater = ap (λ r. rec_entry e ∷ r) more

pub entry_put : (records : Records) (name : List ℕ) (it : Record) → recs (with_entry (slice_cmp nat_cmp) records name it) ≡ put (recs records) name (rec_of it)
entry_put [] name it = refl
entry_put (e ∷ records) name it = put_by e records name it (entry_put records name it) (slice_cmp nat_cmp name e.0)

value_by : (e : List ℕ × Record) (records rest : Records) (it : Record) (same : Bool)
    → recs (cond same ((e.0, it) ∷ records) (e ∷ rest)) ≡ cond same ((e.0, rec_of it) ∷ recs records) (rec_entry e ∷ recs rest)
value_by e records rest it true = refl
value_by e records rest it false = refl

pub value_put : (records : Records) (name : List ℕ) (it : Record)
    → recs (with_value (slice_cmp nat_cmp) records name it) ≡ with_value (slice_cmp nat_cmp) (recs records) name (rec_of it)
value_put [] name it = refl
value_put (e ∷ records) name it =
    value_by e records (with_value (slice_cmp nat_cmp) records name it) it (is_eq (slice_cmp nat_cmp name e.0))
    ∙ ap (λ r. cond (is_eq (slice_cmp nat_cmp name e.0)) ((e.0, rec_of it) ∷ recs records) (rec_entry e ∷ r)) (value_put records name it)

gone_by : (e : List ℕ × Record) (records rest : Records) (same : Bool) → recs (cond same records (e ∷ rest)) ≡ cond same (recs records) (rec_entry e ∷ recs rest)
gone_by e records rest true = refl
gone_by e records rest false = refl

pub entry_gone : (records : Records) (name : List ℕ) → recs (without_key (slice_cmp nat_cmp) records name) ≡ without_key (slice_cmp nat_cmp) (recs records) name
entry_gone [] name = refl
entry_gone (e ∷ records) name =
    gone_by e records (without_key (slice_cmp nat_cmp) records name) (is_eq (slice_cmp nat_cmp name e.0))
    ∙ ap (λ r. cond (is_eq (slice_cmp nat_cmp name e.0)) (recs records) (rec_entry e ∷ r)) (entry_gone records name)
