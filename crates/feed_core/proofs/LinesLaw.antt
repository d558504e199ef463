-- The lines of records, in the order of their names, make these records.
use Rattle.std.proofs.Common.{◌≡◌, ℕ, cond, List, [], ◌∷◌, ◌++◌, None, Some, refl, sym, ap, ◌∙◌, subst, append-nil, append_assoc}
use Rattle.std.specs.Prelude.{⊤}
use Rattle.std.specs.declared.cmp.Ordering.TheVariants.{Less, Greater}
use Rattle.std.specs.Ordering.{is_eq, nat_cmp, match_ordering, ordering_reverse}
use Rattle.std.specs.Cmp.Lexicographic.{slice_cmp}
use Rattle.std.specs.BTreeMap.{insert_entry}
use Rattle.std.specs.Map.{keys_of}
use Rattle.std.specs.List.{flat_map, AllByRecursion}
use Rattle.std.specs.List.Sorted.{IsStrictlySortedBy}
use Rattle.std.proofs.lemmas.Cmp.{nat_list_cmp_total}
use Rattle.std.proofs.lemmas.List.Concat.{flat_map-cons}
use Rattle.std.proofs.lemmas.Grind.{fold-append}
use Rattle.mur_base.specs.Map.{with_value, IsInOrder}
use Rattle.mur_base.proofs.MapLaws.{names_apart, value_at-with_entry}
use Rattle.feed_core.specs.declared.rec.Rec.{Rec}
use Rattle.feed_core.specs.declared.rec.Rec.TheVariants.{Active, Reserved}
use Rattle.feed_core.specs.Feed.{Recs, put, rec_at, reserved_in, recs_after, fed}
use Rattle.feed_core.specs.RecLines.{lines_of_rec, rec_lines}

-- all names are below this one
unfoldable AreBelow : Recs → List ℕ → Type 0
AreBelow [] name = ⊤
AreBelow (e ∷ recs) name = (slice_cmp nat_cmp name e.0 ≡ Greater) × AreBelow recs name

is_above : (one other : List ℕ) → slice_cmp nat_cmp one other ≡ Less → slice_cmp nat_cmp other one ≡ Greater
is_above one other h = nat_list_cmp_total.antisymm other one ∙ ap ordering_reverse h

at_seam : (P : List ℕ → Type 0) (before after : Recs) (e : List ℕ × Rec) → AllByRecursion P (keys_of (before ++ e ∷ after)) → P e.0
at_seam P [] after e h = h.0
at_seam P (x ∷ before) after e h = at_seam P before after e h.1

-- the names before another are below it
are_below : (before after : Recs) (e : List ℕ × Rec) → IsInOrder (slice_cmp nat_cmp) (before ++ e ∷ after) → AreBelow before e.0
unfolding AreBelow IsStrictlySortedBy
are_below [] after e s = tt
are_below (x ∷ before) after e s = (is_above x.0 e.0 (at_seam (λ q. slice_cmp nat_cmp x.0 q ≡ Less) before after e s.0), are_below before after e s.1)

-- a name that is above all comes last
put_last : (recs : Recs) (name : List ℕ) (it : Rec) → AreBelow recs name → put recs name it ≡ recs ++ (name, it) ∷ []
unfolding AreBelow
put_last [] name it h = refl
put_last (x ∷ recs) name it h =
    ap (λ o. match_ordering o ((name, it) ∷ x ∷ recs) ((x.0, it) ∷ recs) (x ∷ insert_entry (slice_cmp nat_cmp) recs name it)) h.0
    ∙ ap (λ r. x ∷ r) (put_last recs name it h.1)

not_found : (recs : Recs) (name : List ℕ) → AreBelow recs name → rec_at recs name ≡ None
unfolding AreBelow
not_found [] name h = refl
not_found (x ∷ recs) name h = ap (λ o. cond (is_eq o) (Some x.1) (rec_at recs name)) h.0 ∙ not_found recs name h.1

found_last : (recs : Recs) (name : List ℕ) (it : Rec) → AreBelow recs name → rec_at (recs ++ (name, it) ∷ []) name ≡ Some it
found_last recs name it h =
    subst (λ r. rec_at r name ≡ Some it) (put_last recs name it h) (value_at-with_entry (slice_cmp nat_cmp) names_apart recs name it)

changed_last : (recs : Recs) (name : List ℕ) (old it : Rec) → AreBelow recs name
    → with_value (slice_cmp nat_cmp) (recs ++ (name, old) ∷ []) name it ≡ recs ++ (name, it) ∷ []
unfolding AreBelow
changed_last [] name old it h = ap (λ b. cond b ((name, it) ∷ []) ((name, old) ∷ [])) (names_apart.itself name)
changed_last (x ∷ recs) name old it h =
    ap (λ o. cond (is_eq o) ((x.0, it) ∷ (recs ++ (name, old) ∷ [])) (x ∷ with_value (slice_cmp nat_cmp) (recs ++ (name, old) ∷ []) name it)) h.0
    ∙ ap (λ r. x ∷ r) (changed_last recs name old it h.1)

-- the lines of a record put it last
one_more : (recs : Recs) (name : List ℕ) (it : Rec) → AreBelow recs name → fed recs (lines_of_rec name it) ≡ recs ++ (name, it) ∷ []
one_more recs name (Active place acl) h = put_last recs name (Active place acl) h
one_more recs name (Reserved place None) h =
    ap (reserved_in recs name place) (not_found recs name h) ∙ put_last recs name (Reserved place None) h
one_more recs name (Reserved place (Some acl)) h =
    ap (λ r. reserved_in r name place (rec_at r name)) (put_last recs name (Active place acl) h)
    ∙ ap (reserved_in (recs ++ (name, Active place acl) ∷ []) name place) (found_last recs name (Active place acl) h)
    ∙ changed_last recs name (Active place acl) (Reserved place (Some acl)) h

lines_from : (before recs : Recs) → IsInOrder (slice_cmp nat_cmp) (before ++ recs) → fed before (flat_map rec_lines recs) ≡ before ++ recs
lines_from before [] s = sym (append-nil before)
lines_from before (e ∷ recs) s =
    let seam : (before ++ e ∷ []) ++ recs ≡ before ++ e ∷ recs = append_assoc before (e ∷ []) recs in
    ap (fed before) (flat_map-cons rec_lines e recs)
    ∙ fold-append recs_after before (rec_lines e) (flat_map rec_lines recs)
    ∙ ap (λ r. fed r (flat_map rec_lines recs)) (one_more before e.0 e.1 (are_below before recs e s))
    ∙ lines_from (before ++ e ∷ []) recs (subst (IsInOrder (slice_cmp nat_cmp)) (sym seam) s) ∙ seam

pub lines_make : (recs : Recs) → IsInOrder (slice_cmp nat_cmp) recs → fed [] (flat_map rec_lines recs) ≡ recs
lines_make recs s = lines_from [] recs s
