-- The mailboxes of a backend can be told after each entry that a step writes.
use Rattle.std.proofs.Common.{ℕ, Bool, true, false, cond, List, [], ◌∷◌, Option, None, Some, sym, subst, arith}
use Rattle.std.specs.Prelude.{All}
use Rattle.std.specs.List.{fold}
use Rattle.std.specs.Map.{values_of}
use Rattle.std.specs.Option.{IfSome}
use Rattle.std.specs.Ordering.{nat_cmp}
use Rattle.std.specs.BTreeMap.{is_at}
use Rattle.std.specs.Cmp.Lexicographic.{slice_cmp}
use Rattle.std.proofs.lemmas.List.Elements.{All-nil, All-cons, All-head, All-tail}
use Rattle.std.proofs.lemmas.Map.{keys-set_value}
use Rattle.std.proofs.lemmas.Map.Entries.{All-lookup}
use Rattle.std.proofs.lemmas.Map.Views.{All-keys-insert_entry, All-values-insert_entry, All-map-remove_entry, All-values-set_value}
use Rattle.mail_message.specs.declared.change.Change.{Change}
use Rattle.mur_base.specs.declared.home.Phase.TheVariants.{Creating, Open, Closing}
use Rattle.mail_message.specs.Boxes.{empty_box}
use Rattle.node_record.specs.declared.backend.BackendRecord.{BackendRecord}
use Rattle.node_record.specs.declared.backend.BackendRecord.TheVariants as entry
use Rattle.node_record.specs.declared.held.Held.{Held}
use Rattle.node_record.specs.Held.{Names, held_at, held_after, has_content, changed, changed_if, placed, forgotten, pointer, puts, relabels, removals, with_changes, with_phase}
use Rattle.name_flows.specs.Listed.{forget_all}
use Rattle.name_flows.specs.Steps.{held_with}
use Rattle.name_links.specs.OneLink.{IsMessageStep}
use Rattle.name_links.specs.Spelled.{IsNameText, IsShort}
use Rattle.name_links.proofs.ServedLaw.{acl_kept}
use Rattle.back_links.specs.Spelled.{HaveTexts, HasShortAcl}

abbrev is_named : List ℕ → List ℕ → Bool
is_named name = is_at (slice_cmp nat_cmp name)

-- the list of all entries, by what all values have
of_values : (P : Held → Type 0) (held : Names) → All P (values_of held) → All (λ e. P e.1) held
of_values P [] all = All-nil (λ (e : List ℕ × Held). P e.1)
of_values P (e ∷ held) all =
    All-cons (λ (e : List ℕ × Held). P e.1) e held (All-head P e.1 (values_of held) all) (of_values P held (All-tail P e.1 (values_of held) all))

-- the access list of a mailbox
pub acl_there : (held : Names) → HaveTexts held → (name : List ℕ) → IfSome (held_at held name) HasShortAcl
acl_there held are name = All-lookup HasShortAcl (is_named name) held (of_values HasShortAcl held are.acls)

pub none_spelled : HaveTexts []
none_spelled = record { names = All-nil IsNameText; acls = All-nil HasShortAcl }

placed_spelled : (held : Names) (name : List ℕ) (it : Held) → IsNameText name → HasShortAcl it → HaveTexts held → HaveTexts (placed held name it)
placed_spelled held name it named short are = record {
  names = All-keys-insert_entry (slice_cmp nat_cmp) name it IsNameText held are.names named;
  acls = All-values-insert_entry (slice_cmp nat_cmp) name it HasShortAcl held are.acls short;
}

set_spelled : (held : Names) (name : List ℕ) (change : Held → Held) (found : Option Held) → ((it : Held) → HasShortAcl it → HasShortAcl (change it))
    → IfSome found HasShortAcl → HaveTexts held → HaveTexts (changed_if held name change found)
set_spelled held name change None keeps short are = are
set_spelled held name change (Some it) keeps short are = record {
  names = subst (All IsNameText) (sym (keys-set_value (is_named name) held (cond (has_content it.phase) (change it) it))) are.names;
  acls = All-values-set_value (is_named name) HasShortAcl held (cond (has_content it.phase) (change it) it) are.acls (by_content (has_content it.phase));
}
  where
    by_content : (there : Bool) → HasShortAcl (cond there (change it) it)
    by_content true = keeps it short
    by_content false = short

changed_spelled : (held : Names) (name : List ℕ) (change : Held → Held) → ((it : Held) → HasShortAcl it → HasShortAcl (change it)) → HaveTexts held
    → HaveTexts (changed held name change)
changed_spelled held name change keeps are = set_spelled held name change (held_at held name) keeps (acl_there held are name) are

forgotten_spelled : (held : Names) (name : List ℕ) → HaveTexts held → HaveTexts (forgotten held name)
forgotten_spelled held name are = record {
  names = All-map-remove_entry (is_named name) (λ (e : List ℕ × Held). e.0) IsNameText held are.names;
  acls = All-map-remove_entry (is_named name) (λ (e : List ℕ × Held). e.1) HasShortAcl held are.acls;
}

-- ---- entries of the talk with the master

pub made_spelled : (held : Names) (name : List ℕ) (serial : ℕ) (acl : List ℕ) → IsNameText name → IsShort acl → HaveTexts held
    → HaveTexts (held_with held (Some (entry.Make name serial acl)))
made_spelled held name serial acl named short are =
    placed_spelled held name (record { phase = Creating; giver = None; content = empty_box serial acl }) named short are

pub pointed_spelled : (held : Names) (name server : List ℕ) → IsNameText name → HaveTexts held → HaveTexts (held_with held (Some (entry.Pointer name server)))
pointed_spelled held name server named are = placed_spelled held name (pointer server) named (omega arith) are

pub opened_spelled : (held : Names) (name : List ℕ) → HaveTexts held → HaveTexts (held_with held (Some (entry.Opened name)))
opened_spelled held name are = changed_spelled held name (with_phase Open) (λ it short. short) are

pub closed_spelled : (held : Names) (name : List ℕ) → HaveTexts held → HaveTexts (held_with held (Some (entry.Closing name)))
closed_spelled held name are = changed_spelled held name (with_phase Closing) (λ it short. short) are

all_forgotten : (names : List (List ℕ)) (held : Names) → HaveTexts held → HaveTexts (fold forgotten held names)
all_forgotten [] held are = are
all_forgotten (name ∷ names) held are = all_forgotten names (forgotten held name) (forgotten_spelled held name are)

pub gone_spelled : (held : Names) (name : List ℕ) → HaveTexts held → HaveTexts (held_with held (Some (entry.Forget (name ∷ []))))
gone_spelled held name are = all_forgotten (name ∷ []) held are

pub forget_spelled : (names : List (List ℕ)) (held : Names) → HaveTexts held → HaveTexts (held_with held (forget_all names))
forget_spelled [] held are = are
forget_spelled (name ∷ names) held are = all_forgotten (name ∷ names) held are

-- ---- message steps

served_by : (held : Names) (name : List ℕ) (changes : List Change) → HaveTexts held → HaveTexts (changed held name (with_changes changes))
served_by held name changes are =
    changed_spelled held name (with_changes changes) (λ it short. subst IsShort (sym (acl_kept it.content changes)) short) are

pub served_spelled : (held : Names) (it : BackendRecord) → IsMessageStep held it → HaveTexts held → HaveTexts (held_after held it)
served_spelled held (entry.Added name messages) is are = served_by held name (puts messages) are
served_spelled held (entry.Flagged name rows) is are = served_by held name (relabels rows) are
served_spelled held (entry.Gone name uids) is are = served_by held name (removals uids) are
served_spelled held it is are = absurd is
