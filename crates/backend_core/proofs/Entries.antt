-- What the entries of a step make of a home: a mailbox that is Open goes on with another content.
use Rattle.std.proofs.Common.{◌≡◌, ℕ, true, cond, List, [], ◌∷◌, Some, refl, sym, ◌∙◌, ap}
use Rattle.std.specs.Ordering.{nat_cmp}
use Rattle.std.specs.BTreeMap.{is_at}
use Rattle.std.specs.Cmp.Lexicographic.{slice_cmp}
use Rattle.std.proofs.lemmas.Map.Steps.{set_value_same}
use Rattle.mur_base.specs.Map.{with_value}
use Rattle.mur_base.specs.declared.home.Phase.{Phase}
use Rattle.mur_base.specs.declared.home.Phase.TheVariants.{Open}
use Rattle.mail_message.specs.Boxes.{content_after_all}
use Rattle.mail_message.specs.declared.change.Change.{Change}
use Rattle.node_record.specs.declared.backend.BackendRecord.{BackendRecord}
use Rattle.node_record.specs.declared.held.Held.{Held}
use Rattle.node_record.specs.Held.{Names, changed, changed_if, has_content, held_after, with_changes}
use Rattle.backend_core.specs.declared.backend.Backend.{Backend}
use Rattle.backend_core.specs.HomeLaws.{is_open}
use Rattle.backend_core.specs.HomeStep.{held_at, with_content}
use Rattle.backend_core.specs.OpPlan.{entry_of, home_after}

-- a content in its own place
pub same_content : (home : Backend) (name : List ℕ) (held : Held) → held_at home name ≡ Some held → with_content home name held held.content ≡ home
same_content home name held found =
    ap (λ (names : Names). record home { held = names }) (set_value_same (is_at (slice_cmp nat_cmp name)) home.held held found)

open_has : (phase : Phase) → is_open phase ≡ true → has_content phase ≡ true
unfolding is_open
open_has Open opened = refl
open_has phase opened = cc

with_changed : (home : Backend) (name : List ℕ) (held : Held) (changes : List Change) → held_at home name ≡ Some held → is_open held.phase ≡ true
    → record home { held = changed home.held name (with_changes changes) } ≡ with_content home name held (content_after_all held.content changes)
with_changed home name held changes found opened =
    ap (λ f. record home { held = changed_if home.held name (with_changes changes) f }) found
    ∙ ap (λ b. record home { held = with_value (slice_cmp nat_cmp) home.held name (cond b (with_changes changes held) held) }) (open_has held.phase opened)

-- an entry about some things changes the content, and where there is nothing nothing is to be changed
pub entry_makes : {A : Type 0} (entry : List A → BackendRecord) (changes : List A → List Change) (list : List A)
    (home : Backend) (name : List ℕ) (held : Held) → changes [] ≡ []
    → ((names : Names) → held_after names (entry list) ≡ changed names name (with_changes (changes list)))
    → held_at home name ≡ Some held → is_open held.phase ≡ true
    → home_after home (entry_of entry list) ≡ with_content home name held (content_after_all held.content (changes list))
unfolding entry_of
entry_makes entry changes [] home name held none made found opened =
    sym (ap (λ (more : List Change). with_content home name held (content_after_all held.content more)) none ∙ same_content home name held found)
entry_makes entry changes (first ∷ rest) home name held none made found opened =
    ap (λ (names : Names). record home { held = names }) (made home.held)
    ∙ with_changed home name held (changes (first ∷ rest)) found opened
