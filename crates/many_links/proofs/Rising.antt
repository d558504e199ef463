-- The messages of each mailbox stand in rising order of UID after any entry of a backend's disk.
use Rattle.std.proofs.Common.{◌≡◌, ℕ, Bool, true, false, cond, List, [], ◌∷◌, Option, None, Some, sym, subst}
use Rattle.std.specs.Prelude.{All}
use Rattle.std.specs.List.{fold}
use Rattle.std.specs.List.Sorted.{IsStrictlySortedBy}
use Rattle.std.specs.Map.{values_of}
use Rattle.std.specs.Option.{IfSome}
use Rattle.std.specs.Ordering.{nat_cmp}
use Rattle.std.specs.BTreeMap.{is_at}
use Rattle.std.specs.Cmp.Lexicographic.{slice_cmp}
use Rattle.std.proofs.lemmas.List.Elements.{All-nil, All-cons, All-head, All-tail}
use Rattle.std.proofs.lemmas.Map.Entries.{All-lookup}
use Rattle.std.proofs.lemmas.Map.Views.{All-values-insert_entry, All-map-remove_entry, All-values-set_value}
use Rattle.mail_message.specs.Boxes.{content_after, empty_box, IsRising}
use Rattle.mail_message.specs.declared.change.Change.{Change}
use Rattle.mail_message.specs.declared.change.Change.TheVariants.{NextUid}
use Rattle.mur_base.specs.declared.home.Phase.TheVariants.{Creating, Open, Closing, Receiving, Ready}
use Rattle.link_msg.specs.declared.message.LinkMsg.{LinkMsg}
use Rattle.node_record.specs.declared.backend.BackendRecord.{BackendRecord}
use Rattle.node_record.specs.declared.backend.BackendRecord.TheVariants as entry
use Rattle.node_record.specs.declared.held.Held.{Held}
use Rattle.node_record.specs.Held.{Names, held_at, held_after, has_content, is_receiving, changed, changed_if, placed, forgotten, pointer, puts}
use Rattle.node_record.specs.Held.{relabels, removals, ready_in, took_in, with_changes, with_phase}
use Rattle.backend_core.specs.HomeLaws.{RisesAt}
use Rattle.backend_core.proofs.RisesOn.{changes_rise}
use Rattle.name_flows.specs.Steps.{held_with}
use Rattle.back_node.specs.declared.node.BackNode.{BackNode}
use Rattle.back_node.specs.Takes.{node_takes}
use Rattle.back_node.proofs.Courses.{one_entry}
use Rattle.many_links.specs.ManyHold.{HasRising, AreRising}

abbrev is_named : List ℕ → List ℕ → Bool
is_named name = is_at (slice_cmp nat_cmp name)

-- ---- a look-up

of_values : (held : Names) → AreRising held → All (λ e. HasRising e.1) held
of_values [] all = All-nil (λ (e : List ℕ × Held). HasRising e.1)
of_values (e ∷ held) all =
    All-cons (λ (e : List ℕ × Held). HasRising e.1) e held (All-head HasRising e.1 (values_of held) all)
    (of_values held (All-tail HasRising e.1 (values_of held) all))

rising_there : (held : Names) → AreRising held → (name : List ℕ) → IfSome (held_at held name) HasRising
rising_there held all name = All-lookup HasRising (is_named name) held (of_values held all)

pub none_rising : AreRising []
none_rising = All-nil HasRising

-- ---- changes of the list

empty_rises : (serial : ℕ) (acl : List ℕ) → IsRising (empty_box serial acl).messages
unfolding IsStrictlySortedBy
empty_rises serial acl = tt

placed_rising : (held : Names) (name : List ℕ) (it : Held) → HasRising it → AreRising held → AreRising (placed held name it)
placed_rising held name it rises all = All-values-insert_entry (slice_cmp nat_cmp) name it HasRising held all rises

forgotten_rising : (names : List (List ℕ)) (held : Names) → AreRising held → AreRising (fold forgotten held names)
forgotten_rising [] held all = all
forgotten_rising (name ∷ names) held all =
    forgotten_rising names (forgotten held name) (All-map-remove_entry (is_named name) (λ (e : List ℕ × Held). e.1) HasRising held all)

set_rising : (held : Names) (name : List ℕ) (change : Held → Held) (found : Option Held) → ((it : Held) → HasRising it → HasRising (change it))
    → IfSome found HasRising → AreRising held → AreRising (changed_if held name change found)
set_rising held name change None keeps there all = all
set_rising held name change (Some it) keeps there all =
    All-values-set_value (is_named name) HasRising held (cond (has_content it.phase) (change it) it) all (by_content (has_content it.phase))
  where
    by_content : (has : Bool) → HasRising (cond has (change it) it)
    by_content true = keeps it there
    by_content false = there

changed_rising : (held : Names) (name : List ℕ) (change : Held → Held) → ((it : Held) → HasRising it → HasRising (change it)) → AreRising held
    → AreRising (changed held name change)
changed_rising held name change keeps all = set_rising held name change (held_at held name) keeps (rising_there held all name) all

messages_rise : (changes : List Change) (it : Held) → HasRising it → HasRising (with_changes changes it)
messages_rise changes it rises = changes_rise it.content changes rises

took_rises : (changes : List Change) (it : Held) → HasRising it → HasRising (took_in changes it)
took_rises changes it rises = by_phase (is_receiving it.phase)
  where
    by_phase : (t : Bool) → HasRising (cond t (with_changes changes it) it)
    by_phase true = messages_rise changes it rises
    by_phase false = rises

ready_rises : (next : ℕ) (it : Held) → HasRising it → HasRising (ready_in next it)
ready_rises next it rises = by_phase (is_receiving it.phase)
  where
    by_phase : (t : Bool) → HasRising (cond t (record { phase = Ready; giver = it.giver; content = content_after it.content (NextUid next) }) it)
    by_phase true = rises
    by_phase false = rises

-- ---- entries

after_rising : (held : Names) (it : BackendRecord) → AreRising held → AreRising (held_after held it)
after_rising held (entry.Make name serial acl) all =
    placed_rising held name (record { phase = Creating; giver = None; content = empty_box serial acl }) (empty_rises serial acl) all
after_rising held (entry.Opened name) all = changed_rising held name (with_phase Open) (λ it rises. rises) all
after_rising held (entry.Added name messages) all = changed_rising held name (with_changes (puts messages)) (messages_rise (puts messages)) all
after_rising held (entry.Flagged name rows) all = changed_rising held name (with_changes (relabels rows)) (messages_rise (relabels rows)) all
after_rising held (entry.Gone name uids) all = changed_rising held name (with_changes (removals uids)) (messages_rise (removals uids)) all
after_rising held (entry.Closing name) all = changed_rising held name (with_phase Closing) (λ it rises. rises) all
after_rising held (entry.Begun name giver serial acl) all =
    placed_rising held name (record { phase = Receiving; giver = Some giver; content = empty_box serial acl }) (empty_rises serial acl) all
after_rising held (entry.Took name changes) all = changed_rising held name (took_in changes) (took_rises changes) all
after_rising held (entry.Ready name next) all = changed_rising held name (ready_in next) (ready_rises next) all
after_rising held (entry.Pointer name server) all = placed_rising held name (pointer server) (empty_rises 0 []) all
after_rising held (entry.Forget names) all = forgotten_rising names held all

with_rising : (held : Names) (made : Option BackendRecord) → AreRising held → AreRising (held_with held made)
with_rising held None all = all
with_rising held (Some it) all = after_rising held it all

-- a step writes one entry at most
pub step_rising : (node : BackNode) (from : List ℕ) (message : LinkMsg) → AreRising node.home.held → AreRising (node_takes node from message).state.home.held
step_rising node from message all =
    subst AreRising (sym (one_entry node from message)) (with_rising node.home.held (node_takes node from message).entry all)

rises_if : (found : Option Held) → IfSome found HasRising → (held : Held) → found ≡ Some held → HasRising held
rises_if None there held e = cc
rises_if (Some it) there held e = subst (λ (found : Option Held). IfSome found HasRising) e there

-- of one name
pub rises_at : (node : BackNode) (name : List ℕ) → AreRising node.home.held → RisesAt node.home name
rises_at node name all = rises_if (held_at node.home.held name) (rising_there node.home.held all name)
