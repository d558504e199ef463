-- What the entries of a step leave of a home, by what an ask leaves.
use Rattle.std.proofs.Common.{◌≡◌, ℕ, Bool, true, false, cond, List, [], ◌∷◌, Option, None, Some, refl, sym, ◌∙◌, ap, subst, arith}
use Rattle.std.specs.Prelude.{All}
use Rattle.std.proofs.lemmas.List.Elements.{All-map, All-weaker}
use Rattle.mail_message.specs.declared.change.Change.{Change}
use Rattle.mail_message.specs.declared.change.Change.TheVariants.{SetFlags}
use Rattle.mail_message.specs.declared.message.Message.{Message}
use Rattle.mail_message.specs.declared.message.Row.{Row}
use Rattle.mail_message.specs.declared.mode.Mode.{Mode}
use Rattle.mail_message.specs.declared.mode.Mode.TheVariants.{Add}
use Rattle.mail_message.specs.Boxes.{Content, content_after, content_after_all, has_uid, relabelled, with_flags}
use Rattle.mail_message.specs.FlagSets.{Flags}
use Rattle.mail_store.specs.Append.{append_fault, appended, puts_from}
use Rattle.mail_store.specs.Expunge.{expunged, expunged_uids}
use Rattle.mail_store.specs.Kept.{AreUidsBelowNext, IsLaterContent}
use Rattle.mail_store.specs.Store.{flag_changes, has_too_many_flags, rows_stored}
use Rattle.mail_store.specs.declared.fault.StoreFault.{StoreFault}
use Rattle.mail_store.proofs.FollowsLaws.{appended_follows, expunged_follows}
use Rattle.mail_store.proofs.TouchedLaws.{next-flags}
use Rattle.mail_store.proofs.UidsBelow.{IsBelow, appended_below, expunged_below}
use Rattle.link_msg.specs.declared.ask.FrontAsk.{FrontAsk}
use Rattle.imap_types.specs.declared.op.Op.{Op}
use Rattle.imap_types.specs.declared.op.Op.TheVariants.{Look, Read, Summaries, Flags as flags_op, Expunge, Append}
use Rattle.node_record.specs.declared.backend.BackendRecord.TheVariants.{Added, Flagged, Gone}
use Rattle.node_record.specs.declared.held.Held.{Held}
use Rattle.node_record.specs.Held.{puts, relabels, removals}
use Rattle.backend_core.specs.declared.backend.Backend.{Backend}
use Rattle.backend_core.specs.declared.op_plan.OpPlan.{OpPlan}
use Rattle.backend_core.specs.declared.response.Response.{Response}
use Rattle.backend_core.specs.Append.{adds_within_limits, append_plan, with_uids}
use Rattle.backend_core.specs.AskPlan.{ask_plan, op_plan}
use Rattle.backend_core.specs.Expunge.{expunge_plan}
use Rattle.backend_core.specs.Flags.{differing, flags_plan, relabels_unless}
use Rattle.backend_core.specs.HomeLaws.{is_open}
use Rattle.backend_core.specs.HomeStep.{held_at, with_content}
use Rattle.backend_core.specs.Look.{look_plan}
use Rattle.backend_core.specs.OpPlan.{entry_of, home_after, plans, plans_unless}
use Rattle.backend_core.specs.Read.{read_plan, seen_entries, seen_flag}
use Rattle.backend_core.specs.Refusal.{refusal, is_other}
use Rattle.backend_core.specs.Summaries.{summaries_plan}
use Rattle.backend_core.proofs.AddedLaw.{added_makes}
use Rattle.backend_core.proofs.Entries.{entry_makes}
use Rattle.backend_core.proofs.Leaves.{Leaves, stays, turns, served_open}

-- ---- the entry of each operation

pub added_home : (home : Backend) (name : List ℕ) (held : Held) (messages : List Message) → held_at home name ≡ Some held → is_open held.phase ≡ true
    → append_fault held.content messages ≡ None
    → home_after home (entry_of (Added name) (with_uids held.content.next messages)) ≡ with_content home name held (appended held.content messages)
added_home home name held messages found opened none =
    entry_makes (Added name) puts (with_uids held.content.next messages) home name held refl (λ names. refl) found opened
    ∙ ap (with_content home name held) (added_makes held.content messages none)

pub flagged_home : (home : Backend) (name : List ℕ) (held : Held) (rows : List Row) → held_at home name ≡ Some held → is_open held.phase ≡ true
    → home_after home (entry_of (Flagged name) rows) ≡ with_content home name held (content_after_all held.content (relabels rows))
flagged_home home name held rows found opened =
    entry_makes (Flagged name) relabels rows home name held refl (λ names. refl) found opened

pub gone_home : (home : Backend) (name : List ℕ) (held : Held) (only : Option (List ℕ)) → held_at home name ≡ Some held → is_open held.phase ≡ true
    → home_after home (entry_of (Gone name) (expunged_uids held.content only)) ≡ with_content home name held (expunged held.content only)
gone_home home name held only found opened =
    entry_makes (Gone name) removals (expunged_uids held.content only) home name held refl (λ names. refl) found opened

-- ---- other flags leave the UIDs

serial_flags : (box : Content) (rows : List Row) → (content_after_all box (flag_changes rows)).serial ≡ box.serial
serial_flags box [] = refl
serial_flags box (row ∷ rows) = serial_flags (content_after box (SetFlags row.uid row.flags)) rows

flags_follow : (box : Content) (rows : List Row) → IsLaterContent box (content_after_all box (relabels rows))
flags_follow box rows = (serial_flags box rows, omega (arith, next-flags box rows))

label_by : (limit : ℕ) (test : Bool) (message : Message) (flags : Flags) → IsBelow limit message → IsBelow limit (cond test (relabelled message flags) message)
label_by limit true message flags one = one
label_by limit false message flags one = one

labels_below : (limit : ℕ) (box : Content) (rows : List Row) → All (IsBelow limit) box.messages
    → All (IsBelow limit) (content_after_all box (flag_changes rows)).messages
labels_below limit box [] all = all
labels_below limit box (row ∷ rows) all =
    labels_below limit (content_after box (SetFlags row.uid row.flags)) rows
    (All-map (IsBelow limit) (with_flags row.uid row.flags) box.messages
    (All-weaker (IsBelow limit) (λ message. IsBelow limit (with_flags row.uid row.flags message))
    (λ message one. label_by limit (has_uid row.uid message) message row.flags one) box.messages all))

flags_below : (box : Content) (rows : List Row) → AreUidsBelowNext box → AreUidsBelowNext (content_after_all box (relabels rows))
flags_below box rows below =
    subst (λ (limit : ℕ). All (IsBelow limit) (content_after_all box (flag_changes rows)).messages) (sym (next-flags box rows))
    (labels_below box.next box rows below)

-- ---- each operation

-- what entries make of a home: nothing, or changes of a mailbox that is Open
pub data Writes (home : Backend) (name : List ℕ) (after : Backend) : Type 0 where
  writes_nothing : after ≡ home → Writes home name after
  writes_changes : (held : Held) (changes : List Change) → held_at home name ≡ Some held → is_open held.phase ≡ true
      → IsLaterContent held.content (content_after_all held.content changes)
      → (AreUidsBelowNext held.content → AreUidsBelowNext (content_after_all held.content changes))
      → after ≡ with_content home name held (content_after_all held.content changes) → Writes home name after

abbrev Left : Backend → List ℕ → OpPlan → Type 0
Left home name plan = Writes home name (home_after home plan.entries)

unless_left : (home : Backend) (name : List ℕ) (plan : OpPlan) (response : Option Response) → (response ≡ None → Left home name plan)
    → Left home name (plans_unless plan response)
unfolding plans_unless
unless_left home name plan (Some response) works = writes_nothing refl
unless_left home name plan None works = works refl

-- an operation on messages, which works where the name is Open
plans_left : (home : Backend) (name : List ℕ) (selected : Option ℕ) (plan : Content → OpPlan) (found : Option Held) → held_at home name ≡ found
    → ((held : Held) → held_at home name ≡ Some held → is_open held.phase ≡ true → Left home name (plan held.content))
    → Left home name (plans selected plan found)
unfolding plans refusal
plans_left home name selected plan None found works = writes_nothing refl
plans_left home name selected plan (Some held) found works =
    unless_left home name (plan held.content) (refusal selected held)
    (λ none. works held found (served_open held.phase (is_other selected held.content) none))

append_by : (home : Backend) (name : List ℕ) (held : Held) (messages : List Message) (fault : Option StoreFault)
    → append_fault held.content messages ≡ fault → held_at home name ≡ Some held → is_open held.phase ≡ true
    → Left home name (adds_within_limits name held.content messages fault)
unfolding adds_within_limits
append_by home name held messages (Some fault) is found opened = writes_nothing refl
append_by home name held messages None is found opened =
    writes_changes held (puts_from held.content.next messages) found opened (appended_follows held.content messages) (appended_below held.content messages)
    (added_home home name held messages found opened is)

relabels_left : (home : Backend) (name : List ℕ) (held : Held) (rows : List Row) → held_at home name ≡ Some held → is_open held.phase ≡ true
    → Writes home name (home_after home (entry_of (Flagged name) rows))
relabels_left home name held rows found opened =
    writes_changes held (relabels rows) found opened (flags_follow held.content rows) (flags_below held.content rows)
    (flagged_home home name held rows found opened)

flags_by : (home : Backend) (name : List ℕ) (held : Held) (uids : List ℕ) (mode : Mode) (flags : Flags) (many : Bool)
    → held_at home name ≡ Some held → is_open held.phase ≡ true → Left home name (relabels_unless name held.content uids mode flags many)
unfolding relabels_unless
flags_by home name held uids mode flags true found opened = writes_nothing refl
flags_by home name held uids mode flags false found opened =
    relabels_left home name held (differing held.content (rows_stored held.content uids mode flags)) found opened

seen_by : (home : Backend) (name : List ℕ) (held : Held) (uids : List ℕ) (sees : Bool) → held_at home name ≡ Some held → is_open held.phase ≡ true
    → Writes home name (home_after home (seen_entries name held.content uids sees))
unfolding seen_entries
seen_by home name held uids true found opened =
    relabels_left home name held (differing held.content (rows_stored held.content uids Add seen_flag)) found opened
seen_by home name held uids false found opened = writes_nothing refl

gone_by : (home : Backend) (name : List ℕ) (held : Held) (only : Option (List ℕ)) → held_at home name ≡ Some held → is_open held.phase ≡ true
    → Writes home name (home_after home (entry_of (Gone name) (expunged_uids held.content only)))
gone_by home name held only found opened =
    writes_changes held (removals (expunged_uids held.content only)) found opened (expunged_follows held.content only) (expunged_below held.content only)
    (gone_home home name held only found opened)

-- ---- each ask

abbrev pub WritesIf : Backend → List ℕ → Option OpPlan → Type 0
WritesIf home name None = Unit {0}
WritesIf home name (Some plan) = Left home name plan

op_left : (home : Backend) (ask : FrontAsk) (op : Op) → WritesIf home ask.name (op_plan home ask op)
unfolding op_plan append_plan look_plan read_plan summaries_plan flags_plan expunge_plan
op_left home ask (Append messages) =
    plans_left home ask.name ask.selected (λ content. adds_within_limits ask.name content messages (append_fault content messages))
    (held_at home ask.name) refl (λ held found opened. append_by home ask.name held messages (append_fault held.content messages) refl found opened)
op_left home ask (Read uids sees) =
    plans_left home ask.name ask.selected _ (held_at home ask.name) refl (λ held found opened. seen_by home ask.name held uids sees found opened)
op_left home ask (flags_op uids mode flags) =
    plans_left home ask.name ask.selected _ (held_at home ask.name) refl
    (λ held found opened. flags_by home ask.name held uids mode flags (has_too_many_flags (rows_stored held.content uids mode flags)) found opened)
op_left home ask (Expunge only) =
    plans_left home ask.name ask.selected _ (held_at home ask.name) refl (λ held found opened. gone_by home ask.name held only found opened)
op_left home ask Look = plans_left home ask.name ask.selected _ (held_at home ask.name) refl (λ held found opened. writes_nothing refl)
op_left home ask (Summaries uids) = plans_left home ask.name ask.selected _ (held_at home ask.name) refl (λ held found opened. writes_nothing refl)
op_left home ask op = tt

pub plan_writes : (home : Backend) (ask : FrontAsk) → WritesIf home ask.name (ask_plan home ask)
unfolding ask_plan
plan_writes home ask = op_left home ask ask.op

pub left_by : (home : Backend) (name : List ℕ) (after : Backend) → Writes home name after → Leaves home name after
left_by home name after (writes_nothing is) = stays is
left_by home name after (writes_changes held changes found opened follows below is) =
    turns held (content_after_all held.content changes) found opened follows below is
