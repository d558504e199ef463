-- A step as its entries make it is the operation that was asked for.
use Rattle.std.proofs.Common.{◌≡◌, ℕ, ◌+◌, Bool, true, false, List, [], length, Option, None, Some, refl, sym, ◌∙◌, ap}
use Rattle.std.specs.Ordering.{nat_cmp}
use Rattle.std.specs.Cmp.Lexicographic.{slice_cmp}
use Rattle.mur_base.proofs.MapLaws.{names_apart, value_at-with_value}
use Rattle.mail_message.specs.declared.message.Message.{Message}
use Rattle.mail_message.specs.declared.mode.Mode.{Mode}
use Rattle.mail_message.specs.declared.mode.Mode.TheVariants.{Add}
use Rattle.mail_message.specs.Boxes.{Content, messages_at, snapshot_of, IsRising}
use Rattle.mail_message.specs.FlagSets.{Flags}
use Rattle.mail_store.specs.Append.{append_fault, appended, uids_from}
use Rattle.mail_store.specs.Expunge.{expunged, expunged_uids}
use Rattle.mail_store.specs.Store.{has_too_many_flags, rows_stored, stored}
use Rattle.mail_store.specs.declared.fault.StoreFault.{StoreFault}
use Rattle.mail_store.proofs.AppendLaws.{next-appended, serial-appended}
use Rattle.link_msg.specs.declared.ask.FrontAsk.{FrontAsk}
use Rattle.link_msg.specs.declared.outcome.Outcome.{Outcome}
use Rattle.link_msg.specs.declared.outcome.Outcome.TheVariants.{None as nothing, Uids, Rows, Limit, Messages}
use Rattle.imap_types.specs.declared.op.Op.{Op}
use Rattle.imap_types.specs.declared.op.Op.TheVariants.{Look, Read, Summaries, Flags as flags_op, Expunge, Append}
use Rattle.node_record.specs.declared.backend.BackendRecord.TheVariants.{Flagged}
use Rattle.node_record.specs.declared.held.Held.{Held}
use Rattle.backend_core.specs.declared.backend.Backend.{Backend}
use Rattle.backend_core.specs.declared.op_plan.OpPlan.{OpPlan}
use Rattle.backend_core.specs.declared.op_plan.Telling.TheVariants.{Look as look_then}
use Rattle.backend_core.specs.declared.response.Response.{Response}
use Rattle.backend_core.specs.Append.{adds_within_limits, append_plan, append_step, append_within_limits}
use Rattle.backend_core.specs.AskPlan.{ask_plan, op_plan}
use Rattle.backend_core.specs.Expunge.{expunge_plan, expunge_step, expunge_to, removes}
use Rattle.backend_core.specs.Flags.{differing, flags_plan, flags_step, flags_to, flags_unless, relabels_to, relabels_unless}
use Rattle.backend_core.specs.HomeLaws.{is_open, RisesAt}
use Rattle.backend_core.specs.HomeStep.{HomeStep, BoxStep, answers, changes, dropped, held_at, with_content}
use Rattle.backend_core.specs.Look.{look_at, look_plan, look_step, look_unless}
use Rattle.backend_core.specs.OpPlan.{entry_of, home_after, looked, looks, plans, plans_unless, told_after}
use Rattle.backend_core.specs.Read.{read_in, read_plan, read_step, read_to, read_from, seen_entries, seen_flag}
use Rattle.backend_core.specs.Refusal.{refusal, is_other}
use Rattle.backend_core.specs.Response.{done}
use Rattle.backend_core.specs.Served.{served, served_unless}
use Rattle.backend_core.specs.Step.{home_step, op_step}
use Rattle.backend_core.specs.Summaries.{summaries_at, summaries_in, summaries_plan, summaries_step, summaries_unless}
use Rattle.backend_core.proofs.Entries.{same_content}
use Rattle.backend_core.proofs.FlaggedLaw.{flagged_makes}
use Rattle.backend_core.proofs.Leaves.{served_open}
use Rattle.backend_core.proofs.PlanLeaves.{added_home, flagged_home, gone_home}

-- what a plan leaves, and what is told of it
abbrev pub carried : Backend → OpPlan → HomeStep
carried home plan = answers (home_after home plan.entries) (told_after (home_after home plan.entries) plan.telling)

abbrev pub carried_if : Backend → Option OpPlan → HomeStep
carried_if home None = dropped home
carried_if home (Some plan) = carried home plan

-- ---- an operation on messages

-- a look at the mailbox when it has its new content
looks_back : (home after : Backend) (name : List ℕ) (held : Held) (content : Content) (outcome : Outcome) → held_at home name ≡ Some held
    → after ≡ with_content home name held content
    → answers after (told_after after (look_then name outcome))
    ≡ changes home name held (record { content = content; response = done outcome (snapshot_of content) })
unfolding told_after looked
looks_back home after name held content outcome found is =
    let later : Held = record held { content = content } in
    let there = value_at-with_value (slice_cmp nat_cmp) names_apart home.held name later held found in
    ap (λ (h : Backend). answers h (looked outcome (held_at h name))) is
    ∙ ap (λ f. answers (with_content home name held content) (looked outcome f)) there

abbrev Does : Backend → List ℕ → Held → OpPlan → BoxStep → Type 0
Does home name held plan step = carried home plan ≡ changes home name held step

unless_does : (home : Backend) (name : List ℕ) (held : Held) (plan : OpPlan) (step : BoxStep) (response : Option Response)
    → (response ≡ None → Does home name held plan step)
    → carried home (plans_unless plan response) ≡ served_unless home name held step response
unfolding plans_unless served_unless told_after
unless_does home name held plan step (Some response) works = refl
unless_does home name held plan step None works = works refl

plans_do : (home : Backend) (name : List ℕ) (selected : Option ℕ) (plan : Content → OpPlan) (operation : Content → BoxStep) (found : Option Held)
    → held_at home name ≡ found
    → ((held : Held) → held_at home name ≡ Some held → is_open held.phase ≡ true → Does home name held (plan held.content) (operation held.content))
    → carried home (plans selected plan found) ≡ served home name selected operation found
unfolding plans served refusal told_after
plans_do home name selected plan operation None found works = refl
plans_do home name selected plan operation (Some held) found works =
    unless_does home name held (plan held.content) (operation held.content) (refusal selected held)
    (λ none. works held found (served_open held.phase (is_other selected held.content) none))

-- ---- each of them

append_does : (home : Backend) (name : List ℕ) (held : Held) (messages : List Message) (fault : Option StoreFault)
    → append_fault held.content messages ≡ fault → held_at home name ≡ Some held → is_open held.phase ≡ true
    → Does home name held (adds_within_limits name held.content messages fault) (append_within_limits held.content messages fault)
unfolding adds_within_limits append_within_limits told_after
append_does home name held messages (Some fault) is found opened =
    ap (λ (h : Backend). answers h (append_within_limits held.content messages (Some fault)).response) (sym (same_content home name held found))
append_does home name held messages None is found opened =
    let box = held.content in
    ap (λ (h : Backend). answers h (done (Uids (uids_from box.next messages)) (record { serial = box.serial; next = box.next + length messages; size = 0; rows = [] })))
    (added_home home name held messages found opened is)
    ∙ ap (λ (serial : ℕ). answers (with_content home name held (appended box messages))
    (done (Uids (uids_from box.next messages)) (record { serial = serial; next = box.next + length messages; size = 0; rows = [] })))
    (sym (serial-appended box box.next messages))
    ∙ ap (λ (next : ℕ). answers (with_content home name held (appended box messages))
    (done (Uids (uids_from box.next messages)) (record { serial = (appended box messages).serial; next = next; size = 0; rows = [] })))
    (sym (next-appended box box.next messages))

relabelled_home : (home : Backend) (name : List ℕ) (held : Held) (uids : List ℕ) (mode : Mode) (flags : Flags)
    → IsRising held.content.messages → held_at home name ≡ Some held → is_open held.phase ≡ true
    → home_after home (entry_of (Flagged name) (differing held.content (rows_stored held.content uids mode flags)))
    ≡ with_content home name held (stored held.content uids mode flags)
relabelled_home home name held uids mode flags rising found opened =
    flagged_home home name held (differing held.content (rows_stored held.content uids mode flags)) found opened
    ∙ ap (with_content home name held) (flagged_makes held.content uids mode flags rising)

flags_do : (home : Backend) (name : List ℕ) (held : Held) (uids : List ℕ) (mode : Mode) (flags : Flags) (many : Bool)
    → IsRising held.content.messages → held_at home name ≡ Some held → is_open held.phase ≡ true
    → Does home name held (relabels_unless name held.content uids mode flags many) (flags_unless held.content uids mode flags many)
unfolding relabels_unless flags_unless
flags_do home name held uids mode flags true rising found opened =
    looks_back home home name held held.content Limit found (sym (same_content home name held found))
flags_do home name held uids mode flags false rising found opened =
    looks_back home _ name held (stored held.content uids mode flags) (Rows (rows_stored held.content uids mode flags)) found
    (relabelled_home home name held uids mode flags rising found opened)

read_does : (home : Backend) (name : List ℕ) (held : Held) (uids : List ℕ) (sees : Bool)
    → IsRising held.content.messages → held_at home name ≡ Some held → is_open held.phase ≡ true
    → Does home name held (read_from name held.content uids sees) (read_to held.content uids sees)
unfolding seen_entries read_in
read_does home name held uids true rising found opened =
    looks_back home _ name held (stored held.content uids Add seen_flag) (Messages (messages_at held.content.messages uids)) found
    (relabelled_home home name held uids Add seen_flag rising found opened)
read_does home name held uids false rising found opened =
    looks_back home home name held held.content (Messages (messages_at held.content.messages uids)) found (sym (same_content home name held found))

expunge_does : (home : Backend) (name : List ℕ) (held : Held) (only : Option (List ℕ)) → held_at home name ≡ Some held → is_open held.phase ≡ true
    → Does home name held (removes name held.content only) (expunge_to held.content only)
expunge_does home name held only found opened =
    looks_back home _ name held (expunged held.content only) (Uids (expunged_uids held.content only)) found (gone_home home name held only found opened)

-- ---- those that change nothing

told_back : (home : Backend) (name : List ℕ) (outcome : Outcome) (found : Option Held) → held_at home name ≡ found
    → carried home (looks name outcome) ≡ answers home (looked outcome found)
unfolding told_after
told_back home name outcome found is = ap (λ f. answers home (looked outcome f)) is

look_unless_does : (home : Backend) (name : List ℕ) (held : Held) (response : Option Response) → held_at home name ≡ Some held
    → carried home (plans_unless (looks name nothing) response) ≡ answers home (look_unless held.content response)
unfolding plans_unless look_unless told_after looked
look_unless_does home name held (Some response) found = refl
look_unless_does home name held None found = told_back home name nothing (Some held) found

look_does : (home : Backend) (name : List ℕ) (selected : Option ℕ) (found : Option Held) → held_at home name ≡ found
    → carried home (look_plan name selected found) ≡ look_step home selected found
unfolding look_plan look_step look_at plans told_after
look_does home name selected None found = refl
look_does home name selected (Some held) found = look_unless_does home name held (refusal selected held) found

summaries_unless_do : (home : Backend) (name : List ℕ) (uids : List ℕ) (held : Held) (response : Option Response) → held_at home name ≡ Some held
    → carried home (plans_unless (looks name (summaries_in held.content uids)) response) ≡ answers home (summaries_unless held.content uids response)
unfolding plans_unless summaries_unless told_after looked
summaries_unless_do home name uids held (Some response) found = refl
summaries_unless_do home name uids held None found = told_back home name (summaries_in held.content uids) (Some held) found

summaries_do : (home : Backend) (name : List ℕ) (selected : Option ℕ) (uids : List ℕ) (found : Option Held) → held_at home name ≡ found
    → carried home (summaries_plan name selected uids found) ≡ summaries_step home selected uids found
unfolding summaries_plan summaries_step summaries_at plans told_after
summaries_do home name selected uids None found = refl
summaries_do home name selected uids (Some held) found = summaries_unless_do home name uids held (refusal selected held) found

-- ---- each ask

op_does : (home : Backend) (ask : FrontAsk) (op : Op) → RisesAt home ask.name → carried_if home (op_plan home ask op) ≡ op_step home ask op
unfolding op_plan op_step append_plan append_step read_plan read_step flags_plan flags_step expunge_plan expunge_step
op_does home ask (Append messages) rising =
    plans_do home ask.name ask.selected (λ content. adds_within_limits ask.name content messages (append_fault content messages))
    (λ content. append_within_limits content messages (append_fault content messages)) (held_at home ask.name) refl
    (λ held found opened. append_does home ask.name held messages (append_fault held.content messages) refl found opened)
op_does home ask (Read uids sees) rising =
    plans_do home ask.name ask.selected (λ content. read_from ask.name content uids sees) (λ content. read_to content uids sees) (held_at home ask.name) refl
    (λ held found opened. read_does home ask.name held uids sees (rising held found) found opened)
op_does home ask (flags_op uids mode flags) rising =
    plans_do home ask.name ask.selected (λ content. relabels_to ask.name content uids mode flags) (λ content. flags_to content uids mode flags)
    (held_at home ask.name) refl
    (λ held found opened. flags_do home ask.name held uids mode flags (has_too_many_flags (rows_stored held.content uids mode flags)) (rising held found) found opened)
op_does home ask (Expunge only) rising =
    plans_do home ask.name ask.selected (λ content. removes ask.name content only) (λ content. expunge_to content only) (held_at home ask.name) refl
    (λ held found opened. expunge_does home ask.name held only found opened)
op_does home ask Look rising = look_does home ask.name ask.selected (held_at home ask.name) refl
op_does home ask (Summaries uids) rising = summaries_do home ask.name ask.selected uids (held_at home ask.name) refl
op_does home ask op rising = refl

pub plan_does : (home : Backend) (ask : FrontAsk) → RisesAt home ask.name → carried_if home (ask_plan home ask) ≡ home_step home ask
unfolding ask_plan home_step
plan_does home ask rising = op_does home ask ask.op rising
