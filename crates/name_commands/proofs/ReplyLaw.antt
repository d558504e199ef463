-- The reply to the line of each stage, by cases.
use Rattle.std.proofs.Common.{◌≡◌, ℕ, ◌+◌, ◌<◌, ◌^◌, Bool, true, false, not, cond, codes, List, [], ◌∷◌, Option, None, Some, refl, sym, ap, subst, ◌∙◌, eqb-true}
use Rattle.std.specs.Prelude.{◌==◌}
use Rattle.grammar.specs.Numbers.{decimal_text}
use Rattle.link_msg.specs.declared.answer.AnswerBody.TheVariants.{NotNow}
use Rattle.link_msg.specs.declared.counts.Counts.TheVariants.{Always}
use Rattle.link_msg.specs.declared.outcome.Outcome.TheVariants.{None as nothing, Exists, Limit}
use Rattle.mail_message.specs.FirstAcl.{first_acl}
use Rattle.master_core.specs.declared.refusal.Refusal.{Refusal}
use Rattle.master_core.specs.declared.refusal.Refusal.TheVariants as refusal
use Rattle.master_core.specs.declared.reply.Reply.{Reply}
use Rattle.master_core.specs.declared.sender.Sender.TheVariants.{Backend}
use Rattle.master_core.specs.Refusals.{activate_refusal, first_of, is_active, is_full, is_reserved, place_in, reserve_refusal}
use Rattle.master_core.specs.Replies.{activate_by, changed, deactivate_by, delete_by, done as done_text, reserve_by}
use Rattle.master_core.specs.Senders.{is_server}
use Rattle.mupdate_codec.specs.declared.command.MResponse.{MResponse}
use Rattle.mupdate_codec.specs.declared.command.MResponse.TheVariants as response
use Rattle.mur_base.specs.declared.home.Location.{Location}
use Rattle.name_flows.specs.declared.flow.Flow.{Flow}
use Rattle.name_flows.specs.declared.flow.Stage.{Stage}
use Rattle.name_flows.specs.declared.flow.Stage.TheVariants.{Reserving, Making, Deactivating, Deleting}
use Rattle.name_flows.specs.Creates.{reserve_refused}
use Rattle.name_flows.specs.Running.{done}
use Rattle.node_record.specs.declared.master.MasterRecord.TheVariants as entry
use Rattle.node_record.specs.declared.table.Record.{Record}
use Rattle.node_record.specs.Table.{MailboxTable, record_at}
use Rattle.name_links.proofs.LineAnswers.{next_serial, serial_again}
use Rattle.name_commands.specs.Moves.{Move, ends, heard_move, heard_move_by, is_sent, reserved_move}
use Rattle.name_commands.specs.Replied.{IsReplied, name_activated, name_closed, name_deleted, name_reserved, serials_spent, table_full, was_active, was_reserved}
use Rattle.name_commands.proofs.GrantedLaw.{at_server, IsHere}

only_one : (one other : MResponse) → one ∷ [] ≡ other ∷ [] → other ≡ one
only_one one other e = cc

-- what each refusal tells
exists_told : reserve_refused (codes "1 exists") ≡ done Exists
unfolding reserve_refused
exists_told = refl

reserved_told : reserve_refused (codes "2 reserved") ≡ NotNow
unfolding reserve_refused
reserved_told = refl

spent_told : reserve_refused (codes "7 serials spent") ≡ NotNow
unfolding reserve_refused
spent_told = refl

module _ (table : MailboxTable) (b : List ℕ) (me : Location) (mailbox : List ℕ) (flow : Flow) (it : MResponse) (here : me.server ≡ b) where
  -- the response to a line of the stage does this
  does : (stage : Stage) (told : MResponse) (move : Move) → flow.stage ≡ stage → it ≡ told → heard_move_by mailbox flow stage told ≡ Some move
      → heard_move mailbox flow it ≡ Some move
  does stage told move at is by = ap (λ (r : MResponse). heard_move mailbox flow r) is ∙ ap (λ (s : Stage). heard_move_by mailbox flow s told) at ∙ by

  abbrev Replied : Reply → Type 0
  Replied reply = reply.answers ≡ it ∷ [] → IsReplied table me mailbox flow it reply

  -- ---- RESERVE

  reserve_tests : Bool → Bool → Bool → Bool → Option Refusal
  reserve_tests at active reserved spent =
      first_of
      ((false, refusal.NotYours) ∷ (not at, refusal.NotYours) ∷ (active, refusal.Exists) ∷ (reserved, refusal.Reserved) ∷ (spent, refusal.SerialsSpent) ∷ [])

  tests_are : reserve_refusal table (Backend b) (record_at table mailbox) me
      ≡ reserve_tests true (is_active (record_at table mailbox)) (is_reserved (record_at table mailbox)) (table.serial == 4294967295)
  unfolding reserve_refusal reserve_tests
  tests_are =
      ap (λ (at : Bool). reserve_tests at (is_active (record_at table mailbox)) (is_reserved (record_at table mailbox)) (table.serial == 4294967295))
      (at_server b me.server here)

  no_record : (found : Option Record) → is_active found ≡ false → is_reserved found ≡ false → found ≡ None
  no_record None a r = refl
  no_record (Some x) a r = (let flips : not (is_active (Some x)) ≡ true = ap not a in let both : true ≡ false = sym flips ∙ r in cc)

  reserved_by : flow.stage ≡ Reserving → table.serial < 2 ^ 32 → (active reserved spent : Bool) → is_active (record_at table mailbox) ≡ active
      → is_reserved (record_at table mailbox) ≡ reserved → (table.serial == 4294967295) ≡ spent
      → Replied (reserve_by table mailbox me (reserve_tests true active reserved spent))
  unfolding reserve_tests
  reserved_by at low true reserved spent a r s answers =
      was_active at a refl
      (does Reserving (response.No (codes "1 exists")) (ends flow (done Exists)) at (only_one _ it answers) (ap (λ body. Some (ends flow body)) exists_told))
  reserved_by at low false true spent a r s answers =
      was_reserved at r refl
      (does Reserving (response.No (codes "2 reserved")) (ends flow NotNow) at (only_one _ it answers) (ap (λ body. Some (ends flow body)) reserved_told))
  reserved_by at low false false true a r s answers =
      serials_spent at (no_record (record_at table mailbox) a r) (eqb-true table.serial 4294967295 s) refl
      (does Reserving (response.No (codes "7 serials spent")) (ends flow NotNow) at (only_one _ it answers)
      (ap (λ body. Some (ends flow body)) spent_told))
  reserved_by at low false false false a r s answers =
      name_reserved at (no_record (record_at table mailbox) a r) refl
      (does Reserving (response.Ok (decimal_text (table.serial + 1))) (is_sent mailbox (record flow { stage = Making })) at (only_one _ it answers)
      (ap (λ (serial : Option ℕ). Some (reserved_move mailbox flow serial)) (serial_again (table.serial + 1) (next_serial table.serial low s))))

  pub reserve_replied : flow.stage ≡ Reserving → table.serial < 2 ^ 32
      → Replied (reserve_by table mailbox me (reserve_refusal table (Backend b) (record_at table mailbox) me))
  reserve_replied at low =
      subst (λ (why : Option Refusal). Replied (reserve_by table mailbox me why)) (sym tests_are)
      (reserved_by at low (is_active (record_at table mailbox)) (is_reserved (record_at table mailbox)) (table.serial == 4294967295) refl refl refl)

  -- ---- ACTIVATE

  activate_tests : Bool → Bool → Option Refusal
  activate_tests at full = first_of ((false, refusal.NotYours) ∷ (not at, refusal.NotYours) ∷ (full, refusal.Full) ∷ [])

  activate_are : IsHere b (record_at table mailbox)
      → activate_refusal table (Backend b) (record_at table mailbox) me ≡ activate_tests true (is_full table (record_at table mailbox))
  unfolding activate_refusal activate_tests
  activate_are found =
      ap (λ (r : Option Record). activate_tests (is_server (Backend b) (place_in r me)) (is_full table (record_at table mailbox))) found.there
      ∙ ap (λ (at : Bool). activate_tests at (is_full table (record_at table mailbox))) (at_server b (found.it.place).server found.at)

  activated_by : flow.stage ≡ Making → (full : Bool) → is_full table (record_at table mailbox) ≡ full
      → Replied (activate_by (Backend b) mailbox me (first_acl mailbox) (activate_tests true full))
  unfolding activate_tests
  activated_by at true f answers =
      table_full at f refl (does Making (response.No (codes "6 full")) (ends flow (done Limit)) at (only_one _ it answers) refl)
  activated_by at false f answers =
      name_activated at f
      (ap (λ (mine : Bool). changed (entry.Active mailbox me (first_acl mailbox)) (cond mine (Some Always) None) done_text) (at_server b me.server here))
      (does Making (response.Ok done_text) (ends flow (done nothing)) at (only_one _ it answers) refl)

  pub activate_replied : flow.stage ≡ Making → IsHere b (record_at table mailbox)
      → Replied (activate_by (Backend b) mailbox me (first_acl mailbox) (activate_refusal table (Backend b) (record_at table mailbox) me))
  activate_replied at found =
      subst (λ (why : Option Refusal). Replied (activate_by (Backend b) mailbox me (first_acl mailbox) why)) (sym (activate_are found))
      (activated_by at (is_full table (record_at table mailbox)) refl)

  -- ---- DEACTIVATE and DELETE

  pub deactivate_replied : flow.stage ≡ Deactivating → (why : Option Refusal) → why ≡ None → Replied (deactivate_by mailbox me why)
  deactivate_replied at (Some why) e = cc
  deactivate_replied at None e = λ answers.
      name_closed at refl (does Deactivating (response.Ok done_text) (is_sent mailbox (record flow { stage = Deleting })) at (only_one _ it answers) refl)

  pub delete_replied : flow.stage ≡ Deleting → (why : Option Refusal) → why ≡ None → Replied (delete_by mailbox why)
  delete_replied at (Some why) e = cc
  delete_replied at None e = λ answers. name_deleted at refl (does Deleting (response.Ok done_text) (ends flow (done nothing)) at (only_one _ it answers) refl)
