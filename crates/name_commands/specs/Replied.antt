-- What the master makes of the line of each stage (RFC 3656, 4.1, 4.3, 4.4 and 4.9): how that changes its table, whether the step counts as the command's,
-- and what its response does at the backend then.
use Rattle.std.specs.Prelude.{◌≡◌, ℕ, ◌+◌, true, false, List, None, Some}
use Rattle.grammar.specs.Numbers.{decimal_text}
use Rattle.link_msg.specs.declared.answer.AnswerBody.TheVariants.{NotNow}
use Rattle.link_msg.specs.declared.counts.Counts.TheVariants.{Always, IfAnswered}
use Rattle.link_msg.specs.declared.outcome.Outcome.TheVariants.{None as nothing, Exists, Limit}
use Rattle.mail_message.specs.FirstAcl.{first_acl}
use Rattle.master_core.specs.declared.refusal.Refusal.TheVariants as refusal
use Rattle.master_core.specs.declared.reply.Reply.{Reply}
use Rattle.master_core.specs.Refusals.{is_active, is_full, is_reserved}
use Rattle.master_core.specs.Replies.{changed, done as done_text, refused}
use Rattle.mupdate_codec.specs.declared.command.MResponse.{MResponse}
use Rattle.mur_base.specs.declared.home.Location.{Location}
use Rattle.name_flows.specs.declared.flow.Flow.{Flow}
use Rattle.name_flows.specs.declared.flow.Stage.TheVariants.{Reserving, Making, Deactivating, Deleting}
use Rattle.name_flows.specs.Running.{done}
use Rattle.node_record.specs.declared.master.MasterRecord.TheVariants as entry
use Rattle.node_record.specs.Table.{MailboxTable, record_at}
use Rattle.name_commands.specs.Moves.{ends, heard_move, is_sent}

pub data IsReplied (table : MailboxTable) (me : Location) (mailbox : List ℕ) (flow : Flow) (it : MResponse) (reply : Reply) : Type 0 where
  -- RESERVE
  name_reserved : flow.stage ≡ Reserving → record_at table mailbox ≡ None
      → reply ≡ changed (entry.Reserved mailbox me (table.serial + 1)) None (decimal_text (table.serial + 1))
      → heard_move mailbox flow it ≡ Some (is_sent mailbox (record flow { stage = Making })) → IsReplied table me mailbox flow it reply
  was_active : flow.stage ≡ Reserving → is_active (record_at table mailbox) ≡ true → reply ≡ refused (Some IfAnswered) refusal.Exists
      → heard_move mailbox flow it ≡ Some (ends flow (done Exists)) → IsReplied table me mailbox flow it reply
  was_reserved : flow.stage ≡ Reserving → is_reserved (record_at table mailbox) ≡ true → reply ≡ refused None refusal.Reserved
      → heard_move mailbox flow it ≡ Some (ends flow NotNow) → IsReplied table me mailbox flow it reply
  serials_spent : flow.stage ≡ Reserving → record_at table mailbox ≡ None → table.serial ≡ 4294967295 → reply ≡ refused (Some IfAnswered) refusal.SerialsSpent
      → heard_move mailbox flow it ≡ Some (ends flow NotNow) → IsReplied table me mailbox flow it reply
  -- ACTIVATE
  name_activated : flow.stage ≡ Making → is_full table (record_at table mailbox) ≡ false
      → reply ≡ changed (entry.Active mailbox me (first_acl mailbox)) (Some Always) done_text
      → heard_move mailbox flow it ≡ Some (ends flow (done nothing)) → IsReplied table me mailbox flow it reply
  table_full : flow.stage ≡ Making → is_full table (record_at table mailbox) ≡ true → reply ≡ refused (Some IfAnswered) refusal.Full
      → heard_move mailbox flow it ≡ Some (ends flow (done Limit)) → IsReplied table me mailbox flow it reply
  -- DEACTIVATE
  name_closed : flow.stage ≡ Deactivating → reply ≡ changed (entry.Inactive mailbox me) None done_text
      → heard_move mailbox flow it ≡ Some (is_sent mailbox (record flow { stage = Deleting })) → IsReplied table me mailbox flow it reply
  -- DELETE
  name_deleted : flow.stage ≡ Deleting → reply ≡ changed (entry.Deleted mailbox) (Some Always) done_text
      → heard_move mailbox flow it ≡ Some (ends flow (done nothing)) → IsReplied table me mailbox flow it reply
