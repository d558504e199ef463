-- The reply to a command, by the table and by who sends it: the change of the table, the answers in their order (RFC 3656, 4), and whether
-- the step counts as that of a client's command.
use Rattle.std.specs.Prelude.{ℕ, ◌+◌, List, [], ◌∷◌, ◌++◌, codes, filter, map, Option, None, Some, if◌then◌else◌}
use Rattle.std.specs.List.{flat_map}
use Rattle.grammar.specs.Numbers.{decimal_text}
use Rattle.link_msg.specs.declared.counts.Counts.{Counts}
use Rattle.link_msg.specs.declared.counts.Counts.TheVariants.{Always, IfAnswered}
use Rattle.mur_base.specs.declared.home.Location.{Location}
use Rattle.mupdate_codec.specs.declared.command.MCommand.{MCommand}
use Rattle.mupdate_codec.specs.declared.command.MCommand.TheVariants as command
use Rattle.mupdate_codec.specs.declared.command.MResponse.{MResponse}
use Rattle.mupdate_codec.specs.declared.command.MResponse.TheVariants as response
use Rattle.node_record.specs.declared.master.MasterRecord.{MasterRecord}
use Rattle.node_record.specs.declared.master.MasterRecord.TheVariants as entry
use Rattle.node_record.specs.Table.{MailboxTable, record_at}
use Rattle.master_core.specs.declared.refusal.Refusal.{Refusal}
use Rattle.master_core.specs.declared.refusal.Refusal.TheVariants as refusal
use Rattle.master_core.specs.declared.reply.Reply.{Reply}
use Rattle.master_core.specs.declared.sender.Sender.{Sender}
use Rattle.master_core.specs.Senders.{is_server}
use Rattle.master_core.specs.Records.{record_lines, listed_line, is_listed, found_line}
use Rattle.master_core.specs.Refusals.{refusal_text, reserve_refusal, activate_refusal, deactivate_refusal, delete_refusal}

abbrev pub done : List ℕ
done = codes "done"

-- the table stays, and these lines come before the OK
abbrev pub told : List MResponse → Reply
told lines = record { entry = None; counts = None; answers = lines ++ response.Ok done ∷ [] }

abbrev pub refused : Option Counts → Refusal → Reply
refused counts why = record { entry = None; counts = counts; answers = response.No (refusal_text why) ∷ [] }

abbrev pub changed : MasterRecord → Option Counts → List ℕ → Reply
changed change counts text = record { entry = Some change; counts = counts; answers = response.Ok text ∷ [] }

-- RESERVE (RFC 3656, 4.9): the name is reserved without an access list, and the OK tells the serial. A CREATE is refused in this step if the
-- name is active or the serials are spent
abbrev pub reserve_counts : Refusal → Option Counts
reserve_counts refusal.Exists = Some IfAnswered
reserve_counts refusal.SerialsSpent = Some IfAnswered
reserve_counts why = None

abbrev pub reserve_by : MailboxTable → List ℕ → Location → Option Refusal → Reply
reserve_by table name place (Some why) = refused (reserve_counts why) why
reserve_by table name place None = changed (entry.Reserved name place (table.serial + 1)) None (decimal_text (table.serial + 1))

unfoldable pub reserve_reply : MailboxTable → Sender → List ℕ → Location → Reply
reserve_reply table sender name place = reserve_by table name place (reserve_refusal table sender (record_at table name) place)

-- ACTIVATE (RFC 3656, 4.1): the name is active at the location with the access list. A CREATE is done or refused in this step; a
-- transfer isn't, which activates at another server
abbrev pub activate_by : Sender → List ℕ → Location → List ℕ → Option Refusal → Reply
activate_by sender name place acl (Some why) = refused (Some IfAnswered) why
activate_by sender name place acl None = changed (entry.Active name place acl) (if is_server sender place then Some Always else None) done

unfoldable pub activate_reply : MailboxTable → Sender → List ℕ → Location → List ℕ → Reply
activate_reply table sender name place acl = activate_by sender name place acl (activate_refusal table sender (record_at table name) place)

-- DEACTIVATE (RFC 3656, 4.3): the name is reserved at the location, and keeps its access list
abbrev pub deactivate_by : List ℕ → Location → Option Refusal → Reply
deactivate_by name place (Some why) = refused None why
deactivate_by name place None = changed (entry.Inactive name place) None done

unfoldable pub deactivate_reply : MailboxTable → Sender → List ℕ → Location → Reply
deactivate_reply table sender name place = deactivate_by name place (deactivate_refusal sender (record_at table name) place)

-- DELETE (RFC 3656, 4.4): the name has no record any more. A client's DELETE is done in this step
abbrev pub delete_by : List ℕ → Option Refusal → Reply
delete_by name (Some why) = refused None why
delete_by name None = changed (entry.Deleted name) (Some Always) done

unfoldable pub delete_reply : MailboxTable → Sender → List ℕ → Reply
delete_reply table sender name = delete_by name (delete_refusal sender (record_at table name))

-- FIND (RFC 3656, 4.5): the line of the record, if there is one
unfoldable pub find_reply : MailboxTable → List ℕ → Reply
find_reply table name = told (found_line name (record_at table name))

-- LIST (RFC 3656, 4.6): the line of each record whose location begins so, in byte order of names
unfoldable pub list_reply : MailboxTable → Option (List ℕ) → Reply
list_reply table prefix = told (map listed_line (filter (is_listed prefix) table.records))

-- UPDATE (RFC 3656, 4.11): all lines of all records, in byte order of names
unfoldable pub update_reply : MailboxTable → Reply
update_reply table = told (flat_map record_lines table.records)

-- NOOP (RFC 3656, 4.8): a command that waits for its OK has seen all earlier changes
unfoldable pub noop_reply : Reply
noop_reply = record { entry = None; counts = Some IfAnswered; answers = response.Ok done ∷ [] }

-- LOGOUT (RFC 3656, 4.7)
unfoldable pub logout_reply : Reply
logout_reply = record { entry = None; counts = None; answers = response.Ok (codes "bye") ∷ [] }

unfoldable pub reply_to : MailboxTable → Sender → MCommand → Reply
reply_to table sender (command.Reserve name place) = reserve_reply table sender name place
reply_to table sender (command.Activate name place acl) = activate_reply table sender name place acl
reply_to table sender (command.Deactivate name place) = deactivate_reply table sender name place
reply_to table sender (command.Delete name) = delete_reply table sender name
reply_to table sender (command.Find name) = find_reply table name
reply_to table sender (command.List prefix) = list_reply table prefix
reply_to table sender command.Update = update_reply table
reply_to table sender command.Noop = noop_reply
reply_to table sender command.Logout = logout_reply

-- bytes are no command, or one that may not come after UPDATE (RFC 3656, 3.3)
abbrev pub bad : MResponse
bad = response.Bad (codes "syntax")

unfoldable pub bad_reply : Reply
bad_reply = record { entry = None; counts = None; answers = bad ∷ [] }
