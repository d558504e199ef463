-- What the master answers a backend can be read again, where its table can be told.
use Rattle.std.proofs.Common.{◌≡◌, ℕ, ◌+◌, ◌<◌, ◌^◌, Bool, true, false, cond, List, [], ◌∷◌, ◌++◌, map, filter, Option, None, Some, refl, arith}
use Rattle.std.specs.List.{AllByRecursion}
use Rattle.grammar.specs.Numbers.{decimal_text}
use Rattle.home_law.specs.Items.{Server}
use Rattle.home_law.specs.ManyNames.{SentLine as OpenLine}
use Rattle.master_core.specs.declared.refusal.Refusal.{Refusal}
use Rattle.master_core.specs.declared.refusal.Refusal.TheVariants as refusal
use Rattle.master_core.specs.declared.sender.Sender.TheVariants.{Backend}
use Rattle.master_core.specs.Records.{listed_line, is_listed, found_line, line_in}
use Rattle.master_core.specs.Refusals.{refusal_text, reserve_refusal, activate_refusal, deactivate_refusal, delete_refusal}
use Rattle.master_core.specs.Replies.{done, reserve_by, activate_by, deactivate_by, delete_by, reserve_reply, activate_reply, deactivate_reply, delete_reply, find_reply, list_reply, reply_to}
use Rattle.mupdate_codec.specs.declared.command.MCommand.{MCommand}
use Rattle.mupdate_codec.specs.declared.command.MCommand.TheVariants as command
use Rattle.mupdate_codec.specs.declared.command.MResponse.{MResponse}
use Rattle.mupdate_codec.specs.declared.command.MResponse.TheVariants as response
use Rattle.mupdate_codec.specs.declared.tag.Tag.{Tag}
use Rattle.mupdate_codec.proofs.StringsPrinted.{only_location, only_name, string_length}
use Rattle.mur_base.specs.declared.home.Location.{Location}
use Rattle.node_record.specs.declared.table.Record.{Record}
use Rattle.node_record.specs.declared.table.State.{State}
use Rattle.node_record.specs.declared.table.State.TheVariants.{Bare, Kept, Active}
use Rattle.node_record.specs.Table.{MailboxTable, Records, record_at}
use Rattle.feed_links.specs.Spelled.{IsSpelledRecord, HasSpelledAcl, CanBeTold}
use Rattle.feed_links.proofs.Names.{found_has}
use Rattle.name_links.specs.Answers.{answers_to}
use Rattle.name_links.specs.Lines.{backend_line}
use Rattle.name_links.specs.OneLink.{under}
use Rattle.name_links.specs.Spelled.{IsNameText, IsPlaceText, IsShort, TellsTexts}
use Rattle.name_links.proofs.OnWay.{all_append}
use Rattle.back_links.specs.Spelled.{IsTextTag, HasResponseTexts}
use Rattle.back_links.proofs.Texts.{decimal_short}

abbrev AreTold : List MResponse → Type 0
AreTold answers = AllByRecursion TellsTexts answers

done_short : IsShort done
done_short = omega arith

why_short : (why : Refusal) → IsShort (refusal_text why)
why_short refusal.Exists = omega arith
why_short refusal.Reserved = omega arith
why_short refusal.NotActive = omega arith
why_short refusal.NoSuchName = omega arith
why_short refusal.NotYours = omega arith
why_short refusal.Full = omega arith
why_short refusal.SerialsSpent = omega arith

number_short : (n : ℕ) → n < 2 ^ 64 → IsShort (decimal_text n)
number_short n h = omega (arith, decimal_short n h)

-- ---- lines of records

state_told : (name : List ℕ) (place : Location) (it : State) → IsNameText name → IsPlaceText place → HasSpelledAcl it → TellsTexts (line_in name place it)
state_told name place (Bare serial) named at acl = (named, at)
state_told name place (Kept list) named at acl = (named, at)
state_told name place (Active list) named at acl = (named, at, string_length acl.0 list acl.1)

record_told : (entry : List ℕ × Record) → IsSpelledRecord entry → TellsTexts (listed_line entry)
record_told entry spelled =
    let at = only_location (spelled.place).0 (entry.1).place (spelled.place).1 in
    state_told entry.0 (entry.1).place (entry.1).state (only_name (spelled.name).0 entry.0 (spelled.name).1) (at.server, at.partition) spelled.acl

records_told : (test : List ℕ × Record → Bool) (records : Records) → AllByRecursion IsSpelledRecord records → AreTold (map listed_line (filter test records))
records_told test [] all = tt
records_told test (entry ∷ records) all = by_test (test entry) (records_told test records all.1)
  where
    by_test : (passes : Bool) → AreTold (map listed_line (filter test records))
        → AreTold (map listed_line (cond passes (entry ∷ filter test records) (filter test records)))
    by_test true more = (record_told entry all.0, more)
    by_test false more = more

found_told : (table : MailboxTable) (name : List ℕ) (found : Option Record) → CanBeTold table → record_at table name ≡ found → AreTold (found_line name found)
found_told table name None can there = tt
found_told table name (Some it) can there = (record_told (name, it) (found_has IsSpelledRecord table.records name it can.spelled there), tt)

-- before the OK
then_done : (lines : List MResponse) → AreTold lines → AreTold (lines ++ response.Ok done ∷ [])
then_done lines all = all_append TellsTexts lines (response.Ok done ∷ []) all (done_short, tt)

-- ---- answers

module _ (table : MailboxTable) (can : CanBeTold table) (low : table.serial < 2 ^ 32) (b : Server) where
  reserve_told : (name : List ℕ) (place : Location) (why : Option Refusal) → AreTold (reserve_by table name place why).answers
  reserve_told name place (Some why) = (why_short why, tt)
  reserve_told name place None = (number_short (table.serial + 1) (omega (arith, low)), tt)

  activate_told : (name acl : List ℕ) (place : Location) (why : Option Refusal) → AreTold (activate_by (Backend b) name place acl why).answers
  activate_told name acl place (Some why) = (why_short why, tt)
  activate_told name acl place None = (done_short, tt)

  deactivate_told : (name : List ℕ) (place : Location) (why : Option Refusal) → AreTold (deactivate_by name place why).answers
  deactivate_told name place (Some why) = (why_short why, tt)
  deactivate_told name place None = (done_short, tt)

  delete_told : (name : List ℕ) (why : Option Refusal) → AreTold (delete_by name why).answers
  delete_told name (Some why) = (why_short why, tt)
  delete_told name None = (done_short, tt)

  pub answers_told : (tag : Tag) (it : MCommand) (line : OpenLine) → backend_line b tag it ≡ Some line → AreTold (answers_to table b it)
  unfolding reply_to reserve_reply activate_reply deactivate_reply delete_reply find_reply list_reply backend_line
  answers_told tag (command.Reserve name place) line e = reserve_told name place (reserve_refusal table (Backend b) (record_at table name) place)
  answers_told tag (command.Activate name place acl) line e = activate_told name acl place (activate_refusal table (Backend b) (record_at table name) place)
  answers_told tag (command.Deactivate name place) line e = deactivate_told name place (deactivate_refusal (Backend b) (record_at table name) place)
  answers_told tag (command.Delete name) line e = delete_told name (delete_refusal (Backend b) (record_at table name))
  answers_told tag (command.Find name) line e = then_done (found_line name (record_at table name)) (found_told table name (record_at table name) can refl)
  answers_told tag (command.List prefix) line e =
      then_done (map listed_line (filter (is_listed prefix) table.records)) (records_told (is_listed prefix) table.records can.spelled)
  answers_told tag command.Update line e = cc
  answers_told tag command.Noop line e = cc
  answers_told tag command.Logout line e = cc

pub under_spelled : (tag : Tag) (answers : List MResponse) → IsTextTag tag → AreTold answers → AllByRecursion HasResponseTexts (map (under tag) answers)
under_spelled tag [] tagged all = tt
under_spelled tag (it ∷ answers) tagged all = ((tagged, all.0), under_spelled tag answers tagged all.1)
