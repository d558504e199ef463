-- The lines of a table make its records (RFC 3656, 4.11), and can be written under any tag that an answer can have.
use Rattle.std.proofs.Common.{◌≡◌, ℕ, List, [], ◌∷◌, ◌++◌, map, refl, sym, ap, ◌∙◌, subst, arith}
use Rattle.std.specs.List.{flat_map, AllByRecursion}
use Rattle.std.specs.List.Sorted.{IsStrictlySortedBy}
use Rattle.std.specs.Map.{keys_of}
use Rattle.std.specs.Ordering.{nat_cmp}
use Rattle.std.specs.Cmp.Lexicographic.{slice_cmp}
use Rattle.std.proofs.lemmas.List.Concat.{flat_map-cons}
use Rattle.feed_core.specs.Feed.{fed}
use Rattle.feed_core.specs.RecLines.{rec_lines}
use Rattle.feed_core.proofs.LinesLaw.{lines_make}
use Rattle.master_core.specs.Records.{record_lines}
use Rattle.master_core.specs.Replies.{done}
use Rattle.master_core.proofs.UpdateLaw.{table_lines}
use Rattle.mupdate_codec.specs.declared.command.MResponse.{MResponse}
use Rattle.mupdate_codec.specs.declared.command.MResponse.TheVariants as response
use Rattle.mupdate_codec.specs.declared.tag.Tag.{Tag}
use Rattle.mupdate_codec.specs.Responses.{IsSpelledResponse}
use Rattle.mur_base.specs.declared.home.Location.{Location}
use Rattle.mur_base.specs.Map.{IsInOrder}
use Rattle.node_record.specs.declared.table.State.{State}
use Rattle.node_record.specs.declared.table.State.TheVariants.{Bare, Kept, Active}
use Rattle.node_record.specs.Table.{MailboxTable, Records}
use Rattle.feed_links.specs.Replicas.{rec_entry, recs_of}
use Rattle.feed_links.specs.Spelled.{IsSpelledRecord, CanBeTold}
use Rattle.feed_links.proofs.Arguments.{IsSpelledTag}
use Rattle.feed_links.proofs.Hearing.{text_spelled}
use Rattle.feed_links.proofs.Printed.{response_spelled}

state_lines : (name : List ℕ) (place : Location) (it : State)
    → record_lines (name, record { place = place; state = it }) ≡ rec_lines (rec_entry (name, record { place = place; state = it }))
state_lines name place (Bare serial) = refl
state_lines name place (Kept acl) = refl
state_lines name place (Active acl) = refl

same_lines : (entries : Records) → flat_map record_lines entries ≡ flat_map rec_lines (map rec_entry entries)
same_lines [] = refl
same_lines (entry ∷ entries) =
    flat_map-cons record_lines entry entries
    ∙ ap (λ l. l ++ flat_map record_lines entries) (state_lines entry.0 (entry.1).place (entry.1).state)
    ∙ ap (λ l. rec_lines (rec_entry entry) ++ l) (same_lines entries)
    ∙ sym (flat_map-cons rec_lines (rec_entry entry) (map rec_entry entries))

keys_alike : (P : List (List ℕ) → Type 0) (entries : Records) → P (keys_of entries) → P (keys_of (map rec_entry entries))
keys_alike P [] h = h
keys_alike P (entry ∷ entries) h = keys_alike (λ keys. P (entry.0 ∷ keys)) entries h

pub records_fed : (table : MailboxTable) → IsInOrder (slice_cmp nat_cmp) table.records → fed [] (flat_map record_lines table.records) ≡ recs_of table
records_fed table order =
    ap (fed []) (same_lines table.records) ∙ lines_make (recs_of table) (keys_alike (IsStrictlySortedBy (slice_cmp nat_cmp)) table.records order)

-- they can be written

abbrev pub AreWritten : Tag → List MResponse → Type 0
AreWritten tag lines = AllByRecursion (IsSpelledResponse tag) lines

module _ (tag : Tag) (tagged : IsSpelledTag tag) where
  both_written : (one two : List MResponse) → AreWritten tag one → AreWritten tag two → AreWritten tag (one ++ two)
  both_written [] two first second = second
  both_written (it ∷ one) two first second = (first.0, both_written one two first.1 second)

  state_written : (name : List ℕ) (place : Location) (it : State) → IsSpelledRecord (name, record { place = place; state = it })
      → AreWritten tag (record_lines (name, record { place = place; state = it }))
  state_written name place (Bare serial) has = (response_spelled tag (response.Reserve name place) tagged (has.name, has.place), tt)
  state_written name place (Kept acl) has = (
    response_spelled tag (response.Mailbox name place acl) tagged (has.name, has.place, has.acl),
    (response_spelled tag (response.Reserve name place) tagged (has.name, has.place), tt),
  )
  state_written name place (Active acl) has = (response_spelled tag (response.Mailbox name place acl) tagged (has.name, has.place, has.acl), tt)

  records_written : (records : Records) → AllByRecursion IsSpelledRecord records → AreWritten tag (flat_map record_lines records)
  records_written [] all = tt
  records_written (entry ∷ records) all =
      subst (AreWritten tag) (sym (flat_map-cons record_lines entry records))
      (both_written (record_lines entry) (flat_map record_lines records) (state_written entry.0 (entry.1).place (entry.1).state all.0) (records_written records all.1))

  pub table_written : (table : MailboxTable) → CanBeTold table → AreWritten tag (table_lines table)
  table_written table can =
      both_written (flat_map record_lines table.records) (response.Ok done ∷ []) (records_written table.records can.spelled)
      (response_spelled tag (response.Ok done) tagged (text_spelled done (omega arith)), tt)
