-- Each record of the master's table, and of a replica that follows it, names a backend, since a backend writes records for itself alone.
use Rattle.std.proofs.Common.{◌≡◌, ℕ, Bool, true, false, cond, is_some, if◌then◌else◌, List, [], ◌∷◌, ◌++◌, map, Option, None, Some, refl, sym, ◌∙◌, subst}
use Rattle.std.specs.declared.cmp.Ordering.{Ordering}
use Rattle.std.specs.declared.cmp.Ordering.TheVariants.{Less, Equal, Greater}
use Rattle.std.specs.List.{flat_map, AllByRecursion}
use Rattle.std.specs.Option.{IsSome}
use Rattle.std.specs.Ordering.{nat_cmp, is_eq, match_ordering}
use Rattle.std.specs.Cmp.Lexicographic.{slice_cmp}
use Rattle.std.proofs.lemmas.List.Concat.{flat_map-cons}
use Rattle.back_links.specs.OneTalk.{NamesOnly}
use Rattle.feed_core.specs.declared.rec.Rec.{Rec}
use Rattle.feed_core.specs.declared.rec.Rec.TheVariants.{Active as active_rec, Reserved as reserved_rec}
use Rattle.feed_core.specs.declared.replica.Replica.{Replica}
use Rattle.feed_core.specs.Feed.{Recs, rec_at, recs_after, replica_after, reserved, reserved_in}
use Rattle.feed_core.specs.Routes.{server_by, server_in}
use Rattle.feed_core.specs.Stream.{heard, heard_by, is_update_tag}
use Rattle.feed_links.specs.Replicas.{IsNoNews, AreNoNews, hears}
use Rattle.feed_links.proofs.Changes.{MakesChange, reserves, activates, deactivates, deletes}
use Rattle.feed_links.proofs.FeedLaw.{both}
use Rattle.feed_links.proofs.Hearing.{read_back}
use Rattle.feed_links.proofs.Messages.{told_line}
use Rattle.feed_links.proofs.Names.{found_has}
use Rattle.feed_links.proofs.TableLines.{AreWritten}
use Rattle.link_msg.specs.declared.message.LinkMsg.{LinkMsg}
use Rattle.many_links.specs.Murder.{Nodes}
use Rattle.master_core.specs.Changes.{change_line}
use Rattle.master_core.specs.Records.{record_lines}
use Rattle.master_core.specs.Replies.{done}
use Rattle.master_core.specs.Step.{table_with}
use Rattle.master_core.proofs.UpdateLaw.{table_lines}
use Rattle.mupdate_codec.specs.declared.command.MCommand.{MCommand}
use Rattle.mupdate_codec.specs.declared.command.MResponse.{MResponse}
use Rattle.mupdate_codec.specs.declared.command.MResponse.TheVariants as response
use Rattle.mupdate_codec.specs.declared.tag.Tag.{Tag}
use Rattle.mupdate_codec.specs.Responses.{IsSpelledResponse}
use Rattle.mur_base.specs.declared.home.Location.{Location}
use Rattle.mur_base.specs.Map.{with_entry, with_value, without_key}
use Rattle.node_record.specs.declared.master.MasterRecord.{MasterRecord}
use Rattle.node_record.specs.declared.table.Record.{Record}
use Rattle.node_record.specs.declared.table.State.{State}
use Rattle.node_record.specs.declared.table.State.TheVariants.{Bare, Kept, Active}
use Rattle.node_record.specs.Table.{MailboxTable, Records, moved, reserved_again, table_after}
use Rattle.cluster_core.proofs.Connections.KeepsLaw.{AreAtBackends, AreKeptAtBackends, NamesBackends, KnowsBackends, TableNamesBackends, TellsBackends}

-- ---- changes of a map, and what holds of each value

module _ {X : Type 0} (Q : X → Type 0) where
  abbrev AreAll : List (List ℕ × X) → Type 0
  AreAll entries = AllByRecursion (λ (e : List ℕ × X). Q e.1) entries

  module _ (k : List ℕ) (it : X) (new : Q it) where
    put_by : (e : List ℕ × X) (es : List (List ℕ × X)) → AreAll (e ∷ es) → AreAll (with_entry (slice_cmp nat_cmp) es k it)
        → (o : Ordering) → AreAll (match_ordering o ((k, it) ∷ e ∷ es) ((e.0, it) ∷ es) (e ∷ with_entry (slice_cmp nat_cmp) es k it))
    put_by e es all more Less = (new, all)
    put_by e es all more Equal = (new, all.1)
    put_by e es all more Greater = (all.0, more)

    pub put_all_at : (es : List (List ℕ × X)) → AreAll es → AreAll (with_entry (slice_cmp nat_cmp) es k it)
    put_all_at [] all = (new, tt)
    put_all_at (e ∷ es) all = put_by e es all (put_all_at es all.1) (slice_cmp nat_cmp k e.0)

    value_by : (e : List ℕ × X) (es rest : List (List ℕ × X)) (same : Bool) → AreAll (e ∷ es) → AreAll rest → AreAll (cond same ((e.0, it) ∷ es) (e ∷ rest))
    value_by e es rest true all more = (new, all.1)
    value_by e es rest false all more = (all.0, more)

    pub value_all_at : (es : List (List ℕ × X)) → AreAll es → AreAll (with_value (slice_cmp nat_cmp) es k it)
    value_all_at [] all = tt
    value_all_at (e ∷ es) all = value_by e es (with_value (slice_cmp nat_cmp) es k it) (is_eq (slice_cmp nat_cmp k e.0)) all (value_all_at es all.1)

  gone_by : (e : List ℕ × X) (es rest : List (List ℕ × X)) (same : Bool) → AreAll (e ∷ es) → AreAll rest → AreAll (cond same es (e ∷ rest))
  gone_by e es rest true all more = all.1
  gone_by e es rest false all more = (all.0, more)

  pub gone_all_at : (k : List ℕ) (es : List (List ℕ × X)) → AreAll es → AreAll (without_key (slice_cmp nat_cmp) es k)
  gone_all_at k [] all = tt
  gone_all_at k (e ∷ es) all = gone_by e es (without_key (slice_cmp nat_cmp) es k) (is_eq (slice_cmp nat_cmp k e.0)) all (gone_all_at k es all.1)

-- and of each in other words
all_so : {X : Type 0} (P Q : X → Type 0) (es : List (List ℕ × X)) → ((x : X) → P x → Q x) → AllByRecursion (λ (e : List ℕ × X). P e.1) es
    → AllByRecursion (λ (e : List ℕ × X). Q e.1) es
all_so P Q [] so all = tt
all_so P Q (e ∷ es) so all = (so e.1 all.0, all_so P Q es so all.1)

-- ---- a replica

-- the line names such a place, if it names one
abbrev pub LineNames : (Location → Type 0) → MResponse → Type 0
LineNames Q (response.Mailbox name place acl) = Q place
LineNames Q (response.Reserve name place) = Q place
LineNames Q it = Unit {0}

-- it names a backend, if it names a server
abbrev pub LineAt : Nodes → MResponse → Type 0
LineAt nodes it = LineNames (λ (place : Location). IsSome (nodes place.server)) it

module _ (nodes : Nodes) where
  abbrev RecAt : Rec → Type 0
  RecAt it = IsSome (nodes (server_in it))

  reserved_so : (recs : Recs) (name : List ℕ) (place : Location) (found : Option Rec) → IsSome (nodes place.server) → AreAtBackends nodes recs
      → AreAtBackends nodes (reserved_in recs name place found)
  reserved_so recs name place None at all = put_all_at RecAt name (reserved_rec place None) at recs all
  reserved_so recs name place (Some it) at all = value_all_at RecAt name (reserved place it) at recs all

  line_so : (recs : Recs) (it : MResponse) → LineAt nodes it → AreAtBackends nodes recs → AreAtBackends nodes (recs_after recs it)
  line_so recs (response.Mailbox name place acl) at all = put_all_at RecAt name (active_rec place acl) at recs all
  line_so recs (response.Reserve name place) at all = reserved_so recs name place (rec_at recs name) at all
  line_so recs (response.Delete name) at all = gone_all_at RecAt name recs all
  line_so recs (response.Ok text) at all = all
  line_so recs (response.No text) at all = all
  line_so recs (response.Bad text) at all = all

  heard_so : (replica : Replica) (it : MResponse) (same : Bool) → LineAt nodes it → AreAtBackends nodes replica.records
      → AreAtBackends nodes (if same then replica_after replica it else replica).records
  heard_so replica it true at all = line_so replica.records it at all
  heard_so replica it false at all = all

  -- a line that is read back as it was meant
  pub line_tells : (tag : Tag) (it : MResponse) → IsSpelledResponse tag it → LineAt nodes it → TellsBackends nodes (told_line tag it)
  unfolding heard heard_by
  line_tells tag it spelled at replica all =
      subst (λ found. AreAtBackends nodes (heard_by replica found).records) (sym (read_back tag it spelled)) (heard_so replica it (is_update_tag tag) at all)

  pub no_news_tells : (message : LinkMsg) → IsNoNews message → TellsBackends nodes message
  no_news_tells message none replica all = subst (λ (r : Replica). AreAtBackends nodes r.records) (sym (none replica)) all

  pub no_news_tell : (messages : List LinkMsg) → AreNoNews messages → AllByRecursion (TellsBackends nodes) messages
  no_news_tell [] none = tt
  no_news_tell (message ∷ messages) none = (no_news_tells message none.0, no_news_tell messages none.1)

  -- a record that is looked up
  found_by : (recs : Recs) (name server : List ℕ) (found : Option Rec) → rec_at recs name ≡ found → server_by found ≡ Some server → AreAtBackends nodes recs
      → IsSome (nodes server)
  found_by recs name server None at e all = cc
  found_by recs name server (Some it) at e all =
      (let is : server_in it ≡ server = cc in
      subst (λ s. IsSome (nodes s)) is (found_has (λ (entry : List ℕ × Rec). IsSome (nodes (server_in entry.1))) recs name it all at))

  pub each_names : (recs : Recs) → AreAtBackends nodes recs → NamesBackends nodes recs
  each_names recs all name server e = found_by recs name server (rec_at recs name) refl e all

  pub each_kept : (table : MailboxTable) → AreKeptAtBackends nodes table → TableNamesBackends nodes table
  each_kept table all name it at = found_has (λ (entry : List ℕ × Record). IsSome (nodes ((entry.1).place).server)) table.records name it all at

  -- ---- all lines of a table

  both_at : (one two : List MResponse) → AllByRecursion (LineAt nodes) one → AllByRecursion (LineAt nodes) two → AllByRecursion (LineAt nodes) (one ++ two)
  both_at [] two first second = second
  both_at (it ∷ one) two first second = (first.0, both_at one two first.1 second)

  record_at_backend : (name : List ℕ) (place : Location) (it : State) → IsSome (nodes place.server)
      → AllByRecursion (LineAt nodes) (record_lines (name, record { place = place; state = it }))
  record_at_backend name place (Bare serial) at = (at, tt)
  record_at_backend name place (Kept acl) at = (at, (at, tt))
  record_at_backend name place (Active acl) at = (at, tt)

  records_at : (records : Records) → AllByRecursion (λ (entry : List ℕ × Record). IsSome (nodes ((entry.1).place).server)) records
      → AllByRecursion (LineAt nodes) (flat_map record_lines records)
  records_at [] all = tt
  records_at (e ∷ records) all =
      subst (AllByRecursion (LineAt nodes)) (sym (flat_map-cons record_lines e records))
      (both_at (record_lines e) (flat_map record_lines records) (record_at_backend e.0 (e.1).place (e.1).state all.0) (records_at records all.1))

  pub table_lines_at : (table : MailboxTable) → AreKeptAtBackends nodes table → AllByRecursion (LineAt nodes) (table_lines table)
  table_lines_at table all = both_at (flat_map record_lines table.records) (response.Ok done ∷ []) (records_at table.records all) (tt, tt)

  pub lines_tell : (tag : Tag) (lines : List MResponse) → AreWritten tag lines → AllByRecursion (LineAt nodes) lines
      → AllByRecursion (TellsBackends nodes) (map (told_line tag) lines)
  lines_tell tag [] written at = tt
  lines_tell tag (it ∷ lines) written at = (line_tells tag it written.0 at.0, lines_tell tag lines written.1 at.1)

-- ---- the table, of whatever places

-- each record is at one
abbrev pub ArePlaced : (Location → Type 0) → MailboxTable → Type 0
ArePlaced Q table = AllByRecursion (λ (entry : List ℕ × Record). Q (entry.1).place) table.records

module _ (Q : Location → Type 0) where
  change_placed : (table : MailboxTable) (it : MCommand) (change : MasterRecord) → MakesChange table it change → LineNames Q (change_line change)
      → ArePlaced Q table → ArePlaced Q (table_after table change)
  change_placed table it change (reserves name place serial none) at all =
      put_all_at (λ (r : Record). Q r.place) name (record { place = place; state = Bare serial }) at table.records all
  change_placed table it change (activates name place acl) at all =
      put_all_at (λ (r : Record). Q r.place) name (record { place = place; state = Active acl }) at table.records all
  change_placed table it change (deactivates name place was there) at all =
      subst (λ found. AllByRecursion (λ (e : List ℕ × Record). Q (e.1).place) (reserved_again table.records name place found)) (sym there)
      (value_all_at (λ (r : Record). Q r.place) name (moved place was) at table.records all)
  change_placed table it change (deletes name) at all = gone_all_at (λ (r : Record). Q r.place) name table.records all

  -- a backend writes records for itself alone
  pub own_change : (me : Location) (table : MailboxTable) (it : MCommand) (change : MasterRecord) → MakesChange table it change → NamesOnly me it → Q me
      → LineNames Q (change_line change)
  own_change me table it change (reserves name place serial none) own at = subst Q (sym own) at
  own_change me table it change (activates name place acl) own at = subst Q (sym own) at
  own_change me table it change (deactivates name place was there) own at = subst Q (sym own) at
  own_change me table it change (deletes name) own at = tt

  pub made_placed : (table : MailboxTable) (it : MCommand) (made : Option MasterRecord)
      → ((change : MasterRecord) → made ≡ Some change → MakesChange table it change)
      → ((change : MasterRecord) → made ≡ Some change → LineNames Q (change_line change)) → ArePlaced Q table → ArePlaced Q (table_with table made)
  made_placed table it None makes at all = all
  made_placed table it (Some change) makes at all = change_placed table it change (makes change refl) (at change refl) all

-- ---- where there are the same backends, all are at backends still

abbrev pub SameBackends : Nodes → Nodes → Type 0
SameBackends nodes next = (server : List ℕ) → is_some (next server) ≡ is_some (nodes server)

recs_still : (nodes next : Nodes) (recs : Recs) → SameBackends nodes next → AreAtBackends nodes recs → AreAtBackends next recs
recs_still nodes next recs same all =
    all_so (λ (it : Rec). IsSome (nodes (server_in it))) (λ (it : Rec). IsSome (next (server_in it))) recs (λ it is. same (server_in it) ∙ is) all

recs_again : (nodes next : Nodes) (recs : Recs) → SameBackends nodes next → AreAtBackends next recs → AreAtBackends nodes recs
recs_again nodes next recs same all =
    all_so (λ (it : Rec). IsSome (next (server_in it))) (λ (it : Rec). IsSome (nodes (server_in it))) recs (λ it is. sym (same (server_in it)) ∙ is) all

pub kept_still : (nodes next : Nodes) (table : MailboxTable) → SameBackends nodes next → AreKeptAtBackends nodes table → AreKeptAtBackends next table
kept_still nodes next table same all =
    all_so (λ (it : Record). IsSome (nodes (it.place).server)) (λ (it : Record). IsSome (next (it.place).server)) table.records
    (λ it is. same (it.place).server ∙ is) all

tells_still : (nodes next : Nodes) (messages : List LinkMsg) → SameBackends nodes next → AllByRecursion (TellsBackends nodes) messages
    → AllByRecursion (TellsBackends next) messages
tells_still nodes next [] same all = tt
tells_still nodes next (message ∷ messages) same all = (
  λ replica at. recs_still nodes next (hears replica message).records same (all.0 replica (recs_again nodes next replica.records same at)),
  tells_still nodes next messages same all.1,
)

pub knows_still : (nodes next : Nodes) (down : List LinkMsg) (replica : Replica) → SameBackends nodes next → KnowsBackends nodes down replica
    → KnowsBackends next down replica
knows_still nodes next down replica same knows = record {
  has = λ name server e. same server ∙ knows.has name server e;
  each = recs_still nodes next replica.records same knows.each;
  told = tells_still nodes next down same knows.told;
}

-- its first message is taken
pub knows_heard : (nodes : Nodes) (message : LinkMsg) (down : List LinkMsg) (replica : Replica) → KnowsBackends nodes (message ∷ down) replica
    → KnowsBackends nodes down (hears replica message)
knows_heard nodes message down replica knows =
    let each : AreAtBackends nodes (hears replica message).records = knows.told.0 replica knows.each in
    record { has = each_names nodes (hears replica message).records each; each = each; told = knows.told.1 }

-- more is sent to it
pub knows_more : (nodes : Nodes) (down more : List LinkMsg) (replica : Replica) → KnowsBackends nodes down replica → AllByRecursion (TellsBackends nodes) more
    → KnowsBackends nodes (down ++ more) replica
knows_more nodes down more replica knows told =
    record { has = knows.has; each = knows.each; told = both (TellsBackends nodes) down more knows.told told }
